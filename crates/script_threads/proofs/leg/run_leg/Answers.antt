use Rattle.std.proofs.Common.{rules, arith, ◌≡◌, ◌+◌, ◌≤◌, ◌++◌, true, false, List, Option, Some, None, length, get_or, refl, sym, ap, ◌∙◌, true≢false}
use Rattle.std.specs.Option.{is_some}
use Rattle.its_types.specs.declared.machine.Placed.{Placed}
use Rattle.its_plain.specs.Runs.{Phase}
use Rattle.its_plain.specs.declared.call.Reply.{Reply}
use Rattle.its_history.specs.Merged.{all_lines}
use Rattle.its_turns.specs.Machines.{setup, view}
use Rattle.script_threads.specs.Legs.{phase_lines}
use Rattle.script_threads.specs.declared.stop.Stop.{Stop}
use Rattle.script_threads.proofs.Runs.{all_at}
use Rattle.script_threads.proofs.Lines.{threads_most, length_replies}
use Rattle.script_threads.proofs.Legs.{going_more, cut_short, went_through}
use Rattle.script_threads.proofs.leg.run_leg.Goals as goal

no_stop : (o : Option Stop) → is_some o ≡ false → o ≡ None
no_stop None e = refl
no_stop (Some x) e = absurd (true≢false e)

some_stop : (o : Option Stop) → is_some o ≡ true → o ≡ None → ⊥
some_stop o e none = true≢false (sym e ∙ ap is_some none)

pub run_phase-requires-clause-few : goal.run_phase-requires-clause-few
run_phase-requires-clause-few g c κs within =
    let k = c.loop-threads.threads-index in let ps = c.args.phases.now in let one = c.threads-item.result in
    let most : length (get_or ps k one) ≤ 64 = all_at (λ (t : Phase). length t ≤ 64) ps k one c.requires.threads c.loop-threads-test.true in
    let here : length c.as_slice-threads.result.now ≡ length (get_or ps k one) = ap (λ (t : Phase). length t)
    (c.as_slice-threads.ensures ∙ c.threads-item.is) in
    omega (arith, most, here, c.loop-threads.invariant.1.made, threads_most k ps c.requires.threads, c.loop-threads-test.true, c.requires.phases)

pub add_lists-requires-clause-len : goal.add_lists-requires-clause-len
add_lists-requires-clause-len g c =
    let p = c.in_ok-end.ensures.phase in
    let v = view c.loop-threads.root in
    let len : length c.in_ok-end.end.lists.items ≡ length c.as_slice-threads.result.now =
    ap (λ (z : List (List (Placed Reply))). length z) p.lists_are ∙ length_replies v.root.made (length c.as_slice-threads.result.now) (length v.seen) p.more in
    c.in_ok-end.end.lists.ok.0 ∙ len

pub returns-then-is_some-clause-leg : goal.returns-then-is_some-clause-leg
returns-then-is_some-clause-leg g c =
    let k = c.loop-threads.threads-index in let ps = c.args.phases.now in let one = c.threads-item.result in let stop = c.in_ok-end.end.stop in
    let s = setup c.args.machine.now in let v = view c.loop-threads.root in let w = view c.run_phase.new.root in
    let ts = c.as_slice-threads.result.now in let lists = c.loop-threads.lists.items in let more = c.add_lists.new.all.items in
    let replies = c.in_ok-end.end.lists.items in
    let at : ts ≡ get_or ps k ts = search rules in
    let added : all_lines more ≡ all_lines lists ++ phase_lines (k + 1) 1 ts replies = search rules in
    cut_short s ps k ts c.loop-threads-test.true at v w lists more c.loop-threads.invariant.1 replies stop c.in_ok-end.ensures.phase added
    c.in_ok-add_lists.ensures.memory (some_stop stop (search rules))

pub loop-threads-preserved : goal.loop-threads-preserved
loop-threads-preserved g c =
    let k = c.loop-threads.threads-index in let ps = c.args.phases.now in let one = c.threads-item.result in let stop = c.in_ok-end.end.stop in
    let s = setup c.args.machine.now in let v = view c.loop-threads.root in let w = view c.run_phase.new.root in
    let ts = c.as_slice-threads.result.now in let lists = c.loop-threads.lists.items in let more = c.add_lists.new.all.items in
    let replies = c.in_ok-end.end.lists.items in
    let at : ts ≡ get_or ps k ts = search rules in
    let added : all_lines more ≡ all_lines lists ++ phase_lines (k + 1) 1 ts replies = search rules in (
      c.run_phase.ensures.of,
      going_more s ps k ts c.loop-threads-test.true at v w lists more c.loop-threads.invariant.1 replies stop c.in_ok-end.ensures.phase added
          c.in_ok-add_lists.ensures.memory (no_stop stop (search rules)),
      omega (arith, c.loop-threads.invariant.2),
    )

pub returns-clause-leg : goal.returns-clause-leg
returns-clause-leg g c =
    went_through (setup c.args.machine.now) c.args.phases.now c.loop-threads.threads-index c.loop-threads.lists.items
    (view c.loop-threads.root) c.loop-threads.invariant.1 (omega (arith, c.loop-threads-test.false))
