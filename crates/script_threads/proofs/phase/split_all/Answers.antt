use Rattle.std.proofs.Common.{rules, arith, ◌≡◌, ℕ, ◌+◌, ◌<◌, ◌++◌, ◌∷◌, [], List, None, length, length-append, get_or, drop, refl, subst, sym, ap, ◌∙◌}
use Rattle.its_plain.specs.Runs.{Thread}
use Rattle.its_steps.specs.World.{View}
use Rattle.its_turns.specs.Machines.{view}
use Rattle.script_threads.specs.Asks.{MayAskAll}
use Rattle.script_threads.specs.Jobs.{IsReady, HasRoom}
use Rattle.script_threads.specs.declared.job.Job.{Job}
use Rattle.script_threads.proofs.Rooms.{Made, made_more, room_next}
use Rattle.script_threads.proofs.Runs.{all_at}
use Rattle.script_threads.proofs.phase.split_all.Goals as goal

pub loop-done-preserved : goal.loop-done-preserved
loop-done-preserved c =
    let m = c.args.machine.now in let ts = c.args.threads.now in
    let w = c.loop-done.invariant in let js = c.loop-done.jobs.items in let s = c.split-pass.ensures.views in
    let j : Job = record { pass = c.split-pass.result; calls = c.thread_at-calls.result; done = c.in-Some.done; stop = None } in
    let one = c.thread_at-calls.result.now in
    let pushed : c.push.new.self.items ≡ js ++ j ∷ [] = search rules in
    let below : length js < length ts = omega (arith, w.5, c.in-Some.ensures.steps.1) in
    let at : one ≡ get_or ts (length js) one = search rules in
    let next = room_next ts (length js) one c.loop-done.done-iterator.rest.items c.next.new.self.rest.items c.in-Some.done w.4 c.in-Some.ensures.steps.0 at
    below in
    let more : length c.push.new.self.items ≡ length js + 1 = omega (arith, ap length pushed, length-append js (j ∷ [])) in
    let ready : IsReady m j = record {
      of = c.split-pass.ensures.of.1;
      free = ap (λ (z : View). z.held) s.4;
      may = subst (MayAskAll m) (sym at) (all_at (MayAskAll m) ts (length js) one c.requires.may below);
      empty = next.0;
      room = next.1;
    } in (
      tt,
      tt,
      c.split-pass.ensures.of.0,
      subst (λ (z : List Job). Made m ts (view c.args.root.now) z (view c.split-pass.new.self)) (sym pushed)
          (made_more m ts (view c.args.root.now) (view c.loop-done.root) s.0 (view c.split-pass.new.self) s.1 js j one w.3 c.requires.root s.2 s.3 s.4 ready
          refl at below),
      subst (λ (n : ℕ). HasRoom (drop n ts) c.next.new.self.rest.items) (sym more) next.2,
      omega (arith, more, w.5, c.in-Some.ensures.steps.1),
      omega (arith, w.6, c.push.ensures.capacity),
    )
