use Rattle.std.proofs.Common.{rules, arith, ◌≡◌, ◌⊎◌, ◌+◌, ◌++◌, ◌∷◌, [], List, length, get_or, drop, ◌<◌, Any, refl, sym, subst}
use Rattle.std.proofs.lemmas.Grind.{common_steps}
use Rattle.its_history.specs.declared.threads.ThreadList.{ThreadList}
use Rattle.script_threads.specs.Legs.{StopsAtMemory}
use Rattle.script_threads.specs.Phases.{IsCutAtMemory, SomeThread}
use Rattle.script_threads.proofs.Cuts.{stops_more}
use Rattle.script_threads.proofs.leg.add_lists.Goals as goal

pub loop-replies-preserved : goal.loop-replies-preserved
loop-replies-preserved c =
    let k = c.loop-replies.thread in let ts = c.args.threads.now in let one = c.thread_at-calls.result.now in
    let all = c.loop-replies.all.items in let rest = c.loop-replies.replies-iterator.rest.items in let later = c.next.new.self.rest.items in
    let l : ThreadList = record { phase = c.args.phase; thread = k + 1; calls = c.thread_at-calls.result; replies = c.in-Some.replies } in
    let pushed : c.push.new.self.items ≡ all ++ l ∷ [] = search rules in
    let at : one ≡ get_or ts k one = search rules in
    let below : k < length ts = search rules in (
      tt,
      tt,
      grind (arith, common_steps),
      search rules,
      λ t. subst (λ (z : List ThreadList). Any StopsAtMemory z ⊎ SomeThread IsCutAtMemory (drop (k + 1) ts) later) (sym pushed)
          (stops_more all l ts k one rest later below at refl c.in-Some.ensures.steps.0 (c.loop-replies.invariant.4 t)),
    )
