use Rattle.std.proofs.Common.{arith, ◌≡◌, suc, ◌+◌, ◌++◌, ◌∷◌, [], List, take, take-suc, subst, sym, ap, ◌∙◌}
use Rattle.its_plain.specs.Runs.{Thread}
use Rattle.script_threads.specs.Jobs.{HasRoom}
use Rattle.script_threads.proofs.Rooms.{Replies, room_snoc}
use Rattle.script_threads.proofs.phase.room_for.Goals as goal

pub loop-calls-preserved : goal.loop-calls-preserved
loop-calls-preserved c =
    let k = c.loop-calls.calls-index in let ts = c.args.threads.now in let one = c.calls-item.result in
    let more : suc k ≡ k + 1 = omega arith in
    let taken : take k ts ++ one ∷ [] ≡ take (k + 1) ts = (λ i. take k ts ++ c.calls-item.is i ∷ [])
    ∙ (sym (take-suc ts k one c.loop-calls-test.true) ∙ ap (λ n. take n ts) more) in (
      omega (arith, c.in_ok-push.ensures.len, c.loop-calls.invariant.0),
      subst (λ (z : List Thread × List Replies). HasRoom z.0 z.1) (λ i. (taken i, sym c.in_ok-push.ensures.items i))
          (room_snoc (take k ts) c.loop-calls.lists.items one c.in_ok-with_capacity.field-0 c.loop-calls.invariant.1 c.in_ok-with_capacity.ensures.items
          (omega (arith, c.in_ok-with_capacity.ensures.capacity, c.len.ensures))),
    )
