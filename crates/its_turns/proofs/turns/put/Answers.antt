use Rattle.std.proofs.Common.{arith, ℕ, ◌+◌, ◌*◌, ◌∷◌, List, ap, ◌∙◌}
use Rattle.atomic_table.specs.Table.{rest}
use Rattle.its_steps.specs.World.{View}
use Rattle.its_turns.specs.Contents.{emptied}
use Rattle.its_turns.specs.Machines.{setup}
use Rattle.its_turns.specs.declared.value.Value.{Value}
use Rattle.its_turns.proofs.Trying.{allows_release}
use Rattle.its_turns.proofs.turns.put.Goals as goal

pub store-requires : goal.store-requires
store-requires c = let m = c.args.machine.now in let p = c.args.pass.now in let now = c.exchange-stood.ensures.3 in let seat = c.exchange-stood.new.seat in let o =
    c.requires.owed in let at = c.index-at.result in (
      c.exchange-stood.ensures.0 ∙ c.requires.of.0,
      omega (arith, m.sized.0, m.sized.1, c.index-at.ensures.slot),
      allows_release (setup m) m.table.shared.table_id.slots seat.id seat.me (ap (λ (m : View × List (ℕ × Value)). m.0.standing) now ∙ p.live) c.args.part
          c.requires.stands (16 * (at + 1)) o.content c.args.value o.before
          (emptied p.seat.me.0.setup o.before) (omega (arith, c.index-at.ensures.index)) o.content_is c.requires.fit
          (ap (λ (m : View × List (ℕ × Value)). m.0.held) now ∙ o.last)
          (ap (λ (m : View × List (ℕ × Value)). m.1) now
          ∙ (ap (λ (l : List (ℕ × Value)). (8 * at, c.args.value) ∷ rest l) (p.empty ∙ ap (emptied p.seat.me.0.setup) o.last)
          ∙ ap (λ (k : ℕ). (let l : List (ℕ × Value) = (8 * k, c.args.value) ∷ emptied p.seat.me.0.setup o.before in l)) c.index-at.ensures.index)),
    )
