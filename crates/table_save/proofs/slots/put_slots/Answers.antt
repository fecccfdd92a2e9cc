use Rattle.std.proofs.Common.{◌+◌, ◌-◌, ◌≤◌, sym, subst, arith}
use Rattle.std.specs.Prelude.{IfSome}
use Rattle.table_save.proofs.PlaceWords.{slot_fits, rest_later}
use Rattle.table_save.proofs.slots.put_slots.Goals as goal

pub word_of-word-requires-clause-some : goal.word_of-word-requires-clause-some
word_of-word-requires-clause-some c = slot_fits c.args.id (c.loop-i.i - 1) c.args.slots.now c.in-Some.event c.requires.fit c.in-Some.is

pub word_of-word-requires-clause-later : goal.word_of-word-requires-clause-later
word_of-word-requires-clause-later c =
    let i = c.loop-i.i in
    subst (λ o. IfSome o (λ n. c.args.id + (i - 1) ≤ n)) (sym c.loop-i.invariant.first)
    (rest_later c.args.id (i - 1) i c.args.slots.now c.args.after (omega arith) c.loop-i.auto.i c.requires.after)
