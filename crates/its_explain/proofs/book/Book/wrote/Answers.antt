use Rattle.std.proofs.Common.{Bool, ◌∙◌, ap, arith, if◌then◌else◌, Some}
use Rattle.std.specs.Cmp.{unsigned_tied}
use Rattle.its_explain.specs.Book.{changer, writer, slot_of}
use Rattle.its_explain.proofs.Steps.{one_slot_more}
use Rattle.its_explain.proofs.book.Book.wrote.Goals as goal

pub loop-slot-preserved : goal.loop-slot-preserved
unfolding changer writer
loop-slot-preserved c =
    let old = c.loop-slot.invariant in
    record {
      changers = old.changers;
      writers = λ a.
          one_slot_more (slot_of c.args.addr) c.loop-slot.slot (slot_of a) (Some c.args.line) (writer c.args.self.now a) (writer c.loop-slot.self a) _ old.low (old.writers a)
          (c.in_ok-insert.ensures.updates.0 (slot_of a)
          ∙ ap (λ (b : Bool). if b then Some c.args.line else writer c.loop-slot.self a) (unsigned_tied c.loop-slot.slot (slot_of a)));
      low = omega arith;
      high = omega arith;
      end = old.end;
    }
