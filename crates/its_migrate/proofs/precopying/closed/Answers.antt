use Rattle.std.proofs.Common.{List, None, sym, subst}
use Rattle.its_plain.specs.History.{after}
use Rattle.its_plain.specs.declared.call.Entry.{Entry}
use Rattle.its_steps.specs.Parts.{Setup, IsOfMachine}
use Rattle.its_turns.specs.Machines.{setup, view}
use Rattle.its_turns.specs.Told.{IsLone}
use Rattle.its_migrate.specs.Precopying.{AreLeft, with_track}
use Rattle.its_migrate.proofs.Left.{parts_left}
use Rattle.its_migrate.proofs.precopying.closed.Goals as goal

pub close-parts-requires-clause-lone : goal.close-parts-requires-clause-lone
close-parts-requires-clause-lone c = subst IsLone (sym c.look.ensures.looks.same) c.requires.lone

pub returns : goal.returns
returns c =
    let s = setup c.args.machine in
    let w = view c.look.new.pass in
    let looks = c.look.ensures.looks in
    let machine : IsOfMachine s (after s.start w.seen) = subst (λ (x : Setup). IsOfMachine x (after x.start w.seen)) c.requires.of.1 looks.machine in
    subst (λ (h : List Entry). AreLeft (after s.start h) (with_track None c.close-parts.result)) (looks.still c.requires.lone)
    (parts_left s (after s.start w.seen) machine c.close-parts.result c.close-parts.ensures)
