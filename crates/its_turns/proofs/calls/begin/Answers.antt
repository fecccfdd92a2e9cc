use Rattle.std.proofs.Common.{arith, subst}
use Rattle.its_steps.specs.Good.{IsWithin}
use Rattle.its_steps.specs.Parts.{Setup}
use Rattle.its_turns.specs.Machines.{setup}
use Rattle.its_turns.proofs.calls.begin.Goals as goal

pub returns-else-word-place_last-clause-word : goal.returns-else-word-place_last-clause-word
returns-else-word-place_last-clause-word c = let m = c.args.machine.now in let w = c.look-word.result in let looks = c.look-word.ensures.looks in
    let within : IsWithin (setup m) w = subst (λ (s : Setup). IsWithin s w) c.requires.1 looks.within in
    let place = within.place in (looks, omega (arith, place, c.if-word-place_last.false, c.place_last.ensures), within.stamps)
