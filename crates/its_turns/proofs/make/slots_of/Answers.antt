use Rattle.its_turns.proofs.make.slots_of.Goals as goal

pub returns : goal.returns
returns c = (c.in_ok-values.values.items, c.in_ok-values.ensures, c.in_ok-slots.ensures)
