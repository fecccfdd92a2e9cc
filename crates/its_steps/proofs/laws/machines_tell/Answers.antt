use Rattle.its_steps.proofs.First.{slots_long}
use Rattle.its_steps.proofs.Found.{found_at}
use Rattle.its_steps.proofs.Indexes.{index_below, index_injective}
use Rattle.its_steps.proofs.Machines.{of_machine}
use Rattle.its_steps.proofs.Stamps.{one_has, are_apart}
use Rattle.its_steps.proofs.laws.machines_tell.Goals as goal

pub returns : goal.returns
returns c = record {
  histories = of_machine;
  below = index_below;
  apart = index_injective;
  slots = slots_long;
  found = found_at;
  one = one_has;
  stamps = are_apart;
}
