use Rattle.standing_states.proofs.Offences.{first_fault_once, stands_without}
use Rattle.standing_states.proofs.laws.offences_are_decided.Goals as goal

pub returns : goal.returns
returns c = record { one = first_fault_once; apart = stands_without }
