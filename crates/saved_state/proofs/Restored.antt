-- A restore of what was saved gives that state and no other, and has no offence.
use Rattle.std.proofs.Common.{map, Some}
use Rattle.its_plain.specs.Saved.{saved, moved}
use Rattle.standing_states.proofs.Once.{stands_once}
use Rattle.standing_states.proofs.Offences.{stands_without}
use Rattle.saved_state.specs.Laws.{reads_of, bases_of, OnlyThatStands, NoOffenceIsFirst}
use Rattle.saved_state.proofs.Values.{reads_stand}

pub only_that : OnlyThatStands
only_that u w sound savable stands =
    stands_once (saved u) (map Some (reads_of u)) u.layout (bases_of u) w (moved u) stands (reads_stand u sound savable)

pub no_offence : NoOffenceIsFirst
no_offence u i f sound savable offence =
    stands_without (saved u) (map Some (reads_of u)) u.layout (bases_of u) (moved u) i f (reads_stand u sound savable) offence
