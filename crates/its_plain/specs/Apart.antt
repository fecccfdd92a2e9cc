-- Ranges of requesters of which no two have a number in common.
use Rattle.std.specs.Prelude.{◌≡◌, ℕ, ◌<◌, false, List, length, take, slice_index_or}
use Rattle.std.specs.List.{list_any}
use Rattle.its_plain.specs.Machine.{meet}
use Rattle.its_plain.specs.declared.desc.Requesters.{Requesters}

-- none meets one before it
abbrev pub AreApart : List Requesters → Type 0
AreApart ranges = (n : ℕ) (d : Requesters) → n < length ranges → list_any (meet (slice_index_or ranges n d)) (take n ranges) ≡ false
