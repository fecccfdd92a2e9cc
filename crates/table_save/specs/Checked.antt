-- What the tests before a save find.
use Rattle.std.specs.Prelude.{◌≡◌, ℕ, Option, Some, None, Result, Ok, Err, List, find}
use Rattle.std.specs.FinMap.{entries}
use Rattle.guest_windows.specs.Windows.{Window}
use Rattle.guest_windows.specs.Drafts.{Laid, laid}
use Rattle.its_types.specs.declared.translation.Device.{Device}
use Rattle.its_plain.specs.Plain.{Plain}
use Rattle.its_plain.specs.Regions.{savable, has_no_place}
use Rattle.owned_parts.specs.declared.in_place.TranslatorRef.{TranslatorRef}
use Rattle.its_plain.specs.Saved.{saved}
use Rattle.its_plain.specs.declared.area.Area.{Area}
use Rattle.its_plain.specs.declared.fault.SaveFault.{SaveFault}
use Rattle.its_plain.specs.declared.fault.SaveFault.TheVariants.{Outside, NoPlace, Overlap}
use Rattle.its_plain.specs.declared.fault.SaveError.{SaveError}
use Rattle.its_plain.specs.declared.fault.SaveError.TheVariants as errors

-- the first area that isn't in one window
abbrev pub outside_fault : Option Area → Result (Unit {0}) SaveFault
outside_fault None = Ok tt
outside_fault (Some area) = Err (Outside area.region)

-- the first device of a translator without a place
abbrev pub unplaced_fault : ℕ → Option (ℕ × Device) → Result (Unit {0}) SaveFault
unplaced_fault its None = Ok tt
unplaced_fault its (Some d) = Err (NoPlace its (record { 0 = d.0 }))

-- that of the second translator, if there is one
abbrev pub second_unplaced : List Window → Option TranslatorRef → Result (Unit {0}) SaveFault
second_unplaced memory None = Ok tt
second_unplaced memory (Some t) = unplaced_fault 1 (find (has_no_place t.regs.now memory) (entries t.maps.now.maps.devices))

-- the first area that clashes with one
abbrev pub clash_fault : Area → Option Area → Result (Unit {0}) SaveFault
clash_fault one None = Ok tt
clash_fault one (Some other) = Err (Overlap one.region other.region)

-- what was answered, unless memory of the host ran out
abbrev pub Answers : Result (Unit {0}) SaveError → Result (Unit {0}) SaveFault → Type 0
Answers (Ok done) tested = tested ≡ Ok tt
Answers (Err (errors.Fault f)) tested = tested ≡ Err f
Answers (Err errors.NoMemory) tested = Unit {0}

-- memory with these pages laid over it has all written, where the state can be saved
abbrev pub Saves : Plain → Result (List Laid) SaveError → Type 0
Saves u (Ok pages) = (savable u ≡ Ok tt) × (laid pages u.memory ≡ saved u)
Saves u (Err (errors.Fault f)) = savable u ≡ Err f
Saves u (Err errors.NoMemory) = Unit {0}

-- memory once all is written, or as it was
abbrev pub Leaves : Result (Unit {0}) SaveError → List Window → List Window → List Window → Type 0
Leaves (Ok done) old new saved = new ≡ saved
Leaves (Err e) old new saved = new ≡ old
