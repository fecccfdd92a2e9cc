-- The outcome of saves and of migrations.
use Rattle.std.specs.Prelude.{◌≡◌, ◌≢◌, ◌≤◌, ℕ, Ok, Err}
use Rattle.its_plain.specs.Plain.{Plain}
use Rattle.its_plain.specs.Regions.{savable}
use Rattle.its_plain.specs.Answer.{save_left}
use Rattle.its_plain.specs.Saved.{moved}
use Rattle.its_plain.specs.declared.fault.SaveFault.{SaveFault}
use Rattle.its_numbers.specs.Codes as codes
use Rattle.its_numbers.specs.Faults.{save_fault_out}
use Rattle.its_numbers.specs.declared.faults.SaveFaultOut.{SaveFaultOut}

-- the state can be saved, and memory has the tables
abbrev pub IsSaved : Plain → Plain → Type 0
IsSaved u w = (savable u ≡ Ok tt) × (w ≡ save_left u (Ok tt))

-- the state can be saved, and the machine went on from what was saved
abbrev pub IsMoved : Plain → Plain → Type 0
IsMoved u w = (savable u ≡ Ok tt) × (w ≡ moved u)

-- what each answer says: the machine is as it was but where it was done, and what is told is as it was but for a fault, which is
-- the state's
pub record IsUnsaved (code : ℕ) (u w : Plain) (before after : SaveFaultOut) : Type 0 where
  pub same : code ≢ codes.done → w ≡ u
  pub untold : code ≢ codes.fault → after ≡ before
  pub fault : code ≡ codes.fault → (f : SaveFault) × (savable u ≡ Err f) × (after ≡ save_fault_out f)
  pub known : code ≤ codes.full
  pub not_outside : code ≢ codes.outside
  pub not_range : code ≢ codes.range
  pub not_handle : code ≢ codes.handle
