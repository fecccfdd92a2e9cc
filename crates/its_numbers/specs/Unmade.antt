-- What is told where no machine was made.
use Rattle.std.specs.Prelude.{◌≡◌, ◌≢◌, ◌≤◌, ℕ}
use Rattle.its_plain.specs.Described.{IsRefused}
use Rattle.its_plain.specs.declared.desc.Desc.{Desc}
use Rattle.its_plain.specs.declared.desc.DescFault.{DescFault}
use Rattle.its_numbers.specs.Codes as codes
use Rattle.its_numbers.specs.Faults.{make_fault_out}
use Rattle.its_numbers.specs.declared.faults.MakeFaultOut.{MakeFaultOut}

-- what each answer says when none was made
pub record IsUnmade (code : ℕ) (d : Desc) (before after : MakeFaultOut) : Type 0 where
  pub fault : code ≡ codes.fault → (f : DescFault) × IsRefused d f × (after ≡ make_fault_out f)
  pub same : code ≢ codes.fault → after ≡ before
  pub known : code ≤ codes.handle
  pub not_outside : code ≢ codes.outside
