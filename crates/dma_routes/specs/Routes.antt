-- Requesters whose devices have 32 bits.
use Rattle.std.specs.Prelude.{◌≡◌, ℕ, ◌+◌, ◌-◌, ◌^◌, ◌<◌, List, Ok}
use Rattle.std.specs.List.{AllByRecursion}
use Rattle.its_plain.specs.Machine.{made}
use Rattle.its_plain.specs.Plain.{Plain}
use Rattle.its_plain.specs.declared.desc.Desc.{Desc}
use Rattle.its_plain.specs.declared.desc.Requesters.{Requesters}

-- each of them is a device whose number has 32 bits
abbrev pub AreDevices : List Requesters → Type 0
AreDevices ranges = AllByRecursion (λ r. r.dev.0 + (r.last - r.first) < 2 ^ 32) ranges

-- so it is of a description that makes a machine
abbrev pub MadeHasDevices : Type 0
MadeHasDevices = (d : Desc) (u : Plain) → made d ≡ Ok u → AreDevices d.requesters
