-- The fields of table entries (KVM document arm-vgic-its, ITS table ABI revision 0), as numbers.
use Rattle.std.specs.Prelude.{ℕ}

-- a device table entry: the distance to the next one, the address of the interrupt translation table, and the number of EventID bits
pub record DeviceFields : Type 0 where
  pub next : ℕ
  pub itt : ℕ
  pub bits : ℕ

-- a collection table entry: the number of the processor that it goes to, and the collection's
pub record CollectionFields : Type 0 where
  pub vcpu_number : ℕ
  pub icid : ℕ

-- an interrupt translation entry: the distance to the next one, the physical interrupt, and its collection
pub record EventFields : Type 0 where
  pub next : ℕ
  pub intid : ℕ
  pub icid : ℕ
