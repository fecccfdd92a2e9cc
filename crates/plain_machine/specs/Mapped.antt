-- What a mapped device keeps, so that a saved table has an entry for it.
use Rattle.std.specs.Prelude.{◌≡◌, ◌≤◌, ◌<◌, ◌%◌, ◌^◌}
use Rattle.its_types.specs.declared.translation.Device.{Device}

-- the entry of a saved table can hold the device
pub record HasTable (d : Device) : Type 0 where
  pub least_bits : 1 ≤ d.bits
  pub most_bits : d.bits ≤ 16
  pub itt_whole : d.itt.0 % 256 ≡ 0
  pub itt_low : d.itt.0 < 2 ^ 52
