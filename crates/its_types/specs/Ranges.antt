-- The ranges of identifiers (IHI 0069, sections 5.1 and 5.2), for the numbers of bits that a translator implements.
use Rattle.std.specs.Prelude.{ℕ, ◌^◌, ◌-◌, Bool, ◌&&◌, nat_lt, nat_le}

-- LPIs begin at this INTID
abbrev pub first_lpi : ℕ
first_lpi = 8192

-- how many virtual processors a machine has at most
abbrev pub most_vcpus : ℕ
most_vcpus = 512

abbrev pub is_device_id : ℕ → ℕ → Bool
is_device_id dev_bits id = nat_lt id (2 ^ dev_bits)

abbrev pub is_lpi : ℕ → ℕ → Bool
is_lpi lpi_bits intid = nat_le 8192 intid && nat_lt intid (2 ^ lpi_bits)

-- how many LPIs there are, which is how many bytes a configuration table has
abbrev pub lpi_count : ℕ → ℕ
lpi_count lpi_bits = 2 ^ lpi_bits - 8192

-- how many bytes a pending table has
abbrev pub pending_bytes : ℕ → ℕ
pending_bytes lpi_bits = 2 ^ (lpi_bits - 3)
