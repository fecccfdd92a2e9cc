-- What a device's place and a command's fields say.
use Rattle.std.proofs.Common.{◌≡◌, ℕ, ◌+◌, ◌*◌, ◌/◌, ◌^◌, ◌<◌, ◌≤◌, min, Bool, true, false, cond, is_some, nat_lt, List, Option, Some, None, refl, sym, ap}
use Rattle.std.proofs.Common.{subst, ◌∙◌, arith, pow_pos}
use Rattle.std.proofs.lemmas.Nat.{mod_below}
use Rattle.std.proofs.lemmas.Bool.{ltb-true, cond-false}
use Rattle.guest_windows.specs.Windows.{Window}
use Rattle.gits_regs.specs.Registers.{Registers, is_valid, is_indirect, collection_places, pages}
use Rattle.baser_place.specs.Places.{device_place, flat_place, flat_places, paged_place, ensure, ◌>>=◌}
use Rattle.its_types.specs.Bits.{field}
use Rattle.its_types.specs.Ranges.{is_device_id}
use Rattle.its_command.specs.Commands.{decoded, IsCommand, IsWithinBits, IsEventIdBits, IsIttAddr, doubleword, dw, device_of, event_of, intid_of, icid_of}
use Rattle.its_command.specs.Commands.{target_of, second_target_of, opcode_of, event_id_bits_of, itt_of}
use Rattle.its_command.proofs.Meaning.{is_decoded}
use Rattle.its_command.specs.declared.command.Command.{Command}
use Rattle.its_command.specs.declared.command.Command.TheVariants.{Movi, Int, Clear, Sync, Mapd, Mapc, Mapti, Mapi, Inv, Invall, Movall, Discard, Unknown}

-- ---- device tables

test_held : {A : Type 0} (test : Bool) (f : Unit {0} → Option A) → is_some (ensure test >>= f) ≡ true → (test ≡ true) × (is_some (f tt) ≡ true)
test_held true f e = (refl, e)
test_held false f e = absurd cc

found_first : {A B : Type 0} (o : Option A) (f : A → Option B) → is_some (o >>= f) ≡ true → is_some o ≡ true
found_first None f e = absurd cc
found_first (Some x) f e = refl

-- where a device has a place
pub record HasPlace (r : Registers) (dev : ℕ) : Type 0 where
  pub table : is_valid r.baser0 ≡ true
  pub in_range : is_device_id r.dev_bits dev ≡ true
  pub in_table : is_indirect r.baser0 ≡ false → dev < flat_places r

in_flat_table : (r : Registers) (dev : ℕ) → is_some (flat_place r dev) ≡ true → dev < flat_places r
unfolding flat_place
in_flat_table r dev e = ltb-true dev (flat_places r) (test_held (nat_lt dev (flat_places r)) _ e).0

pub has_place : (r : Registers) (memory : List Window) (dev : ℕ) → is_some (device_place r memory dev) ≡ true → HasPlace r dev
unfolding device_place
has_place r memory dev e =
    let valid = test_held (is_valid r.baser0) _ e in
    let ranged = test_held (is_device_id r.dev_bits dev) _ valid.1 in
    let place : Option ℕ = cond (is_indirect r.baser0) (paged_place r memory dev) (flat_place r dev) in
    let some : is_some place ≡ true = found_first place _ ranged.1 in
    record {
      table = valid.0;
      in_range = ranged.0;
      in_table = λ flat. in_flat_table r dev (ap is_some (sym (cond-false (is_indirect r.baser0) (paged_place r memory dev) (flat_place r dev) flat)) ∙ some);
    }

-- ---- collection tables

few_places : (pages : ℕ) → 8192 * min pages 8 ≤ 65536
few_places pages = omega arith

-- a collection that has a place is numbered in 16 bits
pub small_icid : (r : Registers) (icid : ℕ) → icid < collection_places r → icid < 65536
small_icid r icid lt = omega (arith, lt, few_places (pages r.baser1))

-- ---- fields of commands

below : (n low width : ℕ) → field n low width < 2 ^ width
below n low width = mod_below (n / 2 ^ low) (2 ^ width) (pow_pos width)

device_fits : (b : List ℕ) → device_of b < 2 ^ 32
device_fits b = below (doubleword b 0) 32 32

event_fits : (b : List ℕ) → event_of b < 2 ^ 32
event_fits b = below (doubleword b 1) 0 32

intid_fits : (b : List ℕ) → intid_of b < 2 ^ 32
intid_fits b = below (doubleword b 1) 32 32

icid_fits : (b : List ℕ) → icid_of b < 2 ^ 16
icid_fits b = below (doubleword b 2) 0 16

target_fits : (b : List ℕ) → target_of b < 2 ^ 36
target_fits b = below (doubleword b 2) 16 36

second_target_fits : (b : List ℕ) → second_target_of b < 2 ^ 36
second_target_fits b = below (doubleword b 3) 16 36

opcode_fits : (b : List ℕ) → opcode_of b < 2 ^ 8
opcode_fits b = below (doubleword b 0) 0 8

few_bits : (n : ℕ) → n < 2 ^ 5 → IsEventIdBits (n + 1)
few_bits n lt = (omega arith, omega (arith, lt))

bits_fit : (b : List ℕ) → IsEventIdBits (event_id_bits_of b)
bits_fit b = few_bits (dw b 1 4 0) (below (doubleword b 1) 0 5)

whole_address : (n : ℕ) → n < 2 ^ 44 → IsIttAddr (n * 2 ^ 8)
whole_address n lt = (omega arith, omega (arith, lt))

itt_fits : (b : List ℕ) → IsIttAddr (itt_of b)
itt_fits b = whole_address (dw b 2 51 8) (below (doubleword b 2) 8 44)

-- what is equal to a number of so many bits has so many
fits : (width : ℕ) {m n : ℕ} → m ≡ n → m < 2 ^ width → n < 2 ^ width
fits width e lt = subst (λ k. k < 2 ^ width) e lt

fields_fit : (b : List ℕ) (c : Command) → IsCommand b c → IsWithinBits c
fields_fit b (Movi dev ev icid) h = (fits 32 h.1 (device_fits b), fits 32 h.2 (event_fits b), fits 16 h.3 (icid_fits b))
fields_fit b (Int dev ev) h = (fits 32 h.1 (device_fits b), fits 32 h.2 (event_fits b))
fields_fit b (Clear dev ev) h = (fits 32 h.1 (device_fits b), fits 32 h.2 (event_fits b))
fields_fit b (Sync target) h = fits 36 h.1 (target_fits b)
fields_fit b (Mapd dev bits itt valid) h = (fits 32 h.1 (device_fits b), subst IsEventIdBits h.2 (bits_fit b), subst IsIttAddr h.3 (itt_fits b))
fields_fit b (Mapc icid target valid) h = (fits 16 h.1 (icid_fits b), fits 36 h.2 (target_fits b))
fields_fit b (Mapti dev ev intid icid) h = (fits 32 h.1 (device_fits b), fits 32 h.2 (event_fits b), fits 32 h.3 (intid_fits b), fits 16 h.4 (icid_fits b))
fields_fit b (Mapi dev ev icid) h = (fits 32 h.1 (device_fits b), fits 32 h.2 (event_fits b), fits 16 h.3 (icid_fits b))
fields_fit b (Inv dev ev) h = (fits 32 h.1 (device_fits b), fits 32 h.2 (event_fits b))
fields_fit b (Invall icid) h = fits 16 h.1 (icid_fits b)
fields_fit b (Movall from to) h = (fits 36 h.1 (target_fits b), fits 36 h.2 (second_target_fits b))
fields_fit b (Discard dev ev) h = (fits 32 h.1 (device_fits b), fits 32 h.2 (event_fits b))
fields_fit b (Unknown opcode) h = (fits 8 h.0 (opcode_fits b), h.1)

-- every field of a decoded command is within its bits
pub decoded_fits : (b : List ℕ) → IsWithinBits (decoded b)
decoded_fits b = fields_fit b (decoded b) (is_decoded b)
