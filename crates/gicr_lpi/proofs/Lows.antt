-- The tables of a redistributor that some history leaves stand below 2^52, whoever programs them.
use Rattle.std.proofs.Common.{◌≡◌, ℕ, ◌+◌, ◌-◌, ◌^◌, ◌<◌, ◌≤◌, Bool, true, false, nat_lt, nat_le, List, [], ◌∷◌, map, length, Option, Some, None, subst}
use Rattle.std.proofs.Common.{arith, inl, inr}
use Rattle.std.proofs.Math.Nat.{pow-le-pow_right}
use Rattle.std.proofs.lemmas.Bool.{and_parts, or_cases, leb-true}
use Rattle.std.proofs.lemmas.Option.{same_Some}
use Rattle.std.specs.List.{list_all}
use Rattle.std.specs.Option.{option_map}
use Rattle.std.specs.Prelude.{slice_get}
use Rattle.gicr_regs.specs.Registers.{AreLow, AreKept}
use Rattle.guest_windows.specs.Windows.{Window, extent, in_range, are_windows, has, inside}
use Rattle.guest_windows.proofs.Laws.{Fits, has-fits}
use Rattle.its_types.specs.Ranges.{lpi_count, pending_bytes}
use Rattle.its_types.specs.declared.ids.Vcpu.{Vcpu}
use Rattle.its_types.specs.declared.machine.Part.TheVariants as part
use Rattle.its_plain.specs.History.{after}
use Rattle.its_plain.specs.Plain.{Plain, Redistributor, ConfState, conf_of}
use Rattle.its_plain.specs.Sound.{IsSound, IsRedistributor}
use Rattle.its_steps.specs.Contents.{Conf}
use Rattle.its_steps.specs.Parts.{Setup}
use Rattle.its_turns.specs.Told.{HasStood}

window_is_low : (w : Window) (a n : ℕ) → in_range (extent w) ≡ true → has w a n ≡ true → a + n ≤ 2 ^ 52
window_is_low w a n range inner =
    let fits : Fits w a n = has-fits w a n inner in
    let ends = leb-true (w.base + length w.bytes) (2 ^ 52) (and_parts (nat_lt 0 (length w.bytes)) (nat_le (w.base + length w.bytes) (2 ^ 52)) range).1 in
    omega (arith, fits.below, ends)

stretch_is_low : (ws : List Window) (a n : ℕ) → list_all in_range (map extent ws) ≡ true → inside ws a n ≡ true → a + n ≤ 2 ^ 52
stretch_is_low [] a n range inner = absurd cc
stretch_is_low (w ∷ ws) a n range inner =
    let parts = and_parts (in_range (extent w)) (list_all in_range (map extent ws)) range in
    elim (or_cases (has w a n) (inside ws a n) inner) [ inl here ↦ window_is_low w a n parts.0 here | inr there ↦ stretch_is_low ws a n parts.1 there ]

ranges : (ws : List Window) → are_windows (map extent ws) ≡ true → list_all in_range (map extent ws) ≡ true
ranges ws e =
    let p = and_parts _ _ e in
    (and_parts _ _ p.0).1

-- a table of some bytes that is inside begins below
table_is_low : (ws : List Window) (a n : ℕ) → are_windows (map extent ws) ≡ true → 0 < n → inside ws a n ≡ true → a < 2 ^ 52
table_is_low ws a n windows some inner = let end = stretch_is_low ws a n (ranges ws windows) inner in omega (arith, end, some)

some_lpis : (lpi_bits : ℕ) → 14 ≤ lpi_bits → 0 < lpi_count lpi_bits
some_lpis lpi_bits low = let some : 2 ^ 14 ≤ 2 ^ lpi_bits = pow-le-pow_right (omega arith) low in omega (arith, some)

some_bytes : (lpi_bits : ℕ) → 14 ≤ lpi_bits → 0 < pending_bytes lpi_bits
some_bytes lpi_bits low =
    let least : 0 ≤ lpi_bits - 3 = omega arith in
    let some : 2 ^ 0 ≤ 2 ^ (lpi_bits - 3) = pow-le-pow_right (omega arith) least in omega (arith, some)

-- a redistributor whose configuration is this
has_some : (o : Option Redistributor) (c : ConfState) → option_map conf_of o ≡ Some c → (r : Redistributor) × (o ≡ Some r) × (conf_of r ≡ c)
has_some None c e = absurd cc
has_some (Some r) c e = (r, (λ d. Some r), same_Some (conf_of r) c e)

low_of : (u : Plain) (vcpu : ℕ) (r : Redistributor) → IsSound u → IsRedistributor u.layout u.memory vcpu r → (b : Bool) → u.layout.gicr ≡ b → AreLow r.bases
low_of u vcpu r sound is true gicr = let k : AreKept r.bases = is.kept gicr in record { prop = k.prop_low; pend = k.pend_low }
low_of u vcpu r sound is false gicr =
    let tables = is.tables (is.always_on gicr) in let bits = u.layout.shape.lpi_bits in let least = sound.layout.shape.least_lpi_bits in
    record {
      prop = table_is_low u.memory r.bases.prop.table.0 (lpi_count bits) sound.memory (some_lpis bits least) tables.config;
      pend = table_is_low u.memory r.bases.pend.table.0 (pending_bytes bits) sound.memory (some_bytes bits least) tables.pending;
    }

pub low_bases : (s : Setup) (vcpu : Vcpu) (c : ConfState) → HasStood s (part.Conf vcpu) (Conf c) → AreLow c.bases
low_bases s vcpu c stood =
    let u : Plain = after s.start stood.history in
    let r = has_some (slice_get u.redistributors vcpu.0) c stood.right in
    subst (λ (x : ConfState). AreLow x.bases) r.2
    (low_of u vcpu.0 r.0 stood.machine.sound (stood.machine.sound.redistributors vcpu.0 r.0 r.1) u.layout.gicr (λ d. u.layout.gicr))
