-- The stamps of translators in a word, as it is packed.
use Rattle.std.proofs.Common.{◌≡◌, ◌≢◌, ℕ, ◌+◌, ◌*◌, ◌/◌, ◌%◌, ◌^◌, ◌<◌, ◌≤◌, Bool, ap, sym, ◌∙◌, subst, arith, inl, inr, lt-ltb, le-ltb}
use Rattle.std.proofs.lemmas.Bool.{cases_lt}
use Rattle.std.specs.Prelude.{if◌then◌else◌}
use mathlib.Core.Logic.{dite}
use native.Mathlib.Decide.{ℕ_discrete}
use Rattle.its_types.specs.declared.machine.Word.{Word}
use Rattle.its_steps.specs.Parts.{Setup, HasStamps, translator_count, stamp_at, stamp_with, stamp_of}
use Rattle.its_steps.proofs.Stamps.{of_one, with_one, are_apart}
use Rattle.its_plain.specs.declared.desc.Desc.{Desc}
use Rattle.its_types.specs.declared.machine.Limits.{Limits}
use Rattle.its_turns.specs.Machines.{setup, AreWithin}
use Rattle.its_turns.specs.Words.{HaveRoom, IsRoomFor, packing_of}
use Rattle.its_turns.specs.declared.word.Packing.{Packing}
use Rattle.its_turns.specs.declared.word.Packing.TheVariants.{Place40, Place56}
use Rattle.its_turns.specs.declared.machine.Machine.{Machine}

first_of_two : (n stamp : ℕ) → n ≡ 2 → stamp_at n stamp 0 ≡ stamp / 4096
unfolding stamp_at
first_of_two n stamp e = ap (λ (k : ℕ). stamp_at k stamp 0) e

second_of_two : (n stamp : ℕ) → n ≡ 2 → stamp_at n stamp 1 ≡ stamp % 4096
unfolding stamp_at
second_of_two n stamp e = ap (λ (k : ℕ). stamp_at k stamp 1) e

first_with_two : (n stamp new : ℕ) → n ≡ 2 → stamp_with n stamp 0 new ≡ new * 4096 + stamp % 4096
unfolding stamp_with
first_with_two n stamp new e = ap (λ (k : ℕ). stamp_with k stamp 0 new) e

second_with_two : (n stamp new : ℕ) → n ≡ 2 → stamp_with n stamp 1 new ≡ stamp / 4096 * 4096 + new
unfolding stamp_with
second_with_two n stamp new e = ap (λ (k : ℕ). stamp_with k stamp 1 new) e

-- those of a machine have room
pub has_stamps : (m : Machine) → HasStamps (setup m)
has_stamps m = dite (ℕ_discrete (translator_count (setup m)) 2)
    (λ two. inr (two, subst (λ (d : Desc). d.limits.stamp_last < 4096) m.described (m.paired.2 (m.ordered.0 ∙ two))))
    (λ other. inl (omega (arith, m.ordered.0, m.paired.0, m.paired.1, other)))

-- there are one or two translators
pub some_count : (s : Setup) → HasStamps s → (1 ≤ translator_count s) × (translator_count s ≤ 2)
some_count s (inl one) = (omega (arith, one), omega (arith, one))
some_count s (inr two) = (omega (arith, two.0), omega (arith, two.0))

-- those of two have 12 bits each
pub low_stamps : (s : Setup) → HasStamps s → translator_count s ≡ 2 → s.limits.stamp_last < 4096
low_stamps s (inl one) two = absurd (omega (arith, one, two))
low_stamps s (inr both) two = both.1

-- a machine's last stamp and last place have room, and its word is packed so
pub room_of : (m : Machine) → HaveRoom (setup m).limits (translator_count (setup m))
room_of m = subst (λ (x : Limits × ℕ). HaveRoom x.0 x.1) (λ d. ((m.described d).limits, sym m.laid.0 d)) m.room

pub packed_by : (m : Machine) → m.packing ≡ packing_of (setup m).limits
packed_by m = m.packed ∙ ap (λ (d : Desc). packing_of d.limits) m.described

-- the shards of all translators
pub few_shards : (s : Setup) → HasStamps s → s.shards ≤ 64 → translator_count s * s.shards ≤ 128
few_shards s (inl one) most = let e : translator_count s * s.shards ≡ 1 * s.shards = ap (λ (n : ℕ). n * s.shards) one in omega (arith, e, most)
few_shards s (inr two) most = let e : translator_count s * s.shards ≡ 2 * s.shards = ap (λ (n : ℕ). n * s.shards) two.0 in omega (arith, e, most)

-- the stamp of one translator is the word's
stamp_of_one : (s : Setup) (w : Word) → translator_count s ≡ 1 → AreWithin s w → w.stamp ≤ s.limits.stamp_last
stamp_of_one s w one within =
    let e : stamp_of s w 0 ≡ w.stamp = of_one (translator_count s) w.stamp 0 one in
    let le : stamp_of s w 0 ≤ s.limits.stamp_last = within 0 (omega (arith, one)) in
    omega (arith, e, le)

-- stamps that are all within have 24 bits
low_stamp : (s : Setup) (w : Word) → HasStamps s → s.limits.stamp_last < 2 ^ 24 → AreWithin s w → w.stamp < 2 ^ 24
low_stamp s w (inl one) most within = let le = stamp_of_one s w one within in omega (arith, le, most)
low_stamp s w (inr two) most within =
    let e : stamp_of s w 0 ≡ w.stamp / 4096 = first_of_two (translator_count s) w.stamp two.0 in
    let le : stamp_of s w 0 ≤ s.limits.stamp_last = within 0 (omega (arith, two.0)) in
    omega (arith, e, le, two.1)

packed_40 : (l : Limits) → l.place_last < 2 ^ 40 → packing_of l ≡ Place40
packed_40 l low = ap (λ (b : Bool). if b then Place40 else Place56) (lt-ltb l.place_last (2 ^ 40) low)

packed_56 : (l : Limits) → 2 ^ 40 ≤ l.place_last → packing_of l ≡ Place56
packed_56 l high = ap (λ (b : Bool). if b then Place40 else Place56) (le-ltb l.place_last (2 ^ 40) high)

-- a word whose stamps are all within, and its place, has room for them
pub has_room : (s : Setup) (w : Word) → HasStamps s → HaveRoom s.limits (translator_count s) → AreWithin s w → w.place ≤ s.limits.place_last
    → IsRoomFor (packing_of s.limits) w
has_room s w has room within place =
    elim (cases_lt s.limits.place_last (2 ^ 40)) [
      | inl low ↦ subst (λ (p : Packing). IsRoomFor p w) (sym (packed_40 s.limits low)) (low_stamp s w has room.stamps within, omega (arith, place, low))
      | inr long ↦
          let le = stamp_of_one s w (room.alone long) within in
          let few = room.few_stamps long in
          let most = room.places in
          subst (λ (p : Packing). IsRoomFor p w) (sym (packed_56 s.limits long)) (omega (arith, le, few), omega (arith, place, most))
    ]

-- where a translator gets another stamp that may be, all are within still
pub within_with : (s : Setup) (w : Word) (its stamp place : ℕ) → HasStamps s → its < translator_count s → stamp ≤ s.limits.stamp_last → AreWithin s w
    → AreWithin s (record { stamp = stamp_with (translator_count s) w.stamp its stamp; place = place })
within_with s w its stamp place has lt most within j lj =
    let apart = are_apart s w.stamp its stamp has lt most in
    dite (ℕ_discrete j its)
    (λ same. let own : stamp_at (translator_count s) (stamp_with (translator_count s) w.stamp its stamp) j ≡ stamp =
    ap (stamp_at (translator_count s) (stamp_with (translator_count s) w.stamp its stamp)) same ∙ apart.0 in omega (arith, own, most))
    (λ other. let old = apart.1 j lj other in let le : stamp_of s w j ≤ s.limits.stamp_last = within j lj in omega (arith, old, le))

-- ---- as the machine finds them

pub finds_first : (s : Setup) (w : Word) (shift its : ℕ) → HasStamps s → shift + 12 ≡ 12 * translator_count s → its ≡ 0 → w.stamp / 2 ^ shift ≡ stamp_of s w its
finds_first s w shift its (inl one) at e =
    let none : shift ≡ 0 = omega (arith, at, one) in
    ap (λ (n : ℕ). w.stamp / 2 ^ n) none ∙ (omega arith ∙ sym (of_one (translator_count s) w.stamp its one))
finds_first s w shift its (inr two) at e =
    let up : shift ≡ 12 = omega (arith, at, two.0) in
    ap (λ (n : ℕ). w.stamp / 2 ^ n) up ∙ (sym (first_of_two (translator_count s) w.stamp two.0) ∙ ap (stamp_at (translator_count s) w.stamp) (sym e))

-- a number that is not the first's is the second's
pub second_is : (s : Setup) (its : ℕ) → HasStamps s → its < translator_count s → its ≢ 0 → (translator_count s ≡ 2) × (its ≡ 1)
second_is s its (inl one) lt ne = absurd (ne (omega (arith, lt, one)))
second_is s its (inr two) lt ne = (two.0, omega (arith, lt, two.0, ne))

pub finds_second : (s : Setup) (w : Word) (its : ℕ) → HasStamps s → its < translator_count s → its ≢ 0 → w.stamp % 4096 ≡ stamp_of s w its
finds_second s w its has lt ne =
    let z = second_is s its has lt ne in
    sym (second_of_two (translator_count s) w.stamp z.0) ∙ ap (stamp_at (translator_count s) w.stamp) (sym z.1)

-- a stamp of one of two has 12 bits
pub low_of_two : (s : Setup) (stamp : ℕ) → HasStamps s → translator_count s ≢ 1 → stamp ≤ s.limits.stamp_last → (translator_count s ≡ 2) × (stamp < 4096)
low_of_two s stamp (inl one) ne most = absurd (ne one)
low_of_two s stamp (inr two) ne most = (two.0, omega (arith, two.1, most))

pub with_alone : (s : Setup) (stamp its new : ℕ) → translator_count s ≡ 1 → new ≡ stamp_with (translator_count s) stamp its new
with_alone s stamp its new one = sym (with_one (translator_count s) stamp its new one)

pub with_first : (s : Setup) (stamp its new : ℕ) → translator_count s ≡ 2 → its ≡ 0 → new * 4096 + stamp % 4096 ≡ stamp_with (translator_count s) stamp its new
with_first s stamp its new two e =
    sym (first_with_two (translator_count s) stamp new two) ∙ ap (λ (j : ℕ). stamp_with (translator_count s) stamp j new) (sym e)

pub with_second : (s : Setup) (stamp its new : ℕ) → translator_count s ≡ 2 → its ≡ 1 → stamp / 4096 * 4096 + new ≡ stamp_with (translator_count s) stamp its new
with_second s stamp its new two e =
    sym (second_with_two (translator_count s) stamp new two) ∙ ap (λ (j : ℕ). stamp_with (translator_count s) stamp j new) (sym e)
