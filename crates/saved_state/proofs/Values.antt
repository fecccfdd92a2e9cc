-- The values that sound registers read mask to the registers.
use Rattle.std.proofs.Common.{◌≡◌, ℕ, ◌*◌, ◌/◌, ◌^◌, ◌<◌, true, false, cond, suc, List, [], ◌∷◌, map, Some, refl, sym, ap, ◌∙◌, arith}
use Rattle.std.specs.Prelude.{slice_get}
use Rattle.std.proofs.lemmas.Nat.Bits.{and_high_mask}
use Rattle.its_types.specs.Bits.{bit_of}
use Rattle.gits_regs.specs.Registers.{Registers, IsOffset, ctlr, kept_offset, masked, read_32, read_64}
use Rattle.gits_regs.specs.Registers as regs
use Rattle.its_plain.specs.Plain.{Translator}
use Rattle.saved_state.specs.Laws.{values_read, reads_of, ReadValuesMask, SavedReadsStand}
use Rattle.saved_state.proofs.Whole.{saved_stands}

enabled_is : (r : Registers) → bit_of (ctlr r) 0 ≡ r.enabled
enabled_is r = elim r.enabled as (λ b. bit_of (cond b 1 0x80000000) 0 ≡ b) [ true ↦ refl | false ↦ refl ]

-- an offset into the queue is a multiple of 32 below 2 ^ 20
offset_is : (r : Registers) (offset : ℕ) → IsOffset r offset → kept_offset offset ≡ offset
offset_is r offset h =
    let inside = h.inside in let whole = h.whole in
    let low : offset < 2 ^ 20 = omega arith in
    let back : offset / 2 ^ 5 * 2 ^ 5 ≡ offset = omega arith in
    and_high_mask 20 5 (omega arith) offset low ∙ back

pub read_values_mask : ReadValuesMask
unfolding values_read read_32 read_64
read_values_mask r h i = record {
  dev_bits = r.dev_bits;
  enabled = enabled_is r i;
  cbaser = h.cbaser i;
  creadr = offset_is r r.creadr h.creadr i;
  cwriter = offset_is r r.cwriter h.cwriter i;
  baser0 = h.baser0 i;
  baser1 = h.baser1 i;
}

-- of each translator
each_masks : (n : ℕ) (ts : List Translator) → ((i : ℕ) (t : Translator) → slice_get ts i ≡ Some t → (t.regs.dev_bits ≡ n) × regs.IsSound t.regs)
    → map (λ v. masked v n) (map (λ t. values_read t.regs) ts) ≡ map (λ t. t.regs) ts
each_masks n [] h = refl
each_masks n (t ∷ ts) h =
    let own = h 0 t refl in
    let here : masked (values_read t.regs) n ≡ t.regs = ap (masked (values_read t.regs)) (sym own.0) ∙ read_values_mask t.regs own.1 in
    ap (λ (r : Registers). r ∷ map (λ v. masked v n) (map (λ t. values_read t.regs) ts)) here
    ∙ ap (λ (rs : List Registers). t.regs ∷ rs) (each_masks n ts (λ i s at. h (suc i) s at))

pub reads_stand : SavedReadsStand
reads_stand u sound savable =
    saved_stands u (reads_of u) sound savable
    (each_masks u.layout.shape.dev_bits u.translators (λ i t at. let own = sound.translators i t at in (own.dev_bits, own.regs)))
