-- Stretches that are listed table after table.
use Rattle.std.proofs.Common.{◌≡◌, ℕ, suc, ◌+◌, ◌*◌, ◌^◌, ◌<◌, ◌≤◌, true, false, cond, not, List, [], ◌∷◌, ◌++◌, drop, sym, ap}
use Rattle.std.proofs.Common.{◌∙◌, add-one}
use Rattle.std.proofs.Common.{append-nil, append_assoc}
use Rattle.std.proofs.lemmas.List.{map-append}
use Rattle.std.specs.List.{flat_map}
use Rattle.guest_windows.specs.Fields.{pairs}
use Rattle.guest_windows.specs.Windows.{Window}
use Rattle.gits_regs.specs.Registers.{is_valid, is_indirect, table_base}
use Rattle.baser_place.specs.Places.{level1_entries, level1_of, page_of}
use Rattle.its_types.specs.Maps.{Maps}
use Rattle.its_types.specs.declared.ids.Addr.{Addr}
use Rattle.its_types.specs.declared.machine.Shape.{Shape}
use Rattle.its_types.specs.declared.translation.Device.{Device}
use Rattle.its_plain.specs.Plain.{Translator, Redistributor}
use Rattle.its_plain.specs.Regions.{device_pages}
use Rattle.its_plain.specs.Saved.{Words, device_words, pages_words, page_words, pending_words, device_word}
use Rattle.lpi_config.specs.Conf.{Conf}
use Rattle.lpi_pending.specs.InHand.{RedistParts, redistributor_of}
use Rattle.lpi_pending.specs.Pend.{Pend}
use Rattle.owned_parts.specs.Places.{AreInHandAt}
use Rattle.owned_parts.proofs.Places.{drop_to_place, none_left}
use Rattle.table_save.specs.Areas.{redistributors_of}
use Rattle.table_save.specs.Stretches.{stretch_of, stretches_of}
use Rattle.table_save.specs.Tables.{itt_tables}

-- one stretch more
pub one_listed : (list now : List (Addr × ℕ)) (a : Addr) (n : ℕ) → now ≡ list ++ (a, n) ∷ [] → pairs now ≡ pairs list ++ (a.0, n) ∷ []
one_listed list now a n is = ap pairs is ∙ map-append (λ (w : Addr × ℕ). (w.0.0, w.1)) list ((a, n) ∷ [])

-- tables after tables
pub both_listed : (first before now : List (ℕ × ℕ)) (ts us : List Words) → before ≡ first ++ stretches_of ts → now ≡ before ++ stretches_of us
    → now ≡ first ++ stretches_of (ts ++ us)
both_listed first before now ts us so_far more =
    more ∙ ap (λ (xs : List (ℕ × ℕ)). xs ++ stretches_of us) so_far ∙ append_assoc first (stretches_of ts) (stretches_of us)
    ∙ ap (λ (xs : List (ℕ × ℕ)). first ++ xs) (sym (map-append stretch_of ts us))

pub all_listed : (first one two three : List (ℕ × ℕ)) (ts us ps : List Words) → one ≡ first ++ stretches_of ts → two ≡ one ++ stretches_of us
    → three ≡ two ++ stretches_of ps → three ≡ first ++ stretches_of ((ts ++ us) ++ ps)
all_listed first one two three ts us ps a b c = both_listed first two three (ts ++ us) ps (both_listed first one two ts us a b) c

-- all of them, after none
pub listed_first : (list : List (Addr × ℕ)) (now : List (ℕ × ℕ)) (ts us : List Words) → list ≡ [] → now ≡ pairs list ++ stretches_of ts → ts ≡ us
    → now ≡ stretches_of us
listed_first list now ts us none is same = is ∙ ap (λ (xs : List (Addr × ℕ)). pairs xs ++ stretches_of ts) none ∙ ap stretches_of same

-- one page more
pub page_listed : (t : Translator) (memory : List Window) (k : ℕ) (first before now : List (ℕ × ℕ)) → before ≡ first ++ stretches_of (pages_words t memory k)
    → now ≡ before ++ stretches_of (page_words t.maps k (page_of (level1_of t.regs memory k))) → now ≡ first ++ stretches_of (pages_words t memory (k + 1))
page_listed t memory k first before now so_far more =
    rw add-one (both_listed first before now (pages_words t memory k) (page_words t.maps k (page_of (level1_of t.regs memory k))) so_far more)

-- one interrupt translation table more
pub itt_listed : (m : Maps) (before now whole : List (ℕ × ℕ)) (it next : List (ℕ × Device)) (d : ℕ × Device) → it ≡ d ∷ next
    → now ≡ before ++ (d.1.itt.0, 8 * 2 ^ d.1.bits) ∷ [] → before ++ stretches_of (itt_tables m it) ≡ whole → now ++ stretches_of (itt_tables m next) ≡ whole
itt_listed m before now whole it next d steps more so_far =
    let rest : List (ℕ × ℕ) = stretches_of (itt_tables m next) in
    let here : ℕ × ℕ = (d.1.itt.0, 8 * 2 ^ d.1.bits) in
    ap (λ (xs : List (ℕ × ℕ)). xs ++ rest) more ∙ append_assoc before (here ∷ []) rest
    ∙ ap (λ (ds : List (ℕ × Device)). before ++ stretches_of (itt_tables m ds)) (sym steps) ∙ so_far

-- one redistributor's table more
pub table_listed : (shape : Shape) (v : ℕ) (redists : RedistParts) (c : Conf) (p : Pend) (before now whole : List (ℕ × ℕ)) → v < shape.vcpus
    → AreInHandAt redists v c p → now ≡ before ++ stretches_of (pending_words shape (redistributor_of c p))
    → before ++ stretches_of (flat_map (pending_words shape) (drop v (redistributors_of shape redists))) ≡ whole
    → now ++ stretches_of (flat_map (pending_words shape) (drop (v + 1) (redistributors_of shape redists))) ≡ whole
table_listed shape v redists c p before now whole lt is more so_far =
    let rs = redistributors_of shape redists in
    let here : List Words = pending_words shape (redistributor_of c p) in
    let rest : List Words = flat_map (pending_words shape) (drop (suc v) rs) in
    rw add-one (ap (λ (xs : List (ℕ × ℕ)). xs ++ stretches_of rest) more ∙ append_assoc before (stretches_of here) (stretches_of rest)
    ∙ ap (λ (xs : List (ℕ × ℕ)). before ++ xs) (sym (map-append stretch_of here rest))
    ∙ ap (λ (ds : List Redistributor). before ++ stretches_of (flat_map (pending_words shape) ds)) (sym (drop_to_place redists shape.vcpus v c p lt is)) ∙ so_far)

-- no redistributor's table is left
pub tables_listed : (shape : Shape) (v : ℕ) (redists : RedistParts) (now whole : List (ℕ × ℕ)) → shape.vcpus ≤ v
    → now ++ stretches_of (flat_map (pending_words shape) (drop v (redistributors_of shape redists))) ≡ whole → now ≡ whole
tables_listed shape v redists now whole le so_far =
    sym (append-nil now) ∙ ap (λ (ds : List Redistributor). now ++ stretches_of (flat_map (pending_words shape) ds)) (sym (none_left redists shape.vcpus v le))
    ∙ so_far

-- ---- the device table

pub pages_listed : (t : Translator) (memory : List Window) (list now : List (ℕ × ℕ)) → is_valid t.regs.baser0 ≡ true → is_indirect t.regs.baser0 ≡ true
    → now ≡ list ++ stretches_of (pages_words t memory (level1_entries t.regs.dev_bits)) → now ≡ list ++ stretches_of (device_words t memory)
unfolding device_words
pages_listed t memory list now valid indirect more =
    let two : List Words = pages_words t memory (level1_entries t.regs.dev_bits) in
    let one : List Words = record { base = table_base t.regs.baser0; count = 8192 * device_pages t.regs; word = device_word t.maps } ∷ [] in
    more ∙ ap (λ ws. list ++ stretches_of ws) (sym (ap (λ b. cond (not b) [] (cond (is_indirect t.regs.baser0) two one)) valid
    ∙ ap (λ b. cond b two one) indirect))

pub flat_listed : (t : Translator) (memory : List Window) (list now : List (ℕ × ℕ)) (base count : ℕ) → is_valid t.regs.baser0 ≡ true
    → is_indirect t.regs.baser0 ≡ false → base ≡ table_base t.regs.baser0 → count ≡ device_pages t.regs → now ≡ list ++ (base, 8 * (8192 * count)) ∷ []
    → now ≡ list ++ stretches_of (device_words t memory)
unfolding device_words
flat_listed t memory list now base count valid flat at size more =
    let two : List Words = pages_words t memory (level1_entries t.regs.dev_bits) in
    let one : List Words = record { base = table_base t.regs.baser0; count = 8192 * device_pages t.regs; word = device_word t.maps } ∷ [] in
    more ∙ ap (λ b. list ++ (b, 8 * (8192 * count)) ∷ []) at ∙ ap (λ n. list ++ (table_base t.regs.baser0, 8 * (8192 * n)) ∷ []) size
    ∙ ap (λ ws. list ++ stretches_of ws) (sym (ap (λ b. cond (not b) [] (cond (is_indirect t.regs.baser0) two one)) valid ∙ ap (λ b. cond b two one) flat))
