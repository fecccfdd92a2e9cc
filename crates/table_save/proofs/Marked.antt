-- Pages that are marked table after table.
use Rattle.std.proofs.Common.{◌≡◌, ℕ, suc, ◌+◌, ◌*◌, ◌<◌, ◌≤◌, true, false, cond, not, List, [], ◌∷◌, ◌++◌, drop, refl, sym, ap, ◌∙◌, add-one}
use Rattle.std.specs.List.{flat_map}
use Rattle.dirty_log.specs.Copies.{wrote}
use Rattle.dirty_log.specs.declared.tracked.Tracked.{Tracked}
use Rattle.guest_windows.specs.Windows.{Window}
use Rattle.gits_regs.specs.Registers.{is_valid, is_indirect, table_base}
use Rattle.baser_place.specs.Places.{level1_entries, level1_of, page_of}
use Rattle.its_types.specs.declared.machine.Shape.{Shape}
use Rattle.its_plain.specs.Plain.{Translator, Redistributor}
use Rattle.its_plain.specs.Regions.{device_pages}
use Rattle.its_plain.specs.Saved.{Words, wrote_tables, device_words, pages_words, page_words, pending_words, device_word}
use Rattle.lpi_config.specs.Conf.{Conf}
use Rattle.lpi_pending.specs.InHand.{RedistParts, redistributor_of}
use Rattle.lpi_pending.specs.Pend.{Pend}
use Rattle.owned_parts.specs.Places.{AreInHandAt}
use Rattle.owned_parts.proofs.Places.{drop_to_place, none_left}
use Rattle.table_save.specs.Areas.{redistributors_of}

-- tables after tables
pub marked_append : (ts us : List Words) (t : Tracked) → wrote_tables (ts ++ us) t ≡ wrote_tables us (wrote_tables ts t)
marked_append [] us t = refl
marked_append (w ∷ ts) us t = marked_append ts us (wrote w.base (8 * w.count) t)

-- one page more
pub page_marked : (t : Translator) (memory : List Window) (k : ℕ) (first before now : Tracked) → before ≡ wrote_tables (pages_words t memory k) first
    → now ≡ wrote_tables (page_words t.maps k (page_of (level1_of t.regs memory k))) before → now ≡ wrote_tables (pages_words t memory (k + 1)) first
page_marked t memory k first before now so_far marks =
    let last = page_words t.maps k (page_of (level1_of t.regs memory k)) in
    rw add-one (marks ∙ ap (wrote_tables last) so_far ∙ sym (marked_append (pages_words t memory k) last first))

-- one redistributor's table more
pub table_marked : (shape : Shape) (v : ℕ) (redists : RedistParts) (c : Conf) (p : Pend) (before now whole : Tracked) → v < shape.vcpus
    → AreInHandAt redists v c p → now ≡ wrote_tables (pending_words shape (redistributor_of c p)) before
    → wrote_tables (flat_map (pending_words shape) (drop v (redistributors_of shape redists))) before ≡ whole
    → wrote_tables (flat_map (pending_words shape) (drop (v + 1) (redistributors_of shape redists))) now ≡ whole
table_marked shape v redists c p before now whole lt is marks so_far =
    let rs = redistributors_of shape redists in
    let here : List Words = pending_words shape (redistributor_of c p) in
    let rest : List Words = flat_map (pending_words shape) (drop (suc v) rs) in
    rw add-one (ap (wrote_tables rest) marks ∙ sym (marked_append here rest before)
    ∙ ap (λ (ds : List Redistributor). wrote_tables (flat_map (pending_words shape) ds) before) (sym (drop_to_place redists shape.vcpus v c p lt is)) ∙ so_far)

-- no redistributor's table is left
pub tables_marked : (shape : Shape) (v : ℕ) (redists : RedistParts) (now whole : Tracked) → shape.vcpus ≤ v
    → wrote_tables (flat_map (pending_words shape) (drop v (redistributors_of shape redists))) now ≡ whole → now ≡ whole
tables_marked shape v redists now whole le so_far =
    sym (ap (λ (ds : List Redistributor). wrote_tables (flat_map (pending_words shape) ds) now) (none_left redists shape.vcpus v le)) ∙ so_far

-- ---- the device table

pub pages_marked : (t : Translator) (memory : List Window) (track now : Tracked) → is_valid t.regs.baser0 ≡ true → is_indirect t.regs.baser0 ≡ true
    → now ≡ wrote_tables (pages_words t memory (level1_entries t.regs.dev_bits)) track → now ≡ wrote_tables (device_words t memory) track
unfolding device_words
pages_marked t memory track now valid indirect marks =
    let two : List Words = pages_words t memory (level1_entries t.regs.dev_bits) in
    let one : List Words = record { base = table_base t.regs.baser0; count = 8192 * device_pages t.regs; word = device_word t.maps } ∷ [] in
    marks ∙ ap (λ ws. wrote_tables ws track) (sym (ap (λ b. cond (not b) [] (cond (is_indirect t.regs.baser0) two one)) valid
    ∙ ap (λ b. cond b two one) indirect))

pub flat_marked : (t : Translator) (memory : List Window) (track now : Tracked) (base count : ℕ) → is_valid t.regs.baser0 ≡ true
    → is_indirect t.regs.baser0 ≡ false → base ≡ table_base t.regs.baser0 → count ≡ device_pages t.regs → now ≡ wrote base (8 * (8192 * count)) track
    → now ≡ wrote_tables (device_words t memory) track
unfolding device_words
flat_marked t memory track now base count valid flat at size marks =
    let two : List Words = pages_words t memory (level1_entries t.regs.dev_bits) in
    let one : List Words = record { base = table_base t.regs.baser0; count = 8192 * device_pages t.regs; word = device_word t.maps } ∷ [] in
    marks ∙ ap (λ b. wrote b (8 * (8192 * count)) track) at ∙ ap (λ n. wrote (table_base t.regs.baser0) (8 * (8192 * n)) track) size
    ∙ ap (λ ws. wrote_tables ws track) (sym (ap (λ b. cond (not b) [] (cond (is_indirect t.regs.baser0) two one)) valid ∙ ap (λ b. cond b two one) flat))

-- ---- all tables

pub all_marked : (t one two three : Tracked) (ts us ps : List Words) → one ≡ wrote_tables ts t → two ≡ wrote_tables us one → three ≡ wrote_tables ps two
    → three ≡ wrote_tables ((ts ++ us) ++ ps) t
all_marked t one two three ts us ps a b c =
    c ∙ ap (wrote_tables ps) (b ∙ ap (wrote_tables us) a) ∙ sym (marked_append (ts ++ us) ps t ∙ ap (wrote_tables ps) (marked_append ts us t))
