-- The words of the code are those of the definition.
use Rattle.std.proofs.Common.{◌≡◌, ℕ, zero, suc, ◌+◌, ◌*◌, ◌<◌, ◌≤◌, ◌^◌, true, false, cond, not, List, [], ◌∷◌, ◌++◌, length, Option, Some, None, refl, sym}
use Rattle.std.proofs.Common.{ap, ◌∙◌, arith, zero-add, le_refl, append-nil}
use Rattle.std.specs.Option.{option_map}
use Rattle.std.specs.List.{flat_map}
use Rattle.std.specs.FinMap as finmap
use Rattle.std.specs.FinMap.{get-entries}
use Rattle.guest_windows.specs.Windows.{Window}
use Rattle.gits_regs.specs.Registers.{is_valid, is_indirect, table_base}
use Rattle.baser_place.specs.Places.{level1_entries}
use Rattle.its_types.specs.Maps.{Maps, device_of, event_of}
use Rattle.its_types.specs.declared.ids.Addr.{Addr}
use Rattle.its_types.specs.declared.translation.Device.{Device}
use Rattle.its_types.specs.declared.translation.Event.{Event}
use Rattle.its_types.specs.Maps.{events_at}
use Rattle.its_plain.specs.Plain.{Translator}
use Rattle.its_types.specs.declared.machine.Shape.{Shape}
use Rattle.its_plain.specs.Saved.{Words, put_words, put_tables, device_words, collection_words, pending_words, translator_words, words_of, distance}
use Rattle.its_plain.specs.Saved.{device_after, event_after, device_entry, event_entry, page_words, device_word, event_word, itt_words, pages_words}
use Rattle.table_save.specs.Pass.{packed_if, pack_device, pack_event, key_after, device_entry_word, event_entry_word}
use Rattle.table_save.specs.Tables.{ArePages, address_of, page_at, page_table, page_tables, itt_tables}
use Rattle.owned_parts.specs.Owned.{state_in_place, translator_at, translators_at}
use Rattle.owned_parts.specs.declared.in_place.TranslatorRef.{TranslatorRef}
use Rattle.owned_parts.specs.declared.in_place.InPlace.{InPlace}
use Rattle.table_save.specs.Fits.{words_at, second_words}
use Rattle.table_save.specs.Areas.{redistributors_of}
use Rattle.its_plain.specs.Regions.{device_pages}
use Rattle.table_save.proofs.Written.{same_words, tables_append}
use Rattle.standing_states.proofs.EventsOf.{find_of_device, after_of_device}

-- ---- devices

same_device : (m : Maps) (dev : ℕ) (o : Option Device) → packed_if pack_device o (distance 16383 dev (key_after dev (finmap.entries m.devices)))
    ≡ device_entry dev o (device_after m dev)
same_device m dev None = refl
same_device m dev (Some d) = refl

pub device_is : (m : Maps) (dev : ℕ) → device_entry_word (finmap.entries m.devices) dev ≡ device_word m dev
unfolding device_word
device_is m dev =
    ap (λ o. packed_if pack_device o (distance 16383 dev (key_after dev (finmap.entries m.devices)))) (sym (get-entries m.devices dev))
    ∙ same_device m dev (device_of m dev)

-- ---- events

same_event : (m : Maps) (dev ev : ℕ) (o : Option Event) → packed_if pack_event o (distance 65535 ev (event_after m dev ev)) ≡ event_entry ev o
    (event_after m dev ev)
same_event m dev ev None = refl
same_event m dev ev (Some e) = refl

pub event_is : (m : Maps) (dev ev : ℕ) → event_entry_word (events_at m dev) ev ≡ event_word m dev ev
unfolding event_word
event_is m dev ev =
    ap (λ o. packed_if pack_event o (distance 65535 ev (key_after ev (events_at m dev)))) (find_of_device dev ev (finmap.entries m.events)
    ∙ sym (get-entries m.events (dev, ev)))
    ∙ ap (λ o. packed_if pack_event (event_of m dev ev) (distance 65535 ev o)) (after_of_device dev ev (finmap.entries m.events))
    ∙ same_event m dev ev (event_of m dev ev)

pub itts_are : (m : Maps) → itt_tables m (finmap.entries m.devices) ≡ itt_words m
itts_are m = λ p. flat_map (λ d. record { base = d.1.itt.0; count = 2 ^ d.1.bits; word = λ ev. event_is m d.0 ev p } ∷ []) (finmap.entries m.devices)

-- ---- pages

page_is : (m : Maps) (k : ℕ) (page : Option Addr) → page_table (finmap.entries m.devices) (8192 * k) 8192 page ≡ page_words m k (option_map address_of page)
page_is m k None = refl
page_is m k (Some base) = λ p. record { base = base.0; count = 8192; word = λ i. device_is m (8192 * k + i) p } ∷ []

pub pages_are : (t : Translator) (memory : List Window) (pages : List (Option Addr)) (n : ℕ) → ArePages t.regs memory pages → n ≤ length pages
    → page_tables (finmap.entries t.maps.devices) 8192 pages n ≡ pages_words t memory n
pages_are t memory pages zero h le = refl
pages_are t memory pages (suc n) h le =
    ap (λ ts. ts ++ page_table (finmap.entries t.maps.devices) (8192 * n) 8192 (page_at pages n)) (pages_are t memory pages n h (omega arith))
    ∙ ap (λ ts. pages_words t memory n ++ ts) (page_is t.maps n (page_at pages n) ∙ ap (page_words t.maps n) (h.each n (omega arith)))

-- ---- the device table

pub pages_written : (t : Translator) (from memory now : List Window) (pages : List (Option Addr)) → is_valid t.regs.baser0 ≡ true → is_indirect t.regs.baser0 ≡ true
    → ArePages t.regs from pages
    → now ≡ put_tables memory (page_tables (finmap.entries t.maps.devices) 8192 pages (length pages)) → now ≡ put_tables memory (device_words t from)
unfolding device_words
pages_written t from memory now pages valid indirect h wrote =
    let two : List Words = pages_words t from (level1_entries t.regs.dev_bits) in
    let one : List Words = record { base = table_base t.regs.baser0; count = 8192 * device_pages t.regs; word = device_word t.maps } ∷ [] in
    let counted : page_tables (finmap.entries t.maps.devices) 8192 pages (length pages) ≡ two =
    pages_are t from pages (length pages) h (le_refl (length pages)) ∙ ap (pages_words t from) h.count in
    wrote ∙ ap (put_tables memory) (counted ∙ sym (ap (λ b. cond (not b) [] (cond (is_indirect t.regs.baser0) two one)) valid
    ∙ ap (λ b. cond b two one) indirect))

pub flat_written : (t : Translator) (from memory now : List Window) (base count : ℕ) (front : List (ℕ × Device)) → is_valid t.regs.baser0 ≡ true
    → is_indirect t.regs.baser0 ≡ false
    → base ≡ table_base t.regs.baser0 → count ≡ 8192 * device_pages t.regs → front ≡ finmap.entries t.maps.devices
    → now ≡ put_words memory base (λ i. device_entry_word front (0 + i)) count → now ≡ put_tables memory (device_words t from)
unfolding device_words
flat_written t from memory now base count front valid flat at size all wrote =
    let two : List Words = pages_words t from (level1_entries t.regs.dev_bits) in
    let n = 8192 * device_pages t.regs in
    let one : List Words = record { base = table_base t.regs.baser0; count = n; word = device_word t.maps } ∷ [] in
    let each : (i : ℕ) → i < count → device_entry_word front (0 + i) ≡ device_word t.maps i =
    λ i lt. ap (device_entry_word front) (zero-add i) ∙ ap (λ (es : List (ℕ × Device)). device_entry_word es i) all ∙ device_is t.maps i in
    wrote ∙ same_words memory base count (λ i. device_entry_word front (0 + i)) (device_word t.maps) each
    ∙ ap (λ (a : ℕ). put_words memory a (device_word t.maps) count) at ∙ ap (put_words memory (table_base t.regs.baser0) (device_word t.maps)) size
    ∙ sym (ap (put_tables memory) (ap (λ b. cond (not b) [] (cond (is_indirect t.regs.baser0) two one)) valid ∙ ap (λ b. cond b two one) flat))

-- ---- all tables

pub all_written : (memory one two three : List Window) (ts us ps : List Words) → one ≡ put_tables memory ts → two ≡ put_tables one us
    → three ≡ put_tables two ps → three ≡ put_tables memory ((ts ++ us) ++ ps)
all_written memory one two three ts us ps a b c =
    c ∙ ap (λ m. put_tables m ps) (b ∙ ap (λ m. put_tables m us) a)
    ∙ sym (tables_append memory (ts ++ us) ps ∙ ap (λ m. put_tables m ps) (tables_append memory ts us))

translator_is : (s : Shape) (memory : List Window) (t : TranslatorRef) → words_at s memory t ≡ translator_words s memory (translator_at t)
unfolding translator_words
translator_is s memory t =
    let u : Translator = translator_at t in
    ap (λ is. device_words u memory ++ collection_words s u ++ is) (itts_are u.maps)

translators_are : (s : Shape) (memory : List Window) (first : TranslatorRef) (second : Option TranslatorRef) → words_at s memory first ++ second_words s memory second
    ≡ flat_map (translator_words s memory) (translators_at first second)
translators_are s memory first None = ap (λ ws. ws ++ []) (translator_is s memory first)
translators_are s memory first (Some t) =
    ap (λ ws. ws ++ words_at s memory t) (translator_is s memory first)
    ∙ ap (λ ws. translator_words s memory (translator_at first) ++ ws)
    (translator_is s memory t ∙ sym (append-nil (translator_words s memory (translator_at t))))

pub words_are : (p : InPlace) → (words_at p.layout.now.shape p.memory.now p.first ++ second_words p.layout.now.shape p.memory.now p.second)
    ++ flat_map (pending_words p.layout.now.shape) (redistributors_of p.layout.now.shape p.redists.now) ≡ words_of (state_in_place p)
unfolding words_of
words_are p =
    ap (λ ws. ws ++ flat_map (pending_words p.layout.now.shape) (redistributors_of p.layout.now.shape p.redists.now))
    (translators_are p.layout.now.shape p.memory.now p.first p.second)
