-- The redistributors in hand, as the plain machine has them.
use Rattle.std.proofs.Common.{◌≡◌, ℕ, suc, ◌+◌, ◌-◌, ◌*◌, ◌/◌, ◌<◌, ◌≤◌, Bool, true, if◌then◌else◌, List, [], ◌∷◌, ◌++◌, drop, refl, sym, ap, ◌∙◌, add-one, append-nil, append_assoc}
use Rattle.std.specs.Prelude.{Result, OnOk}
use Rattle.std.proofs.lemmas.Result.{on_ok_weaker}
use Rattle.its_types.specs.Ranges.{pending_bytes}
use Rattle.its_types.specs.declared.machine.Shape.{Shape}
use Rattle.its_plain.specs.Plain.{Redistributor}
use Rattle.std.specs.List.{flat_map}
use Rattle.guest_windows.specs.Windows.{Window}
use Rattle.its_plain.specs.Saved.{Words, put_words, put_tables, pending_word, pending_words}
use Rattle.table_save.proofs.Written.{same_words, tables_append}
use Rattle.its_plain.specs.declared.area.Area.{Area}
use Rattle.its_plain.specs.Regions.{areas_from}
use Rattle.table_save.specs.Areas.{redistributors_of}
use Rattle.lpi_config.specs.Conf.{Conf}
use Rattle.lpi_pending.specs.InHand.{RedistParts, redistributor_of}
use Rattle.lpi_pending.specs.Pend.{Pend}
use Rattle.owned_parts.specs.Places.{AreInHandAt}
use Rattle.owned_parts.proofs.Places.{drop_to_place, none_left}

-- one redistributor's area more
pub area_more : (area : ℕ → Redistributor → List Area) (shape : Shape) (v : ℕ) (redists : RedistParts) (c : Conf) (p : Pend) (old now whole : List Area)
    → v < shape.vcpus → AreInHandAt redists v c p
    → now ≡ old ++ area v (redistributor_of c p)
    → old ++ areas_from area v (drop v (redistributors_of shape redists)) ≡ whole
    → now ++ areas_from area (v + 1) (drop (v + 1) (redistributors_of shape redists)) ≡ whole
area_more area shape v redists c p old now whole lt is added so_far =
    let rs = redistributors_of shape redists in
    let here : List Area = area v (redistributor_of c p) in
    let rest : List Area = areas_from area (suc v) (drop (suc v) rs) in
    rw add-one (ap (λ (xs : List Area). xs ++ rest) added ∙ append_assoc old here rest
    ∙ ap (λ (ds : List Redistributor). old ++ areas_from area v ds) (sym (drop_to_place redists shape.vcpus v c p lt is)) ∙ so_far)

-- no area is left
pub areas_done : (area : ℕ → Redistributor → List Area) (shape : Shape) (v : ℕ) (redists : RedistParts) (now whole : List Area) → shape.vcpus ≤ v
    → now ++ areas_from area v (drop v (redistributors_of shape redists)) ≡ whole → now ≡ whole
areas_done area shape v redists now whole le so_far =
    sym (append-nil now) ∙ ap (λ (ds : List Redistributor). now ++ areas_from area v ds) (sym (none_left redists shape.vcpus v le)) ∙ so_far

-- one redistributor's table more
pub table_more : (shape : Shape) (v : ℕ) (redists : RedistParts) (c : Conf) (p : Pend) (before now : List Window) (whole : List Window) → v < shape.vcpus
    → AreInHandAt redists v c p
    → now ≡ put_tables before (pending_words shape (redistributor_of c p))
    → put_tables before (flat_map (pending_words shape) (drop v (redistributors_of shape redists))) ≡ whole
    → put_tables now (flat_map (pending_words shape) (drop (v + 1) (redistributors_of shape redists))) ≡ whole
table_more shape v redists c p before now whole lt is wrote so_far =
    let rs = redistributors_of shape redists in
    let here : List Words = pending_words shape (redistributor_of c p) in
    let rest : List Words = flat_map (pending_words shape) (drop (suc v) rs) in
    rw add-one (ap (λ (m : List Window). put_tables m rest) wrote ∙ sym (tables_append before here rest)
    ∙ ap (λ (ds : List Redistributor). put_tables before (flat_map (pending_words shape) ds)) (sym (drop_to_place redists shape.vcpus v c p lt is)) ∙ so_far)

-- no LPI's bit is set where none is pending
no_word : (n : ℕ) → 0 ≡ pending_word [] n
unfolding pending_word
no_word n = refl

-- a table of zeros, where none is pending
pub table_none : {E : Type 0} (r : Result (Unit {0}) E) (shape : Shape) (memory now : List Window) (c : Conf) (p : Pend) (base count : ℕ)
    → OnOk r (now ≡ put_words memory base (λ _. 0) count) → c.bases.on ≡ true → p.pending.lpis ≡ [] → base ≡ c.bases.pend.table.0 + 1024
    → count ≡ (pending_bytes shape.lpi_bits - 1024) / 8 → OnOk r (now ≡ put_tables memory (pending_words shape (redistributor_of c p)))
table_none r shape memory now c p base count wrote on none at many =
    let words : List ℕ → ℕ → ℕ = λ (xs : List ℕ) (i : ℕ). pending_word xs (1024 + 8 * i) in
    let table : List Words = record { base = c.bases.pend.table.0 + 1024; count = (pending_bytes shape.lpi_bits - 1024) / 8; word = words p.pending.lpis } ∷ [] in
    on_ok_weaker r (λ (e : now ≡ put_words memory base (λ _. 0) count).
    e
    ∙ same_words memory base count (λ _. 0) (words []) (λ k lt. no_word (1024 + 8 * k))
    ∙ ap (λ (xs : List ℕ). put_words memory base (words xs) count) (sym none)
    ∙ ap (λ (a : ℕ). put_words memory a (words p.pending.lpis) count) at
    ∙ ap (put_words memory (c.bases.pend.table.0 + 1024) (words p.pending.lpis)) many
    ∙ ap (λ (b : Bool). put_tables memory (if b then table else [])) (sym on)) wrote

-- no table is left
pub tables_done : (shape : Shape) (v : ℕ) (redists : RedistParts) (now whole : List Window) → shape.vcpus ≤ v
    → put_tables now (flat_map (pending_words shape) (drop v (redistributors_of shape redists))) ≡ whole → now ≡ whole
tables_done shape v redists now whole le so_far =
    sym (ap (λ (ds : List Redistributor). put_tables now (flat_map (pending_words shape) ds)) (none_left redists shape.vcpus v le)) ∙ so_far
