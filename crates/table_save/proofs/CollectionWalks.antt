-- The entries of collections, beside the places of their table.
use Rattle.std.proofs.Common.{◌≡◌, ℕ, zero, suc, ◌+◌, List, [], ◌∷◌, length, drop, Option, Some, None, refl, sym, subst, ap, ◌∙◌, add-one, arith}
use Rattle.std.specs.Prelude.{slice_get, MatchOption}
use Rattle.its_types.specs.declared.ids.Icid.{Icid}
use Rattle.its_types.specs.declared.ids.Vcpu.{Vcpu}
use Rattle.its_plain.specs.Saved as saved
use Rattle.table_save.specs.EntriesLeft.{Leaves}
use Rattle.table_save.specs.Tables.{collection_entry}
use Rattle.table_save.specs.declared.entry_front.EntryFront.{EntryFront}

-- what a walk gives, where i were taken
record Here {X : Type 0} (es : List X) (i : ℕ) (taken : Option X) (rest : List X) : Type 0 where
  same : slice_get es i ≡ taken
  left : rest ≡ drop (suc i) es

none_here : {X : Type 0} (es : List X) (i : ℕ) → drop i es ≡ [] → Here es i None []
none_here [] zero e = record { same = refl; left = refl }
none_here [] (suc i) e = record { same = refl; left = refl }
none_here (x ∷ es) zero e = absurd cc
none_here (x ∷ es) (suc i) e = let h = none_here es i e in record { same = h.same; left = h.left }

one_here : {X : Type 0} (es : List X) (i : ℕ) (x : X) (rest : List X) → drop i es ≡ x ∷ rest → Here es i (Some x) rest
one_here [] zero x rest e = absurd cc
one_here [] (suc i) x rest e = absurd cc
one_here (y ∷ es) zero x rest e = record { same = (let s : y ≡ x = cc in ap Some s); left = (let s : es ≡ rest = cc in sym s) }
one_here (y ∷ es) (suc i) x rest e = let h = one_here es i x rest e in record { same = h.same; left = h.left }

-- ---- words of the collections that are left

none_at : {X : Type 0} (es : List X) (j : ℕ) → length es ≡ 0 → slice_get es j ≡ None
none_at [] zero e = refl
none_at [] (suc j) e = refl
none_at (x ∷ es) j e = absurd (omega arith)

pub get_after : {X : Type 0} (es : List X) (i k : ℕ) → slice_get (drop i es) k ≡ slice_get es (i + k)
get_after es zero k = let e : k ≡ 0 + k = omega arith in ap (slice_get es) e
get_after [] (suc i) k = none_at [] k refl ∙ sym (none_at [] (suc i + k) refl)
get_after (x ∷ es) (suc i) k = get_after es i k ∙ (let e : suc (i + k) ≡ suc i + k = omega arith in ap (slice_get (x ∷ es)) e)

-- ---- the next one

pub record Stepped (es : List (ℕ × Vcpu)) (i : ℕ) (taken : Option (Icid × ℕ)) (after : EntryFront) : Type 0 where
  pub word : collection_entry taken ≡ saved.collection_entry (slice_get es i)
  pub left : Leaves after (drop (i + 1) es)

pub stepped : (es : List (ℕ × Vcpu)) (i : ℕ) (taken : Option (Icid × ℕ)) (after : EntryFront)
    → MatchOption taken ((drop i es ≡ []) × Leaves after [])
    (λ c. (left : List (ℕ × Vcpu)) × (drop i es ≡ (c.0.0, record { 0 = c.1 }) ∷ left) × Leaves after left) → Stepped es i taken after
stepped es i None after given =
    let h = none_here es i given.0 in
    record { word = ap saved.collection_entry (sym h.same); left = subst (Leaves after) (rw add-one h.left) given.1 }
stepped es i (Some c) after given =
    let h = one_here es i (c.0.0, record { 0 = c.1 }) given.0 given.1 in
    record { word = ap saved.collection_entry (sym h.same); left = subst (Leaves after) (rw add-one h.left) given.2 }
