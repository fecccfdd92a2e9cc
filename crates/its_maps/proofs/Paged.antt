-- What changes of pages are to the map that they show.
use Rattle.std.proofs.Common.{◌≡◌, ℕ, ◌*◌, ◌/◌, ◌%◌, ◌<◌, ◌==◌, Bool, true, false, cond, not, eqb, List, length, get_or, set, Some, None, Option, IsSome}
use Rattle.std.proofs.Common.{is_some, inl, inr, refl, sym, ap, ◌∙◌, arith}
use mathlib.Core.Bool.{false≢true}
use Rattle.std.specs.Option.{option_and_then}
use Rattle.std.specs.Ordering.{nat_cmp}
use Rattle.std.specs.Cmp.{nat_cmp_total, unsigned_tied}
use Rattle.std.specs.FinMap as finmap
use Rattle.std.specs.FinMap.{FinMap, entries_sorted, get-entries, get-insert, get-retain_keys, get-empty, same_map, nat_cmp-IsAntisymmetric}
use Rattle.std.proofs.lemmas.Bool.{cases_eq, eqb-true, eq-eqb, ne_eqb}
use Rattle.std.proofs.lemmas.List.{get_or-set_same, get_or-set_other, get_or_default}
use Rattle.its_maps.specs.Pages.{paged_map, IsBlank, NumbersFit, EachNumberFits}
use Rattle.its_maps.proofs.Shown.{alike}
use Rattle.its_maps.proofs.Places.{find_at}
use Rattle.its_maps.proofs.Blocks.{then_cond}
use Rattle.its_maps.proofs.Slots.{slot, get-paged}
use Rattle.its_maps.specs.declared.page.TheConstants.{PLACES}

none_of : {V : Type 0} (o : Option V) → is_some o ≡ false → o ≡ None
none_of None e = refl
none_of (Some x) e = absurd (false≢true (sym e))

module _ {V : Type 0} where
  flip : (t : Bool) (o : Option V) → cond (not t) o None ≡ cond t None o
  flip true o = refl
  flip false o = refl

  pub none_paged : paged_map {V = V} finmap.empty ≡ finmap.empty
  none_paged = same_map nat_cmp_total nat_cmp-IsAntisymmetric _ _ (λ q. get-paged finmap.empty q ∙ ap (option_and_then (slot q))
      (get-empty nat_cmp (q / PLACES)) ∙ sym (get-empty nat_cmp q))

  module _ (m : FinMap nat_cmp (List (Option V))) where
    get-with_page : (n : ℕ) (p : List (Option V)) (q : ℕ) → finmap.get (paged_map (finmap.insert m n p)) q ≡ cond (eqb (q / PLACES) n) (slot q p)
        (finmap.get (paged_map m) q)
    get-with_page n p q =
        get-paged (finmap.insert m n p) q
        ∙ ap (option_and_then (slot q)) (get-insert nat_cmp_total m n p (q / PLACES) ∙ ap (λ t. cond t (Some p) (finmap.get m (q / PLACES)))
        (unsigned_tied (q / PLACES) n))
        ∙ then_cond (slot q) (eqb (q / PLACES) n) p (finmap.get m (q / PLACES))
        ∙ ap (cond (eqb (q / PLACES) n) (slot q p)) (sym (get-paged m q))

    get-without : (key q : ℕ) → finmap.get (finmap.retain_keys (paged_map m) (λ k. not (k == key))) q ≡ cond (eqb q key) None (finmap.get (paged_map m) q)
    get-without key q = get-retain_keys (paged_map m) (λ k. not (k == key)) q (λ x. alike (λ k. not (k == key)) q x) ∙ flip (eqb q key)
        (finmap.get (paged_map m) q)

    -- a page with the entries that there are at the places of a key's page
    abbrev pub IsPageOf : ℕ → List (Option V) → Type 0
    IsPageOf key page = (q : ℕ) → q / PLACES ≡ key / PLACES → finmap.get (paged_map m) q ≡ slot q page

    pub page_there : (key : ℕ) (page : List (Option V)) → Some page ≡ finmap.get m (key / PLACES) → IsPageOf key page
    page_there key page here q same = get-paged m q ∙ ap (λ (n : ℕ). option_and_then (slot q) (finmap.get m n)) same ∙ ap (option_and_then (slot q)) (sym here)

    pub page_new : (key : ℕ) (page : List (Option V)) → finmap.contains_key m (key / PLACES) ≡ false → IsBlank page → IsPageOf key page
    page_new key page absent blank q same =
        get-paged m q ∙ ap (λ (n : ℕ). option_and_then (slot q) (finmap.get m n)) same ∙ ap (option_and_then (slot q)) (none_of _ absent)
        ∙ sym (blank (q % PLACES) (omega arith))

    module _ (key : ℕ) where
      -- what a page with a place set has for the keys of that page
      slot-set : (q : ℕ) (page : List (Option V)) (o : Option V) → q / PLACES ≡ key / PLACES → length page ≡ PLACES → slot q (set page (key % PLACES) o) ≡ cond
          (eqb q key) o (slot q page)
      slot-set q page o same full =
          elim (cases_eq q key) [
            | inl is ↦
                ap (λ (k : ℕ). slot k (set page (key % PLACES) o)) is ∙ get_or-set_same page (key % PLACES) o None (omega (arith, full))
                ∙ ap (λ t. cond t o (slot q page)) (sym (eq-eqb q key is))
            | inr ne ↦
                get_or-set_other page (key % PLACES) (q % PLACES) o None (λ at. ne (omega (arith, same, at)))
                ∙ ap (λ t. cond t o (slot q page)) (sym (ne_eqb q key ne))
          ]

      get-set : (page : List (Option V)) (o : Option V) → IsPageOf key page → length page ≡ PLACES → (q : ℕ)
          → finmap.get (paged_map (finmap.insert m (key / PLACES) (set page (key % PLACES) o))) q ≡ cond (eqb q key) o (finmap.get (paged_map m) q)
      get-set page o shows full q = get-with_page (key / PLACES) (set page (key % PLACES) o) q ∙ at (eqb (q / PLACES) (key / PLACES)) refl
        where
          at : (t : Bool) → eqb (q / PLACES) (key / PLACES) ≡ t → cond t (slot q (set page (key % PLACES) o)) (finmap.get (paged_map m) q) ≡ cond (eqb q key) o
              (finmap.get (paged_map m) q)
          at true is =
              let same = eqb-true (q / PLACES) (key / PLACES) is in
              slot-set q page o same full ∙ ap (cond (eqb q key) o) (sym (shows q same))
          at false is = ap (λ t. cond t o (finmap.get (paged_map m) q))
              (sym (ne_eqb q key (λ same. false≢true (sym is ∙ eq-eqb (q / PLACES) (key / PLACES) (ap (λ (k : ℕ). k / PLACES) same)))))

      pub after_put : (page : List (Option V)) (v : V) → IsPageOf key page → length page ≡ PLACES
          → paged_map (finmap.insert m (key / PLACES) (set page (key % PLACES) (Some v))) ≡ finmap.insert (paged_map m) key v
      after_put page v shows full =
          same_map nat_cmp_total nat_cmp-IsAntisymmetric _ _ (λ q.
          get-set page (Some v) shows full q
          ∙ sym (get-insert nat_cmp_total (paged_map m) key v q ∙ ap (λ t. cond t (Some v) (finmap.get (paged_map m) q)) (unsigned_tied q key)))

      pub after_take : (page : List (Option V)) → IsPageOf key page → length page ≡ PLACES
          → paged_map (finmap.insert m (key / PLACES) (set page (key % PLACES) None)) ≡ finmap.retain_keys (paged_map m) (λ k. not (k == key))
      after_take page shows full = same_map nat_cmp_total nat_cmp-IsAntisymmetric _ _ (λ q. get-set page None shows full q ∙ sym (get-without key q))

      pub after_nothing : finmap.contains_key m (key / PLACES) ≡ false → paged_map m ≡ finmap.retain_keys (paged_map m) (λ k. not (k == key))
      after_nothing absent = same_map nat_cmp_total nat_cmp-IsAntisymmetric _ _ (λ q. at q (eqb q key) refl ∙ sym (get-without key q))
        where
          at : (q : ℕ) (t : Bool) → eqb q key ≡ t → finmap.get (paged_map m) q ≡ cond t None (finmap.get (paged_map m) q)
          at q true is = get-paged m q ∙ ap (λ (k : ℕ). option_and_then (slot q) (finmap.get m (k / PLACES))) (eqb-true q key is)
              ∙ ap (option_and_then (slot q)) (none_of _ absent)
          at q false is = refl

      pub key_in : (page : List (Option V)) → IsPageOf key page → finmap.contains_key (paged_map m) key ≡ is_some (get_or page (key % PLACES) None)
      key_in page shows = ap is_some (shows key refl)

      pub key_out : finmap.contains_key m (key / PLACES) ≡ false → finmap.contains_key (paged_map m) key ≡ false
      key_out absent = ap is_some (get-paged m key ∙ ap (option_and_then (slot key)) (none_of _ absent))

      pub page_has : finmap.contains_key (paged_map m) key ≡ true → finmap.contains_key m (key / PLACES) ≡ true
      page_has has = at (finmap.get m (key / PLACES)) (ap is_some (sym (get-paged m key)) ∙ has)
        where
          at : (o : Option (List (Option V))) → is_some (option_and_then (slot key) o) ≡ true → is_some o ≡ true
          at None h = h
          at (Some p) h = refl

    -- a blank page shows nothing
    pub after_drop : (n : ℕ) (p : List (Option V)) → IsBlank p → paged_map (finmap.retain_keys (finmap.insert m n p) (λ k. not (k == n))) ≡ paged_map
        (finmap.insert m n p)
    after_drop n p blank =
        same_map nat_cmp_total nat_cmp-IsAntisymmetric _ _ (λ q.
        get-paged (finmap.retain_keys (finmap.insert m n p) (λ k. not (k == n))) q
        ∙ ap (option_and_then (slot q)) (get-retain_keys (finmap.insert m n p) (λ k. not (k == n)) (q / PLACES) (λ x. alike (λ k. not (k == n)) (q / PLACES) x))
        ∙ at q (eqb (q / PLACES) n) refl)
      where
        at : (q : ℕ) (t : Bool) → eqb (q / PLACES) n ≡ t → option_and_then (slot q) (cond (not t) (finmap.get (finmap.insert m n p) (q / PLACES)) None)
            ≡ finmap.get (paged_map (finmap.insert m n p)) q
        at q true is = sym (get-with_page n p q ∙ ap (λ t. cond t (slot q p) (finmap.get (paged_map m) q)) is ∙ blank (q % PLACES) (omega arith))
        at q false is = sym (get-paged (finmap.insert m n p) q)

-- ---- page numbers

pub numbers_none : (P : Type 0) → NumbersFit {P = P} finmap.empty
numbers_none P n some = absurd (false≢true (ap is_some (sym (get-empty nat_cmp n)) ∙ some))

module _ {P : Type 0} where
  pub numbers_insert : (m : FinMap nat_cmp P) (n : ℕ) (p : P) → NumbersFit m → n * PLACES < 4294967296 → NumbersFit (finmap.insert m n p)
  numbers_insert m n p fit lt q some =
      at (q == n) refl (ap is_some (sym (get-insert nat_cmp_total m n p q ∙ ap (λ t. cond t (Some p) (finmap.get m q)) (unsigned_tied q n))) ∙ some)
    where
      at : (t : Bool) → (q == n) ≡ t → IsSome (cond t (Some p) (finmap.get m q)) → q * PLACES < 4294967296
      at true same some = omega (arith, eqb-true q n same)
      at false same some = fit q some

  pub numbers_retain : (m : FinMap nat_cmp P) (f : ℕ → Bool) → NumbersFit m → NumbersFit (finmap.retain_keys m f)
  numbers_retain m f fit q some = at (f q) (ap is_some (sym (get-retain_keys m f q (λ x. alike f q x))) ∙ some)
    where
      at : (t : Bool) → IsSome (cond t (finmap.get m q) None) → q * PLACES < 4294967296
      at true some = fit q some
      at false some = absurd (false≢true some)

  pub each_number_fits : (m : FinMap nat_cmp P) → NumbersFit m → EachNumberFits (finmap.entries m)
  each_number_fits m fit i d lt =
      let es = finmap.entries m in
      let key = (get_or es i d).0 in
      fit key (ap is_some (get-entries m key ∙ find_at key es i d (entries_sorted m)
      (record { in_range = lt; has_key = λ e. ap (λ (x : ℕ × P). x.0) (get_or_default es i e d lt) })))
