-- Of those that have the same configuration table the first alone is told.
use Rattle.std.proofs.Common.{◌≡◌, ◌≢◌, ℕ, zero, suc, ◌+◌, Bool, true, false, ◌&&◌, ◌||◌, not, eqb, cond, List, [], ◌∷◌, ◌++◌, Option, Some, None, refl, sym, ap, subst, ◌∙◌, inl, inr, arith, zero-add, append-nil}
use Rattle.std.specs.List.{flat_map, range_with_len}
use Rattle.std.proofs.lemmas.Bool.{cases_eq, eq-eqb, ne_eqb}
use Rattle.std.proofs.lemmas.List.Folds.{list_any-append}
use Rattle.std.proofs.lemmas.Grind.{flat_map-append}
use Rattle.lpi_config.specs.Conf.{Conf}
use Rattle.lpi_pending.specs.InHand.{RedistParts, conf_in}
use Rattle.step_views.specs.ConfigReads.{stretch_in, read_at}
use Rattle.step_views.specs.Firsts.{has_table, is_used, is_new}
use Rattle.step_views.specs.Pairs.{is_same, is_told, with_stretch, all_told}
use Rattle.step_views.proofs.Listing.{told_more}
use Rattle.step_views.proofs.UsedTables.{range_more, used_more}

-- what is read of a redistributor whose LPIs are on
abbrev pub read_on : ℕ → ℕ → Option Conf → List (ℕ × ℕ)
read_on offset len None = []
read_on offset len (Some c) = cond c.bases.on ((c.bases.prop.table.0 + offset, len) ∷ []) []

pub not_both : (a b : Bool) → b ≡ false → (a && b) ≡ false
not_both true b e = e
not_both false b e = refl

more_of : {A : Type 0} (f : ℕ → List A) (n : ℕ) → flat_map f (range_with_len 0 (suc n)) ≡ flat_map f (range_with_len 0 n) ++ f n
more_of f n =
    ap (flat_map f) (range_more 0 n ∙ ap (λ k. range_with_len 0 n ++ k ∷ []) (zero-add n))
    ∙ flat_map-append f (range_with_len 0 n) (n ∷ []) ∙ ap (λ xs. flat_map f (range_with_len 0 n) ++ xs) (append-nil (f n))

module _ (redists : RedistParts) (offset len : ℕ) where
  abbrev stretch : ℕ → ℕ × ℕ
  stretch table = (table + offset, len)

  abbrev firsts : ℕ → List (ℕ × ℕ)
  firsts n = flat_map (read_at redists offset len) (range_with_len 0 n)

  -- a stretch is told where its table is used
  one_table : (n t u : ℕ) (b : Bool) → is_used redists n t ≡ false
      → is_told (stretch t) (cond (not (is_used redists n u)) (stretch u ∷ []) []) ≡ (eqb u t || false)
  one_table n t u b unused =
      elim (cases_eq u t) [
        | inl same ↦ subst (λ k. is_told (stretch t) (cond (not (is_used redists n k)) (stretch k ∷ []) []) ≡ (eqb k t || false)) (sym same)
            (ap (λ c. is_told (stretch t) (cond (not c) (stretch t ∷ []) [])) unused
            ∙ ap (λ c. (c && eqb len len) || false) (eq-eqb (t + offset) (t + offset) refl) ∙ ap (λ c. c || false) (eq-eqb len len refl)
            ∙ sym (ap (λ c. c || false) (eq-eqb t t refl)))
        | inr other ↦ told_apart (not (is_used redists n u)) (λ (e : t + offset ≡ u + offset). other (omega (arith, e)))
            ∙ sym (ap (λ c. c || false) (ne_eqb u t other))
      ]
    where
      told_apart : (c : Bool) → t + offset ≢ u + offset → is_told (stretch t) (cond c (stretch u ∷ []) []) ≡ false
      told_apart true apart = ap (λ d. (d && eqb len len) || false) (ne_eqb (t + offset) (u + offset) apart)
      told_apart false apart = refl

  here : (n t : ℕ) (o : Option Conf) → is_used redists n t ≡ false
      → is_told (stretch t) (cond (is_new redists n o) (stretch_in offset len o) []) ≡ (has_table o t || false)
  here n t None unused = refl
  here n t (Some c) unused =
      elim c.bases.on as (λ on. is_told (stretch t) (cond (on && not (is_used redists n c.bases.prop.table.0)) (stretch c.bases.prop.table.0 ∷ []) [])
      ≡ ((on && eqb c.bases.prop.table.0 t) || false)) [
        | true ↦ one_table n t c.bases.prop.table.0 true unused
        | false ↦ refl
      ]

  also : (n t : ℕ) (b : Bool) → is_used redists n t ≡ b
      → (b || is_told (stretch t) (read_at redists offset len n)) ≡ (b || (has_table (conf_in redists n) t || false))
  also n t true used = refl
  also n t false unused = here n t (conf_in redists n) unused

  told_used : (n t : ℕ) → is_told (stretch t) (firsts n) ≡ is_used redists n t
  told_used zero t = refl
  told_used (suc n) t =
      ap (is_told (stretch t)) (more_of (read_at redists offset len) n)
      ∙ list_any-append (is_same (stretch t)) (firsts n) (read_at redists offset len n)
      ∙ ap (λ b. b || is_told (stretch t) (read_at redists offset len n)) (told_used n t)
      ∙ also n t (is_used redists n t) refl ∙ sym (used_more redists t n)

  module _ (place : ℕ) (apart : len ≢ 32) where
    abbrev own : ℕ × ℕ
    own = (place, 32)

    last : (n t : ℕ) (b : Bool) → is_used redists n t ≡ b → is_told (stretch t) (own ∷ firsts n) ≡ b
        → with_stretch (own ∷ firsts n) (stretch t) ≡ own ∷ firsts n ++ cond (not b) (stretch t ∷ []) []
    last n t true used told = ap (λ b. cond b (own ∷ firsts n) (own ∷ firsts n ++ stretch t ∷ [])) told ∙ ap (λ xs. own ∷ xs) (sym (append-nil (firsts n)))
    last n t false used told = ap (λ b. cond b (own ∷ firsts n) (own ∷ firsts n ++ stretch t ∷ [])) told

    told_own : (n t : ℕ) → is_told (stretch t) (own ∷ firsts n) ≡ is_used redists n t
    told_own n t = ap (λ b. b || is_told (stretch t) (firsts n)) (not_both (eqb (t + offset) place) (eqb len 32) (ne_eqb len 32 apart)) ∙ told_used n t

    next : (n : ℕ) (o : Option Conf)
        → all_told (own ∷ firsts n) (read_on offset len o) ≡ own ∷ firsts n ++ cond (is_new redists n o) (stretch_in offset len o) []
    next n None = ap (λ xs. own ∷ xs) (sym (append-nil (firsts n)))
    next n (Some c) =
        elim c.bases.on as (λ on. all_told (own ∷ firsts n) (cond on (stretch c.bases.prop.table.0 ∷ []) [])
        ≡ own ∷ firsts n ++ cond (on && not (is_used redists n c.bases.prop.table.0)) (stretch c.bases.prop.table.0 ∷ []) []) [
          | true ↦ last n c.bases.prop.table.0 (is_used redists n c.bases.prop.table.0) refl (told_own n c.bases.prop.table.0)
          | false ↦ ap (λ xs. own ∷ xs) (sym (append-nil (firsts n)))
        ]

    pub told_once : (n : ℕ) → all_told (own ∷ []) (flat_map (λ v. read_on offset len (conf_in redists v)) (range_with_len 0 n)) ≡ own ∷ firsts n
    told_once zero = refl
    told_once (suc n) =
        let g : ℕ → List (ℕ × ℕ) = λ v. read_on offset len (conf_in redists v) in
        ap (all_told (own ∷ [])) (more_of g n) ∙ told_more (own ∷ []) (flat_map g (range_with_len 0 n)) (g n) ∙ ap (λ xs. all_told xs (g n)) (told_once n)
        ∙ next n (conf_in redists n) ∙ ap (λ xs. own ∷ xs) (sym (more_of (read_at redists offset len) n))
