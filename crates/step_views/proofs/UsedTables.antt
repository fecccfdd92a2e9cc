-- Which of the first virtual processors have LPIs on with a table.
use Rattle.std.proofs.Common.{◌≡◌, ◌≢◌, ℕ, zero, suc, ◌+◌, ◌<◌, Bool, true, false, ◌||◌, ◌&&◌, not, eqb, cond, List, [], ◌∷◌, ◌++◌, length, Some, refl, sym, ap, subst, ◌∙◌, inl, inr, arith, add-one, zero-add}
use Rattle.std.specs.List.{list_any, range_with_len}
use Rattle.std.proofs.lemmas.Bool.{cases_eq, eq-eqb, ne_eqb}
use Rattle.std.proofs.lemmas.List.Folds.{list_any-append}
use Rattle.std.proofs.lemmas.Option.{same_Some}
use Rattle.gicr_regs.specs.Registers.{AreLow}
use Rattle.its_types.specs.Bitmap.{word_bit}
use Rattle.lpi_config.specs.Conf.{Conf}
use Rattle.lpi_pending.specs.InHand.{RedistParts, conf_in}
use Rattle.step_views.specs.Firsts.{has_table, is_used, is_new, is_first, HaveConfs, AreFirsts}

pub low_tables : (n : ℕ) (redists : RedistParts) (v : ℕ) (c : Conf) → HaveConfs n redists → v < n → conf_in redists v ≡ Some c → AreLow c.bases
low_tables n redists v c there below is =
    let h = there v below in subst (λ (d : Conf). AreLow d.bases) (same_Some h.0 c (sym h.1 ∙ is)) h.2

pub range_more : (a n : ℕ) → range_with_len a (suc n) ≡ range_with_len a n ++ (a + n) ∷ []
range_more a zero = let e : a ≡ a + 0 = omega arith in ap (λ k. k ∷ []) e
range_more a (suc n) = let e : a + 1 + n ≡ a + suc n = omega arith in ap (λ xs. a ∷ xs) (range_more (a + 1) n ∙ ap (λ k. range_with_len (a + 1) n ++ k ∷ []) e)

module _ (redists : RedistParts) (table : ℕ) where
  abbrev has : ℕ → Bool
  has v = has_table (conf_in redists v) table

  pub used_more : (n : ℕ) → is_used redists (suc n) table ≡ (is_used redists n table || (has n || false))
  used_more n = ap (list_any has) (range_more 0 n ∙ ap (λ k. range_with_len 0 n ++ k ∷ []) (zero-add n)) ∙ list_any-append has (range_with_len 0 n) (n ∷ [])

or_false : (a b : Bool) → (a || (b || false)) ≡ (a || b)
or_false true b = refl
or_false false true = refl
or_false false false = refl

-- ---- with the one that comes

module _ (redists : RedistParts) (v : ℕ) (c : Conf) (is : conf_in redists v ≡ Some c) (used : ℕ → Bool) (before : (t : ℕ) → is_used redists v t ≡ used t) where
  pub used_with : (t : ℕ) → is_used redists (v + 1) t ≡ (used t || has_table (Some c) t)
  used_with t =
      rw add-one (used_more redists t v ∙ or_false (is_used redists v t) (has_table (conf_in redists v) t)
      ∙ ap (λ b. b || has_table (conf_in redists v) t) (before t) ∙ ap (λ o. used t || has_table o t) is)

  pub first_is : (b : Bool) → b ≡ (c.bases.on && not (used c.bases.prop.table.0)) → b ≡ is_first redists v
  first_is b first =
      first ∙ ap (λ u. c.bases.on && not u) (sym (before c.bases.prop.table.0)) ∙ ap (is_new redists v) (sym is)

pub marked_more : (redists : RedistParts) (n at : ℕ) (b : Bool) (old now : List ℕ) → AreFirsts n redists old → at ≡ n → length now ≡ length old
    → ((k : ℕ) → word_bit now k ≡ cond (eqb k at) b (word_bit old k)) → b ≡ is_first redists n → AreFirsts (n + 1) redists now
marked_more redists n at b old now before here size bits first = record {
  size = size ∙ before.size;
  marked = λ k below. bits k ∙ (elim (cases_eq k at) [
    | inl same ↦ ap (λ e. cond e b (word_bit old k)) (eq-eqb k at same) ∙ first ∙ ap (is_first redists) (sym (same ∙ here))
    | inr other ↦ ap (λ e. cond e b (word_bit old k)) (ne_eqb k at other)
        ∙ before.marked k (let apart : k ≢ n = λ (e : k ≡ n). other (e ∙ sym here) in omega (arith, below, apart))
  ]);
}
