-- What holds of each call of a leg's threads holds of each entry of its history.
use Rattle.std.proofs.Common.{◌≡◌, ℕ, suc, ◌+◌, eqb, List, [], ◌∷◌, length, inl, inr, sym, subst, arith}
use Rattle.std.specs.List.{AllByRecursion}
use Rattle.std.proofs.lemmas.Bool.{cond_both, cases_eq, both_ways, eq-eqb}
use Rattle.its_plain.specs.History.{calls_by}
use Rattle.its_plain.specs.Runs.{Phase, Leg, IsOfPasses, HasCalls, ArePhases}
use Rattle.its_plain.specs.declared.call.Call.{Call}
use Rattle.its_plain.specs.declared.call.Entry.{Entry}
use Rattle.script_gen.proofs.Lists.{all_append}

module _ (P : Call → Type 0) where
  -- each call of the pass
  abbrev OfPass : ℕ → Entry → Type 0
  OfPass pass e = e.pass ≡ pass → P e.call

  -- each call of the passes from one on, of which there are so many
  abbrev OfPasses : ℕ → ℕ → Entry → Type 0
  OfPasses pass count e = IsOfPasses pass count e → P e.call

  of_pass : (pass : ℕ) (h : List Entry) → AllByRecursion P (calls_by pass h) → AllByRecursion (OfPass pass) h
  of_pass pass [] all = tt
  of_pass pass (e ∷ h) all =
      cond_both (eqb e.pass pass) (e.call ∷ calls_by pass h) (calls_by pass h) (λ cs. AllByRecursion P cs → AllByRecursion (OfPass pass) (e ∷ h))
      (λ _ here. (λ _. here.0, of_pass pass h here.1))
      (λ other here. (λ same. absurd (both_ways (eqb e.pass pass) other (eq-eqb e.pass pass same)), of_pass pass h here)) all

  one_more : (pass count : ℕ) (e : Entry) → OfPass pass e → OfPasses (suc pass) count e → OfPasses pass (suc count) e
  one_more pass count e first rest within =
      elim (cases_eq e.pass pass) [ inl same ↦ first same | inr other ↦ let low = within.0 in let high = within.1 in rest (omega (arith, other), omega arith) ]

  both : (pass count : ℕ) (h : List Entry) → AllByRecursion (OfPass pass) h → AllByRecursion (OfPasses (suc pass) count) h
      → AllByRecursion (OfPasses pass (suc count)) h
  both pass count [] first rest = tt
  both pass count (e ∷ h) first rest = (one_more pass count e first.0 rest.0, both pass count h first.1 rest.1)

  none : (pass : ℕ) (h : List Entry) → AllByRecursion (OfPasses pass 0) h
  none pass [] = tt
  none pass (e ∷ h) = (λ within. let low = within.0 in let high = within.1 in absurd (omega arith), none pass h)

  of_threads : (pass : ℕ) (threads : Phase) (h : List Entry) → HasCalls pass threads h → AllByRecursion (λ calls. AllByRecursion P calls) threads
      → AllByRecursion (OfPasses pass (length threads)) h
  of_threads pass [] h has all = none pass h
  of_threads pass (calls ∷ threads) h has all =
      both pass (length threads) h (of_pass pass h (subst (AllByRecursion P) (sym has.0) all.0)) (of_threads (suc pass) threads h has.1 all.1)

  within_passes : (pass count : ℕ) (h : List Entry) → AllByRecursion (IsOfPasses pass count) h → AllByRecursion (OfPasses pass count) h
      → AllByRecursion (λ (e : Entry). P e.call) h
  within_passes pass count [] only all = tt
  within_passes pass count (e ∷ h) only all = (all.0 only.0, within_passes pass count h only.1 all.1)

  pub of_leg : (pass : ℕ) (leg : Leg) (h : List Entry) → ArePhases pass leg h
      → AllByRecursion (λ threads. AllByRecursion (λ calls. AllByRecursion P calls) threads) leg
      → AllByRecursion (λ (e : Entry). P e.call) h
  of_leg pass [] h is all = subst (AllByRecursion (λ (e : Entry). P e.call)) (sym is) tt
  of_leg pass (threads ∷ leg) h (now, rest, split, phase, phases) all =
      subst (AllByRecursion (λ (e : Entry). P e.call)) (sym split)
      (all_append (λ (e : Entry). P e.call) now rest (within_passes pass (length threads) now phase.only (of_threads pass threads now phase.calls all.0))
      (of_leg (pass + length threads) leg rest phases all.1))
