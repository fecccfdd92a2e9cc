-- A turn in a phase: whose call it is, and what is made then.
use Rattle.std.proofs.Common.{◌≡◌, ℕ, ◌+◌, ◌<◌, List, length, get_or, drop, set, Some, sym, ap, subst, ◌∙◌, arith}
use Rattle.std.proofs.lemmas.List.{drop_more, get_or_read, length-set, with_items_is}
use Rattle.std.specs.Prelude.{slice_index}
use Rattle.std.specs.Vec.{with_items}
use Rattle.std.specs.declared.vec.Vec.{Vec}
use Rattle.its_plain.specs.Runs.{Phase, Leg}
use Rattle.its_plain.specs.declared.call.Call.{Call}
use Rattle.trace_check.specs.Cursors.{threads_of, call_of, more}

module _ (leg : Leg) (i : ℕ) (item threads : Phase) (lt : i < length leg) (is : item ≡ get_or leg i item) (same : threads ≡ item) where
  -- the phase that is played is the first of those that are left
  pub first_is : threads_of (drop i leg) ≡ threads
  first_is = ap threads_of (drop_more leg i item lt) ∙ (sym is ∙ sym same)

  pub threads_there : threads ≡ get_or leg i threads
  threads_there = same ∙ get_or_read leg i item lt is threads

  -- a thread's call is that of a phase that is left
  pub call_there : (slice ns : List ℕ) (t : ℕ) (call : Call) → slice ≡ ns → call_of threads slice t ≡ Some call
      → call_of (threads_of (drop i leg)) ns t ≡ Some call
  call_there slice ns t call at e =
      subst (λ (ts : Phase). call_of ts ns t ≡ Some call) (sym first_is) (subst (λ (xs : List ℕ). call_of threads xs t ≡ Some call) at e)

-- one more call of a thread is made
module _ {Z : Type 0} (v : Vec ℕ Z) (slice new : List ℕ) (t : ℕ) (at : slice ≡ v.items) (is : new ≡ more slice t) where
  new_long : length new ≡ length v.items
  new_long = ap length is ∙ (length-set slice t (slice_index slice t + 1) ∙ ap length at)

  pub more_made : (with_items v new).items ≡ more v.items t
  more_made = with_items_is v new (new_long ∙ sym v.ok.0) ∙ (is ∙ ap (λ (ns : List ℕ). more ns t) at)

  pub more_long : length (with_items v new).items ≡ length v.items
  more_long = ap length more_made ∙ length-set v.items t (slice_index v.items t + 1)
