-- From what a pass saw to what a caller in another language is shown.
use Rattle.std.proofs.Common.{◌≡◌, ℕ, List, Result, Ok, Err, inl, inr, sym, ◌∙◌, subst}
use Rattle.std.specs.Prelude.{OnErr}
use Rattle.its_types.specs.declared.machine.Placed.{Placed}
use Rattle.its_plain.specs.History.{after}
use Rattle.its_plain.specs.Plain.{Plain}
use Rattle.its_numbers.specs.Codes as codes
use Rattle.its_shared.specs.Knowing.{Known}
use Rattle.its_shared.specs.Seeing.{HasSeen, Sees, Shows, seen_code, seen_out, seen_place}
use Rattle.its_shared.specs.declared.unseen.Unseen.{Unseen}
use Rattle.its_shared.specs.declared.unseen.Unseen.TheVariants.{Busy, NoMemory}

-- one thing, which is told in `out`
pub shows_one : {O : Type 0} (wants : Type 0) (is : Plain → O → O → Type 0) (k l : Known) (r : Result (Placed O) Unseen) (code place place' : ℕ) (out out' : O)
    → Sees wants (λ u x. is u out x) k.view l.view r → code ≡ seen_code r → place' ≡ seen_place r place → out' ≡ seen_out r out
    → Shows wants is k l code place place' out out'
shows_one {O} wants is k l (Ok p) code place place' out out' s c at told = record {
  known = inl c;
  stays = s.0.stays;
  done = λ e. (
    subst (λ n. HasSeen k.view n l.view) (sym at) s.0,
    subst (λ (x : O). is (after k.view.setup.start l.view.seen) out x) (sym told) s.1,
  );
  busy = λ e. absurd (differ (sym c ∙ e));
  no_memory = λ e. absurd (other (sym c ∙ e));
  same = λ no. absurd (no c);
}
  where
    differ : codes.done ≡ codes.busy → ⊥
    differ e = cc

    other : codes.done ≡ codes.no_memory → ⊥
    other e = cc
shows_one wants is k l (Err Busy) code place place' out out' s c at told = record {
  known = inr (inl c);
  stays = s.0;
  done = λ e. absurd (differ (sym c ∙ e));
  busy = λ e. s.1;
  no_memory = λ e. absurd (other (sym c ∙ e));
  same = λ no. (at, told);
}
  where
    differ : codes.busy ≡ codes.done → ⊥
    differ e = cc

    other : codes.busy ≡ codes.no_memory → ⊥
    other e = cc
shows_one wants is k l (Err NoMemory) code place place' out out' s c at told = record {
  known = inr (inr c);
  stays = s.0;
  done = λ e. absurd (differ (sym c ∙ e));
  busy = λ e. absurd (other (sym c ∙ e));
  no_memory = λ e. s.1;
  same = λ no. (at, told);
}
  where
    differ : codes.no_memory ≡ codes.done → ⊥
    differ e = cc

    other : codes.no_memory ≡ codes.busy → ⊥
    other e = cc

-- a list and its count, of which the list stays where nothing is told
pub shows_list : {A : Type 0} (wants : Type 0) (is : Plain → List A → List A → ℕ → Type 0) (k l : Known) (r : Result (Placed ℕ) Unseen)
    (code place place' : ℕ) (list list' : List A) (count count' : ℕ) → Sees wants (λ u n. is u list list' n) k.view l.view r → OnErr r (list' ≡ list)
    → code ≡ seen_code r → place' ≡ seen_place r place → count' ≡ seen_out r count
    → Shows wants (λ (u : Plain) (before after : List A × ℕ). is u before.0 after.0 after.1) k l code place place' (list, count) (list', count')
shows_list wants is k l (Ok p) code place place' list list' count count' s only c at told =
    let one : Shows wants (λ u n m. is u list list' m) k l code place place' count count' =
    shows_one wants (λ u n m. is u list list' m) k l (Ok p) code place place' count count' s c at told in record {
      known = one.known;
      stays = one.stays;
      done = one.done;
      busy = one.busy;
      no_memory = one.no_memory;
      same = λ no. absurd (no c);
    }
shows_list wants is k l (Err e) code place place' list list' count count' s only c at told =
    let one : Shows wants (λ u n m. is u list list' m) k l code place place' count count' =
    shows_one wants (λ u n m. is u list list' m) k l (Err e) code place place' count count' s c at told in record {
      known = one.known;
      stays = one.stays;
      done = one.done;
      busy = one.busy;
      no_memory = one.no_memory;
      same = λ no. (at, λ d. (only d, told d));
    }
