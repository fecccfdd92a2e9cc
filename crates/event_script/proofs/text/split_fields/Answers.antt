use Rattle.std.proofs.Common.{rules, tests, ◌≡◌, ◌==◌, ℕ, List, Bor, Option, None, length, map, filter, ap, ◌∙◌}
use Rattle.std.specs.Prelude.{not}
use Rattle.std.specs.Iterator.{Yields}
use Rattle.std.proofs.lemmas.Iterator.{YieldsList}
use Rattle.std.proofs.lemmas.Iterator.Consumers.{YieldsList-at, YieldsList-end}
use Rattle.std.proofs.lemmas.Iterator.Splits.{YieldsList-from_slice_split}
use Rattle.event_script.proofs.text.split_fields.Goals as goal

-- at the end of a loop over slices all of them were yielded
all_yielded : {S : Type 0} {steps : S → Option (Bor (List ℕ)) → S → Type 0} {s : S} {all : List (List ℕ)} (xs : List (Bor (List ℕ))) (t : S)
    → Yields steps s xs t
    → (r : Option (Bor (List ℕ))) (u : S) → r ≡ None → steps t r u → YieldsList steps (λ x. x.now) s all → map (λ x. x.now) xs ≡ all
all_yielded xs t y r u e h road = (YieldsList-end road xs t y r u e h).0

pub returns : goal.returns
returns c =
    c.loop-field.invariant
    ∙ ap (filter (λ f. not (length f == 0)))
    (all_yielded c.loop-field.yielded _ c.loop-field.yielded_by _ _ c.in-None.is c.next.ensures.steps
    (YieldsList-at c.into_iter-field-iterator.ensures.into_iter_gives
    (YieldsList-from_slice_split _ (λ b. b == 32) c.args.line.now c.split-field-items.ensures.rest c.split-field-items.ensures.done
    c.split-field-items.ensures.closure (λ x r q k. search (rules, tests)))))
