-- Legs that run one after another, with migrations between.
use Rattle.std.proofs.Common.{◌≡◌, ℕ, suc, ◌+◌, ◌≤◌, Bool, List, [], ◌∷◌, ◌++◌, length, drop, Some, refl, sym, ap, subst, ◌∙◌, append_assoc, inl, inr, arith}
use Rattle.std.proofs.Math.Seq.{drop-nil}
use Rattle.std.proofs.lemmas.List.{append-nil}
use Rattle.its_plain.specs.Plain.{Plain}
use Rattle.its_plain.specs.History.{after}
use Rattle.its_plain.specs.Saved.{moved, IsSavable}
use Rattle.its_plain.specs.Runs.{Phase, Leg, HasFirstCalls, ArePhases, ArePartOfPhases, IsLegRun, IsPartOfLegRun, IsRun, IsPartialRun, call_count}
use Rattle.its_plain.specs.declared.call.Entry.{Entry}
use Rattle.its_history.specs.Report.{leg_text, legs_from, report_text}
use Rattle.its_history.specs.declared.trace.End.TheVariants.{Done}
use Rattle.its_history.specs.declared.trace.Leg.{Leg as LegLines}
use Rattle.its_answers.specs.Legs.{HasPlaces, HaveRun}
use Rattle.its_history.specs.Reports.{reported, migrated, ended, moved_leg}

pub head_of : {X : Type 0} (x y : X) (xs ys : List X) → x ∷ xs ≡ y ∷ ys → x ≡ y
head_of x y xs ys e = cc

pub rest_of : {X : Type 0} (x y : X) (xs ys : List X) → x ∷ xs ≡ y ∷ ys → xs ≡ ys
rest_of x y xs ys e = cc

pub not_empty : {X : Type 0} {Y : Type 0} (x : X) (xs : List X) → x ∷ xs ≡ [] → Y
not_empty x xs e = absurd cc

-- ---- one leg more

pub ran_more : (last : ℕ) (first : Plain) (legs : List Leg) (hs : List (List Entry)) (now : Plain) (leg : Leg) (left : List Leg) (h : List Entry)
    → HaveRun last first legs hs now (leg ∷ left) → call_count leg ≤ last → IsLegRun now leg h → IsSavable (after now h)
    → HaveRun last first legs (hs ++ h ∷ []) (moved (after now h)) left
ran_more last first [] [] now leg left h r fits is can = not_empty leg left r.1
ran_more last first [] (g ∷ hs) now leg left h r fits is can = absurd r
ran_more last first (l ∷ legs) [] now leg left h r fits is can =
    let same : leg ≡ l = head_of leg l left legs r.1 in (
      subst (λ (k : Leg). call_count k ≤ last) same fits,
      subst (λ (u : Plain). IsLegRun u l h) r.0 (subst (λ (k : Leg). IsLegRun now k h) same is),
      subst (λ (u : Plain). IsSavable (after u h)) r.0 can,
      (ap (λ (u : Plain). moved (after u h)) r.0, rest_of leg l left legs r.1),
    )
ran_more last first (l ∷ legs) (g ∷ hs) now leg left h r fits is can =
    (r.0, r.1, r.2, ran_more last (moved (after first g)) legs hs now leg left h r.3 fits is can)

drop_next : {X : Type 0} (n : ℕ) (xs : List X) → drop n (drop 1 xs) ≡ drop (suc n) xs
drop_next n [] = drop-nil n
drop_next n (x ∷ xs) = refl

module _ (last : ℕ) where
  pub migrated_more : (first : Plain) (legs : List Leg) (copies : List Bool) (hs : List (List Entry)) (now : Plain) (leg : Leg) (left : List Leg)
      (h : List Entry) → HaveRun last first legs hs now (leg ∷ left)
      → migrated first legs copies (hs ++ h ∷ []) ≡ migrated first legs copies hs ++ moved_leg now leg (drop (length hs) copies) h ∷ []
  migrated_more first [] copies [] now leg left h r = not_empty leg left r.1
  migrated_more first [] copies (g ∷ hs) now leg left h r = absurd r
  migrated_more first (l ∷ legs) copies [] now leg left h r =
      ap (λ (u : Plain). moved_leg u l copies h ∷ []) (sym r.0) ∙ ap (λ (k : Leg). moved_leg now k copies h ∷ []) (sym (head_of leg l left legs r.1))
  migrated_more first (l ∷ legs) copies (g ∷ hs) now leg left h r =
      let later = moved (after first g) in
      ap (λ (ls : List LegLines). moved_leg first l copies g ∷ ls) (migrated_more later legs (drop 1 copies) hs now leg left h r.3
      ∙ ap (λ (cs : List Bool). migrated later legs (drop 1 copies) hs ++ moved_leg now leg cs h ∷ []) (drop_next (length hs) copies))

  pub as_many : (first : Plain) (legs : List Leg) (copies : List Bool) (hs : List (List Entry)) (now : Plain) (left : List Leg)
      → HaveRun last first legs hs now left → length (migrated first legs copies hs) ≡ length hs
  as_many first [] copies [] now left r = refl
  as_many first [] copies (g ∷ hs) now left r = absurd r
  as_many first (l ∷ legs) copies [] now left r = refl
  as_many first (l ∷ legs) copies (g ∷ hs) now left r = ap suc (as_many (moved (after first g)) legs (drop 1 copies) hs now left r.3)

-- ---- their text

texts_more : (n m : ℕ) (xs : List LegLines) (x : LegLines) → m ≡ n + length xs → legs_from n (xs ++ x ∷ []) ≡ legs_from n xs ++ leg_text m x
texts_more n m [] x e = let same : n ≡ m = omega (arith, e) in append-nil (leg_text n x) ∙ ap (λ k. leg_text k x) same
texts_more n m (y ∷ xs) x e =
    ap (λ (t : List ℕ). leg_text n y ++ t) (texts_more (n + 1) m xs x (omega (arith, e)))
    ∙ sym (append_assoc (leg_text n y) (legs_from (n + 1) xs) (leg_text m x))

-- a report with the next leg behind it
pub report_more : (n : ℕ) (xs : List LegLines) (x : LegLines) (old new : List ℕ) → old ≡ report_text xs → n ≡ length xs + 1 → new ≡ old ++ leg_text n x
    → new ≡ report_text (xs ++ x ∷ [])
report_more n xs x old new was count added =
    added ∙ ap (λ (t : List ℕ). t ++ leg_text n x) was ∙ sym (texts_more 1 n xs x (omega (arith, count)))

-- ---- a whole run

pub whole_run : (last : ℕ) (first : Plain) (legs : List Leg) (hs : List (List Entry)) (now : Plain) (leg : Leg) (h : List Entry)
    → HaveRun last first legs hs now (leg ∷ []) → IsLegRun now leg h → IsRun first legs (hs ++ h ∷ [])
whole_run last first [] [] now leg h r is = not_empty leg [] r.1
whole_run last first [] (g ∷ hs) now leg h r is = absurd r
whole_run last first (l ∷ []) [] now leg h r is =
    (h, refl, subst (λ (u : Plain). IsLegRun u l h) r.0 (subst (λ (k : Leg). IsLegRun now k h) (head_of leg l [] [] r.1) is))
whole_run last first (l ∷ next ∷ legs) [] now leg h r is = not_empty next legs (sym (rest_of leg l [] (next ∷ legs) r.1))
whole_run last first (l ∷ []) (g ∷ []) now leg h r is = not_empty leg [] r.3.1
whole_run last first (l ∷ []) (g ∷ f ∷ hs) now leg h r is = absurd r.3
whole_run last first (l ∷ next ∷ legs) (g ∷ hs) now leg h r is =
    (g, hs ++ h ∷ [], refl, r.1, r.2, whole_run last (moved (after first g)) (next ∷ legs) hs now leg h r.3 is)

pub whole_places : (last : ℕ) (first : Plain) (legs : List Leg) (hs : List (List Entry)) (now : Plain) (leg : Leg)
    → HaveRun last first legs hs now (leg ∷ []) → call_count leg ≤ last → HasPlaces last legs
whole_places last first [] hs now leg r fits = tt
whole_places last first (l ∷ legs) [] now leg r fits =
    (subst (λ (k : Leg). call_count k ≤ last) (head_of leg l [] legs r.1) fits, subst (λ (ls : List Leg). HasPlaces last ls) (rest_of leg l [] legs r.1) tt)
whole_places last first (l ∷ legs) (g ∷ hs) now leg r fits = (r.0, whole_places last (moved (after first g)) legs hs now leg r.3 fits)

pub whole_report : (last : ℕ) (first : Plain) (legs : List Leg) (copies : List Bool) (hs : List (List Entry)) (now : Plain) (leg : Leg) (h : List Entry)
    → HaveRun last first legs hs now (leg ∷ [])
    → migrated first legs copies hs ++ ended now leg h (Some Done) ∷ [] ≡ reported first legs copies (hs ++ h ∷ [])
whole_report last first [] copies [] now leg h r = not_empty leg [] r.1
whole_report last first [] copies (g ∷ hs) now leg h r = absurd r
whole_report last first (l ∷ []) copies [] now leg h r =
    ap (λ (u : Plain). ended u leg h (Some Done) ∷ []) r.0 ∙ ap (λ (k : Leg). ended first k h (Some Done) ∷ []) (head_of leg l [] [] r.1)
whole_report last first (l ∷ next ∷ legs) copies [] now leg h r = not_empty next legs (sym (rest_of leg l [] (next ∷ legs) r.1))
whole_report last first (l ∷ []) copies (g ∷ []) now leg h r = not_empty leg [] r.3.1
whole_report last first (l ∷ []) copies (g ∷ f ∷ hs) now leg h r = absurd r.3
whole_report last first (l ∷ next ∷ legs) copies (g ∷ hs) now leg h r =
    ap (λ (ls : List LegLines). moved_leg first l copies g ∷ ls) (whole_report last (moved (after first g)) (next ∷ legs) (drop 1 copies) hs now leg h r.3)

-- ---- a partial run

part_of_phases : (pass : ℕ) (leg : Leg) (h : List Entry) → ArePhases pass leg h → ArePartOfPhases pass leg h
part_of_phases pass [] h is = is
part_of_phases pass (threads ∷ phases) h is = inr (is.0, is.1, is.2, is.3, part_of_phases (pass + length threads) phases is.1 is.4)

pub part_of_whole : (u : Plain) (leg : Leg) (h : List Entry) → IsLegRun u leg h → IsPartOfLegRun u leg h
part_of_whole u leg h is = record { legal = is.legal; calls = part_of_phases 1 leg h is.calls }

no_calls : (pass : ℕ) (threads : Phase) → HasFirstCalls pass threads []
no_calls pass [] = tt
no_calls pass (calls ∷ threads) = ((calls, refl), no_calls (suc pass) threads)

nothing_yet : (pass : ℕ) (leg : Leg) → ArePartOfPhases pass leg []
nothing_yet pass [] = refl
nothing_yet pass (threads ∷ phases) = inl (record { only = tt; calls = no_calls pass threads })

pub part_of_none : (u : Plain) (leg : Leg) → IsPartOfLegRun u leg []
part_of_none u leg = record { legal = tt; calls = nothing_yet 1 leg }

pub partial_run : (last : ℕ) (first : Plain) (legs : List Leg) (hs : List (List Entry)) (now : Plain) (leg : Leg) (later : List Leg) (h : List Entry)
    → HaveRun last first legs hs now (leg ∷ later) → IsPartOfLegRun now leg h → IsPartialRun first legs (hs ++ h ∷ [])
partial_run last first [] [] now leg later h r is = not_empty leg later r.1
partial_run last first [] (g ∷ hs) now leg later h r is = absurd r
partial_run last first (l ∷ legs) [] now leg later h r is =
    inl (h, refl, subst (λ (u : Plain). IsPartOfLegRun u l h) r.0 (subst (λ (k : Leg). IsPartOfLegRun now k h) (head_of leg l later legs r.1) is))
partial_run last first (l ∷ legs) (g ∷ hs) now leg later h r is =
    inr (g, hs ++ h ∷ [], refl, r.1, r.2, partial_run last (moved (after first g)) legs hs now leg later h r.3 is)
