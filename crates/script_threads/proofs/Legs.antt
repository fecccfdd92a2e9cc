-- A leg, phase by phase.
use Rattle.std.proofs.Common.{◌≡◌, ℕ, suc, ◌+◌, ◌<◌, ◌≤◌, List, [], ◌∷◌, ◌++◌, map, length, get_or, drop, Option, None, Any, refl, ap, sym, ◌∙◌, subst, inl}
use Rattle.std.proofs.Common.{inr}
use Rattle.std.proofs.Common.{arith, append_assoc, append-nil, length-append, drop-cons, true≢false}
use Rattle.std.specs.List.{AllByRecursion}
use Rattle.std.proofs.lemmas.List.{drop_all}
use Rattle.its_types.specs.declared.machine.Placed.{Placed}
use Rattle.its_plain.specs.History.{IsLegal}
use Rattle.its_plain.specs.Runs.{Phase, Leg, IsOfPasses, ArePhases, ArePartOfPhases, HasFirstCalls}
use Rattle.its_plain.specs.declared.call.Entry.{Entry}
use Rattle.its_plain.specs.declared.call.Reply.{Reply}
use Rattle.its_history.specs.declared.threads.ThreadList.{ThreadList}
use Rattle.its_history.specs.Histories.{seat_of, passes_lines}
use Rattle.its_history.specs.Merged.{all_lines}
use Rattle.its_steps.specs.Parts.{Setup}
use Rattle.its_steps.specs.World.{View}
use Rattle.its_steps.proofs.Lists.{all_weaker}
use Rattle.script_threads.specs.Legs.{RanLeg, StopsAtMemory, phase_lines, threads_in}
use Rattle.script_threads.specs.Phases.{IsCutAtMemory, Phased, SomeThread, calls_of, replies_of}
use Rattle.script_threads.specs.Rests.{Rests}
use Rattle.script_threads.specs.declared.stop.Stop.{Stop}
use Rattle.script_threads.proofs.Counts.{calls_in, calls_more, calls_most, calls_all}
use Rattle.script_threads.proofs.Lines.{passes_more, phase_passes, seat_at, threads_more}

all_append : {A : Type 0} (P : A → Type 0) (xs ys : List A) → AllByRecursion P xs → AllByRecursion P ys → AllByRecursion P (xs ++ ys)
all_append P [] ys ps qs = qs
all_append P (x ∷ xs) ys ps qs = (ps.0, all_append P xs ys ps.1 qs)

-- k phases of a leg are done, and these are the lists of their threads
pub record Going (s : Setup) (phases : Leg) (k : ℕ) (lists : List ThreadList) (w : View) : Type 0 where
  pub rests : Rests w
  pub setup : w.setup ≡ s
  pub legal : IsLegal s.start w.seen
  pub run : (rest : List Entry) → ArePhases w.root.made (drop k phases) rest → ArePhases 1 phases (w.seen ++ rest)
  pub part : (rest : List Entry) → ArePartOfPhases w.root.made (drop k phases) rest → ArePartOfPhases 1 phases (w.seen ++ rest)
  pub fits : length w.seen ≤ s.limits.place_last
  pub all : length w.seen ≡ calls_in k phases
  pub made : w.root.made ≡ 1 + threads_in k phases
  pub only : AllByRecursion (IsOfPasses 1 (threads_in k phases)) w.seen
  pub lines : all_lines lists ≡ passes_lines (seat_of (map length phases)) 1 (threads_in k phases) 0 w.seen

pub going_none : (s : Setup) (phases : Leg) (lists : List ThreadList) (w : View) → Rests w → w.setup ≡ s → w.root.made ≡ 1 → w.seen ≡ [] → lists ≡ []
    → Going s phases 0 lists w
going_none s phases lists w rests same made seen none = record {
  rests = rests;
  setup = same;
  legal = subst (IsLegal s.start) (sym seen) tt;
  run = λ rest r. subst (λ (z : List Entry). ArePhases 1 phases (z ++ rest)) (sym seen) (subst (λ (m : ℕ). ArePhases m phases rest) made r);
  part = λ rest r. subst (λ (z : List Entry). ArePartOfPhases 1 phases (z ++ rest)) (sym seen) (subst (λ (m : ℕ). ArePartOfPhases m phases rest) made r);
  fits = omega (arith, ap (λ (z : List Entry). length z) seen);
  all = ap (λ (z : List Entry). length z) seen;
  made = omega (arith, made);
  only = subst (AllByRecursion (IsOfPasses 1 0)) (sym seen) tt;
  lines = ap all_lines none;
}

module _ (s : Setup) (phases : Leg) (k : ℕ) (threads : Phase) (below : k < length phases) (at : threads ≡ get_or phases k threads) (v w : View)
    (lists more : List ThreadList) (was : Going s phases k lists v)
    (replies : List (List (Placed Reply))) (stop : Option Stop) (p : Phased v threads replies stop w) (added : all_lines more ≡ all_lines lists
    ++ phase_lines (k + 1) 1 threads replies) (stops : SomeThread IsCutAtMemory threads replies → Any StopsAtMemory more) where
  left : drop k phases ≡ threads ∷ drop (k + 1) phases
  left = let next : suc k ≡ k + 1 = omega arith in drop-cons phases k threads below ∙ (λ d. sym at d ∷ drop (next d) phases)

  together : (rest : List Entry) → v.seen ++ (p.more ++ rest) ≡ w.seen ++ rest
  together rest = sym (append_assoc v.seen p.more rest) ∙ ap (λ z. z ++ rest) (sym p.seen)

  abbrev count : ℕ
  count = threads_in k phases

  counts : threads_in (k + 1) phases ≡ count + length threads
  counts = threads_more k phases threads below ∙ ap (λ (z : Phase). count + length z) (sym at)

  made_is : w.root.made ≡ 1 + threads_in (k + 1) phases
  made_is = omega (arith, p.made, was.made, counts)

  new : AllByRecursion (IsOfPasses (1 + count) (length threads)) p.more
  new = subst (λ (m : ℕ). AllByRecursion (IsOfPasses m (length threads)) p.more) was.made p.part.only

  only_is : AllByRecursion (IsOfPasses 1 (threads_in (k + 1) phases)) w.seen
  only_is = subst (AllByRecursion (IsOfPasses 1 (threads_in (k + 1) phases))) (sym p.seen) (all_append (IsOfPasses 1 (threads_in (k + 1) phases)) v.seen p.more
      (all_weaker (IsOfPasses 1 count) (IsOfPasses 1 (threads_in (k + 1) phases)) v.seen (λ e o. (o.0, omega (arith, o.1, counts))) was.only)
      (all_weaker (IsOfPasses (1 + count) (length threads)) (IsOfPasses 1 (threads_in (k + 1) phases)) p.more
      (λ e o. (omega (arith, o.0), omega (arith, o.1, counts))) new))

  seats : (i : ℕ) → i < length threads → seat_of (map length phases) (1 + count + i) ≡ (k + 1, 1 + i)
  seats i lt = let z : 1 + k ≡ k + 1 = omega arith in
      seat_at 1 k i phases threads below (subst (λ (z : Phase). i < length z) at lt) ∙ ap (λ n. (n, 1 + i)) z

  phase_is : phase_lines (k + 1) 1 threads replies ≡ passes_lines (seat_of (map length phases)) (1 + count) (length threads) (length v.seen) p.more
  phase_is = ap (phase_lines (k + 1) 1 threads) p.lists_are
      ∙ (ap (λ m. phase_lines (k + 1) 1 threads (replies_of m (length threads) (length v.seen) p.more)) was.made
      ∙ phase_passes (seat_of (map length phases)) (k + 1) 1 (1 + count) (length v.seen) threads p.more
      (subst (λ (m : ℕ). HasFirstCalls m threads p.more) was.made p.part.calls) seats)

  lines_are : all_lines more ≡ passes_lines (seat_of (map length phases)) 1 (threads_in (k + 1) phases) 0 w.seen
  lines_are =
      added ∙ ((λ d. was.lines d ++ phase_is d)
      ∙ (passes_more (seat_of (map length phases)) count (length threads) v.seen p.more
      (all_weaker (IsOfPasses 1 count) (λ (e : Entry). e.pass < 1 + count) v.seen (λ e o. o.1) was.only)
      (all_weaker (IsOfPasses (1 + count) (length threads)) (λ (e : Entry). 1 + count ≤ e.pass) p.more (λ e o. o.0) new)
      ∙ (λ d. passes_lines (seat_of (map length phases)) 1 (sym counts d) 0 (sym p.seen d))))

  fits_is : length w.seen ≤ s.limits.place_last
  fits_is = subst (λ (z : Setup). length w.seen ≤ z.limits.place_last) was.setup p.fits

  long_is : length w.seen ≡ calls_in k phases + length p.more
  long_is = omega (arith, ap (λ (z : List Entry). length z) p.seen, length-append v.seen p.more, was.all)

  calls_is : calls_in (k + 1) phases ≡ calls_in k phases + calls_of threads
  calls_is = calls_more k phases threads below ∙ ap (λ (z : Phase). calls_in k phases + calls_of z) (sym at)

  legal_is : IsLegal s.start w.seen
  legal_is = subst (λ (z : Setup). IsLegal z.start w.seen) was.setup p.legal

  pub going_more : stop ≡ None → Going s phases (k + 1) more w
  going_more none = record {
    rests = p.rests;
    setup = p.setup ∙ was.setup;
    legal = legal_is;
    run = λ rest r. subst (ArePhases 1 phases) (together rest)
        (was.run (p.more ++ rest) (subst (λ (z : Leg). ArePhases v.root.made z (p.more ++ rest)) (sym left)
        (p.more, rest, refl, p.whole none, subst (λ (m : ℕ). ArePhases m (drop (k + 1) phases) rest) p.made r)));
    part = λ rest r. subst (ArePartOfPhases 1 phases) (together rest)
        (was.part (p.more ++ rest) (subst (λ (z : Leg). ArePartOfPhases v.root.made z (p.more ++ rest)) (sym left)
        (inr (p.more, rest, refl, p.whole none, subst (λ (m : ℕ). ArePartOfPhases m (drop (k + 1) phases) rest) p.made r))));
    fits = fits_is;
    all = omega (arith, long_is, calls_is, p.all none);
    made = made_is;
    only = only_is;
    lines = lines_are;
  }

  -- where a phase stopped, what it did is the last part
  pub cut_short : (stop ≡ None → ⊥) → RanLeg s phases more stop w
  cut_short stopped = record {
    rests = p.rests;
    setup = p.setup ∙ was.setup;
    legal = legal_is;
    part = subst (ArePartOfPhases 1 phases) (sym p.seen) (was.part p.more (subst (λ (z : Leg). ArePartOfPhases v.root.made z p.more) (sym left) (inl p.part)));
    whole = λ none. absurd (stopped none);
    count = threads_in (k + 1) phases;
    made = made_is;
    only = only_is;
    lines = lines_are;
    fits = fits_is;
    all = λ none. absurd (stopped none);
    short = λ some. omega (arith, long_is, calls_is, p.short some, calls_most (k + 1) phases);
    spent = λ e. (p.spent e).1 ∙ ap (λ (z : Setup). z.limits.place_last) was.setup;
    memory = λ e. stops (p.memory e);
  }

pub went_through : (s : Setup) (phases : Leg) (k : ℕ) (lists : List ThreadList) (w : View) → Going s phases k lists w → length phases ≤ k
    → RanLeg s phases lists None w
went_through s phases k lists w was le = let none : drop k phases ≡ [] = drop_all k phases le in record {
  rests = was.rests;
  setup = was.setup;
  legal = was.legal;
  part = subst (ArePartOfPhases 1 phases) (append-nil w.seen) (was.part [] (subst (λ (z : Leg). ArePartOfPhases w.root.made z []) (sym none) refl));
  whole = λ _. subst (ArePhases 1 phases) (append-nil w.seen) (was.run [] (subst (λ (z : Leg). ArePhases w.root.made z []) (sym none) refl));
  count = threads_in k phases;
  made = was.made;
  only = was.only;
  lines = was.lines;
  fits = was.fits;
  all = λ _. was.all ∙ calls_all k phases le;
  short = λ some. absurd (true≢false (sym some));
  spent = λ e. absurd (cc e);
  memory = λ e. absurd (cc e);
}
