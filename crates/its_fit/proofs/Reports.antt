-- The report of an order that is put together.
use Rattle.std.proofs.Common.{◌≡◌, ℕ, suc, ◌+◌, List, [], ◌∷◌, ◌++◌, length, refl, sym, ap, subst, ◌∙◌, arith, append-nil, append_assoc}
use Rattle.its_history.specs.ReadBack.{ArePlaced, HasShape}
use Rattle.its_history.specs.declared.trace.EntryLine.{EntryLine}
use Rattle.its_history.specs.declared.trace.Leg.{Leg as LegLines}
use Rattle.its_fit.specs.Explained.{Line, entries_from, report_of}
use Rattle.its_fit.specs.Ordered.{AreLinesOf}
use Rattle.its_fit.specs.declared.replay.Made.{Made}
use Rattle.its_fit.specs.declared.told.Answered.{Answered}

placed_from : (n : ℕ) (lines : List Line) → ArePlaced n (entries_from n lines)
placed_from n [] = tt
placed_from n (l ∷ lines) =
    let on : suc n ≡ n + 1 = omega arith in (refl, subst (λ (k : ℕ). ArePlaced k (entries_from (suc n) lines)) on (placed_from (suc n) lines))

pub has_shape : (vcpus : ℕ) (lines : List Line) (pending : List (List ℕ)) (legs : List LegLines) → length pending ≡ vcpus
    → legs ≡ report_of lines pending ∷ [] → HasShape vcpus 1 [] legs
has_shape vcpus lines pending legs long e =
    subst (λ (l : List LegLines). HasShape vcpus 1 [] l) (sym e) (record { placed = placed_from 0 lines; pending = long; ends = refl }, tt)

-- ---- entries, one after another

-- some entries stand, and these calls are left
pub record Left (threads : List (List Answered)) (all : List Line) (entries : List EntryLine) (rest : List Made) : Type 0 where
  pub lines : List Line
  pub are_lines : AreLinesOf threads rest lines
  pub same : entries ++ entries_from (length entries) lines ≡ entries_from 0 all

pub none_left : (threads : List (List Answered)) (all : List Line) (entries : List EntryLine) → Left threads all entries [] → entries ≡ entries_from 0 all
none_left threads all entries x = go x.lines x.are_lines x.same
  where
    go : (lines : List Line) → AreLinesOf threads [] lines → entries ++ entries_from (length entries) lines ≡ entries_from 0 all → entries ≡ entries_from 0 all
    go [] names e = sym (append-nil entries) ∙ e
    go (l ∷ lines) names e = absurd names

pub one_more : (threads : List (List Answered)) (all : List Line) (entries : List EntryLine) (m : Made) (rest : List Made) (entry : EntryLine)
    → ((l : Line) → AreLinesOf threads (m ∷ []) (l ∷ []) → entry ∷ [] ≡ entries_from (length entries) (l ∷ [])) → Left threads all entries (m ∷ rest)
    → Left threads all (entries ++ entry ∷ []) rest
one_more threads all entries m rest entry is x = go x.lines x.are_lines x.same
  where
    long : (xs : List EntryLine) (y : EntryLine) → length (xs ++ y ∷ []) ≡ suc (length xs)
    long [] y = refl
    long (z ∷ xs) y = ap suc (long xs y)

    go : (lines : List Line) → AreLinesOf threads (m ∷ rest) lines → entries ++ entries_from (length entries) lines ≡ entries_from 0 all
        → Left threads all (entries ++ entry ∷ []) rest
    go [] names e = absurd names
    go (l ∷ lines) names e = record {
      lines = lines;
      are_lines = names.2;
      same = ap (λ (n : ℕ). (entries ++ entry ∷ []) ++ entries_from n lines) (long entries entry)
          ∙ append_assoc entries (entry ∷ []) (entries_from (suc (length entries)) lines)
          ∙ ap (λ (z : List EntryLine). entries ++ (z ++ entries_from (suc (length entries)) lines)) (is l (names.0, names.1, tt)) ∙ e;
    }

pub all_left : (threads : List (List Answered)) (all : List Line) (entries : List EntryLine) (rest : List Made) → entries ≡ [] → AreLinesOf threads rest all
    → Left threads all entries rest
all_left threads all entries rest none names = record {
  lines = all;
  are_lines = names;
  same = ap (λ (x : List EntryLine). x ++ entries_from (length x) all) none;
}

-- the same by other names
pub next_left : (threads : List (List Answered)) (all : List Line) (entries more : List EntryLine) (n : ℕ) (m : Made) (rest later : List Made) (entry : EntryLine)
    → rest ≡ m ∷ later → more ≡ entries ++ entry ∷ [] → n ≡ length entries
    → ((l : Line) → AreLinesOf threads (m ∷ []) (l ∷ []) → entry ∷ [] ≡ entries_from n (l ∷ [])) → Left threads all entries rest
    → Left threads all more later
next_left threads all entries more n m rest later entry next pushed place is x =
    let here : (l : Line) → AreLinesOf threads (m ∷ []) (l ∷ []) → entry ∷ [] ≡ entries_from (length entries) (l ∷ []) =
    subst (λ (k : ℕ). (l : Line) → AreLinesOf threads (m ∷ []) (l ∷ []) → entry ∷ [] ≡ entries_from k (l ∷ [])) place is in
    subst (λ (xs : List EntryLine). Left threads all xs later) (sym pushed)
    (one_more threads all entries m later entry here (subst (λ (ms : List Made). Left threads all entries ms) next x))
