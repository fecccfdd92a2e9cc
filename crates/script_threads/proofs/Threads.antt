-- The entries of each thread among those of a phase.
use Rattle.std.proofs.Common.{◌≡◌, ℕ, suc, ◌≤◌, eqb, cond, Bool, true, false, List, [], ◌∷◌, map, length, refl, sym, ap, ◌∙◌, subst, arith}
use mathlib.Core.List.{IsPrefix}
use Rattle.its_types.specs.declared.machine.Placed.{Placed}
use Rattle.its_plain.specs.History.{calls_by, placed}
use Rattle.its_plain.specs.Runs.{Thread, Phase, HasCalls, HasFirstCalls}
use Rattle.its_plain.specs.declared.call.Call.{Call}
use Rattle.its_plain.specs.declared.call.Entry.{Entry}
use Rattle.its_plain.specs.declared.call.Reply.{Reply}
use Rattle.its_history.specs.Histories.{replies_by}
use Rattle.script_threads.specs.Jobs.{entries_of}
use Rattle.script_threads.specs.Phases.{replies_of}

abbrev Line : Type 0
Line = ℕ × Entry

abbrev call_of : Line → Call
call_of x = x.1.call

abbrev reply_of : Line → Placed Reply
reply_of x = record { place = x.0; reply = x.1.reply }

-- ---- the entries of one pass

choice_map : {A B : Type 0} (f : A → B) (b : Bool) (x : A) (xs : List A) (ys : List B) → map f xs ≡ ys → map f (cond b (x ∷ xs) xs) ≡ cond b (f x ∷ ys) ys
choice_map f true x xs ys e = ap (λ w. f x ∷ w) e
choice_map f false x xs ys e = e

calls_placed : (m n : ℕ) (h : List Entry) → map call_of (placed m n h) ≡ calls_by m h
calls_placed m n [] = refl
calls_placed m n (e ∷ h) = choice_map call_of (eqb e.pass m) (n, e) (placed m (suc n) h) (calls_by m h) (calls_placed m (suc n) h)

replies_placed : (m n : ℕ) (h : List Entry) → map reply_of (placed m n h) ≡ replies_by m n h
replies_placed m n [] = refl
replies_placed m n (e ∷ h) = choice_map reply_of (eqb e.pass m) (n, e) (placed m (suc n) h) (replies_by m (suc n) h) (replies_placed m (suc n) h)

-- ---- the entries of one thread

first_calls : (m : ℕ) (calls : Thread) (done : List (Placed Reply)) → IsPrefix (map call_of (entries_of m calls done)) calls
first_calls m [] done = ([], refl)
first_calls m (c ∷ calls) [] = (c ∷ calls, refl)
first_calls m (c ∷ calls) (r ∷ done) = let p = first_calls m calls done in (p.0, ap (λ z. c ∷ z) p.1)

all_calls : (m : ℕ) (calls : Thread) (done : List (Placed Reply)) → length done ≡ length calls → map call_of (entries_of m calls done) ≡ calls
all_calls m [] done len = refl
all_calls m (c ∷ calls) [] len = absurd (omega arith)
all_calls m (c ∷ calls) (r ∷ done) len = ap (λ z. c ∷ z) (all_calls m calls done (omega arith))

all_replies : (m : ℕ) (calls : Thread) (done : List (Placed Reply)) → length done ≤ length calls → map reply_of (entries_of m calls done) ≡ done
all_replies m [] [] le = refl
all_replies m [] (r ∷ done) le = absurd (omega arith)
all_replies m (c ∷ calls) [] le = refl
all_replies m (c ∷ calls) (r ∷ done) le = ap (λ z. r ∷ z) (all_replies m calls done (omega arith))

-- ---- all threads

-- pass by pass, from m on, the entries of the history are the thread's calls with these replies
abbrev pub HaveEntries : ℕ → ℕ → List Entry → Phase → List (List (Placed Reply)) → Type 0
HaveEntries m n h [] [] = Unit {0}
HaveEntries m n h (calls ∷ threads) (done ∷ lists) = (placed m n h ≡ entries_of m calls done) × (length done ≤ length calls)
    × HaveEntries (suc m) n h threads lists
HaveEntries m n h _ _ = ⊥

abbrev pub AreWhole : Phase → List (List (Placed Reply)) → Type 0
AreWhole [] [] = Unit {0}
AreWhole (calls ∷ threads) (done ∷ lists) = (length done ≡ length calls) × AreWhole threads lists
AreWhole _ _ = ⊥

pub has_first : (m n : ℕ) (h : List Entry) (threads : Phase) (lists : List (List (Placed Reply))) → HaveEntries m n h threads lists → HasFirstCalls m threads h
has_first m n h [] lists e = tt
has_first m n h (calls ∷ threads) [] e = absurd e
has_first m n h (calls ∷ threads) (done ∷ lists) e = (
  subst (λ (z : List Call). IsPrefix z calls) (ap (map call_of) (sym e.0) ∙ calls_placed m n h) (first_calls m calls done),
  has_first (suc m) n h threads lists e.2,
)

pub has_all : (m n : ℕ) (h : List Entry) (threads : Phase) (lists : List (List (Placed Reply))) → HaveEntries m n h threads lists → AreWhole threads lists
    → HasCalls m threads h
has_all m n h [] lists e whole = tt
has_all m n h (calls ∷ threads) [] e whole = absurd e
has_all m n h (calls ∷ threads) (done ∷ lists) e whole = (
  sym (calls_placed m n h) ∙ (ap (map call_of) e.0 ∙ all_calls m calls done whole.0),
  has_all (suc m) n h threads lists e.2 whole.1,
)

pub replies_are : (m n : ℕ) (h : List Entry) (threads : Phase) (lists : List (List (Placed Reply))) → HaveEntries m n h threads lists
    → lists ≡ replies_of m (length threads) n h
replies_are m n h [] [] e = refl
replies_are m n h [] (done ∷ lists) e = absurd e
replies_are m n h (calls ∷ threads) [] e = absurd e
replies_are m n h (calls ∷ threads) (done ∷ lists) e =
    let one : done ≡ replies_by m n h = sym (all_replies m calls done e.1) ∙ (ap (map reply_of) (sym e.0) ∙ replies_placed m n h) in
    λ d. one d ∷ replies_are (suc m) n h threads lists e.2 d
