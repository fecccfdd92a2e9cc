-- What is pending at one more virtual processor.
use Rattle.std.proofs.Common.{◌≡◌, ℕ, ◌+◌, ◌<◌, ◌≤◌, List, [], ◌∷◌, ◌++◌, length, take, get_or, sym, ap, ◌∙◌, arith}
use Rattle.std.proofs.lemmas.List.{take_all, take_more, get_or-map, length-map}
use Rattle.its_plain.specs.Plain.{Plain, Redistributor, no_redistributor, pending_of}
use Rattle.its_history.specs.Report.{pending_text}
use Rattle.its_history.specs.Reports.{pending_lists}
use Rattle.trace_check.specs.Differences.{pending_texts}

texts_long : (u : Plain) → length (pending_texts u) ≡ length u.redistributors
texts_long u = length-map (pending_lists u) pending_text ∙ length-map u.redistributors (λ (r : Redistributor). r.pending)

text_at : (u : Plain) (i : ℕ) → i < length u.redistributors → get_or (pending_texts u) i [] ≡ pending_text (pending_of u i)
text_at u i lt =
    get_or-map pending_text (pending_lists u) i [] [] (omega (arith, lt, length-map u.redistributors (λ (r : Redistributor). r.pending)))
    ∙ ap pending_text (get_or-map (λ (r : Redistributor). r.pending) u.redistributors i no_redistributor [] lt)

pub pending_more : (u : Plain) (texts : List (List ℕ)) (i : ℕ) (text : List ℕ) → i < length u.redistributors → texts ≡ take i (pending_texts u)
    → text ≡ pending_text (pending_of u i) → texts ++ text ∷ [] ≡ take (i + 1) (pending_texts u)
pending_more u texts i text lt so is =
    (λ j. so j ++ (is ∙ sym (text_at u i lt)) j ∷ []) ∙ sym (take_more (pending_texts u) i [] (omega (arith, lt, texts_long u)))

pub pending_all : (u : Plain) (texts : List (List ℕ)) (i : ℕ) → texts ≡ take i (pending_texts u) → length u.redistributors ≤ i → texts ≡ pending_texts u
pending_all u texts i so le = so ∙ take_all i (pending_texts u) (omega (arith, le, texts_long u))
