-- A thread without memory, among the lists of all threads.
use Rattle.std.proofs.Common.{◌≡◌, ◌⊎◌, ℕ, suc, ◌+◌, ◌<◌, List, [], ◌∷◌, ◌++◌, length, length-append, get_or, drop, drop-cons, Any, inl, inr, ⊎_elim}
use Rattle.std.proofs.Common.{sym, ◌∙◌, subst, arith}
use Rattle.std.proofs.Math.ListN.{get_or-append}
use Rattle.std.proofs.lemmas.List.Quantifiers.{Any-push}
use Rattle.its_types.specs.declared.machine.Placed.{Placed}
use Rattle.its_plain.specs.Runs.{Thread, Phase}
use Rattle.its_plain.specs.declared.call.Reply.{Reply}
use Rattle.its_history.specs.declared.threads.ThreadList.{ThreadList}
use Rattle.script_threads.specs.Legs.{StopsAtMemory}
use Rattle.script_threads.specs.Phases.{IsCutAtMemory, SomeThread}

any_before : (lists : List ThreadList) (l : ThreadList) → Any StopsAtMemory lists → Any StopsAtMemory (lists ++ l ∷ [])
any_before lists l a = (a.0, a.1, omega (arith, a.2, length-append lists (l ∷ [])), get_or-append lists (l ∷ []) a.1 a.0 a.2 ∙ a.3, a.4)

-- it is among the lists that stand, or among the threads that are left
pub stops_more : (all : List ThreadList) (l : ThreadList) (threads : Phase) (k : ℕ) (calls : Thread) (rest later : List (List (Placed Reply)))
    → k < length threads → calls ≡ get_or threads k calls → calls ≡ l.calls.now → rest ≡ l.replies ∷ later
    → Any StopsAtMemory all ⊎ SomeThread IsCutAtMemory (drop k threads) rest
    → Any StopsAtMemory (all ++ l ∷ []) ⊎ SomeThread IsCutAtMemory (drop (k + 1) threads) later
stops_more all l threads k calls rest later lt at same is t =
    let more : suc k ≡ k + 1 = omega arith in
    let left : drop k threads ≡ l.calls.now ∷ drop (k + 1) threads = drop-cons threads k calls lt ∙ (λ i. (sym at ∙ same) i ∷ drop (more i) threads) in
    ⊎_elim (λ (a : Any StopsAtMemory all). inl (any_before all l a))
    (λ (s : SomeThread IsCutAtMemory (drop k threads) rest).
    ⊎_elim (λ (here : IsCutAtMemory l.calls.now l.replies). inl (Any-push StopsAtMemory all l here))
    (λ (others : SomeThread IsCutAtMemory (drop (k + 1) threads) later). inr others)
    (subst (λ (z : Phase × List (List (Placed Reply))). SomeThread IsCutAtMemory z.0 z.1) (λ i. (left i, is i)) s)) t
