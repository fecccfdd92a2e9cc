use Rattle.std.proofs.Common.{◌≡◌, ◌≤◌, ◌<◌, ℕ, zero, suc, List, [], ◌∷◌, length, get_or, refl, sym, ◌∙◌, arith}
use borrow.Author.Tests.{ltb-false, ltb-true}
use Rattle.trace_check.proofs.Counting.{none_past, call_is}
use Rattle.its_web.proofs.turns.call_at.Goals as goal

same_there : (ns : List ℕ) (i d e : ℕ) → i < length ns → get_or ns i d ≡ get_or ns i e
same_there [] i d e lt = absurd (omega (arith, lt))
same_there (n ∷ ns) zero d e lt = refl
same_there (n ∷ ns) (suc i) d e lt = same_there ns i d e (omega (arith, lt))

pub returns-in_err-calls : goal.returns-in_err-calls
returns-in_err-calls c =
    let threads = c.args.threads.now in
    let past : length threads ≤ c.args.thread = ltb-false c.args.thread (length threads) (sym c.in_err-calls.ensures.lookup.0) in
    c.from_residual.ensures ∙ sym (none_past threads c.args.made.now c.args.thread past)

pub returns : goal.returns
returns c =
    let i = c.args.thread in let threads = c.args.threads.now in let made = c.args.made.now in
    let below : i < length threads = ltb-true i (length threads) (sym c.in_ok-calls.ensures.lookup.0) in
    let there : i < length made = omega (arith, below, c.requires) in
    c.get-2.ensures
    ∙ sym (call_is threads made i (get_or made i 0) c.in_ok-calls.calls.now below c.requires c.in_ok-calls.ensures.lookup.1
    (same_there made i 0 (get_or made i 0) there))
