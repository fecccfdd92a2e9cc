use Rattle.std.proofs.Common.{◌≡◌, ℕ, ◌+◌, ◌-◌, ap, ◌∙◌, arith}
use Rattle.std.proofs.lemmas.List.{length-take-le, get_or-take}
use Rattle.guest_windows.specs.Drafts.{byte_laid}
use Rattle.guest_windows.proofs.draft.put_zeros.Goals as goal

pub returns-clause-here : goal.returns-clause-here
returns-clause-here c i low high =
    let place : i ≡ c.args.at + (i - c.args.at) = omega (arith, low) in
    let zeros = c.zeros-zeros.result in
    let long = length-take-le c.args.count zeros (omega (arith, c.requires.few, c.zeros-zeros.ensures.long)) in
    ap (λ (n : ℕ). byte_laid c.put_piece.new.chunks.items c.args.frame.now c.args.window n) place
    ∙ c.in_ok-put_piece.ensures.here (i - c.args.at) (omega (arith, low, high, long))
    ∙ get_or-take c.args.count zeros (i - c.args.at) 0 (omega (arith, low, high)) ∙ c.zeros-zeros.ensures.zero (i - c.args.at)
