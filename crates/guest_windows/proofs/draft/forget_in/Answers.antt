use Rattle.std.proofs.Common.{◌≡◌, ℕ, List, length, replicate, sym, ap, ◌∙◌, inl, inr, arith}
use Rattle.std.proofs.lemmas.List.{length-replicate, get_or-replicate}
use Rattle.guest_windows.specs.Windows.{has}
use Rattle.guest_windows.specs.Fields.{window}
use Rattle.guest_windows.specs.Drafts.{own_of}
use Rattle.guest_windows.proofs.Drafting.{laid_written}
use Rattle.guest_windows.proofs.Fitting.{fits_frame}
use Rattle.guest_windows.proofs.draft.forget_in.Goals as goal

pub forget_at-requires : goal.forget_at-requires
forget_at-requires c =
    let t = fits_frame c.args.frame.now c.args.addr.0 (c.args.len) c.requires in
    omega (arith, t.above, t.below)

pub returns-clause-written : goal.returns-clause-written
returns-clause-written c =
    let f = c.args.frame.now in
    let w = c.args.window in
    let zeros : List ℕ = replicate c.args.len 0 in
    let long : length zeros ≡ c.args.len = length-replicate c.args.len 0 in
    laid_written f (own_of c.args.chunks.now.items w) (own_of c.forget_at.new.chunks.items w) c.args.addr.0 zeros (ap (has (window f) c.args.addr.0) long
    ∙ c.requires)
    (λ k lt. c.in_ok-forget_at.ensures.here k (omega (arith, lt, long)) ∙ sym (get_or-replicate c.args.len k 0 0 (omega (arith, lt, long))))
    (λ i out. c.in_ok-forget_at.ensures.others i (elim out [ inl low ↦ inl low | inr high ↦ inr (omega (arith, high, long)) ]))
