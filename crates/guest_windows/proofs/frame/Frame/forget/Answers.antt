use Rattle.std.proofs.Common.{◌≡◌, ℕ, ◌+◌, ◌-◌, List, length, replicate, sym, ap, ◌∙◌, arith, inl, inr}
use Rattle.std.proofs.lemmas.List.{length-replicate, get_or-replicate}
use Rattle.guest_windows.specs.Pages.{rows, bytes_of}
use Rattle.guest_windows.proofs.Sparse.{written_within}
use Rattle.guest_windows.proofs.Fitting.{fits_frame}
use Rattle.guest_windows.proofs.frame.Frame.forget.Goals as goal

pub forget_at-requires : goal.forget_at-requires
forget_at-requires c =
    let f = fits_frame c.args.self.now c.args.addr.0 c.args.len c.requires in
    omega (arith, f.above, f.below)

pub returns : goal.returns
returns c =
    let before = c.args.self.now in
    let after = c.forget_at.new.self in
    let f = fits_frame before c.args.addr.0 c.args.len c.requires in
    let start : ℕ = c.args.addr.0 - before.base in
    let none : List ℕ = replicate c.args.len 0 in
    let long : length none ≡ c.args.len = length-replicate c.args.len 0 in
    ap (λ (b : ℕ). record { base = b; bytes = bytes_of after.len (rows after.groups.items) }) c.forget_at.ensures.base
    ∙ ap (λ (n : ℕ). record { base = before.base; bytes = bytes_of n (rows after.groups.items) }) c.forget_at.ensures.len
    ∙ ap (λ (bs : List ℕ). record { base = before.base; bytes = bs })
    (written_within before.len (rows before.groups.items) (rows after.groups.items) start none (omega (arith, f.above, f.below, long))
    (λ k lt. c.forget_at.ensures.here (start + k) (omega arith) (omega (arith, lt, long)) ∙ sym (get_or-replicate c.args.len k 0 0 (omega (arith, lt, long))))
    (λ i below apart. c.forget_at.ensures.others i below (elim apart [ inl low ↦ inl low | inr high ↦ inr (omega (arith, high, long)) ])))
