use Rattle.std.proofs.Common.{ℕ, ◌+◌, ◌-◌, ◌/◌, ◌<◌, ◌≤◌, ap, ◌∙◌, arith, List, inl, inr}
use Rattle.std.proofs.lemmas.Bool.{cases_eq}
use Rattle.guest_windows.specs.Pages.{rows, bytes_of}
use Rattle.guest_windows.proofs.Sparse.{same_bytes}
use Rattle.guest_windows.proofs.Fitting.{fits_frame}
use Rattle.guest_windows.proofs.frame.Frame.hold_with.Goals as goal

pub hold_page_with-first-requires-clause-inside : goal.hold_page_with-first-requires-clause-inside
hold_page_with-first-requires-clause-inside c =
    let f = fits_frame c.args.self.now c.args.addr.0 c.args.len c.requires.has in
    omega (arith, f.above, f.below, c.if-len-eq0.false)

pub hold_page_with-last-requires-clause-inside : goal.hold_page_with-last-requires-clause-inside
hold_page_with-last-requires-clause-inside c =
    let f = fits_frame c.args.self.now c.args.addr.0 c.args.len c.requires.has in
    omega (arith, f.above, f.below, c.if-len-eq0.false, c.hold_page_with-first.ensures.len)

pub returns-clause-same : goal.returns-clause-same
returns-clause-same c =
    let before = c.args.self.now in
    let mid = c.hold_page_with-first.new.self in
    let after = c.hold_page_with-last.new.self in
    let base = c.hold_page_with-last.ensures.base ∙ c.hold_page_with-first.ensures.base in
    let len = c.hold_page_with-last.ensures.len ∙ c.hold_page_with-first.ensures.len in
    ap (λ (b : ℕ). record { base = b; bytes = bytes_of after.len (rows after.groups.items) }) base
    ∙ ap (λ (n : ℕ). record { base = before.base; bytes = bytes_of n (rows after.groups.items) }) len
    ∙ ap (λ (bs : List ℕ). record { base = before.base; bytes = bs })
    (same_bytes before.len (rows before.groups.items) (rows after.groups.items)
    (λ i. c.hold_page_with-last.ensures.same i ∙ c.hold_page_with-first.ensures.same i))

pub returns-clause-held : goal.returns-clause-held
returns-clause-held c i low high =
    let base = c.hold_page_with-last.ensures.base ∙ c.hold_page_with-first.ensures.base in
    let start : ℕ = c.args.addr.0 - c.args.self.now.base in
    let low' : start ≤ i = omega (arith, low, base) in
    let high' : i < start + c.args.len = omega (arith, high, base) in
    elim (cases_eq (i / 65536) (start / 65536)) [
      | inl is ↦ c.hold_page_with-last.ensures.still i (c.hold_page_with-first.ensures.held i is)
      | inr not ↦ c.hold_page_with-last.ensures.held i (omega (arith, low', high', not, c.requires.few))
    ]

pub overflow_add-start : goal.overflow_add-start
overflow_add-start c =
    let f = fits_frame c.args.self.now c.args.addr.0 c.args.len c.requires.has in
    omega (arith, f.low)
