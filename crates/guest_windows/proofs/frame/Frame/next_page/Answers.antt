use Rattle.std.proofs.Common.{◌≡◌, ℕ, ◌+◌, ◌-◌, ◌*◌, ◌/◌, ◌<◌, length, refl, ap, ◌∙◌, arith, inl, inr}
use Rattle.std.proofs.lemmas.Bool.{cases_lt}
use Rattle.guest_windows.specs.Pages.{rows, page_row}
use Rattle.guest_windows.proofs.Holding.{zero_in, has_in}
use Rattle.guest_windows.proofs.frame.Frame.next_page.Goals as goal

pub returns-then-self-at-clause-zero : goal.returns-then-self-at-clause-zero
returns-then-self-at-clause-zero c =
    let start = c.saturating_sub-start.result in
    let page = c.next_held-page.result in
    zero_in c.args.self.now c.args.from.0 start page 4503599627370496 c.saturating_sub-start.ensures (λ i below lt.
    elim (cases_lt i start) [
      | inl before ↦ inl before
      | inr after ↦ inr (omega (arith, after, below, c.if-self-at.true, c.max-at.ensures))
    ]) c.next_held-page.ensures.zero

pub returns-clause-zero : goal.returns-clause-zero
returns-clause-zero c =
    let start = c.saturating_sub-start.result in
    let page = c.next_held-page.result in
    zero_in c.args.self.now c.args.from.0 start page (c.args.self.now.base + c.max-at.result) c.saturating_sub-start.ensures (λ i below lt.
    elim (cases_lt i start) [
      | inl before ↦ inl before
      | inr after ↦ inr (omega (arith, after, lt, c.max-at.ensures))
    ]) c.next_held-page.ensures.zero

pub returns-clause-part : goal.returns-clause-part
returns-clause-part c some =
    has_in c.args.self.now c.max-at.result (c.min-end.result - c.max-at.result) (omega (arith, some, c.min-end.ensures))

pub returns-then-self-at-clause-skipped : goal.returns-then-self-at-clause-skipped
returns-then-self-at-clause-skipped c i below low high =
    c.next_held-page.ensures.skipped (i / 65536) (omega (arith, low, c.saturating_sub-start.ensures))
    (omega (arith, below, low, c.saturating_sub-start.ensures, c.if-self-at.true, c.max-at.ensures))

pub returns-clause-skipped : goal.returns-clause-skipped
returns-clause-skipped c i below low high =
    c.next_held-page.ensures.skipped (i / 65536) (omega (arith, low, c.saturating_sub-start.ensures))
    (omega (arith, below, low, high, c.saturating_sub-start.ensures, c.max-at.ensures))

pub returns-clause-held : goal.returns-clause-held
returns-clause-held c some =
    let f = c.args.self.now in
    let at : ℕ = c.max-at.result in
    let page : ℕ = c.next_held-page.result in
    let below : at < f.len = omega (arith, c.if-self-at.false) in
    let inside : 65536 * page < f.len = omega (arith, below, c.max-at.ensures) in
    let is : at / 65536 ≡ page = omega (arith, inside, c.max-at.ensures, c.saturating_sub-start.ensures, c.next_held-page.ensures.from) in
    (at, below, refl, ap (λ (q : ℕ). length (page_row (rows f.groups.items) q)) is ∙ c.next_held-page.ensures.held inside)
