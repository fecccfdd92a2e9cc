use Rattle.std.proofs.Common.{◌≡◌, length, sym, ◌∙◌, arith, inl, inr}
use Rattle.guest_windows.specs.Fields.{window}
use Rattle.guest_windows.specs.Pages.{rows}
use Rattle.guest_windows.proofs.Sparse.{length-bytes}
use Rattle.guest_windows.proofs.Wholes.{none_mixed, put_mixed}
use Rattle.guest_windows.proofs.Holding.{has_at}
use Rattle.guest_windows.proofs.frame.Frame.copy_page.Goals as goal

pub returns-then-end-first-clause-copied : goal.returns-then-end-first-clause-copied
returns-then-end-first-clause-copied c =
    let f = c.args.self.now in
    let g = c.args.from.now in
    let long : length (window f).bytes ≡ f.len = length-bytes f.len (rows f.groups.items) in
    let also : length (window g).bytes ≡ g.len = length-bytes g.len (rows g.groups.items) in
    none_mixed c.args.page (window g) (window f) (sym c.requires.base) (also ∙ sym c.requires.len ∙ sym long)
    (λ k lt is. omega (arith, lt, long, is, c.if-end-first.true, c.max-first.ensures, c.min-end.ensures))

pub copy_bytes-requires-clause-has : goal.copy_bytes-requires-clause-has
copy_bytes-requires-clause-has c =
    has_at c.args.self.now c.max-first.result _ (omega (arith, c.max-first.ensures))
    (omega (arith, c.if-end-first.false, c.max-first.ensures, c.min-end.ensures))

pub returns-clause-copied : goal.returns-clause-copied
returns-clause-copied c =
    let f = c.args.self.now in
    let g = c.args.from.now in
    let long : length (window f).bytes ≡ f.len = length-bytes f.len (rows f.groups.items) in
    let also : length (window g).bytes ≡ g.len = length-bytes g.len (rows g.groups.items) in
    c.copy_bytes.ensures.copied
    ∙ put_mixed c.args.page (window g) (window f) (sym c.requires.base) (also ∙ sym c.requires.len ∙ sym long) c.max-first.result _
    (omega (arith, c.max-first.ensures)) (omega (arith, long, c.if-end-first.false, c.max-first.ensures, c.min-end.ensures))
    (λ k lt le less. omega (arith, lt, le, less, c.if-end-first.false, c.max-first.ensures, c.min-end.ensures))
    (λ k lt out is. elim out [
      | inl before ↦ omega (arith, lt, before, is, c.max-first.ensures)
      | inr after ↦ omega (arith, lt, after, is, long, c.if-end-first.false, c.max-first.ensures, c.min-end.ensures)
    ])
