use Rattle.std.proofs.Common.{◌≡◌, ◌<◌, ◌+◌, ◌*◌, ◌/◌, ◌%◌, ◌≤◌, ℕ, List, [], get_or, refl, sym, ap, ◌∙◌, arith, inl, inr}
use Rattle.std.proofs.lemmas.Bool.{leb-true}
use Rattle.guest_windows.specs.Pages.{rows}
use Rattle.guest_windows.proofs.Groups.{group_unheld, group-set_none, group-set_other}
use Rattle.guest_windows.proofs.Fitting.{has_group, zero_chunk}
use Rattle.guest_windows.proofs.frame.Frame.forget_from.Goals.{then-end-self, else-end-self}
use Rattle.guest_windows.proofs.frame.Frame.forget_from.Goals as goal

pub returns-then-not-is_held-clause-here : goal.returns-then-not-is_held-clause-here
returns-then-not-is_held-clause-here c i at before low high =
    let f = c.args.self.now in
    let q = c.args.page in
    let inside : 65536 * q < f.len = omega (arith, c.requires.last, c.requires.inside) in
    zero_chunk (rows f.groups.items) (i / 65536) i
    (group_unheld f.groups.items (q / 4096 / 1024) (has_group f q inside) c.index.result.now (i / 65536 / 4096) c.index.ensures
    (c.is_held.ensures.none c.if-not-is_held.true) (omega (arith, at, before))) refl

pub returns-then-whole-clause-here : goal.returns-then-whole-clause-here
returns-then-whole-clause-here c i at before low high =
    let f = c.args.self.now in
    let q = c.args.page in
    let inside : 65536 * q < f.len = omega (arith, c.requires.last, c.requires.inside) in
    zero_chunk (rows _) (i / 65536) i
    (group-set_none f.groups.items (q / 4096 / 1024) (has_group f q inside) c.none.result (i / 65536 / 4096) c.none.ensures (omega (arith, at, before))) refl

pub returns-then-whole-clause-before : goal.returns-then-whole-clause-before
returns-then-whole-clause-before c i before =
    let f = c.args.self.now in
    let q = c.args.page in
    let inside : 65536 * q < f.len = omega (arith, c.requires.last, c.requires.inside) in
    ap (λ (r : List (List ℕ)). get_or (get_or r (i / 65536 % 4096) []) (i % 65536) 0)
    (group-set_other f.groups.items (q / 4096 / 1024) (has_group f q inside) c.none.result (i / 65536 / 4096)
    (λ is. omega (arith, before, is, c.if-page-eq0.true)))

pub returns-then-whole-clause-others : goal.returns-then-whole-clause-others
returns-then-whole-clause-others c i below apart =
    let f = c.args.self.now in
    let q = c.args.page in
    let inside : 65536 * q < f.len = omega (arith, c.requires.last, c.requires.inside) in
    let other : i / 65536 / 4096 / 1024 ≡ q / 4096 / 1024 → ⊥ = λ is. elim apart [
      | inl before ↦ omega (arith, before, is, c.if-page-eq0.true, c.if-start-page.true)
      | inr after ↦ elim c.if-end-self.branch [
        | then-end-self w ↦ omega (arith, after, below, w.if-end-self)
        | else-end-self w ↦
            let next : ℕ = (q / 4096 / 1024 + 1) * 1024 * 4096 in
            let whole : 65536 * next ≤ c.args.end = leb-true (65536 * next) c.args.end (sym w.whole-is ∙ c.if-whole.true) in
            omega (arith, after, is, whole)
      ]
    ] in
    ap (λ (r : List (List ℕ)). get_or (get_or r (i / 65536 % 4096) []) (i % 65536) 0)
    (group-set_other f.groups.items (q / 4096 / 1024) (has_group f q inside) c.none.result (i / 65536 / 4096) other)
