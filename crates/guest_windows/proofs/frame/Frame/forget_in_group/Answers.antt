use Rattle.std.proofs.Common.{◌≡◌, ◌<◌, ◌+◌, ◌*◌, ◌/◌, ◌%◌, ◌≤◌, ℕ, List, get_or, set, refl, sym, ap, ◌∙◌, arith, inl, inr}
use Rattle.std.proofs.lemmas.Bool.{leb-true}
use Rattle.guest_windows.specs.Chunks.{page_rows}
use Rattle.guest_windows.specs.Pages.{rows, byte_in}
use Rattle.guest_windows.proofs.Groups.{rows_set}
use Rattle.guest_windows.proofs.Fitting.{has_group, has_chunk, chunk_there, zero_chunk, chunk-set, chunk-set_other}
use Rattle.guest_windows.proofs.frame.Frame.forget_in_group.Goals.{then-end-self, else-end-self}
use Rattle.guest_windows.proofs.frame.Frame.forget_in_group.Goals as goal

pub index_mut-requires : goal.index_mut-requires
index_mut-requires c =
    let f = c.args.self.now in
    let q = c.args.page in
    let g = c.index_mut-group.result.now in
    let inside : 65536 * q < f.len = omega (arith, c.requires.last, c.requires.inside) in
    omega (arith, chunk_there f q g inside c.index_mut-group.ensures.value c.requires.group, g.chunks.ok.0)

pub returns-then-whole-clause-here : goal.returns-then-whole-clause-here
returns-then-whole-clause-here c i at before low high =
    let f = c.args.self.now in
    let q = c.args.page in
    let g = c.index_mut-group.result.now in
    let inside : 65536 * q < f.len = omega (arith, c.requires.last, c.requires.inside) in
    let within = chunk_there f q g inside c.index_mut-group.ensures.value c.requires.group in
    let row : List (List ℕ) = page_rows c.none.result.pages.items in
    let rs = rows f.groups.items in
    let in_it : i / 65536 / 4096 ≡ q / 4096 = omega (arith, at, before) in
    let now = rows_set f.groups.items (q / 4096) g _ c.none.result (has_group f q inside) c.index_mut-group.ensures.value within refl in
    ap (λ ts. byte_in ts i) now
    ∙ zero_chunk (set rs (q / 4096) row) q i (chunk-set rs q row (has_chunk f q inside) ∙ ap page_rows c.none.ensures) in_it

pub returns-then-whole-clause-before : goal.returns-then-whole-clause-before
returns-then-whole-clause-before c i before =
    let f = c.args.self.now in
    let q = c.args.page in
    let g = c.index_mut-group.result.now in
    let inside : 65536 * q < f.len = omega (arith, c.requires.last, c.requires.inside) in
    let within = chunk_there f q g inside c.index_mut-group.ensures.value c.requires.group in
    let row : List (List ℕ) = page_rows c.none.result.pages.items in
    let rs = rows f.groups.items in
    let other : i / 65536 / 4096 ≡ q / 4096 → ⊥ = λ is. omega (arith, before, is, c.if-page-eq0.true) in
    let now = rows_set f.groups.items (q / 4096) g _ c.none.result (has_group f q inside) c.index_mut-group.ensures.value within refl in
    ap (λ ts. byte_in ts i) now
    ∙ ap (λ (r : List ℕ). get_or r (i % 65536) 0) (chunk-set_other rs q row (i / 65536) other)

pub returns-then-whole-clause-others : goal.returns-then-whole-clause-others
returns-then-whole-clause-others c i below apart =
    let f = c.args.self.now in
    let q = c.args.page in
    let g = c.index_mut-group.result.now in
    let inside : 65536 * q < f.len = omega (arith, c.requires.last, c.requires.inside) in
    let within = chunk_there f q g inside c.index_mut-group.ensures.value c.requires.group in
    let row : List (List ℕ) = page_rows c.none.result.pages.items in
    let rs = rows f.groups.items in
    let other : i / 65536 / 4096 ≡ q / 4096 → ⊥ = λ is. elim apart [
      | inl before ↦ omega (arith, before, is, c.if-page-eq0.true, c.if-start-page.true)
      | inr after ↦ elim c.if-end-self.branch [
        | then-end-self w ↦ omega (arith, after, below, w.if-end-self)
        | else-end-self w ↦
            let next : ℕ = (q / 4096 + 1) * 4096 in
            let whole : 65536 * next ≤ c.args.end = leb-true (65536 * next) c.args.end (sym w.whole-is ∙ c.if-whole.true) in
            omega (arith, after, is, whole)
      ]
    ] in
    let now = rows_set f.groups.items (q / 4096) g _ c.none.result (has_group f q inside) c.index_mut-group.ensures.value within refl in
    ap (λ ts. byte_in ts i) now
    ∙ ap (λ (r : List ℕ). get_or r (i % 65536) 0) (chunk-set_other rs q row (i / 65536) other)
