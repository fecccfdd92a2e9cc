use Rattle.std.proofs.Common.{ℕ, ◌-◌, ◌*◌, ◌/◌, ◌%◌, ◌<◌, ◌≤◌, List, length, get_or, sym, refl, ap, ◌∙◌, arith, inl, inr}
use Rattle.std.proofs.lemmas.Bool.{cases_eq}
use Rattle.guest_windows.specs.Pages.{rows, chunk_row, page_row, byte_in}
use Rattle.guest_windows.proofs.Fitting.{in_hand, row-set_same, row-set_other, chunk_within, page_within}
use Rattle.guest_windows.proofs.frame.Frame.forget_page.Goals as goal

pub index_mut-chunk-requires : goal.index_mut-chunk-requires
index_mut-chunk-requires c =
    let f = c.args.self.now in
    let q : ℕ = c.args.page in
    let g = c.index_mut-group.result.now in
    let inside : 65536 * q < f.len = omega (arith, c.requires.last, c.requires.inside) in
    let in_row : q % 4096 < length (chunk_row (rows f.groups.items) q) = omega (arith, c.requires.held) in
    omega (arith, chunk_within f q g inside c.index_mut-group.ensures.value in_row, g.chunks.ok.0)

pub index_mut-requires : goal.index_mut-requires
index_mut-requires c =
    let f = c.args.self.now in
    let q : ℕ = c.args.page in
    let g = c.index_mut-group.result.now in
    let inside : 65536 * q < f.len = omega (arith, c.requires.last, c.requires.inside) in
    let in_row : q % 4096 < length (chunk_row (rows f.groups.items) q) = omega (arith, c.requires.held) in
    let chunk = c.index_mut-chunk.result.now in
    omega (arith, page_within f q g chunk inside c.index_mut-group.ensures.value c.index_mut-chunk.ensures.value in_row, chunk.pages.ok.0)

pub returns-clause-here : goal.returns-clause-here
returns-clause-here c i is low high =
    let f = c.args.self.now in
    let q = c.args.page in
    let rs = rows f.groups.items in
    let inside : 65536 * q < f.len = omega (arith, c.requires.last, c.requires.inside) in
    let in_row : q % 4096 < length (chunk_row rs q) = omega (arith, c.requires.held) in
    let group = c.index_mut-group in
    let chunk = c.index_mut-chunk in
    let hand =
    in_hand f q group.result.now chunk.result.now c.index_mut.result.now inside in_row group.ensures.value chunk.ensures.value c.index_mut.ensures.value in
    let new = c.forget.new.self in
    let past : c.args.start - 65536 * q ≤ i % 65536 = omega (arith, low, is) in
    ap (λ ts. byte_in ts i) (hand.after _ _ new refl refl)
    ∙ ap (λ (r : List ℕ). get_or r (i % 65536) 0) (row-set_same rs q new.bytes.items hand.there i is)
    ∙ c.forget.ensures.here (i % 65536) (omega (arith, past, c.saturating_sub-low.ensures)) (c.end_in-high.ensures.before i is high)

pub returns-clause-others : goal.returns-clause-others
returns-clause-others c i below apart =
    let f = c.args.self.now in
    let q = c.args.page in
    let rs = rows f.groups.items in
    let inside : 65536 * q < f.len = omega (arith, c.requires.last, c.requires.inside) in
    let in_row : q % 4096 < length (chunk_row rs q) = omega (arith, c.requires.held) in
    let group = c.index_mut-group in
    let chunk = c.index_mut-chunk in
    let hand =
    in_hand f q group.result.now chunk.result.now c.index_mut.result.now inside in_row group.ensures.value chunk.ensures.value c.index_mut.ensures.value in
    let new = c.forget.new.self in
    ap (λ ts. byte_in ts i) (hand.after _ _ new refl refl)
    ∙ elim (cases_eq (i / 65536) q) [
      | inr not ↦ ap (λ (r : List ℕ). get_or r (i % 65536) 0) (row-set_other rs q new.bytes.items hand.there i not)
      | inl is ↦
          ap (λ (r : List ℕ). get_or r (i % 65536) 0) (row-set_same rs q new.bytes.items hand.there i is)
          ∙ c.forget.ensures.others (i % 65536) (elim apart [
            | inl not ↦ absurd (not is)
            | inr ends ↦ elim ends [
              | inl before ↦ inl (omega (arith, before, is, c.saturating_sub-low.ensures))
              | inr after ↦ inr (c.end_in-high.ensures.after i is after below)
            ]
          ]) (omega arith)
          ∙ ap (λ (r : List ℕ). get_or r (i % 65536) 0) (sym hand.row)
          ∙ ap (λ (p : ℕ). get_or (page_row rs p) (i % 65536) 0) (sym is)
    ]
