use Rattle.std.proofs.Common.{ℕ, List, ◌/◌, [], length, get_or, refl, subst, sym, ap, ◌∙◌, arith}
use Rattle.guest_windows.specs.Chunks.{page_rows}
use Rattle.guest_windows.specs.Pages.{rows, chunk_row, SamePages}
use Rattle.guest_windows.proofs.Groups.{chunk_is, rows_set}
use Rattle.guest_windows.proofs.Fitting.{has_group, has_chunk, chunk_there, same_chunk, chunk-set, length-pages}
use Rattle.guest_windows.proofs.frame.Frame.hold_chunk_with.Goals as goal

pub index_mut-requires : goal.index_mut-requires
index_mut-requires c =
    let g = c.index_mut-group.result.now in
    omega (arith, chunk_there c.args.self.now c.args.page g c.requires.inside c.index_mut-group.ensures.value c.requires.group, g.chunks.ok.0)

pub returns-clause-same : goal.returns-clause-same
returns-clause-same c =
    let f = c.args.self.now in
    let q = c.args.page in
    let g = c.index_mut-group.result.now in
    let was = c.index_mut.result.now in
    let new = c.hold_with.new.self in
    let inside = c.requires.inside in
    let within = chunk_there f q g inside c.index_mut-group.ensures.value c.requires.group in
    let now = rows_set f.groups.items (q / 4096) g _ new (has_group f q inside) c.index_mut-group.ensures.value within refl in
    let read = chunk_is f.groups.items (q / 4096) g was (has_group f q inside) c.index_mut-group.ensures.value within c.index_mut.ensures.value in
    subst (SamePages (rows f.groups.items)) (sym now)
    (same_chunk (rows f.groups.items) q (page_rows new.pages.items) (has_chunk f q inside)
    (λ k. c.hold_with.ensures.same k ∙ ap (λ (r : List (List ℕ)). get_or r k []) (sym read)))

pub returns-clause-held : goal.returns-clause-held
returns-clause-held c =
    let f = c.args.self.now in
    let q = c.args.page in
    let g = c.index_mut-group.result.now in
    let was = c.index_mut.result.now in
    let new = c.hold_with.new.self in
    let inside = c.requires.inside in
    let within = chunk_there f q g inside c.index_mut-group.ensures.value c.requires.group in
    let now = rows_set f.groups.items (q / 4096) g _ new (has_group f q inside) c.index_mut-group.ensures.value within refl in
    ap (λ rs. length (chunk_row rs q)) now ∙ ap length (chunk-set (rows f.groups.items) q _ (has_chunk f q inside)) ∙ length-pages new.pages.items
    ∙ c.hold_with.ensures.held
