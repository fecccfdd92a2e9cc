use Rattle.std.proofs.Common.{◌<◌, ◌%◌, ◌/◌, [], length, set, refl, ap, ◌∙◌, arith, ℕ, ◌*◌}
use Rattle.std.proofs.lemmas.List.{get_or-set_same, length-set}
use Rattle.guest_windows.specs.Pages.{rows, chunk_row, page_row}
use Rattle.guest_windows.specs.declared.page.Page.{Page}
use Rattle.guest_windows.proofs.Fitting.{in_hand, page-set_same, page-set_other, chunk_within, page_within}
use Rattle.guest_windows.proofs.frame.Frame.exchange_page.Goals as goal

pub index_mut-chunk-requires : goal.index_mut-chunk-requires
index_mut-chunk-requires c =
    let f = c.args.self.now in
    let q : ℕ = c.args.page in
    let g = c.index_mut-group.result.now in
    let inside : 65536 * q < f.len = c.requires.inside in
    let in_row : q % 4096 < length (chunk_row (rows f.groups.items) q) = omega (arith, c.requires.held) in
    omega (arith, chunk_within f q g inside c.index_mut-group.ensures.value in_row, g.chunks.ok.0)

pub index_mut-requires : goal.index_mut-requires
index_mut-requires c =
    let f = c.args.self.now in
    let q : ℕ = c.args.page in
    let g = c.index_mut-group.result.now in
    let inside : 65536 * q < f.len = c.requires.inside in
    let in_row : q % 4096 < length (chunk_row (rows f.groups.items) q) = omega (arith, c.requires.held) in
    let chunk = c.index_mut-chunk.result.now in
    omega (arith, page_within f q g chunk inside c.index_mut-group.ensures.value c.index_mut-chunk.ensures.value in_row, chunk.pages.ok.0)

pub returns-clause-here : goal.returns-clause-here
returns-clause-here c =
    let f = c.args.self.now in
    let q = c.args.page in
    let rs = rows f.groups.items in
    let in_row : q % 4096 < length (chunk_row rs q) = omega (arith, c.requires.held) in
    let group = c.index_mut-group in
    let chunk = c.index_mut-chunk in
    let hand =
    in_hand f q group.result.now chunk.result.now c.index_mut.result.now c.requires.inside in_row group.ensures.value chunk.ensures.value c.index_mut.ensures.value in
    let fresh = c.swap.new.x in
    ap (λ ts. page_row ts q) (hand.after _ _ fresh refl refl) ∙ page-set_same rs q fresh.bytes.items hand.there
    ∙ ap (λ (p : Page). p.bytes.items) c.swap.ensures.x_after

pub returns-clause-others : goal.returns-clause-others
returns-clause-others c p other =
    let f = c.args.self.now in
    let q = c.args.page in
    let rs = rows f.groups.items in
    let in_row : q % 4096 < length (chunk_row rs q) = omega (arith, c.requires.held) in
    let group = c.index_mut-group in
    let chunk = c.index_mut-chunk in
    let hand =
    in_hand f q group.result.now chunk.result.now c.index_mut.result.now c.requires.inside in_row group.ensures.value chunk.ensures.value c.index_mut.ensures.value in
    let fresh = c.swap.new.x in
    ap (λ ts. page_row ts p) (hand.after _ _ fresh refl refl) ∙ page-set_other rs q fresh.bytes.items hand.there p other

pub returns-clause-chunk : goal.returns-clause-chunk
returns-clause-chunk c =
    let f = c.args.self.now in
    let q = c.args.page in
    let rs = rows f.groups.items in
    let in_row : q % 4096 < length (chunk_row rs q) = omega (arith, c.requires.held) in
    let group = c.index_mut-group in
    let chunk = c.index_mut-chunk in
    let hand =
    in_hand f q group.result.now chunk.result.now c.index_mut.result.now c.requires.inside in_row group.ensures.value chunk.ensures.value c.index_mut.ensures.value in
    let fresh = c.swap.new.x in
    let row = fresh.bytes.items in
    ap (λ ts. length (chunk_row ts q)) (hand.after _ _ fresh refl refl)
    ∙ ap length (get_or-set_same rs (q / 4096) (set (chunk_row rs q) (q % 4096) row) [] hand.there.chunk)
    ∙ length-set (chunk_row rs q) (q % 4096) row ∙ c.requires.held
