use Rattle.std.proofs.Common.{ℕ, ◌%◌, length, get_or, sym, refl, ap, ◌∙◌, arith, List, ◌<◌, ◌*◌}
use Rattle.guest_windows.specs.Pages.{rows, row_at, byte_in, chunk_row}
use Rattle.guest_windows.proofs.Fitting.{in_hand, there_of, still-set, row-set_same, row-set_other, chunk_within, page_within}
use Rattle.guest_windows.proofs.frame.Frame.clear_page.Goals as goal

pub index_mut-chunk-requires : goal.index_mut-chunk-requires
index_mut-chunk-requires c =
    let f = c.args.self.now in
    let q : ℕ = c.args.page in
    let g = c.index_mut-group.result.now in
    let inside : 65536 * q < f.len = c.requires.inside in
    let in_row : q % 4096 < length (chunk_row (rows f.groups.items) q) = (there_of (rows f.groups.items) q c.requires.held).page in
    omega (arith, chunk_within f q g inside c.index_mut-group.ensures.value in_row, g.chunks.ok.0)

pub index_mut-requires : goal.index_mut-requires
index_mut-requires c =
    let f = c.args.self.now in
    let q : ℕ = c.args.page in
    let g = c.index_mut-group.result.now in
    let inside : 65536 * q < f.len = c.requires.inside in
    let in_row : q % 4096 < length (chunk_row (rows f.groups.items) q) = (there_of (rows f.groups.items) q c.requires.held).page in
    let chunk = c.index_mut-chunk.result.now in
    omega (arith, page_within f q g chunk inside c.index_mut-group.ensures.value c.index_mut-chunk.ensures.value in_row, chunk.pages.ok.0)

pub returns-clause-here : goal.returns-clause-here
returns-clause-here c i is =
    let f = c.args.self.now in
    let q = c.args.page in
    let rs = rows f.groups.items in
    let place = there_of rs q c.requires.held in
    let group = c.index_mut-group in
    let chunk = c.index_mut-chunk in
    let hand =
    in_hand f q group.result.now chunk.result.now c.index_mut.result.now c.requires.inside place.page group.ensures.value chunk.ensures.value c.index_mut.ensures.value in
    let new = c.clear.new.self in
    ap (λ ts. byte_in ts i) (hand.after _ _ new refl refl)
    ∙ ap (λ (r : List ℕ). get_or r (i % 65536) 0) (row-set_same rs q new.bytes.items hand.there i is) ∙ c.clear.ensures.zero (i % 65536)

pub returns-clause-others : goal.returns-clause-others
returns-clause-others c i not =
    let f = c.args.self.now in
    let q = c.args.page in
    let rs = rows f.groups.items in
    let place = there_of rs q c.requires.held in
    let group = c.index_mut-group in
    let chunk = c.index_mut-chunk in
    let hand =
    in_hand f q group.result.now chunk.result.now c.index_mut.result.now c.requires.inside place.page group.ensures.value chunk.ensures.value c.index_mut.ensures.value in
    let new = c.clear.new.self in
    ap (λ ts. byte_in ts i) (hand.after _ _ new refl refl)
    ∙ ap (λ (r : List ℕ). get_or r (i % 65536) 0) (row-set_other rs q new.bytes.items hand.there i not)

pub returns-clause-still : goal.returns-clause-still
returns-clause-still c i long =
    let f = c.args.self.now in
    let q = c.args.page in
    let rs = rows f.groups.items in
    let place = there_of rs q c.requires.held in
    let group = c.index_mut-group in
    let chunk = c.index_mut-chunk in
    let hand =
    in_hand f q group.result.now chunk.result.now c.index_mut.result.now c.requires.inside place.page group.ensures.value chunk.ensures.value c.index_mut.ensures.value in
    let new = c.clear.new.self in
    ap (λ ts. length (row_at ts i)) (hand.after _ _ new refl refl)
    ∙ still-set rs q new.bytes.items hand.there 65536 (λ l. c.clear.ensures.long ∙ sym (ap length hand.row) ∙ l) i long
