use Rattle.std.proofs.Common.{ℕ, ◌<◌, ◌%◌, length, get_or, sym, refl, ap, ◌∙◌, arith, List, ◌*◌}
use Rattle.std.proofs.lemmas.Result.{on_ok_weaker}
use Rattle.guest_windows.specs.Pages.{rows, chunk_row, row_at, byte_in}
use Rattle.guest_windows.proofs.Fitting.{in_hand, same-set, still-set, row-set_same, chunk_within, page_within}
use Rattle.guest_windows.proofs.frame.Frame.hold_in.Goals as goal

pub index_mut-chunk-requires : goal.index_mut-chunk-requires
index_mut-chunk-requires c =
    let f = c.args.self.now in
    let q : ℕ = c.args.page in
    let g = c.index_mut-group.result.now in
    let inside : 65536 * q < f.len = c.requires.inside in
    let in_row : q % 4096 < length (chunk_row (rows f.groups.items) q) = omega (arith, c.requires.chunk) in
    omega (arith, chunk_within f q g inside c.index_mut-group.ensures.value in_row, g.chunks.ok.0)

pub index_mut-requires : goal.index_mut-requires
index_mut-requires c =
    let f = c.args.self.now in
    let q : ℕ = c.args.page in
    let g = c.index_mut-group.result.now in
    let inside : 65536 * q < f.len = c.requires.inside in
    let in_row : q % 4096 < length (chunk_row (rows f.groups.items) q) = omega (arith, c.requires.chunk) in
    let chunk = c.index_mut-chunk.result.now in
    omega (arith, page_within f q g chunk inside c.index_mut-group.ensures.value c.index_mut-chunk.ensures.value in_row, chunk.pages.ok.0)

pub returns-clause-same : goal.returns-clause-same
returns-clause-same c i =
    let f = c.args.self.now in
    let q = c.args.page in
    let rs = rows f.groups.items in
    let in_row : q % 4096 < length (chunk_row rs q) = omega (arith, c.requires.chunk) in
    let group = c.index_mut-group in
    let chunk = c.index_mut-chunk in
    let hand =
    in_hand f q group.result.now chunk.result.now c.index_mut.result.now c.requires.inside in_row group.ensures.value chunk.ensures.value c.index_mut.ensures.value in
    let new = c.hold.new.self in
    ap (λ ts. byte_in ts i) (hand.after _ _ new refl refl)
    ∙ same-set rs q new.bytes.items hand.there (λ k. c.hold.ensures.same k ∙ ap (λ (r : List ℕ). get_or r k 0) (sym hand.row)) i

pub returns-clause-still : goal.returns-clause-still
returns-clause-still c i long =
    let f = c.args.self.now in
    let q = c.args.page in
    let rs = rows f.groups.items in
    let in_row : q % 4096 < length (chunk_row rs q) = omega (arith, c.requires.chunk) in
    let group = c.index_mut-group in
    let chunk = c.index_mut-chunk in
    let hand =
    in_hand f q group.result.now chunk.result.now c.index_mut.result.now c.requires.inside in_row group.ensures.value chunk.ensures.value c.index_mut.ensures.value in
    let new = c.hold.new.self in
    ap (λ ts. length (row_at ts i)) (hand.after _ _ new refl refl)
    ∙ still-set rs q new.bytes.items hand.there 65536 (λ l. c.hold.ensures.kept (sym (ap length hand.row) ∙ l)) i long

pub returns-clause-held : goal.returns-clause-held
returns-clause-held c =
    let f = c.args.self.now in
    let q = c.args.page in
    let rs = rows f.groups.items in
    let in_row : q % 4096 < length (chunk_row rs q) = omega (arith, c.requires.chunk) in
    let group = c.index_mut-group in
    let chunk = c.index_mut-chunk in
    let hand =
    in_hand f q group.result.now chunk.result.now c.index_mut.result.now c.requires.inside in_row group.ensures.value chunk.ensures.value c.index_mut.ensures.value in
    let new = c.hold.new.self in
    on_ok_weaker c.hold.result (λ long. λ i is.
    ap (λ ts. length (row_at ts i)) (hand.after _ _ new refl refl)
    ∙ ap length (row-set_same rs q new.bytes.items hand.there i is) ∙ long) c.hold.ensures.held
