use Rattle.std.proofs.Common.{◌≡◌, ◌/◌, List, ◌++◌, ◌∷◌, [], length, Some, None, sym, subst, ap, ◌∙◌, arith}
use Rattle.guest_windows.specs.declared.draft_chunk.DraftChunk.{DraftChunk}
use Rattle.guest_windows.specs.Drafts.{own_of, own_place, key_place, first_of, Lays}
use Rattle.guest_windows.proofs.DraftChunks.{lays_page, lays_chunk, lays_new, of_append, bare_chunk, first_none}
use Rattle.guest_windows.proofs.draft.lay_chunk.Goals as goal

pub returns-in-Some-clause-lays : goal.returns-in-Some-clause-lays
returns-in-Some-clause-lays c =
    let cs = c.args.chunks.now.items in
    let e : own_place 0 cs c.args.window c.args.page ≡ Some c.in-Some.at = cc in
    lays_page c.args.window c.args.page cs c.in-Some.at e

pub returns-in-Some-find_chunk-clause-lays : goal.returns-in-Some-find_chunk-clause-lays
returns-in-Some-find_chunk-clause-lays c =
    let cs = c.args.chunks.now.items in
    let absent : own_place 0 cs c.args.window c.args.page ≡ None = cc in
    let e : key_place 0 cs c.args.window (c.args.page / 4096) ≡ Some c.in-Some-find_chunk.at = cc in
    lays_chunk c.args.window c.args.page cs c.in-Some-find_chunk.at absent e

pub returns-clause-lays : goal.returns-clause-lays
returns-clause-lays c =
    let cs = c.args.chunks.now.items in
    let w = c.args.window in
    let q = c.args.page in
    let new = c.in_ok-new.field-0 in
    let absent : own_place 0 cs w q ≡ None = cc in
    let end : length cs ≡ c.len-place.result = omega (arith, c.len-place.ensures, c.args.chunks.now.ok.0) in
    subst (λ (xs : List DraftChunk). Lays xs w q c.len-place.result) (sym c.in_ok-push.ensures.items)
    (subst (Lays (cs ++ new ∷ []) w q) end
    (lays_new w q cs new absent c.in_ok-new.ensures.window c.in_ok-new.ensures.at (bare_chunk new c.in_ok-new.ensures.none)))

pub returns-clause-same : goal.returns-clause-same
returns-clause-same c k q =
    let cs = c.args.chunks.now.items in
    let new = c.in_ok-new.field-0 in
    ap (λ (xs : List DraftChunk). own_of xs k q) c.in_ok-push.ensures.items ∙ of_append cs new k q
    ∙ ap (first_of (own_of cs k q)) (bare_chunk new c.in_ok-new.ensures.none k q) ∙ first_none (own_of cs k q)
