use Rattle.std.proofs.Common.{◌≡◌, ℕ, ◌%◌, List, [], get_or, Option, Some, None, sym, ap, ◌∙◌}
use Rattle.guest_windows.specs.Chunks.{page_rows}
use Rattle.guest_windows.specs.Drafts.{own_of, own_place, byte_over}
use Rattle.guest_windows.proofs.DraftChunks.{lays_page, page_some, page_absent, slot_is, some_chunk, zero_unheld}
use Rattle.guest_windows.proofs.draft.is_held.Goals as goal

pub is_held_at-requires-clause-at : goal.is_held_at-requires-clause-at
is_held_at-requires-clause-at c =
    let cs = c.args.chunks.now in
    let e : own_place 0 cs c.args.window c.args.page ≡ Some c.in-Some.at = cc in
    (lays_page c.args.window c.args.page cs c.in-Some.at e).inside

pub returns-in-Some : goal.returns-in-Some
returns-in-Some c none k =
    let cs = c.args.chunks.now in
    let w = c.args.window in
    let q = c.args.page in
    let e : own_place 0 cs w q ≡ Some c.in-Some.at = cc in
    let lays = lays_page w q cs c.in-Some.at e in
    let d = some_chunk cs c.in-Some.at lays.inside in
    zero_unheld (own_of cs w q) k _ (page_some w q cs 0 c.in-Some.at e)
    (λ row is. c.is_held_at.ensures none d row (sym (slot_is cs w q c.in-Some.at d lays) ∙ is))

pub returns-in-None : goal.returns-in-None
returns-in-None c none k =
    let cs = c.args.chunks.now in
    let w = c.args.window in
    let q = c.args.page in
    let e : own_place 0 cs w q ≡ None = cc in
    let under = page_rows c.args.under.now.pages.items in
    ap (λ (o : Option (List ℕ)). byte_over o k (get_or (get_or under (q % 4096) []) k 0)) (page_absent w q cs 0 e).all
    ∙ ap (λ (r : List ℕ). get_or r k 0) (c.has_page.ensures.none none)
