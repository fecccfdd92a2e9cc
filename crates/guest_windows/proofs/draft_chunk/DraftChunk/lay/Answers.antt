use Rattle.std.proofs.Common.{◌≡◌, ◌+◌, ◌<◌, ℕ, suc, List, length, set, subst, ap, ◌∙◌, arith}
use Rattle.std.specs.Vec.{vec_len}
use Rattle.guest_windows.specs.declared.page.Page.{Page}
use Rattle.guest_windows.specs.Chunks.{used, IsNumbering}
use Rattle.guest_windows.specs.Drafts.{own_rows}
use Rattle.guest_windows.proofs.Numbers.{used_below, numbering_more, rows_laid, chunk_numbering, has_number}
use Rattle.guest_windows.proofs.draft_chunk.DraftChunk.lay.Goals as goal

pub overflow_cast-len : goal.overflow_cast-len
overflow_cast-len c =
    let chunk = c.args.self.now in
    let numbers : List ℕ = chunk.numbers.items in
    let lt : c.args.page < length numbers = has_number chunk c.args.page c.requires.page in
    let room : used numbers < length numbers = used_below numbers c.args.page lt c.requires.none in
    let few : used numbers ≡ vec_len chunk.laid = chunk.numbered.0 in
    omega (arith, room, few, c.len.ensures, c.in_ok-push.ensures.len, chunk.numbers.ok.0, chunk.sized)

pub invariant_of-self-2-clause-numbered : goal.invariant_of-self-2-clause-numbered
invariant_of-self-2-clause-numbered c =
    let chunk = c.args.self.now in
    let lt = has_number chunk c.args.page c.requires.page in
    let next : c.len.result ≡ suc (vec_len chunk.laid) = omega (arith, c.len.ensures, c.in_ok-push.ensures.len) in
    subst (IsNumbering (set chunk.numbers.items c.args.page c.len.result)) c.len.ensures
    (numbering_more chunk.numbers.items c.args.page c.len.result (vec_len chunk.laid) chunk.numbered next lt c.requires.none)

pub returns-clause-laid : goal.returns-clause-laid
returns-clause-laid c =
    let chunk = c.args.self.now in
    let page = c.args.page in
    let next : c.len.result ≡ length chunk.laid.items + 1 = omega (arith, c.len.ensures, c.in_ok-push.ensures.len, chunk.laid.ok.0) in
    ap (λ (ps : List Page). own_rows (set chunk.numbers.items page c.len.result) ps) c.in_ok-push.ensures.items
    ∙ rows_laid chunk.numbers.items chunk.laid.items page c.len.result c.args.fresh (chunk_numbering chunk) next
