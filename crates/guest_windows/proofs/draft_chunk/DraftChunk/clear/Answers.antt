use Rattle.std.proofs.Common.{ℕ, List, set, Some, ap, ◌∙◌}
use Rattle.guest_windows.specs.Drafts.{chunk_rows}
use Rattle.guest_windows.proofs.Numbers.{rows_written, chunk_numbering, has_number}
use Rattle.guest_windows.proofs.draft_chunk.DraftChunk.clear.Goals as goal

pub returns-in-Some-clause-cleared : goal.returns-in-Some-clause-cleared
returns-in-Some-clause-cleared c =
    let chunk = c.args.self.now in
    let page = c.args.page in
    rows_written chunk.numbers.items chunk.laid.items page c.in-Some.place c.none-none.result (chunk_numbering chunk) (has_number chunk page c.requires)
    c.in-Some.ensures.number c.in-Some.ensures.inside
    ∙ ap (λ (row : List ℕ). set (chunk_rows chunk) page (Some row)) c.none-none.ensures
