use Rattle.std.proofs.Common.{ℕ, List, [], get_or, set, Option, None, sym, ap, ◌∙◌}
use Rattle.std.proofs.lemmas.List.{set-get_or}
use Rattle.guest_windows.specs.Chunks.{page_rows}
use Rattle.guest_windows.specs.Drafts.{chunk_rows, byte_over}
use Rattle.guest_windows.proofs.draft_chunk.DraftChunk.lay_over.Goals as goal

pub returns-in-Some-clause-laid : goal.returns-in-Some-clause-laid
returns-in-Some-clause-laid c =
    let all = chunk_rows c.args.self.now in
    let page = c.args.page in
    let under : List (List ℕ) = page_rows c.args.under.now.pages.items in (
      get_or (page_rows c.args.self.now.laid.items) c.in-Some.place [],
      sym (set-get_or all page None) ∙ ap (λ (o : Option (List ℕ)). set all page o) c.in-Some.ensures.row,
      λ k. sym (ap (λ (o : Option (List ℕ)). byte_over o k (get_or (get_or under page []) k 0)) c.in-Some.ensures.row),
    )
