use Rattle.std.proofs.Common.{◌≡◌, ℕ, List, [], get_or, set, Option, Some, None, sym, ap, ◌∙◌}
use Rattle.std.proofs.lemmas.List.{set-set, get_or-set_same, get_or-map}
use Rattle.guest_windows.specs.declared.page.Page.{Page}
use Rattle.guest_windows.specs.Drafts.{chunk_rows}
use Rattle.guest_windows.proofs.Numbers.{rows_written, chunk_numbering, has_number, row_laid, slot_there}
use Rattle.guest_windows.proofs.draft_chunk.DraftChunk.put.Goals as goal

pub returns-clause-put : goal.returns-clause-put
returns-clause-put c =
    let before = c.args.self.now in
    let over = c.lay_over.new.self in
    let page = c.args.page in
    let place = c.in_ok-place.place in
    let told = c.in_ok-place.ensures in
    let own = c.put.new.self in
    let row : List ℕ = own.bytes.items in
    let held = c.index_mut-own.result.now in
    let here : get_or (chunk_rows over) page None ≡ Some told.laid.0 =
    ap (λ (rs : List (Option (List ℕ))). get_or rs page None) told.laid.1
    ∙ get_or-set_same (chunk_rows before) page (Some told.laid.0) None (slot_there before page c.requires.page) in
    let same : held.bytes.items ≡ told.laid.0 =
    ap (λ (p : Page). p.bytes.items) c.index_mut-own.ensures.value
    ∙ sym (get_or-map (λ (p : Page). p.bytes.items) over.laid.items place held [] told.inside)
    ∙ sym (row_laid over page place told.laid.0 told.number told.inside here) in (
      row,
      rows_written over.numbers.items over.laid.items page place own (chunk_numbering over) (has_number over page c.requires.page) told.number told.inside
          ∙ ap (λ (rs : List (Option (List ℕ))). set rs page (Some row)) told.laid.1
          ∙ set-set (chunk_rows before) page (Some told.laid.0) (Some row),
      c.put.ensures.here,
      λ i out. c.put.ensures.others i out ∙ c.in_ok-hold.ensures.same i ∙ ap (λ (r : List ℕ). get_or r i 0) same ∙ told.laid.2 i,
    )
