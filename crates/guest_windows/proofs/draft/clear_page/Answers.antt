use Rattle.std.proofs.Common.{[], ◌∙◌}
use Rattle.guest_windows.proofs.DraftChunks.{wrote, has_slot}
use Rattle.guest_windows.proofs.draft.clear_page.Goals as goal

pub returns : goal.returns
returns c =
    let chunk = c.index_mut.result.now in
    let done = wrote c.lay_chunk.new.chunks.items c.args.window c.args.page c.in_ok-place.place chunk c.clear.new.self [] c.in_ok-place.ensures.lays
    c.index_mut.ensures.value (has_slot chunk c.args.page) c.clear.ensures.window c.clear.ensures.at c.in_ok-clear.ensures.cleared in
    record { here = done.here; others = λ k q not. done.others k q not ∙ c.in_ok-place.ensures.same k q }
