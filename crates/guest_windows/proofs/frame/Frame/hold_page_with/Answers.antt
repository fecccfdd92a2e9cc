use Rattle.std.proofs.Common.{◌∙◌}
use Rattle.guest_windows.specs.Pages.{rows}
use Rattle.guest_windows.proofs.Fitting.{bytes_same, pages_still}
use Rattle.guest_windows.proofs.frame.Frame.hold_page_with.Goals as goal

pub returns-clause-same : goal.returns-clause-same
returns-clause-same c i =
    let group = c.hold_group_with-group in
    let chunk = c.hold_chunk_with-chunk in
    c.hold_in_chunk-page.ensures.same i
    ∙ bytes_same (rows group.new.self.groups.items) (rows chunk.new.self.groups.items) chunk.ensures.same i
    ∙ bytes_same (rows c.args.self.now.groups.items) (rows group.new.self.groups.items) group.ensures.same i

pub returns-clause-still : goal.returns-clause-still
returns-clause-still c i long =
    let group = c.hold_group_with-group in
    let chunk = c.hold_chunk_with-chunk in
    c.hold_in_chunk-page.ensures.still i
    (pages_still (rows group.new.self.groups.items) (rows chunk.new.self.groups.items) chunk.ensures.same i
    (pages_still (rows c.args.self.now.groups.items) (rows group.new.self.groups.items) group.ensures.same i long))
