use Rattle.std.proofs.Common.{◌/◌, length, ap, ◌∙◌}
use Rattle.std.proofs.lemmas.Result.{on_ok_weaker}
use Rattle.guest_windows.proofs.Groups.{length-chunks, group_put}
use Rattle.guest_windows.proofs.Fitting.{has_group, same_group}
use Rattle.guest_windows.proofs.frame.Frame.hold_group.Goals as goal

pub returns-clause-same : goal.returns-clause-same
returns-clause-same c =
    let f = c.args.self.now in
    same_group f.groups.items (c.args.page / 4096 / 1024) c.index_mut.result.now c.hold.new.self (has_group f c.args.page c.requires) c.index_mut.ensures.value
    c.hold.ensures.same

pub returns-clause-held : goal.returns-clause-held
returns-clause-held c =
    let f = c.args.self.now in
    let new = c.hold.new.self in
    let now = group_put f.groups.items (c.args.page / 4096 / 1024) (has_group f c.args.page c.requires) new in
    on_ok_weaker c.hold.result (λ held. ap length now ∙ length-chunks new.chunks.items ∙ held) c.hold.ensures.held
