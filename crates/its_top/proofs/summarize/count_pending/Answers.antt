use Rattle.std.proofs.Common.{List, ap, length, map, ◌∙◌}
use Rattle.its_types.specs.declared.ids.Intid.{Intid}
use Rattle.its_top.proofs.Summaries.{pending_are}
use Rattle.its_top.proofs.summarize.count_pending.Goals as goal

pub returns : goal.returns
returns c =
    let m = c.args.shared.machine in
    c.in_ok-counts.ensures ∙ ap (map (λ (lpis : List Intid). length lpis)) c.as_slice.ensures ∙ pending_are c.in_ok-lists.lists m c.args.shared.root
    c.in_ok-lists.ensures.lists c.requires.view
