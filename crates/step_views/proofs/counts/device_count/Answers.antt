use Rattle.std.proofs.Common.{sym, ◌∙◌}
use Rattle.step_views.proofs.OfMachine.{lent_number, lent_none, devices_there, no_devices}
use Rattle.step_views.proofs.counts.device_count.Goals as goal

pub returns-in-Some : goal.returns-in-Some
returns-in-Some c =
    let at = lent_number c.args.parts.now c.in_place.result c.args.its c.translator.result c.in_place.ensures.state c.translator.ensures c.in-Some.translator
    c.in-Some.is in
    c.device_count.ensures ∙ devices_there c.args.parts.now c.in-Some.translator c.requires c.args.its at

pub returns-in-None : goal.returns-in-None
returns-in-None c =
    let none = lent_none c.args.parts.now c.in_place.result c.args.its c.translator.result c.in_place.ensures.state c.translator.ensures c.in-None.is in
    sym (no_devices c.args.parts.now c.args.its none)
