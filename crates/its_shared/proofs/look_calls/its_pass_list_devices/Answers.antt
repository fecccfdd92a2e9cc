use Rattle.std.proofs.Common.{ap, sym, ◌∙◌}
use Rattle.its_numbers.specs.Mapped.{devices_from}
use Rattle.its_plain.specs.Plain.{maps_of}
use Rattle.its_shared.specs.Seeing.{ListsFirst}
use Rattle.its_shared.specs.declared.pass.Pass.{Pass}
use Rattle.its_shared.proofs.Seen.{same_some, shows_of}
use Rattle.its_shared.proofs.Shown.{shows_list}
use Rattle.its_shared.proofs.look_calls.its_pass_list_devices.Goals as goal

pub returns-clause-told : goal.returns-clause-told
returns-clause-told c k l before later has =
    let old = c.lent-port.result.now in
    let now = c.devices.new.self in
    shows_of _ _ old now k l _ _ _ _ _ (same_some old k (sym c.lent-port.ensures.value ∙ (ap (λ (p : Pass). p.known) c.is_empty.ensures.1 ∙ before)))
    (same_some now l later)
    (shows_list (⊥) (λ u before after n. ListsFirst (devices_from (maps_of u c.args.translator) c.args.from) before after n) old now c.devices.result c.told.result c.args.place.now c.told.new.place c.args.list.now
    c.devices.new.list c.args.count.now c.told.new.out c.devices.ensures.seen c.devices.ensures.only c.told.ensures.code c.told.ensures.place c.told.ensures.out)
