use Rattle.std.proofs.Common.{Some, None, ap, ◌∙◌, subst}
use Rattle.its_maps.specs.LookUp.{found, looked_up}
use Rattle.its_maps.specs.MapsRoom.{EventsHaveDevices}
use Rattle.its_maps.proofs.Calls.{looked, events_have_devices}
use Rattle.its_maps.proofs.maps.Maps.look_up.Goals as goal

pub returns-in-None-clause-found : goal.returns-in-None-clause-found
returns-in-None-clause-found c =
    looked c.self.inside.devices.map c.self.inside.collections.map c.args.dev.0 c.args.ev.0 None c.in-None.ensures
    ∙ ap (λ m. looked_up m.maps c.args.dev.0 c.args.ev.0) c.self.view_is

pub returns-in-None-clause-mapped : goal.returns-in-None-clause-mapped
returns-in-None-clause-mapped c = subst (λ m. EventsHaveDevices m.maps) c.self.view_is
    (events_have_devices c.self.inside.devices.map c.self.inside.collections.map)

pub returns-in-None-get-clause-found : goal.returns-in-None-get-clause-found
returns-in-None-get-clause-found c =
    ap (found (Some c.in-Some.record.now.device)) c.in-None-get.ensures
    ∙ looked c.self.inside.devices.map c.self.inside.collections.map c.args.dev.0 c.args.ev.0 (Some c.in-Some.record.now) c.in-Some.ensures
    ∙ ap (λ m. looked_up m.maps c.args.dev.0 c.args.ev.0) c.self.view_is

pub returns-in-None-get-clause-mapped : goal.returns-in-None-get-clause-mapped
returns-in-None-get-clause-mapped c = subst (λ m. EventsHaveDevices m.maps) c.self.view_is
    (events_have_devices c.self.inside.devices.map c.self.inside.collections.map)

pub returns-in-Some-get-clause-found : goal.returns-in-Some-get-clause-found
returns-in-Some-get-clause-found c =
    ap (found (Some c.in-Some.record.now.device)) c.in-Some-get.ensures
    ∙ looked c.self.inside.devices.map c.self.inside.collections.map c.args.dev.0 c.args.ev.0 (Some c.in-Some.record.now) c.in-Some.ensures
    ∙ ap (λ m. looked_up m.maps c.args.dev.0 c.args.ev.0) c.self.view_is

pub returns-in-Some-get-clause-mapped : goal.returns-in-Some-get-clause-mapped
returns-in-Some-get-clause-mapped c = subst (λ m. EventsHaveDevices m.maps) c.self.view_is
    (events_have_devices c.self.inside.devices.map c.self.inside.collections.map)
