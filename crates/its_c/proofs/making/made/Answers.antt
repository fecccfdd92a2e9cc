use Rattle.its_plain.specs.Described.{IsFirstState}
use Rattle.its_c.proofs.making.made.Goals as goal

pub new-requires-3-clause-devices : goal.new-requires-3-clause-devices
new-requires-3-clause-devices c =
    let first : IsFirstState c.args.desc c.in_ok-machine.machine = c.in_ok-machine.ensures in
    c.requesters_are_devices.ensures c.args.desc first.base first.made_is
