use Rattle.ports_together.proofs.legs.ran.Goals as goal

pub run_leg-requires-clause-may : goal.run_leg-requires-clause-may
run_leg-requires-clause-may g c κs l =
    let shared = c.requires.shared in c.requires.leg.may c.args.machine.now shared.translators shared.vcpus
