use Rattle.its_turns.specs.Machines.{setup, view}
use Rattle.its_top.proofs.Playing.{first_rests, first_made, first_seen}
use Rattle.its_top.proofs.play.play_leg.Goals as goal

pub run_leg-requires-clause-rests : goal.run_leg-requires-clause-rests
run_leg-requires-clause-rests g c κs within = first_rests (setup c.args.machine.now) (view c.args.root.now) c.requires.fresh.view

pub run_leg-requires-clause-made : goal.run_leg-requires-clause-made
run_leg-requires-clause-made g c κs within = first_made (setup c.args.machine.now) (view c.args.root.now) c.requires.fresh.view

pub run_leg-requires-clause-fresh : goal.run_leg-requires-clause-fresh
run_leg-requires-clause-fresh g c κs within = first_seen (setup c.args.machine.now) (view c.args.root.now) c.requires.fresh.view
