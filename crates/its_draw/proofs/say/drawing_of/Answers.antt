use Rattle.its_draw.proofs.Starts.{drawn}
use Rattle.its_draw.proofs.say.drawing_of.Goals as goal

pub returns : goal.returns
returns c =
    drawn c.args.script.now c.args.trace.now.legs _ _ _ _ _ c.in_ok-machine.ensures c.in_ok-scene.ensures.calls c.in_ok-scene.ensures.machine
    c.in_ok-show.ensures.told c.in_ok-show.ensures.run c.into_drawing.ensures
