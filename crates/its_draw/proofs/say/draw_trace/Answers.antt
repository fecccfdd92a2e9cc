use Rattle.its_draw.proofs.say.draw_trace.Goals as goal

pub returns : goal.returns
returns c =
    record { drawing = c.in_ok-drawing.drawing; is_drawn = c.in_ok-drawing.ensures; text_is = c.in_ok-text.ensures }
