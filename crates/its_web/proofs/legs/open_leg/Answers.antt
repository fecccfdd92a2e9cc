use Rattle.std.specs.String.{string_bytes}
use Rattle.its_web.proofs.Opened.{is_open, is_spent}
use Rattle.its_web.proofs.legs.open_leg.Goals as goal

pub returns : goal.returns
returns c =
    let played = rw c.if-played.false at c.in_ok-played.ensures in (
      is_open c.args.last c.args.machine.now c.play_leg.new.machine c.args.leg.now c.args.number c.in_ok-played.played.lines.items c.in_ok-texts.texts
          (string_bytes c.in_ok-text.text) played c.in_ok-texts.ensures c.in_ok-text.ensures.text,
      c.open_text.ensures.same,
    )
