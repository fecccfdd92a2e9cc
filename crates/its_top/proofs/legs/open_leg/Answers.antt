use Rattle.std.specs.String.{string_bytes}
use Rattle.its_migrate.specs.Resting.{resting}
use Rattle.its_turns.specs.Machines.{setup, view}
use Rattle.its_top.proofs.Runs.{is_open}
use Rattle.its_top.proofs.legs.open_leg.Goals as goal

pub returns-clause-ok : goal.returns-clause-ok
returns-clause-ok g c =
    let m = c.args.machine.now in
    let played = rw c.if-played.false at c.in_ok-played.ensures.played in (
      is_open (setup m) c.args.leg.now c.args.number c.in_ok-played.played.lines.items (view c.play_leg.new.root).seen
          (string_bytes c.args.report.now) (string_bytes c.open_text.new.report) (resting m c.pending_texts.new.root) c.in_ok-texts.texts
          (string_bytes c.in_ok-text.text) played c.in_ok-texts.ensures.same c.in_ok-texts.ensures.texts c.in_ok-text.ensures.text,
      c.open_text.ensures.same,
    )
