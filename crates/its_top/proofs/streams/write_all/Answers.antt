use Rattle.std.proofs.Common.{arith, ◌-◌, ◌∙◌, refl, length, drop, length-drop}
use Rattle.std.proofs.lemmas.List.{length-take}
use Rattle.its_top.proofs.Pieces.{Appends-more}
use Rattle.its_top.proofs.streams.write_all.Goals as goal

pub loop-at-preserved : goal.loop-at-preserved
loop-at-preserved g c =
    let w = c.in_ok-at.ensures.written in
    let held = g.K.Sink.held in
    let sent = c.in_ok-at.ensures.cause in
    record {
      appended = Appends-more (held c.args.sink.now) (held c.loop-at.sink) (held c.write.new.self) c.args.text.now c.loop-at.at c.in_ok-at.field-0
          c.loop-at.invariant.appended w.appended;
      same = sent.same refl ∙ c.loop-at.invariant.same;
      within = omega (
        arith,
        w.fits,
        length-take (length c.args.text.now - c.loop-at.at) (drop c.loop-at.at c.args.text.now),
        length-drop c.loop-at.at
            c.args.text.now,
      );
    }
