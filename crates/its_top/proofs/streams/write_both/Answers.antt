use Rattle.std.specs.Prelude.{OnErr}
use Rattle.std.proofs.Common.{Result, Ok, Err}
use Rattle.its_top.proofs.Pieces.{front-of-first, front-of-second}
use Rattle.its_top.proofs.streams.write_both.Goals as goal

on_err : {A E : Type 0} {P Q : Type 0} (r : Result A E) → (P → Q) → OnErr r P → OnErr r Q
on_err (Ok a) f h = tt
on_err (Err e) f h = f h

always : {A E : Type 0} {Q : Type 0} (r : Result A E) → Q → OnErr r Q
always (Ok a) h = tt
always (Err e) h = h

pub returns-in_err-write_all-clause-err : goal.returns-in_err-write_all-clause-err
returns-in_err-write_all-clause-err g c =
    let held = g.K.Sink.held in
    let w = c.in_err-write_all.ensures.err in
    always c.from_residual.result (front-of-first (held c.args.sink.now) (held c.write_all.new.sink) w.0 c.args.first.now c.args.second.now w.1)

pub returns-clause-err : goal.returns-clause-err
returns-clause-err g c =
    let held = g.K.Sink.held in
    on_err c.write_all-2.result
    (λ w. front-of-second (held c.args.sink.now) (held c.write_all.new.sink) (held c.write_all-2.new.sink) w.0 c.args.first.now c.args.second.now
    c.in_ok-write_all.ensures.ok w.1)
    c.write_all-2.ensures.err
