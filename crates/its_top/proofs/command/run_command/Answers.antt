use Rattle.std.proofs.Common.{List, ℕ, subst}
use Rattle.std.specs.String.{string_bytes}
use Rattle.its_io.specs.Count.{Rose}
use Rattle.its_answers.specs.Answered.{StopsShort}
use Rattle.its_answers.proofs.Causes.{short_causes}
use Rattle.its_top.proofs.command.run_command.Goals as goal

pub returns-clause-caused : goal.returns-clause-caused
returns-clause-caused g c =
    let left = g.S.Source.left in
    let faults = g.S.Source.faults in
    let report = string_bytes c.say.new.report in
    let read = c.in-Ok.ensures in
    let short = subst (λ (bytes : List ℕ). StopsShort bytes report) c.deref.ensures.value c.in-Err.ensures.err in
    short_causes (left c.args.source.now) (Rose (faults c.args.source.now) (faults c.read_all.new.source)) c.in-Ok.input.items report
    (record { whole = read.all; short = read.short }) short
