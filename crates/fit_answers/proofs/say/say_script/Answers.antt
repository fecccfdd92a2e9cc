use Rattle.event_script.specs.Text.{parts}
use Rattle.fit_answers.proofs.Saying.{refused_as}
use Rattle.fit_answers.proofs.say.say_script.Goals as goal

pub new-requires : goal.new-requires
new-requires c = c.requires.description

pub say_legs-requires : goal.say_legs-requires
say_legs-requires c = c.requires.description

pub returns-in_ok-ending-in-Ok : goal.returns-in_ok-ending-in-Ok
returns-in_ok-ending-in-Ok c = λ input read. c.in_ok-ending-in-Ok.ensures input c.in-Ok.machine (record { read = read; starts = c.in-Ok.ensures })

pub returns-in_ok-line-in-Err-Fault : goal.returns-in_ok-line-in-Err-Fault
returns-in_ok-line-in-Err-Fault c = λ input read. record {
  script = c.args.script.now;
  lines = parts c.args.report.now;
  fault = c.in-Err-Fault.fault;
  read = read;
  refused = refused_as c.args.script.now.desc c.in-Err-Fault.field-0 c.in-Err-Fault.fault c.in-Err-Fault.field-0-is c.in-Err-Fault.ensures;
  same = c.in_ok-line-in-Err-Fault.ensures;
}
