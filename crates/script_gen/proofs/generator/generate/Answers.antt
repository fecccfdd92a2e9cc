-- What was put together is the script, which keeps to the limits.
use Rattle.std.proofs.Common.{◌≡◌, sym, subst, rules}
use Rattle.event_script.specs.Limits.{IsWithinLimits}
use Rattle.event_script.specs.declared.script.Script.{Script}
use Rattle.script_gen.specs.Generated.{generated}
use Rattle.script_gen.proofs.Within.{within}
use Rattle.script_gen.proofs.generator.generate.Goals as goal

pub returns-clause-limits : goal.returns-clause-limits
returns-clause-limits c =
    let made : Script = record {
      desc = c.in_ok-description.field-0;
      fill_lines = c.new-2.result;
      requester_lines = c.new-3.result;
      legs = c.push-4.new.self;
      moves = c.push-5.new.self;
    } in
    let is : made ≡ generated c.args.signals c.args.threads = search rules in
    subst IsWithinLimits (sym is) (within c.args.signals c.args.threads c.requires)
