use Rattle.std.proofs.Common.{sym, ap, ◌∙◌}
use Rattle.std.specs.Prelude.{is_some}
use Rattle.step_views.specs.Firsts.{is_known}
use Rattle.step_views.proofs.UsedTables.{used_with, first_is, marked_more}
use Rattle.step_views.proofs.firsts.shared_first.Goals as goal

pub conf-requires : goal.conf-requires
conf-requires c = ap is_some (c.requires.there c.loop-vcpu.vcpu c.loop-vcpu-test.true).1

pub loop-vcpu-preserved : goal.loop-vcpu-preserved
loop-vcpu-preserved c =
    let l = c.loop-vcpu in
    let redists = c.args.redists.now in
    let conf = c.conf.result.now in
    let known = is_known l.table in
    let first = c.in_ok-is_first.ensures in
    record {
      firsts = marked_more redists l.vcpu c.from.result c.in_ok-is_first.is_first l.firsts c.put_bit.new.words l.invariant.firsts c.from.ensures
          c.put_bit.ensures.length c.put_bit.ensures.bits
          (first_is redists l.vcpu conf c.conf.ensures known l.invariant.used c.in_ok-is_first.is_first first.first);
      used = λ t. used_with redists l.vcpu conf c.conf.ensures known l.invariant.used t ∙ sym (first.known t);
    }
