use Rattle.std.proofs.Common.{sym, ap, ◌∙◌, refl}
use Rattle.std.specs.Prelude.{is_some}
use Rattle.step_views.specs.Firsts.{is_used}
use Rattle.step_views.proofs.UsedTables.{used_with, first_is, marked_more}
use Rattle.step_views.proofs.sorted_tables.firsts_among.Goals as goal

pub conf-requires : goal.conf-requires
conf-requires c = ap is_some (c.requires.there c.loop-vcpu.vcpu c.loop-vcpu-test.true).1

pub loop-vcpu-preserved : goal.loop-vcpu-preserved
loop-vcpu-preserved c =
    let l = c.loop-vcpu in
    let redists = c.args.redists.now in
    let conf = c.conf.result.now in
    let used = is_used redists l.vcpu in
    let first = c.is_first-is_first.ensures in
    record {
      firsts = marked_more redists l.vcpu c.from.result c.is_first-is_first.result l.firsts c.put_bit.new.words l.invariant.firsts c.from.ensures
          c.put_bit.ensures.length c.put_bit.ensures.bits
          (first_is redists l.vcpu conf c.conf.ensures used (λ t. refl) c.is_first-is_first.result (first.first used l.invariant.seen));
      size = first.size;
      seen = λ t place at. first.seen used l.invariant.seen t place at ∙ sym (used_with redists l.vcpu conf c.conf.ensures used (λ t. refl) t);
    }
