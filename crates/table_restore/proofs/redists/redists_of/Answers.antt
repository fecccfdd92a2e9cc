use Rattle.std.proofs.Common.{arith}
use Rattle.standing_states.specs.Laws.{bases_to_restore}
use Rattle.table_restore.proofs.Restored.{all_restored, none_below, one_more}
use Rattle.table_restore.proofs.redists.redists_of.Goals as goal

pub returns-clause-redists : goal.returns-clause-redists
returns-clause-redists c =
    let l = c.args.layout.now in let some = c.requires.layout.shape.some_vcpus in
    let many = c.loop-vcpu.invariant.many (omega (arith, some, c.loop-vcpu-test.false)) in
    all_restored l.shape c.args.memory.now (bases_to_restore l c.args.gicr.now) c.loop-vcpu.redists c.loop-vcpu.vcpu
    (omega (arith, many)) c.loop-vcpu.invariant.below

pub returns-clause-many : goal.returns-clause-many
returns-clause-many c = let some = c.requires.layout.shape.some_vcpus in c.loop-vcpu.invariant.many (omega (arith, some, c.loop-vcpu-test.false))

pub loop-vcpu-preserved : goal.loop-vcpu-preserved
loop-vcpu-preserved c =
    let l = c.args.layout.now in let before = c.loop-vcpu.invariant in let found = c.in_ok-conf in
    let conf = rw c.in_ok-new.ensures.ok at c.place_conf.ensures.placed in
    let pend = rw c.in_ok-new-2.ensures.ok at c.place_pend.ensures.placed in
    record {
      below = one_more l.shape c.args.memory.now (bases_to_restore l c.args.gicr.now) c.loop-vcpu.redists c.place_pend.new.self c.loop-vcpu.vcpu
          c.bases_of-bases.result (found.conf, found.pend) c.bases_of-bases.ensures.bases (rw conf at pend)
          c.loop-vcpu-test.true found.ensures.1 found.ensures.0 before.below;
      many = λ some. c.bases_of-bases.ensures.many;
    }

pub loop-vcpu-init : goal.loop-vcpu-init
loop-vcpu-init c =
    let l = c.args.layout.now in
    record {
      below = none_below l.shape c.args.memory.now (bases_to_restore l c.args.gicr.now) _ c.in_ok-redists.ensures;
      many = λ some. absurd (omega (arith, some));
    }
