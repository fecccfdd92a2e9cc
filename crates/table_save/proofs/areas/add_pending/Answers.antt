use Rattle.std.proofs.Common.{List, ◌++◌, ap, ◌∙◌, arith}
use Rattle.std.specs.Prelude.{is_some}
use Rattle.its_plain.specs.Regions.{pending_area}
use Rattle.its_plain.specs.declared.area.Area.{Area}
use Rattle.its_types.specs.declared.translation.Bases.{Bases}
use Rattle.table_save.specs.Areas.{pending_area as area_of}
use Rattle.table_save.proofs.Redistributors.{area_more, areas_done}
use Rattle.table_save.proofs.areas.add_pending.Goals as goal

pub conf-conf-requires : goal.conf-conf-requires
conf-conf-requires c = ap is_some (c.requires.in_hand c.loop-vcpu.vcpu c.loop-vcpu-test.true).0.1

pub loop-vcpu-preserved : goal.loop-vcpu-preserved
loop-vcpu-preserved c =
    let v = c.loop-vcpu.invariant in
    let more = c.add_pending_of.ensures in
    let at : Bases → List Area = λ (b : Bases). c.loop-vcpu.areas.items ++ area_of c.args.shape (record { 0 = c.loop-vcpu.vcpu }) b in
    let pend = (c.requires.in_hand c.loop-vcpu.vcpu c.loop-vcpu-test.true).1 in
    record {
      items = area_more (pending_area c.args.shape) c.args.shape c.loop-vcpu.vcpu c.args.redists.now c.conf-conf.result.now pend.0 c.loop-vcpu.areas.items
          c.add_pending_of.new.areas.items _ c.loop-vcpu-test.true (record { conf = c.conf-conf.ensures; pend = pend.1 })
          (more.items ∙ ap at c.bases.ensures) v.items;
      few = omega (arith, more.few, v.few);
      capacity = omega (arith, more.capacity, v.capacity);
    }

pub returns : goal.returns
returns c =
    let v = c.loop-vcpu.invariant in
    record {
      items = areas_done (pending_area c.args.shape) c.args.shape c.loop-vcpu.vcpu c.args.redists.now c.loop-vcpu.areas.items _ (omega (arith, c.loop-vcpu-test.false))
          v.items;
      few = omega (arith, v.few, c.loop-vcpu.auto.vcpu-end);
      capacity = v.capacity;
    }
