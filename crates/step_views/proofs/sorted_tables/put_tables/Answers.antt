use Rattle.std.proofs.Common.{ap}
use Rattle.std.specs.Prelude.{is_some}
use Rattle.step_views.proofs.sorted_tables.put_tables.Goals as goal

pub conf-requires : goal.conf-requires
conf-requires c = ap is_some (c.requires.there c.loop-vcpu.vcpu c.loop-vcpu-test.true).1
