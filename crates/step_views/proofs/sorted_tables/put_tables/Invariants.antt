use Rattle.std.proofs.Common.{◌≡◌, ◌<◌, ℕ, length, Some}
use Rattle.std.specs.Prelude.{slice_index}
use Rattle.lpi_config.specs.Conf.{Conf}
use Rattle.lpi_pending.specs.InHand.{conf_in}
use Rattle.step_views.proofs.sorted_tables.put_tables.Given as goal

-- the tables of those so far
abbrev pub invariant-loop-vcpu : goal.invariant-loop-vcpu
invariant-loop-vcpu l = record {
  same_length : length l.list ≡ length l.initial.list;
  put : (v : ℕ) (c : Conf) → v < l.vcpu → conf_in l.redists v ≡ Some c → slice_index l.list v ≡ c.bases.prop.table.0;
}
