use Rattle.std.proofs.Common.{◌≡◌, length}
use Rattle.step_views.specs.Firsts.{AreFirsts, AreSeen, is_used}
use Rattle.step_views.proofs.sorted_tables.firsts_among.Given as goal

-- the bits of those so far, and those of the tables that they have
abbrev pub invariant-loop-vcpu : goal.invariant-loop-vcpu
invariant-loop-vcpu l = record {
  firsts : AreFirsts l.vcpu l.redists l.firsts;
  size : length l.seen ≡ 8;
  seen : AreSeen l.tables (is_used l.redists l.vcpu) l.seen;
}
