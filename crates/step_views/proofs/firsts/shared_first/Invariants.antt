use Rattle.std.proofs.Common.{◌≡◌, ℕ}
use Rattle.step_views.specs.Firsts.{AreFirsts, is_used, is_known}
use Rattle.step_views.proofs.firsts.shared_first.Given as goal

-- the bits of those so far, and the one table that they have
abbrev pub invariant-loop-vcpu : goal.invariant-loop-vcpu
invariant-loop-vcpu l = record {
  firsts : AreFirsts l.vcpu l.redists l.firsts;
  used : (t : ℕ) → is_used l.redists l.vcpu t ≡ is_known l.table t;
}
