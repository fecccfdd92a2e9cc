use Rattle.std.proofs.Common.{◌≡◌, ℕ, ◌<◌, ◌^◌, drop, slice_index_or}
use Rattle.its_types.specs.declared.ids.Addr.{Addr}
use Rattle.its_plain.specs.Machine as spec
use Rattle.plain_machine.proofs.make.pending_inside.Given as goal

abbrev pub invariant-loop-vcpu : goal.invariant-loop-vcpu
invariant-loop-vcpu l =
    (spec.pending_inside l.memory l.size l.vcpu (drop l.vcpu l.bases) ≡ spec.pending_inside l.memory l.size 0 l.bases)
    × ((k : ℕ) (d : Addr) → k < l.vcpu → (slice_index_or l.bases k d).0 < 2 ^ 52)
