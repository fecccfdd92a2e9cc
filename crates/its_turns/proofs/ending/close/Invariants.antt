use Rattle.std.proofs.Common.{◌≡◌, ◌+◌, ◌*◌, length}
use Rattle.std.specs.Slots.{slots_filled, slots_items, slots_len}
use Rattle.atomic_table.specs.Table.{Final, Seen}
use Rattle.its_plain.specs.History.{after}
use Rattle.its_steps.specs.Parts.{vcpu_count}
use Rattle.lpi_config.specs.Conf.{Conf}
use Rattle.lpi_pending.specs.Pend.{Pend}
use Rattle.owned_parts.specs.Owned.{IsConfOf, IsPendOf}
use Rattle.its_turns.specs.Closed.{AreTaken, AreBelow}
use Rattle.its_turns.specs.Machines.{setup, view}
use Rattle.its_turns.specs.Rule.{Kept}
use Rattle.its_turns.proofs.ending.close.Given as goal

abbrev pub invariant-loop-shard : goal.invariant-loop-shard
invariant-loop-shard l =
    AreTaken (8 * l.shard) (slots_len l.closed.slots) (slots_filled l.closed.slots)
    × Final (Seen (Kept (setup l.fn.machine)) l.fn.root.seat.id (view l.fn.root)) (slots_items l.closed.words) (slots_items l.closed.slots)
    × (slots_len l.closed.slots ≡ l.fn.machine.table.shared.table_id.slots)

abbrev pub invariant-loop-vcpu : goal.invariant-loop-vcpu
invariant-loop-vcpu l =
    AreTaken (8 * (l.first_conf + l.vcpu)) (slots_len l.closed.slots) (slots_filled l.closed.slots)
    × Final (Seen (Kept (setup l.fn.machine)) l.fn.root.seat.id (view l.fn.root)) (slots_items l.closed.words) (slots_items l.closed.slots)
    × (slots_len l.closed.slots ≡ l.fn.machine.table.shared.table_id.slots)
    × AreBelow Conf (IsConfOf (after (setup l.fn.machine).start (view l.fn.root).seen)) l.vcpu l.redists.confs
    × AreBelow Pend (IsPendOf (after (setup l.fn.machine).start (view l.fn.root).seen)) 0 l.redists.pends
    × (length l.redists.confs ≡ l.fn.machine.desc.shape.vcpus)
    × (length l.redists.pends ≡ l.fn.machine.desc.shape.vcpus)

abbrev pub invariant-loop-vcpu-2 : goal.invariant-loop-vcpu-2
invariant-loop-vcpu-2 l =
    AreTaken (8 * (l.first_pend + l.vcpu)) (slots_len l.closed.slots) (slots_filled l.closed.slots)
    × Final (Seen (Kept (setup l.fn.machine)) l.fn.root.seat.id (view l.fn.root)) (slots_items l.closed.words) (slots_items l.closed.slots)
    × (slots_len l.closed.slots ≡ l.fn.machine.table.shared.table_id.slots)
    × AreBelow Conf (IsConfOf (after (setup l.fn.machine).start (view l.fn.root).seen)) (vcpu_count (setup l.fn.machine)) l.redists.confs
    × AreBelow Pend (IsPendOf (after (setup l.fn.machine).start (view l.fn.root).seen)) l.vcpu l.redists.pends
    × (length l.redists.pends ≡ l.fn.machine.desc.shape.vcpus)
