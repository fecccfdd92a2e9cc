use Rattle.std.proofs.Common.{◌≡◌, ◌≤◌, ◌++◌, ℕ, [], map}
use Rattle.std.specs.List.{AllByRecursion, range_with_len}
use Rattle.lpi_pending.specs.InHand.{conf_in, pend_in}
use Rattle.owned_parts.specs.Owned.{state_of_parts}
use Rattle.its_turns.specs.Contents.{content_of, IsFit}
use Rattle.its_turns.specs.Opening.{setup_from}
use Rattle.its_turns.proofs.Opening.{front, conf_shown, pend_shown}
use Rattle.its_turns.proofs.make.first_values.Given as goal

-- translators and memory, with shards behind them
abbrev pub invariant-loop-shard : goal.invariant-loop-shard
invariant-loop-shard l =
    (map content_of l.values.items ≡ front (state_of_parts l.fn.parts) l._shard []) × AllByRecursion (IsFit (setup_from l.desc l.fn.parts)) l.values.items

-- and configurations
abbrev pub invariant-loop-vcpu : goal.invariant-loop-vcpu
invariant-loop-vcpu l =
    (map content_of l.values.items ≡ front (state_of_parts l.fn.parts) l.shards (map (conf_shown l.fn.parts.redists) (range_with_len 0 l.vcpu)))
    × AllByRecursion (IsFit (setup_from l.desc l.fn.parts)) l.values.items
    × ((k : ℕ) → l.vcpu ≤ k → conf_in l.redists k ≡ conf_in l.fn.parts.redists k)
    × (l.redists.pends ≡ l.fn.parts.redists.pends)

-- and what is pending
abbrev pub invariant-loop-vcpu-2 : goal.invariant-loop-vcpu-2
invariant-loop-vcpu-2 l =
    (map content_of l.values.items ≡ front (state_of_parts l.fn.parts) l.shards (map (conf_shown l.fn.parts.redists)
    (range_with_len 0 l.fn.parts.layout.shape.vcpus) ++ map (pend_shown l.fn.parts.redists) (range_with_len 0 l.vcpu)))
    × AllByRecursion (IsFit (setup_from l.desc l.fn.parts)) l.values.items
    × ((k : ℕ) → l.vcpu ≤ k → pend_in l.redists k ≡ pend_in l.fn.parts.redists k)
