use Rattle.std.proofs.Common.{◌≡◌, ◌-◌}
use Rattle.std.specs.List.{flat_map, range_with_len}
use Rattle.guest_windows.specs.Fields.{pairs}
use Rattle.lpi_pending.specs.InHand.{conf_in}
use Rattle.step_views.specs.Pairs.{all_told}
use Rattle.its_shared.specs.Besides.{conf_read}
use Rattle.its_shared.proofs.needed.tell_configs.Given as goal

-- what is told so far, with those that are left, is all
abbrev pub invariant-loop-vcpu : goal.invariant-loop-vcpu
invariant-loop-vcpu l =
    all_told (pairs l.told.items) (flat_map (λ v. conf_read l.offset l.length (conf_in l.redists v)) (range_with_len l.vcpu (l.vcpus - l.vcpu)))
    ≡ all_told (pairs l.initial.told.items) (flat_map (λ v. conf_read l.offset l.length (conf_in l.redists v)) (range_with_len 0 l.vcpus))
