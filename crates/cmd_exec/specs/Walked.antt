-- The LPIs of a collection (IHI 0069, section 5.2.5), device by device.
use Rattle.std.specs.Prelude.{◌≡◌, ℕ, ◌==◌, List, ◌++◌, map, filter}
use Rattle.std.specs.List.{flat_map}
use Rattle.guest_windows.specs.Windows.{Window}
use Rattle.its_types.specs.Maps.{Maps}
use Rattle.its_types.specs.declared.translation.Device.{Device}
use Rattle.its_types.specs.declared.translation.Event.{Event}
use Rattle.its_types.specs.Maps.{events_at}
use Rattle.its_plain.specs.Commands.{conf_all_reread_at}
use Rattle.lpi_pending.specs.InHand.{RedistParts}
use Rattle.cmd_exec.specs.InHand.{confs_changed}

-- of events by EventID, the LPIs of those of a collection
abbrev pub lpis_of : List (ℕ × Event) → ℕ → List ℕ
lpis_of events icid = map (λ e. e.1.intid.0) (filter (λ e. e.1.icid.0 == icid) events)

-- the same of all events of some devices
abbrev pub lpis_of_all : Maps → List (ℕ × Device) → ℕ → List ℕ
lpis_of_all m devices icid = flat_map (λ d. lpis_of (events_at m d.0) icid) devices

-- the first of these INTIDs were read again at the first n virtual processors, and those left are the others
pub record AreLeft (n : ℕ) (memory : List Window) (intids left : List ℕ) (old new : RedistParts) : Type 0 where
  pub done : List ℕ
  pub split : intids ≡ done ++ left
  pub redists : new ≡ confs_changed n (conf_all_reread_at memory done) old
