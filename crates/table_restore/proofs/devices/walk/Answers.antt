use Rattle.std.proofs.Common.{refl, subst, sym, ap}
use Rattle.its_plain.specs.DeviceTables.{first_device, next_device}
use Rattle.standing_states.specs.Walked.{after}
use Rattle.standing_states.specs.Found.{put_found, devices_from, rank, reach}
use Rattle.standing_states.specs.Found.{IsPlace}
use Rattle.table_restore.specs.Outcome.{place_of}
use Rattle.standing_states.proofs.Walks.{is_smaller}
use Rattle.standing_states.proofs.DevicesWalked.{small, devices_rise, device_starts}
use Rattle.table_restore.proofs.Steps.{device_wrong, device_ends, device_leads_to, device_on}
use Rattle.table_restore.proofs.devices.walk.Goals as goal

pub places-init : goal.places-init
places-init c =
    let r = c.args.regs.now in
    record {
      inside = subst (IsPlace r) (sym c.first-place.ensures) (device_starts r (small r c.keeps_rules.ensures.least_bits c.keeps_rules.ensures.most_bits));
      rest = ap (λ p. after put_found c.args.maps.now.maps (devices_from c.args.memory.now c.args.lpi_bits r p)) c.first-place.ensures;
    }

pub returns-in-Err : goal.returns-in-Err
returns-in-Err c =
    let r = c.args.regs.now in
    device_wrong c.args.memory.now c.args.lpi_bits r (small r c.keeps_rules.ensures.least_bits c.keeps_rules.ensures.most_bits) c.args.maps.now.maps
    c.look.new.maps.maps c.places.maps.maps c.look.new.maps.maps (place_of c.places.place) (first_device r) c.in-Err.error c.places.invariant.inside
    c.places.invariant.rest c.in-Err.ensures

pub returns-in_default : goal.returns-in_default
returns-in_default c =
    let r = c.args.regs.now in
    device_ends c.args.memory.now c.args.lpi_bits r (small r c.keeps_rules.ensures.least_bits c.keeps_rules.ensures.most_bits) c.args.maps.now.maps
    c.places.maps.maps c.look.new.maps.maps (place_of c.places.place) (first_device r) c.in-Ok.next c.places.invariant.inside c.places.invariant.rest
    c.in-Ok.ensures c.in_default.is

pub places-smaller : goal.places-smaller
places-smaller c =
    let r = c.args.regs.now in let memory = c.args.memory.now in let s = small r c.keeps_rules.ensures.least_bits c.keeps_rules.ensures.most_bits in
    is_smaller (next_device memory r) rank (reach r) (IsPlace r) (devices_rise memory r s) (place_of c.places.place) (place_of c.in-Some.to)
    (next_device memory r (place_of c.places.place)) c.places.invariant.inside refl
    (device_leads_to memory c.args.lpi_bits r s c.places.maps.maps c.look.new.maps.maps (place_of c.places.place) c.in-Ok.next c.in-Some.to c.in-Ok.ensures
    c.in-Some.is)

pub places-preserved : goal.places-preserved
places-preserved c =
    let r = c.args.regs.now in let memory = c.args.memory.now in let n = c.args.lpi_bits in let s =
    small r c.keeps_rules.ensures.least_bits c.keeps_rules.ensures.most_bits in
    record {
      inside = (devices_rise memory r s).good (place_of c.places.place) (place_of c.in-Some.to) c.places.invariant.inside
          (device_leads_to memory n r s c.places.maps.maps c.look.new.maps.maps (place_of c.places.place) c.in-Ok.next c.in-Some.to c.in-Ok.ensures
          c.in-Some.is);
      rest = device_on memory n r s c.args.maps.now.maps c.places.maps.maps c.look.new.maps.maps (place_of c.places.place) (first_device r) c.in-Ok.next
          c.in-Some.to c.places.invariant.inside c.places.invariant.rest c.in-Ok.ensures c.in-Some.is;
    }
