use Rattle.std.proofs.Common.{refl}
use Rattle.std.specs.Prelude.{not}
use Rattle.its_types.specs.Maps.{pair_cmp, is_pair}
use Rattle.plain_machine.proofs.Entries.{kept_is, kept_rise, pair_total, pair_exact}
use Rattle.plain_machine.proofs.maps.MapLists.unmap_event.Goals as goal

pub invariant_of-self : goal.invariant_of-self
invariant_of-self c = record {
  devices = c.self.invariant.devices;
  events = rw c.remove_event.ensures (kept_rise pair_cmp pair_total pair_exact c.self.inside.events.items (λ k. not (is_pair c.args.dev.0 c.args.ev.0 k))
      c.self.invariant.events);
  collections = c.self.invariant.collections;
}

pub returns : goal.returns
returns c = rw (
  ← c.self.view_is,
  c.remove_event.ensures,
  kept_is pair_cmp pair_total pair_exact c.self.inside.events.items
      (λ k. not (is_pair c.args.dev.0 c.args.ev.0 k)) c.self.invariant.events,
) refl
