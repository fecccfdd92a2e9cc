use Rattle.std.proofs.Common.{refl}
use Rattle.its_types.specs.Maps.{pair_cmp}
use Rattle.plain_machine.proofs.Entries.{put_is, put_rises, pair_total, pair_exact}
use Rattle.plain_machine.proofs.maps.MapLists.map_event.Goals as goal

pub invariant_of-self-2 : goal.invariant_of-self-2
invariant_of-self-2 c = record {
  devices = c.self.invariant.devices;
  events = rw c.in_ok-put.ensures.ok (put_rises pair_cmp pair_total pair_exact c.self.inside.events.items (c.args.dev.0, c.args.ev.0) c.new.result
      c.self.invariant.events);
  collections = c.self.invariant.collections;
}

pub returns : goal.returns
returns c = rw (← c.self.view_is, c.in_ok-put.ensures.ok)
    (rw (put_is pair_cmp pair_total pair_exact c.self.inside.events.items (c.args.dev.0, c.args.ev.0) c.new.result c.self.invariant.events, c.new.ensures) refl)
