use Rattle.std.proofs.Common.{length, ap, sym, subst}
use Rattle.device_port.specs.Routes.{AreDevices}
use Rattle.its_plain.specs.declared.desc.Desc.{Desc}
use Rattle.its_steps.specs.World.{View}
use Rattle.its_turns.specs.Machines.{IsOf}
use Rattle.its_turns.specs.declared.machine.Machine.{Machine}
use Rattle.its_shared.proofs.Packing.{stamps, stamps_of_two, places, few_stamps, alone}
use Rattle.its_shared.proofs.port.Port.new.Goals as goal

pub invariant_of-result : goal.invariant_of-result
invariant_of-result c =
    let e = c.in_ok-machine.ensures.first in
    let same = sym c.in_ok-machine-2.ensures.ok in
    record {
      of = subst (λ (m : Machine). IsOf m c.in_ok-machine.pass) same e.of;
      free = ap (λ (v : View). v.held) e.view;
      devices = subst (λ (m : Machine). AreDevices m.desc.requesters) same
          (subst (λ (d : Desc). AreDevices d.requesters) (sym e.desc)
          (c.requesters_are_apart.ensures.devices c.args.desc.now e.start.base e.start.made_is));
    }

pub share_owned-requires-clause-stamps : goal.share_owned-requires-clause-stamps
share_owned-requires-clause-stamps c = stamps c.args.desc.now.limits (length c.args.desc.now.translators) c.requires.limits

pub share_owned-requires-clause-stamps_of_two : goal.share_owned-requires-clause-stamps_of_two
share_owned-requires-clause-stamps_of_two c = stamps_of_two c.args.desc.now.limits (length c.args.desc.now.translators) c.requires.limits

pub share_owned-requires-clause-places : goal.share_owned-requires-clause-places
share_owned-requires-clause-places c = places c.args.desc.now.limits (length c.args.desc.now.translators) c.requires.limits

pub share_owned-requires-clause-few_stamps : goal.share_owned-requires-clause-few_stamps
share_owned-requires-clause-few_stamps c = few_stamps c.args.desc.now.limits (length c.args.desc.now.translators) c.requires.limits

pub share_owned-requires-clause-alone : goal.share_owned-requires-clause-alone
share_owned-requires-clause-alone c = alone c.args.desc.now.limits (length c.args.desc.now.translators) c.requires.limits
