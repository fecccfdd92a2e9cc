use Rattle.std.proofs.Common.{◌≡◌, Bool, true, false, refl, sym, ◌∙◌}
use Rattle.its_types.specs.declared.machine.Part.TheVariants as part
use Rattle.owned_parts.specs.Owned.{conf_state}
use Rattle.its_steps.specs.Contents.{Conf}
use Rattle.its_turns.specs.Machines.{setup, view}
use Rattle.gicr_lpi.proofs.Lows.{low_bases}
use Rattle.gicr_lpi.proofs.Registers.{stood_here, conf_held, got_conf, registers_then}
use Rattle.gicr_lpi.proofs.free.try_registers.Goals as goal

none_read : {b there : Bool} → b ≡ false → b ≡ true → there ≡ true
none_read steady reads = cc

pub reads_tables-requires : goal.reads_tables-requires
reads_tables-requires c = let s = setup c.args.machine.now in let a = c.args.access in let k = conf_state c.in_ok-conf.conf.value in
    rw (c.deref.ensures) (low_bases s a.vcpu k (stood_here s (view c.args.pass.now) (view c.try_take_conf.new.pass) (part.Conf a.vcpu) (Conf k)
    c.requires.of.1 c.in_ok-conf.ensures.result.0))

pub returns-then-reads_tables-clause-result : goal.returns-then-reads_tables-clause-result
returns-then-reads_tables-clause-result c = registers_then (setup c.args.machine.now) c.args.access (view c.args.pass.now) (view c.try_take_conf.new.pass)
    (view c.put.new.pass) (conf_state c.in_ok-conf.conf.value) c.in_ok-conf.ensures.result.0.view c.put.ensures.view (view c.try_with_memory.new.pass)
    c.try_with_memory.result c.try_with_memory.ensures.result

pub returns-clause-result : goal.returns-clause-result
returns-clause-result c =
    let s = setup c.args.machine.now in let a = c.args.access in let v = view c.args.pass.now in let x = view c.try_take_conf.new.pass in
    let k = conf_state c.in_ok-conf.conf.value in let takes = c.in_ok-conf.ensures.result.0 in
    let stood = stood_here s v x (part.Conf a.vcpu) (Conf k) c.requires.of.1 takes in
    record {
      took = got_conf s a v x k takes.view;
      held = conf_held a.vcpu v x k c.requires.free takes.view;
      memory = none_read (rw (c.deref.ensures) at (sym c.reads_tables.ensures ∙ c.if-reads_tables.false));
      stood = stood;
      none = refl;
      hand = record { places = tt; conf_lpis = c.in_ok-conf.ensures.result.1; pend_lpis = tt; low = low_bases s a.vcpu k stood };
    }
