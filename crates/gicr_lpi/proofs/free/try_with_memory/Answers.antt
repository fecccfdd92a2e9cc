use Rattle.std.proofs.Common.{refl, inl, inr}
use Rattle.its_types.specs.declared.machine.Part.TheVariants as part
use Rattle.owned_parts.specs.Owned.{conf_state}
use Rattle.its_steps.specs.Contents.{Mem, Conf}
use Rattle.its_turns.specs.Machines.{setup, view}
use Rattle.gicr_lpi.specs.Accesses.{IsOfWrite}
use Rattle.gicr_lpi.proofs.Lows.{low_bases}
use Rattle.gicr_lpi.proofs.Once.{first_busy}
use Rattle.gicr_lpi.proofs.Registers.{stood_here, both_held, conf_busy, got_both}
use Rattle.gicr_lpi.proofs.free.try_with_memory.Goals as goal

pub returns-in-Err-clause-result : goal.returns-in-Err-clause-result
returns-in-Err-clause-result c = first_busy (IsOfWrite (setup c.args.machine.now) c.args.access) (view c.args.pass.now) (view c.try_take_memory.new.pass)
    part.Mem c.in-Err.busy (inr (inl (refl, c.requires.asked))) c.in-Err.ensures.result

pub returns-in-Ok-try_take_conf-clause-result : goal.returns-in-Ok-try_take_conf-clause-result
returns-in-Ok-try_take_conf-clause-result c =
    let s = setup c.args.machine.now in let a = c.args.access in let v = view c.args.pass.now in let x = view c.try_take_memory.new.pass in
    let y = view c.try_take_conf.new.pass in let memory = c.in-Ok.memory.value in let k = conf_state c.in-Ok-try_take_conf.conf.value in
    let first = c.in-Ok.ensures.result.0.view in let second = c.in-Ok-try_take_conf.ensures.result.0.view in
    let stood = stood_here s x y (part.Conf a.vcpu) (Conf k) c.try_take_memory.ensures.of.1 c.in-Ok-try_take_conf.ensures.result.0 in
    record {
      took = got_both s a v x y (Mem memory.memory memory.track) k c.requires.asked first second;
      held = both_held a.vcpu v x y memory.memory memory.track k c.requires.free first second;
      memory = λ _. refl;
      stood = stood;
      none = refl;
      hand = record {
        places = c.in-Ok.ensures.result.1;
        conf_lpis = c.in-Ok-try_take_conf.ensures.result.1;
        pend_lpis = tt;
        low = low_bases s a.vcpu k stood;
      };
    }

pub returns-in-Err-try_take_conf-clause-result : goal.returns-in-Err-try_take_conf-clause-result
returns-in-Err-try_take_conf-clause-result c =
    let memory = c.in-Ok.memory.value in
    conf_busy (setup c.args.machine.now) c.args.access (view c.args.pass.now) (view c.try_take_memory.new.pass) (view c.try_take_conf.new.pass)
    (view c.put.new.pass) (Mem memory.memory memory.track) c.in-Err-try_take_conf.busy c.requires.asked c.in-Ok.ensures.result.0.view
    c.in-Err-try_take_conf.ensures.result c.put.ensures.view
