use Rattle.std.proofs.Common.{◌∷◌, List, refl, ap, sym, ◌∙◌, subst}
use Rattle.its_types.specs.declared.machine.Part.TheVariants as part
use Rattle.its_steps.specs.Contents.{Held, Mem}
use Rattle.its_steps.specs.Parts.{vcpu_count}
use Rattle.its_steps.specs.World.{out}
use Rattle.its_turns.specs.Contents.{held_before}
use Rattle.its_turns.specs.Machines.{setup, view}
use Rattle.its_turns.specs.declared.value.GuestMemory.{GuestMemory}
use Rattle.held_parts.specs.Redists.{redists_held, AreBeforeConfs, AreBeforePends, IsRedistIn}
use Rattle.held_parts.specs.Taking.{holding}
use Rattle.held_parts.specs.Wholes.{IsNoShard}
use Rattle.held_parts.proofs.Both.{both_no_shard, mem_before_confs, mem_before_pends, empty_places}
use Rattle.held_parts.proofs.Once.{once_one, once_then, once_wider, got_held, busy_one, busy_then, busy_wider, busy_held}
use Rattle.held_parts.proofs.whole_once.once_memory.Goals as goal

pub returns-in-Err-clause-result : goal.returns-in-Err-clause-result
returns-in-Err-clause-result c = busy_one IsNoShard (view c.args.pass.now) (view c.try_take_memory.new.pass) part.Mem c.in-Err.busy tt c.in-Err.ensures.result

pub once_redists-requires-clause-empty : goal.once_redists-requires-clause-empty
once_redists-requires-clause-empty c =
    rw (c.deref_mut.ensures.value) (empty_places (setup c.args.machine.now) c.in-Ok.memory.value.redists c.in-Ok.ensures.result.1)

pub once_redists-requires-clause-before_confs : goal.once_redists-requires-clause-before_confs
once_redists-requires-clause-before_confs c = let m = c.in-Ok.memory.value in
    subst AreBeforeConfs (sym (got_held (view c.args.pass.now) (view c.try_take_memory.new.pass) part.Mem (Mem m.memory m.track) c.in-Ok.ensures.result.0))
    (mem_before_confs (Mem m.memory m.track) (view c.args.pass.now).held c.requires.before_confs)

pub once_redists-requires-clause-before_pends : goal.once_redists-requires-clause-before_pends
once_redists-requires-clause-before_pends c = let m = c.in-Ok.memory.value in
    subst AreBeforePends (sym (got_held (view c.args.pass.now) (view c.try_take_memory.new.pass) part.Mem (Mem m.memory m.track) c.in-Ok.ensures.result.0))
    (mem_before_pends (Mem m.memory m.track) (view c.args.pass.now).held c.requires.before_pends)

pub returns-in-Ok-once_redists-clause-result : goal.returns-in-Ok-once_redists-clause-result
returns-in-Ok-once_redists-clause-result c =
    let a = c.args in let n = vcpu_count (setup a.machine.now) in let v = view a.pass.now in let x = view c.try_take_memory.new.pass in
    let y = view c.once_redists.new.pass in let m = c.in-Ok.memory.value in let then = c.in-Ok-once_redists.ensures.result in
    let redists = c.once_redists.new.redists in let lent = c.deref_mut.ensures.value in (
      once_then IsNoShard v x y (once_one IsNoShard v x part.Mem (Mem m.memory m.track) tt c.in-Ok.ensures.result.0)
          (once_wider (IsRedistIn a.all a.all) IsNoShard (both_no_shard a.all a.all) x y then.0),
      then.1 ∙ (ap (redists_held redists n) (got_held v x part.Mem (Mem m.memory m.track) c.in-Ok.ensures.result.0)
          ∙ ap (λ (k : GuestMemory). redists_held redists n (out part.Mem (Mem k.memory k.track) ∷ v.held)) (sym lent)),
      then.2,
    )

pub put-requires-clause-owed : goal.put-requires-clause-owed
put-requires-clause-owed c =
    let v = view c.args.pass.now in let x = view c.try_take_memory.new.pass in let y = view c.once_redists.new.pass in let m = c.in-Ok.memory.value in
    let lent = c.deref_mut.ensures.value in let k = c.deref_mut.result.now in let b = c.in-Err-once_redists.busy in
    record {
      content = Mem k.memory k.track;
      content_is = refl;
      before = v.held;
      last = busy_held (IsRedistIn c.args.all c.args.all) x y b c.in-Err-once_redists.ensures.result.0
          ∙ (got_held v x part.Mem (Mem m.memory m.track) c.in-Ok.ensures.result.0
          ∙ ap (λ (k : GuestMemory). (let l : List Held = out part.Mem (Mem k.memory k.track) ∷ v.held in l)) (sym lent));
    }

pub put-requires-clause-fit : goal.put-requires-clause-fit
put-requires-clause-fit c = let none = c.in-Err-once_redists.ensures.result.1 in record {
  confs = none.confs;
  pends = none.pends;
  conf_room = none.places.confs;
  pend_room = none.places.pends;
}

pub returns-in-Err-once_redists-clause-result : goal.returns-in-Err-once_redists-clause-result
returns-in-Err-once_redists-clause-result c =
    let a = c.args in let v = view a.pass.now in let x = view c.try_take_memory.new.pass in let y = view c.once_redists.new.pass in
    let m = c.in-Ok.memory.value in let b = c.in-Err-once_redists.busy in let f = c.in-Err-once_redists.ensures.result.0 in
    busy_then IsNoShard v x y (view c.put.new.pass) b (once_one IsNoShard v x part.Mem (Mem m.memory m.track) tt c.in-Ok.ensures.result.0)
    (busy_wider (IsRedistIn a.all a.all) IsNoShard (both_no_shard a.all a.all) x y b f)
    (c.put.ensures.view ∙ ap (λ (l : List Held). holding y (held_before l)) (busy_held (IsRedistIn a.all a.all) x y b f
    ∙ got_held v x part.Mem (Mem m.memory m.track) c.in-Ok.ensures.result.0))
