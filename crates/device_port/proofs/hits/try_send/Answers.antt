use Rattle.std.proofs.Common.{rules, ◌∙◌, ap, subst}
use Rattle.its_types.specs.declared.machine.Part.TheVariants as part
use Rattle.owned_parts.specs.Owned.{pend_state}
use Rattle.its_steps.specs.Contents.{Shard}
use Rattle.its_steps.specs.Parts.{Setup, stamp_of}
use Rattle.its_steps.specs.World.{View}
use Rattle.its_turns.specs.Machines.{setup, view}
use Rattle.its_turns.specs.Told.{HasStood}
use Rattle.device_port.proofs.Cached.{busy_shard, missed_now, busy_pend, hit_now}
use Rattle.device_port.proofs.Targets.{cached_target}
use Rattle.device_port.proofs.hits.try_send.Goals as goal

pub returns-in-Err-clause-answer : goal.returns-in-Err-clause-answer
returns-in-Err-clause-answer g c =
    let m = c.args.machine.now in let s = setup m in let v = view c.args.pass.now in let v1 = view c.begin.new.pass in let w = c.in-Ok.word in let looks =
    c.in-Ok.ensures.word.0 in let is = c.shard_of-number.ensures.number in
    (busy_shard s c.args.call.now c.args.message v v1 w c.requires.of.1 c.requires.free looks c.in-Ok.ensures.word.1 c.in-Err.busy
    (view c.try_take_shard.new.pass)
    (rw (is) at c.in-Err.ensures.result)).0

pub returns-in_default-find-clause-answer : goal.returns-in_default-find-clause-answer
returns-in_default-find-clause-answer g c =
    let m = c.args.machine.now in let s = setup m in let v = view c.args.pass.now in let v1 = view c.begin.new.pass in let w = c.in-Ok.word in let looks =
    c.in-Ok.ensures.word.0 in let is = c.shard_of-number.ensures.number in
    let took = rw (is) at c.in-Ok-try_take_shard.ensures.result.view in
    (missed_now s c.args.call.now c.args.message v v1 w c.requires.of.1 c.requires.free looks c.in-Ok.ensures.word.1
    (view c.try_take_shard.new.pass) c.in-Ok-try_take_shard.shard took
    (view c.put.new.pass) (search rules) c.put.ensures.view).0

pub returns-in-Err-try_take_pend-clause-answer : goal.returns-in-Err-try_take_pend-clause-answer
returns-in-Err-try_take_pend-clause-answer g c =
    let m = c.args.machine.now in let s = setup m in let v = view c.args.pass.now in let v1 = view c.begin.new.pass in let w = c.in-Ok.word in let looks =
    c.in-Ok.ensures.word.0 in let is = c.shard_of-number.ensures.number in
    let took = rw (is) at c.in-Ok-try_take_shard.ensures.result.view in
    (busy_pend s c.args.call.now c.args.message v v1 w c.requires.of.1 c.requires.free looks c.in-Ok.ensures.word.1
    (view c.try_take_shard.new.pass) c.in-Ok-try_take_shard.shard took
    c.in-Some.target c.in-Err-try_take_pend.busy (view c.put-in-Err-try_take_pend.new.pass) (view c.try_take_pend.new.pass)
    (search rules) c.in-Err-try_take_pend.ensures.result c.put-in-Err-try_take_pend.ensures.view).0

pub try_take_pend-requires-clause-stands : goal.try_take_pend-requires-clause-stands
try_take_pend-requires-clause-stands g c =
    let m = c.args.machine.now in let s = setup m in let v = view c.args.pass.now in let v1 = view c.begin.new.pass in let w = c.in-Ok.word in let looks =
    c.in-Ok.ensures.word.0 in let is = c.shard_of-number.ensures.number in
    let stood = subst (λ (z : Setup). HasStood z (part.Shard c.args.message.its c.shard_of-number.result) (Shard c.in-Ok-try_take_shard.shard))
    (ap (λ (y : View). y.setup) looks.same ∙ c.requires.of.1) c.in-Ok-try_take_shard.ensures.result.stood in
    (cached_target s c.args.message.its c.shard_of-number.result c.args.message.dev c.args.message.ev
    (stamp_of s w c.args.message.its) c.in-Some.target c.in-Ok-try_take_shard.shard stood (search rules)).vcpu

pub hit-requires-clause-hand : goal.hit-requires-clause-hand
hit-requires-clause-hand g c =
    let m = c.args.machine.now in let s = setup m in let w = c.in-Ok.word in let looks = c.in-Ok.ensures.word.0 in
    let stood = subst (λ (z : Setup). HasStood z (part.Shard c.args.message.its c.shard_of-number.result) (Shard c.in-Ok-try_take_shard.shard))
    (ap (λ (y : View). y.setup) looks.same ∙ c.requires.of.1) c.in-Ok-try_take_shard.ensures.result.stood in
    let target = cached_target s c.args.message.its c.shard_of-number.result c.args.message.dev c.args.message.ev
    (stamp_of s w c.args.message.its) c.in-Some.target c.in-Ok-try_take_shard.shard stood (search rules) in
    record {
      number_is = c.shard_of-number.ensures.number;
      hand = record {
        inside =
            (c.shard_of-number.ensures.stands c.args.message.its c.requires.sends.stands).1;
        vcpu = target.vcpu;
        lpi = target.lpi;
        lpis =
            c.in-Ok-try_take_pend.ensures.result.1;
      };
    }

pub returns-clause-answer : goal.returns-clause-answer
returns-clause-answer g c =
    let m = c.args.machine.now in let s = setup m in let v = view c.args.pass.now in let v1 = view c.begin.new.pass in let w = c.in-Ok.word in let looks =
    c.in-Ok.ensures.word.0 in let is = c.shard_of-number.ensures.number in
    let took = rw (is) at c.in-Ok-try_take_shard.ensures.result.view in let r = pend_state c.in-Ok-try_take_pend.pend.value in
    (hit_now s c.args.call.now c.args.message v v1 w c.requires.of.1 c.requires.free looks c.in-Ok.ensures.word.1
    (view c.try_take_shard.new.pass) c.in-Ok-try_take_shard.shard took
    (view c.try_take_pend.new.pass) c.in-Some.target r (search rules)
    c.in-Ok-try_take_pend.ensures.result.0.view (view c.hit.new.pass) c.hit.result c.hit.ensures.answer).0
