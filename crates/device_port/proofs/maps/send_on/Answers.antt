use Rattle.std.proofs.Common.{refl, sym, ◌∙◌, ap, subst, List, [], ◌∷◌, inl, inr, ◌≡◌, ℕ, Some}
use Rattle.its_types.specs.declared.machine.Part.TheVariants as part
use Rattle.its_plain.specs.declared.call.Cause.TheVariants.{LpisOff}
use Rattle.its_plain.specs.declared.call.Signal.TheVariants.{Delivered, Dropped}
use Rattle.its_steps.specs.Contents.{Maps, Shard, Pend, Held}
use Rattle.its_steps.specs.Parts.{Setup}
use Rattle.its_steps.specs.World.{View}
use Rattle.its_steps.specs.declared.change.ShardChange.TheVariants.{Keep, Fill}
use Rattle.owned_parts.specs.Owned.{pend_state, translator_of}
use Rattle.its_turns.specs.Contents.{held_before}
use Rattle.its_turns.specs.Machines.{setup, view}
use Rattle.device_port.proofs.Sent.{busy_later, finished, first_on, first_seen, first_early, second_on, second_seen, second_early, third_on, third_seen}
use Rattle.device_port.proofs.Sent.{third_early, emptied_one, emptied_two}
use Rattle.device_port.proofs.Targets.{target_in}
use Rattle.device_port.specs.Signals.{shard_of, FindsIfDone}
use Rattle.device_port.proofs.maps.send_on.Goals as goal

pub returns-in-Err-clause-answer : goal.returns-in-Err-clause-answer
returns-in-Err-clause-answer g c v bare first =
    let s = setup c.args.machine.now in let call = c.args.call.now in let message = c.args.message in let its = message.its in let y = view c.args.pass.now in
    let n =
    c.shard_of-number.result in let m = Maps (translator_of c.args.maps.value) in
    let own : v.setup ≡ s = sym (ap (λ (u : View). u.setup) first) ∙ c.requires.of.1 in
    let p_is : part.Shard its n ≡ shard_of v.setup message = ap (λ (k : ℕ). part.Shard its k) c.shard_of-number.ensures.number
    ∙ ap (λ (q : Setup). shard_of q message) (sym own) in
    let b1 = view c.try_take_shard.new.pass in let busy = c.in-Err.ensures.result in
    busy_later call message v bare (part.Maps its ∷ []) (inl refl, tt) (inl refl) y (first_on v y its m first) (first_seen v y its m first)
    (first_early v y its m first)
    (part.Shard its n) c.in-Err.busy b1
    (view c.put.new.pass) (inr (inl p_is)) busy
    (emptied_one b1 (view c.put.new.pass) c.put.ensures.view (ap (λ (u : View). held_before u.held) busy.view
    ∙ ap (λ (l : List Held). held_before l) c.requires.held))

pub try_take_pend-requires-clause-stands : goal.try_take_pend-requires-clause-stands
try_take_pend-requires-clause-stands g c = (target_in (setup c.args.machine.now) c.args.message.its
    (translator_of c.args.maps.value) c.args.message.dev.0 c.args.message.ev.0 c.args.target
    c.requires.stood c.requires.goes).vcpu

pub returns-in-Err-try_take_pend-clause-answer : goal.returns-in-Err-try_take_pend-clause-answer
returns-in-Err-try_take_pend-clause-answer g c v bare first =
    let s = setup c.args.machine.now in let call = c.args.call.now in let message = c.args.message in let its = message.its in let y = view c.args.pass.now in
    let n =
    c.shard_of-number.result in let m = Maps (translator_of c.args.maps.value) in
    let own : v.setup ≡ s = sym (ap (λ (u : View). u.setup) first) ∙ c.requires.of.1 in
    let p_is : part.Shard its n ≡ shard_of v.setup message = ap (λ (k : ℕ). part.Shard its k) c.shard_of-number.ensures.number
    ∙ ap (λ (q : Setup). shard_of q message) (sym own) in
    let z = view c.try_take_shard.new.pass in let second = c.in-Ok.ensures.result.view in let d = Shard c.in-Ok.shard in
    let b1 = view c.try_take_pend.new.pass in let busy = c.in-Err-try_take_pend.ensures.result in let u = c.args.target.vcpu in
    let held = ap (λ (w : View). held_before (held_before w.held)) busy.view ∙ (ap (λ (w : View). held_before (held_before w.held)) second
    ∙ ap (λ (l : List Held). held_before l) c.requires.held) in
    busy_later call message v bare (part.Shard its n ∷ part.Maps its ∷ []) (inr (inl p_is), (inl refl, tt)) (inr (inl refl)) z
    (second_on v y its m first n z d second)
    (second_seen v y its m first n z d second) (second_early v y its m first n z d second) (part.Pend u) c.in-Err-try_take_pend.busy b1
    (view c.put-in-Err-try_take_pend-2.new.pass) (inr (inr (u, refl))) busy
    (emptied_two b1 (view c.put-in-Err-try_take_pend.new.pass) (view c.put-in-Err-try_take_pend-2.new.pass) c.put-in-Err-try_take_pend.ensures.view
    c.put-in-Err-try_take_pend-2.ensures.view held)

pub fill_signal-requires-clause-hand : goal.fill_signal-requires-clause-hand
fill_signal-requires-clause-hand g c =
    let target = target_in (setup c.args.machine.now)
    c.args.message.its (translator_of c.args.maps.value) c.args.message.dev.0 c.args.message.ev.0 c.args.target c.requires.stood c.requires.goes in
    record {
      number_is = c.shard_of-number.ensures.number;
      hand = record {
        inside =
            (c.shard_of-number.ensures.stands c.args.message.its c.requires.sends.stands).1;
        vcpu = target.vcpu;
        lpi = target.lpi;
        lpis =
            c.in-Ok-try_take_pend.ensures.result.1;
      };
    }

pub off_signal-requires-clause-hand : goal.off_signal-requires-clause-hand
off_signal-requires-clause-hand g c =
    let target = target_in (setup c.args.machine.now)
    c.args.message.its (translator_of c.args.maps.value) c.args.message.dev.0 c.args.message.ev.0 c.args.target c.requires.stood c.requires.goes in
    record {
      number_is = c.shard_of-number.ensures.number;
      hand = record {
        inside =
            (c.shard_of-number.ensures.stands c.args.message.its c.requires.sends.stands).1;
        vcpu = target.vcpu;
        lpi = target.lpi;
        lpis =
            c.in-Ok-try_take_pend.ensures.result.1;
      };
    }

pub returns-then-on-clause-answer : goal.returns-then-on-clause-answer
returns-then-on-clause-answer g c v bare first =
    let s = setup c.args.machine.now in let call = c.args.call.now in let message = c.args.message in let its = message.its in let y = view c.args.pass.now in
    let n =
    c.shard_of-number.result in let m = Maps (translator_of c.args.maps.value) in
    let own : v.setup ≡ s = sym (ap (λ (u : View). u.setup) first) ∙ c.requires.of.1 in
    let p_is : part.Shard its n ≡ shard_of v.setup message = ap (λ (k : ℕ). part.Shard its k) c.shard_of-number.ensures.number
    ∙ ap (λ (q : Setup). shard_of q message) (sym own) in
    let z = view c.try_take_shard.new.pass in let second = c.in-Ok.ensures.result.view in let d = Shard c.in-Ok.shard in let u = c.args.target.vcpu in
    let w = view c.try_take_pend.new.pass in let third = c.in-Ok-try_take_pend.ensures.result.0.view in let e =
    Pend (pend_state c.in-Ok-try_take_pend.pend.value) in
    let x = view c.fill_signal.new.pass in
    finished call message v bare (part.Pend u ∷ part.Shard its n ∷ part.Maps its ∷ []) (inr (inr (u, refl)), (inr (inl p_is), (inl refl, tt))) (inr (inr
    (inl refl))) w
    (third_on v y its m first n z d second u w e third) (third_seen v y its m first n z d second u w e third)
    (third_early v y its m first n z d second u w e third)
    (Delivered u c.args.target.intid) (Fill message.dev message.ev c.args.target) x c.fill_signal.result
    (λ p is l. (inr l, subst (FindsIfDone message x (Some c.args.target)) is c.fill_signal.ensures.finds)) c.fill_signal.ensures.answer

pub returns-else-on-clause-answer : goal.returns-else-on-clause-answer
returns-else-on-clause-answer g c v bare first =
    let s = setup c.args.machine.now in let call = c.args.call.now in let message = c.args.message in let its = message.its in let y = view c.args.pass.now in
    let n =
    c.shard_of-number.result in let m = Maps (translator_of c.args.maps.value) in
    let own : v.setup ≡ s = sym (ap (λ (u : View). u.setup) first) ∙ c.requires.of.1 in
    let p_is : part.Shard its n ≡ shard_of v.setup message = ap (λ (k : ℕ). part.Shard its k) c.shard_of-number.ensures.number
    ∙ ap (λ (q : Setup). shard_of q message) (sym own) in
    let z = view c.try_take_shard.new.pass in let second = c.in-Ok.ensures.result.view in let d = Shard c.in-Ok.shard in let u = c.args.target.vcpu in
    let w = view c.try_take_pend.new.pass in let third = c.in-Ok-try_take_pend.ensures.result.0.view in let e =
    Pend (pend_state c.in-Ok-try_take_pend.pend.value) in
    finished call message v bare (part.Pend u ∷ part.Shard its n ∷ part.Maps its ∷ []) (inr (inr (u, refl)), (inr (inl p_is), (inl refl, tt))) (inr (inr
    (inl refl))) w
    (third_on v y its m first n z d second u w e third) (third_seen v y its m first n z d second u w e third)
    (third_early v y its m first n z d second u w e third)
    (Dropped LpisOff) Keep (view c.off_signal.new.pass) c.off_signal.result (λ p is l. l) c.off_signal.ensures.answer
