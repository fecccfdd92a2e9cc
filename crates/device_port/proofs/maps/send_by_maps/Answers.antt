use Rattle.std.proofs.Common.{refl, [], ◌∷◌, inl}
use Rattle.its_types.specs.declared.machine.Part.TheVariants as part
use Rattle.its_plain.specs.declared.call.Signal.TheVariants.{Dropped}
use Rattle.its_steps.specs.Contents.{Maps}
use Rattle.its_steps.specs.declared.change.ShardChange.TheVariants.{Keep}
use Rattle.owned_parts.specs.Owned.{translator_of}
use Rattle.its_turns.specs.Machines.{view}
use Rattle.device_port.proofs.Sent.{busy_maps, finished, first_on, first_seen, first_early}
use Rattle.device_port.proofs.maps.send_by_maps.Goals as goal

pub returns-in-Err-clause-answer : goal.returns-in-Err-clause-answer
returns-in-Err-clause-answer g c = busy_maps c.args.call.now c.args.message (view c.args.pass.now) c.requires.free c.in-Err.busy (view c.try_take_maps.new.pass)
    c.in-Err.ensures.result

pub returns-in-Err-locate-clause-answer : goal.returns-in-Err-locate-clause-answer
returns-in-Err-locate-clause-answer g c = let v = view c.args.pass.now in let y = view c.try_take_maps.new.pass in let m =
    Maps (translator_of c.in-Ok.maps.value) in let e = c.in-Ok.ensures.result.view in
    finished c.args.call.now c.args.message v c.requires.free (part.Maps c.args.message.its ∷ []) (inl refl, tt) (inl refl) y
    (first_on v y c.args.message.its m e) (first_seen v y c.args.message.its m e) (first_early v y c.args.message.its m e)
    (Dropped c.in-Err-locate.cause) Keep (view c.drop_signal.new.pass) c.drop_signal.result (λ p is l. l) c.drop_signal.ensures.answer

pub returns-in-Ok-locate-clause-answer : goal.returns-in-Ok-locate-clause-answer
returns-in-Ok-locate-clause-answer g c = c.send_on.ensures.answer (view c.args.pass.now) c.requires.free c.in-Ok.ensures.result.view
