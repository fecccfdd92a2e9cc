use Rattle.std.proofs.Common.{◌∷◌, List, ap, ◌∙◌}
use Rattle.std.specs.Option.{option_map}
use Rattle.its_types.specs.declared.machine.Part.TheVariants as part
use Rattle.owned_parts.specs.Owned.{translator_of}
use Rattle.its_steps.specs.Contents.{Held, Maps}
use Rattle.its_turns.specs.Machines.{view}
use Rattle.its_turns.specs.Contents.{held_before}
use Rattle.held_parts.specs.Taking.{holding}
use Rattle.held_parts.specs.Wholes.{IsNoShard, maps_held, second_held}
use Rattle.held_parts.proofs.Once.{once_one, once_then, got_held, busy_one, busy_then, busy_held}
use Rattle.held_parts.proofs.Wholes.{first_order}
use Rattle.held_parts.proofs.whole_once.once_maps.Goals as goal

pub returns-in-Err-clause-result : goal.returns-in-Err-clause-result
returns-in-Err-clause-result c = busy_one IsNoShard (view c.args.pass.now) (view c.try_take_maps.new.pass) (part.Maps 0) c.in-Err.busy tt c.in-Err.ensures.result

pub once_second-requires-clause-order : goal.once_second-requires-clause-order
once_second-requires-clause-order c = let t = c.in-Ok.first.value in first_order t (view c.try_take_maps.new.pass).held
    (got_held (view c.args.pass.now) (view c.try_take_maps.new.pass) (part.Maps 0) (Maps (translator_of t)) c.in-Ok.ensures.result
    ∙ ap (λ (l : List Held). maps_held 0 t ∷ l) c.requires.free)

pub returns-in-Ok-once_second-clause-result : goal.returns-in-Ok-once_second-clause-result
returns-in-Ok-once_second-clause-result c =
    let v = view c.args.pass.now in let x = view c.try_take_maps.new.pass in let y = view c.once_second.new.pass in let t = c.in-Ok.first.value in
    let then = c.in-Ok-once_second.ensures.result in (
      once_then IsNoShard v x y (once_one IsNoShard v x (part.Maps 0) (Maps (translator_of t)) tt c.in-Ok.ensures.result) then.0,
      then.1 ∙ ap (second_held (option_map (λ b. b.value) c.in-Ok-once_second.second))
          (got_held v x (part.Maps 0) (Maps (translator_of t)) c.in-Ok.ensures.result ∙ ap (λ (l : List Held). maps_held 0 t ∷ l) c.requires.free),
    )

pub returns-in-Err-once_second-clause-result : goal.returns-in-Err-once_second-clause-result
returns-in-Err-once_second-clause-result c =
    let v = view c.args.pass.now in let x = view c.try_take_maps.new.pass in let y = view c.once_second.new.pass in let t = c.in-Ok.first.value in
    let b = c.in-Err-once_second.busy in
    busy_then IsNoShard v x y (view c.put.new.pass) b
    (once_one IsNoShard v x (part.Maps 0) (Maps (translator_of t)) tt c.in-Ok.ensures.result) c.in-Err-once_second.ensures.result
    (c.put.ensures.view ∙ ap (λ (l : List Held). holding y (held_before l)) (busy_held IsNoShard x y b c.in-Err-once_second.ensures.result
    ∙ got_held v x (part.Maps 0) (Maps (translator_of t)) c.in-Ok.ensures.result))
