use Rattle.std.proofs.Common.{◌∷◌, List, refl, ap, ◌∙◌, subst}
use Rattle.its_types.specs.declared.machine.Part.TheVariants as part
use Rattle.owned_parts.specs.Owned.{translator_of}
use Rattle.its_steps.specs.Contents.{Held, Maps, Mem}
use Rattle.its_steps.specs.Parts.{Setup}
use Rattle.its_steps.specs.World.{View, out}
use Rattle.its_turns.specs.Contents.{held_before}
use Rattle.its_turns.specs.Machines.{view}
use Rattle.its_turns.specs.Told.{HasStood}
use Rattle.held_parts.proofs.Once.{got_held}
use Rattle.cmd_engine.specs.Hands.{IsOfStep}
use Rattle.cmd_engine.specs.Tries.{GoesAtOnce}
use Rattle.cmd_engine.proofs.Trying.{at_once_first, at_once_took, gave_one, gave_then, gave_home}
use Rattle.cmd_engine.proofs.tries.step_tried.Goals as goal

pub returns-in-Err-clause-comes : goal.returns-in-Err-clause-comes
returns-in-Err-clause-comes g c = let i = c.args.its in
    gave_one (IsOfStep i) (view c.args.pass.now) (view c.try_take_maps.new.pass) (part.Maps i) c.in-Err.busy refl c.in-Err.ensures.result

pub returns-in-Err-clause-free : goal.returns-in-Err-clause-free
returns-in-Err-clause-free g c = ap (λ (y : View). y.held) c.in-Err.ensures.result.view ∙ c.requires.free

pub returns-in-Err-try_take_memory-clause-free : goal.returns-in-Err-try_take_memory-clause-free
returns-in-Err-try_take_memory-clause-free g c =
    let i = c.args.its in let v = view c.args.pass.now in let y = view c.try_take_maps.new.pass in
    ap (λ (k : View). k.held) c.put.ensures.view
    ∙ (ap (λ (l : List Held). held_before l) (ap (λ (k : View). k.held) c.in-Err-try_take_memory.ensures.result.view
    ∙ got_held v y (part.Maps i) (Maps (translator_of c.in-Ok.translator.value)) c.in-Ok.ensures.result) ∙ c.requires.free)

pub tried_held-requires-clause-held : goal.tried_held-requires-clause-held
tried_held-requires-clause-held g c =
    let i = c.args.its in let v = view c.args.pass.now in let y = view c.try_take_maps.new.pass in let x = view c.try_take_memory.new.pass in
    let t = c.in-Ok.translator in let b = c.in-Ok-try_take_memory.memory in
    let first = got_held v y (part.Maps i) (Maps (translator_of t.value)) c.in-Ok.ensures.result
    ∙ ap (λ (l : List Held). out (part.Maps i) (Maps (translator_of t.value)) ∷ l) c.requires.free in
    got_held y x part.Mem (Mem b.value.memory b.value.track) c.in-Ok-try_take_memory.ensures.result.0
    ∙ ap (λ (l : List Held). out part.Mem (Mem b.value.memory b.value.track) ∷ l) first

pub tried_held-requires-clause-stood : goal.tried_held-requires-clause-stood
tried_held-requires-clause-stood g c =
    subst (λ (s : Setup). HasStood s (part.Maps c.args.its) (Maps (translator_of c.in-Ok.translator.value))) c.requires.of.1 c.in-Ok.ensures.result.stood

pub returns-in-Ok-try_take_memory-clause-comes : goal.returns-in-Ok-try_take_memory-clause-comes
returns-in-Ok-try_take_memory-clause-comes g c =
    let i = c.args.its in let v = view c.args.pass.now in let y = view c.try_take_maps.new.pass in let x = view c.try_take_memory.new.pass in
    let b = c.in-Ok-try_take_memory.memory in
    let goes : GoesAtOnce (IsOfStep i) v x = at_once_took (IsOfStep i) v y x part.Mem (Mem b.value.memory b.value.track)
    (at_once_took (IsOfStep i) v v y (part.Maps i) (Maps (translator_of c.in-Ok.translator.value)) (at_once_first (IsOfStep i) v) refl
    c.in-Ok.ensures.result) tt c.in-Ok-try_take_memory.ensures.result.0 in
    c.tried_held.ensures.comes v c.requires.free goes

pub returns-in-Err-try_take_memory-clause-comes : goal.returns-in-Err-try_take_memory-clause-comes
returns-in-Err-try_take_memory-clause-comes g c =
    let i = c.args.its in let v = view c.args.pass.now in let y = view c.try_take_maps.new.pass in let x = view c.try_take_memory.new.pass in
    let b = c.in-Err-try_take_memory.busy in
    gave_home (IsOfStep i) v x (view c.put.new.pass) b _ (gave_then (IsOfStep i) v y x b
    (at_once_took (IsOfStep i) v v y (part.Maps i) (Maps (translator_of c.in-Ok.translator.value)) (at_once_first (IsOfStep i) v) refl
    c.in-Ok.ensures.result)
    (gave_one (IsOfStep i) y x part.Mem b tt c.in-Err-try_take_memory.ensures.result)) c.put.ensures.view
