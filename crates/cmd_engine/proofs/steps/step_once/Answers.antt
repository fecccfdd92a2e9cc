use Rattle.std.proofs.Common.{◌∷◌, List, refl, ap, ◌∙◌}
use Rattle.its_types.specs.declared.machine.Part.TheVariants as part
use Rattle.owned_parts.specs.Owned.{translator_of}
use Rattle.its_steps.specs.Contents.{Held, Maps, Mem}
use Rattle.its_steps.specs.World.{out}
use Rattle.its_turns.specs.Machines.{setup, view}
use Rattle.held_parts.specs.Taking.{Goes}
use Rattle.held_parts.proofs.Going.{took_held, going_then}
use Rattle.cmd_engine.specs.Hands.{IsOfStep}
use Rattle.cmd_engine.proofs.Getting.{goes_one, took_stood}
use Rattle.cmd_engine.proofs.steps.step_once.Goals as goal

pub step_held-requires-clause-held : goal.step_held-requires-clause-held
step_held-requires-clause-held g c =
    let i = c.args.its in let v = view c.args.pass.now in let y = view c.take_maps-translator.new.pass in
    let x = view c.take_memory-memory.new.pass in
    let t = c.take_maps-translator.result in let b = c.take_memory-memory.result in
    let first = took_held v y (part.Maps i) (Maps (translator_of t.value)) c.take_maps-translator.ensures.takes
    ∙ ap (λ (l : List Held). out (part.Maps i) (Maps (translator_of t.value)) ∷ l) c.requires.free in
    took_held y x part.Mem (Mem b.value.memory b.value.track) c.take_memory-memory.ensures.takes
    ∙ ap (λ (l : List Held). out part.Mem (Mem b.value.memory b.value.track) ∷ l) first

pub step_held-requires-clause-stood : goal.step_held-requires-clause-stood
step_held-requires-clause-stood g c = took_stood (setup c.args.machine.now) (view c.args.pass.now) (view c.take_maps-translator.new.pass)
    (part.Maps c.args.its) (Maps (translator_of c.take_maps-translator.result.value)) c.requires.of.1 c.take_maps-translator.ensures.takes

pub returns-clause-comes : goal.returns-clause-comes
returns-clause-comes g c =
    let i = c.args.its in let v = view c.args.pass.now in let y = view c.take_maps-translator.new.pass in let x = view c.take_memory-memory.new.pass in
    let b = c.take_memory-memory.result in
    let goes : Goes (IsOfStep i) v x = going_then (IsOfStep i) v y x (goes_one (IsOfStep i) v y (part.Maps i)
    (Maps (translator_of c.take_maps-translator.result.value)) refl c.take_maps-translator.ensures.takes)
    (goes_one (IsOfStep i) y x part.Mem (Mem b.value.memory b.value.track) tt c.take_memory-memory.ensures.takes) in
    c.step_held.ensures.comes v c.requires.free goes
