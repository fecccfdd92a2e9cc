use Rattle.std.proofs.Common.{◌∷◌, List, None, refl, ap, sym, ◌∙◌, subst, ℕ}
use Rattle.its_types.specs.declared.machine.Part.TheVariants as part
use Rattle.its_plain.specs.declared.call.Reply.TheVariants as reply
use Rattle.owned_parts.specs.Owned.{translator_of}
use Rattle.its_steps.specs.Contents.{Held, Maps}
use Rattle.its_steps.specs.World.{View, out}
use Rattle.its_turns.specs.Machines.{setup, view}
use Rattle.its_turns.specs.Told.{released}
use Rattle.held_parts.proofs.Once.{got_held}
use Rattle.cmd_engine.specs.Hands.{IsOfTranslator}
use Rattle.cmd_engine.specs.Registers.{write_call}
use Rattle.cmd_engine.specs.Tries.{GoesAtOnce, ComesOnce}
use Rattle.cmd_engine.specs.declared.cached.Cached.TheVariants as cached
use Rattle.cmd_engine.proofs.Getting.{own_in_hand}
use Rattle.cmd_engine.proofs.Trying.{at_once_first, at_once_took, gave_one, once_home}
use Rattle.cmd_engine.proofs.tries.write_tried.Goals as goal

pub returns-in-Err-clause-comes : goal.returns-in-Err-clause-comes
returns-in-Err-clause-comes g c = let i = c.args.its in
    gave_one (IsOfTranslator i) (view c.args.pass.now) (view c.try_take_maps.new.pass) (part.Maps i) c.in-Err.busy refl c.in-Err.ensures.result

pub returns-in-Err-clause-free : goal.returns-in-Err-clause-free
returns-in-Err-clause-free g c = ap (λ (y : View). y.held) c.in-Err.ensures.result.view ∙ c.requires.free

pub write_with-made-requires-clause-hands : goal.write_with-made-requires-clause-hands
write_with-made-requires-clause-hands g c =
    let i = c.args.its in let v = view c.args.pass.now in let y = view c.try_take_maps.new.pass in let t = c.in-Ok.translator in
    let e = c.new-hands.ensures in
    own_in_hand (setup c.args.machine.now) y _ i t None cached.Nothing e.its e.translator e.memory e.cached tt e.needs_no_conf e.needs_no_pend
    c.requires.its tt
    (got_held v y (part.Maps i) (Maps (translator_of t.value)) c.in-Ok.ensures.result
    ∙ ap (λ (l : List Held). out (part.Maps i) (Maps (translator_of t.value)) ∷ l) c.requires.free)

pub returns-clause-comes : goal.returns-clause-comes
returns-clause-comes g c =
    let i = c.args.its in let v = view c.args.pass.now in let y = view c.try_take_maps.new.pass in let z = view c.write_with-made.new.pass in
    let own = c.new-hands.ensures.its in
    let goes : GoesAtOnce (IsOfTranslator i) v y = at_once_took (IsOfTranslator i) v v y (part.Maps i) (Maps (translator_of c.in-Ok.translator.value))
    (at_once_first (IsOfTranslator i) v) refl c.in-Ok.ensures.result in
    once_home (IsOfTranslator i) v z (view c.put.new.pass) (write_call i c.args.write) (λ (u : Unit {0}). reply.Ok) c.write_with-made.result _
    (subst (λ (n : ℕ). ComesOnce {T = Unit {0}} (IsOfTranslator n) v (write_call n c.args.write) (λ (u : Unit {0}). reply.Ok) z c.write_with-made.result) own
    (c.write_with-made.ensures.comes v c.requires.free (subst (λ (n : ℕ). GoesAtOnce (IsOfTranslator n) v y) (sym own) goes)))
    (c.put.ensures.view ∙ ap released c.put_taken.ensures.home)
