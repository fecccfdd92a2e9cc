use Rattle.std.proofs.Common.{◌∷◌, List, None, refl, ap, sym, ◌∙◌, subst, ℕ}
use Rattle.its_types.specs.declared.machine.Part.TheVariants as part
use Rattle.its_plain.specs.declared.call.Reply.TheVariants as reply
use Rattle.owned_parts.specs.Owned.{translator_of}
use Rattle.its_steps.specs.Contents.{Held, Maps}
use Rattle.its_steps.specs.World.{out}
use Rattle.its_turns.specs.Machines.{setup, view}
use Rattle.its_turns.specs.Told.{released}
use Rattle.held_parts.specs.Taking.{Goes}
use Rattle.held_parts.proofs.Going.{took_held, going_then}
use Rattle.cmd_engine.specs.Cached.{cached_held, IsAny}
use Rattle.cmd_engine.specs.Hands.{IsOfTranslator}
use Rattle.cmd_engine.specs.Registers.{write_call}
use mathlib.Core.List.{IsPrefix}
use Rattle.cmd_engine.specs.Telling.{ComesWith, ReadLow}
use Rattle.cmd_engine.proofs.Came.{came_home, late_comes, low_from}
use Rattle.cmd_engine.proofs.Getting.{goes_one, own_in_hand}
use Rattle.cmd_engine.proofs.writes.write_once.Goals as goal

pub make_write-made-requires-clause-hands : goal.make_write-made-requires-clause-hands
make_write-made-requires-clause-hands g c =
    let s = setup c.args.machine.now in let i = c.args.its in let v = view c.args.pass.now in let y = view c.take_maps-translator.new.pass in
    let t = c.take_maps-translator.result in let e = c.new-hands.ensures in
    let first = took_held v y (part.Maps i) (Maps (translator_of t.value)) c.take_maps-translator.ensures.takes
    ∙ ap (λ (l : List Held). out (part.Maps i) (Maps (translator_of t.value)) ∷ l) c.requires.free in
    own_in_hand s (view c.take_cached.new.pass) _ i t None c.take_cached.new.cached e.its e.translator e.memory refl tt e.needs_no_conf e.needs_no_pend
    c.requires.its c.take_cached.ensures.whole (c.take_cached.ensures.held ∙ ap (cached_held i s.shards c.take_cached.new.cached) first)

pub returns-clause-comes : goal.returns-clause-comes
returns-clause-comes g c =
    let i = c.args.its in let v = view c.args.pass.now in let y = view c.take_maps-translator.new.pass in let x = view c.take_cached.new.pass in
    let z = view c.make_write-made.new.pass in let own = c.new-hands.ensures.its in
    let first : Goes (IsOfTranslator i) v y = goes_one (IsOfTranslator i) v y (part.Maps i)
    (Maps (translator_of c.take_maps-translator.result.value)) refl c.take_maps-translator.ensures.takes in
    let goes : Goes (IsOfTranslator i) v x = going_then (IsOfTranslator i) v y x first c.take_cached.ensures.goes in
    let came : ComesWith {T = Unit {0}} (IsAny c.take_cached.new.cached × IsPrefix x.seen z.seen) (IsOfTranslator i) v (write_call i c.args.write)
    (λ (u : Unit {0}). reply.Ok) z c.make_write-made.result =
    subst (λ (n : ℕ). ComesWith {T = Unit {0}} (IsAny c.take_cached.new.cached × IsPrefix x.seen z.seen) (IsOfTranslator n) v
    (write_call n c.args.write) (λ (u : Unit {0}). reply.Ok) z c.make_write-made.result) own
    (c.make_write-made.ensures.comes v c.requires.free (subst (λ (n : ℕ). Goes (IsOfTranslator n) v x) (sym own) goes)) in
    came_home (IsOfTranslator i) v z (view c.put.new.pass) (write_call i c.args.write) (λ (u : Unit {0}). reply.Ok) c.make_write-made.result _
    (late_comes (IsAny c.take_cached.new.cached × IsPrefix x.seen z.seen) (ReadLow v i z) (IsOfTranslator i) v z (write_call i c.args.write)
    (λ (u : Unit {0}). reply.Ok) c.make_write-made.result (λ l. low_from (IsOfTranslator i) v y x z i first c.requires.free
    (c.take_cached.ensures.low l.0) l.1) came)
    (c.put.ensures.view ∙ ap released c.put_taken.ensures.home)
