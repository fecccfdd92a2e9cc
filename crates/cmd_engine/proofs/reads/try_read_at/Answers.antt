use Rattle.std.proofs.Common.{refl, ℕ, List, [], ◌∷◌, ◌<◌}
use Rattle.gits_regs.specs.Registers.{read_reg}
use Rattle.its_types.specs.declared.machine.Part.TheVariants as part
use Rattle.its_types.specs.declared.machine.Word.{Word}
use Rattle.its_plain.specs.Plain.{Translator}
use Rattle.its_plain.specs.declared.call.Call.TheVariants as call
use Rattle.its_plain.specs.declared.call.Reply.TheVariants as reply
use Rattle.its_steps.specs.Calls.{staying, MayLeave}
use Rattle.its_steps.specs.Parts.{translator_count}
use Rattle.its_steps.specs.declared.change.ShardChange.TheVariants.{Keep}
use Rattle.its_steps.specs.Contents.{Maps}
use Rattle.its_steps.proofs.Ports.{reads}
use Rattle.owned_parts.specs.Owned.{translator_of}
use Rattle.its_turns.specs.Machines.{setup, view}
use Rattle.its_turns.specs.declared.machine.Machine.{Machine}
use Rattle.its_turns.proofs.Telling.{may_here, owes_here, one_held, one_lost}
use Rattle.its_steps.specs.Contents.{Held}
use Rattle.its_steps.specs.World.{out}
use Rattle.cmd_engine.proofs.reads.try_read_at.Goals as goal

abbrev maps_held : ℕ → Translator → List Held
maps_held its t = out (part.Maps its) (Maps t) ∷ []

reads_now : (m : Machine) (its : ℕ) (t : Translator) (off size : ℕ) → its < translator_count (setup m) → (w : Word) → w.place < (setup m).limits.place_last
    → MayLeave (setup m) (staying w (call.ReadReg its off size) (reply.Value (read_reg t.regs off size)) Keep) (maps_held its t) (maps_held its t)
reads_now m its t off size lt w room = reads (setup m) w its off size t m.laid.1 lt room

pub try_commit-made-requires-clause-may : goal.try_commit-made-requires-clause-may
try_commit-made-requires-clause-may g c =
    let m = c.args.machine.now in let v = view c.args.pass.now in let x = view c.try_take_maps.new.pass in let t = translator_of c.in-Ok.translator.value in
    rw (c.read_register-value.ensures, c.deref.ensures) (may_here (setup m) (call.ReadReg c.args.its c.args.off c.args.size)
    (reply.Value (read_reg t.regs c.args.off c.args.size)) Keep (maps_held c.args.its t) (λ _. maps_held c.args.its t)
    (reads_now m c.args.its t c.args.off c.args.size c.requires.its) x
    (one_held v (part.Maps c.args.its) (Maps t) x c.in-Ok.ensures.result.view c.requires.free))

pub put-requires-clause-owed : goal.put-requires-clause-owed
put-requires-clause-owed g c =
    let m = c.args.machine.now in let v = view c.args.pass.now in let x = view c.try_take_maps.new.pass in let t = translator_of c.in-Ok.translator.value in
    record {
      content = Maps t;
      content_is = refl;
      before = [];
      last = owes_here (setup m) (call.ReadReg c.args.its c.args.off c.args.size) (reply.Value (read_reg t.regs c.args.off c.args.size)) Keep
          (maps_held c.args.its t)
          (λ _. maps_held c.args.its t) (reads_now m c.args.its t c.args.off c.args.size c.requires.its) x
          (one_held v (part.Maps c.args.its) (Maps t) x c.in-Ok.ensures.result.view c.requires.free) c.try_take_maps.ensures.of.1 c.in-Ok-made.word
          (view c.try_commit-made.new.pass)
          (rw (c.read_register-value.ensures, c.deref.ensures) at c.in-Ok-made.ensures.result);
    }

pub returns-in-Err-made-clause-answer : goal.returns-in-Err-made-clause-answer
returns-in-Err-made-clause-answer g c = let v = view c.args.pass.now in let x = view c.try_take_maps.new.pass in
    let t = translator_of c.in-Ok.translator.value in
    rw (c.attempt.ensures) (one_lost v (part.Maps c.args.its) (Maps t) x c.in-Ok.ensures.result.view (call.ReadReg c.args.its c.args.off c.args.size)
    (λ (k : ℕ). reply.Value k) c.in-Err-made.lost (view c.try_commit-made.new.pass) (view c.put-in-Err-made.new.pass)
    c.in-Err-made.ensures.result c.put-in-Err-made.ensures.view)
