use Rattle.std.proofs.Common.{refl, ◌∙◌}
use Rattle.its_plain.specs.declared.call.Reply.TheVariants as reply
use Rattle.its_turns.specs.Machines.{setup, view}
use Rattle.its_turns.proofs.Stamps.{has_stamps}
use mathlib.Core.List.{IsPrefix}
use Rattle.cmd_engine.specs.Cached.{IsAny}
use Rattle.cmd_engine.specs.Hands.{IsOfTranslator}
use Rattle.cmd_engine.specs.Registers.{write_call}
use Rattle.cmd_engine.proofs.Came.{came_spent, came_late, came_raced, made_as}
use Rattle.cmd_engine.proofs.Written.{write_leaves, write_within, write_may, in_hand_written}
use Rattle.cmd_engine.proofs.Untried.{looked_tries, committed_tries, raced_tries}
use Rattle.cmd_engine.proofs.writing.make_write.Goals as goal

pub returns-in_default-clause-comes : goal.returns-in_default-clause-comes
returns-in_default-clause-comes g c v bare goes = let h = c.args.hands.now in let w = c.in_default.ensures.word in
    came_spent (IsOfTranslator h.its) v (view c.args.pass.now) bare goes (setup c.args.machine.now) c.requires.of.1 (IsAny h.cached × IsPrefix
    (view c.args.pass.now).seen (view c.begin.new.pass).seen) (view c.begin.new.pass) w.0 w.1
    (write_call h.its c.args.write) (λ (u : Unit {0}). reply.Ok) w.2

pub returns-in_default-mark-clause-comes : goal.returns-in_default-mark-clause-comes
returns-in_default-mark-clause-comes g c v bare goes = let h = c.args.hands.now in
    came_late (IsOfTranslator h.its) v (view c.args.pass.now) bare goes (setup c.args.machine.now) c.requires.of.1 (IsAny h.cached × IsPrefix
    (view c.args.pass.now).seen (view c.begin.new.pass).seen) (view c.begin.new.pass) c.in-Ok.word
    c.in-Ok.ensures.word.0 (write_call h.its c.args.write) (λ (u : Unit {0}). reply.Ok) c.in_default-mark.ensures.0
    (c.in_default-mark.ensures.1, c.in-Ok.ensures.word.0.longer)

pub commit_marked-requires-clause-after : goal.commit_marked-requires-clause-after
commit_marked-requires-clause-after g c = let m = c.args.machine.now in let q = c.requires in
    write_within (setup m) (has_stamps m) (view c.args.pass.now) c.args.hands.now q.hands q.own c.args.write q.ends (view c.begin.new.pass) c.in-Ok.word
    q.of.1 c.in-Ok.ensures.word.0 c.in-Ok.ensures.word.1 c.in-Some.mark c.in-Some.ensures

pub commit_marked-requires-clause-may : goal.commit_marked-requires-clause-may
commit_marked-requires-clause-may g c = let m = c.args.machine.now in let q = c.requires in rw (c.call-call.ensures)
    (write_may (setup m) (has_stamps m) (view c.args.pass.now) c.args.hands.now q.hands q.own c.args.write q.ends (view c.begin.new.pass) c.in-Ok.word
    q.of.1 c.in-Ok.ensures.word.0 c.in-Ok.ensures.word.1 c.in-Some.mark c.in-Some.ensures)

pub returns-in-Err-clause-comes : goal.returns-in-Err-clause-comes
returns-in-Err-clause-comes g c v bare goes = let h = c.args.hands.now in
    came_raced (IsOfTranslator h.its) v (view c.args.pass.now) bare goes (setup c.args.machine.now) c.requires.of.1 (IsAny h.cached × IsPrefix
    (view c.args.pass.now).seen (view c.commit_marked.new.pass).seen) (view c.begin.new.pass) c.in-Ok.word
    c.in-Ok.ensures.word.0 (view c.commit_marked.new.pass) c.in-Ok.ensures.word.1 (write_call h.its c.args.write) (λ (u : Unit {0}). reply.Ok) c.in-Err.missed
    c.in-Err.ensures.result

pub returns-clause-hands : goal.returns-clause-hands
returns-clause-hands g c = let m = c.args.machine.now in let q = c.requires in
    in_hand_written (setup m) (has_stamps m) (view c.args.pass.now) c.args.hands.now q.hands q.own c.args.write q.ends (view c.begin.new.pass) c.in-Ok.word
    q.of.1 c.in-Ok.ensures.word.0 c.in-Ok.ensures.word.1 c.in-Some.mark c.in-Some.ensures c.desc.result.now.shape c.desc.ensures.shape _ refl refl refl
    (rw (c.deref_mut.ensures.value) at c.apply.ensures) c.change.ensures (view c.commit_marked.new.pass)
    (rw (c.call-call.ensures) at c.in-Ok-commit_marked.ensures.result.1)

pub returns-clause-comes : goal.returns-clause-comes
returns-clause-comes g c v bare goes = let m = c.args.machine.now in let q = c.requires in let h = c.args.hands.now in
    made_as (IsOfTranslator h.its) v (view c.args.pass.now) bare goes (setup m) q.of.1 (IsAny h.cached × IsPrefix (view c.args.pass.now).seen
    (view c.commit_marked.new.pass).seen) (view c.begin.new.pass) c.in-Ok.word
    c.in-Ok.ensures.word.0 (view c.commit_marked.new.pass) c.in-Ok.ensures.word.1 (has_stamps m) (write_call h.its c.args.write) reply.Ok q.hands.its
    c.in-Some.mark
    (rw (c.call-call.ensures) at c.in-Ok-commit_marked.ensures.result.1)
    (write_leaves (setup m) (has_stamps m) (view c.args.pass.now) h q.hands q.own c.args.write q.ends (view c.begin.new.pass) c.in-Ok.word
    q.of.1 c.in-Ok.ensures.word.0 c.in-Ok.ensures.word.1 c.in-Some.mark c.in-Some.ensures) c.in-Ok-commit_marked.place c.in-Ok-commit_marked.ensures.result.0

pub returns-in_default-clause-tries : goal.returns-in_default-clause-tries
returns-in_default-clause-tries g c = let w = c.in_default.ensures.word in looked_tries (view c.args.pass.now) (view c.begin.new.pass) w.0 w.1

pub returns-in_default-mark-clause-tries : goal.returns-in_default-mark-clause-tries
returns-in_default-mark-clause-tries g c = looked_tries (view c.args.pass.now) (view c.begin.new.pass) c.in-Ok.word c.in-Ok.ensures.word.0

pub returns-in-Err-clause-tries : goal.returns-in-Err-clause-tries
returns-in-Err-clause-tries g c = raced_tries (view c.begin.new.pass) (view c.commit_marked.new.pass) c.in-Ok.word c.in-Err.missed c.in-Err.ensures.result
    ∙ looked_tries (view c.args.pass.now) (view c.begin.new.pass) c.in-Ok.word c.in-Ok.ensures.word.0

pub returns-clause-tries : goal.returns-clause-tries
returns-clause-tries g c = committed_tries (view c.begin.new.pass) (view c.commit_marked.new.pass) _ c.in-Ok-commit_marked.ensures.result.1
    ∙ looked_tries (view c.args.pass.now) (view c.begin.new.pass) c.in-Ok.word c.in-Ok.ensures.word.0
