use Rattle.std.proofs.Common.{◌≡◌, ◌<◌, Result, ap, sym, subst, refl, ◌∙◌}
use Rattle.its_types.specs.declared.machine.Word.{Word}
use Rattle.its_plain.specs.Answer.{save_reply}
use Rattle.its_plain.specs.declared.call.Call.TheVariants as call
use Rattle.its_plain.specs.declared.call.Reply.{Reply}
use Rattle.its_plain.specs.declared.fault.SaveFault.{SaveFault}
use Rattle.its_steps.specs.Calls.{staying}
use Rattle.its_steps.specs.MayCall.{MayCall}
use Rattle.its_steps.specs.declared.change.ShardChange.TheVariants.{Keep}
use Rattle.its_turns.specs.Calls.{Makes}
use Rattle.its_turns.specs.Machines.{setup, view}
use Rattle.its_migrate.specs.Saving.{answered}
use Rattle.its_migrate.proofs.Taken.{taken_hand, taken_sound}
use Rattle.its_migrate.proofs.Savings.{save_may, save_owes, save_placed, save_spent, replaced_whole}
use Rattle.its_migrate.proofs.saving.save.Goals as goal

abbrev Answer : Type 0
Answer = Result (Unit {0}) SaveFault

pub saves-requires-clause-hand : goal.saves-requires-clause-hand
saves-requires-clause-hand g c =
    let m = c.args.machine.now in
    taken_hand (setup m) (view c.args.pass.now) (view c.take_whole-whole.new.pass) c.take_whole-whole.result c.take_whole-whole.ensures.takes
    c.in-Ok.layout (c.in-Ok.ensures ∙ c.desc.ensures.layout)

pub saves-requires-clause-sound : goal.saves-requires-clause-sound
saves-requires-clause-sound g c =
    let m = c.args.machine.now in
    taken_sound (setup m) (view c.args.pass.now) (view c.take_whole-whole.new.pass) c.take_whole-whole.result c.take_whole-whole.ensures.takes
    c.in-Ok.layout (c.in-Ok.ensures ∙ c.desc.ensures.layout)

pub commit_save-requires-clause-may : goal.commit_save-requires-clause-may
commit_save-requires-clause-may g c =
    let m = c.args.machine.now in
    let w = view c.take_whole-whole.new.pass in
    let same : c.reply_to.result ≡ save_reply (answered c.in-Ok-saves.saved) = c.reply_to.ensures
    ∙ ap (λ (a : Answer). save_reply a) c.answer_of-reply.ensures in
    subst (λ (k : Reply). (z : Word) → z.place < (setup m).limits.place_last → MayCall (setup m) (staying z call.Save k Keep) w.held) (sym same)
    (save_may (setup m) (view c.args.pass.now) w c.take_whole-whole.result c.take_whole-whole.ensures.takes
    c.in-Ok.layout (c.in-Ok.ensures ∙ c.desc.ensures.layout) c.in-Ok-saves.saved c.in-Ok-saves.ensures)

pub put_whole-requires-in-Ok-commit_save-clause-held : goal.put_whole-requires-in-Ok-commit_save-clause-held
put_whole-requires-in-Ok-commit_save-clause-held g c =
    let m = c.args.machine.now in
    let w = view c.take_whole-whole.new.pass in
    let same : c.reply_to.result ≡ save_reply (answered c.in-Ok-saves.saved) = c.reply_to.ensures
    ∙ ap (λ (a : Answer). save_reply a) c.answer_of-reply.ensures in
    let e = c.adopt.ensures in
    let made = c.in-Ok-commit_save.ensures.result in
    save_owes (setup m) (view c.args.pass.now) w c.take_whole-whole.result c.take_whole-whole.ensures.takes
    c.in-Ok.layout (c.in-Ok.ensures ∙ c.desc.ensures.layout) c.in-Ok-saves.saved c.in-Ok-saves.ensures c.adopt.new.whole
    (record { first = e.first; second = e.second; redists = e.redists; memory = e.memory; track = e.track })
    c.take_whole-whole.ensures.of.1 made.0 made.1 c.in-Ok-commit_save.word (view c.commit_save.new.pass)
    (subst (λ (k : Reply). Makes made.0 (staying c.in-Ok-commit_save.word call.Save k Keep) (view c.commit_save.new.pass)) same made.2)

pub put_whole-requires-in-Ok-commit_save-clause-whole : goal.put_whole-requires-in-Ok-commit_save-clause-whole
put_whole-requires-in-Ok-commit_save-clause-whole g c =
    let m = c.args.machine.now in
    let e = c.adopt.ensures in
    replaced_whole (setup m) (view c.args.pass.now) (view c.take_whole-whole.new.pass) c.take_whole-whole.result c.take_whole-whole.ensures.takes
    c.in-Ok.layout (c.in-Ok.ensures ∙ c.desc.ensures.layout) c.in-Ok-saves.saved c.in-Ok-saves.ensures c.adopt.new.whole
    (record { first = e.first; second = e.second; redists = e.redists; memory = e.memory; track = e.track })

pub returns-in-Ok-commit_save-clause-answer : goal.returns-in-Ok-commit_save-clause-answer
returns-in-Ok-commit_save-clause-answer g c =
    let m = c.args.machine.now in
    let made = c.in-Ok-commit_save.ensures.result in
    save_placed (setup m) (view c.args.pass.now) (view c.take_whole-whole.new.pass) c.take_whole-whole.result c.take_whole-whole.ensures.takes
    c.in-Ok.layout (c.in-Ok.ensures ∙ c.desc.ensures.layout) made.0 made.1 (view c.commit_save.new.pass) (view c.put_whole-in-Ok-commit_save.new.pass)
    c.put_whole-in-Ok-commit_save.ensures.home c.requires.free (staying c.in-Ok-commit_save.word call.Save (save_reply c.answer_of-reply.result) Keep) refl
    (subst (λ (k : Reply). Makes made.0 (staying c.in-Ok-commit_save.word call.Save k Keep) (view c.commit_save.new.pass)) c.reply_to.ensures made.2)

pub returns-clause-answer : goal.returns-clause-answer
returns-clause-answer g c =
    let m = c.args.machine.now in
    let lost = c.in-Err-commit_save.ensures.result in
    save_spent (setup m) (view c.args.pass.now) (view c.take_whole-whole.new.pass) c.take_whole-whole.result
    c.take_whole-whole.ensures.takes c.in-Ok.layout (c.in-Ok.ensures ∙ c.desc.ensures.layout) lost.0 lost.1 (view c.commit_save.new.pass)
    (view c.put_whole-in-Err-commit_save.new.pass) c.put_whole-in-Err-commit_save.ensures.home c.requires.free lost.2

pub adopt-requires-clause-hand : goal.adopt-requires-clause-hand
adopt-requires-clause-hand g c =
    let m = c.args.machine.now in
    taken_hand (setup m) (view c.args.pass.now) (view c.take_whole-whole.new.pass) c.take_whole-whole.result c.take_whole-whole.ensures.takes
    c.in-Ok.layout (c.in-Ok.ensures ∙ c.desc.ensures.layout)
