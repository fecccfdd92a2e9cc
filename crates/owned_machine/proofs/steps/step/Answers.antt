use Rattle.std.proofs.Common.{sym, ap, ◌∙◌, Result, Ok, Err, OnOk, IfOk}
use Rattle.std.proofs.lemmas.Result.{IfOk-weaker, on_err_weaker}
use Rattle.std.specs.Option.{option_map}
use Rattle.its_plain.specs.Answer.{step_reply}
use Rattle.owned_parts.specs.Owned.{state_of_parts, translator_of}
use Rattle.owned_machine.specs.Whole.{step_adds}
use Rattle.owned_machine.proofs.Kept.{parts_are}
use Rattle.owned_machine.proofs.Lists.{first_there, second_there}
use Rattle.owned_machine.proofs.Stepped.{first_steps, second_steps, holds_all}
use Rattle.owned_machine.proofs.steps.step.Goals as goal

all_ok : {A E : Type 0} (P Q S R : Type 0) (r : Result A E) → (P → Q → S → R) → OnOk r P → OnOk r Q → OnOk r S → IfOk r (λ _. R)
all_ok P Q S R (Ok x) f p q s = f p q s
all_ok P Q S R (Err e) f p q s = tt

pub step_of-requires-clause-parts : goal.step_of-requires-clause-parts
step_of-requires-clause-parts c =
    let p = c.args.parts.now in
    (state_of_parts p, 0, c.requires.sound, parts_are p 0 p.first c.requires (first_there (translator_of p.first) (option_map translator_of p.second)))

pub step_of-requires-clause-holds : goal.step_of-requires-clause-holds
step_of-requires-clause-holds c = holds_all c.args.parts.now c.requires

pub returns-then-its-eq0-clause-reply : goal.returns-then-its-eq0-clause-reply
returns-then-its-eq0-clause-reply c =
    let p = c.args.parts.now in
    let parts = parts_are p 0 p.first c.requires (first_there (translator_of p.first) (option_map translator_of p.second)) in
    IfOk-weaker c.step_of.result _ _ (λ r h. h (state_of_parts p) 0 parts ∙ ap (step_reply (state_of_parts p)) (sym c.if-its-eq0.true)) c.step_of.ensures.reply

pub returns-then-its-eq0-clause-left : goal.returns-then-its-eq0-clause-left
returns-then-its-eq0-clause-left c =
    let p = c.args.parts.now in
    let parts = parts_are p 0 p.first c.requires (first_there (translator_of p.first) (option_map translator_of p.second)) in
    all_ok _ _ _ _ c.step_of.result
    (λ h confs pends. first_steps p c.args.its c.step_of.new.translator c.step_of.new.redists c.requires c.if-its-eq0.true
    (record { confs = confs; pends = pends }) (h (state_of_parts p) 0 parts)) c.step_of.ensures.left c.step_of.ensures.confs c.step_of.ensures.pends

pub returns-then-its-eq0-clause-adding : goal.returns-then-its-eq0-clause-adding
returns-then-its-eq0-clause-adding c =
    let p = c.args.parts.now in
    let parts = parts_are p 0 p.first c.requires (first_there (translator_of p.first) (option_map translator_of p.second)) in
    on_err_weaker c.step_of.result (λ h. ap (step_adds (state_of_parts p)) c.if-its-eq0.true ∙ h (state_of_parts p) 0 parts) c.step_of.ensures.adding

pub step_of-requires-in-Some-clause-parts : goal.step_of-requires-in-Some-clause-parts
step_of-requires-in-Some-clause-parts c =
    let p = c.args.parts.now in
    let s = c.in-Some.second in (
      state_of_parts p,
      1,
      c.requires.sound,
      parts_are p 1 s c.requires
          (second_there (translator_of p.first) (translator_of s) (option_map translator_of p.second) (ap (option_map translator_of) c.in-Some.is)),
    )

pub step_of-requires-in-Some-clause-holds : goal.step_of-requires-in-Some-clause-holds
step_of-requires-in-Some-clause-holds c = holds_all c.args.parts.now c.requires

pub returns-in-Some-clause-reply : goal.returns-in-Some-clause-reply
returns-in-Some-clause-reply c =
    let p = c.args.parts.now in
    let s = c.in-Some.second in
    let parts = parts_are p 1 s c.requires
    (second_there (translator_of p.first) (translator_of s) (option_map translator_of p.second) (ap (option_map translator_of) c.in-Some.is)) in
    IfOk-weaker c.step_of-in-Some.result _ _ (λ r h. h (state_of_parts p) 1 parts ∙ ap (step_reply (state_of_parts p)) (sym c.if-its-eq1.true))
    c.step_of-in-Some.ensures.reply

pub returns-in-Some-clause-left : goal.returns-in-Some-clause-left
returns-in-Some-clause-left c =
    let p = c.args.parts.now in
    let s = c.in-Some.second in
    let parts = parts_are p 1 s c.requires
    (second_there (translator_of p.first) (translator_of s) (option_map translator_of p.second) (ap (option_map translator_of) c.in-Some.is)) in
    all_ok _ _ _ _ c.step_of-in-Some.result
    (λ h confs pends. second_steps p c.args.its s c.step_of-in-Some.new.translator c.step_of-in-Some.new.redists c.requires c.if-its-eq1.true c.in-Some.is
    (record { confs = confs; pends = pends }) (h (state_of_parts p) 1 parts)) c.step_of-in-Some.ensures.left c.step_of-in-Some.ensures.confs
    c.step_of-in-Some.ensures.pends

pub returns-in-Some-clause-adding : goal.returns-in-Some-clause-adding
returns-in-Some-clause-adding c =
    let p = c.args.parts.now in
    let s = c.in-Some.second in
    let parts = parts_are p 1 s c.requires
    (second_there (translator_of p.first) (translator_of s) (option_map translator_of p.second) (ap (option_map translator_of) c.in-Some.is)) in
    on_err_weaker c.step_of-in-Some.result (λ h. ap (step_adds (state_of_parts p)) c.if-its-eq1.true ∙ h (state_of_parts p) 1 parts)
    c.step_of-in-Some.ensures.adding
