use Rattle.std.proofs.Common.{refl, ap, sym, ◌∙◌, subst}
use Rattle.std.specs.Prelude.{ℕ}
use Rattle.its_plain.specs.declared.desc.Desc.{Desc}
use Rattle.its_numbers.specs.declared.counters.Counters.{Counters}
use Rattle.its_numbers.specs.declared.limits.GuestLimits.{GuestLimits}
use Rattle.its_steps.specs.World.{View}
use Rattle.its_shared.specs.Answers.{Answers}
use Rattle.its_shared.specs.Asked as asked
use Rattle.its_shared.specs.Knowing.{Known, setting}
use Rattle.its_shared.specs.Telling.{ok}
use Rattle.its_shared.proofs.Counted.{counts_so, keeps_routes, stays_written}
use Rattle.its_shared.proofs.registers.written.Goals as goal

abbrev Beside : Type 0
Beside = Desc × GuestLimits × ℕ × Counters

pub returns-clause-told : goal.returns-clause-told
returns-clause-told c =
    let a = c.args in
    record {
      answer = c.write_register-answer.result;
      answers = subst (λ (w : View). Answers (asked.write_register a.its a.offset a.size a.value) ok a.port.now.view w c.write_register-answer.result) (sym (ap (λ (k : Known). k.view) (c.count_write.ensures a.its a.size a.value)))
          c.write_register-answer.ensures.answer;
      code_is = c.tell_unit.ensures.code;
      place_is = c.tell_unit.ensures.place;
      out_is = refl;
    }

pub returns-clause-counts : goal.returns-clause-counts
returns-clause-counts c =
    let a = c.args in
    let e = c.write_register-answer.ensures in
    counts_so (asked.write_register a.its a.offset a.size a.value) ok a.port.now c.write_register-answer.new.self c.count_write.new.self c.tell_unit.result c.write_register-answer.result
    (e.answer, ap (λ (b : Beside). b.2) e.beside, ap (λ (b : Beside). b.3) e.beside, (c.count_write.ensures a.its a.size a.value), c.tell_unit.ensures.code)

pub returns-clause-routes : goal.returns-clause-routes
returns-clause-routes c =
    let a = c.args in
    let e = c.write_register-answer.ensures in
    keeps_routes (asked.write_register a.its a.offset a.size a.value) ok a.port.now c.write_register-answer.new.self c.count_write.new.self c.tell_unit.result c.write_register-answer.result (stays_written a.its a.offset a.size a.value)
    (e.answer, ap (λ (b : Beside). b.2) e.beside, ap (λ (b : Beside). b.3) e.beside, (c.count_write.ensures a.its a.size a.value), c.tell_unit.ensures.code)

pub returns-clause-setting : goal.returns-clause-setting
returns-clause-setting c =
    let a = c.args in
    ap (λ (k : Known). setting k) (c.count_write.ensures a.its a.size a.value) ∙ ap (λ (b : Beside). (b.0, b.1)) c.write_register-answer.ensures.beside
