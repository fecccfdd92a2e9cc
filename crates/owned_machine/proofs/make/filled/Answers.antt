use Rattle.std.proofs.Common.{List, sym, ap, ◌∙◌, refl}
use Rattle.its_plain.specs.Machine.{filled}
use Rattle.its_plain.specs.declared.desc.Fill.{Fill}
use Rattle.owned_machine.proofs.Started.{filled_is, devices_wrong, all_checked, filled_with}
use Rattle.owned_machine.proofs.make.filled.Goals as goal

pub returns-in_err-devices_fit : goal.returns-in_err-devices_fit
returns-in_err-devices_fit c =
    let d = c.args.desc.now in
    let is = filled_is d c.in_ok-memory.memory c.fill.new.memory c.in_ok-memory.ensures.ok.0 c.in_ok-memory.ensures.ok.1 (sym c.in_ok-tables_inside.ensures)
    (ap (λ (fills : List Fill). filled c.in_ok-memory.memory 0 fills) (sym c.as_slice.ensures) ∙ c.in_ok-fill.ensures) in
    filled_with d c.from_residual-in_err-devices_fit.result _ c.in_err-devices_fit.field-0.0 c.from_residual-in_err-devices_fit.ensures.1 refl
    (devices_wrong d c.fill.new.memory is c.in_err-devices_fit.field-0.0 (sym c.in_err-devices_fit.ensures))

pub returns : goal.returns
returns c =
    let d = c.args.desc.now in
    let is = filled_is d c.in_ok-memory.memory c.fill.new.memory c.in_ok-memory.ensures.ok.0 c.in_ok-memory.ensures.ok.1 (sym c.in_ok-tables_inside.ensures)
    (ap (λ (fills : List Fill). filled c.in_ok-memory.memory 0 fills) (sym c.as_slice.ensures) ∙ c.in_ok-fill.ensures) in
    all_checked d c.fill.new.memory is (sym c.in_ok-devices_fit.ensures)
