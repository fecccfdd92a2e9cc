use Rattle.std.proofs.Common.{ℕ, List, Some, ap, sym, ◌∙◌, get_or, arith}
use Rattle.gicr_regs.specs.Registers.{restored_bases}
use Rattle.gicr_regs.specs.declared.values.GicrRegisters.{GicrRegisters}
use Rattle.its_types.specs.Lpis.{no_bases}
use Rattle.its_types.specs.declared.translation.Bases.{Bases}
use Rattle.standing_states.proofs.Lent.{from_values, from_layout}
use Rattle.table_restore.proofs.redists.bases_of.Goals as goal

pub returns-then-layout-clause-bases : goal.returns-then-layout-clause-bases
returns-then-layout-clause-bases c =
    let many = c.requires.values c.if-layout.true in
    let zero : GicrRegisters = record { ctlr = 0; propbaser = 0; pendbaser = 0 } in
    from_values c.args.layout.now c.args.gicr.now c.args.vcpu zero c.if-layout.true c.requires.vcpu (omega (arith, many))
    ∙ ap (λ (xs : List GicrRegisters). Some (restored_bases (get_or xs c.args.vcpu zero))) (sym c.as_slice.ensures)
    ∙ ap (λ (v : ℕ). Some (restored_bases (get_or c.as_slice.result.now v zero))) (sym c.from.ensures)
    ∙ ap Some (sym c.restored_bases.ensures.bases)

pub returns-else-layout-clause-bases : goal.returns-else-layout-clause-bases
returns-else-layout-clause-bases c =
    let l = c.args.layout.now in let many = c.requires.layout.described c.if-layout.false in
    let table = c.as_slice-else-layout in
    from_layout l c.args.gicr.now c.args.vcpu no_bases c.if-layout.false (omega (arith, many, c.requires.vcpu))
    ∙ ap (λ (xs : List Bases). Some (get_or xs c.args.vcpu no_bases)) (sym table.ensures)
    ∙ ap (λ (v : ℕ). Some (get_or table.result.now v no_bases)) (sym c.from-else-layout.ensures)
