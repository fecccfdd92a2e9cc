use Rattle.std.proofs.Common.{◌≡◌, ℕ, ◌+◌, List, [], ◌∷◌, ◌++◌, length, sym, ap, subst, ◌∙◌, arith}
use Rattle.gicr_regs.specs.declared.values.GicrRegisters.{GicrRegisters}
use Rattle.gicr_regs.specs.Registers.{AreLow, all_restored_bases, values_of}
use Rattle.owned_machine.specs.Migrations.{AreRead}
use Rattle.owned_machine.proofs.Kept.{conf_there}
use Rattle.owned_machine.proofs.Programmed.{bases_low, one_read, all_read, read_with, read_without}
use Rattle.owned_machine.specs.Placed.{parts_in}
use Rattle.owned_machine.proofs.migrations.registers_of.Goals as goal

pub loop-vcpu-init : goal.loop-vcpu-init
loop-vcpu-init c = record { many = ap length c.new-registers.ensures.items; each = λ v other lt. absurd (omega (arith, lt)) }

pub conf-conf-requires : goal.conf-conf-requires
conf-conf-requires c = conf_there (record (parts_in c.args.parts.now) { track = c.requires.0 }) c.loop-vcpu.vcpu c.requires.1 c.loop-vcpu-test.true

pub values_of-requires : goal.values_of-requires
values_of-requires c =
    subst AreLow (sym c.bases.ensures)
    (bases_low (record (parts_in c.args.parts.now) { track = c.requires.0 }) c.loop-vcpu.vcpu c.conf-conf.result.now c.requires.1 c.if-not-parts.false c.conf-conf.ensures)

pub loop-vcpu-preserved : goal.loop-vcpu-preserved
loop-vcpu-preserved c =
    let p = record (parts_in c.args.parts.now) { track = c.requires.0 } in
    let n : ℕ = c.loop-vcpu.vcpu in
    let rs : List GicrRegisters = c.loop-vcpu.registers.items in
    let r = c.conf-conf.result.now in
    let same : rs ++ values_of r.bases ∷ [] ≡ c.push.new.self.items =
    ap (λ (x : GicrRegisters). rs ++ x ∷ []) (sym (c.values_of.ensures ∙ ap values_of c.bases.ensures)) ∙ sym c.in_ok-push.ensures.items in
    subst (λ (xs : List GicrRegisters). AreRead (parts_in c.args.parts.now) xs (n + 1)) same
    (read_without (parts_in c.args.parts.now) c.requires.0 (rs ++ values_of r.bases ∷ []) (n + 1)
    (one_read c.values_come_back.ensures p rs n r c.requires.1 c.if-not-parts.false c.conf-conf.ensures
    (read_with (parts_in c.args.parts.now) c.requires.0 rs n c.loop-vcpu.invariant)))

pub returns-clause-bases : goal.returns-clause-bases
returns-clause-bases c =
    let p = record (parts_in c.args.parts.now) { track = c.requires.0 } in
    let done : c.loop-vcpu.vcpu ≡ p.layout.shape.vcpus = omega (arith, c.loop-vcpu-test.false, c.loop-vcpu.auto.vcpu-end) in
    λ gicr. ap (λ (xs : List GicrRegisters). all_restored_bases p.layout.shape.vcpus (record { registers = xs })) c.from_vec.ensures
    ∙ all_read p c.loop-vcpu.registers.items c.requires.1 (subst (AreRead p c.loop-vcpu.registers.items) done
    (read_with (parts_in c.args.parts.now) c.requires.0 c.loop-vcpu.registers.items c.loop-vcpu.vcpu c.loop-vcpu.invariant))

pub returns-clause-many : goal.returns-clause-many
returns-clause-many c =
    let long = ap length c.from_vec.ensures ∙ c.loop-vcpu.invariant.many in
    λ gicr. omega (arith, long, c.loop-vcpu-test.false, c.loop-vcpu.auto.vcpu-end)
