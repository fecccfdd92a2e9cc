use Rattle.std.proofs.Common.{◌∙◌, sym, ap}
use Rattle.its_types.specs.declared.translation.Bases.{Bases}
use Rattle.cmd_exec.proofs.Opened.{reread_off, reread_some, reread_none}
use Rattle.cmd_exec.proofs.lpis.reread.Goals as goal

pub returns-then-not-bases : goal.returns-then-not-bases
returns-then-not-bases c =
    let on = ap (λ (b : Bases). b.on) c.bases.ensures in
    reread_off c.args.memory.now c.args.intid.0 c.args.conf.now (sym on ∙ c.if-not-bases.true)

pub returns-in-Ok : goal.returns-in-Ok
returns-in-Ok c =
    let on = ap (λ (b : Bases). b.on) c.bases.ensures in
    let read = sym c.read_u8.ensures ∙ c.in-Ok.is in
    c.reload.ensures
    ∙ reread_some c.args.memory.now c.args.intid.0 c.args.conf.now _ c.from-place.result c.in-Ok.byte (sym on ∙ c.if-not-bases.false)
    c.from-place.ensures (rw c.bases-2.ensures at read)

pub returns-in_default : goal.returns-in_default
returns-in_default c =
    let on = ap (λ (b : Bases). b.on) c.bases.ensures in
    let read = sym c.read_u8.ensures ∙ c.in_default.is in
    reread_none c.args.memory.now c.args.intid.0 c.args.conf.now _ _ c.from-place.result (sym on ∙ c.if-not-bases.false) c.from-place.ensures
    (rw c.bases-2.ensures at read)
