use Rattle.std.proofs.Common.{ℕ, List, Option, sym, ap, subst, ◌∙◌}
use Rattle.std.specs.Prelude.{All}
use Rattle.its_types.specs.declared.translation.Bases.{Bases}
use Rattle.lpi_config.specs.Conf.{conf_state}
use Rattle.cmd_exec.specs.InHand.{conf_as, conf_by}
use Rattle.cmd_exec.specs.Reloaded.{numbers, reloaded, CanRead}
use Rattle.cmd_exec.proofs.Reloaded.{all_read, none_read, last_is, all_can, all_lpis}
use Rattle.cmd_exec.proofs.rereading.reread_all.Goals as goal

pub returns-then-not-bases-clause-conf : goal.returns-then-not-bases-clause-conf
returns-then-not-bases-clause-conf c =
    let conf = c.args.conf.now in let on = ap (λ (b : Bases). b.on) c.bases.ensures in
    ap (conf_as conf) (sym (none_read c.args.memory.now (numbers c.args.intids.now) (conf_state conf) (sym on ∙ c.if-not-bases.true)))

pub read-requires-clause-can : goal.read-requires-clause-can
read-requires-clause-can c =
    let conf = c.args.conf.now in let xs = c.args.intids.now in let on = ap (λ (b : Bases). b.on) c.bases.ensures in
    subst (λ (b : Bases). All (CanRead b.prop.table.0) xs) (sym c.bases-2.ensures) (all_can conf xs (sym on ∙ c.if-not-bases.false) c.requires.can)

pub reload_each-requires-clause-lpis : goal.reload_each-requires-clause-lpis
reload_each-requires-clause-lpis c = all_lpis c.args.conf.now c.args.intids.now c.requires.can

pub returns-clause-conf : goal.returns-clause-conf
returns-clause-conf c =
    let memory = c.args.memory.now in let conf = c.args.conf.now in let xs = c.args.intids.now in let table = c.bases-2.result.now.prop.table in
    let on = ap (λ (b : Bases). b.on) c.bases.ensures in
    let at = sym (ap (λ (b : Bases). b.prop.table.0) c.bases-2.ensures) in
    c.reload_each.ensures
    ∙ ap (λ (bytes : List (Option ℕ)). conf_by (reloaded xs bytes) conf) (last_is memory xs c.read.new.self table c.read.ensures.last c.read.ensures.table)
    ∙ ap (conf_as conf) (all_read memory table.0 xs (conf_state conf) (sym on ∙ c.if-not-bases.false) at)
