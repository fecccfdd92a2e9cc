use Rattle.std.proofs.Common.{inl, inr, sym, ◌∙◌}
use Rattle.std.proofs.lemmas.Bool.{cases_Bool}
use Rattle.cmd_exec.specs.Needs.{reads_confs}
use Rattle.cmd_exec.proofs.Below.{concerned_below, confs_below}
use Rattle.cmd_exec.proofs.Sets.{confs_same, pends_same, parts_same}
use Rattle.cmd_exec.proofs.needed.needs.Goals as goal

pub returns-clause-confs : goal.returns-clause-confs
returns-clause-confs c = λ v. c.confs_of.ensures.members v ∙ confs_same c.args.shape.now c.args.maps.now.maps c.args.command.now v

pub returns-clause-pends : goal.returns-clause-pends
returns-clause-pends c = λ v. c.pends_of.ensures.members v ∙ pends_same c.args.shape.now c.args.maps.now.maps c.args.command.now v

pub returns-clause-confs_below : goal.returns-clause-confs_below
returns-clause-confs_below c = λ v held. confs_below c.args.shape.now.vcpus (reads_confs c.args.command.now) v (sym (c.confs_of.ensures.members v) ∙ held)

pub returns-clause-pends_below : goal.returns-clause-pends_below
returns-clause-pends_below c = λ v held. concerned_below c.args.shape.now c.args.maps.now.maps c.requires.targets c.args.command.now v
    (sym (c.pends_of.ensures.members v) ∙ held)

pub returns-clause-parts : goal.returns-clause-parts
returns-clause-parts c =
    let s = c.args.shape.now in let m = c.args.maps.now.maps in let command = c.args.command.now in
    parts_same s m command _ (λ v. c.confs_of.ensures.members v ∙ confs_same s m command v) (λ v. c.pends_of.ensures.members v ∙ pends_same s m command v)

pub returns-clause-one_kind : goal.returns-clause-one_kind
returns-clause-one_kind c =
    elim (cases_Bool (reads_confs c.args.command.now)) [
      | inl reads ↦ inr (c.pends_of.ensures.none reads)
      | inr other ↦ inl (c.confs_of.ensures.none other)
    ]
