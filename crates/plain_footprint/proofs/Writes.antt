-- What a write of a redistributor's LPI registers leaves in two states that have its parts in common.
use Rattle.std.proofs.Common.{◌≡◌, true, false, List, ◌∷◌, ⊎_elim, sym, subst, ◌∙◌}
use Rattle.std.proofs.lemmas.Bool.{cases_Bool}
use Rattle.its_types.specs.declared.ids.Vcpu.{Vcpu}
use Rattle.its_types.specs.declared.machine.Part.{Part}
use Rattle.its_types.specs.declared.machine.Part.TheVariants.{Mem, Conf, Pend}
use Rattle.gicr_regs.specs.Registers.{changes_pending, reads_tables, conf_done_by, done_by}
use Rattle.gicr_regs.specs.declared.write.GicrWrite.{GicrWrite}
use Rattle.gicr_regs.proofs.Split.{split, looks_away, conf_looks_away}
use Rattle.its_plain.specs.Plain.{Plain, Redistributor, redistributor, conf_of, with_conf, with_redistributor}
use Rattle.its_plain.specs.Parts.{AgreesOn, write_parts}
use Rattle.plain_footprint.proofs.Listed.{in_head, in_tail, mem_in_write, pend_in_write}
use Rattle.plain_footprint.proofs.Alike.{conf_same, redist_same, agree_redist, agree_conf}

-- what a write of the LPI registers leaves
abbrev pub done_at : Plain → Vcpu → GicrWrite → Plain
done_at u v x = with_redistributor u v.0 (done_by u.layout.shape u.memory x (redistributor u v.0))

module _ (u w : Plain) (v : Vcpu) (x : GicrWrite) (a : AgreesOn u w (Conf v ∷ write_parts v x)) where
  abbrev ps : List Part
  ps = Conf v ∷ write_parts v x

  confs_are : conf_of (redistributor u v.0) ≡ conf_of (redistributor w v.0)
  confs_are = conf_same u w ps v.0 (in_head (Conf v) (write_parts v x)) a

  memory_read : reads_tables x ≡ true → u.memory ≡ w.memory
  memory_read e = (a.parts Mem (in_tail Mem (Conf v) (write_parts v x) (mem_in_write v x e))).0

  -- the configuration is changed alike
  conf_done : conf_done_by u.layout.shape u.memory x (conf_of (redistributor u v.0)) ≡ conf_done_by w.layout.shape w.memory x (conf_of (redistributor w v.0))
  conf_done = ⊎_elim
      (λ (reads : reads_tables x ≡ true). λ d. conf_done_by (a.layout d).shape (memory_read reads d) x (confs_are d))
      (λ (looks : reads_tables x ≡ false). conf_looks_away u.layout.shape u.memory w.memory x (conf_of (redistributor u v.0)) looks
      ∙ (λ d. conf_done_by (a.layout d).shape w.memory x (confs_are d)))
      (cases_Bool (reads_tables x))

  -- and so are both parts, where LPIs are turned on or off
  both_done : changes_pending x ≡ true
      → done_by u.layout.shape u.memory x (redistributor u v.0) ≡ done_by w.layout.shape w.memory x (redistributor w v.0)
  both_done turns =
      let same : redistributor u v.0 ≡ redistributor w v.0 =
      redist_same u w ps v.0 (in_head (Conf v) (write_parts v x)) (in_tail (Pend v) (Conf v) (write_parts v x) (pend_in_write v x turns)) a in
      ⊎_elim
      (λ (reads : reads_tables x ≡ true). λ d. done_by (a.layout d).shape (memory_read reads d) x (same d))
      (λ (looks : reads_tables x ≡ false). looks_away u.layout.shape u.memory w.memory x (redistributor u v.0) looks
      ∙ (λ d. done_by (a.layout d).shape w.memory x (same d)))
      (cases_Bool (reads_tables x))

  pub done_alike : AgreesOn (done_at u v x) (done_at w v x) ps
  done_alike = ⊎_elim
      (λ (turns : changes_pending x ≡ true).
      agree_redist u w ps v.0 (done_by u.layout.shape u.memory x (redistributor u v.0)) (done_by w.layout.shape w.memory x (redistributor w v.0))
      (both_done turns) a)
      (λ (keeps : changes_pending x ≡ false).
      let left : done_by u.layout.shape u.memory x (redistributor u v.0)
      ≡ with_conf (conf_done_by u.layout.shape u.memory x (conf_of (redistributor u v.0))) (redistributor u v.0) =
      split u.layout.shape u.memory x (redistributor u v.0) keeps in
      let right : done_by w.layout.shape w.memory x (redistributor w v.0)
      ≡ with_conf (conf_done_by w.layout.shape w.memory x (conf_of (redistributor w v.0))) (redistributor w v.0) =
      split w.layout.shape w.memory x (redistributor w v.0) keeps in
      subst (λ (r : Redistributor). AgreesOn (with_redistributor u v.0 r) (done_at w v x) ps) (sym left)
      (subst (λ (r : Redistributor). AgreesOn (with_redistributor u v.0 (with_conf (conf_done_by u.layout.shape u.memory x (conf_of (redistributor u v.0)))
      (redistributor u v.0))) (with_redistributor w v.0 r) ps) (sym right)
      (agree_conf u w ps v.0 (conf_done_by u.layout.shape u.memory x (conf_of (redistributor u v.0)))
      (conf_done_by w.layout.shape w.memory x (conf_of (redistributor w v.0))) conf_done a)))
      (cases_Bool (changes_pending x))
