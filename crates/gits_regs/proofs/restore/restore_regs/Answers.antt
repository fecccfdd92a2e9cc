use Rattle.std.proofs.Common.{sym, ◌∙◌}
use Rattle.std.proofs.lemmas.Bool.{ltb-true}
use Rattle.gits_regs.proofs.Kept.{kept_values_are_sound, passed}
use Rattle.gits_regs.proofs.restore.restore_regs.Goals as goal

pub invariant_of-result : goal.invariant_of-result
invariant_of-result c =
    kept_values_are_sound _ c.args.values c.requires.least c.requires.most
    c.kept_cbaser-cbaser.ensures c.kept_offset-creadr.ensures c.kept_offset-cwriter.ensures c.kept_baser0-baser0.ensures c.kept_baser1-baser1.ensures
    (sym c.base_allowed.ensures ∙ passed _ _ _ _ c.ensure.ensures (c.in_ok-ensure.was))
    (rw (sym c.size_of-size.ensures.size) (ltb-true _ _ (passed _ _ _ _ c.ensure-2.ensures (c.in_ok-ensure-2.was))))
    (rw (sym c.size_of-size.ensures.size) (ltb-true _ _ (passed _ _ _ _ c.ensure-3.ensures (c.in_ok-ensure-3.was))))
    (sym c.base_allowed-2.ensures ∙ passed _ _ _ _ c.ensure-4.ensures (c.in_ok-ensure-4.was))
    (sym c.base_allowed-3.ensures ∙ passed _ _ _ _ c.ensure-5.ensures (c.in_ok-ensure-5.was))
