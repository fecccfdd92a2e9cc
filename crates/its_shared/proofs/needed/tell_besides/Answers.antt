use Rattle.std.proofs.Common.{◌≡◌, ℕ, List, ap, sym, ◌∙◌, subst}
use Rattle.std.specs.Prelude.{OnOk}
use Rattle.std.specs.List.{flat_map, range_with_len}
use Rattle.guest_windows.specs.Fields.{pairs}
use Rattle.lpi_pending.specs.InHand.{conf_in}
use Rattle.table_save.specs.Areas.{redistributors_of}
use Rattle.step_views.specs.Pairs.{all_told}
use Rattle.its_shared.specs.Besides.{besides_reads, conf_read}
use Rattle.its_shared.specs.declared.besides.Besides.{Besides}
use Rattle.its_shared.proofs.Needing.{bytes_are, tables_are}
use Rattle.its_shared.proofs.needed.tell_besides.Goals as goal

pub returns-in-Byte : goal.returns-in-Byte
returns-in-Byte c =
    let shape = c.args.shape in
    let redists = c.args.redists.now in
    subst (λ (xs : List (ℕ × ℕ)). OnOk c.tell_configs.result (pairs c.tell_configs.new.told.items ≡ all_told (pairs c.args.told.now.items) xs))
    (ap (λ (o : ℕ). flat_map (λ v. conf_read o 1 (conf_in redists v)) (range_with_len 0 shape.vcpus)) (c.from-offset.ensures ∙ c.saturating_sub.ensures)
    ∙ (bytes_are shape redists c.in-Byte.intid.0 ∙ sym (ap (λ (b : Besides). besides_reads shape (redistributors_of shape redists) b) c.in-Byte.is)))
    c.tell_configs.ensures

pub returns-in-Tables : goal.returns-in-Tables
returns-in-Tables c =
    let shape = c.args.shape in
    let redists = c.args.redists.now in
    subst (λ (xs : List (ℕ × ℕ)). OnOk c.tell_configs-in-Tables.result
    (pairs c.tell_configs-in-Tables.new.told.items ≡ all_told (pairs c.args.told.now.items) xs))
    (ap (λ (n : ℕ). flat_map (λ v. conf_read 0 n (conf_in redists v)) (range_with_len 0 shape.vcpus)) c.lpi_count.ensures.count
    ∙ (tables_are shape redists ∙ sym (ap (λ (b : Besides). besides_reads shape (redistributors_of shape redists) b) c.in-Tables.is)))
    c.tell_configs-in-Tables.ensures
