use Rattle.std.proofs.Common.{◌*◌, min, sym, ◌∙◌, ap, subst, take}
use Rattle.std.proofs.lemmas.Result.{on_ok_weaker}
use Rattle.gits_regs.specs.Registers.{pages}
use Rattle.its_plain.specs.Plain.{Translator}
use Rattle.guest_windows.specs.Drafts.{laid}
use Rattle.table_save.specs.Tables.{ArePages}
use Rattle.table_save.proofs.Rises.{map_rises}
use Rattle.table_save.proofs.Entries.{pages_written, flat_written}
use Rattle.table_save.proofs.devices.put_devices.Goals as goal

pub returns-then-indirect : goal.returns-then-indirect
returns-then-indirect c =
    let t : Translator = record { regs = c.args.regs.now; maps = c.args.maps.now.maps } in
    let two = sym c.indirect.ensures ∙ c.if-indirect.true in
    let all = c.read_pages-pages.result in
    let listed : ArePages t.regs c.args.under.now (take c.level1_entries.result all) =
    subst (λ n. ArePages t.regs c.args.under.now (take n all)) (sym c.level1_entries.ensures.entries) (c.read_pages-pages.ensures two) in
    on_ok_weaker c.put_pages.result (pages_written t c.args.under.now (laid c.args.draft.now c.args.under.now) (laid c.put_pages.new.draft c.args.under.now)
    (take c.level1_entries.result all)
    (sym c.table_valid.ensures ∙ c.if-not-table_valid.false) two listed) c.put_pages.ensures

pub put_places-requires-clause-rises : goal.put_places-requires-clause-rises
put_places-requires-clause-rises c = rw c.new-front.ensures (map_rises c.args.maps.now.maps.devices)

pub returns : goal.returns
returns c =
    let size = ap (λ n. 8192 * n) (c.min-count.ensures ∙ ap (λ p. min p c.level1_entries-2.result) c.pages.ensures.pages
    ∙ ap (min (pages c.args.regs.now.baser0)) c.level1_entries-2.ensures.entries) in
    on_ok_weaker c.put_places.result
    (flat_written (record { regs = c.args.regs.now; maps = c.args.maps.now.maps }) c.args.under.now (laid c.args.draft.now c.args.under.now)
    (laid c.put_places.new.draft c.args.under.now) c.table_base.result.0 (8192 * c.min-count.result) c.new-front.result
    (sym c.table_valid.ensures ∙ c.if-not-table_valid.false) (sym c.indirect.ensures ∙ c.if-indirect.false) c.table_base.ensures size c.new-front.ensures)
    c.put_places.ensures.memory
