use Rattle.std.proofs.Common.{◌≡◌, ap, ◌∙◌, arith}
use Rattle.baser_place.specs.Places.{page_of}
use Rattle.its_plain.specs.Saved.{wrote_tables, pages_words, page_words}
use Rattle.table_save.proofs.Marked.{page_marked}
use Rattle.table_save.proofs.marks.mark_pages.Goals as goal

pub loop-k-preserved : goal.loop-k-preserved
loop-k-preserved c =
    λ m. page_marked (record { regs = c.args.regs.now; maps = m }) c.args.from.now c.loop-k.k c.args.track.now c.loop-k.track c.mark_page.new.track
    (c.loop-k.invariant m)
    (c.mark_page.ensures m c.loop-k.k ∙ ap (λ e. wrote_tables (page_words m c.loop-k.k (page_of e)) c.loop-k.track) c.level1.ensures.entry)

pub returns : goal.returns
returns c =
    let done : c.loop-k.k ≡ c.level1_entries-k-end.result = omega (arith, c.loop-k-test.false, c.loop-k.auto.k-end) in
    λ m. c.loop-k.invariant m
    ∙ ap (λ n. wrote_tables (pages_words (record { regs = c.args.regs.now; maps = m }) c.args.from.now n) c.args.track.now)
    (done ∙ c.level1_entries-k-end.ensures.entries)
