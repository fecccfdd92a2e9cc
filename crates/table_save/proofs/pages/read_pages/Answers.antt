use Rattle.std.proofs.Common.{◌≡◌, ℕ, ◌<◌, ap, subst, take, ◌∙◌, arith}
use Rattle.baser_place.specs.Places.{page_of}
use Rattle.table_save.specs.Tables.{ArePages}
use Rattle.table_save.proofs.FirstPages.{none_first, one_more, all_first}
use Rattle.table_save.proofs.pages.read_pages.Goals as goal

pub loop-k-init : goal.loop-k-init
loop-k-init c = none_first c.args.regs.now c.args.memory.now

pub loop-k-preserved : goal.loop-k-preserved
loop-k-preserved c =
    let lt : c.loop-k.k < 128 = omega (arith, c.loop-k-test.true, c.level1_entries-k-end.ensures.most) in
    one_more c.args.regs.now c.args.memory.now c.loop-k.k c.loop-k.pages c.page_of.result lt (c.page_of.ensures.page ∙ ap page_of c.level1.ensures.entry)
    c.page_of.ensures.low c.loop-k.invariant

pub returns-after-loop-k : goal.returns-after-loop-k
returns-after-loop-k c =
    let entries = c.level1_entries-k-end.ensures.entries in
    let done : c.loop-k.k ≡ c.level1_entries-k-end.result = omega (arith, c.loop-k-test.false, c.loop-k.auto.k-end) in
    let is = done ∙ entries in
    λ two. subst (λ (n : ℕ). ArePages c.args.regs.now c.args.memory.now (take n c.loop-k.pages)) is
    (all_first c.args.regs.now c.args.memory.now c.loop-k.k c.loop-k.pages is (omega (arith, done, c.level1_entries-k-end.ensures.most)) c.loop-k.invariant)
