use Rattle.std.proofs.Common.{◌≡◌, ℕ, drop, List, subst, sym, ap, ◌∙◌, arith}
use Rattle.std.proofs.lemmas.List.{drop-drop}
use Rattle.guest_windows.specs.Drafts.{laid}
use Rattle.its_types.specs.declared.ids.Vcpu.{Vcpu}
use Rattle.its_plain.specs.Saved.{put_words, collection_entry}
use Rattle.std.specs.Prelude.{slice_get}
use Rattle.table_save.specs.EntriesLeft.{Leaves}
use Rattle.table_save.proofs.Blocks.{block_more}
use Rattle.table_save.proofs.CollectionWalks.{get_after}
use Rattle.table_save.proofs.collections.put_places.Goals as goal

pub loop-done-preserved : goal.loop-done-preserved
loop-done-preserved c =
    let v = c.loop-done.invariant in
    let done = c.loop-done.done in
    let more = c.in_ok-done.field-0 in
    record {
      within = omega (arith, v.within, c.in_ok-done.ensures.most);
      written = λ es h. block_more (laid c.args.draft.now c.args.under.now) (laid c.loop-done.draft c.args.under.now)
          (laid c.put_some.new.draft c.args.under.now) c.args.base done more _
          (λ i. collection_entry (slice_get es i)) (λ i. collection_entry (slice_get (drop done es) i)) (v.written es h)
          (c.in_ok-done.ensures.memory (drop done es) (v.left es h)) (λ k lt. ap collection_entry (get_after es done k)) (omega (arith, c.from.ensures));
      left = λ es h. subst (Leaves c.put_some.new.front) (drop-drop more done es) (c.in_ok-done.ensures.rest (drop done es) (v.left es h));
    }

pub returns : goal.returns
returns c es h =
    let v = c.loop-done.invariant in
    let all : c.loop-done.done ≡ c.args.count = omega (arith, v.within, c.loop-done-test.false) in
    v.written es h ∙ ap (put_words (laid c.args.draft.now c.args.under.now) c.args.base (λ i. collection_entry (slice_get es i))) all
