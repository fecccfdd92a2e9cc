use Rattle.std.proofs.Common.{◌≡◌, ℕ, ◌+◌, ◌*◌, rules, length, ap, ◌∙◌, arith}
use Rattle.std.specs.Prelude.{slice_index}
use Rattle.its_plain.specs.Saved.{put_words, pending_word}
use Rattle.guest_windows.specs.Drafts.{laid}
use Rattle.table_save.proofs.Blocks.{block_more}
use Rattle.table_save.proofs.pending.put_words_of.Goals as goal

pub loop-done-preserved : goal.loop-done-preserved
loop-done-preserved c =
    let v = c.loop-done.invariant in
    let done = c.loop-done.done in
    let more = c.min-more.result in
    let xs = c.words_from.new.words in
    let start : ℕ = c.args.base + 8 * c.from.result in
    let long : length xs ≡ more = rw c.words_from.ensures.length (search rules) in
    record {
      within = omega (arith, v.within, c.min-more.ensures);
      written = block_more (laid c.args.draft.now c.args.under.now) (laid c.loop-done.draft c.args.under.now)
          (laid c.put_block.new.draft c.args.under.now) c.args.base done more start
          (λ i. pending_word c.args.pending.now.lpis (1024 + 8 * i)) (slice_index xs) v.written
          (c.in_ok-put_block.ensures ∙ ap (put_words (laid c.loop-done.draft c.args.under.now) start (slice_index xs)) long)
          (λ k lt. c.words_from.ensures.words k (omega (arith, lt, long, c.words_from.ensures.length)))
          (omega (arith, c.from.ensures));
    }
