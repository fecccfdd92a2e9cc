use Rattle.std.proofs.Common.{◌≡◌, ◌+◌, ◌^◌, refl, ap, ◌∙◌, arith}
use Rattle.its_types.specs.Maps.{events_at}
use Rattle.its_plain.specs.Saved.{put_words}
use Rattle.table_save.specs.Pass.{FitsEvent, pack_event, event_entry_word}
use Rattle.standing_states.proofs.EventsOf.{events_rise}
use Rattle.guest_windows.specs.Drafts.{laid}
use Rattle.table_save.proofs.Blocks.{block_more}
use Rattle.table_save.proofs.Rises.{passed_none, passed_then}
use Rattle.table_save.proofs.events.put_itt.Goals as goal

pub loop-done-init : goal.loop-done-init
loop-done-init c =
    let m = c.args.maps.now.maps in
    rw c.new-front.ensures (record {
      within = omega arith;
      written = refl;
      passed = passed_none FitsEvent pack_event 65535 0 (events_at m c.args.dev.0) (events_rise m c.args.dev.0)
          c.requires.events;
    })

pub loop-done-preserved : goal.loop-done-preserved
loop-done-preserved c =
    let v = c.loop-done.invariant in
    let done = c.loop-done.done in
    let more = c.span-more.result in
    let all = events_at c.args.maps.now.maps c.args.dev.0 in
    record {
      within = omega (arith, v.within, c.span-more.ensures.most);
      written = block_more (laid c.args.draft.now c.args.under.now) (laid c.loop-done.draft c.args.under.now)
          (laid c.put_block.new.draft c.args.under.now) c.args.device.itt.0 done more _ (event_entry_word all)
          (λ i. event_entry_word c.loop-done.front (done + i)) v.written c.in_ok-put_block.ensures.memory (λ k lt. v.passed.words (done + k) (omega arith))
          (omega (arith, c.from.ensures));
      passed = passed_then FitsEvent pack_event 65535 done (done + more) all c.loop-done.front c.put_block.new.self (omega arith) v.passed
          c.in_ok-put_block.ensures.rest;
    }

pub returns : goal.returns
returns c =
    let v = c.loop-done.invariant in
    let all = events_at c.args.maps.now.maps c.args.dev.0 in
    let end : c.loop-done.done ≡ 2 ^ c.args.device.bits = omega (arith, v.within, c.loop-done-test.false, c.places-count.ensures.places) in
    v.written ∙ ap (put_words (laid c.args.draft.now c.args.under.now) c.args.device.itt.0 (event_entry_word all)) end
