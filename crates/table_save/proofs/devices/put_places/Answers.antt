use Rattle.std.proofs.Common.{◌≡◌, ℕ, ◌+◌, refl, ap, ◌∙◌, arith, subst}
use Rattle.its_plain.specs.Saved.{put_words}
use Rattle.guest_windows.specs.Drafts.{laid}
use Rattle.table_save.specs.Pass.{FitsDevice, pack_device, device_entry_word, PassedDevices, RisesFrom}
use Rattle.table_save.proofs.Blocks.{block_more}
use Rattle.table_save.proofs.Rises.{passed_none, passed_then}
use Rattle.table_save.proofs.devices.put_places.Goals as goal

pub loop-done-init : goal.loop-done-init
loop-done-init c =
    let front = c.args.front.now in
    let here : c.args.first ≡ c.args.first + 0 = omega arith in
    record {
      within = omega arith;
      written = refl;
      passed = passed_none FitsDevice pack_device 16383 (c.args.first + 0) front (subst (λ (i : ℕ). RisesFrom i front) here c.requires.rises) c.requires.fit;
    }

pub loop-done-preserved : goal.loop-done-preserved
loop-done-preserved c =
    let v = c.loop-done.invariant in
    let first = c.args.first in
    let done = c.loop-done.done in
    let more = c.span-more.result in
    let all = c.args.front.now in
    let rest = c.loop-done.front in
    let place : (k : ℕ) → first + done + k ≡ first + (done + k) = λ k. omega arith in
    let next : first + done + more ≡ first + (done + more) = omega arith in
    record {
      within = omega (arith, v.within, c.span-more.ensures.most);
      written = block_more (laid c.args.draft.now c.args.under.now) (laid c.loop-done.draft c.args.under.now)
          (laid c.put_block.new.draft c.args.under.now) c.args.base done more _ (λ i. device_entry_word all (first + i))
          (λ i. device_entry_word rest (first + done + i)) v.written c.in_ok-put_block.ensures.memory
          (λ k lt. v.passed.words (first + done + k) (omega arith) ∙ ap (device_entry_word all) (place k))
          (omega (arith, c.from.ensures));
      passed = subst (λ (i : ℕ). PassedDevices i all c.put_block.new.self) next
          (passed_then FitsDevice pack_device 16383 (first + done) (first + done + more) all rest c.put_block.new.self (omega arith) v.passed
          c.in_ok-put_block.ensures.rest);
    }

pub returns-clause-memory : goal.returns-clause-memory
returns-clause-memory c =
    let v = c.loop-done.invariant in
    let all : c.loop-done.done ≡ c.args.count = omega (arith, v.within, c.loop-done-test.false) in
    v.written ∙ ap (put_words (laid c.args.draft.now c.args.under.now) c.args.base (λ i. device_entry_word c.args.front.now (c.args.first + i))) all

pub returns-clause-rest : goal.returns-clause-rest
returns-clause-rest c =
    let v = c.loop-done.invariant in
    let all : c.loop-done.done ≡ c.args.count = omega (arith, v.within, c.loop-done-test.false) in
    subst (λ (i : ℕ). PassedDevices (c.args.first + i) c.args.front.now c.loop-done.front) all v.passed
