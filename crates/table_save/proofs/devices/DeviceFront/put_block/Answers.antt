use Rattle.std.proofs.Common.{◌≡◌, ℕ, ◌+◌, ◌<◌, false, rules, sym, List, length, ap, ◌∙◌, arith, subst}
use Rattle.std.specs.Prelude.{slice_index}
use Rattle.std.proofs.lemmas.Result.{on_ok_weaker}
use Rattle.guest_windows.specs.Windows.{Window}
use Rattle.its_types.specs.declared.translation.Device.{Device}
use Rattle.its_plain.specs.Saved.{put_words}
use Rattle.guest_windows.specs.Drafts.{laid}
use Rattle.table_save.specs.Pass.{begins_below, FitsDevice, PassedDevices, pack_device, device_entry_word}
use Rattle.table_save.proofs.Rises.{none_below, passed_over}
use Rattle.table_save.proofs.Written.{same_words}
use Rattle.table_save.proofs.devices.DeviceFront.put_block.Goals as goal

-- the words of a block, of which there are as many as places
counted : (memory now : List Window) (base id count : ℕ) (xs : List ℕ) (front : List (ℕ × Device)) → length xs ≡ count
    → ((k : ℕ) → k < count → slice_index xs k ≡ device_entry_word front (id + k)) → now ≡ put_words memory base (slice_index xs) (length xs)
    → now ≡ put_words memory base (λ i. device_entry_word front (id + i)) count
counted memory now base id count xs front long each wrote =
    wrote ∙ ap (put_words memory base (slice_index xs)) long ∙ same_words memory base count (slice_index xs) (λ i. device_entry_word front (id + i)) each

pub returns-then-not-begins_below-clause-memory : goal.returns-then-not-begins_below-clause-memory
returns-then-not-begins_below-clause-memory c =
    let front = c.args.self.now in
    let far : begins_below (c.args.id + c.args.count) front ≡ false = cc in
    on_ok_weaker c.put_zeros.result (λ wrote.
    wrote ∙ same_words (laid c.args.draft.now c.args.under.now) c.args.base c.args.count (λ _. 0) (λ i. device_entry_word front (c.args.id + i))
    (λ k lt. none_below FitsDevice pack_device 16383 c.args.id (c.args.id + c.args.count) front c.requires.rises far (c.args.id + k)
    (omega arith) (omega arith)))
    c.put_zeros.ensures

pub returns-then-not-begins_below-clause-rest : goal.returns-then-not-begins_below-clause-rest
returns-then-not-begins_below-clause-rest c =
    let front = c.args.self.now in
    let far : begins_below (c.args.id + c.args.count) front ≡ false = cc in
    passed_over FitsDevice pack_device 16383 c.args.id (c.args.id + c.args.count) front c.requires.rises c.requires.fit far

pub returns-clause-memory : goal.returns-clause-memory
returns-clause-memory c =
    let xs = c.words_at.new.words in
    let long : length xs ≡ c.args.count = rw c.words_at.ensures.length (search rules) in
    on_ok_weaker c.put_block.result (λ wrote.
    counted (laid c.args.draft.now c.args.under.now) (laid c.put_block.new.draft c.args.under.now) c.args.base c.args.id c.args.count xs c.args.self.now long
    (λ k lt. c.words_at.ensures.words k (omega (arith, lt, long, c.words_at.ensures.length))) wrote)
    c.put_block.ensures

pub returns-clause-rest : goal.returns-clause-rest
returns-clause-rest c =
    let long : length c.words_at.new.words ≡ c.args.count = rw c.words_at.ensures.length (search rules) in
    subst (λ (n : ℕ). PassedDevices (c.args.id + n) c.args.self.now c.words_at.new.self) (sym c.words_at.ensures.length ∙ long) c.words_at.ensures.rest
