use Rattle.std.proofs.Common.{◌≡◌, true, false, sym, ap, ◌∙◌, ℕ}
use Rattle.its_steps.specs.Parts.{stamp_of}
use Rattle.its_player.specs.Shared.{setup_of}
use Rattle.its_player.proofs.MayTests.{has, hit_is, hit_tests, found_as}
use Rattle.its_player.proofs.shared.Shared.hit.Goals as goal

pub returns-then-not-meets_in : goal.returns-then-not-meets_in
returns-then-not-meets_in c = λ h.
    let s = setup_of c.args.self.now in
    let message = sym c.message_of.ensures ∙ c.in-Some.is in
    let t = hit_tests s c.args.commit.now c.args.held.now c.in-Some.its c.in-Some.dev c.in-Some.ev c.in-Signal.signal message c.in-Signal.is h in
    let same : has s c.args.commit.now c.args.held.now c.in-Some.its c.in-Some.dev c.in-Some.ev c.in-Signal.signal ≡ c.meets_in.result =
    found_as s c.args.commit.now c.args.held.now c.in-Some.its c.in-Some.dev c.in-Some.ev c.in-Signal.signal c.shard_of.result c.stamp_of-stamp.result
    c.meets_in.result c.shard_of.ensures (c.stamp_of-stamp.ensures ∙ ap (λ (i : ℕ). stamp_of s c.args.commit.now.expected i) c.from.ensures)
    c.meets_in.ensures in
    let two : true ≡ false = sym t ∙ (same ∙ c.if-not-meets_in.true) in
    cc

pub returns : goal.returns
returns c =
    let s = setup_of c.args.self.now in
    let message = sym c.message_of.ensures ∙ c.in-Some.is in
    let same : has s c.args.commit.now c.args.held.now c.in-Some.its c.in-Some.dev c.in-Some.ev c.in-Signal.signal ≡ c.meets_in.result =
    found_as s c.args.commit.now c.args.held.now c.in-Some.its c.in-Some.dev c.in-Some.ev c.in-Signal.signal c.shard_of.result c.stamp_of-stamp.result
    c.meets_in.result c.shard_of.ensures (c.stamp_of-stamp.ensures ∙ ap (λ (i : ℕ). stamp_of s c.args.commit.now.expected i) c.from.ensures)
    c.meets_in.ensures in (
      hit_is s c.args.commit.now c.args.held.now c.in-Some.its c.in-Some.dev c.in-Some.ev c.in-Signal.signal message c.in-Signal.is
          (same ∙ c.if-not-meets_in.false),
      record { its = c.in-Some.its; dev = c.in-Some.dev; ev = c.in-Some.ev; message = message; reply_is = c.in-Signal.is },
    )
