use Rattle.std.proofs.Common.{◌≡◌, true, false, get_or, refl, sym, subst, ◌∙◌}
use Rattle.std.specs.List.{AllByRecursion}
use Rattle.its_types.specs.declared.ids.DeviceId.{DeviceId}
use Rattle.its_types.specs.declared.ids.EventId.{EventId}
use Rattle.its_player.specs.Shared.{setup_of}
use Rattle.its_player.proofs.MayTests.{KeepsPair, all_pairs, all_more, take_whole}
use Rattle.its_player.proofs.shared.Shared.keeps_pairs.Goals as goal

pub returns-then-not-keeps_pair : goal.returns-then-not-keeps_pair
returns-then-not-keeps_pair c = ((λ e. absurd cc), (λ f. let two : true ≡ false = sym (c.keeps_pair.ensures.1 (f _ _)) ∙ c.if-not-keeps_pair.true in absurd cc))

pub loop-pair-preserved : goal.loop-pair-preserved
loop-pair-preserved c =
    let pairs = c.deref-pair-items.result.now in
    let p : DeviceId × EventId = get_or pairs c.loop-pair.pair-index (record { 0 = 0 }, record { 0 = 0 }) in
    let h = c.keeps_pair.ensures.0 c.if-not-keeps_pair.false in
    all_more (KeepsPair (setup_of c.args.self.now) c.args.its c.args.owed.now c.args.before.now c.args.after.now) pairs c.loop-pair.pair-index
    (record { 0 = 0 }, record { 0 = 0 }) c.loop-pair-test.true c.loop-pair.invariant h

pub returns : goal.returns
returns c =
    let pairs = c.deref-pair-items.result.now in
    let le = c.loop-pair-test.false in (
      (λ e. all_pairs (setup_of c.args.self.now) c.args.its c.args.owed.now c.args.before.now c.args.after.now c.in_ok-pairs.pairs.items
          c.in_ok-pairs.ensures.mapped
          (subst (AllByRecursion (KeepsPair (setup_of c.args.self.now) c.args.its c.args.owed.now c.args.before.now c.args.after.now))
          (take_whole pairs c.loop-pair.pair-index le ∙ c.deref-pair-items.ensures.value) c.loop-pair.invariant)),
      (λ f. refl),
    )
