use Rattle.std.proofs.Common.{ap, ◌∙◌, ℕ, replicate}
use Rattle.its_steps.specs.Parts.{Setup}
use Rattle.its_player.proofs.FirstShared.{first_shared}
use Rattle.its_player.proofs.shared.Shared.new.Goals as goal

pub returns-clause-first : goal.returns-clause-first
returns-clause-first c =
    let s : Setup = record { start = c.args.start; limits = c.args.limits; shards = c.args.shards } in
    first_shared s c.requires c.new-2.result.items c.new-3.result.items c.in_ok-slots.slots.items c.in_ok-turns.turns.items c.fresh-root.result
    c.new-views.result.items c.new.result.items c.push.new.self.items
    c.new-2.ensures.items c.new-3.ensures.items c.in_ok-slots.ensures (c.in_ok-turns.ensures ∙ ap (λ (k : ℕ). replicate k 0)
    (c.len.ensures ∙ c.in_ok-slots.slots.ok.0)) (c.fresh-root.ensures s) c.new.ensures.items c.in_ok-push.ensures.items c.new-views.ensures.items
