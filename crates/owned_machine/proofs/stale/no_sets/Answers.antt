use Rattle.std.proofs.Common.{◌≡◌, ◌∙◌, ap, ℕ, arith, replicate}
use Rattle.lpi_pending.specs.PendingSets.{none_pending}
use Rattle.owned_machine.proofs.Led.{none_yet_in}
use Rattle.owned_machine.proofs.stale.no_sets.Goals as goal

pub returns : goal.returns
returns c =
    let s = c.args.parts.now.layout.shape in
    none_yet_in c.args.parts.now c.loop.sets.items
    (c.loop.invariant ∙ ap (λ (n : ℕ). replicate n (none_pending s.lpi_bits))
    (let done : c.loop.counter ≡ s.vcpus = omega (arith, c.loop-test.false, c.loop.auto.counter-end) in done))
