use Rattle.std.proofs.Common.{ap, sym, ◌∙◌}
use Rattle.its_plain.specs.declared.desc.Desc.{Desc}
use Rattle.owned_parts.specs.Owned.{state_of_parts}
use Rattle.its_turns.specs.Machines.{setup}
use Rattle.its_turns.specs.Opening.{setup_from, kept_of}
use Rattle.its_turns.proofs.Stamps.{has_stamps}
use Rattle.its_migrate.specs.Precopying.{with_track}
use Rattle.its_migrate.proofs.Left.{went_copied}
use Rattle.its_migrate.proofs.Moving.{goes_layout, goes_count, stamps_again}
use Rattle.its_migrate.proofs.precopying.machine_from.Goals as goal

pub new-requires-clause-translators : goal.new-requires-clause-translators
new-requires-clause-translators c =
    c.desc.ensures.translators ∙ goes_count (setup c.args.machine.now) (state_of_parts (with_track c.args.track c.args.parts.now)) c.requires.of
    c.in_ok-next.next c.in_ok-next.ensures.next

pub new-requires-clause-apart : goal.new-requires-clause-apart
new-requires-clause-apart c =
    let m = c.args.machine.now in
    stamps_again (setup m) (setup_from c.desc.result.now c.in_ok-next.next) (sym (sym c.desc.ensures.translators
    ∙ new-requires-clause-translators c)) (ap (λ l. l.stamp_last) c.desc.ensures.limits) (has_stamps m)

pub new-requires-clause-layout : goal.new-requires-clause-layout
new-requires-clause-layout c =
    goes_layout (setup c.args.machine.now) (state_of_parts (with_track c.args.track c.args.parts.now)) c.requires.of
    c.in_ok-next.next c.in_ok-next.ensures.next ∙ sym c.desc.ensures.layout

pub returns : goal.returns
returns c = λ r same.
    let p = c.in_ok-next.next in
    let e = c.in_ok-next-2.ensures in
    let kept = c.desc.ensures.desc in
    went_copied c.args.machine.now r (c.args.parts.now, c.args.track) c.requires same c.in_ok-next-2.next c.in_ok-next-2.root p
    c.in_ok-next.count c.in_ok-next.ensures.next c.in_ok-next.ensures.count e.of
    (e.setup ∙ ap (λ (d : Desc). setup_from d p) kept) (e.desc ∙ ap (λ (d : Desc). kept_of d) kept) e.view
