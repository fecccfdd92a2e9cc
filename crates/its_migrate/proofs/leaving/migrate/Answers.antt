use Rattle.std.proofs.Common.{sym, ◌∙◌, ap}
use Rattle.its_plain.specs.declared.desc.Desc.{Desc}
use Rattle.its_turns.specs.Machines.{setup}
use Rattle.its_turns.specs.Opening.{setup_from, kept_of}
use Rattle.its_turns.proofs.Stamps.{has_stamps}
use Rattle.its_migrate.proofs.Moving.{went_on, stamps_again}
use Rattle.its_migrate.proofs.leaving.migrate.Goals as goal

pub new-requires-clause-layout : goal.new-requires-clause-layout
new-requires-clause-layout c = c.in-Ok.ensures.layout ∙ sym c.desc.ensures.layout

pub new-requires-clause-translators : goal.new-requires-clause-translators
new-requires-clause-translators c = c.desc.ensures.translators ∙ c.in-Ok.ensures.translators

pub new-requires-clause-apart : goal.new-requires-clause-apart
new-requires-clause-apart c = stamps_again (setup c.args.machine) (setup_from c.desc.result.now c.in-Ok.parts) (sym c.in-Ok.ensures.translators)
    (ap (λ l. l.stamp_last) c.desc.ensures.limits) (has_stamps c.args.machine)

pub returns-in-Ok-new : goal.returns-in-Ok-new
returns-in-Ok-new c =
    let e = c.in-Ok-new.ensures in
    let same = c.desc.ensures.desc in
    let are = c.in-Ok.ensures.moved in
    went_on c.args.machine c.in-Ok-new.new.0 c.args.root c.in-Ok-new.new.1 c.in-Ok.parts are.0 are.1 e.of
    (e.setup ∙ ap (λ (d : Desc). setup_from d c.in-Ok.parts) same) (e.desc ∙ ap (λ (d : Desc). kept_of d) same) e.view
