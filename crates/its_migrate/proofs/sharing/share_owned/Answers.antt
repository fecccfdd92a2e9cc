use Rattle.std.proofs.Common.{ap, sym, subst, length, ◌∙◌}
use Rattle.its_plain.specs.Described.{IsFirstState}
use Rattle.its_plain.specs.Plain.{Plain}
use Rattle.its_steps.specs.Parts.{Setup}
use Rattle.its_migrate.proofs.Fresh.{first_layout, first_count, first_stamps}
use Rattle.its_migrate.proofs.sharing.share_owned.Goals as goal

pub new-requires-clause-layout : goal.new-requires-clause-layout
new-requires-clause-layout c =
    ap (λ (u : Plain). u.layout) c.into_parts-parts.ensures.state ∙ first_layout c.args.desc.now c.args.owned c.requires.first

pub new-requires-clause-translators : goal.new-requires-clause-translators
new-requires-clause-translators c =
    sym (ap (λ (u : Plain). length u.translators) c.into_parts-parts.ensures.state ∙ first_count c.args.desc.now c.args.owned c.requires.first)

pub new-requires-clause-apart : goal.new-requires-clause-apart
new-requires-clause-apart c =
    let d = c.args.desc.now in
    first_stamps d c.into_parts-parts.result c.requires.description.some_translator c.requires.description.most_translators
    (sym (new-requires-clause-translators c)) c.requires.stamps_of_two

pub returns-clause-first : goal.returns-clause-first
returns-clause-first c =
    let d = c.args.desc.now in let e = c.in_ok-machine.ensures in
    record {
      start = subst (IsFirstState d) (sym (ap (λ (s : Setup). s.start) e.setup ∙ c.into_parts-parts.ensures.state)) c.requires.first;
      limits = ap (λ (s : Setup). s.limits) e.setup;
      shards = ap (λ (s : Setup). s.shards) e.setup;
      desc = e.desc;
      of = e.of;
      view = e.view;
    }

pub returns-clause-start : goal.returns-clause-start
returns-clause-start c = ap (λ (s : Setup). s.start) c.in_ok-machine.ensures.setup ∙ c.into_parts-parts.ensures.state
