use Rattle.std.proofs.Common.{sym, ap, ◌∙◌}
use Rattle.std.specs.Option.{option_map}
use Rattle.std.specs.Prelude.{slice_get}
use Rattle.its_plain.specs.Plain.{Plain}
use Rattle.owned_parts.specs.Owned.{translator_at}
use Rattle.owned_machine.proofs.Signalled.{none_located}
use Rattle.owned_machine.proofs.signals.located.Goals as goal

pub returns-in-None : goal.returns-in-None
returns-in-None c =
    none_located c.args.parts.now c.args.its c.args.dev.0 c.args.ev.0
    (ap (λ (u : Plain). slice_get u.translators c.args.its) (sym c.in_place.ensures.state) ∙ sym c.translator.ensures
    ∙ ap (option_map translator_at) c.in-None.is)
