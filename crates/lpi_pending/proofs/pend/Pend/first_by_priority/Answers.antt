use Rattle.std.proofs.Common.{ℕ, List, sym, ap, ◌∙◌}
use Rattle.std.specs.Option.{option_map}
use Rattle.its_types.specs.Lpis.{first_by_priority}
use Rattle.its_types.specs.Ranges.{lpi_count}
use Rattle.lpi_config.specs.Configurations.{Configuration}
use Rattle.lpi_pending.specs.PendingSets.{as_intid}
use Rattle.lpi_pending.proofs.Zeros.{none_first}
use Rattle.lpi_pending.proofs.pend.Pend.first_by_priority.Goals as goal

pub returns-in_err-config-clause-found : goal.returns-in_err-config-clause-found
returns-in_err-config-clause-found c =
    let lpis : List ℕ = c.args.self.now.pending.lpis in
    let none = ap (λ (k : Configuration). first_by_priority k.bytes c.args.mask lpis) c.in_err-config.ensures.1 ∙ none_first (lpi_count c.args.conf.now.config.lpi_bits) c.args.mask lpis in
    c.from_residual.ensures ∙ sym (ap (option_map as_intid) none)
