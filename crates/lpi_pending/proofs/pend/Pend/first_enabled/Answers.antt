use Rattle.std.proofs.Common.{ℕ, List, sym, ap, ◌∙◌}
use Rattle.std.specs.Option.{option_map}
use Rattle.its_types.specs.Lpis.{first_enabled}
use Rattle.its_types.specs.Ranges.{lpi_count}
use Rattle.lpi_config.specs.Configurations.{Configuration}
use Rattle.lpi_pending.specs.PendingSets.{as_intid}
use Rattle.lpi_pending.proofs.Zeros.{none_enabled}
use Rattle.lpi_pending.proofs.pend.Pend.first_enabled.Goals as goal

pub returns-in_err-config-clause-found : goal.returns-in_err-config-clause-found
returns-in_err-config-clause-found c =
    let lpis : List ℕ = c.args.self.now.pending.lpis in
    let none = ap (λ (k : Configuration). first_enabled k.bytes lpis) c.in_err-config.ensures.1 ∙ none_enabled (lpi_count c.args.conf.now.config.lpi_bits) lpis in
    c.from_residual.ensures ∙ sym (ap (option_map as_intid) none)
