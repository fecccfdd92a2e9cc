use Rattle.std.proofs.Common.{◌≡◌, Some, sym, ap, ◌∙◌}
use Rattle.std.specs.Prelude.{unwrap_or}
use Rattle.its_types.specs.Ranges.{lpi_count}
use Rattle.guest_windows.specs.Windows.{read_at}
use Rattle.guest_windows.proofs.Laws.{read_inside}
use Rattle.lpi_config.specs.Configurations.{Configuration}
use Rattle.lpi_config.proofs.config.Config.load.Goals as goal

pub returns-clause-bytes : goal.returns-clause-bytes
returns-clause-bytes c =
    let read = read_inside c.args.memory.now c.args.base.0 (lpi_count c.args.lpi_bits) c.in_ok-config.config.bytes c.requires.inside in
    let bits : c.args.lpi_bits ≡ c.in_ok-config.config.lpi_bits = sym (ap (λ (x : Configuration). x.lpi_bits) c.in_ok-config.ensures) in
    read ∙ ap (λ n. Some (unwrap_or (read_at c.args.memory.now c.args.base.0 (lpi_count n)) c.in_ok-config.config.bytes)) bits
    ∙ ap (λ (x : Configuration). Some x.bytes) (sym c.read_table.ensures)
