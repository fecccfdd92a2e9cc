use Rattle.std.proofs.Common.{◌≡◌, ◌<◌, ℕ, List, length, get_or, refl, sym, ap, subst, ◌∙◌}
use Rattle.its_types.specs.declared.ids.Addr.{Addr}
use Rattle.its_plain.specs.Machine.{HasTablesFor, described_bases}
use Rattle.its_plain.specs.declared.desc.LpiTables.{LpiTables}
use Rattle.lpi_config.specs.Conf.{Conf}
use Rattle.lpi_config.specs.Configurations.{zeros}
use Rattle.owned_machine.specs.Start.{IsFirstOf, idle_pend}
use Rattle.owned_machine.proofs.Started.{described_first, off_first}
use Rattle.owned_machine.proofs.make.first_conf.Goals as goal

pub returns-in_ok-bytes-in-Described : goal.returns-in_ok-bytes-in-Described
returns-in_ok-bytes-in-Described c =
    let s = c.args.shape.now in
    let memory = c.args.memory.now in
    let v : ℕ = c.args.vcpu in
    let z : Addr = record { 0 = 0 } in
    let config = c.in-Described.config in
    let pending = c.in-Described.pending in
    let many : length pending ≡ s.vcpus = subst (λ (t : LpiTables). HasTablesFor s.vcpus t) c.in-Described.is c.requires.tables in
    let lt : v < length pending = subst (λ (n : ℕ). v < n) (sym many) c.requires.vcpu in
    let is : c.described-bases.result ≡ described_bases config (get_or pending v z) =
    c.described-bases.ensures ∙ ap (λ (xs : List Addr). described_bases config (get_or xs c.from.result z)) c.as_slice.ensures
    ∙ ap (λ (k : ℕ). described_bases config (get_or pending k z)) c.from.ensures
    in
    let loaded = c.in_ok-bytes-in-Described in
    let conf : Conf = record { config = loaded.bytes; bases = c.described-bases.result } in
    subst (λ (x : Conf). IsFirstOf s memory c.args.tables.now v x (idle_pend s x)) (sym c.on.ensures)
    (subst (λ (t : LpiTables). IsFirstOf s memory t v conf (idle_pend s conf)) (sym c.in-Described.is)
    (described_first s memory config pending v z loaded.bytes c.described-bases.result lt loaded.ensures.bits loaded.ensures.bytes is))

pub returns-in-Registers : goal.returns-in-Registers
returns-in-Registers c =
    let s = c.args.shape.now in
    let conf : Conf = record { config = zeros s.lpi_bits; bases = c.off.result } in
    subst (λ (x : Conf). IsFirstOf s c.args.memory.now c.args.tables.now c.args.vcpu x (idle_pend s x)) (sym c.off-in-Registers.ensures)
    (subst (λ (t : LpiTables). IsFirstOf s c.args.memory.now t c.args.vcpu conf (idle_pend s conf)) (sym c.in-Registers.is)
    (off_first s c.args.memory.now c.in-Registers.field-0 c.args.vcpu (zeros s.lpi_bits) c.off.result c.requires.vcpu refl c.off.ensures))
