use Rattle.std.proofs.Common.{sym}
use Rattle.event_script.proofs.Lines.{said_with, tables_failed}
use Rattle.event_script.proofs.draft.Draft.script.Goals as goal

pub returns-in_err-tables : goal.returns-in_err-tables
returns-in_err-tables c =
    tables_failed c.args.self.now c.in_ok-shards.shards c.in_err-tables.field-0.0 c.from_residual-in_err-tables.result (sym c.in_ok-shards.ensures.value)
    c.in_err-tables.ensures c.from_residual-in_err-tables.ensures.1

pub returns : goal.returns
returns c =
    rw (
      c.shape.ensures,
      c.unwrap_or.ensures,
      c.default_limits.ensures,
      c.taken.ensures,
      c.taken-2.ensures,
      c.taken-3.ensures,
      c.taken-4.ensures,
      c.taken-5.ensures,
      c.taken-6.ensures,
      c.in_ok-translators.ensures,
      c.in_ok-requesters.ensures,
      c.as_slice.ensures,
    )
    (said_with c.args.self.now c.in_ok-shards.shards c.in_ok-tables.tables (sym c.in_ok-shards.ensures.value) c.in_ok-tables.ensures)
