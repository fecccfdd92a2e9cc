use Rattle.std.proofs.Common.{sym, inl, inr}
use Rattle.event_script.proofs.Hex.{too_few_or_many}
use Rattle.event_script.proofs.fields.few_bytes.Goals as goal

pub returns-then-count-eq0 : goal.returns-then-count-eq0
returns-then-count-eq0 c =
    sym (too_few_or_many c.args.field.now (elim c.then-count-eq0.either [ inl none ↦ inl none | inr many ↦ inr many.1 ]))
