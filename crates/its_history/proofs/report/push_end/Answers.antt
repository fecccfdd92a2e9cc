use Rattle.std.proofs.Common.{◌≡◌, ◌∙◌, ◌++◌, List, ℕ, codes, sym, ap, subst}
use Rattle.std.specs.Prelude.{OnOk}
use Rattle.std.specs.String.{string_bytes}
use Rattle.its_history.specs.Report.{end_text}
use Rattle.its_history.proofs.report.push_end.Goals as goal

pub returns-in-Copied : goal.returns-in-Copied
unfolding end_text
returns-in-Copied c =
    subst (λ (t : List ℕ). OnOk c.push_both.result (string_bytes c.push_both.new.out ≡ string_bytes c.args.out.now ++ t))
    (ap (λ (p : List ℕ). codes "migrated copied " ++ p) c.as_str.ensures ∙ sym (ap end_text c.in-Copied.is)) c.push_both.ensures
