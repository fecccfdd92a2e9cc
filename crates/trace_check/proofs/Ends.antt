-- The last line of a leg before another, as it is said and as it is.
use Rattle.std.proofs.Common.{◌≡◌, ◌++◌, ◌∙◌, ℕ, Bool, true, false, List, Option, Some, Ok, codes, sym, ap, subst}
use Rattle.std.specs.Fmt.{decimal}
use Rattle.std.proofs.lemmas.List.{append_cancel_left}
use Rattle.its_plain.specs.Plain.{Plain}
use Rattle.its_plain.specs.Saved.{moved_count}
use Rattle.its_history.specs.ReadBack.{EndsBefore}
use Rattle.its_history.specs.Report.{end_text}
use Rattle.its_history.specs.Reports.{moved_end}
use Rattle.its_history.specs.declared.trace.End.{End}
use Rattle.its_history.specs.declared.trace.End.TheVariants.{Migrated, Copied}
use Rattle.trace_check.specs.Steps.{Moves, IsMigrated}

is_migrated : (e : End) → Some e ≡ Some Migrated → e ≡ Migrated
is_migrated e same = cc same

is_copied : (e : End) (pages : List ℕ) → Some e ≡ Some (Copied pages) → e ≡ Copied pages
is_copied e pages same = cc same

-- two such lines that are equal tell the same
pub same_end : (copies : Bool) (u : Plain) (e : End) → EndsBefore (Some copies) (Some e) → end_text e ≡ end_text (moved_end copies u) → e ≡ moved_end copies u
unfolding end_text
same_end false u e ends same = is_migrated e ends
same_end true u e ends same =
    let is : e ≡ Copied ends.0 = is_copied e ends.0 ends.1 in
    let texts : codes "migrated copied " ++ ends.0 ≡ codes "migrated copied " ++ decimal (moved_count u) = sym (ap end_text is) ∙ same in
    is ∙ ap Copied (append_cancel_left (codes "migrated copied ") ends.0 (decimal (moved_count u)) texts)

-- a leg ended as is said, where its last line is that of its migration
pub ends_so : (copies : Bool) (u w : Plain) (told : Option End) (said now : End) → told ≡ Some said → EndsBefore (Some copies) told
    → Moves copies (Ok now) u w → end_text said ≡ end_text now → IsMigrated copies told u w
ends_so copies u w told said now is ends moves same = record {
  is_savable = moves.0;
  now = moves.1;
  end_is = is ∙ ap (λ (e : End). Some e) (same_end copies u said (subst (EndsBefore (Some copies)) is ends) (same ∙ ap end_text moves.2));
}
