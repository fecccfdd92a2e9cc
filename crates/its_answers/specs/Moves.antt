-- The line that tells how a leg ended that another follows.
use Rattle.std.specs.Prelude.{ℕ, List, ◌++◌, codes, Option, Some, None}
use Rattle.std.specs.Fmt.{decimal}
use Rattle.its_plain.specs.Plain.{Plain}
use Rattle.its_plain.specs.Saved.{moved_count}
use Rattle.event_script.specs.declared.script.Move.{Move}
use Rattle.event_script.specs.declared.script.Move.TheVariants.{Migrate, Precopy}

-- how many pages are copied before it, of a machine in this state
abbrev pub pages_of : Move → Plain → Option ℕ
pages_of Migrate u = None
pages_of Precopy u = Some (moved_count u)

-- what a report tells of it
abbrev pub move_line : Option ℕ → List ℕ
move_line None = codes "migrated\n"
move_line (Some pages) = codes "migrated copied " ++ decimal pages ++ codes "\n"
