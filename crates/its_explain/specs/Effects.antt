-- What commands did of which no event, device or collection tells, in words.
use Rattle.std.specs.Prelude.{ℕ, ◌==◌, if◌then◌else◌, List, [], ◌++◌, codes}
use Rattle.its_command.specs.declared.command.Command.{Command}
use Rattle.its_command.specs.declared.command.Command.TheVariants as command
use Rattle.its_explain.specs.Numbers.{enclosed, numbered, counted}
use Rattle.its_explain.specs.Rereads.{all_reread_text}

-- ---- MOVALL

abbrev pub stay_text : ℕ → List ℕ
stay_text from = enclosed (codes "what is pending at processor ") from (codes " stays there")

abbrev pub none_text : ℕ → List ℕ
none_text from = enclosed (codes "no LPI is pending at processor ") from (codes ", so nothing changes")

abbrev pub go_text : ℕ → List ℕ
go_text count = if count == 1 then codes " goes" else codes " go"

unfoldable pub all_text : ℕ → ℕ → ℕ → List ℕ
all_text from to count =
    counted count (codes "pending LPI") ++ go_text count ++ numbered (codes " from processor ") from ++ numbered (codes " to processor ") to

-- from a processor, where so many LPIs were pending, to another
abbrev pub movall_text : ℕ → ℕ → ℕ → List ℕ
movall_text from to count = if from == to then stay_text from else (if count == 0 then none_text from else all_text from to count)

abbrev pub moved_text : Command → ℕ → List ℕ
moved_text (command.Movall from to) count = movall_text from to count
moved_text _ count = []

-- ---- INVALL and SYNC

abbrev pub plain_text : Command → List ℕ
plain_text (command.Invall icid) = all_reread_text icid.0
plain_text (command.Sync target) = codes "all is done already"
plain_text _ = []
