-- How many lines of a kind there may be, in words.
use Rattle.std.specs.Prelude.{ℕ, ◌-◌, ◌||◌, if◌then◌else◌, List, ◌++◌, codes}
use Rattle.std.specs.Str.{bytes_eq}
use Rattle.event_script.specs.declared.draft.TheConstants.{MOST_CALLS, MOST_LEGS, MOST_PHASES, MOST_REQUESTERS, MOST_THREADS}
use Rattle.its_explain.specs.Numbers.{enclosed}

unfoldable pub migrations_text : List ℕ
migrations_text =
    enclosed (codes "a script has at most ") MOST_LEGS (codes " legs, ") ++ enclosed (codes "so at most ") (MOST_LEGS - 1) (codes " migrations\n")

-- by the first word of the line that is one too many; a call's line begins with another
unfoldable pub most_text : List ℕ → List ℕ
most_text first =
    if bytes_eq (codes "window") first then enclosed (codes "a machine has at most ") 16 (codes " windows\n")
    else (if bytes_eq (codes "requester") first then enclosed (codes "a description has at most ") MOST_REQUESTERS (codes " lines `requester`\n")
    else (if bytes_eq (codes "phase") first then enclosed (codes "a leg has at most ") MOST_PHASES (codes " phases\n")
    else (if bytes_eq (codes "thread") first then enclosed (codes "a phase has at most ") MOST_THREADS (codes " threads\n")
    else (if bytes_eq (codes "migrate") first || bytes_eq (codes "precopy") first then migrations_text
    else enclosed (codes "a thread has at most ") MOST_CALLS (codes " calls\n")))))
