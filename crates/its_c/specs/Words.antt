-- The words of the numbers that calls answer and tell, as docs/FORMATS.md prints them. A number that a list hasn't has the empty word.
use Rattle.std.specs.Prelude.{ℕ, ◌+◌, List, [], ◌∷◌, codes, ◌==◌, nat_lt, Bool, if◌then◌else◌, length}

-- the n-th of some words, counted from `first`
abbrev pub word_from : ℕ → List (List ℕ) → ℕ → List ℕ
word_from first [] n = []
word_from first (w ∷ ws) n = if n == first then w else word_from (first + 1) ws n

abbrev pub answers : List (List ℕ)
answers =
    codes "done" ∷ codes "no-memory" ∷ codes "outside" ∷ codes "range" ∷ codes "fault" ∷ codes "handle" ∷ codes "full"
    ∷ codes "busy" ∷ codes "spent" ∷ []

abbrev pub make_faults : List (List ℕ)
make_faults =
    codes "windows" ∷ codes "config" ∷ codes "pending" ∷ codes "bytes" ∷ codes "outside-table" ∷ codes "bad-size" ∷ codes "bad-intid" ∷ codes "past-end"
    ∷ codes "bad-target" ∷ codes "double-collection" ∷ codes "not-valid" ∷ codes "bad-collection" ∷ codes "bad-redist" ∷ codes "its-base"
    ∷ codes "requester" ∷ []

abbrev pub save_faults : List (List ℕ)
save_faults = codes "no-place" ∷ codes "outside" ∷ codes "overlap" ∷ []

-- the configuration table of one virtual processor has the word of that of all
abbrev pub regions : List (List ℕ)
regions =
    codes "devices" ∷ codes "level1" ∷ codes "page" ∷ codes "collections" ∷ codes "itt" ∷ codes "pending" ∷ codes "config" ∷ codes "config"
    ∷ codes "queue" ∷ []

abbrev pub causes : List (List ℕ)
causes = codes "delivered" ∷ codes "disabled" ∷ codes "no-device" ∷ codes "no-event" ∷ codes "no-collection" ∷ codes "lpis-off" ∷ []

abbrev pub reasons : List (List ℕ)
reasons =
    codes "unknown-command" ∷ codes "device-range" ∷ codes "size-range" ∷ codes "target-range" ∷ codes "collection-range" ∷ codes "no-device"
    ∷ codes "event-range" ∷ codes "intid-range" ∷ codes "no-event" ∷ codes "no-collection" ∷ codes "lpis-off" ∷ []

abbrev pub outcomes : List (List ℕ)
outcomes = codes "idle" ∷ codes "ran" ∷ codes "refused" ∷ codes "queue-fault" ∷ []

abbrev pub tables : List (List ℕ)
tables = codes "devices" ∷ codes "itt" ∷ []

-- the word of a number in one of the eight lists
unfoldable pub word : ℕ → ℕ → List ℕ
word list n =
    if list == 1 then word_from 0 answers n
    else (if list == 2 then word_from 1 make_faults n
    else (if list == 3 then word_from 1 save_faults n
    else (if list == 4 then word_from 1 regions n
    else (if list == 5 then word_from 0 causes n
    else (if list == 6 then word_from 1 reasons n
    else (if list == 7 then word_from 0 outcomes n
    else (if list == 8 then word_from 1 tables n else [])))))))

abbrev pub has_word : ℕ → ℕ → Bool
has_word list n = nat_lt 0 (length (word list n))
