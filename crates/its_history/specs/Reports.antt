-- What the report of a script's run says of its legs.
use Rattle.std.specs.Prelude.{ℕ, Bool, true, false, List, [], ◌∷◌, length, map, get_or, drop, Option, Some}
use Rattle.std.specs.Fmt.{decimal}
use Rattle.its_plain.specs.Plain.{Plain, Redistributor}
use Rattle.its_plain.specs.History.{after}
use Rattle.its_plain.specs.Saved.{moved, moved_count}
use Rattle.its_plain.specs.Runs.{Leg}
use Rattle.its_plain.specs.declared.call.Entry.{Entry}
use Rattle.its_history.specs.Histories.{history_lines, leg_of, seat_of}
use Rattle.its_history.specs.Merged.{open_leg}
use Rattle.its_history.specs.declared.trace.End.{End}
use Rattle.its_history.specs.declared.trace.End.TheVariants.{Migrated, Copied, Done}
use Rattle.its_history.specs.declared.trace.Leg.{Leg as LegLines}

-- how many threads each phase has
abbrev pub thread_counts : Leg → List ℕ
thread_counts leg = map (λ threads. length threads) leg

abbrev pub pending_lists : Plain → List (List ℕ)
pending_lists u = map (λ (r : Redistributor). r.pending) u.redistributors

-- a leg from a state on: its history, what is pending at its end, and how it ended
abbrev pub ended : Plain → Leg → List Entry → Option End → LegLines
ended first leg h end = leg_of (thread_counts leg) h (pending_lists (after first h)) end

-- the entries of a history alone
abbrev pub cut_leg : Leg → List Entry → LegLines
cut_leg leg h = open_leg (history_lines (seat_of (thread_counts leg)) 0 h)

-- ---- migrations: a list says for each, from the first on, whether pages are copied before it; they aren't before one that it lacks

-- what the first of them does
abbrev pub copies_first : List Bool → Bool
copies_first copies = get_or copies 0 false

-- how a leg ended that a migration follows, by the state after it
abbrev pub moved_end : Bool → Plain → End
moved_end false last = Migrated
moved_end true last = Copied (decimal (moved_count last))

abbrev pub moved_leg : Plain → Leg → List Bool → List Entry → LegLines
moved_leg first leg copies h = ended first leg h (Some (moved_end (copies_first copies) (after first h)))

-- all legs of a run: a migration ended each but the last
abbrev pub reported : Plain → List Leg → List Bool → List (List Entry) → List LegLines
reported first (leg ∷ []) copies (h ∷ hs) = ended first leg h (Some Done) ∷ []
reported first (leg ∷ next ∷ legs) copies (h ∷ hs) = moved_leg first leg copies h ∷ reported (moved (after first h)) (next ∷ legs) (drop 1 copies) hs
reported first _ copies _ = []

-- the first legs, as many as there are histories: a migration ended each
abbrev pub migrated : Plain → List Leg → List Bool → List (List Entry) → List LegLines
migrated first legs copies [] = []
migrated first [] copies (h ∷ hs) = []
migrated first (leg ∷ legs) copies (h ∷ hs) = moved_leg first leg copies h ∷ migrated (moved (after first h)) legs (drop 1 copies) hs
