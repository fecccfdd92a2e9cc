-- Which line is named of what a translator's maps answer: that of the last call that changed it.
use Rattle.std.specs.Prelude.{◌≡◌, ◌⊎◌, ℕ, Bool, true, not, ◌&&◌, if◌then◌else◌, List, [], ◌∷◌, ◌++◌, Option, Some, None}
use Rattle.std.specs.Option.{option_map, unwrap_or}
use Rattle.call_facts.specs.declared.answers.Key.{Key}
use Rattle.its_plain.specs.Answer.{reply_of}
use Rattle.its_plain.specs.Plain.{Plain}
use Rattle.its_plain.specs.Saved.{moved}
use Rattle.its_types.specs.declared.ids.Addr.{Addr}
use Rattle.its_explain.specs.Book.{changer, writer, writes}
use Rattle.its_explain.specs.Steps.{after, changes, place_in, taken_for}
use Rattle.its_explain.specs.declared.book.Book.{Book}
use Rattle.its_explain.specs.declared.left.Next.{Next}

-- ---- what is told of a run, one after another

pub data Told : Type 0 where
  -- a call of a line is made
  made : (n : Next) → Told
  -- the machine goes on from what a migration saved
  migrated : Told

-- the state after all of it
abbrev pub ended : Plain → List Told → Plain
ended u [] = u
ended u (made n ∷ h) = ended (after u n.call) h
ended u (migrated ∷ h) = ended (moved u) h

-- ---- which line wrote the 32 bytes of an address last

abbrev pub written_now : Plain → Next → ℕ → Option ℕ → Option ℕ
written_now u n a before = if writes n.call (reply_of u n.call) a then Some n.line.number else before

-- where this line did so before all of it
abbrev pub last_writer : Plain → List Told → ℕ → Option ℕ → Option ℕ
last_writer u [] a before = before
last_writer u (made n ∷ h) a before = last_writer (after u n.call) h a (written_now u n a before)
last_writer u (migrated ∷ h) a before = last_writer (moved u) h a before

-- ---- which call changed an answer last

-- no call of it changes what a translator answers
abbrev pub leaves : Plain → List Told → ℕ → Key → Bool
leaves u [] i k = true
leaves u (made n ∷ h) i k = not (changes u n.call i k) && leaves (after u n.call) h i k
leaves u (migrated ∷ h) i k = leaves (moved u) h i k

-- by which line a call does that is made after all of it: of a step by that which wrote its command, if one did
abbrev pub line_of_place : Book → Plain → List Told → Next → Option Addr → ℕ
line_of_place b u h n None = n.line.number
line_of_place b u h n (Some addr) = unwrap_or (last_writer u h addr.0 (writer b addr.0)) n.line.number

abbrev pub line_in : Book → Plain → List Told → Next → ℕ
line_in b u h n = line_of_place b u h n (option_map place_in (taken_for (ended u h) n.call))

-- one call of it changes the answer, and no later one does
pub record IsLast (u : Plain) (h : List Told) (i : ℕ) (k : Key) (before : List Told) (n : Next) (later : List Told) : Type 0 where
  pub all : h ≡ before ++ (made n ∷ later)
  pub changed : changes (ended u before) n.call i k ≡ true
  pub left : leaves (after (ended u before) n.call) later i k ≡ true

-- the line is that of the last call that changes the answer; where none does, the one that was named before all of it
abbrev pub IsSince : Book → Plain → List Told → ℕ → Key → Option ℕ → Type 0
IsSince b u h i k line =
    ((leaves u h i k ≡ true) × (line ≡ changer b i k))
    ⊎ ((before : List Told) × (n : Next) × (later : List Told) × IsLast u h i k before n later × (line ≡ Some (line_in b u before n)))

-- ---- a run that is told, from a state and what was noted to another

pub record IsTold (b : Book) (u : Plain) (h : List Told) (c : Book) (v : Plain) : Type 0 where
  pub state : v ≡ ended u h
  pub writers : (a : ℕ) → writer c a ≡ last_writer u h a (writer b a)
  pub since : (i : ℕ) (k : Key) → IsSince b u h i k (changer c i k)

-- something was told so
abbrev pub Tells : Book → Plain → Book → Plain → Type 0
Tells b u c v = (h : List Told) × IsTold b u h c v
