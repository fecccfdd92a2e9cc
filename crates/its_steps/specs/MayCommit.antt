-- When a pass may commit a call: whatever the parts have that it doesn't hold.
use Rattle.std.specs.Prelude.{◌≡◌, ℕ, ◌<◌, ◌≤◌, true, List, [], ◌∷◌}
use Rattle.std.specs.List.{AllByRecursion}
use Rattle.its_types.specs.declared.machine.Part.{Part}
use Rattle.its_types.specs.declared.machine.Word.{Word}
use Rattle.its_plain.specs.Answer.{answer}
use Rattle.its_plain.specs.Plain.{Plain}
use Rattle.its_steps.specs.Contents.{Content, Held}
use Rattle.its_steps.specs.Good.{Holds}
use Rattle.its_steps.specs.Parts.{Setup, Stands, IsOfMachine, translator_count, stamp_of, Right}
use Rattle.its_steps.specs.World.{word_after}
use Rattle.its_steps.specs.declared.commit.Commit.{Commit}

-- a part that is held owes what it should, in the state u
abbrev pub IsRight : Setup → Word → Plain → Held → Type 0
IsRight s word u x = Right s word u x.part x.owed

-- it is out of its slot
abbrev pub IsOut : Held → Type 0
IsOut x = x.out ≡ true

-- the same parts are held, and are out
abbrev pub AreSameParts : List Held → List Held → Type 0
AreSameParts [] [] = Unit {0}
AreSameParts (x ∷ xs) (y ∷ ys) = (x.part ≡ y.part) × (y.out ≡ true) × AreSameParts xs ys
AreSameParts [] (y ∷ ys) = ⊥
AreSameParts (x ∷ xs) [] = ⊥

-- In the state u the call has this reply. After it the parts held owe what they should, and each other part is as right as it was
pub record Answers (s : Setup) (a : Commit) (held owed : List Held) (u : Plain) : Type 0 where
  pub reply_is : a.reply ≡ (answer u a.call).0
  pub new : AllByRecursion (IsRight s (word_after a) (answer u a.call).1) owed
  pub others : (p : Part) (c : Content) → Stands s p → ¬ Holds p held → Right s a.expected u p c → Right s (word_after a) (answer u a.call).1 p c

-- A pass that holds these parts may make this commit, with other contents owed from then on
pub record MayCommit (s : Setup) (a : Commit) (held owed : List Held) : Type 0 where
  pub room : a.expected.place < s.limits.place_last
  pub stamps : (its : ℕ) → its < translator_count s → stamp_of s a.expected its ≤ s.limits.stamp_last → stamp_of s (word_after a) its ≤ s.limits.stamp_last
  pub out : AllByRecursion IsOut held
  pub same : AreSameParts held owed
  pub answers : (u : Plain) → IsOfMachine s u → AllByRecursion (IsRight s a.expected u) held → Answers s a held owed u
