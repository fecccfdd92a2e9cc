-- The good world: what holds between any two steps.
use Rattle.std.specs.Prelude.{◌≡◌, ◌⊎◌, ℕ, suc, ◌<◌, ◌≤◌, ◌^◌, Bool, true, false, List, [], ◌∷◌, length, slice_index}
use Rattle.std.specs.List.{AllByRecursion}
use mathlib.Core.List.{IsPrefix}
use mathlib.Core.Option.{Option, none, some}
use lib.ListN.{get_elem?}
use Rattle.its_types.specs.declared.machine.Part.{Part}
use Rattle.its_types.specs.declared.machine.Word.{Word}
use Rattle.its_plain.specs.History.{IsLegal, after, placed}
use Rattle.its_plain.specs.Plain.{Plain}
use Rattle.its_plain.specs.Sound.{IsSound}
use Rattle.its_plain.specs.declared.call.Entry.{Entry}
use Rattle.its_steps.specs.Contents.{Content, Held}
use Rattle.its_steps.specs.Parts.{Setup, Stands, index_of, part_count, translator_count, stamp_of, Right}
use Rattle.its_steps.specs.World.{Placed, RootView, View, World}
use Rattle.its_steps.specs.declared.standing.Standing.{Standing}
use Rattle.its_steps.specs.declared.standing.Standing.TheVariants.{Pass, Note}

-- ---- parts

abbrev pub Holds : Part → List Held → Type 0
Holds p [] = ⊥
Holds p (x ∷ xs) = (x.part ≡ p) ⊎ Holds p xs

-- no part is held twice
abbrev pub Apart : List Held → Type 0
Apart [] = Unit {0}
Apart (x ∷ xs) = (¬ Holds x.part xs) × Apart xs

abbrev pub turn_of : Setup → List ℕ → Part → ℕ
turn_of s turns p = slice_index turns (index_of s p)

-- what stands in the slot of a part that is held
abbrev pub slot_of : Bool → Content → Option Content
slot_of true owed = none
slot_of false owed = some owed

-- a pass of this number holds the part rightly, in the state u
pub record IsHeld (s : Setup) (word : Word) (u : Plain) (turns : List ℕ) (slots : List (Option Content)) (number : ℕ) (x : Held) : Type 0 where
  pub stands : Stands s x.part
  pub turn : turn_of s turns x.part ≡ suc number
  pub slot : get_elem? slots (index_of s x.part) ≡ some (slot_of x.out x.owed)
  pub right : Right s word u x.part x.owed

-- a part that is free stands in its slot
pub record IsHome (s : Setup) (word : Word) (u : Plain) (slots : List (Option Content)) (p : Part) : Type 0 where
  pub content : Content
  pub slot : get_elem? slots (index_of s p) ≡ some (some content)
  pub right : Right s word u p content

-- ---- numbers

abbrev pub Ended : Type 0
Ended = List (ℕ × Placed)

-- the pass of this number was joined
abbrev pub IsEnded : ℕ → Ended → Type 0
IsEnded n [] = ⊥
IsEnded n (x ∷ xs) = (x.0 ≡ n) ⊎ IsEnded n xs

-- none was joined twice
abbrev pub AreDistinct : Ended → Type 0
AreDistinct [] = Unit {0}
AreDistinct (x ∷ xs) = (¬ IsEnded x.0 xs) × AreDistinct xs

-- a number that was given, and all its calls
abbrev pub IsWhole : List Entry → ℕ → ℕ × Placed → Type 0
IsWhole h made x = (x.0 < made) × (x.1 ≡ placed x.0 0 h)

-- ---- views

-- what holds of each view that is of this
abbrev pub Each : List View → Standing → (ℕ → View → Type 0) → Type 0
Each views standing P = (i : ℕ) (v : View) → get_elem? views i ≡ some v → v.standing ≡ standing → P i v

-- a pass is at index i, of which P holds
pub record Seated (views : List View) (i : ℕ) (P : View → Type 0) : Type 0 where
  pub view : View
  pub at : get_elem? views i ≡ some view
  pub passes : view.standing ≡ Pass
  pub is : P view

abbrev pub IsNumber : ℕ → View → Type 0
IsNumber n v = v.number ≡ n

abbrev pub IsOwner : ℕ → Part → View → Type 0
IsOwner n p v = (v.number ≡ n) × Holds p v.held

abbrev pub HasRead : Word → View → Type 0
HasRead word v = v.last ≡ word

abbrev pub IsRoot : RootView → View → Type 0
IsRoot root v = (v.number ≡ 0) × (v.root ≡ root)

-- the pass of this number sits at index i: the number was given, and its pass is out
pub record Sits (seat : ℕ → ℕ) (root : RootView) (i number : ℕ) : Type 0 where
  pub seat_is : seat number ≡ i
  pub given : number < root.made
  pub present : ¬ IsEnded number root.ended

-- what the pass of this number has seen and was told are beginnings of the history, what it calls its own are its calls, and the
-- word that it read is as old as what it has seen
pub record Knows (h : List Entry) (word : Word) (number : ℕ) (sees hears : List Entry) (own : Placed) (read : Word) : Type 0 where
  pub seen : IsPrefix sees h
  pub told : IsPrefix hears h
  pub mine : own ≡ placed number 0 h
  pub place : read.place ≡ length sees
  pub last : read.place ≡ word.place → read ≡ word

-- the pass of this number holds parts rightly, none twice
pub record AreHeld (s : Setup) (word : Word) (u : Plain) (turns : List ℕ) (slots : List (Option Content)) (number : ℕ) (xs : List Held) : Type 0 where
  pub apart : Apart xs
  pub held : AllByRecursion (IsHeld s word u turns slots number) xs

-- what the pass at index i knows is true. `seat` tells at which index each number is
pub record IsPass (s : Setup) (h : List Entry) (word : Word) (turns : List ℕ) (slots : List (Option Content)) (seat : ℕ → ℕ) (root : RootView) (i : ℕ)
    (v : View) : Type 0 where
  pub setup : v.setup ≡ s
  pub sits : Sits seat root i v.number
  pub knows : Knows h word v.number v.seen v.told v.mine v.last
  pub holds : AreHeld s word (after s.start h) turns slots v.number v.held

pub record IsNote (s : Setup) (h : List Entry) (v : View) : Type 0 where
  pub setup : v.setup ≡ s
  pub seen : IsPrefix v.seen h

-- ---- the world

pub record IsWithin (s : Setup) (word : Word) : Type 0 where
  pub place : word.place ≤ s.limits.place_last
  pub stamps : (its : ℕ) → its < translator_count s → stamp_of s word its ≤ s.limits.stamp_last

-- the history is the plain machine's, and as long as the word says
pub record IsHistory (s : Setup) (h : List Entry) (word : Word) : Type 0 where
  pub sound : IsSound s.start
  pub legal : IsLegal s.start h
  pub place : length h ≡ word.place
  pub within : IsWithin s word

-- each number that was given is at one index or was joined; the root is never joined, and knows who was
pub record AreNumbered (h : List Entry) (word : Word) (views : List View) (seat : ℕ → ℕ) (root : RootView) : Type 0 where
  pub bound : root.made ≤ 2 ^ 32
  pub first : Seated views (seat 0) (IsRoot root)
  pub each : (n : ℕ) → n < root.made → Seated views (seat n) (IsNumber n) ⊎ IsEnded n root.ended
  pub distinct : AreDistinct root.ended
  pub whole : AllByRecursion (IsWhole h root.made) root.ended
  -- no other pass made a call
  pub calls : AllByRecursion (λ e. e.pass < root.made) h
  -- some pass has read the word as it is
  pub latest : (n : ℕ) × (n < root.made) × Seated views (seat n) (HasRead word)

-- there is one turn and one slot for each part
pub record AreWide (s : Setup) (turns : List ℕ) (slots : List (Option Content)) : Type 0 where
  pub each_turn : length turns ≡ part_count s
  pub each_slot : length slots ≡ part_count s

-- each part is free and in its slot, or a pass that has its turn holds it
pub record AreShared (s : Setup) (word : Word) (u : Plain) (turns : List ℕ) (slots : List (Option Content)) (views : List View) (seat : ℕ → ℕ) : Type 0 where
  pub wide : AreWide s turns slots
  pub home : (p : Part) → Stands s p → turn_of s turns p ≡ 0 → IsHome s word u slots p
  pub taken : (p : Part) (n : ℕ) → Stands s p → turn_of s turns p ≡ suc n → Seated views (seat n) (IsOwner n p)

pub record Good (s : Setup) (h : List Entry) (w : World) : Type 0 where
  pub history : IsHistory s h w.word
  -- at which index each number is, and what the root knows of all
  pub seat : ℕ → ℕ
  pub root : RootView
  pub numbers : AreNumbered h w.word w.views seat root
  pub views : Each w.views Pass (IsPass s h w.word w.turns w.slots seat root)
  pub notes : Each w.views Note (λ _. IsNote s h)
  pub parts : AreShared s w.word (after s.start h) w.turns w.slots w.views seat
