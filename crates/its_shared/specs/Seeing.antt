-- What a pass is told of the machine's state, which it sees without a call of the history.
use Rattle.std.specs.Prelude.{◌≡◌, ◌≢◌, ◌⊎◌, ℕ, List, length, map, min, Some, Result, Ok, Err}
use Rattle.std.specs.List.{AllByRecursion}
use Rattle.its_types.specs.declared.machine.Placed.{Placed}
use Rattle.its_types.specs.declared.machine.Word.{Word}
use Rattle.its_plain.specs.History.{after, IsLegal}
use Rattle.its_plain.specs.Plain.{Plain, maps_of}
use Rattle.its_plain.specs.Saved.{words_of}
use Rattle.its_steps.specs.MayCommit.{IsRight}
use Rattle.its_steps.specs.Parts.{IsOfMachine}
use Rattle.its_steps.specs.World.{View}
use Rattle.its_turns.specs.Calls.{Stays}
use Rattle.its_turns.specs.Told.{IsLone}
use Rattle.its_types.specs.Maps.{Maps, collection_of}
use Rattle.its_types.specs.declared.ids.Vcpu.{Vcpu}
use Rattle.its_types.specs.declared.translation.Event.{Event}
use Rattle.its_numbers.specs.Codes as codes
use Rattle.its_numbers.specs.Lists.{HasFirst, HasFirstOf, SameFrom, SameRest, stretch_out}
use Rattle.its_numbers.specs.declared.lists.StretchOut.{StretchOut}
use Rattle.step_views.specs.Destinations.{destination, of_target}
use Rattle.step_views.specs.declared.destination.Destination.{Destination}
use Rattle.table_save.specs.Stretches.{stretches_of}
use Rattle.its_shared.specs.Knowing.{Known}
use Rattle.its_shared.specs.declared.unseen.Unseen.{Unseen}
use Rattle.its_shared.specs.declared.unseen.Unseen.TheVariants.{Busy, NoMemory}

-- It saw the state that the history leaves so far, which has so many calls, and made no call of its own. Alone it saw no more than it had seen
pub record HasSeen (v : View) (place : ℕ) (w : View) : Type 0 where
  pub stays : Stays v w
  pub legal : IsLegal v.setup.start w.seen
  pub place_is : length w.seen ≡ place
  pub still : IsLone v → w.seen ≡ v.seen

-- It didn't see it: another pass has a part that is needed; or there was no memory for it, where it wants some
abbrev pub SeesNothing : Type 0 → View → View → Unseen → Type 0
SeesNothing wants v w Busy = Stays v w × (¬ IsLone v)
SeesNothing wants v w NoMemory = Stays v w × wants

-- what is told is so of that state
abbrev pub Sees : {T : Type 0} → Type 0 → (Plain → T → Type 0) → View → View → Result (Placed T) Unseen → Type 0
Sees wants is v w (Ok p) = HasSeen v p.place w × is (after v.setup.start w.seen) p.reply
Sees wants is v w (Err e) = SeesNothing wants v w e

-- ---- with parts in hand

-- it saw the state so, which is one of the machine and has in those parts what they owe
pub record HasSeenBeside (v : View) (place : ℕ) (w : View) : Type 0 where
  pub seen : HasSeen v place w
  pub word : Word
  pub machine : IsOfMachine v.setup (after v.setup.start w.seen)
  pub right : AllByRecursion (IsRight v.setup word (after v.setup.start w.seen)) v.held

-- what is told is so of that state
abbrev pub SeesBeside : {T : Type 0} → Type 0 → (Plain → T → Type 0) → View → View → Result (Placed T) Unseen → Type 0
SeesBeside wants is v w (Ok p) = HasSeenBeside v p.place w × is (after v.setup.start w.seen) p.reply
SeesBeside wants is v w (Err e) = SeesNothing wants v w e

-- ---- as a caller in another language is told it

-- the number of what kept it from being seen
abbrev pub unseen_code : Unseen → ℕ
unseen_code Busy = codes.busy
unseen_code NoMemory = codes.no_memory

-- of what was seen, or wasn't
abbrev pub seen_code : {T : Type 0} → Result (Placed T) Unseen → ℕ
seen_code (Ok p) = codes.done
seen_code (Err e) = unseen_code e

abbrev pub seen_place : {T : Type 0} → Result (Placed T) Unseen → ℕ → ℕ
seen_place (Ok p) place = p.place
seen_place (Err e) place = place

abbrev pub seen_out : {T : Type 0} → Result (Placed T) Unseen → T → T
seen_out (Ok p) out = p.reply
seen_out (Err e) out = out

-- The number, the place, and what a list or a struct has afterwards. Where it is done, this is so of the state that the history up to the place leaves. Else
-- place, list and struct are as they were
pub record Shows {O : Type 0} (wants : Type 0) (is : Plain → O → O → Type 0) (k l : Known) (code place place' : ℕ) (out out' : O) : Type 0 where
  pub known : (code ≡ codes.done) ⊎ ((code ≡ codes.busy) ⊎ (code ≡ codes.no_memory))
  pub stays : Stays k.view l.view
  pub done : code ≡ codes.done → HasSeen k.view place' l.view × is (after k.view.setup.start l.view.seen) out out'
  pub busy : code ≡ codes.busy → ¬ IsLone k.view
  pub no_memory : code ≡ codes.no_memory → wants
  pub same : code ≢ codes.done → (place' ≡ place) × (out' ≡ out)

-- ---- lists, each with a count

-- a list of numbers has the first of these, as many as it takes; its rest stays, and the count is how many there are
pub record ListsNumbers (numbers before after : List ℕ) (count : ℕ) : Type 0 where
  pub told : HasFirst numbers after
  pub rest : SameFrom (length numbers) before after
  pub same_length : length after ≡ length before
  pub count_is : count ≡ length numbers

-- the same of other items
pub record ListsAll {A : Type 0} (items before after : List A) (count : ℕ) : Type 0 where
  pub told : HasFirstOf items after
  pub rest : SameRest (length items) before after
  pub same_length : length after ≡ length before
  pub count_is : count ≡ length items

-- and where the count is how many of them the list has got
pub record ListsFirst {A : Type 0} (items before after : List A) (count : ℕ) : Type 0 where
  pub told : HasFirstOf items after
  pub rest : SameRest (length items) before after
  pub same_length : length after ≡ length before
  pub count_is : count ≡ min (length before) (length items)

-- what a caller's list and count have, once this of the state was told in them
abbrev pub numbers_told : (Plain → List ℕ) → Plain → List ℕ × ℕ → List ℕ × ℕ → Type 0
numbers_told says u before after = ListsNumbers (says u) before.0 after.0 after.1

abbrev pub all_told : {A : Type 0} → (Plain → List A) → Plain → List A × ℕ → List A × ℕ → Type 0
all_told says u before after = ListsAll (says u) before.0 after.0 after.1

abbrev pub first_told : {A : Type 0} → (Plain → List A) → Plain → List A × ℕ → List A × ℕ → Type 0
first_told says u before after = ListsFirst (says u) before.0 after.0 after.1

-- ---- what is told

-- where the maps of a translator lead an event: to the target of a mapped collection, or nowhere
abbrev pub Leads : Maps → ℕ → ℕ → Result (Event × Vcpu) Destination → Type 0
Leads m dev ev (Ok x) =
    (collection_of m x.0.icid.0 ≡ Some x.1) × ((u : Plain) (its : ℕ) → maps_of u its ≡ m → destination u its dev ev ≡ of_target u x.0 (Some x.1))
Leads m dev ev (Err d) = (u : Plain) (its : ℕ) → maps_of u its ≡ m → destination u its dev ev ≡ d

-- the tables that a save writes
abbrev pub written : Plain → List StretchOut
written u = map stretch_out (stretches_of (words_of u))
