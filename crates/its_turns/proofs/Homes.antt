-- What stands at home in the table, and in the world that it shows.
use Rattle.std.proofs.Common.{◌≡◌, ◌≢◌, ℕ, zero, suc, ◌+◌, ◌*◌, ◌<◌, List, [], ◌∷◌, map, length, set, get_or, refl, ap, sym, ◌∙◌, subst, arith}
use Rattle.std.proofs.Common.{get_or-set_other, inl, inr}
use mathlib.Core.Option.{Option, none, some, some-injective, some-ne-none}
use lib.ListN.{get_elem?}
use lib.Seq.{map-set}
use Rattle.atomic_table.specs.Table.{State}
use Rattle.atomic_table.proofs.Lists.{at_set}
use Rattle.its_types.specs.declared.machine.Part.{Part}
use Rattle.its_steps.specs.Parts.{Setup, Stands, index_of, part_count}
use Rattle.its_steps.specs.World.{View}
use Rattle.its_steps.specs.Good.{turn_of}
use Rattle.its_steps.specs.Contents.{Content}
use Rattle.its_steps.proofs.Indexes.{index_below}
use Rattle.its_turns.proofs.Spaced.{spaced_long, spaced_at, spaced_before, spaced_set, at_place, at_item}
use Rattle.its_turns.specs.Contents.{content_of, IsFit, shelved}
use Rattle.its_turns.specs.Rule.{Kept, world_of}
use Rattle.its_turns.specs.Words.{unpacked, packing_of, spaced, turns_in, slots_in}
use Rattle.its_turns.specs.declared.value.Value.{Value}

abbrev pub St : Type 0
St = State Value View

abbrev pub turn_word : ℕ → ℕ
turn_word k = 16 * suc k

one_gap : 0 < 8
one_gap = omega arith

two_gap : 0 < 16
two_gap = omega arith

one_more : (k : ℕ) → 1 + k ≡ suc k
one_more k = omega arith

pub none_more : (k : ℕ) → 0 + k ≡ k
none_more k = omega arith

-- ---- turns

pub turns_long : (words : List ℕ) (n : ℕ) → length (turns_in words n) ≡ n
turns_long words n = spaced_long 0 16 two_gap words 1 n

pub turn_at : (words : List ℕ) (n k : ℕ) → k < n → get_or (turns_in words n) k 0 ≡ get_or words (turn_word k) 0
turn_at words n k lt = spaced_at 0 16 two_gap words 1 n k lt ∙ ap (λ (j : ℕ). get_or words (16 * j) 0) (one_more k)

pub turn_set : (words : List ℕ) (n k x : ℕ) → k < n → turn_word k < length words → turns_in (set words (turn_word k) x) n ≡ set (turns_in words n) k x
turn_set words n k x lt long =
    subst (λ (j : ℕ). turns_in (set words (16 * j) x) n ≡ set (turns_in words n) k x) (one_more k)
    (spaced_set 0 16 two_gap words 1 n k x lt (subst (λ (j : ℕ). 16 * j < length words) (sym (one_more k)) long))

pub turns_stay : (words : List ℕ) (n x : ℕ) → turns_in (set words 0 x) n ≡ turns_in words n
turns_stay words n x = spaced_before 0 16 two_gap words 0 x 1 n (omega arith)

-- ---- slots

pub slot_set : (homes : List (Option Value)) (n k : ℕ) (o : Option Value) → k < n → 8 * k < length homes → slots_in (set homes (8 * k) o) n ≡ set
    (slots_in homes n) k (shelved o)
slot_set homes n k o lt long =
    subst (λ (j : ℕ). slots_in (set homes (8 * j) o) n ≡ set (slots_in homes n) k (shelved o)) (none_more k)
    (ap (map shelved) (spaced_set none 8 one_gap homes 0 n k o lt (subst (λ (j : ℕ). 8 * j < length homes) (sym (none_more k)) long))
    ∙ map-set shelved (spaced none 8 homes 0 n) k o)

-- a content in a list of slots is that of a value
shelved_at : (os : List (Option Value)) (k : ℕ) (c : Content) → get_elem? (map shelved os) k ≡ some (some c) → (x : Value) × (get_elem? os k ≡ some (some x))
    × (content_of x ≡ some c)
shelved_at [] k c e = absurd (some-ne-none (some c) (sym e))
shelved_at (none ∷ os) zero c e = absurd (some-ne-none c (sym (some-injective none (some c) e)))
shelved_at (some x ∷ os) zero c e = (x, refl, some-injective (content_of x) (some c) e)
shelved_at (o ∷ os) (suc k) c e = shelved_at os k c e

-- what stands at home in the world stands there in the table
pub home_value : (homes : List (Option Value)) (n k : ℕ) (c : Content) → k < n → get_elem? (slots_in homes n) k ≡ some (some c) → (x : Value)
    × (get_elem? homes (8 * k) ≡ some (some x)) × (content_of x ≡ some c)
home_value homes n k c lt e =
    let z = shelved_at (spaced none 8 homes 0 n) k c e in
    let there : get_or homes (8 * k) none ≡ some z.0 =
    ap (λ (j : ℕ). get_or homes (8 * j) none) (sym (none_more k)) ∙ (sym (spaced_at none 8 one_gap homes 0 n k lt) ∙ at_item none (spaced none 8 homes 0 n) k
    (some z.0) z.1) in (
      z.0,
      at_place homes (8 * k) z.0 there,
      z.2,
    )

-- a value is fit that was so, or is new
pub fit_set : (s : Setup) (homes : List (Option Value)) (i : ℕ) (a : Option Value) → ((x : Value) → a ≡ some x → IsFit s x)
    → ((k : ℕ) (x : Value) → get_elem? homes k ≡ some (some x) → IsFit s x)
    → (k : ℕ) (x : Value) → get_elem? (set homes i a) k ≡ some (some x) → IsFit s x
fit_set s homes i a new old k x e = elim (at_set homes i k a (some x) e) [ inl t ↦ new x t.1 | inr t ↦ old k x t.1 ]

-- ---- a step on the turn of a part

module _ (s : Setup) (p : Part) (st : Stands s p) where
  abbrev pub k : ℕ
  k = index_of s p

  pub inside : k < part_count s
  inside = index_below s p st

  pub word_of : (t : St) → turn_of s (world_of s t).turns p ≡ get_or t.words (turn_word k) 0
  word_of t = turn_at t.words (part_count s) k inside

  pub turns_after : (t : St) → Kept s t → (x : ℕ) → turns_in (set t.words (turn_word k) x) (part_count s) ≡ set (world_of s t).turns k x
  turns_after t kp x = turn_set t.words (part_count s) k x inside (omega (arith, inside, kp.wide))

  pub in_homes : (t : St) → Kept s t → 8 * k < length t.homes
  in_homes t kp = omega (arith, inside, kp.deep)

  -- it changes the turn, the slot and the view
  pub world_after : (t : St) → Kept s t → (id x : ℕ) (o : Option Value) (v : View)
      → world_of s record { words = set t.words (turn_word k) x; homes = set t.homes (8 * k) o; views = set t.views id v }
      ≡ record (world_of s t) { turns = set (world_of s t).turns k x; slots = set (world_of s t).slots k (shelved o); views = set t.views id v }
  world_after t kp id x o v =
      let first : get_or (set t.words (turn_word k) x) 0 0 ≡ get_or t.words 0 0 = get_or-set_other t.words (turn_word k) 0 x 0 (λ e. absurd (omega arith)) in
      let turns = turns_after t kp x in
      let slots = slot_set t.homes (part_count s) k o inside (in_homes t kp) in
      λ d. record { word = unpacked (packing_of s.limits) (first d); turns = turns d; slots = slots d; views = set t.views id v }

  -- and no other turn
  pub turn_other : (t : St) → Kept s t → (x j n : ℕ) → j ≢ k → get_or (turns_in (set t.words (turn_word k) x) (part_count s)) j 0 ≡ suc n
      → get_or (world_of s t).turns j 0 ≡ suc n
  turn_other t kp x j n ne e = sym (ap (λ (ts : List ℕ). get_or ts j 0) (turns_after t kp x) ∙ get_or-set_other (world_of s t).turns k j x 0 ne) ∙ e

  -- nor another part's slot
  pub slot_other : (j : ℕ) → j ≢ k → 8 * j ≢ 8 * k
  slot_other j ne e = ne (omega (arith, e))
