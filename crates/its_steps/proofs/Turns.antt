-- Turns that are got and given back, and values that leave their slots and come home.
use Rattle.std.proofs.Common.{◌≡◌, ◌≢◌, ℕ, suc, ◌<◌, List, ◌∷◌, ◌++◌, length, set, get_or, refl, ap, sym, ◌∙◌, subst, inl, inr, ⊎_elim, arith, length-set}
use Rattle.std.proofs.Common.{get_or-set_other, get_or-set_same}
use Rattle.std.specs.List.{AllByRecursion}
use mathlib.Core.Option.{Option, some, some-injective}
use mathlib.Core.Logic.{dite}
use native.Mathlib.Decide.{ℕ_discrete}
use lib.ListN.{get_elem?}
use Rattle.atomic_table.proofs.Lists.{set_here, set_else}
use Rattle.its_types.specs.declared.machine.Part.{Part}
use Rattle.its_types.specs.declared.machine.Word.{Word}
use Rattle.its_plain.specs.History.{after}
use Rattle.its_plain.specs.Plain.{Plain}
use Rattle.its_plain.specs.declared.call.Entry.{Entry}
use Rattle.its_steps.specs.Contents.{Content, Held}
use Rattle.its_steps.specs.Good.{Holds, Apart, turn_of, slot_of, IsHeld, IsHome, AreHeld, AreWide, Good}
use Rattle.its_steps.specs.Laws.{TryKeeps, TakeOutKeeps, PutHomeKeeps, ReleaseKeeps}
use Rattle.its_steps.specs.Parts.{Setup, Stands, index_of, Right}
use Rattle.its_steps.specs.World.{View, World, got, kept, out}
use Rattle.its_steps.specs.declared.standing.Standing.TheVariants.{Pass}
use Rattle.its_steps.proofs.Helds.{all_change, holds_but, holds_as, apart_but, apart_as, lone}
use Rattle.its_steps.proofs.Indexes.{index_below, index_injective}
use Rattle.its_steps.proofs.Lists.{all_here, all_but, all_with}
use Rattle.its_steps.proofs.Steps.{pass, holds as holds_other, held_turn, same_turn}

-- turns and slots are as they were but at one index
record Elsewhere (k : ℕ) (turns turns' : List ℕ) (slots slots' : List (Option Content)) : Type 0 where
  turn : (j : ℕ) → j ≢ k → get_or turns' j 0 ≡ get_or turns j 0
  slot : (j : ℕ) → j ≢ k → get_elem? slots' j ≡ get_elem? slots j

module _ (s : Setup) (word : Word) (u : Plain) (k : ℕ) (turns turns' : List ℕ) (slots slots' : List (Option Content))
    (else : Elsewhere k turns turns' slots slots') where
  held_else : (n : ℕ) (x : Held) → index_of s x.part ≢ k → IsHeld s word u turns slots n x → IsHeld s word u turns' slots' n x
  held_else n x ne t = record {
    stands = t.stands;
    turn = else.turn (index_of s x.part) ne ∙ t.turn;
    slot = else.slot (index_of s x.part) ne ∙ t.slot;
    right = t.right;
  }

  home_else : (p : Part) → index_of s p ≢ k → IsHome s word u slots p → IsHome s word u slots' p
  home_else p ne t = record { content = t.content; slot = else.slot (index_of s p) ne ∙ t.slot; right = t.right }

  -- what a pass holds that has not the turn at the index
  held_off : (n : ℕ) (held : List Held) → get_or turns k 0 ≢ suc n → AllByRecursion (IsHeld s word u turns slots n) held
      → AllByRecursion (IsHeld s word u turns' slots' n) held
  held_off n held ne hs = all_change (IsHeld s word u turns slots n) (IsHeld s word u turns' slots' n) held
      (λ x _ t. held_else n x (λ e. ne (ap (λ (j : ℕ). get_or turns j 0) (sym e) ∙ t.turn)) t) hs

  -- what a pass holds beside a part
  held_beside : (n : ℕ) (p : Part) (held : List Held) → Stands s p → index_of s p ≡ k → ¬ Holds p held → AllByRecursion (IsHeld s word u turns slots n) held
      → AllByRecursion (IsHeld s word u turns' slots' n) held
  held_beside n p held st is lacks hs = all_change (IsHeld s word u turns slots n) (IsHeld s word u turns' slots' n) held
      (λ x owns t. held_else n x (λ e. lacks (subst (λ (q : Part). Holds q held) (index_injective s x.part p t.stands st (e ∙ sym is)) owns)) t) hs

module _ (s : Setup) (h : List Entry) (w : World) (good : Good s h w) (i : ℕ) (v : View) (at : get_elem? w.views i ≡ some v) (passes : v.standing ≡ Pass)
    (p : Part) (st : Stands s p) where
  abbrev u : Plain
  u = after s.start h

  abbrev k : ℕ
  k = index_of s p

  inside : k < length w.turns
  inside = omega (arith, index_below s p st, good.parts.wide.each_turn)

  in_slots : k < length w.slots
  in_slots = omega (arith, index_below s p st, good.parts.wide.each_slot)

  turn_else : (x : ℕ) → Elsewhere k w.turns (set w.turns k x) w.slots w.slots
  turn_else x = record { turn = λ j ne. get_or-set_other w.turns k j x 0 ne; slot = λ j ne. refl }

  slot_else : (x : Option Content) → Elsewhere k w.turns w.turns w.slots (set w.slots k x)
  slot_else x = record { turn = λ j ne. refl; slot = λ j ne. set_else w.slots k j x ne }

  turn_wide : (x : ℕ) → AreWide s (set w.turns k x) w.slots
  turn_wide x = record { each_turn = length-set w.turns k x ∙ good.parts.wide.each_turn; each_slot = good.parts.wide.each_slot }

  slot_wide : (x : Option Content) → AreWide s w.turns (set w.slots k x)
  slot_wide x = record { each_turn = good.parts.wide.each_turn; each_slot = length-set w.slots k x ∙ good.parts.wide.each_slot }

  -- another pass holds what it held, where it had not this turn
  pass_off : (turns' : List ℕ) (slots' : List (Option Content)) → Elsewhere k w.turns turns' w.slots slots' → (n : ℕ) (xs : List Held)
      → turn_of s w.turns p ≢ suc n → AreHeld s w.word u w.turns w.slots n xs → AreHeld s w.word u turns' slots' n xs
  pass_off turns' slots' else n xs ne g = record { apart = g.apart; held = held_off s w.word u k w.turns turns' w.slots slots' else n xs ne g.held }

  own : AreHeld s w.word u w.turns w.slots v.number v.held
  own = (pass s h w good i v at passes).holds

  -- the turn of another part is what it was
  other_turn : (x : ℕ) (q : Part) → index_of s q ≢ k → turn_of s (set w.turns k x) q ≡ turn_of s w.turns q
  other_turn x q ne = get_or-set_other w.turns k (index_of s q) x 0 ne

  -- and that of the same one is the new one
  this_turn : (x : ℕ) (q : Part) → index_of s q ≡ k → turn_of s (set w.turns k x) q ≡ x
  this_turn x q same = ap (λ (z : ℕ). get_or (set w.turns k x) z 0) same ∙ get_or-set_same w.turns k x 0 inside

  pub keeps_try : (c : Content) → turn_of s w.turns p ≡ 0 → get_elem? w.slots k ≡ some (some c) → Good s h record w {
    turns = set w.turns k (suc v.number);
    views = set w.views i (got v p c);
  }
  keeps_try c free there =
      let n : ℕ = suc v.number in
      let v' : View = got v p c in
      let home = good.parts.home p st free in
      let is : home.content ≡ c = some-injective home.content c (some-injective (some home.content) (some c) (sym home.slot ∙ there)) in
      let lacks : ¬ Holds p v.held = λ owns. absurd (omega (arith, free, held_turn s h w good i v at passes p owns)) in
      let off : (m : ℕ) → turn_of s w.turns p ≢ suc m = λ m e. absurd (omega (arith, free, e)) in
      holds_other s h w good i v at passes v'.held v'.cache v'.tries (set w.turns k n) w.slots
      record {
        apart = (lacks, own.apart);
        held = (
          record { stands = st; turn = this_turn n p refl; slot = there; right = subst (Right s w.word u p) is home.right },
          held_off s w.word u k w.turns
              (set w.turns k n) w.slots w.slots (turn_else n) v.number v.held (off v.number) own.held,
        );
      }
      (λ m xs ne g. pass_off (set w.turns k n) w.slots (turn_else n) m xs (off m) g)
      (turn_wide n)
      (λ q sq e. dite (ℕ_discrete (index_of s q) k)
      (λ same. absurd (omega (arith, sym e ∙ this_turn n q same)))
      (λ ne. home_else s w.word u k w.turns (set w.turns k n) w.slots w.slots (turn_else n) q ne (good.parts.home q sq (sym (other_turn n q ne) ∙ e))))
      (λ q m sq e. dite (ℕ_discrete (index_of s q) k)
      (λ same. inl (let is_own : suc v.number ≡ suc m = sym (this_turn n q same) ∙ e in omega (arith, is_own), inl (index_injective s p q st sq (sym same))))
      (λ ne. ⊎_elim (λ (t : (m ≡ v.number) × Holds q v.held). inl (t.0, inr t.1)) (λ t. inr t)
      (same_turn s h w good i v at passes q m sq (sym (other_turn n q ne) ∙ e))))

  module _ (c : Content) (before behind : List Held) where
    -- what it holds beside the part is right, whatever happens at the part's index
    beside : (x : Held) → x.part ≡ p → v.held ≡ before ++ x ∷ behind → (turns' : List ℕ) (slots' : List (Option Content))
        → Elsewhere k w.turns turns' w.slots slots' → AllByRecursion (IsHeld s w.word u turns' slots' v.number) (before ++ behind)
    beside x is e turns' slots' else = held_beside s w.word u k w.turns turns' w.slots slots' else v.number p (before ++ behind) st refl
        (subst (λ (q : Part). ¬ Holds q (before ++ behind)) is (lone before x behind (subst Apart e own.apart)))
        (all_but (IsHeld s w.word u w.turns w.slots v.number) before x behind (subst (AllByRecursion (IsHeld s w.word u w.turns w.slots v.number)) e own.held))

    here : (x : Held) → v.held ≡ before ++ x ∷ behind → IsHeld s w.word u w.turns w.slots v.number x
    here x e = all_here (IsHeld s w.word u w.turns w.slots v.number) before x behind
        (subst (AllByRecursion (IsHeld s w.word u w.turns w.slots v.number)) e own.held)

    -- the slot of a held part changes, and the pass knows
    reslot : (x y : Held) → x.part ≡ p → y.part ≡ p → y.owed ≡ x.owed → v.held ≡ before ++ x ∷ behind
        → Good s h record w { slots = set w.slots k (slot_of y.out y.owed); views = set w.views i (record v { held = before ++ y ∷ behind }) }
    reslot x y xp yp owed e =
        let slot : Option Content = slot_of y.out y.owed in
        let slots' : List (Option Content) = set w.slots k slot in
        let was = here x e in
        let own_turn : turn_of s w.turns p ≡ suc v.number = subst (λ (q : Part). turn_of s w.turns q ≡ suc v.number) xp was.turn in
        let same : x.part ≡ y.part = xp ∙ sym yp in
        holds_other s h w good i v at passes (before ++ y ∷ behind) v.cache v.tries w.turns slots'
        record {
          apart = apart_as before x y behind same (subst Apart e own.apart);
          held = all_with (IsHeld s w.word u w.turns slots' v.number) before y behind (beside x xp e w.turns slots' (slot_else slot))
              record {
                stands = subst (Stands s) same was.stands;
                turn = subst (λ (q : Part). turn_of s w.turns q ≡ suc v.number) same was.turn;
                slot = ap (λ (q : Part). get_elem? slots' (index_of s q)) yp ∙ set_here w.slots k slot in_slots;
                right = subst (λ (q : Part). Right s w.word u q y.owed) same (subst (λ (d : Content). Right s w.word u x.part d) (sym owed) was.right);
              };
        }
        (λ n xs ne g. pass_off w.turns slots' (slot_else slot) n xs (λ t. ne (omega (arith, own_turn, t))) g)
        (slot_wide slot)
        (λ q sq t. home_else s w.word u k w.turns w.turns w.slots slots' (slot_else slot) q
        (λ is. absurd (omega (arith, t, ap (λ (z : ℕ). get_or w.turns z 0) is, own_turn))) (good.parts.home q sq t))
        (λ q n sq t. ⊎_elim (λ (z : (n ≡ v.number) × Holds q v.held). inl (z.0, holds_as q before x y behind same (subst (Holds q) e z.1))) (λ z. inr z)
        (same_turn s h w good i v at passes q n sq t))

    keeps_release_here : v.held ≡ before ++ kept p c ∷ behind
        → Good s h record w { turns = set w.turns k 0; views = set w.views i (record v { held = before ++ behind }) }
    keeps_release_here e =
        let was = here (kept p c) e in
        let turns' : List ℕ = set w.turns k 0 in
        holds_other s h w good i v at passes (before ++ behind) v.cache v.tries turns' w.slots
        record { apart = apart_but before (kept p c) behind (subst Apart e own.apart); held = beside (kept p c) refl e turns' w.slots (turn_else 0) }
        (λ n xs ne g. pass_off turns' w.slots (turn_else 0) n xs (λ t. ne (omega (arith, was.turn, t))) g)
        (turn_wide 0)
        (λ q sq t. dite (ℕ_discrete (index_of s q) k)
        (λ same. record {
          content = c;
          slot = ap (get_elem? w.slots) same ∙ was.slot;
          right = subst (λ (z : Part). Right s w.word u z c)
              (index_injective s p q st sq (sym same)) was.right;
        })
        (λ ne. home_else s w.word u k w.turns turns' w.slots w.slots (turn_else 0) q ne (good.parts.home q sq (sym (other_turn 0 q ne) ∙ t))))
        (λ q n sq t. dite (ℕ_discrete (index_of s q) k)
        (λ same. absurd (omega (arith, sym t ∙ this_turn 0 q same)))
        (λ ne. ⊎_elim
        (λ (z : (n ≡ v.number) × Holds q v.held). inl (
          z.0,
          ⊎_elim (λ (is : p ≡ q). absurd (ne (ap (index_of s) (sym is)))) (λ (r : Holds q (before ++ behind)).
              r) (holds_but q before (kept p c) behind (subst (Holds q) e z.1)),
        ))
        (λ z. inr z)
        (same_turn s h w good i v at passes q n sq (sym (other_turn 0 q ne) ∙ t))))

module _ (s : Setup) (h : List Entry) (w : World) (good : Good s h w) (i : ℕ) (v : View) (at : get_elem? w.views i ≡ some v) (passes : v.standing ≡ Pass) where
  -- what is held stands
  stands_there : (x : Held) (before behind : List Held) → v.held ≡ before ++ x ∷ behind → Stands s x.part
  stands_there x before behind e =
      (all_here (IsHeld s w.word (after s.start h) w.turns w.slots v.number) before x behind
      (subst (AllByRecursion (IsHeld s w.word (after s.start h) w.turns w.slots v.number)) e (pass s h w good i v at passes).holds.held)).stands

pub tries : TryKeeps
tries s h w good i v at passes p c st free there = keeps_try s h w good i v at passes p st c free there

pub takes_out : TakeOutKeeps
takes_out s h w good i v at passes p c before behind e = reslot s h w good i v at passes p (stands_there s h w good i v at passes (kept p c) before behind e) c
    before behind (kept p c) (out p c) refl refl refl e

pub puts_home : PutHomeKeeps
puts_home s h w good i v at passes p c before behind e = reslot s h w good i v at passes p (stands_there s h w good i v at passes (out p c) before behind e) c
    before behind (out p c) (kept p c) refl refl refl e

pub releases : ReleaseKeeps
releases s h w good i v at passes p c before behind e = keeps_release_here s h w good i v at passes p
    (stands_there s h w good i v at passes (kept p c) before behind e) c before behind e
