-- Tries of a turn, and turns given back, keep the rule of the table.
use Rattle.std.proofs.Common.{◌≡◌, ◌≢◌, ℕ, suc, ◌+◌, ◌-◌, ◌*◌, eqb, List, [], ◌∷◌, set, get_or, refl, ap, sym, ◌∙◌, subst, arith, length-set}
use Rattle.std.proofs.Common.{get_or-set_same, ⊎_elim}
use mathlib.Core.Option.{none, some, some-injective, some-ne-none}
use mathlib.Core.Logic.{dite}
use native.Mathlib.Decide.{ℕ_discrete}
use lib.ListN.{get_elem?}
use lib.Seq.{set-get_or}
use prog.Atomic.{either}
use Rattle.atomic_table.specs.Table.{Me, step, Act, keeps, takes, gives, stepped, carried_after, Valid, Allows}
use Rattle.atomic_table.proofs.Lists.{set_here, set_else, exchanged}
use Rattle.its_types.specs.declared.machine.Part.{Part}
use Rattle.its_steps.specs.Parts.{Setup, Stands, index_of, part_count}
use Rattle.its_steps.specs.Contents.{Content, Held}
use Rattle.its_steps.specs.declared.standing.Standing.TheVariants.{Pass}
use Rattle.its_steps.specs.World.{View, World, took, missed, out}
use Rattle.its_steps.specs.Good.{Good, Holds, turn_of}
use Rattle.its_steps.proofs.Machines.{of_machine}
use Rattle.its_steps.proofs.Passes.{turns as turns_held}
use Rattle.its_steps.proofs.Steps.{pass}
use Rattle.its_steps.proofs.Together.{takes as takes_part, gives as gives_part}
use Rattle.its_steps.proofs.Words.{keeps_miss}
use Rattle.its_turns.proofs.Homes.{St, turn_word, turns_long, home_value, fit_set, inside, word_of, turns_after, in_homes, world_after, turn_other, slot_other}
use Rattle.its_turns.proofs.Looking.{reads_last}
use Rattle.its_turns.specs.Contents.{content_of, IsFit, held_before}
use Rattle.its_turns.specs.Rule.{Kept, world_of}
use Rattle.its_turns.specs.Told.{HasStood, Gets, Misses, trying, released, releasing}
use Rattle.its_turns.specs.Words.{turns_in}
use Rattle.its_turns.specs.declared.value.Value.{Value}

module _ (s : Setup) (slots id : ℕ) (me : Me Value View) (passes : me.0.standing ≡ Pass) (p : Part) (st : Stands s p) where
  abbrev k : ℕ
  k = index_of s p

  -- the word of the part's turn
  abbrev i : ℕ
  i = turn_word k

  abbrev Tried : ℕ → Me Value View → Type 0
  Tried n m' = (n ≡ 0 → Gets p me m') × (n ≢ 0 → Misses p me n m')

  got_turn : (t : St) (kp : Kept s t) (at : get_elem? t.views id ≡ some me.0) → get_or t.words i 0 ≡ 0
      → (v : View) × (a : Act Value) × Valid t.homes me.1 a × Kept s (stepped t i (suc me.0.number) id me.1 v a)
      × Tried (get_or t.words i 0) (v, carried_after me.1 a)
  got_turn t kp at free =
      let w : World = world_of s t in
      let free' : turn_of s w.turns p ≡ 0 = word_of s p st t ∙ free in
      let home = kp.good.parts.home p st free' in
      let hv = home_value t.homes (part_count s) k home.content (inside s p st) home.slot in
      let v' : View = took me.0 p home.content in
      let fits = pass s kp.history w kp.good id me.0 at passes in
      let own = sym fits.setup in (
        v',
        takes (8 * k) hv.0,
        hv.1,
        record {
          history = kp.history;
          good = subst (Good s kp.history) (sym (world_after s p st t kp id (suc me.0.number) none v'))
              (takes_part s kp.history w kp.good id me.0 at passes p home.content st free' home.slot);
          wide = omega (arith, kp.wide, length-set t.words i (suc me.0.number));
          deep = omega (arith, kp.deep, length-set t.homes (8 * k) none);
          out = λ j n e. dite (ℕ_discrete j k)
              (λ same. ap (λ (x : ℕ). get_elem? (set t.homes (8 * k) none) (8 * x)) same ∙ set_here t.homes (8 * k) none (in_homes s p st t kp))
              (λ other. set_else t.homes (8 * k) (8 * j) none (slot_other s p st j other) ∙ kp.out j n (turn_other s p st t kp (suc me.0.number) j n other e));
          fit = fit_set s t.homes (8 * k) none (λ x e. absurd (some-ne-none x (sym e))) kp.fit;
        },
        (
          (λ _. record {
            value = hv.0;
            content = home.content;
            content_is = hv.2;
            fit = subst (λ (x : Setup). IsFit x hv.0) own (kp.fit (8 * k) hv.0 hv.1);
            view = refl;
            hand = ap (λ (x : Setup). (let l : List (ℕ × Value) = (8 * index_of x p, hv.0) ∷ me.1 in l)) own;
            stood = subst (λ (x : Setup). HasStood x p home.content) own
                (record { history = kp.history; word = w.word; machine = of_machine s kp.good.history.sound kp.history; right = home.right });
          }),
          (λ ne. absurd (ne free)),
        ),
      )

  missed_turn : (t : St) (kp : Kept s t) (at : get_elem? t.views id ≡ some me.0) → get_or t.words i 0 ≢ 0
      → (v : View) × (a : Act Value) × Valid t.homes me.1 a × Kept s (stepped t i (get_or t.words i 0) id me.1 v a)
      × Tried (get_or t.words i 0) (v, carried_after me.1 a)
  missed_turn t kp at held =
      let w : World = world_of s t in
      let n : ℕ = get_or t.words i 0 in
      let v' : View = missed me.0 p (n - 1) in
      let turn : turn_of s w.turns p ≡ suc (n - 1) = word_of s p st t ∙ omega (arith, held) in
      let held_by = turns_held s kp.history w kp.good id me.0 at passes p (n - 1) st turn in (
        v',
        keeps,
        tt,
        subst (λ (ws : List ℕ). Kept s record { words = ws; homes = t.homes; views = set t.views id v' }) (sym (set-get_or t.words i 0))
            record {
              history = kp.history;
              good = keeps_miss s kp.history w kp.good id me.0 at passes p (n - 1);
              wide = kp.wide;
              deep = kp.deep;
              out = kp.out;
              fit = kp.fit;
            },
        (
          (λ e. absurd (held e)),
          (λ _. record {
            view = refl;
            hand = refl;
            small = held_by.0;
            another = λ lacks. ⊎_elim (λ (z : (n - 1 ≡ me.0.number) × Holds p me.0.held). absurd (lacks z.1))
                (λ (z : n - 1 ≢ me.0.number). (z, λ a. z ((reads_last s slots id me passes t kp at a).2 p (n - 1) st turn ∙ sym a.0)))
                held_by.1;
          }),
        ),
      )

  allows_try_here : Allows (Kept s) slots id me i (λ n. either (eqb n 0) (suc me.0.number) n) Tried
  allows_try_here t kp deep at small =
      let n : ℕ = get_or t.words i 0 in
      exchanged n 0 (suc me.0.number) (λ (x : ℕ). (v : View) × (a : Act Value) × Valid t.homes me.1 a × Kept s (stepped t i x id me.1 v a)
      × Tried n (v, carried_after me.1 a))
      (λ (free : n ≡ 0). got_turn t kp at free) (λ (held : n ≢ 0). missed_turn t kp at held)

  pub allows_try : (j number : ℕ) → j ≡ i → me.0.number + 1 ≡ number → Allows (Kept s) slots id me j (λ n. either (eqb n 0) number n)
      (trying p (step slots j 0 number none) me)
  allows_try j number is more =
      let more' : suc me.0.number ≡ number = omega (arith, more) in
      subst (λ (z : ℕ × ℕ). Allows (Kept s) slots id me z.0 (λ n. either (eqb n 0) z.1 n) Tried) (λ d. (sym is d, more' d)) allows_try_here

  -- the value goes home with the store that frees the turn
  put_home : (c : Content) (x : Value) (before : List Held) (carried : List (ℕ × Value)) → content_of x ≡ some c → IsFit s x → me.0.held ≡ out p c ∷ before
      → me.1 ≡ (8 * k, x) ∷ carried
      → (t : St) → Kept s t → get_elem? t.views id ≡ some me.0 → Kept s (stepped t i 0 id me.1 (released me.0) gives)
  put_home c x before carried is fit owes has t kp at =
      let w : World = world_of s t in
      let v' : View = released me.0 in
      let left : record me.0 { held = before } ≡ v' = λ d. record me.0 { held = ap (λ (l : List Held). held_before l) (sym owes) d } in
      subst (λ (cs : List (ℕ × Value)). Kept s (stepped t i 0 id cs v' gives)) (sym has)
      (let worlds : world_of s record { words = set t.words i 0; homes = set t.homes (8 * k) (some x); views = set t.views id v' }
      ≡ record w { turns = set w.turns k 0; slots = set w.slots k (some c); views = set t.views id v' } =
      world_after s p st t kp id 0 (some x) v' ∙ ap (λ o. record w { turns = set w.turns k 0; slots = set w.slots k o; views = set t.views id v' }) is in
      let given = gives_part s kp.history w kp.good id me.0 at passes p c [] before owes in
      record {
        history = kp.history;
        good = subst (Good s kp.history) (sym worlds)
            (subst (λ (v : View). Good s kp.history record w { turns = set w.turns k 0; slots = set w.slots k (some c); views = set t.views id v }) left given);
        wide = omega (arith, kp.wide, length-set t.words i 0);
        deep = omega (arith, kp.deep, length-set t.homes (8 * k) (some x));
        out = λ j n e. dite (ℕ_discrete j k)
            (λ same. absurd (let z : get_or (turns_in (set t.words i 0) (part_count s)) j 0 ≡ 0 = ap (λ (ts : List ℕ). get_or ts j 0)
            (turns_after s p st t kp 0)
            ∙ (ap (λ (q : ℕ). get_or (set w.turns k 0) q 0) same ∙ get_or-set_same w.turns k 0 0
            (omega (arith, inside s p st, turns_long t.words (part_count s)))) in omega (arith, z, e)))
            (λ other. set_else t.homes (8 * k) (8 * j) (some x) (slot_other s p st j other) ∙ kp.out j n (turn_other s p st t kp 0 j n other e));
        fit = fit_set s t.homes (8 * k) (some x) (λ y e. subst (IsFit s) (some-injective x y e) fit) kp.fit;
      })

  pub allows_release : (j : ℕ) (c : Content) (x : Value) (before : List Held) (carried : List (ℕ × Value)) → j ≡ i → content_of x ≡ some c → IsFit s x
      → me.0.held ≡ out p c ∷ before → me.1 ≡ (8 * k, x) ∷ carried
      → Allows (Kept s) slots id me j (λ _. 0) (λ _. releasing (step slots j 0 0 none) me 0)
  allows_release j c x before carried is content fit owes has =
      subst (λ (z : ℕ). Allows (Kept s) slots id me z (λ _. 0) (λ _. releasing (step slots z 0 0 none) me 0)) (sym is)
      (λ t kp deep at small. (released me.0, gives, tt, put_home c x before carried content fit owes has t kp at, (refl, refl)))
