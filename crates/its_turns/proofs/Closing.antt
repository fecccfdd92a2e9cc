-- Where the root alone is out and holds nothing, each part is at home, as it is after all that the root has seen.
use Rattle.std.proofs.Common.{◌≡◌, ◌≢◌, ℕ, suc, ◌-◌, ◌*◌, List, [], sym, ◌∙◌, subst, arith, ⊎_elim}
use mathlib.Core.Option.{some, some-injective}
use mathlib.Core.Logic.{dite}
use native.Mathlib.Decide.{ℕ_discrete}
use lib.ListN.{get_elem?}
use Rattle.atomic_table.specs.Table.{Me, Final, Seen}
use Rattle.its_types.specs.declared.machine.Part.{Part}
use Rattle.its_types.specs.declared.machine.Word.{Word}
use Rattle.its_plain.specs.History.{after}
use Rattle.its_plain.specs.declared.call.Entry.{Entry}
use Rattle.its_steps.specs.Parts.{Setup, Stands, Right, IsOfMachine, index_of, part_count}
use Rattle.its_steps.specs.Contents.{Content}
use Rattle.its_steps.specs.declared.standing.Standing.TheVariants.{Pass}
use Rattle.its_steps.specs.World.{View, World}
use Rattle.its_steps.specs.Good.{Holds, turn_of}
use Rattle.its_steps.proofs.Machines.{of_machine}
use Rattle.its_steps.proofs.Steps.{same_turn}
use Rattle.its_turns.proofs.Homes.{home_value, inside}
use Rattle.its_turns.proofs.Looking.{reads_last}
use Rattle.its_turns.specs.Contents.{content_of, IsFit}
use Rattle.its_turns.specs.Rule.{Kept, world_of}
use Rattle.its_turns.specs.Told.{IsLone}
use Rattle.its_turns.specs.declared.value.Value.{Value}

module _ (s : Setup) (slots id : ℕ) (me : Me Value View) (passes : me.0.standing ≡ Pass) where
  pub record IsLast (p : Part) (x : Value) : Type 0 where
    pub content : Content
    pub content_is : content_of x ≡ some content
    pub fit : IsFit s x
    pub machine : IsOfMachine s (after s.start me.0.seen)
    pub right : Right s me.0.last (after s.start me.0.seen) p content

  -- something stands there, as it is in the end
  pub stands_last : (words : List ℕ) (xs : List Value) → Final (Seen (Kept s) id me.0) words xs → IsLone me.0 → me.0.held ≡ [] → (p : Part) → Stands s p
      → (x : Value) × (get_elem? xs (8 * index_of s p) ≡ some x) × IsLast p x
  stands_last words xs end lone bare p st =
      let t = end.0 in let kp = end.1.0 in let at = end.1.1 in
      let w : World = world_of s t in
      let r = reads_last s slots id me passes t kp at lone in
      let k : ℕ = index_of s p in
      let own : (n : ℕ) → turn_of s w.turns p ≡ suc n → ⊥ = λ n e. ⊎_elim (λ (z : (n ≡ me.0.number) × Holds p me.0.held). subst (Holds p) bare z.1)
      (λ (z : (n ≢ me.0.number) × (turn_of s w.turns p ≡ suc n)). z.0 (r.2 p n st e ∙ sym lone.0))
      (same_turn s kp.history w kp.good id me.0 at passes p n st e) in
      let free : turn_of s w.turns p ≡ 0 = dite (ℕ_discrete (turn_of s w.turns p) 0) (λ e. e)
      (λ ne. absurd (own (turn_of s w.turns p - 1) (omega (arith, ne)))) in
      let home = kp.good.parts.home p st free in
      let hv = home_value t.homes (part_count s) k home.content (inside s p st) home.slot in
      let right : Right s w.word (after s.start kp.history) p home.content = home.right in (
        hv.0,
        end.4 (8 * k) hv.0 hv.1,
        record {
          content = home.content;
          content_is = hv.2;
          fit = kp.fit (8 * k) hv.0 hv.1;
          machine = of_machine s kp.good.history.sound me.0.seen;
          right = subst (λ (y : Word × List Entry). Right s y.0 (after s.start y.1) p home.content) (λ d. (sym r.0 d, sym r.1 d)) right;
        },
      )

  -- and so is what is found there
  pub closes : (words : List ℕ) (xs : List Value) → Final (Seen (Kept s) id me.0) words xs → IsLone me.0 → me.0.held ≡ [] → (p : Part) (x : Value) → Stands s p
      → get_elem? xs (8 * index_of s p) ≡ some x → IsLast p x
  closes words xs end lone bare p x st there = let z = stands_last words xs end lone bare p st in
      subst (IsLast p) (some-injective z.0 x (sym z.1 ∙ there)) z.2
