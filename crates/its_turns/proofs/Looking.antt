-- Loads of the word keep the rule of the table.
use Rattle.std.proofs.Common.{◌≡◌, ◌≢◌, ℕ, suc, ◌+◌, ◌*◌, ◌^◌, ◌<◌, ◌||◌, ◌&&◌, not, nat_lt, true, false, List, [], ◌∷◌, set, get_or}
use Rattle.std.proofs.Common.{refl, ap, sym, ◌∙◌, subst, arith, div-add-mod', inl, inr, ne_eqb, lt-ltb}
use Rattle.std.specs.List.{AllByRecursion}
use mathlib.Core.Option.{none, some}
use mathlib.Core.Logic.{dite}
use native.Mathlib.Decide.{ℕ_discrete}
use lib.ListN.{get_elem?}
use lib.Seq.{set-get_or}
use Rattle.atomic_table.specs.Table.{Me, step, keeps, stepped, Allows}
use Rattle.its_types.specs.declared.machine.Part.{Part}
use Rattle.its_types.specs.declared.machine.Word.{Word}
use Rattle.its_plain.specs.History.{IsLegal, after}
use Rattle.its_plain.specs.declared.call.Entry.{Entry}
use Rattle.its_steps.specs.Parts.{Setup, Stands, IsOfMachine}
use Rattle.its_steps.specs.declared.standing.Standing.TheVariants.{Pass}
use Rattle.its_steps.specs.World.{View, World, loaded}
use Rattle.its_steps.specs.Good.{Ended, IsEnded, AreDistinct, IsWhole, IsHeld, IsPass, IsWithin, turn_of}
use Rattle.its_steps.specs.MayCommit.{IsRight}
use Rattle.its_steps.proofs.Lists.{prefix_length, all_weaker}
use Rattle.its_steps.proofs.Machines.{of_machine}
use Rattle.its_steps.proofs.Words.{keeps_load}
use Rattle.its_steps.proofs.Passes.{knows}
use Rattle.its_steps.proofs.Steps.{pass}
use Rattle.its_turns.proofs.Homes.{St}
use Rattle.its_turns.specs.Rule.{Kept, world_of}
use Rattle.its_turns.specs.Told.{Looks, IsLastOrLater, looking, read_by, IsLone, is_joined, are_joined, KnowsOthers}
use Rattle.its_turns.specs.Words.{unpacked, packing_of}
use Rattle.its_turns.specs.declared.value.Value.{Value}
use Rattle.its_turns.specs.declared.word.Packing.{Packing}
use Rattle.its_turns.specs.declared.word.Packing.TheVariants.{Place40, Place56}

unpacked_same : (p : Packing) (a b : ℕ) → unpacked p a ≡ unpacked p b → a ≡ b
unpacked_same Place40 a b e = sym (div-add-mod' a (2 ^ 40)) ∙ (ap (λ (w : Word). w.stamp * 2 ^ 40 + w.place) e ∙ div-add-mod' b (2 ^ 40))
unpacked_same Place56 a b e = sym (div-add-mod' a (2 ^ 56)) ∙ (ap (λ (w : Word). w.stamp * 2 ^ 56 + w.place) e ∙ div-add-mod' b (2 ^ 56))

-- ---- the passes that were joined

not_joined : (n : ℕ) (es : Ended) → ¬ IsEnded n es → is_joined n es ≡ false
not_joined n [] never = refl
not_joined n (x ∷ es) never = λ d. ne_eqb n x.0 (λ e. never (inl (sym e))) d || not_joined n es (λ z. never (inr z)) d

joined_once : (h : List Entry) (made : ℕ) (es : Ended) → AreDistinct es → AllByRecursion (IsWhole h made) es → ¬ IsEnded 0 es → are_joined made es ≡ true
joined_once h made [] distinct whole others = refl
joined_once h made (x ∷ es) distinct whole others =
    let no_root : x.0 ≢ 0 = λ e. others (inl e) in
    let some_number : nat_lt 0 x.0 ≡ true = lt-ltb 0 x.0 (omega (arith, no_root)) in
    let given : nat_lt x.0 made ≡ true = lt-ltb x.0 made whole.0.0 in
    λ d. (some_number d && given d) && (not (not_joined x.0 es distinct.0 d) && joined_once h made es distinct.1 whole.1 (λ z. others (inr z)) d)

-- ---- loads

module _ (s : Setup) (slots id : ℕ) (me : Me Value View) (passes : me.0.standing ≡ Pass) where
  module _ (t : St) (kp : Kept s t) (at : get_elem? t.views id ≡ some me.0) where
    abbrev h : List Entry
    h = kp.history

    abbrev w : World
    w = world_of s t

    abbrev here : Word
    here = unpacked (packing_of s.limits) (get_or t.words 0 0)

    pub is_pass : IsPass s h w.word w.turns w.slots kp.good.seat kp.good.root id me.0
    is_pass = pass s h w kp.good id me.0 at passes

    -- the pass reads it as the machine has packed it
    pub reads : here ≡ read_by me.0 (get_or t.words 0 0)
    reads = ap (λ (x : Setup). unpacked (packing_of x.limits) (get_or t.words 0 0)) (sym is_pass.setup)

    -- the root, where it is alone, has read the word
    pub reads_last : IsLone me.0 → (me.0.last ≡ here) × (me.0.seen ≡ h) × ((p : Part) (n : ℕ) → Stands s p → turn_of s w.turns p ≡ suc n → n ≡ 0)
    reads_last a = let k = knows s h w kp.good id me.0 at passes a.0 in (k.last a.1, k.seen a.1, k.turns a.1)

    knows_others : me.0.number ≡ 0 → KnowsOthers me.0 h
    knows_others is_root = let k = knows s h w kp.good id me.0 at passes is_root in
        record { given = k.given; whole = k.whole; joined = joined_once h me.0.root.made me.0.root.ended k.distinct k.whole k.out }

    -- a pass that looks has seen the whole history
    pub sees : Looks me.0 here (loaded me.0 here h)
    sees = record {
      same = refl;
      longer = is_pass.knows.seen;
      told = is_pass.knows.told;
      legal = subst (λ (x : Setup). IsLegal x.start h) (sym is_pass.setup) kp.good.history.legal;
      mine = is_pass.knows.mine;
      place = kp.good.history.place;
      within = subst (λ (x : Setup). IsWithin x here) (sym is_pass.setup) kp.good.history.within;
      machine = subst (λ (x : Setup). IsOfMachine x (after x.start h)) (sym is_pass.setup) (of_machine s kp.good.history.sound h);
      right = subst (λ (x : Setup). AllByRecursion (IsRight x here (after x.start h)) me.0.held) (sym is_pass.setup)
          (all_weaker (IsHeld s here (after s.start h) w.turns w.slots me.0.number) (IsRight s here (after s.start h)) me.0.held
          (λ x y. y.right) is_pass.holds.held);
      still = λ a. sym (reads_last a).1;
      others = knows_others;
    }

    -- a step that leaves the word as it is, and after which the pass has looked
    pub looks_in : (n : ℕ) → n ≡ get_or t.words 0 0 → Kept s (stepped t 0 n id me.1 (loaded me.0 here h) keeps)
    looks_in n same = subst (λ (ws : List ℕ). Kept s record { words = ws; homes = t.homes; views = set t.views id (loaded me.0 here h) })
        (sym (ap (set t.words 0) same ∙ set-get_or t.words 0 0))
        record { history = h; good = keeps_load s h w kp.good id me.0 at passes; wide = kp.wide; deep = kp.deep; out = kp.out; fit = kp.fit }

    pub last_or_later : IsLastOrLater me.0 here
    last_or_later differ = let place : ℕ = here.place in (
      dite (ℕ_discrete me.0.last.place place) (λ e. absurd (differ (sym (is_pass.knows.last e))))
          (λ other. omega (arith, is_pass.knows.place, prefix_length me.0.seen h is_pass.knows.seen, kp.good.history.place, other)),
      λ a. differ (sym (reads_last a).0),
    )

    pub later_word : (first : ℕ) → get_or t.words 0 0 ≢ first → unpacked (packing_of s.limits) first ≡ me.0.last → (me.0.last.place < here.place) × ¬ IsLone me.0
    later_word first ne is = last_or_later (λ e. ne (unpacked_same (packing_of s.limits) (get_or t.words 0 0) first (e ∙ sym is)))

  abbrev looked : (t : St) → Kept s t → View
  looked t kp = loaded me.0 (unpacked (packing_of s.limits) (get_or t.words 0 0)) kp.history

  pub allows_look : Allows (Kept s) slots id me 0 (λ n. n) (looking (step slots 0 0 0 none) me)
  allows_look t kp deep at small = (
    looked t kp,
    keeps,
    tt,
    looks_in t kp at (get_or t.words 0 0) refl,
    (refl, subst (λ (w : Word). Looks me.0 w (looked t kp)) (reads t kp at) (sees t kp at), subst (IsLastOrLater me.0) (reads t kp at) (last_or_later t kp at)),
  )
