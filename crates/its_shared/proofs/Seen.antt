-- From what each step tells to what is seen of the state.
use Rattle.std.proofs.Common.{◌≡◌, ℕ, List, [], ◌∷◌, length, Option, Some, None, Result, Ok, Err, refl, ap, sym, ◌∙◌, subst}
use Rattle.std.specs.Prelude.{slice_get, unwrap_or}
use Rattle.std.specs.Option.{option_map}
use Rattle.std.specs.List.{AllByRecursion}
use Rattle.std.proofs.lemmas.Option.{get_or_from_slice_get, unwrap_or-slice_get}
use Rattle.its_types.specs.declared.machine.Part.{Part}
use Rattle.its_types.specs.declared.machine.Placed.{Placed}
use Rattle.its_types.specs.declared.machine.Word.{Word}
use Rattle.its_plain.specs.History.{after, IsLegal}
use Rattle.its_plain.specs.Plain.{Plain, Translator, Redistributor, PendState, ConfState, conf_of, pend_of}
use Rattle.its_plain.specs.Plain.{no_translator, no_redistributor, maps_of, redistributor}
use Rattle.its_plain.specs.declared.call.Entry.{Entry}
use Rattle.its_steps.specs.Contents.{Content, Held}
use Rattle.its_steps.specs.MayCommit.{IsRight}
use Rattle.its_steps.specs.Parts.{IsOfMachine, Right, Setup}
use Rattle.its_steps.specs.World.{View, Tries, took, lost_to}
use Rattle.its_turns.specs.Calls.{GoesOn, got_all}
use Rattle.its_turns.specs.Contents.{held_before}
use Rattle.its_turns.specs.Steps.{IsBusy}
use Rattle.its_turns.specs.Told.{Looks, IsLone, released}
use Rattle.its_turns.specs.declared.turns.Busy.{Busy}
use Rattle.its_turns.proofs.Telling.{looked_held, goes_first, goes_took, goes_missed, goes_released, goes_looked, lone_on, stays_from, one_busy}
use Rattle.its_shared.specs.Seeing.{HasSeen, Sees, Shows}
use Rattle.its_shared.specs.Knowing.{Known}
use Rattle.its_shared.specs.declared.unseen.Unseen.{Unseen}
use Rattle.its_shared.specs.declared.unseen.Unseen.TheVariants as unseen

-- ---- the word was read, with parts in hand

module _ (v w x z : View) (t : Tries) (on : GoesOn v t w) (same : IsLone v → w.seen ≡ v.seen) (word : Word) (looks : Looks w word x)
    (seen_is : z.seen ≡ x.seen) where
  setup_is : w.setup ≡ v.setup
  setup_is = ap (λ (u : View). u.setup) on.same

  pub saw : GoesOn v t z → z.held ≡ v.held → HasSeen v word.place z
  saw back held = record {
    stays = stays_from v z t back held;
    legal = subst (λ s. IsLegal s.start z.seen) setup_is (subst (λ (h : List Entry). IsLegal w.setup.start h) (sym seen_is) looks.legal);
    place_is = ap length seen_is ∙ looks.place;
    still = λ lone. seen_is ∙ looks.still (lone_on v w t on lone) ∙ same lone;
  }

  -- what is in hand is what the state has
  pub right_now : AllByRecursion (IsRight v.setup word (after v.setup.start z.seen)) w.held
  right_now = subst (λ s. AllByRecursion (IsRight s word (after s.start z.seen)) w.held) setup_is
      (subst (λ (h : List Entry). AllByRecursion (IsRight w.setup word (after w.setup.start h)) w.held) (sym seen_is) looks.right)

-- ---- one part

module _ (v w x z : View) (p : Part) (c : Content) (took_is : w ≡ took v p c) (word : Word) (looks : Looks w word x) (home : z ≡ released x) where
  abbrev t : Tries
  t = got_all (p ∷ []) v.tries

  on : GoesOn v t w
  on = goes_took v v v.tries (goes_first v) w p c took_is

  seen_is : z.seen ≡ x.seen
  seen_is = ap (λ (u : View). u.seen) home

  pub one_home : z.held ≡ v.held
  one_home = ap (λ (u : View). u.held) home
      ∙ ap (λ (l : List Held). held_before l) (looked_held w x word looks ∙ ap (λ (u : View). u.held) took_is)

  pub saw_one : HasSeen v word.place z
  saw_one = saw v w x z t on (λ _. ap (λ (u : View). u.seen) took_is) word looks seen_is
      (goes_released v x t (goes_looked v w t on x word looks) z home) one_home

  -- the state is one of the machine
  pub one_machine : IsOfMachine v.setup (after v.setup.start z.seen)
  one_machine = subst (λ (s : Setup). IsOfMachine s (after s.start z.seen)) (ap (λ (u : View). u.setup) took_is)
      (subst (λ (h : List Entry). IsOfMachine w.setup (after w.setup.start h)) (sym seen_is) looks.machine)

  pub one_right : Right v.setup word (after v.setup.start z.seen) p c
  one_right = (subst (λ (u : View). AllByRecursion (IsRight v.setup word (after v.setup.start z.seen)) u.held) took_is
      (right_now v w x z t on (λ _. ap (λ (u : View). u.seen) took_is) word looks seen_is)).0

-- ---- two parts

module _ (v u w x z : View) (p q : Part) (c d : Content) (first : u ≡ took v p c) (second : w ≡ took u q d) (word : Word) (looks : Looks w word x)
    (home : z ≡ released (released x)) where
  abbrev both : Tries
  both = got_all (q ∷ p ∷ []) v.tries

  on_both : GoesOn v both w
  on_both = goes_took v u (got_all (p ∷ []) v.tries) (goes_took v v v.tries (goes_first v) u p c first) w q d second

  both_held : w.held ≡ (took (took v p c) q d).held
  both_held = ap (λ (y : View). y.held) second ∙ ap (λ (y : View). (took y q d).held) first

  seen_both : z.seen ≡ x.seen
  seen_both = ap (λ (y : View). y.seen) home

  same_both : IsLone v → w.seen ≡ v.seen
  same_both lone = ap (λ (y : View). y.seen) second ∙ ap (λ (y : View). y.seen) first

  pub two_home : z.held ≡ v.held
  two_home = ap (λ (y : View). y.held) home ∙ ap (λ (l : List Held). held_before (held_before l)) (looked_held w x word looks ∙ both_held)

  pub saw_two : HasSeen v word.place z
  saw_two = saw v w x z both on_both same_both word looks seen_both
      (goes_released v (released x) both (goes_released v x both (goes_looked v w both on_both x word looks) (released x) refl) z home) two_home

  both_right : AllByRecursion (IsRight v.setup word (after v.setup.start z.seen)) (took (took v p c) q d).held
  both_right = subst (AllByRecursion (IsRight v.setup word (after v.setup.start z.seen))) both_held
      (right_now v w x z both on_both same_both word looks seen_both)

  pub first_right : Right v.setup word (after v.setup.start z.seen) p c
  first_right = both_right.1.0

  pub second_right : Right v.setup word (after v.setup.start z.seen) q d
  second_right = both_right.0

-- ---- another pass has a part

pub busy_one : {T : Type 0} (wants : Type 0) (is : Plain → T → Type 0) (v x : View) (p : Part) (b : Busy) → IsBusy v p b x
    → Sees wants is v x (Err unseen.Busy)
busy_one wants is v x p b busy = let was = (one_busy v p b x busy).1 in (was.stays, was.out)

busy_held : (v x : View) (p : Part) (b : Busy) → IsBusy v p b x → x.held ≡ v.held
busy_held v x p b busy = ap (λ (u : View). u.held) busy.view

-- the first was got and given back
module _ (v u x z : View) (p q : Part) (c : Content) (first : u ≡ took v p c) (b : Busy) (busy : IsBusy u q b x) (home : z ≡ released x) where
  on_first : GoesOn v (got_all (p ∷ []) v.tries) u
  on_first = goes_took v v v.tries (goes_first v) u p c first

  pub second_busy_home : z.held ≡ v.held
  second_busy_home = ap (λ (y : View). y.held) home
      ∙ ap (λ (l : List Held). held_before l) (ap (λ (y : View). y.held) busy.view ∙ ap (λ (y : View). y.held) first)

  pub busy_second : {T : Type 0} (wants : Type 0) (is : Plain → T → Type 0) → Sees wants is v z (Err unseen.Busy)
  busy_second wants is =
      let s : Tries = got_all (p ∷ []) v.tries in (
        stays_from v z (lost_to s q b.holder)
            (goes_released v x (lost_to s q b.holder) (goes_missed v u s on_first x q b.holder busy.view) z home) second_busy_home,
        λ lone. busy.out (lone_on v u s on_first lone),
      )

-- ---- what the state has

pub maps_are : (u : Plain) (its : ℕ) (t : Translator) → slice_get u.translators its ≡ Some t → maps_of u its ≡ t.maps
maps_are u its t is = ap (λ (x : Translator). x.maps) (get_or_from_slice_get u.translators its t no_translator is)

pend_there : (o : Option Redistributor) (s : PendState) → option_map pend_of o ≡ Some s → (d : Redistributor) → pend_of (unwrap_or o d) ≡ s
pend_there None s is d = absurd cc
pend_there (Some r) s is d = cc

pub pend_is : (u : Plain) (vcpu : ℕ) (s : PendState) → option_map pend_of (slice_get u.redistributors vcpu) ≡ Some s → pend_of (redistributor u vcpu) ≡ s
pend_is u vcpu s is =
    ap pend_of (sym (unwrap_or-slice_get u.redistributors vcpu no_redistributor))
    ∙ pend_there (slice_get u.redistributors vcpu) s is no_redistributor

conf_there : (o : Option Redistributor) (s : ConfState) → option_map conf_of o ≡ Some s → (d : Redistributor) → conf_of (unwrap_or o d) ≡ s
conf_there None s is d = absurd cc
conf_there (Some r) s is d = cc

pub conf_is : (u : Plain) (vcpu : ℕ) (s : ConfState) → option_map conf_of (slice_get u.redistributors vcpu) ≡ Some s → conf_of (redistributor u vcpu) ≡ s
conf_is u vcpu s is =
    ap conf_of (sym (unwrap_or-slice_get u.redistributors vcpu no_redistributor))
    ∙ conf_there (slice_get u.redistributors vcpu) s is no_redistributor

-- ---- what is told of it

pub sees_more : {T : Type 0} (wants : Type 0) (is also : Plain → T → Type 0) (v w : View) (r : Result (Placed T) Unseen)
    → ((u : Plain) (x : T) → is u x → also u x) → Sees wants is v w r → Sees wants also v w r
sees_more wants is also v w (Ok p) h s = (s.0, h (after v.setup.start w.seen) p.reply s.1)
sees_more wants is also v w (Err unseen.Busy) h s = s
sees_more wants is also v w (Err unseen.NoMemory) h s = s

-- of what a pass knows
pub shows_of : {O : Type 0} (wants : Type 0) (is : Plain → O → O → Type 0) (k l m n : Known) (code place place' : ℕ) (out out' : O) → k ≡ m → l ≡ n
    → Shows wants is k l code place place' out out' → Shows wants is m n code place place' out out'
shows_of wants is k l m n code place place' out out' old new s =
    subst (λ (x : Known). Shows wants is x n code place place' out out') old (subst (λ (y : Known). Shows wants is k y code place place' out out') new s)

pub same_some : {A : Type 0} (x y : A) → Some x ≡ Some y → x ≡ y
same_some x y is = cc
