-- What is known once all parts but shards were taken.
use Rattle.std.proofs.Common.{◌≡◌, ◌≤◌, ℕ, List, [], Option, Some, None, refl, ap, sym, ◌∙◌, subst}
use Rattle.std.specs.Option.{option_map}
use Rattle.its_plain.specs.History.{after}
use Rattle.its_plain.specs.Plain.{Plain}
use Rattle.its_plain.specs.declared.call.Entry.{Entry}
use Rattle.its_plain.specs.Sound.{IsSound}
use Rattle.its_plain.specs.declared.layout.Layout.{Layout}
use Rattle.lpi_pending.specs.InHand.{RedistParts}
use Rattle.owned_parts.specs.Owned.{AreAllInHand, translator_of, translator_at, one_or_two, state_of_parts, state_in_place}
use Rattle.dirty_log.specs.declared.tracked.Tracked.{Tracked}
use Rattle.owned_parts.specs.declared.parts.Parts.{Parts}
use Rattle.owned_parts.specs.declared.in_place.InPlace.{InPlace}
use Rattle.owned_parts.specs.declared.in_place.TranslatorRef.{TranslatorRef}
use Rattle.owned_machine.specs.Placed.{parts_in, translator_in}
use Rattle.owned_machine.specs.Whole.{IsMachine, AreNotInHand}
use Rattle.its_steps.specs.Calls.{whole_held}
use Rattle.its_steps.specs.Parts.{Setup, IsOfMachine}
use Rattle.its_steps.specs.World.{View}
use Rattle.its_turns.specs.Machines.{setup, view}
use Rattle.its_turns.specs.Told.{IsLone}
use Rattle.its_turns.specs.declared.machine.Machine.{Machine}
use Rattle.its_turns.specs.declared.machine.Pass.{Pass}
use Rattle.held_parts.specs.Taking.{holding}
use Rattle.held_parts.specs.Wholes.{redists_in, state_of_whole, TakesWhole}
use Rattle.held_parts.specs.declared.whole.Whole.{Whole}
use Rattle.held_parts.proofs.Wholes.{whole_confs, whole_pends, held_is}
use Rattle.its_migrate.specs.Resting.{Rests, resting}

-- ---- where parts stand

second_in : (o : Option TranslatorRef) → option_map translator_of (option_map translator_in o) ≡ option_map translator_at o
second_in None = refl
second_in (Some t) = refl

-- the parts by value stand for the same state
pub state_in : (i : InPlace) → state_of_parts (parts_in i) ≡ state_in_place i
state_in i = λ d. record (state_in_place i) { translators = one_or_two (translator_at i.first) (second_in i.second d) }

-- no part is in hand of a redistributor that the machine doesn't have
abbrev pub HasNoOthers : Layout → RedistParts → Type 0
HasNoOthers l rs = (v : ℕ) → l.shape.vcpus ≤ v → AreNotInHand rs v

pub machine_in : (i : InPlace) (u : Plain) → state_in_place i ≡ u → IsSound u → AreAllInHand i.layout.now.shape i.redists.now
    → HasNoOthers i.layout.now i.redists.now → IsMachine (parts_in i)
machine_in i u same sound all none = record { sound = subst IsSound (sym (state_in i ∙ same)) sound; all_in_hand = all; no_others = none }

-- with a second memory
pub machine_with : (i : InPlace) (p : Parts) (t : Option Tracked) → state_in_place i ≡ state_of_parts p → i.layout.now ≡ p.layout → i.redists.now ≡ p.redists
    → IsMachine (record p { track = t }) → IsMachine (record (parts_in i) { track = t })
machine_with i p t state layout redists m = record {
  sound = subst (λ (u : Plain). IsSound (record u { track = t })) (sym (state_in i ∙ state)) m.sound;
  all_in_hand = subst (λ (k : Layout). AreAllInHand k.shape i.redists.now) (sym layout)
      (subst (λ (rs : RedistParts). AreAllInHand p.layout.shape rs) (sym redists) m.all_in_hand);
  no_others = subst (λ (k : Layout). HasNoOthers k i.redists.now) (sym layout) (subst (HasNoOthers p.layout) (sym redists) m.no_others);
}

-- of the parts lent all redistributors are in hand
pub lent_hand : (i : InPlace) (l : Layout) (rs : RedistParts) → i.layout.now ≡ l → i.redists.now ≡ rs → AreAllInHand l.shape rs
    → AreAllInHand i.layout.now.shape i.redists.now
lent_hand i l rs layout redists all =
    subst (λ (k : Layout). AreAllInHand k.shape i.redists.now) (sym layout) (subst (λ (xs : RedistParts). AreAllInHand l.shape xs) (sym redists) all)

-- ---- all parts

module _ (s : Setup) (v w : View) (x : Whole) (taken : TakesWhole s v x w) (l : Layout) (same : l ≡ s.start.layout) where
  abbrev u : Plain
  u = after s.start w.seen

  pub taken_state : state_of_whole l x ≡ u
  taken_state = ap (λ (k : Layout). state_of_whole k x) same ∙ taken.state

  pub taken_sound : IsSound (state_of_whole l x)
  taken_sound = subst IsSound (sym taken_state) taken.machine.sound

  pub taken_hand : AreAllInHand l.shape (redists_in x)
  taken_hand = subst (λ (k : Layout). AreAllInHand k.shape (redists_in x)) (sym same) taken.whole.all_in_hand

  pub taken_others : HasNoOthers l (redists_in x)
  taken_others = subst (λ (k : Layout). HasNoOthers k (redists_in x)) (sym same) taken.whole.no_others

  pub holds_all : w.held ≡ whole_held u
  holds_all = ap (λ (y : View). y.held) taken.same
      ∙ (held_is s x (whole_confs s x taken.whole) (whole_pends s x taken.whole) ∙ ap (λ (z : Plain). whole_held z) taken.state)

-- where they stand they are a machine's
pub taken_machine : (s : Setup) (v w : View) (x : Whole) → TakesWhole s v x w → (i : InPlace) → i.layout.now ≡ s.start.layout
    → state_in_place i ≡ state_of_whole i.layout.now x → i.redists.now ≡ redists_in x → IsMachine (parts_in i)
taken_machine s v w x taken i same state redists =
    machine_in i (after s.start w.seen) (state ∙ taken_state s v w x taken i.layout.now same) taken.machine.sound
    (subst (λ (rs : RedistParts). AreAllInHand i.layout.now.shape rs) (sym redists) (taken_hand s v w x taken i.layout.now same))
    (subst (HasNoOthers i.layout.now) (sym redists) (taken_others s v w x taken i.layout.now same))

-- ---- all went home

module _ (v w z : View) (x : Whole) (s : Setup) (taken : TakesWhole s v x w) (home : z ≡ holding w []) (lone : IsLone v) (bare : v.held ≡ []) where
  pub rests_again : Rests v z
  rests_again =
      let still = taken.still lone in
      let seen = still.0 in
      let last = still.1 in
      let tries = taken.alone lone in
      let back : z ≡ record v { cache = w.cache; tries = record v.tries { won = w.tries.won } } = home ∙ (ap (λ (y : View). holding y [])
      taken.same ∙ (λ d. record v { seen = seen d; last = last d; held = sym bare d; cache = w.cache; tries = tries d })) in
      record { same = subst (λ (y : View). y ≡ record v { cache = y.cache; tries = record v.tries { won = y.tries.won } }) (sym back) refl }

-- ---- at rest

module _ (m : Machine) (r : Pass) (w : View) (x : Whole) (taken : TakesWhole (setup m) (view r) x w) (lone : IsLone (view r)) where
  seen_is : after (setup m).start w.seen ≡ resting m r
  seen_is = ap (λ (h : List Entry). after (setup m).start h) (taken.still lone).0

  pub rest_of_machine : IsOfMachine (setup m) (resting m r)
  rest_of_machine = subst (λ (u : Plain). IsOfMachine (setup m) u) seen_is taken.machine

  -- what was taken is the state at rest
  pub taken_rest : (l : Layout) → l ≡ (setup m).start.layout → state_of_whole l x ≡ resting m r
  taken_rest l same = taken_state (setup m) (view r) w x taken l same ∙ seen_is

  pub placed_rest : (i : InPlace) → i.layout.now ≡ (setup m).start.layout → state_in_place i ≡ state_of_whole i.layout.now x
      → state_of_parts (parts_in i) ≡ resting m r
  placed_rest i same state = state_in i ∙ (state ∙ taken_rest i.layout.now same)
