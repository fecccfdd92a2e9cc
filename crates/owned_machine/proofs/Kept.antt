-- The parts of a machine are those of its state, and all of them.
use Rattle.std.proofs.Common.{◌≡◌, ℕ, ◌<◌, ◌≤◌, true, false, List, Option, Some, None, inl, inr, refl, sym, ap, subst, ◌∙◌}
use Rattle.std.specs.Prelude.{is_some, length, slice_get}
use Rattle.std.specs.Option.{option_map}
use Rattle.std.proofs.lemmas.Bool.{cases_lt}
use Rattle.std.proofs.lemmas.Option.{same_Some}
use Rattle.guest_windows.specs.Windows.{Window}
use Rattle.dirty_log.specs.declared.tracked.Tracked.{Tracked}
use Rattle.its_types.specs.Ranges.{is_lpi}
use Rattle.its_plain.specs.Plain.{Plain, Translator, Redistributor, ConfState, PendState, conf_of, pend_of, with_pend, joined, redistributor, with_redistributor}
use Rattle.its_plain.specs.declared.layout.Layout.{Layout}
use Rattle.its_plain.specs.Sound.{IsSound}
use Rattle.its_plain.specs.Answer.{answer}
use Rattle.its_plain.specs.declared.call.Ack.{Ack}
use Rattle.its_plain.specs.declared.call.Ack.TheVariants as ack
use Rattle.its_plain.specs.declared.call.Call.{Call}
use Rattle.plain_soundness.proofs.Answers.{calls_keep}
use Rattle.plain_footprint.proofs.OtherParts.{leaves}
use Rattle.lpi_config.specs.Conf.{Conf}
use Rattle.lpi_pending.specs.InHand.{RedistParts, conf_in, pend_in}
use Rattle.lpi_pending.specs.Pend.{Pend}
use Rattle.owned_parts.specs.Owned.{ArePartsOf, AreRedistributorsOf, IsConfOf, IsPendOf, AreAllInHand, HasConf, HasPend, HasLpisOfConf, HasLpisOfPend}
use Rattle.owned_parts.specs.Owned.{conf_or, pend_or, conf_state, pend_state, redistributor_of, redistributor_in, redistributors_in, state_of, state_of_parts}
use Rattle.owned_parts.specs.Owned.{translator_of, translators_of}
use Rattle.owned_parts.specs.Places.{AreInHandAt, AreNotInHand}
use Rattle.owned_parts.specs.declared.parts.Translator.{Translator as TranslatorInHand}
use Rattle.owned_parts.specs.declared.parts.Parts.{Parts}
use Rattle.owned_parts.proofs.Places.{place_is}
use Rattle.cmd_exec.specs.InHand.{pend_changed, takes_lpi, has_lpi}
use Rattle.cmd_exec.proofs.InHand.{pend_held, pend_keeps}
use Rattle.cmd_exec.proofs.Lifted.{changed_are, conf_is, pend_is, held_by}
use Rattle.owned_machine.specs.Whole.{IsMachine, GoesOn, IfAcked}
use Rattle.owned_machine.proofs.Lists.{both_there, hand_is}

module _ (p : Parts) (m : IsMachine p) where
  confs_are : (v : ℕ) (c : Conf) → conf_in p.redists v ≡ Some c → IsConfOf (state_of_parts p) v c
  confs_are v c is = elim (cases_lt v p.layout.shape.vcpus) [
    | inl lt ↦
        let q = (m.all_in_hand v lt).0 in
        let same : q.0 ≡ c = same_Some q.0 c (sym q.1 ∙ is) in
        record {
          lpis = subst (HasLpisOfConf p.layout.shape) same q.2;
          same = ap (option_map conf_of) (place_is p.redists p.layout.shape.vcpus v lt) ∙ ap (λ (o : Option Conf). Some (conf_or o)) is;
        }
    | inr past ↦ absurd (let no : None ≡ Some c = sym (m.no_others v past).conf ∙ is in cc)
  ]

  pends_are : (v : ℕ) (q : Pend) → pend_in p.redists v ≡ Some q → IsPendOf (state_of_parts p) v q
  pends_are v q is = elim (cases_lt v p.layout.shape.vcpus) [
    | inl lt ↦
        let x = (m.all_in_hand v lt).1 in
        let same : x.0 ≡ q = same_Some x.0 q (sym x.1 ∙ is) in
        record {
          lpis = subst (HasLpisOfPend p.layout.shape) same x.2;
          same = ap (option_map pend_of) (place_is p.redists p.layout.shape.vcpus v lt) ∙ ap (λ (o : Option Pend). Some (pend_or o)) is;
        }
    | inr past ↦ absurd (let no : None ≡ Some q = sym (m.no_others v past).pend ∙ is in cc)
  ]

  pub redists_are : AreRedistributorsOf (state_of_parts p) p.redists
  redists_are = (confs_are, pends_are)

-- with a translator by its number
pub parts_are : (p : Parts) (i : ℕ) (t : TranslatorInHand) → IsMachine p → slice_get (state_of_parts p).translators i ≡ Some (translator_of t)
    → ArePartsOf (state_of_parts p) i p.layout.shape t.regs t.maps.maps p.memory p.redists
parts_are p i t m at = record { shape_is = refl; translator_is = at; memory_is = refl; redistributors_are = redists_are p m }

-- the same parts of redistributors are in hand
pub record AreHeldAlike (new old : RedistParts) : Type 0 where
  pub confs : (v : ℕ) → is_some (conf_in new v) ≡ is_some (conf_in old v)
  pub pends : (v : ℕ) → is_some (pend_in new v) ≡ is_some (pend_in old v)

pub same_held : (rs : RedistParts) → AreHeldAlike rs rs
same_held rs = record { confs = λ v. refl; pends = λ v. refl }

none_held : {X : Type 0} (o : Option X) → is_some o ≡ false → o ≡ None
none_held None e = refl
none_held (Some r) e = absurd cc

abbrev built : Layout → List Translator → List Redistributor → List Window → Option Tracked → Plain
built l ts rs m t = record { layout = l; translators = ts; redistributors = rs; memory = m; track = t }

same_state : (l k : Layout) (ts us : List Translator) (rs qs : List Redistributor) (m n : List Window) (s t : Option Tracked) → l ≡ k → ts ≡ us → rs ≡ qs
    → m ≡ n → s ≡ t → built l ts rs m s ≡ built k us qs n t
same_state l k ts us rs qs m n s t el et er em es =
    ap (λ (x : Layout). built x ts rs m s) el ∙ ap (λ (x : List Translator). built k x rs m s) et ∙ ap (λ (x : List Redistributor). built k us x m s) er
    ∙ ap (λ (x : List Window). built k us qs x s) em ∙ ap (built k us qs n) es

module _ (old new : Parts) (w : Plain) (m : IsMachine old) (same : new.layout ≡ old.layout) (alike : AreHeldAlike new.redists old.redists)
    (layout : old.layout ≡ w.layout) (redists : AreRedistributorsOf w new.redists) where
  conf_held : (v : ℕ) → v < old.layout.shape.vcpus → HasConf old.layout.shape new.redists v
  conf_held v lt =
      let q = held_by (conf_in new.redists v) (alike.confs v ∙ ap (λ (o : Option Conf). is_some o) (m.all_in_hand v lt).0.1) in
      (q.0, q.1, subst (λ (l : Layout). HasLpisOfConf l.shape q.0) (sym layout) (redists.0 v q.0 q.1).lpis)

  pend_held_too : (v : ℕ) → v < old.layout.shape.vcpus → HasPend old.layout.shape new.redists v
  pend_held_too v lt =
      let q = held_by (pend_in new.redists v) (alike.pends v ∙ ap (λ (o : Option Pend). is_some o) (m.all_in_hand v lt).1.1) in
      (q.0, q.1, subst (λ (l : Layout). HasLpisOfPend l.shape q.0) (sym layout) (redists.1 v q.0 q.1).lpis)

  all_held : AreAllInHand old.layout.shape new.redists
  all_held v lt = (conf_held v lt, pend_held_too v lt)

  none_else : (v : ℕ) → old.layout.shape.vcpus ≤ v → AreNotInHand new.redists v
  none_else v past = record {
    conf = none_held (conf_in new.redists v) (alike.confs v ∙ ap (λ (o : Option Conf). is_some o) (m.no_others v past).conf);
    pend = none_held (pend_in new.redists v) (alike.pends v ∙ ap (λ (o : Option Pend). is_some o) (m.no_others v past).pend);
  }

  -- what the state has at a place
  there : (v : ℕ) → v < old.layout.shape.vcpus → slice_get w.redistributors v ≡ Some (redistributor_in new.redists v)
  there v lt =
      let c = conf_held v lt in
      let q = pend_held_too v lt in
      both_there (slice_get w.redistributors v) (conf_or (conf_in new.redists v)) (pend_or (pend_in new.redists v))
      ((redists.0 v c.0 c.1).same ∙ ap (λ (o : Option Conf). Some (conf_or o)) (sym c.1))
      ((redists.1 v q.0 q.1).same ∙ ap (λ (o : Option Pend). Some (pend_or o)) (sym q.1))

  state_is : translators_of new.first new.second ≡ w.translators → new.memory ≡ w.memory → new.track ≡ w.track
      → length w.redistributors ≡ w.layout.shape.vcpus → state_of_parts new ≡ w
  state_is translators memory track vcpus =
      let n = old.layout.shape.vcpus in
      let ts = translators_of new.first new.second in
      let many : length w.redistributors ≡ n = vcpus ∙ ap (λ (l : Layout). l.shape.vcpus) (sym layout) in
      ap (λ (l : Layout). state_of l ts new.memory new.track new.redists) same
      ∙ same_state old.layout w.layout ts w.translators (redistributors_in n new.redists) w.redistributors new.memory w.memory new.track w.track
      layout translators (hand_is n new.redists w.redistributors there many) memory track

  -- where the parts are those of a sound state
  pub go_sound : translators_of new.first new.second ≡ w.translators → new.memory ≡ w.memory → new.track ≡ w.track
      → length w.redistributors ≡ w.layout.shape.vcpus → IsSound (state_of_parts new) → GoesOn new w
  go_sound translators memory track vcpus sound = record {
    state = state_is translators memory track vcpus;
    whole = record {
      sound = sound;
      all_in_hand = subst (λ (l : Layout). AreAllInHand l.shape new.redists) (sym same) all_held;
      no_others = subst (λ (l : Layout). (v : ℕ) → l.shape.vcpus ≤ v → AreNotInHand new.redists v) (sym same) none_else;
    };
  }

  pub go : translators_of new.first new.second ≡ w.translators → new.memory ≡ w.memory → new.track ≡ w.track → IsSound w → GoesOn new w
  go translators memory track sound =
      go_sound translators memory track sound.vcpus (subst IsSound (sym (state_is translators memory track sound.vcpus)) sound)

-- the state that a call leaves is gone on to, where it has these parts
pub goes_on : (old new : Parts) (c : Call) (w : Plain) → IsMachine old → new.layout ≡ old.layout → (answer (state_of_parts old) c).1 ≡ w
    → AreHeldAlike new.redists old.redists → translators_of new.first new.second ≡ w.translators → new.memory ≡ w.memory → new.track ≡ w.track
    → AreRedistributorsOf w new.redists → GoesOn new w
goes_on old new c w m same is alike translators memory track redists =
    let u = state_of_parts old in
    let others = leaves u c (record { vcpus = m.sound.vcpus }) in
    go old new w m same alike (others.layout ∙ ap (λ (x : Plain). x.layout) is) redists translators memory track (subst IsSound is (calls_keep u c m.sound))

-- nothing is changed
pub stays : (p : Parts) (w : Plain) → IsMachine p → state_of_parts p ≡ w → GoesOn p w
stays p w m e = record { state = e; whole = m }

-- what is the same of a state with the same redistributors
pub same_redists : (u w : Plain) (rs : RedistParts) → u.layout ≡ w.layout → u.redistributors ≡ w.redistributors → AreRedistributorsOf u rs
    → AreRedistributorsOf w rs
same_redists u w rs layout redistributors h = (
  λ v c is. record {
    lpis = subst (λ (l : Layout). HasLpisOfConf l.shape c) layout (h.0 v c is).lpis;
    same = ap (λ (qs : List Redistributor). option_map conf_of (slice_get qs v)) (sym redistributors) ∙ (h.0 v c is).same;
  },
  λ v p is. record {
    lpis = subst (λ (l : Layout). HasLpisOfPend l.shape p) layout (h.1 v p is).lpis;
    same = ap (λ (qs : List Redistributor). option_map pend_of (slice_get qs v)) (sym redistributors) ∙ (h.1 v p is).same;
  },
)

-- a redistributor with something else pending
abbrev pub through : (PendState → PendState) → Redistributor → Redistributor
through f r = with_pend (f (pend_of r)) r

-- what is pending at one virtual processor is changed
pub pend_goes : (old : Parts) (c : Call) (v : ℕ) (f : PendState → PendState) → IsMachine old
    → (answer (state_of_parts old) c).1 ≡ with_redistributor (state_of_parts old) v (through f (redistributor (state_of_parts old) v))
    → GoesOn (record old { redists = pend_changed v f old.redists })
    (with_redistributor (state_of_parts old) v (through f (redistributor (state_of_parts old) v)))
pend_goes old c v f m is =
    let u = state_of_parts old in
    goes_on old (record old { redists = pend_changed v f old.redists }) c (with_redistributor u v (through f (redistributor u v))) m refl is
    (record {
      confs = λ w. ap (λ (xs : List (Option Conf)). is_some (conf_in (record old.redists { confs = xs }) w)) (pend_keeps v f old.redists);
      pends = λ w. pend_held v w f old.redists;
    }) refl refl refl (changed_are u old.redists v f (redists_are old m))

-- ---- the parts of a redistributor in hand

pub conf_there : (p : Parts) (v : ℕ) → IsMachine p → v < p.layout.shape.vcpus → is_some (conf_in p.redists v) ≡ true
conf_there p v m lt = ap (λ (o : Option Conf). is_some o) (m.all_in_hand v lt).0.1

pub pend_there : (p : Parts) (v : ℕ) → IsMachine p → v < p.layout.shape.vcpus → is_some (pend_in p.redists v) ≡ true
pend_there p v m lt = ap (λ (o : Option Pend). is_some o) (m.all_in_hand v lt).1.1

pub conf_lpis : (p : Parts) (v : ℕ) (c : Conf) → IsMachine p → conf_in p.redists v ≡ Some c → HasLpisOfConf p.layout.shape c
conf_lpis p v c m is = ((redists_are p m).0 v c is).lpis

pub pend_lpis : (p : Parts) (v : ℕ) (q : Pend) → IsMachine p → pend_in p.redists v ≡ Some q → HasLpisOfPend p.layout.shape q
pend_lpis p v q m is = ((redists_are p m).1 v q is).lpis

pub conf_here : (p : Parts) (v : ℕ) (c : Conf) → IsMachine p → conf_in p.redists v ≡ Some c → conf_of (redistributor (state_of_parts p) v) ≡ conf_state c
conf_here p v c m is = conf_is (state_of_parts p) p.redists v c (redists_are p m) is

pub pend_here : (p : Parts) (v : ℕ) (q : Pend) → IsMachine p → pend_in p.redists v ≡ Some q → pend_of (redistributor (state_of_parts p) v) ≡ pend_state q
pend_here p v q m is = pend_is (state_of_parts p) p.redists v q (redists_are p m) is

pub redistributor_here : (p : Parts) (v : ℕ) (c : Conf) (q : Pend) → IsMachine p → AreInHandAt p.redists v c q
    → redistributor (state_of_parts p) v ≡ redistributor_of c q
redistributor_here p v c q m is =
    let r = redistributor (state_of_parts p) v in
    ap (λ (x : ConfState). joined x (pend_of r)) (conf_here p v c m is.conf) ∙ ap (λ (x : PendState). joined (conf_state c) x) (pend_here p v q m is.pend)

pub takes : (rs : RedistParts) (v x : ℕ) (q : Pend) → pend_in rs v ≡ Some q → is_lpi q.pending.lpi_bits x ≡ true → takes_lpi rs v x ≡ true
takes rs v x q is lpi = ap (has_lpi x) is ∙ lpi

pub ack_takes : (rs : RedistParts) (v : ℕ) (q : Pend) (a : Ack) → pend_in rs v ≡ Some q → IfAcked a (λ intid. is_lpi q.pending.lpi_bits intid ≡ true)
    → IfAcked a (λ intid. takes_lpi rs v intid ≡ true)
ack_takes rs v q ack.None is h = tt
ack_takes rs v q (ack.Some intid priority) is h = takes rs v intid.0 q is h
