-- All parts of a machine but shards: the state that they stand for, and as they are held.
use Rattle.std.proofs.Common.{◌≡◌, ◌≢◌, ◌⊎◌, ℕ, zero, suc, ◌<◌, ◌≤◌, true, false, ◌&&◌, nat_lt, List, [], ◌∷◌, length}
use Rattle.std.proofs.Common.{Option, Some, None}
use Rattle.std.proofs.Common.{get_or, refl, sym, ap, ◌∙◌, subst, inl, inr, arith}
use Rattle.std.specs.Prelude.{slice_get, is_some, ◌==◌, Box}
use Rattle.std.specs.Global.{Global}
use Rattle.std.specs.List.{AllByRecursion}
use Rattle.std.specs.Option.{option_map}
use Rattle.std.proofs.lemmas.Bool.{cases_lt, and_from, lt-ltb, le-ltb, eq-eqb}
use Rattle.std.proofs.lemmas.List.FromFn.{length-map-range_with_len, get_or-map-range_with_len}
use Rattle.std.proofs.lemmas.Option.{same_Some, slice_get_within, slice_get-get_or}
use mathlib.Core.Logic.{dite}
use mathlib.Core.List.{IsPrefix}
use native.Mathlib.Decide.{ℕ_discrete}
use Rattle.its_types.specs.declared.machine.Part.{Part}
use Rattle.its_types.specs.declared.machine.Part.TheVariants as part
use Rattle.its_types.specs.declared.machine.Word.{Word}
use Rattle.its_plain.specs.History.{after}
use Rattle.its_plain.specs.Plain.{Plain, Translator, Redistributor, redistributor, no_redistributor}
use Rattle.its_plain.specs.declared.call.Entry.{Entry}
use Rattle.its_plain.specs.declared.layout.Layout.{Layout}
use Rattle.its_plain.specs.Plain.{ConfState, PendState, conf_of, pend_of, joined}
use Rattle.its_plain.specs.Parts.{conf, pend}
use Rattle.lpi_config.specs.Conf.{Conf as ConfInHand}
use Rattle.lpi_pending.specs.InHand.{RedistParts, conf_in, pend_in}
use Rattle.lpi_pending.specs.Pend.{Pend as PendInHand}
use Rattle.owned_parts.specs.Owned.{conf_or, pend_or, redistributor_in, redistributors_in, translator_of, translators_of, HasLpisOfConf, HasLpisOfPend}
use Rattle.owned_parts.specs.RedistSets.{is_in}
use Rattle.owned_parts.specs.declared.redist_set.RedistSet.{RedistSet}
use Rattle.owned_parts.specs.declared.parts.Translator.{Translator as InHand}
use Rattle.its_steps.specs.Calls as calls
use Rattle.its_steps.specs.Contents.{Content, Held, Mem, Conf, Pend}
use Rattle.its_steps.specs.MayCommit.{IsRight}
use Rattle.its_steps.specs.Parts.{Setup, HasStamps, IsOfMachine, translator_count, vcpu_count}
use Rattle.its_steps.specs.World.{View, out, loaded}
use Rattle.its_turns.specs.Order.{IsInOrder}
use Rattle.its_turns.specs.Told.{IsLone, Looks, IsLastOrLater}
use Rattle.held_parts.specs.Redists.{at_place, held_if_in, row_of, AreWanted, conf_held, confs_held, AreBeforeConfs, IsConfIn}
use Rattle.held_parts.specs.Redists.{pend_held, pends_held, AreBeforePends, IsPendIn}
use Rattle.held_parts.specs.Taking.{LostNone, TakesOnly}
use Rattle.held_parts.specs.Wholes.{second_of, translators_in, redists_in, state_of_whole, IsWholeOf, maps_held, second_held, held_whole, IsNoShard, TakesWhole}
use Rattle.held_parts.specs.declared.whole.Whole.{Whole}
use Rattle.held_parts.proofs.Going.{got_none}
use Rattle.held_parts.proofs.InRows.{row_each, row_first, row_none}
use Rattle.held_parts.proofs.RedistRows.{conf_kind, parts_before}
use Rattle.held_parts.proofs.Lists.{same_lists, one_is, two_are, got_at}

-- ---- all redistributors in hand

-- those of all virtual processors, of one kind
pub record AllOf (T : Type 0) (has_lpis : T → Type 0) (s : Setup) (places : List (Option T)) : Type 0 where
  pub first : (v : ℕ) → v < vcpu_count s → (x : T) × (at_place places v ≡ Some x) × has_lpis x
  pub others : (v : ℕ) → vcpu_count s ≤ v → at_place places v ≡ None

-- they are those of the set with all
module _ {T : Type 0} (has_lpis : T → Type 0) (s : Setup) (set : RedistSet) (all : (v : ℕ) → is_in set v ≡ nat_lt v (vcpu_count s))
    (places : List (Option T)) where
  there : (o : Option T) → is_some o ≡ true → (x : T) × (o ≡ Some x)
  there None is = absurd cc
  there (Some x) is = (x, refl)

  not_there : (o : Option T) → is_some o ≡ false → o ≡ None
  not_there None is = refl
  not_there (Some x) is = absurd cc

  pub set_is_all : AreWanted T has_lpis s set places → AllOf T has_lpis s places
  set_is_all are = record {
    first = λ v lt.
        let is = lt-ltb v (vcpu_count s) lt in
        let r = there (at_place places v) (are.hand v ∙ and_from (is_in set v) (nat_lt v (vcpu_count s)) (all v ∙ is) is) in (r.0, r.1, are.lpis v r.0 r.1);
    others = λ v le.
        let no = le-ltb v (vcpu_count s) le in
        not_there (at_place places v) (are.hand v ∙ (λ d. (all v ∙ no) d && no d));
  }

  hand_is : AllOf T has_lpis s places → (v : ℕ) → is_some (at_place places v) ≡ (is_in set v && nat_lt v (vcpu_count s))
  hand_is are v = elim (cases_lt v (vcpu_count s)) [
    | inl lt ↦ let is = lt-ltb v (vcpu_count s) lt in ap (λ (o : Option T). is_some o) (are.first v lt).1
        ∙ sym (and_from (is_in set v) (nat_lt v (vcpu_count s)) (all v ∙ is) is)
    | inr le ↦ let no = le-ltb v (vcpu_count s) le in ap (λ (o : Option T). is_some o) (are.others v le) ∙ sym (λ d. (all v ∙ no) d && no d)
  ]

  lpis_are : AllOf T has_lpis s places → (v : ℕ) (x : T) → at_place places v ≡ Some x → has_lpis x
  lpis_are are v x is = elim (cases_lt v (vcpu_count s)) [
    | inl lt ↦ let a = are.first v lt in subst has_lpis (same_Some a.0 x (sym a.1 ∙ is)) a.2
    | inr le ↦ absurd (none_some x (sym (are.others v le) ∙ is))
  ]
    where
      none_some : (x : T) → None ≡ Some x → ⊥
      none_some x e = cc

  pub all_is_set : AllOf T has_lpis s places → AreWanted T has_lpis s set places
  all_is_set are = record { hand = hand_is are; lpis = lpis_are are }

abbrev pub AllConfs : Setup → RedistParts → Type 0
AllConfs s rs = AllOf ConfInHand (HasLpisOfConf s.start.layout.shape) s rs.confs

abbrev pub AllPends : Setup → RedistParts → Type 0
AllPends s rs = AllOf PendInHand (HasLpisOfPend s.start.layout.shape) s rs.pends

-- a redistributor that has both
pub both_parts : (o : Option Redistributor) (c : ConfState) (p : PendState) → option_map conf_of o ≡ Some c → option_map pend_of o ≡ Some p
    → o ≡ Some (joined c p)
both_parts None c p e f = absurd cc
both_parts (Some r) c p e f = let a = same_Some (conf_of r) c e in let b = same_Some (pend_of r) p f in λ d. Some (joined (a d) (b d))

module _ (s : Setup) (rs : RedistParts) (confs : AllConfs s rs) (pends : AllPends s rs) where
  abbrev n : ℕ
  n = vcpu_count s

  firsts_length : length (redistributors_in n rs) ≡ n
  firsts_length = length-map-range_with_len (redistributor_in rs) 0 n

  firsts_at : (v : ℕ) → v < n → slice_get (redistributors_in n rs) v ≡ Some (redistributor_in rs v)
  firsts_at v lt = slice_get-get_or (redistributors_in n rs) v no_redistributor (omega (arith, lt, firsts_length))
      ∙ ap (λ (r : Redistributor). Some r) (get_or-map-range_with_len (redistributor_in rs) 0 n v v no_redistributor lt (omega arith))

  pub firsts_are : (each : List Redistributor) → length each ≡ n → ((v : ℕ) → v < n → slice_get each v ≡ Some (redistributor_in rs v))
      → redistributors_in n rs ≡ each
  firsts_are each many same = same_lists (redistributors_in n rs) each (firsts_length ∙ sym many) (λ i x is.
      let within = slice_get_within (redistributors_in n rs) i x is in
      let lt : i < n = omega (arith, within, firsts_length) in
      same i lt ∙ (sym (firsts_at i lt) ∙ is))

  -- one of them as it is held
  conf_at : (v : ℕ) → v < n → row_of conf_held rs.confs v ≡ Some (out (conf v) (Conf (conf_or (conf_in rs v))))
  conf_at v lt = let a = confs.first v lt in ap (held_if_in conf_held v) a.1
      ∙ ap (λ (o : Option ConfInHand). Some (out (conf v) (Conf (conf_or o)))) (sym a.1)

  pend_at : (v : ℕ) → v < n → row_of pend_held rs.pends v ≡ Some (out (pend v) (Pend (pend_or (pend_in rs v))))
  pend_at v lt = let a = pends.first v lt in ap (held_if_in pend_held v) a.1
      ∙ ap (λ (o : Option PendInHand). Some (out (pend v) (Pend (pend_or o)))) (sym a.1)

-- ---- one or two translators

has_count : (o : Option InHand) (first : InHand) (n : ℕ) → (n ≡ 1) ⊎ (n ≡ 2) → is_some o ≡ (n == 2) → length (translators_of first o) ≡ n
has_count None first n (inl one) is = sym one
has_count None first n (inr two) is = absurd (none_two n two is)
  where
    none_two : (n : ℕ) → n ≡ 2 → false ≡ (n == 2) → ⊥
    none_two n two is = let e : false ≡ true = is ∙ eq-eqb n 2 two in cc
has_count (Some t) first n (inl one) is = absurd (some_one n one is)
  where
    some_one : (n : ℕ) → n ≡ 1 → true ≡ (n == 2) → ⊥
    some_one n one is = let e : true ≡ false = is ∙ ap (λ (k : ℕ). k == 2) one in cc
has_count (Some t) first n (inr two) is = sym two

-- there is a second one where there are two
pub second_is : (o : Option InHand) (first : InHand) (n : ℕ) → length (translators_of first o) ≡ n → is_some o ≡ (n == 2)
second_is None first n is = ap (λ (k : ℕ). k == 2) is
second_is (Some t) first n is = ap (λ (k : ℕ). k == 2) is

translators_are : (o : Option InHand) (first : InHand) (s : Setup) (word : Word) (u : Plain) → length (translators_of first o) ≡ length u.translators
    → AllByRecursion (IsRight s word u) (second_held o (maps_held 0 first ∷ [])) → translators_of first o ≡ u.translators
translators_are None first s word u many right = one_is u.translators (translator_of first) (sym many) right.0
translators_are (Some t) first s word u many right = two_are u.translators (translator_of first) (translator_of t) (sym many) right.1.0 right.0

maps_are : (o : Option InHand) (first : InHand) (u : Plain) → translators_of first o ≡ u.translators → second_held o (maps_held 0 first ∷ [])
    ≡ calls.maps_held u (length u.translators)
maps_are None first u same = subst (λ (ts : List Translator). maps_held 0 first ∷ [] ≡ calls.maps_held (record u { translators = ts }) (length ts)) same refl
maps_are (Some t) first u same = subst (λ (ts : List Translator). maps_held 1 t ∷ maps_held 0 first ∷ [] ≡ calls.maps_held (record u { translators = ts })
    (length ts)) same refl

-- ---- the whole

abbrev mem_held : Whole → Held
mem_held x = out part.Mem (Mem x.memory.value.memory x.memory.value.track)

abbrev rest_held : Whole → List Held
rest_held x = mem_held x ∷ second_held (second_of x) (maps_held 0 x.first.value ∷ [])

module _ (s : Setup) (x : Whole) (confs : AllConfs s (redists_in x)) (pends : AllPends s (redists_in x)) where
  abbrev rs : RedistParts
  rs = redists_in x

  -- what is held is right in a state, so it is that state's
  pub state_is : length (translators_in x) ≡ translator_count s → (word : Word) (u : Plain) → IsOfMachine s u
      → AllByRecursion (IsRight s word u) (held_whole s x) → state_of_whole s.start.layout x ≡ u
  state_is count word u m right =
      let n = vcpu_count s in
      let upper = row_each (row_of pend_held rs.pends) (confs_held rs n (rest_held x)) (IsRight s word u) n right in
      let each = row_each (row_of conf_held rs.confs) (rest_held x) (IsRight s word u) n upper.1 in
      let memory : x.memory.value.memory ≡ u.memory = sym each.1.0.0 in
      let track : x.memory.value.track ≡ u.track = sym each.1.0.1 in
      let translators = translators_are (second_of x) x.first.value s word u (count ∙ m.translators) each.1.1 in
      let many : length u.redistributors ≡ vcpu_count s = m.sound.vcpus ∙ ap (λ (l : Layout). l.shape.vcpus) (sym m.layout) in
      let redists : redistributors_in (vcpu_count s) rs ≡ u.redistributors = firsts_are s rs confs pends u.redistributors many
      (λ v lt. both_parts (slice_get u.redistributors v) (conf_or (conf_in rs v)) (pend_or (pend_in rs v))
      (each.0 v (out (conf v) (Conf (conf_or (conf_in rs v)))) lt (conf_at s rs confs pends v lt))
      (upper.0 v (out (pend v) (Pend (pend_or (pend_in rs v)))) lt (pend_at s rs confs pends v lt))) in
      let layout = m.layout in
      λ d. record { layout = layout d; translators = translators d; redistributors = redists d; memory = memory d; track = track d }

  -- what is held is all that the state has
  one_now : (u : Plain) → redistributors_in (vcpu_count s) rs ≡ u.redistributors → (k : ℕ) → k < vcpu_count s → redistributor u k ≡ redistributor_in rs k
  one_now u same k lt = ap (λ (l : List Redistributor). get_or l k no_redistributor) (sym same)
      ∙ got_at (redistributors_in (vcpu_count s) rs) k no_redistributor (redistributor_in rs k) (firsts_at s rs confs pends k lt)

  confs_are : (u : Plain) → redistributors_in (vcpu_count s) rs ≡ u.redistributors → (k : ℕ) (rest : List Held) → k ≤ vcpu_count s
      → confs_held rs k rest ≡ calls.confs_held u k rest
  confs_are u same zero rest le = row_none (row_of conf_held rs.confs) rest 0 refl
  confs_are u same (suc k) rest le =
      let lt : k < vcpu_count s = omega (arith, le) in
      let now = one_now u same k lt in
      let others = confs_are u same k rest (omega (arith, le)) in
      row_first (row_of conf_held rs.confs) rest (suc k) k (out (conf k) (Conf (conf_or (conf_in rs k)))) refl (conf_at s rs confs pends k lt)
      ∙ (λ d. out (conf k) (Conf (conf_of (sym now d))) ∷ others d)

  pends_are : (u : Plain) → redistributors_in (vcpu_count s) rs ≡ u.redistributors → (k : ℕ) (rest : List Held) → k ≤ vcpu_count s
      → pends_held rs k rest ≡ calls.pends_held u k rest
  pends_are u same zero rest le = row_none (row_of pend_held rs.pends) rest 0 refl
  pends_are u same (suc k) rest le =
      let lt : k < vcpu_count s = omega (arith, le) in
      let now = one_now u same k lt in
      let others = pends_are u same k rest (omega (arith, le)) in
      row_first (row_of pend_held rs.pends) rest (suc k) k (out (pend k) (Pend (pend_or (pend_in rs k)))) refl (pend_at s rs confs pends k lt)
      ∙ (λ d. out (pend k) (Pend (pend_of (sym now d))) ∷ others d)

  pub held_is : held_whole s x ≡ calls.whole_held (state_of_whole s.start.layout x)
  held_is =
      let u : Plain = state_of_whole s.start.layout x in
      let long : vcpu_count s ≡ length u.redistributors = sym (firsts_length s rs confs pends) in
      pends_are u refl (vcpu_count s) (confs_held rs (vcpu_count s) (rest_held x)) (omega arith)
      ∙ (ap (calls.pends_held u (vcpu_count s)) (confs_are u refl (vcpu_count s) (rest_held x) (omega arith))
      ∙ (λ d. calls.pends_held u (long d) (calls.confs_held u (long d) (mem_held x ∷ maps_are (second_of x) x.first.value u refl d))))

-- ---- a pass that took all of them

pub first_order : (t : InHand) (held : List Held) → held ≡ maps_held 0 t ∷ [] → IsInOrder (part.Maps 1) held
first_order t held e = subst (IsInOrder (part.Maps 1)) (sym e) (omega arith, tt)

maps_order : (o : Option InHand) (first : InHand) → IsInOrder part.Mem (second_held o (maps_held 0 first ∷ []))
maps_order None first = (tt, tt)
maps_order (Some t) first = (tt, (tt, tt))

pub memory_order : (o : Option InHand) (first : InHand) (held : List Held) → held ≡ second_held o (maps_held 0 first ∷ []) → IsInOrder part.Mem held
memory_order o first held e = subst (IsInOrder part.Mem) (sym e) (maps_order o first)

-- maps and memory come before parts of redistributors
before_confs : (o : Option InHand) (first : InHand) (c : Content) → AreBeforeConfs (out part.Mem c ∷ second_held o (maps_held 0 first ∷ []))
before_confs None first c vcpu = (tt, (tt, tt))
before_confs (Some t) first c vcpu = (tt, (tt, (tt, tt)))

before_pends : (o : Option InHand) (first : InHand) (c : Content) → AreBeforePends (out part.Mem c ∷ second_held o (maps_held 0 first ∷ []))
before_pends None first c vcpu = (tt, (tt, tt))
before_pends (Some t) first c vcpu = (tt, (tt, (tt, tt)))

pub confs_order : (o : Option InHand) (first : InHand) (c : Content) (held : List Held) → held ≡ out part.Mem c ∷ second_held o (maps_held 0 first ∷ [])
    → AreBeforeConfs held
confs_order o first c held e = subst AreBeforeConfs (sym e) (before_confs o first c)

-- and configurations before what is pending
pub pends_order : (o : Option InHand) (first : InHand) (c : Content) (redists : RedistParts) (n : ℕ) (before held : List Held)
    → before ≡ out part.Mem c ∷ second_held o (maps_held 0 first ∷ []) → held ≡ confs_held redists n before → AreBeforePends held
pends_order o first c redists n before held e f =
    let order : AreBeforePends before = subst AreBeforePends (sym e) (before_pends o first c) in
    subst AreBeforePends (sym f) (λ vcpu. parts_before conf_held conf conf_kind redists.confs before n (part.Pend vcpu) (λ k lt. tt) (order vcpu))

pub conf_no_shard : (set : RedistSet) (p : Part) → IsConfIn set p → IsNoShard p
conf_no_shard set (part.Conf v) is = tt
conf_no_shard set (part.Pend v) is = absurd is
conf_no_shard set (part.Maps i) is = absurd is
conf_no_shard set part.Mem is = absurd is
conf_no_shard set (part.Shard its n) is = absurd is

pub pend_no_shard : (set : RedistSet) (p : Part) → IsPendIn set p → IsNoShard p
pend_no_shard set (part.Pend v) is = tt
pend_no_shard set (part.Conf v) is = absurd is
pend_no_shard set (part.Maps i) is = absurd is
pend_no_shard set part.Mem is = absurd is
pend_no_shard set (part.Shard its n) is = absurd is

-- words are told apart by their numbers
same_word : (a b : Word) → (a ≢ b → ⊥) → a ≡ b
same_word a b h =
    dite (ℕ_discrete a.stamp b.stamp)
    (λ e. dite (ℕ_discrete a.place b.place) (λ f. λ d. record { stamp = e d; place = f d }) (λ n. absurd (h (λ q. n (ap (λ (z : Word). z.place) q)))))
    (λ n. absurd (h (λ q. n (ap (λ (z : Word). z.stamp) q))))

-- alone, the word is the one that was read before
pub still_word : (v : View) (word : Word) → IsLone v → IsLastOrLater v word → word ≡ v.last
still_word v word lone later = same_word word v.last (λ apart. (later apart).1 lone)

one_or_two : (s : Setup) → HasStamps s → (translator_count s ≡ 1) ⊎ (translator_count s ≡ 2)
one_or_two s (inl one) = inl one
one_or_two s (inr two) = inr two.0

mapped : (o : Option (Box InHand Global)) → is_some (option_map (λ (b : Box InHand Global). b.value) o) ≡ is_some o
mapped None = refl
mapped (Some b) = refl

pub is_whole : (s : Setup) (x : Whole) → HasStamps s → AllConfs s (redists_in x) → AllPends s (redists_in x) → is_some x.second ≡ (translator_count s == 2)
    → length (redists_in x).confs ≡ vcpu_count s → length (redists_in x).pends ≡ vcpu_count s → IsWholeOf s x
is_whole s x stamps confs pends count conf_room pend_room = record {
  translators = has_count (second_of x) x.first.value (translator_count s) (one_or_two s stamps) (mapped x.second ∙ count);
  all_in_hand = λ v lt. (confs.first v lt, pends.first v lt);
  no_others = λ v le. record { conf = confs.others v le; pend = pends.others v le };
  conf_room = conf_room;
  pend_room = pend_room;
}

-- there is a second translator where there are two
pub whole_second : (s : Setup) (x : Whole) → IsWholeOf s x → is_some x.second ≡ (translator_count s == 2)
whole_second s x is = sym (mapped x.second) ∙ second_is (second_of x) x.first.value (translator_count s) is.translators

pub whole_confs : (s : Setup) (x : Whole) → IsWholeOf s x → AllConfs s (redists_in x)
whole_confs s x is = record { first = λ v lt. (is.all_in_hand v lt).0; others = λ v le. (is.no_others v le).conf }

pub whole_pends : (s : Setup) (x : Whole) → IsWholeOf s x → AllPends s (redists_in x)
whole_pends s x is = record { first = λ v lt. (is.all_in_hand v lt).1; others = λ v le. (is.no_others v le).pend }

module _ (s : Setup) (v w y : View) (x : Whole) (word : Word) (own : v.setup ≡ s) (takes : TakesOnly IsNoShard v w)
    (held : w.held ≡ held_whole s x) (looks : Looks w word y) (later : IsLastOrLater w word) (is : IsWholeOf s x) where
  looked : y ≡ record v { seen = y.seen; last = word; held = held_whole s x; cache = w.cache; tries = w.tries }
  looked = looks.same ∙ (ap (λ (z : View). loaded z word y.seen) takes.same
      ∙ ap (λ (h : List Held). record v { seen = y.seen; last = word; held = h; cache = w.cache; tries = w.tries }) held)

  now : w.setup ≡ s
  now = ap (λ (z : View). z.setup) takes.same ∙ own

  lone_now : IsLone v → IsLone w
  lone_now lone = subst IsLone (sym takes.same) lone

  machine : IsOfMachine s (after s.start y.seen)
  machine = subst (λ (z : Setup). IsOfMachine z (after z.start y.seen)) now looks.machine

  right : AllByRecursion (IsRight s word (after s.start y.seen)) (held_whole s x)
  right = subst (λ (l : List Held). AllByRecursion (IsRight s word (after s.start y.seen)) l) held
      (subst (λ (z : Setup). AllByRecursion (IsRight z word (after z.start y.seen)) w.held) now looks.right)

  pub takes_whole : TakesWhole s v x y
  takes_whole = record {
    same = subst (λ (z : View). z ≡ record v { seen = z.seen; last = z.last; held = held_whole s x; cache = z.cache; tries = z.tries }) (sym looked) refl;
    longer = subst (λ (l : List Entry). IsPrefix l y.seen) (ap (λ (z : View). z.seen) takes.same) looks.longer;
    got = got_none IsNoShard v w y takes.got (ap (λ (z : View). z.tries) looks.same);
    still = λ lone. (
      looks.still (lone_now lone) ∙ ap (λ (z : View). z.seen) takes.same,
      ap (λ (z : View). z.last) looked ∙ (still_word w word (lone_now lone) later ∙ ap (λ (z : View). z.last) takes.same),
    );
    alone = λ lone. subst (λ (z : View). LostNone v z) (sym looked) (takes.alone lone);
    machine = machine;
    whole = is;
    state = state_is s x (whole_confs s x is) (whole_pends s x is) is.translators word (after s.start y.seen) machine right;
  }
