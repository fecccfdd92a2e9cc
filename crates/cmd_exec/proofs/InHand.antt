-- Parts in hand, of which some were changed.
use Rattle.std.proofs.Common.{◌≡◌, ℕ, zero, suc, ◌+◌, ◌<◌, ◌≤◌, true, List, length, set, eqb, subst, add-one, Option, Some, None, inl, inr, refl, sym}
use Rattle.std.proofs.Common.{ap, ◌∙◌, arith}
use Rattle.std.specs.Prelude.{is_some, slice_index_or}
use Rattle.std.specs.Option.{option_map}
use Rattle.std.proofs.lemmas.Bool.{cases_lt, cases_eq, cond-false, ne_eqb}
use Rattle.std.proofs.lemmas.List.{get_or-set_same, get_or-set_other, get_or_past, set_past, set_comm, set-set, length-set, ext_get_or}
use Rattle.its_plain.specs.Plain.{ConfState, PendState}
use Rattle.lpi_config.specs.Conf.{Conf}
use Rattle.lpi_pending.specs.InHand.{RedistParts, conf_in, pend_in, pend_state, set_conf, set_pend}
use Rattle.lpi_pending.specs.Pend.{Pend}
use Rattle.std.proofs.lemmas.Option.{same_Some}
use Rattle.cmd_exec.specs.Ready.{HeldCanReread}
use Rattle.lpi_config.specs.Conf.{conf_state}
use Rattle.cmd_exec.specs.InHand.{CanRereadAll, conf_as, conf_by, pend_by, changed_at, changed_below, pend_changed, confs_changed, takes_lpi, has_lpi, with_none, with_all}
use Rattle.cmd_exec.specs.InHand.{held_lpis, lpis_in, is_held_on, is_on_in, all_moved_in}

-- ---- one place of a list was changed

module _ {X : Type 0} where
  abbrev at : List (Option X) → ℕ → Option X
  at xs v = slice_index_or xs v None

  pub changed_here : (v : ℕ) (f : X → X) (xs : List (Option X)) → at (changed_at v f xs) v ≡ option_map f (at xs v)
  changed_here v f xs =
      elim (cases_lt v (length xs)) [
        | inl within ↦ get_or-set_same xs v (option_map f (at xs v)) None within
        | inr past ↦
            let none : at xs v ≡ None = get_or_past xs v None past in
            ap (λ (ys : List (Option X)). at ys v) (set_past xs v (option_map f (at xs v)) past) ∙ none ∙ sym (ap (option_map f) none)
      ]

  pub changed_there : (v w : ℕ) (f : X → X) (xs : List (Option X)) → (w ≡ v → ⊥) → at (changed_at v f xs) w ≡ at xs w
  changed_there v w f xs other = get_or-set_other xs v w (option_map f (at xs v)) None other

  -- what is said of each, and doesn't change with it, stays
  pub same_changed : {Y : Type 0} (g : Option X → Y) (v w : ℕ) (f : X → X) (xs : List (Option X)) → ((o : Option X) → g (option_map f o) ≡ g o)
      → g (at (changed_at v f xs) w) ≡ g (at xs w)
  same_changed g v w f xs same =
      elim (cases_eq w v) [
        | inl here ↦ ap (λ (k : ℕ). g (at (changed_at v f xs) k)) here ∙ ap g (changed_here v f xs) ∙ same (at xs v) ∙ ap (λ (k : ℕ). g (at xs k)) (sym here)
        | inr there ↦ ap g (changed_there v w f xs there)
      ]

  same_held : (f : X → X) (o : Option X) → is_some (option_map f o) ≡ is_some o
  same_held f None = refl
  same_held f (Some x) = refl

  pub changed_held : (v w : ℕ) (f : X → X) (xs : List (Option X)) → is_some (at (changed_at v f xs) w) ≡ is_some (at xs w)
  changed_held v w f xs = same_changed is_some v w f xs (same_held f)

  -- ---- the first n places were

  pub below_there : (n v : ℕ) (f : X → X) (xs : List (Option X)) → n ≤ v → at (changed_below n f xs) v ≡ at xs v
  below_there zero v f xs le = refl
  below_there (suc n) v f xs le =
      let other : v ≡ n → ⊥ = λ (e : v ≡ n). omega (arith, le, e) in
      changed_there n v f (changed_below n f xs) other ∙ below_there n v f xs (omega (arith, le))

  pub below_here : (n v : ℕ) (f : X → X) (xs : List (Option X)) → v < n → at (changed_below n f xs) v ≡ option_map f (at xs v)
  below_here zero v f xs lt = absurd (omega (arith, lt))
  below_here (suc n) v f xs lt =
      elim (cases_eq v n) [
        | inl here ↦
            ap (at (changed_below (suc n) f xs)) here ∙ changed_here n f (changed_below n f xs) ∙ ap (option_map f) (below_there n n f xs (omega arith))
            ∙ ap (λ (k : ℕ). option_map f (at xs k)) (sym here)
        | inr there ↦ changed_there n v f (changed_below n f xs) there ∙ below_here n v f xs (omega (arith, lt, there))
      ]

  pub below_held : (n w : ℕ) (f : X → X) (xs : List (Option X)) → is_some (at (changed_below n f xs) w) ≡ is_some (at xs w)
  below_held zero w f xs = refl
  below_held (suc n) w f xs = changed_held n w f (changed_below n f xs) ∙ below_held n w f xs

  below_length : (n : ℕ) (f : X → X) (xs : List (Option X)) → length (changed_below n f xs) ≡ length xs
  below_length zero f xs = refl
  below_length (suc n) f xs =
      length-set (changed_below n f xs) n (option_map f (at (changed_below n f xs) n)) ∙ below_length n f xs

  map_twice : (f g h : X → X) → ((x : X) → g (f x) ≡ h x) → (o : Option X) → option_map g (option_map f o) ≡ option_map h o
  map_twice f g h same None = refl
  map_twice f g h same (Some x) = ap (λ (y : X). Some y) (same x)

  map_none : (f : X → X) → ((x : X) → f x ≡ x) → (o : Option X) → option_map f o ≡ o
  map_none f same None = refl
  map_none f same (Some x) = ap (λ (y : X). Some y) (same x)

  -- twice, which is once by both
  pub below_twice : (n : ℕ) (f g h : X → X) (xs : List (Option X)) → ((x : X) → g (f x) ≡ h x) → changed_below n g (changed_below n f xs) ≡ changed_below n h xs
  below_twice n f g h xs same =
      ext_get_or None (changed_below n g (changed_below n f xs)) (changed_below n h xs)
      (below_length n g (changed_below n f xs) ∙ below_length n f xs ∙ sym (below_length n h xs)) (λ v _.
      elim (cases_lt v n) [
        | inl within ↦
            below_here n v g (changed_below n f xs) within ∙ ap (option_map g) (below_here n v f xs within) ∙ map_twice f g h same (at xs v)
            ∙ sym (below_here n v h xs within)
        | inr past ↦ below_there n v g (changed_below n f xs) past ∙ below_there n v f xs past ∙ sym (below_there n v h xs past)
      ])

  -- by nothing
  pub below_none : (n : ℕ) (f : X → X) (xs : List (Option X)) → ((x : X) → f x ≡ x) → changed_below n f xs ≡ xs
  below_none n f xs same =
      ext_get_or None (changed_below n f xs) xs (below_length n f xs) (λ v _.
      elim (cases_lt v n) [
        | inl within ↦ below_here n v f xs within ∙ map_none f same (at xs v)
        | inr past ↦ below_there n v f xs past
      ])

-- ---- what is pending at one virtual processor was changed

pub pend_held : (v w : ℕ) (f : PendState → PendState) (rs : RedistParts) → is_some (pend_in (pend_changed v f rs) w) ≡ is_some (pend_in rs w)
unfolding pend_changed
pend_held v w f rs = changed_held v w (pend_by f) rs.pends

pub pend_takes : (v w x : ℕ) (f : PendState → PendState) (rs : RedistParts) → takes_lpi (pend_changed v f rs) w x ≡ takes_lpi rs w x
unfolding pend_changed
pend_takes v w x f rs = same_changed (has_lpi x) v w (pend_by f) rs.pends same
  where
    same : (o : Option Pend) → has_lpi x (option_map (pend_by f) o) ≡ has_lpi x o
    same None = refl
    same (Some p) = refl

-- whether LPIs are on stays, where it does in what is there
pub pend_on : (v w : ℕ) (f : PendState → PendState) (rs : RedistParts) → ((x : PendState) → (f x).accepts ≡ x.accepts)
    → is_on_in (pend_changed v f rs) w ≡ is_on_in rs w
unfolding pend_changed
pend_on v w f rs same = same_changed is_held_on v w (pend_by f) rs.pends by_held
  where
    by_held : (o : Option Pend) → is_held_on (option_map (pend_by f) o) ≡ is_held_on o
    by_held None = refl
    by_held (Some p) = same (pend_state p)

pub pend_room : (v : ℕ) (f : PendState → PendState) (rs : RedistParts) → length (pend_changed v f rs).pends ≡ length rs.pends
unfolding pend_changed
pend_room v f rs = length-set rs.pends v (option_map (pend_by f) (pend_in rs v))

pub pend_keeps : (v : ℕ) (f : PendState → PendState) (rs : RedistParts) → (pend_changed v f rs).confs ≡ rs.confs
unfolding pend_changed
pend_keeps v f rs = refl

-- ---- all pending LPIs of one were moved to another

-- with the one taken out, LPIs are on at the other as before
pub taken_on : (rs taken : RedistParts) (from to : ℕ) (t : Pend) → (from ≡ to → ⊥) → taken ≡ set_pend rs from None → pend_in taken to ≡ Some t
    → is_on_in rs to ≡ true → t.accepts ≡ true
taken_on rs taken from to t other taken_is has_t on =
    let other' : to ≡ from → ⊥ = λ (e : to ≡ from). other (sym e) in
    sym (ap is_held_on has_t) ∙ ap (λ (x : RedistParts). is_on_in x to) taken_is ∙ ap is_held_on (get_or-set_other rs.pends from to None None other') ∙ on

pub moved_all : (rs taken left : RedistParts) (from to : ℕ) (s t s' t' : Pend) → (from ≡ to → ⊥) → pend_in rs from ≡ Some s → taken ≡ set_pend rs from None
    → pend_in taken to ≡ Some t → s' ≡ pend_by with_none s → t' ≡ pend_by (with_all s.pending.lpis) t
    → left ≡ set_pend (set_pend taken to (Some t')) from (Some s')
    → left ≡ all_moved_in from to rs
unfolding pend_changed
moved_all rs taken left from to s t s' t' other has_s taken_is has_t s_is t_is left_is =
    let other' : to ≡ from → ⊥ = λ (e : to ≡ from). other (sym e) in
    let ps = rs.pends in
    let with : List (Option Pend) → RedistParts = λ (xs : List (Option Pend)). record rs { pends = xs } in
    let g = pend_by (with_all (lpis_in rs from)) in
    let once : List (Option Pend) = changed_at from (pend_by with_none) ps in
    let lpis : lpis_in rs from ≡ s.pending.lpis = ap held_lpis has_s in
    let at_to : at once to ≡ Some t =
    changed_there from to (pend_by with_none) ps other' ∙ sym (get_or-set_other ps from to None None other') ∙ ap (λ (x : RedistParts). pend_in x to)
    (sym taken_is) ∙ has_t in
    left_is
    ∙ ap (λ (x : RedistParts). set_pend (set_pend x to (Some t')) from (Some s')) taken_is
    ∙ ap with (set_comm (set ps from None) to from (Some t') (Some s') other'
    ∙ ap (λ (xs : List (Option Pend)). set xs to (Some t')) (set-set ps from None (Some s'))
    ∙ ap (λ (x : Pend). set (set ps from (Some x)) to (Some t')) s_is
    ∙ ap (λ (o : Option Pend). set (set ps from o) to (Some t')) (sym (ap (option_map (pend_by with_none)) has_s))
    ∙ ap (λ (x : Pend). set once to (Some x)) (t_is ∙ ap (λ (xs : List ℕ). pend_by (with_all xs) t) (sym lpis))
    ∙ ap (set once to) (sym (ap (option_map g) at_to)))
    ∙ sym (cond-false (eqb from to) rs (pend_changed to (with_all (lpis_in rs from)) (pend_changed from with_none rs)) (ne_eqb from to other))

-- ---- the configurations of the first were

pub conf_here : (n v : ℕ) (f : ConfState → ConfState) (rs : RedistParts) → v < n → conf_in (confs_changed n f rs) v ≡ option_map (conf_by f) (conf_in rs v)
unfolding confs_changed
conf_here n v f rs within = below_here n v (conf_by f) rs.confs within

pub conf_there : (n v : ℕ) (f : ConfState → ConfState) (rs : RedistParts) → n ≤ v → conf_in (confs_changed n f rs) v ≡ conf_in rs v
unfolding confs_changed
conf_there n v f rs past = below_there n v (conf_by f) rs.confs past

pub confs_held : (n w : ℕ) (f : ConfState → ConfState) (rs : RedistParts) → is_some (conf_in (confs_changed n f rs) w) ≡ is_some (conf_in rs w)
unfolding confs_changed
confs_held n w f rs = below_held n w (conf_by f) rs.confs

pub conf_room : (n : ℕ) (f : ConfState → ConfState) (rs : RedistParts) → length (confs_changed n f rs).confs ≡ length rs.confs
unfolding confs_changed
conf_room n f rs = below_length n (conf_by f) rs.confs

pub confs_keep : (n : ℕ) (f : ConfState → ConfState) (rs : RedistParts) → (confs_changed n f rs).pends ≡ rs.pends
unfolding confs_changed
confs_keep n f rs = refl

pub confs_twice : (n : ℕ) (f g h : ConfState → ConfState) (rs : RedistParts) → ((c : ConfState) → g (f c) ≡ h c)
    → confs_changed n g (confs_changed n f rs) ≡ confs_changed n h rs
unfolding confs_changed
confs_twice n f g h rs same =
    ap (λ (xs : List (Option Conf)). record rs { confs = xs }) (below_twice n (conf_by f) (conf_by g) (conf_by h) rs.confs both)
  where
    both : (c : Conf) → conf_by g (conf_by f c) ≡ conf_by h c
    both c = ap (conf_as c) (same (conf_state c))

pub confs_none : (n : ℕ) (f : ConfState → ConfState) (rs : RedistParts) → ((c : ConfState) → f c ≡ c) → confs_changed n f rs ≡ rs
unfolding confs_changed
confs_none n f rs same =
    ap (λ (xs : List (Option Conf)). record rs { confs = xs }) (below_none n (conf_by f) rs.confs (λ c. ap (conf_as c) (same (conf_state c))))

-- ---- one after another

pub held_some : (o : Option Conf) (intids : List ℕ) → HeldCanReread o intids → is_some o ≡ true
held_some None intids h = absurd h
held_some (Some c) intids h = refl

pub held_can : (o : Option Conf) (intids : List ℕ) (c : Conf) → HeldCanReread o intids → o ≡ Some c → CanRereadAll c intids
held_can None intids c h e = absurd h
held_can (Some x) intids c h e = subst (λ (y : Conf). CanRereadAll y intids) (same_Some x c e) h

pub below_now : (v : ℕ) (f : ConfState → ConfState) (rs now : RedistParts) → now ≡ confs_changed v f rs → conf_in now v ≡ conf_in rs v
below_now v f rs now is = ap (λ (x : RedistParts). conf_in x v) is ∙ conf_there v v f rs (omega arith)

pub below_step : (v : ℕ) (f : ConfState → ConfState) (rs now : RedistParts) (c c' : Conf) → now ≡ confs_changed v f rs
    → conf_in now v ≡ Some c → c' ≡ conf_by f c
    → set_conf now v (Some c') ≡ confs_changed (v + 1) f rs
unfolding confs_changed
below_step v f rs now c c' is has c_is =
    ap (λ (x : Conf). set_conf now v (Some x)) c_is
    ∙ ap (set_conf now v) (sym (ap (option_map (conf_by f)) has))
    ∙ ap (λ (x : RedistParts). set_conf x v (option_map (conf_by f) (conf_in x v))) is
    ∙ ap (λ (k : ℕ). confs_changed k f rs) (sym (add-one v))
