-- The LPIs of a collection, device by device and event by event.
use Rattle.std.proofs.Common.{◌≡◌, ℕ, ◌+◌, ◌-◌, ◌^◌, ◌≤◌, Bool, true, false, ◌||◌, cond, eqb, List, [], ◌∷◌, ◌++◌, map, filter, Option, Some, None, refl, sym, ap, subst, ◌∙◌}
use mathlib.Core.Bool.{false≢true}
use Rattle.std.specs.List.{list_any}
use Rattle.std.specs.FinMap.{entries}
use Rattle.std.proofs.lemmas.Bool.{cond-true, cond_both}
use Rattle.guest_windows.specs.Windows.{Window, byte_at}
use Rattle.its_types.specs.Lpis.{is_pending}
use Rattle.its_types.specs.Ranges.{is_lpi}
use Rattle.its_types.specs.declared.translation.Bases.{Bases}
use Rattle.its_types.specs.declared.translation.Event.{Event}
use Rattle.std.specs.Option.{option_map}
use Rattle.its_plain.specs.Plain.{ConfState}
use Rattle.its_types.specs.Maps.{Maps}
use Rattle.its_maps.specs.Counting.{has_events}
use Rattle.its_plain.specs.Commands.{intids_of, conf_reread_at, conf_all_reread_at}
use Rattle.lpi_config.specs.Conf.{conf_state}
use Rattle.lpi_config.specs.Conf.{Conf}
use Rattle.lpi_pending.specs.InHand.{RedistParts, conf_in}
use Rattle.cmd_exec.specs.InHand.{conf_by, pend_changed, confs_changed, with_set, with_cleared, lpis_in, lpi_moved_in, lpis_moved_in, takes_lpi, CanRereadAll}
use Rattle.cmd_exec.specs.InHand.{is_on_in}
use Rattle.cmd_exec.specs.Ready.{TakesAll, HeldCanReread, CanEachReread}
use Rattle.cmd_exec.specs.Reloaded.{with_read}
use Rattle.cmd_exec.specs.Walked.{lpis_of}
use Rattle.cmd_exec.proofs.InHand.{pend_takes, pend_on, conf_here, confs_twice, confs_none}

-- ---- an event of the collection comes first

pub lpis_first : (k : ℕ) (e : Event) (events : List (ℕ × Event)) (icid : ℕ) → eqb e.icid.0 icid ≡ true → lpis_of ((k, e) ∷ events) icid ≡ e.intid.0
    ∷ lpis_of events icid
lpis_first k e events icid same = ap (map (λ (x : ℕ × Event). x.1.intid.0))
    (cond-true (eqb e.icid.0 icid) ((k, e) ∷ filter (λ (x : ℕ × Event). eqb x.1.icid.0 icid) events) (filter (λ (x : ℕ × Event). eqb x.1.icid.0 icid) events)
    same)

-- ---- a collection without events

none_passes : {X : Type 0} (p : X → Bool) (xs : List X) → list_any p xs ≡ false → filter p xs ≡ []
none_passes p [] none = refl
none_passes p (x ∷ xs) none = at (p x) none (none_passes p xs)
  where
    at : (t : Bool) → (t || list_any p xs) ≡ false → (list_any p xs ≡ false → filter p xs ≡ []) → cond t (x ∷ filter p xs) (filter p xs) ≡ []
    at true some rest = absurd (false≢true (sym some))
    at false none rest = rest none

pub no_intids : (m : Maps) (icid : ℕ) → has_events m icid ≡ false → intids_of m icid ≡ []
no_intids m icid none =
    ap (map (λ (e : (ℕ × ℕ) × Event). e.1.intid.0)) (none_passes (λ (e : (ℕ × ℕ) × Event). eqb e.1.icid.0 icid) (entries m.events) none)

-- ---- rereading

bases_read : (memory : List Window) (intid : ℕ) (c : ConfState) → (conf_reread_at memory intid c).bases ≡ c.bases
unfolding conf_reread_at
bases_read memory intid c = cond_both c.bases.on _ c (λ (x : ConfState). x.bases ≡ c.bases)
    (λ _. by_byte (byte_at memory (c.bases.prop.table.0 + (intid - 8192)))) (λ _. refl)
  where
    by_byte : (o : Option ℕ) → (with_read intid c o).bases ≡ c.bases
    by_byte None = refl
    by_byte (Some byte) = refl

bases_all_read : (memory : List Window) (intids : List ℕ) (c : ConfState) → (conf_all_reread_at memory intids c).bases ≡ c.bases
bases_all_read memory [] c = refl
bases_all_read memory (x ∷ xs) c = bases_all_read memory xs (conf_reread_at memory x c) ∙ bases_read memory x c

can_kept : (xs : List ℕ) (c c' : Conf) → c'.config.lpi_bits ≡ c.config.lpi_bits → c'.bases ≡ c.bases → CanRereadAll c xs → CanRereadAll c' xs
can_kept [] c c' bits bases h = tt
can_kept (x ∷ xs) c c' bits bases h = (
  record {
    lpi = ap (λ (n : ℕ). is_lpi n x) bits ∙ h.0.lpi;
    low = subst (λ (b : Bases). b.on ≡ true → b.prop.table.0 ≤ 2 ^ 52) (sym bases) h.0.low;
  },
  can_kept xs c c' bits bases h.1,
)

read_append : (memory : List Window) (xs ys : List ℕ) (c : ConfState) → conf_all_reread_at memory ys (conf_all_reread_at memory xs c)
    ≡ conf_all_reread_at memory (xs ++ ys) c
read_append memory [] ys c = refl
read_append memory (x ∷ xs) ys c = read_append memory xs ys (conf_reread_at memory x c)

can_rest : (c : Conf) (xs ys : List ℕ) → CanRereadAll c (xs ++ ys) → CanRereadAll c ys
can_rest c [] ys h = h
can_rest c (x ∷ xs) ys h = can_rest c xs ys h.1

can_first : (c : Conf) (xs ys : List ℕ) → CanRereadAll c (xs ++ ys) → CanRereadAll c xs
can_first c [] ys h = tt
can_first c (x ∷ xs) ys h = (h.0, can_first c xs ys h.1)

-- each reads some, and can read the rest
pub read_some : (n : ℕ) (memory : List Window) (xs ys : List ℕ) (rs now : RedistParts) → now ≡ confs_changed n (conf_all_reread_at memory xs) rs
    → confs_changed n (conf_all_reread_at memory ys) now ≡ confs_changed n (conf_all_reread_at memory (xs ++ ys)) rs
read_some n memory xs ys rs now is =
    ap (confs_changed n (conf_all_reread_at memory ys)) is
    ∙ confs_twice n (conf_all_reread_at memory xs) (conf_all_reread_at memory ys) (conf_all_reread_at memory (xs ++ ys)) rs (read_append memory xs ys)

pub read_none : (n : ℕ) (memory : List Window) (rs : RedistParts) → confs_changed n (conf_all_reread_at memory []) rs ≡ rs
read_none n memory rs = confs_none n (conf_all_reread_at memory []) rs (λ _. refl)

pub each_first : (n : ℕ) (rs : RedistParts) (xs ys : List ℕ) → CanEachReread n rs (xs ++ ys) → CanEachReread n rs xs
each_first n rs xs ys h = λ v within. by_held (conf_in rs v) (h v within)
  where
    by_held : (o : Option Conf) → HeldCanReread o (xs ++ ys) → HeldCanReread o xs
    by_held None can = absurd can
    by_held (Some c) can = can_first c xs ys can

pub each_more : (n : ℕ) (memory : List Window) (xs ys : List ℕ) (rs now : RedistParts) → now ≡ confs_changed n (conf_all_reread_at memory xs) rs
    → CanEachReread n rs (xs ++ ys) → CanEachReread n now ys
each_more n memory xs ys rs now is h = λ v within.
    subst (λ (o : Option Conf). HeldCanReread o ys)
    (sym (ap (λ (x : RedistParts). conf_in x v) is ∙ conf_here n v (conf_all_reread_at memory xs) rs within))
    (by_held (conf_in rs v) (h v within))
  where
    by_held : (o : Option Conf) → HeldCanReread o (xs ++ ys) → HeldCanReread (option_map (conf_by (conf_all_reread_at memory xs)) o) ys
    by_held None can = absurd can
    by_held (Some c) can =
        can_kept ys c (conf_by (conf_all_reread_at memory xs) c) refl (bases_all_read memory xs (conf_state c)) (can_rest c xs ys can)

-- ---- LPIs that move

pub moved_takes : (x from to v y : ℕ) (rs : RedistParts) → takes_lpi (lpi_moved_in x from to rs) v y ≡ takes_lpi rs v y
moved_takes x from to v y rs =
    cond_both (is_pending x (lpis_in rs from)) (pend_changed to (with_set x) (pend_changed from (with_cleared x) rs)) rs
    (λ (xs : RedistParts). takes_lpi xs v y ≡ takes_lpi rs v y)
    (λ _. pend_takes to v y (with_set x) (pend_changed from (with_cleared x) rs) ∙ pend_takes from v y (with_cleared x) rs) (λ _. refl)

all_moved_takes : (xs : List ℕ) (from to v y : ℕ) (rs : RedistParts) → takes_lpi (lpis_moved_in xs from to rs) v y ≡ takes_lpi rs v y
all_moved_takes [] from to v y rs = refl
all_moved_takes (x ∷ xs) from to v y rs = all_moved_takes xs from to v y (lpi_moved_in x from to rs) ∙ moved_takes x from to v y rs

moved_on : (x from to v : ℕ) (rs : RedistParts) → is_on_in (lpi_moved_in x from to rs) v ≡ is_on_in rs v
moved_on x from to v rs =
    cond_both (is_pending x (lpis_in rs from)) (pend_changed to (with_set x) (pend_changed from (with_cleared x) rs)) rs
    (λ (xs : RedistParts). is_on_in xs v ≡ is_on_in rs v)
    (λ _. pend_on to v (with_set x) (pend_changed from (with_cleared x) rs) (λ _. refl) ∙ pend_on from v (with_cleared x) rs (λ _. refl)) (λ _. refl)

all_moved_on : (xs : List ℕ) (from to v : ℕ) (rs : RedistParts) → is_on_in (lpis_moved_in xs from to rs) v ≡ is_on_in rs v
all_moved_on [] from to v rs = refl
all_moved_on (x ∷ xs) from to v rs = all_moved_on xs from to v (lpi_moved_in x from to rs) ∙ moved_on x from to v rs

-- where LPIs were on they still are
pub on_more : (xs : List ℕ) (from to v : ℕ) (rs now : RedistParts) → now ≡ lpis_moved_in xs from to rs → is_on_in rs v ≡ true → is_on_in now v ≡ true
on_more xs from to v rs now is on = ap (λ (zs : RedistParts). is_on_in zs v) is ∙ all_moved_on xs from to v rs ∙ on

pub takes_kept : (ys : List ℕ) (v : ℕ) (rs now : RedistParts) → ((y : ℕ) → takes_lpi now v y ≡ takes_lpi rs v y) → TakesAll rs v ys → TakesAll now v ys
takes_kept [] v rs now same h = tt
takes_kept (y ∷ ys) v rs now same h = (same y ∙ h.0, takes_kept ys v rs now same h.1)

takes_rest : (rs : RedistParts) (v : ℕ) (xs ys : List ℕ) → TakesAll rs v (xs ++ ys) → TakesAll rs v ys
takes_rest rs v [] ys h = h
takes_rest rs v (x ∷ xs) ys h = takes_rest rs v xs ys h.1

pub takes_first : (rs : RedistParts) (v : ℕ) (xs ys : List ℕ) → TakesAll rs v (xs ++ ys) → TakesAll rs v xs
takes_first rs v [] ys h = tt
takes_first rs v (x ∷ xs) ys h = (h.0, takes_first rs v xs ys h.1)

moved_append : (xs ys : List ℕ) (from to : ℕ) (rs : RedistParts) → lpis_moved_in (xs ++ ys) from to rs ≡ lpis_moved_in ys from to
    (lpis_moved_in xs from to rs)
moved_append [] ys from to rs = refl
moved_append (x ∷ xs) ys from to rs = moved_append xs ys from to (lpi_moved_in x from to rs)

pub moved_some : (xs ys : List ℕ) (from to : ℕ) (rs now : RedistParts) → now ≡ lpis_moved_in xs from to rs
    → lpis_moved_in ys from to now ≡ lpis_moved_in (xs ++ ys) from to rs
moved_some xs ys from to rs now is = ap (lpis_moved_in ys from to) is ∙ sym (moved_append xs ys from to rs)

pub takes_more : (xs ys : List ℕ) (from to v : ℕ) (rs now : RedistParts) → now ≡ lpis_moved_in xs from to rs → TakesAll rs v (xs ++ ys)
    → TakesAll now v ys
takes_more xs ys from to v rs now is h =
    takes_kept ys v rs now (λ y. ap (λ (zs : RedistParts). takes_lpi zs v y) is ∙ all_moved_takes xs from to v y rs) (takes_rest rs v xs ys h)
