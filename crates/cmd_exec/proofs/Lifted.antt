-- The parts in hand after an effect are those of the state that the plain machine goes on in.
use Rattle.std.proofs.Common.{◌≡◌, ℕ, ◌<◌, Bool, true, false, cond, eqb, List, [], ◌∷◌, map, set, Option, Some, None, inl, inr, refl, sym, ap}
use Rattle.std.proofs.Common.{subst, ◌∙◌, arith}
use Rattle.std.specs.Prelude.{is_some, slice_get}
use Rattle.std.specs.Option.{option_map}
use Rattle.std.proofs.lemmas.Bool.{cases_lt, cases_eq, eqb-false}
use Rattle.std.proofs.lemmas.List.{get_or-set_other}
use Rattle.std.proofs.lemmas.Option.{same_Some, slice_get-map, get_or_from_slice_get}
use Rattle.guest_windows.specs.Windows.{Window}
use Rattle.gits_regs.specs.Registers.{Registers, advanced}
use Rattle.its_types.specs.Lpis.{is_pending, with_lpis}
use Rattle.its_types.specs.Maps.{Maps, device_mapped, device_unmapped, event_mapped, event_unmapped, collection_mapped, collection_unmapped}
use Rattle.its_types.specs.declared.ids.Vcpu.{Vcpu}
use Rattle.its_types.specs.declared.machine.Shape.{Shape}
use Rattle.its_maps.specs.MapsRoom.{MapsRoom}
use Rattle.its_plain.specs.Plain.{Plain, Translator, Redistributor, no_translator, no_redistributor, translator, redistributor, regs_of, maps_of, pending_of}
use Rattle.its_plain.specs.Plain.{is_on, with_maps, with_redistributor, with_pending}
use Rattle.its_plain.specs.Commands.{lpi_set, lpi_cleared, lpi_moved, lpis_moved, all_moved, all_reread_at, conf_all_reread_at, reread, intids_of, cleared_at, with_collection}
use Rattle.its_plain.specs.Answer.{went_on}
use Rattle.its_plain.specs.Plain.{ConfState, PendState, conf_of, pend_of, with_conf, with_pend}
use Rattle.lpi_config.specs.Conf.{conf_state}
use Rattle.lpi_config.specs.Conf.{Conf}
use Rattle.lpi_pending.specs.InHand.{RedistParts, conf_in, pend_in, pend_state, HasLpisOfConf, HasLpisOfPend}
use Rattle.lpi_pending.specs.Pend.{Pend}
use Rattle.owned_parts.specs.Owned.{ArePartsOf, AreRedistributorsOf, IsConfOf, IsPendOf}
use Rattle.cmd_exec.specs.declared.effect.Effect.{Effect}
use Rattle.cmd_exec.specs.declared.effect.Effect.TheVariants as effect
use Rattle.cmd_exec.specs.InHand.{conf_by, pend_by, pend_changed, confs_changed, with_set, with_cleared, with_none, with_all, is_on_in, lpis_in, held_lpis}
use Rattle.cmd_exec.specs.InHand.{is_held_on, has_lpi, lpi_moved_in, lpis_moved_in, all_moved_in}
use Rattle.cmd_exec.specs.Effects.{maps_after, redists_after, cleared_in}
use Rattle.cmd_exec.specs.Ready.{IsReady, TakesAll, HaveSameLpis}
use Rattle.cmd_exec.proofs.Places.{set_get, set_get_other, viewed, set_viewed, set_looks}
use Rattle.cmd_exec.proofs.InHand.{changed_here, changed_there, below_here, below_there}
use Rattle.cmd_exec.proofs.Walks.{moved_takes, takes_kept}

-- ---- the state that an effect leaves

abbrev pub left : Plain → ℕ → Maps → Effect → Plain
left u i m effect.Nothing = u
left u i m (effect.MapDevice dev device) = with_maps u i (device_mapped m dev.0 device)
left u i m (effect.UnmapDevice dev) = with_maps u i (device_unmapped m dev.0)
left u i m (effect.MapCollection icid vcpu) = with_collection u i icid.0 vcpu.0
left u i m (effect.MoveCollection icid from to) = with_collection (lpis_moved (intids_of m icid.0) from.0 to.0 u) i icid.0 to.0
left u i m (effect.UnmapCollection icid) = with_maps u i (collection_unmapped m icid.0)
left u i m (effect.MapEvent dev ev event) = reread (event.intid.0 ∷ []) (with_maps u i (event_mapped m dev.0 ev.0 event))
left u i m (effect.MoveEvent dev ev intid icid from to) = lpi_moved intid.0 from.0 to.0
    (with_maps u i (event_mapped m dev.0 ev.0 (record { intid = intid; icid = icid })))
left u i m (effect.UnmapEvent dev ev intid target) = cleared_at intid.0 target (with_maps u i (event_unmapped m dev.0 ev.0))
left u i m (effect.SetLpi intid vcpu) = lpi_set intid.0 vcpu.0 u
left u i m (effect.ClearLpi intid vcpu) = lpi_cleared intid.0 vcpu.0 u
left u i m (effect.Reread intid) = reread (intid.0 ∷ []) u
left u i m (effect.RereadCollection icid) = reread (intids_of m icid.0) u
left u i m (effect.MoveAll from to) = all_moved from.0 to.0 u

-- ---- a part in hand

pub conf_is : (u : Plain) (rs : RedistParts) (v : ℕ) (c : Conf) → AreRedistributorsOf u rs → conf_in rs v ≡ Some c → conf_of (redistributor u v) ≡ conf_state c
conf_is u rs v c h is = viewed conf_of u.redistributors v no_redistributor (conf_state c) (h.0 v c is).same

pub pend_is : (u : Plain) (rs : RedistParts) (v : ℕ) (p : Pend) → AreRedistributorsOf u rs → pend_in rs v ≡ Some p → pend_of (redistributor u v) ≡ pend_state p
pend_is u rs v p h is = viewed pend_of u.redistributors v no_redistributor (pend_state p) (h.1 v p is).same

pub held_by : {X : Type 0} (o : Option X) → is_some o ≡ true → (x : X) × (o ≡ Some x)
held_by None e = absurd cc
held_by (Some x) e = (x, refl)

pub on_same : (u : Plain) (rs : RedistParts) (v : ℕ) → AreRedistributorsOf u rs → is_some (pend_in rs v) ≡ true → is_on u v ≡ is_on_in rs v
on_same u rs v h held =
    let p = held_by (pend_in rs v) held in
    ap (λ (x : PendState). x.accepts) (pend_is u rs v p.0 h p.1) ∙ sym (ap is_held_on p.1)

pub lpis_same : (u : Plain) (rs : RedistParts) (v : ℕ) → AreRedistributorsOf u rs → is_some (pend_in rs v) ≡ true → pending_of u v ≡ lpis_in rs v
lpis_same u rs v h held =
    let p = held_by (pend_in rs v) held in
    ap (λ (x : PendState). x.pending) (pend_is u rs v p.0 h p.1) ∙ sym (ap held_lpis p.1)

-- ---- one or all are changed

mapped_from : {X : Type 0} (f : X → X) (o : Option X) (y : X) → option_map f o ≡ Some y → (x : X) × (o ≡ Some x) × (f x ≡ y)
mapped_from f None y e = absurd cc
mapped_from f (Some x) y e = (x, refl, same_Some (f x) y e)

pub changed_are : (u : Plain) (rs : RedistParts) (v : ℕ) (f : PendState → PendState) → AreRedistributorsOf u rs
    → AreRedistributorsOf (with_redistributor u v (with_pend (f (pend_of (redistributor u v))) (redistributor u v))) (pend_changed v f rs)
unfolding pend_changed
changed_are u rs v f h = (confs, pends)
  where
    now : Redistributor
    now = with_pend (f (pend_of (redistributor u v))) (redistributor u v)

    u' : Plain
    u' = with_redistributor u v now

    confs : (w : ℕ) (c : Conf) → conf_in rs w ≡ Some c → IsConfOf u' w c
    confs w c is = record {
      lpis = (h.0 w c is).lpis;
      same = set_looks conf_of u.redistributors v w now no_redistributor refl ∙ (h.0 w c is).same;
    }

    here : (p : Pend) → pend_in (pend_changed v f rs) v ≡ Some p → IsPendOf u' v p
    here p is =
        let x = mapped_from (pend_by f) (pend_in rs v) p (sym (changed_here v (pend_by f) rs.pends) ∙ is) in
        let at : IsPendOf u v x.0 = h.1 v x.0 x.1 in
        record {
          lpis = subst (HasLpisOfPend u.layout.shape) x.2 at.lpis;
          same =
              set_viewed pend_of u.redistributors v now (pend_state x.0) at.same
              ∙ ap (λ (y : PendState). Some (f y)) (pend_is u rs v x.0 h x.1)
              ∙ ap (λ (y : Pend). Some (pend_state y)) x.2;
        }

    pends : (w : ℕ) (p : Pend) → pend_in (pend_changed v f rs) w ≡ Some p → IsPendOf u' w p
    pends w p is =
        elim (cases_eq w v) [
          | inl same ↦
              subst (λ (k : ℕ). IsPendOf u' k p) (sym same) (here p (ap (pend_in (pend_changed v f rs)) (sym same) ∙ is))
          | inr other ↦
              let at : IsPendOf u w p = h.1 w p (sym (changed_there v w (pend_by f) rs.pends other) ∙ is) in
              record { lpis = at.lpis; same = ap (option_map pend_of) (set_get_other u.redistributors v w now other) ∙ at.same }
        ]

abbrev pub AreBelow : ℕ → RedistParts → Type 0
AreBelow n rs = (v : ℕ) (c : Conf) → conf_in rs v ≡ Some c → v < n

-- a redistributor with another configuration
abbrev conf_through : (ConfState → ConfState) → Redistributor → Redistributor
conf_through f r = with_conf (f (conf_of r)) r

conf_after : (f : ConfState → ConfState) (o : Option Redistributor) → option_map conf_of (option_map (conf_through f) o) ≡ option_map f (option_map conf_of o)
conf_after f None = refl
conf_after f (Some r) = refl

pend_after : (f : ConfState → ConfState) (o : Option Redistributor) → option_map pend_of (option_map (conf_through f) o) ≡ option_map pend_of o
pend_after f None = refl
pend_after f (Some r) = refl

pub below_are : (u : Plain) (rs : RedistParts) (n : ℕ) (f : ConfState → ConfState) → AreBelow n rs → AreRedistributorsOf u rs
    → AreRedistributorsOf (record u { redistributors = map (conf_through f) u.redistributors }) (confs_changed n f rs)
unfolding confs_changed
below_are u rs n f below h = (confs, pends)
  where
    u' : Plain
    u' = record u { redistributors = map (conf_through f) u.redistributors }

    pends : (v : ℕ) (p : Pend) → pend_in rs v ≡ Some p → IsPendOf u' v p
    pends v p is = record {
      lpis = (h.1 v p is).lpis;
      same = ap (option_map pend_of) (slice_get-map (conf_through f) u.redistributors v) ∙ pend_after f (slice_get u.redistributors v) ∙ (h.1 v p is).same;
    }

    confs : (v : ℕ) (c : Conf) → conf_in (confs_changed n f rs) v ≡ Some c → IsConfOf u' v c
    confs v c is =
        elim (cases_lt v n) [
          | inl within ↦
              let x = mapped_from (conf_by f) (conf_in rs v) c (sym (below_here n v (conf_by f) rs.confs within) ∙ is) in
              let at : IsConfOf u v x.0 = h.0 v x.0 x.1 in
              record {
                lpis = subst (HasLpisOfConf u.layout.shape) x.2 at.lpis;
                same =
                    ap (option_map conf_of) (slice_get-map (conf_through f) u.redistributors v) ∙ conf_after f (slice_get u.redistributors v)
                    ∙ ap (option_map f) at.same ∙ ap (λ (y : Conf). Some (conf_state y)) x.2;
              }
          | inr past ↦ absurd (omega (arith, below v c (sym (below_there n v (conf_by f) rs.confs past) ∙ is), past))
        ]

-- ---- parts

same_redistributors : (u : Plain) (ts : List Translator) (rs : RedistParts) → AreRedistributorsOf u rs → AreRedistributorsOf (record u { translators = ts }) rs
same_redistributors u ts rs h = (
  λ v c is. record { lpis = (h.0 v c is).lpis; same = (h.0 v c is).same },
  λ v p is. record { lpis = (h.1 v p is).lpis; same = (h.1 v p is).same },
)

module _ (i : ℕ) (s : Shape) (r : Registers) (memory : List Window) where
  abbrev Are : Plain → Maps → RedistParts → Type 0
  Are u m rs = ArePartsOf u i s r m memory rs

  pub regs_are : (u : Plain) (m : Maps) (rs : RedistParts) → Are u m rs → regs_of u i ≡ r
  regs_are u m rs h = ap (λ (t : Translator). t.regs) (get_or_from_slice_get u.translators i (record { regs = r; maps = m }) no_translator h.translator_is)

  pub maps_are : (u : Plain) (m : Maps) (rs : RedistParts) → Are u m rs → maps_of u i ≡ m
  maps_are u m rs h = ap (λ (t : Translator). t.maps) (get_or_from_slice_get u.translators i (record { regs = r; maps = m }) no_translator h.translator_is)

  pub with_maps_are : (u : Plain) (m m' : Maps) (rs : RedistParts) → Are u m rs → Are (with_maps u i m') m' rs
  with_maps_are u m m' rs h =
      let made : Registers → Option Translator = λ (x : Registers). Some (record { regs = x; maps = m' }) in
      record {
        shape_is = h.shape_is;
        translator_is = set_get u.translators i (record { regs = r; maps = m }) (record (translator u i) { maps = m' }) h.translator_is
            ∙ ap made (regs_are u m rs h);
        memory_is = h.memory_is;
        redistributors_are = same_redistributors u (set u.translators i (record (translator u i) { maps = m' })) rs h.redistributors_are;
      }

  -- with other redistributors
  redists_are : (u : Plain) (m : Maps) (rs now : RedistParts) (redistributors : List Redistributor) → Are u m rs
      → AreRedistributorsOf (record u { redistributors = redistributors }) now
      → Are (record u { redistributors = redistributors }) m now
  redists_are u m rs now redistributors h are = record {
    shape_is = h.shape_is;
    translator_is = h.translator_is;
    memory_is = h.memory_is;
    redistributors_are = are;
  }

  pub one_are : (u : Plain) (m : Maps) (rs : RedistParts) (v : ℕ) (f : PendState → PendState) → Are u m rs
      → Are (with_redistributor u v (with_pend (f (pend_of (redistributor u v))) (redistributor u v))) m (pend_changed v f rs)
  one_are u m rs v f h =
      redists_are u m rs (pend_changed v f rs) (set u.redistributors v (with_pend (f (pend_of (redistributor u v))) (redistributor u v))) h
      (changed_are u rs v f h.redistributors_are)

  reread_are : (u : Plain) (m : Maps) (rs : RedistParts) (intids : List ℕ) → AreBelow s.vcpus rs → Are u m rs
      → Are (reread intids u) m (confs_changed s.vcpus (conf_all_reread_at memory intids) rs)
  reread_are u m rs intids below h =
      let f = conf_all_reread_at memory intids in
      subst (λ (ws : List Window). Are (record u { redistributors = map (all_reread_at ws intids) u.redistributors }) m (confs_changed s.vcpus f rs))
      (sym h.memory_is)
      (redists_are u m rs (confs_changed s.vcpus f rs) (map (conf_through f) u.redistributors) h (below_are u rs s.vcpus f below h.redistributors_are))

  -- ---- LPIs that move

  takes_held : (o : Option Pend) (x : ℕ) → has_lpi x o ≡ true → is_some o ≡ true
  takes_held None x e = absurd cc
  takes_held (Some p) x e = refl

  moved_are : (u : Plain) (m : Maps) (rs : RedistParts) (x from to : ℕ) → is_some (pend_in rs from) ≡ true → Are u m rs
      → Are (lpi_moved x from to u) m (lpi_moved_in x from to rs)
  moved_are u m rs x from to held h =
      let t = is_pending x (lpis_in rs from) in
      let once : Are (lpi_cleared x from u) m (pend_changed from (with_cleared x) rs) = one_are u m rs from (with_cleared x) h in
      let twice : Are (lpi_set x to (lpi_cleared x from u)) m (pend_changed to (with_set x) (pend_changed from (with_cleared x) rs)) =
      one_are (lpi_cleared x from u) m (pend_changed from (with_cleared x) rs) to (with_set x) once in
      subst (λ (b : Bool). Are (cond b (lpi_set x to (lpi_cleared x from u)) u) m (cond t (pend_changed to (with_set x) (pend_changed from (with_cleared x) rs)) rs))
      (sym (ap (is_pending x) (lpis_same u rs from h.redistributors_are held))) (by_test t twice)
    where
      by_test : (b : Bool) → Are (lpi_set x to (lpi_cleared x from u)) m (pend_changed to (with_set x) (pend_changed from (with_cleared x) rs))
          → Are (cond b (lpi_set x to (lpi_cleared x from u)) u) m (cond b (pend_changed to (with_set x) (pend_changed from (with_cleared x) rs)) rs)
      by_test true twice = twice
      by_test false twice = h

  all_takes_kept : (x from to v : ℕ) (rs : RedistParts) (xs : List ℕ) → TakesAll rs v xs → TakesAll (lpi_moved_in x from to rs) v xs
  all_takes_kept x from to v rs xs h = takes_kept xs v rs (lpi_moved_in x from to rs) (λ y. moved_takes x from to v y rs) h

  lpis_are : (xs : List ℕ) (u : Plain) (m : Maps) (rs : RedistParts) (from to : ℕ) → TakesAll rs from xs → Are u m rs
      → Are (lpis_moved xs from to u) m (lpis_moved_in xs from to rs)
  lpis_are [] u m rs from to takes h = h
  lpis_are (x ∷ xs) u m rs from to takes h =
      lpis_are xs (lpi_moved x from to u) m (lpi_moved_in x from to rs) from to (all_takes_kept x from to from rs xs takes.1)
      (moved_are u m rs x from to (takes_held (pend_in rs from) x takes.0) h)

  all_moved_are : (u : Plain) (m : Maps) (rs : RedistParts) (from to : ℕ) → is_some (pend_in rs from) ≡ true → Are u m rs
      → Are (all_moved from to u) m (all_moved_in from to rs)
  unfolding all_moved
  all_moved_are u m rs from to held h =
      let lpis : List ℕ = lpis_in rs from in
      let emptied : Plain = with_pending u from [] in
      let taken : RedistParts = pend_changed from with_none rs in
      let once : Are emptied m taken = one_are u m rs from with_none h in
      let filled : Are (with_pending emptied to (with_lpis lpis (pending_of emptied to))) m (pend_changed to (with_all lpis) taken) =
      one_are emptied m taken to (with_all lpis) once in
      by_test (eqb from to) (with_pending emptied to (with_lpis (pending_of u from) (pending_of u to))) (pend_changed to (with_all lpis) taken)
      (λ (off : eqb from to ≡ false).
      let other : to ≡ from → ⊥ = λ (e : to ≡ from). eqb-false from to off (sym e) in
      let there : redistributor emptied to ≡ redistributor u to = get_or-set_other u.redistributors from to (record (redistributor u from) { pending = [] }) no_redistributor
      other in
      let same : with_lpis lpis (pending_of emptied to) ≡ with_lpis (pending_of u from) (pending_of u to) =
      ap (λ (x : Redistributor). with_lpis lpis x.pending) there ∙ ap (λ (xs : List ℕ). with_lpis xs (pending_of u to))
      (sym (lpis_same u rs from h.redistributors_are held)) in
      subst (λ (p : List ℕ). Are (with_pending emptied to p) m (pend_changed to (with_all lpis) taken)) same filled)
    where
      by_test : (b : Bool) (x : Plain) (y : RedistParts) → (b ≡ false → Are x m y) → Are (cond b u x) m (cond b rs y)
      by_test true x y g = h
      by_test false x y g = g refl

  -- ---- effects

  collection_are : (u : Plain) (m : Maps) (rs : RedistParts) (icid : ℕ) (target : Vcpu) → Are u m rs → Are (with_collection u i icid target.0)
      (collection_mapped m icid target) rs
  collection_are u m rs icid target h =
      subst (λ (x : Maps). Are (with_maps u i (collection_mapped x icid target)) (collection_mapped m icid target) rs) (sym (maps_are u m rs h))
      (with_maps_are u m (collection_mapped m icid target) rs h)

  cleared_are : (u : Plain) (m : Maps) (rs : RedistParts) (x : ℕ) (target : Option Vcpu) → Are u m rs → Are (cleared_at x target u) m (cleared_in x target rs)
  cleared_are u m rs x None h = h
  cleared_are u m rs x (Some v) h = one_are u m rs v.0 (with_cleared x) h

  same_held : (a b : Option Pend) → HaveSameLpis a b → is_some a ≡ true
  same_held None b h = absurd h
  same_held (Some a) b h = refl

  pub parts_left : (u : Plain) (m : MapsRoom) (rs : RedistParts) (e : Effect) → AreBelow s.vcpus rs → IsReady s m rs e → Are u m.maps rs
      → Are (left u i m.maps e) (maps_after e m.maps) (redists_after s m.maps memory e rs)
  unfolding IsReady maps_after redists_after
  parts_left u m rs effect.Nothing below ready h = h
  parts_left u m rs (effect.MapDevice dev device) below ready h = with_maps_are u m.maps (device_mapped m.maps dev.0 device) rs h
  parts_left u m rs (effect.UnmapDevice dev) below ready h = with_maps_are u m.maps (device_unmapped m.maps dev.0) rs h
  parts_left u m rs (effect.MapCollection icid vcpu) below ready h = collection_are u m.maps rs icid.0 vcpu h
  parts_left u m rs (effect.MoveCollection icid from to) below ready h =
      let xs = intids_of m.maps icid.0 in
      collection_are (lpis_moved xs from.0 to.0 u) m.maps (lpis_moved_in xs from.0 to.0 rs) icid.0 to (lpis_are xs u m.maps rs from.0 to.0 ready.2 h)
  parts_left u m rs (effect.UnmapCollection icid) below ready h = with_maps_are u m.maps (collection_unmapped m.maps icid.0) rs h
  parts_left u m rs (effect.MapEvent dev ev event) below ready h =
      let now : Maps = event_mapped m.maps dev.0 ev.0 event in
      reread_are (with_maps u i now) now rs (event.intid.0 ∷ []) below (with_maps_are u m.maps now rs h)
  parts_left u m rs (effect.MoveEvent dev ev intid icid from to) below ready h =
      let now : Maps = event_mapped m.maps dev.0 ev.0 (record { intid = intid; icid = icid }) in
      moved_are (with_maps u i now) now rs intid.0 from.0 to.0 (takes_held (pend_in rs from.0) intid.0 ready.2) (with_maps_are u m.maps now rs h)
  parts_left u m rs (effect.UnmapEvent dev ev intid target) below ready h =
      let now : Maps = event_unmapped m.maps dev.0 ev.0 in cleared_are (with_maps u i now) now rs intid.0 target (with_maps_are u m.maps now rs h)
  parts_left u m rs (effect.SetLpi intid vcpu) below ready h = one_are u m.maps rs vcpu.0 (with_set intid.0) h
  parts_left u m rs (effect.ClearLpi intid vcpu) below ready h = one_are u m.maps rs vcpu.0 (with_cleared intid.0) h
  parts_left u m rs (effect.Reread intid) below ready h = reread_are u m.maps rs (intid.0 ∷ []) below h
  parts_left u m rs (effect.RereadCollection icid) below ready h = reread_are u m.maps rs (intids_of m.maps icid.0) below h
  parts_left u m rs (effect.MoveAll from to) below ready h = all_moved_are u m.maps rs from.0 to.0 (same_held (pend_in rs from.0) (pend_in rs to.0) ready.0) h

-- ---- the next command

pub went_on_are : (u : Plain) (i : ℕ) (s : Shape) (r : Registers) (m : Maps) (memory : List Window) (rs : RedistParts) → ArePartsOf u i s r m memory rs
    → ArePartsOf (went_on i u) i s (advanced r) m memory rs
went_on_are u i s r m memory rs h =
    let made : Translator → Option Translator = λ (t : Translator). Some (record { regs = advanced t.regs; maps = t.maps }) in
    record {
      shape_is = h.shape_is;
      translator_is =
          set_get u.translators i (record { regs = r; maps = m }) (record (translator u i) { regs = advanced (regs_of u i) }) h.translator_is
          ∙ ap made (get_or_from_slice_get u.translators i (record { regs = r; maps = m }) no_translator h.translator_is);
      memory_is = h.memory_is;
      redistributors_are = same_redistributors u (set u.translators i (record (translator u i) { regs = advanced (regs_of u i) })) rs h.redistributors_are;
    }
