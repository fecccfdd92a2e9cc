-- What a command comes to on parts in hand, from its plan.
use Rattle.std.proofs.Common.{◌≡◌, ℕ, Bool, ◌&&◌, eqb, List, [], ◌∷◌, Option, Some, None, Result, Ok, Err, IfOk, refl, sym, ap, subst, ◌∙◌}
use Rattle.std.specs.Prelude.{is_some, is_ok, length, slice_index_or}
use Rattle.std.proofs.lemmas.Bool.{cond_both}
use Rattle.guest_windows.specs.Windows.{Window}
use Rattle.gits_regs.specs.Registers.{Registers, advanced}
use Rattle.its_command.specs.Commands.{op_of}
use Rattle.its_command.specs.declared.command.Command.{Command}
use Rattle.its_types.specs.Maps.{Maps}
use Rattle.its_types.specs.Lpis.{is_pending}
use Rattle.its_types.specs.declared.machine.Shape.{Shape}
use Rattle.its_types.specs.declared.ids.Vcpu.{Vcpu}
use Rattle.its_maps.specs.MapsRoom.{MapsRoom}
use Rattle.its_plain.specs.Plain.{Plain, ConfState, PendState, regs_of, maps_of}
use Rattle.lpi_config.specs.Conf.{Conf}
use Rattle.lpi_pending.specs.Pend.{Pend}
use Rattle.its_plain.specs.Commands.{ran, intids_of, conf_all_reread_at}
use Rattle.its_plain.specs.Answer.{command_reply, command_left, went_on}
use Rattle.its_plain.specs.declared.call.Reason.{Reason}
use Rattle.lpi_pending.specs.InHand.{RedistParts, conf_in, pend_in}
use Rattle.owned_parts.specs.Owned.{ArePartsOf, ArePartsOfSound}
use Rattle.cmd_exec.specs.declared.effect.Effect.{Effect}
use Rattle.cmd_exec.specs.declared.effect.Effect.TheVariants as effect
use Rattle.cmd_exec.specs.InHand.{pend_changed, confs_changed, with_set, with_cleared, with_none, with_all, lpis_in, lpi_moved_in, lpis_moved_in, all_moved_in}
use Rattle.cmd_exec.specs.Effects.{planned, maps_after, redists_after, cleared_in}
use Rattle.cmd_exec.specs.Executed.{IsPlanOf, IsReplyTo, AreLeftBy, planned_reply, outcome_reply, as_step}
use Rattle.cmd_exec.specs.Needs.{AreNeededInHand}
use Rattle.cmd_exec.specs.Ready.{IsReady}
use Rattle.cmd_exec.specs.Room.{HasRoom, AddsAlike, grows, outcome_adds, effect_adds}
use Rattle.cmd_exec.specs.declared.effect.Planned.{Planned}
use Rattle.cmd_exec.proofs.InHand.{pend_held, pend_room, pend_keeps, confs_held, conf_room, confs_keep}
use Rattle.cmd_exec.proofs.Steps.{by}
use Rattle.cmd_exec.proofs.Lifted.{left, regs_are, maps_are, parts_left, went_on_are}
use Rattle.cmd_exec.proofs.PlainPlan.{planned_same}
use Rattle.cmd_exec.proofs.Readied.{planned_ready}
use Rattle.cmd_exec.proofs.Adding.{planned_adds}
use Rattle.cmd_exec.proofs.Workable.{workable}

-- ---- who is in hand

-- the same parts are, whatever was changed in them, among as many places
pub record AreHeldAlike (now rs : RedistParts) : Type 0 where
  pub confs : (v : ℕ) → is_some (conf_in now v) ≡ is_some (conf_in rs v)
  pub pends : (v : ℕ) → is_some (pend_in now v) ≡ is_some (pend_in rs v)
  pub room : (length now.confs ≡ length rs.confs) × (length now.pends ≡ length rs.pends)

alike : (rs : RedistParts) → AreHeldAlike rs rs
alike rs = record { confs = λ v. refl; pends = λ v. refl; room = (refl, refl) }

alike_by : (rs now then : RedistParts) → AreHeldAlike then now → AreHeldAlike now rs → AreHeldAlike then rs
alike_by rs now then g h = record {
  confs = λ v. g.confs v ∙ h.confs v;
  pends = λ v. g.pends v ∙ h.pends v;
  room = (g.room.0 ∙ h.room.0, g.room.1 ∙ h.room.1);
}

pend_alike : (v : ℕ) (f : PendState → PendState) (rs : RedistParts) → AreHeldAlike (pend_changed v f rs) rs
pend_alike v f rs = record {
  confs = λ w. ap (λ (xs : List (Option Conf)). is_some (slice_index_or xs w None)) (pend_keeps v f rs);
  pends = λ w. pend_held v w f rs;
  room = (ap length (pend_keeps v f rs), pend_room v f rs);
}

confs_alike : (n : ℕ) (f : ConfState → ConfState) (rs : RedistParts) → AreHeldAlike (confs_changed n f rs) rs
confs_alike n f rs = record {
  confs = λ w. confs_held n w f rs;
  pends = λ w. ap (λ (xs : List (Option Pend)). is_some (slice_index_or xs w None)) (confs_keep n f rs);
  room = (conf_room n f rs, ap length (confs_keep n f rs));
}

moved_alike : (x from to : ℕ) (rs : RedistParts) → AreHeldAlike (lpi_moved_in x from to rs) rs
moved_alike x from to rs =
    let once = pend_changed from (with_cleared x) rs in
    cond_both (is_pending x (lpis_in rs from)) (pend_changed to (with_set x) once) rs (λ (now : RedistParts). AreHeldAlike now rs)
    (λ _. alike_by rs once (pend_changed to (with_set x) once) (pend_alike to (with_set x) once) (pend_alike from (with_cleared x) rs)) (λ _. alike rs)

lpis_alike : (xs : List ℕ) (from to : ℕ) (rs : RedistParts) → AreHeldAlike (lpis_moved_in xs from to rs) rs
lpis_alike [] from to rs = alike rs
lpis_alike (x ∷ xs) from to rs =
    alike_by rs (lpi_moved_in x from to rs) (lpis_moved_in (x ∷ xs) from to rs) (lpis_alike xs from to (lpi_moved_in x from to rs)) (moved_alike x from to rs)

all_alike : (from to : ℕ) (rs : RedistParts) → AreHeldAlike (all_moved_in from to rs) rs
all_alike from to rs =
    let once = pend_changed from with_none rs in
    let f = with_all (lpis_in rs from) in
    cond_both (eqb from to) rs (pend_changed to f once) (λ (now : RedistParts). AreHeldAlike now rs) (λ _. alike rs)
    (λ _. alike_by rs once (pend_changed to f once) (pend_alike to f once) (pend_alike from with_none rs))

cleared_alike : (x : ℕ) (o : Option Vcpu) (rs : RedistParts) → AreHeldAlike (cleared_in x o rs) rs
cleared_alike x None rs = alike rs
cleared_alike x (Some w) rs = pend_alike w.0 (with_cleared x) rs

pub after_alike : (s : Shape) (m : Maps) (memory : List Window) (e : Effect) (rs : RedistParts) → AreHeldAlike (redists_after s m memory e rs) rs
unfolding redists_after
after_alike s m memory effect.Nothing rs = alike rs
after_alike s m memory (effect.MapDevice dev device) rs = alike rs
after_alike s m memory (effect.UnmapDevice dev) rs = alike rs
after_alike s m memory (effect.MapCollection icid vcpu) rs = alike rs
after_alike s m memory (effect.MoveCollection icid from to) rs = lpis_alike (intids_of m icid.0) from.0 to.0 rs
after_alike s m memory (effect.UnmapCollection icid) rs = alike rs
after_alike s m memory (effect.MapEvent dev ev event) rs = confs_alike s.vcpus (conf_all_reread_at memory (event.intid.0 ∷ [])) rs
after_alike s m memory (effect.MoveEvent dev ev intid icid from to) rs = moved_alike intid.0 from.0 to.0 rs
after_alike s m memory (effect.UnmapEvent dev ev intid target) rs = cleared_alike intid.0 target rs
after_alike s m memory (effect.SetLpi intid vcpu) rs = pend_alike vcpu.0 (with_set intid.0) rs
after_alike s m memory (effect.ClearLpi intid vcpu) rs = pend_alike vcpu.0 (with_cleared intid.0) rs
after_alike s m memory (effect.Reread intid) rs = confs_alike s.vcpus (conf_all_reread_at memory (intid.0 ∷ [])) rs
after_alike s m memory (effect.RereadCollection icid) rs = confs_alike s.vcpus (conf_all_reread_at memory (intids_of m icid.0)) rs
after_alike s m memory (effect.MoveAll from to) rs = all_alike from.0 to.0 rs

-- ---- the plan

module _ (s : Shape) (r : Registers) (mr : MapsRoom) (memory : List Window) (rs : RedistParts) (c : Command) (needed : AreNeededInHand s mr.maps c rs) where
  abbrev m : Maps
  m = mr.maps

  abbrev Are : Plain → ℕ → Type 0
  Are u i = ArePartsOf u i s r m memory rs

  ran_is : (u : Plain) (i : ℕ) → Are u i → ran u i c ≡ by (left u i m) (planned s r m memory rs c)
  ran_is u i are =
      let maps_is : maps_of u i ≡ m = maps_are i s r memory u m rs are in
      let here : AreNeededInHand u.layout.shape (maps_of u i) c rs =
      subst (λ (x : Maps). AreNeededInHand u.layout.shape x c rs) (sym maps_is) (subst (λ (x : Shape). AreNeededInHand x m c rs) (sym are.shape_is) needed) in
      planned_same u i rs are.redistributors_are c here
      ∙ ap (λ (x : Shape). by (left u i (maps_of u i)) (planned x (regs_of u i) (maps_of u i) u.memory rs c)) are.shape_is
      ∙ ap (λ (x : Registers). by (left u i (maps_of u i)) (planned s x (maps_of u i) u.memory rs c)) (regs_are i s r memory u m rs are)
      ∙ ap (λ (x : Maps). by (left u i x) (planned s r x u.memory rs c)) maps_is
      ∙ ap (λ (x : List Window). by (left u i m) (planned s r m x rs c)) are.memory_is

  ready_if : ArePartsOfSound s r m memory rs → IfOk (planned s r m memory rs c) (λ e. HasRoom mr e → IsReady s mr rs e)
  ready_if sound = planned_ready s mr rs (workable s r m memory rs sound) r memory c needed

  pub ready : ArePartsOfSound s r m memory rs → (e : Effect) → planned s r m memory rs c ≡ Ok e → HasRoom mr e → IsReady s mr rs e
  ready sound e is = subst (λ (x : Result Effect Reason). IfOk x (λ e'. HasRoom mr e' → IsReady s mr rs e')) is (ready_if sound)

  -- ---- its reply, and what it adds

  same_reply : (u : Plain) (i : ℕ) (x : Result Effect Reason) → as_step (outcome_reply (op_of c) x) ≡ command_reply (op_of c) (by (left u i m) x)
  same_reply u i (Ok e) = refl
  same_reply u i (Err reason) = refl

  abbrev Plan : Planned → Type 0
  Plan p = IsPlanOf c s r m memory rs p

  pub plan_reply : (p : Planned) → Plan p → IsReplyTo c s r m memory rs (planned_reply p)
  plan_reply p is = λ u i are.
      ap as_step (ap (λ (x : Command). outcome_reply (op_of x) p.outcome) is.command ∙ ap (outcome_reply (op_of c)) is.outcome)
      ∙ same_reply u i (planned s r m memory rs c) ∙ sym (ap (command_reply (op_of c)) (ran_is u i are))

  same_adds : (u : Plain) (i : ℕ) (b : Bool) (x : Result Effect Reason) → IfOk x (λ e. effect_adds m e ≡ b)
      → outcome_adds m x ≡ (is_ok (by (left u i m) x) && b)
  same_adds u i b (Ok e) h = h
  same_adds u i b (Err reason) h = refl

  pub plan_adds : (p : Planned) → Plan p → AddsAlike c s r m memory rs p
  plan_adds p is = λ u i are.
      ap (outcome_adds m) is.outcome ∙ same_adds u i (grows m c) (planned s r m memory rs c) (planned_adds s r m memory rs c)
      ∙ ap (λ (x : Result Plain Reason). is_ok x && grows m c) (sym (ran_is u i are))
      ∙ ap (λ (x : Maps). is_ok (ran u i c) && grows x c) (sym (maps_are i s r memory u m rs are))

  -- ---- what it leaves

  pub ran_left : ArePartsOfSound s r m memory rs → (e : Effect) → planned s r m memory rs c ≡ Ok e → HasRoom mr e
      → AreLeftBy c s memory (r, m, rs) (advanced r, maps_after e m, redists_after s m memory e rs)
  ran_left sound e is room = λ u i are.
      let now : command_left u (ran u i c) ≡ left u i m e = ap (command_left u) (ran_is u i are ∙ ap (by (left u i m)) is) in
      subst (λ (w : Plain). ArePartsOf (went_on i w) i s (advanced r) (maps_after e m) memory (redists_after s m memory e rs)) (sym now)
      (went_on_are (left u i m e) i s r (maps_after e m) memory (redists_after s m memory e rs)
      (parts_left i s r memory u mr rs e (workable s r m memory rs sound).below (ready sound e is room) are))

  pub refused_left : (reason : Reason) → planned s r m memory rs c ≡ Err reason → AreLeftBy c s memory (r, m, rs) (advanced r, m, rs)
  refused_left reason is = λ u i are.
      let now : command_left u (ran u i c) ≡ u = ap (command_left u) (ran_is u i are ∙ ap (by (left u i m)) is) in
      subst (λ (w : Plain). ArePartsOf (went_on i w) i s (advanced r) m memory rs) (sym now) (went_on_are u i s r m memory rs are)
