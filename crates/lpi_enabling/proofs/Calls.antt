-- What each call does to whether LPIs are on, and which replies tell of an LPI.
use Rattle.std.proofs.Common.{◌≡◌, ℕ, Bool, true, false, List, [], Option, Some, None, Result, Ok, Err, IfOk, if◌then◌else◌, refl, sym, ap, subst, ◌∙◌, inl}
use Rattle.std.proofs.Common.{inr, ⊎_elim, length, set, length-set, get_or-set_same, arith}
use Rattle.std.proofs.lemmas.List.{get_or_past}
use Rattle.std.specs.Prelude.{◌⊎◌}
use Rattle.std.proofs.lemmas.Bool.{both_ways, cases_Bool, cases_lt, cond_both, true_from_ne_false}
use Rattle.gicr_regs.specs.Redistributors.{reloaded}
use Rattle.gicr_regs.specs.Registers.{written_gicr}
use Rattle.gicr_regs.specs.Registers.{turned_off as turned_off_of}
use Rattle.guest_windows.specs.Windows.{Window, write_at}
use Rattle.its_types.specs.Lpis.{first_enabled, first_by_priority, claimable, priority_of, is_pending}
use Rattle.its_types.specs.declared.ids.Addr.{Addr}
use Rattle.its_types.specs.declared.ids.DeviceId.{DeviceId}
use Rattle.its_types.specs.declared.ids.EventId.{EventId}
use Rattle.its_types.specs.declared.ids.Intid.{Intid}
use Rattle.its_types.specs.declared.ids.Target.{Target}
use Rattle.its_types.specs.declared.ids.Vcpu.{Vcpu}
use Rattle.its_command.specs.Commands.{decoded}
use Rattle.its_plain.specs.Plain.{Plain, Redistributor, redistributor, no_redistributor, translator, pending_of, is_on, with_redistributor}
use Rattle.its_plain.specs.Translation.{translated, located, ensure, ◌>>=◌}
use Rattle.its_plain.specs.Commands.{ran}
use Rattle.its_plain.specs.Answer.{answer, reply_of, left, signal_left, signal_reply, ack_of, lowest, best, claimed, taken, written, is_idle, next_bytes}
use Rattle.its_plain.specs.Answer.{met_left, step_left}
use Rattle.its_plain.specs.Answer.{command_left, save_left, poke_reply, poke_left, route_reply, route_left}
use Rattle.its_plain.specs.Regions.{savable}
use Rattle.its_plain.specs.Saved.{saved, moved}
use Rattle.its_plain.specs.declared.call.Ack.TheVariants as ack
use Rattle.its_plain.specs.declared.call.Call.{Call}
use Rattle.its_plain.specs.declared.call.Call.TheVariants as call
use Rattle.its_plain.specs.declared.call.Route.{Route}
use Rattle.its_plain.specs.declared.call.Route.TheVariants as route
use Rattle.its_plain.specs.declared.call.Cause.{Cause}
use Rattle.its_plain.specs.declared.call.Cause.TheVariants.{LpisOff}
use Rattle.its_plain.specs.declared.call.Reason.{Reason}
use Rattle.its_plain.specs.declared.call.Reply.TheVariants as reply
use Rattle.its_plain.specs.declared.fault.SaveFault.{SaveFault}
use Rattle.lpi_enabling.specs.Enabling.{WritesEnableLpis, Disables, TurnsOn, TakesWhereOn, TellsLpi}
use Rattle.lpi_enabling.specs.Laws.{LpisStayOn, LpisAreTurnedOff, LpisAreTakenWhereOn, OnlyAWriteTurnsOn, MigrationsKeepOn}
use Rattle.lpi_enabling.proofs.Kept.{Keeps, kept, kept_without, AllKeep, all_kept, at_set, at_map, set_kept, reloaded_kept}
use Rattle.lpi_enabling.proofs.Commands.{ran_kept}
use Rattle.lpi_enabling.proofs.Writes.{Goes, goes, goes_by, IsEnabling, IsDisabling, written_goes, written_off}

-- ---- signals

after_ok : {A B : Type 0} (P : B → Type 0) (r : Result A Cause) (f : A → Result B Cause) → ((x : A) → IfOk (f x) P) → IfOk (r >>= f) P
after_ok P (Ok x) f h = h x
after_ok P (Err e) f h = tt

passed : {B : Type 0} (P : B → Type 0) (test : Bool) (cause : Cause) (f : Unit {0} → Result B Cause) → (test ≡ true → IfOk (f tt) P)
    → IfOk (ensure test cause >>= f) P
passed P true cause f h = h refl
passed P false cause f h = tt

-- a message goes where LPIs are on
goes_where_on : (u : Plain) (i dev ev : ℕ) → IfOk (translated u i dev ev) (λ target. is_on u target.vcpu.0 ≡ true)
unfolding translated
goes_where_on u i dev ev =
    let P : Target → Type 0 = λ target. is_on u target.vcpu.0 ≡ true in
    after_ok P (located (translator u i) dev ev) _ (λ target. passed P (is_on u target.vcpu.0) LpisOff _ (λ on. on))

signal_kept : (u : Plain) (r : Result Target Cause) → IfOk r (λ target. is_on u target.vcpu.0 ≡ true) → AllKeep u (signal_left u (signal_reply r))
signal_kept u (Ok target) on = set_kept u target.intid.0 target.vcpu.0 on
signal_kept u (Err cause) on = all_kept u

-- ---- acknowledgements

taken_keeps : (r : Redistributor) (o : Option ℕ) → Keeps r (taken r o)
taken_keeps r None = kept r
taken_keeps r (Some intid) = kept_without r intid

take_kept : (u : Plain) (v : ℕ) (o : Option ℕ) → AllKeep u (with_redistributor u v (taken (redistributor u v) o))
take_kept u v o k = at_set (λ _. Keeps) u.redistributors v k (taken (redistributor u v) o) no_redistributor (λ _ r. kept r) (taken_keeps (redistributor u v) o)

-- ---- steps, saves and migrations

command_kept : (u : Plain) (r : Result Plain Reason) → IfOk r (AllKeep u) → AllKeep u (command_left u r)
command_kept u (Ok w) k = k
command_kept u (Err reason) k = all_kept u

met_kept : (u : Plain) (i : ℕ) (next : Option (List ℕ)) → AllKeep u (met_left u i next)
met_kept u i None = all_kept u
met_kept u i (Some bytes) = command_kept u (ran u i (decoded bytes)) (ran_kept u i (decoded bytes))

step_kept : (u : Plain) (i : ℕ) → AllKeep u (step_left u i)
unfolding step_left
step_kept u i = cond_both (is_idle u i) u (met_left u i (next_bytes u i)) (AllKeep u) (λ _. all_kept u) (λ _. met_kept u i (next_bytes u i))

save_kept : (u : Plain) (r : Result (Unit {0}) SaveFault) → AllKeep u (save_left u r)
save_kept u (Ok done) = all_kept u
save_kept u (Err fault) = all_kept u

pub migrated_kept : (u : Plain) → AllKeep u (moved u)
unfolding moved
migrated_kept u k = at_map Keeps (reloaded u.layout.shape (saved u)) u.redistributors k no_redistributor (reloaded_kept u.layout.shape (saved u))
    (kept no_redistributor)

poke_kept : (u : Plain) (address : ℕ) (bytes : List ℕ) (o : Option (List Window)) → AllKeep u (poke_left u address bytes o)
poke_kept u address bytes None = all_kept u
poke_kept u address bytes (Some memory) = all_kept u

-- a write by address does what its route does
route_kept : (u : Plain) (addr : Addr) (bytes : List ℕ) (to : Route) → AllKeep u (route_left u addr bytes to (route_reply u addr bytes to))
route_kept u addr bytes (route.Signal its dev ev) = signal_kept u (translated u its dev.0 ev.0) (goes_where_on u its dev.0 ev.0)
route_kept u addr bytes route.Poke = poke_kept u addr.0 bytes (write_at u.memory addr.0 bytes)
route_kept u addr bytes route.NoRequester = all_kept u
route_kept u addr bytes route.Frame = all_kept u

-- ---- all calls

abbrev AllGo : Plain → Call → Plain → Type 0
AllGo u c w = (v : ℕ) → Goes (WritesEnableLpis v c) (Disables u v c) (redistributor u v) (redistributor w v)

all_go : (u : Plain) (c : Call) (w : Plain) → AllKeep u w → AllGo u c w
all_go u c w k v = goes (WritesEnableLpis v c) (Disables u v c) (redistributor u v) (redistributor w v) (k v)

module _ (u : Plain) (vcpu : Vcpu) (off size value : ℕ) where
  abbrev written_to : Redistributor
  written_to = written_gicr u.layout.shape u.memory (redistributor u vcpu.0) off size value

  gicr_goes : AllGo u (call.WriteGicr vcpu off size value) (if u.layout.gicr then with_redistributor u vcpu.0 written_to else u)
  gicr_goes =
      let c : Call = call.WriteGicr vcpu off size value in
      let here : u.layout.gicr ≡ true → Goes (WritesEnableLpis vcpu.0 c) (Disables u vcpu.0 c) (redistributor u vcpu.0) written_to = λ gicr.
      goes_by (IsEnabling off size value) ((u.layout.shape.linux ≡ true) × IsDisabling off size value) (WritesEnableLpis vcpu.0 c) (Disables u vcpu.0 c)
      (redistributor u vcpu.0) written_to (λ p. (refl, p.0, p.1, p.2)) (λ q. (gicr, q.0, (refl, q.1.0, q.1.1, q.1.2)))
      (written_goes u.layout.shape u.memory (redistributor u vcpu.0) off size value) in
      cond_both u.layout.gicr (with_redistributor u vcpu.0 written_to) u (AllGo u c)
      (λ gicr k. at_set (λ n. Goes (WritesEnableLpis n c) (Disables u n c)) u.redistributors vcpu.0 k written_to no_redistributor
      (λ n r. goes (WritesEnableLpis n c) (Disables u n c) r r (kept r)) (here gicr))
      (λ _. all_go u c u (all_kept u))

calls_keep : (u : Plain) (c : Call) → AllKeep u (answer u c).1 → AllGo u c (answer u c).1
calls_keep u c k = all_go u c (answer u c).1 k

pub calls_go : (u : Plain) (c : Call) → AllGo u c (answer u c).1
unfolding reply_of left written
calls_go u (call.Signal its dev ev) = calls_keep u (call.Signal its dev ev) (signal_kept u (translated u its dev.0 ev.0) (goes_where_on u its dev.0 ev.0))
calls_go u (call.Take vcpu) = calls_keep u (call.Take vcpu) (take_kept u vcpu.0 (lowest (redistributor u vcpu.0)))
calls_go u (call.Show vcpu) = calls_keep u (call.Show vcpu) (all_kept u)
calls_go u (call.Best vcpu mask) = calls_keep u (call.Best vcpu mask) (all_kept u)
calls_go u (call.Claim vcpu intid) = calls_keep u (call.Claim vcpu intid) (take_kept u vcpu.0 (claimed (redistributor u vcpu.0) intid.0))
calls_go u (call.Poke addr bytes) = calls_keep u (call.Poke addr bytes) (poke_kept u addr.0 bytes (write_at u.memory addr.0 bytes))
calls_go u (call.Peek addr count) = calls_keep u (call.Peek addr count) (all_kept u)
calls_go u (call.ReadReg its off size) = calls_keep u (call.ReadReg its off size) (all_kept u)
calls_go u (call.WriteReg its off size value) = calls_keep u (call.WriteReg its off size value) (all_kept u)
calls_go u (call.ReadGicr vcpu off size) = calls_keep u (call.ReadGicr vcpu off size) (all_kept u)
calls_go u (call.WriteGicr vcpu off size value) = gicr_goes u vcpu off size value
calls_go u (call.Step its) = calls_keep u (call.Step its) (step_kept u its)
calls_go u call.Save = calls_keep u call.Save (save_kept u (savable u))
calls_go u call.Copy = calls_keep u call.Copy (all_kept u)
calls_go u (call.Dma req addr bytes to) = calls_keep u (call.Dma req addr bytes to) (route_kept u addr bytes to)

pub stay_on : LpisStayOn
stay_on u v c on none = ⊎_elim (λ x. x) (λ q. absurd (none q)) ((calls_go u c v).stays on)

module _ (seen : Redistributor → Bool) (none : seen no_redistributor ≡ false) where
  off_there : (u : Plain) (v k : ℕ) (r : Redistributor) → k ≡ v → seen r ≡ false → seen (redistributor (with_redistributor u k r) v) ≡ false
  off_there u v k r e off =
      subst (λ (n : ℕ). seen (redistributor (with_redistributor u k r) n) ≡ false) e
      (elim (cases_lt k (length u.redistributors)) [
        | inl within ↦ ap seen (get_or-set_same u.redistributors k r no_redistributor within) ∙ off
        | inr past ↦ ap seen (get_or_past (set u.redistributors k r) k no_redistributor
            (let size = length-set u.redistributors k r in omega (arith, size, past))) ∙ none
      ])

  off_after : (u : Plain) (v : ℕ) (c : Call) → Disables u v c → ((r : Redistributor) → seen (turned_off_of u.layout.shape r) ≡ false)
      → ((redistributor u v).bases.on ≡ false → seen (redistributor u v) ≡ false) → seen (redistributor (answer u c).1 v) ≡ false
  unfolding left
  off_after u v (call.WriteGicr vcpu off size value) d turned was =
      let x : Redistributor = written_gicr u.layout.shape u.memory (redistributor u vcpu.0) off size value in
      let here : (redistributor u vcpu.0).bases.on ≡ false → seen (redistributor u vcpu.0) ≡ false =
      subst (λ (n : ℕ). (redistributor u n).bases.on ≡ false → seen (redistributor u n) ≡ false) (sym d.2.0) was in
      ap (λ (b : Bool). seen (redistributor (if b then with_redistributor u vcpu.0 x else u) v)) d.0
      ∙ off_there u v vcpu.0 x d.2.0
      (written_off seen u.layout.shape u.memory (redistributor u vcpu.0) off size value d.1 (d.2.1, d.2.2, d.2.3) (turned (redistributor u vcpu.0)) here)
  off_after u v c d turned was = absurd d.2

pub turned_off : LpisAreTurnedOff
turned_off u v c d = (
  off_after (λ r. r.bases.on) refl u v c d (λ _. refl) (λ off. off),
  λ same. off_after (λ r. r.accepts) refl u v c d (λ _. refl) (λ off. same ∙ off),
)

pub taken_where_on : LpisAreTakenWhereOn
taken_where_on u v same = (
  (goes (Unit {0}) (Unit {0}) (redistributor u v) (redistributor (moved u) v) (migrated_kept u v)).taking same,
  λ c. (calls_go u c v).taking same,
)

pub only_a_write : OnlyAWriteTurnsOn
only_a_write u v c off on = record { write = (calls_go u c v).turned off on; off_before = off; on_after = on }

pub migrations_keep : MigrationsKeepOn
migrations_keep u v = (migrated_kept u v).on

-- ---- states in which nothing is pending where LPIs are off

abbrev pub Silent : Plain → Type 0
Silent u = (v : ℕ) → is_on u v ≡ false → pending_of u v ≡ []

-- and LPIs are taken where they are on
abbrev pub AllTake : Plain → Type 0
AllTake u = (v : ℕ) → TakesWhereOn (redistributor u v)

pub silent_after : (u : Plain) (c : Call) → Silent u → Silent (answer u c).1
silent_after u c h v off = (calls_go u c v).none (h v) off

pub silent_moved : (u : Plain) → Silent u → Silent (moved u)
silent_moved u h v off = (goes (Unit {0}) (Unit {0}) (redistributor u v) (redistributor (moved u) v) (migrated_kept u v)).none (h v) off

-- on after a call: they were, or it turned them on
pub on_after : (u : Plain) (v : ℕ) (c : Call) → is_on (answer u c).1 v ≡ true → (is_on u v ≡ true) ⊎ TurnsOn u v c
on_after u v c on = elim (cases_Bool (is_on u v)) [ inl was ↦ inl was | inr off ↦ inr (only_a_write u v c off on) ]

-- ---- replies

signal_tells : (u : Plain) (v : ℕ) (its : ℕ) (dev : DeviceId) (ev : EventId) (r : Result Target Cause) → IfOk r (λ target. is_on u target.vcpu.0 ≡ true)
    → TellsLpi v (call.Signal its dev ev) (reply.Signal (signal_reply r)) → is_on u v ≡ true
signal_tells u v its dev ev (Ok target) on same = subst (λ k. is_on u k ≡ true) same on
signal_tells u v its dev ev (Err cause) on h = absurd h

-- where an LPI is picked among the pending ones, LPIs are on
module _ (u : Plain) (v : ℕ) (at : Vcpu) (silent : Silent u) (pick : List ℕ → List ℕ → Option ℕ) (none : (config : List ℕ) → pick config [] ≡ None) where
  abbrev picked : Redistributor → Option ℕ
  picked r = pick r.config r.pending

  picked_on : (intid : ℕ) → picked (redistributor u at.0) ≡ Some intid → is_on u at.0 ≡ true
  picked_on intid e =
      let off_none : is_on u at.0 ≡ false → picked (redistributor u at.0) ≡ None = λ off.
      ap (pick (redistributor u at.0).config) (silent at.0 off) ∙ none (redistributor u at.0).config in
      true_from_ne_false (is_on u at.0) (λ off. let both : Some intid ≡ None = sym e ∙ off_none off in cc both)

  -- a call that tells of the one that is picked
  picked_tells : (c : Call) → ((intid : Intid) (priority : ℕ) → TellsLpi v c (reply.Ack (ack.Some intid priority)) → at.0 ≡ v)
      → (TellsLpi v c (reply.Ack ack.None) → ⊥) → (o : Option ℕ) → picked (redistributor u at.0) ≡ o
      → TellsLpi v c (reply.Ack (ack_of (redistributor u at.0) o)) → is_on u v ≡ true
  picked_tells c some unsaid None e h = absurd (unsaid h)
  picked_tells c some unsaid (Some intid) e h =
      subst (λ k. is_on u k ≡ true) (some (record { 0 = intid }) (priority_of (redistributor u at.0).config intid) h) (picked_on intid e)

module _ (u : Plain) (v req : ℕ) (addr : Addr) (bytes : List ℕ) (to : Route) where
  message_tells : (r : Result Target Cause) → IfOk r (λ target. is_on u target.vcpu.0 ≡ true)
      → TellsLpi v (call.Dma req addr bytes to) (reply.Signal (signal_reply r)) → is_on u v ≡ true
  message_tells (Ok target) on same = subst (λ k. is_on u k ≡ true) same on
  message_tells (Err cause) on h = absurd h

  poke_tells : (o : Option (List Window)) → TellsLpi v (call.Dma req addr bytes to) (poke_reply o) → is_on u v ≡ true
  poke_tells None h = absurd h
  poke_tells (Some memory) h = absurd h

dma_tells : (u : Plain) (v req : ℕ) (addr : Addr) (bytes : List ℕ) (to : Route) → TellsLpi v (call.Dma req addr bytes to) (route_reply u addr bytes to)
    → is_on u v ≡ true
dma_tells u v req addr bytes (route.Signal its dev ev) h =
    message_tells u v req addr bytes (route.Signal its dev ev) (translated u its dev.0 ev.0) (goes_where_on u its dev.0 ev.0) h
dma_tells u v req addr bytes route.Poke h = poke_tells u v req addr bytes route.Poke (write_at u.memory addr.0 bytes) h
dma_tells u v req addr bytes route.NoRequester h = absurd h
dma_tells u v req addr bytes route.Frame h = absurd h

-- a reply that tells of an LPI is given where LPIs are on
pub tells_on : (u : Plain) (v : ℕ) (c : Call) → Silent u → TellsLpi v c (reply_of u c) → is_on u v ≡ true
unfolding reply_of
tells_on u v (call.Signal its dev ev) silent h = signal_tells u v its dev ev (translated u its dev.0 ev.0) (goes_where_on u its dev.0 ev.0) h
tells_on u v (call.Take taker) silent h =
    picked_tells u v taker silent first_enabled (λ config. refl) (call.Take taker) (λ _ _ same. same) (λ x. x) (lowest (redistributor u taker.0)) refl h
tells_on u v (call.Show shown) silent h =
    picked_tells u v shown silent first_enabled (λ config. refl) (call.Show shown) (λ _ _ same. same) (λ x. x) (lowest (redistributor u shown.0)) refl h
tells_on u v (call.Best shown mask) silent h =
    picked_tells u v shown silent (λ config. first_by_priority config mask) (λ config. refl) (call.Best shown mask) (λ _ _ same. same) (λ x. x)
    (best (redistributor u shown.0) mask) refl h
tells_on u v (call.Claim taker intid) silent h =
    picked_tells u v taker silent (λ config. claimable config intid.0) (λ config. refl) (call.Claim taker intid) (λ _ _ same. same) (λ x. x)
    (claimed (redistributor u taker.0) intid.0) refl h
tells_on u v (call.Poke addr bytes) silent h = absurd h
tells_on u v (call.Peek addr count) silent h = absurd h
tells_on u v (call.ReadReg its off size) silent h = absurd h
tells_on u v (call.WriteReg its off size value) silent h = absurd h
tells_on u v (call.ReadGicr vcpu off size) silent h = absurd h
tells_on u v (call.WriteGicr vcpu off size value) silent h = absurd h
tells_on u v (call.Step its) silent h = absurd h
tells_on u v call.Save silent h = absurd h
tells_on u v call.Copy silent h = absurd h
tells_on u v (call.Dma req addr bytes to) silent h = dma_tells u v req addr bytes to h

-- and an LPI is pending only there
pub pending_on : (u : Plain) (v intid : ℕ) → Silent u → is_pending intid (pending_of u v) ≡ true → is_on u v ≡ true
pending_on u v intid silent h =
    true_from_ne_false (is_on u v) (λ off. both_ways (is_pending intid (pending_of u v)) (ap (is_pending intid) (silent v off)) h)
