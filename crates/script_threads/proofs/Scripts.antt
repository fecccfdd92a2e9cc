-- Legs within limits may be run.
use Rattle.std.proofs.Common.{◌≡◌, ℕ, ◌<◌, ◌≤◌, ◌&&◌, nat_lt, nat_le, Bool, true, false, List, [], ◌∷◌, length, refl, sym, ap, ◌∙◌, subst}
use Rattle.std.proofs.Common.{arith, true≢false}
use Rattle.std.specs.List.{AllByRecursion, list_all}
use Rattle.std.proofs.lemmas.Bool.{ltb-true, leb-true}
use Rattle.std.proofs.lemmas.List.{length-map}
use Rattle.its_types.specs.declared.ids.Addr.{Addr}
use Rattle.its_plain.specs.Doorbells.{route_of}
use Rattle.its_plain.specs.Machine.{layout_of}
use Rattle.its_plain.specs.Runs.{Thread, Phase}
use Rattle.its_plain.specs.declared.call.Call.{Call}
use Rattle.its_plain.specs.declared.call.Call.TheVariants as call
use Rattle.its_plain.specs.declared.call.Route.{Route}
use Rattle.its_plain.specs.declared.desc.Desc.{Desc}
use Rattle.its_plain.specs.declared.desc.Requesters.{Requesters}
use Rattle.its_plain.specs.declared.layout.Layout.{Layout}
use Rattle.event_script.specs.Limits.{is_call, is_thread, is_phase}
use Rattle.event_script.specs.declared.draft.TheConstants.{MOST_PHASES, MOST_THREADS, MOST_CALLS}
use Rattle.event_script.proofs.Reached.{call_described}
use Rattle.its_steps.specs.Parts.{translator_count, vcpu_count}
use Rattle.its_turns.specs.Machines.{setup}
use Rattle.its_turns.specs.Opening.{kept_its}
use Rattle.its_turns.specs.declared.machine.Machine.{Machine}
use Rattle.device_port.specs.Routes.{AreDevices}
use Rattle.device_port.proofs.Doorbells.{devices, kept}
use Rattle.script_threads.specs.Asks.{MayAsk, MayAskAll, MayRun}
use Rattle.script_threads.specs.Scripts.{IsOfDesc, LegsMayRun}

left_true : (a b : Bool) → (a && b) ≡ true → a ≡ true
left_true true b e = refl
left_true false b e = absurd (true≢false (sym e))

right_true : (a b : Bool) → (a && b) ≡ true → b ≡ true
right_true true b e = e
right_true false b e = absurd (true≢false (sym e))

all_so : {X : Type 0} (f : X → Bool) (P : X → Type 0) → ((x : X) → f x ≡ true → P x) → (xs : List X) → list_all f xs ≡ true → AllByRecursion P xs
all_so f P each [] e = tt
all_so f P each (x ∷ xs) e = (each x (left_true (f x) (list_all f xs) e), all_so f P each xs (right_true (f x) (list_all f xs) e))

same_route_in : (req other : ℕ) (addr at : Addr) (bytes codes : List ℕ) (r s : Route) → call.Dma req addr bytes r ≡ call.Dma other at codes s → r ≡ s
same_route_in req other addr at bytes codes r s e = cc

module _ (d : Desc) (m : Machine) (of : IsOfDesc d m) where
  vcpus_are : vcpu_count (setup m) ≡ d.shape.vcpus
  vcpus_are = sym (ap (λ (l : Layout). l.shape.vcpus) (m.built.1 ∙ m.built.0)) ∙ ap (λ (e : Desc). (layout_of e).shape.vcpus) of.kept

  translators_are : translator_count (setup m) ≡ length d.translators
  translators_are = m.laid.0 ∙ (ap (λ (e : Desc). length e.translators) of.kept ∙ length-map d.translators kept_its)

  is_vcpu : (n : ℕ) → nat_lt n d.shape.vcpus ≡ true → n < vcpu_count (setup m)
  is_vcpu n e = let lt : n < d.shape.vcpus = ltb-true n d.shape.vcpus e in omega (arith, lt, vcpus_are)

  is_its : (n : ℕ) → nat_lt n (length d.translators) ≡ true → n < translator_count (setup m)
  is_its n e = let lt : n < length d.translators = ltb-true n (length d.translators) e in omega (arith, lt, translators_are)

  are_devices : AreDevices m.desc.requesters
  are_devices = subst (λ (rs : List Requesters). AreDevices rs) (ap (λ (e : Desc). e.requesters) (sym of.kept)) (devices d of.base of.made_is)

  route_is : (req : ℕ) (addr : Addr) (bytes : List ℕ) (to : Route) → is_call d (call.Dma req addr bytes to) ≡ true → to ≡ route_of m.desc req addr.0 bytes
  route_is req addr bytes to e =
      same_route_in req req addr addr bytes bytes to (route_of d req addr.0 bytes) (call_described d of.base req addr bytes to of.made_is e)
      ∙ (sym (kept d req addr.0 bytes) ∙ ap (λ (e : Desc). route_of e req addr.0 bytes) (sym of.kept))

  may_ask : (c : Call) → is_call d c ≡ true → MayAsk m c
  may_ask (call.Signal its dev ev) e = is_its its e
  may_ask (call.Take vcpu) e = is_vcpu vcpu.0 e
  may_ask (call.Show vcpu) e = is_vcpu vcpu.0 e
  may_ask (call.Poke addr bytes) e = tt
  may_ask (call.Peek addr count) e = tt
  may_ask (call.ReadReg its off size) e = is_its its (left_true (nat_lt its (length d.translators)) _ e)
  may_ask (call.WriteReg its off size value) e = is_its its (left_true (nat_lt its (length d.translators)) _ (left_true _ _ e))
  may_ask (call.ReadGicr vcpu off size) e = is_vcpu vcpu.0 (left_true (nat_lt vcpu.0 d.shape.vcpus) _ e)
  may_ask (call.WriteGicr vcpu off size value) e = is_vcpu vcpu.0 (left_true (nat_lt vcpu.0 d.shape.vcpus) _ (left_true _ _ e))
  may_ask (call.Step its) e = is_its its e
  may_ask call.Save e = tt
  may_ask (call.Best vcpu mask) e = is_vcpu vcpu.0 e
  may_ask (call.Claim vcpu intid) e = is_vcpu vcpu.0 e
  may_ask call.Copy e = tt
  may_ask (call.Dma req addr bytes to) e = (are_devices, route_is req addr bytes to e)

  thread_runs : (calls : Thread) → is_thread d calls ≡ true → MayAskAll m calls
  thread_runs calls e = all_so (is_call d) (MayAsk m) may_ask calls (right_true (nat_le (length calls) MOST_CALLS) (list_all (is_call d) calls) e)

  phase_runs : (threads : Phase) → is_phase d threads ≡ true → MayRun m threads
  phase_runs threads e =
      all_so (is_thread d) (MayAskAll m) thread_runs threads (right_true (nat_lt 0 (length threads) && nat_le (length threads) MOST_THREADS)
      (list_all (is_thread d) threads) e)

phase_few : (d : Desc) (threads : Phase) → is_phase d threads ≡ true → length threads ≤ 64
phase_few d threads e =
    let counted = left_true (nat_lt 0 (length threads) && nat_le (length threads) MOST_THREADS) (list_all (is_thread d) threads) e in
    let most : length threads ≤ MOST_THREADS = leb-true (length threads) MOST_THREADS
    (right_true (nat_lt 0 (length threads)) (nat_le (length threads) MOST_THREADS) counted) in
    omega (arith, most)

pub legs_may_run_so : LegsMayRun
legs_may_run_so d m phases of e =
    let each : list_all (is_phase d) phases ≡ true = right_true (nat_le (length phases) MOST_PHASES) (list_all (is_phase d) phases) e in (
      leb-true (length phases) 256 (left_true (nat_le (length phases) MOST_PHASES) (list_all (is_phase d) phases) e),
      all_so (is_phase d) (λ threads. length threads ≤ 64) (phase_few d) phases each,
      all_so (is_phase d) (MayRun m) (phase_runs d m of) phases each,
    )
