-- The parts are those of the state without stale pending bits, once the sets are in their places.
use Rattle.std.proofs.Common.{◌≡◌, ℕ, zero, suc, ◌+◌, ◌<◌, ◌≤◌, false, List, [], ◌∷◌, length, filter, Option, Some, None, refl, sym, ap, subst, ◌∙◌}
use Rattle.std.proofs.Common.{inl, inr, arith, zero-add}
use Rattle.std.specs.Prelude.{is_some, slice_get, slice_index_or}
use Rattle.std.specs.Option.{option_map}
use Rattle.std.proofs.lemmas.Bool.{cases_lt}
use Rattle.std.proofs.lemmas.Option.{same_Some, get_or_from_slice_get}
use Rattle.its_plain.specs.Described.{is_led_to, led_to, without_stale}
use Rattle.its_plain.specs.Plain.{Translator, Redistributor, PendState, conf_of, pend_of}
use Rattle.lpi_config.specs.Conf.{Conf}
use Rattle.lpi_pending.specs.InHand.{RedistParts, conf_in, pend_in, pend_state}
use Rattle.lpi_pending.specs.PendingSets.{PendingSet}
use Rattle.lpi_pending.specs.Pend.{Pend}
use Rattle.cmd_exec.specs.InHand.{held_lpis}
use Rattle.owned_parts.specs.Owned.{state_of_parts, IsConfOf, IsPendOf}
use Rattle.owned_parts.specs.declared.parts.Parts.{Parts}
use Rattle.cmd_exec.proofs.Places.{shown_of}
use Rattle.plain_soundness.proofs.Stale.{stale_go}
use Rattle.owned_machine.proofs.Kept.{AreHeldAlike, go, redists_are}
use Rattle.owned_machine.specs.Stale.{AreSetsBy, ArePut, FitsPlace, Test, led_in, set_by}
use Rattle.owned_machine.specs.Whole.{IsMachine, GoesOn}

-- ---- the redistributors of the state

abbrev chosen : List Translator → ℕ → Redistributor → Redistributor
chosen ts v r = record r { pending = filter (is_led_to ts v) r.pending }

led_at : (ts : List Translator) (from : ℕ) (rs : List Redistributor) (i : ℕ) → slice_get (led_to ts from rs) i ≡ option_map (chosen ts (from + i))
    (slice_get rs i)
led_at ts from [] i = refl
led_at ts from (r ∷ rs) zero = let e : from ≡ from + 0 = omega arith in ap (λ (k : ℕ). Some (chosen ts k r)) e
led_at ts from (r ∷ rs) (suc i) =
    let e : suc from + i ≡ from + suc i = omega arith in
    led_at ts (suc from) rs i ∙ ap (λ (k : ℕ). option_map (chosen ts k) (slice_get rs i)) e

led_here : (ts : List Translator) (rs : List Redistributor) (v : ℕ) → slice_get (led_to ts 0 rs) v ≡ option_map (chosen ts v) (slice_get rs v)
led_here ts rs v = led_at ts 0 rs v ∙ ap (λ (k : ℕ). option_map (chosen ts k) (slice_get rs v)) (zero-add v)

-- ---- the parts in hand

conf_same : (ts : List Translator) (v : ℕ) (o : Option Redistributor) → option_map conf_of (option_map (chosen ts v) o) ≡ option_map conf_of o
conf_same ts v None = refl
conf_same ts v (Some r) = refl

abbrev fewer : List Translator → ℕ → PendState → PendState
fewer ts v s = record s { pending = filter (is_led_to ts v) s.pending }

pend_fewer : (ts : List Translator) (v : ℕ) (o : Option Redistributor) → option_map pend_of (option_map (chosen ts v) o) ≡ option_map (fewer ts v)
    (option_map pend_of o)
pend_fewer ts v None = refl
pend_fewer ts v (Some r) = refl

-- where LPIs are off nothing is pending
none_off : (p : Parts) (v : ℕ) (q : Pend) → IsMachine p → pend_in p.redists v ≡ Some q → q.accepts ≡ false → q.pending.lpis ≡ []
none_off p v q m is off =
    let x = shown_of pend_of (slice_get (state_of_parts p).redistributors v) (pend_state q) ((redists_are p m).1 v q is).same in
    let r = m.sound.redistributors v x.0 x.1 in
    let bases_off : x.0.bases.on ≡ false = sym r.accepts ∙ ap (λ (s : PendState). s.accepts) x.2 ∙ off in
    sym (ap (λ (s : PendState). s.pending) x.2) ∙ r.off_pending bases_off

-- a set of those that are pending has its place
pub set_fits : (p : Parts) (test : Test) (v : ℕ) (set : PendingSet) → IsMachine p → v < p.layout.shape.vcpus → set ≡ set_by p test v
    → FitsPlace set (pend_in p.redists v)
set_fits p test v set m lt is =
    let x = (m.all_in_hand v lt).1 in
    let q = x.0 in
    let of_held : Option Pend → PendingSet = λ (o : Option Pend). record { lpi_bits = p.layout.shape.lpi_bits; lpis = filter (test v) (held_lpis o) } in
    let of_these : List ℕ → PendingSet = λ (xs : List ℕ). record { lpi_bits = p.layout.shape.lpi_bits; lpis = xs } in
    let of_bits : ℕ → PendingSet = λ (n : ℕ). record { lpi_bits = n; lpis = q.pending.lpis } in
    let here : set ≡ of_held (Some q) = is ∙ ap of_held x.1 in
    subst (FitsPlace set) (sym x.1) (
      ap (λ (s : PendingSet). s.lpi_bits) is ∙ sym x.2,
      λ off.
          let none = none_off p v q m x.1 off in
          here ∙ ap of_these (ap (λ (xs : List ℕ). filter (test v) xs) none ∙ sym none) ∙ ap of_bits (sym x.2),
    )

module _ (p : Parts) (new : RedistParts) (sets : List PendingSet) (m : IsMachine p) (by : AreSetsBy p (led_in p) sets)
    (put : ArePut p.redists sets (length sets) new) where
  abbrev ts : List Translator
  ts = (state_of_parts p).translators

  abbrev rs : List Redistributor
  rs = (state_of_parts p).redistributors

  put_here : (v : ℕ) (q : Pend) → v < p.layout.shape.vcpus → pend_in p.redists v ≡ Some q
      → pend_in new v ≡ Some (record q { pending = record { lpi_bits = p.layout.shape.lpi_bits; lpis = filter (led_in p v) q.pending.lpis } })
  put_here v q lt is =
      let long : v < length sets = let many = by.as_many in omega (arith, lt, many) in
      put.put v q long is
      ∙ ap (λ (s : PendingSet). Some (record q { pending = s })) (get_or_from_slice_get sets v (set_by p (led_in p) v) q.pending (by.each v lt))
      ∙ ap (λ (o : Option Pend). Some (record q {
        pending = record { lpi_bits = p.layout.shape.lpi_bits; lpis = filter (led_in p v) (held_lpis o) };
      })) is

  else_same : (v : ℕ) → p.layout.shape.vcpus ≤ v → pend_in new v ≡ None
  else_same v past = put.rest v (λ lt. let many = by.as_many in omega (arith, lt, many, past)) ∙ (m.no_others v past).pend

  pend_held : (v : ℕ) → is_some (pend_in new v) ≡ is_some (pend_in p.redists v)
  pend_held v =
      elim (cases_lt v p.layout.shape.vcpus) [
        | inl lt ↦
            let x = (m.all_in_hand v lt).1 in
            ap (λ (o : Option Pend). is_some o) (put_here v x.0 lt x.1) ∙ ap (λ (o : Option Pend). is_some o) (sym x.1)
        | inr past ↦ ap (λ (o : Option Pend). is_some o) (else_same v past) ∙ ap (λ (o : Option Pend). is_some o) (sym (m.no_others v past).pend)
      ]

  alike : AreHeldAlike new p.redists
  alike = record { confs = λ v. ap (λ (xs : List (Option Conf)). is_some (slice_index_or xs v None)) put.confs; pends = pend_held }

  confs_are : (v : ℕ) (c : Conf) → conf_in new v ≡ Some c → IsConfOf (without_stale (state_of_parts p)) v c
  unfolding without_stale
  confs_are v c is =
      let h = (redists_are p m).0 v c (ap (λ (xs : List (Option Conf)). slice_index_or xs v None) (sym put.confs) ∙ is) in
      record { lpis = h.lpis; same = ap (λ (o : Option Redistributor). option_map conf_of o) (led_here ts rs v) ∙ conf_same ts v (slice_get rs v) ∙ h.same }

  pend_at : (v : ℕ) (q x : Pend) → v < p.layout.shape.vcpus → pend_in p.redists v ≡ Some x → pend_in new v ≡ Some q
      → IsPendOf (without_stale (state_of_parts p)) v q
  unfolding without_stale
  pend_at v q x lt old is =
      let h = (redists_are p m).1 v x old in
      subst (IsPendOf (without_stale (state_of_parts p)) v) (same_Some _ q (sym (put_here v x lt old) ∙ is)) (record {
        lpis = refl;
        same = ap (λ (o : Option Redistributor). option_map pend_of o) (led_here ts rs v) ∙ pend_fewer ts v (slice_get rs v)
            ∙ ap (λ (o : Option PendState). option_map (fewer ts v) o) h.same;
      })

  pends_are : (v : ℕ) (q : Pend) → pend_in new v ≡ Some q → IsPendOf (without_stale (state_of_parts p)) v q
  pends_are v q is =
      elim (cases_lt v p.layout.shape.vcpus) [
        | inl lt ↦ let x = (m.all_in_hand v lt).1 in pend_at v q x.0 lt x.1 is
        | inr past ↦ absurd (let no : None ≡ Some q = sym (else_same v past) ∙ is in cc)
      ]

  pub unstale : GoesOn (record p { redists = new }) (without_stale (state_of_parts p))
  unfolding without_stale
  unstale =
      go p (record p { redists = new }) (without_stale (state_of_parts p)) m refl alike refl (confs_are, pends_are) refl refl refl
      (stale_go (state_of_parts p) m.sound)
