-- Pending bits that no event leads to: without them a sound state is sound, and just they are gone.
use Rattle.std.proofs.Common.{◌≡◌, ℕ, zero, suc, ◌+◌, Bool, true, eqb, List, [], ◌∷◌, length, filter, get_or, Some, refl, ap, subst, ◌∙◌, arith}
use Rattle.std.specs.Prelude.{slice_get}
use Rattle.std.proofs.lemmas.Bool.{eqb-true}
use Rattle.std.proofs.lemmas.Map.Views.{any-filter_same}
use Rattle.std.proofs.lemmas.List.Kept.{IsStrictlyIncreasing-filter}
use Rattle.std.proofs.lemmas.Option.{same_Some}
use Rattle.guest_windows.specs.Windows.{Window}
use Rattle.its_types.specs.Lpis.{is_pending}
use Rattle.its_types.specs.Ranges.{is_lpi}
use Rattle.its_plain.specs.Plain.{Translator, Redistributor, no_redistributor, pending_of}
use Rattle.its_plain.specs.Described.{is_led_to, led_to, without_stale}
use Rattle.its_plain.specs.Sound.{IsRedistributor}
use Rattle.its_plain.specs.declared.layout.Layout.{Layout}
use Rattle.plain_soundness.specs.Laws.{StaleBitsGo, StaleBitsGoSound}
use Rattle.plain_soundness.proofs.Lists.{all_filter}

abbrev with_some : (ℕ → Bool) → Redistributor → Redistributor
with_some p r = record r { pending = filter p r.pending }

-- what holds at each place with some of its pending LPIs alone holds of all
led_each : (P : ℕ → Redistributor → Type 0) (ts : List Translator) (vcpu : ℕ) (rs : List Redistributor)
    → ((k : ℕ) (r : Redistributor) (p : ℕ → Bool) → slice_get rs k ≡ Some r → P k (with_some p r))
    → (k : ℕ) (r : Redistributor) → slice_get (led_to ts vcpu rs) k ≡ Some r → P k r
led_each P ts vcpu [] h k r at = absurd cc
led_each P ts vcpu (x ∷ rs) h zero r at = subst (P 0) (same_Some (with_some (is_led_to ts vcpu) x) r at) (h 0 x (is_led_to ts vcpu) refl)
led_each P ts vcpu (x ∷ rs) h (suc k) r at =
    led_each (λ n. P (suc n)) ts (suc vcpu) rs (λ n y p there. h (suc n) y p there) k r at

pub led_length : (ts : List Translator) (vcpu : ℕ) (rs : List Redistributor) → length (led_to ts vcpu rs) ≡ length rs
led_length ts vcpu [] = refl
led_length ts vcpu (r ∷ rs) = ap (λ (n : ℕ). suc n) (led_length ts (suc vcpu) rs)

some_sound : (l : Layout) (memory : List Window) (v : ℕ) (r : Redistributor) (p : ℕ → Bool) → IsRedistributor l memory v r
    → IsRedistributor l memory v (with_some p r)
some_sound l memory v r p h = record {
  rising = IsStrictlyIncreasing-filter p r.pending h.rising;
  lpis = all_filter (λ intid. is_lpi l.shape.lpi_bits intid ≡ true) p r.pending h.lpis;
  config = h.config;
  accepts = h.accepts;
  tables = h.tables;
  off_pending = λ off. ap (filter p) (h.off_pending off);
  off_config = h.off_config;
  kept = h.kept;
  described = h.described;
  always_on = h.always_on;
}

pub stale_go : StaleBitsGoSound
unfolding without_stale
stale_go u h = record {
  layout = h.layout;
  translators = h.translators;
  vcpus = led_length u.translators 0 u.redistributors ∙ h.vcpus;
  redistributors =
      led_each (IsRedistributor u.layout u.memory) u.translators 0 u.redistributors (λ v r p at.
      some_sound u.layout u.memory v r p (h.redistributors v r at));
  memory = h.memory;
  tracks = h.tracks;
  tracked = h.tracked;
}

-- ---- which bits go

led_at : (ts : List Translator) (first k vcpu : ℕ) (rs : List Redistributor) → first + k ≡ vcpu
    → (get_or (led_to ts first rs) k no_redistributor).pending ≡ filter (is_led_to ts vcpu) (get_or rs k no_redistributor).pending
led_at ts first k vcpu [] is = refl
led_at ts first zero vcpu (r ∷ rs) is = let here : first ≡ vcpu = omega (arith, is) in ap (λ (v : ℕ). filter (is_led_to ts v) r.pending) here
led_at ts first (suc k) vcpu (r ∷ rs) is = led_at ts (suc first) k vcpu rs (omega (arith, is))

pub stale_bits : StaleBitsGo
unfolding without_stale
stale_bits u vcpu intid =
    let leads = is_led_to u.translators vcpu in
    ap (is_pending intid) (led_at u.translators 0 vcpu vcpu u.redistributors (omega arith))
    ∙ any-filter_same (λ x. eqb x intid) leads (leads intid) (λ x same. ap leads (eqb-true x intid same)) (pending_of u vcpu)
