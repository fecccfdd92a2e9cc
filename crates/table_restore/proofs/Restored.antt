-- The redistributors, one after another.
use Rattle.std.proofs.Common.{◌≡◌, ℕ, zero, suc, ◌+◌, ◌<◌, ◌≤◌, Bool, true, false, not, List, [], ◌∷◌, length, Some, refl, sym}
use Rattle.std.proofs.Common.{subst, ap, ◌∙◌, inl, inr, arith}
use Rattle.std.specs.Prelude.{◌&&◌, slice_get}
use Rattle.std.proofs.lemmas.Bool.{cases_eq}
use Rattle.guest_windows.specs.Windows.{Window}
use Rattle.its_types.specs.declared.machine.Shape.{Shape}
use Rattle.its_types.specs.declared.translation.Bases.{Bases}
use Rattle.gicr_regs.specs.Redistributors.{has_tables}
use Rattle.its_plain.specs.Stands.{lacks_tables, IsRedistributorIn}
use Rattle.lpi_config.specs.Conf.{Conf}
use Rattle.lpi_pending.specs.InHand.{RedistParts, set_conf, set_pend, no_redists}
use Rattle.lpi_pending.specs.Pend.{Pend}
use Rattle.owned_parts.specs.Places.{AreInHandAt, AreNotInHand}
use Rattle.owned_parts.proofs.Places.{empty_places, none_in_hand, placed_here, still_there, still_empty, same_conf_room, same_pend_room}
use Rattle.table_restore.specs.Outcome.{IsOffRedist, IsRestoredRedist, AreRestoredRedists}

-- the redistributors below n are in hand, and no other
pub record AreRestoredBelow (s : Shape) (memory : List Window) (bases : List Bases) (redists : RedistParts) (n : ℕ) : Type 0 where
  pub confs : length redists.confs ≡ s.vcpus
  pub pends : length redists.pends ≡ s.vcpus
  pub clear : (vcpu : ℕ) (b : Bases) → vcpu < n → slice_get bases vcpu ≡ Some b → lacks_tables s memory b ≡ false
  pub each : (vcpu : ℕ) (b : Bases) → vcpu < n → slice_get bases vcpu ≡ Some b
      → (c : Conf) × (p : Pend) × AreInHandAt redists vcpu c p × IsRestoredRedist s memory b c p
  pub rest : (vcpu : ℕ) → n ≤ vcpu → AreNotInHand redists vcpu

pub none_below : (s : Shape) (memory : List Window) (bases : List Bases) (redists : RedistParts) → redists ≡ no_redists s.vcpus
    → AreRestoredBelow s memory bases redists 0
none_below s memory bases redists is =
    subst (λ (r : RedistParts). AreRestoredBelow s memory bases r 0) (sym is) (record {
      confs = (empty_places s.vcpus).conf_room;
      pends = (empty_places s.vcpus).pend_room;
      clear = λ v b lt e. absurd (omega (arith, lt));
      each = λ v b lt e. absurd (omega (arith, lt));
      rest = λ v le. none_in_hand s.vcpus v;
    })

module _ (s : Shape) (memory : List Window) (bases : List Bases) (redists now : RedistParts) (n : ℕ) (b : Bases) (r : Conf × Pend)
    (at : slice_get bases n ≡ Some b) (got : now ≡ set_pend (set_conf redists n (Some r.0)) n (Some r.1)) where
  same_base : (c : Bases) → slice_get bases n ≡ Some c → b ≡ c
  same_base c e = let two : Some b ≡ Some c = sym at ∙ e in cc

  pub one_more : n < s.vcpus → lacks_tables s memory b ≡ false → IsRestoredRedist s memory b r.0 r.1 → AreRestoredBelow s memory bases redists n
      → AreRestoredBelow s memory bases now (n + 1)
  one_more small has is before = record {
    confs = same_conf_room redists now n r.0 r.1 got ∙ before.confs;
    pends = same_pend_room redists now n r.0 r.1 got ∙ before.pends;
    clear = λ v c lt e. elim (cases_eq v n) [
      | inl same ↦ subst (λ (d : Bases). lacks_tables s memory d ≡ false) (same_base c (ap (slice_get bases) (sym same) ∙ e)) has
      | inr apart ↦ before.clear v c (omega (arith, apart)) e
    ];
    each = λ v c lt e. elim (cases_eq v n) [
      | inl same ↦ (
        r.0,
        r.1,
        subst (λ (k : ℕ). AreInHandAt now k r.0 r.1) (sym same)
            (placed_here redists now n r.0 r.1 got (let full = before.confs in omega (arith, full, small)) (let full = before.pends in omega (arith, full, small))),
        subst (λ (d : Bases). IsRestoredRedist s memory d r.0 r.1) (same_base c (ap (slice_get bases) (sym same) ∙ e)) is,
      )
      | inr apart ↦
          let w = before.each v c (omega (arith, apart)) e in
          (w.0, w.1, still_there redists now n r.0 r.1 got v w.0 w.1 apart w.2, w.3)
    ];
    rest = λ v le. still_empty redists now n r.0 r.1 got v (λ same. absurd (omega arith)) (before.rest v (omega arith));
  }

in_list : {X : Type 0} (xs : List X) (i : ℕ) (x : X) → slice_get xs i ≡ Some x → i < length xs
in_list [] i x e = absurd cc
in_list (y ∷ ys) zero x e = omega arith
in_list (y ∷ ys) (suc i) x e = let lt = in_list ys i x e in omega arith

pub all_restored : (s : Shape) (memory : List Window) (bases : List Bases) (redists : RedistParts) (n : ℕ) → length bases ≡ n
    → AreRestoredBelow s memory bases redists n → AreRestoredRedists s memory bases redists
all_restored s memory bases redists n all below = record {
  clear = λ v b e. below.clear v b (let lt = in_list bases v b e in omega arith) e;
  each = λ v b e. below.each v b (let lt = in_list bases v b e in omega arith) e;
  rest = λ v le. below.rest v (omega arith);
}

-- ---- a redistributor whose LPIs are off

pub off_restored : (s : Shape) (memory : List Window) (b : Bases) (r : Conf × Pend) → b.on ≡ false → IsOffRedist s b r.0 r.1
    → IsRestoredRedist s memory b r.0 r.1 × (lacks_tables s memory b ≡ false)
off_restored s memory b r off h = (
  record {
    conf_lpis = h.conf_lpis;
    pend_lpis = h.pend_lpis;
    stands = subst (IsRedistributorIn s memory b) (sym h.is) (record {
      bases = refl;
      accepts = sym off;
      config = λ on. absurd (let two : true ≡ false = sym on ∙ off in cc);
      pending = λ on. absurd (let two : true ≡ false = sym on ∙ off in cc);
      off_config = λ _. refl;
      off_pending = λ _. refl;
    });
  },
  ap (λ (t : Bool). t && not (has_tables s memory b)) off,
)
