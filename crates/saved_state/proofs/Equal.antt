-- The state that a migration goes on from is an equal translator.
use Rattle.std.proofs.Common.{◌≡◌, ℕ, zero, suc, true, false, cond, List, [], ◌∷◌, map, get_or, refl, sym, ap}
use Rattle.std.proofs.lemmas.List.{length-map}
use Rattle.guest_windows.specs.Windows.{Window}
use Rattle.gicr_regs.specs.Redistributors.{config_in}
use Rattle.its_types.specs.declared.machine.Shape.{Shape}
use Rattle.its_plain.specs.Plain.{Redistributor, PendState, no_redistributor, conf_of, pend_of}
use Rattle.its_plain.specs.Saved.{saved, reloaded, moved}
use Rattle.saved_state.specs.Laws.{MovedIsEqual}

reloaded_bases : (s : Shape) (memory : List Window) (r : Redistributor) → r.bases ≡ (reloaded s memory r).bases
reloaded_bases s memory r =
    elim r.bases.on as (λ b. r.bases ≡ (cond b (record (conf_of r) { config = config_in s memory (conf_of r) }) (conf_of r)).bases) [
      | true ↦ refl
      | false ↦ refl
    ]

module _ (s : Shape) (memory : List Window) where
  bases_stay : (rs : List Redistributor) (v : ℕ) → (get_or rs v no_redistributor).bases ≡ (get_or (map (reloaded s memory) rs) v no_redistributor).bases
  bases_stay [] v = refl
  bases_stay (r ∷ rs) zero = reloaded_bases s memory r
  bases_stay (r ∷ rs) (suc v) = bases_stay rs v

  -- a configuration that is read again says nothing of what is pending
  pend_stays : (rs : List Redistributor) (v : ℕ) → pend_of (get_or rs v no_redistributor) ≡ pend_of (get_or (map (reloaded s memory) rs) v no_redistributor)
  pend_stays [] v = refl
  pend_stays (r ∷ rs) zero = refl
  pend_stays (r ∷ rs) (suc v) = pend_stays rs v

pub moved_equal : MovedIsEqual
unfolding moved
moved_equal u = record {
  layout = refl;
  translators = refl;
  registers = λ i. refl;
  devices = λ i dev. refl;
  events = λ i dev ev. refl;
  collections = λ i icid. refl;
  vcpus = sym (length-map u.redistributors (reloaded u.layout.shape (saved u)));
  on = λ v. ap (λ (p : PendState). p.accepts) (pend_stays u.layout.shape (saved u) u.redistributors v);
  bases = λ v. bases_stay u.layout.shape (saved u) u.redistributors v;
  pending = λ v. ap (λ (p : PendState). p.pending) (pend_stays u.layout.shape (saved u) u.redistributors v);
}
