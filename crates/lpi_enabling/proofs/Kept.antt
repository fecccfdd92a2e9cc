-- What leaves each redistributor's LPIs on or off, and makes none pending while they are off.
use Rattle.std.proofs.Common.{◌≡◌, ℕ, zero, suc, ◌+◌, ◌-◌, true, false, eqb, List, [], ◌∷◌, map, get_or, set, Option, Some, None, refl, ap, ◌∙◌}
use Rattle.std.proofs.lemmas.Bool.{both_ways, cond_both}
use Rattle.guest_windows.specs.Windows.{Window, byte_at}
use Rattle.gicr_regs.specs.Redistributors.{conf_of, with_conf, conf_with_byte, conf_reread_at, reread_at, all_reread_at, reloaded, config_in}
use Rattle.its_types.specs.Lpis.{with_lpi, with_lpis, without_lpi}
use Rattle.its_types.specs.declared.machine.Shape.{Shape}
use Rattle.its_plain.specs.Plain.{Plain, Redistributor, redistributor, no_redistributor, pending_of, is_on, with_pending}
use Rattle.its_plain.specs.Commands.{lpi_set, lpi_cleared, all_moved, reread}

-- ---- lists

-- what holds between each element and itself, and where one is replaced between the old one and the new one
pub at_set : {X : Type 0} (R : ℕ → X → X → Type 0) (xs : List X) (i k : ℕ) (y d : X) → ((n : ℕ) (x : X) → R n x x) → R i (get_or xs i d) y
    → R k (get_or xs k d) (get_or (set xs i y) k d)
at_set R [] i k y d same new = same k d
at_set R (x ∷ xs) zero zero y d same new = new
at_set R (x ∷ xs) zero (suc k) y d same new = same (suc k) (get_or xs k d)
at_set R (x ∷ xs) (suc i) zero y d same new = same zero x
at_set R (x ∷ xs) (suc i) (suc k) y d same new = at_set (λ n. R (suc n)) xs i k y d (λ n. same (suc n)) new

-- or where all were changed
pub at_map : {X : Type 0} (R : X → X → Type 0) (f : X → X) (xs : List X) (k : ℕ) (d : X) → ((x : X) → R x (f x)) → R d d
    → R (get_or xs k d) (get_or (map f xs) k d)
at_map R f [] k d each none = none
at_map R f (x ∷ xs) zero d each none = each x
at_map R f (x ∷ xs) (suc k) d each none = at_map R f xs k d each none

-- ---- redistributors

pub record Keeps (r s : Redistributor) : Type 0 where
  pub on : s.accepts ≡ r.accepts
  pub bases : s.bases.on ≡ r.bases.on
  pub none : r.accepts ≡ false → r.pending ≡ [] → s.pending ≡ []

pub kept : (r : Redistributor) → Keeps r r
kept r = record { on = refl; bases = refl; none = λ _ e. e }

-- whatever is pending where they are on
pub kept_on : (r : Redistributor) (pending : List ℕ) → r.accepts ≡ true → Keeps r (record r { pending = pending })
kept_on r pending on = record { on = refl; bases = refl; none = λ off _. absurd (both_ways r.accepts off on) }

-- one LPI less
pub kept_without : (r : Redistributor) (intid : ℕ) → Keeps r (record r { pending = without_lpi intid r.pending })
kept_without r intid = record { on = refl; bases = refl; none = λ _ e. ap (without_lpi intid) e }

kept_then : (r s t : Redistributor) → Keeps r s → Keeps s t → Keeps r t
kept_then r s t a b = record { on = b.on ∙ a.on; bases = b.bases ∙ a.bases; none = λ off e. b.none (a.on ∙ off) (a.none off e) }

byte_kept : (intid : ℕ) (r : Redistributor) (byte : Option ℕ) → Keeps r (with_conf (conf_with_byte intid (conf_of r) byte) r)
byte_kept intid r None = kept r
byte_kept intid r (Some byte) = record { on = refl; bases = refl; none = λ _ e. e }

pub reread_kept : (memory : List Window) (intid : ℕ) (r : Redistributor) → Keeps r (reread_at memory intid r)
unfolding conf_reread_at
reread_kept memory intid r =
    cond_both r.bases.on (conf_with_byte intid (conf_of r) (byte_at memory (r.bases.prop.table.0 + (intid - 8192)))) (conf_of r)
    (λ c. Keeps r (with_conf c r))
    (λ _. byte_kept intid r (byte_at memory (r.bases.prop.table.0 + (intid - 8192)))) (λ _. kept r)

all_reread_kept : (memory : List Window) (intids : List ℕ) (r : Redistributor) → Keeps r (all_reread_at memory intids r)
all_reread_kept memory [] r = kept r
all_reread_kept memory (intid ∷ intids) r =
    kept_then r (reread_at memory intid r) (all_reread_at memory intids (reread_at memory intid r)) (reread_kept memory intid r)
    (all_reread_kept memory intids (reread_at memory intid r))

pub reloaded_kept : (s : Shape) (memory : List Window) (r : Redistributor) → Keeps r (reloaded s memory r)
reloaded_kept s memory r =
    cond_both r.bases.on (record (conf_of r) { config = config_in s memory (conf_of r) }) (conf_of r) (λ c. Keeps r (with_conf c r))
    (λ _. record { on = refl; bases = refl; none = λ _ e. e }) (λ _. kept r)

-- ---- states

abbrev pub AllKeep : Plain → Plain → Type 0
AllKeep u w = (v : ℕ) → Keeps (redistributor u v) (redistributor w v)

pub all_kept : (u : Plain) → AllKeep u u
all_kept u v = kept (redistributor u v)

pub all_kept_then : (u w x : Plain) → AllKeep u w → AllKeep w x → AllKeep u x
all_kept_then u w x a b v = kept_then (redistributor u v) (redistributor w v) (redistributor x v) (a v) (b v)

pending_kept : (u : Plain) (v : ℕ) (pending : List ℕ) → Keeps (redistributor u v) (record (redistributor u v) { pending = pending })
    → AllKeep u (with_pending u v pending)
pending_kept u v pending new k = at_set (λ _. Keeps) u.redistributors v k (record (redistributor u v) { pending = pending }) no_redistributor
    (λ _ r. kept r) new

pub set_kept : (u : Plain) (intid v : ℕ) → is_on u v ≡ true → AllKeep u (lpi_set intid v u)
set_kept u intid v on = pending_kept u v (with_lpi intid (pending_of u v)) (kept_on (redistributor u v) (with_lpi intid (pending_of u v)) on)

pub cleared_kept : (u : Plain) (intid v : ℕ) → AllKeep u (lpi_cleared intid v u)
cleared_kept u intid v = pending_kept u v (without_lpi intid (pending_of u v)) (kept_without (redistributor u v) intid)

pub all_moved_kept : (u : Plain) (from to : ℕ) → is_on u to ≡ true → AllKeep u (all_moved from to u)
unfolding all_moved
all_moved_kept u from to on =
    let emptied : Plain = with_pending u from [] in
    let empty : AllKeep u emptied = pending_kept u from [] (record { on = refl; bases = refl; none = λ _ _. refl }) in
    let all : List ℕ = with_lpis (pending_of u from) (pending_of u to) in
    cond_both (eqb from to) u (with_pending emptied to all) (AllKeep u) (λ _. all_kept u)
    (λ _. all_kept_then u emptied (with_pending emptied to all) empty
    (pending_kept emptied to all (kept_on (redistributor emptied to) all ((empty to).on ∙ on))))

pub all_reread : (u : Plain) (intids : List ℕ) → AllKeep u (reread intids u)
all_reread u intids k = at_map Keeps (all_reread_at u.memory intids) u.redistributors k no_redistributor (all_reread_kept u.memory intids)
    (kept no_redistributor)
