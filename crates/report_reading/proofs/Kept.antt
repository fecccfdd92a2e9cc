-- What leaves memory as it is, and as many redistributors.
use Rattle.std.proofs.Common.{◌≡◌, ℕ, eqb, List, [], length, map, refl, ◌∙◌}
use Rattle.std.proofs.lemmas.Bool.{cond_both}
use Rattle.std.proofs.lemmas.List.{length-set, length-map}
use Rattle.gicr_regs.specs.Redistributors.{Redistributor}
use Rattle.its_types.specs.Lpis.{with_lpi, with_lpis, without_lpi}
use Rattle.its_plain.specs.Plain.{Plain, redistributor, pending_of, with_redistributor, with_pending}
use Rattle.its_plain.specs.Commands.{lpi_set, lpi_cleared, all_moved, all_reread_at, reread}

abbrev pub Keeps : Plain → Plain → Type 0
Keeps u w = (w.memory ≡ u.memory) × (length w.redistributors ≡ length u.redistributors)

pub kept : (u : Plain) → Keeps u u
kept u = (refl, refl)

pub kept_then : (u w x : Plain) → Keeps u w → Keeps w x → Keeps u x
kept_then u w x a b = (b.0 ∙ a.0, b.1 ∙ a.1)

pub kept_set : (u : Plain) (vcpu : ℕ) (r : Redistributor) → Keeps u (with_redistributor u vcpu r)
kept_set u vcpu r = (refl, length-set u.redistributors vcpu r)

pub kept_map : (u : Plain) (f : Redistributor → Redistributor) → Keeps u (record u { redistributors = map f u.redistributors })
kept_map u f = (refl, length-map u.redistributors f)

pub kept_pending : (u : Plain) (vcpu : ℕ) (pending : List ℕ) → Keeps u (with_pending u vcpu pending)
kept_pending u vcpu pending = kept_set u vcpu (record (redistributor u vcpu) { pending = pending })

pub set_kept : (u : Plain) (intid vcpu : ℕ) → Keeps u (lpi_set intid vcpu u)
set_kept u intid vcpu = kept_pending u vcpu (with_lpi intid (pending_of u vcpu))

pub cleared_kept : (u : Plain) (intid vcpu : ℕ) → Keeps u (lpi_cleared intid vcpu u)
cleared_kept u intid vcpu = kept_pending u vcpu (without_lpi intid (pending_of u vcpu))

pub all_moved_kept : (u : Plain) (from to : ℕ) → Keeps u (all_moved from to u)
unfolding all_moved
all_moved_kept u from to =
    let emptied : Plain = with_pending u from [] in
    let all : List ℕ = with_lpis (pending_of u from) (pending_of u to) in
    cond_both (eqb from to) u (with_pending emptied to all) (Keeps u) (λ _. kept u)
    (λ _. kept_then u emptied (with_pending emptied to all) (kept_pending u from []) (kept_pending emptied to all))

pub all_reread : (u : Plain) (intids : List ℕ) → Keeps u (reread intids u)
all_reread u intids = kept_map u (all_reread_at u.memory intids)
