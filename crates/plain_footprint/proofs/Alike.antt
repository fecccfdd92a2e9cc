-- States that have some parts in common, and what the same change of both leaves of that.
use Rattle.std.proofs.Common.{◌≡◌, ℕ, Bool, true, false, List, [], ◌∷◌, slice_get, Option, Some, None, refl, ap, sym, ◌∙◌, if◌then◌else◌}
use Rattle.std.specs.Option.{option_map}
use Rattle.std.proofs.lemmas.List.{length-set, length-map}
use Rattle.std.proofs.lemmas.Option.{slice_get-map}
use Rattle.guest_windows.specs.Windows.{Window}
use Rattle.dirty_log.specs.declared.tracked.Tracked.{Tracked}
use Rattle.its_types.specs.Lpis.{is_pending, with_lpi, without_lpi}
use Rattle.its_types.specs.Maps.{Maps}
use Rattle.its_types.specs.declared.ids.Vcpu.{Vcpu}
use Rattle.its_types.specs.declared.machine.Part.{Part}
use Rattle.its_types.specs.declared.machine.Part.TheVariants.{Maps as MapsOf, Mem, Shard, Conf, Pend}
use Rattle.its_plain.specs.Plain.{Plain, Translator, Redistributor, ConfState, PendState, no_translator, no_redistributor, translator, redistributor}
use Rattle.its_plain.specs.Plain.{maps_of, pending_of, is_on, conf_of, pend_of, with_conf, with_pend, joined, with_translator, with_maps, with_redistributor}
use Rattle.its_plain.specs.Plain.{with_pending}
use Rattle.its_plain.specs.Commands.{lpi_set, lpi_cleared, lpi_moved, lpis_moved, cleared_at}
use Rattle.its_plain.specs.Parts.{SamePart, IsIn, AgreesOn, conf, pend}
use Rattle.plain_footprint.proofs.Listed.{set_alike, same_or, seen_else, seen_alike, seen_or}
use Rattle.plain_footprint.proofs.Stays.{each_conf, same_pend}

-- ---- what they have in common

pub translator_same : (u w : Plain) (ps : List Part) (i : ℕ) → IsIn (MapsOf i) ps → AgreesOn u w ps → translator u i ≡ translator w i
translator_same u w ps i here a = same_or u.translators w.translators i no_translator (a.parts (MapsOf i) here)

pub conf_same : (u w : Plain) (ps : List Part) (v : ℕ) → IsIn (conf v) ps → AgreesOn u w ps → conf_of (redistributor u v) ≡ conf_of (redistributor w v)
conf_same u w ps v here a = seen_or conf_of u.redistributors w.redistributors v no_redistributor (a.parts (conf v) here)

pub pend_same : (u w : Plain) (ps : List Part) (v : ℕ) → IsIn (pend v) ps → AgreesOn u w ps → pend_of (redistributor u v) ≡ pend_of (redistributor w v)
pend_same u w ps v here a = seen_or pend_of u.redistributors w.redistributors v no_redistributor (a.parts (pend v) here)

-- with both parts in common the redistributors are the same
pub redist_same : (u w : Plain) (ps : List Part) (v : ℕ) → IsIn (conf v) ps → IsIn (pend v) ps → AgreesOn u w ps → redistributor u v ≡ redistributor w v
redist_same u w ps v c p a = λ d. joined (conf_same u w ps v c a d) (pend_same u w ps v p a d)

-- ---- one part changed

translators_alike : (u w : Plain) (i : ℕ) (t s : Translator) (p : Part) → t ≡ s → SamePart u w p → SamePart (with_translator u i t) (with_translator w i s) p
translators_alike u w i t s (MapsOf j) e a = set_alike u.translators w.translators i j t s a e
translators_alike u w i t s Mem e a = a
translators_alike u w i t s (Shard its n) e a = tt
translators_alike u w i t s (Conf v) e a = a
translators_alike u w i t s (Pend v) e a = a

pub agree_translator : (u w : Plain) (ps : List Part) (i : ℕ) (t s : Translator) → t ≡ s → AgreesOn u w ps
    → AgreesOn (with_translator u i t) (with_translator w i s) ps
agree_translator u w ps i t s e a = record {
  layout = a.layout;
  translators = length-set u.translators i t ∙ a.translators ∙ sym (length-set w.translators i s);
  redistributors = a.redistributors;
  parts = λ p here. translators_alike u w i t s p e (a.parts p here);
}

redists_alike : (u w : Plain) (v : ℕ) (r s : Redistributor) (p : Part) → r ≡ s → SamePart u w p → SamePart (with_redistributor u v r)
    (with_redistributor w v s) p
redists_alike u w v r s (MapsOf j) e a = a
redists_alike u w v r s Mem e a = a
redists_alike u w v r s (Shard its n) e a = tt
redists_alike u w v r s (Conf x) e a = seen_alike conf_of u.redistributors w.redistributors v x.0 r s a (ap (λ (x : Redistributor). conf_of x) e)
redists_alike u w v r s (Pend x) e a = seen_alike pend_of u.redistributors w.redistributors v x.0 r s a (ap (λ (x : Redistributor). pend_of x) e)

pub agree_redist : (u w : Plain) (ps : List Part) (v : ℕ) (r s : Redistributor) → r ≡ s → AgreesOn u w ps → AgreesOn (with_redistributor u v r)
    (with_redistributor w v s) ps
agree_redist u w ps v r s e a = record {
  layout = a.layout;
  translators = a.translators;
  redistributors = length-set u.redistributors v r ∙ a.redistributors
      ∙ sym (length-set w.redistributors v s);
  parts = λ p here. redists_alike u w v r s p e (a.parts p here);
}

-- what is seen of a redistributor that a change leaves as it was
kept_alike : {B : Type 0} (f : Redistributor → B) (u w : Plain) (v x : ℕ) (r s : Redistributor) → f r ≡ f (redistributor u v) → f s ≡ f (redistributor w v)
    → option_map f (slice_get u.redistributors x) ≡ option_map f (slice_get w.redistributors x)
    → option_map f (slice_get (with_redistributor u v r).redistributors x) ≡ option_map f (slice_get (with_redistributor w v s).redistributors x)
kept_alike f u w v x r s e g a =
    sym (seen_else f u.redistributors v x no_redistributor r e) ∙ (a ∙ seen_else f w.redistributors v x no_redistributor s g)

confs_alike : (u w : Plain) (v : ℕ) (c d : ConfState) (p : Part) → c ≡ d → SamePart u w p
    → SamePart (with_redistributor u v (with_conf c (redistributor u v))) (with_redistributor w v (with_conf d (redistributor w v))) p
confs_alike u w v c d (MapsOf j) e a = a
confs_alike u w v c d Mem e a = a
confs_alike u w v c d (Shard its n) e a = tt
confs_alike u w v c d (Conf x) e a =
    seen_alike conf_of u.redistributors w.redistributors v x.0 (with_conf c (redistributor u v)) (with_conf d (redistributor w v)) a e
confs_alike u w v c d (Pend x) e a = kept_alike pend_of u w v x.0 (with_conf c (redistributor u v)) (with_conf d (redistributor w v)) refl refl a

-- the same configuration in both, whatever is pending
pub agree_conf : (u w : Plain) (ps : List Part) (v : ℕ) (c d : ConfState) → c ≡ d → AgreesOn u w ps
    → AgreesOn (with_redistributor u v (with_conf c (redistributor u v))) (with_redistributor w v (with_conf d (redistributor w v))) ps
agree_conf u w ps v c d e a = record {
  layout = a.layout;
  translators = a.translators;
  redistributors = length-set u.redistributors v (with_conf c (redistributor u v)) ∙ a.redistributors
      ∙ sym (length-set w.redistributors v (with_conf d (redistributor w v)));
  parts = λ p here. confs_alike u w v c d p e (a.parts p here);
}

pends_alike : (u w : Plain) (v : ℕ) (c d : PendState) (p : Part) → c ≡ d → SamePart u w p
    → SamePart (with_redistributor u v (with_pend c (redistributor u v))) (with_redistributor w v (with_pend d (redistributor w v))) p
pends_alike u w v c d (MapsOf j) e a = a
pends_alike u w v c d Mem e a = a
pends_alike u w v c d (Shard its n) e a = tt
pends_alike u w v c d (Conf x) e a = kept_alike conf_of u w v x.0 (with_pend c (redistributor u v)) (with_pend d (redistributor w v)) refl refl a
pends_alike u w v c d (Pend x) e a =
    seen_alike pend_of u.redistributors w.redistributors v x.0 (with_pend c (redistributor u v)) (with_pend d (redistributor w v)) a e

-- the same is pending in both, whatever their configurations
pub agree_pend : (u w : Plain) (ps : List Part) (v : ℕ) (c d : PendState) → c ≡ d → AgreesOn u w ps
    → AgreesOn (with_redistributor u v (with_pend c (redistributor u v))) (with_redistributor w v (with_pend d (redistributor w v))) ps
agree_pend u w ps v c d e a = record {
  layout = a.layout;
  translators = a.translators;
  redistributors = length-set u.redistributors v (with_pend c (redistributor u v)) ∙ a.redistributors
      ∙ sym (length-set w.redistributors v (with_pend d (redistributor w v)));
  parts = λ p here. pends_alike u w v c d p e (a.parts p here);
}

memories_alike : (u w : Plain) (m n : List Window) (s t : Option Tracked) (p : Part) → m ≡ n → s ≡ t → SamePart u w p
    → SamePart (record u { memory = m; track = s }) (record w { memory = n; track = t }) p
memories_alike u w m n s t (MapsOf j) e f a = a
memories_alike u w m n s t Mem e f a = (e, f)
memories_alike u w m n s t (Shard its k) e f a = tt
memories_alike u w m n s t (Conf v) e f a = a
memories_alike u w m n s t (Pend v) e f a = a

pub agree_memory : (u w : Plain) (ps : List Part) (m n : List Window) (s t : Option Tracked) → m ≡ n → s ≡ t → AgreesOn u w ps
    → AgreesOn (record u { memory = m; track = s }) (record w { memory = n; track = t }) ps
agree_memory u w ps m n s t e f a = record {
  layout = a.layout;
  translators = a.translators;
  redistributors = a.redistributors;
  parts = λ p here.
      memories_alike u w m n s t p e f (a.parts p here);
}

-- ---- every configuration changed

-- what is seen of the configuration goes by the configuration alone
conf_changed : (f : ConfState → ConfState) (o : Option Redistributor)
    → option_map conf_of (option_map (λ r. with_conf (f (conf_of r)) r) o) ≡ option_map f (option_map conf_of o)
conf_changed f None = refl
conf_changed f (Some r) = refl

module _ (u w : Plain) (f g : ConfState → ConfState) (e : f ≡ g) where
  abbrev changed : (ConfState → ConfState) → Redistributor → Redistributor
  changed h r = with_conf (h (conf_of r)) r

  each_alike : (p : Part) → SamePart u w p → SamePart (each_conf f u) (each_conf g w) p
  each_alike (MapsOf j) a = a
  each_alike Mem a = a
  each_alike (Shard its n) a = tt
  each_alike (Conf v) a =
      let both : option_map f (option_map conf_of (slice_get u.redistributors v.0)) ≡ option_map g (option_map conf_of (slice_get w.redistributors v.0)) =
      (λ d. option_map (e d) (a d)) in
      ap (λ (o : Option Redistributor). option_map conf_of o) (slice_get-map (changed f) u.redistributors v.0)
      ∙ (conf_changed f (slice_get u.redistributors v.0) ∙ both ∙ sym (conf_changed g (slice_get w.redistributors v.0)))
      ∙ ap (λ (o : Option Redistributor). option_map conf_of o) (sym (slice_get-map (changed g) w.redistributors v.0))
  each_alike (Pend v) a =
      ap (λ (o : Option Redistributor). option_map pend_of o) (slice_get-map (changed f) u.redistributors v.0)
      ∙ (sym (same_pend f (slice_get u.redistributors v.0)) ∙ a ∙ same_pend g (slice_get w.redistributors v.0))
      ∙ ap (λ (o : Option Redistributor). option_map pend_of o) (sym (slice_get-map (changed g) w.redistributors v.0))

  pub agree_confs : (ps : List Part) → AgreesOn u w ps → AgreesOn (each_conf f u) (each_conf g w) ps
  agree_confs ps a = record {
    layout = a.layout;
    translators = a.translators;
    redistributors = length-map u.redistributors (changed f) ∙ a.redistributors
        ∙ sym (length-map w.redistributors (changed g));
    parts = λ p here. each_alike p (a.parts p here);
  }

pub agree_if : (u w v x : Plain) (ps : List Part) (s t : Bool) → s ≡ t → AgreesOn u w ps → AgreesOn v x ps
    → AgreesOn (if s then u else v) (if t then w else x) ps
agree_if u w v x ps true true e a b = a
agree_if u w v x ps true false e a b = absurd cc
agree_if u w v x ps false true e a b = absurd cc
agree_if u w v x ps false false e a b = b

-- ---- maps

module _ (ps : List Part) (i : ℕ) (here : IsIn (MapsOf i) ps) where
  pub maps_same : (u w : Plain) → AgreesOn u w ps → maps_of u i ≡ maps_of w i
  maps_same u w a = ap (λ (t : Translator). t.maps) (translator_same u w ps i here a)

  pub agree_maps : (u w : Plain) (m n : Maps) → m ≡ n → AgreesOn u w ps → AgreesOn (with_maps u i m) (with_maps w i n) ps
  agree_maps u w m n e a = agree_translator u w ps i (record (translator u i) { maps = m }) (record (translator w i) { maps = n })
      (λ d. record (translator_same u w ps i here a d) { maps = e d }) a

-- ---- pending LPIs

module _ (ps : List Part) where
  pub agree_pending : (u w : Plain) (v : ℕ) (x y : List ℕ) → x ≡ y → IsIn (pend v) ps → AgreesOn u w ps
      → AgreesOn (with_pending u v x) (with_pending w v y) ps
  agree_pending u w v x y e at a =
      agree_pend u w ps v (record { pending = x; accepts = is_on u v }) (record { pending = y; accepts = is_on w v })
      (λ d. record { pending = e d; accepts = (pend_same u w ps v at a d).accepts }) a

  pub agree_set : (u w : Plain) (x v : ℕ) → IsIn (pend v) ps → AgreesOn u w ps → AgreesOn (lpi_set x v u) (lpi_set x v w) ps
  agree_set u w x v at a = agree_pending u w v (with_lpi x (pending_of u v)) (with_lpi x (pending_of w v))
      (ap (λ (r : PendState). with_lpi x r.pending) (pend_same u w ps v at a)) at a

  pub agree_cleared : (u w : Plain) (x v : ℕ) → IsIn (pend v) ps → AgreesOn u w ps → AgreesOn (lpi_cleared x v u) (lpi_cleared x v w) ps
  agree_cleared u w x v at a =
      agree_pending u w v (without_lpi x (pending_of u v)) (without_lpi x (pending_of w v))
      (ap (λ (r : PendState). without_lpi x r.pending) (pend_same u w ps v at a)) at a

  pub agree_moved : (u w : Plain) (x from to : ℕ) → IsIn (pend from) ps → IsIn (pend to) ps → AgreesOn u w ps
      → AgreesOn (lpi_moved x from to u) (lpi_moved x from to w) ps
  agree_moved u w x from to f t a =
      agree_if (lpi_set x to (lpi_cleared x from u)) (lpi_set x to (lpi_cleared x from w)) u w ps (is_pending x (pending_of u from))
      (is_pending x (pending_of w from))
      (ap (λ (r : PendState). is_pending x r.pending) (pend_same u w ps from f a)) (agree_set (lpi_cleared x from u) (lpi_cleared x from w) x to t
      (agree_cleared u w x from f a)) a

  pub agree_all_moved : (u w : Plain) (xs : List ℕ) (from to : ℕ) → IsIn (pend from) ps → IsIn (pend to) ps → AgreesOn u w ps
      → AgreesOn (lpis_moved xs from to u) (lpis_moved xs from to w) ps
  agree_all_moved u w [] from to f t a = a
  agree_all_moved u w (x ∷ xs) from to f t a = agree_all_moved (lpi_moved x from to u) (lpi_moved x from to w) xs from to f t (agree_moved u w x from to f t a)

  pub agree_cleared_at : (u w : Plain) (x : ℕ) (o : Option Vcpu) → ((v : Vcpu) → o ≡ Some v → IsIn (Pend v) ps) → AgreesOn u w ps
      → AgreesOn (cleared_at x o u) (cleared_at x o w) ps
  agree_cleared_at u w x None h a = a
  agree_cleared_at u w x (Some v) h a = agree_cleared u w x v.0 (h v refl) a
