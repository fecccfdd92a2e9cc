-- States that differ from one in some parts alone.
use Rattle.std.proofs.Common.{◌≡◌, ℕ, Bool, true, false, List, length, length-set, map, slice_get, Option, Some, None, refl, ap, sym, ◌∙◌, subst, if◌then◌else◌}
use Rattle.std.specs.Option.{option_map}
use Rattle.std.proofs.lemmas.Option.{slice_get-map}
use Rattle.guest_windows.specs.Windows.{Window}
use Rattle.dirty_log.specs.declared.tracked.Tracked.{Tracked}
use Rattle.its_types.specs.declared.ids.Vcpu.{Vcpu}
use Rattle.its_types.specs.declared.machine.Part.{Part}
use Rattle.its_types.specs.declared.machine.Part.TheVariants.{Maps as MapsOf, Mem, Shard, Conf, Pend}
use Rattle.its_plain.specs.Plain.{Plain, Translator, Redistributor, ConfState, PendState, no_redistributor, redistributor, conf_of, pend_of, with_conf}
use Rattle.its_plain.specs.Plain.{with_pend, with_translator, with_redistributor}
use Rattle.its_plain.specs.Parts.{SamePart, IsIn, conf, pend}
use Rattle.plain_footprint.proofs.Listed.{set_else, seen_else}

-- all parts but these are the same, and the layout, and how many translators there are
pub record Stay (u : Plain) (ps : List Part) (w : Plain) : Type 0 where
  pub layout : u.layout ≡ w.layout
  pub translators : length u.translators ≡ length w.translators
  pub parts : (p : Part) → ¬ IsIn p ps → SamePart u w p

pub same_part : (u : Plain) (p : Part) → SamePart u u p
same_part u (MapsOf its) = refl
same_part u Mem = (refl, refl)
same_part u (Shard its n) = tt
same_part u (Conf vcpu) = refl
same_part u (Pend vcpu) = refl

pub stay : (u : Plain) (ps : List Part) → Stay u ps u
stay u ps = record { layout = refl; translators = refl; parts = λ p out. same_part u p }

translator_else : (u w : Plain) (i : ℕ) (t : Translator) (p : Part) → ¬ (p ≡ MapsOf i) → SamePart u w p → SamePart u (with_translator w i t) p
translator_else u w i t (MapsOf j) other s = s ∙ sym (set_else w.translators i j t (λ e. other (ap (λ (k : ℕ). MapsOf k) e)))
translator_else u w i t Mem other s = s
translator_else u w i t (Shard its n) other s = tt
translator_else u w i t (Conf v) other s = s
translator_else u w i t (Pend v) other s = s

pub stay_translator : (u w : Plain) (ps : List Part) (i : ℕ) (t : Translator) → IsIn (MapsOf i) ps → Stay u ps w → Stay u ps (with_translator w i t)
stay_translator u w ps i t here s = record {
  layout = s.layout;
  translators = s.translators ∙ sym (length-set w.translators i t);
  parts = λ p out. translator_else u w i t p (λ e. out (subst (λ (q : Part). IsIn q ps) (sym e) here)) (s.parts p out);
}

-- ---- a redistributor changed: in both parts, or in one alone

seen_same : {B : Type 0} (f : Redistributor → B) (w : Plain) (v x : ℕ) (r : Redistributor) → ¬ (x ≡ v)
    → option_map f (slice_get w.redistributors x) ≡ option_map f (slice_get (with_redistributor w v r).redistributors x)
seen_same f w v x r ne = ap (λ (o : Option Redistributor). option_map f o) (sym (set_else w.redistributors v x r ne))

redist_else : (u w : Plain) (v : ℕ) (r : Redistributor) (p : Part) → ¬ (p ≡ conf v) → ¬ (p ≡ pend v) → SamePart u w p
    → SamePart u (with_redistributor w v r) p
redist_else u w v r (MapsOf j) nc np s = s
redist_else u w v r Mem nc np s = s
redist_else u w v r (Shard its n) nc np s = tt
redist_else u w v r (Conf x) nc np s = s ∙ seen_same conf_of w v x.0 r (λ e. nc (ap conf e))
redist_else u w v r (Pend x) nc np s = s ∙ seen_same pend_of w v x.0 r (λ e. np (ap pend e))

pub stay_redist : (u w : Plain) (ps : List Part) (v : ℕ) (r : Redistributor) → IsIn (conf v) ps → IsIn (pend v) ps → Stay u ps w
    → Stay u ps (with_redistributor w v r)
stay_redist u w ps v r c q s = record {
  layout = s.layout;
  translators = s.translators;
  parts = λ p out. redist_else u w v r p (λ e. out (subst (λ (q : Part). IsIn q ps) (sym e) c)) (λ e. out (subst (λ (q : Part). IsIn q ps) (sym e) q))
      (s.parts p out);
}

conf_else : (u w : Plain) (v : ℕ) (c : ConfState) (p : Part) → ¬ (p ≡ conf v) → SamePart u w p
    → SamePart u (with_redistributor w v (with_conf c (redistributor w v))) p
conf_else u w v c (MapsOf j) other s = s
conf_else u w v c Mem other s = s
conf_else u w v c (Shard its n) other s = tt
conf_else u w v c (Conf x) other s = s ∙ seen_same conf_of w v x.0 (with_conf c (redistributor w v)) (λ e. other (ap conf e))
conf_else u w v c (Pend x) other s = s ∙ seen_else pend_of w.redistributors v x.0 no_redistributor (with_conf c (redistributor w v)) refl

-- what is pending stays where the configuration alone changes
pub stay_conf : (u w : Plain) (ps : List Part) (v : ℕ) (c : ConfState) → IsIn (conf v) ps → Stay u ps w
    → Stay u ps (with_redistributor w v (with_conf c (redistributor w v)))
stay_conf u w ps v c here s = record {
  layout = s.layout;
  translators = s.translators;
  parts = λ p out. conf_else u w v c p (λ e. out (subst (λ (q : Part). IsIn q ps) (sym e) here)) (s.parts p out);
}

pend_else : (u w : Plain) (v : ℕ) (q : PendState) (p : Part) → ¬ (p ≡ pend v) → SamePart u w p
    → SamePart u (with_redistributor w v (with_pend q (redistributor w v))) p
pend_else u w v q (MapsOf j) other s = s
pend_else u w v q Mem other s = s
pend_else u w v q (Shard its n) other s = tt
pend_else u w v q (Conf x) other s = s ∙ seen_else conf_of w.redistributors v x.0 no_redistributor (with_pend q (redistributor w v)) refl
pend_else u w v q (Pend x) other s = s ∙ seen_same pend_of w v x.0 (with_pend q (redistributor w v)) (λ e. other (ap pend e))

-- the configuration stays where what is pending alone changes
pub stay_pend : (u w : Plain) (ps : List Part) (v : ℕ) (q : PendState) → IsIn (pend v) ps → Stay u ps w
    → Stay u ps (with_redistributor w v (with_pend q (redistributor w v)))
stay_pend u w ps v q here s = record {
  layout = s.layout;
  translators = s.translators;
  parts = λ p out. pend_else u w v q p (λ e. out (subst (λ (r : Part). IsIn r ps) (sym e) here)) (s.parts p out);
}

-- ---- memory

memory_else : (u w : Plain) (memory : List Window) (track : Option Tracked) (p : Part) → ¬ (p ≡ Mem) → SamePart u w p
    → SamePart u (record w { memory = memory; track = track }) p
memory_else u w memory track (MapsOf j) other s = s
memory_else u w memory track Mem other s = absurd (other refl)
memory_else u w memory track (Shard its n) other s = tt
memory_else u w memory track (Conf v) other s = s
memory_else u w memory track (Pend v) other s = s

pub stay_memory : (u w : Plain) (ps : List Part) (memory : List Window) (track : Option Tracked) → IsIn Mem ps → Stay u ps w
    → Stay u ps (record w { memory = memory; track = track })
stay_memory u w ps memory track here s = record {
  layout = s.layout;
  translators = s.translators;
  parts = λ p out. memory_else u w memory track p (λ e. out (subst (λ (q : Part). IsIn q ps) (sym e) here)) (s.parts p out);
}

-- ---- every configuration changed

-- outside the parts there is no configuration
abbrev pub HasAll : Plain → List Part → Type 0
HasAll u ps = (v : Vcpu) → ¬ IsIn (Conf v) ps → slice_get u.redistributors v.0 ≡ None

abbrev pub each_conf : (ConfState → ConfState) → Plain → Plain
each_conf f w = record w { redistributors = map (λ r. with_conf (f (conf_of r)) r) w.redistributors }

pub same_pend : (f : ConfState → ConfState) (o : Option Redistributor)
    → option_map pend_of o ≡ option_map pend_of (option_map (λ r. with_conf (f (conf_of r)) r) o)
same_pend f None = refl
same_pend f (Some r) = refl

-- none is seen where there is none
none_seen : {B : Type 0} (f : Redistributor → B) (o : Option Redistributor) → None ≡ option_map f o → o ≡ None
none_seen f None e = refl
none_seen f (Some r) e = absurd cc

module _ (u w : Plain) (ps : List Part) (f : ConfState → ConfState) (all : HasAll u ps) (s : Stay u ps w) where
  abbrev change : Redistributor → Redistributor
  change r = with_conf (f (conf_of r)) r

  mapped_else : (p : Part) → ¬ IsIn p ps → SamePart u (each_conf f w) p
  mapped_else (MapsOf j) out = s.parts (MapsOf j) out
  mapped_else Mem out = s.parts Mem out
  mapped_else (Shard its n) out = tt
  mapped_else (Conf v) out =
      let none : None ≡ option_map conf_of (slice_get w.redistributors v.0) = ap (λ (o : Option Redistributor). option_map conf_of o) (sym (all v out))
      ∙ s.parts (Conf v) out in
      let left : slice_get w.redistributors v.0 ≡ None = none_seen conf_of (slice_get w.redistributors v.0) none in
      ap (λ (o : Option Redistributor). option_map conf_of o)
      (all v out ∙ sym (slice_get-map change w.redistributors v.0 ∙ ap (λ (o : Option Redistributor). option_map change o) left))
  mapped_else (Pend v) out =
      s.parts (Pend v) out ∙ same_pend f (slice_get w.redistributors v.0)
      ∙ ap (λ (o : Option Redistributor). option_map pend_of o) (sym (slice_get-map change w.redistributors v.0))

  pub stay_confs : Stay u ps (each_conf f w)
  stay_confs = record { layout = s.layout; translators = s.translators; parts = mapped_else }

pub stay_if : (u a b : Plain) (ps : List Part) (test : Bool) → Stay u ps a → Stay u ps b → Stay u ps (if test then a else b)
stay_if u a b ps true s t = s
stay_if u a b ps false s t = t
