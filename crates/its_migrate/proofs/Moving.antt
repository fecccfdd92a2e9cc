-- From the moved parts to the machine that goes on with them.
use Rattle.std.proofs.Common.{◌≡◌, List, [], ◌∷◌, map, length, Result, Ok, Err, inl, inr, refl, ap, sym, ◌∙◌, arith}
use Rattle.std.specs.Prelude.{IfOk}
use Rattle.its_plain.specs.Plain.{Plain, Translator}
use Rattle.its_plain.specs.Regions.{savable}
use Rattle.its_plain.specs.Saved.{moved}
use Rattle.its_plain.specs.declared.desc.Desc.{Desc}
use Rattle.its_plain.specs.declared.desc.Its.{Its}
use Rattle.its_plain.specs.declared.fault.SaveError.{SaveError}
use Rattle.owned_machine.specs.Migrations.{AreMoved}
use Rattle.owned_machine.specs.Whole.{GoesOn}
use Rattle.owned_parts.specs.Owned.{state_of_parts, translators_of}
use Rattle.owned_parts.specs.declared.parts.Parts.{Parts}
use Rattle.its_steps.specs.Parts.{Setup, HasStamps, IsOfMachine, translator_count}
use Rattle.its_steps.specs.World.{first_view}
use Rattle.its_turns.specs.Machines.{setup, view, IsOf}
use Rattle.its_turns.specs.Opening.{setup_from, kept_its, kept_of}
use Rattle.its_turns.specs.declared.machine.Machine.{Machine}
use Rattle.its_turns.specs.declared.machine.Pass.{Pass}
use Rattle.its_migrate.specs.Precopying.{PrecopiesAsMigrates}
use Rattle.its_migrate.specs.Resting.{WentOn, resting}

moved_layout : (u : Plain) → (moved u).layout ≡ u.layout
unfolding moved
moved_layout u = refl

moved_translators : (u : Plain) → (moved u).translators ≡ u.translators
unfolding moved
moved_translators u = refl

-- ---- parts that were moved

module _ (s : Setup) (u : Plain) (m : IsOfMachine s u) (p : Parts) (goes : GoesOn p (moved u)) where
  pub goes_layout : p.layout ≡ s.start.layout
  goes_layout = ap (λ (w : Plain). w.layout) goes.state ∙ (moved_layout u ∙ sym m.layout)

  pub goes_count : translator_count s ≡ length (translators_of p.first p.second)
  goes_count = m.translators ∙ ap (λ (ts : List Translator). length ts) (sym (ap (λ (w : Plain). w.translators) goes.state ∙ moved_translators u))

pub moved_layouts : (s : Setup) (u : Plain) → IsOfMachine s u → (r : Result Parts SaveError) → AreMoved u r → IfOk r (λ (q : Parts). q.layout ≡ s.start.layout)
moved_layouts s u m (Ok q) are = goes_layout s u m q are.1
moved_layouts s u m (Err f) are = tt

pub moved_counts : (s : Setup) (u : Plain) → IsOfMachine s u → (r : Result Parts SaveError) → AreMoved u r
    → IfOk r (λ (q : Parts). translator_count s ≡ length (translators_of q.first q.second))
moved_counts s u m (Ok q) are = goes_count s u m q are.1
moved_counts s u m (Err f) are = tt

-- a machine with as many translators has room for their stamps
pub stamps_again : (s t : Setup) → translator_count t ≡ translator_count s → t.limits.stamp_last ≡ s.limits.stamp_last → HasStamps s → HasStamps t
stamps_again s t count last (inl one) = inl (count ∙ one)
stamps_again s t count last (inr two) = inr (count ∙ two.0, omega (arith, last, two.1))

-- ---- the new machine

-- what a description keeps it keeps again
kept_twice : (ts : List Its) → map kept_its (map kept_its ts) ≡ map kept_its ts
kept_twice [] = refl
kept_twice (t ∷ ts) = ap (λ (rest : List Its). kept_its t ∷ rest) (kept_twice ts)

kept_again : (d : Desc) → kept_of (kept_of d) ≡ kept_of d
kept_again d = λ i. record (kept_of d) { translators = kept_twice d.translators i }

module _ (m n : Machine) (r q : Pass) (p : Parts) (can : savable (resting m r) ≡ Ok tt) (goes : GoesOn p (moved (resting m r)))
    (of : IsOf n q) (made : setup n ≡ setup_from m.desc p) (desc : n.desc ≡ kept_of m.desc)
    (fresh : view q ≡ first_view (setup n)) where
  same_desc : n.desc ≡ m.desc
  same_desc = desc ∙ (ap (λ (d : Desc). kept_of d) m.described ∙ (kept_again m.table.shared.key.desc.value ∙ sym m.described))

  same_start : (setup n).start ≡ state_of_parts p
  same_start = ap (λ (s : Setup). s.start) made

  pub went_on : WentOn m r n q
  went_on = record {
    of = of;
    savable = can;
    start = same_start ∙ goes.state;
    limits = ap (λ (s : Setup). s.limits) made ∙ ap (λ (d : Desc). d.limits) m.described;
    shards = ap (λ (s : Setup). s.shards) made ∙ ap (λ (d : Desc). d.shards) m.described;
    desc = same_desc;
    view = fresh;
  }

-- the same setup, whichever way it went on
pub alike : PrecopiesAsMigrates
alike m r x y a b =
    let b = b.went in
    let same : setup y.0 ≡ setup x.0 = λ d. record {
      start = (b.start ∙ sym a.start) d;
      limits = (b.limits ∙ sym a.limits) d;
      shards = (b.shards ∙ sym a.shards) d;
    } in
    (same, b.desc ∙ sym a.desc, b.view ∙ (ap (λ (s : Setup). first_view s) same ∙ sym a.view))
