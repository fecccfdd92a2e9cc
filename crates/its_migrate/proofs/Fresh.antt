-- A machine that was just made of the parts that a description tells.
use Rattle.std.proofs.Common.{◌≡◌, ◌<◌, ◌≤◌, Bool, true, false, List, [], map, length, Option, Result, Ok, Err, refl, ap, sym, ◌∙◌, subst, inl, inr, arith}
use mathlib.Core.Logic.{dite}
use native.Mathlib.Decide.{ℕ_discrete}
use Rattle.std.proofs.lemmas.List.{length-map, length-replicate}
use Rattle.owned_parts.specs.Owned.{translators_of}
use Rattle.owned_parts.specs.declared.parts.Parts.{Parts}
use Rattle.its_plain.specs.declared.desc.Its.{Its}
use Rattle.its_turns.specs.Opening.{setup_from}
use Rattle.std.specs.Prelude.{IfOk}
use Rattle.guest_windows.specs.Windows.{zeros}
use Rattle.guest_windows.specs.Fields.{pairs}
use Rattle.gits_regs.specs.declared.values.RegValues.{RegValues}
use Rattle.its_types.specs.declared.translation.Bases.{Bases}
use Rattle.its_plain.specs.Described.{IsFirstState, StartsAt, is_restored, values_of, restored_bases, kept_of, without_stale}
use Rattle.its_plain.specs.Machine.{made, layout_of, windows_fit, ensure, tables_inside, filled, all_frames_fit, all_new, first_redistributors, ◌>>=◌}
use Rattle.its_plain.specs.Plain.{Plain, Translator}
use Rattle.its_plain.specs.declared.desc.Desc.{Desc}
use Rattle.its_plain.specs.declared.desc.DescFault.{DescFault}
use Rattle.its_plain.specs.declared.desc.DescFault.TheVariants.{Windows}
use Rattle.its_steps.specs.Parts.{Setup, HasStamps}
use Rattle.its_steps.specs.World.{first_view}
use Rattle.its_turns.specs.Told.{IsLone}

-- ---- first states have the layout that their descriptions tell

in_turn : {A B : Type 0} (P : B → Type 0) (r : Result A DescFault) (f : A → Result B DescFault) → ((x : A) → IfOk (f x) P) → IfOk (r >>= f) P
in_turn P (Ok x) f h = h x
in_turn P (Err e) f h = tt

abbrev HasLayoutOf : Desc → Plain → Type 0
HasLayoutOf d u = u.layout ≡ layout_of d

made_layout : (d : Desc) → IfOk (made d) (HasLayoutOf d)
unfolding made
made_layout d =
    in_turn (HasLayoutOf d) (ensure (windows_fit d) Windows) _ (λ _.
    in_turn (HasLayoutOf d) (tables_inside d.shape (map zeros (pairs d.windows)) d.tables) _ (λ _.
    in_turn (HasLayoutOf d) (filled (map zeros (pairs d.windows)) 0 d.fills) _ (λ memory.
    in_turn (HasLayoutOf d) (all_frames_fit (pairs d.windows) 0 d.translators) _ (λ _.
    in_turn (HasLayoutOf d) (all_new [] 0 d.requesters) _ (λ _.
    in_turn (HasLayoutOf d) (first_redistributors d.shape memory d.tables) _ (λ rs. refl))))))

starts_layout : (b : Bool) (values : List (Option RegValues)) (bases : List Bases) (base u : Plain) → StartsAt b values bases base u
    → u.layout ≡ base.layout
starts_layout false values bases base u is = ap (λ (x : Plain). x.layout) is
starts_layout true values bases base u is = is.layout_is

-- also without stale pending bits
kept_layout : (b : Bool) (u : Plain) → (kept_of b u).layout ≡ u.layout
unfolding without_stale
kept_layout true u = refl
kept_layout false u = refl

pub first_layout : (d : Desc) (u : Plain) → IsFirstState d u → u.layout ≡ layout_of d
first_layout d u first =
    ap (λ (x : Plain). x.layout) first.kept ∙ kept_layout d.from_kvm first.read
    ∙ starts_layout (is_restored d) (values_of d) (restored_bases d) first.base first.read first.starts
    ∙ subst (λ (r : Result Plain DescFault). IfOk r (HasLayoutOf d)) first.made_is (made_layout d)

-- ---- and as many translators

abbrev HasCountOf : Desc → Plain → Type 0
HasCountOf d u = length u.translators ≡ length d.translators

made_count : (d : Desc) → IfOk (made d) (HasCountOf d)
unfolding made
made_count d =
    in_turn (HasCountOf d) (ensure (windows_fit d) Windows) _ (λ _.
    in_turn (HasCountOf d) (tables_inside d.shape (map zeros (pairs d.windows)) d.tables) _ (λ _.
    in_turn (HasCountOf d) (filled (map zeros (pairs d.windows)) 0 d.fills) _ (λ memory.
    in_turn (HasCountOf d) (all_frames_fit (pairs d.windows) 0 d.translators) _ (λ _.
    in_turn (HasCountOf d) (all_new [] 0 d.requesters) _ (λ _.
    in_turn (HasCountOf d) (first_redistributors d.shape memory d.tables) _ (λ rs. length-replicate (length d.translators) _))))))

starts_count : (b : Bool) (values : List (Option RegValues)) (bases : List Bases) (base u : Plain) → StartsAt b values bases base u
    → length base.translators ≡ length values → length u.translators ≡ length values
starts_count false values bases base u is many = ap (λ (x : Plain). length x.translators) is ∙ many
starts_count true values bases base u is many = is.count

kept_translators : (b : Bool) (u : Plain) → (kept_of b u).translators ≡ u.translators
unfolding without_stale
kept_translators true u = refl
kept_translators false u = refl

pub first_count : (d : Desc) (u : Plain) → IsFirstState d u → length u.translators ≡ length d.translators
first_count d u first =
    let many : length (values_of d) ≡ length d.translators = length-map d.translators (λ (t : Its). t.restore) in
    let base : length first.base.translators ≡ length d.translators = subst
    (λ (r : Result Plain DescFault). IfOk r (HasCountOf d)) first.made_is (made_count d) in
    ap (λ (x : Plain). length x.translators) first.kept
    ∙ ap (λ (ts : List Translator). length ts) (kept_translators d.from_kvm first.read)
    ∙ starts_count (is_restored d) (values_of d) (restored_bases d) first.base first.read first.starts (base ∙ sym many)
    ∙ many

pub first_stamps : (d : Desc) (p : Parts) → 1 ≤ length d.translators → length d.translators ≤ 2 → length (translators_of p.first p.second)
    ≡ length d.translators
    → (length d.translators ≡ 2 → d.limits.stamp_last < 4096) → HasStamps (setup_from d p)
first_stamps d p some most same two = dite (ℕ_discrete (length d.translators) 2) (λ e. inr (same ∙ e, two e))
    (λ ne. inl (omega (arith, some, most, same, ne)))

-- ---- machines

pub first_lone : (s : Setup) → IsLone (first_view s)
first_lone s = (refl, λ n low high. absurd (omega (arith, low, high)))
