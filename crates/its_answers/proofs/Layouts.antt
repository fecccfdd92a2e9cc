-- A first state has the layout that its description tells.
use Rattle.std.proofs.Common.{◌≡◌, Bool, true, false, List, [], map, Option, Result, Ok, Err, IfOk, refl, ap, ◌∙◌, subst}
use Rattle.guest_windows.specs.Windows.{zeros}
use Rattle.guest_windows.specs.Fields.{pairs}
use Rattle.gits_regs.specs.declared.values.RegValues.{RegValues}
use Rattle.its_types.specs.declared.translation.Bases.{Bases}
use Rattle.its_plain.specs.Described.{IsFirstState, StartsAt, is_restored, values_of, restored_bases, kept_of, without_stale}
use Rattle.its_plain.specs.Machine.{made, layout_of, windows_fit, ensure, tables_inside, filled, all_frames_fit, all_new, first_redistributors, ◌>>=◌}
use Rattle.its_plain.specs.Plain.{Plain}
use Rattle.its_plain.specs.declared.desc.Desc.{Desc}
use Rattle.its_plain.specs.declared.desc.DescFault.{DescFault}
use Rattle.its_plain.specs.declared.desc.DescFault.TheVariants.{Windows}

then_so : {A B : Type 0} (P : B → Type 0) (r : Result A DescFault) (f : A → Result B DescFault) → ((x : A) → IfOk (f x) P) → IfOk (r >>= f) P
then_so P (Ok x) f h = h x
then_so P (Err e) f h = tt

abbrev HasLayoutOf : Desc → Plain → Type 0
HasLayoutOf d u = u.layout ≡ layout_of d

layout_made : (d : Desc) → IfOk (made d) (HasLayoutOf d)
unfolding made
layout_made d =
    let memory = map zeros (pairs d.windows) in
    then_so (HasLayoutOf d) (ensure (windows_fit d) Windows) _ (λ _.
    then_so (HasLayoutOf d) (tables_inside d.shape memory d.tables) _ (λ _.
    then_so (HasLayoutOf d) (filled memory 0 d.fills) _ (λ held.
    then_so (HasLayoutOf d) (all_frames_fit (pairs d.windows) 0 d.translators) _ (λ _.
    then_so (HasLayoutOf d) (all_new [] 0 d.requesters) _ (λ _.
    then_so (HasLayoutOf d) (first_redistributors d.shape held d.tables) _ (λ rs. refl))))))

layout_started : (restored : Bool) (values : List (Option RegValues)) (bases : List Bases) (base u : Plain) → StartsAt restored values bases base u
    → u.layout ≡ base.layout
layout_started false values bases base u is = ap (λ (x : Plain). x.layout) is
layout_started true values bases base u is = is.layout_is

-- also without stale pending bits
layout_kept : (from_kvm : Bool) (u : Plain) → (kept_of from_kvm u).layout ≡ u.layout
unfolding without_stale
layout_kept true u = refl
layout_kept false u = refl

pub first_layout : (d : Desc) (u : Plain) → IsFirstState d u → u.layout ≡ layout_of d
first_layout d u first =
    ap (λ (x : Plain). x.layout) first.kept ∙ layout_kept d.from_kvm first.read
    ∙ layout_started (is_restored d) (values_of d) (restored_bases d) first.base first.read first.starts
    ∙ subst (λ (r : Result Plain DescFault). IfOk r (HasLayoutOf d)) first.made_is (layout_made d)
