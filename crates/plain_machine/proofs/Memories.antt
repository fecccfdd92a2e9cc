-- A second memory has the windows of the guest's, and their pages.
use Rattle.std.proofs.Common.{◌≡◌, ◌⊎◌, ℕ, Bool, true, false, List, [], ◌∷◌, map, Option, Some, None, Result, Ok, Err, inl, inr, refl, sym, ap, subst, ◌∙◌}
use Rattle.std.specs.Prelude.{MatchOption, OnOk, OnErr}
use Rattle.std.specs.Option.{option_map}
use Rattle.guest_windows.specs.Windows.{Window, extent, write_at}
use Rattle.guest_windows.specs.declared.errors.WriteError.{WriteError}
use Rattle.guest_windows.proofs.Laws.{extents_of_zeros, extents-write_at}
use Rattle.guest_windows.proofs.Mixed.{extents_mixed}
use Rattle.dirty_log.specs.Copies.{number_of, in_dirty, wrote, caught_up}
use Rattle.dirty_log.specs.Pages.{page, pages_of, mark_one, set_one}
use Rattle.dirty_log.specs.declared.page.Page.{Page}
use Rattle.dirty_log.specs.declared.tracked.Tracked.{Tracked}
use Rattle.its_plain.specs.Saved.{track_of}
use Rattle.plain_machine.specs.Memories.{IsPaired, ArePaired}

numbers_kept : (f : Page → Page) → ((p : Page) → (f p).number ≡ p.number) → (ps : List Page) → map number_of (map f ps) ≡ map number_of ps
numbers_kept f same [] = refl
numbers_kept f same (p ∷ ps) = λ i. same p i ∷ numbers_kept f same ps i

numbers_of : (ns : List ℕ) → map number_of (map (page true) ns) ≡ ns
numbers_of [] = refl
numbers_of (n ∷ ns) = ap (λ (ks : List ℕ). n ∷ ks) (numbers_of ns)

-- ---- one second memory

wrote_paired : (memory : List Window) (address len : ℕ) (t : Tracked) → IsPaired memory t → IsPaired memory (wrote address len t)
wrote_paired memory address len t h = record {
  windows = h.windows;
  pages = numbers_kept (mark_one address len) (λ p. refl) t.log ∙ h.pages;
}

caught_paired : (memory : List Window) (t : Tracked) → IsPaired memory t → IsPaired memory (caught_up memory t)
caught_paired memory t h = record {
  windows = extents_mixed (in_dirty t.log) memory t.copy ∙ h.windows;
  pages = numbers_kept (set_one false) (λ p. refl) t.log ∙ h.pages;
}

-- ---- where there is one

pub fresh_pair : (memory : List Window) (tracks : Bool) (now : Option Tracked) → now ≡ track_of tracks memory → ArePaired memory now
fresh_pair memory true now e = λ t is. subst (IsPaired memory) (the_one (sym e ∙ is)) (record {
  windows = extents_of_zeros (map extent memory);
  pages = numbers_of (pages_of (map extent memory));
})
  where
    the_one : {x y : Tracked} → Some x ≡ Some y → x ≡ y
    the_one e = cc
fresh_pair memory false now e = λ t is. absurd (let no : None ≡ Some t = sym e ∙ is in cc)

mapped_pair : (memory : List Window) (f : Tracked → Tracked) → ((t : Tracked) → IsPaired memory t → IsPaired memory (f t)) → (old now : Option Tracked)
    → now ≡ option_map f old → ArePaired memory old → ArePaired memory now
mapped_pair memory f keeps None now e h = λ t is. absurd (let no : None ≡ Some t = sym e ∙ is in cc)
mapped_pair memory f keeps (Some x) now e h = λ t is. subst (IsPaired memory) (the_one (sym e ∙ is)) (keeps x (h x refl))
  where
    the_one : {x y : Tracked} → Some x ≡ Some y → x ≡ y
    the_one e = cc

pub marked_pair : (memory : List Window) (address len : ℕ) (old now : Option Tracked) → now ≡ option_map (wrote address len) old → ArePaired memory old
    → ArePaired memory now
marked_pair memory address len old now e h = mapped_pair memory (wrote address len) (wrote_paired memory address len) old now e h

-- equal ones
pub same_pair : (m n : List Window) (old now : Option Tracked) → n ≡ m → now ≡ old → ArePaired m old → ArePaired n now
same_pair m n old now e f h = λ t is. subst (λ (w : List Window). IsPaired w t) (sym e) (h t (sym f ∙ is))

pub caught_or_not : {A E : Type 0} (memory : List Window) (old now : Option Tracked) (r : Result A E) → OnOk r (now ≡ option_map (caught_up memory) old)
    → OnErr r (now ≡ old) → ArePaired memory old → ArePaired memory now
caught_or_not memory old now (Ok x) e f h = mapped_pair memory (caught_up memory) (caught_paired memory) old now e h
caught_or_not memory old now (Err x) e f h = same_pair memory memory old now refl f h

-- ---- other bytes in the same windows

written_extents : (old now : List Window) (address : ℕ) (bytes : List ℕ) (r : Result (Unit {0}) WriteError) (e f : WriteError)
    → MatchOption (write_at old address bytes) ((r ≡ Err e) × (now ≡ old)) (λ m. ((r ≡ Ok tt) × (now ≡ m)) ⊎ ((r ≡ Err f) × (now ≡ old)))
    → map extent now ≡ map extent old
written_extents old now address bytes r e f h =
    elim (write_at old address bytes) as (λ o. write_at old address bytes ≡ o
    → MatchOption o ((r ≡ Err e) × (now ≡ old)) (λ m. ((r ≡ Ok tt) × (now ≡ m)) ⊎ ((r ≡ Err f) × (now ≡ old))) → map extent now ≡ map extent old) [
      | None ↦ λ is k. ap (map extent) k.1
      | Some m ↦ λ is k. elim k [
        | inl done ↦ ap (map extent) done.1 ∙ extents-write_at old address bytes m is
        | inr failed ↦ ap (map extent) failed.1
      ]
    ] refl h

pub written_pair : (old now : List Window) (address : ℕ) (bytes : List ℕ) (r : Result (Unit {0}) WriteError) (e f : WriteError) (track : Option Tracked)
    → MatchOption (write_at old address bytes) ((r ≡ Err e) × (now ≡ old)) (λ m. ((r ≡ Ok tt) × (now ≡ m)) ⊎ ((r ≡ Err f) × (now ≡ old)))
    → ArePaired old track → ArePaired now track
written_pair old now address bytes r e f track h pair = λ t is.
    let same = written_extents old now address bytes r e f h in
    let p = pair t is in
    record { windows = p.windows ∙ sym same; pages = p.pages ∙ ap pages_of (sym same) }
