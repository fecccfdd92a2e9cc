-- Where a device's entry stands, by two memories that have the level-1 entry in common.
use Rattle.std.proofs.Common.{◌≡◌, ℕ, ◌/◌, ◌%◌, Bool, true, false, cond, List, [], ◌∷◌, map, Option, Some, None, refl, ap, ◌∙◌, if◌then◌else◌}
use Rattle.std.specs.Prelude.{◌&&◌}
use Rattle.std.specs.List.{AllByRecursion}
use Rattle.std.specs.Option.{option_map}
use Rattle.byteorder.specs.Endian.{little_number}
use Rattle.guest_windows.specs.Windows.{Window, inside, extent}
use Rattle.guest_windows.proofs.Laws.{inside-extents}
use Rattle.gits_regs.specs.Registers.{Registers, is_valid, is_indirect}
use Rattle.its_types.specs.Ranges.{is_device_id}
use Rattle.baser_place.specs.Places.{◌>>=◌, ensure, device_place, paged_place, flat_place, level1_of, level1_word, level1_address, page_of, entry_address}
use Rattle.baser_place.specs.declared.entry.Level1.{Level1}
use Rattle.step_views.specs.Laws.{HasSameBytes}
use Rattle.step_views.specs.Reads.{level1_reads}

module _ (r : Registers) (memory now : List Window) (dev : ℕ) where
  entry : ℕ × ℕ
  entry = (level1_address r (dev / 8192), 8)

  level1_same : HasSameBytes memory now (level1_address r (dev / 8192), 8) → level1_of r now (dev / 8192) ≡ level1_of r memory (dev / 8192)
  unfolding level1_of
  level1_same same = ap (λ (o : Option (List ℕ)). level1_word (level1_address r (dev / 8192)) (option_map (λ bytes. little_number 8 bytes) o)) same

  paged_same : HasSameBytes memory now (level1_address r (dev / 8192), 8) → paged_place r now dev ≡ paged_place r memory dev
  unfolding paged_place
  paged_same same = ap (λ (e : Level1). page_of e >>= (λ page. Some (entry_address page (dev % 8192)))) (level1_same same)

  abbrev last : List Window → Option ℕ → Option ℕ
  last ws o = o >>= (λ place. ensure (inside ws place 8) >>= (λ _. Some place))

  last_same : map extent now ≡ map extent memory → (o : Option ℕ) → last now o ≡ last memory o
  last_same windows None = refl
  last_same windows (Some place) = ap (λ (b : Bool). ensure b >>= (λ _. Some place)) (inside-extents now memory place 8 windows)

  abbrev chain : Bool → Bool → Bool → List Window → Option ℕ → Option ℕ → Option ℕ
  chain valid ranged two ws paged flat = ensure valid >>= (λ _. ensure ranged >>= (λ _. last ws (if two then paged else flat)))

  chain_same : (valid ranged two : Bool) (p q flat : Option ℕ) → map extent now ≡ map extent memory
      → AllByRecursion (HasSameBytes memory now) (cond ((valid && two) && ranged) ((level1_address r (dev / 8192), 8) ∷ []) [])
      → (HasSameBytes memory now (level1_address r (dev / 8192), 8) → p ≡ q) → chain valid ranged two now p flat ≡ chain valid ranged two memory q flat
  chain_same true true true p q flat windows h same = ap (last now) (same h.0) ∙ last_same windows q
  chain_same true true false p q flat windows h same = last_same windows flat
  chain_same true false two p q flat windows h same = refl
  chain_same false ranged two p q flat windows h same = refl

pub place_same : (r : Registers) (memory now : List Window) (dev : ℕ) → map extent now ≡ map extent memory
    → AllByRecursion (HasSameBytes memory now) (level1_reads r dev) → device_place r now dev ≡ device_place r memory dev
unfolding device_place
place_same r memory now dev windows h =
    chain_same r memory now dev (is_valid r.baser0) (is_device_id r.dev_bits dev) (is_indirect r.baser0) (paged_place r now dev) (paged_place r memory dev)
    (flat_place r dev) windows h (paged_same r memory now dev)
