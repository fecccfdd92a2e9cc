-- The tables of each translator and of each redistributor, as they stand in saved memory.
use Rattle.std.proofs.Common.{◌≡◌, ℕ, zero, suc, ◌<◌, List, [], ◌∷◌, Some, refl, subst}
use Rattle.std.specs.Prelude.{slice_get}
use Rattle.std.specs.List.{AllByRecursion, flat_map}
use Rattle.std.proofs.lemmas.Option.{same_Some}
use Rattle.byteorder.specs.Endian.{little_bytes}
use Rattle.guest_windows.specs.Windows.{Window, number_at, read_at}
use Rattle.baser_place.specs.Places.{entry_address}
use Rattle.its_plain.specs.Plain.{Plain, Translator, Redistributor}
use Rattle.its_plain.specs.Sound.{IsSound}
use Rattle.its_plain.specs.Saved.{Words, words_of, saved, translator_words, pending_words, IsSavable}
use Rattle.saved_state.proofs.Areas.{all_left, all_right}
use Rattle.saved_state.proofs.Apart.{words_back, bytes_back}

-- each of its words is at its place
abbrev pub IsFound : List Window → Words → Type 0
IsFound memory t = (i : ℕ) → i < t.count → number_at memory (entry_address t.base i) ≡ Some (t.word i)

-- and so are its bytes
abbrev pub HasBytes : List Window → Words → Type 0
HasBytes memory t = (i : ℕ) → i < t.count → read_at memory (entry_address t.base i) 8 ≡ Some (little_bytes 8 (t.word i))

pub all_by_place : {X : Type 0} (P : X → Type 0) (xs : List X) → ((k : ℕ) (x : X) → slice_get xs k ≡ Some x → P x) → AllByRecursion P xs
all_by_place P [] h = tt
all_by_place P (x ∷ xs) h = (h 0 x refl, all_by_place P xs (λ k y at. h (suc k) y at))

pub of_flat : {X Y : Type 0} (P : Y → Type 0) (f : X → List Y) (xs : List X) → AllByRecursion P (flat_map f xs) → (k : ℕ) (x : X) → slice_get xs k ≡ Some x
    → AllByRecursion P (f x)
of_flat P f [] all k x at = absurd cc
of_flat {X} P f (y ∷ xs) all zero x at = subst (λ (z : X). AllByRecursion P (f z)) (same_Some y x at) (all_left P (f y) (flat_map f xs) all)
of_flat P f (y ∷ xs) all (suc k) x at = of_flat P f xs (all_right P (f y) (flat_map f xs) all) k x at

all_found : (u : Plain) → IsSound u → IsSavable u → AllByRecursion (IsFound (saved u)) (words_of u)
all_found u sound savable = all_by_place (IsFound (saved u)) (words_of u) (λ k t at i lt. words_back u k i t sound savable at lt)

pub translator_found : (u : Plain) (k : ℕ) (t : Translator) → IsSound u → IsSavable u → slice_get u.translators k ≡ Some t → AllByRecursion (IsFound (saved u))
    (translator_words u.layout.shape u.memory t)
unfolding words_of
translator_found u k t sound savable at =
    of_flat (IsFound (saved u)) (translator_words u.layout.shape u.memory) u.translators
    (all_left (IsFound (saved u)) (flat_map (translator_words u.layout.shape u.memory) u.translators) (flat_map (pending_words u.layout.shape) u.redistributors)
    (all_found u sound savable)) k t at

pub pending_found : (u : Plain) (k : ℕ) (r : Redistributor) → IsSound u → IsSavable u → slice_get u.redistributors k ≡ Some r
    → AllByRecursion (HasBytes (saved u)) (pending_words u.layout.shape r)
unfolding words_of
pending_found u k r sound savable at =
    of_flat (HasBytes (saved u)) (pending_words u.layout.shape) u.redistributors
    (all_right (HasBytes (saved u)) (flat_map (translator_words u.layout.shape u.memory) u.translators) (flat_map (pending_words u.layout.shape) u.redistributors)
    (all_by_place (HasBytes (saved u)) (words_of u) (λ j t there i lt. bytes_back u j i t sound savable there lt))) k r at
