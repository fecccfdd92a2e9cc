-- The lines of virtual processors.
use Rattle.std.proofs.Common.{◌≡◌, ◌≢◌, ℕ, ◌+◌, ◌<◌, ◌≤◌, List, [], ◌∷◌, ◌++◌, length, take, drop, get_or, Bool, true, false, not, true≢false, refl, sym, ap}
use Rattle.std.proofs.Common.{◌∙◌, arith}
use Rattle.std.specs.Str.{bytes_eq}
use Rattle.std.proofs.lemmas.Slice.Eq.{bytes_eq-Decides}
use Rattle.std.proofs.lemmas.List.{take_all, take-append-drop, drop_more, get_or-map, length-map, length-take-le, take_more_same, get_or_read}
use Rattle.its_plain.specs.Plain.{Plain, Redistributor, no_redistributor, pending_of}
use Rattle.its_history.specs.Report.{pending_text, vcpu_text}
use Rattle.its_history.specs.Reports.{pending_lists}
use Rattle.trace_check.specs.Differences.{pending_texts}
use Rattle.trace_check.specs.Steps.{IsOtherPending}

texts_long : (u : Plain) → length (pending_texts u) ≡ length u.redistributors
texts_long u = length-map (pending_lists u) pending_text ∙ length-map u.redistributors (λ (r : Redistributor). r.pending)

text_at : (u : Plain) (i : ℕ) → i < length u.redistributors → get_or (pending_texts u) i [] ≡ pending_text (pending_of u i)
text_at u i lt =
    get_or-map pending_text (pending_lists u) i [] [] (omega (arith, lt, length-map u.redistributors (λ (r : Redistributor). r.pending)))
    ∙ ap pending_text (get_or-map (λ (r : Redistributor). r.pending) u.redistributors i no_redistributor [] lt)

cut_at : (ls : List (List ℕ)) (k : ℕ) (line : List ℕ) → k < length ls → line ≡ get_or ls k [] → ls ≡ take k ls ++ line ∷ drop (k + 1) ls
cut_at ls k line lt is = sym (take-append-drop k ls) ∙ ap (λ rest. take k ls ++ rest) (drop_more ls k [] lt ∙ ap (λ l. l ∷ drop (k + 1) ls) (sym is))

module _ (u : Plain) (told : List (List ℕ)) (i : ℕ) (said is : List ℕ) (long : length told ≡ length u.redistributors) (lt : i < length told)
    (said_is : said ≡ get_or told i said) (is_text : is ≡ pending_text (pending_of u i))
    (same : take i told ≡ take i (pending_texts u)) where
  said_at : said ≡ get_or told i []
  said_at = get_or_read told i said lt said_is []

  is_at : is ≡ get_or (pending_texts u) i []
  is_at = is_text ∙ sym (text_at u i (omega (arith, lt, long)))

  pub other_pending : (said_line is_line : List ℕ) → said ≢ is → said_line ≡ vcpu_text i said → is_line ≡ vcpu_text i is
      → IsOtherPending u told said_line is_line
  other_pending said_line is_line ne said_l is_l =
      let count : length (take i told) ≡ i = length-take-le i told (omega arith) in
      record {
        before = take i told;
        said_text = said;
        said_later = drop (i + 1) told;
        pending_said = cut_at told i said lt said_at;
        is_text = is;
        is_later = drop (i + 1) (pending_texts u);
        pending_is = cut_at (pending_texts u) i is (omega (arith, lt, long, texts_long u)) is_at ∙ ap (λ ls. ls ++ is ∷ drop (i + 1) (pending_texts u))
            (sym same);
        differs = ne;
        said_line = said_l ∙ ap (λ k. vcpu_text k said) (sym count);
        is_line = is_l ∙ ap (λ k. vcpu_text k is) (sym count);
      }

  pub more_pending : said ≡ is → take (i + 1) told ≡ take (i + 1) (pending_texts u)
  more_pending e = take_more_same told (pending_texts u) i [] lt (omega (arith, lt, long, texts_long u)) same (sym said_at ∙ (e ∙ is_at))

pub all_pending : (u : Plain) (told : List (List ℕ)) (i : ℕ) → length told ≡ length u.redistributors → length told ≤ i → take i told ≡ take i (pending_texts u)
    → told ≡ pending_texts u
all_pending u told i long le same = sym (take_all i told le) ∙ (same ∙ take_all i (pending_texts u) (omega (arith, le, long, texts_long u)))

-- ---- texts that were compared

pub texts_differ : (a b x y : List ℕ) (r : Bool) → x ≡ a → y ≡ b → r ≡ not (bytes_eq x y) → r ≡ true → a ≢ b
texts_differ a b x y r ax by r_is unequal same =
    let equal : bytes_eq x y ≡ true = (bytes_eq-Decides x y).1 (ax ∙ (same ∙ sym by)) in
    true≢false (sym unequal ∙ (r_is ∙ ap not equal))

pub texts_same : (a b x y : List ℕ) (r : Bool) → x ≡ a → y ≡ b → r ≡ not (bytes_eq x y) → r ≡ false → a ≡ b
texts_same a b x y r ax by r_is found = sym ax ∙ ((bytes_eq-Decides x y).0 (equal (bytes_eq x y) (sym r_is ∙ found)) ∙ by)
  where
    equal : (e : Bool) → not e ≡ false → e ≡ true
    equal true same = refl
    equal false same = sym same
