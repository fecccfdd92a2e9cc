-- Dirty pages that are copied one after another.
use Rattle.std.proofs.Common.{◌≡◌, ℕ, zero, suc, ◌+◌, ◌/◌, ◌<◌, Bool, true, false, cond, List, [], ◌∷◌, length, get_or, take, map, refl, sym, ap, ◌∙◌, arith}
use Rattle.std.proofs.Common.{eqb}
use Rattle.std.specs.Prelude.{◌&&◌, ◌||◌}
use Rattle.guest_windows.specs.Windows.{Window}
use Rattle.guest_windows.specs.Mixed.{mixed, mixed_windows}
use Rattle.dirty_log.specs.Pages.{page, set_all}
use Rattle.dirty_log.specs.Copies.{in_dirty, copied}
use Rattle.dirty_log.specs.Listing.{is_of_dirty}
use Rattle.dirty_log.specs.declared.page.Page.{Page}

-- ---- bytes that were mixed twice

mixed_twice : (first second both : ℕ → Bool) → ((a : ℕ) → both a ≡ (first a || second a)) → (a : ℕ) (xs ys : List ℕ)
    → mixed second a xs (mixed first a xs ys) ≡ mixed both a xs ys
mixed_twice first second both or a [] ys = refl
mixed_twice first second both or a (x ∷ xs) [] = refl
mixed_twice first second both or a (x ∷ xs) (y ∷ ys) =
    λ i. (one (first a) (second a) x y ∙ ap (λ (b : Bool). cond b x y) (sym (or a))) i ∷ mixed_twice first second both or (suc a) xs ys i
  where
    one : (b c : Bool) (x y : ℕ) → cond c x (cond b x y) ≡ cond (b || c) x y
    one true true x y = refl
    one true false x y = refl
    one false true x y = refl
    one false false x y = refl

windows_twice : (first second both : ℕ → Bool) → ((a : ℕ) → both a ≡ (first a || second a)) → (vs ws : List Window)
    → mixed_windows second vs (mixed_windows first vs ws) ≡ mixed_windows both vs ws
windows_twice first second both or [] ws = refl
windows_twice first second both or (v ∷ vs) [] = refl
windows_twice first second both or (v ∷ vs) (w ∷ ws) =
    λ i. record { base = w.base; bytes = mixed_twice first second both or w.base v.bytes w.bytes i } ∷ windows_twice first second both or vs ws i

never_mixed : (test : ℕ → Bool) → ((a : ℕ) → test a ≡ false) → (a : ℕ) (xs ys : List ℕ) → ys ≡ mixed test a xs ys
never_mixed test isnt a [] ys = refl
never_mixed test isnt a (x ∷ xs) [] = refl
never_mixed test isnt a (x ∷ xs) (y ∷ ys) = λ i. ap (λ (b : Bool). cond b x y) (sym (isnt a)) i ∷ never_mixed test isnt (suc a) xs ys i

pub never : (test : ℕ → Bool) → ((a : ℕ) → test a ≡ false) → (vs ws : List Window) → ws ≡ mixed_windows test vs ws
never test isnt [] ws = refl
never test isnt (v ∷ vs) [] = refl
never test isnt (v ∷ vs) (w ∷ ws) = λ i. record { base = w.base; bytes = never_mixed test isnt w.base v.bytes w.bytes i } ∷ never test isnt vs ws i

-- ---- one page

and_false : (b : Bool) → (b && false) ≡ false
and_false true = refl
and_false false = refl

pub of_clean : (p : Page) → p.dirty ≡ false → (a : ℕ) → is_of_dirty p a ≡ false
of_clean p is a = ap (λ (b : Bool). eqb p.number (a / 4096) && b) is ∙ and_false (eqb p.number (a / 4096))

-- ---- one page after another

dirty_more : (pages : List Page) (i : ℕ) (d : Page) (a : ℕ) → i < length pages
    → in_dirty (take (i + 1) pages) a ≡ (in_dirty (take i pages) a || is_of_dirty (get_or pages i d) a)
dirty_more [] i d a lt = absurd (omega (arith, lt))
dirty_more (p ∷ pages) zero d a lt =
    let one : 0 + 1 ≡ suc 0 = omega arith in
    ap (λ (k : ℕ). in_dirty (take k (p ∷ pages)) a) one ∙ or_false (is_of_dirty p a)
  where
    or_false : (b : Bool) → (b || false) ≡ b
    or_false true = refl
    or_false false = refl
dirty_more (p ∷ pages) (suc i) d a lt =
    let more : suc i + 1 ≡ suc (i + 1) = omega arith in
    let lt' : i < length pages = omega (arith, lt) in
    ap (λ (k : ℕ). in_dirty (take k (p ∷ pages)) a) more
    ∙ ap (λ (b : Bool). is_of_dirty p a || b) (dirty_more pages i d a lt')
    ∙ or_assoc (is_of_dirty p a) (in_dirty (take i pages) a) (is_of_dirty (get_or pages i d) a)
  where
    or_assoc : (b c e : Bool) → (b || (c || e)) ≡ ((b || c) || e)
    or_assoc true c e = refl
    or_assoc false c e = refl

pub copied_more : (memory copy : List Window) (pages : List Page) (i : ℕ) (d : Page) → i < length pages
    → mixed_windows (is_of_dirty (get_or pages i d)) memory (copied memory (take i pages) copy) ≡ copied memory (take (i + 1) pages) copy
copied_more memory copy pages i d lt =
    windows_twice (in_dirty (take i pages)) (is_of_dirty (get_or pages i d)) (in_dirty (take (i + 1) pages)) (λ a. dirty_more pages i d a lt) memory copy

-- ---- at first

pub set_pages : (now : Bool) (ns : List ℕ) → set_all now (map (page false) ns) ≡ map (page now) ns
set_pages now [] = refl
set_pages now (n ∷ ns) = ap (λ (ps : List Page). page now n ∷ ps) (set_pages now ns)
