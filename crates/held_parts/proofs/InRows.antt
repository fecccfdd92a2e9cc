-- Parts held in a row.
use Rattle.std.proofs.Common.{◌≡◌, ◌≢◌, ℕ, zero, suc, ◌+◌, ◌-◌, ◌<◌, ◌≤◌, List, ◌∷◌, Option, Some, None, refl, ap, sym, ◌∙◌, subst, inl, inr, arith}
use Rattle.std.proofs.lemmas.Bool.{cases_lt}
use Rattle.std.specs.List.{AllByRecursion}
use Rattle.its_types.specs.declared.machine.Part.{Part}
use Rattle.its_plain.specs.Plain.{Plain}
use Rattle.its_steps.specs.Contents.{Content, Held}
use Rattle.its_steps.specs.Good.{Holds, Apart}
use Rattle.its_steps.specs.MayCall.{Owes}
use Rattle.its_steps.specs.Parts.{Setup}
use Rattle.its_steps.specs.Renewal.{renewed, content_in}
use Rattle.its_steps.specs.declared.commit.Commit.{Commit}
use Rattle.held_parts.specs.Rows.{Row, with_one, in_row}

-- ---- one more in front, or none

with_holds : (o : Option Held) (p : Part) (others : List Held) → Holds p others → Holds p (with_one o others)
with_holds None p others h = h
with_holds (Some x) p others h = inr h

with_owes : (o : Option Held) (p : Part) (c : Content) (others : List Held) → Owes p c others → Owes p c (with_one o others)
with_owes None p c others h = h
with_owes (Some x) p c others h = inr h

with_here : (o : Option Held) (x : Held) (others : List Held) → o ≡ Some x → Owes x.part x.owed (with_one o others)
with_here o x others is = subst (λ (y : Option Held). Owes x.part x.owed (with_one y others)) (sym is) (inl (refl, refl))

with_lacks : (o : Option Held) (p : Part) (others : List Held) → ((x : Held) → o ≡ Some x → x.part ≢ p) → (Holds p others → ⊥) → Holds p (with_one o others) → ⊥
with_lacks None p others other lacks h = lacks h
with_lacks (Some x) p others other lacks (inl e) = other x refl e
with_lacks (Some x) p others other lacks (inr h) = lacks h

with_all : (P : Held → Type 0) (o : Option Held) (others : List Held) → ((x : Held) → o ≡ Some x → P x) → AllByRecursion P others
    → AllByRecursion P (with_one o others)
with_all P None others one all = all
with_all P (Some x) others one all = (one x refl, all)

with_apart : (o : Option Held) (others : List Held) → ((x : Held) → o ≡ Some x → Holds x.part others → ⊥) → Apart others → Apart (with_one o others)
with_apart None others lacks apart = apart
with_apart (Some x) others lacks apart = (lacks x refl, apart)

with_each : (P : Held → Type 0) (o : Option Held) (others : List Held) → AllByRecursion P (with_one o others) → ((x : Held) → o ≡ Some x → P x)
    × AllByRecursion P others
with_each P None others all = ((λ x e. absurd cc), all)
with_each P (Some x) others all = ((λ y e. subst P (same x y e) all.0), all.1)
  where
    same : (a b : Held) → Some a ≡ Some b → a ≡ b
    same a b e = cc

-- ---- all of a row

module _ (row : Row) (others : List Held) where
  pub row_holds : (n : ℕ) (p : Part) → Holds p others → Holds p (in_row row n others)
  unfolding in_row
  row_holds zero p h = h
  row_holds (suc n) p h = with_holds (row n) p (in_row row n others) (row_holds n p h)

  pub row_owes : (n : ℕ) (p : Part) (c : Content) → Owes p c others → Owes p c (in_row row n others)
  unfolding in_row
  row_owes zero p c h = h
  row_owes (suc n) p c h = with_owes (row n) p c (in_row row n others) (row_owes n p c h)

  -- each that is held of those below n owes its content
  pub row_has : (n k : ℕ) (x : Held) → k < n → row k ≡ Some x → Owes x.part x.owed (in_row row n others)
  unfolding in_row
  row_has zero k x lt is = absurd (omega (arith, lt))
  row_has (suc n) k x lt is = elim (cases_lt k n) [
    | inl less ↦ with_owes (row n) x.part x.owed (in_row row n others) (row_has n k x less is)
    | inr le ↦ let e : k ≡ n = omega (arith, lt, le) in with_here (row n) x (in_row row n others) (ap row (sym e) ∙ is)
  ]

  -- another part is held only where the others have it
  pub row_lacks : (n : ℕ) (p : Part) → ((k : ℕ) (x : Held) → k < n → row k ≡ Some x → x.part ≢ p) → (Holds p others → ⊥) → Holds p (in_row row n others) → ⊥
  unfolding in_row
  row_lacks zero p other lacks h = lacks h
  row_lacks (suc n) p other lacks h = with_lacks (row n) p (in_row row n others) (λ x is. other n x (omega arith) is)
      (row_lacks n p (λ k x lt is. other k x (omega (arith, lt)) is) lacks) h

  pub row_all : (P : Held → Type 0) (n : ℕ) → ((k : ℕ) (x : Held) → k < n → row k ≡ Some x → P x) → AllByRecursion P others
      → AllByRecursion P (in_row row n others)
  unfolding in_row
  row_all P zero each all = all
  row_all P (suc n) each all = with_all P (row n) (in_row row n others) (λ x is. each n x (omega arith) is)
      (row_all P n (λ k x lt is. each k x (omega (arith, lt)) is) all)

  -- parts of other numbers are other parts
  pub row_apart : (n : ℕ) → ((j k : ℕ) (x y : Held) → j < k → row j ≡ Some x → row k ≡ Some y → x.part ≢ y.part)
      → ((k : ℕ) (x : Held) → row k ≡ Some x → Holds x.part others → ⊥) → Apart others → Apart (in_row row n others)
  unfolding in_row
  row_apart zero differ lacks apart = apart
  row_apart (suc n) differ lacks apart =
      with_apart (row n) (in_row row n others) (λ x is. row_lacks n x.part (λ k y lt there. differ k n y x lt there is) (lacks n x is))
      (row_apart n differ lacks apart)

  -- what is so of all is so of each, and of the others
  pub row_each : (P : Held → Type 0) (n : ℕ) → AllByRecursion P (in_row row n others) → ((k : ℕ) (x : Held) → k < n → row k ≡ Some x → P x)
      × AllByRecursion P others
  unfolding in_row
  row_each P zero all = ((λ k x lt is. absurd (omega (arith, lt))), all)
  row_each P (suc n) all =
      let one = with_each P (row n) (in_row row n others) all in
      let rest = row_each P n one.1 in (
        (λ k x lt is. elim (cases_lt k n) [
          | inl less ↦ rest.0 k x less is
          | inr le ↦ let e : k ≡ n = omega (arith, lt, le) in one.0 x (ap row (sym e) ∙ is)
        ]),
        rest.1,
      )

-- rows that agree below n hold the same
pub row_agrees : (a b : Row) (others : List Held) (n : ℕ) → ((k : ℕ) → k < n → a k ≡ b k) → in_row a n others ≡ in_row b n others
unfolding in_row
row_agrees a b others zero same = refl
row_agrees a b others (suc n) same =
    ap (λ (o : Option Held). with_one o (in_row a n others)) (same n (omega arith)) ∙ ap (with_one (b n))
    (row_agrees a b others n (λ k lt. same k (omega (arith, lt))))

pub row_none : (row : Row) (others : List Held) (n : ℕ) → n ≡ 0 → in_row row n others ≡ others
unfolding in_row
row_none row others n is = ap (λ (k : ℕ). in_row row k others) is

-- the highest comes first, where it is held
pub row_first : (row : Row) (others : List Held) (n k : ℕ) (x : Held) → n ≡ suc k → row k ≡ Some x → in_row row n others ≡ x ∷ in_row row k others
unfolding in_row
row_first row others n k x is there = ap (λ (m : ℕ). in_row row m others) is ∙ ap (λ (o : Option Held). with_one o (in_row row k others)) there

pub row_skips : (row : Row) (others : List Held) (n k : ℕ) → n ≡ suc k → row k ≡ None → in_row row n others ≡ in_row row k others
unfolding in_row
row_skips row others n k is there = ap (λ (m : ℕ). in_row row m others) is ∙ ap (λ (o : Option Held). with_one o (in_row row k others)) there

-- numbers whose parts aren't held may be left out
skipped : (row : Row) (others : List Held) (n m : ℕ) → ((k : ℕ) → n ≤ k → k < n + m → row k ≡ None) → in_row row (n + m) others ≡ in_row row n others
skipped row others n zero gone = (let e : n + 0 ≡ n = omega arith in ap (λ (k : ℕ). in_row row k others) e)
skipped row others n (suc m) gone = row_skips row others (n + suc m) (n + m) (omega arith) (gone (n + m) (omega arith) (omega arith))
    ∙ skipped row others n m (λ k le lt. gone k le (omega (arith, lt)))

-- those from n on and below another number
pub row_short : (row : Row) (others : List Held) (n end : ℕ) → n ≤ end → ((k : ℕ) → n ≤ k → k < end → row k ≡ None)
    → in_row row end others ≡ in_row row n others
row_short row others n end le gone =
    let e : n + (end - n) ≡ end = omega (arith, le) in
    ap (λ (k : ℕ). in_row row k others) (sym e) ∙ skipped row others n (end - n) (λ k from lt. gone k from (omega (arith, lt, e)))

-- ---- a renewal

module _ (s : Setup) (a : Commit) (left : Plain) where
  abbrev renewed_one : Held → Held
  renewed_one x = record x { owed = content_in s a left x.part x.owed }

  with_renewed : (o o' : Option Held) (others : List Held) → (o ≡ None → o' ≡ None) → ((x : Held) → o ≡ Some x → o' ≡ Some (renewed_one x))
      → renewed s a left (with_one o others) ≡ with_one o' (renewed s a left others)
  with_renewed None o' others gone new = ap (λ (y : Option Held). with_one y (renewed s a left others)) (sym (gone refl))
  with_renewed (Some x) o' others gone new = ap (λ (y : Option Held). with_one y (renewed s a left others)) (sym (new x refl))

  pub row_renewed : (old new : Row) (others : List Held) (n : ℕ) → ((k : ℕ) → k < n → old k ≡ None → new k ≡ None)
      → ((k : ℕ) (x : Held) → k < n → old k ≡ Some x → new k ≡ Some (renewed_one x))
      → renewed s a left (in_row old n others) ≡ in_row new n (renewed s a left others)
  unfolding in_row
  row_renewed old new others zero gone each = refl
  row_renewed old new others (suc n) gone each =
      with_renewed (old n) (new n) (in_row old n others) (gone n (omega arith)) (λ x is. each n x (omega arith) is)
      ∙ ap (with_one (new n)) (row_renewed old new others n (λ k lt is. gone k (omega (arith, lt)) is) (λ k x lt is. each k x (omega (arith, lt)) is))
