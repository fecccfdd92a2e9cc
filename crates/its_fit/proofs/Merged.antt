-- The lines of each thread among all, and their times.
use Rattle.std.proofs.Common.{◌≡◌, ◌≢◌, ℕ, ◌≤◌, eqb, cond, Bool, true, false, List, [], ◌∷◌, ◌++◌, refl, sym, ap, subst, ◌∙◌, arith, append-nil}
use Rattle.std.specs.List.{AllByRecursion}
use Rattle.front_search.specs.declared.span.Span.{Span}
use Rattle.its_fit.specs.Explained.{Line, lines_by, HadBegun, AgreesWithTimes}
use Rattle.its_fit.specs.declared.told.Answered.{Answered}
use Rattle.its_fit.proofs.Lists.{head_is, if_same, if_other}

pub lines_here : (i : ℕ) (l : Line) (lines : List Line) → l.0 ≡ i → lines_by i (l ∷ lines) ≡ l.1 ∷ lines_by i lines
lines_here i l lines e = if_same l.0 i (l.1 ∷ lines_by i lines) (lines_by i lines) e

pub lines_else : (i : ℕ) (l : Line) (lines : List Line) → l.0 ≢ i → lines_by i (l ∷ lines) ≡ lines_by i lines
lines_else i l lines ne = if_other l.0 i (l.1 ∷ lines_by i lines) (lines_by i lines) ne

chosen : (b : Bool) (x : Answered) (xs ys zs : List Answered) → xs ≡ ys ++ zs → cond b (x ∷ xs) xs ≡ cond b (x ∷ ys) ys ++ zs
chosen true x xs ys zs e = ap (λ w. x ∷ w) e
chosen false x xs ys zs e = e

lines_append : (i : ℕ) (a b : List Line) → lines_by i (a ++ b) ≡ lines_by i a ++ lines_by i b
lines_append i [] b = refl
lines_append i (l ∷ a) b = chosen (eqb l.0 i) l.1 (lines_by i (a ++ b)) (lines_by i a) (lines_by i b) (lines_append i a b)

pub lines_more : (i : ℕ) (lines : List Line) (l : Line) → l.0 ≡ i → lines_by i (lines ++ l ∷ []) ≡ lines_by i lines ++ l.1 ∷ []
lines_more i lines l e = lines_append i lines (l ∷ []) ∙ ap (λ z. lines_by i lines ++ z) (lines_here i l [] e)

pub lines_same : (i : ℕ) (lines : List Line) (l : Line) → l.0 ≢ i → lines_by i (lines ++ l ∷ []) ≡ lines_by i lines
lines_same i lines l ne = lines_append i lines (l ∷ []) ∙ ap (λ z. lines_by i lines ++ z) (lines_else i l [] ne) ∙ append-nil (lines_by i lines)

-- ---- facts of all lines

pub all_snoc : {A : Type 0} (P : A → Type 0) (xs : List A) (x : A) → AllByRecursion P xs → P x → AllByRecursion P (xs ++ x ∷ [])
all_snoc P [] x ps p = (p, tt)
all_snoc P (y ∷ xs) x ps p = (ps.0, all_snoc P xs x ps.1 p)

pub all_weaker : {A : Type 0} (P Q : A → Type 0) (xs : List A) → ((x : A) → P x → Q x) → AllByRecursion P xs → AllByRecursion Q xs
all_weaker P Q [] f ps = tt
all_weaker P Q (x ∷ xs) f ps = (f x ps.0, all_weaker P Q xs f ps.1)

-- ---- times

-- a line that returned no sooner than any before it had begun may come next
pub times_more : (lines : List Line) (l : Line) (latest : ℕ) → AgreesWithTimes lines → AllByRecursion (λ (x : Line). x.1.span.begin ≤ latest) lines
    → latest ≤ l.1.span.end → l.1.span.begin ≤ l.1.span.end → AgreesWithTimes (lines ++ l ∷ [])
times_more [] l latest times begun le own = ((own, tt), tt)
times_more (x ∷ lines) l latest times begun le own =
    let here : HadBegun x.1.span l = omega (arith, begun.0, le) in
    (all_snoc (HadBegun x.1.span) (x ∷ lines) l times.0 here, times_more lines l latest times.1 begun.1 le own)

begun_at : (s : Span) (i : ℕ) (l : Line) (lines : List Line) (a : Answered) (rest : List Answered) (t : Bool) → eqb l.0 i ≡ t → HadBegun s l
    → cond (eqb l.0 i) (l.1 ∷ lines_by i lines) (lines_by i lines) ≡ a ∷ rest → (lines_by i lines ≡ a ∷ rest → s.begin ≤ a.span.end) → s.begin ≤ a.span.end
begun_at s i l lines a rest true is here e later =
    let same : l.1 ≡ a = head_is (sym (ap (λ t. cond t (l.1 ∷ lines_by i lines) (lines_by i lines)) is) ∙ e) in
    subst (λ (z : Answered). s.begin ≤ z.span.end) same here
begun_at s i l lines a rest false is here e later =
    later (sym (ap (λ t. cond t (l.1 ∷ lines_by i lines) (lines_by i lines)) is) ∙ e)

-- the first of a thread's lines is one of all
pub had_begun : (s : Span) (i : ℕ) (lines : List Line) (a : Answered) (rest : List Answered) → AllByRecursion (HadBegun s) lines → lines_by i lines ≡ a ∷ rest
    → s.begin ≤ a.span.end
had_begun s i [] a rest all e = absurd (cc e)
had_begun s i (l ∷ lines) a rest all e = begun_at s i l lines a rest (eqb l.0 i) refl all.0 e (λ f. had_begun s i lines a rest all.1 f)
