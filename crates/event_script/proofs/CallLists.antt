-- What is kept of calls stays the same where more calls that have bytes are added.
use Rattle.std.proofs.Common.{◌≡◌, ℕ, ◌≤◌, List, [], ◌∷◌, ◌++◌, length, Result, Ok, Err, OnErr, refl, sym, ap, ◌∙◌, arith}
use Rattle.std.proofs.lemmas.List.{length-append, map-append, get_or_append_left}
use Rattle.std.specs.List.{AllByRecursion}
use mathlib.Core.List.{IsPrefix}
use Rattle.its_plain.specs.declared.call.Call.{Call}
use Rattle.its_plain.specs.declared.call.Call.TheVariants as call
use Rattle.event_script.specs.CallList.{call_of, calls_of, IsInside}
use Rattle.event_script.specs.declared.call_list.Short.{Short}
use Rattle.event_script.specs.declared.call_list.Short.TheVariants.{Signal, Take, Show, Best, Claim, Peek, ReadReg, WriteReg, ReadGicr, WriteGicr, Step, Save, Copy, Long}

-- one call, beside more calls that have bytes
same_one : (xs ys : List Call) (s : Short) → IsInside (length xs) s → call_of (xs ++ ys) s ≡ call_of xs s
same_one xs ys (Long place) h = get_or_append_left xs ys call.Save place h
same_one xs ys (Signal its dev ev) h = refl
same_one xs ys (Take vcpu) h = refl
same_one xs ys (Show vcpu) h = refl
same_one xs ys (Best vcpu mask) h = refl
same_one xs ys (Claim vcpu intid) h = refl
same_one xs ys (Peek count addr) h = refl
same_one xs ys (ReadReg its size off) h = refl
same_one xs ys (WriteReg its size off value) h = refl
same_one xs ys (ReadGicr vcpu size off) h = refl
same_one xs ys (WriteGicr vcpu size off value) h = refl
same_one xs ys (Step its) h = refl
same_one xs ys Save h = refl
same_one xs ys Copy h = refl

inside_more : (n m : ℕ) (s : Short) → n ≤ m → IsInside n s → IsInside m s
inside_more n m (Long place) le h = omega (arith, h, le)
inside_more n m (Signal its dev ev) le h = tt
inside_more n m (Take vcpu) le h = tt
inside_more n m (Show vcpu) le h = tt
inside_more n m (Best vcpu mask) le h = tt
inside_more n m (Claim vcpu intid) le h = tt
inside_more n m (Peek count addr) le h = tt
inside_more n m (ReadReg its size off) le h = tt
inside_more n m (WriteReg its size off value) le h = tt
inside_more n m (ReadGicr vcpu size off) le h = tt
inside_more n m (WriteGicr vcpu size off value) le h = tt
inside_more n m (Step its) le h = tt
inside_more n m Save le h = tt
inside_more n m Copy le h = tt

same_all : (xs ys : List Call) (ss : List Short) → AllByRecursion (IsInside (length xs)) ss → calls_of (xs ++ ys) ss ≡ calls_of xs ss
same_all xs ys [] h = refl
same_all xs ys (s ∷ ss) h = λ i. same_one xs ys s h.0 i ∷ same_all xs ys ss h.1 i

all_more : (n m : ℕ) (ss : List Short) → n ≤ m → AllByRecursion (IsInside n) ss → AllByRecursion (IsInside m) ss
all_more n m [] le h = tt
all_more n m (s ∷ ss) le h = (inside_more n m s le h.0, all_more n m ss le h.1)

prefix_length : (xs zs : List Call) → IsPrefix xs zs → length xs ≤ length zs
prefix_length xs zs p = omega (arith, ap length p.1, length-append xs p.0)

pub same_calls : (xs zs : List Call) (ss : List Short) → IsPrefix xs zs → AllByRecursion (IsInside (length xs)) ss → calls_of zs ss ≡ calls_of xs ss
same_calls xs zs ss p h = ap (λ (l : List Call). calls_of l ss) (sym p.1) ∙ same_all xs p.0 ss h

pub still_inside : (xs zs : List Call) (ss : List Short) → IsPrefix xs zs → AllByRecursion (IsInside (length xs)) ss
    → AllByRecursion (IsInside (length zs)) ss
still_inside xs zs ss p h = all_more (length xs) (length zs) ss (prefix_length xs zs p) h

pub one_more_inside : (n : ℕ) (ss : List Short) (s : Short) → AllByRecursion (IsInside n) ss → IsInside n s → AllByRecursion (IsInside n) (ss ++ s ∷ [])
one_more_inside n [] s all one = (one, tt)
one_more_inside n (x ∷ ss) s all one = (all.0, one_more_inside n ss s all.1 one)

-- one more call is kept so, beside those that have bytes and maybe one more
pub one_more : (xs zs : List Call) (ss : List Short) (s : Short) (c : Call) → IsPrefix xs zs → AllByRecursion (IsInside (length xs)) ss → call_of zs s ≡ c
    → calls_of zs (ss ++ s ∷ []) ≡ calls_of xs ss ++ c ∷ []
one_more xs zs ss s c p h is = map-append (call_of zs) ss (s ∷ []) ∙ λ i. same_calls xs zs ss p h i ++ is i ∷ []

pub on_err : {A E Q : Type 0} (r : Result A E) → Q → OnErr r Q
on_err (Ok x) q = tt
on_err (Err e) q = q
