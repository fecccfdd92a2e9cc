-- How many calls of each thread of a phase are answered.
use Rattle.std.proofs.Common.{◌≡◌, ◌≢◌, ℕ, zero, suc, ◌+◌, ◌<◌, ◌≤◌, cond, List, [], ◌∷◌, ◌++◌, length, take, Some, refl, sym, ap, subst, ◌∙◌, inl, inr, arith}
use Rattle.std.proofs.Common.{length-take, lt-ltb}
use Rattle.std.specs.Prelude.{slice_get}
use Rattle.std.specs.List.{AllByRecursion}
use Rattle.std.proofs.lemmas.Bool.{cases_lt, le-ltb}
use Rattle.std.proofs.lemmas.List.{take_all}
use mathlib.Core.List.{IsPrefix}
use mathlib.Core.Logic.{dite}
use native.Mathlib.Decide.{ℕ_discrete}
use Rattle.its_plain.specs.History.{calls_by}
use Rattle.its_plain.specs.Runs.{Phase, IsOfPasses, HasCalls, HasFirstCalls, IsPhase, IsPartOfPhase}
use Rattle.its_plain.specs.declared.call.Call.{Call}
use Rattle.its_plain.specs.declared.call.Entry.{Entry}
use Rattle.trace_check.specs.Cursors.{zeros, one_if, open_count, call_of, more}
use Rattle.trace_check.proofs.Lists.{all_both, all_rest, calls_more, calls_same}

-- thread by thread a pass made just its first calls, so many
abbrev pub HasTaken : ℕ → Phase → List Entry → List ℕ → Type 0
HasTaken pass [] h [] = Unit {0}
HasTaken pass (calls ∷ threads) h (n ∷ ns) = (calls_by pass h ≡ take n calls) × (n ≤ length calls) × HasTaken (suc pass) threads h ns
HasTaken pass _ h _ = ⊥

pub record IsTaken (pass : ℕ) (threads : Phase) (h : List Entry) (ns : List ℕ) : Type 0 where
  pub only : AllByRecursion (IsOfPasses pass (length threads)) h
  pub taken : HasTaken pass threads h ns

-- ---- a part of the phase

first_taken : (pass : ℕ) (threads : Phase) (h : List Entry) (ns : List ℕ) → HasTaken pass threads h ns → HasFirstCalls pass threads h
first_taken pass [] h [] t = tt
first_taken pass [] h (n ∷ ns) t = absurd t
first_taken pass (calls ∷ threads) h [] t = absurd t
first_taken pass (calls ∷ threads) h (n ∷ ns) t =
    (subst (λ (z : List Call). IsPrefix z calls) (sym t.0) (front n calls), first_taken (suc pass) threads h ns t.2)
  where
    front : (n : ℕ) (cs : List Call) → IsPrefix (take n cs) cs
    front zero cs = (cs, refl)
    front (suc n) [] = ([], refl)
    front (suc n) (c ∷ cs) = let p = front n cs in (p.0, ap (λ z. c ∷ z) p.1)

pub taken_part : (pass : ℕ) (threads : Phase) (h : List Entry) (ns : List ℕ) → IsTaken pass threads h ns → IsPartOfPhase pass threads h
taken_part pass threads h ns t = record { only = t.only; calls = first_taken pass threads h ns t.taken }

-- ---- no call is answered

pub none_taken : (pass : ℕ) (threads : Phase) → HasTaken pass threads [] (zeros threads)
none_taken pass [] = tt
none_taken pass (calls ∷ threads) = (refl, omega arith, none_taken (suc pass) threads)

-- ---- threads that have calls left

pub one_is : (n m : ℕ) → n < m → one_if n m ≡ 1
one_is n m lt = ap (λ b. cond b 1 0) (lt-ltb n m lt)

pub one_not : (n m : ℕ) → m ≤ n → one_if n m ≡ 0
one_not n m le = ap (λ b. cond b 1 0) (le-ltb n m le)

-- where none has, the phase is whole
all_taken : (pass : ℕ) (threads : Phase) (h : List Entry) (ns : List ℕ) → HasTaken pass threads h ns → open_count threads ns ≡ 0 → HasCalls pass threads h
all_taken pass [] h [] t e = tt
all_taken pass [] h (n ∷ ns) t e = absurd t
all_taken pass (calls ∷ threads) h [] t e = absurd t
all_taken pass (calls ∷ threads) h (n ∷ ns) t e =
    elim (cases_lt n (length calls)) [
      | inl lt ↦ absurd (let one : one_if n (length calls) ≡ 1 = one_is n (length calls) lt in omega (arith, one, e))
      | inr le ↦
          (t.0 ∙ take_all n calls le, all_taken (suc pass) threads h ns t.2 (omega (arith, e)))
    ]

pub whole_taken : (pass : ℕ) (threads : Phase) (h : List Entry) (ns : List ℕ) → IsTaken pass threads h ns → open_count threads ns ≡ 0 → IsPhase pass threads h
whole_taken pass threads h ns t e = record { only = t.only; calls = all_taken pass threads h ns t.taken e }

get_some : (cs : List Call) (n : ℕ) → n < length cs → (c : Call) × (slice_get cs n ≡ Some c)
get_some [] n lt = absurd (omega arith)
get_some (c ∷ cs) zero lt = (c, refl)
get_some (c ∷ cs) (suc n) lt = get_some cs n (omega arith)

pub get_within : (cs : List Call) (n : ℕ) (c : Call) → slice_get cs n ≡ Some c → n < length cs
get_within [] n c e = absurd (cc e)
get_within (x ∷ cs) zero c e = omega arith
get_within (x ∷ cs) (suc n) c e = omega (arith, get_within cs n c e)

-- one that has, where some has
pub some_open : (pass : ℕ) (threads : Phase) (h : List Entry) (ns : List ℕ) → 0 < open_count threads ns → (i : ℕ) × (c : Call) × (call_of threads ns i ≡ Some c)
some_open pass [] h ns lt = absurd (omega arith)
some_open pass (calls ∷ threads) h [] lt = absurd (omega arith)
some_open pass (calls ∷ threads) h (n ∷ ns) lt =
    elim (cases_lt n (length calls)) [
      | inl less ↦ (let g = get_some calls n less in (0, g.0, g.1))
      | inr le ↦
          let rest = some_open (suc pass) threads h ns (let none : one_if n (length calls) ≡ 0 = one_not n (length calls) le in omega (arith, none, lt)) in
          (suc rest.0, rest.1, rest.2)
    ]

-- and then the phase isn't whole
pub not_whole : (pass : ℕ) (threads : Phase) (h : List Entry) (ns : List ℕ) (i : ℕ) (c : Call) → HasTaken pass threads h ns → call_of threads ns i ≡ Some c
    → HasCalls pass threads h → ⊥
not_whole pass [] h ns i c t e whole = absurd (cc e)
not_whole pass (calls ∷ threads) h [] i c t e whole = absurd t
not_whole pass (calls ∷ threads) h (n ∷ ns) zero c t e whole =
    let lt = get_within calls n c e in
    omega (arith, lt, ap length (sym t.0 ∙ whole.0), length-take n calls)
not_whole pass (calls ∷ threads) h (n ∷ ns) (suc i) c t e whole = not_whole (suc pass) threads h ns i c t.2 e whole.1

-- ---- one more call

-- the entries of an earlier pass count in none of these threads
still_taken : (pass : ℕ) (threads : Phase) (h : List Entry) (ns : List ℕ) (e : Entry) → HasTaken pass threads h ns → e.pass < pass
    → HasTaken pass threads (h ++ e ∷ []) ns
still_taken pass [] h [] e t lt = tt
still_taken pass [] h (n ∷ ns) e t lt = absurd t
still_taken pass (calls ∷ threads) h [] e t lt = absurd t
still_taken pass (calls ∷ threads) h (n ∷ ns) e t lt =
    let ne : e.pass ≢ pass = λ s. absurd (omega (arith, s, lt)) in
    (calls_same pass h e ne ∙ t.0, t.1, still_taken (suc pass) threads h ns e t.2 (omega arith))

take_one : (cs : List Call) (n : ℕ) (c : Call) → slice_get cs n ≡ Some c → take n cs ++ c ∷ [] ≡ take (n + 1) cs
take_one [] n c e = absurd (cc e)
take_one (x ∷ cs) zero c e = let same : x ≡ c = cc e in ap (λ z. z ∷ []) (sym same)
take_one (x ∷ cs) (suc n) c e =
    let next : suc n + 1 ≡ suc (n + 1) = omega arith in
    ap (λ z. x ∷ z) (take_one cs n c e) ∙ ap (λ (k : ℕ). take k (x ∷ cs)) (sym next)

has_more : (pass : ℕ) (threads : Phase) (h : List Entry) (ns : List ℕ) (i : ℕ) (e : Entry) → HasTaken pass threads h ns → call_of threads ns i ≡ Some e.call
    → e.pass ≡ pass + i → HasTaken pass threads (h ++ e ∷ []) (more ns i)
has_more pass [] h ns i e t call is = absurd (cc call)
has_more pass (calls ∷ threads) h [] i e t call is = absurd t
has_more pass (calls ∷ threads) h (n ∷ ns) zero e t call is =
    let here : e.pass ≡ pass = omega (arith, is) in (
      calls_more pass h e here ∙ (ap (λ cs. cs ++ e.call ∷ []) t.0 ∙ take_one calls n e.call call),
      omega (arith, get_within calls n e.call call),
      still_taken
          (suc pass) threads h ns e t.2 (omega (arith, here)),
    )
has_more pass (calls ∷ threads) h (n ∷ ns) (suc i) e t call is =
    let ne : e.pass ≢ pass = λ s. absurd (omega (arith, s, is)) in
    (calls_same pass h e ne ∙ t.0, t.1, has_more (suc pass) threads h ns i e t.2 call (omega (arith, is)))

pub call_below : (threads : Phase) (ns : List ℕ) (i : ℕ) (c : Call) → call_of threads ns i ≡ Some c → i < length threads
call_below [] ns i c e = absurd (cc e)
call_below (calls ∷ threads) [] i c e = absurd (cc e)
call_below (calls ∷ threads) (n ∷ ns) zero c e = omega arith
call_below (calls ∷ threads) (n ∷ ns) (suc i) c e = omega (arith, call_below threads ns i c e)

pub taken_more : (pass : ℕ) (threads : Phase) (h : List Entry) (ns : List ℕ) (i : ℕ) (e : Entry) → IsTaken pass threads h ns
    → call_of threads ns i ≡ Some e.call → e.pass ≡ pass + i → IsTaken pass threads (h ++ e ∷ []) (more ns i)
taken_more pass threads h ns i e t call is =
    let below = call_below threads ns i e.call call in
    record {
      only = all_both (IsOfPasses pass (length threads)) h (e ∷ []) t.only ((omega (arith, is), omega (arith, is, below)), tt);
      taken = has_more pass threads h ns i e t.taken call is;
    }

-- ---- the call that one more entry has

take_next : (cs : List Call) (n : ℕ) (c : Call) → n ≤ length cs → IsPrefix (take n cs ++ c ∷ []) cs → slice_get cs n ≡ Some c
take_next [] zero c le p = absurd (cc (p.1))
take_next [] (suc n) c le p = absurd (omega arith)
take_next (x ∷ cs) zero c le p = let same : c ≡ x = cc (p.1) in ap (λ z. Some z) (sym same)
take_next (x ∷ cs) (suc n) c le p = take_next cs n c (omega arith) (p.0, cc (p.1))

has_next : (pass : ℕ) (threads : Phase) (h : List Entry) (ns : List ℕ) (e : Entry) → HasTaken pass threads h ns → HasFirstCalls pass threads (h ++ e ∷ [])
    → pass ≤ e.pass → e.pass < pass + length threads
    → (i : ℕ) × (e.pass ≡ pass + i) × (call_of threads ns i ≡ Some e.call)
has_next pass [] h ns e t some le lt = absurd (omega arith)
has_next pass (calls ∷ threads) h [] e t some le lt = absurd t
has_next pass (calls ∷ threads) h (n ∷ ns) e t some le lt =
    dite (ℕ_discrete e.pass pass)
    (λ is.
    let made : calls_by pass (h ++ e ∷ []) ≡ take n calls ++ e.call ∷ [] = calls_more pass h e is ∙ ap (λ cs. cs ++ e.call ∷ []) t.0 in
    (0, omega (arith, is), take_next calls n e.call t.1 (subst (λ (z : List Call). IsPrefix z calls) made some.0)))
    (λ ne.
    let rest = has_next (suc pass) threads h ns e t.2 some.1 (omega (arith, ne)) (omega arith) in
    (suc rest.0, omega (arith, rest.1), rest.2))

pub next_taken : (pass : ℕ) (threads : Phase) (h : List Entry) (ns : List ℕ) (e : Entry) → IsTaken pass threads h ns → IsPartOfPhase pass threads (h ++ e ∷ [])
    → (i : ℕ) × (e.pass ≡ pass + i) × (call_of threads ns i ≡ Some e.call)
next_taken pass threads h ns e t part =
    let of = (all_rest (IsOfPasses pass (length threads)) h (e ∷ []) part.only).0 in
    has_next pass threads h ns e t.taken part.calls of.0 of.1
