-- What the entries of a leg's history are: their calls are in range, and there are no more of them than its threads have.
use Rattle.std.proofs.Common.{◌≡◌, ◌≢◌, ℕ, zero, suc, ◌+◌, ◌*◌, ◌<◌, ◌≤◌, Bool, true, false, ◌&&◌, nat_lt, nat_le, eqb, cond, List, [], ◌∷◌, ◌++◌, length}
use Rattle.std.proofs.Common.{refl, sym, ap, subst, arith, eq-eqb, ne_eqb}
use Rattle.std.specs.List.{AllByRecursion, list_all}
use Rattle.std.proofs.lemmas.Bool.{and_parts, leb-true}
use Rattle.std.proofs.lemmas.List.{length-append}
use mathlib.Core.Logic.{dite}
use native.Mathlib.Decide.{ℕ_discrete}
use Rattle.its_plain.specs.History.{calls_by}
use Rattle.its_plain.specs.Runs.{Thread, Phase, Leg, IsOfPasses, HasCalls, IsPhase, ArePhases}
use Rattle.its_plain.specs.declared.call.Call.{Call}
use Rattle.its_plain.specs.declared.call.Call.TheVariants as call
use Rattle.its_plain.specs.declared.call.Entry.{Entry}
use Rattle.its_plain.specs.declared.desc.Desc.{Desc}
use Rattle.event_script.specs.Limits.{are_bytes, has_bytes, is_call, is_thread, is_phase, is_leg}
use Rattle.event_script.specs.Routes.{said_route, same_route}
use Rattle.event_script.specs.declared.draft.TheConstants.{MOST_PHASES, MOST_THREADS, MOST_CALLS}
use Rattle.report_reading.specs.Bytes.{GivesBytes}

-- ---- calls in range

-- 1 to 64 of them
some_bytes : (bytes : List ℕ) → has_bytes 64 bytes ≡ true → are_bytes bytes ≡ true
some_bytes bytes e = (and_parts (nat_lt 0 (length bytes) && nat_le (length bytes) 64) (are_bytes bytes) e).1

call_gives : (d : Desc) (c : Call) → is_call d c ≡ true → GivesBytes c
call_gives d (call.Signal its dev ev) e = tt
call_gives d (call.Take vcpu) e = tt
call_gives d (call.Show vcpu) e = tt
call_gives d (call.Best vcpu mask) e = tt
call_gives d (call.Claim vcpu intid) e = tt
call_gives d (call.Poke addr bytes) e = some_bytes bytes e
call_gives d (call.Peek addr count) e = tt
call_gives d (call.ReadReg its off size) e = tt
call_gives d (call.WriteReg its off size value) e = tt
call_gives d (call.ReadGicr vcpu off size) e = tt
call_gives d (call.WriteGicr vcpu off size value) e = tt
call_gives d (call.Step its) e = tt
call_gives d call.Save e = tt
call_gives d call.Copy e = tt
call_gives d (call.Dma req addr bytes route) e = some_bytes bytes (and_parts (has_bytes 64 bytes) (same_route route (said_route d req addr.0 bytes)) e).0

all_give : (d : Desc) (calls : Thread) → list_all (is_call d) calls ≡ true → AllByRecursion GivesBytes calls
all_give d [] e = tt
all_give d (c ∷ calls) e =
    let parts = and_parts (is_call d c) (list_all (is_call d) calls) e in (call_gives d c parts.0, all_give d calls parts.1)

-- ---- the calls of passes

-- of each of these passes the calls give bytes, and there are no more than a thread may have
abbrev ArePasses : ℕ → ℕ → List Entry → Type 0
ArePasses m zero h = Unit {0}
ArePasses m (suc count) h = (AllByRecursion GivesBytes (calls_by m h) × (length (calls_by m h) ≤ 65536)) × ArePasses (suc m) count h

passes_of : (d : Desc) (m : ℕ) (threads : Phase) (h : List Entry) → list_all (is_thread d) threads ≡ true → HasCalls m threads h
    → ArePasses m (length threads) h
passes_of d m [] h e calls = tt
passes_of d m (t ∷ threads) h e calls =
    let parts = and_parts (is_thread d t) (list_all (is_thread d) threads) e in
    let thread = and_parts (nat_le (length t) MOST_CALLS) (list_all (is_call d) t) parts.0 in
    let few : length t ≤ MOST_CALLS = leb-true (length t) MOST_CALLS thread.0 in (
      (
        subst (AllByRecursion GivesBytes) (sym calls.0) (all_give d t thread.1),
        subst (λ (cs : Thread). length cs ≤ 65536) (sym calls.0) (omega (arith, few)),
      ),
      passes_of d (suc m) threads h parts.1 calls.1,
    )

here : (m : ℕ) (e : Entry) (h : List Entry) → e.pass ≡ m → calls_by m (e ∷ h) ≡ e.call ∷ calls_by m h
here m e h is = ap (λ b. cond b (e.call ∷ calls_by m h) (calls_by m h)) (eq-eqb e.pass m is)

else_where : (m : ℕ) (e : Entry) (h : List Entry) → e.pass ≢ m → calls_by m (e ∷ h) ≡ calls_by m h
else_where m e h ne = ap (λ b. cond b (e.call ∷ calls_by m h) (calls_by m h)) (ne_eqb e.pass m ne)

-- those of the entries after the first
rest_gives : (b : Bool) (c : Call) (cs : Thread) → AllByRecursion GivesBytes (cond b (c ∷ cs) cs) → AllByRecursion GivesBytes cs
rest_gives true c cs h = h.1
rest_gives false c cs h = h

-- how many calls these passes have
abbrev total : ℕ → ℕ → List Entry → ℕ
total m zero h = 0
total m (suc count) h = length (calls_by m h) + total (suc m) count h

less : (b : Bool) (c : Call) (cs : Thread) → length cs ≤ length (let all : Thread = cond b (c ∷ cs) cs in all)
less true c cs = omega arith
less false c cs = omega arith

total_more : (m count : ℕ) (e : Entry) (h : List Entry) → total m count h ≤ total m count (e ∷ h)
total_more m zero e h = omega arith
total_more m (suc count) e h = omega (arith, less (eqb e.pass m) e.call (calls_by m h), total_more (suc m) count e h)

one_more : (m count : ℕ) (e : Entry) (h : List Entry) → m ≤ e.pass → e.pass < m + count → suc (total m count h) ≤ total m count (e ∷ h)
one_more m zero e h le lt = absurd (omega arith)
one_more m (suc count) e h le lt =
    dite (ℕ_discrete e.pass m)
    (λ is. (let n : length (calls_by m (e ∷ h)) ≡ suc (length (calls_by m h)) = ap (λ (cs : Thread). length cs) (here m e h is) in
    omega (arith, n, total_more (suc m) count e h)))
    (λ ne. (let n : length (calls_by m (e ∷ h)) ≡ length (calls_by m h) = ap (λ (cs : Thread). length cs) (else_where m e h ne) in
    omega (arith, n, one_more (suc m) count e h (omega (arith, ne)) (omega arith))))

entries_total : (m count : ℕ) (h : List Entry) → AllByRecursion (IsOfPasses m count) h → length h ≤ total m count h
entries_total m count [] of = omega arith
entries_total m count (e ∷ h) of = omega (arith, one_more m count e h of.0.0 of.0.1, entries_total m count h of.1)

few_calls : (m count : ℕ) (h : List Entry) → ArePasses m count h → total m count h ≤ count * 65536
few_calls m zero h p = omega arith
few_calls m (suc count) h p = omega (arith, p.0.1, few_calls (suc m) count h p.1)

-- ---- the entries of a phase

-- calls and passes are in range
pub record IsInRange (most : ℕ) (e : Entry) : Type 0 where
  pub gives : GivesBytes e.call
  pub pass : e.pass < most

-- the calls alone, of each pass by its number
abbrev AllGive : ℕ → ℕ → List Entry → Type 0
AllGive m count h = (p : ℕ) → m ≤ p → p < m + count → AllByRecursion GivesBytes (calls_by p h)

each_gives : (m count : ℕ) (h : List Entry) → ArePasses m count h → AllGive m count h
each_gives m zero h a p le lt = absurd (omega arith)
each_gives m (suc count) h a p le lt =
    dite (ℕ_discrete p m) (λ is. subst (λ (k : ℕ). AllByRecursion GivesBytes (calls_by k h)) (sym is) a.0.0)
    (λ ne. each_gives (suc m) count h a.1 p (omega (arith, ne)) (omega arith))

phase_range : (m count most : ℕ) (h : List Entry) → m + count ≤ most → AllByRecursion (IsOfPasses m count) h → AllGive m count h
    → AllByRecursion (IsInRange most) h
phase_range m count most [] fits of a = tt
phase_range m count most (e ∷ h) fits of a =
    let own : AllByRecursion GivesBytes (e.call ∷ calls_by e.pass h) = subst (AllByRecursion GivesBytes) (here e.pass e h refl) (a e.pass of.0.0 of.0.1) in (
      record { gives = own.0; pass = omega (arith, of.0.1) },
      phase_range m count most h fits of.1 (λ p le lt. rest_gives (eqb e.pass p) e.call (calls_by p h) (a p le lt)),
    )

pub record AreEntries (most many : ℕ) (h : List Entry) : Type 0 where
  pub range : AllByRecursion (IsInRange most) h
  pub count : length h ≤ many

phase_entries : (d : Desc) (m most : ℕ) (threads : Phase) (h : List Entry) → is_phase d threads ≡ true → m + 64 ≤ most → IsPhase m threads h
    → (length threads ≤ 64) × AreEntries most 4194304 h
phase_entries d m most threads h e fits p =
    let parts = and_parts (nat_lt 0 (length threads) && nat_le (length threads) MOST_THREADS) (list_all (is_thread d) threads) e in
    let most_threads : length threads ≤ MOST_THREADS =
    leb-true (length threads) MOST_THREADS (and_parts (nat_lt 0 (length threads)) (nat_le (length threads) MOST_THREADS) parts.0).1 in
    let few : length threads ≤ 64 = omega (arith, most_threads) in
    let passes : ArePasses m (length threads) h = passes_of d m threads h parts.1 p.calls in (
      few,
      record {
        range = phase_range m (length threads) most h (omega (arith, few)) p.only (each_gives m (length threads) h passes);
        count = omega (arith, entries_total m (length threads) h p.only, few_calls m (length threads) h passes, few);
      },
    )

-- ---- the entries of a leg

all_append : {X : Type 0} (P : X → Type 0) (xs ys : List X) → AllByRecursion P xs → AllByRecursion P ys → AllByRecursion P (xs ++ ys)
all_append P [] ys p q = q
all_append P (x ∷ xs) ys p q = (p.0, all_append P xs ys p.1 q)

phases_entries : (d : Desc) (m most : ℕ) (phases : Leg) (h : List Entry) → list_all (is_phase d) phases ≡ true → m + 64 * length phases ≤ most
    → ArePhases m phases h → AreEntries most (length phases * 4194304) h
phases_entries d m most [] h e fits p = subst (AreEntries most 0) (sym p) (record { range = tt; count = omega arith })
phases_entries d m most (threads ∷ phases) h e fits p =
    let parts = and_parts (is_phase d threads) (list_all (is_phase d) phases) e in
    let now = phase_entries d m most threads p.0 parts.0 (omega arith) p.3 in
    let rest : AreEntries most (length phases * 4194304) p.1 =
    phases_entries d (m + length threads) most phases p.1 parts.1 (omega (arith, now.0)) p.4 in
    subst (AreEntries most (length (threads ∷ phases) * 4194304)) (sym p.2) (record {
      range = all_append (IsInRange most) p.0 p.1 now.1.range rest.range;
      count = omega (arith, length-append p.0 p.1, now.1.count, rest.count);
    })

-- 256 phases of 64 threads of 65,536 calls
pub leg_entries : (d : Desc) (leg : Leg) (h : List Entry) → is_leg d leg ≡ true → ArePhases 1 leg h
    → (length leg ≤ 256) × AreEntries 16385 1073741824 h
leg_entries d leg h e p =
    let parts = and_parts (nat_le (length leg) MOST_PHASES) (list_all (is_phase d) leg) e in
    let most : length leg ≤ MOST_PHASES = leb-true (length leg) MOST_PHASES parts.0 in
    let few : length leg ≤ 256 = omega (arith, most) in
    let all = phases_entries d 1 16385 leg h parts.1 (omega (arith, few)) p in
    (few, record { range = all.range; count = omega (arith, all.count, few) })
