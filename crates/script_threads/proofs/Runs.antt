-- A thread's calls, one by one.
use Rattle.std.proofs.Common.{◌≡◌, ℕ, zero, suc, ◌+◌, ◌<◌, ◌≤◌, List, [], ◌∷◌, ◌++◌, length, get_or, Some, None, Ok, Err, refl, ap, sym, ◌∙◌, subst, arith}
use Rattle.std.proofs.Common.{append_assoc, append-nil, length-append, true≢false}
use Rattle.std.specs.List.{AllByRecursion}
use Rattle.its_types.specs.declared.machine.Placed.{Placed}
use Rattle.its_plain.specs.History.{after}
use Rattle.its_plain.specs.Plain.{Plain}
use Rattle.its_plain.specs.Runs.{Thread}
use Rattle.its_plain.specs.declared.call.Call.{Call}
use Rattle.its_plain.specs.declared.call.Call.TheVariants as call
use Rattle.its_plain.specs.declared.call.Reply.{Reply}
use Rattle.its_steps.specs.World.{View, entry}
use Rattle.its_steps.proofs.Lists.{prefix_self, prefix_through}
use Rattle.its_turns.specs.Calls.{IsPlaced, Stays}
use Rattle.script_threads.specs.Asks.{Answers, TakesMemory, TakesMemoryIn}
use Rattle.script_threads.specs.Jobs.{entries_of, GoesFree, Ran, Doing}
use Rattle.script_threads.specs.Phases.{IsCutAtMemory}
use Rattle.script_threads.specs.declared.stop.Stop.{Stop}
use Rattle.script_threads.specs.declared.stop.Stop.TheVariants.{Spent, NoMemory}

pub all_at : {X : Type 0} (P : X → Type 0) (xs : List X) (k : ℕ) (d : X) → AllByRecursion P xs → k < length xs → P (get_or xs k d)
all_at P [] k d ps lt = absurd (omega arith)
all_at P (x ∷ xs) zero d ps lt = ps.0
all_at P (x ∷ xs) (suc k) d ps lt = all_at P xs k d ps.1 (omega arith)

-- ---- the entries of a thread

pub no_entries : (n : ℕ) (calls : Thread) → entries_of n calls [] ≡ []
no_entries n [] = refl
no_entries n (c ∷ calls) = refl

one_entry : (n : ℕ) (c : Call) (calls : Thread) (r : Placed Reply) → entries_of n (c ∷ calls) (r ∷ []) ≡ (r.place, entry n c r.reply) ∷ []
one_entry n c calls r = ap (λ es. (r.place, entry n c r.reply) ∷ es) (no_entries n calls)

entries_snoc : (n : ℕ) (calls : Thread) (done : List (Placed Reply)) (r : Placed Reply) (d : Call) → length done < length calls
    → entries_of n calls (done ++ r ∷ []) ≡ entries_of n calls done ++ (r.place, entry n (get_or calls (length done) d) r.reply) ∷ []
entries_snoc n [] done r d lt = absurd (omega arith)
entries_snoc n (c ∷ calls) [] r d lt = one_entry n c calls r
entries_snoc n (c ∷ calls) (x ∷ done) r d lt = ap (λ es. (x.place, entry n c x.reply) ∷ es) (entries_snoc n calls done r d (omega arith))

cut_here : (calls : Thread) (done : List (Placed Reply)) (d : Call) → length done < length calls → TakesMemory (get_or calls (length done) d)
    → IsCutAtMemory calls done
cut_here [] done d lt t = absurd (omega arith)
cut_here (c ∷ calls) [] d lt t = t
cut_here (c ∷ calls) (x ∷ done) d lt t = cut_here calls done d (omega arith) t

-- ---- passes that hold nothing

free_on : (u v w : View) → GoesFree u v → GoesFree v w → GoesFree u w
free_on u v w p q = record { setup = q.setup ∙ p.setup; number = q.number ∙ p.number; held = q.held }

placed_free : (v w : View) (c : Call) (r : Reply) (n : ℕ) → v.held ≡ [] → IsPlaced v c r n w → GoesFree v w
placed_free v w c r n free now = record {
  setup = ap (λ (x : View). x.setup) now.same;
  number = ap (λ (x : View). x.number) now.same;
  held = ap (λ (x : View). x.held) now.same ∙ free;
}

stays_free : (v w : View) → v.held ≡ [] → Stays v w → GoesFree v w
stays_free v w free now = record {
  setup = ap (λ (x : View). x.setup) now.same;
  number = ap (λ (x : View). x.number) now.same;
  held = ap (λ (x : View). x.held) now.same ∙ free;
}

-- ---- the calls so far

pub doing_none : (v : View) (calls : Thread) (done : List (Placed Reply)) → v.held ≡ [] → done ≡ [] → Doing v calls 0 done v
doing_none v calls done free none = record {
  free = record { setup = refl; number = refl; held = free };
  longer = prefix_self v.seen;
  mine = sym (ap (λ x. v.mine ++ entries_of v.number calls x) none ∙ (ap (λ x. v.mine ++ x) (no_entries v.number calls) ∙ append-nil v.mine));
  count = ap length none;
}

pub doing_more : (v w x : View) (calls : Thread) (k : ℕ) (d : Call) (done : List (Placed Reply)) (p : Placed Reply) → Doing v calls k done w
    → Answers w (get_or calls k d) x (Ok p) → k < length calls → Doing v calls (k + 1) (done ++ p ∷ []) x
doing_more v w x calls k d done p was now lt =
    let c : Call = get_or calls k d in
    let same : get_or calls (length done) d ≡ c = ap (λ n. get_or calls n d) was.count in
    let added : entries_of v.number calls (done ++ p ∷ []) ≡ entries_of v.number calls done ++ (p.place, entry v.number c p.reply) ∷ [] =
    entries_snoc v.number calls done p d (omega (arith, was.count, lt)) ∙ ap (λ z. entries_of v.number calls done ++ (p.place, entry v.number z p.reply) ∷ [])
    same in
    record {
      free = free_on v w x was.free (placed_free w x c p.reply p.place was.free.held now);
      longer = prefix_through v.seen w.seen x.seen was.longer
          (now.between ++ entry w.number c p.reply ∷ [], sym (append_assoc w.seen now.between (entry w.number c p.reply ∷ [])) ∙ sym now.seen);
      mine = now.mine ∙ ((λ i. was.mine i ++ (p.place, entry (was.free.number i) c p.reply) ∷ [])
          ∙ (append_assoc v.mine (entries_of v.number calls done) ((p.place, entry v.number c p.reply) ∷ []) ∙ ap (λ z. v.mine ++ z) (sym added)));
      count = omega (arith, length-append done (p ∷ []), was.count);
    }

pub doing_all : (v w : View) (calls : Thread) (k : ℕ) (done : List (Placed Reply)) → Doing v calls k done w → k ≤ length calls → length calls ≤ k
    → Ran v calls None done w
doing_all v w calls k done was most le = record {
  free = was.free;
  longer = was.longer;
  mine = was.mine;
  most = omega (arith, was.count);
  whole = λ _. omega (arith, was.count);
  cut = λ some. absurd (true≢false (sym some));
  spent = λ e. absurd (cc e);
  memory = λ e. absurd (cc e);
}

stays_of : (w x : View) (c : Call) (stop : Stop) → Answers w c x (Err stop) → Stays w x
stays_of w x c Spent r = r.0
stays_of w x c NoMemory r = r.0

spent_of : (w x : View) (c : Call) (stop : Stop) → Answers w c x (Err stop) → stop ≡ Spent → length x.seen ≡ w.setup.limits.place_last
spent_of w x c Spent r e = r.1
spent_of w x c NoMemory r e = absurd (cc e)

takes_memory : (u : Plain) (c : Call) → TakesMemoryIn u c → TakesMemory c
takes_memory u (call.Step its) t = tt
takes_memory u call.Save t = tt
takes_memory u (call.Signal its dev ev) t = absurd t
takes_memory u (call.Take vcpu) t = absurd t
takes_memory u (call.Show vcpu) t = absurd t
takes_memory u (call.Best vcpu mask) t = absurd t
takes_memory u (call.Claim vcpu intid) t = absurd t
takes_memory u call.Copy t = absurd t
takes_memory u (call.Dma req addr bytes to) t = t
takes_memory u (call.Poke addr bytes) t = tt
takes_memory u (call.Peek addr count) t = absurd t
takes_memory u (call.ReadReg its off size) t = absurd t
takes_memory u (call.WriteReg its off size value) t = absurd t
takes_memory u (call.ReadGicr vcpu off size) t = absurd t
takes_memory u (call.WriteGicr vcpu off size value) t = t

memory_of : (w x : View) (c : Call) (stop : Stop) → Answers w c x (Err stop) → stop ≡ NoMemory → TakesMemory c
memory_of w x c Spent r e = absurd (cc e)
memory_of w x c NoMemory r e = takes_memory (after w.setup.start x.seen) c r.1

pub doing_cut : (v w x : View) (calls : Thread) (k : ℕ) (d : Call) (done : List (Placed Reply)) (stop : Stop) → Doing v calls k done w
    → Answers w (get_or calls k d) x (Err stop) → k < length calls → Ran v calls (Some stop) done x
doing_cut v w x calls k d done stop was answer lt =
    let now = stays_of w x (get_or calls k d) stop answer in
    let below : length done < length calls = omega (arith, was.count, lt) in
    record {
      free = free_on v w x was.free (stays_free w x was.free.held now);
      longer = prefix_through v.seen w.seen x.seen was.longer now.longer;
      mine = ap (λ (z : View). z.mine) now.same ∙ was.mine;
      most = omega (arith, below);
      whole = λ none. absurd (cc none);
      cut = λ _. below;
      spent = λ e. spent_of w x (get_or calls k d) stop answer (cc e) ∙ ap (λ s. s.limits.place_last) was.free.setup;
      memory = λ e. cut_here calls done d below (subst (λ (n : ℕ). TakesMemory (get_or calls n d)) (sym was.count)
          (memory_of w x (get_or calls k d) stop answer (cc e)));
    }
