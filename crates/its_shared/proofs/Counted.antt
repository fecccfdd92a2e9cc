-- What a pass has counted after a call.
use Rattle.std.proofs.Common.{◌≡◌, ℕ, true, List, [], ◌∷◌, ◌++◌, ap, sym, ◌∙◌, subst}
use Rattle.its_types.specs.declared.machine.Placed.{Placed}
use Rattle.its_plain.specs.Answer.{answer, reply_of, left}
use Rattle.its_plain.specs.History.{after, IsLegal}
use Rattle.its_plain.specs.Plain.{Plain, maps_of}
use Rattle.its_plain.specs.declared.call.Call.{Call}
use Rattle.its_plain.specs.declared.call.Entry.{Entry}
use Rattle.its_plain.specs.declared.call.Reply.{Reply}
use Rattle.its_numbers.specs.Codes as codes
use Rattle.its_numbers.specs.Counters.{count_reply}
use Rattle.its_numbers.specs.Routes.{counted}
use Rattle.its_numbers.specs.declared.counters.Counters.{Counters}
use Rattle.its_numbers.proofs.RoutesStay.{same_count, step_stays, write_stays}
use Rattle.its_steps.specs.World.{entry}
use Rattle.its_steps.proofs.Lists.{after_snoc}
use Rattle.its_turns.specs.Calls.{IsPlaced}
use Rattle.its_shared.specs.Answers.{Answers}
use Rattle.its_shared.specs.Asked as asked
use Rattle.its_shared.proofs.Reading.{last_legal}
use Rattle.its_shared.specs.Counting.{reply_leaves_maps, leaves_maps, counted_so, CountsEntry, Counts, KeepsRoutes}
use Rattle.its_shared.specs.Knowing.{Known}
use Rattle.its_shared.specs.Telling.{code_of, is_done}
use Rattle.its_shared.specs.declared.answer.Answer.{Answer}
use Rattle.its_shared.specs.declared.answer.Answer.TheVariants.{Made, Busy, Spent, NoMemory, Full}

-- ---- the last entry

abbrev tail_of : List Entry → List Entry
tail_of [] = []
tail_of (x ∷ xs) = xs

abbrev head_or : Entry → List Entry → Entry
head_or a [] = a
head_or a (x ∷ xs) = x

none_longer : (xs : List Entry) (a : Entry) → [] ≡ xs ++ a ∷ [] → ⊥
none_longer [] a e = cc
none_longer (x ∷ xs) a e = cc

-- lists that end with one more end with the same
same_last : (xs ys : List Entry) (a b : Entry) → xs ++ a ∷ [] ≡ ys ++ b ∷ [] → a ≡ b
same_last [] [] a b e = ap (head_or a) e
same_last [] (y ∷ ys) a b e = absurd (none_longer ys b (ap tail_of e))
same_last (x ∷ xs) [] a b e = absurd (none_longer xs a (sym (ap tail_of e)))
same_last (x ∷ xs) (y ∷ ys) a b e = same_last xs ys a b (ap tail_of e)

-- ---- numbers of answers

busy_apart : codes.busy ≡ codes.done → ⊥
busy_apart e = cc

spent_apart : codes.spent ≡ codes.done → ⊥
spent_apart e = cc

no_memory_apart : codes.no_memory ≡ codes.done → ⊥
no_memory_apart e = cc

full_apart : codes.full ≡ codes.done → ⊥
full_apart e = cc

-- ---- a call that was counted, from what the pass knew before it to what it knew after it, and once it was counted

abbrev IsCounted : {T : Type 0} → Call → (T → Reply) → Known → Known → Known → ℕ → Answer T → Type 0
IsCounted c f k p l code a =
    Answers c f k.view p.view a × (p.routes ≡ k.routes) × (p.counters ≡ k.counters) × (l ≡ counted_so c f a p) × (code ≡ code_of is_done a)

-- its entry is the last one
is_last : {T : Type 0} (c : Call) (f : T → Reply) (k p l : Known) (x : Placed T) (before : List Entry) (last : Entry)
    → IsPlaced k.view c (f x.reply) x.place p.view → l ≡ counted_so c f (Made x) p → l.view.seen ≡ before ++ last ∷ []
    → entry k.view.number c (f x.reply) ≡ last
is_last c f k p l x before last placed is eq =
    same_last (k.view.seen ++ placed.between) before (entry k.view.number c (f x.reply)) last
    (sym placed.seen ∙ (sym (ap (λ (z : Known). z.view.seen) is) ∙ eq))

-- it wasn't made, so nothing was counted
none_made : (k p l : Known) (code other : ℕ) → (p.routes ≡ k.routes) → (p.counters ≡ k.counters) → l ≡ p → code ≡ other → (other ≡ codes.done → ⊥)
    → Counts k l code
none_made k p l code other routes counters is code_is apart = record {
  done = λ d before last eq. absurd (apart (sym code_is ∙ d));
  otherwise = λ no. (ap (λ (z : Known). z.routes) is ∙ routes, ap (λ (z : Known). z.counters) is ∙ counters);
}

pub counts_so : {T : Type 0} (c : Call) (f : T → Reply) (k p l : Known) (code : ℕ) (a : Answer T) → IsCounted c f k p l code a → Counts k l code
counts_so c f k p l code (Made x) t = record {
  done = λ d before last eq. subst (λ (e : Entry). CountsEntry e k l) (is_last c f k p l x before last t.0 t.3 eq) (record {
    routes = ap (λ (z : Known). z.routes) t.3 ∙ ap (λ n. counted (leaves_maps c (f x.reply)) n) t.1;
    counters = ap (λ (z : Known). z.counters) t.3 ∙ ap (λ (s : Counters). count_reply (f x.reply) s) t.2;
  });
  otherwise = λ no. absurd (no t.4);
}
counts_so c f k p l code Busy t = none_made k p l code codes.busy t.1 t.2 t.3 t.4 busy_apart
counts_so c f k p l code Spent t = none_made k p l code codes.spent t.1 t.2 t.3 t.4 spent_apart
counts_so c f k p l code NoMemory t = none_made k p l code codes.no_memory t.1 t.2 t.3 t.4 no_memory_apart
counts_so c f k p l code Full t = none_made k p l code codes.full t.1 t.2 t.3 t.4 full_apart

-- ---- the maps

-- a call that is answered so, and isn't counted, leaves the maps
abbrev Stays : Call → Type 0
Stays c = (u : Plain) (r : Reply) → r ≡ (answer u c).0 → leaves_maps c r ≡ true → (j : ℕ) → maps_of (answer u c).1 j ≡ maps_of u j

pub keeps_routes : {T : Type 0} (c : Call) (f : T → Reply) (k p l : Known) (code : ℕ) (a : Answer T) → Stays c → IsCounted c f k p l code a
    → KeepsRoutes k l code
keeps_routes c f k p l code (Made x) stays t =
    λ d same before last eq j.
    let start : Plain = k.view.setup.start in
    let e : Entry = entry k.view.number c (f x.reply) in
    let is : e ≡ last = is_last c f k p l x before last t.0 t.3 eq in
    let whole : l.view.seen ≡ before ++ e ∷ [] = eq ∙ ap (λ (z : Entry). before ++ z ∷ []) (sym is) in
    let legal : IsLegal start (before ++ e ∷ []) = subst (IsLegal start) (sym (ap (λ (z : Known). z.view.seen) t.3) ∙ whole) t.0.legal in
    let routes : l.routes ≡ counted (leaves_maps c (f x.reply)) k.routes =
    ap (λ (z : Known). z.routes) t.3 ∙ ap (λ n. counted (leaves_maps c (f x.reply)) n) t.1 in
    ap (λ (h : List Entry). maps_of (after start h) j) whole
    ∙ (ap (λ (u : Plain). maps_of u j) (after_snoc start before e)
    ∙ stays (after start before) (f x.reply) (last_legal start before e legal)
    (same_count (leaves_maps c (f x.reply)) k.routes (sym routes ∙ same)) j)
keeps_routes c f k p l code Busy stays t = λ d same before last eq. absurd (busy_apart (sym t.4 ∙ d))
keeps_routes c f k p l code Spent stays t = λ d same before last eq. absurd (spent_apart (sym t.4 ∙ d))
keeps_routes c f k p l code NoMemory stays t = λ d same before last eq. absurd (no_memory_apart (sym t.4 ∙ d))
keeps_routes c f k p l code Full stays t = λ d same before last eq. absurd (full_apart (sym t.4 ∙ d))

pub stays_stepped : (its : ℕ) → Stays (asked.step its)
unfolding reply_of left
stays_stepped its u r is leaves j = step_stays u its j (ap reply_leaves_maps (sym is) ∙ leaves)

pub stays_written : (its off size value : ℕ) → Stays (asked.write_register its off size value)
unfolding left
stays_written its off size value u r is leaves j = write_stays u its j off size value leaves
