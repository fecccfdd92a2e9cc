-- The words of places from the last one on are those of the events that the places have.
use Rattle.std.proofs.Common.{◌≡◌, ℕ, zero, suc, ◌+◌, ◌<◌, ◌≤◌, cond, List, [], ◌∷◌, ◌++◌, length, drop, get_or, set, Option, Some, None, refl, sym, subst, ap, ◌∙◌, arith}
use Rattle.std.specs.Prelude.{IfSome, MatchOption}
use Rattle.std.specs.List.{AllByRecursion}
use Rattle.std.proofs.lemmas.Bool.{lt-ltb}
use Rattle.std.proofs.lemmas.List.{length-drop, get_or_append_left, get_or-set_same}
use borrow.Rule.Slice.PartMut.{put_mid}
use Rattle.its_types.specs.declared.ids.EventId.{EventId}
use Rattle.its_types.specs.declared.translation.Event.{Event}
use Rattle.its_maps.specs.Pages.{slots_from, AllFrom}
use Rattle.its_plain.specs.Saved.{distance}
use Rattle.table_save.specs.Pass.{RisesFrom, FitsEvent, key_after, first_key, first_from, slot_words, packed_if, pack_event, event_entry_word, Passed, events_with}
use Rattle.table_save.proofs.Rises.{find_here, rises_none, later_rises, word_skips, word_none, after_skips}

-- the first event from a place on isn't before it
pub first_later : (id : ℕ) (slots : List (Option Event)) (after : Option ℕ) → IfSome after (λ n. id + length slots ≤ n) → IfSome (first_from id slots after) (λ n. id ≤ n)
first_later id [] None low = tt
first_later id [] (Some n) low = omega (arith, low)
first_later id (Some e ∷ slots) after low = omega arith
first_later id (None ∷ slots) after low = lower (first_from (suc id) slots after) (first_later (suc id) slots after (moved after low))
  where
    moved : (o : Option ℕ) → IfSome o (λ n. id + length (None ∷ slots) ≤ n) → IfSome o (λ n. suc id + length slots ≤ n)
    moved None low = tt
    moved (Some n) low = omega (arith, low)

    lower : (o : Option ℕ) → IfSome o (λ n. suc id ≤ n) → IfSome o (λ n. id ≤ n)
    lower None low = tt
    lower (Some n) low = omega (arith, low)

-- nor is the first event of the later places before those that are passed over
pub rest_later : (id low i : ℕ) (slots : List (Option Event)) (after : Option ℕ) → low ≤ i → i ≤ length slots → IfSome after (λ n. id + length slots ≤ n)
    → IfSome (first_from (id + i) (drop i slots) after) (λ n. id + low ≤ n)
rest_later id low i slots after le within far =
    lower (first_from (id + i) (drop i slots) after) (first_later (id + i) (drop i slots) after (moved after far))
  where
    moved : (o : Option ℕ) → IfSome o (λ n. id + length slots ≤ n) → IfSome o (λ n. id + i + length (drop i slots) ≤ n)
    moved None far = tt
    moved (Some n) far = let short = length-drop i slots in omega (arith, far, short)

    lower : (o : Option ℕ) → IfSome o (λ n. id + i ≤ n) → IfSome o (λ n. id + low ≤ n)
    lower None far = tt
    lower (Some n) far = omega (arith, far)

-- the event of a place fits
pub slot_fits : (id i : ℕ) (slots : List (Option Event)) (e : Event) → AllByRecursion FitsEvent (slots_from id slots) → get_or slots i None ≡ Some e → 1 ≤ e.intid.0
slot_fits id i [] e fit is = absurd cc
slot_fits id zero (None ∷ slots) e fit is = absurd cc
slot_fits id zero (Some f ∷ slots) e fit is = subst (λ o. IfSome o (λ (x : Event). 1 ≤ x.intid.0)) is fit.0
slot_fits id (suc i) (None ∷ slots) e fit is = slot_fits (suc id) i slots e fit is
slot_fits id (suc i) (Some f ∷ slots) e fit is = slot_fits (suc id) i slots e fit.1 is

-- ---- places before other entries

pub slots_rise : (id : ℕ) (slots : List (Option Event)) (rest : List (ℕ × Event)) → RisesFrom (id + length slots) rest → RisesFrom id (slots_from id slots ++ rest)
slots_rise id [] rest r = let same : id + 0 ≡ id = omega arith in subst (λ (n : ℕ). RisesFrom n rest) same r
slots_rise id (slot ∷ slots) rest r = front slot (slots_rise (suc id) slots rest (subst (λ (n : ℕ). RisesFrom n rest) next r))
  where
    next : id + length (slot ∷ slots) ≡ suc id + length slots
    next = omega arith

    front : (x : Option Event) → RisesFrom (suc id) (slots_from (suc id) slots ++ rest) → RisesFrom id (slots_from id (x ∷ slots) ++ rest)
    front None r = later_rises (suc id) id (slots_from (suc id) slots ++ rest) r (omega arith)
    front (Some e) r = let same : suc id ≡ id + 1 = omega arith in (omega arith, subst (λ (n : ℕ). RisesFrom n (slots_from (suc id) slots ++ rest)) same r)

pub first_is : (id : ℕ) (slots : List (Option Event)) (rest : List (ℕ × Event)) → first_from id slots (first_key rest) ≡ first_key (slots_from id slots ++ rest)
first_is id [] rest = refl
first_is id (None ∷ slots) rest = first_is (suc id) slots rest
first_is id (Some e ∷ slots) rest = refl

-- the first entry from a number on is the next after those before it
pub after_first : (id low : ℕ) (es : List (ℕ × Event)) → RisesFrom low es → id < low → key_after id es ≡ first_key es
after_first id low [] r lt = refl
after_first id low (e ∷ es) r lt = let le = r.0 in ap (λ b. cond b (Some e.0) (key_after id es)) (lt-ltb id e.0 (omega arith))

-- an event before entries from the next place on
pub event_word : (id : ℕ) (e : Event) (es : List (ℕ × Event)) → RisesFrom (suc id) es → pack_event e (distance 65535 id (first_key es)) ≡ event_entry_word ((id, e) ∷ es) id
event_word id e es r =
    let after : key_after id ((id, e) ∷ es) ≡ first_key es = after_skips id (id, e) es (omega arith) ∙ after_first id (suc id) es r (omega arith) in
    sym (ap (λ o. packed_if pack_event o (distance 65535 id (key_after id ((id, e) ∷ es)))) (find_here id (id, e) es refl)
    ∙ ap (λ o. pack_event e (distance 65535 id o)) after)

pub words_are : (id : ℕ) (slots : List (Option Event)) (rest : List (ℕ × Event)) (k : ℕ) → RisesFrom (id + length slots) rest → k < length slots
    → get_or (slot_words id slots (first_key rest)) k 0 ≡ event_entry_word (slots_from id slots ++ rest) (id + k)
words_are id [] rest k r lt = absurd (omega arith)
words_are id (slot ∷ slots) rest k r lt = at slot (λ j less. words_are (suc id) slots rest j low less) k lt
  where
    es : List (ℕ × Event)
    es = slots_from (suc id) slots ++ rest

    low : RisesFrom (suc id + length slots) rest
    low = let next : id + length (slot ∷ slots) ≡ suc id + length slots = omega arith in subst (λ (n : ℕ). RisesFrom n rest) next r

    rises : RisesFrom (suc id) es
    rises = slots_rise (suc id) slots rest low

    same : (i : ℕ) → i ≡ i + 0
    same i = omega arith

    next : (i j : ℕ) → suc i + j ≡ i + suc j
    next i j = omega arith

    at : (x : Option Event) → ((j : ℕ) → j < length slots → get_or (slot_words (suc id) slots (first_key rest)) j 0 ≡ event_entry_word es (suc id + j)) → (k : ℕ)
        → k < length (slot ∷ slots) → get_or (slot_words id (x ∷ slots) (first_key rest)) k 0 ≡ event_entry_word (slots_from id (x ∷ slots) ++ rest) (id + k)
    at None later zero lt = word_none (λ _. Unit {0}) pack_event 65535 es id (rises_none id (suc id) es rises (omega arith)) ∙ ap (event_entry_word es) (same id)
    at (Some e) later zero lt = ap (λ o. pack_event e (distance 65535 id o)) (first_is (suc id) slots rest) ∙ event_word id e es rises ∙ ap (event_entry_word ((id, e) ∷ es)) (same id)
    at None later (suc k) lt = later k (omega arith) ∙ ap (event_entry_word es) (next id k)
    at (Some e) later (suc k) lt = later k (omega arith) ∙ ap (event_entry_word es) (next id k)
        ∙ sym (word_skips (λ _. Unit {0}) pack_event 65535 (id + suc k) (id, e) es (omega arith))

-- ---- an event, the places after it on its page, and the entries after those

back_rises : (i : ℕ) (front rest : List (ℕ × Event)) → RisesFrom i (front ++ rest) → RisesFrom 0 rest
back_rises i [] rest r = later_rises i 0 rest r (omega arith)
back_rises i (e ∷ es) rest r = back_rises (e.0 + 1) es rest r.1

pub rest_rises : (id : ℕ) (slots : List (Option Event)) (rest : List (ℕ × Event)) → RisesFrom id (slots_from id slots ++ rest)
    → (0 < length slots → AllFrom (id + length slots) rest) → RisesFrom (id + length slots) rest
rest_rises id [] rest r far = let same : id ≡ id + 0 = omega arith in subst (λ (n : ℕ). RisesFrom n rest) same r
rest_rises id (slot ∷ slots) rest r far = later rest (back_rises id (slots_from id (slot ∷ slots)) rest r) (far (omega arith))
  where
    later : (es : List (ℕ × Event)) → RisesFrom 0 es → AllFrom (id + length (slot ∷ slots)) es → RisesFrom (id + length (slot ∷ slots)) es
    later [] r far = tt
    later (e ∷ es) r far = (far.0, r.1)

-- the first entry isn't before the place from which they rise
pub first_far : (low : ℕ) (es : List (ℕ × Event)) → RisesFrom low es → IfSome (first_key es) (λ n. low ≤ n)
first_far low [] r = tt
first_far low (e ∷ es) r = r.0

pub page_first : (id : ℕ) (slots : List (Option Event)) (rest : List (ℕ × Event)) → RisesFrom (id + 1 + length slots) rest
    → IfSome (first_from (id + 1) slots (first_key rest)) (λ n. id ≤ n)
page_first id slots rest r = lower (first_from (id + 1) slots (first_key rest))
    (first_later (id + 1) slots (first_key rest) (first_far (id + 1 + length slots) rest r))
  where
    lower : (o : Option ℕ) → IfSome o (λ n. id + 1 ≤ n) → IfSome o (λ n. id ≤ n)
    lower None low = tt
    lower (Some n) low = omega (arith, low)

words_past : (id : ℕ) (slots : List (Option Event)) (rest : List (ℕ × Event)) (k : ℕ) → id + length slots ≤ k
    → event_entry_word rest k ≡ event_entry_word (slots_from id slots ++ rest) k
words_past id [] rest k le = refl
words_past id (None ∷ slots) rest k le = words_past (suc id) slots rest k (omega arith)
words_past id (Some e ∷ slots) rest k le =
    words_past (suc id) slots rest k (omega arith)
    ∙ sym (word_skips (λ _. Unit {0}) pack_event 65535 k (id, e) (slots_from (suc id) slots ++ rest) (omega arith))

back_fits : (front rest : List (ℕ × Event)) → AllByRecursion FitsEvent (front ++ rest) → AllByRecursion FitsEvent rest
back_fits [] rest fit = fit
back_fits (e ∷ es) rest fit = back_fits es rest fit.1

-- all of these are written
pub page_passed : (id count : ℕ) (e : Event) (slots : List (Option Event)) (all rest : List (ℕ × Event)) → all ≡ slots_from (id + 1) slots ++ rest
    → count ≡ 1 + length slots → RisesFrom (id + 1 + length slots) rest
    → AllByRecursion FitsEvent ((id, e) ∷ all) → Passed FitsEvent pack_event 65535 (id + count) ((id, e) ∷ all) rest
page_passed id count e slots all rest is long r fit = record {
  rises = let at : id + 1 + length slots ≡ id + count = omega (arith, long) in subst (λ (n : ℕ). RisesFrom n rest) at r;
  words = λ k le.
      let past : id + length (Some e ∷ slots) ≤ k = omega (arith, le, long) in
      words_past id (Some e ∷ slots) rest k past ∙ ap (λ (es : List (ℕ × Event)). event_entry_word ((id, e) ∷ es) k) (sym (is ∙ next));
  fit = back_fits (slots_from (id + 1) slots) rest (subst (AllByRecursion FitsEvent) is fit.1);
}
  where
    next : slots_from (id + 1) slots ++ rest ≡ slots_from (suc id) slots ++ rest
    next = let same : id + 1 ≡ suc id = omega arith in ap (λ (n : ℕ). slots_from n slots ++ rest) same

-- the words of the places are put after the first
put_after : (xs ys : List ℕ) (w n k : ℕ) → 0 < length xs → k < 1 + length ys → get_or (set (put_mid 1 n xs ys) 0 w) k 0 ≡ get_or (w ∷ ys) k 0
put_after [] ys w n k some lt = absurd (omega arith)
put_after (x ∷ xs) ys w n zero some lt = refl
put_after (x ∷ xs) ys w n (suc k) some lt = get_or_append_left ys _ 0 k (omega arith)

pub page_words : (id n k : ℕ) (e : Event) (slots : List (Option Event)) (all rest : List (ℕ × Event)) (after : Option ℕ) (xs ys : List ℕ) (w : ℕ)
    → all ≡ slots_from (id + 1) slots ++ rest → after ≡ first_key rest → ys ≡ slot_words (id + 1) slots after
    → w ≡ pack_event e (distance 65535 id (first_from (id + 1) slots after)) → RisesFrom (id + 1 + length slots) rest
    → 0 < length xs → length ys ≡ length slots → k < 1 + length slots
    → get_or (set (put_mid 1 n xs ys) 0 w) k 0 ≡ event_entry_word ((id, e) ∷ all) (id + k)
page_words id n k e slots all rest after xs ys w is first ys_are w_is r some long lt =
    put_after xs ys w n k some (omega (arith, long, lt))
    ∙ (λ i. get_or (w_is i ∷ ys_are i) k 0)
    ∙ ap (λ (s : ℕ). get_or (pack_event e (distance 65535 id (first_from s slots after)) ∷ slot_words s slots after) k 0) same
    ∙ ap (λ (o : Option ℕ). get_or (slot_words id (Some e ∷ slots) o) k 0) first
    ∙ words_are id (Some e ∷ slots) rest k (subst (λ (m : ℕ). RisesFrom m rest) at r) (omega (arith, lt))
    ∙ ap (λ (s : ℕ). event_entry_word ((id, e) ∷ (slots_from s slots ++ rest)) (id + k)) (sym same)
    ∙ ap (λ (es : List (ℕ × Event)). event_entry_word ((id, e) ∷ es) (id + k)) (sym is)
  where
    same : id + 1 ≡ suc id
    same = omega arith

    at : id + 1 + length slots ≡ id + length (Some e ∷ slots)
    at = omega arith

-- ---- what a walk gave

pub taken : (next : Option (EventId × Event)) (now old : List (ℕ × Event)) → MatchOption next ((old ≡ []) × (now ≡ [])) (λ x. old ≡ (x.0.0, x.1) ∷ now)
    → old ≡ events_with next now
taken None now old gave = gave.0
taken (Some x) now old gave = gave

pub taken_first : (next : Option (EventId × Event)) (now : List (ℕ × Event)) → first_key (events_with next []) ≡ first_key (events_with next now)
taken_first None now = refl
taken_first (Some x) now = refl

-- nothing is mapped at a place before the first entry
pub nothing_here : (id k : ℕ) (es : List (ℕ × Event)) (xs : List ℕ) → 0 ≡ event_entry_word es id → 0 < length xs → k < 1
    → get_or (set xs 0 0) k 0 ≡ event_entry_word es (id + k)
nothing_here id k es xs zero_word some lt =
    let first : k ≡ 0 = omega arith in
    let here : id ≡ id + k = omega arith in
    ap (λ (j : ℕ). get_or (set xs 0 0) j 0) first ∙ get_or-set_same xs 0 0 0 some ∙ zero_word ∙ ap (event_entry_word es) here

pub words_long : (id : ℕ) (slots : List (Option Event)) (after : Option ℕ) → length (slot_words id slots after) ≡ length slots
words_long id [] after = refl
words_long id (slot ∷ slots) after = ap suc (words_long (suc id) slots after)
