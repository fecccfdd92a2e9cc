-- What is told in two parts is told.
use Rattle.std.proofs.Common.{◌≡◌, inl, inr, ℕ, Bool, true, false, not, ◌&&◌, if◌then◌else◌, List, [], ◌∷◌, ◌++◌, Option, Some, None, refl, sym, ap, ◌∙◌, subst, append_assoc, Result, Ok, Err, OnOk}
use Rattle.std.specs.Option.{option_map, unwrap_or}
use Rattle.call_facts.specs.declared.answers.Key.{Key}
use Rattle.its_plain.specs.Answer.{reply_of}
use Rattle.its_plain.specs.Plain.{Plain}
use Rattle.its_plain.specs.Saved.{moved}
use Rattle.its_types.specs.declared.ids.Addr.{Addr}
use Rattle.its_explain.specs.Book.{changer, writer, writes, line_by}
use Rattle.its_explain.specs.Since.{Told, made, migrated, ended, written_now, last_writer, leaves, line_of_place, line_in, IsLast, IsSince, IsTold, Tells}
use Rattle.its_explain.specs.Steps.{after, changes, changing_line, place_in, taken_for}
use Rattle.its_explain.specs.declared.book.Book.{Book}
use Rattle.its_explain.specs.declared.left.Next.{Next}

-- ---- lists that are joined

pub ended_joined : (u : Plain) (g h : List Told) → ended u (g ++ h) ≡ ended (ended u g) h
ended_joined u [] h = refl
ended_joined u (made n ∷ g) h = ended_joined (after u n.call) g h
ended_joined u (migrated ∷ g) h = ended_joined (moved u) g h

pub writer_joined : (u : Plain) (g h : List Told) (a : ℕ) (w : Option ℕ) → last_writer u (g ++ h) a w ≡ last_writer (ended u g) h a (last_writer u g a w)
writer_joined u [] h a w = refl
writer_joined u (made n ∷ g) h a w = writer_joined (after u n.call) g h a (written_now u n a w)
writer_joined u (migrated ∷ g) h a w = writer_joined (moved u) g h a w

both : (x y : Bool) → x ≡ true → y ≡ true → (x && y) ≡ true
both x y p q = (λ i. p i && q i)

first_of_both : (x y : Bool) → (x && y) ≡ true → x ≡ true
first_of_both true y p = refl
first_of_both false y p = p

second_of_both : (x y : Bool) → (x && y) ≡ true → y ≡ true
second_of_both true y p = p
second_of_both false y p = absurd cc

pub leaves_joined : (u : Plain) (g h : List Told) (i : ℕ) (k : Key) → leaves u g i k ≡ true → leaves (ended u g) h i k ≡ true → leaves u (g ++ h) i k ≡ true
leaves_joined u [] h i k p q = q
leaves_joined u (made n ∷ g) h i k p q =
    both (not (changes u n.call i k)) (leaves (after u n.call) (g ++ h) i k) (first_of_both _ (leaves (after u n.call) g i k) p)
    (leaves_joined (after u n.call) g h i k (second_of_both (not (changes u n.call i k)) _ p) q)
leaves_joined u (migrated ∷ g) h i k p q = leaves_joined (moved u) g h i k p q

-- ---- two parts

module _ (b : Book) (u : Plain) (g : List Told) (c : Book) (v : Plain) (one : IsTold b u g c v) where
  -- a line that a call of the second part names is the same from the first on
  place_joined : (h : List Told) (n : Next) (p : Option Addr) → line_of_place c v h n p ≡ line_of_place b u (g ++ h) n p
  place_joined h n None = refl
  place_joined h n (Some addr) =
      ap (λ (w : Option ℕ). unwrap_or w n.line.number)
      (ap (λ (w : Option ℕ). last_writer v h addr.0 w) (one.writers addr.0)
      ∙ ap (λ (x : Plain). last_writer x h addr.0 (last_writer u g addr.0 (writer b addr.0))) one.state
      ∙ sym (writer_joined u g h addr.0 (writer b addr.0)))

  line_joined : (h : List Told) (n : Next) → line_in c v h n ≡ line_in b u (g ++ h) n
  line_joined h n =
      place_joined h n (option_map place_in (taken_for (ended v h) n.call))
      ∙ ap (λ (x : Plain). line_of_place b u (g ++ h) n (option_map place_in (taken_for x n.call)))
      (ap (λ (x : Plain). ended x h) one.state ∙ sym (ended_joined u g h))

  -- the last call is in the first part, or in the second
  since_first : (h : List Told) (i : ℕ) (k : Key) (line : Option ℕ) → leaves v h i k ≡ true → line ≡ changer c i k → IsSince b u g i k (changer c i k)
      → IsSince b u (g ++ h) i k line
  since_first h i k line calm is (inl s) = inl (leaves_joined u g h i k s.0 (subst (λ (x : Plain). leaves x h i k ≡ true) one.state calm), is ∙ s.1)
  since_first h i k line calm is (inr s) =
      let before = s.0 in
      let n = s.1 in
      let later = s.2 in
      let last : IsLast u g i k before n later = s.3 in
      let there : ended (after (ended u before) n.call) later ≡ ended u g =
      sym (ended_joined u before (made n ∷ later)) ∙ ap (ended u) (sym last.all)
      in
      let rest : leaves (ended (after (ended u before) n.call) later) h i k ≡ true =
      subst (λ (x : Plain). leaves x h i k ≡ true) (one.state ∙ sym there) calm
      in
      inr (
        before,
        n,
        later ++ h,
        record {
          all = ap (λ (x : List Told). x ++ h) last.all ∙ append_assoc before (made n ∷ later) h;
          changed = last.changed;
          left = leaves_joined (after (ended u before) n.call) later h i k last.left rest;
        },
        is ∙ s.4,
      )

  since_joined : (h : List Told) (i : ℕ) (k : Key) (line : Option ℕ) → IsSince c v h i k line → IsSince b u (g ++ h) i k line
  since_joined h i k line (inl s) = since_first h i k line s.0 s.1 (one.since i k)
  since_joined h i k line (inr s) =
      let before = s.0 in
      let n = s.1 in
      let later = s.2 in
      let last : IsLast v h i k before n later = s.3 in
      let there : ended v before ≡ ended u (g ++ before) = ap (λ (x : Plain). ended x before) one.state ∙ sym (ended_joined u g before) in
      inr (
        g ++ before,
        n,
        later,
        record {
          all = ap (λ (x : List Told). g ++ x) last.all ∙ sym (append_assoc g before (made n ∷ later));
          changed = subst (λ (x : Plain). changes x n.call i k ≡ true) there last.changed;
          left = subst (λ (x : Plain). leaves (after x n.call) later i k ≡ true) there last.left;
        },
        s.4 ∙ ap (λ (l : ℕ). Some l) (line_joined before n),
      )

  pub joined : (h : List Told) (d : Book) (w : Plain) → IsTold c v h d w → IsTold b u (g ++ h) d w
  joined h d w two =
      record {
        state = two.state ∙ ap (λ (x : Plain). ended x h) one.state ∙ sym (ended_joined u g h);
        writers = λ a.
            two.writers a ∙ ap (λ (x : Option ℕ). last_writer v h a x) (one.writers a)
            ∙ ap (λ (x : Plain). last_writer x h a (last_writer u g a (writer b a))) one.state
            ∙ sym (writer_joined u g h a (writer b a));
        since = λ i k. since_joined h i k (changer d i k) (two.since i k);
      }

-- ---- a call

line_is : (b : Book) (u : Plain) (n : Next) (p : Option Addr) → line_by b p n.line.number ≡ line_of_place b u [] n p
line_is b u n None = refl
line_is b u n (Some addr) = refl

since_call : (b : Book) (u : Plain) (n : Next) (i : ℕ) (k : Key) (line : Option ℕ) (x : Bool) → changes u n.call i k ≡ x
    → line ≡ (if x then Some (changing_line b u n.call n.line.number) else changer b i k) → IsSince b u (made n ∷ []) i k line
since_call b u n i k line true e is =
    inr (
      [],
      n,
      [],
      record { all = refl; changed = e; left = refl },
      is ∙ ap (λ (l : ℕ). Some l) (line_is b u n (option_map place_in (taken_for u n.call))),
    )
since_call b u n i k line false e is = inl (ap (λ (x : Bool). not x && true) e, is)

pub told_call : (b : Book) (u : Plain) (n : Next) (c : Book) (v : Plain) → v ≡ after u n.call
    → ((a : ℕ) → writer c a ≡ (if writes n.call (reply_of u n.call) a then Some n.line.number else writer b a))
    → ((i : ℕ) (k : Key) → changer c i k ≡ (if changes u n.call i k then Some (changing_line b u n.call n.line.number) else changer b i k))
    → IsTold b u (made n ∷ []) c v
told_call b u n c v state writers changers =
    record { state = state; writers = writers; since = λ i k. since_call b u n i k (changer c i k) (changes u n.call i k) refl (changers i k) }

-- ---- as clauses say it

pub tells_nothing : (b c : Book) (u v : Plain) → c ≡ b → v ≡ u → Tells b u c v
tells_nothing b c u v same left = (
  [],
  record {
    state = left;
    writers = λ a. ap (λ (x : Book). writer x a) same;
    since = λ i k. inl (refl, ap (λ (x : Book). changer x i k) same);
  },
)

pub tells_move : (b c : Book) (u v : Plain) → c ≡ b → v ≡ moved u → Tells b u c v
tells_move b c u v same left = (
  migrated ∷ [],
  record {
    state = left;
    writers = λ a. ap (λ (x : Book). writer x a) same;
    since = λ i k. inl (refl, ap (λ (x : Book). changer x i k) same);
  },
)

pub tells_both : (b c d : Book) (u v w : Plain) → Tells b u c v → Tells c v d w → Tells b u d w
tells_both b c d u v w one two = (one.0 ++ two.0, joined b u one.0 c v one.1 two.0 d w two.1)

-- of what comes of a call
pub always : {E X : Type 0} {P : Type 0} (r : Result X E) → P → OnOk r P
always (Ok x) p = p
always (Err e) p = tt

pub tells_on : {E X : Type 0} (r : Result X E) (b c d : Book) (u v w : Plain) → Tells b u c v → OnOk r (Tells c v d w) → OnOk r (Tells b u d w)
tells_on (Ok x) b c d u v w one two = tells_both b c d u v w one two
tells_on (Err e) b c d u v w one two = tt

pub tells_call : (b c : Book) (u v : Plain) (n : Next) → v ≡ after u n.call
    → ((i : ℕ) (k : Key) → changer c i k ≡ (if changes u n.call i k then Some (changing_line b u n.call n.line.number) else changer b i k))
    → ((a : ℕ) → writer c a ≡ (if writes n.call (reply_of u n.call) a then Some n.line.number else writer b a)) → Tells b u c v
tells_call b c u v n state changers writers = (made n ∷ [], told_call b u n c v state writers changers)

pub tells_called : {E X : Type 0} (r : Result X E) (b c : Book) (u v : Plain) (n : Next) → OnOk r (v ≡ after u n.call)
    → OnOk r ((i : ℕ) (k : Key) → changer c i k ≡ (if changes u n.call i k then Some (changing_line b u n.call n.line.number) else changer b i k))
    → OnOk r ((a : ℕ) → writer c a ≡ (if writes n.call (reply_of u n.call) a then Some n.line.number else writer b a)) → OnOk r (Tells b u c v)
tells_called (Ok x) b c u v n state changers writers = tells_call b c u v n state changers writers
tells_called (Err e) b c u v n state changers writers = tt
