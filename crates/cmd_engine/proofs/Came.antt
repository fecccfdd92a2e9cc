-- What a call comes to that waits for its turns: from a load to its commit, and from one try to the next.
use Rattle.std.proofs.Common.{◌≡◌, ◌≢◌, ℕ, ◌+◌, ◌<◌, ◌≤◌, List, [], ◌∷◌, ◌++◌, length, Result, Ok, Err, refl, ap, sym, ◌∙◌, subst, inl, inr, arith}
use Rattle.std.proofs.Common.{append_assoc}
use mathlib.Core.List.{IsPrefix}
use Rattle.its_types.specs.declared.machine.Part.{Part}
use Rattle.its_types.specs.declared.machine.Placed.{Placed}
use Rattle.its_types.specs.declared.machine.Word.{Word}
use Rattle.its_plain.specs.History.{IsLegal, after}
use Rattle.its_plain.specs.declared.call.Call.{Call}
use Rattle.its_plain.specs.declared.call.Entry.{Entry}
use Rattle.its_plain.specs.declared.call.Reply.{Reply}
use Rattle.its_steps.specs.Contents.{Held}
use Rattle.its_steps.specs.Endings.{Ending, Nothing, Pair, All, ending_of}
use Rattle.its_steps.specs.Parts.{Setup, HasStamps, translator_count, stamp_at, stamp_of, stamp_with}
use Rattle.its_steps.specs.Renewal.{its_of}
use Rattle.its_steps.specs.World.{View, LastCommit, entry}
use Rattle.its_steps.specs.declared.commit.Commit.{Commit}
use Rattle.its_steps.proofs.Lists.{prefix_self}
use Rattle.its_steps.proofs.Stamps.{are_apart}
use Rattle.its_turns.specs.Calls.{Stays, GotOnly, IsMade, HasLooked}
use Rattle.its_turns.specs.Told.{Looks, Commits}
use Rattle.its_turns.specs.declared.attempts.Lost.TheVariants as lost
use Rattle.its_turns.proofs.Telling.{makes_of, lost_after}
use Rattle.held_parts.specs.Taking.{Goes, WasMade, holding}
use Rattle.held_parts.proofs.Going.{got_then, going_looked, going_home, going_made, going_read, going_then, going_stays, going_lost, loses_home}
use Rattle.cmd_engine.specs.Cached.{commit_of, LeavesBy}
use Rattle.cmd_engine.specs.Leaving.{LeavesAs, OthersStay, EndsAs, MadeAs}
use Rattle.cmd_engine.specs.Telling.{CallWants, MayBeFull, IsWhyWith, ReadLow, IsRaceOf, ComesWith, Comes, AsksUntilMade}
use Rattle.cmd_engine.specs.declared.cached.Mark.{Mark}
use Rattle.cmd_engine.specs.declared.missed.Missed.{Missed}
use Rattle.cmd_engine.specs.declared.missed.Missed.TheVariants as missed

-- ---- one entry more

length_one : (xs : List Entry) (a : Entry) → [] ≡ xs ++ a ∷ [] → ⊥
length_one [] a e = cc
length_one (x ∷ xs) a e = cc

abbrev tail_of : List Entry → List Entry
tail_of [] = []
tail_of (x ∷ xs) = xs

abbrev head_or : Entry → List Entry → Entry
head_or a [] = a
head_or a (x ∷ xs) = x

-- lists that end with one more are the same before it
pub same_before : (xs ys : List Entry) (a b : Entry) → xs ++ a ∷ [] ≡ ys ++ b ∷ [] → xs ≡ ys
same_before [] [] a b e = refl
same_before [] (y ∷ ys) a b e = absurd (length_one ys b (ap tail_of e))
same_before (x ∷ xs) [] a b e = absurd (length_one xs a (sym (ap tail_of e)))
same_before (x ∷ xs) (y ∷ ys) a b e = (λ d. ap (head_or x) e d ∷ same_before xs ys a b (ap tail_of e) d)

-- ---- what a commit leaves of the stamps

module _ (s : Setup) (stamps : HasStamps s) (its : ℕ) (lt : its < translator_count s) (w : Word) (m : Mark) (x : View) (base : x.commit ≡ record {
  base = w;
  change = m.change;
}) (last : x.last.stamp ≡ m.stamp) where
  abbrev n : ℕ
  n = translator_count s

  was : (i : ℕ) → stamp_of s x.commit.base i ≡ stamp_of s w i
  was i = ap (λ (k : LastCommit). stamp_of s k.base i) base

  now : (i : ℕ) → stamp_of s x.last i ≡ stamp_at n m.stamp i
  now i = ap (λ (k : ℕ). stamp_at n k i) last

  same : (i : ℕ) → m.stamp ≡ w.stamp → stamp_of s x.last i ≡ stamp_of s x.commit.base i
  same i e = now i ∙ (ap (λ (k : ℕ). stamp_at n k i) e ∙ sym (was i))

  -- another of the translator's own
  own_now : (new : ℕ) → m.stamp ≡ stamp_with n w.stamp its new → new ≤ s.limits.stamp_last → stamp_of s x.last its ≡ new
  own_now new e most = now its ∙ (ap (λ (k : ℕ). stamp_at n k its) e ∙ (are_apart s w.stamp its new stamps lt most).0)

  other_now : (new i : ℕ) → m.stamp ≡ stamp_with n w.stamp its new → new ≤ s.limits.stamp_last → i < n → i ≢ its
      → stamp_of s x.last i ≡ stamp_of s x.commit.base
      i
  other_now new i e most li ne = now i ∙ (ap (λ (k : ℕ). stamp_at n k i) e ∙ ((are_apart s w.stamp its new stamps lt most).1 i li ne ∙ sym (was i)))

  stamp_kept : m.stamp ≡ w.stamp → x.last.stamp ≡ x.commit.base.stamp
  stamp_kept e = last ∙ (e ∙ ap (λ (k : LastCommit). k.base.stamp) (sym base))

  change_kept : x.commit.change ≡ m.change
  change_kept = ap (λ (k : LastCommit). k.change) base

  pub leaves_as : (e : Ending) → LeavesBy s its e w m → LeavesAs s its e x
  leaves_as Nothing by = record { stamp = stamp_kept by.0; change_is = change_kept ∙ by.1 }
  leaves_as (Pair dev ev) by = record { stamp = stamp_kept by.0; change_is = change_kept ∙ by.1 }
  leaves_as All (inl up) =
      let room = up.room in
      let old = was its in
      let new = own_now (stamp_of s w its + 1) up.stamp (omega (arith, room)) in
      inl record { room = omega (arith, old, room); stamp = omega (arith, new, old); change_is = change_kept ∙ up.change_is }
  leaves_as All (inr again) = inr record {
    most = was its ∙ again.most;
    stamp = own_now 0 again.stamp (omega arith);
    change_is = change_kept ∙ again.change_is;
  }

  pub others_stay : (e : Ending) → LeavesBy s its e w m → OthersStay s its x
  others_stay Nothing by = λ i li ne. same i by.0
  others_stay (Pair dev ev) by = λ i li ne. same i by.0
  others_stay All (inl up) = λ i li ne. other_now (stamp_of s w its + 1) i up.stamp (let room = up.room in omega (arith, room)) li ne
  others_stay All (inr again) = λ i li ne. other_now 0 i again.stamp (omega arith) li ne

-- ---- a try that goes on

module _ (P : Part → Type 0) (v y : View) (bare : v.held ≡ []) (goes : Goes P v y) (s : Setup) (own : y.setup ≡ s) (late : Type 0) where
  here : v.setup ≡ s
  here = sym (ap (λ (k : View). k.setup) goes.on.same) ∙ own

  -- it read a word
  module _ (x : View) (w : Word) (looks : Looks y w x) where
    goes_on : Goes P v x
    goes_on = going_looked P v y x w goes looks

    last_is : x.last ≡ w
    last_is = ap (λ (k : View). k.last) looks.same

    read_last : HasLooked v x.last x
    read_last = subst (λ (z : Word). HasLooked v z x) (sym last_is)
        (going_read P v y x x w goes bare (record { mid = x; looks = looks; before = prefix_self x.seen }) (prefix_self x.seen))

    -- and had to give up
    pub came_spent : {T : Type 0} (c : Call) (reply : T → Reply) → w.place ≡ s.limits.place_last → ComesWith {T = T} late P v c reply x (Err missed.Spent)
    came_spent c reply is = (goes_on, (read_last, looks.place ∙ (is ∙ ap (λ (k : Setup). k.limits.place_last) (sym here))))

    pub came_no_memory : {T : Type 0} (c : Call) (reply : T → Reply) → CallWants (after y.setup.start x.seen) c → ComesWith {T = T} late P v c reply x
        (Err missed.NoMemory)
    came_no_memory c reply wants = (goes_on, (read_last, subst (λ (k : Setup). CallWants (after k.start x.seen) c) (own ∙ sym here) wants))

    pub came_full : {T : Type 0} (c : Call) (reply : T → Reply) → MayBeFull c → ComesWith {T = T} late P v c reply x (Err missed.Full)
    came_full c reply may = (goes_on, (read_last, may))

    pub came_late : {T : Type 0} (c : Call) (reply : T → Reply) → stamp_of s w (its_of c) ≡ s.limits.stamp_last → late → ComesWith {T = T} late P v c reply x
        (Err missed.Late)
    came_late c reply is known = (
      goes_on,
      (
        read_last,
        ap (λ (z : Word). stamp_of v.setup z (its_of c)) last_is
            ∙ (ap (λ (k : Setup). stamp_of k w (its_of c)) here ∙ (is ∙ ap (λ (k : Setup). k.limits.stamp_last) (sym here))),
        known,
      ),
    )

    -- or lost a race
    module _ (z : View) (room : w.place < s.limits.place_last) where
      pub came_raced : {T : Type 0} (c : Call) (reply : T → Reply) (m : Missed) → IsRaceOf x w m z → ComesWith {T = T} late P v c reply z (Err m)
      came_raced c reply missed.Spent race = absurd race
      came_raced c reply missed.NoMemory race = absurd race
      came_raced c reply missed.Late race = absurd race
      came_raced c reply missed.Full race = absurd race
      came_raced c reply (missed.Raced r) race = (
        going_looked P v x z r.found goes_on race.looks,
        going_lost P v y goes bare (lost.Raced r) z
            (lost_after y x z w r looks (subst (λ (k : Setup). w.place < k.limits.place_last) (sym own) room) race),
      )

      -- or was made
      module _ (stamps : HasStamps s) (c : Call) (r : Reply) (lt : its_of c < translator_count s) (m : Mark) (commits : Commits x (commit_of w m c r) z)
          (by : LeavesBy s (its_of c) (ending_of (after y.setup.start x.seen) c) w m) where
        abbrev a : Commit
        a = commit_of w m c r

        at : x.setup ≡ s
        at = ap (λ (k : View). k.setup) looks.same ∙ own

        is_made : WasMade P v a z
        is_made = going_made P v x z a goes_on (makes_of x a z commits looks.place (subst (λ (k : Setup). w.place < k.limits.place_last) (sym at) room))

        seen : v.seen ++ is_made.made.between ≡ x.seen
        seen = same_before (v.seen ++ is_made.made.between) x.seen (entry v.number c r) (entry x.number c r)
            (sym is_made.made.seen ∙ ap (λ (k : View). k.seen) commits.view)

        abbrev ends : Ending
        ends = ending_of (after v.setup.start (v.seen ++ is_made.made.between)) c

        in_state : LeavesBy v.setup (its_of c) ends w m
        in_state = subst (λ (k : Setup × (Setup × List Entry)). LeavesBy k.0 (its_of c) (ending_of (after k.1.0.start k.1.1) c) w m)
            (λ d. (sym here d, ((own ∙ sym here) d, sym seen d))) by

        stamps_here : HasStamps v.setup
        stamps_here = subst HasStamps (sym here) stamps

        lt_here : its_of c < translator_count v.setup
        lt_here = subst (λ (k : Setup). its_of c < translator_count k) (sym here) lt

        pub made_as : (place : ℕ) → place ≡ w.place → MadeAs P v c r place z
        made_as place e = record {
          commit = a;
          call_is = refl;
          reply_is = refl;
          place_is = sym e;
          made = is_made;
          leaves = leaves_as v.setup stamps_here (its_of c) lt_here w m z is_made.made.commit (ap (λ (k : Word). k.stamp) is_made.made.last) ends in_state;
          others = others_stay v.setup stamps_here (its_of c) lt_here w m z is_made.made.commit (ap (λ (k : Word). k.stamp) is_made.made.last) ends in_state;
        }

-- ---- a later try

module _ (P : Part → Type 0) (v w : View) (bare : v.held ≡ []) (g : Goes P v w) where
  setup_is : w.setup ≡ v.setup
  setup_is = ap (λ (y : View). y.setup) g.on.same

  number_is : w.number ≡ v.number
  number_is = ap (λ (y : View). y.number) g.on.same

  whole : (between : List Entry) → w.seen ++ between ≡ v.seen ++ (g.on.longer.0 ++ between)
  whole between = ap (λ (l : List Entry). l ++ between) (sym g.on.longer.1) ∙ append_assoc v.seen g.on.longer.0 between

  made_from : (x : View) (a : Commit) → IsMade w x.tries a x → IsMade v x.tries a x
  made_from x a m =
      let e : entry w.number a.call a.reply ≡ entry v.number a.call a.reply = ap (λ (n : ℕ). entry n a.call a.reply) number_is in
      let all = whole m.between in
      record {
        between = g.on.longer.0 ++ m.between;
        seen = m.seen ∙ (λ d. all d ++ e d ∷ []);
        legal = subst (λ (s : Setup). IsLegal s.start x.seen) setup_is m.legal;
        place_is = m.place_is;
        mine = m.mine ∙ (let old = ap (λ (y : View). y.mine) g.on.same in λ d. old d ++ (a.expected.place, e d) ∷ []);
        room = subst (λ (s : Setup). a.expected.place < s.limits.place_last) setup_is m.room;
        same = m.same ∙ ap (λ (y : View). record y {
          seen = x.seen;
          mine = x.mine;
          last = x.last;
          held = x.held;
          cache = x.cache;
          tries = x.tries;
          commit = x.commit;
        }) g.on.same;
        tries = refl;
        last = m.last;
        commit = m.commit;
      }

  pub made_as_from : (x : View) (c : Call) (r : Reply) (place : ℕ) → MadeAs P w c r place x → MadeAs P v c r place x
  unfolding made_from
  made_as_from x c r place m =
      let all = whole m.made.made.between in
      record {
        commit = m.commit;
        call_is = m.call_is;
        reply_is = m.reply_is;
        place_is = m.place_is;
        made = record { made = made_from x m.commit m.made.made; got = got_then P v w x g.got m.made.got };
        leaves = subst (λ (p : Setup × List Entry). LeavesAs p.0 (its_of c) (ending_of (after p.0.start p.1) c) x) (λ d. (setup_is d, all d)) m.leaves;
        others = subst (λ (s : Setup). OthersStay s (its_of c) x) setup_is m.others;
      }

-- ---- what is known where the stamp was the last one

abbrev IsWhy : View → Call → Missed → View → Type 0
IsWhy v c m w = IsWhyWith (ReadLow v (its_of c) w) v c m w

late_why : (a b : Type 0) (v w : View) (c : Call) (m : Missed) → (a → b) → IsWhyWith a v c m w → IsWhyWith b v c m w
late_why a b v w c missed.Spent f why = why
late_why a b v w c missed.NoMemory f why = why
late_why a b v w c missed.Full f why = why
late_why a b v w c (missed.Raced r) f why = record { room = why.room; later = why.later; read = why.read; last = why.last; out = why.out }
late_why a b v w c missed.Late f why = (why.0, why.1, f why.2)

pub late_comes : {T : Type 0} (a b : Type 0) (P : Part → Type 0) (v w : View) (c : Call) (reply : T → Reply) (r : Result (Placed T) Missed) → (a → b)
    → ComesWith a P v c reply w r → ComesWith b P v c reply w r
late_comes a b P v w c reply (Ok p) f came = record {
  commit = came.commit;
  call_is = came.call_is;
  reply_is = came.reply_is;
  place_is = came.place_is;
  made = came.made;
  leaves = came.leaves;
  others = came.others;
}
late_comes a b P v w c reply (Err m) f came = (came.0, late_why a b v w c m f came.1)

-- what was read later was read by the call
pub low_from : (P : Part → Type 0) (v y x z : View) (its : ℕ) → Goes P v y → v.held ≡ [] → ReadLow y its x → IsPrefix x.seen z.seen → ReadLow v its z
low_from P v y x z its goes bare low longer = record {
  word = low.word;
  read = going_read P v y x z low.word goes bare low.read longer;
  low = subst (λ (k : Setup). stamp_of k low.word its < k.limits.stamp_last) (ap (λ (k : View). k.setup) goes.on.same) low.low;
}

-- ---- parts go home

module _ (P : Part → Type 0) where
  leaves_home : (s : Setup) (i : ℕ) (e : Ending) (w : View) (left : List Held) → LeavesAs s i e w → LeavesAs s i e (holding w left)
  leaves_home s i Nothing w left l = record { stamp = l.stamp; change_is = l.change_is }
  leaves_home s i (Pair dev ev) w left l = record { stamp = l.stamp; change_is = l.change_is }
  leaves_home s i All w left (inl r) = inl record { room = r.room; stamp = r.stamp; change_is = r.change_is }
  leaves_home s i All w left (inr r) = inr record { most = r.most; stamp = r.stamp; change_is = r.change_is }

  made_as_home : (v w x : View) (c : Call) (r : Reply) (place : ℕ) (left : List Held) → MadeAs P v c r place w → x ≡ holding w left → MadeAs P v c r place x
  made_as_home v w x c r place left m e = subst (MadeAs P v c r place) (sym e) record {
    commit = m.commit;
    call_is = m.call_is;
    reply_is = m.reply_is;
    place_is = m.place_is;
    made = record {
      made = record {
        between = m.made.made.between;
        seen = m.made.made.seen;
        legal = m.made.made.legal;
        place_is = m.made.made.place_is;
        mine = m.made.made.mine;
        room = m.made.made.room;
        same = ap (λ (y : View). holding y left) m.made.made.same;
        tries = refl;
        last = m.made.made.last;
        commit = m.made.made.commit;
      };
      got = record { got = m.made.got.got; won = m.made.got.won; only = m.made.got.only; lost = m.made.got.lost };
    };
    leaves = leaves_home v.setup (its_of c) (ending_of (after v.setup.start (v.seen ++ m.made.made.between)) c) w left m.leaves;
    others = m.others;
  }

  looked_home : (v w : View) (word : Word) (left : List Held) → HasLooked v word w → HasLooked v word (holding w left)
  looked_home v w word left h = record { mid = h.mid; looks = h.looks; before = h.before }

  why_home : (v w : View) (c : Call) (m : Missed) (left : List Held) → IsWhy v c m w → IsWhy v c m (holding w left)
  why_home v w c missed.Spent left why = loses_home v lost.Spent w left why
  why_home v w c missed.NoMemory left why = (looked_home v w w.last left why.0, why.1)
  why_home v w c missed.Full left why = (looked_home v w w.last left why.0, why.1)
  why_home v w c (missed.Raced r) left why = loses_home v (lost.Raced r) w left why
  why_home v w c missed.Late left why = (
    looked_home v w w.last left why.0,
    why.1,
    record { word = why.2.word; read = looked_home v w why.2.word left why.2.read; low = why.2.low },
  )

  pub came_home : {T : Type 0} (v w x : View) (c : Call) (reply : T → Reply) (result : Result (Placed T) Missed) (left : List Held)
      → Comes P v c reply w result
      → x ≡ holding w left → Comes P v c reply x result
  came_home v w x c reply (Ok p) left came e = made_as_home v w x c (reply p.reply) p.place left came e
  came_home v w x c reply (Err m) left came e = (going_home P v w x left came.0 e, subst (IsWhy v c m) (sym e) (why_home v w c m left came.1))

  -- ---- all is home

  ends_as : (v w : View) (c : Call) (r : Reply) (place : ℕ) → MadeAs P v c r place w → w.held ≡ v.held → EndsAs v c r place w
  ends_as v w c r place m home =
      let to : (m.commit.call, m.commit.reply, m.commit.expected.place) ≡ (c, r, place) = λ d. (m.call_is d, m.reply_is d, m.place_is d) in
      let made = m.made.made in
      record {
        placed = record {
          between = m.made.made.between;
          seen = made.seen ∙ ap (λ (p : Call × Reply × ℕ). (v.seen ++ m.made.made.between) ++ entry v.number p.0 p.1 ∷ []) to;
          legal = made.legal;
          place_is = made.place_is ∙ ap (λ (n : ℕ). n + 1) m.place_is;
          mine = made.mine ∙ ap (λ (p : Call × Reply × ℕ). v.mine ++ (p.2, entry v.number p.0 p.1) ∷ []) to;
          room = subst (λ (n : ℕ). n < v.setup.limits.place_last) m.place_is made.room;
          base = ap (λ (b : LastCommit). b.base.place) made.commit ∙ m.place_is;
          last = ap (λ (k : Word). k.place) made.last ∙ ap (λ (n : ℕ). n + 1) m.place_is;
          same = made.same ∙ (λ d. record v {
            seen = w.seen;
            mine = w.mine;
            last = w.last;
            held = home d;
            cache = w.cache;
            tries = w.tries;
            commit = w.commit;
          });
        };
        leaves = m.leaves;
        others = m.others;
      }

  -- after tries that were missed it was made
  module _ {T : Type 0} (v y w : View) (bare : v.held ≡ []) (goes : Goes P v y) (c : Call) (reply : T → Reply) (home : w.held ≡ []) where
    pub asks_made : (p : Placed T) → Comes P y c reply w (Ok p) → AsksUntilMade P v c reply w (Ok p)
    asks_made p came =
        let m = made_as_from P v y bare goes w c (reply p.reply) p.place came in (ends_as v w c (reply p.reply) p.place m (home ∙ sym bare), m.made.got)

    -- or it can't be
    goes_again : (m : Missed) → Comes {T = T} P y c reply w (Err m) → Goes P v w
    goes_again m came = going_then P v y w goes came.0

    stays_so : (m : Missed) → Comes {T = T} P y c reply w (Err m) → Stays v w
    stays_so m came = going_stays P v w (goes_again m came) (home ∙ sym bare)

    pub asks_spent : Comes {T = T} P y c reply w (Err missed.Spent) → Stays v w × (length w.seen ≡ v.setup.limits.place_last) × GotOnly P v w
    asks_spent came = (
      stays_so missed.Spent came,
      came.1.1 ∙ ap (λ (k : View). k.setup.limits.place_last) goes.on.same,
      (goes_again missed.Spent came).got,
    )

    pub asks_no_memory : Comes {T = T} P y c reply w (Err missed.NoMemory) → Stays v w × CallWants (after v.setup.start w.seen) c × GotOnly P v w
    asks_no_memory came = (
      stays_so missed.NoMemory came,
      subst (λ (k : Setup). CallWants (after k.start w.seen) c) (ap (λ (k : View). k.setup) goes.on.same) came.1.1,
      (goes_again missed.NoMemory came).got,
    )

    -- and it goes on
    pub goes_missed : (r : Result (Placed T) Missed) (m : Missed) → r ≡ Err m → Comes P y c reply w r → Goes P v w
    goes_missed r m is came = goes_again m (subst (Comes P y c reply w) is came)
