-- What each draft keeps while lines of the body are read.
use Rattle.std.proofs.Common.{◌≡◌, ℕ, ◌+◌, ◌≤◌, true, false, not, ◌&&◌, ◌||◌, nat_lt, nat_le, nat_eq, List, [], ◌∷◌, ◌++◌, length, drop}
use Rattle.std.proofs.Common.{ok_or, Result, IfOk, refl, sym, ap, ◌∙◌, arith}
use Rattle.std.specs.List.{list_all}
use Rattle.std.proofs.lemmas.Bool.{ltb-true, lt-ltb}
use Rattle.std.proofs.lemmas.List.{length-append}
use Rattle.its_types.specs.Ranges.{most_vcpus}
use Rattle.its_plain.specs.declared.call.Call.{Call}
use Rattle.its_plain.specs.declared.desc.Desc.{Desc}
use Rattle.its_plain.specs.declared.desc.Its.{Its}
use Rattle.event_script.specs.Description.{at_start, in_description, in_phase, in_thread, is_ended}
use Rattle.event_script.specs.Calls.{call_of}
use Rattle.event_script.specs.Words.{call_word_of}
use Rattle.event_script.specs.Fields.{arg}
use Rattle.event_script.specs.Described.{desc_so_far}
use Rattle.event_script.specs.Body.{is_described, is_whole, may_go_on, threads_so_far, phases_so_far, legs_so_far, phase_line, thread_line, may_move}
use Rattle.event_script.specs.Body.{move_line, end_line, may_call, with_call, call_line, is_translators, second_line, is_fill_word, call_word_line}
use Rattle.event_script.specs.Body.{keyword_line}
use Rattle.event_script.specs.Limits.{is_call, is_thread, is_phase, is_leg}
use Rattle.event_script.specs.declared.fault.Kind.{Kind}
use Rattle.event_script.specs.declared.fault.Kind.TheVariants as kind
use Rattle.event_script.specs.declared.words.Keyword.{Keyword}
use Rattle.event_script.specs.declared.words.Keyword.TheVariants as on
use Rattle.event_script.specs.declared.words.CallWord.{CallWord}
use Rattle.event_script.specs.declared.words.CallWord.TheVariants as call_on
use Rattle.event_script.specs.declared.script.Move.{Move}
use Rattle.event_script.specs.declared.script.Move.TheVariants.{Migrate, Precopy}
use Rattle.event_script.specs.declared.draft.Draft.{Draft}
use Rattle.event_script.specs.declared.draft.Stage.{Stage}
use Rattle.event_script.specs.declared.draft.Stage.TheVariants as stage
use Rattle.event_script.specs.declared.draft.TheConstants.{FEW_VCPUS, MOST_LEGS, MOST_PHASES, MOST_THREADS, MOST_CALLS}
use Rattle.event_script.proofs.Steps.{left_true, right_true, both_true, below, all_pushed, bound, bound_by, ensured, chosen}
use Rattle.event_script.proofs.Calling.{IsCall, HasIts, call_is}
use Rattle.event_script.proofs.Good.{in_body, open_legs, open_phases, open_threads, clash, HasDoors, IsFair, HasCalls, IsGood}
use Rattle.event_script.proofs.GoodDescription.{shards_good, count_good, limits_good, ids_good, profile_good, window_good, config_good, pending_good}
use Rattle.event_script.proofs.GoodDescription.{gicr_good, linux_good, track_good, pair_good, from_kvm_good, still_fair}
use Rattle.event_script.proofs.GoodDoorbells.{restore_good, brestore_good, rrestore_good, its_base_good, b_base_good, requester_good}
use Rattle.event_script.proofs.GoodDoorbells.{bytes_good, word_fill_good}

one_open : (s : Stage) → in_thread s ≡ true → (open_phases s ≡ 1) × (open_threads s ≡ 1)
one_open stage.Start e = absurd (cc)
one_open stage.Description e = absurd (cc)
one_open stage.Leg e = absurd (cc)
one_open stage.Phase e = absurd (cc)
one_open stage.Thread e = (refl, refl)
one_open stage.Ended e = absurd (cc)

thread_in_body : (s : Stage) → in_thread s ≡ true → in_body s ≡ true
thread_in_body stage.Start e = absurd (cc)
thread_in_body stage.Description e = absurd (cc)
thread_in_body stage.Leg e = absurd (cc)
thread_in_body stage.Phase e = absurd (cc)
thread_in_body stage.Thread e = refl
thread_in_body stage.Ended e = absurd (cc)

pub record IsOpen (s : Stage) : Type 0 where
  pub leg : open_legs s ≡ 1
  pub phase : open_phases s ≡ 1
  pub body : in_body s ≡ true
  pub started : at_start s ≡ false

phase_open : (s : Stage) → (in_phase s || in_thread s) ≡ true → IsOpen s
phase_open stage.Start e = absurd (cc)
phase_open stage.Description e = absurd (cc)
phase_open stage.Leg e = absurd (cc)
phase_open stage.Phase e = record { leg = refl; phase = refl; body = refl; started = refl }
phase_open stage.Thread e = record { leg = refl; phase = refl; body = refl; started = refl }
phase_open stage.Ended e = absurd (cc)

started : (s : Stage) → (not (at_start s) && not (is_ended s)) ≡ true → at_start s ≡ false
started stage.Start e = absurd (cc)
started stage.Description e = refl
started stage.Leg e = refl
started stage.Phase e = refl
started stage.Thread e = refl
started stage.Ended e = refl

still_open : (s : Stage) → (not (at_start s) && not (is_ended s)) ≡ true → open_legs s ≡ 1
still_open stage.Start e = absurd (cc)
still_open stage.Description e = refl
still_open stage.Leg e = refl
still_open stage.Phase e = refl
still_open stage.Thread e = refl
still_open stage.Ended e = absurd (cc)

-- the open phase is one when it is closed
closed_phase : (d : Draft) → HasCalls d → in_thread d.stage ≡ true → is_phase (desc_so_far d) (d.threads ++ d.calls ∷ []) ≡ true
closed_phase d h e =
    let n : Desc = desc_so_far d in
    let ts : List (List Call) = d.threads ++ d.calls ∷ [] in
    let count : length ts ≡ length d.threads + 1 = length-append d.threads (d.calls ∷ []) in
    let room : length ts ≤ MOST_THREADS = omega (arith, count, h.thread_room, (one_open d.stage e).1) in
    both_true (nat_lt 0 (length ts) && nat_le (length ts) MOST_THREADS) (list_all (is_thread n) ts)
    (both_true (nat_lt 0 (length ts)) (nat_le (length ts) MOST_THREADS) (lt-ltb 0 (length ts) (omega (arith, count))) (below (length ts) MOST_THREADS room))
    (all_pushed (is_thread n) d.threads d.calls h.threads h.calls)

phases_all : (d : Draft) → HasCalls d → list_all (is_phase (desc_so_far d)) (phases_so_far d) ≡ true
phases_all d h =
    chosen (λ ps. list_all (is_phase (desc_so_far d)) ps ≡ true) (in_thread d.stage) _ _
    (λ e. all_pushed (is_phase (desc_so_far d)) d.phases (d.threads ++ d.calls ∷ []) h.phases (closed_phase d h e))
    (λ _. h.phases)

phases_fit : (d : Draft) → HasCalls d → length (phases_so_far d) ≤ MOST_PHASES
phases_fit d h =
    chosen (λ ps. length ps ≤ MOST_PHASES) (in_thread d.stage) _ _
    (λ e. omega (arith, length-append d.phases ((d.threads ++ d.calls ∷ []) ∷ []), h.phase_room, (one_open d.stage e).0))
    (λ _. omega (arith, h.phase_room))

-- the open leg is one when it is closed
closed_leg : (d : Draft) → HasCalls d → is_leg (desc_so_far d) (phases_so_far d) ≡ true
closed_leg d h =
    let ps : List (List (List Call)) = phases_so_far d in
    both_true (nat_le (length ps) MOST_PHASES) (list_all (is_phase (desc_so_far d)) ps) (below (length ps) MOST_PHASES (phases_fit d h)) (phases_all d h)

legs_all : (d : Draft) → HasCalls d → list_all (is_leg (desc_so_far d)) (legs_so_far d) ≡ true
legs_all d h = all_pushed (is_leg (desc_so_far d)) d.legs (phases_so_far d) h.legs (closed_leg d h)

count_legs : (d : Draft) → length (legs_so_far d) ≡ length d.legs + 1
count_legs d = length-append d.legs (phases_so_far d ∷ [])

threads_all : (d : Draft) → HasCalls d → list_all (is_thread (desc_so_far d)) (threads_so_far d) ≡ true
threads_all d h =
    chosen (λ ts. list_all (is_thread (desc_so_far d)) ts ≡ true) (in_thread d.stage) _ _
    (λ _. all_pushed (is_thread (desc_so_far d)) d.threads d.calls h.threads h.calls)
    (λ _. h.threads)

-- what the description has is the same at a later stage
later : (d e : Draft) → IsFair d → at_start d.stage ≡ false → e.pending ≡ d.pending → e.shards ≡ d.shards → e.pair ≡ d.pair → e.limits ≡ d.limits
    → e.ids ≡ d.ids → e.windows ≡ d.windows → e.fills ≡ d.fills → e.fill_lines ≡ d.fill_lines → e.registers ≡ d.registers
    → HasDoors e.first e.second e.requesters e.requester_lines → IsFair e
later d e h s p sh pr l i w f fl r doors = record {
  few = rw p h.few;
  some = λ _. rw p (h.some s);
  shards = rw sh h.shards;
  limits = rw (pr, l) h.limits;
  ids = rw i h.ids;
  windows = rw w h.windows;
  fills = rw f h.fills;
  fill_lines = rw (f, fl) h.fill_lines;
  registers = rw (p, r) h.registers;
  doors = doors;
}

phase_good : (d : Draft) (fs : List (List ℕ)) → IsGood d → IfOk (phase_line d fs) IsGood
unfolding phase_line
phase_good d fs h =
    ensured IsGood (may_go_on d) kind.Order _ (λ on.
    ensured IsGood (is_whole d) kind.Missing _ (λ whole.
    ensured IsGood (nat_eq (length fs) 1) kind.Fields _ (λ _.
    ensured IsGood (nat_lt (length (phases_so_far d)) MOST_PHASES) kind.Many _ (λ room.
    record {
      fair = later d (record d { stage = stage.Phase; phases = phases_so_far d; threads = []; calls = [] }) h.fair
          (started d.stage on) refl refl refl refl refl refl refl refl refl h.fair.doors;
      described = λ _. left_true (is_described d) (not (in_phase d.stage)) whole;
      early = λ off. clash off refl;
      body = record {
        legs = h.body.legs;
        leg_room = omega (arith, h.body.leg_room, still_open d.stage on);
        some_legs = λ over. absurd (cc);
        moves = omega (arith, h.body.moves, still_open d.stage on);
        ways = h.body.ways;
        phases = phases_all d h.body;
        phase_room = omega (arith, ltb-true (length (phases_so_far d)) MOST_PHASES room);
        threads = refl;
        thread_room = omega arith;
        calls = refl;
      };
    }))))

move_good : (d : Draft) (m : Move) (fs : List (List ℕ)) → IsGood d → IfOk (move_line d m fs) IsGood
unfolding move_line
move_good d m fs h =
    ensured IsGood (may_go_on d && may_move d.track m) kind.Order _ (λ order.
    let on = left_true (may_go_on d) (may_move d.track m) order in
    ensured IsGood (is_whole d) kind.Missing _ (λ whole.
    ensured IsGood (nat_eq (length fs) 1) kind.Fields _ (λ _.
    ensured IsGood (nat_lt (length (legs_so_far d)) MOST_LEGS) kind.Many _ (λ room.
    record {
      fair = later d (record d { stage = stage.Leg; legs = legs_so_far d; moves = d.moves ++ m ∷ []; phases = []; threads = []; calls = [] }) h.fair
          (started d.stage on) refl refl refl refl refl refl refl refl refl h.fair.doors;
      described = λ _. left_true (is_described d) (not (in_phase d.stage)) whole;
      early = λ off. clash off refl;
      body = record {
        legs = legs_all d h.body;
        leg_room = omega (arith, ltb-true (length (legs_so_far d)) MOST_LEGS room);
        some_legs = λ over. absurd (cc);
        moves = omega (arith, count_legs d, length-append d.moves (m ∷ []), h.body.moves, still_open d.stage on);
        ways = all_pushed (may_move d.track) d.moves m h.body.ways (right_true (may_go_on d) (may_move d.track m) order);
        phases = refl;
        phase_room = omega arith;
        threads = refl;
        thread_room = omega arith;
        calls = refl;
      };
    }))))

end_good : (d : Draft) (fs : List (List ℕ)) → IsGood d → IfOk (end_line d fs) IsGood
unfolding end_line
end_good d fs h =
    ensured IsGood (may_go_on d) kind.Order _ (λ on.
    ensured IsGood (is_whole d) kind.Missing _ (λ whole.
    ensured IsGood (nat_eq (length fs) 1) kind.Fields _ (λ _.
    record {
      fair = later d (record d { stage = stage.Ended; legs = legs_so_far d; phases = []; threads = []; calls = [] }) h.fair
          (started d.stage on) refl refl refl refl refl refl refl refl refl h.fair.doors;
      described = λ _. left_true (is_described d) (not (in_phase d.stage)) whole;
      early = λ off. clash off refl;
      body = record {
        legs = legs_all d h.body;
        leg_room = omega (arith, count_legs d, h.body.leg_room, still_open d.stage on);
        some_legs = λ _. omega (arith, count_legs d);
        moves = omega (arith, count_legs d, h.body.moves, still_open d.stage on);
        ways = h.body.ways;
        phases = refl;
        phase_room = omega arith;
        threads = refl;
        thread_room = omega arith;
        calls = refl;
      };
    })))

thread_good : (d : Draft) (fs : List (List ℕ)) → IsGood d → IfOk (thread_line d fs) IsGood
unfolding thread_line
thread_good d fs h =
    ensured IsGood (in_phase d.stage || in_thread d.stage) kind.Order _ (λ on.
    let open_now : IsOpen d.stage = phase_open d.stage on in
    ensured IsGood (nat_eq (length fs) 1) kind.Fields _ (λ _.
    ensured IsGood (nat_lt (length (threads_so_far d)) MOST_THREADS) kind.Many _ (λ room.
    record {
      fair = later d (record d { stage = stage.Thread; threads = threads_so_far d; calls = [] }) h.fair
          open_now.started refl refl refl refl refl refl refl refl refl h.fair.doors;
      described = λ _. h.described open_now.body;
      early = λ off. clash off refl;
      body = record {
        legs = h.body.legs;
        leg_room = omega (arith, h.body.leg_room, open_now.leg);
        some_legs = λ over. absurd (cc);
        moves = omega (arith, h.body.moves, open_now.leg);
        ways = h.body.ways;
        phases = h.body.phases;
        phase_room = omega (arith, h.body.phase_room, open_now.phase);
        threads = threads_all d h.body;
        thread_room = omega (arith, ltb-true (length (threads_so_far d)) MOST_THREADS room);
        calls = refl;
      };
    })))

-- ---- calls

pushed_good : (d : Draft) (c : Call) → IsGood d → in_thread d.stage ≡ true → IsCall (desc_so_far d) c → IfOk (with_call d c) IsGood
unfolding with_call
pushed_good d c h here is =
    ensured IsGood (nat_lt (length d.calls) MOST_CALLS) kind.Many _ (λ room.
    let n : Desc = desc_so_far d in
    let cs : List Call = d.calls ++ c ∷ [] in
    let more : length cs ≤ MOST_CALLS = omega (arith, length-append d.calls (c ∷ []), ltb-true (length d.calls) MOST_CALLS room) in
    record {
      fair = still_fair d (record d { calls = cs }) h.fair refl refl refl refl refl refl refl refl refl refl h.fair.doors;
      described = h.described;
      early = λ off. clash off (thread_in_body d.stage here);
      body = record {
        legs = h.body.legs;
        leg_room = h.body.leg_room;
        some_legs = h.body.some_legs;
        moves = h.body.moves;
        ways = h.body.ways;
        phases = h.body.phases;
        phase_room = h.body.phase_room;
        threads = h.body.threads;
        thread_room = h.body.thread_room;
        calls = both_true (nat_le (length cs) MOST_CALLS) (list_all (is_call n) cs) (below (length cs) MOST_CALLS more)
            (all_pushed (is_call n) d.calls c (right_true (nat_le (length d.calls) MOST_CALLS) (list_all (is_call n) d.calls) h.body.calls) is);
      };
    })

-- the first translator is there
first_there : (d : Draft) → HasIts (desc_so_far d) 0
first_there d = chosen {A = List Its} (λ ts. nat_lt 0 (length ts) ≡ true) d.pair _ _ (λ _. refl) (λ _. refl)

second_there : (d : Draft) → d.pair ≡ true → HasIts (desc_so_far d) 1
second_there d e = rw e refl

copy_tracks : (d : Draft) (w : CallWord) → may_call d w ≡ true → w ≡ call_on.Copy → d.track ≡ true
copy_tracks d w e is = ap (may_call d) (sym is) ∙ e

call_good : (d : Draft) (w : CallWord) (fs : List (List ℕ)) → IsGood d → IfOk (call_line d w fs) IsGood
unfolding call_line
call_good d w fs h =
    ensured IsGood (in_thread d.stage && may_call d w) kind.Order _ (λ order.
    let here = left_true (in_thread d.stage) (may_call d w) order in
    let may = right_true (in_thread d.stage) (may_call d w) order in
    bound_by IsGood (call_of (desc_so_far d) 0 w fs) (IsCall (desc_so_far d)) _ (call_is (desc_so_far d) 0 w fs (first_there d) (copy_tracks d w may))
    (λ c is. pushed_good d c h here is))

not_copy : (d : Draft) (w : CallWord) → is_translators w ≡ true → w ≡ call_on.Copy → d.track ≡ true
not_copy d w e is = clash (ap is_translators is) e

second_good : (d : Draft) (fs : List (List ℕ)) → IsGood d → IfOk (second_line d fs) IsGood
unfolding second_line
second_good d fs h =
    ensured IsGood (in_thread d.stage && d.pair) kind.Order _ (λ order.
    let here = left_true (in_thread d.stage) d.pair order in
    let two = right_true (in_thread d.stage) d.pair order in
    ensured IsGood (nat_lt 1 (length fs)) kind.Fields _ (λ _.
    bound IsGood (ok_or (call_word_of (arg fs 1)) kind.Order) _ (λ w.
    ensured IsGood (is_translators w) kind.Order _ (λ own.
    bound_by IsGood (call_of (desc_so_far d) 1 w (drop 1 fs)) (IsCall (desc_so_far d)) _
    (call_is (desc_so_far d) 1 w (drop 1 fs) (second_there d two) (not_copy d w own)) (λ c is. pushed_good d c h here is)))))

pub call_word_good : (d : Draft) (n : ℕ) (w : CallWord) (fs : List (List ℕ)) → IsGood d → IfOk (call_word_line d n w fs) IsGood
unfolding call_word_line
call_word_good d n w fs h =
    chosen {A = Result Draft Kind} (λ r. IfOk r IsGood) (in_description d.stage && is_fill_word w) _ _
    (λ e. word_fill_good d n fs h (left_true (in_description d.stage) (is_fill_word w) e)) (λ _. call_good d w fs h)

-- ---- lines

pub keyword_good : (d : Draft) (n : ℕ) (k : Keyword) (fs : List (List ℕ)) → IsGood d → IfOk (keyword_line d n k fs) IsGood
unfolding keyword_line
keyword_good d n on.Vcpus fs h = count_good 1 FEW_VCPUS d fs (omega arith) (omega arith) h
keyword_good d n on.Processors fs h = count_good (FEW_VCPUS + 1) most_vcpus d fs (omega arith) (omega arith) h
keyword_good d n on.Shards fs h = shards_good d fs h
keyword_good d n on.Limits fs h = limits_good d fs h
keyword_good d n on.Ids fs h = ids_good d fs h
keyword_good d n on.Profile fs h = profile_good d fs h
keyword_good d n on.Window fs h = window_good d fs h
keyword_good d n on.Config fs h = config_good d fs h
keyword_good d n on.Pending fs h = pending_good d fs h
keyword_good d n on.Bytes fs h = bytes_good d n fs h
keyword_good d n on.Restore fs h = restore_good d fs h
keyword_good d n on.Gicr fs h = gicr_good d fs h
keyword_good d n on.Rrestore fs h = rrestore_good d fs h
keyword_good d n on.FromKvm fs h = from_kvm_good d fs h
keyword_good d n on.Linux fs h = linux_good d fs h
keyword_good d n on.Track fs h = track_good d fs h
keyword_good d n on.Pair fs h = pair_good d fs h
keyword_good d n on.Brestore fs h = brestore_good d fs h
keyword_good d n on.ItsBase fs h = its_base_good d fs h
keyword_good d n on.BBase fs h = b_base_good d fs h
keyword_good d n on.Requester fs h = requester_good d n fs h
keyword_good d n on.Phase fs h = phase_good d fs h
keyword_good d n on.Thread fs h = thread_good d fs h
keyword_good d n on.Migrate fs h = move_good d Migrate fs h
keyword_good d n on.Precopy fs h = move_good d Precopy fs h
keyword_good d n on.End fs h = end_good d fs h
keyword_good d n on.Trace fs h = tt
keyword_good d n on.Second fs h = second_good d fs h
