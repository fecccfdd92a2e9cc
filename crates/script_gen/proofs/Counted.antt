-- Counting one list after another: what is left still has room.
use Rattle.std.proofs.Common.{◌≡◌, ℕ, suc, ◌+◌, ◌<◌, ◌≤◌, Bool, true, false, ◌&&◌, List, [], ◌∷◌, length, drop, get_or, refl, sym, ap, subst, ◌∙◌, add-one}
use Rattle.std.proofs.Common.{arith}
use Rattle.std.proofs.Math.Seq.{drop-cons}
use Rattle.std.proofs.lemmas.List.{length-append}
use Rattle.its_types.specs.Bits.{bit}
use Rattle.its_types.specs.declared.machine.Placed.{Placed}
use Rattle.its_plain.specs.declared.call.Call.{Call}
use Rattle.its_plain.specs.declared.call.Reply.{Reply}
use Rattle.its_history.specs.Merged.{thread_lines, list_lines, all_lines}
use Rattle.its_history.specs.declared.threads.ThreadList.{ThreadList}
use Rattle.script_gen.specs.Summary.{is_signal, is_step, is_delivered, has_run, with_call, with_replies, with_lists, HasRoomFor}
use Rattle.script_gen.specs.declared.counts.Counts.{Counts}

bit_below : (b : Bool) → bit b ≤ 1
bit_below true = omega arith
bit_below false = omega arith

pub less_room : (more less : ℕ) (n : Counts) → less ≤ more → HasRoomFor more n → HasRoomFor less n
less_room more less n le h =
    let signals = h.signals in
    let delivered = h.delivered in
    let commands = h.commands in
    let ran = h.ran in
    record { signals = omega arith; delivered = omega arith; commands = omega arith; ran = omega arith }

pub room_after : (more : ℕ) (c : Call) (r : Reply) (n : Counts) → HasRoomFor (suc more) n → HasRoomFor more (with_call c r n)
room_after more c r n h =
    let signals = h.signals in
    let delivered = h.delivered in
    let commands = h.commands in
    let ran = h.ran in
    let b1 = bit_below (is_signal c) in
    let b2 = bit_below (is_signal c && is_delivered r) in
    let b3 = bit_below (is_step c) in
    let b4 = bit_below (is_step c && has_run r) in
    record { signals = omega arith; delivered = omega arith; commands = omega arith; ran = omega arith }

pub room_after_list : (phase thread more : ℕ) (cs : List Call) (rs : List (Placed Reply)) (n : Counts)
    → HasRoomFor (length (thread_lines phase thread cs rs) + more) n
    → HasRoomFor more (with_replies cs rs n)
room_after_list phase thread more [] rs n h = less_room (0 + more) more n (omega arith) h
room_after_list phase thread more (c ∷ cs) [] n h = less_room (0 + more) more n (omega arith) h
room_after_list phase thread more (c ∷ cs) (r ∷ rs) n h =
    let k = length (thread_lines phase thread cs rs) in
    room_after_list phase thread more cs rs (with_call c r.reply n)
    (room_after (k + more) c r.reply n (less_room (suc k + more) (suc (k + more)) n (omega arith) h))

-- ---- at the end of a list

pub no_calls_left : (cs : List Call) (rs : List (Placed Reply)) (n : Counts) → length cs ≡ 0 → with_replies cs rs n ≡ n
no_calls_left [] rs n e = refl
no_calls_left (c ∷ cs) rs n e = absurd (omega arith)

pub no_replies_left : (cs : List Call) (rs : List (Placed Reply)) (n : Counts) → length rs ≡ 0 → with_replies cs rs n ≡ n
no_replies_left [] rs n e = refl
no_replies_left (c ∷ cs) [] n e = refl
no_replies_left (c ∷ cs) (r ∷ rs) n e = absurd (omega arith)

-- ---- the next list

pub record IsCounted (lists : List ThreadList) (i : ℕ) (all n : Counts) : Type 0 where
  pub room : HasRoomFor (length (all_lines (drop i lists))) n
  pub counts : with_lists (drop i lists) n ≡ all

pub next_counted : (lists : List ThreadList) (i : ℕ) (l : ThreadList) (all n now : Counts) → i < length lists → l ≡ get_or lists i l
    → now ≡ with_replies l.calls.now l.replies n
    → IsCounted lists i all n → IsCounted lists (i + 1) all now
next_counted lists i l all n now within is made h =
    let rest : List ThreadList = drop (i + 1) lists in
    let next : i + 1 ≡ suc i = add-one i in
    let split : drop i lists ≡ l ∷ rest = drop-cons lists i l within ∙ ap (λ x. x ∷ drop (suc i) lists) (sym is) ∙ ap (λ k. l ∷ drop k lists) (sym next) in
    let lines : length (all_lines (drop i lists)) ≡ length (list_lines l) + length (all_lines rest) = ap (λ ls. length (all_lines ls)) split
    ∙ length-append (list_lines l) (all_lines rest) in
    record {
      room = subst (HasRoomFor (length (all_lines rest))) (sym made) (room_after_list l.phase l.thread (length (all_lines rest)) l.calls.now l.replies n
          (subst (λ k. HasRoomFor k n) lines h.room));
      counts = ap (with_lists rest) made ∙ sym (ap (λ ls. with_lists ls n) split) ∙ h.counts;
    }
