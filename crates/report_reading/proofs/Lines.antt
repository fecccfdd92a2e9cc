-- The lines of a leg's history have their shape, and can be read.
use Rattle.std.proofs.Common.{◌≡◌, ℕ, suc, ◌+◌, ◌-◌, ◌^◌, ◌<◌, ◌≤◌, Bool, true, false, nat_le, List, [], ◌∷◌, length, map, Some, refl, sym, ap}
use Rattle.std.proofs.Common.{subst, ◌∙◌, arith}
use Rattle.std.specs.List.{AllByRecursion}
use Rattle.std.specs.Fmt.{decimal}
use Rattle.std.proofs.lemmas.Bool.{cond_both}
use Rattle.std.proofs.lemmas.List.{length-map}
use Rattle.its_plain.specs.Plain.{Plain, Redistributor}
use Rattle.its_plain.specs.Answer.{answer, reply_of}
use Rattle.its_plain.specs.History.{IsLegal, after}
use Rattle.its_plain.specs.Runs.{Leg, Phase}
use Rattle.its_plain.specs.Saved.{moved_count}
use Rattle.its_plain.specs.declared.call.Entry.{Entry}
use Rattle.its_history.specs.Histories.{Seat, seat_from, seat_of, entry_line, history_lines}
use Rattle.its_history.specs.Report.{pending_text}
use Rattle.its_history.specs.Reading.{Move}
use Rattle.its_history.specs.Reports.{thread_counts, pending_lists, ended, moved_end}
use Rattle.its_history.specs.ReadBack.{ArePlaced, EndsBefore, HasLegShape, IsReadable, IsSome, IsEndReadable, IsLegReadable}
use Rattle.its_history.specs.declared.trace.End.{End}
use Rattle.report_reading.specs.Bytes.{HasBytes, TellsBytes}
use Rattle.report_reading.proofs.Calls.{Goes, calls_go, replies_bytes}
use Rattle.report_reading.proofs.Entries.{IsInRange, AreEntries}
use Rattle.report_reading.proofs.Texts.{answered_prints, answered_answers, pending_is_text, number_is_text}

-- ---- seats

-- phases and threads are counted no further than this
abbrev IsWithin : ℕ → ℕ → Seat → Type 0
IsWithin phase thread seat = (seat.0 ≤ phase) × (seat.1 ≤ thread)

wider : (phase thread p t : ℕ) (seat : Seat) → p ≤ phase → t ≤ thread → IsWithin p t seat → IsWithin phase thread seat
wider phase thread p t seat le lt w = (omega (arith, w.0), omega (arith, w.1))

seat_within : (phase : ℕ) (counts : List ℕ) (pass : ℕ) → IsWithin (phase + length counts) pass (seat_from phase counts pass)
seat_within phase [] pass = (omega arith, omega arith)
seat_within phase (count ∷ counts) pass =
    cond_both (nat_le pass count) (phase, pass) (seat_from (phase + 1) counts (pass - count)) (IsWithin (phase + length (count ∷ counts)) pass)
    (λ _. (omega arith, omega arith))
    (λ _. wider (phase + length (count ∷ counts)) pass (phase + 1 + length counts) (pass - count) (seat_from (phase + 1) counts (pass - count)) (omega arith)
    (omega arith) (seat_within (phase + 1) counts (pass - count)))

-- ---- entries

placed : (seat : ℕ → Seat) (n : ℕ) (h : List Entry) → ArePlaced n (history_lines seat n h)
placed seat n [] = tt
placed seat n (e ∷ h) =
    let next : suc n ≡ n + 1 = omega arith in
    (refl, subst (λ (k : ℕ). ArePlaced k (history_lines seat (suc n) h)) next (placed seat (suc n) h))

lines_long : (seat : ℕ → Seat) (n : ℕ) (h : List Entry) → length (history_lines seat n h) ≡ length h
lines_long seat n [] = refl
lines_long seat n (e ∷ h) = ap suc (lines_long seat (suc n) h)

module _ (counts : List ℕ) (few : length counts ≤ 256) where
  abbrev seat : ℕ → Seat
  seat pass = seat_of counts pass

  line_readable : (u : Plain) (n : ℕ) (e : Entry) → HasBytes u → e.reply ≡ reply_of u e.call → IsInRange 16385 e → n < 2 ^ 64
      → IsReadable (entry_line seat n e)
  line_readable u n e bytes reply range low =
      let tells : TellsBytes e.reply = subst TellsBytes (sym reply) (replies_bytes u e.call bytes) in
      let within : IsWithin (1 + length counts) e.pass (seat e.pass) = seat_within 1 counts e.pass in record {
        place = low;
        phase = omega (arith, within.0, few);
        thread = omega (arith, within.1, range.pass);
        printed = answered_prints e.call e.reply range.gives tells;
        answered = answered_answers e.call e.reply tells;
      }

  lines_readable : (u : Plain) (n : ℕ) (h : List Entry) → HasBytes u → IsLegal u h → AllByRecursion (IsInRange 16385) h → n + length h < 2 ^ 64
      → AllByRecursion IsReadable (history_lines seat n h)
  lines_readable u n [] bytes legal range low = tt
  lines_readable u n (e ∷ h) bytes legal range low = (
    line_readable u n e bytes legal.0 range.0 (omega (arith, low)),
    lines_readable (answer u e.call).1 (suc n) h ((calls_go u e.call range.0.gives).0 bytes) legal.1 range.1 (omega (arith, low)),
  )

-- ---- the state after them

pub after_goes : (u : Plain) (h : List Entry) → AllByRecursion (IsInRange 16385) h → Goes u (after u h)
after_goes u [] range = ((λ b. b), refl)
after_goes u (e ∷ h) range =
    let one = calls_go u e.call range.0.gives in
    let more = after_goes (answer u e.call).1 h range.1 in
    ((λ b. more.0 (one.0 b)), more.1 ∙ one.1)

-- ---- how a leg ended that a migration follows

pub moved_readable : (copied : Bool) (last : Plain) → IsEndReadable (Some (moved_end copied last))
moved_readable false last = tt
moved_readable true last = number_is_text (moved_count last)

pub moved_ends : (copied : Bool) (last : Plain) → EndsBefore (Some copied) (Some (moved_end copied last))
moved_ends false last = refl
moved_ends true last = (decimal (moved_count last), refl)

-- ---- legs

all_pending : (lists : List (List ℕ)) → AllByRecursion IsSome (map pending_text lists)
all_pending [] = tt
all_pending (ns ∷ lists) = (pending_is_text ns, all_pending lists)

module _ (first : Plain) (leg : Leg) (h : List Entry) (few : length leg ≤ 256) (are : AreEntries 16385 1073741824 h) where
  phases_few : length (thread_counts leg) ≤ 256
  phases_few = (let same = length-map leg (λ (threads : Phase). length threads) in omega (arith, same, few))

  pub leg_readable : (end : End) → IsEndReadable (Some end) → HasBytes first → IsLegal first h → IsLegReadable (ended first leg h (Some end))
  leg_readable end can bytes legal =
      let long = lines_long (seat_of (thread_counts leg)) 0 h in record {
        entries = lines_readable (thread_counts leg) phases_few first 0 h bytes legal are.range (omega (arith, are.count));
        count = omega (arith, long, are.count);
        pending = all_pending (pending_lists (after first h));
        end = can;
      }

  pub leg_shape : (vcpus : ℕ) (move : Move) (end : End) → EndsBefore move (Some end) → length first.redistributors ≡ vcpus
      → HasLegShape vcpus move (ended first leg h (Some end))
  leg_shape vcpus move end is count =
      let u : Plain = after first h in record {
        placed = placed (seat_of (thread_counts leg)) 0 h;
        pending = length-map (pending_lists u) pending_text ∙ (length-map u.redistributors (λ (r : Redistributor). r.pending)
            ∙ ((after_goes first h are.range).1 ∙ count));
        ends = is;
      }
