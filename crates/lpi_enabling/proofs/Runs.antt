-- In each run that starts with LPIs off, they are turned on before an LPI is told of, or pending.
use Rattle.std.proofs.Common.{◌≡◌, ℕ, true, List, [], ◌∷◌, ◌++◌, sym, subst, ◌∙◌, inl, inr}
use Rattle.std.specs.Prelude.{◌⊎◌}
use Rattle.std.proofs.lemmas.Bool.{both_ways}
use Rattle.its_plain.specs.Plain.{Plain, is_on}
use Rattle.its_plain.specs.Answer.{answer, reply_of}
use Rattle.its_plain.specs.History.{IsLegal, after}
use Rattle.its_plain.specs.Saved.{moved}
use Rattle.its_plain.specs.Runs.{Leg, IsRun, IsPartialRun}
use Rattle.its_plain.specs.declared.call.Entry.{Entry}
use Rattle.its_plain.specs.declared.call.Reply.{Reply}
use Rattle.lpi_enabling.specs.Enabling.{AllOff, NoneDisables, NoneDisablesInLegs, TurnsOnIn, TurnsOnInLegs, state_after, TellsLpi, FollowEnabling}
use Rattle.lpi_enabling.specs.Laws.{RunsFollowEnabling, PartialRunsFollowEnabling}
use Rattle.lpi_enabling.proofs.Calls.{Silent, AllTake, silent_after, silent_moved, on_after, turned_off, taken_where_on, migrations_keep, tells_on, pending_on}

-- ---- the state before an entry

silent_history : (u : Plain) (h : List Entry) → Silent u → Silent (after u h)
silent_history u [] s = s
silent_history u (e ∷ h) s = silent_history (answer u e.call).1 h (silent_after u e.call s)

silent_state : (u : Plain) (earlier : List (List Entry)) (before : List Entry) → Silent u → Silent (state_after u earlier before)
silent_state u [] before s = silent_history u before s
silent_state u (h ∷ hs) before s = silent_state (moved (after u h)) hs before (silent_moved (after u h) (silent_history u h s))

-- ---- LPIs are taken where they are on, before each entry too

taking_history : (u : Plain) (h : List Entry) → AllTake u → AllTake (after u h)
taking_history u [] t = t
taking_history u (e ∷ h) t = taking_history (answer u e.call).1 h (λ v. (taken_where_on u v (t v)).1 e.call)

taking_moved : (u : Plain) (h : List Entry) → AllTake u → AllTake (moved (after u h))
taking_moved u h t v = (taken_where_on (after u h) v (taking_history u h t v)).0

-- ---- what is on was on, or was turned on

on_after_history : (u : Plain) (v : ℕ) (h : List Entry) → AllTake u → is_on (after u h) v ≡ true
    → ((is_on u v ≡ true) × NoneDisables u v h) ⊎ TurnsOnIn u v h
on_after_history u v [] t on = inl (on, tt)
on_after_history u v (e ∷ h) t on =
    elim (on_after_history (answer u e.call).1 v h (λ k. (taken_where_on u k (t k)).1 e.call) on) [
      | inl there ↦ elim (on_after u v e.call there.0) [
        | inl was ↦ inl (was, ((λ d. both_ways (is_on (answer u e.call).1 v) ((turned_off u v e.call d).1 (t v)) there.0), there.1))
        | inr turns ↦ inr (inl (turns, there.1))
      ]
      | inr turns ↦ inr (inr turns)
    ]

on_in_state : (u : Plain) (v : ℕ) (earlier : List (List Entry)) (before : List Entry) → AllTake u → is_on (state_after u earlier before) v ≡ true
    → ((is_on u v ≡ true) × NoneDisablesInLegs u v (earlier ++ before ∷ [])) ⊎ TurnsOnInLegs u v (earlier ++ before ∷ [])
on_in_state u v [] before t on = elim (on_after_history u v before t on) [ inl was ↦ inl (was.0, (was.1, tt)) | inr turns ↦ inr (inl (turns, tt)) ]
on_in_state u v (h ∷ hs) before t on =
    elim (on_in_state (moved (after u h)) v hs before (taking_moved u h t) on) [
      | inl there ↦ elim (on_after_history u v h t (sym (migrations_keep (after u h) v) ∙ there.0)) [
        | inl was ↦ inl (was.0, (was.1, there.1))
        | inr turns ↦ inr (inl (turns, there.1))
      ]
      | inr turns ↦ inr (inr turns)
    ]

turned_on : (u : Plain) (v : ℕ) (earlier : List (List Entry)) (before : List Entry) → AllOff u → is_on (state_after u earlier before) v ≡ true
    → TurnsOnInLegs u v (earlier ++ before ∷ [])
turned_on u v earlier before off on =
    elim (on_in_state u v earlier before (λ k. (off k).none_taken ∙ sym (off k).off) on) [
      | inl was ↦ absurd (both_ways (is_on u v) (off v).none_taken was.0)
      | inr turns ↦ turns
    ]

-- ---- legal legs

abbrev AreLegal : Plain → List (List Entry) → Type 0
AreLegal u [] = Unit {0}
AreLegal u (h ∷ hs) = IsLegal u h × AreLegal (moved (after u h)) hs

reply_in : (u : Plain) (before : List Entry) (e : Entry) (rest : List Entry) → IsLegal u (before ++ e ∷ rest) → e.reply ≡ reply_of (after u before) e.call
reply_in u [] e rest legal = legal.0
reply_in u (x ∷ before) e rest legal = reply_in (answer u x.call).1 before e rest legal.1

reply_at : (u : Plain) (earlier : List (List Entry)) (before : List Entry) (e : Entry) (rest : List Entry) (later : List (List Entry))
    → AreLegal u (earlier ++ (before ++ e ∷ rest) ∷ later) → e.reply ≡ reply_of (state_after u earlier before) e.call
reply_at u [] before e rest later legal = reply_in u before e rest legal.0
reply_at u (h ∷ hs) before e rest later legal = reply_at (moved (after u h)) hs before e rest later legal.1

legal_follow : (u : Plain) (hs : List (List Entry)) → AllOff u → AreLegal u hs → FollowEnabling u hs
legal_follow u hs off legal =
    let silent : Silent u = λ v _. (off v).none_pending in record {
      told = λ earlier before e rest later v is tells.
          let reply : e.reply ≡ reply_of (state_after u earlier before) e.call = reply_at u earlier before e rest later (subst (AreLegal u) is legal) in
          let told : TellsLpi v e.call (reply_of (state_after u earlier before) e.call) = subst (λ (r : Reply). TellsLpi v e.call r) reply tells in
          turned_on u v earlier before off (tells_on (state_after u earlier before) v e.call (silent_state u earlier before silent) told);
      pending = λ earlier before rest later v intid _ pending.
          turned_on u v earlier before off (pending_on (state_after u earlier before) v intid (silent_state u earlier before silent) pending);
    }

-- ---- runs

run_legal : (u : Plain) (legs : List Leg) (hs : List (List Entry)) → IsRun u legs hs → AreLegal u hs
run_legal u [] hs r = subst (AreLegal u) (sym r) tt
run_legal u (leg ∷ []) hs r = subst (AreLegal u) (sym r.1) (r.2.legal, tt)
run_legal u (leg ∷ next ∷ legs) hs r = subst (AreLegal u) (sym r.2) (r.3.legal, run_legal (moved (after u r.0)) (next ∷ legs) r.1 r.5)

partial_legal : (u : Plain) (legs : List Leg) (hs : List (List Entry)) → IsPartialRun u legs hs → AreLegal u hs
partial_legal u [] hs r = absurd r
partial_legal u (leg ∷ legs) hs r =
    elim r [
      | inl part ↦ subst (AreLegal u) (sym part.1) (part.2.legal, tt)
      | inr whole ↦ subst (AreLegal u) (sym whole.2) (whole.3.legal, partial_legal (moved (after u whole.0)) legs whole.1 whole.5)
    ]

pub runs_follow : RunsFollowEnabling
runs_follow first legs hs off r = legal_follow first hs off (run_legal first legs hs r)

pub partial_runs_follow : PartialRunsFollowEnabling
partial_runs_follow first legs hs off r = legal_follow first hs off (partial_legal first legs hs r)
