-- Whom a step concerns, in the state before it, and what a try tells of them.
use Rattle.std.proofs.Common.{◌≡◌, ℕ, Bool, true, false, ◌&&◌, ◌||◌, List, [], ◌∷◌, ◌++◌, Option, Some, None, Result, Ok, Err, refl, ap, sym, ◌∙◌}
use Rattle.std.proofs.Common.{subst, inl, inr, slice_get}
use Rattle.std.specs.Prelude.{◌⊎◌}
use Rattle.std.specs.Option.{option_map}
use Rattle.std.proofs.lemmas.Bool.{both_ways}
use Rattle.std.proofs.lemmas.Option.{same_Some}
use Rattle.its_command.specs.declared.command.Command.{Command}
use Rattle.its_types.specs.declared.machine.Part.{Part}
use Rattle.its_types.specs.declared.machine.Part.TheVariants.{Maps as MapsOf, Mem}
use Rattle.its_plain.specs.Answer.{step_reply, step_left, left}
use Rattle.its_plain.specs.History.{after}
use Rattle.its_plain.specs.Parts.{footprint, needed, needed_next, conf, pend, IsIn}
use Rattle.its_plain.specs.Plain.{Plain, Redistributor, conf_of, pend_of, joined, maps_of}
use Rattle.its_plain.specs.declared.call.Call.{Call}
use Rattle.its_plain.specs.declared.call.Call.TheVariants as call
use Rattle.its_plain.specs.declared.call.CmdReply.{CmdReply}
use Rattle.its_plain.specs.declared.call.CmdReply.TheVariants as answers
use Rattle.its_plain.specs.declared.call.Entry.{Entry}
use Rattle.its_plain.specs.declared.call.Reply.TheVariants as reply
use Rattle.its_plain.specs.declared.call.StepReply.{StepReply}
use Rattle.plain_footprint.specs.Laws.{HasRedistributors, LeavesOthers}
use Rattle.plain_footprint.proofs.OtherParts.{leaves}
use Rattle.plain_footprint.proofs.Refused.{refused_leaves}
use Rattle.owned_parts.specs.RedistSets.{is_in}
use Rattle.owned_parts.specs.declared.redist_set.RedistSet.{RedistSet}
use Rattle.owned_parts.specs.declared.redist_set.RedistSet.TheVariants.{Nothing}
use Rattle.cmd_exec.specs.Executed.{as_step}
use Rattle.cmd_exec.specs.Needs.{IsPartOf, ArePartsOfStep}
use Rattle.cmd_exec.specs.declared.needed.Needed.{Needed}
use Rattle.its_steps.specs.World.{View}
use Rattle.its_types.specs.declared.machine.Placed.{Placed}
use Rattle.its_turns.specs.declared.turns.Busy.{Busy}
use Rattle.cmd_engine.specs.Concern.{step_said, untold_of, is_ran, Concerns, BeforeLast, TellsOnce, TellsOthers, TellsConcerned}
use Rattle.cmd_engine.specs.Rules.{Rule, KeepsTried, has_run}
use Rattle.cmd_engine.specs.Tries.{TriesOnce, tried_of}
use Rattle.cmd_engine.specs.declared.missed.Missed.{Missed}
use Rattle.cmd_engine.specs.declared.missed.Missed.TheVariants as missed
use Rattle.cmd_engine.specs.declared.stepped.Stepped.{Stepped}
use Rattle.cmd_engine.specs.declared.tried.Tried.{Tried}
use Rattle.cmd_engine.specs.declared.tried.Tried.TheVariants as tried
use Rattle.cmd_engine.proofs.Came.{same_before}

-- what is in one of two sets
either : (a b : Bool) → (a || b) ≡ true → (a ≡ true) ⊎ (b ≡ true)
either true b e = inl refl
either false b e = inr e

neither : (a b : Bool) → (a || b) ≡ false → (a ≡ false) × (b ≡ false)
neither true b e = absurd cc
neither false b e = (refl, e)

-- a redistributor is the same where both of its parts are
same_both : (o o' : Option Redistributor) → option_map conf_of o ≡ option_map conf_of o' → option_map pend_of o ≡ option_map pend_of o' → o ≡ o'
same_both None None c p = refl
same_both None (Some r) c p = absurd cc
same_both (Some r) None c p = absurd cc
same_both (Some r) (Some q) c p = λ d. Some (joined (same_Some (conf_of r) (conf_of q) c d) (same_Some (pend_of r) (pend_of q) p d))

-- nobody is concerned where the state stays
pub nobody : (u : Plain) (i : ℕ) → step_left u i ≡ u → Concerns u i Nothing
nobody u i same = record {
  others = λ v out. ap (λ (w : Plain). slice_get w.redistributors v) same;
  named = λ v named. absurd (both_ways false refl named);
}

-- ---- in a state where the step meets a command

module _ (u : Plain) (i : ℕ) (redistributors : HasRedistributors u) (c : Command) (n : Needed) (meets : needed_next u i ≡ needed u i c)
    (parts : ArePartsOfStep u.layout.shape (maps_of u i) c n) where
  is_part : (q : Part) → IsIn q (footprint u (call.Step i)) → IsPartOf i n q
  unfolding footprint
  is_part q here = (parts u i refl refl q).0 (subst (λ (ps : List Part). IsIn q (MapsOf i ∷ Mem ∷ ps)) meets here)

  is_needed : (q : Part) → IsPartOf i n q → IsIn q (footprint u (call.Step i))
  unfolding footprint
  is_needed q part = subst (λ (ps : List Part). IsIn q (MapsOf i ∷ Mem ∷ ps)) (sym meets) ((parts u i refl refl q).1 part)

  others : LeavesOthers u (call.Step i)
  others = leaves u (call.Step i) redistributors

  -- who is in neither set keeps both parts
  stays : (v : ℕ) → is_in n.confs v ≡ false → is_in n.pends v ≡ false → slice_get (step_left u i).redistributors v ≡ slice_get u.redistributors v
  unfolding left
  stays v no_conf no_pend =
      sym (same_both (slice_get u.redistributors v) (slice_get (step_left u i).redistributors v)
      (others.parts (conf v) (λ here. both_ways (is_in n.confs v) no_conf (is_part (conf v) here)))
      (others.parts (pend v) (λ here. both_ways (is_in n.pends v) no_pend (is_part (pend v) here))))

  -- it concerns those that it needs if it runs, and else nobody
  pub command_concerns : (said : CmdReply) → as_step said ≡ step_reply u i → (set : RedistSet)
      → ((v : ℕ) → is_in set v ≡ (has_run said && (is_in n.confs v || is_in n.pends v))) → Concerns u i set
  command_concerns (answers.Ran op) replied set members = record {
    others = λ v out. let both = neither (is_in n.confs v) (is_in n.pends v) (sym (members v) ∙ out) in stays v both.0 both.1;
    named = λ v named. record {
      ran = ap is_ran (sym replied);
      part = elim (either (is_in n.confs v) (is_in n.pends v) (sym (members v) ∙ named)) [
        | inl conf_in ↦ inl (is_needed (conf v) conf_in)
        | inr pend_in ↦ inr (is_needed (pend v) pend_in)
      ];
    };
  }
  command_concerns (answers.Refused op why) replied set members = record {
    others = λ v out. ap (λ (w : Plain). slice_get w.redistributors v) (refused_leaves u i op why (sym replied));
    named = λ v named. absurd (both_ways (is_in set v) (members v) named);
  }

-- ---- in the history seen

-- what is so of the state where one more call was made
pub before_last : (P : Plain → Type 0) (start : Plain) (seen all : List Entry) (e : Entry) → P (after start seen) → all ≡ seen ++ e ∷ []
    → BeforeLast P start all
before_last P start seen all e here is before last eq =
    subst (λ (l : List Entry). P (after start l)) (same_before seen before e last (sym is ∙ eq)) here

-- as the whole call answers it
pub tells_others : (start : Plain) (i : ℕ) (seen : List Entry) (made : Result (Result (Placed Stepped) Missed) Busy) → TellsOnce start i seen made
    → TellsOthers start i seen (tried_of made)
tells_others start i seen (Ok (Ok p)) tells = λ before last eq. (tells before last eq).others
tells_others start i seen (Ok (Err missed.Spent)) tells = tt
tells_others start i seen (Ok (Err missed.NoMemory)) tells = tt
tells_others start i seen (Ok (Err (missed.Raced l))) tells = tt
tells_others start i seen (Ok (Err missed.Late)) tells = tt
tells_others start i seen (Ok (Err missed.Full)) tells = tt
tells_others start i seen (Err b) tells = tt

pub tells_concerned : (start : Plain) (i : ℕ) (seen : List Entry) (made : Result (Result (Placed Stepped) Missed) Busy) → TellsOnce start i seen made
    → TellsConcerned start i seen (tried_of made)
tells_concerned start i seen (Ok (Ok p)) tells = λ before last eq. (tells before last eq).named
tells_concerned start i seen (Ok (Err missed.Spent)) tells = tt
tells_concerned start i seen (Ok (Err missed.NoMemory)) tells = tt
tells_concerned start i seen (Ok (Err (missed.Raced l))) tells = tt
tells_concerned start i seen (Ok (Err missed.Late)) tells = tt
tells_concerned start i seen (Ok (Err missed.Full)) tells = tt
tells_concerned start i seen (Err b) tells = tt

-- ---- the reply alone

pub untold_tries : (P : Part → Type 0) (v : View) (c : Call) (w : View) (t : Tried Stepped) → TriesOnce P v c step_said w t
    → TriesOnce P v c (λ (k : StepReply). reply.Step k) w (untold_of t)
untold_tries P v c w (tried.Done p) tries = tries
untold_tries P v c w (tried.Busy b) tries = tries
untold_tries P v c w (tried.Raced r) tries = tries
untold_tries P v c w tried.Late tries = tries
untold_tries P v c w tried.Spent tries = tries
untold_tries P v c w tried.NoMemory tries = tries
untold_tries P v c w tried.Full tries = tries

pub untold_keeps : (r : Rule) (start : Plain) (i : ℕ) (seen : List Entry) (t : Tried Stepped) → KeepsTried r start i seen t
    → KeepsTried r start i seen (untold_of t)
untold_keeps r start i seen (tried.Done p) keeps = keeps
untold_keeps r start i seen (tried.Busy b) keeps = tt
untold_keeps r start i seen (tried.Raced l) keeps = tt
untold_keeps r start i seen tried.Late keeps = tt
untold_keeps r start i seen tried.Spent keeps = tt
untold_keeps r start i seen tried.NoMemory keeps = tt
untold_keeps r start i seen tried.Full keeps = keeps
