-- Calls that end no current translation.
use Rattle.std.proofs.Common.{◌≡◌, ℕ, List, refl, inl}
use Rattle.its_types.specs.declared.machine.Part.{Part}
use Rattle.its_plain.specs.Plain.{Plain}
use Rattle.its_plain.specs.declared.call.Call.{Call}
use Rattle.its_plain.specs.declared.call.Call.TheVariants as call
use Rattle.its_steps.specs.Calls.{staying, IsCalm, CalmCallsAreSteady, CalmCallsMayCommit}
use Rattle.its_steps.specs.Contents.{Content, Held}
use Rattle.its_steps.specs.Endings.{Nothing, ending_of}
use Rattle.its_steps.specs.MayCall.{Owes, AreSteady}
use Rattle.its_steps.specs.Parts.{Setup, Has, Suits}
use Rattle.its_steps.specs.Renewal.{assembled, renewal, renewal_in}
use Rattle.its_steps.specs.declared.commit.Commit.{Commit}
use Rattle.its_steps.proofs.Assembled.{assembled_has}
use Rattle.its_steps.proofs.Endings.{steady_all, none_ends}

pub calm_none : (u : Plain) (c : Call) → IsCalm c → ending_of u c ≡ Nothing
unfolding ending_of
calm_none u (call.WriteReg its off size value) calm = absurd calm
calm_none u (call.Step its) calm = absurd calm
calm_none u c calm = refl

-- where nothing ends, whatever has what is held stays steady
pub steady_in : (s : Setup) (u : Plain) (a : Commit) (its : ℕ) (owed held : List Held) → ending_of u a.call ≡ Nothing
    → ((p : Part) (x : Content) → Suits p x → Owes p x held → Has u p x) → AreSteady s its owed held (renewal_in s u a held)
steady_in s u a its owed held none has = steady_all s u a its owed (λ dev ev own ends. absurd (none_ends (ending_of u a.call) none dev ev ends)) held has

pub calm : CalmCallsAreSteady
calm s a its owed held vcpus is apart st = steady_in s (assembled s held) a its owed held (calm_none (assembled s held) a.call is)
    (assembled_has s vcpus held apart st)

pub calm_may : CalmCallsMayCommit
calm_may s last c r ch held vcpus is room apart st outs answered may = record {
  room = room;
  stands = st;
  apart = apart;
  out = outs;
  answered = answered;
  may_change = may;
  stamps = λ its lt. let a : Commit = staying last c r ch in inl record { same = refl; steady = calm s a its (renewal s a held) held vcpus is apart st };
}
