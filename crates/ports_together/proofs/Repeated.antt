-- What the leg asks.
use Rattle.std.proofs.Common.{◌≡◌, [], ◌∷◌, ◌++◌, length, sym, subst, arith}
use Rattle.std.specs.List.{AllByRecursion}
use Rattle.its_plain.specs.Runs.{Thread, Phase}
use Rattle.its_plain.specs.declared.call.Call.{Call}
use Rattle.its_steps.specs.Parts.{translator_count, vcpu_count}
use Rattle.its_steps.proofs.Lists.{all_snoc, all_weaker}
use Rattle.its_turns.specs.Machines.{setup}
use Rattle.its_turns.specs.declared.machine.Machine.{Machine}
use Rattle.script_threads.specs.Asks.{MayAsk, MayAskAll, MayRun}
use Rattle.ports_together.specs.Legs.{IsSmallLeg}

abbrev pub Repeats : Call → Thread → Type 0
Repeats call calls = AllByRecursion (λ c. c ≡ call) calls

pub one_more : (call : Call) (calls more : Thread) (c : Call) → Repeats call calls → c ≡ call → more ≡ calls ++ c ∷ [] → Repeats call more
one_more call calls more c before is e = subst (Repeats call) (sym e) (all_snoc (λ x. x ≡ call) calls c before is)

may_repeat : (m : Machine) (call : Call) (calls : Thread) → MayAsk m call → Repeats call calls → MayAskAll m calls
may_repeat m call calls may all = all_weaker (λ x. x ≡ call) (MayAsk m) calls (λ x is. subst (MayAsk m) (sym is) may) all

-- threads that each make one call
abbrev pub AllRepeat : Call → Phase → Type 0
AllRepeat call phase = AllByRecursion (λ calls. Repeats call calls) phase

may_all_repeat : (m : Machine) (call : Call) (phase : Phase) → MayAsk m call → AllRepeat call phase → MayRun m phase
may_all_repeat m call phase may all = all_weaker (Repeats call) (MayAskAll m) phase (λ calls is. may_repeat m call calls may is) all

-- four threads that make one call, and then one thread that makes another
pub small_leg : (one two : Call) (first second : Phase)
    → ((m : Machine) → translator_count (setup m) ≡ 1 → vcpu_count (setup m) ≡ 4 → MayAsk m one × MayAsk m two) → length first ≡ 4
    → AllRepeat one first → length second ≡ 1 → AllRepeat two second → IsSmallLeg (first ∷ second ∷ [])
small_leg one two first second may four first_calls single second_calls = record {
  few = omega arith;
  threads = (omega (arith, four), (omega (arith, single), tt));
  may = λ m translators vcpus. let may = may m translators vcpus in (
    may_all_repeat m one first may.0 first_calls,
    (may_all_repeat m two second may.1 second_calls, tt),
  );
}
