-- What each call is answered and leaves doesn't depend on the second memory, but for a copy and that memory itself.
use Rattle.std.proofs.Common.{◌≡◌, ℕ, Bool, true, false, if◌then◌else◌, List, [], ◌∷◌, Option, Some, None}
use Rattle.std.proofs.Common.{Result, Ok, Err, refl, ap, sym, ◌∙◌}
use Rattle.std.proofs.lemmas.Bool.{cond_both}
use Rattle.guest_windows.specs.Windows.{Window, write_at}
use Rattle.its_command.specs.Commands.{decoded, op_of}
use Rattle.its_command.specs.declared.command.Op.{Op}
use Rattle.its_plain.specs.Answer.{reply_of, left, answer, poke_left, signal_left, signal_reply, save_left, save_reply, step_reply, step_left}
use Rattle.its_plain.specs.Answer.{met_reply, met_left, command_reply, command_left, went_on, next_bytes, is_idle, written, gicr_written}
use Rattle.its_plain.specs.Answer.{replied}
use Rattle.its_plain.specs.Commands.{ran}
use Rattle.its_plain.specs.History.{IsLegal, after}
use Rattle.its_plain.specs.Plain.{Plain}
use Rattle.its_plain.specs.Regions.{savable, areas_of}
use Rattle.its_plain.specs.Saved.{words_of, saved, moved}
use Rattle.its_plain.specs.Translation.{translated}
use Rattle.its_plain.specs.declared.call.Call.{Call}
use Rattle.its_plain.specs.declared.call.Call.TheVariants as call
use Rattle.its_plain.specs.declared.call.Entry.{Entry}
use Rattle.its_plain.specs.declared.call.Reason.{Reason}
use Rattle.its_plain.specs.declared.call.Reply.{Reply}
use Rattle.its_plain.specs.declared.call.Reply.TheVariants as reply
use Rattle.its_plain.specs.declared.call.Route.TheVariants as route
use Rattle.its_plain.specs.declared.call.Signal.{Signal}
use Rattle.its_plain.specs.declared.call.Signal.TheVariants.{Delivered, Dropped}
use Rattle.its_plain.specs.declared.call.StepReply.{StepReply}
use Rattle.its_plain.specs.declared.fault.SaveFault.{SaveFault}
use Rattle.its_steps.specs.Parts.{Setup}
use Rattle.its_steps.specs.World.{first_view}
use Rattle.its_turns.specs.Machines.{setup, view}
use Rattle.its_turns.specs.declared.machine.Machine.{Machine}
use Rattle.its_turns.specs.declared.machine.Pass.{Pass}
use Rattle.its_migrate.specs.Beside.{is_copy, but_copies, calls_in, DidAlike, GoesOnAs, CopiesChangeNothingElse, RunningAsStopped}
use Rattle.its_migrate.specs.Precopying.{Precopies, untracked}
use Rattle.its_migrate.specs.Resting.{Migrates, resting}
use Rattle.its_migrate.proofs.Copying.{same_savable, same_saved, same_moved}
use Rattle.its_migrate.proofs.Bare.{bare, ran_bare}

-- ---- steps

replies_alike : (op : Op) (r : Result Plain Reason) → command_reply op (bare r) ≡ command_reply op r
replies_alike op (Ok w) = refl
replies_alike op (Err e) = refl

leaves_alike : (u : Plain) (i : ℕ) (r : Result Plain Reason)
    → untracked (went_on i (command_left (untracked u) (bare r))) ≡ untracked (went_on i (command_left u r))
leaves_alike u i (Ok w) = refl
leaves_alike u i (Err e) = refl

met_replies : (u : Plain) (i : ℕ) (o : Option (List ℕ)) → met_reply (untracked u) i o ≡ met_reply u i o
met_replies u i None = refl
met_replies u i (Some bytes) = ap (λ (r : Result Plain Reason). command_reply (op_of (decoded bytes)) r) (ran_bare u i (decoded bytes))
    ∙ replies_alike (op_of (decoded bytes)) (ran u i (decoded bytes))

met_leaves : (u : Plain) (i : ℕ) (o : Option (List ℕ)) → untracked (met_left (untracked u) i o) ≡ untracked (met_left u i o)
met_leaves u i None = refl
met_leaves u i (Some bytes) =
    ap (λ (r : Result Plain Reason). untracked (went_on i (command_left (untracked u) r))) (ran_bare u i (decoded bytes))
    ∙ leaves_alike u i (ran u i (decoded bytes))

same_choice : {A : Type 0} (test : Bool) (x y z w : A) → x ≡ z → y ≡ w → (if test then x else y) ≡ (if test then z else w)
same_choice true x y z w p q = p
same_choice false x y z w p q = q

-- one of two states, but for the second memory
same_bare : (test : Bool) (x y z w : Plain) → untracked x ≡ untracked z → untracked y ≡ untracked w
    → untracked (if test then x else y) ≡ untracked (if test then z else w)
same_bare true x y z w p q = p
same_bare false x y z w p q = q

step_replies : (u : Plain) (i : ℕ) → step_reply (untracked u) i ≡ step_reply u i
unfolding step_reply
step_replies u i = same_choice (is_idle u i) _ _ _ _ refl (met_replies u i (next_bytes u i))

step_leaves : (u : Plain) (i : ℕ) → untracked (step_left (untracked u) i) ≡ untracked (step_left u i)
unfolding step_left
step_leaves u i = same_bare (is_idle u i) _ _ _ _ refl (met_leaves u i (next_bytes u i))

-- ---- other calls that change memory, or many parts

pokes_alike : (u : Plain) (address : ℕ) (bytes : List ℕ) (o : Option (List Window))
    → untracked (poke_left (untracked u) address bytes o) ≡ untracked (poke_left u address bytes o)
pokes_alike u address bytes None = refl
pokes_alike u address bytes (Some memory) = refl

signals_alike : (u : Plain) (s : Signal) → untracked (signal_left (untracked u) s) ≡ untracked (signal_left u s)
signals_alike u (Delivered vcpu intid) = refl
signals_alike u (Dropped cause) = refl

-- what a reply says was done
dones_alike : (u : Plain) (r : Reply) → untracked (replied (untracked u) r) ≡ untracked (replied u r)
dones_alike u (reply.Signal s) = signals_alike u s
dones_alike u (reply.Ack a) = refl
dones_alike u (reply.Bytes b) = refl
dones_alike u (reply.Value v) = refl
dones_alike u (reply.Step s) = refl
dones_alike u (reply.SaveFault f) = refl
dones_alike u (reply.Copied n) = refl
dones_alike u reply.Ok = refl
dones_alike u reply.Outside = refl
dones_alike u reply.Saved = refl
dones_alike u reply.NoRequester = refl

saves_alike : (u : Plain) (r : Result (Unit {0}) SaveFault) → untracked (save_left (untracked u) r) ≡ untracked (save_left u r)
unfolding words_of
saves_alike u (Ok done) = refl
saves_alike u (Err f) = refl

savable_alike : (u : Plain) → savable (untracked u) ≡ savable u
unfolding savable areas_of
savable_alike u = refl

gicr_alike : (u : Plain) (vcpu off size value : ℕ) → untracked (gicr_written (untracked u) vcpu off size value) ≡ untracked (gicr_written u vcpu off size value)
gicr_alike u vcpu off size value = same_bare u.layout.gicr _ _ _ _ refl refl

written_alike : (u : Plain) (i off size value : ℕ) → untracked (written (untracked u) i off size value) ≡ untracked (written u i off size value)
unfolding written
written_alike u i off size value = refl

translated_alike : (u : Plain) (i dev ev : ℕ) → translated (untracked u) i dev ev ≡ translated u i dev ev
unfolding translated
translated_alike u i dev ev = refl

signal_replies : (u : Plain) (i dev ev : ℕ) → reply.Signal (signal_reply (translated (untracked u) i dev ev)) ≡ reply.Signal (signal_reply (translated u i dev ev))
signal_replies u i dev ev = ap (λ r. reply.Signal (signal_reply r)) (translated_alike u i dev ev)

-- ---- all calls

replies_same : (u : Plain) (c : Call) → is_copy c ≡ false → reply_of (untracked u) c ≡ reply_of u c
unfolding reply_of
replies_same u (call.Signal its dev ev) other = signal_replies u its dev.0 ev.0
replies_same u (call.Take vcpu) other = refl
replies_same u (call.Show vcpu) other = refl
replies_same u (call.Best vcpu mask) other = refl
replies_same u (call.Claim vcpu intid) other = refl
replies_same u (call.Poke addr bytes) other = refl
replies_same u (call.Peek addr count) other = refl
replies_same u (call.ReadReg its off size) other = refl
replies_same u (call.WriteReg its off size value) other = refl
replies_same u (call.ReadGicr vcpu off size) other = refl
replies_same u (call.WriteGicr vcpu off size value) other = refl
replies_same u (call.Step its) other = ap (λ (s : StepReply). reply.Step s) (step_replies u its)
replies_same u call.Save other = ap (λ (r : Result (Unit {0}) SaveFault). save_reply r) (savable_alike u)
replies_same u call.Copy other = absurd cc
replies_same u (call.Dma req addr bytes (route.Signal its dev ev)) other = signal_replies u its dev.0 ev.0
replies_same u (call.Dma req addr bytes route.Poke) other = refl
replies_same u (call.Dma req addr bytes route.NoRequester) other = refl
replies_same u (call.Dma req addr bytes route.Frame) other = refl

leaves_same : (u : Plain) (c : Call) (r : Reply) → untracked (left (untracked u) c r) ≡ untracked (left u c r)
unfolding left
leaves_same u (call.Signal its dev ev) r = dones_alike u r
leaves_same u (call.Take vcpu) r = refl
leaves_same u (call.Show vcpu) r = refl
leaves_same u (call.Best vcpu mask) r = refl
leaves_same u (call.Claim vcpu intid) r = refl
leaves_same u (call.Poke addr bytes) r = pokes_alike u addr.0 bytes (write_at u.memory addr.0 bytes)
leaves_same u (call.Peek addr count) r = refl
leaves_same u (call.ReadReg its off size) r = refl
leaves_same u (call.WriteReg its off size value) r = written_alike u its off size value
leaves_same u (call.ReadGicr vcpu off size) r = refl
leaves_same u (call.WriteGicr vcpu off size value) r = gicr_alike u vcpu.0 off size value
leaves_same u (call.Step its) r = step_leaves u its
leaves_same u call.Save r =
    ap (λ (a : Result (Unit {0}) SaveFault). untracked (save_left (untracked u) a)) (savable_alike u) ∙ saves_alike u (savable u)
leaves_same u call.Copy r = refl
leaves_same u (call.Dma req addr bytes (route.Signal its dev ev)) r = dones_alike u r
leaves_same u (call.Dma req addr bytes route.Poke) r = pokes_alike u addr.0 bytes (write_at u.memory addr.0 bytes)
leaves_same u (call.Dma req addr bytes route.NoRequester) r = dones_alike u r
leaves_same u (call.Dma req addr bytes route.Frame) r = dones_alike u r

-- a copy leaves all but the second memory, and no other call asks what that is
copy_leaves : (u : Plain) (c : Call) → is_copy c ≡ true → untracked (answer u c).1 ≡ untracked u
unfolding left
copy_leaves u call.Copy copy = refl
copy_leaves u (call.Signal its dev ev) copy = absurd cc
copy_leaves u (call.Take vcpu) copy = absurd cc
copy_leaves u (call.Show vcpu) copy = absurd cc
copy_leaves u (call.Best vcpu mask) copy = absurd cc
copy_leaves u (call.Claim vcpu intid) copy = absurd cc
copy_leaves u (call.Poke addr bytes) copy = absurd cc
copy_leaves u (call.Peek addr count) copy = absurd cc
copy_leaves u (call.ReadReg its off size) copy = absurd cc
copy_leaves u (call.WriteReg its off size value) copy = absurd cc
copy_leaves u (call.ReadGicr vcpu off size) copy = absurd cc
copy_leaves u (call.WriteGicr vcpu off size value) copy = absurd cc
copy_leaves u (call.Step its) copy = absurd cc
copy_leaves u call.Save copy = absurd cc
copy_leaves u (call.Dma req addr bytes to) copy = absurd cc

answers_same : (u w : Plain) (c : Call) → untracked u ≡ untracked w → is_copy c ≡ false → reply_of u c ≡ reply_of w c
answers_same u w c same other = sym (replies_same u c other) ∙ (ap (λ (x : Plain). reply_of x c) same ∙ replies_same w c other)

afters_same : (u w : Plain) (c : Call) → untracked u ≡ untracked w → is_copy c ≡ false → untracked (answer u c).1 ≡ untracked (answer w c).1
afters_same u w c same other =
    sym (leaves_same u c (reply_of u c)) ∙ (ap (λ (x : Plain). untracked (left x c (reply_of u c))) same
    ∙ (leaves_same w c (reply_of u c) ∙ ap (λ (r : Reply). untracked (left w c r)) (answers_same u w c same other)))

-- ---- histories

legal_but : (u w : Plain) (h : List Entry) → untracked u ≡ untracked w → IsLegal u h → IsLegal w (but_copies h)
legal_but u w [] same legal = tt
legal_but u w (e ∷ h) same legal =
    cond_both (is_copy e.call) (but_copies h) (e ∷ but_copies h) (λ (x : List Entry). IsLegal w x)
    (λ copy. legal_but (answer u e.call).1 w h (copy_leaves u e.call copy ∙ same) legal.1)
    (λ other. (legal.0 ∙ answers_same u w e.call same other, legal_but (answer u e.call).1 (answer w e.call).1 h (afters_same u w e.call same other) legal.1))

after_but : (u w : Plain) (h : List Entry) → untracked u ≡ untracked w → untracked (after u h) ≡ untracked (after w (but_copies h))
after_but u w [] same = same
after_but u w (e ∷ h) same =
    cond_both (is_copy e.call) (but_copies h) (e ∷ but_copies h) (λ (x : List Entry). untracked (after u (e ∷ h)) ≡ untracked (after w x))
    (λ copy. after_but (answer u e.call).1 w h (copy_leaves u e.call copy ∙ same))
    (λ other. after_but (answer u e.call).1 (answer w e.call).1 h (afters_same u w e.call same other))

pub nothing_else : CopiesChangeNothingElse
nothing_else u h legal = record { legal = legal_but u u h refl legal; state = after_but u u h refl }

-- ---- a migration after them

abbrev run : Plain → List Call → Plain
run u [] = u
run u (c ∷ cs) = run (answer u c).1 cs

after_run : (u : Plain) (h : List Entry) → after u h ≡ run u (calls_in h)
after_run u [] = refl
after_run u (e ∷ h) = after_run (answer u e.call).1 h

call_same : (u w : Plain) (c : Call) (b : Bool) → is_copy c ≡ b → untracked u ≡ untracked w → untracked (answer u c).1 ≡ untracked (answer w c).1
call_same u w c true copy same = copy_leaves u c copy ∙ (same ∙ sym (copy_leaves w c copy))
call_same u w c false other same = afters_same u w c same other

run_same : (u w : Plain) (cs : List Call) → untracked u ≡ untracked w → untracked (run u cs) ≡ untracked (run w cs)
run_same u w [] same = same
run_same u w (c ∷ cs) same = run_same (answer u c).1 (answer w c).1 cs (call_same u w c (is_copy c) refl same)

after_same : (u w : Plain) (h k : List Entry) → untracked u ≡ untracked w → calls_in (but_copies h) ≡ calls_in (but_copies k)
    → untracked (after u h) ≡ untracked (after w k)
after_same u w h k same calls =
    let bare : Plain → Plain = λ x. untracked x in
    after_but u u h refl ∙ (ap bare (after_run u (but_copies h)) ∙ (run_same u w (calls_in (but_copies h)) same
    ∙ (ap (λ (cs : List Call). untracked (run w cs)) calls ∙ (sym (ap bare (after_run w (but_copies k))) ∙ sym (after_but w w k refl)))))

module _ (m n : Machine) (r q : Pass) (did : DidAlike m n r q) where
  rest_same : untracked (resting m r) ≡ untracked (resting n q)
  rest_same = after_same (setup m).start (setup n).start (view r).seen (view q).seen did.start did.calls

  savable_same : savable (resting m r) ≡ savable (resting n q)
  savable_same = sym (same_savable (resting m r) None) ∙ (ap (λ (u : Plain). savable u) rest_same ∙ same_savable (resting n q) None)

  saved_same : saved (resting m r) ≡ saved (resting n q)
  saved_same = sym (same_saved (resting m r) None) ∙ (ap (λ (u : Plain). saved u) rest_same ∙ same_saved (resting n q) None)

  moved_same : moved (resting m r) ≡ moved (resting n q)
  moved_same = sym (same_moved (resting m r) None) ∙ (ap (λ (u : Plain). moved u) rest_same ∙ same_moved (resting n q) None)

  goes_on_as : (x : Machine × Pass × ℕ) (y : Machine × Pass) → Precopies m r (Ok x) → Migrates n q (Ok y) → GoesOnAs n q x y
  goes_on_as x y a b =
      let went = a.went in
      let same : setup x.0 ≡ setup y.0 = λ d. record {
        start = (went.start ∙ (moved_same ∙ sym b.start)) d;
        limits = (went.limits ∙ (did.limits ∙ sym b.limits)) d;
        shards = (went.shards ∙ (did.shards ∙ sym b.shards)) d;
      } in
      record {
        setup_is = same;
        desc = went.desc ∙ (did.desc ∙ sym b.desc);
        view_is = went.view ∙ (ap (λ (s : Setup). first_view s) same ∙ sym b.view);
        memory = a.memory ∙ saved_same;
      }

pub running_as_stopped : RunningAsStopped
running_as_stopped m n r q did = (savable_same m n r q did, goes_on_as m n r q did)
