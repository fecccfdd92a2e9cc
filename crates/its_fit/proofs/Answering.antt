-- Whether a call is answered as it was.
use Rattle.std.proofs.Common.{◌≡◌, ℕ, Bool, true, false, List, [], ◌∷◌, ◌++◌, Option, Some, None, refl, sym, ap, subst, ◌∙◌, Decides}
use Rattle.its_plain.specs.Plain.{Plain}
use Rattle.its_plain.specs.Answer.{answer, left, reply_of}
use Rattle.its_plain.specs.Described.{IsFirstState}
use Rattle.its_plain.specs.Machine.{HasTablesFor}
use Rattle.its_plain.specs.Runs.{Phase}
use Rattle.its_plain.specs.declared.call.Call.{Call}
use Rattle.its_plain.specs.declared.call.Call.TheVariants as call
use Rattle.its_plain.specs.declared.call.Reply.{Reply}
use Rattle.its_plain.specs.declared.desc.Desc.{Desc}
use Rattle.its_plain.specs.declared.desc.LpiTables.{LpiTables}
use Rattle.its_plain.specs.declared.desc.LpiTables.TheVariants.{Described, Registers}
use Rattle.its_history.specs.Texts.{answered_text}
use Rattle.trace_check.specs.Differences.{pending_texts}
use Rattle.trace_check.specs.Steps.{IsOtherPending}
use Rattle.its_fit.specs.Replays.{call_at, told_at, left_by, played, made_at, shown, table_count, IsAfter, IsAnsweredSo, Goes, IsEnd}
use Rattle.its_fit.specs.declared.replay.Made.{Made}
use Rattle.its_fit.specs.declared.told.Answered.{Answered}
use Rattle.its_fit.specs.declared.told.Told.{Told}
use Rattle.its_fit.proofs.Played.{played_more}
use Rattle.its_fit.proofs.Lists.{head_is, tail_is, some_is, none_some}
use Rattle.its_fit.proofs.Once.{first_once}

-- ---- a description's tables

pub has_tables : (n : ℕ) (t : LpiTables) → table_count t ≡ n → HasTablesFor n t
has_tables n (Described config pending) e = e
has_tables n (Registers values) e = e

pub tables_counted : (n : ℕ) (t : LpiTables) → HasTablesFor n t → table_count t ≡ n
tables_counted n (Described config pending) e = e
tables_counted n (Registers values) e = e

-- ---- one call

false_true : {X : Type 0} → false ≡ true → X
false_true e = absurd (cc e)

pub no_call : (calls : Phase) (told : List (List Answered)) (u : Plain) (i k : ℕ) (o : Option Call) → o ≡ call_at calls i k → o ≡ None
    → Decides false (IsAnsweredSo calls told u i k)
no_call calls told u i k o is none = (λ e. false_true e, λ s. none_some s.call (call_at calls i k) (sym is ∙ none) s.is_call)

pub no_told : (calls : Phase) (told : List (List Answered)) (u : Plain) (i k : ℕ) → told_at told i k ≡ None → Decides false (IsAnsweredSo calls told u i k)
no_told calls told u i k none = (λ e. false_true e, λ s. none_some s.answered (told_at told i k) none s.is_told)

pub so_if : (calls : Phase) (told : List (List Answered)) (u : Plain) (i k : ℕ) (b : Bool) (call : Call) (a : Answered) → call_at calls i k ≡ Some call
    → told_at told i k ≡ Some a → Decides b (a.text ≡ answered_text call (answer u call).0) → Decides b (IsAnsweredSo calls told u i k)
so_if calls told u i k b call a is_call is_told d = (
  λ e. record { call = call; is_call = is_call; answered = a; is_told = is_told; so = d.0 e },
  λ s.
      let same_call : s.call ≡ call = some_is (sym s.is_call ∙ is_call) in
      let same_told : s.answered ≡ a = some_is (sym s.is_told ∙ is_told) in
      d.1 (ap (λ (x : Answered). x.text) (sym same_told) ∙ s.so ∙ ap (λ (c : Call). answered_text c (answer u c).0) same_call),
)

-- ---- after some calls

pub always_so : (d : Desc) (calls : Phase) (told : Told) (log : List Made) (u : Plain) (i k : ℕ) (b : Bool) → IsAfter d calls log u
    → Decides b (IsAnsweredSo calls told.threads u i k)
    → Decides b ((first : Plain) → IsFirstState d first → IsAnsweredSo calls told.threads (played calls first log) i k)
always_so d calls told log u i k b a is = (
  λ e v starts.
      subst (λ (x : Plain). IsAnsweredSo calls told.threads x i k) (a.state ∙ ap (λ (x : Plain). played calls x log) (first_once d a.first v a.starts starts)) (is.0 e),
  λ always. is.1 (subst (λ (x : Plain). IsAnsweredSo calls told.threads x i k) (sym a.state) (always a.first a.starts)),
)

pub one_after : (d : Desc) (calls : Phase) (told : Told) (log : List Made) (i k : ℕ) (more other : List Made) → more ≡ log ++ made_at i k ∷ []
    → Goes d calls told log i k other → other ≡ more
one_after d calls told log i k more other e g = g.is_more ∙ sym e

pub ends_after : (d : Desc) (calls : Phase) (told : Told) (log : List Made) (u : Plain) (b : Bool) → IsAfter d calls log u
    → Decides b (told.pending ≡ pending_texts u) → Decides b (IsEnd d calls told log)
ends_after d calls told log u b a is = (
  λ e v starts. is.0 e ∙ ap pending_texts (a.state ∙ ap (λ (x : Plain). played calls x log) (first_once d a.first v a.starts starts)),
  λ end. is.1 (end a.first a.starts ∙ ap pending_texts (sym a.state)),
)

pub after_more : (d : Desc) (calls : Phase) (log : List Made) (u v : Plain) (m : Made) → IsAfter d calls log u → v ≡ left_by u (call_at calls m.thread m.call)
    → IsAfter d calls (log ++ m ∷ []) v
after_more d calls log u v m a e = record {
  first = a.first;
  starts = a.starts;
  state = e ∙ ap (λ (x : Plain). left_by x (call_at calls m.thread m.call)) a.state ∙ sym (played_more calls a.first log m);
}

-- ---- calls that show what others are answered

shows : (u : Plain) (c s : Call) → shown c ≡ Some s → (reply_of u c ≡ reply_of u s) × ((answer u s).1 ≡ u)
unfolding reply_of left
shows u (call.Take vcpu) s e = subst (λ (x : Call). (reply_of u (call.Take vcpu) ≡ reply_of u x) × ((answer u x).1 ≡ u)) (some_is e) (refl, refl)
shows u (call.Show vcpu) s e = subst (λ (x : Call). (reply_of u (call.Show vcpu) ≡ reply_of u x) × ((answer u x).1 ≡ u)) (some_is e) (refl, refl)
shows u (call.Best vcpu mask) s e = subst (λ (x : Call). (reply_of u (call.Best vcpu mask) ≡ reply_of u x) × ((answer u x).1 ≡ u)) (some_is e) (refl, refl)
shows u (call.Peek addr count) s e = subst (λ (x : Call). (reply_of u (call.Peek addr count) ≡ reply_of u x) × ((answer u x).1 ≡ u)) (some_is e) (refl, refl)
shows u (call.ReadReg its off size) s e =
    subst (λ (x : Call). (reply_of u (call.ReadReg its off size) ≡ reply_of u x) × ((answer u x).1 ≡ u)) (some_is e) (refl, refl)
shows u (call.ReadGicr vcpu off size) s e =
    subst (λ (x : Call). (reply_of u (call.ReadGicr vcpu off size) ≡ reply_of u x) × ((answer u x).1 ≡ u)) (some_is e) (refl, refl)
shows u (call.Signal its dev ev) s e = absurd (cc e)
shows u (call.Claim vcpu intid) s e = absurd (cc e)
shows u (call.Poke addr bytes) s e = absurd (cc e)
shows u (call.WriteReg its off size value) s e = absurd (cc e)
shows u (call.WriteGicr vcpu off size value) s e = absurd (cc e)
shows u (call.Step its) s e = absurd (cc e)
shows u call.Save s e = absurd (cc e)
shows u call.Copy s e = absurd (cc e)
shows u (call.Dma req addr bytes to) s e = absurd (cc e)

pub shown_same : (u : Plain) (c s : Call) → shown c ≡ Some s → (answer u s).1 ≡ u
shown_same u c s e = (shows u c s e).1

pub shown_so : (calls : Phase) (told : List (List Answered)) (u : Plain) (i k : ℕ) (b : Bool) (c s : Call) (a : Answered) → call_at calls i k ≡ Some c
    → told_at told i k ≡ Some a → shown c ≡ Some s → Decides b (a.text ≡ answered_text c (answer u s).0) → Decides b (IsAnsweredSo calls told u i k)
shown_so calls told u i k b c s a is_call is_told is_shown d =
    so_if calls told u i k b c a is_call is_told
    (subst (λ (r : Reply). Decides b (a.text ≡ answered_text c r)) (sym (shows u c s is_shown).0) d)

-- ---- what is pending

behind : {A : Type 0} (front : List A) (a b : A) (xs ys : List A) → front ++ a ∷ xs ≡ front ++ b ∷ ys → a ≡ b
behind [] a b xs ys e = head_is e
behind (x ∷ front) a b xs ys e = behind front a b xs ys (tail_is e)

pub is_other : (u : Plain) (told : List (List ℕ)) (said is : List ℕ) → IsOtherPending u told said is → Decides false (told ≡ pending_texts u)
is_other u told said is o = (
  λ e. false_true e,
  λ e. absurd (o.differs (behind o.before o.said_text o.is_text o.said_later o.is_later (sym o.pending_said ∙ e ∙ o.pending_is))),
)
