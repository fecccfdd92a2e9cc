-- How long what a read of guest memory gives is.
use Rattle.std.proofs.Common.{◌≡◌, ℕ, List, [], ◌∷◌, ◌++◌, length, Option, Some, None, Bool, true, false, refl, sym, subst, if◌then◌else◌}
use Rattle.guest_windows.proofs.Laws.{length-read_at}
use Rattle.guest_windows.specs.Windows.{read_at}
use Rattle.its_plain.specs.Answer.{answer, reply_of, peek_reply}
use Rattle.its_plain.specs.History.{after, IsLegal}
use Rattle.its_plain.specs.Plain.{Plain}
use Rattle.its_plain.specs.declared.call.Entry.{Entry}
use Rattle.its_plain.specs.declared.call.Reply.{Reply}
use Rattle.its_steps.specs.World.{View}
use Rattle.its_shared.specs.Answers.{Answers, HasCount, IsLong}
use Rattle.its_shared.specs.Asked as asked
use Rattle.its_shared.specs.declared.answer.Answer.{Answer}
use Rattle.its_shared.specs.declared.answer.Answer.TheVariants.{Made, Busy, Spent, NoMemory, Full}

pub last_legal : (u : Plain) (h : List Entry) (e : Entry) → IsLegal u (h ++ e ∷ []) → e.reply ≡ (answer (after u h) e.call).0
last_legal u [] e p = p.0
last_legal u (x ∷ h) e p = last_legal (answer u x.call).1 h e p.1

peek_long : (n : ℕ) (o : Option (List ℕ)) → ((bs : List ℕ) → o ≡ Some bs → length bs ≡ n) → IsLong n (peek_reply o)
peek_long n None h = tt
peek_long n (Some bs) h = h bs refl

if_long : (b : Bool) (n : ℕ) (o : Option (List ℕ)) → ((bs : List ℕ) → o ≡ Some bs → length bs ≡ n) → IsLong n (peek_reply (if b then o else None))
if_long true n o h = peek_long n o h
if_long false n o h = tt

read_long : (u : Plain) (address n : ℕ) → IsLong n (reply_of u (asked.read_memory address n))
unfolding reply_of
read_long u address n = if_long _ n (read_at u.memory address n) (λ bs e. length-read_at u.memory address n bs e)

pub is_long : (address n : ℕ) (v w : View) (a : Answer Reply) → Answers (asked.read_memory address n) (λ r. r) v w a → HasCount n a
is_long address n v w (Made p) t =
    let legal = subst (λ (h : List Entry). IsLegal v.setup.start h) t.seen t.legal in
    let e : Entry = record { pass = v.number; call = asked.read_memory address n; reply = p.reply } in
    subst (λ (r : Reply). IsLong n r) (sym (last_legal v.setup.start (v.seen ++ t.between) e legal))
    (read_long (after v.setup.start (v.seen ++ t.between)) address n)
is_long address n v w Busy t = tt
is_long address n v w Spent t = tt
is_long address n v w NoMemory t = tt
is_long address n v w Full t = tt
