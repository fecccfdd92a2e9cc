-- Texts that are added, of which some may be any words.
use Rattle.std.proofs.Common.{◌≡◌, ℕ, Bool, true, false, List, ◌++◌, Option, Some, None, Result, Ok, Err, OnOk, subst, ap, ◌∙◌}
use Rattle.its_plain.specs.Answer.{left, reply_of}
use Rattle.its_plain.specs.Plain.{Plain}
use Rattle.its_plain.specs.declared.call.Call.{Call}
use Rattle.its_plain.specs.declared.call.Reply.{Reply}
use Rattle.its_explain.specs.Chosen.{Adds, behind, unless, said_of_line, told_fact, told_text}
use Rattle.its_explain.specs.Looks.{fact_of, look_of}
use Rattle.its_explain.specs.Steps.{after, taken_for}
use Rattle.its_explain.specs.declared.book.Book.{Book}
use Rattle.its_explain.specs.declared.facts.Fact.{Fact}
use Rattle.its_explain.specs.declared.facts.Taken.{Taken}
use Rattle.its_explain.specs.declared.looks.Look.{Look}
use Rattle.its_explain.proofs.Texts.{onto}

-- nothing is said of what is added
pub any_words : {E : Type 0} (r : Result (Unit {0}) E) → OnOk r (Unit {0})
any_words (Ok x) = tt
any_words (Err e) = tt

-- it is added behind what was added before it
pub added_behind : {E : Type 0} (r : Result (Unit {0}) E) (text : Option (List ℕ)) (n b a x : List ℕ) → b ≡ a ++ x → OnOk r (Adds text b n)
    → OnOk r (Adds (behind x text) a n)
added_behind r None n b a x e h = any_words r
added_behind r (Some y) n b a x e h = onto r n b a x y e h

-- where any words may be
pub added_unless : {E : Type 0} (r : Result (Unit {0}) E) (free : Bool) (text : Option (List ℕ)) (n a x : List ℕ) → OnOk r (Adds (behind x text) a n)
    → OnOk r (Adds (behind x (unless free text)) a n)
added_unless r true text n a x h = any_words r
added_unless r false text n a x h = h

pub added_free : {E : Type 0} (r : Result (Unit {0}) E) (free : Bool) (text : Option (List ℕ)) (n a x : List ℕ) → free ≡ true
    → OnOk r (Adds (behind x (unless free text)) a n)
added_free r true text n a x e = any_words r
added_free r false text n a x e = absurd cc

-- what is said of a call by its reply, its command, its fact and the state after it
pub told_as : (b : Book) (u v : Plain) (f : Fact) (t : Option Taken) (c : Call) (line : ℕ) (r : Reply) (n a : List ℕ) → v ≡ after u c → f ≡ told_fact u c
    → t ≡ taken_for u c → r ≡ reply_of u c → Adds (said_of_line b v f t c line r) a n → Adds (told_text b u c line) a n
told_as b u v f t c line r n a state fact taken reply =
    subst (λ (x : Option (List ℕ)). Adds x a n) (λ i. said_of_line b (state i) (fact i) (taken i) c line (reply i))

-- the machine is looked at, makes the call, and is asked what came of it
pub told_by : (b : Book) (u seen next v : Plain) (l : Look) (f : Fact) (t asked : Option Taken) (c : Call) (line : ℕ) (r : Reply) (n a : List ℕ) → seen ≡ u
    → l ≡ look_of u asked c → asked ≡ t → t ≡ taken_for u c → r ≡ reply_of seen c → next ≡ left seen c r → v ≡ next → f ≡ fact_of next l
    → Adds (said_of_line b v f t c line r) a n → Adds (told_text b u c line) a n
told_by b u seen next v l f t asked c line r n a same looked is taken answered left_is kept made_of =
    let reply : r ≡ reply_of u c = answered ∙ ap (λ (x : Plain). reply_of x c) same in
    let state : next ≡ after u c = left_is ∙ (λ i. left (same i) c (reply i)) in
    let look : l ≡ look_of u (taken_for u c) c = looked ∙ ap (λ (x : Option Taken). look_of u x c) (is ∙ taken) in
    told_as b u v f t c line r n a (kept ∙ state) (made_of ∙ (λ i. fact_of (state i) (look i))) taken reply
