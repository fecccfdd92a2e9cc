-- A machine is refused or has one first state, and what was read is what a source tells.
use Rattle.std.proofs.Common.{◌≡◌, ℕ, ◌<◌, Bool, true, false, List, length, Option, Some, Result, Ok, Err, sym, ap, subst, ◌∙◌, arith}
use Rattle.gits_regs.specs.declared.values.RegValues.{RegValues}
use Rattle.its_types.specs.declared.translation.Bases.{Bases}
use Rattle.its_plain.specs.Described.{IsFirstState, IsRefused, StartsAt, is_restored, values_of, restored_bases, kept_of}
use Rattle.its_plain.specs.Machine.{made}
use Rattle.its_plain.specs.Plain.{Plain}
use Rattle.its_plain.specs.declared.desc.Desc.{Desc}
use Rattle.its_plain.specs.declared.desc.DescFault.{DescFault}
use Rattle.standing_states.proofs.Offences.{stands_without}
use Rattle.standing_states.proofs.Once.{stands_once}
use Rattle.its_answers.specs.Streams.{WasRead}

pub same_ok : {A B : Type 0} (r : Result A B) (a b : A) → r ≡ Ok a → r ≡ Ok b → a ≡ b
same_ok {A = A} {B = B} r a b e f = let same : (let o : Result A B = Ok a in o) ≡ Ok b = sym e ∙ f in cc

pub not_both : {A B X : Type 0} (r : Result A B) (a : A) (b : B) → r ≡ Ok a → r ≡ Err b → X
not_both {A = A} {B = B} r a b e f = let clash : (let o : Result A B = Ok a in o) ≡ Err b = sym e ∙ f in absurd cc

starts_once : (restored : Bool) (values : List (Option RegValues)) (bases : List Bases) (base u v : Plain) → StartsAt restored values bases base u
    → StartsAt restored values bases base v → u ≡ v
starts_once false values bases base u v a b = a ∙ sym b
starts_once true values bases base u v a b = stands_once base.memory values base.layout bases u v a b

pub first_once : (d : Desc) (u v : Plain) → IsFirstState d u → IsFirstState d v → u ≡ v
first_once d u v a b =
    let same : a.base ≡ b.base = same_ok (made d) a.base b.base a.made_is b.made_is in
    let read : a.read ≡ b.read = starts_once (is_restored d) (values_of d) (restored_bases d) b.base a.read b.read
    (subst (λ (base : Plain). StartsAt (is_restored d) (values_of d) (restored_bases d) base a.read) same a.starts) b.starts in
    a.kept ∙ ap (kept_of d.from_kvm) read ∙ sym b.kept

pub made_once : {X : Type 0} (d : Desc) (u : Plain) (f : DescFault) → IsFirstState d u → IsRefused d f → X
made_once d u f is (IsRefused.of_description g none) = not_both (made d) is.base g is.made_is none
made_once d u f is (IsRefused.of_restore base i g base_is restore_is offends) =
    let same : is.base ≡ base = same_ok (made d) is.base base is.made_is base_is in
    let bases = restored_bases d in
    let values = values_of d in
    let read = is.read in
    let starts : StartsAt (is_restored d) values bases base read = subst (λ (b : Plain). StartsAt (is_restored d) values bases b read) same is.starts in
    absurd (stands_without base.memory values base.layout bases read i g (subst (λ (b : Bool). StartsAt b values bases base read) restore_is starts) offends)

pub too_short : {X : Type 0} (input read : List ℕ) → WasRead (Some input) read → 16777216 < length input → X
too_short input read was lt = absurd (omega (arith, was.short, ap length was.whole, lt))
