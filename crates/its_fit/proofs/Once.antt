-- A description that made a machine makes it again in the same state.
use Rattle.std.proofs.Common.{◌≡◌, Bool, true, false, List, Option, Result, Ok, sym, ap, subst, ◌∙◌}
use Rattle.gits_regs.specs.declared.values.RegValues.{RegValues}
use Rattle.its_types.specs.declared.translation.Bases.{Bases}
use Rattle.its_plain.specs.Described.{IsFirstState, StartsAt, is_restored, values_of, restored_bases, kept_of}
use Rattle.its_plain.specs.Machine.{made}
use Rattle.its_plain.specs.Plain.{Plain}
use Rattle.its_plain.specs.declared.desc.Desc.{Desc}
use Rattle.standing_states.proofs.Once.{stands_once}

same_ok : {A B : Type 0} (r : Result A B) (a b : A) → r ≡ Ok a → r ≡ Ok b → a ≡ b
same_ok {A = A} {B = B} r a b e f = let same : (let o : Result A B = Ok a in o) ≡ Ok b = sym e ∙ f in cc

starts_once : (restored : Bool) (values : List (Option RegValues)) (bases : List Bases) (base u v : Plain) → StartsAt restored values bases base u
    → StartsAt restored values bases base v → u ≡ v
starts_once false values bases base u v a b = a ∙ sym b
starts_once true values bases base u v a b = stands_once base.memory values base.layout bases u v a b

pub first_once : (d : Desc) (u v : Plain) → IsFirstState d u → IsFirstState d v → u ≡ v
first_once d u v a b =
    let same : a.base ≡ b.base = same_ok (made d) a.base b.base a.made_is b.made_is in
    let read : a.read ≡ b.read = starts_once (is_restored d) (values_of d) (restored_bases d) b.base a.read b.read
    (subst (λ (base : Plain). StartsAt (is_restored d) (values_of d) (restored_bases d) base a.read) same a.starts) b.starts in
    a.kept ∙ ap (kept_of d.from_kvm) read ∙ sym b.kept
