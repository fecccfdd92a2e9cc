-- A redistributor's parts, put into a state: each is there, and the other is what it was.
use Rattle.std.proofs.Common.{◌≡◌, ℕ, ◌<◌, List, ◌∷◌, length, ap, ◌∙◌, inl, inr, arith, length-set, get_or-set_same}
use Rattle.its_types.specs.declared.ids.Vcpu.{Vcpu}
use Rattle.its_types.specs.declared.machine.Part.TheVariants as part
use Rattle.its_plain.specs.Plain.{Plain, Redistributor, ConfState, PendState, conf_of, pend_of, with_conf, with_pend, joined, redistributor, no_redistributor}
use Rattle.its_plain.specs.Plain.{with_redistributor}
use Rattle.its_steps.specs.Calls.{redistributor_held}
use Rattle.its_steps.specs.Contents.{Conf, Pend, Held}
use Rattle.its_steps.specs.Good.{Holds, Apart}
use Rattle.its_steps.specs.Renewal.{with_part}
use Rattle.its_steps.specs.World.{out}

pub put_conf : (u : Plain) (v : ℕ) (c : ConfState) → v < length u.redistributors
    → conf_of (redistributor (with_redistributor u v (with_conf c (redistributor u v))) v) ≡ c
put_conf u v c inside = ap (λ (r : Redistributor). conf_of r) (get_or-set_same u.redistributors v (with_conf c (redistributor u v)) no_redistributor inside)

pub put_pend : (u : Plain) (v : ℕ) (p : PendState) → v < length u.redistributors
    → pend_of (redistributor (with_redistributor u v (with_pend p (redistributor u v))) v) ≡ p
put_pend u v p inside = ap (λ (r : Redistributor). pend_of r) (get_or-set_same u.redistributors v (with_pend p (redistributor u v)) no_redistributor inside)

-- ---- both

module _ (u : Plain) (vcpu : Vcpu) (inside : vcpu.0 < length u.redistributors) (c : ConfState) (p : PendState) where
  abbrev v : ℕ
  v = vcpu.0

  abbrev one : Plain
  one = with_part (part.Conf vcpu) (Conf c) u

  abbrev both : Plain
  both = with_part (part.Pend vcpu) (Pend p) one

  one_long : length one.redistributors ≡ length u.redistributors
  one_long = length-set u.redistributors v (with_conf c (redistributor u v))

  pub both_long : length both.redistributors ≡ length u.redistributors
  both_long = length-set one.redistributors v (with_pend p (redistributor one v)) ∙ one_long

  pub has_both : redistributor both v ≡ joined c p
  has_both =
      get_or-set_same one.redistributors v (with_pend p (redistributor one v)) no_redistributor (omega (arith, inside, one_long))
      ∙ ap (with_pend p) (get_or-set_same u.redistributors v (with_conf c (redistributor u v)) no_redistributor inside)

-- the two are apart from other parts, and from each other
pub both_apart : (vcpu : Vcpu) (c : ConfState) (p : PendState) (rest : List Held) → ¬ Holds (part.Pend vcpu) rest → ¬ Holds (part.Conf vcpu) rest → Apart rest
    → Apart (redistributor_held vcpu c p rest)
both_apart vcpu c p rest no_pend no_conf apart = ((λ h. neither h), (no_conf, apart))
  where
    neither : Holds (part.Pend vcpu) (out (part.Conf vcpu) (Conf c) ∷ rest) → ⊥
    neither (inl e) = cc
    neither (inr h) = no_pend h
