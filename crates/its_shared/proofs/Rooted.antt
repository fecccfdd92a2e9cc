-- The root of a machine that begins with no more than may be.
use Rattle.std.proofs.Common.{◌≡◌, ap, ◌∙◌, false}
use Rattle.its_plain.specs.Plain.{Plain}
use Rattle.its_plain.specs.declared.desc.Desc.{Desc}
use Rattle.its_numbers.specs.Limits.{is_over}
use Rattle.its_numbers.specs.declared.limits.GuestLimits.{GuestLimits}
use Rattle.its_shared.specs.Knowing.{Known}
use Rattle.its_shared.specs.Making.{IsFirst, IsRootOf}

pub root_of : (d : Desc) (l : GuestLimits) (owned : Plain) (k : Known) → IsFirst d k → k.view.setup.start ≡ owned → k.limits ≡ l → is_over l owned ≡ false
    → IsRootOf d l k
root_of d l owned k first start limits within = record { first = first; within = ap (is_over l) start ∙ within; limits = limits }
