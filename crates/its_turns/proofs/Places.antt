-- Empty places for redistributors.
use Rattle.std.proofs.Common.{◌≡◌, ℕ, zero, suc, replicate, Option, None, get_or, refl, sym, subst}
use lib.ListN.{length-replicate}
use Rattle.lpi_config.specs.Conf.{Conf}
use Rattle.lpi_pending.specs.InHand.{RedistParts, AreEmpty, no_redists}
use Rattle.lpi_pending.specs.Pend.{Pend}

none_at : {T : Type 0} (n k : ℕ) → get_or {A = Option T} (replicate n None) k None ≡ None
none_at zero k = refl
none_at (suc n) zero = refl
none_at (suc n) (suc k) = none_at n k

pub all_empty : (n : ℕ) (r : RedistParts) → r ≡ no_redists n → AreEmpty n r
all_empty n r e = subst (AreEmpty n) (sym e) record {
  confs = none_at n;
  pends = none_at n;
  conf_room = length-replicate {A = Option Conf} n None;
  pend_room = length-replicate {A = Option Pend} n None;
}
