-- The order of pairs of a device and an event: total, and equal only at equal pairs.
use Rattle.std.proofs.Common.{◌≡◌, ℕ, ◌&&◌, eqb, sym, ap, ◌∙◌}
use Rattle.std.specs.Ordering.{nat_cmp, eq_by_cmp}
use Rattle.std.specs.Cmp.{IsTotalOrder, nat_cmp_total, on_total, then_total, unsigned_tied, tied_then}
use Rattle.std.specs.FinMap.{IsAntisymmetric}
use Rattle.std.proofs.lemmas.Map.Lookups.{exact_pairs, exact_unsigned}
use Rattle.its_types.specs.Maps.{pair_cmp}

pub pair_total : IsTotalOrder pair_cmp
pair_total = then_total (on_total (λ (p : ℕ × ℕ). p.0) nat_cmp_total) (on_total (λ (p : ℕ × ℕ). p.1) nat_cmp_total)

pub pair_same : IsAntisymmetric pair_cmp
pair_same = exact_pairs nat_cmp nat_cmp exact_unsigned exact_unsigned

pub pair_tied : (a b : ℕ × ℕ) → eq_by_cmp pair_cmp a b ≡ (eqb a.0 b.0 && eqb a.1 b.1)
pair_tied a b = sym (tied_then (nat_cmp a.0 b.0) (nat_cmp a.1 b.1)) ∙ ap (λ t. t && eq_by_cmp nat_cmp a.1 b.1) (unsigned_tied a.0 b.0)
    ∙ ap (λ t. eqb a.0 b.0 && t) (unsigned_tied a.1 b.1)
