-- What is left of the stretches of configuration tables, as one virtual processor after another is passed.
use Rattle.std.proofs.Common.{◌≡◌, ℕ, suc, ◌+◌, ◌-◌, ◌<◌, ◌≤◌, Bool, true, false, cond, [], ◌∷◌, ◌++◌, Option, Some, ap, ◌∙◌, arith}
use Rattle.std.specs.List.{flat_map, range_with_len}
use Rattle.lpi_config.specs.Conf.{Conf}
use Rattle.lpi_pending.specs.InHand.{RedistParts, conf_in}
use Rattle.step_views.specs.ConfigReads.{stretch_in, read_at, left_of}
use Rattle.step_views.specs.Firsts.{is_first}

module _ (redists : RedistParts) (offset len next end : ℕ) where
  left_next : next < end → left_of redists offset len next end ≡ read_at redists offset len next ++ left_of redists offset len (next + 1) end
  left_next below =
      let one : end - next ≡ suc (end - (next + 1)) = omega (arith, below) in
      ap (λ (n : ℕ). flat_map (read_at redists offset len) (range_with_len next n)) one

  pub passed : next < end → is_first redists next ≡ false → left_of redists offset len next end ≡ left_of redists offset len (next + 1) end
  passed below not_first =
      left_next below
      ∙ ap (λ (b : Bool). cond b (stretch_in offset len (conf_in redists next)) [] ++ left_of redists offset len (next + 1) end) not_first

  pub given : (c : Conf) → next < end → is_first redists next ≡ true → conf_in redists next ≡ Some c
      → left_of redists offset len next end ≡ (c.bases.prop.table.0 + offset, len) ∷ left_of redists offset len (next + 1) end
  given c below first is =
      left_next below
      ∙ ap (λ (b : Bool). cond b (stretch_in offset len (conf_in redists next)) [] ++ left_of redists offset len (next + 1) end) first
      ∙ ap (λ (o : Option Conf). stretch_in offset len o ++ left_of redists offset len (next + 1) end) is

  pub none_left : end ≤ next → left_of redists offset len next end ≡ []
  none_left past =
      let none : end - next ≡ 0 = omega (arith, past) in ap (λ (n : ℕ). flat_map (read_at redists offset len) (range_with_len next n)) none
