use Rattle.std.proofs.Common.{◌≡◌, ℕ, length, map, Some, get_or, ap, ◌∙◌, arith}
use Rattle.std.specs.Prelude.{slice_get}
use Rattle.std.specs.Option.{option_map}
use Rattle.std.proofs.lemmas.Option.{slice_get-get_or, slice_get-map}
use Rattle.guest_windows.specs.Fields.{pairs}
use Rattle.its_types.specs.declared.ids.Addr.{Addr}
use Rattle.its_numbers.specs.Lists.{stretch_out}
use Rattle.its_numbers.specs.declared.lists.StretchOut.{StretchOut}
use Rattle.its_numbers.proofs.ToldLists.{told_next, rest_next, length_next}
use Rattle.its_numbers.proofs.lists.put_tables.Goals as goal

pub loop-at-preserved : goal.loop-at-preserved
loop-at-preserved c =
    let xs = c.args.tables.now in let list = c.loop-at.list in let at = c.loop-at.at in
    let none : Addr × ℕ = (record { 0 = 0 }, 0) in
    let found : slice_get xs at ≡ Some (get_or xs at none) = slice_get-get_or xs at none c.loop-at-test.true in
    let told : StretchOut = record { address = (get_or xs at none).0.0; length = (get_or xs at none).1 } in
    let is : slice_get (map stretch_out (pairs xs)) at ≡ Some told =
    slice_get-map stretch_out (pairs xs) at
    ∙ ap (option_map stretch_out) (slice_get-map (λ w. (w.0.0, w.1)) xs at ∙ ap (option_map (λ (w : Addr × ℕ). (w.0.0, w.1))) found) in
    record {
      same_length = length_next list at told (length c.args.list.now) c.loop-at.invariant.same_length;
      low = omega (arith, c.loop-at-test.true);
      told = told_next list at told (map stretch_out (pairs xs)) c.if-at-list.true is c.loop-at.invariant.told;
      rest = rest_next list at told c.args.list.now c.loop-at.invariant.rest;
    }
