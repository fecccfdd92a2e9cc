use Rattle.std.proofs.Common.{◌≡◌, ◌<◌, List, length, map, Some, ap, ◌∙◌, subst, arith}
use Rattle.std.specs.Prelude.{slice_get}
use Rattle.std.specs.Option.{option_map}
use Rattle.std.proofs.lemmas.Option.{slice_get-map}
use Rattle.its_numbers.specs.Lists.{stretch_out}
use Rattle.step_views.specs.Pairs.{pair_of}
use Rattle.its_numbers.specs.declared.lists.StretchOut.{StretchOut}
use Rattle.its_numbers.proofs.ToldLists.{told_so_far, rest_next, length_next, next_left}
use Rattle.its_c.proofs.stretches.put_needs.Goals as goal

pub loop-stretch-preserved : goal.loop-stretch-preserved
loop-stretch-preserved c =
    let xs = c.args.needs in
    let list = c.loop-stretch.list in
    let at = c.loop-stretch.at in
    let v = c.loop-stretch.invariant in
    let now = c.put.new.list in
    let pair = pair_of c.in-Some.stretch in
    let rest = c.next.new.self in
    let next = next_left rest pair xs at (v.left ∙ c.in-Some.ensures.steps) in
    let one = ap length c.in-Some.ensures.steps in
    let is : slice_get (map stretch_out xs) at ≡ Some (stretch_out pair) = slice_get-map stretch_out xs at ∙ ap (option_map stretch_out) next.0 in
    let told = told_so_far list at (stretch_out pair) (map stretch_out xs) is v.told in
    let stays = rest_next list at (stretch_out pair) c.args.list.now v.rest in
    record {
      can_next = tt;
      is_finite = tt;
      left = next.1;
      count = omega (arith, one, v.count);
      same_length = ap length c.put.ensures ∙ length_next list at (stretch_out pair) (length c.args.list.now) v.same_length;
      told = λ i below within. ap (λ (l : List StretchOut). slice_get l i) c.put.ensures
          ∙ told i below (subst (λ (l : List StretchOut). i < length l) c.put.ensures within);
      rest = λ i past. ap (λ (l : List StretchOut). slice_get l i) c.put.ensures ∙ stays i past;
    }
