use Rattle.std.proofs.Common.{◌≡◌, ◌<◌, ℕ, length, get_or, Option, Some, IsSome, unwrap_or, rules, tests, refl, sym, ap, ◌∙◌, subst}
use Rattle.std.specs.List.{position_or_len}
use Rattle.std.proofs.lemmas.Iterator.{YieldsList-from_slice}
use Rattle.std.proofs.lemmas.Iterator.Search.{position_from_yields_List}
use Rattle.its_maps.proofs.Tallied.{is_of, found_first, first_place, first_is}
use Rattle.its_maps.proofs.tally.place.Goals as goal

pub unwrap-requires : goal.unwrap-requires
unwrap-requires c =
    let found = position_from_yields_List (is_of c.args.icid.0) _ _ c.position.result c.position.ensures.ran (YieldsList-from_slice c.args.icids.now cc)
    (λ x b q k. search (rules, tests)) in
    subst IsSome (sym (found_first c.args.icid.0 c.args.icids.now c.requires c.position.result found)) refl

pub returns : goal.returns
returns c =
    let found = position_from_yields_List (is_of c.args.icid.0) _ _ c.position.result c.position.ensures.ran (YieldsList-from_slice c.args.icids.now cc)
    (λ x b q k. search (rules, tests)) in
    let is : c.position.result ≡ Some (position_or_len (is_of c.args.icid.0) c.args.icids.now) =
    found_first c.args.icid.0 c.args.icids.now c.requires c.position.result found in
    let here = ap (λ (o : Option ℕ). unwrap_or o 0) (sym is ∙ c.unwrap.ensures) in
    record {
      there = subst (λ (n : ℕ). n < length c.args.icids.now) here (first_place c.args.icid.0 c.args.icids.now c.requires);
      icid = λ d. subst (λ (n : ℕ). (get_or c.args.icids.now n d).0 ≡ c.args.icid.0) here (first_is c.args.icid.0 c.args.icids.now c.requires d);
    }
