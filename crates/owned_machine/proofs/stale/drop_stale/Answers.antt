use Rattle.std.proofs.Common.{◌<◌, sym, ◌∙◌, arith}
use Rattle.std.proofs.lemmas.Option.{same_Some}
use Rattle.owned_machine.specs.Stale.{led_in, set_by}
use Rattle.owned_machine.proofs.Kept.{pend_there}
use Rattle.owned_machine.proofs.Unstale.{set_fits, unstale}
use Rattle.owned_machine.proofs.stale.drop_stale.Goals as goal

pub put_sets-requires-clause-held : goal.put_sets-requires-clause-held
put_sets-requires-clause-held c =
    λ v lt. pend_there c.args.parts.now v c.requires (let many = c.in_ok-sets.ensures.as_many in omega (arith, lt, many))

pub put_sets-requires-clause-fit : goal.put_sets-requires-clause-fit
put_sets-requires-clause-fit c =
    λ v set lt is.
    let p = c.args.parts.now in
    let sets = c.in_ok-sets.ensures in
    let below : v < p.layout.shape.vcpus = let many = sets.as_many in omega (arith, lt, many) in
    let by = set_by p (led_in p) v in
    set_fits p (led_in p) v set c.requires below (same_Some set by (sym is ∙ sets.each v below))

pub returns : goal.returns
returns c = unstale c.args.parts.now c.put_sets.new.redists c.in_ok-sets.sets.items c.requires c.in_ok-sets.ensures c.put_sets.ensures
