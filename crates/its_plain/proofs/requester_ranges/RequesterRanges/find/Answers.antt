use Rattle.std.proofs.Common.{find, ap, ◌∙◌, subst, IfSome}
use Rattle.its_plain.specs.Doorbells.{is_among}
use Rattle.its_plain.specs.Rising.{AreRisingOf}
use Rattle.its_plain.proofs.Rising.{finds}
use Rattle.its_plain.proofs.requester_ranges.RequesterRanges.find.Goals as goal

pub returns-in-Some : goal.returns-in-Some
returns-in-Some c =
    let of : AreRisingOf c.self.inside.lines.items c.in-Some.rising.items =
    subst (λ o. IfSome o (λ v. AreRisingOf c.self.inside.lines.items v.items)) c.in-Some.is c.self.invariant in
    c.found_rising.ensures ∙ ap (find (is_among c.args.requester)) c.deref.ensures.value
    ∙ finds c.self.inside.lines.items c.in-Some.rising.items of c.args.requester
    ∙ ap (find (is_among c.args.requester)) c.self.view_is
