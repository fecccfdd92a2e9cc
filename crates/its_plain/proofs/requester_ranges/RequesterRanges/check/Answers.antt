use Rattle.std.proofs.Common.{◌≡◌, true, is_some, Option, Some, None, Vec, Global, List, sym, ◌∙◌, subst, IfSome}
use Rattle.its_plain.specs.Apart.{AreApart}
use Rattle.its_plain.specs.Rising.{AreRisingOf}
use Rattle.its_plain.specs.declared.desc.Requesters.{Requesters}
use Rattle.its_plain.proofs.Rising.{apart}
use Rattle.its_plain.proofs.requester_ranges.RequesterRanges.check.Goals as goal

where_some : (lines : List Requesters) (o : Option (Vec Requesters Global)) → IfSome o (λ v. AreRisingOf lines v.items) → is_some o ≡ true → AreApart lines
where_some lines None h e = absurd cc
where_some lines (Some v) h e = apart lines v.items h

pub all_new-requires : goal.all_new-requires
all_new-requires c = λ e.
    let holds = where_some c.self.inside.lines.items c.self.inside.rising c.self.invariant (sym c.is_some.ensures ∙ e) in
    subst AreApart (sym c.deref.ensures.value) holds
