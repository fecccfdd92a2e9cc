use Rattle.std.proofs.Common.{◌≡◌, [], map, refl, ap, ◌∙◌}
use Rattle.guest_windows.specs.Drafts.{laid, laid_of, own_by}
use Rattle.guest_windows.proofs.Drafting.{bare}
use Rattle.guest_windows.proofs.draft.Draft.new.Goals as goal

pub returns : goal.returns
returns c memory =
    let none : c.new.result.items ≡ [] = cc in
    ap (λ cs. laid (map laid_of cs) memory) none ∙ bare (own_by []) (λ k q. refl) 0 memory
