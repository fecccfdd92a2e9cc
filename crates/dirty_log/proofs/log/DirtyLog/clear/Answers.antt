use Rattle.std.proofs.Common.{◌≡◌, Bool, false, List, length, get_or, ap, ◌∙◌, arith}
use Rattle.std.proofs.lemmas.List.{length-replicate, get_or-replicate}
use Rattle.dirty_log.specs.Pages.{set_all}
use Rattle.dirty_log.specs.Stretches.{numbers}
use Rattle.dirty_log.proofs.Paged.{set_is}
use Rattle.dirty_log.proofs.log.DirtyLog.clear.Goals as goal

pub returns : goal.returns
returns c =
    let i = c.self.inside in
    let ns = numbers c.self.inside.stretches.items in
    let size = c.self.invariant.size in
    let long : length c.clear.new.self ≡ length ns = ap length c.clear.ensures ∙ length-replicate (length i.marks) false ∙ size in
    set_is false ns i.marks c.clear.new.self size long (λ k lt. ap (λ (bs : List Bool). get_or bs k false) c.clear.ensures
    ∙ get_or-replicate (length i.marks) k false false (omega (arith, lt, size)))
    ∙ ap (set_all false) c.self.view_is
