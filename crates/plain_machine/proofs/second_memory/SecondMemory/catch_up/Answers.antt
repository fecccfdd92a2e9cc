use Rattle.std.proofs.Common.{ℕ, ◌<◌, ◌^◌, List, length, get_or, sym, subst}
use Rattle.dirty_log.specs.declared.page.Page.{Page}
use Rattle.plain_machine.specs.Memories.{IsPaired}
use Rattle.plain_machine.proofs.Copying.{low_pages}
use Rattle.plain_machine.proofs.second_memory.SecondMemory.catch_up.Goals as goal

pub copy_dirty-requires-clause-low : goal.copy_dirty-requires-clause-low
copy_dirty-requires-clause-low c =
    let i = c.self.inside in
    subst (λ (ps : List Page). (k : ℕ) (d : Page) → k < length ps → (get_or ps k d).number < 2 ^ 40) (sym c.deref.ensures.value)
    (low_pages c.args.memory.now (record { copy = i.copy; log = i.pages.items }) c.inside-some.ensures.windows
    (subst (IsPaired c.args.memory.now) (sym c.self.view_is) c.requires))
