-- Which numbers a list has.
use Rattle.std.specs.Prelude.{ℕ, ◌/◌, Bool, ◌==◌, ◌&&◌, List}
use Rattle.std.specs.List.{list_any}
use Rattle.dirty_log.specs.declared.page.Page.{Page}

abbrev pub is_in : ℕ → List ℕ → Bool
is_in n ns = list_any (λ k. k == n) ns

-- an address lies in this page, which is dirty
abbrev pub is_of_dirty : Page → ℕ → Bool
is_of_dirty p address = p.number == address / 4096 && p.dirty
