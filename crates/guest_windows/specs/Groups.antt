-- The chunks of one group.
use Rattle.std.specs.Prelude.{◌≡◌, ℕ, List, [], length, map, slice_index_or}
use Rattle.guest_windows.specs.Chunks.{page_rows}
use Rattle.guest_windows.specs.declared.chunk.Chunk.{Chunk}

abbrev pub group_rows : List Chunk → List (List (List ℕ))
group_rows chunks = map (λ c. page_rows c.pages.items) chunks

-- one that is held, of chunks that aren't
abbrev pub IsBlankGroup : List (List (List ℕ)) → Type 0
IsBlankGroup group = (length group ≡ 1024) × ((k : ℕ) → slice_index_or group k [] ≡ [])
