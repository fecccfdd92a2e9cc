-- Areas of memory by their bases and their ends.
use Rattle.std.specs.Prelude.{◌+◌, ℕ, Bool, ◌&&◌, ◌||◌, nat_lt, if◌then◌else◌, List, map, filter, count_by}
use Rattle.std.specs.List.Sorted.{IsPermutation}
use Rattle.its_plain.specs.declared.area.Area.{Area}

-- the first address after an area
abbrev pub end_of : Area → ℕ
end_of a = a.base + a.size

-- the bases of some areas and their ends, each in rising order, and for how many there is room
pub record Edges : Type 0 where
  pub bases : List ℕ
  pub ends : List ℕ
  pub room : ℕ

pub record AreEdges (areas : List Area) (e : Edges) : Type 0 where
  pub bases : IsPermutation (map (λ a. a.base) areas) e.bases
  pub ends : IsPermutation (map end_of areas) e.ends

-- all areas, or those that a save writes
abbrev pub chosen : Bool → List Area → List Area
chosen all = filter (λ a. all || a.is_written)

-- two areas share a byte
abbrev pub meets : Area → Area → Bool
meets a b = nat_lt a.base (end_of b) && nat_lt b.base (end_of a)

-- how many of some areas share a byte with one
abbrev pub met : Area → List Area → ℕ
met a = count_by (meets a)

-- one of some areas shares a byte with another, and one of the two is written
abbrev pub meets_another : Area → List Area → Bool
meets_another a areas = nat_lt (if a.is_written then 1 else 0) (met a (chosen a.is_written areas))
