-- Which calls of a source or a sink in memory are to fail, and what happened so far.
use Rattle.std.specs.Prelude.{ℕ, ◌==◌, Bool, List}
use Rattle.std.specs.List.{list_any}
use Rattle.its_io.specs.Count.{one_more}

pub record Script : Type 0 where
  -- how many bytes a call moves at most
  pub most : ℕ
  -- the numbers of the calls that are to fail, counted from 1
  pub fail : List ℕ
  -- how many calls there were
  pub calls : ℕ
  pub faults : ℕ

-- whether the next call is to fail
abbrev pub refuses : Script → Bool
refuses s = list_any (λ number. number == one_more s.calls) s.fail

abbrev pub with_call : Script → Script
with_call s = record s { calls = one_more s.calls }

abbrev pub with_fault : Script → Script
with_fault s = record s { faults = one_more s.faults }
