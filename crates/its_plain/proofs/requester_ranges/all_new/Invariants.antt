use Rattle.std.proofs.Common.{◌≡◌, List, [], drop, take}
use Rattle.std.specs.List.{list_any}
use Rattle.its_plain.specs.Machine.{all_new, meet}
use Rattle.its_plain.specs.declared.desc.Requesters.{Requesters}
use Rattle.its_plain.proofs.requester_ranges.all_new.Given as goal

abbrev pub invariant-loop-n : goal.invariant-loop-n
invariant-loop-n l = record {
  before : List Requesters;
  same : (r : Requesters) → list_any (meet r) before ≡ list_any (meet r) (take l.n l.lines);
  so_far : all_new before l.n (drop l.n l.lines) ≡ all_new [] 0 l.lines;
}
