use Rattle.std.proofs.Common.{◌≡◌, ◌+◌, ◌-◌, drop}
use Rattle.its_history.specs.Reading.{left, lines_left, parts, legs_from}
use Rattle.its_history.proofs.ReadLegs.{in_front}
use Rattle.its_history.proofs.reading.parse_trace.Given as goal

abbrev pub invariant-loop-earlier : goal.invariant-loop-earlier
invariant-loop-earlier l =
    legs_from l.vcpus 1 l.legs l.copies (lines_left 1 (parts l.report))
    ≡ in_front l.read (legs_from l.vcpus (l.earlier + 1) (l.legs - l.earlier) (drop l.earlier l.copies) (left l.lines))
