use Rattle.std.proofs.Common.{◌≡◌, ◌==◌, map, filter, length}
use Rattle.std.specs.Prelude.{not}
use Rattle.event_script.proofs.text.split_fields.Given as goal

abbrev pub invariant-loop-field : goal.invariant-loop-field
invariant-loop-field l = map (λ f. f.now) l.fields.items ≡ filter (λ f. not (length f == 0)) (map (λ f. f.now) l.yielded)
