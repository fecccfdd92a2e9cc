use Rattle.std.specs.String.{string_bytes}
use Rattle.its_explain.specs.Refusals.{collection_range_text}
use Rattle.its_explain.proofs.Texts.{joined, onto, pushed}
use Rattle.its_explain.proofs.ranges.push_collection_range.Goals as goal

pub returns : goal.returns
unfolding collection_range_text
returns c =
    onto c.push_str-2.result _ (string_bytes c.push_places_of.new.out) (string_bytes c.args.out.now) _ _
    (joined (string_bytes c.push_places_of.new.out) (string_bytes c.push_str.new.self) (string_bytes c.args.out.now) _ _
    (joined (string_bytes c.push_str.new.self) (string_bytes c.push_collection.new.out) (string_bytes c.args.out.now) _ _
    c.in_ok-push_collection.ensures
    c.in_ok-push_str.ensures.bytes)
    c.in_ok-push_places_of.ensures)
    (pushed c.push_str-2.result _ (string_bytes c.push_places_of.new.out) _ c.push_str-2.ensures.bytes)
