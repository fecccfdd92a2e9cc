use Rattle.std.proofs.Common.{rules, tests}
use Rattle.std.specs.Str.{bytes_eq}
use Rattle.std.proofs.lemmas.Iterator.{YieldsList-from_slice}
use Rattle.std.proofs.lemmas.Iterator.Search.{find_from_yields_List}
use Rattle.event_script.specs.Words.{call_text, CALL_WORDS}
use Rattle.event_script.proofs.words.find_call_word.Goals as goal

pub returns : goal.returns
returns c =
    find_from_yields_List (λ w. bytes_eq (call_text w) c.args.word.now) _ _ _ c.find.ensures.ran (YieldsList-from_slice CALL_WORDS cc)
    (λ x b q k. search (rules, tests))
