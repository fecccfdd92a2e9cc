use Rattle.std.proofs.Common.{rules, tests}
use Rattle.std.specs.Str.{bytes_eq}
use Rattle.std.proofs.lemmas.Iterator.{YieldsList-from_slice}
use Rattle.std.proofs.lemmas.Iterator.Search.{find_from_yields_List}
use Rattle.event_script.specs.Words.{keyword_text, KEYWORDS}
use Rattle.event_script.proofs.words.find_keyword.Goals as goal

pub returns : goal.returns
returns c =
    find_from_yields_List (λ k. bytes_eq (keyword_text k) c.args.word.now) _ _ _ c.find.ensures.ran (YieldsList-from_slice KEYWORDS cc)
    (λ x b q k. search (rules, tests))
