use Rattle.std.proofs.Common.{◌∙◌, sym}
use Rattle.its_fit.proofs.Sent.{number_is_text, number_is_parsed}
use Rattle.its_fit.proofs.targets.parsed.Goals as goal

pub returns-in-Err : goal.returns-in-Err
returns-in-Err c n lt e = absurd (c.in-Err.ensures.cases.0 (number_is_text n c.args.text.now lt e))

pub returns-in-Ok-parse : goal.returns-in-Ok-parse
returns-in-Ok-parse c n lt e =
    let is = number_is_parsed n c.in-Ok.digits.now c.parse.result lt (e ∙ sym c.in-Ok.ensures.cases.0) c.parse.ensures.value.0 in
    let same = c.in-Ok-parse.is in
    cc

pub returns-in-Err-parse : goal.returns-in-Err-parse
returns-in-Err-parse c n lt e =
    let is = number_is_parsed n c.in-Ok.digits.now c.parse.result lt (e ∙ sym c.in-Ok.ensures.cases.0) c.parse.ensures.value.0 in
    let same = c.in-Err-parse.is in
    cc
