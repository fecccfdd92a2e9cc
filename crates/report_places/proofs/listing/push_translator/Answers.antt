use Rattle.std.proofs.Common.{◌≡◌, ◌++◌, Option, OnOk, sym, subst}
use Rattle.its_plain.specs.Plain.{Translator}
use Rattle.std.specs.String.{string_bytes}
use Rattle.report_places.specs.Lists.{if_there}
use Rattle.report_places.proofs.Lent.{lent_number}
use Rattle.report_places.proofs.listing.push_translator.Goals as goal

pub returns-in-Some : goal.returns-in-Some
returns-in-Some c =
    subst (λ (o : Option Translator). OnOk c.push_found.result (string_bytes c.push_found.new.out ≡ string_bytes c.args.out.now ++ if_there c.args.its o))
    (sym
    (lent_number c.args.parts.now c.in_place.result c.args.its c.translator.result c.in_place.ensures.state c.translator.ensures c.in-Some.translator
    c.in-Some.is)) c.push_found.ensures
