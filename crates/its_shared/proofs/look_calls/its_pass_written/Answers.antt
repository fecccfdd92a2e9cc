use Rattle.std.proofs.Common.{ap, sym, ◌∙◌}
use Rattle.its_shared.specs.Seeing.{ListsAll, written}
use Rattle.its_shared.specs.declared.pass.Pass.{Pass}
use Rattle.its_shared.proofs.Seen.{same_some, shows_of}
use Rattle.its_shared.proofs.Shown.{shows_list}
use Rattle.its_shared.proofs.look_calls.its_pass_written.Goals as goal

pub returns-clause-told : goal.returns-clause-told
returns-clause-told c k l before later =
    let old = c.lent.result.now in
    let now = c.written.new.self in
    shows_of _ _ old now k l _ _ _ _ _ (same_some old k (sym c.lent.ensures.value ∙ (ap (λ (p : Pass). p.known) c.is_empty.ensures.1 ∙ before)))
    (same_some now l later)
    (shows_list (Unit {0}) (λ u before after n. ListsAll (written u) before after n) old now c.written.result c.told.result c.args.place.now c.told.new.place c.args.list.now
    c.written.new.list c.args.count.now c.told.new.out c.written.ensures.seen c.written.ensures.only c.told.ensures.code c.told.ensures.place c.told.ensures.out)
