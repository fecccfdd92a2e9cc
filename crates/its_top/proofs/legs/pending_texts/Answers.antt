use Rattle.std.proofs.Common.{◌≡◌, map, take, List, ℕ, ap, ◌∙◌}
use Rattle.std.proofs.lemmas.List.{take_all}
use Rattle.its_types.specs.declared.ids.Intid.{Intid}
use Rattle.its_history.specs.Report as report
use Rattle.its_top.proofs.Playing.{still_rests, texts_of}
use Rattle.its_top.proofs.legs.pending_texts.Goals as goal

pub returns-clause-rests : goal.returns-clause-rests
returns-clause-rests c = still_rests c.args.machine.now c.args.root.now c.pending.new.root c.requires.rests c.pending.ensures.of c.pending.ensures.rests

pub returns-clause-texts : goal.returns-clause-texts
returns-clause-texts c =
    let items : List (List Intid) = c.as_slice-lpis-items.result.now in
    let told : List Intid → List ℕ = λ lpis. report.pending_text (map (λ i. i.0) lpis) in
    let whole : take c.loop-lpis.lpis-index items ≡ items = take_all c.loop-lpis.lpis-index items c.loop-lpis-test.false in
    c.loop-lpis.invariant ∙ ap (map told) whole ∙ texts_of report.pending_text items
    ∙ ap (λ (ls : List (List Intid)). map report.pending_text (map (map (λ i. i.0)) ls)) c.as_slice-lpis-items.ensures
    ∙ ap (map report.pending_text) c.in_ok-lists.ensures.lists
