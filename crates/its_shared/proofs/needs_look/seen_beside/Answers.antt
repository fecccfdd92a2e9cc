use Rattle.std.proofs.Common.{List, ap, sym, ◌∙◌}
use Rattle.its_plain.specs.History.{after}
use Rattle.its_plain.specs.declared.call.Entry.{Entry}
use Rattle.its_steps.specs.World.{View}
use Rattle.its_turns.specs.Machines.{setup, view}
use Rattle.its_turns.proofs.Telling.{looked_held}
use Rattle.its_shared.specs.Besides.{stretches}
use Rattle.its_shared.proofs.Beside.{have_now, reads_now, saw_beside}
use Rattle.its_shared.proofs.needs_look.seen_beside.Goals as goal

pub needed-told-requires-clause-there : goal.needed-told-requires-clause-there
needed-told-requires-clause-there c =
    let s = setup c.args.machine.now in
    let r = c.in-Ok.ensures.result in
    have_now s (view c.args.pass.now) (view c.once_confs.new.pass) (view c.look-word.new.pass) c.configs_read-set.result c.once_confs.new.redists
    c.requires.of.1 r.0 r.1 r.2 c.look-word.result c.look-word.ensures.looks c.args.shape c.args.reads.besides c.requires.shape c.configs_read-set.ensures

pub returns-in-Ok-told-clause-seen : goal.returns-in-Ok-told-clause-seen
returns-in-Ok-told-clause-seen c =
    let s = setup c.args.machine.now in
    let v = view c.args.pass.now in
    let w = view c.once_confs.new.pass in
    let x = view c.look-word.new.pass in
    let z = view c.put_confs.new.pass in
    let set = c.configs_read-set.result in
    let rs = c.once_confs.new.redists in
    let r = c.in-Ok.ensures.result in
    let looks = c.look-word.ensures.looks in
    let home = c.put_confs.ensures.home v.held (looked_held w x c.look-word.result looks ∙ r.1) in
    let reads = reads_now s v w x set rs c.requires.of.1 r.0 r.1 r.2 c.look-word.result looks c.args.shape c.args.reads.besides c.requires.shape
    c.configs_read-set.ensures c.args.reads (λ _. c.args.reads.besides) in (
      saw_beside s v w x set rs c.requires.of.1 r.0 r.1 r.2 c.look-word.result looks z home,
      c.in-Ok-told.ensures
          ∙ (reads ∙ ap (λ (h : List Entry). stretches c.args.shape (after v.setup.start h).redistributors c.args.reads) (sym (ap (λ (y : View). y.seen) home))),
    )
