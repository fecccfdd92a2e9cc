use Rattle.std.proofs.Common.{◌≡◌, ap, sym, ◌∙◌, subst}
use Rattle.std.specs.Prelude.{if◌then◌else◌}
use Rattle.gicr_lpi.proofs.Lows.{low_bases}
use Rattle.gicr_regs.specs.Registers.{AreLow, values_of}
use Rattle.its_types.specs.declared.machine.Part.TheVariants as part
use Rattle.its_types.specs.declared.translation.Bases.{Bases}
use Rattle.its_plain.specs.History.{after}
use Rattle.its_plain.specs.Plain.{ConfState, redistributor}
use Rattle.its_plain.specs.declared.layout.Layout.{Layout}
use Rattle.its_numbers.specs.Stored.{as_given}
use Rattle.its_steps.specs.Contents as content
use Rattle.its_steps.specs.Parts.{Setup}
use Rattle.its_turns.specs.Machines.{view}
use Rattle.lpi_config.specs.Conf.{Conf, conf_state}
use Rattle.its_shared.proofs.Seen.{conf_is, one_machine, one_right, saw_one}
use Rattle.its_shared.proofs.stored_look.try_stored.Goals as goal

pub values_of-values-requires : goal.values_of-values-requires
values_of-values-requires c =
    let c' = c.in-Ok.conf.value in
    let is : c.bases.result.now ≡ c'.bases = c.bases.ensures ∙ ap (λ (q : Conf). q.bases) c.deref.ensures in
    subst AreLow (sym is) (low_bases (view c.args.pass.now).setup c.args.vcpu (conf_state c') c.in-Ok.ensures.result.0.stood)

pub returns-clause-seen : goal.returns-clause-seen
returns-clause-seen c =
    let v = view c.args.pass.now in
    let w = view c.try_take_conf.new.pass in
    let x = view c.look-word.new.pass in
    let z = view c.put.new.pass in
    let here = part.Conf c.args.vcpu in
    let p = conf_state c.in-Ok.conf.value in
    let taken = c.in-Ok.ensures.result.0.view in
    let looks = c.look-word.ensures.looks in
    let u = after v.setup.start z.seen in
    let right = one_right v w x z here (content.Conf p) taken c.look-word.result looks c.put.ensures.view in
    let machine = one_machine v w x z here (content.Conf p) taken c.look-word.result looks c.put.ensures.view in
    let on : c.are_programmed.result ≡ u.layout.gicr =
    c.are_programmed.ensures
    ∙ ap (λ (l : Layout). l.gicr) (c.desc.ensures.layout ∙ (sym (ap (λ (s : Setup). s.start.layout) c.requires.of.1) ∙ machine.layout)) in
    let bases : c.bases.result.now ≡ (redistributor u c.args.vcpu.0).bases =
    c.bases.ensures ∙ (ap (λ (q : Conf). q.bases) c.deref.ensures ∙ sym (ap (λ (s : ConfState). s.bases) (conf_is u c.args.vcpu.0 p right))) in
    let values = c.values_of-values.ensures ∙ ap (λ (b : Bases). values_of b) bases in (
      saw_one v w x z here (content.Conf p) taken c.look-word.result looks c.put.ensures.view,
      c.given.ensures ∙ (λ d. if on d then as_given (values d) else record { ctlr = 0; propbaser = 0; pendbaser = 0 }),
    )
