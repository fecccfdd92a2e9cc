use Rattle.std.proofs.Common.{◌≡◌, ℕ, List, length, map, ap, sym, ◌∙◌, subst}
use Rattle.std.proofs.lemmas.List.{length-map}
use Rattle.its_types.specs.declared.ids.Intid.{Intid}
use Rattle.its_types.specs.declared.machine.Part.TheVariants as part
use Rattle.its_plain.specs.History.{after}
use Rattle.its_plain.specs.Plain.{PendState, pending_of}
use Rattle.its_numbers.specs.Lists.{SameFrom}
use Rattle.its_steps.specs.Contents as content
use Rattle.its_turns.specs.Machines.{view}
use Rattle.lpi_pending.specs.Pend.{Pend}
use Rattle.owned_parts.specs.Owned.{pend_state}
use Rattle.its_shared.specs.Seeing.{ListsNumbers}
use Rattle.its_shared.proofs.Seen.{one_right, pend_is, saw_one}
use Rattle.its_shared.proofs.pending_look.try_pending.Goals as goal

abbrev numbers : List Intid → List ℕ
numbers = map (λ i. i.0)

pub returns-in-Ok-lpis-clause-seen : goal.returns-in-Ok-lpis-clause-seen
returns-in-Ok-lpis-clause-seen c =
    let v = view c.args.pass.now in
    let w = view c.try_take_pend.new.pass in
    let x = view c.look-word.new.pass in
    let z = view c.put.new.pass in
    let here = part.Pend c.args.vcpu in
    let p = pend_state c.in-Ok.pend.value in
    let taken = c.in-Ok.ensures.result.0.view in
    let looks = c.look-word.ensures.looks in
    let u = after v.setup.start z.seen in
    let right = one_right v w x z here (content.Pend p) taken c.look-word.result looks c.put.ensures.view in
    let xs = c.deref-in-Ok-lpis.result.now in
    let same : numbers xs ≡ pending_of u c.args.vcpu.0 =
    ap numbers c.deref-in-Ok-lpis.ensures.value ∙ (c.in-Ok-lpis.ensures ∙ (ap (λ (q : Pend). q.pending.lpis) c.deref.ensures
    ∙ sym (ap (λ (s : PendState). s.pending) (pend_is u c.args.vcpu.0 p right)))) in
    let e = c.put_lpis.ensures in
    let long : length (numbers xs) ≡ length xs = length-map xs (λ (i : Intid). i.0) in
    let count : c.len.result ≡ length xs = (let many = c.deref-in-Ok-lpis.ensures.len in let is = c.len.ensures in cc) in
    let listed : ListsNumbers (numbers xs) c.args.list.now c.put_lpis.new.list c.len.result = record {
      told = e.told;
      rest = subst (λ n. SameFrom n c.args.list.now c.put_lpis.new.list) (sym long) e.rest;
      same_length = e.length;
      count_is = count ∙ sym long;
    } in (
      saw_one v w x z here (content.Pend p) taken c.look-word.result looks c.put.ensures.view,
      subst (λ (ns : List ℕ). ListsNumbers ns c.args.list.now c.put_lpis.new.list c.len.result) same listed,
    )
