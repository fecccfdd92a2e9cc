use Rattle.std.proofs.Common.{◌≡◌, ◌<◌, List, length, map, ap, ◌∙◌, arith}
use Rattle.its_plain.specs.History.{after}
use Rattle.its_plain.specs.Plain.{pending_of}
use Rattle.its_plain.specs.declared.call.Entry.{Entry}
use Rattle.its_steps.specs.Parts.{vcpu_count}
use Rattle.its_turns.specs.Machines.{setup, view}
use Rattle.its_migrate.specs.Resting.{resting}
use Rattle.its_migrate.proofs.Pendings.{lpis_in, one_more_list, all_lists, rests_looked, rests_lone, rests_free, rests_seen, rests_more, as_many_rest}
use Rattle.its_migrate.proofs.resting.pending.Goals as goal

pub loop-vcpu-init : goal.loop-vcpu-init
loop-vcpu-init c = (
  c.look.ensures.of,
  rests_looked (view c.args.root.now) (view c.look.new.pass) c.look.result c.requires.lone c.look.ensures.looks c.look.ensures.later,
  ap (λ xs. map lpis_in xs) c.new-lists.ensures,
)

pub pending_at-requires-clause-of : goal.pending_at-requires-clause-of
pending_at-requires-clause-of c = c.loop-vcpu.invariant.0

pub pending_at-requires-clause-lone : goal.pending_at-requires-clause-lone
pending_at-requires-clause-lone c = rests_lone (view c.args.root.now) (view c.loop-vcpu.root) c.loop-vcpu.invariant.1 c.requires.lone

pub pending_at-requires-clause-free : goal.pending_at-requires-clause-free
pending_at-requires-clause-free c = rests_free (view c.args.root.now) (view c.loop-vcpu.root) c.loop-vcpu.invariant.1 c.requires.free

pub returns-in_err-lpis-clause-rests : goal.returns-in_err-lpis-clause-rests
returns-in_err-lpis-clause-rests c = rests_more (view c.args.root.now) (view c.loop-vcpu.root) c.loop-vcpu.invariant.1 (view c.pending_at.new.root)
    c.pending_at.ensures.rests

pub returns-in_err-push-clause-rests : goal.returns-in_err-push-clause-rests
returns-in_err-push-clause-rests c = rests_more (view c.args.root.now) (view c.loop-vcpu.root) c.loop-vcpu.invariant.1 (view c.pending_at.new.root)
    c.pending_at.ensures.rests

pub loop-vcpu-preserved : goal.loop-vcpu-preserved
loop-vcpu-preserved c =
    let m = c.args.machine.now in
    let s = setup m in
    let v = view c.args.root.now in
    let l = c.loop-vcpu in
    let u = resting m c.args.root.now in
    let many : length u.redistributors ≡ vcpu_count s = as_many_rest s v (view c.look.new.pass) c.look.result c.requires.of.1 c.requires.lone
    c.look.ensures.looks in
    let inside : l.vcpu < length u.redistributors = (let test = c.loop-vcpu-test.true in let count = c.vcpus-vcpu-end.ensures.vcpus in omega
    (arith, test, count, many)) in
    let here : lpis_in c.in_ok-lpis.lpis ≡ pending_of u l.vcpu =
    c.in_ok-lpis.ensures.lpis ∙ ap (λ (h : List Entry). pending_of (after s.start h) l.vcpu) (rests_seen v (view l.root) l.invariant.1)
    in (
      c.pending_at.ensures.of,
      rests_more v (view l.root) l.invariant.1 (view c.pending_at.new.root) c.pending_at.ensures.rests,
      rw (c.in_ok-push.ensures.ok) (one_more_list l.lists c.in_ok-lpis.lpis u.redistributors l.vcpu inside l.invariant.2 here),
    )

pub returns-clause-of : goal.returns-clause-of
returns-clause-of c = c.loop-vcpu.invariant.0

pub returns-clause-rests : goal.returns-clause-rests
returns-clause-rests c = c.loop-vcpu.invariant.1

pub returns-clause-lists : goal.returns-clause-lists
returns-clause-lists c =
    let m = c.args.machine.now in
    let s = setup m in
    let v = view c.args.root.now in
    let l = c.loop-vcpu in
    let u = resting m c.args.root.now in
    let many : length u.redistributors ≡ vcpu_count s = as_many_rest s v (view c.look.new.pass) c.look.result c.requires.of.1 c.requires.lone
    c.look.ensures.looks in
    l.invariant.2 ∙ all_lists u.redistributors l.vcpu (omega (arith, l.auto.vcpu-end, c.loop-vcpu-test.false, c.vcpus-vcpu-end.ensures.vcpus, many))
