use Rattle.its_plain.specs.Doorbells.{dma_of, route_of}
use Rattle.its_turns.specs.Machines.{view}
use Rattle.device_port.proofs.Repeated.{none_got, dma_busy, dma_raced, dma_spent, dma_done, dma_given_up}
use Rattle.its_turns.proofs.Telling.{stays_first}
use Rattle.device_port.proofs.writes.dma.Goals as goal

pub loop-init : goal.loop-init
loop-init g c = let d = c.args.machine.now.desc in let v = view c.args.pass.now in (
  tt,
  tt,
  c.requires.of,
  stays_first v,
  none_got (dma_of d c.args.req c.args.addr c.args.bytes.now) v (route_of d c.args.req c.args.addr.0 c.args.bytes.now),
)

pub loop-preserved-in-Ok-Busy : goal.loop-preserved-in-Ok-Busy
loop-preserved-in-Ok-Busy g c =
    let d = c.args.machine.now.desc in let i = c.loop.invariant in
    let more = dma_busy (dma_of d c.args.req c.args.addr c.args.bytes.now) (view c.args.pass.now) (view c.loop.pass) i.3
    (route_of d c.args.req c.args.addr.0 c.args.bytes.now) i.4 c.in-Ok-Busy.field-0-0 (view c.try_dma.new.pass)
    (rw c.in-Ok-Busy.field-0-is at c.in-Ok-Busy.ensures.answer) in
    (tt, tt, c.try_dma.ensures.of, more.0, more.1)

pub loop-preserved : goal.loop-preserved
loop-preserved g c =
    let d = c.args.machine.now.desc in let i = c.loop.invariant in
    let more = dma_raced (dma_of d c.args.req c.args.addr c.args.bytes.now) (view c.args.pass.now) (view c.loop.pass) i.3
    (route_of d c.args.req c.args.addr.0 c.args.bytes.now) i.4 c.in-Ok-Raced.field-0-0 (view c.try_dma.new.pass)
    (rw c.in-Ok-Raced.field-0-is at c.in-Ok-Raced.ensures.answer) in
    (tt, tt, c.try_dma.ensures.of, more.0, more.1)

pub returns-in-Ok-Done-clause-answer : goal.returns-in-Ok-Done-clause-answer
returns-in-Ok-Done-clause-answer g c =
    let d = c.args.machine.now.desc in let i = c.loop.invariant in
    dma_done (dma_of d c.args.req c.args.addr c.args.bytes.now) (view c.args.pass.now) (view c.loop.pass) i.3
    (route_of d c.args.req c.args.addr.0 c.args.bytes.now) i.4 c.in-Ok-Done.placed (view c.try_dma.new.pass)
    (rw c.in-Ok-Done.field-0-is at c.in-Ok-Done.ensures.answer)

pub returns-in-Ok-Spent-clause-answer : goal.returns-in-Ok-Spent-clause-answer
returns-in-Ok-Spent-clause-answer g c =
    let d = c.args.machine.now.desc in let i = c.loop.invariant in
    dma_spent (dma_of d c.args.req c.args.addr c.args.bytes.now) (view c.args.pass.now) (view c.loop.pass) i.3
    (route_of d c.args.req c.args.addr.0 c.args.bytes.now) i.4 (view c.try_dma.new.pass)
    (rw c.in-Ok-Spent.field-0-is at c.in-Ok-Spent.ensures.answer)

pub returns-in-Err-clause-answer : goal.returns-in-Err-clause-answer
returns-in-Err-clause-answer g c =
    let d = c.args.machine.now.desc in let i = c.loop.invariant in let e = c.in-Err.ensures.answer in
    let up = dma_given_up (dma_of d c.args.req c.args.addr c.args.bytes.now) (view c.args.pass.now) (view c.loop.pass) i.3
    (route_of d c.args.req c.args.addr.0 c.args.bytes.now) i.4 (view c.try_dma.new.pass) e.0 e.1 in
    (e.0, up.0, up.1)
