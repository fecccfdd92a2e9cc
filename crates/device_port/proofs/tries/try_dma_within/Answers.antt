use Rattle.std.proofs.Common.{◌≡◌, ◌<◌, ℕ, [], ap, sym, ◌∙◌, subst}
use Rattle.its_plain.specs.Doorbells.{dma_of, route_of}
use Rattle.its_plain.specs.declared.call.Call.TheVariants as call
use Rattle.its_plain.specs.declared.call.Reply.{Reply}
use Rattle.its_plain.specs.declared.call.Reply.TheVariants as reply
use Rattle.its_plain.specs.declared.call.Route.{Route}
use Rattle.its_plain.specs.declared.call.Route.TheVariants as route
use Rattle.its_plain.specs.declared.desc.Desc.{Desc}
use Rattle.its_steps.proofs.Ports.{nothings}
use Rattle.its_steps.specs.Calls.{staying, MayLeave}
use Rattle.its_steps.specs.MayCall.{message_of}
use Rattle.its_steps.specs.declared.change.ShardChange.TheVariants.{Keep}
use Rattle.its_turns.specs.Calls.{TriesPart}
use Rattle.its_turns.specs.Machines.{setup, view}
use Rattle.its_types.specs.declared.machine.Part.TheVariants as part
use Rattle.device_port.proofs.Doorbells.{stands}
use Rattle.device_port.proofs.Once.{message_tries, write_tries}
use Rattle.device_port.specs.Messages.{message}
use Rattle.device_port.specs.Signals.{SignalsOnce}
use Rattle.device_port.proofs.tries.try_dma_within.Goals as goal

pub send_once-requires-clause-sends : goal.send_once-requires-clause-sends
send_once-requires-clause-sends g c =
    let s = c.in-Signal in
    let below = stands c.desc.result.now c.args.req c.args.addr.0 c.args.bytes.now s.its s.dev s.ev (sym c.route-route.ensures.route ∙ s.is) in
    record {
      message_is = ap (λ (r : Route). message_of (call.Dma c.args.req c.args.addr c.args.bytes.now r)) s.is;
      stands = subst (λ (n : ℕ). s.its < n) c.desc.ensures.translators below;
    }

pub try_tell-tried-requires-clause-may : goal.try_tell-tried-requires-clause-may
try_tell-tried-requires-clause-may g c w room = let m = c.args.machine.now in
    subst (λ (r : Route). MayLeave (setup m) (staying w (call.Dma c.args.req c.args.addr c.args.bytes.now r) reply.NoRequester Keep) [] [])
    (sym c.in-NoRequester.is) (nothings (setup m) w c.args.req c.args.addr c.args.bytes.now m.laid.1 room).0

pub try_tell-tried-requires-in-Frame-clause-may : goal.try_tell-tried-requires-in-Frame-clause-may
try_tell-tried-requires-in-Frame-clause-may g c w room = let m = c.args.machine.now in
    subst (λ (r : Route). MayLeave (setup m) (staying w (call.Dma c.args.req c.args.addr c.args.bytes.now r) reply.Outside Keep) [] [])
    (sym c.in-Frame.is) (nothings (setup m) w c.args.req c.args.addr c.args.bytes.now m.laid.1 room).1

pub returns-in-Signal-clause-answer : goal.returns-in-Signal-clause-answer
returns-in-Signal-clause-answer g c =
    let s = c.in-Signal in let d = c.args.machine.now.desc in let v = view c.args.pass.now in let w = view c.send_once.new.pass in
    let to : c.route-route.result ≡ route_of d c.args.req c.args.addr.0 c.args.bytes.now =
    c.route-route.ensures.route ∙ ap (λ (k : Desc). route_of k c.args.req c.args.addr.0 c.args.bytes.now) c.desc.ensures.desc in
    let made = subst (λ (r : Route). SignalsOnce v (call.Dma c.args.req c.args.addr c.args.bytes.now r) (message s.its s.dev s.ev) w c.send_once.result) to
    c.send_once.ensures.answer in
    rw (c.message_tried.ensures) (message_tries v (dma_of d c.args.req c.args.addr c.args.bytes.now) w s.its s.dev s.ev
    (route_of d c.args.req c.args.addr.0 c.args.bytes.now) (sym to ∙ s.is) c.send_once.result made)

pub returns-in_ok-tried-in-Poke-clause-answer : goal.returns-in_ok-tried-in-Poke-clause-answer
returns-in_ok-tried-in-Poke-clause-answer g c =
    let d = c.args.machine.now.desc in let v = view c.args.pass.now in let w = view c.try_write_within.new.pass in let tried = c.in_ok-tried-in-Poke.tried in
    let to : route_of d c.args.req c.args.addr.0 c.args.bytes.now ≡ route.Poke =
    sym (c.route-route.ensures.route ∙ ap (λ (k : Desc). route_of k c.args.req c.args.addr.0 c.args.bytes.now) c.desc.ensures.desc) ∙ c.in-Poke.is in
    let made = subst (λ (r : Route). TriesPart v part.Mem (call.Dma c.args.req c.args.addr c.args.bytes.now r) (λ (k : Reply). k) w tried) (sym to)
    c.in_ok-tried-in-Poke.ensures.answer in
    rw (c.write_tried.ensures) (write_tries v (dma_of d c.args.req c.args.addr c.args.bytes.now) w
    (route_of d c.args.req c.args.addr.0 c.args.bytes.now) to tried made c.in_ok-tried-in-Poke.ensures.reply)
