use Rattle.std.proofs.Common.{length, sym, ◌∙◌, cond}
use Rattle.std.specs.List.{list_any}
use Rattle.its_plain.specs.Doorbells.{rung, message, meets_frames}
use Rattle.its_plain.specs.declared.call.Route.TheVariants as route
use Rattle.dma_routes.proofs.Doorbells.{rung_goes, no_rung_goes}
use Rattle.dma_routes.proofs.routes.route.Goals as goal

pub returns-in-Some : goal.returns-in-Some
returns-in-Some c =
    let bytes = c.as_slice-bytes.ensures.bytes in let translators = c.as_slice-translators.ensures in
    let device = c.device_of.ensures in
    let first = (λ d. rung 0 c.args.addr.0 (length (sym bytes d)) (sym translators d)) ∙ sym c.in-Some.ensures.rung in
    record {
      route = c.message.ensures ∙ ((λ d. message c.in-Some.its (bytes d) (device d))
          ∙ rung_goes c.args.desc.now c.args.req c.args.addr.0 c.args.bytes.now c.in-Some.its first);
    }

pub returns-in-None : goal.returns-in-None
returns-in-None c =
    let bytes = c.as_slice-bytes.ensures.bytes in let translators = c.as_slice-translators.ensures in
    let first = (λ d. rung 0 c.args.addr.0 (length (sym bytes d)) (sym translators d)) ∙ sym c.in-None.ensures.rung in
    record {
      route = c.no_message.ensures
          ∙ ((λ d. cond (list_any (meets_frames c.args.addr.0 (length (bytes d))) (translators d)) route.Frame route.Poke)
          ∙ no_rung_goes c.args.desc.now c.args.req c.args.addr.0 c.args.bytes.now first);
    }
