use Rattle.std.proofs.Common.{◌≡◌, drop}
use Rattle.std.specs.List.{list_any}
use Rattle.its_plain.specs.Doorbells.{meets_frames}
use Rattle.dma_routes.proofs.routes.no_message.Given as goal

abbrev pub invariant-loop-translator : goal.invariant-loop-translator
invariant-loop-translator l = list_any (meets_frames l.addr.0 l.count) (drop l.translator-index l.translators)
    ≡ list_any (meets_frames l.addr.0 l.count) l.translators
