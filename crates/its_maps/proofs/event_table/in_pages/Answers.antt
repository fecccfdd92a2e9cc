use Rattle.std.proofs.Common.{◌∙◌}
use Rattle.its_maps.proofs.Refilled.{filled, filled_again}
use Rattle.its_maps.proofs.event_table.in_pages.Goals as goal

pub loop-ev-init : goal.loop-ev-init
loop-ev-init c = (λ i. filled (c.new-pages.ensures i) (c.entries-ev-items.ensures i)) ∙ filled_again c.args.events.now.map
