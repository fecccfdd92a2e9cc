use Rattle.dma_routes.proofs.Doorbells.{devices}
use Rattle.dma_routes.proofs.laws.requesters_are_devices.Goals as goal

pub returns : goal.returns
returns c = devices
