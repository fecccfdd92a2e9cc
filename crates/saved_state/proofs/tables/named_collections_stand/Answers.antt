use Rattle.saved_state.proofs.Maps.{named_stand}
use Rattle.saved_state.proofs.tables.named_collections_stand.Goals as goal

pub returns : goal.returns
returns c = named_stand
