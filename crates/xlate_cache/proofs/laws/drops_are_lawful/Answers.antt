use Rattle.xlate_cache.proofs.Founds.{dropped_kept}
use Rattle.xlate_cache.proofs.Sets.{dropped_shard}
use Rattle.xlate_cache.proofs.Lawful.{drops}
use Rattle.xlate_cache.proofs.laws.drops_are_lawful.Goals as goal

pub returns : goal.returns
returns c ways dev ev shard = record { found = drops ways dev ev; entries = dropped_kept dev ev ways; shard = dropped_shard ways dev ev shard }
