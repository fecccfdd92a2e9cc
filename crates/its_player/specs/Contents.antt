-- What the program's values stand for.
use Rattle.its_steps.specs.Contents as steps
use Rattle.its_player.specs.declared.content.Content.{Content}
use Rattle.its_player.specs.declared.content.Content.TheVariants.{Maps, Mem, Shard, Conf, Pend}

abbrev pub content_of : Content → steps.Content
content_of (Maps t) = steps.Maps t
content_of (Mem m) = steps.Mem m.memory m.track
content_of (Shard ways) = steps.Shard ways
content_of (Conf c) = steps.Conf c
content_of (Pend p) = steps.Pend p
