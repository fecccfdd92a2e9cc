use Rattle.std.proofs.Common.{◌<◌, length, arith, ◌∙◌}
use Rattle.std.proofs.lemmas.List.{length-set}
use Rattle.std.proofs.lemmas.List.Elements.{All-get_or}
use Rattle.cmd_exec.specs.Reloaded.{CanRead}
use Rattle.cmd_exec.proofs.Reloaded.{bytes_more}
use Rattle.cmd_exec.proofs.rereading.read_bytes.Goals as goal

pub table_byte-requires : goal.table_byte-requires
table_byte-requires c = All-get_or (CanRead c.args.table.0) c.args.intids.now c.loop-at.at _ c.loop-at-test.true c.requires.can

pub loop-at-preserved : goal.loop-at-preserved
loop-at-preserved c =
    let xs = c.args.intids.now in let at = c.loop-at.at in let bytes = c.loop-at.bytes in
    let within : at < length bytes = omega (arith, c.loop-at-test.true, c.requires.most, c.loop-at.invariant.size) in
    record {
      read =
          bytes_more c.args.memory.now c.args.table.0 xs at _ bytes c.table_byte.result c.loop-at-test.true within c.loop-at.invariant.read
          c.table_byte.ensures;
      size = length-set bytes at c.table_byte.result ∙ c.loop-at.invariant.size;
    }
