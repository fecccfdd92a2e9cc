use Rattle.std.specs.String.{string_bytes}
use Rattle.its_explain.specs.Chosen.{line_text, may_be_as_written, reply_text}
use Rattle.its_explain.proofs.Chosen.{added_behind, added_free, added_unless}
use Rattle.its_explain.proofs.said.push_said.Goals as goal

pub returns-then-is_as_written : goal.returns-then-is_as_written
returns-then-is_as_written c =
    let s = c.args.sources.now in
    let n = c.args.next.now in
    let r = c.args.reply.now in
    added_free c.push_as_written.result (may_be_as_written n.call r) (reply_text s.book.now s.machine.now s.fact s.taken n.call r)
    (string_bytes c.push_as_written.new.out) (string_bytes c.args.out.now) (line_text n.line.number) (c.is_as_written.ensures c.if-is_as_written.true)

pub returns-else-is_as_written : goal.returns-else-is_as_written
returns-else-is_as_written c =
    let s = c.args.sources.now in
    let n = c.args.next.now in
    let r = c.args.reply.now in
    let text = reply_text s.book.now s.machine.now s.fact s.taken n.call r in
    added_unless c.push_reply.result (may_be_as_written n.call r) text (string_bytes c.push_reply.new.out) (string_bytes c.args.out.now)
    (line_text n.line.number)
    (added_behind c.push_reply.result text (string_bytes c.push_reply.new.out) (string_bytes c.push_enclosed.new.out) (string_bytes c.args.out.now)
    (line_text n.line.number) c.in_ok-push_enclosed.ensures c.push_reply.ensures)
