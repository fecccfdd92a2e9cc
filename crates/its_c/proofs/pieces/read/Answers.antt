use Rattle.std.proofs.Common.{◌≡◌, map, length, true, ap, ◌∙◌}
use Rattle.guest_windows.specs.Windows.{read_at, extent, share_no_byte}
use Rattle.guest_windows.proofs.Bytes.{windows_apart, read_gives}
use Rattle.guest_windows.proofs.Laws.{length-read_at}
use Rattle.its_c.proofs.WholeReads.{whole_is_read, no_refusal}
use Rattle.its_c.proofs.pieces.read.Goals as goal

pub unreachable-requires : goal.unreachable-requires
unreachable-requires c =
    let ws = c.args.memory.now in
    let a = c.args.address in
    let n = length c.args.buffer.now in
    no_refusal ws a n c.read.result _ c.in_default.field-0 c.args.buffer.now c.read.new.buf (let is = c.inside.ensures.inside in cc) c.read.ensures.bytes c.in_default.is

pub returns-then-inside-clause-read : goal.returns-then-inside-clause-read
returns-then-inside-clause-read c =
    let ws = c.args.memory.now in
    let a = c.args.address in
    let bs = c.read.new.buf in
    let n = length c.args.buffer.now in
    let apart : share_no_byte (map extent ws) ≡ true = windows_apart (map extent ws) c.inside.ensures.windows in
    let read = read_gives (read_at ws a n) c.read.result _ _ bs c.in-Ok.field-0 c.read.ensures.bytes c.in-Ok.is in
    let long : length bs ≡ n = length-read_at ws a n bs read in
    whole_is_read ws a bs apart (ap (read_at ws a) long ∙ read)

pub returns-then-inside-clause-length : goal.returns-then-inside-clause-length
returns-then-inside-clause-length c =
    let ws = c.args.memory.now in
    let a = c.args.address in
    let bs = c.read.new.buf in
    let n = length c.args.buffer.now in
    length-read_at ws a n bs (read_gives (read_at ws a n) c.read.result _ _ bs c.in-Ok.field-0 c.read.ensures.bytes c.in-Ok.is)
