use Rattle.std.proofs.Common.{arith}
use Rattle.so_io.proofs.Known.{reads_all}
use Rattle.so_io.proofs.real_files.read_up_to.Goals as goal

pub returns-in-Ok : goal.returns-in-Ok
returns-in-Ok g c =
    let size = c.read_to_end.new.buf.ok in
    let small = c.read_to_end.new.buf.small in
    reads_all _ c.read_to_end.new.buf (g.R.Read.remaining c.args.reader) c.take.result.limit c.args.max c.new-bytes.result.items c.new-bytes.ensures.items
    (rw c.take.ensures.inner at c.in-Ok.ensures.bytes) (omega arith) (omega arith)
