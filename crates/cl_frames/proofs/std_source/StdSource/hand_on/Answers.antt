use Rattle.std.proofs.Common.{arith}
use Rattle.cl_frames.proofs.Handed.{straight}
use Rattle.cl_frames.proofs.std_source.StdSource.hand_on.Goals as goal

pub returns-then-buf-len-clause-hands_on : goal.returns-then-buf-len-clause-hands_on
returns-then-buf-len-clause-hands_on g c =
    let s = c.args.self.now in
    straight (g.R.Read.remaining s.inner) (g.R.Read.remaining c.read_some.new.reader) s.buffer.items c.read_some.new.buf s.at s.end c.read_some.result (omega arith) c.read_some.ensures.hands_on
