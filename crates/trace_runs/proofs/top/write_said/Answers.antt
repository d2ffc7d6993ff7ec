-- All of it is written, or a front.
use Rattle.std.proofs.Common.{inl, inr, refl}
use Rattle.trace_runs.proofs.Telling.{says-whole, says-cut}
use Rattle.trace_runs.proofs.top.write_said.Goals as goal

pub returns-in-Ok-clause-says : goal.returns-in-Ok-clause-says
returns-in-Ok-clause-says g c left tells =
    says-whole left (g.K.Sink.written c.args.out.now) (g.K.Sink.written c.write_all.new.out) c.args.said.now.status c.args.said.now.text tells (rw c.bytes.ensures at c.in-Ok.ensures.ok)

pub returns-in-Err-Failed-clause-says : goal.returns-in-Err-Failed-clause-says
returns-in-Err-Failed-clause-says g c left tells =
    says-cut left (g.K.Sink.written c.args.out.now) (g.K.Sink.written c.write_all.new.out) 5 c.args.said.now.status c.args.said.now.text (inl refl) tells (rw c.bytes.ensures at c.in-Err-Failed.ensures.err)

pub returns-in-Err-Memory-clause-says : goal.returns-in-Err-Memory-clause-says
returns-in-Err-Memory-clause-says g c left tells =
    says-cut left (g.K.Sink.written c.args.out.now) (g.K.Sink.written c.write_all.new.out) 7 c.args.said.now.status c.args.said.now.text (inr refl) tells (rw c.bytes.ensures at c.in-Err-Memory.ensures.err)
