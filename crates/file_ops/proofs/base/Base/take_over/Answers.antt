use Rattle.std.proofs.Common.{◌≡◌, length, sym, ap, ◌∙◌, arith}
use Rattle.xdr_codec.specs.Blobs.{shared_or}
use Rattle.file_ops.proofs.TakenOver.{taken_over}
use Rattle.file_ops.proofs.base.Base.take_over.Goals as goal

pub returns-in-Some-clause-over : goal.returns-in-Some-clause-over
returns-in-Some-clause-over c =
    let end = rw (← c.self.view_is) at c.end.ensures in
    let size = ap length c.bytes.ensures in
    rw (← c.self.view_is, c.in-Some.ensures)
    (taken_over c.self.inside.start c.self.inside.limit (shared_or c.self.inside.shared c.self.inside.own.items) c.args.more.now (omega (arith, end, c.if-end-self.false)) (omega (arith, size, c.if-bytes-self.false)))
