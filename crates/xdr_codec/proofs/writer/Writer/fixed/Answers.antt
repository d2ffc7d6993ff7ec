use Rattle.xdr_codec.specs.Spelling.{fixed_bytes}
use Rattle.xdr_codec.proofs.Written.{wrote_by, kept_by, fixed_written}
use Rattle.xdr_codec.proofs.writer.Writer.fixed.Goals as goal

pub returns-clause-spelled : goal.returns-clause-spelled
returns-clause-spelled c = wrote_by _ _ _ _ _ (fixed_written _) (kept_by (fixed_bytes c.args.bytes.now) c.args.self.now _ _ _ _ c.keep_or_cut.ensures.same c.padded-written.ensures.ok c.keep_or_cut.ensures.ok)
