use Rattle.xdr_codec.specs.Spelling.{opaque_bytes}
use Rattle.xdr_codec.proofs.Written.{wrote_by, kept_by, opaque_within}
use Rattle.xdr_codec.proofs.writer.Writer.opaque.Goals as goal

pub returns-clause-spelled : goal.returns-clause-spelled
returns-clause-spelled c =
    λ max le. wrote_by _ _ _ _ _ (opaque_within max _ le c.requires) (kept_by (opaque_bytes c.args.bytes.now) c.args.self.now _ _ _ _ c.keep_or_cut.ensures.same c.counted-written.ensures.ok c.keep_or_cut.ensures.ok)
