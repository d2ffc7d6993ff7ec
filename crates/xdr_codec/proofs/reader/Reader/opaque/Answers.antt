use Rattle.xdr_codec.proofs.Laws.{finds_by}
use Rattle.xdr_codec.proofs.MoreLaws.{opaque_codec}
use Rattle.xdr_codec.proofs.reader.Reader.opaque.Goals as goal

pub returns-clause-spelled : goal.returns-clause-spelled
returns-clause-spelled c = finds_by (λ x. x.now) _ _ _ (opaque_codec _) c.holds_bytes.ensures c.counted.ensures
