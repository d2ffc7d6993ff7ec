use Rattle.xdr_codec.proofs.Laws.{finds_by}
use Rattle.xdr_codec.proofs.MoreLaws.{fixed_codec}
use Rattle.xdr_codec.proofs.reader.Reader.fixed.Goals as goal

pub returns-clause-spelled : goal.returns-clause-spelled
returns-clause-spelled c = finds_by (λ x. x.now) _ _ _ (fixed_codec _) c.holds_bytes.ensures c.padded.ensures
