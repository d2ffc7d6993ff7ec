use Rattle.xdr_codec.proofs.Laws.{finds_by}
use Rattle.xdr_codec.proofs.MoreLaws.{flag_codec}
use Rattle.xdr_codec.proofs.reader.Reader.flag.Goals as goal

pub returns-clause-spelled : goal.returns-clause-spelled
returns-clause-spelled c = finds_by (λ x. x) _ _ _ flag_codec c.holds_bytes.ensures c.zero_or_one.ensures
