use Rattle.xdr_codec.proofs.Laws.{finds_by, u64_codec}
use Rattle.xdr_codec.proofs.reader.Reader.u64.Goals as goal

pub returns-clause-spelled : goal.returns-clause-spelled
returns-clause-spelled c = finds_by (λ x. x) _ _ _ u64_codec c.holds_bytes.ensures c.double_word.ensures
