use Rattle.xdr_codec.proofs.Laws.{finds_by, u32_codec}
use Rattle.xdr_codec.proofs.reader.Reader.u32.Goals as goal

pub returns-clause-spelled : goal.returns-clause-spelled
returns-clause-spelled c = finds_by (λ x. x) _ _ _ u32_codec c.holds_bytes.ensures c.word.ensures
