use Rattle.std.proofs.Common.{subst}
use Rattle.xdr_codec.specs.Bytes.{IsBytes}
use Rattle.xdr_codec.proofs.WholeLaws.{finds_whole}
use Rattle.portmap_calls.proofs.MappingCodec.{whole_mapping}
use Rattle.portmap_calls.proofs.mapping.read_mapping.Goals as goal

pub returns-clause-spelled : goal.returns-clause-spelled
returns-clause-spelled c = finds_whole _ _ _ whole_mapping (subst IsBytes c.new.ensures c.holds_bytes.ensures) c.mapping_in.ensures
