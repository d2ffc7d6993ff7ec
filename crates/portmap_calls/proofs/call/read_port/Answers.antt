use Rattle.std.proofs.Common.{subst}
use Rattle.xdr_codec.specs.Bytes.{IsBytes}
use Rattle.xdr_codec.proofs.Laws.{u32_codec}
use Rattle.xdr_codec.proofs.WholeLaws.{finds_whole, whole_codec}
use Rattle.portmap_calls.proofs.call.read_port.Goals as goal

pub returns-clause-spelled : goal.returns-clause-spelled
returns-clause-spelled c = finds_whole _ _ _ (whole_codec u32_codec) (subst IsBytes c.new.ensures c.holds_bytes.ensures) c.port_in.ensures
