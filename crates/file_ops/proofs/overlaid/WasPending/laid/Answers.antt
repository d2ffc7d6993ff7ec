use Rattle.std.proofs.Common.{◌∙◌, sym}
use Rattle.file_ops.proofs.Overlays.{laid-is}
use Rattle.file_ops.proofs.overlaid.WasPending.laid.Goals as goal

pub returns : goal.returns
returns c = laid-is c.args.self.now c.args.base.now c.as_mut_slice.result.now c.lay_over.new.bytes _ c.args.size c.padded-bytes.result.len
    (c.as_mut_slice.ensures.value ∙ c.padded-bytes.ensures) (sym c.as_mut_slice.ensures.len) c.lay_over.ensures.size c.lay_over.ensures.bytes
