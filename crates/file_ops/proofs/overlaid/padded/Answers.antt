use Rattle.std.proofs.Common.{◌≡◌, min, length, take, ap, ◌∙◌}
use Rattle.file_ops.proofs.Overlays.{padded-is}
use Rattle.file_ops.proofs.overlaid.padded.Goals as goal

pub returns : goal.returns
returns c =
    let front : c.split_at.result.0.now ≡ take (min (length c.args.base.now) c.args.size) c.args.base.now = c.split_at.ensures.front ∙ ap (λ n. take n c.args.base.now) c.min.ensures in
    padded-is c.args.room.items c.args.base.now _ c.extend_from_slice.new.self.items c.resize.new.self.items c.args.size c.extend_from_slice.new.self.len
    c.requires.empty front c.in-Ok.ensures.items (c.extend_from_slice.new.self.ok.0) c.in-Ok-resize.ensures.items
