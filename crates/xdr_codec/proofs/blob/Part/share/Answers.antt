use Rattle.std.proofs.Common.{sym, ap, ◌∙◌, arith}
use Rattle.xdr_codec.specs.Blobs.{part_of}
use Rattle.xdr_codec.proofs.Parts.{part_of_part}
use Rattle.xdr_codec.proofs.blob.Part.share.Goals as goal

pub returns-in-Ok : goal.returns-in-Ok
returns-in-Ok c =
    c.in-Ok.ensures
    ∙ sym (part_of_part c.self.inside.all.value.items c.self.inside.from c.self.inside.len c.args.from c.args.len (omega arith))
    ∙ ap (part_of c.args.from c.args.len) c.self.view_is
