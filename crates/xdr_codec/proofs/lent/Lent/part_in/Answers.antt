use Rattle.std.proofs.Common.{sym, ◌∙◌}
use Rattle.xdr_codec.proofs.Parts.{part_of_part}
use Rattle.xdr_codec.proofs.lent.Lent.part_in.Goals as goal

pub returns : goal.returns
returns c = c.within.ensures ∙ sym (part_of_part c.args.all.now.value.items c.args.place c.args.size c.args.from c.args.len c.requires.fits)
