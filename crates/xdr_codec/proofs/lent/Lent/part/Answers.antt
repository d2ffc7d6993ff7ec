use Rattle.std.proofs.Common.{sym, ap, ◌∙◌}
use Rattle.xdr_codec.specs.Blobs.{part_of}
use Rattle.xdr_codec.proofs.lent.Lent.part.Goals as goal

pub part_in-requires-clause-within : goal.part_in-requires-clause-within
part_in-requires-clause-within c =
    let stands = rw c.in-Some.is at c.self.invariant in
    stands.within

pub returns-in-Some : goal.returns-in-Some
returns-in-Some c =
    let stands = rw c.in-Some.is at c.self.invariant in
    rw (← c.self.view_is) (c.part_in.ensures ∙ ap (part_of c.args.from c.args.len) (sym stands.is))
