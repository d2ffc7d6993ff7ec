use Rattle.xdr_codec.proofs.lent.Lent.share.Goals as goal

pub share_in-requires-clause-within : goal.share_in-requires-clause-within
share_in-requires-clause-within c = let stands = rw c.in-Some.is at c.self.invariant in stands.within

pub share_in-requires-clause-is : goal.share_in-requires-clause-is
share_in-requires-clause-is c = let stands = rw c.in-Some.is at c.self.invariant in stands.is
