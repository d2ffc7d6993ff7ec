use Rattle.std.proofs.Common.{ap, arith}
use Rattle.write_back.specs.Segments.{own_in, own_of}
use Rattle.write_back.proofs.Sums.{own-laid}
use Rattle.write_back.proofs.segment_map.SegmentMap.lay.Goals as goal

pub overflow_sub-self : goal.overflow_sub-self
overflow_sub-self c =
    let sum = own-laid c.args.at c.args.segment c.self.inside.entries.entries c.insert.ensures.was_ordered in
    omega (arith, sum, c.self.invariant, c.own_len-size.ensures.len, c.own_len_of.ensures.len, ap own_in c.in_ok-older.ensures.old)

pub invariant_of-self-2 : goal.invariant_of-self-2
invariant_of-self-2 c =
    let sum = own-laid c.args.at c.args.segment c.self.inside.entries.entries c.insert.ensures.was_ordered in
    omega (arith, sum, c.self.invariant, c.own_len-size.ensures.len, c.own_len_of.ensures.len, ap own_in c.in_ok-older.ensures.old, ap own_of c.in_ok-older.ensures.entries)
