use Rattle.std.proofs.Common.{ap, arith}
use Rattle.write_back.specs.Segments.{own_in, own_of}
use Rattle.std.specs.BTreeMap.{is_at}
use Rattle.std.specs.Ordering.{nat_cmp}
use Rattle.write_back.proofs.Sums.{own-removed}
use Rattle.write_back.proofs.segment_map.SegmentMap.take_out.Goals as goal

pub overflow_sub-self : goal.overflow_sub-self
overflow_sub-self c =
    let sum = own-removed (is_at (nat_cmp c.args.at)) c.self.inside.entries.entries in
    omega (arith, sum, c.self.invariant, c.own_len_of.ensures.len, ap own_in c.remove-older.ensures.value)

pub invariant_of-self : goal.invariant_of-self
invariant_of-self c =
    let sum = own-removed (is_at (nat_cmp c.args.at)) c.self.inside.entries.entries in
    omega (arith, sum, c.self.invariant, c.own_len_of.ensures.len, ap own_in c.remove-older.ensures.value, ap own_of c.remove-older.ensures.entries)
