use Rattle.machine_rows.proofs.Sound.{empty_sound}
use Rattle.machine_rows.proofs.bench.Bench.new.Goals as goal

pub invariant_of-result : goal.invariant_of-result
invariant_of-result c = empty_sound c.in_ok-shelf.shelf c.in_ok-shelf.ensures.back c.in_ok-shelf.ensures.seq
