use Rattle.write_back.proofs.Marking.{held-mark}
use Rattle.write_back.proofs.write_back.WriteBack.mark_again.Goals as goal

pub change-requires : goal.change-requires
change-requires c = held-mark c.args.upto
