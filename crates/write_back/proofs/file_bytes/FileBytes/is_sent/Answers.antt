use Rattle.write_back.proofs.PastAll.{none-past}
use Rattle.write_back.proofs.file_bytes.FileBytes.is_sent.Goals as goal

pub returns : goal.returns
returns c = rw (← c.self.view_is) (none-past _ _ _ _ _ c.args.upto c.passed_before.result _ c.self.invariant c.passed_before.ensures c.is_past_all.ensures)
