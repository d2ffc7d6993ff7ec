use Rattle.std.proofs.Common.{sym, ap, ◌∙◌, None}
use Rattle.std.specs.FinMap as map
use Rattle.open_files.proofs.Kept.{put-distinct, put-inserts}
use Rattle.open_files.proofs.open_files.OpenFiles.put.Goals as goal

pub invariant_of-self-2 : goal.invariant_of-self-2
invariant_of-self-2 c = put-distinct c.self.inside.opens c.insert.new.self _ _ c.in_ok-insert.ensures.updates c.in_ok-insert.ensures.was_vacant c.self.invariant (rw c.self.view_is c.requires)

pub returns-clause-ok : goal.returns-clause-ok
returns-clause-ok c = rw (← c.self.view_is) (put-inserts c.self.inside.opens c.insert.new.self _ _ c.in_ok-insert.ensures.updates c.in_ok-insert.ensures.was_vacant c.self.invariant (rw c.self.view_is c.requires))
