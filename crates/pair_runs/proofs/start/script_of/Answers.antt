use Rattle.std.proofs.Common.{refl}
use Rattle.pair_ends.specs.Ends.{number_of}
use Rattle.pair_runs.proofs.Leavings.{one-read, one-refused, one-unread}
use Rattle.pair_runs.proofs.start.script_of.Goals as goal

pub returns-in-Ok-clause-says : goal.returns-in-Ok-clause-says
returns-in-Ok-clause-says g c = one-read (number_of c.args.side) _ _ _ c.in-Ok.ensures.read

pub returns-in-Err-Script-clause-says : goal.returns-in-Err-Script-clause-says
returns-in-Err-Script-clause-says g c =
    let e = rw c.in-Err-Script.field-0-is at c.in-Err-Script.ensures.read in
    one-refused _ _ _ _ _ _ e c.refuse.ensures.says

pub returns-in-Err-Memory-clause-says : goal.returns-in-Err-Memory-clause-says
returns-in-Err-Memory-clause-says g c = one-unread _ _ _ _ refl
