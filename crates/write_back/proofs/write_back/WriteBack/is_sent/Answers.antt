use Rattle.std.proofs.Common.{sym, subst, ap}
use Rattle.std.specs.Bool.{OnTrue}
use Rattle.write_back.specs.Choice.{chosen, NoneGo}
use Rattle.write_back.specs.Pieces.{FilePending}
use Rattle.write_back.proofs.Counting.{of-found}
use Rattle.write_back.proofs.write_back.WriteBack.is_sent.Goals as goal

pub returns-in-Some : goal.returns-in-Some
returns-in-Some c =
    rw (← c.self.view_is)
    (subst (λ (z : FilePending). OnTrue c.is_sent.result (NoneGo c.args.upto z)) (sym (of-found c.args.file.now c.self.inside.files.entries _ (sym c.in-Some.ensures.value))) c.is_sent.ensures)

pub returns-in-None : goal.returns-in-None
returns-in-None c =
    rw (← c.self.view_is) (λ wsize. ap (λ (z : FilePending). chosen c.args.upto wsize z) (of-found c.args.file.now c.self.inside.files.entries _ (sym c.in-None.ensures.value)))
