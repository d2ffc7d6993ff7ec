use Rattle.page_store.proofs.Moments.{started}
use Rattle.kept_runs.proofs.keeping.keep_all.Goals as goal

pub returns-in-Some-clause-any_moment : goal.returns-in-Some-clause-any_moment
returns-in-Some-clause-any_moment g c = rw c.in-Some.is (λ tells n fits s. (c.is_sound.ensures, c.keep.ensures.any_moment tells n fits s))

pub returns-in-None-clause-any_moment : goal.returns-in-None-clause-any_moment
returns-in-None-clause-any_moment g c =
    rw c.in-None.is (λ tells n fits s.
    started g.D.Disk.moment g.D.Disk.left_since c.args.store.now.disk (g.D.Disk.may_leave c.args.store.now.disk) (g.D.Disk.may_leave c.args.store.now.disk)
    (g.met.D.Disk.only_now c.args.store.now.disk tells) (λ image may. may))
