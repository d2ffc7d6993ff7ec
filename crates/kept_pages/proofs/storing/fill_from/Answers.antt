use Rattle.kept_pages.proofs.KeptRounds.{fills-itself}
use Rattle.kept_pages.proofs.storing.fill_from.Goals as goal

pub returns-in-Some-clause-kept : goal.returns-in-Some-clause-kept
returns-in-Some-clause-kept g c = c.fill_with.ensures.kept c.args.cache.now c.in-Some.ensures

pub returns-in-None-clause-fills : goal.returns-in-None-clause-fills
returns-in-None-clause-fills g c = λ tells n fits s u.
    fills-itself g.D.Disk.seen g.D.Disk.may_leave g.D.Disk.moment g.D.Disk.left_since n c.args.store.now (g.met.D.Disk.only_now c.args.store.now.disk tells) s u
