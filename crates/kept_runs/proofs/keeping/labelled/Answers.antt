use Rattle.std.proofs.Common.{length}
use Rattle.kept_runs.proofs.Rounds.{keeps-itself, keeps-labelled, moment-itself, moment-labelled}
use Rattle.kept_runs.proofs.keeping.labelled.Goals as goal

pub returns-then-is_some-clause-leaves : goal.returns-then-is_some-clause-leaves
returns-then-is_some-clause-leaves g c = λ tells n fits s image may. keeps-itself (length c.args.store.now.pages) c.args.back.now.pages (g.D.Disk.may_leave c.args.store.now.disk) image may

pub returns-then-is_some-clause-any_moment : goal.returns-then-is_some-clause-any_moment
returns-then-is_some-clause-any_moment g c = λ tells n fits s.
    moment-itself g.D.Disk.may_leave g.D.Disk.moment g.D.Disk.left_since (length c.args.store.now.pages) c.args.back.now.pages c.args.store.now.disk
    (g.met.D.Disk.only_now c.args.store.now.disk tells)

pub returns-in-None-clause-leaves : goal.returns-in-None-clause-leaves
returns-in-None-clause-leaves g c = λ tells n fits s image may. keeps-itself (length c.args.store.now.pages) c.args.back.now.pages (g.D.Disk.may_leave c.args.store.now.disk) image may

pub returns-in-None-clause-any_moment : goal.returns-in-None-clause-any_moment
returns-in-None-clause-any_moment g c = λ tells n fits s.
    moment-itself g.D.Disk.may_leave g.D.Disk.moment g.D.Disk.left_since (length c.args.store.now.pages) c.args.back.now.pages c.args.store.now.disk
    (g.met.D.Disk.only_now c.args.store.now.disk tells)

pub returns-in-Some-clause-leaves : goal.returns-in-Some-clause-leaves
returns-in-Some-clause-leaves g c = λ tells n fits s image may.
    keeps-labelled (length c.args.store.now.pages) c.args.back.now.pages _ (g.D.Disk.may_leave c.args.store.now.disk) image (c.set_label.ensures.leaves tells n fits s image may)

pub returns-in-Some-clause-any_moment : goal.returns-in-Some-clause-any_moment
returns-in-Some-clause-any_moment g c = λ tells n fits s.
    moment-labelled g.D.Disk.may_leave g.D.Disk.moment g.D.Disk.left_since (length c.args.store.now.pages) c.args.back.now.pages c.args.store.now.disk c.set_label.new.self.disk _
    (c.set_label.ensures.any_moment tells n fits s)

pub returns-in-Some-clause-stands : goal.returns-in-Some-clause-stands
returns-in-Some-clause-stands g c = λ tells n fits s stands k page at. absurd (c.set_label.ensures.none k page at)
