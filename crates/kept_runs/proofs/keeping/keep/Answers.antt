use Rattle.std.proofs.Common.{length, arith}
use Rattle.kept_pages.proofs.KeptRounds.{sound-less}
use Rattle.kept_runs.proofs.Rounds.{moment-stored}
use Rattle.kept_runs.proofs.keeping.keep.Goals as goal

pub returns-then-labelled-clause-safe : goal.returns-then-labelled-clause-safe
returns-then-labelled-clause-safe g c = λ tells n fits s.
    let long = c.labelled.ensures.count in
    c.store_kept.ensures.safe (c.labelled.ensures.goes_on tells) n (omega (arith, long, fits)) (c.labelled.ensures.safe tells n fits s)

pub returns-then-labelled-clause-stands : goal.returns-then-labelled-clause-stands
returns-then-labelled-clause-stands g c = λ tells n fits s stands.
    let long = c.labelled.ensures.count in
    c.store_kept.ensures.stands (c.labelled.ensures.goes_on tells)
    (sound-less n (length c.labelled.new.store.pages) (g.D.Disk.may_leave c.labelled.new.store.disk) (omega (arith, long, fits)) (c.labelled.ensures.safe tells n fits s))
    (c.labelled.ensures.stands tells n fits s stands)

pub returns-then-labelled-clause-any_moment : goal.returns-then-labelled-clause-any_moment
returns-then-labelled-clause-any_moment g c = λ tells n fits s.
    let long = c.labelled.ensures.count in
    moment-stored g.D.Disk.may_leave g.D.Disk.moment g.D.Disk.left_since (length c.args.store.now.pages) c.args.back.now.pages c.args.store.now.disk c.labelled.new.store.disk c.store_kept.new.store.disk
    (length c.labelled.new.store.pages) long (c.labelled.ensures.any_moment tells n fits s) (c.labelled.ensures.leaves tells n fits s)
    (c.store_kept.ensures.any_moment (c.labelled.ensures.goes_on tells) (length c.labelled.new.store.pages) (omega arith)
    (sound-less n (length c.labelled.new.store.pages) (g.D.Disk.may_leave c.labelled.new.store.disk) (omega (arith, long, fits)) (c.labelled.ensures.safe tells n fits s)))
