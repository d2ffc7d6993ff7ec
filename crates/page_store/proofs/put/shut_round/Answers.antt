use Rattle.page_store.specs.Slots.{IsFrom}
use Rattle.page_store.specs.Rounds.{KeepsAll}
use Rattle.page_store.proofs.Moments.{weaker}
use Rattle.page_store.proofs.RoundLemmas.{keeps-all}
use Rattle.page_store.proofs.put.shut_round.Goals as goal

pub returns-in-Ok-clause-leaves : goal.returns-in-Ok-clause-leaves
returns-in-Ok-clause-leaves g c = λ tells n fits s i left. keeps-all n (g.D.Disk.may_leave c.args.disk.now) i (c.close_gates.ensures.leaves tells n fits s i left)

pub returns-in-Ok-clause-any_moment : goal.returns-in-Ok-clause-any_moment
returns-in-Ok-clause-any_moment g c = λ tells n fits s.
    let old = g.D.Disk.may_leave c.args.disk.now in
    weaker g.D.Disk.moment g.D.Disk.left_since c.args.disk.now c.close_gates.new.disk (IsFrom n old) (KeepsAll n old) (c.close_gates.ensures.any_moment tells n fits s) (keeps-all n old)

pub returns-in-Err-clause-leaves : goal.returns-in-Err-clause-leaves
returns-in-Err-clause-leaves g c = λ tells n fits s i left. keeps-all n (g.D.Disk.may_leave c.args.disk.now) i (c.close_gates.ensures.leaves tells n fits s i left)

pub returns-in-Err-clause-any_moment : goal.returns-in-Err-clause-any_moment
returns-in-Err-clause-any_moment g c = λ tells n fits s.
    let old = g.D.Disk.may_leave c.args.disk.now in
    weaker g.D.Disk.moment g.D.Disk.left_since c.args.disk.now c.close_gates.new.disk (IsFrom n old) (KeepsAll n old) (c.close_gates.ensures.any_moment tells n fits s) (keeps-all n old)
