use Rattle.std.proofs.Common.{ℕ, List, ◌≡◌, subst, sym}
use Rattle.std.proofs.lemmas.Result.{on_ok_weaker}
use Rattle.page_store.specs.Disk.{Only}
use Rattle.page_store.specs.Slots.{IsOpen}
use Rattle.page_store.specs.Rounds.{IsOpening}
use Rattle.page_store.proofs.Moments.{goes_on}
use Rattle.page_store.proofs.RoundLemmas.{opening-ended}
use Rattle.page_store.proofs.rounds.open_synced.Goals as goal

pub returns-in-Ok-clause-opening : goal.returns-in-Ok-clause-opening
returns-in-Ok-clause-opening g c = λ tells n fits long only i left.
    c.lay_open.ensures.opening tells n fits long only i (c.sync.ensures.crash (c.lay_open.ensures.goes_on tells) i left)

pub returns-in-Ok-clause-any_moment : goal.returns-in-Ok-clause-any_moment
returns-in-Ok-clause-any_moment g c = λ tells n fits long only.
    let on = c.lay_open.ensures.goes_on tells in
    goes_on g.D.Disk.moment g.D.Disk.left_since c.args.disk.now c.lay_open.new.disk c.sync.new.self (IsOpening n c.args.round.now (g.D.Disk.seen c.args.disk.now))
    (g.D.Disk.may_leave c.sync.new.self) (c.lay_open.ensures.any_moment tells n fits long only) (c.sync.ensures.time on)
    (λ i left. c.lay_open.ensures.opening tells n fits long only i (c.sync.ensures.crash on i left))

pub returns-in-Ok-clause-ended : goal.returns-in-Ok-clause-ended
returns-in-Ok-clause-ended g c = λ tells n fits long only whole.
    let on = c.lay_open.ensures.goes_on tells in
    let image = g.D.Disk.seen c.args.disk.now in
    let mid = g.D.Disk.seen c.lay_open.new.disk in
    let new = g.D.Disk.seen c.sync.new.self in
    let same : new ≡ mid = c.sync.ensures.seen on in
    let there = c.sync.ensures.crash on new (g.met.D.Disk.shows_one c.sync.new.self (c.sync.ensures.goes_on on)) in
    let opening = c.lay_open.ensures.opening tells n fits long only new there in
    on_ok_weaker c.sync.result
    (λ kept. record {
      there = opening-ended n c.args.round.now image new fits opening whole
          (λ k page filled. subst (λ (i : List ℕ). IsOpen i k) (sym same) (c.in-Ok.ensures.opened tells k page filled));
      only = subst (λ (i : List ℕ). Only i (g.D.Disk.may_leave c.sync.new.self)) (sym same) kept;
    })
    (c.sync.ensures.durable on)
