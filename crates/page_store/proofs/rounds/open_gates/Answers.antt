use Rattle.std.proofs.Common.{ℕ, List, ◌≡◌, ◌≤◌, ◌*◌, length, subst, sym, ◌∙◌, ap}
use Rattle.std.proofs.lemmas.Result.{on_ok_weaker}
use Rattle.page_store.specs.Disk.{Only}
use Rattle.page_store.specs.Slots.{IsSound}
use Rattle.page_store.specs.Pages.{page_of, body_in}
use Rattle.page_store.specs.Rounds.{IsOpening, HasBodies, KeepsAll, KeepsOrFills}
use Rattle.page_store.proofs.Moments.{started, goes_on, then_on}
use Rattle.page_store.proofs.Torn.{fewer}
use Rattle.page_store.proofs.RoundLemmas.{opening-sound, opening-outside, opening-keeps, outside-itself, keeps-or, keeps-all-itself}
use Rattle.page_store.proofs.rounds.open_gates.Goals as goal

pub returns-in-Err-clause-safe : goal.returns-in-Err-clause-safe
returns-in-Err-clause-safe g c = λ tells n fits s. fewer n (g.D.Disk.may_leave c.args.disk.now) (g.D.Disk.may_leave c.sync.new.self) s (c.sync.ensures.crash tells)

pub returns-in-Err-clause-leaves : goal.returns-in-Err-clause-leaves
returns-in-Err-clause-leaves g c = λ tells n fits s u i left.
    let old = g.D.Disk.may_leave c.args.disk.now in
    keeps-or n c.args.round.now old i (keeps-all-itself n old i (c.sync.ensures.crash tells i left))

pub returns-in-Err-clause-outside : goal.returns-in-Err-clause-outside
returns-in-Err-clause-outside g c = λ tells n fits s i left. outside-itself n c.args.round.now (g.D.Disk.may_leave c.args.disk.now) i (c.sync.ensures.crash tells i left)

pub returns-in-Err-clause-any_moment : goal.returns-in-Err-clause-any_moment
returns-in-Err-clause-any_moment g c = λ tells n fits s u.
    let old = g.D.Disk.may_leave c.args.disk.now in
    let P = KeepsOrFills n c.args.round.now old in
    let here = λ (i : List ℕ) (left : old i). keeps-or n c.args.round.now old i (keeps-all-itself n old i left) in
    let start = started g.D.Disk.moment g.D.Disk.left_since c.args.disk.now P old (λ i left. g.met.D.Disk.only_now c.args.disk.now tells i left) here in
    goes_on g.D.Disk.moment g.D.Disk.left_since c.args.disk.now c.args.disk.now c.sync.new.self P (g.D.Disk.may_leave c.sync.new.self) start (c.sync.ensures.time tells)
    (λ i left. here i (c.sync.ensures.crash tells i left))

pub returns-in-Ok-clause-safe : goal.returns-in-Ok-clause-safe
returns-in-Ok-clause-safe g c = λ tells n fits s.
    let on = c.sync.ensures.goes_on tells in
    let mid = g.D.Disk.seen c.sync.new.self in
    let there = c.sync.ensures.crash tells mid (g.met.D.Disk.shows_one c.sync.new.self on) in
    let only : Only mid (g.D.Disk.may_leave c.sync.new.self) = subst (λ (i : List ℕ). Only i (g.D.Disk.may_leave c.sync.new.self)) (sym (c.sync.ensures.seen tells)) (c.in-Ok.ensures.durable tells) in
    opening-sound n c.args.round.now mid (g.D.Disk.may_leave c.open_synced.new.disk) (c.open_synced.ensures.opening on n fits (s.long mid there) only)

pub returns-in-Ok-clause-leaves : goal.returns-in-Ok-clause-leaves
returns-in-Ok-clause-leaves g c = λ tells n fits s u i left.
    let on = c.sync.ensures.goes_on tells in
    let old = g.D.Disk.may_leave c.args.disk.now in
    let mid = g.D.Disk.seen c.sync.new.self in
    let there = c.sync.ensures.crash tells mid (g.met.D.Disk.shows_one c.sync.new.self on) in
    let only : Only mid (g.D.Disk.may_leave c.sync.new.self) = subst (λ (j : List ℕ). Only j (g.D.Disk.may_leave c.sync.new.self)) (sym (c.sync.ensures.seen tells)) (c.in-Ok.ensures.durable tells) in
    let whole : HasBodies c.args.round.now mid = subst (λ (j : List ℕ). HasBodies c.args.round.now j) (sym (c.sync.ensures.seen tells)) u.whole in
    opening-keeps n c.args.round.now mid old there whole i (c.open_synced.ensures.opening on n fits (s.long mid there) only i left)

pub returns-in-Ok-clause-outside : goal.returns-in-Ok-clause-outside
returns-in-Ok-clause-outside g c = λ tells n fits s i left.
    let on = c.sync.ensures.goes_on tells in
    let mid = g.D.Disk.seen c.sync.new.self in
    let there = c.sync.ensures.crash tells mid (g.met.D.Disk.shows_one c.sync.new.self on) in
    let only : Only mid (g.D.Disk.may_leave c.sync.new.self) = subst (λ (j : List ℕ). Only j (g.D.Disk.may_leave c.sync.new.self)) (sym (c.sync.ensures.seen tells)) (c.in-Ok.ensures.durable tells) in
    opening-outside n c.args.round.now mid (g.D.Disk.may_leave c.args.disk.now) there i (c.open_synced.ensures.opening on n fits (s.long mid there) only i left)

pub returns-in-Ok-clause-any_moment : goal.returns-in-Ok-clause-any_moment
returns-in-Ok-clause-any_moment g c = λ tells n fits s u.
    let on = c.sync.ensures.goes_on tells in
    let old = g.D.Disk.may_leave c.args.disk.now in
    let mid = g.D.Disk.seen c.sync.new.self in
    let there = c.sync.ensures.crash tells mid (g.met.D.Disk.shows_one c.sync.new.self on) in
    let only : Only mid (g.D.Disk.may_leave c.sync.new.self) = subst (λ (j : List ℕ). Only j (g.D.Disk.may_leave c.sync.new.self)) (sym (c.sync.ensures.seen tells)) (c.in-Ok.ensures.durable tells) in
    let whole : HasBodies c.args.round.now mid = subst (λ (j : List ℕ). HasBodies c.args.round.now j) (sym (c.sync.ensures.seen tells)) u.whole in
    let P = KeepsOrFills n c.args.round.now old in
    let here = λ (i : List ℕ) (left : old i). keeps-or n c.args.round.now old i (keeps-all-itself n old i left) in
    let start = started g.D.Disk.moment g.D.Disk.left_since c.args.disk.now P old (λ i left. g.met.D.Disk.only_now c.args.disk.now tells i left) here in
    let synced = goes_on g.D.Disk.moment g.D.Disk.left_since c.args.disk.now c.args.disk.now c.sync.new.self P (g.D.Disk.may_leave c.sync.new.self) start (c.sync.ensures.time tells)
    (λ i left. here i (c.sync.ensures.crash tells i left)) in
    then_on g.D.Disk.moment g.D.Disk.left_since c.args.disk.now c.sync.new.self c.open_synced.new.disk P (IsOpening n c.args.round.now mid) synced
    (c.open_synced.ensures.any_moment on n fits (s.long mid there) only) (λ i o. opening-keeps n c.args.round.now mid old there whole i o)

pub returns-in-Ok-clause-ended : goal.returns-in-Ok-clause-ended
returns-in-Ok-clause-ended g c = λ tells n fits s u.
    let on = c.sync.ensures.goes_on tells in
    let mid = g.D.Disk.seen c.sync.new.self in
    let there = c.sync.ensures.crash tells mid (g.met.D.Disk.shows_one c.sync.new.self on) in
    let only : Only mid (g.D.Disk.may_leave c.sync.new.self) = subst (λ (j : List ℕ). Only j (g.D.Disk.may_leave c.sync.new.self)) (sym (c.sync.ensures.seen tells)) (c.in-Ok.ensures.durable tells) in
    let whole : HasBodies c.args.round.now mid = subst (λ (j : List ℕ). HasBodies c.args.round.now j) (sym (c.sync.ensures.seen tells)) u.whole in
    c.open_synced.ensures.ended on n fits (s.long mid there) only whole
