use Rattle.std.proofs.Common.{◌<◌, ◌≤◌, ℕ, length, refl, arith}
use Rattle.std.proofs.lemmas.Option.{slice_get_read}
use Rattle.std.proofs.lemmas.Result.{on_ok_weaker}
use Rattle.page_store.specs.Slots.{IsFrom}
use Rattle.page_store.proofs.Moments.{goes_on, then_on}
use Rattle.page_store.proofs.Torn.{fewer}
use Rattle.page_store.proofs.Gates.{from-from}
use Rattle.page_store.proofs.RoundLemmas.{outside-then, shut-more, read-shut, place-low}
use Rattle.page_store.proofs.rounds.close_gates.Goals as goal

pub loop-slot-preserved : goal.loop-slot-preserved
loop-slot-preserved g c =
    let inv = c.loop-slot.invariant in
    let slot = c.loop-slot.slot in
    let old = g.D.Disk.may_leave c.args.disk.now in
    let mid = g.D.Disk.may_leave c.loop-slot.disk in
    let low : (n : ℕ) → length c.args.round.now ≤ n → c.loop-slot.slot < n = λ n fits. place-low c.args.round.now c.loop-slot.slot n c.loop-slot-test.true fits in
    let there = slice_get_read c.args.round.now (length c.args.round.now) c.loop-slot.slot c.index-round-slot.result refl c.loop-slot-test.true c.index-round-slot.is in
    record {
      safe = λ tells n fits s. c.shut_one.ensures.safe (inv.goes_on tells) n (low n fits) (inv.safe tells n fits s);
      leaves = λ tells n fits s i left. from-from n old mid (inv.leaves tells n fits s) i (c.shut_one.ensures.leaves (inv.goes_on tells) n (low n fits) (inv.safe tells n fits s) i left);
      outside = λ tells n fits s i left.
          outside-then n c.args.round.now old mid (inv.outside tells n fits s) i
          (c.shut_one.ensures.outside (inv.goes_on tells) n (low n fits) (inv.safe tells n fits s) c.args.round.now there i left);
      any_moment = λ tells n fits s.
          then_on g.D.Disk.moment g.D.Disk.left_since c.args.disk.now c.loop-slot.disk c.shut_one.new.disk (IsFrom n old) (IsFrom n mid) (inv.any_moment tells n fits s)
          (c.shut_one.ensures.any_moment (inv.goes_on tells) n (low n fits) (inv.safe tells n fits s)) (λ i from. from-from n old mid (inv.leaves tells n fits s) i from);
      reads = λ tells.
          shut-more c.args.round.now slot c.index-round-slot.result (g.D.Disk.seen c.loop-slot.disk) (g.D.Disk.seen c.shut_one.new.disk) there (inv.reads tells)
          (c.in-Ok.ensures.reads (inv.goes_on tells));
      goes_on = λ tells. c.shut_one.ensures.goes_on (inv.goes_on tells);
      later = let so_far = inv.later in let this = c.shut_one.ensures.cause.later in omega (arith, so_far, this);
    }

pub returns-in-Err-clause-safe : goal.returns-in-Err-clause-safe
returns-in-Err-clause-safe g c = λ tells n fits s.
    let inv = c.loop-slot.invariant in
    let low : c.loop-slot.slot < n = place-low c.args.round.now c.loop-slot.slot n c.loop-slot-test.true fits in
    c.shut_one.ensures.safe (inv.goes_on tells) n low (inv.safe tells n fits s)

pub returns-in-Err-clause-leaves : goal.returns-in-Err-clause-leaves
returns-in-Err-clause-leaves g c = λ tells n fits s i left.
    let inv = c.loop-slot.invariant in
    let low : c.loop-slot.slot < n = place-low c.args.round.now c.loop-slot.slot n c.loop-slot-test.true fits in
    from-from n (g.D.Disk.may_leave c.args.disk.now) (g.D.Disk.may_leave c.loop-slot.disk) (inv.leaves tells n fits s) i (c.shut_one.ensures.leaves (inv.goes_on tells) n low (inv.safe tells n fits s) i left)

pub returns-in-Err-clause-outside : goal.returns-in-Err-clause-outside
returns-in-Err-clause-outside g c = λ tells n fits s i left.
    let inv = c.loop-slot.invariant in
    let low : c.loop-slot.slot < n = place-low c.args.round.now c.loop-slot.slot n c.loop-slot-test.true fits in
    let there = slice_get_read c.args.round.now (length c.args.round.now) c.loop-slot.slot c.index-round-slot.result refl c.loop-slot-test.true c.index-round-slot.is in
    outside-then n c.args.round.now (g.D.Disk.may_leave c.args.disk.now) (g.D.Disk.may_leave c.loop-slot.disk) (inv.outside tells n fits s) i
    (c.shut_one.ensures.outside (inv.goes_on tells) n low (inv.safe tells n fits s) c.args.round.now there i left)

pub returns-in-Err-clause-any_moment : goal.returns-in-Err-clause-any_moment
returns-in-Err-clause-any_moment g c = λ tells n fits s.
    let inv = c.loop-slot.invariant in
    let old = g.D.Disk.may_leave c.args.disk.now in
    let mid = g.D.Disk.may_leave c.loop-slot.disk in
    let low : c.loop-slot.slot < n = place-low c.args.round.now c.loop-slot.slot n c.loop-slot-test.true fits in
    then_on g.D.Disk.moment g.D.Disk.left_since c.args.disk.now c.loop-slot.disk c.shut_one.new.disk (IsFrom n old) (IsFrom n mid) (inv.any_moment tells n fits s)
    (c.shut_one.ensures.any_moment (inv.goes_on tells) n low (inv.safe tells n fits s)) (λ i from. from-from n old mid (inv.leaves tells n fits s) i from)

pub returns-clause-safe : goal.returns-clause-safe
returns-clause-safe g c = λ tells n fits s.
    let inv = c.loop-slot.invariant in
    fewer n (g.D.Disk.may_leave c.loop-slot.disk) (g.D.Disk.may_leave c.sync.new.self) (inv.safe tells n fits s) (c.sync.ensures.crash (inv.goes_on tells))

pub returns-clause-leaves : goal.returns-clause-leaves
returns-clause-leaves g c = λ tells n fits s i left.
    let inv = c.loop-slot.invariant in
    inv.leaves tells n fits s i (c.sync.ensures.crash (inv.goes_on tells) i left)

pub returns-clause-outside : goal.returns-clause-outside
returns-clause-outside g c = λ tells n fits s i left.
    let inv = c.loop-slot.invariant in
    inv.outside tells n fits s i (c.sync.ensures.crash (inv.goes_on tells) i left)

pub returns-clause-any_moment : goal.returns-clause-any_moment
returns-clause-any_moment g c = λ tells n fits s.
    let inv = c.loop-slot.invariant in
    let old = g.D.Disk.may_leave c.args.disk.now in
    goes_on g.D.Disk.moment g.D.Disk.left_since c.args.disk.now c.loop-slot.disk c.sync.new.self (IsFrom n old) (g.D.Disk.may_leave c.sync.new.self) (inv.any_moment tells n fits s)
    (c.sync.ensures.time (inv.goes_on tells)) (λ i left. inv.leaves tells n fits s i (c.sync.ensures.crash (inv.goes_on tells) i left))

pub returns-clause-shut : goal.returns-clause-shut
returns-clause-shut g c = λ tells n fits s.
    let inv = c.loop-slot.invariant in
    on_ok_weaker c.sync.result
    (λ only. read-shut c.args.round.now c.loop-slot.slot (g.D.Disk.seen c.loop-slot.disk) (g.D.Disk.may_leave c.sync.new.self) (let done = c.loop-slot-test.false in omega (arith, done)) only (inv.reads tells))
    (c.sync.ensures.durable (inv.goes_on tells))
