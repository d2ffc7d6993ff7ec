use Rattle.std.proofs.Common.{◌<◌, ◌≤◌, ℕ, length, refl, arith}
use Rattle.std.proofs.lemmas.Option.{slice_get_read}
use Rattle.page_store.specs.Rounds.{IsOpening}
use Rattle.page_store.proofs.Moments.{started, then_on}
use Rattle.page_store.proofs.RoundLemmas.{opening-first, open-more, filled-low, place-low}
use Rattle.page_store.proofs.rounds.lay_open.Goals as goal

pub loop-slot-init : goal.loop-slot-init
loop-slot-init g c = record {
  opening = λ tells n fits long only. opening-first n c.args.round.now (g.D.Disk.seen c.args.disk.now) (g.D.Disk.may_leave c.args.disk.now) long only;
  any_moment = λ tells n fits long only.
      started g.D.Disk.moment g.D.Disk.left_since c.args.disk.now (IsOpening n c.args.round.now (g.D.Disk.seen c.args.disk.now)) (g.D.Disk.may_leave c.args.disk.now)
      (λ i left. g.met.D.Disk.only_now c.args.disk.now tells i left)
      (opening-first n c.args.round.now (g.D.Disk.seen c.args.disk.now) (g.D.Disk.may_leave c.args.disk.now) long only);
  opened = λ tells k page low filled. absurd (omega (arith, low));
  goes_on = λ tells. tells;
  later = omega arith;
}

pub loop-slot-preserved : goal.loop-slot-preserved
loop-slot-preserved g c =
    let inv = c.loop-slot.invariant in
    let image = g.D.Disk.seen c.args.disk.now in
    let low : (n : ℕ) → length c.args.round.now ≤ n → c.loop-slot.slot < n = λ n fits. place-low c.args.round.now c.loop-slot.slot n c.loop-slot-test.true fits in
    let there = slice_get_read c.args.round.now (length c.args.round.now) c.loop-slot.slot c.index-round-slot.result refl c.loop-slot-test.true c.index-round-slot.is in
    record {
      opening = λ tells n fits long only. c.open_one.ensures.opening (inv.goes_on tells) n (low n fits) c.args.round.now there image (inv.opening tells n fits long only);
      any_moment = λ tells n fits long only.
          then_on g.D.Disk.moment g.D.Disk.left_since c.args.disk.now c.loop-slot.disk c.open_one.new.disk (IsOpening n c.args.round.now image) (IsOpening n c.args.round.now image)
          (inv.any_moment tells n fits long only)
          (c.open_one.ensures.any_moment (inv.goes_on tells) n (low n fits) c.args.round.now there image (inv.opening tells n fits long only)) (λ i o. o);
      opened = λ tells.
          open-more c.args.round.now c.loop-slot.slot c.index-round-slot.result (g.D.Disk.seen c.loop-slot.disk) (g.D.Disk.seen c.open_one.new.disk) there (inv.opened tells)
          (c.in-Ok.ensures.stay (inv.goes_on tells)) (c.in-Ok.ensures.opened (inv.goes_on tells));
      goes_on = λ tells. c.open_one.ensures.goes_on (inv.goes_on tells);
      later = let so_far = inv.later in let this = c.open_one.ensures.cause.later in omega (arith, so_far, this);
    }

pub returns-in-Err-clause-opening : goal.returns-in-Err-clause-opening
returns-in-Err-clause-opening g c = λ tells n fits long only.
    let inv = c.loop-slot.invariant in
    let low : c.loop-slot.slot < n = place-low c.args.round.now c.loop-slot.slot n c.loop-slot-test.true fits in
    let there = slice_get_read c.args.round.now (length c.args.round.now) c.loop-slot.slot c.index-round-slot.result refl c.loop-slot-test.true c.index-round-slot.is in
    c.open_one.ensures.opening (inv.goes_on tells) n low c.args.round.now there (g.D.Disk.seen c.args.disk.now) (inv.opening tells n fits long only)

pub returns-in-Err-clause-any_moment : goal.returns-in-Err-clause-any_moment
returns-in-Err-clause-any_moment g c = λ tells n fits long only.
    let inv = c.loop-slot.invariant in
    let image = g.D.Disk.seen c.args.disk.now in
    let low : c.loop-slot.slot < n = place-low c.args.round.now c.loop-slot.slot n c.loop-slot-test.true fits in
    let there = slice_get_read c.args.round.now (length c.args.round.now) c.loop-slot.slot c.index-round-slot.result refl c.loop-slot-test.true c.index-round-slot.is in
    then_on g.D.Disk.moment g.D.Disk.left_since c.args.disk.now c.loop-slot.disk c.open_one.new.disk (IsOpening n c.args.round.now image) (IsOpening n c.args.round.now image)
    (inv.any_moment tells n fits long only)
    (c.open_one.ensures.any_moment (inv.goes_on tells) n low c.args.round.now there image (inv.opening tells n fits long only)) (λ i o. o)

pub returns-clause-opened : goal.returns-clause-opened
returns-clause-opened g c = λ tells k page filled.
    let inv = c.loop-slot.invariant in
    inv.opened tells k page (filled-low c.args.round.now c.loop-slot.slot k page (let done = c.loop-slot-test.false in omega (arith, done)) filled) filled
