-- One entry more.
use Rattle.std.proofs.Common.{arith, subst, ℕ, ◌≡◌}
use Rattle.trace_claims.specs.Judging.{KeepsUpTo}
use Rattle.trace_claims.proofs.Judgement.{keeps-none, keeps-more, breaks-there}
use Rattle.trace_claims.proofs.beginnings.first_up_to.Goals as goal

pub loop-entry-init : goal.loop-entry-init
loop-entry-init c = record { within = omega arith; keeps = λ m origin all within. keeps-none m origin c.args.trace.now }

pub returns-in-Some : goal.returns-in-Some
returns-in-Some c m origin all within =
    let before = c.loop-entry.invariant.keeps m origin all within in
    breaks-there m origin c.args.trace.now c.args.most c.loop-entry.entry c.in-Some.broken c.loop-entry-test.true before
    (rw c.in-Some.is at (c.newly_broken.ensures m origin all (let lt = c.loop-entry-test.true in omega (arith, lt, within)) before))

pub loop-entry-preserved : goal.loop-entry-preserved
loop-entry-preserved c = record {
  within = omega (arith, c.loop-entry-test.true);
  keeps = λ m origin all within.
      let before = c.loop-entry.invariant.keeps m origin all within in
      keeps-more m origin c.args.trace.now c.loop-entry.entry before (rw c.in-None.is at (c.newly_broken.ensures m origin all (let lt = c.loop-entry-test.true in omega (arith, lt, within)) before));
}

pub returns : goal.returns
returns c m origin all within =
    subst (λ (k : ℕ). KeepsUpTo m origin c.args.trace.now k) (let is : c.loop-entry.entry ≡ c.args.most = omega (arith, c.loop-entry.invariant.within, c.loop-entry-test.false) in is) (c.loop-entry.invariant.keeps m origin all within)
