-- One operation more.
use Rattle.std.proofs.Common.{ℕ, ◌+◌, ◌≡◌, Option, Some, slice_get, length, refl, sym, subst, arith}
use Rattle.std.proofs.lemmas.Grind.{common_steps}
use Rattle.std.proofs.lemmas.Option.{slice_get_read}
use Rattle.trace_claims.specs.Settling.{Settles, sooner}
use Rattle.trace_claims.proofs.Soonest.{settles-none, settles-more}
use Rattle.trace_claims.proofs.firm.settling.Goals as goal

pub loop-at-init : goal.loop-at-init
loop-at-init c = record {
  within = omega arith;
  known = subst (λ (o : Option ℕ). Settles c.args.operations.now c.args.entries c.args.written.now c.args.file.now 0 o) (sym c.own_end-least.ensures)
      (settles-none c.args.operations.now c.args.entries c.args.written.now c.args.file.now);
}

pub loop-at-preserved : goal.loop-at-preserved
loop-at-preserved c =
    let at : slice_get c.args.operations.now c.loop-at.at ≡ Some c.index-operations-at.result = slice_get_read c.args.operations.now (length c.args.operations.now) c.loop-at.at c.index-operations-at.result refl c.loop-at-test.true c.index-operations-at.is in
    record {
      within = grind (arith, common_steps);
      known = subst (λ (o : Option ℕ). Settles c.args.operations.now c.args.entries c.args.written.now c.args.file.now (c.loop-at.at + 1) o) (sym c.sooner-least.ensures)
          (subst (λ (o : Option ℕ). Settles c.args.operations.now c.args.entries c.args.written.now c.args.file.now (c.loop-at.at + 1) (sooner c.loop-at.least o)) (sym c.settles_at.ensures)
          (settles-more c.args.operations.now c.args.entries c.args.written.now c.args.file.now c.loop-at.at c.index-operations-at.result c.loop-at.least at c.loop-at.invariant.known));
    }

pub returns : goal.returns
returns c = subst (λ (k : ℕ). Settles c.args.operations.now c.args.entries c.args.written.now c.args.file.now k c.loop-at.least) (let is : c.loop-at.at ≡ length c.args.operations.now = omega (arith, c.loop-at.invariant.within, c.loop-at-test.false) in is) c.loop-at.invariant.known
