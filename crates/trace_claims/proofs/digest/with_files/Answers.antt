-- One operation more.
use Rattle.std.proofs.Common.{ℕ, List, ◌+◌, ◌≡◌, Some, slice_get, length, refl, sym, subst, arith}
use Rattle.std.proofs.lemmas.Grind.{common_steps}
use Rattle.std.proofs.lemmas.Option.{slice_get_read}
use Rattle.trace_claims.specs.declared.operations.Operation.{Operation}
use Rattle.trace_claims.specs.Assembled.{OperationsUpTo}
use Rattle.trace_claims.proofs.Assembling.{ops-none, ops-more, ops-all}
use Rattle.trace_claims.proofs.digest.with_files.Goals as goal

pub loop-at-init : goal.loop-at-init
loop-at-init c = record { within = omega arith; so_far = λ m origin named heard roots. subst (λ (l : List Operation). OperationsUpTo m origin c.args.entries.now c.args.named.now 0 l) (sym c.new-all.ensures.items) (ops-none m origin c.args.entries.now c.args.named.now) }

pub loop-at-preserved : goal.loop-at-preserved
loop-at-preserved c =
    let at : slice_get c.args.named.now c.loop-at.at ≡ Some c.index-named-at.result = slice_get_read c.args.named.now (length c.args.named.now) c.loop-at.at c.index-named-at.result refl c.loop-at-test.true c.index-named-at.is in
    record {
      within = grind (arith, common_steps);
      so_far = λ m origin named heard roots. subst (λ (l : List Operation). OperationsUpTo m origin c.args.entries.now c.args.named.now (c.loop-at.at + 1) l) (sym c.in_ok-add_operation.ensures)
          (ops-more m origin c.args.entries.now c.args.named.now c.loop-at.at c.index-named-at.result c.in_ok-operation.operation c.loop-at.all.items at
          (c.in_ok-operation.ensures m origin named (named.each c.loop-at.at c.index-named-at.result at) heard roots) (c.loop-at.invariant.so_far m origin named heard roots));
    }

pub returns : goal.returns
returns c m origin named heard roots =
    ops-all m origin c.args.entries.now c.args.named.now c.loop-at.all.items named
    (subst (λ (k : ℕ). OperationsUpTo m origin c.args.entries.now c.args.named.now k c.loop-at.all.items) (let is : c.loop-at.at ≡ length c.args.named.now = omega (arith, c.loop-at.invariant.within, c.loop-at-test.false) in is) (c.loop-at.invariant.so_far m origin named heard roots))
