-- So far no length passes.
use Rattle.std.proofs.Common.{length, suc, ◌-◌, ◌≡◌, ◌≤◌, false}
use Rattle.trace_rules.specs.Decided.{any_below}
use Rattle.trace_steps.specs.TurnTests.{is_begun}
use Rattle.trace_steps.proofs.turning.is_broken.Given as goal

abbrev pub invariant-loop-count : goal.invariant-loop-count
invariant-loop-count l = record {
  within : l.count ≤ suc (length l.bytes);
  none : any_below (λ k. is_begun l.offset l.bytes l.now l.stable l.later l.steady k) l.count ≡ false;
}

abbrev pub decreases-loop-count : goal.decreases-loop-count
decreases-loop-count l = suc (length l.bytes) - l.count
