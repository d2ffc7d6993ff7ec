-- So far no place passes.
use Rattle.std.proofs.Common.{length, ◌-◌, ◌≡◌, ◌≤◌, false}
use Rattle.trace_rules.specs.Decided.{any_below}
use Rattle.trace_steps.specs.NameTests.{makes_at}
use Rattle.trace_steps.proofs.name_service.makes_among.Given as goal

abbrev pub invariant-loop-place : goal.invariant-loop-place
invariant-loop-place l = record {
  within : l.place ≤ length l.new;
  none : any_below (λ k. makes_at l.trace l.entry l.call l.dir l.name l.old l.new k) l.place ≡ false;
}

abbrev pub decreases-loop-place : goal.decreases-loop-place
decreases-loop-place l = length l.new - l.place
