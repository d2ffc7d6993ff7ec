-- So far no place passes.
use Rattle.std.proofs.Common.{length, ◌-◌, ◌≡◌, ◌≤◌, false}
use Rattle.trace_rules.specs.Decided.{any_below}
use Rattle.trace_steps.specs.NameTests.{links_at}
use Rattle.trace_steps.proofs.name_service.links_among.Given as goal

abbrev pub invariant-loop-place : goal.invariant-loop-place
invariant-loop-place l = record {
  within : l.place ≤ length l.new;
  none : any_below (λ k. links_at l.file l.name l.old l.new k) l.place ≡ false;
}

abbrev pub decreases-loop-place : goal.decreases-loop-place
decreases-loop-place l = length l.new - l.place
