-- So far each one passes.
use Rattle.std.proofs.Common.{◌-◌, ◌≡◌, ◌≤◌, true}
use Rattle.std.specs.Prelude.{not}
use Rattle.trace_rules.specs.Decided.{all_below}
use Rattle.trace_data.specs.Histories.{verf_at}
use Rattle.trace_rules.specs.Restarting.{same_verf}
use Rattle.trace_rules.proofs.restarts.new_verf.Given as goal

abbrev pub invariant-loop-moment : goal.invariant-loop-moment
invariant-loop-moment l = record {
  within : l.moment ≤ l.count;
  all : all_below (λ m. not (same_verf (verf_at l.first l.updates m) l.verf)) l.moment ≡ true;
}

abbrev pub decreases-loop-moment : goal.decreases-loop-moment
decreases-loop-moment l = l.count - l.moment
