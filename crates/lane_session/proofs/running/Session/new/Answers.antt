use Rattle.std.proofs.Common.{rules, refl}
use Rattle.lane_session.proofs.running.Session.new.Goals.{then-not-settings, else-not-settings}
use Rattle.lane_session.proofs.running.Session.new.Goals as goal

pub returns-clause-fresh : goal.returns-clause-fresh
returns-clause-fresh c = elim c.if-not-settings.branch [
  | then-not-settings w ↦ record {
    mounted = search rules;
    core = c.in_ok-core.ensures;
    lanes = c.in_ok-lanes.ensures;
    status = refl;
    attempts = refl;
    dropped = refl;
    earlier = refl;
  }
  | else-not-settings w ↦ record {
    mounted = search rules;
    core = c.in_ok-core.ensures;
    lanes = c.in_ok-lanes.ensures;
    status = refl;
    attempts = refl;
    dropped = refl;
    earlier = refl;
  }
]
