use Rattle.std.proofs.Common.{inl, refl, sym, subst}
use Rattle.lane_session.specs.Statuses.{IsSessionStatus}
use Rattle.pair_runs.proofs.client.Client.status.Goals as goal

pub returns-in-Open-clause-range : goal.returns-in-Open-clause-range
returns-in-Open-clause-range c = let held = rw c.in-Open.is at c.requires.stands in subst IsSessionStatus (sym c.status.ensures) held.status

pub returns-in-Open-clause-is : goal.returns-in-Open-clause-is
returns-in-Open-clause-is c = rw c.in-Open.is c.status.ensures

pub returns-in-Lost-clause-is : goal.returns-in-Lost-clause-is
returns-in-Lost-clause-is c = rw c.in-Lost.is refl

pub returns-in-Lost-clause-range : goal.returns-in-Lost-clause-range
returns-in-Lost-clause-range c = inl refl

pub returns-in-Done-clause-is : goal.returns-in-Done-clause-is
returns-in-Done-clause-is c = rw c.in-Done.is refl

pub returns-in-Done-clause-range : goal.returns-in-Done-clause-range
returns-in-Done-clause-range c = rw c.in-Done.is at c.requires.stands
