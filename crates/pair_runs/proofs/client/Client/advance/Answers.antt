use Rattle.pair_runs.proofs.Turning.{some-never}
use Rattle.pair_runs.proofs.AtEnds.{rest-on}
use Rattle.std.proofs.Common.{Some}
use Rattle.pair_runs.proofs.client.Client.advance.Goals as goal

pub session_turn-requires-clause-held : goal.session_turn-requires-clause-held
session_turn-requires-clause-held g c = rw c.in-Open.is at c.requires.stands

pub returns-in-Open-clause-less : goal.returns-in-Open-clause-less
returns-in-Open-clause-less g c = rw c.in-Open.is c.session_turn.ensures.less

pub returns-in-Open-clause-goes : goal.returns-in-Open-clause-goes
returns-in-Open-clause-goes g c = rw c.in-Open.is c.session_turn.ensures.goes

-- ---- its session was lost in its set-up

pub returns-in-Lost-clause-goes : goal.returns-in-Lost-clause-goes
returns-in-Lost-clause-goes g c = rw c.in-Lost.is c.lost_turn.ensures.goes

-- ---- it is done

pub returns-in-Done-clause-stands : goal.returns-in-Done-clause-stands
returns-in-Done-clause-stands g c = rw c.in-Done.is at c.requires.stands

pub returns-in-Done-clause-less : goal.returns-in-Done-clause-less
returns-in-Done-clause-less g c = λ e. absurd (some-never _ e)

pub returns-in-Done-clause-goes : goal.returns-in-Done-clause-goes
returns-in-Done-clause-goes g c = rw c.in-Done.is (rest-on _ c.args.self.now.script _ (Some c.in-Done.status) _ _ _)
