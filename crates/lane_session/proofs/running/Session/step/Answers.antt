use Rattle.lane_session.proofs.Outcomes.{ok-map, if-ok-map, only-memory}
use Rattle.lane_session.proofs.Passing.{passes_says, passes_reads}
use Rattle.lane_session.proofs.running.Session.step.Goals as goal

pub returns-in-Some-clause-held : goal.returns-in-Some-clause-held
returns-in-Some-clause-held g c = ok-map c.end.result _ _ (λ f. f c.args.script.now c.requires.held) c.end.ensures.held

pub returns-in-Some-clause-steps : goal.returns-in-Some-clause-steps
returns-in-Some-clause-steps g c = if-ok-map c.end.result _ _ (λ went f. f c.args.script.now c.requires.held) c.end.ensures.steps

pub returns-in-Some-clause-goes : goal.returns-in-Some-clause-goes
returns-in-Some-clause-goes g c = passes_says _ _ _ _ _ _ _ (λ t h k f. f c.args.script.now c.requires.held) c.end.ensures.goes

pub returns-in-None-clause-goes : goal.returns-in-None-clause-goes
returns-in-None-clause-goes g c = passes_reads _ _ _ _ _ _ _ (λ given h k x. x c.args.label.now) c.begin.ensures.goes

pub returns-in-None-clause-cause : goal.returns-in-None-clause-cause
returns-in-None-clause-cause g c = only-memory c.begin.result _ c.begin.ensures.only
