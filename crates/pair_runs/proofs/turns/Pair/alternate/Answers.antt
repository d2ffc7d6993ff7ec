use Rattle.std.proofs.Common.{arith, Bool, Ok, Err}
use Rattle.lane_session.proofs.Outcomes.{caused-later}
use Rattle.pair_runs.proofs.Both.{pair-none, pair-then}
use Rattle.pair_runs.proofs.Passages.{passes-same, passes-then}
use Rattle.pair_runs.proofs.turns.Pair.alternate.Goals as goal

pub alternating-init : goal.alternating-init
alternating-init g c = record { ready = c.requires; honest = λ x. x; later = omega arith; goes = passes-same _ _ _ _ (λ h. pair-none {T = Unit {0}} (tt {0}) c.args.self.now h) }

pub alternating-smaller : goal.alternating-smaller
alternating-smaller g c = c.in-Ok.ensures.less c.if-not-went.false

pub alternating-preserved : goal.alternating-preserved
alternating-preserved g c =
    let i = c.alternating.invariant in
    let r = c.in-Ok.ensures in
    record {
      ready = r.ready;
      honest = λ x. r.honest (i.honest x);
      later = let a = i.later in let b = r.later in omega (arith, a, b);
      goes = passes-then _ _ _ _ _ _ _ _ _ _ _ _ (λ g1 g2 t u h k l p q. pair-then {T = Unit {0}} {U = Unit {0}} c.args.self.now c.alternating.self c.take_turns.new.self (tt {0}) g1 t g2 u h k l p (Ok (tt {0})) q) i.goes r.goes;
    }

pub returns-in-Err-clause-cause : goal.returns-in-Err-clause-cause
returns-in-Err-clause-cause g c = caused-later Bool (Unit {0}) c.in-Err.halt _ _ _ c.alternating.invariant.later c.in-Err.ensures.cause

pub returns-then-not-went-clause-goes : goal.returns-then-not-went-clause-goes
returns-then-not-went-clause-goes g c = passes-then _ _ _ _ _ _ _ _ _ _ _ _ (λ g1 g2 t u h k l p q. pair-then {T = Unit {0}} {U = Unit {0}} c.args.self.now c.alternating.self c.take_turns.new.self (tt {0}) g1 t g2 u h k l p (Ok (tt {0})) q) c.alternating.invariant.goes c.in-Ok.ensures.goes

pub returns-in-Err-clause-goes : goal.returns-in-Err-clause-goes
returns-in-Err-clause-goes g c = passes-then _ _ _ _ _ _ _ _ _ _ _ _ (λ g1 g2 t u h k l p q. pair-then {T = Unit {0}} {U = Unit {0}} c.args.self.now c.alternating.self c.take_turns.new.self (tt {0}) g1 t g2 u h k l p (Err c.in-Err.halt) q) c.alternating.invariant.goes c.in-Err.ensures.goes
