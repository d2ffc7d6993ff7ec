use Rattle.pair_runs.proofs.Both.{pair-then}
use Rattle.pair_runs.proofs.Passages.{passes-then}
use Rattle.pair_runs.proofs.turns.Pair.run.Goals as goal

pub returns-in-Ok-clause-goes : goal.returns-in-Ok-clause-goes
returns-in-Ok-clause-goes g c =
    passes-then _ _ _ _ _ _ _ _ _ _ _ _ (λ g1 g2 t u h k l p q. pair-then {T = Unit {0}} {U = Unit {0}} c.args.self.now c.follow.new.self c.alternate.new.self (tt {0}) g1 t g2 u h k l p c.alternate.result q) c.in-Ok.ensures.goes c.alternate.ensures.goes
