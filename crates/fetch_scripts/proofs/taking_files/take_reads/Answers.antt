use Rattle.std.proofs.Common.{◌∙◌, refl}
use Rattle.fetch_scripts.proofs.Givings.{gave-none, no-reads, reads-go, reads-stop}
use Rattle.fetch_scripts.proofs.taking_files.take_reads.Goals as goal

pub loop-at-init : goal.loop-at-init
loop-at-init g c = record { took = gave-none _ _ (no-reads c.args.answers.now.text.now c.args.span.now); from = refl }

pub returns-then-not-is_taken-clause-took : goal.returns-then-not-is_taken-clause-took
returns-then-not-is_taken-clause-took g c = reads-stop _ _ _ _ _ _ _ _ c.if-not-is_taken.true c.loop-at.invariant.took c.in_ok-is_taken.ensures.took

pub loop-at-preserved : goal.loop-at-preserved
loop-at-preserved g c = record {
  took = reads-go _ _ _ _ _ _ _ c.if-not-is_taken.false c.loop-at.invariant.took c.in_ok-is_taken.ensures.took;
  from = c.in_ok-is_taken.ensures.from ∙ c.loop-at.invariant.from;
}
