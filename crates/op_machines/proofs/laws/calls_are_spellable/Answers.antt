use Rattle.op_machines.proofs.AllLaws.{starts-spell, resumes-spell, takes-spell}
use Rattle.op_machines.proofs.laws.calls_are_spellable.Goals as goal

pub returns-clause-start : goal.returns-clause-start
returns-clause-start c = starts-spell

pub returns-clause-resume : goal.returns-clause-resume
returns-clause-resume c = resumes-spell

pub returns-clause-took : goal.returns-clause-took
returns-clause-took c = takes-spell
