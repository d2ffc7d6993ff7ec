use Rattle.std.proofs.Common.{◌∙◌, ap, sym, Some, rules}
use Rattle.nfs_script.proofs.ReadOn.{too_many, few_enough}
use Rattle.nfs_script.proofs.script.lines_fault.Goals as goal

pub returns-then-number-last : goal.returns-then-number-last
returns-then-number-last c = ap Some c.at-then-number-last.ensures ∙ sym (c.loop-rest.invariant.fault ∙ too_many c.args.last c.loop-rest.number c.loop-rest.rest.now (search rules) (search rules))

pub returns : goal.returns
returns c = sym (c.loop-rest.invariant.fault ∙ few_enough c.args.last c.loop-rest.number c.loop-rest.rest.now (search rules) (search rules))
