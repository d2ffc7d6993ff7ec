use Rattle.std.proofs.Common.{ap, arith}
use Rattle.write_back.specs.Ages.{written_by}
use Rattle.write_back.proofs.Losing.{fewer-changed, less-changed, written-return, less-return, fewer-part, less-part}
use Rattle.write_back.proofs.file_bytes.land_part.Goals as goal

pub returns-then-len-count-clause-fewer : goal.returns-then-len-count-clause-fewer
returns-then-len-count-clause-fewer c = fewer-changed c.args.change _ _ c.args.spans.now c.change_between.new.spans c.change_between.ensures.after

pub returns-then-len-count-clause-less : goal.returns-then-len-count-clause-less
returns-then-len-count-clause-less c = less-changed c.args.change _ _ c.args.spans.now c.change_between.new.spans c.args.ages.now c.change_between.new.ages c.change_between.ensures.after c.change_between.ensures.less

pub returns-in-Err-clause-fewer : goal.returns-in-Err-clause-fewer
returns-in-Err-clause-fewer c n = omega (arith, written-return _ _ c.split.new.self c.change.new.self c.change.ensures.after n, ap (written_by n) c.in-Err.ensures.err)

pub returns-in-Err-clause-less : goal.returns-in-Err-clause-less
returns-in-Err-clause-less c = less-return _ _ c.args.spans.now c.split.new.self c.change.new.self c.args.ages.now c.in-Err.ensures.err c.change.ensures.after

pub returns-clause-fewer : goal.returns-clause-fewer
returns-clause-fewer c = fewer-part c.args.change _ _ _ c.args.spans.now c.split.new.self c.change_between-2.new.spans c.change-2.new.self c.in_default.ensures.ok c.change_between-2.ensures.after c.change-2.ensures.after

pub returns-clause-less : goal.returns-clause-less
returns-clause-less c =
    less-part c.args.change _ _ _ c.args.spans.now c.split.new.self c.change_between-2.new.spans c.change-2.new.self c.in_default.ensures.ok c.change_between-2.ensures.after c.change-2.ensures.after
    c.args.ages.now c.change_between-2.new.ages c.change_between-2.ensures.less
