use Rattle.std.proofs.Common.{All, sym, rules, arith}
use Rattle.nfs_script.specs.Asked.{IsAskedLine}
use Rattle.nfs_script.specs.Script.{script_by, IsParsed}
use Rattle.nfs_script.proofs.ReadOn.{short_text, long_text}
use Rattle.nfs_script.proofs.Within.{script_bounds, script_few, parsed_so, AtMost}
use Rattle.nfs_script.proofs.script.read_by.Goals as goal

pub returns-then-text-gt-MOST_BYTES-clause-read : goal.returns-then-text-gt-MOST_BYTES-clause-read
returns-then-text-gt-MOST_BYTES-clause-read c = rw c.at.ensures (long_text c.args.last c.args.before c.args.text.now (search rules))

pub returns-clause-read : goal.returns-clause-read
returns-clause-read c = rw (short_text c.args.last c.args.before c.args.text.now (search rules)) c.read_lines.ensures

pub returns-clause-asked : goal.returns-clause-asked
returns-clause-asked c = parsed_so (All IsAskedLine) (script_by c.args.last c.args.before c.args.text.now) c.read_lines.result (rw (short_text c.args.last c.args.before c.args.text.now (search rules)) c.read_lines.ensures) (script_bounds c.args.last c.args.before c.args.text.now c.requires.within)

pub returns-clause-few : goal.returns-clause-few
returns-clause-few c = parsed_so (AtMost 16384) (script_by c.args.last c.args.before c.args.text.now) c.read_lines.result (rw (short_text c.args.last c.args.before c.args.text.now (search rules)) c.read_lines.ensures) (script_few c.args.last c.args.before c.args.text.now c.requires.near)
