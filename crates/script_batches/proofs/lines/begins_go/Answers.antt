use Rattle.std.proofs.Common.{rules, sym}
use Rattle.script_batches.proofs.TextLines.{no-go-none}
use Rattle.script_batches.proofs.lines.begins_go.Goals as goal

pub returns-then-is_empty : goal.returns-then-is_empty
returns-then-is_empty c = sym (no-go-none c.args.text.now (search rules))
