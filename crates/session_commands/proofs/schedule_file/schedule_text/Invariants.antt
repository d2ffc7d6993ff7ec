use Rattle.std.proofs.Common.{vec_len, ◌-◌}
use Rattle.session_commands.proofs.schedule_file.schedule_text.Given as goal

abbrev pub decreases-loop-piece : goal.decreases-loop-piece
decreases-loop-piece l = 1048577 - vec_len l.text
