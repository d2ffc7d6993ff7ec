use Rattle.copy_scripts.specs.Uploads.{OnlyWrong}
use Rattle.copy_scripts.proofs.upload.Upload.judge_names.Given as goal

abbrev pub invariant-loop-at : goal.invariant-loop-at
invariant-loop-at g l = OnlyWrong l.fn.self l.self
