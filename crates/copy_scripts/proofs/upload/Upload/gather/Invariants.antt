use Rattle.copy_scripts.specs.Uploads.{Gave, Takes}
use Rattle.copy_scripts.proofs.upload.Upload.gather.Given as goal

abbrev pub invariant-loop : goal.invariant-loop
invariant-loop g l = Gave (g.T.Tree.given l.fn.tree) (g.T.Tree.given l.tree) (λ given. Takes given l.fn.self l.self)
