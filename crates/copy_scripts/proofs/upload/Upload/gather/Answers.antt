use Rattle.copy_scripts.proofs.Uploads.{gave-then}
use Rattle.copy_scripts.proofs.upload.Upload.gather.Goals as goal

pub returns-then-is_over-clause-takes : goal.returns-then-is_over-clause-takes
returns-then-is_over-clause-takes g c =
    gave-then (g.T.Tree.given c.args.tree.now) (g.T.Tree.given c.loop.tree) (g.T.Tree.given c.take_one.new.tree) c.args.self.now c.loop.self c.take_one.new.self c.loop.invariant
    c.in_ok-is_over.ensures.takes

pub loop-preserved : goal.loop-preserved
loop-preserved g c =
    gave-then (g.T.Tree.given c.args.tree.now) (g.T.Tree.given c.loop.tree) (g.T.Tree.given c.take_one.new.tree) c.args.self.now c.loop.self c.take_one.new.self c.loop.invariant
    c.in_ok-is_over.ensures.takes
