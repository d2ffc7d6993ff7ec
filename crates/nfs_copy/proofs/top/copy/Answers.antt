use Rattle.std.proofs.Common.{◌≡◌, [], subst, sym, arith}
use Rattle.world_model.specs.Told.{Relates}
use Rattle.nfs_copy.specs.Promises.{Copies, IfTold, Missed}
use Rattle.nfs_copy.proofs.Calls.{tells-right, tells-wrong}
use Rattle.nfs_copy.proofs.Missing.{missed-copy}
use Rattle.nfs_copy.proofs.Whole.{whole-copy}
use Rattle.nfs_copy.proofs.top.copy.Goals as goal

pub returns-clause-copied : goal.returns-clause-copied
returns-clause-copied g c = λ zero_is start.
    subst (λ t. IfTold (g.T.Tree.given t) (λ given. Relates (g.L.Link.told c.args.link.now) (g.L.Link.told c.run_with-status.new.link) (λ before h. before ≡ [] →
    g.T.Tree.over t × Copies c.args.settings.now c.args.to given h))) (sym c.into_tree.ensures)
    (whole-copy g.T.Tree.given g.T.Tree.over c.args.settings.now c.args.to c.args.tree c.run_with-status.new.asker.upload c.run_with-status.new.asker.tree
    (g.L.Link.told c.args.link.now) (g.L.Link.told c.run_with-status.new.link) _ c.run_with-status.result zero_is (tells-right _ _ (c.run_with-status.ensures.tells (omega (arith, zero_is))) zero_is) start c.new.result c.new.ensures
    c.run_with-status.ensures.headline.2)

pub returns-clause-missed : goal.returns-clause-missed
returns-clause-missed g c = λ one start.
    subst (λ t. IfTold (g.T.Tree.given t) (λ given. Relates (g.L.Link.told c.args.link.now) (g.L.Link.told c.run_with-status.new.link) (λ before h. before ≡ [] →
    Missed c.args.to given h))) (sym c.into_tree.ensures)
    (missed-copy g.T.Tree.given g.T.Tree.over c.args.settings.now c.args.to c.args.tree c.run_with-status.new.asker.upload c.run_with-status.new.asker.tree
    (g.L.Link.told c.args.link.now) (g.L.Link.told c.run_with-status.new.link) _ c.run_with-status.result one (tells-wrong _ _ (c.run_with-status.ensures.tells (omega (arith, one))) one) start
    c.new.result c.new.ensures c.run_with-status.ensures.headline.2)
