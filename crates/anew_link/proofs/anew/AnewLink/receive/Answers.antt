use Rattle.anew_link.proofs.Splits.{count-then, tells-anew}
use Rattle.anew_link.proofs.anew.AnewLink.receive.Goals as goal

pub returns-clause-told : goal.returns-clause-told
returns-clause-told g c =
    tells-anew c.args.self.now.own c.came.result (g.L.Link.told c.args.self.now.link.now) (g.L.Link.told c.receive-result.new.self) _ (c.came.ensures c.receive-result.new.rec.items) c.receive-result.ensures.told

pub returns-clause-stays : goal.returns-clause-stays
returns-clause-stays g c = λ first s. (
  s.0,
  λ h. c.receive-result.ensures.honest (s.1 h),
  λ f q. c.receive-result.ensures.stays f (s.2 f q),
  count-then first.own c.args.self.now.own c.came.result (g.L.Link.told first.link.now) (g.L.Link.told c.args.self.now.link.now) (g.L.Link.told c.receive-result.new.self) _ (c.came.ensures c.receive-result.new.rec.items) s.3
      c.receive-result.ensures.told,
)
