use Rattle.world_model.specs.declared.entry.Entry.TheVariants.{Sent}
use Rattle.anew_link.proofs.Splits.{count-then, tells-anew}
use Rattle.anew_link.proofs.anew.AnewLink.send.Goals as goal

pub returns-clause-told : goal.returns-clause-told
returns-clause-told g c =
    tells-anew c.args.self.now.own c.tried.result (g.L.Link.told c.args.self.now.link.now) (g.L.Link.told c.send-result.new.self) _ (c.tried.ensures (Sent c.args.rec.now)) c.send-result.ensures.told

pub returns-clause-stays : goal.returns-clause-stays
returns-clause-stays g c = λ first s. (
  s.0,
  λ h. c.send-result.ensures.honest (s.1 h),
  λ f q. c.send-result.ensures.stays f (s.2 f q),
  count-then first.own c.args.self.now.own c.tried.result (g.L.Link.told first.link.now) (g.L.Link.told c.args.self.now.link.now) (g.L.Link.told c.send-result.new.self) _ (c.tried.ensures (Sent c.args.rec.now)) s.3
      c.send-result.ensures.told,
)
