use Rattle.world_model.specs.declared.entry.Entry.TheVariants.{Dialed}
use Rattle.anew_link.proofs.Splits.{count-then, tells-anew}
use Rattle.anew_link.proofs.anew.AnewLink.dial.Goals as goal

pub returns-clause-told : goal.returns-clause-told
returns-clause-told g c =
    tells-anew c.args.self.now.own c.tried.result (g.L.Link.told c.args.self.now.link.now) (g.L.Link.told c.dial-result.new.self) _ (c.tried.ensures (Dialed c.args.port)) c.dial-result.ensures.told

pub returns-clause-stays : goal.returns-clause-stays
returns-clause-stays g c = λ first s. (
  s.0,
  λ h. c.dial-result.ensures.honest (s.1 h),
  λ f q. c.dial-result.ensures.stays f (s.2 f q),
  count-then first.own c.args.self.now.own c.tried.result (g.L.Link.told first.link.now) (g.L.Link.told c.args.self.now.link.now) (g.L.Link.told c.dial-result.new.self) _ (c.tried.ensures (Dialed c.args.port)) s.3
      c.dial-result.ensures.told,
)
