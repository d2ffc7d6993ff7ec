use Rattle.std.proofs.Common.{refl, arith}
use Rattle.udp_link.proofs.WaitTurns.{stays, turned_last, goes_on_more}
use Rattle.udp_link.proofs.link.UdpLink.wait.Goals as goal

pub loop-passed-init : goal.loop-passed-init
loop-passed-init g c = (omega arith, stays g.D.Datagrams.told c.args.self.now _ refl, λ h. h)

pub returns-in-Some-clause-waited : goal.returns-in-Some-clause-waited
returns-in-Some-clause-waited g c = turned_last _ _ _ _ _ _ _ c.loop-passed.invariant.0 c.loop-passed.invariant.1 c.in-Some.ensures.turned

pub loop-passed-preserved : goal.loop-passed-preserved
loop-passed-preserved g c = (
  omega (arith, c.loop-passed.invariant.0, c.in-None.ensures.turned.0),
  goes_on_more _ _ 1 _ _ _ c.loop-passed.invariant.1 c.in-None.ensures.turned.1,
  λ h. c.in-None.ensures.honest (c.loop-passed.invariant.2 h),
)
