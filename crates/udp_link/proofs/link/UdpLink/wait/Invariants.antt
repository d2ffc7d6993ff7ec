use Rattle.std.proofs.Common.{◌-◌, ◌<◌}
use Rattle.udp_link.specs.Honest.{HonestOver}
use Rattle.udp_link.specs.Shown.{GoesOn}
use Rattle.udp_link.proofs.link.UdpLink.wait.Given as goal

abbrev pub invariant-loop-passed : goal.invariant-loop-passed
invariant-loop-passed g l =
    (l.passed < 1024) × GoesOn g.D.Datagrams.told l.passed l.fn.self l.self
    × (HonestOver g.D.Datagrams.told g.D.Datagrams.honest l.fn.self.over l.fn.self.kept → HonestOver g.D.Datagrams.told g.D.Datagrams.honest l.self.over l.self.kept)

abbrev pub decreases-loop-passed : goal.decreases-loop-passed
decreases-loop-passed g l = 1024 - l.passed
