use Rattle.std.proofs.Common.{ap, ◌+◌, ◌*◌, ℕ}
use Rattle.lane_session.specs.declared.running.Session.{Session}
use Rattle.lane_session.proofs.Batches.{next-held, next-goes, next-core}
use Rattle.lane_session.proofs.running.Session.next_script.Goals as goal

pub pass-requires : goal.pass-requires
pass-requires c = rw c.count-lines.ensures c.requires.held.seated.room

pub returns-clause-held : goal.returns-clause-held
returns-clause-held c =
    next-held c.args.script.now c.args.self.now (c.args.self.now.earlier + 16 * c.count-lines.result) c.requires.held c.requires.idle c.requires.quiet c.pass.new.self c.restart.new.self c.pass.ensures c.restart.ensures
    (ap (λ (n : ℕ). c.args.self.now.earlier + 16 * n) c.count-lines.ensures)

pub returns-clause-goes : goal.returns-clause-goes
returns-clause-goes c =
    next-goes c.args.script.now c.args.self.now (c.args.self.now.earlier + 16 * c.count-lines.result) c.requires.held c.requires.idle c.requires.quiet c.pass.new.self c.restart.new.self c.pass.ensures c.restart.ensures

pub returns-clause-core : goal.returns-clause-core
returns-clause-core c =
    next-core c.args.script.now c.args.self.now (c.args.self.now.earlier + 16 * c.count-lines.result) c.requires.held c.requires.idle c.requires.quiet c.pass.new.self c.restart.new.self c.pass.ensures c.restart.ensures

pub returns-clause-port : goal.returns-clause-port
returns-clause-port c = ap (λ (s : Session). s.port) c.pass.ensures
