use Rattle.client_core.specs.View.{View}
use Rattle.client_core.specs.Steps.{SpellsCall}
use Rattle.client_core.proofs.Leading.{spells-call}
use Rattle.xdr_codec.proofs.Written.{finished}
use Rattle.client_core.proofs.work.Work.spell.Goals as goal

pub returns : goal.returns
returns c =
    let v : View = record { calls = c.self.inside.calls; shelf = c.self.inside.shelf; lanes = c.self.inside.lanes.items; wsize = c.self.inside.wsize; clock = c.self.inside.clock; moments = c.self.inside.moments; begun = c.self.inside.begun; lost = c.self.inside.lost } in
    let head = c.in_ok-writer.ensures in
    rw (← c.self.view_is)
    (finished (SpellsCall v c.args.proc c.args.call.now) c.write_arguments.new.w c.finish_record.result c.finish_record.ensures
    (spells-call v c.args.proc c.args.call.now c.in_ok-writer.writer c.write_arguments.new.w head.head head.spelled c.in_ok-write_arguments.ensures))
