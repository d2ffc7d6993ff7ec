-- A call breaks off, or it doesn't.
use Rattle.std.proofs.Common.{sym, ◌∙◌, Some, None}
use Rattle.world_link.proofs.BreaksWrites.{breaks_write, part_told, part_replied}
use Rattle.world_link.specs.View.{served}
use Rattle.world_link.proofs.server.Server.serve.Goals as goal

pub serve_part-requires-clause-write : goal.serve_part-requires-clause-write
serve_part-requires-clause-write c = (breaks_write c.args.manner.now c.args.call c.in-Some.part (sym c.breaks.ensures ∙ c.in-Some.is)).0

pub serve_part-requires-clause-fails : goal.serve_part-requires-clause-fails
serve_part-requires-clause-fails c = (breaks_write c.args.manner.now c.args.call c.in-Some.part (sym c.breaks.ensures ∙ c.in-Some.is)).1

pub returns-in-Some-clause-told : goal.returns-in-Some-clause-told
returns-in-Some-clause-told c = part_told (served c.args.self.now) _ c.args.manner.now c.args.xid c.args.call (Some c.in-Some.part) c.serve_part.result (sym c.breaks.ensures ∙ c.in-Some.is) c.serve_part.ensures.told

pub returns-in-None-clause-told : goal.returns-in-None-clause-told
returns-in-None-clause-told c = part_told (served c.args.self.now) _ c.args.manner.now c.args.xid c.args.call None c.serve_whole.result (sym c.breaks.ensures ∙ c.in-None.is) c.serve_whole.ensures.told

pub returns-in-Some-clause-reply : goal.returns-in-Some-clause-reply
returns-in-Some-clause-reply c = part_replied c.args.self.now.export c.args.manner.now c.args.xid c.args.call (Some c.in-Some.part) c.serve_part.result (sym c.breaks.ensures ∙ c.in-Some.is) c.serve_part.ensures.reply

pub returns-in-None-clause-reply : goal.returns-in-None-clause-reply
returns-in-None-clause-reply c = part_replied c.args.self.now.export c.args.manner.now c.args.xid c.args.call None c.serve_whole.result (sym c.breaks.ensures ∙ c.in-None.is) c.serve_whole.ensures.reply
