use Rattle.std.proofs.Common.{◌≡◌, List, Option, None, Some}
use Rattle.outside.specs.Link.{NotesOnly}
use Rattle.world_model.specs.History.{History}
use Rattle.world_model.specs.declared.entry.Entry.{Entry}
use Rattle.lane_session.proofs.lines.note_answer.Goals as goal

unnoted : (t : Option History) (es : List Entry) → t ≡ None → NotesOnly t t es
unnoted None es e = tt
unnoted (Some h) es e = absurd (cc)

pub returns-then-not-tells-clause-told : goal.returns-then-not-tells-clause-told
returns-then-not-tells-clause-told g c = unnoted (g.L.Link.told c.args.link.now) _ c.if-not-tells.ensures
