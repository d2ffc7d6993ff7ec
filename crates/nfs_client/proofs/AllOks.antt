-- Each operation that goes well has its row.
use Rattle.std.proofs.Common.{ℕ, List}
use Rattle.world_model.specs.declared.answer.Answer.TheVariants.{Done}
use Rattle.world_model.specs.declared.answer.Value.{Value}
use Rattle.world_model.specs.declared.entry.Entry.{Entry}
use Rattle.world_model.specs.declared.op.Op.{Op}
use Rattle.world_model.specs.declared.op.Op.TheVariants as ops
use Rattle.claims.specs.OkRows.{OkRow}
use Rattle.world_model.specs.Operations.{Ended}
use Rattle.claims.specs.Terms.{Terms}
use Rattle.op_machines.specs.Begun.{IsAsked}
use Rattle.op_machines.specs.declared.begun.Mounted.{Mounted}
use Rattle.client_core.specs.declared.setup.Setup.{Setup}
use Rattle.client_core.specs.View.{View}
use Rattle.core_facts.specs.Naming.{KnowsRoot}
use Rattle.core_facts.specs.SlotAnswers.{GoesWith}
use Rattle.core_facts.proofs.OneCalled.{one-calls-done}
use Rattle.core_answers.proofs.rows.ListStory.{lists-shown}
use Rattle.core_answers.proofs.rows.WholeRows.{slot-rows}
use Rattle.core_answers.proofs.answers.CutRows.{truncates-ok}
use Rattle.core_answers.proofs.answers.PutRows.{puts-shown}
use Rattle.core_answers.proofs.answers.StatStory.{stats-ok}
use Rattle.core_session.specs.calls.Sessions.{AreAsked}
use Rattle.core_session.proofs.outcomes.OpenRows.{opens-well}
use Rattle.core_session.proofs.outcomes.RemoveRows.{removes-well}
use Rattle.nfs_client.specs.Shown.{OksShown}

module _ (m : Mounted) (terms : Terms) (setup : Setup) (h : List Entry) (v : View) (g : GoesWith m terms setup h v) (known : KnowsRoot terms.origin h m.root) where
  by-op : (lane x y : ℕ) (op : Op) (value : Value) → IsAsked op → Ended h lane x op y (Done value) → OkRow terms h lane x y op value
  by-op lane x y (ops.OpenFile slot mode path) value may d = opens-well m terms setup h v g known lane x y slot mode path value may d
  by-op lane x y (ops.Read slot offset count) value may d = slot-rows m terms setup h v g lane x y (ops.Read slot offset count) value tt d
  by-op lane x y (ops.Write slot offset bytes) value may d = slot-rows m terms setup h v g lane x y (ops.Write slot offset bytes) value tt d
  by-op lane x y (ops.Fill slot offset count byte) value may d = slot-rows m terms setup h v g lane x y (ops.Fill slot offset count byte) value tt d
  by-op lane x y (ops.Put path offset bytes) value may d = puts-shown m setup h v g.reaches terms known lane x path offset bytes y value may.0 d
  by-op lane x y (ops.Sync slot) value may d = slot-rows m terms setup h v g lane x y (ops.Sync slot) value tt d
  by-op lane x y (ops.Close slot) value may d = slot-rows m terms setup h v g lane x y (ops.Close slot) value tt d
  by-op lane x y (ops.Truncate slot size) value may d = truncates-ok m terms setup h v g lane x slot size y value d
  by-op lane x y (ops.Stat path) value may d = stats-ok m setup h v g.reaches terms known lane x path y value d
  by-op lane x y (ops.Access path bits) value may d = one-calls-done m setup h v g.reaches terms known lane x (ops.Access path bits) y value tt may d
  by-op lane x y (ops.MakeDir path) value may d = one-calls-done m setup h v g.reaches terms known lane x (ops.MakeDir path) y value tt may d
  by-op lane x y (ops.RemoveDir path) value may d = one-calls-done m setup h v g.reaches terms known lane x (ops.RemoveDir path) y value tt may d
  by-op lane x y (ops.Remove path) value may d = removes-well m terms setup h v g known lane x y path value may d
  by-op lane x y (ops.Rename from to) value may d = one-calls-done m setup h v g.reaches terms known lane x (ops.Rename from to) y value tt may d
  by-op lane x y (ops.Link from to) value may d = one-calls-done m setup h v g.reaches terms known lane x (ops.Link from to) y value tt may d
  by-op lane x y (ops.SymLink path target) value may d = one-calls-done m setup h v g.reaches terms known lane x (ops.SymLink path target) y value tt may d
  by-op lane x y (ops.ReadLink path) value may d = one-calls-done m setup h v g.reaches terms known lane x (ops.ReadLink path) y value tt may d
  by-op lane x y (ops.List path) value may d = lists-shown m setup h v g.reaches terms known lane x path y value d

  pub all-oks : AreAsked h → OksShown terms h
  all-oks asked lane x y op value ended = by-op lane x y op value (asked x lane ended.line op ended.began) ended
