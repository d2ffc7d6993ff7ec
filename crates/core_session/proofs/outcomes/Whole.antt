-- The rows of all operations that go well, as each of them has its own.
use Rattle.world_model.specs.declared.answer.Answer.TheVariants.{Done}
use Rattle.core_session.proofs.Prelude.{Op, Ended, IsAsked}
use Rattle.world_model.specs.declared.op.Op.TheVariants as ops
use Rattle.claims.specs.OkRows.{OkRow}
use Rattle.core_facts.proofs.OneCalled.{one-calls-done}
use Rattle.core_answers.proofs.rows.ListStory.{lists-shown}
use Rattle.core_answers.proofs.rows.WholeRows.{slot-rows}
use Rattle.core_answers.proofs.answers.CutRows.{truncates-ok}
use Rattle.core_answers.proofs.answers.PutRows.{puts-shown}
use Rattle.core_answers.proofs.answers.StatStory.{stats-ok}
use Rattle.core_session.specs.outcomes.Outcomes.{OksRowed}
use Rattle.core_session.proofs.outcomes.OpenRows.{opens-well}
use Rattle.core_session.proofs.outcomes.RemoveRows.{removes-well}

pub oks-rowed : OksRowed
oks-rowed m terms setup h v g known lane x y op value asked ended = by op asked ended
  where
    by : (o : Op) → IsAsked o → Ended h lane x o y (Done value) → OkRow terms h lane x y o value
    by (ops.OpenFile slot mode path) named d = opens-well m terms setup h v g known lane x y slot mode path value named d
    by (ops.Read slot offset count) named d = slot-rows m terms setup h v g lane x y (ops.Read slot offset count) value tt d
    by (ops.Write slot offset bytes) named d = slot-rows m terms setup h v g lane x y (ops.Write slot offset bytes) value tt d
    by (ops.Fill slot offset count byte) named d = slot-rows m terms setup h v g lane x y (ops.Fill slot offset count byte) value tt d
    by (ops.Put path offset bytes) named d = puts-shown m setup h v g.reaches terms known lane x path offset bytes y value named.0 d
    by (ops.Sync slot) named d = slot-rows m terms setup h v g lane x y (ops.Sync slot) value tt d
    by (ops.Close slot) named d = slot-rows m terms setup h v g lane x y (ops.Close slot) value tt d
    by (ops.Truncate slot size) named d = truncates-ok m terms setup h v g lane x slot size y value d
    by (ops.Stat path) named d = stats-ok m setup h v g.reaches terms known lane x path y value d
    by (ops.Access path bits) named d = one-calls-done m setup h v g.reaches terms known lane x (ops.Access path bits) y value tt named d
    by (ops.MakeDir path) named d = one-calls-done m setup h v g.reaches terms known lane x (ops.MakeDir path) y value tt named d
    by (ops.RemoveDir path) named d = one-calls-done m setup h v g.reaches terms known lane x (ops.RemoveDir path) y value tt named d
    by (ops.Remove path) named d = removes-well m terms setup h v g known lane x y path value named d
    by (ops.Rename from to) named d = one-calls-done m setup h v g.reaches terms known lane x (ops.Rename from to) y value tt named d
    by (ops.Link from to) named d = one-calls-done m setup h v g.reaches terms known lane x (ops.Link from to) y value tt named d
    by (ops.SymLink path target) named d = one-calls-done m setup h v g.reaches terms known lane x (ops.SymLink path target) y value tt named d
    by (ops.ReadLink path) named d = one-calls-done m setup h v g.reaches terms known lane x (ops.ReadLink path) y value tt named d
    by (ops.List path) named d = lists-shown m setup h v g.reaches terms known lane x path y value d
