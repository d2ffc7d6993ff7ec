-- Whole rows of syncs, closes, writes, fills and reads.
use Rattle.world_model.specs.declared.op.Op.TheVariants as ops
use Rattle.core_facts.proofs.SlotTheorems.{syncs-ok, slots-hold-opens}
use Rattle.core_answers.specs.rows.SlotRows.{SlotRowsShown}
use Rattle.core_answers.proofs.rows.SlotValues.{has-value}

pub slot-rows : SlotRowsShown
slot-rows m terms setup h v g lane x y (ops.Sync slot) value on ended =
    (syncs-ok m terms setup h v g lane x slot y value ended, has-value m setup h v g.reaches lane x y (ops.Sync slot) value ended)
slot-rows m terms setup h v g lane x y (ops.Close slot) value on ended =
    ((slots-hold-opens m terms setup h v g lane x slot y value).close ended, has-value m setup h v g.reaches lane x y (ops.Close slot) value ended)
slot-rows m terms setup h v g lane x y (ops.Write slot offset bytes) value on ended =
    ((slots-hold-opens m terms setup h v g lane x slot y value).write offset bytes ended, has-value m setup h v g.reaches lane x y (ops.Write slot offset bytes) value ended)
slot-rows m terms setup h v g lane x y (ops.Fill slot offset count byte) value on ended =
    ((slots-hold-opens m terms setup h v g lane x slot y value).fill offset count byte ended, has-value m setup h v g.reaches lane x y (ops.Fill slot offset count byte) value ended)
slot-rows m terms setup h v g lane x y (ops.Read slot offset count) value on ended =
    let k = has-value m setup h v g.reaches lane x y (ops.Read slot offset count) value ended in
    record { bytes = k.bytes; holds = (slots-hold-opens m terms setup h v g lane x slot y value).read offset count ended; most = k.most; gives = k.is }
slot-rows m terms setup h v g lane x y (ops.OpenFile slot mode path) value on ended = absurd on
slot-rows m terms setup h v g lane x y (ops.Put path offset bytes) value on ended = absurd on
slot-rows m terms setup h v g lane x y (ops.Truncate slot size) value on ended = absurd on
slot-rows m terms setup h v g lane x y (ops.Stat path) value on ended = absurd on
slot-rows m terms setup h v g lane x y (ops.Access path bits) value on ended = absurd on
slot-rows m terms setup h v g lane x y (ops.MakeDir path) value on ended = absurd on
slot-rows m terms setup h v g lane x y (ops.RemoveDir path) value on ended = absurd on
slot-rows m terms setup h v g lane x y (ops.Remove path) value on ended = absurd on
slot-rows m terms setup h v g lane x y (ops.Rename from to) value on ended = absurd on
slot-rows m terms setup h v g lane x y (ops.Link from to) value on ended = absurd on
slot-rows m terms setup h v g lane x y (ops.SymLink path target) value on ended = absurd on
slot-rows m terms setup h v g lane x y (ops.ReadLink path) value on ended = absurd on
slot-rows m terms setup h v g lane x y (ops.List path) value on ended = absurd on
