use Rattle.std.proofs.Common.{arith, inl, inr, sym}
use Rattle.std.proofs.lemmas.Bool.{eqb-true}
use Rattle.script_text.proofs.Hexed.{no_payload}
use Rattle.script_text.proofs.payloads.payload.Goals as goal
use Rattle.script_text.proofs.payloads.payload.Goals.{then-is_empty-via-then-is_empty, then-is_empty-via-else-is_empty+then-hex}

pub returns-then-is_empty : goal.returns-then-is_empty
returns-then-is_empty c = no_payload _ (elim c.then-is_empty.branch [
  | then-is_empty-via-then-is_empty w ↦ inl (eqb-true _ _ (sym w.if-is_empty.ensures))
  | then-is_empty-via-else-is_empty+then-hex w ↦ inr (omega (arith, w.if-hex.true))
])
