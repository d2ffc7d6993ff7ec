-- A call that is refused is answered by a refusal of RPC (RFC 5531, section 9).
use Rattle.std.proofs.Common.{ℕ, List, refl}
use Rattle.rpc_message.specs.Reply.{SpellsReply, SpellsRefusal}
use Rattle.export_serve.specs.declared.refusal.Refusal.{Refusal}
use Rattle.export_serve.specs.declared.refusal.Refusal.TheVariants as refusals
use Rattle.export_serve.specs.Asking.{RefusesCall}
use Rattle.export_serve.specs.Refusals.{refusal_reply}

refusal_of : (xid : ℕ) (bytes : List ℕ) (r : Refusal) → SpellsReply (refusal_reply xid r) bytes → (code : ℕ) × SpellsRefusal xid code bytes
refusal_of xid bytes refusals.Rpc s = (100, record { reply = refusal_reply xid refusals.Rpc; of = refl; numbered = refl; is = s })
refusal_of xid bytes refusals.Program s = (1, record { reply = refusal_reply xid refusals.Program; of = refl; numbered = refl; is = s })
refusal_of xid bytes refusals.Version s = (2, record { reply = refusal_reply xid refusals.Version; of = refl; numbered = refl; is = s })
refusal_of xid bytes refusals.Procedure s = (3, record { reply = refusal_reply xid refusals.Procedure; of = refl; numbered = refl; is = s })
refusal_of xid bytes refusals.Arguments s = (4, record { reply = refusal_reply xid refusals.Arguments; of = refl; numbered = refl; is = s })

pub spells_refusal : (xid : ℕ) (bytes : List ℕ) → RefusesCall xid bytes → (code : ℕ) × SpellsRefusal xid code bytes
spells_refusal xid bytes r = refusal_of xid bytes r.refusal r.is
