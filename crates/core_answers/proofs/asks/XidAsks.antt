-- Each call of an operation has an xid among those that the core may use.
use Rattle.core_answers.proofs.Prelude.{inl, inr, subst, machine_of, begins-unbegun}
use Rattle.rpc_message.proofs.CallLaws.{call_xid}
use Rattle.world_model.specs.Messages.{head_of}
use Rattle.core_facts.proofs.Grown.{one-xid}
use Rattle.core_answers.specs.asks.Xids.{IsAmong, XidsKept}
use Rattle.core_answers.proofs.asks.CallsAwaited.{Expects, expects-laws}
use Rattle.core_answers.proofs.asks.Sendings.{reached-sent}

pub xids-kept : XidsKept
xids-kept m setup h v r i xid bytes at named = elim (reached-sent (machine_of m) (begins-unbegun m) setup Expects expects-laws h v r i bytes at) [
  | inl none ↦ inl none
  | inr w ↦ inr (subst (IsAmong setup.first_xid setup.limit)
      (one-xid w.xid xid bytes (call_xid (head_of w.xid w.call) w.made.spells.args bytes w.made.spells.head) named) (record { low = w.low; high = w.high }))
]
