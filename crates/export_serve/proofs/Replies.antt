-- What is written of a reply spells it.
use Rattle.std.proofs.Common.{ℕ, List, ◌++◌}
use Rattle.xdr_codec.specs.Spells.{Wrote}
use Rattle.rpc_message.specs.Reply.{SpellsAccepted}
use Rattle.world_model.specs.declared.message.Call.{Call}
use Rattle.world_model.specs.declared.message.Call.TheVariants as calls
use Rattle.world_model.specs.declared.message.Reply.{Reply}
use Rattle.world_model.specs.declared.message.Reply.TheVariants as replies
use Rattle.world_model.specs.Messages.{SpellsReply, SpellsResults}
use Rattle.export_serve.specs.Spelling.{RepliesTo, SpellsResultsOf}

results_of : (call : Call) (reply : Reply) (results : List ℕ) → RepliesTo call reply → SpellsResultsOf reply results → SpellsResults call reply results
results_of (calls.Dir call) (replies.Dir reply) results e s = record { of = e; is = s }
results_of (calls.File call) (replies.File reply) results e s = record { answers = e; is = s }
results_of (calls.Mount call) (replies.Mount reply) results e s = record { names = e; is = s }
results_of (calls.Dir call) (replies.File reply) results e s = absurd e
results_of (calls.Dir call) (replies.Mount reply) results e s = absurd e
results_of (calls.File call) (replies.Dir reply) results e s = absurd e
results_of (calls.File call) (replies.Mount reply) results e s = absurd e
results_of (calls.Mount call) (replies.Dir reply) results e s = absurd e
results_of (calls.Mount call) (replies.File reply) results e s = absurd e

-- a head of a reply, and results
pub reply_spelled : (xid : ℕ) (reply : Reply) (head bytes : List ℕ) → ((results : List ℕ) → SpellsAccepted xid results (head ++ results)) → Wrote (SpellsResultsOf reply) head bytes
    → (call : Call) → RepliesTo call reply → SpellsReply xid call reply bytes
reply_spelled xid reply head bytes accepted w call e =
    record { results = w.text; accepted = rw w.is (accepted w.text); is = results_of call reply w.text e w.spells }
