-- A reply to a call on a file is that of an execution of this call, after it was first sent and before the record came.
use Rattle.std.proofs.Common.{◌≡◌, ◌<◌, ℕ, List, Some, sym, subst, ◌∙◌, arith}
use Rattle.rpc_message.specs.Reply.{Accepted}
use Rattle.rpc_message.proofs.ReplyLaws.{reply_first}
use Rattle.nfs_file_calls.specs.declared.call.FileCall.{FileCall}
use Rattle.nfs_file_calls.specs.declared.owned.FileKept.{FileKept}
use Rattle.world_model.specs.declared.entry.Entry.TheVariants as entries
use Rattle.world_model.specs.declared.message.Call.{Call}
use Rattle.world_model.specs.declared.message.Call.TheVariants as calls
use Rattle.world_model.specs.declared.message.Reply.{Reply}
use Rattle.world_model.specs.declared.message.Reply.TheVariants as replies
use Rattle.world_model.specs.Entries.{At}
use Rattle.world_model.specs.Heard.{Asked}
use Rattle.world_model.specs.History.{History}
use Rattle.world_model.specs.Lawful.{Lawful, IsReplied, replied, refused}
use Rattle.world_model.specs.Messages.{HasXid, SpellsCall, SpellsReply}
use Rattle.law_calls.specs.Calls.{Numbered}
use Rattle.law_calls.proofs.CallsWait.{xid_of_call}
use Rattle.law_stable.proofs.OneFileCall.{one_file_call, one_file_reply, unrefused}

-- one record has one xid
pub one_xid : (x y : ℕ) (b : List ℕ) → HasXid b x → HasXid b y → x ≡ y
one_xid x y b hx hy = same (sym hx ∙ hy)
  where
    same : Some x ≡ Some y → x ≡ y
    same e = cc

-- The call was executed with this reply between these places.
pub record Ran (t : History) (from to xid : ℕ) (call : Call) (reply : Reply) : Type 0 where
  pub place : ℕ
  pub at : At t.entries place (entries.Executed xid call reply)
  pub late : from < place
  pub before : place < to

pub ran : (t : History) → Lawful t → Numbered t.entries → (from to : ℕ) (call : FileCall) (reply : FileKept) (a : Asked t.entries from to (calls.File call) (replies.File reply))
    → Ran t a.heard.sent_at a.heard.got_at a.xid (calls.File call) (replies.File reply)
ran t lawful numbered from to call reply a = by (lawful.entries a.heard.got_at (entries.Delivered a.bytes) a.heard.got.got).is
  where
    by : IsReplied t.entries a.heard.got_at a.bytes → Ran t a.heard.sent_at a.heard.got_at a.xid (calls.File call) (replies.File reply)
    by (replied m x other told before at spells) =
        let is : x ≡ a.xid = one_xid x a.xid a.bytes (reply_first (Accepted x spells.results) a.bytes spells.accepted) a.heard.got.under in
        let sent = (lawful.entries m (entries.Executed x other told) at).0 in
        let under : HasXid sent.bytes a.xid = subst (λ z. HasXid sent.bytes z) is (xid_of_call x other sent.bytes sent.spells) in
        let record_is : sent.bytes ≡ a.heard.record_sent =
        numbered.equal sent.at a.heard.sent_at a.xid sent.bytes a.heard.record_sent sent.sent a.heard.sent.sent under a.heard.sent.under in
        let same : calls.File call ≡ other = one_file_call a.xid x call other a.heard.record_sent a.heard.spells (subst (λ b. SpellsCall x other b) record_is sent.spells) in
        let answer : told ≡ replies.File reply = one_file_reply a.xid x call reply told a.bytes a.spells (subst (λ z. SpellsReply x z told a.bytes) (sym same) spells) in
        let first = a.heard.sent.first sent.at sent.bytes sent.sent under in
        let early = sent.before in
        record {
          place = m;
          at = subst (λ z. At t.entries m (entries.Executed z (calls.File call) (replies.File reply))) is (subst (λ z. At t.entries m (entries.Executed x (calls.File call) z)) answer (subst (λ z. At t.entries m (entries.Executed x z told)) (sym same) at));
          late = omega (arith, first, early);
          before = before;
        }
    by (refused m x code sent before at has spells) = absurd (unrefused a.xid x code (calls.File call) (replies.File reply) a.bytes a.spells spells)
