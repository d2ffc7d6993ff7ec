-- What the record tells that answers a call.
use Rattle.std.proofs.Common.{◌≡◌, ℕ, List, Some, sym, subst, ◌∙◌}
use Rattle.rpc_message.specs.Reply.{Accepted, SpellsRefusal}
use Rattle.rpc_message.proofs.ReplyLaws.{reply_first}
use Rattle.world_model.specs.declared.entry.Entry.TheVariants.{Executed, Delivered}
use Rattle.world_model.specs.Entries.{At}
use Rattle.world_model.specs.History.{History}
use Rattle.world_model.specs.Lawful.{Lawful, IsReplied, replied, refused}
use Rattle.world_model.specs.Messages.{HasXid, SpellsReply}
use Rattle.world_model.specs.Once.{Once}
use Rattle.world_model.specs.Waiting.{Answers}
use Rattle.law_calls.specs.Calls as calls
use Rattle.law_calls.specs.Calls.{Numbered, Execution, Told}
use Rattle.law_calls.proofs.CallsWait.{waiting}

-- one record has one xid
one_xid : (x y : ℕ) (b : List ℕ) → HasXid b x → HasXid b y → x ≡ y
one_xid x y b hx hy = same (sym hx ∙ hy)
  where
    same : Some x ≡ Some y → x ≡ y
    same e = cc

pub told : (t : History) → Lawful t → Once t.entries → Numbered t.entries → (n xid : ℕ) (bytes : List ℕ) → Answers t.entries n xid bytes → Told t.entries n xid bytes
told t lawful once numbered n xid bytes a = by (lawful.entries n (Delivered bytes) a.got).is
  where
    by : IsReplied t.entries n bytes → Told t.entries n xid bytes
    by (replied m x call reply before at spells) =
        let is : x ≡ xid = one_xid x xid bytes (reply_first (Accepted x spells.results) bytes spells.accepted) a.under in
        let here : At t.entries m (Executed xid call reply) = subst (λ z. At t.entries m (Executed z call reply)) is at in
        calls.executed (record {
          place = m;
          call = call;
          reply = reply;
          executed = here;
          waiting = waiting t lawful once numbered m xid call reply here;
          before = before;
          spells = subst (λ z. SpellsReply z call reply bytes) is spells;
        })
    by (refused m x code sent before at has spells) =
        let first : HasXid bytes x = subst (λ z. HasXid bytes z) spells.of (reply_first spells.reply bytes spells.is) in
        let is : x ≡ xid = one_xid x xid bytes first a.under in
        calls.refused code (subst (λ z. SpellsRefusal z code bytes) is spells)
