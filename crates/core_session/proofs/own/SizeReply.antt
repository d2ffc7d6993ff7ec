-- What the last reply of a truncate shows: SETATTR of its size was answered 0.
use Rattle.core_session.proofs.Prelude.{◌≡◌, ◌<◌, ◌≤◌, ℕ, suc, List, Some, refl, subst, arith, SetAttr, Time, Wcc, FileKept, Entry, Delivered, Call, Reply, At, Asked, status_of, SpellsReply, EndsWith, CutBy}
use Rattle.std.specs.Prelude.{Option}
use Rattle.nfs_file_calls.specs.declared.call.FileCall.TheVariants as files
use Rattle.nfs_file_calls.specs.declared.owned.FileKept.TheVariants as kept
use Rattle.world_model.specs.declared.message.Call.TheVariants as calls
use Rattle.world_model.specs.declared.message.Reply.TheVariants as replies

-- ---- the reply to the SETATTR

-- a reply of status 0 to a SETATTR is none of a failure
kept-set : (f : List ℕ) (set : SetAttr) (guard : Option Time) (xid : ℕ) (bytes : List ℕ) (reply : FileKept)
    → SpellsReply xid (calls.File (files.SetAttr f set guard)) (replies.File reply) bytes → status_of (replies.File reply) ≡ 0 → (wcc : Wcc) × (replies.File reply ≡ replies.File (kept.SetAttr wcc))
kept-set f set guard xid bytes (kept.SetAttr wcc) s went = (wcc, refl)
kept-set f set guard xid bytes (kept.SetAttrFail status wcc) s went = absurd (let some = s.is.is.failed in omega (arith, some, went))
kept-set f set guard xid bytes reply s went = absurd (let proc = s.is.answers in omega (arith, proc))

reply-set : (f : List ℕ) (set : SetAttr) (guard : Option Time) (xid : ℕ) (bytes : List ℕ) (reply : Reply) → SpellsReply xid (calls.File (files.SetAttr f set guard)) reply bytes
    → status_of reply ≡ 0 → (wcc : Wcc) × (reply ≡ replies.File (kept.SetAttr wcc))
reply-set f set guard xid bytes (replies.File reply) s went = kept-set f set guard xid bytes reply s went
reply-set f set guard xid bytes (replies.Dir reply) s went = absurd s.is
reply-set f set guard xid bytes (replies.Mount reply) s went = absurd s.is

-- ---- what the answer of the truncate shows

-- A SETATTR of the size was answered 0 by the last record before the answer.
pub record IsCut (h : List Entry) (x e : ℕ) (f : List ℕ) (size : ℕ) : Type 0 where
  pub cut : CutBy h (suc x) e f size
  pub last : (j : ℕ) (b : List ℕ) → At h j (Delivered b) → j < e → j ≤ cut.asked.heard.got_at

abbrev asked-of : (h : List Entry) (x e : ℕ) (call : Call) (reply : Reply) → EndsWith h x e call reply → Asked h (suc x) e call reply
asked-of h x e call reply d = record {
  xid = d.last.xid;
  bytes = d.last.bytes;
  heard = record {
    sent_at = d.last.sent_at;
    record_sent = d.last.record_sent;
    got_at = d.last.at;
    sent = d.last.sent;
    spells = d.last.spells;
    got = record { got = d.last.got; under = d.last.under; waits = d.waits };
    after = let low = d.within in omega (arith, low);
    later = d.last.asked;
    before = d.last.before;
  };
  spells = d.spells;
}

pub cut-of : (h : List Entry) (x e : ℕ) (f : List ℕ) (set : SetAttr) (guard : Option Time) (size : ℕ) (call : Call) (reply : Reply) → call ≡ calls.File (files.SetAttr f set guard) → set.size ≡ Some size
    → status_of reply ≡ 0 → EndsWith h x e call reply → IsCut h x e f size
cut-of h x e f set guard size call reply is sized went d = by (reply-set f set guard d.last.xid d.last.bytes reply (subst (λ (c : Call). SpellsReply d.last.xid c reply d.last.bytes) is d.spells) went)
  where
    by : (wcc : Wcc) × (reply ≡ replies.File (kept.SetAttr wcc)) → IsCut h x e f size
    by k =
        let ends : EndsWith h x e (calls.File (files.SetAttr f set guard)) (replies.File (kept.SetAttr k.0)) =
        subst (λ (c : Call). EndsWith h x e c (replies.File (kept.SetAttr k.0))) is (subst (EndsWith h x e call) k.1 d) in
        record {
          cut = record { set = set; guard = guard; wcc = k.0; asked = asked-of h x e (calls.File (files.SetAttr f set guard)) (replies.File (kept.SetAttr k.0)) ends; sets = sized };
          last = λ j b at low. ends.last.last j b at low;
        }
