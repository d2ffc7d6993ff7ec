-- The last record that came, and which call it answers.
use Rattle.core_answers.proofs.Prelude.{◌≡◌, ◌≤◌, ◌⊎◌, inl, inr, ℕ, List, [], ◌∷◌, ◌++◌, length, Some, sym, subst, ◌∙◌, arith, Entry, Delivered, Call, Reply, At, HasXid, SpellsCall, SpellsReply, EndsWith, IsDelivered, At-grow, At-below, At-back, At-one, At-cases, length_last}
use Rattle.world_model.specs.declared.entry.Entry.TheVariants.{Sent}
use Rattle.world_model.specs.Operations.{LastReply}
use Rattle.world_model.proofs.Growth.{FirstSent-grow, Waits-grow}
use Rattle.core_answers.proofs.bonds.OneCall.{IsNfs, one-call}

-- The last record before the place n answers the call with this reply, and with no other.
pub record IsLast (h : List Entry) (x n : ℕ) (call : Call) (reply : Reply) : Type 0 where
  pub ends : EndsWith h x n call reply
  pub only : (other : Reply) → SpellsReply ends.last.xid call other ends.last.bytes → other ≡ reply

-- ---- later

pub last-later : (h : List Entry) (e : Entry) (x : ℕ) (call : Call) (reply : Reply) → (IsDelivered e → ⊥) → IsLast h x (length h) call reply
    → IsLast (h ++ e ∷ []) x (length (h ++ e ∷ [])) call reply
last-later h e x call reply quiet k = record {
  ends = record {
    last = record {
      at = k.ends.last.at;
      bytes = k.ends.last.bytes;
      xid = k.ends.last.xid;
      sent_at = k.ends.last.sent_at;
      record_sent = k.ends.last.record_sent;
      got = At-grow h (e ∷ []) k.ends.last.at (Delivered k.ends.last.bytes) k.ends.last.got;
      before = let more = length_last h e in let low = k.ends.last.before in omega (arith, more, low);
      last = λ j b at within. by j b (At-cases h e j (Delivered b) at);
      under = k.ends.last.under;
      sent = FirstSent-grow h (e ∷ []) k.ends.last.sent_at k.ends.last.xid k.ends.last.record_sent k.ends.last.sent;
      spells = k.ends.last.spells;
      asked = k.ends.last.asked;
    };
    within = k.ends.within;
    waits = let low = k.ends.last.before in Waits-grow h (e ∷ []) k.ends.last.xid k.ends.last.at (omega (arith, low)) k.ends.waits;
    spells = k.ends.spells;
  };
  only = k.only;
}
  where
    by : (j : ℕ) (b : List ℕ) → At h j (Delivered b) ⊎ ((j ≡ length h) × (e ≡ Delivered b)) → j ≤ k.ends.last.at
    by j b (inl there) = k.ends.last.last j b there (At-below h j (Delivered b) there)
    by j b (inr now) = absurd (quiet (b, now.1))

pub last-until : (before after : List Entry) (x y : ℕ) (call : Call) (reply : Reply) → length before ≡ y → IsLast before x (length before) call reply → IsLast (before ++ after) x y call reply
last-until before after x y call reply there k = record {
  ends = record {
    last = record {
      at = k.ends.last.at;
      bytes = k.ends.last.bytes;
      xid = k.ends.last.xid;
      sent_at = k.ends.last.sent_at;
      record_sent = k.ends.last.record_sent;
      got = At-grow before after k.ends.last.at (Delivered k.ends.last.bytes) k.ends.last.got;
      before = let low = k.ends.last.before in omega (arith, there, low);
      last = λ j b at within. k.ends.last.last j b (At-back before after j (Delivered b) at (omega (arith, there, within))) (omega (arith, there, within));
      under = k.ends.last.under;
      sent = FirstSent-grow before after k.ends.last.sent_at k.ends.last.xid k.ends.last.record_sent k.ends.last.sent;
      spells = k.ends.last.spells;
      asked = k.ends.last.asked;
    };
    within = k.ends.within;
    waits = let low = k.ends.last.before in Waits-grow before after k.ends.last.xid k.ends.last.at (omega (arith, low)) k.ends.waits;
    spells = k.ends.spells;
  };
  only = k.only;
}

-- ---- it is one

some-is : (a b : ℕ) → Some a ≡ Some b → a ≡ b
some-is a b e = cc

came-is : (a b : List ℕ) → Delivered a ≡ Delivered b → a ≡ b
came-is a b e = cc

sent-is : (a b : List ℕ) → Sent a ≡ Sent b → a ≡ b
sent-is a b e = cc

-- another that is the last one is the reply to this call, and this reply
pub record SameLast (h : List Entry) (n : ℕ) (call : Call) (reply : Reply) (other : Call) (l : LastReply h n other) : Type 0 where
  pub call_is : other ≡ call
  pub only : (r : Reply) → SpellsReply l.xid other r l.bytes → r ≡ reply

pub same-last : (h : List Entry) (x n : ℕ) (call : Call) (reply : Reply) → IsNfs call → IsLast h x n call reply → (other : Call) (l : LastReply h n other) → SameLast h n call reply other l
same-last h x n call reply nfs k other l =
    let low = k.ends.last.last l.at l.bytes l.got l.before in
    let high = l.last k.ends.last.at k.ends.last.bytes k.ends.last.got k.ends.last.before in
    let at : l.at ≡ k.ends.last.at = omega (arith, low, high) in
    let bytes : l.bytes ≡ k.ends.last.bytes =
    came-is l.bytes k.ends.last.bytes (At-one h k.ends.last.at (Delivered l.bytes) (Delivered k.ends.last.bytes) (subst (λ (i : ℕ). At h i (Delivered l.bytes)) at l.got) k.ends.last.got) in
    let xid : l.xid ≡ k.ends.last.xid =
    some-is l.xid k.ends.last.xid (sym l.under ∙ subst (λ (b : List ℕ). HasXid b k.ends.last.xid) (sym bytes) k.ends.last.under) in
    let under : HasXid l.record_sent k.ends.last.xid = subst (λ (i : ℕ). HasXid l.record_sent i) xid l.sent.under in
    let first = k.ends.last.sent.first l.sent_at l.record_sent l.sent.sent under in
    let second = l.sent.first k.ends.last.sent_at k.ends.last.record_sent k.ends.last.sent.sent (subst (λ (i : ℕ). HasXid k.ends.last.record_sent i) (sym xid) k.ends.last.sent.under) in
    let sent_at : l.sent_at ≡ k.ends.last.sent_at = omega (arith, first, second) in
    let sent : l.record_sent ≡ k.ends.last.record_sent =
    sent-is l.record_sent k.ends.last.record_sent (At-one h k.ends.last.sent_at (Sent l.record_sent) (Sent k.ends.last.record_sent)
    (subst (λ (i : ℕ). At h i (Sent l.record_sent)) sent_at l.sent.sent) k.ends.last.sent.sent) in
    let same : call ≡ other =
    one-call k.ends.last.xid l.xid call other k.ends.last.record_sent nfs k.ends.last.spells (subst (λ (b : List ℕ). SpellsCall l.xid other b) sent l.spells) in
    record {
      call_is = sym same;
      only = λ r spells.
          k.only r (subst (λ (b : List ℕ). SpellsReply k.ends.last.xid call r b) bytes
          (subst (λ (i : ℕ). SpellsReply i call r l.bytes) xid (subst (λ (c : Call). SpellsReply l.xid c r l.bytes) (sym same) spells)));
    }
