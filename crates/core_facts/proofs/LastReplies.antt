-- The last record that came, and what the history shows of it when it goes on.
use Rattle.core_facts.proofs.Prelude.{◌≡◌, ◌<◌, ◌≤◌, inl, inr, ℕ, List, [], ◌∷◌, ◌++◌, length, arith, Entry, Sent, Delivered, Call, Reply, HasXid, SpellsReply, EndsWith, FirstSent-grow, At-grow, At-below, At-back, At-last, At-cases, length_last, IsOutstanding}
use Rattle.world_model.specs.Messages.{SpellsCall}
use Rattle.world_model.specs.Operations.{LastReply}
use Rattle.world_model.specs.Waiting.{FirstSent}

-- the record that comes now answers the call
pub ends-of : (h : List Entry) (rec : List ℕ) (xid from x : ℕ) (asked : Call) (bytes : List ℕ) (reply : Reply) → IsOutstanding h xid bytes from → SpellsCall xid asked bytes
    → HasXid rec xid → x < from → SpellsReply xid asked reply rec → EndsWith (h ++ Delivered rec ∷ []) x (length (h ++ Delivered rec ∷ [])) asked reply
ends-of h rec xid from x asked bytes reply o spells named since said =
    let within : from < length h = At-below h from (Sent bytes) o.sent.sent in
    let more = length_last h (Delivered rec) in
    record {
      last = record {
        at = length h;
        bytes = rec;
        xid = xid;
        sent_at = from;
        record_sent = bytes;
        got = At-last h (Delivered rec);
        before = omega (arith, more);
        last = λ j b there lt. omega (arith, more, lt);
        under = named;
        sent = FirstSent-grow h (Delivered rec ∷ []) from xid bytes o.sent;
        spells = spells;
        asked = within;
      };
      within = since;
      waits = record {
        at = from;
        bytes = bytes;
        sent = At-grow h (Delivered rec ∷ []) from (Sent bytes) o.sent.sent;
        under = o.sent.under;
        before = within;
        unanswered = λ j b at has after before. o.unheard j b (At-back h (Delivered rec ∷ []) j (Delivered b) at before) has after;
      };
      spells = said;
    }

module _ (h : List Entry) (e : Entry) where
  pub first-back : (i xid : ℕ) (bytes : List ℕ) → i < length h → FirstSent (h ++ e ∷ []) i xid bytes → FirstSent h i xid bytes
  first-back i xid bytes low s = record {
    sent = At-back h (e ∷ []) i (Sent bytes) s.sent low;
    under = s.under;
    first = λ j b there has. s.first j b (At-grow h (e ∷ []) j (Sent b) there) has;
  }

  -- the last record before a place stays the last one before it
  abbrev pub last-grow : (n : ℕ) (call : Call) → n ≤ length h → LastReply h n call → LastReply (h ++ e ∷ []) n call
  last-grow n call within l = record {
    at = l.at;
    bytes = l.bytes;
    xid = l.xid;
    sent_at = l.sent_at;
    record_sent = l.record_sent;
    got = At-grow h (e ∷ []) l.at (Delivered l.bytes) l.got;
    before = l.before;
    last = λ j b there lt. l.last j b (At-back h (e ∷ []) j (Delivered b) there (omega (arith, lt, within))) lt;
    under = l.under;
    sent = FirstSent-grow h (e ∷ []) l.sent_at l.xid l.record_sent l.sent;
    spells = l.spells;
    asked = l.asked;
  }

  abbrev pub last-back : (n : ℕ) (call : Call) → n ≤ length h → LastReply (h ++ e ∷ []) n call → LastReply h n call
  last-back n call within l = record {
    at = l.at;
    bytes = l.bytes;
    xid = l.xid;
    sent_at = l.sent_at;
    record_sent = l.record_sent;
    got = let low = l.before in At-back h (e ∷ []) l.at (Delivered l.bytes) l.got (omega (arith, low, within));
    before = l.before;
    last = λ j b there lt. l.last j b (At-grow h (e ∷ []) j (Delivered b) there) lt;
    under = l.under;
    sent = let low = l.before in let asked = l.asked in first-back l.sent_at l.xid l.record_sent (omega (arith, low, asked, within)) l.sent;
    spells = l.spells;
    asked = l.asked;
  }

  -- and the last one of the whole history, where no other comes
  abbrev pub last-stays : (call : Call) → ((bytes : List ℕ) → e ≡ Delivered bytes → ⊥) → LastReply h (length h) call → LastReply (h ++ e ∷ []) (length (h ++ e ∷ [])) call
  last-stays call other l = record {
    at = l.at;
    bytes = l.bytes;
    xid = l.xid;
    sent_at = l.sent_at;
    record_sent = l.record_sent;
    got = At-grow h (e ∷ []) l.at (Delivered l.bytes) l.got;
    before = let low = l.before in let more = length_last h e in omega (arith, low, more);
    last = λ j b there lt. elim (At-cases h e j (Delivered b) there) [
      | inl p ↦ l.last j b p (At-below h j (Delivered b) p)
      | inr q ↦ absurd (other b q.1)
    ];
    under = l.under;
    sent = FirstSent-grow h (e ∷ []) l.sent_at l.xid l.record_sent l.sent;
    spells = l.spells;
    asked = l.asked;
  }
