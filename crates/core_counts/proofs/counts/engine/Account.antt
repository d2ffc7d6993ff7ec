-- What an operation was given, and how many calls it may make for it.
use Rattle.core_counts.proofs.Prelude.{◌≡◌, ◌≢◌, ◌≤◌, ◌<◌, ◌+◌, ◌⊎◌, inl, inr, ℕ, List, [], ◌∷◌, ◌++◌, length, Some, Result, Ok, Err, sym, subst, ◌∙◌, arith, Fault, Entry, Delivered, Call, Reply, Op, At, Heard, HasXid, At-below, At-cases, length_last}
use Rattle.core_session.proofs.delays.Puts.{heard-later}
use Rattle.core_counts.proofs.counts.engine.Laws.{ToldNow, Gains, nothing, one}
use Rattle.core_counts.proofs.counts.engine.Lists.{Each, each-map, Apart}
use Rattle.core_counts.proofs.counts.engine.Ledger.{Row, In, Is, Room, HasRoot, room-less, room-push, room-other}

-- ---- rows

pub in-more : (rows : List Row) (row : Row) (F : Row → Type 0) (xid : ℕ) → Is rows F xid → Is (row ∷ rows) F xid
in-more rows row F xid i = (i.0, inr i.1, i.2, i.3)

pub root-more : (rows : List Row) (row r : Row) → HasRoot rows r → HasRoot (row ∷ rows) r
root-more rows row r h = record { first = h.first; there = inr h.there; xid = h.xid; root = h.root; call = h.call; x = h.x; op = h.op }

-- such rows there are none
pub room-empty : (rows : List Row) (F : Row → Type 0) (left most : ℕ) → ((r : Row) → In r rows → F r → ⊥) → left ≤ most → Room rows F left most
room-empty rows F left most none less [] a e = omega (arith, less)
room-empty rows F left most none less (xid ∷ xids) a e = absurd (none e.0.0 e.0.1 e.0.3)

pub room-up : (rows : List Row) (F : Row → Type 0) (left most : ℕ) → Room rows F left most → Room rows F (left + 1) (most + 1)
room-up rows F left most room xids a e = let all = room xids a e in omega (arith, all)

-- How a row joins the others: as a first one, or as one that repeats a call, of which there are k by then.
pub data Joins (rows : List Row) (row : Row) (k : ℕ) : Type 0 where
  first : row.root ≡ row.xid → k ≡ 0 → Joins rows row k
  repeats : (q : Row) → In q rows → q.root ≡ row.root → q.call ≡ row.call → q.x ≡ row.x → q.op ≡ row.op → Room rows (λ (r : Row). r.root ≡ row.root) 0 k → k ≤ 3 → Joins rows row k

-- ---- accounts

module _ (P : Call → Type 0) (Q : Call → ℕ → List ℕ → Type 0) (base : Op → ℕ) where
  -- a first call, of the operation at the place x
  abbrev pub FreshOf : ℕ → Row → Type 0
  FreshOf x r = (r.root ≡ r.xid) × (r.x ≡ x) × P r.call

  -- a reply that gave the operation one call more
  pub record Credit (rows : List Row) (h : List Entry) (x at : ℕ) : Type 0 where
    pub call : Call
    pub xid : ℕ
    pub bytes : List ℕ
    pub heard : Heard h 0 (length h) call xid bytes
    pub here : heard.got_at ≡ at
    pub gives : Q call xid bytes
    pub row : Is rows (λ (r : Row). r.x ≡ x) xid

  pub record Account (rows : List Row) (h : List Entry) (x : ℕ) (op : Op) (left : ℕ) : Type 0 where
    pub credits : List ℕ
    pub apart : Apart credits
    pub each : Each (Credit rows h x) credits
    pub room : Room rows (FreshOf x) left (base op + length credits)

  credit-row : (rows : List Row) (row : Row) (h : List Entry) (x at : ℕ) → Credit rows h x at → Credit (row ∷ rows) h x at
  credit-row rows row h x at c = record {
    call = c.call;
    xid = c.xid;
    bytes = c.bytes;
    heard = c.heard;
    here = c.here;
    gives = c.gives;
    row = in-more rows row (λ (r : Row). r.x ≡ x) c.xid c.row;
  }

  pub credit-grow : (rows : List Row) (h : List Entry) (e : Entry) (x at : ℕ) → Credit rows h x at → Credit rows (h ++ e ∷ []) x at
  credit-grow rows h e x at c = record {
    call = c.call;
    xid = c.xid;
    bytes = c.bytes;
    heard = heard-later h (e ∷ []) 0 (length h) (length (h ++ e ∷ [])) c.call c.xid c.bytes (let more = length_last h e in omega (arith, more)) c.heard;
    here = c.here;
    gives = c.gives;
    row = c.row;
  }

  credit-below : (rows : List Row) (h : List Entry) (x at : ℕ) → Credit rows h x at → at < length h
  credit-below rows h x at c = let low = c.heard.before in let here = c.here in omega (arith, low, here)

  abbrev pub account-grow : (rows : List Row) (h : List Entry) (e : Entry) (x : ℕ) (op : Op) (left : ℕ) → Account rows h x op left → Account rows (h ++ e ∷ []) x op left
  account-grow rows h e x op left a = record {
    credits = a.credits;
    apart = a.apart;
    each = each-map (Credit rows h x) (Credit rows (h ++ e ∷ []) x) (credit-grow rows h e x) a.credits a.each;
    room = a.room;
  }

  pub account-less : (rows : List Row) (h : List Entry) (x : ℕ) (op : Op) (left had : ℕ) → left ≤ had → Account rows h x op had → Account rows h x op left
  account-less rows h x op left had less a = record {
    credits = a.credits;
    apart = a.apart;
    each = a.each;
    room = room-less rows (FreshOf x) left had (base op + length a.credits) less a.room;
  }

  -- one row more
  pub account-push : (rows : List Row) (row : Row) (h : List Entry) (x : ℕ) (op : Op) (left had : ℕ) → ((r : Row) → In r rows → r.xid ≢ row.xid) → left ≤ had → (FreshOf x row → left + 1 ≤ had)
      → Account rows h x op had → Account (row ∷ rows) h x op left
  account-push rows row h x op left had fresh less asks a = record {
    credits = a.credits;
    apart = a.apart;
    each = each-map (Credit rows h x) (Credit (row ∷ rows) h x) (credit-row rows row h x) a.credits a.each;
    room = room-push rows row (FreshOf x) left had (base op + length a.credits) fresh less asks a.room;
  }

  -- one that is no first call of this operation
  pub account-other : (rows : List Row) (row : Row) (h : List Entry) (x : ℕ) (op : Op) (left : ℕ) → (FreshOf x row → ⊥) → Account rows h x op left → Account (row ∷ rows) h x op left
  account-other rows row h x op left none a = record {
    credits = a.credits;
    apart = a.apart;
    each = each-map (Credit rows h x) (Credit (row ∷ rows) h x) (credit-row rows row h x) a.credits a.each;
    room = room-other rows row (FreshOf x) left (base op + length a.credits) none a.room;
  }

  -- an operation begins
  pub account-new : (rows : List Row) (h : List Entry) (x : ℕ) (op : Op) → ((r : Row) → In r rows → r.x ≢ x) → Account rows h x op (base op)
  account-new rows h x op none = record {
    credits = [];
    apart = tt;
    each = tt;
    room = room-empty rows (FreshOf x) (base op) (base op + 0) (λ r there f. none r there f.1) (omega arith);
  }

  -- ---- a reply gives one more

  entry-bytes : (a b : List ℕ) → Delivered a ≡ Delivered b → a ≡ b
  entry-bytes a b e = cc

  some-number : (a b : ℕ) → Some a ≡ Some b → a ≡ b
  some-number a b e = cc

  err-ok : (R : Type 0) (fault : Fault) (reply : Reply) → ◌≡◌ {A = Result Reply Fault} (Err fault) (Ok reply) → R
  err-ok R fault reply e = absurd (cc)

  module _ (rows : List Row) (h : List Entry) (rec : List ℕ) (x : ℕ) (op : Op) (xid : ℕ) where
    abbrev later : List Entry
    later = h ++ Delivered rec ∷ []

    new-credit : (call : Call) (its : ℕ) (bytes : List ℕ) → HasXid rec xid → Is rows (λ (r : Row). r.x ≡ x) xid → ToldNow later x call its bytes → Q call its bytes → Credit rows later x (length h)
    new-credit call its bytes named row t q =
        let more = length_last h (Delivered rec) in
        let end = t.end in
        let here : t.heard.got_at ≡ length h = omega (arith, more, end) in
        let got : At later (length h) (Delivered bytes) = subst (λ (n : ℕ). At later n (Delivered bytes)) here t.heard.got.got in
        let same : bytes ≡ rec = entry-bytes bytes rec (last (At-cases h (Delivered rec) (length h) (Delivered bytes) got)) in
        let number : its ≡ xid = some-number its xid (sym (subst (λ (b : List ℕ). HasXid b its) same t.heard.got.under) ∙ named) in
        record {
          call = call;
          xid = its;
          bytes = bytes;
          heard = record {
            sent_at = t.heard.sent_at;
            record_sent = t.heard.record_sent;
            got_at = t.heard.got_at;
            sent = t.heard.sent;
            spells = t.heard.spells;
            got = t.heard.got;
            after = omega arith;
            later = t.heard.later;
            before = t.heard.before;
          };
          here = here;
          gives = q;
          row = subst (λ (n : ℕ). Is rows (λ (r : Row). r.x ≡ x) n) (sym number) row;
        }
      where
        last : {e : Entry} → At h (length h) e ⊎ ((length h ≡ length h) × (Delivered rec ≡ e)) → e ≡ Delivered rec
        last (inl there) = absurd (let low = At-below h (length h) _ there in omega (arith, low))
        last (inr now) = sym now.1

    pub account-gain : (came : Result Reply Fault) (left gain : ℕ) → HasXid rec xid → Is rows (λ (r : Row). r.x ≡ x) xid → Gains Q later x came gain → Account rows h x op left
        → Account rows later x op (left + gain)
    account-gain came left gain named row (nothing none) a = account-less rows later x op (left + gain) left (omega (arith, none)) (account-grow rows h (Delivered rec) x op left a)
    account-gain came left gain named row (one is reply ok call its bytes t q) a =
        let b = account-grow rows h (Delivered rec) x op left a in
        record {
          credits = length h ∷ b.credits;
          apart = (each-map (Credit rows h x) (λ (at : ℕ). at ≢ length h) (λ at c same. let low = credit-below rows h x at c in absurd (omega (arith, low, same))) a.credits a.each, b.apart);
          each = (new-credit call its bytes named row t q, b.each);
          room = λ xids apart each. let all = b.room xids apart each in omega (arith, all, is);
        }

  -- no reply came
  pub account-still : (fault : Fault) (rows : List Row) (h : List Entry) (x : ℕ) (op : Op) (came : Result Reply Fault) (left gain : ℕ) → came ≡ Err fault → Gains Q h x came gain
      → Account rows h x op left → Account rows h x op (left + gain)
  account-still fault rows h x op came left gain err (nothing none) a = account-less rows h x op (left + gain) left (omega (arith, none)) a
  account-still fault rows h x op came left gain err (one is reply ok call its bytes t q) a = err-ok _ fault reply (sym err ∙ ok)
