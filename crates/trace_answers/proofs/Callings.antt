-- The call under an xid, and the call of the last record that came.
use Rattle.std.proofs.Common.{◌≡◌, ◌==◌, ◌<◌, ◌≤◌, inl, inr, ℕ, Bool, List, length, Option, Some, None, Result, Ok, Err, refl, sym, ◌∙◌, ap, subst, arith}
use Rattle.std.specs.Prelude.{IfOk, MatchOption, if◌then◌else◌}
use Rattle.xdr_codec.specs.declared.blob.Memory.{Memory}
use Rattle.std.proofs.lemmas.Bool.Decides.{eqb_tells}
use Rattle.rpc_message.specs.Call.{xid_at}
use Rattle.world_model.specs.declared.entry.Entry.{Entry}
use Rattle.world_model.specs.declared.entry.Entry.TheVariants.{Sent, Delivered}
use Rattle.world_model.specs.declared.message.Call.{Call}
use Rattle.world_model.specs.Entries.{At}
use Rattle.world_model.specs.Messages.{HasXid, SpellsCall}
use Rattle.world_model.specs.Operations.{LastReply}
use Rattle.world_model.specs.Waiting.{FirstSent}
use Rattle.world_model.proofs.Places.{At-below, At-one}
use Rattle.export_serve.specs.Asking.{IsSound}
use Rattle.export_serve.specs.declared.request.Asked.{Asked}
use Rattle.export_serve.specs.declared.request.Asked.TheVariants.{NoCall, Refuse, Serve}
use Rattle.trace_answers.specs.declared.calls.LastCall.{LastCall}
use Rattle.trace_answers.specs.Calling.{FindsCall, IsCallOf, call_in, CallBefore, IsCallBefore, NoCallBefore, CameAt, called_so, CalledAt, NoCallAt, LastCalled, NoneCalled}
use Rattle.trace_answers.specs.Sendings.{NeverSent, FirstSentAt, NoRecord, IsLastRecord}
use Rattle.trace_answers.specs.Tests.{bytes_sent_there, sent_bytes, bytes_came_there, came_bytes}

-- ---- the call that a record is

same-call : (x y : ℕ) (c d : Call) → Serve x c ≡ Serve y d → c ≡ d
same-call x y c d e = cc

same-serve : (x y : ℕ) (c d : Call) → Serve x c ≡ Serve y d → x ≡ y
same-serve x y c d e = cc

pub call-by : (xid : ℕ) (rec : List ℕ) (a : Asked) → IsSound rec a → ((x : ℕ) (call : Call) → SpellsCall x call rec → a ≡ Serve x call) → FindsCall xid rec (call_in xid a)
call-by xid rec NoCall sound served = λ call spells. absurd (let e : NoCall ≡ Serve xid call = served xid call spells in cc)
call-by xid rec (Refuse its bytes) sound served = λ call spells. absurd (let e : Refuse its bytes ≡ Serve xid call = served xid call spells in cc)
call-by xid rec (Serve its call) sound served = elim (eqb_tells its xid) [
  | inl same ↦ subst (λ (b : Bool). FindsCall xid rec (if b then Some call else None)) (sym same.0)
      (record { spells = subst (λ (x : ℕ). SpellsCall x call rec) same.1 sound.0; only = λ c spells. sym (same-call its xid call c (served xid c spells)) })
  | inr other ↦ subst (λ (b : Bool). FindsCall xid rec (if b then Some call else None)) (sym other.0)
      (λ c spells. other.1 (same-serve its xid call c (served xid c spells)))
]

-- ---- the first record under an xid

sent-is : (h : List Entry) (i : ℕ) (bytes : List ℕ) → At h i (Sent bytes) → sent_bytes h i ≡ bytes
unfolding sent_bytes
sent-is h i bytes at = ap bytes_sent_there at

pub came-is : (h : List Entry) (i : ℕ) (bytes : List ℕ) → At h i (Delivered bytes) → came_bytes h i ≡ bytes
unfolding came_bytes
came-is h i bytes at = ap bytes_came_there at

same-sent : (b c : List ℕ) → Sent b ≡ Sent c → b ≡ c
same-sent b c e = cc

pub same-came : (b c : List ℕ) → Delivered b ≡ Delivered c → b ≡ c
same-came b c e = cc

first-one : (h : List Entry) (xid i j : ℕ) (b c : List ℕ) → FirstSent h i xid b → FirstSent h j xid c → i ≡ j
first-one h xid i j b c f g = let low : i ≤ j = f.first j c g.sent g.under in let high : j ≤ i = g.first i b f.sent f.under in omega (arith, low, high)

first-bytes : (h : List Entry) (xid i j : ℕ) (b c : List ℕ) → FirstSent h i xid b → FirstSent h j xid c → b ≡ c
first-bytes h xid i j b c f g = same-sent b c (At-one h i (Sent b) (Sent c) f.sent (subst (λ (k : ℕ). At h k (Sent c)) (sym (first-one h xid i j b c f g)) g.sent))

-- a call that was made before is what the first record spells
spelled-by : (h : List Entry) (xid n sent : ℕ) → FirstSentAt h xid sent → (call : Call) → CallBefore h xid n call → SpellsCall xid call (sent_bytes h sent)
spelled-by h xid n sent first call b = subst (λ (z : List ℕ). SpellsCall xid call z) (first-bytes h xid b.sent_at sent b.bytes first.0 b.sent first.1 ∙ sym (sent-is h sent first.0 first.1.sent)) b.spells

pub before-by : (h : List Entry) (xid n sent : ℕ) → FirstSentAt h xid sent → sent < n → (found : Option Call) → FindsCall xid (sent_bytes h sent) found
    → MatchOption found (NoCallBefore h xid n) (IsCallBefore h xid n)
before-by h xid n sent first lt None none = λ call b. none call (spelled-by h xid n sent first call b)
before-by h xid n sent first lt (Some call) f = record {
  is = record {
    sent_at = sent;
    bytes = first.0;
    sent = first.1;
    spells = subst (λ (z : List ℕ). SpellsCall xid call z) (sent-is h sent first.0 first.1.sent) f.spells;
    before = lt;
  };
  only = λ other b. f.only other (spelled-by h xid n sent first other b);
}

pub before-late : (h : List Entry) (xid n sent : ℕ) → FirstSentAt h xid sent → n ≤ sent → NoCallBefore h xid n
before-late h xid n sent first late call b =
    let same : b.sent_at ≡ sent = first-one h xid b.sent_at sent b.bytes first.0 b.sent first.1 in let lt : b.sent_at < n = b.before in absurd (omega (arith, same, lt, late))

pub before-never : (h : List Entry) (xid n : ℕ) → NeverSent h xid → NoCallBefore h xid n
before-never h xid n never call b = never b.sent_at b.bytes b.sent.sent b.sent.under

-- ---- the call of a record that came

pub one-xid : (x y : ℕ) (bytes : List ℕ) → HasXid bytes x → HasXid bytes y → x ≡ y
one-xid x y bytes hx hy = same x y (sym hx ∙ hy)
  where
    same : (a b : ℕ) → Some a ≡ Some b → a ≡ b
    same a b e = cc

pub called-by : (h : List Entry) (at : ℕ) → CameAt h at → (xid : ℕ) → xid_at (came_bytes h at) ≡ Some xid → (found : Option Call)
    → MatchOption found (NoCallBefore h xid at) (IsCallBefore h xid at) → MatchOption (called_so at xid found) (NoCallAt h at) (CalledAt h at)
called-by h at came xid is None none = λ bytes x call got has before.
    none call (subst (λ (y : ℕ). CallBefore h y at call) (one-xid x xid bytes has (subst (λ (z : List ℕ). HasXid z xid) (came-is h at bytes got) is)) before)
called-by h at came xid is (Some call) before = record {
  here = refl;
  bytes = came.0;
  got = came.1;
  under = subst (λ (z : List ℕ). HasXid z xid) (came-is h at came.0 came.1) is;
  call = before;
}

pub no-xid : (h : List Entry) (at : ℕ) → xid_at (came_bytes h at) ≡ None → NoCallAt h at
no-xid h at is bytes x call got has before = absurd (apart x (sym (subst (λ (z : List ℕ). HasXid z x) (sym (came-is h at bytes got)) has) ∙ is))
  where
    apart : (x : ℕ) → Some x ≡ None → ⊥
    apart x e = absurd (cc)

-- ---- the last one

same-place : (h : List Entry) (n at : ℕ) (call : Call) → IsLastRecord h n at → (r : LastReply h n call) → r.at ≡ at
same-place h n at call last r = let low : at ≤ r.at = r.last at last.bytes last.got last.before in let high : r.at ≤ at = last.last r.at r.bytes r.got r.before in omega (arith, low, high)

-- what a last reply says of the record at its place
called-before : (h : List Entry) (n at : ℕ) (call : Call) (r : LastReply h n call) → r.at ≡ at → CallBefore h r.xid at call
called-before h n at call r here = record { sent_at = r.sent_at; bytes = r.record_sent; sent = r.sent; spells = r.spells; before = subst (λ (k : ℕ). r.sent_at < k) here r.asked }

got-there : (h : List Entry) (n at : ℕ) (call : Call) (r : LastReply h n call) → r.at ≡ at → At h at (Delivered r.bytes)
got-there h n at call r here = subst (λ (k : ℕ). At h k (Delivered r.bytes)) here r.got

pub last-by : (h : List Entry) (n at : ℕ) → IsLastRecord h n at → (found : Option LastCall) → MatchOption found (NoCallAt h at) (CalledAt h at)
    → MatchOption found (NoneCalled h n) (LastCalled h n)
last-by h n at last None none = λ call r.
    let here = same-place h n at call last r in none r.bytes r.xid call (got-there h n at call r here) r.under (called-before h n at call r here)
last-by h n at last (Some l) c = record {
  replies = record {
    at = at;
    bytes = c.bytes;
    xid = l.xid;
    sent_at = c.call.is.sent_at;
    record_sent = c.call.is.bytes;
    got = c.got;
    before = last.before;
    last = last.last;
    under = c.under;
    sent = c.call.is.sent;
    spells = c.call.is.spells;
    asked = c.call.is.before;
  };
  place = sym c.here;
  xid = refl;
  only = λ other r.
      let here = same-place h n at other last r in
      let got = got-there h n at other r here in
      let same : r.bytes ≡ c.bytes = same-came r.bytes c.bytes (At-one h at (Delivered r.bytes) (Delivered c.bytes) got c.got) in
      let one : r.xid ≡ l.xid = one-xid r.xid l.xid c.bytes (subst (λ (z : List ℕ). HasXid z r.xid) same r.under) c.under in
      c.call.only other (subst (λ (x : ℕ). CallBefore h x at other) one (called-before h n at other r here));
}

pub none-called : (h : List Entry) (n : ℕ) → NoRecord h n → NoneCalled h n
none-called h n none call r = none r.at r.bytes r.got r.before

pub last-came : (h : List Entry) (n at : ℕ) → IsLastRecord h n at → CameAt h at
last-came h n at last = (last.bytes, last.got)

-- ---- results of readings

-- what holds of each value that a reading gives
pub if-ok : {A : Type 0} (r : Result A Memory) (P Q : A → Type 0) → ((a : A) → P a → Q a) → IfOk r P → IfOk r Q
if-ok (Ok a) P Q each p = each a p
if-ok (Err fault) P Q each p = tt

-- the place of the first record is within
pub first-below : (h : List Entry) (xid i : ℕ) → FirstSentAt h xid i → i < length h
first-below h xid i first = At-below h i (Sent first.0) first.1.sent

pub came-below : (h : List Entry) (at : ℕ) → CameAt h at → at < length h
came-below h at came = At-below h at (Delivered came.0) came.1

pub of-before : (h : List Entry) (xid n sent : ℕ) → FirstSentAt h xid sent → sent < n → (r : Result (Option Call) Memory) → IfOk r (FindsCall xid (sent_bytes h sent))
    → IfOk r (λ found. MatchOption found (NoCallBefore h xid n) (IsCallBefore h xid n))
of-before h xid n sent first lt r p = if-ok r (FindsCall xid (sent_bytes h sent)) (λ found. MatchOption found (NoCallBefore h xid n) (IsCallBefore h xid n)) (λ found f. before-by h xid n sent first lt found f) p

pub last-of : (h : List Entry) (n at : ℕ) → IsLastRecord h n at → (r : Result (Option LastCall) Memory) → IfOk r (λ found. MatchOption found (NoCallAt h at) (CalledAt h at))
    → IfOk r (λ found. MatchOption found (NoneCalled h n) (LastCalled h n))
last-of h n at last r p = if-ok r (λ found. MatchOption found (NoCallAt h at) (CalledAt h at)) (λ found. MatchOption found (NoneCalled h n) (LastCalled h n)) (λ found f. last-by h n at last found f) p
