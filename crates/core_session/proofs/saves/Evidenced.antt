-- What a record that is heard shows of a byte that was written.
use Rattle.core_session.proofs.Prelude.{◌≡◌, ◌<◌, ◌≤◌, ◌+◌, ℕ, List, [], ◌∷◌, ◌++◌, length, false, Some, Ok, sym, subst, ◌∙◌, arith, Verf, Wcc, xid_at, Waiting, waiting_at, Entry, Began, Sent, Delivered, Call, Reply, Op, At, Asked, HasXid, SpellsCall, SpellsReply, commit_call, Asked-grow, At-back, said_of, Says, Mounted, machine_of, Purpose, Setup, View, Reaches, HearsRecord, IsOfOperation, Tried, unsent, begins-unbegun, was-sent, says-of, reached-owned, reached-rows, IsNfs, one-call, write_of, WroteByte, MadeStable}
use Rattle.world_model.specs.Heard.{Heard}
use Rattle.call_replies.specs.Says.{IsCallOf}
use Rattle.core_facts.specs.Tries.{IsKnown, runs, ended}
use Rattle.core_facts.proofs.Hearing.{heard-of}
use Rattle.core_answers.specs.writes.Carried.{IsCarried}
use Rattle.core_session.specs.saves.Evidence.{WroteUnder, at_once, by_commit}
use Rattle.nfs_file_calls.specs.declared.owned.FileKept.TheVariants as kept
use Rattle.nfs_file_calls.specs.declared.call.FileCall.TheVariants as files
use Rattle.world_model.specs.declared.message.Call.TheVariants as calls
use Rattle.world_model.specs.declared.message.Reply.TheVariants as replies
use Rattle.core_answers.proofs.writes.PiecesCarried.{pieces-carried}
use Rattle.step_saves.specs.Accounts.{Reaches as ReachesByte}

some-waiting : (a b : Waiting Purpose) → Some a ≡ Some b → a ≡ b
some-waiting a b e = cc

-- ---- what a history shows, a longer one shows

pub byte-grow : (h more : List Entry) (from to : ℕ) (file : List ℕ) (place byte firm : ℕ) (verf : Verf) → WroteByte h from to file place byte firm verf → WroteByte (h ++ more) from to file place byte firm verf
byte-grow h more from to file place byte firm verf w = record {
  offset = w.offset;
  how = w.how;
  bytes = w.bytes;
  wcc = w.wcc;
  count = w.count;
  asked = Asked-grow h more from to (calls.File (files.Write file w.offset w.how w.bytes)) (replies.File (kept.Write w.wcc w.count firm verf)) w.asked;
  inside = w.inside;
  has = w.has;
  reached = w.reached;
}

pub under-grow : (h more : List Entry) (from to : ℕ) (file : List ℕ) (place byte : ℕ) (held : List ℕ) → WroteUnder h from to file place byte held → WroteUnder (h ++ more) from to file place byte held
under-grow h more from to file place byte held w = record { firm = w.firm; verf = w.verf; same = w.same; wrote = byte-grow h more from to file place byte w.firm w.verf w.wrote }

asked-later : (h : List Entry) (from to end : ℕ) (call : Call) (reply : Reply) → to ≤ end → Asked h from to call reply → Asked h from end call reply
asked-later h from to end call reply le a = record {
  xid = a.xid;
  bytes = a.bytes;
  heard = record {
    sent_at = a.heard.sent_at;
    record_sent = a.heard.record_sent;
    got_at = a.heard.got_at;
    sent = a.heard.sent;
    spells = a.heard.spells;
    got = a.heard.got;
    after = a.heard.after;
    later = a.heard.later;
    before = omega (arith, le, a.heard.before);
  };
  spells = a.spells;
}

pub byte-later : (h : List Entry) (from to end : ℕ) (file : List ℕ) (place byte firm : ℕ) (verf : Verf) → to ≤ end → WroteByte h from to file place byte firm verf → WroteByte h from end file place byte firm verf
byte-later h from to end file place byte firm verf le w = record {
  offset = w.offset;
  how = w.how;
  bytes = w.bytes;
  wcc = w.wcc;
  count = w.count;
  asked = asked-later h from to end (calls.File (files.Write file w.offset w.how w.bytes)) (replies.File (kept.Write w.wcc w.count firm verf)) le w.asked;
  inside = w.inside;
  has = w.has;
  reached = w.reached;
}

pub stable-grow : (h more : List Entry) (from to end : ℕ) (file : List ℕ) (place byte : ℕ) → to ≤ end → MadeStable h from to file place byte → MadeStable (h ++ more) from end file place byte
stable-grow h more from to end file place byte le (at_once firm verf some w) =
    at_once firm verf some (byte-later (h ++ more) from to end file place byte firm verf le (byte-grow h more from to file place byte firm verf w))
stable-grow h more from to end file place byte le (by_commit n wcc verf low w a) =
    by_commit n wcc verf (omega (arith, le, low)) (under-grow h more from n file place byte verf.0 w)
    (asked-later (h ++ more) n to end (commit_call file) (replies.File (kept.Commit wcc verf)) le (Asked-grow h more n to (commit_call file) (replies.File (kept.Commit wcc verf)) a))

module _ (m : Mounted) (setup : Setup) (h : List Entry) (old : View) (r : Reaches (machine_of m) setup h old) (found : old.lost ≡ false) (rec : List ℕ) (fin : View) (hears : HearsRecord old rec fin)
    (xid : ℕ) (call : Waiting Purpose) (named : xid_at rec ≡ Some xid) (waits : waiting_at xid old.calls.calls ≡ Some call) (x : ℕ)
    (only : (i lane line : ℕ) (op : Op) → At h i (Began lane line op) → i ≡ x) where
  abbrev later : List Entry
  later = h ++ Delivered rec ∷ []

  -- it answers the call that its record spells
  heard-as : (asked : Call) → SpellsCall xid asked call.bytes → Heard later x (length h + 1) asked xid rec
  heard-as asked spells = by k.tried
    where
      k : IsKnown setup h xid call
      k = (reached-rows (machine_of m) setup h old r).rows xid call waits

      own : IsOfOperation h old xid call
      own = (reached-owned (machine_of m) (begins-unbegun m) setup h old r found).owned xid call waits

      here : own.x ≡ x
      here = only own.x call.purpose.lane own.under_way.line own.op own.under_way.began

      by : Tried h xid call → Heard later x (length h + 1) asked xid rec
      by (unsent nothing u) = absurd (let some = was-sent xid old.calls.calls call hears.may.sent waits in omega (arith, some, nothing))
      by (runs from running o rest) = heard-of h rec xid from x asked call.bytes o spells named (subst (λ (n : ℕ). n < from) here (own.since from call.bytes o.sent.sent o.sent.under))
      by (ended from idle o rest) = heard-of h rec xid from x asked call.bytes o spells named (subst (λ (n : ℕ). n < from) here (own.since from call.bytes o.sent.sent o.sent.under))

  -- and the reply is to that call
  pub spelled-as : (asked : Call) (reply : Reply) → IsNfs asked → SpellsCall xid asked call.bytes → said_of call.purpose.proc rec ≡ Ok reply → SpellsReply xid asked reply rec
  spelled-as asked reply nfs spells said =
      let k = (reached-rows (machine_of m) setup h old r).rows xid call waits in
      let same : asked ≡ k.made.asked = one-call xid xid asked k.made.asked call.bytes nfs spells k.made.spells.spells in
      let of : IsCallOf call.purpose.proc asked = subst (λ (c : Call). IsCallOf call.purpose.proc c) (sym same) (record { nfs = k.made.nfs; is = sym k.made.proc }) in
      let says : Says xid asked rec (said_of call.purpose.proc rec) = says-of old rec hears.result fin xid call hears.hears named waits xid named asked of in
      let one : Says xid asked rec (Ok reply) = subst (Says xid asked rec) said says in
      one.is

  asked-as : (asked : Call) (reply : Reply) → IsNfs asked → SpellsCall xid asked call.bytes → said_of call.purpose.proc rec ≡ Ok reply → Asked later x (length h + 1) asked reply
  asked-as asked reply nfs spells said = record { xid = xid; bytes = rec; heard = heard-as asked spells; spells = spelled-as asked reply nfs spells said }

  -- ---- a WRITE

  pub wrote-byte : (file : List ℕ) (place byte : ℕ) (wcc : Wcc) (count committed : ℕ) (verf : Verf) → said_of call.purpose.proc rec ≡ Ok (replies.File (kept.Write wcc count committed verf))
      → (to : List ℕ) → ReachesByte file place byte old.shelf.back xid to count → WroteByte later x (length h + 1) file place byte committed verf
  wrote-byte file place byte wcc count committed verf said to reaches =
      let c : IsCarried setup old file xid reaches.piece = pieces-carried m setup h old r found file xid reaches.piece reaches.under in
      let which : c.waiting ≡ call = some-waiting c.waiting call (sym c.waits ∙ waits) in
      let spells : SpellsCall xid (write_of file reaches.piece) call.bytes = subst (λ (w : Waiting Purpose). SpellsCall xid (write_of file reaches.piece) w.bytes) which c.spells.spells in
      record {
        offset = reaches.piece.offset;
        how = reaches.piece.how;
        bytes = reaches.piece.bytes;
        wcc = wcc;
        count = count;
        asked = asked-as (write_of file reaches.piece) (replies.File (kept.Write wcc count committed verf)) tt spells said;
        inside = reaches.inside;
        has = reaches.has;
        reached = reaches.reached;
      }

  -- ---- a COMMIT that was sent after the reply to the WRITE came

  pub committed-after : (file : List ℕ) (place byte : ℕ) (wcc : Wcc) (verf : Verf) → said_of call.purpose.proc rec ≡ Ok (replies.File (kept.Commit wcc verf)) → SpellsCall xid (commit_call file) call.bytes
      → (n : ℕ) → WroteUnder later x n file place byte verf.0 → ((i : ℕ) (b : List ℕ) → At h i (Sent b) → HasXid b xid → n ≤ i) → MadeStable later x (length h + 1) file place byte
  committed-after file place byte wcc verf said spells n w before =
      let d : Heard later x (length h + 1) (commit_call file) xid rec = heard-as (commit_call file) spells in
      let early : d.sent_at < length h = omega (arith, d.later, d.before) in
      let after : n ≤ d.sent_at = before d.sent_at d.record_sent (At-back h (Delivered rec ∷ []) d.sent_at (Sent d.record_sent) d.sent.sent early) d.sent.under in
      by_commit n wcc verf (omega (arith, after, early)) w (record {
        xid = xid;
        bytes = rec;
        heard = record { sent_at = d.sent_at; record_sent = d.record_sent; got_at = d.got_at; sent = d.sent; spells = d.spells; got = d.got; after = after; later = d.later; before = d.before };
        spells = spelled-as (commit_call file) (replies.File (kept.Commit wcc verf)) tt spells said;
      })
