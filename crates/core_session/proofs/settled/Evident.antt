-- Of each byte that an answer settled there is evidence by then.
use Rattle.core_session.proofs.Prelude.{◌≡◌, ◌≢◌, ◌≤◌, ◌<◌, ◌⊎◌, inl, inr, ℕ, suc, List, length, refl, sym, ap, subst, ◌∙◌, arith, cases_lt, Answer, Entry, Began, Answered, Delivered, Call, Reply, Op, At, Asked, Origin, Ended, At-below, At-one, Modes, SettledBy, WroteAt, MadeFirm, at_once, by_commit, Evidence, WritesByte, Cuts, MadeAndKept, TouchedUntil}
use Rattle.claims.specs.Settled.{later, itself, Overtaken}
use Rattle.claims.specs.Touched.{MadeStable}
use Rattle.world_model.specs.declared.answer.Answer.TheVariants.{Done}
use Rattle.world_model.specs.declared.op.Op.TheVariants as ops
use Rattle.claims.specs.Settled as settled
use Rattle.claims.specs.Touched as touched
use Rattle.core_session.specs.settled.Evident.{SettledEvident}
use Rattle.core_session.specs.syncs.Until as until
use Rattle.core_session.proofs.settled.Converted.{to-evidence}
use Rattle.core_session.proofs.settled.LostSyncs.{all-synced}

-- ---- the answer that settles

-- an answer is noted at the place j
record IsAnswer (h : List Entry) (j : ℕ) : Type 0 where
  lane : ℕ
  line : ℕ
  answer : Answer
  at : At h j (Answered lane line answer)

answer-of : (h : List Entry) (lane x : ℕ) (op : Op) (y : ℕ) (answer : Answer) → Ended h lane x op y answer → IsAnswer h y
answer-of h lane x op y answer e = record { lane = lane; line = e.line; answer = answer; at = e.answered }

made-answer : (m : Modes) (h : List Entry) (x j : ℕ) (f : List ℕ) → MadeStable m h x j f → IsAnswer h j
made-answer m h x j f (touched.sync lane slot value of ended) = answer-of h lane x (ops.Sync slot) j (Done value) ended
made-answer m h x j f (touched.close lane slot value of ended) = answer-of h lane x (ops.Close slot) j (Done value) ended
made-answer m h x j f (touched.put offset bytes to) = answer-of h to.lane x (ops.Put to.path offset bytes) j (Done to.value) to.ended

settling-answer : (m : Modes) (h : List Entry) (w y : ℕ) (f : List ℕ) (j : ℕ) → SettledBy m h w y f j → IsAnswer h j
settling-answer m h w y f j (later x after made) = made-answer m h x j f made
settling-answer m h w y f j (itself offset bytes to is) =
    subst (IsAnswer h) (sym is) (answer-of h to.lane w (ops.Put to.path offset bytes) y (Done to.value) to.ended)

-- ---- what is there at an answer was there before it

began-not : (h : List Entry) (x j lane line : ℕ) (op : Op) → At h x (Began lane line op) → IsAnswer h j → x ≡ j → ⊥
began-not h x j lane line op at a same =
    absurd (cc (At-one h j (Began lane line op) (Answered a.lane a.line a.answer) (subst (λ (k : ℕ). At h k (Began lane line op)) same at) a.at))

came-not : (h : List Entry) (x j : ℕ) (bytes : List ℕ) → At h x (Delivered bytes) → IsAnswer h j → x ≡ j → ⊥
came-not h x j bytes at a same =
    absurd (cc (At-one h j (Delivered bytes) (Answered a.lane a.line a.answer) (subst (λ (k : ℕ). At h k (Delivered bytes)) same at) a.at))

below : (x j : ℕ) → x < suc j → (x ≡ j → ⊥) → x < j
below x j low off = elim (cases_lt x j) [ inl lt ↦ lt | inr ge ↦ absurd (off (omega (arith, low, ge))) ]

began-below : (h : List Entry) (x j lane line : ℕ) (op : Op) → At h x (Began lane line op) → IsAnswer h j → x < suc j → x < j
began-below h x j lane line op at a low = below x j low (began-not h x j lane line op at a)

writer-below : (m : Modes) (origin : Origin) (h : List Entry) (x j : ℕ) (f : List ℕ) (i v : ℕ) → WritesByte m origin h x f i v → IsAnswer h j → x < suc j → x < j
writer-below m origin h x j f i v (touched.write slot offset bytes of covers) a low = began-below h x j of.lane of.line (ops.Write slot offset bytes) of.began a low
writer-below m origin h x j f i v (touched.fill slot offset count of from upto) a low = began-below h x j of.lane of.line (ops.Fill slot offset count v) of.began a low
writer-below m origin h x j f i v (touched.put lane line offset n path bytes at ends leads covers) a low = began-below h x j lane line (ops.Put path offset bytes) at a low

cutter-below : (m : Modes) (h : List Entry) (x j : ℕ) (f : List ℕ) (i : ℕ) → Cuts m h x f i → IsAnswer h j → x < suc j → x < j
cutter-below m h x j f i c a low = began-below h x j c.of.lane c.of.line (ops.Truncate c.slot c.size) c.of.began a low

overtaken-so : (m : Modes) (origin : Origin) (h : List Entry) (w j : ℕ) (f : List ℕ) (i : ℕ) → IsAnswer h j → TouchedUntil m origin h w j (suc j) f i → Overtaken m origin h w j f i
overtaken-so m origin h w j f i a (until.written x v apart low open_ writes kept) = settled.written x v apart (writer-below m origin h x j f i v writes a low) open_ writes kept
overtaken-so m origin h w j f i a (until.cut x apart low open_ cuts) = settled.cut x apart (cutter-below m h x j f i cuts a low) open_ cuts
overtaken-so m origin h w j f i a (until.given_up k late soon left gives) = settled.given_up k late soon left gives

-- a reply that came by the place after an answer came before it
asked-by : (h : List Entry) (from to w j : ℕ) (call : Call) (reply : Reply) → w ≤ from → to ≤ suc j → IsAnswer h j → Asked h from to call reply → Asked h w j call reply
asked-by h from to w j call reply wide short a k = record {
  xid = k.xid;
  bytes = k.bytes;
  heard = record {
    sent_at = k.heard.sent_at;
    record_sent = k.heard.record_sent;
    got_at = k.heard.got_at;
    sent = k.heard.sent;
    spells = k.heard.spells;
    got = k.heard.got;
    after = let low = k.heard.after in omega (arith, low, wide);
    later = k.heard.later;
    before = let high = k.heard.before in below k.heard.got_at j (omega (arith, high, short)) (came-not h k.heard.got_at j k.bytes k.heard.got.got a);
  };
  spells = k.spells;
}

-- the same, where the calls were sent from an earlier place on
asked-wide : (h : List Entry) (from w to : ℕ) (call : Call) (reply : Reply) → w ≤ from → Asked h from to call reply → Asked h w to call reply
asked-wide h from w to call reply wide k = record {
  xid = k.xid;
  bytes = k.bytes;
  heard = record {
    sent_at = k.heard.sent_at;
    record_sent = k.heard.record_sent;
    got_at = k.heard.got_at;
    sent = k.heard.sent;
    spells = k.heard.spells;
    got = k.heard.got;
    after = let low = k.heard.after in omega (arith, low, wide);
    later = k.heard.later;
    before = k.heard.before;
  };
  spells = k.spells;
}

module _ (h : List Entry) (from w j : ℕ) (f : List ℕ) (i v : ℕ) (wide : w ≤ from) (a : IsAnswer h j) where
  -- the WRITE, by another place
  wrote-as : (to : ℕ) (e : Evidence h from (suc j) f i v) → ((call : Call) (reply : Reply) → Asked h from e.middle call reply → Asked h w to call reply) → WroteAt h w to f i v e.firm e.verf
  wrote-as to e as_ = record {
    offset = e.wrote.offset;
    how = e.wrote.how;
    bytes = e.wrote.bytes;
    wcc = e.wrote.wcc;
    count = e.wrote.count;
    asked = as_ _ _ e.wrote.asked;
    covers = e.wrote.covers;
    reached = e.wrote.reached;
  }

  evidence-by : Evidence h from (suc j) f i v → Evidence h w j f i v
  evidence-by e = by e.made
    where
      by : MadeFirm h e.middle (suc j) f e.firm e.verf → Evidence h w j f i v
      by (at_once some) = record {
        middle = j;
        firm = e.firm;
        verf = e.verf;
        by = omega arith;
        wrote = wrote-as j e (λ call reply k. asked-by h from e.middle w j call reply wide e.by a k);
        made = at_once some;
      }
      by (by_commit wcc its same asked) =
          let early = asked-by h e.middle (suc j) e.middle j _ _ (omega arith) (omega arith) a asked in
          record {
            middle = e.middle;
            firm = e.firm;
            verf = e.verf;
            by = let low = early.heard.after in let mid = early.heard.later in let high = early.heard.before in omega (arith, low, mid, high);
            wrote = wrote-as e.middle e (λ call reply k. asked-wide h from w e.middle call reply wide k);
            made = by_commit wcc its same early;
          }

-- ---- all of them

pub settled-evident : SettledEvident
settled-evident m terms setup h v g roots named w y f i byte j wrote by free =
    let a : IsAnswer h j = settling-answer terms.modes h w y f j by in
    let within : suc j ≤ length h = At-below h j (Answered a.lane a.line a.answer) a.at in
    let k : MadeAndKept h w (suc j) (suc j) f i byte =
    all-synced m terms setup h v g roots named w y f i byte j (suc j) wrote by (omega arith) within
    (λ t. free (overtaken-so terms.modes terms.origin h w j f i a t)) in
    evidence-by h k.from w j f i byte (let low = k.after in omega (arith, low)) a (to-evidence h k.from (suc j) f i byte k.made)
