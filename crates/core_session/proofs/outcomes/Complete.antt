-- Where nothing goes wrong, each operation goes well, or has a reason of its own why not.
use Rattle.core_session.proofs.Prelude.{◌≡◌, ◌≢◌, ◌≤◌, ◌⊎◌, inl, inr, ℕ, List, ◌++◌, length, refl, sym, ap, subst, ◌∙◌, arith, Answer, Fault, Entry, Delivered, Call, Op, Asks, At, GoesOn, status_of, History, Lawful, SpellsCall, info_call, Ended, RefusesSo, RefusedBy, Terms, Mounted, machine_of, Setup, View, Notes, KnowsRoot, IsForRoom, IsNfs, one-call, GoesFrom, CallsAskedBut}
use Rattle.world_model.specs.Heard.{Heard}
use Rattle.world_model.specs.Mounts.{mount_call}
use Rattle.claims.specs.PageRules.{RefusedSo}
use Rattle.world_model.specs.Lost.{IsLost}
use Rattle.rpc_message.specs.Reply.{SpellsRefusal}
use Rattle.nfs_file_calls.specs.declared.call.FileCall.TheVariants as files
use Rattle.world_model.specs.declared.answer.Answer.TheVariants as answers
use Rattle.world_model.specs.declared.answer.Fault.TheVariants as faults
use Rattle.world_model.specs.declared.message.Call.TheVariants as calls
use Rattle.claims.specs.CallsAsked.{IsCause, mounts, informs, asked}
use Rattle.claims.specs.Complete as complete
use Rattle.claims.specs.Complete.{Undisturbed, AllGoOn, IsOwn}
use Rattle.claims.specs.PageRules as pages
use Rattle.core_facts.proofs.LostAnswers.{lost-answers}
use Rattle.core_answers.specs.asks.PutCalls as rooms
use Rattle.core_session.specs.calls.Made.{IsBeside, makes_room, removes}
use Rattle.core_session.proofs.calls.Whole.{calls-asked-but, session}
use Rattle.core_answers.proofs.refusals.Refused.{OwnRefusal, own-later, own-refused}
use Rattle.core_session.specs.outcomes.Complete.{CarriesBytes, ServedComplete, UndisturbedComplete}
use Rattle.core_session.proofs.outcomes.Refusals.{refusal-rows}
use Rattle.core_session.proofs.outcomes.RoomRows.{under}
use Rattle.core_session.proofs.outcomes.Served.{asks-nfs, asks-read, one-reply, IsTold, told-of, not-broken, not-page}

for-room : (file : List ℕ) (offset count : ℕ) → IsForRoom (calls.File (files.Read file offset count)) → ⊥
for-room file offset count (rooms.writes f bytes at how is) = cc
for-room file offset count (rooms.commits f is) = cc

module _ (m : Mounted) (terms : Terms) (setup : Setup) (before : List Entry) (t : History) (v : View) (g : GoesFrom m terms setup before t.entries v) (notes : Notes (machine_of m) setup t.entries v) (carries : CarriesBytes t.entries)
    (lawful : Lawful t) (kept : (n : ℕ) → IsLost t.entries n → ⊥) (unrefused : (n xid code : ℕ) (bytes : List ℕ) → At t.entries n (Delivered bytes) → SpellsRefusal xid code bytes → ⊥) where
  pub asked_all : CallsAskedBut terms t.entries
  asked_all = calls-asked-but m terms setup before t.entries v g notes

  abbrev pub Told : Call → ℕ → List ℕ → Type 0
  Told call xid bytes = IsTold t lawful unrefused asked_all.equal carries call xid bytes

  -- ---- a READ asks for a byte at least

  module _ (x y : ℕ) (call : Call) (xid : ℕ) (bytes : List ℕ) (nfs : IsNfs call) (d : Heard t.entries x y call xid bytes) (file : List ℕ) (offset count : ℕ)
      (is : call ≡ calls.File (files.Read file offset count)) where
    same-call : (other : Call) (its : ℕ) → SpellsCall its other d.record_sent → other ≡ calls.File (files.Read file offset count)
    same-call other its spells = sym (one-call xid its call other d.record_sent nfs d.spells spells) ∙ is

    because : (other : Call) → other ≡ calls.File (files.Read file offset count) → IsCause terms t.entries d.sent_at other → 1 ≤ count
    because other to (mounts path origin c none) = absurd (let no_way : calls.File (files.Read file offset count) ≡ mount_call path = sym to ∙ c in cc)
    because other to (informs root rooted c none) = absurd (let no_way : calls.File (files.Read file offset count) ≡ info_call root = sym to ∙ c in cc)
    because other to (asked lane z op under_way asks keeps) =
        asks-read terms t.entries z d.sent_at op file offset count (subst (λ (c : Call). Asks terms t.entries z d.sent_at op c) to asks)

    not-beside : (other : Call) (z : ℕ) (op : Op) → other ≡ calls.File (files.Read file offset count) → IsBeside terms t.entries z d.sent_at op other → 1 ≤ count
    not-beside other z op to (makes_room writer room) = absurd (for-room file offset count (subst IsForRoom to room))
    not-beside other z op to (removes slot closes r) = absurd (let no_way = sym to ∙ r.is in cc)

    read-some : 1 ≤ count
    read-some = elim (asked_all.caused d.sent_at d.record_sent d.sent.sent) [
      | inl k ↦ because k.call (same-call k.call k.xid k.made.spells) k.cause
      | inr k ↦ not-beside k.call k.x k.op (same-call k.call k.xid k.made.spells) k.beside
    ]

  -- ---- refusals

  module _ (x y : ℕ) (call : Call) (nfs : IsNfs call) where
    told : (fault : Fault) (k : RefusedSo t.entries x y call fault) → Told call k.xid k.bytes
    told fault k = told-of t lawful unrefused asked_all.equal carries x y call k.xid k.bytes nfs k.heard

    rpc-not : (n : ℕ) → RefusedSo t.entries x y call (faults.Rpc n) → ⊥
    rpc-not n k = by k.refuses
      where
        by : RefusesSo k.xid call k.bytes (faults.Rpc n) → ⊥
        by (pages.breaks r is b) = cc
        by (pages.refuses f) = unrefused k.heard.got_at k.xid n k.bytes k.heard.got.got f

    bad-not : (n : ℕ) → RefusedSo t.entries x y call (faults.Bad n) → ⊥
    bad-not n k = by (told (faults.Bad n) k) k.refuses
      where
        by : Told call k.xid k.bytes → RefusesSo k.xid call k.bytes (faults.Bad n) → ⊥
        by told_of (pages.refuses f) = not-broken t lawful unrefused asked_all.equal carries x y call k.xid k.bytes n k.heard told_of f
        by told_of (pages.breaks r is b) =
            not-page t lawful unrefused asked_all.equal carries call k.xid k.bytes r (λ file offset count c. read-some x y call k.xid k.bytes nfs k.heard file offset count c) told_of b

    -- the execution that a status tells of
    pub record Executes (n xid : ℕ) (bytes : List ℕ) : Type 0 where
      pub told_of : Told call xid bytes
      pub status : status_of told_of.reply ≡ n
      pub other : n ≢ 0

    executes : (n : ℕ) (k : RefusedSo t.entries x y call (faults.Nfs n)) → Executes n k.xid k.bytes
    executes n k = by (told (faults.Nfs n) k) k.refuses
      where
        by : Told call k.xid k.bytes → RefusesSo k.xid call k.bytes (faults.Nfs n) → Executes n k.xid k.bytes
        by told_of (pages.breaks r is b) = absurd (cc)
        by told_of (pages.refuses f) = record {
          told_of = told_of;
          status = ap status_of (one-reply k.xid call told_of.reply f.0 k.bytes told_of.spells f.1) ∙ f.2;
          other = f.3;
        }

  -- ---- what refused it

  module _ (lane x y : ℕ) (op : Op) where
    abbrev Refuses : Fault → Type 0
    Refuses fault = Ended t.entries lane x op y (answers.Refused fault)

    whole : (fault : Fault) (h after : List Entry) → t.entries ≡ h ++ after → length h ≡ y → OwnRefusal m setup h x (length h) op fault → OwnRefusal m setup t.entries x y op fault
    whole fault h after is there w =
        subst (λ (k : List Entry). OwnRefusal m setup k x y op fault) (sym is) (own-later m setup h after x (length h) y op fault (omega (arith, there)) w)

    rpc-never : (n : ℕ) → Refuses (faults.Rpc n) → ⊥
    rpc-never n ended =
        let s = own-refused m setup terms.modes g.goes.nocto t.entries v g.goes.reaches lane x op y (faults.Rpc n) ended in
        let w = whole (faults.Rpc n) s.0 s.1.0 s.1.1 s.1.2 s.1.3 in
        rpc-not x y w.call w.sent.nfs n w.refused

    bad-never : (n : ℕ) → Refuses (faults.Bad n) → ⊥
    bad-never n ended =
        let s = own-refused m setup terms.modes g.goes.nocto t.entries v g.goes.reaches lane x op y (faults.Bad n) ended in
        let w = whole (faults.Bad n) s.0 s.1.0 s.1.1 s.1.2 s.1.3 in
        bad-not x y w.call w.sent.nfs n w.refused

    own-fault : (fault : Fault) → Refuses fault → ((n : ℕ) → fault ≡ faults.Nfs n → ⊥) → IsOwn (answers.Refused fault)
    own-fault (faults.Nfs n) ended none = absurd (none n refl)
    own-fault (faults.Rpc n) ended none = absurd (rpc-never n ended)
    own-fault (faults.Bad n) ended none = absurd (bad-never n ended)
    own-fault faults.Lost ended none = absurd (kept y (lost-answers m setup t.entries v g.goes.reaches lane x op y ended))
    own-fault faults.Spent ended none = complete.spent refl
    own-fault faults.Slot ended none = complete.slot refl
    own-fault faults.Mode ended none = complete.mode refl
    own-fault faults.Kind ended none = complete.kind refl
    own-fault faults.Many ended none = complete.many refl
    own-fault faults.Memory ended none = complete.memory refl

    own-answer : (answer : Answer) → Ended t.entries lane x op y answer → ((n : ℕ) → answer ≡ answers.Refused (faults.Nfs n) → ⊥) → IsOwn answer
    own-answer (answers.Done value) ended none = complete.done value refl
    own-answer (answers.Refused fault) ended none = own-fault fault ended (λ n is. none n (ap answers.Refused is))

-- ---- each call is executed with status 0

pub served-complete : ServedComplete
served-complete m terms setup before t v g notes carries s lane x y op answer ended =
    own-answer m terms setup before t v g notes carries s.lawful s.kept s.unrefused lane x y op answer ended (λ n is. never n (subst (λ (a : Answer). Ended t.entries lane x op y a) is ended))
  where
    never : (n : ℕ) → Ended t.entries lane x op y (answers.Refused (faults.Nfs n)) → ⊥
    never n refused =
        let k = own-refused m setup terms.modes g.goes.nocto t.entries v g.goes.reaches lane x op y (faults.Nfs n) refused in
        let w = whole m terms setup before t v g notes carries s.lawful s.kept s.unrefused lane x y op (faults.Nfs n) k.0 k.1.0 k.1.1 k.1.2 k.1.3 in
        let e = executes m terms setup before t v g notes carries s.lawful s.kept s.unrefused x y w.call w.sent.nfs n w.refused in
        e.other (sym e.status ∙ s.done e.told_of.place w.refused.xid w.call e.told_of.reply e.told_of.at)

-- ---- operations go on from other statuses

-- the root was known as each operation began
knows-root : (m : Mounted) (terms : Terms) (setup : Setup) (before h : List Entry) (v : View) → GoesFrom m terms setup before h v → KnowsRoot terms.origin h m.root
knows-root m terms setup before h v g = (session m terms setup before h v g).root

module _ (m : Mounted) (terms : Terms) (setup : Setup) (before : List Entry) (t : History) (v : View) (g : GoesFrom m terms setup before t.entries v) (notes : Notes (machine_of m) setup t.entries v) (carries : CarriesBytes t.entries)
    (u : Undisturbed terms t) (lane x y : ℕ) (op : Op) where
  -- no status ends an operation from which it goes on
  never-so : (n : ℕ) → RefusedBy terms t.entries x y op (faults.Nfs n) → Ended t.entries lane x op y (answers.Refused (faults.Nfs n)) → ⊥
  never-so n k refused = by (u.done e.told_of.place k.refused.xid k.call e.told_of.reply e.told_of.at)
    where
      nfs : IsNfs k.call
      nfs = asks-nfs terms t.entries x k.refused.heard.sent_at op k.call k.asks

      e : Executes m terms setup before t v g notes carries u.lawful u.kept u.unrefused x y k.call nfs n k.refused.xid k.refused.bytes
      e = executes m terms setup before t v g notes carries u.lawful u.kept u.unrefused x y k.call nfs n k.refused

      by : (status_of e.told_of.reply ≡ 0) ⊎ AllGoOn terms t.entries k.refused.xid k.call (status_of e.told_of.reply) → ⊥
      by (inl none) = e.other (sym e.status ∙ none)
      by (inr go) =
          let d = k.refused.heard in
          k.ends n refl
          (subst (λ (s : ℕ). GoesOn terms t.entries x d.got_at op k.call s) e.status
          (go d.sent_at d.got_at lane x d.record_sent k.refused.bytes op d.sent (under t.entries lane x y op (answers.Refused (faults.Nfs n)) k.call k.refused.xid k.refused.bytes refused d) k.asks d.got))

  pub own-unless : (answer : Answer) → Ended t.entries lane x op y answer → ((n : ℕ) → answer ≡ answers.Refused (faults.Nfs n) → Ended t.entries lane x op y (answers.Refused (faults.Nfs n)) → RefusedBy terms t.entries x y op (faults.Nfs n))
      → IsOwn answer
  own-unless answer ended row =
      own-answer m terms setup before t v g notes carries u.lawful u.kept u.unrefused lane x y op answer ended
      (λ n is. let refused = subst (λ (a : Answer). Ended t.entries lane x op y a) is ended in never-so n (row n is refused) refused)

pub undisturbed-complete : UndisturbedComplete
undisturbed-complete m terms setup before t v g notes carries u lane x y op answer rowed ended =
    own-unless m terms setup before t v g notes carries u lane x y op answer ended
    (λ n is refused.
    refusal-rows m terms setup t.entries v (record { goes = g.goes; noac = g.noac; some = g.some; known = knows-root m terms setup before t.entries v g }) lane x y op (faults.Nfs n)
    (g.asked x lane ended.line op ended.began) (rowed n is) refused)
