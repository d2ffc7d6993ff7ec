-- The rows of a write, fill or put that a record refused: it asked for the call, or made room by it.
use Rattle.core_session.proofs.Prelude.{◌≡◌, ◌≢◌, ◌≤◌, ◌⊎◌, inl, inr, ℕ, List, ◌++◌, length, refl, sym, subst, ◌∙◌, arith, cases_lt, Mode, Answer, Fault, Entry, Began, Answered, Sent, Call, Op, Asks, IsWriter, At, GoesOn, Rooted, Ended, UnderWay, IsLastRemove, RefusedBy, Terms, jukebox, At-one, Mounted, IsAsked, IsNamed, machine_of, Busy, Setup, View, in_flight, KnowsRoot, begins-unbegun, good-over, over-laws, Always, reached-good, IsForRoom, Expects, expects-laws, NoCall, GoesSo, SentCall}
use Rattle.core_answers.proofs.refusals.SentCalls.{as-sent}
use Rattle.nfs_types.specs.declared.mode.Mode.TheVariants as modes
use Rattle.world_model.specs.declared.answer.Answer.TheVariants as answers
use Rattle.world_model.specs.declared.answer.Fault.TheVariants as faults
use Rattle.world_model.specs.declared.op.Op.TheVariants as ops
use Rattle.claims.specs.Asks as asks
use Rattle.claims.specs.GoesOn as on
use Rattle.world_model.specs.Heard.{Heard}
use Rattle.core_answers.proofs.asks.PutAsks as puts
use Rattle.core_answers.proofs.asks.PutAsks.{Sending, rooted-now, put-asks}
use Rattle.core_session.proofs.calls.WriteCause.{IsStore, WriteStory, write-laws, write-asks}
use Rattle.core_answers.proofs.refusals.Refused.{OwnRefusal, Shown, own-later, own-refused}
use Rattle.core_session.specs.outcomes.Rooms.{IsNoJukebox, RefusedForRoom}

-- ---- the call, as it was first sent

module _ (m : Mounted) (terms : Terms) (setup : Setup) (h : List Entry) (known : KnowsRoot terms.origin h m.root) (i x : ℕ) (call : Call) (op : Op)
    (s : SentCall (machine_of m) (begins-unbegun m) setup h i x op call) where
  sending : Sending m setup terms h known i s.bytes
  sending = as-sent (machine_of m) (begins-unbegun m) setup Expects expects-laws h i x op call s

  rooted : Rooted terms.origin (s.sent.waited.before ++ s.sent.waited.after) i m.root
  unfolding sending as-sent
  rooted = rooted-now m setup terms h known i s.bytes sending

  expected : Expects s.sent.machine call
  unfolding sending as-sent
  expected = sending.expects

  some : 1 ≤ in_flight s.sent.machine
  unfolding sending as-sent
  some = sending.some

  -- a write or fill makes room by it
  pub store-room : IsStore op → IsForRoom call
  store-room stores =
      let w = s.sent.waited in
      write-asks s.sent.machine call
      ((good-over (machine_of m) (begins-unbegun m) setup Always (λ g u reached kept lane idle. tt) WriteStory (over-laws (machine_of m) WriteStory (write-laws m)) w.before w.old w.reached s.sent.at
      (record { number = s.lane; state = Busy s.sent.machine }) s.sent.busy).1 x op s.sent.under_way stores) expected some

-- a put asks for it, or makes room by it
module _ (m : Mounted) (terms : Terms) (setup : Setup) (h : List Entry) (known : KnowsRoot terms.origin h m.root) (i x : ℕ) (call : Call) (path : List (List ℕ)) (offset : ℕ)
    (bytes : List ℕ) (named : IsNamed path) (s : SentCall (machine_of m) (begins-unbegun m) setup h i x (ops.Put path offset bytes) call) where
  pub put-room : Asks terms h x i (ops.Put path offset bytes) call ⊎ IsForRoom call
  put-room =
      let w = s.sent.waited in
      let op : Op = ops.Put path offset bytes in
      elim (put-asks m terms w.before w.after x i path offset bytes call named w.there (rooted m terms setup h known i x call op s) s.sent.machine
      (((reached-good (machine_of m) (begins-unbegun m) setup Expects expects-laws NoCall (puts.Shelved m) (puts.PutStory m) (puts.put-laws m setup) w.before w.old w.reached).each s.sent.at
      (record { number = s.lane; state = Busy s.sent.machine }) s.sent.busy).1 x op s.sent.under_way path offset bytes refl named)
      (expected m terms setup h known i x call op s) (some m terms setup h known i x call op s)) [
        | inl made ↦ inl (subst (λ (k : List Entry). Asks terms k x i op call) (sym w.is) made)
        | inr room ↦ inr room.room
      ]

-- ---- an operation that was refused is under way as its call is sent

began-is : (a b c d : ℕ) (o p : Op) → Began a b o ≡ Began c d p → (a ≡ c) × (b ≡ d)
began-is a b c d o p e = (cc, cc)

pub under : (h : List Entry) (lane x y : ℕ) (op : Op) (answer : Answer) (call : Call) (xid : ℕ) (bytes : List ℕ) → Ended h lane x op y answer → (d : Heard h x y call xid bytes)
    → UnderWay h lane x d.sent_at op
under h lane x y op answer call xid bytes ended d = record {
  line = ended.line;
  began = ended.began;
  before = elim (cases_lt x d.sent_at) [
    | inl lt ↦ lt
    | inr ge ↦
        let after = d.after in
        let same : d.sent_at ≡ x = omega (arith, after, ge) in
        absurd (let no_way = At-one h x (Began lane ended.line op) (Sent d.record_sent) ended.began (subst (λ (i : ℕ). At h i (Sent d.record_sent)) same d.sent.sent) in cc)
  ];
  unanswered = λ a.
      let same = began-is a.lane a.ended.line lane ended.line a.op op (At-one h x (Began a.lane a.ended.line a.op) (Began lane ended.line op) a.ended.began ended.began) in
      let there : At h a.y (Answered lane ended.line a.answer) =
      subst (λ (n : ℕ). At h a.y (Answered n ended.line a.answer)) same.0 (subst (λ (l : ℕ). At h a.y (Answered a.lane l a.answer)) same.1 a.ended.answered) in
      let late = ended.first a.y a.answer there a.ended.later in
      let early = a.before in
      let got = d.later in
      let came = d.before in
      omega (arith, late, early, got, came);
}

-- ---- the rows

writer-close : (op : Op) (call : Call) → IsWriter op → IsLastRemove op call → ⊥
writer-close op call (asks.write slot offset bytes is) l = let no_way : ops.Write slot offset bytes ≡ ops.Close l.slot = sym is ∙ l.close in cc
writer-close op call (asks.fill slot offset count byte is) l = let no_way : ops.Fill slot offset count byte ≡ ops.Close l.slot = sym is ∙ l.close in cc
writer-close op call (asks.put path offset bytes is) l = let no_way : ops.Put path offset bytes ≡ ops.Close l.slot = sym is ∙ l.close in cc

writer-open : (op : Op) (slot : ℕ) (mode : Mode) (path : List (List ℕ)) → op ≡ ops.OpenFile slot mode path → IsWriter op → ⊥
writer-open op slot mode path to (asks.write s offset bytes is) = let no_way : ops.Write s offset bytes ≡ ops.OpenFile slot mode path = sym is ∙ to in cc
writer-open op slot mode path to (asks.fill s offset count byte is) = let no_way : ops.Fill s offset count byte ≡ ops.OpenFile slot mode path = sym is ∙ to in cc
writer-open op slot mode path to (asks.put p offset bytes is) = let no_way : ops.Put p offset bytes ≡ ops.OpenFile slot mode path = sym is ∙ to in cc

writer-remove : (op : Op) (path : List (List ℕ)) → op ≡ ops.Remove path → IsWriter op → ⊥
writer-remove op path to (asks.write s offset bytes is) = let no_way : ops.Write s offset bytes ≡ ops.Remove path = sym is ∙ to in cc
writer-remove op path to (asks.fill s offset count byte is) = let no_way : ops.Fill s offset count byte ≡ ops.Remove path = sym is ∙ to in cc
writer-remove op path to (asks.put p offset bytes is) = let no_way : ops.Put p offset bytes ≡ ops.Remove path = sym is ∙ to in cc

-- a writer goes on only from NFS3ERR_JUKEBOX
pub writer-ends : (terms : Terms) (h : List Entry) (x n : ℕ) (op : Op) (call : Call) (status : ℕ) → IsWriter op → status ≢ jukebox → GoesOn terms h x n op call status → ⊥
writer-ends terms h x n op call status writer other (on.makes slot path d name is place alone c two none) = writer-open op slot modes.C path is writer
writer-ends terms h x n op call status writer other (on.hides path d last name f attr dir is place hidden apart alone c two gave) = writer-remove op path is writer
writer-ends terms h x n op call status writer other (on.tries_again is few none) = other is

module _ (m : Mounted) (terms : Terms) (setup : Setup) (h : List Entry) (v : View) (g : GoesSo m terms setup h v) (lane x y : ℕ) where
  abbrev Ends : Op → Fault → Type 0
  Ends op fault = Ended h lane x op y (answers.Refused fault)

  abbrev Own : Op → Fault → Type 0
  Own op fault = OwnRefusal m setup h x y op fault

  abbrev pub RowOr : Op → Fault → Type 0
  RowOr op fault = RefusedBy terms h x y op fault ⊎ RefusedForRoom h lane x y op fault

  room-of : (op : Op) (fault : Fault) → Ends op fault → IsWriter op → (w : Own op fault) → IsForRoom w.call → RefusedForRoom h lane x y op fault
  room-of op fault ended writer w room = record {
    call = w.call;
    refused = w.refused;
    writer = writer;
    room = room;
    under_way = under h lane x y op (answers.Refused fault) w.call w.refused.xid w.refused.bytes ended w.refused.heard;
  }

  row-of : (op : Op) (fault : Fault) → IsAsked op → IsNoJukebox fault → Ends op fault → (writer : IsWriter op) → Own op fault → RowOr op fault
  row-of op fault named calm ended (asks.write slot offset bytes is) w =
      inr (room-of op fault ended (asks.write slot offset bytes is) w
      (store-room m terms setup h g.known w.refused.heard.sent_at x w.call op w.sent (subst IsStore (sym is) tt)))
  row-of op fault named calm ended (asks.fill slot offset count byte is) w =
      inr (room-of op fault ended (asks.fill slot offset count byte is) w
      (store-room m terms setup h g.known w.refused.heard.sent_at x w.call op w.sent (subst IsStore (sym is) tt)))
  row-of op fault named calm ended (asks.put path offset bytes is) w =
      by (put-room m terms setup h g.known w.refused.heard.sent_at x w.call path offset bytes (subst IsAsked is named).0
      (subst (λ (o : Op). SentCall (machine_of m) (begins-unbegun m) setup h w.refused.heard.sent_at x o w.call) is w.sent))
    where
      writer : IsWriter op
      writer = asks.put path offset bytes is

      by : Asks terms h x w.refused.heard.sent_at (ops.Put path offset bytes) w.call ⊎ IsForRoom w.call → RowOr op fault
      by (inl asks_it) = inl (record {
        call = w.call;
        refused = w.refused;
        asks = subst (λ (o : Op). Asks terms h x w.refused.heard.sent_at o w.call) (sym is) asks_it;
        last = writer-close op w.call writer;
        ends = λ n to goes. writer-ends terms h x w.refused.heard.got_at op w.call n writer (subst IsNoJukebox to calm) goes;
      })
      by (inr room) = inr (room-of op fault ended writer w room)

  whole : (op : Op) (fault : Fault) (before after : List Entry) → h ≡ before ++ after → length before ≡ y → OwnRefusal m setup before x (length before) op fault → Own op fault
  whole op fault before after is there w =
      subst (λ (k : List Entry). OwnRefusal m setup k x y op fault) (sym is) (own-later m setup before after x (length before) y op fault (omega (arith, there)) w)

  abbrev Until : Op → Fault → Type 0
  Until op fault = (before : List Entry) × ((after : List Entry) × (h ≡ before ++ after) × (length before ≡ y) × Shown m setup before x op fault)

  until : (op : Op) (fault : Fault) → Ends op fault → Until op fault
  until op fault ended = own-refused m setup terms.modes g.goes.nocto h v g.goes.reaches lane x op y fault ended

  -- a writer that a record refused
  pub nfs-row : (op : Op) (n : ℕ) → IsAsked op → n ≢ jukebox → IsWriter op → Ends op (faults.Nfs n) → RowOr op (faults.Nfs n)
  nfs-row op n named calm writer ended =
      let s = until op (faults.Nfs n) ended in
      row-of op (faults.Nfs n) named calm ended writer (whole op (faults.Nfs n) s.0 s.1.0 s.1.1 s.1.2 s.1.3)

  pub rpc-row : (op : Op) (n : ℕ) → IsAsked op → IsWriter op → Ends op (faults.Rpc n) → RowOr op (faults.Rpc n)
  rpc-row op n named writer ended =
      let s = until op (faults.Rpc n) ended in
      row-of op (faults.Rpc n) named tt ended writer (whole op (faults.Rpc n) s.0 s.1.0 s.1.1 s.1.2 s.1.3)

  pub bad-row : (op : Op) (n : ℕ) → IsAsked op → IsWriter op → Ends op (faults.Bad n) → RowOr op (faults.Bad n)
  bad-row op n named writer ended =
      let s = until op (faults.Bad n) ended in
      row-of op (faults.Bad n) named tt ended writer (whole op (faults.Bad n) s.0 s.1.0 s.1.1 s.1.2 s.1.3)
