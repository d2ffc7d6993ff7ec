-- A record that was sent for a write, fill or put that makes room: something of its file was pending since the operation began, and there was need of room.
use Rattle.core_session.proofs.Prelude.{◌≡◌, inl, inr, ℕ, List, ◌++◌, length, refl, sym, subst, ◌∙◌, Entry, Call, Op, Asks, IsWriter, UnderWay, Terms, Mounted, IsAsked, IsNamed, machine_of, Busy, Setup, View, begins-unbegun, Always, over-laws, good-over, reached-good, Names, Expects, expects-laws, NoCall, IsSession}
use Rattle.claims.specs.Asks.{NeedsRoom, HadPending}
use Rattle.world_model.specs.declared.op.Op.TheVariants as ops
use Rattle.claims.specs.Asks as asks
use Rattle.core_answers.proofs.asks.PutAsks as puts
use Rattle.core_session.specs.calls.Made as made
use Rattle.core_session.proofs.calls.Causes.{Now, Spelt, under-now, cause}
use Rattle.core_session.proofs.calls.Outgoing.{Outgoing}
use Rattle.core_session.proofs.calls.TableHeld.{AllNoted}
use Rattle.core_session.proofs.calls.WriteCause.{IsWrite, WriteStory, write-laws}
use Rattle.core_session.proofs.calls.WriteCause as stores
use Rattle.core_session.proofs.hidden.CloseCause.{close-or, removes-hidden}
use Rattle.core_session.proofs.room.Needed.{store-needs, put-needs}
use Rattle.core_session.proofs.room.Onward.{Onward}
use Rattle.core_session.proofs.room.Rooms.{IsNone}
use Rattle.core_session.proofs.room.Rooms as rooms
use Rattle.core_session.proofs.asked.Names.{Sought, write-sought, put-sought}
use Rattle.core_session.proofs.asked.Seeks.{Seeks, seeks-map}
use Rattle.core_session.proofs.asked.Sought.{Had, reached-had}

none-writes : (op : Op) → IsNone op → IsWriter op → ⊥
none-writes op n (asks.write slot offset bytes is) = subst IsNone is n
none-writes op n (asks.fill slot offset count byte is) = subst IsNone is n
none-writes op n (asks.put path offset bytes is) = subst IsNone is n

module _ (m : Mounted) (terms : Terms) (setup : Setup) (h : List Entry) (v : View) (s : IsSession m terms setup h v) (i : ℕ) (bytes : List ℕ)
    (w : Outgoing (machine_of m) (begins-unbegun m) setup h i bytes) (on : Onward (machine_of m) setup w.before w.old h v) where
  abbrev Its : Call
  Its = Spelt m terms setup h v s i bytes w

  abbrev Known : List ℕ → Type 0
  Known f = Had m setup w.before w.old w.x f

  abbrev pub Chosen : Type 0
  Chosen = Sought Known Its

  -- ---- the file

  seeks : Seeks Known w.machine
  seeks = seeks-map (λ f. (x : ℕ) (op : Op) → UnderWay w.before w.waiting.purpose.lane x (length w.before) op → Had m setup w.before w.old x f) Known (λ f k. k w.x w.op w.under_way) w.machine
      (reached-had m setup w.before w.old w.reached w.found w.at (record { number = w.waiting.purpose.lane; state = Busy w.machine }) w.busy)

  names : Names w.machine Its
  names = (Now m terms setup h v s i bytes w).expects.1

  is-write : stores.IsStore w.op → IsWrite w.machine
  is-write store =
      (good-over (machine_of m) (begins-unbegun m) setup Always (λ g u reached kept lane other. tt) WriteStory (over-laws (machine_of m) WriteStory (write-laws m)) w.before w.old w.reached w.at
      (record { number = w.waiting.purpose.lane; state = Busy w.machine }) w.busy).1 w.x w.op w.under_way store

  store-chosen : stores.IsStore w.op → Chosen
  store-chosen store = let k = is-write store in write-sought Known Its w.machine k.of k.is seeks names w.some

  -- ---- what it asks for

  abbrev For : Op → Type 0
  For op = Asks terms h w.x i op Its

  under : UnderWay h w.waiting.purpose.lane w.x i w.op
  under = under-now m terms setup h v s i bytes w

  its-asked : IsAsked w.op
  its-asked = s.asked w.x w.waiting.purpose.lane under.line w.op under.began

  module _ (had : (f : List ℕ) → Known f → HadPending terms h w.x i f) (noted : AllNoted w.old) where
    room-asks : (op : Op) → IsWriter op → NeedsRoom h w.x i → Chosen → For op
    room-asks op writer need c = elim c.saves [
      | inl k ↦ asks.writes_for_room c.f k.0.bytes k.0.offset k.0.how writer (had c.f c.known) need k.1
      | inr k ↦ asks.commits_for_room c.f writer (had c.f c.known) need k
    ]

    of-close : (slot : ℕ) → w.op ≡ ops.Close slot → For (ops.Close slot)
    of-close slot is = elim (close-or m terms setup h v s i bytes w slot is) [
      | inl a ↦ a
      | inr r ↦ asks.removes_hidden (removes-hidden m terms setup h v s i bytes w slot is r noted)
    ]

    whole-put : (path : List (List ℕ)) (offset : ℕ) (text : List ℕ) → Asks terms (w.before ++ w.after) w.x i (ops.Put path offset text) Its → For (ops.Put path offset text)
    whole-put path offset text a = subst (λ (k : List Entry). Asks terms k w.x i (ops.Put path offset text) Its) (sym w.is) a

    of-put : (path : List (List ℕ)) (offset : ℕ) (text : List ℕ) → w.op ≡ ops.Put path offset text → IsNamed path → For (ops.Put path offset text)
    of-put path offset text is named = elim
        (puts.put-asks m terms w.before w.after w.x i path offset text Its named w.there (puts.rooted-now m setup terms h s.root i bytes (Now m terms setup h v s i bytes w)) w.machine
        (((reached-good (machine_of m) (begins-unbegun m) setup Expects expects-laws NoCall (puts.Shelved m) (puts.PutStory m) (puts.put-laws m setup) w.before w.old w.reached).each w.at
        (record { number = w.waiting.purpose.lane; state = Busy w.machine }) w.busy).1 w.x w.op w.under_way path offset text is named) (Now m terms setup h v s i bytes w).expects w.some) [
          | inl a ↦ whole-put path offset text a
          | inr r ↦ room-asks (ops.Put path offset text) (asks.put path offset text refl) (put-needs m terms setup h v s i bytes w on path offset text named is r)
              (put-sought Known Its w.machine r.walk r.p r.file r.is r.state_is seeks names w.some)
        ]

    -- of one that makes no room
    of-other : (op : Op) → w.op ≡ op → IsNone op → IsAsked op → For op
    of-other op is none a = elim (cause m terms setup h v s i bytes w op is a) [
      | inl a ↦ a
      | inr beside ↦ by beside
    ]
      where
        by : made.IsBeside terms h w.x i op Its → For op
        by (made.makes_room writer room) = absurd (none-writes op none writer)
        by (made.removes slot closes removal) = subst For (sym closes) (of-close slot (is ∙ closes))

    by-op : (op : Op) → w.op ≡ op → IsAsked op → For op
    by-op (ops.Put path offset text) is a = of-put path offset text is a.0
    by-op (ops.Write slot offset text) is a =
        room-asks (ops.Write slot offset text) (asks.write slot offset text refl) (store-needs m terms setup h v s i bytes w on (subst rooms.IsStore (sym is) tt))
        (store-chosen (subst stores.IsStore (sym is) tt))
    by-op (ops.Fill slot offset count byte) is a =
        room-asks (ops.Fill slot offset count byte) (asks.fill slot offset count byte refl) (store-needs m terms setup h v s i bytes w on (subst rooms.IsStore (sym is) tt))
        (store-chosen (subst stores.IsStore (sym is) tt))
    by-op (ops.OpenFile slot mode path) is a = of-other (ops.OpenFile slot mode path) is tt a
    by-op (ops.Read slot offset count) is a = of-other (ops.Read slot offset count) is tt a
    by-op (ops.Sync slot) is a = of-other (ops.Sync slot) is tt a
    by-op (ops.Close slot) is a = of-other (ops.Close slot) is tt a
    by-op (ops.Truncate slot size) is a = of-other (ops.Truncate slot size) is tt a
    by-op (ops.Stat path) is a = of-other (ops.Stat path) is tt a
    by-op (ops.Access path bits) is a = of-other (ops.Access path bits) is tt a
    by-op (ops.MakeDir path) is a = of-other (ops.MakeDir path) is tt a
    by-op (ops.RemoveDir path) is a = of-other (ops.RemoveDir path) is tt a
    by-op (ops.Remove path) is a = of-other (ops.Remove path) is tt a
    by-op (ops.Rename from to) is a = of-other (ops.Rename from to) is tt a
    by-op (ops.Link from to) is a = of-other (ops.Link from to) is tt a
    by-op (ops.SymLink path target) is a = of-other (ops.SymLink path target) is tt a
    by-op (ops.ReadLink path) is a = of-other (ops.ReadLink path) is tt a
    by-op (ops.List path) is a = of-other (ops.List path) is tt a

    -- any operation
    pub out-asks : For w.op
    out-asks = by-op w.op refl its-asked
