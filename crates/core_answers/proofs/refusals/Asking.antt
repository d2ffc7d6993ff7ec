-- An operation asks for each call that was sent for it.
use Rattle.core_answers.proofs.Prelude.{◌≡◌, ◌≤◌, ◌⊎◌, inl, inr, ℕ, Bool, true, false, List, [], ◌∷◌, ◌++◌, length, Option, Some, None, refl, sym, ap, subst, ◌∙◌, arith, Mode, Entry, Call, Reply, Op, Asks, Asked, SpellsCallBy, Rooted, PlaceOf, Terms, Asked-grow, Deed, Look, Seek, Move, Remove, Mounted, Machine, IsNamed, front_of, last_of, machine_of, Busy, Setup, own_or, removal_by, of_walk, in_flight, KnowsRoot, Awaits, awaits-laws, begins-unbegun, OwnOr, end-leads, RemoveAwaits, front-last, TaleLaws, reached-good}
use Rattle.op_machines.specs.Begun.{IsAsked}
use Rattle.core_facts.specs.Naming.{IsOneCall}
use Rattle.core_facts.proofs.Tales.{IsExpected}
use Rattle.nfs_dir_calls.specs.declared.keeping.DirKept.TheVariants as kept
use Rattle.world_model.specs.declared.message.Reply.TheVariants as replies
use Rattle.world_model.specs.declared.op.Op.TheVariants as ops
use Rattle.claims.specs.Asks as asks
use Rattle.name_ops.specs.Looking.{look_up}
use Rattle.name_ops.specs.RemoveFile as removals
use Rattle.name_ops.specs.Stat as stats
use Rattle.name_ops.specs.Walking as walking
use Rattle.core_facts.proofs.OneCallAsks.{asks-from}
use Rattle.core_facts.proofs.OneCallStory as one_call
use Rattle.core_answers.specs.asks.RemoveCalls.{IsHiding}
use Rattle.core_answers.proofs.asks.CallsAwaited.{Expects, expects-laws}
use Rattle.core_answers.proofs.asks.PutAsks as put_asks
use Rattle.core_answers.proofs.asks.PutAsks.{Sending, rooted-now, put-asks}
use Rattle.core_answers.proofs.asks.RemoveAsks as remove_asks
use Rattle.core_answers.proofs.asks.RemoveSteps.{IsFineOf, HasDeed, RemoveRuns}
use Rattle.core_answers.proofs.asks.Sendings.{NoCall}
use Rattle.core_answers.proofs.refusals.SlotAsking.{sync-of, cut-of, close-of}
use Rattle.core_answers.proofs.refusals.ReadAsking.{read-of}
use Rattle.core_answers.proofs.asks.StatAsks as stat_asks
use Rattle.core_answers.proofs.asks.StatSteps.{StatRuns}
use Rattle.core_answers.proofs.asks.WalkAsks.{walk-looks, leads-on, front-asks, whole-asks}
use Rattle.core_answers.proofs.bonds.OneCall.{one-call}
use Rattle.core_answers.proofs.refusals.ListAsking as lists
use Rattle.core_answers.proofs.refusals.OneAsking as ones
use Rattle.core_answers.proofs.refusals.OpenAsking as opens
use Rattle.core_answers.proofs.refusals.SentCalls.{SentCall, as-sent, nfs-of}
use Rattle.core_answers.proofs.refusals.Waited.{WaitedAt}
use Rattle.core_answers.specs.refusals.Asked.{AskedOr, asked, rooms, hides, removes}

-- ---- stats and removes, as the topic `asks` has them

module _ (m : Mounted) (terms : Terms) (before after : List Entry) (x y : ℕ) (path : List (List ℕ)) (call : Call) (there : length before ≡ y)
    (rooted : Rooted terms.origin (before ++ after) y m.root) where
  stat-asks : (machine : Machine) → StatRuns m.root before path machine → Expects machine call → 1 ≤ in_flight machine → Asks terms (before ++ after) x y (ops.Stat path) call
  stat-asks machine k e some = by k.s.asked refl
    where
      awaits : OwnOr k.s.asked stats.get_attr k.s.walk call
      awaits = (subst (λ (n : Machine). Expects n call) k.is e).0

      many : 1 ≤ own_or k.s.asked (of_walk k.s.walk)
      many = subst (λ (n : Machine). 1 ≤ in_flight n) k.is some

      by : (b : Bool) → k.s.asked ≡ b → Asks terms (before ++ after) x y (ops.Stat path) call
      by true is = asks.shows path k.s.walk.spot.dir refl
          (leads-on m.root terms before after x y (ops.Stat path) there rooted path k.s.walk.spot.dir (end-leads m.root before path k.s.walk k.story.walk (k.story.done is)))
          (subst (λ (b : Bool). OwnOr b stats.get_attr k.s.walk call) is awaits)
      by false is = whole-asks m.root terms before after x y (ops.Stat path) there rooted path call (0, omega arith, refl) (0, omega arith, refl)
          (walk-looks m.root before path k.s.walk call k.story.walk (subst (λ (b : Bool). OwnOr b stats.get_attr k.s.walk call) is awaits)
          (subst (λ (b : Bool). 1 ≤ own_or b (of_walk k.s.walk)) is many))

module _ (m : Mounted) (terms : Terms) (before after : List Entry) (x y : ℕ) (path : List (List ℕ)) (call : Call) (named : IsNamed path) (there : length before ≡ y)
    (rooted : Rooted terms.origin (before ++ after) y m.root) where
  abbrev Made : Type 0
  Made = Asks terms (before ++ after) x y (ops.Remove path) call ⊎ IsHiding terms (before ++ after) x y path call

  remove-asks : (machine : Machine) → RemoveRuns m.root before x (front_of path) (last_of path) machine → Expects machine call → 1 ≤ in_flight machine → Made
  remove-asks machine k e some = by k.m.deed refl
    where
      awaits : RemoveAwaits k.m.deed k.m call
      awaits = (subst (λ (n : Machine). Expects n call) k.is e).0

      many : 1 ≤ removal_by k.m.deed k.m.asked (of_walk k.m.walk)
      many = subst (λ (n : Machine). 1 ≤ in_flight n) k.is some

      place : walking.next_name k.m.walk ≡ None → PlaceOf terms.origin (before ++ after) y path k.m.walk.spot.dir k.m.name
      place none = record {
        earlier = front_of path;
        is = front-last path named ∙ ap (λ (n : List ℕ). front_of path ++ n ∷ []) (sym k.story.name_is);
        leads = leads-on m.root terms before after x y (ops.Remove path) there rooted (front_of path) k.m.walk.spot.dir
            (end-leads m.root before (front_of path) k.m.walk k.story.walk none);
      }

      asked-now : (c : Call) (reply : Reply) → Asked before x (length before) c reply → Asked (before ++ after) x y c reply
      asked-now c reply a = subst (λ (n : ℕ). Asked (before ++ after) x n c reply) there (Asked-grow before after x (length before) c reply a)

      does : (deed : Deed) → IsFineOf before x (last_of path) k.m.walk.spot.dir deed → walking.next_name k.m.walk ≡ None → call ≡ removals.call_of k.m deed → Made
      does Look fine none is = inl (asks.finds path k.m.walk.spot.dir k.m.name (0, omega arith, refl) (place none) is)
      does (Seek file to) fine none is = inl (asks.looks_for_hidden path k.m.walk.spot.dir k.m.name to refl (place none) fine.0 is)
      does (Move file to) fine none is = inr (record {
        d = k.m.walk.spot.dir;
        last = k.m.name;
        name = to;
        place = place none;
        hidden = fine.0;
        f = file;
        attr = fine.1.attr;
        dir = fine.1.dir;
        reply = fine.2.reply;
        gave = subst (λ (n : List ℕ). Asked (before ++ after) x y (look_up k.m.walk.spot.dir n) (replies.Dir (kept.Lookup file fine.1.attr fine.1.dir))) (sym k.story.name_is)
            (asked-now (look_up k.m.walk.spot.dir (last_of path)) (replies.Dir (kept.Lookup file fine.1.attr fine.1.dir)) fine.1.asked);
        free = asked-now (look_up k.m.walk.spot.dir to) fine.2.reply fine.2.asked;
        none = fine.2.none;
        is = is;
      })
      does Remove fine none is = inl (asks.acts (asks.removes path k.m.walk.spot.dir k.m.name refl (place none) is))

      by : (o : Option Deed) → k.m.deed ≡ o → Made
      by None is = inl (front-asks m.root terms before after x y (ops.Remove path) there rooted path call named (0, omega arith, refl)
          (walk-looks m.root before (front_of path) k.m.walk call k.story.walk (subst (λ (o : Option Deed). RemoveAwaits o k.m call) is awaits)
          (subst (λ (o : Option Deed). 1 ≤ removal_by o k.m.asked (of_walk k.m.walk)) is many)))
      by (Some deed) is =
          let has = subst (λ (o : Option Deed). HasDeed m.root before x (front_of path) (last_of path) o k.m.walk) is k.story.deed in
          does deed has.0 has.1 (subst (λ (o : Option Deed). RemoveAwaits o k.m call) is awaits)

-- ---- any operation

module _ (m : Mounted) (terms : Terms) (setup : Setup) (nocto : m.nocto ≡ terms.modes.nocto) (noac : m.noac ≡ terms.modes.noac) (one : 1 ≤ m.rsize) (h : List Entry)
    (known : KnowsRoot terms.origin h m.root) (i x : ℕ) (call : Call) where
  abbrev Was : Op → Type 0
  Was op = SentCall (machine_of m) (begins-unbegun m) setup h i x op call

  abbrev Row : Op → Type 0
  Row op = AskedOr terms h x i op call

  sending : (op : Op) (s : Was op) → Sending m setup terms h known i s.bytes
  sending op s = as-sent (machine_of m) (begins-unbegun m) setup Expects expects-laws h i x op call s

  rooted : (op : Op) (s : Was op) → Rooted terms.origin (s.sent.waited.before ++ s.sent.waited.after) i m.root
  unfolding sending as-sent
  rooted op s = rooted-now m setup terms h known i s.bytes (sending op s)

  -- in the history as a whole
  whole : (op : Op) (s : Was op) → Asks terms (s.sent.waited.before ++ s.sent.waited.after) x i op call → Asks terms h x i op call
  whole op s a = subst (λ (k : List Entry). Asks terms k x i op call) (sym s.sent.waited.is) a

  -- what a story says of the call for which the machine waited
  caused : (op : Op) (s : Was op) (W : _) (I : _) (S : _) (laws : TaleLaws (machine_of m) setup Awaits W I S) → W s.sent.waited.before x op call
  caused op s W I S laws = subst (λ (c : Call). W w.before x op c) same (e.asks x op s.sent.under_way)
    where
      w : WaitedAt (machine_of m) setup h i s.xid s.lane s.bytes
      w = s.sent.waited

      e : IsExpected (machine_of m) (begins-unbegun m) setup Awaits awaits-laws W I S laws w.before s.lane s.xid w.call s.sent.machine
      e = ((reached-good (machine_of m) (begins-unbegun m) setup Awaits awaits-laws W I S laws w.before w.old w.reached).each s.sent.at
          (record { number = s.lane; state = Busy s.sent.machine }) s.sent.busy).0 s.xid w.call w.waits w.lane_is

      same : e.made.asked ≡ call
      same = one-call s.xid s.xid e.made.asked call s.bytes (nfs-of e.made.asked e.made.nfs)
          (subst (λ (b : List ℕ). SpellsCallBy setup.cred s.xid e.made.asked b) w.bytes_is e.made.spells).spells s.spells.spells

  one-asks : (op : Op) → IsOneCall op → IsAsked op → Was op → Row op
  one-asks op one named s = asked (whole op s (asks-from m.root terms w.before w.after x (length w.before) i op call one (let there = w.there in omega (arith, there)) (rooted op s)
      (caused op s (ones.Caused m terms) (one_call.Shelved m.root terms) (one_call.Story m.root terms) (ones.one-laws m terms setup) one named)))
    where
      w : WaitedAt (machine_of m) setup h i s.xid s.lane s.bytes
      w = s.sent.waited

  open-asks : (slot : ℕ) (mode : Mode) (path : List (List ℕ)) → IsNamed path → Was (ops.OpenFile slot mode path) → Row (ops.OpenFile slot mode path)
  open-asks slot mode path named s =
      let op : Op = ops.OpenFile slot mode path in
      let w = s.sent.waited in
      asked (whole op s (opens.asks-as m terms w.before w.after x i slot mode path call named w.there (rooted op s)
      (caused op s (opens.Caused m) (opens.Shelved m) (opens.Story m) (opens.open-laws m setup) slot mode path refl named)))

  list-asks : (path : List (List ℕ)) → Was (ops.List path) → Row (ops.List path)
  list-asks path s =
      let op : Op = ops.List path in
      let w = s.sent.waited in
      asked (whole op s (lists.asks-as m.root terms w.before w.after x (length w.before) i path call refl (let there = w.there in omega (arith, there)) (rooted op s)
      (caused op s (lists.Caused m terms) (lists.Shelved m terms) (lists.Story m terms) (lists.list-laws m terms setup) path refl)))

  -- what a story says of the operation
  run : (op : Op) (s : Was op) (I : _) (S : _) (laws : TaleLaws (machine_of m) setup Expects NoCall I S) → S s.sent.waited.before x op (Busy s.sent.machine)
  run op s I S laws =
      let w = s.sent.waited in
      ((reached-good (machine_of m) (begins-unbegun m) setup Expects expects-laws NoCall I S laws w.before w.old w.reached).each s.sent.at
      (record { number = s.lane; state = Busy s.sent.machine }) s.sent.busy).1 x op s.sent.under_way

  expected : (op : Op) (s : Was op) → Expects s.sent.machine call
  unfolding sending as-sent
  expected op s = (sending op s).expects

  some : (op : Op) (s : Was op) → 1 ≤ in_flight s.sent.machine
  unfolding sending as-sent
  some op s = (sending op s).some

  stat-row : (path : List (List ℕ)) → Was (ops.Stat path) → Row (ops.Stat path)
  stat-row path s =
      let op : Op = ops.Stat path in
      let w = s.sent.waited in
      asked (whole op s (stat-asks m terms w.before w.after x i path call w.there (rooted op s) s.sent.machine
      (run op s (stat_asks.Shelved m) (stat_asks.StatStory m) (stat_asks.stat-laws m setup) path refl) (expected op s) (some op s)))

  remove-row : (path : List (List ℕ)) → IsNamed path → Was (ops.Remove path) → Row (ops.Remove path)
  remove-row path named s =
      let op : Op = ops.Remove path in
      let w = s.sent.waited in
      elim (remove-asks m terms w.before w.after x i path call named w.there (rooted op s) s.sent.machine
      (run op s (remove_asks.Shelved m) (remove_asks.RemoveStory m) (remove_asks.remove-laws m setup) path refl) (expected op s) (some op s)) [
        | inl asks ↦ asked (whole op s asks)
        | inr hiding ↦ hides path refl (subst (λ (k : List Entry). IsHiding terms k x i path call) (sym w.is) hiding)
      ]

  put-row : (path : List (List ℕ)) (offset : ℕ) (text : List ℕ) → IsNamed path → Was (ops.Put path offset text) → Row (ops.Put path offset text)
  put-row path offset text named s =
      let op : Op = ops.Put path offset text in
      let w = s.sent.waited in
      elim (put-asks m terms w.before w.after x i path offset text call named w.there (rooted op s) s.sent.machine
      (run op s (put_asks.Shelved m) (put_asks.PutStory m) (put_asks.put-laws m setup) path offset text refl named) (expected op s) (some op s)) [
        | inl asks ↦ asked (whole op s asks)
        | inr room ↦ rooms (asks.put path offset text refl)
      ]

  sync-row : (slot : ℕ) → Was (ops.Sync slot) → Row (ops.Sync slot)
  unfolding sending as-sent
  sync-row slot s = asked (sync-of m terms setup nocto h i s.bytes (sending (ops.Sync slot) s) slot refl)

  cut-row : (slot size : ℕ) → Was (ops.Truncate slot size) → Row (ops.Truncate slot size)
  unfolding sending as-sent
  cut-row slot size s = asked (cut-of m terms setup nocto h i s.bytes (sending (ops.Truncate slot size) s) slot size refl)

  close-row : (slot : ℕ) → Was (ops.Close slot) → Row (ops.Close slot)
  unfolding sending as-sent
  close-row slot s = elim (close-of m terms setup nocto h i s.bytes (sending (ops.Close slot) s) slot refl) [
    | inl asks ↦ asked asks
    | inr removal ↦ removes slot refl removal
  ]

  read-row : (slot offset count : ℕ) → Was (ops.Read slot offset count) → Row (ops.Read slot offset count)
  unfolding sending as-sent
  read-row slot offset count s = asked (read-of m terms setup nocto noac one h i s.bytes (sending (ops.Read slot offset count) s) slot offset count refl)

  pub row-of : (op : Op) → IsAsked op → Was op → Row op
  row-of (ops.OpenFile slot mode path) named s = open-asks slot mode path named s
  row-of (ops.Read slot offset count) named s = read-row slot offset count s
  row-of (ops.Write slot offset bytes) named s = rooms (asks.write slot offset bytes refl)
  row-of (ops.Fill slot offset count byte) named s = rooms (asks.fill slot offset count byte refl)
  row-of (ops.Put path offset bytes) named s = put-row path offset bytes named.0 s
  row-of (ops.Sync slot) named s = sync-row slot s
  row-of (ops.Close slot) named s = close-row slot s
  row-of (ops.Truncate slot size) named s = cut-row slot size s
  row-of (ops.Stat path) named s = stat-row path s
  row-of (ops.Access path bits) named s = one-asks (ops.Access path bits) tt named s
  row-of (ops.MakeDir path) named s = one-asks (ops.MakeDir path) tt named s
  row-of (ops.RemoveDir path) named s = one-asks (ops.RemoveDir path) tt named s
  row-of (ops.Remove path) named s = remove-row path named s
  row-of (ops.Rename from to) named s = one-asks (ops.Rename from to) tt named s
  row-of (ops.Link from to) named s = one-asks (ops.Link from to) tt named s
  row-of (ops.SymLink path target) named s = one-asks (ops.SymLink path target) tt named s
  row-of (ops.ReadLink path) named s = one-asks (ops.ReadLink path) tt named s
  row-of (ops.List path) named s = list-asks path s
