-- Along a history: which save of a file is under way, what each step makes of the number of the last write and of whether anything of the file is pending, and what the
-- own save of each operation is good for.
use Rattle.core_counts.proofs.Prelude.{◌≡◌, ◌≢◌, ◌≤◌, ◌⊎◌, inl, inr, ◌+◌, ◌-◌, ◌^◌, ℕ, false, List, [], ◌∷◌, ◌++◌, length, append_assoc, Option, Some, position, slice_get, Result, refl, sym, ap, subst, ◌∙◌, arith, cases_lt, xid_at, Waiting, waiting_at, Fault, Entry, Began, Answered, Delivered, Reply, Op, IsWriter, StableOf, At, Rooted, AnsweredBefore, EndsAt, UnderWay, IsOf, Terms, Rooted-wide, At-last, At-one, length_last, said_of, chosen, Pending, of_file, OnFile, with_cut, FilePending, nothing, same-or, LaneFile, Shelf, Turn, Saving, Mounted, Machine, machine_of, Fits, Purpose, State, Busy, Over, Setup, is_busy, IsIdle, StartsLane, Stirs, TakesAt, counted, View, turn_at, KnowsRoot, Reaches, HearsRecord, GoesWith, taken_one, Known, taker-is, LaneLive, AreAsked, IsEmpty, Wholly, JobBegins, JobOpens, Common, Story, job_kind, Job, Content, ContentReplies, Owner, Tale, Owned, bases, ButFor}
use Rattle.std.proofs.Common.{replicate}
use Rattle.claims.specs.Asks.{Stabilizes}
use Rattle.core_facts.proofs.Placing.{Placed}
use Rattle.core_session.proofs.asked.Empty.{takes-empty}
use Rattle.core_session.proofs.syncs.Contents.{Anything, common, common-replies, common-adds, common-cuts, common-gives}
use Rattle.core_session.proofs.syncs.Passing.{job-in, Shown}
use Rattle.world_model.specs.declared.op.Op.TheVariants as ops
use Rattle.claims.specs.Asks as asks
use Rattle.world_model.specs.Leads.{Leads}
use Rattle.file_ops.specs.Saves as saves
use Rattle.core_facts.proofs.Leading.{LeadsTo}
use Rattle.core_answers.proofs.asks.WalkAsks.{leads-on}
use Rattle.core_session.proofs.order.PutWrites.{ends-at}
use Rattle.core_session.proofs.pending.Begins.{begins-of}
use Rattle.core_session.proofs.pending.Moments.{ended-in}
use Rattle.core_session.proofs.syncs.Nexts.{at-on, common-from, tale-map}
use Rattle.core_session.proofs.syncs.Plans.{Plan, Came_, stirs-came, takes-came, starts-came}
use Rattle.core_session.proofs.syncs.PutAdding.{began-fits}
use Rattle.core_session.proofs.syncs.PutsBring.{PutGiven, puts-bring}
use Rattle.core_session.proofs.syncs.SaveMoves.{IsKept, goes-kept}
use Rattle.core_session.proofs.syncs.Stands.{Has}
use Rattle.core_counts.proofs.counts.engine.Sum.{ends-late}
use Rattle.core_counts.proofs.counts.engine.Wider.{leads-wide}

-- ---- nothing is pending of a file

with-file : (f file : List ℕ) (old new : Pending) (to : FilePending) → OnFile old new file to → (of_file file old ≡ nothing → to ≡ nothing) → IsEmpty f old → IsEmpty f new
with-file f file old new to on keeps none = by (same-or file f)
  where
    by : (f ≡ file) ⊎ (f ≢ file) → IsEmpty f new
    by (inl same) = subst (λ (k : List ℕ). IsEmpty k new) (sym same) (on.here ∙ keeps (subst (λ (k : List ℕ). IsEmpty k old) same none))
    by (inr apart) = on.others f apart ∙ none

abbrev AnyFile : List ℕ → Type 0
AnyFile file = Unit {0}

empty-kept : (f : List ℕ) (before to : ℕ) → IsKept AnyFile before to (IsEmpty f)
empty-kept f before to = record {
  puts = λ file upto wsize e es old new o is on none. with-file f file old new _ on.0
      (λ nil. absurd (let no_way : chosen upto wsize nothing ≡ e ∷ es = sym (ap (chosen upto wsize) nil) ∙ is in cc)) none;
  lands = λ file change old new o on none. with-file f file old new _ on (λ nil. rw nil refl) none;
  part_lands = λ file change count old new o on none. with-file f file old new _ on (λ nil. rw nil refl) none;
  renames = λ file old new o on none. with-file f file old new _ on (λ nil. rw nil refl) none;
  decides = λ file upto verf old new o on none. with-file f file old new _ on (λ nil. rw nil refl) none;
}

goes-empty : (f : List ℕ) (wsize : ℕ) (turn : Turn) (s : Saving) (back : Pending) (next : _) (new : Saving) (after : Pending) → saves.Goes wsize turn.xid turn.room false s back next new after → IsEmpty f back → IsEmpty f after
goes-empty f wsize turn s back next new after g none = goes-kept AnyFile (IsEmpty f) 0 turn.xid (empty-kept f 0 turn.xid) wsize turn.room false s back next new after tt g none

-- ---- one step

-- the number of the last write stays, and so does the file of which nothing is pending; or bytes of one that writes came in
abbrev pub Effect : (f : List ℕ) (op : Op) (q0 : ℕ) (b0 : Pending) → ℕ → Pending → Type 0
Effect f op q0 b0 q b = ((q ≡ q0) × (IsEmpty f b0 → IsEmpty f b)) ⊎ ((q ≡ q0 + 1) × IsWriter op)

-- it isn't a write or a fill
abbrev pub IsKeeper : Op → Type 0
IsKeeper (ops.Write slot offset bytes) = ⊥
IsKeeper (ops.Fill slot offset count byte) = ⊥
IsKeeper op = Unit {0}

module _ (mt : Mounted) (terms : Terms) (setup : Setup) (H : List Entry) (V : View) (g : GoesWith mt terms setup H V) (roots : KnowsRoot terms.origin H mt.root) (asked : AreAsked H) (f : List ℕ) where
  -- where its own save is of the file, it is one that makes the file stable
  abbrev pub Saves : ℕ → Op → List ℕ → Type 0
  Saves x op file = IsKeeper op → f ≡ file → StableOf terms H f (x, op)

  abbrev pub Brings : ℕ → Op → List ℕ → ℕ → List ℕ → Type 0
  Brings x op file offset bytes = (offset + length bytes ≤ 2 ^ 63 - 1) × Saves x op file × IsWriter op

  abbrev pub tale : ℕ → Op → Tale
  tale x op = record { T = λ n. Unit {0}; X = Unit {0}; A = Brings x op; B = Saves x op; Cut = λ file size upto. Unit {0} }

  abbrev pub Told : ℕ → ℕ → Machine → Op → Type 0
  Told number x machine op = (job_kind machine ≡ job_kind (machine_of mt number op)) × Has f (tale x op) machine

  pub record Base (h : List Entry) (v : View) : Type 0 where
    pub wholly : Wholly setup h v
    pub placed : Placed v
    pub wsize : 1 ≤ v.wsize
    pub common_ : Common 0 v.shelf.seq v.shelf.back
    pub owned : Owned f v.lanes v.shelf.seq v.shelf.back v.shelf.order
    pub story : Story Told h v

  -- ---- the step of the operation at x, as it is planned

  module _ (x : ℕ) (op : Op) (q0 : ℕ) (b0 : Pending) where
    abbrev Still : ℕ → Pending → Type 0
    Still q b = (q ≡ q0) × (IsEmpty f b0 → IsEmpty f b)

    abbrev C : ℕ → Pending → Type 0
    C q b = Common q0 q b × Still q b

    abbrev D : ℕ → Pending → Type 0
    D q b = Common q0 q b × Effect f op q0 b0 q b

    c-d : (q : ℕ) (b : Pending) → C q b → D q b
    c-d q b c = (c.0, inl c.1)

    over : (q : ℕ) (b after : Pending) → (IsEmpty f b → IsEmpty f after) → Effect f op q0 b0 q b → Effect f op q0 b0 q after
    over q b after keeps (inl s) = inl (s.0, λ none. keeps (s.1 none))
    over q b after keeps (inr a) = inr a

    c-content : (wsize : ℕ) (turn : Turn) → Content wsize turn C
    c-content wsize turn = record {
      sound = λ q b c. c.0.sound;
      goes = λ s q b next new after goes_ free c. (
        (common q0 wsize turn).goes s q b next new after goes_ free c.0,
        (c.1.0, λ none. goes-empty f wsize turn s b next new after goes_ (c.1.1 none)),
      );
    }

    d-content : (wsize : ℕ) (turn : Turn) → Content wsize turn D
    d-content wsize turn = record {
      sound = λ q b d. d.0.sound;
      goes = λ s q b next new after goes_ free d. (
        (common q0 wsize turn).goes s q b next new after goes_ free d.0,
        over q b after (goes-empty f wsize turn s b next new after goes_) d.1,
      );
    }

    c-replies : (wsize : ℕ) (sent turn : Turn) (came : Result Reply Fault) → ContentReplies wsize sent turn came Anything C
    c-replies wsize sent turn came = record {
      takes = λ repeats later s q b next new after t n free c. (
        (common-replies q0 wsize sent turn came Anything).takes repeats later s q b next new after t n free c.0,
        (c.1.0, λ none. takes-empty f wsize sent turn came repeats s b next new after later t (c.1.1 none)),
      );
    }

    d-replies : (wsize : ℕ) (sent turn : Turn) (came : Result Reply Fault) → ContentReplies wsize sent turn came Anything D
    d-replies wsize sent turn came = record {
      takes = λ repeats later s q b next new after t n free d. (
        (common-replies q0 wsize sent turn came Anything).takes repeats later s q b next new after t n free d.0,
        over q b after (takes-empty f wsize sent turn came repeats s b next new after later t) d.1,
      );
    }

    cut-empty : (file : List ℕ) (size upto : ℕ) (b after : Pending) → OnFile b after file (with_cut size upto (of_file file b)) → IsEmpty f b → IsEmpty f after
    cut-empty file size upto b after on none = with-file f file b after _ on (λ nil. rw nil refl) none

    given-empty : (file : List ℕ) (b after : Pending) → OnFile b after file nothing → IsEmpty f b → IsEmpty f after
    given-empty file b after on none = with-file f file b after nothing on (λ nil. refl) none

    given-d : (file : List ℕ) (q : ℕ) (b after : Pending) → OnFile b after file nothing → D q b → D q after
    given-d file q b after on d = (common-gives q0 file q b after on d.0, over q b after (given-empty file b after on) d.1)

    abbrev plan : (wsize kind : ℕ) (tables : Shelf) → Plan f wsize kind q0 (λ z. Unit {0})
    plan wsize kind tables = record {
      C = C;
      D = D;
      E = D;
      t = tale x op;
      ways = λ turn turned. record {
        c = c-content wsize turn;
        d = d-content wsize turn;
        e = d-content wsize turn;
        mark = λ q b d. tt;
        apart_ends = λ file apart of. tt;
        settles = λ upto q b t clear d. tt;
        enough = c-d;
        less = λ q b d. d;
      };
      tables = tables;
      moves = λ next. record {
        adds = λ file offset bytes q b after is given full on c. (
          (common-adds q0 file offset bytes q b after given.0 full on c.0, inr (ap (λ (n : ℕ). n + 1) c.1.0, given.2)),
          given.1,
        );
        enough = c-d;
        less = λ q b d. d;
        cuts = λ file size upto q b after short quiet on c. (common-cuts q0 file size upto q b after quiet on c.0, over q b after (cut-empty file size upto b after on) (inl c.1));
        gives = λ final z file fault q b after is of shut on d. given-d file q b after on d;
      };
      Lone = Unit {0};
      puts = λ next final z file fault q b after is shut alone on e. given-d file q b after on e;
      M = λ sent came. Anything;
      replies = λ sent turn came turned. c-replies wsize sent turn came;
      more = λ sent turn came turned. d-replies wsize sent turn came;
      unsaid = λ sent fault s b. tt;
      low_c = λ q b c. c.0.since;
      low_d = λ q b d. d.0.since;
      low_e = λ q b d. d.0.since;
    }

    -- what a state shows
    pub effect-of : (wsize : ℕ) (some : 1 ≤ wsize) (number : ℕ) (least : 1 ≤ number) (most : number ≤ 16) (base : ℕ → Option (List ℕ)) (owner : Option (Owner f number base)) (kind : ℕ) (state : State) (q : ℕ)
        (b : Pending) (o : List LaneFile) → Shown f wsize some number least most base owner C D D (tale x op) kind state q b o → Effect f op q0 b0 q b
    effect-of wsize some number least most base owner kind (Busy m) q b o s = by s.1.content
      where
        by : C q b ⊎ D q b → Effect f op q0 b0 q b
        by (inl c) = inl c.1
        by (inr d) = d.1
    effect-of wsize some number least most base owner kind (Over answer) q b o s = s.content.1

    common-of : (wsize : ℕ) (some : 1 ≤ wsize) (number : ℕ) (least : 1 ≤ number) (most : number ≤ 16) (base : ℕ → Option (List ℕ)) (owner : Option (Owner f number base)) (kind : ℕ) (state : State) (q : ℕ)
        (b : Pending) (o : List LaneFile) → Shown f wsize some number least most base owner C D D (tale x op) kind state q b o → Common 0 q b
    common-of wsize some number least most base owner kind (Busy m) q b o s = by s.1.content
      where
        by : C q b ⊎ D q b → Common 0 q b
        by (inl c) = common-from q0 0 q b (omega arith) c.0
        by (inr d) = common-from q0 0 q b (omega arith) d.0
    common-of wsize some number least most base owner kind (Over answer) q b o s = common-from q0 0 q b (omega arith) s.content.0

  -- ---- what is known once it is made

  -- after a step of the lane at a place
  pub record Stepped (h2 : List Entry) (old new : View) (at number x : ℕ) (op : Op) : Type 0 where
    pub state : State
    pub but : ButFor f old.lanes new.lanes at (record { number = number; state = state })
    pub effect : Effect f op old.shelf.seq old.shelf.back new.shelf.seq new.shelf.back
    pub told_ : (machine : Machine) → state ≡ Busy machine → Told number x machine op
    pub owned : Owned f new.lanes new.shelf.seq new.shelf.back new.shelf.order
    pub common_ : Common 0 new.shelf.seq new.shelf.back

  module _ (h2 : List Entry) (old new : View) (wsize : ℕ) (some : 1 ≤ wsize) (at number : ℕ) (least : 1 ≤ number) (most : number ≤ 16) (kind x : ℕ) (op : Op) (kind_is : kind ≡ job_kind (machine_of mt number op))
      (base : ℕ → Option (List ℕ)) where
    stepped-of : Came_ f wsize some number least most base kind old.shelf.seq (λ z. Unit {0}) (plan x op old.shelf.seq old.shelf.back wsize kind new.shelf) old.lanes at new → Stepped h2 old new at number x op
    stepped-of came = record {
      state = came.state;
      but = came.but;
      effect = effect-of x op old.shelf.seq old.shelf.back wsize some number least most base came.owner kind came.state new.shelf.seq new.shelf.back new.shelf.order came.shown;
      told_ = λ machine is.
          let now = subst (λ (s : State). Shown f wsize some number least most base came.owner (C x op old.shelf.seq old.shelf.back) (D x op old.shelf.seq old.shelf.back) (D x op old.shelf.seq old.shelf.back)
          (tale x op) kind s new.shelf.seq new.shelf.back new.shelf.order) is came.shown in (
            now.0 ∙ kind_is,
            tale-map f (tale x op) (tale x op) machine (λ n z. z) (λ z. z) (λ file offset bytes z. z) (λ file z. z) (λ file size upto z. z) new.shelf.seq new.shelf.back new.shelf.order now.1.tale,
          );
      owned = came.owned_;
      common_ = common-of x op old.shelf.seq old.shelf.back wsize some number least most base came.owner kind came.state new.shelf.seq new.shelf.back new.shelf.order came.shown;
    }

  was : (v : View) (x : ℕ) (op : Op) → Common 0 v.shelf.seq v.shelf.back → C x op v.shelf.seq v.shelf.back v.shelf.seq v.shelf.back
  was v x op c = (record { sound = c.sound; upto = c.upto; since = omega arith }, (refl, λ none. none))

  pub stirs-stepped : (h : List Entry) (old new : View) (at : ℕ) (k : Known setup h old) (t : Stirs old at new) (b : Base h old) (x : ℕ) (op : Op) → UnderWay h t.number x (length h) op
      → Stepped h old new at t.number x op
  stirs-stepped h old new at k t b x op under =
      let told_ = b.story at t.number t.machine x op t.there under in
      let live : LaneLive t.number t.machine = b.placed.live at (record { number = t.number; state = Busy t.machine }) t.there in
      stepped-of h old new old.wsize b.wsize at t.number live.least live.most (job_kind t.machine) x op told_.0 (bases f old.lanes)
      (stirs-came mt setup h old k b.wholly b.placed b.wsize f b.owned (λ z. Unit {0}) tt tt new at t (plan x op old.shelf.seq old.shelf.back old.wsize (job_kind t.machine) new.shelf) refl (λ alone. tt) (Unit {0})
      (λ u c. c-d x op old.shelf.seq old.shelf.back old.shelf.seq old.shelf.back c) (was old x op b.common_) (told_.1 old.shelf.seq old.shelf.back old.shelf.order))

  -- ---- what a sync, close or put makes stable

  stable-of : (x lane line : ℕ) (op : Op) → At H x (Began lane line op) → ((end : ℕ) → EndsAt H x end → Stabilizes terms H x end op f) → StableOf terms H f (x, op)
  stable-of x lane line op began stable =
      let e = ends-at H x lane line op began in
      record { end = e.0; began = (lane, line, began); ends = e.1; stable = stable e.0 e.1 }

  -- a put that led there as a record came
  module _ (h rest : List Entry) (rec : List ℕ) (is : h ++ Delivered rec ∷ rest ≡ H) (lane x : ℕ) (path : List (List ℕ)) (offset : ℕ) (text : List ℕ) (u : UnderWay h lane x (length h) (ops.Put path offset text)) where
    abbrev now : List Entry
    now = h ++ Delivered rec ∷ []

    split : now ++ rest ≡ H
    split = append_assoc h (Delivered rec ∷ []) rest ∙ is

    long : length now ≡ length h + 1
    long = length_last h (Delivered rec)

    within : length now ≤ length H
    within = subst (λ (k : List Entry). length now ≤ length k) split (longer now rest)
      where
        longer : (a b : List Entry) → length a ≤ length (a ++ b)
        longer [] b = omega arith
        longer (e ∷ a) b = let more = longer a b in omega (arith, more)

    began : At H x (Began lane u.line (ops.Put path offset text))
    began = at-on H h (Delivered rec ∷ rest) is x (Began lane u.line (ops.Put path offset text)) u.began

    heard : At H (length h) (Delivered rec)
    heard = at-on H now rest split (length h) (Delivered rec) (At-last h (Delivered rec))

    unanswered : AnsweredBefore H x (length now) → ⊥
    unanswered a = elim (cases_lt a.y (length h)) [
      | inl low ↦ u.unanswered (record { lane = a.lane; op = a.op; y = a.y; answer = a.answer; ended = ended-in H h (Delivered rec ∷ rest) is a.lane x a.y a.op a.answer low a.ended; before = low })
      | inr high ↦ at-once (let low = a.before in let more = long in omega (arith, high, low, more))
    ]
      where
        at-once : a.y ≡ length h → ⊥
        at-once here =
            let no_way : Answered a.lane a.ended.line a.answer ≡ Delivered rec =
            At-one H (length h) (Answered a.lane a.ended.line a.answer) (Delivered rec) (subst (λ (n : ℕ). At H n (Answered a.lane a.ended.line a.answer)) here a.ended.answered) heard in
            absurd (cc)

    rooted : Rooted terms.origin (now ++ rest) (length now) mt.root
    rooted =
        subst (λ (k : List Entry). Rooted terms.origin k (length now) mt.root) (sym split)
        (Rooted-wide terms.origin H x (length now) mt.root (let low = u.before in let more = long in omega (arith, low, more)) (roots x lane u.line (ops.Put path offset text) began))

    led : (file : List ℕ) → LeadsTo mt.root now path file → Leads terms.origin H (length now) path file
    led file leads =
        subst (λ (k : List Entry). Leads terms.origin k (length now) path file) split
        (leads-on mt.root terms now rest x (length now) (ops.Put path offset text) refl rooted path file leads)

    put-stable : (file : List ℕ) → LeadsTo mt.root now path file → f ≡ file → StableOf terms H f (x, ops.Put path offset text)
    put-stable file leads same =
        stable-of x lane u.line (ops.Put path offset text) began (λ end ends.
        asks.put path offset text refl
        (leads-wide terms.origin H (length now) end (ends-late H x end (length now) within unanswered ends) path f
        (subst (λ (k : List ℕ). Leads terms.origin H (length now) path k) (sym same) (led file leads))))

  module _ (h rest : List Entry) (rec : List ℕ) (is : h ++ Delivered rec ∷ rest ≡ H) (old new : View) (xid : ℕ) (call : Waiting Purpose) (at : ℕ) (r : Reaches (machine_of mt) setup h old) (found : old.lost ≡ false)
      (k : Known setup h old) (fin : View) (hears : HearsRecord old rec fin) (named : xid_at rec ≡ Some xid) (waits : waiting_at xid old.calls.calls ≡ Some call)
      (place : position (is_busy call.purpose.lane) old.lanes ≡ Some at) (t : TakesAt (taken_one old xid) at call.purpose.sent (said_of call.purpose.proc rec) new) (b : Base h old) (x : ℕ) (op : Op)
      (under : UnderWay h t.number x (length h) op) where
    number-of : call.purpose.lane ≡ t.number
    number-of = sym (taker-is setup h old xid call at k waits place t.number t.machine t.there)

    its-lane : UnderWay h call.purpose.lane x (length h) op
    its-lane = subst (λ (n : ℕ). UnderWay h n x (length h) op) (sym number-of) under

    there_ : slice_get old.lanes at ≡ Some (record { number = call.purpose.lane; state = Busy t.machine })
    there_ = subst (λ (n : ℕ). slice_get old.lanes at ≡ Some (record { number = n; state = Busy t.machine })) (sym number-of) t.there

    given : PutGiven mt setup h old rec fin xid call at t.machine r found hears named waits there_ (Brings x op) op
    given path offset text same =
        let u : UnderWay h call.purpose.lane x (length h) (ops.Put path offset text) = subst (λ (o : Op). UnderWay h call.purpose.lane x (length h) o) same its-lane in (
          (asked x call.purpose.lane u.line (ops.Put path offset text) (began h rest rec is call.purpose.lane x path offset text u)).0,
          λ file leads. (
            began-fits (machine_of mt) setup h old r x call.purpose.lane u.line (ops.Put path offset text) u.began,
            λ keeper here. subst (λ (o : Op). StableOf terms H f (x, o)) (sym same) (put-stable h rest rec is call.purpose.lane x path offset text u file leads here),
            subst IsWriter (sym same) (asks.put path offset text refl),
          ),
        )

    opens : JobOpens (Brings x op) old.wsize t.machine call.purpose.sent (turn_at (taken_one old xid)) (said_of call.purpose.proc rec) old.shelf t.next t.after t.shelf t.takes
    opens =
        puts-bring mt setup h old rec fin xid call at t.machine r found hears named waits there_ (Brings x op) x op its-lane given old.wsize call.purpose.sent (turn_at (taken_one old xid)) t.next t.after t.shelf t.takes

    pub takes-stepped : Stepped (h ++ Delivered rec ∷ []) old new at t.number x op
    takes-stepped =
        let told_ = b.story at t.number t.machine x op t.there under in
        let live : LaneLive t.number t.machine = b.placed.live at (record { number = t.number; state = Busy t.machine }) t.there in
        stepped-of (h ++ Delivered rec ∷ []) old new old.wsize b.wsize at t.number live.least live.most (job_kind t.machine) x op told_.0 (bases f old.lanes)
        (takes-came mt setup h old k b.wholly b.placed b.wsize f b.owned (λ z. Unit {0}) tt tt rec xid call at r found waits place new t
        (plan x op old.shelf.seq old.shelf.back old.wsize (job_kind t.machine) new.shelf) refl (λ alone. tt) (λ z saved. tt) opens (Unit {0})
        (λ u c. c-d x op old.shelf.seq old.shelf.back old.shelf.seq old.shelf.back c) (was old x op b.common_) (told_.1 old.shelf.seq old.shelf.back old.shelf.order))

  -- ---- one begins

  module _ (h rest : List Entry) (old new : View) (lane line : ℕ) (op : Op) (now_ : ℕ) (is : h ++ Began lane line op ∷ rest ≡ H) (r : Reaches (machine_of mt) setup h old) (found : old.lost ≡ false) (k : Known setup h old)
      (idle : IsIdle lane old.lanes) (fits : Fits (machine_of mt lane op)) (t : StartsLane (counted old now_) lane (machine_of mt lane op) new) (b : Base h old) where
    began-at : At H (length h) (Began lane line op)
    began-at = at-on H (h ++ Began lane line op ∷ []) rest (append_assoc h (Began lane line op ∷ []) rest ∙ is) (length h) (Began lane line op) (At-last h (Began lane line op))

    begins : (o : Op) → op ≡ o → Fits (machine_of mt lane o) → (j : Job) → ((file : List ℕ) (offset : ℕ) (bytes : List ℕ) → Brings (length h) op file offset bytes → j.A file offset bytes)
        → ((file : List ℕ) → Saves (length h) op file → j.B file) → ((file : List ℕ) (size upto : ℕ) → j.C file size upto) → JobBegins j (machine_of mt lane o) old.shelf.opens
    begins (ops.Write slot offset bytes) same fit j a bs c = λ file there.
        a file offset bytes (fit, λ keeper. absurd (subst IsKeeper same keeper), subst IsWriter (sym same) (asks.write slot offset bytes refl))
    begins (ops.Fill slot offset count byte) same fit j a bs c = λ file there.
        a file offset (replicate count byte) (fit, λ keeper. absurd (subst IsKeeper same keeper), subst IsWriter (sym same) (asks.fill slot offset count byte refl))
    begins (ops.Sync slot) same fit j a bs c = λ file there.
        bs file (λ keeper here.
        stable-of (length h) lane line op began-at (λ end ends.
        subst (λ (o : Op). Stabilizes terms H (length h) end o f) (sym same)
        (asks.sync slot refl
        (subst (λ (n : List ℕ). IsOf terms.modes H (length h) (ops.Sync slot) n) (sym here)
        (begins-of mt terms setup H V g f 0 h rest old lane line slot (ops.Sync slot) (subst (λ (o : Op). h ++ Began lane line o ∷ rest ≡ H) same is) r found idle refl (λ mode. refl) file there)))))
    begins (ops.Close slot) same fit j a bs c = λ file there.
        bs file (λ keeper here.
        stable-of (length h) lane line op began-at (λ end ends.
        subst (λ (o : Op). Stabilizes terms H (length h) end o f) (sym same)
        (asks.close slot refl
        (subst (λ (n : List ℕ). IsOf terms.modes H (length h) (ops.Close slot) n) (sym here)
        (begins-of mt terms setup H V g f 0 h rest old lane line slot (ops.Close slot) (subst (λ (o : Op). h ++ Began lane line o ∷ rest ≡ H) same is) r found idle refl (λ mode. refl) file there)))))
    begins (ops.Truncate slot size) same fit j a bs c = λ file upto there. c file size upto
    begins (ops.Put path offset bytes) same fit j a bs c = tt
    begins (ops.OpenFile slot mode path) same fit j a bs c = tt
    begins (ops.Read slot offset count) same fit j a bs c = tt
    begins (ops.Stat path) same fit j a bs c = tt
    begins (ops.Access path bits) same fit j a bs c = tt
    begins (ops.ReadLink path) same fit j a bs c = tt
    begins (ops.MakeDir path) same fit j a bs c = tt
    begins (ops.RemoveDir path) same fit j a bs c = tt
    begins (ops.Remove path) same fit j a bs c = tt
    begins (ops.Rename from to) same fit j a bs c = tt
    begins (ops.Link from to) same fit j a bs c = tt
    begins (ops.SymLink path target) same fit j a bs c = tt
    begins (ops.List path) same fit j a bs c = tt

    pub starts-stepped : Stepped (h ++ Began lane line op ∷ []) old new (length old.lanes) lane (length h) op
    starts-stepped =
        stepped-of (h ++ Began lane line op ∷ []) old new old.wsize b.wsize (length old.lanes) lane idle.least idle.most (job_kind (machine_of mt lane op)) (length h) op refl (bases f old.lanes)
        (starts-came mt setup h old k b.wholly b.placed b.wsize f b.owned (λ z. Unit {0}) tt tt new lane op now_ idle t
        (plan (length h) op old.shelf.seq old.shelf.back old.wsize (job_kind (machine_of mt lane op)) new.shelf) refl (λ alone. tt)
        (λ owner. begins op refl fits
        (job-in f old.wsize b.wsize lane idle.least idle.most (bases f old.lanes) owner (C (length h) op old.shelf.seq old.shelf.back) (D (length h) op old.shelf.seq old.shelf.back)
        (D (length h) op old.shelf.seq old.shelf.back) (tale (length h) op) (turn_at (counted old now_))
        ((plan (length h) op old.shelf.seq old.shelf.back old.wsize (job_kind (machine_of mt lane op)) new.shelf).ways (turn_at (counted old now_)) tt))
        (λ file offset bytes a. a) (λ file a. a) (λ file size upto. tt))
        (was old (length h) op b.common_) (λ saver. c-d (length h) op old.shelf.seq old.shelf.back old.shelf.seq old.shelf.back (was old (length h) op b.common_)))
