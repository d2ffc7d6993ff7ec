-- One place of a file through the steps of operations: what was pending there under a number goes on, or was covered by a WRITE, or the operation took it away.
use Rattle.core_counts.proofs.Prelude.{Err, ◌≡◌, ◌≤◌, ◌⊎◌, inl, inr, ◌+◌, ◌-◌, ◌^◌, ℕ, false, List, [], ◌∷◌, ◌++◌, length, append_assoc, Option, Some, position, slice_get, Result, refl, sym, ap, subst, ◌∙◌, arith, None, cases_lt, eqb-true, eqb-false, xid_at, Waiting, waiting_at, Fault, Entry, Began, Answered, Delivered, Reply, Op, At, Rooted, AnsweredBefore, EndsAt, UnderWay, IsOf, Terms, Rooted-wide, At-last, At-one, length_last, said_of, Pending, of_file, LaneFile, Shelf, Turn, Saving, Mounted, Machine, machine_of, Fits, Purpose, State, Busy, Over, Setup, is_busy, IsIdle, StartsLane, Stirs, TakesAt, counted, View, turn_at, KnowsRoot, Reaches, HearsRecord, GoesWith, taken_one, Known, taker-is, LaneLive, AreAsked, Wholly, JobBegins, JobOpens, job_save, Story, job_kind, Job, Content, ContentReplies, Owner, state-is, own_save, Tale, told, Lane, Answer, Owned, bases, ButFor, slice_index, Value, WritesByte, covers, Common, CoveredEarlier, low-of, high-of}
use Rattle.core_facts.proofs.Placing.{Placed}
use Rattle.core_session.proofs.drops.LaneIs.{busy-over}
use Rattle.core_session.proofs.syncs.PutGoes.{OwnAt, own-has}
use Rattle.std.specs.Prelude.{nat_eq, Bool, true}
use Rattle.claims.specs.Touched.{Cuts}
use Rattle.core_session.proofs.syncs.Contents.{Shows, common, common-replies, common-adds, common-cuts, common-gives, known, known-replies, known-adds, known-cuts, known-gives}
use Rattle.world_model.specs.declared.op.Op.TheVariants as ops
use Rattle.world_model.specs.Leads.{Leads}
use Rattle.core_facts.proofs.Leading.{LeadsTo}
use Rattle.core_answers.proofs.asks.WalkAsks.{leads-on}
use Rattle.core_session.proofs.pending.Moments.{ended-in}
use Rattle.core_session.proofs.syncs.Nexts.{at-on, common-from, tale-map}
use Rattle.core_session.proofs.syncs.Aims.{JobAims, aimed, some-aim, takes-aim, aimed-has, aims-own}
use Rattle.core_counts.proofs.thrift.short.EvPassing.{job-in, Shown}
use Rattle.core_counts.proofs.thrift.short.EvPlans.{Plan, Came_, stirs-came, takes-came, starts-came}
use Rattle.core_session.proofs.syncs.PutAdding.{began-fits}
use Rattle.core_session.proofs.syncs.PutsBring.{PutGiven, puts-bring}
use Rattle.core_session.proofs.syncs.Stands.{Has}
use Rattle.core_counts.proofs.counts.engine.Sum.{ends-late}
use Rattle.core_counts.proofs.counts.engine.Wider.{leads-wide}
use Rattle.world_model.specs.declared.answer.Answer.TheVariants as answers
use Rattle.claims.specs.Touched as touched
use Rattle.core_session.proofs.syncs.Causes.{IsWriter as IsWrite, IsSaver}
use Rattle.core_session.proofs.syncs.Looks.{OpView, view-of, writes, syncs, closes, puts, others}
use Rattle.core_session.proofs.syncs.Phases.{Family, KnownBy, StageBy, over-more, split}
use Rattle.nfs_file_calls.specs.declared.call.FileCall.TheVariants as files
use Rattle.world_model.specs.declared.message.Call.TheVariants as calls
use Rattle.core_session.specs.saves.Evidence.{IsHeldBy}
use Rattle.core_session.proofs.pending.Begins.{begins}
use Rattle.core_session.proofs.syncs.Showings.{shows-write}

-- ---- how far the byte has come: nothing is asked of its xids, and once it is settled a WRITE covers its place

abbrev pub settled : Type 0 → Family
settled Cov = record {
  Fresh = λ k z. Unit {0};
  Since = λ k. Unit {0};
  Wrote = λ k v. Cov;
  Made = λ k. Cov;
}

same-op : (a b c d : ℕ) (o p : Op) → Began a b o ≡ Began c d p → p ≡ o
same-op a b c d o p e = cc

pub busy-same : (a b : Machine) → Busy a ≡ Busy b → a ≡ b
busy-same a b e = cc

pub none-past : (lanes : List Lane) (l : Lane) → slice_get lanes (length lanes) ≡ Some l → ⊥
none-past [] l there = absurd cc
none-past (z ∷ lanes) l there = none-past lanes l there

-- a WRITE that was answered was sent
covers-held : (now : List Entry) (calls_ : List (ℕ × Waiting Purpose)) (f : List ℕ) (i byte : ℕ) (held : List ℕ) → IsHeldBy now 0 calls_ f i byte held → CoveredEarlier now (length now) f i
covers-held now calls_ f i byte held k =
    let wrote = k.wrote.wrote in
    let heard = wrote.asked.heard in
    record {
      at = heard.sent_at;
      xid = wrote.asked.xid;
      bytes = heard.record_sent;
      call = calls.File (files.Write f wrote.offset wrote.how wrote.bytes);
      sent = heard.sent.sent;
      spells = heard.spells;
      covers = record {
        offset = wrote.offset;
        how = wrote.how;
        bytes = wrote.bytes;
        is = refl;
        low = low-of wrote.offset (wrote.offset + length wrote.bytes) i wrote.inside;
        high = high-of wrote.offset (wrote.offset + length wrote.bytes) i wrote.inside;
      };
      earlier = (let a = heard.later in let b = heard.before in let c = k.low in omega (arith, a, b, c));
    }

one-path : (a b : List (List ℕ)) (c d : ℕ) (e g : List ℕ) → ops.Put a c e ≡ ops.Put b d g → a ≡ b
one-path a b c d e g is = cc

module _ (mt : Mounted) (terms : Terms) (setup : Setup) (H : List Entry) (V : View) (g : GoesWith mt terms setup H V) (roots : KnowsRoot terms.origin H mt.root) (asked : AreAsked H) (f : List ℕ) (i byte n : ℕ) where
  -- bytes over the place come in
  pub data Comes (x : ℕ) (op : Op) : Type 0 where
    by_write : (v : ℕ) → WritesByte terms.modes terms.origin H x f i v → IsWrite op → Comes x op
    by_put : (path : List (List ℕ)) (offset : ℕ) (bytes : List ℕ) → op ≡ ops.Put path offset bytes → ((end : ℕ) → EndsAt H x end → Leads terms.origin H end path f)
        → covers offset (length bytes) i ≡ true → Comes x op

  -- where it is a close, it is one of the file
  abbrev pub Closes : ℕ → Op → List ℕ → Type 0
  Closes x op file = file ≡ f → (slot : ℕ) → op ≡ ops.Close slot → IsOf terms.modes H x (ops.Close slot) f

  -- and where it is a put, its path leads there
  abbrev pub PutLeads : ℕ → Op → Type 0
  PutLeads x op = (path : List (List ℕ)) (offset : ℕ) (bytes : List ℕ) → op ≡ ops.Put path offset bytes → (end : ℕ) → EndsAt H x end → Leads terms.origin H end path f

  abbrev pub Holds : ℕ → Op → List ℕ → Type 0
  Holds x op file = Closes x op file × (file ≡ f → PutLeads x op)

  abbrev pub Brings : ℕ → Op → List ℕ → ℕ → List ℕ → Type 0
  Brings x op file offset bytes = (offset + length bytes ≤ 2 ^ 63 - 1) × Holds x op file × (file ≡ f → covers offset (length bytes) i ≡ true → Comes x op)

  abbrev pub Short : ℕ → List ℕ → ℕ → Type 0
  Short x file size = file ≡ f → size ≤ i → Cuts terms.modes H x f i

  abbrev pub tale : ℕ → Op → Tale
  tale x op = record { T = λ n. Unit {0}; X = Unit {0}; A = Brings x op; B = Holds x op; Cut = λ file size upto. Short x file size }

  abbrev pub Told : ℕ → ℕ → Machine → Op → Type 0
  Told number x machine op = (job_kind machine ≡ job_kind (machine_of mt number op)) × Has f (tale x op) machine

  -- what the operation may have done to the byte
  pub data Gone (x : ℕ) (op : Op) (kind : ℕ) (tgt : List ℕ) : Type 0 where
    came : Comes x op → (kind ≡ 3 → f ≡ tgt) → Gone x op kind tgt
    cut : Cuts terms.modes H x f i → Gone x op kind tgt
    closed : kind ≡ 5 → ((slot : ℕ) → op ≡ ops.Close slot → IsOf terms.modes H x (ops.Close slot) f) → Gone x op kind tgt
    dropped : kind ≡ 3 → PutLeads x op → Gone x op kind tgt

  pub record Base (h : List Entry) (v : View) : Type 0 where
    pub wholly : Wholly setup h v
    pub placed : Placed v
    pub wsize : 1 ≤ v.wsize
    pub common_ : Common 0 v.shelf.seq v.shelf.back
    pub owned : Owned f v.lanes v.shelf.seq v.shelf.back v.shelf.order
    pub story : Story Told h v

  -- ---- the step of the operation at x, as it is planned

  -- W: the byte is looked after
  module _ (Cov W : Type 0) (x : ℕ) (op : Op) (q0 kind : ℕ) (tgt : List ℕ) where
    abbrev By : Type 0 → ℕ → Pending → Type 0
    By Past q b = Common q0 q b × (W → KnownBy (settled Cov) q0 f i byte n Past q b)

    more : (Past Past2 : Type 0) (q : ℕ) (b : Pending) → (Past → Past2) → By Past q b → By Past2 q b
    more Past Past2 q b o c = (c.0, λ w. record { common = (c.1 w).common; low = (c.1 w).low; stage = over-more (settled Cov) i byte n Past Past2 (of_file f b) o (c.1 w).stage })

    -- and where a put brings them, the file is the one it is aimed at
    abbrev pub CameIn : Type 0
    CameIn = Comes x op × (kind ≡ 3 → f ≡ tgt)

    abbrev pub C : ℕ → Pending → Type 0
    C q b = By ⊥ q b

    abbrev pub D : ℕ → Pending → Type 0
    D q b = By CameIn q b

    abbrev pub E : ℕ → Pending → Type 0
    E q b = By (Gone x op kind tgt) q b

    pub c-d : (q : ℕ) (b : Pending) → C q b → D q b
    c-d q b c = more ⊥ CameIn q b (λ no. absurd no) c

    c-e : (q : ℕ) (b : Pending) → C q b → E q b
    c-e q b c = more ⊥ (Gone x op kind tgt) q b (λ no. absurd no) c

    d-e : (q : ℕ) (b : Pending) → D q b → E q b
    d-e q b d = more CameIn (Gone x op kind tgt) q b (λ o. came o.0 o.1) d

    content : (Past : Type 0) (wsize : ℕ) (turn : Turn) → Content wsize turn (By Past)
    content Past wsize turn = record {
      sound = λ q b c. c.0.sound;
      goes = λ s q b next new after g_ free c. (
        (common q0 wsize turn).goes s q b next new after g_ free c.0,
        λ w. (known q0 f i byte n (λ k z. Unit {0}) (λ k. Unit {0}) (λ k v. Cov) (λ k. Cov) Past wsize turn 0 (λ k. tt) tt).goes s q b next new after g_ free (c.1 w),
      );
    }

    abbrev pub M : Turn → Result Reply Fault → Saving → Pending → Type 0
    M sent came_ s b = Shows q0 f i byte n (λ k z. Unit {0}) (λ k. Unit {0}) (λ k v. Cov) (λ k. Cov) ⊥ sent came_ s b

    unsaid-so : (sent : Turn) (fault : Fault) (s : Saving) (b : Pending) → M sent (Err fault) s b
    unsaid-so sent fault s b = (λ k flown flies_ byte_is number_is fresh_ since_ wcc count committed verf no. absurd (cc), λ k wcc verf no. absurd (cc))

    answers_ : (Past : Type 0) (wsize : ℕ) (sent turn : Turn) (came_ : Result Reply Fault) → ContentReplies wsize sent turn came_ (M sent came_) (By Past)
    answers_ Past wsize sent turn came_ = record {
      takes = λ repeats later s q b next new after t k free c. (
        (common-replies q0 wsize sent turn came_ (M sent came_)).takes repeats later s q b next new after t k free c.0,
        λ w. (known-replies q0 f i byte n (λ k z. Unit {0}) (λ k. Unit {0}) (λ k v. Cov) (λ k. Cov) Past wsize sent turn came_ 0 (λ k. tt) tt).takes repeats later s q b next new after t
            (record { waits = k.waits; it = k.it; more = k.more }) free (c.1 w),
      );
    }

    abbrev plan : (wsize : ℕ) (tables : Shelf) → Plan f wsize kind q0 (λ z. Unit {0})
    plan wsize tables = record {
      C = C;
      D = D;
      E = E;
      t = aimed kind tgt (tale x op);
      ways = λ turn turned. record {
        c = content ⊥ wsize turn;
        d = content CameIn wsize turn;
        e = content (Gone x op kind tgt) wsize turn;
        mark = λ q b d. tt;
        apart_ends = λ file apart of. tt;
        settles = λ upto q b t clear d. tt;
        enough = c-e;
        less = d-e;
      };
      tables = tables;
      moves = λ next. record {
        adds = λ file offset bytes q b after is given full on c. (
          (
            common-adds q0 file offset bytes q b after given.0.0 full on c.0,
            λ w. known-adds q0 f i byte n (λ k z. Unit {0}) (λ k. Unit {0}) (λ k v. Cov) (λ k. Cov) CameIn file offset bytes q b after given.0.0 full on (λ same inside. (given.0.2 same inside, λ is_put. sym same ∙ given.1 is_put)) ((c-d q b c).1 w),
          ),
          (given.0.1, given.1),
        );
        enough = c-e;
        less = d-e;
        cuts = λ file size upto q b after short quiet on c. (
          common-cuts q0 file size upto q b after quiet on c.0,
          λ w. known-cuts q0 f i byte n (λ k z. Unit {0}) (λ k. Unit {0}) (λ k v. Cov) (λ k. Cov) (Gone x op kind tgt) file size upto q b after quiet on (λ same low. cut (short same low)) ((c-e q b c).1 w),
        );
        gives = λ final z file fault q b after is of shut on d. (
          common-gives q0 file q b after on d.0,
          λ w. known-gives q0 f i byte n (λ k z. Unit {0}) (λ k. Unit {0}) (λ k v. Cov) (λ k. Cov) (Gone x op kind tgt) file q b after on (λ same. closed z.0 (of.0.0 same)) ((d-e q b d).1 w),
        );
      };
      Lone = Unit {0};
      puts = λ next final z file fault q b after is shut alone of on e. (
        common-gives q0 file q b after on e.0,
        λ w. known-gives q0 f i byte n (λ k z. Unit {0}) (λ k. Unit {0}) (λ k v. Cov) (λ k. Cov) (Gone x op kind tgt) file q b after on (λ same. dropped z.0 (of.0.1 same)) (e.1 w),
      );
      M = M;
      replies = λ sent turn came_ turned. answers_ ⊥ wsize sent turn came_;
      more = λ sent turn came_ turned. answers_ CameIn wsize sent turn came_;
      unsaid = unsaid-so;
      low_c = λ q b c. c.0.since;
      low_d = λ q b d. d.0.since;
      low_e = λ q b e. e.0.since;
    }

    -- a put is at its own save of the file then, or has ended
    abbrev pub Led : State → Type 0
    Led state = kind ≡ 3 → (f ≡ tgt) × ((m : Machine) → state ≡ Busy m → OwnAt (λ z. z.file ≡ f) (own_save m))

    over-led : (answer : Answer) → CameIn → Led (Over answer)
    over-led answer c is = (c.1 is, λ m e. absurd (busy-over m answer (sym e)))

    -- what it did, as its lane stands then
    pub data Loss (state : State) : Type 0 where
      lost_came : Comes x op → (IsWrite op → (value : Value) × (state ≡ Over (answers.Done value))) → Led state → Loss state
      lost_cut : Cuts terms.modes H x f i → Loss state
      lost_closed : (fault : Fault) → state ≡ Over (answers.Refused fault) → (slot : ℕ) → op ≡ ops.Close slot → IsOf terms.modes H x (ops.Close slot) f → Loss state
      lost_dropped : (fault : Fault) → state ≡ Over (answers.Refused fault) → (path : List (List ℕ)) (offset : ℕ) (bytes : List ℕ) → op ≡ ops.Put path offset bytes
          → ((end : ℕ) → EndsAt H x end → Leads terms.origin H end path f) → Loss state

    abbrev pub Outcome : State → ℕ → Pending → Type 0
    Outcome state q b = KnownBy (settled Cov) 0 f i byte n ⊥ q b ⊎ Loss state

    clear : (Over_ : Type 0) (state : State) (q : ℕ) (b : Pending) → (Over_ → Loss state) → By Over_ q b → W → Outcome state q b
    clear Over_ state q b turn c w = by (split (settled Cov) i byte n Over_ (of_file f b) (c.1 w).stage)
      where
        by : StageBy (settled Cov) i byte n ⊥ (of_file f b) ⊎ Over_ → Outcome state q b
        by (inl s) = inl (record { common = common-from q0 0 q b (omega arith) c.0; low = (c.1 w).low; stage = s })
        by (inr o) = inr (turn o)

    module _ (number : ℕ) (kind_is : kind ≡ job_kind (machine_of mt number op)) where
      done-came : (value : Value) → CameIn → Loss (Over (answers.Done value))
      done-came value c = lost_came c.0 (λ w. (value, refl)) (over-led (answers.Done value) c)

      other-came : (state : State) → (IsWrite op → ⊥) → (CameIn → Led state) → CameIn → Loss state
      other-came state nay led c = lost_came c.0 (λ w. absurd (nay w)) (led c)

      gone-done : (answer : Answer) → (IsWrite op → ⊥) → (kind ≡ 5 → ⊥) → (kind ≡ 3 → ⊥) → Gone x op kind tgt → Loss (Over answer)
      gone-done answer nay close put (came c aim) = other-came (Over answer) nay (over-led answer) (c, aim)
      gone-done answer nay close put (cut c) = lost_cut c
      gone-done answer nay close put (closed is of) = absurd (close is)
      gone-done answer nay close put (dropped is leads) = absurd (put is)

      pub looks : (wsize : ℕ) (some : 1 ≤ wsize) (least : 1 ≤ number) (most : number ≤ 16) (base : ℕ → Option (List ℕ)) (owner : Option (Owner f number base)) (state : State) (q : ℕ) (b : Pending) (o : List LaneFile)
          → Shown f wsize some number least most base owner C D E (aimed kind tgt (tale x op)) kind state q b o → W → Outcome state q b
      looks wsize some least most base owner (Busy machine) q b o shown = by (nat_eq kind 1) refl
        where
          by : (e : Bool) → nat_eq kind 1 ≡ e → W → Outcome (Busy machine) q b
          by true e = clear ⊥ (Busy machine) q b (λ no. absurd no) (shown.1.plain (shown.0 ∙ eqb-true kind 1 e))
          by false e = of shown.1.content
            where
              nay : IsWrite op → ⊥
              nay w = view (view-of mt number op)
                where
                  view : OpView mt number op → ⊥
                  view (writes k is) = eqb-false kind 1 e (kind_is ∙ is)
                  view (syncs slot at k) = subst IsWrite at w
                  view (closes slot at k) = subst IsWrite at w
                  view (puts path offset bytes at k) = subst IsWrite at w
                  view (others k not saver) = not w

              of : C q b ⊎ D q b → W → Outcome (Busy machine) q b
              of (inl c) = clear ⊥ (Busy machine) q b (λ no. absurd no) c
              of (inr d) = at_own (own_save machine) refl
                where
                  named : (z : Saving) → own_save machine ≡ Some z → CameIn → Led (Busy machine)
                  named z is c three =
                      let its = own-has (told f (Unit {0}) (aimed kind tgt (tale x op))) machine z is q b o shown.1.tale in (
                        c.1 three,
                        λ m e. subst (λ (k : Machine). OwnAt (λ z. z.file ≡ f) (own_save k)) (busy-same machine m e) (z, is, its.1.1 three ∙ sym (c.1 three)),
                      )

                  before_own : own_save machine ≡ None → (e : Bool) → nat_eq kind 3 ≡ e → W → Outcome (Busy machine) q b
                  before_own is true e = clear ⊥ (Busy machine) q b (λ no. absurd no) (shown.1.early (shown.0 ∙ eqb-true kind 3 e) is)
                  before_own is false e = clear CameIn (Busy machine) q b (other-came (Busy machine) nay (λ c three. absurd (eqb-false kind 3 e three))) d

                  at_own : (own : Option Saving) → own_save machine ≡ own → W → Outcome (Busy machine) q b
                  at_own None is = before_own is (nat_eq kind 3) refl
                  at_own (Some z) is = clear CameIn (Busy machine) q b (other-came (Busy machine) nay (named z is)) d
      looks wsize some least most base owner (Over (answers.Done value)) q b o shown = by (view-of mt number op)
        where
          by : OpView mt number op → W → Outcome (Over (answers.Done value)) q b
          by (writes w k) = clear CameIn (Over (answers.Done value)) q b (done-came value) (shown.wrote (kind_is ∙ k) value refl)
          by (syncs slot at k) = clear CameIn (Over (answers.Done value)) q b (done-came value) (shown.saved (inl (kind_is ∙ k)) value refl).0
          by (closes slot at k) = clear CameIn (Over (answers.Done value)) q b (done-came value) (shown.saved (inr (kind_is ∙ k)) value refl).0
          by (puts path offset bytes at k) = clear CameIn (Over (answers.Done value)) q b (done-came value) (shown.put (kind_is ∙ k) value refl).0
          by (others k nay saver) =
              clear (Gone x op kind tgt) (Over (answers.Done value)) q b
              (gone-done (answers.Done value) nay (λ is. omega (arith, is, kind_is, k)) (λ is. omega (arith, is, kind_is, k))) shown.content
      looks wsize some least most base owner (Over (answers.Refused fault)) q b o shown = by (view-of mt number op)
        where
          close-gone : (slot : ℕ) → op ≡ ops.Close slot → job_kind (machine_of mt number op) ≡ 5 → Gone x op kind tgt → Loss (Over (answers.Refused fault))
          close-gone slot at k (came c aim) = other-came (Over (answers.Refused fault)) (λ w. subst IsWrite at w) (over-led (answers.Refused fault)) (c, aim)
          close-gone slot at k (cut c) = lost_cut c
          close-gone slot at k (closed is of) = lost_closed fault refl slot at (of slot at)
          close-gone slot at k (dropped is leads) = absurd (omega (arith, is, kind_is, k))

          put-gone : (path : List (List ℕ)) (offset : ℕ) (bytes : List ℕ) → op ≡ ops.Put path offset bytes → job_kind (machine_of mt number op) ≡ 3 → Gone x op kind tgt → Loss (Over (answers.Refused fault))
          put-gone path offset bytes at k (came c aim) = other-came (Over (answers.Refused fault)) (λ w. subst IsWrite at w) (over-led (answers.Refused fault)) (c, aim)
          put-gone path offset bytes at k (cut c) = lost_cut c
          put-gone path offset bytes at k (closed is of) = absurd (omega (arith, is, kind_is, k))
          put-gone path offset bytes at k (dropped is leads) = lost_dropped fault refl path offset bytes at (leads path offset bytes at)

          by : OpView mt number op → W → Outcome (Over (answers.Refused fault)) q b
          by (writes w k) = clear ⊥ (Over (answers.Refused fault)) q b (λ no. absurd no) (shown.unwritten (kind_is ∙ k) fault refl)
          by (syncs slot at k) = clear (Gone x op kind tgt) (Over (answers.Refused fault)) q b (gone-done (answers.Refused fault) (λ w. subst IsWrite at w) (λ is. omega (arith, is, kind_is, k)) (λ is. omega (arith, is, kind_is, k))) shown.content
          by (closes slot at k) = clear (Gone x op kind tgt) (Over (answers.Refused fault)) q b (close-gone slot at k) shown.content
          by (puts path offset bytes at k) = clear (Gone x op kind tgt) (Over (answers.Refused fault)) q b (put-gone path offset bytes at k) shown.content
          by (others k nay saver) = clear (Gone x op kind tgt) (Over (answers.Refused fault)) q b (gone-done (answers.Refused fault) nay (λ is. omega (arith, is, kind_is, k)) (λ is. omega (arith, is, kind_is, k))) shown.content

    pub common-of : (wsize : ℕ) (some : 1 ≤ wsize) (number : ℕ) (least : 1 ≤ number) (most : number ≤ 16) (base : ℕ → Option (List ℕ)) (owner : Option (Owner f number base)) (state : State) (q : ℕ)
        (b : Pending) (o : List LaneFile) → Shown f wsize some number least most base owner C D E (aimed kind tgt (tale x op)) kind state q b o → Common 0 q b
    common-of wsize some number least most base owner (Busy m) q b o s = by s.1.content
      where
        by : C q b ⊎ D q b → Common 0 q b
        by (inl c) = common-from q0 0 q b (omega arith) c.0
        by (inr d) = common-from q0 0 q b (omega arith) d.0
    common-of wsize some number least most base owner (Over answer) q b o s = common-from q0 0 q b (omega arith) s.content.0

  -- ---- what is known once it is made

  -- the file that its own save is of
  abbrev pub AimsAt : View → ℕ → List ℕ → Type 0
  AimsAt old at tgt = (n_ : ℕ) (machine : Machine) → slice_get old.lanes at ≡ Some (record { number = n_; state = Busy machine }) → (z : Saving) → own_save machine ≡ Some z → tgt ≡ z.file

  aims-at : (old : View) (at number : ℕ) (m : Machine) (tgt : List ℕ) → slice_get old.lanes at ≡ Some (record { number = number; state = Busy m }) → JobAims m tgt → AimsAt old at tgt
  aims-at old at number m tgt there e n_ machine here z is =
      aims-own m tgt z e (ap own_save (busy-same m machine (state-is (Busy m) (Busy machine) number n_ (sym there ∙ here))) ∙ is)

  -- after a step of the lane at a place
  pub record Stepped (Cov W : Type 0) (old new : View) (at number x : ℕ) (op : Op) : Type 0 where
    pub state : State
    pub tgt : List ℕ
    pub aims : AimsAt old at tgt
    pub but : ButFor f old.lanes new.lanes at (record { number = number; state = state })
    pub outcome : W → KnownBy (settled Cov) 0 f i byte n ⊥ new.shelf.seq new.shelf.back ⊎ Loss Cov W x op old.shelf.seq (job_kind (machine_of mt number op)) tgt state
    pub told_ : (machine : Machine) → state ≡ Busy machine → Told number x machine op
    pub owned : Owned f new.lanes new.shelf.seq new.shelf.back new.shelf.order
    pub common_ : Common 0 new.shelf.seq new.shelf.back

  module _ (Cov W : Type 0) (old new : View) (wsize : ℕ) (some : 1 ≤ wsize) (at number : ℕ) (least : 1 ≤ number) (most : number ≤ 16) (kind x : ℕ) (op : Op) (kind_is : kind ≡ job_kind (machine_of mt number op))
      (base : ℕ → Option (List ℕ)) (tgt : List ℕ) (aims_ : AimsAt old at tgt) where
    stepped-of : Came_ f wsize some number least most base kind old.shelf.seq (λ z. Unit {0}) (plan Cov W x op old.shelf.seq kind tgt wsize new.shelf) old.lanes at new → Stepped Cov W old new at number x op
    stepped-of came_ = record {
      state = came_.state;
      tgt = tgt;
      aims = aims_;
      but = came_.but;
      outcome = subst (λ (k : ℕ). W → KnownBy (settled Cov) 0 f i byte n ⊥ new.shelf.seq new.shelf.back ⊎ Loss Cov W x op old.shelf.seq k tgt came_.state) kind_is
          (looks Cov W x op old.shelf.seq kind tgt number kind_is wsize some least most base came_.owner came_.state new.shelf.seq new.shelf.back new.shelf.order came_.shown);
      told_ = λ machine is.
          let now = subst (λ (s : State). Shown f wsize some number least most base came_.owner (C Cov W x op old.shelf.seq kind tgt) (D Cov W x op old.shelf.seq kind tgt) (E Cov W x op old.shelf.seq kind tgt)
          (aimed kind tgt (tale x op)) kind s new.shelf.seq new.shelf.back new.shelf.order) is came_.shown in (
            now.0 ∙ kind_is,
            tale-map f (aimed kind tgt (tale x op)) (tale x op) machine (λ n z. z) (λ z. z) (λ file offset bytes z. z.0) (λ file z. z.0) (λ file size upto z. z) new.shelf.seq new.shelf.back new.shelf.order now.1.tale,
          );
      owned = came_.owned_;
      common_ = common-of Cov W x op old.shelf.seq kind tgt wsize some number least most base came_.owner came_.state new.shelf.seq new.shelf.back new.shelf.order came_.shown;
    }

  -- what is known as a step begins
  pub was : (Cov W : Type 0) (v : View) (x kind : ℕ) (op : Op) (tgt : List ℕ) → Common 0 v.shelf.seq v.shelf.back → (W → KnownBy (settled Cov) 0 f i byte n ⊥ v.shelf.seq v.shelf.back)
      → C Cov W x op v.shelf.seq kind tgt v.shelf.seq v.shelf.back
  was Cov W v x kind op tgt c is = (newer c, λ w. record { common = newer (is w).common; low = (is w).low; stage = (is w).stage })
    where
      newer : Common 0 v.shelf.seq v.shelf.back → Common v.shelf.seq v.shelf.seq v.shelf.back
      newer k = record { sound = k.sound; upto = k.upto; since = omega arith }

  pub stirs-stepped : (Cov W : Type 0) (h : List Entry) (old new : View) (at : ℕ) (k : Known setup h old) (t : Stirs old at new) (b : Base h old) (x : ℕ) (op : Op) → UnderWay h t.number x (length h) op
      → (W → KnownBy (settled Cov) 0 f i byte n ⊥ old.shelf.seq old.shelf.back) → Stepped Cov W old new at t.number x op
  stirs-stepped Cov W h old new at k t b x op under byte_ =
      let told_ = b.story at t.number t.machine x op t.there under in
      let live : LaneLive t.number t.machine = b.placed.live at (record { number = t.number; state = Busy t.machine }) t.there in
      let aim = some-aim t.machine in
      let tgt = aim.0 in
      stepped-of Cov W old new old.wsize b.wsize at t.number live.least live.most (job_kind t.machine) x op told_.0 (bases f old.lanes) tgt (aims-at old at t.number t.machine tgt t.there aim.1)
      (stirs-came mt setup h old k b.wholly b.placed b.wsize f b.owned (λ z. Unit {0}) tt tt new at t (plan Cov W x op old.shelf.seq (job_kind t.machine) tgt old.wsize new.shelf) refl (λ alone. tt) (Unit {0})
      (λ u c. c-d Cov W x op old.shelf.seq (job_kind t.machine) tgt old.shelf.seq old.shelf.back c) (was Cov W old x (job_kind t.machine) op tgt b.common_ byte_) (aimed-has f (Unit {0}) (tale x op) old.shelf.seq old.shelf.back old.shelf.order tgt t.machine aim.1 (told_.1 old.shelf.seq old.shelf.back old.shelf.order)))

  -- a put that led there as a record came
  module _ (h rest : List Entry) (rec : List ℕ) (is : h ++ Delivered rec ∷ rest ≡ H) (lane x : ℕ) (path : List (List ℕ)) (offset : ℕ) (text : List ℕ) (u : UnderWay h lane x (length h) (ops.Put path offset text)) where
    abbrev now : List Entry
    now = h ++ Delivered rec ∷ []

    split_ : now ++ rest ≡ H
    split_ = append_assoc h (Delivered rec ∷ []) rest ∙ is

    long : length now ≡ length h + 1
    long = length_last h (Delivered rec)

    within : length now ≤ length H
    within = subst (λ (k : List Entry). length now ≤ length k) split_ (longer now rest)
      where
        longer : (a b : List Entry) → length a ≤ length (a ++ b)
        longer [] b = omega arith
        longer (e ∷ a) b = let more = longer a b in omega (arith, more)

    began : At H x (Began lane u.line (ops.Put path offset text))
    began = at-on H h (Delivered rec ∷ rest) is x (Began lane u.line (ops.Put path offset text)) u.began

    heard : At H (length h) (Delivered rec)
    heard = at-on H now rest split_ (length h) (Delivered rec) (At-last h (Delivered rec))

    unanswered : AnsweredBefore H x (length now) → ⊥
    unanswered a = elim (cases_lt a.y (length h)) [
      | inl low ↦ u.unanswered (record { lane = a.lane; op = a.op; y = a.y; answer = a.answer; ended = ended-in H h (Delivered rec ∷ rest) is a.lane x a.y a.op a.answer low a.ended; before = low })
      | inr high ↦ at-once (let low = a.before in let more = long in omega (arith, high, low, more))
    ]
      where
        at-once : a.y ≡ length h → ⊥
        at-once here =
            let no_way : Answered a.lane a.ended.line a.answer ≡ Delivered rec =
            At-one H (length h) (Answered a.lane a.ended.line a.answer) (Delivered rec) (subst (λ (n : ℕ). At H n (Answered a.lane a.ended.line a.answer)) here a.ended.answered) heard in
            absurd (cc)

    rooted : Rooted terms.origin (now ++ rest) (length now) mt.root
    rooted =
        subst (λ (k : List Entry). Rooted terms.origin k (length now) mt.root) (sym split_)
        (Rooted-wide terms.origin H x (length now) mt.root (let low = u.before in let more = long in omega (arith, low, more)) (roots x lane u.line (ops.Put path offset text) began))

    led : (file : List ℕ) → LeadsTo mt.root now path file → Leads terms.origin H (length now) path file
    led file leads =
        subst (λ (k : List Entry). Leads terms.origin k (length now) path file) split_
        (leads-on mt.root terms now rest x (length now) (ops.Put path offset text) refl rooted path file leads)

    put-comes : (file : List ℕ) → LeadsTo mt.root now path file → file ≡ f → (end : ℕ) → EndsAt H x end → Leads terms.origin H end path f
    put-comes file leads same end ends =
        leads-wide terms.origin H (length now) end (ends-late H x end (length now) within unanswered ends) path f
        (subst (λ (k : List ℕ). Leads terms.origin H (length now) path k) same (led file leads))

  module _ (h rest : List Entry) (rec : List ℕ) (is : h ++ Delivered rec ∷ rest ≡ H) (old new : View) (xid : ℕ) (call : Waiting Purpose) (at : ℕ) (r : Reaches (machine_of mt) setup h old) (found : old.lost ≡ false)
      (k : Known setup h old) (fin : View) (hears : HearsRecord old rec fin) (named : xid_at rec ≡ Some xid) (waits : waiting_at xid old.calls.calls ≡ Some call)
      (place : position (is_busy call.purpose.lane) old.lanes ≡ Some at) (t : TakesAt (taken_one old xid) at call.purpose.sent (said_of call.purpose.proc rec) new) (b : Base h old) (x : ℕ) (op : Op)
      (under : UnderWay h t.number x (length h) op) where
    number-of : call.purpose.lane ≡ t.number
    number-of = sym (taker-is setup h old xid call at k waits place t.number t.machine t.there)

    its-lane : UnderWay h call.purpose.lane x (length h) op
    its-lane = subst (λ (n : ℕ). UnderWay h n x (length h) op) (sym number-of) under

    there_ : slice_get old.lanes at ≡ Some (record { number = call.purpose.lane; state = Busy t.machine })
    there_ = subst (λ (n : ℕ). slice_get old.lanes at ≡ Some (record { number = n; state = Busy t.machine })) (sym number-of) t.there

    given : PutGiven mt setup h old rec fin xid call at t.machine r found hears named waits there_ (Brings x op) op
    given path offset text same =
        let u : UnderWay h call.purpose.lane x (length h) (ops.Put path offset text) = subst (λ (o : Op). UnderWay h call.purpose.lane x (length h) o) same its-lane in (
          (asked x call.purpose.lane u.line (ops.Put path offset text) (began h rest rec is call.purpose.lane x path offset text u)).0,
          λ file leads. (
            began-fits (machine_of mt) setup h old r x call.purpose.lane u.line (ops.Put path offset text) u.began,
            (
              λ here slot is_close. absurd (let no_way : ops.Put path offset text ≡ ops.Close slot = sym same ∙ is_close in cc),
              λ here its_path its_offset its_bytes at_ end ends.
                  subst (λ (p : List (List ℕ)). Leads terms.origin H end p f) (one-path path its_path offset its_offset text its_bytes (sym same ∙ at_))
                  (put-comes h rest rec is call.purpose.lane x path offset text u file leads here end ends),
            ),
            λ here inside. by_put path offset text same (put-comes h rest rec is call.purpose.lane x path offset text u file leads here) inside,
          ),
        )

    opens : JobOpens (Brings x op) old.wsize t.machine call.purpose.sent (turn_at (taken_one old xid)) (said_of call.purpose.proc rec) old.shelf t.next t.after t.shelf t.takes
    opens =
        puts-bring mt setup h old rec fin xid call at t.machine r found hears named waits there_ (Brings x op) x op its-lane given old.wsize call.purpose.sent (turn_at (taken_one old xid)) t.next t.after t.shelf t.takes

    now_ : List Entry
    now_ = h ++ Delivered rec ∷ []

    abbrev pub Covered : Type 0
    Covered = CoveredEarlier (h ++ Delivered rec ∷ []) (length (h ++ Delivered rec ∷ [])) f i

    says : (z : Saving) → job_save t.machine ≡ Some z → M Covered (Unit {0}) x op old.shelf.seq (job_kind t.machine) [] call.purpose.sent (said_of call.purpose.proc rec) z old.shelf.back
    says z saves_ = (
      λ k flown flies_ byte_is number_is fresh_ since_ wcc count committed verf said reaches.
          let w = shows-write mt setup h old r found xid call waits at call.purpose.lane t.machine there_ refl b.wholly rec fin hears named f i byte b.common_.sound z n (λ y. Unit {0}) 0 flown flies_ byte_is number_is
          (λ j bytes there has. omega arith) tt wcc count committed verf said reaches in (
            covers-held (h ++ Delivered rec ∷ []) old.calls.calls f i byte verf.0 w.0,
            λ firm. covers-held (h ++ Delivered rec ∷ []) old.calls.calls f i byte verf.0 w.0,
          ),
      λ k wcc verf said same since_ held. held,
    )

    pub takes-stepped : (W : Type 0) → (W → KnownBy (settled Covered) 0 f i byte n ⊥ old.shelf.seq old.shelf.back) → Stepped Covered W old new at t.number x op
    takes-stepped W byte_ =
        let told_ = b.story at t.number t.machine x op t.there under in
        let live : LaneLive t.number t.machine = b.placed.live at (record { number = t.number; state = Busy t.machine }) t.there in
        let aim = takes-aim (Brings x op) (job_kind t.machine) old.wsize call.purpose.sent (turn_at (taken_one old xid)) (said_of call.purpose.proc rec) old.shelf t.next t.machine t.after t.shelf t.takes in
        let tgt = aim.0 in
        stepped-of Covered W old new old.wsize b.wsize at t.number live.least live.most (job_kind t.machine) x op told_.0 (bases f old.lanes) tgt (aims-at old at t.number t.machine tgt t.there aim.1)
        (takes-came mt setup h old k b.wholly b.placed b.wsize f b.owned (λ z. Unit {0}) tt tt rec xid call at r found waits place new t
        (plan Covered W x op old.shelf.seq (job_kind t.machine) tgt old.wsize new.shelf) refl (λ alone. tt) says (aim.2 opens) (Unit {0})
        (λ u c. c-d Covered W x op old.shelf.seq (job_kind t.machine) tgt old.shelf.seq old.shelf.back c) (was Covered W old x (job_kind t.machine) op tgt b.common_ byte_) (aimed-has f (Unit {0}) (tale x op) old.shelf.seq old.shelf.back old.shelf.order tgt t.machine aim.1 (told_.1 old.shelf.seq old.shelf.back old.shelf.order)))

  -- ---- one begins

  module _ (h rest : List Entry) (old new : View) (lane line : ℕ) (op : Op) (now_ : ℕ) (is : h ++ Began lane line op ∷ rest ≡ H) (r : Reaches (machine_of mt) setup h old) (found : old.lost ≡ false) (k : Known setup h old)
      (idle : IsIdle lane old.lanes) (fits : Fits (machine_of mt lane op)) (t : StartsLane (counted old now_) lane (machine_of mt lane op) new) (b : Base h old) where
    began-at : At H (length h) (Began lane line op)
    began-at = at-on H (h ++ Began lane line op ∷ []) rest (append_assoc h (Began lane line op ∷ []) rest ∙ is) (length h) (Began lane line op) (At-last h (Began lane line op))

    op-of : (a c : ℕ) (o : Op) → At H (length h) (Began a c o) → op ≡ o
    op-of a c o there = same-op a c lane line o op (At-one H (length h) (Began a c o) (Began lane line op) there began-at)

    is-write : (not : (path : List (List ℕ)) (offset : ℕ) (bytes : List ℕ) → op ≡ ops.Put path offset bytes → ⊥) (v : ℕ) → WritesByte terms.modes terms.origin H (length h) f i v → IsWrite op
    is-write not v (touched.write slot offset bytes of c) = subst IsWrite (sym (op-of of.lane of.line (ops.Write slot offset bytes) of.began)) tt
    is-write not v (touched.fill slot offset count of low high) = subst IsWrite (sym (op-of of.lane of.line (ops.Fill slot offset count v) of.began)) tt
    is-write not v (touched.put l k offset end path bytes put ends leads c) = absurd (not path offset bytes (op-of l k (ops.Put path offset bytes) put))

    no-close : ((a c : ℕ) (o : Op) → At H (length h) (Began a c o) → IsSaver o → ⊥) → (file : List ℕ) → Closes (length h) op file
    no-close none file here slot is_close = absurd (none lane line op began-at (subst IsSaver (sym is_close) tt))

    abbrev NotPut : Type 0
    NotPut = job_kind (machine_of mt lane op) ≡ 3 → ⊥

    begun : (j : Job) → ((file : List ℕ) (offset : ℕ) (bytes : List ℕ) → Brings (length h) op file offset bytes → NotPut → j.A file offset bytes)
        → ((file : List ℕ) → Holds (length h) op file → NotPut → j.B file) → ((file : List ℕ) (size upto : ℕ) → Short (length h) file size → j.C file size upto) → JobBegins j (machine_of mt lane op) old.shelf.opens
    begun j a bs c = by (view-of mt lane op)
      where
        other : ((path : List (List ℕ)) (offset : ℕ) (bytes : List ℕ) → op ≡ ops.Put path offset bytes → ⊥) → NotPut → JobBegins j (machine_of mt lane op) old.shelf.opens
        other not nay =
            begins mt terms setup H V g f i h rest old lane line op is r found idle fits j
            (λ file offset bytes gi. a file offset bytes
            (gi.fits, (no-close gi.no_saver file, λ here path o bs_ at. absurd (not path o bs_ at)), λ here inside. by_write (slice_index bytes (i - offset)) (gi.gives here inside) (is-write not (slice_index bytes (i - offset)) (gi.gives here inside))) nay)
            (λ file saves_. bs file (
              λ here slot is_close. subst (λ (z : List ℕ). IsOf terms.modes H (length h) (ops.Close slot) z) here
                  (subst (λ (o : Op). IsOf terms.modes H (length h) o file) is_close (saves_ lane line op began-at (subst IsSaver (sym is_close) tt))),
              λ here path o bs_ at. absurd (not path o bs_ at),
            ) nay)
            (λ file size upto slot of. c file size upto (λ here low. record { slot = slot; size = size; low = low; of = subst (IsOf terms.modes H (length h) (ops.Truncate slot size)) here of }))

        kind-not : (n_ : ℕ) → job_kind (machine_of mt lane op) ≡ n_ → (n_ ≡ 3 → ⊥) → (path : List (List ℕ)) (offset : ℕ) (bytes : List ℕ) → op ≡ ops.Put path offset bytes → ⊥
        kind-not n_ k differs path offset bytes at = differs (sym k ∙ ap (λ (o : Op). job_kind (machine_of mt lane o)) at)

        by : OpView mt lane op → JobBegins j (machine_of mt lane op) old.shelf.opens
        by (puts path offset bytes at k) = subst (λ (o : Op). JobBegins j (machine_of mt lane o) old.shelf.opens) (sym at) tt
        by (writes w k) = other (kind-not 1 k (λ e. omega (arith, e))) (λ three. omega (arith, k, three))
        by (syncs slot at k) = other (kind-not 2 k (λ e. omega (arith, e))) (λ three. omega (arith, k, three))
        by (closes slot at k) = other (kind-not 5 k (λ e. omega (arith, e))) (λ three. omega (arith, k, three))
        by (others k nay saver) = other (kind-not 0 k (λ e. omega (arith, e))) (λ three. omega (arith, k, three))

    pub starts-stepped : (Cov W : Type 0) → (W → KnownBy (settled Cov) 0 f i byte n ⊥ old.shelf.seq old.shelf.back) → Stepped Cov W old new (length old.lanes) lane (length h) op
    starts-stepped Cov W byte_ =
        let kind = job_kind (machine_of mt lane op) in
        let tgt : List ℕ = [] in
        let first = was Cov W old (length h) kind op tgt b.common_ byte_ in
        stepped-of Cov W old new old.wsize b.wsize (length old.lanes) lane idle.least idle.most (job_kind (machine_of mt lane op)) (length h) op refl (bases f old.lanes) tgt
        (λ n_ machine there z is_. absurd (none-past old.lanes (record { number = n_; state = Busy machine }) there))
        (starts-came mt setup h old k b.wholly b.placed b.wsize f b.owned (λ z. Unit {0}) tt tt new lane op now_ idle t
        (plan Cov W (length h) op old.shelf.seq (job_kind (machine_of mt lane op)) tgt old.wsize new.shelf) refl (λ alone. tt)
        (λ owner. begun
        (job-in f old.wsize b.wsize lane idle.least idle.most (bases f old.lanes) owner (C Cov W (length h) op old.shelf.seq kind tgt) (D Cov W (length h) op old.shelf.seq kind tgt)
        (E Cov W (length h) op old.shelf.seq kind tgt) (aimed kind tgt (tale (length h) op)) (turn_at (counted old now_))
        ((plan Cov W (length h) op old.shelf.seq kind tgt old.wsize new.shelf).ways (turn_at (counted old now_)) tt))
        (λ file offset bytes a nay. (a, λ three. absurd (nay three))) (λ file a nay. (a, λ three. absurd (nay three))) (λ file size upto a. a))
        first (λ saver. c-d Cov W (length h) op old.shelf.seq kind tgt old.shelf.seq old.shelf.back first))
