-- What holds at each moment of a history of the newest bytes at a place of a file: who gave each, and which operations since then have left none older.
use Rattle.core_session.proofs.Prelude.{◌≡◌, ◌≤◌, ◌<◌, ◌+◌, ◌-◌, ◌⊎◌, inl, inr, ℕ, true, false, List, ◌++◌, length, Option, Result, Some, None, slice_get, sym, subst, ◌∙◌, arith, slice_index, Answer, Fault, Value, Entry, Began, Call, Reply, Op, At, AnsweredBefore, Ended, LastReply, UnderWay, IsOf, NamesFile, Terms, WritesByte, Cuts, Pending, of_file, OnFile, with_bytes, covers, Shelf, Turn, Saving, is_full, Mounted, Machine, machine_of, Busy, Setup, View, Placed, IsGuarded}
use Rattle.world_model.specs.declared.answer.Answer.TheVariants as answers
use Rattle.world_model.specs.declared.op.Op.TheVariants as ops
use Rattle.core_session.proofs.saves.WholeSteps.{Wholly}
use Rattle.core_session.proofs.syncs.Causes.{IsWriter, IsSaver, IsPut, OfOp, Saving_}
use Rattle.core_session.proofs.syncs.Contents.{Common, Anything}
use Rattle.core_session.proofs.syncs.Fate.{Story}
use Rattle.core_session.proofs.syncs.Fates.{job_kind}
use Rattle.core_session.proofs.syncs.Aims.{aimed}
use Rattle.core_session.proofs.syncs.Passing.{Tale}
use Rattle.core_session.proofs.syncs.PutGoes.{OwnAt, Names, own_save}
use Rattle.core_session.proofs.syncs.Levels.{Content, ContentReplies}
use Rattle.core_session.proofs.syncs.Plans.{Plan}
use Rattle.core_session.proofs.syncs.Seen.{Owned}
use Rattle.core_session.proofs.syncs.Stands.{Has}
use Rattle.core_session.proofs.syncs.Turning.{IsFixed}
use Rattle.core_session.proofs.drops.Along.{GuardsKnown}
use Rattle.core_session.proofs.pending.Above.{Above, adds-above}
use Rattle.core_session.proofs.pending.Alone.{UnleftTo}
use Rattle.core_session.proofs.syncs.SlotHeld.{HoldsSlot}
use Rattle.core_session.proofs.syncs.Aparts.{Apart}
use Rattle.core_session.proofs.pending.Begins.{Giving}
use Rattle.core_session.proofs.pending.Contents.{Known, known, known-replies, known-adds, known-cuts, known-gives}
use Rattle.core_session.proofs.pending.Cuttings.{IsTruncate, IsCutter}
use Rattle.core_session.proofs.pending.Newest.{OfNewest, newest-map}
use Rattle.core_session.proofs.pending.Settles.{IsPast}

module _ (mt : Mounted) (terms : Terms) (setup : Setup) (H : List Entry) (f : List ℕ) (i : ℕ) where
  -- the operation at the place x is a sync or a close of the file
  pub record IsSaverOf (x : ℕ) : Type 0 where
    pub lane : ℕ
    pub line : ℕ
    pub op : Op
    pub began : At H x (Began lane line op)
    pub saver : IsSaver op
    pub of : IsOf terms.modes H x op f

  -- What was pending of the place as the operation at x began is gone: a write or fill over it went well, a truncate below it or a sync or close of the file
  -- did, or a close is past its sync, which did.
  pub data Marked (h : List Entry) (v : View) (x : ℕ) : Type 0 where
    wrote : (byte : ℕ) (value : Value) → IsFixed h v x (answers.Done value) → OfOp H x IsWriter → WritesByte terms.modes terms.origin H x f i byte → Marked h v x
    cut : (value : Value) → IsFixed h v x (answers.Done value) → Cuts terms.modes H x f i → Marked h v x
    saved : (value : Value) → IsFixed h v x (answers.Done value) → IsSaverOf x → Marked h v x
    past : (k number : ℕ) (machine : Machine) (op : Op) → slice_get v.lanes k ≡ Some (record { number = number; state = Busy machine }) → UnderWay h number x (length h) op
        → IsPast machine → IsSaverOf x → Marked h v x

  -- Where a put went well: of its file nothing older is left; or it saved another one, as the last record says.
  pub data PutEnd (h : List Entry) (v : View) (x mark : ℕ) : Type 0 where
    settled_ : OfNewest (Above f i mark) v.shelf.back → PutEnd h v x mark
    left_ : Apart f h v x → PutEnd h v x mark
    never : ((lane j : ℕ) (op : Op) (a : Answer) → Ended H lane x op j a → (call : Call) → NamesFile f call → LastReply H j call → ⊥) → PutEnd h v x mark

  -- What a put that is under way gave is in its own save.
  abbrev pub PutSaves : List Entry → View → ℕ → ℕ → Type 0
  PutSaves h v w number = (k n : ℕ) (machine : Machine) (op : Op) → slice_get v.lanes k ≡ Some (record { number = n; state = Busy machine }) → UnderWay h n w (length h) op
      → OwnAt (Names f number) (own_save machine)

  -- Who gave a byte: none that was answered before an operation began of whose mark the byte's number is above, and no put that has ended well. What a write or
  -- fill gave is guarded.
  pub record IsGiven (h : List Entry) (v : View) (u : ℕ → ℕ) (byte number : ℕ) : Type 0 where
    pub w : ℕ
    pub began : w < length h
    pub writes : WritesByte terms.modes terms.origin H w f i byte
    pub well : OfOp H w IsWriter → (value : Value) × IsFixed h v w (answers.Done value)
    pub late : (x lane line : ℕ) (op : Op) → At H x (Began lane line op) → x < length h → u x < number → AnsweredBefore H w x → ⊥
    pub guard : OfOp H w IsWriter → IsGuarded number v f
    pub unleft : OfOp H w IsWriter → UnleftTo terms.modes H f (length h) w
    pub saves_ : OfOp H w IsPut → PutSaves h v w number
    pub unput : OfOp H w IsPut → (value : Value) → IsFixed h v w (answers.Done value) → ⊥

  -- of a byte of the place
  abbrev pub Here : (ℕ → ℕ → Type 0) → List ℕ → ℕ → ℕ → ℕ → Type 0
  Here G file place byte number = file ≡ f → place ≡ i → G byte number

  -- what is told of an operation with this mark
  abbrev pub tale : ℕ → ℕ → Tale
  tale x mark = record {
    T = λ n. mark ≤ n;
    X = Unit {0};
    A = Giving terms.modes terms.origin H f i x;
    B = Saving_ terms.modes H x;
    Cut = λ file size upto. (slot : ℕ) × IsOf terms.modes H x (ops.Truncate slot size) file;
  }

  abbrev pub Told : (ℕ → ℕ) → ℕ → ℕ → Machine → Op → Type 0
  Told u number x machine op = (job_kind machine ≡ job_kind (machine_of mt number op)) × Has f (tale x (u x)) machine × (IsTruncate op → IsCutter (u x) machine)

  -- The mark of an operation is the number of the last write as it began.
  pub record Phase (h : List Entry) (v : View) : Type 0 where
    pub u : ℕ → ℕ
    pub low : (x : ℕ) → u x ≤ v.shelf.seq
    pub common : Common 0 v.shelf.seq v.shelf.back
    pub given : OfNewest (Here (IsGiven h v u)) v.shelf.back
    pub marks : (x : ℕ) → Marked h v x → OfNewest (Above f i (u x)) v.shelf.back
    pub puts : (x : ℕ) (value : Value) → IsFixed h v x (answers.Done value) → OfOp H x IsPut → PutEnd h v x (u x)
    pub story : Story (Told u) h v
    pub owned : Owned f v.lanes v.shelf.seq v.shelf.back v.shelf.order

  pub record Stands (h : List Entry) (v : View) : Type 0 where
    pub wholly : Wholly setup h v
    pub placed : Placed v
    pub wsize : 1 ≤ v.wsize
    pub guards : GuardsKnown terms.modes h v
    pub slots : (x : ℕ) (rest : List Entry) → h ++ rest ≡ H → HoldsSlot terms.modes H x f h v
    pub phase : (rest : List Entry) → h ++ rest ≡ H → Phase h v

  -- ---- a step of the operation at x, as it is planned

  -- It is of this kind, has this save of its own, and a put is of the file `tgt`.
  module _ (h : List Entry) (old : View) (u : ℕ → ℕ) (x mark q0 kind : ℕ) (own : Option Saving) (tgt : List ℕ) where
    -- a put whose bytes aren't there yet
    abbrev pub Unsaved : Type 0
    Unsaved = (kind ≡ 3) × (own ≡ None)

    -- a byte that was there, or one that comes in
    abbrev pub Was : ℕ → ℕ → Type 0
    Was byte number = IsGiven h old u byte number × (number ≤ q0) × ((y : ℕ) → OfNewest (Above f i (u y)) old.shelf.back → u y < number)

    abbrev pub IsNew : ℕ → ℕ → Type 0
    IsNew byte number = (number ≡ q0 + 1) × WritesByte terms.modes terms.origin H x f i byte × (kind ≡ 3 → (own ≡ None) × (f ≡ tgt))

    abbrev pub Now : ℕ → ℕ → Type 0
    Now byte number = Was byte number ⊎ IsNew byte number

    -- where its own bytes are over the place, none older is
    abbrev pub Covered : Pending → Type 0
    Covered b = OfOp H x IsWriter → (byte : ℕ) → WritesByte terms.modes terms.origin H x f i byte → OfNewest (Above f i q0) b

    -- until its bytes come in, no number is given
    abbrev pub C : ℕ → Pending → Type 0
    C q b = Common q0 q b × OfNewest (Here Was) b × (q ≡ q0)

    abbrev pub E : ℕ → Pending → Type 0
    E q b = Known (Here Now) q0 q b

    abbrev pub D : ℕ → Pending → Type 0
    D q b = E q b × Covered b × (Unsaved → q0 + 1 ≤ q)

    pub c-e : (q : ℕ) (b : Pending) → C q b → E q b
    c-e q b c = (c.0, newest-map (Here Was) (Here Now) (λ file place byte number k same here. inl (k same here)) b c.1)

    pub c-content : (wsize : ℕ) (turn : Turn) → Content wsize turn C
    c-content wsize turn = record {
      sound = λ q b c. c.0.sound;
      goes = λ s q b next new after g free c.
          let k = (known (Here Was) q0 wsize turn).goes s q b next new after g free (c.0, c.1) in
          (k.0, k.1, c.2);
    }

    pub c-replies : (wsize : ℕ) (sent turn : Turn) (came : Result Reply Fault) → ContentReplies wsize sent turn came Anything C
    c-replies wsize sent turn came = record {
      takes = λ repeats later s q b next new after t n free c.
          let k = (known-replies (Here Was) q0 wsize sent turn came).takes repeats later s q b next new after t n free (c.0, c.1) in
          (k.0, k.1, c.2);
    }

    pub d-content : (wsize : ℕ) (turn : Turn) → Content wsize turn D
    d-content wsize turn = record {
      sound = λ q b d. d.0.0.sound;
      goes = λ s q b next new after g free d. (
        (known (Here Now) q0 wsize turn).goes s q b next new after g free d.0,
        λ writer byte writes. ((known (Above f i q0) q0 wsize turn).goes s q b next new after g free (d.0.0, d.1 writer byte writes)).1,
        d.2,
      );
    }

    pub d-replies : (wsize : ℕ) (sent turn : Turn) (came : Result Reply Fault) → ContentReplies wsize sent turn came Anything D
    d-replies wsize sent turn came = record {
      takes = λ repeats later s q b next new after t n free d. (
        (known-replies (Here Now) q0 wsize sent turn came).takes repeats later s q b next new after t n free d.0,
        λ writer byte writes. ((known-replies (Above f i q0) q0 wsize sent turn came).takes repeats later s q b next new after t n free (d.0.0, d.1 writer byte writes)).1,
        d.2,
      );
    }

    -- what is told of it: its bytes come in where it has no save of its own, and such a save is of their number
    abbrev pub base : Tale
    base = record {
      T = λ n. (mark ≤ n) × (Unsaved → q0 + 1 ≤ n);
      X = Unit {0};
      A = λ file offset bytes. Giving terms.modes terms.origin H f i x file offset bytes × (kind ≡ 3 → own ≡ None);
      B = Saving_ terms.modes H x;
      Cut = λ file size upto. (slot : ℕ) × IsOf terms.modes H x (ops.Truncate slot size) file;
    }

    pub d-adds : (file : List ℕ) (offset : ℕ) (bytes : List ℕ) (q : ℕ) (b after : Pending) → (aimed kind tgt base).A file offset bytes → is_full bytes b ≡ false
        → OnFile b after file (with_bytes offset bytes (q + 1) (of_file file b)) → C q b → D (q + 1) after
    d-adds file offset bytes q b after given full on c = (whole, covered, λ unsaved. (let same = c.2 in omega (arith, same)))
      where
        more : q0 < q + 1
        more = let low = c.0.since in omega (arith, low)

        own_ : (place : ℕ) → covers offset (length bytes) place ≡ true → Here Now file place (slice_index bytes (place - offset)) (q + 1)
        own_ place inside same here =
            inr (
              (let last = c.2 in omega (arith, last)),
              subst (λ (p : ℕ). WritesByte terms.modes terms.origin H x f i (slice_index bytes (p - offset))) (sym here)
                  (given.0.0.gives same (subst (λ (p : ℕ). covers offset (length bytes) p ≡ true) here inside)),
              λ three. (given.0.1 three, sym same ∙ given.1 three),
            )

        whole : E (q + 1) after
        whole = known-adds (Here Now) q0 file offset bytes q b after given.0.0.fits full on own_ (c-e q b c)

        covered : Covered after
        covered writer byte writes =
            let k = given.0.0.all writer byte writes in
            adds-above f i q0 (q + 1) offset bytes b after more k.1 c.0.sound whole.0.sound
            (subst (λ (z : List ℕ). OnFile b after z (with_bytes offset bytes (q + 1) (of_file z b))) k.0 on)

    abbrev pub plan : (wsize : ℕ) (tables : Shelf) → mark ≤ q0 → Plan f wsize kind q0 (λ z. Unit {0})
    plan wsize tables low = record {
      C = C;
      D = D;
      E = E;
      t = aimed kind tgt base;
      ways = λ turn turned. record {
        c = c-content wsize turn;
        d = d-content wsize turn;
        e = known (Here Now) q0 wsize turn;
        mark = λ q b d. ((let since = d.0.0.since in omega (arith, low, since)), d.2);
        apart_ends = λ file apart of. tt;
        settles = λ upto q b t clear d. tt;
        enough = c-e;
        less = λ q b d. d.0;
      };
      tables = tables;
      moves = λ next. record {
        adds = λ file offset bytes q b after is given full on c. (
          d-adds file offset bytes q b after given full on c,
          (λ lane line op at saver. absurd (given.0.0.no_saver lane line op at saver), given.1),
        );
        enough = c-e;
        less = λ q b d. d.0;
        cuts = λ file size upto q b after short quiet on c. known-cuts (Here Now) q0 file size upto q b after quiet on (c-e q b c);
        gives = λ final z file fault q b after is of shut on d. known-gives (Here Now) q0 file q b after on d.0;
      };
      Lone = Unit {0};
      puts = λ next final z file fault q b after is shut alone on e. known-gives (Here Now) q0 file q b after on e;
      M = λ sent came. Anything;
      replies = λ sent turn came turned. c-replies wsize sent turn came;
      more = λ sent turn came turned. d-replies wsize sent turn came;
      unsaid = λ sent fault s b. tt;
      low_c = λ q b c. c.0.since;
      low_d = λ q b d. d.0.0.since;
      low_e = λ q b e. e.0.since;
    }
