-- What holds, at each moment of a history, of a byte that a write, fill or put wrote, and that a later sync, close or put settled, or the put itself.
use Rattle.core_session.proofs.Prelude.{subst, ◌≡◌, ◌≢◌, ◌≤◌, ◌<◌, ◌⊎◌, ℕ, suc, List, ◌++◌, length, Some, slice_get, Waiting, Value, Entry, Op, Call, Ended, LastReply, UnderWay, IsOf, NamesFile, Terms, Pending, of_file, rest_at, LaneFile, Mounted, Machine, machine_of, Purpose, Setup, View, Placed, MadeStable, byte_by, IsGuarded, WritesCarry, MadeAndKept, Busy}
use Rattle.world_model.specs.declared.answer.Answer.TheVariants as answers
use Rattle.world_model.specs.declared.op.Op.TheVariants as ops
use Rattle.write_back.specs.declared.state.State.TheVariants.{Waiting as Waits}
use Rattle.write_back.specs.declared.state.Ready.{Ready}
use Rattle.core_session.proofs.saves.WholeSteps.{Wholly}
use Rattle.core_session.proofs.drops.Along.{GuardsKnown}
use Rattle.core_session.proofs.syncs.AllJobs.{JobHas}
use Rattle.core_session.proofs.syncs.Aparts.{Apart, Ending}
use Rattle.core_session.proofs.syncs.Causes.{IsWriter, IsSaver, IsPut, OfOp, Adding, Saving_, Cutting}
use Rattle.core_session.proofs.syncs.Contents.{Common}
use Rattle.core_session.proofs.syncs.Fate.{Fate, Story}
use Rattle.core_session.proofs.syncs.Fates.{job_kind}
use Rattle.core_session.proofs.syncs.Looks.{Touching}
use Rattle.core_session.proofs.syncs.Passing.{Tale, told}
use Rattle.core_session.proofs.syncs.Phases.{Across, Family, KnownBy, Evident}
use Rattle.core_session.proofs.syncs.PutGoes.{OwnAt, Names, own_save}
use Rattle.core_session.proofs.syncs.Seen.{Owned}
use Rattle.core_session.proofs.syncs.Showings.{Fresh, Wrote, Made}
use Rattle.core_session.proofs.syncs.SlotHeld.{HoldsSlot}
use Rattle.core_session.proofs.syncs.PutPlaced.{PutPlaced}

-- How an operation settles: as a sync or close of the file, or as a put, of the file that its last record names.
pub data SavesIt (terms : Terms) (H : List Entry) (s j : ℕ) (f : List ℕ) (op : Op) : Type 0 where
  by_slot : IsSaver op → IsOf terms.modes H s op f → SavesIt terms H s j f op
  by_last : (path : List (List ℕ)) (offset : ℕ) (bytes : List ℕ) → op ≡ ops.Put path offset bytes → (call : Call) → NamesFile f call → LastReply H j call → SavesIt terms H s j f op

-- Which file it wrote: that of its slot, or, where it is a put, the one that its last record names.
pub data WritesIt (terms : Terms) (H : List Entry) (w y : ℕ) (f : List ℕ) (op : Op) : Type 0 where
  of_slot : IsWriter op → IsOf terms.modes H w op f → WritesIt terms H w y f op
  of_last : (path : List (List ℕ)) (offset : ℕ) (bytes : List ℕ) → op ≡ ops.Put path offset bytes → (call : Call) → NamesFile f call → LastReply H y call → WritesIt terms H w y f op

pub slot-of : (terms : Terms) (H : List Entry) (w y : ℕ) (f : List ℕ) (op : Op) → WritesIt terms H w y f op → IsWriter op → IsOf terms.modes H w op f
slot-of terms H w y f op (of_slot wr of) is = of
slot-of terms H w y f op (of_last path offset bytes op_is call names last) is = absurd (subst IsWriter op_is is)

-- the write, fill or put at w, answered at y; the sync, close or put at s, answered ok at j; and a moment p after it
pub record Case (terms : Terms) (H : List Entry) (w y s j p : ℕ) (f : List ℕ) (i byte : ℕ) : Type 0 where
  pub laneW : ℕ
  pub opW : Op
  pub valueW : Value
  pub endW : Ended H laneW w opW y (answers.Done valueW)
  pub wrote : WritesIt terms H w y f opW
  pub has : byte_by opW i ≡ Some byte
  pub laneS : ℕ
  pub opS : Op
  pub valueS : Value
  pub endS : Ended H laneS s opS j (answers.Done valueS)
  pub saved : SavesIt terms H s j f opS
  pub first : (y < s) ⊎ (s ≡ w)
  pub by : y ≤ j
  pub past : j < p
  pub within : p ≤ length H

-- what is told of an operation at any moment
abbrev pub Has : List ℕ → Tale → Machine → Type 0
Has f t machine = (q : ℕ) (b : Pending) (o : List LaneFile) → JobHas (told f (Unit {0}) t) machine q b o

module _ (mt : Mounted) (terms : Terms) (setup : Setup) (H : List Entry) (w y s j p : ℕ) (f : List ℕ) (i byte : ℕ) where
  -- as it is first in flight at the moment `now`, in a step whose call has this xid; and from then on
  abbrev pub one : ℕ → ℕ → Family
  one next now = record {
    Fresh = λ k z. (z ≡ 0) ⊎ (z ≡ next);
    Since = λ k. (k ≡ 0) ⊎ (k ≡ now);
    Wrote = λ k v. ⊥;
    Made = λ k. ⊥;
  }

  abbrev pub SinceTwo : List Entry → ℕ → Type 0
  SinceTwo h k = (k ≤ length h) × (w < k) × WritesCarry H k (length h) f i byte

  abbrev pub two : List Entry → List (ℕ × Waiting Purpose) → Family
  two h calls = record {
    Fresh = λ k z. (z ≡ 0) ⊎ Fresh h k z;
    Since = SinceTwo h;
    Wrote = λ k v. Wrote f i byte h calls k v;
    Made = λ k. Made f i byte h k ⊎ MadeStable H k (suc j) f i byte;
  }

  -- what the sync, close or put settled
  abbrev pub SettledTwo : List Entry → Type 0
  SettledTwo h = (k : ℕ) × SinceTwo h k × MadeStable H k (suc j) f i byte

  -- how it ended: it settled the byte, or came over it, or is a put that saved another file
  abbrev pub CameIt : Type 0
  CameIt = Across terms.modes terms.origin H w s f i

  abbrev pub EndsIt : Type 0 → List Entry → View → Type 0
  EndsIt P h v = Ending CameIt P f h v s

  abbrev pub before : ℕ → Tale
  before x = record {
    T = λ n. Unit {0};
    X = Unit {0};
    A = Adding terms.modes terms.origin H w f i byte x;
    B = λ file. Saving_ terms.modes H x file × (x ≡ w → f ≢ file);
    Cut = Cutting terms.modes H f i x;
  }

  abbrev pub after : ℕ → ℕ → Type 0 → Tale
  after x n Q = record {
    T = λ upto. x ≡ s → n ≤ upto;
    X = x ≡ s → Q;
    A = λ file offset bytes. Adding terms.modes terms.origin H w f i byte x file offset bytes × (x ≢ w);
    B = Saving_ terms.modes H x;
    Cut = Cutting terms.modes H f i x;
  }

  abbrev pub ToldBefore : ℕ → ℕ → Machine → Op → Type 0
  ToldBefore number x machine op = (job_kind machine ≡ job_kind (machine_of mt number op)) × Has f (before x) machine

  abbrev pub ToldAfter : ℕ → Type 0 → ℕ → ℕ → Machine → Op → Type 0
  ToldAfter n Q number x machine op = (job_kind machine ≡ job_kind (machine_of mt number op)) × (x ≡ w → OwnAt (Names f n) (own_save machine)) × Has f (after x n Q) machine

  -- before its bytes came in
  pub record Early (h : List Entry) (v : View) : Type 0 where
    pub low : s ≢ w → length h ≤ s
    pub fate : Fate h v w (Apart f h v w)
    pub content : Common 0 v.shelf.seq v.shelf.back
    pub story : Story ToldBefore h v
    pub owned : Owned f v.lanes v.shelf.seq v.shelf.back v.shelf.order

  -- they are there, and were never in flight
  pub record IsUnsent (n : ℕ) (v : View) : Type 0 where
    pub common : Common 0 v.shelf.seq v.shelf.back
    pub low : n ≤ v.shelf.seq
    pub ready : Ready
    pub there : rest_at (of_file f v.shelf.back) i ≡ Some (record { byte = byte; number = n; state = Waits ready })

  -- What holds it back from being given up by a put: a slot or a close past its sync; or the put that wrote it, which is under way, unless it was refused, or E.
  abbrev pub GuardBy : ℕ → Type 0 → List Entry → View → Type 0
  GuardBy n E h v = IsGuarded n v f ⊎ (OfOp H w IsPut × Fate h v w E)

  -- that put is under way
  pub record PutRuns (h : List Entry) (v : View) : Type 0 where
    pub put : OfOp H w IsPut
    pub at : ℕ
    pub number : ℕ
    pub machine : Machine
    pub op : Op
    pub there : slice_get v.lanes at ≡ Some (record { number = number; state = Busy machine })
    pub under : UnderWay h number w (length h) op

  abbrev pub LiveBy : ℕ → List Entry → View → Type 0
  LiveBy n h v = IsGuarded n v f ⊎ PutRuns h v

  -- E: it was made stable
  pub record Since_ (Content : Type 0) (n : ℕ) (P E : Type 0) (h : List Entry) (v : View) : Type 0 where
    pub began : w < length h
    pub guard : GuardBy n E h v ⊎ E
    pub fate : Fate h v s (EndsIt P h v)
    pub content : Content
    pub story : Story (ToldAfter n (P ⊎ CameIt)) h v
    pub owned : Owned f v.lanes v.shelf.seq v.shelf.back v.shelf.order

  pub data Phase (h : List Entry) (v : View) : Type 0 where
    early : length h ≤ p → Early h v → Phase h v
    unsent : length h ≤ p → (n : ℕ) → Since_ (IsUnsent n v) n ⊥ ⊥ h v → Phase h v
    since : length h ≤ p → (n : ℕ) → Since_ (KnownBy (two h v.calls.calls) 0 f i byte n ⊥ v.shelf.seq v.shelf.back) n (SettledTwo h) (Evident (two h v.calls.calls)) h v → Phase h v
    touched : Touching terms.modes terms.origin H w s j p f i h v → Phase h v
    made : MadeAndKept H w (suc j) p f i byte → Phase h v

  pub record Stands (h : List Entry) (v : View) : Type 0 where
    pub guards : GuardsKnown terms.modes h v
    pub slot_w : (rest : List Entry) → h ++ rest ≡ H → HoldsSlot terms.modes H w f h v
    pub slot_s : (rest : List Entry) → h ++ rest ≡ H → HoldsSlot terms.modes H s f h v
    pub wholly : Wholly setup h v
    pub placed : Placed v
    pub places : PutPlaced v
    pub wsize : 1 ≤ v.wsize
    pub phase : (rest : List Entry) → h ++ rest ≡ H → Phase h v
