-- What holds, at each moment of a history, of a byte that a write, fill or put wrote, as long as nothing settles it or touches it.
use Rattle.core_session.proofs.Prelude.{◌≡◌, ◌≢◌, ◌≤◌, ◌<◌, ◌⊎◌, ℕ, Bool, false, List, ◌++◌, length, Some, slice_get, Waiting, Value, Entry, Op, Ended, UnderWay, Terms, Pending, of_file, rest_at, LaneFile, Mounted, Machine, machine_of, Purpose, Setup, View, Placed, MadeStable, byte_by, IsGuarded, WritesCarry, Busy}
use Rattle.world_model.specs.declared.answer.Answer.TheVariants as answers
use Rattle.write_back.specs.declared.state.State.TheVariants.{Waiting as Waits}
use Rattle.write_back.specs.declared.state.Ready.{Ready}
use Rattle.core_session.proofs.saves.WholeSteps.{Wholly}
use Rattle.core_session.proofs.drops.Along.{GuardsKnown}
use Rattle.core_session.proofs.syncs.AllJobs.{JobHas}
use Rattle.core_session.proofs.syncs.Aparts.{Apart}
use Rattle.core_session.proofs.syncs.Causes.{IsPut, OfOp, Adding, Saving_, Cutting}
use Rattle.core_session.proofs.syncs.Contents.{Common}
use Rattle.core_session.proofs.syncs.Fate.{Fate, Story}
use Rattle.core_session.proofs.syncs.Fates.{job_kind}
use Rattle.core_session.proofs.syncs.Looks.{Touching}
use Rattle.core_session.proofs.syncs.Passing.{Tale, told}
use Rattle.core_session.proofs.syncs.Phases.{Family, KnownBy, Evident}
use Rattle.core_session.proofs.syncs.PutGoes.{OwnAt, Names, own_save}
use Rattle.core_session.proofs.syncs.Seen.{Owned}
use Rattle.core_session.proofs.syncs.Showings.{Fresh, Wrote, Made}
use Rattle.core_session.proofs.syncs.SlotHeld.{HoldsSlot}
use Rattle.core_session.proofs.syncs.Stands.{WritesIt}
use Rattle.core_session.proofs.syncs.PutPlaced.{PutPlaced}

-- the write, fill or put at w, which went well at y; and a moment p up to which it is followed
pub record Case (terms : Terms) (H : List Entry) (w y p : ℕ) (f : List ℕ) (i byte : ℕ) : Type 0 where
  pub laneW : ℕ
  pub opW : Op
  pub valueW : Value
  pub endW : Ended H laneW w opW y (answers.Done valueW)
  pub wrote : WritesIt terms H w y f opW
  pub has : byte_by opW i ≡ Some byte
  pub within : p ≤ length H

-- Where it is followed from a moment at which it was stable, that is known.
pub data Fated (sure : Bool) (P : Type 0) : Type 0 where
  unsure : sure ≡ false → Fated sure P
  surely : P → Fated sure P

pub fated-map : (sure : Bool) (P Q : Type 0) → (P → Q) → Fated sure P → Fated sure Q
fated-map sure P Q conv (unsure is) = unsure is
fated-map sure P Q conv (surely p) = surely (conv p)

-- what is told of an operation at any moment
abbrev pub Has : List ℕ → Tale → Machine → Type 0
Has f t machine = (q : ℕ) (b : Pending) (o : List LaneFile) → JobHas (told f (Unit {0}) t) machine q b o

module _ (mt : Mounted) (terms : Terms) (setup : Setup) (H : List Entry) (w y : ℕ) (sure : Bool) (due p : ℕ) (f : List ℕ) (i byte : ℕ) where
  -- as it is first in flight at the moment `now`, in a step whose call has this xid; and from then on
  abbrev pub one : ℕ → ℕ → Family
  one next now = record {
    Fresh = λ k z. (z ≡ 0) ⊎ (z ≡ next);
    Since = λ k. (k ≡ 0) ⊎ (k ≡ now);
    Wrote = λ k v. ⊥;
    Made = λ k. ⊥;
  }

  abbrev pub SinceTwo : List Entry → ℕ → Type 0
  SinceTwo h k = (k ≤ length h) × (w < k) × WritesCarry H k (length h) f i byte

  abbrev pub two : List Entry → List (ℕ × Waiting Purpose) → Family
  two h calls = record {
    Fresh = λ k z. (z ≡ 0) ⊎ Fresh h k z;
    Since = SinceTwo h;
    Wrote = λ k v. Wrote f i byte h calls k v;
    Made = λ k. Made f i byte h k;
  }

  -- it was made stable by the moment `due`
  abbrev pub StableTwo : List Entry → Type 0
  StableTwo h = (k : ℕ) × SinceTwo h k × MadeStable H k due f i byte

  abbrev pub before : ℕ → Tale
  before x = record {
    T = λ n. Unit {0};
    X = Unit {0};
    A = Adding terms.modes terms.origin H w f i byte x;
    B = λ file. Saving_ terms.modes H x file × (x ≡ w → f ≢ file);
    Cut = Cutting terms.modes H f i x;
  }

  -- no operation begins at the history's end
  abbrev pub after : ℕ → ℕ → Tale
  after x n = record {
    T = λ upto. x ≡ length H → n ≤ upto;
    X = x ≡ length H → ⊥;
    A = λ file offset bytes. Adding terms.modes terms.origin H w f i byte x file offset bytes × (x ≢ w);
    B = Saving_ terms.modes H x;
    Cut = Cutting terms.modes H f i x;
  }

  abbrev pub ToldBefore : ℕ → ℕ → Machine → Op → Type 0
  ToldBefore number x machine op = (job_kind machine ≡ job_kind (machine_of mt number op)) × Has f (before x) machine

  abbrev pub ToldAfter : ℕ → ℕ → ℕ → Machine → Op → Type 0
  ToldAfter n number x machine op = (job_kind machine ≡ job_kind (machine_of mt number op)) × (x ≡ w → OwnAt (Names f n) (own_save machine)) × Has f (after x n) machine

  -- before its bytes came in
  pub record Early (h : List Entry) (v : View) : Type 0 where
    pub fated : Fated sure ⊥
    pub fate : Fate h v w (Apart f h v w)
    pub content : Common 0 v.shelf.seq v.shelf.back
    pub story : Story ToldBefore h v
    pub owned : Owned f v.lanes v.shelf.seq v.shelf.back v.shelf.order

  -- they are there, and were never in flight
  pub record IsUnsent (n : ℕ) (v : View) : Type 0 where
    pub common : Common 0 v.shelf.seq v.shelf.back
    pub low : n ≤ v.shelf.seq
    pub ready : Ready
    pub there : rest_at (of_file f v.shelf.back) i ≡ Some (record { byte = byte; number = n; state = Waits ready })

  -- What holds it back from being given up by a put: a slot or a close past its sync; or the put that wrote it, which is under way, unless it was refused, or E.
  abbrev pub GuardBy : ℕ → Type 0 → List Entry → View → Type 0
  GuardBy n E h v = IsGuarded n v f ⊎ (OfOp H w IsPut × Fate h v w E)

  -- that put is under way
  pub record PutRuns (h : List Entry) (v : View) : Type 0 where
    pub put : OfOp H w IsPut
    pub at : ℕ
    pub number : ℕ
    pub machine : Machine
    pub op : Op
    pub there : slice_get v.lanes at ≡ Some (record { number = number; state = Busy machine })
    pub under : UnderWay h number w (length h) op

  abbrev pub LiveBy : ℕ → List Entry → View → Type 0
  LiveBy n h v = IsGuarded n v f ⊎ PutRuns h v

  -- P: it was made stable in time; E: it was made stable
  pub record Since_ (Content : Type 0) (n : ℕ) (P E : Type 0) (h : List Entry) (v : View) : Type 0 where
    pub began : w < length h
    pub guard : GuardBy n E h v ⊎ E
    pub fate : Fated sure P
    pub content : Content
    pub story : Story (ToldAfter n) h v
    pub owned : Owned f v.lanes v.shelf.seq v.shelf.back v.shelf.order

  pub data Phase (h : List Entry) (v : View) : Type 0 where
    early : length h ≤ p → Early h v → Phase h v
    unsent : length h ≤ p → (n : ℕ) → Since_ (IsUnsent n v) n ⊥ ⊥ h v → Phase h v
    since : length h ≤ p → (n : ℕ) → Since_ (KnownBy (two h v.calls.calls) 0 f i byte n ⊥ v.shelf.seq v.shelf.back) n (StableTwo h) (Evident (two h v.calls.calls)) h v → Phase h v
    touched : Touching terms.modes terms.origin H w (length H) p p f i h v → Phase h v
    past : p < length h → Phase h v

  pub record Stands (h : List Entry) (v : View) : Type 0 where
    pub guards : GuardsKnown terms.modes h v
    pub slot_w : (rest : List Entry) → h ++ rest ≡ H → HoldsSlot terms.modes H w f h v
    pub wholly : Wholly setup h v
    pub placed : Placed v
    pub places : PutPlaced v
    pub wsize : 1 ≤ v.wsize
    pub phase : (rest : List Entry) → h ++ rest ≡ H → Phase h v
