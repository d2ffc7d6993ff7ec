-- What holds of a history and the core's view that goes with it, if each step of a lane and each entry keep it, as long as the session isn't lost; where
-- an operation takes what came, the record that was heard is known.
use Rattle.core_session.proofs.Prelude.{◌≡◌, ℕ, List, [], ◌∷◌, ◌++◌, false, Some, position, xid_at, Waiting, waiting_at, Answer, Entry, Began, Answered, Delivered, Op, said_of, Machine, Fits, Purpose, Setup, IsFresh, is_busy, IsIdle, Stirs, counted, StartsLane, TakesAt, AnswersAt, View, IsUnbegun, MaySetUp, IsSetUp, HearsRecord, Reaches, taken_one, Known, SameCalls}
use Rattle.core_session.proofs.drops.KnowingAlong.{IsPlain}
use Rattle.core_session.proofs.syncs.WatchingAlong.{KeepsWatching, reached-watching}

-- It holds of a fresh core; each step of a lane keeps it, also where an operation begins or a reply comes, each answer that is noted, and each
-- entry that leaves lanes, shelf and calls as they are.
pub record KeepsHearing (machine_of : ℕ → Op → Machine) (setup : Setup) (I : List Entry → View → Type 0) : Type 0 where
  pub fresh : (h : List Entry) (v : View) → MaySetUp setup → IsSetUp setup h → IsFresh setup v → I h v
  pub stirs : (h : List Entry) (old new : View) (at : ℕ) → Known setup h old → Stirs old at new → I h old → I h new
  pub starts : (h : List Entry) (old new : View) (lane line : ℕ) (op : Op) (now : ℕ) → Reaches machine_of setup h old → old.lost ≡ false → Known setup h old
      → IsIdle lane old.lanes → Fits (machine_of lane op) → StartsLane (counted old now) lane (machine_of lane op) new → I h old → I (h ++ Began lane line op ∷ []) new
  pub takes : (h : List Entry) (old new : View) (rec : List ℕ) (xid : ℕ) (call : Waiting Purpose) (at : ℕ) → Reaches machine_of setup h old → old.lost ≡ false
      → Known setup h old → (fin : View) → HearsRecord old rec fin → xid_at rec ≡ Some xid → waiting_at xid old.calls.calls ≡ Some call
      → position (is_busy call.purpose.lane) old.lanes ≡ Some at → TakesAt (taken_one old xid) at call.purpose.sent (said_of call.purpose.proc rec) new → I h old → I (h ++ Delivered rec ∷ []) new
  pub answers : (h : List Entry) (old new : View) (at lane line : ℕ) (answer : Answer) → Known setup h old → AnswersAt old at lane (Some answer) new → I h old
      → I (h ++ Answered lane line answer ∷ []) new
  pub same : (h : List Entry) (e : Entry) (old new : View) → IsPlain e → new.lanes ≡ old.lanes → new.shelf ≡ old.shelf → new.wsize ≡ old.wsize → SameCalls old.calls.calls new.calls.calls → I h old
      → I (h ++ e ∷ []) new

-- as laws of what is watched, which know more of each entry
pub of-hearing : (machine_of : ℕ → Op → Machine) (setup : Setup) (I : List Entry → View → Type 0) → KeepsHearing machine_of setup I → KeepsWatching machine_of setup I
of-hearing machine_of setup I k = record {
  fresh = k.fresh;
  stirs = k.stirs;
  starts = k.starts;
  takes = k.takes;
  answers = λ h old new at lane line answer r found known later still open_ answers i. k.answers h old new at lane line answer known answers i;
  same = λ h e old new r found known plain noted sent lanes shelf wsize calls i. k.same h e old new plain lanes shelf wsize calls i;
}

pub reached-hearing : (machine_of : ℕ → Op → Machine) → ((lane : ℕ) (op : Op) → IsUnbegun (machine_of lane op)) → (setup : Setup) (I : List Entry → View → Type 0)
    → KeepsHearing machine_of setup I → (h : List Entry) (v : View) → Reaches machine_of setup h v → v.lost ≡ false → I h v
reached-hearing machine_of unbegun setup I laws = reached-watching machine_of unbegun setup I (of-hearing machine_of setup I laws)
