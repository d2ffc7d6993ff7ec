-- One call, from its making to its reply: what the waiting calls hold of it, and what the history shows (RFC 5531, section 9).
use Rattle.std.specs.Prelude.{◌≡◌, ◌≢◌, ◌<◌, ◌≤◌, ◌+◌, ◌++◌, ℕ, zero, suc, Bool, true, false, List, [], ◌∷◌, length, Option, Some, None, Result, Ok, Err}
use Rattle.rpc_retry.specs.declared.waiting.Waiting.{Waiting}
use Rattle.rpc_retry.specs.Held.{Held, next_xid}
use Rattle.rpc_retry.specs.Waiting.{made_call}
use Rattle.outside.specs.declared.link.LinkFault.{LinkFault}
use Rattle.outside.specs.declared.link.LinkFault.TheVariants as faults
use Rattle.world_model.specs.declared.entry.Entry.{Entry}
use Rattle.world_model.specs.declared.entry.Entry.TheVariants.{Began, Answered, Sent, Delivered, Clock}
use Rattle.world_model.specs.declared.message.Call.{Call}
use Rattle.world_model.specs.Entries.{At}
use Rattle.world_model.specs.Heard.{Heard}
use Rattle.world_model.specs.Lost.{FailedAttempt, Loses}
use Rattle.world_model.specs.Messages.{HasXid, SpellsCall, SpellsCallBy}
use Rattle.world_model.specs.Mounts.{Origin}
use Rattle.world_model.specs.Rows.{DropRun, WasSent}
use Rattle.world_model.specs.Waiting.{FirstSent, Waits, Answers}
use Rattle.session_setup.specs.declared.exchange.Heard.{Heard as Outcome}
use Rattle.session_setup.specs.declared.exchange.Heard.TheVariants as heard
use Rattle.session_setup.specs.declared.stop.Stop.{Stop}
use Rattle.session_setup.specs.declared.stop.Stop.TheVariants as stops
use Rattle.session_setup.specs.Sendings.{SentSo, IsUnmarked, IsSetUpRecord, times_sent}

-- ---- connecting

-- an entry that neither sends nor brings a record, and that isn't noted
abbrev pub IsStill : Entry → Type 0
IsStill (Began lane line op) = ⊥
IsStill (Answered lane line answer) = ⊥
IsStill (Sent bytes) = ⊥
IsStill (Delivered bytes) = ⊥
IsStill (Clock ms) = ⊥
IsStill e = Unit {0}

abbrev pub AreStill : List Entry → Type 0
AreStill [] = Unit {0}
AreStill (e ∷ es) = IsStill e × AreStill es

abbrev pub IfLost : {T : Type 0} → Result T Stop → Type 0 → Type 0
IfLost (Ok v) F = Unit {0}
IfLost (Err stops.Lost) F = F
IfLost (Err stops.Memory) F = Unit {0}

-- Connecting sends and brings nothing. If the session is lost the history shows why.
pub record Connects (result : Result (Unit {0}) Stop) (h k : List Entry) : Type 0 where
  pub more : List Entry
  pub is : k ≡ h ++ more
  pub still : AreStill more
  pub lost : IfLost result (Loses k (length k))

-- ---- making a call

-- the next call was made, and is due
pub record Makes (call : Call) (old new : Held (Unit {0})) : Type 0 where
  pub bytes : List ℕ
  pub spells : SpellsCallBy old.cred (next_xid old) call bytes
  pub is : new ≡ record old { made = old.made + 1; calls = old.calls ++ (next_xid old, made_call bytes tt) ∷ [] }

-- ---- what the history shows of the calls

-- what was sent so far, and that nothing was noted
pub record IsBase (origin : Origin) (c : Held (Unit {0})) (h : List Entry) : Type 0 where
  pub sent : SentSo origin c.cred c.first_xid (next_xid c) h
  pub unmarked : IsUnmarked h

-- no call waits, and each xid was used
pub record IsIdle (origin : Origin) (c : Held (Unit {0})) (h : List Entry) : Type 0 where
  pub base : IsBase origin c h
  pub none : c.calls ≡ []
  pub idle : (y : ℕ) → Waits h y (length h) → ⊥
  pub each : (y : ℕ) → c.first_xid ≤ y → y < next_xid c → WasSent h y (length h)

-- The call under the xid x has the record r, which may be sent, and was sent so often. No other call waits, and the last dropped records
-- in a row are so many.
pub record Asks (origin : Origin) (x : ℕ) (r : List ℕ) (times dropped : ℕ) (c : Held (Unit {0})) (h : List Entry) : Type 0 where
  pub base : IsBase origin c h
  pub may : IsSetUpRecord origin c.cred c.first_xid h (length h) r
  pub under : HasXid r x
  pub low : c.first_xid ≤ x
  pub high : x < next_xid c
  pub mine : (i : ℕ) (b : List ℕ) → At h i (Sent b) → HasXid b x → b ≡ r
  pub others : (y : ℕ) → y ≢ x → Waits h y (length h) → ⊥
  pub each : (y : ℕ) → c.first_xid ≤ y → y < next_xid c → y ≢ x → WasSent h y (length h)
  pub times_is : times_sent x h ≡ times
  pub drops : DropRun h dropped (length h)

-- the record was first sent at the place from, and no record under its xid came since
pub record IsFirst (h : List Entry) (x : ℕ) (r : List ℕ) (from : ℕ) : Type 0 where
  pub sent : FirstSent h from x r
  pub silent : (j : ℕ) (b : List ℕ) → At h j (Delivered b) → HasXid b x → from < j → ⊥

-- so many attempts failed, one after the other, the first of them made at the place from
abbrev pub FailedSo : List Entry → ℕ → ℕ → ℕ → ℕ → Type 0
FailedSo h x zero from to = from ≡ to
FailedSo h x (suc n) from to = (at : ℕ) × FailedSo h x n from at × FailedAttempt h x at to

-- the call wasn't sent yet, or each attempt of it failed
pub data Tried (h : List Entry) (x : ℕ) (r : List ℕ) (n : ℕ) : Type 0 where
  untried : n ≡ 0 → ((i : ℕ) (b : List ℕ) → At h i (Sent b) → HasXid b x → ⊥) → Tried h x r n
  tried : (m from : ℕ) → n ≡ suc m → IsFirst h x r from → FailedSo h x n from (length h) → Tried h x r n

-- one attempt runs, after so many that failed
pub record Runs (h : List Entry) (x : ℕ) (r : List ℕ) (n : ℕ) : Type 0 where
  pub from : ℕ
  pub last : ℕ
  pub first : IsFirst h x r from
  pub at_last : At h last (Sent r)
  pub failed : FailedSo h x n from last

-- ---- the same with what the waiting calls hold

-- the one call that waits
abbrev pub one_call : ℕ → List ℕ → Bool → ℕ → Bool → List (ℕ × Waiting (Unit {0}))
one_call x r due attempts running = (x, record { bytes = r; purpose = tt; due = due; attempts = attempts; running = running }) ∷ []

-- the call is due, after so many attempts
pub record IsDue (origin : Origin) (x : ℕ) (r : List ℕ) (n dropped : ℕ) (c : Held (Unit {0})) (h : List Entry) : Type 0 where
  pub calls : c.calls ≡ one_call x r true n false
  pub few : n < 4
  pub asks : Asks origin x r n dropped c h
  pub tried : Tried h x r n

-- an attempt runs, after so many others
pub record IsRunning (origin : Origin) (x : ℕ) (r : List ℕ) (n dropped : ℕ) (c : Held (Unit {0})) (h : List Entry) : Type 0 where
  pub calls : c.calls ≡ one_call x r false (n + 1) true
  pub few : n < 4
  pub asks : Asks origin x r (n + 1) dropped c h
  pub runs : Runs h x r n

-- the attempt that ran has failed
pub record IsEnded (origin : Origin) (x : ℕ) (r : List ℕ) (n dropped : ℕ) (c : Held (Unit {0})) (h : List Entry) : Type 0 where
  pub calls : c.calls ≡ one_call x r false (n + 1) true
  pub few : n < 4
  pub asks : Asks origin x r (n + 1) dropped c h
  pub tried : Tried h x r (n + 1)

-- a record came in answer to the call
pub record IsAnswered (origin : Origin) (x : ℕ) (r bytes : List ℕ) (c : Held (Unit {0})) (h : List Entry) : Type 0 where
  pub idle : IsIdle origin c h
  pub under : HasXid bytes x
  pub heard : (call : Call) → SpellsCall x call r → Heard h 0 (length h) call x bytes

-- the session is lost while the call waits, which was sent
pub record IsLostCall (origin : Origin) (x : ℕ) (c : Held (Unit {0})) (h : List Entry) : Type 0 where
  pub base : IsBase origin c h
  pub loses : Loses h (length h)
  pub unanswered : (g : ℕ) (reply : List ℕ) → Answers h g x reply → ⊥
  pub was_sent : WasSent h x (length h)

-- ---- what each function leads to, if the call is due before

-- making the calls goes on so
pub record KeepsCalls (old new : Held (Unit {0})) : Type 0 where
  pub first_xid : new.first_xid ≡ old.first_xid
  pub limit : new.limit ≡ old.limit
  pub cred : new.cred ≡ old.cred
  pub made : new.made ≡ old.made

abbrev pub TransmitsTo : Origin → ℕ → List ℕ → ℕ → ℕ → Held (Unit {0}) → Result (Unit {0}) LinkFault → List Entry → Type 0
TransmitsTo origin x r n dropped c (Ok u) k = IsRunning origin x r n dropped c k
TransmitsTo origin x r n dropped c (Err faults.Failed) k = IsEnded origin x r n dropped c k
TransmitsTo origin x r n dropped c (Err faults.Memory) k = IsBase origin c k

abbrev pub Transmits : Held (Unit {0}) → Held (Unit {0}) → Result (Unit {0}) LinkFault → List Entry → List Entry → Type 0
Transmits old new result h k = (origin : Origin) (x : ℕ) (r : List ℕ) (n dropped : ℕ) → IsDue origin x r n dropped old h
    → TransmitsTo origin x r n dropped new result k

-- what an attempt comes to
abbrev pub HearsTo : Origin → ℕ → List ℕ → ℕ → ℕ → Held (Unit {0}) → Outcome → List Entry → Type 0
HearsTo origin x r n dropped c (heard.Reply bytes) k = IsAnswered origin x r bytes c k
HearsTo origin x r n dropped c heard.Silent k = IsEnded origin x r n dropped c k
HearsTo origin x r n dropped c heard.Failed k = IsEnded origin x r n dropped c k
HearsTo origin x r n dropped c heard.Lost k = IsLostCall origin x c k
HearsTo origin x r n dropped c heard.Memory k = IsBase origin c k

-- the same of one record: none means that it was dropped
abbrev pub HearsOneTo : Origin → ℕ → List ℕ → ℕ → ℕ → Held (Unit {0}) → Option Outcome → List Entry → Type 0
HearsOneTo origin x r n dropped c None k = IsRunning origin x r n (suc dropped) c k
HearsOneTo origin x r n dropped c (Some outcome) k = HearsTo origin x r n dropped c outcome k

abbrev pub HearsOne : Held (Unit {0}) → Held (Unit {0}) → Option Outcome → List Entry → List Entry → Type 0
HearsOne old new result h k = (origin : Origin) (x : ℕ) (r : List ℕ) (n dropped : ℕ) → IsRunning origin x r n dropped old h
    → HearsOneTo origin x r n dropped new result k

abbrev pub Awaits : Held (Unit {0}) → Held (Unit {0}) → ℕ → ℕ → Outcome → List Entry → List Entry → Type 0
Awaits old new before after result h k = (origin : Origin) (x : ℕ) (r : List ℕ) (n : ℕ) → IsRunning origin x r n before old h
    → HearsTo origin x r n after new result k

abbrev pub Attempts : Held (Unit {0}) → Held (Unit {0}) → ℕ → ℕ → Outcome → List Entry → List Entry → Type 0
Attempts old new before after result h k = (origin : Origin) (x : ℕ) (r : List ℕ) (n : ℕ) → IsDue origin x r n before old h
    → HearsTo origin x r n after new result k

-- after a failure the call is due again, or the session is lost
abbrev pub GoesOnTo : Origin → ℕ → List ℕ → ℕ → ℕ → Held (Unit {0}) → Result (Unit {0}) Stop → List Entry → Type 0
GoesOnTo origin x r n dropped c (Ok u) k = IsDue origin x r (n + 1) dropped c k
GoesOnTo origin x r n dropped c (Err stops.Lost) k = IsLostCall origin x c k
GoesOnTo origin x r n dropped c (Err stops.Memory) k = IsBase origin c k

abbrev pub EndsAttempt : Held (Unit {0}) → Held (Unit {0}) → Result (Unit {0}) Stop → List Entry → Type 0
EndsAttempt old new result h = (origin : Origin) (x : ℕ) (r : List ℕ) (n dropped : ℕ) → IsEnded origin x r n dropped old h
    → GoesOnTo origin x r n dropped new result h

abbrev pub GoesOn : Held (Unit {0}) → Held (Unit {0}) → Result (Unit {0}) Stop → List Entry → List Entry → Type 0
GoesOn old new result h k = (origin : Origin) (x : ℕ) (r : List ℕ) (n dropped : ℕ) → IsEnded origin x r n dropped old h
    → GoesOnTo origin x r n dropped new result k

-- one attempt, and what follows it
abbrev pub TriesTo : Origin → ℕ → List ℕ → ℕ → ℕ → Held (Unit {0}) → Result (Option (List ℕ)) Stop → List Entry → Type 0
TriesTo origin x r n dropped c (Ok None) k = IsDue origin x r (n + 1) dropped c k
TriesTo origin x r n dropped c (Ok (Some bytes)) k = IsAnswered origin x r bytes c k
TriesTo origin x r n dropped c (Err stops.Lost) k = IsLostCall origin x c k
TriesTo origin x r n dropped c (Err stops.Memory) k = IsBase origin c k

abbrev pub Tries : Held (Unit {0}) → Held (Unit {0}) → ℕ → ℕ → Result (Option (List ℕ)) Stop → List Entry → List Entry → Type 0
Tries old new before after result h k = (origin : Origin) (x : ℕ) (r : List ℕ) (n : ℕ) → IsDue origin x r n before old h
    → TriesTo origin x r n after new result k

abbrev pub ExchangesTo : Origin → ℕ → List ℕ → Held (Unit {0}) → Result (List ℕ) Stop → List Entry → Type 0
ExchangesTo origin x r c (Ok bytes) k = IsAnswered origin x r bytes c k
ExchangesTo origin x r c (Err stops.Lost) k = IsLostCall origin x c k
ExchangesTo origin x r c (Err stops.Memory) k = IsBase origin c k

-- the call that was just made is answered, or the session is lost, or memory ran out
abbrev pub Exchanges : Held (Unit {0}) → Held (Unit {0}) → Result (List ℕ) Stop → List Entry → List Entry → Type 0
Exchanges old new result h k = (origin : Origin) (x : ℕ) (r : List ℕ) → IsDue origin x r 0 0 old h → ExchangesTo origin x r new result k
