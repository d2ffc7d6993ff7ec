-- What is done with calls from the first on, and what becomes of each xid (RFC 5531, section 9).
use Rattle.std.specs.Prelude.{◌≡◌, ◌<◌, ◌≤◌, ◌+◌, ◌⊎◌, ℕ, List, [], ◌∷◌, ◌++◌, Bool, true, false, length, Option, Some, None, ◌==◌, if◌then◌else◌}
use Rattle.rpc_retry.specs.declared.waiting.Waiting.{Waiting}
use Rattle.rpc_retry.specs.declared.answers.Taken.{Taken}
use Rattle.rpc_retry.specs.declared.answers.Taken.TheVariants.{Dropped, Took}
use Rattle.rpc_retry.specs.Held.{Held, next_xid, KeepsSettings}
use Rattle.rpc_retry.specs.Waiting.{made_call, first_due, sent, waiting_at, without}
use Rattle.rpc_retry.specs.Fail.{after_failure}
use Rattle.rpc_retry.specs.Sound.{IsSound}

-- a call was made or sent with this record, the reply to one was taken, or the attempts that ran have failed
pub data Done : Type 0 where
  Making : (xid : ℕ) (bytes : List ℕ) → Done
  Sending : (xid : ℕ) (bytes : List ℕ) → Done
  Taking : (xid : ℕ) → Done
  Failing : Done

module _ {P : Type 0} where
  pub record DoesMake (old : Held P) (xid : ℕ) (bytes : List ℕ) (new : Held P) : Type 0 where
    pub purpose : P
    pub next : xid ≡ next_xid old
    pub settings : KeepsSettings old new
    pub made : new.made ≡ old.made + 1
    pub calls : new.calls ≡ old.calls ++ (xid, made_call bytes purpose) ∷ []

  pub record DoesSend (old : Held P) (xid : ℕ) (bytes : List ℕ) (new : Held P) : Type 0 where
    pub call : Waiting P
    pub oldest : first_due old.calls ≡ Some (xid, call)
    pub is : bytes ≡ call.bytes
    pub settings : KeepsSettings old new
    pub made : new.made ≡ old.made
    pub calls : new.calls ≡ sent old.calls

  pub record DoesTake (old : Held P) (xid : ℕ) (new : Held P) : Type 0 where
    pub call : Waiting P
    pub waits : waiting_at xid old.calls ≡ Some call
    pub settings : KeepsSettings old new
    pub made : new.made ≡ old.made
    pub calls : new.calls ≡ without xid old.calls

  pub record DoesFail (old new : Held P) : Type 0 where
    pub settings : KeepsSettings old new
    pub made : new.made ≡ old.made
    pub calls : new.calls ≡ after_failure old.calls

  abbrev pub Does : Held P → Done → Held P → Type 0
  Does old (Making xid bytes) new = DoesMake old xid bytes new
  Does old (Sending xid bytes) new = DoesSend old xid bytes new
  Does old (Taking xid) new = DoesTake old xid new
  Does old Failing new = DoesFail old new

  -- a record was given: whatever the calls then are as they are left, it was sent by that
  abbrev pub DoesGive : Held P → Option (List ℕ) → Type 0
  DoesGive old None = Unit {0}
  DoesGive old (Some bytes) = (xid : ℕ) × DoesSend old xid bytes (record old { calls = sent old.calls })

  -- a reply was taken
  abbrev pub DoesAnswer : Held P → Taken P → Held P → Type 0
  DoesAnswer old Dropped new = Unit {0}
  DoesAnswer old (Took xid purpose body) new = DoesTake old xid new

  -- from no calls, by what was done, the latest first
  abbrev pub Runs : List Done → Held P → Type 0
  Runs [] h = (h.made ≡ 0) × (h.calls ≡ [])
  Runs (d ∷ ds) h = (old : Held P) × (Runs ds old × IsSound old × Does old d h)

-- the records with which a call of this xid was made
abbrev pub made_records : ℕ → List Done → List (List ℕ)
made_records xid [] = []
made_records xid (Making other bytes ∷ ds) = if xid == other then bytes ∷ made_records xid ds else made_records xid ds
made_records xid (Sending other bytes ∷ ds) = made_records xid ds
made_records xid (Taking other ∷ ds) = made_records xid ds
made_records xid (Failing ∷ ds) = made_records xid ds

-- the records that were sent of it
abbrev pub sent_records : ℕ → List Done → List (List ℕ)
sent_records xid [] = []
sent_records xid (Making other bytes ∷ ds) = sent_records xid ds
sent_records xid (Sending other bytes ∷ ds) = if xid == other then bytes ∷ sent_records xid ds else sent_records xid ds
sent_records xid (Taking other ∷ ds) = sent_records xid ds
sent_records xid (Failing ∷ ds) = sent_records xid ds

-- how many times a reply to it was taken
abbrev pub times_taken : ℕ → List Done → ℕ
times_taken xid [] = 0
times_taken xid (Making other bytes ∷ ds) = times_taken xid ds
times_taken xid (Sending other bytes ∷ ds) = times_taken xid ds
times_taken xid (Taking other ∷ ds) = if xid == other then times_taken xid ds + 1 else times_taken xid ds
times_taken xid (Failing ∷ ds) = times_taken xid ds

-- each of the records is this one
abbrev pub AreAll : List ℕ → List (List ℕ) → Type 0
AreAll bytes [] = Unit {0}
AreAll bytes (b ∷ bs) = (b ≡ bytes) × AreAll bytes bs

-- whether it was sent since the attempts that ran have failed the last time
abbrev pub sent_since : ℕ → List Done → Bool
sent_since xid [] = false
sent_since xid (Making other bytes ∷ ds) = sent_since xid ds
sent_since xid (Sending other bytes ∷ ds) = if xid == other then true else sent_since xid ds
sent_since xid (Taking other ∷ ds) = sent_since xid ds
sent_since xid (Failing ∷ ds) = false

-- between two transmissions of it the attempts that ran have failed
abbrev pub FailsBetween : ℕ → List Done → Type 0
FailsBetween xid [] = Unit {0}
FailsBetween xid (Making other bytes ∷ ds) = FailsBetween xid ds
FailsBetween xid (Sending other bytes ∷ ds) = (other ≡ xid → sent_since xid ds ≡ false) × FailsBetween xid ds
FailsBetween xid (Taking other ∷ ds) = FailsBetween xid ds
FailsBetween xid (Failing ∷ ds) = FailsBetween xid ds

-- A call is sent again only after a failure. An attempt of one that waits runs exactly if it was sent since the last
-- failure.
pub record SentApart {P : Type 0} (ds : List Done) (h : Held P) (xid : ℕ) : Type 0 where
  pub apart : FailsBetween xid ds
  pub runs : (call : Waiting P) → waiting_at xid h.calls ≡ Some call → call.running ≡ sent_since xid ds

-- made once, sent so many times with the same record, and a reply taken so many times
pub record Went (ds : List Done) (xid : ℕ) (bytes : List ℕ) (attempts replies : ℕ) : Type 0 where
  pub made : made_records xid ds ≡ bytes ∷ []
  pub same : AreAll bytes (sent_records xid ds)
  pub sent : length (sent_records xid ds) ≡ attempts
  pub taken : times_taken xid ds ≡ replies

-- What became of an xid:
-- - it was never made; or
-- - it waits, was sent as often as its attempts count, always with the same record, and no reply to it was taken; or
-- - one reply was taken and it waits no more.
pub data Story {P : Type 0} (ds : List Done) (h : Held P) (xid : ℕ) : Type 0 where
  unmade : (xid < h.first_xid) ⊎ (next_xid h ≤ xid) → made_records xid ds ≡ [] → sent_records xid ds ≡ [] → times_taken xid ds ≡ 0 → Story ds h xid
  waits : (call : Waiting P) → waiting_at xid h.calls ≡ Some call → Went ds xid call.bytes call.attempts 0 → Story ds h xid
  taken : (bytes : List ℕ) (attempts : ℕ) → xid < next_xid h → waiting_at xid h.calls ≡ None → Went ds xid bytes attempts 1 → Story ds h xid
