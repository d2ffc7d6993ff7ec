-- Which claim a history breaks first, and the fewest entries that break one.
use Rattle.std.specs.Prelude.{◌≡◌, ◌<◌, ◌≤◌, min, ℕ, Bool, false, Decides, List, [], length, take, Option, Some, None, MatchOption}
use Rattle.world_model.specs.declared.entry.Entry.{Entry}
use Rattle.world_model.specs.declared.entry.Entry.TheVariants.{Sent}
use Rattle.world_model.specs.Entries.{At}
use Rattle.world_model.specs.History.{History}
use Rattle.world_model.specs.Messages.{SpellsCall}
use Rattle.world_model.specs.Mounts.{Origin, Mounting, Given, mount_call}
use Rattle.claims.specs.Modes.{Modes}
use Rattle.claims.specs.ReadTrue.{ReadTrue, ReadShort}
use Rattle.claims.specs.Settled.{Settled}
use Rattle.trace_data.specs.declared.trace.Trace.{Trace}
use Rattle.trace_data.specs.Histories.{server_at, history_of}
use Rattle.trace_claims.specs.declared.beginnings.Broken.{Broken}
use Rattle.trace_claims.specs.declared.beginnings.Broken.TheVariants as brokens

-- ---- what the session is told

-- entry i sends MNT of the path (RFC 1813, section 5.2.1)
abbrev pub MountsAt : List Entry → ℕ → List ℕ → Type 0
MountsAt h i path = (bytes : List ℕ) × (xid : ℕ) × At h i (Sent bytes) × SpellsCall xid (mount_call path) bytes

-- the path of the first MNT that was sent; an empty one if none was
pub data FirstMount (h : List Entry) (path : List ℕ) : Type 0 where
  first : (i : ℕ) → MountsAt h i path → ((j : ℕ) (other : List ℕ) → MountsAt h j other → i ≤ j) → FirstMount h path
  none : ((j : ℕ) (other : List ℕ) → MountsAt h j other → ⊥) → path ≡ [] → FirstMount h path

-- where the session's root comes from: it is given, or the first MNT asks for it
pub data IsOrigin (t : Trace) (origin : Origin) : Type 0 where
  given : (root : List ℕ) → t.root ≡ Some root → origin ≡ Given root → IsOrigin t origin
  mounting : (path : List ℕ) → t.root ≡ None → FirstMount t.entries.items path → origin ≡ Mounting path → IsOrigin t origin

-- ---- the claims

-- the history of the first n entries
abbrev pub beginning_of : Trace → ℕ → History
beginning_of t n = record { entries = take n t.entries.items; at = server_at t }

-- bytes that were made stable stay, and reads show and end where they may
pub record KeepsClaims (m : Modes) (origin : Origin) (h : History) : Type 0 where
  pub settled : Settled m origin h
  pub read : ReadTrue m origin h
  pub short : ReadShort m origin h

-- the first claim that a history breaks
pub data BreaksClaim (m : Modes) (origin : Origin) (h : History) (broken : Broken) : Type 0 where
  loses : broken ≡ brokens.Settled → (Settled m origin h → ⊥) → BreaksClaim m origin h broken
  misreads : broken ≡ brokens.Read → Settled m origin h → (ReadTrue m origin h → ⊥) → BreaksClaim m origin h broken
  ends_early : broken ≡ brokens.Short → Settled m origin h → ReadTrue m origin h → (ReadShort m origin h → ⊥) → BreaksClaim m origin h broken

-- the first claim that the first n entries break, if they break one
abbrev pub JudgesBeginning : Modes → Origin → Trace → ℕ → Option Broken → Type 0
JudgesBeginning m origin t n found = MatchOption found (KeepsClaims m origin (beginning_of t n)) (BreaksClaim m origin (beginning_of t n))

-- each beginning of at most n entries keeps the claims
abbrev pub KeepsUpTo : Modes → Origin → Trace → ℕ → Type 0
KeepsUpTo m origin t n = (k : ℕ) → k ≤ n → KeepsClaims m origin (beginning_of t k)

-- so many entries, of at most so many, are the fewest that break a claim, and this is the first that they break
pub record BreaksAt (m : Modes) (origin : Origin) (t : Trace) (most n : ℕ) (broken : Broken) : Type 0 where
  pub some : 0 < n
  pub within : n ≤ most
  pub breaks : BreaksClaim m origin (beginning_of t n) broken
  pub least : (k : ℕ) → k < n → KeepsClaims m origin (beginning_of t k)

abbrev pub FindsFirst : Modes → Origin → Trace → ℕ → Option (ℕ × Broken) → Type 0
FindsFirst m origin t most found = MatchOption found (KeepsUpTo m origin t most) (λ f. BreaksAt m origin t most f.0 f.1)

-- ---- the limit

-- the lesser of a limit, if there is one, and a number of entries
abbrev pub most_of : Option ℕ → ℕ → ℕ
most_of None count = count
most_of (Some limit) count = min limit count

-- without a limit the whole keeps the claims; with one each beginning of at most so many entries does
abbrev pub Keeps : Modes → Origin → Trace → Option ℕ → Type 0
Keeps m origin t None = KeepsClaims m origin (history_of t)
Keeps m origin t (Some limit) = KeepsUpTo m origin t (min limit (length t.entries.items))

-- without a limit, whether the whole keeps the claims; with one the answer is no
abbrev pub KeepsWhole : Modes → Origin → Trace → Option ℕ → Bool → Type 0
KeepsWhole m origin t None b = Decides b (KeepsClaims m origin (history_of t))
KeepsWhole m origin t (Some limit) b = b ≡ false

-- so many entries are the fewest that break a claim, of beginnings up to the limit; and without a limit the whole breaks one, too
pub record BreaksWithin (m : Modes) (origin : Origin) (t : Trace) (limit : Option ℕ) (n : ℕ) (broken : Broken) : Type 0 where
  pub first : BreaksAt m origin t (most_of limit (length t.entries.items)) n broken
  pub whole : limit ≡ None → KeepsClaims m origin (history_of t) → ⊥

-- the fewest entries that break a claim, of beginnings up to the limit, and the first claim that they break
abbrev pub FirstOf : Modes → Origin → Trace → Option ℕ → Option (ℕ × Broken) → Type 0
FirstOf m origin t limit found = MatchOption found (Keeps m origin t limit) (λ f. BreaksWithin m origin t limit f.0 f.1)
