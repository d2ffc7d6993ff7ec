-- A disk in memory by its calls, the last one first: what a read gives, and which images a crash may leave.
use Rattle.std.specs.Prelude.{◌≡◌, ◌≤◌, ◌⊎◌, ℕ, List, [], ◌∷◌, ◌++◌, length, take, drop, replicate, ◌-◌, ◌+◌, ◌/◌, Vec}
use Rattle.std.specs.declared.alloc.Global.{Global}
use mathlib.Core.Logic.{inl, inr}
use Rattle.std.proofs.Common.{arith}
use Rattle.page_store.specs.Disk.{Torn}
use Rattle.page_store.specs.declared.mem_disk.DiskCall.{DiskCall}
use Rattle.page_store.specs.declared.mem_disk.DiskCall.TheVariants.{Wrote, Synced, Crashed}

-- with zeros behind, up to this length at least
abbrev pub padded : ℕ → List ℕ → List ℕ
padded n old = old ++ replicate (n - length old) 0

-- bytes over those from a place on, a gap before them filled with zeros
abbrev pub written : ℕ → List ℕ → List ℕ → List ℕ
written at bytes old = take at (padded (at + length bytes) old) ++ (bytes ++ drop (at + length bytes) (padded (at + length bytes) old))

-- what a read gives after a call
abbrev pub seen_after : DiskCall → List ℕ → List ℕ
seen_after (Wrote at bytes) old = written at bytes.items old
seen_after Synced old = old
seen_after (Crashed bytes) old = bytes.items

-- what a read gives after these calls
abbrev pub seen_by : List DiskCall → List ℕ
seen_by [] = []
seen_by (call ∷ past) = seen_after call (seen_by past)

-- What a crash may leave after them: what a read gives; or what it might have left before the last write, torn by it.
abbrev pub left_by : List DiskCall → List ℕ → Type 0
left_by [] c = c ≡ []
left_by (Wrote at bytes ∷ past) c = (c ≡ seen_by (Wrote at bytes ∷ past)) ⊎ ((d : List ℕ) × left_by past d × Torn at (length bytes.items) d c)
left_by (Synced ∷ past) c = c ≡ seen_by past
left_by (Crashed bytes ∷ past) c = c ≡ bytes.items

-- what one might have left after the first n of them, or later
abbrev pub left_from : ℕ → List DiskCall → List ℕ → Type 0
left_from n [] c = left_by [] c
left_from n (call ∷ past) c = left_by (call ∷ past) c ⊎ ((n ≤ length past) × left_from n past c)

-- what is left after a call where of each write since the last sync the first half is
abbrev pub torn_after : DiskCall → List ℕ → List ℕ → List ℕ
torn_after (Wrote at bytes) whole torn = written at (take (length bytes.items / 2) bytes.items) torn
torn_after Synced whole torn = whole
torn_after (Crashed bytes) whole torn = bytes.items

abbrev pub torn_by : List DiskCall → List ℕ
torn_by [] = []
torn_by (call ∷ past) = torn_after call (seen_by past) (torn_by past)

pub sees_one : (calls : List DiskCall) → left_by calls (seen_by calls)
sees_one [] = λ i. []
sees_one (Wrote at bytes ∷ past) = inl (λ i. seen_by (Wrote at bytes ∷ past))
sees_one (Synced ∷ past) = λ i. seen_by past
sees_one (Crashed bytes ∷ past) = λ i. bytes.items

pub since_now : (n : ℕ) (calls : List DiskCall) (c : List ℕ) → left_by calls c → left_from n calls c
since_now n [] c left = left
since_now n (call ∷ past) c left = inl left

pub now_only : (calls : List DiskCall) (c : List ℕ) → left_from (length calls) calls c → left_by calls c
now_only [] c left = left
now_only (call ∷ past) c (inl now) = now
now_only (call ∷ past) c (inr was) = let no_way : length (call ∷ past) ≤ length past = was.0 in absurd (omega arith)

-- a disk as its calls, the calls that are to fail, how many were made, and how often it failed
pub record MemView : Type 0 where
  pub calls : List DiskCall
  pub fails : List ℕ
  pub made : ℕ
  pub faults : ℕ

-- after a write that went in: the bytes are there, and it is the last call
pub record IsWritten (at : ℕ) (piece old new : List ℕ) (past calls : List DiskCall) : Type 0 where
  pub bytes : new ≡ written at piece old
  pub copy : Vec ℕ Global
  pub same : copy.items ≡ piece
  pub call : calls ≡ Wrote at copy ∷ past
