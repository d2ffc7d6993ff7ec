-- What the bytes to come make of a record that is being put together.
use Rattle.std.specs.Prelude.{◌≡◌, ◌≤◌, ◌<◌, ◌+◌, ◌-◌, ◌%◌, ◌^◌, ℕ, zero, suc, List, [], ◌++◌, length, drop, Bool, nat_lt, if◌then◌else◌}
use Rattle.rpc_record.specs.declared.gather.Phase.{Phase}
use Rattle.rpc_record.specs.declared.gather.Phase.TheVariants.{Header, Body, Whole, Long}
use Rattle.rpc_record.specs.Limits.{Found, found, body}
use Rattle.rpc_record.specs.Limits as limits

-- the bytes of the record so far, those of a header that isn't whole, the fragments that may begin, and where it is
pub record Gathered : Type 0 where
  pub front : List ℕ
  pub header : List ℕ
  pub fragments : ℕ
  pub phase : Phase

-- before the first byte of a record
abbrev pub unbegun : Gathered
unbegun = record { front = []; header = []; fragments = 4096; phase = Header }

-- the parts fit each other: the limit was kept, and a fragment has bytes to come
abbrev pub IsGathered : Phase → List ℕ → List ℕ → Type 0
IsGathered Header front header = (length front ≤ 131072) × (length header < 4)
IsGathered (Body left more) front header = (length front + left ≤ 131072) × (0 < left) × (header ≡ [])
IsGathered Whole front header = header ≡ []
IsGathered Long front header = header ≡ []

-- it takes bytes
abbrev pub IsOpen : Phase → Type 0
IsOpen Header = Unit {0}
IsOpen (Body left more) = Unit {0}
IsOpen Whole = ⊥
IsOpen Long = ⊥

abbrev pub resumes_in : Phase → List ℕ → List ℕ → ℕ → List ℕ → Found
resumes_in Header front header fragments bytes = found fragments front (header ++ bytes)
resumes_in (Body left more) front header fragments bytes = body (found fragments) front left more bytes
resumes_in Whole front header fragments bytes = limits.Whole front bytes
resumes_in Long front header fragments bytes = limits.Long

-- what the record is with these bytes behind those that came
abbrev pub resumes : Gathered → List ℕ → Found
resumes g bytes = resumes_in g.phase g.front g.header g.fragments bytes

-- Bytes were taken from the front: whatever follows them, what comes of it stays the same.
pub record Advances (old new : Gathered) (bytes : List ℕ) (n : ℕ) : Type 0 where
  pub some : 0 < n
  pub fits : n ≤ length bytes
  pub same : (more : List ℕ) → resumes old (bytes ++ more) ≡ resumes new (drop n bytes ++ more)

-- after a header: its word, the bytes before it, and the fragments that may begin
abbrev pub ended : Bool → Phase
ended more = if more then Header else Whole

abbrev pub in_body : ℕ → Bool → Phase
in_body zero more = ended more
in_body (suc n) more = Body (suc n) more

abbrev pub begins : ℕ → ℕ → ℕ → Phase
begins word size zero = Long
begins word size (suc n) = if nat_lt 131072 (size + word % 2 ^ 31) then Long else in_body (word % 2 ^ 31) (nat_lt word (2 ^ 31))

-- after so many bytes of a fragment
abbrev pub goes_on : ℕ → Bool → ℕ → Phase
goes_on left more count = in_body (left - count) more
