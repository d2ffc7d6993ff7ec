-- Which calls are made again because the server was busy (RFC 1813, section 2.6, NFS3ERR_JUKEBOX), and how often each was made before.
use Rattle.std.specs.Prelude.{ℕ, ◌+◌, List, [], ◌∷◌, ◌++◌, length, nat_lt, if◌then◌else◌, ◌==◌, ◌&&◌, Bool, Option, slice_get, option_and_then, position, remove}
use Rattle.std.specs.Option.{option_map_or}
use Rattle.client_shelf.specs.declared.repeats.Repeat.{Repeat}

abbrev pub is_call : ℕ → Repeat → Bool
is_call xid repeat = repeat.xid == xid

-- the call under an xid, if it was made before
abbrev pub repeat_of : ℕ → List Repeat → Option Repeat
repeat_of xid repeats = option_and_then (λ at. slice_get repeats at) (position (is_call xid) repeats)

-- how often it was made before, under other xids
abbrev pub times_of : ℕ → List Repeat → ℕ
times_of xid repeats = option_map_or (λ repeat. repeat.times) (repeat_of xid repeats) 0

-- the call under an xid waits no more
abbrev pub ended : ℕ → List Repeat → List Repeat
ended xid repeats = option_map_or (λ at. remove repeats at) (position (is_call xid) repeats) repeats

-- A call is made again if it is to be, three times at most. There are places for the 32 calls that may wait.
abbrev pub may_repeat : Bool → ℕ → List Repeat → Bool
may_repeat again xid repeats = again && nat_lt (times_of xid repeats) 3 && nat_lt (length (ended xid repeats)) 32

-- it is made again under another xid
abbrev pub repeated : ℕ → ℕ → List Repeat → List Repeat
repeated xid to repeats = ended xid repeats ++ record { xid = to; times = times_of xid repeats + 1 } ∷ []

-- the call under an xid was answered, and is made again or not
abbrev pub answered : Bool → ℕ → ℕ → List Repeat → List Repeat
answered again xid to repeats = if again then repeated xid to repeats else ended xid repeats
