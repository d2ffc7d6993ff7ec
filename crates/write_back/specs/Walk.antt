-- How the segments of a file are walked, and how one of them is changed.
use Rattle.std.specs.Prelude.{ℕ, ◌-◌, ◌&&◌, nat_lt, nat_le, if◌then◌else◌, cond, [], ◌∷◌, Bool, true, false, Option, Some, None}
use Rattle.std.specs.Ordering.{nat_cmp}
use Rattle.std.specs.Option.{option_map}
use Rattle.std.specs.Map.{lookup, remove_entry}
use Rattle.std.specs.BTreeMap.{is_at, insert_entry}
use Rattle.write_back.specs.declared.state.State.{State}
use Rattle.write_back.specs.Segments.{Segment, Segments, head_of, tail_of, end_of, with_state, split, split_flying}

-- the segment that begins at a place
abbrev pub at_place : ℕ → Segments → Option Segment
at_place place es = lookup (is_at (nat_cmp place)) es

-- whether a place lies between two others, the second left out
abbrev pub between : ℕ → ℕ → ℕ → Bool
between low high place = nat_le low place && nat_lt place high

-- the first segment that begins from one place to another
abbrev pub first_between : ℕ → ℕ → Segments → Option (ℕ × Segment)
first_between low high [] = None
first_between low high (e ∷ es) = if nat_le low e.0 && nat_lt e.0 high then Some e else first_between low high es

-- the last segment that begins before a place
abbrev pub or_else : Option (ℕ × Segment) → Option (ℕ × Segment) → Option (ℕ × Segment)
or_else None other = other
or_else (Some e) other = Some e

abbrev pub last_before : ℕ → Segments → Option (ℕ × Segment)
last_before place [] = None
last_before place (e ∷ es) = or_else (last_before place es) (if nat_lt e.0 place then Some e else None)

-- the segment that begins before a place and goes on past it
abbrev pub passing : ℕ → Segments → Option (ℕ × Segment)
passing place [] = None
passing place (e ∷ es) = if nat_lt e.0 place && nat_lt place (end_of e) then Some e else passing place es

-- where it begins, if its number is at most another
abbrev pub key_upto : ℕ → Option (ℕ × Segment) → Option ℕ
key_upto upto None = None
key_upto upto (Some e) = if nat_le e.1.number upto then Some e.0 else None

abbrev pub passing_upto : ℕ → ℕ → Segments → Option ℕ
passing_upto place upto es = key_upto upto (passing place es)

-- what it has from there on
abbrev pub tail_past : ℕ → Segments → Option Segment
tail_past place es = option_map (λ e. tail_of (place - e.0) e.1) (passing place es)

-- with a segment at a place, over the one that begins there
abbrev pub laid : ℕ → Segment → Segments → Segments
laid at segment es = insert_entry nat_cmp es at segment

abbrev pub laid_tail : ℕ → Option Segment → Segments → Segments
laid_tail at None es = es
laid_tail at (Some segment) es = laid at segment es

-- without the segment that begins at a place
abbrev pub taken_out : ℕ → Segments → Segments
taken_out at es = remove_entry (is_at (nat_cmp at)) es

-- the segment that begins at a place is changed
abbrev pub edited_if : (ℕ → Bool) → (Segment → Segment) → Segments → Segments
edited_if test f [] = []
edited_if test f (e ∷ es) = cond (test e.0) ((e.0, f e.1) ∷ es) (e ∷ edited_if test f es)

-- it has another state
abbrev pub turned : ℕ → State → Segments → Segments
turned at state es = edited_if (is_at (nat_cmp at)) (with_state state) es

-- it keeps its first bytes alone
abbrev pub shortened : ℕ → ℕ → Segments → Segments
shortened at len es = edited_if (is_at (nat_cmp at)) (head_of len) es

-- the segment that begins at a place, if one is named, ends at another
abbrev pub ended_at : Option ℕ → ℕ → Segments → Segments
ended_at None place es = es
ended_at (Some at) place es = shortened at (place - at) es

-- what is left of the segment that begins at a place
abbrev pub left_at : ℕ → Option State → Segments → Segments
left_at at None es = taken_out at es
left_at at (Some state) es = turned at state es

-- without the segments that begin from one place to another
abbrev pub without_between : ℕ → ℕ → Segments → Segments
without_between low high [] = []
without_between low high (e ∷ es) = if nat_le low e.0 && nat_lt e.0 high then without_between low high es else e ∷ without_between low high es

-- the first segment from a place on that passes a test
abbrev pub first_that : (ℕ × Segment → Bool) → ℕ → Segments → Option (ℕ × Segment)
first_that test from [] = None
first_that test from (e ∷ es) = if nat_le from e.0 && test e then Some e else first_that test from es

-- cut at a place, of what is in flight alone or of all
abbrev pub split_as : Bool → ℕ → Segments → Segments
split_as true place es = split_flying place es
split_as false place es = split place es

-- the segments that begin from one place to another
abbrev pub starting : ℕ → ℕ → Segments → Segments
starting low high [] = []
starting low high (e ∷ es) = if nat_le low e.0 && nat_lt e.0 high then e ∷ starting low high es else starting low high es

-- the segments that begin at a place or after it
abbrev pub begun_from : ℕ → Segments → Segments
begun_from place [] = []
begun_from place (e ∷ es) = if nat_le place e.0 then e ∷ begun_from place es else begun_from place es

abbrev pub one_of : Option (ℕ × Segment) → Segments
one_of None = []
one_of (Some e) = e ∷ []

-- what is left of the walk from the first segment that begins at a place or after it
abbrev pub from_key : ℕ → Segments → Segments
from_key place [] = []
from_key place (e ∷ es) = if nat_lt e.0 place then from_key place es else e ∷ es
