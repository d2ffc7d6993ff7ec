-- Changes of the segments of a file that stay where they are (RFC 1813, sections 3.3.7 and 4.8).
use Rattle.std.specs.Prelude.{ℕ, ◌+◌, Bool, false, ◌&&◌, not, nat_lt, nat_le, if◌then◌else◌, [], ◌∷◌, Option, Some, None}
use Rattle.nfs_types.specs.declared.verf.Verf.{Verf}
use Rattle.write_back.specs.declared.state.State.{State}
use Rattle.write_back.specs.declared.state.State.TheVariants.{Waiting, InFlight, Acked}
use Rattle.write_back.specs.declared.state.Ready.TheVariants.{Again, Refused}
use Rattle.write_back.specs.declared.change.Change.{Change}
use Rattle.write_back.specs.declared.change.Change.TheVariants as change
use Rattle.write_back.specs.States.{sent, answered, committed, same_verf, is_changed}
use Rattle.write_back.specs.Segments.{Segment, Segments, Cell, with_state}

-- What a change leaves of a segment with this number and state. None: the segment goes.
abbrev pub fate : Change → ℕ → State → Option State
fate change.Send number state = Some (sent state)
fate (change.Ack verf) number state = answered (λ _. Some (Acked verf)) state
fate change.Store number state = answered (λ _. None) state
fate change.Return number state = answered (λ ready. Some (Waiting ready)) state
fate (change.Refuse status) number state = answered (λ _. Some (Waiting (Refused status))) state
fate (change.Settle verf upto) number state = committed (λ held. if nat_le number upto && same_verf held verf then None else Some (Acked held)) state
fate (change.MarkAgain upto) number state = committed (λ held. if nat_le number upto then Some (Waiting Again) else Some (Acked held)) state
fate (change.Drop upto) number state = if nat_le number upto then None else Some state
fate change.Clear number state = None

-- whether the server has a segment under another verifier than this, with a number up to another
abbrev pub is_lost : Verf → ℕ → ℕ → State → Bool
is_lost verf upto number (Waiting ready) = false
is_lost verf upto number (InFlight ready) = false
is_lost verf upto number (Acked held) = nat_le number upto && not (same_verf held verf)

-- a segment with its new state, if it stays, before others
abbrev pub left_of : Option State → ℕ × Segment → Segments → Segments
left_of None e es = es
left_of (Some state) e es = (e.0, with_state state e.1) ∷ es

-- what is left of a segment by a change of the segments that begin from one place to another
abbrev pub fate_between : Change → ℕ → ℕ → ℕ × Segment → Option State
fate_between change low high e = if nat_le low e.0 && nat_lt e.0 high then fate change e.1.number e.1.state else Some e.1.state

-- the segments after such a change
abbrev pub changed : Change → ℕ → ℕ → Segments → Segments
changed change low high [] = []
changed change low high (e ∷ es) = left_of (fate_between change low high e) e (changed change low high es)

-- how many segments went or have another kind of state
abbrev pub count_changed : Change → ℕ → ℕ → Segments → ℕ
count_changed change low high [] = 0
count_changed change low high (e ∷ es) = (if is_changed e.1.state (fate_between change low high e) then 1 else 0) + count_changed change low high es

-- the same of a change of all segments
abbrev pub all_changed : Change → Segments → Segments
all_changed change [] = []
all_changed change (e ∷ es) = left_of (fate change e.1.number e.1.state) e (all_changed change es)

abbrev pub count_all_changed : Change → Segments → ℕ
count_all_changed change [] = 0
count_all_changed change (e ∷ es) = (if is_changed e.1.state (fate change e.1.number e.1.state) then 1 else 0) + count_all_changed change es

-- what is pending at a place, after a change of all segments
abbrev pub cell_left : Option State → Cell → Option Cell
cell_left None cell = None
cell_left (Some state) cell = Some (record { byte = cell.byte; number = cell.number; state = state })

abbrev pub cell_changed : Change → Option Cell → Option Cell
cell_changed change None = None
cell_changed change (Some cell) = cell_left (fate change cell.number cell.state) cell

-- how many segments the server has, of writes up to a number, under another verifier
abbrev pub lost : Verf → ℕ → Segments → ℕ
lost verf upto [] = 0
lost verf upto (e ∷ es) = (if is_lost verf upto e.1.number e.1.state then 1 else 0) + lost verf upto es
