-- Rows by hand: what each call makes of the pending bytes of a file (RFC 1813, sections 3.3.7 and 4.8). A dot is a place with no
-- pending byte, a small letter a byte that isn't on the server, and a capital one that the server has, not yet stable.
use Rattle.std.proofs.Common.{◌≡◌, ℕ, ◌+◌, ◌-◌, Bool, true, false, List, [], ◌∷◌, ◌++◌, length, map, take, drop, Option, Some, None, zero, suc, refl}
use Rattle.std.specs.Prelude.{nat_le, nat_lt, nat_eq, if◌then◌else◌}
use Rattle.nfs_types.specs.declared.verf.Verf.{Verf}
use Rattle.write_back.specs.declared.state.State.{State}
use Rattle.write_back.specs.declared.state.State.TheVariants.{Waiting, InFlight, Acked}
use Rattle.write_back.specs.declared.change.Change.{Change}
use Rattle.write_back.specs.declared.change.Change.TheVariants as by
use Rattle.write_back.specs.Segments.{Segments, Cell, cell_at, shown, last_end}
use Rattle.write_back.specs.Changes.{count_all_changed}
use Rattle.write_back.specs.Pieces.{Sent, FilePending, nothing, pending_of, piece_under, rest_at}
use Rattle.write_back.specs.Choice.{chosen, piece_of, with_sent}
use Rattle.write_back.specs.Landing.{landed, landed_part, at_xid, acked_by, with_change, with_cut, with_xid}
use Rattle.write_back.specs.Files.{with_bytes}

abbrev dot : ℕ
dot = 46

abbrev pub a : ℕ
a = 97

abbrev b : ℕ
b = 98

abbrev c : ℕ
c = 99

abbrev A : ℕ
A = 65

-- what may be done: so many numbers after the last one may be sent, of at most so many bytes
data Step : Type 0 where
  Add : ℕ → ℕ → List ℕ → Step
  Send : ℕ → ℕ → ℕ → Step
  Ack : ℕ → ℕ → ℕ → Step
  Refuse : ℕ → ℕ → Step
  Return : ℕ → Step
  Renumber : ℕ → ℕ → Step
  Cut : ℕ → ℕ → Step

-- with a verifier of the server
module _ (first : Verf) where
  abbrev sent : ℕ → Segments → FilePending → FilePending
  sent xid [] of = of
  sent xid (e ∷ es) of = with_sent (piece_of xid e (e ∷ es)) of

  abbrev step : FilePending → Step → FilePending
  step of (Add number offset bytes) = with_bytes offset bytes number of
  step of (Send xid upto wsize) = sent xid (chosen upto wsize of) of
  step of (Ack xid count committed) = at_xid (landed_part (acked_by committed first) count) xid of
  step of (Refuse xid status) = at_xid (landed (by.Refuse status)) xid of
  step of (Return xid) = at_xid (landed by.Return) xid of
  step of (Renumber xid to) = with_xid xid to of
  step of (Cut size upto) = with_cut size upto of

  abbrev does : FilePending → List Step → FilePending
  does of [] = of
  does of (s ∷ more) = does (step of s) more

  -- the letter of a byte with what became of it
  abbrev letter_of : State → ℕ → ℕ
  letter_of (Waiting ready) byte = byte
  letter_of (InFlight ready) byte = byte
  letter_of (Acked verf) byte = byte - 32

  abbrev letter : Option Cell → ℕ
  letter None = dot
  letter (Some cell) = letter_of cell.state cell.byte

  -- the letters of so many places from one on
  abbrev letters : ℕ → ℕ → Segments → List ℕ
  letters zero place es = []
  letters (suc n) place es = letter (cell_at es place) ∷ letters n (place + 1) es

  abbrev pieces_from : ℕ → FilePending → Segments → List (ℕ × List ℕ) → List (ℕ × List ℕ)
  pieces_from xid of [] more = []
  pieces_from xid of (e ∷ es) more = (e.0, (piece_of xid e (e ∷ es)).bytes) ∷ more

  -- which pieces may be sent, one after the other, each of which becomes stable
  abbrev offered : ℕ → FilePending → List (ℕ × List ℕ)
  offered zero of = []
  offered (suc n) of = pieces_from 8 of (chosen 100 512 of) (offered n (does of (Send 8 100 512 ∷ Ack 8 512 2 ∷ [])))

  abbrev piece_bytes : Option Sent → List ℕ
  piece_bytes None = []
  piece_bytes (Some piece) = piece.bytes

  -- `aaaa` at 4 is in flight under 7
  abbrev flying : FilePending
  flying = does nothing (Add 1 4 (a ∷ a ∷ a ∷ a ∷ []) ∷ Send 7 1 512 ∷ [])

  abbrev replies : List Step
  replies = Ack 7 0 0 ∷ Ack 7 1 0 ∷ Ack 7 2 0 ∷ Ack 7 3 0 ∷ Ack 7 4 0 ∷ Ack 7 5 0 ∷ Ack 7 0 2 ∷ Ack 7 1 1 ∷ Ack 7 2 2 ∷ Ack 7 3 1 ∷ Ack 7 4 2 ∷ Ack 7 5 1 ∷ Refuse 7 28 ∷ Return 7 ∷ []

  -- the twelve places after each of them
  abbrev replied : FilePending → List (List ℕ)
  replied of = map (λ s. letters 12 0 (step of s).segments) replies

  -- ---- newer bytes before the piece
  abbrev before : FilePending
  before = does flying (Add 2 0 (b ∷ b ∷ b ∷ b ∷ []) ∷ [])

  before_shown : letters 12 0 before.segments ≡ b ∷ b ∷ b ∷ b ∷ a ∷ a ∷ a ∷ a ∷ dot ∷ dot ∷ dot ∷ dot ∷ []
  before_shown = refl

  before_pending : pending_of before ≡ 8
  before_pending = refl

  before_end : last_end before.segments ≡ Some 8
  before_end = refl

  before_offered : offered 3 before ≡ (0, b ∷ b ∷ b ∷ b ∷ []) ∷ []
  before_offered = refl

  before_replied : replied before ≡ (b ∷ b ∷ b ∷ b ∷ a ∷ a ∷ a ∷ a ∷ dot ∷ dot ∷ dot ∷ dot ∷ []) ∷ (b ∷ b ∷ b ∷ b ∷ A ∷ a ∷ a ∷ a ∷ dot ∷ dot ∷ dot ∷ dot ∷ []) ∷ (b ∷ b ∷ b ∷ b ∷ A ∷ A ∷ a ∷ a ∷ dot ∷ dot ∷ dot ∷ dot ∷ []) ∷ (b ∷ b ∷ b ∷ b ∷ A ∷ A ∷ A ∷ a ∷ dot ∷ dot ∷ dot ∷ dot ∷ []) ∷ (b ∷ b ∷ b ∷ b ∷ A ∷ A ∷ A ∷ A ∷ dot ∷ dot ∷ dot ∷ dot ∷ []) ∷ (b ∷ b ∷ b ∷ b ∷ A ∷ A ∷ A ∷ A ∷ dot ∷ dot ∷ dot ∷ dot ∷ []) ∷ (b ∷ b ∷ b ∷ b ∷ a ∷ a ∷ a ∷ a ∷ dot ∷ dot ∷ dot ∷ dot ∷ []) ∷ (b ∷ b ∷ b ∷ b ∷ dot ∷ a ∷ a ∷ a ∷ dot ∷ dot ∷ dot ∷ dot ∷ []) ∷ (b ∷ b ∷ b ∷ b ∷ dot ∷ dot ∷ a ∷ a ∷ dot ∷ dot ∷ dot ∷ dot ∷ []) ∷ (b ∷ b ∷ b ∷ b ∷ dot ∷ dot ∷ dot ∷ a ∷ dot ∷ dot ∷ dot ∷ dot ∷ []) ∷ (b ∷ b ∷ b ∷ b ∷ dot ∷ dot ∷ dot ∷ dot ∷ dot ∷ dot ∷ dot ∷ dot ∷ []) ∷ (b ∷ b ∷ b ∷ b ∷ dot ∷ dot ∷ dot ∷ dot ∷ dot ∷ dot ∷ dot ∷ dot ∷ []) ∷ (b ∷ b ∷ b ∷ b ∷ a ∷ a ∷ a ∷ a ∷ dot ∷ dot ∷ dot ∷ dot ∷ []) ∷ (b ∷ b ∷ b ∷ b ∷ a ∷ a ∷ a ∷ a ∷ dot ∷ dot ∷ dot ∷ dot ∷ []) ∷ []
  before_replied = refl

  before_left : map (λ s. pending_of (step before s)) replies ≡ 8 ∷ 8 ∷ 8 ∷ 8 ∷ 8 ∷ 8 ∷ 8 ∷ 7 ∷ 6 ∷ 5 ∷ 4 ∷ 4 ∷ 8 ∷ 8 ∷ []
  before_left = refl

  before_goes : map (λ s. offered 3 (step before s)) replies ≡ ((0, b ∷ b ∷ b ∷ b ∷ a ∷ a ∷ a ∷ a ∷ []) ∷ []) ∷ ((0, b ∷ b ∷ b ∷ b ∷ []) ∷ (5, a ∷ a ∷ a ∷ []) ∷ []) ∷ ((0, b ∷ b ∷ b ∷ b ∷ []) ∷ (6, a ∷ a ∷ []) ∷ []) ∷ ((0, b ∷ b ∷ b ∷ b ∷ []) ∷ (7, a ∷ []) ∷ []) ∷ ((0, b ∷ b ∷ b ∷ b ∷ []) ∷ []) ∷ ((0, b ∷ b ∷ b ∷ b ∷ []) ∷ []) ∷ ((0, b ∷ b ∷ b ∷ b ∷ a ∷ a ∷ a ∷ a ∷ []) ∷ []) ∷ ((0, b ∷ b ∷ b ∷ b ∷ []) ∷ (5, a ∷ a ∷ a ∷ []) ∷ []) ∷ ((0, b ∷ b ∷ b ∷ b ∷ []) ∷ (6, a ∷ a ∷ []) ∷ []) ∷ ((0, b ∷ b ∷ b ∷ b ∷ []) ∷ (7, a ∷ []) ∷ []) ∷ ((0, b ∷ b ∷ b ∷ b ∷ []) ∷ []) ∷ ((0, b ∷ b ∷ b ∷ b ∷ []) ∷ []) ∷ ((0, b ∷ b ∷ b ∷ b ∷ a ∷ a ∷ a ∷ a ∷ []) ∷ []) ∷ ((0, b ∷ b ∷ b ∷ b ∷ a ∷ a ∷ a ∷ a ∷ []) ∷ []) ∷ []
  before_goes = refl

  -- ---- newer bytes after it
  abbrev after : FilePending
  after = does flying (Add 2 8 (b ∷ b ∷ b ∷ b ∷ []) ∷ [])

  after_shown : letters 12 0 after.segments ≡ dot ∷ dot ∷ dot ∷ dot ∷ a ∷ a ∷ a ∷ a ∷ b ∷ b ∷ b ∷ b ∷ []
  after_shown = refl

  after_pending : pending_of after ≡ 8
  after_pending = refl

  after_end : last_end after.segments ≡ Some 12
  after_end = refl

  after_offered : offered 3 after ≡ (8, b ∷ b ∷ b ∷ b ∷ []) ∷ []
  after_offered = refl

  after_replied : replied after ≡ (dot ∷ dot ∷ dot ∷ dot ∷ a ∷ a ∷ a ∷ a ∷ b ∷ b ∷ b ∷ b ∷ []) ∷ (dot ∷ dot ∷ dot ∷ dot ∷ A ∷ a ∷ a ∷ a ∷ b ∷ b ∷ b ∷ b ∷ []) ∷ (dot ∷ dot ∷ dot ∷ dot ∷ A ∷ A ∷ a ∷ a ∷ b ∷ b ∷ b ∷ b ∷ []) ∷ (dot ∷ dot ∷ dot ∷ dot ∷ A ∷ A ∷ A ∷ a ∷ b ∷ b ∷ b ∷ b ∷ []) ∷ (dot ∷ dot ∷ dot ∷ dot ∷ A ∷ A ∷ A ∷ A ∷ b ∷ b ∷ b ∷ b ∷ []) ∷ (dot ∷ dot ∷ dot ∷ dot ∷ A ∷ A ∷ A ∷ A ∷ b ∷ b ∷ b ∷ b ∷ []) ∷ (dot ∷ dot ∷ dot ∷ dot ∷ a ∷ a ∷ a ∷ a ∷ b ∷ b ∷ b ∷ b ∷ []) ∷ (dot ∷ dot ∷ dot ∷ dot ∷ dot ∷ a ∷ a ∷ a ∷ b ∷ b ∷ b ∷ b ∷ []) ∷ (dot ∷ dot ∷ dot ∷ dot ∷ dot ∷ dot ∷ a ∷ a ∷ b ∷ b ∷ b ∷ b ∷ []) ∷ (dot ∷ dot ∷ dot ∷ dot ∷ dot ∷ dot ∷ dot ∷ a ∷ b ∷ b ∷ b ∷ b ∷ []) ∷ (dot ∷ dot ∷ dot ∷ dot ∷ dot ∷ dot ∷ dot ∷ dot ∷ b ∷ b ∷ b ∷ b ∷ []) ∷ (dot ∷ dot ∷ dot ∷ dot ∷ dot ∷ dot ∷ dot ∷ dot ∷ b ∷ b ∷ b ∷ b ∷ []) ∷ (dot ∷ dot ∷ dot ∷ dot ∷ a ∷ a ∷ a ∷ a ∷ b ∷ b ∷ b ∷ b ∷ []) ∷ (dot ∷ dot ∷ dot ∷ dot ∷ a ∷ a ∷ a ∷ a ∷ b ∷ b ∷ b ∷ b ∷ []) ∷ []
  after_replied = refl

  after_left : map (λ s. pending_of (step after s)) replies ≡ 8 ∷ 8 ∷ 8 ∷ 8 ∷ 8 ∷ 8 ∷ 8 ∷ 7 ∷ 6 ∷ 5 ∷ 4 ∷ 4 ∷ 8 ∷ 8 ∷ []
  after_left = refl

  after_goes : map (λ s. offered 3 (step after s)) replies ≡ ((4, a ∷ a ∷ a ∷ a ∷ b ∷ b ∷ b ∷ b ∷ []) ∷ []) ∷ ((5, a ∷ a ∷ a ∷ b ∷ b ∷ b ∷ b ∷ []) ∷ []) ∷ ((6, a ∷ a ∷ b ∷ b ∷ b ∷ b ∷ []) ∷ []) ∷ ((7, a ∷ b ∷ b ∷ b ∷ b ∷ []) ∷ []) ∷ ((8, b ∷ b ∷ b ∷ b ∷ []) ∷ []) ∷ ((8, b ∷ b ∷ b ∷ b ∷ []) ∷ []) ∷ ((4, a ∷ a ∷ a ∷ a ∷ b ∷ b ∷ b ∷ b ∷ []) ∷ []) ∷ ((5, a ∷ a ∷ a ∷ b ∷ b ∷ b ∷ b ∷ []) ∷ []) ∷ ((6, a ∷ a ∷ b ∷ b ∷ b ∷ b ∷ []) ∷ []) ∷ ((7, a ∷ b ∷ b ∷ b ∷ b ∷ []) ∷ []) ∷ ((8, b ∷ b ∷ b ∷ b ∷ []) ∷ []) ∷ ((8, b ∷ b ∷ b ∷ b ∷ []) ∷ []) ∷ ((4, a ∷ a ∷ a ∷ a ∷ b ∷ b ∷ b ∷ b ∷ []) ∷ []) ∷ ((4, a ∷ a ∷ a ∷ a ∷ b ∷ b ∷ b ∷ b ∷ []) ∷ []) ∷ []
  after_goes = refl

  -- ---- newer bytes over its front
  abbrev front : FilePending
  front = does flying (Add 2 2 (b ∷ b ∷ b ∷ b ∷ []) ∷ [])

  front_shown : letters 12 0 front.segments ≡ dot ∷ dot ∷ b ∷ b ∷ b ∷ b ∷ a ∷ a ∷ dot ∷ dot ∷ dot ∷ dot ∷ []
  front_shown = refl

  front_pending : pending_of front ≡ 8
  front_pending = refl

  front_end : last_end front.segments ≡ Some 8
  front_end = refl

  front_offered : offered 3 front ≡ []
  front_offered = refl

  front_replied : replied front ≡ (dot ∷ dot ∷ b ∷ b ∷ b ∷ b ∷ a ∷ a ∷ dot ∷ dot ∷ dot ∷ dot ∷ []) ∷ (dot ∷ dot ∷ b ∷ b ∷ b ∷ b ∷ a ∷ a ∷ dot ∷ dot ∷ dot ∷ dot ∷ []) ∷ (dot ∷ dot ∷ b ∷ b ∷ b ∷ b ∷ a ∷ a ∷ dot ∷ dot ∷ dot ∷ dot ∷ []) ∷ (dot ∷ dot ∷ b ∷ b ∷ b ∷ b ∷ A ∷ a ∷ dot ∷ dot ∷ dot ∷ dot ∷ []) ∷ (dot ∷ dot ∷ b ∷ b ∷ b ∷ b ∷ A ∷ A ∷ dot ∷ dot ∷ dot ∷ dot ∷ []) ∷ (dot ∷ dot ∷ b ∷ b ∷ b ∷ b ∷ A ∷ A ∷ dot ∷ dot ∷ dot ∷ dot ∷ []) ∷ (dot ∷ dot ∷ b ∷ b ∷ b ∷ b ∷ a ∷ a ∷ dot ∷ dot ∷ dot ∷ dot ∷ []) ∷ (dot ∷ dot ∷ b ∷ b ∷ b ∷ b ∷ a ∷ a ∷ dot ∷ dot ∷ dot ∷ dot ∷ []) ∷ (dot ∷ dot ∷ b ∷ b ∷ b ∷ b ∷ a ∷ a ∷ dot ∷ dot ∷ dot ∷ dot ∷ []) ∷ (dot ∷ dot ∷ b ∷ b ∷ b ∷ b ∷ dot ∷ a ∷ dot ∷ dot ∷ dot ∷ dot ∷ []) ∷ (dot ∷ dot ∷ b ∷ b ∷ b ∷ b ∷ dot ∷ dot ∷ dot ∷ dot ∷ dot ∷ dot ∷ []) ∷ (dot ∷ dot ∷ b ∷ b ∷ b ∷ b ∷ dot ∷ dot ∷ dot ∷ dot ∷ dot ∷ dot ∷ []) ∷ (dot ∷ dot ∷ b ∷ b ∷ b ∷ b ∷ a ∷ a ∷ dot ∷ dot ∷ dot ∷ dot ∷ []) ∷ (dot ∷ dot ∷ b ∷ b ∷ b ∷ b ∷ a ∷ a ∷ dot ∷ dot ∷ dot ∷ dot ∷ []) ∷ []
  front_replied = refl

  front_left : map (λ s. pending_of (step front s)) replies ≡ 6 ∷ 6 ∷ 6 ∷ 6 ∷ 6 ∷ 6 ∷ 6 ∷ 6 ∷ 6 ∷ 5 ∷ 4 ∷ 4 ∷ 6 ∷ 6 ∷ []
  front_left = refl

  front_goes : map (λ s. offered 3 (step front s)) replies ≡ ((2, b ∷ b ∷ b ∷ b ∷ a ∷ a ∷ []) ∷ []) ∷ ((2, b ∷ b ∷ b ∷ b ∷ a ∷ a ∷ []) ∷ []) ∷ ((2, b ∷ b ∷ b ∷ b ∷ a ∷ a ∷ []) ∷ []) ∷ ((2, b ∷ b ∷ b ∷ b ∷ []) ∷ (7, a ∷ []) ∷ []) ∷ ((2, b ∷ b ∷ b ∷ b ∷ []) ∷ []) ∷ ((2, b ∷ b ∷ b ∷ b ∷ []) ∷ []) ∷ ((2, b ∷ b ∷ b ∷ b ∷ a ∷ a ∷ []) ∷ []) ∷ ((2, b ∷ b ∷ b ∷ b ∷ a ∷ a ∷ []) ∷ []) ∷ ((2, b ∷ b ∷ b ∷ b ∷ a ∷ a ∷ []) ∷ []) ∷ ((2, b ∷ b ∷ b ∷ b ∷ []) ∷ (7, a ∷ []) ∷ []) ∷ ((2, b ∷ b ∷ b ∷ b ∷ []) ∷ []) ∷ ((2, b ∷ b ∷ b ∷ b ∷ []) ∷ []) ∷ ((2, b ∷ b ∷ b ∷ b ∷ a ∷ a ∷ []) ∷ []) ∷ ((2, b ∷ b ∷ b ∷ b ∷ a ∷ a ∷ []) ∷ []) ∷ []
  front_goes = refl

  -- ---- newer bytes over its rear
  abbrev rear : FilePending
  rear = does flying (Add 2 6 (b ∷ b ∷ b ∷ b ∷ []) ∷ [])

  rear_shown : letters 12 0 rear.segments ≡ dot ∷ dot ∷ dot ∷ dot ∷ a ∷ a ∷ b ∷ b ∷ b ∷ b ∷ dot ∷ dot ∷ []
  rear_shown = refl

  rear_pending : pending_of rear ≡ 8
  rear_pending = refl

  rear_end : last_end rear.segments ≡ Some 10
  rear_end = refl

  rear_offered : offered 3 rear ≡ []
  rear_offered = refl

  rear_replied : replied rear ≡ (dot ∷ dot ∷ dot ∷ dot ∷ a ∷ a ∷ b ∷ b ∷ b ∷ b ∷ dot ∷ dot ∷ []) ∷ (dot ∷ dot ∷ dot ∷ dot ∷ A ∷ a ∷ b ∷ b ∷ b ∷ b ∷ dot ∷ dot ∷ []) ∷ (dot ∷ dot ∷ dot ∷ dot ∷ A ∷ A ∷ b ∷ b ∷ b ∷ b ∷ dot ∷ dot ∷ []) ∷ (dot ∷ dot ∷ dot ∷ dot ∷ A ∷ A ∷ b ∷ b ∷ b ∷ b ∷ dot ∷ dot ∷ []) ∷ (dot ∷ dot ∷ dot ∷ dot ∷ A ∷ A ∷ b ∷ b ∷ b ∷ b ∷ dot ∷ dot ∷ []) ∷ (dot ∷ dot ∷ dot ∷ dot ∷ A ∷ A ∷ b ∷ b ∷ b ∷ b ∷ dot ∷ dot ∷ []) ∷ (dot ∷ dot ∷ dot ∷ dot ∷ a ∷ a ∷ b ∷ b ∷ b ∷ b ∷ dot ∷ dot ∷ []) ∷ (dot ∷ dot ∷ dot ∷ dot ∷ dot ∷ a ∷ b ∷ b ∷ b ∷ b ∷ dot ∷ dot ∷ []) ∷ (dot ∷ dot ∷ dot ∷ dot ∷ dot ∷ dot ∷ b ∷ b ∷ b ∷ b ∷ dot ∷ dot ∷ []) ∷ (dot ∷ dot ∷ dot ∷ dot ∷ dot ∷ dot ∷ b ∷ b ∷ b ∷ b ∷ dot ∷ dot ∷ []) ∷ (dot ∷ dot ∷ dot ∷ dot ∷ dot ∷ dot ∷ b ∷ b ∷ b ∷ b ∷ dot ∷ dot ∷ []) ∷ (dot ∷ dot ∷ dot ∷ dot ∷ dot ∷ dot ∷ b ∷ b ∷ b ∷ b ∷ dot ∷ dot ∷ []) ∷ (dot ∷ dot ∷ dot ∷ dot ∷ a ∷ a ∷ b ∷ b ∷ b ∷ b ∷ dot ∷ dot ∷ []) ∷ (dot ∷ dot ∷ dot ∷ dot ∷ a ∷ a ∷ b ∷ b ∷ b ∷ b ∷ dot ∷ dot ∷ []) ∷ []
  rear_replied = refl

  rear_left : map (λ s. pending_of (step rear s)) replies ≡ 6 ∷ 6 ∷ 6 ∷ 6 ∷ 6 ∷ 6 ∷ 6 ∷ 5 ∷ 4 ∷ 4 ∷ 4 ∷ 4 ∷ 6 ∷ 6 ∷ []
  rear_left = refl

  rear_goes : map (λ s. offered 3 (step rear s)) replies ≡ ((4, a ∷ a ∷ b ∷ b ∷ b ∷ b ∷ []) ∷ []) ∷ ((5, a ∷ b ∷ b ∷ b ∷ b ∷ []) ∷ []) ∷ ((6, b ∷ b ∷ b ∷ b ∷ []) ∷ []) ∷ ((6, b ∷ b ∷ b ∷ b ∷ []) ∷ []) ∷ ((6, b ∷ b ∷ b ∷ b ∷ []) ∷ []) ∷ ((6, b ∷ b ∷ b ∷ b ∷ []) ∷ []) ∷ ((4, a ∷ a ∷ b ∷ b ∷ b ∷ b ∷ []) ∷ []) ∷ ((5, a ∷ b ∷ b ∷ b ∷ b ∷ []) ∷ []) ∷ ((6, b ∷ b ∷ b ∷ b ∷ []) ∷ []) ∷ ((6, b ∷ b ∷ b ∷ b ∷ []) ∷ []) ∷ ((6, b ∷ b ∷ b ∷ b ∷ []) ∷ []) ∷ ((6, b ∷ b ∷ b ∷ b ∷ []) ∷ []) ∷ ((4, a ∷ a ∷ b ∷ b ∷ b ∷ b ∷ []) ∷ []) ∷ ((4, a ∷ a ∷ b ∷ b ∷ b ∷ b ∷ []) ∷ []) ∷ []
  rear_goes = refl

  -- ---- newer bytes inside
  abbrev inside : FilePending
  inside = does flying (Add 2 5 (b ∷ b ∷ []) ∷ [])

  inside_shown : letters 12 0 inside.segments ≡ dot ∷ dot ∷ dot ∷ dot ∷ a ∷ b ∷ b ∷ a ∷ dot ∷ dot ∷ dot ∷ dot ∷ []
  inside_shown = refl

  inside_pending : pending_of inside ≡ 6
  inside_pending = refl

  inside_end : last_end inside.segments ≡ Some 8
  inside_end = refl

  inside_offered : offered 3 inside ≡ []
  inside_offered = refl

  inside_replied : replied inside ≡ (dot ∷ dot ∷ dot ∷ dot ∷ a ∷ b ∷ b ∷ a ∷ dot ∷ dot ∷ dot ∷ dot ∷ []) ∷ (dot ∷ dot ∷ dot ∷ dot ∷ A ∷ b ∷ b ∷ a ∷ dot ∷ dot ∷ dot ∷ dot ∷ []) ∷ (dot ∷ dot ∷ dot ∷ dot ∷ A ∷ b ∷ b ∷ a ∷ dot ∷ dot ∷ dot ∷ dot ∷ []) ∷ (dot ∷ dot ∷ dot ∷ dot ∷ A ∷ b ∷ b ∷ a ∷ dot ∷ dot ∷ dot ∷ dot ∷ []) ∷ (dot ∷ dot ∷ dot ∷ dot ∷ A ∷ b ∷ b ∷ A ∷ dot ∷ dot ∷ dot ∷ dot ∷ []) ∷ (dot ∷ dot ∷ dot ∷ dot ∷ A ∷ b ∷ b ∷ A ∷ dot ∷ dot ∷ dot ∷ dot ∷ []) ∷ (dot ∷ dot ∷ dot ∷ dot ∷ a ∷ b ∷ b ∷ a ∷ dot ∷ dot ∷ dot ∷ dot ∷ []) ∷ (dot ∷ dot ∷ dot ∷ dot ∷ dot ∷ b ∷ b ∷ a ∷ dot ∷ dot ∷ dot ∷ dot ∷ []) ∷ (dot ∷ dot ∷ dot ∷ dot ∷ dot ∷ b ∷ b ∷ a ∷ dot ∷ dot ∷ dot ∷ dot ∷ []) ∷ (dot ∷ dot ∷ dot ∷ dot ∷ dot ∷ b ∷ b ∷ a ∷ dot ∷ dot ∷ dot ∷ dot ∷ []) ∷ (dot ∷ dot ∷ dot ∷ dot ∷ dot ∷ b ∷ b ∷ dot ∷ dot ∷ dot ∷ dot ∷ dot ∷ []) ∷ (dot ∷ dot ∷ dot ∷ dot ∷ dot ∷ b ∷ b ∷ dot ∷ dot ∷ dot ∷ dot ∷ dot ∷ []) ∷ (dot ∷ dot ∷ dot ∷ dot ∷ a ∷ b ∷ b ∷ a ∷ dot ∷ dot ∷ dot ∷ dot ∷ []) ∷ (dot ∷ dot ∷ dot ∷ dot ∷ a ∷ b ∷ b ∷ a ∷ dot ∷ dot ∷ dot ∷ dot ∷ []) ∷ []
  inside_replied = refl

  inside_left : map (λ s. pending_of (step inside s)) replies ≡ 4 ∷ 4 ∷ 4 ∷ 4 ∷ 4 ∷ 4 ∷ 4 ∷ 3 ∷ 3 ∷ 3 ∷ 2 ∷ 2 ∷ 4 ∷ 4 ∷ []
  inside_left = refl

  inside_goes : map (λ s. offered 3 (step inside s)) replies ≡ ((4, a ∷ b ∷ b ∷ a ∷ []) ∷ []) ∷ ((5, b ∷ b ∷ a ∷ []) ∷ []) ∷ ((5, b ∷ b ∷ a ∷ []) ∷ []) ∷ ((5, b ∷ b ∷ a ∷ []) ∷ []) ∷ ((5, b ∷ b ∷ []) ∷ []) ∷ ((5, b ∷ b ∷ []) ∷ []) ∷ ((4, a ∷ b ∷ b ∷ a ∷ []) ∷ []) ∷ ((5, b ∷ b ∷ a ∷ []) ∷ []) ∷ ((5, b ∷ b ∷ a ∷ []) ∷ []) ∷ ((5, b ∷ b ∷ a ∷ []) ∷ []) ∷ ((5, b ∷ b ∷ []) ∷ []) ∷ ((5, b ∷ b ∷ []) ∷ []) ∷ ((4, a ∷ b ∷ b ∷ a ∷ []) ∷ []) ∷ ((4, a ∷ b ∷ b ∷ a ∷ []) ∷ []) ∷ []
  inside_goes = refl

  -- ---- newer bytes over all of it
  abbrev all : FilePending
  all = does flying (Add 2 4 (b ∷ b ∷ b ∷ b ∷ []) ∷ [])

  all_shown : letters 12 0 all.segments ≡ dot ∷ dot ∷ dot ∷ dot ∷ b ∷ b ∷ b ∷ b ∷ dot ∷ dot ∷ dot ∷ dot ∷ []
  all_shown = refl

  all_pending : pending_of all ≡ 8
  all_pending = refl

  all_end : last_end all.segments ≡ Some 8
  all_end = refl

  all_offered : offered 3 all ≡ []
  all_offered = refl

  all_replied : replied all ≡ (dot ∷ dot ∷ dot ∷ dot ∷ b ∷ b ∷ b ∷ b ∷ dot ∷ dot ∷ dot ∷ dot ∷ []) ∷ (dot ∷ dot ∷ dot ∷ dot ∷ b ∷ b ∷ b ∷ b ∷ dot ∷ dot ∷ dot ∷ dot ∷ []) ∷ (dot ∷ dot ∷ dot ∷ dot ∷ b ∷ b ∷ b ∷ b ∷ dot ∷ dot ∷ dot ∷ dot ∷ []) ∷ (dot ∷ dot ∷ dot ∷ dot ∷ b ∷ b ∷ b ∷ b ∷ dot ∷ dot ∷ dot ∷ dot ∷ []) ∷ (dot ∷ dot ∷ dot ∷ dot ∷ b ∷ b ∷ b ∷ b ∷ dot ∷ dot ∷ dot ∷ dot ∷ []) ∷ (dot ∷ dot ∷ dot ∷ dot ∷ b ∷ b ∷ b ∷ b ∷ dot ∷ dot ∷ dot ∷ dot ∷ []) ∷ (dot ∷ dot ∷ dot ∷ dot ∷ b ∷ b ∷ b ∷ b ∷ dot ∷ dot ∷ dot ∷ dot ∷ []) ∷ (dot ∷ dot ∷ dot ∷ dot ∷ b ∷ b ∷ b ∷ b ∷ dot ∷ dot ∷ dot ∷ dot ∷ []) ∷ (dot ∷ dot ∷ dot ∷ dot ∷ b ∷ b ∷ b ∷ b ∷ dot ∷ dot ∷ dot ∷ dot ∷ []) ∷ (dot ∷ dot ∷ dot ∷ dot ∷ b ∷ b ∷ b ∷ b ∷ dot ∷ dot ∷ dot ∷ dot ∷ []) ∷ (dot ∷ dot ∷ dot ∷ dot ∷ b ∷ b ∷ b ∷ b ∷ dot ∷ dot ∷ dot ∷ dot ∷ []) ∷ (dot ∷ dot ∷ dot ∷ dot ∷ b ∷ b ∷ b ∷ b ∷ dot ∷ dot ∷ dot ∷ dot ∷ []) ∷ (dot ∷ dot ∷ dot ∷ dot ∷ b ∷ b ∷ b ∷ b ∷ dot ∷ dot ∷ dot ∷ dot ∷ []) ∷ (dot ∷ dot ∷ dot ∷ dot ∷ b ∷ b ∷ b ∷ b ∷ dot ∷ dot ∷ dot ∷ dot ∷ []) ∷ []
  all_replied = refl

  all_left : map (λ s. pending_of (step all s)) replies ≡ 4 ∷ 4 ∷ 4 ∷ 4 ∷ 4 ∷ 4 ∷ 4 ∷ 4 ∷ 4 ∷ 4 ∷ 4 ∷ 4 ∷ 4 ∷ 4 ∷ []
  all_left = refl

  all_goes : map (λ s. offered 3 (step all s)) replies ≡ ((4, b ∷ b ∷ b ∷ b ∷ []) ∷ []) ∷ ((4, b ∷ b ∷ b ∷ b ∷ []) ∷ []) ∷ ((4, b ∷ b ∷ b ∷ b ∷ []) ∷ []) ∷ ((4, b ∷ b ∷ b ∷ b ∷ []) ∷ []) ∷ ((4, b ∷ b ∷ b ∷ b ∷ []) ∷ []) ∷ ((4, b ∷ b ∷ b ∷ b ∷ []) ∷ []) ∷ ((4, b ∷ b ∷ b ∷ b ∷ []) ∷ []) ∷ ((4, b ∷ b ∷ b ∷ b ∷ []) ∷ []) ∷ ((4, b ∷ b ∷ b ∷ b ∷ []) ∷ []) ∷ ((4, b ∷ b ∷ b ∷ b ∷ []) ∷ []) ∷ ((4, b ∷ b ∷ b ∷ b ∷ []) ∷ []) ∷ ((4, b ∷ b ∷ b ∷ b ∷ []) ∷ []) ∷ ((4, b ∷ b ∷ b ∷ b ∷ []) ∷ []) ∷ ((4, b ∷ b ∷ b ∷ b ∷ []) ∷ []) ∷ []
  all_goes = refl

  -- ---- newer bytes across both ends
  abbrev both : FilePending
  both = does flying (Add 2 3 (b ∷ b ∷ b ∷ b ∷ b ∷ b ∷ []) ∷ [])

  both_shown : letters 12 0 both.segments ≡ dot ∷ dot ∷ dot ∷ b ∷ b ∷ b ∷ b ∷ b ∷ b ∷ dot ∷ dot ∷ dot ∷ []
  both_shown = refl

  both_pending : pending_of both ≡ 10
  both_pending = refl

  both_end : last_end both.segments ≡ Some 9
  both_end = refl

  both_offered : offered 3 both ≡ []
  both_offered = refl

  both_replied : replied both ≡ (dot ∷ dot ∷ dot ∷ b ∷ b ∷ b ∷ b ∷ b ∷ b ∷ dot ∷ dot ∷ dot ∷ []) ∷ (dot ∷ dot ∷ dot ∷ b ∷ b ∷ b ∷ b ∷ b ∷ b ∷ dot ∷ dot ∷ dot ∷ []) ∷ (dot ∷ dot ∷ dot ∷ b ∷ b ∷ b ∷ b ∷ b ∷ b ∷ dot ∷ dot ∷ dot ∷ []) ∷ (dot ∷ dot ∷ dot ∷ b ∷ b ∷ b ∷ b ∷ b ∷ b ∷ dot ∷ dot ∷ dot ∷ []) ∷ (dot ∷ dot ∷ dot ∷ b ∷ b ∷ b ∷ b ∷ b ∷ b ∷ dot ∷ dot ∷ dot ∷ []) ∷ (dot ∷ dot ∷ dot ∷ b ∷ b ∷ b ∷ b ∷ b ∷ b ∷ dot ∷ dot ∷ dot ∷ []) ∷ (dot ∷ dot ∷ dot ∷ b ∷ b ∷ b ∷ b ∷ b ∷ b ∷ dot ∷ dot ∷ dot ∷ []) ∷ (dot ∷ dot ∷ dot ∷ b ∷ b ∷ b ∷ b ∷ b ∷ b ∷ dot ∷ dot ∷ dot ∷ []) ∷ (dot ∷ dot ∷ dot ∷ b ∷ b ∷ b ∷ b ∷ b ∷ b ∷ dot ∷ dot ∷ dot ∷ []) ∷ (dot ∷ dot ∷ dot ∷ b ∷ b ∷ b ∷ b ∷ b ∷ b ∷ dot ∷ dot ∷ dot ∷ []) ∷ (dot ∷ dot ∷ dot ∷ b ∷ b ∷ b ∷ b ∷ b ∷ b ∷ dot ∷ dot ∷ dot ∷ []) ∷ (dot ∷ dot ∷ dot ∷ b ∷ b ∷ b ∷ b ∷ b ∷ b ∷ dot ∷ dot ∷ dot ∷ []) ∷ (dot ∷ dot ∷ dot ∷ b ∷ b ∷ b ∷ b ∷ b ∷ b ∷ dot ∷ dot ∷ dot ∷ []) ∷ (dot ∷ dot ∷ dot ∷ b ∷ b ∷ b ∷ b ∷ b ∷ b ∷ dot ∷ dot ∷ dot ∷ []) ∷ []
  both_replied = refl

  both_left : map (λ s. pending_of (step both s)) replies ≡ 6 ∷ 6 ∷ 6 ∷ 6 ∷ 6 ∷ 6 ∷ 6 ∷ 6 ∷ 6 ∷ 6 ∷ 6 ∷ 6 ∷ 6 ∷ 6 ∷ []
  both_left = refl

  both_goes : map (λ s. offered 3 (step both s)) replies ≡ ((3, b ∷ b ∷ b ∷ b ∷ b ∷ b ∷ []) ∷ []) ∷ ((3, b ∷ b ∷ b ∷ b ∷ b ∷ b ∷ []) ∷ []) ∷ ((3, b ∷ b ∷ b ∷ b ∷ b ∷ b ∷ []) ∷ []) ∷ ((3, b ∷ b ∷ b ∷ b ∷ b ∷ b ∷ []) ∷ []) ∷ ((3, b ∷ b ∷ b ∷ b ∷ b ∷ b ∷ []) ∷ []) ∷ ((3, b ∷ b ∷ b ∷ b ∷ b ∷ b ∷ []) ∷ []) ∷ ((3, b ∷ b ∷ b ∷ b ∷ b ∷ b ∷ []) ∷ []) ∷ ((3, b ∷ b ∷ b ∷ b ∷ b ∷ b ∷ []) ∷ []) ∷ ((3, b ∷ b ∷ b ∷ b ∷ b ∷ b ∷ []) ∷ []) ∷ ((3, b ∷ b ∷ b ∷ b ∷ b ∷ b ∷ []) ∷ []) ∷ ((3, b ∷ b ∷ b ∷ b ∷ b ∷ b ∷ []) ∷ []) ∷ ((3, b ∷ b ∷ b ∷ b ∷ b ∷ b ∷ []) ∷ []) ∷ ((3, b ∷ b ∷ b ∷ b ∷ b ∷ b ∷ []) ∷ []) ∷ ((3, b ∷ b ∷ b ∷ b ∷ b ∷ b ∷ []) ∷ []) ∷ []
  both_goes = refl

  -- ---- newer bytes twice
  abbrev twice : FilePending
  twice = does flying (Add 2 2 (b ∷ b ∷ b ∷ b ∷ []) ∷ Add 3 5 (c ∷ c ∷ []) ∷ [])

  twice_shown : letters 12 0 twice.segments ≡ dot ∷ dot ∷ b ∷ b ∷ b ∷ c ∷ c ∷ a ∷ dot ∷ dot ∷ dot ∷ dot ∷ []
  twice_shown = refl

  twice_pending : pending_of twice ≡ 9
  twice_pending = refl

  twice_end : last_end twice.segments ≡ Some 8
  twice_end = refl

  twice_offered : offered 3 twice ≡ []
  twice_offered = refl

  twice_replied : replied twice ≡ (dot ∷ dot ∷ b ∷ b ∷ b ∷ c ∷ c ∷ a ∷ dot ∷ dot ∷ dot ∷ dot ∷ []) ∷ (dot ∷ dot ∷ b ∷ b ∷ b ∷ c ∷ c ∷ a ∷ dot ∷ dot ∷ dot ∷ dot ∷ []) ∷ (dot ∷ dot ∷ b ∷ b ∷ b ∷ c ∷ c ∷ a ∷ dot ∷ dot ∷ dot ∷ dot ∷ []) ∷ (dot ∷ dot ∷ b ∷ b ∷ b ∷ c ∷ c ∷ a ∷ dot ∷ dot ∷ dot ∷ dot ∷ []) ∷ (dot ∷ dot ∷ b ∷ b ∷ b ∷ c ∷ c ∷ A ∷ dot ∷ dot ∷ dot ∷ dot ∷ []) ∷ (dot ∷ dot ∷ b ∷ b ∷ b ∷ c ∷ c ∷ A ∷ dot ∷ dot ∷ dot ∷ dot ∷ []) ∷ (dot ∷ dot ∷ b ∷ b ∷ b ∷ c ∷ c ∷ a ∷ dot ∷ dot ∷ dot ∷ dot ∷ []) ∷ (dot ∷ dot ∷ b ∷ b ∷ b ∷ c ∷ c ∷ a ∷ dot ∷ dot ∷ dot ∷ dot ∷ []) ∷ (dot ∷ dot ∷ b ∷ b ∷ b ∷ c ∷ c ∷ a ∷ dot ∷ dot ∷ dot ∷ dot ∷ []) ∷ (dot ∷ dot ∷ b ∷ b ∷ b ∷ c ∷ c ∷ a ∷ dot ∷ dot ∷ dot ∷ dot ∷ []) ∷ (dot ∷ dot ∷ b ∷ b ∷ b ∷ c ∷ c ∷ dot ∷ dot ∷ dot ∷ dot ∷ dot ∷ []) ∷ (dot ∷ dot ∷ b ∷ b ∷ b ∷ c ∷ c ∷ dot ∷ dot ∷ dot ∷ dot ∷ dot ∷ []) ∷ (dot ∷ dot ∷ b ∷ b ∷ b ∷ c ∷ c ∷ a ∷ dot ∷ dot ∷ dot ∷ dot ∷ []) ∷ (dot ∷ dot ∷ b ∷ b ∷ b ∷ c ∷ c ∷ a ∷ dot ∷ dot ∷ dot ∷ dot ∷ []) ∷ []
  twice_replied = refl

  twice_left : map (λ s. pending_of (step twice s)) replies ≡ 6 ∷ 6 ∷ 6 ∷ 6 ∷ 6 ∷ 6 ∷ 6 ∷ 6 ∷ 6 ∷ 6 ∷ 5 ∷ 5 ∷ 6 ∷ 6 ∷ []
  twice_left = refl

  twice_goes : map (λ s. offered 3 (step twice s)) replies ≡ ((2, b ∷ b ∷ b ∷ c ∷ c ∷ a ∷ []) ∷ []) ∷ ((2, b ∷ b ∷ b ∷ c ∷ c ∷ a ∷ []) ∷ []) ∷ ((2, b ∷ b ∷ b ∷ c ∷ c ∷ a ∷ []) ∷ []) ∷ ((2, b ∷ b ∷ b ∷ c ∷ c ∷ a ∷ []) ∷ []) ∷ ((2, b ∷ b ∷ b ∷ c ∷ c ∷ []) ∷ []) ∷ ((2, b ∷ b ∷ b ∷ c ∷ c ∷ []) ∷ []) ∷ ((2, b ∷ b ∷ b ∷ c ∷ c ∷ a ∷ []) ∷ []) ∷ ((2, b ∷ b ∷ b ∷ c ∷ c ∷ a ∷ []) ∷ []) ∷ ((2, b ∷ b ∷ b ∷ c ∷ c ∷ a ∷ []) ∷ []) ∷ ((2, b ∷ b ∷ b ∷ c ∷ c ∷ a ∷ []) ∷ []) ∷ ((2, b ∷ b ∷ b ∷ c ∷ c ∷ []) ∷ []) ∷ ((2, b ∷ b ∷ b ∷ c ∷ c ∷ []) ∷ []) ∷ ((2, b ∷ b ∷ b ∷ c ∷ c ∷ a ∷ []) ∷ []) ∷ ((2, b ∷ b ∷ b ∷ c ∷ c ∷ a ∷ []) ∷ []) ∷ []
  twice_goes = refl

  -- ---- segments that touch go as one piece, of which the server may take a part
  abbrev touching : FilePending
  touching = does nothing (Add 1 0 (a ∷ []) ∷ Add 2 1 (b ∷ []) ∷ Add 3 2 (c ∷ []) ∷ Send 7 3 512 ∷ [])

  touching_flies : piece_bytes (piece_under 7 touching.pieces) ≡ a ∷ b ∷ c ∷ []
  touching_flies = refl

  touching_part : offered 3 (step touching (Ack 7 2 0)) ≡ (2, c ∷ []) ∷ []
  touching_part = refl

  -- ---- a piece that comes back goes with newer bytes, and up to a number without them
  abbrev back : FilePending
  back = does nothing (Add 1 0 (a ∷ b ∷ c ∷ 100 ∷ []) ∷ Send 7 1 512 ∷ Add 2 1 (120 ∷ 120 ∷ []) ∷ Renumber 7 8 ∷ [])

  back_old : piece_bytes (piece_under 7 back.pieces) ≡ []
  back_old = refl

  back_new : piece_bytes (piece_under 8 back.pieces) ≡ a ∷ b ∷ c ∷ 100 ∷ []
  back_new = refl

  back_unknown : step back (Refuse 7 28) ≡ back
  back_unknown = refl

  back_none : chosen 2 512 back ≡ []
  back_none = refl

  abbrev refused : FilePending
  refused = step back (Refuse 8 28)

  refused_pending : pending_of refused ≡ 4
  refused_pending = refl

  refused_goes : piece_bytes (piece_under 9 (step refused (Send 9 2 512)).pieces) ≡ a ∷ 120 ∷ 120 ∷ 100 ∷ []
  refused_goes = refl

  abbrev sent_again : FilePending
  sent_again = does refused (Send 9 2 512 ∷ Return 9 ∷ Send 7 1 512 ∷ Send 8 1 512 ∷ Send 9 2 1 ∷ Send 10 2 1 ∷ [])

  sent_again_pieces : map {B = ℕ × List ℕ} (λ (p : Sent). (p.offset, p.bytes)) sent_again.pieces ≡ (0, a ∷ []) ∷ (3, 100 ∷ []) ∷ (1, 120 ∷ []) ∷ (2, 120 ∷ []) ∷ []
  sent_again_pieces = refl

  -- ---- bytes that aren't to be written any more
  abbrev two : FilePending
  two = does nothing (Add 2 0 (a ∷ b ∷ c ∷ 100 ∷ []) ∷ Add 4 2 (120 ∷ 121 ∷ 122 ∷ []) ∷ [])

  two_cut : letters 6 0 (step two (Cut 1 3)).segments ≡ a ∷ dot ∷ 120 ∷ 121 ∷ 122 ∷ dot ∷ []
  two_cut = refl

  two_cut_end : last_end (step two (Cut 1 3)).segments ≡ Some 5
  two_cut_end = refl

  two_cut_later : letters 6 0 (does two (Cut 1 3 ∷ Cut 3 4 ∷ [])).segments ≡ a ∷ dot ∷ 120 ∷ dot ∷ dot ∷ dot ∷ []
  two_cut_later = refl

  two_cut_none : letters 6 0 (does two (Cut 1 3 ∷ Cut 3 4 ∷ Cut 2 2 ∷ [])).segments ≡ a ∷ dot ∷ 120 ∷ dot ∷ dot ∷ dot ∷ []
  two_cut_none = refl

  two_cut_front : letters 6 0 (does two (Cut 1 3 ∷ Cut 3 4 ∷ Cut 0 2 ∷ [])).segments ≡ dot ∷ dot ∷ 120 ∷ dot ∷ dot ∷ dot ∷ []
  two_cut_front = refl
