-- Where the next piece of a file is looked for: from a place before which nothing waits that may be sent.
use Rattle.std.specs.Prelude.{◌≡◌, ◌≤◌, ℕ, Bool, true, ◌&&◌, nat_le, if◌then◌else◌, [], ◌∷◌, Option, Some, None, ⊤}
use Rattle.write_back.specs.States.{is_ready}
use Rattle.write_back.specs.Segments.{Segment, Segments}
use Rattle.write_back.specs.Pieces.{FilePending}
use Rattle.write_back.specs.Sound.{IsKept}

-- whether a segment waits, with a number up to another
abbrev pub waits_upto : ℕ → Segment → Bool
waits_upto upto s = is_ready s.state && nat_le s.number upto

-- no such segment begins before a place
abbrev pub NoneUpto : ℕ → ℕ → Segments → Type 0
NoneUpto upto place [] = ⊤
NoneUpto upto place (e ∷ es) = (waits_upto upto e.1 ≡ true → place ≤ e.0) × NoneUpto upto place es

-- where a segment begins, or a place past all
abbrev pub place_of : Option (ℕ × Segment) → ℕ
place_of None = 18446744073709551615
place_of (Some e) = e.0

-- Beside what is kept of the pending bytes of a file, a place before which nothing waits with a number up to another.
pub record IsResumed (of : FilePending) (flown resume upto passed : ℕ) : Type 0 where
  pub kept : IsKept of flown resume
  pub none : NoneUpto upto passed of.segments
