-- Sessions in which no write waits for room, and how many COMMITs they make of a file (RFC 1813, section 3.3.21).
use Rattle.std.specs.Prelude.{◌≤◌, ℕ, List, All, sum_by}
use Rattle.core_counts.proofs.Prelude.{Entry, Placed, AreDifferent, count_of, most_pending, WriterAt, Terms, Mounted, machine_of, Setup, View, Notes, GoesFrom}
use Rattle.claims.specs.CallCounts.{FewCommits}

-- All writes, fills and puts together have no more bytes than a session holds back.
abbrev pub HasRoom : List Entry → Type 0
HasRoom h = (writers : List Placed) → AreDifferent writers → All (WriterAt h) writers → sum_by (λ (o : Placed). count_of o.1) writers ≤ most_pending

-- In such a session, two for each sync, close and put of the file.
abbrev pub FewCommitsWithRoom : Type 0
FewCommitsWithRoom = (m : Mounted) (terms : Terms) (setup : Setup) (before h : List Entry) (v : View) → GoesFrom m terms setup before h v
    → Notes (machine_of m) setup h v → HasRoom h → (f : List ℕ) → FewCommits terms h f
