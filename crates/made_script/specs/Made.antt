-- Scripts that are made by a rule.
use Rattle.std.specs.Prelude.{ℕ, zero, suc, ◌≤◌, ◌+◌, ◌*◌, ◌/◌, ◌%◌, ◌==◌, List, [], ◌∷◌, ◌++◌, codes, decimal, if◌then◌else◌}
use Rattle.hex.specs.Hex.{encode_lower}

-- how large a script may be
pub record IsSize (n : ℕ) : Type 0 where
  pub least : 1 ≤ n
  pub most : n ≤ 10000

-- ---- the numbers

-- the number after x
unfoldable pub next : ℕ → ℕ
next x = (1103515245 * x + 12345) % 2147483648

-- the k-th number after n
abbrev pub number_at : ℕ → ℕ → ℕ
number_at n zero = n
number_at n (suc k) = next (number_at n k)

-- the lane of the k-th fill
abbrev pub lane_of : ℕ → ℕ
lane_of k = k % 16 + 1

-- ---- the lines

-- a lane opens its file, which is made if it isn't there
unfoldable pub open_text : ℕ → List ℕ
open_text lane = decimal lane ++ codes " open 1 c /f" ++ decimal lane ++ codes "\n"

-- where a fill begins, and how many bytes it has
unfoldable pub place_text : ℕ → List ℕ
place_text x = decimal (x / 8 % 1000000) ++ codes " " ++ decimal (x % 4096 + 1)

unfoldable pub fill_text : ℕ → ℕ → List ℕ
fill_text k x = decimal (lane_of k) ++ codes " fill 1 " ++ place_text x ++ codes " " ++ encode_lower (k % 256 ∷ []) ++ codes "\n"

unfoldable pub read_text : ℕ → ℕ → List ℕ
read_text k x = decimal (lane_of k) ++ codes " read 1 " ++ place_text x ++ codes "\n"

unfoldable pub sync_text : ℕ → List ℕ
sync_text k = decimal (lane_of k) ++ codes " sync 1\n"

unfoldable pub close_text : ℕ → List ℕ
close_text lane = decimal lane ++ codes " close 1\n"

-- the k-th fill, if 5 divides k a read of the same place, and if 7 does a sync
unfoldable pub turn_text : ℕ → ℕ → List ℕ
turn_text k x = fill_text k x ++ (if k % 5 == 0 then read_text k x else []) ++ (if k % 7 == 0 then sync_text k else [])

-- ---- the script

-- one text after the other, from the first to the n-th
abbrev pub each : (ℕ → List ℕ) → ℕ → List ℕ
each text zero = []
each text (suc n) = each text n ++ text (suc n)

abbrev pub turn : ℕ → ℕ → List ℕ
turn n k = turn_text k (number_at n k)

-- The script of n fills.
unfoldable pub made_text : ℕ → List ℕ
made_text n = each open_text 16 ++ each (turn n) n ++ each close_text 16
