-- Which file each lane is at, in the order in which the lanes came.
use Rattle.std.specs.Prelude.{ℕ, List, [], ◌∷◌, ◌++◌, length, nat_lt, if◌then◌else◌, ◌==◌, ◌&&◌, not, nat_eq, Bool, false, Option, slice_get, option_and_then, position, remove}
use Rattle.std.specs.Option.{option_map_or}
use Rattle.std.specs.Cmp.Lexicographic.{pointwise}
use Rattle.client_shelf.specs.declared.lane_files.LaneFile.{LaneFile}

abbrev pub is_lane : ℕ → LaneFile → Bool
is_lane lane place = place.lane == lane

abbrev pub is_file : List ℕ → LaneFile → Bool
is_file file place = pointwise nat_eq place.file file

-- another lane is at the file
abbrev pub is_other : ℕ → List ℕ → LaneFile → Bool
is_other lane file place = not (place.lane == lane) && pointwise nat_eq place.file file

-- a lane came to a file as the last; there are places for 16
abbrev pub added : LaneFile → List LaneFile → List LaneFile
added place places = if nat_lt (length places) 16 then places ++ place ∷ [] else places

-- the lane left the file that it was at
abbrev pub left : ℕ → List LaneFile → List LaneFile
left lane places = option_map_or (λ at. remove places at) (position (is_lane lane) places) places

-- where the lane is
abbrev pub place_of : ℕ → List LaneFile → Option LaneFile
place_of lane places = option_and_then (λ at. slice_get places at) (position (is_lane lane) places)

-- who came to the file first
abbrev pub first_of : List ℕ → List LaneFile → Option LaneFile
first_of file places = option_and_then (λ at. slice_get places at) (position (is_file file) places)

-- the lane is at a file and came to it before all others
abbrev pub leads : LaneFile → List LaneFile → Bool
leads place places = option_map_or (λ first. first.lane == place.lane) (first_of place.file places) false

abbrev pub is_first : ℕ → List LaneFile → Bool
is_first lane places = option_map_or (λ place. leads place places) (place_of lane places) false
