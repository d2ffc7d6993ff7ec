-- What a target takes, call by call.
use Rattle.std.specs.Prelude.{◌≡◌, ℕ, List, [], ◌∷◌, ◌++◌, Bool, true, false, Option, Some, None, Result, Ok, Err}
use Rattle.xdr_codec.specs.declared.blob.Memory.{Memory}
use Rattle.copy_targets.specs.declared.target.Took.{Took}
use Rattle.copy_targets.specs.declared.target.Took.TheVariants as took
use Rattle.copy_targets.specs.declared.why.Why.{Why}

-- a call's answer: whether what it gave was taken
abbrev pub is_taken : Result (Option Why) Memory → Bool
is_taken (Ok None) = true
is_taken (Ok (Some why)) = false
is_taken (Err e) = false

-- this holds if it was taken
abbrev pub IfTaken : Result (Option Why) Memory → Type 0 → Type 0
IfTaken (Ok None) P = P
IfTaken (Ok (Some why)) P = Unit {0}
IfTaken (Err e) P = Unit {0}

-- this was taken, unless it was refused
abbrev pub if_taken : Result (Option Why) Memory → Took → List Took
if_taken (Ok None) one = one ∷ []
if_taken (Ok (Some why)) one = []
if_taken (Err e) one = []

abbrev pub took_folder : List (List ℕ) → Result (Option Why) Memory → List Took
took_folder path result = if_taken result (took.Folder path)

abbrev pub took_link : List (List ℕ) → List ℕ → Result (Option Why) Memory → List Took
took_link path text result = if_taken result (took.Link path text)

abbrev pub took_file : List (List ℕ) → Result (Option Why) Memory → List Took
took_file path result = if_taken result (took.File path)

abbrev pub took_piece : List ℕ → Result (Option Why) Memory → List Took
took_piece bytes result = if_taken result (took.Piece bytes)

abbrev pub ended : Result (Option Why) Memory → List Took
ended result = if_taken result took.End

-- This was added to what a target took. One that tells goes on telling.
abbrev pub Takes : Option (List Took) → Option (List Took) → List Took → Type 0
Takes None new more = Unit {0}
Takes (Some old) None more = ⊥
Takes (Some old) (Some new) more = new ≡ old ++ more
