-- Rows by hand: scripts that are made, and what comes of answers.
use Rattle.std.proofs.Common.{◌≡◌, [], length, slice_get, Some, codes, refl}
use Rattle.std.specs.Fmt.{digits}
use Rattle.hex.specs.Hex.{encode_with}
use Rattle.script_text.specs.Lines.{lines, words}
use Rattle.made_script.specs.Made.{next, open_text, place_text, fill_text, read_text, sync_text, close_text, turn_text, made_text}
use Rattle.made_script.specs.Summaries.{summary_text}

-- ---- scripts

of_one : length (lines (made_text 1)) ≡ 33
unfolding made_text turn_text open_text place_text fill_text close_text next digits encode_with lines
of_one = refl

-- the lines are counted from 0
first_fill : slice_get (lines (made_text 1)) 16 ≡ Some (codes "2 fill 1 940948 3751 01")
unfolding made_text turn_text open_text place_text fill_text close_text next digits encode_with lines
first_fill = refl

first_open : slice_get (lines (made_text 1)) 0 ≡ Some (codes "1 open 1 c /f1")
unfolding made_text turn_text open_text place_text fill_text close_text next digits encode_with lines
first_open = refl

last_close : slice_get (lines (made_text 1)) 32 ≡ Some (codes "16 close 1")
unfolding made_text turn_text open_text place_text fill_text close_text next digits encode_with lines
last_close = refl

-- the fifth fill, and the read of its bytes
of_five : length (lines (made_text 5)) ≡ 38
unfolding made_text turn_text open_text place_text fill_text read_text close_text next digits encode_with lines
of_five = refl

fifth_read : slice_get (lines (made_text 7)) 21 ≡ Some (codes "6 read 1 498580 161")
unfolding made_text turn_text open_text place_text fill_text read_text sync_text close_text next digits encode_with lines
fifth_read = refl

seventh_sync : slice_get (lines (made_text 7)) 24 ≡ Some (codes "8 sync 1")
unfolding made_text turn_text open_text place_text fill_text read_text sync_text close_text next digits encode_with lines
seventh_sync = refl

-- ---- answers

of_nothing : summary_text [] ≡ codes "lines 0 ok 0 bytes 0\n"
unfolding summary_text lines digits
of_nothing = refl

of_answers : summary_text (codes "1 1 ok\n2 3 ok 6869\n1 2 nfs 2\n1 4 ok ff\n") ≡ codes "lines 4 ok 3 bytes 3\n"
unfolding summary_text lines words digits
of_answers = refl
