-- Lines that say what the server is: before the first entry at the start, else from the last entry on.
use Rattle.std.specs.Prelude.{ℕ, List, Option, Some, None}
use Rattle.script_text.specs.Lines.{one, two, four}
use Rattle.trace_text.specs.Objects.{with_verf, with_object, gone_of, holds_of, gone_object_of, listed_object_of, unlisted_object_of}
use Rattle.trace_text.specs.Told.{Told, changed, object_now}
use Rattle.trace_text.specs.Words.{◌>>=◌, attr_of, bytes_of, handle_of, long_of, name_of, verf_of}

unfoldable pub verf_line : Told → List (List ℕ) → Option Told
verf_line told words = do
  word ← one words
  verf ← verf_of word
  Some (changed (with_verf verf) told)

unfoldable pub obj_line : Told → List (List ℕ) → Option Told
obj_line told words = do
  w ← four words
  handle ← handle_of w.0
  attr ← attr_of w.1
  now ← bytes_of w.2
  stable ← bytes_of w.3
  holds ← holds_of attr now stable (object_now told handle)
  Some (changed (with_object handle (record { attr = attr; gone = gone_of (object_now told handle); holds = holds })) told)

unfoldable pub gone_line : Told → List (List ℕ) → Option Told
gone_line told words = do
  word ← one words
  handle ← handle_of word
  object ← gone_object_of (object_now told handle)
  Some (changed (with_object handle object) told)

unfoldable pub name_line : Told → List (List ℕ) → Option Told
name_line told words = do
  w ← four words
  dir ← handle_of w.0
  name ← name_of w.1
  object ← handle_of w.2
  cookie ← long_of w.3
  later ← listed_object_of (record { name = name; object = object; cookie = cookie }) (object_now told dir)
  Some (changed (with_object dir later) told)

unfoldable pub unname_line : Told → List (List ℕ) → Option Told
unname_line told words = do
  w ← two words
  dir ← handle_of w.0
  name ← name_of w.1
  later ← unlisted_object_of name (object_now told dir)
  Some (changed (with_object dir later) told)
