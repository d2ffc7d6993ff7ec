-- Objects that an update names, with one more.
use Rattle.std.specs.Prelude.{ℕ, List, Bool}
use Rattle.std.specs.Str.{bytes_eq}
use Rattle.trace_data.specs.declared.trace.Object.{Object}
use Rattle.trace_data.specs.declared.trace.Updated.{Updated}
use Rattle.trace_text.specs.Lists.{replaced}

abbrev pub is_under : List ℕ → Updated → Bool
is_under handle updated = bytes_eq updated.handle handle

-- an object in place of the first under its handle, or else as the last
abbrev pub put_at : List ℕ → Object → List Updated → List Updated
put_at handle object objects = replaced (is_under handle) (record { handle = handle; object = object }) objects
