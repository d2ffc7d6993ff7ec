-- The tests that decide whether each moment of a trace is a server.
use Rattle.std.specs.Prelude.{◌==◌, ◌&&◌, not, nat_le, ℕ, Bool, true, List, [], ◌∷◌, length, Option, Some, None, slice_get}
use Rattle.trace_data.specs.declared.trace.DirEntry.{DirEntry}
use Rattle.trace_data.specs.declared.trace.Contents.{Contents}
use Rattle.trace_data.specs.declared.trace.Contents.TheVariants.{File, Directory, Other}
use Rattle.trace_data.specs.declared.trace.Object.{Object}
use Rattle.trace_data.specs.declared.trace.Updated.{Updated}
use Rattle.trace_data.specs.declared.trace.Update.{Update}
use Rattle.trace_rules.specs.Decided.{all_below}
use Rattle.trace_data.specs.Histories.{named, objects_after}
use Rattle.trace_rules.specs.Freshness.{if_named}

-- each cookie is 1 or more
abbrev pub have_cookies : List DirEntry → Bool
have_cookies [] = true
have_cookies (e ∷ es) = not (e.cookie == 0) && have_cookies es

-- what an object of that kind and size may hold
abbrev pub may_hold : ℕ → ℕ → Contents → Bool
may_hold kind size (File now stable) = (kind == 1) && (size == length now) && nat_le (length stable) (length now)
may_hold kind size (Directory entries) = (kind == 2) && have_cookies entries.items
may_hold kind size (Other text) = not (kind == 1) && not (kind == 2)

unfoldable pub is_sound : Object → Bool
is_sound o = may_hold o.attr.kind o.attr.size o.contents

abbrev pub if_sound : Option Object → Bool
if_sound None = true
if_sound (Some o) = is_sound o

-- the object under the handle, if it is named
unfoldable pub sound_under : List Updated → List ℕ → Bool
sound_under objects f = if_sound (named objects f)

unfoldable pub sound_at : List Updated → ℕ → Bool
sound_at objects k = if_named (λ f. sound_under objects f) (slice_get objects k)

-- each object that is named
unfoldable pub sound_all : List Updated → Bool
sound_all objects = all_below (λ k. sound_at objects k) (length objects)

unfoldable pub sound_updates : List Update → ℕ → Bool
sound_updates us count = all_below (λ n. sound_all (objects_after us n)) count

unfoldable pub sound_server : List Updated → List Update → ℕ → Bool
sound_server start us count = sound_all start && sound_updates us count
