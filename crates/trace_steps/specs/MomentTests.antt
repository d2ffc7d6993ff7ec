-- An object before and after an entry, and what the entry leaves as it was.
use Rattle.std.specs.Prelude.{◌&&◌, ◌||◌, ℕ, suc, Bool, List, length, Option, slice_get}
use Rattle.std.specs.Str.{bytes_eq}
use Rattle.trace_data.specs.declared.trace.Object.{Object}
use Rattle.trace_data.specs.declared.trace.Trace.{Trace}
use Rattle.trace_data.specs.Histories.{objects_after, object_at}
use Rattle.trace_rules.specs.Decided.{all_below}
use Rattle.trace_rules.specs.Freshness.{if_named}
use Rattle.trace_rules.specs.Keeping.{keeps, keeps_verf, keeps_server}

unfoldable pub before : Trace → ℕ → List ℕ → Option Object
before t n f = object_at t.start.objects.items t.updates.items n f

unfoldable pub after : Trace → ℕ → List ℕ → Option Object
after t n f = object_at t.start.objects.items t.updates.items (suc n) f

-- the entry leaves the server as it was
unfoldable pub is_same : Trace → ℕ → Bool
is_same t n = keeps_server t.start.verf t.start.objects.items t.updates.items n

-- one of three handles
abbrev pub is_one : List ℕ → List ℕ → List ℕ → List ℕ → Bool
is_one a b c f = bytes_eq f a || bytes_eq f b || bytes_eq f c

-- the object under the handle is one of those that the test passes, or the entry leaves it as it was
unfoldable pub spares : (List ℕ → Bool) → Trace → ℕ → List ℕ → Bool
spares these t n f = these f || keeps t.start.objects.items t.updates.items n f

unfoldable pub spares_at : (List ℕ → Bool) → Trace → ℕ → ℕ → Bool
spares_at these t n k = if_named (λ f. spares these t n f) (slice_get (objects_after t.updates.items n) k)

-- the entry leaves the verifier as it was, and each object but those that the test passes
unfoldable pub only : (List ℕ → Bool) → Trace → ℕ → Bool
only these t n = keeps_verf t.start.verf t.updates.items n && all_below (λ k. spares_at these t n k) (length (objects_after t.updates.items n))
