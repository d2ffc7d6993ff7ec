-- What may have changed a byte that was written, by the operations of a history, the changes of other clients and the last closes.
use Rattle.std.specs.Prelude.{◌≡◌, ◌==◌, ◌&&◌, ◌||◌, not, nat_lt, nat_le, ℕ, suc, Bool, true, List, Some, Decides, slice_get}
use Rattle.std.specs.List.{list_any, list_all}
use Rattle.std.specs.Str.{bytes_eq}
use Rattle.world_model.specs.declared.entry.Entry.{Entry}
use Rattle.world_model.specs.declared.entry.Entry.TheVariants.{Began, Foreign}
use Rattle.world_model.specs.declared.message.Call.{Call}
use Rattle.world_model.specs.declared.message.Reply.{Reply}
use Rattle.world_model.specs.declared.op.Op.{Op}
use Rattle.world_model.specs.Entries.{At}
use Rattle.world_model.specs.History.{History}
use Rattle.world_model.specs.Mounts.{Origin}
use Rattle.claims.specs.Modes.{Modes}
use Rattle.claims.specs.Touched as touching
use Rattle.claims.specs.Touched.{ChangesPlace, GivesUp}
use Rattle.claims.specs.Pending.{NoPutAt}
use Rattle.trace_claims.specs.declared.courses.Course.{Course}
use Rattle.trace_claims.specs.declared.operations.Operation.{Operation}
use Rattle.trace_claims.specs.declared.touched.Foreign as changed
use Rattle.trace_claims.specs.declared.touched.Left as lefts
use Rattle.trace_claims.specs.declared.touched.Reach.{Reach}
use Rattle.trace_claims.specs.declared.touched.Reach.TheVariants.{Range, Past}
use Rattle.trace_claims.specs.Courses.{ended_before, is_put}
use Rattle.trace_claims.specs.Operations.{made_stable, writes_or_cuts, IsOperation}

-- ---- tests

-- the place i lies in its reach
abbrev pub changes : Reach → ℕ → Bool
changes (Range from to) i = nat_le from i && nat_lt i to
changes (Past size) i = nat_le size i

-- it changed the place i of the file after the entry w and before the moment p
abbrev pub touches : (w p : ℕ) → List ℕ → ℕ → changed.Foreign → Bool
touches w p f i c = nat_lt w c.place && nat_lt c.place p && bytes_eq c.file f && changes c.reach i

abbrev pub is_foreign : List changed.Foreign → (w p : ℕ) → List ℕ → ℕ → Bool
is_foreign cs w p f i = list_any (touches w p f i) cs

-- it is another operation than w, wasn't answered before that, and writes the place i of the file or cuts it off
abbrev pub rewrites : ℕ → Course → ℕ → List ℕ → ℕ → Operation → Bool
rewrites n w p f i o = not (o.course.place == w.place) && nat_lt o.course.place p && not (ended_before o.course w.place) && writes_or_cuts o n f i

abbrev pub is_rewritten : List Operation → ℕ → Course → ℕ → List ℕ → ℕ → Bool
is_rewritten os n w p f i = list_any (rewrites n w p f i) os

-- it began after w was answered, and made the file stable by the place k
abbrev pub settles : ℕ → Course → ℕ → List ℕ → Operation → Bool
settles n w k f o = ended_before w o.course.place && nat_le o.course.ending.end k && made_stable o n f

abbrev pub is_stable_since : List Operation → ℕ → Course → ℕ → List ℕ → Bool
is_stable_since os n w k f = list_any (settles n w k f) os

-- this last close gave up what was pending of w
abbrev pub gives : List Operation → ℕ → Course → ℕ → List ℕ → lefts.Left → Bool
gives os n w p f l =
    nat_lt w.place l.place && nat_lt l.place p && bytes_eq l.file f && l.gives_up && not (is_stable_since os n w l.place f)
    && not (is_put w.work && ended_before w l.place)

abbrev pub is_given_up : List lefts.Left → List Operation → ℕ → Course → ℕ → List ℕ → Bool
is_given_up ls os n w p f = list_any (gives os n w p f) ls

-- it is no put, or isn't under way at the place k
abbrev pub rests_at : ℕ → Operation → Bool
rests_at k o = not (is_put o.course.work) || nat_le k o.course.place || ended_before o.course k

abbrev pub no_put : List Operation → ℕ → Bool
no_put os k = list_all (rests_at k) os

-- ---- the lists of a history

abbrev pub ListsOperation : List Operation → ℕ → Type 0
ListsOperation os x = (k : ℕ) × (o : Operation) × (slice_get os k ≡ Some o) × (o.course.place ≡ x)

-- the list has all operations of the history, and those alone
pub record HasOperations (m : Modes) (origin : Origin) (h : List Entry) (os : List Operation) : Type 0 where
  pub each : (k : ℕ) (o : Operation) → slice_get os k ≡ Some o → IsOperation m origin h o
  pub every : (x lane line : ℕ) (op : Op) → At h x (Began lane line op) → ListsOperation os x

-- the change of the file by another client that the history tells of
pub record IsForeign (t : History) (c : changed.Foreign) : Type 0 where
  pub call : Call
  pub reply : Reply
  pub at : At t.entries c.place (Foreign call reply)
  pub changes_it : (i : ℕ) → changes c.reach i ≡ true → ChangesPlace (t.at (suc c.place)) c.file i call reply

abbrev pub ListsForeign : List changed.Foreign → (n : ℕ) → List ℕ → ℕ → Type 0
ListsForeign cs n f i = (k : ℕ) × (c : changed.Foreign) × (slice_get cs k ≡ Some c) × (c.place ≡ n) × (c.file ≡ f) × (changes c.reach i ≡ true)

-- the list has all changes by other clients, and those alone
pub record HasForeign (t : History) (cs : List changed.Foreign) : Type 0 where
  pub each : (k : ℕ) (c : changed.Foreign) → slice_get cs k ≡ Some c → IsForeign t c
  pub every : (n : ℕ) (call : Call) (reply : Reply) (f : List ℕ) (i : ℕ) → At t.entries n (Foreign call reply)
      → ChangesPlace (t.at (suc n)) f i call reply → ListsForeign cs n f i

-- the last close that the history tells of
pub record IsLeft (m : Modes) (h : List Entry) (l : lefts.Left) : Type 0 where
  pub is : touching.Left m h l.place l.file
  pub gives_up : Decides l.gives_up (GivesUp m h l.place l.file)
  pub no_put : Decides l.no_put (NoPutAt h l.place)

abbrev pub ListsLeft : List lefts.Left → ℕ → List ℕ → Type 0
ListsLeft ls k f = (j : ℕ) × (l : lefts.Left) × (slice_get ls j ≡ Some l) × (l.place ≡ k) × (l.file ≡ f)

-- the list has all last closes, and those alone
pub record HasLeft (m : Modes) (h : List Entry) (ls : List lefts.Left) : Type 0 where
  pub each : (k : ℕ) (l : lefts.Left) → slice_get ls k ≡ Some l → IsLeft m h l
  pub every : (k : ℕ) (f : List ℕ) → touching.Left m h k f → ListsLeft ls k f
