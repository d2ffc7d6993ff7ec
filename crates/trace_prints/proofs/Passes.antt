-- Objects one after the other, each under a file handle of its own.
use Rattle.std.proofs.Common.{◌≡◌, ℕ, List, [], ◌∷◌, ◌++◌, Bool, true, false, Option, Some, None, refl, sym, ap, ◌∙◌, true≢false}
use Rattle.std.specs.Prelude.{if◌then◌else◌}
use Rattle.std.specs.List.{flat_map}
use Rattle.std.specs.Str.{bytes_eq}
use Rattle.std.proofs.lemmas.Slice.Eq.{bytes_eq-Decides}
use Rattle.nfs_types.specs.declared.verf.Verf.{Verf}
use Rattle.world_model.specs.declared.entry.Entry.{Entry}
use Rattle.world_model.specs.Server.{Object, Server}
use Rattle.trace_data.specs.declared.trace.Updated.{Updated}
use Rattle.trace_text.specs.Told.{Told}
use Rattle.trace_prints.specs.Rounds.{Reads}
use Rattle.trace_prints.proofs.Moments.{IsAt, SameHead, at-as, head-same, head-then, put-now}
use Rattle.trace_prints.proofs.ByLine.{reads-nothing, reads-then}

-- ---- distinct handles

abbrev pub Apart : Updated → List Updated → Type 0
Apart u [] = Unit {0}
Apart u (v ∷ vs) = (bytes_eq u.handle v.handle ≡ false) × Apart u vs

abbrev pub Distinct : List Updated → Type 0
Distinct [] = Unit {0}
Distinct (u ∷ us) = Apart u us × Distinct us

abbrev pub Each : (Updated → Type 0) → List Updated → Type 0
Each P [] = Unit {0}
Each P (u ∷ us) = P u × Each P us

abbrev pub find : List Updated → List ℕ → Option Updated
find [] h = None
find (u ∷ us) h = if bytes_eq u.handle h then Some u else find us h

same-handle : (a b : List ℕ) → bytes_eq a b ≡ true → a ≡ b
same-handle a b e = (bytes_eq-Decides a b).0 e

itself : (a : List ℕ) → bytes_eq a a ≡ true
itself a = (bytes_eq-Decides a a).1 refl

-- ---- a pass over objects

-- what is there under each handle before, and after
abbrev pub after : (Updated → Object) → List Updated → (List ℕ → Option Object) → List ℕ → Option Object
after to [] now = now
after to (u ∷ us) now = after to us (put-now u.handle (to u) now)

abbrev pub lookup : (Updated → Object) → Option Updated → Option Object → Option Object
lookup to None was = was
lookup to (Some u) was = Some (to u)

-- there is this under each handle
abbrev pub Has : (Updated → Option Object) → (List ℕ → Option Object) → List Updated → Type 0
Has from now [] = Unit {0}
Has from now (u ∷ us) = (now u.handle ≡ from u) × Has from now us

has-kept : (from : Updated → Option Object) (now : List ℕ → Option Object) (u : Updated) (object : Object) (us : List Updated) → Apart u us → Has from now us → Has from (put-now u.handle object now) us
has-kept from now u object [] a h = tt
has-kept from now u object (v ∷ vs) a h = (ap (λ (t : Bool). if t then Some object else now v.handle) a.0 ∙ h.0, has-kept from now u object vs a.1 h.1)

none-apart : (u : Updated) (us : List Updated) (h : List ℕ) → Apart u us → bytes_eq u.handle h ≡ true → find us h ≡ None
none-apart u [] h a e = refl
none-apart u (v ∷ vs) h a e = ap (λ (t : Bool). if t then Some v else find vs h) (other (bytes_eq v.handle h) refl) ∙ none-apart u vs h a.1 e
  where
    other : (t : Bool) → bytes_eq v.handle h ≡ t → bytes_eq v.handle h ≡ false
    other false f = f
    other true f = absurd (true≢false (sym ((bytes_eq-Decides u.handle v.handle).1 (same-handle u.handle h e ∙ sym (same-handle v.handle h f))) ∙ a.0))

-- what is there under a handle after all
pub after-is : (to : Updated → Object) (us : List Updated) (now : List ℕ → Option Object) (h : List ℕ) → Distinct us → after to us now h ≡ lookup to (find us h) (now h)
after-is to [] now h d = refl
after-is to (u ∷ us) now h d = after-is to us (put-now u.handle (to u) now) h d.1 ∙ by (bytes_eq u.handle h) refl
  where
    by : (t : Bool) → bytes_eq u.handle h ≡ t → lookup to (find us h) (if t then Some (to u) else now h) ≡ lookup to (if t then Some u else find us h) (now h)
    by true e = ap (λ (o : Option Updated). lookup to o (Some (to u))) (none-apart u us h d.0 e)
    by false e = refl

-- after a pass there is what it left
pub has-after : (to : Updated → Object) (us : List Updated) (now : List ℕ → Option Object) → Distinct us → Has (λ u. Some (to u)) (after to us now) us
has-after to [] now d = tt
has-after to (u ∷ us) now d = (
  after-is to us (put-now u.handle (to u) now) u.handle d.1
      ∙ ap (λ (o : Option Updated). lookup to o (put-now u.handle (to u) now u.handle)) (none-apart u us u.handle d.0 (itself u.handle))
      ∙ ap (λ (t : Bool). if t then Some (to u) else now u.handle) (itself u.handle),
  has-after to us (put-now u.handle (to u) now) d.1,
)

-- ---- reading it

-- After a text that is told, with what was said before the first entry; it leaves these objects.
pub record Leaves (told : Told) (es : List Entry) (past : ℕ → Server) (verf : Verf) (now : List ℕ → Option Object) (text : List ℕ) : Type 0 where
  pub new : Told
  pub reads : Reads told text new
  pub at : IsAt new es past verf now
  pub head : SameHead told new

pub leaves-nothing : (told : Told) (es : List Entry) (past : ℕ → Server) (verf : Verf) (now : List ℕ → Option Object) → IsAt told es past verf now → Leaves told es past verf now []
leaves-nothing told es past verf now at = record { new = told; reads = reads-nothing told; at = at; head = head-same told }

pub leaves-then : (told : Told) (es : List Entry) (past : ℕ → Server) (verf : Verf) (middle last : List ℕ → Option Object) (text more : List ℕ)
    → (first : Leaves told es past verf middle text) → Leaves first.new es past verf last more → Leaves told es past verf last (text ++ more)
leaves-then told es past verf middle last text more first rest = record {
  new = rest.new;
  reads = reads-then told first.new rest.new text more first.reads rest.reads;
  at = rest.at;
  head = head-then told first.new rest.new first.head rest.head;
}

pub leaves-as : (told : Told) (es : List Entry) (past : ℕ → Server) (verf : Verf) (now other : List ℕ → Option Object) (text : List ℕ) → ((h : List ℕ) → now h ≡ other h) → Leaves told es past verf now text
    → Leaves told es past verf other text
leaves-as told es past verf now other text e l = record { new = l.new; reads = l.reads; at = at-as l.new es past verf now l.at other e; head = l.head }

-- one object after the other
pub pass : (es : List Entry) (past : ℕ → Server) (verf : Verf) (text : Updated → List ℕ) (from : Updated → Option Object) (to : Updated → Object) (Good : Updated → Type 0)
    → ((told : Told) (now : List ℕ → Option Object) (u : Updated) → Good u → IsAt told es past verf now → now u.handle ≡ from u → Leaves told es past verf (put-now u.handle (to u) now) (text u))
    → (us : List Updated) (told : Told) (now : List ℕ → Option Object) → Distinct us → Each Good us → IsAt told es past verf now → Has from now us
    → Leaves told es past verf (after to us now) (flat_map text us)
pass es past verf text from to Good one [] told now d g at h = leaves-nothing told es past verf now at
pass es past verf text from to Good one (u ∷ us) told now d g at h =
    let first : Leaves told es past verf (put-now u.handle (to u) now) (text u) = one told now u g.0 at h.0 in
    leaves-then told es past verf (put-now u.handle (to u) now) (after to us (put-now u.handle (to u) now)) (text u) (flat_map text us) first
    (pass es past verf text from to Good one us first.new (put-now u.handle (to u) now) d.1 g.1 first.at (has-kept from now u (to u) us d.0 h.1))
