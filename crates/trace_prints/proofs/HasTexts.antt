-- A trace that is read has a text, but for what is written of its calls and replies.
use Rattle.std.proofs.Common.{◌≡◌, ◌<◌, ◌+◌, ◌^◌, ℕ, zero, suc, List, [], ◌∷◌, ◌++◌, length, take, Bool, true, false, Option, Some, None, Result, Ok, Err, IfOk, is_some, slice_get, refl, sym, ap, ◌∙◌, subst, true≢false, unwrap_or, arith}
use Rattle.std.specs.Prelude.{nat_lt, if◌then◌else◌}
use Rattle.std.specs.Option.{option_map}
use Rattle.std.specs.Str.{bytes_eq}
use Rattle.std.proofs.lemmas.Option.{none-some, same_Some, slice_get_past}
use Rattle.std.proofs.lemmas.Slice.Eq.{bytes_eq-Decides}
use Rattle.hex.specs.Hex.{IsBytes}
use Rattle.nfs_types.specs.declared.attr.Attr.{Attr}
use Rattle.script_text.specs.Lines.{lines}
use Rattle.trace_data.specs.declared.trace.Contents.{Contents}
use Rattle.trace_data.specs.declared.trace.Contents.TheVariants as holds
use Rattle.trace_data.specs.declared.trace.Object.{Object}
use Rattle.trace_data.specs.declared.trace.Trace.{Trace}
use Rattle.trace_data.specs.declared.trace.Updated.{Updated}
use Rattle.trace_data.specs.Histories.{history_of, holds_of, named, object_at, object_of, objects_after, or_else}
use Rattle.world_model.specs.declared.entry.Entry.{Entry}
use Rattle.world_model.specs.declared.entry.Entry.TheVariants as entries
use Rattle.world_model.specs.History.{History}
use Rattle.trace_text.specs.EntryLines.{last_shape}
use Rattle.trace_text.specs.Objects.{gone_of}
use Rattle.trace_text.specs.Reading.{after_lines, text_told}
use Rattle.trace_text.specs.Shapes.{AnswerShape}
use Rattle.trace_text.specs.Texts.{entries_in, entries_of, first_of, firsts, object_before, was_gone}
use Rattle.trace_text.specs.Told.{Says, Told, nothing_told}
use Rattle.trace_prints.specs.HasText.{AreChanges, AreWritten, HasText, IsChange, IsEntry, IsHeld, IsListing, IsRoot, IsWritten}
use Rattle.trace_prints.specs.HasText as has
use Rattle.trace_prints.proofs.Bounds.{lines-bytes}
use Rattle.trace_prints.proofs.RowBounds.{listing-of, no-rows}
use Rattle.trace_prints.proofs.Sayable.{AreLives, IsHolding, IsSaid, IsSayable, IsShown, nothing-sayable}
use Rattle.trace_prints.proofs.SayableLines.{lines-said}

-- ---- the first objects

changes-then : (was : List ℕ → Option Object) (us vs : List Updated) → AreChanges was us → AreChanges was vs → AreChanges was (us ++ vs)
changes-then was [] vs a b = b
changes-then was (u ∷ us) vs a b = (a.0, changes-then was us vs a.1 b)

-- of all objects those are first that have no other under their handle before them
first-changes : (was : List ℕ → Option Object) (us : List Updated) (n : ℕ)
    → ((i : ℕ) (u : Updated) → slice_get us i ≡ Some u → named (take i us) u.handle ≡ None → IsChange (was u.handle) u) → AreChanges was (firsts us n)
first-changes was us zero f = tt
first-changes was us (suc n) f = changes-then was (firsts us n) (first_of (take n us) (slice_get us n)) (first-changes was us n f) (by (slice_get us n) refl)
  where
    nothing : (o : Option Object) → is_some o ≡ false → o ≡ None
    nothing None e = refl
    nothing (Some x) e = absurd (true≢false e)

    test : (u : Updated) → slice_get us n ≡ Some u → (t : Bool) → is_some (named (take n us) u.handle) ≡ t → AreChanges was (if t then [] else u ∷ [])
    test u e true g = tt
    test u e false g = (f n u e (nothing (named (take n us) u.handle) g), tt)

    by : (o : Option Updated) → slice_get us n ≡ o → AreChanges was (first_of (take n us) o)
    by None e = tt
    by (Some u) e = test u e (is_some (named (take n us) u.handle)) refl

-- the first object under a handle is the one that is named
first-named : (us : List Updated) (i : ℕ) (u : Updated) → slice_get us i ≡ Some u → named (take i us) u.handle ≡ None → named us u.handle ≡ Some u.object
first-named [] i u e f = absurd (none-some u (sym (slice_get_past [] i (omega arith)) ∙ e))
first-named (v ∷ us) zero u e f =
    let same : v ≡ u = same_Some v u e in
    ap (λ (w : Updated). if bytes_eq w.handle u.handle then Some w.object else named us u.handle) same
    ∙ ap (λ (t : Bool). if t then Some u.object else named us u.handle) ((bytes_eq-Decides u.handle u.handle).1 refl)
first-named (v ∷ us) (suc i) u e f = by (λ g. first-named us i u e g) (bytes_eq v.handle u.handle) refl f
  where
    by : (named (take i us) u.handle ≡ None → named us u.handle ≡ Some u.object) → (t : Bool) → bytes_eq v.handle u.handle ≡ t → (if t then Some v.object else named (take i us) u.handle) ≡ None
        → (if t then Some v.object else named us u.handle) ≡ Some u.object
    by rest true g h = absurd (none-some v.object (sym h))
    by rest false g h = rest h

-- ---- an object

held-of : (attr : Attr) (contents : Contents) → IsHolding attr (holds_of contents) → IsHeld attr contents
held-of attr (holds.File now stable) h = has.holds_file now stable h.kind h.size h.few h.now_bytes h.stable_bytes
held-of attr (holds.Directory list) h = has.holds_directory list h.kind
held-of attr (holds.Other text) h = has.holds_other text h.no_file h.no_directory h.bytes

list-of : (attr : Attr) (contents : Contents) → IsHolding attr (holds_of contents) → IsListing (entries_in contents)
list-of attr (holds.File now stable) h = listing-of [] no-rows
list-of attr (holds.Directory list) h = listing-of list.items h.rows
list-of attr (holds.Other text) h = listing-of [] no-rows

-- an object after what was there
change-of : (was : Option Object) (u : Updated) → ((o : Object) → was ≡ Some o → IsShown u.handle (object_of o)) → IsShown u.handle (object_of u.object)
    → (gone_of (option_map object_of was) ≡ true → u.object.gone ≡ true) → IsChange was u
change-of was u before s stays = record {
  shown = record { handle = s.handle_is; attr = s.attr_is; held = held-of u.object.attr u.object.contents s.held };
  gone = λ g. stays (by was g);
  before = listed was before;
  list = list-of u.object.attr u.object.contents s.held;
}
  where
    by : (o : Option Object) → was_gone o ≡ true → gone_of (option_map object_of o) ≡ true
    by None g = g
    by (Some o) g = g

    listed : (o : Option Object) → ((x : Object) → o ≡ Some x → IsShown u.handle (object_of x)) → IsListing (entries_of o)
    listed None f = listing-of [] no-rows
    listed (Some o) f = list-of o.attr o.contents (f o refl).held

-- ---- the whole

lives-small : (lives : Option ℕ) → AreLives lives → unwrap_or lives 60000 < 2 ^ 64
lives-small None h = omega arith
lives-small (Some lives) h = h

entry-of : (shape : ℕ → ℕ → AnswerShape) (entry : Entry) → IsSaid shape entry → IsWritten entry → IsEntry shape entry
entry-of shape (entries.Began lane line op) s w = s
entry-of shape (entries.Answered lane line answer) s w = s
entry-of shape (entries.Dialed port) s w = s
entry-of shape (entries.Sent bytes) s w = s
entry-of shape (entries.Executed xid call reply) s w = w
entry-of shape (entries.Foreign call reply) s w = w
entry-of shape (entries.Flushed file from len) s w = s
entry-of shape (entries.Reboot verf) s w = s
entry-of shape (entries.Delivered bytes) s w = s
entry-of shape entries.Failed s w = tt
entry-of shape (entries.Clock ms) s w = s

-- A trace of which a text tells such as lines can say has a text.
trace-has-text : (trace : Trace) (told : Told) → Says trace told → AreWritten trace.entries.items → IsSayable told → HasText trace
trace-has-text trace told s written t = record {
  root = subst IsRoot (sym s.root) t.root;
  lives = subst (λ (n : ℕ). n < 2 ^ 64) (sym s.lives) (lives-small told.lives t.lives);
  few = g.few;
  ends = g.ends;
  verf = g.verfs 0;
  start = first-changes (object_before trace None) trace.start.objects.items (length trace.start.objects.items) (λ i u e f. at-start u (first-named trace.start.objects.items i u e f));
  verfs = λ n lt. g.verfs (suc n);
  changes = λ n lt. first-changes (object_before trace (Some n)) (objects_after trace.updates.items n) (length (objects_after trace.updates.items n))
      (λ i u e f. at-entry n u (first-named (objects_after trace.updates.items n) i u e f));
  entries = λ n entry e. entry-of (λ lane line. last_shape lane line trace.entries.items n) entry (g.entries_said n entry e) (written n entry e);
}
  where
    g : IsSayable (record told { history = history_of trace })
    g = subst (λ (h : History). IsSayable (record told { history = h })) (sym s.history) t

    at-start : (u : Updated) → named trace.start.objects.items u.handle ≡ Some u.object → IsChange (object_before trace None u.handle) u
    at-start u e = change-of None u (λ o f. absurd (none-some o f)) (g.objects 0 u.handle (object_of u.object) (ap (option_map object_of) e)) (λ f. absurd (true≢false (sym f)))

    found-after : (n : ℕ) (u : Updated) → named (objects_after trace.updates.items n) u.handle ≡ Some u.object → object_at trace.start.objects.items trace.updates.items (suc n) u.handle ≡ Some u.object
    found-after n u e = ap (λ (o : Option Object). or_else o (object_at trace.start.objects.items trace.updates.items n u.handle)) e

    at-entry : (n : ℕ) (u : Updated) → named (objects_after trace.updates.items n) u.handle ≡ Some u.object → IsChange (object_before trace (Some n) u.handle) u
    at-entry n u e = change-of (object_at trace.start.objects.items trace.updates.items n u.handle) u
        (λ o f. g.objects n u.handle (object_of o) (ap (option_map object_of) f))
        (g.objects (suc n) u.handle (object_of u.object) (ap (option_map object_of) (found-after n u e)))
        (λ f. sym (ap (λ (o : Option Object). gone_of (option_map object_of o)) (found-after n u e)) ∙ g.stays n u.handle f)

-- what a text tells is such as lines can say
told-sayable : (text : List ℕ) → IsBytes text → IfOk (text_told text) IsSayable
told-sayable text h = by (nat_lt 1048576 (length text))
  where
    by : (b : Bool) → IfOk (if b then Err 0 else after_lines 0 nothing_told (lines text)) IsSayable
    by true = tt
    by false = lines-said 0 nothing_told (lines text) (lines-bytes text h) nothing-sayable

pub text-has-text : (text : List ℕ) (trace : Trace) (told : Told) → IsBytes text → text_told text ≡ Ok told → Says trace told
    → AreWritten trace.entries.items → HasText trace
text-has-text text trace told h is s written = trace-has-text trace told s written (subst (λ (r : Result Told ℕ). IfOk r IsSayable) is (told-sayable text h))
