-- The tests of what a read shows decide it.
use Rattle.std.proofs.Common.{◌≡◌, ◌<◌, ◌≤◌, ◌+◌, ◌-◌, inl, inr, ℕ, zero, suc, Bool, true, false, true≢false, List, [], ◌∷◌, ◌++◌, length, Option, Some, None, slice_get, refl, sym, ◌∙◌, ap, subst, arith}
use Rattle.std.specs.Prelude.{Decides, ◌&&◌, ◌||◌, not, nat_lt, nat_le}
use Rattle.std.proofs.lemmas.Bool.{cases_Bool, cases_lt, ltb-true, lt-ltb, leb-true, le-leb, and_parts, and_from, or_cases, or_left, or_right, or_parts, not-true, not_from_false, not_from_true, or_from, false_from_ne_true}
use Rattle.std.proofs.lemmas.Option.{slice_get_within}
use Rattle.world_model.specs.declared.answer.Value.TheVariants as values
use Rattle.world_model.specs.declared.entry.Entry.{Entry}
use Rattle.world_model.specs.declared.entry.Entry.TheVariants.{Clock}
use Rattle.world_model.specs.declared.op.Op.TheVariants as ops
use Rattle.world_model.specs.Mounts.{Origin}
use Rattle.world_model.proofs.Places.{At-grow, At-back}
use Rattle.claims.specs.Modes.{Modes}
use Rattle.claims.specs.ReadTrue.{Since, each_read, opened, kept, HeldByte, HeldSize, PendingWithin, IsCurrent, own, held, hole}
use Rattle.claims.specs.Pending.{Pending}
use Rattle.trace_data.specs.declared.trace.Trace.{Trace}
use Rattle.trace_data.specs.declared.trace.Object.{Object}
use Rattle.trace_data.specs.declared.trace.Contents.{Contents}
use Rattle.trace_data.specs.declared.trace.Contents.TheVariants.{File, Directory, Other}
use Rattle.trace_data.specs.Histories.{object_of, server_at}
use Rattle.std.specs.Option.{option_map}
use Rattle.world_model.specs.Server as model
use Rattle.trace_claims.specs.declared.courses.Work.TheVariants as works
use Rattle.trace_claims.specs.declared.digest.Digest.{Digest}
use Rattle.trace_claims.specs.declared.operations.Operation.{Operation}
use Rattle.trace_claims.specs.declared.readings.Reading.{Reading}
use Rattle.trace_claims.specs.Bytes.{byte_from, byte_of, same_byte}
use Rattle.trace_claims.specs.Courses.{range, covers}
use Rattle.trace_claims.specs.Held.{start_of}
use Rattle.trace_claims.specs.Objects.{object_of_trace, now_of, stable_of, now_in, stable_in, file_within, is_within, now_at, is_file_within}
use Rattle.trace_claims.specs.Pendings.{is_pending, is_free, none_in_range, none_pending_past}
use Rattle.trace_claims.specs.Reading.{shown_bytes, has_at, was_held, within_at, is_short, first_moment, is_pending_during, owns, is_own, is_pending_past, is_before_pending, is_current_at, is_current}
use Rattle.trace_claims.specs.Readings.{IsReading}
use Rattle.trace_claims.proofs.Holdings.{Begins, operations-of}
use Rattle.trace_claims.proofs.Owning.{any-there, any-found}
use Rattle.trace_claims.proofs.Placing.{places-told, places-shown, places-fail, places-some}
use Rattle.trace_claims.proofs.ReadFrame.{Since-grow}
use Rattle.trace_claims.proofs.Showing.{byte-writes, same-told, same-shown, from-zero, IsFile, has-byte, has-bytes, lists-of, file-of, range-of}
use Rattle.trace_claims.proofs.Touches.{listed}
use Rattle.trace_claims.proofs.Withheld.{PendingBy, pending-of, pending-by, pending-sooner, pending-decides, pending-covers, begun-writes}

-- ---- a read of the beginning

-- the beginning has the read's answer
pub record IsRead (m : Modes) (origin : Origin) (t : Trace) (d : Digest) (b more : List Entry) (o : ℕ) (r : Reading) : Type 0 where
  pub begins : Begins m origin t d b more
  pub is : IsReading m t o r
  pub below : r.end < length b

began-before : (m : Modes) (origin : Origin) (t : Trace) (d : Digest) (b more : List Entry) (o : ℕ) (r : Reading) → IsRead m origin t d b more o r → r.place ≤ r.end
began-before m origin t d b more o r it = let later = it.is.reads.ended.later in omega (arith, later)

open-within : (m : Modes) (origin : Origin) (t : Trace) (d : Digest) (b more : List Entry) (o : ℕ) (r : Reading) → IsRead m origin t d b more o r → o ≤ length b
open-within m origin t d b more o r it =
    let a = it.is.reads.holds.opens.ended.later in let e = it.is.reads.holds.before in let l = it.is.reads.ended.later in let below = it.below in omega (arith, a, e, l, below)

Since-back : (m : Modes) (b more : List Entry) (r o n : ℕ) → n ≤ length b → Since m (b ++ more) r o n → Since m b r o n
Since-back m b more r o n within (each_read mode le) = each_read mode le
Since-back m b more r o n within (opened mode le) = opened mode le
Since-back m b more r o n within (kept mode nocto some young) =
    kept mode nocto some (record { at = young.at; ms = young.ms; read = At-back b more young.at (Clock young.ms) young.read (let lt = young.before in omega (arith, lt, within)); before = young.before; young = λ j later at lt. young.young j later (At-grow b more j (Clock later) at) lt })

abbrev it_since : Modes → Trace → ℕ → Reading → ℕ → Type 0
it_since m t o r n = Since m t.entries.items r.place o n

since-told : (m : Modes) (origin : Origin) (t : Trace) (d : Digest) (b more : List Entry) (o : ℕ) (r : Reading) → IsRead m origin t d b more o r → (n : ℕ) → it_since m t o r n → n ≤ r.end → Since m b r.place o n
since-told m origin t d b more o r it n late soon =
    let below = it.below in
    Since-back m b more r.place o n (omega (arith, soon, below)) (subst (λ (h : List Entry). Since m h r.place o n) (sym it.begins.whole) late)

since-shown : (m : Modes) (origin : Origin) (t : Trace) (d : Digest) (b more : List Entry) (o : ℕ) (r : Reading) (it : IsRead m origin t d b more o r) (n : ℕ) → Since m b r.place o n → it.is.since ≤ n
since-shown m origin t d b more o r it n late =
    it.is.late n (subst (λ (h : List Entry). Since m h r.place o n) it.begins.whole (Since-grow m b more r.place o n (open-within m origin t d b more o r it) late))

some-number : (a b : ℕ) → Some a ≡ Some b → a ≡ b
some-number a b e = cc

some-object : (a b : Object) → Some a ≡ Some b → a ≡ b
some-object a b e = cc

some-range : (a b : ℕ × ℕ) → Some a ≡ Some b → a ≡ b
some-range a b e = cc

or-false : (a b : Bool) → a ≡ false → b ≡ false → (a || b) ≡ false
or-false a b x y = or_from a b x y

le-false : (q i : ℕ) → i < q → nat_le q i ≡ false
le-false q i lt = false_from_ne_true (nat_le q i) (λ t. let le : q ≤ i = leb-true q i t in omega (arith, le, lt))

not-false : (a : Bool) → a ≡ true → not a ≡ false
not-false a t = not_from_true a t

-- ---- held at a moment that it may show

held-decides : (m : Modes) (origin : Origin) (t : Trace) (d : Digest) (b more : List Entry) (o : ℕ) (r : Reading) → IsRead m origin t d b more o r → (i v : ℕ) (byte : Option ℕ) → byte ≡ Some v
    → Decides (was_held t r i byte) (HeldByte (start_of b (server_at t)) (Since m b r.place o) r.end r.file i v)
unfolding now_at
held-decides m origin t d b more o r it i v byte is = (told, shown)
  where
    told : was_held t r i byte ≡ true → HeldByte (start_of b (server_at t)) (Since m b r.place o) r.end r.file i v
    told x =
        let found = any-found (has_at t r.file i byte) r.window.items x in
        let from = it.is.has.each found.0 found.1 found.2 in
        let there : slice_get (now_in (object_of_trace t found.1 r.file)) i ≡ Some v = sym (from-zero (now_in (object_of_trace t found.1 r.file)) i) ∙ same-told (byte_from (now_in (object_of_trace t found.1 r.file)) 0 i) byte v is found.3 in
        let here : slice_get (now_in (object_of_trace t from.n r.file)) i ≡ Some v = subst (λ (z : Option Object). slice_get (now_in z) i ≡ Some v) (sym from.same) there in
        let file = has-byte (object_of_trace t from.n r.file) i v here in
        record {
          n = from.n;
          now = now_in (object_of_trace t from.n r.file);
          stable = stable_in (object_of_trace t from.n r.file);
          late = since-told m origin t d b more o r it from.n (it.is.early from.n from.late) from.soon;
          soon = from.soon;
          has = has-bytes t from.n r.file file.0 file.1;
          holds = here;
        }

    shown : HeldByte (start_of b (server_at t)) (Since m b r.place o) r.end r.file i v → was_held t r i byte ≡ true
    shown h =
        let lists = lists-of (object_of_trace t h.n r.file) h.has.file h.now h.stable h.has.is h.has.holds in
        let in_window = it.is.has.every h.n (since-shown m origin t d b more o r it h.n h.late) h.soon in
        let here : slice_get (now_in (object_of_trace t in_window.1 r.file)) i ≡ Some v =
        subst (λ (z : Option Object). slice_get (now_in z) i ≡ Some v) in_window.3 (subst (λ (l : List ℕ). slice_get l i ≡ Some v) (sym lists.now_is) h.holds) in
        any-there (has_at t r.file i byte) r.window.items in_window.0 in_window.1 in_window.2
        (same-shown (byte_from (now_in (object_of_trace t in_window.1 r.file)) 0 i) byte v (from-zero (now_in (object_of_trace t in_window.1 r.file)) i ∙ here) is)

-- ---- the file's size at such a moment

pub record FileWithin (o : Option Object) (most : ℕ) : Type 0 where
  pub x : Object
  pub file : IsFile o x
  pub short : length (now_in o) ≤ most

within-told : (o : Option Object) (most : ℕ) → is_within o most ≡ true → FileWithin o most
within-told None most t = absurd (true≢false (sym t))
within-told (Some x) most t = by x.contents refl
  where
    by : (c : Contents) → x.contents ≡ c → FileWithin (Some x) most
    by (File now stable) e =
        let le : length now ≤ most = leb-true (length now) most (sym (ap (λ (z : Contents). file_within z most) e) ∙ t) in
        record {
          x = x;
          file = record { is = refl; file = e ∙ (let a : now_of x.contents ≡ now = ap now_of e in let s : stable_of x.contents ≡ stable = ap stable_of e in rw (a, s) refl) };
          short = subst (λ (l : List ℕ). length l ≤ most) (sym (ap now_of e)) le;
        }
    by (Directory entries) e = absurd (true≢false (sym (sym (ap (λ (z : Contents). file_within z most) e) ∙ t)))
    by (Other text) e = absurd (true≢false (sym (sym (ap (λ (z : Contents). file_within z most) e) ∙ t)))

within-shown : (o : Option Object) (x : Object) (most : ℕ) → IsFile o x → length (now_in o) ≤ most → is_within o most ≡ true
within-shown None x most file le = let it : None ≡ Some x = file.is in absurd cc
within-shown (Some y) x most file le =
    let same : y ≡ x = some-object y x file.is in
    ap (λ (z : Contents). file_within z most) (ap (λ (z : Object). z.contents) same ∙ file.file) ∙ le-leb (length (now_of y.contents)) most le

file-within : (t : Trace) (n : ℕ) (f : List ℕ) (most : ℕ) (file : model.Object) (now stable : List ℕ) → option_map object_of (object_of_trace t n f) ≡ Some file → file.holds ≡ model.Bytes now stable → length now ≤ most
    → is_within (object_of_trace t n f) most ≡ true
file-within t n f most file now stable is holds le = by (object_of_trace t n f) is
  where
    by : (o : Option Object) → option_map object_of o ≡ Some file → is_within o most ≡ true
    by None e = absurd cc
    by (Some x) e =
        let lists = lists-of (Some x) file now stable e holds in
        let it = file-of x file now stable e holds in
        within-shown (Some x) x most it (subst (λ (l : List ℕ). length l ≤ most) (sym lists.now_is) le)

pub short-decides : (m : Modes) (origin : Origin) (t : Trace) (d : Digest) (b more : List Entry) (o : ℕ) (r : Reading) → IsRead m origin t d b more o r → (most : ℕ)
    → Decides (is_short t r most) (HeldSize (start_of b (server_at t)) (Since m b r.place o) r.end r.file most)
unfolding is_file_within
short-decides m origin t d b more o r it most = (told, shown)
  where
    told : is_short t r most ≡ true → HeldSize (start_of b (server_at t)) (Since m b r.place o) r.end r.file most
    told x =
        let found = any-found (within_at t r.file most) r.window.items x in
        let from = it.is.has.each found.0 found.1 found.2 in
        let here = within-told (object_of_trace t from.n r.file) most (subst (λ (z : Option Object). is_within z most ≡ true) (sym from.same) found.3) in
        record {
          n = from.n;
          now = now_in (object_of_trace t from.n r.file);
          stable = stable_in (object_of_trace t from.n r.file);
          late = since-told m origin t d b more o r it from.n (it.is.early from.n from.late) from.soon;
          soon = from.soon;
          has = has-bytes t from.n r.file here.x here.file;
          short = here.short;
        }

    shown : HeldSize (start_of b (server_at t)) (Since m b r.place o) r.end r.file most → is_short t r most ≡ true
    shown h =
        let in_window = it.is.has.every h.n (since-shown m origin t d b more o r it h.n h.late) h.soon in
        let here = file-within t h.n r.file most h.has.file h.now h.stable h.has.is h.has.holds h.short in
        any-there (within_at t r.file most) r.window.items in_window.0 in_window.1 in_window.2 (subst (λ (z : Option Object). is_within z most ≡ true) in_window.3 here)

-- ---- pending during a read

own-decides : (m : Modes) (origin : Origin) (t : Trace) (d : Digest) (b more : List Entry) (o : ℕ) (r : Reading) → IsRead m origin t d b more o r → (i v : ℕ) (byte : Option ℕ) → byte ≡ Some v
    → Decides (is_own t d (length b) r i byte) (PendingWithin m origin b r.place r.end r.file i v)
own-decides m origin t d b more o r it i v byte is = (told, shown)
  where
    before : r.place ≤ r.end
    before = began-before m origin t d b more o r it

    told : is_own t d (length b) r i byte ≡ true → PendingWithin m origin b r.place r.end r.file i v
    told x =
        let found = any-found (owns t d (length b) r i byte) d.operations.items x in
        let two = and_parts (same_byte (byte_of t.entries.items found.1.course.place i) byte) (is_pending_during d (length b) r i found.1) found.3 in
        let during = and_parts (nat_lt found.1.course.place r.end) (is_pending d (length b) found.1 r.file (first_moment found.1 r) i) two.1 in
        let low : found.1.course.place < r.end = ltb-true found.1.course.place r.end during.0 in
        let below = it.below in
        let soon : first_moment found.1 r ≤ r.end = omega (arith, before, low) in
        let p = (pending-decides m origin t d b more it.begins found.0 found.1 found.2 r.file (first_moment found.1 r) i (omega (arith, soon, below))).0 during.1 in
        let one : Some p.v ≡ Some v = sym (subst (λ (h : List Entry). byte_of h found.1.course.place i ≡ Some p.v) it.begins.whole (byte-writes m origin b more found.1.course.place r.file i p.v p.writes))
        ∙ same-told (byte_of t.entries.items found.1.course.place i) byte v is two.0 in
        record {
          n = first_moment found.1 r;
          moment = record { late = omega arith; soon = soon };
          pending = subst (λ (z : ℕ). Pending m origin b r.file i (first_moment found.1 r) z) (some-number p.v v one) (pending-of m origin b found.1.course.place r.file i (first_moment found.1 r) p);
        }

    shown : PendingWithin m origin b r.place r.end r.file i v → is_own t d (length b) r i byte ≡ true
    shown p =
        let by = pending-by m origin b r.file i p.n v p.pending in
        let op = listed m origin b more d.operations.items p.pending.w (operations-of m origin t d b more it.begins) (begun-writes m origin b p.pending.w r.file i v p.pending.writes) in
        let late = p.moment.late in
        let soon = p.moment.soon in
        let began = p.pending.before in
        let there : op.1.course.place < p.n = subst (λ (z : ℕ). z < p.n) (sym op.3) began in
        let low : op.1.course.place < r.end = omega (arith, there, soon) in
        let below = it.below in
        let first_soon : first_moment op.1 r ≤ p.n = omega (arith, there, late) in
        let its = pending-sooner m origin b op.1.course.place r.file i (first_moment op.1 r) p.n (omega arith) first_soon (subst (λ (z : ℕ). PendingBy m origin b z r.file i p.n) (sym op.3) by) in
        let test = (pending-decides m origin t d b more it.begins op.0 op.1 op.2 r.file (first_moment op.1 r) i (omega (arith, first_soon, soon, below))).1 its in
        let byte_is : byte_of t.entries.items op.1.course.place i ≡ Some v =
        subst (λ (z : ℕ). byte_of t.entries.items z i ≡ Some v) (sym op.3) (subst (λ (h : List Entry). byte_of h p.pending.w i ≡ Some v) it.begins.whole (byte-writes m origin b more p.pending.w r.file i v p.pending.writes)) in
        any-there (owns t d (length b) r i byte) d.operations.items op.0 op.1 op.2
        (and_from (same_byte (byte_of t.entries.items op.1.course.place i) byte) (is_pending_during d (length b) r i op.1) (same-shown (byte_of t.entries.items op.1.course.place i) byte v byte_is is)
        (and_from (nat_lt op.1.course.place r.end) (is_pending d (length b) op.1 r.file (first_moment op.1 r) i) (lt-ltb op.1.course.place r.end low) test))

-- a byte past the place is pending at a moment of the read
pub record PendingPast (m : Modes) (origin : Origin) (h : List Entry) (r : Reading) (i : ℕ) : Type 0 where
  pub q : ℕ
  pub u : ℕ
  pub past : i < q
  pub pending : PendingWithin m origin h r.place r.end r.file q u

past-decides : (m : Modes) (origin : Origin) (t : Trace) (d : Digest) (b more : List Entry) (o : ℕ) (r : Reading) → IsRead m origin t d b more o r → (i : ℕ) → Decides (is_before_pending d (length b) r i) (PendingPast m origin b r i)
past-decides m origin t d b more o r it i = (told, shown)
  where
    before : r.place ≤ r.end
    before = began-before m origin t d b more o r it

    in-range : (x : Operation) (p : ℕ) (g : Option (ℕ × ℕ)) → none_in_range d (length b) x r.file p i g ≡ false → (q : ℕ) × (i < q) × (is_pending d (length b) x r.file p q ≡ true)
    in-range x p None t = absurd (true≢false t)
    in-range x p (Some g) t =
        let fails = places-some (is_free d (length b) x r.file p i) g.0 g.1 t in
        let two = or_parts (nat_le fails.i i) (not (is_pending d (length b) x r.file p fails.i)) fails.fails in (
          fails.i,
          elim (cases_lt i fails.i) [
            | inl lt ↦ lt
            | inr le ↦ absurd (true≢false (sym (le-leb fails.i i le) ∙ two.0))
          ],
          elim (cases_Bool (is_pending d (length b) x r.file p fails.i)) [
            | inl t ↦ t
            | inr f ↦ absurd (true≢false (sym (not_from_false (is_pending d (length b) x r.file p fails.i) f) ∙ two.1))
          ],
        )

    told : is_before_pending d (length b) r i ≡ true → PendingPast m origin b r i
    told x =
        let found = any-found (is_pending_past d (length b) r i) d.operations.items x in
        let two = and_parts (nat_lt found.1.course.place r.end) (not (none_pending_past d (length b) found.1 r.file (first_moment found.1 r) i)) found.3 in
        let low : found.1.course.place < r.end = ltb-true found.1.course.place r.end two.0 in
        let below = it.below in
        let soon : first_moment found.1 r ≤ r.end = omega (arith, before, low) in
        let q = in-range found.1 (first_moment found.1 r) (range found.1.course.work) (not-true (none_pending_past d (length b) found.1 r.file (first_moment found.1 r) i) two.1) in
        let p = (pending-decides m origin t d b more it.begins found.0 found.1 found.2 r.file (first_moment found.1 r) q.0 (omega (arith, soon, below))).0 q.2 in
        record {
          q = q.0;
          u = p.v;
          past = q.1;
          pending = record { n = first_moment found.1 r; moment = record { late = omega arith; soon = soon }; pending = pending-of m origin b found.1.course.place r.file q.0 (first_moment found.1 r) p };
        }

    out-range : (x : Operation) (p q : ℕ) (g : Option (ℕ × ℕ)) → range x.course.work ≡ g → covers x.course.work q ≡ true → i < q → is_pending d (length b) x r.file p q ≡ true → none_in_range d (length b) x r.file p i g ≡ false
    out-range x p q None e c lt t = let g = range-of x.course.work q c in let bad : None ≡ Some g.r = sym e ∙ g.is in absurd cc
    out-range x p q (Some g) e c lt t =
        let in_it = range-of x.course.work q c in
        let same : g ≡ in_it.r = some-range g in_it.r (sym e ∙ in_it.is) in
        let low : g.0 ≤ q = subst (λ (z : ℕ × ℕ). z.0 ≤ q) (sym same) in_it.low in
        let high : q < g.1 = subst (λ (z : ℕ × ℕ). q < z.1) (sym same) in_it.high in
        places-fail (is_free d (length b) x r.file p i) g.0 q g.1 low high (or-false (nat_le q i) (not (is_pending d (length b) x r.file p q)) (le-false q i lt) (not-false (is_pending d (length b) x r.file p q) t))

    covered : (x : Operation) (p q : ℕ) → is_pending d (length b) x r.file p q ≡ true → covers x.course.work q ≡ true
    covered x p q t = pending-covers d (length b) x r.file p q t

    shown : PendingPast m origin b r i → is_before_pending d (length b) r i ≡ true
    shown pp =
        let p = pp.pending in
        let by = pending-by m origin b r.file pp.q p.n pp.u p.pending in
        let op = listed m origin b more d.operations.items p.pending.w (operations-of m origin t d b more it.begins) (begun-writes m origin b p.pending.w r.file pp.q pp.u p.pending.writes) in
        let late = p.moment.late in
        let soon = p.moment.soon in
        let began = p.pending.before in
        let there : op.1.course.place < p.n = subst (λ (z : ℕ). z < p.n) (sym op.3) began in
        let low : op.1.course.place < r.end = omega (arith, there, soon) in
        let below = it.below in
        let first_soon : first_moment op.1 r ≤ p.n = omega (arith, there, late) in
        let its = pending-sooner m origin b op.1.course.place r.file pp.q (first_moment op.1 r) p.n (omega arith) first_soon (subst (λ (z : ℕ). PendingBy m origin b z r.file pp.q p.n) (sym op.3) by) in
        let test = (pending-decides m origin t d b more it.begins op.0 op.1 op.2 r.file (first_moment op.1 r) pp.q (omega (arith, first_soon, soon, below))).1 its in
        any-there (is_pending_past d (length b) r i) d.operations.items op.0 op.1 op.2
        (and_from (nat_lt op.1.course.place r.end) (not (none_pending_past d (length b) op.1 r.file (first_moment op.1 r) i)) (lt-ltb op.1.course.place r.end low)
        (not_from_false (none_pending_past d (length b) op.1 r.file (first_moment op.1 r) i)
        (out-range op.1 (first_moment op.1 r) pp.q (range op.1.course.work) refl (covered op.1 (first_moment op.1 r) pp.q test) pp.past test)))

-- ---- each byte

-- each byte of the read is current in the beginning
abbrev pub CurrentBy : Modes → Origin → Trace → List Entry → ℕ → Reading → Type 0
CurrentBy m origin t b o r = (k v : ℕ) → slice_get (shown_bytes t r) k ≡ Some v → IsCurrent m origin (start_of b (server_at t)) r.place r.end o r.file (r.offset + k) v

one-current : (m : Modes) (origin : Origin) (t : Trace) (d : Digest) (b more : List Entry) (o : ℕ) (r : Reading) → IsRead m origin t d b more o r → (k v : ℕ) → slice_get (shown_bytes t r) k ≡ Some v
    → Decides (is_current_at t d (length b) r (shown_bytes t r) k) (IsCurrent m origin (start_of b (server_at t)) r.place r.end o r.file (r.offset + k) v)
unfolding is_current_at
one-current m origin t d b more o r it k v is = (told, shown)
  where
    i : ℕ
    i = r.offset + k

    byte : Option ℕ
    byte = byte_from (shown_bytes t r) 0 k

    byte_is : byte ≡ Some v
    byte_is = from-zero (shown_bytes t r) k ∙ is

    c1 : Bool
    c1 = was_held t r i byte

    c2 : Bool
    c2 = is_own t d (length b) r i byte

    c3 : Bool
    c3 = same_byte byte (Some 0)

    c4 : Bool
    c4 = is_short t r i

    c5 : Bool
    c5 = is_before_pending d (length b) r i

    d1 : Decides c1 (HeldByte (start_of b (server_at t)) (Since m b r.place o) r.end r.file i v)
    d1 = held-decides m origin t d b more o r it i v byte byte_is

    d2 : Decides c2 (PendingWithin m origin b r.place r.end r.file i v)
    d2 = own-decides m origin t d b more o r it i v byte byte_is

    d4 : Decides c4 (HeldSize (start_of b (server_at t)) (Since m b r.place o) r.end r.file i)
    d4 = short-decides m origin t d b more o r it i

    d5 : Decides c5 (PendingPast m origin b r i)
    d5 = past-decides m origin t d b more o r it i

    told : (c1 || c2 || (c3 && c4 && c5)) ≡ true → IsCurrent m origin (start_of b (server_at t)) r.place r.end o r.file i v
    told x = elim (or_cases (c1 || c2) (c3 && c4 && c5) x) [
      | inl y ↦ elim (or_cases c1 c2 y) [
        | inl z ↦ held (d1.0 z)
        | inr z ↦ own (d2.0 z)
      ]
      | inr y ↦
          let two = and_parts (c3 && c4) c5 y in
          let one = and_parts c3 c4 two.0 in
          let past = d5.0 two.1 in
          hole past.q past.u (some-number v 0 (sym byte_is ∙ same-told byte (Some 0) 0 refl one.0)) (d4.0 one.1) past.past past.pending
    ]

    shown : IsCurrent m origin (start_of b (server_at t)) r.place r.end o r.file i v → (c1 || c2 || (c3 && c4 && c5)) ≡ true
    shown (held h) = or_left (c1 || c2) (c3 && c4 && c5) (or_left c1 c2 (d1.1 h))
    shown (own p) = or_left (c1 || c2) (c3 && c4 && c5) (or_right c1 c2 (d2.1 p))
    shown (hole q u is_zero size past p) = or_right (c1 || c2) (c3 && c4 && c5)
        (and_from (c3 && c4) c5 (and_from c3 c4 (same-shown byte (Some 0) 0 (byte_is ∙ ap (λ z. Some z) is_zero) refl) (d4.1 size)) (d5.1 (record { q = q; u = u; past = past; pending = p })))

pub there-is : (bytes : List ℕ) (k : ℕ) → k < length bytes → (v : ℕ) × (slice_get bytes k ≡ Some v)
there-is [] k lt = absurd (omega (arith, lt))
there-is (x ∷ bytes) zero lt = (x, refl)
there-is (x ∷ bytes) (suc k) lt = there-is bytes k (omega (arith, lt))

pub current-decides : (m : Modes) (origin : Origin) (t : Trace) (d : Digest) (b more : List Entry) (o : ℕ) (r : Reading) → IsRead m origin t d b more o r → Decides (is_current t d (length b) r) (CurrentBy m origin t b o r)
current-decides m origin t d b more o r it = (
  λ x k v is. (one-current m origin t d b more o r it k v is).0 (places-told (is_current_at t d (length b) r (shown_bytes t r)) 0 (length (shown_bytes t r)) x k (omega arith) (slice_get_within (shown_bytes t r) k v is)),
  λ all. places-shown (is_current_at t d (length b) r (shown_bytes t r)) 0 (length (shown_bytes t r)) (λ k low high.
      let v = there-is (shown_bytes t r) k high in (one-current m origin t d b more o r it k v.0 v.1).1 (all k v.0 v.1)),
)
