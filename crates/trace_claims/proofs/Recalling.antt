-- The tests whether a read shows what was written, cut off or ended before decide it.
use Rattle.std.proofs.Common.{◌≡◌, ◌<◌, ◌≤◌, ◌+◌, ◌-◌, inl, inr, ℕ, Bool, true, false, true≢false, List, [], ◌++◌, length, Option, Some, None, slice_get, refl, sym, ◌∙◌, ap, subst, arith}
use Rattle.std.specs.Prelude.{Decides, ◌&&◌, ◌||◌, not, nat_le, min, max}
use Rattle.std.proofs.lemmas.Bool.{cases_Bool, cases_lt, ltb-true, lt-ltb, leb-true, le-leb, and_parts, and_from, or_cases, or_left, or_right}
use Rattle.std.proofs.lemmas.Option.{slice_get_within}
use Rattle.world_model.specs.declared.entry.Entry.{Entry}
use Rattle.world_model.specs.declared.entry.Entry.TheVariants.{Began}
use Rattle.world_model.specs.declared.op.Op.TheVariants as ops
use Rattle.world_model.specs.Mounts.{Origin}
use Rattle.world_model.proofs.Places.{At-grow, At-below}
use Rattle.claims.specs.Modes.{Modes}
use Rattle.claims.specs.ReadTrue.{EndsRightly}
use Rattle.claims.specs.Touched.{Wrote, Truncated, Touched}
use Rattle.trace_data.specs.declared.trace.Trace.{Trace}
use Rattle.trace_data.specs.Histories.{server_at}
use Rattle.trace_claims.specs.declared.courses.Work.{Work}
use Rattle.trace_claims.specs.declared.courses.Work.TheVariants as works
use Rattle.trace_claims.specs.declared.digest.Digest.{Digest}
use Rattle.trace_claims.specs.declared.operations.Operation.{Operation}
use Rattle.trace_claims.specs.declared.readings.Reading.{Reading}
use Rattle.trace_claims.specs.Bytes.{byte_from, byte_of, shows}
use Rattle.trace_claims.specs.Courses.{range, cut_size, ended_before, is_done}
use Rattle.trace_claims.specs.Held.{start_of}
use Rattle.trace_claims.specs.Keeping.{is_touched, is_kept}
use Rattle.trace_claims.specs.Operations.{is_of, if_cut, wrote_to}
use Rattle.trace_claims.specs.Reading.{shown_bytes, stop_of, is_short, is_current, question_of, shows_from, written_in, shows_written, shows_one, shows_own, cut_in, shows_cut, cuts_one, shows_cuts, is_changed_from, changed_in, is_changed_past, past_one, wrote_none_past, shows_well, ends_well}
use Rattle.trace_claims.proofs.Holdings.{operations-of, is-touched-decides, wrote-within}
use Rattle.trace_claims.proofs.Owning.{of-shown}
use Rattle.trace_claims.proofs.Placing.{places-told, places-shown}
use Rattle.trace_claims.proofs.Reciting.{IsRead, CurrentBy, current-decides, short-decides, there-is}
use Rattle.trace_claims.proofs.Resting.{all-holds, all-from}
use Rattle.trace_claims.proofs.Showing.{BothHave, byte-wrote, byte-cut, from-zero, shows-told, shows-shown, range-of, range-covers}
use Rattle.trace_claims.proofs.Telling.{course-work}
use Rattle.trace_claims.proofs.Touches.{Begun, listed}
use Rattle.trace_claims.proofs.Withheld.{begun-of}
use Rattle.trace_claims.proofs.Writing.{wrote-told, wrote-shown, truncated-told, truncated-shown}

some-number : (a b : ℕ) → Some a ≡ Some b → a ≡ b
some-number a b e = cc

-- ---- one place

-- the place is kept exactly where both lists show the byte, unless it was touched
kept-place : (m : Modes) (origin : Origin) (t : Trace) (d : Digest) (b more : List Entry) (o : ℕ) (r : Reading) → IsRead m origin t d b more o r → (k : ℕ) (x : Operation) → slice_get d.operations.items k ≡ Some x → x.course.place ≤ length b
    → (now stable : List ℕ) (offset i v : ℕ) → byte_of t.entries.items x.course.place i ≡ Some v
    → Decides (is_kept t.entries.items d x.course (question_of t (length b) r) now stable offset i) ((Touched m origin (start_of b (server_at t)) x.course.place r.end r.file i → ⊥) → BothHave now stable offset i v)
kept-place m origin t d b more o r it k x there began now stable offset i v is = (told, shown)
  where
    touched : Decides (is_touched d x.course (question_of t (length b) r) i) (Touched m origin (start_of b (server_at t)) x.course.place r.end r.file i)
    touched = is-touched-decides m origin t d b more it.begins k x there r.end r.file i began (let below = it.below in omega (arith, below))

    told : is_kept t.entries.items d x.course (question_of t (length b) r) now stable offset i ≡ true → (Touched m origin (start_of b (server_at t)) x.course.place r.end r.file i → ⊥) → BothHave now stable offset i v
    told kept untouched = elim (or_cases (shows t.entries.items x.course.place now stable offset i) (is_touched d x.course (question_of t (length b) r) i) kept) [
      | inl shown_it ↦ shows-told t.entries.items x.course.place now stable offset i v is shown_it
      | inr by ↦ absurd (untouched (touched.0 by))
    ]

    shown : ((Touched m origin (start_of b (server_at t)) x.course.place r.end r.file i → ⊥) → BothHave now stable offset i v) → is_kept t.entries.items d x.course (question_of t (length b) r) now stable offset i ≡ true
    shown has = elim (cases_Bool (is_touched d x.course (question_of t (length b) r) i)) [
      | inl by ↦ or_right (shows t.entries.items x.course.place now stable offset i) (is_touched d x.course (question_of t (length b) r) i) by
      | inr none ↦ or_left (shows t.entries.items x.course.place now stable offset i) (is_touched d x.course (question_of t (length b) r) i)
          (shows-shown t.entries.items x.course.place now stable offset i v is (has (λ z. true≢false (sym (touched.1 z) ∙ none))))
    ]

-- the byte of a list that begins at an offset
pub from-bytes : (bytes : List ℕ) (offset k : ℕ) → byte_from bytes offset (offset + k) ≡ slice_get bytes k
unfolding byte_from
from-bytes bytes offset k = let low : nat_le offset (offset + k) ≡ true = le-leb offset (offset + k) (omega arith) in rw low (subst (λ (z : ℕ). slice_get bytes z ≡ slice_get bytes k) (let is : k ≡ offset + k - offset = omega arith in is) refl)

from-within : (bytes : List ℕ) (offset i v : ℕ) → offset ≤ i → byte_from bytes offset i ≡ Some v → i < offset + length bytes
from-within bytes offset i v low is =
    let same : i ≡ offset + (i - offset) = omega (arith, low) in
    let at : slice_get bytes (i - offset) ≡ Some v = sym (from-bytes bytes offset (i - offset)) ∙ subst (λ (z : ℕ). byte_from bytes offset z ≡ Some v) same is in
    let lt = slice_get_within bytes (i - offset) v at in omega (arith, lt, low)

from-there : (bytes : List ℕ) (offset i : ℕ) → offset ≤ i → i < offset + length bytes → (v : ℕ) × (byte_from bytes offset i ≡ Some v)
from-there bytes offset i low high =
    let it = there-is bytes (i - offset) (omega (arith, low, high)) in
    (it.0, subst (λ (z : ℕ). byte_from bytes offset z ≡ Some it.0) (let same : offset + (i - offset) ≡ i = omega (arith, low) in same) (from-bytes bytes offset (i - offset) ∙ it.1))

-- ---- tests of three or four

third : (a b c : Bool) → a ≡ true → b ≡ true → (not a || not b || c) ≡ true → c ≡ true
third true true c x y t = t
third false b c x y t = absurd (true≢false (sym x))
third true false c x y t = absurd (true≢false (sym y))

third-from : (a b c : Bool) → (a ≡ true → b ≡ true → c ≡ true) → (not a || not b || c) ≡ true
third-from true true c f = f refl refl
third-from false b c f = refl
third-from true false c f = refl

fourth : (a b c e : Bool) → a ≡ true → b ≡ true → c ≡ true → (not a || not b || not c || e) ≡ true → e ≡ true
fourth true true true e x y z t = t
fourth false b c e x y z t = absurd (true≢false (sym x))
fourth true false c e x y z t = absurd (true≢false (sym y))
fourth true true false e x y z t = absurd (true≢false (sym z))

fourth-from : (a b c e : Bool) → (a ≡ true → b ≡ true → c ≡ true → e ≡ true) → (not a || not b || not c || e) ≡ true
fourth-from true true true e f = f refl refl refl
fourth-from false b c e f = refl
fourth-from true false c e f = refl
fourth-from true true false e f = refl

-- ---- what was written before

abbrev pub OwnAt : Modes → Origin → Trace → List Entry → Reading → Type 0
OwnAt m origin t b r = (w e i v : ℕ) → Wrote m b w e r.file i v → e < r.place → r.offset ≤ i → i < r.offset + r.count
    → (Touched m origin (start_of b (server_at t)) w r.end r.file i → ⊥) → byte_from (shown_bytes t r) r.offset i ≡ Some v

pub own-decides : (m : Modes) (origin : Origin) (t : Trace) (d : Digest) (b more : List Entry) (o : ℕ) (r : Reading) → IsRead m origin t d b more o r → Decides (shows_own t d (length b) r) (OwnAt m origin t b r)
unfolding shows_from
own-decides m origin t d b more o r it = (told, shown)
  where
    bytes : List ℕ
    bytes = shown_bytes t r

    byte : (x : Operation) (y i v : ℕ) → Wrote m b x.course.place y r.file i v → byte_of t.entries.items x.course.place i ≡ Some v
    byte x y i v wrote = subst (λ (h : List Entry). byte_of h x.course.place i ≡ Some v) it.begins.whole (byte-wrote m b more x.course.place y r.file i v wrote)

    told : shows_own t d (length b) r ≡ true → OwnAt m origin t b r
    told all w e i v wrote before low high untouched =
        let op = listed m origin b more d.operations.items w (operations-of m origin t d b more it.begins) (begun-of m b w e r.file i v wrote) in
        let x = op.1 in
        let here : Wrote m b op.1.course.place e r.file i v = subst (λ (z : ℕ). Wrote m b z e r.file i v) (sym op.3) wrote in
        let shows_it = wrote-shown m origin b more op.1 ((operations-of m origin t d b more it.begins).each op.0 op.1 op.2) r.file e i v here in
        let ended : ended_before op.1.course r.place ≡ true = lt-ltb op.1.course.ending.end r.place (let same = shows_it.2 in omega (arith, same, before)) in
        let one = third (ended_before op.1.course r.place) (wrote_to op.1 (length b) r.file) (shows_written t d (question_of t (length b) r) r op.1.course) ended shows_it.0
        (all-holds (shows_one t d (length b) r) d.operations.items op.0 op.1 all op.2) in
        let g = range-of op.1.course.work i shows_it.1 in
        let inside = subst (λ (z : Option (ℕ × ℕ)). written_in t d (question_of t (length b) r) r op.1.course z ≡ true) g.is one in
        let gl = g.low in
        let gh = g.high in
        let kept = places-told (is_kept t.entries.items d op.1.course (question_of t (length b) r) bytes bytes r.offset) (max g.r.0 r.offset) (min g.r.1 (r.offset + r.count)) inside i (omega (arith, gl, low)) (omega (arith, gh, high)) in
        ((kept-place m origin t d b more o r it op.0 op.1 op.2 (wrote-within m b op.1.course.place e r.file i v here) bytes bytes r.offset i v (byte op.1 e i v here)).0 kept
        (λ touched. untouched (subst (λ (z : ℕ). Touched m origin (start_of b (server_at t)) z r.end r.file i) op.3 touched))).first

    one-op : OwnAt m origin t b r → (k : ℕ) (x : Operation) → slice_get d.operations.items k ≡ Some x → ended_before x.course r.place ≡ true → wrote_to x (length b) r.file ≡ true → (g : Option (ℕ × ℕ)) → range x.course.work ≡ g
        → written_in t d (question_of t (length b) r) r x.course g ≡ true
    one-op all k x there ended wrote None e = refl
    one-op all k x there ended wrote (Some g) e =
        places-shown (is_kept t.entries.items d x.course (question_of t (length b) r) bytes bytes r.offset) (max g.0 r.offset) (min g.1 (r.offset + r.count)) (λ i low high.
        let c = range-covers x.course.work g i e (omega (arith, low)) (omega (arith, high)) in
        let w = wrote-told m origin b more x ((operations-of m origin t d b more it.begins).each k x there) r.file i wrote c in
        (kept-place m origin t d b more o r it k x there (wrote-within m b x.course.place x.course.ending.end r.file i w.0 w.1) bytes bytes r.offset i w.0 (byte x x.course.ending.end i w.0 w.1)).1
        (λ untouched. let is = all x.course.place x.course.ending.end i w.0 w.1 (ltb-true x.course.ending.end r.place ended) (omega (arith, low)) (omega (arith, high)) untouched in record { first = is; second = is }))

    shown : OwnAt m origin t b r → shows_own t d (length b) r ≡ true
    shown all = all-from (shows_one t d (length b) r) d.operations.items (λ k x there.
        third-from (ended_before x.course r.place) (wrote_to x (length b) r.file) (shows_written t d (question_of t (length b) r) r x.course)
        (λ ended wrote. one-op all k x there ended wrote (range x.course.work) refl))

-- ---- what was cut off before

abbrev pub CutAt : Modes → Origin → Trace → List Entry → Reading → Type 0
CutAt m origin t b r = (x e size i v : ℕ) → Truncated m b x e r.file size → e < r.place → size ≤ i → r.offset ≤ i → byte_from (shown_bytes t r) r.offset i ≡ Some v
    → (Touched m origin (start_of b (server_at t)) x r.end r.file i → ⊥) → v ≡ 0

cut-there : (w : Work) (size i : ℕ) (a : Bool) → cut_size w ≡ Some size → size ≤ i → a ≡ true → if_cut w i a ≡ true
cut-there (works.Truncate slot its) size i a is le t = and_from (nat_le its i) a (le-leb its i (let same : its ≡ size = some-number its size is in omega (arith, same, le))) t
cut-there (works.Open slot) size i a is le t = absurd cc
cut-there (works.Read slot offset count) size i a is le t = absurd cc
cut-there (works.Write slot offset count) size i a is le t = absurd cc
cut-there (works.Put offset count) size i a is le t = absurd cc
cut-there (works.Sync slot) size i a is le t = absurd cc
cut-there (works.Close slot) size i a is le t = absurd cc
cut-there works.Other size i a is le t = absurd cc

truncated-within : (m : Modes) (b : List Entry) (x y : ℕ) (f : List ℕ) (size : ℕ) → Truncated m b x y f size → x ≤ length b
truncated-within m b x y f size c = let it = At-below b x (Began c.of.lane c.of.line (ops.Truncate c.slot size)) c.of.began in omega (arith, it)

pub cut-decides : (m : Modes) (origin : Origin) (t : Trace) (d : Digest) (b more : List Entry) (o : ℕ) (r : Reading) → IsRead m origin t d b more o r → Decides (shows_cuts t d (length b) r) (CutAt m origin t b r)
unfolding shows_from
cut-decides m origin t d b more o r it = (told, shown)
  where
    bytes : List ℕ
    bytes = shown_bytes t r

    byte : (x : Operation) (y size i : ℕ) → size ≤ i → Truncated m b x.course.place y r.file size → byte_of t.entries.items x.course.place i ≡ Some 0
    byte x y size i le cut = subst (λ (h : List Entry). byte_of h x.course.place i ≡ Some 0) it.begins.whole (byte-cut m b more x.course.place y r.file size i le cut)

    told : shows_cuts t d (length b) r ≡ true → CutAt m origin t b r
    told all x e size i v cut before le low is untouched =
        let begun : Begun b x = record { lane = cut.of.lane; line = cut.of.line; op = ops.Truncate cut.slot size; at = cut.of.began } in
        let op = listed m origin b more d.operations.items x (operations-of m origin t d b more it.begins) begun in
        let its = (operations-of m origin t d b more it.begins).each op.0 op.1 op.2 in
        let here : Truncated m b op.1.course.place e r.file size = subst (λ (z : ℕ). Truncated m b z e r.file size) (sym op.3) cut in
        let shows_it = truncated-shown m origin b more op.1 its r.file e size i le here in
        let ended : ended_before op.1.course r.place ≡ true = lt-ltb op.1.course.ending.end r.place (let same = shows_it.2 in omega (arith, same, before)) in
        let of_it = of-shown m origin b more op.1 its (ops.Truncate here.slot size) r.file here.of in
        let work = course-work (b ++ more) op.1.course its.course here.of.lane here.of.line (ops.Truncate here.slot size) (At-grow b more op.1.course.place (Began here.of.lane here.of.line (ops.Truncate here.slot size)) here.of.began) in
        let one = fourth (ended_before op.1.course r.place) (is_done op.1.course (length b)) (is_of op.1 r.file) (shows_cut t d (question_of t (length b) r) r op.1.course) ended shows_it.0 of_it
        (all-holds (cuts_one t d (length b) r) d.operations.items op.0 op.1 all op.2) in
        let sized : cut_size op.1.course.work ≡ Some size = ap cut_size work in
        let inside = subst (λ (z : Option ℕ). cut_in t d (question_of t (length b) r) r op.1.course z ≡ true) sized one in
        let high = from-within bytes r.offset i v low is in
        let kept = places-told (is_kept t.entries.items d op.1.course (question_of t (length b) r) bytes bytes r.offset) (max size r.offset) (stop_of t r) inside i (omega (arith, le, low)) high in
        let zero_is = ((kept-place m origin t d b more o r it op.0 op.1 op.2 (truncated-within m b op.1.course.place e r.file size here) bytes bytes r.offset i 0 (byte op.1 e size i le here)).0 kept
        (λ touched. untouched (subst (λ (z : ℕ). Touched m origin (start_of b (server_at t)) z r.end r.file i) op.3 touched))).first in
        some-number v 0 (sym is ∙ zero_is)

    one-op : CutAt m origin t b r → (k : ℕ) (x : Operation) → slice_get d.operations.items k ≡ Some x → ended_before x.course r.place ≡ true → is_done x.course (length b) ≡ true → is_of x r.file ≡ true → (g : Option ℕ) → cut_size x.course.work ≡ g
        → cut_in t d (question_of t (length b) r) r x.course g ≡ true
    one-op all k x there ended done of_it None e = refl
    one-op all k x there ended done of_it (Some size) e =
        places-shown (is_kept t.entries.items d x.course (question_of t (length b) r) bytes bytes r.offset) (max size r.offset) (stop_of t r) (λ i low high.
        let its = (operations-of m origin t d b more it.begins).each k x there in
        let cut = truncated-told m origin b more x its r.file i done (cut-there x.course.work size i (is_of x r.file) e (omega (arith, low)) of_it) in
        let v = from-there bytes r.offset i (omega (arith, low)) high in
        (kept-place m origin t d b more o r it k x there (truncated-within m b x.course.place x.course.ending.end r.file cut.0 cut.2) bytes bytes r.offset i 0 (byte x x.course.ending.end cut.0 i cut.1 cut.2)).1
        (λ untouched.
        let is_zero = all x.course.place x.course.ending.end cut.0 i v.0 cut.2 (ltb-true x.course.ending.end r.place ended) cut.1 (omega (arith, low)) v.1 untouched in
        let is = v.1 ∙ ap (λ z. Some z) is_zero in record { first = is; second = is }))

    shown : CutAt m origin t b r → shows_cuts t d (length b) r ≡ true
    shown all = all-from (cuts_one t d (length b) r) d.operations.items (λ k x there.
        fourth-from (ended_before x.course r.place) (is_done x.course (length b)) (is_of x r.file) (shows_cut t d (question_of t (length b) r) r x.course)
        (λ ended done of_it. one-op all k x there ended done of_it (cut_size x.course.work) refl))

-- ---- what was written past the end

abbrev pub NonePast : Modes → Origin → Trace → List Entry → Reading → ℕ → Type 0
NonePast m origin t b r stop = (w e i v : ℕ) → Wrote m b w e r.file i v → e < r.place → stop ≤ i → (Touched m origin (start_of b (server_at t)) w r.end r.file i → ⊥) → ⊥

nothing : (i v : ℕ) → BothHave [] [] 0 i v → ⊥
nothing i v has = let it : slice_get [] i ≡ Some v = sym (from-zero [] i) ∙ has.first in absurd cc

pub past-decides : (m : Modes) (origin : Origin) (t : Trace) (d : Digest) (b more : List Entry) (o : ℕ) (r : Reading) → IsRead m origin t d b more o r → (stop : ℕ) → Decides (wrote_none_past t d (length b) r stop) (NonePast m origin t b r stop)
unfolding is_changed_from
past-decides m origin t d b more o r it stop = (told, shown)
  where
    byte : (x : Operation) (y i v : ℕ) → Wrote m b x.course.place y r.file i v → byte_of t.entries.items x.course.place i ≡ Some v
    byte x y i v wrote = subst (λ (h : List Entry). byte_of h x.course.place i ≡ Some v) it.begins.whole (byte-wrote m b more x.course.place y r.file i v wrote)

    told : wrote_none_past t d (length b) r stop ≡ true → NonePast m origin t b r stop
    told all w e i v wrote before low untouched =
        let op = listed m origin b more d.operations.items w (operations-of m origin t d b more it.begins) (begun-of m b w e r.file i v wrote) in
        let here : Wrote m b op.1.course.place e r.file i v = subst (λ (z : ℕ). Wrote m b z e r.file i v) (sym op.3) wrote in
        let shows_it = wrote-shown m origin b more op.1 ((operations-of m origin t d b more it.begins).each op.0 op.1 op.2) r.file e i v here in
        let ended : ended_before op.1.course r.place ≡ true = lt-ltb op.1.course.ending.end r.place (let same = shows_it.2 in omega (arith, same, before)) in
        let one = third (ended_before op.1.course r.place) (wrote_to op.1 (length b) r.file) (is_changed_past t d (question_of t (length b) r) op.1.course stop) ended shows_it.0
        (all-holds (past_one t d (length b) r stop) d.operations.items op.0 op.1 all op.2) in
        let g = range-of op.1.course.work i shows_it.1 in
        let inside = subst (λ (z : Option (ℕ × ℕ)). changed_in t d (question_of t (length b) r) op.1.course stop z ≡ true) g.is one in
        let gl = g.low in
        let kept = places-told (is_kept t.entries.items d op.1.course (question_of t (length b) r) [] [] 0) (max g.r.0 stop) g.r.1 inside i (omega (arith, gl, low)) g.high in
        nothing i v ((kept-place m origin t d b more o r it op.0 op.1 op.2 (wrote-within m b op.1.course.place e r.file i v here) [] [] 0 i v (byte op.1 e i v here)).0 kept
        (λ touched. untouched (subst (λ (z : ℕ). Touched m origin (start_of b (server_at t)) z r.end r.file i) op.3 touched)))

    one-op : NonePast m origin t b r stop → (k : ℕ) (x : Operation) → slice_get d.operations.items k ≡ Some x → ended_before x.course r.place ≡ true → wrote_to x (length b) r.file ≡ true → (g : Option (ℕ × ℕ)) → range x.course.work ≡ g
        → changed_in t d (question_of t (length b) r) x.course stop g ≡ true
    one-op all k x there ended wrote None e = refl
    one-op all k x there ended wrote (Some g) e =
        places-shown (is_kept t.entries.items d x.course (question_of t (length b) r) [] [] 0) (max g.0 stop) g.1 (λ i low high.
        let c = range-covers x.course.work g i e (omega (arith, low)) high in
        let w = wrote-told m origin b more x ((operations-of m origin t d b more it.begins).each k x there) r.file i wrote c in
        (kept-place m origin t d b more o r it k x there (wrote-within m b x.course.place x.course.ending.end r.file i w.0 w.1) [] [] 0 i w.0 (byte x x.course.ending.end i w.0 w.1)).1
        (λ untouched. absurd (all x.course.place x.course.ending.end i w.0 w.1 (ltb-true x.course.ending.end r.place ended) (omega (arith, low)) untouched)))

    shown : NonePast m origin t b r stop → wrote_none_past t d (length b) r stop ≡ true
    shown all = all-from (past_one t d (length b) r stop) d.operations.items (λ k x there.
        third-from (ended_before x.course r.place) (wrote_to x (length b) r.file) (is_changed_past t d (question_of t (length b) r) x.course stop)
        (λ ended wrote. one-op all k x there ended wrote (range x.course.work) refl))

-- ---- the rules of one read

-- a read of the beginning shows what it may
pub record ShowsWell (m : Modes) (origin : Origin) (t : Trace) (b : List Entry) (o : ℕ) (r : Reading) : Type 0 where
  pub current : CurrentBy m origin t b o r
  pub own : OwnAt m origin t b r
  pub cut : CutAt m origin t b r

pub well-decides : (m : Modes) (origin : Origin) (t : Trace) (d : Digest) (b more : List Entry) (o : ℕ) (r : Reading) → IsRead m origin t d b more o r → Decides (shows_well t d (length b) r) (ShowsWell m origin t b o r)
unfolding shows_well
well-decides m origin t d b more o r it = (
  λ x. elim (or_cases (nat_le (length b) r.end) (is_current t d (length b) r && shows_own t d (length b) r && shows_cuts t d (length b) r) x) [
    | inl late ↦ let le : length b ≤ r.end = leb-true (length b) r.end late in let below = it.below in absurd (omega (arith, le, below))
    | inr y ↦
        let two = and_parts (is_current t d (length b) r && shows_own t d (length b) r) (shows_cuts t d (length b) r) y in
        let one = and_parts (is_current t d (length b) r) (shows_own t d (length b) r) two.0 in
        record { current = (current-decides m origin t d b more o r it).0 one.0; own = (own-decides m origin t d b more o r it).0 one.1; cut = (cut-decides m origin t d b more o r it).0 two.1 }
  ],
  λ w. or_right (nat_le (length b) r.end) (is_current t d (length b) r && shows_own t d (length b) r && shows_cuts t d (length b) r)
      (and_from (is_current t d (length b) r && shows_own t d (length b) r) (shows_cuts t d (length b) r)
      (and_from (is_current t d (length b) r) (shows_own t d (length b) r) ((current-decides m origin t d b more o r it).1 w.current) ((own-decides m origin t d b more o r it).1 w.own))
      ((cut-decides m origin t d b more o r it).1 w.cut)),
)

-- and ends where it may
abbrev pub EndsWell : Modes → Origin → Trace → List Entry → ℕ → Reading → Type 0
EndsWell m origin t b o r = length (shown_bytes t r) < r.count → EndsRightly m origin (start_of b (server_at t)) r.place r.end o r.file (stop_of t r)

pub end-decides : (m : Modes) (origin : Origin) (t : Trace) (d : Digest) (b more : List Entry) (o : ℕ) (r : Reading) → IsRead m origin t d b more o r → Decides (ends_well t d (length b) r) (EndsWell m origin t b o r)
unfolding ends_well
end-decides m origin t d b more o r it = (told, shown)
  where
    rest : Bool
    rest = is_short t r (stop_of t r) && wrote_none_past t d (length b) r (stop_of t r)

    told : (nat_le (length b) r.end || nat_le r.count (length (shown_bytes t r)) || rest) ≡ true → EndsWell m origin t b o r
    told x less = elim (or_cases (nat_le (length b) r.end || nat_le r.count (length (shown_bytes t r))) rest x) [
      | inl y ↦ elim (or_cases (nat_le (length b) r.end) (nat_le r.count (length (shown_bytes t r))) y) [
        | inl late ↦ let le : length b ≤ r.end = leb-true (length b) r.end late in let below = it.below in absurd (omega (arith, le, below))
        | inr full ↦ let le : r.count ≤ length (shown_bytes t r) = leb-true r.count (length (shown_bytes t r)) full in absurd (omega (arith, le, less))
      ]
      | inr y ↦
          let two = and_parts (is_short t r (stop_of t r)) (wrote_none_past t d (length b) r (stop_of t r)) y in
          record { short = (short-decides m origin t d b more o r it (stop_of t r)).0 two.0; own = (past-decides m origin t d b more o r it (stop_of t r)).0 two.1 }
    ]

    shown : EndsWell m origin t b o r → (nat_le (length b) r.end || nat_le r.count (length (shown_bytes t r)) || rest) ≡ true
    shown ends = elim (cases_lt (length (shown_bytes t r)) r.count) [
      | inl less ↦
          let e = ends less in
          or_right (nat_le (length b) r.end || nat_le r.count (length (shown_bytes t r))) rest
          (and_from (is_short t r (stop_of t r)) (wrote_none_past t d (length b) r (stop_of t r)) ((short-decides m origin t d b more o r it (stop_of t r)).1 e.short) ((past-decides m origin t d b more o r it (stop_of t r)).1 e.own))
      | inr le ↦ or_left (nat_le (length b) r.end || nat_le r.count (length (shown_bytes t r))) rest
          (or_right (nat_le (length b) r.end) (nat_le r.count (length (shown_bytes t r))) (le-leb r.count (length (shown_bytes t r)) le))
    ]
