-- The test whether what an operation wrote is held decides that; and so whether a beginning keeps what was settled.
use Rattle.std.proofs.Common.{◌≡◌, ◌≤◌, ◌+◌, inl, inr, ℕ, Bool, true, false, true≢false, List, ◌++◌, length, Option, Some, None, slice_get, refl, sym, ◌∙◌, subst, arith}
use Rattle.std.specs.Prelude.{Decides, ◌↔◌, take, drop}
use Rattle.std.proofs.lemmas.Bool.{cases_Bool, or_cases, or_left, or_right}
use Rattle.std.proofs.lemmas.List.{take-append-drop, length-take-le}
use Rattle.std.proofs.lemmas.Option.{slice_get_within}
use Rattle.world_model.specs.declared.entry.Entry.{Entry}
use Rattle.world_model.specs.declared.entry.Entry.TheVariants.{Began}
use Rattle.world_model.specs.declared.op.Op.TheVariants as ops
use Rattle.world_model.specs.Mounts.{Origin}
use Rattle.world_model.proofs.Places.{At-below}
use Rattle.claims.specs.Modes.{Modes}
use Rattle.claims.specs.Settled.{Settled}
use Rattle.claims.specs.Touched as touching
use Rattle.claims.specs.Touched.{Wrote, Touched}
use Rattle.trace_data.specs.declared.trace.Trace.{Trace}
use Rattle.trace_data.specs.Histories.{server_at}
use Rattle.trace_claims.specs.declared.digest.Digest.{Digest}
use Rattle.trace_claims.specs.declared.keeping.Question.{Question}
use Rattle.trace_claims.specs.declared.operations.Operation.{Operation}
use Rattle.trace_claims.specs.Bytes.{byte_of, shows}
use Rattle.trace_claims.specs.Courses.{range, covers}
use Rattle.trace_claims.specs.Described.{Describes}
use Rattle.trace_claims.specs.Held as kept
use Rattle.trace_claims.specs.Held.{start_of, IsHeld}
use Rattle.trace_claims.specs.Keeping.{is_touched, is_kept}
use Rattle.trace_claims.specs.Objects.{now_at, stable_at, is_gone_at}
use Rattle.trace_claims.specs.Operations.{wrote_to, IsOperation}
use Rattle.trace_claims.specs.Staying.{question_at, held_in, held_by_range, is_held, AllStaySo}
use Rattle.trace_claims.specs.Touching.{HasOperations, HasForeign, HasLeft}
use Rattle.trace_claims.proofs.Giving.{touched-decides}
use Rattle.trace_claims.proofs.Moments.{beginning-settled}
use Rattle.trace_claims.proofs.Placing.{places-told, places-shown}
use Rattle.trace_claims.proofs.Showing.{byte-wrote, shows-told, shows-shown, holds-told, holds-shown, gone-decides, range-of, range-covers}
use Rattle.trace_claims.proofs.Writing.{wrote-told, wrote-shown}

-- ---- touched

-- the digest is that of a history of which b is the beginning
pub record Begins (m : Modes) (origin : Origin) (t : Trace) (d : Digest) (b more : List Entry) : Type 0 where
  pub all : Describes m origin t d
  pub whole : b ++ more ≡ t.entries.items

pub operations-of : (m : Modes) (origin : Origin) (t : Trace) (d : Digest) (b more : List Entry) → Begins m origin t d b more → HasOperations m origin (b ++ more) d.operations.items
operations-of m origin t d b more is = subst (λ (h : List Entry). HasOperations m origin h d.operations.items) (sym is.whole) is.all.operations

pub is-touched-decides : (m : Modes) (origin : Origin) (t : Trace) (d : Digest) (b more : List Entry) → Begins m origin t d b more → (k : ℕ) (o : Operation) → slice_get d.operations.items k ≡ Some o
    → (p : ℕ) (f : List ℕ) (i : ℕ) → o.course.place ≤ length b → p ≤ length b → Decides (is_touched d o.course (question_at t (length b) p f) i) (Touched m origin (start_of b (server_at t)) o.course.place p f i)
unfolding is_touched
is-touched-decides m origin t d b more is k o there p f i began within =
    let has = operations-of m origin t d b more is in
    touched-decides m origin b more (server_at t) d.operations.items d.foreign.items d.left.items has
    (subst (λ (h : List Entry). HasForeign (start_of h (server_at t)) d.foreign.items) (sym is.whole) is.all.foreign)
    (subst (λ (h : List Entry). HasLeft m h d.left.items) (sym is.whole) is.all.left)
    o.course (has.each k o there).course p f i began within (is_gone_at t p f) (gone-decides t p f)

-- ---- held

-- what was written began before
pub wrote-within : (m : Modes) (b : List Entry) (x y : ℕ) (f : List ℕ) (i v : ℕ) → Wrote m b x y f i v → x ≤ length b
wrote-within m b x y f i v (touching.write lane slot offset bytes value of ended covered) = let it = At-below b x (Began of.lane of.line (ops.Write slot offset bytes)) of.began in omega (arith, it)
wrote-within m b x y f i v (touching.fill lane slot offset count value of ended low high) = let it = At-below b x (Began of.lane of.line (ops.Fill slot offset count v)) of.began in omega (arith, it)
wrote-within m b x y f i v (touching.put offset bytes puts covered) = let it = At-below b x (Began puts.lane puts.ended.line (ops.Put puts.path offset bytes)) puts.ended.began in omega (arith, it)

-- the test decides whether each byte that was written is held at the moment, or touched
pub held-decides : (m : Modes) (origin : Origin) (t : Trace) (d : Digest) (b more : List Entry) → Begins m origin t d b more → (k : ℕ) (o : Operation) → slice_get d.operations.items k ≡ Some o
    → (f : List ℕ) → wrote_to o (length b) f ≡ true → (p : ℕ) → p ≤ length b → Decides (is_held t d (length b) o.course p f) (IsHeld m origin b (server_at t) o f p)
unfolding is_held held_in
held-decides m origin t d b more is k o there f written p within = (told, λ held. shown held (range o.course.work) refl)
  where
    op : IsOperation m origin (b ++ more) o
    op = (operations-of m origin t d b more is).each k o there

    q : Question
    q = question_at t (length b) p f

    byte : (y i v : ℕ) → Wrote m b o.course.place y f i v → byte_of t.entries.items o.course.place i ≡ Some v
    byte y i v wrote = subst (λ (h : List Entry). byte_of h o.course.place i ≡ Some v) is.whole (byte-wrote m b more o.course.place y f i v wrote)

    touched : (i v : ℕ) → Wrote m b o.course.place o.course.ending.end f i v → Decides (is_touched d o.course q i) (Touched m origin (start_of b (server_at t)) o.course.place p f i)
    touched i v wrote = is-touched-decides m origin t d b more is k o there p f i (wrote-within m b o.course.place o.course.ending.end f i v wrote) within

    told : is_held t d (length b) o.course p f ≡ true → IsHeld m origin b (server_at t) o f p
    told held i v wrote untouched =
        let r = range-of o.course.work i (wrote-shown m origin b more o op f o.course.ending.end i v wrote).1 in
        let inside = subst (λ (z : Option (ℕ × ℕ)). held_by_range t d (length b) o.course p f z ≡ true) r.is held in
        let one = places-told (is_kept t.entries.items d o.course q (now_at t p f) (stable_at t p f) 0) r.r.0 r.r.1 inside i r.low r.high in
        elim (or_cases (shows t.entries.items o.course.place (now_at t p f) (stable_at t p f) 0 i) (is_touched d o.course q i) one) [
          | inl shown ↦ holds-told t p f i v (shows-told t.entries.items o.course.place (now_at t p f) (stable_at t p f) 0 i v (byte o.course.ending.end i v wrote) shown)
          | inr it ↦ absurd (untouched ((touched i v wrote).0 it))
        ]

    one-place : IsHeld m origin b (server_at t) o f p → (i : ℕ) → covers o.course.work i ≡ true → is_kept t.entries.items d o.course q (now_at t p f) (stable_at t p f) 0 i ≡ true
    one-place held i c =
        let wrote = wrote-told m origin b more o op f i written c in
        elim (cases_Bool (is_touched d o.course q i)) [
          | inl it ↦ or_right (shows t.entries.items o.course.place (now_at t p f) (stable_at t p f) 0 i) (is_touched d o.course q i) it
          | inr not_it ↦ or_left (shows t.entries.items o.course.place (now_at t p f) (stable_at t p f) 0 i) (is_touched d o.course q i)
              (shows-shown t.entries.items o.course.place (now_at t p f) (stable_at t p f) 0 i wrote.0 (byte o.course.ending.end i wrote.0 wrote.1)
              (holds-shown t p f i wrote.0 (held i wrote.0 wrote.1 (λ x. true≢false (sym ((touched i wrote.0 wrote.1).1 x) ∙ not_it)))))
        ]

    shown : IsHeld m origin b (server_at t) o f p → (r : Option (ℕ × ℕ)) → range o.course.work ≡ r → held_by_range t d (length b) o.course p f r ≡ true
    shown held None e = refl
    shown held (Some r) e = places-shown (is_kept t.entries.items d o.course q (now_at t p f) (stable_at t p f) 0) r.0 r.1 (λ i low high. one-place held i (range-covers o.course.work r i e low high))

-- ---- settled

all-told : (m : Modes) (origin : Origin) (t : Trace) (d : Digest) (b more : List Entry) → Begins m origin t d b more → AllStaySo t d (length b) → kept.AllStay m origin b (server_at t) d.operations.items
all-told m origin t d b more is all k o there f written first known p low high =
    (held-decides m origin t d b more is k o there f written p high).0 (all k o there (slice_get_within d.operations.items k o there) f written first known p low high)

all-shown : (m : Modes) (origin : Origin) (t : Trace) (d : Digest) (b more : List Entry) → Begins m origin t d b more → kept.AllStay m origin b (server_at t) d.operations.items → AllStaySo t d (length b)
all-shown m origin t d b more is all k o there lt f written first known p low high =
    (held-decides m origin t d b more is k o there f written p high).1 (all k o there f written first known p low high)

-- the first n entries keep what was settled, exactly where the tests say so
pub settled-decides : (m : Modes) (origin : Origin) (t : Trace) (d : Digest) (n : ℕ) → Describes m origin t d → n ≤ length t.entries.items → (b : Bool) → Decides b (AllStaySo t d n)
    → Decides b (Settled m origin (start_of (take n t.entries.items) (server_at t)))
settled-decides m origin t d n all within b decided = (
  λ x. both.0 (all-told m origin t d (take n t.entries.items) (drop n t.entries.items) is (subst (λ (k : ℕ). AllStaySo t d k) (sym long) (decided.0 x))),
  λ s. decided.1 (subst (λ (k : ℕ). AllStaySo t d k) long (all-shown m origin t d (take n t.entries.items) (drop n t.entries.items) is (both.1 s))),
)
  where
    is : Begins m origin t d (take n t.entries.items) (drop n t.entries.items)
    is = record { all = all; whole = take-append-drop n t.entries.items }

    long : length (take n t.entries.items) ≡ n
    long = length-take-le n t.entries.items within

    both : kept.AllStay m origin (take n t.entries.items) (server_at t) d.operations.items ↔ Settled m origin (start_of (take n t.entries.items) (server_at t))
    both = beginning-settled m origin t.entries.items (server_at t) d.operations.items n all.operations
