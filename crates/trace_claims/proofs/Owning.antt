-- What the tests on an operation with its files tell of a beginning of its history.
use Rattle.std.proofs.Common.{◌≡◌, ◌<◌, ◌≤◌, ◌+◌, ◌-◌, inl, inr, ℕ, zero, suc, Bool, true, false, List, [], ◌∷◌, ◌++◌, length, Option, Some, None, slice_get, refl, sym, ◌∙◌, ap, subst, arith}
use Rattle.std.specs.Prelude.{Decides, ◌||◌, nat_lt, nat_le}
use Rattle.std.specs.List.{list_any}
use Rattle.std.proofs.lemmas.Bool.{ltb-true, leb-true, le-leb, and_parts, and_from, or_cases}
use Rattle.std.proofs.lemmas.Slice.Eq.{bytes_eq-Decides}
use Rattle.world_model.specs.declared.answer.Answer.TheVariants.{Done}
use Rattle.world_model.specs.declared.answer.Value.{Value}
use Rattle.world_model.specs.declared.entry.Entry.{Entry}
use Rattle.world_model.specs.declared.entry.Entry.TheVariants.{Began}
use Rattle.world_model.specs.declared.op.Op.{Op}
use Rattle.world_model.specs.declared.op.Op.TheVariants as ops
use Rattle.world_model.specs.Mounts.{Origin}
use Rattle.world_model.specs.Operations.{Ended}
use Rattle.world_model.proofs.Places.{At-back}
use Rattle.claims.specs.Modes.{Modes}
use Rattle.claims.specs.Slots.{InSlot, slot_of, IsOf, PutsTo}
use Rattle.claims.specs.Touched as touching
use Rattle.claims.specs.Touched.{Cuts, MadeStable}
use Rattle.trace_claims.specs.declared.courses.Course.{Course}
use Rattle.trace_claims.specs.declared.courses.Work.{Work}
use Rattle.trace_claims.specs.declared.courses.Work.TheVariants as works
use Rattle.trace_claims.specs.declared.operations.Hold.{Hold}
use Rattle.trace_claims.specs.declared.operations.Operation.{Operation}
use Rattle.trace_claims.specs.Courses.{IsCourse, work_of, slot_of_work, is_done, succeeds}
use Rattle.trace_claims.specs.Operations.{holds_file, is_of, named_is, if_stabilizer, if_cut, made_stable, cuts, IsFileOf, opened, put, FindsFile, HasHold, HoldsFor, IsOperation}
use Rattle.trace_claims.proofs.Frames.{IsOf-grow}
use Rattle.trace_claims.proofs.SettledFrame.{InSlot-back, PutsTo-back}
use Rattle.trace_claims.proofs.Telling.{course-op, course-lane, course-work, done-ended}

-- ---- lists

pub any-there : {X : Type 0} (p : X → Bool) (xs : List X) (k : ℕ) (x : X) → slice_get xs k ≡ Some x → p x ≡ true → list_any p xs ≡ true
any-there p [] k x at t = absurd cc
any-there {X = X} p (y ∷ xs) zero x at t = first (p y) (list_any p xs) (subst (λ z. p z ≡ true) (sym (some y x at)) t)
  where
    some : (a b : X) → Some a ≡ Some b → a ≡ b
    some a b e = cc

    first : (a b : Bool) → a ≡ true → (a || b) ≡ true
    first true b e = refl
    first false b e = absurd cc
any-there p (y ∷ xs) (suc k) x at t = later (p y) (list_any p xs) (any-there p xs k x at t)
  where
    later : (a b : Bool) → b ≡ true → (a || b) ≡ true
    later true b e = refl
    later false b e = e

pub any-found : {X : Type 0} (p : X → Bool) (xs : List X) → list_any p xs ≡ true → (k : ℕ) × (x : X) × (slice_get xs k ≡ Some x) × (p x ≡ true)
any-found p [] t = absurd cc
any-found p (y ∷ xs) t = elim (or_cases (p y) (list_any p xs) t) [
  | inl here ↦ (zero, y, refl, here)
  | inr rest ↦ let r = any-found p xs rest in (suc r.0, r.1, r.2, r.3)
]

-- ---- slots

slot-same : (op : Op) → slot_of_work (work_of op) ≡ slot_of op
slot-same (ops.OpenFile slot mode path) = refl
slot-same (ops.Read slot offset count) = refl
slot-same (ops.Write slot offset bytes) = refl
slot-same (ops.Fill slot offset count byte) = refl
slot-same (ops.Put path offset bytes) = refl
slot-same (ops.Sync slot) = refl
slot-same (ops.Close slot) = refl
slot-same (ops.Truncate slot size) = refl
slot-same (ops.Stat path) = refl
slot-same (ops.Access path bits) = refl
slot-same (ops.MakeDir path) = refl
slot-same (ops.RemoveDir path) = refl
slot-same (ops.Remove path) = refl
slot-same (ops.Rename from to) = refl
slot-same (ops.Link from to) = refl
slot-same (ops.SymLink path target) = refl
slot-same (ops.ReadLink path) = refl
slot-same (ops.List path) = refl

-- the slot of an operation holds the file, if the test says so
pub of-told : (m : Modes) (origin : Origin) (b more : List Entry) (o : Operation) (is : IsOperation m origin (b ++ more) o) (f : List ℕ) → o.course.place < length b → is_of o f ≡ true → IsOf m b o.course.place is.course.op f
of-told m origin b more o is f below t = by (slot_of_work o.course.work) refl is.holds
  where
    found : (k : ℕ) × (hold : Hold) × (slice_get o.holds.items k ≡ Some hold) × (holds_file f hold ≡ true)
    found = any-found (holds_file f) o.holds.items t

    none : (holds : List Hold) → holds ≡ [] → (k : ℕ) (hold : Hold) → slice_get holds k ≡ Some hold → ⊥
    none [] e k hold at = cc
    none (x ∷ xs) e k hold at = cc

    by : (s : Option ℕ) → slot_of_work o.course.work ≡ s → HoldsFor m (b ++ more) o.course s o.holds.items → IsOf m b o.course.place is.course.op f
    by None e nothing = absurd (none o.holds.items nothing found.0 found.1 found.2)
    by (Some slot) e all = record {
      lane = o.course.lane;
      line = is.course.line;
      slot = slot;
      open_at = found.1.opened_at;
      began = At-back b more o.course.place (Began o.course.lane is.course.line is.course.op) is.course.began below;
      works_on = sym (slot-same is.course.op) ∙ ap slot_of_work (sym is.course.does) ∙ e;
      holds = subst (λ (z : List ℕ). InSlot m b o.course.place o.course.lane slot found.1.opened_at z) ((bytes_eq-Decides found.1.file f).0 found.3)
          (InSlot-back m b more o.course.place o.course.lane slot found.1.opened_at found.1.file (omega (arith, below)) (all.each found.0 found.1 found.2));
    }

pub of-shown : (m : Modes) (origin : Origin) (b more : List Entry) (o : Operation) (is : IsOperation m origin (b ++ more) o) (op : Op) (f : List ℕ) → IsOf m b o.course.place op f → is_of o f ≡ true
of-shown m origin b more o is op f short = by (slot_of_work o.course.work) refl is.holds
  where
    of : IsOf m (b ++ more) o.course.place op f
    of = IsOf-grow m b more o.course.place op f short

    slot : slot_of_work o.course.work ≡ Some of.slot
    slot = ap slot_of_work (course-work (b ++ more) o.course is.course of.lane of.line op of.began) ∙ slot-same op ∙ of.works_on

    lane : o.course.lane ≡ of.lane
    lane = course-lane (b ++ more) o.course is.course of.lane of.line op of.began

    number : (n k : ℕ) → Some n ≡ Some k → n ≡ k
    number n k e = cc

    by : (s : Option ℕ) → slot_of_work o.course.work ≡ s → HoldsFor m (b ++ more) o.course s o.holds.items → is_of o f ≡ true
    by None e nothing = let no_way : None ≡ Some of.slot = sym e ∙ slot in absurd cc
    by (Some s) e all =
        let same : s ≡ of.slot = number s of.slot (sym e ∙ slot) in
        let has : HasHold o.holds.items of.open_at f = all.every of.open_at f (rw (lane, same) of.holds) in
        any-there (holds_file f) o.holds.items has.0 has.1 has.2 ((bytes_eq-Decides has.1.file f).1 has.4)

-- ---- truncates

pub cut-op : (op : Op) (i : ℕ) (a : Bool) → if_cut (work_of op) i a ≡ true → (slot : ℕ) × (size : ℕ) × (op ≡ ops.Truncate slot size) × (size ≤ i) × (a ≡ true)
cut-op (ops.Truncate slot size) i a t = let parts = and_parts (nat_le size i) a t in (slot, size, refl, leb-true size i parts.0, parts.1)
cut-op (ops.OpenFile slot mode path) i a t = absurd cc
cut-op (ops.Read slot offset count) i a t = absurd cc
cut-op (ops.Write slot offset bytes) i a t = absurd cc
cut-op (ops.Fill slot offset count byte) i a t = absurd cc
cut-op (ops.Put path offset bytes) i a t = absurd cc
cut-op (ops.Sync slot) i a t = absurd cc
cut-op (ops.Close slot) i a t = absurd cc
cut-op (ops.Stat path) i a t = absurd cc
cut-op (ops.Access path bits) i a t = absurd cc
cut-op (ops.MakeDir path) i a t = absurd cc
cut-op (ops.RemoveDir path) i a t = absurd cc
cut-op (ops.Remove path) i a t = absurd cc
cut-op (ops.Rename from to) i a t = absurd cc
cut-op (ops.Link from to) i a t = absurd cc
cut-op (ops.SymLink path target) i a t = absurd cc
cut-op (ops.ReadLink path) i a t = absurd cc
cut-op (ops.List path) i a t = absurd cc

-- a truncate of the file to at most i, in a beginning in which it began
pub cuts-decides : (m : Modes) (origin : Origin) (b more : List Entry) (o : Operation) → IsOperation m origin (b ++ more) o → (f : List ℕ) (i : ℕ) → o.course.place < length b → Decides (cuts o f i) (Cuts m b o.course.place f i)
cuts-decides m origin b more o is f i below = (told, shown)
  where
    told : cuts o f i ≡ true → Cuts m b o.course.place f i
    told t =
        let cut = cut-op is.course.op i (is_of o f) (sym (ap (λ (w : Work). if_cut w i (is_of o f)) is.course.does) ∙ t) in
        record {
          slot = cut.0;
          size = cut.1;
          of = subst (λ (op : Op). IsOf m b o.course.place op f) cut.2 (of-told m origin b more o is f below cut.4);
          low = cut.3;
        }

    shown : Cuts m b o.course.place f i → cuts o f i ≡ true
    shown c =
        let long = IsOf-grow m b more o.course.place (ops.Truncate c.slot c.size) f c.of in
        ap (λ (w : Work). if_cut w i (is_of o f)) (course-work (b ++ more) o.course is.course long.lane long.line (ops.Truncate c.slot c.size) long.began)
        ∙ and_from (nat_le c.size i) (is_of o f) (le-leb c.size i c.low) (of-shown m origin b more o is (ops.Truncate c.slot c.size) f c.of)

-- ---- the file of an open or put

pub named-told : (m : Modes) (h : List Entry) (c : Course) (named : Option (List ℕ)) (f : List ℕ) → FindsFile m h c named → named_is f named ≡ true → IsFileOf m h c f
named-told m h c None f finds t = absurd cc
named-told m h c (Some g) f finds t = subst (λ (z : List ℕ). IsFileOf m h c z) ((bytes_eq-Decides g f).0 t) finds.is

pub named-shown : (m : Modes) (h : List Entry) (c : Course) (named : Option (List ℕ)) (f : List ℕ) → FindsFile m h c named → IsFileOf m h c f → named_is f named ≡ true
named-shown m h c None f finds is = absurd (finds f is)
named-shown m h c (Some g) f finds is = (bytes_eq-Decides g f).1 (sym (finds.only f is))

-- a put is of the file that its last call names
pub file-put : (m : Modes) (h : List Entry) (c : Course) (is : IsCourse h c) (f : List ℕ) (path : List (List ℕ)) (offset : ℕ) (bytes : List ℕ) → is.op ≡ ops.Put path offset bytes → IsFileOf m h c f → PutsTo h c.place c.ending.end f offset bytes
file-put m h c is f path offset bytes same (opened lane slot opens) =
    let other : is.op ≡ ops.OpenFile slot opens.mode opens.path = course-op h c is lane opens.ended.line (ops.OpenFile slot opens.mode opens.path) opens.ended.began in
    let no_way : ops.OpenFile slot opens.mode opens.path ≡ ops.Put path offset bytes = sym other ∙ same in
    absurd cc
file-put m h c is f path offset bytes same (put at given puts) =
    let other : is.op ≡ ops.Put puts.path at given = course-op h c is puts.lane puts.ended.line (ops.Put puts.path at given) puts.ended.began in
    moved (sym other ∙ same)
  where
    offsets : (p q : List (List ℕ)) (x y : ℕ) (s t : List ℕ) → ops.Put p x s ≡ ops.Put q y t → x ≡ y
    offsets p q x y s t e = cc

    texts : (p q : List (List ℕ)) (x y : ℕ) (s t : List ℕ) → ops.Put p x s ≡ ops.Put q y t → s ≡ t
    texts p q x y s t e = cc

    moved : ops.Put puts.path at given ≡ ops.Put path offset bytes → PutsTo h c.place c.ending.end f offset bytes
    moved e = rw (sym (offsets puts.path path at offset given bytes e), sym (texts puts.path path at offset given bytes e)) puts

-- ---- what makes a file stable

-- a sync or close of the slot's file, or a put of the named one
data StableOp (op : Op) (a n : Bool) : Type 0 where
  sync : (slot : ℕ) → op ≡ ops.Sync slot → a ≡ true → StableOp op a n
  close : (slot : ℕ) → op ≡ ops.Close slot → a ≡ true → StableOp op a n
  puts_it : (path : List (List ℕ)) (offset : ℕ) (bytes : List ℕ) → op ≡ ops.Put path offset bytes → n ≡ true → StableOp op a n

stable-op : (op : Op) (a n : Bool) → if_stabilizer (work_of op) a n ≡ true → StableOp op a n
stable-op (ops.Sync slot) a n t = sync slot refl t
stable-op (ops.Close slot) a n t = close slot refl t
stable-op (ops.Put path offset bytes) a n t = puts_it path offset bytes refl t
stable-op (ops.Truncate slot size) a n t = absurd cc
stable-op (ops.OpenFile slot mode path) a n t = absurd cc
stable-op (ops.Read slot offset count) a n t = absurd cc
stable-op (ops.Write slot offset bytes) a n t = absurd cc
stable-op (ops.Fill slot offset count byte) a n t = absurd cc
stable-op (ops.Stat path) a n t = absurd cc
stable-op (ops.Access path bits) a n t = absurd cc
stable-op (ops.MakeDir path) a n t = absurd cc
stable-op (ops.RemoveDir path) a n t = absurd cc
stable-op (ops.Remove path) a n t = absurd cc
stable-op (ops.Rename from to) a n t = absurd cc
stable-op (ops.Link from to) a n t = absurd cc
stable-op (ops.SymLink path target) a n t = absurd cc
stable-op (ops.ReadLink path) a n t = absurd cc
stable-op (ops.List path) a n t = absurd cc

-- the file was made stable, in a beginning in which it was
pub made-told : (m : Modes) (origin : Origin) (b more : List Entry) (o : Operation) → IsOperation m origin (b ++ more) o → (f : List ℕ) → made_stable o (length b) f ≡ true → MadeStable m b o.course.place o.course.ending.end f
made-told m origin b more o is f t = by (stable-op is.course.op (is_of o f) (named_is f o.named) (sym (ap (λ (w : Work). if_stabilizer w (is_of o f) (named_is f o.named)) is.course.does) ∙ parts.1))
  where
    parts : (is_done o.course (length b) ≡ true) × (if_stabilizer o.course.work (is_of o f) (named_is f o.named) ≡ true)
    parts = and_parts (is_done o.course (length b)) (if_stabilizer o.course.work (is_of o f) (named_is f o.named)) t

    ended : (value : Value) × Ended b o.course.lane o.course.place is.course.op o.course.ending.end (Done value)
    ended = done-ended b more o.course (length b) is.course (omega arith) parts.0

    low : o.course.ending.end < length b
    low = ltb-true o.course.ending.end (length b) (and_parts (succeeds o.course.ending.outcome) (nat_lt o.course.ending.end (length b)) parts.0).1

    below : o.course.place < length b
    below = let later : o.course.place < o.course.ending.end = ended.1.later in omega (arith, later, low)

    by : StableOp is.course.op (is_of o f) (named_is f o.named) → MadeStable m b o.course.place o.course.ending.end f
    by (sync slot same a) = touching.sync o.course.lane slot ended.0 (subst (λ (op : Op). IsOf m b o.course.place op f) same (of-told m origin b more o is f below a)) (subst (λ (op : Op). Ended b o.course.lane o.course.place op o.course.ending.end (Done ended.0)) same ended.1)
    by (close slot same a) = touching.close o.course.lane slot ended.0 (subst (λ (op : Op). IsOf m b o.course.place op f) same (of-told m origin b more o is f below a)) (subst (λ (op : Op). Ended b o.course.lane o.course.place op o.course.ending.end (Done ended.0)) same ended.1)
    by (puts_it path offset bytes same n) =
        touching.put offset bytes (PutsTo-back b more o.course.place o.course.ending.end f offset bytes low
        (file-put m (b ++ more) o.course is.course f path offset bytes same (named-told m (b ++ more) o.course o.named f is.named n)))
