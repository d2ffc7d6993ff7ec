-- Bytes that a file has at a moment are shown exactly where the file holds what an operation wrote.
use Rattle.std.proofs.Common.{◌≡◌, ◌<◌, ◌≤◌, ◌+◌, ◌-◌, ℕ, true, false, true≢false, List, [], ◌++◌, Option, Some, None, slice_get, refl, sym, ◌∙◌, ap, subst, arith}
use Rattle.std.specs.Prelude.{◌&&◌, nat_le, nat_lt, Decides}
use Rattle.std.specs.Option.{option_map}
use Rattle.std.proofs.lemmas.Bool.{lt-ltb, le-leb, leb-true, ltb-true, and_parts, and_from, eqb-true, eq-eqb}
use Rattle.world_model.specs.declared.entry.Entry.{Entry}
use Rattle.world_model.specs.declared.entry.Entry.TheVariants.{Began}
use Rattle.world_model.specs.declared.op.Op.{Op}
use Rattle.world_model.specs.declared.op.Op.TheVariants as ops
use Rattle.world_model.specs.Entries.{At}
use Rattle.world_model.specs.Mounts.{Origin}
use Rattle.world_model.specs.Server as model
use Rattle.world_model.proofs.Places.{At-grow}
use Rattle.claims.specs.Modes.{Modes}
use Rattle.claims.specs.Settled.{HoldsStable}
use Rattle.claims.specs.Touched as touching
use Rattle.claims.specs.Touched.{Covers, WritesByte, Wrote, Truncated}
use Rattle.trace_data.specs.declared.trace.Trace.{Trace}
use Rattle.trace_data.specs.declared.trace.Object.{Object}
use Rattle.trace_data.specs.declared.trace.Contents.{Contents}
use Rattle.trace_data.specs.declared.trace.Contents.TheVariants.{File, Directory, Other}
use Rattle.trace_data.specs.Histories.{object_of, holds_of, server_at}
use Rattle.trace_claims.specs.declared.courses.Work.{Work}
use Rattle.trace_claims.specs.declared.courses.Work.TheVariants as works
use Rattle.trace_claims.specs.Bytes.{byte_from, filled, byte_of_op, byte_there, byte_of, same_byte, shows}
use Rattle.trace_claims.specs.Courses.{range, covers, within}
use Rattle.trace_claims.specs.Objects.{object_of_trace, now_of, stable_of, now_in, stable_in, gone_in, now_at, stable_at, is_gone_at}
use Rattle.trace_claims.proofs.Giving.{IsGone}

-- ---- the byte that an operation leaves

pub byte-at : (h : List Entry) (x lane line : ℕ) (op : Op) (i : ℕ) → At h x (Began lane line op) → byte_of h x i ≡ byte_of_op op i
unfolding byte_of
byte-at h x lane line op i at = ap (λ (o : Option Entry). byte_there o i) at

pub from-covers : (offset : ℕ) (bytes : List ℕ) (i v : ℕ) → Covers offset bytes i v → byte_from bytes offset i ≡ Some v
unfolding byte_from
from-covers offset bytes i v c =
    let low : nat_le offset i ≡ true = le-leb offset i (omega (arith, c.place)) in
    rw low (subst (λ (k : ℕ). slice_get bytes k ≡ Some v) (let is : c.k ≡ i - offset = omega (arith, c.place) in is) c.byte)

filled-is : (offset count v i : ℕ) → offset ≤ i → i < offset + count → filled offset count v i ≡ Some v
filled-is offset count v i low high = let t : (nat_le offset i && nat_lt i (offset + count)) ≡ true = and_from (nat_le offset i) (nat_lt i (offset + count)) (le-leb offset i low) (lt-ltb i (offset + count) high) in (rw t refl)

pub byte-wrote : (m : Modes) (b more : List Entry) (x y : ℕ) (f : List ℕ) (i v : ℕ) → Wrote m b x y f i v → byte_of (b ++ more) x i ≡ Some v
byte-wrote m b more x y f i v (touching.write lane slot offset bytes value of ended covered) =
    byte-at (b ++ more) x of.lane of.line (ops.Write slot offset bytes) i (At-grow b more x (Began of.lane of.line (ops.Write slot offset bytes)) of.began) ∙ from-covers offset bytes i v covered
byte-wrote m b more x y f i v (touching.fill lane slot offset count value of ended low high) =
    byte-at (b ++ more) x of.lane of.line (ops.Fill slot offset count v) i (At-grow b more x (Began of.lane of.line (ops.Fill slot offset count v)) of.began) ∙ filled-is offset count v i low high
byte-wrote m b more x y f i v (touching.put offset bytes puts covered) =
    byte-at (b ++ more) x puts.lane puts.ended.line (ops.Put puts.path offset bytes) i (At-grow b more x (Began puts.lane puts.ended.line (ops.Put puts.path offset bytes)) puts.ended.began) ∙ from-covers offset bytes i v covered

pub byte-writes : (m : Modes) (origin : Origin) (b more : List Entry) (x : ℕ) (f : List ℕ) (i v : ℕ) → WritesByte m origin b x f i v → byte_of (b ++ more) x i ≡ Some v
byte-writes m origin b more x f i v (touching.write slot offset bytes of covered) =
    byte-at (b ++ more) x of.lane of.line (ops.Write slot offset bytes) i (At-grow b more x (Began of.lane of.line (ops.Write slot offset bytes)) of.began) ∙ from-covers offset bytes i v covered
byte-writes m origin b more x f i v (touching.fill slot offset count of low high) =
    byte-at (b ++ more) x of.lane of.line (ops.Fill slot offset count v) i (At-grow b more x (Began of.lane of.line (ops.Fill slot offset count v)) of.began) ∙ filled-is offset count v i low high
byte-writes m origin b more x f i v (touching.put lane line offset n path bytes at ends leads covered) =
    byte-at (b ++ more) x lane line (ops.Put path offset bytes) i (At-grow b more x (Began lane line (ops.Put path offset bytes)) at) ∙ from-covers offset bytes i v covered

pub byte-cut : (m : Modes) (b more : List Entry) (x y : ℕ) (f : List ℕ) (size i : ℕ) → size ≤ i → Truncated m b x y f size → byte_of (b ++ more) x i ≡ Some 0
byte-cut m b more x y f size i low c =
    byte-at (b ++ more) x c.of.lane c.of.line (ops.Truncate c.slot size) i (At-grow b more x (Began c.of.lane c.of.line (ops.Truncate c.slot size)) c.of.began)
    ∙ (let t : nat_le size i ≡ true = le-leb size i low in rw t refl)

-- ---- the same byte

pub same-told : (a b : Option ℕ) (v : ℕ) → b ≡ Some v → same_byte a b ≡ true → a ≡ Some v
same-told a b v is t = by a (subst (λ (z : Option ℕ). same_byte a z ≡ true) is t)
  where
    by : (a : Option ℕ) → same_byte a (Some v) ≡ true → a ≡ Some v
    by None t = absurd (true≢false (sym t))
    by (Some x) t = ap (λ z. Some z) (eqb-true x v t)

pub same-shown : (a b : Option ℕ) (v : ℕ) → a ≡ Some v → b ≡ Some v → same_byte a b ≡ true
same-shown a b v x y = subst (λ (z : Option ℕ). same_byte z b ≡ true) (sym x) (subst (λ (z : Option ℕ). same_byte (Some v) z ≡ true) (sym y) (eq-eqb v v refl))

pub from-zero : (bytes : List ℕ) (i : ℕ) → byte_from bytes 0 i ≡ slice_get bytes i
unfolding byte_from
from-zero bytes i = let low : nat_le 0 i ≡ true = le-leb 0 i (omega arith) in rw low (subst (λ (k : ℕ). slice_get bytes k ≡ slice_get bytes i) (let is : i ≡ i - 0 = omega arith in is) refl)

pub record BothHave (now stable : List ℕ) (offset i v : ℕ) : Type 0 where
  pub first : byte_from now offset i ≡ Some v
  pub second : byte_from stable offset i ≡ Some v

pub shows-told : (h : List Entry) (x : ℕ) (now stable : List ℕ) (offset i v : ℕ) → byte_of h x i ≡ Some v → shows h x now stable offset i ≡ true → BothHave now stable offset i v
shows-told h x now stable offset i v is t =
    let two = and_parts (same_byte (byte_from now offset i) (byte_of h x i)) (same_byte (byte_from stable offset i) (byte_of h x i)) t in
    record { first = same-told (byte_from now offset i) (byte_of h x i) v is two.0; second = same-told (byte_from stable offset i) (byte_of h x i) v is two.1 }

pub shows-shown : (h : List Entry) (x : ℕ) (now stable : List ℕ) (offset i v : ℕ) → byte_of h x i ≡ Some v → BothHave now stable offset i v → shows h x now stable offset i ≡ true
shows-shown h x now stable offset i v is both =
    and_from (same_byte (byte_from now offset i) (byte_of h x i)) (same_byte (byte_from stable offset i) (byte_of h x i))
    (same-shown (byte_from now offset i) (byte_of h x i) v both.first is) (same-shown (byte_from stable offset i) (byte_of h x i) v both.second is)

-- ---- the file

pub record IsFile (o : Option Object) (x : Object) : Type 0 where
  pub is : o ≡ Some x
  pub file : x.contents ≡ File (now_in o) (stable_in o)

-- what has a byte is a file
pub has-byte : (o : Option Object) (i v : ℕ) → slice_get (now_in o) i ≡ Some v → (x : Object) × IsFile o x
has-byte None i v at = absurd cc
has-byte (Some x) i v at = by x.contents refl
  where
    by : (c : Contents) → x.contents ≡ c → (y : Object) × IsFile (Some x) y
    by (File now stable) is = (x, record { is = refl; file = is ∙ (let a : now_of x.contents ≡ now = ap now_of is in let b : stable_of x.contents ≡ stable = ap stable_of is in rw (a, b) refl) })
    by (Directory entries) is = let none : now_of x.contents ≡ [] = ap now_of is in let got : slice_get [] i ≡ Some v = subst (λ (l : List ℕ). slice_get l i ≡ Some v) none at in absurd cc
    by (Other text) is = let none : now_of x.contents ≡ [] = ap now_of is in let got : slice_get [] i ≡ Some v = subst (λ (l : List ℕ). slice_get l i ≡ Some v) none at in absurd cc

pub record HasLists (o : Option Object) (now stable : List ℕ) : Type 0 where
  pub now_is : now_in o ≡ now
  pub stable_is : stable_in o ≡ stable

-- what the history's server has as a file is the trace's
pub lists-of : (o : Option Object) (file : model.Object) (now stable : List ℕ) → option_map object_of o ≡ Some file → file.holds ≡ model.Bytes now stable → HasLists o now stable
lists-of None file now stable is holds = absurd cc
lists-of (Some x) file now stable is holds = by x.contents refl
  where
    same : (a b : model.Object) → Some a ≡ Some b → a ≡ b
    same a b e = cc

    has : holds_of x.contents ≡ model.Bytes now stable
    has = ap (λ (z : model.Object). z.holds) (same (object_of x) file is) ∙ holds

    first : (a b c d : List ℕ) → model.Bytes a b ≡ model.Bytes c d → a ≡ c
    first a b c d e = cc

    second : (a b c d : List ℕ) → model.Bytes a b ≡ model.Bytes c d → b ≡ d
    second a b c d e = cc

    by : (c : Contents) → x.contents ≡ c → HasLists (Some x) now stable
    by (File a b) e =
        let both : model.Bytes a b ≡ model.Bytes now stable = sym (ap holds_of e) ∙ has in
        record { now_is = ap now_of e ∙ first a b now stable both; stable_is = ap stable_of e ∙ second a b now stable both }
    by (Directory entries) e = let other = sym (ap holds_of e) ∙ has in absurd cc
    by (Other text) e = let other = sym (ap holds_of e) ∙ has in absurd cc

-- and is a file
pub file-of : (x : Object) (file : model.Object) (now stable : List ℕ) → option_map object_of (Some x) ≡ Some file → file.holds ≡ model.Bytes now stable → IsFile (Some x) x
file-of x file now stable is holds = by x.contents refl
  where
    same : (a b : model.Object) → Some a ≡ Some b → a ≡ b
    same a b e = cc

    has : holds_of x.contents ≡ model.Bytes now stable
    has = ap (λ (z : model.Object). z.holds) (same (object_of x) file is) ∙ holds

    by : (c : Contents) → x.contents ≡ c → IsFile (Some x) x
    by (File a b) e = record { is = refl; file = e ∙ (let p : now_of x.contents ≡ a = ap now_of e in let q : stable_of x.contents ≡ b = ap stable_of e in rw (p, q) refl) }
    by (Directory entries) e = let other = sym (ap holds_of e) ∙ has in absurd cc
    by (Other text) e = let other = sym (ap holds_of e) ∙ has in absurd cc

pub has-bytes : (t : Trace) (p : ℕ) (f : List ℕ) (x : Object) → IsFile (object_of_trace t p f) x → model.HasBytes (server_at t p) f (now_in (object_of_trace t p f)) (stable_in (object_of_trace t p f))
has-bytes t p f x it = record { file = object_of x; is = ap (option_map object_of) it.is; holds = ap holds_of it.file }

pub holds-told : (t : Trace) (p : ℕ) (f : List ℕ) (i v : ℕ) → BothHave (now_at t p f) (stable_at t p f) 0 i v → HoldsStable (server_at t p) f i v
unfolding now_at stable_at
holds-told t p f i v both =
    let now : slice_get (now_in (object_of_trace t p f)) i ≡ Some v = sym (from-zero (now_in (object_of_trace t p f)) i) ∙ both.first in
    let it = has-byte (object_of_trace t p f) i v now in
    record {
      now = now_in (object_of_trace t p f);
      stable = stable_in (object_of_trace t p f);
      has = has-bytes t p f it.0 it.1;
      holds = now;
      steady = sym (from-zero (stable_in (object_of_trace t p f)) i) ∙ both.second;
    }

pub holds-shown : (t : Trace) (p : ℕ) (f : List ℕ) (i v : ℕ) → HoldsStable (server_at t p) f i v → BothHave (now_at t p f) (stable_at t p f) 0 i v
unfolding now_at stable_at
holds-shown t p f i v h =
    let lists = lists-of (object_of_trace t p f) h.has.file h.now h.stable h.has.is h.has.holds in
    record {
      first = from-zero (now_in (object_of_trace t p f)) i ∙ subst (λ (l : List ℕ). slice_get l i ≡ Some v) (sym lists.now_is) h.holds;
      second = from-zero (stable_in (object_of_trace t p f)) i ∙ subst (λ (l : List ℕ). slice_get l i ≡ Some v) (sym lists.stable_is) h.steady;
    }

-- ---- gone

gone-told : (o : Option Object) → gone_in o ≡ true → (x : Object) × (o ≡ Some x) × (x.gone ≡ true)
gone-told None t = absurd (true≢false (sym t))
gone-told (Some x) t = (x, refl, t)

gone-shown : (o : Option Object) (u : model.Object) → option_map object_of o ≡ Some u → u.gone ≡ true → gone_in o ≡ true
gone-shown None u is g = absurd cc
gone-shown (Some x) u is g = ap (λ (z : model.Object). z.gone) (same (object_of x) u is) ∙ g
  where
    same : (a b : model.Object) → Some a ≡ Some b → a ≡ b
    same a b e = cc

pub gone-decides : (t : Trace) (p : ℕ) (f : List ℕ) → Decides (is_gone_at t p f) (IsGone (server_at t p) f)
unfolding is_gone_at
gone-decides t p f = (
  λ g. let it = gone-told (object_of_trace t p f) g in record { o = object_of it.0; is = ap (option_map object_of) it.1; gone = it.2 },
  λ g. gone-shown (object_of_trace t p f) g.o g.is g.gone,
)

-- ---- the places of a range

pub record Ranges (w : Work) (i : ℕ) : Type 0 where
  pub r : ℕ × ℕ
  pub is : range w ≡ Some r
  pub low : r.0 ≤ i
  pub high : i < r.1

ranged : (w : Work) (offset count i : ℕ) → range w ≡ Some (offset, offset + count) → within offset count i ≡ true → Ranges w i
ranged w offset count i is t =
    let two = and_parts (nat_le offset i) (nat_lt i (offset + count)) t in
    record { r = (offset, offset + count); is = is; low = leb-true offset i two.0; high = ltb-true i (offset + count) two.1 }

pub range-of : (w : Work) (i : ℕ) → covers w i ≡ true → Ranges w i
range-of (works.Write slot offset count) i t = ranged (works.Write slot offset count) offset count i refl t
range-of (works.Put offset count) i t = ranged (works.Put offset count) offset count i refl t
range-of (works.Open slot) i t = absurd cc
range-of (works.Read slot offset count) i t = absurd cc
range-of (works.Sync slot) i t = absurd cc
range-of (works.Close slot) i t = absurd cc
range-of (works.Truncate slot size) i t = absurd cc
range-of works.Other i t = absurd cc

some-pair : (a b : ℕ × ℕ) → Some a ≡ Some b → a ≡ b
some-pair a b e = cc

from-pair : (offset count : ℕ) (r : ℕ × ℕ) (i : ℕ) → Some (offset, offset + count) ≡ Some r → r.0 ≤ i → i < r.1 → within offset count i ≡ true
from-pair offset count r i is low high =
    let same = some-pair (offset, offset + count) r is in
    let first : offset ≡ r.0 = ap (λ (z : ℕ × ℕ). z.0) same in
    let second : offset + count ≡ r.1 = ap (λ (z : ℕ × ℕ). z.1) same in
    and_from (nat_le offset i) (nat_lt i (offset + count)) (le-leb offset i (omega (arith, first, low))) (lt-ltb i (offset + count) (omega (arith, second, high)))

pub range-covers : (w : Work) (r : ℕ × ℕ) (i : ℕ) → range w ≡ Some r → r.0 ≤ i → i < r.1 → covers w i ≡ true
range-covers (works.Write slot offset count) r i is low high = from-pair offset count r i is low high
range-covers (works.Put offset count) r i is low high = from-pair offset count r i is low high
range-covers (works.Open slot) r i is low high = absurd cc
range-covers (works.Read slot offset count) r i is low high = absurd cc
range-covers (works.Sync slot) r i is low high = absurd cc
range-covers (works.Close slot) r i is low high = absurd cc
range-covers (works.Truncate slot size) r i is low high = absurd cc
range-covers works.Other r i is low high = absurd cc
