-- What is read is spelled so, and what is spelled so is read.
use Rattle.std.proofs.Common.{◌≡◌, ℕ, ◌+◌, ◌≤◌, Bool, true, false, cond, ltb, List, ◌++◌, length, take, drop, Result, Ok, Err, refl, sym, ap, subst, ◌∙◌, append_assoc, arith, inl, inr}
use Rattle.std.specs.Int.{w32, w64, from_be_bytes}
use Rattle.byteorder.specs.Endian.{big_number}
use Rattle.std.proofs.lemmas.Bool.{cases_lt, ltb-false, le-ltb}
use Rattle.std.proofs.lemmas.List.{take_at, drop_at, take-append-drop, length-append, length-take, get_or-drop, get_or-take, get_or_past}
use Rattle.std.proofs.lemmas.Nat.{be_bytes_4, be_bytes_8, from_be_bytes-to_be_bytes_4, from_be_bytes-to_be_bytes_8}
use Rattle.xdr_codec.specs.declared.reader.XdrFault.{XdrFault}
use Rattle.xdr_codec.specs.declared.reader.XdrFault.TheVariants.{Short}
use Rattle.xdr_codec.specs.Reading.{◌>>=◌, Reads, u32_at, u64_at}
use Rattle.xdr_codec.specs.Spelling.{u32_bytes, u64_bytes}
use Rattle.xdr_codec.specs.Bytes.{IsBytes}
use Rattle.xdr_codec.specs.Spells.{Finds, SpellsU32, SpellsU64, Then}

-- A reader that takes the spellings of values and no others.
pub record Takes {A : Type 0} (Spells : A → List ℕ → Type 0) (bytes : List ℕ) (x : A × List ℕ) : Type 0 where
  pub front : List ℕ
  pub is : bytes ≡ front ++ x.1
  pub spells : Spells x.0 front
  pub rest : IsBytes x.1

pub record Codec {A : Type 0} (read : List ℕ → Result (A × List ℕ) XdrFault) (Spells : A → List ℕ → Type 0) : Type 0 where
  pub takes : (bytes : List ℕ) (x : A × List ℕ) → IsBytes bytes → read bytes ≡ Ok x → Takes Spells bytes x
  pub again : (v : A) (text rest : List ℕ) → Spells v text → read (text ++ rest) ≡ Ok (v, rest)

pub bind_ok : {A B : Type 0} (r : Result A XdrFault) (f : A → Result B XdrFault) (y : B) → (r >>= f) ≡ Ok y → (x : A) × (r ≡ Ok x) × (f x ≡ Ok y)
bind_ok (Ok x) f y e = (x, refl, e)
bind_ok (Err d) f y e = absurd cc

-- one field, and what is read after it
abbrev pub field : {A B : Type 0} → (List ℕ → Result (A × List ℕ) XdrFault) → (A → List ℕ → Result (B × List ℕ) XdrFault) → List ℕ → Result (B × List ℕ) XdrFault
field read next bytes = read bytes >>= λ x. next x.0 x.1

-- The same of a reader whose values have K, as those that begin with fields that were read.
pub record CodecIf {B : Type 0} (read : List ℕ → Result (B × List ℕ) XdrFault) (K : B → Type 0) (T : B → List ℕ → Type 0) : Type 0 where
  pub takes : (bytes : List ℕ) (x : B × List ℕ) → IsBytes bytes → read bytes ≡ Ok x → Takes T bytes x × K x.0
  pub again : (v : B) (text rest : List ℕ) → K v → T v text → read (text ++ rest) ≡ Ok (v, rest)

pub field_if : {A B : Type 0} {read : List ℕ → Result (A × List ℕ) XdrFault} {next : A → List ℕ → Result (B × List ℕ) XdrFault} {S : A → List ℕ → Type 0} {K : B → Type 0} {T : B → List ℕ → Type 0}
    (get : B → A) → Codec read S → ((a : A) → CodecIf (next a) (λ b. K b × (get b ≡ a)) T) → CodecIf (field read next) K (λ b. Then (S (get b)) (T b))
field_if {A = A} {B = B} {read = read} {next = next} {S = S} {K = K} {T = T} get c d = record {
  takes = λ bytes x fits e.
      let o = bind_ok (read bytes) (λ y. next y.0 y.1) x e in
      let t = c.takes bytes o.0 fits o.1 in
      let u = (d o.0.0).takes o.0.1 x t.rest o.2 in (
        record {
          front = t.front ++ u.0.front;
          is = t.is ∙ ap (λ (k : List ℕ). t.front ++ k) u.0.is ∙ sym (append_assoc t.front u.0.front x.1);
          spells = record { front = t.front; back = u.0.front; is = refl; one = subst (λ (a : A). S a t.front) (sym u.1.1) t.spells; two = u.0.spells };
          rest = u.0.rest;
        },
        u.1.0,
      );
  again = λ v text rest k s.
      let whole : text ++ rest ≡ s.front ++ (s.back ++ rest) = ap (λ (k : List ℕ). k ++ rest) s.is ∙ append_assoc s.front s.back rest in
      rw (whole, c.again (get v) s.front (s.back ++ rest) s.one) ((d (get v)).again v s.back rest (k, refl) s.two);
}

-- the last field, after which the value is made
pub last_if : {A B : Type 0} {read : List ℕ → Result (A × List ℕ) XdrFault} {S : A → List ℕ → Type 0} {K : B → Type 0}
    (get : B → A) (make : A → B) → Codec read S → ((a : A) → K (make a) × (get (make a) ≡ a)) → ((b : B) → K b → make (get b) ≡ b)
    → CodecIf (λ bytes. read bytes >>= λ x. Ok (make x.0, x.1)) K (λ b. S (get b))
last_if {A = A} {B = B} {read = read} {S = S} {K = K} get make c made whole = record {
  takes = λ bytes x fits e.
      let o = bind_ok (read bytes) (λ y. Ok (make y.0, y.1)) x e in
      let t = c.takes bytes o.0 fits o.1 in
      let done : B × List ℕ = (make o.0.0, o.0.1) in
      let is : done ≡ x = cc (o.2) in
      subst (λ (y : B × List ℕ). Takes (λ b. S (get b)) bytes y × K y.0) is
      (record { front = t.front; is = t.is; spells = subst (λ (a : A). S a t.front) (sym (made o.0.0).1) t.spells; rest = t.rest }, (made o.0.0).0);
  again = λ v text rest k s. rw (c.again (get v) text rest s, whole v k) refl;
}

pub always : {B : Type 0} {read : List ℕ → Result (B × List ℕ) XdrFault} {T : B → List ℕ → Type 0} → CodecIf read (λ b. Unit {0}) T → Codec read T
always c = record { takes = λ bytes x fits e. (c.takes bytes x fits e).0; again = λ v text rest s. c.again v text rest tt s }

-- ---- words

pub IsBytes-drop : (n : ℕ) (bytes : List ℕ) → IsBytes bytes → IsBytes (drop n bytes)
IsBytes-drop n bytes h i = rw get_or-drop (h (n + i))

pub IsBytes-take : (n : ℕ) (bytes : List ℕ) → IsBytes bytes → IsBytes (take n bytes)
IsBytes-take n bytes h i =
    elim (cases_lt i n) [
      | inl lt ↦ rw (get_or-take n bytes i 0 lt) (h i)
      | inr le ↦ rw (get_or_past (take n bytes) i 0 (omega (arith, length-take n bytes))) (omega arith)
    ]

guard_ok : {A : Type 0} (b : Bool) (d : XdrFault) (x y : A) → cond b (Err d) (Ok x) ≡ Ok y → (b ≡ false) × (x ≡ y)
guard_ok true d x y e = absurd cc
guard_ok false d x y e = (refl, cc)

pub big_is_4 : (bytes : List ℕ) → big_number 4 bytes ≡ from_be_bytes w32 (take 4 bytes)
big_is_4 bytes = omega (arith, get_or-take 4 bytes 0 0, get_or-take 4 bytes 1 0, get_or-take 4 bytes 2 0, get_or-take 4 bytes 3 0)

pub u32_codec : Codec u32_at SpellsU32
unfolding u32_bytes
u32_codec = record {
  takes = λ bytes x fits e.
      let g = guard_ok (ltb (length bytes) 4) Short (big_number 4 bytes, drop 4 bytes) x e in
      let long : 4 ≤ length bytes = ltb-false _ _ g.0 in
      let n-is : big_number 4 bytes ≡ x.0 = ap (λ (p : ℕ × List ℕ). p.0) g.1 in
      let rest-is : drop 4 bytes ≡ x.1 = ap (λ (p : ℕ × List ℕ). p.1) g.1 in
      record {
        front = take 4 bytes;
        is = sym (take-append-drop 4 bytes) ∙ ap (λ (t : List ℕ). take 4 bytes ++ t) rest-is;
        spells = record {
          fits = rw (← n-is) (omega (arith, fits 0, fits 1, fits 2, fits 3));
          is = sym (be_bytes_4 (take 4 bytes) x.0 (omega (arith, length-take 4 bytes)) (IsBytes-take 4 bytes fits) (sym n-is ∙ big_is_4 bytes));
        };
        rest = rw (← rest-is) (IsBytes-drop 4 bytes fits);
      };
  again = λ v text rest s.
      let len : length text ≡ 4 = ap length s.is in
      let long : ltb (length (text ++ rest)) 4 ≡ false = le-ltb _ _ (omega (arith, length-append text rest)) in
      let number : big_number 4 (text ++ rest) ≡ v = big_is_4 (text ++ rest) ∙ rw (take_at text rest 4 len, s.is) (from_be_bytes-to_be_bytes_4 v s.fits) in
      rw (long, number, drop_at text rest 4 len) refl;
}

pub big_is_8 : (bytes : List ℕ) → big_number 8 bytes ≡ from_be_bytes w64 (take 8 bytes)
big_is_8 bytes = omega (arith, get_or-take 8 bytes 0 0, get_or-take 8 bytes 1 0, get_or-take 8 bytes 2 0, get_or-take 8 bytes 3 0, get_or-take 8 bytes 4 0, get_or-take 8 bytes 5 0, get_or-take 8 bytes 6 0, get_or-take 8 bytes 7 0)

pub u64_codec : Codec u64_at SpellsU64
unfolding u64_bytes
u64_codec = record {
  takes = λ bytes x fits e.
      let g = guard_ok (ltb (length bytes) 8) Short (big_number 8 bytes, drop 8 bytes) x e in
      let long : 8 ≤ length bytes = ltb-false _ _ g.0 in
      let n-is : big_number 8 bytes ≡ x.0 = ap (λ (p : ℕ × List ℕ). p.0) g.1 in
      let rest-is : drop 8 bytes ≡ x.1 = ap (λ (p : ℕ × List ℕ). p.1) g.1 in
      record {
        front = take 8 bytes;
        is = sym (take-append-drop 8 bytes) ∙ ap (λ (t : List ℕ). take 8 bytes ++ t) rest-is;
        spells = record {
          fits = rw (← n-is) (omega (arith, fits 0, fits 1, fits 2, fits 3, fits 4, fits 5, fits 6, fits 7));
          is = sym (be_bytes_8 (take 8 bytes) x.0 (omega (arith, length-take 8 bytes)) (IsBytes-take 8 bytes fits) (sym n-is ∙ big_is_8 bytes));
        };
        rest = rw (← rest-is) (IsBytes-drop 8 bytes fits);
      };
  again = λ v text rest s.
      let len : length text ≡ 8 = ap length s.is in
      let long : ltb (length (text ++ rest)) 8 ≡ false = le-ltb _ _ (omega (arith, length-append text rest)) in
      let number : big_number 8 (text ++ rest) ≡ v = big_is_8 (text ++ rest) ∙ rw (take_at text rest 8 len, s.is) (from_be_bytes-to_be_bytes_8 v s.fits) in
      rw (long, number, drop_at text rest 8 len) refl;
}

abbrev done : {B : Type 0} → B → Result B XdrFault
done x = Ok x

abbrev refused : {B : Type 0} → XdrFault → Result B XdrFault
refused f = Err f

ok_is : {B : Type 0} (x y : B) → done x ≡ done y → x ≡ y
ok_is x y e = cc

err_is : {B : Type 0} (f : XdrFault) (y : B) → refused {B = B} f ≡ done y → ⊥
err_is f y e = cc

-- what a codec says of a call of its reader
pub finds_by : {X A : Type 0} {read : List ℕ → Result (A × List ℕ) XdrFault} {S : A → List ℕ → Type 0} (view : X → A) (old : List ℕ) (result : Result X XdrFault) (new : List ℕ)
    → Codec read S → IsBytes old → Reads view old result new (read old) → Finds view S old result new
finds_by {A = A} {read = read} view old (Ok x) new c fits e = record {
  found = let t = c.takes old (view x, new) fits e in (t.front, t.is, t.spells);
  only = λ v text rest s is. let p = ok_is (view x, new) (v, rest) (sym e ∙ ap read is ∙ c.again v text rest s) in ((ap (λ q. q.0) p, ap (λ q. q.1) p), refl);
}
finds_by {A = A} {read = read} view old (Err f) new c fits e = record {
  found = tt;
  only = λ v text rest s is. absurd (err_is f (v, rest) (sym e.0 ∙ ap read is ∙ c.again v text rest s));
}
