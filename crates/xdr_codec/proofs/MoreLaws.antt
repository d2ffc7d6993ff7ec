-- Codecs of flags, opaques, options, lists and replies.
use Rattle.std.proofs.Common.{◌^◌, ◌≡◌, ◌≤◌, ◌<◌, ℕ, zero, suc, Bool, true, false, cond, ltb, List, [], ◌∷◌, ◌++◌, length, take, drop, Option, Some, None, Result, Ok, Err, refl, sym, ap, subst, ◌∙◌, append_assoc, arith, ◌==◌}
use Rattle.std.proofs.lemmas.Bool.{ltb-false, le-ltb}
use Rattle.std.proofs.lemmas.List.{take_at, drop_at, take-append-drop, length-append, length-take-le}
use Rattle.xdr_codec.specs.declared.reader.XdrFault.{XdrFault}
use Rattle.xdr_codec.specs.declared.reader.XdrFault.TheVariants.{Short, TooLong, BadBool}
use Rattle.xdr_codec.specs.Reading.{◌>>=◌, u32_at, flag_at, fixed_at, opaque_at, padding}
use Rattle.xdr_codec.specs.Spelling.{u32_bytes, flag_bytes, opaque_bytes}
use Rattle.xdr_codec.specs.Bytes.{IsBytes}
use Rattle.xdr_codec.proofs.Laws.{Takes, Codec, CodecIf, bind_ok, field_if, last_if, always, u32_codec, IsBytes-drop}
use Rattle.xdr_codec.specs.Lists.{opt_at, items_at, list_at}
use Rattle.xdr_codec.specs.Spells.{SpellsU32, ◌⨾◌, SpellsFlag, SpellsFixed, SpellsPadded, SpellsOpaque, SpellsOpt, SpellsList}
use Rattle.xdr_codec.proofs.Written.{opaque_within}
use Rattle.xdr_codec.specs.Arms.{Arms, Done, Failure, arm_at, arms_at, SpellsArms}

-- ---- tools

-- a test that was passed
pub guard_ok : {A : Type 0} (b : Bool) (d : XdrFault) (r : Result A XdrFault) (y : A) → cond b (Err d) r ≡ Ok y → (b ≡ false) × (r ≡ Ok y)
guard_ok true d r y e = absurd cc
guard_ok false d r y e = (refl, e)

abbrev pub of : {B : Type 0} → B → Result B XdrFault
of x = Ok x

pub ok_is : {B : Type 0} (x y : B) → of x ≡ of y → x ≡ y
ok_is x y e = cc

-- ---- flags

word_is : (v : ℕ) → v ≤ 1 → u32_bytes v ≡ flag_bytes (v == 1)
unfolding flag_bytes
word_is zero le = refl
word_is (suc zero) le = refl
word_is (suc (suc n)) le = absurd (omega (arith, le))

flag_word : (v : Bool) → (n : ℕ) × (flag_bytes v ≡ u32_bytes n) × (n ≤ 1) × ((n == 1) ≡ v)
unfolding flag_bytes
flag_word true = (1, refl, omega arith, refl)
flag_word false = (0, refl, omega arith, refl)

pub flag_codec : Codec flag_at SpellsFlag
unfolding flag_at
flag_codec = record {
  takes = λ bytes x fits e.
      let o = bind_ok (u32_at bytes) (λ n. cond (ltb 1 n.0) (Err BadBool) (Ok (n.0 == 1, n.1))) x e in
      let t = u32_codec.takes bytes o.0 fits o.1 in
      let g = guard_ok (ltb 1 o.0.0) BadBool (Ok (o.0.0 == 1, o.0.1)) x o.2 in
      let pair : Bool × List ℕ = (o.0.0 == 1, o.0.1) in
      let is : pair ≡ x = ok_is pair x g.1 in
      subst (λ (y : Bool × List ℕ). Takes SpellsFlag bytes y) is
      (record { front = t.front; is = t.is; spells = record { is = t.spells.is ∙ word_is o.0.0 (ltb-false _ _ g.0) }; rest = t.rest });
  again = λ v text rest s.
      let w = flag_word v in
      let k : SpellsU32 w.0 text = record { fits = omega (arith, w.2); is = s.is ∙ w.1 } in
      rw (u32_codec.again w.0 text rest k, le-ltb 1 w.0 w.2, w.3) refl;
}

-- ---- opaques

pub padded_if : (max n : ℕ) → CodecIf (λ bytes. cond (ltb max n) (Err TooLong) (fixed_at n bytes)) (λ b. Unit {0} × (length b ≡ n)) (SpellsPadded max)
unfolding fixed_at
padded_if max n = record {
  takes = λ bytes x fits e.
      let g = guard_ok (ltb max n) TooLong _ x e in
      let h = guard_ok (ltb (length bytes) n) Short _ x g.1 in
      let k = guard_ok (ltb (length (drop n bytes)) (padding n)) Short _ x h.1 in
      let pair : List ℕ × List ℕ = (take n bytes, drop (padding n) (drop n bytes)) in
      let is : pair ≡ x = ok_is pair x k.1 in
      let long : length (take n bytes) ≡ n = length-take-le n bytes (ltb-false _ _ h.0) in
      let pad : length (take (padding n) (drop n bytes)) ≡ padding n = length-take-le (padding n) (drop n bytes) (ltb-false _ _ k.0) in
      subst (λ (y : List ℕ × List ℕ). Takes (SpellsPadded max) bytes y × (Unit {0} × (length y.0 ≡ n))) is (
        record {
          front = take n bytes ++ take (padding n) (drop n bytes);
          is = sym (append_assoc (take n bytes) (take (padding n) (drop n bytes)) (drop (padding n) (drop n bytes)) ∙ rw (take-append-drop (padding n) (drop n bytes), take-append-drop n bytes) refl);
          spells = record { bound = rw long (ltb-false _ _ g.0); pad = take (padding n) (drop n bytes); long = pad ∙ ap padding (sym long); is = refl };
          rest = IsBytes-drop (padding n) (drop n bytes) (IsBytes-drop n bytes fits);
        },
        (tt, long),
      );
  again = λ v text rest k s.
      let whole : text ++ rest ≡ v ++ (s.pad ++ rest) = ap (λ (t : List ℕ). t ++ rest) s.is ∙ append_assoc v s.pad rest in
      let pad : length s.pad ≡ padding n = s.long ∙ ap padding k.1 in
      rw (
        le-ltb max n (omega (arith, s.bound, k.1)),
        whole,
        le-ltb (length (v ++ (s.pad ++ rest))) n (omega (arith, k.1, length-append v (s.pad ++ rest))),
        drop_at v (s.pad ++ rest) n k.1,
        take_at v (s.pad ++ rest) n k.1,
        le-ltb (length (s.pad ++ rest)) (padding n) (omega (arith, pad, length-append s.pad rest)),
        drop_at s.pad rest (padding n) pad,
      ) refl;
}

pub fixed_codec : (n : ℕ) → Codec (fixed_at n) (SpellsFixed n)
unfolding fixed_at
fixed_codec n = record {
  takes = λ bytes x fits e.
      let h = guard_ok (ltb (length bytes) n) Short _ x e in
      let k = guard_ok (ltb (length (drop n bytes)) (padding n)) Short _ x h.1 in
      let pair : List ℕ × List ℕ = (take n bytes, drop (padding n) (drop n bytes)) in
      let is : pair ≡ x = ok_is pair x k.1 in
      let long : length (take n bytes) ≡ n = length-take-le n bytes (ltb-false _ _ h.0) in
      let pad : length (take (padding n) (drop n bytes)) ≡ padding n = length-take-le (padding n) (drop n bytes) (ltb-false _ _ k.0) in
      subst (λ (y : List ℕ × List ℕ). Takes (SpellsFixed n) bytes y) is (
      record {
        front = take n bytes ++ take (padding n) (drop n bytes);
        is = sym (append_assoc (take n bytes) (take (padding n) (drop n bytes)) (drop (padding n) (drop n bytes)) ∙ rw (take-append-drop (padding n) (drop n bytes), take-append-drop n bytes) refl);
        spells = record { size = long; pad = take (padding n) (drop n bytes); long = pad; is = refl };
        rest = IsBytes-drop (padding n) (drop n bytes) (IsBytes-drop n bytes fits);
      }
      );
  again = λ v text rest s.
      let whole : text ++ rest ≡ v ++ (s.pad ++ rest) = ap (λ (t : List ℕ). t ++ rest) s.is ∙ append_assoc v s.pad rest in
      rw (
        whole,
        le-ltb (length (v ++ (s.pad ++ rest))) n (omega (arith, s.size, length-append v (s.pad ++ rest))),
        drop_at v (s.pad ++ rest) n s.size,
        take_at v (s.pad ++ rest) n s.size,
        le-ltb (length (s.pad ++ rest)) (padding n) (omega (arith, s.long, length-append s.pad rest)),
        drop_at s.pad rest (padding n) s.long,
      ) refl;
}

pub opaque_codec : (max : ℕ) → Codec (opaque_at max) (SpellsOpaque max)
unfolding opaque_at
opaque_codec max = always (field_if (λ v. length v) u32_codec (λ n. padded_if max n))

-- ---- options

-- one spelling after another was taken
pub both : {A B C : Type 0} {S : A → List ℕ → Type 0} {T : B → List ℕ → Type 0} {U : C → List ℕ → Type 0} (bytes : List ℕ) (x : A × List ℕ) (y : B × List ℕ) (z : C)
    → Takes S bytes x → Takes T x.1 y → ((text : List ℕ) → (S x.0 ⨾ T y.0) text → U z text) → Takes U bytes (z, y.1)
both {S = S} {T = T} {U = U} bytes x y z t u join = record {
  front = t.front ++ u.front;
  is = t.is ∙ ap (λ (k : List ℕ). t.front ++ k) u.is ∙ sym (append_assoc t.front u.front y.1);
  spells = join (t.front ++ u.front) (record { front = t.front; back = u.front; is = refl; one = t.spells; two = u.spells });
  rest = u.rest;
}

opt_takes : {A : Type 0} {read : List ℕ → Result (A × List ℕ) XdrFault} {S : A → List ℕ → Type 0} → Codec read S → (bytes : List ℕ) (b : Bool) (more : List ℕ) (x : Option A × List ℕ)
    → Takes SpellsFlag bytes (b, more) → cond b (read more >>= λ v. Ok (Some v.0, v.1)) (Ok (None, more)) ≡ Ok x → Takes (SpellsOpt S) bytes x
opt_takes {A = A} {read = read} {S = S} c bytes true more x t e =
    let o = bind_ok (read more) (λ v. Ok (Some v.0, v.1)) x e in
    let pair : Option A × List ℕ = (Some o.0.0, o.0.1) in
    subst (λ (y : Option A × List ℕ). Takes (SpellsOpt S) bytes y) (ok_is pair x o.2) (both bytes (true, more) o.0 (Some o.0.0) t (c.takes more o.0 t.rest o.1) (λ text s. s))
opt_takes {A = A} {read = read} {S = S} c bytes false more x t e =
    let pair : Option A × List ℕ = (None, more) in
    subst (λ (y : Option A × List ℕ). Takes (SpellsOpt S) bytes y) (ok_is pair x e) (record { front = t.front; is = t.is; spells = t.spells; rest = t.rest })

pub after_text : (text front back rest : List ℕ) → text ≡ front ++ back → text ++ rest ≡ front ++ (back ++ rest)
after_text text front back rest e = ap (λ (k : List ℕ). k ++ rest) e ∙ append_assoc front back rest

opt_again : {A : Type 0} {read : List ℕ → Result (A × List ℕ) XdrFault} {S : A → List ℕ → Type 0} → Codec read S → (v : Option A) (text rest : List ℕ) → SpellsOpt S v text → opt_at read (text ++ rest) ≡ Ok (v, rest)
opt_again c None text rest s = rw (flag_codec.again false text rest s) refl
opt_again c (Some v) text rest s = rw (after_text text s.front s.back rest s.is, flag_codec.again true s.front (s.back ++ rest) s.one, c.again v s.back rest s.two) refl

pub opt_codec : {A : Type 0} {read : List ℕ → Result (A × List ℕ) XdrFault} {S : A → List ℕ → Type 0} → Codec read S → Codec (opt_at read) (SpellsOpt S)
opt_codec {A = A} {read = read} {S = S} c = record {
  takes = λ bytes x fits e.
      let o = bind_ok (flag_at bytes) (λ t. cond t.0 (read t.1 >>= λ v. Ok (Some v.0, v.1)) (Ok (None, t.1))) x e in
      opt_takes c bytes o.0.0 o.0.1 x (flag_codec.takes bytes o.0 fits o.1) o.2;
  again = λ v text rest s. opt_again c v text rest s;
}

-- ---- lists

abbrev GoesOn : {A : Type 0} → (List ℕ → Result (A × List ℕ) XdrFault) → ℕ → Bool → List ℕ → Result (List A × List ℕ) XdrFault
GoesOn read n b more = cond b (read more >>= λ v. items_at read n v.1 >>= λ vs. Ok (v.0 ∷ vs.0, vs.1)) (Ok ([], more))

items_more : {A : Type 0} {read : List ℕ → Result (A × List ℕ) XdrFault} {S : A → List ℕ → Type 0} → Codec read S → (n : ℕ)
    → ((bytes : List ℕ) (x : List A × List ℕ) → IsBytes bytes → items_at read n bytes ≡ Ok x → Takes (SpellsList S) bytes x)
    → (bytes : List ℕ) (b : Bool) (more : List ℕ) (x : List A × List ℕ) → Takes SpellsFlag bytes (b, more) → GoesOn read n b more ≡ Ok x → Takes (SpellsList S) bytes x
items_more {A = A} {read = read} {S = S} c n below bytes true more x t e =
    let o = bind_ok (read more) (λ v. items_at read n v.1 >>= λ vs. Ok (v.0 ∷ vs.0, vs.1)) x e in
    let p = bind_ok (items_at read n o.0.1) (λ vs. Ok (o.0.0 ∷ vs.0, vs.1)) x o.2 in
    let u = c.takes more o.0 t.rest o.1 in
    let w = below o.0.1 p.0 u.rest p.1 in
    let pair : List A × List ℕ = (o.0.0 ∷ p.0.0, p.0.1) in
    let tail : Takes (λ (l : List A). S o.0.0 ⨾ SpellsList S l) more (p.0.0, p.0.1) = both {U = λ (l : List A). S o.0.0 ⨾ SpellsList S l} more o.0 p.0 p.0.0 u w (λ text s. s) in
    subst (λ (y : List A × List ℕ). Takes (SpellsList S) bytes y) (ok_is pair x p.2)
    (both {T = λ (l : List A). S o.0.0 ⨾ SpellsList S l} {U = SpellsList S} bytes (true, more) (p.0.0, p.0.1) (o.0.0 ∷ p.0.0) t tail (λ text s. s))
items_more {A = A} {read = read} {S = S} c n below bytes false more x t e =
    let pair : List A × List ℕ = ([], more) in
    subst (λ (y : List A × List ℕ). Takes (SpellsList S) bytes y) (ok_is pair x e) (record { front = t.front; is = t.is; spells = t.spells; rest = t.rest })

pub items_takes : {A : Type 0} {read : List ℕ → Result (A × List ℕ) XdrFault} {S : A → List ℕ → Type 0} → Codec read S → (n : ℕ) (bytes : List ℕ) (x : List A × List ℕ)
    → IsBytes bytes → items_at read n bytes ≡ Ok x → Takes (SpellsList S) bytes x
items_takes c zero bytes x fits e = absurd cc
items_takes {A = A} {read = read} {S = S} c (suc n) bytes x fits e =
    let o = bind_ok (flag_at bytes) (λ t. GoesOn read n t.0 t.1) x e in
    items_more c n (items_takes c n) bytes o.0.0 o.0.1 x (flag_codec.takes bytes o.0 fits o.1) o.2

pub items_again : {A : Type 0} {read : List ℕ → Result (A × List ℕ) XdrFault} {S : A → List ℕ → Type 0} → Codec read S → (n : ℕ) (vs : List A) (text rest : List ℕ)
    → length vs < n → SpellsList S vs text → items_at read n (text ++ rest) ≡ Ok (vs, rest)
items_again c zero vs text rest lt s = absurd (omega (arith, lt))
items_again c (suc n) [] text rest lt s = rw (flag_codec.again false text rest s) refl
items_again c (suc n) (v ∷ vs) text rest lt s =
    rw (
      after_text text s.front s.back rest s.is,
      flag_codec.again true s.front (s.back ++ rest) s.one,
      after_text s.back s.two.front s.two.back rest s.two.is,
      c.again v s.two.front (s.two.back ++ rest) s.two.one,
      items_again c n vs s.two.back rest (omega (arith, lt)) s.two.two,
    ) refl

pub flag_long : (v : Bool) (text : List ℕ) → SpellsFlag v text → length text ≡ 4
unfolding flag_bytes u32_bytes
flag_long true text s = ap length s.is
flag_long false text s = ap length s.is

pub list_long : {A : Type 0} (S : A → List ℕ → Type 0) (vs : List A) (text : List ℕ) → SpellsList S vs text → length vs < length text
list_long S [] text s = omega (arith, flag_long false text s)
list_long S (v ∷ vs) text s =
    let deeper = list_long S vs s.two.back s.two.two in
    omega (arith, deeper, flag_long true s.front s.one, ap length s.is, length-append s.front s.back, ap length s.two.is, length-append s.two.front s.two.back)

pub list_codec : {A : Type 0} {read : List ℕ → Result (A × List ℕ) XdrFault} {S : A → List ℕ → Type 0} → Codec read S → Codec (list_at read) (SpellsList S)
list_codec {S = S} c = record {
  takes = λ bytes x fits e. items_takes c (length bytes) bytes x fits e;
  again = λ vs text rest s. items_again c (length (text ++ rest)) vs text rest (omega (arith, list_long S vs text s, length-append text rest)) s;
}

-- ---- replies

arm_takes : {A B : Type 0} {done : List ℕ → Result (A × List ℕ) XdrFault} {failed : List ℕ → Result (B × List ℕ) XdrFault} {S : A → List ℕ → Type 0} {T : B → List ℕ → Type 0}
    → Codec done S → Codec failed T → (bytes : List ℕ) (status : ℕ) (more : List ℕ) (x : Arms A B × List ℕ) → Takes SpellsU32 bytes (status, more) → arm_at done failed status more ≡ Ok x → Takes (SpellsArms S T) bytes x
arm_takes {A = A} {B = B} {done = done} {failed = failed} {S = S} {T = T} c d bytes zero more x t e =
    let o = bind_ok (done more) (λ v. Ok (Done v.0, v.1)) x e in
    let pair : Arms A B × List ℕ = (Done o.0.0, o.0.1) in
    subst (λ (y : Arms A B × List ℕ). Takes (SpellsArms S T) bytes y) (ok_is pair x o.2) (both {U = SpellsArms S T} bytes (zero, more) o.0 (Done o.0.0) t (c.takes more o.0 t.rest o.1) (λ text s. s))
arm_takes {A = A} {B = B} {done = done} {failed = failed} {S = S} {T = T} c d bytes (suc n) more x t e =
    let o = bind_ok (failed more) (λ v. Ok (Failure (suc n) v.0, v.1)) x e in
    let pair : Arms A B × List ℕ = (Failure (suc n) o.0.0, o.0.1) in
    subst (λ (y : Arms A B × List ℕ). Takes (SpellsArms S T) bytes y) (ok_is pair x o.2)
    (both {U = SpellsArms S T} bytes (suc n, more) o.0 (Failure (suc n) o.0.0) t (d.takes more o.0 t.rest o.1) (λ text s. record { failed = omega arith; is = s }))

arm_again : {A B : Type 0} {done : List ℕ → Result (A × List ℕ) XdrFault} {failed : List ℕ → Result (B × List ℕ) XdrFault} {S : A → List ℕ → Type 0} {T : B → List ℕ → Type 0}
    → Codec done S → Codec failed T → (v : Arms A B) (text rest : List ℕ) → SpellsArms S T v text → arms_at done failed (text ++ rest) ≡ Ok (v, rest)
arm_again c d (Done v) text rest s = rw (after_text text s.front s.back rest s.is, u32_codec.again 0 s.front (s.back ++ rest) s.one, c.again v s.back rest s.two) refl
arm_again c d (Failure zero v) text rest s = absurd (omega (arith, s.failed))
arm_again c d (Failure (suc n) v) text rest s =
    let k = s.is in
    rw (after_text text k.front k.back rest k.is, u32_codec.again (suc n) k.front (k.back ++ rest) k.one, d.again v k.back rest k.two) refl

pub arms_codec : {A B : Type 0} {done : List ℕ → Result (A × List ℕ) XdrFault} {failed : List ℕ → Result (B × List ℕ) XdrFault} {S : A → List ℕ → Type 0} {T : B → List ℕ → Type 0}
    → Codec done S → Codec failed T → Codec (arms_at done failed) (SpellsArms S T)
arms_codec {done = done} {failed = failed} c d = record {
  takes = λ bytes x fits e.
      let o = bind_ok (u32_at bytes) (λ s. arm_at done failed s.0 s.1) x e in
      arm_takes c d bytes o.0.0 o.0.1 x (u32_codec.takes bytes o.0 fits o.1) o.2;
  again = λ v text rest s. arm_again c d v text rest s;
}

-- ---- other forms

-- the same codec for another form of the values
pub codec_as : {A B : Type 0} {read : List ℕ → Result (A × List ℕ) XdrFault} {S : A → List ℕ → Type 0} (make : A → B) (get : B → A)
    → ((a : A) → get (make a) ≡ a) → ((b : B) → make (get b) ≡ b) → Codec read S → Codec (λ bytes. read bytes >>= λ x. Ok (make x.0, x.1)) (λ b. S (get b))
codec_as make get there back c = always (last_if get make c (λ a. (tt, there a)) (λ b k. back b))

-- ---- what is written is spelled

pub opaque_written : (max : ℕ) (v : List ℕ) → length v ≤ max → max < 2 ^ 32 → SpellsOpaque max v (opaque_bytes v)
opaque_written max v le fits = opaque_within max v le (omega (arith, le, fits))
