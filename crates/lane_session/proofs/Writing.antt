-- What is written piece by piece.
use Rattle.std.proofs.Common.{◌≡◌, ◌≤◌, ◌+◌, ℕ, zero, suc, List, [], ◌∷◌, ◌++◌, length, take, drop, Option, Some, None, Result, Ok, Err, OnOk, OnErr, refl, sym, ap, ◌∙◌, append_assoc, arith}
use Rattle.std.proofs.lemmas.List.{append-nil, take-append-drop}
use Rattle.outside.specs.declared.link.LinkFault.{LinkFault}
use Rattle.outside.specs.declared.link.LinkFault.TheVariants as faults
use Rattle.outside.specs.Causes.{HasCause, Rose}
use Rattle.outside.specs.Sink.{WritesTo}
use Rattle.lane_session.specs.Streams.{Appends, Says, IsFrontOf}
use Rattle.lane_session.proofs.Passing.{appends_then}

abbrev none : List ℕ
none = []

pub appends_none : (old : Option (List ℕ)) → Appends old old []
appends_none None = tt
appends_none (Some old) = sym (append-nil old)

take_none : (k : ℕ) → take k none ≡ none
take_none zero = refl
take_none (suc k) = refl

-- the front of a front and what follows it
take_plus : (bytes : List ℕ) (d k : ℕ) → take (d + k) bytes ≡ take d bytes ++ take k (drop d bytes)
take_plus bytes zero k = let e : 0 + k ≡ k = omega arith in rw e refl
take_plus [] (suc d) k = let e : suc d + k ≡ suc (d + k) = omega arith in rw e (sym (take_none k))
take_plus (b ∷ bytes) (suc d) k = let e : suc d + k ≡ suc (d + k) = omega arith in rw e (ap (λ (t : List ℕ). b ∷ t) (take_plus bytes d k))

-- one more piece was taken
pub appends_more : (old mid new : Option (List ℕ)) (bytes : List ℕ) (done n : ℕ) → Appends old mid (take done bytes) → WritesTo mid new (drop done bytes) (Ok n) → Appends old new (take (done + n) bytes)
appends_more None mid new bytes done n a w = tt
appends_more (Some old) None new bytes done n a w = absurd a
appends_more (Some old) (Some mid) None bytes done n a w = absurd w
appends_more (Some old) (Some mid) (Some new) bytes done n a w =
    w ∙ ap (λ (t : List ℕ). t ++ take n (drop done bytes)) a ∙ append_assoc old (take done bytes) (take n (drop done bytes)) ∙ ap (λ (t : List ℕ). old ++ t) (sym (take_plus bytes done n))

-- a front as long as the bytes is all of them
take_whole : (bytes : List ℕ) (n : ℕ) → length bytes ≤ n → take n bytes ≡ bytes
take_whole [] n le = take_none n
take_whole (b ∷ bytes) zero le = absurd (omega (arith, le))
take_whole (b ∷ bytes) (suc n) le = ap (λ (t : List ℕ). b ∷ t) (take_whole bytes n (omega (arith, le)))

-- all pieces were taken
pub appends_all : (old new : Option (List ℕ)) (bytes : List ℕ) (done : ℕ) → length bytes ≤ done → Appends old new (take done bytes) → Appends old new bytes
appends_all None new bytes done le a = tt
appends_all (Some old) None bytes done le a = a
appends_all (Some old) (Some new) bytes done le a = a ∙ ap (λ (t : List ℕ). old ++ t) (take_whole bytes done le)

-- a piece failed after others were taken
unchanged : (old mid new : Option (List ℕ)) (front piece : List ℕ) (f : LinkFault) → Appends old mid front → WritesTo mid new piece (Err f) → Appends old new front
unchanged None mid new front piece f a w = tt
unchanged (Some old) None new front piece f a w = absurd a
unchanged (Some old) (Some mid) None front piece f a w = absurd w
unchanged (Some old) (Some mid) (Some new) front piece f a w = w ∙ a

pub says_front : (old mid new : Option (List ℕ)) (bytes : List ℕ) (done : ℕ) (f : LinkFault) → Appends old mid (take done bytes) → WritesTo mid new (drop done bytes) (Err f)
    → Says old new (IsFrontOf bytes)
says_front old mid new bytes done f a w = record {
  text = take done bytes;
  added = unchanged old mid new (take done bytes) (drop done bytes) f a w;
  is = record { rest = drop done bytes; is = sym (take-append-drop done bytes) };
}

-- a cause in the last of several calls is one in all of them
pub rose_on : {T : Type 0} (a b c : ℕ) → a ≤ b → HasCause {T = T} b c (Err faults.Failed) → Rose a c
rose_on a b c le h = let f = h.failed in omega (arith, le, f)

pub rose_later : (a b c : ℕ) → b ≤ c → Rose a b → Rose a c
rose_later a b c le r = omega (arith, le, r)

pub rose_before : (a b c : ℕ) → a ≤ b → Rose b c → Rose a c
rose_before a b c le r = omega (arith, le, r)

-- ---- a label and a line

pub line-written : {T E : Type 0} → (a b c : Option (List ℕ)) (label line : List ℕ) (r : Result T E) → Appends a b label → OnOk r (Appends b c line) → OnOk r (Appends a c (label ++ line))
line-written a b c label line (Ok x) p q = appends_then a b c label line p q
line-written a b c label line (Err e) p q = q

pub line-cut : {T E : Type 0} → (a b c : Option (List ℕ)) (label line : List ℕ) (r : Result T E) → Appends a b label → OnErr r (Says b c (IsFrontOf line)) → OnErr r (Says a c (IsFrontOf (label ++ line)))
line-cut a b c label line (Ok x) p q = q
line-cut a b c label line (Err e) p q = record {
  text = label ++ q.text;
  added = appends_then a b c label q.text p q.added;
  is = record { rest = q.is.rest; is = ap (λ (x : List ℕ). label ++ x) q.is.is ∙ sym (append_assoc label q.text q.is.rest) };
}

pub label-cut : (a b : Option (List ℕ)) (label line : List ℕ) → Says a b (IsFrontOf label) → Says a b (IsFrontOf (label ++ line))
label-cut a b label line p = record {
  text = p.text;
  added = p.added;
  is = record { rest = p.is.rest ++ line; is = ap (λ (x : List ℕ). x ++ line) p.is.is ∙ append_assoc p.text p.is.rest line };
}
