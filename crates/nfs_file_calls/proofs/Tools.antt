-- Laws of readers that test what they read, and of functions on all of the bytes.
use Rattle.std.proofs.Common.{◌≡◌, ◌⊎◌, inl, inr, ℕ, Bool, true, false, cond, List, Result, Ok, Err, refl, sym, subst, ◌==◌}
use Rattle.std.proofs.lemmas.Bool.{eqb-true}
use Rattle.xdr_codec.specs.declared.reader.XdrFault.{XdrFault}
use Rattle.xdr_codec.specs.Reading.{◌>>=◌}
use Rattle.xdr_codec.specs.Bytes.{IsBytes}
use Rattle.xdr_codec.proofs.Laws.{Takes, Codec, CodecIf, bind_ok}
use Rattle.xdr_codec.proofs.MoreLaws.{ok_is}
use Rattle.xdr_codec.proofs.WholeLaws.{WholeCodec}

-- a test that was met
pub test_ok : {A : Type 0} (b : Bool) (d : XdrFault) (r : Result A XdrFault) (y : A) → cond b r (Err d) ≡ Ok y → (b ≡ true) × (r ≡ Ok y)
test_ok true d r y e = (refl, e)
test_ok false d r y e = absurd cc

-- the last field, which is tested before the value is made
pub tested_if : {A B : Type 0} {read : List ℕ → Result (A × List ℕ) XdrFault} {S : A → List ℕ → Type 0} {K : B → Type 0}
    (get : B → A) (make : A → B) (test : A → Bool) (d : XdrFault) → Codec read S → ((a : A) → test a ≡ true → K (make a) × (get (make a) ≡ a)) → ((b : B) → K b → (make (get b) ≡ b) × (test (get b) ≡ true))
    → CodecIf (λ bytes. read bytes >>= λ x. cond (test x.0) (Ok (make x.0, x.1)) (Err d)) K (λ b. S (get b))
tested_if {A = A} {B = B} {read = read} {S = S} {K = K} get make test d c made whole = record {
  takes = λ bytes x fits e.
      let o = bind_ok (read bytes) (λ y. cond (test y.0) (Ok (make y.0, y.1)) (Err d)) x e in
      let t = c.takes bytes o.0 fits o.1 in
      let g = test_ok (test o.0.0) d (Ok (make o.0.0, o.0.1)) x o.2 in
      let m = made o.0.0 g.0 in
      let done : B × List ℕ = (make o.0.0, o.0.1) in
      subst (λ (y : B × List ℕ). Takes (λ b. S (get b)) bytes y × K y.0) (ok_is done x g.1)
      (record { front = t.front; is = t.is; spells = subst (λ (a : A). S a t.front) (sym m.1) t.spells; rest = t.rest }, m.0);
  again = λ v text rest k s. let w = whole v k in rw (c.again (get v) text rest s, w.1, w.0) refl;
}

-- what is made of a value that was read from all of the bytes
pub made_takes : {A B : Type 0} {read : List ℕ → Result A XdrFault} {S : A → List ℕ → Type 0} (T : B → List ℕ → Type 0) (make : A → B) → WholeCodec read S
    → ((a : A) (bytes : List ℕ) → S a bytes → T (make a) bytes) → (bytes : List ℕ) (v : B) → IsBytes bytes → (read bytes >>= λ a. Ok (make a)) ≡ Ok v → T v bytes
made_takes {B = B} {read = read} T make c spells bytes v fits e =
    let o = bind_ok (read bytes) (λ a. Ok (make a)) v e in
    subst (λ (b : B). T b bytes) (ok_is (make o.0) v o.2) (spells o.0 bytes (c.takes bytes o.0 fits o.1))

pub made_again : {A B : Type 0} {read : List ℕ → Result A XdrFault} {S : A → List ℕ → Type 0} (make : A → B) → WholeCodec read S → (a : A) (bytes : List ℕ) → S a bytes
    → (read bytes >>= λ x. Ok (make x)) ≡ Ok (make a)
made_again make c a bytes s = rw (c.again a bytes s) refl

by_test : {A : Type 0} (b : Bool) (r s : Result A XdrFault) (v : A) → cond b r s ≡ Ok v → ((b ≡ true) × (r ≡ Ok v)) ⊎ (s ≡ Ok v)
by_test true r s v e = inl (refl, e)
by_test false r s v e = inr e

-- the procedure is n, or what is read is read by the rest
pub dispatch : {A T : Type 0} (n proc : ℕ) (r s : Result A XdrFault) (v : A) → (proc ≡ n → r ≡ Ok v → T) → (s ≡ Ok v → T) → cond (proc == n) r s ≡ Ok v → T
dispatch n proc r s v here there e = elim (by_test (proc == n) r s v e) [ inl p ↦ here (eqb-true proc n p.0) p.1 | inr q ↦ there q ]

abbrev pub none : {A : Type 0} → XdrFault → Result A XdrFault
none d = Err d

-- no procedure at all
pub nothing_read : {A T : Type 0} (d : XdrFault) (v : A) → none {A = A} d ≡ Ok v → T
nothing_read d v e = absurd cc
