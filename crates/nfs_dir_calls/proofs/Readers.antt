-- Codecs of two values in a row, and of values that are made of others.
use Rattle.std.proofs.Common.{◌≡◌, ℕ, List, Bool, true, false, cond, Result, Ok, ◌++◌, ◌==◌, refl, sym, ap, subst, ◌∙◌, append_assoc}
use Rattle.std.proofs.lemmas.Bool.{eqb-true}
use Rattle.xdr_codec.specs.declared.reader.XdrFault.{XdrFault}
use Rattle.xdr_codec.specs.Reading.{◌>>=◌}
use Rattle.xdr_codec.specs.Bytes.{IsBytes}
use Rattle.xdr_codec.specs.Spells.{◌⨾◌}
use Rattle.xdr_codec.proofs.Laws.{Codec, field_if, last_if, always, bind_ok}
use Rattle.xdr_codec.proofs.MoreLaws.{ok_is}
use Rattle.xdr_codec.proofs.WholeLaws.{WholeCodec}
use Rattle.nfs_dir_calls.specs.Pairs.{◌▸◌}

pub pair_codec : {A B : Type 0} {first : List ℕ → Result (A × List ℕ) XdrFault} {second : List ℕ → Result (B × List ℕ) XdrFault} {S : A → List ℕ → Type 0} {T : B → List ℕ → Type 0}
    → Codec first S → Codec second T → Codec (first ▸ second) (λ v. S v.0 ⨾ T v.1)
pair_codec c d = always (field_if (λ v. v.0) c (λ x. last_if (λ v. v.1) (λ y. (x, y)) d (λ y. ((tt, refl), refl)) (λ v k. rw (← k.1) refl)))

-- what follows the front of a text
pub after_text : (text front back rest : List ℕ) → text ≡ front ++ back → text ++ rest ≡ front ++ (back ++ rest)
after_text text front back rest e = ap (λ (k : List ℕ). k ++ rest) e ∙ append_assoc front back rest

-- values that are made of what was read
pub made_takes : {A B : Type 0} {read : List ℕ → Result A XdrFault} {S : A → List ℕ → Type 0} (T : B → List ℕ → Type 0) (make : A → B) → WholeCodec read S
    → ((x : A) (bytes : List ℕ) → S x bytes → T (make x) bytes) → (bytes : List ℕ) (v : B) → IsBytes bytes → (read bytes >>= λ x. Ok (make x)) ≡ Ok v → T v bytes
made_takes {B = B} {read = read} T make c join bytes v fits e =
    let o = bind_ok (read bytes) (λ x. Ok (make x)) v e in
    subst (λ (y : B). T y bytes) (ok_is (make o.0) v o.2) (join o.0 bytes (c.takes bytes o.0 fits o.1))

pub made_again : {A B : Type 0} {read : List ℕ → Result A XdrFault} {S : A → List ℕ → Type 0} (make : A → B) → WholeCodec read S
    → (x : A) (bytes : List ℕ) → S x bytes → (read bytes >>= λ y. Ok (make y)) ≡ Ok (make x)
made_again make c x bytes s = rw (c.again x bytes s) refl

decided : {B : Type 0} (T : ℕ → Type 0) (proc n : ℕ) (one other : Result B XdrFault) (v : B) → (one ≡ Ok v → T n) → (other ≡ Ok v → T proc) → (b : Bool) → (proc == n) ≡ b → cond b one other ≡ Ok v → T proc
decided T proc n one other v one_is other_is true is e = subst T (sym (eqb-true proc n is)) (one_is e)
decided T proc n one other v one_is other_is false is e = other_is e

-- what was read at one number, or at another
pub at_number : {B : Type 0} (T : ℕ → Type 0) (proc n : ℕ) (one other : Result B XdrFault) (v : B) → (one ≡ Ok v → T n) → (other ≡ Ok v → T proc) → cond (proc == n) one other ≡ Ok v → T proc
at_number T proc n one other v one_is other_is e = decided T proc n one other v one_is other_is (proc == n) refl e
