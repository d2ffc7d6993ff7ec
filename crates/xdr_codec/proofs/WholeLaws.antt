-- What is read from all of the bytes is spelled so, and what is spelled so is read.
use Rattle.std.proofs.Common.{◌≡◌, ℕ, List, [], ◌∷◌, ◌++◌, Option, Result, Ok, Err, refl, sym, ap, subst, ◌∙◌}
use Rattle.std.proofs.lemmas.List.{append-nil}
use Rattle.std.specs.Prelude.{IfOk, IsOk}
use Rattle.xdr_codec.specs.declared.reader.XdrFault.{XdrFault}
use Rattle.xdr_codec.specs.declared.codec_fault.CodecFault.{CodecFault}
use Rattle.xdr_codec.specs.declared.codec_fault.CodecFault.TheVariants as faults
use Rattle.xdr_codec.specs.Reading.{◌>>=◌, end_at}
use Rattle.xdr_codec.specs.Bytes.{IsBytes}
use Rattle.xdr_codec.specs.Whole.{ended, whole_at, Gives, GivesOwned, FindsWhole, FindsOwned, IsOwned}
use Rattle.xdr_codec.proofs.Laws.{Codec, bind_ok}
use Rattle.xdr_codec.proofs.MoreLaws.{of, ok_is}

-- A function on all of the bytes that gives what they spell and nothing else.
pub record WholeCodec {A : Type 0} (read : List ℕ → Result A XdrFault) (Spells : A → List ℕ → Type 0) : Type 0 where
  pub takes : (bytes : List ℕ) (v : A) → IsBytes bytes → read bytes ≡ Ok v → Spells v bytes
  pub again : (v : A) (bytes : List ℕ) → Spells v bytes → read bytes ≡ Ok v

ended_ok : {A : Type 0} (x : A) (rest : List ℕ) (v : A) → ended x rest ≡ Ok v → (rest ≡ []) × (x ≡ v)
ended_ok x [] v e = (refl, ok_is x v e)
ended_ok x (b ∷ rest) v e = absurd cc

-- a codec, with nothing after the value
pub whole_codec : {A : Type 0} {read : List ℕ → Result (A × List ℕ) XdrFault} {S : A → List ℕ → Type 0} → Codec read S → WholeCodec (whole_at read) S
whole_codec {A = A} {read = read} {S = S} c = record {
  takes = λ bytes v fits e.
      let o = bind_ok (read bytes) (λ x. ended x.0 x.1) v e in
      let t = c.takes bytes o.0 fits o.1 in
      let d = ended_ok o.0.0 o.0.1 v o.2 in
      let same : t.front ≡ bytes = sym (append-nil t.front) ∙ ap (λ (k : List ℕ). t.front ++ k) (sym d.0) ∙ sym t.is in
      subst (λ (a : A). S a bytes) d.1 (subst (λ (k : List ℕ). S o.0.0 k) same t.spells);
  again = λ v bytes s. ap (λ (k : List ℕ). whole_at read k) (sym (append-nil bytes)) ∙ rw (c.again v bytes [] s) refl;
}

abbrev refused : {B : Type 0} → XdrFault → Result B XdrFault
refused f = Err f

err_is : {A : Type 0} (f : XdrFault) (v : A) → refused {B = A} f ≡ of v → ⊥
err_is f v e = absurd cc

-- what a whole codec says of a call of its reader
pub finds_whole : {X A : Type 0} {read : List ℕ → Result A XdrFault} {S : A → List ℕ → Type 0} (view : X → A) (bytes : List ℕ) (result : Result X XdrFault)
    → WholeCodec read S → IsBytes bytes → Gives view result (read bytes) → FindsWhole view S bytes result
finds_whole {read = read} view bytes (Ok x) c fits e = record {
  found = c.takes bytes (view x) fits e;
  only = λ v s. (ok_is (view x) v (sym e ∙ c.again v bytes s), refl);
}
finds_whole {read = read} view bytes (Err f) c fits e = record {
  found = tt;
  only = λ v s. absurd (err_is f v (sym e ∙ c.again v bytes s));
}

-- the same of a reader of values that own their data
pub finds_owned : {X : Type 0} {read : List ℕ → Result X XdrFault} {S : X → List ℕ → Type 0} (bytes : List ℕ) (result : Result X CodecFault)
    → WholeCodec read S → IsBytes bytes → GivesOwned result (read bytes) → FindsOwned S bytes result
finds_owned {read = read} bytes (Ok x) c fits e = record {
  found = c.takes bytes x fits e;
  only = λ v s. ok_is x v (sym e ∙ c.again v bytes s);
}
finds_owned bytes (Err faults.Memory) c fits e = record { found = tt; only = λ v s. tt }
finds_owned {read = read} bytes (Err (faults.Xdr f)) c fits e = record {
  found = tt;
  only = λ v s. err_is f v (sym e ∙ c.again v bytes s);
}
