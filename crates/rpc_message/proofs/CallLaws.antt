-- A call that is read is spelled so, and one that is spelled so is read.
use Rattle.std.proofs.Common.{◌≡◌, ℕ, Bool, true, false, cond, not, ◌==◌, List, ◌++◌, Some, Result, Ok, Err, refl, sym, ap, subst, ◌∙◌, append_assoc}
use Rattle.std.proofs.lemmas.Bool.{eqb-true}
use Rattle.xdr_codec.specs.declared.reader.XdrFault.{XdrFault}
use Rattle.xdr_codec.specs.Reading.{u32_at, opaque_at}
use Rattle.xdr_codec.specs.Bytes.{IsBytes}
use Rattle.xdr_codec.specs.Spells.{SpellsU32}
use Rattle.xdr_codec.proofs.Laws.{Takes, Codec, CodecIf, bind_ok, field_if, last_if, u32_codec}
use Rattle.xdr_codec.proofs.MoreLaws.{ok_is, both, opaque_codec}
use Rattle.rpc_message.specs.declared.call.CallHead.{CallHead}
use Rattle.rpc_message.specs.declared.call.CallFault.{CallFault}
use Rattle.rpc_message.specs.declared.call.CallFault.TheVariants.{NotCall, Version}
use Rattle.rpc_message.specs.Auth.{auth_at, after_body_at, SpellsAuth}
use Rattle.rpc_message.specs.Call.{xid_at, ◌>>=-call◌, head_at, call_at, GivesCall, SpellsBody, SpellsCallHead, FindsCall}

pub after_text : (text front back rest : List ℕ) → text ≡ front ++ back → text ++ rest ≡ front ++ (back ++ rest)
after_text text front back rest e = ap (λ (k : List ℕ). k ++ rest) e ∙ append_assoc front back rest

pub auth_codec : Codec auth_at (λ _. SpellsAuth)
unfolding auth_at
auth_codec = record {
  takes = λ bytes x fits e.
      let o = bind_ok (u32_at bytes) (λ flavor. after_body_at flavor.1) x e in
      let p = bind_ok (opaque_at 400 o.0.1) (λ body. Ok (tt, body.1)) x o.2 in
      let t = u32_codec.takes bytes o.0 fits o.1 in
      let u = (opaque_codec 400).takes o.0.1 p.0 t.rest p.1 in
      let pair : Unit {0} × List ℕ = (tt, p.0.1) in
      subst (λ (y : Unit {0} × List ℕ). Takes (λ _. SpellsAuth) bytes y) (ok_is pair x p.2)
      (both {U = λ (_ : Unit {0}). SpellsAuth} bytes o.0 p.0 tt t u (λ text s. record { flavor = o.0.0; body = p.0.0; is = s }));
  again = λ v text rest s.
      rw (
        after_text text s.is.front s.is.back rest s.is.is,
        u32_codec.again s.flavor s.is.front (s.is.back ++ rest) s.is.one,
        (opaque_codec 400).again s.body s.is.back rest s.is.two,
      ) refl;
}

pub head_codec : (xid : ℕ) → CodecIf (head_at xid) (λ h. h.xid ≡ xid) SpellsBody
unfolding head_at
head_codec xid =
    field_if (λ h. h.prog) u32_codec (λ prog. field_if (λ h. h.vers) u32_codec (λ vers. field_if (λ h. h.proc) u32_codec (λ proc. field_if (λ h. tt) auth_codec (λ credential.
    last_if (λ h. tt) (λ verifier. record { xid = xid; prog = prog; vers = vers; proc = proc }) auth_codec
    (λ a. (((((refl, refl), refl), refl), refl), refl))
    (λ b k. rw (← k.0.1, ← k.0.0.1, ← k.0.0.0.1, ← k.0.0.0.0) refl)))))

-- ---- calls

call_ok : {A B : Type 0} (r : Result A XdrFault) (f : A → Result B CallFault) (y : B) → (r >>=-call f) ≡ Ok y → (x : A) × (r ≡ Ok x) × (f x ≡ Ok y)
call_ok (Ok x) f y e = (x, refl, e)
call_ok (Err d) f y e = absurd cc

test_ok : {B : Type 0} (b : Bool) (d : CallFault) (r : Result B CallFault) (y : B) → cond (not b) (Err d) r ≡ Ok y → (b ≡ true) × (r ≡ Ok y)
test_ok true d r y e = (refl, e)
test_ok false d r y e = absurd cc

abbrev called : {B : Type 0} → B → Result B CallFault
called x = Ok x

abbrev refused : {B : Type 0} → CallFault → Result B CallFault
refused f = Err f

called_is : {B : Type 0} (x y : B) → called x ≡ called y → x ≡ y
called_is x y e = cc

called_not : {B : Type 0} (f : CallFault) (y : B) → refused {B = B} f ≡ called y → ⊥
called_not f y e = absurd cc

-- the word that was read is the one that was asked for
pub word_is : (n m : ℕ) (text : List ℕ) → (n == m) ≡ true → SpellsU32 n text → SpellsU32 m text
word_is n m text e s = subst (λ k. SpellsU32 k text) (eqb-true n m e) s

pub call_takes : (bytes : List ℕ) (x : CallHead × List ℕ) → IsBytes bytes → call_at bytes ≡ Ok x → SpellsCallHead x.0 x.1 bytes
unfolding call_at
call_takes bytes x fits e =
    let o = call_ok (u32_at bytes) _ x e in
    let t = u32_codec.takes bytes o.0 fits o.1 in
    let p = call_ok (u32_at o.0.1) _ x o.2 in
    let u = u32_codec.takes o.0.1 p.0 t.rest p.1 in
    let kind = test_ok (p.0.0 == 0) NotCall _ x p.2 in
    let q = call_ok (u32_at p.0.1) _ x kind.1 in
    let v = u32_codec.takes p.0.1 q.0 u.rest q.1 in
    let version = test_ok (q.0.0 == 2) Version _ x q.2 in
    let r = call_ok (head_at o.0.0 q.0.1) (λ call. Ok call) x version.1 in
    let w = (head_codec o.0.0).takes q.0.1 r.0 v.rest r.1 in
    subst (λ (y : CallHead × List ℕ). SpellsCallHead y.0 y.1 bytes) (called_is r.0 x r.2)
    (record {
      front = t.front;
      back = o.0.1;
      is = t.is;
      one = subst (λ n. SpellsU32 n t.front) (sym w.1) t.spells;
      two = record {
        front = u.front;
        back = p.0.1;
        is = u.is;
        one = word_is p.0.0 0 u.front kind.0 u.spells;
        two = record {
          front = v.front;
          back = q.0.1;
          is = v.is;
          one = word_is q.0.0 2 v.front version.0 v.spells;
          two = record { front = w.0.front; back = r.0.1; is = w.0.is; one = w.0.spells; two = refl };
        };
      };
    })

pub call_again : (head : CallHead) (args bytes : List ℕ) → SpellsCallHead head args bytes → call_at bytes ≡ Ok (head, args)
unfolding call_at
call_again head args bytes s =
    rw (
      s.is,
      u32_codec.again head.xid s.front s.back s.one,
      s.two.is,
      u32_codec.again 0 s.two.front s.two.back s.two.one,
      s.two.two.is,
      u32_codec.again 2 s.two.two.front s.two.two.back s.two.two.one,
      s.two.two.two.is,
      (head_codec head.xid).again head s.two.two.two.front s.two.two.two.back refl s.two.two.two.one,
      s.two.two.two.two,
    ) refl

-- a reader's bytes are those that it was made of
pub same_bytes : (start bytes : List ℕ) → start ≡ bytes → IsBytes start → IsBytes bytes
same_bytes start bytes e fits = subst (λ (k : List ℕ). IsBytes k) e fits

-- what the law says of a call of its reader
pub finds_call : {X : Type 0} (view : X → CallHead × List ℕ) (result : Result X CallFault) (bytes : List ℕ)
    → IsBytes bytes → GivesCall view result (call_at bytes) → FindsCall view result bytes
finds_call view (Ok x) bytes fits e = record {
  found = call_takes bytes (view x) fits e;
  only = λ head args s. (called_is (view x) (head, args) (sym e ∙ call_again head args bytes s), refl);
}
finds_call view (Err f) bytes fits e = record {
  found = tt;
  only = λ head args s. absurd (called_not f (head, args) (sym e ∙ call_again head args bytes s));
}

-- the first word of a call is its xid
pub call_xid : (head : CallHead) (args bytes : List ℕ) → SpellsCallHead head args bytes → xid_at bytes ≡ Some head.xid
call_xid head args bytes s = rw (s.is, u32_codec.again head.xid s.front s.back s.one) refl
