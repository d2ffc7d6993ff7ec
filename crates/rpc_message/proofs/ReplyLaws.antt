-- A reply that is read is spelled so, and one that is spelled so is read.
use Rattle.std.proofs.Common.{◌≡◌, ◌≤◌, ℕ, zero, suc, Bool, true, false, cond, not, ◌==◌, List, [], ◌∷◌, ◌++◌, Some, Result, Ok, Err, refl, sym, ap, subst, ◌∙◌, arith, inl, inr, ◌<◌, ◌⊎◌}
use Rattle.std.proofs.lemmas.Bool.{ne_eqb, le-ltb, lt-ltb}
use Rattle.std.proofs.lemmas.List.{append-nil}
use Rattle.xdr_codec.specs.declared.reader.XdrFault.{XdrFault}
use Rattle.xdr_codec.specs.declared.reader.XdrFault.TheVariants.{BadValue}
use Rattle.xdr_codec.specs.Reading.{◌>>=◌, u32_at}
use Rattle.xdr_codec.specs.Whole.{ended}
use Rattle.xdr_codec.specs.Bytes.{IsBytes}
use Rattle.xdr_codec.specs.Spells.{◌⨾◌, SpellsU32}
use Rattle.xdr_codec.proofs.Laws.{bind_ok, u32_codec}
use Rattle.xdr_codec.proofs.MoreLaws.{of, ok_is}
use Rattle.rpc_message.specs.declared.reply.ReplyFault.{ReplyFault}
use Rattle.rpc_message.specs.declared.reply.ReplyFault.TheVariants.{NotReply}
use Rattle.rpc_message.specs.Auth.{auth_at, SpellsAuth}
use Rattle.rpc_message.specs.Call.{xid_at, Is}
use Rattle.rpc_message.specs.Reply.{RpcReply, Accepted, Refused, Denied, reply_xid, range_at, one_word_at, accepted_as, accepted_at, denied_as, denied_at, answer_at, ◌>>=-reply◌, reply_at, GivesReply, SpellsNone, SpellsRange, SpellsRefused, SpellsDenied, SpellsAnswer, SpellsReply, FindsReply, SpellsRefusal}
use Rattle.rpc_message.proofs.CallLaws.{auth_codec, word_is}

abbrev fault : {B : Type 0} → XdrFault → Result B XdrFault
fault f = Err f

fault_not : {B : Type 0} (f : XdrFault) (y : B) → fault {B = B} f ≡ of y → ⊥
fault_not f y e = absurd cc

-- ---- what ends the bytes

pub ended_ok : {A : Type 0} (x : A) (rest : List ℕ) (v : A) → ended x rest ≡ Ok v → (rest ≡ []) × (x ≡ v)
ended_ok x [] v e = (refl, ok_is x v e)
ended_ok x (b ∷ rest) v e = absurd cc

range_takes : (bytes : List ℕ) (x : ℕ × ℕ) → IsBytes bytes → range_at bytes ≡ Ok x → (SpellsU32 x.0 ⨾ SpellsU32 x.1) bytes
unfolding range_at
range_takes bytes x fits e =
    let o = bind_ok (u32_at bytes) _ x e in
    let t = u32_codec.takes bytes o.0 fits o.1 in
    let p = bind_ok (u32_at o.0.1) _ x o.2 in
    let u = u32_codec.takes o.0.1 p.0 t.rest p.1 in
    let pair : ℕ × ℕ = (o.0.0, p.0.0) in
    let d = ended_ok pair p.0.1 x p.2 in
    let back : o.0.1 ≡ u.front = u.is ∙ ap (λ (k : List ℕ). u.front ++ k) d.0 ∙ append-nil u.front in
    subst (λ (y : ℕ × ℕ). (SpellsU32 y.0 ⨾ SpellsU32 y.1) bytes) d.1
    (record { front = t.front; back = o.0.1; is = t.is; one = t.spells; two = subst (λ (k : List ℕ). SpellsU32 p.0.0 k) (sym back) u.spells })

range_again : (low high : ℕ) (bytes : List ℕ) → (SpellsU32 low ⨾ SpellsU32 high) bytes → range_at bytes ≡ Ok (low, high)
unfolding range_at
range_again low high bytes s = rw (s.is, u32_codec.again low s.front s.back s.one, ← append-nil s.back, u32_codec.again high s.back [] s.two) refl

word_takes : (bytes : List ℕ) (x : ℕ) → IsBytes bytes → one_word_at bytes ≡ Ok x → (SpellsU32 x ⨾ SpellsNone 0 0) bytes
unfolding one_word_at
word_takes bytes x fits e =
    let o = bind_ok (u32_at bytes) _ x e in
    let t = u32_codec.takes bytes o.0 fits o.1 in
    let d = ended_ok o.0.0 o.0.1 x o.2 in
    record { front = t.front; back = o.0.1; is = t.is; one = subst (λ n. SpellsU32 n t.front) d.1 t.spells; two = record { low_is = refl; high_is = refl; is = d.0 } }

word_again : (n low high : ℕ) (bytes : List ℕ) → (SpellsU32 n ⨾ SpellsNone low high) bytes → one_word_at bytes ≡ Ok n
unfolding one_word_at
word_again n low high bytes s = rw (s.is, u32_codec.again n s.front s.back s.one, s.two.is) refl

-- ---- accepted

-- what follows the verifier of a reply
abbrev AfterVerifier : RpcReply → List ℕ → Type 0
AfterVerifier (Accepted xid results) = SpellsU32 0 ⨾ Is results
AfterVerifier (Refused xid stat low high) = SpellsRefused stat low high
AfterVerifier (Denied xid stat first second) = λ bytes. ⊥

-- a reply that begins so, of this xid
abbrev Found : (RpcReply → List ℕ → Type 0) → ℕ → List ℕ → RpcReply → Type 0
Found S xid bytes reply = S reply bytes × (reply_xid reply ≡ xid)

plain_takes : (xid stat : ℕ) (bytes front rest : List ℕ) (r : RpcReply) → 1 ≤ stat → stat ≤ 5 → ((k : List ℕ) → SpellsNone 0 0 k → SpellsRange stat 0 0 k) → bytes ≡ front ++ rest → SpellsU32 stat front
    → ended (Refused xid stat 0 0) rest ≡ Ok r → Found AfterVerifier xid bytes r
plain_takes xid stat bytes front rest r some most none is s e =
    let d = ended_ok (Refused xid stat 0 0) rest r e in
    subst (Found AfterVerifier xid bytes) d.1 (record { refused = some; known = most; is = record { front = front; back = rest; is = is; one = s; two = none rest (record { low_is = refl; high_is = refl; is = d.0 }) } }, refl)

-- a number that another is not
differs : (n m : ℕ) → (n < m) ⊎ (m < n) → (n == m) ≡ false
differs n m h = ne_eqb n m (λ e. elim h [ inl lt ↦ omega (arith, lt, e) | inr gt ↦ omega (arith, gt, e) ])

as_high : (xid stat : ℕ) (rest : List ℕ) → 5 < stat → accepted_as xid stat rest ≡ Err BadValue
as_high xid stat rest h = rw (differs stat 0 (inr (omega (arith, h))), differs stat 2 (inr (omega (arith, h))), lt-ltb 5 stat h) refl

as_takes : (xid stat : ℕ) (bytes front rest : List ℕ) (r : RpcReply) → IsBytes rest → bytes ≡ front ++ rest → SpellsU32 stat front → accepted_as xid stat rest ≡ Ok r → Found AfterVerifier xid bytes r
as_takes xid zero bytes front rest r fits is s e =
    subst (Found AfterVerifier xid bytes) (ok_is (Accepted xid rest) r e) (record { front = front; back = rest; is = is; one = s; two = refl }, refl)
as_takes xid (suc zero) bytes front rest r fits is s e = plain_takes xid 1 bytes front rest r (omega arith) (omega arith) (λ k n. n) is s e
as_takes xid (suc (suc zero)) bytes front rest r fits is s e =
    let o = bind_ok (range_at rest) _ r e in
    subst (Found AfterVerifier xid bytes) (ok_is (Refused xid 2 o.0.0 o.0.1) r o.2)
    (record { refused = omega arith; known = omega arith; is = record { front = front; back = rest; is = is; one = s; two = range_takes rest o.0 fits o.1 } }, refl)
as_takes xid (suc (suc (suc zero))) bytes front rest r fits is s e = plain_takes xid 3 bytes front rest r (omega arith) (omega arith) (λ k n. n) is s e
as_takes xid (suc (suc (suc (suc zero)))) bytes front rest r fits is s e = plain_takes xid 4 bytes front rest r (omega arith) (omega arith) (λ k n. n) is s e
as_takes xid (suc (suc (suc (suc (suc zero))))) bytes front rest r fits is s e = plain_takes xid 5 bytes front rest r (omega arith) (omega arith) (λ k n. n) is s e
as_takes xid (suc (suc (suc (suc (suc (suc n)))))) bytes front rest r fits is s e =
    absurd (fault_not BadValue r (sym (as_high xid (suc (suc (suc (suc (suc (suc n)))))) rest (omega arith)) ∙ e))

accepted_takes : (xid : ℕ) (bytes : List ℕ) (r : RpcReply) → IsBytes bytes → accepted_at xid bytes ≡ Ok r → (SpellsAuth ⨾ AfterVerifier r) bytes × (reply_xid r ≡ xid)
unfolding accepted_at
accepted_takes xid bytes r fits e =
    let o = bind_ok (auth_at bytes) _ r e in
    let t = auth_codec.takes bytes o.0 fits o.1 in
    let p = bind_ok (u32_at o.0.1) _ r o.2 in
    let u = u32_codec.takes o.0.1 p.0 t.rest p.1 in
    let f = as_takes xid p.0.0 o.0.1 u.front p.0.1 r u.rest u.is u.spells p.2 in
    (record { front = t.front; back = o.0.1; is = t.is; one = t.spells; two = f.0 }, f.1)

as_again : (xid stat : ℕ) (rest : List ℕ) → 3 ≤ stat → stat ≤ 5 → rest ≡ [] → accepted_as xid stat rest ≡ Ok (Refused xid stat 0 0)
as_again xid stat rest some most none = rw (differs stat 0 (inr (omega (arith, some))), differs stat 2 (inr (omega (arith, some))), le-ltb 5 stat most, none) refl

refused_again : (xid stat low high : ℕ) (bytes : List ℕ) → SpellsRefused stat low high bytes → (u32_at bytes >>= λ s. accepted_as xid s.0 s.1) ≡ Ok (Refused xid stat low high)
refused_again xid zero low high bytes s = absurd (omega (arith, s.refused))
refused_again xid (suc zero) low high bytes s = let k = s.is in rw (k.is, u32_codec.again 1 k.front k.back k.one, k.two.is, k.two.low_is, k.two.high_is) refl
refused_again xid (suc (suc zero)) low high bytes s = let k = s.is in rw (k.is, u32_codec.again 2 k.front k.back k.one, range_again low high k.back k.two) refl
refused_again xid (suc (suc (suc n))) low high bytes s =
    let k = s.is in
    rw (k.is, u32_codec.again (suc (suc (suc n))) k.front k.back k.one, k.two.low_is, k.two.high_is) (as_again xid (suc (suc (suc n))) k.back (omega arith) s.known k.two.is)

-- ---- denied

denied_high : (xid stat : ℕ) (rest : List ℕ) → 1 < stat → denied_as xid stat rest ≡ Err BadValue
denied_high xid stat rest h = rw (differs stat 0 (inr (omega (arith, h))), differs stat 1 (inr h)) refl

denied_takes : (xid stat : ℕ) (bytes front rest : List ℕ) (r : RpcReply) → IsBytes rest → bytes ≡ front ++ rest → SpellsU32 stat front → denied_as xid stat rest ≡ Ok r
    → (first : ℕ) × (second : ℕ) × (Denied xid stat first second ≡ r) × SpellsDenied stat first second bytes
denied_takes xid zero bytes front rest r fits is s e =
    let o = bind_ok (range_at rest) _ r e in
    (o.0.0, o.0.1, ok_is (Denied xid 0 o.0.0 o.0.1) r o.2, record { front = front; back = rest; is = is; one = s; two = range_takes rest o.0 fits o.1 })
denied_takes xid (suc zero) bytes front rest r fits is s e =
    let o = bind_ok (one_word_at rest) _ r e in
    (o.0, 0, ok_is (Denied xid 1 o.0 0) r o.2, record { front = front; back = rest; is = is; one = s; two = word_takes rest o.0 fits o.1 })
denied_takes xid (suc (suc n)) bytes front rest r fits is s e = absurd (fault_not BadValue r (sym (denied_high xid (suc (suc n)) rest (omega arith)) ∙ e))

denied_again : (xid stat first second : ℕ) (bytes : List ℕ) → SpellsDenied stat first second bytes → denied_at xid bytes ≡ Ok (Denied xid stat first second)
unfolding denied_at
denied_again xid zero first second bytes s = rw (s.is, u32_codec.again 0 s.front s.back s.one, range_again first second s.back s.two) refl
denied_again xid (suc zero) first second bytes s = rw (s.is, u32_codec.again 1 s.front s.back s.one, word_again first second 0 s.back s.two, s.two.two.low_is) refl
denied_again xid (suc (suc n)) first second bytes s = absurd s

-- ---- replies

-- a reply of this xid that the bytes spell after it
abbrev Answers : ℕ → List ℕ → RpcReply → Type 0
Answers xid bytes reply = SpellsAnswer reply bytes × (reply_xid reply ≡ xid)

join_accepted : (xid : ℕ) (r : RpcReply) (bytes front rest : List ℕ) → bytes ≡ front ++ rest → SpellsU32 0 front → (SpellsAuth ⨾ AfterVerifier r) rest × (reply_xid r ≡ xid) → Answers xid bytes r
join_accepted xid (Accepted x results) bytes front rest is s f = (record { front = front; back = rest; is = is; one = s; two = f.0 }, f.1)
join_accepted xid (Refused x stat low high) bytes front rest is s f = (record { front = front; back = rest; is = is; one = s; two = f.0 }, f.1)
join_accepted xid (Denied x stat first second) bytes front rest is s f = absurd f.0.two

answer_as_takes : (xid status : ℕ) (bytes front rest : List ℕ) (r : RpcReply) → IsBytes rest → bytes ≡ front ++ rest → SpellsU32 status front
    → cond (status == 0) (accepted_at xid rest) (cond (status == 1) (denied_at xid rest) (Err BadValue)) ≡ Ok r → Answers xid bytes r
unfolding denied_at
answer_as_takes xid zero bytes front rest r fits is s e = join_accepted xid r bytes front rest is s (accepted_takes xid rest r fits e)
answer_as_takes xid (suc zero) bytes front rest r fits is s e =
    let o = bind_ok (u32_at rest) _ r e in
    let t = u32_codec.takes rest o.0 fits o.1 in
    let d = denied_takes xid o.0.0 rest t.front o.0.1 r t.rest t.is t.spells o.2 in
    subst (Answers xid bytes) d.2 (record { front = front; back = rest; is = is; one = s; two = d.3 }, refl)
answer_as_takes xid (suc (suc n)) bytes front rest r fits is s e =
    let high : cond (suc (suc n) == 0) (accepted_at xid rest) (cond (suc (suc n) == 1) (denied_at xid rest) (Err BadValue)) ≡ Err BadValue
    = rw (differs (suc (suc n)) 0 (inr (omega arith)), differs (suc (suc n)) 1 (inr (omega arith))) refl in
    absurd (fault_not BadValue r (sym high ∙ e))

answer_again : (reply : RpcReply) (bytes : List ℕ) → SpellsAnswer reply bytes → answer_at (reply_xid reply) bytes ≡ Ok reply
unfolding answer_at accepted_at
answer_again (Accepted xid results) bytes s =
    rw (
      s.is,
      u32_codec.again 0 s.front s.back s.one,
      s.two.is,
      auth_codec.again tt s.two.front s.two.back s.two.one,
      s.two.two.is,
      u32_codec.again 0 s.two.two.front s.two.two.back s.two.two.one,
      s.two.two.two,
    ) refl
answer_again (Refused xid stat low high) bytes s =
    rw (
      s.is,
      u32_codec.again 0 s.front s.back s.one,
      s.two.is,
      auth_codec.again tt s.two.front s.two.back s.two.one,
    ) (refused_again xid stat low high s.two.back s.two.two)
answer_again (Denied xid stat first second) bytes s = rw (s.is, u32_codec.again 1 s.front s.back s.one) (denied_again xid stat first second s.back s.two)

reply_ok : {A B : Type 0} (r : Result A XdrFault) (f : A → Result B ReplyFault) (y : B) → (r >>=-reply f) ≡ Ok y → (x : A) × (r ≡ Ok x) × (f x ≡ Ok y)
reply_ok (Ok x) f y e = (x, refl, e)
reply_ok (Err d) f y e = absurd cc

test_ok : {B : Type 0} (b : Bool) (d : ReplyFault) (r : Result B ReplyFault) (y : B) → cond (not b) (Err d) r ≡ Ok y → (b ≡ true) × (r ≡ Ok y)
test_ok true d r y e = (refl, e)
test_ok false d r y e = absurd cc

abbrev replied : {B : Type 0} → B → Result B ReplyFault
replied x = Ok x

abbrev refused : {B : Type 0} → ReplyFault → Result B ReplyFault
refused f = Err f

replied_is : {B : Type 0} (x y : B) → replied x ≡ replied y → x ≡ y
replied_is x y e = cc

replied_not : {B : Type 0} (f : ReplyFault) (y : B) → refused {B = B} f ≡ replied y → ⊥
replied_not f y e = absurd cc

pub reply_takes : (bytes : List ℕ) (reply : RpcReply) → IsBytes bytes → reply_at bytes ≡ Ok reply → SpellsReply reply bytes
unfolding reply_at answer_at
reply_takes bytes reply fits e =
    let o = reply_ok (u32_at bytes) _ reply e in
    let t = u32_codec.takes bytes o.0 fits o.1 in
    let p = reply_ok (u32_at o.0.1) _ reply o.2 in
    let u = u32_codec.takes o.0.1 p.0 t.rest p.1 in
    let kind = test_ok (p.0.0 == 1) NotReply _ reply p.2 in
    let q = reply_ok (answer_at o.0.0 p.0.1) (λ r. Ok r) reply kind.1 in
    let a = bind_ok (u32_at p.0.1) _ q.0 q.1 in
    let v = u32_codec.takes p.0.1 a.0 u.rest a.1 in
    let w = answer_as_takes o.0.0 a.0.0 p.0.1 v.front a.0.1 q.0 v.rest v.is v.spells a.2 in
    subst (λ (y : RpcReply). SpellsReply y bytes) (replied_is q.0 reply q.2)
    (record {
      front = t.front;
      back = o.0.1;
      is = t.is;
      one = subst (λ n. SpellsU32 n t.front) (sym w.1) t.spells;
      two = record { front = u.front; back = p.0.1; is = u.is; one = word_is p.0.0 1 u.front kind.0 u.spells; two = w.0 };
    })

pub reply_again : (reply : RpcReply) (bytes : List ℕ) → SpellsReply reply bytes → reply_at bytes ≡ Ok reply
unfolding reply_at
reply_again reply bytes s =
    rw (
      s.is,
      u32_codec.again (reply_xid reply) s.front s.back s.one,
      s.two.is,
      u32_codec.again 1 s.two.front s.two.back s.two.one,
      answer_again reply s.two.back s.two.two,
    ) refl

-- what the law says of a call of its reader
pub finds_reply : {X : Type 0} (view : X → RpcReply) (result : Result X ReplyFault) (bytes : List ℕ)
    → IsBytes bytes → GivesReply view result (reply_at bytes) → FindsReply view result bytes
finds_reply view (Ok x) bytes fits e = record {
  found = reply_takes bytes (view x) fits e;
  only = λ reply s. (replied_is (view x) reply (sym e ∙ reply_again reply bytes s), refl);
}
finds_reply view (Err f) bytes fits e = record {
  found = tt;
  only = λ reply s. absurd (replied_not f reply (sym e ∙ reply_again reply bytes s));
}

-- the first word of a reply is its xid
pub reply_first : (reply : RpcReply) (bytes : List ℕ) → SpellsReply reply bytes → xid_at bytes ≡ Some (reply_xid reply)
reply_first reply bytes s = rw (s.is, u32_codec.again (reply_xid reply) s.front s.back s.one) refl

pub refusal_first : (xid number : ℕ) (bytes : List ℕ) → SpellsRefusal xid number bytes → xid_at bytes ≡ Some xid
refusal_first xid number bytes s = reply_first s.reply bytes s.is ∙ ap (λ (x : ℕ). Some x) s.of
