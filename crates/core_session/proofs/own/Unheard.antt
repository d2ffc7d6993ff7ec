-- Before the record that answers a call no record under its xid came since it was executed.
use Rattle.core_session.proofs.Prelude.{◌≡◌, ◌≤◌, ◌<◌, ◌+◌, ◌-◌, inl, inr, ℕ, zero, suc, Bool, true, false, nat_eq, List, Option, Some, None, refl, sym, ap, subst, ◌∙◌, arith, cases_lt, eqb-true, eqb-false, xid_at, FileCall, FileKept, Entry, Began, Answered, Dialed, Sent, Executed, Foreign, Flushed, Reboot, Delivered, Failed, Clock, At, Asked, History, Lawful, HasXid, Once, At-below, At-one, Numbered, HeardBefore}
use Rattle.world_model.specs.declared.message.Call.TheVariants as calls
use Rattle.world_model.specs.declared.message.Reply.TheVariants as replies
use Rattle.world_model.specs.Waiting.{Waits, Answers}
use Rattle.world_model.proofs.Lasting.{entry_at}
use Rattle.law_calls.proofs.CallsWait.{idle, waiting}
use Rattle.law_stable.proofs.Executions.{ran}

-- ---- the first record under an xid

data Comes (xid : ℕ) (e : Entry) : Type 0 where
  comes : (b : List ℕ) → e ≡ Delivered b → HasXid b xid → Comes xid e
  other : ((b : List ℕ) → e ≡ Delivered b → HasXid b xid → ⊥) → Comes xid e

delivered-is : (a b : List ℕ) → Delivered a ≡ Delivered b → a ≡ b
delivered-is a b e = cc

some-xid : (a b : ℕ) → Some a ≡ Some b → a ≡ b
some-xid a b e = cc

which : (xid : ℕ) (e : Entry) → Comes xid e
which xid (Delivered bytes) = by (xid_at bytes) refl
  where
    of : (x : ℕ) (c : Bool) → xid_at bytes ≡ Some x → nat_eq x xid ≡ c → Comes xid (Delivered bytes)
    of x true is d = comes bytes refl (is ∙ ap (λ (n : ℕ). Some n) (eqb-true x xid d))
    of x false is d = other (λ b same has. eqb-false x xid d (some-xid x xid (sym is ∙ ap xid_at (delivered-is bytes b same) ∙ has)))

    by : (o : Option ℕ) → xid_at bytes ≡ o → Comes xid (Delivered bytes)
    by None is = other (λ b same has. absurd (let no_way : None ≡ Some xid = sym is ∙ ap xid_at (delivered-is bytes b same) ∙ has in cc))
    by (Some x) is = of x (nat_eq x xid) is refl
which xid (Began lane line op) = other (λ b e has. absurd (cc e))
which xid (Answered lane line answer) = other (λ b e has. absurd (cc e))
which xid (Dialed port) = other (λ b e has. absurd (cc e))
which xid (Sent bytes) = other (λ b e has. absurd (cc e))
which xid (Executed x call reply) = other (λ b e has. absurd (cc e))
which xid (Foreign call reply) = other (λ b e has. absurd (cc e))
which xid (Flushed file from len) = other (λ b e has. absurd (cc e))
which xid (Reboot verf) = other (λ b e has. absurd (cc e))
which xid Failed = other (λ b e has. absurd (cc e))
which xid (Clock ms) = other (λ b e has. absurd (cc e))

-- by the place n a record answers the call
record IsAnswered (h : List Entry) (xid n : ℕ) : Type 0 where
  at : ℕ
  bytes : List ℕ
  answers : Answers h at xid bytes
  by : at ≤ n

-- where the xid waits at a place, and a record under it comes at that place or later, one answers it
answered-by : (h : List Entry) (xid n : ℕ) (b : List ℕ) → At h n (Delivered b) → HasXid b xid → (gap p : ℕ) → p + gap ≡ n → Waits h xid p → IsAnswered h xid n
answered-by h xid n b got under zero p is w =
    let same : p ≡ n = omega (arith, is) in
    record { at = n; bytes = b; answers = record { got = got; under = under; waits = subst (Waits h xid) same w }; by = omega arith }
answered-by h xid n b got under (suc gap) p is w =
    let more : Waits h xid (suc p) → IsAnswered h xid n = answered-by h xid n b got under gap (suc p) (omega (arith, is)) in
    let x = entry_at h p (let below = At-below h n (Delivered b) got in omega (arith, below, is)) in
    by x.0 x.1 more (which xid x.0)
  where
    by : (e : Entry) → At h p e → (Waits h xid (suc p) → IsAnswered h xid n) → Comes xid e → IsAnswered h xid n
    by e at more (comes c same has) = record {
      at = p;
      bytes = c;
      answers = record { got = subst (λ (z : Entry). At h p z) same at; under = has; waits = w };
      by = omega (arith, is);
    }
    by e at more (other none) = more (record {
      at = w.at;
      bytes = w.bytes;
      sent = w.sent;
      under = w.under;
      before = let low = w.before in omega (arith, low);
      unanswered = λ j c got_ has after before. elim (cases_lt j p) [
        | inl lt ↦ w.unanswered j c got_ has after lt
        | inr ge ↦
            let here : j ≡ p = omega (arith, ge, before) in
            none c (At-one h p e (Delivered c) at (subst (λ (q : ℕ). At h q (Delivered c)) here got_)) has
      ];
    })

-- ---- so no record under the xid came before its answer

pub unheard : (t : History) → Lawful t → Once t.entries → Numbered t.entries → (from to : ℕ) (call : FileCall) (reply : FileKept)
    → (a : Asked t.entries from to (calls.File call) (replies.File reply)) → (s : ℕ) → s ≤ a.heard.got_at → HeardBefore t.entries a.xid s → ⊥
unheard t lawful once numbered from to call reply a s low k =
    let r = ran t lawful numbered from to call reply a in
    let late : r.place < k.at = once k.at r.place a.xid k.bytes (calls.File call) (replies.File reply) k.got k.under r.at in
    let first =
    answered-by t.entries a.xid k.at k.bytes k.got k.under (k.at - r.place) r.place (omega (arith, late))
    (waiting t lawful once numbered r.place a.xid (calls.File call) (replies.File reply) r.at).waits in
    let before = k.before in
    let by = first.by in
    idle t.entries numbered first.at a.heard.got_at a.xid first.bytes first.answers (omega (arith, before, by, low)) a.heard.got.waits
