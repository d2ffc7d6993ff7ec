-- The calls of a session are counted as its history shows them.
use Rattle.std.proofs.Common.{◌≡◌, ◌≤◌, ◌<◌, ◌+◌, ◌==◌, ℕ, suc, Bool, true, false, cond, nat_eq, min, List, [], ◌∷◌, ◌++◌, length, Some, None, option_map, Result, Ok, Err, refl, sym, ap, subst, ◌∙◌, arith, append-nil}
use Rattle.std.specs.Prelude.{if◌then◌else◌}
use Rattle.std.proofs.lemmas.Bool.{eq-eqb, ne_eqb}
use Rattle.nfs_types.specs.declared.nfs_proc.TheConstants.{GETATTR, LOOKUP, READ, WRITE, COMMIT}
use Rattle.xdr_codec.specs.Reading.{u32_at}
use Rattle.xdr_codec.specs.declared.reader.XdrFault.{XdrFault}
use Rattle.xdr_codec.proofs.Laws.{bind_ok}
use Rattle.rpc_message.specs.Auth.{auth_at}
use Rattle.rpc_message.specs.Call.{◌>>=-call◌, head_at, call_at, value_read}
use Rattle.rpc_message.specs.declared.call.CallHead.{CallHead}
use Rattle.rpc_message.specs.declared.call.CallFault.{CallFault}
use Rattle.rpc_message.proofs.CallLaws.{call_again}
use Rattle.rpc_retry.specs.declared.waiting.Waiting.{Waiting}
use Rattle.rpc_retry.specs.Held.{next_xid}
use Rattle.rpc_retry.specs.Waiting.{sent_call, first_due}
use Rattle.rpc_retry.proofs.Dues.{if_true, if_false}
use Rattle.rpc_retry.proofs.Lookups.{SentAt, waits_early, at_sent}
use Rattle.world_model.specs.declared.entry.Entry.{Entry}
use Rattle.world_model.specs.declared.entry.Entry.TheVariants.{Began, Answered, Dialed, Sent, Executed, Foreign, Flushed, Reboot, Delivered, Failed, Clock}
use Rattle.world_model.specs.declared.tally.Tally.{Tally}
use Rattle.world_model.specs.Counts.{Counted, Every, Only, counts_head, xid_counted, xids_sent, different, calls_made, tally_of}
use Rattle.world_model.specs.Entries.{At}
use Rattle.world_model.specs.Messages.{HasXid, head_of}
use Rattle.client_core.specs.declared.lane.Purpose.{Purpose}
use Rattle.client_core.specs.declared.setup.Setup.{Setup}
use Rattle.client_core.specs.Steps.{SendsBy, call_sent}
use Rattle.client_core.specs.View.{View}
use Rattle.core_facts.specs.Tries.{Tried, unsent, runs, ended, IsUnsent, IsOutstanding, IsKnown}
use Rattle.core_facts.proofs.Cases.{sent_now}
use Rattle.core_facts.proofs.Rows.{Rows}
use Rattle.lane_session.specs.Running.{one_where}
use Rattle.lane_session.specs.Tallies.{with_proc, with_attempt}
use Rattle.lane_session.proofs.Attempts.{failed-tried, running-tried}
use Rattle.lane_session.proofs.Counted.{AreAll, AreBelow, all-absent, all-append, all-below, xids-same, xids-more, is_in, one-more, none-more, few-different, sent-in}

-- ---- the xid of a call that is read is the record's

call_ok : {A B : Type 0} → (r : Result A XdrFault) (f : A → Result B CallFault) (y : B) → (r >>=-call f) ≡ Ok y → (x : A) × (r ≡ Ok x) × (f x ≡ Ok y)
call_ok (Ok x) f y e = (x, refl, e)
call_ok (Err d) f y e = absurd cc

test_ok : {B : Type 0} → (b : Bool) (d : CallFault) (r : Result B CallFault) (y : B) → cond b (Err d) r ≡ Ok y → r ≡ Ok y
test_ok true d r y e = absurd cc
test_ok false d r y e = e

abbrev was_read : {A : Type 0} → A → Result A XdrFault
was_read x = Ok x

abbrev called : {A : Type 0} → A → Result A CallFault
called x = Ok x

read_is : {A : Type 0} → (x y : A) → was_read x ≡ was_read y → x ≡ y
read_is x y e = cc

called_is : {A : Type 0} → (x y : A) → called x ≡ called y → x ≡ y
called_is x y e = cc

head-xid : (xid : ℕ) (bytes : List ℕ) (x : CallHead × List ℕ) → head_at xid bytes ≡ Ok x → x.0.xid ≡ xid
unfolding head_at
head-xid xid bytes x e =
    let a = bind_ok (u32_at bytes) _ x e in
    let b = bind_ok (u32_at a.0.1) _ x a.2 in
    let c = bind_ok (u32_at b.0.1) _ x b.2 in
    let d = bind_ok (auth_at c.0.1) _ x c.2 in
    let f = bind_ok (auth_at d.0.1) _ x d.2 in
    let last : CallHead × List ℕ = (record { xid = xid; prog = a.0.0; vers = b.0.0; proc = c.0.0 }, f.0.1) in
    ap (λ (y : CallHead × List ℕ). y.0.xid) (sym (read_is last x f.2))

call-xid : (bytes : List ℕ) (x : CallHead × List ℕ) → call_at bytes ≡ Ok x → HasXid bytes x.0.xid
unfolding call_at
call-xid bytes x e =
    let o = call_ok (u32_at bytes) _ x e in
    let p = call_ok (u32_at o.0.1) _ x o.2 in
    let q = call_ok (u32_at p.0.1) _ x (test_ok _ _ _ x p.2) in
    let r = call_ok (head_at o.0.0 q.0.1) _ x (test_ok _ _ _ x q.2) in
    let is : x.0.xid ≡ o.0.0 = ap (λ (y : CallHead × List ℕ). y.0.xid) (sym (called_is r.0 x r.2)) ∙ head-xid o.0.0 q.0.1 r.0 r.1 in
    ap value_read o.1 ∙ ap Some (sym is)

-- what a record counts for is its xid
counted-all : (P : ℕ → Type 0) (which : Counted) (bytes : List ℕ) → ((xid : ℕ) → HasXid bytes xid → P xid) → AreAll P (xid_counted which (call_at bytes))
counted-all P which bytes all = by (call_at bytes) refl
  where
    by : (r : Result (CallHead × List ℕ) CallFault) → call_at bytes ≡ r → AreAll P (xid_counted which r)
    by (Err f) e = tt
    by (Ok x) e = elim (counts_head which x.0) as (λ b. AreAll P (cond b (x.0.xid ∷ []) [])) [
      | true ↦ (all x.0.xid (call-xid bytes x e), tt)
      | false ↦ tt
    ]

-- so is what a history does
sent-all : (P : ℕ → Type 0) (which : Counted) (h : List Entry) → ((i xid : ℕ) (bytes : List ℕ) → At h i (Sent bytes) → HasXid bytes xid → P xid) → AreAll P (xids_sent which h)
sent-all P which [] all = tt
sent-all P which (Sent bytes ∷ h) all =
    all-append P (xid_counted which (call_at bytes)) (xids_sent which h) (counted-all P which bytes (λ xid has. all 0 xid bytes refl has)) (sent-all P which h (λ i xid b at has. all (suc i) xid b at has))
sent-all P which (Began lane line op ∷ h) all = sent-all P which h (λ i xid b at has. all (suc i) xid b at has)
sent-all P which (Answered lane line answer ∷ h) all = sent-all P which h (λ i xid b at has. all (suc i) xid b at has)
sent-all P which (Dialed port ∷ h) all = sent-all P which h (λ i xid b at has. all (suc i) xid b at has)
sent-all P which (Executed xid call reply ∷ h) all = sent-all P which h (λ i xid b at has. all (suc i) xid b at has)
sent-all P which (Foreign call reply ∷ h) all = sent-all P which h (λ i xid b at has. all (suc i) xid b at has)
sent-all P which (Flushed file from len ∷ h) all = sent-all P which h (λ i xid b at has. all (suc i) xid b at has)
sent-all P which (Reboot verf ∷ h) all = sent-all P which h (λ i xid b at has. all (suc i) xid b at has)
sent-all P which (Delivered bytes ∷ h) all = sent-all P which h (λ i xid b at has. all (suc i) xid b at has)
sent-all P which (Failed ∷ h) all = sent-all P which h (λ i xid b at has. all (suc i) xid b at has)
sent-all P which (Clock ms ∷ h) all = sent-all P which h (λ i xid b at has. all (suc i) xid b at has)

-- ---- entries that send nothing

silent : (which : Counted) (e : Entry) → ((bytes : List ℕ) → e ≡ Sent bytes → ⊥) → xids_sent which (e ∷ []) ≡ []
silent which (Began lane line op) other = refl
silent which (Answered lane line answer) other = refl
silent which (Dialed port) other = refl
silent which (Sent bytes) other = absurd (other bytes refl)
silent which (Executed xid call reply) other = refl
silent which (Foreign call reply) other = refl
silent which (Flushed file from len) other = refl
silent which (Reboot verf) other = refl
silent which (Delivered bytes) other = refl
silent which Failed other = refl
silent which (Clock ms) other = refl

abbrev six_numbers : ℕ → ℕ → ℕ → ℕ → ℕ → ℕ → Tally
six_numbers a b c d e f = record { calls = a; getattr = b; lookup = c; read = d; write = e; commit = f }

six : (a b c d e f u v w x y z : ℕ) → a ≡ u → b ≡ v → c ≡ w → d ≡ x → e ≡ y → f ≡ z → six_numbers a b c d e f ≡ six_numbers u v w x y z
six a b c d e f u v w x y z p q r s t o = rw (p, q, r, s, t, o) refl

-- the numbers that are told go by the xids
pub tally-by : (h k : List Entry) → ((which : Counted) → calls_made which k ≡ calls_made which h) → tally_of k ≡ tally_of h
tally-by h k same = six _ _ _ _ _ _ _ _ _ _ _ _ (same Every) (same (Only GETATTR)) (same (Only LOOKUP)) (same (Only READ)) (same (Only WRITE)) (same (Only COMMIT))

-- an entry that sends nothing
pub tallied-on : (h : List Entry) (e : Entry) (t : Tally) → ((bytes : List ℕ) → e ≡ Sent bytes → ⊥) → t ≡ tally_of h → t ≡ tally_of (h ++ e ∷ [])
tallied-on h e t other was = was ∙ sym (tally-by h (h ++ e ∷ []) (λ which. ap (λ (xs : List ℕ). length (different xs)) (xids-same which h e (silent which e other))))

-- ---- a record is sent

uncapped : (n : ℕ) → n ≤ 4294967295 → min n 4294967295 ≡ n
uncapped n le = omega (arith, le)

-- a call is counted by its first attempt
counted-first : (attempts proc : ℕ) (t : Tally) → attempts ≡ 0 → with_attempt (attempts + 1) proc t ≡ with_proc t proc
counted-first attempts proc t none = if_true (nat_eq (attempts + 1) 1) (with_proc t proc) t (eq-eqb (attempts + 1) 1 (omega (arith, none)))

counted-again : (attempts proc : ℕ) (t : Tally) → 1 ≤ attempts → with_attempt (attempts + 1) proc t ≡ t
counted-again attempts proc t some = if_false (nat_eq (attempts + 1) 1) (with_proc t proc) t (ne_eqb (attempts + 1) 1 (λ same. omega (arith, same, some)))

module _ (setup : Setup) (h : List Entry) (old : View) (xid : ℕ) (call : Waiting Purpose) (due : first_due old.calls.calls ≡ Some (xid, call)) (r : Rows setup h old) (t : Tally) (is : t ≡ tally_of h) where
  abbrev k : List Entry
  k = h ++ Sent call.bytes ∷ []

  now : SentAt xid old.calls.calls call
  now = at_sent old.calls.cred old.calls.first_xid (next_xid old.calls) xid old.calls.calls call r.sound.calls.each due

  known : IsKnown setup h xid call
  known = r.rows xid call now.before

  abbrev head : CallHead
  head = head_of xid known.made.asked

  read_so : call_at call.bytes ≡ Ok (head, known.made.spells.spells.args)
  read_so = call_again head known.made.spells.spells.args call.bytes known.made.spells.spells.head

  within : xid < next_xid old.calls
  within = waits_early old.calls.cred old.calls.first_xid (next_xid old.calls) xid old.calls.calls call r.sound.calls.each now.before

  few : next_xid old.calls ≤ 4294967295
  few = let made = r.sound.calls.within in let last = r.sound.calls.last in omega (arith, made, last)

  every : counts_head Every head ≡ true
  every = rw known.made.nfs refl

  xids-now : (which : Counted) → xids_sent which k ≡ xids_sent which h ++ cond (counts_head which head) (xid ∷ []) []
  xids-now which = xids-more which h call.bytes head known.made.spells.spells.args read_so

  below-now : (which : Counted) → AreBelow (next_xid old.calls) (xids_sent which k)
  below-now which =
      let row : List ℕ = cond (counts_head which head) (xid ∷ []) [] in
      let own : AreAll (λ (x : ℕ). x < next_xid old.calls) row =
      elim (counts_head which head) as (λ b. AreAll (λ (x : ℕ). x < next_xid old.calls) (cond b (xid ∷ []) [])) [ true ↦ (within, tt) | false ↦ tt ] in
      subst (AreBelow (next_xid old.calls)) (sym (xids-now which))
      (all-below (next_xid old.calls) (xids_sent which h ++ row)
      (all-append (λ (x : ℕ). x < next_xid old.calls) (xids_sent which h) row (sent-all (λ (x : ℕ). x < next_xid old.calls) which h r.used) own))

  -- ---- for the first time

  module _ (none : IsUnsent h xid) where
    absent : (which : Counted) → is_in xid (xids_sent which h) ≡ false
    absent which = all-absent xid (xids_sent which h) (sent-all (λ (x : ℕ). x ≡ xid → ⊥) which h (λ i x bytes at has same. none i bytes at (subst (λ (n : ℕ). HasXid bytes n) same has)))

    made-more : (which : Counted) (b : Bool) → counts_head which head ≡ b → calls_made which k ≡ calls_made which h + one_where b
    made-more which b e =
        ap (λ (xs : List ℕ). length (different xs)) (xids-now which)
        ∙ subst (λ (x : Bool). length (different (xids_sent which h ++ cond x (xid ∷ []) [])) ≡ length (different (xids_sent which h)) + one_where b) (sym e) (by b)
      where
        by : (b : Bool) → length (different (xids_sent which h ++ cond b (xid ∷ []) [])) ≡ length (different (xids_sent which h)) + one_where b
        by true = one-more (xids_sent which h) xid (absent which)
        by false = ap (λ (xs : List ℕ). length (different xs)) (append-nil (xids_sent which h)) ∙ omega arith

    capped : (which : Counted) (b : Bool) (n : ℕ) → counts_head which head ≡ b → n ≡ calls_made which h → min (n + one_where b) 4294967295 ≡ calls_made which k
    capped which b n e same =
        let more = made-more which b e in
        let bound : calls_made which k ≤ next_xid old.calls = few-different (next_xid old.calls) (xids_sent which k) (below-now which) in
        let last = few in
        uncapped (n + one_where b) (omega (arith, same, more, bound, last)) ∙ ap (λ (x : ℕ). x + one_where b) same ∙ sym more

    only : (proc : ℕ) → counts_head (Only proc) head ≡ (head.proc == proc)
    only proc = rw known.made.nfs refl

    first-tallied : with_proc t head.proc ≡ tally_of k
    first-tallied = six _ _ _ _ _ _ _ _ _ _ _ _
        (capped Every true t.calls every (ap (λ (x : Tally). x.calls) is))
        (capped (Only GETATTR) (head.proc == GETATTR) t.getattr (only GETATTR) (ap (λ (x : Tally). x.getattr) is))
        (capped (Only LOOKUP) (head.proc == LOOKUP) t.lookup (only LOOKUP) (ap (λ (x : Tally). x.lookup) is))
        (capped (Only READ) (head.proc == READ) t.read (only READ) (ap (λ (x : Tally). x.read) is))
        (capped (Only WRITE) (head.proc == WRITE) t.write (only WRITE) (ap (λ (x : Tally). x.write) is))
        (capped (Only COMMIT) (head.proc == COMMIT) t.commit (only COMMIT) (ap (λ (x : Tally). x.commit) is))

  -- ---- again

  module _ (from : ℕ) (o : IsOutstanding h xid call.bytes from) where
    sent-before : (which : Counted) → counts_head which head ≡ true → is_in xid (xids_sent which h) ≡ true
    sent-before which e = sent-in which xid h from call.bytes o.sent.sent (ap (xid_counted which) read_so ∙ ap (λ (b : Bool). cond b (xid ∷ []) []) e)

    same-made : (which : Counted) → calls_made which k ≡ calls_made which h
    same-made which = ap (λ (xs : List ℕ). length (different xs)) (xids-now which) ∙ by (counts_head which head) refl
      where
        by : (b : Bool) → counts_head which head ≡ b → length (different (xids_sent which h ++ cond b (xid ∷ []) [])) ≡ length (different (xids_sent which h))
        by true e = none-more (xids_sent which h) xid (sent-before which e)
        by false e = ap (λ (xs : List ℕ). length (different xs)) (append-nil (xids_sent which h))

    again-tallied : t ≡ tally_of k
    again-tallied = is ∙ sym (tally-by h k same-made)

  pub one-tallied : with_attempt (call.attempts + 1) call.purpose.proc t ≡ tally_of k
  one-tallied = by known.tried
    where
      again : (from : ℕ) → IsOutstanding h xid call.bytes from → 1 ≤ call.attempts → with_attempt (call.attempts + 1) call.purpose.proc t ≡ tally_of k
      again from o some = counted-again call.attempts call.purpose.proc t some ∙ again-tallied from o

      by : Tried h xid call → with_attempt (call.attempts + 1) call.purpose.proc t ≡ tally_of k
      by (unsent none u) = counted-first call.attempts call.purpose.proc t none ∙ ap (with_proc t) known.made.proc ∙ first-tallied u
      by (runs from running o n) = again from o (running-tried h xid call.attempts from n)
      by (ended from idle o n) = again from o (failed-tried h xid call.attempts from (length h) n)

-- the call that was lent is the oldest that was due, with one more attempt
lent-is : (old : View) (lent : Waiting Purpose) (xid : ℕ) (call : Waiting Purpose) → Some lent ≡ call_sent old → first_due old.calls.calls ≡ Some (xid, call) → lent ≡ sent_call call
lent-is old lent xid call is due = by old.lost is
  where
    some-is : (x y : Waiting Purpose) → Some x ≡ Some y → x ≡ y
    some-is x y e = cc

    by : (b : Bool) → Some lent ≡ (if b then None else option_map (λ (e : ℕ × Waiting Purpose). sent_call e.1) (first_due old.calls.calls)) → lent ≡ sent_call call
    by true e = absurd (let no_way : Some lent ≡ None = e in cc)
    by false e = some-is lent (sent_call call) (e ∙ ap (option_map (λ (e : ℕ × Waiting Purpose). sent_call e.1)) due)

-- its numbers count the record that was sent
pub tallied-sends : (setup : Setup) (h : List Entry) (old : View) (lent : Waiting Purpose) (new : View) (t d : Tally) → Rows setup h old → SendsBy old (Some lent.bytes) new → Some lent ≡ call_sent old
    → d ≡ with_attempt lent.attempts lent.purpose.proc t → t ≡ tally_of h → d ≡ tally_of (h ++ Sent lent.bytes ∷ [])
tallied-sends setup h old lent new t d r sends is counts was =
    let n = sent_now old lent.bytes new sends in
    let same : lent ≡ sent_call n.call = lent-is old lent n.xid n.call is n.due in
    counts ∙ ap (λ (w : Waiting Purpose). with_attempt w.attempts w.purpose.proc t) same ∙ one-tallied setup h old n.xid n.call n.due r t was
    ∙ ap (λ (b : List ℕ). tally_of (h ++ Sent b ∷ [])) (sym n.bytes_is)
