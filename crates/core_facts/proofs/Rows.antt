-- Each call that waits is one that the history shows.
use Rattle.core_facts.proofs.Prelude.{◌≡◌, ◌<◌, ◌⊎◌, inl, inr, ℕ, suc, List, [], ◌∷◌, ◌++◌, length, Bool, true, false, cond, Option, Some, None, option_map, nat_eq, refl, sym, ap, subst, ◌∙◌, arith, eq-eqb, xid_at, Waiting, failed_after, Held, next_xid, awaited, made_call, waiting_at, without, at_made, others_made, others_taken, gone, Entry, Began, Answered, Dialed, Sent, Executed, Foreign, Flushed, Reboot, Delivered, Failed, Clock, Call, Op, At, HasXid, proc_of, At-grow, At-below, At-cases, At-last, Machine, Purpose, Setup, IsFresh, Makes, record_of, with_state, counted, View, turn_at, MaySetUp, IsSetUp, StepsTo, Reaches, begins, goes, loses, last_reading, IsOutstanding, Tried, unsent, runs}
use Rattle.rpc_message.specs.Call.{SpellsCallHead, call_head_bytes}
use Rattle.rpc_retry.specs.Waiting.{first_due, sent, sent_call, failed, failed_call}
use Rattle.rpc_retry.proofs.Lookups.{waits_early, SentAt, at_sent, others_sent, all_failed}
use Rattle.world_model.specs.Messages.{head_of, program_of}
use Rattle.core_facts.specs.Tries.{IsUnsent, FailedTries, one, more, IsRunning, ended, IsKnown}
use borrow.Author.Tests.{eqb-true}
use Rattle.nfs_types.specs.declared.program.TheConstants.{NFS_PROGRAM}
use Rattle.rpc_message.specs.declared.call.CallHead.{CallHead}
use Rattle.rpc_message.specs.declared.cred.Cred.{Cred}
use Rattle.rpc_message.proofs.CallLaws.{call_xid}
use Rattle.rpc_retry.specs.Put.{call_head}
use Rattle.rpc_retry.proofs.Apart.{sound_of}
use Rattle.world_model.specs.declared.message.Call.TheVariants as calls
use Rattle.world_model.specs.Lost.{FailedAttempt}
use Rattle.law_calls.specs.Calls.{Numbered}
use Rattle.client_shelf.specs.Spelling.{IsSpellable}
use Rattle.core_facts.proofs.Cases.{Heard, dropped, replied, heard, sent_now, FailedNow, goes_on, gives_up, failed_now, answered_now, taken_one}
use Rattle.core_facts.proofs.Grown.{IsQuiet, longer, one-xid, outstanding-grow, tries-grow, tries-wide, tried-grow, FitsIn, numbered-grow}
use Rattle.core_facts.proofs.Sound.{Sound, sound-stays, sound-taken, sound-step, sound-fresh, same-calls}
use Rattle.core_facts.proofs.Walks.{Stays, begins-stay, hears-for-stay}

pub record Rows (setup : Setup) (h : List Entry) (v : View) : Type 0 where
  pub sound : Sound setup v
  pub rows : (xid : ℕ) (call : Waiting Purpose) → waiting_at xid v.calls.calls ≡ Some call → IsKnown setup h xid call
  pub used : (i xid : ℕ) (bytes : List ℕ) → At h i (Sent bytes) → HasXid bytes xid → xid < next_xid v.calls
  pub numbered : Numbered h

some-is : (x y : Waiting Purpose) → Some x ≡ Some y → x ≡ y
some-is x y e = cc

-- the oldest call that is due is due
due-is : (xid : ℕ) (es : List (ℕ × Waiting Purpose)) (call : Waiting Purpose) → first_due es ≡ Some (xid, call) → call.due ≡ true
due-is xid [] call f = absurd (cc)
due-is xid (e ∷ es) call f =
    elim e.1.due as (λ b. e.1.due ≡ b → cond b (Some e) (first_due es) ≡ Some (xid, call) → call.due ≡ true) [
      | true ↦ λ d h. let which : e.1 ≡ call = cc in subst (λ (w : Waiting Purpose). w.due ≡ true) which d
      | false ↦ λ d h. due-is xid es call h
    ] refl f

-- the same calls
pub same-rows : (setup : Setup) (h : List Entry) (old new : View) → new.calls ≡ old.calls → Rows setup h old → Rows setup h new
same-rows setup h old new same r = record {
  sound = same-calls setup old new same r.sound;
  rows = λ xid call at. r.rows xid call (ap (λ (c : Held Purpose). waiting_at xid c.calls) (sym same) ∙ at);
  used = λ i xid bytes at has. subst (λ (c : Held Purpose). xid < next_xid c) (sym same) (r.used i xid bytes at has);
  numbered = r.numbered;
}

-- the record of a call that waits has its xid
pub under : (setup : Setup) (v : View) (xid : ℕ) (call : Waiting Purpose) → Sound setup v → waiting_at xid v.calls.calls ≡ Some call → HasXid call.bytes xid
under setup v xid call s at =
    let spelled = (sound_of v.calls.cred v.calls.first_xid (next_xid v.calls) xid v.calls.calls call s.calls.each at).spelled in
    call_xid (call_head xid spelled.prog spelled.proc) spelled.args call.bytes spelled.spells

-- ---- a call is made

nfs-of : (call : Call) → IsSpellable call → program_of call ≡ NFS_PROGRAM
nfs-of (calls.File call) spellable = refl
nfs-of (calls.Dir call) spellable = refl
nfs-of (calls.Mount call) spellable = absurd spellable

module _ (setup : Setup) (h : List Entry) (old : View) (number : ℕ) (call : Call) where
  made-spells : (args : List ℕ) → Sound setup old → program_of call ≡ NFS_PROGRAM → SpellsCallHead (call_head (next_xid old.calls) NFS_PROGRAM (proc_of call)) args (record_of old call args)
      → SpellsCallHead (head_of (next_xid old.calls) call) args (record_of old call args) × (record_of old call args ≡ call_head_bytes (head_of (next_xid old.calls) call) setup.cred ++ args)
  made-spells args s nfs spelled =
      let head : ℕ → CallHead = λ (p : ℕ). record { xid = next_xid old.calls; prog = p; vers = 3; proc = proc_of call } in (
        subst (λ (p : ℕ). SpellsCallHead (head p) args (record_of old call args)) (sym nfs) spelled,
        ap (λ (p : ℕ). call_head_bytes (head p) old.calls.cred ++ args) (sym nfs) ∙ ap (λ (c : Cred). call_head_bytes (head_of (next_xid old.calls) call) c ++ args) s.cred,
      )

  pub made-known : (new : View) (m : Makes old number call new) → Rows setup h old → IsKnown setup h (next_xid old.calls) (made_call (record_of old call m.args) (record { lane = number; proc = proc_of call; sent = turn_at old }))
  made-known new m r =
      let nfs = nfs-of call m.spellable in
      let b = made-spells m.args r.sound nfs m.spelled in
      record {
        tried = unsent refl (λ i bytes at has. let low = r.used i (next_xid old.calls) bytes at has in omega (arith, low));
        made = record {
          asked = call;
          spells = record { spells = record { args = m.args; head = b.0; is = m.spells }; made = b.1 };
          nfs = nfs;
          proc = refl;
        };
      }

  pub made-asked : (new : View) (m : Makes old number call new) (r : Rows setup h old) → (made-known new m r).made.asked ≡ call
  unfolding made-known
  made-asked new m r = refl

made : (setup : Setup) (h : List Entry) (old new : View) (number : ℕ) (call : Call) → Makes old number call new → Rows setup h old → Rows setup h new
made setup h old new number call m r = subst (Rows setup h) (sym m.is) (record {
  sound = subst (Sound setup) m.is ((sound-stays setup).makes old new number call m r.sound);
  rows = rows;
  used = λ i xid bytes at has. let low = r.used i xid bytes at has in omega (arith, low);
  numbered = r.numbered;
})
  where
    rows : (xid : ℕ) (c : Waiting Purpose)
        → waiting_at xid (old.calls.calls ++ (next_xid old.calls, made_call (record_of old call m.args) (record { lane = number; proc = proc_of call; sent = turn_at old })) ∷ []) ≡ Some c → IsKnown setup h xid c
    rows xid c at =
        let w : Waiting Purpose = made_call (record_of old call m.args) (record { lane = number; proc = proc_of call; sent = turn_at old }) in
        let next : ℕ = next_xid old.calls in
        (elim (nat_eq xid next) as (λ b. nat_eq xid next ≡ b → IsKnown setup h xid c) [
          | true ↦ λ d.
              let same : xid ≡ next = eqb-true xid next d in
              let which : w ≡ c = some-is w c (sym (at_made old.calls.cred old.calls.first_xid next xid next old.calls.calls w r.sound.calls.each same refl) ∙ at) in
              subst (λ (n : ℕ). IsKnown setup h n c) (sym same) (subst (λ (x : Waiting Purpose). IsKnown setup h next x) which (made-known setup h old number call new m r))
          | false ↦ λ d. r.rows xid c (sym (others_made xid next old.calls.calls w d) ∙ at)
        ]) refl

pub rows-stay : (setup : Setup) (h : List Entry) → Stays (Rows setup h)
rows-stay setup h = record {
  makes = made setup h;
  sets = λ old at number was state shelf there r. same-rows setup h old (with_state old at number state shelf) refl r;
}

-- ---- one entry more

-- an entry that is no record under an xid that waits, and none that was sent
pub rows-grow : (setup : Setup) (h : List Entry) (e : Entry) (v : View) → ((xid : ℕ) (call : Waiting Purpose) → waiting_at xid v.calls.calls ≡ Some call → IsQuiet xid e)
    → ((bytes : List ℕ) → e ≡ Sent bytes → ⊥) → Rows setup h v → Rows setup (h ++ e ∷ []) v
rows-grow setup h e v quiet silent r = record {
  sound = r.sound;
  rows = λ xid call at. let k = r.rows xid call at in record { tried = tried-grow h e xid call (quiet xid call at) k.tried; made = k.made };
  used = λ i xid bytes at has. elim (At-cases h e i (Sent bytes) at) [ inl p ↦ r.used i xid bytes p has | inr q ↦ absurd (silent bytes q.1) ];
  numbered = numbered-grow h e (λ bytes is. absurd (silent bytes is)) r.numbered;
}

-- an entry that isn't of a record
pub record IsSilent (e : Entry) : Type 0 where
  pub sent : (bytes : List ℕ) → e ≡ Sent bytes → ⊥
  pub came : (bytes : List ℕ) → e ≡ Delivered bytes → ⊥

pub silent-grow : (setup : Setup) (h : List Entry) (e : Entry) (v : View) → IsSilent e → Rows setup h v → Rows setup (h ++ e ∷ []) v
silent-grow setup h e v s r = rows-grow setup h e v (λ xid call at. record { sent = λ bytes is has. s.sent bytes is; came = λ bytes is has. s.came bytes is }) s.sent r

-- ---- a record is sent

module _ (setup : Setup) (h : List Entry) (old : View) (xid : ℕ) (call : Waiting Purpose) (due : first_due old.calls.calls ≡ Some (xid, call)) (r : Rows setup h old) where
  at-sent : SentAt xid old.calls.calls call
  at-sent = at_sent old.calls.cred old.calls.first_xid (next_xid old.calls) xid old.calls.calls call r.sound.calls.each due

  its-xid : HasXid call.bytes xid
  its-xid = under setup old xid call r.sound (at-sent).before

  -- no attempt of it runs
  its-idle : call.running ≡ false
  its-idle = (sound_of old.calls.cred old.calls.first_xid (next_xid old.calls) xid old.calls.calls call r.sound.calls.each (at-sent).before).idle (due-is xid old.calls.calls call due)

  sent-fits : FitsIn h call.bytes
  sent-fits = by (r.rows xid call (at-sent).before).tried
    where
      out : (from : ℕ) → IsOutstanding h xid call.bytes from → FitsIn h call.bytes
      out from o = record {
        same = λ i x other at has its. o.equal i other at (subst (λ (n : ℕ). HasXid other n) (one-xid x xid call.bytes its its-xid) has);
        fresh = λ g x reply a its.
            let same : x ≡ xid = one-xid x xid call.bytes its its-xid in
            let first = o.sent.first a.waits.at a.waits.bytes a.waits.sent (subst (λ (n : ℕ). HasXid a.waits.bytes n) same a.waits.under) in
            let before = a.waits.before in
            o.unheard g reply a.got (subst (λ (n : ℕ). HasXid reply n) same a.under) (omega (arith, first, before));
      }

      by : Tried h xid call → FitsIn h call.bytes
      by (unsent none u) = record {
        same = λ i x other at has its. absurd (u i other at (subst (λ (n : ℕ). HasXid other n) (one-xid x xid call.bytes its its-xid) has));
        fresh = λ g x reply a its. u a.waits.at a.waits.bytes a.waits.sent (subst (λ (n : ℕ). HasXid a.waits.bytes n) (one-xid x xid call.bytes its its-xid) a.waits.under);
      }
      by (runs from running o t) = out from o
      by (ended from idle o t) = out from o

  -- the history with that record
  abbrev pub later : List Entry
  later = h ++ Sent call.bytes ∷ []

  now-outstanding : IsUnsent h xid → IsOutstanding later xid call.bytes (length h)
  now-outstanding u = record {
    sent = record {
      sent = At-last h (Sent call.bytes);
      under = its-xid;
      first = λ j b at has. elim (At-cases h (Sent call.bytes) j (Sent b) at) [ inl p ↦ absurd (u j b p has) | inr q ↦ let is = q.0 in omega (arith, is) ];
    };
    equal = λ i other at has. elim (At-cases h (Sent call.bytes) i (Sent other) at) [ inl p ↦ absurd (u i other p has) | inr q ↦ sent-is call.bytes other q.1 ];
    unheard = λ j reply at has after. elim (At-cases h (Sent call.bytes) j (Delivered reply) at) [
      | inl p ↦ let below = At-below h j (Delivered reply) p in absurd (omega (arith, below, after))
      | inr q ↦ no-reply call.bytes reply q.1
    ];
  }
    where
      sent-is : (a b : List ℕ) → Sent a ≡ Sent b → b ≡ a
      sent-is a b is = cc

      no-reply : (a b : List ℕ) → Sent a ≡ Delivered b → ⊥
      no-reply a b is = cc

  again-outstanding : (from : ℕ) → IsOutstanding h xid call.bytes from → IsOutstanding later xid call.bytes from
  again-outstanding from o = record {
    sent = record {
      sent = At-grow h (Sent call.bytes ∷ []) from (Sent call.bytes) o.sent.sent;
      under = o.sent.under;
      first = λ j b at has. elim (At-cases h (Sent call.bytes) j (Sent b) at) [
        | inl p ↦ o.sent.first j b p has
        | inr q ↦ let below = At-below h from (Sent call.bytes) o.sent.sent in let is = q.0 in omega (arith, below, is)
      ];
    };
    equal = λ i other at has. elim (At-cases h (Sent call.bytes) i (Sent other) at) [ inl p ↦ o.equal i other p has | inr q ↦ sent-is call.bytes other q.1 ];
    unheard = λ j reply at has after. elim (At-cases h (Sent call.bytes) j (Delivered reply) at) [
      | inl p ↦ o.unheard j reply p has after
      | inr q ↦ no-reply call.bytes reply q.1
    ];
  }
    where
      sent-is : (a b : List ℕ) → Sent a ≡ Sent b → b ≡ a
      sent-is a b is = cc

      no-reply : (a b : List ℕ) → Sent a ≡ Delivered b → ⊥
      no-reply a b is = cc

  sent-tried : Tried later xid (sent_call call)
  sent-tried = by (r.rows xid call (at-sent).before).tried
    where
      by : Tried h xid call → Tried later xid (sent_call call)
      by (unsent none u) = runs (length h) refl (now-outstanding u) (record {
        at = length h;
        bytes = call.bytes;
        sent = At-last h (Sent call.bytes);
        under = its-xid;
        failed = inl (omega (arith, none), refl);
      })
      by (runs from running o t) = absurd (let idle = its-idle in cc)
      by (ended from idle o t) = runs from refl (again-outstanding from o) (record {
        at = length h;
        bytes = call.bytes;
        sent = At-last h (Sent call.bytes);
        under = its-xid;
        failed = inr (call.attempts, omega arith, tries-grow h (Sent call.bytes) xid call.attempts from (length h) t);
      })

  sent-known : IsKnown setup later xid (sent_call call)
  sent-known =
      let m = (r.rows xid call (at-sent).before).made in
      record { tried = sent-tried; made = record { asked = m.asked; spells = m.spells; nfs = m.nfs; proc = m.proc } }

  sent-rows : (x : ℕ) (c : Waiting Purpose) → waiting_at x (sent old.calls.calls) ≡ Some c → IsKnown setup later x c
  sent-rows x c at = (elim (nat_eq x xid) as (λ b. nat_eq x xid ≡ b → IsKnown setup later x c) [
    | true ↦ λ d.
        let same : x ≡ xid = eqb-true x xid d in
        let which : sent_call call ≡ c = some-is (sent_call call) c (sym (at-sent).after ∙ ap (λ (n : ℕ). waiting_at n (sent old.calls.calls)) (sym same) ∙ at) in
        subst (λ (n : ℕ). IsKnown setup later n c) (sym same) (subst (λ (w : Waiting Purpose). IsKnown setup later xid w) which sent-known)
    | false ↦ λ d.
        let k = r.rows x c (sym (others_sent x xid old.calls.calls call due d) ∙ at) in
        record { tried = tried-grow h (Sent call.bytes) x c (other-quiet x d) k.tried; made = k.made }
  ]) refl
    where
      no-reply : (a b : List ℕ) → Sent a ≡ Delivered b → ⊥
      no-reply a b is = cc

      sent-is : (a b : List ℕ) → Sent a ≡ Sent b → b ≡ a
      sent-is a b is = cc

      other-quiet : (x : ℕ) → nat_eq x xid ≡ false → IsQuiet x (Sent call.bytes)
      other-quiet x d = record {
        sent = λ bytes is has.
            let same : x ≡ xid = one-xid x xid call.bytes (subst (λ (b : List ℕ). HasXid b x) (sent-is call.bytes bytes is) has) its-xid in
            let found : nat_eq x xid ≡ true = eq-eqb x xid same in
            absurd (cc);
        came = λ bytes is has. no-reply call.bytes bytes is;
      }

  pub sent-step : Sound setup (record old { calls = record old.calls { calls = sent old.calls.calls } }) → Rows setup later (record old { calls = record old.calls { calls = sent old.calls.calls } })
  sent-step sound = record {
    sound = sound;
    rows = sent-rows;
    used = λ i x bytes at has. elim (At-cases h (Sent call.bytes) i (Sent bytes) at) [
      | inl p ↦ r.used i x bytes p has
      | inr q ↦
          let same : x ≡ xid = one-xid x xid call.bytes (subst (λ (b : List ℕ). HasXid b x) (sent-is call.bytes bytes q.1) has) its-xid in
          subst (λ (n : ℕ). n < next_xid old.calls) (sym same) (waits_early old.calls.cred old.calls.first_xid (next_xid old.calls) xid old.calls.calls call r.sound.calls.each (at-sent).before)
    ];
    numbered = numbered-grow h (Sent call.bytes) (λ bytes is. subst (FitsIn h) (sym (sent-is call.bytes bytes is)) sent-fits) r.numbered;
  }
    where
      sent-is : (a b : List ℕ) → Sent a ≡ Sent b → b ≡ a
      sent-is a b is = cc

-- ---- a record comes

pub taken-rows : (setup : Setup) (h : List Entry) (old : View) (xid : ℕ) → Rows setup h old → Rows setup h (taken_one old xid)
taken-rows setup h old xid r = record {
  sound = sound-taken setup old xid r.sound;
  rows = λ x c at. (elim (nat_eq x xid) as (λ b. nat_eq x xid ≡ b → IsKnown setup h x c) [
    | true ↦ λ d. absurd (still-waits x c (eqb-true x xid d) at)
    | false ↦ λ d. r.rows x c (sym (others_taken x xid old.calls.calls d) ∙ at)
  ]) refl;
  used = r.used;
  numbered = r.numbered;
}
  where
    still-waits : (x : ℕ) (c : Waiting Purpose) → x ≡ xid → waiting_at x (without xid old.calls.calls) ≡ Some c → ⊥
    still-waits x c same at =
        let none : waiting_at xid (without xid old.calls.calls) ≡ None = gone old.calls.cred old.calls.first_xid (next_xid old.calls) xid old.calls.calls r.sound.calls.each in
        let there : waiting_at xid (without xid old.calls.calls) ≡ Some c = ap (λ (n : ℕ). waiting_at n (without xid old.calls.calls)) (sym same) ∙ at in
        let no_way : None ≡ Some c = sym none ∙ there in
        cc

came-is : (a b : List ℕ) → Delivered a ≡ Delivered b → b ≡ a
came-is a b is = cc

pub not-sent : (a b : List ℕ) → Delivered a ≡ Sent b → ⊥
not-sent a b is = cc

dropped-quiet : (v : View) (rec : List ℕ) → awaited (xid_at rec) v.calls.calls ≡ None → (xid : ℕ) (call : Waiting Purpose) → waiting_at xid v.calls.calls ≡ Some call → IsQuiet xid (Delivered rec)
dropped-quiet v rec none xid call at = record {
  sent = λ bytes is has. not-sent rec bytes is;
  came = λ bytes is has.
      let its : xid_at rec ≡ Some xid = subst (λ (b : List ℕ). HasXid b xid) (came-is rec bytes is) has in
      let no_way : None ≡ Some call = sym none ∙ ap (λ (o : Option ℕ). awaited o v.calls.calls) its ∙ at in
      cc;
}

-- once the call that it answers waits no more, a record is under no xid that waits
pub taken-quiet : (setup : Setup) (h : List Entry) (old : View) (rec : List ℕ) (taken : ℕ) → Rows setup h old → xid_at rec ≡ Some taken
    → (xid : ℕ) (call : Waiting Purpose) → waiting_at xid (without taken old.calls.calls) ≡ Some call → IsQuiet xid (Delivered rec)
taken-quiet setup h old rec taken r named xid call at = record {
  sent = λ bytes is has. not-sent rec bytes is;
  came = λ bytes is has.
      let same : xid ≡ taken = one-xid xid taken rec (subst (λ (b : List ℕ). HasXid b xid) (came-is rec bytes is) has) named in
      let none : waiting_at taken (without taken old.calls.calls) ≡ None = gone old.calls.cred old.calls.first_xid (next_xid old.calls) taken old.calls.calls r.sound.calls.each in
      let there : waiting_at taken (without taken old.calls.calls) ≡ Some call = ap (λ (n : ℕ). waiting_at n (without taken old.calls.calls)) (sym same) ∙ at in
      let no_way : None ≡ Some call = sym none ∙ there in
      cc;
}

heard-rows : (setup : Setup) (h : List Entry) (old : View) (rec : List ℕ) (new : View) → Heard old rec new → Rows setup h old → Rows setup (h ++ Delivered rec ∷ []) new
heard-rows setup h old rec new (dropped none is) r =
    subst (Rows setup (h ++ Delivered rec ∷ [])) (sym is) (rows-grow setup h (Delivered rec) old (dropped-quiet old rec none) (not-sent rec) r)
heard-rows setup h old rec new (replied xid call named waits t) r =
    hears-for-stay (Rows setup (h ++ Delivered rec ∷ [])) (rows-stay setup (h ++ Delivered rec ∷ [])) (taken_one old xid) new rec call.purpose t
    (rows-grow setup h (Delivered rec) (taken_one old xid) (taken-quiet setup h old rec xid r named) (not-sent rec) (taken-rows setup h old xid r))

-- ---- the attempts that run have failed

failed-silent : IsSilent Failed
failed-silent = record { sent = λ bytes is. cc; came = λ bytes is. cc }

-- the failure of the attempt that runs
attempt-failed : (h : List Entry) (xid n from : ℕ) → IsRunning h xid n from → FailedTries (h ++ Failed ∷ []) xid n from (length (h ++ Failed ∷ []))
attempt-failed h xid n from r = by r.failed
  where
    attempt : FailedAttempt (h ++ Failed ∷ []) xid r.at (length (h ++ Failed ∷ []))
    attempt = record {
      bytes = r.bytes;
      failed = length h;
      sent = At-grow h (Failed ∷ []) r.at (Sent r.bytes) r.sent;
      under = r.under;
      is = At-last h Failed;
      after = At-below h r.at (Sent r.bytes) r.sent;
      before = longer h Failed;
    }

    by : ((n ≡ 1) × (r.at ≡ from)) ⊎ ((m : ℕ) × (n ≡ suc m) × FailedTries h xid m from r.at) → FailedTries (h ++ Failed ∷ []) xid n from (length (h ++ Failed ∷ []))
    by (inl first) = one n from (length (h ++ Failed ∷ [])) first.0 (subst (λ (at : ℕ). FailedAttempt (h ++ Failed ∷ []) xid at (length (h ++ Failed ∷ []))) first.1 attempt)
    by (inr t) = more n from (length (h ++ Failed ∷ [])) t.0 r.at t.1 (tries-grow h Failed xid t.0 from r.at t.2) attempt

failed-quiet : (xid : ℕ) → IsQuiet xid Failed
failed-quiet xid = record { sent = λ bytes is has. failed-silent.sent bytes is; came = λ bytes is has. failed-silent.came bytes is }

failed-tried : (h : List Entry) (xid : ℕ) (bytes : List ℕ) (call after : Waiting Purpose) → after.bytes ≡ call.bytes → after.attempts ≡ call.attempts → after.running ≡ false → Tried h xid call → Tried (h ++ Failed ∷ []) xid after
failed-tried h xid bytes call after b a idle (unsent none u) = unsent (a ∙ none) (λ i x at has. elim (At-cases h Failed i (Sent x) at) [ inl p ↦ u i x p has | inr q ↦ failed-silent.sent x q.1 ])
failed-tried h xid bytes call after b a idle (runs from running o t) =
    ended from idle (subst (λ (x : List ℕ). IsOutstanding (h ++ Failed ∷ []) xid x from) (sym b) (outstanding-grow h Failed xid call.bytes from (failed-quiet xid) o))
    (subst (λ (n : ℕ). FailedTries (h ++ Failed ∷ []) xid n from (length (h ++ Failed ∷ []))) (sym a) (attempt-failed h xid call.attempts from t))
failed-tried h xid bytes call after b a idle (ended from was o t) =
    ended from idle (subst (λ (x : List ℕ). IsOutstanding (h ++ Failed ∷ []) xid x from) (sym b) (outstanding-grow h Failed xid call.bytes from (failed-quiet xid) o))
    (subst (λ (n : ℕ). FailedTries (h ++ Failed ∷ []) xid n from (length (h ++ Failed ∷ []))) (sym a)
    (tries-wide (h ++ Failed ∷ []) xid call.attempts from (length h) (length (h ++ Failed ∷ [])) (let l = longer h Failed in omega (arith, l)) (tries-grow h Failed xid call.attempts from (length h) t)))

failed-known : (setup : Setup) (h : List Entry) (xid : ℕ) (again : Bool) (call : Waiting Purpose) → IsKnown setup h xid call → IsKnown setup (h ++ Failed ∷ []) xid (failed_call again call)
failed-known setup h xid true call k = record {
  tried = failed-tried h xid call.bytes call (failed_call true call) refl refl refl k.tried;
  made = record { asked = k.made.asked; spells = k.made.spells; nfs = k.made.nfs; proc = k.made.proc };
}
failed-known setup h xid false call k = record {
  tried = failed-tried h xid call.bytes call (failed_call false call) refl refl refl k.tried;
  made = record { asked = k.made.asked; spells = k.made.spells; nfs = k.made.nfs; proc = k.made.proc };
}

failed-with : (setup : Setup) (h : List Entry) (old new : View) (again : Bool) → Sound setup new → new.calls ≡ record old.calls { calls = failed again old.calls.calls } → Rows setup h old → Rows setup (h ++ Failed ∷ []) new
failed-with setup h old new again sound is r = record {
  sound = sound;
  rows = λ xid c at. by xid c (waiting_at xid old.calls.calls) refl (sym (all_failed again xid old.calls.calls) ∙ ap (λ (k : Held Purpose). waiting_at xid k.calls) (sym is) ∙ at);
  used = λ i xid bytes at has. subst (λ (k : Held Purpose). xid < next_xid k) (sym is) (elim (At-cases h Failed i (Sent bytes) at) [ inl p ↦ r.used i xid bytes p has | inr q ↦ absurd (failed-silent.sent bytes q.1) ]);
  numbered = numbered-grow h Failed (λ bytes e. absurd (failed-silent.sent bytes e)) r.numbered;
}
  where
    by : (xid : ℕ) (c : Waiting Purpose) (o : Option (Waiting Purpose)) → waiting_at xid old.calls.calls ≡ o → option_map (failed_call again) o ≡ Some c → IsKnown setup (h ++ Failed ∷ []) xid c
    by xid c None was e = absurd (cc)
    by xid c (Some w) was e = subst (λ (x : Waiting Purpose). IsKnown setup (h ++ Failed ∷ []) xid x) (some-is (failed_call again w) c e) (failed-known setup h xid again w (r.rows xid w was))

failed-rows : (setup : Setup) (h : List Entry) (old new : View) → Sound setup new → FailedNow old new → Rows setup h old → Rows setup (h ++ Failed ∷ []) new
failed-rows setup h old new sound (goes_on none is) r =
    failed-with setup h old new true sound (ap (λ (v : View). v.calls) is ∙ ap (λ (o : Option ℕ). record old.calls { calls = failed_after o old.calls.calls }) none) r
failed-rows setup h old new sound (gives_up xid up is) r =
    failed-with setup h old new false sound (ap (λ (v : View). v.calls) is ∙ ap (λ (o : Option ℕ). record old.calls { calls = failed_after o old.calls.calls }) up) r

-- ---- all entries

stays-silent : (setup : Setup) (h : List Entry) (e : Entry) (old new : View) → IsSilent e → new ≡ old → Rows setup h old → Rows setup (h ++ e ∷ []) new
stays-silent setup h e old new s is r = subst (Rows setup (h ++ e ∷ [])) (sym is) (silent-grow setup h e old s r)

pub rows-step : (machine_of : ℕ → Op → Machine) (setup : Setup) (h : List Entry) (old : View) (e : Entry) (new : View) → StepsTo machine_of h old e new → Rows setup h old → Rows setup (h ++ e ∷ []) new
rows-step machine_of setup h old (Began lane line op) new t r =
    let e = Began lane line op in
    let g = silent-grow setup h e old (record { sent = λ bytes is. cc; came = λ bytes is. cc }) r in
    begins-stay (Rows setup (h ++ e ∷ [])) (rows-stay setup (h ++ e ∷ [])) old new lane (machine_of lane op) (last_reading 0 h)
    (λ state shelf. same-rows setup (h ++ e ∷ []) old (record (counted old (last_reading 0 h)) { lanes = old.lanes ++ record { number = lane; state = state } ∷ []; shelf = shelf }) refl g) t.step
rows-step machine_of setup h old (Answered lane line answer) new t r =
    let e = Answered lane line answer in
    let a = answered_now old lane answer new t.answers in
    same-rows setup (h ++ e ∷ []) old new (ap (λ (v : View). v.calls) a.is.is) (silent-grow setup h e old (record { sent = λ bytes is. cc; came = λ bytes is. cc }) r)
rows-step machine_of setup h old (Sent bytes) new t r =
    let n = sent_now old bytes new t in
    let sound = subst (Sound setup) n.is (sound-step machine_of setup h old (Sent bytes) new t r.sound) in
    let now = sent-step setup h old n.xid n.call n.due r sound in
    subst (λ (b : List ℕ). Rows setup (h ++ Sent b ∷ []) new) (sym n.bytes_is) (subst (λ (v : View). Rows setup (h ++ Sent n.call.bytes ∷ []) v) (sym n.is) now)
rows-step machine_of setup h old (Delivered bytes) new t r = heard-rows setup h old bytes new (heard old bytes t.result new t.hears) r
rows-step machine_of setup h old Failed new (inl t) r = failed-rows setup h old new (sound-step machine_of setup h old Failed new (inl t) r.sound) (failed_now old t.0 new t.1) r
rows-step machine_of setup h old Failed new (inr t) r = stays-silent setup h Failed old new failed-silent t r
rows-step machine_of setup h old (Dialed port) new t r = stays-silent setup h (Dialed port) old new (record { sent = λ bytes is. cc; came = λ bytes is. cc }) t r
rows-step machine_of setup h old (Executed xid call reply) new t r = stays-silent setup h (Executed xid call reply) old new (record { sent = λ bytes is. cc; came = λ bytes is. cc }) t r
rows-step machine_of setup h old (Foreign call reply) new t r = stays-silent setup h (Foreign call reply) old new (record { sent = λ bytes is. cc; came = λ bytes is. cc }) t r
rows-step machine_of setup h old (Flushed file from len) new t r = stays-silent setup h (Flushed file from len) old new (record { sent = λ bytes is. cc; came = λ bytes is. cc }) t r
rows-step machine_of setup h old (Reboot verf) new t r = stays-silent setup h (Reboot verf) old new (record { sent = λ bytes is. cc; came = λ bytes is. cc }) t r
rows-step machine_of setup h old (Clock ms) new t r = stays-silent setup h (Clock ms) old new (record { sent = λ bytes is. cc; came = λ bytes is. cc }) t r

rows-fresh : (setup : Setup) (h : List Entry) (v : View) → MaySetUp setup → IsSetUp setup h → IsFresh setup v → Rows setup h v
rows-fresh setup h v may up f = record {
  sound = sound-fresh setup v may f;
  rows = λ xid call at. absurd (let none : waiting_at xid v.calls.calls ≡ None = ap (λ (c : Held Purpose). waiting_at xid c.calls) f.calls in let no_way : None ≡ Some call = sym none ∙ at in cc);
  used = λ i xid bytes at has. let below = up.below i xid bytes at has in subst (λ (c : Held Purpose). xid < next_xid c) (sym f.calls) (omega (arith, below));
  numbered = up.numbered;
}

pub reached-rows : (machine_of : ℕ → Op → Machine) (setup : Setup) (h : List Entry) (v : View) → Reaches machine_of setup h v → Rows setup h v
reached-rows machine_of setup _ _ (begins h v may up fresh) = rows-fresh setup h v may up fresh
reached-rows machine_of setup _ _ (goes h before v b e r is t) = subst (λ (k : List Entry). Rows setup k v) (sym is) (rows-step machine_of setup before b e v t (reached-rows machine_of setup before b r))
reached-rows machine_of setup _ _ (loses h v b r shown is) = same-rows setup h b v (ap (λ (w : View). w.calls) is) (reached-rows machine_of setup h b r)
