-- The calls that wait are sound after each call of the core.
use Rattle.core_facts.proofs.Prelude.{◌≡◌, ℕ, List, [], ◌∷◌, ◌++◌, inl, inr, Option, refl, sym, ap, ◌∙◌, subst, arith, Held, next_xid, failed_after, made_call, without, Entry, Began, Answered, Dialed, Sent, Executed, Foreign, Flushed, Reboot, Delivered, Failed, Clock, Call, Op, proc_of, Machine, Purpose, Setup, IsFresh, Makes, record_of, failed_view, View, turn_at, MaySetUp, StepsTo, Reaches, begins, goes, loses, last_reading}
use Rattle.rpc_retry.specs.Waiting.{sent}
use Rattle.nfs_types.specs.declared.program.TheConstants.{NFS_PROGRAM}
use Rattle.rpc_retry.specs.Sound.{IsSound}
use Rattle.rpc_retry.proofs.Dues.{sound_next}
use Rattle.rpc_retry.proofs.Failing.{sound_given, sound_resent}
use Rattle.rpc_retry.proofs.Order.{sound_put}
use Rattle.rpc_retry.proofs.Taking.{sound_taken}
use Rattle.core_facts.proofs.Cases.{Heard, dropped, replied, heard, sent_now, FailedNow, goes_on, gives_up, failed_now, answered_now, taken_one}
use Rattle.core_facts.proofs.Walks.{Stays, begins-stay, hears-for-stay}

pub record Sound (setup : Setup) (v : View) : Type 0 where
  pub calls : IsSound v.calls
  pub first : v.calls.first_xid ≡ setup.first_xid
  pub cred : v.calls.cred ≡ setup.cred

-- only the calls count
pub same-calls : (setup : Setup) (old new : View) → new.calls ≡ old.calls → Sound setup old → Sound setup new
same-calls setup old new same s = record {
  calls = subst (λ (c : Held Purpose). IsSound c) (sym same) s.calls;
  first = ap (λ (c : Held Purpose). c.first_xid) same ∙ s.first;
  cred = ap (λ (c : Held Purpose). c.cred) same ∙ s.cred;
}

made : (setup : Setup) (old new : View) (number : ℕ) (call : Call) → Makes old number call new → Sound setup old → Sound setup new
made setup old new number call m s =
    let purpose : Purpose = record { lane = number; proc = proc_of call; sent = turn_at old } in
    subst (Sound setup) (sym m.is) (record {
      calls = sound_put old.calls (old.calls.calls ++ (next_xid old.calls, made_call (record_of old call m.args) purpose) ∷ []) (record_of old call m.args) purpose
          (record { prog = NFS_PROGRAM; proc = proc_of call; args = m.args; is = refl; spells = m.spelled }) s.calls m.may refl;
      first = s.first;
      cred = s.cred;
    })

pub sound-stays : (setup : Setup) → Stays (Sound setup)
sound-stays setup = record {
  makes = made setup;
  sets = λ old at number was state shelf there s. record { calls = s.calls; first = s.first; cred = s.cred };
}

pub sound-taken : (setup : Setup) (old : View) (xid : ℕ) → Sound setup old → Sound setup (taken_one old xid)
sound-taken setup old xid s = record { calls = sound_taken old.calls xid (without xid old.calls.calls) s.calls refl; first = s.first; cred = s.cred }

heard-sound : (setup : Setup) (old : View) (rec : List ℕ) (new : View) → Heard old rec new → Sound setup old → Sound setup new
heard-sound setup old rec new (dropped none is) s = subst (Sound setup) (sym is) s
heard-sound setup old rec new (replied xid call named waits t) s = hears-for-stay (Sound setup) (sound-stays setup) (taken_one old xid) new rec call.purpose t (sound-taken setup old xid s)

pub sound-failed : (setup : Setup) (old new : View) → FailedNow old new → Sound setup old → Sound setup new
sound-failed setup old new (goes_on none is) s = subst (Sound setup) (sym is) (record {
  calls = sound_resent old.calls (failed_view old).calls.calls s.calls none (ap (λ (o : Option ℕ). failed_after o old.calls.calls) none);
  first = s.first;
  cred = s.cred;
})
sound-failed setup old new (gives_up xid up is) s = subst (Sound setup) (sym is) (record {
  calls = sound_given old.calls (failed_view old).calls.calls s.calls (ap (λ (o : Option ℕ). failed_after o old.calls.calls) up);
  first = s.first;
  cred = s.cred;
})

pub sound-step : (machine_of : ℕ → Op → Machine) (setup : Setup) (h : List Entry) (old : View) (e : Entry) (new : View) → StepsTo machine_of h old e new → Sound setup old → Sound setup new
sound-step machine_of setup h old (Began lane line op) new t s =
    begins-stay (Sound setup) (sound-stays setup) old new lane (machine_of lane op) (last_reading 0 h) (λ state shelf. record { calls = s.calls; first = s.first; cred = s.cred }) t.step
sound-step machine_of setup h old (Answered lane line answer) new t s =
    let a = answered_now old lane answer new t.answers in subst (Sound setup) (sym a.is.is) (record { calls = s.calls; first = s.first; cred = s.cred })
sound-step machine_of setup h old (Sent bytes) new t s =
    let n = sent_now old bytes new t in
    subst (Sound setup) (sym n.is) (record { calls = sound_next old.calls (sent old.calls.calls) s.calls refl; first = s.first; cred = s.cred })
sound-step machine_of setup h old (Delivered bytes) new t s = heard-sound setup old bytes new (heard old bytes t.result new t.hears) s
sound-step machine_of setup h old Failed new (inl t) s = sound-failed setup old new (failed_now old t.0 new t.1) s
sound-step machine_of setup h old Failed new (inr t) s = subst (Sound setup) (sym t) s
sound-step machine_of setup h old (Dialed port) new t s = subst (Sound setup) (sym t) s
sound-step machine_of setup h old (Executed xid call reply) new t s = subst (Sound setup) (sym t) s
sound-step machine_of setup h old (Foreign call reply) new t s = subst (Sound setup) (sym t) s
sound-step machine_of setup h old (Flushed file from len) new t s = subst (Sound setup) (sym t) s
sound-step machine_of setup h old (Reboot verf) new t s = subst (Sound setup) (sym t) s
sound-step machine_of setup h old (Clock ms) new t s = subst (Sound setup) (sym t) s

pub sound-fresh : (setup : Setup) (v : View) → MaySetUp setup → IsFresh setup v → Sound setup v
sound-fresh setup v may f = record {
  calls = subst (λ (c : Held Purpose). IsSound c) (sym f.calls) (record { first = may.first; last = may.last; within = omega arith; few = omega arith; each = omega arith });
  first = ap (λ (c : Held Purpose). c.first_xid) f.calls;
  cred = ap (λ (c : Held Purpose). c.cred) f.calls;
}

pub reached-sound : (machine_of : ℕ → Op → Machine) (setup : Setup) (h : List Entry) (v : View) → Reaches machine_of setup h v → Sound setup v
reached-sound machine_of setup _ _ (begins h v may up fresh) = sound-fresh setup v may fresh
reached-sound machine_of setup _ _ (goes h before v b e r is t) = sound-step machine_of setup before b e v t (reached-sound machine_of setup before b r)
reached-sound machine_of setup _ _ (loses h v b r shown is) = same-calls setup b v (ap (λ (w : View). w.calls) is) (reached-sound machine_of setup h b r)
