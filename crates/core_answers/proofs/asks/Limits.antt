-- How many calls a core may make stays as it was set up.
use Rattle.core_answers.proofs.Prelude.{◌≡◌, ℕ, List, inl, inr, sym, ap, ◌∙◌, subst, Entry, Began, Answered, Dialed, Executed, Foreign, Flushed, Reboot, Delivered, Failed, Clock, Op, Machine, Purpose, Setup, View, StepsTo, Reaches, begins, goes, loses, last_reading, Heard, dropped, replied, sent_now, FailedNow, goes_on, gives_up, failed_now, answered_now, taken_one, Stays, begins-stay, hears-for-stay}
use Rattle.world_model.specs.declared.entry.Entry.TheVariants.{Sent}
use Rattle.core_facts.proofs.Cases.{heard}
use Rattle.rpc_retry.specs.Held.{Held}

abbrev pub HasLimit : Setup → View → Type 0
HasLimit setup v = v.calls.limit ≡ setup.limit

limit-stays : (setup : Setup) → Stays (HasLimit setup)
limit-stays setup = record {
  makes = λ old new number call m s. subst (HasLimit setup) (sym m.is) s;
  sets = λ old at number was state shelf there s. s;
}

heard-limit : (setup : Setup) (old : View) (rec : List ℕ) (new : View) → Heard old rec new → HasLimit setup old → HasLimit setup new
heard-limit setup old rec new (dropped none is) s = subst (HasLimit setup) (sym is) s
heard-limit setup old rec new (replied xid call named waits t) s = hears-for-stay (HasLimit setup) (limit-stays setup) (taken_one old xid) new rec call.purpose t s

failed-limit : (setup : Setup) (old new : View) → FailedNow old new → HasLimit setup old → HasLimit setup new
failed-limit setup old new (goes_on none is) s = subst (HasLimit setup) (sym is) s
failed-limit setup old new (gives_up xid up is) s = subst (HasLimit setup) (sym is) s

limit-step : (machine_of : ℕ → Op → Machine) (setup : Setup) (h : List Entry) (old : View) (e : Entry) (new : View) → StepsTo machine_of h old e new → HasLimit setup old → HasLimit setup new
limit-step machine_of setup h old (Began lane line op) new t s = begins-stay (HasLimit setup) (limit-stays setup) old new lane (machine_of lane op) (last_reading 0 h) (λ state shelf. s) t.step
limit-step machine_of setup h old (Answered lane line answer) new t s = let a = answered_now old lane answer new t.answers in subst (HasLimit setup) (sym a.is.is) s
limit-step machine_of setup h old (Sent bytes) new t s = let n = sent_now old bytes new t in subst (HasLimit setup) (sym n.is) s
limit-step machine_of setup h old (Delivered bytes) new t s = heard-limit setup old bytes new (heard old bytes t.result new t.hears) s
limit-step machine_of setup h old Failed new (inl t) s = failed-limit setup old new (failed_now old t.0 new t.1) s
limit-step machine_of setup h old Failed new (inr t) s = subst (HasLimit setup) (sym t) s
limit-step machine_of setup h old (Dialed port) new t s = subst (HasLimit setup) (sym t) s
limit-step machine_of setup h old (Executed xid call reply) new t s = subst (HasLimit setup) (sym t) s
limit-step machine_of setup h old (Foreign call reply) new t s = subst (HasLimit setup) (sym t) s
limit-step machine_of setup h old (Flushed file from len) new t s = subst (HasLimit setup) (sym t) s
limit-step machine_of setup h old (Reboot verf) new t s = subst (HasLimit setup) (sym t) s
limit-step machine_of setup h old (Clock ms) new t s = subst (HasLimit setup) (sym t) s

pub reached-limit : (machine_of : ℕ → Op → Machine) (setup : Setup) (h : List Entry) (v : View) → Reaches machine_of setup h v → HasLimit setup v
reached-limit machine_of setup _ _ (begins h v may up fresh) = ap (λ (c : Held Purpose). c.limit) fresh.calls
reached-limit machine_of setup _ _ (goes h before v b e r is t) = limit-step machine_of setup before b e v t (reached-limit machine_of setup before b r)
reached-limit machine_of setup _ _ (loses h v b r shown is) = ap (λ (w : View). w.calls.limit) is ∙ reached-limit machine_of setup h b r
