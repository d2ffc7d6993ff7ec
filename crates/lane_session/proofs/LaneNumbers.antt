-- The lanes of a core that goes with a history are of 1 to 16; so where each has told its answer none is ready.
use Rattle.std.proofs.Common.{◌≡◌, ◌≤◌, ◌-◌, inl, inr, ℕ, zero, suc, List, [], ◌∷◌, ◌++◌, position, remove, slice_get, true, false, nat_eq, Some, None, refl, sym, ap, subst, ◌∙◌, arith}
use Rattle.std.proofs.lemmas.Bool.{eq-eqb}
use Rattle.std.proofs.lemmas.Option.{get_or_from_slice_get, slice_get_within}
use Rattle.rpc_retry.proofs.Dues.{fails_everywhere}
use Rattle.world_model.specs.declared.entry.Entry.{Entry}
use Rattle.world_model.specs.declared.entry.Entry.TheVariants.{Began, Answered, Dialed, Sent, Executed, Foreign, Flushed, Reboot, Delivered, Failed, Clock}
use Rattle.world_model.specs.declared.op.Op.{Op}
use Rattle.op_machines.specs.declared.machine.Machine.{Machine}
use Rattle.client_core.specs.declared.lane.Lane.{Lane}
use Rattle.client_core.specs.declared.lane.State.TheVariants.{Over}
use Rattle.client_core.specs.declared.setup.Setup.{Setup}
use Rattle.client_core.specs.Lanes.{is_over}
use Rattle.client_core.specs.Numbers.{AreUpTo, numbers_of}
use Rattle.client_core.specs.Steps.{WereSent}
use Rattle.client_core.specs.View.{View}
use Rattle.core_facts.specs.Reaches.{StepsTo, Reaches, begins, goes, loses, last_reading, MayHear}
use Rattle.core_facts.proofs.Cases.{answered_now}
use Rattle.core_facts.proofs.Lists.{map-remove, to-map}
use Rattle.core_facts.proofs.Sound.{Sound, reached-sound}
use Rattle.core_facts.specs.Notes.{NoneReady}
use Rattle.lane_session.specs.Running.{NoneOver}
use Rattle.lane_session.proofs.Cores.{begins-so, HeardSo, heard_none, heard_one, heard-so, sends-so, fails-so, lost-so}

abbrev AreFew : View → Type 0
AreFew v = AreUpTo 16 (numbers_of v.lanes)

up-to-push : (most n : ℕ) (ns : List ℕ) → 1 ≤ n → n ≤ most → AreUpTo most ns → AreUpTo most (ns ++ n ∷ [])
up-to-push most n [] least within u = (least, within, tt)
up-to-push most n (x ∷ xs) least within u = (u.0, u.1, up-to-push most n xs least within u.2)

up-to-remove : (most : ℕ) (ns : List ℕ) (at : ℕ) → AreUpTo most ns → AreUpTo most (remove ns at)
up-to-remove most [] zero u = u
up-to-remove most [] (suc at) u = u
up-to-remove most (x ∷ xs) zero u = u.2
up-to-remove most (x ∷ xs) (suc at) u = (u.0, u.1, up-to-remove most xs at u.2)

up-to-at : (most : ℕ) (ns : List ℕ) (at n : ℕ) → AreUpTo most ns → slice_get ns at ≡ Some n → (1 ≤ n) × (n ≤ most)
up-to-at most [] at n u there = absurd (cc)
up-to-at most (x ∷ xs) zero n u there = let is : x ≡ n = cc in let low = u.0 in let high = u.1 in (omega (arith, is, low), omega (arith, is, high))
up-to-at most (x ∷ xs) (suc at) n u there = up-to-at most xs at n u.2 there

few-like : (old new : View) → numbers_of new.lanes ≡ numbers_of old.lanes → AreFew old → AreFew new
few-like old new same u = subst (AreUpTo 16) (sym same) u

few-same : (old new : View) → new ≡ old → AreFew old → AreFew new
few-same old new is u = subst AreFew (sym is) u

few-step : (machine : ℕ → Op → Machine) (setup : Setup) (h : List Entry) (old : View) (e : Entry) (new : View) → StepsTo machine h old e new → Sound setup old → AreFew old → AreFew new
few-step machine setup h old (Began lane line op) new t s u =
    let k = begins-so old lane (machine lane op) (last_reading 0 h) new s.calls.within t.step in
    subst (AreUpTo 16) (sym k.numbers_are) (up-to-push 16 lane (numbers_of old.lanes) t.idle.least t.idle.most u)
few-step machine setup h old (Answered lane line answer) new t s u =
    let a = answered_now old lane answer new t.answers in
    subst (AreUpTo 16) (sym (ap (λ (v : View). numbers_of v.lanes) a.is.is ∙ map-remove (λ (l : Lane). l.number) old.lanes a.at)) (up-to-remove 16 (numbers_of old.lanes) a.at u)
few-step machine setup h old (Sent bytes) new t s u = few-like old new (ap numbers_of (sends-so old (Some bytes) new t).lanes) u
few-step machine setup h old (Delivered bytes) new t s u = by (heard-so old bytes t.result new s.calls.within t.hears)
  where
    by : HeardSo old t.result new → AreFew new
    by (heard_none no_one same) = few-same old new same u
    by (heard_one took k some) = few-like old new k.numbers_are u
few-step machine setup h old Failed new (inl t) s u = few-like old new (fails-so old t.0 new t.1).numbers_are u
few-step machine setup h old Failed new (inr is) s u = few-same old new is u
few-step machine setup h old (Dialed port) new is s u = few-same old new is u
few-step machine setup h old (Executed xid call reply) new is s u = few-same old new is u
few-step machine setup h old (Foreign call reply) new is s u = few-same old new is u
few-step machine setup h old (Flushed file from len) new is s u = few-same old new is u
few-step machine setup h old (Reboot verf) new is s u = few-same old new is u
few-step machine setup h old (Clock ms) new is s u = few-same old new is u

reached-few : (machine : ℕ → Op → Machine) (setup : Setup) (h : List Entry) (v : View) → Reaches machine setup h v → AreFew v
reached-few machine setup _ _ (begins h v may up fresh) = subst (λ (ls : List Lane). AreUpTo 16 (numbers_of ls)) (sym fresh.lanes) tt
reached-few machine setup _ _ (goes h before v b e r is t) = few-step machine setup before b e v t (reached-sound machine setup before b r) (reached-few machine setup before b r)
reached-few machine setup _ _ (loses h v b r shown is) = few-like b v (ap (λ (w : View). numbers_of w.lanes) is ∙ (lost-so b).numbers_are) (reached-few machine setup h b r)

-- where each lane has told its answer, none is ready
pub none-ready : (machine : ℕ → Op → Machine) (setup : Setup) (h : List Entry) (v : View) → Reaches machine setup h v → NoneOver v → NoneReady v
none-ready machine setup h v r told at number answer there =
    let lane : Lane = record { number = number; state = Over answer } in
    let bounds = up-to-at 16 (numbers_of v.lanes) at number (reached-few machine setup h v r) (to-map (λ (l : Lane). l.number) v.lanes at lane there) in
    let least = bounds.0 in
    let most = bounds.1 in
    let same : suc (number - 1) ≡ number = omega (arith, least) in
    let not_there : position (is_over number) v.lanes ≡ None = subst (λ (n : ℕ). position (is_over n) v.lanes ≡ None) same (told (number - 1) (omega (arith, least, most))) in
    let fails = fails_everywhere (is_over number) v.lanes not_there lane at (slice_get_within v.lanes at lane there) in
    let here : is_over number lane ≡ false = subst (λ (l : Lane). is_over number l ≡ false) (get_or_from_slice_get v.lanes at lane lane there) fails in
    let own : nat_eq number number ≡ true = eq-eqb number number refl in
    let no_way : true ≡ false = sym own ∙ here in
    cc

-- a record may be received once each call that waits was sent, and each lane has told its answer
pub may-hear : (machine : ℕ → Op → Machine) (setup : Setup) (h : List Entry) (v : View) → Reaches machine setup h v → WereSent v.calls.calls → NoneOver v → MayHear v
may-hear machine setup h v r all_sent told = record { sent = all_sent; noted = none-ready machine setup h v r told }
