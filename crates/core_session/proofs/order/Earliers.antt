-- Each call that may change a place of a file was answered before a WRITE that covers the place is sent.
use Rattle.core_session.proofs.Prelude.{◌≡◌, ◌<◌, ◌≤◌, ◌+◌, ◌⊎◌, inl, inr, ℕ, List, length, Some, sym, subst, arith, Waiting, waiting_at, Entry, Sent, Delivered, Call, NoneBegan, At, HasXid, SpellsCall, SpellsCallBy, FirstSent, At-grow, At-back, Mounted, machine_of, Purpose, Setup, View, Reaches, Tried, unsent, one-xid, reached-rows, IsNfs, one-call, IsWaiting, HeardBefore}
use Rattle.core_facts.specs.Tries.{runs, ended}
use Rattle.core_session.specs.order.Altering.{Alters, writes, sizes}
use Rattle.nfs_file_calls.specs.declared.call.FileCall.TheVariants as file_calls
use Rattle.world_model.specs.declared.message.Call.TheVariants as calls
use Rattle.core_answers.specs.asks.Xids.{IsAmong}
use Rattle.core_answers.proofs.asks.XidAsks.{xids-kept}
use Rattle.core_session.specs.order.Earlier.{EarlierHeard}
use Rattle.core_session.proofs.order.Answered.{Waits, SentOf, reached-heeds, reached-sending}
use Rattle.core_session.proofs.order.Beside.{beside}

alters-nfs : (f : List ℕ) (i : ℕ) (call : Call) → Alters f i call → IsNfs call
alters-nfs f i call (writes offset how bytes is low high) = subst IsNfs (sym is) tt
alters-nfs f i call (sizes set size guard is sized low) = subst IsNfs (sym is) tt

-- a call that waits and was sent waits as what its record spells
pub waits-as : (m : Mounted) (setup : Setup) (h : List Entry) (v : View) → Reaches (machine_of m) setup h v → (xid : ℕ) (w : Waiting Purpose) → waiting_at xid v.calls.calls ≡ Some w
    → (s : ℕ) (sent : List ℕ) → At h s (Sent sent) → HasXid sent xid → (call : Call) → IsNfs call → SpellsCall xid call sent → IsWaiting setup v xid call
waits-as m setup h v r xid w waits s sent at named call nfs spells =
    let k = (reached-rows (machine_of m) setup h v r).rows xid w waits in
    let same : sent ≡ w.bytes = by k.tried in
    let which : call ≡ k.made.asked = one-call xid xid call k.made.asked w.bytes nfs (subst (SpellsCall xid call) same spells) k.made.spells.spells in
    record { waiting = w; waits = waits; spells = subst (λ (c : Call). SpellsCallBy setup.cred xid c w.bytes) (sym which) k.made.spells }
  where
    by : Tried h xid w → sent ≡ w.bytes
    by (unsent nothing none) = absurd (none s sent at named)
    by (runs from running o rest) = o.equal s sent at named
    by (ended from idle o rest) = o.equal s sent at named

module _ (m : Mounted) (setup : Setup) (h : List Entry) (f : List ℕ) (i s xid : ℕ) (sent : List ℕ) (call : Call) (first : FirstSent h s xid sent) (spells : SpellsCall xid call sent)
    (alters : Alters f i call) (n last : ℕ) (next : List ℕ) (offset how : ℕ) (bytes : List ℕ) (second : FirstSent h n last next)
    (writes_ : SpellsCall last (calls.File (file_calls.Write f offset how bytes)) next) (from : offset ≤ i) (to : i < offset + length bytes) (later : s < n) where
  -- the two have different xids
  others : xid ≡ last → ⊥
  others same = let early = second.first s sent first.sent (subst (HasXid sent) same first.under) in absurd (omega (arith, early, later))

  module _ (w : SentOf setup (machine_of m) h n next) where
    sent-before : At w.before s (Sent sent)
    sent-before = At-back w.before w.after s (Sent sent) (subst (λ (k : List Entry). At k s (Sent sent)) w.is first.sent) (let there = w.there in omega (arith, later, there))

    -- the WRITE waits, though it wasn't sent yet
    own : IsWaiting setup w.old last (calls.File (file_calls.Write f offset how bytes))
    own =
        let k = (reached-rows (machine_of m) setup w.before w.old w.reached).rows w.xid w.call w.waits in
        let same : w.xid ≡ last = one-xid w.xid last next w.under_xid second.under in
        let which : calls.File (file_calls.Write f offset how bytes) ≡ k.made.asked =
        one-call last w.xid (calls.File (file_calls.Write f offset how bytes)) k.made.asked w.call.bytes tt
        (subst (SpellsCall last (calls.File (file_calls.Write f offset how bytes))) w.bytes_is writes_) k.made.spells.spells in
        subst (λ (x : ℕ). IsWaiting setup w.old x (calls.File (file_calls.Write f offset how bytes))) same
        (record { waiting = w.call; waits = w.waits; spells = subst (λ (c : Call). SpellsCallBy setup.cred w.xid c w.call.bytes) (sym which) k.made.spells })

    -- so the other one waits no more
    waits-not : Waits xid w.old.calls.calls → ⊥
    waits-not k =
        let other : IsWaiting setup w.old xid call =
        waits-as m setup w.before w.old w.reached xid k.0 k.1 s sent sent-before first.under call (alters-nfs f i call alters) spells in
        others (beside m setup w.before w.old w.reached w.found f i last offset how bytes own from to xid call other alters)

    heard-then : setup.first_xid ≤ xid → HeardBefore h xid n
    heard-then low = by (reached-heeds setup (machine_of m) w.before w.old w.reached s xid sent sent-before first.under low)
      where
        by : HeardBefore w.before xid (length w.before) ⊎ Waits xid w.old.calls.calls → HeardBefore h xid n
        by (inr k) = absurd (waits-not k)
        by (inl k) = record {
          at = k.at;
          bytes = k.bytes;
          got = subst (λ (g : List Entry). At g k.at (Delivered k.bytes)) (sym w.is) (At-grow w.before w.after k.at (Delivered k.bytes) k.got);
          under = k.under;
          before = let early = k.before in let there = w.there in omega (arith, early, there);
        }

  none-sooner : NoneBegan h n → NoneBegan h s
  none-sooner none j lane line op at early = none j lane line op at (omega (arith, early, later))

pub earlier-heard : EarlierHeard
earlier-heard m setup h v r f i s xid sent call first spells alters n last next offset how bytes second writes_ from to later =
    by (reached-sending setup (machine_of m) h v r n next second.sent) (xids-kept m setup h v r s xid sent first.sent first.under)
  where
    by : NoneBegan h n ⊎ SentOf setup (machine_of m) h n next → NoneBegan h s ⊎ IsAmong setup.first_xid setup.limit xid → NoneBegan h s ⊎ HeardBefore h xid n
    by (inl none) among = inl (none-sooner m setup h f i s xid sent call first spells alters n last next offset how bytes second writes_ from to later none)
    by (inr w) (inl none) = inl none
    by (inr w) (inr among) = inr (heard-then m setup h f i s xid sent call first spells alters n last next offset how bytes second writes_ from to later w among.low)
