-- Each WRITE of a place past the size of a SETATTR was answered before that is sent.
use Rattle.core_session.proofs.Prelude.{◌≡◌, ◌<◌, ◌≤◌, ◌+◌, ◌⊎◌, inl, inr, ℕ, List, length, Option, Some, refl, sym, subst, arith, SetAttr, Time, Entry, Sent, Delivered, Call, NoneBegan, At, HasXid, SpellsCall, SpellsCallBy, FirstSent, At-grow, At-back, Mounted, machine_of, Setup, View, Reaches, one-xid, reached-rows, one-call, IsWaiting, HeardBefore}
use Rattle.core_session.specs.order.Altering.{sizes}
use Rattle.nfs_file_calls.specs.declared.call.FileCall.TheVariants as file_calls
use Rattle.world_model.specs.declared.message.Call.TheVariants as calls
use Rattle.core_answers.specs.asks.Xids.{IsAmong}
use Rattle.core_answers.proofs.asks.XidAsks.{xids-kept}
use Rattle.core_session.proofs.order.Answered.{Waits, SentOf, reached-heeds, reached-sending}
use Rattle.core_session.proofs.order.Beside.{beside}
use Rattle.core_session.proofs.order.Earliers.{waits-as}

module _ (m : Mounted) (setup : Setup) (h : List Entry) (f : List ℕ) (i s xid : ℕ) (sent : List ℕ) (offset how : ℕ) (bytes : List ℕ) (first : FirstSent h s xid sent)
    (writes_ : SpellsCall xid (calls.File (file_calls.Write f offset how bytes)) sent) (from : offset ≤ i) (to : i < offset + length bytes) (n last : ℕ) (next : List ℕ) (set : SetAttr)
    (guard : Option Time) (size : ℕ) (second : FirstSent h n last next) (sizes_ : SpellsCall last (calls.File (file_calls.SetAttr f set guard)) next) (sized : set.size ≡ Some size)
    (small : size ≤ i) (later : s < n) where
  -- the two have different xids
  others : last ≡ xid → ⊥
  others same = let early = second.first s sent first.sent (subst (HasXid sent) (sym same) first.under) in absurd (omega (arith, early, later))

  module _ (w : SentOf setup (machine_of m) h n next) where
    sent-before : At w.before s (Sent sent)
    sent-before = At-back w.before w.after s (Sent sent) (subst (λ (k : List Entry). At k s (Sent sent)) w.is first.sent) (let there = w.there in omega (arith, later, there))

    -- the SETATTR waits, though it wasn't sent yet
    own : IsWaiting setup w.old last (calls.File (file_calls.SetAttr f set guard))
    own =
        let k = (reached-rows (machine_of m) setup w.before w.old w.reached).rows w.xid w.call w.waits in
        let same : w.xid ≡ last = one-xid w.xid last next w.under_xid second.under in
        let which : calls.File (file_calls.SetAttr f set guard) ≡ k.made.asked =
        one-call last w.xid (calls.File (file_calls.SetAttr f set guard)) k.made.asked w.call.bytes tt
        (subst (SpellsCall last (calls.File (file_calls.SetAttr f set guard))) w.bytes_is sizes_) k.made.spells.spells in
        subst (λ (x : ℕ). IsWaiting setup w.old x (calls.File (file_calls.SetAttr f set guard))) same
        (record { waiting = w.call; waits = w.waits; spells = subst (λ (c : Call). SpellsCallBy setup.cred w.xid c w.call.bytes) (sym which) k.made.spells })

    -- so the WRITE waits no more
    waits-not : Waits xid w.old.calls.calls → ⊥
    waits-not k =
        let write : IsWaiting setup w.old xid (calls.File (file_calls.Write f offset how bytes)) =
        waits-as m setup w.before w.old w.reached xid k.0 k.1 s sent sent-before first.under (calls.File (file_calls.Write f offset how bytes)) tt writes_ in
        others (beside m setup w.before w.old w.reached w.found f i xid offset how bytes write from to last (calls.File (file_calls.SetAttr f set guard)) own (sizes set size guard refl sized small))

    heard-then : setup.first_xid ≤ xid → HeardBefore h xid n
    heard-then low = by (reached-heeds setup (machine_of m) w.before w.old w.reached s xid sent sent-before first.under low)
      where
        by : HeardBefore w.before xid (length w.before) ⊎ Waits xid w.old.calls.calls → HeardBefore h xid n
        by (inr k) = absurd (waits-not k)
        by (inl k) = record {
          at = k.at;
          bytes = k.bytes;
          got = subst (λ (g : List Entry). At g k.at (Delivered k.bytes)) (sym w.is) (At-grow w.before w.after k.at (Delivered k.bytes) k.got);
          under = k.under;
          before = let early = k.before in let there = w.there in omega (arith, early, there);
        }

  none-sooner : NoneBegan h n → NoneBegan h s
  none-sooner none j lane line op at early = none j lane line op at (omega (arith, early, later))

  pub write-heard : (v : View) → Reaches (machine_of m) setup h v → NoneBegan h s ⊎ HeardBefore h xid n
  write-heard v r = by (reached-sending setup (machine_of m) h v r n next second.sent) (xids-kept m setup h v r s xid sent first.sent first.under)
    where
      by : NoneBegan h n ⊎ SentOf setup (machine_of m) h n next → NoneBegan h s ⊎ IsAmong setup.first_xid setup.limit xid → NoneBegan h s ⊎ HeardBefore h xid n
      by (inl none) among = inl (none-sooner none)
      by (inr w) (inl none) = inl none
      by (inr w) (inr among) = inr (heard-then w among.low)
