-- Each WRITE that a session sends carries a byte: each piece in flight has one.
use Rattle.core_session.proofs.Prelude.{◌≡◌, ℕ, List, [], length, ap, arith, inl, inr, of_file, Entry, Sent, Call, At, SpellsCall, info_call, Terms, Mounted, machine_of, Setup, View, begins-unbegun, Expects, expects-laws, one-call, GoesFrom}
use Rattle.world_model.specs.Mounts.{mount_call}
use Rattle.core_session.specs.calls.Whole.{WritesCarryBytes}
use Rattle.nfs_file_calls.specs.declared.call.FileCall.TheVariants as files
use Rattle.write_back.proofs.Flying.{under-whole}
use Rattle.world_model.specs.declared.message.Call.TheVariants as calls
use Rattle.claims.specs.CallsAsked.{IsCause, mounts, informs, asked}
use Rattle.core_session.proofs.order.Basis.{reached-basis}
use Rattle.core_session.proofs.calls.Causes.{Now}
use Rattle.core_session.proofs.calls.Outgoing.{Outgoing, sent-nfs}
use Rattle.core_session.proofs.calls.Whole.{session, early-or}
use Rattle.core_session.proofs.calls.WriteKeeps.{Its, in-flight, piece-bytes}

module _ (m : Mounted) (terms : Terms) (setup : Setup) (before h : List Entry) (v : View) (g : GoesFrom m terms setup before h v) where
  -- of an operation
  out-some : (i : ℕ) (bytes : List ℕ) (w : Outgoing (machine_of m) (begins-unbegun m) setup h i bytes) (f : List ℕ) (offset how : ℕ)
      → Its m terms setup h v (session m terms setup before h v g) i bytes w ≡ calls.File (files.Write f offset how []) → ⊥
  out-some i bytes w f offset how is =
      let s = session m terms setup before h v g in
      let k = in-flight m terms setup h v s i bytes w f [] offset how is in
      let sound = (reached-basis m setup w.before w.old w.reached w.found).sound f in
      let whole = under-whole w.xid (of_file f w.old.shelf.back).pieces k.piece sound.sent k.there in
      let some = whole.some in
      let none = ap length (piece-bytes m terms setup h v s i bytes w f [] offset how is) in
      omega (arith, some, none)

  -- of the set-up
  early-some : (i : ℕ) (call : Call) (f : List ℕ) (offset how : ℕ) → IsCause terms before i call → calls.File (files.Write f offset how []) ≡ call → ⊥
  early-some i call f offset how (mounts path is c none) same = absurd (let no_way : calls.File (files.Write f offset how []) ≡ mount_call path = rw c at same in cc)
  early-some i call f offset how (informs root rooted c none) same = absurd (let no_way : calls.File (files.Write f offset how []) ≡ info_call root = rw c at same in cc)
  early-some i call f offset how (asked lane x op under asks keeps) same = absurd (g.set_up.unbegun x lane under.line op under.began)

  all-some : (i xid : ℕ) (bytes f : List ℕ) (offset how : ℕ) → At h i (Sent bytes) → SpellsCall xid (calls.File (files.Write f offset how [])) bytes → ⊥
  all-some i xid bytes f offset how at spells = elim (early-or m terms setup before h v g i bytes at) [
    | inl early ↦
        let c = g.set_up.asked.caused i bytes early in
        early-some i c.call f offset how c.cause (one-call xid c.xid (calls.File (files.Write f offset how [])) c.call bytes tt spells c.made.spells)
    | inr w ↦
        let s = session m terms setup before h v g in
        out-some i bytes w f offset how
        (one-call w.xid xid (Its m terms setup h v s i bytes w) (calls.File (files.Write f offset how [])) bytes
        (sent-nfs (machine_of m) (begins-unbegun m) setup Expects expects-laws h i bytes w) (Now m terms setup h v s i bytes w).made.spells spells)
  ]

pub writes-some : WritesCarryBytes
writes-some m terms setup before h v g i xid bytes f offset how at spells = all-some m terms setup before h v g i xid bytes f offset how at spells
