-- Each call of a session was asked for, but those that make room.
use Rattle.core_session.proofs.Prelude.{◌≡◌, ◌⊎◌, inl, inr, ℕ, List, refl, sym, subst, Entry, Sent, Call, Op, Asks, NoneBegan, IsCaused, KeepsTo, At, SpellsCallBy, UnderWay, Terms, Mounted, IsAsked, machine_of, Setup, View, begins-unbegun, GoesFrom, CallsAskedBut, Notes}
use Rattle.claims.specs.CallsAsked.{asked}
use Rattle.core_session.specs.calls.Whole.{IsCausedBeside}
use Rattle.world_model.specs.declared.op.Op.TheVariants as ops
use Rattle.claims.specs.Asks as asks
use Rattle.core_session.specs.calls.Made as before_made
use Rattle.core_session.proofs.calls.Causes.{Now, Spelt, under-now, cause, reads-keep}
use Rattle.core_session.proofs.calls.Outgoing.{Outgoing}
use Rattle.core_session.proofs.calls.OwnBytes.{own-bytes}
use Rattle.core_session.proofs.calls.TableHeld.{AllNoted}
use Rattle.core_session.proofs.calls.Whole.{session, calls-asked-but}
use Rattle.core_session.proofs.calls.WriteKeeps.{writes-keep}
use Rattle.core_session.specs.hidden.Removed.{IsCausedForRoom, ClosesRemoveWhatWasHidden}
use Rattle.core_session.proofs.hidden.CloseCause.{close-or, removes-hidden}
use Rattle.core_session.proofs.asked.Passed.{Passed, sends-passed}
use Rattle.core_session.proofs.room.Onward.{Onward}

module _ (m : Mounted) (terms : Terms) (setup : Setup) (before h : List Entry) (v : View) (g : GoesFrom m terms setup before h v) where
  abbrev Out : ℕ → List ℕ → Type 0
  Out i bytes = Outgoing (machine_of m) (begins-unbegun m) setup h i bytes

  abbrev Caused : ℕ → List ℕ → Type 0
  Caused i bytes = IsCaused terms h i bytes ⊎ IsCausedForRoom terms h i bytes

  -- ---- a record that was sent for an operation, when no answer was ready

  module _ (i : ℕ) (bytes : List ℕ) (w : Out i bytes) (on : Onward (machine_of m) setup w.before w.old h v) (noted : AllNoted w.old) where
    abbrev Its : Call
    Its = Spelt m terms setup h v (session m terms setup before h v g) i bytes w

    under : UnderWay h w.waiting.purpose.lane w.x i w.op
    under = under-now m terms setup h v (session m terms setup before h v g) i bytes w

    its-asked : IsAsked w.op
    its-asked = g.asked w.x w.waiting.purpose.lane under.line w.op under.began

    keeps : KeepsTo terms h w.x i Its
    keeps = record {
      read = reads-keep m terms setup h v (session m terms setup before h v g) i bytes w its-asked;
      write = λ f text offset how is. writes-keep m terms setup h v (session m terms setup before h v g) i bytes w f text offset how is;
      own = λ f text offset how is k b has. own-bytes m terms setup h v (session m terms setup before h v g) i bytes w on noted f text offset how is k b has;
    }

    made : SpellsCallBy terms.cred w.xid Its bytes
    made = subst (λ c. SpellsCallBy c w.xid Its bytes) g.cred (Now m terms setup h v (session m terms setup before h v g) i bytes w).made

    of-asks : Asks terms h w.x i w.op Its → Caused i bytes
    of-asks a = inl (record { xid = w.xid; call = Its; made = made; cause = asked w.waiting.purpose.lane w.x w.op under a keeps })

    of-close : (slot : ℕ) (is : w.op ≡ ops.Close slot) → Asks terms h w.x i (ops.Close slot) Its
    of-close slot is = elim (close-or m terms setup h v (session m terms setup before h v g) i bytes w slot is) [
      | inl a ↦ a
      | inr r ↦ asks.removes_hidden (removes-hidden m terms setup h v (session m terms setup before h v g) i bytes w slot is r noted)
    ]

    of-beside : before_made.IsBeside terms h w.x i w.op Its → Caused i bytes
    of-beside (before_made.makes_room writer room) = inr (record {
      xid = w.xid;
      call = Its;
      made = made;
      lane = w.waiting.purpose.lane;
      x = w.x;
      op = w.op;
      under_way = under;
      writer = writer;
      room = room;
      keeps = keeps;
    })
    of-beside (before_made.removes slot is removal) = of-asks (subst (λ (o : Op). Asks terms h w.x i o Its) (sym is) (of-close slot is))

    pub out-cause : Caused i bytes
    out-cause = elim (cause m terms setup h v (session m terms setup before h v g) i bytes w w.op refl its-asked) [
      | inl a ↦ of-asks a
      | inr other ↦ of-beside other
    ]

  -- ---- all of them

  all-but : Notes (machine_of m) setup h v → CallsAskedBut terms h
  all-but n = calls-asked-but m terms setup before h v g n

  -- one that was sent before any operation began
  early-cause : Notes (machine_of m) setup h v → (i : ℕ) (bytes : List ℕ) → At h i (Sent bytes) → NoneBegan h i → IsCaused terms h i bytes
  early-cause n i bytes at none = by ((all-but n).caused i bytes at)
    where
      by : IsCaused terms h i bytes ⊎ IsCausedBeside terms h i bytes → IsCaused terms h i bytes
      by (inl c) = c
      by (inr other) = absurd (none other.x other.lane other.under_way.line other.op other.under_way.began other.under_way.before)

  caused : Notes (machine_of m) setup h v → (i : ℕ) (bytes : List ℕ) → At h i (Sent bytes) → Caused i bytes
  caused n i bytes at = by (sends-passed (machine_of m) (begins-unbegun m) setup h v n i bytes at)
    where
      by : NoneBegan h i ⊎ Passed (machine_of m) (begins-unbegun m) setup h v i bytes → Caused i bytes
      by (inl none) = inl (early-cause n i bytes at none)
      by (inr s) = out-cause i bytes s.out s.on s.noted

pub removes-asked : ClosesRemoveWhatWasHidden
removes-asked m terms setup before h v g n =
    let all = calls-asked-but m terms setup before h v g n in
    record {
      caused = caused m terms setup before h v g n;
      among = all.among;
      equal = all.equal;
      single = all.single;
      unrepeated = all.unrepeated;
    }
