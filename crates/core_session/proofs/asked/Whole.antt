-- Each call of a session was asked for.
use Rattle.core_session.proofs.Prelude.{◌≡◌, ◌⊎◌, inl, inr, ℕ, List, refl, sym, subst, Entry, Sent, Call, Asks, NoneBegan, IsCaused, KeepsTo, At, SpellsCallBy, UnderWay, Terms, Mounted, IsAsked, machine_of, Setup, View, begins-unbegun, IsSession, GoesFrom, CallsAskedBut, Notes}
use Rattle.claims.specs.CallsAsked.{asked}
use Rattle.core_session.specs.calls.Whole.{IsCausedBeside}
use Rattle.core_session.proofs.calls.Causes.{Now, Spelt, under-now, reads-keep}
use Rattle.core_session.proofs.calls.Outgoing.{Outgoing}
use Rattle.core_session.proofs.calls.OwnBytes.{own-bytes}
use Rattle.core_session.proofs.calls.TableHeld.{AllNoted}
use Rattle.core_session.proofs.calls.Whole.{session, calls-asked-but}
use Rattle.core_session.proofs.calls.WriteKeeps.{writes-keep}
use Rattle.core_session.proofs.room.Onward.{Onward}
use Rattle.core_session.specs.asked.Asked.{CallsAreAsked}
use Rattle.core_session.proofs.asked.Chosen.{out-asks}
use Rattle.core_session.proofs.asked.Held.{had-pending}
use Rattle.core_session.proofs.asked.Passed.{Passed, sends-passed}

-- of any record that was sent for an operation, when no answer was ready
module _ (m : Mounted) (terms : Terms) (setup : Setup) (h : List Entry) (v : View) (s : IsSession m terms setup h v) (i : ℕ) (bytes : List ℕ)
    (w : Outgoing (machine_of m) (begins-unbegun m) setup h i bytes) (on : Onward (machine_of m) setup w.before w.old h v) (noted : AllNoted w.old) where
  pub out-asked : Asks terms h w.x i w.op (Spelt m terms setup h v s i bytes w)
  out-asked = out-asks m terms setup h v s i bytes w on (had-pending m terms setup h v s i bytes w on noted) noted

module _ (m : Mounted) (terms : Terms) (setup : Setup) (before h : List Entry) (v : View) (g : GoesFrom m terms setup before h v) (n : Notes (machine_of m) setup h v) where
  s : IsSession m terms setup h v
  s = session m terms setup before h v g

  module _ (i : ℕ) (bytes : List ℕ) (p : Passed (machine_of m) (begins-unbegun m) setup h v i bytes) where
    abbrev Its : Call
    Its = Spelt m terms setup h v s i bytes p.out

    under : UnderWay h p.out.waiting.purpose.lane p.out.x i p.out.op
    under = under-now m terms setup h v s i bytes p.out

    its-asked : IsAsked p.out.op
    its-asked = g.asked p.out.x p.out.waiting.purpose.lane under.line p.out.op under.began

    keeps : KeepsTo terms h p.out.x i Its
    keeps = record {
      read = reads-keep m terms setup h v s i bytes p.out its-asked;
      write = λ f text offset how is. writes-keep m terms setup h v s i bytes p.out f text offset how is;
      own = λ f text offset how is k b has. own-bytes m terms setup h v s i bytes p.out p.on p.noted f text offset how is k b has;
    }

    made : SpellsCallBy terms.cred p.out.xid Its bytes
    made = subst (λ c. SpellsCallBy c p.out.xid Its bytes) g.cred (Now m terms setup h v s i bytes p.out).made

    cause-of : IsCaused terms h i bytes
    cause-of = record {
      xid = p.out.xid;
      call = Its;
      made = made;
      cause = asked p.out.waiting.purpose.lane p.out.x p.out.op under (out-asked m terms setup h v s i bytes p.out p.on p.noted) keeps;
    }

  -- ---- all of them

  all-but : CallsAskedBut terms h
  all-but = calls-asked-but m terms setup before h v g n

  -- one that was sent before any operation began
  early-cause : (i : ℕ) (bytes : List ℕ) → At h i (Sent bytes) → NoneBegan h i → IsCaused terms h i bytes
  early-cause i bytes at none = by (all-but.caused i bytes at)
    where
      by : IsCaused terms h i bytes ⊎ IsCausedBeside terms h i bytes → IsCaused terms h i bytes
      by (inl c) = c
      by (inr other) = absurd (none other.x other.lane other.under_way.line other.op other.under_way.began other.under_way.before)

  caused : (i : ℕ) (bytes : List ℕ) → At h i (Sent bytes) → IsCaused terms h i bytes
  caused i bytes at = by (sends-passed (machine_of m) (begins-unbegun m) setup h v n i bytes at)
    where
      by : NoneBegan h i ⊎ Passed (machine_of m) (begins-unbegun m) setup h v i bytes → IsCaused terms h i bytes
      by (inl none) = early-cause i bytes at none
      by (inr p) = cause-of i bytes p

pub all-asked : CallsAreAsked
all-asked m terms setup before h v g n =
    let all = calls-asked-but m terms setup before h v g n in
    record {
      caused = caused m terms setup before h v g n;
      among = all.among;
      equal = all.equal;
      single = all.single;
      unrepeated = all.unrepeated;
    }
