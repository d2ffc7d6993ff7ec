-- Each call of a session was asked for, or is one of those of which that isn't said.
use Rattle.core_session.proofs.Prelude.{◌≡◌, ◌≤◌, ◌<◌, ◌+◌, ◌⊎◌, inl, inr, ℕ, List, length, refl, sym, subst, arith, cases_lt, Entry, Began, Sent, Call, Op, NoneBegan, IsCaused, KeepsTo, At, HasXid, SpellsCall, SpellsCallBy, Rooted, info_call, Terms, Rooted-wide, At-below, At-back, Mounted, IsAsked, machine_of, Setup, View, KnowsRoot, begins-unbegun, one-xid, reached-rows, one-call, Expects, expects-laws, IsSession, GoesFrom, CallsAskedBut, Notes}
use Rattle.claims.specs.CallsAsked.{IsCause, mounts, informs, asked, AreSetUp, mount, inform}
use Rattle.world_model.specs.Messages.{head_of}
use Rattle.world_model.specs.Mounts.{Sized, mount_call}
use Rattle.world_model.proofs.Growth.{Rooted-grow, Sized-grow, Sized-wide}
use Rattle.core_session.specs.calls.Sessions.{KnowsSizes}
use Rattle.core_session.specs.calls.Whole.{IsCausedBeside, SessionsCallsAsked, AllCallsAsked}
use Rattle.rpc_message.proofs.CallLaws.{call_xid}
use Rattle.world_model.specs.LanesTogether.{HasBegun}
use Rattle.core_session.proofs.calls.Causes.{Now, Spelt, IsPlain, under-now, cause, reads-keep, spelt-plain, sized-grow}
use Rattle.core_session.proofs.calls.Outgoing.{Outgoing, sent-nfs}
use Rattle.core_session.proofs.room.Onward.{Onward, SentOn, reached-on}
use Rattle.core_session.proofs.calls.OwnBytes.{own-bytes}
use Rattle.core_session.proofs.calls.TableHeld.{AllNoted}
use Rattle.core_session.proofs.asked.Passed.{Passed, sends-passed}
use Rattle.core_session.proofs.calls.WriteKeeps.{writes-keep}

module _ (m : Mounted) (terms : Terms) (setup : Setup) (before h : List Entry) (v : View) (g : GoesFrom m terms setup before h v) where
  -- ---- what the set-up left, in the whole history

  set-up-late : (x lane line : ℕ) (op : Op) → At h x (Began lane line op) → length before ≤ x
  set-up-late x lane line op at = elim (cases_lt x (length before)) [
    | inl early ↦ absurd (g.set_up.unbegun x lane line op (At-back before g.more x (Began lane line op) (subst (λ (k : List Entry). At k x (Began lane line op)) g.grows at) early))
    | inr late ↦ late
  ]

  root-known : KnowsRoot terms.origin h m.root
  root-known x lane line op at =
      Rooted-wide terms.origin h (length before) x m.root (set-up-late x lane line op at)
      (subst (λ (k : List Entry). Rooted terms.origin k (length before) m.root) (sym g.grows) (Rooted-grow terms.origin before g.more (length before) m.root g.set_up.root))

  sizes-known : KnowsSizes terms m setup h
  sizes-known x lane line op at = (
    sized-grow before h g.more g.grows (length before) x m.root terms.rsize m.rsize (set-up-late x lane line op at) g.set_up.read,
    Sized-wide h (length before) x m.root terms.wsize setup.wsize (set-up-late x lane line op at)
        (subst (λ (k : List Entry). Sized k (length before) m.root terms.wsize setup.wsize) (sym g.grows) (Sized-grow before g.more (length before) m.root terms.wsize setup.wsize g.set_up.write)),
  )

  pub session : IsSession m terms setup h v
  session = record { goes = g.goes; noac = g.noac; some = g.some; cred = g.cred; root = root-known; sizes = sizes-known; asked = g.asked }

  abbrev pub Out : ℕ → List ℕ → Type 0
  Out i bytes = Outgoing (machine_of m) (begins-unbegun m) setup h i bytes

  abbrev OutOn : ℕ → List ℕ → Type 0
  OutOn i bytes = SentOn (machine_of m) (begins-unbegun m) setup h v i bytes

  -- each record is one of the set-up, or of an operation, and the session went on
  early-on : (i : ℕ) (bytes : List ℕ) → At h i (Sent bytes) → At before i (Sent bytes) ⊎ OutOn i bytes
  early-on i bytes at = by (g.since i bytes at) (reached-on (machine_of m) (begins-unbegun m) setup h v g.goes.reaches i bytes at)
    where
      by : (i < length before) ⊎ HasBegun h i → NoneBegan h i ⊎ OutOn i bytes → At before i (Sent bytes) ⊎ OutOn i bytes
      by (inl early) out = inl (At-back before g.more i (Sent bytes) (subst (λ (k : List Entry). At k i (Sent bytes)) g.grows at) early)
      by (inr begun) (inl none) = absurd (none begun.at begun.lane begun.line begun.op begun.began begun.before)
      by (inr begun) (inr out) = inr out

  pub early-or : (i : ℕ) (bytes : List ℕ) → At h i (Sent bytes) → At before i (Sent bytes) ⊎ Out i bytes
  early-or i bytes at = elim (early-on i bytes at) [ inl early ↦ inl early | inr sent ↦ inr sent.out ]

  -- ---- why each was sent

  none-early : (i : ℕ) (bytes : List ℕ) → At before i (Sent bytes) → NoneBegan h i
  none-early i bytes at j lane line op began low =
      let late = set-up-late j lane line op began in
      let below = At-below before i (Sent bytes) at in
      absurd (omega (arith, late, low, below))

  early-cause : (i : ℕ) (bytes : List ℕ) → At before i (Sent bytes) → IsCaused terms h i bytes
  early-cause i bytes at =
      let c = g.set_up.asked.caused i bytes at in
      record { xid = c.xid; call = c.call; made = c.made; cause = by c.call c.cause }
    where
      by : (call : Call) → IsCause terms before i call → IsCause terms h i call
      by call (mounts path is c none) = mounts path is c (none-early i bytes at)
      by call (informs root rooted c none) =
          informs root (subst (λ (k : List Entry). Rooted terms.origin k i root) (sym g.grows) (Rooted-grow terms.origin before g.more i root rooted)) c (none-early i bytes at)
      by call (asked lane x op under asks keeps) = absurd (g.set_up.unbegun x lane under.line op under.began)

  module _ (i : ℕ) (bytes : List ℕ) (w : Out i bytes) where
    abbrev pub Its : Call
    Its = Spelt m terms setup h v session i bytes w

    its-asked : IsAsked w.op
    its-asked = let under = under-now m terms setup h v session i bytes w in g.asked w.x w.waiting.purpose.lane under.line w.op under.began

    keeps : Onward (machine_of m) setup w.before w.old h v → AllNoted w.old → KeepsTo terms h w.x i Its
    keeps on noted = record {
      read = reads-keep m terms setup h v session i bytes w its-asked;
      write = λ f text offset how is. writes-keep m terms setup h v session i bytes w f text offset how is;
      own = λ f text offset how is k b has. own-bytes m terms setup h v session i bytes w on noted f text offset how is k b has;
    }

    made : SpellsCallBy terms.cred w.xid Its bytes
    made = subst (λ c. SpellsCallBy c w.xid Its bytes) g.cred (Now m terms setup h v session i bytes w).made

    out-cause : Onward (machine_of m) setup w.before w.old h v → AllNoted w.old → IsCaused terms h i bytes ⊎ IsCausedBeside terms h i bytes
    out-cause on noted = elim (cause m terms setup h v session i bytes w w.op refl its-asked) [
      | inl asks ↦ inl (record {
        xid = w.xid;
        call = Its;
        made = made;
        cause = asked w.waiting.purpose.lane w.x w.op (under-now m terms setup h v session i bytes w) asks (keeps on noted);
      })
      | inr beside ↦ inr (record {
        xid = w.xid;
        call = Its;
        made = made;
        lane = w.waiting.purpose.lane;
        x = w.x;
        op = w.op;
        under_way = under-now m terms setup h v session i bytes w;
        beside = beside;
        keeps = keeps on noted;
      })
    ]

    -- its xid
    its-xid : (xid : ℕ) → HasXid bytes xid → w.xid ≡ xid
    its-xid xid named =
        let s = (Now m terms setup h v session i bytes w).made in
        one-xid w.xid xid bytes (call_xid (head_of w.xid Its) s.spells.args bytes s.spells.head) named

    -- it is no call of the set-up
    its-plain : (x : ℕ) (call : Call) → SpellsCall x call bytes → IsPlain m terms setup h v session i bytes w call
    its-plain x call spells =
        subst (IsPlain m terms setup h v session i bytes w)
        (one-call w.xid x Its call bytes (sent-nfs (machine_of m) (begins-unbegun m) setup Expects expects-laws h i bytes w) (Now m terms setup h v session i bytes w).made.spells spells)
        (spelt-plain m terms setup h v session i bytes w its-asked)

  not-mount : (i : ℕ) (bytes : List ℕ) (w : Out i bytes) (path : List ℕ) → IsPlain m terms setup h v session i bytes w (mount_call path) → ⊥
  not-mount i bytes w path p = p

  not-info : (i : ℕ) (bytes : List ℕ) (w : Out i bytes) (root : List ℕ) → IsPlain m terms setup h v session i bytes w (info_call root) → ⊥
  not-info i bytes w root p = p

  -- ---- all of them

  among : (i xid : ℕ) (bytes : List ℕ) → At h i (Sent bytes) → HasXid bytes xid → (terms.first ≤ xid) × (xid < terms.first + terms.calls)
  among i xid bytes at named = elim (early-or i bytes at) [
    | inl early ↦ g.set_up.asked.among i xid bytes early named
    | inr w ↦
        let is = its-xid i bytes w xid named in
        let low = w.low in
        let high = w.high in
        let first = g.set_up.first in
        let total = g.set_up.total in
        (omega (arith, is, low, first), omega (arith, is, high, total))
  ]

  set-up-early : (i x : ℕ) (a : List ℕ) (call : Call) → At h i (Sent a) → SpellsCall x call a → ((w : Out i a) → IsPlain m terms setup h v session i a w call → ⊥) → At before i (Sent a)
  set-up-early i x a call at spells plain = elim (early-or i a at) [
    | inl early ↦ early
    | inr w ↦ absurd (plain w (its-plain i a w x call spells))
  ]

  single : (i j x y : ℕ) (a b : List ℕ) (call other : Call) → At h i (Sent a) → At h j (Sent b) → SpellsCall x call a → SpellsCall y other b → AreSetUp call other → x ≡ y
  single i j x y a b call other at bt s t (mount path its_path c d) =
      g.set_up.asked.single i j x y a b call other
      (set-up-early i x a call at s (λ w p. not-mount i a w path (subst (IsPlain m terms setup h v session i a w) c p)))
      (set-up-early j y b other bt t (λ w p. not-mount j b w its_path (subst (IsPlain m terms setup h v session j b w) d p))) s t (mount path its_path c d)
  single i j x y a b call other at bt s t (inform root its_root c d) =
      g.set_up.asked.single i j x y a b call other
      (set-up-early i x a call at s (λ w p. not-info i a w root (subst (IsPlain m terms setup h v session i a w) c p)))
      (set-up-early j y b other bt t (λ w p. not-info j b w its_root (subst (IsPlain m terms setup h v session j b w) d p))) s t (inform root its_root c d)

  -- each record is one of the set-up, or was sent when no answer was ready
  caused : Notes (machine_of m) setup h v → (i : ℕ) (bytes : List ℕ) → At h i (Sent bytes) → IsCaused terms h i bytes ⊎ IsCausedBeside terms h i bytes
  caused n i bytes at = by (g.since i bytes at) (sends-passed (machine_of m) (begins-unbegun m) setup h v n i bytes at)
    where
      by : (i < length before) ⊎ HasBegun h i → NoneBegan h i ⊎ Passed (machine_of m) (begins-unbegun m) setup h v i bytes → IsCaused terms h i bytes ⊎ IsCausedBeside terms h i bytes
      by (inl early) out = inl (early-cause i bytes (At-back before g.more i (Sent bytes) (subst (λ (k : List Entry). At k i (Sent bytes)) g.grows at) early))
      by (inr begun) (inl none) = absurd (none begun.at begun.lane begun.line begun.op begun.began begun.before)
      by (inr begun) (inr p) = out-cause i bytes p.out p.on p.noted

  all-but : Notes (machine_of m) setup h v → CallsAskedBut terms h
  all-but n =
      let rows = reached-rows (machine_of m) setup h v g.goes.reaches in
      record {
        caused = caused n;
        among = among;
        equal = rows.numbered.equal;
        single = single;
        unrepeated = rows.numbered.unrepeated;
      }

pub calls-asked-but : SessionsCallsAsked
calls-asked-but m terms setup before h v g n = all-but m terms setup before h v g n

pub all-calls-asked : AllCallsAsked
all-calls-asked m terms setup before h v g n beside =
    let all = all-but m terms setup before h v g n in
    record {
      caused = λ i bytes at. elim (all.caused i bytes at) [
        | inl caused ↦ caused
        | inr other ↦ record {
          xid = other.xid;
          call = other.call;
          made = other.made;
          cause = asked other.lane other.x other.op other.under_way (beside other.lane other.x i other.op other.call other.under_way other.beside) other.keeps;
        }
      ];
      among = all.among;
      equal = all.equal;
      single = all.single;
      unrepeated = all.unrepeated;
    }
