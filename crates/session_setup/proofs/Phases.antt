-- From connecting, making a call and its exchange to the mount, and to the sizes.
use Rattle.std.proofs.Common.{inl, inr, ◌⊎◌, ◌≡◌, ◌≢◌, ◌≤◌, ◌<◌, ◌+◌, ℕ, suc, Bool, true, false, eqb, List, [], ◌∷◌, ◌++◌, length, Option, Some, None, Result, Ok, Err, refl, sym, ap, subst, ◌∙◌, arith}
use Rattle.std.proofs.lemmas.Bool.{ne_eqb}
use Rattle.rpc_retry.specs.Held.{Held, next_xid}
use Rattle.world_model.specs.declared.answer.Fault.{Fault}
use Rattle.world_model.specs.declared.entry.Entry.{Entry}
use Rattle.world_model.specs.declared.entry.Entry.TheVariants.{Began, Answered, Dialed, Sent, Executed, Foreign, Flushed, Reboot, Delivered, Failed, Clock}
use Rattle.world_model.specs.declared.message.Call.{Call}
use Rattle.world_model.specs.Counts.{tally_of}
use Rattle.world_model.specs.Entries.{At, ours}
use Rattle.world_model.specs.Heard.{Heard}
use Rattle.world_model.specs.Messages.{HasXid}
use Rattle.world_model.specs.Mounts.{Origin, Mounting, Rooted, told, untold, mount_call, info_call}
use Rattle.world_model.specs.ReadSize.{told as read_told, untold as read_untold}
use Rattle.world_model.specs.Rows.{begins, WasSent}
use Rattle.world_model.proofs.Growth.{Rooted-grow, Rooted-wide}
use Rattle.session_setup.specs.declared.opening.SetUpFault.{SetUpFault}
use Rattle.session_setup.specs.declared.opening.SetUpFault.TheVariants.{Refused, Lost, Memory}
use Rattle.session_setup.specs.declared.sizes.Greatest.{Greatest}
use Rattle.session_setup.specs.declared.sizes.Sizes.{Sizes}
use Rattle.session_setup.specs.declared.stop.Stop.{Stop}
use Rattle.session_setup.specs.declared.stop.Stop.TheVariants as stops
use Rattle.session_setup.specs.Along.{Extends}
use Rattle.session_setup.specs.Exchanges.{Connects, Makes, IsBase, IsIdle, untried, IsDue, IsAnswered, KeepsCalls, Exchanges}
use Rattle.session_setup.specs.Phases.{KeepsTerms, tally_after, fault_after, MountsTo, Mounts, IsInformed, Informs}
use Rattle.session_setup.specs.Replies.{MountHeard, InfoHeard, SizedBy}
use Rattle.session_setup.specs.Sendings.{IsSetUpCall, mounts, informs, SentSo, info_xid, xid_sent, is_number, times_sent}
use Rattle.session_setup.proofs.Stills.{StepsStill, still_by, plain_still, quiet_of}
use Rattle.session_setup.proofs.Bases.{base_plain, waits_before, WasSent-more, xid_of_call}
use Rattle.session_setup.proofs.Counting.{tally_none, tally_one}

-- ---- no call waits

idle_still : (o : Origin) (c : Held (Unit {0})) → StepsStill (IsIdle o c)
idle_still o c h e s i = record {
  base = base_plain o c h e (plain_still e s) i.base;
  none = i.none;
  idle = λ y w. i.idle y (waits_before h e y (plain_still e s).mute w);
  each = λ y low high. WasSent-more h e y (i.each y low high);
}

pub idle_connects : (o : Origin) (c : Held (Unit {0})) (result : Result (Unit {0}) Stop) (h k : List Entry) → Connects result h k → IsIdle o c h → IsIdle o c k
idle_connects o c result h k con i = subst (IsIdle o c) (sym con.is) (still_by (IsIdle o c) (idle_still o c) h con.more con.still i)

-- nothing was sent yet
pub idle_first : (o : Origin) (c : Held (Unit {0})) → c.calls ≡ [] → c.made ≡ 0 → IsIdle o c []
idle_first o c none unmade = record {
  base = record {
    sent = record {
      caused = λ i b at. absurd cc;
      among = λ i x b at has. absurd cc;
      equal = λ i j x a b at bt p q. absurd cc;
      unrepeated = λ g i x reply b a at has. absurd cc;
      few = λ x. omega arith;
    };
    unmarked = record { began = λ i lane line op at. cc; answered = λ i lane line answer at. cc; clock = λ i ms at. cc };
  };
  none = none;
  idle = λ y w. let at = w.sent in cc;
  each = λ y low high. absurd (omega (arith, low, high, unmade));
}

-- nothing was sent yet, whatever others did
pub idle_apart : (o : Origin) (c : Held (Unit {0})) (h : List Entry) → c.calls ≡ [] → c.made ≡ 0 → ours h ≡ [] → IsIdle o c h
idle_apart o c h none unmade apart = quiet_of (IsIdle o c) (idle_still o c) [] h apart (idle_first o c none unmade)

-- more xids may be used
base_terms : (o : Origin) (old new : Held (Unit {0})) (h : List Entry) → KeepsTerms old new → IsBase o old h → IsBase o new h
base_terms o old new h k b = record { sent = rw (k.cred, k.first_xid) wider; unmarked = b.unmarked }
  where
    wider : SentSo o old.cred old.first_xid (old.first_xid + new.made) h
    wider = record {
      caused = b.sent.caused;
      among = λ i x bytes at has. let m = b.sent.among i x bytes at has in (m.0, omega (arith, m.1, k.least));
      equal = b.sent.equal;
      unrepeated = b.sent.unrepeated;
      few = b.sent.few;
    }

-- ---- a call is made

sent_under : (e : Entry) (x : ℕ) → xid_sent e ≡ Some x → (b : List ℕ) × (e ≡ Sent b) × HasXid b x
sent_under (Sent b) x is = (b, refl, is)
sent_under (Began lane line op) x is = absurd cc
sent_under (Answered lane line answer) x is = absurd cc
sent_under (Dialed port) x is = absurd cc
sent_under (Executed xid call reply) x is = absurd cc
sent_under (Foreign call reply) x is = absurd cc
sent_under (Flushed file from len) x is = absurd cc
sent_under (Reboot verf) x is = absurd cc
sent_under (Delivered bytes) x is = absurd cc
sent_under Failed x is = absurd cc
sent_under (Clock ms) x is = absurd cc

not_number : (x : ℕ) (o : Option ℕ) → (o ≡ Some x → ⊥) → is_number x o ≡ false
not_number x None none = refl
not_number x (Some y) none = ne_eqb y x (λ e. none (ap (λ (n : ℕ). Rattle.std.proofs.Common.Some n) e))

times_none : (x : ℕ) (h : List Entry) → ((i : ℕ) (b : List ℕ) → At h i (Sent b) → HasXid b x → ⊥) → times_sent x h ≡ 0
times_none x [] none = refl
times_none x (e ∷ h) none =
    let lacks : is_number x (xid_sent e) ≡ false = not_number x (xid_sent e) (λ is. let s = sent_under e x is in none 0 s.0 (ap (λ (d : Entry). Rattle.std.proofs.Common.Some d) s.1) s.2) in
    let rest = times_none x h (λ i b at has. none (suc i) b at has) in
    rw (lacks, rest) refl

-- the next call was made, and is due
pub made_due : (o : Origin) (call : Call) (old new : Held (Unit {0})) (h : List Entry) (m : Makes call old new) → IsIdle o old h → IsSetUpCall o old.first_xid h (length h) (next_xid old) call
    → IsDue o (next_xid old) m.bytes 0 0 new h
made_due o call old new h m i is = subst (λ (n : Held (Unit {0})). IsDue o (next_xid old) m.bytes 0 0 n h) (sym m.is) (record {
  calls = rw i.none refl;
  few = omega arith;
  asks = record {
    base = record {
      sent = record {
        caused = i.base.sent.caused;
        among = λ j x b at has. let w = i.base.sent.among j x b at has in (w.0, omega (arith, w.1));
        equal = i.base.sent.equal;
        unrepeated = i.base.sent.unrepeated;
        few = i.base.sent.few;
      };
      unmarked = i.base.unmarked;
    };
    may = record { xid = next_xid old; call = call; made = m.spells; is = is };
    under = xid_of_call (next_xid old) call m.bytes m.spells.spells;
    low = omega arith;
    high = omega arith;
    mine = λ j b at has. absurd (unsent j b at has);
    others = λ y differs w. i.idle y w;
    each = λ y low high differs. i.each y low (omega (arith, high, differs));
    times_is = times_none (next_xid old) h unsent;
    drops = begins 0 _ refl;
  };
  tried = untried refl unsent;
})
  where
    unsent : (j : ℕ) (b : List ℕ) → At h j (Sent b) → HasXid b (next_xid old) → ⊥
    unsent j b at has = let w = i.base.sent.among j (next_xid old) b at has in omega (arith, w.1)

-- the terms after making a call and its exchange
exchanged_next : (call : Call) (old mid new : Held (Unit {0})) → Makes call old mid → KeepsCalls mid new → (new.first_xid ≡ old.first_xid) × (new.made ≡ old.made + 1)
exchanged_next call old mid new m k = (k.first_xid ∙ ap (λ (c : Held (Unit {0})). c.first_xid) m.is, k.made ∙ ap (λ (c : Held (Unit {0})). c.made) m.is)

-- ---- the mount

pub mount_undialed : (path : List ℕ) (old : Held (Unit {0})) (stop : Stop) (h k : List Entry) → Connects (Err stop) h k → Mounts path old old (Err (fault_after stop 0)) h k
mount_undialed path old stops.Lost h k con empty none unmade =
    let i = idle_connects (Mounting path) old (Err stops.Lost) h k con (idle_apart (Mounting path) old h none unmade empty) in
    record {
      lost = record { base = i.base; loses = con.lost; counts = sym (tally_none (Mounting path) old k (omega (arith, unmade)) i.base) };
      unheard = λ other xid bytes heard. let w = i.base.sent.among heard.sent_at xid heard.record_sent heard.sent.sent heard.sent.under in omega (arith, w.0, w.1, unmade);
    }
mount_undialed path old stops.Memory h k con empty none unmade =
    (idle_connects (Mounting path) old (Err stops.Memory) h k con (idle_apart (Mounting path) old h none unmade empty)).base

pub mount_unmade : (path : List ℕ) (old new : Held (Unit {0})) (h k : List Entry) → KeepsTerms old new → Connects (Ok tt) h k → Mounts path old new (Err Memory) h k
mount_unmade path old new h k keeps con empty none unmade =
    base_terms (Mounting path) old new k keeps (idle_connects (Mounting path) old (Ok tt) h k con (idle_apart (Mounting path) old h none unmade empty)).base

-- MNT is due
mount_due : (path : List ℕ) (old mid : Held (Unit {0})) (h k : List Entry) (m : Makes (mount_call path) old mid) → Connects (Ok tt) h k → ours h ≡ [] → old.calls ≡ [] → old.made ≡ 0 → IsDue (Mounting path) (next_xid old) m.bytes 0 0 mid k
mount_due path old mid h k m con empty none unmade =
    made_due (Mounting path) (mount_call path) old mid k m (idle_connects (Mounting path) old (Ok tt) h k con (idle_apart (Mounting path) old h none unmade empty))
    (mounts path refl refl (omega (arith, unmade)))

pub mount_lost : (path : List ℕ) (old mid new : Held (Unit {0})) (stop : Stop) (h k l : List Entry) → Makes (mount_call path) old mid → KeepsCalls mid new → Connects (Ok tt) h k → Exchanges mid new (Err stop) k l
    → Mounts path old new (Err (fault_after stop 0)) h l
mount_lost path old mid new stops.Memory h k l m keeps con ex empty none unmade = ex (Mounting path) (next_xid old) m.bytes (mount_due path old mid h k m con empty none unmade)
mount_lost path old mid new stops.Lost h k l m keeps con ex empty none unmade =
    let s = ex (Mounting path) (next_xid old) m.bytes (mount_due path old mid h k m con empty none unmade) in
    let n = exchanged_next (mount_call path) old mid new m keeps in
    record {
      lost = record { base = s.base; loses = s.loses; counts = sym (tally_none (Mounting path) new l (omega (arith, unmade, n.1)) s.base) };
      unheard = λ other xid bytes heard.
          let w = s.base.sent.among heard.sent_at xid heard.record_sent heard.sent.sent heard.sent.under in
          let same : xid ≡ next_xid old = omega (arith, w.0, w.1, n.0, n.1, unmade) in
          s.unanswered heard.got_at bytes (subst (λ (x : ℕ). Rattle.world_model.specs.Waiting.Answers l heard.got_at x bytes) same heard.got);
    }

pub mount_answered : (path bytes : List ℕ) (old mid new : Held (Unit {0})) (result : Result (List ℕ) SetUpFault) (h k l : List Entry) → Makes (mount_call path) old mid → KeepsCalls mid new
    → ((x : ℕ) → HasXid bytes x → (other : List ℕ) → MountHeard x other bytes result) → Connects (Ok tt) h k → Exchanges mid new (Ok bytes) k l → Mounts path old new result h l
mount_answered path bytes old mid new result h k l m keeps says con ex empty none unmade = by_result result (says (next_xid old) s.under path)
  where
    s : IsAnswered (Mounting path) (next_xid old) m.bytes bytes new l
    s = ex (Mounting path) (next_xid old) m.bytes (mount_due path old mid h k m con empty none unmade)

    n : (new.first_xid ≡ old.first_xid) × (new.made ≡ old.made + 1)
    n = exchanged_next (mount_call path) old mid new m keeps

    heard : Heard l 0 (length l) (mount_call path) (next_xid old) bytes
    heard = s.heard (mount_call path) m.spells.spells

    by_result : (result : Result (List ℕ) SetUpFault) → MountHeard (next_xid old) path bytes result → MountsTo path new result l
    by_result (Ok root) says = record {
      idle = s.idle;
      next = omega (arith, n.1, unmade);
      rooted = (says.0, record { xid = next_xid old; bytes = bytes; heard = heard; spells = says.1 });
    }
    by_result (Err (Refused fault)) says = record { base = s.idle.base; refused = record { xid = next_xid old; bytes = bytes; heard = heard; refuses = says } }
    by_result (Err (Lost tally)) says = absurd says
    by_result (Err Memory) says = s.idle.base

-- ---- the sizes

-- the root stays known
pub rooted_on : (o : Origin) (h k : List Entry) (root : List ℕ) → Extends h k → Rooted o h (length h) root → Rooted o k (length h) root
rooted_on o h k root e r = subst (λ (t : List Entry). Rooted o t (length h) root) (sym e.is) (Rooted-grow o h e.more (length h) root r)

extends_longer : (h k : List Entry) → Extends h k → length h ≤ length k
extends_longer h k e = subst (λ (t : List Entry). length h ≤ length t) (sym e.is) (let l = Rattle.std.proofs.lemmas.List.length-append h e.more in omega (arith, l))

pub rooted_later : (o : Origin) (h k : List Entry) (root : List ℕ) → Extends h k → Rooted o h (length h) root → Rooted o k (length k) root
rooted_later o h k root e r = Rooted-wide o k (length h) (length k) root (extends_longer h k e) (rooted_on o h k root e r)

pub inform_undialed : (root : List ℕ) (rsize wsize : ℕ) (old : Held (Unit {0})) (stop : Stop) (h k : List Entry) → Connects (Err stop) h k → Informs root rsize wsize old old (Err (fault_after stop 0)) h k
inform_undialed root rsize wsize old stops.Lost h k con o idle rooted next =
    let i = idle_connects o old (Err stops.Lost) h k con idle in
    record { base = i.base; loses = con.lost; counts = sym (tally_none o old k (omega (arith, next)) i.base) }
inform_undialed root rsize wsize old stops.Memory h k con o idle rooted next = (idle_connects o old (Err stops.Memory) h k con idle).base

pub inform_unmade : (root : List ℕ) (rsize wsize : ℕ) (old new : Held (Unit {0})) (h k : List Entry) → KeepsTerms old new → Connects (Ok tt) h k → Informs root rsize wsize old new (Err Memory) h k
inform_unmade root rsize wsize old new h k keeps con o idle rooted next = base_terms o old new k keeps (idle_connects o old (Ok tt) h k con idle).base

inform_due : (o : Origin) (root : List ℕ) (old mid : Held (Unit {0})) (h k : List Entry) (m : Makes (info_call root) old mid) → Extends h k → Connects (Ok tt) h k → IsIdle o old h → Rooted o h (length h) root
    → next_xid old ≡ info_xid o old.first_xid → IsDue o (next_xid old) m.bytes 0 0 mid k
inform_due o root old mid h k m e con idle rooted next =
    made_due o (info_call root) old mid k m (idle_connects o old (Ok tt) h k con idle) (informs root (rooted_later o h k root e rooted) refl next)

-- FSINFO was sent
inform_counts : (o : Origin) (root : List ℕ) (old mid new : Held (Unit {0})) (l : List Entry) → Makes (info_call root) old mid → KeepsCalls mid new → next_xid old ≡ info_xid o old.first_xid → WasSent l (next_xid old) (length l)
    → IsBase o new l → tally_of l ≡ tally_after 1
inform_counts o root old mid new l m keeps next was base =
    let n = exchanged_next (info_call root) old mid new m keeps in
    tally_one o new l (subst (λ (x : ℕ). WasSent l x (length l)) (next ∙ ap (info_xid o) (sym n.0)) was) base

pub inform_lost : (root : List ℕ) (rsize wsize : ℕ) (old mid new : Held (Unit {0})) (stop : Stop) (h k l : List Entry) → Makes (info_call root) old mid → KeepsCalls mid new → Extends h k → Connects (Ok tt) h k
    → Exchanges mid new (Err stop) k l → Informs root rsize wsize old new (Err (fault_after stop 1)) h l
inform_lost root rsize wsize old mid new stops.Memory h k l m keeps e con ex o idle rooted next = ex o (next_xid old) m.bytes (inform_due o root old mid h k m e con idle rooted next)
inform_lost root rsize wsize old mid new stops.Lost h k l m keeps e con ex o idle rooted next =
    let s = ex o (next_xid old) m.bytes (inform_due o root old mid h k m e con idle rooted next) in
    record { base = s.base; loses = s.loses; counts = sym (inform_counts o root old mid new l m keeps next s.was_sent s.base) }

pub inform_answered : (root bytes : List ℕ) (rsize wsize : ℕ) (old mid new : Held (Unit {0})) (named : Result Greatest Fault) (v : Sizes) (h k l : List Entry) → Makes (info_call root) old mid → KeepsCalls mid new
    → ((x : ℕ) → HasXid bytes x → (other : List ℕ) → InfoHeard x other bytes named) → SizedBy rsize wsize named v → Extends h k → Connects (Ok tt) h k → Exchanges mid new (Ok bytes) k l
    → Informs root rsize wsize old new (Ok v) h l
inform_answered root bytes rsize wsize old mid new named v h k l m keeps says sized e con ex o idle rooted next = by_named named (says (next_xid old) s.under root) sized
  where
    s : IsAnswered o (next_xid old) m.bytes bytes new l
    s = ex o (next_xid old) m.bytes (inform_due o root old mid h k m e con idle rooted next)

    heard : Heard l 0 (length l) (info_call root) (next_xid old) bytes
    heard = s.heard (info_call root) m.spells.spells

    n : (new.first_xid ≡ old.first_xid) × (new.made ≡ old.made + 1)
    n = exchanged_next (info_call root) old mid new m keeps

    tally : tally_of l ≡ tally_after 1
    tally = inform_counts o root old mid new l m keeps next (s.idle.each (next_xid old) (omega (arith, n.0)) (omega (arith, n.0, n.1))) s.idle.base

    by_named : (named : Result Greatest Fault) → InfoHeard (next_xid old) root bytes named → SizedBy rsize wsize named v → IsInformed o root rsize wsize v new l
    by_named (Ok g) says sized = record {
      idle = s.idle;
      read = read_told says.attr g.rtmax says.rtpref says.rtmult g.wtmax says.wtpref says.wtmult says.dtpref says.maxfilesize says.delta says.properties
          (record { xid = next_xid old; bytes = bytes; heard = heard; spells = says.spells }) sized.0;
      write = told says.attr g.rtmax says.rtpref says.rtmult g.wtmax says.wtpref says.wtmult says.dtpref says.maxfilesize says.delta says.properties
          (record { xid = next_xid old; bytes = bytes; heard = heard; spells = says.spells }) sized.1;
      tally = tally;
    }
    by_named (Err fault) says sized = record {
      idle = s.idle;
      read = read_untold fault (record { xid = next_xid old; bytes = bytes; heard = heard; refuses = says }) sized.0;
      write = untold fault (record { xid = next_xid old; bytes = bytes; heard = heard; refuses = says }) sized.1;
      tally = tally;
    }
