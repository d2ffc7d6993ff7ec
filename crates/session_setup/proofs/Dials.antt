-- Where the records of a session's set-up go: MNT to the port of MOUNT, and FSINFO to that of NFS.
use Rattle.std.proofs.Common.{inl, inr, ◌⊎◌, ◌≡◌, ◌≤◌, ◌<◌, ◌+◌, ℕ, zero, suc, List, [], ◌∷◌, ◌++◌, length, Option, Some, None, Result, Ok, Err, refl, sym, ap, subst, ◌∙◌, arith}
use Rattle.rpc_message.specs.declared.cred.Cred.{Cred}
use Rattle.rpc_retry.specs.Held.{Held, next_xid}
use Rattle.world_model.specs.declared.entry.Entry.{Entry}
use Rattle.world_model.specs.declared.entry.Entry.TheVariants.{Sent}
use Rattle.world_model.specs.declared.message.Call.{Call}
use Rattle.world_model.specs.declared.message.Call.TheVariants as calls
use Rattle.world_model.specs.Entries.{At, ours}
use Rattle.world_model.specs.History.{History}
use Rattle.world_model.specs.Messages.{SpellsCall, program_of}
use Rattle.world_model.specs.Mounts.{Origin, Mounting, Given, Rooted, mount_call, info_call}
use Rattle.world_model.specs.Told.{Relates}
use Rattle.link_dials.specs.Dials.{Dials, DialsOnly, SendsTo, Reaches}
use Rattle.link_dials.specs.Sendings.{DialedLast, port_for, GoesToPorts}
use Rattle.link_dials.proofs.Ports.{behind, sends-none, sends-over, sends-then, ports-none, ports-mount, ports-then}
use Rattle.session_setup.specs.declared.opening.SetUpFault.{SetUpFault}
use Rattle.session_setup.specs.declared.opening.SetUpFault.TheVariants.{Refused, Lost, Memory}
use Rattle.session_setup.specs.declared.stop.Stop.{Stop}
use Rattle.session_setup.specs.Along.{Extends, Along}
use Rattle.session_setup.specs.Exchanges.{AreStill, Connects, IsBase}
use Rattle.session_setup.specs.Phases.{KeepsTerms, MountsTo}
use Rattle.session_setup.specs.Sendings.{IsSetUpCall, mounts, informs, IsSetUpRecord, info_xid}
use Rattle.session_setup.proofs.Bases.{xid_of_call}
use Rattle.session_setup.proofs.Calls.{heads_same, same_program, mount_xid}
use Rattle.session_setup.proofs.Phases.{rooted_on}
use Rattle.session_setup.proofs.Stills.{plain_still}

-- ---- what a link tells

-- beside what is so of the calls another thing is
pub along_with : (a b : Option History) (R S : List Entry → List Entry → Type 0) → Along a b R → Relates a b S → Along a b (λ h k. R h k × S h k)
along_with None b R S p q = tt
along_with (Some a) None R S p q = absurd p
along_with (Some a) (Some b) R S p q = (p.0, (p.1, q))

-- connecting sends nothing
still-sends : (more : List Entry) (i : ℕ) (bytes : List ℕ) → AreStill more → At more i (Sent bytes) → ⊥
still-sends [] i bytes s at = absurd cc
still-sends (e ∷ more) zero bytes s at = (plain_still e s.0).mute bytes (first at)
  where
    first : At (e ∷ more) 0 (Sent bytes) → e ≡ Sent bytes
    first at = cc
still-sends (e ∷ more) (suc i) bytes s at = still-sends more i bytes s.1 at

connect-sends : (port : ℕ) (result : Result (Unit {0}) Stop) (h k : List Entry) → Connects result h k → Dials port h k → SendsTo port h k
connect-sends port result h k con d =
    sends-none port h k d (λ i bytes at low.
    let b = behind h con.more i (Sent bytes) (subst (λ (l : List Entry). At l i (Sent bytes)) con.is at) low in
    still-sends con.more b.0 bytes con.still b.1)

pub reaches_ok : (port : ℕ) (a b : Option History) → Along a b (Connects (Ok tt)) → DialsOnly port a b → Relates a b (λ h k. DialedLast k (length k) port)
    → Relates a b (λ h k. SendsTo port h k × DialedLast k (length k) port)
reaches_ok port None b con d last = tt
reaches_ok port (Some a) None con d last = absurd d
reaches_ok port (Some a) (Some b) con d last = (connect-sends port (Ok tt) a.entries b.entries con.1 d, last)

pub reaches_err : (port : ℕ) (stop : Stop) (a b : Option History) → Along a b (Connects (Err stop)) → DialsOnly port a b → Relates a b (SendsTo port)
reaches_err port stop None b con d = tt
reaches_err port stop (Some a) None con d = absurd d
reaches_err port stop (Some a) (Some b) con d = connect-sends port (Err stop) a.entries b.entries con.1 d

any-reaches : {T E : Type 0} → (port : ℕ) (result : Result T E) (h k : List Entry) → SendsTo port h k → DialedLast k (length k) port → Reaches port result h k
any-reaches port (Ok x) h k s l = (s, l)
any-reaches port (Err e) h k s l = s

-- the exchange that follows
pub reaches_over : {T E : Type 0} → (port : ℕ) (result : Result T E) (a b c : Option History) → Relates a b (λ h k. SendsTo port h k × DialedLast k (length k) port) → DialsOnly port b c
    → Relates a c (Reaches port result)
reaches_over port result None b c p d = tt
reaches_over port result (Some a) None c p d = absurd p
reaches_over port result (Some a) (Some b) None p d = absurd d
reaches_over port result (Some a) (Some b) (Some c) p d =
    let o = sends-over port b.entries c.entries p.1 d in
    any-reaches port result a.entries c.entries (sends-then port a.entries b.entries c.entries p.0 o.0) o.1

-- where it succeeds, and where it doesn't
pub reaches_over_ok : (port : ℕ) (a b c : Option History) → Relates a b (λ h k. SendsTo port h k × DialedLast k (length k) port) → DialsOnly port b c
    → Relates a c (λ h k. SendsTo port h k × DialedLast k (length k) port)
reaches_over_ok port a b c p d = reaches_over {T = Unit {0}} {E = Unit {0}} port (Ok tt) a b c p d

pub reaches_over_err : (port : ℕ) (a b c : Option History) → Relates a b (λ h k. SendsTo port h k × DialedLast k (length k) port) → DialsOnly port b c → Relates a c (SendsTo port)
reaches_over_err port a b c p d = reaches_over {T = Unit {0}} {E = Unit {0}} port (Err tt) a b c p d

-- no exchange follows
pub reaches_less : (port : ℕ) (a b : Option History) → Relates a b (λ h k. SendsTo port h k × DialedLast k (length k) port) → Relates a b (SendsTo port)
reaches_less port None b p = tt
reaches_less port (Some a) None p = absurd p
reaches_less port (Some a) (Some b) p = p.0

-- ---- the program of a record

mount-port : (mount nfs : ℕ) (call : Call) (path : List ℕ) → program_of call ≡ program_of (mount_call path) → port_for mount nfs call ≡ mount
mount-port mount nfs (calls.File call) path e = absurd (omega (arith, e))
mount-port mount nfs (calls.Dir call) path e = absurd (omega (arith, e))
mount-port mount nfs (calls.Mount call) path e = refl

nfs-port : (mount nfs : ℕ) (call : Call) (root : List ℕ) → program_of call ≡ program_of (info_call root) → port_for mount nfs call ≡ nfs
nfs-port mount nfs (calls.File call) root e = refl
nfs-port mount nfs (calls.Dir call) root e = refl
nfs-port mount nfs (calls.Mount call) root e = absurd (omega (arith, e))

-- a record that was sent is under the xid of its call
xid-same : (o : Origin) (c : Held (Unit {0})) (h : List Entry) (i xid : ℕ) (call : Call) (bytes : List ℕ) (r : IsSetUpRecord o c.cred c.first_xid h i bytes)
    → SpellsCall xid call bytes → program_of call ≡ program_of r.call
xid-same o c h i xid call bytes r spells = same_program _ _ (heads_same xid r.xid call r.call bytes spells r.made.spells)

-- while MNT is the only call
mount-only : (mount nfs : ℕ) (path : List ℕ) (c : Held (Unit {0})) (h : List Entry) → c.made ≤ 1 → IsBase (Mounting path) c h
    → (i xid : ℕ) (call : Call) (bytes : List ℕ) → At h i (Sent bytes) → SpellsCall xid call bytes → port_for mount nfs call ≡ mount
mount-only mount nfs path c h few base i xid call bytes at spells = by_call r.is
  where
    r : IsSetUpRecord (Mounting path) c.cred c.first_xid h i bytes
    r = base.sent.caused i bytes at

    by_call : IsSetUpCall (Mounting path) c.first_xid h i r.xid r.call → port_for mount nfs call ≡ mount
    by_call (mounts other a is e) = mount-port mount nfs call other (xid-same (Mounting path) c h i xid call bytes r spells ∙ ap program_of is)
    by_call (informs root a is e) =
        let low = (base.sent.among i r.xid bytes at (xid_of_call r.xid r.call bytes r.made.spells)).1 in
        absurd (omega (arith, e, low, few))

-- where the root is given FSINFO is
given-only : (mount nfs : ℕ) (root : List ℕ) (c : Held (Unit {0})) (h : List Entry) → IsBase (Given root) c h
    → (i xid : ℕ) (call : Call) (bytes : List ℕ) → At h i (Sent bytes) → SpellsCall xid call bytes → port_for mount nfs call ≡ nfs
given-only mount nfs root c h base i xid call bytes at spells = by_call r.is
  where
    r : IsSetUpRecord (Given root) c.cred c.first_xid h i bytes
    r = base.sent.caused i bytes at

    by_call : IsSetUpCall (Given root) c.first_xid h i r.xid r.call → port_for mount nfs call ≡ nfs
    by_call (mounts other a is e) = absurd (never other a)
      where
        never : (other : List ℕ) → Given root ≡ Mounting other → ⊥
        never other a = cc
    by_call (informs its a is e) = nfs-port mount nfs call its (xid-same (Given root) c h i xid call bytes r spells ∙ ap program_of is)

-- MNT isn't sent once its reply came
after-mount : (mount nfs : ℕ) (path root : List ℕ) (c : Held (Unit {0})) (h k : List Entry) → Extends h k → Rooted (Mounting path) h (length h) root → IsBase (Mounting path) c k
    → (i xid : ℕ) (call : Call) (bytes : List ℕ) → At k i (Sent bytes) → length h ≤ i → SpellsCall xid call bytes → port_for mount nfs call ≡ nfs
after-mount mount nfs path root c h k ext rooted base i xid call bytes at low spells = by_call r.is
  where
    r : IsSetUpRecord (Mounting path) c.cred c.first_xid k i bytes
    r = base.sent.caused i bytes at

    by_call : IsSetUpCall (Mounting path) c.first_xid k i r.xid r.call → port_for mount nfs call ≡ nfs
    by_call (informs its a is e) = nfs-port mount nfs call its (xid-same (Mounting path) c k i xid call bytes r spells ∙ ap program_of is)
    by_call (mounts other a is e) =
        let asked = (rooted_on (Mounting path) h k root ext rooted).1 in
        let heard = asked.heard in
        let first = mount_xid (Mounting path) c.cred c.first_xid k heard.sent_at heard.record_sent asked.xid path (base.sent.caused heard.sent_at heard.record_sent heard.sent.sent) heard.spells in
        let under = subst (λ (x : ℕ). Rattle.world_model.specs.Messages.HasXid bytes x) (e ∙ sym first) (xid_of_call r.xid r.call bytes r.made.spells) in
        let late = base.sent.unrepeated heard.got_at i asked.xid asked.bytes bytes heard.got at under in
        absurd (omega (arith, late, heard.before, low))

-- ---- the ports of a set-up

base_of : (path : List ℕ) (c : Held (Unit {0})) (result : Result (List ℕ) SetUpFault) (k : List Entry) → MountsTo path c result k → IsBase (Mounting path) c k
base_of path c (Ok root) k m = m.idle.base
base_of path c (Err (Refused fault)) k m = m.base
base_of path c (Err (Lost tally)) k m = m.lost.base
base_of path c (Err Memory) k m = m

-- the mount was tried, and nothing after it
pub ports_tried : (mount nfs : ℕ) (path : List ℕ) (result : Result (List ℕ) SetUpFault) (c : Held (Unit {0})) (h k : List Entry) → ours h ≡ [] → c.made ≤ 1 → MountsTo path c result k
    → SendsTo mount h k → GoesToPorts mount nfs k
ports_tried mount nfs path result c h k apart few m s = ports-mount mount nfs h k apart s (mount-only mount nfs path c k few (base_of path c result k m))

-- the sizes were asked for after it
pub ports_mounted : (mount nfs : ℕ) (path root : List ℕ) (c : Held (Unit {0})) (k l : List Entry) → Extends k l → Rooted (Mounting path) k (length k) root → IsBase (Mounting path) c l
    → GoesToPorts mount nfs k → SendsTo nfs k l → GoesToPorts mount nfs l
ports_mounted mount nfs path root c k l ext rooted base p s = ports-then mount nfs k l p s (after-mount mount nfs path root c k l ext rooted base)

-- the root was given
pub ports_given : (mount nfs : ℕ) (root : List ℕ) (c : Held (Unit {0})) (h k : List Entry) → ours h ≡ [] → IsBase (Given root) c k → SendsTo nfs h k → GoesToPorts mount nfs k
ports_given mount nfs root c h k apart base s =
    ports-then mount nfs h k (ports-none mount nfs h apart) s (λ i xid call bytes at low spells. given-only mount nfs root c k base i xid call bytes at spells)
