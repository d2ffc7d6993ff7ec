-- From the mount and the sizes to the set-up.
use Rattle.std.proofs.Common.{◌≡◌, ◌≤◌, ℕ, List, [], Result, Ok, Err, refl, sym, ap, subst, ◌∙◌, arith}
use Rattle.rpc_retry.specs.Held.{Held, next_xid}
use Rattle.world_model.specs.declared.entry.Entry.{Entry}
use Rattle.world_model.specs.Entries.{ours}
use Rattle.world_model.specs.declared.message.Call.{Call}
use Rattle.claims.specs.CallsAsked.{mount, inform}
use Rattle.world_model.specs.Messages.{SpellsCall}
use Rattle.world_model.specs.Mounts.{Origin, Mounting, Given}
use Rattle.link_dials.specs.Dials.{SendsTo, Reaches}
use Rattle.link_dials.specs.Sendings.{GoesToPorts}
use Rattle.session_words.specs.declared.settings.Export.TheVariants as exports
use Rattle.session_words.specs.declared.settings.Settings.{Settings}
use Rattle.session_setup.specs.declared.opening.SetUp.{SetUp}
use Rattle.session_setup.specs.declared.opening.SetUpFault.{SetUpFault}
use Rattle.session_setup.specs.declared.opening.SetUpFault.TheVariants.{Refused, Lost, Memory}
use Rattle.session_setup.specs.declared.sizes.Sizes.{Sizes}
use Rattle.session_setup.specs.Along.{Extends}
use Rattle.session_setup.specs.Exchanges.{IsBase, IsIdle}
use Rattle.session_setup.specs.Origins.{origin_of}
use Rattle.session_setup.specs.Outcomes.{IsOptions, rooted, unheard, ServedAt, SetsUp, EndsSo}
use Rattle.session_setup.specs.Phases.{KeepsTerms, tally_after, IsMounted, Mounts, MountsTo, Informs, FinishesTo, Finishes}
use Rattle.session_setup.specs.Sendings.{Single}
use Rattle.session_setup.proofs.Calls.{mount_xid, info_xid_is}
use Rattle.session_setup.proofs.Dials.{ports_tried, ports_mounted, ports_given}
use Rattle.session_setup.proofs.Phases.{rooted_later, idle_apart}

-- ---- MNT and FSINFO have one xid each

single_of : (o : Origin) (c : Held (Unit {0})) (h : List Entry) → IsBase o c h → Single h
single_of o c h base i j x y a b call other at bt s t (mount path its_path e f) =
    mount_xid o c.cred c.first_xid h i a x path (base.sent.caused i a at) (subst (λ (k : Call). SpellsCall x k a) e s)
    ∙ sym (mount_xid o c.cred c.first_xid h j b y its_path (base.sent.caused j b bt) (subst (λ (k : Call). SpellsCall y k b) f t))
single_of o c h base i j x y a b call other at bt s t (inform root its_root e f) =
    info_xid_is o c.cred c.first_xid h i a x root (base.sent.caused i a at) (subst (λ (k : Call). SpellsCall x k a) e s)
    ∙ sym (info_xid_is o c.cred c.first_xid h j b y its_root (base.sent.caused j b bt) (subst (λ (k : Call). SpellsCall y k b) f t))

-- ---- the sizes are known

pub finish_ok : (root : List ℕ) (s : Settings) (old new : Held (Unit {0})) (sizes : Sizes) (left : ℕ) (h k : List Entry) → Extends h k → Informs root s.rsize s.wsize old new (Ok sizes) h k
    → Finishes root s old new (Ok (record { root = root; rsize = sizes.rsize; wsize = sizes.wsize; next_xid = next_xid new; left = left; tally = tally_after 1 })) h k
finish_ok root s old new sizes left h k e i o idle known next =
    let w = i o idle known next in
    record { idle = w.idle; rooted = rooted_later o h k root e known; read = w.read; write = w.write; next = refl; tally = sym w.tally }

pub finish_err : (root : List ℕ) (s : Settings) (old new : Held (Unit {0})) (fault : SetUpFault) (h k : List Entry) → Extends h k → Informs root s.rsize s.wsize old new (Err fault) h k → Finishes root s old new (Err fault) h k
finish_err root s old new (Refused fault) h k e i o idle known next = i o idle known next
finish_err root s old new (Lost tally) h k e i o idle known next = (i o idle known next, rooted_later o h k root e known)
finish_err root s old new Memory h k e i o idle known next = i o idle known next

-- ---- the whole

-- what the calls hold at the end, against what the session was given
pub record IsGiven (s : Settings) (first : ℕ) (c : Held (Unit {0})) : Type 0 where
  pub first_xid : c.first_xid ≡ first
  pub cred : c.cred ≡ s.cred
  pub made : c.made ≤ 2

-- no call was made yet
abbrev pub fresh_calls : Settings → ℕ → Held (Unit {0})
fresh_calls s first = record { first_xid = first; limit = s.calls; cred = s.cred; made = 0; calls = [] }

pub given_once : (s : Settings) (first : ℕ) (old new : Held (Unit {0})) → old ≡ fresh_calls s first → KeepsTerms old new → IsGiven s first new
given_once s first old new e k =
    let made : old.made ≡ 0 = ap (λ (c : Held (Unit {0})). c.made) e in
    record { first_xid = k.first_xid ∙ ap (λ (c : Held (Unit {0})). c.first_xid) e; cred = k.cred ∙ ap (λ (c : Held (Unit {0})). c.cred) e; made = omega (arith, k.most, made) }

pub given_twice : (s : Settings) (first : ℕ) (old mid new : Held (Unit {0})) → old ≡ fresh_calls s first → KeepsTerms old mid → KeepsTerms mid new → IsGiven s first new
given_twice s first old mid new e j k =
    let made : old.made ≡ 0 = ap (λ (c : Held (Unit {0})). c.made) e in
    record {
      first_xid = k.first_xid ∙ j.first_xid ∙ ap (λ (c : Held (Unit {0})). c.first_xid) e;
      cred = k.cred ∙ j.cred ∙ ap (λ (c : Held (Unit {0})). c.cred) e;
      made = omega (arith, j.most, k.most, made);
    }

pub fresh_none : (s : Settings) (first : ℕ) (old : Held (Unit {0})) → old ≡ fresh_calls s first → old.calls ≡ []
fresh_none s first old e = ap (λ (c : Held (Unit {0})). c.calls) e

pub fresh_made : (s : Settings) (first : ℕ) (old : Held (Unit {0})) → old ≡ fresh_calls s first → old.made ≡ 0
fresh_made s first old e = ap (λ (c : Held (Unit {0})). c.made) e

sets_up_by : (s : Settings) (first : ℕ) (result : Result SetUp SetUpFault) (c : Held (Unit {0})) (k : List Entry) → IsOptions s → IsGiven s first c → IsBase (origin_of s.export) c k
    → GoesToPorts s.mount_port s.nfs_port k → ServedAt s.nfs_port result k → EndsSo s first (next_xid c) result k → SetsUp s first result k
sets_up_by s first result c k options given base ports served ends = record {
  next = next_xid c;
  within = omega (arith, given.first_xid, given.made, options.calls);
  sent = rw (sym given.first_xid, sym given.cred) base.sent;
  single = single_of (origin_of s.export) c k base;
  unmarked = base.unmarked;
  ports = ports;
  served = served;
  ends = ends;
}

-- once the root is known
module _ (s : Settings) (first : ℕ) (root : List ℕ) (c : Held (Unit {0})) (h k : List Entry) (options : IsOptions s) (given : IsGiven s first c)
    (ports : IsBase (origin_of s.export) c k → SendsTo s.nfs_port h k → GoesToPorts s.mount_port s.nfs_port k) where
  ends_finished : (result : Result SetUp SetUpFault) → FinishesTo (origin_of s.export) root s c result k → Reaches s.nfs_port result h k → SetsUp s first result k
  ends_finished (Ok v) f r =
      sets_up_by s first (Ok v) c k options given f.idle.base (ports f.idle.base r.0) r.1
      (record { rooted = f.rooted; read = f.read; write = f.write; next_is = f.next; each = rw (sym given.first_xid) f.idle.each; idle = f.idle.idle; tally = f.tally })
  ends_finished (Err (Refused fault)) f r = absurd f
  ends_finished (Err (Lost tally)) f r =
      sets_up_by s first (Err (Lost tally)) c k options given f.0.base (ports f.0.base r) tt (record { loses = f.0.loses; counts = f.0.counts; unrefused = rooted root f.1 })
  ends_finished (Err Memory) f r = sets_up_by s first (Err Memory) c k options given f (ports f r) tt tt

-- the root is given
pub sets_up_given : (s : Settings) (first : ℕ) (root : List ℕ) (result : Result SetUp SetUpFault) (old new : Held (Unit {0})) (h k : List Entry) → s.export ≡ exports.Root root → IsOptions s → IsGiven s first new → old.calls ≡ [] → old.made ≡ 0
    → Finishes root s old new result h k → Reaches s.nfs_port result h k → ours h ≡ [] → SetsUp s first result k
sets_up_given s first root result old new h k is options given none zero f r empty =
    let w = f (Given root) (idle_apart (Given root) old h none zero empty) refl (omega (arith, zero)) in
    ends_finished s first root new h k options given ports result (subst (λ (o : Origin). FinishesTo o root s new result k) (sym same) w) r
  where
    same : origin_of s.export ≡ Given root
    same = ap origin_of is

    ports : IsBase (origin_of s.export) new k → SendsTo s.nfs_port h k → GoesToPorts s.mount_port s.nfs_port k
    ports base sends = ports_given s.mount_port s.nfs_port root new h k empty (subst (λ (o : Origin). IsBase o new k) same base) sends

-- the path is mounted
pub sets_up_mounted : (s : Settings) (first : ℕ) (path root : List ℕ) (result : Result SetUp SetUpFault) (old mid new : Held (Unit {0})) (h k l : List Entry) → s.export ≡ exports.Path path → IsOptions s → IsGiven s first new → old.calls ≡ []
    → old.made ≡ 0 → Mounts path old mid (Ok root) h k → SendsTo s.mount_port h k → Finishes root s mid new result k l → Reaches s.nfs_port result k l → Extends k l → ours h ≡ []
    → SetsUp s first result l
sets_up_mounted s first path root result old mid new h k l is options given none zero m sends f r ext empty =
    let v = f (Mounting path) w.idle w.rooted w.next in
    ends_finished s first root new k l options given ports result (subst (λ (o : Origin). FinishesTo o root s new result l) (sym same) v) r
  where
    same : origin_of s.export ≡ Mounting path
    same = ap origin_of is

    w : IsMounted path root mid k
    w = m empty none zero

    tried : GoesToPorts s.mount_port s.nfs_port k
    tried = ports_tried s.mount_port s.nfs_port path (Ok root) mid h k empty (let n = w.next in omega (arith, n)) w sends

    ports : IsBase (origin_of s.export) new l → SendsTo s.nfs_port k l → GoesToPorts s.mount_port s.nfs_port l
    ports base more = ports_mounted s.mount_port s.nfs_port path root new k l ext w.rooted (subst (λ (o : Origin). IsBase o new l) same base) tried more

-- it isn't
pub sets_up_unmounted : (s : Settings) (first : ℕ) (path : List ℕ) (fault : SetUpFault) (old new : Held (Unit {0})) (h k : List Entry) → s.export ≡ exports.Path path → IsOptions s → IsGiven s first new → old.calls ≡ [] → old.made ≡ 0
    → KeepsTerms old new → Mounts path old new (Err fault) h k → SendsTo s.mount_port h k → ours h ≡ [] → SetsUp s first (Err fault) k
sets_up_unmounted s first path fault old new h k is options given none zero keeps m sends empty = by_fault fault m sends
  where
    same : origin_of s.export ≡ Mounting path
    same = ap origin_of is

    base_is : IsBase (Mounting path) new k → IsBase (origin_of s.export) new k
    base_is b = subst (λ (o : Origin). IsBase o new k) (sym same) b

    ports : (fault : SetUpFault) → MountsTo path new (Err fault) k → SendsTo s.mount_port h k → GoesToPorts s.mount_port s.nfs_port k
    ports fault w sends = ports_tried s.mount_port s.nfs_port path (Err fault) new h k empty (let n = keeps.most in omega (arith, n, zero)) w sends

    by_fault : (fault : SetUpFault) → Mounts path old new (Err fault) h k → SendsTo s.mount_port h k → SetsUp s first (Err fault) k
    by_fault (Refused fault) m sends =
        let w = m empty none zero in
        sets_up_by s first (Err (Refused fault)) new k options given (base_is w.base) (ports (Refused fault) w sends) tt (record { path = path; mounting = is; refused = w.refused })
    by_fault (Lost tally) m sends =
        let w = m empty none zero in
        sets_up_by s first (Err (Lost tally)) new k options given (base_is w.lost.base) (ports (Lost tally) w sends) tt (record { loses = w.lost.loses; counts = w.lost.counts; unrefused = unheard w.unheard })
    by_fault Memory m sends =
        let w = m empty none zero in
        sets_up_by s first (Err Memory) new k options given (base_is w) (ports Memory w sends) tt tt
