-- What finding both ports shows, from what each call did.
use Rattle.std.proofs.Common.{inl, inr, ◌≡◌, ◌≤◌, ◌<◌, ◌+◌, ◌^◌, ℕ, suc, List, [], ◌∷◌, ◌++◌, length, Some, Result, Ok, Err, refl, sym, ap, subst, ◌∙◌, arith}
use Rattle.std.proofs.lemmas.List.{append-nil}
use Rattle.nfs_types.specs.declared.program.TheConstants.{NFS_PROGRAM, MOUNT_PROGRAM, PROGRAM_VERSION}
use Rattle.rpc_message.specs.declared.cred.Cred.TheVariants as creds
use Rattle.rpc_message.proofs.CallLaws.{call_xid}
use Rattle.rpc_message.proofs.Creds.{cred_none}
use Rattle.rpc_message.proofs.Written.{opening_written, program_written, call_written}
use Rattle.portmap_calls.specs.Mappings.{mapping_bytes}
use Rattle.portmap_calls.specs.Ports.{get_port_head}
use Rattle.world_model.specs.declared.entry.Entry.{Entry}
use Rattle.world_model.specs.declared.entry.Entry.TheVariants.{Began, Answered as WasAnswered, Dialed, Sent, Executed, Foreign, Flushed, Reboot, Delivered, Failed, Clock}
use Rattle.world_model.specs.Messages.{HasXid}
use Rattle.port_finder.specs.declared.halt.Halt.{Halt}
use Rattle.port_finder.specs.declared.halt.Halt.TheVariants as halts
use Rattle.port_finder.specs.declared.reply.Refusal.{Refusal}
use Rattle.port_finder.specs.declared.reply.Refusal.TheVariants as refusals
use Rattle.port_finder.specs.declared.finder.Ports.{Ports}
use Rattle.port_finder.specs.declared.finder.PortFault.{PortFault}
use Rattle.port_finder.specs.declared.finder.PortFault.TheVariants as faults
use Rattle.port_finder.specs.Talk.{Connects, Dials, Exchanges}
use Rattle.port_finder.specs.Found.{port_call, fault_by, Hears, Asks, IsSentElse, IsFor, AreFor, RunsFit, run_after, NoneSent, Calls, CallFor, for_mount, for_nfs, Replied, FoundSo, Ported}
use Rattle.port_finder.proofs.Parts.{for_then, sendings_then, run_then, runs_then, Part, Dialing, dialing_of, connecting, exchange_part}
use Rattle.port_finder.proofs.Losing.{AllAnswered, lost_by_dials, lost_after, answered_by, answered_grow, answered_behind, none_unanswered, all_answered}

-- ---- the two calls

pub port_call_xid : (x prog prot : ℕ) → x < 2 ^ 32 → HasXid (port_call x prog prot) x
port_call_xid x prog prot fits =
    let args : List ℕ = mapping_bytes (record { prog = prog; vers = PROGRAM_VERSION; prot = prot; port = 0 }) in
    call_xid (get_port_head x) args (port_call x prog prot)
    (call_written (get_port_head x) creds.None (opening_written x fits) (program_written 100000 2 3 (omega arith) (omega arith) (omega arith)) (cred_none creds.None refl) args)

two_numbers : (b : List ℕ) (x y : ℕ) → HasXid b x → HasXid b y → x ≡ y
two_numbers b x y p q = cc

other_xid : (x : ℕ) (b : List ℕ) → HasXid b x → HasXid b (x + 1) → ⊥
other_xid x b p q = let e = two_numbers b x (x + 1) p q in omega (arith, e)

-- entries of one call are under no other xid
none_else : (port y : ℕ) (call : List ℕ) (es : List Entry) → (HasXid call y → ⊥) → AreFor port call es → NoneSent y es
none_else port y call [] lacks p = tt
none_else port y call (e ∷ es) lacks p = (one e p.0, none_else port y call es lacks p.1)
  where
    one : (d : Entry) → IsFor port call d → IsSentElse y d
    one (Sent bytes) q = λ has. lacks (subst (λ (b : List ℕ). HasXid b y) q has)
    one (Dialed p) q = tt
    one (Delivered rec) q = tt
    one Failed q = tt
    one (Began lane line op) q = absurd q
    one (WasAnswered lane line answer) q = absurd q
    one (Executed xid call reply) q = absurd q
    one (Foreign call reply) q = absurd q
    one (Flushed file start count) q = absurd q
    one (Reboot verf) q = absurd q
    one (Clock ms) q = absurd q

-- ---- how an answer is reached

asks_part : (port xid prog prot : ℕ) (r : Result ℕ PortFault) (es : List Entry) → Asks port xid prog prot r es → Part port (port_call xid prog prot) 4 es
asks_part port xid prog prot (Ok found) es a = exchange_part port xid (port_call xid prog prot) (Ok a.rec) es a.exchanges
asks_part port xid prog prot (Err (faults.None p)) es a = let h = a.1 in exchange_part port xid (port_call xid prog prot) (Ok h.rec) es h.exchanges
asks_part port xid prog prot (Err (faults.Rpc p n)) es a = let h = a.1 in exchange_part port xid (port_call xid prog prot) (Ok h.rec) es h.exchanges
asks_part port xid prog prot (Err (faults.Bad p n)) es a = let h = a.1 in exchange_part port xid (port_call xid prog prot) (Ok h.rec) es h.exchanges
asks_part port xid prog prot (Err faults.Lost) es a = exchange_part port xid (port_call xid prog prot) (Err halts.Lost) es a
asks_part port xid prog prot (Err faults.Memory) es a = exchange_part port xid (port_call xid prog prot) (Err halts.Memory) es a

-- the reply to a call behind entries in which nothing is under its xid
replied_behind : (port xid prog prot x p : ℕ) (m : Result ℕ Refusal) (pre es : List Entry) → CallFor xid prot p x (port_call x prog prot) → NoneSent x pre → Hears port x (port_call x prog prot) m es → Replied xid prot p m (pre ++ es)
replied_behind port xid prog prot x p m pre es of none h = record {
  x = x;
  call = port_call x prog prot;
  rec = h.rec;
  of = of;
  answered = answered_behind pre es x (port_call x prog prot) h.rec none (answered_by port x (port_call x prog prot) h.rec es h.exchanges);
  means = h.means;
}

replied_grow : (xid prot p : ℕ) (m : Result ℕ Refusal) (es more : List Entry) → Replied xid prot p m es → Replied xid prot p m (es ++ more)
replied_grow xid prot p m es more r = record { x = r.x; call = r.call; rec = r.rec; of = r.of; answered = answered_grow es more r.x r.call r.rec r.answered; means = r.means }

-- why a call came to a fault
faulty : (port xid prog prot x : ℕ) (f : PortFault) (pre es : List Entry) → CallFor xid prot prog x (port_call x prog prot) → NoneSent x pre → AllAnswered pre → HasXid (port_call x prog prot) x → Asks port x prog prot (Err f) es
    → FoundSo xid prot (Err f) (pre ++ es)
faulty port xid prog prot x (faults.None p) pre es of none answered under a = rw (a.0) (replied_behind port xid prog prot x prog (Err refusals.None) pre es of none a.1)
faulty port xid prog prot x (faults.Rpc p n) pre es of none answered under a = rw (a.0) (replied_behind port xid prog prot x prog (Err (refusals.Rpc n)) pre es of none a.1)
faulty port xid prog prot x (faults.Bad p n) pre es of none answered under a = rw (a.0) (replied_behind port xid prog prot x prog (Err (refusals.Bad n)) pre es of none a.1)
faulty port xid prog prot x faults.Lost pre es of none answered under a = lost_after pre es port x (port_call x prog prot) answered under a
faulty port xid prog prot x faults.Memory pre es of none answered under a = tt

-- ---- what it all comes to

no_calls : (port : ℕ) (call : List ℕ) → Calls port call []
no_calls port call = record { for_it = tt; few = omega arith }

-- the first dials failed, or memory ran out
pub undialed_found : (port xid prot : ℕ) (h : Halt) (es : List Entry) → Dials port (Err h) es → Ported port xid prot (Err (fault_by h)) es
undialed_found port xid prot h es d =
    let k = dialing_of port (port_call xid MOUNT_PROGRAM prot) (Err h) es d in
    record {
      first = es;
      second = [];
      is = sym (append-nil es);
      mount = record { for_it = k.for_it; few = omega (arith, k.sent) };
      nfs = no_calls port (port_call (xid + 1) NFS_PROGRAM prot);
      runs = k.runs;
      so = by_halt h d;
    }
  where
    by_halt : (g : Halt) → Dials port (Err g) es → FoundSo xid prot (Err (fault_by g)) es
    by_halt halts.Lost e = rw e (lost_by_dials [] port)
    by_halt halts.Memory e = tt

-- dials, and the entries of the first call
dialed_calls : (port : ℕ) (call : List ℕ) (dials es : List Entry) → Connects port dials → Part port call 4 es → Calls port call (dials ++ es)
dialed_calls port call dials es d p =
    let k = connecting port call dials d in
    record { for_it = for_then port call dials es k.for_it p.for_it; few = omega (arith, sendings_then dials es, k.sent, p.sent) }

dialed_runs : (port : ℕ) (call : List ℕ) (dials es : List Entry) → Connects port dials → Part port call 4 es → RunsFit (dials ++ es) 0
dialed_runs port call dials es d p = let k = connecting port call dials d in runs_then dials es 0 k.runs (p.runs (run_after dials 0) k.left)

-- the first program's port wasn't found
pub first_found : (port xid prot : ℕ) (f : PortFault) (dials es : List Entry) → xid + 1 < 2 ^ 32 → Connects port dials → Asks port xid MOUNT_PROGRAM prot (Err f) es → Ported port xid prot (Err f) (dials ++ es)
first_found port xid prot f dials es fits d a =
    let call : List ℕ = port_call xid MOUNT_PROGRAM prot in
    let k = connecting port call dials d in
    let p = asks_part port xid MOUNT_PROGRAM prot (Err f) es a in
    record {
      first = dials ++ es;
      second = [];
      is = sym (append-nil (dials ++ es));
      mount = dialed_calls port call dials es d p;
      nfs = no_calls port (port_call (xid + 1) NFS_PROGRAM prot);
      runs = dialed_runs port call dials es d p;
      so = faulty port xid MOUNT_PROGRAM prot xid f dials es (for_mount refl refl refl) (k.none xid) (none_unanswered dials k.none) (port_call_xid xid MOUNT_PROGRAM prot (omega (arith, fits))) a;
    }

-- both ports, where the second was found
abbrev pub with_mount : ℕ → Result ℕ PortFault → Result Ports PortFault
with_mount found (Ok port) = Ok (record { mount = found; nfs = port })
with_mount found (Err f) = Err f

-- the first program's port was found, and the other's or not
second_found : (port xid prot found : ℕ) (r : Result ℕ PortFault) (dials es fs : List Entry) → xid + 1 < 2 ^ 32 → Connects port dials → Asks port xid MOUNT_PROGRAM prot (Ok found) es → Asks port (xid + 1) NFS_PROGRAM prot r fs
    → Ported port xid prot (with_mount found r) ((dials ++ es) ++ fs)
second_found port xid prot found r dials es fs fits d a b = record {
  first = dials ++ es;
  second = fs;
  is = refl;
  mount = dialed_calls port call dials es d p;
  nfs = record { for_it = q.for_it; few = q.sent };
  runs = runs_then (dials ++ es) fs 0 (dialed_runs port call dials es d p) (q.runs (run_after (dials ++ es) 0) left);
  so = by_result r b;
}
  where
    call : List ℕ
    call = port_call xid MOUNT_PROGRAM prot

    k : Dialing port call dials
    k = connecting port call dials d

    p : Part port call 4 es
    p = asks_part port xid MOUNT_PROGRAM prot (Ok found) es a

    q : Part port (port_call (xid + 1) NFS_PROGRAM prot) 4 fs
    q = asks_part port (xid + 1) NFS_PROGRAM prot r fs b

    left : run_after (dials ++ es) 0 ≤ 4
    left = rw (run_then dials es 0) (p.left (run_after dials 0) k.left)

    under : HasXid call xid
    under = port_call_xid xid MOUNT_PROGRAM prot (omega (arith, fits))

    none : NoneSent (xid + 1) (dials ++ es)
    none = none_else port (xid + 1) call (dials ++ es) (other_xid xid call under) (for_then port call dials es k.for_it p.for_it)

    answered : AllAnswered (dials ++ es)
    answered = all_answered dials es port xid call a.rec (none_unanswered dials k.none) under a.exchanges

    by_result : (s : Result ℕ PortFault) → Asks port (xid + 1) NFS_PROGRAM prot s fs → FoundSo xid prot (with_mount found s) ((dials ++ es) ++ fs)
    by_result (Ok there) c = (
      replied_grow xid prot MOUNT_PROGRAM (Ok found) (dials ++ es) fs (replied_behind port xid MOUNT_PROGRAM prot xid MOUNT_PROGRAM (Ok found) dials es (for_mount refl refl refl) (k.none xid) a),
      replied_behind port xid NFS_PROGRAM prot (xid + 1) NFS_PROGRAM (Ok there) (dials ++ es) fs (for_nfs refl refl refl) none c,
    )
    by_result (Err f) c = faulty port xid NFS_PROGRAM prot (xid + 1) f (dials ++ es) fs (for_nfs refl refl refl) none answered (port_call_xid (xid + 1) NFS_PROGRAM prot fits) c

-- ---- one after the other

-- dials, and then the call for the first program, which told its port
pub record FindsFirst (port xid prot found : ℕ) (es : List Entry) : Type 0 where
  pub dials : List Entry
  pub asked : List Entry
  pub is : es ≡ dials ++ asked
  pub connects : Connects port dials
  pub asks : Asks port xid MOUNT_PROGRAM prot (Ok found) asked

pub finds_first : (port xid prot found : ℕ) (dials es : List Entry) → Connects port dials → Asks port xid MOUNT_PROGRAM prot (Ok found) es → FindsFirst port xid prot found (dials ++ es)
finds_first port xid prot found dials es d a = record { dials = dials; asked = es; is = refl; connects = d; asks = a }

pub finds_second : (port xid prot found : ℕ) (r : Result ℕ PortFault) (es fs : List Entry) → xid + 1 < 2 ^ 32 → FindsFirst port xid prot found es → Asks port (xid + 1) NFS_PROGRAM prot r fs → Ported port xid prot (with_mount found r) (es ++ fs)
finds_second port xid prot found r es fs fits f b =
    subst (λ (t : List Entry). Ported port xid prot (with_mount found r) (t ++ fs)) (sym f.is) (second_found port xid prot found r f.dials f.asked fs fits f.connects f.asks b)
