-- What a record that is heard shows of a byte that came with a write's number, from its first flight on.
use Rattle.core_session.proofs.Prelude.{◌≡◌, inl, inr, ◌≤◌, ◌<◌, ◌+◌, ℕ, List, [], ◌∷◌, ◌++◌, length, Bool, true, false, Some, None, Ok, slice_get, refl, sym, ap, subst, ◌∙◌, arith, Verf, Wcc, xid_at, Waiting, next_xid, waiting_at, Entry, Sent, Delivered, Call, Reply, Op, At, Asked, HasXid, SpellsCall, SpellsCallBy, SpellsReply, commit_call, length_last, said_of, Says, Step, Shelf, Closing, Putting, Saving, Syncing, Writing, Mounted, FileMachine, Machine, PathMachine, machine_of, file_of, of_file, Flown, fly_at, piece_under, fly-under, EachSound, flown-from, Purpose, Busy, Setup, View, Reaches, HearsRecord, IsOfOperation, Tried, unsent, begins-unbegun, flies_of, was-sent, says-of, reached-owned, reached-rows, TaleLaws, reached-good, Did, PathNames, Names, Expects, expects-laws, SyncNames, CloseNames, WriteNames, StateNames, FileNames, Saves, IsNfs, one-call, IsWaiting, write_of, WroteByte, MadeStable}
use Rattle.world_model.specs.Heard.{Heard}
use Rattle.call_replies.specs.Says.{IsCallOf}
use Rattle.core_facts.specs.Tries.{runs, ended}
use Rattle.core_facts.proofs.Hearing.{heard-of}
use Rattle.core_answers.specs.writes.Alone.{IsQuiet}
use Rattle.core_answers.specs.writes.Carried.{IsCarried}
use Rattle.core_session.specs.saves.Evidence.{at_once, by_commit, IsHeldBy}
use Rattle.nfs_file_calls.specs.declared.owned.FileKept.TheVariants as kept
use Rattle.world_model.specs.declared.message.Reply.TheVariants as replies
use Rattle.client_shelf.specs.declared.step.Step.TheVariants as nexts
use Rattle.file_ops.specs.declared.close_file.Closing.TheVariants as closing
use Rattle.file_ops.specs.declared.put_file.Putting.TheVariants as putting
use Rattle.file_ops.specs.declared.sync_file.Syncing.TheVariants as syncing
use Rattle.file_ops.specs.declared.write_file.Writing.TheVariants as writing
use Rattle.file_ops.specs.Saves as saves
use Rattle.op_machines.specs.declared.file_machine.FileMachine.TheVariants as files
use Rattle.op_machines.specs.declared.machine.Machine.TheVariants as machines
use Rattle.write_back.specs.Pieces.{Sent as Piece}
use Rattle.write_back.proofs.Taking.{under-own}
use Rattle.step_saves.specs.Accounts.{Reaches as ReachesByte}
use Rattle.core_answers.proofs.writes.AllFits.{commits_path, commits_of}
use Rattle.core_answers.proofs.writes.CallFits.{commits_if, commits_save, commits_write, commits_sync, commits_close, commits_put, commits_file}
use Rattle.core_answers.proofs.writes.CommitsAlone.{commits-alone}
use Rattle.core_answers.proofs.writes.PiecesCarried.{pieces-carried}
use Rattle.core_session.proofs.saves.Taking.{sent-is, its-piece, sent-piece}
use Rattle.core_session.proofs.saves.WholeSteps.{SendsIt, Wholly}
use Rattle.core_session.proofs.syncs.StageSteps.{ByWrite, ByCommit}

-- No record under the xid was sent before the place k.
abbrev pub Fresh : List Entry → ℕ → ℕ → Type 0
Fresh g k y = (j : ℕ) (b : List ℕ) → At g j (Sent b) → HasXid b y → k ≤ j

abbrev pub Wrote : List ℕ → ℕ → ℕ → List Entry → List (ℕ × Waiting Purpose) → ℕ → List ℕ → Type 0
Wrote f place byte g calls k held = IsHeldBy g k calls f place byte held

abbrev pub Made : List ℕ → ℕ → ℕ → List Entry → ℕ → Type 0
Made f place byte g k = MadeStable g k (length g) f place byte

some-waiting : (a b : Waiting Purpose) → Some a ≡ Some b → a ≡ b
some-waiting a b e = cc

-- ---- the call for which an operation waits that waits for a COMMIT is one of the save of that file

none-commits : {X : Type 0} → (f : List ℕ) → None ≡ Some f → X
none-commits f is = absurd (let no_way : None ≡ Some f = is in cc)

module _ (f : List ℕ) (call : Call) where
  save-of : (s : Saving) → commits_save s ≡ Some f → Saves s.file call → Saves f call
  save-of s is names = by (saves.is_sending s.phase) is
    where
      by : (b : Bool) → commits_if b s.file ≡ Some f → Saves f call
      by true is = none-commits f is
      by false is = subst (λ (g : List ℕ). Saves g call) (let same : Some s.file ≡ Some f = is in cc) names

  write-of : (w : Writing) → commits_write w ≡ Some f → WriteNames w call → Saves f call
  write-of writing.Idle is names = none-commits f is
  write-of (writing.Room file s) is names = save-of s is names

  sync-of : (w : Syncing) → commits_sync w ≡ Some f → SyncNames w call → Saves f call
  sync-of syncing.Idle is names = none-commits f is
  sync-of (syncing.Saves s) is names = save-of s is names

  close-of : (w : Closing) → commits_close w ≡ Some f → CloseNames w call → Saves f call
  close-of closing.Idle is names = none-commits f is
  close-of (closing.Queued s) is names = none-commits f is
  close-of (closing.Saves s) is names = save-of s is names
  close-of (closing.ToRemove removal) is names = none-commits f is
  close-of (closing.Removing removal) is names = none-commits f is

  put-of : (p : Putting) (w : Writing) → commits_put p w ≡ Some f → StateNames p w call → Saves f call
  put-of putting.Idle w is names = none-commits f is
  put-of putting.Opens w is names = none-commits f is
  put-of (putting.Adds file) w is names = write-of w is names
  put-of (putting.Saves s) w is names = save-of s is names

  file-of : (m : FileMachine) → commits_file m ≡ Some f → FileNames m call → Saves f call
  file-of (files.Open m) is names = none-commits f is
  file-of (files.Read m) is names = none-commits f is
  file-of (files.Write m) is names = write-of m.state is names
  file-of (files.Sync m) is names = sync-of m.state is names
  file-of (files.Close m) is names = close-of m.state is names
  file-of (files.Truncate m) is names = none-commits f is
  file-of (files.Put m) is names = put-of m.state m.write.state is names

  path-of : (m : PathMachine) (b : Bool) → commits_path b m.opener ≡ Some f → PathNames b m call → Saves f call
  path-of m true is names = file-of (file_of m.opener) is names
  path-of m false is names = none-commits f is

  pub machine-of : (m : Machine) → commits_of m ≡ Some f → Names m call → Saves f call
  machine-of (machines.File m) is names = file-of m is names
  machine-of (machines.Path m) is names = path-of m m.arrived is names
  machine-of (machines.Name m) is names = none-commits f is

-- ---- what the operation of a call expects

any-did : (h : List Entry) (x : ℕ) (op : Op) (next : Step) (new : Machine) (after : Shelf)
    → Did (λ g y o c. Unit {0}) (λ g s. Unit {0}) (λ g y o s. Unit {0}) h x op next new after
any-did h x op (nexts.Send call) new after = record { shelf = tt; asks = tt; then_ = tt }
any-did h x op nexts.Wait new after = record { shelf = tt; asks = tt; then_ = tt }
any-did h x op (nexts.Done answer) new after = record { shelf = tt; asks = tt; then_ = tt }

no-tales : (m : Mounted) (setup : Setup) → TaleLaws (machine_of m) setup Expects (λ g y o c. Unit {0}) (λ g s. Unit {0}) (λ g y o s. Unit {0})
no-tales m setup = record {
  fresh = λ h v up fresh. tt;
  starts = λ h lane line op wsize turn old next new after i s. any-did _ _ op next new after;
  resumes = λ h x op machine wsize turn old next new after i s r. any-did h x op next new after;
  takes = λ h x op machine wsize sent turn came old next new after others i s one told t. any-did h x op next new after;
  still = λ h e shelf i. tt;
  waits = λ h e x op call w. tt;
  grows = λ h e x op state quiet s. tt;
  lost = λ h x op l. tt;
}

-- ---- a call first sent at k or after

pub heard-from : (h : List Entry) (x k to : ℕ) (asked : Call) (xid : ℕ) (rec : List ℕ) → Fresh h k xid → Heard h x to asked xid rec → Heard h k to asked xid rec
heard-from h x k to asked xid rec fresh d = record {
  sent_at = d.sent_at;
  record_sent = d.record_sent;
  got_at = d.got_at;
  sent = d.sent;
  spells = d.spells;
  got = d.got;
  after = fresh d.sent_at d.record_sent d.sent.sent d.sent.under;
  later = d.later;
  before = d.before;
}

module _ (m : Mounted) (setup : Setup) (h : List Entry) (old : View) (r : Reaches (machine_of m) setup h old) (found : old.lost ≡ false) (xid : ℕ) (call : Waiting Purpose)
    (waits : waiting_at xid old.calls.calls ≡ Some call) (at number : ℕ) (machine : Machine) (there : slice_get old.lanes at ≡ Some (record { number = number; state = Busy machine }))
    (same-lane : call.purpose.lane ≡ number) (i : Wholly setup h old) where
  -- what its operation sends is what the call carries
  pub its : (s : Saving) → (saves.is_sending s.phase ≡ true → flies_of machine ≡ Some s.file) → SendsIt call.purpose.sent.xid s old.shelf.back
  its s flies sends = sent-piece m setup h old r found xid call waits at number machine there same-lane i s.file (flies sends)

  -- what flies at a place that its WRITE's reply reaches flies under its xid
  pub flown-is : (f : List ℕ) (place byte : ℕ) → EachSound old.shelf.back → (to : List ℕ) (count : ℕ) (flown : Flown) → fly_at (of_file f old.shelf.back) place ≡ Some flown
      → ReachesByte f place byte old.shelf.back call.purpose.sent.xid to count → flown.xid ≡ xid
  flown-is f place byte sound to count flown flies reaches =
      let under : piece_under call.purpose.sent.xid (of_file f old.shelf.back).pieces ≡ Some reaches.piece = reaches.under in
      let own : piece_under xid (of_file f old.shelf.back).pieces ≡ Some reaches.piece =
      subst (λ (n : ℕ). piece_under n (of_file f old.shelf.back).pieces ≡ Some reaches.piece) (sent-is m setup h old r found xid call waits at number machine there same-lane i) under in
      let from = flown-from reaches.piece place flown (sym (fly-under xid (of_file f old.shelf.back).pieces reaches.piece place (sound f).sent own reaches.inside) ∙ flies) in
      from.xid ∙ under-own xid (of_file f old.shelf.back).pieces reaches.piece own

  module _ (rec : List ℕ) (fin : View) (hears : HearsRecord old rec fin) (named : xid_at rec ≡ Some xid) (f : List ℕ) (place byte : ℕ) where
    abbrev pub now : List Entry
    now = h ++ Delivered rec ∷ []

    here : length h + 1 ≡ length now
    here = sym (length_last h (Delivered rec))

    -- its xid was used
    pub below-next : xid < next_xid old.calls
    below-next = by ((reached-rows (machine_of m) setup h old r).rows xid call waits).tried
      where
        by : Tried h xid call → xid < next_xid old.calls
        by (unsent nothing u) = absurd (let some = was-sent xid old.calls.calls call hears.may.sent waits in omega (arith, some, nothing))
        by (runs from running o rest) = (reached-rows (machine_of m) setup h old r).used from xid call.bytes o.sent.sent o.sent.under
        by (ended from idle o rest) = (reached-rows (machine_of m) setup h old r).used from xid call.bytes o.sent.sent o.sent.under

    -- it answers the call that its record spells
    heard-as : (k : ℕ) → Fresh now k xid → (asked : Call) → SpellsCall xid asked call.bytes → Heard now k (length now) asked xid rec
    heard-as k fresh asked spells = subst (λ (n : ℕ). Heard now k n asked xid rec) here (by ((reached-rows (machine_of m) setup h old r).rows xid call waits).tried)
      where
        own : IsOfOperation h old xid call
        own = (reached-owned (machine_of m) (begins-unbegun m) setup h old r found).owned xid call waits

        of : Heard now own.x (length h + 1) asked xid rec → Heard now k (length h + 1) asked xid rec
        of d = heard-from now own.x k (length h + 1) asked xid rec fresh d

        by : Tried h xid call → Heard now k (length h + 1) asked xid rec
        by (unsent nothing u) = absurd (let some = was-sent xid old.calls.calls call hears.may.sent waits in omega (arith, some, nothing))
        by (runs from running o rest) = of (heard-of h rec xid from own.x asked call.bytes o spells named (own.since from call.bytes o.sent.sent o.sent.under))
        by (ended from idle o rest) = of (heard-of h rec xid from own.x asked call.bytes o spells named (own.since from call.bytes o.sent.sent o.sent.under))

    -- and the reply is to that call
    spelled-as : (asked : Call) (reply : Reply) → IsNfs asked → SpellsCall xid asked call.bytes → said_of call.purpose.proc rec ≡ Ok reply → SpellsReply xid asked reply rec
    spelled-as asked reply nfs spells said =
        let k = (reached-rows (machine_of m) setup h old r).rows xid call waits in
        let same : asked ≡ k.made.asked = one-call xid xid asked k.made.asked call.bytes nfs spells k.made.spells.spells in
        let of : IsCallOf call.purpose.proc asked = subst (λ (c : Call). IsCallOf call.purpose.proc c) (sym same) (record { nfs = k.made.nfs; is = sym k.made.proc }) in
        let says : Says xid asked rec (said_of call.purpose.proc rec) = says-of old rec hears.result fin xid call hears.hears named waits xid named asked of in
        let one : Says xid asked rec (Ok reply) = subst (Says xid asked rec) said says in
        one.is

    asked-as : (k : ℕ) → Fresh now k xid → (asked : Call) (reply : Reply) → IsNfs asked → SpellsCall xid asked call.bytes → said_of call.purpose.proc rec ≡ Ok reply → Asked now k (length now) asked reply
    asked-as k fresh asked reply nfs spells said =
        record { xid = xid; bytes = rec; heard = heard-as k fresh asked spells; spells = spelled-as asked reply nfs spells said }

    spells-piece : (g : List ℕ) (piece : Piece) → piece_under xid (of_file g old.shelf.back).pieces ≡ Some piece → SpellsCall xid (write_of g piece) call.bytes
    spells-piece g piece under =
        let c : IsCarried setup old g xid piece = pieces-carried m setup h old r found g xid piece under in
        let which : c.waiting ≡ call = some-waiting c.waiting call (sym c.waits ∙ waits) in
        subst (λ (w : Waiting Purpose). SpellsCall xid (write_of g piece) w.bytes) which c.spells.spells

    -- ---- a WRITE

    wrote-byte : (k : ℕ) → Fresh now k xid → (wcc : Wcc) (count committed : ℕ) (verf : Verf) → said_of call.purpose.proc rec ≡ Ok (replies.File (kept.Write wcc count committed verf))
        → (to : List ℕ) → ReachesByte f place byte old.shelf.back xid to count → WroteByte now k (length now) f place byte committed verf
    wrote-byte k fresh wcc count committed verf said to reaches = record {
      offset = reaches.piece.offset;
      how = reaches.piece.how;
      bytes = reaches.piece.bytes;
      wcc = wcc;
      count = count;
      asked = asked-as k fresh (write_of f reaches.piece) (replies.File (kept.Write wcc count committed verf)) tt (spells-piece f reaches.piece reaches.under) said;
      inside = reaches.inside;
      has = reaches.has;
      reached = reaches.reached;
    }

    -- while a piece of the file is in flight no COMMIT of it waits
    no-commits : (piece : Piece) → piece_under xid (of_file f old.shelf.back).pieces ≡ Some piece → (y : ℕ) (w : Waiting Purpose) → waiting_at y old.calls.calls ≡ Some w
        → SpellsCall y (commit_call f) w.bytes → ⊥
    no-commits piece under y w is spells =
        let k = (reached-rows (machine_of m) setup h old r).rows y w is in
        let same = one-call y y (commit_call f) k.made.asked w.bytes tt spells k.made.spells.spells in
        let waiting : IsWaiting setup old y (commit_call f) = record { waiting = w; waits = is; spells = subst (λ (c : Call). SpellsCallBy setup.cred y c w.bytes) (sym same) k.made.spells } in
        let quiet : IsQuiet setup old f = commits-alone m setup h old r found y (commit_call f) f waiting refl in
        let none : None ≡ Some piece = sym (ap (piece_under xid) quiet.none) ∙ under in
        absurd cc

    told-write : (k : ℕ) → Fresh now k xid → (wcc : Wcc) (count committed : ℕ) (verf : Verf) → said_of call.purpose.proc rec ≡ Ok (replies.File (kept.Write wcc count committed verf))
        → (to : List ℕ) → ReachesByte f place byte old.shelf.back xid to count → Wrote f place byte now old.calls.calls k verf.0 × (0 < committed → Made f place byte now k)
    told-write k fresh wcc count committed verf said to reaches =
        let wrote : WroteByte now k (length now) f place byte committed verf = wrote-byte k fresh wcc count committed verf said to reaches in (
          record {
            middle = length now;
            low = omega arith;
            wrote = record { firm = committed; verf = verf; same = refl; wrote = wrote };
            before = λ y w is spells j bytes at has. absurd (no-commits reaches.piece reaches.under y w is spells);
          },
          λ firm. at_once committed verf firm wrote,
        )

    is-own : call.purpose.sent.xid ≡ xid
    is-own = sent-is m setup h old r found xid call waits at number machine there same-lane i

    -- By the reply to the WRITE with which the byte flies it is held, or stable.
    pub shows-write : EachSound old.shelf.back → (s : Saving) (write : ℕ) (Since : ℕ → Type 0)
        → ByWrite place byte write (Fresh now) Since (Wrote f place byte now old.calls.calls) (Made f place byte now) f old.shelf.back call.purpose.sent.xid s.file (said_of call.purpose.proc rec)
    shows-write sound s write Since k flown flies byte_is number_is fresh since wcc count committed verf said reaches =
        let under : piece_under call.purpose.sent.xid (of_file f old.shelf.back).pieces ≡ Some reaches.piece = reaches.under in
        let own : piece_under xid (of_file f old.shelf.back).pieces ≡ Some reaches.piece = subst (λ (n : ℕ). piece_under n (of_file f old.shelf.back).pieces ≡ Some reaches.piece) is-own under in
        let from = flown-from reaches.piece place flown (sym (fly-under xid (of_file f old.shelf.back).pieces reaches.piece place (sound f).sent own reaches.inside) ∙ flies) in
        let same : flown.xid ≡ xid = from.xid ∙ under-own xid (of_file f old.shelf.back).pieces reaches.piece own in
        told-write k (subst (Fresh now k) same fresh) wcc count committed verf said s.file
        (subst (λ (n : ℕ). ReachesByte f place byte old.shelf.back n s.file count) is-own reaches)

    -- ---- a COMMIT

    committed-after : (k : ℕ) (wcc : Wcc) (verf : Verf) → said_of call.purpose.proc rec ≡ Ok (replies.File (kept.Commit wcc verf)) → SpellsCall xid (commit_call f) call.bytes
        → Wrote f place byte now old.calls.calls k verf.0 → Made f place byte now k
    committed-after k wcc verf said spells held =
        let fresh : Fresh now held.middle xid = held.before xid call waits spells in
        let a : Asked now held.middle (length now) (commit_call f) (replies.File (kept.Commit wcc verf)) = asked-as held.middle fresh (commit_call f) (replies.File (kept.Commit wcc verf)) tt spells said in
        by_commit held.middle wcc verf held.low held.wrote a

    -- a reply to a COMMIT isn't one to a WRITE
    no-write : (g : List ℕ) (piece : Piece) → SpellsCall xid (saves.write_of g piece) call.bytes → (wcc : Wcc) (verf : Verf)
        → said_of call.purpose.proc rec ≡ Ok (replies.File (kept.Commit wcc verf)) → ⊥
    no-write g piece spells wcc verf said =
        let s = spelled-as (saves.write_of g piece) (replies.File (kept.Commit wcc verf)) tt spells said in
        let no_way : 21 ≡ 7 = s.is.answers in
        absurd (omega (arith, no_way))

    commits : (g : List ℕ) → commits_of machine ≡ Some g → (wcc : Wcc) (verf : Verf) → said_of call.purpose.proc rec ≡ Ok (replies.File (kept.Commit wcc verf)) → SpellsCall xid (commit_call g) call.bytes
    commits g is wcc verf said =
        let good = reached-good (machine_of m) (begins-unbegun m) setup Expects expects-laws (λ g y o c. Unit {0}) (λ g s. Unit {0}) (λ g y o s. Unit {0}) (no-tales m setup) h old r in
        let e = (good.each at (record { number = number; state = Busy machine }) there).0 xid call waits same-lane in
        by e.made.asked e.made.spells.spells (machine-of g e.made.asked machine is e.expects.1)
      where
        by : (asked : Call) → SpellsCall xid asked call.bytes → Saves g asked → SpellsCall xid (commit_call g) call.bytes
        by asked spells (inl w) = absurd (no-write g w.0 (subst (λ (c : Call). SpellsCall xid c call.bytes) w.1 spells) wcc verf said)
        by asked spells (inr same) = subst (λ (c : Call). SpellsCall xid c call.bytes) same spells

    -- By the reply to a COMMIT of its file a byte is stable that is held under its verifier.
    pub shows-commit : (s : Saving) (Since : ℕ → Type 0) → (saves.is_sending s.phase ≡ true → flies_of machine ≡ Some s.file) → (saves.is_sending s.phase ≡ false → commits_of machine ≡ Some s.file)
        → ByCommit Since (Wrote f place byte now old.calls.calls) (Made f place byte now) f s.file (said_of call.purpose.proc rec)
    shows-commit s Since flies awaits k wcc verf said same since held = by (saves.is_sending s.phase) refl
      where
        by : (b : Bool) → saves.is_sending s.phase ≡ b → Made f place byte now k
        by true sends =
            let piece = its-piece m setup h old r found xid call waits at number machine there same-lane i s.file (flies sends) in
            absurd (no-write s.file piece.piece (spells-piece s.file piece.piece piece.there) wcc verf said)
        by false idle = committed-after k wcc verf said (subst (λ (g : List ℕ). SpellsCall xid (commit_call g) call.bytes) same (commits s.file (awaits idle) wcc verf said)) held
