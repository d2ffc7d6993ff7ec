-- A sync that went well: COMMIT of its file was answered 0 since it began.
use Rattle.core_facts.proofs.Prelude.{◌≡◌, ◌+◌, ℕ, false, List, [], ◌∷◌, ◌++◌, length, Result, Ok, Err, refl, sym, ap, subst, ◌∙◌, arith, Verf, Wcc, FileKept, Answer, Fault, Entry, Began, Call, Reply, Op, Asked, Asked-wide, length_last, Step, Shelf, Turn, Saving, SyncFile, Syncing, commit_told, file_at, Mounted, Machine, machine_of, Starts, Resumes, Takes, State, Busy, Over, of_syncing, in_flight}
use Rattle.world_model.proofs.Growth.{Asked-grow, Committed-grow}
use Rattle.file_ops.specs.Judging.{commit_told_by}
use Rattle.nfs_file_calls.specs.declared.owned.FileKept.TheVariants as kept
use Rattle.world_model.specs.declared.answer.Answer.TheVariants as answers
use Rattle.world_model.specs.declared.message.Reply.TheVariants as replies
use Rattle.world_model.specs.declared.op.Op.TheVariants as ops
use Rattle.world_model.specs.Commits.{Committed}
use Rattle.client_shelf.specs.declared.step.Step.TheVariants as nexts
use Rattle.file_ops.specs.declared.sync_file.Syncing.TheVariants as syncing
use Rattle.file_ops.specs.Saves as saves
use Rattle.op_machines.specs.declared.file_machine.FileMachine.TheVariants as files
use Rattle.op_machines.specs.declared.machine.Machine.TheVariants as machines
use Rattle.core_facts.specs.Synced.{SyncsCommitted}
use Rattle.core_facts.proofs.AllCounts.{begins-unbegun}
use Rattle.core_facts.proofs.Steps.{ThenOf}
use Rattle.core_facts.proofs.Expecting.{SyncExpects, SyncHas, sync-starts, sync-resumes, sync-takes}
use Rattle.core_facts.proofs.SaveCommits.{WellDone}
use Rattle.core_facts.proofs.Stories.{IsTold, StoryLaws, reached-answered}

-- ---- what the reply to a COMMIT says

-- a COMMIT that was done
pub record CameCommitted (verf : Verf) (came : Result Reply Fault) : Type 0 where
  pub wcc : Wcc
  pub is : came ≡ Ok (replies.File (kept.Commit wcc verf))

told-by : (reply : FileKept) (verf : Verf) → commit_told_by reply ≡ Ok verf → CameCommitted verf (Ok (replies.File reply))
told-by (kept.Commit wcc v) verf is = let same : v ≡ verf = cc in record { wcc = wcc; is = ap (λ (w : Verf). Ok (replies.File (kept.Commit wcc w))) same }
told-by (kept.CommitFail status wcc) verf is = absurd cc
told-by kept.Null verf is = absurd cc
told-by (kept.GetAttr attr) verf is = absurd cc
told-by (kept.GetAttrFail status) verf is = absurd cc
told-by (kept.SetAttr wcc) verf is = absurd cc
told-by (kept.SetAttrFail status wcc) verf is = absurd cc
told-by (kept.Access attr bits) verf is = absurd cc
told-by (kept.AccessFail status attr) verf is = absurd cc
told-by (kept.Read attr count eof bytes) verf is = absurd cc
told-by (kept.ReadFail status attr) verf is = absurd cc
told-by (kept.Write wcc count committed v) verf is = absurd cc
told-by (kept.WriteFail status wcc) verf is = absurd cc
told-by reply verf is = absurd cc

pub told-commit : (came : Result Reply Fault) (verf : Verf) → commit_told came ≡ Ok verf → CameCommitted verf came
told-commit (Ok (replies.File reply)) verf is = told-by reply verf is
told-commit (Ok (replies.Dir reply)) verf is = absurd cc
told-commit (Ok (replies.Mount reply)) verf is = absurd cc
told-commit (Err fault) verf is = absurd cc

-- ---- the story of a sync

-- it saves a file, of which a COMMIT was answered 0 where it sends again
pub record SyncRuns (h : List Entry) (x : ℕ) (machine : Machine) : Type 0 where
  pub m : SyncFile
  pub f : List ℕ
  pub is : machine ≡ machines.File (files.Sync m)
  pub has : SyncHas f (Committed h x (length h) f) m.state

-- and where it went well
pub record SyncOver (h : List Entry) (x : ℕ) (answer : Answer) : Type 0 where
  pub f : List ℕ
  pub well : WellDone (Committed h x (length h) f) answer

abbrev pub StateStory : List Entry → ℕ → State → Type 0
StateStory h x (Busy machine) = SyncRuns h x machine
StateStory h x (Over answer) = SyncOver h x answer

abbrev pub SyncStory : List Entry → ℕ → Op → State → Type 0
SyncStory h x op state = (slot : ℕ) → op ≡ ops.Sync slot → StateStory h x state

-- what a step of its machine leads to
then-runs : (h : List Entry) (x : ℕ) (f : List ℕ) (m : SyncFile) (next : Step) (state : Syncing)
    → ThenOf (SyncHas f (Committed h x (length h) f)) (WellDone (Committed h x (length h) f)) next state
    → ThenOf (λ n. StateStory h x (Busy n)) (λ a. StateStory h x (Over a)) next (machines.File (files.Sync (record m { state = state })))
then-runs h x f m (nexts.Send call) state t = record { m = record m { state = state }; f = f; is = refl; has = t }
then-runs h x f m nexts.Wait state t = record { m = record m { state = state }; f = f; is = refl; has = t }
then-runs h x f m (nexts.Done answer) state t = record { f = f; well = t }

-- of every operation that is a sync
for-slot : (h : List Entry) (x : ℕ) (op : Op) (next : Step) (new : Machine)
    → ((slot : ℕ) → op ≡ ops.Sync slot → ThenOf (λ n. StateStory h x (Busy n)) (λ a. StateStory h x (Over a)) next new)
    → ThenOf (λ n. SyncStory h x op (Busy n)) (λ a. SyncStory h x op (Over a)) next new
for-slot h x op (nexts.Send call) new t = t
for-slot h x op nexts.Wait new t = t
for-slot h x op (nexts.Done answer) new t = t

then-as : (h : List Entry) (x : ℕ) (next : Step) (to new : Machine) → new ≡ to → ThenOf (λ n. StateStory h x (Busy n)) (λ a. StateStory h x (Over a)) next to
    → ThenOf (λ n. StateStory h x (Busy n)) (λ a. StateStory h x (Over a)) next new
then-as h x next to new is t = subst (λ (n : Machine). ThenOf (λ k. StateStory h x (Busy k)) (λ a. StateStory h x (Over a)) next n) (sym is) t

-- each of its steps is one of its machine
sync-begins : (h : List Entry) (x : ℕ) (wsize : ℕ) (turn : Turn) (m : SyncFile) (old : Shelf) (next : Step) (new : Machine) (after : Shelf)
    → Starts wsize (machines.File (files.Sync m)) turn old next new after → ThenOf (λ n. StateStory h x (Busy n)) (λ a. StateStory h x (Over a)) next new
sync-begins h x wsize turn m old next new after s =
    let t = sync-starts (λ f. Committed h x (length h) f) (file_at m.lane m.slot old.opens) wsize m turn old next s.step.state after s.step.step in
    then-as h x next (machines.File (files.Sync (record m { state = s.step.state }))) new (s.machine_is ∙ ap machines.File s.step.machine_is)
    (then-runs h x t.f m next s.step.state t.then_)

sync-goes-on : (h : List Entry) (x : ℕ) (wsize : ℕ) (turn : Turn) (m : SyncFile) (f : List ℕ) (old : Shelf) (next : Step) (new : Machine) (after : Shelf)
    → SyncHas f (Committed h x (length h) f) m.state → Resumes wsize (machines.File (files.Sync m)) turn old next new after
    → ThenOf (λ n. StateStory h x (Busy n)) (λ a. StateStory h x (Over a)) next new
sync-goes-on h x wsize turn m f old next new after has s =
    let t = sync-resumes f (Committed h x (length h) f) m.state wsize m turn old next s.step.state after has s.step.step in
    then-as h x next (machines.File (files.Sync (record m { state = s.step.state }))) new (s.machine_is ∙ ap machines.File s.step.machine_is)
    (then-runs h x f m next s.step.state t.then_)

-- the COMMIT that the reply answers is that of its file
pub commit-shown : (h : List Entry) (x : ℕ) (m : SyncFile) (f : List ℕ) (came : Result Reply Fault) → SyncHas f (Committed h x (length h) f) m.state
    → IsTold h x (machines.File (files.Sync m)) came → (s : Saving) → m.state ≡ syncing.Saves s → saves.is_sending s.phase ≡ false → (verf : Verf) → commit_told came ≡ Ok verf
    → Committed h x (length h) f
commit-shown h x m f came has told s at idle verf is =
    let c = told-commit came verf is in
    let expects : saves.is_sending s.phase ≡ false → told.call ≡ saves.commit_of s.file = subst (λ (t : Syncing). SyncExpects t told.call) at told.expects in
    let file : s.file ≡ f = (subst (SyncHas f (Committed h x (length h) f)) at has).0 in
    let call : told.call ≡ saves.commit_of f = expects idle ∙ ap saves.commit_of file in
    record { wcc = c.wcc; verf = verf; asked = subst (λ (k : Call). Asked h x (length h) k (replies.File (kept.Commit c.wcc verf))) call (told.heard (replies.File (kept.Commit c.wcc verf)) c.is) }

sync-hears : (h : List Entry) (x : ℕ) (wsize : ℕ) (sent turn : Turn) (came : Result Reply Fault) (m : SyncFile) (f : List ℕ) (old : Shelf) (next : Step) (new : Machine) (after : Shelf) (others : ℕ)
    → SyncHas f (Committed h x (length h) f) m.state → of_syncing m.state ≡ others + 1 → IsTold h x (machines.File (files.Sync m)) came
    → Takes wsize (machines.File (files.Sync m)) sent turn came old next new after → ThenOf (λ n. StateStory h x (Busy n)) (λ a. StateStory h x (Over a)) next new
sync-hears h x wsize sent turn came m f old next new after others has one told s =
    let t = sync-takes f (Committed h x (length h) f) m.state wsize m sent turn came old next s.step.state after others one has
    (commit-shown h x m f came has told) s.step.step in
    then-as h x next (machines.File (files.Sync (record m { state = s.step.state }))) new (s.machine_is ∙ ap machines.File s.step.machine_is)
    (then-runs h x f m next s.step.state t.then_)

-- one entry more
pub committed-later : (h : List Entry) (e : Entry) (x : ℕ) (f : List ℕ) → Committed h x (length h) f → Committed (h ++ e ∷ []) x (length (h ++ e ∷ [])) f
committed-later h e x f c =
    let grown = Asked-grow h (e ∷ []) x (length h) (saves.commit_of f) (replies.File (kept.Commit c.wcc c.verf)) c.asked in
    let more = length_last h e in
    record { wcc = c.wcc; verf = c.verf; asked = Asked-wide (h ++ e ∷ []) x (length h) x (length (h ++ e ∷ [])) (saves.commit_of f) (replies.File (kept.Commit c.wcc c.verf)) (omega arith) (omega (arith, more)) grown }

pub has-later : (h : List Entry) (e : Entry) (x : ℕ) (f : List ℕ) (state : Syncing) → SyncHas f (Committed h x (length h) f) state
    → SyncHas f (Committed (h ++ e ∷ []) x (length (h ++ e ∷ [])) f) state
has-later h e x f syncing.Idle has = tt
has-later h e x f (syncing.Saves s) has = (has.0, λ again. committed-later h e x f (has.1 again))

well-later : (h : List Entry) (e : Entry) (x : ℕ) (f : List ℕ) (answer : Answer) → WellDone (Committed h x (length h) f) answer
    → WellDone (Committed (h ++ e ∷ []) x (length (h ++ e ∷ [])) f) answer
well-later h e x f (answers.Done value) w = committed-later h e x f w
well-later h e x f (answers.Refused fault) w = tt

state-later : (h : List Entry) (e : Entry) (x : ℕ) (state : State) → StateStory h x state → StateStory (h ++ e ∷ []) x state
state-later h e x (Busy machine) s = record { m = s.m; f = s.f; is = s.is; has = has-later h e x s.f s.m.state s.has }
state-later h e x (Over answer) s = record { f = s.f; well = well-later h e x s.f answer s.well }

sync-laws : (m : Mounted) → StoryLaws (machine_of m) SyncStory
sync-laws mounted = record {
  starts = λ h lane line op wsize turn old next new after s.
      for-slot (h ++ Began lane line op ∷ []) (length h) op next new (λ slot is.
      sync-begins (h ++ Began lane line op ∷ []) (length h) wsize turn (record { lane = lane; slot = slot; state = syncing.Idle }) old next new after
      (subst (λ (o : Op). Starts wsize (machine_of mounted lane o) turn old next new after) is s));
  resumes = λ h x op machine wsize turn old next new after story r.
      for-slot h x op next new (λ slot is.
      let k = story slot is in
      sync-goes-on h x wsize turn k.m k.f old next new after k.has (subst (λ (n : Machine). Resumes wsize n turn old next new after) k.is r));
  takes = λ h x op machine wsize sent turn came old next new after others story one told t.
      for-slot h x op next new (λ slot is.
      let k = story slot is in
      sync-hears h x wsize sent turn came k.m k.f old next new after others k.has (sym (ap in_flight k.is) ∙ one)
      (subst (λ (n : Machine). IsTold h x n came) k.is told) (subst (λ (n : Machine). Takes wsize n sent turn came old next new after) k.is t));
  grows = λ h e x op state story slot is. state-later h e x state (story slot is);
  lost = λ h x op shown slot is. record { f = []; well = tt };
}

pub syncs-committed : SyncsCommitted
syncs-committed mounted setup h v r lane x slot y value ended =
    let s = reached-answered (machine_of mounted) (begins-unbegun mounted) setup SyncStory (sync-laws mounted) h v r lane x (ops.Sync slot) y (answers.Done value) ended in
    let k = s.story slot refl in
    record {
      f = k.f;
      committed = subst (λ (g : List Entry). Committed g x y k.f) (sym s.is)
          (Committed-grow s.before s.after x y k.f (subst (λ (n : ℕ). Committed s.before x n k.f) s.there k.well));
    }
