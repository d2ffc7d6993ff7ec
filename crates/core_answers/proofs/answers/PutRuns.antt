-- A put, step by step: its path leads to the file that it opens, and it goes well only with the reply to a WRITE or COMMIT of that file, of which a
-- whole COMMIT was answered 0 since it began. For the kind of its file it is refused only with the reply that shows it.
use Rattle.core_answers.proofs.Prelude.{◌≡◌, ◌≢◌, ◌+◌, ℕ, Bool, true, false, List, length, Result, Ok, Err, refl, sym, ap, subst, arith, if◌then◌else◌, Attr, Verf, DirKept, FileKept, Answer, Fault, Entry, Call, Reply, Asked, EndsWith, NamesFile, is_first, Step, Shelf, Turn, Opening, OpeningStep, PutFile, Putting, Saving, Writing, commit_told, joined, made_bytes, by-step, ends_as, IsNamed, last_of, of_saving, of_putting, PutAwaits, FineOption, LeadsTo, then-as, OpeningStory, IsFileOf, goes-steps, takes-steps, ThenOf}
use Rattle.core_facts.proofs.Faults.{OfReply, Came}
use Rattle.core_facts.proofs.SaveCommits.{SaveSteps}
use Rattle.nfs_types.specs.declared.mode.Mode.TheVariants as modes
use Rattle.nfs_dir_calls.specs.declared.keeping.DirKept.TheVariants as found
use Rattle.nfs_file_calls.specs.declared.call.FileCall.TheVariants as file_calls
use Rattle.nfs_file_calls.specs.declared.owned.FileKept.TheVariants as kept
use Rattle.world_model.specs.declared.answer.Answer.TheVariants as answers
use Rattle.world_model.specs.declared.answer.Fault.TheVariants as faults
use Rattle.world_model.specs.declared.answer.Value.TheVariants as values
use Rattle.world_model.specs.declared.message.Call.TheVariants as calls
use Rattle.world_model.specs.declared.message.Reply.TheVariants as replies
use Rattle.claims.specs.Asks as asks
use Rattle.world_model.specs.Commits.{Committed}
use Rattle.client_shelf.specs.declared.step.Step.TheVariants as nexts
use Rattle.file_ops.specs.declared.opening.OpeningStep.TheVariants as openings
use Rattle.file_ops.specs.declared.put_file.Putting.TheVariants as putting
use Rattle.file_ops.specs.declared.write_file.Writing.TheVariants as writings
use Rattle.file_ops.specs.OpenFile as opens
use Rattle.file_ops.specs.Opening as opening
use Rattle.file_ops.specs.PutFile as puts
use Rattle.file_ops.specs.Saves as saves
use Rattle.file_ops.specs.Syncs as syncs
use Rattle.file_ops.proofs.Refusals.{takes-ill}
use Rattle.file_ops.proofs.Stills.{goes-not-well}
use Rattle.core_facts.proofs.OpenStory.{not-kind, OpeningTold, found as is_found, made as is_made, KindShown, NextStory, go-story, led-on, led-next}
use Rattle.core_facts.proofs.Putting.{PutExpects}
use Rattle.core_facts.proofs.Syncing.{told-commit}
use Rattle.core_answers.proofs.answers.PutNames.{PutNames}
use Rattle.core_answers.proofs.answers.PutOpens.{NextFile, led-file, next-file}
use Rattle.core_answers.proofs.answers.SaveFaults.{CallFaults, SaveFine, goes-fine, takes-fine, any-fits}
use Rattle.core_answers.proofs.answers.WriteFaults.{FineWriting, WriteFine, FitsWrite, writes-fine, write-resumes, write-takes}

-- ---- faults

-- another fault than that of the kind of a file
abbrev pub NotKind : Fault → Type 0
NotKind faults.Lost = Unit {0}
NotKind (faults.Nfs status) = Unit {0}
NotKind (faults.Rpc n) = Unit {0}
NotKind (faults.Bad rule) = Unit {0}
NotKind faults.Spent = Unit {0}
NotKind faults.Slot = Unit {0}
NotKind faults.Mode = Unit {0}
NotKind faults.Kind = ⊥
NotKind faults.Many = Unit {0}
NotKind faults.Memory = Unit {0}

other-kind : (fault : Fault) → NotKind fault → fault ≡ faults.Kind → ⊥
other-kind fault n is = subst NotKind is n

pub own : CallFaults NotKind
own = record { memory = tt }

dir-fine : (reply : DirKept) → OfReply NotKind (replies.Dir reply)
dir-fine (found.LookupFail status dir) = tt
dir-fine (found.ReadLinkFail status attr) = tt
dir-fine (found.CreateFail status wcc) = tt
dir-fine (found.MkDirFail status wcc) = tt
dir-fine (found.SymLinkFail status wcc) = tt
dir-fine (found.RemoveFail status wcc) = tt
dir-fine (found.RmDirFail status wcc) = tt
dir-fine (found.RenameFail status source target) = tt
dir-fine (found.LinkFail status attr wcc) = tt
dir-fine (found.ReadDirPlusFail status attr) = tt
dir-fine reply = tt

file-fine : (reply : FileKept) → OfReply NotKind (replies.File reply)
file-fine (kept.GetAttrFail status) = tt
file-fine (kept.SetAttrFail status wcc) = tt
file-fine (kept.AccessFail status attr) = tt
file-fine (kept.ReadFail status attr) = tt
file-fine (kept.WriteFail status wcc) = tt
file-fine (kept.CommitFail status wcc) = tt
file-fine reply = tt

pub fault-fine : (fault : Fault) → (fault ≡ faults.Kind → ⊥) → NotKind fault
fault-fine faults.Kind other = other refl
fault-fine (faults.Nfs status) other = tt
fault-fine (faults.Rpc n) other = tt
fault-fine (faults.Bad rule) other = tt
fault-fine faults.Spent other = tt
fault-fine faults.Slot other = tt
fault-fine faults.Mode other = tt
fault-fine faults.Lost other = tt
fault-fine faults.Many other = tt
fault-fine faults.Memory other = tt

came-fine : (came : Result Reply Fault) → ((fault : Fault) → came ≡ Err fault → fault ≡ faults.Kind → ⊥) → Came NotKind came
came-fine (Ok (replies.Dir reply)) none = dir-fine reply
came-fine (Ok (replies.File reply)) none = file-fine reply
came-fine (Ok (replies.Mount reply)) none = tt
came-fine (Err fault) none = fault-fine fault (none fault refl)

write-fits : (sent : Turn) (came : Result Reply Fault) (at : Writing) (back : _) → Came NotKind came → FitsWrite NotKind own sent came at back
write-fits sent came writings.Idle back n = tt
write-fits sent came (writings.Room file saving) back n = any-fits NotKind own (λ rule. tt) sent came saving back n

module _ (top : List ℕ) (h : List Entry) (x : ℕ) (path : List (List ℕ)) where
  -- ---- what is shown

  -- the last record that came answers a WRITE or COMMIT of the file
  pub record LastNames (f : List ℕ) : Type 0 where
    pub call : Call
    pub reply : Reply
    pub names : NamesFile f call
    pub ends : EndsWith h x (length h) call reply

  pub record PutShown : Type 0 where
    pub f : List ℕ
    pub leads : LeadsTo top h path f
    pub committed : Committed h x (length h) f
    pub last : LastNames f

  -- or it shows that what the path leads to is no file
  pub record PutKind : Type 0 where
    pub f : List ℕ
    pub attr : Attr
    pub leads : LeadsTo top h path f
    pub ends : EndsWith h x (length h) (calls.File (file_calls.GetAttr f)) (replies.File (kept.GetAttr attr))
    pub other : attr.kind ≢ 1

  abbrev pub PutAnswer : Answer → Type 0
  PutAnswer (answers.Done value) = (value ≡ values.Nothing) × PutShown
  PutAnswer (answers.Refused fault) = fault ≡ faults.Kind → PutKind

  pub other-answer : (fault : Fault) → NotKind fault → PutAnswer (answers.Refused fault)
  other-answer fault n = λ is. absurd (other-kind fault n is)

  -- ---- the state of a put that has its directory

  abbrev pub SaveAt : Saving → Type 0
  SaveAt s = LeadsTo top h path s.file × (saves.is_again s.phase ≡ true → Committed h x (length h) s.file) × FineOption NotKind s.refusal

  abbrev pub StateAt : Putting → Opening → Writing → Type 0
  StateAt putting.Idle o w = Unit {0}
  StateAt putting.Opens o w = OpeningStory top h x path modes.W o
  StateAt (putting.Adds file) o w = LeadsTo top h path file × FineWriting NotKind own w
  StateAt (putting.Saves s) o w = SaveAt s

  abbrev pub PutAt : PutFile → Type 0
  PutAt p = StateAt p.state p.opening p.write.state

  -- and once it has its file
  abbrev FileAt : Writing → Putting → Type 0
  FileAt w putting.Idle = Unit {0}
  FileAt w putting.Opens = ⊥
  FileAt w (putting.Adds file) = LeadsTo top h path file × FineWriting NotKind own w
  FileAt w (putting.Saves s) = SaveAt s

  with-file : (state : Putting) (o : Opening) (w : Writing) → FileAt w state → StateAt state o w
  with-file putting.Idle o w f = tt
  with-file putting.Opens o w f = absurd f
  with-file (putting.Adds file) o w f = f
  with-file (putting.Saves s) o w f = f

  abbrev FileThen : Writing → Step → Putting → Type 0
  FileThen w next state = ThenOf (FileAt w) PutAnswer next state

  file-then : (w : Writing) (to : Step) (at : Putting) (next : Step) (state : Putting) → next ≡ to → state ≡ at → FileThen w to at → FileThen w next state
  file-then w to at next state is same t = subst (λ (n : Step). FileThen w n state) (sym is) (subst (λ (s : Putting). FileThen w to s) (sym same) t)

  file-done : (w : Writing) (answer : Answer) (next : Step) (state : Putting) → next ≡ nexts.Done answer → PutAnswer answer → FileThen w next state
  file-done w answer next state is a = subst (λ (n : Step). FileThen w n state) (sym is) a

  -- ---- its save

  put-follows : (others : ℕ) (w : Writing) (s : Saving) (gives : _) (saved : Saving) (lane : ℕ) (was : Shelf) (next : Step) (state : Putting) (after : Shelf)
      → LeadsTo top h path s.file → SaveSteps (Committed h x (length h) s.file) others s (syncs.sync_next gives) saved → SaveFine NotKind own (syncs.sync_next gives) saved
      → (gives ≡ ends_as (Ok tt) → LastNames s.file) → puts.Follows gives lane saved was next state after → FileThen w next state
  put-follows others w s gives saved lane was next state after leads steps fine last goes = by-step
      (λ g. SaveSteps (Committed h x (length h) s.file) others s (syncs.sync_next g) saved → SaveFine NotKind own (syncs.sync_next g) saved → (g ≡ ends_as (Ok tt) → LastNames s.file)
      → puts.Follows g lane saved was next state after → FileThen w next state)
      (λ call c f l g. file-then w (nexts.Send call) (putting.Saves saved) next state g.0 g.1 (on c.file c.again f.1))
      (λ c f l g. file-then w nexts.Wait (putting.Saves saved) next state g.0 g.1 (on c.file c.again f.1))
      ended gives steps fine last goes
    where
      on : saved.file ≡ s.file → (saves.is_again saved.phase ≡ true → Committed h x (length h) s.file) → FineOption NotKind saved.refusal → SaveAt saved
      on file again kept_fine = (
        subst (LeadsTo top h path) (sym file) leads,
        λ is. subst (Committed h x (length h)) (sym file) (again is),
        kept_fine,
      )

      ended : (result : Result (Unit {0}) Fault) → SaveSteps (Committed h x (length h) s.file) others s (syncs.sync_next (ends_as result)) saved
          → SaveFine NotKind own (syncs.sync_next (ends_as result)) saved → (ends_as result ≡ ends_as (Ok tt) → LastNames s.file)
          → puts.Follows (ends_as result) lane saved was next state after → FileThen w next state
      ended (Ok done) c f l g =
          file-done w (answers.Done values.Nothing) next state g.next_is (refl, record { f = s.file; leads = leads; committed = c.ended; last = l refl })
      ended (Err fault) c f l g = file-done w (answers.Refused fault) next state g.next_is (other-answer fault f.0)

  put-queues : (b : Bool) (w : Writing) (wsize lane : ℕ) (turn : Turn) (s : Saving) (was : Shelf) (next : Step) (state : Putting) (after : Shelf) → SaveAt s
      → puts.QueuesIf b wsize lane turn s was next state after → FileThen w next state
  put-queues true w wsize lane turn s was next state after at q =
      put-follows (of_saving s) w s q.gives q.saved lane q.gone next state after at.0
      (goes-steps (Committed h x (length h) s.file) wsize turn.xid turn.room false s was.back q.gives q.saved q.gone.back at.1 q.goes)
      (goes-fine NotKind own wsize turn.xid turn.room false s was.back q.gives q.saved q.gone.back at.2 q.goes)
      (λ is. absurd (goes-not-well wsize turn.xid turn.room s was.back q.gives q.saved q.gone.back q.goes is)) q.follows
  put-queues false w wsize lane turn s was next state after at q = file-then w nexts.Wait (putting.Saves s) next state q.next_is q.state_is at

  -- ---- its write

  after-write : (told : Step) (w : Writing) (wsize lane : ℕ) (file : List ℕ) (turn : Turn) (was : Shelf) (next : Step) (state : Putting) (after : Shelf) → LeadsTo top h path file
      → WriteFine NotKind own told w → puts.AfterWrite told wsize lane file turn was next state after → FileThen w next state
  after-write (nexts.Send call) w wsize lane file turn was next state after l f a = file-then w (nexts.Send call) (putting.Adds file) next state a.0 a.1 (l, f.1)
  after-write nexts.Wait w wsize lane file turn was next state after l f a = file-then w nexts.Wait (putting.Adds file) next state a.0 a.1 (l, f.1)
  after-write (nexts.Done (answers.Done value)) w wsize lane file turn was next state after l f a =
      put-queues (is_first lane (joined lane file was).order) w wsize lane turn (saves.begun file was.seq) (joined lane file was) next state after (l, (λ again. absurd cc), tt) a
  after-write (nexts.Done (answers.Refused fault)) w wsize lane file turn was next state after l f a = file-done w (answers.Refused fault) next state a.next_is (other-answer fault f.0)

  -- the machine after a step that changed its state and its write
  to-put : (next : Step) (w : Writing) (new : PutFile) → new.write.state ≡ w → FileThen w next new.state → ThenOf PutAt PutAnswer next new
  to-put next w new is t = by next t
    where
      at : FileAt w new.state → PutAt new
      at f = with-file new.state new.opening new.write.state (subst (λ (k : Writing). FileAt k new.state) (sym is) f)

      by : (n : Step) → FileThen w n new.state → ThenOf PutAt PutAnswer n new
      by (nexts.Send call) f = at f
      by nexts.Wait f = at f
      by (nexts.Done answer) f = f

  writes-on : (wsize : ℕ) (m : PutFile) (file : List ℕ) (turn : Turn) (told : Step) (written : Writing) (mid : Shelf) (next : Step) (new : PutFile) (after : Shelf)
      → LeadsTo top h path file → WriteFine NotKind own told written → puts.WritesOn wsize m file turn told written mid next new after → ThenOf PutAt PutAnswer next new
  writes-on wsize m file turn told written mid next new after l f w =
      to-put next written new (ap (λ (p : PutFile). p.write.state) w.machine_is) (after-write told written wsize m.write.lane file turn mid next new.state after l f w.follows)

  -- ---- its opening

  file-leads : (d file : List ℕ) → IsFileOf top h x path modes.W d file → LeadsTo top h path file
  file-leads d file (is_found l) = l
  file-leads d file (is_made making attr wcc mk a) = absurd (by mk)
    where
      by : asks.MakesFile modes.W d (last_of path) making → ⊥
      by (asks.unchecked is call) = cc
      by (asks.guarded is call) = cc

  put-kind : (d : List ℕ) → KindShown top h x path modes.W d → PutKind
  put-kind d k = record { f = k.got.f; attr = k.attr; leads = file-leads d k.got.f k.got.of; ends = k.got.ends; other = k.other }

  at-opening : (state : Putting) (o : Opening) (w : Writing) → state ≡ putting.Opens → OpeningStory top h x path modes.W o → StateAt state o w
  at-opening state o w is s = subst (λ (k : Putting). StateAt k o w) (sym is) s

  after-opening : (d : List ℕ) (step : OpeningStep) (wsize : ℕ) (m : PutFile) (turn : Turn) (was : Shelf) (next : Step) (new : PutFile) (after : Shelf) → m.state ≡ putting.Opens
      → NextStory top h x path modes.W step m.opening → NextFile top h x path modes.W d step → puts.AfterOpening step wsize m turn was next new after → ThenOf PutAt PutAnswer next new
  after-opening d (openings.Send call) wsize m turn was next new after is s f a =
      then-as PutAt PutAnswer (nexts.Send call) next new a.0 (subst PutAt (sym a.1) (at-opening m.state m.opening m.write.state is s))
  after-opening d openings.Wait wsize m turn was next new after is s f a =
      then-as PutAt PutAnswer nexts.Wait next new a.next_is (subst PutAt (sym a.machine_is) (at-opening m.state m.opening m.write.state is s))
  after-opening d (openings.Ended (Ok file)) wsize m turn was next new after is s f a =
      writes-on wsize m file turn a.told a.written a.mid next new after (file-leads d file f)
      (writes-fine NotKind own wsize m.write.lane file m.write.offset (made_bytes m.write.text) turn (puts.put_at m.write.lane file was) a.told a.written a.mid a.writes) a.goes
  after-opening d (openings.Ended (Err fault)) wsize m turn was next new after is s f a =
      then-as PutAt PutAnswer (nexts.Done (answers.Refused fault)) next new a.0 (λ same. put-kind m.opening.dir (s same))

  -- ---- steps without a reply

  pub put-resumes : (at : Putting) (wsize : ℕ) (m : PutFile) (turn : Turn) (was : Shelf) (next : Step) (new : PutFile) (after : Shelf) → m.state ≡ at → StateAt at m.opening m.write.state
      → puts.Resumes at wsize m turn was next new after → ThenOf PutAt PutAnswer next new
  put-resumes putting.Idle wsize m turn was next new after is s r =
      then-as PutAt PutAnswer nexts.Wait next new r.next_is (subst PutAt (sym r.machine_is) (subst (λ (k : Putting). StateAt k m.opening m.write.state) (sym is) tt))
  put-resumes putting.Opens wsize m turn was next new after is s r = by (opening.waits m.opening turn) r.0
    where
      here : PutAt new
      here = subst PutAt (sym r.1) (at-opening m.state (opening.go_after m.opening turn) m.write.state is (go-story top h x path modes.W m.opening turn s))

      by : (b : Bool) → next ≡ opens.goes_as (if b then openings.Wait else openings.Send (opening.call_of m.opening m.opening.step)) → ThenOf PutAt PutAnswer next new
      by true n = then-as PutAt PutAnswer nexts.Wait next new n here
      by false n = then-as PutAt PutAnswer (nexts.Send (opening.call_of m.opening m.opening.step)) next new n here
  put-resumes (putting.Adds file) wsize m turn was next new after is s r =
      writes-on wsize m file turn r.told r.written r.mid next new after s.0 (write-resumes NotKind own m.write.state wsize m.write.lane turn was r.told r.written r.mid s.1 r.resumes) r.goes
  put-resumes (putting.Saves saving) wsize m turn was next new after is s r =
      to-put next m.write.state new (ap (λ (p : PutFile). p.write.state) r.1)
      (put-queues (is_first m.write.lane was.order) m.write.state wsize m.write.lane turn saving was next new.state after s r.0)

  -- ---- steps with what came of a call

  module _ (came : Result Reply Fault) (call : Call) (told : OpeningTold top h x path modes.W came call) where
    came-fault : (fault : Fault) → came ≡ Err fault → fault ≡ faults.Kind → ⊥
    came-fault fault is same = not-kind h x call fault (told.refused fault is) same

    -- the COMMIT that the reply answers is that of its file
    commit-shown : (s : Saving) → PutExpects (putting.Saves s) call → saves.is_sending s.phase ≡ false → (verf : Verf) → commit_told came ≡ Ok verf → Committed h x (length h) s.file
    commit-shown s expects idle verf is =
        let c = told-commit came verf is in
        record {
          wcc = c.wcc;
          verf = verf;
          asked = subst (λ (k : Call). Asked h x (length h) k (replies.File (kept.Commit c.wcc verf))) (expects idle) (told.heard (replies.File (kept.Commit c.wcc verf)) c.is).asked;
        }

    -- a save that ends well ends with a reply
    last-shown : (c : Result Reply Fault) → came ≡ c → (wsize : ℕ) (sent turn : Turn) (repeats : _) (s : Saving) (back : _) (gives : _) (saved : Saving) (after : _) (later : _)
        → NamesFile s.file call → saves.Takes wsize sent turn c repeats s back gives saved after later → gives ≡ ends_as (Ok tt) → LastNames s.file
    last-shown (Ok reply) is wsize sent turn repeats s back gives saved after later names t ends =
        record { call = call; reply = reply; names = names; ends = (told.heard reply is).ends }
    last-shown (Err fault) is wsize sent turn repeats s back gives saved after later names t ends =
        absurd (takes-ill wsize sent turn fault repeats s back gives saved after later t ends)

    pub put-takes : (at : Putting) (wsize : ℕ) (m : PutFile) (sent turn : Turn) (was : Shelf) (next : Step) (new : PutFile) (after : Shelf) (others : ℕ) → IsNamed path → m.state ≡ at
        → of_putting at m.opening m.write.state ≡ others + 1 → StateAt at m.opening m.write.state → PutAwaits at m.opening call → PutExpects at call → PutNames at call
        → puts.Takes at wsize m sent turn came was next new after → ThenOf PutAt PutAnswer next new
    put-takes putting.Idle wsize m sent turn was next new after others named is one s awaits expects names t = absurd (omega (arith, one))
    put-takes putting.Opens wsize m sent turn was next new after others named is one s awaits expects names t =
        let again = opening.opening_again m.opening sent turn came was.repeats in
        let led = opening.led_on m.opening turn.now came t.took.attrs was.pages in
        let mine : OpeningTold top h x path modes.W came (opening.call_of m.opening m.opening.step) = subst (OpeningTold top h x path modes.W came) awaits told in
        after-opening m.opening.dir t.step wsize (puts.led again m turn came t.took.attrs was.pages) turn t.took next new after is
        (led-next top h x path modes.W again m.opening sent turn led t.step was.pages t.took.pages s
        (led-on top h x path modes.W m.opening turn.now came t.took.attrs was.pages named s mine) t.leads)
        (next-file top h x path modes.W again m.opening sent turn led t.step was.pages t.took.pages
        (led-file top h x path modes.W m.opening turn.now came t.took.attrs was.pages named s mine) t.leads) t.follows
    put-takes (putting.Adds file) wsize m sent turn was next new after others named is one s awaits expects names t =
        writes-on wsize m file turn t.told t.written t.mid next new after s.0
        (write-takes NotKind own m.write.state wsize m.write sent turn came was t.told t.written t.mid (write-fits sent came m.write.state was.back (came-fine came came-fault)) s.1 t.takes) t.goes
    put-takes (putting.Saves saving) wsize m sent turn was next new after others named is one s awaits expects names t =
        to-put next m.write.state new (ap (λ (p : PutFile). p.write.state) t.1)
        (put-follows others m.write.state saving t.0.gives t.0.saved m.write.lane t.0.took next new.state after s.0
        (takes-steps (Committed h x (length h) saving.file) wsize sent turn came was.repeats saving was.back t.0.gives t.0.saved t.0.took.back t.0.took.repeats others one s.1
        (commit-shown saving expects) t.0.takes)
        (takes-fine NotKind own wsize sent turn came was.repeats saving was.back t.0.gives t.0.saved t.0.took.back t.0.took.repeats
        (any-fits NotKind own (λ rule. tt) sent came saving was.back (came-fine came came-fault)) s.2 t.0.takes)
        (last-shown came refl wsize sent turn was.repeats saving was.back t.0.gives t.0.saved t.0.took.back t.0.took.repeats names t.0.takes) t.0.follows)
