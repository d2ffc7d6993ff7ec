-- What came of the call for which an operation waits is a reply to that call, so P holds of whatever the operation makes of it.
use Rattle.core_answers.proofs.Prelude.{◌≡◌, ◌==◌, inl, inr, ℕ, Bool, true, false, List, Option, Some, None, Result, Ok, Err, refl, sym, ap, subst, ◌∙◌, if◌then◌else◌, Attr, Verf, DirKept, PlusRow, Fault, Call, Reply, look_up, page_reply, Pending, Sent, Turn, Closing, Opening, OpeningPhase, PutFile, Putting, Phase, Reading, Saving, Syncing, Truncating, Writing, place_after, Said, part, refusal, said_to, DirDeed, ListDir, Pair, Deed, Look, Seek, Move, Remove, RemoveFile, Stat, Visit, Walk, access_call, deed_call, deed_told, link_call, text_call, rename_call, sym_link_call, FileMachine, Machine, NameMachine, PathMachine, file_of, PutAwaits, PathOr, WalkAwaits, OwnOr, FineResult, FineOption, flies_if, flies_save, flies_write, flies_sync, flies_close, flies_put, flies_file, flies_path, RemoveAwaits}
use Rattle.core_facts.proofs.AllAwaited.{FileAwaits}
use Rattle.core_facts.proofs.Awaited.{PairOr}
use Rattle.core_facts.proofs.NamesAwaited.{NameAwaits}
use Rattle.nfs_dir_calls.specs.declared.keeping.DirKept.TheVariants as found
use Rattle.world_model.specs.declared.answer.Fault.TheVariants as faults
use Rattle.world_model.specs.declared.message.Reply.TheVariants as replies
use Rattle.file_ops.specs.declared.close_file.Closing.TheVariants as closing
use Rattle.file_ops.specs.declared.opening.Led.TheVariants as leads
use Rattle.file_ops.specs.declared.opening.OpeningPhase.TheVariants as opening_steps
use Rattle.file_ops.specs.declared.put_file.Putting.TheVariants as putting
use Rattle.file_ops.specs.declared.reading.Phase.TheVariants as phases
use Rattle.file_ops.specs.declared.sync_file.Syncing.TheVariants as syncing
use Rattle.file_ops.specs.declared.truncate_file.Truncating.TheVariants as truncating
use Rattle.file_ops.specs.declared.write_file.Writing.TheVariants as writing
use Rattle.file_ops.specs.Opening as opening
use Rattle.file_ops.specs.Saves as saves
use Rattle.file_ops.specs.Told as told
use Rattle.name_ops.specs.declared.dir_change.DirDeed.TheVariants as deeds
use Rattle.name_ops.specs.ListDir as listing
use Rattle.name_ops.specs.RemoveFile as removals
use Rattle.name_ops.specs.Stat as stats
use Rattle.name_ops.specs.Walking as walking
use Rattle.op_machines.specs.declared.file_machine.FileMachine.TheVariants as files
use Rattle.op_machines.specs.declared.machine.Machine.TheVariants as machines
use Rattle.op_machines.specs.declared.name_machine.NameMachine.TheVariants as names
use Rattle.core_answers.proofs.asks.CallsAwaited.{Expects, PathNames}
use Rattle.core_answers.proofs.asks.FilesAwaited.{SyncNames, WriteNames, CloseNames, CutNames, StateNames, FileNames}
use Rattle.core_answers.proofs.asks.ReadsAwaited.{PhaseNames, ReadNames}
use Rattle.core_answers.proofs.asks.SavedCalls.{Saves}
use Rattle.core_answers.proofs.answers.PieceSteps.{IsPiece}
use Rattle.core_answers.proofs.answers.SaveFaults.{CallFaults, FitsSave}
use Rattle.core_answers.proofs.answers.WriteFaults.{FitsWrite}
use Rattle.core_answers.proofs.writes.AllFits.{CallFits, commits_path}
use Rattle.core_answers.proofs.writes.CallFits.{Fits, commits_save, commits_write, commits_sync, commits_close, commits_put, commits_file}
use Rattle.core_answers.proofs.refusals.FitAll.{FitsFile, FitsPath, FitsMachine}
use Rattle.core_answers.proofs.refusals.FitFiles.{FitsSync, FitsClose, FitsCut, FitsPut}
use Rattle.core_answers.proofs.refusals.FitNames.{FitsWalk, FitsOwn, FitsStat, FitsPair, FitsTwo, FitsDeed, FitsRemoval, FitsName, PageFits}
use Rattle.core_answers.proofs.refusals.FitReads.{FineLed, FitsOpening, FitsPhase, FitsRead, FineSaid}
use Rattle.core_answers.proofs.refusals.Replied as replied
use Rattle.core_answers.proofs.refusals.Replied.{Given, given-as, page-fault}

-- a page of names is a reply to READDIRPLUS
record IsPage (came : Result Reply Fault) (verf : Verf) (page : List PlusRow) (eof : Bool) : Type 0 where
  attr : Option Attr
  is : came ≡ Ok (page_reply attr verf page eof)

page-by : (reply : DirKept) (heard : _) → listing.page_heard (Ok (replies.Dir reply)) ≡ Ok heard → IsPage (Ok (replies.Dir reply)) heard.verf heard.page heard.eof
page-by (found.ReadDirPlus attr verf page eof) heard is =
    let this : record { page = page; verf = verf; eof = eof } ≡ heard = cc in
    subst (λ (p : _). IsPage (Ok (replies.Dir (found.ReadDirPlus attr verf page eof))) p.verf p.page p.eof) this (record { attr = attr; is = refl })
page-by (found.ReadDirPlusFail status attr) heard is = absurd (cc)
page-by reply heard is = absurd (cc)

page-of : (came : Result Reply Fault) (heard : _) → listing.page_heard came ≡ Ok heard → IsPage came heard.verf heard.page heard.eof
page-of (Ok (replies.Dir reply)) heard is = page-by reply heard is
page-of (Ok (replies.File reply)) heard is = absurd (cc)
page-of (Ok (replies.Mount reply)) heard is = absurd (cc)
page-of (Err fault) heard is = absurd (cc)

-- an operation that opens a file, and one that lists
abbrev pub OpensFile : FileMachine → Type 0
OpensFile (files.Open m) = Unit {0}
OpensFile (files.Put m) = Unit {0}
OpensFile m = ⊥

abbrev pub IsOpener : Machine → Type 0
IsOpener (machines.File m) = OpensFile m
IsOpener (machines.Path m) = Unit {0}
IsOpener (machines.Name m) = ⊥

abbrev pub ListsNames : NameMachine → Type 0
ListsNames (names.List m) = Unit {0}
ListsNames m = ⊥

abbrev pub IsLister : Machine → Type 0
IsLister (machines.File m) = ⊥
IsLister (machines.Path m) = ⊥
IsLister (machines.Name m) = ListsNames m

module _ (P : Fault → Type 0) (own : CallFaults P) (xid : ℕ) (rec : List ℕ) (call : Call) (came : Result Reply Fault) (g : Given P own xid rec call came) where
  at : (to : Call) → call ≡ to → Given P own xid rec to came
  at to is = given-as P own xid rec call to came is g

  -- ---- names

  walk-fits : (w : Walk) → WalkAwaits w call → FitsWalk P own (walking.waiting_name w) came
  walk-fits w e = by (walking.waiting_name w) refl
    where
      by : (o : Option (List ℕ)) → walking.waiting_name w ≡ o → FitsWalk P own o came
      by None is = tt
      by (Some name) is = replied.looked P own xid rec w.spot.dir name came (at (look_up w.spot.dir name) (e name is))

  own-fits : (b : Bool) (of : List ℕ → Call) (R : Type 0) (v : Visit) → OwnOr b of v.walk call → (call ≡ of v.walk.spot.dir → R) → FitsOwn P own b R v came
  own-fits true of R v e f = f e
  own-fits false of R v e f = walk-fits v.walk e

  deed-fits : (deed : DirDeed) (name d : List ℕ) → call ≡ deed_call deed name d → FineOption P (deed_told deed came).refusal
  deed-fits deeds.Make name d is = replied.dir-made P own xid rec name d came (at (deed_call deeds.Make name d) is)
  deed-fits deeds.Remove name d is = replied.dir-removed P own xid rec name d came (at (deed_call deeds.Remove name d) is)

  stat-fits : (b : Bool) (m : Stat) → OwnOr b stats.get_attr m.walk call → FitsStat P own b m came
  stat-fits true m e = replied.got-attr P own xid rec m.walk.spot.dir came (at (stats.get_attr m.walk.spot.dir) e)
  stat-fits false m e = walk-fits m.walk e

  removal-deed : (m : RemoveFile) (deed : Deed) → call ≡ removals.call_of m deed → FitsDeed P own deed came
  removal-deed m Look e = replied.looked P own xid rec m.walk.spot.dir m.name came (at _ e)
  removal-deed m (Seek file to) e = λ fault is found_.
      let fine = replied.looked P own xid rec m.walk.spot.dir to came (at _ e) in
      subst (λ (r : Result (List ℕ) Fault). FineResult P r) is fine
  removal-deed m (Move file to) e = replied.moved P own xid rec m.walk.spot.dir m.name m.walk.spot.dir to came (at _ e)
  removal-deed m Remove e = replied.removed P own xid rec m.walk.spot.dir m.name came (at _ e)

  removal-fits : (deed : Option Deed) (m : RemoveFile) → RemoveAwaits deed m call → FitsRemoval P own deed m came
  removal-fits (Some deed) m e = λ asked. removal-deed m deed e
  removal-fits None m e = walk-fits m.walk e

  pair-fits : (b first : Bool) (of : List ℕ → List ℕ → Call) (R : Type 0) (p : Pair) → p.first.asked ≡ first → PairOr b first of p call → (call ≡ of p.first.spot.dir p.second.spot.dir → R)
      → FitsTwo P own b R p came
  pair-fits true first of R p is e f = f e
  pair-fits false true of R p is e f = subst (λ (b : Bool). FitsPair P own b p came) (sym is) (walk-fits p.first e)
  pair-fits false false of R p is e f = subst (λ (b : Bool). FitsPair P own b p came) (sym is) (walk-fits p.second e)

  page-fits : (many : P faults.Many) (m : ListDir) (d : List ℕ) → call ≡ listing.page_call m.place d → PageFits P own m came
  page-fits many m d is = (
    replied.listed P own xid rec d m.place.cookie m.place.verf came (at (listing.page_call m.place d) is),
    λ heard fault came_is step.
        let k = page-of came heard came_is in
        page-fault P own xid rec many d m.place.cookie m.place.verf heard.verf k.attr m.listing heard.page heard.eof fault
        (subst (Given P own xid rec (listing.page_call m.place d)) k.is (at (listing.page_call m.place d) is)) step,
  )

  name-fits : (m : NameMachine) → NameAwaits m call → (ListsNames m → P faults.Many) → FitsName P own m came
  name-fits (names.Change m) e many = own-fits m.visit.asked (deed_call m.deed m.name) _ m.visit e (λ is. deed-fits m.deed m.name m.visit.walk.spot.dir is)
  name-fits (names.Stat m) e many = stat-fits m.asked m e
  name-fits (names.Access m) e many = own-fits m.visit.asked (access_call m.bits) _ m.visit e (λ is. replied.accessed P own xid rec m.bits m.visit.walk.spot.dir came (at _ is))
  name-fits (names.ReadLink m) e many = own-fits m.visit.asked text_call _ m.visit e (λ is. replied.text P own xid rec m.visit.walk.spot.dir came (at _ is))
  name-fits (names.Remove m) e many = removal-fits m.deed m e
  name-fits (names.Rename m) e many = pair-fits m.pair.asked m.pair.first.asked (rename_call m.from m.to) _ m.pair refl e
      (λ is. replied.moved P own xid rec m.pair.first.spot.dir m.from m.pair.second.spot.dir m.to came (at _ is))
  name-fits (names.Link m) e many = pair-fits m.pair.asked m.pair.first.asked (link_call m.name) _ m.pair refl e
      (λ is. replied.linked P own xid rec m.name m.pair.first.spot.dir m.pair.second.spot.dir came (at _ is))
  name-fits (names.SymLink m) e many = own-fits m.visit.asked (sym_link_call m.name m.target) _ m.visit e
      (λ is. replied.linked-to P own xid rec m.name m.target m.visit.walk.spot.dir came (at _ is))
  name-fits (names.List m) e many = own-fits m.visit.asked (listing.page_call m.place) _ m.visit e (λ is. page-fits (many tt) m m.visit.walk.spot.dir is)

  -- ---- openings

  look-led : (b : Bool) (r : Result (List ℕ) Fault) → FineResult P r → FineLed P own (if b then leads.Goes opening_steps.Make else opening.found r)
  look-led true r f = tt
  look-led false (Ok file) f = tt
  look-led false (Err fault) f = f

  found-led : (r : Result (List ℕ) Fault) → FineResult P r → FineLed P own (opening.found r)
  found-led (Ok file) f = tt
  found-led (Err fault) f = f

  made-led : (r : Result (Option (List ℕ)) Fault) → FineResult P r → FineLed P own (opening.made r)
  made-led (Ok (Some file)) f = tt
  made-led (Ok None) f = tt
  made-led (Err fault) f = f

  got-led : (kind : P faults.Kind) (file : List ℕ) (r : Result Attr Fault) → FineResult P r → FineLed P own (opening.got file r)
  got-led kind file (Ok attr) f = by (attr.kind == 1)
    where
      by : (b : Bool) → FineLed P own (if b then leads.Opens file attr else leads.Ends faults.Kind)
      by true = tt
      by false = kind
  got-led kind file (Err fault) f = f

  opening-fits : (kind : P faults.Kind) (o : Opening) → call ≡ opening.call_of o o.step → FitsOpening P own o came
  opening-fits kind o e = by o.step e
    where
      by : (s : OpeningPhase) → call ≡ opening.call_of o s → FineLed P own (opening.led_to o.mode s came)
      by opening_steps.Look is = look-led (opening.makes o.mode came) (told.found_by came) (replied.found-file P own xid rec o.dir o.name came (at _ is))
      by opening_steps.Make is = made-led (told.made_by came) (replied.made-file P own xid rec o.dir o.name (opening.making_of o.mode) came (at _ is))
      by opening_steps.Find is = found-led (told.found_by came) (replied.found-file P own xid rec o.dir o.name came (at _ is))
      by (opening_steps.Ask file) is = got-led kind file (told.got_by came) (replied.got-file P own xid rec file came (at _ is))

  -- ---- reads

  said-as : (s : Said) → replied.SaidFine P own xid rec s → FineSaid P own s
  said-as (part attr eof bytes) f = tt
  said-as (refusal attr fault) f = f

  phase-fits : (p : Phase) (r : Reading) → PhaseNames p r call → FitsPhase P own p came
  phase-fits phases.Attrs r e = tt
  phase-fits phases.AskedAttrs r e = replied.got-file P own xid rec r.file came (at _ e)
  phase-fits phases.Pages r e = tt
  phase-fits phases.Rest r e = tt
  phase-fits (phases.Asked count) r e = said-as (said_to count came) (replied.read P own xid rec r.file (place_after r.base) count came (at _ e))
  phase-fits phases.Ended r e = tt

  read-fits : (o : Option Reading) → ReadNames o call → FitsRead P own o came
  read-fits None e = tt
  read-fits (Some r) e = phase-fits r.phase r e

  -- ---- saves

  module _ (sent : Turn) (back : Pending) (piece : (reply : Reply) → came ≡ Ok reply → IsPiece sent.xid call back) where
    save-fits : (s : Saving) → Saves s.file call → Fits (flies_save s) (commits_save s) call → FitsSave P own sent came s back
    save-fits s e k = replied.save P own xid rec call sent came s back (sends e) (idle e) piece g
      where
        sends : Saves s.file call → saves.is_sending s.phase ≡ true → (p : Sent) × (call ≡ saves.write_of s.file p)
        sends (inl w) is = w
        sends (inr c) is = absurd (
            let flies : flies_save s ≡ Some s.file = ap (λ (b : Bool). flies_if b s.file) is in
            let w = subst (λ (c : Call). Fits (flies_save s) (commits_save s) c) c k in
            let no_way : None ≡ Some s.file = w.sends s.file flies in cc)

        idle : Saves s.file call → saves.is_sending s.phase ≡ false → call ≡ saves.commit_of s.file
        idle (inr c) is = c
        idle (inl w) is = absurd (
            let flies : flies_save s ≡ None = ap (λ (b : Bool). flies_if b s.file) is in
            let c = subst (λ (c : Call). Fits (flies_save s) (commits_save s) c) w.1 k in
            let no_way : None ≡ Some s.file = sym flies ∙ c.writes s.file refl in cc)

    sync-fits : (s : Syncing) → SyncNames s call → Fits (flies_sync s) (commits_sync s) call → FitsSync P own sent came s back
    sync-fits syncing.Idle e k = tt
    sync-fits (syncing.Saves s) e k = save-fits s e k

    close-fits : (s : Closing) → CloseNames s call → Fits (flies_close s) (commits_close s) call → FitsClose P own sent came s back
    close-fits closing.Idle e k = tt
    close-fits (closing.Queued s) e k = tt
    close-fits (closing.Saves s) e k = save-fits s e k
    close-fits (closing.ToRemove removal) e k = tt
    close-fits (closing.Removing removal) e k = tt

    write-fits : (s : Writing) → WriteNames s call → Fits (flies_write s) (commits_write s) call → FitsWrite P own sent came s back
    write-fits writing.Idle e k = tt
    write-fits (writing.Room file s) e k = save-fits s e k

    cut-fits : (s : Truncating) (size : ℕ) → CutNames size s call → FitsCut P own s came
    cut-fits truncating.Idle size e = tt
    cut-fits (truncating.Queued file upto) size e = tt
    cut-fits (truncating.Asked file upto) size e = replied.sized P own xid rec file size came (at _ e)

    -- the calls of a put, by its state
    abbrev StateFits : Putting → PutFile → Type 0
    StateFits putting.Idle m = Unit {0}
    StateFits putting.Opens m = Unit {0}
    StateFits (putting.Adds file) m = WriteNames m.write.state call × Fits (flies_write m.write.state) (commits_write m.write.state) call
    StateFits (putting.Saves s) m = Saves s.file call × Fits (flies_save s) (commits_save s) call

    state-fits : (s : Putting) (m : PutFile) → StateNames s m.write.state call → Fits (flies_put s m.write.state) (commits_put s m.write.state) call → StateFits s m
    state-fits putting.Idle m e k = tt
    state-fits putting.Opens m e k = tt
    state-fits (putting.Adds file) m e k = (e, k)
    state-fits (putting.Saves s) m e k = (e, k)

    put-fits : (kind : P faults.Kind) (s : Putting) (m : PutFile) → PutAwaits s m.opening call → StateFits s m → FitsPut P own sent came s m back
    put-fits kind putting.Idle m a e = tt
    put-fits kind putting.Opens m a e = opening-fits kind m.opening a
    put-fits kind (putting.Adds file) m a e = write-fits m.write.state e.0 e.1
    put-fits kind (putting.Saves s) m a e = save-fits s e.0 e.1

    file-fits : (m : FileMachine) → FileAwaits m call → FileNames m call → Fits (flies_file m) (commits_file m) call → (OpensFile m → P faults.Kind) → FitsFile P own sent came m back
    file-fits (files.Open m) a e k kind = opening-fits (kind tt) m.opening a
    file-fits (files.Read m) a e k kind = read-fits m.reading e
    file-fits (files.Write m) a e k kind = write-fits m.state e k
    file-fits (files.Sync m) a e k kind = sync-fits m.state e k
    file-fits (files.Close m) a e k kind = close-fits m.state e k
    file-fits (files.Truncate m) a e k kind = cut-fits m.state m.size e
    file-fits (files.Put m) a e k kind = put-fits (kind tt) m.state m a (state-fits m.state m e k)

    path-fits : (b : Bool) (m : PathMachine) → PathOr b m call → PathNames b m call → Fits (flies_path b m.opener) (commits_path b m.opener) call → P faults.Kind → FitsPath P own b sent came m back
    path-fits true m a e k kind = file-fits (file_of m.opener) a e k (λ opens. kind)
    path-fits false m a e k kind = walk-fits m.walk a

    pub machine-fits : (machine : Machine) → Expects machine call → CallFits machine call → (IsOpener machine → P faults.Kind) → (IsLister machine → P faults.Many)
        → FitsMachine P own sent came machine back
    machine-fits (machines.File m) e k kind many = file-fits m e.0 e.1 k kind
    machine-fits (machines.Path m) e k kind many = path-fits m.arrived m e.0 e.1 k (kind tt)
    machine-fits (machines.Name m) e k kind many = name-fits m e.0 many
