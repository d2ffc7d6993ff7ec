-- What an open, a read or an operation on names makes of the kept pages where its call was answered, and of its moment.
use Rattle.core_counts.proofs.Prelude.{◌≡◌, ◌≤◌, ℕ, Bool, true, false, List, Option, Some, None, Result, Ok, Err, refl, sym, ap, subst, ◌∙◌, if◌then◌else◌, Attr, Stamp, Attrs, FileKept, Pages, known_of, after_page, Pending, Fault, Call, Reply, Step, Repeat, Shelf, Turn, WalkStep, Led, Opening, OpeningPhase, OpeningStep, ReadFile, Phase, Reading, place_after, part, refusal, said_to, said_by, breaks_rule, got_by, FileMachine, Machine, NameMachine, Opener, PathMachine, file_of, Takes, kept-as, Both}
use Rattle.page_cache.specs.Pages.{opened}
use Rattle.op_machines.specs.Openers.{placed}
use Rattle.core_answers.proofs.pages.NamePages.{walk-takes-kept, name-takes-kept}
use Rattle.core_answers.proofs.pages.PageCalls.{PhaseAwaits, ReadAwaits}
use Rattle.xdr_codec.specs.declared.blob.Memory as memory
use Rattle.nfs_file_calls.specs.declared.call.FileCall.TheVariants as file_calls
use Rattle.nfs_file_calls.specs.declared.owned.FileKept.TheVariants as kept
use Rattle.world_model.specs.declared.answer.Fault.TheVariants as faults
use Rattle.world_model.specs.declared.message.Call.TheVariants as calls
use Rattle.world_model.specs.declared.message.Reply.TheVariants as replies
use Rattle.name_ops.specs.declared.walk.WalkStep.TheVariants as walks
use Rattle.name_ops.specs.Walking as walking
use Rattle.file_ops.specs.declared.open_file.OpenFile.{OpenFile}
use Rattle.file_ops.specs.declared.opening.Led.TheVariants as leads
use Rattle.file_ops.specs.declared.opening.OpeningPhase.TheVariants as opening_steps
use Rattle.file_ops.specs.declared.opening.OpeningStep.TheVariants as openings
use Rattle.file_ops.specs.declared.reading.Phase.TheVariants as phases
use Rattle.file_ops.specs.Opening as opening
use Rattle.file_ops.specs.PagesOpened.{opened_pages, PagesOpened}
use Rattle.file_ops.specs.ReadFile as reads
use Rattle.file_ops.specs.Reading as reading
use Rattle.op_machines.specs.declared.file_machine.FileMachine.TheVariants as files
use Rattle.op_machines.specs.declared.machine.Machine.TheVariants as machines
use Rattle.op_machines.specs.declared.opener.Opener.TheVariants as openers
use Rattle.op_machines.specs.FileSteps as steps
use Rattle.op_machines.specs.PathSteps as paths
use Rattle.core_answers.proofs.bonds.FileCalls.{StepOn, OpeningOn, ReadOn, FileAsks}
use Rattle.core_answers.proofs.bonds.Learnt.{IsOn}
use Rattle.core_answers.proofs.bonds.MachineCalls.{PathOn, Asks}
use Rattle.core_session.proofs.current.FedPages.{as-shelf, gone-pages, settled-pages, file-resumes, got-is, told-opens, by-opens}
use Rattle.core_session.proofs.current.OpenMarks.{IsOpening}
use Rattle.core_session.proofs.current.ReadMarks.{ReadIn}
use Rattle.core_counts.proofs.thrift.KnownStates.{led-stamp}

-- A fact of the kept pages that stays where a file is opened with what GETATTR shows, or in its known state, and where the part that a READ gave is noted.
pub record TakeLaws (T : Pages → Type 0) (b : ℕ) (call : Call) (came : Result Reply Fault) (sent turn : Turn) : Type 0 where
  pub opens : (file : List ℕ) (attr : Attr) (mark : ℕ) (c : Pages) → mark ≤ b → came ≡ Ok (replies.File (kept.GetAttr attr)) → IsOn file call → T c → T (opened_pages file attr mark sent turn c)
  pub knows : (file : List ℕ) (stamp : Stamp) (mark : ℕ) (c : Pages) → mark ≤ b → known_of file c ≡ Some stamp → T c → T (opened file stamp mark c)
  pub notes : (file : List ℕ) (attr : Option Attr) (counted : ℕ) (eof : Bool) (given : List ℕ) (place count : ℕ) (c : Pages)
      → came ≡ Ok (replies.File (kept.Read attr counted eof given)) → call ≡ calls.File (file_calls.Read file place count) → breaks_rule count counted eof given ≡ false
      → T c → T (reading.noted attr file sent.moment place given eof c)

-- an open, a read or an operation on names, with a moment that isn't later
pub data IsQuiet (b : ℕ) (machine : Machine) : Type 0 where
  quiet_open : (nocto : Bool) (k : ℕ) → k ≤ b → IsOpening nocto k machine → IsQuiet b machine
  quiet_read : ReadIn (λ (r : Reading). r.moment ≤ b) machine → IsQuiet b machine
  quiet_name : (m : NameMachine) → machine ≡ machines.Name m → IsQuiet b machine

module _ (T : Pages → Type 0) (shows : (file : List ℕ) (index : ℕ) (c : Pages) → T c → T (after_page file index c)) (b : ℕ) (call : Call) (came : Result Reply Fault) (sent turn : Turn)
    (laws : TakeLaws T b call came sent turn) where
  pub as-pages : (old new : Pages) → new ≡ old → T old → T new
  as-pages old new is t = subst T (sym is) t

  -- ---- reads

  pages-opened : (result : Result (Unit {0}) memory.Memory) (file : List ℕ) (attr : Attr) (mark : ℕ) (c later : Pages) → mark ≤ b → came ≡ Ok (replies.File (kept.GetAttr attr)) → IsOn file call
      → PagesOpened file attr mark sent turn result c later → T c → T later
  pages-opened (Ok done) file attr mark c later low is on o t = as-pages _ later o (laws.opens file attr mark c low is on t)
  pages-opened (Err no_memory) file attr mark c later low is on o t = as-pages c later o.1 t

  from-settled : (room : Bool) (r : Reading) (c : Pages) (new : reading.State) → new ≡ reading.gone room (reading.settled r c) → T c → T new.pages
  from-settled room r c new is t =
      as-pages (reading.gone room (reading.settled r c)).pages new.pages (ap (λ (s : reading.State). s.pages) is)
      (gone-pages T shows room (reading.settled r c) (settled-pages T shows r.phase r c t))

  after-opened : (result : Result (Unit {0}) memory.Memory) (r : Reading) (c : Pages) (back : Pending) (next : Step) (new : reading.State)
      → reading.AfterOpened result turn r c back next new → T c → T new.pages
  after-opened (Ok done) r c back next new a t = from-settled turn.room (record r { phase = phases.Pages }) c new a.1 t
  after-opened (Err no_memory) r c back next new a t = as-pages c new.pages (ap (λ (s : reading.State). s.pages) a.1) t

  attrs-read : (told : Result Attr Fault) (again : Bool) (r : Reading) (c : Pages) (back : Pending) (next : Step) (new : reading.State) → r.moment ≤ b → got_by came ≡ told
      → ((reply : Reply) → came ≡ Ok reply → IsOn r.file call) → reading.TakesAttrs again told sent turn r c back next new → T c → T new.pages
  attrs-read (Ok attr) again r c back next new low got on a t =
      after-opened a.result r a.later back next new a.goes (pages-opened a.result r.file attr r.moment c a.later low (got-is came attr got) (on (replies.File (kept.GetAttr attr)) (got-is came attr got)) a.opens t)
  attrs-read (Err fault) again r c back next new low got on a t = as-pages c new.pages (ap (λ (s : reading.State). s.pages) a.1) t

  part-if : (broken : Bool) (attr : Option Attr) (counted : ℕ) (eof : Bool) (given : List ℕ) (count : ℕ) (r : Reading) (c : Pages) → breaks_rule count counted eof given ≡ broken
      → came ≡ Ok (replies.File (kept.Read attr counted eof given)) → call ≡ calls.File (file_calls.Read r.file (place_after r.base) count) → T c
      → T (reading.told sent turn (if broken then refusal attr (faults.Bad 5) else part attr eof given) r c).pages
  part-if true attr counted eof given count r c breaks is asked t = t
  part-if false attr counted eof given count r c breaks is asked t =
      let noted = reading.noted attr r.file sent.moment (place_after r.base) given eof c in
      let after = reading.added (reading.count_of r.phase) eof given r in
      gone-pages T shows turn.room (reading.settled after noted)
      (settled-pages T shows after.phase after noted (laws.notes r.file attr counted eof given (place_after r.base) count c is asked breaks t))

  file-part : (k : FileKept) (count : ℕ) (r : Reading) (c : Pages) → came ≡ Ok (replies.File k)
      → call ≡ calls.File (file_calls.Read r.file (place_after r.base) count) → T c → T (reading.told sent turn (said_by count (replies.File k)) r c).pages
  file-part (kept.Read attr counted eof given) count r c is asked t = part-if (breaks_rule count counted eof given) attr counted eof given count r c refl is asked t
  file-part (kept.ReadFail status attr) count r c is asked t = t
  file-part k count r c is asked t = t

  part-pages : (what : Result Reply Fault) (count : ℕ) (r : Reading) (c : Pages) → came ≡ what
      → ((reply : Reply) → came ≡ Ok reply → call ≡ calls.File (file_calls.Read r.file (place_after r.base) count)) → T c → T (reading.told sent turn (said_to count what) r c).pages
  part-pages (Ok (replies.File k)) count r c is asked t = file-part k count r c is (asked (replies.File k) is) t
  part-pages (Ok (replies.Dir k)) count r c is asked t = t
  part-pages (Ok (replies.Mount k)) count r c is asked t = t
  part-pages (Err fault) count r c is asked t = t

  heard-pages : (phase : Phase) (repeats : List Repeat) (r : Reading) (c : Pages) (back : Pending) (next : Step) (new : reading.State) → ((reply : Reply) → came ≡ Ok reply → PhaseAwaits phase r call)
      → reading.TakesPart (reading.heard phase came) sent turn repeats r c back next new → T c → T new.pages
  heard-pages phases.Attrs repeats r c back next new asked p t = as-pages c new.pages (ap (λ (s : reading.State). s.pages) p.1) t
  heard-pages phases.AskedAttrs repeats r c back next new asked p t = as-pages c new.pages (ap (λ (s : reading.State). s.pages) p.1) t
  heard-pages phases.Pages repeats r c back next new asked p t = as-pages c new.pages (ap (λ (s : reading.State). s.pages) p.1) t
  heard-pages phases.Rest repeats r c back next new asked p t = as-pages c new.pages (ap (λ (s : reading.State). s.pages) p.1) t
  heard-pages (phases.Asked count) repeats r c back next new asked p t =
      as-pages (reading.told sent turn (said_to count came) r c).pages new.pages (ap (λ (s : reading.State). s.pages) p.1) (part-pages came count r c refl asked t)
  heard-pages phases.Ended repeats r c back next new asked p t = as-pages c new.pages (ap (λ (s : reading.State). s.pages) p.1) t

  takes-read : (waits : Bool) (repeats : List Repeat) (r : Reading) (c : Pages) (back : Pending) (next : Step) (new : reading.State) → r.moment ≤ b → ((reply : Reply) → came ≡ Ok reply → PhaseAwaits r.phase r call)
      → ((reply : Reply) → came ≡ Ok reply → IsOn r.file call) → reading.TakesIf waits sent turn came repeats r c back next new → T c → T new.pages
  takes-read true repeats r c back next new low asked on p t = attrs-read (got_by came) _ r c back next new low refl on p t
  takes-read false repeats r c back next new low asked on p t = heard-pages r.phase repeats r c back next new asked p t

  read-takes : (of : Option Reading) (repeats : List Repeat) (m : ReadFile) (c : Pages) (back : Pending) (next : Step) (new : ReadFile) (later : Pages) → ((r : Reading) → of ≡ Some r → r.moment ≤ b)
      → ((reply : Reply) → came ≡ Ok reply → ReadAwaits of call) → ((reply : Reply) → came ≡ Ok reply → ReadOn of call) → reads.TakesIn of sent turn came repeats m c back next new later → T c → T later
  read-takes None repeats m c back next new later low asked on p t = as-pages c later p.kept t
  read-takes (Some r) repeats m c back next new later low asked on p t =
      as-pages p.state.pages later p.kept (takes-read (reading.waits_attrs r.phase) repeats r c back next p.state (low r refl) asked on p.step t)

  -- ---- opens

  file-opened : (result : Result (List ℕ) Fault) (file : List ℕ) (to old new : Pages) → opening.FileOpened file to result old new → T to → T old → T new
  file-opened (Ok file_is) file to old new f t u = as-pages to new f.1 t
  file-opened (Err fault) file to old new f t u = as-pages old new f.2 u

  step-on : (o : Opening) (file : List ℕ) → OpeningOn o call → o.step ≡ opening_steps.Ask file → IsOn file call
  step-on o file on is = subst (λ (s : OpeningPhase). StepOn s o.dir call) is on

  pub led-pages : (again : Bool) (o : Opening) (attrs : Attrs) (led : Led) (step : OpeningStep) (old new : Pages) → o.moment ≤ b → opening.led_on o turn.now came attrs old ≡ led
      → ((reply : Reply) → came ≡ Ok reply → OpeningOn o call) → opening.LedIf again o sent turn led step old new → T old → T new
  led-pages true o attrs led step old new low is on l t = as-pages old new l.1 t
  led-pages false o attrs (leads.Goes to) step old new low is on l t = as-pages old new l.1 t
  led-pages false o attrs (leads.Opens file attr) (openings.Ended result) old new low is on l t =
      let k = told-opens o.mode o.step came file attr (by-opens turn.now attrs old o.nocto (opening.told_led o came) file attr is) in
      file-opened result file (opened_pages file attr o.moment sent turn old) old new l
      (laws.opens file attr o.moment old low k.got (step-on o file (on (replies.File (kept.GetAttr attr)) k.got) k.asks) t) t
  led-pages false o attrs (leads.Opens file attr) (openings.Send again) old new low is on l t = absurd l
  led-pages false o attrs (leads.Opens file attr) openings.Wait old new low is on l t = absurd l
  led-pages false o attrs (leads.Knows file stamp) (openings.Ended result) old new low is on l t =
      file-opened result file (opened file stamp o.moment old) old new l
      (laws.knows file stamp o.moment old low (led-stamp turn.now attrs old o.nocto o.mode o.step came file stamp is) t) t
  led-pages false o attrs (leads.Knows file stamp) (openings.Send again) old new low is on l t = absurd l
  led-pages false o attrs (leads.Knows file stamp) openings.Wait old new low is on l t = absurd l
  led-pages false o attrs (leads.Ends fault) step old new low is on l t = as-pages old new l.1 t

  open-takes : (q : OpenFile) (old : Shelf) (next : Step) (new : FileMachine) (after : Shelf) → q.opening.moment ≤ b → ((reply : Reply) → came ≡ Ok reply → OpeningOn q.opening call)
      → steps.OpenTakes q sent turn came old next new after → T old.pages → T after.pages
  open-takes q old next new after low on s t =
      led-pages (opening.opening_again q.opening sent turn came old.repeats) q.opening after.attrs (opening.led_on q.opening turn.now came after.attrs old.pages) s.steps.step old.pages
      after.pages low refl on s.steps.led t

  pub follows-pages : (step : WalkStep) (wsize : ℕ) (m : PathMachine) (old : Shelf) (next : Step) (new : PathMachine) (after : Shelf)
      → paths.Follows step wsize m turn old next new after → T old.pages → T after.pages
  follows-pages (walks.Send other) wsize m old next new after f t = as-shelf T shows old after (kept-as old old after f.2 refl) t
  follows-pages walks.Wait wsize m old next new after f t = as-shelf T shows old after (kept-as old old after f.2 refl) t
  follows-pages (walks.At dir) wsize m old next new after f t = file-resumes T shows (file_of (placed dir m.opener)) wsize turn old next (file_of f.opener) after f.step t
  follows-pages (walks.Refused fault) wsize m old next new after f t = as-shelf T shows old after (kept-as old old after f.2 refl) t

  path-takes : (arrived : Bool) (wsize : ℕ) (m : PathMachine) (q : OpenFile) (old : Shelf) (next : Step) (new : PathMachine) (after : Shelf) → m.opener ≡ openers.Open q → q.opening.moment ≤ b
      → ((reply : Reply) → came ≡ Ok reply → PathOn arrived m call) → paths.PathTakes arrived wsize m sent turn came old next new after → T old.pages → T after.pages
  path-takes true wsize m q old next new after opener low on p t =
      let asked : (reply : Reply) → came ≡ Ok reply → OpeningOn q.opening call = λ reply is. subst (λ (o : Opener). FileAsks (file_of o) call) opener (on reply is) in
      open-takes q old next (file_of p.opener) after low asked (subst (λ (o : Opener). steps.Takes wsize (file_of o) sent turn came old next (file_of p.opener) after) opener p.step) t
  path-takes false wsize m q old next new after opener low on p t =
      follows-pages p.step wsize p.walked p.heard next new after p.follows
      (as-shelf T shows old p.heard (walk-takes-kept (walking.waiting_name m.walk) m.walk sent turn came old p.step p.walked.walk p.heard p.takes) t)

  -- ---- any of them

  some-reading : (a c : Reading) → Some a ≡ Some c → a ≡ c
  some-reading a c e = cc

  pub quiet-takes : (machine : Machine) (wsize : ℕ) (old : Shelf) (next : Step) (new : Machine) (after : Shelf) → IsQuiet b machine → ((reply : Reply) → came ≡ Ok reply → Both machine call)
      → Takes wsize machine sent turn came old next new after → T old.pages → T after.pages
  quiet-takes machine wsize old next new after (quiet_open nocto k low o) on t had =
      let s : Takes wsize (machines.Path o.m) sent turn came old next new after = subst (λ (z : Machine). Takes wsize z sent turn came old next new after) o.is t in
      let asked = λ (reply : Reply) (is : came ≡ Ok reply). subst (λ (z : Machine). Asks z call) o.is (on reply is).0 in
      path-takes o.m.arrived wsize o.m o.q old next s.machine after o.opener (subst (λ (n : ℕ). n ≤ b) (sym o.moment) low) asked s.step had
  quiet-takes machine wsize old next new after (quiet_read k) on t had =
      let s : Takes wsize (machines.File (files.Read k.m)) sent turn came old next new after = subst (λ (z : Machine). Takes wsize z sent turn came old next new after) k.is t in
      let asked = λ (reply : Reply) (is : came ≡ Ok reply). subst (λ (z : Machine). Both z call) k.is (on reply is) in
      read-takes k.m.reading old.repeats k.m old.pages old.back next s.step.machine after.pages
      (λ r is. subst (λ (q : Reading). q.moment ≤ b) (some-reading k.r r (sym k.reading ∙ is)) k.told)
      (λ reply is. (asked reply is).1) (λ reply is. (asked reply is).0) s.step.step had
  quiet-takes machine wsize old next new after (quiet_name m same) on t had =
      let s : Takes wsize (machines.Name m) sent turn came old next new after = subst (λ (z : Machine). Takes wsize z sent turn came old next new after) same t in
      as-shelf T shows old after (name-takes-kept m sent turn came old next s.machine after s.step) had
