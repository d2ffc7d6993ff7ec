-- What a read makes of its own moment, and which pages it leaves where it has asked for its file's attributes.
use Rattle.core_session.proofs.Prelude.{◌≡◌, ◌-◌, inl, inr, ℕ, Bool, true, false, ◌&&◌, List, Option, Some, None, Result, Ok, Err, refl, sym, ap, subst, ◌∙◌, if◌then◌else◌, Attr, Mode, Opened, Pages, after_page, Pending, Fault, Reply, Step, Repeat, Shelf, Turn, ReadFile, Phase, Reading, PagesOpened, opened_pages, part, refusal, got_by, machine_of, Mounted, FileMachine, Machine, Starts, Resumes, Takes, ThenOf}
use Rattle.file_ops.specs.ReadReply.{Said}
use Rattle.std.specs.FinMap as finite
use Rattle.xdr_codec.specs.declared.blob.Memory as memory
use Rattle.nfs_types.specs.declared.mode.Mode.TheVariants as modes
use Rattle.nfs_file_calls.specs.declared.owned.FileKept.TheVariants as kept
use Rattle.world_model.specs.declared.answer.Fault.TheVariants as faults
use Rattle.world_model.specs.declared.message.Reply.TheVariants as replies
use Rattle.world_model.specs.declared.op.Op.TheVariants as ops
use Rattle.client_shelf.specs.declared.step.Step.TheVariants as nexts
use Rattle.file_ops.specs.declared.reading.Phase.TheVariants as phases
use Rattle.file_ops.specs.ReadFile as reads
use Rattle.file_ops.specs.Reading as reading
use Rattle.op_machines.specs.declared.file_machine.FileMachine.TheVariants as files
use Rattle.op_machines.specs.declared.machine.Machine.TheVariants as machines
use Rattle.core_session.proofs.current.FedPages.{got-is, gone-pages, settled-pages}

-- whether the attributes came that it asks for first, if it does
abbrev pub past : Phase → Bool
past phases.Attrs = false
past phases.AskedAttrs = false
past phases.Pages = true
past phases.Rest = true
past (phases.Asked count) = true
past phases.Ended = true

-- the same read, and no further than it was
pub record IsSame (r n : Reading) : Type 0 where
  pub moment : n.moment ≡ r.moment
  pub file : n.file ≡ r.file
  pub far : past n.phase ≡ true → past r.phase ≡ true

pub same-read : (r : Reading) → IsSame r r
same-read r = record { moment = refl; file = refl; far = λ is. is }

then-same : (r n k : Reading) → IsSame r n → IsSame n k → IsSame r k
then-same r n k a b = record { moment = b.moment ∙ a.moment; file = b.file ∙ a.file; far = λ is. a.far (b.far is) }

settled-same : (p : Phase) (r : Reading) (c : Pages) → r.phase ≡ p → IsSame r (reading.settled_in p r c).reading
settled-same phases.Attrs r c at = same-read r
settled-same phases.AskedAttrs r c at = same-read r
settled-same phases.Pages r c at = record { moment = refl; file = refl; far = λ is. ap past at }
settled-same phases.Rest r c at = same-read r
settled-same (phases.Asked count) r c at = same-read r
settled-same phases.Ended r c at = same-read r

no-true : false ≡ true → ⊥
no-true e = cc

asked-same : (p : Phase) (s : reading.State) → reading.wants p ≡ true → (past p ≡ true → past s.reading.phase ≡ true)
    → IsSame s.reading (if reading.asks_attrs p then record { reading = record s.reading { phase = phases.AskedAttrs }; pages = s.pages } else reading.asked_part s).reading
asked-same phases.Attrs s w far = record { moment = refl; file = refl; far = λ is. absurd (no-true is) }
asked-same phases.AskedAttrs s w far = absurd (no-true w)
asked-same phases.Pages s w far = record { moment = refl; file = refl; far = λ is. far refl }
asked-same phases.Rest s w far = record { moment = refl; file = refl; far = λ is. far refl }
asked-same (phases.Asked count) s w far = absurd (no-true w)
asked-same phases.Ended s w far = absurd (no-true w)

answered-same : (p : Phase) (r : Reading) → IsSame r (reading.answered p r)
answered-same phases.Attrs r = same-read r
answered-same phases.AskedAttrs r = same-read r
answered-same phases.Pages r = same-read r
answered-same phases.Rest r = same-read r
answered-same (phases.Asked count) r = same-read r
answered-same phases.Ended r = record { moment = refl; file = refl; far = λ is. is }

both-true : (a b : Bool) → (a && b) ≡ true → b ≡ true
both-true true b e = e
both-true false b e = absurd (no-true e)

gone-same : (room : Bool) (s : reading.State) → IsSame s.reading (reading.gone room s).reading
gone-same room s = by (reading.asks room s) refl
  where
    by : (b : Bool) → reading.asks room s ≡ b
        → IsSame s.reading (if b then reading.asked s else record { reading = reading.answered s.reading.phase s.reading; pages = s.pages }).reading
    by true e = asked-same s.reading.phase s (both-true room (reading.wants s.reading.phase) e) (λ is. is)
    by false e = answered-same s.reading.phase s.reading

went-same : (room : Bool) (r : Reading) (c : Pages) → IsSame r (reading.gone room (reading.settled r c)).reading
went-same room r c =
    then-same r (reading.settled r c).reading (reading.gone room (reading.settled r c)).reading (settled-same r.phase r c refl) (gone-same room (reading.settled r c))

-- ---- as a machine

pub record ReadIn (P : Reading → Type 0) (machine : Machine) : Type 0 where
  pub m : ReadFile
  pub is : machine ≡ machines.File (files.Read m)
  pub r : Reading
  pub reading : m.reading ≡ Some r
  pub told : P r

abbrev pub ThenRead : (Reading → Type 0) → Step → Machine → Type 0
ThenRead P next new = ThenOf (ReadIn P) (λ a. Unit {0}) next new

then-read : (P : Reading → Type 0) (next : Step) (new : Machine) → ReadIn P new → ThenRead P next new
then-read P (nexts.Send call) new r = r
then-read P nexts.Wait new r = r
then-read P (nexts.Done answer) new r = tt

some-reading : (a b : Reading) → Some a ≡ Some b → a ≡ b
some-reading a b e = cc

module _ (P Q : Reading → Type 0) (goes : (r n : Reading) → IsSame r n → P r → Q n) where
  read-as : (m k : ReadFile) (n : Reading) (f : FileMachine) (new : Machine) → new ≡ machines.File f → f ≡ files.Read k → k ≡ record m { reading = Some n } → Q n → ReadIn Q new
  read-as m k n f new is at same q = record { m = k; is = is ∙ ap machines.File at; r = n; reading = ap (λ (z : ReadFile). z.reading) same; told = q }

  resumes-in : (o : Option Reading) (r : Reading) (m k : ReadFile) (room : Bool) (c later : Pages) (back : Pending) (next : Step) (f : FileMachine) (new : Machine) → o ≡ Some r → P r
      → new ≡ machines.File f → f ≡ files.Read k → reads.ResumesIn o room m c back next k later → ReadIn Q new
  resumes-in None r m k room c later back next f new there p is at g = absurd (let no_way : None ≡ Some r = there in cc)
  resumes-in (Some q) r m k room c later back next f new there p is at g =
      read-as m k (reading.gone room (reading.settled q c)).reading f new is at g.machine
      (goes q (reading.gone room (reading.settled q c)).reading (went-same room q c) (subst P (sym (some-reading q r there)) p))

  pub reading-resumes : (machine : Machine) (wsize : ℕ) (turn : Turn) (old : Shelf) (next : Step) (new : Machine) (after : Shelf) → ReadIn P machine
      → Resumes wsize machine turn old next new after → ThenRead Q next new
  reading-resumes machine wsize turn old next new after k r =
      let moved : Resumes wsize (machines.File (files.Read k.m)) turn old next new after = subst (λ (n : Machine). Resumes wsize n turn old next new after) k.is r in
      then-read Q next new
      (resumes-in k.m.reading k.r k.m moved.step.machine turn.room old.pages after.pages old.back next moved.machine new k.reading k.told moved.machine_is moved.step.machine_is moved.step.step)

  -- ---- with what came of its call

  module _ (came : Result Reply Fault) (sent turn : Turn) (old after : Pages)
      (asked : (r n : Reading) (attr : Attr) → came ≡ Ok (replies.File (kept.GetAttr attr)) → n.moment ≡ r.moment → n.file ≡ r.file
      → ((T : Pages → Type 0) → ((file : List ℕ) (index : ℕ) (c : Pages) → T c → T (after_page file index c)) → T (opened_pages r.file attr r.moment sent turn old) → T after) → P r → Q n) where
    after-opened : (result : Result (Unit {0}) memory.Memory) (attr : Attr) (r : Reading) (c : Pages) (back : Pending) (next : Step) (new : reading.State)
        → came ≡ Ok (replies.File (kept.GetAttr attr)) → PagesOpened r.file attr r.moment sent turn result old c → reading.AfterOpened result turn r c back next new → after ≡ new.pages → P r → Q new.reading
    after-opened (Ok done) attr r c back next new is opens o kept_ p =
        let to = reading.settled (record r { phase = phases.Pages }) c in
        let same = went-same turn.room (record r { phase = phases.Pages }) c in
        let state = ap (λ (s : reading.State). s.reading) o.1 in
        asked r new.reading attr is (ap (λ (n : Reading). n.moment) state ∙ same.moment) (ap (λ (n : Reading). n.file) state ∙ same.file)
        (λ T shows had.
        subst T (sym (kept_ ∙ ap (λ (s : reading.State). s.pages) o.1))
        (gone-pages T shows turn.room to (settled-pages T shows phases.Pages (record r { phase = phases.Pages }) c (subst T (sym opens) had)))) p
    after-opened (Err no_memory) attr r c back next new is opens o kept_ p = subst Q (sym (ap (λ (s : reading.State). s.reading) o.1)) (goes r r (same-read r) p)

    attrs-read : (told : Result Attr Fault) (again : Bool) (r : Reading) (back : Pending) (next : Step) (new : reading.State) → got_by came ≡ told
        → reading.TakesAttrs again told sent turn r old back next new → after ≡ new.pages → P r → Q new.reading
    attrs-read (Ok attr) again r back next new got t kept_ p = after-opened t.result attr r t.later back next new (got-is came attr got) t.opens t.goes kept_ p
    attrs-read (Err fault) again r back next new got t kept_ p = subst Q (sym (ap (λ (s : reading.State). s.reading) t.1)) (goes r r (same-read r) p)

    said-read : (said : Said) (r : Reading) (new : reading.State) → past r.phase ≡ true → new ≡ reading.told sent turn said r old → P r → Q new.reading
    said-read (part attr eof bytes) r new far is p =
        let n = reading.added (reading.count_of r.phase) eof bytes r in
        let c = reading.noted attr r.file sent.moment _ bytes eof old in
        let same = went-same turn.room n c in
        subst Q (sym (ap (λ (s : reading.State). s.reading) is))
        (goes r (reading.gone turn.room (reading.settled n c)).reading (then-same r n (reading.gone turn.room (reading.settled n c)).reading (record { moment = refl; file = refl; far = λ more. far }) same) p)
    said-read (refusal attr fault) r new far is p = subst Q (sym (ap (λ (s : reading.State). s.reading) is)) (goes r r (same-read r) p)

    stays-read : (r : Reading) (new : reading.State) → new ≡ record { reading = r; pages = old } → P r → Q new.reading
    stays-read r new is p = subst Q (sym (ap (λ (s : reading.State). s.reading) is)) (goes r r (same-read r) p)

    heard-read : (phase : Phase) (repeats : List Repeat) (r : Reading) (back : Pending) (next : Step) (new : reading.State) → r.phase ≡ phase
        → reading.TakesPart (reading.heard phase came) sent turn repeats r old back next new → P r → Q new.reading
    heard-read phases.Attrs repeats r back next new at t p = stays-read r new t.1 p
    heard-read phases.AskedAttrs repeats r back next new at t p = stays-read r new t.1 p
    heard-read phases.Pages repeats r back next new at t p = stays-read r new t.1 p
    heard-read phases.Rest repeats r back next new at t p = stays-read r new t.1 p
    heard-read (phases.Asked count) repeats r back next new at t p = said-read _ r new (ap past at) t.1 p
    heard-read phases.Ended repeats r back next new at t p = stays-read r new t.1 p

    takes-if : (waits : Bool) (repeats : List Repeat) (r : Reading) (back : Pending) (next : Step) (new : reading.State) → reading.TakesIf waits sent turn came repeats r old back next new
        → after ≡ new.pages → P r → Q new.reading
    takes-if true repeats r back next new t kept_ p = attrs-read (got_by came) _ r back next new refl t kept_ p
    takes-if false repeats r back next new t kept_ p = heard-read r.phase repeats r back next new refl t p

    takes-in : (o : Option Reading) (r : Reading) (m k : ReadFile) (repeats : List Repeat) (back : Pending) (next : Step) (f : FileMachine) (new : Machine) → o ≡ Some r → P r
        → new ≡ machines.File f → f ≡ files.Read k → reads.TakesIn o sent turn came repeats m old back next k after → ReadIn Q new
    takes-in None r m k repeats back next f new there p is at t = absurd (let no_way : None ≡ Some r = there in cc)
    takes-in (Some q) r m k repeats back next f new there p is at t =
        read-as m k t.state.reading f new is at t.machine
        (takes-if (reading.waits_attrs q.phase) repeats q back next t.state t.step t.kept (subst P (sym (some-reading q r there)) p))

  pub reading-takes : (came : Result Reply Fault) (sent turn : Turn) (machine : Machine) (wsize : ℕ) (old : Shelf) (next : Step) (new : Machine) (after : Shelf)
      → ((r n : Reading) (attr : Attr) → came ≡ Ok (replies.File (kept.GetAttr attr)) → n.moment ≡ r.moment → n.file ≡ r.file
      → ((T : Pages → Type 0) → ((file : List ℕ) (index : ℕ) (c : Pages) → T c → T (after_page file index c)) → T (opened_pages r.file attr r.moment sent turn old.pages) → T after.pages) → P r → Q n)
      → ReadIn P machine → Takes wsize machine sent turn came old next new after → ThenRead Q next new
  reading-takes came sent turn machine wsize old next new after asked k t =
      let moved : Takes wsize (machines.File (files.Read k.m)) sent turn came old next new after = subst (λ (n : Machine). Takes wsize n sent turn came old next new after) k.is t in
      then-read Q next new
      (takes-in came sent turn old.pages after.pages asked k.m.reading k.r k.m moved.step.machine old.repeats old.back next moved.machine new k.reading k.told
      moved.machine_is moved.step.machine_is moved.step.step)

-- ---- the first step

some-ok : (a b : Reading) → ◌≡◌ {A = Result Reading Fault} (Ok a) (Ok b) → a ≡ b
some-ok a b e = cc

no-refusal : (r : Reading) (fault : Fault) → ◌≡◌ {A = Result Reading Fault} (Ok r) (Err fault) → ⊥
no-refusal r fault e = cc

-- its moment, and what it does first
abbrev IsBegun : ℕ → Bool → Reading → Type 0
IsBegun moment noac r = (r.moment ≡ moment) × (r.phase ≡ reads.first_phase noac)

begun-as : (moment : ℕ) (m : ReadFile) (file : List ℕ) (back : Pending) (r : Reading) → r ≡ reads.begun moment m file back → IsBegun moment m.noac r
begun-as moment m file back r is = (ap (λ (z : Reading). z.moment) is, ap (λ (z : Reading). z.phase) is)

begun-or : (moment : ℕ) (m : ReadFile) (file : List ℕ) (back : Pending) (r : Reading) → reads.Begins (Ok (reads.begun moment m file back)) (Ok r) → IsBegun moment m.noac r
begun-or moment m file back r (inl is) = begun-as moment m file back r (some-ok r (reads.begun moment m file back) is)
begun-or moment m file back r (inr none) = absurd (no-refusal r faults.Memory none)

begun-in : (mode : Mode) (moment : ℕ) (m : ReadFile) (file : List ℕ) (back : Pending) (r : Reading) → reads.Begins (reads.begun_in mode moment m file back) (Ok r) → IsBegun moment m.noac r
begun-in modes.W moment m file back r b = absurd (no-refusal r faults.Mode b)
begun-in modes.R moment m file back r b = begun-or moment m file back r b
begun-in modes.RW moment m file back r b = begun-or moment m file back r b
begun-in modes.C moment m file back r b = begun-or moment m file back r b
begun-in modes.X moment m file back r b = begun-or moment m file back r b

begun-at : (o : Option Opened) (moment : ℕ) (m : ReadFile) (back : Pending) (r : Reading) → reads.Begins (reads.begun_at o moment m back) (Ok r) → IsBegun moment m.noac r
begun-at None moment m back r b = absurd (no-refusal r faults.Slot b)
begun-at (Some o) moment m back r b = begun-in o.mode moment m o.file back r b

module _ (Q : Reading → Type 0) (moment : ℕ) (begun : (r : Reading) → r.moment ≡ moment → (past r.phase ≡ true → ⊥) → Q r) where
  starts-with : (o : Option Opened) (begun_ : Result Reading Fault) (room : Bool) (m k : ReadFile) (c later : Pages) (back : Pending) (next : Step) (f : FileMachine) (new : Machine) → m.noac ≡ true
      → new ≡ machines.File f → f ≡ files.Read k → reads.Begins (reads.begun_at o moment m back) begun_ → reads.StartsWith begun_ room m c back next k later → ThenRead Q next new
  starts-with o (Err fault) room m k c later back next f new noac is at b s = subst (λ (n : Step). ThenRead Q n new) (sym s.step) tt
  starts-with o (Ok r) room m k c later back next f new noac is at b s =
      let made = begun-at o moment m back r b in
      let to = reading.gone room (reading.settled r c) in
      let same = went-same room r c in
      let first : past r.phase ≡ false = ap past (made.1 ∙ ap reads.first_phase noac) in
      then-read Q next new
      (record {
        m = k;
        is = is ∙ ap machines.File at;
        r = to.reading;
        reading = ap (λ (z : ReadFile). z.reading) s.machine;
        told = begun to.reading (same.moment ∙ made.0) (λ far. no-true (sym first ∙ same.far far));
      })

  pub reading-starts : (mounted : Mounted) (lane slot offset count wsize : ℕ) (turn : Turn) (old : Shelf) (next : Step) (new : Machine) (after : Shelf) → mounted.noac ≡ true → turn.moment - 1 ≡ moment
      → Starts wsize (machine_of mounted lane (ops.Read slot offset count)) turn old next new after → ThenRead Q next new
  reading-starts mounted lane slot offset count wsize turn old next new after noac at s =
      starts-with _ s.step.step.reading turn.room _ s.step.machine old.pages after.pages old.back next s.machine new noac s.machine_is s.step.machine_is
      (subst (λ (n : ℕ). reads.Begins (reads.begun_at (finite.get old.opens (lane, slot)) n
      (record { lane = lane; slot = slot; offset = offset; count = count; rsize = mounted.rsize; noac = mounted.noac; reading = None }) old.back) s.step.step.reading) at s.step.step.begins)
      s.step.step.goes
