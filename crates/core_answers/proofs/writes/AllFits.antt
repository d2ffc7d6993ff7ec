-- Along a history each WRITE that waits is one of an operation that sends bytes of its file, and each COMMIT of one that waits for it.
use Rattle.core_answers.proofs.Prelude.{◌≡◌, ◌≤◌, ◌+◌, ◌-◌, ◌&&◌, ◌==◌, ℕ, Bool, true, false, List, Option, Some, None, Result, Ok, Err, refl, sym, ap, subst, ◌∙◌, arith, nat_lt, if◌then◌else◌, eqb-true, Fault, Call, Reply, chosen, Pending, of_file, Step, Shelf, Turn, is_first, CloseFile, Closing, PutFile, Putting, Saving, SyncFile, Syncing, Writing, by-step, Pair, Deed, Look, Seek, Move, Remove, RemoveFile, Walk, WalkStep, access_call, deed_call, link_call, found_by, look_again, text_call, rename_call, sym_link_call, FileMachine, Machine, NameMachine, Opener, PathMachine, file_of, slot_taken, begun_at, placed, Starts, Resumes, Takes, of_name, of_walk, visit_by, own_or, removal_by, of_saving, of_writing, of_syncing, of_closing, of_putting, in_flight, Counts, counts-calls, of_path, path-file, WalkAwaits, OwnOr, ExpectLaws, flies_path, flies_of, RemoveAwaits, AskedOf, KeptOf}
use Rattle.core_facts.proofs.Awaited.{PairOr}
use Rattle.core_facts.proofs.Flights.{resumes-stay, takes-stay}
use Rattle.core_facts.proofs.NamesAwaited.{NameAwaits, Sends, name-goes, name-takes}
use Rattle.client_shelf.specs.declared.step.Step.TheVariants as nexts
use Rattle.file_ops.specs.declared.close_file.Closing.TheVariants as closing
use Rattle.file_ops.specs.declared.put_file.Putting.TheVariants as putting
use Rattle.file_ops.specs.declared.sync_file.Syncing.TheVariants as syncing
use Rattle.file_ops.specs.declared.write_file.Writing.TheVariants as writing
use Rattle.file_ops.specs.Closes as closes
use Rattle.file_ops.specs.PutFile as puts
use Rattle.file_ops.specs.Saves as saves
use Rattle.file_ops.specs.Syncs as syncs
use Rattle.file_ops.specs.WriteFile as writes
use Rattle.name_ops.specs.declared.dir_change.DirDeed.TheVariants as deeds
use Rattle.name_ops.specs.declared.walk.WalkStep.TheVariants as walks
use Rattle.name_ops.specs.ListDir as listing
use Rattle.name_ops.specs.RemoveFile as removals
use Rattle.name_ops.specs.Stat as stats
use Rattle.name_ops.specs.Walking as walking
use Rattle.op_machines.specs.declared.file_machine.FileMachine.TheVariants as files
use Rattle.op_machines.specs.declared.machine.Machine.TheVariants as machines
use Rattle.op_machines.specs.declared.name_machine.NameMachine.TheVariants as names
use Rattle.op_machines.specs.FileSteps as steps
use Rattle.op_machines.specs.PathSteps as paths
use Rattle.core_facts.specs.InFlight.{pair_by, of_names, of_file as calls_of}
use Rattle.core_facts.proofs.NameLives.{WhileGoing}
use Rattle.core_answers.proofs.writes.CallFits.{commits_if, commits_save, commits_write, commits_sync, commits_close, commits_put, commits_file, Fits, other-fits, AskFits, file-starts, file-resumes, file-takes}
use Rattle.core_answers.proofs.writes.Plain.{IsOther}

-- ---- walks ask for LOOKUPs

abbrev WalkOther : WalkStep → Type 0
WalkOther (walks.Send call) = IsOther call
WalkOther walks.Wait = Unit {0}
WalkOther (walks.At dir) = Unit {0}
WalkOther (walks.Refused fault) = Unit {0}

asks-other : (name : Option (List ℕ)) (room : Bool) (w : Walk) → WalkOther (walking.asks name room w)
asks-other None room w = tt
asks-other (Some name) true w = tt
asks-other (Some name) false w = tt

go-other : (w : Walk) (turn : Turn) (shelf : Shelf) → WalkOther (walking.go_next w turn shelf)
go-other w turn shelf = by w.asked
  where
    by : (b : Bool) → WalkOther (if b then walks.Wait else walking.on_next w turn shelf.attrs shelf.names)
    by true = tt
    by false = asks-other _ turn.room _

told-other : (told : Result (List ℕ) Fault) (w : Walk) (turn : Turn) (heard : Shelf) → WalkOther (walking.told_next w told turn heard)
told-other (Ok found) w turn heard = asks-other _ turn.room _
told-other (Err fault) w turn heard = tt

followed-other : (busy : Bool) (w : Walk) (name : List ℕ) (told : Result (List ℕ) Fault) (turn : Turn) (heard : Shelf) → WalkOther (walking.followed_next busy w name told turn heard)
followed-other true w name told turn heard = tt
followed-other false w name told turn heard = told-other told w turn heard

took-other : (name : Option (List ℕ)) (w : Walk) (sent turn : Turn) (came : Result Reply Fault) (old : Shelf) (next : WalkStep) (new : Walk) (after : Shelf)
    → walking.Takes name w sent turn came old next new after → WalkOther next
took-other None w sent turn came old next new after t = subst WalkOther (sym t.next_is) tt
took-other (Some name) w sent turn came old next new after t =
    subst WalkOther (sym t.next_is) (followed-other (look_again sent turn came old) w name (found_by came) turn t.heard)

-- ---- operations on names

walk-other : (w : Walk) (call : Call) → 1 ≤ of_walk w → WalkAwaits w call → IsOther call
walk-other w call some a = by (walking.waiting_name w) refl some
  where
    by : (o : Option (List ℕ)) → walking.waiting_name w ≡ o → 1 ≤ of_name o → IsOther call
    by None is s = absurd (omega (arith, s))
    by (Some name) is s = subst IsOther (sym (a name is)) tt

own-other : (b : Bool) (own : List ℕ → Call) (w : Walk) (call : Call) → ((dir : List ℕ) → IsOther (own dir)) → 1 ≤ visit_by b (of_walk w) → OwnOr b own w call → IsOther call
own-other true own w call fine some a = subst IsOther (sym a) (fine w.spot.dir)
own-other false own w call fine some a = walk-other w call some a

stat-other : (b : Bool) (w : Walk) (call : Call) → 1 ≤ own_or b (of_walk w) → OwnOr b stats.get_attr w call → IsOther call
stat-other true w call some a = subst IsOther (sym a) tt
stat-other false w call some a = walk-other w call some a

deed-other : (m : RemoveFile) (deed : Deed) → IsOther (removals.call_of m deed)
deed-other m Look = tt
deed-other m (Seek file to) = tt
deed-other m (Move file to) = tt
deed-other m Remove = tt

removal-other : (deed : Option Deed) (m : RemoveFile) (call : Call) → 1 ≤ removal_by deed m.asked (of_walk m.walk) → RemoveAwaits deed m call → IsOther call
removal-other None m call some a = walk-other m.walk call some a
removal-other (Some deed) m call some a = subst IsOther (sym a) (deed-other m deed)

pair-other : (b first second : Bool) (own : List ℕ → List ℕ → Call) (p : Pair) (call : Call) → ((a b : List ℕ) → IsOther (own a b))
    → 1 ≤ pair_by b first second (of_walk p.first) (of_walk p.second) → PairOr b first own p call → IsOther call
pair-other true first second own p call fine some a = subst IsOther (sym a) (fine p.first.spot.dir p.second.spot.dir)
pair-other false true true own p call fine some a = absurd (omega (arith, some))
pair-other false true false own p call fine some a = walk-other p.first call some a
pair-other false false second own p call fine some a = walk-other p.second call some a

deed-fine : (deed : _) (name dir : List ℕ) → IsOther (deed_call deed name dir)
deed-fine deeds.Make name dir = tt
deed-fine deeds.Remove name dir = tt

name-other : (m : NameMachine) (call : Call) → 1 ≤ of_names m → NameAwaits m call → IsOther call
name-other (names.Change m) call some a = own-other m.visit.asked (deed_call m.deed m.name) m.visit.walk call (deed-fine m.deed m.name) some a
name-other (names.Stat m) call some a = stat-other m.asked m.walk call some a
name-other (names.Access m) call some a = own-other m.visit.asked (access_call m.bits) m.visit.walk call (λ dir. tt) some a
name-other (names.ReadLink m) call some a = own-other m.visit.asked text_call m.visit.walk call (λ dir. tt) some a
name-other (names.Remove m) call some a = removal-other m.deed m call some a
name-other (names.Rename m) call some a = pair-other m.pair.asked m.pair.first.asked m.pair.second.asked (rename_call m.from m.to) m.pair call (λ a b. tt) some a
name-other (names.Link m) call some a = pair-other m.pair.asked m.pair.first.asked m.pair.second.asked (link_call m.name) m.pair call (λ a b. tt) some a
name-other (names.SymLink m) call some a = own-other m.visit.asked (sym_link_call m.name m.target) m.visit.walk call (λ dir. tt) some a
name-other (names.List m) call some a = own-other m.visit.asked (listing.page_call m.place) m.visit.walk call (λ dir. tt) some a

-- ---- any operation

abbrev pub commits_path : Bool → Opener → Option (List ℕ)
commits_path true opener = commits_file (file_of opener)
commits_path false opener = None

abbrev pub commits_of : Machine → Option (List ℕ)
commits_of (machines.File m) = commits_file m
commits_of (machines.Path m) = commits_path m.arrived m.opener
commits_of (machines.Name m) = None

abbrev pub CallFits : Machine → Call → Type 0
CallFits m call = Fits (flies_of m) (commits_of m) call

abbrev pub Asks : Step → Machine → Type 0
Asks next m = AskFits next (flies_of m) (commits_of m)

asked-of : (next : Step) (new : Machine) → Asks next new → AskedOf CallFits next new
asked-of (nexts.Send call) new a = a
asked-of nexts.Wait new a = a
asked-of (nexts.Done answer) new a = a

names-asks : (next : Step) (m : NameMachine) (before : ℕ) → Sends next (NameAwaits m) → Counts next before (machines.Name m) → Asks next (machines.Name m)
names-asks (nexts.Send call) m before s c = let one = c.0 in other-fits None None call refl (name-other m call (omega (arith, one)) s)
names-asks nexts.Wait m before s c = tt
names-asks (nexts.Done answer) m before s c = tt

module _ (wsize : ℕ) (turn : Turn) where
  abbrev PathAsks : Step → PathMachine → Type 0
  PathAsks next m = Asks next (machines.Path m)

  all-as : (next : Step) (to new : Machine) → new ≡ to → Asks next to → Asks next new
  all-as next to new is a = subst (λ (m : Machine). Asks next m) (sym is) a

  arrived-as : (next : Step) (m : PathMachine) (opener : Opener) (new : PathMachine) → m.arrived ≡ true → new ≡ record m { opener = opener } → Asks next (machines.File (file_of opener))
      → PathAsks next new
  arrived-as next m opener new there is a =
      subst (λ (n : PathMachine). PathAsks next n) (sym is) (subst (λ (b : Bool). PathAsks next (record m { opener = opener; arrived = b })) (sym there) a)

  way-asks : (step : WalkStep) (m : PathMachine) (old : Shelf) (next : Step) (new : PathMachine) (after : Shelf) → m.arrived ≡ false → WalkOther step
      → paths.Follows step wsize m turn old next new after → PathAsks next new
  way-asks (walks.Send call) m old next new after way o f =
      subst (λ (n : Step). PathAsks n new) (sym f.0)
      (other-fits _ _ call (ap (λ (n : PathMachine). flies_path n.arrived n.opener) f.1 ∙ ap (λ (b : Bool). flies_path b m.opener) way) o)
  way-asks walks.Wait m old next new after way o f = subst (λ (n : Step). PathAsks n new) (sym f.0) tt
  way-asks (walks.At dir) m old next new after way o f =
      arrived-as next (record m { opener = placed dir m.opener; arrived = true }) f.opener new refl f.machine_is
      (file-resumes wsize turn (file_of (placed dir m.opener)) old next (file_of f.opener) after f.step)
  way-asks (walks.Refused fault) m old next new after way o f = subst (λ (n : Step). PathAsks n new) (sym f.0) tt

  path-resumes : (b : Bool) (m : PathMachine) (old : Shelf) (next : Step) (new : PathMachine) (after : Shelf) → m.arrived ≡ b
      → paths.PathResumes b wsize m turn old next new after → PathAsks next new
  path-resumes true m old next new after is r =
      arrived-as next m r.opener new is r.machine_is (file-resumes wsize turn (file_of m.opener) old next (file_of r.opener) after r.step)
  path-resumes false m old next new after is r =
      way-asks (walking.go_next m.walk turn old) (record m { walk = walking.go_after m.walk turn old }) (walking.go_shelf m.walk turn old) next new after is
      (go-other m.walk turn old) r

  path-starts : (taken : Bool) (m : PathMachine) (old : Shelf) (next : Step) (new : PathMachine) (after : Shelf) → paths.StartsIf taken wsize m turn old next new after → PathAsks next new
  path-starts true m old next new after s = subst (λ (n : Step). PathAsks n new) (sym s.0) tt
  path-starts false m old next new after s = path-resumes m.arrived (record m { opener = begun_at (turn.moment - 1) m.opener }) old next new after refl s

  path-takes : (sent : Turn) (came : Result Reply Fault) (b : Bool) (m : PathMachine) (old : Shelf) (next : Step) (new : PathMachine) (after : Shelf) → m.arrived ≡ b
      → paths.PathTakes b wsize m sent turn came old next new after → PathAsks next new
  path-takes sent came true m old next new after is s =
      arrived-as next m s.opener new is s.machine_is (file-takes wsize turn sent came (file_of m.opener) old next (file_of s.opener) after s.step)
  path-takes sent came false m old next new after is s =
      way-asks s.step s.walked s.heard next new after (ap (λ (n : PathMachine). n.arrived) s.walked_is ∙ is)
      (took-other (walking.waiting_name m.walk) m.walk sent turn came old s.step s.walked.walk s.heard s.takes) s.follows

  pub all-starts : (m : Machine) (old : Shelf) (next : Step) (new : Machine) (after : Shelf) → Starts wsize m turn old next new after → Asks next new
  all-starts (machines.File m) old next new after s = all-as next (machines.File s.machine) new s.machine_is (file-starts wsize turn m old next s.machine after s.step)
  all-starts (machines.Path m) old next new after s = all-as next (machines.Path s.machine) new s.machine_is (path-starts (slot_taken m.opener old.opens) m old next s.machine after s.step)
  all-starts (machines.Name m) old next new after s =
      all-as next (machines.Name s.machine) new s.machine_is
      (names-asks next s.machine (in_flight (machines.Name m)) (name-goes m turn old next s.machine after s.step)
      (subst (Counts next (in_flight (machines.Name m))) s.machine_is (counts-calls.resume wsize (machines.Name m) turn old next new after s tt)))

  pub all-resumes : (m : Machine) (old : Shelf) (next : Step) (new : Machine) (after : Shelf) → Resumes wsize m turn old next new after → Asks next new
  all-resumes (machines.File m) old next new after s = all-as next (machines.File s.machine) new s.machine_is (file-resumes wsize turn m old next s.machine after s.step)
  all-resumes (machines.Path m) old next new after s = all-as next (machines.Path s.machine) new s.machine_is (path-resumes m.arrived m old next s.machine after refl s.step)
  all-resumes (machines.Name m) old next new after s =
      all-as next (machines.Name s.machine) new s.machine_is
      (names-asks next s.machine (in_flight (machines.Name m)) (name-goes m turn old next s.machine after s.step)
      (subst (Counts next (in_flight (machines.Name m))) s.machine_is (counts-calls.resume wsize (machines.Name m) turn old next new after s tt)))

  pub all-takes : (sent : Turn) (came : Result Reply Fault) (m : Machine) (old : Shelf) (next : Step) (new : Machine) (after : Shelf) (others : ℕ) → in_flight m ≡ others + 1
      → Takes wsize m sent turn came old next new after → Asks next new
  all-takes sent came (machines.File m) old next new after others one s =
      all-as next (machines.File s.machine) new s.machine_is (file-takes wsize turn sent came m old next s.machine after s.step)
  all-takes sent came (machines.Path m) old next new after others one s =
      all-as next (machines.Path s.machine) new s.machine_is (path-takes sent came m.arrived m old next s.machine after refl s.step)
  all-takes sent came (machines.Name m) old next new after others one s =
      all-as next (machines.Name s.machine) new s.machine_is
      (names-asks next s.machine others (name-takes m sent turn came old next s.machine after s.step)
      (subst (Counts next others) s.machine_is (counts-calls.take wsize (machines.Name m) sent turn came old next new after others s tt one)))

-- ---- what waits goes on fitting

idle-of : (s : Saving) (f : List ℕ) → commits_save s ≡ Some f → saves.is_sending s.phase ≡ false
idle-of s f is = by (saves.is_sending s.phase) refl is
  where
    by : (b : Bool) → saves.is_sending s.phase ≡ b → commits_if b s.file ≡ Some f → saves.is_sending s.phase ≡ false
    by true e k = absurd (let no_way : None ≡ Some f = k in cc)
    by false e k = e

one-saving : (s : Saving) (f : List ℕ) → commits_save s ≡ Some f → of_saving s ≤ 1
one-saving s f is = by (saves.is_sending s.phase) (s.waiting == 1) (idle-of s f is)
  where
    by : (b c : Bool) → b ≡ false → (if b then s.waiting else if c then 1 else 0) ≤ 1
    by true c e = absurd cc
    by false true e = omega arith
    by false false e = omega arith

one-write : (w : Writing) (f : List ℕ) → commits_write w ≡ Some f → of_writing w ≤ 1
one-write writing.Idle f is = omega arith
one-write (writing.Room file s) f is = one-saving s f is

one-sync : (w : Syncing) (f : List ℕ) → commits_sync w ≡ Some f → of_syncing w ≤ 1
one-sync syncing.Idle f is = omega arith
one-sync (syncing.Saves s) f is = one-saving s f is

one-close : (w : Closing) (f : List ℕ) → commits_close w ≡ Some f → of_closing w ≤ 1
one-close closing.Idle f is = omega arith
one-close (closing.Queued s) f is = omega arith
one-close (closing.Saves s) f is = one-saving s f is
one-close (closing.ToRemove removal) f is = omega arith
one-close (closing.Removing removal) f is = omega arith

none-some : {X : Type 0} → (f : List ℕ) → None ≡ Some f → X
none-some f e = absurd (let no_way : None ≡ Some f = e in cc)

one-file : (m : FileMachine) (f : List ℕ) → commits_file m ≡ Some f → calls_of m ≤ 1
one-file (files.Open m) f is = none-some f is
one-file (files.Read m) f is = none-some f is
one-file (files.Write m) f is = one-write m.state f is
one-file (files.Sync m) f is = one-sync m.state f is
one-file (files.Close m) f is = one-close m.state f is
one-file (files.Truncate m) f is = none-some f is
one-file (files.Put m) f is = by m.state is
  where
    by : (state : Putting) → commits_put state m.write.state ≡ Some f → of_putting state m.opening m.write.state ≤ 1
    by putting.Idle k = none-some f k
    by putting.Opens k = none-some f k
    by (putting.Adds file) k = one-write m.write.state f k
    by (putting.Saves s) k = one-saving s f k

pub one-commit : (m : Machine) (f : List ℕ) → commits_of m ≡ Some f → in_flight m ≤ 1
one-commit (machines.File m) f is = one-file m f is
one-commit (machines.Path m) f is = by m.arrived refl is
  where
    by : (b : Bool) → m.arrived ≡ b → commits_path b m.opener ≡ Some f → of_path m ≤ 1
    by true e k = let c = one-file (file_of m.opener) f k in let same = path-file m e in omega (arith, c, same)
    by false e k = none-some f k
one-commit (machines.Name m) f is = none-some f is

-- a save that waits for its COMMIT waits
pub record Rests (next : Step) (s new : Saving) : Type 0 where
  pub waits : next ≡ nexts.Wait
  pub same : new ≡ s

goes-rests : (wsize xid : ℕ) (room by_reply : Bool) (s : Saving) (back : Pending) (next : _) (new : Saving) (after : Pending) (f : List ℕ) → commits_save s ≡ Some f → 1 ≤ of_saving s
    → saves.Goes wsize xid room by_reply s back next new after → Rests (syncs.sync_next next) s new
goes-rests wsize xid room by_reply s back next new after f is some g = over s.refusal g
  where
    idle : saves.is_sending s.phase ≡ false
    idle = idle-of s f is

    and-left : (a b : Bool) → (a && b) ≡ true → a ≡ true
    and-left true b e = refl
    and-left false b e = absurd cc

    and-right : (a b : Bool) → (a && b) ≡ true → b ≡ true
    and-right true b e = e
    and-right false b e = absurd cc

    zero_ : (s.waiting == 0) ≡ true → of_saving s ≡ 0
    zero_ e =
        let none : s.waiting ≡ 0 = eqb-true s.waiting 0 e in
        ap (λ (b : Bool). if b then s.waiting else if s.waiting == 1 then 1 else 0) idle ∙ ap (λ (n : ℕ). if n == 1 then 1 else 0) none

    refused : (fault : Fault) (b : Bool) → (s.waiting == 0) ≡ b → syncs.sync_next (saves.refused_next s.waiting fault) ≡ nexts.Wait
    refused fault true e = let none = zero_ e in absurd (omega (arith, some, none))
    refused fault false e = rw e refl

    if_ : (b : Bool) → saves.may_send room s ≡ b → saves.SendsIf b xid by_reply (chosen s.upto wsize (of_file s.file back)) s back next new after → Rests (syncs.sync_next next) s new
    if_ true e l =
        let both = and-left (room && saves.is_sending s.phase) (nat_lt s.waiting 32) e in
        let sending = and-right room (saves.is_sending s.phase) both in
        absurd (let no_way : true ≡ false = sym sending ∙ idle in cc)
    if_ false e l = record { waits = ap syncs.sync_next l.0.gives_next; same = l.0.keeps }

    over : (refusal : Option Fault) → saves.GoesOver refusal wsize xid room by_reply s back next new after → Rests (syncs.sync_next next) s new
    over (Some fault) l = record { waits = ap syncs.sync_next l.0.gives_next ∙ refused fault (s.waiting == 0) refl; same = l.0.keeps }
    over None l = if_ (saves.may_send room s) refl l

sends-not : (call : Call) {X : Type 0} → nexts.Send call ≡ nexts.Wait → X
sends-not call {X} e = absurd (let no_way : nexts.Send call ≡ nexts.Wait = e in cc)

ends-not : (answer : _) {X : Type 0} → nexts.Done answer ≡ nexts.Wait → X
ends-not answer {X} e = absurd (let no_way : nexts.Done answer ≡ nexts.Wait = e in cc)

module _ (wsize : ℕ) (turn : Turn) (f : List ℕ) where
  sync-keeps : (at : Syncing) (m : SyncFile) (old : Shelf) (next : Step) (state : Syncing) (new : Shelf) → commits_sync at ≡ Some f → 1 ≤ of_syncing at
      → syncs.Resumes at wsize m turn old next state new → commits_sync state ≡ Some f
  sync-keeps syncing.Idle m old next state new is some s = none-some f is
  sync-keeps (syncing.Saves saving) m old next state new is some s = by (is_first m.lane old.order) s
    where
      by : (b : Bool) → syncs.QueuesIf b wsize m.lane turn saving old next state new → commits_sync state ≡ Some f
      by false q = ap commits_sync q.state_is ∙ is
      by true q =
          let r = goes-rests wsize turn.xid turn.room false saving old.back q.gives q.saved new.back f is some q.goes in
          by-step (λ g. syncs.sync_next g ≡ nexts.Wait → state ≡ syncs.sync_state g q.saved → commits_sync state ≡ Some f)
          (λ call w k. sends-not call w)
          (λ w k. ap commits_sync k ∙ ap commits_save r.same ∙ is)
          (λ result w k. ends-not (syncs.answer_of result) w)
          q.gives r.waits q.follows.state_is

  close-keeps : (at : Closing) (m : CloseFile) (old : Shelf) (next : Step) (state : Closing) (new : Shelf) → commits_close at ≡ Some f → 1 ≤ of_closing at
      → closes.Resumes at wsize m turn old next state new → commits_close state ≡ Some f
  close-keeps closing.Idle m old next state new is some s = none-some f is
  close-keeps (closing.Queued saving) m old next state new is some s = none-some f is
  close-keeps (closing.ToRemove removal) m old next state new is some s = none-some f is
  close-keeps (closing.Removing removal) m old next state new is some s = none-some f is
  close-keeps (closing.Saves saving) m old next state new is some s = by (is_first m.lane old.order) s
    where
      by : (b : Bool) → closes.GoesOnIf b wsize m.lane m.slot turn saving old next state new → commits_close state ≡ Some f
      by false w = ap commits_close w.state_is ∙ is
      by true g =
          let r = goes-rests wsize turn.xid turn.room false saving old.back g.gives g.saved g.gone.back f is some g.goes in
          by-step (λ k. syncs.sync_next k ≡ nexts.Wait → closes.Follows k m.lane m.slot turn.room true g.saved g.gone next state new → commits_close state ≡ Some f)
          (λ call w k. sends-not call w)
          (λ w k. ap commits_close k.1 ∙ ap commits_save r.same ∙ is)
          (λ result w k. ends-not (syncs.answer_of result) w)
          g.gives r.waits g.follows

  record WriteRests (next : Step) (state : Writing) : Type 0 where
    waits : next ≡ nexts.Wait
    same : commits_write state ≡ Some f

  write-keeps : (at : Writing) (lane : ℕ) (old : Shelf) (next : Step) (state : Writing) (after : Shelf) → commits_write at ≡ Some f → 1 ≤ of_writing at
      → writes.ResumesIn at wsize lane turn old next state after → WriteRests next state
  write-keeps writing.Idle lane old next state after is some s = none-some f is
  write-keeps (writing.Room file saving) lane old next state after is some s = by (is_first lane old.order) s
    where
      by : (b : Bool) → writes.SavesIf b wsize lane file saving turn old next state after → WriteRests next state
      by false l = record { waits = l.gives_next; same = ap commits_write l.keeps ∙ is }
      by true q =
          let r = goes-rests wsize turn.xid turn.room false saving old.back q.told q.saved q.back f is some q.goes in
          by-step (λ k. syncs.sync_next k ≡ nexts.Wait
          → writes.Leads (writes.room_next k) (writes.room_state k file q.saved) (writes.room_shelf k lane (record old { back = q.back })) next state after → WriteRests next state)
          (λ call w k. sends-not call w)
          (λ w k. record { waits = k.gives_next; same = ap commits_write k.keeps ∙ ap commits_save r.same ∙ is })
          (λ result w k. ends-not (syncs.answer_of result) w)
          q.told r.waits q.leads

  put-keeps : (at : Putting) (m : PutFile) (old : Shelf) (next : Step) (new : PutFile) (after : Shelf) → commits_put at m.write.state ≡ Some f
      → 1 ≤ of_putting at m.opening m.write.state → puts.Resumes at wsize m turn old next new after → commits_put new.state new.write.state ≡ Some f
  put-keeps putting.Idle m old next new after is some s = none-some f is
  put-keeps putting.Opens m old next new after is some s = none-some f is
  put-keeps (putting.Adds file) m old next new after is some s =
      let r = write-keeps m.write.state m.write.lane old s.told s.written s.mid is some s.resumes in
      ap (λ (p : PutFile). commits_put p.state p.write.state) s.goes.machine_is ∙ follows s.told r.waits s.goes.follows r.same
    where
      follows : (told : Step) → told ≡ nexts.Wait → puts.AfterWrite told wsize m.write.lane file turn s.mid next new.state after → commits_write s.written ≡ Some f
          → commits_put new.state s.written ≡ Some f
      follows (nexts.Send call) w a k = sends-not call w
      follows nexts.Wait w a k = ap (λ (t : Putting). commits_put t s.written) a.1 ∙ k
      follows (nexts.Done answer) w a k = ends-not answer w
  put-keeps (putting.Saves saving) m old next new after is some s =
      ap (λ (p : PutFile). commits_put p.state p.write.state) s.1 ∙ by (is_first m.write.lane old.order) s.0
    where
      by : (b : Bool) → puts.QueuesIf b wsize m.write.lane turn saving old next new.state after → commits_put new.state m.write.state ≡ Some f
      by false w = ap (λ (t : Putting). commits_put t m.write.state) w.state_is ∙ is
      by true g =
          let r = goes-rests wsize turn.xid turn.room false saving old.back g.gives g.saved g.gone.back f is some g.goes in
          by-step (λ k. syncs.sync_next k ≡ nexts.Wait → puts.Follows k m.write.lane g.saved g.gone next new.state after → commits_put new.state m.write.state ≡ Some f)
          (λ call w k. sends-not call w)
          (λ w k. ap (λ (t : Putting). commits_put t m.write.state) k.1 ∙ ap commits_save r.same ∙ is)
          (λ result w k. ends-not (syncs.answer_of result) w)
          g.gives r.waits g.follows

  file-keeps : (m : FileMachine) (old : Shelf) (next : Step) (new : FileMachine) (after : Shelf) → commits_file m ≡ Some f → 1 ≤ calls_of m
      → steps.Resumes wsize m turn old next new after → commits_file new ≡ Some f
  file-keeps (files.Open m) old next new after is some s = none-some f is
  file-keeps (files.Read m) old next new after is some s = none-some f is
  file-keeps (files.Write m) old next new after is some s =
      ap commits_file s.machine_is ∙ (write-keeps m.state m.lane old next s.state after is some s.step).same
  file-keeps (files.Sync m) old next new after is some s = ap commits_file s.machine_is ∙ sync-keeps m.state m old next s.state after is some s.step
  file-keeps (files.Close m) old next new after is some s = ap commits_file s.machine_is ∙ close-keeps m.state m old next s.state after is some s.step
  file-keeps (files.Truncate m) old next new after is some s = none-some f is
  file-keeps (files.Put m) old next new after is some s = ap commits_file s.machine_is ∙ put-keeps m.state m old next s.machine after is some s.step

  path-keeps : (b : Bool) (m : PathMachine) (old : Shelf) (next : Step) (new : PathMachine) (after : Shelf) → m.arrived ≡ b → commits_path b m.opener ≡ Some f → 1 ≤ of_path m
      → paths.PathResumes b wsize m turn old next new after → commits_path new.arrived new.opener ≡ Some f
  path-keeps false m old next new after there is some r = none-some f is
  path-keeps true m old next new after there is some r =
      ap (λ (n : PathMachine). commits_path n.arrived n.opener) r.machine_is ∙ ap (λ (b : Bool). commits_path b r.opener) there
      ∙ file-keeps (file_of m.opener) old next (file_of r.opener) after is (let same = path-file m there in omega (arith, some, same)) r.step

  all-keeps : (m : Machine) (old : Shelf) (next : Step) (new : Machine) (after : Shelf) → commits_of m ≡ Some f → 1 ≤ in_flight m → Resumes wsize m turn old next new after
      → commits_of new ≡ Some f
  all-keeps (machines.File m) old next new after is some s = ap commits_of s.machine_is ∙ file-keeps m old next s.machine after is some s.step
  all-keeps (machines.Path m) old next new after is some s = ap commits_of s.machine_is ∙ path-keeps m.arrived m old next s.machine after refl is some s.step
  all-keeps (machines.Name m) old next new after is some s = none-some f is

kept-of : (next : Step) (others : ℕ) (old new : Machine) → WhileGoing next (1 ≤ others → flies_of new ≡ flies_of old)
    → (1 ≤ others → (f : List ℕ) → commits_of old ≡ Some f → commits_of new ≡ Some f) → KeptOf CallFits others old next new
kept-of (nexts.Send call) others old new stays keeps =
    λ some c e. record { sends = λ f is. e.sends f (sym (stays some) ∙ is); writes = λ f is. stays some ∙ e.writes f is; commits_ = λ f is. keeps some f (e.commits_ f is) }
kept-of nexts.Wait others old new stays keeps =
    λ some c e. record { sends = λ f is. e.sends f (sym (stays some) ∙ is); writes = λ f is. stays some ∙ e.writes f is; commits_ = λ f is. keeps some f (e.commits_ f is) }
kept-of (nexts.Done answer) others old new stays keeps = tt

pub fits-laws : ExpectLaws CallFits
fits-laws = record {
  starts = λ m wsize turn old next new after s. asked-of next new (all-starts wsize turn m old next new after s);
  resumes = λ m wsize turn old next new after s. (
    asked-of next new (all-resumes wsize turn m old next new after s),
    kept-of next (in_flight m) m new (resumes-stay m wsize turn old next new after s) (λ some f is. all-keeps wsize turn f m old next new after is some s),
  );
  takes = λ m wsize sent turn came old next new after others one s. (
    asked-of next new (all-takes wsize turn sent came m old next new after others one s),
    kept-of next others m new (takes-stay m wsize sent turn came old next new after others one s)
        (λ some f is. let few = one-commit m f is in absurd (omega (arith, some, few, one))),
  );
}
