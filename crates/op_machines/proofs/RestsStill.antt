-- An operation that waits for the reply to a call of its own, or for its turn, does nothing at any other step.
use Rattle.std.specs.Bool.{OnTrue}
use Rattle.std.proofs.Common.{◌≡◌, ℕ, Bool, true, false, ◌||◌, not, if◌then◌else◌, refl, sym, ap, subst, ◌∙◌}
use Rattle.client_shelf.specs.declared.shelf.Shelf.{Shelf}
use Rattle.client_shelf.specs.declared.turn.Turn.{Turn}
use Rattle.client_shelf.specs.declared.step.Step.TheVariants as nexts
use Rattle.file_ops.specs.declared.close_file.CloseFile.{CloseFile}
use Rattle.file_ops.specs.declared.open_file.OpenFile.{OpenFile}
use Rattle.file_ops.specs.declared.opening.Opening.{Opening}
use Rattle.file_ops.specs.declared.opening.OpeningStep.TheVariants as opening_nexts
use Rattle.file_ops.specs.declared.put_file.PutFile.{PutFile}
use Rattle.file_ops.specs.declared.read_file.ReadFile.{ReadFile}
use Rattle.file_ops.specs.declared.sync_file.SyncFile.{SyncFile}
use Rattle.file_ops.specs.declared.truncate_file.TruncateFile.{TruncateFile}
use Rattle.file_ops.specs.declared.truncate_file.Truncating.{Truncating}
use Rattle.file_ops.specs.declared.truncate_file.Truncating.TheVariants as truncatings
use Rattle.file_ops.specs.declared.write_file.WriteFile.{WriteFile}
use Rattle.file_ops.specs.OpenFile as opens
use Rattle.file_ops.specs.Opening as openings
use Rattle.file_ops.specs.Rests.{SyncRests, WriteRests, CloseRests, PutRests, ReadRests}
use Rattle.file_ops.specs.TruncateFile as truncates
use Rattle.name_ops.specs.declared.pair.Pair.{Pair}
use Rattle.name_ops.specs.declared.pair.PairStep.TheVariants as pair_nexts
use Rattle.name_ops.specs.declared.stat.Stat.{Stat}
use Rattle.name_ops.specs.declared.visit.Visit.{Visit}
use Rattle.name_ops.specs.declared.visit.VisitStep.TheVariants as visit_nexts
use Rattle.name_ops.specs.declared.walk.Walk.{Walk}
use Rattle.name_ops.specs.declared.walk.WalkStep.TheVariants as walk_nexts
use Rattle.name_ops.specs.DirChange.{deed_call}
use Rattle.name_ops.specs.Access.{access_call}
use Rattle.name_ops.specs.Link.{link_call}
use Rattle.name_ops.specs.ListDir.{page_call}
use Rattle.name_ops.specs.Pairs as pairs
use Rattle.name_ops.specs.ReadLink.{text_call}
use Rattle.name_ops.specs.RemoveFile as removals
use Rattle.name_ops.specs.Rename.{rename_call}
use Rattle.name_ops.specs.Stat as stats
use Rattle.name_ops.specs.SymLink.{sym_link_call, CopiesBy}
use Rattle.name_ops.specs.Visiting as visits
use Rattle.name_ops.specs.Walking as walks
use Rattle.op_machines.specs.declared.file_machine.FileMachine.{FileMachine}
use Rattle.op_machines.specs.declared.file_machine.FileMachine.TheVariants as files
use Rattle.op_machines.specs.declared.machine.Machine.TheVariants as machines
use Rattle.op_machines.specs.declared.name_machine.NameMachine.{NameMachine}
use Rattle.op_machines.specs.declared.name_machine.NameMachine.TheVariants as names
use Rattle.op_machines.specs.declared.path_machine.PathMachine.{PathMachine}
use Rattle.op_machines.specs.NameSteps.{NameGoes, change_with, access_with, read_link_with, sym_link_with, list_with, rename_with, link_with}
use Rattle.op_machines.specs.Openers.{file_of}
use Rattle.op_machines.specs.PathSteps.{PathResumes, Follows}
use Rattle.op_machines.specs.Rests.{Rests, FileRests, PathRests, truncate_rests, name_rests, visit_rests, pair_rests}

module _ {A : Type 0} where
  taken : (b : Bool) (x y : A) → b ≡ true → (if b then x else y) ≡ x
  taken b x y h = ap (λ (t : Bool). if t then x else y) h

  passed : (b : Bool) (x y : A) → b ≡ false → (if b then x else y) ≡ y
  passed b x y h = ap (λ (t : Bool). if t then x else y) h

other : (a b : Bool) → (a || b) ≡ true → a ≡ false → b ≡ true
other true b h e = cc e
other false b h e = h

-- ---- walks

module _ (turn : Turn) (shelf : Shelf) where
  walk_still : (w : Walk) → w.asked ≡ true → (walks.go_next w turn shelf ≡ walk_nexts.Wait) × (walks.go_after w turn shelf ≡ w) × (walks.go_shelf w turn shelf ≡ shelf)
  walk_still w h = (
    taken w.asked walk_nexts.Wait (walks.on_next w turn shelf.attrs shelf.names) h,
    taken w.asked w (walks.on_after w turn shelf.attrs shelf.names) h,
    ap (λ n. record shelf { names = n }) (taken w.asked shelf.names (walks.on_names w turn shelf.attrs shelf.names) h),
  )

  visit_still : (v : Visit) → visit_rests v ≡ true
      → (visits.visit_next v turn shelf ≡ visit_nexts.Wait) × (visits.visit_after v turn shelf ≡ v) × (visits.visit_shelf v turn shelf ≡ shelf)
  visit_still v h = by v.asked refl
    where
      by : (b : Bool) → v.asked ≡ b → (visits.visit_next v turn shelf ≡ visit_nexts.Wait) × (visits.visit_after v turn shelf ≡ v) × (visits.visit_shelf v turn shelf ≡ shelf)
      by true e = (taken v.asked visit_nexts.Wait _ e, taken v.asked v _ e, taken v.asked shelf _ e)
      by false e =
          let w = walk_still v.walk (other v.asked v.walk.asked h e) in
          let next = visits.follow_next (walks.go_next v.walk turn shelf) turn.room in
          let after = visits.follow_after (walks.go_next v.walk turn shelf) turn.room (record v { walk = walks.go_after v.walk turn shelf }) in
          let left = walks.go_shelf v.walk turn shelf in (
            passed v.asked visit_nexts.Wait next e ∙ ap (λ n. visits.follow_next n turn.room) w.0,
            passed v.asked v after e ∙ ap (λ n. visits.follow_after n turn.room (record v { walk = walks.go_after v.walk turn shelf })) w.0 ∙ ap (λ k. record v { walk = k }) w.1,
            passed v.asked shelf left e ∙ w.2,
          )

  pair_still : (p : Pair) → pair_rests p ≡ true
      → (pairs.pair_next p turn shelf ≡ pair_nexts.Wait) × (pairs.pair_after p turn shelf ≡ p) × (pairs.pair_shelf p turn shelf ≡ shelf)
  pair_still p h = by (pairs.waits p) refl
    where
      by : (b : Bool) → pairs.waits p ≡ b → (pairs.pair_next p turn shelf ≡ pair_nexts.Wait) × (pairs.pair_after p turn shelf ≡ p) × (pairs.pair_shelf p turn shelf ≡ shelf)
      by true e = (
        taken (pairs.waits p) pair_nexts.Wait (pairs.on_next p turn shelf) e,
        taken (pairs.waits p) p (pairs.on_after p turn shelf) e,
        taken (pairs.waits p) shelf (pairs.on_shelf p turn shelf) e,
      )
      by false e =
          let w = walk_still p.first (other (pairs.waits p) p.first.asked h e) in
          let walked = pairs.walked_first p turn shelf in
          let left = walks.go_shelf p.first turn shelf in (
            passed (pairs.waits p) pair_nexts.Wait (pairs.on_next p turn shelf) e ∙ ap (λ n. pairs.led_first n walked turn left) w.0,
            passed (pairs.waits p) p (pairs.on_after p turn shelf) e ∙ ap (λ n. pairs.first_kept n walked turn left) w.0 ∙ ap (λ k. record p { first = k }) w.1,
            passed (pairs.waits p) shelf (pairs.on_shelf p turn shelf) e ∙ ap (λ n. pairs.first_shelf n walked turn left) w.0 ∙ w.2,
          )

  stat_still : (m : Stat) → (m.asked || m.walk.asked) ≡ true
      → (stats.stat_next m turn shelf ≡ nexts.Wait) × (stats.stat_after m turn shelf ≡ m) × (stats.stat_shelf m turn shelf ≡ shelf)
  stat_still m h = by m.asked refl
    where
      by : (b : Bool) → m.asked ≡ b → (stats.stat_next m turn shelf ≡ nexts.Wait) × (stats.stat_after m turn shelf ≡ m) × (stats.stat_shelf m turn shelf ≡ shelf)
      by true e = (taken m.asked nexts.Wait _ e, taken m.asked m _ e, taken m.asked shelf _ e)
      by false e =
          let w = walk_still m.walk (other m.asked m.walk.asked h e) in
          let next = stats.follow_next (walks.go_next m.walk turn shelf) turn shelf.attrs in
          let after = stats.follow_after (walks.go_next m.walk turn shelf) turn shelf.attrs (record m { walk = walks.go_after m.walk turn shelf }) in
          let left = walks.go_shelf m.walk turn shelf in (
            passed m.asked nexts.Wait next e ∙ ap (λ n. stats.follow_next n turn shelf.attrs) w.0,
            passed m.asked m after e ∙ ap (λ n. stats.follow_after n turn shelf.attrs (record m { walk = walks.go_after m.walk turn shelf })) w.0 ∙ ap (λ k. record m { walk = k }) w.1,
            passed m.asked shelf left e ∙ w.2,
          )

  -- ---- operations on names

  name_still : (m : NameMachine) → name_rests m ≡ true → NameGoes m turn shelf nexts.Wait m shelf
  name_still (names.Change m) h = let s = visit_still m.visit h in
      record { next_is = sym (ap (λ n. visits.next_by (deed_call m.deed m.name) n) s.0); machine_is = ap (λ v. change_with m v) (sym s.1); shelf_is = sym s.2 }
  name_still (names.Stat m) h = let s = stat_still m h in record { next_is = sym s.0; machine_is = ap (λ k. names.Stat k) (sym s.1); shelf_is = sym s.2 }
  name_still (names.Access m) h = let s = visit_still m.visit h in
      record { next_is = sym (ap (λ n. visits.next_by (access_call m.bits) n) s.0); machine_is = ap (λ v. access_with m v) (sym s.1); shelf_is = sym s.2 }
  name_still (names.ReadLink m) h = let s = visit_still m.visit h in
      record { next_is = sym (ap (λ n. visits.next_by text_call n) s.0); machine_is = ap (λ v. read_link_with m v) (sym s.1); shelf_is = sym s.2 }
  name_still (names.Remove m) h = record {
    machine = m;
    machine_is = refl;
    step = subst (λ (b : Bool). removals.Resumes b m turn shelf nexts.Wait m shelf) (sym h) (record { next_is = refl; machine_is = refl; shelf_is = refl });
  }
  name_still (names.Rename m) h = let s = pair_still m.pair h in
      record { next_is = sym (ap (λ n. pairs.next_by (rename_call m.from m.to) n) s.0); machine_is = ap (λ p. rename_with m p) (sym s.1); shelf_is = sym s.2 }
  name_still (names.Link m) h = let s = pair_still m.pair h in
      record { next_is = sym (ap (λ n. pairs.next_by (link_call m.name) n) s.0); machine_is = ap (λ p. link_with m p) (sym s.1); shelf_is = sym s.2 }
  name_still (names.SymLink m) h = let s = visit_still m.visit h in record {
    next_is = subst (λ n. CopiesBy (sym_link_call m.name m.target) n nexts.Wait) (sym s.0) refl;
    machine_is = ap (λ v. sym_link_with m v) (sym s.1);
    shelf_is = sym s.2;
  }
  name_still (names.List m) h = let s = visit_still m.visit h in
      record { next_is = sym (ap (λ n. visits.next_by (page_call m.place) n) s.0); machine_is = ap (λ v. list_with m v) (sym s.1); shelf_is = sym s.2 }

  -- ---- opens

  opening_still : (o : Opening) → o.asked ≡ true → (openings.go_next o turn ≡ opening_nexts.Wait) × (openings.go_after o turn ≡ o)
  opening_still o h =
      let waits : openings.waits o turn ≡ true = ap (λ (b : Bool). b || not turn.room) h in (
        taken (openings.waits o turn) opening_nexts.Wait (opening_nexts.Send (openings.call_of o o.step)) waits,
        taken (openings.waits o turn) o (record o { asked = true }) waits,
      )

  walked_still : (wsize : ℕ) (m : PathMachine) → m.arrived ≡ false → m.walk.asked ≡ true → PathResumes m.arrived wsize m turn shelf nexts.Wait m shelf
  walked_still wsize m e h =
      let w = walk_still m.walk h in
      subst (λ (b : Bool). PathResumes b wsize m turn shelf nexts.Wait m shelf) (sym e)
      (subst (λ n. Follows n wsize (record m { walk = walks.go_after m.walk turn shelf }) turn (walks.go_shelf m.walk turn shelf) nexts.Wait m shelf) (sym w.0)
      (refl, ap (λ k. record m { walk = k }) (sym w.1), sym w.2))

  truncate_still : (m : TruncateFile) (state : Truncating) → truncate_rests state ≡ true
      → (truncates.resumed_next state m turn shelf ≡ nexts.Wait) × (truncates.resumed_state state m turn shelf ≡ state)
  truncate_still m (truncatings.Asked file upto) h = (refl, refl)
  truncate_still m truncatings.Idle h = cc h
  truncate_still m (truncatings.Queued file upto) h = cc h

-- ---- one on a file

pub open-file : (m : OpenFile) (shelf : Shelf) (b : Bool) → b ≡ m.opening.asked → OnTrue b (FileRests (files.Open m) shelf)
open-file m shelf false asked = tt
open-file m shelf true asked = λ wsize turn.
    let s = opening_still turn shelf m.opening (sym asked) in
    record { next_is = sym (ap (λ n. opens.goes_as n) s.0); machine_is = ap (λ o. files.Open (record m { opening = o })) (sym s.1); shelf_is = refl }

pub read-file : (m : ReadFile) (shelf : Shelf) (b : Bool) → OnTrue b (ReadRests m) → OnTrue b (FileRests (files.Read m) shelf)
read-file m shelf false rests = tt
read-file m shelf true rests = λ wsize turn. record { machine = m; machine_is = refl; step = rests turn.room shelf.pages shelf.back; others = refl }

pub write-file : (m : WriteFile) (shelf : Shelf) (b : Bool) → OnTrue b (WriteRests m.state m.lane shelf) → OnTrue b (FileRests (files.Write m) shelf)
write-file m shelf false rests = tt
write-file m shelf true rests = λ wsize turn. record { state = m.state; machine_is = refl; step = rests wsize turn }

pub sync-file : (m : SyncFile) (shelf : Shelf) (b : Bool) → OnTrue b (SyncRests m shelf) → OnTrue b (FileRests (files.Sync m) shelf)
sync-file m shelf false rests = tt
sync-file m shelf true rests = λ wsize turn. record { state = m.state; machine_is = refl; step = rests wsize turn }

pub close-file : (m : CloseFile) (shelf : Shelf) (b : Bool) → OnTrue b (CloseRests m shelf) → OnTrue b (FileRests (files.Close m) shelf)
close-file m shelf false rests = tt
close-file m shelf true rests = λ wsize turn. record { state = m.state; machine_is = refl; step = rests wsize turn }

pub truncate-file : (m : TruncateFile) (shelf : Shelf) (b : Bool) → b ≡ truncate_rests m.state → OnTrue b (FileRests (files.Truncate m) shelf)
truncate-file m shelf false rests = tt
truncate-file m shelf true rests = λ wsize turn.
    let s = truncate_still turn shelf m m.state (sym rests) in
    record { next_is = sym s.0; machine_is = ap (λ k. files.Truncate (record m { state = k })) (sym s.1); shelf_is = refl }

pub put-file : (m : PutFile) (shelf : Shelf) (b : Bool) → OnTrue b (PutRests m shelf) → OnTrue b (FileRests (files.Put m) shelf)
put-file m shelf false rests = tt
put-file m shelf true rests = λ wsize turn. record { machine = m; machine_is = refl; step = rests wsize turn }

-- ---- an open or a put, at its directory or on the way

pub arrived-rests : (m : PathMachine) (shelf : Shelf) (b : Bool) → m.arrived ≡ true → OnTrue b (FileRests (file_of m.opener) shelf) → OnTrue b (PathRests m shelf)
arrived-rests m shelf false at rests = tt
arrived-rests m shelf true at rests = λ wsize turn.
    subst (λ (b : Bool). PathResumes b wsize m turn shelf nexts.Wait m shelf) (sym at) (record { opener = m.opener; machine_is = refl; step = rests wsize turn })

pub walking-rests : (m : PathMachine) (shelf : Shelf) (b : Bool) → m.arrived ≡ false → b ≡ m.walk.asked → OnTrue b (PathRests m shelf)
walking-rests m shelf false at asked = tt
walking-rests m shelf true at asked = λ wsize turn. walked_still turn shelf wsize m at (sym asked)

-- ---- any of them

pub file-rests : (m : FileMachine) (shelf : Shelf) (b : Bool) → OnTrue b (FileRests m shelf) → OnTrue b (Rests (machines.File m) shelf)
file-rests m shelf false rests = tt
file-rests m shelf true rests = λ wsize turn. record { machine = m; machine_is = refl; step = rests wsize turn }

pub path-rests : (m : PathMachine) (shelf : Shelf) (b : Bool) → OnTrue b (PathRests m shelf) → OnTrue b (Rests (machines.Path m) shelf)
path-rests m shelf false rests = tt
path-rests m shelf true rests = λ wsize turn. record { machine = m; machine_is = refl; step = rests wsize turn }

pub name-rests : (m : NameMachine) (shelf : Shelf) (b : Bool) → b ≡ name_rests m → OnTrue b (Rests (machines.Name m) shelf)
name-rests m shelf false rests = tt
name-rests m shelf true rests = λ wsize turn. record { machine = m; machine_is = refl; step = name_still turn shelf m (sym rests) }
