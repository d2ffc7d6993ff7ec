-- What holds of each place where a file is hidden holds of those that closes take from there: which steps change them.
use Rattle.core_session.proofs.Prelude.{◌≡◌, ◌-◌, ◌⊎◌, inl, inr, ℕ, Bool, true, false, cond, List, Option, Some, None, Result, Ok, Err, refl, sym, ap, subst, ◌∙◌, if◌then◌else◌, Fault, Reply, of_file, last_end, Step, Shelf, Turn, is_first, goes_again, Removal, CloseFile, Closing, Saving, remove_busy, refusal_of, file_to_write, file_at, joined, by-step, RemoveFile, WalkStep, FileMachine, Machine, Opener, PathMachine, file_of, begun_at, slot_taken, Starts, Resumes, Takes}
use Rattle.file_ops.specs.Closings.{Places}
use Rattle.op_machines.specs.Openers.{placed}
use Rattle.std.specs.FinMap as finite
use Rattle.std.specs.Ordering.{eq_by_cmp, nat_cmp}
use Rattle.std.specs.Cmp.Lexicographic.{slice_cmp, nat_list_cmp_total}
use Rattle.std.specs.Cmp.{Equal-is}
use Rattle.file_ops.specs.declared.close_file.Closing.TheVariants as closing
use Rattle.file_ops.specs.Closes as closes
use Rattle.file_ops.specs.Saves as saves
use Rattle.file_ops.specs.TruncateFile as truncates
use Rattle.name_ops.specs.declared.walk.WalkStep.TheVariants as walks
use Rattle.name_ops.specs.Walking as walking
use Rattle.op_machines.specs.declared.file_machine.FileMachine.TheVariants as files
use Rattle.op_machines.specs.declared.machine.Machine.TheVariants as machines
use Rattle.op_machines.specs.declared.name_machine.NameMachine.TheVariants as names
use Rattle.op_machines.specs.declared.opener.Opener.TheVariants as openers
use Rattle.op_machines.specs.FileSteps as steps
use Rattle.op_machines.specs.PathSteps as paths
use Rattle.core_session.proofs.hidden.SillyFiles as on_files
use Rattle.core_session.proofs.hidden.SillyNames as on_names
use Rattle.core_session.proofs.hidden.SillyNames.{Moved, NameSilly}

-- ---- the map

pub same-file : (f g : List ℕ) → eq_by_cmp (slice_cmp nat_cmp) f g ≡ true → f ≡ g
same-file f g is = finite.slice_cmp-IsAntisymmetric finite.nat_cmp-IsAntisymmetric f g ((Equal-is (slice_cmp nat_cmp f g)).0 is)

-- what is left was there
pub left-was : (places : Places) (file f : List ℕ) (x : List ℕ × List ℕ) → finite.get (finite.remove places file) f ≡ Some x → finite.get places f ≡ Some x
left-was places file f x is = by (eq_by_cmp (slice_cmp nat_cmp) f file) (sym (finite.get-remove nat_list_cmp_total places file f) ∙ is)
  where
    by : (b : Bool) → cond b None (finite.get places f) ≡ Some x → finite.get places f ≡ Some x
    by true e = absurd (cc)
    by false e = e

-- what is there now was, or is what was added
pub added-was : (places : Places) (file f : List ℕ) (v x : List ℕ × List ℕ) → finite.get (finite.insert places file v) f ≡ Some x → ((f ≡ file) × (x ≡ v)) ⊎ (finite.get places f ≡ Some x)
added-was places file f v x is = by (eq_by_cmp (slice_cmp nat_cmp) f file) refl (sym (finite.get-insert nat_list_cmp_total places file v f) ∙ is)
  where
    some-is : Some v ≡ Some x → x ≡ v
    some-is e = cc

    by : (b : Bool) → eq_by_cmp (slice_cmp nat_cmp) f file ≡ b → cond b (Some v) (finite.get places f) ≡ Some x → ((f ≡ file) × (x ≡ v)) ⊎ (finite.get places f ≡ Some x)
    by true same e = inl (same-file f file same, some-is e)
    by false same e = inr e

-- ---- B of a file, and of the directory and the name where it is hidden

module _ (B : List ℕ → List ℕ → List ℕ → Type 0) where
  abbrev pub AllHidden : Places → Type 0
  AllHidden places = (f d name : List ℕ) → finite.get places f ≡ Some (d, name) → B f d name

  abbrev pub Of : Removal → Type 0
  Of removal = B removal.file removal.dir removal.name

  abbrev pub CloseHas : Closing → Type 0
  CloseHas closing.Idle = Unit {0}
  CloseHas (closing.Queued saving) = Unit {0}
  CloseHas (closing.Saves saving) = Unit {0}
  CloseHas (closing.ToRemove removal) = Of removal
  CloseHas (closing.Removing removal) = Of removal

  abbrev pub FileHas : FileMachine → Type 0
  FileHas (files.Close m) = CloseHas m.state
  FileHas (files.Open m) = Unit {0}
  FileHas (files.Read m) = Unit {0}
  FileHas (files.Write m) = Unit {0}
  FileHas (files.Sync m) = Unit {0}
  FileHas (files.Truncate m) = Unit {0}
  FileHas (files.Put m) = Unit {0}

  -- a close, by itself
  abbrev pub Removes : Machine → Type 0
  Removes (machines.File m) = FileHas m
  Removes (machines.Path m) = Unit {0}
  Removes (machines.Name m) = Unit {0}

  abbrev pub After : Closing → Shelf → Type 0
  After state shelf = AllHidden shelf.silly × CloseHas state

  same-all : (old new : Shelf) → new.silly ≡ old.silly → AllHidden old.silly → AllHidden new.silly
  same-all old new is all = subst AllHidden (sym is) all

  to-state : (at state : Closing) (old new : Shelf) → state ≡ at → new.silly ≡ old.silly → AllHidden old.silly → CloseHas at → After state new
  to-state at state old new is same all has = (same-all old new same all, subst CloseHas (sym is) has)

  -- ---- closes

  asks-as : (room : Bool) (removal : Removal) → Of removal → CloseHas (closes.ask_state room removal)
  asks-as true removal has = has
  asks-as false removal has = has

  ends-at : (place : Option (List ℕ × List ℕ)) (lane : ℕ) (room : Bool) (file : List ℕ) (refusal : Option Fault) (old : Shelf) (next : Step) (state : Closing) (new : Shelf)
      → ((d name : List ℕ) → place ≡ Some (d, name) → B file d name) → AllHidden old.silly → closes.EndsAt place lane room file refusal old next state new → After state new
  ends-at None lane room file refusal old next state new at all e = to-state closing.Idle state old new e.state_is (ap (λ (k : Shelf). k.silly) e.others) all tt
  ends-at (Some place) lane room file refusal old next state new at all e =
      to-state (closes.ask_state room (record { file = file; dir = place.0; name = place.1; refusal = refusal })) state old new e.state_is (ap (λ (k : Shelf). k.silly) e.shelf_is) all
      (asks-as room (record { file = file; dir = place.0; name = place.1; refusal = refusal }) (at place.0 place.1 refl))

  frees : (lane slot : ℕ) (room : Bool) (file : List ℕ) (refusal : Option Fault) (old : Shelf) (next : Step) (state : Closing) (new : Shelf) → AllHidden old.silly
      → closes.Frees lane slot room file refusal old next state new → After state new
  frees lane slot room file refusal old next state new all f = ends-at f.place lane room file refusal f.freed next state new told freed f.ends
    where
      of-place : (b : Bool) (d name : List ℕ) → f.place ≡ (if b then None else finite.get old.silly file) → f.place ≡ Some (d, name) → B file d name
      of-place true d name is at = absurd (let no_way : None ≡ Some (d, name) = sym is ∙ at in cc)
      of-place false d name is at = all file d name (sym is ∙ at)

      told : (d name : List ℕ) → f.place ≡ Some (d, name) → B file d name
      told d name at = of-place f.tells.is_open d name f.tells.place_is at

      of-rest : (b : Bool) → f.freed.silly ≡ (if b then old.silly else finite.remove old.silly file) → AllHidden f.freed.silly
      of-rest true is = subst AllHidden (sym is) all
      of-rest false is = subst AllHidden (sym is) (λ g d name at. all g d name (left-was old.silly file g (d, name) at))

      freed : AllHidden f.freed.silly
      freed = of-rest f.tells.is_open f.tells.after

  waits-as : (begun : Bool) (saving : Saving) → CloseHas (closes.waits_as begun saving)
  waits-as true saving = tt
  waits-as false saving = tt

  follows : (gives : _) (lane slot : ℕ) (room begun : Bool) (saving : Saving) (old : Shelf) (next : Step) (state : Closing) (new : Shelf) → AllHidden old.silly
      → closes.Follows gives lane slot room begun saving old next state new → After state new
  follows gives lane slot room begun saving old next state new all f = by-step (λ g. closes.Follows g lane slot room begun saving old next state new → After state new)
      (λ call l. to-state (closing.Saves saving) state old new l.1 (ap (λ (k : Shelf). k.silly) l.2) all tt)
      (λ l. to-state (closes.waits_as begun saving) state old new l.1 (ap (λ (k : Shelf). k.silly) l.2) all (waits-as begun saving))
      (λ result l. frees lane slot room saving.file (refusal_of result) old next state new all l)
      gives f

  goes-on : (wsize lane slot : ℕ) (turn : Turn) (begun : Bool) (saving : Saving) (old : Shelf) (next : Step) (state : Closing) (new : Shelf) → AllHidden old.silly
      → closes.GoesOn wsize lane slot turn begun saving old next state new → After state new
  goes-on wsize lane slot turn begun saving old next state new all g =
      follows g.gives lane slot turn.room begun g.saved g.gone next state new (same-all old g.gone (ap (λ (k : Shelf). k.silly) g.others) all) g.follows

  queues : (b : Bool) (wsize lane slot : ℕ) (turn : Turn) (saving : Saving) (old : Shelf) (next : Step) (state : Closing) (new : Shelf) → AllHidden old.silly
      → closes.QueuesIf b wsize lane slot turn saving old next state new → After state new
  queues false wsize lane slot turn saving old next state new all q = to-state (closing.Queued saving) state old new q.state_is (ap (λ (k : Shelf). k.silly) q.shelf_is) all tt
  queues true wsize lane slot turn saving old next state new all q = by (last_end (of_file saving.file old.back).segments) q
    where
      by : (end : Option ℕ) → closes.Begins end wsize lane slot turn saving old next state new → After state new
      by None b = frees lane slot turn.room saving.file None old next state new all b
      by (Some end) b = goes-on wsize lane slot turn false saving old next state new all b

  close-starts : (wsize : ℕ) (m : CloseFile) (turn : Turn) (old : Shelf) (next : Step) (state : Closing) (new : Shelf) → AllHidden old.silly → CloseHas m.state
      → closes.Starts wsize m turn old next state new → After state new
  close-starts wsize m turn old next state new all has s = by (file_at m.lane m.slot old.opens) s
    where
      by : (found : Option (List ℕ)) → closes.StartsAt found wsize m turn old next state new → After state new
      by None s = to-state m.state state old new s.state_is (ap (λ (k : Shelf). k.silly) s.shelf_is) all has
      by (Some file) s = queues (is_first m.lane (joined m.lane file old).order) wsize m.lane m.slot turn (saves.begun file old.seq) (joined m.lane file old) next state new all s

  close-resumes : (at : Closing) (wsize : ℕ) (m : CloseFile) (turn : Turn) (old : Shelf) (next : Step) (state : Closing) (new : Shelf) → AllHidden old.silly → CloseHas at
      → closes.Resumes at wsize m turn old next state new → After state new
  close-resumes closing.Idle wsize m turn old next state new all has r = to-state closing.Idle state old new r.state_is (ap (λ (k : Shelf). k.silly) r.shelf_is) all tt
  close-resumes (closing.Queued saving) wsize m turn old next state new all has r = queues (is_first m.lane old.order) wsize m.lane m.slot turn saving old next state new all r
  close-resumes (closing.Saves saving) wsize m turn old next state new all has r = by (is_first m.lane old.order) r
    where
      by : (b : Bool) → closes.GoesOnIf b wsize m.lane m.slot turn saving old next state new → After state new
      by true g = goes-on wsize m.lane m.slot turn true saving old next state new all g
      by false g = to-state (closing.Saves saving) state old new g.state_is (ap (λ (k : Shelf). k.silly) g.shelf_is) all tt
  close-resumes (closing.ToRemove removal) wsize m turn old next state new all has r =
      to-state (closes.ask_state turn.room removal) state old new r.state_is (ap (λ (k : Shelf). k.silly) r.shelf_is) all (asks-as turn.room removal has)
  close-resumes (closing.Removing removal) wsize m turn old next state new all has r =
      to-state (closing.Removing removal) state old new r.state_is (ap (λ (k : Shelf). k.silly) r.shelf_is) all has

  close-takes : (at : Closing) (wsize : ℕ) (m : CloseFile) (sent turn : Turn) (came : Result Reply Fault) (old : Shelf) (next : Step) (state : Closing) (new : Shelf) → AllHidden old.silly
      → CloseHas at → closes.Takes at wsize m sent turn came old next state new → After state new
  close-takes closing.Idle wsize m sent turn came old next state new all has t = to-state closing.Idle state old new t.state_is (ap (λ (k : Shelf). k.silly) t.shelf_is) all tt
  close-takes (closing.Queued saving) wsize m sent turn came old next state new all has t =
      to-state (closing.Queued saving) state old new t.state_is (ap (λ (k : Shelf). k.silly) t.shelf_is) all tt
  close-takes (closing.Saves saving) wsize m sent turn came old next state new all has t =
      follows t.gives m.lane m.slot turn.room true t.saved t.took next state new (same-all old t.took (ap (λ (k : Shelf). k.silly) t.others) all) t.follows
  close-takes (closing.ToRemove removal) wsize m sent turn came old next state new all has t =
      to-state (closing.ToRemove removal) state old new t.state_is (ap (λ (k : Shelf). k.silly) t.shelf_is) all has
  close-takes (closing.Removing removal) wsize m sent turn came old next state new all has t =
      by (goes_again (remove_busy came) sent turn old.repeats) t.ends
    where
      took : AllHidden t.took.silly
      took = same-all old t.took (ap (λ (k : Shelf). k.silly) t.others) all

      by : (b : Bool) → closes.EndsIf b m.lane removal t.took next state new → After state new
      by true e = to-state (closing.Removing removal) state t.took new e.state_is (ap (λ (k : Shelf). k.silly) e.shelf_is) took has
      by false e = to-state closing.Idle state t.took new e.state_is (ap (λ (k : Shelf). k.silly) e.others) took tt

  -- ---- operations on files

  abbrev pub FileLeft : FileMachine → Shelf → Type 0
  FileLeft m shelf = AllHidden shelf.silly × FileHas m

  file-to : (to new : FileMachine) (shelf : Shelf) → new ≡ to → AllHidden shelf.silly → FileHas to → FileLeft new shelf
  file-to to new shelf is all has = (all, subst FileHas (sym is) has)

  begun-silly : (found : Result (List ℕ) Fault) (m : _) (old : Shelf) → (truncates.begun_shelf found m old).silly ≡ old.silly
  begun-silly (Ok file) m old = refl
  begun-silly (Err fault) m old = refl

  file-starts : (wsize : ℕ) (m : FileMachine) (turn : Turn) (old : Shelf) (next : Step) (new : FileMachine) (after : Shelf) → steps.Starts wsize m turn old next new after → AllHidden old.silly
      → FileHas m → FileLeft new after
  file-starts wsize (files.Open m) turn old next new after s all has = file-to _ new after s.machine_is (same-all old after (ap (λ (k : Shelf). k.silly) s.shelf_is) all) tt
  file-starts wsize (files.Read m) turn old next new after s all has = file-to _ new after s.machine_is (same-all old after (ap (λ (k : Shelf). k.silly) s.others) all) tt
  file-starts wsize (files.Write m) turn old next new after s all has =
      file-to _ new after s.machine_is (same-all old after (on_files.write-starts (file_to_write m.lane m.slot old.opens) wsize m turn old next s.machine after s.step) all) tt
  file-starts wsize (files.Sync m) turn old next new after s all has =
      file-to _ new after s.machine_is (same-all old after (on_files.sync-starts (file_at m.lane m.slot old.opens) wsize m turn old next s.state after s.step) all) tt
  file-starts wsize (files.Close m) turn old next new after s all has =
      let k = close-starts wsize m turn old next s.state after all has s.step in file-to (files.Close (record m { state = s.state })) new after s.machine_is k.0 k.1
  file-starts wsize (files.Truncate m) turn old next new after s all has =
      file-to _ new after s.machine_is (same-all old after (ap (λ (k : Shelf). k.silly) s.shelf_is ∙ begun-silly (truncates.found_file m old) m old) all) tt
  file-starts wsize (files.Put m) turn old next new after s all has = file-to _ new after s.machine_is (same-all old after (ap (λ (k : Shelf). k.silly) s.shelf_is) all) tt

  file-resumes : (wsize : ℕ) (m : FileMachine) (turn : Turn) (old : Shelf) (next : Step) (new : FileMachine) (after : Shelf) → steps.Resumes wsize m turn old next new after → AllHidden old.silly
      → FileHas m → FileLeft new after
  file-resumes wsize (files.Open m) turn old next new after s all has = file-to _ new after s.machine_is (same-all old after (ap (λ (k : Shelf). k.silly) s.shelf_is) all) tt
  file-resumes wsize (files.Read m) turn old next new after s all has = file-to _ new after s.machine_is (same-all old after (ap (λ (k : Shelf). k.silly) s.others) all) tt
  file-resumes wsize (files.Write m) turn old next new after s all has =
      file-to _ new after s.machine_is (same-all old after (on_files.write-resumes m.state wsize m.lane turn old next s.state after s.step) all) tt
  file-resumes wsize (files.Sync m) turn old next new after s all has =
      file-to _ new after s.machine_is (same-all old after (on_files.sync-resumes m.state wsize m turn old next s.state after s.step) all) tt
  file-resumes wsize (files.Close m) turn old next new after s all has =
      let k = close-resumes m.state wsize m turn old next s.state after all has s.step in file-to (files.Close (record m { state = s.state })) new after s.machine_is k.0 k.1
  file-resumes wsize (files.Truncate m) turn old next new after s all has = file-to _ new after s.machine_is (same-all old after (ap (λ (k : Shelf). k.silly) s.shelf_is) all) tt
  file-resumes wsize (files.Put m) turn old next new after s all has =
      file-to (files.Put s.machine) new after s.machine_is (same-all old after (on_files.put-resumes m.state wsize m turn old next s.machine after s.step) all) tt

  file-takes : (wsize : ℕ) (m : FileMachine) (sent turn : Turn) (came : Result Reply Fault) (old : Shelf) (next : Step) (new : FileMachine) (after : Shelf)
      → steps.Takes wsize m sent turn came old next new after → AllHidden old.silly → FileHas m → FileLeft new after
  file-takes wsize (files.Open m) sent turn came old next new after s all has = file-to _ new after s.machine_is (same-all old after (ap (λ (k : Shelf). k.silly) s.others) all) tt
  file-takes wsize (files.Read m) sent turn came old next new after s all has = file-to _ new after s.machine_is (same-all old after (ap (λ (k : Shelf). k.silly) s.others) all) tt
  file-takes wsize (files.Write m) sent turn came old next new after s all has =
      file-to _ new after s.machine_is (same-all old after (on_files.write-takes m.state wsize m sent turn came old next s.state after s.step) all) tt
  file-takes wsize (files.Sync m) sent turn came old next new after s all has =
      file-to _ new after s.machine_is (same-all old after (on_files.sync-takes m.state wsize m sent turn came old next s.state after s.step) all) tt
  file-takes wsize (files.Close m) sent turn came old next new after s all has =
      let k = close-takes m.state wsize m sent turn came old next s.state after all has s.step in file-to (files.Close (record m { state = s.state })) new after s.machine_is k.0 k.1
  file-takes wsize (files.Truncate m) sent turn came old next new after s all has =
      file-to _ new after s.machine_is (same-all old after (on_files.truncate-takes m.state m came sent turn after.attrs after.back old after s.shelf_is) all) tt
  file-takes wsize (files.Put m) sent turn came old next new after s all has =
      file-to (files.Put s.machine) new after s.machine_is (same-all old after (on_files.put-takes m.state wsize m sent turn came old next s.machine after s.step) all) tt

  -- an open or a put is no close
  no-close : (o : Opener) → FileHas (file_of o)
  no-close (openers.Open m) = tt
  no-close (openers.Put m) = tt

  -- ---- any operation

  abbrev pub Left : Machine → Shelf → Type 0
  Left m shelf = AllHidden shelf.silly × Removes m

  machine-to : (to new : Machine) (shelf : Shelf) → new ≡ to → AllHidden shelf.silly → Removes to → Left new shelf
  machine-to to new shelf is all has = (all, subst Removes (sym is) has)

  follows-path : (step : WalkStep) (wsize : ℕ) (m : PathMachine) (turn : Turn) (old : Shelf) (next : Step) (new : PathMachine) (after : Shelf) → paths.Follows step wsize m turn old next new after
      → AllHidden old.silly → AllHidden after.silly
  follows-path (walks.Send call) wsize m turn old next new after f all = same-all old after (ap (λ (k : Shelf). k.silly) f.2) all
  follows-path walks.Wait wsize m turn old next new after f all = same-all old after (ap (λ (k : Shelf). k.silly) f.2) all
  follows-path (walks.At dir) wsize m turn old next new after f all =
      (file-resumes wsize (file_of (placed dir m.opener)) turn old next (file_of f.opener) after f.step all (no-close (placed dir m.opener))).0
  follows-path (walks.Refused fault) wsize m turn old next new after f all = same-all old after (ap (λ (k : Shelf). k.silly) f.2) all

  path-resumes : (b : Bool) (wsize : ℕ) (m : PathMachine) (turn : Turn) (old : Shelf) (next : Step) (new : PathMachine) (after : Shelf) → paths.PathResumes b wsize m turn old next new after
      → AllHidden old.silly → AllHidden after.silly
  path-resumes true wsize m turn old next new after r all = (file-resumes wsize (file_of m.opener) turn old next (file_of r.opener) after r.step all (no-close m.opener)).0
  path-resumes false wsize m turn old next new after r all =
      follows-path (walking.go_next m.walk turn old) wsize (record m { walk = walking.go_after m.walk turn old }) turn (walking.go_shelf m.walk turn old) next new after r all

  path-starts : (taken : Bool) (wsize : ℕ) (m : PathMachine) (turn : Turn) (old : Shelf) (next : Step) (new : PathMachine) (after : Shelf) → paths.StartsIf taken wsize m turn old next new after
      → AllHidden old.silly → AllHidden after.silly
  path-starts true wsize m turn old next new after s all = same-all old after (ap (λ (k : Shelf). k.silly) s.2) all
  path-starts false wsize m turn old next new after s all = path-resumes m.arrived wsize (record m { opener = begun_at (turn.moment - 1) m.opener }) turn old next new after s all

  path-takes : (b : Bool) (wsize : ℕ) (m : PathMachine) (sent turn : Turn) (came : Result Reply Fault) (old : Shelf) (next : Step) (new : PathMachine) (after : Shelf)
      → paths.PathTakes b wsize m sent turn came old next new after → AllHidden old.silly → AllHidden after.silly
  path-takes true wsize m sent turn came old next new after t all = (file-takes wsize (file_of m.opener) sent turn came old next (file_of t.opener) after t.step all (no-close m.opener)).0
  path-takes false wsize m sent turn came old next new after t all =
      follows-path t.step wsize t.walked turn t.heard next new after t.follows
      (same-all old t.heard (on_names.walk-silly (walking.waiting_name m.walk) m.walk sent turn came old t.step t.walked.walk t.heard t.takes) all)

  pub starts-silly : (wsize : ℕ) (m : Machine) (turn : Turn) (old : Shelf) (next : Step) (new : Machine) (after : Shelf) → Starts wsize m turn old next new after → AllHidden old.silly → Removes m
      → Left new after
  starts-silly wsize (machines.File m) turn old next new after s all has =
      let k = file-starts wsize m turn old next s.machine after s.step all has in machine-to (machines.File s.machine) new after s.machine_is k.0 k.1
  starts-silly wsize (machines.Path m) turn old next new after s all has =
      machine-to (machines.Path s.machine) new after s.machine_is (path-starts (slot_taken m.opener old.opens) wsize m turn old next s.machine after s.step all) tt
  starts-silly wsize (machines.Name m) turn old next new after s all has =
      machine-to (machines.Name s.machine) new after s.machine_is (same-all old after (on_names.name-goes m turn old next s.machine after s.step) all) tt

  pub resumes-silly : (wsize : ℕ) (m : Machine) (turn : Turn) (old : Shelf) (next : Step) (new : Machine) (after : Shelf) → Resumes wsize m turn old next new after → AllHidden old.silly → Removes m
      → Left new after
  resumes-silly wsize (machines.File m) turn old next new after s all has =
      let k = file-resumes wsize m turn old next s.machine after s.step all has in machine-to (machines.File s.machine) new after s.machine_is k.0 k.1
  resumes-silly wsize (machines.Path m) turn old next new after s all has =
      machine-to (machines.Path s.machine) new after s.machine_is (path-resumes m.arrived wsize m turn old next s.machine after s.step all) tt
  resumes-silly wsize (machines.Name m) turn old next new after s all has =
      machine-to (machines.Name s.machine) new after s.machine_is (same-all old after (on_names.name-goes m turn old next s.machine after s.step) all) tt

  -- where a remove has hidden its file, that is one of those too
  pub takes-silly : (wsize : ℕ) (m : Machine) (sent turn : Turn) (came : Result Reply Fault) (old : Shelf) (next : Step) (new : Machine) (after : Shelf) → Takes wsize m sent turn came old next new after
      → ((r : RemoveFile) → m ≡ machines.Name (names.Remove r) → Moved r sent turn came old next after → AllHidden after.silly) → AllHidden old.silly → Removes m → Left new after
  takes-silly wsize (machines.File m) sent turn came old next new after t moved all has =
      let k = file-takes wsize m sent turn came old next t.machine after t.step all has in machine-to (machines.File t.machine) new after t.machine_is k.0 k.1
  takes-silly wsize (machines.Path m) sent turn came old next new after t moved all has =
      machine-to (machines.Path t.machine) new after t.machine_is (path-takes m.arrived wsize m sent turn came old next t.machine after t.step all) tt
  takes-silly wsize (machines.Name m) sent turn came old next new after t moved all has =
      machine-to (machines.Name t.machine) new after t.machine_is (by (on_names.name-takes m sent turn came old next t.machine after t.step)) tt
    where
      by : NameSilly m sent turn came old next after → AllHidden after.silly
      by (on_names.same is) = same-all old after is all
      by (on_names.moved r is k) = moved r (ap machines.Name is) k
