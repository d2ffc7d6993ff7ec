-- A put brings its bytes to one file and saves that one: what is told of its bytes and of its file is told, in each step, of this file alone.
use Rattle.core_session.proofs.Prelude.{◌≡◌, ℕ, Bool, true, false, nat_eq, List, [], Option, Some, None, Result, Ok, Err, refl, sym, ap, ◌∙◌, arith, eqb-true, eqb-false, Fault, Reply, Pending, LaneFile, Step, Shelf, Turn, OpeningStep, PutFile, Putting, Saving, Writing, FileMachine, Machine, Opener, PathMachine, file_of, Takes}
use Rattle.file_ops.specs.declared.opening.OpeningStep.TheVariants as openings
use Rattle.file_ops.specs.declared.put_file.Putting.TheVariants as putting
use Rattle.file_ops.specs.declared.write_file.Writing.TheVariants as writing
use Rattle.file_ops.specs.PutFile as puts
use Rattle.file_ops.specs.WriteFile as writes
use Rattle.op_machines.specs.declared.file_machine.FileMachine.TheVariants as files
use Rattle.op_machines.specs.declared.machine.Machine.TheVariants as machines
use Rattle.op_machines.specs.declared.opener.Opener.TheVariants as openers
use Rattle.op_machines.specs.FileSteps as steps
use Rattle.op_machines.specs.PathSteps as paths
use Rattle.core_session.proofs.syncs.AllJobs.{PathHas, JobHas, PathOpens, JobOpens}
use Rattle.core_session.proofs.syncs.Fates.{file_kind, job_kind, job-says}
use Rattle.core_session.proofs.syncs.Jobs.{RoomHas, PutHas, FileHas, PutOpens, FileOpens}
use Rattle.core_session.proofs.syncs.Passing.{Tale, told}
use Rattle.core_session.proofs.syncs.PutGoes.{AtSave, none-at, put_own, file_own, path_own, own_save}

-- ---- of a put alone, by whether it is at its own save

module _ (f : List ℕ) (W W2 : Type 0) (t u : Tale) (q : ℕ) (b : Pending) (o : List LaneFile) (r : ℕ) (c : Pending) (l : List LaneFile) where
  room-map : (A A2 : List ℕ → ℕ → List ℕ → Type 0) → ((file : List ℕ) (offset : ℕ) (bytes : List ℕ) → A file offset bytes → A2 file offset bytes) → (offset : ℕ) (bytes : List ℕ) (w : Writing)
      → RoomHas (told f W t).P (told f W t).K A offset bytes w q b o → RoomHas (told f W2 u).P (told f W2 u).K A2 offset bytes w r c l
  room-map A A2 g offset bytes writing.Idle h = tt
  room-map A A2 g offset bytes (writing.Room file s) h = (tt, g file offset bytes h.1)

  abbrev pub AddMap : Option Saving → Type 0
  AddMap own = own ≡ None → (file : List ℕ) (offset : ℕ) (bytes : List ℕ) → t.A file offset bytes → u.A file offset bytes

  abbrev pub OwnMap : Option Saving → Type 0
  OwnMap own = (z : Saving) → own ≡ Some z → W × t.B z.file × (f ≡ z.file → t.T z.upto) → W2 × u.B z.file × (f ≡ z.file → u.T z.upto)

  put-map : (m : PutFile) (at : Putting) → AddMap (put_own at) → OwnMap (put_own at) → PutHas (told f W t).P (told f W t).K (told f W t).KA t.A m at q b o
      → PutHas (told f W2 u).P (told f W2 u).K (told f W2 u).KA u.A m at r c l
  put-map m putting.Idle a s h = tt
  put-map m putting.Opens a s h = tt
  put-map m (putting.Adds file) a s h =
      room-map (λ g n bs. t.A g n bs × (g ≡ file)) (λ g n bs. u.A g n bs × (g ≡ file)) (λ g n bs k. (a refl g n bs k.0, k.1)) m.write.offset (writes.made_bytes m.write.text) m.write.state h
  put-map m (putting.Saves z) a s h = s z refl h

  file-map : (m : FileMachine) → file_kind m ≡ 3 → AddMap (file_own m) → OwnMap (file_own m) → FileHas (told f W t) m q b o → FileHas (told f W2 u) m r c l
  file-map (files.Open m) is a s h = absurd (omega (arith, is))
  file-map (files.Read m) is a s h = absurd (omega (arith, is))
  file-map (files.Write m) is a s h = absurd (omega (arith, is))
  file-map (files.Sync m) is a s h = absurd (omega (arith, is))
  file-map (files.Close m) is a s h = absurd (omega (arith, is))
  file-map (files.Truncate m) is a s h = absurd (omega (arith, is))
  file-map (files.Put m) is a s h = put-map m m.state a s h

  path-map : (there : Bool) (m : Opener) → file_kind (file_of m) ≡ 3 → AddMap (path_own there m) → OwnMap (path_own there m) → PathHas (told f W t) there m q b o → PathHas (told f W2 u) there m r c l
  path-map true m is a s h = file-map (file_of m) is a s h
  path-map false m is a s h = tt

  -- what is told of it is told otherwise
  pub put-has : (m : Machine) → job_kind m ≡ 3 → AddMap (own_save m) → OwnMap (own_save m) → JobHas (told f W t) m q b o → JobHas (told f W2 u) m r c l
  put-has (machines.File m) is a s h = file-map m is a s h
  put-has (machines.Path m) is a s h = path-map m.arrived m.opener is a s h
  put-has (machines.Name m) is a s h = absurd (omega (arith, is))

  -- of a write, which has no save of its own
  write-map : (m : FileMachine) → file_kind m ≡ 1 → ((file : List ℕ) (offset : ℕ) (bytes : List ℕ) → t.A file offset bytes → u.A file offset bytes) → FileHas (told f W t) m q b o → FileHas (told f W2 u) m r c l
  write-map (files.Open m) is a h = absurd (omega (arith, is))
  write-map (files.Read m) is a h = absurd (omega (arith, is))
  write-map (files.Write m) is a h = room-map t.A u.A a m.offset (writes.made_bytes m.text) m.state h
  write-map (files.Sync m) is a h = absurd (omega (arith, is))
  write-map (files.Close m) is a h = absurd (omega (arith, is))
  write-map (files.Truncate m) is a h = absurd (omega (arith, is))
  write-map (files.Put m) is a h = absurd (omega (arith, is))

  opener-write : (m : Opener) → file_kind (file_of m) ≡ 1 → ⊥
  opener-write (openers.Open m) is = omega (arith, is)
  opener-write (openers.Put m) is = omega (arith, is)

  pub write-has : (m : Machine) → job_kind m ≡ 1 → ((file : List ℕ) (offset : ℕ) (bytes : List ℕ) → t.A file offset bytes → u.A file offset bytes) → JobHas (told f W t) m q b o → JobHas (told f W2 u) m r c l
  write-has (machines.File m) is a h = write-map m is a h
  write-has (machines.Path m) is a h = absurd (opener-write m.opener is)
  write-has (machines.Name m) is a h = absurd (omega (arith, is))

-- ---- one file

abbrev pub aimed : ℕ → List ℕ → Tale → Tale
aimed kind tgt t = record {
  T = t.T;
  X = t.X;
  A = λ file offset bytes. t.A file offset bytes × (kind ≡ 3 → file ≡ tgt);
  B = λ file. t.B file × (kind ≡ 3 → file ≡ tgt);
  Cut = t.Cut;
}

-- the file to which a put brings its bytes, or which it saves
abbrev pub PutAims : Putting → List ℕ → Type 0
PutAims putting.Idle tgt = Unit {0}
PutAims putting.Opens tgt = Unit {0}
PutAims (putting.Adds file) tgt = file ≡ tgt
PutAims (putting.Saves z) tgt = z.file ≡ tgt

abbrev pub FileAims : FileMachine → List ℕ → Type 0
FileAims (files.Open m) tgt = Unit {0}
FileAims (files.Read m) tgt = Unit {0}
FileAims (files.Write m) tgt = Unit {0}
FileAims (files.Sync m) tgt = Unit {0}
FileAims (files.Close m) tgt = Unit {0}
FileAims (files.Truncate m) tgt = Unit {0}
FileAims (files.Put m) tgt = PutAims m.state tgt

abbrev pub PathAims : Bool → Opener → List ℕ → Type 0
PathAims true m tgt = FileAims (file_of m) tgt
PathAims false m tgt = Unit {0}

abbrev pub JobAims : Machine → List ℕ → Type 0
JobAims (machines.File m) tgt = FileAims m tgt
JobAims (machines.Path m) tgt = PathAims m.arrived m.opener tgt
JobAims (machines.Name m) tgt = Unit {0}

-- there is one
put-aim : (at : Putting) → (tgt : List ℕ) × PutAims at tgt
put-aim putting.Idle = ([], tt)
put-aim putting.Opens = ([], tt)
put-aim (putting.Adds file) = (file, refl)
put-aim (putting.Saves z) = (z.file, refl)

file-aim : (m : FileMachine) → (tgt : List ℕ) × FileAims m tgt
file-aim (files.Open m) = ([], tt)
file-aim (files.Read m) = ([], tt)
file-aim (files.Write m) = ([], tt)
file-aim (files.Sync m) = ([], tt)
file-aim (files.Close m) = ([], tt)
file-aim (files.Truncate m) = ([], tt)
file-aim (files.Put m) = put-aim m.state

path-aim : (there : Bool) (m : Opener) → (tgt : List ℕ) × PathAims there m tgt
path-aim true m = file-aim (file_of m)
path-aim false m = ([], tt)

pub some-aim : (m : Machine) → (tgt : List ℕ) × JobAims m tgt
some-aim (machines.File m) = file-aim m
some-aim (machines.Path m) = path-aim m.arrived m.opener
some-aim (machines.Name m) = ([], tt)

-- that of its own save
one-save : (a b : Saving) → Some a ≡ Some b → a ≡ b
one-save a b e = cc

none-save : {X : Type 0} → (z : Saving) → None ≡ Some z → X
none-save z e = absurd (let no_way : None ≡ Some z = e in cc)

put-own-aim : (at : Putting) (tgt : List ℕ) (z : Saving) → PutAims at tgt → put_own at ≡ Some z → tgt ≡ z.file
put-own-aim putting.Idle tgt z e is = none-save z is
put-own-aim putting.Opens tgt z e is = none-save z is
put-own-aim (putting.Adds file) tgt z e is = none-save z is
put-own-aim (putting.Saves w) tgt z e is = sym e ∙ ap (λ (y : Saving). y.file) (one-save w z is)

file-own-aim : (m : FileMachine) (tgt : List ℕ) (z : Saving) → FileAims m tgt → file_own m ≡ Some z → tgt ≡ z.file
file-own-aim (files.Open m) tgt z e is = none-save z is
file-own-aim (files.Read m) tgt z e is = none-save z is
file-own-aim (files.Write m) tgt z e is = none-save z is
file-own-aim (files.Sync m) tgt z e is = none-save z is
file-own-aim (files.Close m) tgt z e is = none-save z is
file-own-aim (files.Truncate m) tgt z e is = none-save z is
file-own-aim (files.Put m) tgt z e is = put-own-aim m.state tgt z e is

path-own-aim : (there : Bool) (m : Opener) (tgt : List ℕ) (z : Saving) → PathAims there m tgt → path_own there m ≡ Some z → tgt ≡ z.file
path-own-aim true m tgt z e is = file-own-aim (file_of m) tgt z e is
path-own-aim false m tgt z e is = none-save z is

pub aims-own : (m : Machine) (tgt : List ℕ) (z : Saving) → JobAims m tgt → own_save m ≡ Some z → tgt ≡ z.file
aims-own (machines.File m) tgt z e is = file-own-aim m tgt z e is
aims-own (machines.Path m) tgt z e is = path-own-aim m.arrived m.opener tgt z e is
aims-own (machines.Name m) tgt z e is = none-save z is

-- ---- what is told of it is told of that file

module _ (f : List ℕ) (W : Type 0) (t : Tale) (q : ℕ) (b : Pending) (o : List LaneFile) (k : ℕ) (tgt : List ℕ) where
  put-aimed : (m : PutFile) (at : Putting) → PutAims at tgt → PutHas (told f W t).P (told f W t).K (told f W t).KA t.A m at q b o
      → PutHas (told f W (aimed k tgt t)).P (told f W (aimed k tgt t)).K (told f W (aimed k tgt t)).KA (aimed k tgt t).A m at q b o
  put-aimed m putting.Idle e h = tt
  put-aimed m putting.Opens e h = tt
  put-aimed m (putting.Adds file) e h =
      room-map f W W t (aimed k tgt t) q b o q b o (λ g n bs. t.A g n bs × (g ≡ file)) (λ g n bs. (t.A g n bs × (k ≡ 3 → g ≡ tgt)) × (g ≡ file)) (λ g n bs a. ((a.0, λ is. a.1 ∙ e), a.1))
      m.write.offset (writes.made_bytes m.write.text) m.write.state h
  put-aimed m (putting.Saves z) e h = (h.0, (h.1, λ is. e), h.2)

  file-aimed : (m : FileMachine) → file_kind m ≡ 3 → FileAims m tgt → FileHas (told f W t) m q b o → FileHas (told f W (aimed k tgt t)) m q b o
  file-aimed (files.Open m) is e h = absurd (omega (arith, is))
  file-aimed (files.Read m) is e h = absurd (omega (arith, is))
  file-aimed (files.Write m) is e h = absurd (omega (arith, is))
  file-aimed (files.Sync m) is e h = absurd (omega (arith, is))
  file-aimed (files.Close m) is e h = absurd (omega (arith, is))
  file-aimed (files.Truncate m) is e h = absurd (omega (arith, is))
  file-aimed (files.Put m) is e h = put-aimed m m.state e h

  path-aimed : (there : Bool) (m : Opener) → file_kind (file_of m) ≡ 3 → PathAims there m tgt → PathHas (told f W t) there m q b o → PathHas (told f W (aimed k tgt t)) there m q b o
  path-aimed true m is e h = file-aimed (file_of m) is e h
  path-aimed false m is e h = tt

  its-aimed : (m : Machine) → job_kind m ≡ 3 → JobAims m tgt → JobHas (told f W t) m q b o → JobHas (told f W (aimed k tgt t)) m q b o
  its-aimed (machines.File m) is e h = file-aimed m is e h
  its-aimed (machines.Path m) is e h = path-aimed m.arrived m.opener is e h
  its-aimed (machines.Name m) is e h = absurd (omega (arith, is))

  other-aimed : (m : Machine) → (k ≡ 3 → ⊥) → JobHas (told f W t) m q b o → JobHas (told f W (aimed k tgt t)) m q b o
  other-aimed m nay h = job-says (told f W t) (told f W (aimed k tgt t)) q b o q b o m (record {
    p = λ is p. tt;
    pa = λ is p. p;
    room = λ s is r. tt;
    own = λ s is r. (r.0, (r.1, λ e. absurd (nay e)), r.2);
    x = λ x. x;
    a = λ file offset bytes a. (a, λ e. absurd (nay e));
    of = λ file of. (of, λ e. absurd (nay e));
    cut = λ file size upto c. c;
  }) h

pub aimed-has : (f : List ℕ) (W : Type 0) (t : Tale) (q : ℕ) (b : Pending) (o : List LaneFile) (tgt : List ℕ) (m : Machine) → JobAims m tgt → JobHas (told f W t) m q b o
    → JobHas (told f W (aimed (job_kind m) tgt t)) m q b o
aimed-has f W t q b o tgt m e h = by (nat_eq (job_kind m) 3) refl
  where
    by : (c : Bool) → nat_eq (job_kind m) 3 ≡ c → JobHas (told f W (aimed (job_kind m) tgt t)) m q b o
    by true is = its-aimed f W t q b o (job_kind m) tgt m (eqb-true (job_kind m) 3 is) e h
    by false is = other-aimed f W t q b o (job_kind m) tgt m (eqb-false (job_kind m) 3 is) h

-- ---- where its opening ends

module _ (A : List ℕ → ℕ → List ℕ → Type 0) (k wsize : ℕ) (sent turn : Turn) (came : Result Reply Fault) (old : Shelf) (next : Step) where
  abbrev pub AimedAt : List ℕ → List ℕ → ℕ → List ℕ → Type 0
  AimedAt tgt file offset bytes = A file offset bytes × (k ≡ 3 → file ≡ tgt)

  one-opened : (g file : List ℕ) → ◌≡◌ {A = OpeningStep} (openings.Ended (Ok g)) (openings.Ended (Ok file)) → file ≡ g
  one-opened g file e = cc

  put-taken : (at : Putting) (m : PutFile) (new : PutFile) (after : Shelf) (t : puts.Takes at wsize m sent turn came old next new after)
      → (tgt : List ℕ) × PutAims at tgt × (PutOpens A at wsize m sent turn came old next new after t → PutOpens (AimedAt tgt) at wsize m sent turn came old next new after t)
  put-taken putting.Idle m new after t = ([], tt, λ h. tt)
  put-taken putting.Opens m new after t = by t.step refl
    where
      by : (step : OpeningStep) → t.step ≡ step
          → (tgt : List ℕ) × Unit {0} × (PutOpens A putting.Opens wsize m sent turn came old next new after t → PutOpens (AimedAt tgt) putting.Opens wsize m sent turn came old next new after t)
      by (openings.Send call) e = ([], tt, λ h file is. absurd (let no_way : openings.Send call ≡ openings.Ended (Ok file) = sym e ∙ is in cc))
      by openings.Wait e = ([], tt, λ h file is. absurd (let no_way : openings.Wait ≡ openings.Ended (Ok file) = sym e ∙ is in cc))
      by (openings.Ended (Ok g)) e = (g, tt, λ h file is. (((h file is).0, λ three. one-opened g file (sym e ∙ is)), (h file is).1))
      by (openings.Ended (Err fault)) e = ([], tt, λ h file is. absurd (let no_way : openings.Ended (Err fault) ≡ openings.Ended (Ok file) = sym e ∙ is in cc))
  put-taken (putting.Adds file) m new after t = (file, refl, λ h. tt)
  put-taken (putting.Saves z) m new after t = (z.file, refl, λ h. tt)

  file-taken : (m : FileMachine) (new : FileMachine) (after : Shelf) (t : steps.Takes wsize m sent turn came old next new after)
      → (tgt : List ℕ) × FileAims m tgt × (FileOpens A wsize m sent turn came old next new after t → FileOpens (AimedAt tgt) wsize m sent turn came old next new after t)
  file-taken (files.Open m) new after t = ([], tt, λ h. tt)
  file-taken (files.Read m) new after t = ([], tt, λ h. tt)
  file-taken (files.Write m) new after t = ([], tt, λ h. tt)
  file-taken (files.Sync m) new after t = ([], tt, λ h. tt)
  file-taken (files.Close m) new after t = ([], tt, λ h. tt)
  file-taken (files.Truncate m) new after t = ([], tt, λ h. tt)
  file-taken (files.Put m) new after t = put-taken m.state m t.machine after t.step

  path-taken : (b : Bool) (m : PathMachine) (new : PathMachine) (after : Shelf) (t : paths.PathTakes b wsize m sent turn came old next new after)
      → (tgt : List ℕ) × PathAims b m.opener tgt × (PathOpens A b wsize m sent turn came old next new after t → PathOpens (AimedAt tgt) b wsize m sent turn came old next new after t)
  path-taken true m new after t = file-taken (file_of m.opener) (file_of t.opener) after t.step
  path-taken false m new after t = ([], tt, λ h. tt)

  -- what is known of the bytes and the file that a put opened is known of that file
  pub takes-aim : (m new : Machine) (after : Shelf) (t : Takes wsize m sent turn came old next new after)
      → (tgt : List ℕ) × JobAims m tgt × (JobOpens A wsize m sent turn came old next new after t → JobOpens (AimedAt tgt) wsize m sent turn came old next new after t)
  takes-aim (machines.File m) new after t = file-taken m t.machine after t.step
  takes-aim (machines.Path m) new after t = path-taken m.arrived m t.machine after t.step
  takes-aim (machines.Name m) new after t = ([], tt, λ h. tt)

  -- a put at its own save opens nothing
  put-saves-opens : (at : Putting) → AtSave (put_own at) → (m : PutFile) (new : PutFile) (after : Shelf) (t : puts.Takes at wsize m sent turn came old next new after) → PutOpens A at wsize m sent turn came old next new after t
  put-saves-opens putting.Idle a m new after t = none-at a
  put-saves-opens putting.Opens a m new after t = none-at a
  put-saves-opens (putting.Adds file) a m new after t = none-at a
  put-saves-opens (putting.Saves z) a m new after t = tt

  file-saves-opens : (m : FileMachine) → AtSave (file_own m) → (new : FileMachine) (after : Shelf) (t : steps.Takes wsize m sent turn came old next new after) → FileOpens A wsize m sent turn came old next new after t
  file-saves-opens (files.Open m) a new after t = none-at a
  file-saves-opens (files.Read m) a new after t = none-at a
  file-saves-opens (files.Write m) a new after t = none-at a
  file-saves-opens (files.Sync m) a new after t = none-at a
  file-saves-opens (files.Close m) a new after t = none-at a
  file-saves-opens (files.Truncate m) a new after t = none-at a
  file-saves-opens (files.Put m) a new after t = put-saves-opens m.state a m t.machine after t.step

  path-saves-opens : (b : Bool) (m : PathMachine) → AtSave (path_own b m.opener) → (new : PathMachine) (after : Shelf) (t : paths.PathTakes b wsize m sent turn came old next new after)
      → PathOpens A b wsize m sent turn came old next new after t
  path-saves-opens true m a new after t = file-saves-opens (file_of m.opener) a (file_of t.opener) after t.step
  path-saves-opens false m a new after t = none-at a

  pub saves-opens : (m : Machine) → AtSave (own_save m) → (new : Machine) (after : Shelf) (t : Takes wsize m sent turn came old next new after) → JobOpens A wsize m sent turn came old next new after t
  saves-opens (machines.File m) a new after t = file-saves-opens m a t.machine after t.step
  saves-opens (machines.Path m) a new after t = path-saves-opens m.arrived m a t.machine after t.step
  saves-opens (machines.Name m) a new after t = none-at a

  -- and what is known of what was opened may be known otherwise
  module _ (A2 : List ℕ → ℕ → List ℕ → Type 0) (conv : (file : List ℕ) (offset : ℕ) (bytes : List ℕ) → A file offset bytes → A2 file offset bytes) where
    put-opens-as : (at : Putting) (m : PutFile) (new : PutFile) (after : Shelf) (t : puts.Takes at wsize m sent turn came old next new after) → PutOpens A at wsize m sent turn came old next new after t
        → PutOpens A2 at wsize m sent turn came old next new after t
    put-opens-as putting.Idle m new after t h = tt
    put-opens-as putting.Opens m new after t h = λ file is. (conv file m.write.offset (writes.made_bytes m.write.text) (h file is).0, (h file is).1)
    put-opens-as (putting.Adds file) m new after t h = tt
    put-opens-as (putting.Saves z) m new after t h = tt

    file-opens-as : (m : FileMachine) (new : FileMachine) (after : Shelf) (t : steps.Takes wsize m sent turn came old next new after) → FileOpens A wsize m sent turn came old next new after t
        → FileOpens A2 wsize m sent turn came old next new after t
    file-opens-as (files.Open m) new after t h = tt
    file-opens-as (files.Read m) new after t h = tt
    file-opens-as (files.Write m) new after t h = tt
    file-opens-as (files.Sync m) new after t h = tt
    file-opens-as (files.Close m) new after t h = tt
    file-opens-as (files.Truncate m) new after t h = tt
    file-opens-as (files.Put m) new after t h = put-opens-as m.state m t.machine after t.step h

    path-opens-as : (b : Bool) (m : PathMachine) (new : PathMachine) (after : Shelf) (t : paths.PathTakes b wsize m sent turn came old next new after) → PathOpens A b wsize m sent turn came old next new after t
        → PathOpens A2 b wsize m sent turn came old next new after t
    path-opens-as true m new after t h = file-opens-as (file_of m.opener) (file_of t.opener) after t.step h
    path-opens-as false m new after t h = tt

    pub opens-as : (m new : Machine) (after : Shelf) (t : Takes wsize m sent turn came old next new after) → JobOpens A wsize m sent turn came old next new after t → JobOpens A2 wsize m sent turn came old next new after t
    opens-as (machines.File m) new after t h = file-opens-as m t.machine after t.step h
    opens-as (machines.Path m) new after t h = path-opens-as m.arrived m t.machine after t.step h
    opens-as (machines.Name m) new after t h = tt
