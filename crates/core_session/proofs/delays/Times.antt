-- How often the LOOKUPs of an opening, and the COMMITs of a save, were put off (RFC 1813, section 2.6, NFS3ERR_JUKEBOX), as their operation counts them.
use Rattle.core_session.proofs.Prelude.{◌≡◌, ◌+◌, ◌&&◌, ℕ, Bool, true, false, List, refl, nat_lt, Result, Fault, Reply, Repeat, Turn, Led, Opening, Saving, Writing, Syncing, Closing, Putting, PutFile, FileMachine, PathMachine, Machine, file_of, commit_told}
use Rattle.std.specs.Prelude.{not, ◌||◌, if◌then◌else◌}
use Rattle.file_ops.specs.declared.opening.Led.TheVariants as leads
use Rattle.file_ops.specs.declared.write_file.Writing.TheVariants as writing
use Rattle.file_ops.specs.declared.sync_file.Syncing.TheVariants as syncing
use Rattle.file_ops.specs.declared.close_file.Closing.TheVariants as closing
use Rattle.file_ops.specs.declared.put_file.Putting.TheVariants as putting
use Rattle.file_ops.specs.Opening as opening
use Rattle.file_ops.specs.Saves as saves
use Rattle.op_machines.specs.declared.file_machine.FileMachine.TheVariants as files
use Rattle.op_machines.specs.declared.machine.Machine.TheVariants as machines

-- what is known of a name in a directory whose LOOKUPs were put off so often, and of a file whose COMMITs were
pub record Times : Type 1 where
  pub looks : List ℕ → List ℕ → ℕ → Type 0
  pub commits : List ℕ → ℕ → Type 0
  pub no_looks : (dir name : List ℕ) → looks dir name 0
  pub no_commits : (file : List ℕ) → commits file 0

-- ---- an opening

abbrev pub Looked : Times → Opening → Type 0
Looked t o = t.looks o.dir o.name o.put_off

pub go-looked : (t : Times) (o : Opening) (turn : Turn) → Looked t o → Looked t (opening.go_after o turn)
go-looked t o turn k = by (opening.waits o turn)
  where
    by : (b : Bool) → Looked t (if b then o else record o { asked = true })
    by true = k
    by false = k

counted-looked : (t : Times) (o : Opening) → Looked t o → (opening.looks o.step ≡ true → t.looks o.dir o.name (o.put_off + 1)) → Looked t (opening.counted o)
counted-looked t o k more = by (opening.looks o.step) refl
  where
    by : (b : Bool) → opening.looks o.step ≡ b → t.looks o.dir o.name (if b then o.put_off + 1 else o.put_off)
    by true is = more is
    by false is = k

pub after-looked : (t : Times) (again : Bool) (o : Opening) (turn : Turn) (led : Led) → Looked t o → (again ≡ true → opening.looks o.step ≡ true → t.looks o.dir o.name (o.put_off + 1))
    → Looked t (opening.opening_after again o turn led)
after-looked t true o turn led k more = counted-looked t o k (more refl)
after-looked t false o turn (leads.Goes step) k more = go-looked t (opening.at_step o step) turn k
after-looked t false o turn (leads.Opens file attr) k more = k
after-looked t false o turn (leads.Knows file stamp) k more = k
after-looked t false o turn (leads.Ends fault) k more = k

-- ---- a call that is made again was put off once more

module _ (t : Times) (sent turn : Turn) (came : Result Reply Fault) (repeats : List Repeat) where
  abbrev pub AgainOpening : Opening → Type 0
  AgainOpening o = opening.opening_again o sent turn came repeats ≡ true → opening.looks o.step ≡ true → t.looks o.dir o.name (o.put_off + 1)

  abbrev pub AgainSave : Saving → Type 0
  AgainSave s = saves.is_sending s.phase ≡ false → saves.commit_again (commit_told came) sent turn repeats s ≡ true → t.commits s.file (s.put_off + 1)

  abbrev pub AgainWrite : Writing → Type 0
  AgainWrite writing.Idle = Unit {0}
  AgainWrite (writing.Room file s) = AgainSave s

  abbrev pub AgainSync : Syncing → Type 0
  AgainSync syncing.Idle = Unit {0}
  AgainSync (syncing.Saves s) = AgainSave s

  abbrev pub AgainClose : Closing → Type 0
  AgainClose closing.Idle = Unit {0}
  AgainClose (closing.Queued s) = Unit {0}
  AgainClose (closing.Saves s) = AgainSave s
  AgainClose (closing.ToRemove removal) = Unit {0}
  AgainClose (closing.Removing removal) = Unit {0}

  abbrev pub AgainPut : Putting → PutFile → Type 0
  AgainPut putting.Idle m = Unit {0}
  AgainPut putting.Opens m = AgainOpening m.opening
  AgainPut (putting.Adds file) m = AgainWrite m.write.state
  AgainPut (putting.Saves s) m = AgainSave s

  abbrev pub AgainFile : FileMachine → Type 0
  AgainFile (files.Open m) = AgainOpening m.opening
  AgainFile (files.Read m) = Unit {0}
  AgainFile (files.Write m) = AgainWrite m.state
  AgainFile (files.Sync m) = AgainSync m.state
  AgainFile (files.Close m) = AgainClose m.state
  AgainFile (files.Truncate m) = Unit {0}
  AgainFile (files.Put m) = AgainPut m.state m

  abbrev pub AgainPath : Bool → PathMachine → Type 0
  AgainPath true m = AgainFile (file_of m.opener)
  AgainPath false m = Unit {0}

  abbrev pub AgainMachine : Machine → Type 0
  AgainMachine (machines.File m) = AgainFile m
  AgainMachine (machines.Path m) = AgainPath m.arrived m
  AgainMachine (machines.Name m) = Unit {0}

-- ---- whether its call isn't made again, as it was put off three times

abbrev pub opening_full : Opening → Bool
opening_full o = opening.looks o.step && not (nat_lt o.put_off 3)

abbrev pub save_full : Saving → Bool
save_full s = not (saves.is_sending s.phase) && not (nat_lt s.put_off 3)

abbrev pub write_full : Writing → Bool
write_full writing.Idle = false
write_full (writing.Room file s) = save_full s

abbrev pub sync_full : Syncing → Bool
sync_full syncing.Idle = false
sync_full (syncing.Saves s) = save_full s

abbrev pub close_full : Closing → Bool
close_full closing.Idle = false
close_full (closing.Queued s) = false
close_full (closing.Saves s) = save_full s
close_full (closing.ToRemove removal) = false
close_full (closing.Removing removal) = false

abbrev pub put_full : Putting → PutFile → Bool
put_full putting.Idle m = false
put_full putting.Opens m = opening_full m.opening
put_full (putting.Adds file) m = write_full m.write.state
put_full (putting.Saves s) m = save_full s

abbrev pub file_full : FileMachine → Bool
file_full (files.Open m) = opening_full m.opening
file_full (files.Read m) = false
file_full (files.Write m) = write_full m.state
file_full (files.Sync m) = sync_full m.state
file_full (files.Close m) = close_full m.state
file_full (files.Truncate m) = false
file_full (files.Put m) = put_full m.state m

abbrev pub path_full : Bool → PathMachine → Bool
path_full true m = file_full (file_of m.opener)
path_full false m = false

abbrev pub is_full : Machine → Bool
is_full (machines.File m) = file_full m
is_full (machines.Path m) = path_full m.arrived m
is_full (machines.Name m) = false

-- ---- of these tests

pub full-both : (a lt : Bool) → (a && not lt) ≡ true → (a ≡ true) × (lt ≡ false)
full-both true true e = absurd (cc)
full-both true false e = (refl, refl)
full-both false lt e = absurd (cc)

-- a save that waits for its COMMIT may make it again
pub save-low : (sends lt : Bool) → (not sends && not lt) ≡ false → sends ≡ false → lt ≡ true
save-low true lt e idle = absurd (cc)
save-low false true e idle = refl
save-low false false e idle = absurd (cc)

pub not-sending : (sends : Bool) → not sends ≡ true → sends ≡ false
not-sending true e = absurd (cc)
not-sending false e = refl

-- a call that may be made again, and isn't, wasn't put off
pub not-put-off : (busy a lt : Bool) → (busy && (not a || lt)) ≡ false → (a && not lt) ≡ false → busy ≡ false
not-put-off false a lt e f = refl
not-put-off true true true e f = absurd (cc)
not-put-off true true false e f = absurd (cc)
not-put-off true false lt e f = absurd (cc)
