-- A remove looks for a hidden name, and takes one, only for a file that was open when it looked its name up.
use Rattle.core_session.proofs.Prelude.{◌≡◌, ℕ, Bool, true, false, List, Option, Some, None, Result, Ok, Err, refl, sym, ap, subst, ◌∙◌, Opens, IsOpen, Fault, Reply, Op, Step, Shelf, Turn, Deed, Look, Seek, Move, RemoveFile, WalkStep, found_by, look_again, Mounted, Machine, NameMachine, machine_of, Starts, Resumes, Takes}
use Rattle.name_ops.specs.declared.remove_file.Deed.TheVariants.{Remove}
use Rattle.std.specs.Prelude.{MatchBool}
use Rattle.silly_rename.specs.Plans.{plan_of}
use Rattle.world_model.specs.declared.op.Op.TheVariants as ops
use Rattle.name_ops.specs.declared.walk.WalkStep.TheVariants as walks
use Rattle.name_ops.specs.RemoveFile as removals
use Rattle.name_ops.specs.Walking as walking
use Rattle.op_machines.specs.declared.machine.Machine.TheVariants as machines
use Rattle.op_machines.specs.declared.name_machine.NameMachine.TheVariants as names
use Rattle.op_machines.specs.NameSteps as steps

-- B of the file that is to be hidden
module _ (B : List ℕ → Type 0) where
  abbrev pub DeedHides : Deed → Type 0
  DeedHides Look = Unit {0}
  DeedHides (Seek file to) = B file
  DeedHides (Move file to) = B file
  DeedHides Remove = Unit {0}

  abbrev pub SomeHides : Option Deed → Type 0
  SomeHides None = Unit {0}
  SomeHides (Some deed) = DeedHides deed

  abbrev pub NameHides : NameMachine → Type 0
  NameHides (names.Remove m) = SomeHides m.deed
  NameHides (names.Change m) = Unit {0}
  NameHides (names.Stat m) = Unit {0}
  NameHides (names.Access m) = Unit {0}
  NameHides (names.ReadLink m) = Unit {0}
  NameHides (names.Rename m) = Unit {0}
  NameHides (names.Link m) = Unit {0}
  NameHides (names.SymLink m) = Unit {0}
  NameHides (names.List m) = Unit {0}

  abbrev pub Hides : Machine → Type 0
  Hides (machines.File m) = Unit {0}
  Hides (machines.Path m) = Unit {0}
  Hides (machines.Name m) = NameHides m

  -- ---- steps without a reply

  hides-as : (to new : RemoveFile) → new ≡ to → SomeHides to.deed → SomeHides new.deed
  hides-as to new is k = subst (λ (m : RemoveFile). SomeHides m.deed) (sym is) k

  first-hides : (any : Bool) → DeedHides (removals.first_deed any)
  first-hides true = tt
  first-hides false = tt

  follows : (step : WalkStep) (room : Bool) (m : RemoveFile) (opens : Opens) (next : Step) (new : RemoveFile) → removals.Follows step room m opens next new → SomeHides m.deed → SomeHides new.deed
  follows (walks.Send call) room m opens next new f k = hides-as m new f.1 k
  follows walks.Wait room m opens next new f k = hides-as m new f.1 k
  follows (walks.At dir) room m opens next new f k = hides-as (removals.asked_after m (removals.first_deed f.any) room) new f.machine_is (first-hides f.any)
  follows (walks.Refused fault) room m opens next new f k = hides-as m new f.1 k

  goes : (deed : Option Deed) (m : RemoveFile) (turn : Turn) (old : Shelf) (next : Step) (new : RemoveFile) (after : Shelf) → m.deed ≡ deed → removals.Goes deed m turn old next new after
      → SomeHides m.deed → SomeHides new.deed
  goes (Some deed) m turn old next new after is g k = hides-as (removals.asked_after m deed turn.room) new g.machine_is (subst SomeHides is k)
  goes None m turn old next new after is g k =
      follows (walking.go_next m.walk turn old) turn.room (record m { walk = walking.go_after m.walk turn old }) old.opens next new g.follows k

  resumes : (asked : Bool) (m : RemoveFile) (turn : Turn) (old : Shelf) (next : Step) (new : RemoveFile) (after : Shelf) → removals.Resumes asked m turn old next new after
      → SomeHides m.deed → SomeHides new.deed
  resumes true m turn old next new after r k = hides-as m new r.machine_is k
  resumes false m turn old next new after r k = goes m.deed m turn old next new after refl r k

  name-as : (to new : NameMachine) → new ≡ to → NameHides to → NameHides new
  name-as to new is k = subst NameHides (sym is) k

  name-goes : (m : NameMachine) (turn : Turn) (old : Shelf) (next : Step) (new : NameMachine) (after : Shelf) → steps.NameGoes m turn old next new after → NameHides m → NameHides new
  name-goes (names.Change m) turn old next new after g k = name-as _ new g.machine_is tt
  name-goes (names.Stat m) turn old next new after g k = name-as _ new g.machine_is tt
  name-goes (names.Access m) turn old next new after g k = name-as _ new g.machine_is tt
  name-goes (names.ReadLink m) turn old next new after g k = name-as _ new g.machine_is tt
  name-goes (names.Remove m) turn old next new after g k = name-as (names.Remove g.machine) new g.machine_is (resumes m.asked m turn old next g.machine after g.step k)
  name-goes (names.Rename m) turn old next new after g k = name-as _ new g.machine_is tt
  name-goes (names.Link m) turn old next new after g k = name-as _ new g.machine_is tt
  name-goes (names.SymLink m) turn old next new after g k = name-as _ new g.machine_is tt
  name-goes (names.List m) turn old next new after g k = name-as _ new g.machine_is tt

  machine-as : (to new : Machine) → new ≡ to → Hides to → Hides new
  machine-as to new is k = subst Hides (sym is) k

  pub starts-hides : (wsize : ℕ) (m : Machine) (turn : Turn) (old : Shelf) (next : Step) (new : Machine) (after : Shelf) → Starts wsize m turn old next new after → Hides m → Hides new
  starts-hides wsize (machines.File m) turn old next new after s k = machine-as (machines.File s.machine) new s.machine_is tt
  starts-hides wsize (machines.Path m) turn old next new after s k = machine-as (machines.Path s.machine) new s.machine_is tt
  starts-hides wsize (machines.Name m) turn old next new after s k = machine-as (machines.Name s.machine) new s.machine_is (name-goes m turn old next s.machine after s.step k)

  pub resumes-hides : (wsize : ℕ) (m : Machine) (turn : Turn) (old : Shelf) (next : Step) (new : Machine) (after : Shelf) → Resumes wsize m turn old next new after → Hides m → Hides new
  resumes-hides wsize (machines.File m) turn old next new after s k = machine-as (machines.File s.machine) new s.machine_is tt
  resumes-hides wsize (machines.Path m) turn old next new after s k = machine-as (machines.Path s.machine) new s.machine_is tt
  resumes-hides wsize (machines.Name m) turn old next new after s k = machine-as (machines.Name s.machine) new s.machine_is (name-goes m turn old next s.machine after s.step k)

  -- an operation that begins hides nothing yet
  pub begun-hides : (m : Mounted) (lane : ℕ) (op : Op) → Hides (machine_of m lane op)
  begun-hides m lane (ops.OpenFile slot mode path) = tt
  begun-hides m lane (ops.Read slot offset count) = tt
  begun-hides m lane (ops.Write slot offset bytes) = tt
  begun-hides m lane (ops.Fill slot offset count byte) = tt
  begun-hides m lane (ops.Put path offset bytes) = tt
  begun-hides m lane (ops.Sync slot) = tt
  begun-hides m lane (ops.Close slot) = tt
  begun-hides m lane (ops.Truncate slot size) = tt
  begun-hides m lane (ops.Stat path) = tt
  begun-hides m lane (ops.Access path bits) = tt
  begun-hides m lane (ops.MakeDir path) = tt
  begun-hides m lane (ops.RemoveDir path) = tt
  begun-hides m lane (ops.Remove path) = tt
  begun-hides m lane (ops.Rename from to) = tt
  begun-hides m lane (ops.Link from to) = tt
  begun-hides m lane (ops.SymLink path target) = tt
  begun-hides m lane (ops.ReadLink path) = tt
  begun-hides m lane (ops.List path) = tt

  -- ---- steps that take what came, where an open file that was found is such a one

  abbrev pub FoundOpen : Result Reply Fault → Opens → Type 0
  FoundOpen came opens = (file : List ℕ) → found_by came ≡ Ok file → IsOpen opens file → B file

  deed-hides : (is_open : Bool) (file : List ℕ) (counter : ℕ) → (is_open ≡ true → B file) → DeedHides (removals.deed_of file (plan_of is_open counter))
  deed-hides true file counter held = held refl
  deed-hides false file counter held = tt

  plans : (is_open : Bool) (file : List ℕ) (m : RemoveFile) (room : Bool) (old : Shelf) (next : Step) (new : RemoveFile) (after : Shelf) → (is_open ≡ true → B file)
      → removals.Plans is_open file m room old next new after → SomeHides new.deed
  plans is_open file m room old next new after held p =
      hides-as (removals.asked_after m (removals.deed_of file (plan_of is_open old.counter)) room) new p.machine_is (deed-hides is_open file old.counter held)

  told-open : (b : Bool) (opens : Opens) (file : List ℕ) → MatchBool b (IsOpen opens file) (¬ IsOpen opens file) → b ≡ true → IsOpen opens file
  told-open true opens file told is = told
  told-open false opens file told is = absurd (cc)

  looked : (again : Bool) (told : Result (List ℕ) Fault) (m : RemoveFile) (room : Bool) (old : Shelf) (next : Step) (new : RemoveFile) (after : Shelf)
      → ((file : List ℕ) → told ≡ Ok file → IsOpen old.opens file → B file) → removals.FollowsLook again told m room old next new after → SomeHides m.deed → SomeHides new.deed
  looked true told m room old next new after held f k = hides-as m new f.machine_is k
  looked false (Ok file) m room old next new after held f k =
      plans f.is_open file m room old next new after (λ is. held file refl (told-open f.is_open old.opens file f.told is)) f.plans
  looked false (Err fault) m room old next new after held f k = hides-as m new f.machine_is k

  missed : (missing : Bool) (file to : List ℕ) (m : RemoveFile) (room : Bool) (new : RemoveFile) → B file → new ≡ removals.missed_after missing file to m room → SomeHides m.deed → SomeHides new.deed
  missed true file to m room new held is k = hides-as (removals.asked_after m (Move file to) room) new is held
  missed false file to m room new held is k = hides-as m new is k

  sought : (again : Bool) (told : Result (List ℕ) Fault) (file to : List ℕ) (m : RemoveFile) (room : Bool) (old : Shelf) (next : Step) (new : RemoveFile) (after : Shelf) → B file
      → removals.FollowsSeek again told file to m room old next new after → SomeHides m.deed → SomeHides new.deed
  sought true told file to m room old next new after held f k = hides-as m new f.machine_is k
  sought false (Ok found) file to m room old next new after held f k = plans true file m room old next new after (λ is. held) f
  sought false (Err fault) file to m room old next new after held f k = missed (removals.is_missing fault) file to m room new held f.machine_is k

  opens-same : (came : Result Reply Fault) (old heard : Shelf) → heard.opens ≡ old.opens → FoundOpen came old.opens → FoundOpen came heard.opens
  opens-same came old heard is found file f there = found file f (subst (λ (o : Opens). IsOpen o file) is there)

  deed-takes : (deed : Deed) (m : RemoveFile) (sent turn : Turn) (came : Result Reply Fault) (old : Shelf) (next : Step) (new : RemoveFile) (after : Shelf) → m.deed ≡ Some deed
      → FoundOpen came old.opens → removals.TakesDeed deed m sent turn came old next new after → SomeHides m.deed → SomeHides new.deed
  deed-takes Look m sent turn came old next new after is found t k =
      looked (look_again sent turn came old) (found_by came) m turn.room t.heard next new after
      (opens-same came old t.heard (ap (λ (s : Shelf). s.opens) t.hears.others) found) t.follows k
  deed-takes (Seek file to) m sent turn came old next new after is found t k =
      sought (look_again sent turn came old) (found_by came) file to m turn.room t.heard next new after (subst SomeHides is k) t.follows k
  deed-takes (Move file to) m sent turn came old next new after is found t k = hides-as m new t.0 k
  deed-takes Remove m sent turn came old next new after is found t k = hides-as m new t.0 k

  takes-if : (asked : Bool) (deed : Deed) (m : RemoveFile) (sent turn : Turn) (came : Result Reply Fault) (old : Shelf) (next : Step) (new : RemoveFile) (after : Shelf) → m.deed ≡ Some deed
      → FoundOpen came old.opens → removals.TakesIf asked deed m sent turn came old next new after → SomeHides m.deed → SomeHides new.deed
  takes-if true deed m sent turn came old next new after is found t k = deed-takes deed m sent turn came old next new after is found t k
  takes-if false deed m sent turn came old next new after is found t k = hides-as m new t.machine_is k

  takes : (deed : Option Deed) (m : RemoveFile) (sent turn : Turn) (came : Result Reply Fault) (old : Shelf) (next : Step) (new : RemoveFile) (after : Shelf) → m.deed ≡ deed
      → FoundOpen came old.opens → removals.Takes deed m sent turn came old next new after → SomeHides m.deed → SomeHides new.deed
  takes (Some deed) m sent turn came old next new after is found t k = takes-if m.asked deed m sent turn came old next new after is found t k
  takes None m sent turn came old next new after is found t k =
      follows t.step turn.room t.walked after.opens next new t.follows
      (subst SomeHides (sym (ap (λ (w : RemoveFile). w.deed) t.walked_is ∙ is)) tt)

  name-takes : (m : NameMachine) (sent turn : Turn) (came : Result Reply Fault) (old : Shelf) (next : Step) (new : NameMachine) (after : Shelf) → FoundOpen came old.opens
      → steps.NameTakes m sent turn came old next new after → NameHides m → NameHides new
  name-takes (names.Change m) sent turn came old next new after found t k = name-as _ new t.machine_is tt
  name-takes (names.Stat m) sent turn came old next new after found t k = name-as _ new t.machine_is tt
  name-takes (names.Access m) sent turn came old next new after found t k = name-as _ new t.machine_is tt
  name-takes (names.ReadLink m) sent turn came old next new after found t k = name-as _ new t.machine_is tt
  name-takes (names.Remove m) sent turn came old next new after found t k =
      name-as (names.Remove t.machine) new t.machine_is (takes m.deed m sent turn came old next t.machine after refl found t.step k)
  name-takes (names.Rename m) sent turn came old next new after found t k = name-as _ new t.machine_is tt
  name-takes (names.Link m) sent turn came old next new after found t k = name-as _ new t.machine_is tt
  name-takes (names.SymLink m) sent turn came old next new after found t k = name-as _ new t.machine_is tt
  name-takes (names.List m) sent turn came old next new after found t k = name-as _ new t.machine_is tt

  pub takes-hides : (wsize : ℕ) (m : Machine) (sent turn : Turn) (came : Result Reply Fault) (old : Shelf) (next : Step) (new : Machine) (after : Shelf) → FoundOpen came old.opens
      → Takes wsize m sent turn came old next new after → Hides m → Hides new
  takes-hides wsize (machines.File m) sent turn came old next new after found t k = machine-as (machines.File t.machine) new t.machine_is tt
  takes-hides wsize (machines.Path m) sent turn came old next new after found t k = machine-as (machines.Path t.machine) new t.machine_is tt
  takes-hides wsize (machines.Name m) sent turn came old next new after found t k =
      machine-as (machines.Name t.machine) new t.machine_is (name-takes m sent turn came old next t.machine after found t.step k)

-- with more in a history
deed-map : (B C : List ℕ → Type 0) → ((f : List ℕ) → B f → C f) → (deed : Deed) → DeedHides B deed → DeedHides C deed
deed-map B C more Look k = tt
deed-map B C more (Seek file to) k = more file k
deed-map B C more (Move file to) k = more file k
deed-map B C more Remove k = tt

some-map : (B C : List ℕ → Type 0) → ((f : List ℕ) → B f → C f) → (o : Option Deed) → SomeHides B o → SomeHides C o
some-map B C more None k = tt
some-map B C more (Some deed) k = deed-map B C more deed k

name-map : (B C : List ℕ → Type 0) → ((f : List ℕ) → B f → C f) → (m : NameMachine) → NameHides B m → NameHides C m
name-map B C more (names.Remove m) k = some-map B C more m.deed k
name-map B C more (names.Change m) k = tt
name-map B C more (names.Stat m) k = tt
name-map B C more (names.Access m) k = tt
name-map B C more (names.ReadLink m) k = tt
name-map B C more (names.Rename m) k = tt
name-map B C more (names.Link m) k = tt
name-map B C more (names.SymLink m) k = tt
name-map B C more (names.List m) k = tt

pub hides-map : (B C : List ℕ → Type 0) → ((f : List ℕ) → B f → C f) → (m : Machine) → Hides B m → Hides C m
hides-map B C more (machines.File m) k = tt
hides-map B C more (machines.Path m) k = tt
hides-map B C more (machines.Name m) k = name-map B C more m k
