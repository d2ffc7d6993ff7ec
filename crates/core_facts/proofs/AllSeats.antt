-- Where any operation has a place in the order of a file, as its machine says; and that it never waits for nothing.
use Rattle.core_facts.proofs.Prelude.{◌≡◌, ◌+◌, ◌-◌, ◌⊎◌, ℕ, Bool, true, false, List, Option, Some, None, Result, inl, inr, refl, sym, ap, subst, ◌∙◌, Fault, Reply, Op, left, LaneFile, Step, Shelf, Turn, WalkStep, Mounted, Machine, Opener, PathMachine, machine_of, file_of, slot_taken, begun_at, placed, Starts, Resumes, Takes, in_flight, IsCounted}
use Rattle.client_shelf.specs.LaneFiles.{added}
use Rattle.core_facts.specs.InFlight.{FileCounted}
use Rattle.world_model.specs.declared.answer.Answer.TheVariants as answers
use Rattle.world_model.specs.declared.answer.Fault.TheVariants as faults
use Rattle.world_model.specs.declared.op.Op.TheVariants as ops
use Rattle.client_shelf.specs.declared.step.Step.TheVariants as nexts
use Rattle.name_ops.specs.declared.walk.WalkStep.TheVariants as walks
use Rattle.name_ops.specs.Walking as walking
use Rattle.op_machines.specs.declared.machine.Machine.TheVariants as machines
use Rattle.op_machines.specs.declared.opener.Opener.TheVariants as openers
use Rattle.op_machines.specs.PathSteps as paths
use Rattle.core_facts.proofs.AllCounts.{of_path, path-file, path-walk, placed-none}
use Rattle.core_facts.proofs.NameCounts.{walk-takes}
use Rattle.core_facts.proofs.NameRests.{Rest, walk-rest}
use Rattle.core_facts.proofs.NameRests as rests
use Rattle.core_facts.proofs.NameLives.{clash, WhileGoing, WalkLive, WalkLives, goes-lives, walk-lives, Walks, walk-on, GoesOn, on-as, NameLive, name-on}
use Rattle.core_facts.proofs.NameLives as names
use Rattle.core_facts.proofs.FileSeats.{seat_file, FileLive, FileFresh, Seats, to-any, to-done, file-starts, file-resumes, file-takes}
use Rattle.core_facts.proofs.FileOns.{HeldUp, OnOr, file-on}

-- ---- the file in whose order it has a place

abbrev pub path_seat : Bool → Opener → Option (List ℕ)
path_seat true opener = seat_file (file_of opener)
path_seat false opener = None

abbrev pub seat_of : Machine → Option (List ℕ)
seat_of (machines.File m) = seat_file m
seat_of (machines.Path m) = path_seat m.arrived m.opener
seat_of (machines.Name m) = None

-- ---- it is at work, as one of this lane

abbrev pub OpenerFresh : ℕ → Opener → Type 0
OpenerFresh lane (openers.Open m) = Unit {0}
OpenerFresh lane (openers.Put m) = m.write.lane ≡ lane

-- on the way to its directory, and then
abbrev pub OnPath : Bool → ℕ → PathMachine → Type 0
OnPath true lane m = FileLive lane (file_of m.opener)
OnPath false lane m = WalkLive m.walk × OpenerFresh lane m.opener

abbrev pub IsLive : ℕ → Machine → Type 0
IsLive lane (machines.File m) = FileLive lane m
IsLive lane (machines.Path m) = OnPath m.arrived lane m
IsLive lane (machines.Name m) = NameLive m

-- one that has still to begin
pub record PathFresh (lane : ℕ) (m : PathMachine) : Type 0 where
  pub on_way : m.arrived ≡ false
  pub walk : WalkLive m.walk
  pub opener : OpenerFresh lane m.opener

abbrev pub IsFreshFor : ℕ → Machine → Type 0
IsFreshFor lane (machines.File m) = FileFresh lane m
IsFreshFor lane (machines.Path m) = PathFresh lane m
IsFreshFor lane (machines.Name m) = NameLive m

placed-live : (lane : ℕ) (dir : List ℕ) (o : Opener) → OpenerFresh lane o → FileLive lane (file_of (placed dir o))
placed-live lane dir (openers.Open m) fresh = tt
placed-live lane dir (openers.Put m) fresh = (fresh, tt)

placed-seat : (dir : List ℕ) (o : Opener) → seat_file (file_of (placed dir o)) ≡ None
placed-seat dir (openers.Open m) = refl
placed-seat dir (openers.Put m) = refl

begun-fresh : (lane moment : ℕ) (o : Opener) → OpenerFresh lane o → OpenerFresh lane (begun_at moment o)
begun-fresh lane moment (openers.Open m) fresh = tt
begun-fresh lane moment (openers.Put m) fresh = fresh

-- no close is on its way
opener-counted : (o : Opener) → FileCounted (file_of o)
opener-counted (openers.Open m) = tt
opener-counted (openers.Put m) = tt

on-way : (lane : ℕ) (m : PathMachine) → m.arrived ≡ false → WalkLive m.walk → OpenerFresh lane m.opener → OnPath m.arrived lane m
on-way lane m is live fresh = subst (λ (b : Bool). OnPath b lane m) (sym is) (live, fresh)

module _ (lane : ℕ) (P : Option (List ℕ) → List LaneFile → Type 0) (leaves : (seat : Option (List ℕ)) (order : List LaneFile) → P seat order → P None (left lane order))
    (joins : (seat : Option (List ℕ)) (file : List ℕ) (order : List LaneFile) → P seat order → P (Some file) (added (record { lane = lane; file = file }) (left lane order))) where
  abbrev pub OfMachine : Step → Machine → List LaneFile → Type 0
  OfMachine next m order = Seats lane P leaves joins next (IsLive lane m) (seat_of m) order

  abbrev pub OfPath : Step → PathMachine → List LaneFile → Type 0
  OfPath next m order = Seats lane P leaves joins next (OnPath m.arrived lane m) (path_seat m.arrived m.opener) order

  all-as : (next : Step) (to new : Machine) (order : List LaneFile) → new ≡ to → OfMachine next to order → OfMachine next new order
  all-as next to new order is s = subst (λ (m : Machine). OfMachine next m order) (sym is) s

  -- ---- opens and puts on their way

  then-as : (next : Step) (m : PathMachine) (opener : Opener) (new : PathMachine) (order : List LaneFile) → m.arrived ≡ true → new ≡ record m { opener = opener }
      → Seats lane P leaves joins next (FileLive lane (file_of opener)) (seat_file (file_of opener)) order → OfPath next new order
  then-as next m opener new order there is s =
      subst (λ (n : PathMachine). OfPath next n order) (sym is)
      (subst (λ (b : Bool). Seats lane P leaves joins next (OnPath b lane (record m { opener = opener })) (path_seat b opener) order) (sym there) s)

  then-resumes : (wsize : ℕ) (m : PathMachine) (turn : Turn) (old : Shelf) (next : Step) (new : PathMachine) (after : Shelf) → m.arrived ≡ true
      → FileLive lane (file_of m.opener) → P (seat_file (file_of m.opener)) old.order → paths.ThenResumes wsize m turn old next new after → OfPath next new after.order
  then-resumes wsize m turn old next new after there live p t =
      then-as next m t.opener new after.order there t.machine_is
      (file-resumes lane P leaves joins (file_of m.opener) wsize turn old next (file_of t.opener) after live p t.step)

  -- it stays on its way, with no place
  way-any : (next : Step) (m : PathMachine) (new : PathMachine) (old order : List LaneFile) → new ≡ m → m.arrived ≡ false → WalkLive m.walk → OpenerFresh lane m.opener
      → order ≡ old → P None old → OfPath next new order
  way-any next m new old order is way live fresh o p =
      subst (λ (n : PathMachine). OfPath next n order) (sym is)
      (to-any lane P leaves joins next (OnPath m.arrived lane m) (path_seat m.arrived m.opener) old order (ap (λ (b : Bool). path_seat b m.opener) way) o
      (on-way lane m way live fresh) p)

  follows-path : (step : WalkStep) (wsize : ℕ) (m : PathMachine) (turn : Turn) (old : Shelf) (next : Step) (new : PathMachine) (after : Shelf) → m.arrived ≡ false
      → WalkLives step m.walk → OpenerFresh lane m.opener → P None old.order → paths.Follows step wsize m turn old next new after → OfPath next new after.order
  follows-path (walks.Send call) wsize m turn old next new after way l fresh p f =
      way-any next m new old.order after.order f.1 way (λ asked. l) fresh (ap (λ (s : Shelf). s.order) f.2) p
  follows-path walks.Wait wsize m turn old next new after way l fresh p f =
      way-any next m new old.order after.order f.1 way l fresh (ap (λ (s : Shelf). s.order) f.2) p
  follows-path (walks.At dir) wsize m turn old next new after way l fresh p f =
      then-resumes wsize (record m { opener = placed dir m.opener; arrived = true }) turn old next new after refl (placed-live lane dir m.opener fresh)
      (subst (λ (s : Option (List ℕ)). P s old.order) (sym (placed-seat dir m.opener)) p) f
  follows-path (walks.Refused fault) wsize m turn old next new after way l fresh p f =
      to-done lane P leaves joins (answers.Refused fault) next (OnPath new.arrived lane new) (path_seat new.arrived new.opener) old.order after.order f.0
      (ap (λ (s : Shelf). s.order) f.2) p

  path-resumes : (b : Bool) (wsize : ℕ) (m : PathMachine) (turn : Turn) (old : Shelf) (next : Step) (new : PathMachine) (after : Shelf) → m.arrived ≡ b → OnPath b lane m
      → P (path_seat b m.opener) old.order → paths.PathResumes b wsize m turn old next new after → OfPath next new after.order
  path-resumes true wsize m turn old next new after is live p r = then-resumes wsize m turn old next new after is live p r
  path-resumes false wsize m turn old next new after is live p r =
      follows-path (walking.go_next m.walk turn old) wsize (record m { walk = walking.go_after m.walk turn old }) turn (walking.go_shelf m.walk turn old) next new after is
      (walk-lives m.walk turn old live.0) live.1 p r

  path-starts : (taken : Bool) (wsize : ℕ) (m : PathMachine) (turn : Turn) (old : Shelf) (next : Step) (new : PathMachine) (after : Shelf) → PathFresh lane m
      → P None old.order → paths.StartsIf taken wsize m turn old next new after → OfPath next new after.order
  path-starts true wsize m turn old next new after fresh p s =
      to-done lane P leaves joins (answers.Refused faults.Slot) next (OnPath new.arrived lane new) (path_seat new.arrived new.opener) old.order after.order s.0
      (ap (λ (k : Shelf). k.order) s.2) p
  path-starts false wsize m turn old next new after fresh p s =
      let begun : PathMachine = record m { opener = begun_at (turn.moment - 1) m.opener } in
      path-resumes m.arrived wsize begun turn old next new after refl
      (on-way lane begun fresh.on_way fresh.walk (begun-fresh lane (turn.moment - 1) m.opener fresh.opener))
      (subst (λ (b : Bool). P (path_seat b (begun_at (turn.moment - 1) m.opener)) old.order) (sym fresh.on_way) p) s

  path-takes : (b : Bool) (wsize : ℕ) (m : PathMachine) (sent turn : Turn) (came : Result Reply Fault) (old : Shelf) (next : Step) (new : PathMachine) (after : Shelf) (others : ℕ)
      → m.arrived ≡ b → OnPath b lane m → of_path m ≡ others + 1 → P (path_seat b m.opener) old.order → paths.PathTakes b wsize m sent turn came old next new after
      → OfPath next new after.order
  path-takes true wsize m sent turn came old next new after others is live one p t =
      then-as next m t.opener new after.order is t.machine_is
      (file-takes lane P leaves joins (file_of m.opener) wsize sent turn came old next (file_of t.opener) after others live (sym (path-file m is) ∙ one) p t.step)
  path-takes false wsize m sent turn came old next new after others is live one p t =
      let took = walk-takes m.walk sent turn came old t.step t.walked.walk t.heard others (sym (path-walk m is) ∙ one) t.takes in
      follows-path t.step wsize t.walked turn t.heard next new after (ap (λ (w : PathMachine). w.arrived) t.walked_is ∙ is) (goes-lives t.step t.walked.walk took.goes)
      (subst (λ (o : Opener). OpenerFresh lane o) (sym (ap (λ (w : PathMachine). w.opener) t.walked_is)) live.1)
      (subst (λ (order : List LaneFile). P None order)
      (sym (ap (λ (r : Rest). r.order) (walk-rest (walking.waiting_name m.walk) m.walk sent turn came old t.step t.walked.walk t.heard t.takes))) p) t.follows

  -- ---- any operation

  name-seats : (next : Step) (Live : Type 0) (old order : List LaneFile) → WhileGoing next Live → order ≡ old → P None old → Seats lane P leaves joins next Live None order
  name-seats (nexts.Send call) Live old order w o p = (w, subst (P None) (sym o) p)
  name-seats nexts.Wait Live old order w o p = (w, subst (P None) (sym o) p)
  name-seats (nexts.Done answer) Live old order w o p = subst (P None) (sym o) p

  pub all-starts : (m : Machine) (wsize : ℕ) (turn : Turn) (old : Shelf) (next : Step) (new : Machine) (after : Shelf) → IsFreshFor lane m → P None old.order
      → Starts wsize m turn old next new after → OfMachine next new after.order
  all-starts (machines.File m) wsize turn old next new after fresh p s =
      all-as next (machines.File s.machine) new after.order s.machine_is (file-starts lane P leaves joins m wsize turn old next s.machine after fresh p s.step)
  all-starts (machines.Path m) wsize turn old next new after fresh p s =
      all-as next (machines.Path s.machine) new after.order s.machine_is (path-starts (slot_taken m.opener old.opens) wsize m turn old next s.machine after fresh p s.step)
  all-starts (machines.Name m) wsize turn old next new after fresh p s =
      all-as next (machines.Name s.machine) new after.order s.machine_is
      (name-seats next (NameLive s.machine) old.order after.order (names.name-goes m turn old next s.machine after fresh s.step)
      (ap (λ (r : Rest). r.order) (rests.name-goes m turn old next s.machine after s.step)) p)

  pub all-resumes : (m : Machine) (wsize : ℕ) (turn : Turn) (old : Shelf) (next : Step) (new : Machine) (after : Shelf) → IsLive lane m → P (seat_of m) old.order
      → Resumes wsize m turn old next new after → OfMachine next new after.order
  all-resumes (machines.File m) wsize turn old next new after live p s =
      all-as next (machines.File s.machine) new after.order s.machine_is (file-resumes lane P leaves joins m wsize turn old next s.machine after live p s.step)
  all-resumes (machines.Path m) wsize turn old next new after live p s =
      all-as next (machines.Path s.machine) new after.order s.machine_is (path-resumes m.arrived wsize m turn old next s.machine after refl live p s.step)
  all-resumes (machines.Name m) wsize turn old next new after live p s =
      all-as next (machines.Name s.machine) new after.order s.machine_is
      (name-seats next (NameLive s.machine) old.order after.order (names.name-goes m turn old next s.machine after live s.step)
      (ap (λ (r : Rest). r.order) (rests.name-goes m turn old next s.machine after s.step)) p)

  pub all-takes : (m : Machine) (wsize : ℕ) (sent turn : Turn) (came : Result Reply Fault) (old : Shelf) (next : Step) (new : Machine) (after : Shelf) (others : ℕ)
      → IsLive lane m → in_flight m ≡ others + 1 → P (seat_of m) old.order → Takes wsize m sent turn came old next new after → OfMachine next new after.order
  all-takes (machines.File m) wsize sent turn came old next new after others live one p s =
      all-as next (machines.File s.machine) new after.order s.machine_is (file-takes lane P leaves joins m wsize sent turn came old next s.machine after others live one p s.step)
  all-takes (machines.Path m) wsize sent turn came old next new after others live one p s =
      all-as next (machines.Path s.machine) new after.order s.machine_is (path-takes m.arrived wsize m sent turn came old next s.machine after others refl live one p s.step)
  all-takes (machines.Name m) wsize sent turn came old next new after others live one p s =
      all-as next (machines.Name s.machine) new after.order s.machine_is
      (name-seats next (NameLive s.machine) old.order after.order (names.name-takes m sent turn came old next s.machine after others live one s.step)
      (ap (λ (r : Rest). r.order) (rests.name-takes m sent turn came old next s.machine after s.step)) p)

-- ---- it goes on

none-held : (lane : ℕ) (seat : Option (List ℕ)) (shelf : Shelf) (next : Step) → seat ≡ None → OnOr lane seat shelf next → GoesOn next
none-held lane seat shelf next is (inl on) = on
none-held lane seat shelf next is (inr held) = absurd (subst (λ (s : Option (List ℕ)). HeldUp lane s shelf) is held)

follows-on : (step : WalkStep) (lane wsize : ℕ) (m : PathMachine) (turn : Turn) (old : Shelf) (next : Step) (new : PathMachine) (after : Shelf) → turn.room ≡ true
    → OpenerFresh lane m.opener → Walks step → paths.Follows step wsize m turn old next new after → GoesOn next
follows-on (walks.Send call) lane wsize m turn old next new after room fresh w f = on-as (nexts.Send call) next f.0 tt
follows-on walks.Wait lane wsize m turn old next new after room fresh w f = absurd w
follows-on (walks.At dir) lane wsize m turn old next new after room fresh w f =
    none-held lane (seat_file (file_of (placed dir m.opener))) old next (placed-seat dir m.opener)
    (file-on (file_of (placed dir m.opener)) lane wsize turn old next (file_of f.opener) after room (placed-live lane dir m.opener fresh)
    (opener-counted (placed dir m.opener)) (placed-none dir m.opener) f.step)
follows-on (walks.Refused fault) lane wsize m turn old next new after room fresh w f = on-as (nexts.Done (answers.Refused fault)) next f.0 tt

path-on : (b : Bool) (lane wsize : ℕ) (m : PathMachine) (turn : Turn) (old : Shelf) (next : Step) (new : PathMachine) (after : Shelf) → m.arrived ≡ b → turn.room ≡ true
    → OnPath b lane m → of_path m ≡ 0 → paths.PathResumes b wsize m turn old next new after → OnOr lane (path_seat b m.opener) old next
path-on true lane wsize m turn old next new after is room live none r =
    file-on (file_of m.opener) lane wsize turn old next (file_of r.opener) after room live (opener-counted m.opener) (sym (path-file m is) ∙ none) r.step
path-on false lane wsize m turn old next new after is room live none r =
    inl (follows-on (walking.go_next m.walk turn old) lane wsize (record m { walk = walking.go_after m.walk turn old }) turn (walking.go_shelf m.walk turn old) next new after
    room live.1 (walk-on m.walk turn old live.0 (sym (path-walk m is) ∙ none) room) r)

pub all-on : (m : Machine) (lane wsize : ℕ) (turn : Turn) (old : Shelf) (next : Step) (new : Machine) (after : Shelf) → turn.room ≡ true → IsLive lane m → IsCounted m
    → in_flight m ≡ 0 → Resumes wsize m turn old next new after → OnOr lane (seat_of m) old next
all-on (machines.File m) lane wsize turn old next new after room live counted none s =
    file-on m lane wsize turn old next s.machine after room live counted none s.step
all-on (machines.Path m) lane wsize turn old next new after room live counted none s =
    path-on m.arrived lane wsize m turn old next s.machine after refl room live none s.step
all-on (machines.Name m) lane wsize turn old next new after room live counted none s =
    inl (name-on m turn old next s.machine after live none room s.step)

-- ---- each operation of a script may begin so

pub begins-fresh : (m : Mounted) (lane : ℕ) (op : Op) → IsFreshFor lane (machine_of m lane op)
begins-fresh m lane (ops.OpenFile slot mode path) = record { on_way = refl; walk = λ asked. clash false asked refl; opener = tt }
begins-fresh m lane (ops.Read slot offset count) = tt
begins-fresh m lane (ops.Write slot offset bytes) = refl
begins-fresh m lane (ops.Fill slot offset count byte) = refl
begins-fresh m lane (ops.Put path offset bytes) = record { on_way = refl; walk = λ asked. clash false asked refl; opener = refl }
begins-fresh m lane (ops.Sync slot) = refl
begins-fresh m lane (ops.Close slot) = refl
begins-fresh m lane (ops.Truncate slot size) = refl
begins-fresh m lane (ops.Stat path) = λ asked. clash false asked refl
begins-fresh m lane (ops.Access path bits) = record { own = λ asked. clash false asked refl; walk = λ asked. clash false asked refl }
begins-fresh m lane (ops.MakeDir path) = record { own = λ asked. clash false asked refl; walk = λ asked. clash false asked refl }
begins-fresh m lane (ops.RemoveDir path) = record { own = λ asked. clash false asked refl; walk = λ asked. clash false asked refl }
begins-fresh m lane (ops.Remove path) = record { own = λ none. refl; walk = λ asked. clash false asked refl }
begins-fresh m lane (ops.Rename from to) =
    record { first = λ asked. clash false asked refl; second = λ asked. clash false asked refl; apart = λ asked. refl }
begins-fresh m lane (ops.Link from to) =
    record { first = λ asked. clash false asked refl; second = λ asked. clash false asked refl; apart = λ asked. refl }
begins-fresh m lane (ops.SymLink path target) = record { own = λ asked. clash false asked refl; walk = λ asked. clash false asked refl }
begins-fresh m lane (ops.ReadLink path) = record { own = λ asked. clash false asked refl; walk = λ asked. clash false asked refl }
begins-fresh m lane (ops.List path) = record { own = λ asked. clash false asked refl; walk = λ asked. clash false asked refl }
