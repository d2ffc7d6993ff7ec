-- While a remove takes a hidden name, each call of it that waits was first sent after the LOOKUP of its name gave the file.
use Rattle.core_session.proofs.Prelude.{◌≡◌, ◌≤◌, ◌+◌, inl, inr, ℕ, Bool, true, false, List, [], ◌∷◌, ◌++◌, length, Option, Some, None, slice_get, Result, Ok, Err, refl, sym, ap, subst, ◌∙◌, arith, Attr, DirKept, Opens, Waiting, waiting_at, Answer, Fault, Entry, Began, Call, Reply, Op, Asked, UnderWay, EndsWith, Asked-grow, Asked-wide, length_last, Step, Shelf, Turn, Deed, Look, Seek, Move, RemoveFile, WalkStep, found_by, look_again, Mounted, Machine, NameMachine, machine_of, Starts, Resumes, Takes, Purpose, Busy, Setup, View, in_flight, Reaches, Awaits, RemoveAwaits, ThenOf}
use Rattle.name_ops.specs.declared.remove_file.Deed.TheVariants.{Remove}
use Rattle.name_ops.specs.Looking.{look_up}
use Rattle.core_facts.specs.InFlight.{one_if}
use Rattle.core_facts.proofs.NamesAwaited.{NameAwaits}
use Rattle.nfs_dir_calls.specs.declared.keeping.DirKept.TheVariants as kept
use Rattle.silly_rename.specs.Plans.{plan_of}
use Rattle.world_model.specs.declared.message.Reply.TheVariants as replies
use Rattle.world_model.specs.declared.op.Op.TheVariants as ops
use Rattle.client_shelf.specs.declared.step.Step.TheVariants as nexts
use Rattle.name_ops.specs.declared.walk.WalkStep.TheVariants as walks
use Rattle.name_ops.specs.RemoveFile as removals
use Rattle.name_ops.specs.Walking as walking
use Rattle.op_machines.specs.declared.machine.Machine.TheVariants as machines
use Rattle.op_machines.specs.declared.name_machine.NameMachine.TheVariants as names
use Rattle.op_machines.specs.NameSteps as steps
use Rattle.core_answers.proofs.engine.Laws.{FromPlace}
use Rattle.core_answers.proofs.engine.Told.{ShelfLaws, IsAfter}
use Rattle.core_answers.proofs.bonds.NamesShown.{awaits-asks}
use Rattle.core_answers.proofs.paths.Following.{FollowLaws, reached-known}

-- a LOOKUP of the name since the place x gave the file, before the place n
pub record Gave (h : List Entry) (x n : ℕ) (d name file : List ℕ) : Type 0 where
  pub attr : Option Attr
  pub dir : Option Attr
  pub asked : Asked h x n (look_up d name) (replies.Dir (kept.Lookup file attr dir))

gave-grow : (h more : List Entry) (x n to : ℕ) (d name file : List ℕ) → n ≤ to → Gave h x n d name file → Gave (h ++ more) x to d name file
gave-grow h more x n to d name file wide k = record {
  attr = k.attr;
  dir = k.dir;
  asked = Asked-wide (h ++ more) x n x to (look_up d name) (replies.Dir (kept.Lookup file k.attr k.dir)) (omega arith) wide
      (Asked-grow h more x n (look_up d name) (replies.Dir (kept.Lookup file k.attr k.dir)) k.asked);
}

-- the call was answered so, by the last record
asked-by : (h : List Entry) (x n : ℕ) (call : Call) (reply : Reply) → EndsWith h x n call reply → Asked h x n call reply
asked-by h x n call reply e =
    let since = e.within in
    record {
      xid = e.last.xid;
      bytes = e.last.bytes;
      heard = record {
        sent_at = e.last.sent_at;
        record_sent = e.last.record_sent;
        got_at = e.last.at;
        sent = e.last.sent;
        spells = e.last.spells;
        got = record { got = e.last.got; under = e.last.under; waits = e.waits };
        after = omega (arith, since);
        later = e.last.asked;
        before = e.last.before;
      };
      spells = e.spells;
    }

-- what came of the call was told since then
abbrev IsSince : List Entry → ℕ → Result Reply Fault → Call → Type 0
IsSince h x came call = (reply : Reply) → came ≡ Ok reply → Asked h x (length h) call reply

gave-from : (h : List Entry) (x : ℕ) (d name : List ℕ) (came : Result Reply Fault) (call : Call) (file : List ℕ) → call ≡ look_up d name → IsSince h x came call → found_by came ≡ Ok file
    → Gave h x (length h) d name file
gave-from h x d name (Ok (replies.Dir reply)) call file this heard is = by reply refl is
  where
    by : (r : DirKept) → r ≡ reply → found_by (Ok (replies.Dir r)) ≡ Ok file → Gave h x (length h) d name file
    by (kept.Lookup object attr dir) same e =
        let its : object ≡ file = cc in
        record {
          attr = attr;
          dir = dir;
          asked = subst (λ (f : List ℕ). Asked h x (length h) (look_up d name) (replies.Dir (kept.Lookup f attr dir))) its
              (subst (λ (c : Call). Asked h x (length h) c (replies.Dir (kept.Lookup object attr dir))) this
              (heard (replies.Dir (kept.Lookup object attr dir)) (ap (λ (r : DirKept). Ok (replies.Dir r)) (sym same))));
        }
    by (kept.LookupFail status dir) same e = absurd (cc)
    by r same e = absurd (cc)
gave-from h x d name (Ok (replies.File reply)) call file this heard is = absurd (cc)
gave-from h x d name (Ok (replies.Mount reply)) call file this heard is = absurd (cc)
gave-from h x d name (Err fault) call file this heard is = absurd (cc)

-- ---- what is known of a remove: of the file that it found, where it looks for a hidden name, and before the place where it takes one

abbrev pub DeedGave : List Entry → ℕ → ℕ → List ℕ → List ℕ → Deed → Type 0
DeedGave h place x d name Look = Unit {0}
DeedGave h place x d name (Seek file to) = Gave h x (length h) d name file
DeedGave h place x d name (Move file to) = Gave h x place d name file
DeedGave h place x d name Remove = Unit {0}

abbrev pub SomeGave : List Entry → ℕ → ℕ → List ℕ → List ℕ → Option Deed → Type 0
SomeGave h place x d name None = Unit {0}
SomeGave h place x d name (Some deed) = DeedGave h place x d name deed

abbrev pub RemovalGave : List Entry → ℕ → ℕ → RemoveFile → Type 0
RemovalGave h place x m = SomeGave h place x m.walk.spot.dir m.name m.deed

-- the operation is a remove
abbrev pub IsRemoving : Op → Type 0
IsRemoving op = (path : List (List ℕ)) × (op ≡ ops.Remove path)

abbrev pub NameGave : List Entry → ℕ → ℕ → Op → NameMachine → Type 0
NameGave h place x op (names.Remove m) = IsRemoving op × RemovalGave h place x m
NameGave h place x op (names.Change m) = Unit {0}
NameGave h place x op (names.Stat m) = Unit {0}
NameGave h place x op (names.Access m) = Unit {0}
NameGave h place x op (names.ReadLink m) = Unit {0}
NameGave h place x op (names.Rename m) = Unit {0}
NameGave h place x op (names.Link m) = Unit {0}
NameGave h place x op (names.SymLink m) = Unit {0}
NameGave h place x op (names.List m) = Unit {0}

abbrev pub MachineGave : List Entry → ℕ → ℕ → Op → Machine → Type 0
MachineGave h place x op (machines.File m) = Unit {0}
MachineGave h place x op (machines.Path m) = Unit {0}
MachineGave h place x op (machines.Name m) = NameGave h place x op m

module _ (h : List Entry) (x : ℕ) where
  -- ---- steps without a reply

  module _ (place : ℕ) where
    abbrev Has : RemoveFile → Type 0
    Has m = RemovalGave h place x m

    has-as : (to new : RemoveFile) → new ≡ to → Has to → Has new
    has-as to new is k = subst Has (sym is) k

    first-gave : (any : Bool) (d name : List ℕ) → DeedGave h place x d name (removals.first_deed any)
    first-gave true d name = tt
    first-gave false d name = tt

    follows : (step : WalkStep) (room : Bool) (m : RemoveFile) (opens : Opens) (next : Step) (new : RemoveFile) → removals.Follows step room m opens next new → Has m → Has new
    follows (walks.Send call) room m opens next new f k = has-as m new f.1 k
    follows walks.Wait room m opens next new f k = has-as m new f.1 k
    follows (walks.At dir) room m opens next new f k =
        has-as (removals.asked_after m (removals.first_deed f.any) room) new f.machine_is (first-gave f.any m.walk.spot.dir m.name)
    follows (walks.Refused fault) room m opens next new f k = has-as m new f.1 k

    none-yet : (m : RemoveFile) → m.deed ≡ None → Has m
    none-yet m is = subst (λ (o : Option Deed). SomeGave h place x m.walk.spot.dir m.name o) (sym is) tt

    goes : (deed : Option Deed) (m : RemoveFile) (turn : Turn) (old : Shelf) (next : Step) (new : RemoveFile) (after : Shelf) → m.deed ≡ deed
        → removals.Goes deed m turn old next new after → Has m → Has new
    goes (Some deed) m turn old next new after is g k =
        has-as (removals.asked_after m deed turn.room) new g.machine_is (subst (λ (o : Option Deed). SomeGave h place x m.walk.spot.dir m.name o) is k)
    goes None m turn old next new after is g k =
        follows (walking.go_next m.walk turn old) turn.room (record m { walk = walking.go_after m.walk turn old }) old.opens next new g.follows
        (none-yet (record m { walk = walking.go_after m.walk turn old }) is)

    resumes : (asked : Bool) (m : RemoveFile) (turn : Turn) (old : Shelf) (next : Step) (new : RemoveFile) (after : Shelf) → removals.Resumes asked m turn old next new after → Has m → Has new
    resumes true m turn old next new after r k = has-as m new r.machine_is k
    resumes false m turn old next new after r k = goes m.deed m turn old next new after refl r k

    name-as : (op : Op) (to new : NameMachine) → new ≡ to → NameGave h place x op to → NameGave h place x op new
    name-as op to new is k = subst (NameGave h place x op) (sym is) k

    name-goes : (op : Op) (m : NameMachine) (turn : Turn) (old : Shelf) (next : Step) (new : NameMachine) (after : Shelf) → steps.NameGoes m turn old next new after → NameGave h place x op m
        → NameGave h place x op new
    name-goes op (names.Change m) turn old next new after g k = name-as op _ new g.machine_is tt
    name-goes op (names.Stat m) turn old next new after g k = name-as op _ new g.machine_is tt
    name-goes op (names.Access m) turn old next new after g k = name-as op _ new g.machine_is tt
    name-goes op (names.ReadLink m) turn old next new after g k = name-as op _ new g.machine_is tt
    name-goes op (names.Remove m) turn old next new after g k =
        name-as op (names.Remove g.machine) new g.machine_is (k.0, resumes m.asked m turn old next g.machine after g.step k.1)
    name-goes op (names.Rename m) turn old next new after g k = name-as op _ new g.machine_is tt
    name-goes op (names.Link m) turn old next new after g k = name-as op _ new g.machine_is tt
    name-goes op (names.SymLink m) turn old next new after g k = name-as op _ new g.machine_is tt
    name-goes op (names.List m) turn old next new after g k = name-as op _ new g.machine_is tt

    machine-as : (op : Op) (to new : Machine) → new ≡ to → MachineGave h place x op to → MachineGave h place x op new
    machine-as op to new is k = subst (MachineGave h place x op) (sym is) k

    starts-gave : (op : Op) (wsize : ℕ) (m : Machine) (turn : Turn) (old : Shelf) (next : Step) (new : Machine) (after : Shelf) → Starts wsize m turn old next new after
        → MachineGave h place x op m → MachineGave h place x op new
    starts-gave op wsize (machines.File m) turn old next new after s k = machine-as op (machines.File s.machine) new s.machine_is tt
    starts-gave op wsize (machines.Path m) turn old next new after s k = machine-as op (machines.Path s.machine) new s.machine_is tt
    starts-gave op wsize (machines.Name m) turn old next new after s k =
        machine-as op (machines.Name s.machine) new s.machine_is (name-goes op m turn old next s.machine after s.step k)

    resumes-gave : (op : Op) (wsize : ℕ) (m : Machine) (turn : Turn) (old : Shelf) (next : Step) (new : Machine) (after : Shelf) → Resumes wsize m turn old next new after
        → MachineGave h place x op m → MachineGave h place x op new
    resumes-gave op wsize (machines.File m) turn old next new after s k = machine-as op (machines.File s.machine) new s.machine_is tt
    resumes-gave op wsize (machines.Path m) turn old next new after s k = machine-as op (machines.Path s.machine) new s.machine_is tt
    resumes-gave op wsize (machines.Name m) turn old next new after s k =
        machine-as op (machines.Name s.machine) new s.machine_is (name-goes op m turn old next s.machine after s.step k)

    -- an operation that begins has found nothing yet
    begun-gave : (m : Mounted) (lane : ℕ) (op : Op) → MachineGave h place x op (machine_of m lane op)
    begun-gave m lane (ops.OpenFile slot mode path) = tt
    begun-gave m lane (ops.Read slot offset count) = tt
    begun-gave m lane (ops.Write slot offset bytes) = tt
    begun-gave m lane (ops.Fill slot offset count byte) = tt
    begun-gave m lane (ops.Put path offset bytes) = tt
    begun-gave m lane (ops.Sync slot) = tt
    begun-gave m lane (ops.Close slot) = tt
    begun-gave m lane (ops.Truncate slot size) = tt
    begun-gave m lane (ops.Stat path) = tt
    begun-gave m lane (ops.Access path bits) = tt
    begun-gave m lane (ops.MakeDir path) = tt
    begun-gave m lane (ops.RemoveDir path) = tt
    begun-gave m lane (ops.Remove path) = ((path, refl), tt)
    begun-gave m lane (ops.Rename from to) = tt
    begun-gave m lane (ops.Link from to) = tt
    begun-gave m lane (ops.SymLink path target) = tt
    begun-gave m lane (ops.ReadLink path) = tt
    begun-gave m lane (ops.List path) = tt

  -- ---- steps that take what came

  -- with a place, at or after which each call that still waits was first sent
  abbrev FromSo : ℕ → ℕ → RemoveFile → Type 0
  FromSo others was m = FromPlace h others was (λ n. RemovalGave h n x m)

  here : (others was : ℕ) (m : RemoveFile) → was ≤ length h → RemovalGave h was x m → FromSo others was m
  here others was m within k = record { place = was; within = within; fits = inl (omega arith); holds = k }

  last : (others was : ℕ) (m : RemoveFile) → others ≡ 0 → RemovalGave h (length h) x m → FromSo others was m
  last others was m none k = record { place = length h; within = omega arith; fits = inr none; holds = k }

  plan-gave : (place : ℕ) (is_open : Bool) (d name file : List ℕ) (counter : ℕ) → Gave h x (length h) d name file
      → DeedGave h place x d name (removals.deed_of file (plan_of is_open counter))
  plan-gave place true d name file counter found = found
  plan-gave place false d name file counter found = tt

  plans : (place : ℕ) (is_open : Bool) (file : List ℕ) (m : RemoveFile) (room : Bool) (old : Shelf) (next : Step) (new : RemoveFile) (after : Shelf)
      → Gave h x (length h) m.walk.spot.dir m.name file → removals.Plans is_open file m room old next new after → RemovalGave h place x new
  plans place is_open file m room old next new after found p =
      has-as place (removals.asked_after m (removals.deed_of file (plan_of is_open old.counter)) room) new p.machine_is
      (plan-gave place is_open m.walk.spot.dir m.name file old.counter found)

  looked : (place : ℕ) (again : Bool) (told : Result (List ℕ) Fault) (m : RemoveFile) (room : Bool) (old : Shelf) (next : Step) (new : RemoveFile) (after : Shelf)
      → ((file : List ℕ) → told ≡ Ok file → Gave h x (length h) m.walk.spot.dir m.name file) → removals.FollowsLook again told m room old next new after → RemovalGave h place x m
      → RemovalGave h place x new
  looked place true told m room old next new after found f k = has-as place m new f.machine_is k
  looked place false (Ok file) m room old next new after found f k = plans place f.is_open file m room old next new after (found file refl) f.plans
  looked place false (Err fault) m room old next new after found f k = has-as place m new f.machine_is k

  missed : (missing : Bool) (file to : List ℕ) (m : RemoveFile) (room : Bool) (new : RemoveFile) → Gave h x (length h) m.walk.spot.dir m.name file
      → new ≡ removals.missed_after missing file to m room → RemovalGave h (length h) x m → RemovalGave h (length h) x new
  missed true file to m room new found is k = has-as (length h) (removals.asked_after m (Move file to) room) new is found
  missed false file to m room new found is k = has-as (length h) m new is k

  sought : (again : Bool) (told : Result (List ℕ) Fault) (file to : List ℕ) (m : RemoveFile) (room : Bool) (old : Shelf) (next : Step) (new : RemoveFile) (after : Shelf)
      → Gave h x (length h) m.walk.spot.dir m.name file → removals.FollowsSeek again told file to m room old next new after → RemovalGave h (length h) x m → RemovalGave h (length h) x new
  sought true told file to m room old next new after found f k = has-as (length h) m new f.machine_is k
  sought false (Ok other) file to m room old next new after found f k = plans (length h) true file m room old next new after found f
  sought false (Err fault) file to m room old next new after found f k = missed (removals.is_missing fault) file to m room new found f.machine_is k

  deed-takes : (others place : ℕ) (deed : Deed) (m : RemoveFile) (sent turn : Turn) (came : Result Reply Fault) (old : Shelf) (next : Step) (new : RemoveFile) (after : Shelf) (call : Call)
      → place ≤ length h → others ≡ 0 → m.deed ≡ Some deed → call ≡ removals.call_of m deed → IsSince h x came call → removals.TakesDeed deed m sent turn came old next new after
      → RemovalGave h place x m → FromSo others place new
  deed-takes others place Look m sent turn came old next new after call within none is e since t k =
      here others place new within
      (looked place (look_again sent turn came old) (found_by came) m turn.room t.heard next new after
      (λ file is. gave-from h x m.walk.spot.dir m.name came call file e since is) t.follows k)
  deed-takes others place (Seek file to) m sent turn came old next new after call within none is e since t k =
      let found : Gave h x (length h) m.walk.spot.dir m.name file = subst (λ (o : Option Deed). SomeGave h place x m.walk.spot.dir m.name o) is k in
      last others place new none
      (sought (look_again sent turn came old) (found_by came) file to m turn.room t.heard next new after found t.follows
      (subst (λ (o : Option Deed). SomeGave h (length h) x m.walk.spot.dir m.name o) (sym is) found))
  deed-takes others place (Move file to) m sent turn came old next new after call within none is e since t k = here others place new within (has-as place m new t.0 k)
  deed-takes others place Remove m sent turn came old next new after call within none is e since t k = here others place new within (has-as place m new t.0 k)

  takes-if : (asked : Bool) (others place : ℕ) (deed : Deed) (m : RemoveFile) (sent turn : Turn) (came : Result Reply Fault) (old : Shelf) (next : Step) (new : RemoveFile) (after : Shelf)
      (call : Call) → place ≤ length h → one_if asked ≡ others + 1 → m.deed ≡ Some deed → call ≡ removals.call_of m deed → IsSince h x came call
      → removals.TakesIf asked deed m sent turn came old next new after → RemovalGave h place x m → FromSo others place new
  takes-if true others place deed m sent turn came old next new after call within one is e since t k =
      deed-takes others place deed m sent turn came old next new after call within (omega (arith, one)) is e since t k
  takes-if false others place deed m sent turn came old next new after call within one is e since t k = here others place new within (has-as place m new t.machine_is k)

  removal-takes : (deed : Option Deed) (others place : ℕ) (m : RemoveFile) (sent turn : Turn) (came : Result Reply Fault) (old : Shelf) (next : Step) (new : RemoveFile) (after : Shelf)
      (call : Call) → place ≤ length h → m.deed ≡ deed → in_flight (machines.Name (names.Remove m)) ≡ others + 1 → RemoveAwaits deed m call → IsSince h x came call
      → removals.Takes deed m sent turn came old next new after → RemovalGave h place x m → FromSo others place new
  removal-takes (Some deed) others place m sent turn came old next new after call within is one e since t k =
      takes-if m.asked others place deed m sent turn came old next new after call within
      (sym (ap (λ (o : Option Deed). in_flight (machines.Name (names.Remove (record m { deed = o })))) is) ∙ one) is e since t k
  removal-takes None others place m sent turn came old next new after call within is one e since t k =
      here others place new within
      (follows place t.step turn.room t.walked after.opens next new t.follows (none-yet place t.walked (ap (λ (w : RemoveFile). w.deed) t.walked_is ∙ is)))

  abbrev From : ℕ → ℕ → Op → Machine → Type 0
  From others was op m = FromPlace h others was (λ n. MachineGave h n x op m)

  plainly : (others place : ℕ) (op : Op) (m : Machine) → place ≤ length h → MachineGave h place x op m → From others place op m
  plainly others place op m within k = record { place = place; within = within; fits = inl (omega arith); holds = k }

  from-as : (others place : ℕ) (op : Op) (to new : Machine) → new ≡ to → From others place op to → From others place op new
  from-as others place op to new is f = subst (From others place op) (sym is) f

  plain-name : (others place : ℕ) (op : Op) (to new : NameMachine) → new ≡ to → place ≤ length h → NameGave h place x op to → From others place op (machines.Name new)
  plain-name others place op to new is within k = plainly others place op (machines.Name new) within (name-as place op to new is k)

  of-removal : (others place : ℕ) (op : Op) (m : RemoveFile) → IsRemoving op → FromSo others place m → From others place op (machines.Name (names.Remove m))
  of-removal others place op m of f = record { place = f.place; within = f.within; fits = f.fits; holds = (of, f.holds) }

  name-takes : (others place : ℕ) (op : Op) (m : NameMachine) (sent turn : Turn) (came : Result Reply Fault) (old : Shelf) (next : Step) (new : NameMachine) (after : Shelf) (call : Call)
      → place ≤ length h → in_flight (machines.Name m) ≡ others + 1 → NameAwaits m call → IsSince h x came call → steps.NameTakes m sent turn came old next new after
      → NameGave h place x op m → From others place op (machines.Name new)
  name-takes others place op (names.Change m) sent turn came old next new after call within one e since t k =
      plain-name others place op _ new t.machine_is within tt
  name-takes others place op (names.Stat m) sent turn came old next new after call within one e since t k =
      plain-name others place op _ new t.machine_is within tt
  name-takes others place op (names.Access m) sent turn came old next new after call within one e since t k =
      plain-name others place op _ new t.machine_is within tt
  name-takes others place op (names.ReadLink m) sent turn came old next new after call within one e since t k =
      plain-name others place op _ new t.machine_is within tt
  name-takes others place op (names.Remove m) sent turn came old next new after call within one e since t k =
      from-as others place op (machines.Name (names.Remove t.machine)) (machines.Name new) (ap machines.Name t.machine_is)
      (of-removal others place op t.machine k.0 (removal-takes m.deed others place m sent turn came old next t.machine after call within refl one e since t.step k.1))
  name-takes others place op (names.Rename m) sent turn came old next new after call within one e since t k =
      plain-name others place op _ new t.machine_is within tt
  name-takes others place op (names.Link m) sent turn came old next new after call within one e since t k =
      plain-name others place op _ new t.machine_is within tt
  name-takes others place op (names.SymLink m) sent turn came old next new after call within one e since t k =
      plain-name others place op _ new t.machine_is within tt
  name-takes others place op (names.List m) sent turn came old next new after call within one e since t k =
      plain-name others place op _ new t.machine_is within tt

  takes-gave : (others place : ℕ) (op : Op) (wsize : ℕ) (m : Machine) (sent turn : Turn) (came : Result Reply Fault) (old : Shelf) (next : Step) (new : Machine) (after : Shelf) (call : Call)
      → place ≤ length h → in_flight m ≡ others + 1 → Awaits m call → IsSince h x came call → Takes wsize m sent turn came old next new after → MachineGave h place x op m
      → From others place op new
  takes-gave others place op wsize (machines.File m) sent turn came old next new after call within one e since t k =
      from-as others place op (machines.File t.machine) new t.machine_is (plainly others place op (machines.File t.machine) within tt)
  takes-gave others place op wsize (machines.Path m) sent turn came old next new after call within one e since t k =
      from-as others place op (machines.Path t.machine) new t.machine_is (plainly others place op (machines.Path t.machine) within tt)
  takes-gave others place op wsize (machines.Name m) sent turn came old next new after call within one e since t k =
      from-as others place op (machines.Name t.machine) new t.machine_is (name-takes others place op m sent turn came old next t.machine after call within one e since t.step k)

-- ---- with more in the history

deed-later : (h : List Entry) (e : Entry) (place x : ℕ) (d name : List ℕ) (deed : Deed) → DeedGave h place x d name deed → DeedGave (h ++ e ∷ []) place x d name deed
deed-later h e place x d name Look k = tt
deed-later h e place x d name (Seek file to) k = let more = length_last h e in gave-grow h (e ∷ []) x (length h) (length (h ++ e ∷ [])) d name file (omega (arith, more)) k
deed-later h e place x d name (Move file to) k = gave-grow h (e ∷ []) x place place d name file (omega arith) k
deed-later h e place x d name Remove k = tt

some-later : (h : List Entry) (e : Entry) (place x : ℕ) (d name : List ℕ) (deed : Option Deed) → SomeGave h place x d name deed → SomeGave (h ++ e ∷ []) place x d name deed
some-later h e place x d name None k = tt
some-later h e place x d name (Some deed) k = deed-later h e place x d name deed k

name-later : (h : List Entry) (e : Entry) (place x : ℕ) (op : Op) (m : NameMachine) → NameGave h place x op m → NameGave (h ++ e ∷ []) place x op m
name-later h e place x op (names.Remove m) k = (k.0, some-later h e place x m.walk.spot.dir m.name m.deed k.1)
name-later h e place x op (names.Change m) k = tt
name-later h e place x op (names.Stat m) k = tt
name-later h e place x op (names.Access m) k = tt
name-later h e place x op (names.ReadLink m) k = tt
name-later h e place x op (names.Rename m) k = tt
name-later h e place x op (names.Link m) k = tt
name-later h e place x op (names.SymLink m) k = tt
name-later h e place x op (names.List m) k = tt

machine-later : (h : List Entry) (e : Entry) (place x : ℕ) (op : Op) (m : Machine) → MachineGave h place x op m → MachineGave (h ++ e ∷ []) place x op m
machine-later h e place x op (machines.File m) k = tt
machine-later h e place x op (machines.Path m) k = tt
machine-later h e place x op (machines.Name m) k = name-later h e place x op m k

-- ---- along a history

abbrev NoShelf : List Entry → Shelf → Type 0
NoShelf h shelf = Unit {0}

abbrev NoAnswer : List Entry → ℕ → Op → Answer → Type 0
NoAnswer h x op answer = Unit {0}

then-so : (H : Machine → Type 0) (A : Answer → Type 0) (next : Step) (new : Machine) → H new → ((answer : Answer) → A answer) → ThenOf H A next new
then-so H A (nexts.Send call) new k a = k
then-so H A nexts.Wait new k a = k
then-so H A (nexts.Done answer) new k a = a answer

no-shelf : ShelfLaws Awaits NoShelf
no-shelf = record {
  starts = λ h machine wsize turn old next new after s k. tt;
  resumes = λ h machine wsize turn old next new after r k. tt;
  takes = λ h machine call wsize sent turn came old next new after e told t k. tt;
  grows = λ h e shelf k. tt;
}

gave-laws : (m : Mounted) → FollowLaws (machine_of m) Awaits NoShelf MachineGave NoAnswer
gave-laws m = record {
  shelf = no-shelf;
  starts = λ h lane line op wsize turn old next new after kept late s.
      let later : List Entry = h ++ Began lane line op ∷ [] in
      then-so (MachineGave later (length h) (length h) op) (NoAnswer later (length h) op) next new
      (starts-gave later (length h) (length h) op wsize (machine_of m lane op) turn old next new after s (begun-gave later (length h) (length h) m lane op)) (λ answer. tt);
  resumes = λ h place x op machine wsize turn old next new after kept within late story r.
      then-so (MachineGave h place x op) (NoAnswer h x op) next new (resumes-gave h x place op wsize machine turn old next new after r story) (λ answer. tt);
  takes = λ h place x op machine call wsize sent turn came old next new after others before kept within low late one story e told t.
      then-so (λ k. FromPlace h others place (λ n. MachineGave h n x op k)) (NoAnswer h x op) next new
      (takes-gave h x others place op wsize machine sent turn came old next new after call low one e
      (λ reply is. asked-by h x (length h) call reply (told reply is).ends) t story) (λ answer. tt);
  grows = λ h e place x op machine story. machine-later h e place x op machine story;
  stays = λ h e x op answer quiet k. tt;
  lost = λ h x op shown. tt;
}

-- what is known of an operation under way, with a place at or after which each call of it that waits was first sent
pub record GaveBefore (h : List Entry) (v : View) (number x : ℕ) (op : Op) (machine : Machine) : Type 0 where
  pub place : ℕ
  pub gave : MachineGave h place x op machine
  pub sent : (xid : ℕ) (w : Waiting Purpose) → waiting_at xid v.calls.calls ≡ Some w → w.purpose.lane ≡ number → IsAfter h xid place

pub reached-gave : (m : Mounted) (setup : Setup) (h : List Entry) (v : View) → Reaches (machine_of m) setup h v → (at number : ℕ) (machine : Machine)
    → slice_get v.lanes at ≡ Some (record { number = number; state = Busy machine }) → (x : ℕ) (op : Op) → UnderWay h number x (length h) op → GaveBefore h v number x op machine
reached-gave m setup h v r at number machine there x op u =
    let k = (reached-known m setup Awaits awaits-asks NoShelf MachineGave NoAnswer (gave-laws m) (λ g w new. tt) h v r).lanes at (record { number = number; state = Busy machine }) there in
    let held = k.1 x op u in
    record { place = held.place; gave = held.story; sent = held.sent }
