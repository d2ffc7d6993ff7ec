-- A remove, step by step: its walk leads along its path, and then it does one thing after another there.
use Rattle.core_answers.proofs.Prelude.{◌≡◌, ℕ, Bool, true, false, List, [], ◌∷◌, ◌++◌, length, Option, Some, None, Result, Ok, Err, refl, sym, ap, subst, ◌∙◌, arith, Attr, DirKept, eqb-true, Opens, Fault, Entry, Call, Reply, Asked, Asked-grow, Asked-wide, length_last, Step, Shelf, Turn, Deed, Look, Seek, Move, Remove, RemoveFile, Walk, WalkStep, found_by, look_again, Machine, NameMachine, WalkMoves, go-step, took-step, NamesTold, WalkLeads, walk-later, go-leads, took-leads, IsHeard, RemoveAwaits}
use Rattle.world_model.specs.Heard.{status_of}
use Rattle.name_ops.specs.Looking.{look_up}
use Rattle.core_facts.proofs.Tales.{IsWhy}
use Rattle.nfs_dir_calls.specs.declared.keeping.DirKept.TheVariants as kept
use Rattle.silly_rename.specs.Plans.{plan_of}
use Rattle.world_model.specs.declared.answer.Fault.TheVariants as faults
use Rattle.world_model.specs.declared.message.Reply.TheVariants as replies
use Rattle.claims.specs.Hidden.{IsHidden}
use Rattle.name_ops.specs.declared.walk.WalkStep.TheVariants as walks
use Rattle.name_ops.specs.RemoveFile as removals
use Rattle.name_ops.specs.Walking as walking
use Rattle.op_machines.specs.declared.machine.Machine.TheVariants as machines
use Rattle.op_machines.specs.declared.name_machine.NameMachine.TheVariants as names
use Rattle.op_machines.specs.NameSteps as steps
use Rattle.core_answers.proofs.asks.HiddenNames.{silly-hidden}

-- a LOOKUP of the name since the place x gave the file
pub record IsFound (h : List Entry) (x : ℕ) (d name file : List ℕ) : Type 0 where
  pub attr : Option Attr
  pub dir : Option Attr
  pub asked : Asked h x (length h) (look_up d name) (replies.Dir (kept.Lookup file attr dir))

found-later : (h : List Entry) (e : Entry) (x : ℕ) (d name file : List ℕ) → IsFound h x d name file → IsFound (h ++ e ∷ []) x d name file
found-later h e x d name file k =
    let more = length_last h e in
    record {
      attr = k.attr;
      dir = k.dir;
      asked = Asked-wide (h ++ e ∷ []) x (length h) x (length (h ++ e ∷ [])) (look_up d name) (replies.Dir (kept.Lookup file k.attr k.dir)) (omega arith) (omega (arith, more))
          (Asked-grow h (e ∷ []) x (length h) (look_up d name) (replies.Dir (kept.Lookup file k.attr k.dir)) k.asked);
    }

-- what came of the call was told since then
abbrev pub IsSince : List Entry → ℕ → Result Reply Fault → Call → Type 0
IsSince h x came call = (reply : Reply) → came ≡ Ok reply → Asked h x (length h) call reply

found-from : (h : List Entry) (x : ℕ) (d name : List ℕ) (came : Result Reply Fault) (call : Call) (file : List ℕ) → call ≡ look_up d name → IsSince h x came call → found_by came ≡ Ok file
    → IsFound h x d name file
found-from h x d name (Ok (replies.Dir reply)) call file this heard is = by reply refl is
  where
    by : (r : DirKept) → r ≡ reply → found_by (Ok (replies.Dir r)) ≡ Ok file → IsFound h x d name file
    by (kept.Lookup object attr dir) same e =
        let its : object ≡ file = cc in
        record {
          attr = attr;
          dir = dir;
          asked = subst (λ (f : List ℕ). Asked h x (length h) (look_up d name) (replies.Dir (kept.Lookup f attr dir))) its
              (subst (λ (c : Call). Asked h x (length h) c (replies.Dir (kept.Lookup object attr dir))) this
              (heard (replies.Dir (kept.Lookup object attr dir)) (ap (λ (r : DirKept). Ok (replies.Dir r)) (sym same))));
        }
    by (kept.LookupFail status dir) same e = absurd (cc)
    by r same e = absurd (cc)
found-from h x d name (Ok (replies.File reply)) call file this heard is = absurd (cc)
found-from h x d name (Ok (replies.Mount reply)) call file this heard is = absurd (cc)
found-from h x d name (Err fault) call file this heard is = absurd (cc)

-- a LOOKUP of the name since the place x found nothing: NFS3ERR_NOENT, 2
pub record IsFree (h : List Entry) (x : ℕ) (d name : List ℕ) : Type 0 where
  pub reply : Reply
  pub asked : Asked h x (length h) (look_up d name) reply
  pub none : status_of reply ≡ 2

free-later : (h : List Entry) (e : Entry) (x : ℕ) (d name : List ℕ) → IsFree h x d name → IsFree (h ++ e ∷ []) x d name
free-later h e x d name k =
    let more = length_last h e in
    record {
      reply = k.reply;
      asked = Asked-wide (h ++ e ∷ []) x (length h) x (length (h ++ e ∷ [])) (look_up d name) k.reply (omega arith) (omega (arith, more))
          (Asked-grow h (e ∷ []) x (length h) (look_up d name) k.reply k.asked);
      none = k.none;
    }

-- why no reply came of the call was told since then
abbrev pub IsWhySince : List Entry → ℕ → Result Reply Fault → Call → Type 0
IsWhySince h x came call = (fault : Fault) → came ≡ Err fault → IsWhy h x call fault

none-there : (fault : Fault) → removals.is_missing fault ≡ true → fault ≡ faults.Nfs 2
none-there (faults.Nfs status) is = ap faults.Nfs (eqb-true status 2 is)
none-there fault is = absurd (cc)

free-from : (h : List Entry) (x : ℕ) (d name : List ℕ) (came : Result Reply Fault) (call : Call) → call ≡ look_up d name → IsSince h x came call → IsWhySince h x came call
    → found_by came ≡ Err (faults.Nfs 2) → IsFree h x d name
free-from h x d name (Ok (replies.Dir reply)) call this heard why is = by reply refl is
  where
    by : (r : DirKept) → r ≡ reply → found_by (Ok (replies.Dir r)) ≡ Err (faults.Nfs 2) → IsFree h x d name
    by (kept.LookupFail status dir) same e = record {
      reply = replies.Dir (kept.LookupFail status dir);
      asked = subst (λ (c : Call). Asked h x (length h) c (replies.Dir (kept.LookupFail status dir))) this
          (heard (replies.Dir (kept.LookupFail status dir)) (ap (λ (r : DirKept). Ok (replies.Dir r)) (sym same)));
      none = cc;
    }
    by (kept.Lookup object attr dir) same e = absurd (cc)
    by r same e = absurd (cc)
free-from h x d name (Ok (replies.File reply)) call this heard why is = absurd (cc)
free-from h x d name (Ok (replies.Mount reply)) call this heard why is = absurd (cc)
free-from h x d name (Err fault) call this heard why is =
    let same : fault ≡ faults.Nfs 2 = cc in
    let w = why (faults.Nfs 2) (ap (λ (f : Fault). Err f) same) in
    record {
      reply = w.refuses.0;
      asked = subst (λ (c : Call). Asked h x (length h) c w.refuses.0) this (record { xid = w.xid; bytes = w.bytes; heard = w.heard; spells = w.refuses.1 });
      none = w.refuses.2;
    }

-- The name that it looks up or takes is a hidden one, for the file that was found; one that it takes nothing has.
abbrev pub IsFineOf : List Entry → ℕ → List ℕ → List ℕ → Deed → Type 0
IsFineOf h x last d Look = Unit {0}
IsFineOf h x last d (Seek file to) = IsHidden to × IsFound h x d last file
IsFineOf h x last d (Move file to) = IsHidden to × IsFound h x d last file × IsFree h x d to
IsFineOf h x last d Remove = Unit {0}

module _ (top : List ℕ) (h : List Entry) (x : ℕ) (front : List (List ℕ)) (last : List ℕ) where
  abbrev IsFine : List ℕ → Deed → Type 0
  IsFine d deed = IsFineOf h x last d deed

  -- what it does, it does at the end of its walk
  abbrev pub HasDeed : Option Deed → Walk → Type 0
  HasDeed None w = Unit {0}
  HasDeed (Some deed) w = IsFine w.spot.dir deed × (walking.next_name w ≡ None)

  first-fine : (d : List ℕ) (any : Bool) → IsFine d (removals.first_deed any)
  first-fine d true = tt
  first-fine d false = tt

  plan-fine : (is_open : Bool) (d file : List ℕ) (counter : ℕ) → IsFound h x d last file → IsFine d (removals.deed_of file (plan_of is_open counter))
  plan-fine true d file counter found = (silly-hidden counter, found)
  plan-fine false d file counter found = tt

  pub record IsRemove (m : RemoveFile) : Type 0 where
    pub name_is : m.name ≡ last
    pub walk : WalkLeads top h front m.walk
    pub deed : HasDeed m.deed m.walk

  pub record RemoveRuns (machine : Machine) : Type 0 where
    pub m : RemoveFile
    pub is : machine ≡ machines.Name (names.Remove m)
    pub story : IsRemove m

  remove-as : (to new : RemoveFile) → new ≡ to → IsRemove to → IsRemove new
  remove-as to new is k = subst IsRemove (sym is) k

  does : (deed : Deed) (room : Bool) (m : RemoveFile) → IsRemove m → IsFine m.walk.spot.dir deed → walking.next_name m.walk ≡ None → IsRemove (removals.asked_after m deed room)
  does deed room m k fine none = record { name_is = k.name_is; walk = k.walk; deed = (fine, none) }

  follows : (step : WalkStep) (room : Bool) (m : RemoveFile) (opens : Opens) (next : Step) (new : RemoveFile) → WalkMoves step m.walk → IsRemove m
      → removals.Follows step room m opens next new → IsRemove new
  follows (walks.Send call) room m opens next new s k f = remove-as m new f.1 k
  follows walks.Wait room m opens next new s k f = remove-as m new f.1 k
  follows (walks.At dir) room m opens next new s k f =
      remove-as (removals.asked_after m (removals.first_deed f.any) room) new f.machine_is (does (removals.first_deed f.any) room m k (first-fine m.walk.spot.dir f.any) s.1)
  follows (walks.Refused fault) room m opens next new s k f = remove-as m new f.1 k

  -- what it has at hand
  has : (m : RemoveFile) (deed : Deed) → m.deed ≡ Some deed → IsRemove m → IsFine m.walk.spot.dir deed × (walking.next_name m.walk ≡ None)
  has m deed is k = subst (λ (o : Option Deed). HasDeed o m.walk) is k.deed

  none-yet : (w : Walk) (o : Option Deed) → o ≡ None → HasDeed o w
  none-yet w o is = subst (λ (d : Option Deed). HasDeed d w) (sym is) tt

  goes : (deed : Option Deed) (m : RemoveFile) (turn : Turn) (old : Shelf) (next : Step) (new : RemoveFile) (after : Shelf) → m.deed ≡ deed → NamesTold h old.names → IsRemove m
      → removals.Goes deed m turn old next new after → IsRemove new
  goes (Some deed) m turn old next new after is t k g =
      let k_has = has m deed is k in
      remove-as (removals.asked_after m deed turn.room) new g.machine_is (does deed turn.room m k k_has.0 k_has.1)
  goes None m turn old next new after is t k g =
      follows (walking.go_next m.walk turn old) turn.room (record m { walk = walking.go_after m.walk turn old }) old.opens next new (go-step m.walk turn old)
      (record { name_is = k.name_is; walk = go-leads top h front m.walk turn old t k.walk; deed = none-yet (walking.go_after m.walk turn old) m.deed is }) g.follows

  resumes : (asked : Bool) (m : RemoveFile) (turn : Turn) (old : Shelf) (next : Step) (new : RemoveFile) (after : Shelf) → NamesTold h old.names → IsRemove m
      → removals.Resumes asked m turn old next new after → IsRemove new
  resumes true m turn old next new after t k r = remove-as m new r.machine_is k
  resumes false m turn old next new after t k r = goes m.deed m turn old next new after refl t k r

  plans : (is_open : Bool) (file : List ℕ) (m : RemoveFile) (room : Bool) (old : Shelf) (next : Step) (new : RemoveFile) (after : Shelf) → IsRemove m → walking.next_name m.walk ≡ None
      → IsFound h x m.walk.spot.dir last file → removals.Plans is_open file m room old next new after → IsRemove new
  plans is_open file m room old next new after k none found p =
      let deed : Deed = removals.deed_of file (plan_of is_open old.counter) in
      remove-as (removals.asked_after m deed room) new p.machine_is (does deed room m k (plan-fine is_open m.walk.spot.dir file old.counter found) none)

  looked : (again : Bool) (told : Result (List ℕ) Fault) (m : RemoveFile) (room : Bool) (old : Shelf) (next : Step) (new : RemoveFile) (after : Shelf) → IsRemove m
      → walking.next_name m.walk ≡ None → ((file : List ℕ) → told ≡ Ok file → IsFound h x m.walk.spot.dir last file) → removals.FollowsLook again told m room old next new after → IsRemove new
  looked true told m room old next new after k none found f = remove-as m new f.machine_is k
  looked false (Ok file) m room old next new after k none found f = plans f.is_open file m room old next new after k none (found file refl) f.plans
  looked false (Err fault) m room old next new after k none found f = remove-as m new f.machine_is k

  missed : (missing : Bool) (file to : List ℕ) (m : RemoveFile) (room : Bool) (new : RemoveFile) → IsRemove m → IsHidden to × IsFound h x m.walk.spot.dir last file → walking.next_name m.walk ≡ None
      → (missing ≡ true → IsFree h x m.walk.spot.dir to) → new ≡ removals.missed_after missing file to m room → IsRemove new
  missed true file to m room new k hidden none free is = remove-as (removals.asked_after m (Move file to) room) new is (does (Move file to) room m k (hidden.0, hidden.1, free refl) none)
  missed false file to m room new k hidden none free is = remove-as m new is k

  sought : (again : Bool) (told : Result (List ℕ) Fault) (file to : List ℕ) (m : RemoveFile) (room : Bool) (old : Shelf) (next : Step) (new : RemoveFile) (after : Shelf) → IsRemove m
      → IsHidden to × IsFound h x m.walk.spot.dir last file → walking.next_name m.walk ≡ None
      → ((fault : Fault) → told ≡ Err fault → removals.is_missing fault ≡ true → IsFree h x m.walk.spot.dir to) → removals.FollowsSeek again told file to m room old next new after → IsRemove new
  sought true told file to m room old next new after k hidden none free f = remove-as m new f.machine_is k
  sought false (Ok found) file to m room old next new after k hidden none free f = plans true file m room old next new after k none hidden.1 f
  sought false (Err fault) file to m room old next new after k hidden none free f =
      missed (removals.is_missing fault) file to m room new k hidden none (free fault refl) f.machine_is

  deed-takes : (deed : Deed) (m : RemoveFile) (sent turn : Turn) (came : Result Reply Fault) (old : Shelf) (next : Step) (new : RemoveFile) (after : Shelf) (call : Call) → IsRemove m
      → IsFine m.walk.spot.dir deed → walking.next_name m.walk ≡ None → call ≡ removals.call_of m deed → IsSince h x came call → IsWhySince h x came call → removals.TakesDeed deed m sent turn came old next new after
      → IsRemove new
  deed-takes Look m sent turn came old next new after call k fine none e since why t =
      looked (look_again sent turn came old) (found_by came) m turn.room t.heard next new after k none
      (λ file is. found-from h x m.walk.spot.dir last came call file (e ∙ ap (look_up m.walk.spot.dir) k.name_is) since is) t.follows
  deed-takes (Seek file to) m sent turn came old next new after call k fine none e since why t =
      sought (look_again sent turn came old) (found_by came) file to m turn.room t.heard next new after k fine none
      (λ fault is missing. free-from h x m.walk.spot.dir to came call e since why (is ∙ ap (λ (f : Fault). Err f) (none-there fault missing))) t.follows
  deed-takes (Move file to) m sent turn came old next new after call k fine none e since why t = remove-as m new t.0 k
  deed-takes Remove m sent turn came old next new after call k fine none e since why t = remove-as m new t.0 k

  takes-if : (asked : Bool) (deed : Deed) (m : RemoveFile) (sent turn : Turn) (came : Result Reply Fault) (old : Shelf) (next : Step) (new : RemoveFile) (after : Shelf) (call : Call) → IsRemove m
      → IsFine m.walk.spot.dir deed → walking.next_name m.walk ≡ None → call ≡ removals.call_of m deed → IsSince h x came call → IsWhySince h x came call
      → removals.TakesIf asked deed m sent turn came old next new after → IsRemove new
  takes-if true deed m sent turn came old next new after call k fine none e since why t = deed-takes deed m sent turn came old next new after call k fine none e since why t
  takes-if false deed m sent turn came old next new after call k fine none e since why t = remove-as m new t.machine_is k

  takes : (deed : Option Deed) (m : RemoveFile) (sent turn : Turn) (came : Result Reply Fault) (old : Shelf) (next : Step) (new : RemoveFile) (after : Shelf) (call : Call) → m.deed ≡ deed
      → NamesTold h old.names → IsRemove m → RemoveAwaits deed m call → IsSince h x came call → IsWhySince h x came call → IsHeard top h came call → removals.Takes deed m sent turn came old next new after → IsRemove new
  takes (Some deed) m sent turn came old next new after call is told k e since why heard t =
      let k_has = has m deed is k in
      takes-if m.asked deed m sent turn came old next new after call k k_has.0 k_has.1 e since why t
  takes None m sent turn came old next new after call is told k e since why heard t =
      follows t.step turn.room t.walked after.opens next new (took-step m.walk sent turn came old t.step t.walked.walk after t.takes) (record {
        name_is = ap (λ (w : RemoveFile). w.name) t.walked_is ∙ k.name_is;
        walk = took-leads top h front m.walk sent turn came old t.step t.walked.walk after call told k.walk e heard t.takes;
        deed = none-yet t.walked.walk t.walked.deed (ap (λ (w : RemoveFile). w.deed) t.walked_is ∙ is);
      }) t.follows

  pub remove-goes : (m : RemoveFile) (turn : Turn) (old : Shelf) (next : Step) (new : NameMachine) (after : Shelf) → NamesTold h old.names → IsRemove m
      → steps.RemoveGoes m turn old next new after → RemoveRuns (machines.Name new)
  remove-goes m turn old next new after t k g = record { m = g.machine; is = ap machines.Name g.machine_is; story = resumes m.asked m turn old next g.machine after t k g.step }

  pub remove-takes : (m : RemoveFile) (sent turn : Turn) (came : Result Reply Fault) (old : Shelf) (next : Step) (new : NameMachine) (after : Shelf) (call : Call) → NamesTold h old.names
      → IsRemove m → RemoveAwaits m.deed m call → IsSince h x came call → IsWhySince h x came call → IsHeard top h came call → steps.RemoveTakes m sent turn came old next new after → RemoveRuns (machines.Name new)
  remove-takes m sent turn came old next new after call t k e since why heard g =
      record { m = g.machine; is = ap machines.Name g.machine_is; story = takes m.deed m sent turn came old next g.machine after call refl t k e since why heard g.step }

fine-later : (h : List Entry) (e : Entry) (x : ℕ) (last d : List ℕ) (deed : Deed) → IsFineOf h x last d deed → IsFineOf (h ++ e ∷ []) x last d deed
fine-later h e x last d Look k = tt
fine-later h e x last d (Seek file to) k = (k.0, found-later h e x d last file k.1)
fine-later h e x last d (Move file to) k = (k.0, found-later h e x d last file k.1, free-later h e x d to k.2)
fine-later h e x last d Remove k = tt

deed-later : (top : List ℕ) (h : List Entry) (e : Entry) (x : ℕ) (front : List (List ℕ)) (last : List ℕ) (deed : Option Deed) (w : Walk) → HasDeed top h x front last deed w
    → HasDeed top (h ++ e ∷ []) x front last deed w
deed-later top h e x front last None w k = tt
deed-later top h e x front last (Some deed) w k = (fine-later h e x last w.spot.dir deed k.0, k.1)

pub remove-later : (top : List ℕ) (h : List Entry) (e : Entry) (x : ℕ) (front : List (List ℕ)) (last : List ℕ) (machine : Machine) → RemoveRuns top h x front last machine
    → RemoveRuns top (h ++ e ∷ []) x front last machine
remove-later top h e x front last machine k = record {
  m = k.m;
  is = k.is;
  story = record {
    name_is = k.story.name_is;
    walk = walk-later top h e front k.m.walk k.story.walk;
    deed = deed-later top h e x front last k.m.deed k.m.walk k.story.deed;
  };
}
