-- What holds of each kept name goes on holding after a step, if it holds of what a LOOKUP was answered with.
use Rattle.core_facts.proofs.Prelude.{◌≡◌, ◌||◌, ℕ, zero, suc, Bool, true, false, List, Option, Some, None, Result, Ok, Err, inl, inr, refl, sym, ap, subst, ◌∙◌, if◌then◌else◌, Attr, DirKept, Fault, Value, Call, Reply, Step, Shelf, Turn, Link, ListDir, Pair, PairStep, Deed, Look, Seek, Move, RemoveFile, Rename, Stat, SymLink, Visit, Walk, WalkStep, link_call, TakesLink, look_up, found_by, look_again, moved_told, text_call, TakesText, rename_call, TakesRename, TakesShow, sym_link_call, sym_linked_told, ChangesByCopy, TakesSymLink, NameMachine, access_call, deed_call}
use Rattle.std.proofs.Common.{All}
use Rattle.name_ops.specs.declared.remove_file.Deed.TheVariants.{Remove}
use Rattle.name_ops.specs.Looking.{LookedNames}
use Rattle.attr_cache.specs.Attrs as attrs
use Rattle.name_cache.specs.declared.entry.KeptName.{KeptName}
use Rattle.name_cache.specs.declared.entry.Place.{Place}
use Rattle.name_cache.specs.Names as names
use Rattle.name_cache.proofs.Entries.{All-after_look, All-learnt, All-without_dir}
use Rattle.nfs_types.specs.Stamps.{stamp_of}
use Rattle.nfs_dir_calls.specs.declared.keeping.DirKept.TheVariants as kept
use Rattle.world_model.specs.declared.message.Reply.TheVariants as replies
use Rattle.client_shelf.specs.Learning.{LearnsName}
use Rattle.client_shelf.specs.Unmade.{names_after}
use Rattle.name_ops.specs.declared.told.Told.{Told as ChangeTold}
use Rattle.name_ops.specs.declared.walk.WalkStep.TheVariants as walks
use Rattle.name_ops.specs.Changing as changing
use Rattle.name_ops.specs.ListDir as listing
use Rattle.name_ops.specs.Pairs as pairs
use Rattle.name_ops.specs.RemoveFile as removals
use Rattle.name_ops.specs.Stat as stats
use Rattle.name_ops.specs.Visiting as visiting
use Rattle.name_ops.specs.Walking as walking
use Rattle.op_machines.specs.declared.name_machine.NameMachine.TheVariants as machines
use Rattle.op_machines.specs.NameSteps as steps
use Rattle.core_facts.proofs.Awaited.{WalkAwaits, OwnOr, PairOr}
use Rattle.core_facts.proofs.NamesAwaited.{RemoveAwaits, NameAwaits}

module _ (P : Place × KeptName → Type 0) where
  abbrev pub Told : names.Entries → Type 0
  Told es = All P es

  -- what a LOOKUP of the name was answered with
  abbrev pub Tells : Result Reply Fault → List ℕ → List ℕ → Type 0
  Tells came dir name = (found : List ℕ) (attr : Option Attr) (dir_attr : Attr) → came ≡ Ok (replies.Dir (kept.Lookup found attr (Some dir_attr)))
      → P (record { dir = dir; name = name }, record { stamp = stamp_of dir_attr; found = found })

  pub told-as : (old new : names.Entries) → new ≡ old → Told old → Told new
  told-as old new is t = subst Told (sym is) t

  pub left-told : (unmade : Bool) (dir : List ℕ) (es : names.Entries) → Told es → Told (names_after unmade dir es)
  left-told true dir es t = t
  left-told false dir es t = All-without_dir P dir es t

  -- ---- walks

  passed-under : (o : Option Attr) (name : List ℕ) (p : walking.Passed) → Told p.names → Told (walking.passed_under o name p).names
  passed-under None name p t = t
  passed-under (Some attr) name p t = All-after_look P p.spot.dir name (stamp_of attr) p.names t

  passed-next : (o : Option (List ℕ)) (now : ℕ) (known : attrs.Attrs) (p : walking.Passed) → Told p.names → Told (walking.passed_next o now known p).names
  passed-next None now known p t = t
  passed-next (Some name) now known p t = passed-under (attrs.looked p.spot.dir now known) name p t

  pub passed-told : (n : ℕ) (path : List (List ℕ)) (now : ℕ) (known : attrs.Attrs) (p : walking.Passed) → Told p.names → Told (walking.passed n path now known p).names
  passed-told zero path now known p t = t
  passed-told (suc n) path now known p t =
      passed-next (walking.name_at path (walking.passed n path now known p).spot.left) now known (walking.passed n path now known p) (passed-told n path now known p t)

  pub on-told : (w : Walk) (turn : Turn) (known : attrs.Attrs) (es : names.Entries) → Told es → Told (walking.on_names w turn known es)
  on-told w turn known es t = passed-told w.spot.left w.path turn.now known (record { spot = w.spot; names = es }) t

  pub go-told : (w : Walk) (turn : Turn) (shelf : Shelf) → Told shelf.names → Told (walking.go_shelf w turn shelf).names
  go-told w turn shelf t = by w.asked
    where
      by : (b : Bool) → Told (if b then shelf.names else walking.on_names w turn shelf.attrs shelf.names)
      by true = t
      by false = on-told w turn shelf.attrs shelf.names t

  -- ---- the reply to a LOOKUP

  learns-told : (dir name : List ℕ) (attr : Option Attr) (found : List ℕ) (old new : names.Entries)
      → ((a : Attr) → attr ≡ Some a → P (record { dir = dir; name = name }, record { stamp = stamp_of a; found = found })) → LearnsName dir name attr found old new → Told old → Told new
  learns-told dir name None found old new p l t = told-as old new l t
  learns-told dir name (Some attr) found old new p (inl l) t =
      told-as (names.learnt dir name (stamp_of attr) found old) new l (All-learnt P dir name (stamp_of attr) found old t (p attr refl))
  learns-told dir name (Some attr) found old new p (inr l) t = told-as old new l.1 t

  looked-dir : (dir name : List ℕ) (reply : DirKept) (old new : names.Entries) → Tells (Ok (replies.Dir reply)) dir name → LookedNames dir name (Ok (replies.Dir reply)) old new → Told old → Told new
  looked-dir dir name (kept.Lookup found attr dir_attr) old new p l t = learns-told dir name dir_attr found old new (λ a is. p found attr a (ap (λ (d : Option Attr). Ok (replies.Dir (kept.Lookup found attr d))) is)) l t
  looked-dir dir name reply old new p l t = told-as old new l t

  pub looked-told : (dir name : List ℕ) (came : Result Reply Fault) (old new : names.Entries) → Tells came dir name → LookedNames dir name came old new → Told old → Told new
  looked-told dir name (Ok (replies.Dir reply)) old new p l t = looked-dir dir name reply old new p l t
  looked-told dir name (Ok (replies.File reply)) old new p l t = told-as old new l t
  looked-told dir name (Ok (replies.Mount reply)) old new p l t = told-as old new l t
  looked-told dir name (Err fault) old new p l t = told-as old new l t

  told-shelf : (told : Result (List ℕ) Fault) (w : Walk) (turn : Turn) (shelf : Shelf) → Told shelf.names → Told (walking.told_shelf w told turn shelf).names
  told-shelf (Ok found) w turn shelf t = on-told (walking.arrived w found) turn shelf.attrs shelf.names t
  told-shelf (Err fault) w turn shelf t = t

  followed-shelf : (busy : Bool) (told : Result (List ℕ) Fault) (w : Walk) (turn : Turn) (shelf : Shelf) → Told shelf.names → Told (walking.followed_shelf busy w told turn shelf).names
  followed-shelf true told w turn shelf t = t
  followed-shelf false told w turn shelf t = told-shelf told w turn shelf t

  pub shelf-as : (old new : Shelf) → new ≡ old → Told old.names → Told new.names
  shelf-as old new is t = subst (λ (s : Shelf). Told s.names) (sym is) t

  -- the call that came is a LOOKUP of this name
  abbrev pub CallTells : Result Reply Fault → Call → Type 0
  CallTells came call = (dir name : List ℕ) → call ≡ look_up dir name → Tells came dir name

  walk-name : (name : Option (List ℕ)) (w : Walk) (sent turn : Turn) (came : Result Reply Fault) (old : Shelf) (step : WalkStep) (new : Walk) (after : Shelf) (call : Call)
      → walking.waiting_name w ≡ name → WalkAwaits w call → CallTells came call → walking.Takes name w sent turn came old step new after → Told old.names → Told after.names
  walk-name None w sent turn came old step new after call is e c k t = shelf-as old after k.shelf_is t
  walk-name (Some name) w sent turn came old step new after call is e c k t =
      shelf-as _ after k.shelf_is (followed-shelf (look_again sent turn came old) (found_by came) w turn k.heard
      (looked-told w.spot.dir name came old.names k.heard.names (c w.spot.dir name (e name is)) k.hears.names t))

  pub walk-told : (w : Walk) (sent turn : Turn) (came : Result Reply Fault) (old : Shelf) (step : WalkStep) (new : Walk) (after : Shelf) (call : Call)
      → WalkAwaits w call → CallTells came call → walking.Takes (walking.waiting_name w) w sent turn came old step new after → Told old.names → Told after.names
  walk-told w sent turn came old step new after call e c k t = walk-name (walking.waiting_name w) w sent turn came old step new after call refl e c k t

  -- ---- visits

  visit-told : (v : Visit) (turn : Turn) (old after : Shelf) → after ≡ visiting.visit_shelf v turn old → Told old.names → Told after.names
  visit-told v turn old after is t = shelf-as _ after is (by v.asked)
    where
      by : (b : Bool) → Told (if b then old else walking.go_shelf v.walk turn old).names
      by true = t
      by false = go-told v.walk turn old t

  walks-told : (call_of : List ℕ → Call) (v : Visit) (sent turn : Turn) (came : Result Reply Fault) (old : Shelf) (next : Step) (new : Visit) (after : Shelf) (call : Call)
      → WalkAwaits v.walk call → CallTells came call → visiting.Walks call_of v sent turn came old next new after → Told old.names → Told after.names
  walks-told call_of v sent turn came old next new after call e c w t = walk-told v.walk sent turn came old w.takes.step w.takes.walked.walk after call e c w.takes.takes t

  changed-told : (dir : List ℕ) (call : Call) (told : ChangeTold) (sent turn : Turn) (old : Shelf) (next : Step) (after : Shelf) → changing.Changes dir call told sent turn old next after
      → Told old.names → Told after.names
  changed-told dir call told sent turn old next after c t = shelf-as _ after c.others (left-told told.unmade dir old.names t)

  change-told : (asked : Bool) (own : List ℕ → Call) (told : ChangeTold) (v : Visit) (sent turn : Turn) (came : Result Reply Fault) (old : Shelf) (next : Step) (new : Visit) (after : Shelf)
      (call : Call) → OwnOr asked own v.walk call → CallTells came call → changing.TakesChange asked own told v sent turn came old next new after → Told old.names → Told after.names
  change-told true own told v sent turn came old next new after call e c k t = changed-told v.walk.spot.dir (own v.walk.spot.dir) told sent turn old next after k.1 t
  change-told false own told v sent turn came old next new after call e c k t = walks-told own v sent turn came old next new after call e c k t

  show-told : (asked : Bool) (own : List ℕ → Call) (attr : Option Attr) (told : Result Value Fault) (v : Visit) (sent turn : Turn) (came : Result Reply Fault) (old : Shelf) (next : Step)
      (new : Visit) (after : Shelf) (call : Call) → OwnOr asked own v.walk call → CallTells came call → TakesShow asked own attr told v sent turn came old next new after
      → Told old.names → Told after.names
  show-told true own attr told v sent turn came old next new after call e c k t = shelf-as _ after k.1.others t
  show-told false own attr told v sent turn came old next new after call e c k t = walks-told own v sent turn came old next new after call e c k t

  text-told : (asked : Bool) (v : Visit) (sent turn : Turn) (came : Result Reply Fault) (old : Shelf) (next : Step) (new : Visit) (after : Shelf) (call : Call)
      → OwnOr asked text_call v.walk call → CallTells came call → TakesText asked v sent turn came old next new after → Told old.names → Told after.names
  text-told true v sent turn came old next new after call e c k t = shelf-as _ after k.1.shows.others t
  text-told false v sent turn came old next new after call e c k t = walks-told text_call v sent turn came old next new after call e c k t

  sym-told : (asked : Bool) (m : SymLink) (sent turn : Turn) (came : Result Reply Fault) (old : Shelf) (next : Step) (new : Visit) (after : Shelf) (call : Call)
      → OwnOr asked (sym_link_call m.name m.target) m.visit.walk call → CallTells came call → TakesSymLink asked m sent turn came old next new after → Told old.names → Told after.names
  sym-told true m sent turn came old next new after call e c k t = by k.1
    where
      by : ChangesByCopy m.visit.walk.spot.dir (sym_link_call m.name m.target m.visit.walk.spot.dir) (sym_linked_told came) sent turn old next after → Told after.names
      by (inl d) = changed-told m.visit.walk.spot.dir _ _ sent turn old next after d t
      by (inr d) = changed-told m.visit.walk.spot.dir _ _ sent turn old next after d.1 t
  sym-told false m sent turn came old next new after call e c k t =
      walk-told m.visit.walk sent turn came old k.takes.step k.takes.walked.walk after call e c k.takes.takes t

  stat-told : (asked : Bool) (m : Stat) (sent turn : Turn) (came : Result Reply Fault) (old : Shelf) (next : Step) (new : Stat) (after : Shelf) (call : Call)
      → OwnOr asked stats.get_attr m.walk call → CallTells came call → stats.StatTakes asked m sent turn came old next new after → Told old.names → Told after.names
  stat-told true m sent turn came old next new after call e c k t = shelf-as _ after k.1.others t
  stat-told false m sent turn came old next new after call e c k t = walk-told m.walk sent turn came old k.step k.walked.walk after call e c k.takes t

  list-told : (asked : Bool) (m : ListDir) (sent turn : Turn) (came : Result Reply Fault) (old : Shelf) (next : Step) (new : ListDir) (after : Shelf) (call : Call)
      → OwnOr asked (listing.page_call m.place) m.visit.walk call → CallTells came call → listing.TakesList asked m sent turn came old next new after → Told old.names → Told after.names
  list-told true m sent turn came old next new after call e c k t = shelf-as _ after k.others t
  list-told false m sent turn came old next new after call e c k t = walks-told (listing.page_call m.place) m.visit sent turn came old next k.visit after call e c k.walks t

  -- ---- two walks

  first-told : (step : WalkStep) (p : Pair) (turn : Turn) (shelf : Shelf) → Told shelf.names → Told (pairs.first_shelf step p turn shelf).names
  first-told (walks.Send call) p turn shelf t = t
  first-told walks.Wait p turn shelf t = t
  first-told (walks.At first) p turn shelf t = go-told p.second turn shelf t
  first-told (walks.Refused fault) p turn shelf t = t

  pair-told : (p : Pair) (turn : Turn) (old after : Shelf) → after ≡ pairs.pair_shelf p turn old → Told old.names → Told after.names
  pair-told p turn old after is t = shelf-as _ after is (by (pairs.waits p))
    where
      by : (b : Bool) → Told (if b then old else pairs.on_shelf p turn old).names
      by true = t
      by false = first-told (walking.go_next p.first turn old) (pairs.walked_first p turn old) turn (walking.go_shelf p.first turn old) (go-told p.first turn old t)

  pair-took : (own : List ℕ → List ℕ → Call) (b : Bool) (p : Pair) (sent turn : Turn) (came : Result Reply Fault) (old : Shelf) (next : PairStep) (new : Pair) (after : Shelf) (call : Call)
      → PairOr false b own p call → CallTells came call → pairs.PairTakes b p sent turn came old next new after → Told old.names → Told after.names
  pair-took own true p sent turn came old next new after call e c k t =
      shelf-as _ after k.shelf_is (first-told k.step k.walked turn k.heard (walk-told p.first sent turn came old k.step k.walked.first k.heard call e c k.takes t))
  pair-took own false p sent turn came old next new after call e c k t = walk-told p.second sent turn came old k.step k.walked.second after call e c k.takes t

  rename-told : (asked : Bool) (m : Rename) (sent turn : Turn) (came : Result Reply Fault) (old : Shelf) (next : Step) (new : Pair) (after : Shelf) (call : Call)
      → PairOr asked m.pair.first.asked (rename_call m.from m.to) m.pair call → CallTells came call → TakesRename asked m sent turn came old next new after → Told old.names → Told after.names
  rename-told true m sent turn came old next new after call e c k t =
      shelf-as _ after k.1.others (left-told (moved_told came).unmade m.pair.second.spot.dir _ (left-told (moved_told came).unmade m.pair.first.spot.dir old.names t))
  rename-told false m sent turn came old next new after call e c k t =
      pair-took (rename_call m.from m.to) m.pair.first.asked m.pair sent turn came old k.step new after call e c k.takes t

  link-told : (asked : Bool) (m : Link) (sent turn : Turn) (came : Result Reply Fault) (old : Shelf) (next : Step) (new : Pair) (after : Shelf) (call : Call)
      → PairOr asked m.pair.first.asked (link_call m.name) m.pair call → CallTells came call → TakesLink asked m sent turn came old next new after → Told old.names → Told after.names
  link-told true m sent turn came old next new after call e c k t = changed-told m.pair.second.spot.dir _ _ sent turn old next after k.1 t
  link-told false m sent turn came old next new after call e c k t = pair-took (link_call m.name) m.pair.first.asked m.pair sent turn came old k.step new after call e c k.takes t

  -- ---- removals

  goes-removal : (deed : Option Deed) (m : RemoveFile) (turn : Turn) (old : Shelf) (next : Step) (new : RemoveFile) (after : Shelf) → removals.Goes deed m turn old next new after
      → Told old.names → Told after.names
  goes-removal (Some deed) m turn old next new after g t = shelf-as _ after g.shelf_is t
  goes-removal None m turn old next new after g t = shelf-as _ after g.shelf_is (go-told m.walk turn old t)

  resumes-removal : (asked : Bool) (m : RemoveFile) (turn : Turn) (old : Shelf) (next : Step) (new : RemoveFile) (after : Shelf) → removals.Resumes asked m turn old next new after
      → Told old.names → Told after.names
  resumes-removal true m turn old next new after r t = shelf-as _ after r.shelf_is t
  resumes-removal false m turn old next new after r t = goes-removal m.deed m turn old next new after r t

  look-removal : (again : Bool) (told : Result (List ℕ) Fault) (m : RemoveFile) (room : Bool) (old : Shelf) (next : Step) (new : RemoveFile) (after : Shelf)
      → removals.FollowsLook again told m room old next new after → Told old.names → Told after.names
  look-removal true told m room old next new after f t = shelf-as _ after f.shelf_is t
  look-removal false (Ok file) m room old next new after f t = shelf-as _ after f.plans.shelf_is t
  look-removal false (Err fault) m room old next new after f t = shelf-as _ after f.shelf_is t

  seek-removal : (again : Bool) (told : Result (List ℕ) Fault) (file to : List ℕ) (m : RemoveFile) (room : Bool) (old : Shelf) (next : Step) (new : RemoveFile) (after : Shelf)
      → removals.FollowsSeek again told file to m room old next new after → Told old.names → Told after.names
  seek-removal true told file to m room old next new after f t = shelf-as _ after f.shelf_is t
  seek-removal false (Ok found) file to m room old next new after f t = shelf-as _ after f.shelf_is t
  seek-removal false (Err fault) file to m room old next new after f t = shelf-as _ after f.shelf_is t

  deed-removal : (deed : Deed) (m : RemoveFile) (sent turn : Turn) (came : Result Reply Fault) (old : Shelf) (next : Step) (new : RemoveFile) (after : Shelf) (call : Call)
      → call ≡ removals.call_of m deed → CallTells came call → removals.TakesDeed deed m sent turn came old next new after → Told old.names → Told after.names
  deed-removal Look m sent turn came old next new after call e c k t =
      look-removal (look_again sent turn came old) (found_by came) m turn.room k.heard next new after k.follows
      (looked-told m.walk.spot.dir m.name came old.names k.heard.names (c m.walk.spot.dir m.name e) k.hears.names t)
  deed-removal (Seek file to) m sent turn came old next new after call e c k t =
      seek-removal (look_again sent turn came old) (found_by came) file to m turn.room k.heard next new after k.follows
      (looked-told m.walk.spot.dir to came old.names k.heard.names (c m.walk.spot.dir to e) k.hears.names t)
  deed-removal (Move file to) m sent turn came old next new after call e c k t =
      shelf-as _ after k.1.others (left-told (moved_told came).unmade m.walk.spot.dir _ (left-told (moved_told came).unmade m.walk.spot.dir old.names t))
  deed-removal Remove m sent turn came old next new after call e c k t = changed-told m.walk.spot.dir _ _ sent turn old next after k.1 t

  removal-told : (deed : Option Deed) (m : RemoveFile) (sent turn : Turn) (came : Result Reply Fault) (old : Shelf) (next : Step) (new : RemoveFile) (after : Shelf) (call : Call)
      → RemoveAwaits deed m call → CallTells came call → removals.Takes deed m sent turn came old next new after → Told old.names → Told after.names
  removal-told (Some deed) m sent turn came old next new after call e c k t = by m.asked k
    where
      by : (asked : Bool) → removals.TakesIf asked deed m sent turn came old next new after → Told after.names
      by true d = deed-removal deed m sent turn came old next new after call e c d t
      by false d = shelf-as _ after d.shelf_is t
  removal-told None m sent turn came old next new after call e c k t = walk-told m.walk sent turn came old k.step k.walked.walk after call e c k.takes t

  -- ---- any operation on names

  pub name-goes : (m : NameMachine) (turn : Turn) (old : Shelf) (next : Step) (new : NameMachine) (after : Shelf) → steps.NameGoes m turn old next new after → Told old.names → Told after.names
  name-goes (machines.Change m) turn old next new after g t = visit-told m.visit turn old after g.shelf_is t
  name-goes (machines.Stat m) turn old next new after g t = shelf-as _ after g.shelf_is (by m.asked)
    where
      by : (b : Bool) → Told (if b then old else walking.go_shelf m.walk turn old).names
      by true = t
      by false = go-told m.walk turn old t
  name-goes (machines.Access m) turn old next new after g t = visit-told m.visit turn old after g.shelf_is t
  name-goes (machines.ReadLink m) turn old next new after g t = visit-told m.visit turn old after g.shelf_is t
  name-goes (machines.Remove m) turn old next new after g t = resumes-removal m.asked m turn old next g.machine after g.step t
  name-goes (machines.Rename m) turn old next new after g t = pair-told m.pair turn old after g.shelf_is t
  name-goes (machines.Link m) turn old next new after g t = pair-told m.pair turn old after g.shelf_is t
  name-goes (machines.SymLink m) turn old next new after g t = visit-told m.visit turn old after g.shelf_is t
  name-goes (machines.List m) turn old next new after g t = visit-told m.visit turn old after g.shelf_is t

  pub name-takes : (m : NameMachine) (sent turn : Turn) (came : Result Reply Fault) (old : Shelf) (next : Step) (new : NameMachine) (after : Shelf) (call : Call) → NameAwaits m call
      → CallTells came call → steps.NameTakes m sent turn came old next new after → Told old.names → Told after.names
  name-takes (machines.Change m) sent turn came old next new after call e c k t =
      change-told m.visit.asked (deed_call m.deed m.name) _ m.visit sent turn came old next k.visit after call e c k.step t
  name-takes (machines.Stat m) sent turn came old next new after call e c k t = stat-told m.asked m sent turn came old next k.machine after call e c k.step t
  name-takes (machines.Access m) sent turn came old next new after call e c k t =
      show-told m.visit.asked (access_call m.bits) _ _ m.visit sent turn came old next k.visit after call e c k.step t
  name-takes (machines.ReadLink m) sent turn came old next new after call e c k t = text-told m.visit.asked m.visit sent turn came old next k.visit after call e c k.step t
  name-takes (machines.Remove m) sent turn came old next new after call e c k t = removal-told m.deed m sent turn came old next k.machine after call e c k.step t
  name-takes (machines.Rename m) sent turn came old next new after call e c k t = rename-told m.pair.asked m sent turn came old next k.pair after call e c k.step t
  name-takes (machines.Link m) sent turn came old next new after call e c k t = link-told m.pair.asked m sent turn came old next k.pair after call e c k.step t
  name-takes (machines.SymLink m) sent turn came old next new after call e c k t = sym-told m.visit.asked m sent turn came old next k.visit after call e c k.step t
  name-takes (machines.List m) sent turn came old next new after call e c k t = list-told m.visit.asked m sent turn came old next k.machine after call e c k.step t
