-- Which faults a step of an operation on names gives: its own, and those of what came of its call.
use Rattle.core_facts.proofs.Prelude.{◌≡◌, ℕ, Bool, true, false, List, Option, Some, None, Result, Ok, Err, inl, inr, sym, subst, ◌||◌, if◌then◌else◌, Attr, ListStep, More, End, ListFault, Fault, Value, Call, Reply, Step, Shelf, Turn, ListDir, Stat, SymLink, Told, Visit, VisitStep, Walk, WalkStep, found_by, look_again, text_call, TakesText, shown_answer, TakesShow, sym_link_call, sym_linked_told, CopiesBy, ChangesByCopy, TakesSymLink, lacking, Opens, plan_of, Link, Pair, PairStep, Deed, Look, Seek, Move, RemoveFile, Rename, access_call, access_attr, access_told, deed_call, deed_told, link_call, TakesLink, linked_told, moved_told, rename_call, TakesRename, NameMachine, DirKept, FileKept}
use Rattle.name_ops.specs.ReadLink.{TellsText}
use Rattle.name_ops.specs.Showing.{Shows}
use Rattle.name_ops.specs.declared.remove_file.Deed.TheVariants.{Remove}
use Rattle.attr_cache.specs.Attrs as attrs
use Rattle.world_model.specs.declared.answer.Answer.TheVariants as answers
use Rattle.world_model.specs.declared.answer.Fault.TheVariants as faults
use Rattle.world_model.specs.declared.answer.Value.TheVariants as values
use Rattle.client_shelf.specs.declared.step.Step.TheVariants as nexts
use Rattle.name_ops.specs.declared.visit.VisitStep.TheVariants as visits
use Rattle.name_ops.specs.declared.walk.WalkStep.TheVariants as walks
use Rattle.name_ops.specs.Changing as changing
use Rattle.name_ops.specs.ListDir as listing
use Rattle.name_ops.specs.Stat as stats
use Rattle.name_ops.specs.Visiting as visiting
use Rattle.name_ops.specs.Walking as walking
use Rattle.name_ops.specs.declared.pair.PairStep.TheVariants as two
use Rattle.name_ops.specs.Pairs as pairs
use Rattle.name_ops.specs.RemoveFile as removals
use Rattle.op_machines.specs.declared.name_machine.NameMachine.TheVariants as machines
use Rattle.op_machines.specs.NameSteps as steps
use Rattle.nfs_dir_calls.specs.declared.keeping.DirKept.TheVariants as dir_kept
use Rattle.nfs_file_calls.specs.declared.owned.FileKept.TheVariants as kept
use Rattle.world_model.specs.declared.message.Reply.TheVariants as replies
use Rattle.dir_list.specs.declared.progress.ListFault.TheVariants as lists
use Rattle.name_ops.specs.declared.dir_change.DirDeed.{DirDeed}
use Rattle.name_ops.specs.declared.dir_change.DirDeed.TheVariants as deeds
use Rattle.name_ops.specs.MakeDir.{made_told}
use Rattle.name_ops.specs.RemoveDir.{removed_told}
use Rattle.core_facts.proofs.Faults.{OwnFaults, OfReply, Came, FineResult, FineOption, FineAnswer, FineNext, fine-as, again-fine, call-or-wait}

module _ (P : Fault → Type 0) (own : OwnFaults P) where
  -- ---- walks

  abbrev pub FineWalk : WalkStep → Type 0
  FineWalk (walks.Send call) = Unit {0}
  FineWalk walks.Wait = Unit {0}
  FineWalk (walks.At object) = Unit {0}
  FineWalk (walks.Refused fault) = P fault

  asks-room : (room : Bool) (name : List ℕ) (w : Walk) → FineWalk (walking.asks (Some name) room w)
  asks-room true name w = tt
  asks-room false name w = tt

  asks-fine : (name : Option (List ℕ)) (room : Bool) (w : Walk) → FineWalk (walking.asks name room w)
  asks-fine None room w = tt
  asks-fine (Some name) room w = asks-room room name w

  on-fine : (w : Walk) (turn : Turn) (known : attrs.Attrs) (kept_names : _) → FineWalk (walking.on_next w turn known kept_names)
  on-fine w turn known kept_names = asks-fine (walking.next_name (walking.walked w turn.now known kept_names)) turn.room (walking.walked w turn.now known kept_names)

  waits-or : (b : Bool) (step : WalkStep) → FineWalk step → FineWalk (if b then walks.Wait else step)
  waits-or true step f = tt
  waits-or false step f = f

  pub go-fine : (w : Walk) (turn : Turn) (shelf : Shelf) → FineWalk (walking.go_next w turn shelf)
  go-fine w turn shelf = waits-or w.asked (walking.on_next w turn shelf.attrs shelf.names) (on-fine w turn shelf.attrs shelf.names)

  found-by-fine : (reply : DirKept) → OfReply P (replies.Dir reply) → FineResult P (found_by (Ok (replies.Dir reply)))
  found-by-fine (dir_kept.Lookup found attr dir) n = tt
  found-by-fine (dir_kept.LookupFail status dir) n = n
  found-by-fine reply n = own.bad 2

  found-fine : (came : Result Reply Fault) → Came P came → FineResult P (found_by came)
  found-fine (Ok (replies.Dir reply)) n = found-by-fine reply n
  found-fine (Ok (replies.File reply)) n = own.bad 2
  found-fine (Ok (replies.Mount reply)) n = own.bad 2
  found-fine (Err fault) n = n

  told-walk : (told : Result (List ℕ) Fault) (w : Walk) (turn : Turn) (shelf : Shelf) → FineResult P told → FineWalk (walking.told_next w told turn shelf)
  told-walk (Ok found) w turn shelf n = on-fine (walking.arrived w found) turn shelf.attrs shelf.names
  told-walk (Err fault) w turn shelf n = n

  followed-fine : (busy : Bool) (w : Walk) (name : List ℕ) (told : Result (List ℕ) Fault) (turn : Turn) (shelf : Shelf) → FineResult P told → FineWalk (walking.followed_next busy w name told turn shelf)
  followed-fine true w name told turn shelf n = tt
  followed-fine false w name told turn shelf n = told-walk told w turn shelf n

  fine-walk : (to step : WalkStep) → step ≡ to → FineWalk to → FineWalk step
  fine-walk to step is f = subst FineWalk (sym is) f

  pub walk-took : (name : Option (List ℕ)) (w : Walk) (sent turn : Turn) (came : Result Reply Fault) (old : Shelf) (step : WalkStep) (new : Walk) (after : Shelf) → Came P came
      → walking.Takes name w sent turn came old step new after → FineWalk step
  walk-took None w sent turn came old step new after n t = fine-walk walks.Wait step t.next_is tt
  walk-took (Some name) w sent turn came old step new after n t =
      fine-walk _ step t.next_is (followed-fine (look_again sent turn came old) w name (found_by came) turn t.heard (found-fine came n))

  -- ---- visits

  abbrev FineVisit : VisitStep → Type 0
  FineVisit (visits.Look call) = Unit {0}
  FineVisit visits.Wait = Unit {0}
  FineVisit (visits.Ask object) = Unit {0}
  FineVisit (visits.Refused fault) = P fault

  follow-room : (room : Bool) (object : List ℕ) → FineVisit (if room then visits.Ask object else visits.Wait)
  follow-room true object = tt
  follow-room false object = tt

  follow-visit : (step : WalkStep) (room : Bool) → FineWalk step → FineVisit (visiting.follow_next step room)
  follow-visit (walks.Send call) room f = tt
  follow-visit walks.Wait room f = tt
  follow-visit (walks.At object) room f = follow-room room object
  follow-visit (walks.Refused fault) room f = f

  visit-waits : (b : Bool) (step : VisitStep) → FineVisit step → FineVisit (if b then visits.Wait else step)
  visit-waits true step f = tt
  visit-waits false step f = f

  visit-fine : (v : Visit) (turn : Turn) (shelf : Shelf) → FineVisit (visiting.visit_next v turn shelf)
  visit-fine v turn shelf = visit-waits v.asked _ (follow-visit (walking.go_next v.walk turn shelf) turn.room (go-fine v.walk turn shelf))

  visit-took : (v : Visit) (sent turn : Turn) (came : Result Reply Fault) (old : Shelf) (next : VisitStep) (new : Visit) (after : Shelf) → Came P came
      → visiting.VisitTakes v sent turn came old next new after → FineVisit next
  visit-took v sent turn came old next new after n t =
      subst FineVisit (sym t.next_is) (follow-visit t.step turn.room (walk-took (walking.waiting_name v.walk) v.walk sent turn came old t.step t.walked.walk after n t.takes))

  visit-next : (call : List ℕ → Call) (step : VisitStep) → FineVisit step → FineNext P (visiting.next_by call step)
  visit-next call (visits.Look look) f = tt
  visit-next call visits.Wait f = tt
  visit-next call (visits.Ask object) f = tt
  visit-next call (visits.Refused fault) f = f

  visit-goes : (call : List ℕ → Call) (v : Visit) (turn : Turn) (shelf : Shelf) (next : Step) → next ≡ visiting.next_by call (visiting.visit_next v turn shelf) → FineNext P next
  visit-goes call v turn shelf next is = fine-as P _ next is (visit-next call (visiting.visit_next v turn shelf) (visit-fine v turn shelf))

  walks-fine : (call : List ℕ → Call) (v : Visit) (sent turn : Turn) (came : Result Reply Fault) (old : Shelf) (next : Step) (new : Visit) (after : Shelf) → Came P came
      → visiting.Walks call v sent turn came old next new after → FineNext P next
  walks-fine call v sent turn came old next new after n w = fine-as P _ next w.next_is (visit-next call w.step (visit-took v sent turn came old w.step new after n w.takes))

  -- ---- a call that changes a directory

  answer-fine : (refusal : Option Fault) → FineOption P refusal → FineAnswer P (changing.answer_of refusal)
  answer-fine None n = tt
  answer-fine (Some fault) n = n

  changes-fine : (dir : List ℕ) (call : Call) (told : Told) (sent turn : Turn) (old : Shelf) (next : Step) (after : Shelf) → FineOption P told.refusal
      → changing.Changes dir call told sent turn old next after → FineNext P next
  changes-fine dir call told sent turn old next after n c = again-fine P _ call (changing.answer_of told.refusal) next c.next_is (answer-fine told.refusal n)

  change-took : (asked : Bool) (call : List ℕ → Call) (told : Told) (v : Visit) (sent turn : Turn) (came : Result Reply Fault) (old : Shelf) (next : Step) (new : Visit) (after : Shelf)
      → Came P came → FineOption P told.refusal → changing.TakesChange asked call told v sent turn came old next new after → FineNext P next
  change-took true call told v sent turn came old next new after n r t = changes-fine v.walk.spot.dir (call v.walk.spot.dir) told sent turn old next after r t.1
  change-took false call told v sent turn came old next new after n r t = walks-fine call v sent turn came old next new after n t

  made-by-fine : (reply : DirKept) → OfReply P (replies.Dir reply) → FineOption P (made_told (Ok (replies.Dir reply))).refusal
  made-by-fine (dir_kept.MkDir found attr wcc) n = tt
  made-by-fine (dir_kept.MkDirFail status wcc) n = n
  made-by-fine reply n = own.bad 2

  removed-by-fine : (reply : DirKept) → OfReply P (replies.Dir reply) → FineOption P (removed_told (Ok (replies.Dir reply))).refusal
  removed-by-fine (dir_kept.RmDir wcc) n = tt
  removed-by-fine (dir_kept.RmDirFail status wcc) n = n
  removed-by-fine reply n = own.bad 2

  deed-fine : (deed : DirDeed) (came : Result Reply Fault) → Came P came → FineOption P (deed_told deed came).refusal
  deed-fine deeds.Make (Ok (replies.Dir reply)) n = made-by-fine reply n
  deed-fine deeds.Make (Ok (replies.File reply)) n = own.bad 2
  deed-fine deeds.Make (Ok (replies.Mount reply)) n = own.bad 2
  deed-fine deeds.Make (Err fault) n = n
  deed-fine deeds.Remove (Ok (replies.Dir reply)) n = removed-by-fine reply n
  deed-fine deeds.Remove (Ok (replies.File reply)) n = own.bad 2
  deed-fine deeds.Remove (Ok (replies.Mount reply)) n = own.bad 2
  deed-fine deeds.Remove (Err fault) n = n

  -- ---- a call that shows something

  shown-fine : (told : Result Value Fault) → FineResult P told → FineAnswer P (shown_answer told)
  shown-fine (Ok value) n = tt
  shown-fine (Err fault) n = n

  shows-fine : (object : List ℕ) (attr : Option Attr) (told : Result Value Fault) (call : Call) (sent turn : Turn) (old : Shelf) (next : Step) (after : Shelf) → FineResult P told
      → Shows object attr told call sent turn old next after → FineNext P next
  shows-fine object attr told call sent turn old next after n s = again-fine P _ call (shown_answer told) next s.next_is (shown-fine told n)

  show-took : (asked : Bool) (call : List ℕ → Call) (attr : Option Attr) (told : Result Value Fault) (v : Visit) (sent turn : Turn) (came : Result Reply Fault) (old : Shelf) (next : Step)
      (new : Visit) (after : Shelf) → Came P came → FineResult P told → TakesShow asked call attr told v sent turn came old next new after → FineNext P next
  show-took true call attr told v sent turn came old next new after n r t = shows-fine v.walk.spot.dir attr told (call v.walk.spot.dir) sent turn old next after r t.1
  show-took false call attr told v sent turn came old next new after n r t = walks-fine call v sent turn came old next new after n t

  access-by-fine : (reply : FileKept) → OfReply P (replies.File reply) → FineResult P (access_told (Ok (replies.File reply)))
  access-by-fine (kept.Access attr bits) n = tt
  access-by-fine (kept.AccessFail status attr) n = n
  access-by-fine reply n = own.bad 2

  access-fine : (came : Result Reply Fault) → Came P came → FineResult P (access_told came)
  access-fine (Ok (replies.File reply)) n = access-by-fine reply n
  access-fine (Ok (replies.Dir reply)) n = own.bad 2
  access-fine (Ok (replies.Mount reply)) n = own.bad 2
  access-fine (Err fault) n = n

  got-by-fine : (reply : FileKept) → OfReply P (replies.File reply) → FineResult P (stats.got_told (Ok (replies.File reply)))
  got-by-fine (kept.GetAttr attr) n = tt
  got-by-fine (kept.GetAttrFail status) n = n
  got-by-fine reply n = own.bad 2

  got-fine : (came : Result Reply Fault) → Came P came → FineResult P (stats.got_told came)
  got-fine (Ok (replies.File reply)) n = got-by-fine reply n
  got-fine (Ok (replies.Dir reply)) n = own.bad 2
  got-fine (Ok (replies.Mount reply)) n = own.bad 2
  got-fine (Err fault) n = n

  same-fine : (told to : Result Value Fault) → told ≡ to → FineResult P to → FineResult P told
  same-fine told to is n = subst (FineResult P) (sym is) n

  text-by-fine : (reply : DirKept) (told : Result Value Fault) → OfReply P (replies.Dir reply) → TellsText (Ok (replies.Dir reply)) told → FineResult P told
  text-by-fine (dir_kept.ReadLink attr text) told n (inl t) = same-fine told (Ok (values.Text text)) t tt
  text-by-fine (dir_kept.ReadLink attr text) told n (inr t) = same-fine told (Err faults.Memory) t own.memory
  text-by-fine (dir_kept.ReadLinkFail status attr) told n t = same-fine told (Err (faults.Nfs status.0)) t n
  text-by-fine reply told n t = same-fine told (Err (faults.Bad 2)) t (own.bad 2)

  text-fine : (came : Result Reply Fault) (told : Result Value Fault) → Came P came → TellsText came told → FineResult P told
  text-fine (Ok (replies.Dir reply)) told n t = text-by-fine reply told n t
  text-fine (Ok (replies.File reply)) told n t = same-fine told (Err (faults.Bad 2)) t (own.bad 2)
  text-fine (Ok (replies.Mount reply)) told n t = same-fine told (Err (faults.Bad 2)) t (own.bad 2)
  text-fine (Err fault) told n t = same-fine told (Err fault) t n

  text-took : (asked : Bool) (v : Visit) (sent turn : Turn) (came : Result Reply Fault) (old : Shelf) (next : Step) (new : Visit) (after : Shelf) → Came P came
      → TakesText asked v sent turn came old next new after → FineNext P next
  text-took true v sent turn came old next new after n t = shows-fine v.walk.spot.dir _ t.1.told (text_call v.walk.spot.dir) sent turn old next after (text-fine came t.1.told n t.1.tells) t.1.shows
  text-took false v sent turn came old next new after n t = walks-fine text_call v sent turn came old next new after n t

  -- ---- a call with a copy

  copies-fine : (call : List ℕ → Call) (step : VisitStep) (next : Step) → FineVisit step → CopiesBy call step next → FineNext P next
  copies-fine call (visits.Look look) next f c = fine-as P (nexts.Send look) next c tt
  copies-fine call visits.Wait next f c = fine-as P nexts.Wait next c tt
  copies-fine call (visits.Ask dir) next f (inl c) = fine-as P (nexts.Send (call dir)) next c tt
  copies-fine call (visits.Ask dir) next f (inr c) = fine-as P (nexts.Done (answers.Refused faults.Memory)) next c own.memory
  copies-fine call (visits.Refused fault) next f c = fine-as P (nexts.Done (answers.Refused fault)) next c f

  linked-by-fine : (reply : DirKept) → OfReply P (replies.Dir reply) → FineOption P (sym_linked_told (Ok (replies.Dir reply))).refusal
  linked-by-fine (dir_kept.SymLink found attr wcc) n = tt
  linked-by-fine (dir_kept.SymLinkFail status wcc) n = n
  linked-by-fine reply n = own.bad 2

  sym-fine : (came : Result Reply Fault) → Came P came → FineOption P (sym_linked_told came).refusal
  sym-fine (Ok (replies.Dir reply)) n = linked-by-fine reply n
  sym-fine (Ok (replies.File reply)) n = own.bad 2
  sym-fine (Ok (replies.Mount reply)) n = own.bad 2
  sym-fine (Err fault) n = n

  sym-took : (asked : Bool) (m : SymLink) (sent turn : Turn) (came : Result Reply Fault) (old : Shelf) (next : Step) (new : Visit) (after : Shelf) → Came P came
      → TakesSymLink asked m sent turn came old next new after → FineNext P next
  sym-took true m sent turn came old next new after n t = by t.1
    where
      by : ChangesByCopy m.visit.walk.spot.dir (sym_link_call m.name m.target m.visit.walk.spot.dir) (sym_linked_told came) sent turn old next after → FineNext P next
      by (inl c) = changes-fine m.visit.walk.spot.dir _ (sym_linked_told came) sent turn old next after (sym-fine came n) c
      by (inr c) = changes-fine m.visit.walk.spot.dir _ (lacking (sym_linked_told came)) sent turn old next after own.memory c.1
  sym-took false m sent turn came old next new after n t =
      copies-fine (sym_link_call m.name m.target) t.step next (visit-took m.visit sent turn came old t.step new after n t.takes) t.next_is

  -- ---- attributes

  ask-stat : (known : Option Attr) (object : List ℕ) (room : Bool) → FineNext P (stats.ask_next known object room)
  ask-stat (Some attr) object room = tt
  ask-stat None object room = call-or-wait P room (stats.get_attr object)

  follow-stat : (step : WalkStep) (turn : Turn) (known : attrs.Attrs) → FineWalk step → FineNext P (stats.follow_next step turn known)
  follow-stat (walks.Send call) turn known f = tt
  follow-stat walks.Wait turn known f = tt
  follow-stat (walks.At object) turn known f = ask-stat (attrs.looked object turn.now known) object turn.room
  follow-stat (walks.Refused fault) turn known f = f

  wait-or : (b : Bool) (next : Step) → FineNext P next → FineNext P (if b then nexts.Wait else next)
  wait-or true next f = tt
  wait-or false next f = f

  stat-fine : (m : Stat) (turn : Turn) (shelf : Shelf) → FineNext P (stats.stat_next m turn shelf)
  stat-fine m turn shelf = wait-or m.asked _ (follow-stat (walking.go_next m.walk turn shelf) turn shelf.attrs (go-fine m.walk turn shelf))

  stat-took : (asked : Bool) (m : Stat) (sent turn : Turn) (came : Result Reply Fault) (old : Shelf) (next : Step) (new : Stat) (after : Shelf) → Came P came
      → stats.StatTakes asked m sent turn came old next new after → FineNext P next
  stat-took true m sent turn came old next new after n t =
      shows-fine m.walk.spot.dir _ (stats.got_told came) (stats.get_attr m.walk.spot.dir) sent turn old next after (got-fine came n) t.1
  stat-took false m sent turn came old next new after n t =
      fine-as P _ next t.next_is (follow-stat t.step turn after.attrs (walk-took (walking.waiting_name m.walk) m.walk sent turn came old t.step t.walked.walk after n t.takes))

  -- ---- listings

  list-fault : (fault : ListFault) → P (listing.refusal_of fault)
  list-fault lists.Many = own.many
  list-fault lists.Stuck = own.bad 6
  list-fault lists.Memory = own.memory

  list-step : (step : Result ListStep ListFault) (heard : _) (room : Bool) (m : ListDir) (next : Step) (new : ListDir) → listing.TakesStep step heard room m next new → FineNext P next
  list-step (Ok (More cookie verf)) heard room m next new t = fine-as P _ next t.0 (call-or-wait P room _)
  list-step (Ok End) heard room m next new t = fine-as P (nexts.Done (answers.Done (values.Names t.names))) next t.next_is tt
  list-step (Err fault) heard room m next new t = fine-as P _ next t.0 (list-fault fault)

  list-page : (heard : _) (room : Bool) (m : ListDir) (next : Step) (new : ListDir) → listing.TakesPage heard room m next new → FineNext P next
  list-page heard room m next new (inl t) = fine-as P (nexts.Done (answers.Refused faults.Memory)) next t.0 own.memory
  list-page heard room m next new (inr t) = list-step _ heard room m next new t

  list-follows : (told : Result _ Fault) (again room : Bool) (m : ListDir) (next : Step) (new : ListDir) → FineResult P told → listing.Follows told again room m next new → FineNext P next
  list-follows (Ok heard) again room m next new n f = list-page heard room m next new f
  list-follows (Err fault) again room m next new n f = again-fine P again _ (answers.Refused fault) next f.0 n

  page-by-fine : (reply : DirKept) → OfReply P (replies.Dir reply) → FineResult P (listing.page_heard (Ok (replies.Dir reply)))
  page-by-fine (dir_kept.ReadDirPlus attr verf page eof) n = tt
  page-by-fine (dir_kept.ReadDirPlusFail status attr) n = n
  page-by-fine reply n = own.bad 2

  page-fine : (came : Result Reply Fault) → Came P came → FineResult P (listing.page_heard came)
  page-fine (Ok (replies.Dir reply)) n = page-by-fine reply n
  page-fine (Ok (replies.File reply)) n = own.bad 2
  page-fine (Ok (replies.Mount reply)) n = own.bad 2
  page-fine (Err fault) n = n

  list-took : (asked : Bool) (m : ListDir) (sent turn : Turn) (came : Result Reply Fault) (old : Shelf) (next : Step) (new : ListDir) (after : Shelf) → Came P came
      → listing.TakesList asked m sent turn came old next new after → FineNext P next
  list-took true m sent turn came old next new after n t = list-follows (listing.page_heard came) _ turn.room m next new (page-fine came n) t.follows
  list-took false m sent turn came old next new after n t = walks-fine (listing.page_call m.place) m.visit sent turn came old next t.visit after n t.walks

  -- ---- two walks

  abbrev FinePair : PairStep → Type 0
  FinePair (two.Look call) = Unit {0}
  FinePair two.Wait = Unit {0}
  FinePair (two.Ask first second) = Unit {0}
  FinePair (two.Refused fault) = P fault

  asks-pair : (room : Bool) (first second : List ℕ) → FinePair (pairs.asks_next first second room)
  asks-pair true first second = tt
  asks-pair false first second = tt

  second-fine : (first : List ℕ) (step : WalkStep) (room : Bool) → FineWalk step → FinePair (pairs.led_second first step room)
  second-fine first (walks.Send call) room f = tt
  second-fine first walks.Wait room f = tt
  second-fine first (walks.At second) room f = asks-pair room first second
  second-fine first (walks.Refused fault) room f = f

  first-fine : (step : WalkStep) (p : Pair) (turn : Turn) (shelf : Shelf) → FineWalk step → FinePair (pairs.led_first step p turn shelf)
  first-fine (walks.Send call) p turn shelf f = tt
  first-fine walks.Wait p turn shelf f = tt
  first-fine (walks.At first) p turn shelf f = second-fine first (walking.go_next p.second turn shelf) turn.room (go-fine p.second turn shelf)
  first-fine (walks.Refused fault) p turn shelf f = f

  pair-waits : (b : Bool) (step : PairStep) → FinePair step → FinePair (if b then two.Wait else step)
  pair-waits true step f = tt
  pair-waits false step f = f

  pair-fine : (p : Pair) (turn : Turn) (shelf : Shelf) → FinePair (pairs.pair_next p turn shelf)
  pair-fine p turn shelf = pair-waits (p.asked || p.second.asked) (pairs.on_next p turn shelf)
      (first-fine (walking.go_next p.first turn shelf) (pairs.walked_first p turn shelf) turn (walking.go_shelf p.first turn shelf) (go-fine p.first turn shelf))

  pair-took : (b : Bool) (p : Pair) (sent turn : Turn) (came : Result Reply Fault) (old : Shelf) (next : PairStep) (new : Pair) (after : Shelf) → Came P came
      → pairs.PairTakes b p sent turn came old next new after → FinePair next
  pair-took true p sent turn came old next new after n t =
      subst FinePair (sym t.next_is) (first-fine t.step t.walked turn t.heard (walk-took (walking.waiting_name p.first) p.first sent turn came old t.step t.walked.first t.heard n t.takes))
  pair-took false p sent turn came old next new after n t =
      subst FinePair (sym t.next_is) (second-fine p.first.spot.dir t.step turn.room (walk-took (walking.waiting_name p.second) p.second sent turn came old t.step t.walked.second after n t.takes))

  pair-next : (call : List ℕ → List ℕ → Call) (step : PairStep) → FinePair step → FineNext P (pairs.next_by call step)
  pair-next call (two.Look look) f = tt
  pair-next call two.Wait f = tt
  pair-next call (two.Ask first second) f = tt
  pair-next call (two.Refused fault) f = f

  pair-walks : (call : List ℕ → List ℕ → Call) (p : Pair) (sent turn : Turn) (came : Result Reply Fault) (old : Shelf) (next : Step) (new : Pair) (after : Shelf) → Came P came
      → pairs.Walks call p sent turn came old next new after → FineNext P next
  pair-walks call p sent turn came old next new after n w = fine-as P _ next w.next_is (pair-next call w.step (pair-took p.first.asked p sent turn came old w.step new after n w.takes))

  moved-by-fine : (reply : DirKept) → OfReply P (replies.Dir reply) → FineOption P (moved_told (Ok (replies.Dir reply))).refusal
  moved-by-fine (dir_kept.Rename from to) n = tt
  moved-by-fine (dir_kept.RenameFail status from to) n = n
  moved-by-fine reply n = own.bad 2

  moved-fine : (came : Result Reply Fault) → Came P came → FineOption P (moved_told came).refusal
  moved-fine (Ok (replies.Dir reply)) n = moved-by-fine reply n
  moved-fine (Ok (replies.File reply)) n = own.bad 2
  moved-fine (Ok (replies.Mount reply)) n = own.bad 2
  moved-fine (Err fault) n = n

  rename-took : (asked : Bool) (m : Rename) (sent turn : Turn) (came : Result Reply Fault) (old : Shelf) (next : Step) (new : Pair) (after : Shelf) → Came P came
      → TakesRename asked m sent turn came old next new after → FineNext P next
  rename-took true m sent turn came old next new after n t = again-fine P _ _ (changing.answer_of (moved_told came).refusal) next t.1.next_is (answer-fine (moved_told came).refusal (moved-fine came n))
  rename-took false m sent turn came old next new after n t = pair-walks (rename_call m.from m.to) m.pair sent turn came old next new after n t

  link-by-fine : (file : List ℕ) (reply : DirKept) → OfReply P (replies.Dir reply) → FineOption P (linked_told file (Ok (replies.Dir reply))).refusal
  link-by-fine file (dir_kept.Link attr wcc) n = tt
  link-by-fine file (dir_kept.LinkFail status attr wcc) n = n
  link-by-fine file reply n = own.bad 2

  link-fine : (file : List ℕ) (came : Result Reply Fault) → Came P came → FineOption P (linked_told file came).refusal
  link-fine file (Ok (replies.Dir reply)) n = link-by-fine file reply n
  link-fine file (Ok (replies.File reply)) n = own.bad 2
  link-fine file (Ok (replies.Mount reply)) n = own.bad 2
  link-fine file (Err fault) n = n

  link-took : (asked : Bool) (m : Link) (sent turn : Turn) (came : Result Reply Fault) (old : Shelf) (next : Step) (new : Pair) (after : Shelf) → Came P came
      → TakesLink asked m sent turn came old next new after → FineNext P next
  link-took true m sent turn came old next new after n t = changes-fine _ _ (linked_told m.pair.first.spot.dir came) sent turn old next after (link-fine m.pair.first.spot.dir came n) t.1
  link-took false m sent turn came old next new after n t = pair-walks (link_call m.name) m.pair sent turn came old next new after n t

  -- ---- removals

  asked-removal : (room : Bool) (deed : Deed) (m : RemoveFile) (next : Step) → next ≡ removals.asked_next m deed room → FineNext P next
  asked-removal room deed m next is = fine-as P _ next is (call-or-wait P room (removals.call_of m deed))

  follows-removal : (step : WalkStep) (room : Bool) (m : RemoveFile) (opens : Opens) (next : Step) (new : RemoveFile) → FineWalk step → removals.Follows step room m opens next new → FineNext P next
  follows-removal (walks.Send call) room m opens next new f l = fine-as P (nexts.Send call) next l.0 tt
  follows-removal walks.Wait room m opens next new f l = fine-as P nexts.Wait next l.0 tt
  follows-removal (walks.At dir) room m opens next new f l = asked-removal room (removals.first_deed l.any) m next l.next_is
  follows-removal (walks.Refused fault) room m opens next new f l = fine-as P (nexts.Done (answers.Refused fault)) next l.0 f

  goes-removal : (deed : Option Deed) (m : RemoveFile) (turn : Turn) (old : Shelf) (next : Step) (new : RemoveFile) (after : Shelf) → removals.Goes deed m turn old next new after → FineNext P next
  goes-removal (Some deed) m turn old next new after g = asked-removal turn.room deed m next g.next_is
  goes-removal None m turn old next new after g =
      follows-removal (walking.go_next m.walk turn old) turn.room (record m { walk = walking.go_after m.walk turn old }) old.opens next new (go-fine m.walk turn old) g.follows

  resumes-removal : (asked : Bool) (m : RemoveFile) (turn : Turn) (old : Shelf) (next : Step) (new : RemoveFile) (after : Shelf) → removals.Resumes asked m turn old next new after → FineNext P next
  resumes-removal true m turn old next new after r = fine-as P nexts.Wait next r.next_is tt
  resumes-removal false m turn old next new after r = goes-removal m.deed m turn old next new after r

  plans-removal : (is_open : Bool) (file : List ℕ) (m : RemoveFile) (room : Bool) (old : Shelf) (next : Step) (new : RemoveFile) (after : Shelf)
      → removals.Plans is_open file m room old next new after → FineNext P next
  plans-removal is_open file m room old next new after p = asked-removal room (removals.deed_of file (plan_of is_open old.counter)) m next p.next_is

  look-removal : (again : Bool) (told : Result (List ℕ) Fault) (m : RemoveFile) (room : Bool) (old : Shelf) (next : Step) (new : RemoveFile) (after : Shelf) → FineResult P told
      → removals.FollowsLook again told m room old next new after → FineNext P next
  look-removal true told m room old next new after n f = fine-as P (nexts.Send (removals.call_of m Look)) next f.next_is tt
  look-removal false (Ok file) m room old next new after n f = plans-removal f.is_open file m room old next new after f.plans
  look-removal false (Err fault) m room old next new after n f = fine-as P (nexts.Done (answers.Refused fault)) next f.next_is n

  missed-removal : (missing : Bool) (fault : Fault) (file to : List ℕ) (m : RemoveFile) (room : Bool) (next : Step) → P fault → next ≡ removals.missed_next missing fault file to m room → FineNext P next
  missed-removal true fault file to m room next n is = asked-removal room (Move file to) m next is
  missed-removal false fault file to m room next n is = fine-as P (nexts.Done (answers.Refused fault)) next is n

  seek-removal : (again : Bool) (told : Result (List ℕ) Fault) (file to : List ℕ) (m : RemoveFile) (room : Bool) (old : Shelf) (next : Step) (new : RemoveFile) (after : Shelf) → FineResult P told
      → removals.FollowsSeek again told file to m room old next new after → FineNext P next
  seek-removal true told file to m room old next new after n f = fine-as P (nexts.Send (removals.call_of m (Seek file to))) next f.next_is tt
  seek-removal false (Ok found) file to m room old next new after n f = plans-removal true file m room old next new after f
  seek-removal false (Err fault) file to m room old next new after n f = missed-removal (removals.is_missing fault) fault file to m room next n f.next_is

  moves-removal : (again : Bool) (refusal : Option Fault) (file to : List ℕ) (m : RemoveFile) (old : removals.Places) (next : Step) (new : removals.Places) → FineOption P refusal
      → removals.EndsMove again refusal file to m old next new → FineNext P next
  moves-removal true refusal file to m old next new n e = fine-as P (nexts.Send (removals.call_of m (Move file to))) next e.0 tt
  moves-removal false None file to m old next new n (inl e) = fine-as P (nexts.Done (answers.Done values.Nothing)) next e.0 tt
  moves-removal false None file to m old next new n (inr e) = fine-as P (nexts.Done (answers.Refused faults.Memory)) next e.0 own.memory
  moves-removal false (Some fault) file to m old next new n e = fine-as P (nexts.Done (answers.Refused fault)) next e.0 n

  unnamed-by-fine : (reply : DirKept) → OfReply P (replies.Dir reply) → FineOption P (removals.removed_told (Ok (replies.Dir reply))).refusal
  unnamed-by-fine (dir_kept.Remove wcc) n = tt
  unnamed-by-fine (dir_kept.RemoveFail status wcc) n = n
  unnamed-by-fine reply n = own.bad 2

  unnamed-fine : (came : Result Reply Fault) → Came P came → FineOption P (removals.removed_told came).refusal
  unnamed-fine (Ok (replies.Dir reply)) n = unnamed-by-fine reply n
  unnamed-fine (Ok (replies.File reply)) n = own.bad 2
  unnamed-fine (Ok (replies.Mount reply)) n = own.bad 2
  unnamed-fine (Err fault) n = n

  deed-removal : (deed : Deed) (m : RemoveFile) (sent turn : Turn) (came : Result Reply Fault) (old : Shelf) (next : Step) (new : RemoveFile) (after : Shelf) → Came P came
      → removals.TakesDeed deed m sent turn came old next new after → FineNext P next
  deed-removal Look m sent turn came old next new after n t = look-removal (look_again sent turn came old) (found_by came) m turn.room t.heard next new after (found-fine came n) t.follows
  deed-removal (Seek file to) m sent turn came old next new after n t =
      seek-removal (look_again sent turn came old) (found_by came) file to m turn.room t.heard next new after (found-fine came n) t.follows
  deed-removal (Move file to) m sent turn came old next new after n t =
      moves-removal (removals.move_again sent turn came old) (moved_told came).refusal file to m old.silly next after.silly (moved-fine came n) t.1.ends
  deed-removal Remove m sent turn came old next new after n t = changes-fine m.walk.spot.dir (removals.call_of m Remove) (removals.removed_told came) sent turn old next after (unnamed-fine came n) t.1

  if-removal : (asked : Bool) (deed : Deed) (m : RemoveFile) (sent turn : Turn) (came : Result Reply Fault) (old : Shelf) (next : Step) (new : RemoveFile) (after : Shelf) → Came P came
      → removals.TakesIf asked deed m sent turn came old next new after → FineNext P next
  if-removal true deed m sent turn came old next new after n t = deed-removal deed m sent turn came old next new after n t
  if-removal false deed m sent turn came old next new after n t = fine-as P nexts.Wait next t.next_is tt

  removal-took : (deed : Option Deed) (m : RemoveFile) (sent turn : Turn) (came : Result Reply Fault) (old : Shelf) (next : Step) (new : RemoveFile) (after : Shelf) → Came P came
      → removals.Takes deed m sent turn came old next new after → FineNext P next
  removal-took (Some deed) m sent turn came old next new after n t = if-removal m.asked deed m sent turn came old next new after n t
  removal-took None m sent turn came old next new after n t =
      follows-removal t.step turn.room t.walked after.opens next new (walk-took (walking.waiting_name m.walk) m.walk sent turn came old t.step t.walked.walk after n t.takes) t.follows

  -- ---- any operation on names

  pub name-goes : (m : NameMachine) (turn : Turn) (old : Shelf) (next : Step) (new : NameMachine) (after : Shelf) → steps.NameGoes m turn old next new after → FineNext P next
  name-goes (machines.Change m) turn old next new after g = visit-goes (deed_call m.deed m.name) m.visit turn old next g.next_is
  name-goes (machines.Stat m) turn old next new after g = fine-as P _ next g.next_is (stat-fine m turn old)
  name-goes (machines.Access m) turn old next new after g = visit-goes (access_call m.bits) m.visit turn old next g.next_is
  name-goes (machines.ReadLink m) turn old next new after g = visit-goes text_call m.visit turn old next g.next_is
  name-goes (machines.Remove m) turn old next new after g = resumes-removal m.asked m turn old next g.machine after g.step
  name-goes (machines.Rename m) turn old next new after g = fine-as P _ next g.next_is (pair-next (rename_call m.from m.to) (pairs.pair_next m.pair turn old) (pair-fine m.pair turn old))
  name-goes (machines.Link m) turn old next new after g = fine-as P _ next g.next_is (pair-next (link_call m.name) (pairs.pair_next m.pair turn old) (pair-fine m.pair turn old))
  name-goes (machines.SymLink m) turn old next new after g = copies-fine (sym_link_call m.name m.target) (visiting.visit_next m.visit turn old) next (visit-fine m.visit turn old) g.next_is
  name-goes (machines.List m) turn old next new after g = visit-goes (listing.page_call m.place) m.visit turn old next g.next_is

  pub name-takes : (m : NameMachine) (sent turn : Turn) (came : Result Reply Fault) (old : Shelf) (next : Step) (new : NameMachine) (after : Shelf) → Came P came
      → steps.NameTakes m sent turn came old next new after → FineNext P next
  name-takes (machines.Change m) sent turn came old next new after n t =
      change-took m.visit.asked (deed_call m.deed m.name) (deed_told m.deed came) m.visit sent turn came old next t.visit after n (deed-fine m.deed came n) t.step
  name-takes (machines.Stat m) sent turn came old next new after n t = stat-took m.asked m sent turn came old next t.machine after n t.step
  name-takes (machines.Access m) sent turn came old next new after n t =
      show-took m.visit.asked (access_call m.bits) (access_attr came) (access_told came) m.visit sent turn came old next t.visit after n (access-fine came n) t.step
  name-takes (machines.ReadLink m) sent turn came old next new after n t = text-took m.visit.asked m.visit sent turn came old next t.visit after n t.step
  name-takes (machines.Remove m) sent turn came old next new after n t = removal-took m.deed m sent turn came old next t.machine after n t.step
  name-takes (machines.Rename m) sent turn came old next new after n t = rename-took m.pair.asked m sent turn came old next t.pair after n t.step
  name-takes (machines.Link m) sent turn came old next new after n t = link-took m.pair.asked m sent turn came old next t.pair after n t.step
  name-takes (machines.SymLink m) sent turn came old next new after n t = sym-took m.visit.asked m sent turn came old next t.visit after n t.step
  name-takes (machines.List m) sent turn came old next new after n t = list-took m.visit.asked m sent turn came old next t.machine after n t.step
