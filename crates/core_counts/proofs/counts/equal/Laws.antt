-- No operation asks for equal calls more often than three times and once for each name of its paths.
use Rattle.core_counts.proofs.Prelude.{◌≡◌, ◌≤◌, ◌+◌, ◌-◌, ℕ, zero, suc, Bool, true, false, List, [], ◌∷◌, ◌++◌, length, take, Option, Some, None, Result, Ok, Err, refl, sym, ap, subst, ◌∙◌, arith, if◌then◌else◌, Fault, Entry, Began, Call, Reply, Op, Step, Repeat, Shelf, Turn, fails_busy, goes_again, repeats_after, CloseFile, ReadFile, Truncating, joined, Link, ListDir, Pair, Deed, Look, Seek, Move, Remove, RemoveFile, Rename, Stat, SymLink, Visit, access_call, deed_call, TakesLink, look_up, found_by, moved_told, text_call, TakesText, TakesRename, sym_link_call, TakesSymLink, Mounted, Machine, Opener, PathMachine, slot_taken, machine_of, front_of, last_of, put_of, Starts, Resumes, Takes, Busy, Setup, of_walk, visit_by, in_flight, Counts, counts-calls, AskedOf, Expects, expects-laws, Saves}
use Rattle.name_ops.specs.Access.{access_attr, access_told}
use Rattle.name_ops.specs.DirChange.{deed_told}
use Rattle.name_ops.specs.Link.{link_call, linked_told}
use Rattle.name_ops.specs.ReadLink.{text_attr}
use Rattle.name_ops.specs.Rename.{rename_call, renamed_next}
use Rattle.name_ops.specs.SymLink.{sym_linked_told}
use Rattle.op_machines.specs.Begun.{open_of, path_of}
use Rattle.core_facts.specs.InFlight.{pair_by, of_truncating}
use Rattle.std.specs.FinMap as finite
use Rattle.nfs_file_calls.specs.declared.call.FileCall.TheVariants as of_files
use Rattle.world_model.specs.declared.message.Call.TheVariants as calls
use Rattle.world_model.specs.declared.op.Op.TheVariants as ops
use Rattle.claims.specs.Paths.{names_in}
use Rattle.client_shelf.specs.declared.step.Step.TheVariants as nexts
use Rattle.file_ops.specs.declared.close_file.Closing.TheVariants as closing
use Rattle.file_ops.specs.declared.truncate_file.TruncateFile.{TruncateFile}
use Rattle.file_ops.specs.declared.truncate_file.Truncating.TheVariants as truncating
use Rattle.file_ops.specs.TruncateFile as truncates
use Rattle.name_ops.specs.declared.access.Access.{Access}
use Rattle.name_ops.specs.declared.dir_change.DirChange.{DirChange}
use Rattle.name_ops.specs.declared.dir_change.DirDeed.TheVariants as deeds
use Rattle.name_ops.specs.declared.read_link.ReadLink.{ReadLink}
use Rattle.name_ops.specs.Changing as changing
use Rattle.name_ops.specs.ListDir as listing
use Rattle.name_ops.specs.Pairs as pairs
use Rattle.name_ops.specs.Stat as stats
use Rattle.name_ops.specs.Visiting as visiting
use Rattle.op_machines.specs.declared.file_machine.FileMachine.TheVariants as files
use Rattle.op_machines.specs.declared.machine.Machine.TheVariants as machines
use Rattle.op_machines.specs.declared.name_machine.NameMachine.TheVariants as names
use Rattle.core_counts.proofs.counts.engine.Laws.{Spends, Took, Seen, came_now, never_made, SeenLaws}
use Rattle.core_counts.proofs.counts.equal.Closes.{close_left, close-starts, close-resumes, close-takes}
use Rattle.core_counts.proofs.counts.equal.Paths.{path_left, sends-path, path-starts, path-resumes, path-takes}
use Rattle.core_counts.proofs.counts.equal.Reads.{ReadKnown, own_read, known-starts, known-resumes, known-takes, reading_left, read-starts, read-resumes, read-takes}
use Rattle.core_counts.proofs.counts.equal.Tables.{Tabled, tabled}
use Rattle.core_counts.proofs.counts.equal.Costs.{Costs, costs-as, costs-more, TakesCosts, repeats_it, goes_on, NoReply, LeftTo, spends, took, own-takes}
use Rattle.core_counts.proofs.counts.equal.Names.{visit_left, visit-goes, copy-goes, change-takes, show-takes, shown-takes, copied-takes, copy-walks, visit-walks, stat_left, stat-goes, stat-takes, changed-takes}
use Rattle.core_counts.proofs.counts.equal.Pairs.{pair_left, pair-goes, pair-walks, list_left, list-goes, list-takes}
use Rattle.core_counts.proofs.counts.equal.Removes.{Grown, removal_left, remove-goes, remove-takes}
use Rattle.core_counts.proofs.counts.sought.Names.{DeedBelow}
use Rattle.core_counts.proofs.counts.sought.Numbered.{reached-numbered, reached-low}
use Rattle.core_counts.proofs.counts.sought.Spelt.{number_of, silly-number}
use Rattle.core_counts.proofs.counts.sought.Steps.{SeeksBelow}

-- ---- machines

pub data State : Type 0 where
  change : DirChange → State
  stat : Stat → State
  access : Access → State
  text : ReadLink → State
  removal : RemoveFile → State
  rename : Rename → State
  link : Link → State
  sym_link : SymLink → State
  list : ListDir → State
  truncate : TruncateFile → State
  close : CloseFile → State
  on_path : PathMachine → State
  read : ReadKnown → State

abbrev pub wrap : State → Machine
wrap (change k) = machines.Name (names.Change k)
wrap (stat k) = machines.Name (names.Stat k)
wrap (access k) = machines.Name (names.Access k)
wrap (text k) = machines.Name (names.ReadLink k)
wrap (removal k) = machines.Name (names.Remove k)
wrap (rename k) = machines.Name (names.Rename k)
wrap (link k) = machines.Name (names.Link k)
wrap (sym_link k) = machines.Name (names.SymLink k)
wrap (list k) = machines.Name (names.List k)
wrap (truncate k) = machines.File (files.Truncate k)
wrap (close k) = machines.File (files.Close k)
wrap (on_path k) = machines.Path k
wrap (read s) = machines.File (files.Read s.k)

-- a truncate asks once
abbrev pub truncate_left : Truncating → ℕ
truncate_left truncating.Idle = 0
truncate_left (truncating.Queued file upto) = 1
truncate_left (truncating.Asked file upto) = 0

module _ (m : Mounted) (some_read : 1 ≤ m.rsize) (P : Call → Type 0) (target : ℕ) (only_seek : (d name : List ℕ) → P (look_up d name) → number_of name ≡ target) (no_page : (place : _) (dir : List ℕ) → P (listing.page_call place dir) → ⊥)
    (no_saved : (f : List ℕ) (call : Call) → Saves f call → P call → ⊥) (start : ℕ)
    (only_read : (f : List ℕ) (at count : ℕ) → P (calls.File (of_files.Read f at count)) → at ≡ start) where
  abbrev pub left : State → ℕ
  left (change k) = visit_left P k.visit
  left (stat k) = stat_left P k
  left (access k) = visit_left P k.visit
  left (text k) = visit_left P k.visit
  left (removal k) = removal_left target k
  left (rename k) = pair_left P k.pair
  left (link k) = pair_left P k.pair
  left (sym_link k) = visit_left P k.visit
  left (list k) = list_left P no_page k
  left (truncate k) = truncate_left k.state
  left (close k) = close_left k.state
  left (on_path k) = path_left k
  left (read s) = reading_left start s.k.reading

  abbrev Goes : ℕ → Step → Machine → Type 0
  Goes had next new = (s : State) × (new ≡ wrap s) × Costs P had next (left s)

  abbrev Tooks : ℕ → Turn → Turn → List Repeat → Step → Machine → List Repeat → Type 0
  Tooks had sent turn old next new later = (s : State) × (new ≡ wrap s) × TakesCosts P had sent turn old next (left s) later

  -- ---- truncates

  queued-costs : (k : TruncateFile) (file : List ℕ) (upto : ℕ) (turn : Turn) (shelf : Shelf) (had : ℕ) → 1 ≤ had
      → Costs P had (truncates.queued_next k file turn shelf) (truncate_left (truncates.queued_state k file upto turn shelf))
  queued-costs k file upto turn shelf had some = by (truncates.may_ask k.lane file turn shelf)
    where
      by : (b : Bool) → Costs P had (if b then nexts.Send (truncates.size_call file k.size) else nexts.Wait) (truncate_left (if b then truncating.Asked file upto else truncating.Queued file upto))
      by true = (omega arith, λ p. some)
      by false = some

  truncate-resumes : (state : Truncating) (k : TruncateFile) (turn : Turn) (old : Shelf)
      → Costs P (truncate_left state) (truncates.resumed_next state k turn old) (truncate_left (truncates.resumed_state state k turn old))
  truncate-resumes truncating.Idle k turn old = omega arith
  truncate-resumes (truncating.Queued file upto) k turn old = queued-costs k file upto turn old 1 (omega arith)
  truncate-resumes (truncating.Asked file upto) k turn old = omega arith

  truncate-starts : (found : Result (List ℕ) Fault) (k : TruncateFile) (turn : Turn) (old : Shelf) (had : ℕ) → 1 ≤ had
      → Costs P had (truncates.begun_next found k turn old) (truncate_left (truncates.begun_state found k turn old))
  truncate-starts (Ok file) k turn old had some = queued-costs k file old.seq turn (joined k.lane file old) had some
  truncate-starts (Err fault) k turn old had some = tt

  truncate-takes : (state : Truncating) (k : TruncateFile) (sent turn : Turn) (came : Result Reply Fault) (old : List Repeat) (later : List Repeat) (others : ℕ) → of_truncating state ≡ others + 1
      → ((file : List ℕ) (upto : ℕ) → state ≡ truncating.Asked file upto → later ≡ repeats_after (fails_busy (truncates.size_told came)) sent turn old)
      → TakesCosts P (truncate_left state) sent turn old (truncates.took_next state k came sent turn old) (truncate_left (truncates.took_state state came sent turn old)) later
  truncate-takes truncating.Idle k sent turn came old later others flight table = absurd (omega (arith, flight))
  truncate-takes (truncating.Queued file upto) k sent turn came old later others flight table = absurd (omega (arith, flight))
  truncate-takes (truncating.Asked file upto) k sent turn came old later others flight table =
      own-takes P 0 (truncates.size_again came sent turn old) (fails_busy (truncates.size_told came)) sent turn old (truncates.ended_next (truncates.size_again came sent turn old) k file came)
      (truncate_left (truncates.ended_state (truncates.size_again came sent turn old) (truncating.Asked file upto))) later refl (table file upto refl) (few (truncates.size_again came sent turn old)) (rest (truncates.size_again came sent turn old))
    where
      few : (b : Bool) → truncate_left (truncates.ended_state b (truncating.Asked file upto)) ≤ 0
      few true = omega arith
      few false = omega arith

      ends : (o : Result _ Fault) → Costs P 0 (truncates.told_next o) 0
      ends (Ok wcc) = tt
      ends (Err fault) = tt

      rest : (b : Bool) → b ≡ false → Costs P 0 (truncates.ended_next b k file came) (truncate_left (truncates.ended_state b (truncating.Asked file upto)))
      rest true is = absurd (let no_way : true ≡ false = is in cc)
      rest false is = ends (truncates.size_told came)

  -- ---- any of them

  goes-as : (had : ℕ) (to next : Step) (s : State) (new : Machine) → next ≡ to → new ≡ wrap s → Costs P had to (left s) → Goes had next new
  goes-as had to next s new next_is new_is c = (s, new_is, subst (λ (n : Step). Costs P had n (left s)) (sym next_is) c)

  took-as : (had : ℕ) (sent turn : Turn) (old : List Repeat) (next : Step) (s : State) (new : Machine) (later : List Repeat) → new ≡ wrap s → TakesCosts P had sent turn old next (left s) later
      → Tooks had sent turn old next new later
  took-as had sent turn old next s new later new_is c = (s, new_is, c)

  pub resumes-by : (s : State) (wsize : ℕ) (turn : Turn) (old : Shelf) (next : Step) (new : Machine) (after : Shelf) → Resumes wsize (wrap s) turn old next new after → Goes (left s) next new
  resumes-by (change k) wsize turn old next new after r =
      goes-as (visit_left P k.visit) (visiting.next_by (deed_call k.deed k.name) (visiting.visit_next k.visit turn old)) next (change (record k { visit = visiting.visit_after k.visit turn old })) new
      r.step.next_is (r.machine_is ∙ ap machines.Name r.step.machine_is) (visit-goes P (deed_call k.deed k.name) k.visit turn old)
  resumes-by (stat k) wsize turn old next new after r =
      goes-as (stat_left P k) (stats.stat_next k turn old) next (stat (stats.stat_after k turn old)) new r.step.next_is (r.machine_is ∙ ap machines.Name r.step.machine_is) (stat-goes P k turn old)
  resumes-by (access k) wsize turn old next new after r =
      goes-as (visit_left P k.visit) (visiting.next_by (access_call k.bits) (visiting.visit_next k.visit turn old)) next (access (record k { visit = visiting.visit_after k.visit turn old })) new
      r.step.next_is (r.machine_is ∙ ap machines.Name r.step.machine_is) (visit-goes P (access_call k.bits) k.visit turn old)
  resumes-by (text k) wsize turn old next new after r =
      goes-as (visit_left P k.visit) (visiting.next_by text_call (visiting.visit_next k.visit turn old)) next (text (record k { visit = visiting.visit_after k.visit turn old })) new
      r.step.next_is (r.machine_is ∙ ap machines.Name r.step.machine_is) (visit-goes P text_call k.visit turn old)
  resumes-by (removal k) wsize turn old next new after r =
      (removal r.step.machine, r.machine_is ∙ ap machines.Name r.step.machine_is, remove-goes P target only_seek k turn old next r.step.machine after r.step.step)
  resumes-by (rename k) wsize turn old next new after r =
      goes-as (pair_left P k.pair) (pairs.next_by (rename_call k.from k.to) (pairs.pair_next k.pair turn old)) next (rename (record k { pair = pairs.pair_after k.pair turn old })) new
      r.step.next_is (r.machine_is ∙ ap machines.Name r.step.machine_is) (pair-goes P (rename_call k.from k.to) k.pair turn old)
  resumes-by (link k) wsize turn old next new after r =
      goes-as (pair_left P k.pair) (pairs.next_by (link_call k.name) (pairs.pair_next k.pair turn old)) next (link (record k { pair = pairs.pair_after k.pair turn old })) new
      r.step.next_is (r.machine_is ∙ ap machines.Name r.step.machine_is) (pair-goes P (link_call k.name) k.pair turn old)
  resumes-by (sym_link k) wsize turn old next new after r = (
    sym_link (record k { visit = visiting.visit_after k.visit turn old }),
    r.machine_is ∙ ap machines.Name r.step.machine_is,
    copy-goes P (sym_link_call k.name k.target) k.visit turn old next r.step.next_is,
  )
  resumes-by (list k) wsize turn old next new after r =
      goes-as (list_left P no_page k) (visiting.next_by (listing.page_call k.place) (visiting.visit_next k.visit turn old)) next (list (record k { visit = visiting.visit_after k.visit turn old })) new
      r.step.next_is (r.machine_is ∙ ap machines.Name r.step.machine_is) (list-goes P no_page k turn old)
  resumes-by (truncate k) wsize turn old next new after r =
      goes-as (truncate_left k.state) (truncates.resumed_next k.state k turn old) next (truncate (record k { state = truncates.resumed_state k.state k turn old })) new
      r.step.next_is (r.machine_is ∙ ap machines.File r.step.machine_is) (truncate-resumes k.state k turn old)
  resumes-by (close k) wsize turn old next new after r = (
    close (record k { state = r.step.state }),
    r.machine_is ∙ ap machines.File r.step.machine_is,
    close-resumes P no_saved k.state wsize k turn old next r.step.state after r.step.step,
  )
  resumes-by (on_path k) wsize turn old next new after r =
      let s = sends-path next r.machine (in_flight (machines.Path k)) (subst (Counts next (in_flight (machines.Path k))) r.machine_is (counts-calls.resume wsize (machines.Path k) turn old next new after r tt))
      (subst (AskedOf Expects next) r.machine_is (expects-laws.resumes (machines.Path k) wsize turn old next new after r).0) in
      (on_path r.machine, r.machine_is, path-resumes P no_saved k.arrived wsize k turn old next r.machine after refl r.step s)
  resumes-by (read s) wsize turn old next new after r = (
    read (record { k = r.step.machine; known = known-resumes s.k.reading turn.room s.k old.pages old.back next r.step.machine after.pages refl s.known r.step.step }),
    r.machine_is ∙ ap machines.File r.step.machine_is,
    read-resumes P start only_read s.k.reading turn.room s.k old.pages old.back next r.step.machine after.pages refl r.step.step,
  )

  pair-takes-change : (had : ℕ) (p new : Pair) → new ≡ p → pair_left P new ≤ pair_left P p
  pair-takes-change had p new is = let same = ap (pair_left P) is in omega (arith, same)

  text-takes : (asked : Bool) (v : Visit) (sent turn : Turn) (came : Result Reply Fault) (old : Shelf) (next : Step) (new : Visit) (after : Shelf) (others : ℕ) → v.asked ≡ asked
      → visit_by v.asked (of_walk v.walk) ≡ others + 1 → TakesText asked v sent turn came old next new after → TakesCosts P (visit_left P v) sent turn old.repeats next (visit_left P new) after.repeats
  text-takes true v sent turn came old next new after others is flight t =
      shown-takes P (visit_left P v) v.walk.spot.dir (text_attr came) t.1.told (text_call v.walk.spot.dir) sent turn old next after (visit_left P new) (let same = ap (visit_left P) t.0 in omega (arith, same)) t.1.shows
  text-takes false v sent turn came old next new after others is flight t = visit-walks P text_call v sent turn came old next new after is (some v.asked is flight) t
    where
      some : (b : Bool) → b ≡ false → visit_by b (of_walk v.walk) ≡ others + 1 → 1 ≤ of_walk v.walk
      some false same count = omega (arith, count)
      some true same count = absurd (let no_way : true ≡ false = same in cc)

  sym-takes : (asked : Bool) (k : SymLink) (sent turn : Turn) (came : Result Reply Fault) (old : Shelf) (next : Step) (new : Visit) (after : Shelf) (others : ℕ) → k.visit.asked ≡ asked
      → visit_by k.visit.asked (of_walk k.visit.walk) ≡ others + 1 → TakesSymLink asked k sent turn came old next new after
      → TakesCosts P (visit_left P k.visit) sent turn old.repeats next (visit_left P new) after.repeats
  sym-takes true k sent turn came old next new after others is flight t =
      copied-takes P (visit_left P k.visit) k.visit.walk.spot.dir (sym_link_call k.name k.target k.visit.walk.spot.dir) (sym_linked_told came) sent turn old next after (visit_left P new)
      (let same = ap (visit_left P) t.0 in omega (arith, same)) t.1
  sym-takes false k sent turn came old next new after others is flight t =
      copy-walks P (sym_link_call k.name k.target) k.visit sent turn came old t.step next new after is (some k.visit.asked is flight) t.takes t.next_is
    where
      some : (b : Bool) → b ≡ false → visit_by b (of_walk k.visit.walk) ≡ others + 1 → 1 ≤ of_walk k.visit.walk
      some false same count = omega (arith, count)
      some true same count = absurd (let no_way : true ≡ false = same in cc)

  rename-takes : (asked : Bool) (k : Rename) (sent turn : Turn) (came : Result Reply Fault) (old : Shelf) (next : Step) (new : Pair) (after : Shelf) (others : ℕ) → k.pair.asked ≡ asked
      → pair_by k.pair.asked k.pair.first.asked k.pair.second.asked (of_walk k.pair.first) (of_walk k.pair.second) ≡ others + 1 → TakesRename asked k sent turn came old next new after
      → TakesCosts P (pair_left P k.pair) sent turn old.repeats next (pair_left P new) after.repeats
  rename-takes true k sent turn came old next new after others is flight t =
      own-takes P (pair_left P k.pair) (goes_again (changing.told_busy (moved_told came).refusal) sent turn old.repeats) (changing.told_busy (moved_told came).refusal) sent turn old.repeats next (pair_left P new)
      after.repeats refl (ap (λ (q : Shelf). q.repeats) t.1.others) (pair-takes-change 0 k.pair new t.0)
      (λ calm. costs-as P (pair_left P k.pair) (nexts.Done (changing.answer_of (moved_told came).refusal)) next (pair_left P new) (pair_left P new)
      (t.1.next_is ∙ ap (λ (b : Bool). renamed_next b (rename_call k.from k.to k.pair.first.spot.dir k.pair.second.spot.dir) (moved_told came)) calm) refl tt)
  rename-takes false k sent turn came old next new after others is flight t = pair-walks P (rename_call k.from k.to) k.pair sent turn came old next new after others is flight t

  link-takes : (asked : Bool) (k : Link) (sent turn : Turn) (came : Result Reply Fault) (old : Shelf) (next : Step) (new : Pair) (after : Shelf) (others : ℕ) → k.pair.asked ≡ asked
      → pair_by k.pair.asked k.pair.first.asked k.pair.second.asked (of_walk k.pair.first) (of_walk k.pair.second) ≡ others + 1 → TakesLink asked k sent turn came old next new after
      → TakesCosts P (pair_left P k.pair) sent turn old.repeats next (pair_left P new) after.repeats
  link-takes true k sent turn came old next new after others is flight t =
      changed-takes P (pair_left P k.pair) k.pair.second.spot.dir (link_call k.name k.pair.first.spot.dir k.pair.second.spot.dir) (linked_told k.pair.first.spot.dir came) sent turn old next after (pair_left P new)
      (pair-takes-change 0 k.pair new t.0) t.1
  link-takes false k sent turn came old next new after others is flight t = pair-walks P (link_call k.name) k.pair sent turn came old next new after others is flight t

  -- what is known of the number of the next hidden name
  abbrev Known : State → ℕ → Type 0
  Known (removal k) counter = Grown k.deed counter
  Known s counter = Unit {0}

  pub takes-by : (s : State) (wsize : ℕ) (sent turn : Turn) (came : Result Reply Fault) (old : Shelf) (next : Step) (new : Machine) (after : Shelf) (others : ℕ) → in_flight (wrap s) ≡ others + 1
      → ((found : List ℕ) → found_by came ≡ Ok found → Known s old.counter) → Tabled sent turn old.repeats next after.repeats → Takes wsize (wrap s) sent turn came old next new after → Tooks (left s) sent turn old.repeats next new after.repeats
  takes-by (change k) wsize sent turn came old next new after others flight g w t =
      took-as (visit_left P k.visit) sent turn old.repeats next (change (record k { visit = t.step.visit })) new after.repeats (t.machine_is ∙ ap machines.Name t.step.machine_is)
      (change-takes P k.visit.asked (deed_call k.deed k.name) (deed_told k.deed came) k.visit sent turn came old next t.step.visit after others refl flight t.step.step)
  takes-by (stat k) wsize sent turn came old next new after others flight g w t =
      took-as (stat_left P k) sent turn old.repeats next (stat t.step.machine) new after.repeats (t.machine_is ∙ ap machines.Name t.step.machine_is)
      (stat-takes P k.asked k sent turn came old next t.step.machine after others refl flight t.step.step)
  takes-by (access k) wsize sent turn came old next new after others flight g w t =
      took-as (visit_left P k.visit) sent turn old.repeats next (access (record k { visit = t.step.visit })) new after.repeats (t.machine_is ∙ ap machines.Name t.step.machine_is)
      (show-takes P k.visit.asked (access_call k.bits) (access_attr came) (access_told came) k.visit sent turn came old next t.step.visit after others refl flight t.step.step)
  takes-by (text k) wsize sent turn came old next new after others flight g w t =
      took-as (visit_left P k.visit) sent turn old.repeats next (text (record k { visit = t.step.visit })) new after.repeats (t.machine_is ∙ ap machines.Name t.step.machine_is)
      (text-takes k.visit.asked k.visit sent turn came old next t.step.visit after others refl flight t.step.step)
  takes-by (removal k) wsize sent turn came old next new after others flight g w t = (
    removal t.step.machine,
    t.machine_is ∙ ap machines.Name t.step.machine_is,
    remove-takes P target only_seek k sent turn came old next t.step.machine after others flight g t.step.step,
  )
  takes-by (rename k) wsize sent turn came old next new after others flight g w t =
      took-as (pair_left P k.pair) sent turn old.repeats next (rename (record k { pair = t.step.pair })) new after.repeats (t.machine_is ∙ ap machines.Name t.step.machine_is)
      (rename-takes k.pair.asked k sent turn came old next t.step.pair after others refl flight t.step.step)
  takes-by (link k) wsize sent turn came old next new after others flight g w t =
      took-as (pair_left P k.pair) sent turn old.repeats next (link (record k { pair = t.step.pair })) new after.repeats (t.machine_is ∙ ap machines.Name t.step.machine_is)
      (link-takes k.pair.asked k sent turn came old next t.step.pair after others refl flight t.step.step)
  takes-by (sym_link k) wsize sent turn came old next new after others flight g w t =
      took-as (visit_left P k.visit) sent turn old.repeats next (sym_link (record k { visit = t.step.visit })) new after.repeats (t.machine_is ∙ ap machines.Name t.step.machine_is)
      (sym-takes k.visit.asked k sent turn came old next t.step.visit after others refl flight t.step.step)
  takes-by (list k) wsize sent turn came old next new after others flight g w t =
      took-as (list_left P no_page k) sent turn old.repeats next (list t.step.machine) new after.repeats (t.machine_is ∙ ap machines.Name t.step.machine_is)
      (list-takes P no_page k.visit.asked k sent turn came old next t.step.machine after others refl flight t.step.step)
  takes-by (truncate k) wsize sent turn came old next new after others flight g w t =
      took-as (truncate_left k.state) sent turn old.repeats next (truncate (record k { state = truncates.took_state k.state came sent turn old.repeats })) new after.repeats
      (t.machine_is ∙ ap machines.File t.step.machine_is)
      (subst (λ (n : Step). TakesCosts P (truncate_left k.state) sent turn old.repeats n (truncate_left (truncates.took_state k.state came sent turn old.repeats)) after.repeats) (sym t.step.next_is)
      (truncate-takes k.state k sent turn came old.repeats after.repeats others flight
      (λ file upto is. ap (λ (q : Shelf). q.repeats) (t.step.shelf_is ∙ ap (λ (state : Truncating). truncates.took_shelf state k came sent turn after.attrs after.back old) is))))
  takes-by (close k) wsize sent turn came old next new after others flight g w t =
      took-as (close_left k.state) sent turn old.repeats next (close (record k { state = t.step.state })) new after.repeats (t.machine_is ∙ ap machines.File t.step.machine_is)
      (close-takes P no_saved k.state wsize k sent turn came old next t.step.state after others flight w t.step.step)
  takes-by (on_path k) wsize sent turn came old next new after others flight g w t =
      let s = sends-path next t.machine others (subst (Counts next others) t.machine_is (counts-calls.take wsize (machines.Path k) sent turn came old next new after others t tt flight))
      (subst (AskedOf Expects next) t.machine_is (expects-laws.takes (machines.Path k) wsize sent turn came old next new after others flight t).0) in
      (on_path t.machine, t.machine_is, path-takes P no_saved k.arrived wsize k sent turn came old next t.machine after others refl flight t.step s w)
  takes-by (read s) wsize sent turn came old next new after others flight g w t = (
    read (record { k = t.step.machine; known = known-takes s.k.reading sent turn came old.repeats s.k old.pages old.back next t.step.machine after.pages refl s.known t.step.step }),
    t.machine_is ∙ ap machines.File t.step.machine_is,
    read-takes P start only_read s.k.reading sent turn came old.repeats after.repeats s.k old.pages old.back next t.step.machine after.pages refl s.known t.step.repeats w t.step.step,
  )

  -- ---- the first step

  front-less : (n : ℕ) (path : List (List ℕ)) → length (take n path) ≤ length path
  front-less zero path = omega arith
  front-less (suc n) [] = omega arith
  front-less (suc n) (name ∷ names_) = let rest = front-less n names_ in omega (arith, rest)

  -- the operations of which this says how often they ask
  abbrev pub IsCovered : Op → Type 0
  IsCovered (ops.OpenFile slot mode path) = 1 ≤ length path
  IsCovered (ops.Put path offset bytes) = 1 ≤ length path
  IsCovered (ops.Read slot offset count) = Unit {0}
  IsCovered (ops.Truncate slot size) = Unit {0}
  IsCovered (ops.Close slot) = Unit {0}
  IsCovered (ops.Stat path) = Unit {0}
  IsCovered (ops.Access path bits) = Unit {0}
  IsCovered (ops.MakeDir path) = Unit {0}
  IsCovered (ops.RemoveDir path) = Unit {0}
  IsCovered (ops.Remove path) = Unit {0}
  IsCovered (ops.Rename from to) = Unit {0}
  IsCovered (ops.Link from to) = Unit {0}
  IsCovered (ops.SymLink path target) = Unit {0}
  IsCovered (ops.ReadLink path) = Unit {0}
  IsCovered (ops.List path) = Unit {0}
  IsCovered op = ⊥

  abbrev pub at_first : Op → ℕ
  at_first op = 3 + names_in op

  goes-more : (had more : ℕ) (next : Step) (new : Machine) → had ≤ more → Goes had next new → Goes more next new
  goes-more had more next new wide g = (g.0, g.1, costs-more P had more next (left g.0) wide g.2)

  front-short : (n : ℕ) (path : List (List ℕ)) → length (take n path) ≤ n
  front-short zero path = omega arith
  front-short (suc n) [] = omega arith
  front-short (suc n) (name ∷ names_) = let rest = front-short n names_ in omega (arith, rest)

  starts-path : (names_of : List (List ℕ)) (opener : Opener) (wsize : ℕ) (turn : Turn) (old : Shelf) (next : Step) (new : Machine) (after : Shelf) → 1 ≤ length names_of
      → Starts wsize (path_of m names_of opener) turn old next new after → Goes (3 + (length names_of + 0)) next new
  starts-path names_of opener wsize turn old next new after named t =
      let k : PathMachine = record { walk = pairs.walk_of m.root (front_of names_of); opener = opener; arrived = false } in
      let s = sends-path next t.machine 0 (subst (Counts next 0) t.machine_is (counts-calls.start wsize (machines.Path k) turn old next new after t refl))
      (subst (AskedOf Expects next) t.machine_is (expects-laws.starts (machines.Path k) wsize turn old next new after t)) in
      let short = front-short (length names_of - 1) names_of in
      goes-more (length (front_of names_of) + 4) (3 + (length names_of + 0)) next new (omega (arith, named, short))
      (on_path t.machine, t.machine_is, path-starts P no_saved (slot_taken opener old.opens) wsize k turn old next t.machine after refl t.step s)

  starts-by : (lane : ℕ) (op : Op) (wsize : ℕ) (turn : Turn) (old : Shelf) (next : Step) (new : Machine) (after : Shelf) → IsCovered op → Starts wsize (machine_of m lane op) turn old next new after
      → Goes (at_first op) next new
  starts-by lane (ops.Truncate slot size) wsize turn old next new after is t =
      let k : TruncateFile = record { lane = lane; slot = slot; size = size; state = truncating.Idle } in
      goes-as 3 (truncates.started_next k turn old) next (truncate (record k { state = truncates.started_state k turn old })) new t.step.next_is (t.machine_is ∙ ap machines.File t.step.machine_is)
      (truncate-starts (truncates.found_file k old) k turn old 3 (omega arith))
  starts-by lane (ops.Stat path) wsize turn old next new after is t =
      goes-more (length path + 1) (3 + (length path + 0)) next new (omega arith) (resumes-by (stat (record { walk = pairs.walk_of m.root path; asked = false })) wsize turn old next new after t)
  starts-by lane (ops.Access path bits) wsize turn old next new after is t =
      goes-more (length path + 1) (3 + (length path + 0)) next new (omega arith) (resumes-by (access (record { visit = visiting.visit_of m.root path; bits = bits })) wsize turn old next new after t)
  starts-by lane (ops.MakeDir path) wsize turn old next new after is t =
      let less = front-less (length path - 1) path in
      goes-more (length (front_of path) + 1) (3 + (length path + 0)) next new (omega (arith, less))
      (resumes-by (change (record { visit = visiting.visit_of m.root (front_of path); name = last_of path; deed = deeds.Make })) wsize turn old next new after t)
  starts-by lane (ops.RemoveDir path) wsize turn old next new after is t =
      let less = front-less (length path - 1) path in
      goes-more (length (front_of path) + 1) (3 + (length path + 0)) next new (omega (arith, less))
      (resumes-by (change (record { visit = visiting.visit_of m.root (front_of path); name = last_of path; deed = deeds.Remove })) wsize turn old next new after t)
  starts-by lane (ops.Remove path) wsize turn old next new after is t =
      let less = front-less (length path - 1) path in
      goes-more (length (front_of path) + 3) (3 + (length path + 0)) next new (omega (arith, less))
      (resumes-by (removal (record { walk = pairs.walk_of m.root (front_of path); name = last_of path; deed = None; asked = false })) wsize turn old next new after t)
  starts-by lane (ops.Rename from to) wsize turn old next new after is t =
      let less = front-less (length from - 1) from in
      let also = front-less (length to - 1) to in
      goes-more (length (front_of from) + length (front_of to) + 1) (3 + (length from + (length to + 0))) next new (omega (arith, less, also))
      (resumes-by (rename (record { pair = pairs.pair_of m.root (front_of from) (front_of to); from = last_of from; to = last_of to })) wsize turn old next new after t)
  starts-by lane (ops.Link from to) wsize turn old next new after is t =
      let less = front-less (length to - 1) to in
      goes-more (length from + length (front_of to) + 1) (3 + (length from + (length to + 0))) next new (omega (arith, less))
      (resumes-by (link (record { pair = pairs.pair_of m.root from (front_of to); name = last_of to })) wsize turn old next new after t)
  starts-by lane (ops.SymLink path target) wsize turn old next new after is t =
      let less = front-less (length path - 1) path in
      goes-more (length (front_of path) + 1) (3 + (length path + 0)) next new (omega (arith, less))
      (resumes-by (sym_link (record { visit = visiting.visit_of m.root (front_of path); name = last_of path; target = target })) wsize turn old next new after t)
  starts-by lane (ops.ReadLink path) wsize turn old next new after is t =
      goes-more (length path + 1) (3 + (length path + 0)) next new (omega arith) (resumes-by (text (record { visit = visiting.visit_of m.root path })) wsize turn old next new after t)
  starts-by lane (ops.List path) wsize turn old next new after is t =
      goes-more (length path) (3 + (length path + 0)) next new (omega arith) (resumes-by (list (listing.list_of m.root path)) wsize turn old next new after t)
  starts-by lane (ops.OpenFile slot mode names_of) wsize turn old next new after is t = starts-path names_of (open_of m lane slot mode (last_of names_of)) wsize turn old next new after is t
  starts-by lane (ops.Read slot offset count) wsize turn old next new after is t =
      let k : ReadFile = own_read lane slot offset count m.rsize m.noac some_read in
      goes-more 2 3 next new (omega arith) (
        read (record {
          k = t.step.machine;
          known = known-starts lane slot offset count m.rsize m.noac some_read (finite.get old.opens (lane, slot)) turn old.pages old.back next t.step.machine after.pages t.step.step;
        }),
        t.machine_is ∙ ap machines.File t.step.machine_is,
        read-starts P start only_read (finite.get old.opens (lane, slot)) turn k old.pages old.back next t.step.machine after.pages t.step.step,
      )
  starts-by lane (ops.Write slot offset bytes) wsize turn old next new after is t = absurd is
  starts-by lane (ops.Fill slot offset count byte) wsize turn old next new after is t = absurd is
  starts-by lane (ops.Sync slot) wsize turn old next new after is t = absurd is
  starts-by lane (ops.Close slot) wsize turn old next new after is t =
      let k : CloseFile = record { lane = lane; slot = slot; state = closing.Idle } in
      goes-more 1 3 next new (omega arith) (close (record k { state = t.step.state }), t.machine_is ∙ ap machines.File t.step.machine_is, close-starts P no_saved wsize k turn old next t.step.state after t.step.step)
  starts-by lane (ops.Put names_of offset bytes) wsize turn old next new after is t = starts-path names_of (put_of m lane (last_of names_of) offset bytes) wsize turn old next new after is t

  -- ---- the laws

  abbrev pub Left : List Entry → ℕ → Op → Machine → ℕ → Type 0
  Left h x op machine n = LeftTo P wrap left h x op machine n

  spends-so : (h : List Entry) (x : ℕ) (op : Op) (had more : ℕ) (next : Step) (new : Machine) → had ≤ more → Goes had next new → Spends P Left h x op more next new
  spends-so h x op had more next new wide g =
      subst (λ (k : Machine). Spends P Left h x op more next k) (sym g.1) (spends P wrap left h x op more next g.0 (costs-more P had more next (left g.0) wide g.2))

  takes-more : (had more : ℕ) (sent turn : Turn) (old : List Repeat) (next : Step) (after : ℕ) (later : List Repeat) → had ≤ more → TakesCosts P had sent turn old next after later
      → TakesCosts P more sent turn old next after later
  takes-more had more sent turn old next after later wide (repeats_it table few) = repeats_it table (omega (arith, wide, few))
  takes-more had more sent turn old next after later wide (goes_on table c) = goes_on table (costs-more P had more next after wide c)

  -- the names that were looked for have lower numbers, and these stay below 2³²
  deed-grown : (deed : Option Deed) (counter : ℕ) → counter ≤ 4294967294 → DeedBelow counter deed → Grown deed counter
  deed-grown None counter low b = omega (arith, low)
  deed-grown (Some Look) counter low b = omega (arith, low)
  deed-grown (Some (Seek file to)) counter low b = (
    omega (arith, low),
    (
        let number = ap number_of b.is ∙ silly-number b.number (let before = b.low in omega (arith, low, before)) in
        let before = b.low in
        omega (arith, number, before)
        ),
  )
  deed-grown (Some (Move file to)) counter low b = omega (arith, low)
  deed-grown (Some Remove) counter low b = omega (arith, low)

  known-of : (s : State) (counter : ℕ) → counter ≤ 4294967294 → SeeksBelow (wrap s) counter → Known s counter
  known-of (removal k) counter low b = deed-grown k.deed counter low b
  known-of s counter low b = tt

  err-found : (fault : Fault) (found : List ℕ) → found_by (Err fault) ≡ Ok found → ⊥
  err-found fault found e = let no_way : ◌≡◌ {A = Result (List ℕ) Fault} (Err fault) (Ok found) = e in cc

  seen-known : (setup : Setup) (H h : List Entry) (x : ℕ) (op : Op) (s : State) (came : Result Reply Fault) (old : Shelf) → Seen m setup H h x op (wrap s) came old → (found : List ℕ)
      → found_by came ≡ Ok found → Known s old.counter
  seen-known setup H h x op s came old (came_now b) found is = subst (λ (k : Shelf). Known s k.counter) b.shelf
      (known-of s b.view.shelf.counter (reached-low m setup b.k b.view b.reached) ((reached-numbered m setup b.k b.view b.reached).below b.at (record { number = b.number; state = Busy (wrap s) }) b.there))
  seen-known setup H h x op s came old (never_made fault is_fault) found is = absurd (err-found fault found (sym (ap found_by is_fault) ∙ is))

  pub equal-laws : (setup : Setup) (H : List Entry) → SeenLaws m setup H P (NoReply P) IsCovered at_first Left
  equal-laws setup H = record {
    starts = λ h lane line op wsize turn old next new after is t.
        spends-so (h ++ Began lane line op ∷ []) (length h) op (at_first op) (at_first op) next new (omega arith) (starts-by lane op wsize turn old next new after is t);
    resumes = λ h x op machine wsize turn old next new after had is l r.
        spends-so h x op (left l.k) had next new l.enough (resumes-by l.k wsize turn old next new after (subst (λ (k : Machine). Resumes wsize k turn old next new after) l.is r));
    takes = λ h x op machine wsize sent turn came old next new after others had is l flight c seen t.
        let s = takes-by l.k wsize sent turn came old next new after others (subst (λ (k : Machine). in_flight k ≡ others + 1) l.is flight)
        (seen-known setup H h x op l.k came old (subst (λ (k : Machine). Seen m setup H h x op k came old) l.is seen)) (tabled h x machine wsize sent turn came old next new after (omega (arith, flight)) c t)
        (subst (λ (k : Machine). Takes wsize k sent turn came old next new after) l.is t) in
        subst (λ (k : Machine). Took P (NoReply P) Left h x op had sent turn came old.repeats next k after.repeats) (sym s.1)
        (took P wrap left h x op had sent turn came old.repeats next s.0 after.repeats (takes-more (left l.k) had sent turn old.repeats next (left s.0) after.repeats l.enough s.2));
    grows = λ h e x op machine n l. record { k = l.k; is = l.is; enough = l.enough };
  }
