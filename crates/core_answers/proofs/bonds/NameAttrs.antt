-- What an operation on names learns of attributes was shown by what came of its call.
use Rattle.core_answers.proofs.Prelude.{◌≡◌, ℕ, nat_eq, Bool, true, false, List, Option, Some, None, Result, Ok, Err, inl, inr, refl, ap, subst, ◌∙◌, if◌then◌else◌, Attrs, KeptAttr, Attr, DirKept, FileKept, Fault, Value, Call, Reply, of_object, Step, Shelf, Turn, DirDeed, Link, ListDir, Pair, PairStep, Deed, Look, Seek, Move, Remove, RemoveFile, Rename, Stat, SymLink, Visit, VisitStep, Walk, WalkStep, access_attr, deed_told, linked_told, TakesLink, moved_told, TakesText, TakesRename, TakesShow, sym_link_call, sym_linked_told, ChangesByCopy, TakesSymLink, lacking, NameMachine}
use Rattle.claims.specs.Shown.{of_target, of_given}
use Rattle.name_ops.specs.Moving.{given_to, to_of, RenewsMoved}
use Rattle.name_ops.specs.ReadLink.{text_attr}
use Rattle.std.specs.Cmp.Lexicographic.{pointwise}
use Rattle.page_cache.proofs.Inserts.{same-is}
use Rattle.nfs_dir_calls.specs.declared.keeping.DirKept.TheVariants as dir_kept
use Rattle.nfs_file_calls.specs.declared.owned.FileKept.TheVariants as kept
use Rattle.world_model.specs.declared.message.Reply.TheVariants as replies
use Rattle.name_ops.specs.declared.dir_change.DirDeed.TheVariants as deeds
use Rattle.name_ops.specs.declared.moving.Moved.{Moved}
use Rattle.name_ops.specs.declared.told.Told.{Told}
use Rattle.name_ops.specs.declared.walk.WalkStep.TheVariants as walks
use Rattle.name_ops.specs.Changing as changing
use Rattle.name_ops.specs.ListDir.{page_attr, TakesList}
use Rattle.name_ops.specs.Looking as looking
use Rattle.name_ops.specs.MakeDir as making
use Rattle.name_ops.specs.Pairs as pairs
use Rattle.name_ops.specs.RemoveDir as removing
use Rattle.name_ops.specs.RemoveFile as removals
use Rattle.name_ops.specs.Stat as stats
use Rattle.name_ops.specs.Visiting.{visit_shelf, VisitTakes}
use Rattle.name_ops.specs.Walking.{go_next, go_shelf, followed_shelf, waiting_name, Takes}
use Rattle.op_machines.specs.declared.name_machine.NameMachine.TheVariants as machines
use Rattle.op_machines.specs.NameSteps.{NameGoes, NameTakes}
use Rattle.core_answers.proofs.bonds.Learnt.{IsOn, AreOn, Good, May, Tells, MayOf, good-as, learns-good, renews-good}
use Rattle.core_answers.proofs.bonds.NameCalls.{PairAsks, DeedAsks, NameAsks}

-- ---- steps that learn nothing

abbrev pub SameAttrs : Shelf → Shelf → Type 0
SameAttrs old new = new.attrs ≡ old.attrs

pub same-as : (old to new : Shelf) → new ≡ to → SameAttrs old to → SameAttrs old new
same-as old to new is same = ap (λ (s : Shelf). s.attrs) is ∙ same

same-if : (b : Bool) (old x y : Shelf) → SameAttrs old x → SameAttrs old y → SameAttrs old (if b then x else y)
same-if true old x y f g = f
same-if false old x y f g = g

visit-same : (v : Visit) (turn : Turn) (old : Shelf) → SameAttrs old (visit_shelf v turn old)
visit-same v turn old = same-if v.asked old old (go_shelf v.walk turn old) refl refl

stat-same : (m : Stat) (turn : Turn) (old : Shelf) → SameAttrs old (stats.stat_shelf m turn old)
stat-same m turn old = same-if m.asked old old (go_shelf m.walk turn old) refl refl

first-same : (step : WalkStep) (p : Pair) (turn : Turn) (old : Shelf) → SameAttrs old (pairs.first_shelf step p turn old)
first-same (walks.Send call) p turn old = refl
first-same walks.Wait p turn old = refl
first-same (walks.At first) p turn old = refl
first-same (walks.Refused fault) p turn old = refl

pair-same : (p : Pair) (turn : Turn) (old : Shelf) → SameAttrs old (pairs.pair_shelf p turn old)
pair-same p turn old =
    same-if (pairs.waits p) old old (pairs.on_shelf p turn old) refl
    (first-same (go_next p.first turn old) (pairs.walked_first p turn old) turn (go_shelf p.first turn old))

goes-same : (deed : Option Deed) (m : RemoveFile) (turn : Turn) (old : Shelf) (next : Step) (new : RemoveFile) (after : Shelf) → removals.Goes deed m turn old next new after → SameAttrs old after
goes-same (Some deed) m turn old next new after g = same-as old old after g.shelf_is refl
goes-same None m turn old next new after g = same-as old (go_shelf m.walk turn old) after g.shelf_is refl

remove-same : (asked : Bool) (m : RemoveFile) (turn : Turn) (old : Shelf) (next : Step) (new : RemoveFile) (after : Shelf) → removals.Resumes asked m turn old next new after → SameAttrs old after
remove-same true m turn old next new after r = same-as old old after r.shelf_is refl
remove-same false m turn old next new after r = goes-same m.deed m turn old next new after r

pub name-goes : (m : NameMachine) (turn : Turn) (old : Shelf) (next : Step) (new : NameMachine) (after : Shelf) → NameGoes m turn old next new after → SameAttrs old after
name-goes (machines.Change m) turn old next new after s = same-as old (visit_shelf m.visit turn old) after s.shelf_is (visit-same m.visit turn old)
name-goes (machines.Stat m) turn old next new after s = same-as old (stats.stat_shelf m turn old) after s.shelf_is (stat-same m turn old)
name-goes (machines.Access m) turn old next new after s = same-as old (visit_shelf m.visit turn old) after s.shelf_is (visit-same m.visit turn old)
name-goes (machines.ReadLink m) turn old next new after s = same-as old (visit_shelf m.visit turn old) after s.shelf_is (visit-same m.visit turn old)
name-goes (machines.Remove m) turn old next new after s = remove-same m.asked m turn old next s.machine after s.step
name-goes (machines.Rename m) turn old next new after s = same-as old (pairs.pair_shelf m.pair turn old) after s.shelf_is (pair-same m.pair turn old)
name-goes (machines.Link m) turn old next new after s = same-as old (pairs.pair_shelf m.pair turn old) after s.shelf_is (pair-same m.pair turn old)
name-goes (machines.SymLink m) turn old next new after s = same-as old (visit_shelf m.visit turn old) after s.shelf_is (visit-same m.visit turn old)
name-goes (machines.List m) turn old next new after s = same-as old (visit_shelf m.visit turn old) after s.shelf_is (visit-same m.visit turn old)

-- ---- what came of a call

module _ (P : List ℕ × KeptAttr → Type 0) (most : ℕ) (call : Call) (now : ℕ) where
  dir-looked : (k : DirKept) (dir : List ℕ) (old new : Attrs) → IsOn dir call → Tells P most call now (Ok (replies.Dir k)) → looking.LookedAttrs dir now (Ok (replies.Dir k)) old new
      → Good P most old → Good P most new
  dir-looked (dir_kept.Lookup found attr dir_attr) dir old new on told l g =
      learns-good P most dir dir_attr now l.mid new l.rest (λ a is. told _ refl dir a (of_object on is))
      (learns-good P most found attr now old l.mid l.first (λ a is. told _ refl found a (of_given refl is)) g)
  dir-looked (dir_kept.LookupFail status dir_attr) dir old new on told l g = learns-good P most dir dir_attr now old new l (λ a is. told _ refl dir a (of_object on is)) g
  dir-looked k dir old new on told l g = good-as P most old new l g

  pub looked : (came : Result Reply Fault) (dir : List ℕ) (old new : Attrs) → IsOn dir call → Tells P most call now came → looking.LookedAttrs dir now came old new
      → Good P most old → Good P most new
  looked (Ok (replies.Dir k)) dir old new on told l g = dir-looked k dir old new on told l g
  looked (Ok (replies.File k)) dir old new on told l g = good-as P most old new l g
  looked (Ok (replies.Mount k)) dir old new on told l g = good-as P most old new l g
  looked (Err fault) dir old new on told l g = good-as P most old new l g

  -- ---- changes of a directory

  -- what a reply tells of a change may be learnt
  pub record Fits (dir : List ℕ) (told : Told) : Type 0 where
    pub object : (f : List ℕ) (a : Attr) → told.object ≡ Some f → told.attr ≡ Some a → May P most now f a
    pub place : (a : Attr) → told.dir ≡ Some a → May P most now dir a

  none-told : (dir : List ℕ) (fault : Fault) → Fits dir (changing.refused_by fault)
  none-told dir fault = record { object = λ f a is shown. absurd cc; place = λ a is. absurd cc }

  learns-of : (object : Option (List ℕ)) (attr : Option Attr) (dir : List ℕ) (after : Option Attr) (old new : Attrs)
      → ((f : List ℕ) (a : Attr) → object ≡ Some f → attr ≡ Some a → May P most now f a) → MayOf P most now dir after
      → changing.LearnsOf object attr dir after now old new → Good P most old → Good P most new
  learns-of (Some object) attr dir after old new of at l g =
      renews-good P most dir after now l.mid new l.rest at (learns-good P most object attr now old l.mid l.first (λ a is. of object a refl is) g)
  learns-of None attr dir after old new of at l g = renews-good P most dir after now old new l at g

  pub learns-told : (unmade : Bool) (told : Told) (dir : List ℕ) (old new : Attrs) → Fits dir told → changing.LearnsTold unmade told dir now old new → Good P most old → Good P most new
  learns-told true told dir old new f l g = good-as P most old new l g
  learns-told false told dir old new f l g = learns-of told.object told.attr dir told.dir old new f.object f.place l g

  dir-made : (k : DirKept) (dir : List ℕ) → IsOn dir call → Tells P most call now (Ok (replies.Dir k)) → Fits dir (making.made_told (Ok (replies.Dir k)))
  dir-made (dir_kept.MkDir found attr wcc) dir on told = record { object = λ f a is shown. told _ refl f a (of_given is shown); place = λ a is. told _ refl dir a (of_object on is) }
  dir-made (dir_kept.MkDirFail status wcc) dir on told = record { object = λ f a is shown. absurd cc; place = λ a is. told _ refl dir a (of_object on is) }
  dir-made k dir on told = none-told dir _

  made-fits : (came : Result Reply Fault) (dir : List ℕ) → IsOn dir call → Tells P most call now came → Fits dir (making.made_told came)
  made-fits (Ok (replies.Dir k)) dir on told = dir-made k dir on told
  made-fits (Ok (replies.File k)) dir on told = none-told dir _
  made-fits (Ok (replies.Mount k)) dir on told = none-told dir _
  made-fits (Err fault) dir on told = none-told dir fault

  dir-removed : (k : DirKept) (dir : List ℕ) → IsOn dir call → Tells P most call now (Ok (replies.Dir k)) → Fits dir (removing.removed_told (Ok (replies.Dir k)))
  dir-removed (dir_kept.RmDir wcc) dir on told = record { object = λ f a is shown. absurd cc; place = λ a is. told _ refl dir a (of_object on is) }
  dir-removed (dir_kept.RmDirFail status wcc) dir on told = record { object = λ f a is shown. absurd cc; place = λ a is. told _ refl dir a (of_object on is) }
  dir-removed k dir on told = none-told dir _

  removed-fits : (came : Result Reply Fault) (dir : List ℕ) → IsOn dir call → Tells P most call now came → Fits dir (removing.removed_told came)
  removed-fits (Ok (replies.Dir k)) dir on told = dir-removed k dir on told
  removed-fits (Ok (replies.File k)) dir on told = none-told dir _
  removed-fits (Ok (replies.Mount k)) dir on told = none-told dir _
  removed-fits (Err fault) dir on told = none-told dir fault

  deed-fits : (deed : DirDeed) (came : Result Reply Fault) (dir : List ℕ) → IsOn dir call → Tells P most call now came → Fits dir (deed_told deed came)
  deed-fits deeds.Make came dir on told = made-fits came dir on told
  deed-fits deeds.Remove came dir on told = removed-fits came dir on told

  dir-linked-text : (k : DirKept) (dir : List ℕ) → IsOn dir call → Tells P most call now (Ok (replies.Dir k)) → Fits dir (sym_linked_told (Ok (replies.Dir k)))
  dir-linked-text (dir_kept.SymLink found attr wcc) dir on told = record { object = λ f a is shown. told _ refl f a (of_given is shown); place = λ a is. told _ refl dir a (of_object on is) }
  dir-linked-text (dir_kept.SymLinkFail status wcc) dir on told = record { object = λ f a is shown. absurd cc; place = λ a is. told _ refl dir a (of_object on is) }
  dir-linked-text k dir on told = none-told dir _

  sym-linked-fits : (came : Result Reply Fault) (dir : List ℕ) → IsOn dir call → Tells P most call now came → Fits dir (sym_linked_told came)
  sym-linked-fits (Ok (replies.Dir k)) dir on told = dir-linked-text k dir on told
  sym-linked-fits (Ok (replies.File k)) dir on told = none-told dir _
  sym-linked-fits (Ok (replies.Mount k)) dir on told = none-told dir _
  sym-linked-fits (Err fault) dir on told = none-told dir fault

  dir-file-removed : (k : DirKept) (dir : List ℕ) → IsOn dir call → Tells P most call now (Ok (replies.Dir k)) → Fits dir (removals.removed_told (Ok (replies.Dir k)))
  dir-file-removed (dir_kept.Remove wcc) dir on told = record { object = λ f a is shown. absurd cc; place = λ a is. told _ refl dir a (of_object on is) }
  dir-file-removed (dir_kept.RemoveFail status wcc) dir on told = record { object = λ f a is shown. absurd cc; place = λ a is. told _ refl dir a (of_object on is) }
  dir-file-removed k dir on told = none-told dir _

  file-removed-fits : (came : Result Reply Fault) (dir : List ℕ) → IsOn dir call → Tells P most call now came → Fits dir (removals.removed_told came)
  file-removed-fits (Ok (replies.Dir k)) dir on told = dir-file-removed k dir on told
  file-removed-fits (Ok (replies.File k)) dir on told = none-told dir _
  file-removed-fits (Ok (replies.Mount k)) dir on told = none-told dir _
  file-removed-fits (Err fault) dir on told = none-told dir fault

  dir-linked : (k : DirKept) (file dir : List ℕ) → AreOn file dir call → Tells P most call now (Ok (replies.Dir k)) → Fits dir (linked_told file (Ok (replies.Dir k)))
  dir-linked (dir_kept.Link attr wcc) file dir on told = record {
    object = λ f a is shown. told _ refl f a (of_object (on.first ∙ is) shown);
    place = λ a is. told _ refl dir a (of_target on.second is);
  }
  dir-linked (dir_kept.LinkFail status attr wcc) file dir on told = record {
    object = λ f a is shown. told _ refl f a (of_object (on.first ∙ is) shown);
    place = λ a is. told _ refl dir a (of_target on.second is);
  }
  dir-linked k file dir on told = none-told dir _

  linked-fits : (came : Result Reply Fault) (file dir : List ℕ) → AreOn file dir call → Tells P most call now came → Fits dir (linked_told file came)
  linked-fits (Ok (replies.Dir k)) file dir on told = dir-linked k file dir on told
  linked-fits (Ok (replies.File k)) file dir on told = none-told dir _
  linked-fits (Ok (replies.Mount k)) file dir on told = none-told dir _
  linked-fits (Err fault) file dir on told = none-told dir fault

  -- what a reply tells of two directories
  pub record FitsBoth (from to : List ℕ) (told : Moved) : Type 0 where
    pub source : (a : Attr) → told.from ≡ Some a → May P most now from a
    pub target : (a : Attr) → told.to ≡ Some a → May P most now to a

  none-moved : (from to : List ℕ) (told : Moved) → told.from ≡ None → told.to ≡ None → FitsBoth from to told
  none-moved from to told no_from no_to = record { source = λ a is. absurd cc; target = λ a is. absurd cc }

  dir-moved : (k : DirKept) (from to : List ℕ) → AreOn from to call → Tells P most call now (Ok (replies.Dir k)) → FitsBoth from to (moved_told (Ok (replies.Dir k)))
  dir-moved (dir_kept.Rename source target) from to on told = record {
    source = λ a is. told _ refl from a (of_object on.first is);
    target = λ a is. told _ refl to a (of_target on.second is);
  }
  dir-moved (dir_kept.RenameFail status source target) from to on told = record {
    source = λ a is. told _ refl from a (of_object on.first is);
    target = λ a is. told _ refl to a (of_target on.second is);
  }
  dir-moved k from to on told = none-moved from to _ refl refl

  moved-fits : (came : Result Reply Fault) (from to : List ℕ) → AreOn from to call → Tells P most call now came → FitsBoth from to (moved_told came)
  moved-fits (Ok (replies.Dir k)) from to on told = dir-moved k from to on told
  moved-fits (Ok (replies.File k)) from to on told = none-moved from to _ refl refl
  moved-fits (Ok (replies.Mount k)) from to on told = none-moved from to _ refl refl
  moved-fits (Err fault) from to on told = none-moved from to _ refl refl

  -- within one directory either side tells of it
  given-fits : (same : Bool) (from to : List ℕ) (told : Moved) → (same ≡ true → from ≡ to) → FitsBoth from to told → MayOf P most now to (given_to same told.from told.to)
  given-fits same from to told one f = by told.to refl
    where
      left : (b : Bool) → same ≡ b → MayOf P most now to (given_to b told.from None)
      left true is a e = subst (λ (d : List ℕ). May P most now d a) (one is) (f.source a e)
      left false is a e = absurd (let no_way : None ≡ Some a = e in cc)

      by : (o : Option Attr) → told.to ≡ o → MayOf P most now to (given_to same told.from o)
      by (Some attr) is a e = f.target a (is ∙ e)
      by None is a e = left same refl a e

  renews-both : (unmade : Bool) (from to : List ℕ) (told : Moved) (old new : Attrs) → FitsBoth from to told → RenewsMoved unmade from to told now old new → Good P most old → Good P most new
  renews-both true from to told old new f l g = good-as P most old new l g
  renews-both false from to told old new f l g =
      renews-good P most to (to_of from to told) now l.mid new l.second
      (given-fits (pointwise nat_eq from to) from to told (λ is. same-is from to is) f)
      (renews-good P most from told.from now old l.mid l.first f.source g)

  -- ---- what is shown of an object

  file-access : (k : FileKept) (file : List ℕ) → IsOn file call → Tells P most call now (Ok (replies.File k)) → MayOf P most now file (access_attr (Ok (replies.File k)))
  file-access (kept.Access attr bits) file on told = λ a is. told _ refl file a (of_object on is)
  file-access (kept.AccessFail status attr) file on told = λ a is. told _ refl file a (of_object on is)
  file-access k file on told = λ a is. absurd cc

  access-fits : (came : Result Reply Fault) (file : List ℕ) → IsOn file call → Tells P most call now came → MayOf P most now file (access_attr came)
  access-fits (Ok (replies.File k)) file on told = file-access k file on told
  access-fits (Ok (replies.Dir k)) file on told = λ a is. absurd cc
  access-fits (Ok (replies.Mount k)) file on told = λ a is. absurd cc
  access-fits (Err fault) file on told = λ a is. absurd cc

  file-got : (k : FileKept) (file : List ℕ) → IsOn file call → Tells P most call now (Ok (replies.File k)) → MayOf P most now file (stats.got_attr (Ok (replies.File k)))
  file-got (kept.GetAttr attr) file on told = λ a is. told _ refl file a (of_object on is)
  file-got k file on told = λ a is. absurd cc

  got-fits : (came : Result Reply Fault) (file : List ℕ) → IsOn file call → Tells P most call now came → MayOf P most now file (stats.got_attr came)
  got-fits (Ok (replies.File k)) file on told = file-got k file on told
  got-fits (Ok (replies.Dir k)) file on told = λ a is. absurd cc
  got-fits (Ok (replies.Mount k)) file on told = λ a is. absurd cc
  got-fits (Err fault) file on told = λ a is. absurd cc

  dir-text : (k : DirKept) (link : List ℕ) → IsOn link call → Tells P most call now (Ok (replies.Dir k)) → MayOf P most now link (text_attr (Ok (replies.Dir k)))
  dir-text (dir_kept.ReadLink attr text) link on told = λ a is. told _ refl link a (of_object on is)
  dir-text (dir_kept.ReadLinkFail status attr) link on told = λ a is. told _ refl link a (of_object on is)
  dir-text k link on told = λ a is. absurd cc

  text-fits : (came : Result Reply Fault) (link : List ℕ) → IsOn link call → Tells P most call now came → MayOf P most now link (text_attr came)
  text-fits (Ok (replies.Dir k)) link on told = dir-text k link on told
  text-fits (Ok (replies.File k)) link on told = λ a is. absurd cc
  text-fits (Ok (replies.Mount k)) link on told = λ a is. absurd cc
  text-fits (Err fault) link on told = λ a is. absurd cc

  dir-page : (k : DirKept) (dir : List ℕ) → IsOn dir call → Tells P most call now (Ok (replies.Dir k)) → MayOf P most now dir (page_attr (Ok (replies.Dir k)))
  dir-page (dir_kept.ReadDirPlus attr verf page eof) dir on told = λ a is. told _ refl dir a (of_object on is)
  dir-page (dir_kept.ReadDirPlusFail status attr) dir on told = λ a is. told _ refl dir a (of_object on is)
  dir-page k dir on told = λ a is. absurd cc

  page-fits : (came : Result Reply Fault) (dir : List ℕ) → IsOn dir call → Tells P most call now came → MayOf P most now dir (page_attr came)
  page-fits (Ok (replies.Dir k)) dir on told = dir-page k dir on told
  page-fits (Ok (replies.File k)) dir on told = λ a is. absurd cc
  page-fits (Ok (replies.Mount k)) dir on told = λ a is. absurd cc
  page-fits (Err fault) dir on told = λ a is. absurd cc

-- ---- the steps

module _ (P : List ℕ × KeptAttr → Type 0) (most : ℕ) (call : Call) (sent turn : Turn) (came : Result Reply Fault) (told : Tells P most call sent.now came) where
  abbrev Stays : Shelf → Shelf → Type 0
  Stays old after = Good P most old.attrs → Good P most after.attrs

  same-good : (old after : Shelf) → SameAttrs old after → Stays old after
  same-good old after same g = good-as P most old.attrs after.attrs same g

  followed-same : (busy : Bool) (w : Walk) (said : Result (List ℕ) Fault) (s : Shelf) → SameAttrs s (followed_shelf busy w said turn s)
  followed-same true w said s = refl
  followed-same false w (Ok found) s = refl
  followed-same false w (Err fault) s = refl

  pub walk-takes : (name : Option (List ℕ)) (w : Walk) (old : Shelf) (next : WalkStep) (new : Walk) (after : Shelf) → IsOn w.spot.dir call
      → Takes name w sent turn came old next new after → Stays old after
  walk-takes (Some name) w old next new after on t g =
      same-good t.heard after
      (same-as t.heard (followed_shelf (looking.look_again sent turn came old) w (looking.found_by came) turn t.heard) after t.shelf_is
      (followed-same (looking.look_again sent turn came old) w (looking.found_by came) t.heard))
      (looked P most call sent.now came w.spot.dir old.attrs t.heard.attrs on told t.hears.attrs g)
  walk-takes None w old next new after on t g = same-good old after (same-as old old after t.shelf_is refl) g

  visit-takes : (v : Visit) (old : Shelf) (next : VisitStep) (new : Visit) (after : Shelf) → IsOn v.walk.spot.dir call → VisitTakes v sent turn came old next new after → Stays old after
  visit-takes v old next new after on t g = walk-takes (waiting_name v.walk) v.walk old t.step t.walked.walk after on t.takes g

  changes : (dir : List ℕ) (again : Call) (said : Told) (old : Shelf) (next : Step) (after : Shelf) → Fits P most call sent.now dir said
      → changing.Changes dir again said sent turn old next after → Stays old after
  changes dir again said old next after f c g = learns-told P most call sent.now said.unmade said dir old.attrs after.attrs f c.attrs g

  change-takes : (asked : Bool) (own : List ℕ → Call) (said : Told) (v : Visit) (old : Shelf) (next : Step) (new : Visit) (after : Shelf) → IsOn v.walk.spot.dir call
      → Fits P most call sent.now v.walk.spot.dir said → changing.TakesChange asked own said v sent turn came old next new after → Stays old after
  change-takes true own said v old next new after on f t g = changes v.walk.spot.dir (own v.walk.spot.dir) said old next after f t.1 g
  change-takes false own said v old next new after on f t g = visit-takes v old t.step new after on t.takes g

  show-takes : (asked : Bool) (own : List ℕ → Call) (attr : Option Attr) (said : Result Value Fault) (v : Visit) (old : Shelf) (next : Step) (new : Visit) (after : Shelf)
      → IsOn v.walk.spot.dir call → MayOf P most sent.now v.walk.spot.dir attr → TakesShow asked own attr said v sent turn came old next new after → Stays old after
  show-takes true own attr said v old next new after on f t g = learns-good P most v.walk.spot.dir attr sent.now old.attrs after.attrs t.1.attrs f g
  show-takes false own attr said v old next new after on f t g = visit-takes v old t.step new after on t.takes g

  text-takes : (asked : Bool) (v : Visit) (old : Shelf) (next : Step) (new : Visit) (after : Shelf) → IsOn v.walk.spot.dir call → TakesText asked v sent turn came old next new after
      → Stays old after
  text-takes true v old next new after on t g =
      learns-good P most v.walk.spot.dir (text_attr came) sent.now old.attrs after.attrs t.1.shows.attrs (text-fits P most call sent.now came v.walk.spot.dir on told) g
  text-takes false v old next new after on t g = visit-takes v old t.step new after on t.takes g

  sym-link-takes : (asked : Bool) (m : SymLink) (old : Shelf) (next : Step) (new : Visit) (after : Shelf) → IsOn m.visit.walk.spot.dir call
      → TakesSymLink asked m sent turn came old next new after → Stays old after
  sym-link-takes true m old next new after on t g = by t.1
    where
      fits : Fits P most call sent.now m.visit.walk.spot.dir (sym_linked_told came)
      fits = sym-linked-fits P most call sent.now came m.visit.walk.spot.dir on told

      by : ChangesByCopy m.visit.walk.spot.dir (sym_link_call m.name m.target m.visit.walk.spot.dir) (sym_linked_told came) sent turn old next after → Good P most after.attrs
      by (inl c) = changes m.visit.walk.spot.dir _ (sym_linked_told came) old next after fits c g
      by (inr c) = changes m.visit.walk.spot.dir _ (lacking (sym_linked_told came)) old next after (record { object = fits.object; place = fits.place }) c.1 g
  sym-link-takes false m old next new after on t g = visit-takes m.visit old t.step new after on t.takes g

  list-takes : (asked : Bool) (m : ListDir) (old : Shelf) (next : Step) (new : ListDir) (after : Shelf) → IsOn m.visit.walk.spot.dir call
      → TakesList asked m sent turn came old next new after → Stays old after
  list-takes true m old next new after on t g =
      learns-good P most m.visit.walk.spot.dir (page_attr came) sent.now old.attrs after.attrs t.attrs (page-fits P most call sent.now came m.visit.walk.spot.dir on told) g
  list-takes false m old next new after on t g = visit-takes m.visit old t.walks.step t.visit after on t.walks.takes g

  stat-takes : (asked : Bool) (m : Stat) (old : Shelf) (next : Step) (new : Stat) (after : Shelf) → IsOn m.walk.spot.dir call → stats.StatTakes asked m sent turn came old next new after
      → Stays old after
  stat-takes true m old next new after on t g =
      learns-good P most m.walk.spot.dir (stats.got_attr came) sent.now old.attrs after.attrs t.1.attrs (got-fits P most call sent.now came m.walk.spot.dir on told) g
  stat-takes false m old next new after on t g = walk-takes (waiting_name m.walk) m.walk old t.step t.walked.walk after on t.takes g

  -- ---- two walks and a call

  pair-takes : (first : Bool) (p : Pair) (old : Shelf) (next : PairStep) (new : Pair) (after : Shelf) → PairAsks false first p call → pairs.PairTakes first p sent turn came old next new after
      → Stays old after
  pair-takes true p old next new after on t g =
      same-good t.heard after (same-as t.heard (pairs.first_shelf t.step t.walked turn t.heard) after t.shelf_is (first-same t.step t.walked turn t.heard))
      (walk-takes (waiting_name p.first) p.first old t.step t.walked.first t.heard on t.takes g)
  pair-takes false p old next new after on t g = walk-takes (waiting_name p.second) p.second old t.step t.walked.second after on t.takes g

  rename-takes : (asked : Bool) (m : Rename) (old : Shelf) (next : Step) (new : Pair) (after : Shelf) → PairAsks asked m.pair.first.asked m.pair call
      → TakesRename asked m sent turn came old next new after → Stays old after
  rename-takes true m old next new after on t g =
      renews-both P most call sent.now (moved_told came).unmade m.pair.first.spot.dir m.pair.second.spot.dir (moved_told came) old.attrs after.attrs
      (moved-fits P most call sent.now came m.pair.first.spot.dir m.pair.second.spot.dir on told) t.1.attrs g
  rename-takes false m old next new after on t g = pair-takes m.pair.first.asked m.pair old t.step new after on t.takes g

  link-takes : (asked : Bool) (m : Link) (old : Shelf) (next : Step) (new : Pair) (after : Shelf) → PairAsks asked m.pair.first.asked m.pair call
      → TakesLink asked m sent turn came old next new after → Stays old after
  link-takes true m old next new after on t g =
      changes m.pair.second.spot.dir _ (linked_told m.pair.first.spot.dir came) old next after
      (linked-fits P most call sent.now came m.pair.first.spot.dir m.pair.second.spot.dir on told) t.1 g
  link-takes false m old next new after on t g = pair-takes m.pair.first.asked m.pair old t.step new after on t.takes g

  -- ---- removals of names

  plans-same : (is_open : Bool) (file : List ℕ) (m : RemoveFile) (room : Bool) (old : Shelf) (next : Step) (new : RemoveFile) (after : Shelf)
      → removals.Plans is_open file m room old next new after → SameAttrs old after
  plans-same is_open file m room old next new after p = ap (λ (s : Shelf). s.attrs) p.shelf_is

  look-same : (again : Bool) (said : Result (List ℕ) Fault) (m : RemoveFile) (room : Bool) (old : Shelf) (next : Step) (new : RemoveFile) (after : Shelf)
      → removals.FollowsLook again said m room old next new after → SameAttrs old after
  look-same true said m room old next new after f = same-as old old after f.shelf_is refl
  look-same false (Ok file) m room old next new after f = plans-same f.is_open file m room old next new after f.plans
  look-same false (Err fault) m room old next new after f = same-as old old after f.shelf_is refl

  seek-same : (again : Bool) (said : Result (List ℕ) Fault) (file to : List ℕ) (m : RemoveFile) (room : Bool) (old : Shelf) (next : Step) (new : RemoveFile) (after : Shelf)
      → removals.FollowsSeek again said file to m room old next new after → SameAttrs old after
  seek-same true said file to m room old next new after f = same-as old old after f.shelf_is refl
  seek-same false (Ok found) file to m room old next new after f = plans-same true file m room old next new after f
  seek-same false (Err fault) file to m room old next new after f = same-as old old after f.shelf_is refl

  deed-takes : (deed : Deed) (m : RemoveFile) (old : Shelf) (next : Step) (new : RemoveFile) (after : Shelf) → DeedAsks (Some deed) m.walk.spot.dir call
      → removals.TakesDeed deed m sent turn came old next new after → Stays old after
  deed-takes Look m old next new after on t g =
      same-good t.heard after (look-same (looking.look_again sent turn came old) (looking.found_by came) m turn.room t.heard next new after t.follows)
      (looked P most call sent.now came m.walk.spot.dir old.attrs t.heard.attrs on told t.hears.attrs g)
  deed-takes (Seek file to) m old next new after on t g =
      same-good t.heard after (seek-same (looking.look_again sent turn came old) (looking.found_by came) file to m turn.room t.heard next new after t.follows)
      (looked P most call sent.now came m.walk.spot.dir old.attrs t.heard.attrs on told t.hears.attrs g)
  deed-takes (Move file to) m old next new after on t g =
      renews-both P most call sent.now (moved_told came).unmade m.walk.spot.dir m.walk.spot.dir (moved_told came) old.attrs after.attrs
      (moved-fits P most call sent.now came m.walk.spot.dir m.walk.spot.dir on told) t.1.attrs g
  deed-takes Remove m old next new after on t g =
      changes m.walk.spot.dir _ (removals.removed_told came) old next after (file-removed-fits P most call sent.now came m.walk.spot.dir on told) t.1 g

  asked-takes : (asked : Bool) (deed : Deed) (m : RemoveFile) (old : Shelf) (next : Step) (new : RemoveFile) (after : Shelf) → DeedAsks (Some deed) m.walk.spot.dir call
      → removals.TakesIf asked deed m sent turn came old next new after → Stays old after
  asked-takes true deed m old next new after on t g = deed-takes deed m old next new after on t g
  asked-takes false deed m old next new after on t g = same-good old after (same-as old old after t.shelf_is refl) g

  remove-takes : (deed : Option Deed) (m : RemoveFile) (old : Shelf) (next : Step) (new : RemoveFile) (after : Shelf) → DeedAsks deed m.walk.spot.dir call
      → removals.Takes deed m sent turn came old next new after → Stays old after
  remove-takes (Some deed) m old next new after on t g = asked-takes m.asked deed m old next new after on t g
  remove-takes None m old next new after on t g = walk-takes (waiting_name m.walk) m.walk old t.step t.walked.walk after on t.takes g

  -- ---- any of them

  pub name-takes : (m : NameMachine) (old : Shelf) (next : Step) (new : NameMachine) (after : Shelf) → NameAsks m call → NameTakes m sent turn came old next new after → Stays old after
  name-takes (machines.Change m) old next new after on t g =
      change-takes m.visit.asked _ (deed_told m.deed came) m.visit old next t.visit after on (deed-fits P most call sent.now m.deed came m.visit.walk.spot.dir on told) t.step g
  name-takes (machines.Stat m) old next new after on t g = stat-takes m.asked m old next t.machine after on t.step g
  name-takes (machines.Access m) old next new after on t g =
      show-takes m.visit.asked _ (access_attr came) _ m.visit old next t.visit after on (access-fits P most call sent.now came m.visit.walk.spot.dir on told) t.step g
  name-takes (machines.ReadLink m) old next new after on t g = text-takes m.visit.asked m.visit old next t.visit after on t.step g
  name-takes (machines.Remove m) old next new after on t g = remove-takes m.deed m old next t.machine after on t.step g
  name-takes (machines.Rename m) old next new after on t g = rename-takes m.pair.asked m old next t.pair after on t.step g
  name-takes (machines.Link m) old next new after on t g = link-takes m.pair.asked m old next t.pair after on t.step g
  name-takes (machines.SymLink m) old next new after on t g = sym-link-takes m.visit.asked m old next t.visit after on t.step g
  name-takes (machines.List m) old next new after on t g = list-takes m.visit.asked m old next t.machine after on t.step g
