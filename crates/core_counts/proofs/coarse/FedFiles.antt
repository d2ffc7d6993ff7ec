-- What opens and puts under way have found, and what listings under way have taken.
use Rattle.core_counts.proofs.Prelude.{◌≡◌, ◌≤◌, ℕ, List, length, sym, subst, arith, Verf, Entry, Opening, OpeningPhase, Putting, ListDir, Machine, front_of, last_of, Busy}
use Rattle.nfs_dir_calls.specs.declared.plus_page.PlusRow.{PlusRow}
use Rattle.file_ops.specs.declared.opening.OpeningPhase.TheVariants as opening_steps
use Rattle.file_ops.specs.declared.put_file.Putting.TheVariants as putting
use Rattle.core_answers.proofs.bonds.AttrsShown.{fresh-attrs}
use Rattle.core_answers.proofs.bonds.NamesShown.{none-kept}
use Rattle.core_answers.proofs.bonds.StatsLed.{Both, Kept}
use Rattle.core_answers.proofs.paths.Following.{reached-known}
use Rattle.core_answers.proofs.paths.ListPages as lists
use Rattle.core_answers.proofs.paths.ListPages.{ListRuns, Stage, ListsRun, ListsOver, list-laws}
use Rattle.core_answers.proofs.paths.OpenFound as found
use Rattle.core_answers.proofs.paths.OpenFound.{GivenBy, StepFound, OpeningAt, FoundAs}
use Rattle.core_answers.proofs.paths.OpenPaths.{OpenRuns, OpensRun, OpensOver, open-laws}
use Rattle.core_answers.proofs.paths.PagesRead as read
use Rattle.core_answers.proofs.paths.PutFound.{PutAt}
use Rattle.core_answers.proofs.paths.PutPaths.{PutRuns, PutsRun, PutsOver, put-laws}
use Rattle.core_answers.proofs.paths.Stood.{both-asks}
use Rattle.core_counts.specs.coarse.FedFiles as files
use Rattle.core_counts.specs.coarse.FedFiles.{StepHas, PutHas, HasFile, Gives, IsFound, FilesFound, Pages, Lists, OfList, ListsTaken}
use Rattle.core_counts.proofs.coarse.FedWalks.{leads-by}

-- ---- files

gives-by : (h : List Entry) (x : ℕ) (d name file : List ℕ) → GivenBy h x d name file → Gives h x d name file
gives-by h x d name file (found.looked_up since attr dir own a) = files.looks_up since attr dir own a
gives-by h x d name file (found.created since making attr wcc own a) = files.creates since making attr wcc own a

module _ (most : ℕ) (top : List ℕ) (h : List Entry) (x : ℕ) (path : List (List ℕ)) (file : List ℕ) where
  step-given : (d : List ℕ) (step : OpeningPhase) → StepFound most top h x path d step → StepHas step file → GivenBy h x d (last_of path) file
  step-given d opening_steps.Look s has = absurd has
  step-given d opening_steps.Make s has = absurd has
  step-given d opening_steps.Find s has = absurd has
  step-given d (opening_steps.Ask other) s has = subst (GivenBy h x d (last_of path)) has s

  opening-found : (o : Opening) → OpeningAt most top h x path o → StepHas o.step file → IsFound h most x top path file
  opening-found o s has = record { d = o.dir; leads = leads-by h most x top (front_of path) o.dir s.led; gives = gives-by h x o.dir (last_of path) file (step-given o.dir o.step s.step has) }

  as-found : (other : List ℕ) → other ≡ file → FoundAs most top h x path other → IsFound h most x top path file
  as-found other same s = subst (IsFound h most x top path) same
      (record { d = s.d; leads = leads-by h most x top (front_of path) s.d s.led; gives = gives-by h x s.d (last_of path) other s.given })

  put-found : (state : Putting) (o : Opening) → PutAt most top h x path state o → PutHas state o file → IsFound h most x top path file
  put-found putting.Idle o s has = absurd has
  put-found putting.Opens o s has = opening-found o s has
  put-found (putting.Adds other) o s has = as-found other has s
  put-found (putting.Saves saving) o s has = as-found saving.file has s

  open-runs : (machine : Machine) → OpenRuns most top h x path machine → HasFile machine file → IsFound h most x top path file
  open-runs machine k has =
      let here = subst (λ (n : Machine). HasFile n file) k.is has in
      opening-found k.opener.opening (k.there here.0) here.1

  put-runs : (machine : Machine) → PutRuns most top h x path machine → HasFile machine file → IsFound h most x top path file
  put-runs machine k has =
      let here = subst (λ (n : Machine). HasFile n file) k.is has in
      put-found k.put.state k.put.opening (k.there here.0) here.1

pub files-found : FilesFound
files-found m setup most h v lasts r at number machine there x op under path (files.an_open slot mode is) file has =
    let known = reached-known m setup Both both-asks (Kept most) (OpensRun m most) (OpensOver m most) (open-laws m most)
    (λ k w new. (fresh-attrs setup most k w.shelf.attrs lasts new.attrs, none-kept k w.shelf.names new.names)) h v r in
    let held = (known.lanes at (record { number = number; state = Busy machine }) there).1 x op under in
    open-runs most m.root h x path file machine (held.story slot mode path is) has
files-found m setup most h v lasts r at number machine there x op under path (files.a_put offset bytes is) file has =
    let known = reached-known m setup Both both-asks (Kept most) (PutsRun m most) (PutsOver m most) (put-laws m most)
    (λ k w new. (fresh-attrs setup most k w.shelf.attrs lasts new.attrs, none-kept k w.shelf.names new.names)) h v r in
    let held = (known.lanes at (record { number = number; state = Busy machine }) there).1 x op under in
    put-runs most m.root h x path file machine (held.story path offset bytes is) has

-- ---- lists

pages-by : (h : List Entry) (x : ℕ) (d : List ℕ) (n : ℕ) (rows : List PlusRow) (cookie : ℕ) (verf : Verf) → read.Pages h x d n rows cookie verf → Pages h x d n rows cookie verf
pages-by h x d _ _ _ _ (read.none n rows cookie verf at none first) = files.begins n rows cookie verf at none first
pages-by h x d _ _ _ _ (read.more n was since rows before page cookie from verf with_ attr eof pages late soon a last is) =
    files.takes n was since rows before page cookie from verf with_ attr eof (pages-by h x d was before from with_ pages) late soon a last is

lists-by : (most : ℕ) (top : List ℕ) (h : List Entry) (x : ℕ) (path : List (List ℕ)) (place : ℕ) (m : ListDir) → place ≤ length h → Stage most top h x path place m → Lists h x m
lists-by most top h x path place m within (lists.fresh first empty) = files.at_first first empty
lists-by most top h x path place m within (lists.listed k) =
    let early = k.early in
    files.goes_on k.n k.rows k.done (omega (arith, early, within)) (pages-by h x m.visit.walk.spot.dir k.n k.rows m.place.cookie m.place.verf k.pages) k.listing_is

list-runs : (most : ℕ) (top : List ℕ) (h : List Entry) (x : ℕ) (path : List (List ℕ)) (place : ℕ) (machine : Machine) → place ≤ length h → ListRuns most top h x path place machine
    → OfList (Lists h x) machine
list-runs most top h x path place machine within k = subst (OfList (Lists h x)) (sym k.is) (lists-by most top h x path place k.m within k.stage)

pub lists-taken : ListsTaken
lists-taken m setup most h v lasts r at number machine there x op under path is =
    let known = reached-known m setup Both both-asks (Kept most) (ListsRun m most) (ListsOver m most) (list-laws m most)
    (λ k w new. (fresh-attrs setup most k w.shelf.attrs lasts new.attrs, none-kept k w.shelf.names new.names)) h v r in
    let held = (known.lanes at (record { number = number; state = Busy machine }) there).1 x op under in
    list-runs most m.root h x path held.place machine held.within (held.story path is).runs
