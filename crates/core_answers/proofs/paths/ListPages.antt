-- A list, step by step: its walk leads to its directory, whose pages come one after the other, and its answer shows their names.
use Rattle.core_answers.proofs.Prelude.{◌≡◌, ◌<◌, ◌≤◌, ◌+◌, inl, inr, ℕ, zero, suc, Bool, true, false, List, [], ◌∷◌, ◌++◌, length, Contains, Option, None, Result, Ok, Err, refl, sym, ap, subst, ◌∙◌, arith, if◌then◌else◌, nat_lt, Attr, Verf, DirKept, PlusRow, ListStep, More, End, ListFault, listing_limit, last_cookie, page_step, Answer, Fault, Value, Entry, Began, Call, Reply, Op, LastCookie, names_of, list_call, page_reply, IsDelivered, length_last, goes_again, fails_busy, Step, Shelf, Turn, ListDir, Visit, Walk, Mounted, Machine, machine_of, Starts, Resumes, Takes, in_flight, Awaits, OwnOr, then-as, ThenOf, IsAnswered, time_next}
use Rattle.std.specs.Prelude.{◌↔◌}
use Rattle.dir_list.specs.Listings.{counts, counted}
use Rattle.core_facts.proofs.Awaited.{one-visit}
use Rattle.std.specs.Cmp.Lexicographic.{slice_cmp}
use Rattle.std.specs.List.Sorted.{IsStrictlySortedBy}
use Rattle.std.specs.Ordering.{nat_cmp}
use Rattle.nfs_dir_calls.specs.declared.keeping.DirKept.TheVariants as kept
use Rattle.dir_list.specs.declared.progress.ListFault.TheVariants as list_faults
use Rattle.world_model.specs.declared.answer.Answer.TheVariants as answers
use Rattle.world_model.specs.declared.answer.Fault.TheVariants as faults
use Rattle.world_model.specs.declared.answer.Value.TheVariants as values
use Rattle.world_model.specs.declared.message.Reply.TheVariants as replies
use Rattle.world_model.specs.declared.op.Op.TheVariants as ops
use Rattle.client_shelf.specs.declared.step.Step.TheVariants as nexts
use Rattle.name_ops.specs.declared.walk.WalkStep.TheVariants as walks
use Rattle.name_ops.specs.ListDir as listing
use Rattle.name_ops.specs.Visiting as visiting
use Rattle.name_ops.specs.Walking as walking
use Rattle.op_machines.specs.declared.machine.Machine.TheVariants as machines
use Rattle.op_machines.specs.declared.name_machine.NameMachine.TheVariants as names
use Rattle.core_answers.proofs.bonds.AttrsShown.{answered-grow, answered-last}
use Rattle.core_answers.proofs.engine.Laws.{FromPlace}
use Rattle.core_answers.proofs.engine.Told.{IsLate, take-early, take-whole, ToldLast}
use Rattle.core_answers.proofs.bonds.StatsLed.{Both, Kept}
use Rattle.core_answers.proofs.bonds.Walked.{LedBy, led-grows, walk-begins}
use Rattle.core_answers.proofs.paths.Following.{FollowLaws}
use Rattle.core_answers.proofs.paths.Lasts.{IsLast, last-later}
use Rattle.core_answers.proofs.paths.PagesRead.{Pages, none, more, names-both}
use Rattle.core_answers.proofs.paths.Stood.{both-laws}
use Rattle.core_answers.proofs.paths.Visited.{VisitLed, visit-end, visit-then, walks-then, visit-grows}

-- ---- pages

counted-are : (rows : List PlusRow) → counted rows ≡ names_of rows
unfolding counted counts
counted-are rows = refl

last-row : (row : PlusRow) (rows : List PlusRow) → LastCookie (row ∷ rows) (last_cookie row rows)
last-row row [] = record { front = []; row = row; is = refl; cookie_is = refl }
last-row row (next_row ∷ rows) =
    let l = last-row next_row rows in
    record { front = row ∷ l.front; row = l.row; is = ap (λ (rs : List PlusRow). row ∷ rs) l.is; cookie_is = l.cookie_is }

-- what a page that leads to another one is
pub record IsMore (page : List PlusRow) (verf : Verf) (cookie : ℕ) (with_ : Verf) : Type 0 where
  pub last : LastCookie page cookie
  pub same : with_ ≡ verf

is-more : (before : List (List ℕ)) (page : List PlusRow) (verf : Verf) (eof : Bool) (cookie : ℕ) (with_ : Verf) → page_step before page verf eof ≡ Ok (More cookie with_)
    → IsMore page verf cookie with_
unfolding page_step
is-more before [] verf true cookie with_ is = absurd (cc)
is-more before [] verf false cookie with_ is = absurd (cc)
is-more before (row ∷ rows) verf eof cookie with_ is = by (nat_lt listing_limit (length before + length (counted (row ∷ rows)))) eof is
  where
    by : (b e : Bool)
        → ◌≡◌ {A = Result ListStep ListFault} (if b then Err list_faults.Many else if e then Ok End else Ok (More (last_cookie row rows) verf)) (Ok (More cookie with_))
        → IsMore (row ∷ rows) verf cookie with_
    by true e same = absurd (cc)
    by false true same = absurd (cc)
    by false false same =
        let to : last_cookie row rows ≡ cookie = cc in
        let this : verf ≡ with_ = cc in
        record { last = subst (LastCookie (row ∷ rows)) to (last-row row rows); same = sym this }

-- the last one says so
is-end : (before : List (List ℕ)) (page : List PlusRow) (verf : Verf) (eof : Bool) → page_step before page verf eof ≡ Ok End → eof ≡ true
unfolding page_step
is-end before [] verf true is = refl
is-end before [] verf false is = absurd (cc)
is-end before (row ∷ rows) verf eof is = by (nat_lt listing_limit (length before + length (counted (row ∷ rows)))) eof is
  where
    by : (b e : Bool) → ◌≡◌ {A = Result ListStep ListFault} (if b then Err list_faults.Many else if e then Ok End else Ok (More (last_cookie row rows) verf)) (Ok End) → e ≡ true
    by true e same = absurd (cc)
    by false true same = refl
    by false false same = absurd (cc)

-- a page that came
pub record IsPage (came : Result Reply Fault) (verf : Verf) (page : List PlusRow) (eof : Bool) : Type 0 where
  pub attr : Option Attr
  pub is : came ≡ Ok (page_reply attr verf page eof)

page-by : (reply : DirKept) (heard : _) → listing.page_heard (Ok (replies.Dir reply)) ≡ Ok heard → IsPage (Ok (replies.Dir reply)) heard.verf heard.page heard.eof
page-by (kept.ReadDirPlus attr verf page eof) heard is =
    let this : record { page = page; verf = verf; eof = eof } ≡ heard = cc in
    subst (λ (p : _). IsPage (Ok (replies.Dir (kept.ReadDirPlus attr verf page eof))) p.verf p.page p.eof) this (record { attr = attr; is = refl })
page-by (kept.ReadDirPlusFail status attr) heard is = absurd (cc)
page-by reply heard is = absurd (cc)

page-of : (came : Result Reply Fault) (heard : _) → listing.page_heard came ≡ Ok heard → IsPage came heard.verf heard.page heard.eof
page-of (Ok (replies.Dir reply)) heard is = page-by reply heard is
page-of (Ok (replies.File reply)) heard is = absurd (cc)
page-of (Ok (replies.Mount reply)) heard is = absurd (cc)
page-of (Err fault) heard is = absurd (cc)

-- ---- a walk at its end stays there

passed-stays : (n : ℕ) (path : List (List ℕ)) (now : ℕ) (known : _) (p : walking.Passed) → walking.name_at path p.spot.left ≡ None → walking.passed n path now known p ≡ p
passed-stays zero path now known p done = refl
passed-stays (suc n) path now known p done =
    let same = passed-stays n path now known p done in
    ap (walking.passed_one path now known) same ∙ ap (λ (o : Option (List ℕ)). walking.passed_next o now known p) done

go-stays : (w : Walk) (turn : Turn) (shelf : Shelf) → walking.next_name w ≡ None → walking.go_after w turn shelf ≡ w
go-stays w turn shelf done = by w.asked
  where
    there : walking.walked w turn.now shelf.attrs shelf.names ≡ w
    there = ap (λ (p : walking.Passed). record w { spot = p.spot }) (passed-stays w.spot.left w.path turn.now shelf.attrs (record { spot = w.spot; names = shelf.names }) done)

    by : (b : Bool) → (if b then w else walking.on_after w turn shelf.attrs shelf.names) ≡ w
    by true = refl
    by false = ap (λ (k : Walk). walking.asked_after (walking.next_name k) turn.room k) there ∙ ap (λ (o : Option (List ℕ)). walking.asked_after o turn.room w) done

follow-walk : (step : _) (room : Bool) (v : Visit) → (visiting.follow_after step room v).walk ≡ v.walk
follow-walk (walks.Send call) room v = refl
follow-walk walks.Wait room v = refl
follow-walk (walks.At object) true v = refl
follow-walk (walks.At object) false v = refl
follow-walk (walks.Refused fault) room v = refl

visit-stays : (v : Visit) (turn : Turn) (shelf : Shelf) → walking.next_name v.walk ≡ None → (visiting.visit_after v turn shelf).walk ≡ v.walk
visit-stays v turn shelf done = by v.asked
  where
    by : (b : Bool) → (if b then v else visiting.follow_after (walking.go_next v.walk turn shelf) turn.room (record v { walk = walking.go_after v.walk turn shelf })).walk ≡ v.walk
    by true = refl
    by false = follow-walk (walking.go_next v.walk turn shelf) turn.room (record v { walk = walking.go_after v.walk turn shelf }) ∙ go-stays v.walk turn shelf done

waits-none : (b : Bool) (w : Walk) → walking.next_name w ≡ None → (if b then walking.next_name w else None) ≡ None
waits-none true w done = done
waits-none false w done = refl

takes-stays : (v : Visit) (sent turn : Turn) (came : Result Reply Fault) (old : Shelf) (next_step : _) (new : Visit) (after : Shelf) → walking.next_name v.walk ≡ None
    → visiting.VisitTakes v sent turn came old next_step new after → new.walk ≡ v.walk
takes-stays v sent turn came old next_step new after done k =
    let waited = subst (λ (o : Option (List ℕ)). walking.Takes o v.walk sent turn came old k.step k.walked.walk after) (waits-none v.walk.asked v.walk done) k.takes in
    ap (λ (w : Visit). w.walk) k.visit_is ∙ follow-walk k.step turn.room k.walked ∙ waited.walk_is

-- ---- the story

-- Its names are those of the pages that came, of the directory to which its path leads; the last of these is the last record that came, and the last page.
pub record IsListed (most : ℕ) (top : List ℕ) (h : List Entry) (x : ℕ) (path : List (List ℕ)) (value : Value) : Type 0 where
  pub within : x < length h
  pub names : List (List ℕ)
  pub gives : value ≡ values.Names names
  pub d : List ℕ
  pub led : LedBy h most x top path d
  pub n : ℕ
  pub rows : List PlusRow
  pub page : List PlusRow
  pub cookie : ℕ
  pub verf : Verf
  pub after : Verf
  pub attr : Option Attr
  pub since : ℕ
  pub pages : Pages h x d n rows cookie verf
  pub later : n ≤ since
  pub answered : IsAnswered h since (length h) (list_call d cookie verf) (page_reply attr after page true)
  pub last : IsLast h x (length h) (list_call d cookie verf) (page_reply attr after page true)
  pub ordered : IsStrictlySortedBy (slice_cmp nat_cmp) names
  pub same : (name : List ℕ) → Contains names name ↔ Contains (names_of (rows ++ page)) name

module _ (most : ℕ) (top : List ℕ) (h : List Entry) (x : ℕ) (path : List (List ℕ)) where
  -- its walk is at its end, and these entries came
  pub record IsListing (place : ℕ) (m : ListDir) : Type 0 where
    pub done : walking.next_name m.visit.walk ≡ None
    pub n : ℕ
    pub early : n ≤ place
    pub rows : List PlusRow
    pub pages : Pages h x m.visit.walk.spot.dir n rows m.place.cookie m.place.verf
    pub listing_is : m.listing ≡ counted rows

  -- no page came yet
  pub data Stage (place : ℕ) (m : ListDir) : Type 0 where
    fresh : m.place ≡ listing.first_page → m.listing ≡ [] → Stage place m
    listed : IsListing place m → Stage place m

  pub record ListRuns (place : ℕ) (machine : Machine) : Type 0 where
    pub m : ListDir
    pub is : machine ≡ machines.Name (names.List m)
    pub began : x ≤ place
    pub visit : VisitLed most top h x path m.visit
    pub stage : Stage place m

  abbrev pub ListAnswer : Answer → Type 0
  ListAnswer (answers.Done value) = IsListed most top h x path value
  ListAnswer (answers.Refused fault) = Unit {0}

  abbrev pub Steps : ℕ → Step → Machine → Type 0
  Steps place next_is new = ThenOf (ListRuns place) ListAnswer next_is new

module _ (most : ℕ) (top : List ℕ) (h : List Entry) (x : ℕ) (within : x < length h) (path : List (List ℕ)) where
  abbrev Visits : Visit → Type 0
  Visits v = VisitLed most top h x path v

  abbrev Listing : ℕ → ListDir → Type 0
  Listing place m = IsListing most top h x path place m

  abbrev Staged : ℕ → ListDir → Type 0
  Staged place m = Stage most top h x path place m

  abbrev Runs : ℕ → Machine → Type 0
  Runs place machine = ListRuns most top h x path place machine

  abbrev Answers : Answer → Type 0
  Answers answer = ListAnswer most top h x path answer

  abbrev Goes : ℕ → Step → Machine → Type 0
  Goes place next_is new = Steps most top h x path place next_is new

  -- a visit of the list goes on
  on-visit : (place : ℕ) (next_is : Step) (m : ListDir) (visit : Visit) (new : Machine) → new ≡ machines.Name (names.List (record m { visit = visit })) → x ≤ place
      → Staged place (record m { visit = visit }) → ThenOf Visits Answers next_is visit → Goes place next_is new
  on-visit place (nexts.Send call) m visit new is began s t = record { m = record m { visit = visit }; is = is; began = began; visit = t; stage = s }
  on-visit place nexts.Wait m visit new is began s t = record { m = record m { visit = visit }; is = is; began = began; visit = t; stage = s }
  on-visit place (nexts.Done answer) m visit new is began s t = t

  -- with the walk where it was
  stage-same : (place to : ℕ) (m : ListDir) (visit : Visit) → place ≤ to → (walking.next_name m.visit.walk ≡ None → visit.walk ≡ m.visit.walk) → Staged place m
      → Staged to (record m { visit = visit })
  stage-same place to m visit wide stays (fresh first empty) = fresh first empty
  stage-same place to m visit wide stays (listed l) =
      let same = stays l.done in
      let early = l.early in
      listed (record {
        done = ap walking.next_name same ∙ l.done;
        n = l.n;
        early = omega (arith, early, wide);
        rows = l.rows;
        pages = subst (λ (w : Walk). Pages h x w.spot.dir l.n l.rows m.place.cookie m.place.verf) (sym same) l.pages;
        listing_is = l.listing_is;
      })

  pub goes : (place : ℕ) (machine : Machine) (wsize : ℕ) (turn : Turn) (old : Shelf) (next_is : Step) (new : Machine) (after : Shelf) → Kept most h old → IsLate h x turn.now
      → Runs place machine → Resumes wsize machine turn old next_is new after → Goes place next_is new
  goes place machine wsize turn old next_is new after t late k r =
      let g = subst (λ (n : Machine). Resumes wsize n turn old next_is new after) k.is r in
      on-visit place next_is k.m (visiting.visit_after k.m.visit turn old) new (g.machine_is ∙ ap machines.Name g.step.machine_is) k.began
      (stage-same place place k.m (visiting.visit_after k.m.visit turn old) (omega arith) (visit-stays k.m.visit turn old) k.stage)
      (visit-then most top h x within path Answers (listing.page_call k.m.place) k.m.visit turn old next_is (λ f. tt) t late k.visit g.step.next_is)

  -- the pages that came, also where there was none
  known : (place : ℕ) (m : ListDir) → x ≤ place → walking.next_name m.visit.walk ≡ None → Staged place m → Listing place m
  unfolding counted
  known place m began done (listed l) = l
  known place m began done (fresh first empty) = record {
    done = done;
    n = x;
    early = began;
    rows = [];
    pages = none x [] m.place.cookie m.place.verf refl refl (ap (λ (p : _). p.cookie) first);
    listing_is = empty;
  }

  -- what was told of its page
  abbrev PageTold : ℕ → ℕ → Result Reply Fault → ListDir → Type 0
  PageTold place ms came m = (reply : Reply) → came ≡ Ok reply → ToldLast h x place (list_call m.visit.walk.spot.dir m.place.cookie m.place.verf) ms reply

  more-then : (next_is : Step) (room : Bool) (m : ListDir) (place : _) (visit : Visits m.visit) → (done : walking.next_name m.visit.walk ≡ None)
      → Listing (length h) (record m { place = place }) → (to : ListDir) → to ≡ listing.more_after place room m → next_is ≡ listing.more_next place room m
      → Goes (length h) next_is (machines.Name (names.List to))
  more-then next_is room m place visit done l to is at = then-as (Runs (length h)) Answers (listing.more_next place room m) next_is (machines.Name (names.List to)) at (by room)
    where
      runs : Runs (length h) (machines.Name (names.List to))
      runs = record {
        m = listing.more_after place room m;
        is = ap (λ (k : ListDir). machines.Name (names.List k)) is;
        began = let low = within in omega (arith, low);
        visit = record { walk = visit.walk; done = λ yes_is. done };
        stage = listed (record { done = l.done; n = l.n; early = l.early; rows = l.rows; pages = l.pages; listing_is = l.listing_is });
      }

      by : (b : Bool) → Goes (length h) (if b then nexts.Send (listing.page_call place m.visit.walk.spot.dir) else nexts.Wait) (machines.Name (names.List to))
      by true = runs
      by false = runs

  rows-both : (m : ListDir) (rows page : List PlusRow) → m.listing ≡ counted rows → m.listing ++ counted page ≡ names_of (rows ++ page)
  rows-both m rows page is =
      ap (λ (ns : List (List ℕ)). ns ++ counted page) (is ∙ counted-are rows) ∙ ap (λ (ns : List (List ℕ)). names_of rows ++ ns) (counted-are page) ∙ sym (names-both rows page)

  page-then : (place ms : ℕ) (step : Result ListStep ListFault) (heard : _) (came : Result Reply Fault) (room : Bool) (m : ListDir) (next_is : Step) (to : ListDir)
      → Visits m.visit → Listing place m → LedBy h most x top path m.visit.walk.spot.dir → PageTold place ms came m
      → listing.TakesStep step heard room m next_is to → IsPage came heard.verf heard.page heard.eof
      → page_step m.listing heard.page heard.verf heard.eof ≡ step → Goes (length h) next_is (machines.Name (names.List to))
  page-then place ms (Ok (More cookie verf)) heard came room m next_is to visit l led told t page is =
      let k = is-more m.listing heard.page heard.verf heard.eof cookie verf is in
      let last = told (page_reply page.attr heard.verf heard.page heard.eof) page.is in
      let early = l.early in
      let late = last.later in
      more-then next_is room (record m { listing = m.listing ++ counted heard.page }) (record { cookie = cookie; verf = verf }) visit l.done (record {
        done = l.done;
        n = length h;
        early = omega arith;
        rows = l.rows ++ heard.page;
        pages = more (length h) l.n last.since.told.since (l.rows ++ heard.page) l.rows heard.page cookie m.place.cookie verf m.place.verf page.attr heard.eof l.pages
            (omega (arith, early, late)) (omega arith)
            (subst (λ (v : Verf). IsAnswered h last.since.told.since (length h) (list_call m.visit.walk.spot.dir m.place.cookie m.place.verf) (page_reply page.attr v heard.page heard.eof))
            (sym k.same) last.since.told.answered) k.last refl;
        listing_is = rows-both m l.rows heard.page l.listing_is ∙ sym (counted-are (l.rows ++ heard.page));
      }) to t.1 t.0
  page-then place ms (Ok End) heard came room m next_is to visit l led told t page is =
      let end = is-end m.listing heard.page heard.verf heard.eof is in
      let last = told (page_reply page.attr heard.verf heard.page heard.eof) page.is in
      let early = l.early in
      let late = last.later in
      then-as (Runs (length h)) Answers (nexts.Done (answers.Done (values.Names t.names))) next_is (machines.Name (names.List to)) t.next_is (record {
        within = within;
        names = t.names;
        gives = refl;
        d = m.visit.walk.spot.dir;
        led = led;
        n = l.n;
        rows = l.rows;
        page = heard.page;
        cookie = m.place.cookie;
        verf = m.place.verf;
        after = heard.verf;
        attr = page.attr;
        since = last.since.told.since;
        pages = l.pages;
        later = omega (arith, early, late);
        answered = subst (λ (e : Bool). IsAnswered h last.since.told.since (length h) (list_call m.visit.walk.spot.dir m.place.cookie m.place.verf) (page_reply page.attr heard.verf heard.page e))
            end last.since.told.answered;
        last = subst (λ (e : Bool). IsLast h x (length h) (list_call m.visit.walk.spot.dir m.place.cookie m.place.verf) (page_reply page.attr heard.verf heard.page e)) end
            (record { ends = last.ends; only = last.only });
        ordered = t.lists.ordered;
        same = λ name. subst (λ (ns : List (List ℕ)). Contains t.names name ↔ Contains ns name) (rows-both m l.rows heard.page l.listing_is) (t.lists.same name);
      })
  page-then place ms (Err fault) heard came room m next_is to visit l led told t page is =
      then-as (Runs (length h)) Answers (nexts.Done (answers.Refused (listing.refusal_of fault))) next_is (machines.Name (names.List to)) t.0 tt

  list-then : (place ms : ℕ) (low : place ≤ length h) (told_page : Result _ Fault) (again : Bool) (came : Result Reply Fault) (room : Bool) (m : ListDir) (next_is : Step) (to : ListDir)
      → Visits m.visit → Listing place m → LedBy h most x top path m.visit.walk.spot.dir → PageTold place ms came m → listing.page_heard came ≡ told_page
      → Staged place m → listing.Follows told_page again room m next_is to → Goes (length h) next_is (machines.Name (names.List to))
  list-then place ms low (Ok heard) again came room m next_is to visit l led told is s (inl f) =
      then-as (Runs (length h)) Answers (nexts.Done (answers.Refused faults.Memory)) next_is (machines.Name (names.List to)) f.0 tt
  list-then place ms low (Ok heard) again came room m next_is to visit l led told is s (inr f) =
      page-then place ms (page_step m.listing heard.page heard.verf heard.eof) heard came room m next_is to visit l led told f (page-of came heard is) refl
  list-then place ms low (Err fault) again came room m next_is to visit l led told is s f =
      then-as (Runs (length h)) Answers (listing.refused_next again fault m) next_is (machines.Name (names.List to)) f.0 (by again)
    where
      by : (b : Bool) → Goes (length h) (listing.refused_next b fault m) (machines.Name (names.List to))
      by true = record {
        m = m;
        is = ap (λ (k : ListDir). machines.Name (names.List k)) f.1;
        began = let low = within in omega (arith, low);
        visit = visit;
        stage = stage-same place (length h) m m.visit low (λ done. refl) s;
      }
      by false = tt

  pub takes-list : (asked : Bool) (place : ℕ) (low : place ≤ length h) (m : ListDir) (sent turn : Turn) (came : Result Reply Fault) (old : Shelf) (next_is : Step) (to : ListDir) (after : Shelf)
      (call : Call) → m.visit.asked ≡ asked → Kept most h old → Kept most h after → IsLate h x turn.now → x ≤ place → Visits m.visit → Staged place m
      → OwnOr asked (listing.page_call m.place) m.visit.walk call → ((reply : Reply) → came ≡ Ok reply → ToldLast h x place call sent.now reply)
      → listing.TakesList asked m sent turn came old next_is to after → Goes (length h) next_is (machines.Name (names.List to))
  takes-list true place low m sent turn came old next_is to after call is before kept late began visit stage e told k =
      list-then place sent.now low (listing.page_heard came) (goes_again (fails_busy (listing.page_heard came)) sent turn old.repeats) came turn.room m next_is to visit
      (known place m began (visit.done is) stage) (visit-end most top h x within path m.visit visit is)
      (λ reply came_is. subst (λ (c : Call). ToldLast h x place c sent.now reply) e (told reply came_is)) refl stage k.follows
  takes-list false place low m sent turn came old next_is to after call is before kept late began visit stage e told k =
      on-visit (length h) next_is m k.visit (machines.Name (names.List to)) (ap (λ (n : ListDir). machines.Name (names.List n)) k.machine_is) (let low = within in omega (arith, low))
      (stage-same place (length h) m k.visit low (λ done. takes-stays m.visit sent turn came old k.walks.step k.visit after done k.walks.takes) stage)
      (walks-then most top h x within path Answers (listing.page_call m.place) m.visit sent turn came old next_is k.visit after call (λ f. tt) is before kept late visit e
      (λ reply came_is. (told reply came_is).since) k.walks)

-- ---- one entry more

pub pages-grow : (h later : List Entry) (x : ℕ) (d : List ℕ) (n : ℕ) (rows : List PlusRow) (cookie : ℕ) (verf : Verf) → Pages h x d n rows cookie verf → Pages (h ++ later) x d n rows cookie verf
pages-grow h later x d _ _ _ _ (none n rows cookie verf at is zero_is) = none n rows cookie verf at is zero_is
pages-grow h later x d _ _ _ _ (more n was since rows before page cookie from verf with_ attr eof p after within a last is) =
    more n was since rows before page cookie from verf with_ attr eof (pages-grow h later x d was before from with_ p) after (within-more h later n within)
    (answered-grow h later since n (list_call d from with_) (page_reply attr verf page eof) a) last is
  where
    within-more : (h longer : List Entry) (n : ℕ) → n ≤ length h → n ≤ length (h ++ longer)
    within-more [] longer n low = omega (arith, low)
    within-more (e ∷ es) longer zero low = omega arith
    within-more (e ∷ es) longer (suc k) low = let rest = within-more es longer k (omega (arith, low)) in omega (arith, rest)

module _ (most : ℕ) (top : List ℕ) (h : List Entry) (e : Entry) (x : ℕ) (within : x < length h) (path : List (List ℕ)) where
  pub runs-grow : (place : ℕ) (machine : Machine) → ListRuns most top h x path place machine → ListRuns most top (h ++ e ∷ []) x path place machine
  runs-grow place machine k = record { m = k.m; is = k.is; began = k.began; visit = visit-grows most top h e x within path k.m.visit k.visit; stage = by k.stage }
    where
      by : Stage most top h x path place k.m → Stage most top (h ++ e ∷ []) x path place k.m
      by (fresh first empty) = fresh first empty
      by (listed l) = listed (record { done = l.done; n = l.n; early = l.early; rows = l.rows; pages = pages-grow h (e ∷ []) x _ l.n l.rows _ _ l.pages; listing_is = l.listing_is })

  pub listed-grows : (value : Value) → (IsDelivered e → ⊥) → IsListed most top h x path value → IsListed most top (h ++ e ∷ []) x path value
  listed-grows value quiet k =
      let low = k.within in
      let longer = length_last h e in
      record {
        within = omega (arith, low, longer);
        names = k.names;
        gives = k.gives;
        d = k.d;
        led = led-grows h e most x top path k.d k.within k.led;
        n = k.n;
        rows = k.rows;
        page = k.page;
        cookie = k.cookie;
        verf = k.verf;
        after = k.after;
        attr = k.attr;
        since = k.since;
        pages = pages-grow h (e ∷ []) x k.d k.n k.rows k.cookie k.verf k.pages;
        later = k.later;
        answered = answered-last h e k.since (list_call k.d k.cookie k.verf) (page_reply k.attr k.after k.page true) k.answered;
        last = last-later h e x (list_call k.d k.cookie k.verf) (page_reply k.attr k.after k.page true) quiet k.last;
        ordered = k.ordered;
        same = k.same;
      }

-- ---- the laws

module _ (m : Mounted) (most : ℕ) where
  -- a list under way
  pub record ListUnderWay (h : List Entry) (place x : ℕ) (path : List (List ℕ)) (machine : Machine) : Type 0 where
    pub within : x < length h
    pub runs : ListRuns most m.root h x path place machine

  abbrev pub ListsRun : List Entry → ℕ → ℕ → Op → Machine → Type 0
  ListsRun h place x op machine = (path : List (List ℕ)) → op ≡ ops.List path → ListUnderWay h place x path machine

  abbrev pub ListsOver : List Entry → ℕ → Op → Answer → Type 0
  ListsOver h x op answer = (path : List (List ℕ)) → op ≡ ops.List path → (value : Value) → answer ≡ answers.Done value → IsListed most m.root h x path value

  answer-of : (h : List Entry) (x : ℕ) (path : List (List ℕ)) (answer : Answer) → ListAnswer most m.root h x path answer → (value : Value) → answer ≡ answers.Done value
      → IsListed most m.root h x path value
  answer-of h x path (answers.Done v) a value is = subst (IsListed most m.root h x path) (same v value is) a
    where
      same : (v value : Value) → answers.Done v ≡ answers.Done value → v ≡ value
      same v value is = cc
  answer-of h x path (answers.Refused fault) a value is = absurd (cc)

  for-list : (h : List Entry) (place x : ℕ) (op : Op) (next_is : Step) (new : Machine) → x < length h
      → ((path : List (List ℕ)) → op ≡ ops.List path → Steps most m.root h x path place next_is new) → ThenOf (ListsRun h place x op) (ListsOver h x op) next_is new
  for-list h place x op (nexts.Send call) new within t = λ path is. record { within = within; runs = t path is }
  for-list h place x op nexts.Wait new within t = λ path is. record { within = within; runs = t path is }
  for-list h place x op (nexts.Done answer) new within t = λ path is. answer-of h x path answer (t path is)

  -- nothing is known of another operation
  other-list : (h : List Entry) (others was x : ℕ) (op : Op) (next_is : Step) (new : Machine) → ((path : List (List ℕ)) → op ≡ ops.List path → ⊥)
      → ThenOf (λ k. FromPlace h others was (λ n. ListsRun h n x op k)) (ListsOver h x op) next_is new
  other-list h others was x op (nexts.Send call) new other = record { place = 0; within = omega arith; fits = inl (omega arith); holds = λ path is. absurd (other path is) }
  other-list h others was x op nexts.Wait new other = record { place = 0; within = omega arith; fits = inl (omega arith); holds = λ path is. absurd (other path is) }
  other-list h others was x op (nexts.Done answer) new other = λ path is. absurd (other path is)

  own-list : (h : List Entry) (others was x : ℕ) (op : Op) (next_is : Step) (new : Machine) → x < length h → others ≡ 0
      → ((path : List (List ℕ)) → op ≡ ops.List path → Steps most m.root h x path (length h) next_is new)
      → ThenOf (λ k. FromPlace h others was (λ n. ListsRun h n x op k)) (ListsOver h x op) next_is new
  own-list h others was x op (nexts.Send call) new within alone t = record { place = length h; within = omega arith; fits = inr alone; holds = λ path is. record { within = within; runs = t path is } }
  own-list h others was x op nexts.Wait new within alone t = record { place = length h; within = omega arith; fits = inr alone; holds = λ path is. record { within = within; runs = t path is } }
  own-list h others was x op (nexts.Done answer) new within alone t = λ path is. answer-of h x path answer (t path is)

  from-list : (h : List Entry) (others was x : ℕ) (op : Op) (next_is : Step) (new : Machine) → x < length h → ((path : List (List ℕ)) → op ≡ ops.List path → others ≡ 0)
      → ((path : List (List ℕ)) → op ≡ ops.List path → Steps most m.root h x path (length h) next_is new)
      → ThenOf (λ k. FromPlace h others was (λ n. ListsRun h n x op k)) (ListsOver h x op) next_is new
  from-list h others was x (ops.List path) next_is new within alone t = own-list h others was x (ops.List path) next_is new within (alone path refl) t
  from-list h others was x op next_is new within alone t = other-list h others was x op next_is new (λ path is. absurd (cc))

  begins : (h : List Entry) (x : ℕ) (path : List (List ℕ)) → ListRuns most m.root h x path x (machines.Name (names.List (listing.list_of m.root path)))
  begins h x path = record {
    m = listing.list_of m.root path;
    is = refl;
    began = omega arith;
    visit = record { walk = walk-begins h most x m.root path; done = λ is. absurd (let no_way : false ≡ true = is in cc) };
    stage = fresh refl refl;
  }

  step-as : (h : List Entry) (x : ℕ) (path : List (List ℕ)) (place : ℕ) (next_is : Step) (to new : Machine) → new ≡ to → Steps most m.root h x path place next_is to
      → Steps most m.root h x path place next_is new
  step-as h x path place next_is to new is t = subst (λ (k : Machine). Steps most m.root h x path place next_is k) (sym is) t

  -- one call of a list waits at most
  alone-of : (h : List Entry) (place x : ℕ) (path : List (List ℕ)) (machine : Machine) (others : ℕ) → ListUnderWay h place x path machine → in_flight machine ≡ others + 1 → others ≡ 0
  alone-of h place x path machine others k one =
      let count : in_flight (machines.Name (names.List k.runs.m)) ≡ others + 1 = subst (λ (n : Machine). in_flight n ≡ others + 1) k.runs.is one in
      let most_is = one-visit k.runs.m.visit in
      omega (arith, count, most_is)

  pub list-laws : FollowLaws (machine_of m) Both (Kept most) ListsRun ListsOver
  list-laws = record {
    shelf = both-laws most;
    starts = λ h lane line op wsize turn old next_is new after kept late s.
        let later : List Entry = h ++ Began lane line op ∷ [] in
        let longer = length_last h (Began lane line op) in
        let within : length h < length later = omega (arith, longer) in
        for-list later (length h) (length h) op next_is new within (λ path is.
        goes most m.root later (length h) within path (length h) (machines.Name (names.List (listing.list_of m.root path))) wsize turn old next_is new after kept
        (subst (λ k. time_next k ≤ turn.now) (sym (take-early h (Began lane line op ∷ []) (length h) (omega arith) ∙ take-whole h)) late) (begins later (length h) path)
        (subst (λ (o : Op). Starts wsize (machine_of m lane o) turn old next_is new after) is s));
    resumes = λ h place x op machine wsize turn old next_is new after kept within late story r.
        for-list h place x op next_is new within (λ path is.
        goes most m.root h x within path place machine wsize turn old next_is new after kept late (story path is).runs r);
    takes = λ h place x op machine call wsize sent turn came old next_is new after others before kept within low late one story on told t.
        from-list h others place x op next_is new within (λ path is. alone-of h place x path machine others (story path is) one) (λ path is.
        let k = (story path is).runs in
        let g = subst (λ (n : Machine). Takes wsize n sent turn came old next_is new after) k.is t in
        let e = subst (λ (n : Machine). Awaits n call) k.is on.1 in
        step-as h x path (length h) next_is (machines.Name (names.List g.step.machine)) new (g.machine_is ∙ ap machines.Name g.step.machine_is)
        (takes-list most m.root h x within path k.m.visit.asked place low k.m sent turn came old next_is g.step.machine after call refl before kept late k.began k.visit k.stage e told
        g.step.step));
    grows = λ h e place x op machine story path is.
        let k = story path is in
        let low = k.within in
        let longer = length_last h e in
        record { within = omega (arith, low, longer); runs = runs-grow most m.root h e x k.within path place machine k.runs };
    stays = λ h e x op answer quiet story path is value done.
        let k = story path is value done in
        listed-grows most m.root h e x k.within path value quiet k;
    lost = λ h x op shown path is value done. absurd (let no_way : answers.Refused faults.Lost ≡ answers.Done value = done in cc);
  }
