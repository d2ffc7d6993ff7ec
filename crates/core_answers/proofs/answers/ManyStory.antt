-- A list is refused for too many names only where its pages hold them.
use Rattle.core_answers.proofs.Prelude.{◌≡◌, ◌<◌, ◌≤◌, ◌+◌, ◌-◌, ℕ, zero, suc, Bool, true, false, List, [], ◌∷◌, ◌++◌, length, take, filter, map, Option, None, Result, Ok, Err, inl, inr, refl, sym, ap, subst, ◌∙◌, arith, if◌then◌else◌, All-nil, filter-append, map-append, length-append, nat_tests, Attr, Verf, DirKept, PlusRow, ListStep, More, End, ListFault, listing_limit, last_cookie, page_step, Answer, Fault, Entry, Began, Call, Reply, Op, LastCookie, names_of, list_call, page_reply, Asked, Rooted, EndsWith, RefusalRow, Terms, IsDelivered, Asked-grow, Asked-wide, Rooted-wide, length_last, goes_again, fails_busy, Step, Shelf, Turn, ListDir, Visit, VisitStep, Walk, Mounted, Machine, machine_of, Starts, Resumes, Takes, State, Busy, Over, Setup, Awaits, awaits-laws, begins-unbegun, OwnOr, all-starts, all-resumes, all-takes, IsNameTold, NamesTold, names-later, LeadsTo, leads-from, leads-later, IsHeard, heard-tells, then-as, VisitStory, ends-later, ends-until, ThenOf, IsTold, TaleLaws, IsQuiet, AsksFor}
use Rattle.std.proofs.Common.{nat_lt}
use Rattle.dir_list.specs.Listings.{counts, counted}
use Rattle.world_model.specs.Chains.{Chain, start, next}
use Rattle.core_facts.proofs.OneCalls.{visit-at, visit-then, walks-then, visit-later}
use Rattle.core_facts.proofs.Tales.{IsLastReply, IsWhy, reached-answered}
use Rattle.nfs_dir_calls.specs.declared.keeping.DirKept.TheVariants as kept
use Rattle.dir_list.specs.declared.progress.ListFault.TheVariants as list_faults
use Rattle.world_model.specs.declared.answer.Answer.TheVariants as answers
use Rattle.world_model.specs.declared.answer.Fault.TheVariants as faults
use Rattle.world_model.specs.declared.answer.Value.TheVariants as values
use Rattle.world_model.specs.declared.message.Reply.TheVariants as replies
use Rattle.world_model.specs.declared.op.Op.TheVariants as ops
use Rattle.world_model.specs.Leads as leading
use Rattle.claims.specs.OkRows.{most_names}
use Rattle.client_shelf.specs.declared.step.Step.TheVariants as nexts
use Rattle.name_ops.specs.declared.visit.VisitStep.TheVariants as visits
use Rattle.name_ops.specs.declared.walk.WalkStep.TheVariants as walks
use Rattle.name_ops.specs.ListDir as listing
use Rattle.name_ops.specs.Visiting as visiting
use Rattle.name_ops.specs.Walking as walking
use Rattle.op_machines.specs.declared.machine.Machine.TheVariants as machines
use Rattle.op_machines.specs.declared.name_machine.NameMachine.TheVariants as names
use Rattle.core_answers.proofs.rows.ListStory.{IsMore, IsPage, IsListing, Stage, fresh, listed, ListRuns}
use Rattle.core_answers.specs.answers.ManyNames.{ManyShown}
use Rattle.core_answers.proofs.answers.WalkFaults.{LookFaults, FineVisit, go-visit-fine, took-visit-fine}

-- ---- faults

-- another fault than that there are too many names
abbrev pub NotMany : Fault → Type 0
NotMany faults.Lost = Unit {0}
NotMany (faults.Nfs status) = Unit {0}
NotMany (faults.Rpc n) = Unit {0}
NotMany (faults.Bad rule) = Unit {0}
NotMany faults.Spent = Unit {0}
NotMany faults.Slot = Unit {0}
NotMany faults.Mode = Unit {0}
NotMany faults.Kind = Unit {0}
NotMany faults.Many = ⊥
NotMany faults.Memory = Unit {0}

why-many : (h : List Entry) (x : ℕ) (call : Call) (fault : Fault) → IsWhy h x call fault → NotMany fault
why-many h x call faults.Many w = w
why-many h x call (faults.Nfs status) w = tt
why-many h x call (faults.Rpc n) w = tt
why-many h x call (faults.Bad rule) w = tt
why-many h x call faults.Spent w = tt
why-many h x call faults.Slot w = tt
why-many h x call faults.Mode w = tt
why-many h x call faults.Lost w = tt
why-many h x call faults.Kind w = tt
why-many h x call faults.Memory w = tt

look : LookFaults NotMany
look = record { nfs = λ status. tt; bad = tt }

-- ---- pages

limit-is : listing_limit ≡ most_names
unfolding listing_limit
limit-is = refl

counted-are : (rows : List PlusRow) → counted rows ≡ names_of rows
unfolding counted counts
counted-are rows = refl

counted-both : (a b : List PlusRow) → counted (a ++ b) ≡ counted a ++ counted b
unfolding counted
counted-both a b = ap (filter counts) (map-append (λ (row : PlusRow). row.name) a b) ∙ filter-append counts (map (λ (row : PlusRow). row.name) a) (map (λ (row : PlusRow). row.name) b)

last-row : (row : PlusRow) (rows : List PlusRow) → LastCookie (row ∷ rows) (last_cookie row rows)
last-row row [] = record { front = []; row = row; is = refl; cookie_is = refl }
last-row row (next_row ∷ rows) =
    let l = last-row next_row rows in
    record { front = row ∷ l.front; row = l.row; is = ap (λ (rs : List PlusRow). row ∷ rs) l.is; cookie_is = l.cookie_is }

is-more : (before : List (List ℕ)) (page : List PlusRow) (verf : Verf) (eof : Bool) (cookie : ℕ) (with_ : Verf) → page_step before page verf eof ≡ Ok (More cookie with_)
    → IsMore before page verf cookie with_
unfolding page_step
is-more before [] verf true cookie with_ is = absurd (cc)
is-more before [] verf false cookie with_ is = absurd (cc)
is-more before (row ∷ rows) verf eof cookie with_ is = by (nat_lt listing_limit (length before + length (counted (row ∷ rows)))) eof refl is
  where
    by : (b e : Bool) → nat_lt listing_limit (length before + length (counted (row ∷ rows))) ≡ b
        → ◌≡◌ {A = Result ListStep ListFault} (if b then Err list_faults.Many else if e then Ok End else Ok (More (last_cookie row rows) verf)) (Ok (More cookie with_))
        → IsMore before (row ∷ rows) verf cookie with_
    by true e lt same = absurd (cc)
    by false true lt same = absurd (cc)
    by false false lt same =
        let to : last_cookie row rows ≡ cookie = cc in
        let this : verf ≡ with_ = cc in
        record { last = subst (LastCookie (row ∷ rows)) to (last-row row rows); same = sym this; few = grind (arith, nat_tests) }

-- a page with which there are too many
is-many : (before : List (List ℕ)) (page : List PlusRow) (verf : Verf) (eof : Bool) → page_step before page verf eof ≡ Err list_faults.Many
    → listing_limit < length before + length (counted page)
unfolding page_step
is-many before [] verf true is = absurd (cc)
is-many before [] verf false is = absurd (cc)
is-many before (row ∷ rows) verf eof is = by (nat_lt listing_limit (length before + length (counted (row ∷ rows)))) eof refl is
  where
    by : (b e : Bool) → nat_lt listing_limit (length before + length (counted (row ∷ rows))) ≡ b
        → ◌≡◌ {A = Result ListStep ListFault} (if b then Err list_faults.Many else if e then Ok End else Ok (More (last_cookie row rows) verf)) (Err list_faults.Many)
        → listing_limit < length before + length (counted (row ∷ rows))
    by true e lt same = grind (arith, nat_tests)
    by false true lt same = absurd (cc)
    by false false lt same = absurd (cc)

page-by : (reply : DirKept) (heard : _) → listing.page_heard (Ok (replies.Dir reply)) ≡ Ok heard → IsPage (Ok (replies.Dir reply)) heard.verf heard.page heard.eof
page-by (kept.ReadDirPlus attr verf page eof) heard is =
    let this : record { page = page; verf = verf; eof = eof } ≡ heard = cc in
    subst (λ (p : _). IsPage (Ok (replies.Dir (kept.ReadDirPlus attr verf page eof))) p.verf p.page p.eof) this (record { attr = attr; is = refl })
page-by (kept.ReadDirPlusFail status attr) heard is = absurd (cc)
page-by reply heard is = absurd (cc)

page-of : (came : Result Reply Fault) (heard : _) → listing.page_heard came ≡ Ok heard → IsPage came heard.verf heard.page heard.eof
page-of (Ok (replies.Dir reply)) heard is = page-by reply heard is
page-of (Ok (replies.File reply)) heard is = absurd (cc)
page-of (Ok (replies.Mount reply)) heard is = absurd (cc)
page-of (Err fault) heard is = absurd (cc)

-- a reply that gives no page doesn't give too many names
page-not : (reply : DirKept) (fault : Fault) → listing.page_heard (Ok (replies.Dir reply)) ≡ Err fault → NotMany fault
page-not (kept.ReadDirPlus attr verf page eof) fault is = absurd (cc)
page-not (kept.ReadDirPlusFail status attr) fault is = let nfs : faults.Nfs status.0 ≡ fault = cc in subst NotMany nfs tt
page-not reply fault is = let bad : faults.Bad 2 ≡ fault = cc in subst NotMany bad tt

heard-not : (came : Result Reply Fault) (fault : Fault) → ((f : Fault) → came ≡ Err f → NotMany f) → listing.page_heard came ≡ Err fault → NotMany fault
heard-not (Ok (replies.Dir reply)) fault fine is = page-not reply fault is
heard-not (Ok (replies.File reply)) fault fine is = let bad : faults.Bad 2 ≡ fault = cc in subst NotMany bad tt
heard-not (Ok (replies.Mount reply)) fault fine is = let bad : faults.Bad 2 ≡ fault = cc in subst NotMany bad tt
heard-not (Err f) fault fine is = let same : f ≡ fault = cc in subst NotMany same (fine f refl)

-- ---- a walk at its end stays there

passed-stays : (n : ℕ) (path : List (List ℕ)) (now : ℕ) (known : _) (p : walking.Passed) → walking.name_at path p.spot.left ≡ None → walking.passed n path now known p ≡ p
passed-stays zero path now known p none = refl
passed-stays (suc n) path now known p none =
    let same = passed-stays n path now known p none in
    ap (walking.passed_one path now known) same ∙ ap (λ (o : Option (List ℕ)). walking.passed_next o now known p) none

go-stays : (w : Walk) (turn : Turn) (shelf : Shelf) → walking.next_name w ≡ None → walking.go_after w turn shelf ≡ w
go-stays w turn shelf none = by w.asked
  where
    there : walking.walked w turn.now shelf.attrs shelf.names ≡ w
    there = ap (λ (p : walking.Passed). record w { spot = p.spot }) (passed-stays w.spot.left w.path turn.now shelf.attrs (record { spot = w.spot; names = shelf.names }) none)

    by : (b : Bool) → (if b then w else walking.on_after w turn shelf.attrs shelf.names) ≡ w
    by true = refl
    by false = ap (λ (k : Walk). walking.asked_after (walking.next_name k) turn.room k) there ∙ ap (λ (o : Option (List ℕ)). walking.asked_after o turn.room w) none

follow-walk : (step : _) (room : Bool) (v : Visit) → (visiting.follow_after step room v).walk ≡ v.walk
follow-walk (walks.Send call) room v = refl
follow-walk walks.Wait room v = refl
follow-walk (walks.At object) true v = refl
follow-walk (walks.At object) false v = refl
follow-walk (walks.Refused fault) room v = refl

visit-stays : (v : Visit) (turn : Turn) (shelf : Shelf) → walking.next_name v.walk ≡ None → (visiting.visit_after v turn shelf).walk ≡ v.walk
visit-stays v turn shelf none = by v.asked
  where
    by : (b : Bool) → (if b then v else visiting.follow_after (walking.go_next v.walk turn shelf) turn.room (record v { walk = walking.go_after v.walk turn shelf })).walk ≡ v.walk
    by true = refl
    by false = follow-walk (walking.go_next v.walk turn shelf) turn.room (record v { walk = walking.go_after v.walk turn shelf }) ∙ go-stays v.walk turn shelf none

waits-none : (b : Bool) (w : Walk) → walking.next_name w ≡ None → (if b then walking.next_name w else None) ≡ None
waits-none true w none = none
waits-none false w none = refl

takes-stays : (v : Visit) (sent turn : Turn) (came : Result Reply Fault) (old : Shelf) (next_step : _) (new : Visit) (after : Shelf) → walking.next_name v.walk ≡ None
    → visiting.VisitTakes v sent turn came old next_step new after → new.walk ≡ v.walk
takes-stays v sent turn came old next_step new after none k =
    let waited = subst (λ (o : Option (List ℕ)). walking.Takes o v.walk sent turn came old k.step k.walked.walk after) (waits-none v.walk.asked v.walk none) k.takes in
    ap (λ (w : Visit). w.walk) k.visit_is ∙ follow-walk k.step turn.room k.walked ∙ waited.walk_is

-- ---- the story

chain-from : (h more : List Entry) (x n m : ℕ) (d : List ℕ) (rows : List PlusRow) (cookie : ℕ) (verf : Verf) → n ≤ m → Chain h x n d rows cookie verf → Chain (h ++ more) x m d rows cookie verf
chain-from h more x n m d _ _ _ wide (start rows cookie verf a b c) = start rows cookie verf a b c
chain-from h more x n m d _ _ _ wide (next rows before page cookie from verf with_ attr eof c a l is) =
    next rows before page cookie from verf with_ attr eof (chain-from h more x n m d before from with_ wide c)
    (Asked-wide (h ++ more) x n x m (list_call d from with_) (page_reply attr verf page eof) (omega arith) wide (Asked-grow h more x n (list_call d from with_) (page_reply attr verf page eof) a)) l is

module _ (top : List ℕ) (terms : Terms) where
  -- its last record is a page, with which there are more names than are listed
  pub record IsFull (h : List Entry) (x : ℕ) (path : List (List ℕ)) : Type 0 where
    pub d : List ℕ
    pub before : List PlusRow
    pub page : List PlusRow
    pub cookie : ℕ
    pub verf : Verf
    pub after : Verf
    pub attr : Option Attr
    pub eof : Bool
    pub leads : LeadsTo top h path d
    pub chain : Chain h x (length h) d before cookie verf
    pub ends : EndsWith h x (length h) (list_call d cookie verf) (page_reply attr after page eof)
    pub few : length (names_of before) ≤ most_names
    pub many : most_names < length (names_of (before ++ page))

  abbrev pub ManyAnswer : List Entry → ℕ → List (List ℕ) → Answer → Type 0
  ManyAnswer h x path (answers.Done value) = Unit {0}
  ManyAnswer h x path (answers.Refused fault) = fault ≡ faults.Many → IsFull h x path

  module _ (h : List Entry) (x : ℕ) (path : List (List ℕ)) where
    other : (fault : Fault) → NotMany fault → ManyAnswer h x path (answers.Refused fault)
    other fault n = λ is. absurd (subst NotMany is n)

    abbrev pub Steps : Step → Machine → Type 0
    Steps next_is new = ThenOf (ListRuns top terms h x path) (ManyAnswer h x path) next_is new

    -- ---- its walk

    -- a step that refuses does so for another reason
    abbrev OtherNext : Step → Type 0
    OtherNext (nexts.Send call) = Unit {0}
    OtherNext nexts.Wait = Unit {0}
    OtherNext (nexts.Done (answers.Done value)) = Unit {0}
    OtherNext (nexts.Done (answers.Refused fault)) = NotMany fault

    other-by : (own : List ℕ → Call) (step : VisitStep) (next_is : Step) → next_is ≡ visiting.next_by own step → FineVisit NotMany step → OtherNext next_is
    other-by own (visits.Look call) next_is is f = subst OtherNext (sym is) tt
    other-by own visits.Wait next_is is f = subst OtherNext (sym is) tt
    other-by own (visits.Ask object) next_is is f = subst OtherNext (sym is) tt
    other-by own (visits.Refused fault) next_is is f = subst OtherNext (sym is) f

    abbrev Any : Answer → Type 0
    Any answer = Unit {0}

    on-visit : (next_is : Step) (m : ListDir) (visit : Visit) (new : Machine) → new ≡ machines.Name (names.List (record m { visit = visit })) → Stage top terms h x path (record m { visit = visit })
        → OtherNext next_is → ThenOf (VisitStory top h path) Any next_is visit → Steps next_is new
    on-visit (nexts.Send call) m visit new is s o t = record { m = record m { visit = visit }; is = is; visit = t; stage = s }
    on-visit nexts.Wait m visit new is s o t = record { m = record m { visit = visit }; is = is; visit = t; stage = s }
    on-visit (nexts.Done (answers.Done value)) m visit new is s o t = tt
    on-visit (nexts.Done (answers.Refused fault)) m visit new is s o t = other fault o

    -- with the walk where it was
    stage-same : (m : ListDir) (visit : Visit) → (walking.next_name m.visit.walk ≡ None → visit.walk ≡ m.visit.walk) → Stage top terms h x path m → Stage top terms h x path (record m { visit = visit })
    stage-same m visit stays (fresh place none) = fresh place none
    stage-same m visit stays (listed l) =
        let same = stays l.done in
        listed (record {
          done = ap walking.next_name same ∙ l.done;
          rows = l.rows;
          chain = subst (λ (w : Walk). Chain h x (length h) w.spot.dir l.rows m.place.cookie m.place.verf) (sym same) l.chain;
          listing_is = l.listing_is;
          few = l.few;
        })

    goes : (machine : Machine) (wsize : ℕ) (turn : Turn) (old : Shelf) (next_is : Step) (new : Machine) (after : Shelf) → NamesTold h old.names → ListRuns top terms h x path machine
        → Resumes wsize machine turn old next_is new after → Steps next_is new
    goes machine wsize turn old next_is new after t k r =
        let g = subst (λ (n : Machine). Resumes wsize n turn old next_is new after) k.is r in
        on-visit next_is k.m (visiting.visit_after k.m.visit turn old) new (g.machine_is ∙ ap machines.Name g.step.machine_is)
        (stage-same k.m (visiting.visit_after k.m.visit turn old) (visit-stays k.m.visit turn old) k.stage)
        (other-by (listing.page_call k.m.place) (visiting.visit_next k.m.visit turn old) next_is g.step.next_is (go-visit-fine NotMany k.m.visit turn old))
        (visit-then top h path Any (listing.page_call k.m.place) k.m.visit turn old next_is (λ f. tt) t k.visit g.step.next_is)

    -- ---- its pages

    -- the pages that came, also where there was none
    known : (m : ListDir) → walking.next_name m.visit.walk ≡ None → Stage top terms h x path m → IsListing top terms h x path m
    unfolding counted
    known m done (listed l) = l
    known m done (fresh place none) = record {
      done = done;
      rows = [];
      chain = start [] m.place.cookie m.place.verf refl (ap (λ (p : _). p.cookie) place) (ap (λ (p : _). p.verf) place);
      listing_is = none;
      few = omega arith;
    }

    -- what was told of its page
    abbrev PageTold : Result Reply Fault → ListDir → Type 0
    PageTold came m = (reply : Reply) → came ≡ Ok reply → IsLastReply h x (list_call m.visit.walk.spot.dir m.place.cookie m.place.verf) reply

    more-then : (next_is : Step) (room : Bool) (m : ListDir) (place : _) (visit : VisitStory top h path m.visit) → (done : walking.next_name m.visit.walk ≡ None)
        → IsListing top terms h x path (record m { place = place }) → (to : ListDir) → to ≡ listing.more_after place room m → next_is ≡ listing.more_next place room m
        → Steps next_is (machines.Name (names.List to))
    more-then next_is room m place visit done l to is at =
        then-as (ListRuns top terms h x path) (ManyAnswer h x path) (listing.more_next place room m) next_is (machines.Name (names.List to)) at (by room)
      where
        runs : ListRuns top terms h x path (machines.Name (names.List to))
        runs = record {
          m = listing.more_after place room m;
          is = ap (λ (k : ListDir). machines.Name (names.List k)) is;
          visit = record { walk = visit.walk; done = λ yes_is. done };
          stage = listed (record { done = l.done; rows = l.rows; chain = l.chain; listing_is = l.listing_is; few = l.few });
        }

        by : (b : Bool) → Steps (if b then nexts.Send (listing.page_call place m.visit.walk.spot.dir) else nexts.Wait) (machines.Name (names.List to))
        by true = runs
        by false = runs

    -- the names of all pages
    rows-are : (m : ListDir) (l : IsListing top terms h x path m) (page : List PlusRow) → m.listing ++ counted page ≡ counted (l.rows ++ page)
    rows-are m l page = ap (λ (ns : List (List ℕ)). ns ++ counted page) l.listing_is ∙ sym (counted-both l.rows page)

    full : (m : ListDir) (page : List PlusRow) (after : Verf) (eof : Bool) (came : Result Reply Fault) (l : IsListing top terms h x path m) → LeadsTo top h path m.visit.walk.spot.dir
        → PageTold came m → IsPage came after page eof → listing_limit < length m.listing + length (counted page) → IsFull h x path
    full m page after eof came l leads told shown many = record {
      d = m.visit.walk.spot.dir;
      before = l.rows;
      page = page;
      cookie = m.place.cookie;
      verf = m.place.verf;
      after = after;
      attr = shown.attr;
      eof = eof;
      leads = leads;
      chain = l.chain;
      ends = (told _ shown.is).ends;
      few = subst (λ (n : ℕ). length (names_of l.rows) ≤ n) limit-is (subst (λ (ns : List (List ℕ)). length ns ≤ listing_limit) (counted-are l.rows) l.few);
      many = subst (λ (n : ℕ). n < length (names_of (l.rows ++ page))) limit-is
          (subst (λ (ns : List (List ℕ)). listing_limit < length ns) (rows-are m l page ∙ counted-are (l.rows ++ page))
          (let both = length-append m.listing (counted page) in omega (arith, both, many)));
    }

    page-then : (step : Result ListStep ListFault) (heard : _) (came : Result Reply Fault) (room : Bool) (m : ListDir) (next_is : Step) (to : ListDir) → VisitStory top h path m.visit
        → IsListing top terms h x path m → LeadsTo top h path m.visit.walk.spot.dir → PageTold came m → listing.TakesStep step heard room m next_is to
        → IsPage came heard.verf heard.page heard.eof → page_step m.listing heard.page heard.verf heard.eof ≡ step → Steps next_is (machines.Name (names.List to))
    page-then (Ok (More cookie verf)) heard came room m next_is to visit l leads told t page is =
        let k = is-more m.listing heard.page heard.verf heard.eof cookie verf is in
        let last = told _ page.is in
        let size = k.few in
        more-then next_is room (record m { listing = m.listing ++ counted heard.page }) (record { cookie = cookie; verf = verf }) visit l.done (record {
          done = l.done;
          rows = l.rows ++ heard.page;
          chain = next (l.rows ++ heard.page) l.rows heard.page cookie m.place.cookie verf m.place.verf page.attr heard.eof l.chain
              (subst (λ (v : Verf). Asked h x (length h) (list_call m.visit.walk.spot.dir m.place.cookie m.place.verf) (page_reply page.attr v heard.page heard.eof)) (sym k.same) last.asked)
              k.last refl;
          listing_is = rows-are m l heard.page;
          few = subst (λ (ns : List (List ℕ)). length ns ≤ listing_limit) (rows-are m l heard.page)
              (let both = length-append m.listing (counted heard.page) in omega (arith, both, size));
        }) to t.1 t.0
    page-then (Ok End) heard came room m next_is to visit l leads told t page is =
        then-as (ListRuns top terms h x path) (ManyAnswer h x path) (nexts.Done (answers.Done (values.Names t.names))) next_is (machines.Name (names.List to)) t.next_is tt
    page-then (Err list_faults.Many) heard came room m next_is to visit l leads told t page is =
        then-as (ListRuns top terms h x path) (ManyAnswer h x path) (nexts.Done (answers.Refused faults.Many)) next_is (machines.Name (names.List to)) t.0
        (λ same. full m heard.page heard.verf heard.eof came l leads told page (is-many m.listing heard.page heard.verf heard.eof is))
    page-then (Err list_faults.Stuck) heard came room m next_is to visit l leads told t page is =
        then-as (ListRuns top terms h x path) (ManyAnswer h x path) (nexts.Done (answers.Refused (faults.Bad 6))) next_is (machines.Name (names.List to)) t.0 (other (faults.Bad 6) tt)
    page-then (Err list_faults.Memory) heard came room m next_is to visit l leads told t page is =
        then-as (ListRuns top terms h x path) (ManyAnswer h x path) (nexts.Done (answers.Refused faults.Memory)) next_is (machines.Name (names.List to)) t.0 (other faults.Memory tt)

    list-then : (told : Result _ Fault) (again : Bool) (came : Result Reply Fault) (room : Bool) (m : ListDir) (next_is : Step) (to : ListDir) → VisitStory top h path m.visit
        → IsListing top terms h x path m → LeadsTo top h path m.visit.walk.spot.dir → PageTold came m → ((f : Fault) → came ≡ Err f → NotMany f) → listing.page_heard came ≡ told
        → Stage top terms h x path m → listing.Follows told again room m next_is to → Steps next_is (machines.Name (names.List to))
    list-then (Ok heard) again came room m next_is to visit l leads told fine is s (inl f) =
        then-as (ListRuns top terms h x path) (ManyAnswer h x path) (nexts.Done (answers.Refused faults.Memory)) next_is (machines.Name (names.List to)) f.0 (other faults.Memory tt)
    list-then (Ok heard) again came room m next_is to visit l leads told fine is s (inr f) =
        page-then (page_step m.listing heard.page heard.verf heard.eof) heard came room m next_is to visit l leads told f (page-of came heard is) refl
    list-then (Err fault) again came room m next_is to visit l leads told fine is s f =
        then-as (ListRuns top terms h x path) (ManyAnswer h x path) (listing.refused_next again fault m) next_is (machines.Name (names.List to)) f.0 (by again)
      where
        by : (b : Bool) → Steps (listing.refused_next b fault m) (machines.Name (names.List to))
        by true = record { m = m; is = ap (λ (k : ListDir). machines.Name (names.List k)) f.1; visit = visit; stage = s }
        by false = other fault (heard-not came fault fine is)

    takes-list : (asked : Bool) (m : ListDir) (sent turn : Turn) (came : Result Reply Fault) (old : Shelf) (next_is : Step) (to : ListDir) (after : Shelf) (call : Call) → m.visit.asked ≡ asked
        → NamesTold h old.names → VisitStory top h path m.visit → Stage top terms h x path m → OwnOr asked (listing.page_call m.place) m.visit.walk call → IsHeard top h came call
        → ((reply : Reply) → came ≡ Ok reply → IsLastReply h x call reply) → ((f : Fault) → came ≡ Err f → NotMany f) → listing.TakesList asked m sent turn came old next_is to after
        → Steps next_is (machines.Name (names.List to))
    takes-list true m sent turn came old next_is to after call is t visit stage e heard last fine k =
        list-then (listing.page_heard came) (goes_again (fails_busy (listing.page_heard came)) sent turn old.repeats) came turn.room m next_is to visit (known m (visit.done is) stage)
        (visit-at top h path m.visit visit is) (λ reply came_is. subst (λ (c : Call). IsLastReply h x c reply) e (last reply came_is)) fine refl stage k.follows
    takes-list false m sent turn came old next_is to after call is t visit stage e heard last fine k =
        on-visit next_is m k.visit (machines.Name (names.List to)) (ap (λ (n : ListDir). machines.Name (names.List n)) k.machine_is)
        (stage-same m k.visit (λ none. takes-stays m.visit sent turn came old k.walks.step k.visit after none k.walks.takes) stage)
        (other-by (listing.page_call m.place) k.walks.step next_is k.walks.next_is (took-visit-fine NotMany look m.visit sent turn came old k.walks.step k.visit after fine k.walks.takes))
        (walks-then top h path Any (listing.page_call m.place) m.visit sent turn came old next_is k.visit after call (λ f. tt) is t visit e heard k.walks)

  -- ---- one entry more

  runs-later : (h : List Entry) (e : Entry) (x : ℕ) (path : List (List ℕ)) (machine : Machine) → ListRuns top terms h x path machine → ListRuns top terms (h ++ e ∷ []) x path machine
  runs-later h e x path machine k = record { m = k.m; is = k.is; visit = visit-later top h e path k.m.visit k.visit; stage = by k.stage }
    where
      by : Stage top terms h x path k.m → Stage top terms (h ++ e ∷ []) x path k.m
      by (fresh place none) = fresh place none
      by (listed l) = listed (record {
        done = l.done;
        rows = l.rows;
        chain = let more = length_last h e in chain-from h (e ∷ []) x (length h) (length (h ++ e ∷ [])) _ l.rows _ _ (omega (arith, more)) l.chain;
        listing_is = l.listing_is;
        few = l.few;
      })

  full-later : (h : List Entry) (e : Entry) (x : ℕ) (path : List (List ℕ)) → (IsDelivered e → ⊥) → IsFull h x path → IsFull (h ++ e ∷ []) x path
  full-later h e x path quiet k = record {
    d = k.d;
    before = k.before;
    page = k.page;
    cookie = k.cookie;
    verf = k.verf;
    after = k.after;
    attr = k.attr;
    eof = k.eof;
    leads = leads-later top h e path k.d k.leads;
    chain = let more = length_last h e in chain-from h (e ∷ []) x (length h) (length (h ++ e ∷ [])) k.d k.before k.cookie k.verf (omega (arith, more)) k.chain;
    ends = ends-later h e x _ _ quiet k.ends;
    few = k.few;
    many = k.many;
  }

-- ---- the theorem

module _ (m : Mounted) (terms : Terms) where
  abbrev StateStory : List Entry → ℕ → List (List ℕ) → State → Type 0
  StateStory h x path (Busy machine) = ListRuns m.root terms h x path machine
  StateStory h x path (Over answer) = ManyAnswer m.root terms h x path answer

  abbrev Story : List Entry → ℕ → Op → State → Type 0
  Story h x op state = (path : List (List ℕ)) → op ≡ ops.List path → StateStory h x path state

  abbrev NoWait : List Entry → ℕ → Op → Call → Type 0
  NoWait h x op call = Unit {0}

  abbrev Shelved : List Entry → Shelf → Type 0
  Shelved h shelf = NamesTold h shelf.names

  asks-none : (h : List Entry) (x : ℕ) (op : Op) (next_is : Step) → AsksFor (NoWait h x op) next_is
  asks-none h x op (nexts.Send call) = tt
  asks-none h x op nexts.Wait = tt
  asks-none h x op (nexts.Done answer) = tt

  for-list : (h : List Entry) (x : ℕ) (op : Op) (next_is : Step) (new : Machine) → ((path : List (List ℕ)) → op ≡ ops.List path → Steps m.root terms h x path next_is new)
      → ThenOf (λ k. Story h x op (Busy k)) (λ a. Story h x op (Over a)) next_is new
  for-list h x op (nexts.Send call) new t = t
  for-list h x op nexts.Wait new t = t
  for-list h x op (nexts.Done answer) new t = t

  step-as : (h : List Entry) (x : ℕ) (path : List (List ℕ)) (next_is : Step) (to new : Machine) → new ≡ to → Steps m.root terms h x path next_is to → Steps m.root terms h x path next_is new
  step-as h x path next_is to new is t = subst (λ (k : Machine). Steps m.root terms h x path next_is k) (sym is) t

  heard-all : (h : List Entry) (x : ℕ) (op : Op) (machine : Machine) (came : Result Reply Fault) (told : IsTold Awaits NoWait h x op machine came) → IsHeard m.root h came told.call
  heard-all h x op machine came told reply is = Asked-wide h x (length h) 0 (length h) told.call reply (omega arith) (omega arith) (told.heard reply is).asked

  begins : (h : List Entry) (x : ℕ) (path : List (List ℕ)) → ListRuns m.root terms h x path (machines.Name (names.List (listing.list_of m.root path)))
  begins h x path = record {
    m = listing.list_of m.root path;
    is = refl;
    visit = record {
      walk = record {
        path_is = refl;
        spot = record {
          few = omega arith;
          leads = leading.root (take (length path - length path) path) m.root (let none : length path - length path ≡ 0 = omega arith in ap (λ (n : ℕ). take n path) none) refl;
        };
      };
      done = λ is. absurd (let no_way : false ≡ true = is in cc);
    };
    stage = fresh refl refl;
  }

  state-later : (h : List Entry) (e : Entry) (x : ℕ) (path : List (List ℕ)) (state : State) → IsQuiet state e → StateStory h x path state → StateStory (h ++ e ∷ []) x path state
  state-later h e x path (Busy machine) quiet k = runs-later m.root terms h e x path machine k
  state-later h e x path (Over (answers.Done value)) quiet k = tt
  state-later h e x path (Over (answers.Refused fault)) quiet k = λ is. full-later m.root terms h e x path quiet (k is)

  many-laws : (setup : Setup) → TaleLaws (machine_of m) setup Awaits NoWait Shelved Story
  many-laws setup = record {
    fresh = λ h v up fresh. subst (λ (es : _). NamesTold h es) (sym fresh.names) (All-nil (IsNameTold h));
    starts = λ h lane line op wsize turn old next_is new after kept s. record {
      shelf = all-starts (IsNameTold (h ++ Began lane line op ∷ [])) (machine_of m lane op) wsize turn old next_is new after s kept;
      asks = asks-none (h ++ Began lane line op ∷ []) (length h) op next_is;
      then_ = for-list (h ++ Began lane line op ∷ []) (length h) op next_is new (λ path is.
          goes m.root terms (h ++ Began lane line op ∷ []) (length h) path (machines.Name (names.List (listing.list_of m.root path))) wsize turn old next_is new after kept
          (begins (h ++ Began lane line op ∷ []) (length h) path) (subst (λ (o : Op). Starts wsize (machine_of m lane o) turn old next_is new after) is s));
    };
    resumes = λ h x op machine wsize turn old next_is new after kept story r. record {
      shelf = all-resumes (IsNameTold h) machine wsize turn old next_is new after r kept;
      asks = asks-none h x op next_is;
      then_ = for-list h x op next_is new (λ path is. goes m.root terms h x path machine wsize turn old next_is new after kept (story path is) r);
    };
    takes = λ h x op machine wsize sent turn came old next_is new after others kept story one told t. record {
      shelf = all-takes (IsNameTold h) machine wsize sent turn came old next_is new after told.call told.expects
          (heard-tells m.root h came told.call (heard-all h x op machine came told)) t kept;
      asks = asks-none h x op next_is;
      then_ = for-list h x op next_is new (λ path is.
          let k = story path is in
          let g = subst (λ (n : Machine). Takes wsize n sent turn came old next_is new after) k.is t in
          let e = subst (λ (n : Machine). Awaits n told.call) k.is told.expects in
          step-as h x path next_is (machines.Name (names.List g.step.machine)) new (g.machine_is ∙ ap machines.Name g.step.machine_is)
          (takes-list m.root terms h x path k.m.visit.asked k.m sent turn came old next_is g.step.machine after told.call refl kept k.visit k.stage e
          (heard-all h x op machine came told) told.heard (λ f is. why-many h x told.call f (told.refused f is)) g.step.step));
    };
    still = λ h e shelf kept. names-later h e shelf.names kept;
    waits = λ h e x op call w. tt;
    grows = λ h e x op state quiet story path is. state-later h e x path state quiet (story path is);
    lost = λ h x op shown path is same. absurd (let no_way : faults.Lost ≡ faults.Many = same in cc);
  }

pub many-shown : ManyShown
many-shown m setup h v r terms known_root lane x path y ended =
    let s = reached-answered (machine_of m) (begins-unbegun m) setup Awaits awaits-laws (NoWait m terms) (Shelved m terms) (Story m terms) (many-laws m terms setup) h v r lane x (ops.List path) y
    (answers.Refused faults.Many) ended in
    let since = ended.later in
    let rooted : Rooted terms.origin h y m.root = Rooted-wide terms.origin h x y m.root (omega (arith, since)) (known_root x lane ended.line (ops.List path) ended.began) in
    subst (λ (k : List Entry). RefusalRow terms k lane x y (ops.List path) faults.Many) (sym s.is)
    (by s.before s.after s.there (subst (λ (k : List Entry). Rooted terms.origin k y m.root) s.is rooted) (s.story path refl refl))
  where
    by : (before after : List Entry) → length before ≡ y → Rooted terms.origin (before ++ after) y m.root → IsFull m.root terms before x path
        → RefusalRow terms (before ++ after) lane x y (ops.List path) faults.Many
    by before after there rooted k = record {
      path = path;
      d = k.d;
      before = k.before;
      page = k.page;
      cookie = k.cookie;
      verf = k.verf;
      after = k.after;
      attr = k.attr;
      eof = k.eof;
      is = refl;
      leads = leads-from m.root terms.origin before after (length before) y path k.d (omega (arith, there)) rooted k.leads;
      chain = chain-from before after x (length before) y k.d k.before k.cookie k.verf (omega (arith, there)) k.chain;
      ends = ends-until before after x y _ _ there k.ends;
      few = k.few;
      many = k.many;
    }
