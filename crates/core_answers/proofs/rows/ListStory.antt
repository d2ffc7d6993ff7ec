-- A list, step by step: its pages are a chain, and its answer shows their names.
use Rattle.core_answers.proofs.Prelude.{◌≡◌, ◌≤◌, ◌+◌, ◌-◌, ◌⊎◌, inl, inr, ℕ, zero, suc, Bool, true, false, List, [], ◌∷◌, ◌++◌, length, take, drop, slice_get, filter, map, Contains, Option, Some, None, Result, Ok, Err, refl, sym, ap, subst, ◌∙◌, arith, if◌then◌else◌, All-nil, filter-append, map-append, length-append, nat_tests, Attr, Verf, DirKept, PlusRow, ListStep, More, End, ListFault, listing_limit, last_cookie, page_step, Answer, Fault, Value, Entry, Began, Answered, Call, Reply, Op, Asks, look_up, LastCookie, names_of, list_call, page_reply, Asked, Rooted, EndsWith, UnderWay, Terms, Asked-grow, Asked-wide, Rooted-wide, At-grow, At-back, length_last, goes_again, fails_busy, Step, Shelf, Turn, ListDir, Visit, Walk, Mounted, Machine, machine_of, Starts, Resumes, Takes, State, Busy, Over, Setup, of_name, of_walk, visit_by, in_flight, IsCounted, Counts, Awaits, awaits-laws, begins-unbegun, counts-calls, OwnOr, WalkAwaits, all-starts, all-resumes, all-takes, IsNameTold, NamesTold, names-later, LeadsTo, leads-from, leads-later, WalkLeads, IsHeard, heard-tells, then-as, VisitStory, ends-later, ends-until, ThenOf, AskedOf, IsTold, TaleLaws, IsQuiet, AsksFor}
use Rattle.std.proofs.Common.{nat_lt}
use Rattle.std.specs.Prelude.{◌↔◌}
use Rattle.dir_list.specs.Listings.{counts, counted}
use Rattle.world_model.specs.Chains.{Chain, start, next}
use Rattle.world_model.specs.Mounts.{Given}
use Rattle.core_facts.specs.InFlight.{of_visit}
use Rattle.core_facts.proofs.OneCalls.{visit-at, visit-then, walks-then, visit-later}
use Rattle.core_facts.proofs.Tales.{IsLastReply, WasAsked, NoneYet, reached-answered, reached-asked}
use Rattle.nfs_dir_calls.specs.declared.keeping.DirKept.TheVariants as kept
use Rattle.dir_list.specs.declared.progress.ListFault.TheVariants as list_faults
use Rattle.world_model.specs.declared.answer.Answer.TheVariants as answers
use Rattle.world_model.specs.declared.answer.Fault.TheVariants as faults
use Rattle.world_model.specs.declared.answer.Value.TheVariants as values
use Rattle.world_model.specs.declared.message.Reply.TheVariants as replies
use Rattle.world_model.specs.declared.op.Op.TheVariants as ops
use Rattle.claims.specs.Asks as asks
use Rattle.claims.specs.CallsAsked.{NoneBegan}
use Rattle.world_model.specs.Leads as leading
use Rattle.world_model.specs.Leads.{Leads}
use Rattle.claims.specs.OkRows.{ListOk, most_names}
use Rattle.client_shelf.specs.declared.step.Step.TheVariants as nexts
use Rattle.name_ops.specs.declared.walk.WalkStep.TheVariants as walks
use Rattle.name_ops.specs.ListDir as listing
use Rattle.name_ops.specs.Visiting as visiting
use Rattle.name_ops.specs.Walking as walking
use Rattle.op_machines.specs.declared.machine.Machine.TheVariants as machines
use Rattle.op_machines.specs.declared.name_machine.NameMachine.TheVariants as names
use Rattle.core_answers.specs.rows.Listed.{ListsShown, IsMadeForList, ListsAsk}

-- ---- lists of names

split-at : (xs : List (List ℕ)) (i : ℕ) (x : List ℕ) → slice_get xs i ≡ Some x → xs ≡ take i xs ++ x ∷ drop (suc i) xs
split-at [] i x at = absurd (cc)
split-at (y ∷ ys) zero x at = let same : y ≡ x = cc in ap (λ (z : List ℕ). z ∷ ys) same
split-at (y ∷ ys) (suc i) x at = ap (λ (zs : List (List ℕ)). y ∷ zs) (split-at ys i x at)

-- ---- pages

limit-is : listing_limit ≡ most_names
unfolding listing_limit
limit-is = refl

counted-are : (rows : List PlusRow) → counted rows ≡ names_of rows
unfolding counted counts
counted-are rows = refl

counted-both : (a b : List PlusRow) → counted (a ++ b) ≡ counted a ++ counted b
unfolding counted
counted-both a b = ap (filter counts) (map-append (λ (row : PlusRow). row.name) a b) ∙ filter-append counts (map (λ (row : PlusRow). row.name) a) (map (λ (row : PlusRow). row.name) b)

last-row : (row : PlusRow) (rows : List PlusRow) → LastCookie (row ∷ rows) (last_cookie row rows)
last-row row [] = record { front = []; row = row; is = refl; cookie_is = refl }
last-row row (next_row ∷ rows) =
    let l = last-row next_row rows in
    record { front = row ∷ l.front; row = l.row; is = ap (λ (rs : List PlusRow). row ∷ rs) l.is; cookie_is = l.cookie_is }

-- what a page that leads to another one is
pub record IsMore (before : List (List ℕ)) (page : List PlusRow) (verf : Verf) (cookie : ℕ) (with_ : Verf) : Type 0 where
  pub last : LastCookie page cookie
  pub same : with_ ≡ verf
  pub few : length before + length (counted page) ≤ listing_limit

-- and the last one
pub record IsEnd (before : List (List ℕ)) (page : List PlusRow) (eof : Bool) : Type 0 where
  pub at_end : eof ≡ true
  pub few : length before ≤ listing_limit → length before + length (counted page) ≤ listing_limit

is-more : (before : List (List ℕ)) (page : List PlusRow) (verf : Verf) (eof : Bool) (cookie : ℕ) (with_ : Verf) → page_step before page verf eof ≡ Ok (More cookie with_)
    → IsMore before page verf cookie with_
unfolding page_step
is-more before [] verf true cookie with_ is = absurd (cc)
is-more before [] verf false cookie with_ is = absurd (cc)
is-more before (row ∷ rows) verf eof cookie with_ is = by (nat_lt listing_limit (length before + length (counted (row ∷ rows)))) eof refl is
  where
    by : (b e : Bool) → nat_lt listing_limit (length before + length (counted (row ∷ rows))) ≡ b
        → ◌≡◌ {A = Result ListStep ListFault} (if b then Err list_faults.Many else if e then Ok End else Ok (More (last_cookie row rows) verf)) (Ok (More cookie with_))
        → IsMore before (row ∷ rows) verf cookie with_
    by true e lt same = absurd (cc)
    by false true lt same = absurd (cc)
    by false false lt same =
        let to : last_cookie row rows ≡ cookie = cc in
        let this : verf ≡ with_ = cc in
        record { last = subst (LastCookie (row ∷ rows)) to (last-row row rows); same = sym this; few = grind (arith, nat_tests) }

is-end : (before : List (List ℕ)) (page : List PlusRow) (verf : Verf) (eof : Bool) → page_step before page verf eof ≡ Ok End → IsEnd before page eof
unfolding page_step counted
is-end before [] verf true is = record { at_end = refl; few = λ few. omega (arith, few) }
is-end before [] verf false is = absurd (cc)
is-end before (row ∷ rows) verf eof is = by (nat_lt listing_limit (length before + length (counted (row ∷ rows)))) eof refl is
  where
    by : (b e : Bool) → nat_lt listing_limit (length before + length (counted (row ∷ rows))) ≡ b
        → ◌≡◌ {A = Result ListStep ListFault} (if b then Err list_faults.Many else if e then Ok End else Ok (More (last_cookie row rows) verf)) (Ok End) → IsEnd before (row ∷ rows) e
    by true e lt same = absurd (cc)
    by false true lt same = record { at_end = refl; few = λ few. grind (arith, nat_tests) }
    by false false lt same = absurd (cc)

-- a page that came
pub record IsPage (came : Result Reply Fault) (verf : Verf) (page : List PlusRow) (eof : Bool) : Type 0 where
  pub attr : Option Attr
  pub is : came ≡ Ok (page_reply attr verf page eof)

page-by : (reply : DirKept) (heard : _) → listing.page_heard (Ok (replies.Dir reply)) ≡ Ok heard → IsPage (Ok (replies.Dir reply)) heard.verf heard.page heard.eof
page-by (kept.ReadDirPlus attr verf page eof) heard is =
    let this : record { page = page; verf = verf; eof = eof } ≡ heard = cc in
    subst (λ (p : _). IsPage (Ok (replies.Dir (kept.ReadDirPlus attr verf page eof))) p.verf p.page p.eof) this (record { attr = attr; is = refl })
page-by (kept.ReadDirPlusFail status attr) heard is = absurd (cc)
page-by reply heard is = absurd (cc)

page-of : (came : Result Reply Fault) (heard : _) → listing.page_heard came ≡ Ok heard → IsPage came heard.verf heard.page heard.eof
page-of (Ok (replies.Dir reply)) heard is = page-by reply heard is
page-of (Ok (replies.File reply)) heard is = absurd (cc)
page-of (Ok (replies.Mount reply)) heard is = absurd (cc)
page-of (Err fault) heard is = absurd (cc)

-- ---- a walk at its end stays there

passed-stays : (n : ℕ) (path : List (List ℕ)) (now : ℕ) (known : _) (p : walking.Passed) → walking.name_at path p.spot.left ≡ None → walking.passed n path now known p ≡ p
passed-stays zero path now known p none = refl
passed-stays (suc n) path now known p none =
    let same = passed-stays n path now known p none in
    ap (walking.passed_one path now known) same ∙ ap (λ (o : Option (List ℕ)). walking.passed_next o now known p) none

go-stays : (w : Walk) (turn : Turn) (shelf : Shelf) → walking.next_name w ≡ None → walking.go_after w turn shelf ≡ w
go-stays w turn shelf none = by w.asked
  where
    there : walking.walked w turn.now shelf.attrs shelf.names ≡ w
    there = ap (λ (p : walking.Passed). record w { spot = p.spot }) (passed-stays w.spot.left w.path turn.now shelf.attrs (record { spot = w.spot; names = shelf.names }) none)

    by : (b : Bool) → (if b then w else walking.on_after w turn shelf.attrs shelf.names) ≡ w
    by true = refl
    by false = ap (λ (k : Walk). walking.asked_after (walking.next_name k) turn.room k) there ∙ ap (λ (o : Option (List ℕ)). walking.asked_after o turn.room w) none

follow-walk : (step : _) (room : Bool) (v : Visit) → (visiting.follow_after step room v).walk ≡ v.walk
follow-walk (walks.Send call) room v = refl
follow-walk walks.Wait room v = refl
follow-walk (walks.At object) true v = refl
follow-walk (walks.At object) false v = refl
follow-walk (walks.Refused fault) room v = refl

visit-stays : (v : Visit) (turn : Turn) (shelf : Shelf) → walking.next_name v.walk ≡ None → (visiting.visit_after v turn shelf).walk ≡ v.walk
visit-stays v turn shelf none = by v.asked
  where
    by : (b : Bool) → (if b then v else visiting.follow_after (walking.go_next v.walk turn shelf) turn.room (record v { walk = walking.go_after v.walk turn shelf })).walk ≡ v.walk
    by true = refl
    by false = follow-walk (walking.go_next v.walk turn shelf) turn.room (record v { walk = walking.go_after v.walk turn shelf }) ∙ go-stays v.walk turn shelf none

waits-none : (b : Bool) (w : Walk) → walking.next_name w ≡ None → (if b then walking.next_name w else None) ≡ None
waits-none true w none = none
waits-none false w none = refl

takes-stays : (v : Visit) (sent turn : Turn) (came : Result Reply Fault) (old : Shelf) (next_step : _) (new : Visit) (after : Shelf) → walking.next_name v.walk ≡ None
    → visiting.VisitTakes v sent turn came old next_step new after → new.walk ≡ v.walk
takes-stays v sent turn came old next_step new after none k =
    let waited = subst (λ (o : Option (List ℕ)). walking.Takes o v.walk sent turn came old k.step k.walked.walk after) (waits-none v.walk.asked v.walk none) k.takes in
    ap (λ (w : Visit). w.walk) k.visit_is ∙ follow-walk k.step turn.room k.walked ∙ waited.walk_is

-- ---- the story

module _ (top : List ℕ) where
  abbrev pub given : Terms → Terms
  given terms = record terms { origin = Given top }

  chain-from : (h more : List Entry) (x n m : ℕ) (d : List ℕ) (rows : List PlusRow) (cookie : ℕ) (verf : Verf) → n ≤ m → Chain h x n d rows cookie verf → Chain (h ++ more) x m d rows cookie verf
  chain-from h more x n m d _ _ _ wide (start rows cookie verf a b c) = start rows cookie verf a b c
  chain-from h more x n m d _ _ _ wide (next rows before page cookie from verf with_ attr eof c a l is) =
      next rows before page cookie from verf with_ attr eof (chain-from h more x n m d before from with_ wide c)
      (Asked-wide (h ++ more) x n x m (list_call d from with_) (page_reply attr verf page eof) (omega arith) wide (Asked-grow h more x n (list_call d from with_) (page_reply attr verf page eof) a)) l is

  module _ (terms : Terms) (h : List Entry) (x : ℕ) (path : List (List ℕ)) where
    -- its walk is at its end, and these entries came
    pub record IsListing (m : ListDir) : Type 0 where
      pub done : walking.next_name m.visit.walk ≡ None
      pub rows : List PlusRow
      pub chain : Chain h x (length h) m.visit.walk.spot.dir rows m.place.cookie m.place.verf
      pub listing_is : m.listing ≡ counted rows
      pub few : length (counted rows) ≤ listing_limit

    -- no page came yet
    pub data Stage (m : ListDir) : Type 0 where
      fresh : m.place ≡ listing.first_page → m.listing ≡ [] → Stage m
      listed : IsListing m → Stage m

    pub record ListRuns (machine : Machine) : Type 0 where
      pub m : ListDir
      pub is : machine ≡ machines.Name (names.List m)
      pub visit : VisitStory top h path m.visit
      pub stage : Stage m

    abbrev pub ListAnswer : Answer → Type 0
    ListAnswer (answers.Done value) = ListOk (given terms) h x (length h) path value
    ListAnswer (answers.Refused fault) = Unit {0}

    abbrev pub Steps : Step → Machine → Type 0
    Steps next_is new = ThenOf ListRuns ListAnswer next_is new

    -- a visit of the list goes on
    on-visit : (next_is : Step) (m : ListDir) (visit : Visit) (new : Machine) → new ≡ machines.Name (names.List (record m { visit = visit })) → Stage (record m { visit = visit })
        → ThenOf (VisitStory top h path) ListAnswer next_is visit → Steps next_is new
    on-visit (nexts.Send call) m visit new is s t = record { m = record m { visit = visit }; is = is; visit = t; stage = s }
    on-visit nexts.Wait m visit new is s t = record { m = record m { visit = visit }; is = is; visit = t; stage = s }
    on-visit (nexts.Done answer) m visit new is s t = t

    -- with the walk where it was
    stage-same : (m : ListDir) (visit : Visit) → (walking.next_name m.visit.walk ≡ None → visit.walk ≡ m.visit.walk) → Stage m → Stage (record m { visit = visit })
    stage-same m visit stays (fresh place none) = fresh place none
    stage-same m visit stays (listed l) =
        let same = stays l.done in
        listed (record {
          done = ap walking.next_name same ∙ l.done;
          rows = l.rows;
          chain = subst (λ (w : Walk). Chain h x (length h) w.spot.dir l.rows m.place.cookie m.place.verf) (sym same) l.chain;
          listing_is = l.listing_is;
          few = l.few;
        })

    goes : (machine : Machine) (wsize : ℕ) (turn : Turn) (old : Shelf) (next_is : Step) (new : Machine) (after : Shelf) → NamesTold h old.names → ListRuns machine
        → Resumes wsize machine turn old next_is new after → Steps next_is new
    goes machine wsize turn old next_is new after t k r =
        let g = subst (λ (n : Machine). Resumes wsize n turn old next_is new after) k.is r in
        on-visit next_is k.m (visiting.visit_after k.m.visit turn old) new (g.machine_is ∙ ap machines.Name g.step.machine_is)
        (stage-same k.m (visiting.visit_after k.m.visit turn old) (visit-stays k.m.visit turn old) k.stage)
        (visit-then top h path ListAnswer (listing.page_call k.m.place) k.m.visit turn old next_is (λ f. tt) t k.visit g.step.next_is)

    -- the pages that came, also where there was none
    known : (m : ListDir) → walking.next_name m.visit.walk ≡ None → Stage m → IsListing m
    unfolding counted
    known m done (listed l) = l
    known m done (fresh place none) = record {
      done = done;
      rows = [];
      chain = start [] m.place.cookie m.place.verf refl (ap (λ (p : _). p.cookie) place) (ap (λ (p : _). p.verf) place);
      listing_is = none;
      few = omega arith;
    }

    -- what was told of its page
    pub record PageTold (came : Result Reply Fault) (m : ListDir) : Type 0 where
      pub heard : (reply : Reply) → came ≡ Ok reply → IsLastReply h x (list_call m.visit.walk.spot.dir m.place.cookie m.place.verf) reply

    more-then : (next_is : Step) (room : Bool) (m : ListDir) (place : _) (visit : VisitStory top h path m.visit) → (done : walking.next_name m.visit.walk ≡ None)
        → IsListing (record m { place = place }) → (to : ListDir) → to ≡ listing.more_after place room m → next_is ≡ listing.more_next place room m → Steps next_is (machines.Name (names.List to))
    more-then next_is room m place visit done l to is at = then-as ListRuns ListAnswer (listing.more_next place room m) next_is (machines.Name (names.List to)) at (by room)
      where
        runs : ListRuns (machines.Name (names.List to))
        runs = record {
          m = listing.more_after place room m;
          is = ap (λ (k : ListDir). machines.Name (names.List k)) is;
          visit = record { walk = visit.walk; done = λ yes_is. done };
          stage = listed (record { done = l.done; rows = l.rows; chain = l.chain; listing_is = l.listing_is; few = l.few });
        }

        by : (b : Bool) → Steps (if b then nexts.Send (listing.page_call place m.visit.walk.spot.dir) else nexts.Wait) (machines.Name (names.List to))
        by true = runs
        by false = runs

    page-then : (step : Result ListStep ListFault) (heard : _) (came : Result Reply Fault) (room : Bool) (m : ListDir) (next_is : Step) (to : ListDir) → VisitStory top h path m.visit
        → IsListing m → LeadsTo top h path m.visit.walk.spot.dir → PageTold came m → listing.TakesStep step heard room m next_is to → IsPage came heard.verf heard.page heard.eof
        → page_step m.listing heard.page heard.verf heard.eof ≡ step → Steps next_is (machines.Name (names.List to))
    page-then (Ok (More cookie verf)) heard came room m next_is to visit l leads told t page is =
        let k = is-more m.listing heard.page heard.verf heard.eof cookie verf is in
        let last = told.heard _ page.is in
        let size = k.few in
        let rows_is : m.listing ++ counted heard.page ≡ counted (l.rows ++ heard.page) = ap (λ (ns : List (List ℕ)). ns ++ counted heard.page) l.listing_is ∙ sym (counted-both l.rows heard.page) in
        more-then next_is room (record m { listing = m.listing ++ counted heard.page }) (record { cookie = cookie; verf = verf }) visit l.done (record {
          done = l.done;
          rows = l.rows ++ heard.page;
          chain = next (l.rows ++ heard.page) l.rows heard.page cookie m.place.cookie verf m.place.verf page.attr heard.eof l.chain
              (subst (λ (v : Verf). Asked h x (length h) (list_call m.visit.walk.spot.dir m.place.cookie m.place.verf) (page_reply page.attr v heard.page heard.eof)) (sym k.same) last.asked)
              k.last refl;
          listing_is = rows_is;
          few = subst (λ (ns : List (List ℕ)). length ns ≤ listing_limit) rows_is (let both = length-append m.listing (counted heard.page) in omega (arith, both, size));
        }) to t.1 t.0
    page-then (Ok End) heard came room m next_is to visit l leads told t page is =
        let k = is-end m.listing heard.page heard.verf heard.eof is in
        let last = told.heard _ page.is in
        let rows_is : m.listing ++ counted heard.page ≡ names_of (l.rows ++ heard.page) =
        ap (λ (ns : List (List ℕ)). ns ++ counted heard.page) l.listing_is ∙ sym (counted-both l.rows heard.page) ∙ counted-are (l.rows ++ heard.page) in
        then-as ListRuns ListAnswer (nexts.Done (answers.Done (values.Names t.names))) next_is (machines.Name (names.List to)) t.next_is (record {
          d = m.visit.walk.spot.dir;
          before = l.rows;
          page = heard.page;
          cookie = m.place.cookie;
          verf = m.place.verf;
          after = heard.verf;
          attr = page.attr;
          names = t.names;
          leads = leads;
          chain = l.chain;
          ends = subst (λ (e : Bool). EndsWith h x (length h) (list_call m.visit.walk.spot.dir m.place.cookie m.place.verf) (page_reply page.attr heard.verf heard.page e)) k.at_end last.ends;
          few = subst (λ (n : ℕ). length (names_of (l.rows ++ heard.page)) ≤ n) limit-is (subst (λ (ns : List (List ℕ)). length ns ≤ listing_limit) rows_is
              (let both = length-append m.listing (counted heard.page) in
              let few = k.few (subst (λ (ns : List (List ℕ)). length ns ≤ listing_limit) (sym l.listing_is) l.few) in
              omega (arith, both, few)));
          ordered = t.lists.ordered;
          same = λ name. subst (λ (ns : List (List ℕ)). Contains t.names name ↔ Contains ns name) rows_is (t.lists.same name);
          gives = refl;
        })
    page-then (Err fault) heard came room m next_is to visit l leads told t page is = then-as ListRuns ListAnswer _ next_is (machines.Name (names.List to)) t.0 tt

    list-then : (told : Result _ Fault) (again : Bool) (came : Result Reply Fault) (room : Bool) (m : ListDir) (next_is : Step) (to : ListDir) → VisitStory top h path m.visit
        → IsListing m → LeadsTo top h path m.visit.walk.spot.dir → PageTold came m → listing.page_heard came ≡ told → Stage m → listing.Follows told again room m next_is to
        → Steps next_is (machines.Name (names.List to))
    list-then (Ok heard) again came room m next_is to visit l leads told is s (inl f) =
        then-as ListRuns ListAnswer (nexts.Done (answers.Refused faults.Memory)) next_is (machines.Name (names.List to)) f.0 tt
    list-then (Ok heard) again came room m next_is to visit l leads told is s (inr f) =
        page-then (page_step m.listing heard.page heard.verf heard.eof) heard came room m next_is to visit l leads told f (page-of came heard is) refl
    list-then (Err fault) again came room m next_is to visit l leads told is s f =
        then-as ListRuns ListAnswer (listing.refused_next again fault m) next_is (machines.Name (names.List to)) f.0 (by again)
      where
        by : (b : Bool) → Steps (listing.refused_next b fault m) (machines.Name (names.List to))
        by true = record { m = m; is = ap (λ (k : ListDir). machines.Name (names.List k)) f.1; visit = visit; stage = s }
        by false = tt

    takes-list : (asked : Bool) (m : ListDir) (sent turn : Turn) (came : Result Reply Fault) (old : Shelf) (next_is : Step) (to : ListDir) (after : Shelf) (call : Call) → m.visit.asked ≡ asked
        → NamesTold h old.names → VisitStory top h path m.visit → Stage m → OwnOr asked (listing.page_call m.place) m.visit.walk call → IsHeard top h came call
        → ((reply : Reply) → came ≡ Ok reply → IsLastReply h x call reply) → listing.TakesList asked m sent turn came old next_is to after → Steps next_is (machines.Name (names.List to))
    takes-list true m sent turn came old next_is to after call is t visit stage e heard last k =
        list-then (listing.page_heard came) (goes_again (fails_busy (listing.page_heard came)) sent turn old.repeats) came turn.room m next_is to visit (known m (visit.done is) stage)
        (visit-at top h path m.visit visit is) (record { heard = λ reply came_is. subst (λ (c : Call). IsLastReply h x c reply) e (last reply came_is) }) refl stage k.follows
    takes-list false m sent turn came old next_is to after call is t visit stage e heard last k =
        on-visit next_is m k.visit (machines.Name (names.List to)) (ap (λ (n : ListDir). machines.Name (names.List n)) k.machine_is)
        (stage-same m k.visit (λ none. takes-stays m.visit sent turn came old k.walks.step k.visit after none k.walks.takes) stage)
        (walks-then top h path ListAnswer (listing.page_call m.place) m.visit sent turn came old next_is k.visit after call (λ f. tt) is t visit e heard k.walks)

    -- ---- the call for which it waits

    -- the LOOKUP of a name of its path
    pub record Looks (call : Call) : Type 0 where
      pub at : ℕ
      pub name : List ℕ
      pub d : List ℕ
      pub there : slice_get path at ≡ Some name
      pub leads : LeadsTo top h (take at path) d
      pub is : call ≡ look_up d name

    -- the READDIRPLUS of its next page
    pub record Pages (call : Call) : Type 0 where
      pub d : List ℕ
      pub rows : List PlusRow
      pub cookie : ℕ
      pub verf : Verf
      pub leads : LeadsTo top h path d
      pub chain : Chain h x (length h) d rows cookie verf
      pub is : call ≡ list_call d cookie verf

    abbrev pub Wants : Call → Type 0
    Wants call = Looks call ⊎ Pages call

    walk-looks : (w : Walk) (call : Call) → WalkLeads top h path w → WalkAwaits w call → 1 ≤ of_walk w → Looks call
    walk-looks w call l e some = by (walking.waiting_name w) refl
      where
        then_name : (b : Bool) (name : List ℕ) → (if b then walking.next_name w else None) ≡ Some name → walking.next_name w ≡ Some name
        then_name true name is = is
        then_name false name is = absurd (cc)

        by : (o : Option (List ℕ)) → walking.waiting_name w ≡ o → Looks call
        by None none = absurd (let zero_is : of_walk w ≡ 0 = ap of_name none in omega (arith, some, zero_is))
        by (Some name) is = record {
          at = length path - w.spot.left;
          name = name;
          d = w.spot.dir;
          there = ap (λ (p : List (List ℕ)). walking.name_at p w.spot.left) (sym l.path_is) ∙ then_name w.asked name is;
          leads = l.spot.leads;
          is = e name is;
        }

    wanted : (machine : Machine) (call : Call) → ListRuns machine → Awaits machine call → 1 ≤ in_flight machine → Wants call
    wanted machine call k e some = by k.m.visit.asked refl
      where
        mine : OwnOr k.m.visit.asked (listing.page_call k.m.place) k.m.visit.walk call
        mine = subst (λ (n : Machine). Awaits n call) k.is e

        many : 1 ≤ of_visit k.m.visit
        many = subst (λ (n : Machine). 1 ≤ in_flight n) k.is some

        by : (b : Bool) → k.m.visit.asked ≡ b → Wants call
        by true is =
            let l = known k.m (k.visit.done is) k.stage in
            inr (record {
              d = k.m.visit.walk.spot.dir;
              rows = l.rows;
              cookie = k.m.place.cookie;
              verf = k.m.place.verf;
              leads = visit-at top h path k.m.visit k.visit is;
              chain = l.chain;
              is = subst (λ (b : Bool). OwnOr b (listing.page_call k.m.place) k.m.visit.walk call) is mine;
            })
        by false is = inl (walk-looks k.m.visit.walk call k.visit.walk (subst (λ (b : Bool). OwnOr b (listing.page_call k.m.place) k.m.visit.walk call) is mine)
            (let same : of_visit k.m.visit ≡ of_walk k.m.visit.walk = ap (λ (b : Bool). visit_by b (of_walk k.m.visit.walk)) is in omega (arith, many, same)))

  -- ---- one entry more

  runs-later : (terms : Terms) (h : List Entry) (e : Entry) (x : ℕ) (path : List (List ℕ)) (machine : Machine) → ListRuns terms h x path machine → ListRuns terms (h ++ e ∷ []) x path machine
  runs-later terms h e x path machine k = record { m = k.m; is = k.is; visit = visit-later top h e path k.m.visit k.visit; stage = by k.stage }
    where
      by : Stage terms h x path k.m → Stage terms (h ++ e ∷ []) x path k.m
      by (fresh place none) = fresh place none
      by (listed l) = listed (record {
        done = l.done;
        rows = l.rows;
        chain = let more = length_last h e in chain-from h (e ∷ []) x (length h) (length (h ++ e ∷ [])) _ l.rows _ _ (omega (arith, more)) l.chain;
        listing_is = l.listing_is;
        few = l.few;
      })

  ok-from : (terms : Terms) (h more : List Entry) (x n m : ℕ) (path : List (List ℕ)) (value : Value) → n ≤ m → Rooted terms.origin (h ++ more) m top
      → ((call : Call) (reply : Reply) → EndsWith h x n call reply → EndsWith (h ++ more) x m call reply) → ListOk (given terms) h x n path value → ListOk terms (h ++ more) x m path value
  ok-from terms h more x n m path value wide rooted ends k = record {
    d = k.d;
    before = k.before;
    page = k.page;
    cookie = k.cookie;
    verf = k.verf;
    after = k.after;
    attr = k.attr;
    names = k.names;
    leads = leads-from top terms.origin h more n m path k.d wide rooted k.leads;
    chain = chain-from h more x n m k.d k.before k.cookie k.verf wide k.chain;
    ends = ends _ _ k.ends;
    few = k.few;
    ordered = k.ordered;
    same = k.same;
    gives = k.gives;
  }

  wants-later : (terms : Terms) (h : List Entry) (e : Entry) (x : ℕ) (path : List (List ℕ)) (call : Call) → Wants terms h x path call → Wants terms (h ++ e ∷ []) x path call
  wants-later terms h e x path call (inl k) =
      inl (record { at = k.at; name = k.name; d = k.d; there = k.there; leads = leads-later top h e (take k.at path) k.d k.leads; is = k.is })
  wants-later terms h e x path call (inr k) = inr (record {
    d = k.d;
    rows = k.rows;
    cookie = k.cookie;
    verf = k.verf;
    leads = leads-later top h e path k.d k.leads;
    chain = let more = length_last h e in chain-from h (e ∷ []) x (length h) (length (h ++ e ∷ [])) k.d k.rows k.cookie k.verf (omega (arith, more)) k.chain;
    is = k.is;
  })

  asks-as : (terms : Terms) (h more : List Entry) (x n m : ℕ) (path : List (List ℕ)) (call : Call) → length h ≡ n → n ≤ m → Rooted terms.origin (h ++ more) m top
      → Wants terms h x path call → Asks terms (h ++ more) x m (ops.List path) call
  asks-as terms h more x n m path call there wide rooted (inl k) = by (drop (suc k.at) path) refl
    where
      leads-on : Leads terms.origin (h ++ more) m (take k.at path) k.d
      leads-on = leads-from top terms.origin h more n m (take k.at path) k.d wide rooted (subst (λ (i : ℕ). Leads (Given top) h i (take k.at path) k.d) there k.leads)

      parts : path ≡ take k.at path ++ k.name ∷ drop (suc k.at) path
      parts = split-at path k.at k.name k.there

      by : (rest : List (List ℕ)) → drop (suc k.at) path ≡ rest → Asks terms (h ++ more) x m (ops.List path) call
      by [] is = asks.finds path k.d k.name (0, omega arith, refl) (record {
        earlier = take k.at path;
        is = parts ∙ ap (λ (r : List (List ℕ)). take k.at path ++ k.name ∷ r) is;
        leads = leads-on;
      }) k.is
      by (y ∷ ys) is = asks.walks path (take k.at path) ys k.name y k.d (0, omega arith, refl) (parts ∙ ap (λ (r : List (List ℕ)). take k.at path ++ k.name ∷ r) is) leads-on k.is
  asks-as terms h more x n m path call there wide rooted (inr k) = asks.lists path k.d k.rows k.cookie k.verf refl
      (leads-from top terms.origin h more n m path k.d wide rooted (subst (λ (i : ℕ). Leads (Given top) h i path k.d) there k.leads))
      (chain-from h more x n m k.d k.rows k.cookie k.verf wide (subst (λ (i : ℕ). Chain h x i k.d k.rows k.cookie k.verf) there k.chain)) k.is

-- ---- the theorems

module _ (m : Mounted) (terms : Terms) where
  abbrev StateStory : List Entry → ℕ → List (List ℕ) → State → Type 0
  StateStory h x path (Busy machine) = ListRuns m.root terms h x path machine
  StateStory h x path (Over answer) = ListAnswer m.root terms h x path answer

  abbrev Story : List Entry → ℕ → Op → State → Type 0
  Story h x op state = (path : List (List ℕ)) → op ≡ ops.List path → StateStory h x path state

  -- each call that waits is one that its list asks for
  abbrev Caused : List Entry → ℕ → Op → Call → Type 0
  Caused h x op call = (path : List (List ℕ)) → op ≡ ops.List path → Wants m.root terms h x path call

  abbrev Shelved : List Entry → Shelf → Type 0
  Shelved h shelf = NamesTold h shelf.names

  asks-all : (h : List Entry) (x : ℕ) (op : Op) (next_is : Step) (before : ℕ) (new : Machine) → ((path : List (List ℕ)) → op ≡ ops.List path → Steps m.root terms h x path next_is new)
      → AskedOf Awaits next_is new → ((path : List (List ℕ)) → op ≡ ops.List path → Counts next_is before new) → AsksFor (Caused h x op) next_is
  asks-all h x op (nexts.Send call) before new t e c = λ path is. wanted m.root terms h x path new call (t path is) e (let more = (c path is).0 in omega (arith, more))
  asks-all h x op nexts.Wait before new t e c = tt
  asks-all h x op (nexts.Done answer) before new t e c = tt

  runs-counted : (h : List Entry) (x : ℕ) (path : List (List ℕ)) (machine : Machine) → ListRuns m.root terms h x path machine → IsCounted machine
  runs-counted h x path machine k = subst IsCounted (sym k.is) tt

  for-list : (h : List Entry) (x : ℕ) (op : Op) (next_is : Step) (new : Machine) → ((path : List (List ℕ)) → op ≡ ops.List path → Steps m.root terms h x path next_is new)
      → ThenOf (λ k. Story h x op (Busy k)) (λ a. Story h x op (Over a)) next_is new
  for-list h x op (nexts.Send call) new t = t
  for-list h x op nexts.Wait new t = t
  for-list h x op (nexts.Done answer) new t = t

  step-as : (h : List Entry) (x : ℕ) (path : List (List ℕ)) (next_is : Step) (to new : Machine) → new ≡ to → Steps m.root terms h x path next_is to → Steps m.root terms h x path next_is new
  step-as h x path next_is to new is t = subst (λ (k : Machine). Steps m.root terms h x path next_is k) (sym is) t

  heard-all : (h : List Entry) (x : ℕ) (op : Op) (machine : Machine) (came : Result Reply Fault) (told : IsTold Awaits Caused h x op machine came) → IsHeard m.root h came told.call
  heard-all h x op machine came told reply is = Asked-wide h x (length h) 0 (length h) told.call reply (omega arith) (omega arith) (told.heard reply is).asked

  begins : (h : List Entry) (x : ℕ) (path : List (List ℕ)) → ListRuns m.root terms h x path (machines.Name (names.List (listing.list_of m.root path)))
  begins h x path = record {
    m = listing.list_of m.root path;
    is = refl;
    visit = record {
      walk = record {
        path_is = refl;
        spot = record {
          few = omega arith;
          leads = leading.root (take (length path - length path) path) m.root (let none : length path - length path ≡ 0 = omega arith in ap (λ (n : ℕ). take n path) none) refl;
        };
      };
      done = λ is. absurd (let no_way : false ≡ true = is in cc);
    };
    stage = fresh refl refl;
  }

  state-later : (h : List Entry) (e : Entry) (x : ℕ) (path : List (List ℕ)) (state : State) → IsQuiet state e → StateStory h x path state → StateStory (h ++ e ∷ []) x path state
  state-later h e x path (Busy machine) quiet k = runs-later m.root terms h e x path machine k
  state-later h e x path (Over (answers.Done value)) quiet k =
      let more = length_last h e in
      ok-from m.root (given m.root terms) h (e ∷ []) x (length h) (length (h ++ e ∷ [])) path value (omega (arith, more)) refl (λ call reply d. ends-later h e x call reply quiet d) k
  state-later h e x path (Over (answers.Refused fault)) quiet k = tt

  list-laws : (setup : Setup) → TaleLaws (machine_of m) setup Awaits Caused Shelved Story
  list-laws setup = record {
    fresh = λ h v up fresh. subst (λ (es : _). NamesTold h es) (sym fresh.names) (All-nil (IsNameTold h));
    starts = λ h lane line op wsize turn old next_is new after kept s.
        let steps : (path : List (List ℕ)) → op ≡ ops.List path → Steps m.root terms (h ++ Began lane line op ∷ []) (length h) path next_is new =
        λ path is.
        goes m.root terms (h ++ Began lane line op ∷ []) (length h) path (machines.Name (names.List (listing.list_of m.root path))) wsize turn old next_is new after kept
        (begins (h ++ Began lane line op ∷ []) (length h) path) (subst (λ (o : Op). Starts wsize (machine_of m lane o) turn old next_is new after) is s) in
        record {
          shelf = all-starts (IsNameTold (h ++ Began lane line op ∷ [])) (machine_of m lane op) wsize turn old next_is new after s kept;
          asks = asks-all (h ++ Began lane line op ∷ []) (length h) op next_is 0 new steps (awaits-laws.starts (machine_of m lane op) wsize turn old next_is new after s)
              (λ path is. counts-calls.start wsize (machine_of m lane op) turn old next_is new after s (begins-unbegun m lane op));
          then_ = for-list (h ++ Began lane line op ∷ []) (length h) op next_is new steps;
        };
    resumes = λ h x op machine wsize turn old next_is new after kept story r.
        let steps : (path : List (List ℕ)) → op ≡ ops.List path → Steps m.root terms h x path next_is new =
        λ path is. goes m.root terms h x path machine wsize turn old next_is new after kept (story path is) r in
        record {
          shelf = all-resumes (IsNameTold h) machine wsize turn old next_is new after r kept;
          asks = asks-all h x op next_is (in_flight machine) new steps (awaits-laws.resumes machine wsize turn old next_is new after r).0
              (λ path is. counts-calls.resume wsize machine turn old next_is new after r (runs-counted h x path machine (story path is)));
          then_ = for-list h x op next_is new steps;
        };
    takes = λ h x op machine wsize sent turn came old next_is new after others kept story one told t.
        let steps : (path : List (List ℕ)) → op ≡ ops.List path → Steps m.root terms h x path next_is new =
        λ path is.
        let k = story path is in
        let g = subst (λ (n : Machine). Takes wsize n sent turn came old next_is new after) k.is t in
        let e = subst (λ (n : Machine). Awaits n told.call) k.is told.expects in
        step-as h x path next_is (machines.Name (names.List g.step.machine)) new (g.machine_is ∙ ap machines.Name g.step.machine_is)
        (takes-list m.root terms h x path k.m.visit.asked k.m sent turn came old next_is g.step.machine after told.call refl kept k.visit k.stage e
        (heard-all h x op machine came told) told.heard g.step.step) in
        record {
          shelf = all-takes (IsNameTold h) machine wsize sent turn came old next_is new after told.call told.expects
              (heard-tells m.root h came told.call (heard-all h x op machine came told)) t kept;
          asks = asks-all h x op next_is others new steps (awaits-laws.takes machine wsize sent turn came old next_is new after others one t).0
              (λ path is. counts-calls.take wsize machine sent turn came old next_is new after others t (runs-counted h x path machine (story path is)) one);
          then_ = for-list h x op next_is new steps;
        };
    still = λ h e shelf kept. names-later h e shelf.names kept;
    waits = λ h e x op call w path is. wants-later m.root terms h e x path call (w path is);
    grows = λ h e x op state quiet story path is. state-later h e x path state quiet (story path is);
    lost = λ h x op shown path is. tt;
  }

pub lists-shown : ListsShown
lists-shown m setup h v r terms known_root lane x path y value ended =
    let s = reached-answered (machine_of m) (begins-unbegun m) setup Awaits awaits-laws (Caused m terms) (Shelved m terms) (Story m terms) (list-laws m terms setup) h v r lane x (ops.List path) y
    (answers.Done value) ended in
    let since = ended.later in
    let there = s.there in
    let rooted : Rooted terms.origin h y m.root = Rooted-wide terms.origin h x y m.root (omega (arith, since)) (known_root x lane ended.line (ops.List path) ended.began) in
    subst (λ (k : List Entry). ListOk terms k x y path value) (sym s.is)
    (ok-from m.root terms s.before s.after x (length s.before) y path value (omega (arith, there)) (subst (λ (k : List Entry). Rooted terms.origin k y m.root) s.is rooted)
    (λ call reply d. ends-until s.before s.after x y call reply there d) (s.story path refl))

-- ---- records that were sent

pub under-until : (before after : List Entry) (lane x i : ℕ) (op : Op) → length before ≡ i → UnderWay before lane x (length before) op → UnderWay (before ++ after) lane x i op
under-until before after lane x i op there u = record {
  line = u.line;
  began = At-grow before after x (Began lane u.line op) u.began;
  before = let low = u.before in omega (arith, there, low);
  unanswered = λ a.
      let d = a.ended in
      let early = a.before in
      let since = d.later in
      u.unanswered (record {
        lane = a.lane;
        op = a.op;
        y = a.y;
        answer = a.answer;
        ended = record {
          line = d.line;
          began = At-back before after x (Began a.lane d.line a.op) d.began (omega (arith, there, early, since));
          answered = At-back before after a.y (Answered a.lane d.line a.answer) d.answered (omega (arith, there, early));
          later = d.later;
          first = λ j other at past. d.first j other (At-grow before after j (Answered a.lane d.line other) at) past;
        };
        before = omega (arith, there, early);
      });
}

pub lists-ask : ListsAsk
lists-ask m setup h v r terms known_root i bytes at = by (reached-asked (machine_of m) (begins-unbegun m) setup Awaits awaits-laws (Caused m terms) (Shelved m terms) (Story m terms)
    (list-laws m terms setup) h v r i bytes at)
  where
    made : WasAsked (machine_of m) (begins-unbegun m) setup Awaits awaits-laws (Caused m terms) (Shelved m terms) (Story m terms) (list-laws m terms setup) h i bytes
        → IsMadeForList terms setup.cred h i bytes
    made w =
        let under = under-until w.before w.after w.lane w.x i w.op w.there w.under_way in
        let since = under.before in
        let now : UnderWay h w.lane w.x i w.op = subst (λ (k : List Entry). UnderWay k w.lane w.x i w.op) (sym w.is) under in
        let rooted : Rooted terms.origin h i m.root = Rooted-wide terms.origin h w.x i m.root (omega (arith, since)) (known_root w.x w.lane now.line w.op now.began) in
        record {
          xid = w.xid;
          call = w.call;
          made = w.made;
          lane = w.lane;
          x = w.x;
          op = w.op;
          under_way = now;
          asks = λ path is.
              subst (λ (k : List Entry). Asks terms k w.x i (ops.List path) w.call) (sym w.is)
              (asks-as m.root terms w.before w.after w.x (length w.before) i path w.call refl (let there = w.there in omega (arith, there))
              (subst (λ (k : List Entry). Rooted terms.origin k i m.root) w.is rooted) (w.asks path is));
        }

    by : NoneYet (machine_of m) (begins-unbegun m) setup Awaits awaits-laws (Caused m terms) (Shelved m terms) (Story m terms) (list-laws m terms setup) h i
        ⊎ WasAsked (machine_of m) (begins-unbegun m) setup Awaits awaits-laws (Caused m terms) (Shelved m terms) (Story m terms) (list-laws m terms setup) h i bytes
        → NoneBegan h i ⊎ IsMadeForList terms setup.cred h i bytes
    by (inl none) = inl none
    by (inr w) = inr (made w)
