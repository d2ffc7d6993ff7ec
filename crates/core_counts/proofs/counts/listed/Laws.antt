-- A listing asks for its first page from cookie 0, and for each next one after the page before it came.
use Rattle.core_counts.proofs.Prelude.{◌≡◌, ◌≤◌, ◌+◌, inl, inr, ℕ, zero, suc, nat_eq, Bool, true, false, List, [], ◌∷◌, ◌++◌, length, Option, Some, None, Result, Ok, Err, refl, sym, ap, subst, ◌∙◌, arith, if◌then◌else◌, Attr, Verf, DirKept, Fault, Entry, Began, Call, Reply, Op, list_call, SpellsReply, Says, Step, Repeat, Shelf, Turn, fails_busy, goes_again, repeats_after, ended, ListDir, Visit, Walk, WalkStep, look_up, found_by, look_again, Mounted, Machine, machine_of, Starts, Resumes, Takes, of_name, of_walk, visit_by, in_flight}
use Rattle.std.proofs.Common.{nat_lt}
use Rattle.world_model.specs.Chains.{page_reply, LastCookie}
use Rattle.client_shelf.specs.Busy.{is_busy}
use Rattle.client_shelf.specs.Repeats.{answered}
use Rattle.nfs_dir_calls.specs.declared.keeping.DirKept.TheVariants as kept
use Rattle.nfs_dir_calls.specs.declared.plus_page.PlusRow.{PlusRow}
use Rattle.dir_list.specs.declared.progress.ListFault.{ListFault}
use Rattle.dir_list.specs.declared.progress.ListFault.TheVariants as list_faults
use Rattle.dir_list.specs.declared.progress.ListStep.{ListStep}
use Rattle.dir_list.specs.declared.progress.ListStep.TheVariants.{More, End}
use Rattle.dir_list.specs.Listings.{counted, page_step, last_cookie, listing_limit}
use Rattle.world_model.specs.declared.answer.Answer.TheVariants as answers
use Rattle.world_model.specs.declared.message.Reply.TheVariants as replies
use Rattle.world_model.specs.declared.op.Op.TheVariants as ops
use Rattle.claims.specs.CallCounts.{IsPageBefore}
use Rattle.client_shelf.specs.declared.step.Step.TheVariants as nexts
use Rattle.name_ops.specs.declared.visit.VisitStep.TheVariants as visits
use Rattle.name_ops.specs.declared.walk.WalkStep.TheVariants as walks
use Rattle.name_ops.specs.ListDir as listing
use Rattle.name_ops.specs.Visiting as visiting
use Rattle.name_ops.specs.Walking as walking
use Rattle.op_machines.specs.declared.machine.Machine.TheVariants as machines
use Rattle.op_machines.specs.declared.name_machine.NameMachine.TheVariants as names
use Rattle.core_facts.proofs.Awaited.{OwnOr, WalkMoves, go-step, took-step}
use Rattle.core_counts.proofs.counts.engine.Laws.{ToldNow, Came, told, unmade, Spends, nothing, one, Took, again, on, CountLaws}

-- ---- the table of calls that are made again

pub table-again : (b : Bool) (busy : Bool) (sent turn : Turn) (old later : List Repeat) → goes_again busy sent turn old ≡ b → later ≡ repeats_after busy sent turn old → later ≡ answered b sent.xid turn.xid old
table-again b busy sent turn old later is table = table ∙ ap (λ (c : Bool). answered c sent.xid turn.xid old) is

-- ---- walks

same-send : (a b : Call) → walks.Send a ≡ walks.Send b → a ≡ b
same-send a b e = cc

asks-looks : (name : Option (List ℕ)) (room : Bool) (w : Walk) (call : Call) → walking.asks name room w ≡ walks.Send call → (d : List ℕ) × (n : List ℕ) × (call ≡ look_up d n)
asks-looks None room w call is = absurd (cc)
asks-looks (Some name) true w call is = (w.spot.dir, name, sym (same-send (look_up w.spot.dir name) call is))
asks-looks (Some name) false w call is = absurd (cc)

pub go-looks : (w : Walk) (turn : Turn) (shelf : Shelf) (call : Call) → walking.go_next w turn shelf ≡ walks.Send call → (d : List ℕ) × (n : List ℕ) × (call ≡ look_up d n)
go-looks w turn shelf call is = by w.asked is
  where
    by : (b : Bool) → (if b then walks.Wait else walking.on_next w turn shelf.attrs shelf.names) ≡ walks.Send call → (d : List ℕ) × (n : List ℕ) × (call ≡ look_up d n)
    by true e = absurd (cc)
    by false e = asks-looks (walking.next_name (walking.walked w turn.now shelf.attrs shelf.names)) turn.room (walking.walked w turn.now shelf.attrs shelf.names) call e

pub told-looks : (w : Walk) (found : Result (List ℕ) Fault) (turn : Turn) (shelf : Shelf) (call : Call) → walking.told_next w found turn shelf ≡ walks.Send call → (d : List ℕ) × (n : List ℕ) × (call ≡ look_up d n)
told-looks w (Ok found) turn shelf call is =
    asks-looks (walking.next_name (walking.walked (walking.arrived w found) turn.now shelf.attrs shelf.names)) turn.room (walking.walked (walking.arrived w found) turn.now shelf.attrs shelf.names) call is
told-looks w (Err fault) turn shelf call is = absurd (cc)

-- a walk at its end stays there
passed-stays : (n : ℕ) (path : List (List ℕ)) (now : ℕ) (known : _) (p : walking.Passed) → walking.name_at path p.spot.left ≡ None → walking.passed n path now known p ≡ p
passed-stays zero path now known p none = refl
passed-stays (suc n) path now known p none =
    let same = passed-stays n path now known p none in
    ap (walking.passed_one path now known) same ∙ ap (λ (o : Option (List ℕ)). walking.passed_next o now known p) none

pub go-stays : (w : Walk) (turn : Turn) (shelf : Shelf) → walking.next_name w ≡ None → walking.go_after w turn shelf ≡ w
go-stays w turn shelf none = by w.asked
  where
    there : walking.walked w turn.now shelf.attrs shelf.names ≡ w
    there = ap (λ (p : walking.Passed). record w { spot = p.spot }) (passed-stays w.spot.left w.path turn.now shelf.attrs (record { spot = w.spot; names = shelf.names }) none)

    by : (b : Bool) → (if b then w else walking.on_after w turn shelf.attrs shelf.names) ≡ w
    by true = refl
    by false = ap (λ (k : Walk). walking.asked_after (walking.next_name k) turn.room k) there ∙ ap (λ (o : Option (List ℕ)). walking.asked_after o turn.room w) none

-- ---- pages

last-row : (row : PlusRow) (rows : List PlusRow) → LastCookie (row ∷ rows) (last_cookie row rows)
last-row row [] = record { front = []; row = row; is = refl; cookie_is = refl }
last-row row (next_row ∷ rows) =
    let l = last-row next_row rows in
    record { front = row ∷ l.front; row = l.row; is = ap (λ (rs : List PlusRow). row ∷ rs) l.is; cookie_is = l.cookie_is }

-- what a page that leads to another one is
record IsMore (page : List PlusRow) (verf : Verf) (eof : Bool) (cookie : ℕ) (with_ : Verf) : Type 0 where
  last : LastCookie page cookie
  same : with_ ≡ verf
  goes_on : eof ≡ false

is-more : (before : List (List ℕ)) (page : List PlusRow) (verf : Verf) (eof : Bool) (cookie : ℕ) (with_ : Verf) → page_step before page verf eof ≡ Ok (More cookie with_) → IsMore page verf eof cookie with_
unfolding page_step
is-more before [] verf true cookie with_ is = absurd (cc)
is-more before [] verf false cookie with_ is = absurd (cc)
is-more before (row ∷ rows) verf eof cookie with_ is = by (nat_lt listing_limit (length before + length (counted (row ∷ rows)))) eof is
  where
    by : (b e : Bool) → ◌≡◌ {A = Result ListStep ListFault} (if b then Err list_faults.Many else if e then Ok End else Ok (More (last_cookie row rows) verf)) (Ok (More cookie with_))
        → IsMore (row ∷ rows) verf e cookie with_
    by true e same = absurd (cc)
    by false true same = absurd (cc)
    by false false same =
        let to : last_cookie row rows ≡ cookie = cc in
        let this : verf ≡ with_ = cc in
        record { last = subst (LastCookie (row ∷ rows)) to (last-row row rows); same = sym this; goes_on = refl }

-- a page that came
record IsPage (came : Result Reply Fault) (verf : Verf) (page : List PlusRow) (eof : Bool) : Type 0 where
  attr : Option Attr
  is : came ≡ Ok (page_reply attr verf page eof)

page-by : (reply : DirKept) (heard : _) → listing.page_heard (Ok (replies.Dir reply)) ≡ Ok heard → IsPage (Ok (replies.Dir reply)) heard.verf heard.page heard.eof
page-by (kept.ReadDirPlus attr verf page eof) heard is =
    let this : record { page = page; verf = verf; eof = eof } ≡ heard = cc in
    subst (λ (p : _). IsPage (Ok (replies.Dir (kept.ReadDirPlus attr verf page eof))) p.verf p.page p.eof) this (record { attr = attr; is = refl })
page-by (kept.ReadDirPlusFail status attr) heard is = absurd (cc)
page-by reply heard is = absurd (cc)

page-of : (came : Result Reply Fault) (heard : _) → listing.page_heard came ≡ Ok heard → IsPage came heard.verf heard.page heard.eof
page-of (Ok (replies.Dir reply)) heard is = page-by reply heard is
page-of (Ok (replies.File reply)) heard is = absurd (cc)
page-of (Ok (replies.Mount reply)) heard is = absurd (cc)
page-of (Err fault) heard is = absurd (cc)

-- ---- the measure

module _ (m : Mounted) (d : List ℕ) (cookie : ℕ) (verf : Verf) (test : Call → Bool) (sound : (call : Call) → test call ≡ true → call ≡ list_call d cookie verf)
    (complete : (call : Call) → call ≡ list_call d cookie verf → test call ≡ true) where
  abbrev pub IsIt : Call → Type 0
  IsIt call = call ≡ list_call d cookie verf

  abbrev pub Before : Call → ℕ → List ℕ → Type 0
  Before = IsPageBefore d cookie verf

  pub data IsList (op : Op) : Type 0 where
    list : (path : List (List ℕ)) → op ≡ ops.List path → IsList op

  abbrev pub from_zero : Op → ℕ
  from_zero op = if nat_eq cookie 0 then 1 else 0

  not-look : (call : Call) → (d_ : List ℕ) × (name : List ℕ) × (call ≡ look_up d_ name) → IsIt call → ⊥
  not-look call l is = let e = l.2 in absurd (cc)

  -- what it may still ask for at once: the first page, or the one after the last that came
  pub data Stage (k : ListDir) (n : ℕ) : Type 0 where
    fresh : k.place ≡ listing.first_page → (cookie ≡ 0 → 1 ≤ n) → Stage k n
    listed : walking.next_name k.visit.walk ≡ None → (IsIt (listing.page_call k.place k.visit.walk.spot.dir) → 1 ≤ n) → Stage k n

  pub record ListLeft (h : List Entry) (x : ℕ) (op : Op) (machine : Machine) (n : ℕ) : Type 0 where
    pub k : ListDir
    pub is : machine ≡ machines.Name (names.List k)
    pub waits : k.visit.asked ≡ true → walking.next_name k.visit.walk ≡ None
    pub stage : k.visit.asked ≡ false → Stage k n

  module _ (h : List Entry) (x : ℕ) (op : Op) where
    abbrev Spent : ℕ → Step → Machine → Type 0
    Spent had next new = Spends IsIt ListLeft h x op had next new

    spent-as : (had : ℕ) (to next : Step) (make new : Machine) → next ≡ to → new ≡ make → Spent had to make → Spent had next new
    spent-as had to next make new is_next is_new s = subst (λ (n : Step). Spent had n new) (sym is_next) (subst (Spent had to) (sym is_new) s)

    -- with the walk where it was
    stage-same : (k : ListDir) (visit : Visit) (n : ℕ) → (walking.next_name k.visit.walk ≡ None → visit.walk ≡ k.visit.walk) → Stage k n → Stage (record k { visit = visit }) n
    stage-same k visit n stays (fresh place some) = fresh place some
    stage-same k visit n stays (listed done some) =
        let same = stays done in
        listed (ap walking.next_name same ∙ done) (subst (λ (w : Walk). IsIt (listing.page_call k.place w.spot.dir) → 1 ≤ n) (sym same) some)

    page-zero : (k : ListDir) (dir : List ℕ) → k.place ≡ listing.first_page → IsIt (listing.page_call k.place dir) → cookie ≡ 0
    page-zero k dir place is = sym (same-cookie dir d k.place.cookie cookie k.place.verf verf is) ∙ ap (λ (p : _). p.cookie) place
      where
        same-cookie : (a b : List ℕ) (c e : ℕ) (v w : Verf) → list_call a c v ≡ list_call b e w → c ≡ e
        same-cookie a b c e v w same = cc

    -- the walk comes to a step
    follow-left : (step : WalkStep) (room : Bool) (k : ListDir) (v : Visit) (n : ℕ) → v.asked ≡ false → WalkMoves step v.walk → ((call : Call) → step ≡ walks.Send call → IsIt call → ⊥)
        → Stage (record k { visit = v }) n
        → Spent n (visiting.next_by (listing.page_call k.place) (visiting.follow_next step room)) (machines.Name (names.List (record k { visit = visiting.follow_after step room v })))
    follow-left (walks.Send call) room k v n idle s looks stage = record {
      left = n;
      keeps = record { k = record k { visit = v }; is = refl; waits = λ asked. absurd (let no_way : true ≡ false = sym asked ∙ idle in cc); stage = λ still. stage };
      less = omega arith;
      asks = λ c same p. absurd (looks call refl (subst IsIt (sym (sent-call call c same)) p));
    }
      where
        sent-call : (a b : Call) → nexts.Send a ≡ nexts.Send b → a ≡ b
        sent-call a b e = cc
    follow-left walks.Wait room k v n idle s looks stage = record {
      left = n;
      keeps = record { k = record k { visit = v }; is = refl; waits = λ asked. absurd (let no_way : true ≡ false = sym asked ∙ idle in cc); stage = λ still. stage };
      less = omega arith;
      asks = λ c same p. absurd (no-send c same);
    }
      where
        no-send : (c : Call) → nexts.Wait ≡ nexts.Send c → ⊥
        no-send c e = cc
    follow-left (walks.Refused fault) room k v n idle s looks stage = record { left = n; keeps = tt; less = omega arith; asks = λ c same p. absurd (no-send c same) }
      where
        no-send : (c : Call) → nexts.Done (answers.Refused fault) ≡ nexts.Send c → ⊥
        no-send c e = cc
    follow-left (walks.At object) false k v n idle s looks stage = record {
      left = n;
      keeps = record { k = record k { visit = v }; is = refl; waits = λ asked. absurd (let no_way : true ≡ false = sym asked ∙ idle in cc); stage = λ still. stage };
      less = omega arith;
      asks = λ c same p. absurd (no-send c same);
    }
      where
        no-send : (c : Call) → nexts.Wait ≡ nexts.Send c → ⊥
        no-send c e = cc
    follow-left (walks.At object) true k v n idle s looks stage = record {
      left = 0;
      keeps = record { k = record k { visit = record v { asked = true } }; is = refl; waits = λ asked. s.1; stage = λ still. absurd (let no_way : true ≡ false = still in cc) };
      less = omega arith;
      asks = λ c same p. by stage (subst (λ (o : List ℕ). IsIt (listing.page_call k.place o)) s.0 (subst IsIt (sym (sent-call (listing.page_call k.place object) c same)) p));
    }
      where
        sent-call : (a b : Call) → nexts.Send a ≡ nexts.Send b → a ≡ b
        sent-call a b e = cc

        by : Stage (record k { visit = v }) n → IsIt (listing.page_call k.place v.walk.spot.dir) → 0 + 1 ≤ n
        by (fresh place some) p = some (page-zero k v.walk.spot.dir place p)
        by (listed done some) p = some p

    -- ---- a step without a reply

    goes : (k : ListDir) (turn : Turn) (old : Shelf) (n : ℕ) → (k.visit.asked ≡ true → walking.next_name k.visit.walk ≡ None) → (k.visit.asked ≡ false → Stage k n)
        → Spent n (visiting.next_by (listing.page_call k.place) (visiting.visit_next k.visit turn old)) (machines.Name (names.List (record k { visit = visiting.visit_after k.visit turn old })))
    goes k turn old n waits stage = by k.visit.asked refl
      where
        by : (b : Bool) → k.visit.asked ≡ b
            → Spent n (visiting.next_by (listing.page_call k.place) (if b then visits.Wait else visiting.follow_next (walking.go_next k.visit.walk turn old) turn.room))
            (machines.Name (names.List (record k { visit = if b then k.visit else visiting.follow_after (walking.go_next k.visit.walk turn old) turn.room (record k.visit { walk = walking.go_after k.visit.walk turn old }) })))
        by true asked = record {
          left = n;
          keeps = record { k = k; is = refl; waits = waits; stage = stage };
          less = omega arith;
          asks = λ c same p. absurd (no-send c same);
        }
          where
            no-send : (c : Call) → nexts.Wait ≡ nexts.Send c → ⊥
            no-send c e = cc
        by false idle =
            follow-left (walking.go_next k.visit.walk turn old) turn.room k (record k.visit { walk = walking.go_after k.visit.walk turn old }) n idle (go-step k.visit.walk turn old)
            (λ call same p. not-look call (go-looks k.visit.walk turn old call same) p)
            (stage-same k (record k.visit { walk = walking.go_after k.visit.walk turn old }) n (go-stays k.visit.walk turn old) (stage idle))

    -- ---- a step at what came

    abbrev Taken : ℕ → Turn → Turn → Result Reply Fault → List Repeat → Step → Machine → List Repeat → Type 0
    Taken had sent turn came old next new later = Took IsIt Before ListLeft h x op had sent turn came old next new later

    still : (k : ListDir) (n had : ℕ) → (k.visit.asked ≡ true → walking.next_name k.visit.walk ≡ None) → (k.visit.asked ≡ false → Stage k n) → ListLeft h x op (machines.Name (names.List k)) n
    still k n had waits stage = record { k = k; is = refl; waits = waits; stage = stage }

    waits-no-send : (c : Call) → nexts.Wait ≡ nexts.Send c → ⊥
    waits-no-send c e = cc

    same-repeats : (a b : Shelf) → a ≡ b → a.repeats ≡ b.repeats
    same-repeats a b is = ap (λ (s : Shelf). s.repeats) is

    followed-repeats : (b : Bool) (w : Walk) (found : Result (List ℕ) Fault) (turn : Turn) (s : Shelf) → (walking.followed_shelf b w found turn s).repeats ≡ s.repeats
    followed-repeats true w found turn s = refl
    followed-repeats false w (Ok place) turn s = refl
    followed-repeats false w (Err fault) turn s = refl

    -- a reply to the LOOKUP of a name
    walk-takes : (k : ListDir) (n : ℕ) (name : Option (List ℕ)) (sent turn : Turn) (came : Result Reply Fault) (old : Shelf) (step : WalkStep) (walked : Visit) (next : Step) (visit : Visit) (after : Shelf)
        → k.visit.asked ≡ false → Stage k n → 1 ≤ of_name name → walking.waiting_name k.visit.walk ≡ name → walking.Takes name k.visit.walk sent turn came old step walked.walk after
        → walked ≡ record k.visit { walk = walked.walk } → next ≡ visiting.next_by (listing.page_call k.place) (visiting.follow_next step turn.room) → visit ≡ visiting.follow_after step turn.room walked
        → WalkMoves step walked.walk
        → Taken n sent turn came old.repeats next (machines.Name (names.List (record k { visit = visit }))) after.repeats
    walk-takes k n None sent turn came old step walked next visit after idle stage some is t walked_is next_is visit_is s = absurd (omega (arith, some))
    walk-takes k n (Some name) sent turn came old step walked next visit after idle stage some is t walked_is next_is visit_is s = by (look_again sent turn came old) refl
      where
        table : after.repeats ≡ repeats_after (fails_busy (found_by came)) sent turn old.repeats
        table =
            same-repeats after (walking.followed_shelf (look_again sent turn came old) k.visit.walk (found_by came) turn t.heard) t.shelf_is
            ∙ followed-repeats (look_again sent turn came old) k.visit.walk (found_by came) turn t.heard ∙ ap (λ (q : Shelf). q.repeats) t.hears.others

        next_name : walking.next_name k.visit.walk ≡ Some name
        next_name = then_name k.visit.walk.asked is
          where
            then_name : (b : Bool) → (if b then walking.next_name k.visit.walk else None) ≡ Some name → walking.next_name k.visit.walk ≡ Some name
            then_name true e = e
            then_name false e = absurd (cc)

        none-some : (o : Option (List ℕ)) → o ≡ Some name → o ≡ None → ⊥
        none-some o a b = absurd (let no_way : None ≡ Some name = sym b ∙ a in cc)

        its-stage : Stage (record k { visit = walked }) n
        its-stage = stage-same k walked n (λ none. absurd (none-some (walking.next_name k.visit.walk) next_name none)) stage

        by : (b : Bool) → look_again sent turn came old ≡ b → Taken n sent turn came old.repeats next (machines.Name (names.List (record k { visit = visit }))) after.repeats
        by true busy =
            again (table-again true (fails_busy (found_by came)) sent turn old.repeats after.repeats busy table) n (omega arith)
            (subst (λ (v : Visit). ListLeft h x op (machines.Name (names.List (record k { visit = v }))) n) (sym visit_at) (record {
              k = record k { visit = walked };
              is = refl;
              waits = λ asked. absurd (let no_way : true ≡ false = sym asked ∙ walked_idle in cc);
              stage = λ idle_now. its-stage;
            }))
          where
            walked_idle : walked.asked ≡ false
            walked_idle = ap (λ (v : Visit). v.asked) walked_is ∙ idle

            step_is : step ≡ walks.Send (look_up k.visit.walk.spot.dir name)
            step_is = t.next_is ∙ ap (λ (c : Bool). walking.followed_next c k.visit.walk name (found_by came) turn t.heard) busy

            visit_at : visit ≡ walked
            visit_at = visit_is ∙ ap (λ (w : WalkStep). visiting.follow_after w turn.room walked) step_is
        by false calm =
            on (table-again false (fails_busy (found_by came)) sent turn old.repeats after.repeats calm table) 0 (nothing refl)
            (subst (λ (c : ℕ). Spent c next (machines.Name (names.List (record k { visit = visit })))) plus_none
            (spent-as n (visiting.next_by (listing.page_call k.place) (visiting.follow_next step turn.room)) next (machines.Name (names.List (record k { visit = visiting.follow_after step turn.room walked })))
            (machines.Name (names.List (record k { visit = visit }))) next_is (ap (λ (v : Visit). machines.Name (names.List (record k { visit = v }))) visit_is)
            (follow-left step turn.room k walked n walked_idle s looks its-stage)))
          where
            plus_none : n ≡ n + 0
            plus_none = omega arith

            walked_idle : walked.asked ≡ false
            walked_idle = ap (λ (v : Visit). v.asked) walked_is ∙ idle

            step_is : step ≡ walking.told_next k.visit.walk (found_by came) turn t.heard
            step_is = t.next_is ∙ ap (λ (c : Bool). walking.followed_next c k.visit.walk name (found_by came) turn t.heard) calm

            looks : (call : Call) → step ≡ walks.Send call → IsIt call → ⊥
            looks call same p = not-look call (told-looks k.visit.walk (found_by came) turn t.heard call (sym step_is ∙ same)) p

    -- the page that came leads to the next one
    more-takes : (k : ListDir) (n : ℕ) (sent turn : Turn) (came : Result Reply Fault) (old : Shelf) (page_rows : List PlusRow) (page_verf : Verf) (eof : Bool) (its : ℕ) (with_ : Verf) (room : Bool) (next : Step) (new : ListDir) (later : List Repeat)
        → later ≡ ended sent.xid old.repeats → (call : Call) (xid : ℕ) (rec : List ℕ) → ToldNow h x call xid rec → Says xid call rec came → call ≡ listing.page_call k.place k.visit.walk.spot.dir
        → IsPage came page_verf page_rows eof → IsMore page_rows page_verf eof its with_ → walking.next_name k.visit.walk ≡ None
        → next ≡ listing.more_next (record { cookie = its; verf = with_ }) room (record k { listing = k.listing ++ counted page_rows }) → new ≡ listing.more_after (record { cookie = its; verf = with_ }) room (record k { listing = k.listing ++ counted page_rows })
        → Taken n sent turn came old.repeats next (machines.Name (names.List new)) later
    more-takes k n sent turn came old page_rows page_verf eof its with_ room next new later table call xid rec now said is page more done next_is new_is = by (test (list_call k.visit.walk.spot.dir its with_)) refl
      where
        same-dir : (a b : List ℕ) (c e : ℕ) (v w : Verf) → list_call a c v ≡ list_call b e w → a ≡ b
        same-dir a b c e v w same = cc

        same-cookie : (a b : List ℕ) (c e : ℕ) (v w : Verf) → list_call a c v ≡ list_call b e w → c ≡ e
        same-cookie a b c e v w same = cc

        same-verf : (a b : List ℕ) (c e : ℕ) (v w : Verf) → list_call a c v ≡ list_call b e w → v ≡ w
        same-verf a b c e v w same = cc

        sent-call : (a b : Call) → nexts.Send a ≡ nexts.Send b → a ≡ b
        sent-call a b e = cc

        before-it : IsIt (list_call k.visit.walk.spot.dir its with_) → Before call xid rec
        before-it it = record {
          from = k.place.cookie;
          with_ = k.place.verf;
          attr = page.attr;
          rows = page_rows;
          is = is ∙ ap (λ (o : List ℕ). list_call o k.place.cookie k.place.verf) (same-dir k.visit.walk.spot.dir d its cookie with_ verf it);
          spells = subst (λ (w : Verf). SpellsReply xid call (page_reply page.attr w page_rows false) rec) (sym more.same ∙ same-verf k.visit.walk.spot.dir d its cookie with_ verf it)
              (subst (λ (e : Bool). SpellsReply xid call (page_reply page.attr page_verf page_rows e) rec) more.goes_on (subst (Says xid call rec) page.is said).is);
          last = subst (LastCookie page_rows) (same-cookie k.visit.walk.spot.dir d its cookie with_ verf it) more.last;
        }

        spends : (had : ℕ) → (IsIt (list_call k.visit.walk.spot.dir its with_) → 1 ≤ had) → Spent had next (machines.Name (names.List new))
        spends had some =
            spent-as had (listing.more_next (record { cookie = its; verf = with_ }) room (record k { listing = k.listing ++ counted page_rows })) next
            (machines.Name (names.List (listing.more_after (record { cookie = its; verf = with_ }) room (record k { listing = k.listing ++ counted page_rows })))) (machines.Name (names.List new)) next_is
            (ap (λ (o : ListDir). machines.Name (names.List o)) new_is) (by_room room)
          where
            by_room : (b : Bool) → Spent had (listing.more_next (record { cookie = its; verf = with_ }) b (record k { listing = k.listing ++ counted page_rows }))
                (machines.Name (names.List (listing.more_after (record { cookie = its; verf = with_ }) b (record k { listing = k.listing ++ counted page_rows }))))
            by_room true = record {
              left = 0;
              keeps = record {
                k = listing.more_after (record { cookie = its; verf = with_ }) true (record k { listing = k.listing ++ counted page_rows });
                is = refl;
                waits = λ asked. done;
                stage = λ idle. absurd (let no_way : true ≡ false = idle in cc);
              };
              less = omega arith;
              asks = λ c same p. some (subst IsIt (sym (sent-call (list_call k.visit.walk.spot.dir its with_) c same)) p);
            }
            by_room false = record {
              left = had;
              keeps = record {
                k = listing.more_after (record { cookie = its; verf = with_ }) false (record k { listing = k.listing ++ counted page_rows });
                is = refl;
                waits = λ asked. done;
                stage = λ idle. listed done some;
              };
              less = omega arith;
              asks = λ c same p. absurd (waits-no-send c same);
            }

        by : (b : Bool) → test (list_call k.visit.walk.spot.dir its with_) ≡ b → Taken n sent turn came old.repeats next (machines.Name (names.List new)) later
        by true it_is =
            on table 1 (one refl (page_reply page.attr page_verf page_rows eof) page.is call xid rec now (before-it (sound (list_call k.visit.walk.spot.dir its with_) it_is)))
            (spends (n + 1) (λ it. omega arith))
        by false none =
            on table 0 (nothing refl) (spends (n + 0) (λ it. absurd (let no_way : true ≡ false = sym (complete (list_call k.visit.walk.spot.dir its with_) it) ∙ none in cc)))

    -- the operation ends
    ends : (n : ℕ) (answer : _) (next : Step) (new : Machine) → next ≡ nexts.Done answer → Spent n next new
    ends n answer next new is = subst (λ (o : Step). Spent n o new) (sym is) (record { left = n; keeps = tt; less = omega arith; asks = λ c same p. absurd (no-send c same) })
      where
        no-send : (c : Call) → nexts.Done answer ≡ nexts.Send c → ⊥
        no-send c e = cc

    calm-table : (sent turn : Turn) (old later : List Repeat) → later ≡ repeats_after false sent turn old → later ≡ ended sent.xid old
    calm-table sent turn old later is = is

    err-ok : {A : Type 0} → (R : Type 0) (fault : Fault) (heard : A) → ◌≡◌ {A = Result A Fault} (Err fault) (Ok heard) → R
    err-ok R fault heard e = absurd (cc)

    page-takes : (k : ListDir) (n : ℕ) (sent turn : Turn) (came : Result Reply Fault) (old : Shelf) (told_page : Result _ Fault) (next : Step) (new : ListDir) (later : List Repeat)
        → listing.page_heard came ≡ told_page → later ≡ repeats_after (fails_busy told_page) sent turn old.repeats → k.visit.asked ≡ true → walking.next_name k.visit.walk ≡ None
        → ((heard : _) → told_page ≡ Ok heard → (call : Call) × (xid : ℕ) × (rec : List ℕ) × ToldNow h x call xid rec × Says xid call rec came × (call ≡ listing.page_call k.place k.visit.walk.spot.dir))
        → listing.Follows told_page (goes_again (fails_busy told_page) sent turn old.repeats) turn.room k next new
        → Taken n sent turn came old.repeats next (machines.Name (names.List new)) later
    page-takes k n sent turn came old (Err fault) next new later is table asked done now f = by (goes_again (is_busy fault) sent turn old.repeats) refl
      where
        by : (b : Bool) → goes_again (is_busy fault) sent turn old.repeats ≡ b → Taken n sent turn came old.repeats next (machines.Name (names.List new)) later
        by true busy =
            again (table-again true (is_busy fault) sent turn old.repeats later busy table) n (omega arith)
            (subst (λ (o : ListDir). ListLeft h x op (machines.Name (names.List o)) n) (sym f.1)
            (record { k = k; is = refl; waits = λ now_asked. done; stage = λ idle. absurd (let no_way : true ≡ false = sym asked ∙ idle in cc) }))
        by false calm =
            on (table-again false (is_busy fault) sent turn old.repeats later calm table) 0 (nothing refl)
            (ends (n + 0) (answers.Refused fault) next (machines.Name (names.List new)) (f.0 ∙ ap (λ (b : Bool). listing.refused_next b fault k) calm))
    page-takes k n sent turn came old (Ok heard) next new later is table asked done now (inl f) =
        on (calm-table sent turn old.repeats later table) 0 (nothing refl) (ends (n + 0) _ next (machines.Name (names.List new)) f.0)
    page-takes k n sent turn came old (Ok heard) next new later is table asked done now (inr f) = by (page_step k.listing heard.page heard.verf heard.eof) refl f
      where
        by : (step : Result ListStep ListFault) → page_step k.listing heard.page heard.verf heard.eof ≡ step → listing.TakesStep step heard turn.room k next new
            → Taken n sent turn came old.repeats next (machines.Name (names.List new)) later
        by (Ok (More its with_)) same t =
            let w = now heard refl in
            more-takes k n sent turn came old heard.page heard.verf heard.eof its with_ turn.room next new later (calm-table sent turn old.repeats later table) w.0 w.1 w.2 w.3 w.4 w.5 (page-of came heard is)
            (is-more k.listing heard.page heard.verf heard.eof its with_ same) done t.0 t.1
        by (Ok End) same t = on (calm-table sent turn old.repeats later table) 0 (nothing refl) (ends (n + 0) _ next (machines.Name (names.List new)) t.next_is)
        by (Err fault) same t = on (calm-table sent turn old.repeats later table) 0 (nothing refl) (ends (n + 0) _ next (machines.Name (names.List new)) t.0)

    takes-list : (asked : Bool) (k : ListDir) (n : ℕ) (sent turn : Turn) (came : Result Reply Fault) (old : Shelf) (next : Step) (new : ListDir) (after : Shelf) (others : ℕ) → k.visit.asked ≡ asked
        → (k.visit.asked ≡ true → walking.next_name k.visit.walk ≡ None) → (k.visit.asked ≡ false → Stage k n) → in_flight (machines.Name (names.List k)) ≡ others + 1
        → Came h x (machines.Name (names.List k)) sent came old → listing.TakesList asked k sent turn came old next new after
        → Taken n sent turn came old.repeats next (machines.Name (names.List new)) after.repeats
    takes-list true k n sent turn came old next new after others is waits stage flight c t =
        page-takes k n sent turn came old (listing.page_heard came) next new after.repeats refl (ap (λ (s : Shelf). s.repeats) t.others) is (waits is) (now c) t.follows
      where
        own : (b : Bool) (call : Call) → b ≡ true → OwnOr b (listing.page_call k.place) k.visit.walk call → call ≡ listing.page_call k.place k.visit.walk.spot.dir
        own true call same e = e
        own false call same e = absurd (let no_way : false ≡ true = same in cc)

        now : Came h x (machines.Name (names.List k)) sent came old → (heard : _) → listing.page_heard came ≡ Ok heard
            → (call : Call) × (xid : ℕ) × (rec : List ℕ) × ToldNow h x call xid rec × Says xid call rec came × (call ≡ listing.page_call k.place k.visit.walk.spot.dir)
        now (told call xid rec heard_now e said sent_is piece) heard same = (call, xid, rec, heard_now, said, own k.visit.asked call is e.0.0)
        now (unmade call fault e came_is why) heard same = err-ok _ fault heard (sym (ap listing.page_heard came_is) ∙ same)
    takes-list false k n sent turn came old next new after others is waits stage flight c t =
        subst (λ (o : ListDir). Taken n sent turn came old.repeats next (machines.Name (names.List o)) after.repeats) (sym t.machine_is)
        (walk-takes k n (walking.waiting_name k.visit.walk) sent turn came old t.walks.takes.step t.walks.takes.walked next t.visit after is (stage is) (some k.visit.asked is flight) refl t.walks.takes.takes
        t.walks.takes.walked_is (t.walks.next_is ∙ ap (visiting.next_by (listing.page_call k.place)) t.walks.takes.next_is) t.walks.takes.visit_is
        (took-step k.visit.walk sent turn came old t.walks.takes.step t.walks.takes.walked.walk after t.walks.takes.takes))
      where
        some : (b : Bool) → b ≡ false → visit_by b (of_walk k.visit.walk) ≡ others + 1 → 1 ≤ of_walk k.visit.walk
        some false same count = omega (arith, count)
        some true same count = absurd (let no_way : true ≡ false = same in cc)

  -- ---- the laws

  pub page-laws : CountLaws (machine_of m) IsIt Before IsList from_zero ListLeft
  page-laws = record {
    starts = λ h lane line op wsize turn old next new after fits s. starts h lane line op wsize turn old next new after fits s;
    resumes = λ h x op machine wsize turn old next new after had fits l r. resumes h x op machine wsize turn old next new after had l r;
    takes = λ h x op machine wsize sent turn came old next new after others had fits l flight c t. takes h x op machine wsize sent turn came old next new after others had l flight c t;
    grows = λ h e x op machine left l. record { k = l.k; is = l.is; waits = l.waits; stage = l.stage };
  }
    where
      starts : (h : List Entry) (lane line : ℕ) (op : Op) (wsize : ℕ) (turn : Turn) (old : Shelf) (next : Step) (new : Machine) (after : Shelf) → IsList op
          → Starts wsize (machine_of m lane op) turn old next new after → Spends IsIt ListLeft (h ++ Began lane line op ∷ []) (length h) op (from_zero op) next new
      starts h lane line op wsize turn old next new after (list path is) s =
          let g = subst (λ (o : Op). Starts wsize (machine_of m lane o) turn old next new after) is s in
          let k : ListDir = listing.list_of m.root path in
          spent-as (h ++ Began lane line op ∷ []) (length h) op (from_zero op) (visiting.next_by (listing.page_call k.place) (visiting.visit_next k.visit turn old)) next
          (machines.Name (names.List (record k { visit = visiting.visit_after k.visit turn old }))) new g.step.next_is (g.machine_is ∙ ap machines.Name g.step.machine_is)
          (goes (h ++ Began lane line op ∷ []) (length h) op (listing.list_of m.root path) turn old (from_zero op) (λ asked. absurd (let no_way : false ≡ true = asked in cc))
          (λ idle. fresh refl (λ zero_cookie. at-zero zero_cookie)))
        where
          at-zero : cookie ≡ 0 → 1 ≤ from_zero op
          at-zero zero_cookie = subst (λ (n : ℕ). 1 ≤ (if nat_eq n 0 then 1 else 0)) (sym zero_cookie) (omega arith)

      resumes : (h : List Entry) (x : ℕ) (op : Op) (machine : Machine) (wsize : ℕ) (turn : Turn) (old : Shelf) (next : Step) (new : Machine) (after : Shelf) (had : ℕ)
          → ListLeft h x op machine had → Resumes wsize machine turn old next new after → Spends IsIt ListLeft h x op had next new
      resumes h x op machine wsize turn old next new after had l r =
          let g = subst (λ (n : Machine). Resumes wsize n turn old next new after) l.is r in
          spent-as h x op had (visiting.next_by (listing.page_call l.k.place) (visiting.visit_next l.k.visit turn old)) next
          (machines.Name (names.List (record l.k { visit = visiting.visit_after l.k.visit turn old }))) new g.step.next_is (g.machine_is ∙ ap machines.Name g.step.machine_is)
          (goes h x op l.k turn old had l.waits l.stage)

      takes : (h : List Entry) (x : ℕ) (op : Op) (machine : Machine) (wsize : ℕ) (sent turn : Turn) (came : Result Reply Fault) (old : Shelf) (next : Step) (new : Machine) (after : Shelf) (others had : ℕ)
          → ListLeft h x op machine had → in_flight machine ≡ others + 1 → Came h x machine sent came old → Takes wsize machine sent turn came old next new after
          → Took IsIt Before ListLeft h x op had sent turn came old.repeats next new after.repeats
      takes h x op machine wsize sent turn came old next new after others had l flight c t =
          let g = subst (λ (n : Machine). Takes wsize n sent turn came old next new after) l.is t in
          subst (λ (n : Machine). Took IsIt Before ListLeft h x op had sent turn came old.repeats next n after.repeats) (sym (g.machine_is ∙ ap machines.Name g.step.machine_is))
          (takes-list h x op l.k.visit.asked l.k had sent turn came old next g.step.machine after others refl l.waits l.stage (subst (λ (n : Machine). in_flight n ≡ others + 1) l.is flight)
          (subst (λ (n : Machine). Came h x n sent came old) l.is c) g.step.step)
