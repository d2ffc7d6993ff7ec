-- Along a session of one lane: where the reply to a call comes, pages that are followed stay.
use Rattle.core_counts.proofs.Prelude.{◌≡◌, ◌<◌, ◌≤◌, ◌+◌, inl, ℕ, Bool, true, false, nat_eq, nat_le, List, [], ◌∷◌, ◌++◌, length, Option, Some, None, position, slice_get, Result, Ok, refl, sym, ap, subst, ◌∙◌, arith, option_map_or, eqb-true, eqb-false, nat_tests, Attr, Stamp, stamp_of, xid_at, Waiting, next_xid, waiting_at, without, others_taken, gone, Pages, Fault, Entry, Sent, Delivered, Call, Reply, At, SpellsCall, read_call, At-grow, At-below, length_last, said_of, breaks_rule, Mounted, machine_of, Lane, Purpose, Busy, Setup, is_busy, with_state, TakesAt, View, turn_at, HearsRecord, Reaches, begins-unbegun, taken_one, flies_of, Known, at-set, at-position, Rows, rows-stay, rows-grow, taken-quiet, not-sent, taken-rows, ThenOf, set-other, reached-good, NoCall, NoShelf, NoStory, no-laws, CallFits, fits-laws}
use Rattle.page_cache.specs.Pages.{mark_of}
use Rattle.claims.specs.Thrifty.{CameWithin, ChangesFile}
use Rattle.core_facts.proofs.Tales.{IsExpected}
use Rattle.nfs_file_calls.specs.declared.call.FileCall.TheVariants as file_calls
use Rattle.nfs_file_calls.specs.declared.owned.FileKept.TheVariants as kept
use Rattle.world_model.specs.declared.message.Call.TheVariants as calls
use Rattle.world_model.specs.declared.message.Reply.TheVariants as replies
use Rattle.claims.specs.Shown.{ShowsAttr, of_object, object_of}
use Rattle.file_ops.specs.PagesOpened.{is_late, opened_pages}
use Rattle.file_ops.specs.Reading as reading
use Rattle.core_answers.proofs.bonds.Learnt.{IsOn}
use Rattle.core_counts.proofs.thrift.Calm.{Kind, quiet, putting, saver, Young, leads-calm}
use Rattle.core_counts.proofs.thrift.Came.{CameNow, CameLate, OutNow, out-now, came-now, came-within, came-late, Mine, mine-of}
use Rattle.core_counts.proofs.thrift.Growth.{Tells, good-opened, good-known}
use Rattle.core_counts.proofs.thrift.Holds.{HoldsPage}
use Rattle.core_counts.proofs.thrift.Noted.{noted-good}
use Rattle.core_counts.proofs.thrift.OtherPages.{good-later}
use Rattle.core_counts.proofs.thrift.PageNames.{IsGiven}
use Rattle.core_counts.proofs.thrift.PartSteps.{WasSent, was-met, few-bytes}
use Rattle.core_counts.proofs.thrift.PutOpenings.{putting-takes, putting-pages}
use Rattle.core_counts.proofs.thrift.Quiet.{takes-quiet}
use Rattle.core_counts.proofs.thrift.Savers.{cuts_of, saver-takes, saver-pages, written-changes, set-changes}
use Rattle.core_counts.proofs.thrift.Stays.{Case, Follows, Met, GoodAt, Yet, CalmHere, shows, grow-with, before-last, alone, quiet-then, putting-then, saver-then}
use Rattle.core_counts.proofs.thrift.TakePages.{TakeLaws, quiet-takes}

module _ (m : Mounted) (setup : Setup) (q : Case m setup) (h : List Entry) (old new : View) (rec : List ℕ) (xid : ℕ) (call : Waiting Purpose) (k : ℕ) (r : Reaches (machine_of m) setup h old)
    (found : old.lost ≡ false) (known : Known setup h old) (fin : View) (hears : HearsRecord old rec fin) (named : xid_at rec ≡ Some xid) (waits : waiting_at xid old.calls.calls ≡ Some call)
    (there : position (is_busy call.purpose.lane) old.lanes ≡ Some k) (t : TakesAt (taken_one old xid) k call.purpose.sent (said_of call.purpose.proc rec) new) (rest : List Entry)
    (is : (h ++ Delivered rec ∷ []) ++ rest ≡ q.H) (within : length (h ++ Delivered rec ∷ []) ≤ q.n) where
  abbrev later : List Entry
  later = h ++ Delivered rec ∷ []

  abbrev mid : View
  mid = with_state (taken_one old xid) k t.number (Busy t.after) t.shelf

  abbrev pub came : Result Reply Fault
  came = said_of call.purpose.proc rec

  whole : h ++ (Delivered rec ∷ rest) ≡ q.H
  whole = before-last m setup q h (Delivered rec) rest is

  pub of-lane : t.number ≡ call.purpose.lane
  of-lane = eqb-true t.number call.purpose.lane (at-position (is_busy call.purpose.lane) old.lanes k (record { number = t.number; state = Busy t.machine }) there t.there)

  pub mine : Mine setup xid call t.machine
  mine = mine-of m setup h old r xid call k t.number t.machine waits of-lane t.there

  abbrev pub asked : Call
  asked = mine.made.asked

  out : OutNow h xid call
  out = out-now m setup h old rec fin xid call hears r named waits

  told : (reply : Reply) → came ≡ Ok reply → CameNow h rec xid call asked reply
  told reply said = came-now m setup h old rec fin xid call hears r named waits mine.made reply said

  early : length h < q.n
  early = let more = length_last h (Delivered rec) in omega (arith, more, within)

  since : Yet m setup q h → q.o < length h
  since yet = let first = q.after in omega (arith, first, yet)

  shown : (reply : Reply) (attr : Attr) → came ≡ Ok reply → Yet m setup q h → ShowsAttr asked reply q.f attr → stamp_of attr ≡ q.s
  shown reply attr said yet shows_ = q.shown asked reply attr
      (subst (λ (z : List Entry). CameWithin z q.o q.n asked reply) whole
      (came-within h rec rest xid call asked q.o q.n out mine.made.spells.spells named reply (told reply said).spells (since yet) early)) shows_

  -- it answers no WRITE or SETATTR of the file
  changes-not : (its : Call) → SpellsCall xid its call.bytes → (g : List ℕ) → ChangesFile g its → q.f ≡ g → Yet m setup q h → ⊥
  changes-not its spells g changes same yet =
      let l = subst (λ (z : List Entry). CameLate z q.o q.n its xid rec) whole (came-late h rec rest xid call its q.o q.n out spells named (since yet) early) in
      q.unwritten its xid rec (subst (λ (z : List ℕ). ChangesFile z its) (sym same) changes) l.heard l.late

  expected : IsExpected (machine_of m) (begins-unbegun m) setup CallFits fits-laws NoCall NoShelf NoStory (no-laws (machine_of m) setup CallFits) h t.number xid call t.machine
  expected = ((reached-good (machine_of m) (begins-unbegun m) setup CallFits fits-laws NoCall NoShelf NoStory (no-laws (machine_of m) setup CallFits) h old r).each k
      (record { number = t.number; state = Busy t.machine }) t.there).0 xid call waits (sym of-lane)

  flies-not : (g : List ℕ) → flies_of t.machine ≡ Some g → (g_ : List ℕ) (s : Stamp) (j : ℕ) → Follows m setup q h g_ s j → g_ ≡ g → ⊥
  flies-not g flies g_ s j p same =
      changes-not expected.made.asked expected.made.spells.spells g (written-changes expected.made.asked g (expected.expects.sends g flies)) (sym p.0 ∙ same) p.3

  cuts-not : (g : List ℕ) → cuts_of t.machine ≡ Some g → (g_ : List ℕ) (s : Stamp) (j : ℕ) → Follows m setup q h g_ s j → g_ ≡ g → ⊥
  cuts-not g cuts g_ s j p same = changes-not asked mine.made.spells.spells g (set-changes t.machine asked g cuts mine.on.1) (sym p.0 ∙ same) p.3

  was-sent-so : (reply : Reply) → came ≡ Ok reply → WasSent h asked
  was-sent-so reply said = let n_ = told reply said in record { at = n_.from; xid = xid; bytes = call.bytes; sent = n_.out.sent.sent; spells = mine.made.spells.spells }

  pub met-so : (file : List ℕ) (place count index : ℕ) (given : List ℕ) (ends : Bool) (reply : Reply) → came ≡ Ok reply → asked ≡ read_call file place count → length given ≤ count
      → IsGiven place given ends index → Met m setup q file index
  met-so file place count index given ends reply said asked_is small g =
      let w = was-met h file place count index given (subst (WasSent h) asked_is (was-sent-so reply said)) small g.low g.some in
      record {
        at = w.at;
        xid = w.xid;
        bytes = w.bytes;
        offset = w.offset;
        count = w.count;
        sent = subst (λ (z : List Entry). At z w.at (Sent w.bytes)) whole (At-grow h (Delivered rec ∷ rest) w.at (Sent w.bytes) w.sent);
        spells = w.spells;
        before = let low = At-below h w.at (Sent w.bytes) w.sent in let more = early in omega (arith, low, more);
        met = w.met;
      }

  -- ---- with what was known before

  module _ (c : CalmHere m setup q h old) where
    tells : (file : List ℕ) (attr : Attr) (reply : Reply) → came ≡ Ok reply → ((g : List ℕ) → g ≡ file → ShowsAttr asked reply g attr)
        → Tells (Met m setup q) (Follows m setup q h) (λ g z j p. q.few) file (stamp_of attr)
    tells file attr reply said shows_ g z j p same = shown reply attr said p.3 (subst (λ (x : List ℕ). ShowsAttr asked reply x attr) p.0 (shows_ g same)) ∙ sym p.1

    module _ (young : Young c.b old) where
      not-late : (file : List ℕ) (pages : Pages) → GoodAt m setup q h c.b pages → is_late file call.purpose.sent.moment pages ≡ false
      not-late file pages good = by (mark_of file pages) refl
        where
          by : (x : Option ℕ) → mark_of file pages ≡ x → option_map_or (λ mark. nat_le call.purpose.sent.moment mark) x false ≡ false
          by None e = refl
          by (Some mark) e = of (nat_le call.purpose.sent.moment mark) refl
            where
              of : (b : Bool) → nat_le call.purpose.sent.moment mark ≡ b → b ≡ false
              of false d = refl
              of true d =
                  let low = good.marks file mark e in
                  let late = young xid call waits in
                  absurd (grind (arith, nat_tests))

      opens-so : (file : List ℕ) (attr : Attr) (mark : ℕ) (pages : Pages) → mark ≤ c.b → came ≡ Ok (replies.File (kept.GetAttr attr)) → IsOn file asked → GoodAt m setup q h c.b pages
          → GoodAt m setup q h c.b (opened_pages file attr mark call.purpose.sent (turn_at (taken_one old xid)) pages)
      opens-so file attr mark pages low said on good =
          rw (not-late file pages good) (good-opened (Met m setup q) (Follows m setup q h) (λ g z j p. q.few) c.b file (stamp_of attr) mark pages low
          (tells file attr (replies.File (kept.GetAttr attr)) said (λ g same. of_object (subst (λ (x : List ℕ). IsOn x asked) (sym same) on) refl)) good)

      notes-so : (file : List ℕ) (attr : Option Attr) (counted_ : ℕ) (eof : Bool) (given : List ℕ) (place count : ℕ) (pages : Pages)
          → came ≡ Ok (replies.File (kept.Read attr counted_ eof given)) → asked ≡ calls.File (file_calls.Read file place count) → breaks_rule count counted_ eof given ≡ false
          → GoodAt m setup q h c.b pages → GoodAt m setup q h c.b (reading.noted attr file call.purpose.sent.moment place given eof pages)
      notes-so file attr counted_ eof given place count pages said asked_is breaks good =
          noted-good (Met m setup q) (Follows m setup q h) (λ g z j p. q.few) c.b attr file call.purpose.sent.moment place given eof pages
          (λ index ends g. met-so file place count index given ends (replies.File (kept.Read attr counted_ eof given)) said asked_is (few-bytes count counted_ eof given breaks) g)
          (λ a some. tells file a (replies.File (kept.Read attr counted_ eof given)) said (λ g same. of_object (ap object_of asked_is ∙ ap Some (sym same)) some)) good

      take-laws : TakeLaws (GoodAt m setup q h c.b) c.b asked came call.purpose.sent (turn_at (taken_one old xid))
      take-laws = record {
        opens = opens-so;
        knows = λ file stamp mark pages low is_known. good-known (Met m setup q) (Follows m setup q h) (λ g z j p. q.few) c.b file stamp mark pages low is_known;
        notes = notes-so;
      }

    left-waits : (y : ℕ) (w : Waiting Purpose) → waiting_at y (without xid old.calls.calls) ≡ Some w → waiting_at y old.calls.calls ≡ Some w
    left-waits y w left = by (nat_eq y xid) refl
      where
        by : (b : Bool) → nat_eq y xid ≡ b → waiting_at y old.calls.calls ≡ Some w
        by false d = sym (others_taken y xid old.calls.calls d) ∙ left
        by true d = absurd (
            let none : waiting_at xid (without xid old.calls.calls) ≡ None = gone old.calls.cred old.calls.first_xid (next_xid old.calls) xid old.calls.calls known.rows.sound.calls.each in
            let here : waiting_at xid (without xid old.calls.calls) ≡ Some w = ap (λ (n : ℕ). waiting_at n (without xid old.calls.calls)) (sym (eqb-true y xid d)) ∙ left in
            let no_way : None ≡ Some w = sym none ∙ here in cc)

    young-mid : Young c.b old → Young c.b mid
    young-mid young y w left = young y w (left-waits y w left)

    heard-rows : Rows setup later (taken_one old xid)
    heard-rows = rows-grow setup h (Delivered rec) (taken_one old xid) (taken-quiet setup h old rec xid known.rows named) (not-sent rec) (taken-rows setup h old xid known.rows)

    only : (j : ℕ) (other : Lane) → slice_get old.lanes j ≡ Some other → j ≡ k
    only = alone m setup q h (Delivered rec ∷ rest) old whole known k (record { number = t.number; state = Busy t.machine }) t.there

    only-mid : (j : ℕ) (other : Lane) → slice_get mid.lanes j ≡ Some other → j ≡ k
    only-mid j other here = by (nat_eq j k) refl
      where
        by : (b : Bool) → nat_eq j k ≡ b → j ≡ k
        by true e = eqb-true j k e
        by false e = only j other (sym (set-other old.lanes k j (record { number = t.number; state = Busy t.after }) (eqb-false j k e)) ∙ here)

    -- what the step makes of the pages and its machine
    record AfterTaking : Type 0 where
      b : ℕ
      low : b ≤ mid.moments
      pages : GoodAt m setup q h b t.shelf.pages
      own : ThenOf (Kind b mid) (λ answer. Unit {0}) t.next t.after

    taken : Kind c.b old t.machine → AfterTaking
    taken (quiet young k_) =
        let then_ = takes-quiet c.b asked came call.purpose.sent (turn_at (taken_one old xid)) t.machine old.wsize old.shelf t.next t.after t.shelf k_ (λ reply said. mine.on.0) t.takes in
        record {
          b = c.b;
          low = let low = c.low in omega (arith, low);
          pages = quiet-takes (GoodAt m setup q h c.b) (shows m setup q h c.b) c.b asked came call.purpose.sent (turn_at (taken_one old xid)) (take-laws young) t.machine old.wsize old.shelf
              t.next t.after t.shelf k_ (λ reply said. mine.on) t.takes c.pages;
          own = quiet-then m setup q c.b mid (young-mid young) t.next t.after then_;
        }
    taken (putting young k_) =
        let then_ = putting-takes c.b came call.purpose.sent (turn_at (taken_one old xid)) t.machine old.wsize old.shelf t.next t.after t.shelf k_ t.takes in
        record {
          b = c.b;
          low = let low = c.low in omega (arith, low);
          pages = putting-pages (GoodAt m setup q h c.b) (shows m setup q h c.b) c.b asked came call.purpose.sent (turn_at (taken_one old xid)) (take-laws young) t.machine old.wsize old.shelf
              t.next t.after t.shelf k_ (λ reply said. mine.on) t.takes c.pages;
          own = putting-then m setup q c.b mid (young-mid young) t.next t.after then_;
        }
    taken (saver own) =
        let then_ = saver-takes t.machine old.wsize call.purpose.sent (turn_at (taken_one old xid)) came old.shelf t.next t.after t.shelf own t.takes in
        record {
          b = old.moments + 1;
          low = omega arith;
          pages = saver-pages (Met m setup q) (Follows m setup q h) (λ g z j p. q.few) (old.moments + 1) came call.purpose.sent (turn_at (taken_one old xid)) old.shelf (omega arith)
              (good-later (Met m setup q) (Follows m setup q h) (λ g z j p. q.few) c.b (Follows m setup q h) (λ g z j p. q.few) (old.moments + 1) old.shelf.pages
              (let low = c.low in omega (arith, low)) (λ g z j p. p) c.pages)
              t.machine old.wsize t.next t.after t.shelf own (λ g is made. flies-not g is) (λ g is made. cuts-not g is) t.takes;
          own = saver-then m setup q (old.moments + 1) mid t.next t.after then_;
        }

    pub takes-calm : (q.at ≡ length h → HoldsPage q.f q.s q.i t.shelf.pages) → CalmHere m setup q later new
    takes-calm held =
        let a = taken (c.lanes k t.number t.machine t.there) in
        leads-calm (Met m setup q) q.few (Follows m setup q later) setup later mid new k t.number t.after t.next
        ((rows-stay setup later).sets (taken_one old xid) k t.number (Busy t.machine) (Busy t.after) t.shelf t.there heard-rows)
        (record {
          b = a.b;
          low = a.low;
          pages = grow-with m setup q h (Delivered rec) a.b a.b t.shelf.pages (omega arith) held a.pages;
          there = at-set old.lanes k (record { number = t.number; state = Busy t.machine }) (record { number = t.number; state = Busy t.after }) t.there;
          own = a.own;
          alone = only-mid;
        }) t.leads
