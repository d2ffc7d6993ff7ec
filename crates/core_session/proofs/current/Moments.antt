-- Which calls were first sent since an operation began, by the moments that the core gave out, and what the known stamp of a file is since then.
use Rattle.core_session.proofs.Prelude.{◌≡◌, ◌<◌, ◌≤◌, ◌-◌, ◌⊎◌, inl, inr, ℕ, Bool, true, false, nat_le, List, [], ◌∷◌, ◌++◌, length, take, Option, Some, None, option_map, Result, Ok, refl, sym, ap, subst, ◌∙◌, arith, if◌then◌else◌, option_map_or, nat_tests, Attr, Stamp, stamp_of, Waiting, waiting_at, FileState, Pages, state_of, known_of, saw, after_page, Fault, Entry, Sent, Call, Reply, At, HasXid, of_object, At-cases, length_last, Turn, offered, opened_pages, Purpose, View, IsUnsent, IsAnswered, answered-last, IsOn, from-start, IsSeen, shown, WasRegular}
use Rattle.std.proofs.Common.{max}
use Rattle.page_cache.specs.Pages.{opened, wrote}
use Rattle.claims.specs.Shown.{object_of, object_attr}
use Rattle.file_ops.specs.Kept.{told_of, is_given, kept_page, offered_told}
use Rattle.file_ops.specs.PagesOpened.{is_late, no_wcc}
use Rattle.core_session.specs.current.Seen.{written, cut}
use Rattle.nfs_file_calls.specs.declared.call.FileCall.TheVariants as files
use Rattle.nfs_file_calls.specs.declared.owned.FileKept.TheVariants as kept
use Rattle.page_cache.proofs.Inserts.{same-self}
use Rattle.page_cache.proofs.States.{state_opened, state_changed, state-opened, state-wrote}
use Rattle.world_model.specs.declared.message.Call.TheVariants as calls
use Rattle.world_model.specs.declared.message.Reply.TheVariants as replies
use Rattle.file_ops.specs.Saves.{untold}
use Rattle.file_ops.specs.TruncateFile.{size_call}
use Rattle.core_session.proofs.current.FedPages.{FedLaws}
use Rattle.core_session.proofs.current.Marks.{IsMarked, marked-shown, marked-opened, marked-saw, marked-kept, marked-wrote, marked-cut}

-- ---- moments

-- What began at the place o has the moment k, or a later one: each call with a later moment was sent after that place.
pub record IsMoment (h : List Entry) (v : View) (o k : ℕ) : Type 0 where
  pub low : o < length h
  pub given : k ≤ v.moments
  pub sent : (xid : ℕ) (w : Waiting Purpose) → waiting_at xid v.calls.calls ≡ Some w → k < w.purpose.sent.moment → (i : ℕ) (bytes : List ℕ) → At h i (Sent bytes) → HasXid bytes xid → o < i

-- no call that waits has a moment that wasn't given out
abbrev pub AllTimely : View → Type 0
AllTimely v = (xid : ℕ) (w : Waiting Purpose) → waiting_at xid v.calls.calls ≡ Some w → w.purpose.sent.moment ≤ v.moments

-- Each call that waits now waited before, for the same purpose, or wasn't sent yet and has a moment that was given out.
pub record WaitedSo (old : View) (xid : ℕ) (w : Waiting Purpose) : Type 0 where
  pub was : Waiting Purpose
  pub waited : waiting_at xid old.calls.calls ≡ Some was
  pub purpose : was.purpose ≡ w.purpose

pub record GoesOn (h : List Entry) (old new : View) : Type 0 where
  pub moments : old.moments ≤ new.moments
  pub calls : (xid : ℕ) (w : Waiting Purpose) → waiting_at xid new.calls.calls ≡ Some w → WaitedSo old xid w ⊎ (IsUnsent h xid × (w.purpose.sent.moment ≤ new.moments))

pub goes-itself : (h : List Entry) (v : View) → GoesOn h v v
goes-itself h v = record { moments = omega arith; calls = λ xid w waits. inl (record { was = w; waited = waits; purpose = refl }) }

pub moment-goes : (h : List Entry) (old new : View) (o k : ℕ) → GoesOn h old new → IsMoment h old o k → IsMoment h new o k
moment-goes h old new o k g m = record {
  low = m.low;
  given = let given = m.given in let more = g.moments in omega (arith, given, more);
  sent = λ xid w waits late i bytes at has. by xid w late i bytes at has (g.calls xid w waits);
}
  where
    by : (xid : ℕ) (w : Waiting Purpose) → k < w.purpose.sent.moment → (i : ℕ) (bytes : List ℕ) → At h i (Sent bytes) → HasXid bytes xid
        → WaitedSo old xid w ⊎ (IsUnsent h xid × (w.purpose.sent.moment ≤ new.moments)) → o < i
    by xid w late i bytes at has (inl b) = m.sent xid b.was b.waited (subst (λ (p : Purpose). k < p.sent.moment) (sym b.purpose) late) i bytes at has
    by xid w late i bytes at has (inr none) = absurd (none.0 i bytes at has)

pub timely-goes : (h : List Entry) (old new : View) → GoesOn h old new → AllTimely old → AllTimely new
timely-goes h old new g t xid w waits = by (g.calls xid w waits)
  where
    by : WaitedSo old xid w ⊎ (IsUnsent h xid × (w.purpose.sent.moment ≤ new.moments)) → w.purpose.sent.moment ≤ new.moments
    by (inl b) =
        let low = subst (λ (p : Purpose). p.sent.moment ≤ old.moments) b.purpose (t xid b.was b.waited) in
        let more = g.moments in
        omega (arith, low, more)
    by (inr none) = none.1

pub moment-grows : (h : List Entry) (e : Entry) (v : View) (o k : ℕ) → IsMoment h v o k → IsMoment (h ++ e ∷ []) v o k
moment-grows h e v o k m = record {
  low = let low = m.low in let more = length_last h e in omega (arith, low, more);
  given = m.given;
  sent = λ xid w waits late i bytes at has. by xid w waits late i bytes has (At-cases h e i (Sent bytes) at);
}
  where
    by : (xid : ℕ) (w : Waiting Purpose) → waiting_at xid v.calls.calls ≡ Some w → k < w.purpose.sent.moment → (i : ℕ) (bytes : List ℕ) → HasXid bytes xid
        → At h i (Sent bytes) ⊎ ((i ≡ length h) × (e ≡ Sent bytes)) → o < i
    by xid w waits late i bytes has (inl there) = m.sent xid w waits late i bytes there has
    by xid w waits late i bytes has (inr last) = let low = m.low in let is = last.0 in omega (arith, low, is)

-- ---- stamps

pub seen-grows : (h : List Entry) (e : Entry) (o : ℕ) (file : List ℕ) (stamp : Stamp) → IsSeen h o file stamp → IsSeen (h ++ e ∷ []) o file stamp
seen-grows h e o file _ (shown stamp since call reply attr after answered shows is) = shown stamp since call reply attr after (answered-last h e since call reply answered) shows is
seen-grows h e o file _ (written old stamp offset count bytes was w) =
    written old stamp offset count bytes (seen-grows h e o file old was)
    (record { how = w.how; committed = w.committed; wcc = w.wcc; verf = w.verf; answered = answered-last h e 0 _ _ w.answered; leads = w.leads })
seen-grows h e o file _ (cut old stamp size was w) =
    cut old stamp size (seen-grows h e o file old was) (record { set = w.set; guard = w.guard; wcc = w.wcc; answered = answered-last h e 0 _ _ w.answered; is = w.is; leads = w.leads })

-- The file was opened, calls up to the moment k are too old to tell of it, and its known stamp was shown since the place o.
abbrev pub SinceIn : List Entry → ℕ → List ℕ → ℕ → Pages → Type 0
SinceIn h o f k c = IsMarked (IsSeen h o f) c f k

pub record IsSince (h : List Entry) (v : View) (f : List ℕ) (o : ℕ) : Type 0 where
  pub k : ℕ
  pub moment : IsMoment h v o k
  pub marked : SinceIn h o f k v.shelf.pages
  pub regular : WasRegular h f

pub marked-grows : (h : List Entry) (e : Entry) (o : ℕ) (f : List ℕ) (k : ℕ) (c : Pages) → SinceIn h o f k c → SinceIn (h ++ e ∷ []) o f k c
marked-grows h e o f k c m = record { state = m.state; there = m.there; over = m.over; seen = λ s is. seen-grows h e o f s (m.seen s is) }

pub regular-grows : (h : List Entry) (e : Entry) (f : List ℕ) → WasRegular h f → WasRegular (h ++ e ∷ []) f
regular-grows h e f r =
    record { since = r.since; call = r.call; reply = r.reply; attr = r.attr; answered = answered-last h e r.since r.call r.reply r.answered; shows = r.shows; kind = r.kind }

pub since-grows : (h : List Entry) (e : Entry) (v : View) (f : List ℕ) (o : ℕ) → IsSince h v f o → IsSince (h ++ e ∷ []) v f o
since-grows h e v f o s = record { k = s.k; moment = moment-grows h e v o s.k s.moment; marked = marked-grows h e o f s.k v.shelf.pages s.marked; regular = regular-grows h e f s.regular }

-- the known stamp
pub known-seen : (h : List Entry) (o : ℕ) (f : List ℕ) (k : ℕ) (c : Pages) (stamp : Stamp) → SinceIn h o f k c → known_of f c ≡ Some stamp → IsSeen h o f stamp
known-seen h o f k c stamp m is = m.seen stamp (sym (ap known_in m.there) ∙ is)
  where
    known_in : Option FileState → Option Stamp
    known_in None = None
    known_in (Some state) = state.known

-- ---- what a reply tells

-- A reply that is taken answers the call, which was first sent after each place with an earlier moment.
pub record IsToldSince (h : List Entry) (call : Call) (sent : Turn) (o k : ℕ) (reply : Reply) : Type 0 where
  pub since : ℕ
  pub answered : IsAnswered h since (length h) call reply
  pub later : k < sent.moment → o < since

pub shows-marks : (h : List Entry) (o : ℕ) (f : List ℕ) (k : ℕ) (file : List ℕ) (index : ℕ) (c : Pages) → SinceIn h o f k c → SinceIn h o f k (after_page file index c)
shows-marks h o f k file index c t = marked-shown (IsSeen h o f) f k file index c t

module _ (h : List Entry) (o : ℕ) (f : List ℕ) (k : ℕ) (call : Call) (came : Result Reply Fault) (sent turn : Turn) (late : k ≤ turn.moment - 1)
    (told : (reply : Reply) → came ≡ Ok reply → IsToldSince h call sent o k reply) where
  abbrev T : Pages → Type 0
  T c = SinceIn h o f k c

  none-before : (s : Stamp) → None ≡ Some s → ⊥
  none-before s e = cc

  pub drops-so : (file : List ℕ) (c : Pages) → T c → T (wrote file untold 0 [] (turn.moment - 1) c)
  drops-so file c t = marked-wrote (IsSeen h o f) f k file untold 0 [] (turn.moment - 1) c late (λ old attr at before after had. absurd (none-before old before)) t

  -- attributes of the file that a reply shows, to a call that was made late enough
  shows-stamp : (file : List ℕ) (attr : Attr) (reply : Reply) (mark : ℕ) → came ≡ Ok reply → IsOn file call → object_attr reply ≡ Some attr → f ≡ file → k ≤ mark → mark < sent.moment → IsSeen h o f (stamp_of attr)
  shows-stamp file attr reply mark is on says at over after =
      let t = told reply is in
      shown (stamp_of attr) t.since call reply attr (t.later (omega (arith, over, after))) t.answered (of_object (subst (λ (g : List ℕ). IsOn g call) (sym at) on) says) refl

  late-if : (b : Bool) (file : List ℕ) (attr : Attr) (mark : ℕ) (c : Pages) → is_late file sent.moment c ≡ b → came ≡ Ok (replies.File (kept.GetAttr attr)) → IsOn file call → T c
      → T (if b then wrote file no_wcc 0 [] (turn.moment - 1) c else opened file (stamp_of attr) mark c)
  late-if true file attr mark c old is on t = drops-so file c t
  late-if false file attr mark c young is on t =
      marked-opened (IsSeen h o f) f k file (stamp_of attr) mark c
      (λ at state there over.
      let after : nat_le sent.moment state.mark ≡ false = sym (ap (λ (z : Option FileState). option_map_or (λ mark. nat_le sent.moment mark) (option_map (λ (s : FileState). s.mark) z) false) there) ∙ young in
      shows-stamp file attr (replies.File (kept.GetAttr attr)) state.mark is on refl at over (grind (arith, nat_tests))) t

  pub opens-so : (file : List ℕ) (attr : Attr) (mark : ℕ) (c : Pages) → came ≡ Ok (replies.File (kept.GetAttr attr)) → IsOn file call → T c → T (opened_pages file attr mark sent turn c)
  opens-so file attr mark c is on t = late-if (is_late file sent.moment c) file attr mark c refl is on t

  knows-so : (file : List ℕ) (stamp : Stamp) (mark : ℕ) (c : Pages) → known_of file c ≡ Some stamp → T c → T (opened file stamp mark c)
  knows-so file stamp mark c known t =
      marked-opened (IsSeen h o f) f k file stamp mark c (λ at state there over. known-seen h o f k c stamp t (ap (λ (g : List ℕ). known_of g c) at ∙ known)) t

  offers-if : (b : Bool) (file : List ℕ) (stamp : Stamp) (index : ℕ) (page : List ℕ) (c : Pages) → (f ≡ file → (state : FileState) → state_of file c ≡ Some state → k ≤ state.mark → state.mark < sent.moment → IsSeen h o f stamp)
      → T c → T (if b then kept_page file stamp sent.moment index page c else c)
  unfolding kept_page
  offers-if true file stamp index page c new t = marked-kept (IsSeen h o f) f k file stamp sent.moment index page c new t
  offers-if false file stamp index page c new t = t

  offers-told : (file : List ℕ) (stamp : Stamp) (ends : Bool) (index : ℕ) (given : Option (List ℕ)) (c : Pages)
      → (f ≡ file → (state : FileState) → state_of file c ≡ Some state → k ≤ state.mark → state.mark < sent.moment → IsSeen h o f stamp) → T c
      → T (offered_told file stamp sent.moment ends index given c)
  offers-told file stamp ends index None c new t = t
  offers-told file stamp ends index (Some given) c new t = offers-if (is_given given ends) file stamp index (take 4096 given) c new t

  offers-so : (file : List ℕ) (attr : Attr) (counted : ℕ) (eof : Bool) (given : List ℕ) (place count index : ℕ) (ends : Bool) (c : Pages)
      → came ≡ Ok (replies.File (kept.Read (Some attr) counted eof given)) → call ≡ calls.File (files.Read file place count) → (ends ≡ true → eof ≡ true)
      → T c → T (offered file (stamp_of attr) sent.moment place given ends index c)
  unfolding offered
  offers-so file attr counted eof given place count index ends c is asked whole t =
      offers-told file (stamp_of attr) ends index (told_of place given index) c
      (λ at state there over after. shows-stamp file attr (replies.File (kept.Read (Some attr) counted eof given)) state.mark is (ap object_of asked) refl at over after) t

  sees-so : (file : List ℕ) (attr : Attr) (counted : ℕ) (eof : Bool) (given : List ℕ) (place count : ℕ) (c : Pages)
      → came ≡ Ok (replies.File (kept.Read (Some attr) counted eof given)) → call ≡ calls.File (files.Read file place count) → T c → T (saw file (stamp_of attr) sent.moment c)
  sees-so file attr counted eof given place count c is asked t =
      marked-saw (IsSeen h o f) f k file (stamp_of attr) sent.moment c
      (λ at state there over after. shows-stamp file attr (replies.File (kept.Read (Some attr) counted eof given)) state.mark is (ap object_of asked) refl at over after) t

  -- its own WRITE or SETATTR leads from a stamp to another
  answered-as : (asked : Call) (reply : Reply) → came ≡ Ok reply → call ≡ asked → IsAnswered h 0 (length h) asked reply
  answered-as asked reply is same = let t = told reply is in from-start h t.since asked reply (subst (λ (q : Call). IsAnswered h t.since (length h) q reply) same t.answered)

  pub fed-marks : FedLaws T call came sent turn
  fed-marks = record {
    drops = drops-so;
    opens = opens-so;
    knows = knows-so;
    sees = sees-so;
    offers = offers-so;
    writes = λ file offset how bytes wcc count committed verf c is asked t.
        marked-wrote (IsSeen h o f) f k file wcc offset (take count bytes) (turn.moment - 1) c late
        (λ old attr at before after had.
        written old (stamp_of attr) offset count bytes had (record {
          how = how;
          committed = committed;
          wcc = wcc;
          verf = verf;
          answered = answered-as (calls.File (files.Write f offset how bytes)) (replies.File (kept.Write wcc count committed verf)) is
              (asked ∙ ap (λ (g : List ℕ). calls.File (files.Write g offset how bytes)) (sym at));
          leads = record { attr = attr; before = before; after = after; is = refl };
        })) t;
    cuts = λ file wcc size c is asked t.
        marked-cut (IsSeen h o f) f k file wcc size (turn.moment - 1) c late
        (λ old attr at before after had.
        cut old (stamp_of attr) size had (record {
          set = _;
          guard = None;
          wcc = wcc;
          answered = answered-as (size_call f size) (replies.File (kept.SetAttr wcc)) is (asked ∙ ap (λ (g : List ℕ). size_call g size) (sym at));
          is = refl;
          leads = record { attr = attr; before = before; after = after; is = refl };
        })) t;
  }

-- the pages of a file that is opened with what a reply shows
pub newly-opened : (h : List Entry) (o : ℕ) (file : List ℕ) (k : ℕ) (attr : Attr) (sent turn : Turn) (c : Pages) → k ≤ turn.moment - 1 → IsSeen h o file (stamp_of attr)
    → SinceIn h o file k (opened_pages file attr k sent turn c)
newly-opened h o file k attr sent turn c late seen = by (state_of file c) refl
  where
    some-is : (a b : Stamp) → Some a ≡ Some b → a ≡ b
    some-is a b e = cc

    none-is : (a : Stamp) → None ≡ Some a → ⊥
    none-is a e = cc

    if-late : (b : Bool) (old : Option FileState) → state_of file c ≡ old → option_map_or (λ (state : FileState). nat_le sent.moment state.mark) old false ≡ b
        → SinceIn h o file k (if b then wrote file no_wcc 0 [] (turn.moment - 1) c else opened file (stamp_of attr) k c)
    if-late true None is e = absurd cc
    if-late true (Some state) is e = record {
      state = state_changed no_wcc (turn.moment - 1) state;
      there = state-wrote file file c no_wcc 0 [] (turn.moment - 1)
          ∙ ap (λ (b : Bool). if b then option_map (state_changed no_wcc (turn.moment - 1)) (state_of file c) else state_of file c) (same-self file)
          ∙ ap (option_map (state_changed no_wcc (turn.moment - 1))) is;
      over = late;
      seen = λ s known. absurd (none-is s known);
    }
    if-late false old is e = record {
      state = state_opened old (stamp_of attr) k;
      there = state-opened file file c (stamp_of attr) k
          ∙ ap (λ (b : Bool). if b then Some (state_opened (state_of file c) (stamp_of attr) k) else state_of file c) (same-self file)
          ∙ ap (λ (z : Option FileState). Some (state_opened z (stamp_of attr) k)) is;
      over = most old;
      seen = λ s known. subst (IsSeen h o file) (some-is (stamp_of attr) s known) seen;
    }
      where
        most : (old : Option FileState) → k ≤ option_map_or (λ (state : FileState). max state.mark k) old k
        most None = omega arith
        most (Some state) = omega arith

    late-as : (old : Option FileState) → state_of file c ≡ old → is_late file sent.moment c ≡ option_map_or (λ (state : FileState). nat_le sent.moment state.mark) old false
    late-as None is = ap (λ (z : Option FileState). option_map_or (λ mark. nat_le sent.moment mark) (option_map (λ (state : FileState). state.mark) z) false) is
    late-as (Some state) is = ap (λ (z : Option FileState). option_map_or (λ mark. nat_le sent.moment mark) (option_map (λ (state : FileState). state.mark) z) false) is

    by : (old : Option FileState) → state_of file c ≡ old → SinceIn h o file k (opened_pages file attr k sent turn c)
    by old is = if-late (is_late file sent.moment c) old is (sym (late-as old is))

-- and of one that is opened with a stamp that is known
pub newly-known : (h : List Entry) (o : ℕ) (file : List ℕ) (k : ℕ) (stamp : Stamp) (c : Pages) → IsSeen h o file stamp → SinceIn h o file k (opened file stamp k c)
newly-known h o file k stamp c seen = by (state_of file c) refl
  where
    some-is : (a b : Stamp) → Some a ≡ Some b → a ≡ b
    some-is a b e = cc

    by : (old : Option FileState) → state_of file c ≡ old → SinceIn h o file k (opened file stamp k c)
    by old is = record {
      state = state_opened old stamp k;
      there = state-opened file file c stamp k
          ∙ ap (λ (b : Bool). if b then Some (state_opened (state_of file c) stamp k) else state_of file c) (same-self file)
          ∙ ap (λ (z : Option FileState). Some (state_opened z stamp k)) is;
      over = most old;
      seen = λ s known. subst (IsSeen h o file) (some-is stamp s known) seen;
    }
      where
        most : (old : Option FileState) → k ≤ option_map_or (λ (state : FileState). max state.mark k) old k
        most None = omega arith
        most (Some state) = omega arith

-- calls that were first sent since a place were since each earlier one
pub moment-before : (h : List Entry) (v : View) (s o k : ℕ) → s ≤ o → IsMoment h v o k → IsMoment h v s k
moment-before h v s o k le m = record {
  low = let low = m.low in omega (arith, le, low);
  given = m.given;
  sent = λ xid w waits late i bytes at has. let first = m.sent xid w waits late i bytes at has in omega (arith, le, first);
}
