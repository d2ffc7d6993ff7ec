-- Which stamps of a file the server showed since an own change of it was answered: that to which the reply leads, and what came after.
use Rattle.core_session.proofs.Prelude.{◌≡◌, ◌<◌, ◌≤◌, ◌-◌, ℕ, Bool, true, false, nat_le, List, [], ◌∷◌, ◌++◌, length, take, Option, Some, None, option_map, Result, Ok, refl, sym, ap, subst, ◌∙◌, arith, if◌then◌else◌, option_map_or, nat_tests, Attr, Stamp, stamp_of, FileState, Pages, state_of, known_of, saw, after_page, Fault, Entry, Call, Reply, of_object, Turn, offered, opened_pages, IsAnswered, answered-last, IsOn, from-start, Wcc}
use Rattle.page_cache.specs.Pages.{opened, wrote}
use Rattle.claims.specs.Shown.{ShowsAttr, object_of, object_attr}
use Rattle.file_ops.specs.Kept.{told_of, is_given, kept_page, offered_told}
use Rattle.file_ops.specs.PagesOpened.{is_late, no_wcc}
use Rattle.nfs_file_calls.specs.declared.call.FileCall.TheVariants as files
use Rattle.nfs_file_calls.specs.declared.owned.FileKept.TheVariants as kept
use Rattle.world_model.specs.declared.message.Call.TheVariants as calls
use Rattle.world_model.specs.declared.message.Reply.TheVariants as replies
use Rattle.file_ops.specs.Saves.{untold}
use Rattle.file_ops.specs.TruncateFile.{size_call}
use Rattle.core_answers.specs.pages.Kept.{WasWritten, WasCut}
use Rattle.core_session.proofs.current.Moments.{IsToldSince}
use Rattle.core_session.proofs.current.FedPages.{FedLaws}
use Rattle.core_session.proofs.current.Marks.{IsMarked, marked-shown, marked-opened, marked-saw, marked-kept, marked-wrote, marked-cut}

-- A stamp of the file was shown since the reply with this wcc came at the place d: the reply leads to it; or the reply to a call that was first sent after it
-- shows it; or a WRITE or SETATTR of this client leads to it from such a one.
pub data SeenAfter (wcc : Wcc) (h : List Entry) (d : ℕ) (file : List ℕ) : Stamp → Type 0 where
  itself : (stamp : Stamp) (attr : Attr) → wcc.after ≡ Some attr → stamp_of attr ≡ stamp → SeenAfter wcc h d file stamp
  shown : (stamp : Stamp) (since : ℕ) (call : Call) (reply : Reply) (attr : Attr) → d < since → IsAnswered h since (length h) call reply
      → ShowsAttr call reply file attr → stamp_of attr ≡ stamp → SeenAfter wcc h d file stamp
  written : (old stamp : Stamp) (offset count : ℕ) (bytes : List ℕ) → SeenAfter wcc h d file old → WasWritten h file offset count bytes old stamp
      → SeenAfter wcc h d file stamp
  cut : (old stamp : Stamp) (size : ℕ) → SeenAfter wcc h d file old → WasCut h file size old stamp → SeenAfter wcc h d file stamp

pub after-grows : (wcc : Wcc) (h : List Entry) (e : Entry) (d : ℕ) (file : List ℕ) (stamp : Stamp) → SeenAfter wcc h d file stamp → SeenAfter wcc (h ++ e ∷ []) d file stamp
after-grows wcc h e d file _ (itself stamp attr is same) = itself stamp attr is same
after-grows wcc h e d file _ (shown stamp since call reply attr after answered shows is) = shown stamp since call reply attr after (answered-last h e since call reply answered) shows is
after-grows wcc h e d file _ (written old stamp offset count bytes was w) =
    written old stamp offset count bytes (after-grows wcc h e d file old was)
    (record { how = w.how; committed = w.committed; wcc = w.wcc; verf = w.verf; answered = answered-last h e 0 _ _ w.answered; leads = w.leads })
after-grows wcc h e d file _ (cut old stamp size was w) =
    cut old stamp size (after-grows wcc h e d file old was)
    (record { set = w.set; guard = w.guard; wcc = w.wcc; answered = answered-last h e 0 _ _ w.answered; is = w.is; leads = w.leads })

-- the file was opened, calls up to the moment k are too old to tell of it, and its known stamp is such a one
abbrev pub AfterIn : Wcc → List Entry → ℕ → List ℕ → ℕ → Pages → Type 0
AfterIn wcc h d f k c = IsMarked (SeenAfter wcc h d f) c f k

pub marked-after : (wcc : Wcc) (h : List Entry) (e : Entry) (d : ℕ) (f : List ℕ) (k : ℕ) (c : Pages) → AfterIn wcc h d f k c → AfterIn wcc (h ++ e ∷ []) d f k c
marked-after wcc h e d f k c m = record { state = m.state; there = m.there; over = m.over; seen = λ s is. after-grows wcc h e d f s (m.seen s is) }

-- the known stamp
pub known-after : (wcc : Wcc) (h : List Entry) (d : ℕ) (f : List ℕ) (k : ℕ) (c : Pages) (stamp : Stamp) → AfterIn wcc h d f k c → known_of f c ≡ Some stamp → SeenAfter wcc h d f stamp
known-after wcc h d f k c stamp m is = m.seen stamp (sym (ap known_in m.there) ∙ is)
  where
    known_in : Option FileState → Option Stamp
    known_in None = None
    known_in (Some state) = state.known

pub shows-after : (wcc : Wcc) (h : List Entry) (d : ℕ) (f : List ℕ) (k : ℕ) (file : List ℕ) (index : ℕ) (c : Pages) → AfterIn wcc h d f k c → AfterIn wcc h d f k (after_page file index c)
shows-after wcc h d f k file index c t = marked-shown (SeenAfter wcc h d f) f k file index c t

module _ (wcc_ : Wcc) (h : List Entry) (o : ℕ) (f : List ℕ) (k : ℕ) (call : Call) (came : Result Reply Fault) (sent turn : Turn) (late : k ≤ turn.moment - 1)
    (told : (reply : Reply) → came ≡ Ok reply → IsToldSince h call sent o k reply) where
  abbrev T : Pages → Type 0
  T c = IsMarked (SeenAfter wcc_ h o f) c f k

  none-before : (s : Stamp) → None ≡ Some s → ⊥
  none-before s e = cc

  pub drops-so : (file : List ℕ) (c : Pages) → T c → T (wrote file untold 0 [] (turn.moment - 1) c)
  drops-so file c t = marked-wrote (SeenAfter wcc_ h o f) f k file untold 0 [] (turn.moment - 1) c late (λ old attr at before after had. absurd (none-before old before)) t

  -- attributes of the file that a reply shows, to a call that was made late enough
  shows-stamp : (file : List ℕ) (attr : Attr) (reply : Reply) (mark : ℕ) → came ≡ Ok reply → IsOn file call → object_attr reply ≡ Some attr → f ≡ file → k ≤ mark → mark < sent.moment → SeenAfter wcc_ h o f (stamp_of attr)
  shows-stamp file attr reply mark is on says at over after =
      let t = told reply is in
      shown (stamp_of attr) t.since call reply attr (t.later (omega (arith, over, after))) t.answered (of_object (subst (λ (g : List ℕ). IsOn g call) (sym at) on) says) refl

  late-if : (b : Bool) (file : List ℕ) (attr : Attr) (mark : ℕ) (c : Pages) → is_late file sent.moment c ≡ b → came ≡ Ok (replies.File (kept.GetAttr attr)) → IsOn file call → T c
      → T (if b then wrote file no_wcc 0 [] (turn.moment - 1) c else opened file (stamp_of attr) mark c)
  late-if true file attr mark c old is on t = drops-so file c t
  late-if false file attr mark c young is on t =
      marked-opened (SeenAfter wcc_ h o f) f k file (stamp_of attr) mark c
      (λ at state there over.
      let after : nat_le sent.moment state.mark ≡ false = sym (ap (λ (z : Option FileState). option_map_or (λ mark. nat_le sent.moment mark) (option_map (λ (s : FileState). s.mark) z) false) there) ∙ young in
      shows-stamp file attr (replies.File (kept.GetAttr attr)) state.mark is on refl at over (grind (arith, nat_tests))) t

  pub opens-so : (file : List ℕ) (attr : Attr) (mark : ℕ) (c : Pages) → came ≡ Ok (replies.File (kept.GetAttr attr)) → IsOn file call → T c → T (opened_pages file attr mark sent turn c)
  opens-so file attr mark c is on t = late-if (is_late file sent.moment c) file attr mark c refl is on t

  knows-so : (file : List ℕ) (stamp : Stamp) (mark : ℕ) (c : Pages) → known_of file c ≡ Some stamp → T c → T (opened file stamp mark c)
  knows-so file stamp mark c known t =
      marked-opened (SeenAfter wcc_ h o f) f k file stamp mark c (λ at state there over. known-after wcc_ h o f k c stamp t (ap (λ (g : List ℕ). known_of g c) at ∙ known)) t

  offers-if : (b : Bool) (file : List ℕ) (stamp : Stamp) (index : ℕ) (page : List ℕ) (c : Pages) → (f ≡ file → (state : FileState) → state_of file c ≡ Some state → k ≤ state.mark → state.mark < sent.moment → SeenAfter wcc_ h o f stamp)
      → T c → T (if b then kept_page file stamp sent.moment index page c else c)
  unfolding kept_page
  offers-if true file stamp index page c new t = marked-kept (SeenAfter wcc_ h o f) f k file stamp sent.moment index page c new t
  offers-if false file stamp index page c new t = t

  offers-told : (file : List ℕ) (stamp : Stamp) (ends : Bool) (index : ℕ) (given : Option (List ℕ)) (c : Pages)
      → (f ≡ file → (state : FileState) → state_of file c ≡ Some state → k ≤ state.mark → state.mark < sent.moment → SeenAfter wcc_ h o f stamp) → T c
      → T (offered_told file stamp sent.moment ends index given c)
  offers-told file stamp ends index None c new t = t
  offers-told file stamp ends index (Some given) c new t = offers-if (is_given given ends) file stamp index (take 4096 given) c new t

  offers-so : (file : List ℕ) (attr : Attr) (counted : ℕ) (eof : Bool) (given : List ℕ) (place count index : ℕ) (ends : Bool) (c : Pages)
      → came ≡ Ok (replies.File (kept.Read (Some attr) counted eof given)) → call ≡ calls.File (files.Read file place count) → (ends ≡ true → eof ≡ true)
      → T c → T (offered file (stamp_of attr) sent.moment place given ends index c)
  unfolding offered
  offers-so file attr counted eof given place count index ends c is asked whole t =
      offers-told file (stamp_of attr) ends index (told_of place given index) c
      (λ at state there over after. shows-stamp file attr (replies.File (kept.Read (Some attr) counted eof given)) state.mark is (ap object_of asked) refl at over after) t

  sees-so : (file : List ℕ) (attr : Attr) (counted : ℕ) (eof : Bool) (given : List ℕ) (place count : ℕ) (c : Pages)
      → came ≡ Ok (replies.File (kept.Read (Some attr) counted eof given)) → call ≡ calls.File (files.Read file place count) → T c → T (saw file (stamp_of attr) sent.moment c)
  sees-so file attr counted eof given place count c is asked t =
      marked-saw (SeenAfter wcc_ h o f) f k file (stamp_of attr) sent.moment c
      (λ at state there over after. shows-stamp file attr (replies.File (kept.Read (Some attr) counted eof given)) state.mark is (ap object_of asked) refl at over after) t

  -- its own WRITE or SETATTR leads from a stamp to another
  answered-as : (asked : Call) (reply : Reply) → came ≡ Ok reply → call ≡ asked → IsAnswered h 0 (length h) asked reply
  answered-as asked reply is same = let t = told reply is in from-start h t.since asked reply (subst (λ (q : Call). IsAnswered h t.since (length h) q reply) same t.answered)

  pub fed-after : FedLaws T call came sent turn
  fed-after = record {
    drops = drops-so;
    opens = opens-so;
    knows = knows-so;
    sees = sees-so;
    offers = offers-so;
    writes = λ file offset how bytes wcc count committed verf c is asked t.
        marked-wrote (SeenAfter wcc_ h o f) f k file wcc offset (take count bytes) (turn.moment - 1) c late
        (λ old attr at before after had.
        written old (stamp_of attr) offset count bytes had (record {
          how = how;
          committed = committed;
          wcc = wcc;
          verf = verf;
          answered = answered-as (calls.File (files.Write f offset how bytes)) (replies.File (kept.Write wcc count committed verf)) is
              (asked ∙ ap (λ (g : List ℕ). calls.File (files.Write g offset how bytes)) (sym at));
          leads = record { attr = attr; before = before; after = after; is = refl };
        })) t;
    cuts = λ file wcc size c is asked t.
        marked-cut (SeenAfter wcc_ h o f) f k file wcc size (turn.moment - 1) c late
        (λ old attr at before after had.
        cut old (stamp_of attr) size had (record {
          set = _;
          guard = None;
          wcc = wcc;
          answered = answered-as (size_call f size) (replies.File (kept.SetAttr wcc)) is (asked ∙ ap (λ (g : List ℕ). size_call g size) (sym at));
          is = refl;
          leads = record { attr = attr; before = before; after = after; is = refl };
        })) t;
  }
