-- What a read has found at each step and what it answers, as `proofs.current.ReadStory`; with what is known of the views in which its own bytes were pending.
use Rattle.core_session.proofs.Prelude.{◌≡◌, ◌<◌, ◌≤◌, ◌+◌, ◌-◌, ◌/◌, ◌||◌, ◌==◌, ◌⊎◌, inl, inr, ℕ, zero, suc, not, Bool, true, false, nat_le, List, ◌++◌, length, take, slice_get, Option, Some, None, Result, Ok, Err, refl, sym, ap, subst, ◌∙◌, arith, if◌then◌else◌, cases_lt, eqb-true, nat_tests, length-take, length-drop, slice_get-get_or, slice_get_within, Attr, Stamp, FileKept, start_of, Pages, page_of, known_of, after_page, Pending, of_file, newest_at, last_end, end-some, EachSound, Answer, Fault, Entry, Call, Reply, Op, Modes, IsOf, Step, Repeat, Shelf, Turn, Found, Phase, Reading, place_after, is_whole, nothing_of, Gathered, was_pending, shown_over, part, refusal, said_to, said_by, breaks_rule, PagesOpened, opened_pages, got_by, Machine, Setup, View, ThenOf, IsAnswered, IsPage, RecentThen, IsFound, in_page, in_reply, IsEnd, by_known, by_page, by_reply, PhaseAwaits, Good, quiet-good, HasOr, HasPassed}
use Rattle.std.proofs.Common.{◌*◌, ◌%◌, min, nat_lt, IsSome}
use Rattle.std.proofs.lemmas.List.{length-append}
use Rattle.file_ops.specs.Base.{Bytes, with_more}
use Rattle.file_ops.specs.Overlaid.{PendingThen, bytes_from}
use Rattle.core_answers.proofs.pages.ReadBytes.{get-drop, get-taken, InPart, get-joined}
use Rattle.std.specs.Int.{div_ceil}
use Rattle.std.proofs.lemmas.Grind.{div_ceil_times}
use Rattle.std.proofs.lemmas.Nat.{div-add-mod'}
use Rattle.xdr_codec.specs.declared.blob.Memory as memory
use Rattle.nfs_file_calls.specs.declared.call.FileCall.TheVariants as file_calls
use Rattle.nfs_file_calls.specs.declared.owned.FileKept.TheVariants as kept
use Rattle.world_model.specs.declared.answer.Answer.TheVariants as answers
use Rattle.world_model.specs.declared.answer.Fault.TheVariants as faults
use Rattle.world_model.specs.declared.answer.Value.TheVariants as values
use Rattle.world_model.specs.declared.message.Call.TheVariants as calls
use Rattle.world_model.specs.declared.message.Reply.TheVariants as replies
use Rattle.client_shelf.specs.declared.step.Step.TheVariants as nexts
use Rattle.file_ops.specs.declared.gather.Found.TheVariants as founds
use Rattle.file_ops.specs.declared.reading.Phase.TheVariants as phases
use Rattle.file_ops.specs.Gather as gather
use Rattle.file_ops.specs.Reading as reading
use Rattle.core_session.proofs.shown.Answer.{OwnByte, OwnPast, IsShown, own, served, empty, ReadShown}
use Rattle.core_session.proofs.current.FedPages.{got-is, gathered-pages as gathered-shown}
use Rattle.core_session.proofs.current.Keeping.{WasTaken}
use Rattle.core_answers.proofs.pages.PagesShown.{kept-of}
use Rattle.core_answers.proofs.pages.ReadStory.{page-fits}
use Rattle.core_session.proofs.current.ReadMarks.{past}
use Rattle.core_session.proofs.current.ReadOver.{IsOver, pending_now, pending_then, below, over-all, over-long, over-most, over-past}

or-left : (a b : Bool) → (a || b) ≡ false → a ≡ false
or-left true b e = absurd cc
or-left false b e = refl

none-past : (xs : List ℕ) (k : ℕ) → slice_get xs k ≡ None → length xs ≤ k
none-past xs k is = by (cases_lt k (length xs))
  where
    by : (k < length xs) ⊎ (length xs ≤ k) → length xs ≤ k
    by (inl lt) = absurd (let no_way = sym is ∙ slice_get-get_or xs k 0 lt in cc)
    by (inr le) = le

same-bytes : (a b : List ℕ) → answers.Done (values.Bytes a) ≡ answers.Done (values.Bytes b) → a ≡ b
same-bytes a b e = cc

-- ---- what is found

or-cases : (a b : Bool) → (a || b) ≡ true → (a ≡ true) ⊎ (b ≡ true)
or-cases true b e = inl refl
or-cases false b e = inr e

module _ (initial : Pages) (modes : Modes) (h : List Entry) (x : ℕ) (file : List ℕ) where
  -- what is known of the kept pages where the read looks at them
  abbrev pub GoodFor : Pages → Type 0
  GoodFor c = Good initial h c × ((stamp : Stamp) → known_of file c ≡ Some stamp → RecentThen modes h x file stamp)

  abbrev pub FoundBase : Bytes → Type 0
  FoundBase b = (k v : ℕ) → slice_get b.bytes k ≡ Some v → IsFound initial modes h x file (b.start + k) v

  -- they are all, or the file ends where they do
  abbrev pub EndsSo : Bytes → Type 0
  EndsSo b = (b.limit ≤ length b.bytes) ⊎ IsEnd initial modes h x file (place_after b)

  pub end-later : (a b : ℕ) → a ≤ b → IsEnd initial modes h x file a → IsEnd initial modes h x file b
  end-later a b le (by_known stamp r low) = by_known stamp r (omega (arith, le, low))
  end-later a b le (by_page stamp index page is r short low) = by_page stamp index page is r short (omega (arith, le, low))
  end-later a b le (by_reply since offset count counted attr given after answered low) = by_reply since offset count counted attr given after answered (omega (arith, le, low))

  place-as : (a b v : ℕ) → a ≡ b → IsFound initial modes h x file a v → IsFound initial modes h x file b v
  place-as a b v is f = subst (λ (p : ℕ). IsFound initial modes h x file p v) is f

  pub more-found : (more : List ℕ) (b : Bytes) → FoundBase b → ((at v : ℕ) → slice_get more at ≡ Some v → IsFound initial modes h x file (place_after b + at) v) → FoundBase (with_more more b)
  more-found more b old new k v is = by (get-joined b.bytes (take (b.limit - length b.bytes) more) k v is)
    where
      by : InPart b.bytes (take (b.limit - length b.bytes) more) k v → IsFound initial modes h x file (b.start + k) v
      by (inl e) = old k v e
      by (inr e) =
          let at = e.1 in
          place-as (place_after b + e.0) (b.start + k) v (omega (arith, at)) (new e.0 v (get-taken (b.limit - length b.bytes) more e.0 v e.2))

  -- they end with all of these, or are as many as they may be
  pub more-ends : (more : List ℕ) (b : Bytes) → IsEnd initial modes h x file (place_after b + length more) → EndsSo (with_more more b)
  more-ends more b end = by (cases_lt (length more) (b.limit - length b.bytes))
    where
      joined : length (b.bytes ++ take (b.limit - length b.bytes) more) ≡ length b.bytes + length (take (b.limit - length b.bytes) more)
      joined = length-append b.bytes (take (b.limit - length b.bytes) more)

      cut : length (take (b.limit - length b.bytes) more) ≡ min (b.limit - length b.bytes) (length more)
      cut = length-take (b.limit - length b.bytes) more

      by : (length more < b.limit - length b.bytes) ⊎ (b.limit - length b.bytes ≤ length more) → EndsSo (with_more more b)
      by (inl less) = inr (end-later (place_after b + length more) (place_after (with_more more b)) (omega (arith, joined, cut, less)) end)
      by (inr most) = inl (omega (arith, joined, cut, most))

  -- the bytes begin at a page, and end at one at the most
  pub record IsFramed (b : Bytes) : Type 0 where
    pub first : ℕ
    pub last : ℕ
    pub start : b.start ≡ first * 4096
    pub limit : b.limit ≡ last * 4096

  -- and so many are whole pages
  abbrev pub Aligned : Bytes → Type 0
  Aligned b = (count : ℕ) × (length b.bytes ≡ count * 4096)

  pub framed-as : (a b : Bytes) → b.start ≡ a.start → b.limit ≡ a.limit → IsFramed a → IsFramed b
  framed-as a b s l f = record { first = f.first; last = f.last; start = s ∙ f.start; limit = l ∙ f.limit }

  abbrev pub AlignedIn : Phase → Bytes → Type 0
  AlignedIn phases.Attrs b = Aligned b
  AlignedIn phases.AskedAttrs b = Aligned b
  AlignedIn phases.Pages b = Aligned b
  AlignedIn phases.Rest b = Unit {0}
  AlignedIn (phases.Asked count) b = Unit {0}
  AlignedIn phases.Ended b = EndsSo b

  -- ---- pages that are taken

  -- after so many pages, each of which was whole
  abbrev OkBy : ℕ → Found → Bytes → Type 0
  OkBy n founds.Page b = FoundBase b × Aligned b × (n * 4096 ≤ length b.bytes)
  OkBy n founds.Wanted b = FoundBase b × Aligned b
  OkBy n founds.Ended b = FoundBase b × EndsSo b

  abbrev OkGathered : ℕ → ℕ → ℕ → Gathered → Type 0
  OkGathered n start limit g = (g.base.start ≡ start) × (g.base.limit ≡ limit) × OkBy n g.found g.base

  page-place : (b : Bytes) → IsFramed b → Aligned b → start_of (gather.next_page b) ≡ place_after b
  page-place b f a =
      let whole = div-add-mod' (place_after b) 4096 in
      let start = f.start in
      let long = a.1 in
      let place : place_after b ≡ (f.first + a.0) * 4096 = omega (arith, start, long) in
      omega (arith, whole, place)

  page-found : (b : Bytes) → IsFramed b → Aligned b → (stamp : Stamp) (page : List ℕ) → IsPage initial h file stamp (gather.next_page b) page → RecentThen modes h x file stamp → FoundBase b
      → FoundBase (with_more page b)
  page-found b f a stamp page is r old =
      more-found page b old (λ at v there.
      in_page stamp (gather.next_page b) at page is r there (let place = page-place b f a in omega (arith, place)))

  page-long : (b : Bytes) → IsFramed b → Aligned b → (page : List ℕ) → length page ≡ 4096 → length b.bytes < b.limit → length (with_more page b).bytes ≡ length b.bytes + 4096
  page-long b f a page whole short =
      let joined = length-append b.bytes (take (b.limit - length b.bytes) page) in
      let cut = length-take (b.limit - length b.bytes) page in
      let long = a.1 in
      let limit = f.limit in
      omega (arith, joined, cut, whole, long, limit, short)

  module _ (b : Bytes) (c : Pages) (framed : IsFramed b) (aligned : Aligned b) (found : FoundBase b) (good : GoodFor c) (short : length b.bytes < b.limit) (n : ℕ)
      (before : n * 4096 ≤ length b.bytes) where
    page-by : (page : List ℕ) → page_of file (gather.next_page b) c ≡ Some page → (less : Bool) → nat_lt (length page) 4096 ≡ less
        → OkBy (suc n) (if less then founds.Ended else founds.Page) (with_more page b)
    page-by page is true e =
        let k = kept-of initial h c file (gather.next_page b) page is good.0 in
        let r = good.1 k.stamp k.known in
        let place = page-place b framed aligned in
        let less : length page < 4096 = grind (arith, nat_tests) in
        (page-found b framed aligned k.stamp page k.page r found, more-ends page b (by_page k.stamp (gather.next_page b) page k.page r less (omega (arith, place))))
    page-by page is false e =
        let k = kept-of initial h c file (gather.next_page b) page is good.0 in
        let r = good.1 k.stamp k.known in
        let fits = page-fits initial h file k.stamp (gather.next_page b) page k.page in
        let most : 4096 ≤ length page = grind (arith, nat_tests) in
        let long = page-long b framed aligned page (omega (arith, fits, most)) short in
        let count = aligned.1 in
        (page-found b framed aligned k.stamp page k.page r found, (aligned.0 + 1, omega (arith, long, count)), omega (arith, long, before))

    page-ok : (o : Option (List ℕ)) → page_of file (gather.next_page b) c ≡ o → OkBy (suc n) (gather.found_of o) (gather.base_with o b)
    page-ok None is = (found, aligned)
    page-ok (Some page) is = page-by page is (nat_lt (length page) 4096) refl

    with-start : (o : Option (List ℕ)) → (gather.base_with o b).start ≡ b.start
    with-start None = refl
    with-start (Some page) = refl

    with-limit : (o : Option (List ℕ)) → (gather.base_with o b).limit ≡ b.limit
    with-limit None = refl
    with-limit (Some page) = refl

  -- they are whole, or the file is known to end
  past-ends : (b : Bytes) (c : Pages) → GoodFor c → (is_whole b || gather.is_past (known_of file c) (place_after b)) ≡ true → EndsSo b
  past-ends b c good e = by (or-cases (is_whole b) (gather.is_past (known_of file c) (place_after b)) e)
    where
      known : (o : Option Stamp) → known_of file c ≡ o → gather.is_past o (place_after b) ≡ true → EndsSo b
      known None is past = absurd cc
      known (Some stamp) is past = inr (by_known stamp (good.1 stamp is) (grind (arith, nat_tests)))

      by : (is_whole b ≡ true) ⊎ (gather.is_past (known_of file c) (place_after b) ≡ true) → EndsSo b
      by (inl whole) = inl (grind (arith, nat_tests))
      by (inr past) = known (known_of file c) refl past

  taken-ok : (n : ℕ) (b : Bytes) (c : Pages) → IsFramed b → Aligned b → FoundBase b → GoodFor c → n * 4096 ≤ length b.bytes → OkGathered (suc n) b.start b.limit (gather.taken file b c)
  taken-ok n b c framed aligned found good before = by (is_whole b || gather.is_past (known_of file c) (place_after b)) refl
    where
      o : Option (List ℕ)
      o = page_of file (gather.next_page b) c

      by : (y : Bool) → (is_whole b || gather.is_past (known_of file c) (place_after b)) ≡ y
          → OkGathered (suc n) b.start b.limit (if y then record { found = founds.Ended; base = b; pages = c } else record {
            found = gather.found_of o;
            base = gather.base_with o b;
            pages = after_page file (gather.next_page b) c;
          })
      by true e = (refl, refl, (found, past-ends b c good e))
      by false e =
          let not_whole : nat_le b.limit (length b.bytes) ≡ false = or-left (is_whole b) (gather.is_past (known_of file c) (place_after b)) e in
          let short : length b.bytes < b.limit = grind (arith, nat_tests) in
          (with-start b c framed aligned found good short n before o, with-limit b c framed aligned found good short n before o, page-ok b c framed aligned found good short n before o refl)

  then-ok : (n start limit : ℕ) (g : Gathered) (f : Found) → g.found ≡ f → OkGathered n start limit g → IsFramed g.base → GoodFor g.pages → OkGathered (suc n) start limit (gather.then_taken file g f)
  then-ok n start limit g founds.Page is ok framed good =
      let three : FoundBase g.base × Aligned g.base × (n * 4096 ≤ length g.base.bytes) = subst (λ (f : Found). OkBy n f g.base) is ok.2 in
      let t = taken-ok n g.base g.pages framed three.1 three.0 good three.2 in
      (t.0 ∙ ok.0, t.1 ∙ ok.1, t.2)
  then-ok n start limit g founds.Ended is ok framed good = (ok.0, ok.1, subst (λ (f : Found). OkBy (suc n) f g.base) (sym is) (subst (λ (f : Found). OkBy n f g.base) is ok.2))
  then-ok n start limit g founds.Wanted is ok framed good = (ok.0, ok.1, subst (λ (f : Found). OkBy (suc n) f g.base) (sym is) (subst (λ (f : Found). OkBy n f g.base) is ok.2))

  -- pages that are shown go to the front, and that is all
  shown-good : (index : ℕ) (c : Pages) → Good initial h (after_page file index c) → GoodFor c → GoodFor (after_page file index c)
  shown-good index c good g = (good, g.1)

  gathered-good : (n : ℕ) (b : Bytes) (c : Pages) → GoodFor c → GoodFor (gather.gathered file n b c).pages
  gathered-good n b c g = gathered-shown GoodFor (λ f index d good. ((quiet-good initial h).shows f index d good.0, good.1)) file n b c g

  gathered-ok : (n : ℕ) (b : Bytes) (c : Pages) → IsFramed b → Aligned b → FoundBase b → GoodFor c → OkGathered n b.start b.limit (gather.gathered file n b c)
  gathered-ok zero b c framed aligned found good = (refl, refl, (found, aligned, omega arith))
  gathered-ok (suc n) b c framed aligned found good =
      let g = gather.gathered file n b c in
      let before = gathered-ok n b c framed aligned found good in
      then-ok n b.start b.limit g g.found refl before (framed-as b g.base before.0 before.1 framed) (gathered-good n b c good)

  pub ok-found : (n : ℕ) (f : Found) (b : Bytes) → OkBy n f b → FoundBase b
  ok-found n founds.Page b ok = ok.0
  ok-found n founds.Wanted b ok = ok.0
  ok-found n founds.Ended b ok = ok.0

  -- more pages than there are, each whole, are all
  pub ok-aligned : (n : ℕ) (f : Found) (b : Bytes) → b.limit ≤ n * 4096 → OkBy n f b → AlignedIn (reading.phase_of f) b
  ok-aligned n founds.Page b all ok = let many = ok.2 in inl (omega (arith, all, many))
  ok-aligned n founds.Ended b all ok = ok.1
  ok-aligned n founds.Wanted b all ok = ok.1

-- ---- a read

module _ (mo : ℕ → Op → Machine) (setup : Setup) (modes : Modes) (I : List Entry → View → Type 0) (sound : (h : List Entry) (v : View) → I h v → EachSound v.shelf.back) where
  -- this was pending in a view through which the core passed
  pub record HadBack (h : List Entry) (x : ℕ) (back : Pending) : Type 0 where
    pub shelf : Shelf
    pub passed : HasPassed mo setup I h x shelf
    pub same : shelf.back ≡ back

  pub record WasThen (h : List Entry) (x : ℕ) (file : List ℕ) (offset count : ℕ) (was : PendingThen) : Type 0 where
    pub back : Pending
    pub passed : HadBack h x back
    pub at : length passed.passed.before ≡ x
    pub is : was ≡ was_pending file offset count back

  -- they may reach as far as was asked for
  abbrev pub Reaches : ℕ → ℕ → Bytes → Type 0
  Reaches offset count b = (count ≡ 0) ⊎ (offset + count ≤ b.start + b.limit)

  pub record ReadAt (h : List Entry) (x : ℕ) (op : Op) (offset count : ℕ) (r : Reading) : Type 0 where
    pub of : IsOf modes h x op r.file
    pub at : r.offset ≡ offset
    pub space : r.space ≡ count
    pub was : WasThen h x r.file offset count r.was
    pub start : r.base.start ≤ offset
    pub reaches : Reaches offset count r.base
    pub framed : IsFramed setup.pages modes h x r.file r.base
    pub base : FoundBase setup.pages modes h x r.file r.base
    pub aligned : AlignedIn setup.pages modes h x r.file r.phase r.base

  -- the same in another phase
  pub in-phase : (h : List Entry) (x : ℕ) (op : Op) (offset count : ℕ) (r : Reading) (phase : Phase) → ReadAt h x op offset count r → AlignedIn setup.pages modes h x r.file phase r.base
      → ReadAt h x op offset count (record r { phase = phase })
  in-phase h x op offset count r phase a aligned =
      record { of = a.of; at = a.at; space = a.space; was = a.was; start = a.start; reaches = a.reaches; framed = a.framed; base = a.base; aligned = aligned }

  abbrev pub Answered : List Entry → ℕ → Op → ℕ → ℕ → Answer → Type 0
  Answered h x op offset count answer = (bytes : List ℕ) → answer ≡ answers.Done (values.Bytes bytes) → ReadShown setup.pages I modes h x op offset count bytes

  module _ (h : List Entry) (x : ℕ) (op : Op) (offset count : ℕ) where
    own-of : (file : List ℕ) (back : Pending) (place v : ℕ) → HadBack h x back → newest_at (of_file file back).segments place ≡ Some v → OwnByte I h x file place v
    own-of file back place v p is = record {
      before = p.passed.before;
      after = p.passed.after;
      is = p.passed.is;
      late = p.passed.late;
      view = p.passed.view;
      good = p.passed.good;
      pending = ap (λ (b : Pending). newest_at (of_file file b).segments place) (ap (λ (s : Shelf). s.back) p.passed.same ∙ p.same) ∙ is;
    }

    past-of : (file : List ℕ) (back : Pending) (place e : ℕ) → HadBack h x back → last_end (of_file file back).segments ≡ Some e → place < e → newest_at (of_file file back).segments place ≡ None
        → OwnPast I h x file place
    past-of file back place e p ends low clear =
        let same : p.passed.view.shelf.back ≡ back = ap (λ (s : Shelf). s.back) p.passed.same ∙ p.same in
        let last = end-some (of_file file p.passed.view.shelf.back) e (sound p.passed.before p.passed.view p.passed.good file) (ap (λ (b : Pending). last_end (of_file file b).segments) same ∙ ends) in
        let none : newest_at (of_file file p.passed.view.shelf.back).segments place ≡ None = ap (λ (b : Pending). newest_at (of_file file b).segments place) same ∙ clear in
        by last.some none (newest_at (of_file file p.passed.view.shelf.back).segments (e - 1)) refl last.last
      where
        by : 0 < e → newest_at (of_file file p.passed.view.shelf.back).segments place ≡ None → (o : Option ℕ) → newest_at (of_file file p.passed.view.shelf.back).segments (e - 1) ≡ o → IsSome o
            → OwnPast I h x file place
        by some none None is no_byte = absurd (let no_way : false ≡ true = no_byte in cc)
        by some none (Some byte) is has = record {
          before = p.passed.before;
          after = p.passed.after;
          is = p.passed.is;
          late = p.passed.late;
          view = p.passed.view;
          good = p.passed.good;
          q = e - 1;
          byte = byte;
          past = apart (cases_lt place (e - 1));
          there = is;
        }
          where
            apart : (place < e - 1) ⊎ (e - 1 ≤ place) → place < e - 1
            apart (inl less) = less
            apart (inr most) =
                let at : e - 1 ≡ place = omega (arith, some, low, most) in
                absurd (let no_way : Some byte ≡ None = sym is ∙ ap (λ (n : ℕ). newest_at (of_file file p.passed.view.shelf.back).segments n) at ∙ none in cc)

    -- what was found is all, or the file ends with it
    ends-of : (r : Reading) → ReadAt h x op offset count r → EndsSo setup.pages modes h x r.file r.base → (count ≤ length (bytes_from r.offset r.base)) ⊎ IsEnd setup.pages modes h x r.file (offset + length (bytes_from r.offset r.base))
    ends-of r a (inl whole) = by a.reaches
      where
        by : Reaches offset count r.base → (count ≤ length (bytes_from r.offset r.base)) ⊎ IsEnd setup.pages modes h x r.file (offset + length (bytes_from r.offset r.base))
        by (inl none) = inl (omega (arith, none))
        by (inr far) =
            let at = a.at in
            let start = a.start in
            let long = length-drop (r.offset - r.base.start) r.base.bytes in
            inl (omega (arith, at, start, far, long, whole))
    ends-of r a (inr end) =
        let at = a.at in
        let start = a.start in
        let long = length-drop (r.offset - r.base.start) r.base.bytes in
        inr (end-later setup.pages modes h x r.file (place_after r.base) (offset + length (bytes_from r.offset r.base)) (omega (arith, at, start, long)) end)

    shown-of : (r : Reading) (back : Pending) → ReadAt h x op offset count r → EndsSo setup.pages modes h x r.file r.base → HadBack h x back → ReadShown setup.pages I modes h x op offset count (reading.answer_of r back)
    shown-of r back a so passed = record { file = r.file; of = a.of; server = server; found = found; ends = ends-of r a so; long = long; most = most; each = each }
      where
        server : List ℕ
        server = bytes_from r.offset r.base

        found : (k v : ℕ) → slice_get server k ≡ Some v → IsFound setup.pages modes h x r.file (offset + k) v
        found k v is =
            let at = a.at in
            let start = a.start in
            place-as setup.pages modes h x r.file (r.base.start + (r.offset - r.base.start + k)) (offset + k) v (omega (arith, at, start))
            (a.base (r.offset - r.base.start + k) v (sym (get-drop (r.offset - r.base.start) r.base.bytes k) ∙ is))

        same : reading.answer_of r back ≡ shown_over r.file offset count server (was_pending r.file offset count a.was.back) back
        same = λ i. shown_over r.file (a.at i) (a.space i) server (a.was.is i) back

        long : (length (reading.answer_of r back) ≡ count) ⊎ (length server ≤ length (reading.answer_of r back))
        long = subst (λ (bs : List ℕ). (length bs ≡ count) ⊎ (length server ≤ length bs)) (sym same) (over-long r.file offset count server a.was.back back)

        most : length (reading.answer_of r back) ≤ count
        most = subst (λ (bs : List ℕ). length bs ≤ count) (sym same) (over-most r.file offset count server a.was.back back)

        each : (k v : ℕ) → slice_get (reading.answer_of r back) k ≡ Some v → IsShown I h x r.file server k (offset + k) v
        each k v is = by (over-all r.file offset count server a.was.back back k v shown_at)
          where
            shown_at : slice_get (shown_over r.file offset count server (was_pending r.file offset count a.was.back) back) k ≡ Some v
            shown_at = subst (λ (bs : List ℕ). slice_get bs k ≡ Some v) same is

            under : newest_at (of_file r.file a.was.back).segments (offset + k) ≡ None → newest_at (of_file r.file back).segments (offset + k) ≡ None → HasOr server k v
                → IsShown I h x r.file server k (offset + k) v
            under none_then none_now (inl e) = served e
            under none_then none_now (inr e) =
                let past = none-past server k e.1 in
                by_end past
                (over-past r.file offset count server a.was.back back k
                (slice_get_within (shown_over r.file offset count server (was_pending r.file offset count a.was.back) back) k v shown_at) past)
              where
                by_end : length server ≤ k → ((q : ℕ) × (last_end (of_file r.file a.was.back).segments ≡ Some q) × (offset + k < q)) ⊎ ((q : ℕ) × (last_end (of_file r.file back).segments ≡ Some q) × (offset + k < q))
                    → IsShown I h x r.file server k (offset + k) v
                by_end past (inl q) = empty e.0 past (past-of r.file a.was.back (offset + k) q.0 a.was.passed q.1 q.2 none_then)
                by_end past (inr q) = empty e.0 past (past-of r.file back (offset + k) q.0 passed q.1 q.2 none_now)

            by : IsOver r.file a.was.back back server k (offset + k) v → IsShown I h x r.file server k (offset + k) v
            by (pending_now e) = own (own-of r.file back (offset + k) v passed e)
            by (pending_then e) = own (own-of r.file a.was.back (offset + k) v a.was.passed e)
            by (below none_then none_now e) = under none_then none_now e

    -- ---- steps

    abbrev Goes : Step → Reading → Type 0
    Goes next r = ThenOf (ReadAt h x op offset count) (Answered h x op offset count) next r

    goes-as : (to next : Step) (state new : Reading) → next ≡ to → new ≡ state → Goes to state → Goes next new
    goes-as to next state new is at g = subst (λ n. Goes n new) (sym is) (subst (λ s. Goes to s) (sym at) g)

    stays : (p : Phase) (r : Reading) (back : Pending) (next : Step) → r.phase ≡ p → ReadAt h x op offset count r → HadBack h x back → reading.Stays p r back next
        → Goes next (reading.answered p r)
    stays phases.Attrs r back next in_ a passed is = goes-as nexts.Wait next r r is refl a
    stays phases.AskedAttrs r back next in_ a passed is = goes-as nexts.Wait next r r is refl a
    stays phases.Pages r back next in_ a passed is = goes-as nexts.Wait next r r is refl a
    stays phases.Rest r back next in_ a passed is = goes-as nexts.Wait next r r is refl a
    stays (phases.Asked size) r back next in_ a passed is = goes-as nexts.Wait next r r is refl a
    stays phases.Ended r back next in_ a passed is =
        goes-as (reading.shown_next (reading.answer_of r back)) next (record r { space = 0 }) (record r { space = 0 }) is refl
        (λ bytes same. subst (λ (bs : List ℕ). ReadShown setup.pages I modes h x op offset count bs) (same-bytes (reading.answer_of r back) bytes same)
        (shown-of r back a (subst (λ (p : Phase). AlignedIn setup.pages modes h x r.file p r.base) in_ a.aligned) passed))

    asks-aligned : (p : Phase) (file : List ℕ) (b : Bytes) → reading.asks_attrs p ≡ true → AlignedIn setup.pages modes h x file p b → Aligned setup.pages modes h x file b
    asks-aligned phases.Attrs file b is a = a
    asks-aligned phases.AskedAttrs file b is a = absurd cc
    asks-aligned phases.Pages file b is a = absurd cc
    asks-aligned phases.Rest file b is a = absurd cc
    asks-aligned (phases.Asked size) file b is a = absurd cc
    asks-aligned phases.Ended file b is a = absurd cc

    abbrev OfState : reading.State → Type 0
    OfState s = ReadAt h x op offset count s.reading

    asked-at : (b : Bool) (s : reading.State) → reading.asks_attrs s.reading.phase ≡ b → OfState s
        → OfState (if b then record { reading = record s.reading { phase = phases.AskedAttrs }; pages = s.pages } else reading.asked_part s)
    asked-at true s is a = in-phase h x op offset count s.reading phases.AskedAttrs a (asks-aligned s.reading.phase s.reading.file s.reading.base is a.aligned)
    asked-at false s is a = in-phase h x op offset count s.reading _ a tt

    abbrev GoesTo : Step → reading.State → Type 0
    GoesTo next s = Goes next s.reading

    goes-if : (b : Bool) (back : Pending) (s : reading.State) (next : Step) → OfState s → HadBack h x back → reading.GoesIf b back s next
        → GoesTo next (if b then reading.asked s else record { reading = reading.answered s.reading.phase s.reading; pages = s.pages })
    goes-if true back s next a passed g =
        goes-as (nexts.Send (reading.asked_call s)) next (reading.asked s).reading (reading.asked s).reading g refl (asked-at (reading.asks_attrs s.reading.phase) s refl a)
    goes-if false back s next a passed g = stays s.reading.phase s.reading back next refl a passed g

    pub goes-on : (room : Bool) (back : Pending) (s : reading.State) (next : Step) → OfState s → HadBack h x back → reading.Goes room back s next
        → Goes next (reading.gone room s).reading
    goes-on room back s next a passed g = goes-if (reading.asks room s) back s next a passed g

    reaches-as : (b c : Bytes) → c.start ≡ b.start → c.limit ≡ b.limit → Reaches offset count b → Reaches offset count c
    reaches-as b c start limit (inl none) = inl none
    reaches-as b c start limit (inr far) = inr (omega (arith, start, limit, far))

    settled-in : (p : Phase) (r : Reading) (c : Pages) → r.phase ≡ p → (past p ≡ true → GoodFor setup.pages modes h x r.file c) → ReadAt h x op offset count r → OfState (reading.settled_in p r c)
    settled-in phases.Attrs r c is good a = a
    settled-in phases.AskedAttrs r c is good a = a
    settled-in phases.Pages r c is good a =
        let aligned : Aligned setup.pages modes h x r.file r.base = subst (λ (p : Phase). AlignedIn setup.pages modes h x r.file p r.base) is a.aligned in
        let n = r.base.limit / 4096 + 1 in
        let g = gather.gathered r.file n r.base c in
        let ok = gathered-ok setup.pages modes h x r.file n r.base c a.framed aligned a.base (good refl) in
        let parts = div-add-mod' r.base.limit 4096 in
        let limit = ok.1 in
        record {
          of = a.of;
          at = a.at;
          space = a.space;
          was = a.was;
          start = let s = ok.0 in let was = a.start in omega (arith, s, was);
          reaches = reaches-as r.base g.base ok.0 limit a.reaches;
          framed = framed-as setup.pages modes h x r.file r.base g.base ok.0 ok.1 a.framed;
          base = ok-found setup.pages modes h x r.file n g.found g.base ok.2;
          aligned = ok-aligned setup.pages modes h x r.file n g.found g.base (let framed = a.framed.limit in omega (arith, limit, parts, framed)) ok.2;
        }
    settled-in phases.Rest r c is good a = a
    settled-in (phases.Asked size) r c is good a = a
    settled-in phases.Ended r c is good a = a

    pub from-settled : (room : Bool) (back : Pending) (r : Reading) (c : Pages) (next : Step) (new : reading.State) → ReadAt h x op offset count r → (past r.phase ≡ true → GoodFor setup.pages modes h x r.file c) → HadBack h x back
        → reading.Goes room back (reading.settled r c) next → new ≡ reading.gone room (reading.settled r c) → Goes next new.reading
    from-settled room back r c next new a good passed g is =
        goes-as next next (reading.gone room (reading.settled r c)).reading new.reading refl (ap (λ (s : reading.State). s.reading) is)
        (goes-on room back (reading.settled r c) next (settled-in r.phase r c refl good a) passed g)

    again-read : (again : Bool) (call : Call) (fault : Fault) (r : Reading) (c : Pages) (next : Step) (new : reading.State) → ReadAt h x op offset count r
        → next ≡ reading.again_next again call fault → new ≡ record { reading = r; pages = c } → Goes next new.reading
    again-read true call fault r c next new a is same = goes-as (nexts.Send call) next r new.reading is (ap (λ (s : reading.State). s.reading) same) a
    again-read false call fault r c next new a is same =
        goes-as (reading.refused fault) next r new.reading is (ap (λ (s : reading.State). s.reading) same) (λ bytes no_way. absurd cc)

    after-opened : (result : Result (Unit {0}) memory.Memory) (turn : Turn) (r : Reading) (c : Pages) (back : Pending) (next : Step) (new : reading.State) → ReadAt h x op offset count r
        → Aligned setup.pages modes h x r.file r.base → (result ≡ Ok tt → GoodFor setup.pages modes h x r.file c) → HadBack h x back → reading.AfterOpened result turn r c back next new → Goes next new.reading
    after-opened (Ok tt) turn r c back next new a aligned good passed o =
        from-settled turn.room back (record r { phase = phases.Pages }) c next new (in-phase h x op offset count r phases.Pages a aligned) (λ far. good refl) passed o.0 o.1
    after-opened (Err no_memory) turn r c back next new a aligned good passed o =
        goes-as (reading.refused faults.Memory) next r new.reading o.0 (ap (λ (s : reading.State). s.reading) o.1) (λ bytes no_way. absurd cc)

    waits-aligned : (p : Phase) (file : List ℕ) (b : Bytes) → reading.waits_attrs p ≡ true → AlignedIn setup.pages modes h x file p b → Aligned setup.pages modes h x file b
    waits-aligned phases.Attrs file b is a = a
    waits-aligned phases.AskedAttrs file b is a = a
    waits-aligned phases.Pages file b is a = a
    waits-aligned phases.Rest file b is a = absurd cc
    waits-aligned (phases.Asked size) file b is a = absurd cc
    waits-aligned phases.Ended file b is a = absurd cc

    attrs-read : (told : Result Attr Fault) (again : Bool) (sent turn : Turn) (r : Reading) (c : Pages) (back : Pending) (next : Step) (new : reading.State) → ReadAt h x op offset count r
        → Aligned setup.pages modes h x r.file r.base → ((attr : Attr) (later : Pages) → told ≡ Ok attr → later ≡ opened_pages r.file attr r.moment sent turn c → GoodFor setup.pages modes h x r.file later)
        → ((attr : Attr) → told ≡ Ok attr → HadBack h x back) → reading.TakesAttrs again told sent turn r c back next new → Goes next new.reading
    attrs-read (Ok attr) again sent turn r c back next new a aligned good passed t =
        after-opened t.result turn r t.later back next new a aligned
        (λ ok. good attr t.later refl (subst (λ (z : Result (Unit {0}) memory.Memory). PagesOpened r.file attr r.moment sent turn z c t.later) ok t.opens)) (passed attr refl) t.goes
    attrs-read (Err fault) again sent turn r c back next new a aligned good passed t = again-read again (reading.attrs_call r.file) fault r c next new a t.0 t.1

    -- ---- a part

    module _ (call : Call) (came : Result Reply Fault) (sent turn : Turn) (shelf : Shelf)
        (told : (reply : Reply) → came ≡ Ok reply → WasTaken mo setup I h x call sent turn shelf reply) where
      had : (reply : Reply) → came ≡ Ok reply → HadBack h x shelf.back
      had reply is = record { shelf = shelf; passed = (told reply is).passed; same = refl }

      module _ (r : Reading) (c : Pages) (a : ReadAt h x op offset count r)
          (opened : (attr : Attr) (later : Pages) → came ≡ Ok (replies.File (kept.GetAttr attr)) → later ≡ opened_pages r.file attr r.moment sent turn c → GoodFor setup.pages modes h x r.file later)
          (noted : (attr : Option Attr) (counted : ℕ) (eof : Bool) (given : List ℕ) (size : ℕ) → came ≡ Ok (replies.File (kept.Read attr counted eof given))
          → call ≡ calls.File (file_calls.Read r.file (place_after r.base) size) → past r.phase ≡ true → GoodFor setup.pages modes h x r.file (reading.noted attr r.file sent.moment (place_after r.base) given eof c)) where
        part-aligned : (eof more : Bool) (size : ℕ) (b : Bytes) → IsFramed setup.pages modes h x r.file b → (more ≡ false → place_after b % 4096 ≡ 0) → (eof ≡ true → EndsSo setup.pages modes h x r.file b)
            → AlignedIn setup.pages modes h x r.file (if eof then phases.Ended else if more then phases.Rest else phases.Pages) b
        part-aligned true more size b framed whole ends = ends refl
        part-aligned false true size b framed whole ends = tt
        part-aligned false false size b framed whole ends =
            let place = div-add-mod' (place_after b) 4096 in
            let none = whole refl in
            let start = framed.start in
            (place_after b / 4096 - framed.first, omega (arith, place, none, start))

        ends-whole : (less : Bool) (n : ℕ) → (less || not (n == 0)) ≡ false → n ≡ 0
        ends-whole less n is = grind (arith, nat_tests)

        added-at : (attr : Option Attr) (counted : ℕ) (eof : Bool) (given : List ℕ) (size : ℕ) → came ≡ Ok (replies.File (kept.Read attr counted eof given))
            → call ≡ calls.File (file_calls.Read r.file (place_after r.base) size) → ReadAt h x op offset count (reading.added (reading.count_of r.phase) eof given r)
        added-at attr counted eof given size is asked =
            let w = told (replies.File (kept.Read attr counted eof given)) is in
            let framed = framed-as setup.pages modes h x r.file r.base (with_more given r.base) refl refl a.framed in
            let answered = subst (λ (q : Call). IsAnswered h w.since.told.since (length h) q (replies.File (kept.Read attr counted eof given))) asked w.since.told.answered in
            record {
              of = a.of;
              at = a.at;
              space = a.space;
              was = a.was;
              start = a.start;
              reaches = a.reaches;
              framed = framed;
              base = more-found setup.pages modes h x r.file given r.base a.base (λ at v there.
                  in_reply w.since.told.since (place_after r.base) size counted at attr eof given w.since.later
                  answered there refl);
              aligned = part-aligned eof (nat_lt (length given) (reading.count_of r.phase) || not (place_after (with_more given r.base) % 4096 == 0)) size (with_more given r.base) framed
                  (λ no_more. ends-whole (nat_lt (length given) (reading.count_of r.phase)) (place_after (with_more given r.base) % 4096) no_more)
                  (λ ends. more-ends setup.pages modes h x r.file given r.base
                  (by_reply w.since.told.since (place_after r.base) size counted attr given w.since.later (subst (λ (z : Bool). IsAnswered h w.since.told.since (length h) (calls.File (file_calls.Read r.file (place_after r.base) size)) (replies.File (kept.Read attr counted z given))) ends answered) (omega arith)));
            }

        part-if : past r.phase ≡ true → (b : Bool) (attr : Option Attr) (counted : ℕ) (eof : Bool) (given : List ℕ) (size : ℕ) (again : Bool) (next : Step) (new : reading.State)
            → came ≡ Ok (replies.File (kept.Read attr counted eof given)) → call ≡ calls.File (file_calls.Read r.file (place_after r.base) size)
            → reading.Tells again sent turn (if b then refusal attr (faults.Bad 5) else part attr eof given) r c shelf.back next
            → new ≡ reading.told sent turn (if b then refusal attr (faults.Bad 5) else part attr eof given) r c → Goes next new.reading
        part-if far true attr counted eof given size again next new is asked t same = again-read again (reading.part_call r) (faults.Bad 5) r c next new a t same
        part-if far false attr counted eof given size again next new is asked t same =
            from-settled turn.room shelf.back (reading.added (reading.count_of r.phase) eof given r) (reading.noted attr r.file sent.moment (place_after r.base) given eof c) next new
            (added-at attr counted eof given size is asked)
            (λ more. noted attr counted eof given size is asked far) (had (replies.File (kept.Read attr counted eof given)) is) t same

        file-part : past r.phase ≡ true → (k : FileKept) (size : ℕ) (again : Bool) (next : Step) (new : reading.State) → came ≡ Ok (replies.File k)
            → call ≡ calls.File (file_calls.Read r.file (place_after r.base) size) → reading.Tells again sent turn (said_by size (replies.File k)) r c shelf.back next
            → new ≡ reading.told sent turn (said_by size (replies.File k)) r c → Goes next new.reading
        file-part far (kept.Read attr counted eof given) size again next new is asked t same = part-if far (breaks_rule size counted eof given) attr counted eof given size again next new is asked t same
        file-part far (kept.ReadFail status attr) size again next new is asked t same = again-read again (reading.part_call r) _ r c next new a t same
        file-part far k size again next new is asked t same = again-read again (reading.part_call r) _ r c next new a t same

        part-came : past r.phase ≡ true → (what : Result Reply Fault) (size : ℕ) (again : Bool) (next : Step) (new : reading.State) → came ≡ what
            → call ≡ calls.File (file_calls.Read r.file (place_after r.base) size) → reading.Tells again sent turn (said_to size what) r c shelf.back next
            → new ≡ reading.told sent turn (said_to size what) r c → Goes next new.reading
        part-came far (Ok (replies.File k)) size again next new is asked t same = file-part far k size again next new is asked t same
        part-came far (Ok (replies.Dir k)) size again next new is asked t same = again-read again (reading.part_call r) _ r c next new a t same
        part-came far (Ok (replies.Mount k)) size again next new is asked t same = again-read again (reading.part_call r) _ r c next new a t same
        part-came far (Err fault) size again next new is asked t same = again-read again (reading.part_call r) _ r c next new a t same

        waits-still : (next : Step) (new : reading.State) → next ≡ nexts.Wait → new ≡ record { reading = r; pages = c } → Goes next new.reading
        waits-still next new is same = goes-as nexts.Wait next r new.reading is (ap (λ (s : reading.State). s.reading) same) a

        heard-part : (p : Phase) (repeats : List Repeat) (next : Step) (new : reading.State) → r.phase ≡ p → PhaseAwaits p r call
            → reading.TakesPart (reading.heard p came) sent turn repeats r c shelf.back next new → Goes next new.reading
        heard-part phases.Attrs repeats next new at asked t = waits-still next new t.0 t.1
        heard-part phases.AskedAttrs repeats next new at asked t = waits-still next new t.0 t.1
        heard-part phases.Pages repeats next new at asked t = waits-still next new t.0 t.1
        heard-part phases.Rest repeats next new at asked t = waits-still next new t.0 t.1
        heard-part (phases.Asked size) repeats next new at asked t = part-came (ap past at) came size _ next new refl asked t.0 t.1
        heard-part phases.Ended repeats next new at asked t = waits-still next new t.0 t.1

        got-ok : (what : Result Reply Fault) (attr : Attr) → came ≡ what → got_by what ≡ Ok attr → HadBack h x shelf.back
        got-ok (Ok reply) attr is got = had reply is
        got-ok (Err fault) attr is got = absurd cc

        pub takes-read : (waits : Bool) (repeats : List Repeat) (next : Step) (new : reading.State) → reading.waits_attrs r.phase ≡ waits → PhaseAwaits r.phase r call
            → reading.TakesIf waits sent turn came repeats r c shelf.back next new → Goes next new.reading
        takes-read true repeats next new is asked t =
            attrs-read (got_by came) _ sent turn r c shelf.back next new a (waits-aligned r.phase r.file r.base is a.aligned)
            (λ attr later got o. opened attr later (got-is came attr got) o) (λ attr got. got-ok came attr refl got) t
        takes-read false repeats next new is asked t = heard-part r.phase repeats next new refl asked t

-- ---- as it begins

pub framed-begins : (initial : Pages) (modes : Modes) (h : List Entry) (x : ℕ) (file : List ℕ) (offset count : ℕ) → IsFramed initial modes h x file (nothing_of offset count)
framed-begins initial modes h x file offset count = record {
  first = offset / 4096;
  last = last (count == 0);
  start = let whole = div-add-mod' offset 4096 in omega (arith, whole);
  limit = by (count == 0) refl;
}
  where
    last : Bool → ℕ
    last true = 0
    last false = div_ceil (offset % 4096 + count) 4096

    by : (b : Bool) → (count == 0) ≡ b → (if b then 0 else div_ceil (offset % 4096 + count) 4096 * 4096) ≡ last b * 4096
    by true e = refl
    by false e = refl

-- the pages that meet the range hold all of it
pub begins-reach : (offset count : ℕ) → (count ≡ 0) ⊎ (offset + count ≤ (nothing_of offset count).start + (nothing_of offset count).limit)
begins-reach offset count = by (count == 0) refl
  where
    whole : offset ≡ offset / 4096 * 4096 + offset % 4096
    whole = sym (div-add-mod' offset 4096)

    by : (b : Bool) → (count == 0) ≡ b → (count ≡ 0) ⊎ (offset + count ≤ (offset - offset % 4096) + (if b then 0 else div_ceil (offset % 4096 + count) 4096 * 4096))
    by true e = inl (eqb-true count 0 e)
    by false e =
        let far : offset % 4096 + count ≤ div_ceil (offset % 4096 + count) 4096 * 4096 = (div_ceil_times (offset % 4096 + count) 4096 (omega arith)).0 in
        inr (omega (arith, whole, far))
