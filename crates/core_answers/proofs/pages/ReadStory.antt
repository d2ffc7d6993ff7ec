-- What a read has found at each step, and what it answers.
use Rattle.core_answers.proofs.Prelude.{◌≡◌, ◌<◌, ◌≤◌, ◌+◌, ◌-◌, ◌/◌, ◌%◌, ◌||◌, ◌==◌, ◌⊎◌, inl, inr, ℕ, zero, suc, not, Bool, true, false, nat_le, List, length, take, drop, slice_get, Option, Some, None, Result, Ok, Err, refl, sym, ap, subst, ◌∙◌, arith, if◌then◌else◌, cases_lt, nat_tests, length-append, Attr, Stamp, FileKept, start_of, Pages, page_of, known_of, after_page, Pending, of_file, Answer, Fault, Entry, Call, Reply, Op, Modes, IsOf, Step, Repeat, Turn, Phase, Reading, Bytes, place_after, nothing_of, part, refusal, said_to, breaks_rule, got_by, Machine, Setup, ThenOf, IsAnswered, IsPage, IsShown}
use Rattle.std.proofs.Common.{◌*◌, nat_lt}
use Rattle.std.proofs.lemmas.List.{length-take}
use Rattle.file_ops.specs.Base.{is_whole, with_more}
use Rattle.file_ops.specs.ReadReply.{said_by}
use Rattle.core_answers.specs.pages.Read.{IsFound, in_page, in_reply, WasPending, own, served, empty, ReadShown}
use Rattle.std.specs.Int.{div_ceil}
use Rattle.std.proofs.lemmas.Nat.{div-add-mod'}
use Rattle.std.proofs.lemmas.Option.{slice_get-get_or}
use Rattle.xdr_codec.specs.declared.blob.Memory as memory
use Rattle.nfs_file_calls.specs.declared.call.FileCall.TheVariants as file_calls
use Rattle.nfs_file_calls.specs.declared.owned.FileKept.TheVariants as kept
use Rattle.page_cache.proofs.Full.{put-fits, length-cut}
use Rattle.write_back.specs.Segments.{newest_at}
use Rattle.world_model.specs.declared.answer.Answer.TheVariants as answers
use Rattle.world_model.specs.declared.answer.Fault.TheVariants as faults
use Rattle.world_model.specs.declared.answer.Value.TheVariants as values
use Rattle.world_model.specs.declared.message.Call.TheVariants as calls
use Rattle.world_model.specs.declared.message.Reply.TheVariants as replies
use Rattle.client_shelf.specs.declared.step.Step.TheVariants as nexts
use Rattle.file_ops.specs.declared.gather.Found.{Found}
use Rattle.file_ops.specs.declared.gather.Found.TheVariants as founds
use Rattle.file_ops.specs.declared.reading.Phase.TheVariants as phases
use Rattle.file_ops.specs.Gather as gather
use Rattle.file_ops.specs.Gather.{Gathered}
use Rattle.file_ops.specs.Overlaid.{PendingThen, was_pending, bytes_from, shown_over}
use Rattle.file_ops.specs.Reading as reading
use Rattle.core_answers.specs.pages.Kept as pages
use Rattle.core_answers.proofs.pages.FilePages.{ToldLaws, gathered-pages, pages-opened, noted-pages}
use Rattle.core_answers.proofs.pages.Keeping.{HasPassed, WasTaken}
use Rattle.core_answers.proofs.pages.PageCalls.{PhaseAwaits}
use Rattle.core_answers.proofs.pages.PageLaws.{Good, quiet-good}
use Rattle.core_answers.proofs.pages.PagesShown.{kept-of}
use Rattle.core_answers.proofs.pages.ReadBytes.{get-drop, get-taken, InPart, get-joined, IsOver, pending_now, pending_then, below, HasOr, over-all}

-- ---- pages

-- a page has no more bytes
pub page-fits : (initial : Pages) (h : List Entry) (file : List ℕ) (s : Stamp) (index : ℕ) (page : List ℕ) → IsPage initial h file s index page → length page ≤ 4096
page-fits initial h file _ _ _ (pages.from_start s index bytes found known fits) = fits
page-fits initial h file _ _ _ (pages.read s index bytes r) =
    let long = length-take 4096 (drop (start_of index - r.offset) r.given) in
    let is = ap length r.page in
    omega (arith, long, is)
page-fits initial h file _ _ _ (pages.written old s index offset count bytes page now had w is) =
    let fits = put-fits index offset (take count bytes) page (page-fits initial h file old index page had) in
    let same = ap length is in
    omega (arith, fits, same)
page-fits initial h file _ _ _ (pages.cut old s index size page now had w is) =
    let long = length-cut index size page in
    let same = ap length is in
    omega (arith, long, same)

or-left : (a b : Bool) → (a || b) ≡ false → a ≡ false
or-left true b e = absurd cc
or-left false b e = refl

none-past : (xs : List ℕ) (k : ℕ) → slice_get xs k ≡ None → length xs ≤ k
none-past xs k is = by (cases_lt k (length xs))
  where
    by : (k < length xs) ⊎ (length xs ≤ k) → length xs ≤ k
    by (inl lt) = absurd (let no_way = sym is ∙ slice_get-get_or xs k 0 lt in cc)
    by (inr le) = le

same-bytes : (a b : List ℕ) → answers.Done (values.Bytes a) ≡ answers.Done (values.Bytes b) → a ≡ b
same-bytes a b e = cc

-- ---- what is found

module _ (initial : Pages) (h : List Entry) (x : ℕ) (file : List ℕ) where
  abbrev pub FoundBase : Bytes → Type 0
  FoundBase b = (k v : ℕ) → slice_get b.bytes k ≡ Some v → IsFound initial h x file (b.start + k) v

  place-as : (a b v : ℕ) → a ≡ b → IsFound initial h x file a v → IsFound initial h x file b v
  place-as a b v is f = subst (λ (p : ℕ). IsFound initial h x file p v) is f

  pub more-found : (more : List ℕ) (b : Bytes) → FoundBase b → ((at v : ℕ) → slice_get more at ≡ Some v → IsFound initial h x file (place_after b + at) v) → FoundBase (with_more more b)
  more-found more b old new k v is = by (get-joined b.bytes (take (b.limit - length b.bytes) more) k v is)
    where
      by : InPart b.bytes (take (b.limit - length b.bytes) more) k v → IsFound initial h x file (b.start + k) v
      by (inl e) = old k v e
      by (inr e) =
          let at = e.1 in
          place-as (place_after b + e.0) (b.start + k) v (omega (arith, at)) (new e.0 v (get-taken (b.limit - length b.bytes) more e.0 v e.2))

  -- the bytes begin at a page, and end at one at the most
  pub record IsFramed (b : Bytes) : Type 0 where
    pub first : ℕ
    pub last : ℕ
    pub start : b.start ≡ first * 4096
    pub limit : b.limit ≡ last * 4096

  -- and so many are whole pages
  abbrev pub Aligned : Bytes → Type 0
  Aligned b = (count : ℕ) × (length b.bytes ≡ count * 4096)

  pub framed-as : (a b : Bytes) → b.start ≡ a.start → b.limit ≡ a.limit → IsFramed a → IsFramed b
  framed-as a b s l f = record { first = f.first; last = f.last; start = s ∙ f.start; limit = l ∙ f.limit }

  abbrev pub AlignedIn : Phase → Bytes → Type 0
  AlignedIn phases.Attrs b = Aligned b
  AlignedIn phases.AskedAttrs b = Aligned b
  AlignedIn phases.Pages b = Aligned b
  AlignedIn phases.Rest b = Unit {0}
  AlignedIn (phases.Asked count) b = Unit {0}
  AlignedIn phases.Ended b = Unit {0}

  -- ---- pages that are taken

  abbrev OkBy : Found → Bytes → Type 0
  OkBy founds.Page b = FoundBase b × Aligned b
  OkBy founds.Wanted b = FoundBase b × Aligned b
  OkBy founds.Ended b = FoundBase b

  abbrev OkGathered : ℕ → ℕ → Gathered → Type 0
  OkGathered start limit g = (g.base.start ≡ start) × (g.base.limit ≡ limit) × OkBy g.found g.base

  page-place : (b : Bytes) → IsFramed b → Aligned b → start_of (gather.next_page b) ≡ place_after b
  page-place b f a =
      let whole = div-add-mod' (place_after b) 4096 in
      let start = f.start in
      let long = a.1 in
      let place : place_after b ≡ (f.first + a.0) * 4096 = omega (arith, start, long) in
      omega (arith, whole, place)

  page-found : (b : Bytes) → IsFramed b → Aligned b → (stamp : Stamp) (page : List ℕ) → IsPage initial h file stamp (gather.next_page b) page → FoundBase b → FoundBase (with_more page b)
  page-found b f a stamp page is old =
      more-found page b old (λ at v there.
      in_page stamp (gather.next_page b) at page is there (let place = page-place b f a in omega (arith, place)))

  page-aligned : (b : Bytes) → IsFramed b → Aligned b → (page : List ℕ) → length page ≡ 4096 → length b.bytes < b.limit → Aligned (with_more page b)
  page-aligned b f a page whole short =
      let joined = length-append b.bytes (take (b.limit - length b.bytes) page) in
      let cut = length-take (b.limit - length b.bytes) page in
      let long = a.1 in
      let limit = f.limit in
      (a.0 + 1, omega (arith, joined, cut, whole, long, limit, short))

  module _ (b : Bytes) (c : Pages) (framed : IsFramed b) (aligned : Aligned b) (found : FoundBase b) (good : Good initial h c) (short : length b.bytes < b.limit) where
    page-by : (page : List ℕ) → page_of file (gather.next_page b) c ≡ Some page → (less : Bool) → nat_lt (length page) 4096 ≡ less
        → OkBy (if less then founds.Ended else founds.Page) (with_more page b)
    page-by page is true e = let k = kept-of initial h c file (gather.next_page b) page is good in page-found b framed aligned k.stamp page k.page found
    page-by page is false e =
        let k = kept-of initial h c file (gather.next_page b) page is good in
        let fits = page-fits initial h file k.stamp (gather.next_page b) page k.page in
        let long : 4096 ≤ length page = grind (arith, nat_tests) in
        (page-found b framed aligned k.stamp page k.page found, page-aligned b framed aligned page (omega (arith, fits, long)) short)

    page-ok : (o : Option (List ℕ)) → page_of file (gather.next_page b) c ≡ o → OkBy (gather.found_of o) (gather.base_with o b)
    page-ok None is = (found, aligned)
    page-ok (Some page) is = page-by page is (nat_lt (length page) 4096) refl

    with-start : (o : Option (List ℕ)) → (gather.base_with o b).start ≡ b.start
    with-start None = refl
    with-start (Some page) = refl

    with-limit : (o : Option (List ℕ)) → (gather.base_with o b).limit ≡ b.limit
    with-limit None = refl
    with-limit (Some page) = refl

  taken-ok : (b : Bytes) (c : Pages) → IsFramed b → Aligned b → FoundBase b → Good initial h c → OkGathered b.start b.limit (gather.taken file b c)
  taken-ok b c framed aligned found good = by (is_whole b || gather.is_past (known_of file c) (place_after b)) refl
    where
      o : Option (List ℕ)
      o = page_of file (gather.next_page b) c

      by : (y : Bool) → (is_whole b || gather.is_past (known_of file c) (place_after b)) ≡ y
          → OkGathered b.start b.limit (if y then record { found = founds.Ended; base = b; pages = c } else record {
            found = gather.found_of o;
            base = gather.base_with o b;
            pages = after_page file (gather.next_page b) c;
          })
      by true e = (refl, refl, found)
      by false e =
          let not_whole : nat_le b.limit (length b.bytes) ≡ false = or-left (is_whole b) (gather.is_past (known_of file c) (place_after b)) e in
          let short : length b.bytes < b.limit = grind (arith, nat_tests) in
          (with-start b c framed aligned found good short o, with-limit b c framed aligned found good short o, page-ok b c framed aligned found good short o refl)

  then-ok : (start limit : ℕ) (g : Gathered) (f : Found) → g.found ≡ f → OkGathered start limit g → IsFramed g.base → Good initial h g.pages → OkGathered start limit (gather.then_taken file g f)
  then-ok start limit g founds.Page is ok framed good =
      let two : FoundBase g.base × Aligned g.base = subst (λ (f : Found). OkBy f g.base) is ok.2 in
      let t = taken-ok g.base g.pages framed two.1 two.0 good in
      (t.0 ∙ ok.0, t.1 ∙ ok.1, t.2)
  then-ok start limit g founds.Ended is ok framed good = ok
  then-ok start limit g founds.Wanted is ok framed good = ok

  gathered-ok : (n : ℕ) (b : Bytes) (c : Pages) → IsFramed b → Aligned b → FoundBase b → Good initial h c → OkGathered b.start b.limit (gather.gathered file n b c)
  gathered-ok zero b c framed aligned found good = (refl, refl, (found, aligned))
  gathered-ok (suc n) b c framed aligned found good =
      let g = gather.gathered file n b c in
      let before = gathered-ok n b c framed aligned found good in
      then-ok b.start b.limit g g.found refl before (framed-as b g.base before.0 before.1 framed) (gathered-pages (Good initial h) (quiet-good initial h) file n b c good)

  pub ok-found : (f : Found) (b : Bytes) → OkBy f b → FoundBase b
  ok-found founds.Page b ok = ok.0
  ok-found founds.Wanted b ok = ok.0
  ok-found founds.Ended b ok = ok

  pub ok-aligned : (f : Found) (b : Bytes) → OkBy f b → AlignedIn (reading.phase_of f) b
  ok-aligned founds.Page b ok = tt
  ok-aligned founds.Ended b ok = tt
  ok-aligned founds.Wanted b ok = ok.1

-- ---- a read

module _ (mo : ℕ → Op → Machine) (setup : Setup) (modes : Modes) where
  pub record WasThen (h : List Entry) (x : ℕ) (file : List ℕ) (offset count : ℕ) (was : PendingThen) : Type 0 where
    pub back : Pending
    pub passed : HasPassed mo setup h x back
    pub is : was ≡ was_pending file offset count back

  pub record ReadAt (h : List Entry) (x : ℕ) (op : Op) (offset count : ℕ) (r : Reading) : Type 0 where
    pub of : IsOf modes h x op r.file
    pub at : r.offset ≡ offset
    pub space : r.space ≡ count
    pub was : WasThen h x r.file offset count r.was
    pub start : r.base.start ≤ offset
    pub framed : IsFramed setup.pages h x r.file r.base
    pub base : FoundBase setup.pages h x r.file r.base
    pub aligned : AlignedIn setup.pages h x r.file r.phase r.base

  -- the same in another phase
  pub in-phase : (h : List Entry) (x : ℕ) (op : Op) (offset count : ℕ) (r : Reading) (phase : Phase) → ReadAt h x op offset count r → AlignedIn setup.pages h x r.file phase r.base
      → ReadAt h x op offset count (record r { phase = phase })
  in-phase h x op offset count r phase a aligned =
      record { of = a.of; at = a.at; space = a.space; was = a.was; start = a.start; framed = a.framed; base = a.base; aligned = aligned }

  abbrev pub Answered : List Entry → ℕ → Op → ℕ → Answer → Type 0
  Answered h x op offset answer = (bytes : List ℕ) → answer ≡ answers.Done (values.Bytes bytes) → ReadShown mo setup modes h x op offset bytes

  module _ (h : List Entry) (x : ℕ) (op : Op) (offset count : ℕ) where
    own-of : (file : List ℕ) (back : Pending) (place v : ℕ) → HasPassed mo setup h x back → newest_at (of_file file back).segments place ≡ Some v → WasPending mo setup h x file place v
    own-of file back place v p is = record {
      before = p.before;
      after = p.after;
      is = p.is;
      late = p.late;
      view = p.view;
      passed = p.passed;
      pending = ap (λ (b : Pending). newest_at (of_file file b).segments place) p.same ∙ is;
    }

    shown-of : (r : Reading) (back : Pending) → ReadAt h x op offset count r → HasPassed mo setup h x back → ReadShown mo setup modes h x op offset (reading.answer_of r back)
    shown-of r back a passed = record { file = r.file; of = a.of; server = server; found = found; each = each }
      where
        server : List ℕ
        server = bytes_from r.offset r.base

        found : (k v : ℕ) → slice_get server k ≡ Some v → IsFound setup.pages h x r.file (offset + k) v
        found k v is =
            let at = a.at in
            let start = a.start in
            place-as setup.pages h x r.file (r.base.start + (r.offset - r.base.start + k)) (offset + k) v (omega (arith, at, start))
            (a.base (r.offset - r.base.start + k) v (sym (get-drop (r.offset - r.base.start) r.base.bytes k) ∙ is))

        same : reading.answer_of r back ≡ shown_over r.file offset count server (was_pending r.file offset count a.was.back) back
        same = λ i. shown_over r.file (a.at i) (a.space i) server (a.was.is i) back

        each : (k v : ℕ) → slice_get (reading.answer_of r back) k ≡ Some v → IsShown mo setup h x r.file server k (offset + k) v
        each k v is = by (over-all r.file offset count server a.was.back back k v (subst (λ (bs : List ℕ). slice_get bs k ≡ Some v) same is))
          where
            under : HasOr server k v → IsShown mo setup h x r.file server k (offset + k) v
            under (inl e) = served e
            under (inr e) = empty e.0 (none-past server k e.1)

            by : IsOver r.file a.was.back back server k (offset + k) v → IsShown mo setup h x r.file server k (offset + k) v
            by (pending_now e) = own (own-of r.file back (offset + k) v passed e)
            by (pending_then e) = own (own-of r.file a.was.back (offset + k) v a.was.passed e)
            by (below e) = under e

    -- ---- steps

    abbrev Goes : Step → Reading → Type 0
    Goes next r = ThenOf (ReadAt h x op offset count) (Answered h x op offset) next r

    goes-as : (to next : Step) (state new : Reading) → next ≡ to → new ≡ state → Goes to state → Goes next new
    goes-as to next state new is at g = subst (λ n. Goes n new) (sym is) (subst (λ s. Goes to s) (sym at) g)

    stays : (p : Phase) (r : Reading) (back : Pending) (next : Step) → ReadAt h x op offset count r → HasPassed mo setup h x back → reading.Stays p r back next
        → Goes next (reading.answered p r)
    stays phases.Attrs r back next a passed is = goes-as nexts.Wait next r r is refl a
    stays phases.AskedAttrs r back next a passed is = goes-as nexts.Wait next r r is refl a
    stays phases.Pages r back next a passed is = goes-as nexts.Wait next r r is refl a
    stays phases.Rest r back next a passed is = goes-as nexts.Wait next r r is refl a
    stays (phases.Asked size) r back next a passed is = goes-as nexts.Wait next r r is refl a
    stays phases.Ended r back next a passed is =
        goes-as (reading.shown_next (reading.answer_of r back)) next (record r { space = 0 }) (record r { space = 0 }) is refl
        (λ bytes same. subst (λ (bs : List ℕ). ReadShown mo setup modes h x op offset bs) (same-bytes (reading.answer_of r back) bytes same) (shown-of r back a passed))

    asks-aligned : (p : Phase) (file : List ℕ) (b : Bytes) → reading.asks_attrs p ≡ true → AlignedIn setup.pages h x file p b → Aligned setup.pages h x file b
    asks-aligned phases.Attrs file b is a = a
    asks-aligned phases.AskedAttrs file b is a = absurd cc
    asks-aligned phases.Pages file b is a = absurd cc
    asks-aligned phases.Rest file b is a = absurd cc
    asks-aligned (phases.Asked size) file b is a = absurd cc
    asks-aligned phases.Ended file b is a = absurd cc

    abbrev OfState : reading.State → Type 0
    OfState s = ReadAt h x op offset count s.reading

    asked-at : (b : Bool) (s : reading.State) → reading.asks_attrs s.reading.phase ≡ b → OfState s
        → OfState (if b then record { reading = record s.reading { phase = phases.AskedAttrs }; pages = s.pages } else reading.asked_part s)
    asked-at true s is a = in-phase h x op offset count s.reading phases.AskedAttrs a (asks-aligned s.reading.phase s.reading.file s.reading.base is a.aligned)
    asked-at false s is a = in-phase h x op offset count s.reading _ a tt

    abbrev GoesTo : Step → reading.State → Type 0
    GoesTo next s = Goes next s.reading

    goes-if : (b : Bool) (back : Pending) (s : reading.State) (next : Step) → OfState s → HasPassed mo setup h x back → reading.GoesIf b back s next
        → GoesTo next (if b then reading.asked s else record { reading = reading.answered s.reading.phase s.reading; pages = s.pages })
    goes-if true back s next a passed g =
        goes-as (nexts.Send (reading.asked_call s)) next (reading.asked s).reading (reading.asked s).reading g refl (asked-at (reading.asks_attrs s.reading.phase) s refl a)
    goes-if false back s next a passed g = stays s.reading.phase s.reading back next a passed g

    pub goes-on : (room : Bool) (back : Pending) (s : reading.State) (next : Step) → OfState s → HasPassed mo setup h x back → reading.Goes room back s next
        → Goes next (reading.gone room s).reading
    goes-on room back s next a passed g = goes-if (reading.asks room s) back s next a passed g

    settled-in : (p : Phase) (r : Reading) (c : Pages) → r.phase ≡ p → Good setup.pages h c → ReadAt h x op offset count r → OfState (reading.settled_in p r c)
    settled-in phases.Attrs r c is good a = a
    settled-in phases.AskedAttrs r c is good a = a
    settled-in phases.Pages r c is good a =
        let aligned : Aligned setup.pages h x r.file r.base = subst (λ (p : Phase). AlignedIn setup.pages h x r.file p r.base) is a.aligned in
        let g = gather.gathered r.file (r.base.limit / 4096 + 1) r.base c in
        let ok = gathered-ok setup.pages h x r.file (r.base.limit / 4096 + 1) r.base c a.framed aligned a.base good in
        record {
          of = a.of;
          at = a.at;
          space = a.space;
          was = a.was;
          start = let s = ok.0 in let was = a.start in omega (arith, s, was);
          framed = framed-as setup.pages h x r.file r.base g.base ok.0 ok.1 a.framed;
          base = ok-found setup.pages h x r.file g.found g.base ok.2;
          aligned = ok-aligned setup.pages h x r.file g.found g.base ok.2;
        }
    settled-in phases.Rest r c is good a = a
    settled-in (phases.Asked size) r c is good a = a
    settled-in phases.Ended r c is good a = a

    pub from-settled : (room : Bool) (back : Pending) (r : Reading) (c : Pages) (next : Step) (new : reading.State) → ReadAt h x op offset count r → Good setup.pages h c → HasPassed mo setup h x back
        → reading.Goes room back (reading.settled r c) next → new ≡ reading.gone room (reading.settled r c) → Goes next new.reading
    from-settled room back r c next new a good passed g is =
        goes-as next next (reading.gone room (reading.settled r c)).reading new.reading refl (ap (λ (s : reading.State). s.reading) is)
        (goes-on room back (reading.settled r c) next (settled-in r.phase r c refl good a) passed g)

    again-read : (again : Bool) (call : Call) (fault : Fault) (r : Reading) (c : Pages) (next : Step) (new : reading.State) → ReadAt h x op offset count r
        → next ≡ reading.again_next again call fault → new ≡ record { reading = r; pages = c } → Goes next new.reading
    again-read true call fault r c next new a is same = goes-as (nexts.Send call) next r new.reading is (ap (λ (s : reading.State). s.reading) same) a
    again-read false call fault r c next new a is same =
        goes-as (reading.refused fault) next r new.reading is (ap (λ (s : reading.State). s.reading) same) (λ bytes no_way. absurd cc)

    after-opened : (result : Result (Unit {0}) memory.Memory) (turn : Turn) (r : Reading) (c : Pages) (back : Pending) (next : Step) (new : reading.State) → ReadAt h x op offset count r
        → Aligned setup.pages h x r.file r.base → Good setup.pages h c → HasPassed mo setup h x back → reading.AfterOpened result turn r c back next new → Goes next new.reading
    after-opened (Ok done) turn r c back next new a aligned good passed o =
        from-settled turn.room back (record r { phase = phases.Pages }) c next new (in-phase h x op offset count r phases.Pages a aligned) good passed o.0 o.1
    after-opened (Err no_memory) turn r c back next new a aligned good passed o =
        goes-as (reading.refused faults.Memory) next r new.reading o.0 (ap (λ (s : reading.State). s.reading) o.1) (λ bytes no_way. absurd cc)

    waits-aligned : (p : Phase) (file : List ℕ) (b : Bytes) → reading.waits_attrs p ≡ true → AlignedIn setup.pages h x file p b → Aligned setup.pages h x file b
    waits-aligned phases.Attrs file b is a = a
    waits-aligned phases.AskedAttrs file b is a = a
    waits-aligned phases.Pages file b is a = a
    waits-aligned phases.Rest file b is a = absurd cc
    waits-aligned (phases.Asked size) file b is a = absurd cc
    waits-aligned phases.Ended file b is a = absurd cc

    attrs-read : (told : Result Attr Fault) (again : Bool) (sent turn : Turn) (r : Reading) (c : Pages) (back : Pending) (next : Step) (new : reading.State) → ReadAt h x op offset count r
        → Aligned setup.pages h x r.file r.base → Good setup.pages h c → ((attr : Attr) → told ≡ Ok attr → HasPassed mo setup h x back) → reading.TakesAttrs again told sent turn r c back next new → Goes next new.reading
    attrs-read (Ok attr) again sent turn r c back next new a aligned good passed t =
        after-opened t.result turn r t.later back next new a aligned (pages-opened (Good setup.pages h) (quiet-good setup.pages h) t.result r.file attr r.moment sent turn c t.later t.opens good) (passed attr refl) t.goes
    attrs-read (Err fault) again sent turn r c back next new a aligned good passed t = again-read again (reading.attrs_call r.file) fault r c next new a t.0 t.1

    -- ---- a part

    module _ (call : Call) (came : Result Reply Fault) (laws : ToldLaws (Good setup.pages h) call came) (sent turn : Turn) (back : Pending)
        (told : (reply : Reply) → came ≡ Ok reply → WasTaken mo setup h x call sent back reply) where
      module _ (r : Reading) (c : Pages) (a : ReadAt h x op offset count r) (good : Good setup.pages h c) where
        part-aligned : (eof more : Bool) (size : ℕ) (b : Bytes) → IsFramed setup.pages h x r.file b → (more ≡ false → place_after b % 4096 ≡ 0)
            → AlignedIn setup.pages h x r.file (if eof then phases.Ended else if more then phases.Rest else phases.Pages) b
        part-aligned true more size b framed whole = tt
        part-aligned false true size b framed whole = tt
        part-aligned false false size b framed whole =
            let place = div-add-mod' (place_after b) 4096 in
            let none = whole refl in
            let start = framed.start in
            (place_after b / 4096 - framed.first, omega (arith, place, none, start))

        ends-whole : (less : Bool) (n : ℕ) → (less || not (n == 0)) ≡ false → n ≡ 0
        ends-whole less n is = grind (arith, nat_tests)

        added-at : (attr : Option Attr) (counted : ℕ) (eof : Bool) (given : List ℕ) (size : ℕ) → came ≡ Ok (replies.File (kept.Read attr counted eof given))
            → call ≡ calls.File (file_calls.Read r.file (place_after r.base) size) → ReadAt h x op offset count (reading.added (reading.count_of r.phase) eof given r)
        added-at attr counted eof given size is asked =
            let w = told (replies.File (kept.Read attr counted eof given)) is in
            let framed = framed-as setup.pages h x r.file r.base (with_more given r.base) refl refl a.framed in
            record {
              of = a.of;
              at = a.at;
              space = a.space;
              was = a.was;
              start = a.start;
              framed = framed;
              base = more-found setup.pages h x r.file given r.base a.base (λ at v there.
                  in_reply w.since.told.since (place_after r.base) size counted at attr eof given w.since.later
                  (subst (λ (q : Call). IsAnswered h w.since.told.since (length h) q (replies.File (kept.Read attr counted eof given))) asked w.since.told.answered)
                  there refl);
              aligned = part-aligned eof (nat_lt (length given) (reading.count_of r.phase) || not (place_after (with_more given r.base) % 4096 == 0)) size (with_more given r.base) framed
                  (λ no_more. ends-whole (nat_lt (length given) (reading.count_of r.phase)) (place_after (with_more given r.base) % 4096) no_more);
            }

        part-if : (b : Bool) (attr : Option Attr) (counted : ℕ) (eof : Bool) (given : List ℕ) (size : ℕ) (again : Bool) (next : Step) (new : reading.State)
            → came ≡ Ok (replies.File (kept.Read attr counted eof given)) → call ≡ calls.File (file_calls.Read r.file (place_after r.base) size)
            → reading.Tells again sent turn (if b then refusal attr (faults.Bad 5) else part attr eof given) r c back next
            → new ≡ reading.told sent turn (if b then refusal attr (faults.Bad 5) else part attr eof given) r c → Goes next new.reading
        part-if true attr counted eof given size again next new is asked t same = again-read again (reading.part_call r) (faults.Bad 5) r c next new a t same
        part-if false attr counted eof given size again next new is asked t same =
            from-settled turn.room back (reading.added (reading.count_of r.phase) eof given r) (reading.noted attr r.file sent.moment (place_after r.base) given eof c) next new
            (added-at attr counted eof given size is asked)
            (noted-pages (Good setup.pages h) (quiet-good setup.pages h) call came laws attr r.file counted eof given (place_after r.base) size sent.moment c is asked good)
            (told (replies.File (kept.Read attr counted eof given)) is).passed t same

        file-part : (k : FileKept) (size : ℕ) (again : Bool) (next : Step) (new : reading.State) → came ≡ Ok (replies.File k)
            → call ≡ calls.File (file_calls.Read r.file (place_after r.base) size) → reading.Tells again sent turn (said_by size (replies.File k)) r c back next
            → new ≡ reading.told sent turn (said_by size (replies.File k)) r c → Goes next new.reading
        file-part (kept.Read attr counted eof given) size again next new is asked t same = part-if (breaks_rule size counted eof given) attr counted eof given size again next new is asked t same
        file-part (kept.ReadFail status attr) size again next new is asked t same = again-read again (reading.part_call r) _ r c next new a t same
        file-part k size again next new is asked t same = again-read again (reading.part_call r) _ r c next new a t same

        part-came : (what : Result Reply Fault) (size : ℕ) (again : Bool) (next : Step) (new : reading.State) → came ≡ what
            → call ≡ calls.File (file_calls.Read r.file (place_after r.base) size) → reading.Tells again sent turn (said_to size what) r c back next
            → new ≡ reading.told sent turn (said_to size what) r c → Goes next new.reading
        part-came (Ok (replies.File k)) size again next new is asked t same = file-part k size again next new is asked t same
        part-came (Ok (replies.Dir k)) size again next new is asked t same = again-read again (reading.part_call r) _ r c next new a t same
        part-came (Ok (replies.Mount k)) size again next new is asked t same = again-read again (reading.part_call r) _ r c next new a t same
        part-came (Err fault) size again next new is asked t same = again-read again (reading.part_call r) _ r c next new a t same

        waits-still : (next : Step) (new : reading.State) → next ≡ nexts.Wait → new ≡ record { reading = r; pages = c } → Goes next new.reading
        waits-still next new is same = goes-as nexts.Wait next r new.reading is (ap (λ (s : reading.State). s.reading) same) a

        heard-part : (p : Phase) (repeats : List Repeat) (next : Step) (new : reading.State) → PhaseAwaits p r call
            → reading.TakesPart (reading.heard p came) sent turn repeats r c back next new → Goes next new.reading
        heard-part phases.Attrs repeats next new asked t = waits-still next new t.0 t.1
        heard-part phases.AskedAttrs repeats next new asked t = waits-still next new t.0 t.1
        heard-part phases.Pages repeats next new asked t = waits-still next new t.0 t.1
        heard-part phases.Rest repeats next new asked t = waits-still next new t.0 t.1
        heard-part (phases.Asked size) repeats next new asked t = part-came came size _ next new refl asked t.0 t.1
        heard-part phases.Ended repeats next new asked t = waits-still next new t.0 t.1

        got-ok : (what : Result Reply Fault) (attr : Attr) → came ≡ what → got_by what ≡ Ok attr → HasPassed mo setup h x back
        got-ok (Ok reply) attr is got = (told reply is).passed
        got-ok (Err fault) attr is got = absurd cc

        pub takes-read : (waits : Bool) (repeats : List Repeat) (next : Step) (new : reading.State) → reading.waits_attrs r.phase ≡ waits → PhaseAwaits r.phase r call
            → reading.TakesIf waits sent turn came repeats r c back next new → Goes next new.reading
        takes-read true repeats next new is asked t =
            attrs-read (got_by came) _ sent turn r c back next new a (waits-aligned r.phase r.file r.base is a.aligned) good (λ attr got. got-ok came attr refl got) t
        takes-read false repeats next new is asked t = heard-part r.phase repeats next new asked t

-- ---- as it begins

pub framed-begins : (initial : Pages) (h : List Entry) (x : ℕ) (file : List ℕ) (offset count : ℕ) → IsFramed initial h x file (nothing_of offset count)
framed-begins initial h x file offset count = record {
  first = offset / 4096;
  last = last (count == 0);
  start = let whole = div-add-mod' offset 4096 in omega (arith, whole);
  limit = by (count == 0) refl;
}
  where
    last : Bool → ℕ
    last true = 0
    last false = div_ceil (offset % 4096 + count) 4096

    by : (b : Bool) → (count == 0) ≡ b → (if b then 0 else div_ceil (offset % 4096 + count) 4096 * 4096) ≡ last b * 4096
    by true e = refl
    by false e = refl
