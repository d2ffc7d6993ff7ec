-- Each page that is kept was read, and follows what the client wrote and cut since.
use Rattle.core_answers.proofs.Prelude.{◌≡◌, ℕ, List, [], ◌∷◌, ◌++◌, length, Option, Some, None, Result, Ok, refl, sym, subst, arith, Stamp, Pages, known_of, page_of, Fault, Entry, Began, Call, Reply, Heard-wide, Step, Send, Wait, Done, Shelf, Turn, machine_of, Mounted, Machine, Takes, Setup, View, Reaches, ThenOf, IsAnswered, IsPage}
use Rattle.std.proofs.Common.{IsSome}
use Rattle.std.proofs.lemmas.List.Elements.{All-weaker}
use Rattle.page_cache.specs.Sound.{IsSound}
use Rattle.std.proofs.Common.{get_or}
use Rattle.std.proofs.lemmas.Option.{slice_get-get_or}
use Rattle.core_answers.proofs.pages.FirstPages.{found-at}
use Rattle.core_answers.specs.pages.Kept.{IsKeptFrom, PagesShown}
use Rattle.page_cache.proofs.Believed.{IsTrueUnder, true-page}
use Rattle.page_cache.proofs.Entries.{All-page}
use Rattle.core_answers.proofs.bonds.AttrsShown.{answered-last}
use Rattle.core_answers.specs.pages.Kept as pages
use Rattle.core_answers.proofs.pages.FilePages.{IsSentAs}
use Rattle.core_answers.proofs.pages.Keeping.{BondLaws, reached-known}
use Rattle.core_answers.proofs.pages.MachinePages.{pages-starts, pages-resumes, pages-takes}
use Rattle.core_answers.proofs.pages.PageCalls.{PageAwaits, Both, both-asks}
use Rattle.core_answers.proofs.pages.PageLaws.{Good, quiet-good, told-good-laws}

-- ---- one entry more

pub page-grows : (first : Pages) (h : List Entry) (e : Entry) (file : List ℕ) (stamp : Stamp) (index : ℕ) (bytes : List ℕ) → IsPage first h file stamp index bytes → IsPage first (h ++ e ∷ []) file stamp index bytes
page-grows first h e file _ _ _ (pages.from_start stamp index bytes found known fits) = pages.from_start stamp index bytes found known fits
page-grows first h e file _ _ _ (pages.read stamp index bytes r) = pages.read stamp index bytes (record {
  offset = r.offset;
  count = r.count;
  counted = r.counted;
  attr = r.attr;
  eof = r.eof;
  given = r.given;
  answered = answered-last h e 0 _ _ r.answered;
  is = r.is;
  before = r.before;
  page = r.page;
  whole = r.whole;
})
page-grows first h e file _ _ _ (pages.written old stamp index offset count bytes page now had w is) =
    pages.written old stamp index offset count bytes page now (page-grows first h e file old index page had)
    (record { how = w.how; committed = w.committed; wcc = w.wcc; verf = w.verf; answered = answered-last h e 0 _ _ w.answered; leads = w.leads }) is
page-grows first h e file _ _ _ (pages.cut old stamp index size page now had w is) =
    pages.cut old stamp index size page now (page-grows first h e file old index page had)
    (record { set = w.set; guard = w.guard; wcc = w.wcc; answered = answered-last h e 0 _ _ w.answered; is = w.is; leads = w.leads }) is

pub good-grows : (first : Pages) (h : List Entry) (e : Entry) (c : Pages) → Good first h c → Good first (h ++ e ∷ []) c
good-grows first h e c g = (
  g.0,
  All-weaker (IsTrueUnder (IsPage first h) c) (IsTrueUnder (IsPage first (h ++ e ∷ [])) c) (λ p had s known. page-grows first h e p.0.file s p.0.index p.1 (had s known)) c.pages g.1,
)

-- ---- the steps

pub from-start : (h : List Entry) (from : ℕ) (call : Call) (reply : Reply) → IsAnswered h from (length h) call reply → IsAnswered h 0 (length h) call reply
from-start h from call reply a =
    record { xid = a.xid; bytes = a.bytes; heard = Heard-wide h from (length h) 0 (length h) call a.xid a.bytes (omega arith) (omega arith) a.heard; spells = a.spells; only = a.only }

abbrev pub GoodShelf : Pages → List Entry → Shelf → Type 0
GoodShelf first h shelf = Good first h shelf.pages

-- what a step makes of the pages, by what came of its call
pub takes-good : (first : Pages) (h : List Entry) (machine : Machine) (call : Call) (wsize : ℕ) (sent turn : Turn) (came : Result Reply Fault) (old : Shelf) (next : Step) (new : Machine) (after : Shelf)
    → PageAwaits machine call → ((reply : Reply) → came ≡ Ok reply → IsAnswered h 0 (length h) call reply × IsSentAs sent.xid call old.back)
    → Takes wsize machine sent turn came old next new after → GoodShelf first h old → GoodShelf first h after
takes-good first h machine call wsize sent turn came old next new after on told t g =
    pages-takes (Good first h) (quiet-good first h) call came (told-good-laws first h call came (λ reply is. (told reply is).0)) sent turn old (λ reply is. (told reply is).1) machine wsize next new after on t g

no-story : (next : Step) (new : Machine) → ThenOf (λ k. Unit {0}) (λ a. Unit {0}) next new
no-story (Send call) new = tt
no-story Wait new = tt
no-story (Done answer) new = tt

-- of the operations nothing is said
page-laws : (m : Mounted) (setup : Setup) → BondLaws (machine_of m) setup Both (λ h lane shelf. Unit {0}) (GoodShelf setup.pages) (λ h x op state. Unit {0})
page-laws m setup = record {
  starts = λ h lane line op wsize turn old next new after given passed g late s. record {
    kept = pages-starts (Good setup.pages (h ++ Began lane line op ∷ [])) (quiet-good setup.pages (h ++ Began lane line op ∷ [])) (machine_of m lane op) wsize turn old next new after s g;
    then_ = no-story next new;
  };
  resumes = λ h x op machine wsize turn old next new after g passed within late story r. record {
    kept = pages-resumes (Good setup.pages h) (quiet-good setup.pages h) machine wsize turn old next new after r g;
    then_ = no-story next new;
  };
  takes = λ h x op machine call wsize sent turn came old next new after g within late story on told t. record {
    kept = takes-good setup.pages h machine call wsize sent turn came old next new after on.1
        (λ reply is. let k = told reply is in (from-start h k.since.told.since call reply k.since.told.answered, k.link)) t g;
    then_ = no-story next new;
  };
  still = λ h e shelf g. good-grows setup.pages h e shelf.pages g;
  grows = λ h e x op state story. tt;
  lost = λ h x op shown. tt;
}

pub first-good : (first : Pages) (h : List Entry) (c : Pages) → c ≡ first → IsSound first → Good first h c
first-good first h c is sound = subst (Good first h) (sym is) (
  sound.known,
  λ k d low stamp known. pages.from_start stamp (get_or first.pages k d).0.index (get_or first.pages k d).1
      (found-at first sound.apart k (get_or first.pages k d) (slice_get-get_or first.pages k d low)) known (sound.fits k d low),
)

pub good-pages : (m : Mounted) (setup : Setup) (h : List Entry) (v : View) → Reaches (machine_of m) setup h v → Good setup.pages h v.shelf.pages
good-pages m setup h v r =
    (reached-known m setup Both both-asks (λ k lane shelf. Unit {0}) (GoodShelf setup.pages) (λ k x op state. Unit {0}) (page-laws m setup) (λ k w lane reached found idle. tt)
    (λ k w fresh. first-good setup.pages k w.shelf.pages fresh.pages fresh.sound) h v r).kept

kept-so : (first : Pages) (h : List Entry) (c : Pages) (file : List ℕ) (index : ℕ) (bytes : List ℕ) → Good first h c → page_of file index c ≡ Some bytes → (o : Option Stamp) → known_of file c ≡ o → IsSome o
    → IsKeptFrom first h c file index bytes
kept-so first h c file index bytes g found None is some = absurd cc
kept-so first h c file index bytes g found (Some stamp) is some = record { stamp = stamp; known = is; page = true-page (IsPage first h) file index c bytes stamp g.1 found is }

pub kept-of : (first : Pages) (h : List Entry) (c : Pages) (file : List ℕ) (index : ℕ) (bytes : List ℕ) → page_of file index c ≡ Some bytes → Good first h c → IsKeptFrom first h c file index bytes
kept-of first h c file index bytes found g =
    kept-so first h c file index bytes g found (known_of file c) refl (All-page (λ p. IsSome (known_of p.0.file c)) file index c.pages bytes g.0 found)

pub pages-shown : PagesShown
pages-shown m setup h v r file index bytes found = kept-of setup.pages h v.shelf.pages file index bytes found (good-pages m setup h v r)
