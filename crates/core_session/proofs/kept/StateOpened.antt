-- A file whose state the page cache has keeps one, and an opening that goes well gives it one.
use Rattle.core_session.proofs.Prelude.{◌≡◌, ◌-◌, ℕ, Bool, true, false, List, [], take, Option, Some, None, option_map, Result, Ok, Err, refl, sym, ap, subst, ◌∙◌, arith, if◌then◌else◌, option_map_or, Attr, Stamp, stamp_of, FileState, Pages, state_of, after_page, Fault, Call, Reply, Turn, Led, Opening, OpeningStep, offered, opened_pages}
use Rattle.std.specs.Prelude.{nat_le}
use Rattle.page_cache.specs.Pages.{opened, wrote}
use Rattle.file_ops.specs.Kept.{told_of, is_given, kept_page, offered_told}
use Rattle.file_ops.specs.PagesOpened.{is_late, no_wcc}
use Rattle.page_cache.proofs.Inserts.{same-self}
use Rattle.page_cache.proofs.States.{state_opened, state-opened}
use Rattle.file_ops.specs.declared.opening.Led.TheVariants as leads
use Rattle.file_ops.specs.declared.opening.OpeningStep.TheVariants as openings
use Rattle.file_ops.specs.Opening as opening
use Rattle.file_ops.specs.Saves.{untold}
use Rattle.core_session.proofs.current.FedPages.{FedLaws}
use Rattle.core_session.proofs.current.Marks.{IsMarked, marked-shown, marked-opened, marked-saw, marked-kept, marked-wrote, marked-cut}

-- anything of a stamp
abbrev pub Any : Stamp → Type 0
Any stamp = Unit {0}

-- the cache has a state of the file
abbrev pub St : Pages → List ℕ → Type 0
St c f = IsMarked Any c f 0

pub stated-shown : (f file : List ℕ) (index : ℕ) (c : Pages) → St c f → St (after_page file index c) f
stated-shown f file index c t = marked-shown Any f 0 file index c t

-- ---- whatever comes

module _ (f : List ℕ) (call : Call) (came : Result Reply Fault) (sent turn : Turn) where
  abbrev T : Pages → Type 0
  T c = St c f

  drops-so : (file : List ℕ) (c : Pages) → T c → T (wrote file untold 0 [] (turn.moment - 1) c)
  drops-so file c t = marked-wrote Any f 0 file untold 0 [] (turn.moment - 1) c (omega arith) (λ old attr at before after had. tt) t

  late-if : (b : Bool) (file : List ℕ) (attr : Attr) (mark : ℕ) (c : Pages) → T c → T (if b then wrote file no_wcc 0 [] (turn.moment - 1) c else opened file (stamp_of attr) mark c)
  late-if true file attr mark c t = drops-so file c t
  late-if false file attr mark c t = marked-opened Any f 0 file (stamp_of attr) mark c (λ at state there over. tt) t

  offers-if : (b : Bool) (file : List ℕ) (stamp : Stamp) (index : ℕ) (page : List ℕ) (c : Pages) → T c → T (if b then kept_page file stamp sent.moment index page c else c)
  unfolding kept_page
  offers-if true file stamp index page c t = marked-kept Any f 0 file stamp sent.moment index page c (λ at state there over after. tt) t
  offers-if false file stamp index page c t = t

  offers-told : (file : List ℕ) (stamp : Stamp) (ends : Bool) (index : ℕ) (given : Option (List ℕ)) (c : Pages) → T c → T (offered_told file stamp sent.moment ends index given c)
  offers-told file stamp ends index None c t = t
  offers-told file stamp ends index (Some given) c t = offers-if (is_given given ends) file stamp index (take 4096 given) c t

  offers-so : (file : List ℕ) (stamp : Stamp) (given : List ℕ) (place index : ℕ) (ends : Bool) (c : Pages) → T c → T (offered file stamp sent.moment place given ends index c)
  unfolding offered
  offers-so file stamp given place index ends c t = offers-told file stamp ends index (told_of place given index) c t

  pub fed-stated : FedLaws T call came sent turn
  fed-stated = record {
    drops = drops-so;
    opens = λ file attr mark c is on t. late-if (is_late file sent.moment c) file attr mark c t;
    knows = λ file stamp mark c known t. marked-opened Any f 0 file stamp mark c (λ at state there over. tt) t;
    sees = λ file attr counted eof given place count c is asked t. marked-saw Any f 0 file (stamp_of attr) sent.moment c (λ at state there over after. tt) t;
    offers = λ file attr counted eof given place count index ends c is asked whole t. offers-so file (stamp_of attr) given place index ends c t;
    writes = λ file offset how bytes wcc count committed verf c is asked t.
        marked-wrote Any f 0 file wcc offset (take count bytes) (turn.moment - 1) c (omega arith) (λ old attr at before after had. tt) t;
    cuts = λ file wcc size c is asked t. marked-cut Any f 0 file wcc size (turn.moment - 1) c (omega arith) (λ old attr at before after had. tt) t;
  }

-- ---- an opening

opened-stated : (file : List ℕ) (stamp : Stamp) (mark : ℕ) (c : Pages) → St (opened file stamp mark c) file
opened-stated file stamp mark c = record {
  state = state_opened (state_of file c) stamp mark;
  there = state-opened file file c stamp mark ∙ ap (λ (b : Bool). if b then Some (state_opened (state_of file c) stamp mark) else state_of file c) (same-self file);
  over = omega arith;
  seen = λ s known. tt;
}

-- one that comes too late finds a state
late-stated : (file : List ℕ) (sent : ℕ) (c : Pages) → is_late file sent c ≡ true → St c file
late-stated file sent c late = by (state_of file c) refl late
  where
    by : (o : Option FileState) → state_of file c ≡ o → option_map_or (λ mark. nat_le sent mark) (option_map (λ (s : FileState). s.mark) o) false ≡ true → St c file
    by None is e = absurd (let no_way : false ≡ true = e in cc)
    by (Some state) is e = record { state = state; there = is; over = omega arith; seen = λ s known. tt }

opened-so : (file : List ℕ) (attr : Attr) (mark : ℕ) (sent turn : Turn) (c : Pages) → St (opened_pages file attr mark sent turn c) file
opened-so file attr mark sent turn c = by (is_late file sent.moment c) refl
  where
    by : (b : Bool) → is_late file sent.moment c ≡ b → St (if b then wrote file no_wcc 0 [] (turn.moment - 1) c else opened file (stamp_of attr) mark c) file
    by true late = marked-wrote Any file 0 file no_wcc 0 [] (turn.moment - 1) c (omega arith) (λ old attr_ at before after had. tt) (late-stated file sent.moment c late)
    by false young = opened-stated file (stamp_of attr) mark c

not-sent : (b : Bool) (call : Call) (file : List ℕ) → (if b then openings.Wait else openings.Send call) ≡ openings.Ended (Ok file) → ⊥
not-sent true call file e = cc
not-sent false call file e = cc

some-file : (a b : List ℕ) → openings.Ended (Ok a) ≡ openings.Ended (Ok b) → a ≡ b
some-file a b e = cc

by-led : (led : Led) (o : Opening) (sent turn : Turn) (file : List ℕ) (old new : Pages) → opening.LedTo o sent turn led (openings.Ended (Ok file)) old new → St new file
by-led (leads.Goes step) o sent turn file old new l = absurd (not-sent _ _ file (sym l.0))
by-led (leads.Opens found attr) o sent turn file old new l =
    subst (λ (c : Pages). St c file) (sym l.1) (subst (St (opened_pages found attr o.moment sent turn old)) (sym l.0) (opened-so found attr o.moment sent turn old))
by-led (leads.Knows found stamp) o sent turn file old new l =
    subst (λ (c : Pages). St c file) (sym l.1) (subst (St (opened found stamp o.moment old)) (sym l.0) (opened-stated found stamp o.moment old))
by-led (leads.Ends fault) o sent turn file old new l = absurd (let no_way : openings.Ended (Ok file) ≡ openings.Ended (Err fault) = l.0 in cc)

pub led-stated : (b : Bool) (o : Opening) (sent turn : Turn) (led : Led) (step : OpeningStep) (old new : Pages) → opening.LedIf b o sent turn led step old new → (file : List ℕ)
    → step ≡ openings.Ended (Ok file) → St new file
led-stated true o sent turn led step old new l file is = absurd (let no_way : openings.Ended (Ok file) ≡ openings.Send _ = sym is ∙ l.0 in cc)
led-stated false o sent turn led step old new l file is = by-led led o sent turn file old new (subst (λ (s : OpeningStep). opening.LedTo o sent turn led s old new) is l)
