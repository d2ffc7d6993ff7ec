-- Along a history the kept pages and names go on by steps of their machines.
use Rattle.core_counts.proofs.Prelude.{◌≡◌, List, [], ◌∷◌, ◌++◌, refl, sym, ap, subst, ◌∙◌, append_assoc, append-nil, Pages, Entry, History, Lawful, Shelf, machine_of, Mounted, Setup, View, Numbered, Reaches, begins, goes, loses, until, WasRun}
use Rattle.core_counts.specs.coarse.Fed.{Fed, CoreIsFed, PagesFed, NamesFed}
use Rattle.name_cache.specs.Names.{Entries}
use Rattle.law_names.specs.Feeds as feeds
use Rattle.core_answers.proofs.pages.MachinePages.{pages-starts, pages-resumes, pages-takes}
use Rattle.core_counts.specs.coarse.FedNames as name_steps
use Rattle.core_counts.specs.coarse.FedPages as page_steps
use Rattle.core_counts.proofs.coarse.FedEach.{numbered-at, over-on, each-step}
use Rattle.core_counts.proofs.coarse.FedFileNames.{all-starts, all-resumes, all-takes}
use Rattle.core_counts.proofs.coarse.FedNames.{Named, quiet-named, tells-named, fed-steps}
use Rattle.core_counts.proofs.coarse.FedPages.{Led, quiet-fed, told-fed-laws}
use Rattle.core_counts.proofs.coarse.FedSteps.{StepLaws}
use Rattle.core_counts.proofs.coarse.FedUntil.{lawful-until}

-- ---- steps one after the other

then-pages : (t : History) (a b c : Pages) → page_steps.Steps t a b → page_steps.Steps t b c → page_steps.Steps t a c
then-pages t a _ _ first (page_steps.stays b c is) = subst (page_steps.Steps t a) (sym is) first
then-pages t a _ _ first (page_steps.goes b c d s next) = page_steps.goes a c d (then-pages t a b c first s) next

then-names : (t : History) (a b c : Entries) → name_steps.Steps t a b → name_steps.Steps t b c → name_steps.Steps t a c
then-names t a _ _ first (name_steps.stays b c is) = subst (name_steps.Steps t a) (sym is) first
then-names t a _ _ first (name_steps.goes b c d s next) = name_steps.goes a c d (then-names t a b c first s) next

-- ---- each step of an operation

fed-laws : (t : History) → StepLaws (WasRun t) (Fed t)
fed-laws t = record {
  same = λ old new is. record { pages = page_steps.stays old.pages new.pages (ap (λ (s : Shelf). s.pages) is); names = name_steps.stays old.names new.names (ap (λ (s : Shelf). s.names) is) };
  then_ = λ a b c f g. record { pages = then-pages t a.pages b.pages c.pages f.pages g.pages; names = then-names t a.names b.names c.names f.names g.names };
  starts = λ machine wsize turn old next new after s. record {
    pages = pages-starts (Led t old.pages) (quiet-fed t old.pages) machine wsize turn old next new after s (page_steps.stays old.pages old.pages refl);
    names = all-starts (Named t old.names) (quiet-named t old.names) machine wsize turn old next new after s (name_steps.stays old.names old.names refl);
  };
  resumes = λ machine wsize turn old next new after s. record {
    pages = pages-resumes (Led t old.pages) (quiet-fed t old.pages) machine wsize turn old next new after s (page_steps.stays old.pages old.pages refl);
    names = all-resumes (Named t old.names) (quiet-named t old.names) machine wsize turn old next new after s (name_steps.stays old.names old.names refl);
  };
  takes = λ machine call wsize sent turn came old next new after on told link s. record {
    pages = pages-takes (Led t old.pages) (quiet-fed t old.pages) call came
        (told-fed-laws t old.pages call came (λ reply is. let w = told reply is in (w.place, w.xid, w.done))) sent turn old link machine wsize next new after on.0.1 s
        (page_steps.stays old.pages old.pages refl);
    names = all-takes (Named t old.names) (quiet-named t old.names) machine wsize sent turn came old next new after call on.1
        (tells-named t old.names call came (λ reply is. let w = told reply is in (w.place, w.xid, w.done))) s (name_steps.stays old.names old.names refl);
  };
}

-- ---- along the history

pub core-fed : CoreIsFed
core-fed m setup t lawful = each-step m setup t lawful Fed fed-laws

-- what both machines come to from the first pages, and from no names
record FromFirst (t : History) (first : Pages) (s : Shelf) : Type 0 where
  pages_are : page_steps.Steps t first s.pages
  names_are : name_steps.Steps t [] s.names

module _ (m : Mounted) (setup : Setup) (t : History) (lawful : Lawful t) (numbered : Numbered t.entries) where
  then-from : (old new : Shelf) → FromFirst t setup.pages old → Fed t old new → FromFirst t setup.pages new
  then-from old new f g = record {
    pages_are = then-pages t setup.pages old.pages new.pages f.pages_are g.pages;
    names_are = then-names t [] old.names new.names f.names_are g.names;
  }

  along-fed : (h rest : List Entry) (v : View) → t.entries ≡ h ++ rest → Reaches (machine_of m) setup h v → FromFirst t setup.pages v.shelf
  along-fed _ rest _ is (begins h v may up fresh) =
      record { pages_are = page_steps.stays setup.pages v.shelf.pages fresh.pages; names_are = name_steps.stays [] v.shelf.names fresh.names }
  along-fed _ rest _ is (goes h before v b e r same k) =
      let along : t.entries ≡ before ++ e ∷ rest = is ∙ ap (λ (l : List Entry). l ++ rest) same ∙ append_assoc before (e ∷ []) rest in
      then-from b.shelf v.shelf (along-fed before (e ∷ rest) b along r) (over-on m setup t lawful numbered (Fed t) (fed-laws t) before rest b v e along r k)
  along-fed _ rest _ is (loses h v b r shown same) = subst (λ (w : View). FromFirst t setup.pages w.shelf) (sym same) (along-fed h rest b is r)

whole : (m : Mounted) (setup : Setup) (t : History) (v : View) → Lawful t → Reaches (machine_of m) setup t.entries v → FromFirst t setup.pages v.shelf
whole m setup t v lawful r = along-fed m setup t lawful (numbered-at m setup t.entries v r) t.entries [] v (sym (append-nil t.entries)) r

pub pages-fed : PagesFed
pages-fed m setup t h rest v lawful along r = (whole m setup (until t h) v (lawful-until t h rest along lawful) r).pages_are

pub names-fed : NamesFed
names-fed m setup t h rest v lawful along r =
    fed-steps (until t h) [] v.shelf.names (whole m setup (until t h) v (lawful-until t h rest along lawful) r).names_are (feeds.begins [] refl)
