-- The tests decide what a server may list of a directory.
use Rattle.std.proofs.Common.{◌≡◌, ◌⊎◌, ◌==◌, ◌≤◌, ℕ, suc, Bool, true, List, length, map, Option, refl, sym, ◌∙◌, ap, subst}
use Rattle.std.specs.Prelude.{Decides, ◌&&◌, ◌||◌, nat_le, All}
use Rattle.std.specs.Str.{bytes_eq}
use Rattle.std.proofs.lemmas.Bool.Decides.{Decides-like, Decides-and, Decides-or, Decides-eqb, Decides-by_and}
use Rattle.std.proofs.lemmas.Slice.Eq.{bytes_eq-Decides}
use Rattle.nfs_types.specs.declared.attr.Attr.{Attr}
use Rattle.nfs_dir_calls.specs.declared.plus_page.PlusRow.{PlusRow}
use Rattle.nfs_dir_calls.specs.declared.dir_page.DirRow.{DirRow}
use Rattle.world_model.specs.Server as model
use Rattle.world_model.specs.Steps.{Only, TrueOf}
use Rattle.world_model.specs.NameService.{ShowsHandle}
use Rattle.world_model.specs.ListService.{ReadsDir, IsRowOf, IsPlusRowOf, ListsNames, ListsObjects}
use Rattle.trace_data.specs.declared.trace.Contents.{Contents}
use Rattle.trace_data.specs.declared.trace.Contents.TheVariants.{File, Directory, Other}
use Rattle.trace_data.specs.declared.trace.DirEntry.{DirEntry}
use Rattle.trace_data.specs.declared.trace.Trace.{Trace}
use Rattle.trace_data.specs.Histories.{listed_of, holds_of, server_at}
use Rattle.trace_rules.specs.Keeping.{same_contents}
use Rattle.trace_rules.proofs.Combining.{never}
use Rattle.trace_steps.specs.MomentTests.{is_one, only}
use Rattle.trace_steps.specs.TurnTests.{turns, shows_attr}
use Rattle.trace_steps.specs.ListTests.{has_row}
use Rattle.trace_steps.specs.NameTests.{shows_handle}
use Rattle.trace_steps.specs.PageTests.{all_rows, is_plus_of, has_plus, all_plus, lists_so, lists_names, lists_objects}
use Rattle.trace_steps.proofs.Testing.{le-decides}
use Rattle.trace_steps.proofs.Sparing.{only-one}
use Rattle.trace_steps.proofs.Turned.{TurnsBy, turns-decides, to-turns, from-turns, turned, same-holds, shows-decides}
use Rattle.trace_steps.proofs.Listing.{some-entry, row-decides}
use Rattle.trace_steps.proofs.NameDone.{handle-decides}

-- ---- rows

row-of : (es : List DirEntry) (name : List ℕ) (cookie : ℕ) → Decides (has_row name cookie es) (IsRowOf (map listed_of es) name cookie)
row-of es name cookie =
    Decides-like (has_row name cookie es)
    (λ h. record { object = h.0.object; listed = subst (λ (z : model.Listed). model.Lists (map listed_of es) z) (whole h.0 h.2.0 h.2.1) h.1 })
    (λ (r : IsRowOf (map listed_of es) name cookie). (record { name = name; object = r.object; cookie = cookie }, r.listed, (refl, refl)))
    (row-decides name cookie es)
  where
    whole : (e : model.Listed) → e.name ≡ name → e.cookie ≡ cookie → e ≡ record { name = name; object = e.object; cookie = cookie }
    whole e n c = ap (λ (z : List ℕ). record { name = z; object = e.object; cookie = e.cookie }) n ∙ ap (λ (z : ℕ). record { name = name; object = e.object; cookie = z }) c

pub rows-decide : (es : List DirEntry) (rows : List DirRow) → Decides (all_rows es rows) (All (λ (row : DirRow). IsRowOf (map listed_of es) row.name row.cookie) rows)
unfolding all_rows
rows-decide es rows = Decides-by_and (λ (row : DirRow). has_row row.name row.cookie es) (λ (row : DirRow). IsRowOf (map listed_of es) row.name row.cookie) (all_rows es) (λ row. row-of es row.name row.cookie) refl (λ row more. refl) rows

module _ (t : Trace) (n : ℕ) where
  abbrev pub S : model.Server
  S = server_at t n

  abbrev pub T : model.Server
  T = server_at t (suc n)

  -- an entry is what the row shows
  abbrev pub IsPlus : PlusRow → model.Listed → Type 0
  IsPlus row e = (((e.name ≡ row.name) × (e.cookie ≡ row.cookie)) × ShowsHandle row.found e.object) × TrueOf T e.object row.attr

  plus-it : (row : PlusRow) (e : DirEntry) → Decides (is_plus_of t n row e) (IsPlus row (listed_of e))
  unfolding is_plus_of
  plus-it row e =
      Decides-and (bytes_eq e.name row.name && (e.cookie == row.cookie) && shows_handle row.found e.object) (shows_attr t n e.object row.attr)
      (Decides-and (bytes_eq e.name row.name && (e.cookie == row.cookie)) (shows_handle row.found e.object)
      (Decides-and (bytes_eq e.name row.name) (e.cookie == row.cookie) (bytes_eq-Decides e.name row.name) (Decides-eqb e.cookie row.cookie)) (handle-decides t n row.found e.object)) (shows-decides t n e.object row.attr)

  plus-of : (row : PlusRow) (es : List DirEntry) → Decides (has_plus t n row es) (IsPlusRowOf T (map listed_of es) row)
  unfolding has_plus
  plus-of row es =
      Decides-like (has_plus t n row es)
      (λ h. record { entry = record { object = h.0.object; listed = subst (λ (z : model.Listed). model.Lists (map listed_of es) z) (whole h.0 h.2.0.0.0 h.2.0.0.1) h.1 }; handle = h.2.0.1; attributes = h.2.1 })
      (λ (r : IsPlusRowOf T (map listed_of es) row). (record { name = row.name; object = r.entry.object; cookie = row.cookie }, r.entry.listed, (((refl, refl), r.handle), r.attributes)))
      (some-entry (is_plus_of t n row) (IsPlus row) (plus-it row) (has_plus t n row) refl (λ e xs. refl) es)
    where
      whole : (e : model.Listed) → e.name ≡ row.name → e.cookie ≡ row.cookie → e ≡ record { name = row.name; object = e.object; cookie = row.cookie }
      whole e n c = ap (λ (z : List ℕ). record { name = z; object = e.object; cookie = e.cookie }) n ∙ ap (λ (z : ℕ). record { name = row.name; object = e.object; cookie = z }) c

  plus-decide : (es : List DirEntry) (rows : List PlusRow) → Decides (all_plus t n es rows) (All (IsPlusRowOf T (map listed_of es)) rows)
  unfolding all_plus
  plus-decide es rows = Decides-by_and (λ (row : PlusRow). has_plus t n row es) (IsPlusRowOf T (map listed_of es)) (all_plus t n es) (λ row. plus-of row es) refl (λ row more. refl) rows

  -- ---- a directory that is read

  -- the object is a directory of a list of which P holds, and holds it afterwards
  pub record ListsSo (P : List model.Listed → Type 0) (g h : model.Holds) : Type 0 where
    pub entries : List model.Listed
    pub was : g ≡ model.Entries entries
    pub is : h ≡ g
    pub so : P entries

  list-is : (a b : List model.Listed) → model.Entries a ≡ model.Entries b → a ≡ b
  list-is a b e = cc

  module _ (test : List DirEntry → Bool) (P : List model.Listed → Type 0) (each : (es : List DirEntry) → Decides (test es) (P (map listed_of es))) where
    so-decides : (c d : Contents) → Decides (lists_so test c d) (ListsSo P (holds_of c) (holds_of d))
    so-decides (File now stable) d = never (λ (w : ListsSo P (model.Bytes now stable) (holds_of d)). let q : model.Bytes now stable ≡ model.Entries w.entries = w.was in absurd (cc))
    so-decides (Directory es) d =
        Decides-like (test es.items && same_contents (Directory es) d)
        (λ w. record { entries = map listed_of es.items; was = refl; is = w.1; so = w.0 })
        (λ (w : ListsSo P (model.Entries (map listed_of es.items)) (holds_of d)). (subst P (sym (list-is (map listed_of es.items) w.entries w.was)) w.so, w.is))
        (Decides-and (test es.items) (same_contents (Directory es) d) (each es.items) (same-holds (Directory es) d))
    so-decides (Other text) d = never (λ (w : ListsSo P (model.Text text) (holds_of d)). let q : model.Text text ≡ model.Entries w.entries = w.was in absurd (cc))

  to-reads : (P : List model.Listed → Type 0) (d : List ℕ) (attr : Option Attr) (w : TurnsBy (ListsSo P) S T d) → Only (λ other. other ≡ d) S T → TrueOf T d attr → ReadsDir S T d attr w.holds.entries
  to-reads P d attr w o shows = record {
    looks = record { reads = record { object = w.old; turns = turned S T d w.old w.new.holds w.old.holds w.holds.is (to-turns (ListsSo P) S T d w) }; only = o };
    holds = w.holds.was;
    shows = shows;
  }

  from-reads : (P : List model.Listed → Type 0) (d : List ℕ) (attr : Option Attr) (entries : List model.Listed) → ReadsDir S T d attr entries → P entries → TurnsBy (ListsSo P) S T d
  from-reads P d attr entries r p = from-turns (ListsSo P) S T d r.looks.reads.object r.looks.reads.object.holds r.looks.reads.turns (record { entries = entries; was = r.holds; is = refl; so = p })

  some-rows : (count : ℕ) (eof : Bool) → Decides (nat_le 1 count || eof) ((1 ≤ count) ⊎ (eof ≡ true))
  some-rows count eof = Decides-or (nat_le 1 count) eof (le-decides 1 count) ((λ e. e), (λ e. e))

  abbrev pub NameRows : List DirRow → List model.Listed → Type 0
  NameRows rows entries = All (λ (row : DirRow). IsRowOf entries row.name row.cookie) rows

  abbrev pub PlusRows : List PlusRow → List model.Listed → Type 0
  PlusRows rows entries = All (IsPlusRowOf T entries) rows

  pub readdir-done : (d : List ℕ) (attr : Option Attr) (rows : List DirRow) (eof : Bool) → Decides (lists_names t n d attr rows eof) (ListsNames S T d attr rows eof)
  unfolding lists_names
  readdir-done d attr rows eof =
      Decides-like (turns (lists_so (λ es. all_rows es rows)) t n d && only (is_one d d d) t n && shows_attr t n d attr && (nat_le 1 (length rows) || eof))
      (λ w. let u : TurnsBy (ListsSo (NameRows rows)) S T d = w.0.0.0 in record { entries = u.holds.entries; reads = to-reads (NameRows rows) d attr u w.0.0.1 w.0.1; each = u.holds.so; some = w.1 })
      (λ (w : ListsNames S T d attr rows eof). (((from-reads (NameRows rows) d attr w.entries w.reads w.each, w.reads.looks.only), w.reads.shows), w.some))
      (Decides-and (turns (lists_so (λ es. all_rows es rows)) t n d && only (is_one d d d) t n && shows_attr t n d attr) (nat_le 1 (length rows) || eof)
      (Decides-and (turns (lists_so (λ es. all_rows es rows)) t n d && only (is_one d d d) t n) (shows_attr t n d attr)
      (Decides-and (turns (lists_so (λ es. all_rows es rows)) t n d) (only (is_one d d d) t n)
      (turns-decides (lists_so (λ es. all_rows es rows)) (ListsSo (NameRows rows)) (so-decides (λ es. all_rows es rows) (NameRows rows) (λ es. rows-decide es rows)) t n d) (only-one t n d)) (shows-decides t n d attr)) (some-rows (length rows) eof))

  pub readdirplus-done : (d : List ℕ) (attr : Option Attr) (rows : List PlusRow) (eof : Bool) → Decides (lists_objects t n d attr rows eof) (ListsObjects S T d attr rows eof)
  unfolding lists_objects
  readdirplus-done d attr rows eof =
      Decides-like (turns (lists_so (λ es. all_plus t n es rows)) t n d && only (is_one d d d) t n && shows_attr t n d attr && (nat_le 1 (length rows) || eof))
      (λ w. let u : TurnsBy (ListsSo (PlusRows rows)) S T d = w.0.0.0 in record { entries = u.holds.entries; reads = to-reads (PlusRows rows) d attr u w.0.0.1 w.0.1; each = u.holds.so; some = w.1 })
      (λ (w : ListsObjects S T d attr rows eof). (((from-reads (PlusRows rows) d attr w.entries w.reads w.each, w.reads.looks.only), w.reads.shows), w.some))
      (Decides-and (turns (lists_so (λ es. all_plus t n es rows)) t n d && only (is_one d d d) t n && shows_attr t n d attr) (nat_le 1 (length rows) || eof)
      (Decides-and (turns (lists_so (λ es. all_plus t n es rows)) t n d && only (is_one d d d) t n) (shows_attr t n d attr)
      (Decides-and (turns (lists_so (λ es. all_plus t n es rows)) t n d) (only (is_one d d d) t n)
      (turns-decides (lists_so (λ es. all_plus t n es rows)) (ListsSo (PlusRows rows)) (so-decides (λ es. all_plus t n es rows) (PlusRows rows) (λ es. plus-decide es rows)) t n d) (only-one t n d)) (shows-decides t n d attr)) (some-rows (length rows) eof))
