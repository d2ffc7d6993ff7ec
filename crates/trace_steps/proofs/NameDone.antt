-- The tests decide what a server may do with a name that is looked up or made.
use Rattle.std.proofs.Common.{◌≡◌, ◌⊎◌, inl, inr, ◌==◌, ℕ, suc, Bool, true, false, true≢false, List, [], length, map, Option, Some, None, slice_get, refl, sym, ◌∙◌, ap, subst}
use Rattle.std.specs.Prelude.{Decides, ◌&&◌, ◌||◌, not, if◌then◌else◌}
use Rattle.std.specs.Option.{option_map}
use Rattle.std.specs.Str.{bytes_eq}
use Rattle.std.proofs.lemmas.Option.{slice_get_within}
use Rattle.std.proofs.lemmas.Bool.Decides.{Decides-like, Decides-and, Decides-or, Decides-eqb}
use Rattle.std.proofs.lemmas.Slice.Eq.{bytes_eq-Decides}
use Rattle.nfs_types.specs.declared.attr.Attr.{Attr}
use Rattle.nfs_types.specs.declared.status.Status.{Status}
use Rattle.nfs_types.specs.declared.wcc.Wcc.{Wcc}
use Rattle.nfs_types.specs.declared.set_attr.SetAttr.{SetAttr}
use Rattle.nfs_dir_calls.specs.declared.call.DirCall.{DirCall}
use Rattle.nfs_dir_calls.specs.declared.call.DirCall.TheVariants as dirs
use Rattle.nfs_dir_calls.specs.declared.create.Making.{Making}
use Rattle.nfs_dir_calls.specs.declared.create.Making.TheVariants as makings
use Rattle.nfs_dir_calls.specs.declared.mknod.Node.{Node}
use Rattle.world_model.specs.Server as model
use Rattle.world_model.specs.Names.{Lacks, Enters, IsBare}
use Rattle.world_model.specs.Steps.{Same, Only, Reads, TrueOf, TrueWcc}
use Rattle.world_model.specs.FileService.{HoldsSized}
use Rattle.world_model.specs.NameService.{LooksUp, ReadsLink, Relists, Begins, ShowsHandle, Shown, Makes, Meets, Creates, MakesDir, MakesLink, MakesNode, Links, new_bytes, new_file, keeps_all, kind_of}
use Rattle.world_model.specs.Service.{RefusesWcc}
use Rattle.trace_data.specs.declared.trace.Contents.{Contents}
use Rattle.trace_data.specs.declared.trace.Contents.TheVariants.{File, Directory, Other}
use Rattle.trace_data.specs.declared.trace.DirEntry.{DirEntry}
use Rattle.trace_data.specs.declared.trace.Object.{Object}
use Rattle.trace_data.specs.declared.trace.Trace.{Trace}
use Rattle.trace_data.specs.Histories.{listed_of, holds_of, object_of, server_at}
use Rattle.trace_rules.specs.Decided.{any_below}
use Rattle.trace_rules.specs.Keeping.{same_contents, is_other}
use Rattle.trace_rules.proofs.Below.{any_below-decides}
use Rattle.trace_rules.proofs.Combining.{always, never}
use Rattle.trace_rules.proofs.Unchanged.{now-of, stable-of, contents-decides}
use Rattle.trace_steps.specs.MomentTests.{before, after, is_one, only}
use Rattle.trace_steps.specs.TurnTests.{turns, reads, is_sized, shows_attr, showed_attr, shows_wcc, showed_wcc}
use Rattle.trace_steps.specs.ListTests.{has_entry, lacks, is_bare, is_without}
use Rattle.trace_steps.specs.FileTests.{refuses}
use Rattle.trace_steps.specs.NameTests.{entries_of, list_there, in_list, had_name, looks_up, is_text, reads_link, are_new, new_file_of, is_made_file, is_made_dir, is_made, made_kind, is_new, begins, if_row, enters_at, makes_row, makes_at, makes_among, lists_with, makes, is_met, meets_it, meets_one, meets, shows_handle, is_shown, shows_one, shows, may_meet, creates, makes_other, links_row, links_at, links_among, links, refuses_link}
use Rattle.trace_steps.proofs.Sparing.{only-one, only-two}
use Rattle.trace_steps.proofs.Turned.{TurnsBy, turns-decides, to-turns, from-turns, turned, same-holds, reads-decides, sized-decides, shows-decides, showed-decides, wcc-decides, wcc-before}
use Rattle.trace_steps.proofs.FileDone.{refuses-decides}
use Rattle.trace_steps.proofs.Entering as entering
use Rattle.trace_steps.proofs.Listing.{Has, some-entry, IsEntry, has-decides, lacks-decides, bare-decides, without-decides-at, map-get, map-got}

-- ---- the list of a directory

-- a directory that is there, with a list of which P holds
pub record HasList (P : List model.Listed → Type 0) (s : model.Server) (d : List ℕ) : Type 0 where
  pub dir : model.Object
  pub entries : List model.Listed
  pub is : s.object d ≡ Some dir
  pub there : dir.gone ≡ false
  pub holds : dir.holds ≡ model.Entries entries
  pub passes : P entries

list-is : (a b : List model.Listed) → model.Entries a ≡ model.Entries b → a ≡ b
list-is a b e = cc

not-file : (now stable : List ℕ) (entries : List model.Listed) → model.Bytes now stable ≡ model.Entries entries → ⊥
not-file now stable entries e = cc

not-other : (text : List ℕ) (entries : List model.Listed) → model.Text text ≡ model.Entries entries → ⊥
not-other text entries e = cc

some-object : (a b : model.Object) → Some a ≡ Some b → a ≡ b
some-object a b e = cc

module _ (test : List DirEntry → Bool) (P : List model.Listed → Type 0) (each : (es : List DirEntry) → Decides (test es) (P (map listed_of es))) where
  -- the same of an option of an object
  pub record InList (x : Option model.Object) : Type 0 where
    pub dir : model.Object
    pub entries : List model.Listed
    pub is : x ≡ Some dir
    pub there : dir.gone ≡ false
    pub holds : dir.holds ≡ model.Entries entries
    pub passes : P entries

  -- the same of what an object holds, if it isn't gone
  pub record Holding (gone : Bool) (h : model.Holds) : Type 0 where
    pub there : gone ≡ false
    pub entries : List model.Listed
    pub holds : h ≡ model.Entries entries
    pub passes : P entries

  in-contents : (gone : Bool) (c : Contents) → Decides (in_list test (if gone then None else entries_of c)) (Holding gone (holds_of c))
  in-contents true c = never (λ (w : Holding true (holds_of c)). true≢false w.there)
  in-contents false (File now stable) = never (λ (w : Holding false (model.Bytes now stable)). not-file now stable w.entries w.holds)
  in-contents false (Directory es) =
      Decides-like (test es.items)
      (λ p. record { there = refl; entries = map listed_of es.items; holds = refl; passes = p })
      (λ (w : Holding false (model.Entries (map listed_of es.items))). subst P (sym (list-is (map listed_of es.items) w.entries w.holds)) w.passes)
      (each es.items)
  in-contents false (Other text) = never (λ (w : Holding false (model.Text text)). not-other text w.entries w.holds)

  in-option : (x : Option Object) → Decides (in_list test (list_there x)) (InList (option_map object_of x))
  in-option None = never (λ (w : InList None). let e : None ≡ Some w.dir = w.is in absurd (cc))
  in-option (Some o) =
      Decides-like (in_list test (if o.gone then None else entries_of o.contents))
      (λ (w : Holding o.gone (holds_of o.contents)). record { dir = object_of o; entries = w.entries; is = refl; there = w.there; holds = w.holds; passes = w.passes })
      (λ (w : InList (Some (object_of o))). from w (some-object (object_of o) w.dir w.is))
      (in-contents o.gone o.contents)
    where
      from : (w : InList (Some (object_of o))) → object_of o ≡ w.dir → Holding o.gone (holds_of o.contents)
      from w e = record { there = ap (λ (z : model.Object). z.gone) e ∙ w.there; entries = w.entries; holds = ap (λ (z : model.Object). z.holds) e ∙ w.holds; passes = w.passes }

  to-list : (s : model.Server) (d : List ℕ) (x : Option model.Object) → s.object d ≡ x → InList x → HasList P s d
  to-list s d x e w = record { dir = w.dir; entries = w.entries; is = e ∙ w.is; there = w.there; holds = w.holds; passes = w.passes }

  from-list : (s : model.Server) (d : List ℕ) (x : Option model.Object) → s.object d ≡ x → HasList P s d → InList x
  from-list s d x e w = record { dir = w.dir; entries = w.entries; is = sym e ∙ w.is; there = w.there; holds = w.holds; passes = w.passes }

  pub list-before : (t : Trace) (n : ℕ) (d : List ℕ) → Decides (in_list test (list_there (before t n d))) (HasList P (server_at t n) d)
  unfolding before
  list-before t n d = Decides-like (in_list test (list_there (before t n d))) (λ w. to-list (server_at t n) d (option_map object_of (before t n d)) refl w) (λ w. from-list (server_at t n) d (option_map object_of (before t n d)) refl w) (in-option (before t n d))

  pub list-after : (t : Trace) (n : ℕ) (d : List ℕ) → Decides (in_list test (list_there (after t n d))) (HasList P (server_at t (suc n)) d)
  unfolding after
  list-after t n d = Decides-like (in_list test (list_there (after t n d))) (λ w. to-list (server_at t (suc n)) d (option_map object_of (after t n d)) refl w) (λ w. from-list (server_at t (suc n)) d (option_map object_of (after t n d)) refl w) (in-option (after t n d))

-- ---- names that are there

as-listed : (e : model.Listed) (name h : List ℕ) → e.name ≡ name → e.object ≡ h → e ≡ record { name = name; object = h; cookie = e.cookie }
as-listed e name h n o = ap (λ (z : List ℕ). record { name = z; object = e.object; cookie = e.cookie }) n ∙ ap (λ (z : List ℕ). record { name = name; object = z; cookie = e.cookie }) o

pub to-name : (s : model.Server) (d name h : List ℕ) → HasList (Has (IsEntry name h)) s d → model.HasName s d name h
to-name s d name h w = record {
  names = record {
    dir = w.dir;
    entries = w.entries;
    cookie = w.passes.0.cookie;
    is = w.is;
    holds = w.holds;
    listed = subst (λ (z : model.Listed). model.Lists w.entries z) (as-listed w.passes.0 name h w.passes.2.0 w.passes.2.1) w.passes.1;
  };
  there = w.there;
}

pub from-name : (s : model.Server) (d name h : List ℕ) → model.HasName s d name h → HasList (Has (IsEntry name h)) s d
from-name s d name h w = record {
  dir = w.names.dir;
  entries = w.names.entries;
  is = w.names.is;
  there = w.there;
  holds = w.names.holds;
  passes = (record { name = name; object = h; cookie = w.names.cookie }, w.names.listed, (refl, refl));
}

pub had-decides : (t : Trace) (n : ℕ) (d name h : List ℕ) → Decides (had_name t n d name h) (model.HasName (server_at t n) d name h)
unfolding had_name
had-decides t n d name h =
    Decides-like (in_list (λ es. has_entry name h es) (list_there (before t n d)))
    (λ w. to-name (server_at t n) d name h w)
    (λ w. from-name (server_at t n) d name h w)
    (list-before (λ es. has_entry name h es) (Has (IsEntry name h)) (λ es. has-decides name h es) t n d)

-- ---- LOOKUP and READLINK

pub lookup-done : (t : Trace) (n : ℕ) (d name object : List ℕ) (attr dir : Option Attr) → Decides (looks_up t n d name object attr dir) (LooksUp (server_at t n) (server_at t (suc n)) d name object attr dir)
unfolding looks_up
lookup-done t n d name object attr dir =
    Decides-like (had_name t n d name object && reads t n d && reads t n object && only (is_one d object object) t n && shows_attr t n object attr && shows_attr t n d dir)
    (λ w. let r : Reads (server_at t n) (server_at t (suc n)) object = w.0.0.0.1 in record { named = w.0.0.0.0.0; reads = w.0.0.0.0.1; only = w.0.0.1; object = r.object; there = r.turns.has.is; turns = r.turns; shows = w.0.1; shows_dir = w.1 })
    (λ (w : LooksUp (server_at t n) (server_at t (suc n)) d name object attr dir). (((((w.named, w.reads), record { object = w.object; turns = w.turns }), w.only), w.shows), w.shows_dir))
    (Decides-and (had_name t n d name object && reads t n d && reads t n object && only (is_one d object object) t n && shows_attr t n object attr) (shows_attr t n d dir)
    (Decides-and (had_name t n d name object && reads t n d && reads t n object && only (is_one d object object) t n) (shows_attr t n object attr)
    (Decides-and (had_name t n d name object && reads t n d && reads t n object) (only (is_one d object object) t n)
    (Decides-and (had_name t n d name object && reads t n d) (reads t n object)
    (Decides-and (had_name t n d name object) (reads t n d) (had-decides t n d name object) (reads-decides t n d)) (reads-decides t n object)) (only-two t n d object)) (shows-decides t n object attr)) (shows-decides t n d dir))

abbrev pub IsText : List ℕ → model.Holds → model.Holds → Type 0
IsText text g h = (g ≡ model.Text text) × (h ≡ g)

other-decides : (text : List ℕ) (c : Contents) → Decides (is_other text c) (holds_of c ≡ model.Text text)
other-decides text c = Decides-like (is_other text c) (λ e. sym e) (λ e. sym e) (contents-decides (Other text) c)

text-decides : (text : List ℕ) (c d : Contents) → Decides (is_text text c d) (IsText text (holds_of c) (holds_of d))
text-decides text c d = Decides-and (is_other text c) (same_contents c d) (other-decides text c) (same-holds c d)

pub readlink-done : (t : Trace) (n : ℕ) (f : List ℕ) (attr : Option Attr) (text : List ℕ) → Decides (reads_link t n f attr text) (ReadsLink (server_at t n) (server_at t (suc n)) f attr text)
unfolding reads_link
readlink-done t n f attr text =
    Decides-like (turns (is_text text) t n f && only (is_one f f f) t n && shows_attr t n f attr)
    (λ w. to w.0.0 w.0.1 w.1)
    (λ (w : ReadsLink (server_at t n) (server_at t (suc n)) f attr text). ((from w, w.looks.only), w.shows))
    (Decides-and (turns (is_text text) t n f && only (is_one f f f) t n) (shows_attr t n f attr)
    (Decides-and (turns (is_text text) t n f) (only (is_one f f f) t n) (turns-decides (is_text text) (IsText text) (text-decides text) t n f) (only-one t n f)) (shows-decides t n f attr))
  where
    to : TurnsBy (IsText text) (server_at t n) (server_at t (suc n)) f → Only (λ other. other ≡ f) (server_at t n) (server_at t (suc n)) → TrueOf (server_at t (suc n)) f attr → ReadsLink (server_at t n) (server_at t (suc n)) f attr text
    to w o shows = record {
      looks = record { reads = record { object = w.old; turns = turned (server_at t n) (server_at t (suc n)) f w.old w.new.holds w.old.holds w.holds.1 (to-turns (IsText text) (server_at t n) (server_at t (suc n)) f w) }; only = o };
      is = w.holds.0;
      shows = shows;
    }

    from : ReadsLink (server_at t n) (server_at t (suc n)) f attr text → TurnsBy (IsText text) (server_at t n) (server_at t (suc n)) f
    from w = from-turns (IsText text) (server_at t n) (server_at t (suc n)) f w.looks.reads.object w.looks.reads.object.holds w.looks.reads.turns (w.is, refl)

-- ---- an object that comes to be

new-decides : (size : Option ℕ) (c : Contents) → Decides (new_file_of size c) (holds_of c ≡ new_file size)
unfolding are_new
new-decides size (File now stable) =
    Decides-like (are_new size now && are_new size stable)
    (λ w i. model.Bytes (w.0 i) (w.1 i))
    (λ e. (now-of now stable (new_bytes size) (new_bytes size) e, stable-of now stable (new_bytes size) (new_bytes size) e))
    (Decides-and (are_new size now) (are_new size stable) (bytes_eq-Decides now (new_bytes size)) (bytes_eq-Decides stable (new_bytes size)))
new-decides size (Directory entries) = never (λ e. cc)
new-decides size (Other text) = never (λ e. cc)

-- what a new file holds
abbrev pub MadeFile : Making → model.Holds → Type 0
MadeFile (makings.Unchecked set) h = h ≡ new_file set.size
MadeFile (makings.Guarded set) h = h ≡ new_file set.size
MadeFile (makings.Exclusive verf) h = h ≡ new_file None

-- what the object holds that a call makes
abbrev pub MadeBy : DirCall → model.Holds → Type 0
MadeBy (dirs.Create d name making) h = MadeFile making h
MadeBy (dirs.MkDir d name set) h = (own : List model.Listed) × (h ≡ model.Entries own) × IsBare own
MadeBy (dirs.SymLink d name set target) h = h ≡ model.Text target
MadeBy (dirs.MkNod d name node) h = h ≡ model.Text []
MadeBy call h = ⊥

file-made : (making : Making) (c : Contents) → Decides (is_made_file making c) (MadeFile making (holds_of c))
file-made (makings.Unchecked set) c = new-decides set.size c
file-made (makings.Guarded set) c = new-decides set.size c
file-made (makings.Exclusive verf) c = new-decides None c

dir-made : (c : Contents) → Decides (is_made_dir c) ((own : List model.Listed) × (holds_of c ≡ model.Entries own) × IsBare own)
dir-made (File now stable) = never (λ w. not-file now stable w.0 w.1)
dir-made (Directory entries) =
    Decides-like (is_bare entries.items)
    (λ b. (map listed_of entries.items, refl, b))
    (λ w. subst IsBare (sym (list-is (map listed_of entries.items) w.0 w.1)) w.2)
    (bare-decides entries.items)
dir-made (Other text) = never (λ w. not-other text w.0 w.1)

made-decides : (call : DirCall) (c : Contents) → Decides (is_made call c) (MadeBy call (holds_of c))
made-decides (dirs.Create d name making) c = file-made making c
made-decides (dirs.MkDir d name set) c = dir-made c
made-decides (dirs.SymLink d name set target) c = other-decides target c
made-decides (dirs.MkNod d name node) c = other-decides [] c
made-decides (dirs.Lookup d name) c = never (λ w. w)
made-decides (dirs.ReadLink f) c = never (λ w. w)
made-decides (dirs.Remove d name) c = never (λ w. w)
made-decides (dirs.RmDir d name) c = never (λ w. w)
made-decides (dirs.Rename d old e new) c = never (λ w. w)
made-decides (dirs.Link f d name) c = never (λ w. w)
made-decides (dirs.ReadDir d cookie verf count) c = never (λ w. w)
made-decides (dirs.ReadDirPlus d cookie verf dircount maxcount) c = never (λ w. w)

-- the object begins as the call makes it
pub record BeginsBy (call : DirCall) (s t : model.Server) (h : List ℕ) : Type 0 where
  pub holds : model.Holds
  pub made : MadeBy call holds
  pub begins : Begins s t h (made_kind call) holds

no-object : (x : Option Object) → option_map object_of x ≡ None → x ≡ None
no-object None e = refl
no-object (Some o) e = absurd (cc)

not-gone : (b : Bool) → Decides (not b) (b ≡ false)
not-gone true = never (λ e. absurd (true≢false e))
not-gone false = always refl

-- the same of two options of objects
pub record NewBy (call : DirCall) (x y : Option model.Object) : Type 0 where
  pub never : x ≡ None
  pub new : model.Object
  pub is : y ≡ Some new
  pub there : new.gone ≡ false
  pub kind_is : new.attr.kind ≡ made_kind call
  pub made : MadeBy call new.holds

new-by : (call : DirCall) (x y : Option Object) → Decides (is_new call x y) (NewBy call (option_map object_of x) (option_map object_of y))
new-by call None None = never (λ (w : NewBy call None None). let e : None ≡ Some w.new = w.is in absurd (cc))
new-by call None (Some o) =
    Decides-like (not o.gone && (o.attr.kind == made_kind call) && is_made call o.contents)
    (λ w. record { never = refl; new = object_of o; is = refl; there = w.0.0; kind_is = w.0.1; made = w.1 })
    (λ (w : NewBy call None (Some (object_of o))). from w (some-object (object_of o) w.new w.is))
    (Decides-and (not o.gone && (o.attr.kind == made_kind call)) (is_made call o.contents)
    (Decides-and (not o.gone) (o.attr.kind == made_kind call) (not-gone o.gone) (Decides-eqb o.attr.kind (made_kind call))) (made-decides call o.contents))
  where
    from : (w : NewBy call None (Some (object_of o))) → object_of o ≡ w.new → ((o.gone ≡ false) × (o.attr.kind ≡ made_kind call)) × MadeBy call (holds_of o.contents)
    from w e = ((ap (λ (z : model.Object). z.gone) e ∙ w.there, ap (λ (z : model.Object). z.attr.kind) e ∙ w.kind_is), subst (λ (z : model.Object). MadeBy call z.holds) (sym e) w.made)
new-by call (Some o) y = never (λ (w : NewBy call (Some (object_of o)) (option_map object_of y)). let e : Some (object_of o) ≡ None = w.never in absurd (cc))

begins-decides : (t : Trace) (n : ℕ) (call : DirCall) (h : List ℕ) → Decides (begins t n call h) (BeginsBy call (server_at t n) (server_at t (suc n)) h)
unfolding begins before after
begins-decides t n call h =
    Decides-like (is_new call (before t n h) (after t n h))
    (λ w. record { holds = w.new.holds; made = w.made; begins = record { never = w.never; new = w.new; is = w.is; there = w.there; kind_is = w.kind_is; holds_is = refl } })
    (λ (w : BeginsBy call (server_at t n) (server_at t (suc n)) h). record {
      never = w.begins.never;
      new = w.begins.new;
      is = w.begins.is;
      there = w.begins.there;
      kind_is = w.begins.kind_is;
      made = subst (MadeBy call) (sym w.begins.holds_is) w.made;
    })
    (new-by call (before t n h) (after t n h))

-- ---- names that enter

-- both objects are directories, and R holds of their lists
pub record ListsBy (R : List model.Listed → List model.Listed → Type 0) (g h : model.Holds) : Type 0 where
  pub old : List model.Listed
  pub new : List model.Listed
  pub was : g ≡ model.Entries old
  pub is : h ≡ model.Entries new
  pub so : R old new

module _ (test : List DirEntry → List DirEntry → Bool) (R : List model.Listed → List model.Listed → Type 0) (each : (a b : List DirEntry) → Decides (test a b) (R (map listed_of a) (map listed_of b))) where
  pub lists-decide : (c d : Contents) → Decides (lists_with test c d) (ListsBy R (holds_of c) (holds_of d))
  lists-decide (File now stable) d = never (λ (w : ListsBy R (model.Bytes now stable) (holds_of d)). not-file now stable w.old w.was)
  lists-decide (Directory a) (File now stable) = never (λ (w : ListsBy R (model.Entries (map listed_of a.items)) (model.Bytes now stable)). not-file now stable w.new w.is)
  lists-decide (Directory a) (Directory b) =
      Decides-like (test a.items b.items)
      (λ r. record { old = map listed_of a.items; new = map listed_of b.items; was = refl; is = refl; so = r })
      (λ (w : ListsBy R (model.Entries (map listed_of a.items)) (model.Entries (map listed_of b.items))). subst (λ (z : List model.Listed). R z (map listed_of b.items)) (sym (list-is (map listed_of a.items) w.old w.was)) (subst (λ (z : List model.Listed). R w.old z) (sym (list-is (map listed_of b.items) w.new w.is)) w.so))
      (each a.items b.items)
  lists-decide (Directory a) (Other text) = never (λ (w : ListsBy R (model.Entries (map listed_of a.items)) (model.Text text)). not-other text w.new w.is)
  lists-decide (Other text) d = never (λ (w : ListsBy R (model.Text text) (holds_of d)). not-other text w.old w.was)

pub to-relists : (R : List model.Listed → List model.Listed → Type 0) (s t : model.Server) (d : List ℕ) (w : TurnsBy (ListsBy R) s t d) → Relists s t d w.holds.old w.holds.new
to-relists R s t d w = record { dir = w.old; held = w.holds.was; turns = turned s t d w.old w.new.holds (model.Entries w.holds.new) w.holds.is (to-turns (ListsBy R) s t d w) }

pub from-relists : (R : List model.Listed → List model.Listed → Type 0) (s t : model.Server) (d : List ℕ) (old new : List model.Listed) → Relists s t d old new → R old new → TurnsBy (ListsBy R) s t d
from-relists R s t d old new w r = from-turns (ListsBy R) s t d w.dir (model.Entries new) w.turns (record { old = old; new = new; was = w.held; is = refl; so = r })

-- a row at some place of a list, of which P holds
abbrev pub SomeRow : (ℕ → model.Listed → Type 0) → List model.Listed → Type 0
SomeRow P es = (k : ℕ) × (row : model.Listed) × (slice_get es k ≡ Some row) × P k row

module _ (test : ℕ → DirEntry → Bool) (P : ℕ → model.Listed → Type 0) (each : (k : ℕ) (e : DirEntry) → Decides (test k e) (P k (listed_of e))) where
  abbrev At : List DirEntry → ℕ → Type 0
  At es k = (row : model.Listed) × (slice_get (map listed_of es) k ≡ Some row) × P k row

  at-decides : (es : List DirEntry) (k : ℕ) → Decides (if_row (test k) (slice_get es k)) (At es k)
  at-decides es k = by (slice_get es k) refl
    where
      same-row : (a b : DirEntry) → Some a ≡ Some b → a ≡ b
      same-row a b q = cc

      by : (o : Option DirEntry) → slice_get es k ≡ o → Decides (if_row (test k) o) (At es k)
      by None e = never (λ w. let g = map-got es k w.0 w.1 in let q : None ≡ Some g.0 = sym e ∙ g.1 in absurd (cc))
      by (Some row) e =
          Decides-like (test k row)
          (λ p. (listed_of row, map-get es k row e, p))
          (λ w. let g = map-got es k w.0 w.1 in subst (λ (z : model.Listed). P k z) (sym (ap listed_of (same-row row g.0 (sym e ∙ g.1)) ∙ g.2)) w.2)
          (each k row)

  pub row-somewhere : (es : List DirEntry) → Decides (any_below (λ k. if_row (test k) (slice_get es k)) (length es)) (SomeRow P (map listed_of es))
  row-somewhere es =
      Decides-like (any_below (λ k. if_row (test k) (slice_get es k)) (length es))
      (λ w. (w.0, w.2.0, w.2.1, w.2.2))
      (λ w. let g = map-got es w.0 w.1 w.2 in (w.0, slice_get_within es w.0 g.0 g.1, (w.1, w.2, w.3)))
      (any_below-decides (λ k. if_row (test k) (slice_get es k)) (λ k. At es k) (λ k. at-decides es k) (length es))

-- the name entered at the place k
abbrev pub EntersAt : List ℕ → List model.Listed → List model.Listed → ℕ → model.Listed → Type 0
EntersAt name old new k row = ((row.name ≡ name) × (old ≡ entering.without k new)) × Lacks old name

enters-decide : (name : List ℕ) (old new : List DirEntry) (k : ℕ) (row : DirEntry) → Decides (enters_at name old new k row) (EntersAt name (map listed_of old) (map listed_of new) k (listed_of row))
unfolding enters_at
enters-decide name old new k row =
    Decides-and (bytes_eq row.name name && is_without k new old) (lacks name old)
    (Decides-and (bytes_eq row.name name) (is_without k new old) (bytes_eq-Decides row.name name) (without-decides-at k new old)) (lacks-decides name old)

pub to-enters : (name : List ℕ) (old new : List model.Listed) (k : ℕ) (row : model.Listed) → slice_get new k ≡ Some row → EntersAt name old new k row → Enters name row.object old new
to-enters name old new k row at w = entering.enters name row.object k old new (record { row = row; at = at; named = w.0.0; of = refl; rest = w.0.1 }) w.1

module _ (t : Trace) (n : ℕ) where
  abbrev pub S : model.Server
  S = server_at t n

  abbrev pub T : model.Server
  T = server_at t (suc n)

  abbrev pub MakesRow : DirCall → List ℕ → List ℕ → List model.Listed → List model.Listed → ℕ → model.Listed → Type 0
  MakesRow call d name old new k row = (EntersAt name old new k row × BeginsBy call S T row.object) × Only (λ h. (h ≡ d) ⊎ (h ≡ row.object)) S T

  abbrev pub MakesAmong : DirCall → List ℕ → List ℕ → List model.Listed → List model.Listed → Type 0
  MakesAmong call d name old new = SomeRow (MakesRow call d name old new) new

  row-makes : (call : DirCall) (d name : List ℕ) (old new : List DirEntry) (k : ℕ) (row : DirEntry) → Decides (makes_row t n call d name old new k row) (MakesRow call d name (map listed_of old) (map listed_of new) k (listed_of row))
  unfolding makes_row
  row-makes call d name old new k row =
      Decides-and (enters_at name old new k row && begins t n call row.object) (only (is_one d row.object row.object) t n)
      (Decides-and (enters_at name old new k row) (begins t n call row.object) (enters-decide name old new k row) (begins-decides t n call row.object)) (only-two t n d row.object)

  makes-somewhere : (call : DirCall) (d name : List ℕ) (old new : List DirEntry) → Decides (makes_among t n call d name old new) (MakesAmong call d name (map listed_of old) (map listed_of new))
  unfolding makes_among makes_at
  makes-somewhere call d name old new = row-somewhere (λ k row. makes_row t n call d name old new k row) (MakesRow call d name (map listed_of old) (map listed_of new)) (λ k row. row-makes call d name old new k row) new

  -- an object that the call makes enters under the name
  pub record MakesBy (call : DirCall) (d name : List ℕ) : Type 0 where
    pub holds : model.Holds
    pub made : MadeBy call holds
    pub makes : Makes S T d name (made_kind call) holds

  to-makes : (call : DirCall) (d name : List ℕ) → TurnsBy (ListsBy (MakesAmong call d name)) S T d → MakesBy call d name
  to-makes call d name w =
      let so = w.holds.so in
      let row : model.Listed = so.1 in
      let b : BeginsBy call S T row.object = so.3.0.1 in record {
        holds = b.holds;
        made = b.made;
        makes = record {
          object = row.object;
          old = w.holds.old;
          new = w.holds.new;
          relists = to-relists (MakesAmong call d name) S T d w;
          enters = to-enters name w.holds.old w.holds.new so.0 row so.2 so.3.0.0;
          begins = b.begins;
          only = so.3.1;
        };
      }

  from-makes : (call : DirCall) (d name : List ℕ) → MakesBy call d name → TurnsBy (ListsBy (MakesAmong call d name)) S T d
  from-makes call d name w =
      let m : Makes S T d name (made_kind call) w.holds = w.makes in
      let e = entering.entered name m.object m.old m.new m.enters in
      from-relists (MakesAmong call d name) S T d m.old m.new m.relists (e.0, e.1.row, e.1.at, rows call d name w m.old e.0 e.1.row m.new e.1.of (((e.1.named, e.1.rest), m.enters.fresh)) m.begins m.only)
    where
      rows : (call : DirCall) (d name : List ℕ) (w : MakesBy call d name) (old : List model.Listed) (k : ℕ) (row : model.Listed) (new : List model.Listed) → row.object ≡ w.makes.object → EntersAt name old new k row → Begins S T w.makes.object (made_kind call) w.holds → Only (λ h. (h ≡ d) ⊎ (h ≡ w.makes.object)) S T → MakesRow call d name old new k row
      rows call d name w old k row new of enters begins o = (
        (enters, subst (λ (z : List ℕ). BeginsBy call S T z) (sym of) (record { holds = w.holds; made = w.made; begins = begins })),
        subst (λ (z : List ℕ). Only (λ h. (h ≡ d) ⊎ (h ≡ z)) S T) (sym of) o,
      )

  pub makes-decides : (call : DirCall) (d name : List ℕ) → Decides (makes t n call d name) (MakesBy call d name)
  unfolding makes
  makes-decides call d name =
      Decides-like (turns (lists_with (λ old new. makes_among t n call d name old new)) t n d)
      (λ w. to-makes call d name w)
      (λ w. from-makes call d name w)
      (turns-decides (lists_with (λ old new. makes_among t n call d name old new)) (ListsBy (MakesAmong call d name)) (lists-decide (λ old new. makes_among t n call d name old new) (MakesAmong call d name) (λ a b. makes-somewhere call d name a b)) t n d)

  -- ---- a file that is there

  pub record MetFile (size : Option ℕ) (g h : model.Holds) : Type 0 where
    pub now : List ℕ
    pub stable : List ℕ
    pub was : g ≡ model.Bytes now stable
    pub sized : HoldsSized size g h

  met-decides : (size : Option ℕ) (c d : Contents) → Decides (is_met size c d) (MetFile size (holds_of c) (holds_of d))
  met-decides size (File now stable) d = Decides-like (is_sized size (File now stable) d) (λ w. record { now = now; stable = stable; was = refl; sized = w }) (λ (w : MetFile size (model.Bytes now stable) (holds_of d)). w.sized) (sized-decides size (File now stable) d)
  met-decides size (Directory entries) d = never (λ (w : MetFile size (model.Entries (map listed_of entries.items)) (holds_of d)). let q : model.Entries (map listed_of entries.items) ≡ model.Bytes w.now w.stable = w.was in absurd (cc))
  met-decides size (Other text) d = never (λ (w : MetFile size (model.Text text) (holds_of d)). let q : model.Text text ≡ model.Bytes w.now w.stable = w.was in absurd (cc))

  abbrev pub MeetsIt : List ℕ → List ℕ → Option ℕ → model.Listed → Type 0
  MeetsIt d name size e = ((e.name ≡ name) × TurnsBy (MetFile size) S T e.object) × Only (λ h. (h ≡ d) ⊎ (h ≡ e.object)) S T

  it-meets : (d name : List ℕ) (size : Option ℕ) (e : DirEntry) → Decides (meets_it t n d name size e) (MeetsIt d name size (listed_of e))
  unfolding meets_it
  it-meets d name size e =
      Decides-and (bytes_eq e.name name && turns (is_met size) t n e.object) (only (is_one d e.object e.object) t n)
      (Decides-and (bytes_eq e.name name) (turns (is_met size) t n e.object) (bytes_eq-Decides e.name name) (turns-decides (is_met size) (MetFile size) (met-decides size) t n e.object)) (only-two t n d e.object)

  one-meets : (d name : List ℕ) (size : Option ℕ) (es : List DirEntry) → Decides (meets_one t n d name size es) (Has (MeetsIt d name size) (map listed_of es))
  unfolding meets_one
  one-meets d name size es = some-entry (λ e. meets_it t n d name size e) (MeetsIt d name size) (λ e. it-meets d name size e) (λ xs. meets_one t n d name size xs) refl (λ e xs. refl) es

  pub meets-decides : (d name : List ℕ) (set : SetAttr) → Decides (meets t n d name set.size) (Meets S T d name set)
  unfolding meets
  meets-decides d name set =
      Decides-like (in_list (λ es. meets_one t n d name set.size es) (list_there (before t n d)) && reads t n d)
      (λ w. to w.0 w.1)
      (λ w. from w)
      (Decides-and (in_list (λ es. meets_one t n d name set.size es) (list_there (before t n d))) (reads t n d) (list-before (λ es. meets_one t n d name set.size es) (Has (MeetsIt d name set.size)) (λ es. one-meets d name set.size es) t n d) (reads-decides t n d))
    where
      to : HasList (Has (MeetsIt d name set.size)) S d → Reads S T d → Meets S T d name set
      to w r =
          let e : model.Listed = w.passes.0 in
          let u : TurnsBy (MetFile set.size) S T e.object = w.passes.2.0.1 in record {
            object = e.object;
            named = to-name S d name e.object (record { dir = w.dir; entries = w.entries; is = w.is; there = w.there; holds = w.holds; passes = (e, w.passes.1, (w.passes.2.0.0, refl)) });
            file = u.old;
            now = u.holds.now;
            stable = u.holds.stable;
            held = u.holds.was;
            later = u.new.holds;
            sized = u.holds.sized;
            turns = to-turns (MetFile set.size) S T e.object u;
            reads = r;
            only = w.passes.2.1;
          }

      from : Meets S T d name set → HasList (Has (MeetsIt d name set.size)) S d × Reads S T d
      from w = (
        record {
          dir = w.named.names.dir;
          entries = w.named.names.entries;
          is = w.named.names.is;
          there = w.named.there;
          holds = w.named.names.holds;
          passes = (record { name = name; object = w.object; cookie = w.named.names.cookie }, w.named.names.listed, ((refl, from-turns (MetFile set.size) S T w.object w.file w.later w.turns (record { now = w.now; stable = w.stable; was = w.held; sized = w.sized })), w.only));
        },
        w.reads,
      )

  -- ---- what a reply shows

  pub handle-decides : (found : Option (List ℕ)) (h : List ℕ) → Decides (shows_handle found h) (ShowsHandle found h)
  handle-decides None h = always tt
  handle-decides (Some found) h = bytes_eq-Decides found h

  abbrev pub IsShown : List ℕ → Option (List ℕ) → Option Attr → model.Listed → Type 0
  IsShown name found attr e = ((e.name ≡ name) × ShowsHandle found e.object) × TrueOf T e.object attr

  shown-it : (name : List ℕ) (found : Option (List ℕ)) (attr : Option Attr) (e : DirEntry) → Decides (is_shown t n name found attr e) (IsShown name found attr (listed_of e))
  unfolding is_shown
  shown-it name found attr e =
      Decides-and (bytes_eq e.name name && shows_handle found e.object) (shows_attr t n e.object attr)
      (Decides-and (bytes_eq e.name name) (shows_handle found e.object) (bytes_eq-Decides e.name name) (handle-decides found e.object)) (shows-decides t n e.object attr)

  shown-one : (name : List ℕ) (found : Option (List ℕ)) (attr : Option Attr) (es : List DirEntry) → Decides (shows_one t n name found attr es) (Has (IsShown name found attr) (map listed_of es))
  unfolding shows_one
  shown-one name found attr es = some-entry (λ e. is_shown t n name found attr e) (IsShown name found attr) (λ e. shown-it name found attr e) (λ xs. shows_one t n name found attr xs) refl (λ e xs. refl) es

  pub shown-decides : (d name : List ℕ) (found : Option (List ℕ)) (attr : Option Attr) → Decides (shows t n d name found attr) (Shown T d name found attr)
  unfolding shows
  shown-decides d name found attr =
      Decides-like (in_list (λ es. shows_one t n name found attr es) (list_there (after t n d)))
      (λ w. to w)
      (λ w. from w)
      (list-after (λ es. shows_one t n name found attr es) (Has (IsShown name found attr)) (λ es. shown-one name found attr es) t n d)
    where
      to : HasList (Has (IsShown name found attr)) T d → Shown T d name found attr
      to w =
          let e : model.Listed = w.passes.0 in record {
            object = e.object;
            named = to-name T d name e.object (record { dir = w.dir; entries = w.entries; is = w.is; there = w.there; holds = w.holds; passes = (e, w.passes.1, (w.passes.2.0.0, refl)) });
            handle = w.passes.2.0.1;
            attributes = w.passes.2.1;
          }

      from : Shown T d name found attr → HasList (Has (IsShown name found attr)) T d
      from w = record {
        dir = w.named.names.dir;
        entries = w.named.names.entries;
        is = w.named.names.is;
        there = w.named.there;
        holds = w.named.names.holds;
        passes = (record { name = name; object = w.object; cookie = w.named.names.cookie }, w.named.names.listed, ((refl, w.handle), w.attributes));
      }

  -- ---- calls that make

  creates-decides : (d name : List ℕ) (making : Making) → Decides (makes t n (dirs.Create d name making) d name || may_meet t n d name making) (Creates S T d name making)
  creates-decides d name (makings.Unchecked set) =
      Decides-like (makes t n (dirs.Create d name (makings.Unchecked set)) d name || meets t n d name set.size)
      (λ w. elim w [ inl m ↦ inl (plain (makings.Unchecked set) (new_file set.size) m (λ h e. e)) | inr m ↦ inr m ])
      (λ w. elim w [ inl m ↦ inl (record { holds = new_file set.size; made = refl; makes = m }) | inr m ↦ inr m ])
      (Decides-or (makes t n (dirs.Create d name (makings.Unchecked set)) d name) (meets t n d name set.size) (makes-decides (dirs.Create d name (makings.Unchecked set)) d name) (meets-decides d name set))
    where
      plain : (making : Making) (holds : model.Holds) → MakesBy (dirs.Create d name making) d name → ((h : model.Holds) → MadeFile making h → h ≡ holds) → Makes S T d name 1 holds
      plain making holds m is = subst (λ (z : model.Holds). Makes S T d name 1 z) (is m.holds m.made) m.makes
  creates-decides d name (makings.Guarded set) =
      Decides-like (makes t n (dirs.Create d name (makings.Guarded set)) d name || false)
      (λ w. elim w [ inl m ↦ subst (λ (z : model.Holds). Makes S T d name 1 z) m.made m.makes | inr x ↦ absurd x ])
      (λ m. inl (record { holds = new_file set.size; made = refl; makes = m }))
      (Decides-or (makes t n (dirs.Create d name (makings.Guarded set)) d name) false (makes-decides (dirs.Create d name (makings.Guarded set)) d name) (never (λ x. x)))
  creates-decides d name (makings.Exclusive verf) =
      Decides-like (makes t n (dirs.Create d name (makings.Exclusive verf)) d name || meets t n d name None)
      (λ w. elim w [ inl m ↦ inl (subst (λ (z : model.Holds). Makes S T d name 1 z) m.made m.makes) | inr m ↦ inr m ])
      (λ w. elim w [ inl m ↦ inl (record { holds = new_file None; made = refl; makes = m }) | inr m ↦ inr m ])
      (Decides-or (makes t n (dirs.Create d name (makings.Exclusive verf)) d name) (meets t n d name None) (makes-decides (dirs.Create d name (makings.Exclusive verf)) d name) (meets-decides d name keeps_all))

  pub create-done : (d name : List ℕ) (making : Making) (found : Option (List ℕ)) (attr : Option Attr) (wcc : Wcc) → Decides (creates t n (dirs.Create d name making) d name making found attr wcc) (Creates S T d name making × Shown T d name found attr × TrueWcc S T d wcc)
  unfolding creates
  create-done d name making found attr wcc =
      Decides-like ((makes t n (dirs.Create d name making) d name || may_meet t n d name making) && shows t n d name found attr && shows_wcc t n d wcc)
      (λ w. (w.0.0, w.0.1, w.1))
      (λ w. ((w.0, w.1), w.2))
      (Decides-and ((makes t n (dirs.Create d name making) d name || may_meet t n d name making) && shows t n d name found attr) (shows_wcc t n d wcc)
      (Decides-and (makes t n (dirs.Create d name making) d name || may_meet t n d name making) (shows t n d name found attr) (creates-decides d name making) (shown-decides d name found attr)) (wcc-decides t n d wcc))

  other-done : (call : DirCall) (d name : List ℕ) (found : Option (List ℕ)) (attr : Option Attr) (wcc : Wcc) → Decides (makes_other t n call d name found attr wcc) (MakesBy call d name × Shown T d name found attr × TrueWcc S T d wcc)
  unfolding makes_other
  other-done call d name found attr wcc =
      Decides-like (makes t n call d name && shows t n d name found attr && shows_wcc t n d wcc)
      (λ w. (w.0.0, w.0.1, w.1))
      (λ w. ((w.0, w.1), w.2))
      (Decides-and (makes t n call d name && shows t n d name found attr) (shows_wcc t n d wcc)
      (Decides-and (makes t n call d name) (shows t n d name found attr) (makes-decides call d name) (shown-decides d name found attr)) (wcc-decides t n d wcc))

  pub mkdir-done : (d name : List ℕ) (set : SetAttr) (found : Option (List ℕ)) (attr : Option Attr) (wcc : Wcc) → Decides (makes_other t n (dirs.MkDir d name set) d name found attr wcc) (MakesDir S T d name × Shown T d name found attr × TrueWcc S T d wcc)
  mkdir-done d name set found attr wcc =
      Decides-like (makes_other t n (dirs.MkDir d name set) d name found attr wcc)
      (λ w. let m : MakesBy (dirs.MkDir d name set) d name = w.0 in (record { own = m.made.0; bare = m.made.2; makes = subst (λ (z : model.Holds). Makes S T d name 2 z) m.made.1 m.makes }, w.1, w.2))
      (λ w. let m : MakesDir S T d name = w.0 in (record { holds = model.Entries m.own; made = (m.own, refl, m.bare); makes = m.makes }, w.1, w.2))
      (other-done (dirs.MkDir d name set) d name found attr wcc)

  pub symlink-done : (d name : List ℕ) (set : SetAttr) (target : List ℕ) (found : Option (List ℕ)) (attr : Option Attr) (wcc : Wcc) → Decides (makes_other t n (dirs.SymLink d name set target) d name found attr wcc) (MakesLink S T d name target × Shown T d name found attr × TrueWcc S T d wcc)
  symlink-done d name set target found attr wcc =
      Decides-like (makes_other t n (dirs.SymLink d name set target) d name found attr wcc)
      (λ w. let m : MakesBy (dirs.SymLink d name set target) d name = w.0 in (subst (λ (z : model.Holds). Makes S T d name 5 z) m.made m.makes, w.1, w.2))
      (λ w. (record { holds = model.Text target; made = refl; makes = w.0 }, w.1, w.2))
      (other-done (dirs.SymLink d name set target) d name found attr wcc)

  pub mknod-done : (d name : List ℕ) (node : Node) (found : Option (List ℕ)) (attr : Option Attr) (wcc : Wcc) → Decides (makes_other t n (dirs.MkNod d name node) d name found attr wcc) (MakesNode S T d name node × Shown T d name found attr × TrueWcc S T d wcc)
  mknod-done d name node found attr wcc =
      Decides-like (makes_other t n (dirs.MkNod d name node) d name found attr wcc)
      (λ w. let m : MakesBy (dirs.MkNod d name node) d name = w.0 in (subst (λ (z : model.Holds). Makes S T d name (kind_of node) z) m.made m.makes, w.1, w.2))
      (λ w. (record { holds = model.Text []; made = refl; makes = w.0 }, w.1, w.2))
      (other-done (dirs.MkNod d name node) d name found attr wcc)

  -- ---- one more name

  abbrev pub LinksAmong : List ℕ → List ℕ → List model.Listed → List model.Listed → Type 0
  LinksAmong f name old new = SomeRow (λ k row. EntersAt name old new k row × (row.object ≡ f)) new

  links-somewhere : (f name : List ℕ) (old new : List DirEntry) → Decides (links_among f name old new) (LinksAmong f name (map listed_of old) (map listed_of new))
  unfolding links_among links_at links_row
  links-somewhere f name old new =
      row-somewhere (λ k row. enters_at name old new k row && bytes_eq row.object f) (λ k row. EntersAt name (map listed_of old) (map listed_of new) k row × (row.object ≡ f))
      (λ k row. Decides-and (enters_at name old new k row) (bytes_eq row.object f) (enters-decide name old new k row) (bytes_eq-Decides row.object f)) new

  pub link-done : (f d name : List ℕ) (attr : Option Attr) (wcc : Wcc) → Decides (links t n f d name attr wcc) (Links S T f d name × TrueOf T f attr × TrueWcc S T d wcc)
  unfolding links
  link-done f d name attr wcc =
      Decides-like (turns (lists_with (λ old new. links_among f name old new)) t n d && reads t n f && only (is_one d f f) t n && shows_attr t n f attr && shows_wcc t n d wcc)
      (λ w. (to w.0.0.0.0 w.0.0.0.1 w.0.0.1, w.0.1, w.1))
      (λ w. let l : Links S T f d name = w.0 in ((((from l, l.reads), l.only), w.1), w.2))
      (Decides-and (turns (lists_with (λ old new. links_among f name old new)) t n d && reads t n f && only (is_one d f f) t n && shows_attr t n f attr) (shows_wcc t n d wcc)
      (Decides-and (turns (lists_with (λ old new. links_among f name old new)) t n d && reads t n f && only (is_one d f f) t n) (shows_attr t n f attr)
      (Decides-and (turns (lists_with (λ old new. links_among f name old new)) t n d && reads t n f) (only (is_one d f f) t n)
      (Decides-and (turns (lists_with (λ old new. links_among f name old new)) t n d) (reads t n f)
      (turns-decides (lists_with (λ old new. links_among f name old new)) (ListsBy (LinksAmong f name)) (lists-decide (λ old new. links_among f name old new) (LinksAmong f name) (λ a b. links-somewhere f name a b)) t n d)
      (reads-decides t n f)) (only-two t n d f)) (shows-decides t n f attr)) (wcc-decides t n d wcc))
    where
      to : TurnsBy (ListsBy (LinksAmong f name)) S T d → Reads S T f → Only (λ h. (h ≡ d) ⊎ (h ≡ f)) S T → Links S T f d name
      to w r o =
          let so = w.holds.so in record {
            old = w.holds.old;
            new = w.holds.new;
            relists = to-relists (LinksAmong f name) S T d w;
            enters = subst (λ (z : List ℕ). Enters name z w.holds.old w.holds.new) so.3.1 (to-enters name w.holds.old w.holds.new so.0 so.1 so.2 so.3.0);
            reads = r;
            only = o;
          }

      from : Links S T f d name → TurnsBy (ListsBy (LinksAmong f name)) S T d
      from l = let e = entering.entered name f l.old l.new l.enters in from-relists (LinksAmong f name) S T d l.old l.new l.relists (e.0, e.1.row, e.1.at, (((e.1.named, e.1.rest), l.enters.fresh), e.1.of))

  pub link-refused : (status : Status) (d : List ℕ) (wcc : Wcc) (f : List ℕ) (attr : Option Attr) → Decides (refuses_link t n status d wcc f attr) ((RefusesWcc S status d wcc × TrueOf S f attr) × Same S T)
  unfolding refuses_link
  link-refused status d wcc f attr =
      Decides-like (refuses t n status && showed_wcc t n d wcc && showed_attr t n f attr)
      (λ w. ((record { nonzero = w.0.0.0; shows = w.0.1 }, w.1), w.0.0.1))
      (λ w. let r : RefusesWcc S status d wcc = w.0.0 in (((r.nonzero, w.1), r.shows), w.0.1))
      (Decides-and (refuses t n status && showed_wcc t n d wcc) (showed_attr t n f attr)
      (Decides-and (refuses t n status) (showed_wcc t n d wcc) (refuses-decides t n status) (wcc-before t n d wcc)) (showed-decides t n f attr))
