-- Entries of a directory one after another, by their cookies.
use Rattle.std.proofs.Common.{◌≡◌, ◌<◌, ◌≤◌, ℕ, zero, suc, Bool, true, false, List, [], ◌∷◌, ◌++◌, length, map, Option, Some, None, slice_get, take, refl, sym, ap, ◌∙◌, arith, filter, nat_lt}
use Rattle.std.specs.Prelude.{MatchOption, is_some, not}
use Rattle.std.proofs.lemmas.Bool.{lt-ltb}
use Rattle.std.proofs.lemmas.List.{take_all}
use Rattle.world_model.specs.Server.{Listed}
use Rattle.export_fs.specs.declared.node.Holds.{Holds}
use Rattle.export_fs.specs.declared.node.Holds.TheVariants.{File, Directory, Link}
use Rattle.export_fs.specs.declared.node.Node.{Node}
use Rattle.export_fs.specs.declared.row.Row.{Row}
use Rattle.export_fs.specs.View.{View}
use Rattle.export_fs.specs.Sound.{Each, IsHeld, Sound}
use Rattle.export_fs.specs.Parts.{rows_in, rows_of}
use Rattle.export_fs.specs.Pages.{rows_after}
use Rattle.export_fs.specs.Seen.{entry_of}
use Rattle.trace_data.specs.declared.trace.DirEntry.{DirEntry}
use Rattle.trace_data.specs.Histories.{listed_of}
use Rattle.world_trace.specs.Mirrored.{IsNext}

-- ---- from the first cookie on

filled : (rows : List Row) → Each (λ (row : Row). 1 ≤ row.cookie) rows → rows_after 0 rows ≡ rows
filled [] each = refl
filled (row ∷ rows) each =
    let lt : nat_lt 0 row.cookie ≡ true = lt-ltb 0 row.cookie (omega (arith, each zero row refl)) in
    let here : rows_after 0 (row ∷ rows) ≡ row ∷ rows_after 0 rows = simp lt in
    here ∙ ap (λ (z : List Row). row ∷ z) (filled rows (λ at r is. each (suc at) r is))

filled-in : (count place : ℕ) (holds : Holds) → IsHeld count place holds → rows_after 0 (rows_of holds) ≡ rows_of holds
filled-in count place (File content) held = refl
filled-in count place (Directory listing) held = filled listing.rows (λ at row is. (held.entries at row is).cookie)
filled-in count place (Link text) held = refl

-- all entries of a directory are after the cookie 0
pub all-rows : (view : View) → Sound view → (place : ℕ) → rows_after 0 (rows_in (slice_get view.nodes place)) ≡ rows_in (slice_get view.nodes place)
all-rows view sound place = by (slice_get view.nodes place) refl
  where
    by : (o : Option Node) → slice_get view.nodes place ≡ o → rows_after 0 (rows_in o) ≡ rows_in o
    by None is = refl
    by (Some node) is = filled-in (length view.nodes) place node.holds (sound.held place node is)

-- ---- one entry more

pub next-row : (es more : List DirEntry) (e : DirEntry) (row : Row) (rows rest : List Row) (all : List Listed) → more ≡ es ++ e ∷ [] → listed_of e ≡ entry_of row → rows ≡ row ∷ rest → map listed_of es ++ map entry_of rows ≡ all
    → map listed_of more ++ map entry_of rest ≡ all
next-row es more e row rows rest all pushed same is front =
    ap (λ (xs : List DirEntry). map listed_of xs ++ map entry_of rest) pushed ∙ shift es ∙ ap (λ (z : List Row). map listed_of es ++ map entry_of z) (sym is) ∙ front
  where
    shift : (xs : List DirEntry) → map listed_of (xs ++ e ∷ []) ++ map entry_of rest ≡ map listed_of xs ++ map entry_of (row ∷ rest)
    shift [] = ap (λ (z : Listed). z ∷ map entry_of rest) same
    shift (x ∷ xs) = ap (λ (z : List Listed). listed_of x ∷ z) (shift xs)

-- no entry is left
pub last-row : (es : List DirEntry) (rows : List Row) (all : List Listed) → rows ≡ [] → map listed_of es ++ map entry_of rows ≡ all → map listed_of es ≡ all
last-row es rows all none front = sym (nothing es) ∙ ap (λ (z : List Row). map listed_of es ++ map entry_of z) (sym none) ∙ front
  where
    nothing : (xs : List DirEntry) → map listed_of xs ++ [] ≡ map listed_of xs
    nothing [] = refl
    nothing (x ∷ xs) = ap (λ (z : List Listed). listed_of x ∷ z) (nothing xs)

-- before the first
pub start-row : (es : List DirEntry) (view : View) (place : ℕ) → Sound view → es ≡ []
    → map listed_of es ++ map entry_of (rows_after 0 (rows_in (slice_get view.nodes place))) ≡ map entry_of (rows_in (slice_get view.nodes place))
start-row es view place sound none =
    ap (λ (xs : List DirEntry). map listed_of xs ++ map entry_of (rows_after 0 (rows_in (slice_get view.nodes place)))) none ∙ ap (map entry_of) (all-rows view sound place)

-- fewer are left
pub fewer : (row : Row) (rows rest : List Row) → rows ≡ row ∷ rest → length rest < length rows
fewer row rows rest is = let e : length rows ≡ length (row ∷ rest) = ap length is in omega (arith, e)

-- ---- entries that are compared

pub next-entry : (es more : List DirEntry) (e : DirEntry) (cookie : ℕ) (rows : List Row) → more ≡ es ++ e ∷ [] → IsNext e cookie rows → map listed_of es ++ map entry_of (rows_after cookie rows) ≡ map entry_of rows
    → map listed_of more ++ map entry_of (rows_after e.cookie rows) ≡ map entry_of rows
next-entry es more e cookie rows pushed n front =
    let same : e.cookie ≡ n.row.cookie = ap (λ (l : Listed). l.cookie) n.same in
    ap (λ (k : ℕ). map listed_of more ++ map entry_of (rows_after k rows)) same
    ∙ next-row es more e n.row (rows_after cookie rows) (rows_after n.row.cookie rows) (map entry_of rows) pushed n.same n.is front

pub last-entry : (all : List DirEntry) (n cookie : ℕ) (rows : List Row) → length all ≤ n → rows_after cookie rows ≡ [] → map listed_of (take n all) ++ map entry_of (rows_after cookie rows) ≡ map entry_of rows
    → map listed_of all ≡ map entry_of rows
last-entry all n cookie rows le none front = ap (map listed_of) (sym (take_all n all le)) ∙ last-row (take n all) (rows_after cookie rows) (map entry_of rows) none front

-- what holds where nothing is found
pub none-found : {T : Type 0} {P : Type 0} (Q : T → Type 0) → (o : Option T) (b : Bool) → MatchOption o P Q → is_some o ≡ not b → b ≡ true → P
none-found Q None b m e t = m
none-found Q (Some x) b m e t = let f : not b ≡ false = ap not t in let g : true ≡ false = e ∙ f in absurd (cc)
