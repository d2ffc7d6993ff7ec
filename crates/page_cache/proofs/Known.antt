-- The state of each kept page's file is known, after each thing that is done to the files and the pages.
use Rattle.std.proofs.Common.{◌≡◌, ℕ, Bool, true, false, if◌then◌else◌, List, [], All, map, Some, IsSome, option_and_then, refl, ap, ◌∙◌}
use Rattle.std.proofs.lemmas.List.Elements.{All-weaker}
use Rattle.indexmap.specs.IndexMap.{insert_entry}
use Rattle.nfs_types.specs.declared.wcc.Stamp.{Stamp}
use Rattle.page_cache.specs.declared.place.PagePlace.{PagePlace}
use Rattle.page_cache.specs.declared.state.FileState.{FileState}
use Rattle.page_cache.specs.Pages.{known_of, without_file, changed_page, fronted}
use Rattle.page_cache.proofs.Inserts.{same, same-is, same-self, lookup-insert}
use Rattle.page_cache.proofs.Entries.{All-fronted, All-others, All-changed}

abbrev Files : Type 0
Files = List (List ℕ × FileState)

-- the state of a page's file is known among these
abbrev pub Known : List (List ℕ × FileState) → PagePlace × List ℕ → Type 0
Known files p = IsSome (known_of p.0.file (record { room = 0; files = files; pages = [] }))

-- one file is in another state
module _ (files new : List (List ℕ × FileState)) (file : List ℕ) (state : FileState) (is : new ≡ insert_entry same files file state) where
  known-is : (f : List ℕ) → known_of f (record { room = 0; files = new; pages = [] }) ≡ (if same f file then state.known else known_of f (record { room = 0; files = files; pages = [] }))
  known-is f = rw is (ap (option_and_then (λ s. s.known)) (lookup-insert f file state files) ∙ by (same f file))
    where
      by : (b : Bool) → option_and_then (λ s. s.known) (if b then Some state else Rattle.std.specs.Map.lookup (same f) files)
          ≡ (if b then state.known else known_of f (record { room = 0; files = files; pages = [] }))
      by true = refl
      by false = refl

  of-other : (p : PagePlace × List ℕ) → same p.0.file file ≡ false → Known files p → Known new p
  of-other p e h = rw (known-is p.0.file, e) h

  pub known-dropped : (pages : List (PagePlace × List ℕ)) → All (Known files) pages → All (Known new) (without_file file pages)
  known-dropped pages all = All-others (Known files) (Known new) file of-other pages all

  module _ (stamp : Stamp) (told : state.known ≡ Some stamp) where
    of-file : (p : PagePlace × List ℕ) → p.0.file ≡ file → Known new p
    of-file p e = rw (known-is p.0.file, e, same-self file, told) refl

    step : (p : PagePlace × List ℕ) → Known files p → Known new p
    step p h = by (same p.0.file file) refl
      where
        by : (b : Bool) → same p.0.file file ≡ b → Known new p
        by true e = of-file p (same-is p.0.file file e)
        by false e = of-other p e h

    pub known-same : (pages : List (PagePlace × List ℕ)) → All (Known files) pages → All (Known new) pages
    known-same pages all = All-weaker (Known files) (Known new) step pages all

    pub known-fronted : (room index : ℕ) (bytes : List ℕ) (pages : List (PagePlace × List ℕ)) → All (Known files) pages
        → All (Known new) (fronted room (record { file = file; index = index }) bytes pages)
    known-fronted room index bytes pages all = All-fronted (Known new) room (record { file = file; index = index }) bytes pages (known-same pages all) (of-file (record { file = file; index = index }, bytes) refl)

    pub known-changed : (change : ℕ → List ℕ → List ℕ) (pages : List (PagePlace × List ℕ)) → All (Known files) pages → All (Known new) (map (changed_page file change) pages)
    known-changed change pages all =
        All-changed (Known files) (Known new) file change of-other (λ index bytes h. of-file (record { file = file; index = index }, change index bytes) refl) pages all
