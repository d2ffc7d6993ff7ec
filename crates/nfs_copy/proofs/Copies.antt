-- Each file that came whole was copied.
use Rattle.std.proofs.Common.{◌≡◌, ◌≢◌, ◌⊎◌, inl, inr, ℕ, zero, suc, List, [], ◌∷◌, ◌++◌, sym, ap, subst, ◌∙◌, append_assoc, arith}
use Rattle.std.proofs.lemmas.List.Elements.{All-contains}
use Rattle.world_model.specs.declared.answer.Answer.{Answer}
use Rattle.world_model.specs.declared.answer.Answer.TheVariants as answers
use Rattle.world_model.specs.declared.answer.Fault.{Fault}
use Rattle.world_model.specs.declared.entry.Entry.{Entry}
use Rattle.world_model.specs.declared.entry.Entry.TheVariants.{Answered}
use Rattle.world_model.specs.Entries.{At}
use Rattle.world_model.specs.Follows.{Alternates, Finishes, Follows, begun, marks_of}
use Rattle.nfs_script.specs.declared.script.ScriptLine.{ScriptLine}
use Rattle.file_trees.specs.declared.tree.Given.{Given}
use Rattle.file_trees.specs.Files.{files_in}
use Rattle.copy_plan.specs.Trees.{IsAskedFor, no_files, plan_of}
use Rattle.copy_plan.proofs.Trees.{files-are-asked}
use Rattle.law_copies.specs.Copied.{AsksForCopy, NoneRefused}
use Rattle.law_copies.proofs.Doing.{asked-are-copied}
use Rattle.lane_session.specs.Endings.{entries_of}
use Rattle.lane_session.specs.Statuses.{HasStatus, lost, refused, well}
use Rattle.asked_runs.specs.Runs.{ArePartsFrom, Part, entries_in, lines_in}
use Rattle.run_asked.proofs.Ending.{finishes-all}
use Rattle.nfs_copy.specs.Promises.{AllCopied}
use Rattle.nfs_copy.proofs.Marks.{AllAnswered, begun-append, none-answered, same-rest}
use Rattle.nfs_copy.proofs.Parts.{AreGood, IsGood, lines-begun, names-begun}

-- ---- no answer of a lane of files is a refusal

at-split : (xs ys : List Entry) (i : ℕ) (e : Entry) → At (xs ++ ys) i e → At xs i e ⊎ ((j : ℕ) × At ys j e)
at-split [] ys i e at = inr (i, at)
at-split (x ∷ xs) ys zero e at = inl at
at-split (x ∷ xs) ys (suc i) e at = at-split xs ys i e at

none-by-status : (entries : List Entry) (status : ℕ) → HasStatus entries status → status ≡ 0 → (i lane line : ℕ) (fault : Fault)
    → At entries i (Answered lane line (answers.Refused fault)) → ⊥
none-by-status entries status (lost six x) zero_is i lane line fault at = absurd (omega (arith, six, zero_is))
none-by-status entries status (refused one f x other) zero_is i lane line fault at = absurd (omega (arith, one, zero_is))
none-by-status entries status (well e none) zero_is i lane line fault at = none fault (record { at = i; lane = lane; line = line; is = at })

module _ (lane : ℕ) (other : lane ≢ 16) (all : List Entry) (a : Alternates (marks_of lane all)) where
  module _ (h : List Entry) (done : List ScriptLine) (p : Part) (more : List Entry) (is : all ≡ h ++ (p.entries ++ more)) (answered : AllAnswered h)
      (before : begun lane h ≡ begun lane (entries_of done)) (f : Finishes (entries_of (done ++ p.lines)) (h ++ p.entries)) (s : HasStatus p.entries p.status) where
    part-none : IsGood p → (i line : ℕ) (fault : Fault) → At p.entries i (Answered lane line (answers.Refused fault)) → ⊥
    part-none (inr ok) i line fault at = none-by-status p.entries p.status s ok i lane line fault at
    part-none (inl names) i line fault at =
        let here : begun lane h ++ begun lane p.entries ≡ begun lane h ++ [] =
        sym (begun-append lane h p.entries) ∙ f.all lane ∙ lines-begun lane done p.lines
        ∙ ap (λ (t : List Entry). begun lane (entries_of done) ++ t) (names-begun lane other p.lines names)
        ∙ ap (λ (t : List Entry). t ++ []) (sym before) in
        none-answered lane h p.entries more (subst (λ (t : List Entry). Alternates (marks_of lane t)) is a) answered (same-rest (begun lane h) (begun lane p.entries) [] here)
        i line (answers.Refused fault) at

  parts-none : (h : List Entry) (done : List ScriptLine) (parts : List Part) → all ≡ h ++ entries_in parts → AllAnswered h
      → begun lane h ≡ begun lane (entries_of done) → ArePartsFrom h done parts → AreGood parts → (i line : ℕ) (fault : Fault)
      → At (entries_in parts) i (Answered lane line (answers.Refused fault)) → ⊥
  parts-none h done [] is answered before are good i line fault at = absurd cc
  parts-none h done (p ∷ parts) is answered before are good i line fault at =
      elim (at-split p.entries (entries_in parts) i (Answered lane line (answers.Refused fault)) at) [
        | inl here ↦ part-none h done p (entries_in parts) is answered before are.0.finishes are.0.status good.0 i line fault here
        | inr later ↦ parts-none (h ++ p.entries) (done ++ p.lines) parts (is ∙ sym (append_assoc h p.entries (entries_in parts))) are.0.finishes.answered
            (are.0.finishes.all lane) are.1 good.1 later.0 line fault later.1
      ]

-- ---- all files

-- nothing was begun or answered before
pub record IsBefore (h : List Entry) : Type 0 where
  pub finishes : Finishes [] h
  pub none : (i lane line : ℕ) (answer : Answer) → At h i (Answered lane line answer) → ⊥

pub all-copied : (to : List (List ℕ)) (given : List Given) (parts : List Part) (before h : List Entry) → h ≡ before ++ entries_in parts → IsBefore before
    → ArePartsFrom before [] parts → Follows (entries_of (lines_in parts)) h → AreGood parts
    → ((lane : ℕ) → lane ≢ 16 → begun lane (entries_of (lines_in parts)) ≡ begun lane (entries_of (plan_of to given no_files).all.lines)) → AllCopied to given h
all-copied to given parts before h is b are follows good same file has =
    asked-are-copied (entries_of (lines_in parts)) h follows whole lane none-refused (to ++ file.path) file.pieces asks_for
  where
    asked : IsAskedFor to (plan_of to given no_files).all.lines file
    asked = All-contains (IsAskedFor to (plan_of to given no_files).all.lines) (files_in given) file (files-are-asked to given) has

    lane : ℕ
    lane = asked.lane

    other : lane ≢ 16
    other e = let most = asked.within.most in absurd (omega (arith, most, e))

    asks_for : AsksForCopy (entries_of (lines_in parts)) lane (to ++ file.path) file.pieces
    asks_for = record { before = asked.asks.before; own = asked.asks.own; after = asked.asks.after; is = same lane other ∙ asked.asks.is; asks = asked.asks.asks }

    whole : Finishes (entries_of (lines_in parts)) h
    whole = subst (λ (k : List Entry). Finishes (entries_of (lines_in parts)) k) (sym is) (finishes-all before [] parts b.finishes are)

    none-refused : NoneRefused h lane
    none-refused i line fault at =
        elim (at-split before (entries_in parts) i (Answered lane line (answers.Refused fault)) (subst (λ (k : List Entry). At k i (Answered lane line (answers.Refused fault))) is at)) [
          | inl early ↦ b.none i lane line (answers.Refused fault) early
          | inr later ↦ parts-none lane other h (follows.alternates lane) before [] parts is b.finishes.answered (b.finishes.all lane) are good later.0 line fault later.1
        ]
