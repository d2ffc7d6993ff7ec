-- Scripts that were run one after another, and one more behind them.
use Rattle.std.proofs.Common.{◌≡◌, ◌≢◌, ℕ, List, [], ◌∷◌, ◌++◌, Option, Some, None, refl, sym, ap, subst, ◌∙◌, append-nil, append_assoc}
use Rattle.world_model.specs.declared.entry.Entry.{Entry}
use Rattle.world_model.specs.Transcript.{transcript}
use Rattle.nfs_script.specs.declared.script.ScriptLine.{ScriptLine}
use Rattle.asked_runs.specs.Asking.{Round}
use Rattle.asked_runs.specs.Runs.{AreKept, ArePartsFrom, Part, PartIs, entries_in, last_status, lines_in, rounds_of}

pub lines-more : (ps : List Part) (p : Part) → lines_in (ps ++ p ∷ []) ≡ lines_in ps ++ p.lines
lines-more [] p = append-nil p.lines
lines-more (q ∷ ps) p = ap (λ (t : List ScriptLine). q.lines ++ t) (lines-more ps p) ∙ sym (append_assoc q.lines (lines_in ps) p.lines)

pub entries-more : (ps : List Part) (p : Part) → entries_in (ps ++ p ∷ []) ≡ entries_in ps ++ p.entries
entries-more [] p = append-nil p.entries
entries-more (q ∷ ps) p = ap (λ (t : List Entry). q.entries ++ t) (entries-more ps p) ∙ sym (append_assoc q.entries (entries_in ps) p.entries)

pub status-more : (status : ℕ) (ps : List Part) (p : Part) → last_status status (ps ++ p ∷ []) ≡ p.status
status-more status [] p = refl
status-more status (q ∷ ps) p = status-more q.status ps p

pub kept-more : (ps : List Part) (p : Part) → AreKept ps → p.status ≢ 6 → AreKept (ps ++ p ∷ [])
kept-more [] p kept other = (other, tt)
kept-more (q ∷ ps) p kept other = (kept.0, kept-more ps p kept.1 other)

pub parts-more : (h : List Entry) (done : List ScriptLine) (ps : List Part) (p : Part) → ArePartsFrom h done ps → PartIs (h ++ entries_in ps) (done ++ lines_in ps) p
    → ArePartsFrom h done (ps ++ p ∷ [])
parts-more h done [] p are is =
    (subst (λ (t : List Entry). PartIs t done p) (append-nil h) (subst (λ (t : List ScriptLine). PartIs (h ++ []) t p) (append-nil done) is), tt)
parts-more h done (q ∷ ps) p are is = (
  are.0,
  parts-more (h ++ q.entries) (done ++ q.lines) ps p are.1
      (subst (λ (t : List Entry). PartIs t ((done ++ q.lines) ++ lines_in ps) p) (sym (append_assoc h q.entries (entries_in ps)))
      (subst (λ (t : List ScriptLine). PartIs (h ++ (q.entries ++ entries_in ps)) t p) (sym (append_assoc done q.lines (lines_in ps))) is)),
)

-- ---- the calls for scripts

-- the calls for these scripts, and the one behind them
abbrev pub rounds_to : List ℕ → ℕ → List Part → Option (List ScriptLine) → List Round
rounds_to answers status [] next = record { answers = answers; status = status; script = next } ∷ []
rounds_to answers status (p ∷ ps) next = record { answers = answers; status = status; script = Some p.lines } ∷ rounds_to (transcript p.entries) p.status ps next

pub rounds-none : (answers : List ℕ) (status : ℕ) (ps : List Part) → rounds_to answers status ps None ≡ rounds_of answers status ps
rounds-none answers status [] = refl
rounds-none answers status (p ∷ ps) =
    ap (λ (t : List Round). record { answers = answers; status = status; script = Some p.lines } ∷ t) (rounds-none (transcript p.entries) p.status ps)

pub rounds-more : (answers : List ℕ) (status : ℕ) (ps : List Part) (p : Part) (next : Option (List ScriptLine))
    → rounds_to answers status ps (Some p.lines) ++ record { answers = transcript p.entries; status = p.status; script = next } ∷ [] ≡ rounds_to answers status (ps ++ p ∷ []) next
rounds-more answers status [] p next = refl
rounds-more answers status (q ∷ ps) p next =
    ap (λ (t : List Round). record { answers = answers; status = status; script = Some q.lines } ∷ t) (rounds-more (transcript q.entries) q.status ps p next)
