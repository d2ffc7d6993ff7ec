-- A read that succeeded gives the bytes that its answer shows.
use Rattle.std.proofs.Common.{◌≡◌, ◌≢◌, ◌<◌, ◌≤◌, ◌+◌, ◌⊎◌, inl, inr, ℕ, zero, suc, List, [], ◌∷◌, ◌++◌, length, drop, refl, sym, ap, subst, ◌∙◌, append_assoc, arith}
use Rattle.std.specs.Prelude.{codes}
use Rattle.world_model.specs.declared.answer.Answer.TheVariants as answers
use Rattle.world_model.specs.declared.answer.Value.{Value}
use Rattle.world_model.specs.declared.answer.Value.TheVariants as values
use Rattle.world_model.specs.declared.entry.Entry.{Entry}
use Rattle.world_model.specs.declared.entry.Entry.TheVariants.{Began, Answered}
use Rattle.world_model.specs.declared.op.Op.{Op}
use Rattle.world_model.specs.declared.op.Op.TheVariants as ops
use Rattle.world_model.specs.Follows.{marks_of}
use Rattle.world_model.specs.Operations.{Ended}
use Rattle.world_model.specs.Transcript.{value_text}
use Rattle.script_text.specs.Lines.{words}
use Rattle.claims.specs.OkRows.{OkRow, ReadOk}
use Rattle.claims.specs.Terms.{Terms}
use Rattle.law_copies.specs.Copied.{Done, done_marks}
use Rattle.law_copies.proofs.Marks.{IsOwn, IsSilent, marks-cons, own-or-silent}
use Rattle.law_copies.proofs.Places.{FirstFrom, Stepped, ended, first-from}
use Rattle.fetch_scripts.proofs.Texts.{bytes-read}
use Rattle.nfs_fetch.specs.Fetched.{AreReads, IsPieceAt}
use Rattle.nfs_fetch.proofs.Pieces.{AreShown, ReadAt}

-- behind marks of a lane
behind : (lane : ℕ) (h front rest : List Entry) → marks_of lane h ≡ front ++ rest → (from : ℕ) × (marks_of lane (drop from h) ≡ rest)
behind lane h [] rest is = (0, is)
behind lane [] (x ∷ front) rest is = absurd cc
behind lane (d ∷ h) (x ∷ front) rest is = by (λ e. behind lane h front rest e) (λ e. behind lane h (x ∷ front) rest e) (own-or-silent lane d)
  where
    whole : marks_of lane (d ∷ []) ++ marks_of lane h ≡ x ∷ (front ++ rest)
    whole = sym (marks-cons lane d h) ∙ is

    by : (marks_of lane h ≡ front ++ rest → (from : ℕ) × (marks_of lane (drop from h) ≡ rest)) → (marks_of lane h ≡ x ∷ (front ++ rest) → (from : ℕ) × (marks_of lane (drop from h) ≡ rest))
        → IsOwn lane d ⊎ IsSilent lane d → (from : ℕ) × (marks_of lane (drop from (d ∷ h)) ≡ rest)
    by next same (inl own) =
        let both : d ∷ marks_of lane h ≡ x ∷ (front ++ rest) = sym (ap (λ (t : List Entry). t ++ marks_of lane h) own) ∙ whole in
        let tail : marks_of lane h ≡ front ++ rest = cc in
        let b = next tail in
        (suc b.0, b.1)
    by next same (inr silent) =
        let b = same (sym (ap (λ (t : List Entry). t ++ marks_of lane h) silent) ∙ whole) in
        (suc b.0, b.1)

-- each operation that succeeded has its row
abbrev pub HasRows : Terms → List Entry → Type 0
HasRows terms h = (lane x y : ℕ) (op : Op) (value : Value) → Ended h lane x op y (answers.Done value) → OkRow terms h lane x y op value

module _ (terms : Terms) (h : List Entry) (rows : HasRows terms h) (lane : ℕ) where
  stepped : (front later : List Entry) (d : Done) → marks_of lane h ≡ front ++ Began lane d.line d.op ∷ Answered lane d.line (answers.Done d.value) ∷ later → (from : ℕ) × Stepped lane h from d
  stepped front later d is =
      let b = behind lane h front (Began lane d.line d.op ∷ Answered lane d.line (answers.Done d.value) ∷ later) is in
      let f : FirstFrom lane h b.0 (Began lane d.line d.op) (Answered lane d.line (answers.Done d.value) ∷ later) =
      first-from lane h b.0 (Began lane d.line d.op) (Answered lane d.line (answers.Done d.value) ∷ later) b.1 in
      let g : FirstFrom lane h (suc f.place) (Answered lane d.line (answers.Done d.value)) later =
      first-from lane h (suc f.place) (Answered lane d.line (answers.Done d.value)) later f.behind in (
        b.0,
        record {
          x = f.place;
          y = g.place;
          late = f.late;
          later = let l = g.late in omega (arith, l);
          began = f.at;
          answered = g.at;
          before = f.before;
          between = g.before;
        },
      )

  pub record IsPiece (at : ℕ) (piece : List ℕ) (d : Done) : Type 0 where
    pub is : IsPieceAt at piece d
    pub few : length piece ≤ 65536

  read-piece : (front later : List Entry) (at : ℕ) (piece : List ℕ) (d : Done) → marks_of lane h ≡ front ++ Began lane d.line d.op ∷ Answered lane d.line (answers.Done d.value) ∷ later
      → ReadAt at piece d → IsPiece at piece d
  read-piece front later at piece d is r =
      let s = stepped front later d is in
      let row : OkRow terms h lane s.1.x s.1.y (ops.Read 1 at 65536) d.value =
      subst (λ (o : Op). OkRow terms h lane s.1.x s.1.y o d.value) r.op (rows lane s.1.x s.1.y d.op d.value (ended lane h s.0 d s.1)) in
      by row
    where
      by : {x : ℕ} → ReadOk terms h lane x 1 65536 d.value → IsPiece at piece d
      by k =
          let same : piece ≡ k.bytes =
          bytes-read k.bytes piece r.shows.shown (ap (λ (v : Value). words (codes "ok" ++ value_text v)) (sym k.gives) ∙ r.shows.words_are) r.shows.are in
          record {
            is = record { op = r.op; value = k.gives ∙ ap values.Bytes (sym same) };
            few = subst (λ (b : List ℕ). length b ≤ 65536) (sym same) k.most;
          }

  all-pieces : (front later : List Entry) (at : ℕ) (pieces : List (List ℕ)) (ds : List Done) → marks_of lane h ≡ front ++ (done_marks lane ds ++ later) → AreShown at pieces ds → AreReads at pieces ds
  all-pieces front later at [] ds is s = absurd s
  all-pieces front later at (piece ∷ pieces) [] is s = absurd s
  all-pieces front later at (piece ∷ []) (d ∷ e ∷ ds) is s = absurd s
  all-pieces front later at (piece ∷ []) (d ∷ []) is s =
      let p : IsPiece at piece d = read-piece front later at piece d is s.0 in
      (p.is, (let few = p.few in omega (arith, few, s.1)))
  all-pieces front later at (piece ∷ next ∷ pieces) (d ∷ ds) is s =
      let p : IsPiece at piece d = read-piece front (done_marks lane ds ++ later) at piece d is s.0 in (
        p.is,
        s.1,
        all-pieces (front ++ Began lane d.line d.op ∷ Answered lane d.line (answers.Done d.value) ∷ []) later (at + 65536) (next ∷ pieces) ds
            (is ∙ sym (append_assoc front (Began lane d.line d.op ∷ Answered lane d.line (answers.Done d.value) ∷ []) (done_marks lane ds ++ later))) s.2,
      )

pub shown-reads : (terms : Terms) (h : List Entry) → HasRows terms h → (lane : ℕ) (front later : List Entry) (at : ℕ) (pieces : List (List ℕ)) (ds : List Done)
    → marks_of lane h ≡ front ++ (done_marks lane ds ++ later) → AreShown at pieces ds → AreReads at pieces ds
shown-reads terms h rows lane front later at pieces ds is s = all-pieces terms h rows lane front later at pieces ds is s
