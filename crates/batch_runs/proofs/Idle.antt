-- Batches before the first line: no call was made, and each is refused or has no line.
use Rattle.std.proofs.Common.{◌≡◌, ◌+◌, ℕ, suc, List, [], ◌∷◌, ◌++◌, map, max, Bool, Option, Some, Ok, refl, sym, ap, subst, ◌∙◌, append-nil, arith}
use Rattle.world_model.specs.declared.entry.Entry.{Entry}
use Rattle.world_model.specs.Counts.{tally_of}
use Rattle.world_model.specs.Follows.{Finishes}
use Rattle.nfs_script.specs.DoneText.{done_text}
use Rattle.nfs_script.specs.declared.script.ScriptLine.{ScriptLine}
use Rattle.script_batches.specs.Batches.{Read}
use Rattle.lane_session.specs.Endings.{counts_text}
use Rattle.lane_session.specs.Statuses.{HasStatus, well}
use Rattle.lane_session.specs.TogetherFrom.{TogetherFrom}
use Rattle.batch_runs.specs.declared.answered.Answered.{Answered}
use Rattle.batch_runs.specs.Parts.{AreIdleFrom, ArePartsFrom, Part, PartIs, RefusedFrom, asked_in, entries_in, lines_in, ran_part, ran_text, text_in, worst_in}
use Rattle.batch_runs.specs.Reading.{AnswersAll, AnswersOne, Takes, no_calls}
use Rattle.batch_runs.proofs.Parts.{entries-append, length-append, lines-append, parts-append, reads-append, refused-are, refused-entries, refused-lines, takes-more, text-append, worst-append}
use Rattle.batch_runs.proofs.Nexts.{max-two}

-- batches that make no call and have no line, behind others
module _ (count : Bool) (old mid new : Answered) (left between rest : Option (List Read)) (text one : List ℕ) (a : AnswersAll (AreIdleFrom count) old mid left between text) where
  idle-more : (b : AnswersAll (AreIdleFrom count) mid new between rest one) → AnswersAll (AreIdleFrom count) old new left rest (text ++ one)
  idle-more b = record {
    parts = a.parts ++ b.parts;
    are = record {
      are = parts-append count old.count mid.count [] [] a.parts b.parts a.counts.count a.are.are
          (subst (λ (t : List ScriptLine). ArePartsFrom count mid.count (entries_in a.parts) t b.parts) (sym a.are.lines)
          (subst (λ (t : List Entry). ArePartsFrom count mid.count t [] b.parts) (sym a.are.entries) b.are.are));
      lines = lines-append a.parts b.parts ∙ ap (λ (t : List ScriptLine). t ++ lines_in b.parts) a.are.lines ∙ b.are.lines;
      entries = entries-append a.parts b.parts ∙ ap (λ (t : List Entry). t ++ entries_in b.parts) a.are.entries ∙ b.are.entries;
    };
    counts = record {
      count = (let x = a.counts.count in let y = b.counts.count in let long = length-append a.parts b.parts in omega (arith, x, y, long));
      status = b.counts.status ∙ max-two old.status mid.status (worst_in a.parts) (worst_in b.parts) a.counts.status ∙ ap (max old.status) (sym (worst-append a.parts b.parts));
    };
    read = subst (Takes left rest) (sym (reads-append a.parts b.parts))
        (takes-more left between rest (map (λ (p : Part). p.read) a.parts) (map (λ (p : Part). p.read) b.parts) a.read b.read);
    written = ap (λ (t : List ℕ). t ++ one) a.written ∙ ap (λ (t : List ℕ). text_in a.parts ++ t) b.written ∙ sym (text-append a.parts b.parts);
  }

  -- those that were refused
  pub idle-refused : AnswersAll RefusedFrom mid new between rest one → AnswersAll (AreIdleFrom count) old new left rest (text ++ one)
  idle-refused b = idle-more (record {
    parts = b.parts;
    are = record { are = refused-are count mid.count [] [] b.parts b.are; lines = refused-lines mid.count b.parts b.are; entries = refused-entries mid.count b.parts b.are };
    counts = b.counts;
    read = b.read;
    written = b.written;
  })

  -- one without a line
  pub idle-done : (batch : Read) → asked_in batch ≡ Ok [] → Takes between rest (batch ∷ []) → no_calls ≡ tally_of []
      → AnswersOne {T = Option (List ScriptLine)} 0 (counts_text count no_calls ++ done_text (mid.count + 1) 0) mid new (Ok (Some [])) one → AnswersAll (AreIdleFrom count) old new left rest (text ++ one)
  idle-done batch asks takes none_made answers =
      let part : Part = record { read = batch; lines = []; entries = []; status = 0; text = one } in
      let number : mid.count + 1 ≡ suc mid.count = omega arith in
      let status : HasStatus [] 0 = well refl (λ fault i. absurd (let at = i.is in cc)) in
      let finishes : Finishes [] [] = record { all = λ lane. refl; answered = λ x lane line op at. absurd cc } in
      let together : TogetherFrom 0 [] [] = λ n bytes at le k lane line op there. absurd cc in
      let text_is : one ≡ ran_text count (suc mid.count) [] [] 0 =
      answers.2 ∙ ap (λ (n : ℕ). counts_text count no_calls ++ done_text n 0) number ∙ ap (λ t. counts_text count t ++ done_text (suc mid.count) 0) none_made in
      let is : PartIs count (suc mid.count) [] [] part = ran_part asks finishes together status text_is in
      idle-more (record {
        parts = part ∷ [];
        are = record { are = (is, tt); lines = refl; entries = refl };
        counts = record { count = (let y = answers.0 in omega (arith, y)); status = answers.1 ∙ ap (max mid.status) (zero-max 0) };
        read = takes;
        written = sym (append-nil one);
      })
    where
      zero-max : (n : ℕ) → n ≡ max n 0
      zero-max n = omega arith
