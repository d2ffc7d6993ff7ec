-- What is written of histories one after the other, each line behind its label.
use Rattle.std.proofs.Common.{◌≡◌, ℕ, List, [], ◌∷◌, ◌++◌, refl, sym, ap, ◌∙◌, append_assoc}
use Rattle.world_model.specs.declared.answer.Answer.{Answer}
use Rattle.world_model.specs.declared.entry.Entry.{Entry}
use Rattle.world_model.specs.declared.entry.Entry.TheVariants.{Began, Answered, Dialed, Sent, Executed, Foreign, Flushed, Reboot, Delivered, Failed, Clock}
use Rattle.world_model.specs.Transcript.{transcript, line_text}
use Rattle.lane_session.specs.Labels.{told_in, told_by, IsCutIn, all_told, last_cut}

pub told-append : (label : List ℕ) (h es : List Entry) → told_by label (h ++ es) ≡ told_by label h ++ told_by label es
told-append label [] es = refl
told-append label (e ∷ h) es = ap (λ (t : List ℕ). told_in label e ++ t) (told-append label h es) ∙ sym (append_assoc (told_in label e) (told_by label h) (told_by label es))

-- without a label this is the transcript
pub told-plain : (es : List Entry) → told_by [] es ≡ transcript es
told-plain [] = refl
told-plain (Answered lane line answer ∷ es) = ap (λ (t : List ℕ). line_text lane line answer ++ t) (told-plain es)
told-plain (Clock ms ∷ es) = told-plain es
told-plain (Began lane line op ∷ es) = told-plain es
told-plain (Dialed port ∷ es) = told-plain es
told-plain (Sent bytes ∷ es) = told-plain es
told-plain (Executed xid call reply ∷ es) = told-plain es
told-plain (Foreign call reply ∷ es) = told-plain es
told-plain (Flushed file start count ∷ es) = told-plain es
told-plain (Reboot verf ∷ es) = told-plain es
told-plain (Delivered bytes ∷ es) = told-plain es
told-plain (Failed ∷ es) = told-plain es

-- ---- a text that is cut off within the line of the last entry

-- after entries whose lines were all written
pub cut-after : (label : List ℕ) (h es : List Entry) (said text : List ℕ) → said ≡ told_by label h → IsCutIn label es text → IsCutIn label (h ++ es) (said ++ text)
cut-after label h es said text whole (all_told is) =
    all_told (ap (λ (t : List ℕ). t ++ text) whole ∙ ap (λ (t : List ℕ). told_by label h ++ t) is ∙ sym (told-append label h es))
cut-after label h es said text whole (last_cut before lane line answer front is shown within) =
    last_cut (h ++ before) lane line answer front
    (ap (λ (t : List Entry). h ++ t) is ∙ sym (append_assoc h before (Answered lane line answer ∷ [])))
    (ap (λ (t : List ℕ). t ++ text) whole ∙ ap (λ (t : List ℕ). told_by label h ++ t) shown ∙ sym (append_assoc (told_by label h) (told_by label before) front)
    ∙ ap (λ (t : List ℕ). t ++ front) (sym (told-append label h before)))
    within

-- after entries that have no line
pub cut-behind : (label : List ℕ) (h es : List Entry) (text : List ℕ) → told_by label h ≡ [] → IsCutIn label es text → IsCutIn label (h ++ es) text
cut-behind label h es text none c = cut-after label h es [] text (sym none) c
