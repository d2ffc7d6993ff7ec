-- A session that was lost in its set-up, on its way: each batch so far was answered so.
use Rattle.std.proofs.Common.{◌≡◌, ◌≤◌, ◌+◌, ℕ, zero, suc, List, [], ◌∷◌, ◌++◌, All, length, Bool, Some, None, Ok, refl, sym, ap, subst, ◌∙◌, arith}
use Rattle.world_model.specs.declared.entry.Entry.{Entry}
use Rattle.world_model.specs.declared.entry.Entry.TheVariants.{Delivered}
use Rattle.world_model.specs.declared.tally.Tally.{Tally}
use Rattle.world_model.specs.Clocked.{clocks}
use Rattle.world_model.specs.Counts.{tally_of}
use Rattle.world_model.specs.Entries.{At}
use Rattle.world_model.specs.Follows.{begun}
use Rattle.world_model.specs.History.{history}
use Rattle.nfs_script.specs.Asked.{IsAskedLine}
use Rattle.nfs_script.specs.declared.script.ScriptLine.{ScriptLine}
use Rattle.lane_session.specs.Endings.{entries_of}
use Rattle.lane_session.specs.Labels.{told_by}
use Rattle.lane_session.specs.Losing.{IsLosing, LosesBy, LosesOnly, LostLines, by_lanes, status_of}
use Rattle.lane_session.specs.Statuses.{HasStatus}
use Rattle.lane_session.specs.TogetherFrom.{TogetherFrom}
use Rattle.lane_session.proofs.CoreEnds.{told-lost-counted}
use Rattle.lane_session.proofs.LaneOrder.{by-empty, lanes-same}
use Rattle.lane_session.proofs.LostAdds.{told-loses}
use Rattle.lane_session.proofs.LostLaws.{entries-both, lost-ends}
use Rattle.lane_session.proofs.Pushes.{begun-append}
use Rattle.batch_runs.specs.declared.answered.Answered.{Answered}
use Rattle.batch_runs.specs.Parts.{ArePartsFrom, Part, entries_in, lines_in, text_in}
use Rattle.batch_runs.specs.Reading.{Counts}
use Rattle.batch_runs.proofs.LostSo.{IsLostTo}

abbrev pub EachLosing : List Entry → Type 0
EachLosing es = (i : ℕ) (e : Entry) → At es i e → IsLosing e

-- These batches were answered so, after so many and after a history that made these calls.
pub record IsLostSoFar (count : Bool) (tally : Tally) (old now : Answered) (given text : List ℕ) (h k : List Entry) (parts : List Part) : Type 0 where
  pub are : ArePartsFrom count old.count h [] parts
  pub counts : Counts old now parts
  pub history_is : k ≡ h ++ entries_in parts
  pub written : text ≡ text_in parts
  pub clocked : clocks k ≡ clocks h ++ given
  pub gone : IsLostTo (lines_in parts) k
  pub asked : All IsAskedLine (lines_in parts)
  pub only : EachLosing (entries_in parts)
  pub none : lines_in parts ≡ [] → entries_in parts ≡ []
  pub tally_is : tally ≡ tally_of k

-- the lines of lanes one after another are the lines of the script, lane by lane
pub in-order : (done script : List ScriptLine) (k : List Entry) → All IsAskedLine script → IsLostTo (done ++ by_lanes 16 script) k → IsLostTo (done ++ script) k
in-order done script k asked g = record {
  resting = g.resting;
  begins = λ lane.
      g.begins lane
      ∙ ap (begun lane) (entries-both done (by_lanes 16 script))
      ∙ begun-append lane (entries_of done) (entries_of (by_lanes 16 script))
      ∙ ap (λ (t : List Entry). begun lane (entries_of done) ++ t) (lanes-same script asked lane)
      ∙ sym (begun-append lane (entries_of done) (entries_of script))
      ∙ ap (begun lane) (sym (entries-both done script));
  timed_all = g.timed_all;
}

-- nothing was received
At-behind : (h es : List Entry) (n : ℕ) (e : Entry) → At (h ++ es) n e → length h ≤ n → (i : ℕ) × At es i e
At-behind [] es n e at le = (n, at)
At-behind (x ∷ h) es zero e at le = absurd (omega (arith, le))
At-behind (x ∷ h) es (suc n) e at le = At-behind h es n e at (omega (arith, le))

pub none-heard : (h es lines : List Entry) → EachLosing es → TogetherFrom (length h) lines (h ++ es)
none-heard h es lines only n bytes at le k lane line op there = absurd (let r = At-behind h es n (Delivered bytes) at le in only r.0 (Delivered bytes) r.1)

pub each-both : (a b : List Entry) → EachLosing a → EachLosing b → EachLosing (a ++ b)
each-both [] b p q i e at = q i e at
each-both (x ∷ a) b p q zero e at = p zero e at
each-both (x ∷ a) b p q (suc i) e at = each-both a b (λ j d there. p (suc j) d there) q i e at

-- what the lines of one script add
module _ (script : List ScriptLine) (asked : All IsAskedLine script) (given told : List ℕ) (k l es : List Entry) (is : l ≡ k ++ es) (lines : LostLines (by_lanes 16 script) es) (given_is : given ≡ clocks es)
    (told_is : told ≡ told_by [] es) where
  pub own-status : HasStatus es (status_of script)
  own-status =
      (lost-ends (by_lanes 16 script) script (lanes-same script asked) (record { status = status_of script; tally = tally_of []; pages = None }) given told [] es es refl (λ lane. refl) refl lines given_is told_is).status

  loses : LosesBy [] (by_lanes 16 script) (Ok tt) given told k l
  loses = (es, is, lines, given_is, told_is)

  only-losing : LosesOnly script [] es
  only-losing = told-loses (Some (history [])) (Some (history es)) [] (by_lanes 16 script) script (Ok tt) given told (λ none. by-empty 16 script none) (es, refl, lines, given_is, told_is)

  pub own-each : EachLosing es
  own-each = subst EachLosing (sym only-losing.is) only-losing.each

  pub own-none : script ≡ [] → es ≡ []
  own-none none = only-losing.is ∙ only-losing.none none

  pub same-calls : tally_of k ≡ tally_of l
  same-calls =
      told-lost-counted (Some (history k)) (Some (history l)) [] (by_lanes 16 script) given told (record { status = 0; tally = tally_of k; pages = None }) (tally_of k) refl loses tt refl
