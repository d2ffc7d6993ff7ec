-- A script that was run: each of its lines was begun and answered.
use Rattle.std.proofs.Common.{◌≡◌, ◌<◌, ◌⊎◌, inl, inr, ℕ, zero, suc, List, [], ◌∷◌, ◌++◌, All, sym, subst, ◌∙◌, append-nil, arith}
use Rattle.world_model.specs.declared.entry.Entry.{Entry}
use Rattle.world_model.specs.Follows.{Finishes, Follows, begun}
use Rattle.nfs_script.specs.Asked.{IsAskedLine}
use Rattle.nfs_script.specs.declared.script.ScriptLine.{ScriptLine}
use Rattle.lane_session.specs.declared.running.Session.{Session}
use Rattle.lane_session.specs.Endings.{entries_of}
use Rattle.lane_session.specs.Going.{Goes}
use Rattle.lane_session.specs.LaneMarks.{IsResting}
use Rattle.lane_session.proofs.Ending.{lane-at-end, none-out, which}
use Rattle.lane_session.proofs.LaneLaws.{resting-alternates}
use Rattle.script_runs.specs.Scripts.{IsOver}

pub all-append : (xs ys : List ScriptLine) → All IsAskedLine xs → All IsAskedLine ys → All IsAskedLine (xs ++ ys)
all-append [] ys a b n y lt = b n y lt
all-append (x ∷ xs) ys a b zero y lt = a zero y (omega arith)
all-append (x ∷ xs) ys a b (suc n) y lt = all-append xs ys (λ k z in_it. a (suc k) z (omega (arith, in_it))) b n y (omega (arith, lt))

module _ (done script : List ScriptLine) (from : ℕ) (k : List Entry) (s : Session) (over : IsOver script s) (asked : All IsAskedLine (done ++ script)) (g : Goes done from script k s) where
  lane-over : (lane : ℕ) → (begun lane k ≡ begun lane (entries_of (done ++ script))) × IsResting k lane
  lane-over lane = by (which lane)
    where
      by : ((n : ℕ) × (n < 16) × (lane ≡ suc n)) ⊎ ((lane ≡ 0) ⊎ (16 < lane)) → (begun lane k ≡ begun lane (entries_of (done ++ script))) × IsResting k lane
      by (inl w) =
          subst (λ (n : ℕ). (begun n k ≡ begun n (entries_of (done ++ script))) × IsResting k n) (sym w.2)
          (lane-at-end done from script k s over.held.seated.sixteen over.idle over.quiet g w.0 w.1)
      by (inr out) = ((g.others lane out).0 ∙ sym (none-out (done ++ script) lane asked out), (g.others lane out).1)

  pub script-finishes : Finishes (entries_of (done ++ script)) k
  script-finishes = record { all = λ lane. (lane-over lane).0; answered = λ x lane line op at. (lane-over lane).1.answered x line op at }

  pub script-follows : Follows (entries_of (done ++ script)) k
  script-follows = record {
    alternates = λ lane. resting-alternates k lane (lane-over lane).1;
    begins = λ lane. record { rest = []; is = sym (lane-over lane).0 ∙ sym (append-nil (begun lane k)) };
  }
