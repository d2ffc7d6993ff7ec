-- A session that made no call of an operation has no failure after one began.
use Rattle.std.proofs.Common.{inl, inr, ◌⊎◌, ◌≡◌, ◌≤◌, ◌<◌, ℕ, List, [], ◌++◌, length, Result, Err, subst, arith}
use Rattle.std.proofs.lemmas.Bool.{cases_lt}
use Rattle.world_model.specs.declared.entry.Entry.{Entry}
use Rattle.world_model.specs.declared.entry.Entry.TheVariants.{Began, Failed}
use Rattle.world_model.specs.declared.tally.Tally.{Tally}
use Rattle.world_model.specs.Entries.{At}
use Rattle.world_model.proofs.Places.{At-back}
use Rattle.link_dials.specs.Sendings.{FailsBefore, SentAgain, Resends}
use Rattle.link_dials.proofs.Ports.{behind}
use Rattle.session_words.specs.declared.settings.Settings.{Settings}
use Rattle.session_setup.specs.declared.opening.SetUp.{SetUp}
use Rattle.session_setup.specs.declared.opening.SetUpFault.{SetUpFault}
use Rattle.session_setup.specs.declared.opening.SetUpFault.TheVariants.{Lost}
use Rattle.session_setup.specs.Outcomes.{SetsUp}
use Rattle.session_setup.specs.Sendings.{IsUnmarked}
use Rattle.nfs_client.proofs.Hushed.{AreHushed}

-- no operation began
pub early-resends : (h : List Entry) → IsUnmarked h → Resends h
early-resends h u i j xid waits begun fi fj early less = absurd (u.began begun.at begun.lane begun.line begun.op begun.began)

-- since the set-up nothing was dialed, sent or received
pub hushed-resends : (s : Settings) (first : ℕ) (result : Result SetUp SetUpFault) (before more h : List Entry) → SetsUp s first result before → h ≡ before ++ more → AreHushed more → Resends h
hushed-resends s first result before more h so is each i j xid waits begun fi fj early less = by (cases_lt begun.at (length before))
  where
    by : (begun.at < length before) ⊎ (length before ≤ begun.at) → SentAgain h i j xid ⊎ FailsBefore h j xid
    by (inl soon) = absurd (so.unmarked.began begun.at begun.lane begun.line begun.op
        (At-back before more begun.at (Began begun.lane begun.line begun.op) (subst (λ (l : List Entry). At l begun.at (Began begun.lane begun.line begun.op)) is begun.began) soon))
    by (inr late) =
        let b = behind before more i Failed (subst (λ (l : List Entry). At l i Failed) is fi) (let after = begun.before in omega (arith, after, late)) in
        absurd (each b.0 Failed b.1)

-- its lines were answered that it is lost
pub lost-resends : (s : Settings) (first : ℕ) (tally : Tally) (before more h : List Entry) → SetsUp s first (Err (Lost tally)) before → h ≡ before ++ more → AreHushed more → Resends h
lost-resends s first tally before more h so is each = hushed-resends s first (Err (Lost tally)) before more h so is each

-- there were no lines
pub empty-resends : (h : List Entry) → h ≡ [] → Resends h
empty-resends h none i j xid waits begun fi fj early less = absurd (let at : At [] i Failed = subst (λ (l : List Entry). At l i Failed) none fi in cc)
