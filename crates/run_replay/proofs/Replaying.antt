-- What a run promises of the history of a simulated server, with its premises met.
use Rattle.std.proofs.Common.{◌≡◌, ℕ, List, [], Option, Some, Result, Ok, Err, refl, ap, ◌∙◌}
use Rattle.world_model.specs.Told.{Relates}
use Rattle.made_script.specs.Made.{made_text}
use Rattle.run_made.specs.MadeRuns.{MadeRunOf}
use Rattle.nfs_client.specs.Headline.{Headline, Promises}
use Rattle.script_runs.specs.Readings.{Reads}
use Rattle.script_runs.specs.Run.{RunOf, unbegun, session, Says}
use Rattle.session_words.specs.declared.settings.Settings.{Settings}
use Rattle.world_link.specs.declared.world.World.{World}
use Rattle.world_link.specs.Begins.{Begins}
use Rattle.world_link.specs.Honest.{IsHonestWorld}
use Rattle.world_link.specs.Readings.{ReadView}
use Rattle.world_link.specs.Replay.{told}
use Rattle.world_link.specs.View.{WorldView, seen}
use Rattle.world_link.proofs.WorldKeepsContract.{honest_is_lawful, honest_is_fresh, honest_is_rising}
use Rattle.run_replay.specs.Replays.{IsRead, StartsAs, Keeps, ReplayShows, ReplayOf, MadeReplayOf}

-- ---- the schedule

-- a world began, so its schedule was read
pub was_read : (read : Result ReadView ℕ) (world : World) (tick status : ℕ) (later : World) → Begins read (Ok (world, tick)) → IsRead read (Ok (later, status))
was_read (Ok view) world tick status later b = (view, refl)
was_read (Err n) world tick status later b = absurd b

-- nothing happened in it yet
pub begins_empty : (read : Result ReadView ℕ) (world : World) (tick : ℕ) → Begins read (Ok (world, tick)) → (told (seen world)).entries ≡ []
begins_empty (Ok view) world tick b = ap (λ (w : WorldView). w.server.entries) b.world_is
begins_empty (Err n) world tick b = absurd b

-- the server at the first moment is still that of the schedule
pub starts : (read : Result ReadView ℕ) (start later : World) (tick : ℕ) → Begins read (Ok (start, tick)) → (told (seen later)).at 0 ≡ (told (seen start)).at 0
    → StartsAs read (told (seen later))
starts (Ok view) start later tick b same = same ∙ ap (λ (w : WorldView). (told w).at 0) b.world_is
starts (Err n) start later tick b same = absurd b

-- ---- what is promised

pub keeps : (s : Settings) (first : ℕ) (w : WorldView) → IsHonestWorld w → Promises s first (told w) → Keeps s first (told w)
keeps s first w honest p =
    let lawful = honest_is_lawful w honest in
    let fresh = honest_is_fresh w honest in
    let rising = honest_is_rising w honest in
    record {
      lawful = lawful;
      fresh = fresh;
      rising = rising;
      completes = p.completes;
      settled = p.settled lawful;
      cuts_stay = p.cuts_stay lawful;
      read_true = λ once. p.read_true lawful once fresh;
      read_short = λ once. p.read_short lawful once fresh;
      read_current = p.read_current lawful fresh;
      names_true = p.names_true lawful fresh;
      attr_age = p.attr_age lawful fresh;
      list_true = p.list_true lawful fresh rising;
    }

shows : (w : WorldView) (given : List ℕ) (words : List (List ℕ)) (left : Option (List ℕ)) (status : ℕ) (text : List ℕ) → IsHonestWorld w → RunOf Headline given words left (told w).entries status text
    → RunOf (ReplayShows (told w)) given words left (told w).entries status text
shows w given words left status text honest (unbegun none by) = unbegun none by
shows w given words left status text honest (session s lines command modes read headline) =
    session s lines command modes read (record { headline = headline; keeps = keeps s headline.first w honest (headline.server (told w) refl) })

pub replay_says : (read : Result ReadView ℕ) (start later : World) (tick : ℕ) (was now : Option (List ℕ)) (old new : Option (List ℕ)) (words : List (List ℕ)) (left : Option (List ℕ)) (status : ℕ)
    → Begins read (Ok (start, tick)) → (IsHonestWorld (seen start) → IsHonestWorld (seen later)) → IsHonestWorld (seen start)
    → Says old new (λ text. Reads was now (λ given. Relates (Some (told (seen start))) (Some (told (seen later))) (λ before h. before ≡ [] → RunOf Headline given words left h status text)))
    → Says old new (λ text. ReplayOf (told (seen later)) words left status text)
replay_says read start later tick was now old new words left status begun stays honest said = record {
  text = said.text;
  added = said.added;
  is = (said.is.0, shows (seen later) said.is.0 words left status said.text (stays honest) (said.is.2 (begins_empty read start tick begun)));
}

-- ---- a script that is made

made_shows : (w : WorldView) (given : List ℕ) (words : List (List ℕ)) (n status : ℕ) (said : List ℕ) → IsHonestWorld w → MadeRunOf Headline given words n (told w).entries status said
    → MadeRunOf (ReplayShows (told w)) given words n (told w).entries status said
made_shows w given words n status said honest m = record {
  text = m.text;
  ran = m.ran;
  runs = shows w given words (Some (made_text n)) m.ran m.text honest m.runs;
  tells = m.tells;
  ends = shows w given words (Some (made_text n)) status m.text honest m.ends;
}

pub made_says : (read : Result ReadView ℕ) (start later : World) (tick : ℕ) (was now : Option (List ℕ)) (old new : Option (List ℕ)) (words : List (List ℕ)) (n status : ℕ)
    → Begins read (Ok (start, tick)) → (IsHonestWorld (seen start) → IsHonestWorld (seen later)) → IsHonestWorld (seen start)
    → Says old new (λ said. Reads was now (λ given. Relates (Some (told (seen start))) (Some (told (seen later))) (λ before h. before ≡ [] → MadeRunOf Headline given words n h status said)))
    → Says old new (λ said. MadeReplayOf (told (seen later)) words n status said)
made_says read start later tick was now old new words n status begun stays honest said = record {
  text = said.text;
  added = said.added;
  is = (said.is.0, made_shows (seen later) said.is.0 words n status said.text (stays honest) (said.is.2 (begins_empty read start tick begun)));
}
