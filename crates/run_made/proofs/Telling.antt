-- What is told of a run.
use Rattle.std.proofs.Common.{inr, ◌≡◌, ℕ, List, [], Option, Some, None, refl, sym, subst, ◌∙◌}
use Rattle.world_model.specs.declared.entry.Entry.{Entry}
use Rattle.world_model.specs.History.{History}
use Rattle.world_model.specs.Told.{Relates}
use Rattle.nfs_script.specs.declared.script.ScriptLine.{ScriptLine}
use Rattle.session_words.specs.declared.settings.Settings.{Settings}
use Rattle.made_script.specs.Made.{made_text}
use Rattle.script_runs.specs.Readings.{Reads}
use Rattle.script_runs.specs.Run.{RunOf, Says, unbegun, cut_before}
use Rattle.script_runs.proofs.Readings.{reads_none}
use Rattle.script_runs.proofs.StreamLaws.{appends_none}
use Rattle.run_made.specs.MadeRuns.{said_of, Tells, told, cut, MadeRunOf}
use Rattle.run_made.proofs.CutShort.{Cuts, run_is}

-- whatever is so of sessions, also where they are said to be cut off
module _ (Is : Settings → List ScriptLine → List ℕ → List Entry → ℕ → List ℕ → Type 0)
    (cuts : (s : Settings) (lines : List ScriptLine) (given : List ℕ) (h : List Entry) (ran status : ℕ) (text : List ℕ) → Cuts ran status → Is s lines given h ran text → Is s lines given h status text) where
  -- the run was so, and of it that was told
  pub made_run : (given : List ℕ) (words : List (List ℕ)) (n : ℕ) (h : List Entry) (ran status : ℕ) (text said : List ℕ) → RunOf Is given words (Some (made_text n)) h ran text
      → Tells (said_of ran text) ran status said → MadeRunOf Is given words n h status said
  made_run given words n h ran status text said r (told same is) =
      record { text = text; ran = ran; runs = r; tells = told same is; ends = subst (λ (t : ℕ). RunOf Is given words (Some (made_text n)) h t text) (sym same) r }
  made_run given words n h ran status text said r (cut off stays front) =
      record { text = text; ran = ran; runs = r; tells = cut off stays front; ends = run_is Is cuts given words (Some (made_text n)) h ran status text (record { off = off; stays = stays }) r }

  made_relates : (old new : Option History) (given : List ℕ) (words : List (List ℕ)) (n ran status : ℕ) (text said : List ℕ) → Tells (said_of ran text) ran status said
      → Relates old new (λ before h. before ≡ [] → RunOf Is given words (Some (made_text n)) h ran text)
      → Relates old new (λ before h. before ≡ [] → MadeRunOf Is given words n h status said)
  made_relates None new given words n ran status text said t r = tt
  made_relates (Some x) None given words n ran status text said t r = absurd r
  made_relates (Some x) (Some y) given words n ran status text said t r = λ e. made_run given words n y.entries ran status text said (r e) t

  -- the run's text is what the sink of its answers holds at its end
  pub made_says : (v w : Option (List ℕ)) (a b : Option (List ℕ)) (old new : Option History) (words : List (List ℕ)) (n ran status : ℕ) (left : Option (List ℕ)) (first last : List ℕ)
      → left ≡ Some (made_text n) → first ≡ []
      → Says (Some first) (Some last) (λ text. Reads a b (λ given. Relates old new (λ before h. before ≡ [] → RunOf Is given words left h ran text)))
      → Says v w (Tells (said_of ran last) ran status)
      → Says v w (λ said. Reads a b (λ given. Relates old new (λ before h. before ≡ [] → MadeRunOf Is given words n h status said)))
  made_says v w a b old new words n ran status left first last is none ran_so said =
      let same : last ≡ ran_so.text = ran_so.added ∙ rw none refl in
      record {
        text = said.text;
        added = said.added;
        is = (
          ran_so.is.0,
          ran_so.is.1,
          made_relates old new ran_so.is.0 words n ran status ran_so.text said.text
              (subst (λ (t : List ℕ). Tells (said_of ran t) ran status said.text) same said.is)
              (subst (λ (t : Option (List ℕ)). Relates old new (λ before h. before ≡ [] → RunOf Is ran_so.is.0 words t h ran ran_so.text)) is ran_so.is.2),
        );
      }

  unmade_relates : (old : Option History) (words : List (List ℕ)) (n : ℕ) → Relates old old (λ before h. before ≡ [] → MadeRunOf Is [] words n h 7 [])
  unmade_relates None words n = tt
  unmade_relates (Some x) words n = λ e. made_run [] words n x.entries 7 7 [] [] (unbegun e (cut_before (inr refl) refl)) (told refl refl)

  -- memory ran out before the run
  pub unmade_says : (v a : Option (List ℕ)) (old : Option History) (words : List (List ℕ)) (n : ℕ)
      → Says v v (λ said. Reads a a (λ given. Relates old old (λ before h. before ≡ [] → MadeRunOf Is given words n h 7 said)))
  unmade_says v a old words n = record {
    text = [];
    added = appends_none v;
    is = ([], reads_none a, unmade_relates old words n);
  }

-- at 2 nothing was written
pub nothing_said : (v w : List ℕ) → v ≡ [] → Says (Some v) (Some w) (λ text. text ≡ []) → w ≡ []
nothing_said v w none said = said.added ∙ rw none said.is

-- a run that ended in 7 ends so here
pub stays_seven : (whole : List ℕ) (v w : Option (List ℕ)) (ran status : ℕ) → Says v w (Tells whole ran status) → ran ≡ 7 → status ≡ 7
stays_seven whole v w ran status said seven = go said.text said.is
  where
    go : (text : List ℕ) → Tells whole ran status text → status ≡ 7
    go text (told same is) = same ∙ seven
    go text (cut off stays front) = stays seven
