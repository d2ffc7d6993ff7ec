-- What is known of closes, their ranks, and what was given up, along the histories that the core goes with.
use Rattle.core_session.proofs.Prelude.{◌≡◌, ◌≤◌, ℕ, List, [], ◌∷◌, ◌++◌, false, Some, None, slice_get, sym, ap, subst, ◌∙◌, Answer, Entry, Began, Answered, Modes, Terms, Shelf, CloseFile, Mounted, machine_of, Lane, Busy, Setup, IsFresh, Stirs, AnswersAt, View, Reaches, StepsTo, begins-unbegun, Known, lanes-under-way, get-remove, skip, IsDropped, IsClose, IsSaving}
use Rattle.op_machines.specs.declared.file_machine.FileMachine.TheVariants as files
use Rattle.op_machines.specs.declared.machine.Machine.TheVariants as machines
use Rattle.core_session.proofs.drops.BeginSteps.{starts-step}
use Rattle.core_session.proofs.drops.DropLaws.{dropped-stirs, dropped-starts, dropped-takes, dropped-same}
use Rattle.core_session.proofs.drops.GuardLaws.{stirs-step, takes-step, ranked-step}
use Rattle.core_session.proofs.drops.Guards.{Ranked}
use Rattle.core_session.proofs.drops.KnowingAlong.{StepsKnowing, kept-step, reached-knowing}
use Rattle.core_session.proofs.drops.Laws.{DropsKnown, drops-fresh, drops-stirs, drops-starts, drops-takes, drops-answers, drops-same}
use Rattle.core_session.proofs.drops.Noting.{dropped-noted}
use Rattle.core_session.proofs.drops.Ranks.{StandsBefore}

pub record GuardsKnown (m : Modes) (h : List Entry) (v : View) : Type 0 where
  pub drops : DropsKnown m h v
  pub ranked : Ranked v

-- with fewer lanes, and the same shelf
ranked-fewer : (old new : View) → ((n : ℕ) (c : CloseFile) → IsClose new n c → IsClose old n c) → new.shelf ≡ old.shelf → Ranked old → Ranked new
ranked-fewer old new was shelf r = record {
  sorted = λ n l c d f u w a b low. subst (λ (s : Shelf). StandsBefore s.order f n l) (sym shelf) (r.sorted n l c d f u w (saving n c f u a) (saving l d f w b) low);
  below = λ n c f u a. subst (λ (s : Shelf). u ≤ s.seq) (sym shelf) (r.below n c f u (saving n c f u a));
}
  where
    saving : (n : ℕ) (c : CloseFile) (f : List ℕ) (u : ℕ) → IsSaving new n c f u → IsSaving old n c f u
    saving n c f u i = record { close = was n c i.close; save = i.save; is = i.is; file_is = i.file_is; upto_is = i.upto_is }

module _ (mounted : Mounted) (m : Modes) (same : mounted.nocto ≡ m.nocto) (setup : Setup) where
  guards-stirs : (h : List Entry) (old new : View) (at : ℕ) → Known setup h old → Stirs old at new → GuardsKnown m h old → GuardsKnown m h new
  guards-stirs h old new at k t d = record {
    drops = drops-stirs mounted m same setup h old new at k t d.drops;
    ranked = ranked-step old new (stirs-step setup m h old new k d.drops at t) d.ranked;
  }

  guards-answers : (h : List Entry) (old new : View) (at lane line : ℕ) (answer : Answer) → Known setup h old → AnswersAt old at lane (Some answer) new → GuardsKnown m h old
      → GuardsKnown m (h ++ Answered lane line answer ∷ []) new
  guards-answers h old new at lane line answer k a d = record {
    drops = drops-answers mounted m same setup h old new at lane line answer k a d.drops;
    ranked = ranked-fewer old new (λ n c i. record {
      at = skip at i.at;
      there = get-remove old.lanes at i.at (record { number = n; state = Busy (machines.File (files.Close c)) }) (sym (ap (λ (w : View). slice_get w.lanes i.at) a.is) ∙ i.there);
    }) (ap (λ (w : View). w.shelf) a.is) d.ranked;
  }

  pub guards-steps : StepsKnowing (machine_of mounted) setup (GuardsKnown m)
  guards-steps = record {
    stirs = guards-stirs;
    starts = λ h old new lane line op now r found k idle fits t d. record {
      drops = drops-starts mounted m same setup h old new lane line op now r found k idle t d.drops;
      ranked = (starts-step mounted m same setup h old new lane line op now r found idle t (lanes-under-way h old k.lanes).apart d.drops.turned (h ++ Began lane line op ∷ [])).ranked d.ranked;
    };
    takes = λ h old new rec xid call at r found k fin hears named waits there t d. record {
      drops = drops-takes mounted m same setup h old new rec xid call at k waits there t d.drops;
      ranked = ranked-step old new (takes-step setup m h old new k d.drops rec xid call at waits there t) d.ranked;
    };
    answers = λ h old new at lane line answer r found k later done line_is a d. guards-answers h old new at lane line answer k a d;
    same = λ h e old new plain noted lanes shelf size calls d. record {
      drops = drops-same mounted m same setup h e old new plain lanes shelf calls d.drops;
      ranked = ranked-fewer old new (λ n c i. record { at = i.at; there = ap (λ (ls : List Lane). slice_get ls i.at) (sym lanes) ∙ i.there }) shelf d.ranked;
    };
  }

  guards-fresh : (h : List Entry) (v : View) → IsFresh setup v → GuardsKnown m h v
  guards-fresh h v fresh = record {
    drops = drops-fresh mounted m same setup h v fresh;
    ranked = record {
      sorted = λ n l c d f u w a b low. absurd (none a.close.at (record { number = n; state = Busy (machines.File (files.Close c)) }) a.close.there);
      below = λ n c f u a. absurd (none a.close.at (record { number = n; state = Busy (machines.File (files.Close c)) }) a.close.there);
    };
  }
    where
      none : (k : ℕ) (lane : Lane) → slice_get v.lanes k ≡ Some lane → ⊥
      none k lane there = let no_way : None ≡ Some lane = ap (λ (lanes : List Lane). slice_get lanes k) (sym fresh.lanes) ∙ there in cc

  pub known-guards : (h : List Entry) (v : View) → Reaches (machine_of mounted) setup h v → v.lost ≡ false → GuardsKnown m h v
  known-guards = reached-knowing (machine_of mounted) (begins-unbegun mounted) setup (GuardsKnown m) guards-steps (λ h v may up fresh. guards-fresh h v fresh)

-- ---- what was given up

module _ (mounted : Mounted) (terms : Terms) (same : mounted.nocto ≡ terms.modes.nocto) (setup : Setup) (from : ℕ) (file : List ℕ) where
  abbrev DropsToo : List Entry → View → Type 0
  DropsToo h v = DropsKnown terms.modes h v × IsDropped terms.modes from h v file

  drops-too : StepsKnowing (machine_of mounted) setup (λ h v. DropsKnown terms.modes h v × IsDropped terms.modes from h v file)
  drops-too = record {
    stirs = λ h old new at k t d. (drops-stirs mounted terms.modes same setup h old new at k t d.0, dropped-stirs terms.modes from file h old new at t d.0 d.1);
    starts = λ h old new lane line op now r found k idle fits t d. (
      drops-starts mounted terms.modes same setup h old new lane line op now r found k idle t d.0,
      dropped-starts mounted terms.modes same setup file from h old new lane line op now r found idle t d.1,
    );
    takes = λ h old new rec xid call at r found k fin hears named waits there t d. (
      drops-takes mounted terms.modes same setup h old new rec xid call at k waits there t d.0,
      dropped-takes mounted terms.modes same setup file from h old new fin rec hears d.1,
    );
    answers = λ h old new at lane line answer r found k later done line_is a d.
        let now = drops-answers mounted terms.modes same setup h old new at lane line answer k a d.0 in
        (now, dropped-noted mounted terms setup from h old new at lane line answer k (record { nocto = same; reaches = later }) done line_is a now file d.1);
    same = λ h e old new plain noted lanes shelf size calls d. (
      drops-same mounted terms.modes same setup h e old new plain lanes shelf calls d.0,
      dropped-same terms.modes from file h e old new plain noted lanes shelf d.1,
    );
  }

  pub dropped-entry : (h : List Entry) (v : View) (e : Entry) (w : View) → Reaches (machine_of mounted) setup h v → StepsTo (machine_of mounted) h v e w → v.lost ≡ false → w.lost ≡ false
      → DropsKnown terms.modes h v → IsDropped terms.modes from h v file → IsDropped terms.modes from (h ++ e ∷ []) w file
  dropped-entry h v e w r t found later known d =
      (kept-step (machine_of mounted) (begins-unbegun mounted) setup (λ h v. DropsKnown terms.modes h v × IsDropped terms.modes from h v file) drops-too h v e w t r (λ was. (known, d)) later
      (λ rec heard. found)).1
