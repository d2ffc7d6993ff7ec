-- The attributes that a stat shows are as old at most as the clock's readings allow.
use Rattle.core_answers.proofs.Prelude.{◌≤◌, ℕ, List, sym, subst, Rooted, IsRecent}
use Rattle.world_model.specs.declared.answer.Answer.TheVariants as answers
use Rattle.world_model.specs.declared.answer.Value.TheVariants as values
use Rattle.world_model.specs.declared.op.Op.TheVariants as ops
use Rattle.claims.specs.Recent.{Recent, Walked, root, step}
use Rattle.core_answers.specs.bonds.Aged.{AttrsAged}
use Rattle.core_answers.specs.bonds.Led.{LedRecently}
use Rattle.core_answers.specs.bonds.Led as recently
use Rattle.core_answers.proofs.bonds.Recents.{recent-of}
use Rattle.core_answers.proofs.bonds.StatsLed.{stats-led}

pub attrs-aged : AttrsAged
attrs-aged m setup modes origin t v lasts lawful fresh takes knows r lane x y path attr ended =
    let s = stats-led m setup modes.longest t v lasts lawful fresh r lane x y path attr ended in
    record {
      object = s.object;
      o = s.has.o;
      n = s.n;
      walked = walked path s.object s.led;
      recent = recent s.n s.recent s.soon;
      is = s.has.is;
      had = s.has.had;
    }
  where
    recent : (n : ℕ) → IsRecent t.entries modes.longest x n → n ≤ y → Recent modes t.entries x n
    recent n young_enough soon =
        recent-of modes t.entries takes lane x y ended.line (ops.Stat path) ended.began (answers.Done (values.Attrs attr)) ended n young_enough soon

    walked : (p : List (List ℕ)) (object : List ℕ) → LedRecently t modes.longest x y m.root p object → Walked modes origin t x p object
    walked _ _ (recently.root p object at same) =
        root p object at (subst (Rooted origin t.entries x) (sym same) (knows x lane ended.line (ops.Stat path) ended.began))
    walked _ _ (recently.step p earlier object name d at led s) = step p earlier object name d s.n at (walked earlier d led) (recent s.n s.recent s.soon) s.names
