-- Attributes and names together, and where a walk's path leads on an honest server.
use Rattle.core_answers.proofs.Prelude.{◌≡◌, ◌<◌, ◌≤◌, ℕ, suc, List, ◌++◌, length, Some, sym, ap, subst, arith, Attr, stamp_of, Lookup, Answer, Entry, Executed, Call, Reply, Op, Fresh, History, Lawful, Modes, Rooted, Ended, At-below, Step, Machine, KnowsRoot, Awaits, AskedOf, Numbered, IsRecent, own, ShownRecently, IsAnswered}
use Rattle.world_model.specs.Mounts.{Origin}
use Rattle.world_model.specs.declared.entry.Entry.TheVariants.{Answered as AnsweredNow}
use Rattle.world_model.specs.declared.message.Reply.TheVariants as replies
use Rattle.claims.specs.Recent as walks
use Rattle.claims.specs.Recent.{Recent, Walked}
use Rattle.world_model.proofs.Doing.{lookup_done}
use Rattle.client_shelf.specs.declared.step.Step.TheVariants as nexts
use Rattle.name_ops.specs.Looking.{look_up}
use Rattle.law_names.specs.Kept.{IsLookedUp}
use Rattle.model_walks.proofs.NamesStand.{stands_at}
use Rattle.core_answers.specs.bonds.Aged.{TakesReadings}
use Rattle.core_answers.specs.bonds.Had.{HasAttr}
use Rattle.core_answers.specs.bonds.Led.{StoodRecently, LedRecently}
use Rattle.core_answers.specs.bonds.Led as recently
use Rattle.core_answers.proofs.bonds.AttrsShown.{answered-grow, attr-laws}
use Rattle.core_answers.proofs.bonds.Executions.{answered-ran, shown-had, recent-later}
use Rattle.core_answers.proofs.bonds.FileCalls.{Asking}
use Rattle.core_answers.proofs.engine.Told.{AskLaws, ShelfLaws}
use Rattle.core_answers.proofs.bonds.MachineCalls.{Asks, asks-laws}
use Rattle.core_answers.proofs.bonds.NamesShown.{awaits-asks, name-laws}
use Rattle.core_answers.proofs.bonds.Recents.{recent-of}
use Rattle.core_answers.proofs.bonds.StatsLed.{Both, Kept}
use Rattle.core_answers.proofs.bonds.StatsShown.{recent-grows}
use Rattle.core_answers.proofs.bonds.Walked.{StepBy, looked, believed_so, LedBy, root, step}

-- ---- attributes and names together

both-asked : (next : Step) (new : Machine) → AskedOf Asks next new → AskedOf Awaits next new → AskedOf Both next new
both-asked (nexts.Send call) new a b = (a, b)
both-asked nexts.Wait new a b = tt
both-asked (nexts.Done answer) new a b = tt

both-asking : (others : ℕ) (m : Machine) (next : Step) (new : Machine) → Asking Asks (Asks m) others next new → Asking Awaits (Awaits m) others next new → Asking Both (Both m) others next new
both-asking others m (nexts.Send call) new a b = record { asked = (a.asked, b.asked); kept = λ some c on. (a.kept some c on.0, b.kept some c on.1) }
both-asking others m nexts.Wait new a b = record { asked = tt; kept = λ some c on. (a.kept some c on.0, b.kept some c on.1) }
both-asking others m (nexts.Done answer) new a b = record { asked = tt; kept = tt }

pub both-asks : AskLaws Both
both-asks = record {
  starts = λ m wsize turn old next new after s. both-asked next new (asks-laws.starts m wsize turn old next new after s) (awaits-asks.starts m wsize turn old next new after s);
  resumes = λ m wsize turn old next new after right goes s.
      both-asking _ m next new (asks-laws.resumes m wsize turn old next new after right goes s) (awaits-asks.resumes m wsize turn old next new after right goes s);
  takes = λ m wsize sent turn came old next new after others one s.
      both-asking others m next new (asks-laws.takes m wsize sent turn came old next new after others one s) (awaits-asks.takes m wsize sent turn came old next new after others one s);
}

pub both-laws : (most : ℕ) → ShelfLaws Both (Kept most)
both-laws most = record {
  starts = λ h machine wsize turn old next new after s k.
      ((attr-laws most).starts h machine wsize turn old next new after s k.0, name-laws.starts h machine wsize turn old next new after s k.1);
  resumes = λ h machine wsize turn old next new after r k.
      ((attr-laws most).resumes h machine wsize turn old next new after r k.0, name-laws.resumes h machine wsize turn old next new after r k.1);
  takes = λ h machine call wsize sent turn came old next new after on told t k. (
    (attr-laws most).takes h machine call wsize sent turn came old next new after on.0 told t k.0,
    name-laws.takes h machine call wsize sent turn came old next new after on.1 told t k.1,
  );
  grows = λ h e shelf k. ((attr-laws most).grows h e shelf k.0, name-laws.grows h e shelf k.1);
}

-- ---- where the server is honest

module _ (t : History) (lawful : Lawful t) (fresh : Fresh t) (numbered : Numbered t.entries) (most x y : ℕ) (before after : List Entry) (is : t.entries ≡ before ++ after)
    (there : length before ≡ y) (soon : y ≤ length t.entries) (within : x < length before) where
  pub lift : (from : ℕ) (call : Call) (reply : Reply) → IsAnswered before from (length before) call reply → IsAnswered t.entries from y call reply
  lift from call reply a =
      subst (λ (k : List Entry). IsAnswered k from y call reply) (sym is) (answered-grow before after from y call reply (subst (λ (n : ℕ). IsAnswered before from n call reply) there a))

  recent-lift : (n : ℕ) → IsRecent before most x n → IsRecent t.entries most x n
  recent-lift n r = subst (λ (k : List Entry). IsRecent k most x n) (sym is) (recent-grows before after most x n (omega (arith, within)) r)

  -- an object had attributes that were shown recently at a recent moment
  pub record HadThen (object : List ℕ) (attr : Attr) : Type 0 where
    pub n : ℕ
    pub recent : IsRecent t.entries most x n
    pub early : n ≤ y
    pub has : HasAttr t n object attr

  had-then : (attr : Attr) (s : ShownRecently before most x (length before) attr) → HadThen s.object attr
  had-then attr s =
      let had = shown-had t lawful numbered s.since y s.call s.reply s.object attr (lift s.since s.call s.reply s.answered) s.shows in
      let late = had.late in
      record { n = had.n; recent = recent-later t.entries most x s.since had.n (omega (arith, late)) (recent-lift s.since s.recent); early = had.soon; has = had.has }

  stood : (d name object : List ℕ) → StepBy before most x d name object → StoodRecently t most x y d name object
  stood d name object (looked since attr dir_attr late a) =
      let reply : Reply = replies.Dir (Lookup object attr dir_attr) in
      let ran = answered-ran t lawful numbered since y (look_up d name) reply tt (lift since (look_up d name) reply a) in
      let done = lookup_done (t.at ran.place) (t.at (suc ran.place)) d name object attr dir_attr (lawful.entries ran.place (Executed ran.xid (look_up d name) reply) ran.at).1 in
      let from = ran.late in
      let to = ran.before in
      record { n = ran.place; recent = own (omega (arith, late, from)); soon = omega (arith, to); names = done.named.names }
  stood d name object (believed_so attr s on was) =
      let had = had-then attr s in
      let reply : Reply = replies.Dir (Lookup object was.attr (Some was.dir_attr)) in
      let ran = answered-ran t lawful numbered 0 y (look_up d name) reply tt (lift 0 (look_up d name) reply was.answered) in
      let told : IsLookedUp t d (stamp_of attr) name object = record { place = ran.place; xid = ran.xid; attr = was.attr; dir = was.dir_attr; done = ran.at; is = was.stamp } in
      let has : HasAttr t had.n d attr = subst (λ (o : List ℕ). HasAttr t had.n o attr) on had.has in
      let early = had.early in
      record {
        n = had.n;
        recent = had.recent;
        soon = had.early;
        names = stands_at t lawful fresh d (stamp_of attr) name object told had.n (omega (arith, early, soon)) has.o has.is (ap stamp_of has.had);
      }

  pub led-stood : (top : List ℕ) (path : List (List ℕ)) (object : List ℕ) → LedBy before most x top path object → LedRecently t most x y top path object
  led-stood top _ _ (root path object at same) = recently.root path object at same
  led-stood top _ _ (step path earlier object name d at led by) = recently.step path earlier object name d at (led-stood top earlier d led) (stood d name object by)

-- ---- as the model says it

module _ (modes : Modes) (origin : Origin) (t : History) (top : List ℕ) (lawful : Lawful t) (fresh : Fresh t) (numbered : Numbered t.entries) (takes : TakesReadings t.entries)
    (knows : KnowsRoot origin t.entries top) (lane x y : ℕ) (op : Op) (answer : Answer) (ended : Ended t.entries lane x op y answer) (before after : List Entry)
    (is : t.entries ≡ before ++ after) (there : length before ≡ y) where
  pub ends-within : y ≤ length t.entries
  ends-within = let early = At-below t.entries y (AnsweredNow lane ended.line answer) ended.answered in omega (arith, early)

  recent-then : (n : ℕ) → IsRecent t.entries modes.longest x n → n ≤ y → Recent modes t.entries x n
  recent-then n near soon = recent-of modes t.entries takes lane x y ended.line op ended.began answer ended n near soon

  walked-so : (path : List (List ℕ)) (object : List ℕ) → LedRecently t modes.longest x y top path object → Walked modes origin t x path object
  walked-so _ _ (recently.root path object at same) =
      walks.root path object at (subst (λ (o : List ℕ). Rooted origin t.entries x o) (sym same) (knows x lane ended.line op ended.began))
  walked-so _ _ (recently.step path earlier object name d at led s) =
      walks.step path earlier object name d s.n at (walked-so earlier d led) (recent-then s.n s.recent s.soon) s.names

  pub walked-of : (path : List (List ℕ)) (object : List ℕ) → LedBy before modes.longest x top path object → Walked modes origin t x path object
  walked-of path object led =
      walked-so path object (led-stood t lawful fresh numbered modes.longest x y before after is there ends-within (let late = ended.later in omega (arith, late, there)) top path object led)

  -- the call was answered so in the whole history
  pub lift-all : (from : ℕ) (call : Call) (reply : Reply) → IsAnswered before from (length before) call reply → IsAnswered t.entries from y call reply
  lift-all = lift t lawful fresh numbered modes.longest x y before after is there ends-within (let late = ended.later in omega (arith, late, there))
