-- An operation begins: what stands of the newest bytes goes on standing.
use Rattle.core_session.proofs.Prelude.{◌≡◌, ◌≢◌, ◌≤◌, ◌<◌, ◌+◌, ◌⊎◌, inl, inr, ℕ, Bool, true, false, nat_eq, List, [], ◌∷◌, ◌++◌, length, None, refl, sym, subst, ◌∙◌, append_assoc, arith, if◌then◌else◌, eqb-true, eqb-false, Answer, Value, Entry, Began, Op, At, Ended, UnderWay, IsOf, Terms, Cuts, IsDelivered, At-one, At-grow, At-last, length_last, Mounted, Machine, machine_of, Fits, Starts, Busy, Over, Setup, IsIdle, counted, StartsLane, View, turn_at, unmade_turn, Reaches, GoesWith, Known, Runs, lanes-begin, number_of, to-map, at-push, Placed}
use Rattle.world_model.specs.declared.answer.Answer.TheVariants as answers
use Rattle.world_model.specs.declared.op.Op.TheVariants as ops
use Rattle.core_session.proofs.saves.WholeSteps.{Wholly}
use Rattle.core_session.proofs.syncs.Causes.{IsWriter, IsSaver, IsPut, OfOp}
use Rattle.core_session.proofs.syncs.Fates.{job_kind}
use Rattle.core_session.proofs.syncs.Passing.{job-in}
use Rattle.core_session.proofs.syncs.Plans.{Plan, Came_, starts-came}
use Rattle.core_session.proofs.syncs.Seen.{bases}
use Rattle.core_session.proofs.syncs.Turning.{Turns, turns-starts}
use Rattle.core_session.proofs.drops.Along.{GuardsKnown}
use Rattle.core_session.proofs.pending.Alone.{unleft-step}
use Rattle.core_session.proofs.pending.Letting.{starts-lets}
use Rattle.core_session.proofs.syncs.SlotHeld.{HoldsSlot}
use Rattle.core_session.proofs.pending.Above.{Above}
use Rattle.core_session.proofs.syncs.Aparts.{apart-turns, names-next}
use Rattle.core_session.proofs.pending.Begins.{begins-unput, begins-of, one-file}
use Rattle.core_session.proofs.pending.Cuttings.{IsTruncate, IsCutter, cutter-starts, cutter-starts-not, cutter-takes, cutter-takes-err, leads-keeps, leads-done}
use Rattle.core_session.proofs.pending.LaneSettles.{starts-sync-good, starts-close-good}
use Rattle.core_session.proofs.pending.Newest.{OfNewest}
use Rattle.core_session.proofs.syncs.PutGoes.{starts-not}
use Rattle.core_session.proofs.pending.Settles.{IsGood, StateGood}
use Rattle.core_session.proofs.pending.Standing.{IsSaverOf, Phase, C, c-e, plan}
use Rattle.core_session.proofs.pending.Stepping.{was-all, writer-here, put-kind, truncate-here, next-phase}
use Rattle.core_session.proofs.pending.TakesOn.{ended-was}

began-same : (a b c d : ℕ) (o p : Op) → Began a b o ≡ Began c d p → (a ≡ c) × (b ≡ d) × (o ≡ p)
began-same a b c d o p e = (cc, cc, cc)

-- the mark of the operation that begins
abbrev marked-at : ℕ → ℕ → (ℕ → ℕ) → ℕ → ℕ
marked-at n mark u y = if nat_eq y n then mark else u y

marked-here : (n mark : ℕ) (u : ℕ → ℕ) (y : ℕ) → y ≡ n → marked-at n mark u y ≡ mark
marked-here n mark u y is = by (nat_eq y n) refl
  where
    by : (b : Bool) → nat_eq y n ≡ b → (if b then mark else u y) ≡ mark
    by true d = refl
    by false d = absurd (eqb-false y n d is)

marked-other : (n mark : ℕ) (u : ℕ → ℕ) (y : ℕ) → y ≢ n → marked-at n mark u y ≡ u y
marked-other n mark u y off = by (nat_eq y n) refl
  where
    by : (b : Bool) → nat_eq y n ≡ b → (if b then mark else u y) ≡ u y
    by true d = absurd (off (eqb-true y n d))
    by false d = refl

marked-low : (n mark : ℕ) (u : ℕ → ℕ) → ((y : ℕ) → u y ≤ mark) → (y : ℕ) → marked-at n mark u y ≤ mark
marked-low n mark u low y = by (nat_eq y n)
  where
    by : (b : Bool) → (if b then mark else u y) ≤ mark
    by true = omega arith
    by false = low y

module _ (mt : Mounted) (terms : Terms) (setup : Setup) (H : List Entry) (V : View) (g : GoesWith mt terms setup H V) (f : List ℕ) (i : ℕ) (h rest : List Entry) (old new : View) (lane line : ℕ) (op : Op)
    (now : ℕ) (is : h ++ Began lane line op ∷ rest ≡ H) (r : Reaches (machine_of mt) setup h old) (found : old.lost ≡ false) (k : Known setup h old) (idle : IsIdle lane old.lanes)
    (fits : Fits (machine_of mt lane op)) (t : StartsLane (counted old now) lane (machine_of mt lane op) new) (wholly : Wholly setup h old) (placed : Placed old) (some : 1 ≤ old.wsize)
    (gk : GuardsKnown terms.modes h old) (gk2 : GuardsKnown terms.modes (h ++ Began lane line op ∷ []) new) (slots2 : (x : ℕ) → HoldsSlot terms.modes H x f (h ++ Began lane line op ∷ []) new)
    (p : Phase mt terms setup H f i h old) where
  abbrev h2 : List Entry
  h2 = h ++ Began lane line op ∷ []

  split_ : h2 ++ rest ≡ H
  split_ = append_assoc h (Began lane line op ∷ []) rest ∙ is

  long : length h2 ≡ length h + 1
  long = length_last h (Began lane line op)

  shorter : length h ≤ length h2
  shorter = let more = long in omega (arith, more)

  began-at : At H (length h) (Began lane line op)
  began-at = subst (λ (l : List Entry). At l (length h) (Began lane line op)) split_ (At-grow h2 rest (length h) (Began lane line op) (At-last h (Began lane line op)))

  under : UnderWay h2 lane (length h) (length h2) op
  under = record {
    line = line;
    began = At-last h (Began lane line op);
    before = let more = long in omega (arith, more);
    unanswered = λ a.
        let later = a.ended.later in
        let low = a.before in
        let more = long in
        absurd (omega (arith, later, low, more));
  }

  runs : Runs h2 lane
  runs = (lanes-begin h old lane line op k.lanes idle.other (Busy (machine_of mt lane op))).busy (length old.lanes) lane
      (to-map number_of (old.lanes ++ record { number = lane; state = Busy (machine_of mt lane op) } ∷ []) (length old.lanes) (record { number = lane; state = Busy (machine_of mt lane op) })
      (at-push old.lanes (record { number = lane; state = Busy (machine_of mt lane op) })))

  abbrev kind : ℕ
  kind = job_kind (machine_of mt lane op)

  abbrev u2 : ℕ → ℕ
  u2 = marked-at (length h) old.shelf.seq p.u

  same : (y : ℕ) → y < length h → u2 y ≡ p.u y
  same y low = marked-other (length h) old.shelf.seq p.u y (λ here. omega (arith, low, here))

  low2 : (y : ℕ) → u2 y ≤ old.shelf.seq
  low2 = marked-low (length h) old.shelf.seq p.u p.low

  fresh : (y n l : ℕ) (o : Op) → At H y (Began n l o) → length h ≤ y → y < length h2 → u2 y ≡ old.shelf.seq
  fresh y n l o at low high = marked-here (length h) old.shelf.seq p.u y (let more = long in omega (arith, low, high, more))

  ended_ : (n y z : ℕ) (o : Op) (a : Answer) → Ended h2 n y o z a → Ended h n y o z a
  ended_ = ended-was h (Began lane line op) (λ n l answer e. cc)

  abbrev plan_ : Plan f old.wsize kind old.shelf.seq (λ z. Unit {0})
  plan_ = plan mt terms setup H f i h old p.u (length h) (u2 (length h)) old.shelf.seq kind None [] old.wsize new.shelf (low2 (length h))

  was : C mt terms setup H f i h old p.u (length h) (u2 (length h)) old.shelf.seq kind None [] old.shelf.seq old.shelf.back
  was = was-all mt terms setup H V g f i h old p (length h) (u2 (length h)) kind None []

  writer : OfOp H (length h) IsWriter → kind ≡ 1
  writer =
      writer-here mt terms setup H V g f i h h2 rest split_ old new (length old.lanes) lane (length h) op old.wsize some idle.least idle.most (bases f old.lanes) kind refl runs under shorter
      ended_ p u2 same low2 fresh

  came : Came_ f old.wsize some lane idle.least idle.most (bases f old.lanes) kind old.shelf.seq (λ z. Unit {0}) plan_ old.lanes (length old.lanes) new
  came = starts-came mt setup h old k wholly placed some f p.owned (λ z. Unit {0}) tt tt new lane op now idle t plan_ refl (λ alone. tt)
      (λ owner. begins-unput mt terms setup H V g f i h rest old lane line op is r found idle fits
      (job-in f old.wsize some lane idle.least idle.most (bases f old.lanes) owner plan_.C plan_.D plan_.E plan_.t (turn_at (counted old now)) (plan_.ways (turn_at (counted old now)) tt))
      (λ file offset bytes nay a. ((a, λ three. absurd (nay three)), λ three. absurd (nay three))) (λ file nay a. (a, λ three. absurd (nay three))) (λ file size upto slot of. (slot, of)))
      was
      (λ saver. (
        c-e mt terms setup H f i h old p.u (length h) (u2 (length h)) old.shelf.seq kind None [] old.shelf.seq old.shelf.back was,
        λ of byte writes. absurd (not-saver saver (writer of)),
        λ waits. absurd (not-put saver waits.0),
      ))
    where
      not-saver : (kind ≡ 2) ⊎ (kind ≡ 5) → kind ≡ 1 → ⊥
      not-saver (inl a) b = omega (arith, a, b)
      not-saver (inr a) b = omega (arith, a, b)

      not-put : (kind ≡ 2) ⊎ (kind ≡ 5) → kind ≡ 3 → ⊥
      not-put (inl a) b = omega (arith, a, b)
      not-put (inr a) b = omega (arith, a, b)

  -- a sync or a close that has saved its file at once
  settled-by : (o : Op) → op ≡ o → IsSaver o → IsSaverOf mt terms setup H f i (length h) → StateGood came.state → OfNewest (Above f i (u2 (length h))) new.shelf.back
  settled-by (ops.Sync slot) same_ saver sv good =
      starts-sync-good f i (u2 (length h)) old new now lane _
      (subst (λ (o : Op). StartsLane (counted old now) lane (machine_of mt lane o) new) same_ t) came.state came.but.here good
  settled-by (ops.Close slot) same_ saver sv good =
      starts-close-good f i (u2 (length h)) old new now lane _ (λ none. none)
      (subst (λ (o : Op). StartsLane (counted old now) lane (machine_of mt lane o) new) same_ t)
      (λ file there.
      one-file mt terms setup H V g (length h) sv.op f file sv.of
      (subst (λ (o : Op). IsOf terms.modes H (length h) o file)
      (sym same_ ∙ (began-same lane line sv.lane sv.line op sv.op (At-one H (length h) (Began lane line op) (Began sv.lane sv.line sv.op) began-at sv.began)).2)
      (begins-of mt terms setup H V g f i h rest old lane line slot (ops.Close slot)
      (subst (λ (o : Op). h ++ Began lane line o ∷ rest ≡ H) same_ is) r found idle refl (λ mode. refl) file there))) p.common.sound came.state came.but.here good
  settled-by (ops.Write slot offset bytes) same_ saver sv good = absurd saver
  settled-by (ops.Fill slot offset count v) same_ saver sv good = absurd saver
  settled-by (ops.OpenFile slot mode path) same_ saver sv good = absurd saver
  settled-by (ops.Read slot offset count) same_ saver sv good = absurd saver
  settled-by (ops.Truncate slot size) same_ saver sv good = absurd saver
  settled-by (ops.Put path offset bytes) same_ saver sv good = absurd saver
  settled-by (ops.Stat path) same_ saver sv good = absurd saver
  settled-by (ops.Access path bits) same_ saver sv good = absurd saver
  settled-by (ops.MakeDir path) same_ saver sv good = absurd saver
  settled-by (ops.RemoveDir path) same_ saver sv good = absurd saver
  settled-by (ops.Remove path) same_ saver sv good = absurd saver
  settled-by (ops.Rename from to) same_ saver sv good = absurd saver
  settled-by (ops.Link from to) same_ saver sv good = absurd saver
  settled-by (ops.SymLink path target) same_ saver sv good = absurd saver
  settled-by (ops.ReadLink path) same_ saver sv good = absurd saver
  settled-by (ops.List path) same_ saver sv good = absurd saver

  settled : StateGood came.state → IsSaverOf mt terms setup H f i (length h) → OfNewest (Above f i (u2 (length h))) new.shelf.back
  settled good sv =
      settled-by op refl
      (subst IsSaver (sym (began-same lane line sv.lane sv.line op sv.op (At-one H (length h) (Began lane line op) (Began sv.lane sv.line sv.op) began-at sv.began)).2) sv.saver) sv good

  abbrev begun : View
  begun = record (counted old now) { lanes = old.lanes ++ record { number = lane; state = Busy t.after } ∷ []; shelf = t.shelf }

  mark-low : u2 (length h) ≤ old.shelf.seq
  mark-low = low2 (length h)

  -- a truncate, as it begins
  cutter-by : (o : Op) → op ≡ o → IsTruncate o → IsCutter (u2 (length h)) t.after
  cutter-by (ops.Truncate slot size) same_ is_ = cutter-starts (u2 (length h)) _ old.wsize (turn_at (counted old now)) old.shelf t.next t.after t.shelf
      (subst (λ (o : Op). Starts old.wsize (machine_of mt lane o) (turn_at (counted old now)) old.shelf t.next t.after t.shelf) same_ t.starts) mark-low
  cutter-by (ops.Write slot offset bytes) same_ is_ = absurd is_
  cutter-by (ops.Fill slot offset count v) same_ is_ = absurd is_
  cutter-by (ops.OpenFile slot mode path) same_ is_ = absurd is_
  cutter-by (ops.Read slot offset count) same_ is_ = absurd is_
  cutter-by (ops.Sync slot) same_ is_ = absurd is_
  cutter-by (ops.Close slot) same_ is_ = absurd is_
  cutter-by (ops.Put path offset bytes) same_ is_ = absurd is_
  cutter-by (ops.Stat path) same_ is_ = absurd is_
  cutter-by (ops.Access path bits) same_ is_ = absurd is_
  cutter-by (ops.MakeDir path) same_ is_ = absurd is_
  cutter-by (ops.RemoveDir path) same_ is_ = absurd is_
  cutter-by (ops.Remove path) same_ is_ = absurd is_
  cutter-by (ops.Rename from to) same_ is_ = absurd is_
  cutter-by (ops.Link from to) same_ is_ = absurd is_
  cutter-by (ops.SymLink path target) same_ is_ = absurd is_
  cutter-by (ops.ReadLink path) same_ is_ = absurd is_
  cutter-by (ops.List path) same_ is_ = absurd is_

  good-not : (o : Op) → op ≡ o → IsTruncate o → IsGood t.next → ⊥
  good-not (ops.Truncate slot size) same_ is_ good = cutter-starts-not _ old.wsize (turn_at (counted old now)) old.shelf t.next t.after t.shelf
      (subst (λ (o : Op). Starts old.wsize (machine_of mt lane o) (turn_at (counted old now)) old.shelf t.next t.after t.shelf) same_ t.starts) good
  good-not (ops.Write slot offset bytes) same_ is_ good = is_
  good-not (ops.Fill slot offset count v) same_ is_ good = is_
  good-not (ops.OpenFile slot mode path) same_ is_ good = is_
  good-not (ops.Read slot offset count) same_ is_ good = is_
  good-not (ops.Sync slot) same_ is_ good = is_
  good-not (ops.Close slot) same_ is_ good = is_
  good-not (ops.Put path offset bytes) same_ is_ good = is_
  good-not (ops.Stat path) same_ is_ good = is_
  good-not (ops.Access path bits) same_ is_ good = is_
  good-not (ops.MakeDir path) same_ is_ good = is_
  good-not (ops.RemoveDir path) same_ is_ good = is_
  good-not (ops.Remove path) same_ is_ good = is_
  good-not (ops.Rename from to) same_ is_ good = is_
  good-not (ops.Link from to) same_ is_ good = is_
  good-not (ops.SymLink path target) same_ is_ good = is_
  good-not (ops.ReadLink path) same_ is_ good = is_
  good-not (ops.List path) same_ is_ good = is_

  marks : IsTruncate op → (machine : Machine) → came.state ≡ Busy machine → IsCutter (u2 (length h)) machine
  marks truncates machine busy =
      leads-keeps (IsCutter (u2 (length h))) (cutter-takes (u2 (length h))) begun new (length old.lanes) lane t.after t.next (at-push old.lanes (record { number = lane; state = Busy t.after })) t.leads (cutter-by op refl truncates) came.state came.but.here machine busy

  done : (value : Value) → came.state ≡ Over (answers.Done value) → Cuts terms.modes H (length h) f i → OfNewest (Above f i (u2 (length h))) new.shelf.back
  done value is_ c =
      leads-done begun new (length old.lanes) lane t.after t.next (at-push old.lanes (record { number = lane; state = Busy t.after })) t.leads came.state came.but.here value is_
      (OfNewest (Above f i (u2 (length h)))) (λ good. absurd (good-not op refl truncates good))
      (λ fault n after left k good. absurd (cutter-takes-err (u2 (length h)) t.after (cutter-by op refl truncates) old.wsize (turn_at begun) (unmade_turn begun) fault t.shelf n after left k good))
    where
      truncates : IsTruncate op
      truncates =
          truncate-here mt terms setup H V g f i h h2 rest split_ old new (length old.lanes) lane (length h) op old.wsize some idle.least idle.most (bases f old.lanes) kind refl runs under shorter
          ended_ p u2 same low2 fresh c

  put-not : OfOp H (length h) IsPut → (value : Value) → came.state ≡ Over (answers.Done value) → ⊥
  put-not puts value is_ = starts-not (counted old now) new lane (machine_of mt lane op) t (put-kind mt lane op (puts lane line op began-at)) lane came.state came.but.here value is_

  turns_ : Turns f h h2 old new (length old.lanes) lane (length h) op came.state
  turns_ = turns-starts f h old new lane line op came.state idle came.but

  began-not : IsDelivered (Began lane line op) → ⊥
  began-not d = let e = d.1 in absurd cc

  pub starts-phase : Phase mt terms setup H f i h2 new
  starts-phase =
      next-phase mt terms setup H V g f i h h2 rest split_ old new (length old.lanes) lane (length h) op old.wsize some idle.least idle.most (bases f old.lanes) kind refl runs under shorter
      ended_ p u2 same low2 fresh None [] came turns_ settled marks done (λ value is_ puts. absurd (put-not puts value is_)) (λ low. absurd (omega (arith, low)))
      (λ low number saves puts value is_. absurd (put-not puts value is_)) (λ puts none. put-not puts)
      (λ y a. apart-turns f h h2 old new (length old.lanes) lane (length h) op came.state turns_ (λ z l. names-next h (Began lane line op) z began-not l) y a)
      (λ sound number few guard. starts-lets mt terms.modes g.nocto setup h old new lane line op now r found k idle t gk.drops gk2.drops gk.ranked f i number few came.state came.but p.common.sound sound p.owned came.owned_ guard)
      (slots2 (length h))
      (λ w number guard u. unleft-step mt terms setup H V g f h (Began lane line op ∷ rest) is (Began lane line op) rest refl old gk.drops (λ b e. absurd (cc e)) w number guard u)
