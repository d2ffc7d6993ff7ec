-- A lane goes on, or its operation begins: what the session may still make of the COMMITs of the file after it.
use Rattle.core_counts.proofs.Prelude.{◌≡◌, ◌<◌, ◌≤◌, ◌*◌, inl, inr, ℕ, false, List, [], ◌∷◌, ◌++◌, length, refl, sym, subst, ◌∙◌, arith, Entry, Began, Sent, Call, Op, Placed, IsBusy, Terms, length_last, Step, Send, Wait, Done, Repeat, Mounted, Machine, machine_of, Fits, Busy, Setup, IsIdle, with_state, Stirs, counted, StartsLane, View, turn_at, in_flight, Counts, KnowsRoot, Reaches, GoesWith, counts-calls, begins-unbegun, Known, Runs, LanesKnown, number_of, lanes-under-way, lanes-begin, at-set, at-push, to-map, LaneLive, keeps-placed, Rows, same-rows, silent-grow, stirs-stay, starts-stay, Asks, AreAsked, calls-laws, Elsewhere, keeps-wholly, starts-wholly, story-turns, Turns}
use Rattle.core_facts.proofs.Walks.{Stays}
use Rattle.core_answers.proofs.writes.AllFits.{all-resumes, all-starts}
use Rattle.core_session.proofs.room.Writers.{elsewhere-by}
use Rattle.core_session.proofs.syncs.Turning.{turns-stir, turns-starts}
use Rattle.world_model.specs.declared.op.Op.TheVariants as ops
use Rattle.core_session.proofs.delays.Rests.{starts-same, resumes-same}
use Rattle.core_session.proofs.syncs.Fates.{resume-kind, start-kind}
use Rattle.core_counts.proofs.counts.rooms.Base.{Base, Told, Stepped, stirs-stepped, starts-stepped}
use Rattle.core_counts.proofs.counts.rooms.Calls.{Waiting_, pots, fresh}
use Rattle.core_counts.proofs.counts.rooms.Leads.{lead}
use Rattle.core_counts.proofs.counts.rooms.Numbers.{pot, sum_of, many-more, if_writes}
use Rattle.core_counts.proofs.counts.rooms.Posts.{Post, KindOf, first_of, resumes-post, starts-post}
use Rattle.core_counts.proofs.counts.rooms.Purses.{Purse}
use Rattle.core_counts.proofs.counts.rooms.Quiets.{sents-on}

abbrev Any : List Repeat → Type 0
Any rs = Unit {0}

abbrev pub has-some : View → Type 0
has-some v = 1 ≤ v.wsize

pub some-stays : Stays has-some
some-stays = record {
  makes = λ old new number call made p. subst (λ (v : View). 1 ≤ v.wsize) (sym made.is) p;
  sets = λ old at number was state shelf there p. p;
}

pub some-in-flight : (others : ℕ) (machine : Machine) (next : Step) → Counts next others machine → (call : Call) → next ≡ Send call → 1 ≤ in_flight machine
some-in-flight others machine (Send c) k call same = let one = k.0 in omega (arith, one)
some-in-flight others machine Wait k call same = absurd (cc)
some-in-flight others machine (Done answer) k call same = absurd (cc)

-- one that writes has what it has for each that writes
pub first-few : (f : List ℕ) (S : List Placed) (x n : ℕ) (op : Op) → first_of f S x op ≤ 32 * length (if_writes n op)
first-few f S x n (ops.Write slot offset bytes) = omega arith
first-few f S x n (ops.Fill slot offset count byte) = omega arith
first-few f S x n (ops.Put path offset bytes) = omega arith
first-few f S x n (ops.Sync slot) = omega arith
first-few f S x n (ops.Close slot) = omega arith
first-few f S x n (ops.OpenFile slot mode path) = omega arith
first-few f S x n (ops.Read slot offset count) = omega arith
first-few f S x n (ops.Truncate slot size) = omega arith
first-few f S x n (ops.Stat path) = omega arith
first-few f S x n (ops.Access path bits) = omega arith
first-few f S x n (ops.ReadLink path) = omega arith
first-few f S x n (ops.MakeDir path) = omega arith
first-few f S x n (ops.RemoveDir path) = omega arith
first-few f S x n (ops.Remove path) = omega arith
first-few f S x n (ops.Rename from to) = omega arith
first-few f S x n (ops.Link from to) = omega arith
first-few f S x n (ops.SymLink path target) = omega arith
first-few f S x n (ops.List path) = omega arith

module _ (mt : Mounted) (terms : Terms) (setup : Setup) (H : List Entry) (V : View) (g : GoesWith mt terms setup H V) (roots : KnowsRoot terms.origin H mt.root) (asked : AreAsked H) (f : List ℕ) where
  abbrev Based : List Entry → View → Type 0
  Based = Base mt terms setup H V g roots asked f

  abbrev Pursed : List Entry → View → Type 0
  Pursed = Purse terms H f

  abbrev Tell : ℕ → ℕ → Machine → Op → Type 0
  Tell = Told mt terms setup H V g roots asked f

  -- ---- a lane goes on

  module _ (h : List Entry) (old new : View) (at : ℕ) (known : Known setup h old) (t : Stirs old at new) (b : Based h old) (p : Pursed h old) where
    run : IsBusy h t.number (length h)
    run = (lanes-under-way h old known.lanes).busy at (record { number = t.number; state = Busy t.machine }) t.there

    runs : Runs h t.number
    runs = known.lanes.busy at t.number (to-map number_of old.lanes at (record { number = t.number; state = Busy t.machine }) t.there)

    live : LaneLive t.number t.machine
    live = b.placed.live at (record { number = t.number; state = Busy t.machine }) t.there

    stepped : Stepped mt terms setup H V g roots asked f h old new at t.number run.x run.op
    stepped = stirs-stepped mt terms setup H V g roots asked f h old new at known t b run.x run.op run.under_way

    turns : Turns f h h old new at t.number run.x run.op stepped.state
    turns = turns-stir f setup h old new at t.number t.machine stepped.state known t.there stepped.but run.x run.op run.under_way

    abbrev mid : View
    mid = with_state old at t.number (Busy t.after) t.shelf

    rows : Rows setup h mid
    rows = same-rows setup h old mid refl known.rows

    table : t.shelf.repeats ≡ old.shelf.repeats
    table = resumes-same t.machine old.wsize (turn_at old) old.shelf t.next t.after t.shelf t.resumes

    asks : Asks t.next t.after
    asks = all-resumes old.wsize (turn_at old) t.machine old.shelf t.next t.after t.shelf t.resumes

    kind : KindOf f p.stable run.x mt t.number run.op t.machine
    kind = (b.story at t.number t.machine run.x run.op t.there run.under_way).0

    kind-after : KindOf f p.stable run.x mt t.number run.op t.after
    kind-after = resume-kind old.wsize (turn_at old) t.machine old.shelf t.next t.after t.shelf t.resumes ∙ kind

    post : Post f p.stable run.x Any run.op (p.q t.number) old.shelf t.shelf t.next t.after
    post = resumes-post f p.stable run.x mt t.number run.op t.machine kind Any old.wsize (turn_at old) old.shelf t.next t.after t.shelf (p.q t.number)
        (p.story at t.number t.machine run.x run.op t.there run.under_way) asks t.resumes

    waiting : Waiting_ f p.made mid
    waiting = record { first = p.waiting.first; some = p.waiting.some; below = p.waiting.below; waits = p.waiting.waits }

    pots-are : pots f mid p.made ≤ pots f old p.made
    pots-are = subst (λ (rs : List Repeat). sum_of (pot old.calls.calls rs) p.made ≤ sum_of (pot old.calls.calls old.shelf.repeats) p.made) (sym table) (omega arith)

    pub stirs-base : Based h new
    stirs-base = record {
      wholly = (keeps-wholly mt setup).stirs h old new at known t b.wholly;
      placed = (keeps-placed mt setup).stirs h old new at known t b.placed;
      wsize = stirs-stay has-some some-stays old new at t b.wsize;
      common_ = stepped.common_;
      owned = stepped.owned;
      story = story-turns f h h old new at t.number run.x run.op stepped.state turns runs Tell Tell (λ machine is. stepped.told_ machine is) (λ n z machine o off u k. k) b.story;
    }

    pub stirs-purse : Pursed h new
    stirs-purse =
        lead mt terms setup H V g roots asked f h h old new at t.number run.x run.op stepped turns runs live.least live.most p (p.q t.number) 0 (omega arith) (omega arith) (omega arith)
        (run.under_way.before) (pots f old p.made) (omega arith)
        (λ all more i xid bytes sent named such. elim (p.sents i xid bytes sent named such) [
          | inl none ↦ inl none
          | inr there ↦ inr (more xid there)
        ]) mid rows waiting t.after (at-set old.lanes at (record { number = t.number; state = Busy t.machine }) (record { number = t.number; state = Busy t.after }) t.there) kind-after Any t.next t.leads post
        (fresh tt pots-are) (calls-laws.resumes t.machine old.wsize (turn_at old) old.shelf t.next t.after t.shelf t.resumes).0 asks
        (some-in-flight (in_flight t.machine) t.after t.next
        (counts-calls.resume old.wsize t.machine (turn_at old) old.shelf t.next t.after t.shelf t.resumes (known.known.right at (record { number = t.number; state = Busy t.machine }) t.there)))

  -- ---- one begins

  module _ (h rest : List Entry) (old new : View) (lane line : ℕ) (op : Op) (now_ : ℕ) (is : h ++ Began lane line op ∷ rest ≡ H) (r : Reaches (machine_of mt) setup h old) (found : old.lost ≡ false) (known : Known setup h old)
      (idle : IsIdle lane old.lanes) (fits : Fits (machine_of mt lane op)) (t : StartsLane (counted old now_) lane (machine_of mt lane op) new) (b : Based h old) (p : Pursed h old) where
    abbrev later : List Entry
    later = h ++ Began lane line op ∷ []

    stepped_ : Stepped mt terms setup H V g roots asked f later old new (length old.lanes) lane (length h) op
    stepped_ = starts-stepped mt terms setup H V g roots asked f h rest old new lane line op now_ is r found known idle fits t b

    turns_ : Turns f h later old new (length old.lanes) lane (length h) op stepped_.state
    turns_ = turns-starts f h old new lane line op stepped_.state idle stepped_.but

    abbrev mid_ : View
    mid_ = record (counted old now_) { lanes = old.lanes ++ record { number = lane; state = Busy t.after } ∷ []; shelf = t.shelf }

    rows_ : Rows setup later mid_
    rows_ = same-rows setup later old mid_ refl (silent-grow setup h (Began lane line op) old (record { sent = λ bytes same. absurd (cc); came = λ bytes same. absurd (cc) }) known.rows)

    lanes_known : LanesKnown later mid_
    lanes_known = lanes-begin h old lane line op known.lanes idle.other (Busy t.after)

    runs_ : Runs later lane
    runs_ = lanes_known.busy (length old.lanes) lane
        (to-map number_of (old.lanes ++ record { number = lane; state = Busy t.after } ∷ []) (length old.lanes) (record { number = lane; state = Busy t.after })
        (at-push old.lanes (record { number = lane; state = Busy t.after })))

    table_ : t.shelf.repeats ≡ old.shelf.repeats
    table_ = starts-same (machine_of mt lane op) old.wsize (turn_at (counted old now_)) old.shelf t.next t.after t.shelf t.starts

    asks_ : Asks t.next t.after
    asks_ = all-starts old.wsize (turn_at (counted old now_)) (machine_of mt lane op) old.shelf t.next t.after t.shelf t.starts

    kind_ : KindOf f p.stable (length h) mt lane op t.after
    kind_ = start-kind old.wsize (turn_at (counted old now_)) (machine_of mt lane op) old.shelf t.next t.after t.shelf t.starts

    off : Elsewhere (length h) p.stable
    off = elsewhere-by (λ (o : Placed). o.0 < length h) (length h) (λ o low same. omega (arith, low, same)) p.stable p.early

    post_ : Post f p.stable (length h) Any op (first_of f p.stable (length h) op) old.shelf t.shelf t.next t.after
    post_ = starts-post f p.stable (length h) Any mt lane op old.wsize (turn_at (counted old now_)) old.shelf t.next t.after t.shelf off asks_ t.starts

    waiting_ : Waiting_ f p.made mid_
    waiting_ = record { first = p.waiting.first; some = p.waiting.some; below = p.waiting.below; waits = p.waiting.waits }

    pots_are : pots f mid_ p.made ≤ pots f old p.made
    pots_are = subst (λ (rs : List Repeat). sum_of (pot old.calls.calls rs) p.made ≤ sum_of (pot old.calls.calls old.shelf.repeats) p.made) (sym table_) (omega arith)

    not-sent : (bytes : List ℕ) → Began lane line op ≡ Sent bytes → ⊥
    not-sent bytes same = cc

    pub starts-base : Based later new
    starts-base = record {
      wholly = starts-wholly mt setup h old new lane line op now_ r found known idle t b.wholly;
      placed = (keeps-placed mt setup).starts h old new lane op now_ known idle t b.placed;
      wsize = starts-stay has-some some-stays (counted old now_) new lane (machine_of mt lane op) (λ state shelf. b.wsize) t;
      common_ = stepped_.common_;
      owned = stepped_.owned;
      story = story-turns f h later old new (length old.lanes) lane (length h) op stepped_.state turns_ runs_ Tell Tell (λ machine same. stepped_.told_ machine same) (λ n z machine o off u k. k) b.story;
    }

    pub starts-purse : Pursed later new
    starts-purse =
        lead mt terms setup H V g roots asked f h later old new (length old.lanes) lane (length h) op stepped_ turns_ runs_ idle.least idle.most p (first_of f p.stable (length h) op) (length (if_writes (length h) op))
        (many-more h (Began lane line op)) (let few = first-few f p.stable (length h) (length h) op in omega (arith, few)) (let long = length_last h (Began lane line op) in omega (arith, long))
        (let long = length_last h (Began lane line op) in omega (arith, long)) (pots f old p.made) (omega arith)
        (λ all more. sents-on terms H f h (Began lane line op) old p all more (λ bytes same xid named such. absurd (not-sent bytes same))) mid_ rows_ waiting_ t.after
        (at-push old.lanes (record { number = lane; state = Busy t.after })) kind_ Any t.next t.leads post_ (fresh tt pots_are)
        (calls-laws.starts (machine_of mt lane op) old.wsize (turn_at (counted old now_)) old.shelf t.next t.after t.shelf t.starts) asks_
        (some-in-flight 0 t.after t.next (counts-calls.start old.wsize (machine_of mt lane op) (turn_at (counted old now_)) old.shelf t.next t.after t.shelf t.starts (begins-unbegun mt lane op)))
