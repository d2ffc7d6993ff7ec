-- What stands of a byte goes on standing as an answer is noted, and as any entry comes that leaves lanes and shelf as they are.
use Rattle.core_session.proofs.Prelude.{◌≡◌, ◌≢◌, ◌≤◌, ◌<◌, ◌+◌, ◌-◌, ◌⊎◌, inl, inr, ℕ, Bool, true, false, nat_eq, List, [], ◌∷◌, ◌++◌, length, Some, None, slice_get, refl, sym, ap, subst, ◌∙◌, append_assoc, arith, slice_index, cases_lt, eqb-true, eqb-false, Waiting, Answer, Entry, Began, Answered, Sent, Op, At, SpellsCall, Terms, At-one, At-back, At-grow, At-last, length_last, HasNoPiece, of_file, AllUpTo, Flown, fly_at, rest_at, covers, LaneFile, Shelf, Mounted, Machine, machine_of, EachSound, nothing-sound, Lane, Purpose, Busy, Over, Setup, IsFresh, AnswersAt, View, AreApart, MaySetUp, IsSetUp, IsOpenLine, Reaches, begins-unbegun, Known, reached-all, lanes-under-way, skip, get-remove, still-there, keeps-placed, SameCalls, IsDropped, IsGuarded, WritesCarry}
use Rattle.std.specs.Prelude.{remove}
use Rattle.nfs_file_calls.specs.declared.call.FileCall.TheVariants as file_calls
use Rattle.world_model.specs.declared.answer.Answer.TheVariants as answers
use Rattle.world_model.specs.declared.message.Call.TheVariants as calls
use Rattle.write_back.specs.declared.state.State.TheVariants.{Waiting as Waits}
use Rattle.write_back.proofs.Numbers.{upto-nothing}
use Rattle.core_session.proofs.drops.KnowingAlong.{IsPlain, NotedBefore}
use Rattle.core_session.proofs.drops.LaneIs.{state-is, busy-over}
use Rattle.core_session.proofs.saves.WholeSteps.{Wholly, keeps-wholly}
use Rattle.core_session.proofs.drops.DropLaws.{dropped-same}
use Rattle.core_session.proofs.drops.Laws.{DropsKnown, drops-fresh, drops-answers}
use Rattle.core_session.proofs.drops.Along.{guards-steps}
use Rattle.core_session.proofs.drops.Shown.{guards-kept}
use Rattle.core_session.proofs.syncs.Guard.{guarded-same}
use Rattle.core_session.proofs.syncs.SlotHeld.{holds-same, holds-unbegun}
use Rattle.op_machines.specs.declared.file_machine.FileMachine.TheVariants as files
use Rattle.op_machines.specs.declared.machine.Machine.TheVariants as machines
use Rattle.core_session.proofs.drops.Noting.{dropped-noted}
use Rattle.core_session.proofs.syncs.Aparts.{Apart, apart-same, apart-answers, Clash, clash-op, clash-not}
use Rattle.core_session.proofs.syncs.Causes.{IsPut, put-no-writer}
use Rattle.core_session.proofs.syncs.Carrying.{CallsKept, calls-same, calls-as, fresh-grow, wrote-grow, made-grow, sent-carries}
use Rattle.core_session.proofs.syncs.Contents.{Common}
use Rattle.core_session.proofs.syncs.Fate.{Fate, later, Story, fate-answers, fate-same, story-answers, story-same}
use Rattle.core_session.proofs.syncs.Looks.{Touching, touching-on, IsLeft, owed, was_left, left_}
use Rattle.core_session.proofs.syncs.Phases.{Family, KnownBy, StageBy, Evident}
use Rattle.core_session.proofs.syncs.Seen.{StateRested, Owned, free, taken}
use Rattle.core_session.proofs.syncs.Showings.{Fresh}
use Rattle.core_session.proofs.syncs.Stages.{unsent, flies, again, held, stable, over}
use Rattle.core_session.proofs.syncs.Stands.{WritesIt, of_slot, of_last}
use Rattle.core_session.proofs.kept.Lefts.{owed-at, within-all}
use Rattle.core_session.proofs.kept.Stands.{GuardBy, Case, unsure, fated-map, StableTwo, two, SinceTwo, ToldBefore, ToldAfter, Phase, Stands}
use Rattle.core_session.proofs.kept.Stands as stands
use Rattle.core_session.proofs.syncs.Turning.{IsFixed, fixed-answers, fixed-same, under-answers-back, under-plain-back}
use Rattle.core_session.proofs.syncs.WatchingAlong.{SentWaits}
use Rattle.core_session.proofs.syncs.PutPlaced.{answers-put, same-put, fresh-put}

-- ---- the lanes, without one that has its answer

one-lane : (a b : Lane) → Some a ≡ Some b → a ≡ b
one-lane a b e = cc

module _ (f : List ℕ) (lanes : List Lane) (at number : ℕ) (answer : Answer) (there : slice_get lanes at ≡ Some (record { number = number; state = Over answer })) (apart : AreApart (remove lanes at)) where
  owned-removed : (q : ℕ) (b : _) (o : List LaneFile) → Owned f lanes q b o → Owned f (remove lanes at) q b o
  owned-removed q b o (free none rests) = free none (λ k l here. rests (skip at k) l (get-remove lanes at k l here))
  owned-removed q b o (taken k n m s here holds same way first low rests) = taken stays.0 n m s stays.1 holds same way first low others
    where
      off : k ≢ at
      off e = busy-over m answer (state-is (Busy m) (Over answer) n number (sym (ap (slice_get lanes) (sym e) ∙ here) ∙ there))

      stays : (z : ℕ) × (slice_get (remove lanes at) z ≡ Some (record { number = n; state = Busy m }))
      stays = still-there lanes at k (record { number = n; state = Busy m }) off here

      others : (z : ℕ) (l : Lane) → slice_get (remove lanes at) z ≡ Some l → z ≢ stays.0 → StateRested f q l.state
      others z l is differs = by (nat_eq (skip at z) k) refl
        where
          was : slice_get lanes (skip at z) ≡ Some l
          was = get-remove lanes at z l is

          by : (c : Bool) → nat_eq (skip at z) k ≡ c → StateRested f q l.state
          by true e =
              let one : l ≡ record { number = n; state = Busy m } = one-lane l (record { number = n; state = Busy m }) (sym was ∙ ap (slice_get lanes) (eqb-true (skip at z) k e) ∙ here) in
              absurd (differs (apart z stays.0 l (record { number = n; state = Busy m }) is stays.1 (ap (λ (y : Lane). y.number) one)))
          by false e = rests (skip at z) l was (eqb-false (skip at z) k e)

one-flown : (a b : Flown) → Some a ≡ Some b → a ≡ b
one-flown a b e = cc

module _ (m : Mounted) (terms : Terms) (setup : Setup) (H : List Entry) (w y : ℕ) (sure : Bool) (due p : ℕ) (f : List ℕ) (i byte : ℕ) (c : Case terms H w y p f i byte) where
  abbrev Ph : List Entry → View → Type 0
  Ph h v = Phase m terms setup H w y sure due p f i byte h v

  abbrev St : List Entry → View → Type 0
  St h v = Stands m terms setup H w y sure due p f i byte h v

  abbrev Two : List Entry → List (ℕ × Waiting Purpose) → Family
  Two h calls = two m terms setup H w y sure due p f i byte h calls

  abbrev SinceIt : List Entry → ℕ → Type 0
  SinceIt h k = SinceTwo m terms setup H w y sure due p f i byte h k

  abbrev StableIt : List Entry → Type 0
  StableIt h = StableTwo m terms setup H w y sure due p f i byte h

  -- the last record before a put's answer names the file
  clash-w : (h rest : List Entry) (e : Entry) → (h ++ e ∷ []) ++ rest ≡ H → Clash f h e w → ⊥
  clash-w h rest e is k = by c.wrote
    where
      by : WritesIt terms H w y f c.opW → ⊥
      by (of_slot writer its) = put-no-writer c.opW (subst IsPut (clash-op H h rest e is f w k c.laneW y c.opW (answers.Done c.valueW) c.endW).1 k.puts) writer
      by (of_last path offset bytes op_is call names last) = clash-not H h rest e is f w k c.laneW y c.opW (answers.Done c.valueW) c.endW call names last

  no-clash : (h rest : List Entry) (e : Entry) → (h ++ e ∷ []) ++ rest ≡ H → (x : ℕ) → (x ≡ length H) ⊎ (x ≡ w) → Clash f h e x → ⊥
  no-clash h rest e is x (inl same) k =
      absurd
      (let low = k.ended.later in let long = length_last h e in let all = within-all m terms setup H w y sure due p f i byte (h ++ e ∷ []) rest is in omega (arith, low, long, all, same))
  no-clash h rest e is x (inr same) k = clash-w h rest e is (subst (Clash f h e) same k)

  abbrev Touch : List Entry → View → Type 0
  Touch h v = Touching terms.modes terms.origin H w (length H) p p f i h v

  -- ---- an entry that begins nothing

  module _ (h : List Entry) (e : Entry) (old new : View) (plain : (lane line : ℕ) (op : Op) → e ≡ Began lane line op → ⊥) (shelf : new.shelf ≡ old.shelf)
      (kept : CallsKept (h ++ e ∷ []) old.calls.calls new.calls.calls)
      (fate : (z : ℕ) (Q Q2 : Type 0) → (Q → Q2) → (length h ≤ z → length (h ++ e ∷ []) ≤ z) → Fate h old z Q → Fate (h ++ e ∷ []) new z Q2)
      (story : (P Q : ℕ → ℕ → Machine → Op → Type 0) → ((n z : ℕ) (machine : Machine) (o : Op) → P n z machine o → Q n z machine o) → Story P h old → Story Q (h ++ e ∷ []) new)
      (fixed : (x : ℕ) (a : Answer) → IsFixed h old x a → IsFixed (h ++ e ∷ []) new x a)
      (drop : (from : ℕ) → IsDropped terms.modes from h old f → IsDropped terms.modes from (h ++ e ∷ []) new f) (left_on : (x : ℕ) → (x ≡ length H) ⊎ (x ≡ w) → Apart f h old x → Apart f (h ++ e ∷ []) new x) (guarded : (n : ℕ) → IsGuarded n old f → IsGuarded n new f) (own : (q : ℕ) (b : _) (o : List LaneFile) → Owned f old.lanes q b o → Owned f new.lanes q b o) (wholly : Wholly setup h old) (sends : SentWaits e old) (rest : List Entry) (is : (h ++ e ∷ []) ++ rest ≡ H) where
    abbrev more : List Entry
    more = h ++ e ∷ []

    long : length more ≡ length h + 1
    long = length_last h e

    was : h ++ e ∷ rest ≡ H
    was = sym (append_assoc h (e ∷ []) rest) ∙ is

    at-e : At H (length h) e
    at-e = subst (λ (k : List Entry). At k (length h) e) is (At-grow more rest (length h) e (At-last h e))

    -- no operation begins here
    not-here : (x lane line : ℕ) (op : Op) → At H x (Began lane line op) → length h ≤ x → length more ≤ x
    not-here x lane line op at low = elim (cases_lt (length h) x) [
      | inl lt ↦ omega (arith, lt, long)
      | inr ge ↦
          let here : x ≡ length h = omega (arith, ge, low) in
          absurd (plain lane line op (At-one H (length h) e (Began lane line op) at-e (subst (λ (n : ℕ). At H n (Began lane line op)) here at)))
    ]

    past-w : length h ≤ w → length more ≤ w
    past-w low = not-here w c.laneW c.endW.line c.opW c.endW.began low

    -- ---- what is sent here carries the byte

    abbrev NowCarries : Type 0
    NowCarries = (sent : List ℕ) → e ≡ Sent sent → (xid offset how : ℕ) (text : List ℕ) → SpellsCall xid (calls.File (file_calls.Write f offset how text)) sent → covers offset (length text) i ≡ true
        → slice_index text (i - offset) ≡ byte

    abbrev StageOld : Type 0
    StageOld = StageBy (Two h old.calls.calls) i byte (0) ⊥ (of_file f old.shelf.back)

    now-carries : (n : ℕ) → EachSound old.shelf.back → StageBy (Two h old.calls.calls) i byte n ⊥ (of_file f old.shelf.back) → NowCarries
    now-carries n sound stage sent same xid offset how text spells inside =
        let sw = sends sent same in
        let k = sent-carries m setup h old wholly sound f i sw.0 sw.1 sw.2 xid offset how text
        (subst (SpellsCall xid (calls.File (file_calls.Write f offset how text))) (sym sw.3) spells) inside in
        by k.0 k.1 k.2 stage
      where
        nothing : (flown : Flown) → fly_at (of_file f old.shelf.back) i ≡ Some flown → fly_at (of_file f old.shelf.back) i ≡ None → ⊥
        nothing flown flying none = let no_way : None ≡ Some flown = sym none ∙ flying in absurd cc

        by : (flown : Flown) → fly_at (of_file f old.shelf.back) i ≡ Some flown → flown.byte ≡ slice_index text (i - offset) → StageBy (Two h old.calls.calls) i byte n ⊥ (of_file f old.shelf.back)
            → slice_index text (i - offset) ≡ byte
        by flown flying own (unsent ready at z) = let no_way = z.1 in absurd (omega (arith, no_way))
        by flown flying own (flies k other at b number none fresh z) = sym own ∙ ap (λ (z : Flown). z.byte) (one-flown flown other (sym flying ∙ at)) ∙ b
        by flown flying own (again k ready at none z) = absurd (nothing flown flying none)
        by flown flying own (held k verf at none z wrote) = absurd (nothing flown flying none)
        by flown flying own (stable k none quiet z made) = absurd (nothing flown flying quiet)
        by flown flying own (over o) = absurd o

    since-on : NowCarries → (k : ℕ) → SinceIt h k → SinceIt more k
    since-on now k z = ((let low = z.0 in omega (arith, low, long)), z.1, carries)
      where
        carries : WritesCarry H k (length more) f i byte
        carries n xid offset how text sent at spells low high inside = elim (cases_lt n (length h)) [
          | inl lt ↦ z.2 n xid offset how text sent at spells low lt inside
          | inr ge ↦
              let here : n ≡ length h = omega (arith, ge, high, long) in
              now sent (At-one H (length h) e (Sent sent) at-e (subst (λ (q : ℕ). At H q (Sent sent)) here at)) xid offset how text spells inside
        ]

    stable-on : NowCarries → StableIt h → StableIt more
    stable-on now t = (t.0, since-on now t.0 t.1, t.2)

    guard-on : (n : ℕ) (E E2 : Type 0) → (E → E2) → GuardBy m terms setup H w y sure due p f i byte n E h old → GuardBy m terms setup H w y sure due p f i byte n E2 more new
    guard-on n E E2 conv (inl g) = inl (guarded n g)
    guard-on n E E2 conv (inr put) = inr (put.0, fate w E E2 conv past-w put.1)

    guard-or : (n : ℕ) (E E2 : Type 0) → (E → E2) → GuardBy m terms setup H w y sure due p f i byte n E h old ⊎ E → GuardBy m terms setup H w y sure due p f i byte n E2 more new ⊎ E2
    guard-or n E E2 conv (inl g) = inl (guard-on n E E2 conv g)
    guard-or n E E2 conv (inr k) = inr (conv k)

    touch-on : Touch h old → Touch more new
    touch-on t = touching-on terms.modes terms.origin H w (length H) p p f i h more old new fixed left (left_on (length H) (inl refl)) t
      where
        left : IsLeft terms.modes H w (length H) p h old f → Touch more new
        left (was_left n) = left_ (was_left n)
        left (owed from after_ dr fate_ saver puts) = owed-at m terms setup H w y sure due p f i byte more rest is new from after_ (drop from dr)

    stage-on : (n : ℕ) → NowCarries → StageBy (Two h old.calls.calls) i byte n ⊥ (of_file f old.shelf.back) → StageBy (Two more new.calls.calls) i byte n ⊥ (of_file f old.shelf.back)
    stage-on n now (unsent ready at z) = unsent ready at (since-on now 0 z)
    stage-on n now (flies k flown at b number none fresh z) = flies k flown at b number none (by fresh) (since-on now k z)
      where
        by : (flown.xid ≡ 0) ⊎ Fresh h k flown.xid → (flown.xid ≡ 0) ⊎ Fresh more k flown.xid
        by (inl zero_) = inl zero_
        by (inr fresh) = inr (fresh-grow h e k flown.xid z.0 fresh)
    stage-on n now (again k ready at none z) = again k ready at none (since-on now k z)
    stage-on n now (held k verf at none z wrote) = held k verf at none (since-on now k z) (wrote-grow f i byte h e old.calls.calls new.calls.calls k verf.0 kept wrote)
    stage-on n now (stable k none quiet z made) = stable k none quiet (since-on now k z) (made-grow f i byte h e k made)
    stage-on n now (over o) = absurd o

    -- ---- it goes on

    on : Ph h old → length h < p → Ph more new
    on (stands.early low k) lt = stands.early (omega (arith, lt, long)) (record {
      fated = k.fated;
      fate = fate w (Apart f h old w) (Apart f more new w) (left_on w (inr refl)) past-w k.fate;
      owned = subst (λ (z : Shelf). Owned f new.lanes z.seq z.back z.order) (sym shelf) (own old.shelf.seq old.shelf.back old.shelf.order k.owned);
      content = subst (λ (z : Shelf). Common 0 z.seq z.back) (sym shelf) k.content;
      story = story (ToldBefore m terms setup H w y sure due p f i byte) (ToldBefore m terms setup H w y sure due p f i byte) (λ n z machine o t. t) k.story;
    })
    on (stands.unsent low n k) lt = stands.unsent (omega (arith, lt, long)) n (record {
      began = let began = k.began in omega (arith, began, long);
      guard = guard-or n ⊥ ⊥ (λ none. none) k.guard;
      fate = k.fate;
      owned = subst (λ (z : Shelf). Owned f new.lanes z.seq z.back z.order) (sym shelf) (own old.shelf.seq old.shelf.back old.shelf.order k.owned);
      content = record {
        common = subst (λ (z : Shelf). Common 0 z.seq z.back) (sym shelf) k.content.common;
        low = subst (λ (z : Shelf). n ≤ z.seq) (sym shelf) k.content.low;
        ready = k.content.ready;
        there = subst (λ (z : Shelf). rest_at (of_file f z.back) i ≡ Some (record { byte = byte; number = n; state = Waits k.content.ready })) (sym shelf) k.content.there;
      };
      story = story (ToldAfter m terms setup H w y sure due p f i byte n) (ToldAfter m terms setup H w y sure due p f i byte n) (λ n z machine o t. t) k.story;
    })
    on (stands.since low n k) lt =
        let now : NowCarries = now-carries n k.content.common.sound k.content.stage in
        stands.since (omega (arith, lt, long)) n (record {
          began = let began = k.began in omega (arith, began, long);
          guard = guard-or n (Evident (Two h old.calls.calls)) (Evident (Two more new.calls.calls)) (λ z. (z.0, since-on now z.0 z.1, made-grow f i byte h e z.0 z.2)) k.guard;
          fate = fated-map sure (StableIt h) (StableIt more) (stable-on now) k.fate;
          owned = subst (λ (z : Shelf). Owned f new.lanes z.seq z.back z.order) (sym shelf) (own old.shelf.seq old.shelf.back old.shelf.order k.owned);
          content = subst (λ (z : Shelf). KnownBy (Two more new.calls.calls) 0 f i byte n ⊥ z.seq z.back) (sym shelf)
              (record { common = k.content.common; low = k.content.low; stage = stage-on n now k.content.stage });
          story = story (ToldAfter m terms setup H w y sure due p f i byte n) (ToldAfter m terms setup H w y sure due p f i byte n) (λ n z machine o t. t) k.story;
        })
    on (stands.touched t) lt = stands.touched (touch-on t)
    on (stands.past early) lt = stands.past (omega (arith, early, long))

    pub entry : Ph h old → Ph more new
    entry phase = elim (cases_lt (length h) p) [
      | inl lt ↦ on phase lt
      | inr ge ↦ stands.past (omega (arith, ge, long))
    ]

  -- ---- the laws

  pub stands-answers : m.nocto ≡ terms.modes.nocto → (h : List Entry) (old new : View) (at lane line : ℕ) (answer : Answer) → Reaches (machine_of m) setup h old → old.lost ≡ false → Known setup h old
      → Reaches (machine_of m) setup (h ++ Answered lane line answer ∷ []) new → new.lost ≡ false → IsOpenLine h lane line → AnswersAt old at lane (Some answer) new → St h old
      → St (h ++ Answered lane line answer ∷ []) new
  stands-answers nocto h old new at lane line answer r found k r2 found2 open_line a st = record {
    guards = (guards-steps m terms.modes nocto setup).answers h old new at lane line answer r found k r2 found2 open_line a st.guards;
    slot_w = λ rest is. holds-same terms.modes H w f h (h ++ Answered lane line answer ∷ []) old new (ap (λ (v : View). v.shelf.opens) a.is) (λ o n u. under-answers-back h lane line answer n w o u)
        (st.slot_w (Answered lane line answer ∷ rest) (sym (append_assoc h (Answered lane line answer ∷ []) rest) ∙ is));
    wholly = (keeps-wholly m setup).answers h old new at lane line answer k a st.wholly;
    placed = (keeps-placed m setup).answers h old new at lane answer k a st.placed;
    places = answers-put m setup h old new at lane answer k a st.places;
    wsize = subst (λ (v : View). 1 ≤ v.wsize) (sym a.is) st.wsize;
    phase = λ rest is.
        entry h (Answered lane line answer) old new (λ n l o same. cc) (ap (λ (v : View). v.shelf) a.is)
        (calls-same (h ++ Answered lane line answer ∷ []) old.calls.calls new.calls.calls (ap (λ (v : View). v.calls.calls) a.is))
        (λ z Q Q2 conv up g. fate-answers setup h old new at lane line answer k open_line a z Q Q2 conv up g)
        (λ P Q map g. story-answers h old new at lane line answer a P Q map g)
        (λ x b g. fixed-answers setup h old new at lane line answer k open_line a x b g)
        (λ from. dropped-noted m terms setup from h old new at lane line answer k (record { nocto = nocto; reaches = r2 }) found2 open_line a later f)
        (λ x one left. elim (apart-answers f h old new at lane line answer k.lanes open_line a x left) [ inl on ↦ on | inr clash ↦ absurd (no-clash h rest (Answered lane line answer) is x one clash) ])
        (λ n g. (guards-kept m terms setup h old (record { nocto = nocto; reaches = r }) found).noted at lane answer new a n f g)
        (λ q b o g. subst (λ (v : View). Owned f v.lanes q b o) (sym a.is)
        (owned-removed f old.lanes at lane a.answer a.there (subst (λ (v : View). AreApart v.lanes) a.is apart) q b o g)) st.wholly (λ sent same. absurd cc) rest is
        (st.phase (Answered lane line answer ∷ rest) (sym (append_assoc h (Answered lane line answer ∷ []) rest) ∙ is));
  }
    where
      later : DropsKnown terms.modes (h ++ Answered lane line answer ∷ []) new
      later = drops-answers m terms.modes nocto setup h old new at lane line answer k a st.guards.drops

      apart : AreApart new.lanes
      apart = (lanes-under-way (h ++ Answered lane line answer ∷ []) new (reached-all (machine_of m) (begins-unbegun m) setup (h ++ Answered lane line answer ∷ []) new r2 found2).lanes).apart

  pub stands-same : m.nocto ≡ terms.modes.nocto → (h : List Entry) (e : Entry) (old new : View) → Reaches (machine_of m) setup h old → old.lost ≡ false → Known setup h old → IsPlain e → NotedBefore e old → SentWaits e old
      → new.lanes ≡ old.lanes → new.shelf ≡ old.shelf → new.wsize ≡ old.wsize → SameCalls old.calls.calls new.calls.calls → St h old → St (h ++ e ∷ []) new
  stands-same nocto h e old new r found k plain noted sends lanes shelf wsize same st = record {
    guards = (guards-steps m terms.modes nocto setup).same h e old new plain noted lanes shelf wsize same st.guards;
    slot_w = λ rest is. holds-same terms.modes H w f h (h ++ e ∷ []) old new (ap (λ (z : Shelf). z.opens) shelf) (λ o n u. under-plain-back h e n w o plain u) (st.slot_w (e ∷ rest) (sym (append_assoc h (e ∷ []) rest) ∙ is));
    wholly = (keeps-wholly m setup).same h e old new lanes shelf same st.wholly;
    placed = (keeps-placed m setup).same old new lanes shelf same.purposes st.placed;
    places = same-put m setup old new lanes shelf st.places;
    wsize = subst (λ (n : ℕ). 1 ≤ n) (sym wsize) st.wsize;
    phase = λ rest is.
        entry h e old new plain.begins_ shelf (calls-as (h ++ e ∷ []) old.calls.calls new.calls.calls same)
        (λ z Q Q2 conv up g. fate-same h e old new plain lanes z Q Q2 conv up g)
        (λ P Q map g. story-same h e old new plain lanes P Q map g)
        (λ x b g. fixed-same h e old new plain lanes x b g) (λ from. dropped-same terms.modes from f h e old new plain noted lanes shelf) (λ x one. apart-same f h e old new plain noted lanes x) (λ n g. guarded-same n f old new lanes shelf g) (λ q b o g. subst (λ (l : List Lane). Owned f l q b o) (sym lanes) g) st.wholly sends rest is
        (st.phase (e ∷ rest) (sym (append_assoc h (e ∷ []) rest) ∙ is));
  }

  -- of a fresh core
  pub stands-fresh : sure ≡ false → m.nocto ≡ terms.modes.nocto → (h : List Entry) (v : View) → MaySetUp setup → IsSetUp setup h → IsFresh setup v → St h v
  stands-fresh unsured nocto h v may up fresh = record {
    guards = record {
      drops = drops-fresh m terms.modes nocto setup h v fresh;
      ranked = record {
        sorted = λ n l q d f_ u w_ a b low. none a.close.at (record { number = n; state = Busy (machines.File (files.Close q)) }) a.close.there;
        below = λ n q f_ u a. none a.close.at (record { number = n; state = Busy (machines.File (files.Close q)) }) a.close.there;
      };
    };
    slot_w = λ rest is. holds-unbegun terms.modes H w f h v up.unbegun;
    wholly = (keeps-wholly m setup).fresh h v fresh;
    placed = (keeps-placed m setup).fresh v fresh;
    places = fresh-put m setup v fresh.lanes fresh.puts;
    wsize = subst (λ (n : ℕ). 1 ≤ n) (sym fresh.wsize) may.sizes.write;
    phase = λ rest is.
        begun (early rest is w c.laneW c.endW.line c.opW c.endW.began) (cases_lt p (length h));
  }
    where
      none : {X : Type 0} → (k : ℕ) (l : Lane) → slice_get v.lanes k ≡ Some l → X
      none k l there = absurd (let no_way : None ≡ Some l = ap (λ (lanes : List Lane). slice_get lanes k) (sym fresh.lanes) ∙ there in cc)

      -- each operation begins later
      early : (rest : List Entry) → h ++ rest ≡ H → (x lane line : ℕ) (op : Op) → At H x (Began lane line op) → length h ≤ x
      early rest is x lane line op at = elim (cases_lt x (length h)) [
        | inl lt ↦ absurd (up.unbegun x lane line op (At-back h rest x (Began lane line op) (subst (λ (k : List Entry). At k x (Began lane line op)) (sym is) at) lt))
        | inr ge ↦ omega (arith, ge)
      ]

      begun : length h ≤ w → (p < length h) ⊎ (length h ≤ p) → Ph h v
      begun low (inl past_) = stands.past past_
      begun low (inr within) = stands.early within (record {
        fated = unsure unsured;
        fate = later low;
        owned = free (subst (HasNoPiece f) (sym fresh.back) refl) (λ k l there. none k l there);
        content = record {
          sound = subst EachSound (sym fresh.back) nothing-sound;
          upto = subst (AllUpTo v.shelf.seq) (sym fresh.back) (upto-nothing v.shelf.seq);
          since = omega arith;
        };
        story = λ k number machine x op there u. none k (record { number = number; state = Busy machine }) there;
      })
