-- What is known along a history of the WRITEs that cover a place: no more were made, and no more may still be, than operations wrote it, replies left it unwritten,
-- and COMMITs of its file were answered.
use Rattle.core_counts.proofs.Prelude.{◌≡◌, ◌≢◌, ◌≤◌, ◌<◌, ◌+◌, ◌⊎◌, inl, inr, ℕ, zero, suc, nat_eq, Bool, true, false, List, [], ◌∷◌, ◌++◌, length, Some, slice_get, slice_set, Err, refl, sym, ap, subst, ◌∙◌, arith, nat_lt, eqb-true, eqb-false, eq-eqb, leb-true, ltb-true, Waiting, next_xid, made_call, waiting_at, waits_early, at_made, others_made, Entry, Began, Sent, Call, Op, CoversPlace, IsCommitOf, RepliedAt, NoneBegan, At, Heard, HasXid, SpellsCall, SpellsCallBy, proc_of, Modes, UnderWay, At-below, At-cases, length_last, Pending, of_file, all_pending, flown_in, rest_at, fly_at, covers, under-own, same-or, Step, IsReady, Mounted, Machine, Lane, Purpose, State, Busy, Over, Setup, record_of, Makes, IsRefused, Leads, View, turn_at, unmade_turn, at-set, Rows, made-known, made-asked, set-other, under-back, written_file, one-call, nfs-of, After, Free, Basis, Stage, stage_of, Has, Wholly, EachSound}
use Rattle.std.specs.Prelude.{◌&&◌, nat_le}
use Rattle.std.proofs.lemmas.Bool.{and_parts}
use Rattle.claims.specs.CallCounts.{IsPoor}
use Rattle.client_core.specs.Steps.{put_view}
use Rattle.core_facts.proofs.Stories.{by-place}
use Rattle.core_session.proofs.room.Stages.{settling, going, over, outcome, Verdict, rests, ends, stores, puts, puts_over, crowds_store, crowds_put}
use Rattle.core_session.proofs.saves.WholeSteps.{HasPiece}
use Rattle.nfs_file_calls.specs.declared.call.FileCall.TheVariants as files
use Rattle.world_model.specs.declared.message.Call.TheVariants as calls
use Rattle.write_back.proofs.ByPlace.{covered}
use Rattle.write_back.proofs.Flying.{flown-some, under-whole}
use Rattle.write_back.proofs.Xids.{fly-under}
use Rattle.client_shelf.specs.declared.step.Step.TheVariants as nexts
use Rattle.core_session.proofs.calls.GivenBytes.{IsGiven, Bytes, given-later}
use Rattle.core_session.proofs.delays.Puts.{heard-later}
use Rattle.core_session.proofs.room.Machines as verdicts
use Rattle.step_pending.proofs.Shown.{some-of, flown-from}
use Rattle.core_counts.proofs.counts.engine.Lists.{Each, each-map, Elsewhere, Apart}
use Rattle.core_counts.proofs.counts.writes.Landing.{W}
use Rattle.core_counts.proofs.counts.writes.Once.{Gone}
use Rattle.core_counts.proofs.counts.writes.Stepped.{Held, unmade-held}
use Rattle.core_counts.proofs.counts.writes.Weights.{one_if, due_of, flown_of, low, high, any, due-split, flown-split, high-below, newest-below}

-- ---- numbers in a list

abbrev pub In : ℕ → List ℕ → Type 0
In x [] = ⊥
In x (z ∷ zs) = (z ≡ x) ⊎ In x zs

pub in-or : (x : ℕ) (zs : List ℕ) → In x zs ⊎ Elsewhere x zs
in-or x [] = inr tt
in-or x (z ∷ zs) = by (nat_eq z x) refl (in-or x zs)
  where
    by : (b : Bool) → nat_eq z x ≡ b → In x zs ⊎ Elsewhere x zs → In x (z ∷ zs) ⊎ Elsewhere x (z ∷ zs)
    by true is rest = inl (inl (eqb-true z x is))
    by false is (inl there) = inl (inr there)
    by false is (inr apart) = inr (eqb-false z x is, apart)

-- ---- a WRITE of the place

module _ (f : List ℕ) (i : ℕ) where
  -- it covers the place, or doesn't
  pub covers-or : (call : Call) → CoversPlace f i call ⊎ (CoversPlace f i call → ⊥)
  covers-or (calls.File (files.Write g offset how bytes)) = by (same-or g f) (covers offset (length bytes) i) refl
    where
      file-of : (c : CoversPlace f i (calls.File (files.Write g offset how bytes))) → g ≡ f
      file-of c = let one : (g, offset, how, bytes) ≡ (f, c.offset, c.how, c.bytes) = (let k = c.is in cc) in ap (λ (k : List ℕ × ℕ × ℕ × List ℕ). k.0) one

      range-of : (c : CoversPlace f i (calls.File (files.Write g offset how bytes))) → covers offset (length bytes) i ≡ true
      range-of c =
          let one : (c.offset, c.bytes) ≡ (offset, bytes) = (let k = c.is in cc) in
          subst (λ (k : ℕ × List ℕ). covers k.0 (length k.1) i ≡ true) one (covered c.offset (length c.bytes) i c.low c.high)

      by : (f ≡ g) ⊎ (f ≢ g) → (b : Bool) → covers offset (length bytes) i ≡ b
          → CoversPlace f i (calls.File (files.Write g offset how bytes)) ⊎ (CoversPlace f i (calls.File (files.Write g offset how bytes)) → ⊥)
      by (inr apart) b is = inr (λ c. apart (sym (file-of c)))
      by (inl same) false is = inr (λ c. let no_way : true ≡ false = sym (range-of c) ∙ is in absurd cc)
      by (inl same) true is =
          let two = and_parts (nat_le offset i) (nat_lt i (offset + length bytes)) is in
          inl (record {
            offset = offset;
            how = how;
            bytes = bytes;
            is = ap (λ (k : List ℕ). calls.File (files.Write k offset how bytes)) (sym same);
            low = leb-true offset i two.0;
            high = ltb-true i (offset + length bytes) two.1;
          })
  covers-or call = inr (λ c. let k = c.is in absurd (cc))

  -- what is in flight under its xid has the place
  pub flies-covered : (y : ℕ) (call : Call) (back : Pending) → EachSound back → HasPiece y call back → CoversPlace f i call → flown_of y any (fly_at (of_file f back) i) ≡ 1
  flies-covered y call back sound has c =
      let k = has f (ap written_file c.is) in
      let one : calls.File (files.Write f c.offset c.how c.bytes) ≡ calls.File (files.Write f k.piece.offset k.piece.how k.piece.bytes) = sym c.is ∙ k.is in
      let same : (c.offset, c.bytes) ≡ (k.piece.offset, k.piece.bytes) = cc in
      let inside : covers k.piece.offset (length k.piece.bytes) i ≡ true =
      subst (λ (p : ℕ × List ℕ). covers p.0 (length p.1) i ≡ true) same (covered c.offset (length c.bytes) i c.low c.high) in
      let flown = some-of (flown_in k.piece i) (flown-some k.piece i (under-whole y (of_file f back).pieces k.piece (sound f).sent k.there) inside) in
      let there : fly_at (of_file f back) i ≡ Some flown.0 = fly-under y (of_file f back).pieces k.piece i (sound f).sent k.there inside ∙ flown.1 in
      let own : flown.0.xid ≡ y = (flown-from k.piece i flown.0 flown.1).xid ∙ under-own y (of_file f back).pieces k.piece k.there in
      ap (flown_of y any) there ∙ ap (λ (b : Bool). one_if (b && true)) (eq-eqb flown.0.xid y own)

-- ---- stages

abbrev pub IsSettled : State → Type 0
IsSettled (Busy machine) = stage_of machine ≡ settling
IsSettled (Over answer) = Unit {0}

going-stage : (a b : Stage) → going a ≡ going b → a ≡ b
going-stage a b e = cc

outcome-gone : (next : Step) (stage : Stage) → (outcome next stage ≡ going settling) ⊎ ((answer : _) × (outcome next stage ≡ over answer)) → Gone next stage
outcome-gone (nexts.Send call) stage (inl is) = inr (going-stage stage settling is)
outcome-gone (nexts.Send call) stage (inr is) = absurd (let no_way : going stage ≡ over is.0 = is.1 in cc)
outcome-gone nexts.Wait stage (inl is) = inr (going-stage stage settling is)
outcome-gone nexts.Wait stage (inr is) = absurd (let no_way : going stage ≡ over is.0 = is.1 in cc)
outcome-gone (nexts.Done answer) stage o = inl (answer, refl)

-- a put whose bytes are pending stays one
pub settled-gone : (a b : ℕ) (next : Step) (stage : Stage) → Verdict a b settling (outcome next stage) → Gone next stage
settled-gone a b next stage v = outcome-gone next stage (by v)
  where
    by : Verdict a b settling (outcome next stage) → (outcome next stage ≡ going settling) ⊎ ((answer : _) × (outcome next stage ≡ over answer))
    by (rests less is) = inl is
    by (ends answer less is) = inr (answer, is)
    by (stores size made value less was is) = absurd (cc)
    by (puts size made less was is) = inl is
    by (puts_over size made answer less was is) = inr (answer, is)
    by (crowds_store size made less full was is) = absurd (cc)
    by (crowds_put size made less full was is) = absurd (cc)

-- ---- what is kept

module _ (m : Mounted) (modes_of : Modes) (same : m.nocto ≡ modes_of.nocto) (setup : Setup) (f : List ℕ) (i : ℕ) where
  -- the operation at the place x gave the place its byte
  pub record Writer (h : List Entry) (x : ℕ) : Type 0 where
    pub byte : ℕ
    pub given : IsGiven m modes_of h f i byte
    pub is : given.x ≡ x

  -- a COMMIT of the file that was answered
  pub record Answered (h : List Entry) (xid : ℕ) : Type 0 where
    pub call : Call
    pub bytes : List ℕ
    pub heard : Heard h 0 (length h) call xid bytes
    pub is : IsCommitOf f call

  -- the lists: of xids, of operations, of poor replies, of COMMITs
  pub record Lists (h : List Entry) : Type 0 where
    pub made : List ℕ
    pub writers : List ℕ
    pub poor : List ℕ
    pub commits : List ℕ
    pub made_apart : Apart made
    pub writers_apart : Apart writers
    pub poor_apart : Apart poor
    pub commits_apart : Apart commits
    pub each_writer : Each (Writer h) writers
    pub each_poor : Each (RepliedAt h (IsPoor f i)) poor
    pub each_commit : Each (Answered h) commits

  abbrev pub total : (h : List Entry) → Lists h → ℕ
  total h l = length l.writers + length l.poor + length l.commits

  abbrev pub Waits : List (ℕ × Waiting Purpose) → List ℕ → Type 0
  Waits calls_ made = (x : ℕ) (w : Waiting Purpose) (call : Call) → waiting_at x calls_ ≡ Some w → SpellsCallBy setup.cred x call w.bytes → CoversPlace f i call → In x made

  abbrev pub Sents : List Entry → List ℕ → Type 0
  Sents h made = (j x : ℕ) (bytes : List ℕ) (call : Call) → At h j (Sent bytes) → HasXid bytes x → SpellsCall x call bytes → CoversPlace f i call → NoneBegan h j ⊎ In x made

  -- an operation that is under way and wrote the place is a put at its save
  abbrev pub SpentLane : List Entry → List ℕ → Lane → Type 0
  SpentLane h writers l = (x : ℕ) (op : Op) → UnderWay h l.number x (length h) op → In x writers → IsSettled l.state

  abbrev pub Spent : List Entry → List Lane → List ℕ → Type 0
  Spent h lanes writers = (k : ℕ) (l : Lane) → slice_get lanes k ≡ Some l → SpentLane h writers l

  pub record Tally (h : List Entry) (v : View) : Type 0 where
    pub basis : Basis setup h v
    pub wholly : Wholly setup h v
    pub bytes : Bytes m modes_of same setup h v
    pub lists : Lists h
    pub below : Each (λ (x : ℕ). x < next_xid v.calls) lists.made
    pub waits : Waits v.calls.calls lists.made
    pub sents : Sents h lists.made
    pub spent : Spent h v.lanes lists.writers
    pub few : length lists.made + due_of any (rest_at (of_file f v.shelf.back) i) ≤ total h lists

  -- ---- one entry more

  module _ (h : List Entry) (e : Entry) where
    pub writer-later : (x : ℕ) → Writer h x → Writer (h ++ e ∷ []) x
    writer-later x w = record { byte = w.byte; given = given-later m modes_of h e f i w.byte w.given; is = w.is }

    pub poor-later : (x : ℕ) → RepliedAt h (IsPoor f i) x → RepliedAt (h ++ e ∷ []) (IsPoor f i) x
    poor-later x r = record {
      call = r.call;
      xid = r.xid;
      bytes = r.bytes;
      heard = heard-later h (e ∷ []) 0 (length h) (length (h ++ e ∷ [])) r.call r.xid r.bytes (let more = length_last h e in omega (arith, more)) r.heard;
      here = r.here;
      is = r.is;
    }

    pub commit-later : (x : ℕ) → Answered h x → Answered (h ++ e ∷ []) x
    commit-later x r = record {
      call = r.call;
      bytes = r.bytes;
      heard = heard-later h (e ∷ []) 0 (length h) (length (h ++ e ∷ [])) r.call x r.bytes (let more = length_last h e in omega (arith, more)) r.heard;
      is = r.is;
    }

    abbrev pub lists-later : Lists h → Lists (h ++ e ∷ [])
    lists-later l = record {
      made = l.made;
      writers = l.writers;
      poor = l.poor;
      commits = l.commits;
      made_apart = l.made_apart;
      writers_apart = l.writers_apart;
      poor_apart = l.poor_apart;
      commits_apart = l.commits_apart;
      each_writer = each-map (Writer h) (Writer (h ++ e ∷ [])) writer-later l.writers l.each_writer;
      each_poor = each-map (RepliedAt h (IsPoor f i)) (RepliedAt (h ++ e ∷ []) (IsPoor f i)) poor-later l.poor l.each_poor;
      each_commit = each-map (Answered h) (Answered (h ++ e ∷ [])) commit-later l.commits l.each_commit;
    }

    none-later : (j : ℕ) → j < length h → NoneBegan h j → NoneBegan (h ++ e ∷ []) j
    none-later j low none k lane line op began early = elim (At-cases h e k (Began lane line op) began) [
      | inl there ↦ none k lane line op there early
      | inr last ↦ absurd (let at = last.0 in omega (arith, at, early, low))
    ]

    pub sents-later : (made : List ℕ) → ((bytes : List ℕ) → e ≡ Sent bytes → (x : ℕ) (call : Call) → HasXid bytes x → SpellsCall x call bytes → CoversPlace f i call → In x made)
        → Sents h made → Sents (h ++ e ∷ []) made
    sents-later made own sents j x bytes call at named spells c = elim (At-cases h e j (Sent bytes) at) [
      | inl there ↦ elim (sents j x bytes call there named spells c) [
        | inl none ↦ inl (none-later j (At-below h j (Sent bytes) there) none)
        | inr has ↦ inr has
      ]
      | inr last ↦ inr (own bytes last.1 x call named spells c)
    ]

    pub spent-later : (lanes : List Lane) (writers : List ℕ) → ((k : ℕ) (l : Lane) → slice_get lanes k ≡ Some l → (line : ℕ) (op : Op) → e ≡ Began l.number line op → ⊥) → Spent h lanes writers
        → Spent (h ++ e ∷ []) lanes writers
    spent-later lanes writers other spent k l there x op u has = spent k l there x op (under-back h e l.number x op (other k l there) u) has

  -- ---- what a step leads to

  -- An operation's machine made its step, and is asked for what it leads to: no more than n may still be sent but what has the number s + 1, which is the
  -- operation's own, the one at the place x.
  pub record Owes (h : List Entry) (v : View) (number : ℕ) (machine : Machine) (next : Step) : Type 0 where
    pub s : ℕ
    pub n : ℕ
    pub x : ℕ
    pub lists : Lists h
    pub below : Each (λ (z : ℕ). z < next_xid v.calls) lists.made
    pub waits : Waits v.calls.calls lists.made
    pub sents : Sents h lists.made
    pub room : length lists.made + n ≤ total h lists
    pub held : Held f i (next_xid v.calls) s n (Writer h x × Elsewhere x lists.writers × ((v.shelf.seq ≡ s) ⊎ Gone next (stage_of machine))) v.shelf.back
    pub sound : EachSound v.shelf.back
    pub ready : IsReady (next_xid v.calls + 1) v.shelf.seq v.shelf.back
    pub has : After (Free (next_xid v.calls)) (Has (next_xid v.calls)) next v.shelf.back
    pub own : (z : ℕ) (op : Op) → UnderWay h number z (length h) op → In z lists.writers → Gone next (stage_of machine)

  module _ (before h : List Entry) (v new : View) (at number : ℕ) (machine : Machine) (next : Step) (r : Rows setup before v) (o : Owes h v number machine next)
      (there : slice_get v.lanes at ≡ Some (record { number = number; state = Busy machine }))
      (rest : (k : ℕ) (l : Lane) → slice_get v.lanes k ≡ Some l → k ≢ at → SpentLane h o.lists.writers l)
      (apart : (k : ℕ) (l : Lane) → slice_get v.lanes k ≡ Some l → k ≢ at → (op : Op) → UnderWay h l.number o.x (length h) op → ⊥)
      (basis : Basis setup h new) (wholly : Wholly setup h new) (bytes : Bytes m modes_of same setup h new) where
    abbrev y : ℕ
    y = next_xid v.calls

    -- what is above is the operation's own, which is over or at its save
    abbrev Own : Type 0
    Own = Writer h o.x × Elsewhere o.x o.lists.writers × Gone next (stage_of machine)

    risen : 0 < W f i y (high o.s) v.shelf.back → (v.shelf.seq ≡ o.s) ⊎ Gone next (stage_of machine) → Gone next (stage_of machine)
    risen some (inr gone) = gone
    risen some (inl level) =
        let more = high-below y o.s v.shelf.seq (of_file f v.shelf.back) i (newest-below v.shelf.seq f v.shelf.back o.ready.numbers i) some in
        absurd (omega (arith, more, level))

    held : Held f i y o.s o.n Own v.shelf.back
    held =
        let k = o.held in
        record { few = k.few; one = k.one; why = λ some. let w = k.why some in (w.0, w.1, risen some w.2) }

    -- the lanes afterwards
    record NewLanes : Type 0 where
      state : State
      here : slice_get new.lanes at ≡ Some (record { number = number; state = state })
      others : (k : ℕ) (l : Lane) → slice_get new.lanes k ≡ Some l → k ≢ at → slice_get v.lanes k ≡ Some l
      settles : Gone next (stage_of machine) → IsSettled state

    module _ (lanes : NewLanes) where
      own-spent : (writers : List ℕ) → ((z : ℕ) → In z writers → (z ≡ o.x) ⊎ In z o.lists.writers) → (In o.x writers → Gone next (stage_of machine) ⊎ In o.x o.lists.writers)
          → Spent h new.lanes writers
      own-spent writers split gained =
          by-place (SpentLane h writers) new.lanes at (record { number = number; state = lanes.state }) lanes.here
          (λ z op u has. lanes.settles (mine z op u has (split z has)))
          (λ k l here other z op u has. theirs k l (lanes.others k l here other) other z op u has (split z has))
        where
          mine : (z : ℕ) (op : Op) → UnderWay h number z (length h) op → In z writers → (z ≡ o.x) ⊎ In z o.lists.writers → Gone next (stage_of machine)
          mine z op u has (inr was) = o.own z op u was
          mine z op u has (inl is) = elim (gained (subst (λ (k : ℕ). In k writers) is has)) [
            | inl gone ↦ gone
            | inr was ↦ o.own o.x op (subst (λ (k : ℕ). UnderWay h number k (length h) op) is u) was
          ]

          theirs : (k : ℕ) (l : Lane) → slice_get v.lanes k ≡ Some l → k ≢ at → (z : ℕ) (op : Op) → UnderWay h l.number z (length h) op → In z writers → (z ≡ o.x) ⊎ In z o.lists.writers
              → IsSettled l.state
          theirs k l here other z op u has (inr was) = rest k l here other z op u was
          theirs k l here other z op u has (inl is) = absurd (apart k l here other op (subst (λ (j : ℕ). UnderWay h l.number j (length h) op) is u))

      -- so many are due, of which the operation's own is one
      record Ended (made : List ℕ) : Type 0 where
        held_ : Held f i y o.s o.n Own new.shelf.back
        made_apart : Apart made
        below : Each (λ (z : ℕ). z < next_xid new.calls) made
        waits : Waits new.calls.calls made
        sents : Sents h made
        fits : length made + due_of any (rest_at (of_file f new.shelf.back) i)
            ≤ length o.lists.made + (W f i y (low o.s) new.shelf.back + W f i y (high o.s) new.shelf.back)

      ended : (made : List ℕ) → Ended made → Tally h new
      ended made e = by (W f i y (high o.s) new.shelf.back) refl
        where
          by : (n : ℕ) → W f i y (high o.s) new.shelf.back ≡ n → Tally h new
          by zero is = record {
            basis = basis;
            wholly = wholly;
            bytes = bytes;
            lists = record {
              made = made;
              writers = o.lists.writers;
              poor = o.lists.poor;
              commits = o.lists.commits;
              made_apart = e.made_apart;
              writers_apart = o.lists.writers_apart;
              poor_apart = o.lists.poor_apart;
              commits_apart = o.lists.commits_apart;
              each_writer = o.lists.each_writer;
              each_poor = o.lists.each_poor;
              each_commit = o.lists.each_commit;
            };
            below = e.below;
            waits = e.waits;
            sents = e.sents;
            spent = own-spent o.lists.writers (λ z has. inr has) (λ has. inr has);
            few = let fits = e.fits in let few = e.held_.few in let room = o.room in omega (arith, fits, few, room, is);
          }
          by (suc n) is =
              let own = e.held_.why (omega (arith, is)) in
              record {
                basis = basis;
                wholly = wholly;
                bytes = bytes;
                lists = record {
                  made = made;
                  writers = o.x ∷ o.lists.writers;
                  poor = o.lists.poor;
                  commits = o.lists.commits;
                  made_apart = e.made_apart;
                  writers_apart = (own.1, o.lists.writers_apart);
                  poor_apart = o.lists.poor_apart;
                  commits_apart = o.lists.commits_apart;
                  each_writer = (own.0, o.lists.each_writer);
                  each_poor = o.lists.each_poor;
                  each_commit = o.lists.each_commit;
                };
                below = e.below;
                waits = e.waits;
                sents = e.sents;
                spent = own-spent (o.x ∷ o.lists.writers) (λ z has. turned z has) (λ has. inl own.2);
                few = let fits = e.fits in let few = e.held_.few in let one = e.held_.one in let room = o.room in omega (arith, fits, few, room, one);
              }
            where
              turned : (z : ℕ) → In z (o.x ∷ o.lists.writers) → (z ≡ o.x) ⊎ In z o.lists.writers
              turned z (inl is_) = inl (sym is_)
              turned z (inr was) = inr was

    any-weight : (back : Pending) → due_of any (rest_at (of_file f back) i) + flown_of y any (fly_at (of_file f back) i) ≡ W f i y (low o.s) back + W f i y (high o.s) back
    any-weight back =
        let one = due-split o.s (rest_at (of_file f back) i) in let two = flown-split y o.s (fly_at (of_file f back) i) in omega (arith, one, two)

    -- ---- no call is made

    still : NewLanes → new.calls ≡ v.calls → Held f i y o.s o.n Own new.shelf.back → Tally h new
    still lanes calls_ k = ended lanes o.lists.made (record {
      held_ = k;
      made_apart = o.lists.made_apart;
      below = subst (λ (c : _). Each (λ (z : ℕ). z < next_xid c) o.lists.made) (sym calls_) o.below;
      waits = subst (λ (c : _). Waits c.calls o.lists.made) (sym calls_) o.waits;
      sents = o.sents;
      fits = let all = any-weight new.shelf.back in omega (arith, all);
    })

    -- ---- it is made

    module _ (call : Call) (mk : Makes v number call new) (has : HasPiece y call v.shelf.back) where
      abbrev row : Waiting Purpose
      row = made_call (record_of v call mk.args) (record { lane = number; proc = proc_of call; sent = turn_at v })

      abbrev more : List (ℕ × Waiting Purpose)
      more = v.calls.calls ++ (y, row) ∷ []

      some-row : (a b : Waiting Purpose) → Some a ≡ Some b → a ≡ b
      some-row a b e = cc

      early : (z : ℕ) (w : Waiting Purpose) → waiting_at z v.calls.calls ≡ Some w → z < y
      early z w is = waits_early v.calls.cred v.calls.first_xid y z v.calls.calls w r.sound.calls.each is

      -- the call that the new record spells
      made-one : (w : Waiting Purpose) (other : Call) → waiting_at y more ≡ Some w → SpellsCallBy setup.cred y other w.bytes → call ≡ other
      made-one w other waits spells =
          let made = (made-known setup before v number call new mk r).made in
          let which : row ≡ w = some-row row w (sym (at_made v.calls.cred v.calls.first_xid y y y v.calls.calls row r.sound.calls.each refl refl) ∙ waits) in
          sym (made-asked setup before v number call new mk r)
          ∙ one-call y y made.asked other w.bytes (nfs-of made.asked made.nfs) (subst (λ (u : Waiting Purpose). SpellsCall y made.asked u.bytes) which made.spells.spells) spells.spells

      waits-more : (made : List ℕ) → ((z : ℕ) → In z o.lists.made → In z made) → (CoversPlace f i call → In y made) → Waits more made
      waits-more made keeps own z w other waits spells c = by (nat_eq z y) refl
        where
          by : (b : Bool) → nat_eq z y ≡ b → In z made
          by false is = keeps z (o.waits z w other (sym (others_made z y v.calls.calls row is) ∙ waits) spells c)
          by true is =
              let here : z ≡ y = eqb-true z y is in
              let one = made-one w other (subst (λ (k : ℕ). waiting_at k more ≡ Some w) here waits) (subst (λ (k : ℕ). SpellsCallBy setup.cred k other w.bytes) here spells) in
              subst (λ (k : ℕ). In k made) (sym here) (own (subst (CoversPlace f i) (sym one) c))

      next_more : next_xid (put_view v (record { lane = number; proc = proc_of call; sent = turn_at v }) mk.args).calls ≡ y + 1
      next_more = omega arith

      wider : (z : ℕ) → z < y → z < next_xid new.calls
      wider z low = let is = ap (λ (w : View). next_xid w.calls) mk.is in let n = next_more in omega (arith, is, n, low)

      lanes-made : (next ≡ nexts.Send call) → NewLanes
      lanes-made is = record {
        state = Busy machine;
        here = ap (λ (w : View). slice_get w.lanes at) mk.is ∙ there;
        others = λ k l here other. sym (ap (λ (w : View). slice_get w.lanes k) mk.is) ∙ here;
        settles = λ gone. elim gone [
          | inl done ↦ absurd (let no_way : nexts.Send call ≡ nexts.Done done.0 = sym is ∙ done.1 in cc)
          | inr stage ↦ stage
        ];
      }

      same-back : new.shelf.back ≡ v.shelf.back
      same-back = ap (λ (w : View). w.shelf.back) mk.is

      made-tally : (next ≡ nexts.Send call) → Tally h new
      made-tally is = by (covers-or f i call)
        where
          by : CoversPlace f i call ⊎ (CoversPlace f i call → ⊥) → Tally h new
          by (inr none) = ended (lanes-made is) o.lists.made (record {
            held_ = subst (Held f i y o.s o.n Own) (sym same-back) held;
            made_apart = o.lists.made_apart;
            below = each-map (λ (z : ℕ). z < y) (λ (z : ℕ). z < next_xid new.calls) wider o.lists.made o.below;
            waits = subst (λ (w : View). Waits w.calls.calls o.lists.made) (sym mk.is) (waits-more o.lists.made (λ z has_. has_) (λ c. absurd (none c)));
            sents = o.sents;
            fits = let all = any-weight new.shelf.back in omega (arith, all);
          })
          by (inl c) = ended (lanes-made is) (y ∷ o.lists.made) (record {
            held_ = subst (Held f i y o.s o.n Own) (sym same-back) held;
            made_apart = (each-map (λ (z : ℕ). z < y) (λ (z : ℕ). z ≢ y) (λ z low_ same_. absurd (omega (arith, low_, same_))) o.lists.made o.below, o.lists.made_apart);
            below = (
              (let is_ = ap (λ (w : View). next_xid w.calls) mk.is in let n = next_more in omega (arith, is_, n)),
              each-map (λ (z : ℕ). z < y) (λ (z : ℕ). z < next_xid new.calls) wider o.lists.made o.below,
            );
            waits = subst (λ (w : View). Waits w.calls.calls (y ∷ o.lists.made)) (sym mk.is) (waits-more (y ∷ o.lists.made) (λ z has_. inr has_) (λ c_. inl refl));
            sents = λ j x bytes_ call_ at_ named spells c_. elim (o.sents j x bytes_ call_ at_ named spells c_) [
              | inl none ↦ inl none
              | inr has_ ↦ inr (inr has_)
            ];
            fits =
                let all = any-weight new.shelf.back in
                let flies = ap (λ (b : Pending). flown_of y any (fly_at (of_file f b) i)) same-back ∙ flies-covered f i y call v.shelf.back o.sound has c in
                omega (arith, all, flies);
          })

    -- ---- each way

    set-lanes : (state : State) → new.lanes ≡ slice_set v.lanes at (record { number = number; state = state }) → (Gone next (stage_of machine) → IsSettled state) → NewLanes
    set-lanes state is settles = record {
      state = state;
      here = ap (λ (ls : List Lane). slice_get ls at) is ∙ at-set v.lanes at (record { number = number; state = Busy machine }) (record { number = number; state = state }) there;
      others = λ k l here other.
          sym (set-other v.lanes at k (record { number = number; state = state }) other) ∙ sym (ap (λ (ls : List Lane). slice_get ls k) is) ∙ here;
      settles = settles;
    }

    refused-settles : (step : Step) (after : Machine) (state : State) → IsRefused after step state → Gone step (stage_of after) → IsSettled state
    refused-settles (nexts.Send call) after state is gone = absurd is
    refused-settles nexts.Wait after state is (inl done) = absurd (let no_way : nexts.Wait ≡ nexts.Done done.0 = done.1 in cc)
    refused-settles nexts.Wait after state is (inr stage) = subst IsSettled (sym is) stage
    refused-settles (nexts.Done answer) after state is gone = subst IsSettled (sym is) tt

    pub leads-tally : Leads v at number machine next new → Tally h new
    leads-tally = by next refl o.has
      where
        by : (n : Step) → next ≡ n → After (Free y) (Has y) n v.shelf.back → Leads v at number machine n new → Tally h new
        by (nexts.Send call) is has (inl mk) = made-tally call mk has is
        by (nexts.Send call) is has (inr u) =
            still
            (set-lanes u.state (ap (λ (w : View). w.lanes) u.is) (λ gone. refused-settles u.next u.after u.state u.leads
            (settled-gone (all_pending v.shelf.back) (all_pending u.left.back) u.next (stage_of u.after)
            (subst (λ (k : Stage). Verdict (all_pending v.shelf.back) (all_pending u.left.back) k (outcome u.next (stage_of u.after))) (send-settled gone)
            (verdicts.all-takes v.wsize (unmade_turn v) (turn_at v) (Err u.fault) machine v.shelf u.next u.after u.left u.takes)))))
            (ap (λ (w : View). w.calls) u.is)
            (subst (λ (w : View). Held f i y o.s o.n Own w.shelf.back) (sym u.is)
            (unmade-held f i y o.s o.n Own v.wsize (turn_at v) (unmade_turn v) u.fault refl machine v.shelf u.next u.after u.left u.takes held o.sound (o.ready.xids 0 (inl refl)) o.ready.numbers))
          where
            send-settled : Gone next (stage_of machine) → stage_of machine ≡ settling
            send-settled (inl done) = absurd (let no_way : nexts.Send call ≡ nexts.Done done.0 = sym is ∙ done.1 in cc)
            send-settled (inr stage) = stage
        by nexts.Wait is has same_ =
            still
            (record {
              state = Busy machine;
              here = ap (λ (w : View). slice_get w.lanes at) same_ ∙ there;
              others = λ k l here other. sym (ap (λ (w : View). slice_get w.lanes k) same_) ∙ here;
              settles = λ gone. elim gone [
                | inl done ↦ absurd (let no_way : nexts.Wait ≡ nexts.Done done.0 = sym is ∙ done.1 in cc)
                | inr stage ↦ stage
              ];
            }) (ap (λ (w : View). w.calls) same_) (subst (λ (w : View). Held f i y o.s o.n Own w.shelf.back) (sym same_) held)
        by (nexts.Done answer) is has same_ =
            still (set-lanes (Over answer) (ap (λ (w : View). w.lanes) same_) (λ gone. tt)) (ap (λ (w : View). w.calls) same_)
            (subst (λ (w : View). Held f i y o.s o.n Own w.shelf.back) (sym same_) held)
