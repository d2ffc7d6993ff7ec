-- Of one file: while the save of one operation is under way, no other of it has begun; so what is known of a save as such holds beside other operations.
use Rattle.core_session.proofs.Prelude.{◌≡◌, ◌≢◌, ◌≤◌, ◌+◌, ◌-◌, ◌⊎◌, inl, inr, ℕ, Bool, true, false, List, [], ◌∷◌, length, Option, Some, None, Result, refl, sym, ap, subst, ◌∙◌, arith, slice_get, position, Fault, Reply, Segments, Cell, last_end, covers, cell_at, FilePending, Flown, nothing, rest_at, fly_at, fly_in, flown_in, piece_under, with_cut, Pending, of_file, OnFile, HasNoPiece, IsSound, IsOver, covered, flown-some, same-or, LaneFile, Repeat, Turn, added, left, is_first, is_lane, Step, Sending, Committing, Resending, CommittingAgain, Saving, is_quiet, SitsWith, seat_with, seat-own, seat-other, joins, Sits, first-left, first-added, same-first, Free, After, EachSound, some-of, IsClearUpTo, IsUnderWay, IsAwaited, option_map_or, eqb-true, slice_get-get_or}
use Rattle.std.proofs.Common.{option_and_then, get_or}
use Rattle.write_back.specs.Pieces.{Sent, rest_of}
use Rattle.write_back.specs.Sound.{AreSent}
use Rattle.client_shelf.specs.LaneFiles.{leads}
use Rattle.core_facts.proofs.Orders.{leaves}
use Rattle.step_saves.specs.Saves.{AreAgain, PhaseHas, PhaseCounts, Leaves, GoesOn}
use Rattle.std.specs.Prelude.{IsSome, nat_le, ◌&&◌}
use Rattle.write_back.specs.Places.{cell_cut}
use Rattle.write_back.proofs.Adding.{cuts-so}
use Rattle.client_shelf.specs.declared.step.Step.TheVariants as nexts
use Rattle.world_model.specs.declared.answer.Answer.TheVariants as answers
use Rattle.file_ops.specs.declared.saving.Phase.{Phase}
use Rattle.file_ops.specs.Saves as saves
use Rattle.file_ops.specs.Syncs as syncs
use Rattle.core_facts.specs.InFlight.{of_saving}
use Rattle.core_facts.proofs.SaveCommits.{goes-steps, takes-steps}
use Rattle.core_session.proofs.saves.WholeSteps.{SendsIt, Has, carries-has, replies-has}
use Rattle.step_saves.proofs.Going.{begins, goes-leaves}
use Rattle.step_saves.proofs.Staying.{others-on}
use Rattle.step_saves.proofs.Taking.{takes-leaves}
use Rattle.core_session.proofs.syncs.Jobs.{Out, Level, Replies}
use Rattle.core_session.proofs.syncs.SaveMoves.{goes-frame, takes-frame}
use Rattle.std.proofs.lemmas.List.Quantifiers.{position-Some}

-- ---- what a file's pending bytes are

no-segments : (es : Segments) → last_end es ≡ None → es ≡ []
no-segments [] is = refl
no-segments (e ∷ []) is = absurd (cc)
no-segments (e ∷ g ∷ es) is = absurd (let none : g ∷ es ≡ [] = no-segments (g ∷ es) is in cc)

-- nothing is in flight where nothing is pending
no-pieces : (of : FilePending) → IsSound of → of.segments ≡ [] → of.pieces ≡ []
no-pieces of sound empty = by of.pieces refl sound.sent
  where
    by : (ps : List Sent) → of.pieces ≡ ps → AreSent ps → ps ≡ []
    by [] is sent = refl
    by (p ∷ ps) is sent =
        let inside : covers p.offset (length p.bytes) p.offset ≡ true = covered p.offset (length p.bytes) p.offset (omega arith) (omega (arith, sent.0.some)) in
        let flown = some-of (flown_in p p.offset) (flown-some p p.offset sent.0 inside) in
        let at : fly_at of p.offset ≡ Some flown.0 = ap (λ (qs : List Sent). fly_in qs p.offset) is ∙ (rw inside flown.1) in
        let none : cell_at of.segments p.offset ≡ None = ap (λ (es : Segments). cell_at es p.offset) empty in
        let no_way : ⊥ = subst (λ (c : Option Cell). IsOver (Some flown.0) c) none (subst (λ (o : Option Flown). IsOver o (cell_at of.segments p.offset)) at (sound.over p.offset)) in
        absurd no_way

nothing-clear : (upto : ℕ) (of : FilePending) → IsSound of → of.segments ≡ [] → IsClearUpTo upto of
nothing-clear upto of sound empty = record {
  rest = λ place cell is.
      absurd (let no_way : None ≡ Some cell = sym (ap (λ (es : Segments). rest_of (cell_at es place)) empty) ∙ is in cc);
  fly = λ place flown is.
      absurd (let no_way : None ≡ Some flown = sym (ap (λ (ps : List Sent). fly_in ps place) (no-pieces of sound empty)) ∙ is in cc);
}

pub quiet-none : (file : List ℕ) (b : Pending) → is_quiet file b ≡ true → HasNoPiece file b
quiet-none file b quiet = by (of_file file b).pieces refl quiet
  where
    by : (ps : List Sent) → (of_file file b).pieces ≡ ps → is_quiet file b ≡ true → ps ≡ []
    by [] is q = refl
    by (p ∷ ps) is q = absurd (let no_way : false ≡ true = (rw is at q) in cc)

-- ---- a save that is under way stays so where bytes go while nothing of its file is in flight

module _ (s : Saving) (old new : Pending) (quiet : HasNoPiece s.file old) (none : (of_file s.file new).pieces ≡ []) (less : (place : ℕ) (cell : Cell) → rest_at (of_file s.file new) place ≡ Some cell
    → rest_at (of_file s.file old) place ≡ Some cell) where
  same-pieces : (of_file s.file new).pieces ≡ (of_file s.file old).pieces
  same-pieces = none ∙ sym quiet

  fewer : (phase : Phase) (refusal : Option Fault) → PhaseHas phase refusal s.upto (of_file s.file old) → PhaseHas phase refusal s.upto (of_file s.file new)
  fewer Sending refusal has = tt
  fewer Committing refusal has = λ place cell at low. has place cell (less place cell at) low
  fewer Resending None has = ((λ place cell at low. has.0 place cell (less place cell at) low), subst AreAgain (sym none) tt)
  fewer Resending (Some fault) has = tt
  fewer CommittingAgain refusal has = record {
    rest = λ place cell at. has.rest place cell (less place cell at);
    fly = λ place flown at. absurd (let no_way : None ≡ Some flown = sym (ap (λ (ps : List Sent). fly_in ps place) none) ∙ at in cc);
  }

  way-less : IsUnderWay s old → IsUnderWay s new
  way-less way = record {
    counts = subst (λ (ps : List Sent). PhaseCounts s.phase s.waiting ps) (sym same-pieces) way.counts;
    has = fewer s.phase s.refusal way.has;
  }

pub way-given : (s : Saving) (file : List ℕ) (old new : Pending) → is_quiet file old ≡ true → OnFile old new file nothing → IsUnderWay s old → IsUnderWay s new
way-given s file old new quiet on way = by (same-or file s.file)
  where
    by : (s.file ≡ file) ⊎ (s.file ≢ file) → IsUnderWay s new
    by (inr apart) = others-on s old new (on.others s.file apart) way
    by (inl same) =
        let here : of_file s.file new ≡ nothing = ap (λ (g : List ℕ). of_file g new) same ∙ on.here in
        way-less s old new (subst (λ (g : List ℕ). HasNoPiece g old) (sym same) (quiet-none file old quiet)) (ap (λ (of : FilePending). of.pieces) here)
        (λ place cell at. absurd (let no_way : None ≡ Some cell = sym (ap (λ (of : FilePending). rest_at of place) here) ∙ at in cc)) way

cut-less : (size upto place : ℕ) (o : Option Cell) (cell : Cell) → cell_cut size upto place o ≡ Some cell → o ≡ Some cell
cut-less size upto place None cell is = absurd (let no_way : None ≡ Some cell = is in cc)
cut-less size upto place (Some c) cell is = by _ refl
  where
    by : (b : Bool) → (nat_le size place && nat_le c.number upto) ≡ b → Some c ≡ Some cell
    by true e = absurd (let no_way : None ≡ Some cell = (rw e at is) in cc)
    by false e = (rw e at is)

pub way-cut : (s : Saving) (file : List ℕ) (size upto : ℕ) (old new : Pending) → EachSound old → is_quiet file old ≡ true → OnFile old new file (with_cut size upto (of_file file old)) → IsUnderWay s old
    → IsUnderWay s new
way-cut s file size upto old new sound quiet on way = by (same-or file s.file)
  where
    by : (s.file ≡ file) ⊎ (s.file ≢ file) → IsUnderWay s new
    by (inr apart) = others-on s old new (on.others s.file apart) way
    by (inl same) =
        let here : of_file s.file new ≡ with_cut size upto (of_file s.file old) = ap (λ (g : List ℕ). of_file g new) same ∙ on.here ∙ ap (λ (g : List ℕ). with_cut size upto (of_file g old)) (sym same) in
        let cuts = cuts-so size upto (of_file s.file old) (sound s.file).apart in
        let none : HasNoPiece s.file old = subst (λ (g : List ℕ). HasNoPiece g old) (sym same) (quiet-none file old quiet) in
        way-less s old new none (ap (λ (of : FilePending). of.pieces) here ∙ none)
        (λ place cell at. cut-less size upto place (rest_at (of_file s.file old) place) cell (sym (cuts.rest place) ∙ sym (ap (λ (of : FilePending). rest_at of place) here) ∙ at)) way

-- ---- who has no place in the order is the first of no file

nowhere : LaneFile
nowhere = record { lane = 0; file = [] }

pub not-seated : (seats : ℕ → Option (List ℕ)) (o : List LaneFile) → Sits seats o → (n : ℕ) → seats n ≡ None → is_first n o ≡ false
not-seated seats o s n none = by (position (is_lane n) o) refl
  where
    some-place : (a b : LaneFile) → Some a ≡ Some b → a ≡ b
    some-place a b e = cc

    by : (k : Option ℕ) → position (is_lane n) o ≡ k
        → option_map_or (λ place. leads place o) (option_and_then (λ at. slice_get o at) k) false ≡ false
    by None is = refl
    by (Some at) is =
        let s1 = position-Some (is_lane n) o at nowhere is in
        let there = slice_get-get_or o at nowhere s1.0 in
        let lane_is : (get_or o at nowhere).lane ≡ n = eqb-true (get_or o at nowhere).lane n s1.1 in
        absurd (let no_way : None ≡ Some (get_or o at nowhere).file = sym none ∙ ap seats (sym lane_is) ∙ s.sound at (get_or o at nowhere) there in cc)

-- ---- the operations of one file

-- another operation, whose save of the file is under way
pub record Owner (f : List ℕ) (number : ℕ) (base : ℕ → Option (List ℕ)) : Type 0 where
  pub n : ℕ
  pub s : Saving
  pub apart : n ≢ number
  pub seat : base n ≡ Some f
  pub file : s.file ≡ f

-- what is known as long as a step takes
pub record Content (wsize : ℕ) (turn : Turn) (C : ℕ → Pending → Type 0) : Type 0 where
  pub sound : (q : ℕ) (b : Pending) → C q b → EachSound b
  pub goes : (s : Saving) (q : ℕ) (b : Pending) (next : _) (new : Saving) (after : Pending) → saves.Goes wsize turn.xid turn.room false s b next new after → Free turn.xid b → C q b → C q after

-- what a save is known by that takes what came of its call
pub record SaveNow (sent : Turn) (M : Saving → Pending → Type 0) (s : Saving) (b : Pending) : Type 0 where
  pub waits : 1 ≤ of_saving s
  pub it : SendsIt sent.xid s b
  pub more : M s b

pub record ContentReplies (wsize : ℕ) (sent turn : Turn) (came : Result Reply Fault) (M : Saving → Pending → Type 0) (C : ℕ → Pending → Type 0) : Type 0 where
  pub takes : (repeats later : List Repeat) (s : Saving) (q : ℕ) (b : Pending) (next : _) (new : Saving) (after : Pending) → saves.Takes wsize sent turn came repeats s b next new after later
      → SaveNow sent M s b → Free turn.xid b → C q b → C q after

sent-awaited : (sent : Turn) (s : Saving) (b : Pending) → SendsIt sent.xid s b → IsAwaited s sent.xid b
sent-awaited sent s b it sends = let i = it sends in some-is (piece_under sent.xid (of_file s.file b).pieces) i.piece i.there
  where
    some-is : (o : Option Sent) (p : Sent) → o ≡ Some p → IsSome o
    some-is None p e = absurd (let no_way : None ≡ Some p = e in cc)
    some-is (Some q) p e = refl

none-waits : (file : List ℕ) (upto : ℕ) (s : Saving) → s ≡ saves.begun file upto → 1 ≤ of_saving s → ⊥
none-waits file upto s is some = let few : 1 ≤ of_saving (saves.begun file upto) = subst (λ (z : Saving). 1 ≤ of_saving z) is some in omega (arith, few)

abbrev pub BesideSo : (f : List ℕ) (number : ℕ) (base : ℕ → Option (List ℕ)) → Option (Owner f number base) → ℕ → Pending → List LaneFile → Type 0
BesideSo f number base None q b o = HasNoPiece f b
BesideSo f number base (Some w) q b o = IsUnderWay w.s b × (is_first w.n o ≡ true) × (w.s.upto ≤ q)

-- of a save of its own: it waits for its turn, is of another file, or is under way
pub data SaveSo (f : List ℕ) (number : ℕ) (base : ℕ → Option (List ℕ)) (owner : Option (Owner f number base)) (s : Saving) (q : ℕ) (b : Pending) (o : List LaneFile) : Type 0 where
  queued : s ≡ saves.begun s.file s.upto → s.upto ≤ q → BesideSo f number base owner q b o → SaveSo f number base owner s q b o
  elsewhere : f ≢ s.file → BesideSo f number base owner q b o → SaveSo f number base owner s q b o
  under : f ≡ s.file → owner ≡ None → s.upto ≤ q → is_first number o ≡ true → IsUnderWay s b → SaveSo f number base owner s q b o

module _ (f : List ℕ) (wsize : ℕ) (some : 1 ≤ wsize) (turn : Turn) (number : ℕ) (least : 1 ≤ number) (most : number ≤ 16) (base : ℕ → Option (List ℕ)) (owner : Option (Owner f number base))
    (C : ℕ → Pending → Type 0) (c : Content wsize turn C) where
  pub record HasSeat (o : List LaneFile) : Type 0 where
    pub seat : Option (List ℕ)
    pub sits : SitsWith number base seat o

  pub record Before (q : ℕ) (b : Pending) (o : List LaneFile) : Type 0 where
    pub content : C q b
    pub free : Free turn.xid b
    pub other : BesideSo f number base owner q b o
    pub seat : HasSeat o

  -- once it left the order
  pub out-it : (q : ℕ) (b : Pending) (o : List LaneFile) → Before q b o → is_first number (left number o) ≡ false
  out-it q b o p = not-seated (seat_with number None base) (left number o) (leaves number base p.seat.seat o p.seat.sits) number (seat-own number None base)

  -- where it is the first of the file, no other is under way there
  pub alone-first : (file : List ℕ) (q : ℕ) (b : Pending) (o : List LaneFile) → f ≡ file → is_first number o ≡ true → SitsWith number base (Some file) o → (w : Option (Owner f number base)) → owner ≡ w
      → BesideSo f number base w q b o → owner ≡ None
  alone-first file q b o here first sits None is other = is
  alone-first file q b o here first sits (Some w) is other =
      absurd (w.apart (sym (same-first (seat_with number (Some file) base) o sits.sound number w.n file (seat-own number (Some file) base)
      (seat-other number w.n (Some file) base w.apart ∙ w.seat ∙ ap Some here) first other.1)))

  module _ (T : ℕ → Type 0) (X : Type 0) (B : List ℕ → Type 0) (mark : (q : ℕ) (b : Pending) → C q b → T q) (apart-ends : (file : List ℕ) → f ≢ file → B file → X)
      (settles : (upto q : ℕ) (b : Pending) → T upto → IsClearUpTo upto (of_file f b) → C q b → X) where
    pub record Ends (s : Saving) (q : ℕ) (b : Pending) (o : List LaneFile) : Type 0 where
      pub content : C q b
      pub save : SaveSo f number base owner s q b o
      pub sits : SitsWith number base (Some s.file) o
      pub of : B s.file
      pub to : f ≡ s.file → T s.upto

    pub record Holds (s : Saving) (q : ℕ) (b : Pending) (o : List LaneFile) : Type 0 where
      pub ends : Ends s q b o
      pub free : Free turn.xid b

    -- where it stands
    pub stands-it : (s : Saving) (q : ℕ) (b : Pending) (o : List LaneFile) → Holds s q b o → SitsWith number base (Some s.file) o
    stands-it s q b o h = h.ends.sits

    -- ---- it begins

    joins-it : (file : List ℕ) (q : ℕ) (b : Pending) (o : List LaneFile) → B file → Before q b o → Holds (saves.begun file q) q b (added (record { lane = number; file = file }) (left number o))
    joins-it file q b o of p = record {
      ends = record {
        content = p.content;
        save = queued refl (omega arith) (by owner p.other);
        sits = joins number base least most p.seat.seat file o p.seat.sits;
        of = of;
        to = λ same. mark q b p.content;
      };
      free = p.free;
    }
      where
        by : (w : Option (Owner f number base)) → BesideSo f number base w q b o → BesideSo f number base w q b (added (record { lane = number; file = file }) (left number o))
        by None other = other
        by (Some w) other = (other.0, first-added w.n (record { lane = number; file = file }) (left number o) (first-left w.n number o w.apart other.1), other.2)

    leaves-it : (q : ℕ) (b : Pending) (o : List LaneFile) → Before q b o → Before q b (left number o)
    leaves-it q b o p = record {
      content = p.content;
      free = p.free;
      other = by owner p.other;
      seat = record { seat = None; sits = leaves number base p.seat.seat o p.seat.sits };
    }
      where
        by : (w : Option (Owner f number base)) → BesideSo f number base w q b o → BesideSo f number base w q b (left number o)
        by None other = other
        by (Some w) other = (other.0, first-left w.n number o w.apart other.1, other.2)

    -- ---- where it ends, or goes on

    other-same : (q : ℕ) (b after : Pending) (o : List LaneFile) → of_file f after ≡ of_file f b → (w : Option (Owner f number base)) → BesideSo f number base w q b o → BesideSo f number base w q after o
    other-same q b after o same None other = ap (λ (of : FilePending). of.pieces) same ∙ other
    other-same q b after o same (Some w) other =
        (others-on w.s b after (ap (λ (g : List ℕ). of_file g after) w.file ∙ same ∙ ap (λ (g : List ℕ). of_file g b) (sym w.file)) other.0, other.1, other.2)

    -- one of another file
    module _ (s new : Saving) (q : ℕ) (b after : Pending) (o : List LaneFile) (apart : f ≢ s.file) (file : new.file ≡ s.file) (other : BesideSo f number base owner q b o) (sits : SitsWith number base (Some s.file) o)
        (of : B s.file) (same : of_file f after ≡ of_file f b) (content : C q after) where
      apart-then : f ≢ new.file
      apart-then is = apart (is ∙ file)

      on-elsewhere : Ends new q after o
      on-elsewhere = record {
        content = content;
        save = elsewhere apart-then (other-same q b after o same owner other);
        sits = subst (λ (g : List ℕ). SitsWith number base (Some g) o) (sym file) sits;
        of = subst B (sym file) of;
        to = λ is. absurd (apart-then is);
      }

      done-elsewhere : Free turn.xid after → Before q after o
      done-elsewhere free = record { content = content; free = free; other = other-same q b after o same owner other; seat = record { seat = Some s.file; sits = sits } }

      out-elsewhere : (next : Step) → After (Free turn.xid) (Has turn.xid) next after → Out Before Ends X B next new q after o
      out-elsewhere (nexts.Send call) free = on-elsewhere
      out-elsewhere nexts.Wait free = on-elsewhere
      out-elsewhere (nexts.Done (answers.Done value)) free = (done-elsewhere free, apart-ends s.file apart of, subst B (sym file) of)
      out-elsewhere (nexts.Done (answers.Refused fault)) free = (done-elsewhere free, subst B (sym file) of)

    -- one of the file
    module _ (s new : Saving) (q : ℕ) (b after : Pending) (o : List LaneFile) (here : f ≡ s.file) (file : new.file ≡ s.file) (alone : owner ≡ None) (low : s.upto ≤ q) (first : is_first number o ≡ true)
        (sits : SitsWith number base (Some s.file) o) (of : B s.file) (to : T s.upto) (content : C q after) where
      on-under : GoesOn s new after → Ends new q after o
      on-under l = record {
        content = content;
        save = under (here ∙ sym l.file) alone (subst (λ (n : ℕ). n ≤ q) (sym l.upto) low) first l.so;
        sits = subst (λ (g : List ℕ). SitsWith number base (Some g) o) (sym file) sits;
        of = subst B (sym file) of;
        to = λ is. subst T (sym l.upto) to;
      }

      done-under : HasNoPiece s.file after → Free turn.xid after → Before q after o
      done-under quiet free = record {
        content = content;
        free = free;
        other = subst (λ (w : Option (Owner f number base)). BesideSo f number base w q after o) (sym alone) (subst (λ (g : List ℕ). HasNoPiece g after) (sym here) quiet);
        seat = record { seat = Some s.file; sits = sits };
      }

      out-under : (next : Step) → After (Free turn.xid) (Has turn.xid) next after → Leaves next s new after → Out Before Ends X B next new q after o
      out-under (nexts.Send call) free l = on-under l
      out-under nexts.Wait free l = on-under l
      out-under (nexts.Done (answers.Done value)) free l =
          (done-under l.quiet free, settles s.upto q after to (subst (λ (g : List ℕ). IsClearUpTo s.upto (of_file g after)) (sym here) l.clear) content, subst B (sym file) of)
      out-under (nexts.Done (answers.Refused fault)) free l = (done-under l free, subst B (sym file) of)

    -- ---- a step without a reply

    -- another operation of the file isn't under way where this one is the first
    none-other : (s : Saving) (q : ℕ) (b : Pending) (o : List LaneFile) → f ≡ s.file → is_first number o ≡ true → SitsWith number base (Some s.file) o → (w : Option (Owner f number base)) → owner ≡ w
        → BesideSo f number base w q b o → owner ≡ None
    none-other s q b o here first sits None is other = is
    none-other s q b o here first sits (Some w) is other =
        absurd (w.apart (sym (same-first (seat_with number (Some s.file) base) o sits.sound number w.n s.file (seat-own number (Some s.file) base)
        (seat-other number w.n (Some s.file) base w.apart ∙ w.seat ∙ ap Some here) first other.1)))

    quiet-now : (w : Option (Owner f number base)) (q : ℕ) (b : Pending) (o : List LaneFile) → w ≡ None → BesideSo f number base w q b o → HasNoPiece f b
    quiet-now None q b o is other = other
    quiet-now (Some w) q b o is other = absurd (cc)

    goes-it : (s : Saving) (q : ℕ) (b : Pending) (o : List LaneFile) (next : _) (new : Saving) (after : Pending) → is_first number o ≡ true
        → saves.Goes wsize turn.xid turn.room false s b next new after → Holds s q b o → Out Before Ends X B (syncs.sync_next next) new q after o
    goes-it s q b o next new after first g h = by h.ends.save
      where
        file : new.file ≡ s.file
        file = (goes-steps (Unit {0}) wsize turn.xid turn.room false s b next new after (λ later. tt) g).file

        content : C q after
        content = c.goes s q b next new after g h.free h.ends.content

        free : After (Free turn.xid) (Has turn.xid) (syncs.sync_next next) after
        free = ((carries-has wsize turn).goes false s b next new after g h.free)

        apart : f ≢ s.file → BesideSo f number base owner q b o → Out Before Ends X B (syncs.sync_next next) new q after o
        apart not other =
            out-elsewhere s new q b after o not file other h.ends.sits h.ends.of (goes-frame f wsize turn.xid turn.room false s b next new after not g) content (syncs.sync_next next) free

        own : f ≡ s.file → owner ≡ None → s.upto ≤ q → IsUnderWay s b → Out Before Ends X B (syncs.sync_next next) new q after o
        own here alone low way =
            out-under s new q b after o here file alone low first h.ends.sits h.ends.of (h.ends.to here) content (syncs.sync_next next) free
            (goes-leaves wsize turn.xid turn.room false s b next new after some (c.sound q b h.ends.content s.file) way g)

        by : SaveSo f number base owner s q b o → Out Before Ends X B (syncs.sync_next next) new q after o
        by (elsewhere not other) = apart not other
        by (under here alone low at way) = own here alone low way
        by (queued is low other) = which (same-or s.file f)
          where
            which : (f ≡ s.file) ⊎ (f ≢ s.file) → Out Before Ends X B (syncs.sync_next next) new q after o
            which (inr not) = apart not other
            which (inl here) =
                let alone = none-other s q b o here first h.ends.sits owner refl other in
                own here alone low
                (subst (λ (z : Saving). IsUnderWay z b) (sym is) (begins s.file s.upto b (subst (λ (g : List ℕ). HasNoPiece g b) here (quiet-now owner q b o alone other))))

    clear-it : (s : Saving) (q : ℕ) (b : Pending) (o : List LaneFile) → last_end (of_file s.file b).segments ≡ None → Holds s q b o → Before q b o × X × B s.file
    clear-it s q b o none h = (
      record { content = h.ends.content; free = h.free; other = beside h.ends.save; seat = record { seat = Some s.file; sits = h.ends.sits } },
      which (same-or s.file f),
      h.ends.of,
    )
      where
        sound : EachSound b
        sound = c.sound q b h.ends.content

        empty : (of_file s.file b).segments ≡ []
        empty = no-segments (of_file s.file b).segments none

        beside : SaveSo f number base owner s q b o → BesideSo f number base owner q b o
        beside (queued is low other) = other
        beside (elsewhere not other) = other
        beside (under here alone low first way) =
            subst (λ (w : Option (Owner f number base)). BesideSo f number base w q b o) (sym alone) (subst (λ (g : List ℕ). HasNoPiece g b) (sym here) (no-pieces (of_file s.file b) (sound s.file) empty))

        which : (f ≡ s.file) ⊎ (f ≢ s.file) → X
        which (inr not) = apart-ends s.file not h.ends.of
        which (inl here) =
            settles s.upto q b (h.ends.to here) (subst (λ (g : List ℕ). IsClearUpTo s.upto (of_file g b)) (sym here) (nothing-clear s.upto (of_file s.file b) (sound s.file) empty)) h.ends.content

    pub level : Level wsize number turn Before Holds Ends X B
    level = record {
      rests = λ s q b o h. h.ends;
      joins = joins-it;
      leaves = leaves-it;
      goes = goes-it;
      clear = clear-it;
    }

    -- ---- what came of a call

    module _ (sent : Turn) (came : Result Reply Fault) (M : Saving → Pending → Type 0) (v : ContentReplies wsize sent turn came M C) where
      takes-it : (repeats later : List Repeat) (s : Saving) (q : ℕ) (b : Pending) (o : List LaneFile) (next : _) (new : Saving) (after : Pending)
          → saves.Takes wsize sent turn came repeats s b next new after later → SaveNow sent M s b → Holds s q b o → Out Before Ends X B (syncs.sync_next next) new q after o
      takes-it repeats later s q b o next new after t n h = by h.ends.save
        where
          one : of_saving s ≡ (of_saving s - 1) + 1
          one = let waits = n.waits in omega (arith, waits)

          file : new.file ≡ s.file
          file = (takes-steps (Unit {0}) wsize sent turn came repeats s b next new after later (of_saving s - 1) one (λ again. tt) (λ idle verf told. tt) t).file

          content : C q after
          content = v.takes repeats later s q b next new after t n h.free h.ends.content

          free : After (Free turn.xid) (Has turn.xid) (syncs.sync_next next) after
          free = ((replies-has wsize sent turn came).takes repeats s b next new after later t n.it h.free)

          by : SaveSo f number base owner s q b o → Out Before Ends X B (syncs.sync_next next) new q after o
          by (elsewhere not other) =
              out-elsewhere s new q b after o not file other h.ends.sits h.ends.of (takes-frame f wsize sent turn came repeats s b next new after later not t) content (syncs.sync_next next) free
          by (under here alone low first way) =
              out-under s new q b after o here file alone low first h.ends.sits h.ends.of (h.ends.to here) content (syncs.sync_next next) free
              (takes-leaves wsize sent turn came repeats s b next new after later some (c.sound q b h.ends.content) way (sent-awaited sent s b n.it) t)
          by (queued is low other) = absurd (none-waits s.file s.upto s is n.waits)

      pub level-replies : Replies wsize sent turn came (SaveNow sent M) Before Holds Ends X B
      level-replies = record { takes = takes-it }
