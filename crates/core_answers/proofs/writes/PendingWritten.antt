-- Each byte that is pending is one that an operation gave.
use Rattle.core_answers.proofs.Prelude.{◌≡◌, ◌+◌, ◌-◌, ℕ, List, [], ◌∷◌, ◌++◌, length, Bool, true, false, Option, Some, None, Result, Ok, Err, position, slice_get, refl, sym, ap, subst, ◌∙◌, arith, if◌then◌else◌, Mode, Waiting, waiting_at, Opened, Pending, of_file, nothing, Fault, Entry, Began, Answered, Delivered, Reply, Op, At, Modes, IsOf, Terms, At-grow, At-below, At-last, said_of, Step, Shelf, Turn, in_mode, of_open, file_to_write, Mounted, Machine, machine_of, Starts, Resumes, Takes, Lane, Purpose, Busy, Setup, is_busy, IsIdle, with_state, Stirs, counted, StartsLane, TakesAt, View, turn_at, unmade_turn, Reaches, begins-unbegun, taken_one, held-begins, Given, is-given, Known, at-push, at-set}
use Rattle.std.proofs.Common.{replicate}
use Rattle.std.specs.Prelude.{slice_index}
use Rattle.claims.specs.Slots.{slot_of}
use Rattle.core_facts.proofs.HeldSlots.{may}
use Rattle.std.specs.FinMap as finite
use Rattle.std.proofs.lemmas.Bool.{le-ltb}
use Rattle.std.proofs.lemmas.Option.{slice_get-get_or}
use Rattle.nfs_types.specs.declared.mode.Mode.TheVariants as modes
use Rattle.write_back.specs.Segments.{covers}
use Rattle.write_back.proofs.Keys.{low-of, high-of}
use Rattle.world_model.specs.declared.op.Op.TheVariants as ops
use Rattle.claims.specs.Rights.{can_write}
use Rattle.client_shelf.specs.declared.step.Step.TheVariants as nexts
use Rattle.file_ops.specs.Syncs as syncs
use Rattle.core_facts.specs.SlotAnswers.{GoesWith}
use Rattle.core_facts.proofs.SlotGrowth.{IsHeld, held-grow}
use Rattle.core_answers.specs.writes.Written.{byte_from, byte_by, IsAtFile, IsWritten, PlaceWritten}
use Rattle.core_answers.proofs.writes.AllBacks.{Brings, StartsWith, all-starts, all-resumes, all-takes}
use Rattle.core_answers.proofs.writes.Along.{KeepsAlong, reached-along}
use Rattle.core_answers.proofs.writes.Backs.{After, Carries, CarriesReply}
use Rattle.core_answers.proofs.writes.Brings.{starts-brings, resumes-brings, takes-brings}
use Rattle.core_answers.proofs.writes.Given.{OfBack, on-file-given, none-given, landed-given, landed-part-given, decided-given, cut-file-given, xid-given, bytes-given, sent-given, rest-given, fly-given}
use Rattle.core_answers.proofs.writes.Holding.{LanesHave, Holds, lanes-map, lanes-without, lanes-push, lanes-set, leads-holds}
use Rattle.core_answers.proofs.writes.Mapped.{back-map, brings-map, any-asks, any-saves}
use Rattle.core_answers.proofs.writes.SaveChanges.{IsKept, goes-kept, takes-kept}

-- ---- what an operation gives

some-by : (offset : ℕ) (bytes : List ℕ) (place : ℕ) → covers offset (length bytes) place ≡ true → byte_from offset bytes place ≡ Some (slice_index bytes (place - offset))
some-by offset bytes place c =
    let low = low-of offset (offset + length bytes) place c in
    let high = high-of offset (offset + length bytes) place c in
    ap (λ (b : Bool). if b then None else slice_get bytes (place - offset)) (le-ltb place offset low) ∙ slice_get-get_or bytes (place - offset) 0 (omega (arith, low, high))

-- these bytes at an offset of the file were given
abbrev pub BytesGiven : Modes → List Entry → List ℕ → ℕ → List ℕ → Type 0
BytesGiven m h file offset bytes = (place : ℕ) → covers offset (length bytes) place ≡ true → IsWritten m h file place (slice_index bytes (place - offset))

at-later : (m : Modes) (h : List Entry) (e : Entry) (x lane line : ℕ) (op : Op) (f : List ℕ) → At h x (Began lane line op) → IsAtFile m h x op f → IsAtFile m (h ++ e ∷ []) x op f
at-later m h e x lane line op f began at = by op at
  where
    of-later : (o : Op) → IsOf m h x o f → IsOf m (h ++ e ∷ []) x o f
    of-later o i =
        let low = At-below h x (Began i.lane i.line o) i.began in
        let held : IsHeld m (h ++ e ∷ []) x i.lane i.slot f i.holds.opens.mode =
        held-grow m h e i.lane i.slot f i.holds.opens.mode x (omega (arith, low)) (record { x = i.open_at; holds = i.holds; mode_is = refl }) in
        record {
          lane = i.lane;
          line = i.line;
          slot = i.slot;
          open_at = held.x;
          began = At-grow h (e ∷ []) x (Began i.lane i.line o) i.began;
          works_on = i.works_on;
          holds = held.holds;
        }

    by : (o : Op) → IsAtFile m h x o f → IsAtFile m (h ++ e ∷ []) x o f
    by (ops.Put path offset bytes) at = tt
    by (ops.OpenFile slot mode path) at = of-later (ops.OpenFile slot mode path) at
    by (ops.Read slot offset count) at = of-later (ops.Read slot offset count) at
    by (ops.Write slot offset bytes) at = of-later (ops.Write slot offset bytes) at
    by (ops.Fill slot offset count byte) at = of-later (ops.Fill slot offset count byte) at
    by (ops.Sync slot) at = of-later (ops.Sync slot) at
    by (ops.Close slot) at = of-later (ops.Close slot) at
    by (ops.Truncate slot size) at = of-later (ops.Truncate slot size) at
    by (ops.Stat path) at = of-later (ops.Stat path) at
    by (ops.Access path bits) at = of-later (ops.Access path bits) at
    by (ops.MakeDir path) at = of-later (ops.MakeDir path) at
    by (ops.RemoveDir path) at = of-later (ops.RemoveDir path) at
    by (ops.Remove path) at = of-later (ops.Remove path) at
    by (ops.Rename from to) at = of-later (ops.Rename from to) at
    by (ops.Link from to) at = of-later (ops.Link from to) at
    by (ops.SymLink path target) at = of-later (ops.SymLink path target) at
    by (ops.ReadLink path) at = of-later (ops.ReadLink path) at
    by (ops.List path) at = of-later (ops.List path) at

pub written-later : (m : Modes) (h : List Entry) (e : Entry) (f : List ℕ) (place byte : ℕ) → IsWritten m h f place byte → IsWritten m (h ++ e ∷ []) f place byte
written-later m h e f place byte w = record {
  lane = w.lane;
  line = w.line;
  x = w.x;
  op = w.op;
  began = At-grow h (e ∷ []) w.x (Began w.lane w.line w.op) w.began;
  gives = w.gives;
  file = at-later m h e w.x w.lane w.line w.op f w.began w.file;
}

-- ---- as an operation begins

writable : (mode : Mode) (of file : List ℕ) → in_mode mode of ≡ Ok file → (can_write mode ≡ true) × (of ≡ file)
writable modes.R of file is = absurd (cc)
writable modes.W of file is = (refl, cc)
writable modes.RW of file is = (refl, cc)
writable modes.C of file is = (refl, cc)
writable modes.X of file is = (refl, cc)

-- a write or a fill of a slot is of the file that this holds
begins-at : (m : Modes) (h : List Entry) (lane line slot : ℕ) (op : Op) (old : Shelf) (file : List ℕ) → Given m h lane old → slot_of op ≡ Some slot
    → ((mode : Mode) → may op mode ≡ can_write mode) → file_to_write lane slot old.opens ≡ Ok file → IsOf m (h ++ Began lane line op ∷ []) (length h) op file
begins-at m h lane line slot op old file given works_on same found = by (finite.get old.opens (lane, slot)) refl found
  where
    by : (at : Option Opened) → finite.get old.opens (lane, slot) ≡ at → of_open at ≡ Ok file → IsOf m (h ++ Began lane line op ∷ []) (length h) op file
    by None there is = absurd (cc)
    by (Some o) there is =
        let w = writable o.mode o.file file is in
        let k = held-begins m h lane line slot op o old given works_on there (same o.mode ∙ w.0) in
        subst (IsOf m (h ++ Began lane line op ∷ []) (length h) op) w.1
        (record { lane = lane; line = line; slot = slot; open_at = k.held.x; began = k.began; works_on = works_on; holds = k.held.holds })

module _ (m : Modes) (mounted : Mounted) (h : List Entry) (lane line : ℕ) (old : Shelf) (given : Given m h lane old) where
  in-slot : (slot : ℕ) (op : Op) (offset : ℕ) (bytes file : List ℕ) → slot_of op ≡ Some slot → ((mode : Mode) → may op mode ≡ can_write mode)
      → ((place : ℕ) → byte_by op place ≡ byte_from offset bytes place) → (IsOf m (h ++ Began lane line op ∷ []) (length h) op file → IsAtFile m (h ++ Began lane line op ∷ []) (length h) op file)
      → file_to_write lane slot old.opens ≡ Ok file → BytesGiven m (h ++ Began lane line op ∷ []) file offset bytes
  in-slot slot op offset bytes file works_on same gives at found place c = record {
    lane = lane;
    line = line;
    x = length h;
    op = op;
    began = At-last h (Began lane line op);
    gives = gives place ∙ some-by offset bytes place c;
    file = at (begins-at m h lane line slot op old file given works_on same found);
  }

  pub started : (op : Op) → StartsWith (λ f o b. BytesGiven m (h ++ Began lane line op ∷ []) f o b) (machine_of mounted lane op) old.opens
  started (ops.Write slot offset bytes) = λ file found.
      in-slot slot (ops.Write slot offset bytes) offset bytes file refl (λ mode. refl) (λ place. refl) (λ i. i) found
  started (ops.Fill slot offset count byte) = λ file found.
      in-slot slot (ops.Fill slot offset count byte) offset (replicate count byte) file refl (λ mode. refl) (λ place. refl) (λ i. i) found
  started (ops.Put path offset bytes) = λ file place c. record {
    lane = lane;
    line = line;
    x = length h;
    op = ops.Put path offset bytes;
    began = At-last h (Began lane line (ops.Put path offset bytes));
    gives = some-by offset bytes place c;
    file = tt;
  }
  started (ops.OpenFile slot mode path) = tt
  started (ops.Read slot offset count) = tt
  started (ops.Sync slot) = tt
  started (ops.Close slot) = tt
  started (ops.Truncate slot size) = tt
  started (ops.Stat path) = tt
  started (ops.Access path bits) = tt
  started (ops.MakeDir path) = tt
  started (ops.RemoveDir path) = tt
  started (ops.Remove path) = tt
  started (ops.Rename from to) = tt
  started (ops.Link from to) = tt
  started (ops.SymLink path target) = tt
  started (ops.ReadLink path) = tt
  started (ops.List path) = tt

-- ---- each step

module _ (m : Modes) (h : List Entry) where
  abbrev Gave : List ℕ → ℕ → ℕ → ℕ → Type 0
  Gave f place byte number = IsWritten m h f place byte

  abbrev pub Back : Pending → Type 0
  Back back = OfBack Gave back

  abbrev pub Own : Machine → Type 0
  Own machine = Brings (λ f o b. BytesGiven m h f o b) machine

  kept : (asked to : ℕ) → IsKept asked to Back
  kept asked to = record {
    puts = λ file piece upto old new is on puts p. on-file-given Gave old new file _ on (λ g. sent-given (Gave file) piece upto (of_file file old) (of_file file new) puts g) p;
    lands = λ file change old new on p. on-file-given Gave old new file _ on (λ g. landed-given (Gave file) change asked (of_file file old) g) p;
    part_lands = λ file change count old new on p. on-file-given Gave old new file _ on (λ g. landed-part-given (Gave file) change count asked (of_file file old) g) p;
    renames = λ file old new on p. on-file-given Gave old new file _ on (λ g. xid-given (Gave file) asked to (of_file file old) g) p;
    decides = λ file upto verf old new on p. on-file-given Gave old new file _ on (λ g. decided-given (Gave file) upto verf (of_file file old) g) p;
  }

  any-after : (next : Step) (back : Pending) → Back back → After Back (λ call. Back) next back
  any-after (nexts.Send call) back p = p
  any-after nexts.Wait back p = p
  any-after (nexts.Done answer) back p = p

  after-any : (next : Step) (back : Pending) → After Back (λ call. Back) next back → Back back
  after-any (nexts.Send call) back p = p
  after-any nexts.Wait back p = p
  after-any (nexts.Done answer) back p = p

  carries : (wsize : ℕ) (turn : Turn) → Carries wsize turn (λ f o b n. BytesGiven m h f o b) (λ c. Unit {0}) Back (λ call. Back)
  carries wsize turn = record {
    goes = λ by_reply s back next new after g p. any-after (syncs.sync_next next) after (goes-kept Back 0 turn.xid (kept 0 turn.xid) wsize turn.room by_reply s back next new after g p);
    adds = λ file offset bytes number old new a on p. on-file-given Gave old new file _ on (λ g. bytes-given (Gave file) offset bytes number (of_file file old) a g) p;
    cuts = λ file size upto old new on p. on-file-given Gave old new file _ on (λ g. cut-file-given (Gave file) size upto (of_file file old) g) p;
    gives = λ file old new quiet on p. on-file-given Gave old new file nothing on (λ g. none-given (Gave file)) p;
    plain = λ call back f p. p;
  }

  replies : (wsize : ℕ) (sent turn : Turn) (came : Result Reply Fault) → CarriesReply wsize sent turn came (λ s b. Unit {0}) Back (λ call. Back)
  replies wsize sent turn came = record {
    takes = λ repeats s back next new after later t n p. any-after (syncs.sync_next next) after (takes-kept Back sent turn (kept sent.xid turn.xid) wsize came repeats s back next new after later t p);
  }

  start-step : (wsize : ℕ) (turn : Turn) (machine : Machine) (old : Shelf) (next : Step) (new : Machine) (after : Shelf) → StartsWith (λ f o b. BytesGiven m h f o b) machine old.opens
      → Starts wsize machine turn old next new after → Back old.back → Back after.back × Own new
  start-step wsize turn machine old next new after a s p = (
    after-any next after.back
        (all-starts wsize turn (λ f o b n. BytesGiven m h f o b) (λ c. Unit {0}) (λ call o. tt) Back (λ call. Back) (carries wsize turn) machine old next new after (any-asks next new) a p s),
    starts-brings (λ f o b. BytesGiven m h f o b) wsize machine turn old next new after a s,
  )

  resume-step : (wsize : ℕ) (turn : Turn) (machine : Machine) (old : Shelf) (next : Step) (new : Machine) (after : Shelf) → Resumes wsize machine turn old next new after
      → Back old.back → Own machine → Back after.back × Own new
  resume-step wsize turn machine old next new after s p own = (
    after-any next after.back
        (all-resumes wsize turn (λ f o b n. BytesGiven m h f o b) (λ c. Unit {0}) (λ call o. tt) Back (λ call. Back) (carries wsize turn) machine old next new after (any-asks next new) p s),
    resumes-brings (λ f o b. BytesGiven m h f o b) wsize machine turn old next new after own s,
  )

  take-step : (wsize : ℕ) (sent turn : Turn) (came : Result Reply Fault) (machine : Machine) (old : Shelf) (next : Step) (new : Machine) (after : Shelf)
      → Takes wsize machine sent turn came old next new after → Back old.back → Own machine → Back after.back × Own new
  take-step wsize sent turn came machine old next new after s p own = (
    after-any next after.back
        (all-takes wsize turn (λ f o b n. BytesGiven m h f o b) (λ c. Unit {0}) (λ call o. tt) Back (λ call. Back) (carries wsize turn) sent came (λ s b. Unit {0})
        (replies wsize sent turn came) machine old next new after (any-asks next new) own (any-saves machine) p s),
    takes-brings (λ f o b. BytesGiven m h f o b) wsize machine sent turn came old next new after own s,
  )

-- ---- along a history

abbrev pub Known_ : Modes → List Entry → View → Type 0
Known_ m h v = Holds (Back m h) (Own m h) v

given-later : (m : Modes) (h : List Entry) (e : Entry) (file : List ℕ) (offset : ℕ) (bytes : List ℕ) → BytesGiven m h file offset bytes → BytesGiven m (h ++ e ∷ []) file offset bytes
given-later m h e file offset bytes b place c = written-later m h e file place _ (b place c)

back-later : (m : Modes) (h : List Entry) (e : Entry) (back : Pending) → Back m h back → Back m (h ++ e ∷ []) back
back-later m h e back p = back-map (Gave m h) (Gave m (h ++ e ∷ [])) (λ file place byte number w. written-later m h e file place byte w) back p

lanes-later : (m : Modes) (h : List Entry) (e : Entry) (lanes : List Lane) → LanesHave (Own m h) lanes → LanesHave (Own m (h ++ e ∷ [])) lanes
lanes-later m h e lanes s =
    lanes-map (Own m h) (Own m (h ++ e ∷ []))
    (λ machine own. brings-map (λ f o b. BytesGiven m h f o b) (λ f o b. BytesGiven m (h ++ e ∷ []) f o b) (given-later m h e) machine own) lanes s

module _ (m : Modes) (mounted : Mounted) (same : mounted.nocto ≡ m.nocto) (setup : Setup) where
  stirs-written : (h : List Entry) (old new : View) (at : ℕ) → Known setup h old → Stirs old at new → Known_ m h old → Known_ m h new
  stirs-written h old new at k t i =
      let own = i.lanes at (record { number = t.number; state = Busy t.machine }) t.there in
      let s = resume-step m h old.wsize (turn_at old) t.machine old.shelf t.next t.after t.shelf t.resumes i.back own in
      leads-holds (Back m h) (Own m h) (with_state old at t.number (Busy t.after) t.shelf) new at t.number t.after t.next
      (at-set old.lanes at (record { number = t.number; state = Busy t.machine }) (record { number = t.number; state = Busy t.after }) t.there)
      (record { back = s.0; lanes = lanes-set (Own m h) old.lanes at t.number (Busy t.machine) (Busy t.after) t.there i.lanes s.1 })
      (λ fault next after left u. take-step m h old.wsize (turn_at old) (unmade_turn old) (Err fault) t.after t.shelf next after left u s.0 s.1) t.leads

  starts-written : (h : List Entry) (old new : View) (lane line : ℕ) (op : Op) (now : ℕ) → Reaches (machine_of mounted) setup h old → old.lost ≡ false → Known setup h old
      → IsIdle lane old.lanes → StartsLane (counted old now) lane (machine_of mounted lane op) new → Known_ m h old → Known_ m (h ++ Began lane line op ∷ []) new
  starts-written h old new lane line op now r found k idle t i =
      leads-holds (Back m later) (Own m later) v new (length old.lanes) lane t.after t.next (at-push old.lanes (record { number = lane; state = Busy t.after }))
      (record { back = s.0; lanes = lanes-push (Own m later) old.lanes lane (Busy t.after) (lanes-later m h (Began lane line op) old.lanes i.lanes) s.1 })
      (λ fault next after left u. take-step m later v.wsize (turn_at v) (unmade_turn v) (Err fault) t.after t.shelf next after left u s.0 s.1) t.leads
    where
      later : List Entry
      later = h ++ Began lane line op ∷ []

      v : View
      v = record (counted old now) { lanes = old.lanes ++ record { number = lane; state = Busy t.after } ∷ []; shelf = t.shelf }

      s : Back m later t.shelf.back × Own m later t.after
      s = start-step m later old.wsize (turn_at (counted old now)) (machine_of mounted lane op) old.shelf t.next t.after t.shelf
          (started m mounted h lane line old.shelf (is-given m mounted same setup h old r found lane idle.other) op) t.starts (back-later m h (Began lane line op) old.shelf.back i.back)

  takes-written : (h : List Entry) (old new : View) (rec : List ℕ) (xid : ℕ) (call : Waiting Purpose) (at : ℕ) → Reaches (machine_of mounted) setup h old → old.lost ≡ false
      → Known setup h old → waiting_at xid old.calls.calls ≡ Some call → position (is_busy call.purpose.lane) old.lanes ≡ Some at
      → TakesAt (taken_one old xid) at call.purpose.sent (said_of call.purpose.proc rec) new → Known_ m h old → Known_ m (h ++ Delivered rec ∷ []) new
  takes-written h old new rec xid call at r found k waits there t i =
      let lanes = lanes-later m h (Delivered rec) old.lanes i.lanes in
      let own = lanes at (record { number = t.number; state = Busy t.machine }) t.there in
      let v : View = with_state (taken_one old xid) at t.number (Busy t.after) t.shelf in
      let s = take-step m (h ++ Delivered rec ∷ []) old.wsize call.purpose.sent (turn_at (taken_one old xid)) (said_of call.purpose.proc rec) t.machine old.shelf t.next t.after t.shelf
      t.takes (back-later m h (Delivered rec) old.shelf.back i.back) own in
      leads-holds (Back m (h ++ Delivered rec ∷ [])) (Own m (h ++ Delivered rec ∷ [])) v new at t.number t.after t.next
      (at-set old.lanes at (record { number = t.number; state = Busy t.machine }) (record { number = t.number; state = Busy t.after }) t.there)
      (record { back = s.0; lanes = lanes-set (Own m (h ++ Delivered rec ∷ [])) old.lanes at t.number (Busy t.machine) (Busy t.after) t.there lanes s.1 })
      (λ fault next after left u. take-step m (h ++ Delivered rec ∷ []) v.wsize (turn_at v) (unmade_turn v) (Err fault) t.after t.shelf next after left u s.0 s.1) t.leads

  pub keeps-written : KeepsAlong (machine_of mounted) setup (λ h v. Known_ m h v)
  keeps-written = record {
    fresh = λ h v fresh. record {
      back = subst (Back m h) (sym fresh.back) (record { file = λ f. none-given (Gave m h f) });
      lanes = λ k lane there. absurd (let no_way : None ≡ Some lane = ap (λ (lanes : List Lane). slice_get lanes k) (sym fresh.lanes) ∙ there in cc);
    };
    stirs = stirs-written;
    starts = starts-written;
    takes = takes-written;
    answers = λ h old new at lane line answer k a i. subst (Known_ m (h ++ Answered lane line answer ∷ [])) (sym a.is) (record {
      back = back-later m h (Answered lane line answer) old.shelf.back i.back;
      lanes = lanes-without (Own m (h ++ Answered lane line answer ∷ [])) old.lanes at (lanes-later m h (Answered lane line answer) old.lanes i.lanes);
    });
    same = λ h e old new lanes shelf calls i. record {
      back = subst (λ (s : Shelf). Back m (h ++ e ∷ []) s.back) (sym shelf) (back-later m h e old.shelf.back i.back);
      lanes = subst (LanesHave (Own m (h ++ e ∷ []))) (sym lanes) (lanes-later m h e old.lanes i.lanes);
    };
  }

pub pending-written : (mounted : Mounted) (terms : Terms) (setup : Setup) (h : List Entry) (v : View) → GoesWith mounted terms setup h v → v.lost ≡ false
    → (f : List ℕ) (place : ℕ) → PlaceWritten terms.modes h v.shelf.back f place
pending-written mounted terms setup h v g found f place =
    let i = reached-along (machine_of mounted) (begins-unbegun mounted) setup (λ h v. Known_ terms.modes h v) (keeps-written terms.modes mounted g.nocto setup) h v g.reaches found in
    let of = i.back.file f in
    record {
      rest = λ cell is. rest-given (Gave terms.modes h f) (of_file f v.shelf.back) place cell of is;
      fly = λ flown is. fly-given (Gave terms.modes h f) (of_file f v.shelf.back).pieces place flown of.pieces is;
    }
