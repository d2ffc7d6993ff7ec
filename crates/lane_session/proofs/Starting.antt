-- A lane that begins its next line.
use Rattle.std.proofs.Common.{◌≡◌, ◌≤◌, ◌<◌, ◌+◌, ◌-◌, ◌^◌, inl, inr, ℕ, zero, suc, List, [], ◌∷◌, ◌++◌, length, slice_get, slice_set, Option, Some, None, Ok, Err, refl, sym, ap, subst, ◌∙◌, arith}
use Rattle.xdr_codec.specs.declared.blob.Memory.{Memory}
use Rattle.outside.specs.Clock.{ReadsClock}
use Rattle.world_model.specs.declared.entry.Entry.{Entry}
use Rattle.world_model.specs.declared.entry.Entry.TheVariants.{Began, Clock}
use Rattle.world_model.specs.declared.op.Op.{Op}
use Rattle.world_model.specs.History.{History}
use Rattle.world_model.specs.Told.{Relates}
use Rattle.nfs_script.specs.declared.script.ScriptLine.{ScriptLine}
use Rattle.op_machines.specs.Begun.{machine_of}
use Rattle.op_machines.specs.declared.machine.Machine.{Machine}
use Rattle.op_machines.specs.Fits.{Fits}
use Rattle.client_core.specs.Numbers.{IsIdle}
use Rattle.client_core.specs.Steps.{Begins}
use Rattle.client_core.specs.View.{View}
use Rattle.lane_session.specs.declared.halt.Halt.TheVariants as halts
use Rattle.lane_session.specs.declared.lanes.Place.{Place}
use Rattle.lane_session.specs.declared.running.Session.{Session}
use Rattle.lane_session.specs.Going.{GoesOn, CutsOff, NotesBeginning}
use Rattle.lane_session.specs.Holding.{IsHeld, Lessens}
use Rattle.lane_session.specs.Places.{FoundAt, Seeks}
use Rattle.lane_session.specs.Running.{LineIs, Starts, NotesStart}
use Rattle.lane_session.specs.Streams.{Reads}
use Rattle.lane_session.proofs.Alive.{alive-begins}
use Rattle.lane_session.proofs.Marking.{started, unstarted, rested-on}
use Rattle.lane_session.proofs.Passing.{reads_same, reads_one, relates_same, relates_less}
use Rattle.lane_session.proofs.Seating.{begun-seated, begun-live, begun-less, few-begun, line-of, set-set}
use Rattle.lane_session.proofs.Stepping.{same-lane}

-- ---- the clock and the link

module _ (r0 r1 : Option (List ℕ)) (t0 t1 : Option History) (P : List ℕ → Type 0) (R S : List ℕ → List Entry → List Entry → Type 0) where
  -- what is so of the readings and the histories, and less
  pub reads_less : ((g : List ℕ) (h k : List Entry) → P g → R g h k → S g h k) → Reads r0 r1 (λ g. P g × Relates t0 t1 (R g)) → Reads r0 r1 (λ g. Relates t0 t1 (S g))
  reads_less less p = record { given = p.given; are = p.are; is = relates_less t0 t1 (R p.given) (S p.given) (λ h k x. less p.given h k p.is.0 x) p.is.1 }

-- ---- an operation begins

pub start-read : (r0 r1 : Option (List ℕ)) (t : Option History) (lane line : ℕ) (op : Op) (old new : Session) (e : Memory) (ms : ℕ) → ReadsClock r0 r1 ms
    → Reads r0 r1 (λ given. Starts lane op old new (Err e) given × Relates t t (NotesStart lane line op (Err e) given))
start-read r0 r1 t lane line op old new e ms reads = record { given = ms ∷ []; are = reads_one r0 r1 ms reads; is = (omega arith, relates_same t _ (λ h. inl refl)) }

pub start-now : (r0 r1 : Option (List ℕ)) (t0 t1 : Option History) (lane line : ℕ) (op : Op) (machine : Machine) (old : Session) (core : View) (ms now : ℕ) → machine ≡ machine_of old.mounted lane op
    → now ≡ ms → ReadsClock r0 r1 ms → Begins old.core lane machine now core → Relates t0 t1 (NotesBeginning lane line op ms (Ok now))
    → Reads r0 r1 (λ given. Starts lane op old (record old { core = core }) (Ok tt) given × Relates t0 t1 (NotesStart lane line op (Ok tt) given))
start-now r0 r1 t0 t1 lane line op machine old core ms now machine_is now_is reads begins notes = record {
  given = ms ∷ [];
  are = reads_one r0 r1 ms reads;
  is = (
    (ms, refl, subst (λ (n : ℕ). Begins old.core lane (machine_of old.mounted lane op) n core) now_is (subst (λ (m : Machine). Begins old.core lane m now core) machine_is begins), refl),
    relates_less t0 t1 (NotesBeginning lane line op ms (Ok now)) (NotesStart lane line op (Ok tt) (ms ∷ [])) (λ h k n. (ms, refl, n.1)) notes,
  );
}

pub start-cut : (r0 r1 : Option (List ℕ)) (t0 t1 : Option History) (lane line : ℕ) (op : Op) (old new : Session) (e : Memory) (ms : ℕ) → ReadsClock r0 r1 ms → Relates t0 t1 (NotesBeginning lane line op ms (Err e))
    → Reads r0 r1 (λ given. Starts lane op old new (Err e) given × Relates t0 t1 (NotesStart lane line op (Err e) given))
start-cut r0 r1 t0 t1 lane line op old new e ms reads notes = record {
  given = ms ∷ [];
  are = reads_one r0 r1 ms reads;
  is = (
    omega arith,
    relates_less t0 t1 (NotesBeginning lane line op ms (Err e)) (NotesStart lane line op (Err e) (ms ∷ [])) (λ h k n. elim n [ inl is ↦ inl is | inr is ↦ inr (ms, refl, is) ]) notes,
  );
}

-- ---- the line that a lane begins

inside : (xs : List ScriptLine) (n : ℕ) (x : ScriptLine) → slice_get xs n ≡ Some x → n < length xs
inside [] n x e = absurd (cc)
inside (y ∷ ys) zero x e = omega arith
inside (y ∷ ys) (suc n) x e = let r = inside ys n x e in omega (arith, r)

-- the place that was found is one of the script
pub found-within : (script : List ScriptLine) (lane place : ℕ) (old mid : List Place) → Seeks script lane old (Some place) mid → place < length script
found-within script lane place old mid seeks = by seeks.found
  where
    by : FoundAt script lane seeks.at (Some place) → place < length script
    by f = let lt = inside script seeks.at f.1.0 f.1.1 in let is = f.0 in omega (arith, lt, is)

pub found-own : (script : List ScriptLine) (lane place : ℕ) (l : ScriptLine) (old mid : List Place) → Seeks script lane old (Some place) mid → slice_get script place ≡ Some l → l.lane ≡ lane
found-own script lane place l old mid seeks there = by seeks.found
  where
    by : FoundAt script lane seeks.at (Some place) → l.lane ≡ lane
    by f =
        let both : Some l ≡ Some f.1.0 = sym there ∙ ap (λ (n : ℕ). slice_get script n) f.0 ∙ f.1.1 in
        let same : l ≡ f.1.0 = cc in
        ap (λ (x : ScriptLine). x.lane) same ∙ f.1.2

pub place-small : (script : List ScriptLine) (place : ℕ) → length script ≤ 16384 → place < length script → place < 2 ^ 64 - 1
place-small script place few lt = omega (arith, few, lt)

-- a lane without a line is idle in the core
pub idle-there : (script : List ScriptLine) (lane place : ℕ) (old : Session) (mid : List Place) → 1 ≤ lane → lane ≤ 16 → IsHeld script old → LineIs lane None old → Seeks script lane old.lanes (Some place) mid
    → IsIdle lane old.core.lanes
idle-there script lane place old mid least most held line_is seeks = subst (λ (n : ℕ). IsIdle n old.core.lanes) (same-lane lane least) (record {
  least = omega arith;
  most = omega (arith, least, most);
  other = held.seated.idle (lane - 1) seeks.before seeks.there (line-of old.lanes lane None seeks.before line_is seeks.there);
})

module _ (script : List ScriptLine) (lane place : ℕ) (l : ScriptLine) (old : Session) (mid : List Place) (least : 1 ≤ lane) (most : lane ≤ 16) (held : IsHeld script old) (line_is : LineIs lane None old)
    (seeks : Seeks script lane old.lanes (Some place) mid) (there : slice_get script place ≡ Some l) where
  abbrev q : Place
  q = record { next = place + 1; line = Some l.line }

  all : slice_set mid (lane - 1) q ≡ slice_set old.lanes (lane - 1) q
  all = ap (λ (t : List Place). slice_set t (lane - 1) q) seeks.is ∙ set-set old.lanes (lane - 1) (record { next = seeks.at; line = seeks.before.line }) q

  -- the lane began the line
  abbrev after : Session → Session
  after s = record s { lanes = slice_set s.lanes (lane - 1) q }

  pub starting-held : length script ≤ 16384 → Fits (machine_of old.mounted lane l.op) → (new : Session) (given : List ℕ) (lanes : List Place) → Starts lane l.op (record old { lanes = mid }) new (Ok tt) given → lanes ≡ slice_set new.lanes (lane - 1) q → IsHeld script (record new { lanes = lanes })
  starting-held few fits new given lanes st is =
      let held_mid : IsHeld script (record old { core = new.core; lanes = slice_set mid (lane - 1) q }) = record {
        live = begun-live script lane l.line place old (machine_of old.mounted lane l.op) st.0 new.core mid held st.2 (slice_set mid (lane - 1) q);
        seated = begun-seated script lane l.line place old (machine_of old.mounted lane l.op) st.0 new.core mid least held line_is seeks st.2;
        status = held.status;
        alive = alive-begins lane l.line l.op old st.0 new.core (slice_set mid (lane - 1) q) q least (idle-there script lane place old mid least most held line_is seeks) (few-begun script old held) fits
            held.live.calls.within st.2 refl all held.alive;
      } in
      subst (λ (ps : List Place). IsHeld script (record new { lanes = ps })) (sym is) (subst (λ (s : Session). IsHeld script (after s)) (sym st.3) held_mid)

  pub starting-less : (new : Session) (given : List ℕ) (lanes : List Place) → Starts lane l.op (record old { lanes = mid }) new (Ok tt) given → lanes ≡ slice_set new.lanes (lane - 1) q → Lessens script old (record new { lanes = lanes })
  starting-less new given lanes st is =
      subst (λ (ps : List Place). Lessens script old (record new { lanes = ps })) (sym is) (subst (λ (s : Session). Lessens script old (after s)) (sym st.3)
      (begun-less script lane l.line place old (machine_of old.mounted lane l.op) st.0 new.core mid held line_is seeks (found-within script lane place old.lanes mid seeks) st.2))

  one-reading : (given : List ℕ) (m n : ℕ) → given ≡ m ∷ [] → given ≡ n ∷ [] → m ≡ n
  one-reading given m n p q = let both : m ∷ [] ≡ n ∷ [] = sym p ∙ q in cc

  starting-on : length script ≤ 16384 → Fits (machine_of old.mounted lane l.op) → (new : Session) (given : List ℕ) (h k : List Entry) → Starts lane l.op (record old { lanes = mid }) new (Ok tt) given
      → NotesStart lane l.line l.op (Ok tt) given h k → (label : List ℕ) → GoesOn label script old (after new) given [] h k
  starting-on few fits new given h k st n label =
      subst (λ (s : Session). GoesOn label script old (after s) given [] h k) (sym st.3)
      (subst (λ (g : List ℕ). GoesOn label script old (record old { core = new.core; lanes = slice_set mid (lane - 1) q }) g [] h k) (sym n.1)
      (started label script h k n.0 lane place l old new.core mid least most line_is seeks there (found-own script lane place l old.lanes mid seeks there)
      (idle-there script lane place old mid least most held line_is seeks) (few-begun script old held) fits
      (subst (λ (ms : ℕ). Begins old.core lane (machine_of old.mounted lane l.op) ms new.core) (one-reading given st.0 n.0 st.1 n.1) st.2) n.2))

  pub starting-goes : length script ≤ 16384 → Fits (machine_of old.mounted lane l.op) → (new : Session) (lanes : List Place) → lanes ≡ slice_set new.lanes (lane - 1) q → (r0 r1 : Option (List ℕ)) (t0 t1 : Option History)
      → Reads r0 r1 (λ given. Starts lane l.op (record old { lanes = mid }) new (Ok tt) given × Relates t0 t1 (NotesStart lane l.line l.op (Ok tt) given))
      → Reads r0 r1 (λ given. Relates t0 t1 (λ h k. (label : List ℕ) → GoesOn label script old (record new { lanes = lanes }) given [] h k))
  starting-goes few fits new lanes is r0 r1 t0 t1 p =
      reads_less r0 r1 t0 t1 (Starts lane l.op (record old { lanes = mid }) new (Ok tt)) (NotesStart lane l.line l.op (Ok tt)) (λ g h k. (label : List ℕ) → GoesOn label script old (record new { lanes = lanes }) g [] h k)
      (λ g h k st n label. subst (λ (ps : List Place). GoesOn label script old (record new { lanes = ps }) g [] h k) (sym is) (starting-on few fits new g h k st n label)) p

  pub starting-cut : (new : Session) (e : Memory) (r0 r1 : Option (List ℕ)) (t0 t1 : Option History)
      → Reads r0 r1 (λ given. Starts lane l.op (record old { lanes = mid }) new (Err e) given × Relates t0 t1 (NotesStart lane l.line l.op (Err e) given))
      → Reads r0 r1 (λ given. Relates t0 t1 (λ h k. (label : List ℕ) → CutsOff label script old halts.Memory given [] h k))
  starting-cut new e r0 r1 t0 t1 p =
      reads_less r0 r1 t0 t1 (Starts lane l.op (record old { lanes = mid }) new (Err e)) (NotesStart lane l.line l.op (Err e)) (λ g h k. (label : List ℕ) → CutsOff label script old halts.Memory g [] h k)
      (λ g h k few n label. unstarted label script h k old new g held.seated.sixteen few n) p

-- no line is left
pub resting-goes : (r : Option (List ℕ)) (t : Option History) (script : List ScriptLine) (lane : ℕ) (old : Session) (mid : List Place) → 1 ≤ lane → Seeks script lane old.lanes None mid
    → Reads r r (λ given. Relates t t (λ h k. (label : List ℕ) → GoesOn label script old (record old { lanes = mid }) given [] h k))
resting-goes r t script lane old mid least seeks = record { given = []; are = reads_same r; is = relates_same t _ (λ h label. rested-on label script h lane old mid least seeks) }
