-- Lanes, statuses and readings along a history.
use Rattle.std.proofs.Common.{◌≡◌, ◌≢◌, ◌≤◌, ◌<◌, ◌+◌, ◌-◌, ◌⊎◌, inl, inr, ℕ, zero, suc, List, [], ◌∷◌, ◌++◌, length, take, slice_get, slice_set, nat_eq, Option, Some, None, max, refl, sym, ap, subst, ◌∙◌, arith, append-nil, append_assoc}
use Rattle.std.proofs.lemmas.Bool.{eq-eqb, ne_eqb}
use Rattle.rpc_retry.proofs.Dues.{if_true, if_false}
use Rattle.world_model.specs.declared.answer.Answer.{Answer}
use Rattle.world_model.specs.declared.answer.Answer.TheVariants.{Done, Refused}
use Rattle.world_model.specs.declared.answer.Fault.{Fault}
use Rattle.world_model.specs.declared.answer.Fault.TheVariants as faults
use Rattle.world_model.specs.declared.answer.Value.{Value}
use Rattle.world_model.specs.declared.entry.Entry.{Entry}
use Rattle.world_model.specs.declared.entry.Entry.TheVariants.{Began, Answered, Dialed, Sent, Executed, Foreign, Flushed, Reboot, Delivered, Failed, Clock}
use Rattle.world_model.specs.declared.op.Op.{Op}
use Rattle.world_model.specs.Clocked.{clocks, IsTimed}
use Rattle.world_model.specs.Entries.{At}
use Rattle.world_model.specs.Follows.{begun, marks_of}
use Rattle.world_model.proofs.Places.{At-grow, At-last, At-cases, length_last}
use Rattle.nfs_script.specs.declared.script.ScriptLine.{ScriptLine}
use Rattle.lane_session.specs.Labels.{told_by}
use Rattle.lane_session.specs.declared.lanes.Place.{Place}
use Rattle.lane_session.specs.Going.{AllTimed}
use Rattle.lane_session.specs.Endings.{entries_of}
use Rattle.lane_session.specs.Places.{IsOpen, IsPlaced, IsNext}
use Rattle.lane_session.specs.Running.{marks}
use Rattle.lane_session.specs.Statuses.{after_answer, IsAnswered, HasStatus, lost, refused, well}
use Rattle.lane_session.proofs.LaneLaws.{running-grow, resting-grow}
use Rattle.lane_session.proofs.Pushes.{begun-append}

-- ---- an entry that is no mark

pub silent : (e : Entry) → marks (e ∷ []) ≡ [] → (lane : ℕ) → (marks_of lane (e ∷ []) ≡ []) × (begun lane (e ∷ []) ≡ [])
silent (Began l line op) q lane = absurd cc
silent (Answered l line a) q lane = absurd cc
silent (Clock ms) q lane = absurd cc
silent (Dialed port) q lane = (refl, refl)
silent (Sent bytes) q lane = (refl, refl)
silent (Executed xid call reply) q lane = (refl, refl)
silent (Foreign call reply) q lane = (refl, refl)
silent (Flushed file from len) q lane = (refl, refl)
silent (Reboot verf) q lane = (refl, refl)
silent (Delivered bytes) q lane = (refl, refl)
silent Failed q lane = (refl, refl)

pub no-mark : (e : Entry) → marks (e ∷ []) ≡ [] → ((lane line : ℕ) (a : Answer) → e ≡ Answered lane line a → ⊥) × ((lane line : ℕ) (op : Op) → e ≡ Began lane line op → ⊥)
no-mark e q = (
  (λ lane line a is. let no_way : Answered lane line a ∷ [] ≡ [] = subst (λ (d : Entry). marks (d ∷ []) ≡ []) is q in absurd cc),
  (λ lane line op is. let no_way : Began lane line op ∷ [] ≡ [] = subst (λ (d : Entry). marks (d ∷ []) ≡ []) is q in absurd cc),
)

pub marks-none : (label : List ℕ) (more : List Entry) → marks more ≡ [] → (clocks more ≡ []) × (told_by label more ≡ [])
marks-none label [] q = (refl, refl)
marks-none label (Began l line op ∷ es) q = absurd cc
marks-none label (Answered l line a ∷ es) q = absurd cc
marks-none label (Clock ms ∷ es) q = absurd cc
marks-none label (Dialed port ∷ es) q = marks-none label es q
marks-none label (Sent bytes ∷ es) q = marks-none label es q
marks-none label (Executed xid call reply ∷ es) q = marks-none label es q
marks-none label (Foreign call reply ∷ es) q = marks-none label es q
marks-none label (Flushed file from len ∷ es) q = marks-none label es q
marks-none label (Reboot verf ∷ es) q = marks-none label es q
marks-none label (Delivered bytes ∷ es) q = marks-none label es q
marks-none label (Failed ∷ es) q = marks-none label es q

-- ---- statuses

answered-grow : (h : List Entry) (e : Entry) (a : Answer) → IsAnswered h a → IsAnswered (h ++ e ∷ []) a
answered-grow h e a i = record { at = i.at; lane = i.lane; line = i.line; is = At-grow h (e ∷ []) i.at (Answered i.lane i.line a) i.is }

answered-back : (h : List Entry) (e : Entry) (a : Answer) → ((lane line : ℕ) → e ≡ Answered lane line a → ⊥) → IsAnswered (h ++ e ∷ []) a → IsAnswered h a
answered-back h e a other i = by (At-cases h e i.at (Answered i.lane i.line a) i.is)
  where
    by : At h i.at (Answered i.lane i.line a) ⊎ ((i.at ≡ length h) × (e ≡ Answered i.lane i.line a)) → IsAnswered h a
    by (inl p) = record { at = i.at; lane = i.lane; line = i.line; is = p }
    by (inr q) = absurd (other i.lane i.line q.1)

pub status-quiet : (h : List Entry) (e : Entry) (n : ℕ) → ((fault : Fault) (lane line : ℕ) → e ≡ Answered lane line (Refused fault) → ⊥) → HasStatus h n → HasStatus (h ++ e ∷ []) n
status-quiet h e n other (lost is i) = lost is (answered-grow h e (Refused faults.Lost) i)
status-quiet h e n other (refused is fault i none) = refused is fault (answered-grow h e (Refused fault) i) (λ j. none (answered-back h e (Refused faults.Lost) (other faults.Lost) j))
status-quiet h e n other (well is none) = well is (λ fault j. none fault (answered-back h e (Refused fault) (other fault) j))

here : (h : List Entry) (lane line : ℕ) (a : Answer) → IsAnswered (h ++ Answered lane line a ∷ []) a
here h lane line a = record { at = length h; lane = lane; line = line; is = At-last h (Answered lane line a) }

same-answer : (l m l' m' : ℕ) (a b : Answer) → Answered l m a ≡ Answered l' m' b → a ≡ b
same-answer l m l' m' a b e = cc

done-refused : (value : Value) (fault : Fault) → Done value ≡ Refused fault → ⊥
done-refused value fault e = absurd cc

same-fault : (f g : Fault) → Refused f ≡ Refused g → f ≡ g
same-fault f g e = cc

at-refusal : (h : List Entry) (lane line n : ℕ) (f : Fault) → (f ≡ faults.Lost → ⊥) → HasStatus h n → HasStatus (h ++ Answered lane line (Refused f) ∷ []) (max n 1)
at-refusal h lane line n f other (lost is i) = lost (rw is refl) (answered-grow h (Answered lane line (Refused f)) (Refused faults.Lost) i)
at-refusal h lane line n f other (refused is fault i none) =
    refused (rw is refl) f (here h lane line (Refused f))
    (λ j. none (answered-back h (Answered lane line (Refused f)) (Refused faults.Lost) (λ l m e. other (same-fault f faults.Lost (same-answer lane line l m (Refused f) (Refused faults.Lost) e))) j))
at-refusal h lane line n f other (well is none) =
    refused (rw is refl) f (here h lane line (Refused f))
    (λ j. none faults.Lost (answered-back h (Answered lane line (Refused f)) (Refused faults.Lost) (λ l m e. other (same-fault f faults.Lost (same-answer lane line l m (Refused f) (Refused faults.Lost) e))) j))

pub status-answer : (h : List Entry) (lane line n : ℕ) (a : Answer) → HasStatus h n → HasStatus (h ++ Answered lane line a ∷ []) (after_answer n a)
status-answer h lane line n (Done value) s =
    status-quiet h (Answered lane line (Done value)) n (λ fault l m e. done-refused value fault (same-answer lane line l m (Done value) (Refused fault) e)) s
status-answer h lane line n (Refused faults.Lost) s = lost refl (here h lane line (Refused faults.Lost))
status-answer h lane line n (Refused (faults.Nfs m)) s = at-refusal h lane line n (faults.Nfs m) (λ e. absurd cc) s
status-answer h lane line n (Refused (faults.Rpc m)) s = at-refusal h lane line n (faults.Rpc m) (λ e. absurd cc) s
status-answer h lane line n (Refused (faults.Bad m)) s = at-refusal h lane line n (faults.Bad m) (λ e. absurd cc) s
status-answer h lane line n (Refused faults.Spent) s = at-refusal h lane line n faults.Spent (λ e. absurd cc) s
status-answer h lane line n (Refused faults.Slot) s = at-refusal h lane line n faults.Slot (λ e. absurd cc) s
status-answer h lane line n (Refused faults.Mode) s = at-refusal h lane line n faults.Mode (λ e. absurd cc) s
status-answer h lane line n (Refused faults.Kind) s = at-refusal h lane line n faults.Kind (λ e. absurd cc) s
status-answer h lane line n (Refused faults.Many) s = at-refusal h lane line n faults.Many (λ e. absurd cc) s
status-answer h lane line n (Refused faults.Memory) s = at-refusal h lane line n faults.Memory (λ e. absurd cc) s

-- ---- readings

timed-grow : (h : List Entry) (e : Entry) (x : ℕ) → IsTimed h x → IsTimed (h ++ e ∷ []) x
timed-grow h e x t = record { at = t.at; ms = t.ms; next = t.next; read = At-grow h (e ∷ []) t.at (Clock t.ms) t.read }

pub timed-quiet : (h : List Entry) (e : Entry) → ((lane line : ℕ) (op : Op) → e ≡ Began lane line op → ⊥) → AllTimed h → AllTimed (h ++ e ∷ [])
timed-quiet h e other t x lane line op at = by (At-cases h e x (Began lane line op) at)
  where
    by : At h x (Began lane line op) ⊎ ((x ≡ length h) × (e ≡ Began lane line op)) → IsTimed (h ++ e ∷ []) x
    by (inl p) = timed-grow h e x (t x lane line op p)
    by (inr q) = absurd (other lane line op q.1)

pub timed-begin : (h : List Entry) (ms lane line : ℕ) (op : Op) → AllTimed h → AllTimed ((h ++ Clock ms ∷ []) ++ Began lane line op ∷ [])
timed-begin h ms lane line op t x l m o at = by (At-cases (h ++ Clock ms ∷ []) (Began lane line op) x (Began l m o) at)
  where
    mid : AllTimed (h ++ Clock ms ∷ [])
    mid = timed-quiet h (Clock ms) (λ a b c e. absurd cc) t

    by : At (h ++ Clock ms ∷ []) x (Began l m o) ⊎ ((x ≡ length (h ++ Clock ms ∷ [])) × (Began lane line op ≡ Began l m o)) → IsTimed ((h ++ Clock ms ∷ []) ++ Began lane line op ∷ []) x
    by (inl p) = timed-grow (h ++ Clock ms ∷ []) (Began lane line op) x (mid x l m o p)
    by (inr q) = record {
      at = length h;
      ms = ms;
      next = let is = q.0 in let long = length_last h (Clock ms) in omega (arith, is, long);
      read = At-grow (h ++ Clock ms ∷ []) (Began lane line op ∷ []) (length h) (Clock ms) (At-last h (Clock ms));
    }

-- ---- lists

pub get-set : {A : Type 0} → (xs : List A) (i n : ℕ) (y p : A) → slice_get (slice_set xs i y) n ≡ Some p → ((n ≡ i) × (p ≡ y)) ⊎ ((n ≢ i) × (slice_get xs n ≡ Some p))
get-set [] i n y p there = absurd (cc)
get-set (x ∷ xs) zero zero y p there = inl (refl, cc)
get-set (x ∷ xs) zero (suc n) y p there = inr ((λ e. absurd cc), there)
get-set (x ∷ xs) (suc i) zero y p there = inr ((λ e. absurd cc), there)
get-set (x ∷ xs) (suc i) (suc n) y p there = elim (get-set xs i n y p there) [ inl e ↦ inl (ap suc e.0, e.1) | inr e ↦ inr ((λ same. e.0 (let s = same in omega (arith, s))), e.1) ]

take-next : {A : Type 0} → (xs : List A) (n : ℕ) (x : A) → slice_get xs n ≡ Some x → take (suc n) xs ≡ take n xs ++ x ∷ []
take-next [] n x there = absurd (cc)
take-next (y ∷ ys) zero x there = let is : y ≡ x = cc in ap (λ z. z ∷ []) is
take-next (y ∷ ys) (suc n) x there = ap (λ zs. y ∷ zs) (take-next ys n x there)

take-over : {A : Type 0} → (xs : List A) (n : ℕ) → slice_get xs n ≡ None → take (suc n) xs ≡ take n xs
take-over [] zero there = refl
take-over [] (suc n) there = refl
take-over (y ∷ ys) zero there = absurd (cc)
take-over (y ∷ ys) (suc n) there = ap (λ zs. y ∷ zs) (take-over ys n there)

pub entries-append : (a b : List ScriptLine) → entries_of (a ++ b) ≡ entries_of a ++ entries_of b
entries-append [] b = refl
entries-append (x ∷ a) b = ap (λ (t : List Entry). Began x.lane x.line x.op ∷ t) (entries-append a b)

-- ---- a lane's lines

-- a line of another lane
pub begun-other : (lane other line : ℕ) (op : Op) → other ≢ lane → begun lane (Began other line op ∷ []) ≡ []
begun-other lane other line op differs = if_false (nat_eq other lane) (Began other line op ∷ []) [] (ne_eqb other lane differs)

pub begun-own : (lane line : ℕ) (op : Op) → begun lane (Began lane line op ∷ []) ≡ Began lane line op ∷ []
begun-own lane line op = if_true (nat_eq lane lane) (Began lane line op ∷ []) [] (eq-eqb lane lane refl)

one-more : (script : List ScriptLine) (lane n : ℕ) (l : ScriptLine) → slice_get script n ≡ Some l
    → begun lane (entries_of (take (suc n) script)) ≡ begun lane (entries_of (take n script)) ++ begun lane (Began l.lane l.line l.op ∷ [])
one-more script lane n l there =
    ap (λ (t : List ScriptLine). begun lane (entries_of t)) (take-next script n l there)
    ∙ ap (begun lane) (entries-append (take n script) (l ∷ []))
    ∙ begun-append lane (entries_of (take n script)) (Began l.lane l.line l.op ∷ [])

skip-one : (script : List ScriptLine) (lane n : ℕ) → ((l : ScriptLine) → slice_get script n ≡ Some l → l.lane ≡ lane → ⊥) → begun lane (entries_of (take (suc n) script)) ≡ begun lane (entries_of (take n script))
skip-one script lane n other = by (slice_get script n) refl
  where
    by : (o : Option ScriptLine) → slice_get script n ≡ o → begun lane (entries_of (take (suc n) script)) ≡ begun lane (entries_of (take n script))
    by None e = ap (λ (t : List ScriptLine). begun lane (entries_of t)) (take-over script n e)
    by (Some l) e = one-more script lane n l e ∙ ap (λ (t : List Entry). begun lane (entries_of (take n script)) ++ t) (begun-other lane l.lane l.line l.op (other l e)) ∙ append-nil (begun lane (entries_of (take n script)))

-- lines of other lanes are passed over
skip-all : (script : List ScriptLine) (lane from k : ℕ) → ((n : ℕ) (l : ScriptLine) → slice_get script n ≡ Some l → from ≤ n → n < from + k → l.lane ≡ lane → ⊥)
    → begun lane (entries_of (take (from + k) script)) ≡ begun lane (entries_of (take from script))
skip-all script lane from zero other = let e : from + 0 ≡ from = omega arith in ap (λ (n : ℕ). begun lane (entries_of (take n script))) e
skip-all script lane from (suc k) other =
    let e : from + suc k ≡ suc (from + k) = omega arith in
    ap (λ (n : ℕ). begun lane (entries_of (take n script))) e
    ∙ skip-one script lane (from + k) (λ l there own. other (from + k) l there (omega arith) (omega arith) own)
    ∙ skip-all script lane from k (λ n l there least most own. other n l there least (omega (arith, most)) own)

pub passed-over : (script : List ScriptLine) (lane from at : ℕ) → IsNext script lane from at → begun lane (entries_of (take at script)) ≡ begun lane (entries_of (take from script))
passed-over script lane from at next =
    let after = next.after in
    let e : from + (at - from) ≡ at = omega (arith, after) in
    ap (λ (n : ℕ). begun lane (entries_of (take n script))) (sym e)
    ∙ skip-all script lane from (at - from) (λ n l there least most own. next.others n l there least (omega (arith, most, after)) own)

-- the next line is begun
pub one-begun : (script : List ScriptLine) (lane from at line : ℕ) (op : Op) (l : ScriptLine) → IsNext script lane from at → slice_get script at ≡ Some l → l.lane ≡ lane → l.line ≡ line → l.op ≡ op
    → begun lane (entries_of (take (suc at) script)) ≡ begun lane (entries_of (take from script)) ++ Began lane line op ∷ []
one-begun script lane from at line op l next there own lines ops =
    one-more script lane at l there
    ∙ ap (λ (t : List Entry). t ++ begun lane (Began l.lane l.line l.op ∷ [])) (passed-over script lane from at next)
    ∙ ap (λ (t : List Entry). begun lane (entries_of (take from script)) ++ t) (rw (own, lines, ops) (begun-own lane line op))

-- ---- after scripts that are done

pub begun-after : (done script : List ScriptLine) (lane : ℕ) → begun lane (entries_of (done ++ script)) ≡ begun lane (entries_of done) ++ begun lane (entries_of script)
begun-after done script lane = ap (begun lane) (entries-append done script) ∙ begun-append lane (entries_of done) (entries_of script)

pub passed-after : (done script : List ScriptLine) (lane from at : ℕ) → IsNext script lane from at
    → begun lane (entries_of (done ++ take at script)) ≡ begun lane (entries_of (done ++ take from script))
passed-after done script lane from at next =
    begun-after done (take at script) lane
    ∙ ap (λ (t : List Entry). begun lane (entries_of done) ++ t) (passed-over script lane from at next)
    ∙ sym (begun-after done (take from script) lane)

pub one-after : (done script : List ScriptLine) (lane from at line : ℕ) (op : Op) (l : ScriptLine) → IsNext script lane from at → slice_get script at ≡ Some l → l.lane ≡ lane → l.line ≡ line → l.op ≡ op
    → begun lane (entries_of (done ++ take (suc at) script)) ≡ begun lane (entries_of (done ++ take from script)) ++ Began lane line op ∷ []
one-after done script lane from at line op l next there own lines ops =
    begun-after done (take (suc at) script) lane
    ∙ ap (λ (t : List Entry). begun lane (entries_of done) ++ t) (one-begun script lane from at line op l next there own lines ops)
    ∙ sym (append_assoc (begun lane (entries_of done)) (begun lane (entries_of (take from script))) (Began lane line op ∷ []))
    ∙ ap (λ (t : List Entry). t ++ Began lane line op ∷ []) (sym (begun-after done (take from script) lane))

-- ---- places

open-grow : (h : List Entry) (e : Entry) (lane : ℕ) (line : Option ℕ) → marks_of lane (e ∷ []) ≡ [] → IsOpen h lane line → IsOpen (h ++ e ∷ []) lane line
open-grow h e lane None q r = resting-grow h e lane q r
open-grow h e lane (Some line) q r = running-grow h e lane line q r

pub placed-grow : (done script : List ScriptLine) (h : List Entry) (e : Entry) (lane : ℕ) (p : Place) → marks_of lane (e ∷ []) ≡ [] → begun lane (e ∷ []) ≡ [] → IsPlaced done script h lane p → IsPlaced done script (h ++ e ∷ []) lane p
placed-grow done script h e lane p q b i = record {
  begins = begun-append lane h (e ∷ []) ∙ ap (λ (t : List Entry). begun lane h ++ t) b ∙ append-nil (begun lane h) ∙ i.begins;
  open_line = open-grow h e lane p.line q i.open_line;
}
