-- To which files paths lead in a beginning of a history, and which places operations write there, whatever becomes of them.
use Rattle.std.proofs.Common.{◌≡◌, ◌<◌, ◌≤◌, ◌+◌, inl, inr, ℕ, true, false, true≢false, List, ◌++◌, length, refl, sym, ◌∙◌, ap, subst, arith}
use Rattle.std.specs.Prelude.{nat_le, min}
use Rattle.std.specs.Str.{bytes_eq}
use Rattle.std.proofs.lemmas.Bool.{cases_Bool, ltb-false, leb-true, and_parts, and_from}
use Rattle.std.proofs.lemmas.Slice.Eq.{bytes_eq-Decides}
use Rattle.world_model.specs.declared.entry.Entry.{Entry}
use Rattle.world_model.specs.declared.entry.Entry.TheVariants.{Began, Answered, Delivered}
use Rattle.world_model.specs.declared.message.Call.{Call}
use Rattle.world_model.specs.declared.message.Reply.{Reply}
use Rattle.world_model.specs.declared.op.Op.{Op}
use Rattle.world_model.specs.declared.op.Op.TheVariants as ops
use Rattle.world_model.specs.Entries.{At}
use Rattle.world_model.specs.Heard.{Heard, Asked}
use Rattle.world_model.specs.Leads.{Leads, root, step}
use Rattle.world_model.specs.Mounts.{Origin, Mounting, Given, Rooted}
use Rattle.world_model.specs.Operations.{AnsweredBefore, EndsAt, answered, unanswered}
use Rattle.world_model.proofs.Places.{At-back, At-below, At-grow}
use Rattle.world_model.proofs.Growth.{Waits-back}
use Rattle.claims.specs.Modes.{Modes}
use Rattle.claims.specs.Slots.{IsOf}
use Rattle.claims.specs.Touched as touching
use Rattle.claims.specs.Touched.{WritesByte}
use Rattle.trace_claims.specs.declared.courses.Course.{Course}
use Rattle.trace_claims.specs.declared.courses.Work.{Work}
use Rattle.trace_claims.specs.declared.operations.Operation.{Operation}
use Rattle.trace_claims.specs.Courses.{IsCourse, work_of, ended_before, covers}
use Rattle.trace_claims.specs.Operations.{is_of, leads_by, leads_to, if_writer, writes_to, HasLead, IsOperation}
use Rattle.trace_claims.proofs.Frames.{FirstSent-back, Leads-grow, Leads-wide}
use Rattle.trace_claims.proofs.Telling.{course-work, before-of-beginning, ended-says}
use Rattle.trace_claims.proofs.Owning.{any-there, any-found, of-told, of-shown}
use Rattle.trace_claims.proofs.Writing.{WriterOp, write, fill, puts_it, writer-op, covers-told, covers-shown, within-parts, within-from}

-- ---- what a longer history shows before a place of the shorter one, the shorter one showed

Heard-back : (h more : List Entry) (from to : ℕ) (call : Call) (xid : ℕ) (bytes : List ℕ) → to ≤ length h → Heard (h ++ more) from to call xid bytes → Heard h from to call xid bytes
Heard-back h more from to call xid bytes within d = record {
  sent_at = d.sent_at;
  record_sent = d.record_sent;
  got_at = d.got_at;
  sent = FirstSent-back h more d.sent_at xid d.record_sent (omega (arith, d.later, d.before, within)) d.sent;
  spells = d.spells;
  got = record {
    got = At-back h more d.got_at (Delivered bytes) d.got.got (omega (arith, d.before, within));
    under = d.got.under;
    waits = Waits-back h more xid d.got_at (omega (arith, d.before, within)) d.got.waits;
  };
  after = d.after;
  later = d.later;
  before = d.before;
}

pub Asked-back : (h more : List Entry) (from to : ℕ) (call : Call) (reply : Reply) → to ≤ length h → Asked (h ++ more) from to call reply → Asked h from to call reply
Asked-back h more from to call reply within a = record { xid = a.xid; bytes = a.bytes; heard = Heard-back h more from to call a.xid a.bytes within a.heard; spells = a.spells }

Rooted-back : (origin : Origin) (h more : List Entry) (to : ℕ) (top : List ℕ) → to ≤ length h → Rooted origin (h ++ more) to top → Rooted origin h to top
Rooted-back (Mounting path) h more to top within r = (r.0, Asked-back h more 0 to _ _ within r.1)
Rooted-back (Given given) h more to top within r = r

pub Leads-back : (origin : Origin) (h more : List Entry) (n : ℕ) (path : List (List ℕ)) (f : List ℕ) → n ≤ length h → Leads origin (h ++ more) n path f → Leads origin h n path f
Leads-back origin h more n path f within (root _ _ is rooted) = root path f is (Rooted-back origin h more n f within rooted)
Leads-back origin h more n path f within (step _ earlier _ name d attr dir is leads heard) = step path earlier f name d attr dir is (Leads-back origin h more n earlier d within leads) (Asked-back h more 0 n _ _ within heard)

-- ---- where an operation ends in a beginning

min-first : (a b : ℕ) → a ≤ b → min a b ≡ a
min-first a b le = omega (arith, le)

min-second : (a b : ℕ) → b ≤ a → min a b ≡ b
min-second a b le = omega (arith, le)

-- at its end, or else with the beginning
pub ends-at : (b more : List Entry) (c : Course) → IsCourse (b ++ more) c → EndsAt b c.place (min c.ending.end (length b))
ends-at b more c is = elim (cases_Bool (ended_before c (length b))) [
  | inl t ↦
      let w : AnsweredBefore b c.place (length b) = (before-of-beginning b more c (length b) is (omega arith)).0 t in
      let same : c.ending.end ≡ w.y = (ended-says b more c is w.lane w.op w.y w.answer w.ended).0 in
      let low = w.before in
      subst (λ (n : ℕ). EndsAt b c.place n) (sym (min-first c.ending.end (length b) (omega (arith, same, low))) ∙ refl) (subst (λ (n : ℕ). EndsAt b c.place n) (sym same) (answered w.lane w.op w.answer w.ended))
  | inr f ↦
      let high : length b ≤ c.ending.end = ltb-false c.ending.end (length b) f in
      unanswered (λ w. true≢false (sym ((before-of-beginning b more c (length b) is (omega arith)).1 w) ∙ f)) (min-second c.ending.end (length b) high)
]

-- and nowhere else
pub ends-only : (b more : List Entry) (c : Course) → IsCourse (b ++ more) c → (n : ℕ) → EndsAt b c.place n → n ≡ min c.ending.end (length b)
ends-only b more c is n (answered lane op answer ended) =
    let same : c.ending.end ≡ n = (ended-says b more c is lane op n answer ended).0 in
    let low : n < length b = At-below b n (Answered lane ended.line answer) ended.answered in
    omega (arith, same, low)
ends-only b more c is n (unanswered none at) = elim (cases_Bool (ended_before c (length b))) [
  | inl t ↦ absurd (none ((before-of-beginning b more c (length b) is (omega arith)).0 t))
  | inr f ↦ let high : length b ≤ c.ending.end = ltb-false c.ending.end (length b) f in omega (arith, at, high)
]

-- ---- what an operation writes, whatever becomes of it

-- an operation of the beginning that the tests find writes some byte at the place
pub writes-told : (m : Modes) (origin : Origin) (b more : List Entry) (o : Operation) → IsOperation m origin (b ++ more) o → (f : List ℕ) (i : ℕ) → o.course.place < length b → writes_to o (length b) f ≡ true → covers o.course.work i ≡ true
    → (v : ℕ) × WritesByte m origin b o.course.place f i v
writes-told m origin b more o is f i below t c =
    by (writer-op is.course.op (is_of o f) (leads_to o (length b) f) i (sym (ap (λ (w : Work). if_writer w (is_of o f) (leads_to o (length b) f)) is.course.does) ∙ t) (sym (ap (λ (w : Work). covers w i) is.course.does) ∙ c))
  where
    end : ℕ
    end = min o.course.ending.end (length b)

    began : At b o.course.place (Began o.course.lane is.course.line is.course.op)
    began = At-back b more o.course.place (Began o.course.lane is.course.line is.course.op) is.course.began below

    by : WriterOp is.course.op (is_of o f) (leads_to o (length b) f) i → (v : ℕ) × WritesByte m origin b o.course.place f i v
    by (write slot offset bytes same a inside) =
        let covered = covers-told offset bytes i inside in
        (covered.0, touching.write slot offset bytes (subst (λ (op : Op). IsOf m b o.course.place op f) same (of-told m origin b more o is f below a)) covered.1)
    by (fill slot offset count byte same a inside) =
        let p = within-parts offset count i inside in
        (byte, touching.fill slot offset count (subst (λ (op : Op). IsOf m b o.course.place op f) same (of-told m origin b more o is f below a)) p.0 p.1)
    by (puts_it path offset bytes same n inside) =
        let covered = covers-told offset bytes i inside in
        let lead = any-found (leads_by f end) o.leads.items n in
        let parts = and_parts (bytes_eq lead.1.file f) (nat_le lead.1.since end) lead.3 in
        let since : lead.1.since ≤ end = leb-true lead.1.since end parts.1 in
        let at : At b o.course.place (Began o.course.lane is.course.line (ops.Put path offset bytes)) = subst (λ (op : Op). At b o.course.place (Began o.course.lane is.course.line op)) same began in
        let all = is.leads o.course.lane is.course.line offset path bytes (At-grow b more o.course.place (Began o.course.lane is.course.line (ops.Put path offset bytes)) at) in
        let leads : Leads origin (b ++ more) lead.1.since path f = subst (λ (z : List ℕ). Leads origin (b ++ more) lead.1.since path z) ((bytes_eq-Decides lead.1.file f).0 parts.0) (all.each lead.0 lead.1 lead.2) in (
          covered.0,
          touching.put o.course.lane is.course.line offset end path bytes at (ends-at b more o.course is.course)
              (Leads-back origin b more end path f (omega arith) (Leads-wide origin (b ++ more) lead.1.since end path f since leads)) covered.1,
        )

writes-by : (m : Modes) (origin : Origin) (b more : List Entry) (o : Operation) (is : IsOperation m origin (b ++ more) o) (f : List ℕ) (i lane line : ℕ) (op : Op) → At b o.course.place (Began lane line op)
    → if_writer (work_of op) (is_of o f) (leads_to o (length b) f) ≡ true → covers (work_of op) i ≡ true → (writes_to o (length b) f ≡ true) × (covers o.course.work i ≡ true)
writes-by m origin b more o is f i lane line op at t c =
    let work = course-work (b ++ more) o.course is.course lane line op (At-grow b more o.course.place (Began lane line op) at) in
    (ap (λ (w : Work). if_writer w (is_of o f) (leads_to o (length b) f)) work ∙ t, ap (λ (w : Work). covers w i) work ∙ c)

-- and what is written at a place is written by one that the tests find
pub writes-shown : (m : Modes) (origin : Origin) (b more : List Entry) (o : Operation) → IsOperation m origin (b ++ more) o → (f : List ℕ) (i v : ℕ) → WritesByte m origin b o.course.place f i v
    → (writes_to o (length b) f ≡ true) × (covers o.course.work i ≡ true)
writes-shown m origin b more o is f i v (touching.write slot offset bytes of covered) =
    writes-by m origin b more o is f i of.lane of.line (ops.Write slot offset bytes) of.began (of-shown m origin b more o is (ops.Write slot offset bytes) f of) (covers-shown offset bytes i v covered)
writes-shown m origin b more o is f i v (touching.fill slot offset count of low high) =
    writes-by m origin b more o is f i of.lane of.line (ops.Fill slot offset count v) of.began (of-shown m origin b more o is (ops.Fill slot offset count v) f of) (within-from offset count i low high)
writes-shown m origin b more o is f i v (touching.put lane line offset n path bytes at ends leads covered) =
    let same : n ≡ min o.course.ending.end (length b) = ends-only b more o.course is.course n ends in
    let all = is.leads lane line offset path bytes (At-grow b more o.course.place (Began lane line (ops.Put path offset bytes)) at) in
    let has : HasLead o.leads.items n f = all.every n f (Leads-grow origin b more n path f leads) in
    let late : nat_le has.1.since (min o.course.ending.end (length b)) ≡ true = subst (λ (z : ℕ). nat_le has.1.since z ≡ true) same has.3 in
    writes-by m origin b more o is f i lane line (ops.Put path offset bytes) at
    (any-there (leads_by f (min o.course.ending.end (length b))) o.leads.items has.0 has.1 has.2 (and_from (bytes_eq has.1.file f) (nat_le has.1.since (min o.course.ending.end (length b))) ((bytes_eq-Decides has.1.file f).1 has.4) late))
    (covers-shown offset bytes i v covered)
