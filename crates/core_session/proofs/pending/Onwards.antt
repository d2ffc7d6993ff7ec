-- A write or fill that has a good answer, noted or not, isn't refused as the session goes on.
use Rattle.core_session.proofs.Prelude.{◌≡◌, inr, ℕ, List, ◌++◌, Some, slice_get, refl, sym, ap, subst, ◌∙◌, Fault, Value, Entry, Began, Answered, Op, At, RefusedWrite, At-grow, At-one, At-below, Mounted, machine_of, Lane, Over, Setup, View, AreApart, Reaches, lanes-under-way, reached-lanes}
use Rattle.world_model.specs.declared.answer.Answer.TheVariants as answers
use Rattle.world_model.specs.declared.op.Op.TheVariants as ops
use Rattle.claims.specs.Asks as asks
use Rattle.claims.specs.Touched as touched
use Rattle.core_session.proofs.room.Entered.{IsDone, LaneSafe}
use Rattle.core_session.proofs.room.Onward.{Onward, entered-onward}
use Rattle.core_session.proofs.syncs.Causes.{IsWriter, OfOp}
use Rattle.core_session.proofs.syncs.Turning.{IsFixed, ready, gone, fixed-once}

writer-asks : (op : Op) → IsWriter op → asks.IsWriter op
writer-asks (ops.OpenFile slot mode path) w = absurd w
writer-asks (ops.Read slot offset count) w = absurd w
writer-asks (ops.Write slot offset bytes) w = asks.write slot offset bytes refl
writer-asks (ops.Fill slot offset count v) w = asks.fill slot offset count v refl
writer-asks (ops.Truncate slot size) w = absurd w
writer-asks (ops.Sync slot) w = absurd w
writer-asks (ops.Close slot) w = absurd w
writer-asks (ops.Put path offset bytes) w = absurd w
writer-asks (ops.Stat path) w = absurd w
writer-asks (ops.Access path bits) w = absurd w
writer-asks (ops.MakeDir path) w = absurd w
writer-asks (ops.RemoveDir path) w = absurd w
writer-asks (ops.Remove path) w = absurd w
writer-asks (ops.Rename from to) w = absurd w
writer-asks (ops.Link from to) w = absurd w
writer-asks (ops.SymLink path target) w = absurd w
writer-asks (ops.ReadLink path) w = absurd w
writer-asks (ops.List path) w = absurd w

began-same : (a b c d : ℕ) (o p : Op) → Began a b o ≡ Began c d p → (a ≡ c) × (b ≡ d) × (o ≡ p)
began-same a b c d o p e = (cc, cc, cc)

refused-done : (fault : Fault) (value : Value) → answers.Refused fault ≡ answers.Done value → ⊥
refused-done fault value e = cc

some-lane : (a b : Lane) → Some a ≡ Some b → a ≡ b
some-lane a b e = cc

pub refused-not : (H : List Entry) (V : View) (w : ℕ) (value : Value) → IsFixed H V w (answers.Done value) → RefusedWrite H w → ⊥
refused-not H V w value k (touched.write lane slot offset y bytes fault ended) =
    refused-done fault value (fixed-once H V w (answers.Done value) k lane (ops.Write slot offset bytes) y (answers.Refused fault) ended)
refused-not H V w value k (touched.fill lane slot offset count byte y fault ended) =
    refused-done fault value (fixed-once H V w (answers.Done value) k lane (ops.Fill slot offset count byte) y (answers.Refused fault) ended)

module _ (mt : Mounted) (setup : Setup) (H : List Entry) (V : View) (h rest : List Entry) (is : h ++ rest ≡ H) (v : View) (r : Reaches (machine_of mt) setup h v) (on : Onward (machine_of mt) setup h v H V) (w : ℕ)
    (writer : OfOp H w IsWriter) (value : Value) where
  apart : AreApart v.lanes
  apart = (lanes-under-way h v (reached-lanes (machine_of mt) setup h v r)).apart

  later : (lane line : ℕ) (op : Op) → At h w (Began lane line op) → At H w (Began lane line op)
  later lane line op at = subst (λ (k : List Entry). At k w (Began lane line op)) is (At-grow h rest w (Began lane line op) at)

  never : (k : IsFixed h v w (answers.Done value)) (lane line : ℕ) (op : Op) → At h w (Began lane line op)
      → ((at : ℕ) (l : Lane) → slice_get v.lanes at ≡ Some l → LaneSafe h w l) → RefusedWrite H w → ⊥
  never k lane line op at safe =
      (entered-onward (machine_of mt) setup h v H V (w, op) on (record {
        began = (lane, line, at);
        writes = writer-asks op (writer lane line op (later lane line op at));
        unrefused = λ refused. refused-not h v w value k refused;
        safe = safe;
      })).unrefused

  by : (k : IsFixed h v w (answers.Done value)) → RefusedWrite H w → ⊥
  by (ready k n op there u) =
      never (ready k n op there u) n u.line op u.began (λ at l here o under.
      let same : l.number ≡ n = (began-same l.number under.line n u.line o op (At-one h w (Began l.number under.line o) (Began n u.line op) under.began u.began)).0 in
      let place : at ≡ k = apart at k l (record { number = n; state = Over (answers.Done value) }) here there same in
      let is_lane : l ≡ record { number = n; state = Over (answers.Done value) } =
      some-lane l (record { number = n; state = Over (answers.Done value) }) (sym here ∙ ap (slice_get v.lanes) place ∙ there) in
      inr (subst (λ (z : Lane). IsDone z.state) (sym is_lane) tt))
  by (gone lane y op d) =
      never (gone lane y op d) lane d.line op d.began (λ at l here o under.
      absurd (under.unanswered (record { lane = lane; op = op; y = y; answer = answers.Done value; ended = d; before = At-below h y (Answered lane d.line (answers.Done value)) d.answered })))

  pub never-refused : IsFixed h v w (answers.Done value) → RefusedWrite H w → ⊥
  never-refused = by
