-- The bytes of a put that went well by itself stay: its evidence stands in the history, and WRITEs of their places have them.
use Rattle.core_session.proofs.Prelude.{◌≡◌, ◌<◌, ◌≤◌, ◌+◌, ◌-◌, ◌⊎◌, inl, inr, ◌==◌, ℕ, suc, Bool, List, [], ◌∷◌, length, Some, None, slice_get, refl, sym, ap, subst, ◌∙◌, arith, if◌then◌else◌, cases_lt, eqb-true, eqb-false, le-ltb, Entry, Began, Sent, Op, NoneBegan, At, SpellsCall, Terms, At-one, WroteAt, Evidence, Mounted, Setup, View, GoesWith, MadeStable, AllMadeStable, byte_from, byte_by}
use Rattle.std.proofs.lemmas.Bool.{cases_Bool}
use Rattle.nfs_file_calls.specs.declared.call.FileCall.TheVariants as files
use Rattle.world_model.specs.declared.answer.Answer.TheVariants.{Done}
use Rattle.world_model.specs.declared.message.Call.TheVariants as calls
use Rattle.world_model.specs.declared.op.Op.TheVariants as ops
use Rattle.claims.specs.Touched.{Covers}
use Rattle.core_session.specs.settled.Lone.{IsGiven, NoOther, LonePutsStay}
use Rattle.core_session.proofs.settled.Converted.{to-evidence}
use Rattle.core_session.proofs.settled.Given.{writes-given, covers-true, covers-index}
use Rattle.core_session.proofs.settled.Joined.{BeganOther, saved-stays}
use Rattle.core_session.proofs.settled.LostLone.{all-written}
use Rattle.core_session.proofs.settled.PutLeads.{write-leads}

-- ---- one byte

some-number : (a b : ℕ) → Some a ≡ Some b → a ≡ b
some-number a b e = cc

-- the byte that a put gives to a place that it covers
put-byte : (offset : ℕ) (bytes : List ℕ) (i v b : ℕ) → Covers offset bytes i v → byte_from offset bytes i ≡ Some b → b ≡ v
put-byte offset bytes i v b c gives =
    let place = c.place in
    let number : i - offset ≡ c.k = omega (arith, place) in
    let at : byte_from offset bytes i ≡ slice_get bytes (i - offset) = ap (λ (z : Bool). if z then None else slice_get bytes (i - offset)) (le-ltb i offset (omega (arith, place))) in
    some-number b v (sym gives ∙ at ∙ ap (slice_get bytes) number ∙ c.byte)

same-op : (a b c d : ℕ) (p q : Op) → Began a b p ≡ Began c d q → p ≡ q
same-op a b c d p q e = cc

same-or-not : (a b : ℕ) → (a ≡ b) ⊎ (a ≡ b → ⊥)
same-or-not a b = elim (cases_Bool (a == b)) [ inl e ↦ inl (eqb-true a b e) | inr e ↦ inr (eqb-false a b e) ]

-- ---- evidence from the beginning of the operation on is from after it

past-began : (h : List Entry) (x to : ℕ) (f : List ℕ) (i v lane line : ℕ) (op : Op) → At h x (Began lane line op) → Evidence h x to f i v → Evidence h (suc x) to f i v
past-began h x to f i v lane line op began e = record { middle = e.middle; firm = e.firm; verf = e.verf; by = e.by; wrote = wrote; made = e.made }
  where
    later : (s : ℕ) (bytes : List ℕ) → At h s (Sent bytes) → x ≤ s → suc x ≤ s
    later s bytes sent low = elim (cases_lt x s) [
      | inl lt ↦ omega (arith, lt)
      | inr ge ↦
          let is : s ≡ x = omega (arith, low, ge) in
          let same = At-one h x (Began lane line op) (Sent bytes) began (subst (λ (n : ℕ). At h n (Sent bytes)) is sent) in
          absurd (cc same)
    ]

    wrote : WroteAt h (suc x) e.middle f i v e.firm e.verf
    wrote = record {
      offset = e.wrote.offset;
      how = e.wrote.how;
      bytes = e.wrote.bytes;
      wcc = e.wrote.wcc;
      count = e.wrote.count;
      asked = record {
        xid = e.wrote.asked.xid;
        bytes = e.wrote.asked.bytes;
        heard = record {
          sent_at = e.wrote.asked.heard.sent_at;
          record_sent = e.wrote.asked.heard.record_sent;
          got_at = e.wrote.asked.heard.got_at;
          sent = e.wrote.asked.heard.sent;
          spells = e.wrote.asked.heard.spells;
          got = e.wrote.asked.heard.got;
          after = later e.wrote.asked.heard.sent_at e.wrote.asked.heard.record_sent e.wrote.asked.heard.sent.sent e.wrote.asked.heard.after;
          later = e.wrote.asked.heard.later;
          before = e.wrote.asked.heard.before;
        };
        spells = e.wrote.asked.spells;
      };
      covers = e.wrote.covers;
      reached = e.wrote.reached;
    }

-- ---- WRITEs of the place have the byte

module _ (m : Mounted) (terms : Terms) (setup : Setup) (h : List Entry) (view : View) (g : GoesWith m terms setup h view) where
  alike : (lane line x offset : ℕ) (path : List (List ℕ)) (bytes : List ℕ) → At h x (Began lane line (ops.Put path offset bytes)) → (i v p : ℕ) (f : List ℕ) → Covers offset bytes i v
      → NoOther terms.modes h x p f i → (s xid : ℕ) (sent : List ℕ) (start how k b : ℕ) (its : List ℕ) → At h s (Sent sent) → SpellsCall xid (calls.File (files.Write f start how its)) sent
      → suc x ≤ s → s < p → i ≡ start + k → slice_get its k ≡ Some b → b ≡ v
  alike lane line x offset path bytes began i v p f c none s xid sent start how k b its at spells low high place has =
      by (writes-given m terms setup h view g s xid sent f start how its at spells i b (record { k = k; place = place; byte = has }))
    where
      by : NoneBegan h s ⊎ IsGiven terms.modes h s f i b → b ≡ v
      by (inl idle) = absurd (idle x lane line (ops.Put path offset bytes) began (omega (arith, low)))
      by (inr w) = elim (same-or-not w.x x) [
        | inr other ↦ let early = w.before in absurd (none.gives w.x w.lane w.line b w.op w.began other (omega (arith, early, high)) w.gives w.file)
        | inl same ↦
            let op : w.op ≡ ops.Put path offset bytes =
            same-op w.lane w.line lane line w.op (ops.Put path offset bytes) (At-one h x (Began w.lane w.line w.op) (Began lane line (ops.Put path offset bytes))
            (subst (λ (n : ℕ). At h n (Began w.lane w.line w.op)) same w.began) began) in
            put-byte offset bytes i v b c (ap (λ (o : Op). byte_by o i) (sym op) ∙ w.gives)
      ]

pub lone-puts-stay : LonePutsStay
lone-puts-stay m terms setup t view g known setting lawful once lane x y path offset bytes value ended lone = record {
  file = stable.file;
  led = λ named some.
      let first = first-byte bytes some in
      let c : Covers offset bytes offset first.0 = record { k = 0; place = omega arith; byte = first.1 } in
      let e = past-began t.entries x y stable.file offset first.0 lane ended.line (ops.Put path offset bytes) ended.began (evidence offset first.0 c) in
      let h = e.wrote.asked.heard in
      let low = h.after in
      let later = h.later in
      let came = h.before in
      let by = e.by in
      write-leads terms t.entries lane ended.line x y offset e.wrote.how e.wrote.offset path bytes e.wrote.bytes stable.file (Done value) ended.began ended lone m setup view g.reaches known named
      h.sent_at e.wrote.asked.xid h.record_sent h.sent.sent h.spells (omega (arith, low)) (omega (arith, later, came, by));
  each = λ i v p c late within none unforeign.
      let e = evidence i v c in
      saved-stays m terms setup t view g setting lawful once x stable.file i v other p within (λ z apart early unanswered cuts. none.cuts z apart early cuts) unforeign y (omega (arith, late)) (record {
        from = suc x;
        after = omega arith;
        evidence = past-began t.entries x y stable.file i v lane ended.line (ops.Put path offset bytes) ended.began e;
        alike = alike m terms setup t.entries view g lane ended.line x offset path bytes ended.began i v p stable.file c none;
      });
}
  where
    stable : AllMadeStable t.entries x y offset bytes
    stable = all-written m setup t.entries view g.reaches lane x y path offset bytes value ended lone

    evidence : (i v : ℕ) → Covers offset bytes i v → Evidence t.entries x y stable.file i v
    evidence i v c =
        to-evidence t.entries x y stable.file i v (subst (λ (b : ℕ). MadeStable t.entries x y stable.file i b) (covers-index offset bytes i v c) (stable.each i (covers-true offset bytes i v c)))

    first-byte : (xs : List ℕ) → 1 ≤ length xs → (b : ℕ) × (slice_get xs 0 ≡ Some b)
    first-byte [] none = absurd (omega (arith, none))
    first-byte (b ∷ xs) none = (b, refl)

    other : BeganOther t.entries x
    other its_lane its_line slot size at =
        let same = At-one t.entries x (Began lane ended.line (ops.Put path offset bytes)) (Began its_lane its_line (ops.Truncate slot size)) ended.began at in absurd (cc same)
