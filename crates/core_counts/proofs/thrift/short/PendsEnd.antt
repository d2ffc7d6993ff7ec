-- What an operation did to a byte that was written before it, as another operation begins in the only lane: in the words of the model.
use Rattle.core_counts.proofs.Prelude.{◌≡◌, ◌<◌, ◌++◌, ℕ, false, List, [], ◌∷◌, length, slice_get, Some, None, refl, sym, ap, subst, ◌∙◌, arith, get_or, ◌-◌, true, ◌+◌, Answer, Value, Fault, Entry, Began, Answered, Op, At, AnsweredBefore, EndsAt, Terms, WritesByte, At-grow, At-one, At-below, Mounted, machine_of, Lane, Setup, numbers_of, View, KnowsRoot, Reaches, GoesWith, begins-unbegun, Known, reached-all, AreAsked, slice_get-get_or, PutsTo, covers}
use Rattle.claims.specs.Touched.{Covers}
use Rattle.world_model.specs.declared.answer.Answer.TheVariants as answers
use Rattle.world_model.specs.declared.op.Op.TheVariants as ops
use Rattle.world_model.specs.Leads.{Leads}
use Rattle.world_model.specs.Operations.{Ended, answered as ends_answered}
use Rattle.claims.specs.Touched as touched_by
use Rattle.core_facts.proofs.HeldSlots.{always-later}
use Rattle.core_facts.proofs.Stories.{ended-grow}
use Rattle.core_session.proofs.syncs.Causes.{IsWriter as IsWrite}
use Rattle.core_session.proofs.syncs.Turning.{IsFixed, ready, gone}
use Rattle.write_back.proofs.Keys.{low-of as key-low, high-of as key-high}
use Rattle.core_session.proofs.syncs.PutEnds.{LastNames, last-names-later}
use Rattle.core_counts.proofs.thrift.short.PutsOwn.{Follows, puts-to}
use Rattle.core_counts.proofs.thrift.short.Assembled.{NoLane}
use Rattle.core_counts.proofs.thrift.short.Pends as along
use Rattle.core_counts.proofs.thrift.short.Pends.{bad_came, bad_cut, bad_closed, bad_dropped}
use Rattle.core_counts.proofs.thrift.short.PendsSteps.{by_write, by_put}
use Rattle.core_counts.proofs.thrift.short.PendsWords.{Lost, wrote, cut, closed, put}

began-op : (a b c d : ℕ) (p q : Op) → Began a b p ≡ Began c d q → p ≡ q
began-op a b c d p q e = cc

no-lanes : (ls : List Lane) → ((n : ℕ) (l : Lane) → slice_get ls n ≡ Some l → ⊥) → ls ≡ []
no-lanes [] none = refl
no-lanes (l ∷ ls) none = absurd (none 0 l refl)

module _ (m : Mounted) (terms : Terms) (setup : Setup) (h : List Entry) (V : View) (g : GoesWith m terms setup h V) (roots : KnowsRoot terms.origin h m.root) (asked : AreAsked h) (f : List ℕ)
    (x w s0 : ℕ) (before after : List Entry) (is : h ≡ before ++ after) (there : length before ≡ x) (view : View) (reaches : Reaches (machine_of m) setup before view) (found : view.lost ≡ false) (idle : NoLane view) (late : w < s0)
  where
    known : Known setup before view
    known = reached-all (machine_of m) (begins-unbegun m) setup before view reaches found

    -- what ended before ended so in the whole history
    ended-whole : (lane b y : ℕ) (op : Op) (a : Answer) → Ended before lane b op y a → Ended h lane b op y a
    ended-whole lane b y op a e =
        subst (λ (k : List Entry). Ended k lane b op y a) (sym is) (always-later (λ (k : List Entry). Ended k lane b op y a) (λ k z d. ended-grow k z lane b op y a d) before after e)

    at-whole : (b lane line : ℕ) (op : Op) → At before b (Began lane line op) → At h b (Began lane line op)
    at-whole b lane line op at = subst (λ (k : List Entry). At k b (Began lane line op)) (sym is) (At-grow before after b (Began lane line op) at)

    -- each operation that began before was answered
    answered : (b lane line : ℕ) (op : Op) → At before b (Began lane line op) → AnsweredBefore before b (length before)
    answered b lane line op at = (known.lanes.rest lane none).answered b line op at
      where
        none : (n : ℕ) → slice_get (numbers_of view.lanes) n ≡ Some lane → ⊥
        none n here = absurd (let no_way : None ≡ Some lane = sym (ap (λ (ls : List Lane). slice_get (numbers_of ls) n) (no-lanes view.lanes idle)) ∙ here in cc)

    same-op : (b lane line other its_line : ℕ) (op its_op : Op) → At h b (Began lane line op) → At h b (Began other its_line its_op) → op ≡ its_op
    same-op b lane line other its_line op its_op at its_at = began-op lane line other its_line op its_op (At-one h b (Began lane line op) (Began other its_line its_op) at its_at)

    module _ (i byte n : ℕ) (W0 : Type 0) where
      abbrev Lost_ : Type 0
      Lost_ = along.Lost m terms setup h V g roots asked f i byte n s0 W0 before view

      -- its answer was noted
      fixed-ended : (b : ℕ) (a : Answer) (A : Type 0) → IsFixed before view b a → ((lane y : ℕ) (op : Op) → Ended before lane b op y a → A) → A
      fixed-ended b a A (ready k number op here under) to = absurd (idle k _ here)
      fixed-ended b a A (gone lane y op ended) to = to lane y op ended

      low-of : (lane b y : ℕ) (op : Op) (a : Answer) → Ended before lane b op y a → y < x
      low-of lane b y op a e = let low = At-below before y (Answered lane e.line a) e.answered in omega (arith, low, there)

      by-byte : (b : ℕ) (op : Op) (value : Value) → w < b → IsWrite op → (lane line : ℕ) → At h b (Began lane line op) → (u : ℕ) → WritesByte terms.modes terms.origin h b f i u
          → (its y : ℕ) (o : Op) → Ended before its b o y (answers.Done value) → Lost terms h w x f i
      by-byte b op value later writer lane line began u (touched_by.write slot offset bytes of covers) its y o ended =
          let e = ended-whole its b y o (answers.Done value) ended in
          let same = same-op b its e.line of.lane of.line o (ops.Write slot offset bytes) e.began of.began in
          wrote b y u later (low-of its b y o (answers.Done value) ended)
          (touched_by.write its slot offset bytes value of (subst (λ (p : Op). Ended h its b p y (answers.Done value)) same e) covers)
      by-byte b op value later writer lane line began u (touched_by.fill slot offset count of low high) its y o ended =
          let e = ended-whole its b y o (answers.Done value) ended in
          let same = same-op b its e.line of.lane of.line o (ops.Fill slot offset count u) e.began of.began in
          wrote b y u later (low-of its b y o (answers.Done value) ended)
          (touched_by.fill its slot offset count value of (subst (λ (p : Op). Ended h its b p y (answers.Done value)) same e) low high)
      by-byte b op value later writer lane line began u (touched_by.put l n_ offset e path bytes at ends leads covers) its y o ended =
          absurd (subst IsWrite (same-op b lane line l n_ op (ops.Put path offset bytes) began at) writer)

      -- a put that was refused, and led to the file by its end
      of-refused : (b lane offset y : ℕ) (path : List (List ℕ)) (bytes : List ℕ) (fault : Fault) → y < x → Ended h lane b (ops.Put path offset bytes) y (answers.Refused fault)
          → ((end : ℕ) → EndsAt h b end → Leads terms.origin h end path f) → Lost terms h w x f i
      of-refused b lane offset y path bytes fault early ended leads =
          put lane b offset y path bytes fault early ended (leads y (ends_answered lane (ops.Put path offset bytes) (answers.Refused fault) ended))

      -- one that wrote the file, as it was answered
      puts-whole : (b y offset : ℕ) (bytes : List ℕ) → PutsTo before b y f offset bytes → PutsTo h b y f offset bytes
      puts-whole b y offset bytes to =
          let low = At-below before y (Answered to.lane to.ended.line (answers.Done to.value)) to.ended.answered in
          let names : LastNames before y f = record { call = to.call; names = to.names; last = to.asked } in
          let grown : LastNames h y f = subst (λ (k : List Entry). LastNames k y f) (sym is) (last-names-later before after y f (omega (arith, low)) names) in
          record {
            lane = to.lane;
            path = to.path;
            value = to.value;
            call = grown.call;
            ended = ended-whole to.lane b y (ops.Put to.path offset bytes) (answers.Done to.value) to.ended;
            names = grown.names;
            asked = grown.last;
          }

      covers-of : (offset : ℕ) (bytes : List ℕ) → covers offset (length bytes) i ≡ true → Covers offset bytes i (get_or bytes (i - offset) 0)
      covers-of offset bytes inside =
          let low = key-low offset (offset + length bytes) i inside in
          let high = key-high offset (offset + length bytes) i inside in
          record { k = i - offset; place = omega (arith, low); byte = slice_get-get_or bytes (i - offset) 0 (omega (arith, low, high)) }

      -- and one whose bytes came to the file, and that went on at it
      of-put : (b : ℕ) (op : Op) (lane offset y : ℕ) (path : List (List ℕ)) (bytes : List ℕ) (answer : Answer) → w < b → y < x → op ≡ ops.Put path offset bytes → Ended before lane b (ops.Put path offset bytes) y answer
          → ((end : ℕ) → EndsAt h b end → Leads terms.origin h end path f) → covers offset (length bytes) i ≡ true → Follows f b op before view → Lost terms h w x f i
      of-put b op lane offset y path bytes (answers.Done value) later early same ended leads inside follows =
          wrote b y (get_or bytes (i - offset) 0) later early
          (touched_by.put offset bytes (puts-whole b y offset bytes (puts-to f b op before view lane y path offset bytes value same ended follows)) (covers-of offset bytes inside))
      of-put b op lane offset y path bytes (answers.Refused fault) later early same ended leads inside follows =
          of-refused b lane offset y path bytes fault early (ended-whole lane b y (ops.Put path offset bytes) (answers.Refused fault) ended) leads

      pub in-words : Lost_ → Lost terms h w x f i
      in-words l = by l.bad
        where
          later : w < l.x
          later = let low = l.late in omega (arith, late, low)

          below : l.x < x
          below = let low = At-below before l.x (Began l.lane l.line l.op) l.began in omega (arith, low, there)

          began : At h l.x (Began l.lane l.line l.op)
          began = at-whole l.x l.lane l.line l.op l.began

          by : along.Bad m terms setup h V g roots asked f i byte n s0 W0 before view l.x l.op → Lost terms h w x f i
          by (bad_came (by_write u it writer) done follows) =
              let d = done writer in
              fixed-ended l.x (answers.Done d.0) (Lost terms h w x f i) d.1 (by-byte l.x l.op d.0 later writer l.lane l.line began u it)
          by (bad_came (by_put path offset bytes same leads inside) done follows) =
              let a = answered l.x l.lane l.line l.op l.began in
              let its = same-op l.x a.lane a.ended.line l.lane l.line a.op l.op (at-whole l.x a.lane a.ended.line a.op a.ended.began) began in
              of-put l.x l.op a.lane offset a.y path bytes a.answer later (let early = a.before in omega (arith, early, there)) same (subst (λ (o : Op). Ended before a.lane l.x o a.y a.answer) (its ∙ same) a.ended) leads inside
              (follows path offset bytes same)
          by (bad_cut c) =
              let a = answered l.x l.lane l.line l.op l.began in
              let e = ended-whole a.lane l.x a.y a.op a.answer a.ended in
              let same = same-op l.x a.lane e.line c.of.lane c.of.line a.op (ops.Truncate c.slot c.size) e.began c.of.began in
              cut a.lane l.x c.slot c.size a.y a.answer (let early = a.before in omega (arith, early, there)) c.of (subst (λ (o : Op). Ended h a.lane l.x o a.y a.answer) same e)
          by (bad_closed fault fixed slot same of) =
              fixed-ended l.x (answers.Refused fault) (Lost terms h w x f i) fixed (λ lane y o ended.
              let e = ended-whole lane l.x y o (answers.Refused fault) ended in
              let its = same-op l.x lane e.line of.lane of.line o (ops.Close slot) e.began of.began in
              closed lane l.x slot y fault (low-of lane l.x y o (answers.Refused fault) ended) of (subst (λ (p : Op). Ended h lane l.x p y (answers.Refused fault)) its e))
          by (bad_dropped fault fixed path offset bytes same leads) =
              fixed-ended l.x (answers.Refused fault) (Lost terms h w x f i) fixed (λ lane y o ended.
              let e = ended-whole lane l.x y o (answers.Refused fault) ended in
              let its = same-op l.x lane e.line l.lane l.line o l.op e.began began in
              of-refused l.x lane offset y path bytes fault (low-of lane l.x y o (answers.Refused fault) ended)
              (subst (λ (p : Op). Ended h lane l.x p y (answers.Refused fault)) (its ∙ same) e) leads)
