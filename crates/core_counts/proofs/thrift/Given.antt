-- The step in which a page is given: the read that is under way takes the reply, and keeps the page.
use Rattle.core_counts.proofs.Prelude.{◌≡◌, ◌<◌, ◌≤◌, ◌&&◌, ◌||◌, ◌⊎◌, inl, inr, not, ℕ, Bool, true, false, nat_eq, List, [], ◌∷◌, ◌++◌, length, Option, Some, Result, Ok, refl, sym, ap, subst, ◌∙◌, arith, if◌then◌else◌, eqb-true, cases_lt, nat_tests, Attr, Accepted, Pages, after_page, Pending, Answer, Fault, Entry, Began, Answered, Call, Reply, Op, At, SpellsReply, AnsweredBefore, EndsAt, UnderWay, At-grow, At-below, At-back, Step, Repeat, Turn, Phase, Reading, place_after, part, refusal, said_to, breaks_rule}
use Rattle.std.proofs.Common.{nat_lt}
use Rattle.rpc_message.specs.Reply.{RpcReply, refusal_number, SpellsRefusal}
use Rattle.world_model.specs.Operations.{Ended, answered, unanswered}
use Rattle.file_ops.specs.ReadReply.{Said}
use Rattle.nfs_file_calls.specs.declared.owned.FileKept.TheVariants as kept
use Rattle.rpc_message.specs.declared.reply.ReplyFault.{ReplyFault}
use Rattle.rpc_message.proofs.ReplyLaws.{reply_again}
use Rattle.world_model.specs.declared.answer.Fault.TheVariants as faults
use Rattle.world_model.specs.declared.message.Reply.TheVariants as replies
use Rattle.claims.specs.PageRules.{WrongData, longer, unlike, nothing}
use Rattle.file_ops.specs.declared.reading.Phase.TheVariants as phases
use Rattle.file_ops.specs.Reading as reading
use Rattle.core_session.proofs.current.FedPages.{gone-pages, settled-pages}

-- ---- the part is noted, and then pages are looked at alone

module _ (T : Pages → Type 0) (shows : (file : List ℕ) (index : ℕ) (c : Pages) → T c → T (after_page file index c)) where
  pub part-held : (sent turn : Turn) (came : Result Reply Fault) (r : Reading) (count : ℕ) (attr : Option Attr) (counted : ℕ) (eof : Bool) (given : List ℕ) (repeats : List Repeat) (c : Pages) (back : Pending) (next : Step)
      (new : reading.State) → r.phase ≡ phases.Asked count → came ≡ Ok (replies.File (kept.Read attr counted eof given)) → breaks_rule count counted eof given ≡ false
      → reading.TakesIf (reading.waits_attrs r.phase) sent turn came repeats r c back next new → T (reading.noted attr r.file sent.moment (place_after r.base) given eof c) → T new.pages
  part-held sent turn came r count attr counted eof given repeats c back next new at is fine t had =
      let first : reading.TakesIf false sent turn came repeats r c back next new = subst (λ (b : Bool). reading.TakesIf b sent turn came repeats r c back next new) (ap reading.waits_attrs at) t in
      let then_ : reading.TakesPart (reading.heard (phases.Asked count) came) sent turn repeats r c back next new = subst (λ (p : Phase). reading.TakesPart (reading.heard p came) sent turn repeats r c back next new) at first in
      let said : said_to count came ≡ part attr eof given = ap (said_to count) is ∙ ap (λ (b : Bool). if b then refusal attr (faults.Bad 5) else part attr eof given) fine in
      let to : new ≡ reading.told sent turn (part attr eof given) r c = then_.1 ∙ ap (λ (z : Said). reading.told sent turn z r c) said in
      let noted = reading.noted attr r.file sent.moment (place_after r.base) given eof c in
      let later = reading.added (reading.count_of r.phase) eof given r in
      subst (λ (z : reading.State). T z.pages) (sym to) (gone-pages T shows turn.room (reading.settled later noted) (settled-pages T shows later.phase later noted had))

-- ---- what the reply says

-- a record that is a reply refuses nothing
pub unrefused : (x y number : ℕ) (call : Call) (reply : Reply) (b : List ℕ) → SpellsReply x call reply b → SpellsRefusal y number b → ⊥
unrefused x y number call reply b s r = differ (ap refusal_number (ok_is (Accepted x s.results) r.reply (sym (reply_again (Accepted x s.results) b s.accepted) ∙ reply_again r.reply b r.is)) ∙ r.numbered)
  where
    ok_is : (p q : RpcReply) → ◌≡◌ {A = Result RpcReply ReplyFault} (Ok p) (Ok q) → p ≡ q
    ok_is p q e = cc

    differ : refusal_number (Accepted x s.results) ≡ Some number → ⊥
    differ e = absurd (cc e)

-- data that are right break no rule
pub fine-data : (asked counted : ℕ) (given : List ℕ) (eof : Bool) → (WrongData asked counted given eof → ⊥) → breaks_rule asked counted eof given ≡ false
fine-data asked counted given eof right = by (nat_lt asked (length given)) (nat_eq (length given) counted) (nat_eq (length given) 0) eof refl refl refl refl
  where
    by : (a b z e : Bool) → nat_lt asked (length given) ≡ a → nat_eq (length given) counted ≡ b → nat_eq (length given) 0 ≡ z → eof ≡ e
        → (nat_lt asked (length given) || not (nat_eq (length given) counted) || (nat_eq (length given) 0 && not eof)) ≡ false
    by true b z e la lb lz le = absurd (right (longer (grind (arith, nat_tests))))
    by false false z e la lb lz le = absurd (right (unlike (λ same. let no_way : nat_eq (length given) counted ≡ true = grind (arith, nat_tests) in let off : true ≡ false = sym no_way ∙ lb in cc)))
    by false true false e la lb lz le = rw (la, lb, lz) refl
    by false true true true la lb lz le = rw (la, lb, lz, le) refl
    by false true true false la lb lz le = absurd (right (nothing (none given (eqb-true (length given) 0 lz)) le))
      where
        none : (xs : List ℕ) → length xs ≡ 0 → xs ≡ []
        none [] is = refl
        none (x ∷ xs) is = absurd (omega (arith, is))

-- ---- a longer history

module _ (before rest : List Entry) where
  pub ended-on : (lane x y : ℕ) (op : Op) (answer : Answer) → Ended before lane x op y answer → Ended (before ++ rest) lane x op y answer
  ended-on lane x y op answer e = record {
    line = e.line;
    began = At-grow before rest x (Began lane e.line op) e.began;
    answered = At-grow before rest y (Answered lane e.line answer) e.answered;
    later = e.later;
    first = λ j a there late. by j a there late (cases_lt j (length before));
  }
    where
      by : (j : ℕ) (a : Answer) → At (before ++ rest) j (Answered lane e.line a) → x < j → (j < length before) ⊎ (length before ≤ j) → y ≤ j
      by j a there late (inl low) = e.first j a (At-back before rest j (Answered lane e.line a) there low) late
      by j a there late (inr high) = let within = At-below before y (Answered lane e.line answer) e.answered in omega (arith, within, high)

began-parts : (a b c d : ℕ) (p q : Op) → Began a b p ≡ Began c d q → (a ≡ c) × (b ≡ d)
began-parts a b c d p q e = (cc, cc)

some-entry : (a c : Entry) → Some a ≡ Some c → a ≡ c
some-entry a c e = cc

-- an operation that ends later is under way
pub under-until : (before rest : List Entry) (lane line x end : ℕ) (op : Op) → EndsAt (before ++ rest) x end → length before < end → At before x (Began lane line op) → UnderWay before lane x (length before) op
under-until before rest lane line x end op ends late began = record { line = line; began = began; before = At-below before x (Began lane line op) began; unanswered = λ a. by ends a }
  where
    by : EndsAt (before ++ rest) x end → AnsweredBefore before x (length before) → ⊥
    by (answered its_lane its_op its_answer e) a =
        let mine = ended-on before rest a.lane x a.y a.op a.answer a.ended in
        let same = began-parts its_lane e.line a.lane mine.line its_op a.op (some-entry (Began its_lane e.line its_op) (Began a.lane mine.line a.op) (sym e.began ∙ mine.began)) in
        let there : At (before ++ rest) a.y (Answered its_lane e.line a.answer) = subst (λ (l : ℕ). At (before ++ rest) a.y (Answered l e.line a.answer)) (sym same.0)
        (subst (λ (l : ℕ). At (before ++ rest) a.y (Answered a.lane l a.answer)) (sym same.1) mine.answered) in
        let first = e.first a.y a.answer there mine.later in
        let low = a.before in
        omega (arith, first, low, late)
    by (unanswered none is) a =
        let mine = ended-on before rest a.lane x a.y a.op a.answer a.ended in
        none (record { lane = a.lane; op = a.op; y = a.y; answer = a.answer; ended = mine; before = At-below (before ++ rest) a.y (Answered a.lane mine.line a.answer) mine.answered })
