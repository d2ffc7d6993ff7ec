-- What stands of the newest bytes goes on standing as an answer is noted, and as any entry comes that leaves lanes and shelf as they are; and it holds of a fresh core.
use Rattle.core_session.proofs.Prelude.{◌≡◌, ◌≢◌, ◌≤◌, ◌<◌, ◌⊎◌, inl, inr, ℕ, Bool, true, false, nat_eq, List, [], ◌∷◌, ◌++◌, length, Some, None, slice_get, refl, sym, ap, subst, ◌∙◌, append_assoc, arith, cases_lt, eqb-true, eqb-false, Answer, Entry, Began, Answered, Op, At, Ended, UnderWay, Terms, At-one, At-back, At-below, At-cases, At-grow, length_last, Pending, HasNoPiece, AllUpTo, LaneFile, Shelf, Mounted, Machine, EachSound, nothing-sound, Lane, Busy, Over, Setup, IsFresh, AnswersAt, View, AreApart, IsOpenLine, Known, skip, get-remove, still-there, IsGuarded, IsSaving, CloseFile}
use Rattle.std.specs.Prelude.{remove}
use Rattle.world_model.specs.declared.answer.Answer.TheVariants as answers
use Rattle.write_back.proofs.Numbers.{upto-nothing}
use Rattle.core_session.proofs.drops.KnowingAlong.{IsPlain, NotedBefore}
use Rattle.core_session.proofs.drops.LaneIs.{state-is, busy-over}
use Rattle.core_session.proofs.syncs.Contents.{Common}
use Rattle.core_session.proofs.syncs.Seen.{StateRested, Owned, free, taken}
use Rattle.core_session.proofs.syncs.Turning.{IsFixed, ready, gone, fixed-answers, fixed-same, under-answers-back, under-plain-back}
use Rattle.core_session.specs.drops.Guarded as guarded
use Rattle.std.specs.FinMap as finite
use Rattle.core_session.proofs.pending.Above.{Above}
use Rattle.core_session.proofs.pending.Alone.{UnleftTo}
use Rattle.core_session.proofs.syncs.Aparts.{Apart, Clash, apart-answers, apart-same, clash-not}
use Rattle.core_session.proofs.pending.Newest.{OfNewest, newest-map}
use Rattle.core_session.proofs.pending.Standing.{Marked, wrote, cut, saved, past, PutEnd, settled_, left_, never, IsGiven, Here, Phase}
use Rattle.core_session.proofs.pending.TakesOn.{ended-early, ended-was, none-begins}

-- ---- the lanes, without one that has its answer

one-lane : (a b : Lane) → Some a ≡ Some b → a ≡ b
one-lane a b e = cc

module _ (f : List ℕ) (lanes : List Lane) (at number : ℕ) (answer : Answer) (there : slice_get lanes at ≡ Some (record { number = number; state = Over answer })) (apart : AreApart (remove lanes at)) where
  owned-removed : (q : ℕ) (b : Pending) (o : List LaneFile) → Owned f lanes q b o → Owned f (remove lanes at) q b o
  owned-removed q b o (free none rests) = free none (λ k l here. rests (skip at k) l (get-remove lanes at k l here))
  owned-removed q b o (taken k n m s here holds same way first low rests) = taken stays.0 n m s stays.1 holds same way first low others
    where
      off : k ≢ at
      off e = busy-over m answer (state-is (Busy m) (Over answer) n number (sym (ap (slice_get lanes) (sym e) ∙ here) ∙ there))

      stays : (z : ℕ) × (slice_get (remove lanes at) z ≡ Some (record { number = n; state = Busy m }))
      stays = still-there lanes at k (record { number = n; state = Busy m }) off here

      others : (z : ℕ) (l : Lane) → slice_get (remove lanes at) z ≡ Some l → z ≢ stays.0 → StateRested f q l.state
      others z l is differs = by (nat_eq (skip at z) k) refl
        where
          was : slice_get lanes (skip at z) ≡ Some l
          was = get-remove lanes at z l is

          by : (c : Bool) → nat_eq (skip at z) k ≡ c → StateRested f q l.state
          by true e =
              let one : l ≡ record { number = n; state = Busy m } = one-lane l (record { number = n; state = Busy m }) (sym was ∙ ap (slice_get lanes) (eqb-true (skip at z) k e) ∙ here) in
              absurd (differs (apart z stays.0 l (record { number = n; state = Busy m }) is stays.1 (ap (λ (y : Lane). y.number) one)))
          by false e = rests (skip at z) l was (eqb-false (skip at z) k e)

-- ---- an answer that is noted now was ready

began-same : (a b c d : ℕ) (o p : Op) → Began a b o ≡ Began c d p → (a ≡ c) × (b ≡ d)
began-same a b c d o p e = (cc, cc)

answered-same : (a b c d : ℕ) (o p : Answer) → Answered a b o ≡ Answered c d p → (a ≡ c) × (b ≡ d) × (o ≡ p)
answered-same a b c d o p e = (cc, cc, cc)

some-answer : (a b : Answer) → Some a ≡ Some b → a ≡ b
some-answer a b e = cc

-- until then it was under way
under-until : (h : List Entry) (e : Entry) (lane y z : ℕ) (o : Op) (a : Answer) → z ≡ length h → Ended (h ++ e ∷ []) lane y o z a → UnderWay h lane y (length h) o
under-until h e lane y z o a last d =
    let low : y < length h = let later = d.later in omega (arith, later, last) in
    record {
      line = d.line;
      began = At-back h (e ∷ []) y (Began lane d.line o) d.began low;
      before = low;
      unanswered = λ b.
          let began = At-back h (e ∷ []) y (Began lane d.line o) d.began low in
          let same = began-same b.lane b.ended.line lane d.line b.op o (At-one h y (Began b.lane b.ended.line b.op) (Began lane d.line o) b.ended.began began) in
          let at : At h b.y (Answered lane d.line b.answer) =
          subst (λ (n : ℕ). At h b.y (Answered lane n b.answer)) same.1 (subst (λ (n : ℕ). At h b.y (Answered n b.ended.line b.answer)) same.0 b.ended.answered) in
          let first = d.first b.y b.answer (At-grow h (e ∷ []) b.y (Answered lane d.line b.answer) at) b.ended.later in
          let early = b.before in
          omega (arith, first, early, last);
    }

fixed-was : (h : List Entry) (old new : View) (at lane line : ℕ) (answer : Answer) → AnswersAt old at lane (Some answer) new → (y : ℕ) (a : Answer) → IsFixed (h ++ Answered lane line answer ∷ []) new y a
    → IsFixed h old y a
fixed-was h old new at lane line answer s y a (ready k n o there u) =
    ready (skip at k) n o (get-remove old.lanes at k (record { number = n; state = Over a }) (sym (ap (λ (w : View). slice_get w.lanes k) s.is) ∙ there)) (under-answers-back h lane line answer n y o u)
fixed-was h old new at lane line answer s y a (gone l z o d) = by (At-cases h (Answered lane line answer) z (Answered l d.line a) d.answered)
  where
    by : At h z (Answered l d.line a) ⊎ ((z ≡ length h) × (Answered lane line answer ≡ Answered l d.line a)) → IsFixed h old y a
    by (inl was) = gone l z o (ended-early h (Answered lane line answer) l y z o a (At-below h z (Answered l d.line a) was) d)
    by (inr now) =
        let same = answered-same lane line l d.line answer a now.1 in
        let given : s.answer ≡ a = sym (some-answer answer s.answer s.gives) ∙ same.2 in
        ready at l o (subst (λ (n : ℕ). slice_get old.lanes at ≡ Some (record { number = n; state = Over a })) same.0
        (subst (λ (b : Answer). slice_get old.lanes at ≡ Some (record { number = lane; state = Over b })) given s.there))
        (under-until h (Answered lane line answer) l y z o a now.0 d)

-- what is guarded is so by the lanes and the table
guarded-same : (number : ℕ) (f : List ℕ) (old new : View) → new.lanes ≡ old.lanes → new.shelf ≡ old.shelf → IsGuarded number old f → IsGuarded number new f
guarded-same number f old new lanes shelf = by
  where
    saving-was : (n : ℕ) (c : CloseFile) (u : ℕ) → IsSaving new n c f u → IsSaving old n c f u
    saving-was n c u s = record {
      close = record { at = s.close.at; there = ap (λ (ls : List Lane). slice_get ls s.close.at) (sym lanes) ∙ s.close.there };
      save = s.save;
      is = s.is;
      file_is = s.file_is;
      upto_is = s.upto_is;
    }

    by : IsGuarded number old f → IsGuarded number new f
    by (guarded.slot place of there same all) =
        guarded.slot place of (ap (λ (s : Shelf). finite.get s.opens place) shelf ∙ there) same (λ c upto s e. all c upto (saving-was place.0 c upto s) e)
    by (guarded.past n c removal fault close removes same refused all) =
        guarded.past n c removal fault (record { at = close.at; there = ap (λ (ls : List Lane). slice_get ls close.at) lanes ∙ close.there }) removes same refused (λ l d upto s. all l d upto (saving-was l d upto s))

module _ (mt : Mounted) (terms : Terms) (setup : Setup) (H : List Entry) (f : List ℕ) (i : ℕ) where
  abbrev Phase_ : List Entry → View → Type 0
  Phase_ = Phase mt terms setup H f i

  -- ---- an entry that begins nothing

  module _ (h : List Entry) (e : Entry) (old new : View) (plain : (lane line : ℕ) (op : Op) → e ≡ Began lane line op → ⊥) (shelf : new.shelf ≡ old.shelf)
      (fixed : (x : ℕ) (a : Answer) → IsFixed h old x a → IsFixed (h ++ e ∷ []) new x a) (fixed_was : (x : ℕ) (a : Answer) → IsFixed (h ++ e ∷ []) new x a → IsFixed h old x a)
      (busy_was : (k n x : ℕ) (machine : Machine) (op : Op) → slice_get new.lanes k ≡ Some (record { number = n; state = Busy machine }) → UnderWay (h ++ e ∷ []) n x (length (h ++ e ∷ [])) op
      → (j : ℕ) × (slice_get old.lanes j ≡ Some (record { number = n; state = Busy machine })) × UnderWay h n x (length h) op)
      (own : (q : ℕ) (b : Pending) (o : List LaneFile) → Owned f old.lanes q b o → Owned f new.lanes q b o)
      (apart_on : (x mark : ℕ) → Apart f h old x → PutEnd mt terms setup H f i (h ++ e ∷ []) new x mark) (guards_ : (number : ℕ) → IsGuarded number old f → IsGuarded number new f)
      (unleft_ : (w number : ℕ) → IsGuarded number old f → UnleftTo terms.modes H f (length h) w → UnleftTo terms.modes H f (length (h ++ e ∷ [])) w) (rest : List Entry) (is : h ++ e ∷ rest ≡ H) where
    abbrev more : List Entry
    more = h ++ e ∷ []

    given-on : (u : ℕ → ℕ) (byte number : ℕ) → IsGiven mt terms setup H f i h old u byte number → IsGiven mt terms setup H f i more new u byte number
    given-on u byte number k = record {
      w = k.w;
      began = let began = k.began in let long = length_last h e in omega (arith, began, long);
      writes = k.writes;
      well = λ writer. (let w = k.well writer in (w.0, fixed k.w (answers.Done w.0) w.1));
      late = λ x lane line op at within above before. elim (cases_lt x (length h)) [
        | inl low ↦ k.late x lane line op at low above before
        | inr high ↦ none-begins H h rest e is plain x lane line op at high within
      ];
      guard = λ writer. guards_ number (k.guard writer);
      unleft = λ writer. unleft_ k.w number (k.guard writer) (k.unleft writer);
      saves_ = λ put j n machine op there under. (let b = busy_was j n k.w machine op there under in k.saves_ put b.0 n machine op b.1 b.2);
      unput = λ put value ended. k.unput put value (fixed_was k.w (answers.Done value) ended);
    }

    marked-was : (x : ℕ) → Marked mt terms setup H f i more new x → Marked mt terms setup H f i h old x
    marked-was x (wrote byte value k w b) = wrote byte value (fixed_was x (answers.Done value) k) w b
    marked-was x (cut value k c) = cut value (fixed_was x (answers.Done value) k) c
    marked-was x (saved value k sv) = saved value (fixed_was x (answers.Done value) k) sv
    marked-was x (past k n machine op there u past_ sv) = let b = busy_was k n x machine op there u in past b.0 n machine op b.1 b.2 past_ sv

    put-on : (x mark : ℕ) → PutEnd mt terms setup H f i h old x mark → PutEnd mt terms setup H f i more new x mark
    put-on x mark (settled_ above) = settled_ (subst (λ (s : Shelf). OfNewest (Above f i mark) s.back) (sym shelf) above)
    put-on x mark (left_ a) = apart_on x mark a
    put-on x mark (never none) = never none

    entry : Phase_ h old → Phase_ more new
    entry p = record {
      u = p.u;
      low = λ x. subst (λ (s : Shelf). p.u x ≤ s.seq) (sym shelf) (p.low x);
      common = subst (λ (s : Shelf). Common 0 s.seq s.back) (sym shelf) p.common;
      given = subst (λ (s : Shelf). OfNewest (Here mt terms setup H f i (IsGiven mt terms setup H f i more new p.u)) s.back) (sym shelf)
          (newest-map (Here mt terms setup H f i (IsGiven mt terms setup H f i h old p.u)) (Here mt terms setup H f i (IsGiven mt terms setup H f i more new p.u))
          (λ file place byte number k same here. given-on p.u byte number (k same here)) old.shelf.back p.given);
      marks = λ x m. subst (λ (s : Shelf). OfNewest (Above f i (p.u x)) s.back) (sym shelf) (p.marks x (marked-was x m));
      puts = λ x value k puts. put-on x (p.u x) (p.puts x value (fixed_was x (answers.Done value) k) puts);
      story = λ k n machine x op there u. (let b = busy_was k n x machine op there u in p.story b.0 n machine x op b.1 b.2);
      owned = subst (λ (s : Shelf). Owned f new.lanes s.seq s.back s.order) (sym shelf) (own old.shelf.seq old.shelf.back old.shelf.order p.owned);
    }

  pub answers-phase : (h rest : List Entry) (old new : View) (at lane line : ℕ) (answer : Answer) → h ++ Answered lane line answer ∷ rest ≡ H → Known setup h old → IsOpenLine h lane line
      → AnswersAt old at lane (Some answer) new → AreApart new.lanes → ((number : ℕ) → IsGuarded number old f → IsGuarded number new f)
      → ((w number : ℕ) → IsGuarded number old f → UnleftTo terms.modes H f (length h) w → UnleftTo terms.modes H f (length (h ++ Answered lane line answer ∷ [])) w) → Phase_ h old
      → Phase_ (h ++ Answered lane line answer ∷ []) new
  answers-phase h rest old new at lane line answer is k open_line a apart guards_ unleft_ p =
      entry h (Answered lane line answer) old new (λ n l o same. cc) (ap (λ (v : View). v.shelf) a.is)
      (λ x b g. fixed-answers setup h old new at lane line answer k open_line a x b g) (λ x b g. fixed-was h old new at lane line answer a x b g)
      (λ j n x machine op there u. (
        skip at j,
        get-remove old.lanes at j (record { number = n; state = Busy machine }) (sym (ap (λ (w : View). slice_get w.lanes j) a.is) ∙ there),
        under-answers-back h lane line answer n x op u,
      ))
      (λ q b o g. subst (λ (v : View). Owned f v.lanes q b o) (sym a.is) (owned-removed f old.lanes at lane a.answer a.there (subst (λ (v : View). AreApart v.lanes) a.is apart) q b o g))
      (λ x mark c. noted x mark (apart-answers f h old new at lane line answer k.lanes open_line a x c)) guards_ unleft_ rest is p
    where
      noted : (x mark : ℕ) → Apart f (h ++ Answered lane line answer ∷ []) new x ⊎ Clash f h (Answered lane line answer) x → PutEnd mt terms setup H f i (h ++ Answered lane line answer ∷ []) new x mark
      noted x mark (inl c) = left_ c
      noted x mark (inr c) =
          never (λ l j op a_ ended call names last. clash-not H h rest (Answered lane line answer) (append_assoc h (Answered lane line answer ∷ []) rest ∙ is) f x c l j op a_ ended call names last)

  pub same-phase : (h : List Entry) (e : Entry) (rest : List Entry) (old new : View) → h ++ e ∷ rest ≡ H → IsPlain e → NotedBefore e old → new.lanes ≡ old.lanes → new.shelf ≡ old.shelf
      → ((w number : ℕ) → IsGuarded number old f → UnleftTo terms.modes H f (length h) w → UnleftTo terms.modes H f (length (h ++ e ∷ [])) w) → Phase_ h old → Phase_ (h ++ e ∷ []) new
  same-phase h e rest old new is plain noted lanes shelf unleft_ p =
      entry h e old new plain.begins_ shelf (λ x b g. fixed-same h e old new plain lanes x b g) was
      (λ j n x machine op there u. (j, ap (λ (l : List Lane). slice_get l j) (sym lanes) ∙ there, under-plain-back h e n x op plain u))
      (λ q b o g. subst (λ (l : List Lane). Owned f l q b o) (sym lanes) g) (λ x mark c. left_ (apart-same f h e old new plain noted lanes x c)) (λ number guard. guarded-same number f old new lanes shelf guard) unleft_ rest is p
    where
      was : (x : ℕ) (a : Answer) → IsFixed (h ++ e ∷ []) new x a → IsFixed h old x a
      was x a (ready k n o there u) = ready k n o (ap (λ (l : List Lane). slice_get l k) (sym lanes) ∙ there) (under-plain-back h e n x o plain u)
      was x a (gone l z o d) = gone l z o (ended-was h e (λ n line answer same. plain.answers_ n line answer same) l x z o a d)

  -- ---- a fresh core

  pub fresh-phase : (h : List Entry) (v : View) → IsFresh setup v → Phase_ h v
  fresh-phase h v fresh = record {
    u = λ x. 0;
    low = λ x. omega arith;
    common = record {
      sound = subst EachSound (sym fresh.back) nothing-sound;
      upto = subst (AllUpTo v.shelf.seq) (sym fresh.back) (upto-nothing v.shelf.seq);
      since = omega arith;
    };
    given = subst (OfNewest (Here mt terms setup H f i (IsGiven mt terms setup H f i h v (λ x. 0)))) (sym fresh.back) (record { file = λ file. tt });
    marks = λ x m. subst (OfNewest (Above f i 0)) (sym fresh.back) (record { file = λ file. tt });
    puts = λ x value k puts. settled_ (subst (OfNewest (Above f i 0)) (sym fresh.back) (record { file = λ file. tt }));
    story = λ k number machine x op there u. none k (record { number = number; state = Busy machine }) there;
    owned = free (subst (HasNoPiece f) (sym fresh.back) refl) (λ k l there. none k l there);
  }
    where
      none : {X : Type 0} → (k : ℕ) (l : Lane) → slice_get v.lanes k ≡ Some l → X
      none k l there = absurd (let no_way : None ≡ Some l = ap (λ (lanes : List Lane). slice_get lanes k) (sym fresh.lanes) ∙ there in cc)
