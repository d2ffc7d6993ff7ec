-- Each byte of an ok put that was alone was made stable, in a session that is lost later, too: what is ready to be answered stays.
use Rattle.core_session.proofs.Prelude.{◌≡◌, ◌⊎◌, inl, inr, ◌≤◌, ◌^◌, ◌+◌, ◌-◌, ℕ, List, [], ◌∷◌, ◌++◌, length, map, Bool, true, false, Some, None, slice_get, refl, sym, ap, subst, ◌∙◌, arith, slice_index, Answer, Value, Entry, Began, Answered, Dialed, Sent, Executed, Foreign, Flushed, Reboot, Delivered, Failed, Clock, Op, At, Ended, At-back, At-cases, At-grow, At-last, At-below, length_last, Mounted, machine_of, Lane, State, Busy, Over, Setup, lost_lane, BeginsIf, AnswersAt, counted, View, StepsTo, Reaches, begins, goes, loses, last_reading, begins-unbegun, Heard, dropped, replied, sent_now, FailedNow, goes_on, gives_up, failed_now, answered_now, taken_one, get-push, get-remove, skip, AllMadeStable}
use Rattle.client_core.specs.Lanes.{lost_state}
use Rattle.core_facts.proofs.Cases.{heard}
use Rattle.core_facts.proofs.Lists.{in-map}
use Rattle.core_session.specs.saves.PutsWritten.{IsAlone}
use Rattle.core_facts.specs.Resting.{NoneBusy}
use Rattle.core_facts.proofs.Resting.{comes-to-rest, none-moves, own-none, leads-lost, moves-lost, own-lost}
use Rattle.world_model.specs.declared.answer.Answer.TheVariants as answers
use Rattle.world_model.specs.declared.answer.Fault.TheVariants as faults
use Rattle.world_model.specs.declared.op.Op.TheVariants as ops
use Rattle.core_session.proofs.saves.HearingAlong.{reached-hearing}
use Rattle.core_session.proofs.saves.Evidenced.{stable-grow}
use Rattle.core_session.proofs.saves.Lone.{IsOnly, NoneBegan, Told, Joint, keeps-joint}
use Rattle.core_session.proofs.saves.Puts.{only-lane, same-lane, LanesSo, StateSo}

-- ---- one entry more

abbrev IsNoAnswer : Entry → Type 0
IsNoAnswer e = (lane line : ℕ) (answer : Answer) → e ≡ Answered lane line answer → ⊥

abbrev IsNoBegin : Entry → Type 0
IsNoBegin e = (lane line : ℕ) (op : Op) → e ≡ Began lane line op → ⊥

alone-back : (h : List Entry) (e : Entry) (x y : ℕ) → IsAlone (h ++ e ∷ []) x y → IsAlone h x y
alone-back h e x y a i lane line op at low = a i lane line op (At-grow h (e ∷ []) i (Began lane line op) at) low

only-back : (h : List Entry) (e : Entry) (x : ℕ) → IsOnly (h ++ e ∷ []) x → IsOnly h x
only-back h e x a i lane line op at = a i lane line op (At-grow h (e ∷ []) i (Began lane line op) at)

none-back : (h : List Entry) (e : Entry) → NoneBegan (h ++ e ∷ []) → NoneBegan h
none-back h e a i lane line op at = a i lane line op (At-grow h (e ∷ []) i (Began lane line op) at)

began-back : (h : List Entry) (e : Entry) (x lane line : ℕ) (op : Op) → IsNoBegin e → At (h ++ e ∷ []) x (Began lane line op) → At h x (Began lane line op)
began-back h e x lane line op plain at = by (At-cases h e x (Began lane line op) at)
  where
    by : At h x (Began lane line op) ⊎ ((x ≡ length h) × (e ≡ Began lane line op)) → At h x (Began lane line op)
    by (inl was) = was
    by (inr last) = absurd (plain lane line op last.1)

all-grow : (h : List Entry) (e : Entry) (x y end offset : ℕ) (bytes : List ℕ) → y ≤ end → AllMadeStable h x y offset bytes → AllMadeStable (h ++ e ∷ []) x end offset bytes
all-grow h e x y end offset bytes low s = record {
  file = s.file;
  each = λ place inside. stable-grow h (e ∷ []) x y end s.file place (slice_index bytes (place - offset)) low (s.each place inside);
}

told-by : (h : List Entry) (e : Entry) → Told h
    → ((x lane other line line2 : ℕ) (path : List (List ℕ)) (offset : ℕ) (bytes : List ℕ) (value : Value) → e ≡ Answered other line2 (answers.Done value) → At h x (Began lane line (ops.Put path offset bytes))
    → IsOnly h x → AllMadeStable h x (length h) offset bytes)
    → Told (h ++ e ∷ [])
told-by h e told last x y lane other line line2 path offset bytes value began answered later alone = by (At-cases h e y (Answered other line2 (answers.Done value)) answered)
  where
    here : y ≤ length h → At h x (Began lane line (ops.Put path offset bytes))
    here low = At-back h (e ∷ []) x (Began lane line (ops.Put path offset bytes)) began (omega (arith, low, later))

    by : At h y (Answered other line2 (answers.Done value)) ⊎ ((y ≡ length h) × (e ≡ Answered other line2 (answers.Done value))) → AllMadeStable (h ++ e ∷ []) x y offset bytes
    by (inl was) =
        let low : y ≤ length h = (let below = At-below h y (Answered other line2 (answers.Done value)) was in omega (arith, below)) in
        let same : y ≤ y = omega arith in
        all-grow h e x y y offset bytes same (told x y lane other line line2 path offset bytes value (here low) was later (alone-back h e x y alone))
    by (inr new) =
        let low : y ≤ length h = (let is = new.0 in omega (arith, is)) in
        let high : length h ≤ y = (let is = new.0 in omega (arith, is)) in
        let only : IsOnly h x = (λ i l n op at.
        let below = At-below h i (Began l n op) at in
        alone-back h e x y alone i l n op at (omega (arith, below, high))) in
        all-grow h e x (length h) y offset bytes high (last x lane other line line2 path offset bytes value new.1 (here low) only)

told-grow : (h : List Entry) (e : Entry) → IsNoAnswer e → Told h → Told (h ++ e ∷ [])
told-grow h e plain told = told-by h e told (λ x lane other line line2 path offset bytes value is began only. absurd (plain other line2 (answers.Done value) is))

over-state : (lanes : List Lane) (at number : ℕ) (answer : Answer) → lanes ≡ [] → slice_get lanes at ≡ Some (record { number = number; state = Over answer }) → ⊥
over-state lanes at number answer is there = absurd (let no_way : None ≡ Some (record { number = number; state = Over answer }) = ap (λ (ls : List Lane). slice_get ls at) (sym is) ∙ there in cc)

-- an ok put that was alone and waits to be answered has its evidence
abbrev OverSo : List Entry → View → Type 0
OverSo h v = (k number : ℕ) (value : Value) → slice_get v.lanes k ≡ Some (record { number = number; state = Over (answers.Done value) })
    → (x lane line : ℕ) (path : List (List ℕ)) (offset : ℕ) (bytes : List ℕ) → At h x (Began lane line (ops.Put path offset bytes)) → IsOnly h x → AllMadeStable h x (length h) offset bytes

record Late (h : List Entry) (v : View) : Type 0 where
  none : NoneBegan h → v.lanes ≡ []
  over : OverSo h v
  told : Told h

-- ---- one lane's answer

one-answer : (a b : Answer) → Over a ≡ Over b → a ≡ b
one-answer a b e = cc

done-lost : (value : Value) → answers.Done value ≡ answers.Refused faults.Lost → ⊥
done-lost value e = cc

lane-answer : (p q : ℕ) (a b : Answer) → ◌≡◌ {A = Lane} (record { number = p; state = Over a }) (record { number = q; state = Over b }) → a ≡ b
lane-answer p q a b e = one-answer a b (ap (λ (l : Lane). l.state) e)

-- a lane that is ok in a session that is lost now was so before
was-ok : (l : Lane) (number : ℕ) (value : Value) → record { number = number; state = Over (answers.Done value) } ≡ lost_lane l → l ≡ record { number = number; state = Over (answers.Done value) }
was-ok l number value is = by l.state refl
  where
    by : (state : State) → l.state ≡ state → l ≡ record { number = number; state = Over (answers.Done value) }
    by (Busy machine) at = absurd (done-lost value (one-answer (answers.Done value) (answers.Refused faults.Lost) (ap (λ (k : Lane). k.state) is ∙ ap lost_state at)))
    by (Over given) at =
        let same : answers.Done value ≡ given = one-answer (answers.Done value) given (ap (λ (k : Lane). k.state) is ∙ ap lost_state at) in
        ap (λ (s : State). record { number = l.number; state = s }) (at ∙ ap Over (sym same))
        ∙ ap (λ (n : ℕ). record { number = n; state = Over (answers.Done value) }) (sym (ap (λ (k : Lane). k.number) is))

-- the session is lost
late-lost : (h : List Entry) (old new : View) → new.lanes ≡ map lost_lane old.lanes → Late h old → Late h new
late-lost h old new is i = record {
  none = λ unbegun. is ∙ ap (map lost_lane) (i.none unbegun);
  over = λ k number value there x lane line path offset bytes began only.
      let found = in-map lost_lane old.lanes k (record { number = number; state = Over (answers.Done value) }) (ap (λ (ls : List Lane). slice_get ls k) (sym is) ∙ there) in
      i.over k number value (found.1 ∙ ap Some (was-ok found.0 number value found.2)) x lane line path offset bytes began only;
  told = i.told;
}

-- what neither begins nor answers, with the same lanes
late-same : (h : List Entry) (e : Entry) (old new : View) → IsNoBegin e → IsNoAnswer e → new.lanes ≡ old.lanes → Late h old → Late (h ++ e ∷ []) new
late-same h e old new begins_ answers_ is i = record {
  none = λ unbegun. is ∙ i.none (none-back h e unbegun);
  over = λ k number value there x lane line path offset bytes began only.
      all-grow h e x (length h) (length (h ++ e ∷ [])) offset bytes (let more = length_last h e in omega (arith, more))
      (i.over k number value (ap (λ (ls : List Lane). slice_get ls k) (sym is) ∙ there) x lane line path offset bytes
      (began-back h e x lane line (ops.Put path offset bytes) begins_ began) (only-back h e x only));
  told = told-grow h e answers_ i.told;
}

-- an operation begins in a session that is lost
late-begins : (h : List Entry) (old new : View) (lane line : ℕ) (op : Op) → new.lanes ≡ old.lanes ++ record { number = lane; state = Over (answers.Refused faults.Lost) } ∷ [] → Late h old
    → Late (h ++ Began lane line op ∷ []) new
late-begins h old new lane line op is i = record {
  none = λ unbegun. absurd (unbegun (length h) lane line op (At-last h (Began lane line op)));
  over = over;
  told = told-grow h (Began lane line op) (λ a b c e. cc) i.told;
}
  where
    over : OverSo (h ++ Began lane line op ∷ []) new
    over k number value there x n l path offset bytes began only =
        by (get-push old.lanes (record { number = lane; state = Over (answers.Refused faults.Lost) }) k (record { number = number; state = Over (answers.Done value) })
        (ap (λ (ls : List Lane). slice_get ls k) (sym is) ∙ there))
      where
        last : length h ≡ x
        last = only (length h) lane line op (At-last h (Began lane line op))

        unbegun : NoneBegan h
        unbegun j p q c at =
            let below = At-below h j (Began p q c) at in
            let same : j ≡ x = only j p q c (At-grow h (Began lane line op ∷ []) j (Began p q c) at) in
            absurd (omega (arith, below, same, last))

        by : (slice_get old.lanes k ≡ Some (record { number = number; state = Over (answers.Done value) }))
            ⊎ ((k ≡ length old.lanes) × ◌≡◌ {A = Lane} (record { number = number; state = Over (answers.Done value) }) (record { number = lane; state = Over (answers.Refused faults.Lost) }))
            → AllMadeStable (h ++ Began lane line op ∷ []) x (length (h ++ Began lane line op ∷ [])) offset bytes
        by (inl was) = absurd (over-state old.lanes k number (answers.Done value) (i.none unbegun) was)
        by (inr now) = absurd (done-lost value (lane-answer number lane (answers.Done value) (answers.Refused faults.Lost) now.1))

own-answer : (p q : ℕ) (b : Answer) (d e : ℕ) (f : Answer) → Answered p q b ≡ Answered d e f → b ≡ f
own-answer p q b d e f is = cc

some-answer : (b c : Answer) → Some b ≡ Some c → b ≡ c
some-answer b c is = cc

late-answers : (h : List Entry) (old new : View) (at lane line : ℕ) (answer : Answer) → AnswersAt old at lane (Some answer) new → Late h old → Late (h ++ Answered lane line answer ∷ []) new
late-answers h old new at lane line answer a i = record {
  none = λ unbegun. absurd (over-state old.lanes at lane a.answer (i.none (none-back h (Answered lane line answer) unbegun)) a.there);
  over = λ k number value there x n l path offset bytes began only.
      all-grow h (Answered lane line answer) x (length h) (length (h ++ Answered lane line answer ∷ [])) offset bytes (let more = length_last h (Answered lane line answer) in omega (arith, more))
      (i.over (skip at k) number value
      (get-remove old.lanes at k (record { number = number; state = Over (answers.Done value) }) (ap (λ (v : View). slice_get v.lanes k) (sym a.is) ∙ there)) x n l path offset bytes
      (began-back h (Answered lane line answer) x n l (ops.Put path offset bytes) (λ p q c e. cc) began) (only-back h (Answered lane line answer) x only));
  told = told-by h (Answered lane line answer) i.told (λ x n other l line2 path offset bytes value is began only.
      let which : a.answer ≡ answers.Done value = sym (some-answer answer a.answer a.gives) ∙ own-answer lane line answer other line2 (answers.Done value) is in
      i.over at lane value (a.there ∙ ap (λ (b : Answer). Some (record { number = lane; state = Over b })) which) x n l path offset bytes began only);
}

-- as long as it isn't lost
late-found : (setup : Setup) (h : List Entry) (v : View) → Joint setup h v → Late h v
late-found setup h v i = record {
  none = λ unbegun. (i.none unbegun).1;
  over = λ k number value there x lane line path offset bytes began only.
      let lone = i.lone x lane line path offset bytes began only in
      by k number value there x offset bytes lone.0 lone.1;
  told = i.told;
}
  where
    by : (k number : ℕ) (value : Value) → slice_get v.lanes k ≡ Some (record { number = number; state = Over (answers.Done value) }) → (x offset : ℕ) (bytes : List ℕ)
        → (last : offset + length bytes ≤ 2 ^ 63 - 1) → LanesSo x offset bytes last h v → AllMadeStable h x (length h) offset bytes
    by k number value there x offset bytes last (inl empty) = absurd (over-state v.lanes k number (answers.Done value) empty there)
    by k number value there x offset bytes last (inr o) =
        let one = only-lane v.lanes (record { number = o.number; state = o.state }) (record { number = number; state = Over (answers.Done value) }) k o.lanes there in
        let state : o.state ≡ Over (answers.Done value) = (same-lane o.number number o.state (Over (answers.Done value)) one.1).1 in
        let so : StateSo x offset bytes last h v.calls.calls v.shelf.back (Over (answers.Done value)) =
        subst (λ (s : State). StateSo x offset bytes last h v.calls.calls v.shelf.back s) state o.so in
        so

-- ---- into a lost session, and on

module _ (m : Mounted) (setup : Setup) where
  found-late : (h : List Entry) (v : View) → Reaches (machine_of m) setup h v → v.lost ≡ false → Late h v
  found-late h v r found = late-found setup h v (reached-hearing (machine_of m) (begins-unbegun m) setup (Joint setup) (keeps-joint m setup) h v r found)

  begins-lost : (b : Bool) (h : List Entry) (old new : View) (lane line : ℕ) (op : Op) → old.lost ≡ b → new.lost ≡ true → BeginsIf b old lane (machine_of m lane op) (last_reading 0 h) new
      → Late h old → Late (h ++ Began lane line op ∷ []) new
  begins-lost true h old new lane line op was lost is i = late-begins h old new lane line op (ap (λ (v : View). v.lanes) is) i
  begins-lost false h old new lane line op was lost b i = absurd (
      let first : b.first.lost ≡ old.lost =
      leads-lost (record (counted old (last_reading 0 h)) { lanes = old.lanes ++ record { number = lane; state = Busy b.own.after } ∷ []; shelf = b.own.shelf }) (length old.lanes) lane b.own.after b.own.next b.first
      b.own.leads in
      let no_way : true ≡ false = sym lost ∙ moves-lost b.first new b.rest ∙ first ∙ was in cc)

  lanes-of : (old new : View) → new ≡ old → new.lanes ≡ old.lanes
  lanes-of old new is = ap (λ (v : View). v.lanes) is

  heard-late : (h : List Entry) (old : View) (rec : List ℕ) (new : View) → new.lost ≡ true → Reaches (machine_of m) setup h old → Heard old rec new → Late h old → Late (h ++ Delivered rec ∷ []) new
  heard-late h old rec new lost r (dropped none is) i = late-same h (Delivered rec) old new (λ a b c e. cc) (λ a b c e. cc) (lanes-of old new is) i
  heard-late h old rec new lost r (replied xid call named waits f) i =
      let was : old.lost ≡ true = sym (own-lost (taken_one old xid) rec call.purpose f.first f.own) ∙ sym (moves-lost f.first new f.rest) ∙ lost in
      let none : NoneBusy old = (comes-to-rest (machine_of m) setup h old r).over was in
      let first : f.first ≡ taken_one old xid = own-none (taken_one old xid) rec call.purpose f.first none f.own in
      let none-first : NoneBusy f.first = subst NoneBusy (sym first) none in
      let is : new ≡ taken_one old xid = none-moves f.first new f.rest none-first ∙ first in
      late-same h (Delivered rec) old new (λ a b c e. cc) (λ a b c e. cc) (ap (λ (v : View). v.lanes) is) i

  failed-late : (h : List Entry) (old new : View) → FailedNow old new → Late h old → Late (h ++ Failed ∷ []) new
  failed-late h old new (goes_on none is) i = late-same h Failed old new (λ a b c e. cc) (λ a b c e. cc) (ap (λ (v : View). v.lanes) is) i
  failed-late h old new (gives_up xid up is) i =
      late-lost (h ++ Failed ∷ []) old new (ap (λ (v : View). v.lanes) is) (late-same h Failed old old (λ a b c e. cc) (λ a b c e. cc) refl i)

  late-step : (h : List Entry) (old : View) (e : Entry) (new : View) → StepsTo (machine_of m) h old e new → Reaches (machine_of m) setup h old → new.lost ≡ true → Late h old → Late (h ++ e ∷ []) new
  late-step h old (Began lane line op) new t r lost i = begins-lost old.lost h old new lane line op refl lost t.step i
  late-step h old (Answered lane line answer) new t r lost i = let n = answered_now old lane answer new t.answers in late-answers h old new n.at lane line answer n.is i
  late-step h old (Sent bytes) new t r lost i =
      let n = sent_now old bytes new t in
      late-same h (Sent bytes) old new (λ a b c e. cc) (λ a b c e. cc) (ap (λ (v : View). v.lanes) n.is) i
  late-step h old (Delivered bytes) new t r lost i = heard-late h old bytes new lost r (heard old bytes t.result new t.hears) i
  late-step h old Failed new (inl t) r lost i = failed-late h old new (failed_now old t.0 new t.1) i
  late-step h old Failed new (inr t) r lost i = late-same h Failed old new (λ a b c e. cc) (λ a b c e. cc) (lanes-of old new t) i
  late-step h old (Dialed port) new t r lost i = late-same h (Dialed port) old new (λ a b c e. cc) (λ a b c e. cc) (lanes-of old new t) i
  late-step h old (Executed xid call reply) new t r lost i = late-same h (Executed xid call reply) old new (λ a b c e. cc) (λ a b c e. cc) (lanes-of old new t) i
  late-step h old (Foreign call reply) new t r lost i = late-same h (Foreign call reply) old new (λ a b c e. cc) (λ a b c e. cc) (lanes-of old new t) i
  late-step h old (Flushed file from len) new t r lost i = late-same h (Flushed file from len) old new (λ a b c e. cc) (λ a b c e. cc) (lanes-of old new t) i
  late-step h old (Reboot verf) new t r lost i = late-same h (Reboot verf) old new (λ a b c e. cc) (λ a b c e. cc) (lanes-of old new t) i
  late-step h old (Clock ms) new t r lost i = late-same h (Clock ms) old new (λ a b c e. cc) (λ a b c e. cc) (lanes-of old new t) i

  either : (h : List Entry) (v : View) → Reaches (machine_of m) setup h v → (v.lost ≡ true → Late h v) → Late h v
  either h v r once_lost = by v.lost refl
    where
      by : (b : Bool) → v.lost ≡ b → Late h v
      by true is = once_lost is
      by false is = found-late h v r is

  once-lost : (h : List Entry) (v : View) → Reaches (machine_of m) setup h v → v.lost ≡ true → Late h v
  once-lost _ _ (begins h v may up fresh) lost = absurd (let no_way : true ≡ false = sym lost ∙ fresh.lost in cc)
  once-lost _ _ (goes h before v b e r is t) lost =
      subst (λ (k : List Entry). Late k v) (sym is) (late-step before b e v t r lost (either before b r (λ was. once-lost before b r was)))
  once-lost _ _ (loses h v b r shown is) lost = late-lost h b v (ap (λ (w : View). w.lanes) is) (either h b r (λ was. once-lost h b r was))

-- each byte of an ok put that was alone was made stable, in any session
pub all-written : (m : Mounted) (setup : Setup) (h : List Entry) (v : View) → Reaches (machine_of m) setup h v
    → (lane x y : ℕ) (path : List (List ℕ)) (offset : ℕ) (bytes : List ℕ) (value : Value) → Ended h lane x (ops.Put path offset bytes) y (answers.Done value)
    → IsAlone h x y → AllMadeStable h x y offset bytes
all-written m setup h v r lane x y path offset bytes value ended alone =
    let i = either m setup h v r (once-lost m setup h v r) in
    i.told x y lane lane ended.line ended.line path offset bytes value ended.began ended.answered ended.later alone
