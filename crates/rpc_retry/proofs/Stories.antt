-- What becomes of each xid, by what was done.
use Rattle.std.proofs.Common.{◌≡◌, ◌≢◌, ◌+◌, ◌<◌, ◌≤◌, ◌⊎◌, inl, inr, ℕ, suc, List, [], ◌∷◌, length, Bool, true, false, nat_eq, nat_lt, option_map, Some, None, refl, sym, ap, ◌∙◌, subst, arith}
use Rattle.std.proofs.lemmas.Bool.{eqb-false, ltb-false}
use borrow.Author.Tests.{eqb-true, ltb-true}
use Rattle.rpc_retry.specs.declared.waiting.Waiting.{Waiting}
use Rattle.rpc_retry.specs.Held.{Held, next_xid, KeepsSettings}
use Rattle.rpc_retry.specs.Sound.{IsSound}
use Rattle.rpc_retry.specs.Waiting.{made_call, waiting_at, without, sent_call, failed, failed_call, first_given_up}
use Rattle.rpc_retry.specs.Fail.{after_failure, failed_after}
use Rattle.rpc_retry.specs.Runs.{Done, Making, Sending, Taking, Failing, DoesMake, DoesSend, DoesTake, DoesFail, Does, Runs, made_records, sent_records, times_taken, AreAll, Went, Story, unmade, waits, taken}
use Rattle.rpc_retry.proofs.Dues.{if_true, if_false}
use Rattle.rpc_retry.proofs.Records.{waits_late, gone}
use Rattle.rpc_retry.proofs.Lookups.{waits_early, at_made, others_made, SentAt, at_sent, others_sent, others_taken, all_failed}

-- what is done to another xid leaves this one's records
pub went_same : (ds es : List Done) (xid : ℕ) (bytes : List ℕ) (attempts replies : ℕ) → made_records xid es ≡ made_records xid ds → sent_records xid es ≡ sent_records xid ds → times_taken xid es ≡ times_taken xid ds
    → Went ds xid bytes attempts replies → Went es xid bytes attempts replies
went_same ds es xid bytes attempts replies m s t w =
    record { made = m ∙ w.made; same = subst (AreAll bytes) (sym s) w.same; sent = ap length s ∙ w.sent; taken = t ∙ w.taken }

module _ {P : Type 0} where
  -- the xid isn't made yet, or never
  abbrev IsUnmade : Held P → ℕ → Type 0
  IsUnmade h xid = (xid < h.first_xid) ⊎ (next_xid h ≤ xid)

  pub carry : (ds es : List Done) (old new : Held P) (xid : ℕ) → made_records xid es ≡ made_records xid ds → sent_records xid es ≡ sent_records xid ds → times_taken xid es ≡ times_taken xid ds
      → waiting_at xid new.calls ≡ waiting_at xid old.calls → (IsUnmade old xid → IsUnmade new xid) → next_xid old ≤ next_xid new → Story ds old xid → Story es new xid
  carry ds es old new xid m s t w u n (unmade a b c d) = unmade (u a) (m ∙ b) (s ∙ c) (t ∙ d)
  carry ds es old new xid m s t w u n (waits call at went) = waits call (w ∙ at) (went_same ds es xid call.bytes call.attempts 0 m s t went)
  carry ds es old new xid m s t w u n (taken bytes attempts before none went) = taken bytes attempts (omega arith) (w ∙ none) (went_same ds es xid bytes attempts 1 m s t went)

  -- an xid that waits was made
  pub not_unmade : (h : Held P) (xid : ℕ) (call : Waiting P) → IsSound h → waiting_at xid h.calls ≡ Some call → IsUnmade h xid → ⊥
  not_unmade h xid call s w (inl before) = let late : h.first_xid ≤ xid = waits_late h.cred h.first_xid (next_xid h) xid h.calls call s.each w in omega arith
  not_unmade h xid call s w (inr after) = let early : xid < next_xid h = waits_early h.cred h.first_xid (next_xid h) xid h.calls call s.each w in omega arith

  -- where no call is made the next xid stays
  pub next_stays : (old new : Held P) → KeepsSettings old new → new.made ≡ old.made → next_xid new ≡ next_xid old
  next_stays old new s m = let first : new.first_xid ≡ old.first_xid = s.first_xid in omega arith

  pub unmade_stays : (old new : Held P) (xid : ℕ) → KeepsSettings old new → new.made ≡ old.made → IsUnmade old xid → IsUnmade new xid
  unmade_stays old new xid s m (inl before) = let first : new.first_xid ≡ old.first_xid = s.first_xid in inl (omega arith)
  unmade_stays old new xid s m (inr after) = let next : next_xid new ≡ next_xid old = next_stays old new s m in inr (omega arith)

  -- a call is made
  pub made_now : (ds : List Done) (old new : Held P) (xid other : ℕ) (bytes : List ℕ) → IsSound old → DoesMake old other bytes new → nat_eq xid other ≡ true → Story ds old xid → Story (Making other bytes ∷ ds) new xid
  made_now ds old new xid other bytes s does d (unmade a m r t) =
      let same : xid ≡ other = eqb-true xid other d in
      let call = made_call bytes does.purpose in
      waits call (ap (waiting_at xid) does.calls ∙ at_made old.cred old.first_xid (next_xid old) xid other old.calls call s.each (same ∙ does.next) does.next)
      (record {
        made = if_true (nat_eq xid other) (bytes ∷ made_records xid ds) (made_records xid ds) d ∙ ap (λ l. bytes ∷ l) m;
        same = subst (AreAll bytes) (sym r) tt;
        sent = ap length r;
        taken = t;
      })
  made_now ds old new xid other bytes s does d (waits call at went) =
      let same : xid ≡ other = eqb-true xid other d in
      let next : other ≡ next_xid old = does.next in
      let early : xid < next_xid old = waits_early old.cred old.first_xid (next_xid old) xid old.calls call s.each at in
      absurd (omega arith)
  made_now ds old new xid other bytes s does d (taken record_of attempts before none went) =
      let same : xid ≡ other = eqb-true xid other d in
      let next : other ≡ next_xid old = does.next in
      absurd (omega arith)

  pub made_other : (ds : List Done) (old new : Held P) (xid other : ℕ) (bytes : List ℕ) → DoesMake old other bytes new → nat_eq xid other ≡ false → Story ds old xid → Story (Making other bytes ∷ ds) new xid
  made_other ds old new xid other bytes does d story =
      let first : new.first_xid ≡ old.first_xid = does.settings.first_xid in
      let more : new.made ≡ old.made + 1 = does.made in
      let next : other ≡ next_xid old = does.next in
      let differs : xid ≢ other = eqb-false xid other d in
      carry ds (Making other bytes ∷ ds) old new xid (if_false (nat_eq xid other) (bytes ∷ made_records xid ds) (made_records xid ds) d) refl refl
      (ap (waiting_at xid) does.calls ∙ others_made xid other old.calls (made_call bytes does.purpose) d)
      (elim [ inl before ↦ inl (omega arith) | inr after ↦ inr (omega arith) ]) (omega arith) story

  -- a record is sent
  pub sent_now : (ds : List Done) (old new : Held P) (xid other : ℕ) (bytes : List ℕ) → IsSound old → DoesSend old other bytes new → nat_eq xid other ≡ true → Story ds old xid → Story (Sending other bytes ∷ ds) new xid
  sent_now ds old new xid other bytes s does d story =
      let same : xid ≡ other = eqb-true xid other d in
      let at : SentAt xid old.calls does.call = at_sent old.cred old.first_xid (next_xid old) xid old.calls does.call s.each (does.oldest ∙ ap (λ n. Some (n, does.call)) (sym same)) in
      by at story
    where
      by : SentAt xid old.calls does.call → Story ds old xid → Story (Sending other bytes ∷ ds) new xid
      by at (unmade a m r t) = absurd (not_unmade old xid does.call s at.before a)
      by at (waits call there went) =
          let before : waiting_at xid old.calls ≡ Some does.call = at.before in
          let which : does.call ≡ call = cc in
          let more : sent_records xid (Sending other bytes ∷ ds) ≡ bytes ∷ sent_records xid ds = if_true (nat_eq xid other) (bytes ∷ sent_records xid ds) (sent_records xid ds) d in
          let count : length (sent_records xid ds) ≡ call.attempts = went.sent in
          let counts : suc (length (sent_records xid ds)) ≡ call.attempts + 1 = omega arith in
          waits (sent_call call) (ap (waiting_at xid) does.calls ∙ at.after ∙ ap (λ w. Some (sent_call w)) which)
          (record {
            made = went.made;
            same = subst (AreAll call.bytes) (sym more) (does.is ∙ ap (λ w. w.bytes) which, went.same);
            sent = ap length more ∙ counts;
            taken = went.taken;
          })
      by at (taken record_of attempts before none went) = let there : waiting_at xid old.calls ≡ Some does.call = at.before in absurd (cc)

  pub sent_other : (ds : List Done) (old new : Held P) (xid other : ℕ) (bytes : List ℕ) → DoesSend old other bytes new → nat_eq xid other ≡ false → Story ds old xid → Story (Sending other bytes ∷ ds) new xid
  sent_other ds old new xid other bytes does d story =
      let next : next_xid new ≡ next_xid old = next_stays old new does.settings does.made in
      carry ds (Sending other bytes ∷ ds) old new xid refl (if_false (nat_eq xid other) (bytes ∷ sent_records xid ds) (sent_records xid ds) d) refl
      (ap (waiting_at xid) does.calls ∙ others_sent xid other old.calls does.call does.oldest d)
      (unmade_stays old new xid does.settings does.made) (omega arith) story

  -- a reply is taken
  pub taken_now : (ds : List Done) (old new : Held P) (xid other : ℕ) → IsSound old → DoesTake old other new → nat_eq xid other ≡ true → Story ds old xid → Story (Taking other ∷ ds) new xid
  taken_now ds old new xid other s does d story =
      let same : xid ≡ other = eqb-true xid other d in
      by (subst (λ n. waiting_at n old.calls ≡ Some does.call) (sym same) does.waits) (ap (λ n. without n old.calls) (sym same)) story
    where
      by : waiting_at xid old.calls ≡ Some does.call → without other old.calls ≡ without xid old.calls → Story ds old xid → Story (Taking other ∷ ds) new xid
      by at which (unmade a m r t) = absurd (not_unmade old xid does.call s at a)
      by at which (waits call there went) =
          let next : next_xid new ≡ next_xid old = next_stays old new does.settings does.made in
          let early : xid < next_xid old = waits_early old.cred old.first_xid (next_xid old) xid old.calls call s.each there in
          let none : times_taken xid ds ≡ 0 = went.taken in
          let once : times_taken xid ds + 1 ≡ 1 = omega arith in
          taken call.bytes call.attempts (omega arith) (ap (waiting_at xid) (does.calls ∙ which) ∙ gone old.cred old.first_xid (next_xid old) xid old.calls s.each)
          (record { made = went.made; same = went.same; sent = went.sent; taken = if_true (nat_eq xid other) (times_taken xid ds + 1) (times_taken xid ds) d ∙ once })
      by at which (taken record_of attempts before none went) = absurd (cc)

  pub taken_other : (ds : List Done) (old new : Held P) (xid other : ℕ) → DoesTake old other new → nat_eq xid other ≡ false → Story ds old xid → Story (Taking other ∷ ds) new xid
  taken_other ds old new xid other does d story =
      let next : next_xid new ≡ next_xid old = next_stays old new does.settings does.made in
      carry ds (Taking other ∷ ds) old new xid refl refl (if_false (nat_eq xid other) (times_taken xid ds + 1) (times_taken xid ds) d)
      (ap (waiting_at xid) does.calls ∙ others_taken xid other old.calls d)
      (unmade_stays old new xid does.settings does.made) (omega arith) story

  -- all attempts that ran have failed
  pub failed_how : (calls : List (ℕ × Waiting P)) → (again : Bool) × (after_failure calls ≡ failed again calls)
  failed_how calls =
      elim (first_given_up calls) as (λ r. (again : Bool) × (failed_after r calls ≡ failed again calls)) [
        | None ↦ (true, refl)
        | Some xid ↦ (false, refl)
      ]

  pub failed_now : (ds : List Done) (old new : Held P) (xid : ℕ) → DoesFail old new → Story ds old xid → Story (Failing ∷ ds) new xid
  failed_now ds old new xid does story = by (failed_how old.calls).0 (does.calls ∙ (failed_how old.calls).1) story
    where
      bytes_stay : (again : Bool) (call : Waiting P) → (failed_call again call).bytes ≡ call.bytes
      bytes_stay true call = refl
      bytes_stay false call = refl

      attempts_stay : (again : Bool) (call : Waiting P) → (failed_call again call).attempts ≡ call.attempts
      attempts_stay true call = refl
      attempts_stay false call = refl

      by : (again : Bool) → new.calls ≡ failed again old.calls → Story ds old xid → Story (Failing ∷ ds) new xid
      by again is (unmade a m r t) = unmade (unmade_stays old new xid does.settings does.made a) m r t
      by again is (waits call at went) =
          waits (failed_call again call) (ap (waiting_at xid) is ∙ all_failed again xid old.calls ∙ ap (option_map (failed_call again)) at)
          (record { made = went.made ∙ ap (λ b. b ∷ []) (sym (bytes_stay again call)); same = subst (λ b. AreAll b (sent_records xid ds)) (sym (bytes_stay again call)) went.same; sent = went.sent ∙ sym (attempts_stay again call); taken = went.taken })
      by again is (taken bytes attempts before none went) =
          let next : next_xid new ≡ next_xid old = next_stays old new does.settings does.made in
          taken bytes attempts (omega arith) (ap (waiting_at xid) is ∙ all_failed again xid old.calls ∙ ap (option_map (failed_call again)) none)
          (record { made = went.made; same = went.same; sent = went.sent; taken = went.taken })

  pub story_on : (ds : List Done) (old new : Held P) (d : Done) (xid : ℕ) → IsSound old → Does old d new → Story ds old xid → Story (d ∷ ds) new xid
  story_on ds old new (Making other bytes) xid s does story =
      elim (nat_eq xid other) as (λ b. nat_eq xid other ≡ b → Story (Making other bytes ∷ ds) new xid) [
        | true ↦ λ d. made_now ds old new xid other bytes s does d story
        | false ↦ λ d. made_other ds old new xid other bytes does d story
      ] refl
  story_on ds old new (Sending other bytes) xid s does story =
      elim (nat_eq xid other) as (λ b. nat_eq xid other ≡ b → Story (Sending other bytes ∷ ds) new xid) [
        | true ↦ λ d. sent_now ds old new xid other bytes s does d story
        | false ↦ λ d. sent_other ds old new xid other bytes does d story
      ] refl
  story_on ds old new (Taking other) xid s does story =
      elim (nat_eq xid other) as (λ b. nat_eq xid other ≡ b → Story (Taking other ∷ ds) new xid) [
        | true ↦ λ d. taken_now ds old new xid other s does d story
        | false ↦ λ d. taken_other ds old new xid other does d story
      ] refl
  story_on ds old new Failing xid s does story = failed_now ds old new xid does story

  pub stories : (ds : List Done) (h : Held P) → Runs ds h → (xid : ℕ) → Story ds h xid
  stories [] h r xid = unmade (by (nat_lt xid h.first_xid) refl) refl refl refl
    where
      by : (b : Bool) → nat_lt xid h.first_xid ≡ b → IsUnmade h xid
      by true e = inl (ltb-true xid h.first_xid e)
      by false e = let after : h.first_xid ≤ xid = ltb-false xid h.first_xid e in let none : h.made ≡ 0 = r.0 in inr (omega arith)
  stories (d ∷ ds) h r xid = story_on ds r.0 h d xid r.1.1 r.1.2 (stories ds r.0 r.1.0 xid)
