-- A session that was lost in its set-up, or had no lines begun, made calls of its set-up alone.
use Rattle.std.proofs.Common.{inl, inr, ◌≡◌, ◌<◌, ◌+◌, ◌⊎◌, ℕ, zero, suc, List, [], ◌∷◌, ◌++◌, length, Result, Err, subst, arith}
use Rattle.std.proofs.lemmas.List.{append-nil}
use Rattle.world_model.specs.declared.entry.Entry.{Entry}
use Rattle.world_model.specs.declared.entry.Entry.TheVariants.{Began, Answered, Sent, Delivered}
use Rattle.world_model.specs.declared.message.Call.{Call}
use Rattle.world_model.specs.declared.tally.Tally.{Tally}
use Rattle.world_model.specs.Entries.{At}
use Rattle.world_model.specs.Waiting.{Answers}
use Rattle.world_model.proofs.Growth.{Rooted-grow, Waits-back}
use Rattle.world_model.proofs.Places.{At-back, At-below}
use Rattle.claims.specs.CallsAsked.{CallsAsked, NoneBegan, IsCaused, IsCause}
use Rattle.claims.specs.CallsAsked as causes
use Rattle.claims.specs.Terms.{Terms}
use Rattle.session_words.specs.declared.settings.Settings.{Settings}
use Rattle.session_setup.specs.declared.opening.SetUp.{SetUp}
use Rattle.session_setup.specs.declared.opening.SetUpFault.{SetUpFault}
use Rattle.session_setup.specs.declared.opening.SetUpFault.TheVariants.{Lost}
use Rattle.session_setup.specs.Origins.{origin_of, terms_by}
use Rattle.session_setup.specs.Outcomes.{SetsUp}
use Rattle.session_setup.specs.Sendings.{IsSetUpCall, mounts, informs}
use Rattle.lane_session.proofs.CoreEnds.{loses-more}
use Rattle.nfs_client.proofs.Hushed.{IsHushed}
use Rattle.nfs_client.proofs.Quiet.{IsQuiet, IsSetUpRecord}
use Rattle.nfs_client.proofs.Quiet as quiet

-- an entry of two lists together is one of the first, or of the second
pub split-at : (h more : List Entry) (i : ℕ) (e : Entry) → At (h ++ more) i e → At h i e ⊎ ((k : ℕ) × (i ≡ length h + k) × At more k e)
split-at [] more i e at = inr (i, omega arith, at)
split-at (d ∷ h) more zero e at = inl at
split-at (d ∷ h) more (suc i) e at = elim (split-at h more i e at) [
  | inl old ↦ inl old
  | inr new ↦ inr (new.0, (let is = new.1 in omega (arith, is)), new.2)
]

module _ (s : Settings) (first : ℕ) (result : Result SetUp SetUpFault) (before more : List Entry) (so : SetsUp s first result before) (each : (i : ℕ) (e : Entry) → At more i e → IsHushed e) where
  abbrev whole : List Entry
  whole = before ++ more

  sent-before : (i : ℕ) (sent : List ℕ) → At whole i (Sent sent) → At before i (Sent sent)
  sent-before i sent at = elim (split-at before more i (Sent sent) at) [ inl old ↦ old | inr new ↦ absurd (each new.0 (Sent sent) new.2) ]

  came-before : (i : ℕ) (reply : List ℕ) → At whole i (Delivered reply) → At before i (Delivered reply)
  came-before i reply at = elim (split-at before more i (Delivered reply) at) [ inl old ↦ old | inr new ↦ absurd (each new.0 (Delivered reply) new.2) ]

  answers-before : (g xid : ℕ) (reply : List ℕ) → Answers whole g xid reply → Answers before g xid reply
  answers-before g xid reply a =
      let got : At before g (Delivered reply) = came-before g reply a.got in
      let below = At-below before g (Delivered reply) got in
      record { got = got; under = a.under; waits = Waits-back before more xid g (omega (arith, below)) a.waits }

  none-began : (i : ℕ) → i < length before → NoneBegan whole i
  none-began i low j lane line op at early = so.unmarked.began j lane line op (At-back before more j (Began lane line op) at (omega (arith, early, low)))

  caused-so : (i : ℕ) (sent : List ℕ) → At before i (Sent sent) → IsCaused (terms_by s first) whole i sent
  caused-so i sent at =
      let r = so.sent.caused i sent at in
      record { xid = r.xid; call = r.call; made = r.made; cause = by r.call r.xid r.is }
    where
      by : (call : Call) (xid : ℕ) → IsSetUpCall (origin_of s.export) first before i xid call → IsCause (terms_by s first) whole i call
      by call xid (mounts path is c x) = causes.mounts path is c (none-began i (At-below before i (Sent sent) at))
      by call xid (informs root rooted c x) = causes.informs root (Rooted-grow (origin_of s.export) before more i root rooted) c (none-began i (At-below before i (Sent sent) at))

  pub asked-so : CallsAsked (terms_by s first) (before ++ more)
  asked-so = record {
    caused = λ i sent at. caused-so i sent (sent-before i sent at);
    among = λ i xid sent at has.
        let among = so.sent.among i xid sent (sent-before i sent at) has in
        let low = among.0 in
        let high = among.1 in
        let within = so.within in
        (low, omega (arith, high, within));
    equal = λ i j xid a b at other has same. so.sent.equal i j xid a b (sent-before i a at) (sent-before j b other) has same;
    single = λ i j x y a b call other at its. so.single i j x y a b call other (sent-before i a at) (sent-before j b its);
    unrepeated = λ g i xid reply sent answers at has. so.sent.unrepeated g i xid reply sent (answers-before g xid reply answers) (sent-before i sent at) has;
  }

  set-up-call : (call : Call) (i xid : ℕ) → IsSetUpCall (origin_of s.export) first before i xid call → quiet.IsSetUpCall call
  set-up-call call i xid (mounts path is c x) = quiet.mounts path c
  set-up-call call i xid (informs root rooted c x) = quiet.informs root c

  pub set-up-so : (i : ℕ) (sent : List ℕ) → At (before ++ more) i (Sent sent) → IsSetUpRecord sent
  set-up-so i sent at = let r = so.sent.caused i sent (sent-before i sent at) in record { xid = r.xid; call = r.call; spells = r.made.spells; is = set-up-call r.call i r.xid r.is }

none-more : (i : ℕ) (e : Entry) → At [] i e → IsHushed e
none-more i e at = absurd (cc)

-- the session was lost in its set-up
pub lost-quiet : (s : Settings) (first : ℕ) (tally : Tally) (before more : List Entry) → SetsUp s first (Err (Lost tally)) before → ((i : ℕ) (e : Entry) → At more i e → IsHushed e)
    → IsQuiet (terms_by s first) (before ++ more)
lost-quiet s first tally before more so each = record {
  asked = asked-so s first (Err (Lost tally)) before more so each;
  set_up = set-up-so s first (Err (Lost tally)) before more so each;
  lost = λ j lane line answer at. elim (split-at before more j (Answered lane line answer) at) [
    | inl old ↦ absurd (so.unmarked.answered j lane line answer old)
    | inr new ↦ (
      each new.0 (Answered lane line answer) new.2,
      record { to = length before; by = (let is = new.1 in omega (arith, is)); loses = loses-more before more (length before) (omega arith) so.ends.loses },
    )
  ];
}

-- no line was begun
pub early-quiet : (s : Settings) (first : ℕ) (result : Result SetUp SetUpFault) (h : List Entry) → SetsUp s first result h → IsQuiet (terms_by s first) h
early-quiet s first result h so = subst (IsQuiet (terms_by s first)) (append-nil h) (record {
  asked = asked-so s first result h [] so none-more;
  set_up = set-up-so s first result h [] so none-more;
  lost = λ j lane line answer at. absurd (so.unmarked.answered j lane line answer (subst (λ (k : List Entry). At k j (Answered lane line answer)) (append-nil h) at));
})

-- nothing was noted
pub empty-quiet : (terms : Terms) → IsQuiet terms []
empty-quiet terms = record {
  asked = record {
    caused = λ i sent at. absurd (cc);
    among = λ i xid sent at has. absurd (cc);
    equal = λ i j xid a b at other has same. absurd (cc);
    single = λ i j x y a b call other at its s t are. absurd (cc);
    unrepeated = λ g i xid reply sent answers at has. absurd (cc);
  };
  set_up = λ i sent at. absurd (cc);
  lost = λ j lane line answer at. absurd (cc);
}
