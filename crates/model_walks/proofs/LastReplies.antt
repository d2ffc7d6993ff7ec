-- The last record that came before an answer is the reply that the operation ended with.
use Rattle.std.proofs.Common.{inl, inr, ◌⊎◌, ◌≡◌, ◌≤◌, ℕ, zero, suc, List, [], ◌∷◌, length, Option, Some, None, refl, sym, ap, subst, arith}
use Rattle.std.proofs.lemmas.Bool.{cases_lt}
use Rattle.rpc_message.specs.Call.{xid_at}
use Rattle.world_model.specs.declared.entry.Entry.{Entry}
use Rattle.world_model.specs.declared.entry.Entry.TheVariants as entries
use Rattle.world_model.specs.declared.message.Call.{Call}
use Rattle.world_model.specs.declared.message.Reply.{Reply}
use Rattle.world_model.specs.Entries.{At}
use Rattle.world_model.specs.History.{History}
use Rattle.world_model.specs.Lawful.{Lawful, WasSent}
use Rattle.world_model.specs.Messages.{HasXid, SpellsCall, SpellsReply}
use Rattle.claims.specs.Modes.{Modes}
use Rattle.world_model.specs.Mounts.{Origin}
use Rattle.world_model.specs.Operations.{LastReply}
use Rattle.world_model.specs.Waiting.{FirstSent}
use Rattle.world_model.proofs.Deciding.{same_bytes}
use Rattle.world_model.proofs.Places.{At-one}
use Rattle.model_walks.specs.Machine.{View, LastCame}
use Rattle.model_walks.specs.Reaches.{Reaches}
use Rattle.model_walks.proofs.Calling.{Was, runs, sendings, one_xid, xid_of_call}
use Rattle.model_walks.proofs.Facts.{were_taken}
use Rattle.model_walks.proofs.Fronts.{Begins, At-past}

bytes_are : (a b : List ℕ) → entries.Delivered a ≡ entries.Delivered b → a ≡ b
bytes_are a b e = cc

-- ---- the last record that came answers this call

pub record LastIs (call : Call) (reply : Reply) (other : Call) (xid : ℕ) (bytes : List ℕ) : Type 0 where
  pub call_is : other ≡ call
  pub alone : (r : Reply) → SpellsReply xid other r bytes → r ≡ reply

pub last_is : (m : Modes) (origin : Origin) (t : History) → Lawful t → (h : List Entry) (b : View) → Begins t h → Reaches m origin t h b → (y : ℕ) → length h ≡ y → (call : Call) (reply : Reply) → LastCame t y b call reply
    → (other : Call) (l : LastReply t.entries y other) → LastIs call reply other l.xid l.bytes
last_is m origin t lawful h b begun r y long call reply a other l =
    record { call_is = call_is; alone = λ q spells. was.heard.alone q (subst (λ z. SpellsReply a.came.xid z q was.heard.bytes) call_is (subst (λ z. SpellsReply a.came.xid other q z) same_bytes_ (subst (λ z. SpellsReply z other q l.bytes) same_xid spells))) }
  where
    was : Was t h a.came.xid (record { call = call; at = a.came.at; time = a.came.time; reply = reply; came = a.came.place })
    was = were_taken m origin t lawful h b begun r a.came.xid _ a.came.is

    no_later : l.at ≤ a.came.place
    no_later = elim (cases_lt a.came.place l.at) [
      | inl lt ↦ absurd (a.last l.at l.bytes l.got lt l.before)
      | inr le ↦ le
    ]

    place_is : l.at ≡ a.came.place
    place_is = let early = was.early in let low = l.last a.came.place was.heard.bytes was.heard.got (omega (arith, early, long)) in let high = no_later in omega (arith, low, high)

    same_bytes_ : l.bytes ≡ was.heard.bytes
    same_bytes_ = bytes_are l.bytes was.heard.bytes (At-one t.entries a.came.place (entries.Delivered l.bytes) (entries.Delivered was.heard.bytes) (subst (λ z. At t.entries z (entries.Delivered l.bytes)) place_is l.got) was.heard.got)

    same_xid : l.xid ≡ a.came.xid
    same_xid = one_xid l.xid a.came.xid was.heard.bytes (subst (λ z. HasXid z l.xid) same_bytes_ l.under) was.heard.under

    sent : At h l.sent_at (entries.Sent l.record_sent)
    sent = let early = was.early in let asked = l.asked in let same = place_is in At-past t h l.sent_at (entries.Sent l.record_sent) begun (omega (arith, asked, same, early)) l.sent.sent

    call_is : other ≡ call
    call_is = let s = (sendings h b.calls (runs m origin t h b r)).before a.came.xid _ l.sent_at l.record_sent a.came.is sent (subst (λ z. HasXid l.record_sent z) same_xid l.sent.under) in s.alone other (subst (λ z. SpellsCall z other l.record_sent) same_xid l.spells)

-- ---- and there is such a record

number_or_not : (o : Option ℕ) (x : ℕ) → (o ≡ Some x) ⊎ (o ≡ Some x → ⊥)
number_or_not None x = inr (λ e. absurd (cc e))
number_or_not (Some z) x = elim (same_bytes (z ∷ []) (x ∷ [])) [ inl e ↦ inl (some e) | inr d ↦ inr (λ e. d (one e)) ]
  where
    some : z ∷ [] ≡ x ∷ [] → Some z ≡ Some x
    some e = cc

    one : Some z ≡ Some x → z ∷ [] ≡ x ∷ []
    one e = cc

abbrev IsUnder : Entry → ℕ → Type 0
IsUnder e x = (b : List ℕ) × (e ≡ entries.Sent b) × HasXid b x

abbrev NotUnder : Entry → ℕ → Type 0
NotUnder e x = (b : List ℕ) → e ≡ entries.Sent b → HasXid b x → ⊥

sent_is : (a b : List ℕ) → entries.Sent a ≡ entries.Sent b → a ≡ b
sent_is a b e = cc

under_or_not : (e : Entry) (x : ℕ) → IsUnder e x ⊎ NotUnder e x
under_or_not (entries.Sent bytes) x = elim (number_or_not (xid_at bytes) x) [
  | inl e ↦ inl (bytes, refl, e)
  | inr d ↦ inr (λ b is u. d (subst (λ z. HasXid z x) (sym (sent_is bytes b is)) u))
]
under_or_not (entries.Began lane line op) x = inr (λ b is u. absurd (cc is))
under_or_not (entries.Answered lane line answer) x = inr (λ b is u. absurd (cc is))
under_or_not (entries.Dialed port) x = inr (λ b is u. absurd (cc is))
under_or_not (entries.Executed xid call reply) x = inr (λ b is u. absurd (cc is))
under_or_not (entries.Foreign call reply) x = inr (λ b is u. absurd (cc is))
under_or_not (entries.Flushed f start count) x = inr (λ b is u. absurd (cc is))
under_or_not (entries.Reboot verf) x = inr (λ b is u. absurd (cc is))
under_or_not (entries.Delivered bytes) x = inr (λ b is u. absurd (cc is))
under_or_not entries.Failed x = inr (λ b is u. absurd (cc is))
under_or_not (entries.Clock ms) x = inr (λ b is u. absurd (cc is))

abbrev HasFirst : List Entry → ℕ → Type 0
HasFirst h x = (i : ℕ) × (b : List ℕ) × FirstSent h i x b

abbrev NoneSent : List Entry → ℕ → Type 0
NoneSent h x = (j : ℕ) (b : List ℕ) → At h j (entries.Sent b) → HasXid b x → ⊥

entry_is : (a b : Entry) → Some a ≡ Some b → a ≡ b
entry_is a b e = cc

first_sent : (h : List Entry) (x : ℕ) → HasFirst h x ⊎ NoneSent h x
first_sent [] x = inr (λ j b at u. absurd (cc at))
first_sent (e ∷ h) x = elim (under_or_not e x) [
  | inl k ↦ inl (0, k.0, record { sent = ap Some k.1; under = k.2; first = λ j b at u. omega arith })
  | inr d ↦ elim (first_sent h x) [
    | inl f ↦ inl (suc f.0, f.1, record { sent = f.2.sent; under = f.2.under; first = λ j b at u. later f j b at u d })
    | inr none ↦ inr (λ j b at u. no_more j b at u d none)
  ]
]
  where
    later : (f : HasFirst h x) (j : ℕ) (b : List ℕ) → At (e ∷ h) j (entries.Sent b) → HasXid b x → NotUnder e x → suc f.0 ≤ j
    later f zero b at u d = absurd (d b (entry_is e (entries.Sent b) at) u)
    later f (suc j) b at u d = let low = f.2.first j b at u in omega (arith, low)

    no_more : (j : ℕ) (b : List ℕ) → At (e ∷ h) j (entries.Sent b) → HasXid b x → NotUnder e x → NoneSent h x → ⊥
    no_more zero b at u d none = d b (entry_is e (entries.Sent b) at) u
    no_more (suc j) b at u d none = none j b at u

pub last_reply : (m : Modes) (origin : Origin) (t : History) → Lawful t → (h : List Entry) (b : View) → Begins t h → Reaches m origin t h b → (y : ℕ) → length h ≡ y → (call : Call) (reply : Reply) → LastCame t y b call reply → LastReply t.entries y call
last_reply m origin t lawful h b begun r y long call reply a = by (first_sent t.entries a.came.xid)
  where
    was : Was t h a.came.xid (record { call = call; at = a.came.at; time = a.came.time; reply = reply; came = a.came.place })
    was = were_taken m origin t lawful h b begun r a.came.xid _ a.came.is

    made : WasSent t.entries was.ran.place a.came.xid call
    made = (lawful.entries was.ran.place _ was.ran.at).0

    under : HasXid made.bytes a.came.xid
    under = xid_of_call a.came.xid call made.bytes made.spells

    by : HasFirst t.entries a.came.xid ⊎ NoneSent t.entries a.came.xid → LastReply t.entries y call
    by (inr none) = absurd (none made.at made.bytes made.sent under)
    by (inl f) =
        let low = f.2.first made.at made.bytes made.sent under in
        let before = made.before in
        let late = was.ran.before in
        let early = was.early in
        let there : At h f.0 (entries.Sent f.1) = At-past t h f.0 (entries.Sent f.1) begun (omega (arith, low, before, late, early)) f.2.sent in
        let s = (sendings h b.calls (runs m origin t h b r)).before a.came.xid _ f.0 f.1 a.came.is there f.2.under in
        record {
          at = a.came.place;
          bytes = was.heard.bytes;
          xid = a.came.xid;
          sent_at = f.0;
          record_sent = f.1;
          got = was.heard.got;
          before = omega (arith, early, long);
          last = λ j d at lt. elim (cases_lt a.came.place j) [ inl after ↦ absurd (a.last j d at after lt) | inr le ↦ le ];
          under = was.heard.under;
          sent = f.2;
          spells = s.spells;
          asked = omega (arith, low, before, late);
        }
