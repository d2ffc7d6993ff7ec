-- What each call of a link adds to a dial, a wait, an attempt and an exchange.
use Rattle.std.proofs.Common.{inl, inr, ◌≡◌, ◌≤◌, ◌<◌, ◌+◌, ◌⊎◌, ℕ, suc, true, false, eqb, Bool, List, [], ◌∷◌, ◌++◌, length, Option, Some, None, Result, Ok, Err, refl, sym, ap, subst, ◌∙◌, append_assoc, arith}
use Rattle.std.specs.Option.{option_eq}
use Rattle.std.proofs.lemmas.Bool.{eqb-true, eqb-false}
use Rattle.std.proofs.lemmas.List.{append-nil, length-append}
use Rattle.rpc_message.specs.Call.{xid_at}
use Rattle.world_model.specs.declared.entry.Entry.{Entry}
use Rattle.world_model.specs.declared.entry.Entry.TheVariants.{Dialed, Sent, Delivered, Failed}
use Rattle.world_model.specs.Messages.{HasXid}
use Rattle.world_model.specs.Rows.{most_dropped}
use Rattle.port_finder.specs.declared.halt.Halt.{Halt}
use Rattle.port_finder.specs.declared.halt.Halt.TheVariants as halts
use Rattle.port_finder.specs.declared.halt.Miss.{Miss}
use Rattle.port_finder.specs.declared.halt.Miss.TheVariants as misses
use Rattle.port_finder.specs.declared.reply.Refusal.{Refusal}
use Rattle.port_finder.specs.declared.reply.Refusal.TheVariants as refusals
use Rattle.port_finder.specs.declared.finder.PortFault.{PortFault}
use Rattle.port_finder.specs.Replies.{Means}
use Rattle.port_finder.specs.Found.{port_call, fault_by, refused_by, Hears, Asks}
use Rattle.port_finder.specs.Talk.{failed_dials, came, AreOthers, Connects, Dials, Receives, Drops, DropsMany, Listens, After, Attempts, Retries, FailsToDial, Tries, Retried, unretried, retried_once, LastlyAttempts, LastlyDials, given_up, undialed, flooded, attempting, dialing, Exchanges}
use Rattle.port_finder.proofs.Parts.{dials_more, came_more, others_more}

-- ---- dials

one_more : (n : ℕ) → n + 1 ≡ suc n
one_more n = omega arith

pub dial_again : (port n : ℕ) (es fs : List Entry) → es ≡ failed_dials port n → fs ≡ Dialed port ∷ Failed ∷ [] → es ++ fs ≡ failed_dials port (n + 1)
dial_again port n es fs p q = ap (λ (t : List Entry). t ++ fs) p ∙ ap (λ (t : List Entry). failed_dials port n ++ t) q ∙ sym (dials_more port n) ∙ ap (failed_dials port) (sym (one_more n))

pub dial_done : (port n : ℕ) (es fs : List Entry) → n < 4 → es ≡ failed_dials port n → fs ≡ Dialed port ∷ [] → Connects port (es ++ fs)
dial_done port n es fs few p q = record { failed = n; few = few; is = ap (λ (t : List Entry). t ++ fs) p ∙ ap (λ (t : List Entry). failed_dials port n ++ t) q }

pub dial_wants : (port n : ℕ) (es fs : List Entry) → n < 4 → es ≡ failed_dials port n → fs ≡ [] → Dials port (Err halts.Memory) (es ++ fs)
dial_wants port n es fs few p q = (n, few, ap (λ (t : List Entry). es ++ t) q ∙ append-nil es ∙ p)

pub dial_lost : (port n : ℕ) (es : List Entry) → n ≡ 4 → es ≡ failed_dials port n → es ≡ failed_dials port 4
dial_lost port n es e p = p ∙ ap (failed_dials port) e

-- ---- waits

pub none_dropped : (xid : ℕ) → DropsMany xid 0 []
none_dropped xid = record { dropped = []; others = tt; is = refl; many = refl }

pub listen_more : (xid n : ℕ) (rec : List ℕ) (es fs : List Entry) → (HasXid rec xid → ⊥) → DropsMany xid n es → fs ≡ Delivered rec ∷ [] → DropsMany xid (n + 1) (es ++ fs)
listen_more xid n rec es fs lacks d q = record {
  dropped = d.dropped ++ rec ∷ [];
  others = others_more xid d.dropped rec d.others lacks;
  is = ap (λ (t : List Entry). t ++ fs) d.is ∙ ap (λ (t : List Entry). came d.dropped ++ t) q ∙ sym (came_more d.dropped rec);
  many = omega (arith, length-append d.dropped (rec ∷ []), d.many);
}

pub listen_got : (xid n : ℕ) (rec : List ℕ) (es fs : List Entry) → HasXid rec xid → DropsMany xid n es → fs ≡ Delivered rec ∷ [] → Listens xid (Ok rec) (es ++ fs)
listen_got xid n rec es fs has d q = (has, record { dropped = d.dropped; others = d.others; is = ap (λ (t : List Entry). t ++ fs) d.is ∙ ap (λ (t : List Entry). came d.dropped ++ t) q })

pub listen_missed : (xid n : ℕ) (miss : Miss) (es fs : List Entry) → DropsMany xid n es → Receives (Err miss) fs → Listens xid (Err miss) (es ++ fs)
listen_missed xid n misses.Failed es fs d q = record { dropped = d.dropped; others = d.others; is = ap (λ (t : List Entry). t ++ fs) d.is ∙ ap (λ (t : List Entry). came d.dropped ++ t) q }
listen_missed xid n misses.Silent es fs d q = record { dropped = d.dropped; others = d.others; is = ap (λ (t : List Entry). t ++ fs) d.is ∙ ap (λ (t : List Entry). came d.dropped ++ t) q }
listen_missed xid n misses.Flooded es fs d q = absurd q
listen_missed xid n misses.Memory es fs d q = record { dropped = d.dropped; others = d.others; is = ap (λ (t : List Entry). t ++ fs) d.is ∙ ap (λ (t : List Entry). came d.dropped ++ t) q }

pub listen_full : (xid n : ℕ) (es : List Entry) → n ≡ most_dropped → DropsMany xid n es → DropsMany xid most_dropped es
listen_full xid n es e d = record { dropped = d.dropped; others = d.others; is = d.is; many = d.many ∙ e }

same_option : (r : Option ℕ) (x : ℕ) → true ≡ option_eq eqb r (Some x) → r ≡ Some x
same_option None x t = absurd cc
same_option (Some y) x t = ap (λ (n : ℕ). Some n) (eqb-true y x (sym t))

pub has_xid : (rec : List ℕ) (read : Option ℕ) (x : ℕ) → read ≡ xid_at rec → true ≡ option_eq eqb read (Some x) → HasXid rec x
has_xid rec read x e t = sym e ∙ same_option read x t

pub lacks_xid : (rec : List ℕ) (read : Option ℕ) (x : ℕ) → read ≡ xid_at rec → false ≡ option_eq eqb read (Some x) → HasXid rec x → ⊥
lacks_xid rec read x e t has = eqb-false x x (sym (subst (λ (r : Option ℕ). false ≡ option_eq eqb r (Some x)) (e ∙ has) t)) refl

-- ---- attempts

sent_then : (call : List ℕ) (P : List Entry → Type 0) (es fs : List Entry) → es ≡ Sent call ∷ [] → P fs → After call P (es ++ fs)
sent_then call P es fs e p = record { more = fs; is = ap (λ (t : List Entry). t ++ fs) e; so = p }

pub attempt_listens : (xid : ℕ) (call : List ℕ) (r : Result (List ℕ) Miss) (es fs : List Entry) → es ≡ Sent call ∷ [] → Listens xid r fs → Attempts xid call r (es ++ fs)
attempt_listens xid call (Ok rec) es fs e l = sent_then call (Listens xid (Ok rec)) es fs e l
attempt_listens xid call (Err misses.Failed) es fs e l = sent_then call (Listens xid (Err misses.Failed)) es fs e l
attempt_listens xid call (Err misses.Silent) es fs e l = sent_then call (Listens xid (Err misses.Failed)) es fs e l
attempt_listens xid call (Err misses.Flooded) es fs e l = sent_then call (Listens xid (Err misses.Flooded)) es fs e l
attempt_listens xid call (Err misses.Memory) es fs e l = inr (sent_then call (Listens xid (Err misses.Memory)) es fs e l)

pub attempt_unsent : (xid : ℕ) (call : List ℕ) (es : List Entry) → es ≡ Sent call ∷ Failed ∷ [] → Attempts xid call (Err misses.Failed) es
attempt_unsent xid call es e = record { more = Failed ∷ []; is = e; so = record { dropped = []; others = tt; is = refl } }

-- ---- exchanges

pub retry_dialed : (port xid : ℕ) (call : List ℕ) (es fs : List Entry) → Attempts xid call (Err misses.Failed) es → Connects port fs → Retries port xid call (es ++ fs)
retry_dialed port xid call es fs a d = record { first = es; second = fs; is = refl; attempt = a; dial = inr d }

-- nothing came in time
pub retry_silent : (port xid : ℕ) (call : List ℕ) (es : List Entry) → Attempts xid call (Err misses.Silent) es → Retries port xid call es
retry_silent port xid call es a = record { first = es; second = []; is = sym (append-nil es); attempt = a; dial = inl refl }

pub retry_undialed : (port xid : ℕ) (call : List ℕ) (h : Halt) (es fs : List Entry) → Attempts xid call (Err misses.Failed) es → Dials port (Err h) fs → Tries port xid call (Err h) (es ++ fs)
retry_undialed port xid call halts.Lost es fs a d = inr (record { first = es; second = fs; is = refl; attempt = a; dial = d })
retry_undialed port xid call halts.Memory es fs a d = inr (record { first = es; second = fs; is = refl; attempt = a; dial = d })

pub not_retried : (port xid : ℕ) (call : List ℕ) → Retried port xid call 0 []
not_retried port xid call = unretried 0 [] refl refl

pub retried_more : (port xid : ℕ) (call : List ℕ) (n : ℕ) (es fs : List Entry) → Retried port xid call n es → Retries port xid call fs → Retried port xid call (n + 1) (es ++ fs)
retried_more port xid call n es fs p q = retried_once (n + 1) n (es ++ fs) es fs (one_more n) refl p q

lastly : (port xid : ℕ) (call : List ℕ) (r : Result (List ℕ) Miss) (n : ℕ) (es fs : List Entry) → Retried port xid call n es → Attempts xid call r fs → LastlyAttempts port xid call r n (es ++ fs)
lastly port xid call r n es fs p a = record { before = es; last = fs; is = refl; retried = p; attempt = a }

lastly_dials : (port xid : ℕ) (call : List ℕ) (h : Halt) (n : ℕ) (es fs : List Entry) → Retried port xid call n es → FailsToDial port xid call h fs → LastlyDials port xid call h n (es ++ fs)
lastly_dials port xid call h n es fs p d = record {
  before = es ++ d.first;
  last = d.second;
  is = ap (λ (t : List Entry). es ++ t) d.is ∙ sym (append_assoc es d.first d.second);
  attempts = lastly port xid call (Err misses.Failed) n es d.first p d.attempt;
  dial = d.dial;
}

pub exchange_got : (port xid : ℕ) (call rec : List ℕ) (n : ℕ) (es fs : List Entry) → n < 4 → Retried port xid call n es → Attempts xid call (Ok rec) fs → Exchanges port xid call (Ok rec) (es ++ fs)
exchange_got port xid call rec n es fs few p a = (n, few, lastly port xid call (Ok rec) n es fs p a)

pub exchange_halts : (port xid : ℕ) (call : List ℕ) (h : Halt) (n : ℕ) (es fs : List Entry) → n < 3 → Retried port xid call n es → Tries port xid call (Err h) fs → Exchanges port xid call (Err h) (es ++ fs)
exchange_halts port xid call halts.Lost n es fs few p t = elim t [
  | inl a ↦ flooded n (omega (arith, few)) (lastly port xid call (Err misses.Flooded) n es fs p a)
  | inr d ↦ undialed n few (lastly_dials port xid call halts.Lost n es fs p d)
]
exchange_halts port xid call halts.Memory n es fs few p t = elim t [
  | inl a ↦ attempting n (omega (arith, few)) (lastly port xid call (Err misses.Memory) n es fs p a)
  | inr d ↦ dialing n few (lastly_dials port xid call halts.Memory n es fs p d)
]

pub exchange_given_up : (port xid : ℕ) (call : List ℕ) (n : ℕ) (es fs : List Entry) → n ≡ 3 → Retried port xid call n es → Attempts xid call (Err misses.Failed) fs → Exchanges port xid call (Err halts.Lost) (es ++ fs)
exchange_given_up port xid call n es fs e p a = given_up (subst (λ (k : ℕ). LastlyAttempts port xid call (Err misses.Failed) k (es ++ fs)) e (lastly port xid call (Err misses.Failed) n es fs p a))

pub exchange_flooded : (port xid : ℕ) (call : List ℕ) (n : ℕ) (es fs : List Entry) → n < 4 → Retried port xid call n es → Attempts xid call (Err misses.Flooded) fs → Exchanges port xid call (Err halts.Lost) (es ++ fs)
exchange_flooded port xid call n es fs few p a = flooded n few (lastly port xid call (Err misses.Flooded) n es fs p a)

pub exchange_wants : (port xid : ℕ) (call : List ℕ) (n : ℕ) (es fs : List Entry) → n < 4 → Retried port xid call n es → Attempts xid call (Err misses.Memory) fs → Exchanges port xid call (Err halts.Memory) (es ++ fs)
exchange_wants port xid call n es fs few p a = attempting n few (lastly port xid call (Err misses.Memory) n es fs p a)

-- ---- asking

-- the call found no memory
pub asks_nothing : (port xid : ℕ) (call : List ℕ) → Exchanges port xid call (Err halts.Memory) []
asks_nothing port xid call = attempting 0 (omega arith) (record { before = []; last = []; is = refl; retried = not_retried port xid call; attempt = inl refl })

pub asks_halts : (port xid prog prot : ℕ) (h : Halt) (es : List Entry) → Exchanges port xid (port_call xid prog prot) (Err h) es → Asks port xid prog prot (Err (fault_by h)) es
asks_halts port xid prog prot halts.Lost es x = x
asks_halts port xid prog prot halts.Memory es x = x

hears : (port xid : ℕ) (call rec : List ℕ) (m : Result ℕ Refusal) (es : List Entry) → ((x : ℕ) → HasXid rec x → Means x rec m) → Exchanges port xid call (Ok rec) es → Hears port xid call m es
hears port xid call rec m es means x = record { rec = rec; exchanges = x; means = means xid x.2.attempt.so.0 }

pub asks_told : (port xid prog prot found : ℕ) (rec : List ℕ) (es : List Entry) → ((x : ℕ) → HasXid rec x → Means x rec (Ok found)) → Exchanges port xid (port_call xid prog prot) (Ok rec) es → Asks port xid prog prot (Ok found) es
asks_told port xid prog prot found rec es means x = hears port xid (port_call xid prog prot) rec (Ok found) es means x

pub asks_refused : (port xid prog prot : ℕ) (r : Refusal) (rec : List ℕ) (es : List Entry) → ((x : ℕ) → HasXid rec x → Means x rec (Err r)) → Exchanges port xid (port_call xid prog prot) (Ok rec) es
    → Asks port xid prog prot (Err (refused_by prog r)) es
asks_refused port xid prog prot refusals.None rec es means x = (refl, hears port xid (port_call xid prog prot) rec (Err refusals.None) es means x)
asks_refused port xid prog prot (refusals.Rpc n) rec es means x = (refl, hears port xid (port_call xid prog prot) rec (Err (refusals.Rpc n)) es means x)
asks_refused port xid prog prot (refusals.Bad n) rec es means x = (refl, hears port xid (port_call xid prog prot) rec (Err (refusals.Bad n)) es means x)
