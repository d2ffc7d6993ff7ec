-- What keeps the ends right: each entry that is told, and each reply that is made ready or held.
use Rattle.std.proofs.Common.{◌⊎◌, inl, inr, ◌≡◌, ◌≤◌, ◌<◌, ℕ, zero, suc, Bool, List, [], ◌∷◌, ◌++◌, length, map, take, drop, get_or, position, Option, Some, None, Result, Ok, Err, IfOk, slice_get, refl, sym, ap, subst, ◌∙◌, append_assoc, arith, length-append}
use Rattle.std.specs.Prelude.{⊤, OnOk, OnErr}
use Rattle.std.specs.List.{remove}
use Rattle.std.proofs.lemmas.List.{append-nil, map-append, length-map, get_or-map, take-map, drop-map}
use Rattle.rpc_message.specs.Reply.{SpellsRefusal}
use Rattle.world_model.specs.declared.entry.Entry.{Entry}
use Rattle.world_model.specs.declared.entry.Entry.TheVariants.{Sent, Executed, Foreign, Flushed, Reboot, Delivered, Dialed, Failed}
use Rattle.world_model.specs.declared.message.Call.{Call}
use Rattle.world_model.specs.declared.message.Reply.{Reply}
use Rattle.world_model.specs.Messages.{HasXid, SpellsCall, SpellsReply}
use Rattle.nfs_types.specs.declared.verf.Verf.{Verf}
use Rattle.export_serve.specs.declared.request.Asked.{Asked}
use Rattle.export_serve.specs.declared.request.Asked.TheVariants as askings
use Rattle.export_serve.specs.Asking.{IsSound}
use Rattle.export_serve.specs.Spelling.{RepliesTo}
use Rattle.export_serve.proofs.Refused.{spells_refusal}
use Rattle.export_fs.specs.View.{View}
use Rattle.world_link.specs.declared.directive.RequestId.{RequestId}
use Rattle.world_link.specs.declared.directive.PartialWrite.{PartialWrite}
use Rattle.world_link.specs.declared.manner.Manner.{Manner}
use Rattle.world_link.specs.declared.routed.Routed.{Routed}
use Rattle.world_link.specs.declared.routed.Told.{Told}
use Rattle.world_link.specs.Ends.{ServerEnds, reply_in}
use Rattle.world_link.specs.Handling.{handled}
use Rattle.world_link.specs.Holding.{HeldReply, are_past}
use Rattle.world_link.specs.Honest.{Every}
use Rattle.world_link.specs.Routes.{TellsAt, IsSentBy, SentCall, AnswersAt, Answers, MayAnswerTo, IsAskedBy, AreRouted, KeepsEnds}
use Rattle.world_link.specs.Routes as routes
use Rattle.world_link.specs.Routing.{tells}
use Rattle.world_link.proofs.EntriesKeepHonest.{every_map, every_append, every_front, every_rest, every_get}
use Rattle.world_link.proofs.Releases.{due_reply}
use Rattle.world_link.proofs.RepliesFit.{handled_replies}

-- ---- places

some_told : (a b : Told) → Some a ≡ Some b → a ≡ b
some_told a b e = cc

pub tells_grow : (told more : List Told) (n end : ℕ) (e : Entry) → TellsAt told n end e → TellsAt (told ++ more) n end e
tells_grow [] more n end e at = absurd cc
tells_grow (t ∷ told) more zero end e at = at
tells_grow (t ∷ told) more (suc n) end e at = tells_grow told more n end e at

pub tells_below : (told : List Told) (n end : ℕ) (e : Entry) → TellsAt told n end e → n < length told
tells_below [] n end e at = absurd cc
tells_below (t ∷ told) zero end e at = omega arith
tells_below (t ∷ told) (suc n) end e at = let r = tells_below told n end e at in omega (arith, r)

pub tells_last : (told : List Told) (end : ℕ) (e : Entry) → TellsAt (told ++ record { end = end; entry = e } ∷ []) (length told) end e
tells_last [] end e = refl
tells_last (t ∷ told) end e = tells_last told end e

-- what stands there stood there, or is the last one
pub tells_cases : (told : List Told) (t : Told) (n end : ℕ) (e : Entry) → TellsAt (told ++ t ∷ []) n end e → TellsAt told n end e ⊎ ((n ≡ length told) × (t ≡ record { end = end; entry = e }))
tells_cases [] t zero end e at = inr (refl, some_told t (record { end = end; entry = e }) at)
tells_cases [] t (suc n) end e at = absurd cc
tells_cases (x ∷ told) t zero end e at = inl at
tells_cases (x ∷ told) t (suc n) end e at = elim (tells_cases told t n end e at) [ inl a ↦ inl a | inr b ↦ inr (ap suc b.0, b.1) ]

-- ---- what was sent and what answers stays so

pub sent_by_on : (told more : List Told) (r : Routed) → IsSentBy told r → IsSentBy (told ++ more) r
sent_by_on told more r s = (s.0, tells_grow told more s.0 r.end (Sent r.bytes) s.1)

sent_call_on : (told more : List Told) (end n xid : ℕ) (call : Call) → SentCall told end n xid call → SentCall (told ++ more) end n xid call
sent_call_on told more end n xid call s = record { at = s.at; bytes = s.bytes; before = s.before; sent = tells_grow told more s.at end (Sent s.bytes) s.sent; spells = s.spells }

pub answers_at_on : (told more : List Told) (end n m : ℕ) (bytes : List ℕ) → n ≤ m → AnswersAt told end n bytes → AnswersAt (told ++ more) end m bytes
answers_at_on told more end n m bytes le (routes.replied i xid call reply lt at spells) =
    routes.replied i xid call reply (omega (arith, lt, le)) (tells_grow told more i end (Executed xid call reply) at) spells
answers_at_on told more end n m bytes le (routes.refused i xid code sent lt at under spells) =
    routes.refused i xid code sent (omega (arith, lt, le)) (tells_grow told more i end (Sent sent) at) under spells

pub answers_on : (told more : List Told) (r : Routed) → Answers told r → Answers (told ++ more) r
answers_on told more r a = answers_at_on told more r.end (length told) (length (told ++ more)) r.bytes (omega (arith, length-append told more)) a

pub may_answer_on : (told more : List Told) (end : ℕ) (reply : Option (List ℕ)) → MayAnswerTo told end reply → MayAnswerTo (told ++ more) end reply
may_answer_on told more end None a = tt
may_answer_on told more end (Some bytes) a = answers_at_on told more end (length told) (length (told ++ more)) bytes (omega (arith, length-append told more)) a

-- ---- one entry more

-- The entry may be told next.
pub record Fits (told : List Told) (t : Told) : Type 0 where
  pub executed : (xid : ℕ) (call : Call) (reply : Reply) → t.entry ≡ Executed xid call reply → SentCall told t.end (length told) xid call
  pub delivered : (bytes : List ℕ) → t.entry ≡ Delivered bytes → AnswersAt told t.end (length told) bytes

pub routed_more : (v : ServerEnds) (t : Told) → Fits v.told t → AreRouted v → AreRouted (record v { told = v.told ++ t ∷ [] })
routed_more v t fits r = record {
  executed = λ n end xid call reply at. elim (tells_cases v.told t n end (Executed xid call reply) at) [
    | inl a ↦ sent_call_on v.told (t ∷ []) end n xid call (r.executed n end xid call reply a)
    | inr b ↦
        let here : SentCall v.told t.end (length v.told) xid call = fits.executed xid call reply (ap (λ (x : Told). x.entry) b.1) in
        let moved : SentCall v.told end n xid call =
        subst (λ (k : ℕ). SentCall v.told end k xid call) (sym b.0) (subst (λ (x : ℕ). SentCall v.told x (length v.told) xid call) (ap (λ (x : Told). x.end) b.1) here) in
        sent_call_on v.told (t ∷ []) end n xid call moved
  ];
  delivered = λ n end bytes at. elim (tells_cases v.told t n end (Delivered bytes) at) [
    | inl a ↦ answers_at_on v.told (t ∷ []) end n n bytes (omega arith) (r.delivered n end bytes a)
    | inr b ↦
        let here : AnswersAt v.told t.end (length v.told) bytes = fits.delivered bytes (ap (λ (x : Told). x.entry) b.1) in
        let moved : AnswersAt v.told end n bytes =
        subst (λ (k : ℕ). AnswersAt v.told end k bytes) (sym b.0) (subst (λ (x : ℕ). AnswersAt v.told x (length v.told) bytes) (ap (λ (x : Told). x.end) b.1) here) in
        answers_at_on v.told (t ∷ []) end n n bytes (omega arith) moved
  ];
  sent = λ s x q. sent_by_on v.told (t ∷ []) x (r.sent s x q);
  ready = every_map (Answers v.told) (Answers (v.told ++ t ∷ [])) v.ready (λ x a. answers_on v.told (t ∷ []) x a) r.ready;
  held = every_map (Answers v.told) (Answers (v.told ++ t ∷ [])) v.held (λ x a. answers_on v.told (t ∷ []) x a) r.held;
}

-- a call is executed for the end that asked
asked_fits : (told : List Told) (end xid : ℕ) (call : Call) (reply : Reply) → IsAskedBy told end (askings.Serve xid call) → Fits told (record { end = end; entry = Executed xid call reply })
asked_fits told end xid call reply a = record {
  executed = λ x c r e.
      let same_xid : xid ≡ x = executed_xid xid x call c reply r e in
      let same_call : call ≡ c = executed_call xid x call c reply r e in
      let here : SentCall told end (length told) xid call =
      record { at = a.sent.0; bytes = a.bytes; before = tells_below told a.sent.0 end (Sent a.bytes) a.sent.1; sent = a.sent.1; spells = a.sound.0 } in
      subst (λ (z : ℕ). SentCall told end (length told) z c) same_xid (subst (λ (z : Call). SentCall told end (length told) xid z) same_call here);
  delivered = λ bytes e. absurd cc;
}
  where
    executed_xid : (a b : ℕ) (c d : Call) (r s : Reply) → Executed a c r ≡ Executed b d s → a ≡ b
    executed_xid a b c d r s e = cc

    executed_call : (a b : ℕ) (c d : Call) (r s : Reply) → Executed a c r ≡ Executed b d s → c ≡ d
    executed_call a b c d r s e = cc

-- a record comes to the end whose call it answers
pub delivered_fits : (told : List Told) (end : ℕ) (rec : List ℕ) → AnswersAt told end (length told) rec → Fits told (record { end = end; entry = Delivered rec })
delivered_fits told end rec a = record { executed = λ xid call reply e. absurd cc; delivered = λ bytes e. subst (AnswersAt told end (length told)) (delivered_bytes rec bytes e) a }
  where
    delivered_bytes : (a b : List ℕ) → Delivered a ≡ Delivered b → a ≡ b
    delivered_bytes a b e = cc

foreign_fits : (told : List Told) (end : ℕ) (call : Call) (reply : Reply) → Fits told (record { end = end; entry = Foreign call reply })
foreign_fits told end call reply = record { executed = λ x c r e. absurd cc; delivered = λ b e. absurd cc }

flushed_fits : (told : List Told) (end : ℕ) (file : List ℕ) (from len : ℕ) → Fits told (record { end = end; entry = Flushed file from len })
flushed_fits told end file from len = record { executed = λ x c r e. absurd cc; delivered = λ b e. absurd cc }

reboot_fits : (told : List Told) (end : ℕ) (verf : Verf) → Fits told (record { end = end; entry = Reboot verf })
reboot_fits told end verf = record { executed = λ x c r e. absurd cc; delivered = λ b e. absurd cc }

pub sent_fits : (told : List Told) (end : ℕ) (rec : List ℕ) → Fits told (record { end = end; entry = Sent rec })
sent_fits told end rec = record { executed = λ x c r e. absurd cc; delivered = λ b e. absurd cc }

pub dialed_fits : (told : List Told) (end port : ℕ) → Fits told (record { end = end; entry = Dialed port })
dialed_fits told end port = record { executed = λ x c r e. absurd cc; delivered = λ b e. absurd cc }

pub failed_fits : (told : List Told) (end : ℕ) → Fits told (record { end = end; entry = Failed })
failed_fits told end = record { executed = λ x c r e. absurd cc; delivered = λ b e. absurd cc }

-- ---- steps of the server's side

pub ends_then : (P Q : Type 0) (a b c : ServerEnds) → KeepsEnds P a b → KeepsEnds Q b c → (P → Q) → KeepsEnds P a c
ends_then P Q a b c p q next = record {
  more = p.more ++ q.more;
  grown = q.grown ∙ ap (λ (t : List Told). t ++ q.more) p.grown ∙ append_assoc a.told p.more q.more;
  right = λ such r. q.right (next such) (p.right such r);
}

-- nothing more is told
pub left_ends : (P : Type 0) (old new : ServerEnds) → new ≡ record old { told = new.told } → new.told ≡ old.told → KeepsEnds P old new
left_ends P old new shape same = record {
  more = [];
  grown = same ∙ sym (append-nil old.told);
  right = λ such r. subst AreRouted (sym (shape ∙ ap (λ (t : List Told). record old { told = t }) same)) r;
}

-- an entry is told
grown_ends : (P : Type 0) (old new : ServerEnds) (t : Told) → new ≡ record old { told = new.told } → new.told ≡ old.told ++ t ∷ [] → (P → Fits old.told t) → KeepsEnds P old new
grown_ends P old new t shape grown fits = record {
  more = t ∷ [];
  grown = grown;
  right = λ such r. subst AreRouted (sym (shape ∙ ap (λ (x : List Told). record old { told = x }) grown)) (routed_more old t (fits such) r);
}

-- a call was executed for its end, and it was told
pub executed_ends : (old new : ServerEnds) (end xid : ℕ) (call : Call) (reply : Reply) → new ≡ record old { told = new.told } → new.told ≡ old.told ++ record { end = end; entry = Executed xid call reply } ∷ []
    → KeepsEnds (IsAskedBy old.told end (askings.Serve xid call)) old new
executed_ends old new end xid call reply shape grown = grown_ends (IsAskedBy old.told end (askings.Serve xid call)) old new (record { end = end; entry = Executed xid call reply }) shape grown (λ a. asked_fits old.told end xid call reply a)

-- the record of its reply answers it
pub executed_answers : {E : Type 0} (old new : List Told) (part : Option PartialWrite) (manner : Manner) (v : View) (end xid : ℕ) (call : Call) (reply : Reply) (result : Result (List ℕ) E) → reply ≡ (handled part manner v call).1
    → new ≡ old ++ record { end = end; entry = Executed xid call reply } ∷ [] → IfOk result (λ bytes. (c : Call) → RepliesTo c reply → SpellsReply xid c reply bytes) → IfOk result (λ bytes. AnswersAt new end (length new) bytes)
executed_answers old new part manner v end xid call reply (Err e) r grown spells = tt
executed_answers old new part manner v end xid call reply (Ok bytes) r grown spells =
    subst (λ (told : List Told). AnswersAt told end (length told) bytes) (sym grown)
    (routes.replied (length old) xid call reply (tells_below (old ++ record { end = end; entry = Executed xid call reply } ∷ []) (length old) end (Executed xid call reply) (tells_last old end (Executed xid call reply)))
    (tells_last old end (Executed xid call reply)) (spells call (subst (RepliesTo call) (sym r) (handled_replies part manner v call))))

pub foreign_ends : (old new : ServerEnds) (call : Call) (reply : Reply) → new ≡ record old { told = new.told } → new.told ≡ old.told ++ record { end = 2; entry = Foreign call reply } ∷ [] → KeepsEnds ⊤ old new
foreign_ends old new call reply shape grown = grown_ends ⊤ old new (record { end = 2; entry = Foreign call reply }) shape grown (λ a. foreign_fits old.told 2 call reply)

pub flushed_ends : (old new : ServerEnds) (file : List ℕ) (from len : ℕ) → new ≡ record old { told = new.told } → new.told ≡ old.told ++ record { end = 2; entry = Flushed file from len } ∷ [] → KeepsEnds ⊤ old new
flushed_ends old new file from len shape grown = grown_ends ⊤ old new (record { end = 2; entry = Flushed file from len }) shape grown (λ a. flushed_fits old.told 2 file from len)

pub reboot_ends : (old new : ServerEnds) (verf : Verf) → new ≡ record old { told = new.told } → new.told ≡ old.told ++ record { end = 2; entry = Reboot verf } ∷ [] → KeepsEnds ⊤ old new
reboot_ends old new verf shape grown = grown_ends ⊤ old new (record { end = 2; entry = Reboot verf }) shape grown (λ a. reboot_fits old.told 2 verf)

-- a refusal of what was sent answers it
pub refused_to : (told : List Told) (end : ℕ) (asked : Asked) (xid : ℕ) (bytes short : List ℕ) → asked ≡ askings.Refuse xid bytes → short ≡ bytes → IsAskedBy told end asked → AnswersAt told end (length told) short
refused_to told end asked xid bytes short q same a =
    let s : IsSound a.bytes (askings.Refuse xid bytes) = subst (IsSound a.bytes) q a.sound in
    let r = spells_refusal xid bytes s.1 in
    subst (λ (b : List ℕ). AnswersAt told end (length told) b) (sym same) (routes.refused a.sent.0 xid r.0 a.bytes (tells_below told a.sent.0 end (Sent a.bytes) a.sent.1) a.sent.1 s.0 r.1)

pub asked_serve_by : (told : List Told) (end : ℕ) (asked : Asked) (xid : ℕ) (call : Call) → asked ≡ askings.Serve xid call → IsAskedBy told end asked → IsAskedBy told end (askings.Serve xid call)
asked_serve_by told end asked xid call q a = subst (IsAskedBy told end) q a

-- the same step, under a premise from which its own follows
pub ends_if : (P Q : Type 0) (a b : ServerEnds) → KeepsEnds Q a b → (P → Q) → KeepsEnds P a b
ends_if P Q a b k f = record { more = k.more; grown = k.grown; right = λ such r. k.right (f such) r }

-- ---- copies

asked_of : (v : ServerEnds) (s : RequestId) (r : Routed) (asked : Asked) → v.sent s ≡ Some r → IsSound r.bytes asked → AreRouted v → IsAskedBy v.told r.end asked
asked_of v s r asked q sound right = record { bytes = r.bytes; sent = right.sent s r q; sound = sound }

pub copied_ends : (old mid new : ServerEnds) (s : RequestId) (r : Routed) (asked : Asked) (reply : Option (List ℕ)) → old.sent s ≡ Some r → IsSound r.bytes asked → KeepsEnds (IsAskedBy old.told r.end asked) old mid
    → (IsAskedBy old.told r.end asked → MayAnswerTo mid.told r.end reply) → KeepsEnds (MayAnswerTo mid.told r.end reply) mid new → KeepsEnds ⊤ old new
copied_ends old mid new s r asked reply q sound first answers second = record {
  more = first.more ++ second.more;
  grown = second.grown ∙ ap (λ (t : List Told). t ++ second.more) first.grown ∙ append_assoc old.told first.more second.more;
  right = λ such right. let a = asked_of old s r asked q sound right in second.right (answers a) (first.right a right);
}

pub copied_part_ends : (old mid : ServerEnds) (s : RequestId) (r : Routed) (asked : Asked) → old.sent s ≡ Some r → IsSound r.bytes asked → KeepsEnds (IsAskedBy old.told r.end asked) old mid → KeepsEnds ⊤ old mid
copied_part_ends old mid s r asked q sound first = record { more = first.more; grown = first.grown; right = λ such right. first.right (asked_of old s r asked q sound right) right }

-- ---- replies

same_ends : (P : Type 0) (old new : ServerEnds) → new ≡ old → KeepsEnds P old new
same_ends P old new e = record { more = []; grown = ap (λ (v : ServerEnds). v.told) e ∙ sym (append-nil old.told); right = λ such r. subst AreRouted (sym e) r }

-- a reply is ready, where there is one
abbrev pub readied : ServerEnds → ℕ → Option (List ℕ) → ServerEnds
readied v end None = v
readied v end (Some bytes) = record v { ready = v.ready ++ record { end = end; bytes = bytes } ∷ [] }

pub readied_ends : (old new : ServerEnds) (end : ℕ) (reply : Option (List ℕ)) → new ≡ readied old end reply → KeepsEnds (MayAnswerTo old.told end reply) old new
readied_ends old new end None e = same_ends ⊤ old new e
readied_ends old new end (Some bytes) e = record {
  more = [];
  grown = ap (λ (v : ServerEnds). v.told) e ∙ sym (append-nil old.told);
  right = λ a r. subst AreRouted (sym e) (record {
    executed = r.executed;
    delivered = r.delivered;
    sent = r.sent;
    ready = every_append (Answers old.told) old.ready (record { end = end; bytes = bytes } ∷ []) r.ready (a, tt);
    held = r.held;
  });
}

-- a reply is held
pub held_ends : (old new : ServerEnds) (reply : Routed) → new ≡ record old { held = old.held ++ reply ∷ [] } → KeepsEnds (Answers old.told reply) old new
held_ends old new reply e = record {
  more = [];
  grown = ap (λ (v : ServerEnds). v.told) e ∙ sym (append-nil old.told);
  right = λ a r. subst AreRouted (sym e) (record {
    executed = r.executed;
    delivered = r.delivered;
    sent = r.sent;
    ready = r.ready;
    held = every_append (Answers old.told) old.held (reply ∷ []) r.held (a, tt);
  });
}

-- a reply that was held is ready
pub moved_ends : (old new : ServerEnds) (place : ℕ) (d : Routed) → place < length old.held → d ≡ get_or old.held place d → new ≡ record old { ready = old.ready ++ d ∷ []; held = remove old.held place } → KeepsEnds ⊤ old new
moved_ends old new place d lt is e = record {
  more = [];
  grown = ap (λ (v : ServerEnds). v.told) e ∙ sym (append-nil old.told);
  right = λ such r. subst AreRouted (sym e) (record {
    executed = r.executed;
    delivered = r.delivered;
    sent = r.sent;
    ready = every_append (Answers old.told) old.ready (d ∷ []) r.ready (subst (Answers old.told) (sym is) (every_get (Answers old.told) place old.held d lt r.held), tt);
    held = every_append (Answers old.told) (take place old.held) (drop (suc place) old.held) (every_front (Answers old.told) place old.held r.held) (every_rest (Answers old.told) (suc place) old.held r.held);
  });
}

-- ---- from one part of a turn to the next

-- a step that holds under no premise
pub ends_any : (P : Type 0) (a b : ServerEnds) → KeepsEnds ⊤ a b → KeepsEnds P a b
ends_any P a b k = record { more = k.more; grown = k.grown; right = λ such r. k.right tt r }

pub sent_after : {P : Type 0} (old new : ServerEnds) (r : Routed) → KeepsEnds P old new → IsSentBy old.told r → IsSentBy new.told r
sent_after old new r k s = subst (λ (t : List Told). IsSentBy t r) (sym k.grown) (sent_by_on old.told k.more r s)

pub answer_after : {P : Type 0} (old new : ServerEnds) (end : ℕ) (reply : Option (List ℕ)) → KeepsEnds P old new → MayAnswerTo old.told end reply → MayAnswerTo new.told end reply
answer_after old new end reply k a = subst (λ (t : List Told). MayAnswerTo t end reply) (sym k.grown) (may_answer_on old.told k.more end reply a)

-- ---- replies that are released

reply_left : (held : List HeldReply) (place : ℕ) → map reply_in (remove held place) ≡ remove (map reply_in held) place
reply_left held place =
    map-append reply_in (take place held) (drop (suc place) held) ∙ ap (λ (t : List Routed). t ++ map reply_in (drop (suc place) held)) (sym (take-map reply_in place held))
    ∙ ap (λ (t : List Routed). take place (map reply_in held) ++ t) (sym (drop-map reply_in (suc place) held))

-- the first reply that is due is ready
pub released_ends : (turns : List ℕ) (old new : ServerEnds) (held : List HeldReply) (place : ℕ) (h : HeldReply) (due : Option ℕ) → old.held ≡ map reply_in held → due ≡ position (λ (x : HeldReply). are_past turns x.waits) held → due ≡ Some place
    → h ≡ get_or held place h → new.ready ≡ old.ready ++ h.reply ∷ [] → new.held ≡ map reply_in (remove held place) → new ≡ record old { ready = new.ready; held = new.held } → KeepsEnds ⊤ old new
released_ends turns old new held place h due seen p d is r k e =
    let lt = due_reply turns held due place p d in
    let there : h.reply ≡ get_or old.held place h.reply = ap reply_in is ∙ sym (get_or-map reply_in held place h h.reply lt) ∙ ap (λ (t : List Routed). get_or t place h.reply) (sym seen) in
    let left : new.held ≡ remove old.held place = k ∙ reply_left held place ∙ ap (λ (t : List Routed). remove t place) (sym seen) in
    moved_ends old new place h.reply (omega (arith, lt, ap length seen, length-map held reply_in)) there
    (e ∙ ap (λ (t : List Routed). record old { ready = t; held = new.held }) r ∙ ap (λ (t : List Routed). record old { ready = old.ready ++ h.reply ∷ []; held = t }) left)

-- the replies that are ready stay
pub unready_ends : (old new : ServerEnds) → new ≡ record old { ready = new.ready } → new.ready ≡ old.ready → KeepsEnds ⊤ old new
unready_ends old new shape e = same_ends ⊤ old new (shape ∙ ap (λ (t : List Routed). record old { ready = t }) e)
