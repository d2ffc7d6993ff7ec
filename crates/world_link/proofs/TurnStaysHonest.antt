-- What the parts of a turn keep of an honest world.
use Rattle.std.proofs.Common.{◌≡◌, ◌≤◌, ℕ, Bool, true, false, List, [], ◌∷◌, ◌++◌, length, map, get_or, position, Option, Some, None, Result, Ok, Err, refl, sym, ap, subst, ◌∙◌, arith, if◌then◌else◌, IfOk, ◌==◌}
use Rattle.std.specs.Prelude.{OnOk, OnErr}
use Rattle.std.specs.List.{remove}
use Rattle.std.proofs.lemmas.Bool.{eqb-true}
use Rattle.std.proofs.lemmas.List.{length-map, get_or-map}
use Rattle.xdr_codec.specs.Bytes.{IsBytes}
use Rattle.nfs_types.specs.declared.verf.Verf.{Verf}
use Rattle.nfs_file_calls.specs.declared.call.FileCall.{FileCall}
use Rattle.nfs_file_calls.specs.declared.call.FileCall.TheVariants as files
use Rattle.world_model.specs.declared.entry.Entry.{Entry}
use Rattle.world_model.specs.declared.entry.Entry.TheVariants as entries
use Rattle.world_model.specs.declared.message.Call.{Call}
use Rattle.world_model.specs.declared.message.Call.TheVariants as calls
use Rattle.world_model.specs.declared.message.Reply.{Reply}
use Rattle.world_model.specs.Lawful.{IsReplied}
use Rattle.world_model.specs.Messages.{SpellsReply}
use Rattle.world_model.specs.Rules.{most_bytes}
use Rattle.world_model.proofs.Places.{At-below, At-last, length_last}
use Rattle.export_fs.specs.View.{View}
use Rattle.export_fs.specs.Executed.{executed}
use Rattle.export_fs.specs.Finding.{file_size}
use Rattle.export_fs.specs.Parts.{verifier, kind, bytes_in, object}
use Rattle.export_fs.specs.Restart.{may_restart, after_restart, after_flush}
use Rattle.export_fs.specs.Spelled.{IsFileSpelled, IsSpelled, HandlesAreBytes}
use Rattle.export_fs.specs.Spelling.{HasSpellingCall}
use Rattle.export_serve.specs.declared.request.Asked.{Asked}
use Rattle.export_serve.specs.declared.request.Asked.TheVariants as askings
use Rattle.export_serve.specs.Asking.{IsSound}
use Rattle.export_serve.specs.Spelling.{RepliesTo}
use Rattle.export_serve.proofs.Refused.{spells_refusal}
use Rattle.world_link.specs.declared.directive.RequestId.{RequestId}
use Rattle.world_link.specs.declared.manner.Manner.{Manner}
use Rattle.world_link.specs.Going.{Goes}
use Rattle.world_link.specs.declared.broken.Broken.{Broken}
use Rattle.world_link.specs.declared.directive.PartialWrite.{PartialWrite}
use Rattle.world_link.specs.Handling.{kept, handled, readied}
use Rattle.world_link.specs.Holding.{HeldView, HeldReply, held_view, are_past}
use Rattle.world_link.specs.Honest.{IsSent, IsAsked, IsAnswer, MayAnswer, IsBound, IsHonest, StaysHonest, MayStand}
use Rattle.world_link.specs.Replay.{stepped, stepped_by, stepped_with}
use Rattle.world_link.specs.Turning.{held}
use Rattle.world_link.specs.View.{ServerView}
use Rattle.world_link.proofs.ServerEntriesOnly.{first_of_two, second_of_two}
use Rattle.world_link.proofs.Releases.{due_reply, seen_left}
use Rattle.world_link.proofs.Replays.{executed_stepped, handled_stepped}
use Rattle.world_link.proofs.RepliesFit.{handled_replies}
use Rattle.world_link.proofs.AnswersAreHonest.{MayBreak}
use Rattle.world_link.proofs.EntriesKeepHonest.{sent_on, answer_on, honest_more, told_stands, foreign_stands, restart_stands, flushed_stands, honest_ready, honest_held, honest_moved}

-- ---- steps

pub same_stays : (old new : ServerView) → new ≡ old → StaysHonest old new
same_stays old new e = record { stays = λ start h. subst (IsHonest start) (sym e) h }

pub then_stays : (a b c : ServerView) → StaysHonest a b → StaysHonest b c → StaysHonest a c
then_stays a b c p q = record { stays = λ start h. q.stays start (p.stays start h) }

-- neither the export nor what is told is changed
pub left_stays : (old new : ServerView) → new ≡ record old { export = new.export; entries = new.entries; partials = new.partials } → new.export ≡ old.export → new.entries ≡ old.entries → new.partials ≡ old.partials → StaysHonest old new
left_stays old new shape export entries partials =
    same_stays old new (shape ∙ ap (λ (z : View). record old { export = z; entries = new.entries; partials = new.partials }) export
    ∙ ap (λ (es : List Entry). record old { export = old.export; entries = es; partials = new.partials }) entries
    ∙ ap (λ (t : List Broken). record old { export = old.export; entries = old.entries; partials = t }) partials)

-- an entry was told, and the export took its step
grown_stays : (old new : ServerView) (part : Option PartialWrite) (e : Entry) (w : View) → new ≡ record old { export = new.export; entries = new.entries; partials = new.partials } → new.entries ≡ old.entries ++ e ∷ []
    → new.partials ≡ kept old.partials (length old.entries) part → new.export ≡ w → w ≡ stepped part old.export e → ((start : View) → IsHonest start old → MayStand start old part e) → StaysHonest old new
grown_stays old new part e w shape grown beside is step may =
    let all : new ≡ record old { export = w; entries = old.entries ++ e ∷ []; partials = kept old.partials (length old.entries) part } =
    shape ∙ ap (λ (z : View). record old { export = z; entries = new.entries; partials = new.partials }) is ∙ ap (λ (es : List Entry). record old { export = w; entries = es; partials = new.partials }) grown
    ∙ ap (λ (t : List Broken). record old { export = w; entries = old.entries ++ e ∷ []; partials = t }) beside in
    record { stays = λ start h. subst (IsHonest start) (sym all) (honest_more start old part e w step h (may start h)) }

-- ---- calls

file_spelled : (call : FileCall) → HandlesAreBytes (calls.File call) → HasSpellingCall (calls.File call) → IsFileSpelled call
file_spelled files.Null b k = tt
file_spelled (files.GetAttr file) b k = b
file_spelled (files.SetAttr file set guard) b k = b
file_spelled (files.Access file bits) b k = b
file_spelled (files.Read file offset count) b k = b
file_spelled (files.Write file offset how bytes) b k = (b, k.0)
file_spelled (files.FsStat file) b k = b
file_spelled (files.FsInfo file) b k = b
file_spelled (files.PathConf file) b k = b
file_spelled (files.Commit file offset count) b k = b

spelled_of : (call : Call) → HandlesAreBytes call → HasSpellingCall call → IsSpelled call
spelled_of (calls.File call) b k = file_spelled call b k
spelled_of (calls.Dir call) b k = b
spelled_of (calls.Mount call) b k = tt

-- a call of the client was answered, and it was told
pub told_stays : (old new : ServerView) (part : Option PartialWrite) (manner : Manner) (xid : ℕ) (call : Call) (reply : Reply) → reply ≡ (handled part manner old.export call).1 → new ≡ record old { export = new.export; entries = new.entries; partials = new.partials }
    → new.entries ≡ old.entries ++ entries.Executed xid call reply ∷ [] → new.partials ≡ kept old.partials (length old.entries) part → new.export ≡ (handled part manner old.export call).0 → HandlesAreBytes call → MayBreak part call → IsBound manner.limit
    → IsAsked old.entries (askings.Serve xid call) → StaysHonest old new
told_stays old new part manner xid call reply r shape grown beside is b w m a =
    grown_stays old new part (entries.Executed xid call reply) (handled part manner old.export call).0 shape grown beside is (sym (handled_stepped part manner old.export call) ∙ ap (stepped_with part old.export call) (sym r))
    (λ start h. subst (λ (z : Reply). MayStand start old part (entries.Executed xid call z)) (sym r) (told_stands start old part manner xid call a.bytes h w m (spelled_of call b a.sound.1) a.sent a.sound.0))

-- the record of its reply answers
pub told_answers : {E : Type 0} (old new : List Entry) (part : Option PartialWrite) (manner : Manner) (v : View) (xid : ℕ) (call : Call) (reply : Reply) (result : Result (List ℕ) E) → reply ≡ (handled part manner v call).1 → new ≡ old ++ entries.Executed xid call reply ∷ []
    → IfOk result (λ bytes. (c : Call) → RepliesTo c reply → SpellsReply xid c reply bytes) → IfOk result (λ bytes. length bytes ≤ most_bytes) → IfOk result (IsAnswer new)
told_answers old new part manner v xid call reply (Err e) r grown spells short = tt
told_answers old new part manner v xid call reply (Ok bytes) r grown spells short =
    subst (λ (es : List Entry). IsAnswer es bytes) (sym grown) (record {
      most = short;
      is = IsReplied.replied (length old) xid call reply (omega (arith, length_last old (entries.Executed xid call reply))) (At-last old (entries.Executed xid call reply)) (spells call (subst (RepliesTo call) (sym r) (handled_replies part manner v call)));
    })

-- a call of another client was executed, and it was told
pub foreign_stays : (old new : ServerView) (call : Call) (reply : Reply) → reply ≡ (executed old.export call).1 → new ≡ record old { export = new.export; entries = new.entries; partials = new.partials } → new.entries ≡ old.entries ++ entries.Foreign call reply ∷ [] → new.partials ≡ old.partials → new.export ≡ (executed old.export call).0 → IsSpelled call → StaysHonest old new
foreign_stays old new call reply r shape grown beside is b =
    grown_stays old new None (entries.Foreign call reply) (executed old.export call).0 shape grown beside is (sym (executed_stepped old.export call) ∙ ap (stepped_by old.export call) (sym r))
    (λ start h. subst (λ (z : Reply). MayStand start old None (entries.Foreign call z)) (sym r) (foreign_stands start old call h b))

-- a restart that was made, and it was told
pub restarted_stays : (old new : ServerView) (made : Bool) (verf : Verf) → made ≡ may_restart old.export → new.export ≡ (if may_restart old.export then after_restart old.export else old.export) → made ≡ true → new ≡ record old { export = new.export; entries = new.entries; partials = new.partials } → new.entries ≡ old.entries ++ entries.Reboot verf ∷ [] → new.partials ≡ old.partials → verf ≡ verifier new.export → StaysHonest old new
restarted_stays old new made verf d f t shape grown beside v =
    let is : new.export ≡ after_restart old.export = f ∙ first_of_two (may_restart old.export) (after_restart old.export) old.export (sym d ∙ t) in
    let known : verf ≡ verifier (after_restart old.export) = v ∙ ap verifier is in
    grown_stays old new None (entries.Reboot verf) (after_restart old.export) shape grown beside is refl (λ start h. subst (λ (z : Verf). MayStand start old None (entries.Reboot z)) (sym known) (restart_stands start old h (sym d ∙ t)))

-- no restart was made
pub unstarted_stays : (old new : ServerView) (made : Bool) → made ≡ may_restart old.export → new.export ≡ (if may_restart old.export then after_restart old.export else old.export) → made ≡ false → new ≡ record old { export = new.export; entries = new.entries; partials = new.partials } → new.entries ≡ old.entries → new.partials ≡ old.partials → StaysHonest old new
unstarted_stays old new made d f t shape same beside = left_stays old new shape (f ∙ second_of_two (may_restart old.export) (after_restart old.export) old.export (sym d ∙ t)) same beside

sized_file : (v : View) (file : List ℕ) (size : ℕ) → file_size v file ≡ Some size → kind v.nodes file ≡ 1
sized_file v file size e = by_kind (kind v.nodes file == 1) refl e
  where
    by_kind : (b : Bool) → (kind v.nodes file == 1) ≡ b → (if b then Some (length (bytes_in (object v.nodes file))) else None) ≡ Some size → kind v.nodes file ≡ 1
    by_kind true q e = eqb-true (kind v.nodes file) 1 q
    by_kind false q e = absurd (cc)

-- a file became stable, and it was told
pub flushed_stays : (old new : ServerView) (file : List ℕ) (size : ℕ) → new ≡ record old { export = new.export; entries = new.entries; partials = new.partials } → new.entries ≡ old.entries ++ entries.Flushed file 0 size ∷ [] → new.partials ≡ old.partials → new.export ≡ after_flush old.export file 0 size → IsBytes file → file_size old.export file ≡ Some size → StaysHonest old new
flushed_stays old new file size shape grown beside is b s =
    grown_stays old new None (entries.Flushed file 0 size) (after_flush old.export file 0 size) shape grown beside is refl (λ start h. flushed_stands start old file size h b (sized_file old.export file size s))

-- ---- what a record asks for

-- a call that is to be executed was asked for
pub asked_serve : (es : List Entry) (asked : Asked) (xid : ℕ) (call : Call) → asked ≡ askings.Serve xid call → IsAsked es asked → IsAsked es (askings.Serve xid call)
asked_serve es asked xid call q a = subst (IsAsked es) q a

-- a refusal of what was sent answers it
pub refused_answers : (es : List Entry) (asked : Asked) (xid : ℕ) (bytes short : List ℕ) → asked ≡ askings.Refuse xid bytes → short ≡ bytes → length short ≤ most_bytes → IsAsked es asked → IsAnswer es short
refused_answers es asked xid bytes short q same most a =
    let s : IsSound a.bytes (askings.Refuse xid bytes) = subst (IsSound a.bytes) q a.sound in
    let r = spells_refusal xid bytes s.1 in
    record {
      most = most;
      is = subst (IsReplied es (length es)) (sym same) (IsReplied.refused a.sent.0 xid r.0 a.bytes (At-below es a.sent.0 (entries.Sent a.bytes) a.sent.1) a.sent.1 s.0 r.1);
    }

-- ---- copies

asked_copy : (v : ServerView) (s : RequestId) (rec : List ℕ) (asked : Asked) (start : View) → v.sent s ≡ Some rec → IsSound rec asked → IsHonest start v → IsAsked v.entries asked
asked_copy v s rec asked start q sound h = record { bytes = rec; sent = h.sent s rec q; sound = sound }

pub copied_stays : (old mid new : ServerView) (s : RequestId) (rec : List ℕ) (asked : Asked) (reply : Option (List ℕ)) → old.sent s ≡ Some rec → IsSound rec asked → (IsAsked old.entries asked → StaysHonest old mid) → (IsAsked old.entries asked → MayAnswer mid.entries reply)
    → (MayAnswer mid.entries reply → StaysHonest mid new) → StaysHonest old new
copied_stays old mid new s rec asked reply q sound first answers second =
    record { stays = λ start h. (second (answers (asked_copy old s rec asked start q sound h))).stays start ((first (asked_copy old s rec asked start q sound h)).stays start h) }

pub copied_part : (old mid : ServerView) (s : RequestId) (rec : List ℕ) (asked : Asked) → old.sent s ≡ Some rec → IsSound rec asked → (IsAsked old.entries asked → StaysHonest old mid) → StaysHonest old mid
copied_part old mid s rec asked q sound first = record { stays = λ start h. (first (asked_copy old s rec asked start q sound h)).stays start h }

-- ---- replies

ready_stays : (old new : ServerView) (bytes : List ℕ) → new ≡ record old { ready = old.ready ++ bytes ∷ [] } → IsAnswer old.entries bytes → StaysHonest old new
ready_stays old new bytes e a = record { stays = λ start h. subst (IsHonest start) (sym e) (honest_ready start old bytes a h) }

held_stays : (old new : ServerView) (x : HeldView) → new ≡ record old { held = old.held ++ x ∷ [] } → IsAnswer old.entries x.bytes → StaysHonest old new
held_stays old new x e a = record { stays = λ start h. subst (IsHonest start) (sym e) (honest_held start old x a h) }

-- the replies that are ready stay
pub unready_stays : (old new : ServerView) → new ≡ record old { ready = new.ready } → new.ready ≡ old.ready → StaysHonest old new
unready_stays old new shape e = same_stays old new (shape ∙ ap (λ (t : List (List ℕ)). record old { ready = t }) e)

-- a reply is made ready, where there is one
pub ready_result_stays : {T E : Type 0} (old new : ServerView) (reply : Option (List ℕ)) (result : Result T E) → OnOk result (new ≡ readied old reply) → OnErr result (new ≡ old) → MayAnswer old.entries reply → StaysHonest old new
ready_result_stays old new reply (Err e) done left a = same_stays old new left
ready_result_stays old new None (Ok x) done left a = same_stays old new done
ready_result_stays old new (Some bytes) (Ok x) done left a = ready_stays old new bytes done a

pub held_result_stays : {T E : Type 0} (old new : ServerView) (bytes : List ℕ) (waits : List RequestId) (result : Result T E) → OnOk result (new ≡ held old bytes waits) → OnErr result (new ≡ old) → IsAnswer old.entries bytes → StaysHonest old new
held_result_stays old new bytes waits (Err e) done left a = same_stays old new left
held_result_stays old new bytes waits (Ok x) done left a = held_stays old new (record { bytes = bytes; waits = waits }) done a

pub moved_stays : (turns : List ℕ) (v w : ServerView) (held : List HeldReply) (place : ℕ) (h : HeldReply) (due : Option ℕ) → v.held ≡ map held_view held → due ≡ position (λ (x : HeldReply). are_past turns x.waits) held → due ≡ Some place
    → h ≡ get_or held place h → w.ready ≡ v.ready ++ h.reply.bytes ∷ [] → w.held ≡ map held_view (remove held place) → w ≡ record v { ready = w.ready; held = w.held } → StaysHonest v w
moved_stays turns v w held place h due seen p q is r k e =
    let lt = due_reply turns held due place p q in
    let there : held_view h ≡ get_or v.held place (held_view h) = ap held_view is ∙ sym (get_or-map held_view held place h (held_view h) lt) ∙ ap (λ (t : List HeldView). get_or t place (held_view h)) (sym seen) in
    let ready : w.ready ≡ v.ready ++ (get_or v.held place (held_view h)).bytes ∷ [] = r ∙ ap (λ (x : HeldView). v.ready ++ x.bytes ∷ []) there in
    let left : w.held ≡ remove v.held place = k ∙ seen_left held place ∙ ap (λ (t : List HeldView). remove t place) (sym seen) in
    let all : w ≡ record v { ready = v.ready ++ (get_or v.held place (held_view h)).bytes ∷ []; held = remove v.held place } =
    e ∙ ap (λ (t : List (List ℕ)). record v { ready = t; held = w.held }) ready ∙ ap (λ (t : List HeldView). record v { ready = v.ready ++ (get_or v.held place (held_view h)).bytes ∷ []; held = t }) left in
    record { stays = λ start known. subst (IsHonest start) (sym all) (honest_moved start v place (held_view h) (omega (arith, lt, ap length seen, length-map held held_view)) known) }

-- ---- from one part of a turn to the next

pub sent_goes : (old new : ServerView) (rec : List ℕ) → Goes old new → IsSent old.entries rec → IsSent new.entries rec
sent_goes old new rec g s = subst (λ (es : List Entry). IsSent es rec) (sym g.grown) (sent_on old.entries g.more rec s)

pub answer_goes : (old new : ServerView) (reply : Option (List ℕ)) → Goes old new → MayAnswer old.entries reply → MayAnswer new.entries reply
answer_goes old new None g a = tt
answer_goes old new (Some bytes) g a = subst (λ (es : List Entry). IsAnswer es bytes) (sym g.grown) (answer_on old.entries g.more bytes a)
