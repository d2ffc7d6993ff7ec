-- What an open found is one file: that which its last reply names.
use Rattle.core_session.proofs.Prelude.{◌≡◌, ℕ, List, Option, Some, Result, Ok, Err, sym, ap, subst, ◌∙◌, arith, Attr, Wcc, DirCall, DirKept, Entry, Sent, Delivered, Call, Reply, At, HasXid, SpellsCall, SpellsReply, Modes, LastReply, Finds, At-one, IsNfs, one-call}
use Rattle.world_model.specs.Messages.{SpellsResults}
use Rattle.claims.specs.Slots.{asked, looked_up, made}
use Rattle.xdr_codec.specs.declared.reader.XdrFault.{XdrFault}
use Rattle.nfs_dir_calls.specs.declared.call.DirCall.TheVariants as dirs
use Rattle.nfs_dir_calls.specs.declared.keeping.DirKept.TheVariants as found
use Rattle.nfs_dir_calls.specs.Calls.{dir_proc}
use Rattle.nfs_dir_calls.proofs.Replies.{dir_reply_codec}
use Rattle.nfs_file_calls.specs.declared.call.FileCall.TheVariants as files
use Rattle.rpc_message.specs.declared.reply.ReplyFault.{ReplyFault}
use Rattle.rpc_message.specs.Reply.{RpcReply, Accepted, Refused as RpcRefused, Denied}
use Rattle.rpc_message.proofs.ReplyLaws.{reply_again}
use Rattle.world_model.specs.declared.message.Call.TheVariants as calls
use Rattle.world_model.specs.declared.message.Reply.TheVariants as replies

-- ---- a record is one reply

results-or : List ℕ → Result RpcReply ReplyFault → List ℕ
results-or rs (Ok (Accepted x results)) = results
results-or rs (Ok (RpcRefused x a b c)) = rs
results-or rs (Ok (Denied x a b c)) = rs
results-or rs (Err fault) = rs

found-reply : RpcReply → Result RpcReply ReplyFault
found-reply r = Ok r

one-results : (x y : ℕ) (a b bytes : List ℕ) → found-reply (Accepted x a) ≡ found-reply (Accepted y b) → a ≡ b
unfolding results-or found-reply
one-results x y a b bytes e = ap (results-or a) e

ok-is : {A : Type 0} (a b : A) → ◌≡◌ {A = Result A XdrFault} (Ok a) (Ok b) → a ≡ b
ok-is a b e = cc

one-dir-reply : (x : ℕ) (call : DirCall) (a b : DirKept) (bytes : List ℕ) → SpellsReply x (calls.Dir call) (replies.Dir a) bytes → SpellsReply x (calls.Dir call) (replies.Dir b) bytes → a ≡ b
unfolding found-reply
one-dir-reply x call a b bytes s t =
    let same : s.results ≡ t.results = one-results x x s.results t.results bytes (sym (reply_again (Accepted x s.results) bytes s.accepted) ∙ reply_again (Accepted x t.results) bytes t.accepted) in
    let first : SpellsResults (calls.Dir call) (replies.Dir a) t.results = subst (SpellsResults (calls.Dir call) (replies.Dir a)) same s.is in
    ok-is a b (sym ((dir_reply_codec (dir_proc call)).again a t.results first) ∙ (dir_reply_codec (dir_proc call)).again b t.results t.is)

-- ---- the last reply answers one call

some-is : (a b : ℕ) → Some a ≡ Some b → a ≡ b
some-is a b e = cc

came-is : (a b : List ℕ) → Delivered a ≡ Delivered b → a ≡ b
came-is a b e = cc

sent-is : (a b : List ℕ) → Sent a ≡ Sent b → a ≡ b
sent-is a b e = cc

record SameLast (h : List Entry) (n : ℕ) (call other : Call) (k : LastReply h n call) (l : LastReply h n other) : Type 0 where
  call_is : other ≡ call
  xid : l.xid ≡ k.xid
  bytes : l.bytes ≡ k.bytes

same-last : (h : List Entry) (n : ℕ) (call other : Call) → IsNfs call → (k : LastReply h n call) (l : LastReply h n other) → SameLast h n call other k l
same-last h n call other nfs k l =
    let low = k.last l.at l.bytes l.got l.before in
    let high = l.last k.at k.bytes k.got k.before in
    let at : l.at ≡ k.at = omega (arith, low, high) in
    let bytes : l.bytes ≡ k.bytes = came-is l.bytes k.bytes (At-one h k.at (Delivered l.bytes) (Delivered k.bytes) (subst (λ (i : ℕ). At h i (Delivered l.bytes)) at l.got) k.got) in
    let xid : l.xid ≡ k.xid = some-is l.xid k.xid (sym l.under ∙ subst (λ (b : List ℕ). HasXid b k.xid) (sym bytes) k.under) in
    let under : HasXid l.record_sent k.xid = subst (λ (i : ℕ). HasXid l.record_sent i) xid l.sent.under in
    let first = k.sent.first l.sent_at l.record_sent l.sent.sent under in
    let second = l.sent.first k.sent_at k.record_sent k.sent.sent (subst (λ (i : ℕ). HasXid k.record_sent i) (sym xid) k.sent.under) in
    let sent_at : l.sent_at ≡ k.sent_at = omega (arith, first, second) in
    let sent : l.record_sent ≡ k.record_sent =
    sent-is l.record_sent k.record_sent (At-one h k.sent_at (Sent l.record_sent) (Sent k.record_sent) (subst (λ (i : ℕ). At h i (Sent l.record_sent)) sent_at l.sent.sent) k.sent.sent) in
    let same : call ≡ other = one-call k.xid l.xid call other k.record_sent nfs k.spells (subst (λ (b : List ℕ). SpellsCall l.xid other b) sent l.spells) in
    record { call_is = sym same; xid = xid; bytes = bytes }

-- ---- what an open found is one file

attr-file : (f g : List ℕ) → ◌≡◌ {A = Call} (calls.File (files.GetAttr f)) (calls.File (files.GetAttr g)) → f ≡ g
attr-file f g e = cc

looked-file : (f g : List ℕ) (a b c d : Option Attr) → ◌≡◌ {A = DirKept} (found.Lookup f a b) (found.Lookup g c d) → f ≡ g
looked-file f g a b c d e = cc

made-file : (f g : List ℕ) (a b : Option Attr) (c d : Wcc) → ◌≡◌ {A = DirKept} (found.Create (Some f) a c) (found.Create (Some g) b d) → f ≡ g
made-file f g a b c d e = cc

-- the same reply, read as one to the call of another last reply
moved : (h : List Entry) (n : ℕ) (call other : Call) (k : LastReply h n call) (l : LastReply h n other) (s : SameLast h n call other k l) (reply : Reply)
    → SpellsReply l.xid other reply l.bytes → SpellsReply k.xid call reply k.bytes
moved h n call other k l s reply spells =
    subst (λ (b : List ℕ). SpellsReply k.xid call reply b) s.bytes
    (subst (λ (i : ℕ). SpellsReply i call reply l.bytes) s.xid (subst (λ (c : Call). SpellsReply l.xid c reply l.bytes) s.call_is spells))

pub finds-one : (m : Modes) (h : List Entry) (y : ℕ) (f g : List ℕ) → Finds m h y f → Finds m h y g → f ≡ g
finds-one m h y f g (asked k) (asked l) = attr-file f g (sym (same-last h y _ _ tt k l).call_is)
finds-one m h y f g (asked k) (looked_up nocto d name attr dir l spells) =
    absurd (let no_way : calls.Dir (dirs.Lookup d name) ≡ calls.File (files.GetAttr f) = (same-last h y _ _ tt k l).call_is in cc)
finds-one m h y f g (asked k) (made nocto d name making attr wcc l spells) =
    absurd (let no_way : calls.Dir (dirs.Create d name making) ≡ calls.File (files.GetAttr f) = (same-last h y _ _ tt k l).call_is in cc)
finds-one m h y f g (looked_up nocto d name attr dir k spells) (asked l) =
    absurd (let no_way : calls.File (files.GetAttr g) ≡ calls.Dir (dirs.Lookup d name) = (same-last h y _ _ tt k l).call_is in cc)
finds-one m h y f g (looked_up nocto d name attr dir k spells) (looked_up again e other a b l told) =
    let s = same-last h y (calls.Dir (dirs.Lookup d name)) (calls.Dir (dirs.Lookup e other)) tt k l in
    looked-file f g attr dir a b (one-dir-reply k.xid (dirs.Lookup d name) (found.Lookup f attr dir) (found.Lookup g a b) k.bytes spells
    (moved h y (calls.Dir (dirs.Lookup d name)) (calls.Dir (dirs.Lookup e other)) k l s (replies.Dir (found.Lookup g a b)) told))
finds-one m h y f g (looked_up nocto d name attr dir k spells) (made again e other making a wcc l told) =
    absurd (let no_way : calls.Dir (dirs.Create e other making) ≡ calls.Dir (dirs.Lookup d name) = (same-last h y _ _ tt k l).call_is in cc)
finds-one m h y f g (made nocto d name making attr wcc k spells) (asked l) =
    absurd (let no_way : calls.File (files.GetAttr g) ≡ calls.Dir (dirs.Create d name making) = (same-last h y _ _ tt k l).call_is in cc)
finds-one m h y f g (made nocto d name making attr wcc k spells) (looked_up again e other a b l told) =
    absurd (let no_way : calls.Dir (dirs.Lookup e other) ≡ calls.Dir (dirs.Create d name making) = (same-last h y _ _ tt k l).call_is in cc)
finds-one m h y f g (made nocto d name making attr wcc k spells) (made again e other with_ a w l told) =
    let s = same-last h y (calls.Dir (dirs.Create d name making)) (calls.Dir (dirs.Create e other with_)) tt k l in
    made-file f g attr a wcc w (one-dir-reply k.xid (dirs.Create d name making) (found.Create (Some f) attr wcc) (found.Create (Some g) a w) k.bytes spells
    (moved h y (calls.Dir (dirs.Create d name making)) (calls.Dir (dirs.Create e other with_)) k l s (replies.Dir (found.Create (Some g) a w)) told))
