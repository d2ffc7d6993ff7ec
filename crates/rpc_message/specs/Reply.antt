-- Replies (RFC 5531, section 9: reply_body, accepted_reply and rejected_reply).
use Rattle.std.specs.Prelude.{◌≡◌, ◌≤◌, ◌+◌, ℕ, zero, suc, List, [], ◌++◌, Option, Some, None, Result, Ok, Err, IfOk, IsOk, not, nat_lt, ◌==◌, if◌then◌else◌}
use Rattle.xdr_codec.specs.declared.reader.XdrFault.{XdrFault}
use Rattle.xdr_codec.specs.declared.reader.XdrFault.TheVariants.{BadValue}
use Rattle.xdr_codec.specs.Reading.{◌>>=◌, u32_at}
use Rattle.xdr_codec.specs.Whole.{ended}
use Rattle.xdr_codec.specs.Spelling.{u32_bytes}
use Rattle.xdr_codec.specs.Spells.{◌⨾◌, SpellsU32}
use Rattle.rpc_message.specs.declared.reply.Reply.{Reply}
use Rattle.rpc_message.specs.declared.reply.Reply.TheVariants as replies
use Rattle.rpc_message.specs.declared.reply.ReplyFault.{ReplyFault}
use Rattle.rpc_message.specs.declared.reply.ReplyFault.TheVariants.{NotReply, Xdr}
use Rattle.rpc_message.specs.Auth.{auth_at, SpellsAuth}
use Rattle.rpc_message.specs.Cred.{none_bytes}
use Rattle.rpc_message.specs.Call.{Is}

-- a reply, wherever its results lie
pub data RpcReply : Type 0 where
  Accepted : (xid : ℕ) (results : List ℕ) → RpcReply
  Refused : (xid stat low high : ℕ) → RpcReply
  Denied : (xid stat first second : ℕ) → RpcReply

abbrev pub reply_of : Reply → RpcReply
reply_of (replies.Accepted xid results) = Accepted xid results.now
reply_of (replies.Refused xid stat low high) = Refused xid stat low high
reply_of (replies.Denied xid stat first second) = Denied xid stat first second

abbrev pub reply_xid : RpcReply → ℕ
reply_xid (Accepted xid results) = xid
reply_xid (Refused xid stat low high) = xid
reply_xid (Denied xid stat first second) = xid

-- ---- what reading gives

-- two words and nothing after them
unfoldable pub range_at : List ℕ → Result (ℕ × ℕ) XdrFault
range_at bytes = do
  low ← u32_at bytes
  high ← u32_at low.1
  ended (low.0, high.0) high.1

-- a word and nothing after it
unfoldable pub one_word_at : List ℕ → Result ℕ XdrFault
one_word_at bytes = u32_at bytes >>= λ word. ended word.0 word.1

-- by the accept status: the results, low and high, or nothing
abbrev pub accepted_as : ℕ → ℕ → List ℕ → Result RpcReply XdrFault
accepted_as xid stat bytes =
    if stat == 0 then Ok (Accepted xid bytes) else
    (if stat == 2 then (range_at bytes >>= λ range. Ok (Refused xid 2 range.0 range.1)) else
    (if nat_lt 5 stat then Err BadValue else ended (Refused xid stat 0 0) bytes))

unfoldable pub accepted_at : ℕ → List ℕ → Result RpcReply XdrFault
accepted_at xid bytes = do
  verifier ← auth_at bytes
  stat ← u32_at verifier.1
  accepted_as xid stat.0 stat.1

-- by the reject status: low and high, or the auth status
abbrev pub denied_as : ℕ → ℕ → List ℕ → Result RpcReply XdrFault
denied_as xid stat bytes =
    if stat == 0 then (range_at bytes >>= λ range. Ok (Denied xid 0 range.0 range.1)) else
    (if stat == 1 then (one_word_at bytes >>= λ status. Ok (Denied xid 1 status 0)) else Err BadValue)

unfoldable pub denied_at : ℕ → List ℕ → Result RpcReply XdrFault
denied_at xid bytes = u32_at bytes >>= λ stat. denied_as xid stat.0 stat.1

-- by the reply status: accepted or denied
unfoldable pub answer_at : ℕ → List ℕ → Result RpcReply XdrFault
answer_at xid bytes = do
  status ← u32_at bytes
  if status.0 == 0 then accepted_at xid status.1 else (if status.0 == 1 then denied_at xid status.1 else Err BadValue)

-- reading goes on after a field, or its fault is the reply's
infixl 10 ◌>>=-reply◌
abbrev pub ◌>>=-reply◌ : {A B : Type 0} → Result A XdrFault → (A → Result B ReplyFault) → Result B ReplyFault
(Ok x) >>=-reply f = f x
(Err e) >>=-reply f = Err (Xdr e)

-- what reading a reply gives, or the first fault in order of spelling
unfoldable pub reply_at : List ℕ → Result RpcReply ReplyFault
reply_at bytes =
    u32_at bytes >>=-reply λ xid. u32_at xid.1 >>=-reply λ kind. if not (kind.0 == 1) then Err NotReply
    else (answer_at xid.0 kind.1 >>=-reply λ reply. Ok reply)

-- what a function gave, seen by view, is what reading a reply gives
abbrev pub GivesReply : {X Y : Type 0} → (X → Y) → Result X ReplyFault → Result Y ReplyFault → Type 0
GivesReply view (Ok x) read = read ≡ Ok (view x)
GivesReply view (Err f) read = read ≡ Err f

-- ---- what is spelled

-- nothing follows, and these are 0
pub record SpellsNone (low high : ℕ) (bytes : List ℕ) : Type 0 where
  pub low_is : low ≡ 0
  pub high_is : high ≡ 0
  pub is : bytes ≡ []

-- low and high follow PROG_MISMATCH alone
abbrev pub SpellsRange : ℕ → ℕ → ℕ → List ℕ → Type 0
SpellsRange (suc (suc zero)) low high = SpellsU32 low ⨾ SpellsU32 high
SpellsRange _ low high = SpellsNone low high

-- an accept status from 1 to 5, and what follows it
pub record SpellsRefused (stat low high : ℕ) (bytes : List ℕ) : Type 0 where
  pub refused : 1 ≤ stat
  pub known : stat ≤ 5
  pub is : (SpellsU32 stat ⨾ SpellsRange stat low high) bytes

-- RPC_MISMATCH with low and high, or AUTH_ERROR with an auth status
abbrev pub SpellsDenied : ℕ → ℕ → ℕ → List ℕ → Type 0
SpellsDenied zero low high = SpellsU32 0 ⨾ SpellsU32 low ⨾ SpellsU32 high
SpellsDenied (suc zero) status second = SpellsU32 1 ⨾ SpellsU32 status ⨾ SpellsNone second 0
SpellsDenied _ first second = λ bytes. ⊥

-- the reply status, and what follows it
abbrev pub SpellsAnswer : RpcReply → List ℕ → Type 0
SpellsAnswer (Accepted xid results) = SpellsU32 0 ⨾ SpellsAuth ⨾ SpellsU32 0 ⨾ Is results
SpellsAnswer (Refused xid stat low high) = SpellsU32 0 ⨾ SpellsAuth ⨾ SpellsRefused stat low high
SpellsAnswer (Denied xid stat first second) = SpellsU32 1 ⨾ SpellsDenied stat first second

-- A reply: xid, message type 1, and the answer.
abbrev pub SpellsReply : RpcReply → List ℕ → Type 0
SpellsReply reply = SpellsU32 (reply_xid reply) ⨾ SpellsU32 1 ⨾ SpellsAnswer reply

-- What was read is what the record spells, and what it spells is read.
pub record FindsReply {X : Type 0} (view : X → RpcReply) (result : Result X ReplyFault) (bytes : List ℕ) : Type 0 where
  pub found : IfOk result (λ x. SpellsReply (view x) bytes)
  pub only : (reply : RpcReply) → SpellsReply reply bytes → IfOk result (λ x. view x ≡ reply) × IsOk result

-- the results of the call of an xid
abbrev pub SpellsAccepted : ℕ → List ℕ → List ℕ → Type 0
SpellsAccepted xid results = SpellsReply (Accepted xid results)

-- the number of a refusal: the accept status, 100 for RPC_MISMATCH, or 200 plus the auth status
abbrev pub refusal_number : RpcReply → Option ℕ
refusal_number (Accepted xid results) = None
refusal_number (Refused xid stat low high) = Some stat
refusal_number (Denied xid zero low high) = Some 100
refusal_number (Denied xid (suc n) status second) = Some (200 + status)

-- the refusal of a number, of the call of an xid
pub record SpellsRefusal (xid number : ℕ) (bytes : List ℕ) : Type 0 where
  pub reply : RpcReply
  pub of : reply_xid reply ≡ xid
  pub numbered : refusal_number reply ≡ Some number
  pub is : SpellsReply reply bytes

-- ---- what is written

-- xid, message type 1, reply status 0 and the verifier AUTH_NONE
unfoldable pub verified_bytes : ℕ → List ℕ
verified_bytes xid = u32_bytes xid ++ u32_bytes 1 ++ u32_bytes 0 ++ none_bytes

-- a reply up to its results
unfoldable pub accepted_bytes : ℕ → List ℕ
accepted_bytes xid = verified_bytes xid ++ u32_bytes 0

-- low and high after PROG_MISMATCH alone
abbrev pub range_bytes : ℕ → ℕ → ℕ → List ℕ
range_bytes stat low high = if stat == 2 then u32_bytes low ++ u32_bytes high else []

unfoldable pub refused_bytes : ℕ → ℕ → ℕ → ℕ → List ℕ
refused_bytes xid stat low high = verified_bytes xid ++ u32_bytes stat ++ range_bytes stat low high

-- xid, message type 1 and reply status 1
unfoldable pub denied_opening_bytes : ℕ → List ℕ
denied_opening_bytes xid = u32_bytes xid ++ u32_bytes 1 ++ u32_bytes 1

-- a second word after RPC_MISMATCH alone
abbrev pub second_bytes : ℕ → ℕ → List ℕ
second_bytes stat second = if stat == 0 then u32_bytes second else []

unfoldable pub denied_bytes : ℕ → ℕ → ℕ → ℕ → List ℕ
denied_bytes xid stat first second = denied_opening_bytes xid ++ u32_bytes stat ++ u32_bytes first ++ second_bytes stat second
