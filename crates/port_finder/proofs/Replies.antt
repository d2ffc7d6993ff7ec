-- What the record means that answers a call of GETPORT.
use Rattle.std.proofs.Common.{inl, inr, ◌≡◌, ◌≢◌, ◌≤◌, ◌<◌, ◌+◌, ℕ, zero, suc, true, false, ◌||◌, not, cond, ltb, eqb, List, [], length, drop, Option, Some, None, Result, Ok, Err, refl, sym, ap, subst, ◌∙◌, arith}
use Rattle.std.proofs.lemmas.Bool.{eqb-true, eqb-false, ltb-true, ltb-false, le-ltb, ne_eqb}
use Rattle.std.proofs.lemmas.List.{length-drop}
use Rattle.xdr_codec.specs.declared.reader.XdrFault.{XdrFault}
use Rattle.xdr_codec.specs.declared.reader.XdrFault.TheVariants.{Short}
use Rattle.xdr_codec.specs.Reading.{u32_at}
use Rattle.xdr_codec.specs.Spells.{SpellsU32}
use Rattle.xdr_codec.proofs.MoreLaws.{guard_ok, ok_is}
use Rattle.rpc_message.specs.declared.reply.ReplyFault.{ReplyFault}
use Rattle.rpc_message.specs.declared.reply.ReplyFault.TheVariants.{NotReply, Xdr}
use Rattle.rpc_message.specs.Call.{xid_at, value_read}
use Rattle.rpc_message.specs.Reply.{RpcReply, Accepted, Refused, Denied, reply_at, answer_at, ◌>>=-reply◌, SpellsReply as SpellsRpc, SpellsAccepted, SpellsRefusal, refusal_number}
use Rattle.rpc_message.proofs.ReplyLaws.{reply_first}
use Rattle.world_model.specs.Messages.{HasXid}
use Rattle.world_model.specs.Rules.{IsNotReply}
use Rattle.port_finder.specs.declared.reply.Refusal.{Refusal}
use Rattle.port_finder.specs.declared.reply.Refusal.TheVariants as refusals
use Rattle.port_finder.specs.Replies.{denial_number, SpellsPort, Breaks, not_a_reply, unspelled, HasResults, ResultsIn, registered_port, Means}

abbrev some : ℕ → Option ℕ
some n = Some n

abbrev nothing : Option ℕ
nothing = None

-- ---- which record is a reply

some_is : (m n : ℕ) → some m ≡ some n → m ≡ n
some_is m n e = cc

none_is : (n : ℕ) → nothing ≡ some n → ⊥
none_is n e = absurd cc

word_in : Result (ℕ × List ℕ) XdrFault → ℕ
word_in (Ok x) = x.0
word_in (Err f) = 0

u32_long : (bytes : List ℕ) → 4 ≤ length bytes → u32_at bytes ≡ Ok (word_in (u32_at bytes), drop 4 bytes)
unfolding word_in
u32_long bytes long = rw (le-ltb (length bytes) 4 long) refl

-- what reading the first word leaves
pub record IsFirst (bytes : List ℕ) (x : ℕ × List ℕ) : Type 0 where
  pub long : 4 ≤ length bytes
  pub rest : x.1 ≡ drop 4 bytes

u32_first : (bytes : List ℕ) (x : ℕ × List ℕ) → u32_at bytes ≡ Ok x → IsFirst bytes x
u32_first bytes x e =
    let g = guard_ok (ltb (length bytes) 4) Short _ x e in
    record { long = ltb-false _ _ g.0; rest = ap (λ (y : ℕ × List ℕ). y.1) (sym (ok_is _ x g.1)) }

abbrev pair : ℕ → List ℕ → Result (ℕ × List ℕ) XdrFault
pair n rest = Ok (n, rest)

-- a first word is there where it has a value
pub u32_there : (bytes : List ℕ) (k : ℕ) → xid_at bytes ≡ Some k → (4 ≤ length bytes) × (u32_at bytes ≡ Ok (k, drop 4 bytes))
u32_there bytes k e =
    elim (u32_at bytes) as (λ r. u32_at bytes ≡ r → value_read r ≡ Some k → (4 ≤ length bytes) × (u32_at bytes ≡ Ok (k, drop 4 bytes))) [
      | Ok x ↦ λ t f. let w = u32_first bytes x t in (w.long, t ∙ ap (λ n. pair n x.1) (some_is _ _ f) ∙ ap (λ rest. pair k rest) w.rest)
      | Err g ↦ λ t f. absurd cc
    ] refl e

-- The second word of a record says that it is no reply exactly where reading finds so.
pub not_reply_read : (bytes : List ℕ) → IsNotReply bytes → reply_at bytes ≡ Err NotReply
unfolding reply_at
not_reply_read bytes lacks =
    let w = u32_there (drop 4 bytes) lacks.0 lacks.1 in
    let long : 4 ≤ length bytes = omega (arith, w.0, length-drop 4 bytes) in
    rw (u32_long bytes long, w.1, ne_eqb lacks.0 1 lacks.2) refl

abbrev after_kind : ℕ → List ℕ → Result RpcReply ReplyFault
after_kind xid bytes = u32_at bytes >>=-reply λ kind. cond (not (eqb kind.0 1)) (Err NotReply) (answer_at xid kind.1 >>=-reply λ reply. Ok reply)

-- an answer that was read isn't a record that is no reply
answer_is : (r : Result RpcReply XdrFault) → (r >>=-reply λ reply. Ok reply) ≡ Err NotReply → ⊥
answer_is (Ok r) e = absurd cc
answer_is (Err f) e = absurd cc

second_word : (xid : ℕ) (bytes : List ℕ) → after_kind xid bytes ≡ Err NotReply → (kind : ℕ) × HasXid bytes kind × (kind ≢ 1)
second_word xid bytes e =
    elim (u32_at bytes) as (λ r. u32_at bytes ≡ r → (r >>=-reply λ kind. cond (not (eqb kind.0 1)) (Err NotReply) (answer_at xid kind.1 >>=-reply λ reply. Ok reply)) ≡ Err NotReply → (kind : ℕ) × HasXid bytes kind × (kind ≢ 1)) [
      | Ok k ↦ λ t f. (k.0, ap value_read t, differs k f)
      | Err g ↦ λ t f. absurd cc
    ] refl e
  where
    differs : (k : ℕ × List ℕ) → cond (not (eqb k.0 1)) (Err NotReply) (answer_at xid k.1 >>=-reply λ reply. Ok reply) ≡ Err NotReply → k.0 ≢ 1
    differs k f same = answer_is (answer_at xid k.1) (let g : cond (not (eqb 1 1)) (Err NotReply) (answer_at xid k.1 >>=-reply λ reply. Ok reply) ≡ Err NotReply = subst (λ n. cond (not (eqb n 1)) (Err NotReply) (answer_at xid k.1 >>=-reply λ reply. Ok reply) ≡ Err NotReply) same f in g)

pub read_not_reply : (bytes : List ℕ) → reply_at bytes ≡ Err NotReply → IsNotReply bytes
unfolding reply_at
read_not_reply bytes e =
    elim (u32_at bytes) as (λ r. u32_at bytes ≡ r → (r >>=-reply λ xid. after_kind xid.0 xid.1) ≡ Err NotReply → IsNotReply bytes) [
      | Ok x ↦ λ t f. second_word x.0 (drop 4 bytes) (subst (λ (k : List ℕ). after_kind x.0 k ≡ Err NotReply) (u32_first bytes x t).rest f)
      | Err g ↦ λ t f. absurd cc
    ] refl e

-- ---- records that were accepted

results_in : RpcReply → List ℕ
results_in (Accepted x rs) = rs
results_in (Refused x a b c) = []
results_in (Denied x a b c) = []

abbrev read_as : RpcReply → Result RpcReply ReplyFault
read_as r = Ok r

abbrev refused_as : ReplyFault → Result RpcReply ReplyFault
refused_as f = Err f

read_differs : (r : RpcReply) (f : ReplyFault) → read_as r ≡ refused_as f → ⊥
read_differs r f e = absurd cc

-- what was read under the xid that waits
pub has_results : (rec results : List ℕ) (xid x : ℕ) → SpellsRpc (Accepted xid results) rec → ((reply : RpcReply) → SpellsRpc reply rec → Accepted xid results ≡ reply)
    → reply_at rec ≡ Ok (Accepted xid results) → HasXid rec x → HasResults x results rec
unfolding results_in
has_results rec results xid x found only e has =
    let same : xid ≡ x = some_is xid x (sym (reply_first (Accepted xid results) rec found) ∙ has) in
    record {
      is = subst (λ (n : ℕ). SpellsAccepted n results rec) same found;
      only = λ others s. ap results_in (sym (only (Accepted x others) s));
      reply = λ none. read_differs (Accepted xid results) NotReply (sym e ∙ not_reply_read rec none);
      accepted = λ n s. none_is n (subst (λ (r : RpcReply). refusal_number r ≡ some n) (sym (only s.reply s.is)) s.numbered);
    }

-- ---- records that were refused

-- a refusal of that number, under the xid that waits
numbered_so : (rec : List ℕ) (r : RpcReply) (n x : ℕ) → SpellsRpc r rec → refusal_number r ≡ some n → HasXid rec x → SpellsRefusal x n rec
numbered_so rec r n x s numbered has = record { reply = r; of = some_is _ _ (sym (reply_first r rec s) ∙ has); numbered = numbered; is = s }

denied_number : (xid stat first second n : ℕ) → n ≡ denial_number stat first → refusal_number (Denied xid stat first second) ≡ some n
denied_number xid zero first second n e = ap (λ (k : ℕ). some k) (sym e)
denied_number xid (suc m) first second n e =
    let f : n ≡ 200 + first = e ∙ rw (ne_eqb (suc m) 0 (λ none. omega (arith, none))) refl in
    ap (λ (k : ℕ). some k) (sym f)

pub refused_so : (rec : List ℕ) (xid stat low high n x : ℕ) → SpellsRpc (Refused xid stat low high) rec → n ≡ stat → HasXid rec x → SpellsRefusal x n rec
refused_so rec xid stat low high n x s e has = numbered_so rec (Refused xid stat low high) n x s (ap (λ (k : ℕ). some k) (sym e)) has

pub denied_so : (rec : List ℕ) (xid stat first second n x : ℕ) → SpellsRpc (Denied xid stat first second) rec → n ≡ denial_number stat first → HasXid rec x → SpellsRefusal x n rec
denied_so rec xid stat first second n x s e has = numbered_so rec (Denied xid stat first second) n x s (denied_number xid stat first second n e) has

-- a record that isn't a reply
pub not_reply_heard : (x : ℕ) (rec : List ℕ) → reply_at rec ≡ Err NotReply → Breaks x rec 1
not_reply_heard x rec e = not_a_reply refl (read_not_reply rec e)

faults_differ : (f : XdrFault) → refused_as NotReply ≡ refused_as (Xdr f) → ⊥
faults_differ f e = absurd cc

-- a reply that the grammar doesn't spell
pub unspelled_heard : (x : ℕ) (rec : List ℕ) (f : XdrFault) → ((reply : RpcReply) → SpellsRpc reply rec → ⊥) → reply_at rec ≡ Err (Xdr f) → Breaks x rec 2
unspelled_heard x rec f none e =
    unspelled refl (λ not. faults_differ f (sym (not_reply_read rec not) ∙ e)) (record { no_port = λ port s. none (Accepted x s.results) s.accepted; no_refusal = λ n s. none s.reply s.is })

-- ---- the port in the results

-- a refusal of every call refuses this one
pub refused_means : (x : ℕ) (rec : List ℕ) (r : Refusal) → ResultsIn x rec (Err r) → Means x rec (Err r)
refused_means x rec refusals.None r = absurd r
refused_means x rec (refusals.Rpc n) r = r
refused_means x rec (refusals.Bad n) r = r

-- the results hold no port
pub no_port_means : (x : ℕ) (results rec : List ℕ) → HasResults x results rec → ((port : ℕ) → SpellsU32 port results → ⊥) → Means x rec (Err (refusals.Bad 2))
no_port_means x results rec one lacks =
    unspelled refl one.reply (record { no_port = λ port s. lacks port (subst (λ (rs : List ℕ). SpellsU32 port rs) (one.only s.results s.accepted) s.is); no_refusal = one.accepted })

-- the results hold a port
pub port_means : (x port : ℕ) (results rec : List ℕ) → HasResults x results rec → SpellsU32 port results → Means x rec (registered_port port)
port_means x port results rec one s =
    elim (eqb port 0) as (λ b. eqb port 0 ≡ b → Means x rec (cond (b || ltb 65535 port) (Err refusals.None) (Ok port))) [
      | true ↦ λ e. (port, told, inl (eqb-true port 0 e))
      | false ↦ λ e. above e
    ] refl
  where
    told : SpellsPort x port rec
    told = record { results = results; accepted = one.is; is = s }

    above : eqb port 0 ≡ false → Means x rec (cond (ltb 65535 port) (Err refusals.None) (Ok port))
    above e =
        elim (ltb 65535 port) as (λ b. ltb 65535 port ≡ b → Means x rec (cond b (Err refusals.None) (Ok port))) [
          | true ↦ λ f. (port, told, inr (ltb-true 65535 port f))
          | false ↦ λ f. let n = eqb-false port 0 e in let l = ltb-false 65535 port f in (told, omega (arith, n), omega (arith, l))
        ] refl
