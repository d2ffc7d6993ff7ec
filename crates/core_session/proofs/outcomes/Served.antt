-- A lawful server's record that answers a call tells of an execution of it, and breaks no rule (as `core_answers.proofs.completes` has it, for calls of which
-- it isn't known that an operation asks for them).
use Rattle.core_session.proofs.Prelude.{◌≡◌, ◌<◌, ◌≤◌, ◌⊎◌, inl, inr, ℕ, suc, Bool, true, false, List, [], ◌∷◌, length, Some, Result, Ok, Err, sym, ap, subst, ◌∙◌, arith, DirKept, FileKept, Entry, Sent, Executed, Delivered, Call, Reply, Op, Asks, Acts, At, History, Lawful, HasXid, SpellsCall, SpellsReply, Terms, IsNfs, one-call}
use Rattle.world_model.specs.Lawful.{IsReplied, replied, refused}
use Rattle.world_model.specs.Messages.{SpellsResults}
use Rattle.claims.specs.PageRules.{WrongData, BreaksPage}
use Rattle.xdr_codec.specs.declared.reader.XdrFault.{XdrFault}
use Rattle.nfs_dir_calls.specs.declared.call.DirCall.TheVariants as dirs
use Rattle.nfs_dir_calls.specs.declared.keeping.DirKept.TheVariants as found
use Rattle.nfs_dir_calls.proofs.Replies.{dir_reply_codec}
use Rattle.nfs_file_calls.specs.declared.call.FileCall.TheVariants as files
use Rattle.nfs_file_calls.specs.declared.owned.FileKept.TheVariants as kept
use Rattle.nfs_file_calls.proofs.ReplyLaws.{file_reply_codec}
use Rattle.mount_calls.specs.declared.reply.MountReply.{MountReply}
use Rattle.mount_calls.proofs.Laws.{mount_reply_codec}
use Rattle.nfs_dir_calls.specs.Calls.{dir_proc}
use Rattle.nfs_file_calls.specs.Calls.{file_proc}
use Rattle.mount_calls.specs.Calls.{mount_proc}
use Rattle.rpc_message.specs.declared.reply.ReplyFault.{ReplyFault}
use Rattle.rpc_message.specs.declared.reply.ReplyFault.TheVariants.{NotReply}
use Rattle.rpc_message.specs.Reply.{RpcReply, Accepted, Refused as RpcRefused, Denied, SpellsRefusal}
use Rattle.rpc_message.proofs.ReplyLaws.{reply_first, reply_again}
use Rattle.world_model.specs.declared.message.Call.TheVariants as calls
use Rattle.world_model.specs.declared.message.Reply.TheVariants as replies
use Rattle.claims.specs.Asks as asks
use Rattle.world_model.specs.Heard.{Heard}
use Rattle.claims.specs.PageRules as pages
use Rattle.world_model.specs.Rules as rules
use Rattle.world_model.specs.Rules.{Breaks, IsNotReply}
use Rattle.world_model.proofs.Doing.{read_done, write_done, list_done}
use Rattle.law_calls.proofs.CallsWait.{xid_of_call}
use Rattle.call_replies.proofs.Readings.{not_reply_read}
use Rattle.core_session.specs.outcomes.Complete.{CarriesBytes}

-- ---- one reply

results-or : List ℕ → Result RpcReply ReplyFault → List ℕ
results-or rs (Ok (Accepted x results)) = results
results-or rs (Ok (RpcRefused x a b c)) = rs
results-or rs (Ok (Denied x a b c)) = rs
results-or rs (Err fault) = rs

found-reply : RpcReply → Result RpcReply ReplyFault
found-reply r = Ok r

one-results : (x y : ℕ) (a b bytes : List ℕ) → found-reply (Accepted x a) ≡ found-reply (Accepted y b) → a ≡ b
unfolding results-or found-reply
one-results x y a b bytes e = ap (results-or a) e

ok-is : {A : Type 0} (a b : A) → ◌≡◌ {A = Result A XdrFault} (Ok a) (Ok b) → a ≡ b
ok-is a b e = cc

same-results : (call : Call) (a b : Reply) (results : List ℕ) → SpellsResults call a results → SpellsResults call b results → a ≡ b
same-results (calls.File call) (replies.File a) (replies.File b) results s t =
    ap (λ (r : FileKept). replies.File r) (ok-is a b (sym ((file_reply_codec (file_proc call)).again a results s) ∙ (file_reply_codec (file_proc call)).again b results t))
same-results (calls.Dir call) (replies.Dir a) (replies.Dir b) results s t =
    ap (λ (r : DirKept). replies.Dir r) (ok-is a b (sym ((dir_reply_codec (dir_proc call)).again a results s) ∙ (dir_reply_codec (dir_proc call)).again b results t))
same-results (calls.Mount call) (replies.Mount a) (replies.Mount b) results s t =
    ap (λ (r : MountReply). replies.Mount r) (ok-is a b (sym ((mount_reply_codec (mount_proc call)).again a results s) ∙ (mount_reply_codec (mount_proc call)).again b results t))
same-results (calls.File call) (replies.File a) (replies.Dir b) results s t = absurd t
same-results (calls.File call) (replies.File a) (replies.Mount b) results s t = absurd t
same-results (calls.File call) (replies.Dir a) b results s t = absurd s
same-results (calls.File call) (replies.Mount a) b results s t = absurd s
same-results (calls.Dir call) (replies.Dir a) (replies.File b) results s t = absurd t
same-results (calls.Dir call) (replies.Dir a) (replies.Mount b) results s t = absurd t
same-results (calls.Dir call) (replies.File a) b results s t = absurd s
same-results (calls.Dir call) (replies.Mount a) b results s t = absurd s
same-results (calls.Mount call) (replies.Mount a) (replies.File b) results s t = absurd t
same-results (calls.Mount call) (replies.Mount a) (replies.Dir b) results s t = absurd t
same-results (calls.Mount call) (replies.File a) b results s t = absurd s
same-results (calls.Mount call) (replies.Dir a) b results s t = absurd s

pub one-reply : (x : ℕ) (call : Call) (a b : Reply) (bytes : List ℕ) → SpellsReply x call a bytes → SpellsReply x call b bytes → a ≡ b
unfolding found-reply
one-reply x call a b bytes s t =
    let same : s.results ≡ t.results = one-results x x s.results t.results bytes (sym (reply_again (Accepted x s.results) bytes s.accepted) ∙ reply_again (Accepted x t.results) bytes t.accepted) in
    same-results call a b t.results (subst (SpellsResults call a) same s.is) t.is

-- a record that is a reply is one
is-reply : (x : ℕ) (call : Call) (reply : Reply) (bytes : List ℕ) → SpellsReply x call reply bytes → IsNotReply bytes → ⊥
is-reply x call reply bytes s none = differ (Accepted x s.results) (sym (reply_again (Accepted x s.results) bytes s.accepted) ∙ not_reply_read bytes none)
  where
    differ : (r : RpcReply) → ◌≡◌ {A = Result RpcReply ReplyFault} (Ok r) (Err NotReply) → ⊥
    differ r e = absurd cc

-- ---- calls that operations ask for are of NFS

as-nfs : (call to : Call) → call ≡ to → IsNfs to → IsNfs call
as-nfs call to is nfs = subst IsNfs (sym is) nfs

acts-nfs : (terms : Terms) (h : List Entry) (x n : ℕ) (op : Op) (call : Call) → Acts terms h x n op call → IsNfs call
acts-nfs terms h x n op call (asks.cuts slot size f a b is) = as-nfs call _ is tt
acts-nfs terms h x n op call (asks.accesses path bits f a b is) = as-nfs call _ is tt
acts-nfs terms h x n op call (asks.reads_link path f a b is) = as-nfs call _ is tt
acts-nfs terms h x n op call (asks.makes_dir path d name a b is) = as-nfs call _ is tt
acts-nfs terms h x n op call (asks.makes_link path target d name a b is) = as-nfs call _ is tt
acts-nfs terms h x n op call (asks.removes_dir path d name a b is) = as-nfs call _ is tt
acts-nfs terms h x n op call (asks.renames from to d name to_d to_name a b c is) = as-nfs call _ is tt
acts-nfs terms h x n op call (asks.links from to f d name a b c is) = as-nfs call _ is tt
acts-nfs terms h x n op call (asks.removes path d name a b is) = as-nfs call _ is tt
acts-nfs terms h x n op call (asks.hides path d last name a b c e is) = as-nfs call _ is tt

pub asks-nfs : (terms : Terms) (h : List Entry) (x n : ℕ) (op : Op) (call : Call) → Asks terms h x n op call → IsNfs call
asks-nfs terms h x n op call (asks.walks path earlier later name next d a b c is) = as-nfs call _ is tt
asks-nfs terms h x n op call (asks.finds path d name a b is) = as-nfs call _ is tt
asks-nfs terms h x n op call (asks.looks_for_hidden path d last name a b c is) = as-nfs call _ is tt
asks-nfs terms h x n op call (asks.creates slot path d name a b is) = as-nfs call _ is tt
asks-nfs terms h x n op call (asks.creates_after slot path d name reply a b c e is) = as-nfs call _ is tt
asks-nfs terms h x n op call (asks.opens path f a b is) = as-nfs call _ is tt
asks-nfs terms h x n op call (asks.opens_made slot mode path d name f making attr wcc a b c e is) = as-nfs call _ is tt
asks-nfs terms h x n op call (asks.shows path f a b is) = as-nfs call _ is tt
asks-nfs terms h x n op call (asks.reads slot offset count at size f a b c is) = as-nfs call _ is tt
asks-nfs terms h x n op call (asks.asks_anew slot offset count f a b c is) = as-nfs call _ is tt
asks-nfs terms h x n op call (asks.writes f bytes at how a is) = as-nfs call _ is tt
asks-nfs terms h x n op call (asks.commits f a is) = as-nfs call _ is tt
asks-nfs terms h x n op call (asks.writes_for_room f bytes at how a b c is) = as-nfs call _ is tt
asks-nfs terms h x n op call (asks.commits_for_room f a b c is) = as-nfs call _ is tt
asks-nfs terms h x n op call (asks.removes_hidden r) = as-nfs call _ r.removes tt
asks-nfs terms h x n op call (asks.lists path d rows cookie verf a b c is) = as-nfs call _ is tt
asks-nfs terms h x n op call (asks.acts a) = acts-nfs terms h x n op call a

-- a READ that is asked for is one of a byte at least
acts-read : (terms : Terms) (h : List Entry) (x n : ℕ) (op : Op) (file : List ℕ) (offset count : ℕ) → Acts terms h x n op (calls.File (files.Read file offset count)) → 1 ≤ count
acts-read terms h x n op file offset count (asks.cuts slot size f a b is) = absurd (cc)
acts-read terms h x n op file offset count (asks.accesses path bits f a b is) = absurd (cc)
acts-read terms h x n op file offset count (asks.reads_link path f a b is) = absurd (cc)
acts-read terms h x n op file offset count (asks.makes_dir path d name a b is) = absurd (cc)
acts-read terms h x n op file offset count (asks.makes_link path target d name a b is) = absurd (cc)
acts-read terms h x n op file offset count (asks.removes_dir path d name a b is) = absurd (cc)
acts-read terms h x n op file offset count (asks.renames from to d name to_d to_name a b c is) = absurd (cc)
acts-read terms h x n op file offset count (asks.links from to f d name a b c is) = absurd (cc)
acts-read terms h x n op file offset count (asks.removes path d name a b is) = absurd (cc)
acts-read terms h x n op file offset count (asks.hides path d last name a b c e is) = absurd (cc)

read-size : (f g : List ℕ) (a b m n : ℕ) → calls.File (files.Read f a m) ≡ calls.File (files.Read g b n) → m ≡ n
read-size f g a b m n e = cc

pub asks-read : (terms : Terms) (h : List Entry) (x n : ℕ) (op : Op) (file : List ℕ) (offset count : ℕ) → Asks terms h x n op (calls.File (files.Read file offset count)) → 1 ≤ count
asks-read terms h x n op file offset count (asks.walks path earlier later name next d a b c is) = absurd (cc)
asks-read terms h x n op file offset count (asks.finds path d name a b is) = absurd (cc)
asks-read terms h x n op file offset count (asks.looks_for_hidden path d last name a b c is) = absurd (cc)
asks-read terms h x n op file offset count (asks.creates slot path d name a b is) = absurd (cc)
asks-read terms h x n op file offset count (asks.creates_after slot path d name reply a b c e is) = absurd (cc)
asks-read terms h x n op file offset count (asks.opens path f a b is) = absurd (cc)
asks-read terms h x n op file offset count (asks.opens_made slot mode path d name f making attr wcc a b c e is) = absurd (cc)
asks-read terms h x n op file offset count (asks.shows path f a b is) = absurd (cc)
asks-read terms h x n op file offset count (asks.reads slot start all at size f a b pages_in is) =
    let some = pages_in.asked in
    let same = read-size file f offset at count size is in
    omega (arith, some, same)
asks-read terms h x n op file offset count (asks.asks_anew slot start all f a b c is) = absurd (cc)
asks-read terms h x n op file offset count (asks.writes f bytes at how a is) = absurd (cc)
asks-read terms h x n op file offset count (asks.commits f a is) = absurd (cc)
asks-read terms h x n op file offset count (asks.writes_for_room f bytes at how a b c is) = absurd (cc)
asks-read terms h x n op file offset count (asks.commits_for_room f a b c is) = absurd (cc)
asks-read terms h x n op file offset count (asks.removes_hidden r) = absurd (let is = r.removes in cc)
asks-read terms h x n op file offset count (asks.lists path d rows cookie verf a b c is) = absurd (cc)
asks-read terms h x n op file offset count (asks.acts a) = acts-read terms h x n op file offset count a

some-is : (a b : ℕ) → Some a ≡ Some b → a ≡ b
some-is a b e = cc

module _ (t : History) (lawful : Lawful t) (unrefused : (n xid code : ℕ) (bytes : List ℕ) → At t.entries n (Delivered bytes) → SpellsRefusal xid code bytes → ⊥)
    (equal : (i j xid : ℕ) (a b : List ℕ) → At t.entries i (Sent a) → At t.entries j (Sent b) → HasXid a xid → HasXid b xid → a ≡ b)
    (carries : CarriesBytes t.entries) where
  -- the record tells of an execution of the call
  pub record IsTold (call : Call) (xid : ℕ) (bytes : List ℕ) : Type 0 where
    pub place : ℕ
    pub reply : Reply
    pub at : At t.entries place (Executed xid call reply)
    pub spells : SpellsReply xid call reply bytes
    pub most : length bytes ≤ rules.most_bytes

  pub told-of : (x y : ℕ) (call : Call) (xid : ℕ) (bytes : List ℕ) → IsNfs call → Heard t.entries x y call xid bytes → IsTold call xid bytes
  told-of x y call xid bytes nfs d = by (lawful.entries d.got_at (Delivered bytes) d.got.got).is
    where
      by : IsReplied t.entries d.got_at bytes → IsTold call xid bytes
      by (replied m z other reply before at spells) =
          let is : z ≡ xid = some-is z xid (sym (reply_first (Accepted z spells.results) bytes spells.accepted) ∙ d.got.under) in
          let sent = (lawful.entries m (Executed z other reply) at).0 in
          let under : HasXid sent.bytes xid = subst (λ (n : ℕ). HasXid sent.bytes n) is (xid_of_call z other sent.bytes sent.spells) in
          let same : sent.bytes ≡ d.record_sent = equal sent.at d.sent_at xid sent.bytes d.record_sent sent.sent d.sent.sent under d.sent.under in
          let one : call ≡ other = one-call xid z call other d.record_sent nfs d.spells (subst (λ (b : List ℕ). SpellsCall z other b) same sent.spells) in
          record {
            place = m;
            reply = reply;
            at = subst (λ (n : ℕ). At t.entries m (Executed n call reply)) is (subst (λ (c : Call). At t.entries m (Executed z c reply)) (sym one) at);
            spells = subst (λ (n : ℕ). SpellsReply n call reply bytes) is (subst (λ (c : Call). SpellsReply z c reply bytes) (sym one) spells);
            most = (lawful.entries d.got_at (Delivered bytes) d.got.got).most;
          }
      by (refused m z code sent before at has spells) = absurd (unrefused d.got_at z code bytes d.got.got spells)

  -- ---- rules that no reply breaks

  pub not-broken : (x y : ℕ) (call : Call) (xid : ℕ) (bytes : List ℕ) (n : ℕ) → Heard t.entries x y call xid bytes → IsTold call xid bytes → Breaks xid call bytes n → ⊥
  not-broken x y call xid bytes n d k (rules.not_a_reply rule none) = is-reply xid call k.reply bytes k.spells none
  not-broken x y call xid bytes n d k (rules.unspelled rule some none) = none.no_reply k.reply k.spells
  not-broken x y call xid bytes n d k (rules.wrong_committed rule wcc count committed verf file offset how data_ is spells wrong) =
      let same : k.reply ≡ replies.File (kept.Write wcc count committed verf) = one-reply xid call k.reply (replies.File (kept.Write wcc count committed verf)) bytes k.spells spells in
      let at = subst (λ (c : Call). At t.entries k.place (Executed xid c (replies.File (kept.Write wcc count committed verf)))) is (subst (λ (p : Reply). At t.entries k.place (Executed xid call p)) same k.at) in
      let done = write_done (t.at k.place) (t.at (suc k.place)) file offset how data_ wcc count committed verf (lawful.entries k.place _ at).1 in
      by done.firm done.known wrong
    where
      by : how ≤ committed → committed ≤ 2 → (committed < how) ⊎ (2 < committed) → ⊥
      by firm known (inl low) = omega (arith, firm, low)
      by firm known (inr high) = omega (arith, known, high)
  not-broken x y call xid bytes n d k (rules.wrong_count rule wcc count committed verf file offset how data_ is spells wrong) =
      let same : k.reply ≡ replies.File (kept.Write wcc count committed verf) = one-reply xid call k.reply (replies.File (kept.Write wcc count committed verf)) bytes k.spells spells in
      let at = subst (λ (c : Call). At t.entries k.place (Executed xid c (replies.File (kept.Write wcc count committed verf)))) is (subst (λ (p : Reply). At t.entries k.place (Executed xid call p)) same k.at) in
      let done = write_done (t.at k.place) (t.at (suc k.place)) file offset how data_ wcc count committed verf (lawful.entries k.place _ at).1 in
      by data_ (subst (λ (c : Call). SpellsCall xid c d.record_sent) is d.spells) done.some done.most wrong
    where
      by : (bs : List ℕ) → SpellsCall xid (calls.File (files.Write file offset how bs)) d.record_sent → (1 ≤ length bs → 1 ≤ count) → count ≤ length bs
          → (count ≡ 0) ⊎ (length bs < count) → ⊥
      by [] spelled some most wrong = carries d.sent_at xid d.record_sent file offset how d.sent.sent spelled
      by (b ∷ bs) spelled some most (inl none) = let least = some (omega arith) in omega (arith, least, none)
      by (b ∷ bs) spelled some most (inr high) = omega (arith, most, high)
  not-broken x y call xid bytes n d k (rules.too_long rule long) = let most = k.most in omega (arith, most, long)

  right-data : (asked counted : ℕ) (data_ : List ℕ) (eof : Bool) → length data_ ≡ counted → counted ≤ asked → (counted ≡ 0 → (asked ≡ 0) ⊎ (eof ≡ true)) → (asked ≡ 0 → ⊥)
      → WrongData asked counted data_ eof → ⊥
  right-data asked counted data_ eof long most some goes (pages.longer more) = omega (arith, long, most, more)
  right-data asked counted data_ eof long most some goes (pages.unlike other) = other (sym long)
  right-data asked counted data_ eof long most some goes (pages.nothing empty end) =
      let none : length data_ ≡ 0 = ap (λ (b : List ℕ). length b) empty in
      by (some (omega (arith, long, none)))
    where
      by : (asked ≡ 0) ⊎ (eof ≡ true) → ⊥
      by (inl zero_is) = goes zero_is
      by (inr ends) = let no_way : true ≡ false = sym ends ∙ end in cc

  pub not-page : (call : Call) (xid : ℕ) (bytes : List ℕ) (n : ℕ) → ((file : List ℕ) (offset count : ℕ) → call ≡ calls.File (files.Read file offset count) → 1 ≤ count) → IsTold call xid bytes
      → BreaksPage xid call bytes n → ⊥
  not-page call xid bytes n least k (pages.wrong_data rule file offset asked counted attr eof data_ is spells wrong) =
      let reply : Reply = replies.File (kept.Read attr counted eof data_) in
      let same : k.reply ≡ reply = one-reply xid call k.reply reply bytes k.spells spells in
      let at : At t.entries k.place (Executed xid (calls.File (files.Read file offset asked)) reply) =
      subst (λ (c : Call). At t.entries k.place (Executed xid c reply)) is (subst (λ (p : Reply). At t.entries k.place (Executed xid call p)) same k.at) in
      let done = read_done (t.at k.place) (t.at (suc k.place)) file offset asked attr counted eof data_ (lawful.entries k.place _ at).1 in
      let some = least file offset asked is in
      right-data asked counted data_ eof done.long done.most done.some (λ none. omega (arith, some, none)) wrong
  not-page call xid bytes n least k (pages.no_entry rule d cookie dircount maxcount verf next attr is spells) =
      let reply : Reply = replies.Dir (found.ReadDirPlus attr next [] false) in
      let same : k.reply ≡ reply = one-reply xid call k.reply reply bytes k.spells spells in
      let at : At t.entries k.place (Executed xid (calls.Dir (dirs.ReadDirPlus d cookie verf dircount maxcount)) reply) =
      subst (λ (c : Call). At t.entries k.place (Executed xid c reply)) is (subst (λ (p : Reply). At t.entries k.place (Executed xid call p)) same k.at) in
      let done = list_done (t.at k.place) (t.at (suc k.place)) d cookie verf dircount maxcount attr next [] false (lawful.entries k.place _ at).1 in
      by done.some
    where
      by : (1 ≤ 0) ⊎ (false ≡ true) → ⊥
      by (inl low) = omega (arith, low)
      by (inr no_way) = cc
