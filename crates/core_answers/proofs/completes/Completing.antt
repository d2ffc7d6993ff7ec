-- Where nothing disturbs a session whose refusals have their rows, no operation is refused by the server, the network or the link.
use Rattle.core_answers.proofs.Prelude.{◌≡◌, ◌≢◌, ◌<◌, ◌≤◌, ◌⊎◌, inl, inr, ℕ, suc, Bool, true, false, List, [], ◌∷◌, length, Some, Result, Ok, Err, refl, sym, ap, subst, ◌∙◌, arith, cases_lt, DirKept, FileKept, Answer, Fault, Entry, Began, Answered, Executed, Delivered, Call, Reply, Op, Asks, At, History, HasXid, SpellsCall, SpellsReply, Ended, UnderWay, RefusalRow, Terms, At-one}
use Rattle.world_model.specs.declared.entry.Entry.TheVariants.{Sent}
use Rattle.claims.specs.Asks.{Acts}
use Rattle.world_model.specs.Messages.{SpellsResults}
use Rattle.claims.specs.RefusalRows.{RefusedBy}
use Rattle.xdr_codec.specs.declared.reader.XdrFault.{XdrFault}
use Rattle.rpc_message.specs.declared.reply.ReplyFault.{ReplyFault}
use Rattle.rpc_message.specs.Reply.{RpcReply, Accepted}
use Rattle.nfs_dir_calls.specs.declared.call.DirCall.TheVariants as dirs
use Rattle.nfs_dir_calls.specs.declared.keeping.DirKept.TheVariants as found
use Rattle.nfs_dir_calls.proofs.Replies.{dir_reply_codec}
use Rattle.nfs_file_calls.specs.declared.call.FileCall.TheVariants as files
use Rattle.nfs_file_calls.specs.declared.owned.FileKept.TheVariants as kept
use Rattle.nfs_file_calls.proofs.ReplyLaws.{file_reply_codec}
use Rattle.mount_calls.specs.declared.reply.MountReply.{MountReply}
use Rattle.mount_calls.proofs.Laws.{mount_reply_codec}
use Rattle.nfs_dir_calls.specs.Calls.{dir_proc}
use Rattle.nfs_file_calls.specs.Calls.{file_proc}
use Rattle.mount_calls.specs.Calls.{mount_proc}
use Rattle.rpc_message.specs.declared.reply.ReplyFault.TheVariants.{NotReply}
use Rattle.rpc_message.specs.Reply.{Refused as RpcRefused, Denied}
use Rattle.rpc_message.proofs.ReplyLaws.{reply_first, reply_again}
use Rattle.world_model.specs.declared.answer.Answer.TheVariants as answers
use Rattle.world_model.specs.declared.answer.Fault.TheVariants as faults
use Rattle.world_model.specs.declared.message.Call.TheVariants as calls
use Rattle.world_model.specs.declared.message.Reply.TheVariants as replies
use Rattle.claims.specs.Asks as asks
use Rattle.claims.specs.Complete as complete
use Rattle.claims.specs.Complete.{Undisturbed, AllGoOn, IsOwn}
use Rattle.claims.specs.GoesOn.{GoesOn}
use Rattle.world_model.specs.Heard.{Heard, status_of}
use Rattle.world_model.specs.Lawful.{IsReplied, replied, refused}
use Rattle.claims.specs.PageRules as pages
use Rattle.claims.specs.PageRules.{WrongData, BreaksPage, RefusesSo}
use Rattle.world_model.specs.Rules as rules
use Rattle.world_model.specs.Rules.{Breaks, IsNotReply}
use Rattle.world_model.proofs.Doing.{read_done, write_done, list_done}
use Rattle.law_calls.proofs.CallsWait.{xid_of_call}
use Rattle.call_replies.proofs.Readings.{not_reply_read}
use Rattle.core_answers.proofs.bonds.OneCall.{IsNfs, one-call}
use Rattle.core_answers.specs.completes.Rowed.{HasRows, RowsComplete}

-- ---- one reply

results-or : List ℕ → Result RpcReply ReplyFault → List ℕ
results-or rs (Ok (Accepted x results)) = results
results-or rs (Ok (RpcRefused x a b c)) = rs
results-or rs (Ok (Denied x a b c)) = rs
results-or rs (Err fault) = rs

found-reply : RpcReply → Result RpcReply ReplyFault
found-reply r = Ok r

one-results : (x y : ℕ) (a b bytes : List ℕ) → found-reply (Accepted x a) ≡ found-reply (Accepted y b) → a ≡ b
unfolding results-or found-reply
one-results x y a b bytes e = ap (results-or a) e

ok-is : {A : Type 0} (a b : A) → ◌≡◌ {A = Result A XdrFault} (Ok a) (Ok b) → a ≡ b
ok-is a b e = cc

same-results : (call : Call) (a b : Reply) (results : List ℕ) → SpellsResults call a results → SpellsResults call b results → a ≡ b
same-results (calls.File call) (replies.File a) (replies.File b) results s t =
    ap (λ (r : FileKept). replies.File r) (ok-is a b (sym ((file_reply_codec (file_proc call)).again a results s) ∙ (file_reply_codec (file_proc call)).again b results t))
same-results (calls.Dir call) (replies.Dir a) (replies.Dir b) results s t =
    ap (λ (r : DirKept). replies.Dir r) (ok-is a b (sym ((dir_reply_codec (dir_proc call)).again a results s) ∙ (dir_reply_codec (dir_proc call)).again b results t))
same-results (calls.Mount call) (replies.Mount a) (replies.Mount b) results s t =
    ap (λ (r : MountReply). replies.Mount r) (ok-is a b (sym ((mount_reply_codec (mount_proc call)).again a results s) ∙ (mount_reply_codec (mount_proc call)).again b results t))
same-results (calls.File call) (replies.File a) (replies.Dir b) results s t = absurd t
same-results (calls.File call) (replies.File a) (replies.Mount b) results s t = absurd t
same-results (calls.File call) (replies.Dir a) b results s t = absurd s
same-results (calls.File call) (replies.Mount a) b results s t = absurd s
same-results (calls.Dir call) (replies.Dir a) (replies.File b) results s t = absurd t
same-results (calls.Dir call) (replies.Dir a) (replies.Mount b) results s t = absurd t
same-results (calls.Dir call) (replies.File a) b results s t = absurd s
same-results (calls.Dir call) (replies.Mount a) b results s t = absurd s
same-results (calls.Mount call) (replies.Mount a) (replies.File b) results s t = absurd t
same-results (calls.Mount call) (replies.Mount a) (replies.Dir b) results s t = absurd t
same-results (calls.Mount call) (replies.File a) b results s t = absurd s
same-results (calls.Mount call) (replies.Dir a) b results s t = absurd s

one-reply : (x : ℕ) (call : Call) (a b : Reply) (bytes : List ℕ) → SpellsReply x call a bytes → SpellsReply x call b bytes → a ≡ b
unfolding found-reply
one-reply x call a b bytes s t =
    let same : s.results ≡ t.results = one-results x x s.results t.results bytes (sym (reply_again (Accepted x s.results) bytes s.accepted) ∙ reply_again (Accepted x t.results) bytes t.accepted) in
    same-results call a b t.results (subst (SpellsResults call a) same s.is) t.is

-- a record that is a reply is one
is-reply : (x : ℕ) (call : Call) (reply : Reply) (bytes : List ℕ) → SpellsReply x call reply bytes → IsNotReply bytes → ⊥
is-reply x call reply bytes s none = differ (Accepted x s.results) (sym (reply_again (Accepted x s.results) bytes s.accepted) ∙ not_reply_read bytes none)
  where
    differ : (r : RpcReply) → ◌≡◌ {A = Result RpcReply ReplyFault} (Ok r) (Err NotReply) → ⊥
    differ r e = absurd cc

-- ---- calls that operations ask for are of NFS

as-nfs : (call to : Call) → call ≡ to → IsNfs to → IsNfs call
as-nfs call to is nfs = subst IsNfs (sym is) nfs

acts-nfs : (terms : Terms) (h : List Entry) (x n : ℕ) (op : Op) (call : Call) → Acts terms h x n op call → IsNfs call
acts-nfs terms h x n op call (asks.cuts slot size f a b is) = as-nfs call _ is tt
acts-nfs terms h x n op call (asks.accesses path bits f a b is) = as-nfs call _ is tt
acts-nfs terms h x n op call (asks.reads_link path f a b is) = as-nfs call _ is tt
acts-nfs terms h x n op call (asks.makes_dir path d name a b is) = as-nfs call _ is tt
acts-nfs terms h x n op call (asks.makes_link path target d name a b is) = as-nfs call _ is tt
acts-nfs terms h x n op call (asks.removes_dir path d name a b is) = as-nfs call _ is tt
acts-nfs terms h x n op call (asks.renames from to d name to_d to_name a b c is) = as-nfs call _ is tt
acts-nfs terms h x n op call (asks.links from to f d name a b c is) = as-nfs call _ is tt
acts-nfs terms h x n op call (asks.removes path d name a b is) = as-nfs call _ is tt
acts-nfs terms h x n op call (asks.hides path d last name a b c e is) = as-nfs call _ is tt

asks-nfs : (terms : Terms) (h : List Entry) (x n : ℕ) (op : Op) (call : Call) → Asks terms h x n op call → IsNfs call
asks-nfs terms h x n op call (asks.walks path earlier later name next d a b c is) = as-nfs call _ is tt
asks-nfs terms h x n op call (asks.finds path d name a b is) = as-nfs call _ is tt
asks-nfs terms h x n op call (asks.looks_for_hidden path d last name a b c is) = as-nfs call _ is tt
asks-nfs terms h x n op call (asks.creates slot path d name a b is) = as-nfs call _ is tt
asks-nfs terms h x n op call (asks.creates_after slot path d name reply a b c e is) = as-nfs call _ is tt
asks-nfs terms h x n op call (asks.opens path f a b is) = as-nfs call _ is tt
asks-nfs terms h x n op call (asks.opens_made slot mode path d name f making attr wcc a b c e is) = as-nfs call _ is tt
asks-nfs terms h x n op call (asks.shows path f a b is) = as-nfs call _ is tt
asks-nfs terms h x n op call (asks.reads slot offset count at size f a b c is) = as-nfs call _ is tt
asks-nfs terms h x n op call (asks.asks_anew slot offset count f a b c is) = as-nfs call _ is tt
asks-nfs terms h x n op call (asks.writes f bytes at how a is) = as-nfs call _ is tt
asks-nfs terms h x n op call (asks.commits f a is) = as-nfs call _ is tt
asks-nfs terms h x n op call (asks.writes_for_room f bytes at how a b c is) = as-nfs call _ is tt
asks-nfs terms h x n op call (asks.commits_for_room f a b c is) = as-nfs call _ is tt
asks-nfs terms h x n op call (asks.removes_hidden r) = as-nfs call _ r.removes tt
asks-nfs terms h x n op call (asks.lists path d rows cookie verf a b c is) = as-nfs call _ is tt
asks-nfs terms h x n op call (asks.acts a) = acts-nfs terms h x n op call a

-- a READ that is asked for is one of a byte at least
acts-read : (terms : Terms) (h : List Entry) (x n : ℕ) (op : Op) (file : List ℕ) (offset count : ℕ) → Acts terms h x n op (calls.File (files.Read file offset count)) → 1 ≤ count
acts-read terms h x n op file offset count (asks.cuts slot size f a b is) = absurd (cc)
acts-read terms h x n op file offset count (asks.accesses path bits f a b is) = absurd (cc)
acts-read terms h x n op file offset count (asks.reads_link path f a b is) = absurd (cc)
acts-read terms h x n op file offset count (asks.makes_dir path d name a b is) = absurd (cc)
acts-read terms h x n op file offset count (asks.makes_link path target d name a b is) = absurd (cc)
acts-read terms h x n op file offset count (asks.removes_dir path d name a b is) = absurd (cc)
acts-read terms h x n op file offset count (asks.renames from to d name to_d to_name a b c is) = absurd (cc)
acts-read terms h x n op file offset count (asks.links from to f d name a b c is) = absurd (cc)
acts-read terms h x n op file offset count (asks.removes path d name a b is) = absurd (cc)
acts-read terms h x n op file offset count (asks.hides path d last name a b c e is) = absurd (cc)

read-size : (f g : List ℕ) (a b m n : ℕ) → calls.File (files.Read f a m) ≡ calls.File (files.Read g b n) → m ≡ n
read-size f g a b m n e = cc

asks-read : (terms : Terms) (h : List Entry) (x n : ℕ) (op : Op) (file : List ℕ) (offset count : ℕ) → Asks terms h x n op (calls.File (files.Read file offset count)) → 1 ≤ count
asks-read terms h x n op file offset count (asks.walks path earlier later name next d a b c is) = absurd (cc)
asks-read terms h x n op file offset count (asks.finds path d name a b is) = absurd (cc)
asks-read terms h x n op file offset count (asks.looks_for_hidden path d last name a b c is) = absurd (cc)
asks-read terms h x n op file offset count (asks.creates slot path d name a b is) = absurd (cc)
asks-read terms h x n op file offset count (asks.creates_after slot path d name reply a b c e is) = absurd (cc)
asks-read terms h x n op file offset count (asks.opens path f a b is) = absurd (cc)
asks-read terms h x n op file offset count (asks.opens_made slot mode path d name f making attr wcc a b c e is) = absurd (cc)
asks-read terms h x n op file offset count (asks.shows path f a b is) = absurd (cc)
asks-read terms h x n op file offset count (asks.reads slot start all at size f a b pages_in is) =
    let some = pages_in.asked in
    let same = read-size file f offset at count size is in
    omega (arith, some, same)
asks-read terms h x n op file offset count (asks.asks_anew slot start all f a b c is) = absurd (cc)
asks-read terms h x n op file offset count (asks.writes f bytes at how a is) = absurd (cc)
asks-read terms h x n op file offset count (asks.commits f a is) = absurd (cc)
asks-read terms h x n op file offset count (asks.writes_for_room f bytes at how a b c is) = absurd (cc)
asks-read terms h x n op file offset count (asks.commits_for_room f a b c is) = absurd (cc)
asks-read terms h x n op file offset count (asks.removes_hidden r) = absurd (let is = r.removes in cc)
asks-read terms h x n op file offset count (asks.lists path d rows cookie verf a b c is) = absurd (cc)
asks-read terms h x n op file offset count (asks.acts a) = acts-read terms h x n op file offset count a

-- ---- a history that nothing disturbs

some-is : (a b : ℕ) → Some a ≡ Some b → a ≡ b
some-is a b e = cc

module _ (terms : Terms) (t : History) (r : HasRows terms t.entries) (u : Undisturbed terms t) where
  -- the record tells of an execution of the call
  record IsTold (call : Call) (xid : ℕ) (bytes : List ℕ) : Type 0 where
    pub place : ℕ
    pub reply : Reply
    pub at : At t.entries place (Executed xid call reply)
    pub spells : SpellsReply xid call reply bytes
    pub most : length bytes ≤ rules.most_bytes

  told-of : (x y : ℕ) (call : Call) (xid : ℕ) (bytes : List ℕ) → IsNfs call → Heard t.entries x y call xid bytes → IsTold call xid bytes
  told-of x y call xid bytes nfs d = by (u.lawful.entries d.got_at (Delivered bytes) d.got.got).is
    where
      by : IsReplied t.entries d.got_at bytes → IsTold call xid bytes
      by (replied m z other reply before at spells) =
          let is : z ≡ xid = some-is z xid (sym (reply_first (Accepted z spells.results) bytes spells.accepted) ∙ d.got.under) in
          let sent = (u.lawful.entries m (Executed z other reply) at).0 in
          let under : HasXid sent.bytes xid = subst (λ (n : ℕ). HasXid sent.bytes n) is (xid_of_call z other sent.bytes sent.spells) in
          let same : sent.bytes ≡ d.record_sent = r.numbered.equal sent.at d.sent_at xid sent.bytes d.record_sent sent.sent d.sent.sent under d.sent.under in
          let one : call ≡ other = one-call xid z call other d.record_sent nfs d.spells (subst (λ (b : List ℕ). SpellsCall z other b) same sent.spells) in
          record {
            place = m;
            reply = reply;
            at = subst (λ (n : ℕ). At t.entries m (Executed n call reply)) is (subst (λ (c : Call). At t.entries m (Executed z c reply)) (sym one) at);
            spells = subst (λ (n : ℕ). SpellsReply n call reply bytes) is (subst (λ (c : Call). SpellsReply z c reply bytes) (sym one) spells);
            most = (u.lawful.entries d.got_at (Delivered bytes) d.got.got).most;
          }
      by (refused m z code sent before at has spells) = absurd (u.unrefused d.got_at z code bytes d.got.got spells)

  -- ---- rules that no reply breaks

  not-broken : (x y : ℕ) (call : Call) (xid : ℕ) (bytes : List ℕ) (n : ℕ) → Heard t.entries x y call xid bytes → IsTold call xid bytes → Breaks xid call bytes n → ⊥
  not-broken x y call xid bytes n d k (rules.not_a_reply rule none) = is-reply xid call k.reply bytes k.spells none
  not-broken x y call xid bytes n d k (rules.unspelled rule some none) = none.no_reply k.reply k.spells
  not-broken x y call xid bytes n d k (rules.wrong_committed rule wcc count committed verf file offset how data_ is spells wrong) =
      let same : k.reply ≡ replies.File (kept.Write wcc count committed verf) = one-reply xid call k.reply (replies.File (kept.Write wcc count committed verf)) bytes k.spells spells in
      let at = subst (λ (c : Call). At t.entries k.place (Executed xid c (replies.File (kept.Write wcc count committed verf)))) is (subst (λ (p : Reply). At t.entries k.place (Executed xid call p)) same k.at) in
      let done = write_done (t.at k.place) (t.at (suc k.place)) file offset how data_ wcc count committed verf (u.lawful.entries k.place _ at).1 in
      by done.firm done.known wrong
    where
      by : how ≤ committed → committed ≤ 2 → (committed < how) ⊎ (2 < committed) → ⊥
      by firm known (inl low) = omega (arith, firm, low)
      by firm known (inr high) = omega (arith, known, high)
  not-broken x y call xid bytes n d k (rules.wrong_count rule wcc count committed verf file offset how data_ is spells wrong) =
      let same : k.reply ≡ replies.File (kept.Write wcc count committed verf) = one-reply xid call k.reply (replies.File (kept.Write wcc count committed verf)) bytes k.spells spells in
      let at = subst (λ (c : Call). At t.entries k.place (Executed xid c (replies.File (kept.Write wcc count committed verf)))) is (subst (λ (p : Reply). At t.entries k.place (Executed xid call p)) same k.at) in
      let done = write_done (t.at k.place) (t.at (suc k.place)) file offset how data_ wcc count committed verf (u.lawful.entries k.place _ at).1 in
      by data_ (subst (λ (c : Call). SpellsCall xid c d.record_sent) is d.spells) done.some done.most wrong
    where
      by : (bs : List ℕ) → SpellsCall xid (calls.File (files.Write file offset how bs)) d.record_sent → (1 ≤ length bs → 1 ≤ count) → count ≤ length bs
          → (count ≡ 0) ⊎ (length bs < count) → ⊥
      by [] spelled some most wrong = r.carries d.sent_at xid d.record_sent file offset how d.sent.sent spelled
      by (b ∷ bs) spelled some most (inl none) = let least = some (omega arith) in omega (arith, least, none)
      by (b ∷ bs) spelled some most (inr high) = omega (arith, most, high)
  not-broken x y call xid bytes n d k (rules.too_long rule long) = let most = k.most in omega (arith, most, long)

  right-data : (asked counted : ℕ) (data_ : List ℕ) (eof : Bool) → length data_ ≡ counted → counted ≤ asked → (counted ≡ 0 → (asked ≡ 0) ⊎ (eof ≡ true)) → (asked ≡ 0 → ⊥)
      → WrongData asked counted data_ eof → ⊥
  right-data asked counted data_ eof long most some goes (pages.longer more) = omega (arith, long, most, more)
  right-data asked counted data_ eof long most some goes (pages.unlike other) = other (sym long)
  right-data asked counted data_ eof long most some goes (pages.nothing empty end) =
      let none : length data_ ≡ 0 = ap (λ (b : List ℕ). length b) empty in
      by (some (omega (arith, long, none)))
    where
      by : (asked ≡ 0) ⊎ (eof ≡ true) → ⊥
      by (inl zero_is) = goes zero_is
      by (inr ends) = let no_way : true ≡ false = sym ends ∙ end in cc

  not-page : (x y : ℕ) (op : Op) (m : ℕ) (call : Call) (xid : ℕ) (bytes : List ℕ) (n : ℕ) → Asks terms t.entries x m op call → IsTold call xid bytes → BreaksPage xid call bytes n → ⊥
  not-page x y op m call xid bytes n a k (pages.wrong_data rule file offset asked counted attr eof data_ is spells wrong) =
      let reply : Reply = replies.File (kept.Read attr counted eof data_) in
      let same : k.reply ≡ reply = one-reply xid call k.reply reply bytes k.spells spells in
      let at : At t.entries k.place (Executed xid (calls.File (files.Read file offset asked)) reply) =
      subst (λ (c : Call). At t.entries k.place (Executed xid c reply)) is (subst (λ (p : Reply). At t.entries k.place (Executed xid call p)) same k.at) in
      let done = read_done (t.at k.place) (t.at (suc k.place)) file offset asked attr counted eof data_ (u.lawful.entries k.place _ at).1 in
      let some = asks-read terms t.entries x m op file offset asked (subst (λ (c : Call). Asks terms t.entries x m op c) is a) in
      right-data asked counted data_ eof done.long done.most done.some (λ none. omega (arith, some, none)) wrong
  not-page x y op m call xid bytes n a k (pages.no_entry rule d cookie dircount maxcount verf next attr is spells) =
      let reply : Reply = replies.Dir (found.ReadDirPlus attr next [] false) in
      let same : k.reply ≡ reply = one-reply xid call k.reply reply bytes k.spells spells in
      let at : At t.entries k.place (Executed xid (calls.Dir (dirs.ReadDirPlus d cookie verf dircount maxcount)) reply) =
      subst (λ (c : Call). At t.entries k.place (Executed xid c reply)) is (subst (λ (p : Reply). At t.entries k.place (Executed xid call p)) same k.at) in
      let done = list_done (t.at k.place) (t.at (suc k.place)) d cookie verf dircount maxcount attr next [] false (u.lawful.entries k.place _ at).1 in
      by done.some
    where
      by : (1 ≤ 0) ⊎ (false ≡ true) → ⊥
      by (inl low) = omega (arith, low)
      by (inr no_way) = cc

  -- ---- the operation was under way

  began-is : (a b c d : ℕ) (o p : Op) → Began a b o ≡ Began c d p → (a ≡ c) × (b ≡ d)
  began-is a b c d o p e = (cc, cc)

  under : (lane x y : ℕ) (op : Op) (answer : Answer) (call : Call) (xid : ℕ) (bytes : List ℕ) → Ended t.entries lane x op y answer → (d : Heard t.entries x y call xid bytes)
      → UnderWay t.entries lane x d.sent_at op
  under lane x y op answer call xid bytes ended d = record {
    line = ended.line;
    began = ended.began;
    before = elim (cases_lt x d.sent_at) [
      | inl lt ↦ lt
      | inr ge ↦
          let after = d.after in
          let same : d.sent_at ≡ x = omega (arith, after, ge) in
          absurd (let no_way = At-one t.entries x (Began lane ended.line op) (Sent d.record_sent) ended.began (subst (λ (i : ℕ). At t.entries i (Sent d.record_sent)) same d.sent.sent) in cc)
    ];
    unanswered = λ a.
        let same = began-is a.lane a.ended.line lane ended.line a.op op (At-one t.entries x (Began a.lane a.ended.line a.op) (Began lane ended.line op) a.ended.began ended.began) in
        let there : At t.entries a.y (Answered lane ended.line a.answer) =
        subst (λ (n : ℕ). At t.entries a.y (Answered n ended.line a.answer)) same.0 (subst (λ (l : ℕ). At t.entries a.y (Answered a.lane l a.answer)) same.1 a.ended.answered) in
        let late = ended.first a.y a.answer there a.ended.later in
        let early = a.before in
        let got = d.later in
        let came = d.before in
        omega (arith, late, early, got, came);
  }

  -- ---- refusals

  status-not : (lane x y : ℕ) (op : Op) (answer : Answer) (n : ℕ) (reply : Reply) → Ended t.entries lane x op y answer → (k : RefusedBy terms t.entries x y op (faults.Nfs n)) → n ≢ 0
      → status_of reply ≡ n → (status_of reply ≡ 0) ⊎ AllGoOn terms t.entries k.refused.xid k.call (status_of reply) → ⊥
  status-not lane x y op answer n reply ended k other status (inl none) = other (sym status ∙ none)
  status-not lane x y op answer n reply ended k other status (inr go) =
      let d = k.refused.heard in
      k.ends n refl
      (subst (λ (s : ℕ). GoesOn terms t.entries x d.got_at op k.call s) status
      (go d.sent_at d.got_at lane x d.record_sent k.refused.bytes op d.sent (under lane x y op answer k.call k.refused.xid k.refused.bytes ended d) k.asks d.got))

  nfs-not : (lane x y : ℕ) (op : Op) (answer : Answer) (n : ℕ) → Ended t.entries lane x op y answer → RefusedBy terms t.entries x y op (faults.Nfs n) → ⊥
  nfs-not lane x y op answer n ended k =
      let told = told-of x y k.call k.refused.xid k.refused.bytes (asks-nfs terms t.entries x k.refused.heard.sent_at op k.call k.asks) k.refused.heard in
      by told k.refused.refuses
    where
      by : IsTold k.call k.refused.xid k.refused.bytes → RefusesSo k.refused.xid k.call k.refused.bytes (faults.Nfs n) → ⊥
      by told (pages.breaks m is b) = cc
      by told (pages.refuses f) =
          let same : told.reply ≡ f.0 = one-reply k.refused.xid k.call told.reply f.0 k.refused.bytes told.spells f.1 in
          status-not lane x y op answer n told.reply ended k f.3 (ap status_of same ∙ f.2) (u.done told.place k.refused.xid k.call told.reply told.at)

  rpc-not : (x y : ℕ) (op : Op) (n : ℕ) → RefusedBy terms t.entries x y op (faults.Rpc n) → ⊥
  rpc-not x y op n k = by k.refused.refuses
    where
      by : RefusesSo k.refused.xid k.call k.refused.bytes (faults.Rpc n) → ⊥
      by (pages.breaks m is b) = cc
      by (pages.refuses f) = u.unrefused k.refused.heard.got_at k.refused.xid n k.refused.bytes k.refused.heard.got.got f

  bad-not : (x y : ℕ) (op : Op) (n : ℕ) → RefusedBy terms t.entries x y op (faults.Bad n) → ⊥
  bad-not x y op n k =
      let told = told-of x y k.call k.refused.xid k.refused.bytes (asks-nfs terms t.entries x k.refused.heard.sent_at op k.call k.asks) k.refused.heard in
      by told k.refused.refuses
    where
      by : IsTold k.call k.refused.xid k.refused.bytes → RefusesSo k.refused.xid k.call k.refused.bytes (faults.Bad n) → ⊥
      by told (pages.refuses f) = not-broken x y k.call k.refused.xid k.refused.bytes n k.refused.heard told f
      by told (pages.breaks m is b) = not-page x y op k.refused.heard.sent_at k.call k.refused.xid k.refused.bytes m k.asks told b

  refused-own : (lane x y : ℕ) (op : Op) (fault : Fault) → Ended t.entries lane x op y (answers.Refused fault) → RefusalRow terms t.entries lane x y op fault → IsOwn (answers.Refused fault)
  refused-own lane x y op (faults.Nfs n) ended row = absurd (nfs-not lane x y op (answers.Refused (faults.Nfs n)) n ended row)
  refused-own lane x y op (faults.Rpc n) ended row = absurd (rpc-not x y op n row)
  refused-own lane x y op (faults.Bad n) ended row = absurd (bad-not x y op n row)
  refused-own lane x y op faults.Lost ended row = absurd (u.kept y row)
  refused-own lane x y op faults.Spent ended row = complete.spent refl
  refused-own lane x y op faults.Slot ended row = complete.slot refl
  refused-own lane x y op faults.Mode ended row = complete.mode refl
  refused-own lane x y op faults.Kind ended row = complete.kind refl
  refused-own lane x y op faults.Many ended row = complete.many refl
  refused-own lane x y op faults.Memory ended row = complete.memory refl

  own : (lane x y : ℕ) (op : Op) (answer : Answer) → Ended t.entries lane x op y answer → IsOwn answer
  own lane x y op (answers.Done value) ended = complete.done value refl
  own lane x y op (answers.Refused fault) ended = refused-own lane x y op fault ended (r.refused lane x y op fault ended)

pub rows-complete : RowsComplete
rows-complete terms t r u = own terms t r u
