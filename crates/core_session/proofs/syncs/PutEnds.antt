-- The last record that came names the file of the save that waited for it.
use Rattle.core_session.proofs.Prelude.{◌≡◌, ◌<◌, ◌≤◌, ℕ, List, [], ◌∷◌, ◌++◌, length, false, Some, None, inl, inr, Bool, true, slice_get, refl, sym, subst, ◌∙◌, arith, xid_at, Waiting, waiting_at, Entry, Sent, Delivered, Call, At, HasXid, SpellsCall, LastReply, NamesFile, FirstSent-grow, At-one, At-last, At-below, length_last, Putting, Saving, Writing, Mounted, FileMachine, Machine, PathMachine, machine_of, file_of, Purpose, Busy, Setup, View, HearsRecord, Reaches, IsOutstanding, Tried, unsent, begins-unbegun, one-xid, always-later, was-sent, reached-rows, reached-good, PathNames, Names, Expects, expects-laws, StateNames, FileNames, Saves, NoCall, NoShelf, NoStory, no-laws, IsNfs, one-call}
use Rattle.claims.specs.Slots.{writes, commits}
use Rattle.core_facts.specs.Tries.{runs, ended}
use Rattle.nfs_file_calls.specs.declared.call.FileCall.TheVariants as file_calls
use Rattle.world_model.specs.declared.message.Call.TheVariants as calls
use Rattle.file_ops.specs.declared.put_file.Putting.TheVariants as putting
use Rattle.op_machines.specs.declared.file_machine.FileMachine.TheVariants as files
use Rattle.op_machines.specs.declared.machine.Machine.TheVariants as machines
use Rattle.core_facts.proofs.LastReplies.{last-grow}
use Rattle.core_session.proofs.syncs.PutGoes.{put_own, file_own, path_own, own_save}

-- ---- the call that a save waits for

none-saves : {X : Type 0} → (s : Saving) → None ≡ Some s → X
none-saves s is = absurd (let no_way : None ≡ Some s = is in cc)

module _ (s : Saving) (call : Call) where
  save-of : (own : Saving) → Some own ≡ Some s → Saves own.file call → Saves s.file call
  save-of own is names = subst (λ (z : Saving). Saves z.file call) (let same : own ≡ s = cc in same) names

  put-of : (p : Putting) (w : Writing) → put_own p ≡ Some s → StateNames p w call → Saves s.file call
  put-of putting.Idle w is names = none-saves s is
  put-of putting.Opens w is names = none-saves s is
  put-of (putting.Adds file) w is names = none-saves s is
  put-of (putting.Saves own) w is names = save-of own is names

  file-saves : (m : FileMachine) → file_own m ≡ Some s → FileNames m call → Saves s.file call
  file-saves (files.Open m) is names = none-saves s is
  file-saves (files.Read m) is names = none-saves s is
  file-saves (files.Write m) is names = none-saves s is
  file-saves (files.Sync m) is names = none-saves s is
  file-saves (files.Close m) is names = none-saves s is
  file-saves (files.Truncate m) is names = none-saves s is
  file-saves (files.Put m) is names = put-of m.state m.write.state is names

  path-saves : (m : PathMachine) (b : Bool) → path_own b m.opener ≡ Some s → PathNames b m call → Saves s.file call
  path-saves m true is names = file-saves (file_of m.opener) is names
  path-saves m false is names = none-saves s is

  own-saves : (m : Machine) → own_save m ≡ Some s → Names m call → Saves s.file call
  own-saves (machines.File m) is names = file-saves m is names
  own-saves (machines.Path m) is names = path-saves m m.arrived is names
  own-saves (machines.Name m) is names = none-saves s is

-- WRITE or COMMIT of the file
names-file : (f : List ℕ) (call : Call) → Saves f call → NamesFile f call
names-file f call (inl w) = writes w.0.offset w.0.how w.0.bytes w.1
names-file f call (inr is) = commits 0 0 is

-- ---- the last record

-- It names the file.
pub record LastNames (h : List Entry) (n : ℕ) (f : List ℕ) : Type 0 where
  pub call : Call
  pub names : NamesFile f call
  pub last : LastReply h n call

pub last-names-later : (h more : List Entry) (n : ℕ) (f : List ℕ) → n ≤ length h → LastNames h n f → LastNames (h ++ more) n f
last-names-later h more n f within l = grown.0
  where
    Kept : List Entry → Type 0
    Kept g = LastNames g n f × (n ≤ length g)

    step : (g : List Entry) (e : Entry) → Kept g → Kept (g ++ e ∷ [])
    step g e k = (
      record { call = k.0.call; names = k.0.names; last = last-grow g e n k.0.call k.1 k.0.last },
      let low = k.1 in let more = length_last g e in omega (arith, low, more),
    )

    grown : Kept (h ++ more)
    grown = always-later Kept step h more (l, within)

file-nfs : (f : List ℕ) (call : Call) → NamesFile f call → IsNfs call
file-nfs f call (writes offset how bytes is) = subst IsNfs (sym is) tt
file-nfs f call (commits offset count is) = subst IsNfs (sym is) tt

write-file : (f g : List ℕ) (a b c d : ℕ) (x y : List ℕ) → ◌≡◌ {A = Call} (calls.File (file_calls.Write f a b x)) (calls.File (file_calls.Write g c d y)) → f ≡ g
write-file f g a b c d x y e = cc

commit-file : (f g : List ℕ) (a b c d : ℕ) → ◌≡◌ {A = Call} (calls.File (file_calls.Commit f a b)) (calls.File (file_calls.Commit g c d)) → f ≡ g
commit-file f g a b c d e = cc

one-file : (f g : List ℕ) (call other : Call) → call ≡ other → NamesFile f call → NamesFile g other → f ≡ g
one-file f g call other same (writes offset how bytes is) (writes o w b js) = write-file f g offset how o w bytes b (sym is ∙ same ∙ js)
one-file f g call other same (writes offset how bytes is) (commits o c js) =
    absurd (let no_way : calls.File (file_calls.Write f offset how bytes) ≡ calls.File (file_calls.Commit g o c) = sym is ∙ same ∙ js in cc)
one-file f g call other same (commits offset count is) (writes o w b js) =
    absurd (let no_way : calls.File (file_calls.Commit f offset count) ≡ calls.File (file_calls.Write g o w b) = sym is ∙ same ∙ js in cc)
one-file f g call other same (commits offset count is) (commits o c js) = commit-file f g offset count o c (sym is ∙ same ∙ js)

came-is : (a b : List ℕ) → Delivered a ≡ Delivered b → a ≡ b
came-is a b e = cc

sent-is : (a b : List ℕ) → Sent a ≡ Sent b → a ≡ b
sent-is a b e = cc

-- Of one moment it names one file.
pub last-names-one : (h : List Entry) (n : ℕ) (f g : List ℕ) (call : Call) → LastNames h n f → LastReply h n call → NamesFile g call → f ≡ g
last-names-one h n f g call k l names =
    let low = k.last.last l.at l.bytes l.got l.before in
    let high = l.last k.last.at k.last.bytes k.last.got k.last.before in
    let at : l.at ≡ k.last.at = omega (arith, low, high) in
    let bytes : l.bytes ≡ k.last.bytes =
    came-is l.bytes k.last.bytes (At-one h k.last.at (Delivered l.bytes) (Delivered k.last.bytes) (subst (λ (i : ℕ). At h i (Delivered l.bytes)) at l.got) k.last.got) in
    let xid : l.xid ≡ k.last.xid = one-xid l.xid k.last.xid k.last.bytes (subst (λ (b : List ℕ). HasXid b l.xid) bytes l.under) k.last.under in
    let under : HasXid l.record_sent k.last.xid = subst (λ (i : ℕ). HasXid l.record_sent i) xid l.sent.under in
    let first = k.last.sent.first l.sent_at l.record_sent l.sent.sent under in
    let second = l.sent.first k.last.sent_at k.last.record_sent k.last.sent.sent (subst (λ (i : ℕ). HasXid k.last.record_sent i) (sym xid) k.last.sent.under) in
    let sent_at : l.sent_at ≡ k.last.sent_at = omega (arith, first, second) in
    let sent : l.record_sent ≡ k.last.record_sent =
    sent-is l.record_sent k.last.record_sent
    (At-one h k.last.sent_at (Sent l.record_sent) (Sent k.last.record_sent) (subst (λ (i : ℕ). At h i (Sent l.record_sent)) sent_at l.sent.sent) k.last.sent.sent) in
    let same : k.call ≡ call =
    one-call k.last.xid l.xid k.call call k.last.record_sent (file-nfs f k.call k.names) k.last.spells (subst (λ (b : List ℕ). SpellsCall l.xid call b) sent l.spells) in
    one-file f g k.call call same k.names names

-- ---- at a step with a reply

module _ (m : Mounted) (setup : Setup) (h : List Entry) (old : View) (rec : List ℕ) (fin : View) (xid : ℕ) (call : Waiting Purpose) (at : ℕ) (r : Reaches (machine_of m) setup h old)
    (found : old.lost ≡ false) (hears : HearsRecord old rec fin) (named : xid_at rec ≡ Some xid) (waits : waiting_at xid old.calls.calls ≡ Some call) where
  abbrev now : List Entry
  now = h ++ Delivered rec ∷ []

  -- a put's own save has waited for this record
  pub own-last : (machine : Machine) → slice_get old.lanes at ≡ Some (record { number = call.purpose.lane; state = Busy machine }) → (s : Saving) → own_save machine ≡ Some s → LastNames now (length now) s.file
  own-last machine there s own =
      let good = reached-good (machine_of m) (begins-unbegun m) setup Expects expects-laws NoCall NoShelf NoStory (no-laws (machine_of m) setup Expects) h old r in
      let e = (good.each at (record { number = call.purpose.lane; state = Busy machine }) there).0 xid call waits refl in
      let of : Saves s.file e.made.asked = own-saves s e.made.asked machine own e.expects.1 in
      record { call = e.made.asked; names = names-file s.file e.made.asked of; last = by e.made.asked e.made.spells.spells ((reached-rows (machine_of m) setup h old r).rows xid call waits).tried }
    where
      last : (asked : Call) → SpellsCall xid asked call.bytes → (from : ℕ) → IsOutstanding h xid call.bytes from → LastReply now (length now) asked
      last asked spells from o =
          let within : from < length h = At-below h from (Sent call.bytes) o.sent.sent in
          let long = length_last h (Delivered rec) in
          record {
            at = length h;
            bytes = rec;
            xid = xid;
            sent_at = from;
            record_sent = call.bytes;
            got = At-last h (Delivered rec);
            before = omega (arith, long);
            last = λ j b there lt. omega (arith, long, lt);
            under = named;
            sent = FirstSent-grow h (Delivered rec ∷ []) from xid call.bytes o.sent;
            spells = spells;
            asked = within;
          }

      by : (asked : Call) → SpellsCall xid asked call.bytes → Tried h xid call → LastReply now (length now) asked
      by asked spells (unsent nothing u) = absurd (let some = was-sent xid old.calls.calls call hears.may.sent waits in omega (arith, some, nothing))
      by asked spells (runs from running o rest) = last asked spells from o
      by asked spells (ended from idle o rest) = last asked spells from o
