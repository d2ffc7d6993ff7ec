-- The operation for which a record was sent asks for its call, or the call is one of those of which that isn't said.
use Rattle.core_session.proofs.Prelude.{◌≡◌, ◌≤◌, ◌⊎◌, inl, inr, ℕ, List, ◌++◌, length, refl, sym, subst, arith, Entry, Call, Op, Asks, Acts, SpellsCallBy, Rooted, info_call, UnderWay, Terms, Asked, Asked-grow, Asked-wide, Mounted, IsAsked, IsNamed, machine_of, Busy, Setup, View, Awaits, awaits-laws, begins-unbegun, good-over, over-laws, Always, reached-good, IsForRoom, Expects, expects-laws, NoCall, SentFor, IsSession}
use Rattle.world_model.specs.Heard.{Refused}
use Rattle.world_model.proofs.Growth.{Refused-grow, Refused-wide}
use Rattle.nfs_file_calls.specs.declared.call.FileCall.TheVariants as files
use Rattle.world_model.specs.declared.message.Call.TheVariants as calls
use Rattle.world_model.specs.declared.message.Reply.TheVariants as replies
use Rattle.nfs_file_calls.specs.declared.owned.FileKept.TheVariants as kept
use Rattle.world_model.specs.declared.op.Op.TheVariants as ops
use Rattle.claims.specs.Asks as asks
use Rattle.world_model.specs.ReadSize.{ReadSized, told, untold}
use Rattle.core_facts.specs.Naming.{IsOneCall}
use Rattle.core_facts.proofs.OneCallAsks.{AsksNow, asks-from}
use Rattle.core_facts.proofs.OneCallStory as one_calls
use Rattle.core_answers.specs.asks.PutCalls as room
use Rattle.core_answers.proofs.asks.PutAsks as puts
use Rattle.core_answers.proofs.asks.RemoveAsks as removes
use Rattle.core_answers.proofs.asks.StatAsks as stats
use Rattle.core_session.specs.calls.Made.{IsBeside, makes_room, removes as takes_away, ReadsKeep, IsMade, CallsMade}
use Rattle.core_session.proofs.calls.ListTales as lists
use Rattle.core_session.proofs.calls.OneTales.{one-laws}
use Rattle.core_session.proofs.calls.OpenTales as opens
use Rattle.core_session.proofs.calls.HidingHeld.{hiding-held}
use Rattle.core_session.proofs.calls.Outgoing.{Outgoing, reached-out, sent-as, sent-nfs, sent-spells, caused-so}
use Rattle.core_session.proofs.calls.ReadCause.{asking}
use Rattle.core_session.proofs.calls.RemoveCause.{remove-asks}
use Rattle.core_session.proofs.calls.SlotCause.{sync-cause, cut-cause, close-cause}
use Rattle.core_session.proofs.calls.StatCause.{stat-asks}
use Rattle.core_session.proofs.calls.WriteCause.{IsStore, WriteStory, write-laws, write-asks}

-- ---- the size of READ, in a longer history

sized-wide : (h : List Entry) (to more : ℕ) (root : List ℕ) (size rsize : ℕ) → to ≤ more → ReadSized h to root size rsize → ReadSized h more root size rsize
sized-wide h to more root size rsize wide (told attr rtmax rtpref rtmult wtmax wtpref wtmult dtpref maxfilesize delta properties a is) =
    told attr rtmax rtpref rtmult wtmax wtpref wtmult dtpref maxfilesize delta properties (Asked-wide h 0 to 0 more _ _ (omega arith) wide a) is
sized-wide h to more root size rsize wide (untold fault r is) = untold fault (Refused-wide h 0 to 0 more _ fault (omega arith) wide r) is

pub sized-grow : (before h more : List Entry) → h ≡ before ++ more → (to from : ℕ) (root : List ℕ) (size rsize : ℕ) → to ≤ from → ReadSized before to root size rsize → ReadSized h from root size rsize
sized-grow before h more is to from root size rsize wide (told attr rtmax rtpref rtmult wtmax wtpref wtmult dtpref maxfilesize delta properties a of) =
    sized-wide h to from root size rsize wide
    (told attr rtmax rtpref rtmult wtmax wtpref wtmult dtpref maxfilesize delta properties
    (subst (λ (k : List Entry). Asked k 0 to (info_call root) (replies.File (kept.FsInfo attr rtmax rtpref rtmult wtmax wtpref wtmult dtpref maxfilesize delta properties))) (sym is)
    (Asked-grow before more 0 to (info_call root) (replies.File (kept.FsInfo attr rtmax rtpref rtmult wtmax wtpref wtmult dtpref maxfilesize delta properties)) a)) of)
sized-grow before h more is to from root size rsize wide (untold fault r of) =
    sized-wide h to from root size rsize wide (untold fault (subst (λ (k : List Entry). Refused k 0 to (info_call root) fault) (sym is) (Refused-grow before more 0 to (info_call root) fault r)) of)

-- ---- by operation

module _ (m : Mounted) (terms : Terms) (setup : Setup) (h : List Entry) (v : View) (s : IsSession m terms setup h v) (i : ℕ) (bytes : List ℕ)
    (w : Outgoing (machine_of m) (begins-unbegun m) setup h i bytes) where
  abbrev pub Now : SentFor (machine_of m) (begins-unbegun m) setup Expects expects-laws h i bytes
  Now = sent-as (machine_of m) (begins-unbegun m) setup Expects expects-laws h i bytes w

  abbrev pub Spelt : Call
  Spelt = (sent-as (machine_of m) (begins-unbegun m) setup Expects expects-laws h i bytes w).call

  abbrev pub For : Op → Type 0
  For op = Asks terms h w.x i op Spelt ⊎ IsBeside terms h w.x i op Spelt

  pub under-now : UnderWay h w.waiting.purpose.lane w.x i w.op
  under-now = puts.now m setup terms h s.root i bytes Now

  rooted-on : Rooted terms.origin (w.before ++ w.after) i m.root
  rooted-on = puts.rooted-now m setup terms h s.root i bytes Now

  pub rooted-here : Rooted terms.origin h i m.root
  rooted-here = subst (λ (k : List Entry). Rooted terms.origin k i m.root) (sym w.is) rooted-on

  whole : (op : Op) → Asks terms (w.before ++ w.after) w.x i op Spelt → For op
  whole op a = inl (subst (λ (k : List Entry). Asks terms k w.x i op Spelt) (sym w.is) a)

  within : length w.before ≤ i
  within = let there = w.there in omega (arith, there)

  one-cause : (op : Op) → w.op ≡ op → IsOneCall op → IsAsked op → For op
  one-cause op is one asked =
      let now : AsksNow m.root terms w.before w.x op Spelt =
      subst (λ (o : Op). AsksNow m.root terms w.before w.x o Spelt) is
      (caused-so (machine_of m) (begins-unbegun m) setup Awaits awaits-laws
      (λ g x o call. IsOneCall o → IsAsked o → AsksNow m.root terms g x o call) (one_calls.Shelved m.root terms) (one_calls.Story m.root terms) (one-laws m terms setup) h i bytes w Spelt
      (sent-nfs (machine_of m) (begins-unbegun m) setup Expects expects-laws h i bytes w) (sent-spells (machine_of m) (begins-unbegun m) setup Expects expects-laws h i bytes w)
      (subst IsOneCall (sym is) one) (subst IsAsked (sym is) asked)) in
      whole op (asks-from m.root terms w.before w.after w.x (length w.before) i op Spelt one within rooted-on now)

  list-cause : (path : List (List ℕ)) → w.op ≡ ops.List path → For (ops.List path)
  list-cause path is =
      whole (ops.List path)
      (lists.asks-as m.root terms w.before w.after w.x (length w.before) i path Spelt refl within rooted-on
      (caused-so (machine_of m) (begins-unbegun m) setup Awaits awaits-laws (lists.Caused m terms) (lists.Shelved m terms) (lists.Story m terms) (lists.list-laws m terms setup) h i bytes w Spelt
      (sent-nfs (machine_of m) (begins-unbegun m) setup Expects expects-laws h i bytes w) (sent-spells (machine_of m) (begins-unbegun m) setup Expects expects-laws h i bytes w) path is))

  open-cause : (slot : ℕ) (mode : _) (path : List (List ℕ)) → w.op ≡ ops.OpenFile slot mode path → IsNamed path → For (ops.OpenFile slot mode path)
  open-cause slot mode path is named =
      whole (ops.OpenFile slot mode path)
      (opens.asks-as m terms w.before w.after w.x i slot mode path Spelt named w.there rooted-on
      (caused-so (machine_of m) (begins-unbegun m) setup Awaits awaits-laws (opens.Caused m) (opens.Shelved m) (opens.Story m) (opens.open-laws m setup) h i bytes w Spelt
      (sent-nfs (machine_of m) (begins-unbegun m) setup Expects expects-laws h i bytes w) (sent-spells (machine_of m) (begins-unbegun m) setup Expects expects-laws h i bytes w) slot mode path is named))

  stat-cause : (path : List (List ℕ)) → w.op ≡ ops.Stat path → For (ops.Stat path)
  stat-cause path is =
      whole (ops.Stat path)
      (stat-asks m terms w.before w.after w.x i path Spelt w.there rooted-on w.machine
      (((reached-good (machine_of m) (begins-unbegun m) setup Expects expects-laws NoCall (stats.Shelved m) (stats.StatStory m) (stats.stat-laws m setup) w.before w.old w.reached).each w.at
      (record { number = w.waiting.purpose.lane; state = Busy w.machine }) w.busy).1 w.x w.op w.under_way path is) Now.expects w.some)

  put-cause : (path : List (List ℕ)) (offset : ℕ) (text : List ℕ) → w.op ≡ ops.Put path offset text → IsNamed path → For (ops.Put path offset text)
  put-cause path offset text is named = elim
      (puts.put-asks m terms w.before w.after w.x i path offset text Spelt named w.there rooted-on w.machine
      (((reached-good (machine_of m) (begins-unbegun m) setup Expects expects-laws NoCall (puts.Shelved m) (puts.PutStory m) (puts.put-laws m setup) w.before w.old w.reached).each w.at
      (record { number = w.waiting.purpose.lane; state = Busy w.machine }) w.busy).1 w.x w.op w.under_way path offset text is named) Now.expects w.some) [
        | inl asked ↦ whole (ops.Put path offset text) asked
        | inr room ↦ inr (makes_room (asks.put path offset text refl) room.room)
      ]

  remove-cause : (path : List (List ℕ)) → w.op ≡ ops.Remove path → IsNamed path → For (ops.Remove path)
  remove-cause path is named =
      whole (ops.Remove path)
      (remove-asks m terms w.before w.after w.x i path Spelt named w.there rooted-on w.machine
      (((reached-good (machine_of m) (begins-unbegun m) setup Expects expects-laws NoCall (removes.Shelved m) (removes.RemoveStory m) (removes.remove-laws m setup) w.before w.old w.reached).each w.at
      (record { number = w.waiting.purpose.lane; state = Busy w.machine }) w.busy).1 w.x w.op w.under_way path is)
      (hiding-held m terms s.goes.nocto setup w.before w.old w.reached w.found w.at (record { number = w.waiting.purpose.lane; state = Busy w.machine }) w.busy w.x w.op w.under_way)
      Now.expects w.some)

  store-cause : (op : Op) → w.op ≡ op → IsStore op → IsForRoom Spelt
  store-cause op is stores = write-asks w.machine Spelt
      ((good-over (machine_of m) (begins-unbegun m) setup Always (λ g u reached kept lane other. tt) WriteStory (over-laws (machine_of m) WriteStory (write-laws m)) w.before w.old w.reached w.at
      (record { number = w.waiting.purpose.lane; state = Busy w.machine }) w.busy).1 w.x w.op w.under_way (subst IsStore (sym is) stores)) Now.expects w.some

  pub cause : (op : Op) → w.op ≡ op → IsAsked op → For op
  cause (ops.OpenFile slot mode path) is asked = open-cause slot mode path is asked
  cause (ops.Read slot offset count) is asked = inl (asking m terms setup s.goes.nocto s.noac s.some h i bytes Now slot offset count is).asks
  cause (ops.Write slot offset text) is asked = inr (makes_room (asks.write slot offset text refl) (store-cause (ops.Write slot offset text) is tt))
  cause (ops.Fill slot offset count byte) is asked = inr (makes_room (asks.fill slot offset count byte refl) (store-cause (ops.Fill slot offset count byte) is tt))
  cause (ops.Sync slot) is asked = inl (sync-cause m terms setup s.goes.nocto h i bytes Now slot is)
  cause (ops.Close slot) is asked = elim (close-cause m terms setup s.goes.nocto h i bytes Now slot is) [
    | inl asked ↦ inl asked
    | inr removal ↦ inr (takes_away slot refl removal)
  ]
  cause (ops.Truncate slot size) is asked = inl (cut-cause m terms setup s.goes.nocto h i bytes Now slot size is)
  cause (ops.Stat path) is asked = stat-cause path is
  cause (ops.Access path bits) is asked = one-cause (ops.Access path bits) is tt asked
  cause (ops.MakeDir path) is asked = one-cause (ops.MakeDir path) is tt asked
  cause (ops.RemoveDir path) is asked = one-cause (ops.RemoveDir path) is tt asked
  cause (ops.Remove path) is asked = remove-cause path is asked
  cause (ops.Rename from to) is asked = one-cause (ops.Rename from to) is tt asked
  cause (ops.Link from to) is asked = one-cause (ops.Link from to) is tt asked
  cause (ops.SymLink path target) is asked = one-cause (ops.SymLink path target) is tt asked
  cause (ops.ReadLink path) is asked = one-cause (ops.ReadLink path) is tt asked
  cause (ops.List path) is asked = list-cause path is
  cause (ops.Put path offset text) is asked = put-cause path offset text is asked.0

  -- ---- the size of a READ

  -- a READ is made for a read alone
  not-acts : (op : Op) (f : List ℕ) (offset count : ℕ) → Acts terms h w.x i op (calls.File (files.Read f offset count)) → ⊥
  not-acts op f offset count (asks.cuts slot size g is of c) = cc
  not-acts op f offset count (asks.accesses path bits g is l c) = cc
  not-acts op f offset count (asks.reads_link path g is l c) = cc
  not-acts op f offset count (asks.makes_dir path d name is p c) = cc
  not-acts op f offset count (asks.makes_link path target d name is p c) = cc
  not-acts op f offset count (asks.removes_dir path d name is p c) = cc
  not-acts op f offset count (asks.renames from to d name e other is p q c) = cc
  not-acts op f offset count (asks.links from to g d name is l p c) = cc
  not-acts op f offset count (asks.removes path d name is p c) = cc
  not-acts op f offset count (asks.hides path d last name is p hidden may c) = cc

  reads-of : (op : Op) (f : List ℕ) (offset count : ℕ) → Asks terms h w.x i op (calls.File (files.Read f offset count)) → (slot its_offset its_count : ℕ) × (op ≡ ops.Read slot its_offset its_count)
  reads-of op f offset count (asks.walks path earlier later name next d of is l c) = absurd (cc)
  reads-of op f offset count (asks.finds path d name of p c) = absurd (cc)
  reads-of op f offset count (asks.looks_for_hidden path d last name is p hidden c) = absurd (cc)
  reads-of op f offset count (asks.creates slot path d name is p c) = absurd (cc)
  reads-of op f offset count (asks.creates_after slot path d name reply is p a none c) = absurd (cc)
  reads-of op f offset count (asks.opens path g o l c) = absurd (cc)
  reads-of op f offset count (asks.opens_made slot mode path d name g making attr wcc is p mk a c) = absurd (cc)
  reads-of op f offset count (asks.shows path g is l c) = absurd (cc)
  reads-of op f offset count (asks.reads slot its_offset its_count at size g is of pages c) = (slot, its_offset, its_count, is)
  reads-of op f offset count (asks.asks_anew slot its_offset its_count g is noac of c) = absurd (cc)
  reads-of op f offset count (asks.writes g bytes at how stable c) = absurd (cc)
  reads-of op f offset count (asks.commits g stable c) = absurd (cc)
  reads-of op f offset count (asks.writes_for_room g bytes at how writer had needs c) = absurd (cc)
  reads-of op f offset count (asks.commits_for_room g writer had needs c) = absurd (cc)
  reads-of op f offset count (asks.removes_hidden r) = absurd (let c = r.removes in cc)
  reads-of op f offset count (asks.lists path d rows cookie verf is l chain c) = absurd (cc)
  reads-of op f offset count (asks.acts a) = absurd (not-acts op f offset count a)

  not-beside : (op : Op) (f : List ℕ) (offset count : ℕ) → IsBeside terms h w.x i op (calls.File (files.Read f offset count)) → ⊥
  not-beside op f offset count (makes_room writer (room.writes g bytes at how c)) = cc
  not-beside op f offset count (makes_room writer (room.commits g c)) = cc
  not-beside op f offset count (takes_away slot is removal) = let c = removal.is in cc

  -- ---- no call of the set-up is made for an operation

  -- what MNT and FSINFO aren't
  abbrev pub IsPlain : Call → Type 0
  IsPlain (calls.File (files.FsInfo root)) = ⊥
  IsPlain (calls.Mount call) = ⊥
  IsPlain call = Unit {0}

  plain-as : (call to : Call) → call ≡ to → IsPlain to → IsPlain call
  plain-as call to is p = subst IsPlain (sym is) p

  acts-plain : (op : Op) (call : Call) → Acts terms h w.x i op call → IsPlain call
  acts-plain op call (asks.cuts slot size g is of c) = plain-as call _ c tt
  acts-plain op call (asks.accesses path bits g is l c) = plain-as call _ c tt
  acts-plain op call (asks.reads_link path g is l c) = plain-as call _ c tt
  acts-plain op call (asks.makes_dir path d name is p c) = plain-as call _ c tt
  acts-plain op call (asks.makes_link path target d name is p c) = plain-as call _ c tt
  acts-plain op call (asks.removes_dir path d name is p c) = plain-as call _ c tt
  acts-plain op call (asks.renames from to d name e other is p q c) = plain-as call _ c tt
  acts-plain op call (asks.links from to g d name is l p c) = plain-as call _ c tt
  acts-plain op call (asks.removes path d name is p c) = plain-as call _ c tt
  acts-plain op call (asks.hides path d last name is p hidden may c) = plain-as call _ c tt

  asks-plain : (op : Op) (call : Call) → Asks terms h w.x i op call → IsPlain call
  asks-plain op call (asks.walks path earlier later name next d of is l c) = plain-as call _ c tt
  asks-plain op call (asks.finds path d name of p c) = plain-as call _ c tt
  asks-plain op call (asks.looks_for_hidden path d last name is p hidden c) = plain-as call _ c tt
  asks-plain op call (asks.creates slot path d name is p c) = plain-as call _ c tt
  asks-plain op call (asks.creates_after slot path d name reply is p a none c) = plain-as call _ c tt
  asks-plain op call (asks.opens path g o l c) = plain-as call _ c tt
  asks-plain op call (asks.opens_made slot mode path d name g making attr wcc is p mk a c) = plain-as call _ c tt
  asks-plain op call (asks.shows path g is l c) = plain-as call _ c tt
  asks-plain op call (asks.reads slot its_offset its_count at size g is of pages c) = plain-as call _ c tt
  asks-plain op call (asks.asks_anew slot its_offset its_count g is noac of c) = plain-as call _ c tt
  asks-plain op call (asks.writes g bytes at how stable c) = plain-as call _ c tt
  asks-plain op call (asks.commits g stable c) = plain-as call _ c tt
  asks-plain op call (asks.writes_for_room g bytes at how writer had needs c) = plain-as call _ c tt
  asks-plain op call (asks.commits_for_room g writer had needs c) = plain-as call _ c tt
  asks-plain op call (asks.removes_hidden r) = plain-as call _ r.removes tt
  asks-plain op call (asks.lists path d rows cookie verf is l chain c) = plain-as call _ c tt
  asks-plain op call (asks.acts a) = acts-plain op call a

  beside-plain : (op : Op) (call : Call) → IsBeside terms h w.x i op call → IsPlain call
  beside-plain op call (makes_room writer (room.writes g bytes at how c)) = plain-as call _ c tt
  beside-plain op call (makes_room writer (room.commits g c)) = plain-as call _ c tt
  beside-plain op call (takes_away slot is removal) = plain-as call _ removal.is tt

  pub spelt-plain : IsAsked w.op → IsPlain Spelt
  spelt-plain asked = elim (cause w.op refl asked) [ inl a ↦ asks-plain w.op Spelt a | inr other ↦ beside-plain w.op Spelt other ]

  pub reads-keep : IsAsked w.op → ReadsKeep terms h i Spelt
  reads-keep asked f offset count is = elim (subst (λ (c : Call). Asks terms h w.x i w.op c ⊎ IsBeside terms h w.x i w.op c) is (cause w.op refl asked)) [
    | inl a ↦
        let of = reads-of w.op f offset count a in
        let under = under-now in
        let since = under.before in
        record {
          root = m.root;
          rsize = m.rsize;
          rooted = rooted-here;
          sized = sized-wide h w.x i m.root terms.rsize m.rsize (omega (arith, since)) (s.sizes w.x w.waiting.purpose.lane under.line w.op under.began).0;
          fits = (asking m terms setup s.goes.nocto s.noac s.some h i bytes Now of.0 of.1 of.2 of.3).fits f offset count is;
        }
    | inr other ↦ absurd (not-beside w.op f offset count other)
  ]

  pub made-so : IsMade terms h i bytes
  made-so =
      let under = under-now in
      let asked = s.asked w.x w.waiting.purpose.lane under.line w.op under.began in
      record {
        xid = w.xid;
        call = Spelt;
        made = subst (λ c. SpellsCallBy c w.xid Spelt bytes) s.cred Now.made;
        lane = w.waiting.purpose.lane;
        x = w.x;
        op = w.op;
        under_way = under;
        asks = cause w.op refl asked;
        reads = reads-keep asked;
      }

pub calls-made : CallsMade
calls-made m terms setup h v s i bytes at = elim (reached-out (machine_of m) (begins-unbegun m) setup h v s.goes.reaches i bytes at) [
  | inl none ↦ inl none
  | inr w ↦ inr (made-so m terms setup h v s i bytes w)
]
