-- The file that an operation found stood under its name at a moment of the operation.
use Rattle.core_answers.proofs.Prelude.{◌≡◌, ◌<◌, ◌≤◌, ℕ, suc, List, [], ◌∷◌, ◌++◌, length, Option, Some, refl, sym, subst, arith, Attr, Wcc, Answer, Entry, Executed, Call, Reply, Op, History, Modes, Ended, IsNamed, front_of, last_of, machine_of, Mounted, Setup, View, Numbered, front-last, reached-rows, IsAnswered}
use Rattle.nfs_dir_calls.specs.declared.call.DirCall.TheVariants as dirs
use Rattle.nfs_dir_calls.specs.declared.create.Making.{Making}
use Rattle.nfs_dir_calls.specs.declared.keeping.DirKept.TheVariants as dir_kept
use Rattle.nfs_file_calls.specs.declared.call.FileCall.TheVariants as file_calls
use Rattle.world_model.specs.declared.answer.Answer.TheVariants as answers
use Rattle.world_model.specs.declared.message.Call.TheVariants as calls
use Rattle.world_model.specs.declared.message.Reply.TheVariants as replies
use Rattle.world_model.specs.declared.op.Op.TheVariants as ops
use Rattle.world_model.specs.Mounts.{Origin}
use Rattle.claims.specs.Recent.{FoundByName}
use Rattle.world_model.specs.Server.{Names}
use Rattle.claims.specs.Slots as slots
use Rattle.claims.specs.Slots.{Finds}
use Rattle.world_model.proofs.Doing.{lookup_done, create_done}
use Rattle.name_ops.specs.Looking.{look_up}
use Rattle.core_answers.proofs.bonds.AttrsShown.{fresh-attrs}
use Rattle.core_answers.proofs.bonds.Executions.{answered-ran}
use Rattle.core_answers.proofs.bonds.NamesShown.{none-kept}
use Rattle.core_answers.proofs.bonds.StatsLed.{Both, Kept}
use Rattle.core_answers.specs.paths.Found.{GoesHonestly, OpensFound}
use Rattle.core_answers.proofs.paths.Following.{reached-answered}
use Rattle.core_answers.proofs.paths.Lasts.{last-until, same-last}
use Rattle.core_answers.proofs.paths.OpenFound.{create_of, GivenBy, looked_up, created, LastOf, by_getattr, by_lookup, by_create, FoundAs}
use Rattle.core_answers.proofs.paths.OpenPaths.{OpensRun, OpensOver, open-laws}
use Rattle.core_answers.proofs.paths.Stood.{both-asks, walked-of, lift-all}

-- ---- a name that was asked for

-- it isn't empty
asked-name : (h : List Entry) (from to : ℕ) (d name : List ℕ) (reply : Reply) → IsAnswered h from to (look_up d name) reply → 0 < length name
asked-name h from to d name reply a = a.heard.spells.is.two.rule.some

made-name : (h : List Entry) (from to : ℕ) (d name : List ℕ) (making : Making) (reply : Reply) → IsAnswered h from to (create_of d name making) reply → 0 < length name
made-name h from to d name making reply a = a.heard.spells.is.one.two.rule.some

given-name : (h : List Entry) (x : ℕ) (d name file : List ℕ) → GivenBy h x d name file → 0 < length name
given-name h x d name file (looked_up since attr dir late a) = asked-name h since (length h) d name _ a
given-name h x d name file (created since making attr wcc late a) = made-name h since (length h) d name making _ a

has-name : (path : List (List ℕ)) → 0 < length (last_of path) → IsNamed path
has-name [] some = absurd (omega (arith, some))
has-name (name ∷ path) some = omega arith

-- ---- of an honest server

module _ (m : Mounted) (setup : Setup) (modes : Modes) (origin : Origin) (t : History) (v : View) (g : GoesHonestly m setup modes origin t v) (lane x y : ℕ) (op : Op) (answer : Answer)
    (ended : Ended t.entries lane x op y answer) (before after : List Entry) (is : t.entries ≡ before ++ after) (there : length before ≡ y) where
  abbrev pub all-numbered : Numbered t.entries
  all-numbered = (reached-rows (machine_of m) setup t.entries v g.reached).numbered

  lifted : (from : ℕ) (call : Call) (reply : Reply) → IsAnswered before from (length before) call reply → IsAnswered t.entries from y call reply
  lifted = lift-all modes origin t m.root g.lawful g.fresh all-numbered g.takes g.root lane x y op answer ended before after is there

  -- the directory had the name then
  pub record NamedThen (d name file : List ℕ) : Type 0 where
    pub n : ℕ
    pub late : x ≤ n
    pub soon : n ≤ y
    pub names : Names (t.at n) d name file

  given-stood : (d name file : List ℕ) → GivenBy before x d name file → NamedThen d name file
  given-stood d name file (looked_up since attr dir late a) =
      let reply : Reply = replies.Dir (dir_kept.Lookup file attr dir) in
      let ran = answered-ran t g.lawful all-numbered since y (look_up d name) reply tt (lifted since (look_up d name) reply a) in
      let done = lookup_done (t.at ran.place) (t.at (suc ran.place)) d name file attr dir (g.lawful.entries ran.place (Executed ran.xid (look_up d name) reply) ran.at).1 in
      let from = ran.late in
      let to = ran.before in
      record { n = ran.place; late = omega (arith, late, from); soon = omega (arith, to); names = done.named.names }
  given-stood d name file (created since making attr wcc late a) =
      let reply : Reply = replies.Dir (dir_kept.Create (Some file) attr wcc) in
      let ran = answered-ran t g.lawful all-numbered since y (create_of d name making) reply tt (lifted since (create_of d name making) reply a) in
      let done = create_done (t.at ran.place) (t.at (suc ran.place)) d name making (Some file) attr wcc (g.lawful.entries ran.place (Executed ran.xid (create_of d name making) reply) ran.at).1 in
      let from = ran.late in
      let to = ran.before in
      let handle : file ≡ done.1.object = done.1.handle in
      record {
        n = suc ran.place;
        late = omega (arith, late, from);
        soon = omega (arith, to);
        names = subst (λ (o : List ℕ). Names (t.at (suc ran.place)) d name o) (sym handle) done.1.named.names;
      }

  pub found-of : (path : List (List ℕ)) (file : List ℕ) → FoundAs modes.longest m.root before x path file → FoundByName modes origin t x y path file
  found-of path file f =
      let stood = given-stood f.d (last_of path) file f.given in
      record {
        earlier = front_of path;
        name = last_of path;
        d = f.d;
        n = stood.n;
        is = front-last path (has-name path (given-name before x f.d (last_of path) file f.given));
        walked = walked-of modes origin t m.root g.lawful g.fresh all-numbered g.takes g.root lane x y op answer ended before after is there (front_of path) f.d f.led;
        moment = record { late = stood.late; soon = stood.soon };
        named = stood.names;
      }

-- ---- the file of an open

pub last-of-until : (before after : List Entry) (x y : ℕ) (file : List ℕ) → length before ≡ y → LastOf before x (length before) file → LastOf (before ++ after) x y file
last-of-until before after x y file there (by_getattr reply k) = by_getattr reply (last-until before after x y _ reply there k)
last-of-until before after x y file there (by_lookup d name attr dir k) = by_lookup d name attr dir (last-until before after x y _ _ there k)
last-of-until before after x y file there (by_create d name making attr wcc k) = by_create d name making attr wcc (last-until before after x y _ _ there k)

asked-file : (f g : List ℕ) → ◌≡◌ {A = Call} (calls.File (file_calls.GetAttr f)) (calls.File (file_calls.GetAttr g)) → f ≡ g
asked-file f g e = cc

looked-file : (f g : List ℕ) (a b c d : Option Attr) → ◌≡◌ {A = Reply} (replies.Dir (dir_kept.Lookup f a b)) (replies.Dir (dir_kept.Lookup g c d)) → f ≡ g
looked-file f g a b c d e = cc

made-file : (f g : List ℕ) (a b : Option Attr) (c d : Wcc) → ◌≡◌ {A = Reply} (replies.Dir (dir_kept.Create (Some f) a c)) (replies.Dir (dir_kept.Create (Some g) b d)) → f ≡ g
made-file f g a b c d e = cc

-- the file that an open found is the one that its last reply shows
one-file : (modes : Modes) (h : List Entry) (x y : ℕ) (f g : List ℕ) → LastOf h x y f → Finds modes h y g → f ≡ g
one-file modes h x y f g (by_getattr reply k) (slots.asked last) =
    asked-file f g (sym (same-last h x y (calls.File (file_calls.GetAttr f)) reply tt k (calls.File (file_calls.GetAttr g)) last).call_is)
one-file modes h x y f g (by_getattr reply k) (slots.looked_up nocto d name attr dir last spells) =
    absurd (let no_way : calls.Dir (dirs.Lookup d name) ≡ calls.File (file_calls.GetAttr f) = (same-last h x y (calls.File (file_calls.GetAttr f)) reply tt k (calls.Dir (dirs.Lookup d name)) last).call_is in cc)
one-file modes h x y f g (by_getattr reply k) (slots.made nocto d name making attr wcc last spells) =
    absurd (let no_way : calls.Dir (dirs.Create d name making) ≡ calls.File (file_calls.GetAttr f) = (same-last h x y (calls.File (file_calls.GetAttr f)) reply tt k (calls.Dir (dirs.Create d name making)) last).call_is in cc)
one-file modes h x y f g (by_lookup d name attr dir k) (slots.asked last) =
    absurd (let no_way : calls.File (file_calls.GetAttr g) ≡ look_up d name = (same-last h x y (look_up d name) _ tt k (calls.File (file_calls.GetAttr g)) last).call_is in cc)
one-file modes h x y f g (by_lookup d name attr dir k) (slots.looked_up nocto e other a b last spells) =
    looked-file f g attr dir a b (sym ((same-last h x y (look_up d name) (replies.Dir (dir_kept.Lookup f attr dir)) tt k (calls.Dir (dirs.Lookup e other)) last).only (replies.Dir (dir_kept.Lookup g a b)) spells))
one-file modes h x y f g (by_lookup d name attr dir k) (slots.made nocto e other making a wcc last spells) =
    absurd (let no_way : calls.Dir (dirs.Create e other making) ≡ look_up d name = (same-last h x y (look_up d name) _ tt k (calls.Dir (dirs.Create e other making)) last).call_is in cc)
one-file modes h x y f g (by_create d name making attr wcc k) (slots.asked last) =
    absurd (let no_way : calls.File (file_calls.GetAttr g) ≡ create_of d name making = (same-last h x y (create_of d name making) _ tt k (calls.File (file_calls.GetAttr g)) last).call_is in cc)
one-file modes h x y f g (by_create d name making attr wcc k) (slots.looked_up nocto e other a b last spells) =
    absurd (let no_way : calls.Dir (dirs.Lookup e other) ≡ create_of d name making = (same-last h x y (create_of d name making) _ tt k (calls.Dir (dirs.Lookup e other)) last).call_is in cc)
one-file modes h x y f g (by_create d name making attr wcc k) (slots.made nocto e other with_ a w last spells) =
    made-file f g attr a wcc w (sym ((same-last h x y (create_of d name making) (replies.Dir (dir_kept.Create (Some f) attr wcc)) tt k (calls.Dir (dirs.Create e other with_)) last).only
    (replies.Dir (dir_kept.Create (Some g) a w)) spells))

pub opens-found : OpensFound
opens-found m setup modes origin t v g lane slot x y f o =
    let s = reached-answered m setup Both both-asks (Kept modes.longest) (OpensRun m modes.longest) (OpensOver m modes.longest) (open-laws m modes.longest)
    (λ k w new. (fresh-attrs setup modes.longest k w.shelf.attrs g.lasts new.attrs, none-kept k w.shelf.names new.names)) t.entries v g.reached lane x (ops.OpenFile slot o.mode o.path) y
    (answers.Done o.value) o.ended in
    let k = s.story slot o.mode o.path refl in
    let last : LastOf t.entries x y k.0 = subst (λ (h : List Entry). LastOf h x y k.0) (sym s.is) (last-of-until s.before s.after x y k.0 s.there k.1.last) in
    subst (λ (file : List ℕ). FoundByName modes origin t x y o.path file) (one-file modes t.entries x y k.0 f last o.finds)
    (found-of m setup modes origin t v g lane x y (ops.OpenFile slot o.mode o.path) (answers.Done o.value) o.ended s.before s.after s.is s.there o.path k.0 k.1.found)
