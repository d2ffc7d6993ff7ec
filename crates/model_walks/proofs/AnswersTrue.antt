-- From what the client knows as it answers, to the law of names, of attributes and of listings.
use Rattle.std.proofs.Common.{◌≡◌, ℕ, List, length, Some, refl, sym, subst, ◌∙◌, arith}
use Rattle.nfs_dir_calls.specs.declared.call.DirCall.TheVariants as dirs
use Rattle.nfs_dir_calls.specs.declared.keeping.DirKept.TheVariants as found
use Rattle.nfs_file_calls.specs.declared.call.FileCall.TheVariants as files
use Rattle.world_model.specs.declared.answer.Answer.{Answer}
use Rattle.world_model.specs.declared.answer.Answer.TheVariants.{Done}
use Rattle.world_model.specs.declared.answer.Value.TheVariants as values
use Rattle.world_model.specs.declared.entry.Entry.{Entry}
use Rattle.world_model.specs.declared.entry.Entry.TheVariants as entries
use Rattle.world_model.specs.declared.message.Call.{Call}
use Rattle.world_model.specs.declared.message.Call.TheVariants as calls
use Rattle.world_model.specs.declared.message.Reply.{Reply}
use Rattle.world_model.specs.declared.message.Reply.TheVariants as answers
use Rattle.world_model.specs.declared.op.Op.TheVariants as ops
use Rattle.world_model.specs.Entries.{At}
use Rattle.world_model.specs.Fresh.{Fresh}
use Rattle.world_model.specs.History.{History}
use Rattle.world_model.specs.Lawful.{Lawful}
use Rattle.claims.specs.Modes.{Modes}
use Rattle.world_model.specs.Mounts.{Origin}
use Rattle.world_model.specs.Operations as operations
use Rattle.world_model.specs.Operations.{Ended, EndsAt, LastReply}
use Rattle.claims.specs.Recent.{FoundByName, NamesTrue, AttrAge, ListTrue}
use Rattle.world_model.specs.Rising.{Rising}
use Rattle.claims.specs.Slots as slots
use Rattle.claims.specs.Slots.{Finds, Opens, NamesFile, PutsTo}
use Rattle.model_walks.specs.Machine as machine
use Rattle.model_walks.specs.Machine.{View, GivesFile, EndsOpen, LastCame, Answers}
use Rattle.model_walks.specs.Reaches.{Reaches}
use Rattle.model_walks.proofs.Facts.{Facts, Named, facts}
use Rattle.model_walks.proofs.Fronts.{Begins, entered_at, entered_begins}
use Rattle.model_walks.proofs.LastReplies.{LastIs, last_is, last_reply}
use Rattle.model_walks.proofs.Listings.{ListFacts, lists_true}
use Rattle.model_walks.proofs.Times.{led_walked, near_recent}

-- ---- the client as it answers

pub record AtAnswer (m : Modes) (origin : Origin) (t : History) (y lane : ℕ) (answer : Answer) : Type 0 where
  pub first : List Entry
  pub before : View
  pub after : View
  pub begun : Begins t first
  pub long : length first ≡ y
  pub reached : Reaches m origin t first before
  pub answers : Answers t y lane answer before after

at_answer : (m : Modes) (origin : Origin) (t : History) (c : View) → Reaches m origin t t.entries c → (y lane line : ℕ) (answer : Answer) → At t.entries y (entries.Answered lane line answer) → AtAnswer m origin t y lane answer
at_answer m origin t c r y lane line answer at =
    let o = entered_at m origin t t.entries c r y (entries.Answered lane line answer) at in
    record { first = o.first; before = o.before; after = o.after; begun = entered_begins m origin t y (entries.Answered lane line answer) o; long = o.long; reached = o.reached; answers = o.enters }

facts_then : (m : Modes) (origin : Origin) (t : History) → Lawful t → Fresh t → (y lane : ℕ) (answer : Answer) (a : AtAnswer m origin t y lane answer) → Facts m origin t y a.before
facts_then m origin t lawful fresh y lane answer a = subst (λ z. Facts m origin t z a.before) a.long (facts m origin t lawful fresh a.first a.before a.begun a.reached)

-- ---- names

found_by_name : (m : Modes) (origin : Origin) (t : History) (x y : ℕ) (path : List (List ℕ)) (f : List ℕ) → EndsAt t.entries x y → Named m origin t y (record { op = x; path = path }) f → FoundByName m origin t x y path f
found_by_name m origin t x y path f end k = record {
  earlier = k.earlier;
  name = k.name;
  d = k.d;
  n = k.n;
  is = k.is;
  walked = led_walked m origin t x y k.earlier k.d end k.led;
  moment = record { late = k.late; soon = k.soon };
  named = k.named;
}

asked_file : (f g : List ℕ) → calls.File (files.GetAttr f) ≡ calls.File (files.GetAttr g) → f ≡ g
asked_file f g e = cc

-- the file that an open found is the one that its last reply shows
one_file : (m : Modes) (t : History) (y : ℕ) (f g : List ℕ) (call : Call) (reply : Reply) → EndsOpen f call reply → Finds m t.entries y g
    → ((other : Call) (l : LastReply t.entries y other) → LastIs call reply other l.xid l.bytes) → f ≡ g
one_file m t y f g call reply (machine.by_getattr is) (slots.asked last) same = asked_file f g (sym is ∙ sym (same (calls.File (files.GetAttr g)) last).call_is)
one_file m t y f g call reply (machine.by_giving d name (machine.by_lookup attr dir is answer)) (slots.asked last) same = absurd (cc ((same (calls.File (files.GetAttr g)) last).call_is, is))
one_file m t y f g call reply (machine.by_giving d name (machine.by_create making attr wcc is answer)) (slots.asked last) same = absurd (cc ((same (calls.File (files.GetAttr g)) last).call_is, is))
one_file m t y f g call reply (machine.by_getattr is) (slots.looked_up nocto e other attr dir last spells) same = absurd (cc ((same (calls.Dir (dirs.Lookup e other)) last).call_is, is))
one_file m t y f g call reply (machine.by_giving d name (machine.by_lookup attr dir is answer)) (slots.looked_up nocto e other told shown last spells) same =
    given (sym answer ∙ sym ((same (calls.Dir (dirs.Lookup e other)) last).alone (answers.Dir (found.Lookup g told shown)) spells))
  where
    given : answers.Dir (found.Lookup f attr dir) ≡ answers.Dir (found.Lookup g told shown) → f ≡ g
    given q = cc
one_file m t y f g call reply (machine.by_giving d name (machine.by_create making attr wcc is answer)) (slots.looked_up nocto e other told shown last spells) same = absurd (cc ((same (calls.Dir (dirs.Lookup e other)) last).call_is, is))
one_file m t y f g call reply (machine.by_getattr is) (slots.made nocto e other making told shown last spells) same = absurd (cc ((same (calls.Dir (dirs.Create e other making)) last).call_is, is))
one_file m t y f g call reply (machine.by_giving d name (machine.by_lookup attr dir is answer)) (slots.made nocto e other making told shown last spells) same = absurd (cc ((same (calls.Dir (dirs.Create e other making)) last).call_is, is))
one_file m t y f g call reply (machine.by_giving d name (machine.by_create making attr wcc is answer)) (slots.made nocto e other with_ told shown last spells) same =
    given (sym answer ∙ sym ((same (calls.Dir (dirs.Create e other with_)) last).alone (answers.Dir (found.Create (Some g) told shown)) spells))
  where
    given : answers.Dir (found.Create (Some f) attr wcc) ≡ answers.Dir (found.Create (Some g) told shown) → f ≡ g
    given q = cc

opened : (m : Modes) (origin : Origin) (t : History) → Lawful t → Fresh t → (c : View) → Reaches m origin t t.entries c → (lane slot x y : ℕ) (f : List ℕ) (o : Opens m t.entries lane slot x y f) → FoundByName m origin t x y o.path f
opened m origin t lawful fresh c r lane slot x y f o =
    let a = at_answer m origin t c r y lane o.ended.line (Done o.value) o.ended.answered in
    let k = a.answers.opened x slot o.mode o.path o.value refl o.ended in
    let named = (facts_then m origin t lawful fresh y lane (Done o.value) a).found (record { op = x; path = o.path }) k.f k.found in
    let same = one_file m t y k.f f k.call k.reply k.ends o.finds (λ other l. last_is m origin t lawful a.first a.before a.begun a.reached y a.long k.call k.reply k.last other l) in
    found_by_name m origin t x y o.path f (operations.answered lane (ops.OpenFile slot o.mode o.path) (Done o.value) o.ended) (subst (λ z. Named m origin t y (record { op = x; path = o.path }) z) same named)

written_file : (f g : List ℕ) (call : Call) → NamesFile f call → NamesFile g call → f ≡ g
written_file f g call (slots.writes offset how bytes is) (slots.writes other way others same) = by (sym is ∙ same)
  where
    by : calls.File (files.Write f offset how bytes) ≡ calls.File (files.Write g other way others) → f ≡ g
    by e = cc
written_file f g call (slots.writes offset how bytes is) (slots.commits other count same) = absurd (cc (is, same))
written_file f g call (slots.commits offset count is) (slots.writes other way others same) = absurd (cc (is, same))
written_file f g call (slots.commits offset count is) (slots.commits other more same) = by (sym is ∙ same)
  where
    by : calls.File (files.Commit f offset count) ≡ calls.File (files.Commit g other more) → f ≡ g
    by e = cc

put : (m : Modes) (origin : Origin) (t : History) → Lawful t → Fresh t → (c : View) → Reaches m origin t t.entries c → (x y offset : ℕ) (f bytes : List ℕ) (p : PutsTo t.entries x y f offset bytes) → FoundByName m origin t x y p.path f
put m origin t lawful fresh c r x y offset f bytes p =
    let a = at_answer m origin t c r y p.lane p.ended.line (Done p.value) p.ended.answered in
    let k = a.answers.put x offset p.path bytes p.value refl p.ended in
    let named = (facts_then m origin t lawful fresh y p.lane (Done p.value) a).found (record { op = x; path = p.path }) k.f k.found in
    let last = last_is m origin t lawful a.first a.before a.begun a.reached y a.long k.call k.reply k.last p.call p.asked in
    let same = written_file k.f f k.call k.ends (subst (λ z. NamesFile f z) last.call_is p.names) in
    found_by_name m origin t x y p.path f (operations.answered p.lane (ops.Put p.path offset bytes) (Done p.value) p.ended) (subst (λ z. Named m origin t y (record { op = x; path = p.path }) z) same named)

pub names_true : (m : Modes) (origin : Origin) (t : History) → Lawful t → Fresh t → (c : View) → Reaches m origin t t.entries c → NamesTrue m origin t
names_true m origin t lawful fresh c r = record {
  opened = λ lane slot x y f o. opened m origin t lawful fresh c r lane slot x y f o;
  put = λ x y offset f bytes p. put m origin t lawful fresh c r x y offset f bytes p;
}

-- ---- attributes

pub attrs_true : (m : Modes) (origin : Origin) (t : History) → Lawful t → Fresh t → (c : View) → Reaches m origin t t.entries c → AttrAge m origin t
attrs_true m origin t lawful fresh c r lane x y path attr ended =
    let a = at_answer m origin t c r y lane ended.line (Done (values.Attrs attr)) ended.answered in
    let shown = a.answers.shown x path attr refl ended in
    let k = (facts_then m origin t lawful fresh y lane (Done (values.Attrs attr)) a).shown (record { op = x; path = path }) attr shown in
    let end = operations.answered lane (ops.Stat path) (Done (values.Attrs attr)) ended in
    record { object = k.object; o = k.o; n = k.n; walked = led_walked m origin t x y path k.object end k.led; recent = near_recent m t x y k.n end k.near; is = k.is; had = k.had }

-- ---- listings

pub listings_true : (m : Modes) (origin : Origin) (t : History) → Lawful t → Fresh t → Rising t → (c : View) → Reaches m origin t t.entries c → ListTrue m origin t
listings_true m origin t lawful fresh rising c r lane x y path names ended =
    let a = at_answer m origin t c r y lane ended.line (Done (values.Names names)) ended.answered in
    let k = a.answers.listed x path names refl ended in
    let all : ListFacts m origin t y a.before = subst (λ z. ListFacts m origin t z a.before) a.long (lists_true m origin t lawful fresh rising a.first a.before a.begun a.reached) in
    let l = all (record { op = x; path = path }) k.listing k.is in
    let full = l.full k.ended in
    let end = operations.answered lane (ops.List path) (Done (values.Names names)) ended in
    let came = l.came in
    let soon = full.soon in
    record {
      d = k.listing.dir;
      cookie = k.cookie;
      verf = k.verf;
      dircount = k.dircount;
      maxcount = k.maxcount;
      asked = last_reply m origin t lawful a.first a.before a.begun a.reached y a.long _ k.reply k.last;
      walked = led_walked m origin t x y path k.listing.dir end l.led;
      ordered = k.ordered;
      were = λ name has. let w = l.were name ((k.same name).0 has) in let s = w.soon in (w.n, record { late = w.late; soon = omega (arith, s, came) }, w.there);
      all = λ name dots held. (k.same name).1 (full.all name dots (held full.n (record { late = full.late; soon = omega (arith, soon, came) })));
    }
