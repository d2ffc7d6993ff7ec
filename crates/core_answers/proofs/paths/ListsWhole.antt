-- A list shows the names of its directory.
use Rattle.core_answers.proofs.Prelude.{◌≡◌, ℕ, true, List, ◌++◌, length, Contains, refl, sym, subst, Entry, names_of, list_call, page_reply, History, Modes, Ended, machine_of, Mounted, Setup, View, Numbered, reached-rows}
use Rattle.std.specs.Cmp.Lexicographic.{slice_cmp}
use Rattle.std.specs.List.Sorted.{IsStrictlySortedBy}
use Rattle.std.specs.Ordering.{nat_cmp}
use Rattle.world_model.specs.declared.answer.Answer.TheVariants as answers
use Rattle.world_model.specs.declared.answer.Value.TheVariants as values
use Rattle.world_model.specs.declared.op.Op.TheVariants as ops
use Rattle.world_model.specs.Mounts.{Origin}
use Rattle.claims.specs.Recent.{ListsNames}
use Rattle.world_model.specs.Rising.{Rising}
use Rattle.core_answers.proofs.bonds.AttrsShown.{fresh-attrs}
use Rattle.core_answers.proofs.bonds.NamesShown.{none-kept}
use Rattle.core_answers.proofs.bonds.StatsLed.{Both, Kept}
use Rattle.core_answers.specs.paths.Found.{GoesHonestly}
use Rattle.core_answers.specs.paths.Whole.{ListsWhole}
use Rattle.core_answers.proofs.paths.Following.{reached-answered}
use Rattle.core_answers.proofs.paths.Lasts.{IsLast, last-until}
use Rattle.core_answers.proofs.paths.ListPages.{IsListed, ListsRun, ListsOver, list-laws, pages-grow}
use Rattle.core_answers.proofs.paths.PagesRead.{Pages, names-both, pages-known, listed-there, full}
use Rattle.core_answers.proofs.paths.Stood.{both-asks, walked-of, lift-all, ends-within}

module _ (m : Mounted) (setup : Setup) (modes : Modes) (origin : Origin) (t : History) (v : View) (g : GoesHonestly m setup modes origin t v) (rising : Rising t) (lane x y : ℕ)
    (path names : List (List ℕ)) (ended : Ended t.entries lane x (ops.List path) y (answers.Done (values.Names names))) (before after : List Entry) (is : t.entries ≡ before ++ after)
    (there : length before ≡ y) where
  abbrev numbered : Numbered t.entries
  numbered = (reached-rows (machine_of m) setup t.entries v g.reached).numbered

  shows : IsListed modes.longest m.root before x path (values.Names names) → ListsNames modes origin t x y path names
  shows k =
      let same : k.names ≡ names = same-names k.names k.gives in
      let whole : IsLast t.entries x y (list_call k.d k.cookie k.verf) (page_reply k.attr k.after k.page true) =
      subst (λ (h : List Entry). IsLast h x y (list_call k.d k.cookie k.verf) (page_reply k.attr k.after k.page true)) (sym is)
      (last-until before after x y (list_call k.d k.cookie k.verf) (page_reply k.attr k.after k.page true) there k.last) in
      let pages : Pages t.entries x k.d k.n k.rows k.cookie k.verf =
      subst (λ (h : List Entry). Pages h x k.d k.n k.rows k.cookie k.verf) (sym is) (pages-grow before after x k.d k.n k.rows k.cookie k.verf k.pages) in
      let known = pages-known t g.lawful rising numbered x k.d k.n k.rows k.cookie k.verf pages in
      let within = ends-within modes origin t m.root g.lawful g.fresh numbered g.takes g.root lane x y (ops.List path) (answers.Done (values.Names names)) ended before after is there in
      let answered = lift-all modes origin t m.root g.lawful g.fresh numbered g.takes g.root lane x y (ops.List path) (answers.Done (values.Names names)) ended before after is there k.since
      (list_call k.d k.cookie k.verf) (page_reply k.attr k.after k.page true) k.answered in
      let at_once = full t g.lawful rising numbered x k.d k.n k.cookie (names_of k.rows) known k.since y k.later within k.verf k.after k.attr k.page true answered refl in
      let held = listed-there t g.lawful rising numbered x k.d k.n k.cookie (names_of k.rows) known k.since y k.later within k.verf k.after k.attr k.page true answered in
      record {
        d = k.d;
        cookie = k.cookie;
        verf = k.verf;
        dircount = 8192;
        maxcount = 32768;
        asked = whole.ends.last;
        walked = walked-of modes origin t m.root g.lawful g.fresh numbered g.takes g.root lane x y (ops.List path) (answers.Done (values.Names names)) ended before after is there path k.d k.led;
        ordered = subst (IsStrictlySortedBy (slice_cmp nat_cmp)) same k.ordered;
        were = λ name has.
            let w = held name (subst (λ (ns : List (List ℕ)). Contains ns name) (names-both k.rows k.page) ((k.same name).0 (subst (λ (ns : List (List ℕ)). Contains ns name) (sym same) has))) in
            (w.n, record { late = w.late; soon = w.soon }, w.there);
        all = λ name dots held_all.
            subst (λ (ns : List (List ℕ)). Contains ns name) same
            ((k.same name).1 (subst (λ (ns : List (List ℕ)). Contains ns name) (sym (names-both k.rows k.page))
            (at_once.all name dots (held_all at_once.n (record { late = at_once.late; soon = at_once.soon })))));
      }
    where
      same-names : (ns : List (List ℕ)) → values.Names names ≡ values.Names ns → ns ≡ names
      same-names ns e = cc

pub lists-whole : ListsWhole
lists-whole m setup modes origin t v g rising lane x y path names ended =
    let s = reached-answered m setup Both both-asks (Kept modes.longest) (ListsRun m modes.longest) (ListsOver m modes.longest) (list-laws m modes.longest)
    (λ k w new. (fresh-attrs setup modes.longest k w.shelf.attrs g.lasts new.attrs, none-kept k w.shelf.names new.names)) t.entries v g.reached lane x (ops.List path) y
    (answers.Done (values.Names names)) ended in
    shows m setup modes origin t v g rising lane x y path names ended s.before s.after s.is s.there (s.story path refl (values.Names names) refl)
