-- The rows of NFS3ERR_NOENT, of an open that may make its file and of a remove: the record refused a call for which the operation asked, and from which it
-- doesn't go on.
use Rattle.core_session.proofs.Prelude.{◌≡◌, ◌≢◌, ℕ, suc, List, [], ◌∷◌, ◌++◌, length, take, drop, refl, sym, ap, subst, ◌∙◌, arith, append_assoc, Entry, Call, Op, Asks, IsWriter, look_up, create_unchecked, GoesOn, Rooted, Ended, PlaceOf, IsLastRemove, RefusedBy, Terms, jukebox, FirstSent-grow, Rooted-wide, Mounted, IsNamed, front_of, last_of, Setup, View, front-last, leads-on, GoesSo}
use Rattle.claims.specs.GoesOn.{IsNotOnTheWay, MadeWithin}
use Rattle.core_answers.proofs.asks.WalkAsks.{Looks, split-at}
use Rattle.std.proofs.lemmas.List.{length-append}
use Rattle.nfs_types.specs.declared.mode.Mode.TheVariants as modes
use Rattle.world_model.specs.declared.answer.Answer.TheVariants as answers
use Rattle.world_model.specs.declared.answer.Fault.TheVariants as faults
use Rattle.world_model.specs.declared.op.Op.TheVariants as ops
use Rattle.claims.specs.Asks as acts
use Rattle.claims.specs.GoesOn as on
use Rattle.world_model.specs.Leads.{Leads}
use Rattle.core_answers.specs.refusals.Asked.{AskedOr, asked, rooms, hides, removes as takes_away}
use Rattle.core_answers.proofs.refusals.Asking.{row-of}
use Rattle.core_session.proofs.outcomes.Missing.{MayMissAt, opens, removes, Missed, on_way, own, made, other, MissedRefusal, missed-refused}
use Rattle.core_session.proofs.outcomes.RemoveRefusals.{asks-for, no-close}

-- ---- names and paths

same-look : (a b c d : List ℕ) → look_up a b ≡ look_up c d → (a ≡ c) × (b ≡ d)
same-look a b c d e = (cc, cc)

one-name : (a b : List ℕ) → a ∷ [] ≡ b ∷ [] → a ≡ b
one-name a b e = cc

same-rest : (a b : List ℕ) (ys zs : List (List ℕ)) → a ∷ ys ≡ b ∷ zs → ys ≡ zs
same-rest a b ys zs e = cc

-- two paths that are one have one last name
same-last : (a b : List (List ℕ)) (x y : List ℕ) → a ++ x ∷ [] ≡ b ++ y ∷ [] → x ≡ y
same-last [] [] x y e = one-name x y e
same-last [] (b ∷ zs) x y e =
    let more = length-append zs (y ∷ []) in
    let long : length (x ∷ []) ≡ length (b ∷ (zs ++ y ∷ [])) = ap (λ (p : List (List ℕ)). length p) e in
    absurd (omega (arith, more, long))
same-last (a ∷ ys) [] x y e =
    let more = length-append ys (x ∷ []) in
    let long : length (a ∷ (ys ++ x ∷ [])) ≡ length (y ∷ []) = ap (λ (p : List (List ℕ)). length p) e in
    absurd (omega (arith, more, long))
same-last (a ∷ ys) (b ∷ zs) x y e = same-last ys zs x y (same-rest a b (ys ++ x ∷ []) (zs ++ y ∷ []) e)

not-empty : (front : List (List ℕ)) (last : List ℕ) → front ++ last ∷ [] ≢ []
not-empty front last is =
    let more = length-append front (last ∷ []) in
    let none : length (front ++ last ∷ []) ≡ 0 = ap (λ (p : List (List ℕ)). length p) is in
    absurd (omega (arith, more, none))

open-paths : (s t : ℕ) (a b : List (List ℕ)) → ops.OpenFile s modes.C a ≡ ops.OpenFile t modes.C b → a ≡ b
open-paths s t a b e = cc

remove-paths : (a b : List (List ℕ)) → ops.Remove a ≡ ops.Remove b → a ≡ b
remove-paths a b e = cc

module _ (m : Mounted) (terms : Terms) (setup : Setup) (before after : List Entry) (x n : ℕ) (op : Op) (path : List (List ℕ)) (call : Call) (named : IsNamed path)
    (there : length before ≡ n) (rooted : Rooted terms.origin (before ++ after) n m.root) where
  -- the LOOKUP of a name on the way is no other
  away : (d name : List ℕ) → Looks m.root before (front_of path) call → call ≡ look_up d name → IsNotOnTheWay terms.origin (before ++ after) n path d name → ⊥
  away d name k is alone =
      alone (take k.at (front_of path) ++ k.name ∷ []) (drop (suc k.at) (front_of path) ++ last_of path ∷ []) whole (not-empty (drop (suc k.at) (front_of path)) (last_of path))
      (record { earlier = take k.at (front_of path); is = ap (λ (a : List ℕ). take k.at (front_of path) ++ a ∷ []) (sym same.1); leads = leads })
    where
      same : (d ≡ k.d) × (name ≡ k.name)
      same = same-look d name k.d k.name (sym is ∙ k.is)

      leads : Leads terms.origin (before ++ after) n (take k.at (front_of path)) d
      leads = subst (λ (a : List ℕ). Leads terms.origin (before ++ after) n (take k.at (front_of path)) a) (sym same.0)
          (leads-on m.root terms before after x n op there rooted (take k.at (front_of path)) k.d k.leads)

      parts : front_of path ≡ (take k.at (front_of path) ++ k.name ∷ []) ++ drop (suc k.at) (front_of path)
      parts = split-at (front_of path) k.at k.name k.there ∙ sym (append_assoc (take k.at (front_of path)) (k.name ∷ []) (drop (suc k.at) (front_of path)))

      whole : path ≡ (take k.at (front_of path) ++ k.name ∷ []) ++ (drop (suc k.at) (front_of path) ++ last_of path ∷ [])
      whole = front-last path named
          ∙ ap (λ (f : List (List ℕ)). f ++ last_of path ∷ []) parts
          ∙ append_assoc (take k.at (front_of path) ++ k.name ∷ []) (drop (suc k.at) (front_of path)) (last_of path ∷ [])

  made-on : (d name : List ℕ) → MadeWithin before x (length before) (create_unchecked d name) → MadeWithin (before ++ after) x n (create_unchecked d name)
  made-on d name w =
      let low = w.before in
      record {
        at = w.at;
        xid = w.xid;
        bytes = w.bytes;
        sent = FirstSent-grow before after w.at w.xid w.bytes w.sent;
        spells = w.spells;
        after = w.after;
        before = omega (arith, low, there);
      }

  -- an open goes on only with the LOOKUP of its last name, before it made the file
  open-ends : (d name : List ℕ) (slot : ℕ) → op ≡ ops.OpenFile slot modes.C path → Missed m setup before x op path call → PlaceOf terms.origin (before ++ after) n path d name
      → IsNotOnTheWay terms.origin (before ++ after) n path d name → call ≡ look_up d name → (MadeWithin (before ++ after) x n (create_unchecked d name) → ⊥) → ⊥
  open-ends d name slot is (on_way k) place alone c none = away d name k c alone
  open-ends d name slot is (own no_open e to) place alone c none = absurd (let no_way : ops.OpenFile slot modes.C path ≡ ops.Remove path = sym is ∙ no_open in cc)
  open-ends d name slot is (made s its e to w) place alone c none =
      let same = same-look d name e (last_of path) (sym c ∙ to) in
      none (subst (λ (a : List ℕ). MadeWithin (before ++ after) x n (create_unchecked a name)) (sym same.0)
      (subst (λ (b : List ℕ). MadeWithin (before ++ after) x n (create_unchecked e b)) (sym same.1) (made-on e (last_of path) w)))
  open-ends d name slot is (other never) place alone c none = never d name c

  -- a remove only with that of a name which isn't its own
  remove-ends : (d last name : List ℕ) → op ≡ ops.Remove path → Missed m setup before x op path call → PlaceOf terms.origin (before ++ after) n path d last → name ≢ last
      → IsNotOnTheWay terms.origin (before ++ after) n path d name → call ≡ look_up d name → ⊥
  remove-ends d last name is (on_way k) place apart alone c = away d name k c alone
  remove-ends d last name is (own mine e to) place apart alone c =
      let same = same-look d name e (last_of path) (sym c ∙ to) in
      apart (same.1 ∙ same-last (front_of path) place.earlier (last_of path) last (sym (front-last path named) ∙ place.is))
  remove-ends d last name is (made s no_remove e to w) place apart alone c = absurd (let no_way : ops.Remove path ≡ ops.OpenFile s modes.C path = sym is ∙ no_remove in cc)
  remove-ends d last name is (other never) place apart alone c = never d name c

  two-ends : (status : ℕ) → status ≢ jukebox → MayMissAt op path → Missed m setup before x op path call → GoesOn terms (before ++ after) x n op call status → ⊥
  two-ends status no_jukebox (opens slot is) why (on.makes s p d name to place alone c two none) =
      let same : p ≡ path = open-paths s slot p path (sym to ∙ is) in
      open-ends d name slot is why (subst (λ (q : List (List ℕ)). PlaceOf terms.origin (before ++ after) n q d name) same place)
      (subst (λ (q : List (List ℕ)). IsNotOnTheWay terms.origin (before ++ after) n q d name) same alone) c none
  two-ends status no_jukebox (opens slot is) why (on.hides p d last name f attr dir to place hidden apart alone c two gave) =
      absurd (let no_way : ops.OpenFile slot modes.C path ≡ ops.Remove p = sym is ∙ to in cc)
  two-ends status no_jukebox (removes is) why (on.makes s p d name to place alone c two none) =
      absurd (let no_way : ops.Remove path ≡ ops.OpenFile s modes.C p = sym is ∙ to in cc)
  two-ends status no_jukebox (removes is) why (on.hides p d last name f attr dir to place hidden apart alone c two gave) =
      let same : p ≡ path = remove-paths p path (sym to ∙ is) in
      remove-ends d last name is why (subst (λ (q : List (List ℕ)). PlaceOf terms.origin (before ++ after) n q d last) same place) apart
      (subst (λ (q : List (List ℕ)). IsNotOnTheWay terms.origin (before ++ after) n q d name) same alone) c
  two-ends status no_jukebox may why (on.tries_again to few none) = no_jukebox to

-- ---- it asked for the call

module _ (m : Mounted) (terms : Terms) (setup : Setup) (h : List Entry) (v : View) (g : GoesSo m terms setup h v) (lane x y : ℕ) where
  no-writer : (slot : ℕ) (path : List (List ℕ)) → IsWriter (ops.OpenFile slot modes.C path) → ⊥
  no-writer slot path (acts.write s offset bytes is) = absurd (cc)
  no-writer slot path (acts.fill s offset count byte is) = absurd (cc)
  no-writer slot path (acts.put p offset bytes is) = absurd (cc)

  plainly : (slot : ℕ) (path : List (List ℕ)) (n : ℕ) (call : Call) → AskedOr terms h x n (ops.OpenFile slot modes.C path) call → Asks terms h x n (ops.OpenFile slot modes.C path) call
  plainly slot path n call (asked asks) = asks
  plainly slot path n call (rooms writer) = absurd (no-writer slot path writer)
  plainly slot path n call (hides p is hiding) = absurd (cc)
  plainly slot path n call (takes_away s is removal) = absurd (cc)

  no-last : (slot : ℕ) (path : List (List ℕ)) (call : Call) → IsLastRemove (ops.OpenFile slot modes.C path) call → ⊥
  no-last slot path call l = let is = l.close in absurd (cc)

  -- how the row comes from what was known
  two-row : (op : Op) (path : List (List ℕ)) → MayMissAt op path → IsNamed path → Ended h lane x op y (answers.Refused (faults.Nfs 2))
      → ((call : Call) → IsLastRemove op call → ⊥) → ((k : MissedRefusal m setup h x y op path (faults.Nfs 2)) → Asks terms h x k.refused.heard.sent_at op k.call)
      → RefusedBy terms h x y op (faults.Nfs 2)
  two-row op path may named ended none asks = record {
    call = k.call;
    refused = k.refused;
    asks = asks k;
    last = none k.call;
    ends = λ n is goes. two-ends m terms setup k.before k.after x k.refused.heard.got_at op path k.call named k.there rooted n (no-jukebox n is) may k.why
        (subst (λ (e : List Entry). GoesOn terms e x k.refused.heard.got_at op k.call n) k.is goes);
  }
    where
      k : MissedRefusal m setup h x y op path (faults.Nfs 2)
      k = missed-refused m setup terms.modes g.goes.nocto h v g.goes.reaches lane x op y path may named ended

      rooted : Rooted terms.origin (k.before ++ k.after) k.refused.heard.got_at m.root
      rooted =
          let since = k.refused.heard.after in
          let later = k.refused.heard.later in
          subst (λ (e : List Entry). Rooted terms.origin e k.refused.heard.got_at m.root) k.is
          (Rooted-wide terms.origin h x k.refused.heard.got_at m.root (omega (arith, since, later)) (g.known x lane ended.line op ended.began))

      same-status : (n : ℕ) → faults.Nfs 2 ≡ faults.Nfs n → n ≡ 2
      same-status n e = cc

      no-jukebox : (n : ℕ) → faults.Nfs 2 ≡ faults.Nfs n → n ≢ jukebox
      no-jukebox n is to = let two = same-status n is in absurd (omega (arith, two, to))

  pub open-missed : (slot : ℕ) (path : List (List ℕ)) → IsNamed path → Ended h lane x (ops.OpenFile slot modes.C path) y (answers.Refused (faults.Nfs 2))
      → RefusedBy terms h x y (ops.OpenFile slot modes.C path) (faults.Nfs 2)
  open-missed slot path named ended =
      two-row (ops.OpenFile slot modes.C path) path (opens slot refl) named ended (no-last slot path)
      (λ k. plainly slot path k.refused.heard.sent_at k.call
      (row-of m terms setup g.goes.nocto g.noac g.some h g.known k.refused.heard.sent_at x k.call (ops.OpenFile slot modes.C path) named k.sent))

  pub remove-missed : (path : List (List ℕ)) → IsNamed path → Ended h lane x (ops.Remove path) y (answers.Refused (faults.Nfs 2)) → RefusedBy terms h x y (ops.Remove path) (faults.Nfs 2)
  remove-missed path named ended =
      two-row (ops.Remove path) path (removes refl) named ended (no-close path)
      (λ k. asks-for m terms setup g.goes.nocto h g.known k.refused.heard.sent_at x k.call path k.sent named)
