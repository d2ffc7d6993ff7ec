-- LOOKUPs of hidden names: one for each remove, and for each such name that was found.
use Rattle.core_counts.proofs.Prelude.{◌≡◌, ◌+◌, not, ℕ, zero, suc, nat_eq, Bool, true, false, List, [], ◌∷◌, ◌++◌, length, Contains, Some, None, slice_get, refl, sym, ap, subst, ◌∙◌, arith, if◌then◌else◌, eq-eqb, All-weaker, Entry, Began, Answered, Dialed, Sent, Executed, Foreign, Flushed, Reboot, Delivered, Failed, Clock, Call, Op, Carries, At, info_call, Terms, Mounted, IsAsked, machine_of, Setup, View, Notes, IsNfs, GoesFrom}
use Rattle.std.proofs.Common.{fold}
use Rattle.std.proofs.lemmas.List.Elements.{Contains-append_left, Contains-append_right}
use Rattle.claims.specs.CallCounts.{FewHidden, RemovesAt, LooksForHidden, MetHidden, IsInScript}
use Rattle.nfs_dir_calls.specs.declared.call.DirCall.TheVariants as dirs
use Rattle.world_model.specs.declared.message.Call.TheVariants as calls
use Rattle.world_model.specs.declared.op.Op.TheVariants as ops
use Rattle.claims.specs.Asks as a
use Rattle.world_model.specs.Follows.{Follows, begun}
use Rattle.claims.specs.Paths.{paths_of}
use Rattle.core_counts.specs.counts.Hidden.{FewHiddenMade}
use Rattle.core_counts.proofs.counts.engine.Sum.{AsksOne, Summed, summed}
use Rattle.core_counts.proofs.counts.hidden.Laws.{IsOther, IsRemove, once, RemoveLeft, remove-laws}
use Rattle.core_counts.proofs.counts.hidden.Script.{contains-head, in_script, script-has, script-in}

-- ---- each operation is one of the script

abbrev IsBegun : List Entry → ℕ → ℕ → Op → Type 0
IsBegun es lane line op = (at : ℕ) × At es at (Began lane line op)

later-begun : (e : Entry) (es : List Entry) (lane line : ℕ) (op : Op) → IsBegun es lane line op → IsBegun (e ∷ es) lane line op
later-begun e es lane line op k = (suc k.0, k.1)

-- what stands in the list of what a lane began began there
begun-back : (es : List Entry) (lane at its line : ℕ) (op : Op) → At (begun lane es) at (Began its line op) → IsBegun es its line op
begun-back [] lane at its line op e = absurd (let no_way : None ≡ Some (Began its line op) = e in cc)
begun-back (Began l k o ∷ es) lane at its line op e = by (nat_eq l lane) at e (λ j f. begun-back es lane j its line op f)
  where
    by : (b : Bool) (j : ℕ) → At (if b then Began l k o ∷ begun lane es else begun lane es) j (Began its line op) → ((i : ℕ) → At (begun lane es) i (Began its line op) → IsBegun es its line op)
        → IsBegun (Began l k o ∷ es) its line op
    by true zero here rest = (0, here)
    by true (suc j) there rest = later-begun (Began l k o) es its line op (rest j there)
    by false j there rest = later-begun (Began l k o) es its line op (rest j there)
begun-back (Answered l k answer ∷ es) lane at its line op e = later-begun (Answered l k answer) es its line op (begun-back es lane at its line op e)
begun-back (Dialed port ∷ es) lane at its line op e = later-begun (Dialed port) es its line op (begun-back es lane at its line op e)
begun-back (Sent bytes ∷ es) lane at its line op e = later-begun (Sent bytes) es its line op (begun-back es lane at its line op e)
begun-back (Executed xid call reply ∷ es) lane at its line op e = later-begun (Executed xid call reply) es its line op (begun-back es lane at its line op e)
begun-back (Foreign call reply ∷ es) lane at its line op e = later-begun (Foreign call reply) es its line op (begun-back es lane at its line op e)
begun-back (Flushed file from len ∷ es) lane at its line op e = later-begun (Flushed file from len) es its line op (begun-back es lane at its line op e)
begun-back (Reboot verf ∷ es) lane at its line op e = later-begun (Reboot verf) es its line op (begun-back es lane at its line op e)
begun-back (Delivered bytes ∷ es) lane at its line op e = later-begun (Delivered bytes) es its line op (begun-back es lane at its line op e)
begun-back (Failed ∷ es) lane at its line op e = later-begun Failed es its line op (begun-back es lane at its line op e)
begun-back (Clock ms ∷ es) lane at its line op e = later-begun (Clock ms) es its line op (begun-back es lane at its line op e)

-- an operation that began stands among what its lane began
begun-in : (h : List Entry) (x lane line : ℕ) (op : Op) → At h x (Began lane line op) → (j : ℕ) × At (begun lane h) j (Began lane line op)
begun-in [] x lane line op e = absurd (let no_way : None ≡ Some (Began lane line op) = e in cc)
begun-in (Began l k o ∷ es) zero lane line op e =
    let lane_is : l ≡ lane = cc in
    let same : nat_eq l lane ≡ true = eq-eqb l lane lane_is in
    (0, ap (λ (b : Bool). slice_get (if b then Began l k o ∷ begun lane es else begun lane es) 0) same ∙ e)
begun-in (Began l k o ∷ es) (suc x) lane line op e = by (nat_eq l lane) (begun-in es x lane line op e)
  where
    by : (b : Bool) → (j : ℕ) × At (begun lane es) j (Began lane line op) → (j : ℕ) × At (if b then Began l k o ∷ begun lane es else begun lane es) j (Began lane line op)
    by true f = (suc f.0, f.1)
    by false f = f
begun-in (Answered l k answer ∷ es) zero lane line op e = absurd (cc)
begun-in (Answered l k answer ∷ es) (suc x) lane line op e = begun-in es x lane line op e
begun-in (Dialed port ∷ es) zero lane line op e = absurd (cc)
begun-in (Dialed port ∷ es) (suc x) lane line op e = begun-in es x lane line op e
begun-in (Sent bytes ∷ es) zero lane line op e = absurd (cc)
begun-in (Sent bytes ∷ es) (suc x) lane line op e = begun-in es x lane line op e
begun-in (Executed xid call reply ∷ es) zero lane line op e = absurd (cc)
begun-in (Executed xid call reply ∷ es) (suc x) lane line op e = begun-in es x lane line op e
begun-in (Foreign call reply ∷ es) zero lane line op e = absurd (cc)
begun-in (Foreign call reply ∷ es) (suc x) lane line op e = begun-in es x lane line op e
begun-in (Flushed file from len ∷ es) zero lane line op e = absurd (cc)
begun-in (Flushed file from len ∷ es) (suc x) lane line op e = begun-in es x lane line op e
begun-in (Reboot verf ∷ es) zero lane line op e = absurd (cc)
begun-in (Reboot verf ∷ es) (suc x) lane line op e = begun-in es x lane line op e
begun-in (Delivered bytes ∷ es) zero lane line op e = absurd (cc)
begun-in (Delivered bytes ∷ es) (suc x) lane line op e = begun-in es x lane line op e
begun-in (Failed ∷ es) zero lane line op e = absurd (cc)
begun-in (Failed ∷ es) (suc x) lane line op e = begun-in es x lane line op e
begun-in (Clock ms ∷ es) zero lane line op e = absurd (cc)
begun-in (Clock ms ∷ es) (suc x) lane line op e = begun-in es x lane line op e

at-front : (front rest : List Entry) (at : ℕ) (e : Entry) → At front at e → At (front ++ rest) at e
at-front [] rest at e there = absurd (let no_way : None ≡ Some e = there in cc)
at-front (o ∷ os) rest zero e there = there
at-front (o ∷ os) rest (suc at) e there = at-front os rest at e there

-- ---- who asks for such a call

module _ (m : Mounted) (terms : Terms) (h script : List Entry) (follows : Follows script h) where
  of-script : (x lane line : ℕ) (op : Op) → At h x (Began lane line op) → IsBegun script lane line op
  of-script x lane line op began =
      let k = begun-in h x lane line op began in
      let front = follows.begins lane in
      begun-back script lane k.0 lane line op (subst (λ (es : List Entry). At es k.0 (Began lane line op)) (sym front.is) (at-front (begun lane h) front.rest k.0 (Began lane line op) k.1))

  named : (x : ℕ) (op : Op) → a.HasBegan h (x, op) → (path : List (List ℕ)) → Contains (paths_of op) path → (name : List ℕ) → Contains path name → IsInScript script name
  named x op began path of name has =
      let k = of-script x began.0 began.1 op began.2 in
      record { at = k.0; lane = began.0; line = began.1; op = op; path = path; began = k.1; of = of; has = has }

  module _ (x n : ℕ) (op : Op) (call : Call) (began : a.HasBegan h (x, op)) (may : IsAsked op) (it : IsOther m script call) where
    same-name : (d e b c : List ℕ) → a.look_up d b ≡ a.look_up e c → b ≡ c
    same-name d e b c same = cc

    not-named : (path : List (List ℕ)) (d name : List ℕ) → Contains (paths_of op) path → Contains path name → call ≡ a.look_up d name → ⊥
    not-named path d name of has is = it.own (subst (IsInScript script) (same-name d it.d name it.name (sym is ∙ it.is)) (named x op began path of name has))

    other : (c : Call) → call ≡ c → ((d name : List ℕ) → c ≡ a.look_up d name → ⊥) → ⊥
    other c is none = none it.d it.name (sym is ∙ it.is)

    removes : (path : List (List ℕ)) → op ≡ ops.Remove path → IsRemove m script op
    removes path is = record {
      path = path;
      is = is;
      named = subst IsAsked is may;
      of_script = λ name has. named x op began path (subst (λ (o : Op). Contains (paths_of o) path) (sym is) (contains-head path [])) name has;
    }

    found-of : (o : Op) (path : List (List ℕ)) → Contains (a.found_by o) path → Contains (paths_of o) path
    found-of (ops.MakeDir p) path c = absurd (let low = c.1 in omega (arith, low))
    found-of (ops.RemoveDir p) path c = absurd (let low = c.1 in omega (arith, low))
    found-of (ops.SymLink p target) path c = absurd (let low = c.1 in omega (arith, low))
    found-of (ops.Rename source target) path c = absurd (let low = c.1 in omega (arith, low))
    found-of (ops.Link source target) path c = Contains-append_left (source ∷ []) (target ∷ []) path c
    found-of (ops.OpenFile slot mode p) path c = c
    found-of (ops.Read slot offset count) path c = c
    found-of (ops.Write slot offset bytes) path c = c
    found-of (ops.Fill slot offset count byte) path c = c
    found-of (ops.Sync slot) path c = c
    found-of (ops.Close slot) path c = c
    found-of (ops.Truncate slot size) path c = c
    found-of (ops.Put p offset bytes) path c = c
    found-of (ops.Stat p) path c = c
    found-of (ops.Access p bits) path c = c
    found-of (ops.Remove p) path c = c
    found-of (ops.ReadLink p) path c = c
    found-of (ops.List p) path c = c

    acts-not : a.Acts terms h x n op call → ⊥
    acts-not (a.cuts slot size f is of c) = other _ c (λ d_is name_is e. cc)
    acts-not (a.accesses path bits f is l c) = other _ c (λ d_is name_is e. cc)
    acts-not (a.reads_link path f is l c) = other _ c (λ d_is name_is e. cc)
    acts-not (a.makes_dir path d_ name is p c) = other _ c (λ d_is name_is e. cc)
    acts-not (a.makes_link path target d_ name is p c) = other _ c (λ d_is name_is e. cc)
    acts-not (a.removes_dir path d_ name is p c) = other _ c (λ d_is name_is e. cc)
    acts-not (a.renames source target d_ name to_d to_name is p q c) = other _ c (λ d_is name_is e. cc)
    acts-not (a.links source target f d_ name is l p c) = other _ c (λ d_is name_is e. cc)
    acts-not (a.removes path d_ name is p c) = other _ c (λ d_is name_is e. cc)
    acts-not (a.hides path d_ last name is p k m_ c) = other _ c (λ d_is name_is e. cc)

    asks-remove : a.Asks terms h x n op call → IsRemove m script op
    asks-remove (a.walks path earlier later name next d of is l c) =
        absurd (not-named path d name of (subst (λ (p : List (List ℕ)). Contains p name) (sym is) (Contains-append_right earlier (name ∷ next ∷ later) name (contains-head name (next ∷ later)))) c)
    asks-remove (a.finds path d name of p c) =
        absurd (not-named path d name (found-of op path of) (subst (λ (q : List (List ℕ)). Contains q name) (sym p.is) (Contains-append_right p.earlier (name ∷ []) name (contains-head name []))) c)
    asks-remove (a.looks_for_hidden path d last name is p k c) = removes path is
    asks-remove (a.creates slot path d_ name is p c) = absurd (other _ c (λ d_is name_is e. cc))
    asks-remove (a.creates_after slot path d_ name reply is p told none c) = absurd (other _ c (λ d_is name_is e. cc))
    asks-remove (a.opens path f of l c) = absurd (other _ c (λ d_is name_is e. cc))
    asks-remove (a.opens_made slot mode path d_ name f making attr wcc is p made told c) = absurd (other _ c (λ d_is name_is e. cc))
    asks-remove (a.shows path f is l c) = absurd (other _ c (λ d_is name_is e. cc))
    asks-remove (a.reads slot offset count at size f is of inside c) = absurd (other _ c (λ d_is name_is e. cc))
    asks-remove (a.asks_anew slot offset count f is anew of c) = absurd (other _ c (λ d_is name_is e. cc))
    asks-remove (a.writes f bytes at how s c) = absurd (other _ c (λ d_is name_is e. cc))
    asks-remove (a.commits f s c) = absurd (other _ c (λ d_is name_is e. cc))
    asks-remove (a.writes_for_room f bytes at how w p r c) = absurd (other _ c (λ d_is name_is e. cc))
    asks-remove (a.commits_for_room f w p r c) = absurd (other _ c (λ d_is name_is e. cc))
    asks-remove (a.removes_hidden r) = absurd (other _ r.removes (λ d_is name_is e. cc))
    asks-remove (a.lists path d_ rows from with_ is l c e) = absurd (other _ e (λ d_is name_is e. cc))
    asks-remove (a.acts k) = absurd (acts-not k)

-- ---- whether a call is such a one

module _ (m : Mounted) (script : List Entry) where
  abbrev test : Call → Bool
  test (calls.Dir (dirs.Lookup d name)) = not (in_script name script)
  test call = false

  no-way : (R : Type 0) → false ≡ true → R
  no-way R e = absurd (cc)

  look-sound : (d name : List ℕ) (b : Bool) → in_script name script ≡ b → not b ≡ true → IsOther m script (a.look_up d name)
  look-sound d name true e t = no-way _ t
  look-sound d name false e t = record { d = d; name = name; is = refl; own = λ k. no-way ⊥ (sym e ∙ script-in name script k) }

  sound : (call : Call) → test call ≡ true → IsOther m script call
  sound (calls.Dir (dirs.Lookup d name)) e = look-sound d name (in_script name script) refl e
  sound (calls.Dir (dirs.ReadDirPlus dir from with_ dircount maxcount)) e = no-way _ e
  sound (calls.Dir (dirs.ReadLink file)) e = no-way _ e
  sound (calls.Dir (dirs.Create dir name making)) e = no-way _ e
  sound (calls.Dir (dirs.MkDir dir name set)) e = no-way _ e
  sound (calls.Dir (dirs.SymLink dir name set target)) e = no-way _ e
  sound (calls.Dir (dirs.MkNod dir name node)) e = no-way _ e
  sound (calls.Dir (dirs.Remove dir name)) e = no-way _ e
  sound (calls.Dir (dirs.RmDir dir name)) e = no-way _ e
  sound (calls.Dir (dirs.Rename dir name to_dir to)) e = no-way _ e
  sound (calls.Dir (dirs.Link file dir name)) e = no-way _ e
  sound (calls.Dir (dirs.ReadDir dir from with_ count)) e = no-way _ e
  sound (calls.File call) e = no-way _ e
  sound (calls.Mount call) e = no-way _ e

  look-complete : (name : List ℕ) (b : Bool) → in_script name script ≡ b → (IsInScript script name → ⊥) → not b ≡ true
  look-complete name true e own = absurd (own (script-has name script e))
  look-complete name false e own = refl

  complete : (call : Call) → IsOther m script call → test call ≡ true
  complete call o = subst (λ (c : Call). test c ≡ true) (sym o.is) (look-complete o.name (in_script o.name script) refl o.own)

  nfs-look : (call : Call) → IsOther m script call → IsNfs call
  nfs-look call o = subst IsNfs (sym o.is) tt

  not-info : (root : List ℕ) → IsOther m script (info_call root) → ⊥
  not-info root o = apart o.d o.name o.is
    where
      apart : (d name : List ℕ) → info_call root ≡ a.look_up d name → ⊥
      apart d name e = cc

-- ---- the count

module _ (m : Mounted) (terms : Terms) (setup : Setup) (before h : List Entry) (v : View) (from : GoesFrom m terms setup before h v) (n : Notes (machine_of m) setup h v) (script : List Entry)
    (follows : Follows script h) where
  sum : Summed terms h (IsOther m script) (MetHidden script) (once m script)
  sum = summed m terms setup before h v from n (IsOther m script) (MetHidden script) (IsRemove m script) (once m script) (RemoveLeft m script) (remove-laws m script) (nfs-look m script) (not-info m script)
      (test m script) (sound m script) (λ x i op call asks p. complete m script call p) (λ x i op call began may asks p. asks-remove m terms h script follows x i op call began may p asks)

  asks-as : (o : a.Placed) → AsksOne terms h (IsOther m script) o → RemovesAt h o
  asks-as o k =
      let may = from.asked o.0 k.began.0 k.began.1 o.1 k.began.2 in
      let r = asks-remove m terms h script follows o.0 k.end o.1 k.call k.began may k.is k.asks in
      record { path = r.path; began = k.began; is = r.is }

  as-other : (call : Call) → LooksForHidden script call → IsOther m script call
  as-other call l = record { d = l.d; name = l.name; is = l.is; own = l.own }

  fold-ones : (os : List a.Placed) (from_ : ℕ) → fold (λ (k : ℕ) (o : a.Placed). k + 1) from_ os ≡ from_ + length os
  fold-ones [] from_ = omega arith
  fold-ones (o ∷ os) from_ = let rest = fold-ones os (from_ + 1) in omega (arith, rest)

  few-hidden : FewHidden script h
  few-hidden = record {
    removes = sum.asking;
    met = sum.credits;
    operations = record { different = sum.different; each = All-weaker (AsksOne terms h (IsOther m script)) (RemovesAt h) asks-as sum.asking sum.each };
    replied = record { different = sum.apart; each = sum.replied };
    few = λ xids apart each.
        let all = sum.few xids apart (All-weaker (Carries h (LooksForHidden script)) (Carries h (IsOther m script))
        (λ xid c. record { at = c.at; bytes = c.bytes; call = c.call; sent = c.sent; spells = c.spells; is = as-other c.call c.is }) xids each) in
        let size = fold-ones sum.asking 0 in
        omega (arith, all, size);
  }

pub hidden-few : FewHiddenMade
hidden-few m terms setup before h v from n script follows = few-hidden m terms setup before h v from n script follows
