-- To which file the path of a put by itself leads: the one that its WRITEs are of.
use Rattle.core_session.proofs.Prelude.{◌≡◌, ◌<◌, ◌≤◌, ◌⊎◌, inl, inr, ℕ, List, sym, subst, ◌∙◌, arith, Entry, Began, Sent, Call, Op, Answer, Asks, Acts, NoneBegan, At, SpellsCall, Origin, Ended, Terms, WritesByte, Rooted-wide, Asked-wide, At-one, At-below, one_file_call, Mounted, machine_of, IsNamed, Setup, View, KnowsRoot, Reaches}
use Rattle.claims.specs.Asks.{Stabilizes}
use Rattle.world_model.specs.Operations.{EndsAt, answered, unanswered}
use Rattle.nfs_file_calls.specs.declared.call.FileCall.TheVariants as files
use Rattle.world_model.specs.declared.message.Call.TheVariants as calls
use Rattle.world_model.specs.declared.op.Op.TheVariants as ops
use Rattle.claims.specs.Asks as asks
use Rattle.world_model.specs.Leads.{Leads, root, step}
use Rattle.claims.specs.Touched as touching
use Rattle.core_answers.specs.asks.PutCalls.{IsMadeAlone}
use Rattle.core_answers.proofs.asks.PutAsks.{lone-puts-ask}
use Rattle.core_session.specs.saves.PutsWritten.{IsAlone}
use Rattle.core_session.proofs.settled.Leaving.{answered-once}

-- ---- a path leads there later too

leads-wide : (origin : Origin) (h : List Entry) (n k : ℕ) (path : List (List ℕ)) (object : List ℕ) → n ≤ k → Leads origin h n path object → Leads origin h k path object
leads-wide origin h n k path object le (root _ _ none rooted) = root path object none (Rooted-wide origin h n k object le rooted)
leads-wide origin h n k path object le (step _ earlier _ name d attr dir is before asked) =
    step path earlier object name d attr dir is (leads-wide origin h n k earlier d le before) (Asked-wide h 0 n 0 k _ _ (omega arith) le asked)

same-op : (a b c d : ℕ) (p q : Op) → Began a b p ≡ Began c d q → p ≡ q
same-op a b c d p q e = cc

-- ---- the WRITE is one that the put asks for

module _ (terms : Terms) (h : List Entry) (lane line x y offset how start : ℕ) (path : List (List ℕ)) (text its file : List ℕ) (answer : Answer)
    (began : At h x (Began lane line (ops.Put path offset text))) (ended : Ended h lane x (ops.Put path offset text) y answer) (lone : IsAlone h x y) where
  -- another operation has no bytes there
  writer : (w f_at v : ℕ) (f : List ℕ) → w < y → WritesByte terms.modes terms.origin h w f f_at v → Leads terms.origin h y path f
  writer w f_at v f early (touching.write slot at bytes of covers) =
      let is = lone w of.lane of.line (ops.Write slot at bytes) of.began early in
      let same = At-one h x (Began of.lane of.line (ops.Write slot at bytes)) (Began lane line (ops.Put path offset text)) (subst (λ (n : ℕ). At h n (Began of.lane of.line (ops.Write slot at bytes))) is of.began) began in
      absurd (cc same)
  writer w f_at v f early (touching.fill slot at count of low high) =
      let is = lone w of.lane of.line (ops.Fill slot at count v) of.began early in
      let same = At-one h x (Began of.lane of.line (ops.Fill slot at count v)) (Began lane line (ops.Put path offset text)) (subst (λ (n : ℕ). At h n (Began of.lane of.line (ops.Fill slot at count v))) is of.began) began in
      absurd (cc same)
  writer w f_at v f early (touching.put its_lane its_line at n its_path bytes here ends led covers) =
      let is = lone w its_lane its_line (ops.Put its_path at bytes) here early in
      let there : At h x (Began its_lane its_line (ops.Put its_path at bytes)) = subst (λ (n : ℕ). At h n (Began its_lane its_line (ops.Put its_path at bytes))) is here in
      let op : ops.Put its_path at bytes ≡ ops.Put path offset text = same-op its_lane its_line lane line (ops.Put its_path at bytes) (ops.Put path offset text) (At-one h x _ _ there began) in
      let paths : its_path ≡ path = cc in
      subst (λ (p : List (List ℕ)). Leads terms.origin h y p f) paths (subst (λ (k : ℕ). Leads terms.origin h k its_path f) (ends-there (subst (λ (k : ℕ). EndsAt h k n) is ends)) led)
    where
      ends-there : EndsAt h x n → n ≡ y
      ends-there (answered other op its_answer e) = answered-once h x other lane n y op (ops.Put path offset text) its_answer answer e ended
      ends-there (unanswered none is) = absurd (none (record { lane = lane; op = ops.Put path offset text; y = y; answer = answer; ended = ended; before = At-below h y _ ended.answered }))

  acts-other : (n : ℕ) (call : Call) → calls.File (files.Write file start how its) ≡ call → Acts terms h x n (ops.Put path offset text) call → ⊥
  acts-other n call is (asks.cuts slot size f o of same) = absurd (cc o)
  acts-other n call is (asks.accesses p bits f o led same) = absurd (cc o)
  acts-other n call is (asks.reads_link p f o led same) = absurd (cc o)
  acts-other n call is (asks.makes_dir p d name o placed same) = absurd (cc o)
  acts-other n call is (asks.makes_link p target d name o placed same) = absurd (cc o)
  acts-other n call is (asks.removes_dir p d name o placed same) = absurd (cc o)
  acts-other n call is (asks.renames a b d name e other o from to same) = absurd (cc o)
  acts-other n call is (asks.links a b f d name o led placed same) = absurd (cc o)
  acts-other n call is (asks.removes p d name o placed same) = absurd (cc o)
  acts-other n call is (asks.hides p d last name o placed hidden may same) = absurd (cc o)

  stable-leads : (n : ℕ) (f : List ℕ) → n ≤ y → Stabilizes terms h x n (ops.Put path offset text) f → Leads terms.origin h y path f
  stable-leads n f le (asks.sync slot o of) = absurd (cc o)
  stable-leads n f le (asks.close slot o of) = absurd (cc o)
  stable-leads n f le (asks.put p at bytes o led) =
      let paths : p ≡ path = cc in
      leads-wide terms.origin h n y path f le (subst (λ (q : List (List ℕ)). Leads terms.origin h n q f) paths led)

  -- which file a WRITE is of
  same-file : (f bytes : List ℕ) (at its_how : ℕ) (call : Call) → calls.File (files.Write file start how its) ≡ call → call ≡ calls.File (files.Write f at its_how bytes) → f ≡ file
  same-file f bytes at its_how call is same = let whole = is ∙ same in cc

  asked-leads : (n : ℕ) (call : Call) → n < y → calls.File (files.Write file start how its) ≡ call → Asks terms h x n (ops.Put path offset text) call → Leads terms.origin h y path file
  asked-leads n call low is (asks.walks p earlier later name next d c q led same) = absurd (cc (is ∙ same))
  asked-leads n call low is (asks.finds p d name c placed same) = absurd (cc (is ∙ same))
  asked-leads n call low is (asks.looks_for_hidden p d last name o placed hidden same) = absurd (cc o)
  asked-leads n call low is (asks.creates slot p d name o placed same) = absurd (cc o)
  asked-leads n call low is (asks.creates_after slot p d name reply o placed asked none same) = absurd (cc o)
  asked-leads n call low is (asks.opens p f o led same) = absurd (cc (is ∙ same))
  asked-leads n call low is (asks.opens_made slot mode p d name f making attr wcc o placed makes asked same) = absurd (cc o)
  asked-leads n call low is (asks.shows p f o led same) = absurd (cc o)
  asked-leads n call low is (asks.reads slot at count its_at size f o of inside same) = absurd (cc o)
  asked-leads n call low is (asks.asks_anew slot at count f o noac of same) = absurd (cc o)
  asked-leads n call low is (asks.writes f bytes at its_how stable same) =
      subst (λ (g : List ℕ). Leads terms.origin h y path g) (same-file f bytes at its_how call is same) (stable-leads n f (omega (arith, low)) stable)
  asked-leads n call low is (asks.commits f stable same) = absurd (cc (is ∙ same))
  asked-leads n call low is (asks.writes_for_room f bytes at its_how writes had needs same) =
      let before = had.pending.before in
      let soon = had.moment.soon in
      subst (λ (g : List ℕ). Leads terms.origin h y path g) (same-file f bytes at its_how call is same) (writer had.pending.w had.i had.v f (omega (arith, before, soon, low)) had.pending.writes)
  asked-leads n call low is (asks.commits_for_room f writes had needs same) = absurd (cc (is ∙ same))
  asked-leads n call low is (asks.removes_hidden r) = let o = r.is in absurd (cc o)
  asked-leads n call low is (asks.lists p d rows cookie verf o led chain same) = absurd (cc o)
  asked-leads n call low is (asks.acts a) = absurd (acts-other n call is a)

  pub write-leads : (m : Mounted) (setup : Setup) (v : View) → Reaches (machine_of m) setup h v → KnowsRoot terms.origin h m.root → IsNamed path → (s xid : ℕ) (sent : List ℕ) → At h s (Sent sent)
      → SpellsCall xid (calls.File (files.Write file start how its)) sent → x < s → s < y → Leads terms.origin h y path file
  write-leads m setup v r known named s xid sent at spells low high = by (lone-puts-ask m setup h v r terms known s sent at)
    where
      by : NoneBegan h s ⊎ IsMadeAlone terms setup.cred h s sent → Leads terms.origin h y path file
      by (inl none) = absurd (none x lane line (ops.Put path offset text) began low)
      by (inr w) =
          let u = w.under_way in
          let early = u.before in
          let is : w.x ≡ x = lone w.x w.lane u.line w.op u.began (omega (arith, early, high)) in
          let op : w.op ≡ ops.Put path offset text =
          same-op w.lane u.line lane line w.op (ops.Put path offset text) (At-one h x (Began w.lane u.line w.op) (Began lane line (ops.Put path offset text))
          (subst (λ (n : ℕ). At h n (Began w.lane u.line w.op)) is u.began) began) in
          let call-is = one_file_call xid w.xid (files.Write file start how its) w.call sent spells w.made.spells in
          asked-leads s w.call high call-is (subst (λ (n : ℕ). Asks terms h n s (ops.Put path offset text) w.call) is
          (w.asks path offset text op named (λ j its_lane its_line other here low. lone j its_lane its_line other here (omega (arith, low, high)) ∙ sym is)))
