-- A put that is alone and that a record refused asked for the call that this record refuses.
use Rattle.core_answers.proofs.Prelude.{◌≡◌, ◌≢◌, ◌<◌, ◌≤◌, ◌⊎◌, inl, inr, ℕ, List, sym, ap, subst, ◌∙◌, arith, cases_lt, Fault, Entry, Began, Call, Op, Asks, At, Ended, RefusalRow, Terms, At-one, Mounted, IsNamed, machine_of, Setup, View, KnowsRoot, Reaches}
use Rattle.world_model.specs.declared.entry.Entry.TheVariants.{Sent}
use Rattle.claims.specs.Asks.{Acts}
use Rattle.claims.specs.RefusalRows.{RefusedBy}
use Rattle.claims.specs.Terms.{jukebox}
use Rattle.world_model.specs.declared.answer.Answer.TheVariants as answers
use Rattle.world_model.specs.declared.answer.Fault.TheVariants as faults
use Rattle.world_model.specs.declared.op.Op.TheVariants as ops
use Rattle.claims.specs.Asks as acts
use Rattle.claims.specs.CallsAsked.{NoneBegan}
use Rattle.claims.specs.GoesOn.{GoesOn}
use Rattle.claims.specs.GoesOn as on
use Rattle.claims.specs.PageRules.{refuses}
use Rattle.core_answers.specs.asks.PutCalls.{IsAlone, IsMadeAlone}
use Rattle.core_answers.proofs.asks.PutAsks.{lone-puts-ask}
use Rattle.core_answers.proofs.bonds.OneCall.{IsNfs, one-call}
use Rattle.core_answers.specs.answers.LonePuts.{LoneRefusals}
use Rattle.core_facts.specs.Refusing.{IsRefusedSo}
use Rattle.core_facts.proofs.LostAnswers.{lost-answers}
use Rattle.core_facts.proofs.Refusals.{refusals-shown}
use Rattle.core_answers.proofs.answers.PutRows.{put-kinds-shown}
use Rattle.core_answers.proofs.answers.PutRules.{put-rules-shown, put-faults-few}

same-op : (a b c d : ℕ) (o p : Op) → Began a b o ≡ Began c d p → o ≡ p
same-op a b c d o p e = cc

-- at the place of an operation no record is sent
no-sent : (a b : ℕ) (o : Op) (bytes : List ℕ) → Began a b o ≡ Sent bytes → ⊥
no-sent a b o bytes e = cc

-- each call that an operation asks for is one of NFS
nfs-as : (call to : Call) → call ≡ to → IsNfs to → IsNfs call
nfs-as call to is nfs = subst IsNfs (sym is) nfs

acts-nfs : (terms : Terms) (h : List Entry) (x n : ℕ) (op : Op) (call : Call) → Acts terms h x n op call → IsNfs call
acts-nfs terms h x n op call (acts.cuts slot size f is of e) = nfs-as call _ e tt
acts-nfs terms h x n op call (acts.accesses path bits f is l e) = nfs-as call _ e tt
acts-nfs terms h x n op call (acts.reads_link path f is l e) = nfs-as call _ e tt
acts-nfs terms h x n op call (acts.makes_dir path d name is p e) = nfs-as call _ e tt
acts-nfs terms h x n op call (acts.makes_link path target d name is p e) = nfs-as call _ e tt
acts-nfs terms h x n op call (acts.removes_dir path d name is p e) = nfs-as call _ e tt
acts-nfs terms h x n op call (acts.renames from to d name to_d to_name is p q e) = nfs-as call _ e tt
acts-nfs terms h x n op call (acts.links from to f d name is l p e) = nfs-as call _ e tt
acts-nfs terms h x n op call (acts.removes path d name is p e) = nfs-as call _ e tt
acts-nfs terms h x n op call (acts.hides path d last name is p hidden may e) = nfs-as call _ e tt

asks-nfs : (terms : Terms) (h : List Entry) (x n : ℕ) (op : Op) (call : Call) → Asks terms h x n op call → IsNfs call
asks-nfs terms h x n op call (acts.walks path earlier later name next d has is l e) = nfs-as call _ e tt
asks-nfs terms h x n op call (acts.finds path d name has p e) = nfs-as call _ e tt
asks-nfs terms h x n op call (acts.looks_for_hidden path d last name is p hidden e) = nfs-as call _ e tt
asks-nfs terms h x n op call (acts.creates slot path d name is p e) = nfs-as call _ e tt
asks-nfs terms h x n op call (acts.creates_after slot path d name reply is p a none e) = nfs-as call _ e tt
asks-nfs terms h x n op call (acts.opens path f o l e) = nfs-as call _ e tt
asks-nfs terms h x n op call (acts.opens_made slot mode path d name f making attr wcc is p mk a e) = nfs-as call _ e tt
asks-nfs terms h x n op call (acts.shows path f is l e) = nfs-as call _ e tt
asks-nfs terms h x n op call (acts.reads slot offset count at size f is of inside e) = nfs-as call _ e tt
asks-nfs terms h x n op call (acts.asks_anew slot offset count f is noac of e) = nfs-as call _ e tt
asks-nfs terms h x n op call (acts.writes f bytes at how s e) = nfs-as call _ e tt
asks-nfs terms h x n op call (acts.commits f s e) = nfs-as call _ e tt
asks-nfs terms h x n op call (acts.writes_for_room f bytes at how w p room e) = nfs-as call _ e tt
asks-nfs terms h x n op call (acts.commits_for_room f w p room e) = nfs-as call _ e tt
asks-nfs terms h x n op call (acts.removes_hidden r) = nfs-as call _ r.removes tt
asks-nfs terms h x n op call (acts.lists path d rows cookie verf is l c e) = nfs-as call _ e tt
asks-nfs terms h x n op call (acts.acts a) = acts-nfs terms h x n op call a

-- a put goes on only from NFS3ERR_JUKEBOX
goes-not : (terms : Terms) (h : List Entry) (x n : ℕ) (path : List (List ℕ)) (offset : ℕ) (bytes : List ℕ) (call : Call) (status : ℕ) → status ≢ jukebox
    → GoesOn terms h x n (ops.Put path offset bytes) call status → ⊥
goes-not terms h x n path offset bytes call status other (on.makes slot p d name is place alone c two none) = absurd (cc)
goes-not terms h x n path offset bytes call status other (on.hides p d last name f attr dir is place hidden other_name alone c two gave) = absurd (cc)
goes-not terms h x n path offset bytes call status other (on.tries_again is few none) = other is

module _ (m : Mounted) (setup : Setup) (h : List Entry) (v : View) (r : Reaches (machine_of m) setup h v) (terms : Terms) (known : KnowsRoot terms.origin h m.root) (lane x : ℕ)
    (path : List (List ℕ)) (offset : ℕ) (bytes : List ℕ) (y : ℕ) (named : IsNamed path) (alone : IsAlone h x y) where
  abbrev Own : Op
  Own = ops.Put path offset bytes

  row : (line : ℕ) (fault : Fault) → At h x (Began lane line Own) → ((n : ℕ) → fault ≡ faults.Nfs n → n ≢ jukebox) → IsRefusedSo h x y fault → RefusedBy terms h x y Own fault
  row line fault began other w = record {
    call = w.call;
    refused = record { xid = w.refused.xid; bytes = w.refused.bytes; heard = w.refused.heard; refuses = refuses w.refused.refuses };
    asks = by (lone-puts-ask m setup h v r terms known w.refused.heard.sent_at w.refused.heard.record_sent w.refused.heard.sent.sent);
    last = λ l. let no_way = l.close in absurd (cc);
    ends = λ n is g. goes-not terms h x w.refused.heard.got_at path offset bytes w.call n (other n is) g;
  }
    where
      before : w.refused.heard.sent_at < y
      before = let a = w.refused.heard.later in let b = w.refused.heard.before in omega (arith, a, b)

      within : x < w.refused.heard.sent_at
      within = from (cases_lt x w.refused.heard.sent_at)
        where
          from : (x < w.refused.heard.sent_at) ⊎ (w.refused.heard.sent_at ≤ x) → x < w.refused.heard.sent_at
          from (inl low) = low
          from (inr high) =
              let since = w.refused.heard.after in
              let same : w.refused.heard.sent_at ≡ x = omega (arith, since, high) in
              absurd (no-sent lane line Own w.refused.heard.record_sent
              (At-one h x (Began lane line Own) (Sent w.refused.heard.record_sent) began
              (subst (λ (k : ℕ). At h k (Sent w.refused.heard.record_sent)) same w.refused.heard.sent.sent)))

      by : NoneBegan h w.refused.heard.sent_at ⊎ IsMadeAlone terms setup.cred h w.refused.heard.sent_at w.refused.heard.record_sent → Asks terms h x w.refused.heard.sent_at Own w.call
      by (inl none) = absurd (none x lane line Own began within)
      by (inr made) =
          let early = made.under_way.before in
          let late = before in
          let same : made.x ≡ x = alone made.x made.lane made.under_way.line made.op made.under_way.began (omega (arith, early, late)) in
          let there : At h x (Began made.lane made.under_way.line made.op) = subst (λ (k : ℕ). At h k (Began made.lane made.under_way.line made.op)) same made.under_way.began in
          let own : made.op ≡ Own = same-op made.lane made.under_way.line lane line made.op Own (At-one h x (Began made.lane made.under_way.line made.op) (Began lane line Own) there began) in
          let asks = made.asks path offset bytes own named (λ j n l op at lt. alone j n l op at (omega (arith, lt, late)) ∙ sym same) in
          let call : made.call ≡ w.call =
          one-call made.xid w.refused.xid made.call w.call w.refused.heard.record_sent (asks-nfs terms h made.x w.refused.heard.sent_at Own made.call asks) made.made.spells
          w.refused.heard.spells in
          subst (λ (k : ℕ). Asks terms h k w.refused.heard.sent_at Own w.call) same
          (subst (λ (c : Call). Asks terms h made.x w.refused.heard.sent_at Own c) call asks)

pub lone-refusals : LoneRefusals
lone-refusals m setup h v r terms known lane x path offset bytes y fault named alone ended other = by fault ended other
  where
    by : (f : Fault) → Ended h lane x (ops.Put path offset bytes) y (answers.Refused f) → f ≢ faults.Nfs jukebox → RefusalRow terms h lane x y (ops.Put path offset bytes) f
    by (faults.Bad n) d o = row m setup h v r terms known lane x path offset bytes y named alone d.line (faults.Bad n) d.began
        (λ k is. absurd (let no_way : faults.Bad n ≡ faults.Nfs k = is in cc)) (put-rules-shown m setup h v r lane x path offset bytes y n named d)
    by (faults.Rpc n) d o = row m setup h v r terms known lane x path offset bytes y named alone d.line (faults.Rpc n) d.began
        (λ k is. absurd (let no_way : faults.Rpc n ≡ faults.Nfs k = is in cc)) (refusals-shown m setup h v r lane x (ops.Put path offset bytes) y (faults.Rpc n) d)
    by (faults.Nfs n) d o = row m setup h v r terms known lane x path offset bytes y named alone d.line (faults.Nfs n) d.began
        (λ k is same. o (is ∙ ap faults.Nfs same)) (refusals-shown m setup h v r lane x (ops.Put path offset bytes) y (faults.Nfs n) d)
    by faults.Lost d o = lost-answers m setup h v r lane x (ops.Put path offset bytes) y d
    by faults.Spent d o = tt
    by faults.Slot d o = absurd (put-faults-few m setup h v r lane x path offset bytes y faults.Slot named d)
    by faults.Mode d o = absurd (put-faults-few m setup h v r lane x path offset bytes y faults.Mode named d)
    by faults.Kind d o = put-kinds-shown m setup h v r terms known lane x path offset bytes y named d
    by faults.Many d o = absurd (put-faults-few m setup h v r lane x path offset bytes y faults.Many named d)
    by faults.Memory d o = tt
