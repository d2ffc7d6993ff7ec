-- Histories of wrong clients over an honest server: lawful, once and fresh; and the causes of calls and answers refuse each.
use Rattle.std.proofs.Common.{inl, inr, ◌≡◌, ◌<◌, ◌≤◌, ℕ, Bool, true, List, [], ◌∷◌, Some, refl, sym, subst, arith}
use Rattle.std.proofs.lemmas.Bool.{cases_lt}
use Rattle.nfs_types.specs.declared.mode.Mode.TheVariants as modes
use Rattle.nfs_dir_calls.specs.declared.call.DirCall.TheVariants as dirs
use Rattle.world_model.specs.declared.answer.Answer.TheVariants.{Refused}
use Rattle.world_model.specs.declared.answer.Fault.TheVariants as faults
use Rattle.world_model.specs.declared.answer.Value.TheVariants as values
use Rattle.world_model.specs.declared.entry.Entry.{Entry}
use Rattle.world_model.specs.declared.entry.Entry.TheVariants as entries
use Rattle.world_model.specs.declared.message.Call.{Call}
use Rattle.world_model.specs.declared.message.Call.TheVariants as calls
use Rattle.world_model.specs.declared.op.Op.{Op}
use Rattle.world_model.specs.declared.op.Op.TheVariants as ops
use Rattle.world_model.specs.Commits.{commit_call}
use Rattle.world_model.specs.Entries.{At}
use Rattle.world_model.specs.Fresh.{Fresh}
use Rattle.world_model.specs.Lawful.{Lawful}
use Rattle.world_model.specs.Messages.{HasXid, SpellsCall}
use Rattle.world_model.specs.Once.{Once}
use Rattle.world_model.specs.Operations.{AnsweredBefore}
use Rattle.claims.specs.CallsAsked.{CallsAsked, IsCause, mounts, informs, asked, NoneBegan}
use Rattle.claims.specs.Caused.{Caused}
use Rattle.claims.specs.Terms.{Terms}
use Rattle.honest_histories.proofs.SmallServer.{empty_server, root, commit, may_write}
use Rattle.honest_histories.proofs.Written.{call_record, call_under, talk_mount, talk_info, talk_lookup, talk_attr}
use Rattle.honest_histories.proofs.Made.{◌⍮◌, Event, Begins, Answers, Sends, Does, Comes, Looks, entries_of, made, Right, did, came, newer, lawful, fresh, once, one_xid}
use Rattle.honest_histories.proofs.Seen.{begins_outside, ended, none_sent, no_proc_sent, none_under, SpellsAll}
use Rattle.honest_histories.proofs.Opened.{ok, the_path, beginning, opening, right_from, opened_by}
use Rattle.honest_histories.proofs.RestartedPut.{the_put, the_write, wrote_by, unstable, empty_is_plain, its_write, its_commit}

-- ---- a refusal that came of no reply

abbrev refusing_rest : List Event
refusing_rest = Looks 11 ∷ Begins 1 2 (ops.Stat the_path) ∷ Answers 1 2 (Refused (faults.Nfs 5)) ∷ []

abbrev pub refuses_all : List Event
refuses_all = opening empty_server modes.R refusing_rest

refuses_all_right : Right empty_server refuses_all
refuses_all_right = right_from empty_server (opened_by modes.R) (Answers 1 1 ok ∷ refusing_rest) empty_is_plain tt

refuses_all_is_lawful : Lawful (made empty_server refuses_all)
refuses_all_is_lawful = lawful empty_server refuses_all refuses_all_right

refuses_all_is_fresh : Fresh (made empty_server refuses_all)
refuses_all_is_fresh = fresh empty_server refuses_all refuses_all_right

refuses_all_is_once : Once (entries_of refuses_all)
refuses_all_is_once = once refuses_all refl refl

may_not_refuse_all : (terms : Terms) (script : List Entry) (status : ℕ) → Caused terms script status (entries_of refuses_all) → ⊥
may_not_refuse_all terms script status caused =
    let heard = (caused.refused 1 16 17 (ops.Stat the_path) (faults.Nfs 5) (ended refuses_all 1 2 16 17 (ops.Stat the_path) (Refused (faults.Nfs 5)) refl refl (omega arith) refl)).refused.heard in
    let late = heard.after in
    let later = heard.later in
    let soon = heard.before in
    let low = none_sent refuses_all 16 18 refl heard.sent_at heard.record_sent heard.sent.sent (omega (arith, later, soon)) in
    omega (arith, late, low)

-- ---- a directory that is made without MKDIR

abbrev new_dir : Op
new_dir = ops.MakeDir ((98 ∷ []) ∷ [])

abbrev making_rest : List Event
making_rest = Looks 11 ∷ Begins 1 2 new_dir ∷ Answers 1 2 ok ∷ []

abbrev pub makes_nothing : List Event
makes_nothing = opening empty_server modes.R making_rest

makes_nothing_right : Right empty_server makes_nothing
makes_nothing_right = right_from empty_server (opened_by modes.R) (Answers 1 1 ok ∷ making_rest) empty_is_plain tt

makes_nothing_is_lawful : Lawful (made empty_server makes_nothing)
makes_nothing_is_lawful = lawful empty_server makes_nothing makes_nothing_right

makes_nothing_is_fresh : Fresh (made empty_server makes_nothing)
makes_nothing_is_fresh = fresh empty_server makes_nothing makes_nothing_right

makes_nothing_is_once : Once (entries_of makes_nothing)
makes_nothing_is_once = once makes_nothing refl refl

may_not_make_nothing : (terms : Terms) (script : List Entry) (status : ℕ) → Caused terms script status (entries_of makes_nothing) → ⊥
may_not_make_nothing terms script status caused =
    let ends = (caused.ok 1 16 17 new_dir values.Nothing (ended makes_nothing 1 2 16 17 new_dir ok refl refl (omega arith) refl)).ends in
    let late = ends.within in
    let later = ends.last.asked in
    let soon = ends.last.before in
    let low = none_sent makes_nothing 16 18 refl ends.last.sent_at ends.last.record_sent ends.last.sent.sent (omega (arith, later, soon)) in
    omega (arith, late, low)

-- ---- a call that no line asks for

abbrev the_remove : Call
the_remove = calls.Dir (dirs.Remove root (97 ∷ []))

-- after the one open was answered, the client sends REMOVE
abbrev pub removes_it : List Event
removes_it = opening empty_server modes.R (Sends 4 the_remove ∷ [])

removes_it_right : Right empty_server removes_it
removes_it_right = right_from empty_server (opened_by modes.R) (Answers 1 1 ok ∷ Sends 4 the_remove ∷ []) empty_is_plain tt

removes_it_is_lawful : Lawful (made empty_server removes_it)
removes_it_is_lawful = lawful empty_server removes_it removes_it_right

removes_it_is_fresh : Fresh (made empty_server removes_it)
removes_it_is_fresh = fresh empty_server removes_it removes_it_right

removes_it_is_once : Once (entries_of removes_it)
removes_it_is_once = once removes_it refl refl

abbrev any_op : Op → Bool
any_op op = true

one_operation : (x lane line : ℕ) (op : Op) → At (entries_of removes_it) x (entries.Began lane line op) → x < 15 → x ≡ 7
one_operation x lane line op at lt =
    let low = begins_outside removes_it any_op 8 15 refl x lane line op at refl lt in
    elim (cases_lt x 7) [
      | inl less ↦ (let none = begins_outside removes_it any_op 0 7 refl x lane line op at refl less in absurd (omega (arith, none)))
      | inr le ↦ omega (arith, low, le)
    ]

the_open_ended : AnsweredBefore (entries_of removes_it) 7 15
the_open_ended = record { lane = 1; op = opened_by modes.R; y = 14; answer = ok; ended = ended removes_it 1 1 7 14 (opened_by modes.R) ok refl refl (omega arith) refl; before = omega arith }

some_began : NoneBegan (entries_of removes_it) 15 → ⊥
some_began none = none 7 1 1 (opened_by modes.R) refl (omega arith)

may_not_remove_it : (terms : Terms) → CallsAsked terms (entries_of removes_it) → ⊥
may_not_remove_it terms calls_asked = by (calls_asked.caused 15 (call_record 4 the_remove) refl).call (calls_asked.caused 15 (call_record 4 the_remove) refl).cause
  where
    by : (call : Call) → IsCause terms (entries_of removes_it) 15 call → ⊥
    by call (mounts path origin is none) = some_began none
    by call (informs root_ rooted is none) = some_began none
    by call (asked lane x op under asks keeps) =
        let at = one_operation x lane under.line op under.began under.before in
        under.unanswered (subst (λ (z : ℕ). AnsweredBefore (entries_of removes_it) z 15) (sym at) the_open_ended)

-- ---- a reply that is taken for that to another call

-- the reply to the WRITE comes twice, and the second time it is taken for that to COMMIT
abbrev taking_rest : List Event
taking_rest =
    Sends 4 the_write ∷ Does 4 the_write (wrote_by 1) unstable ∷ Comes 4 (wrote_by 1)
    ∷ Sends 5 commit ∷ Comes 4 (wrote_by 1)
    ∷ Answers 1 1 ok ∷ []

abbrev pub takes_any : List Event
takes_any = beginning empty_server the_put taking_rest

takes_any_right : Right empty_server takes_any
takes_any_right = right_from empty_server the_put taking_rest empty_is_plain (
    did 14 (omega arith) refl (its_write 4 1 (omega arith)) (may_write empty_server 0 2 (1 ∷ []) (omega arith)) (newer refl (omega arith) refl refl (omega arith))
    ⍮ came 15 the_write (omega arith) refl (its_write 4 1 (omega arith))
    ⍮ came 15 the_write (omega arith) refl (its_write 4 1 (omega arith))
    ⍮ tt)

takes_any_is_lawful : Lawful (made empty_server takes_any)
takes_any_is_lawful = lawful empty_server takes_any takes_any_right

takes_any_is_fresh : Fresh (made empty_server takes_any)
takes_any_is_fresh = fresh empty_server takes_any takes_any_right

takes_any_is_once : Once (entries_of takes_any)
takes_any_is_once = once takes_any refl refl

its_calls : SpellsAll takes_any
its_calls =
    (talk_mount 0 (omega arith)).call_is ⍮ tt ⍮ tt
    ⍮ (talk_info 1 (omega arith)).call_is ⍮ tt ⍮ tt ⍮ tt ⍮ tt
    ⍮ (talk_lookup 2 (omega arith)).call_is ⍮ tt ⍮ tt
    ⍮ (talk_attr 3 empty_server (omega arith) (omega arith) (omega arith)).call_is ⍮ tt ⍮ tt
    ⍮ (its_write 4 1 (omega arith)).call_is ⍮ tt ⍮ tt
    ⍮ (its_commit 5 (omega arith)).call_is ⍮ tt ⍮ tt ⍮ tt

record_is : (bytes : List ℕ) → Some (entries.Sent (call_record 5 commit)) ≡ Some (entries.Sent bytes) → call_record 5 commit ≡ bytes
record_is bytes e = cc

may_not_take_any : (terms : Terms) (script : List Entry) (status : ℕ) → Caused terms script status (entries_of takes_any) → ⊥
may_not_take_any terms script status caused =
    let heard = (caused.ok 1 7 19 the_put values.Nothing (ended takes_any 1 1 7 19 the_put ok refl refl (omega arith) refl)).0.committed.asked.heard in
    let later = heard.later in
    let soon = heard.before in
    let high = no_proc_sent takes_any 18 20 _ _ its_calls refl heard.sent_at heard.record_sent heard.sent.sent heard.spells (omega (arith, later, soon)) in
    unheard _ _ heard.sent_at heard.got_at heard.record_sent high (at_least _ _ heard.sent_at heard.record_sent heard.sent.sent heard.spells) heard.sent.sent heard.sent.under heard.got.got heard.got.under (omega (arith, soon))
  where
    at_least : (x : ℕ) (f : List ℕ) (n : ℕ) (b : List ℕ) → At (entries_of takes_any) n (entries.Sent b) → SpellsCall x (commit_call f) b → 17 ≤ n
    at_least x f n b sent spells = elim (cases_lt n 17) [
      | inl lt ↦ (let low = no_proc_sent takes_any 0 17 x (commit_call f) its_calls refl n b sent spells lt in absurd (omega (arith, low)))
      | inr le ↦ le
    ]

    unheard : (x : ℕ) (bytes : List ℕ) (n got : ℕ) (b : List ℕ) → n < 18 → 17 ≤ n → At (entries_of takes_any) n (entries.Sent b) → HasXid b x → At (entries_of takes_any) got (entries.Delivered bytes) → HasXid bytes x → got < 20 → ⊥
    unheard x bytes n got b high low sent under came its lt =
        let at : n ≡ 17 = omega (arith, high, low) in
        let this = record_is b (subst (λ (z : ℕ). At (entries_of takes_any) z (entries.Sent b)) at sent) in
        let five : 5 ≡ x = one_xid b 5 x (subst (λ (z : List ℕ). HasXid z 5) this (call_under 5 commit (omega arith))) under in
        let none = none_under takes_any 0 20 5 refl refl got bytes came (subst (λ (z : ℕ). HasXid bytes z) (sym five) its) lt in
        omega (arith, none)
