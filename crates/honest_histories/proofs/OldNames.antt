-- Histories of clients that go by a name a minute after it was looked up, over an honest server: lawful, once and fresh; and the
-- laws of attributes and of names refuse each (nfs(5), acdirmax).
use Rattle.std.proofs.Common.{inl, inr, ◌⊎◌, ◌≡◌, ◌<◌, ◌≤◌, ◌++◌, ◌==◌, ℕ, zero, suc, Bool, true, false, nat_lt, List, [], ◌∷◌, Option, Some, refl, sym, ap, subst, ◌∙◌, slice_get, arith}
use Rattle.std.proofs.lemmas.Bool.{cases_lt, eqb-true, lt-ltb}
use Rattle.nfs_types.specs.declared.mode.Mode.TheVariants as modes
use Rattle.nfs_dir_calls.specs.declared.call.DirCall.TheVariants as dirs
use Rattle.nfs_dir_calls.specs.declared.keeping.DirKept.TheVariants as found
use Rattle.world_model.specs.declared.answer.Answer.{Answer}
use Rattle.world_model.specs.declared.answer.Answer.TheVariants.{Done}
use Rattle.world_model.specs.declared.answer.Value.TheVariants as values
use Rattle.world_model.specs.declared.entry.Entry.{Entry}
use Rattle.world_model.specs.declared.entry.Entry.TheVariants as entries
use Rattle.world_model.specs.declared.message.Call.{Call}
use Rattle.world_model.specs.declared.message.Call.TheVariants as calls
use Rattle.world_model.specs.declared.message.Reply.{Reply}
use Rattle.world_model.specs.declared.message.Reply.TheVariants as replies
use Rattle.world_model.specs.declared.op.Op.{Op}
use Rattle.world_model.specs.declared.op.Op.TheVariants as ops
use Rattle.world_model.specs.Fresh.{Fresh}
use Rattle.world_model.specs.History.{History}
use Rattle.world_model.specs.Lawful.{Lawful}
use Rattle.world_model.specs.Mounts.{Given, info_call}
use Rattle.world_model.specs.Names.{Lacks, absent}
use Rattle.world_model.specs.NameService.{within}
use Rattle.world_model.specs.Once.{Once}
use Rattle.world_model.specs.Operations.{Ended, LastReply}
use Rattle.world_model.specs.Server.{Listed, Bytes, Entries, Object, Lists, Names}
use Rattle.world_model.specs.Service.{Serves, done}
use Rattle.claims.specs.Modes.{usual_modes}
use Rattle.claims.specs.Recent.{Recent, during, kept, Walked, step, AttrAge, NamesTrue}
use Rattle.claims.specs.Recent as walks
use Rattle.claims.specs.Slots.{asked}
use Rattle.honest_histories.proofs.SmallServer.{State, empty_server, root, the_file, file_attr, directory, file, place, serve, info_reply, the_lookup, the_found, get_attr, got_attr, no_wcc, may_inform, may_look_up, may_get_attr}
use Rattle.honest_histories.proofs.Written.{Talk, talk_info, talk_lookup, talk_attr}
use Rattle.honest_histories.proofs.Made.{◌⍮◌, Changed, Event, Begins, Answers, Sends, Does, Comes, Others, Looks, entries_of, state_at, made, AllFit, Right, idle, did, came, lawful, fresh, once}
use Rattle.honest_histories.proofs.Seen.{outside, each_at, ended, last_reply}
use Rattle.honest_histories.proofs.Opened.{the_path}

-- ---- another client gives the file another name

abbrev renamed : State
renamed = record empty_server { letter = 98; moved = 2 }

abbrev the_rename : Call
the_rename = calls.Dir (dirs.Rename root (97 ∷ []) root (98 ∷ []))

abbrev was_renamed : Reply
was_renamed = replies.Dir (found.Rename no_wcc no_wcc)

abbrev entry_named : ℕ → Listed
entry_named letter = record { name = letter ∷ []; object = the_file; cookie = 1 }

none_listed : (name : List ℕ) → Lacks [] name
none_listed name e listed named = absurd (cc listed.1)

only_listed : (letter : ℕ) (e : Listed) → Lists (entry_named letter ∷ []) e → letter ∷ [] ≡ e.name
only_listed letter e listed = by listed.0 listed.1
  where
    by : (at : ℕ) → slice_get (entry_named letter ∷ []) at ≡ Some e → letter ∷ [] ≡ e.name
    by zero got = let is : entry_named letter ≡ e = cc got in ap (λ (z : Listed). z.name) is
    by (suc at) got = absurd (cc got)

other_letter : (a b : ℕ) (name : List ℕ) → a < b → a ∷ [] ≡ name → name ≡ b ∷ [] → ⊥
other_letter a b name lt p q = let e : a ≡ b = cc (p ∙ q) in omega (arith, lt, e)

others_stay : (h : List ℕ) → ((h ≡ root) ⊎ (h ≡ root) ⊎ (h ≡ the_file) ⊎ ((e : Listed) × Lists (entry_named 97 ∷ []) e × (e.name ≡ 98 ∷ []) × (e.object ≡ h)) → ⊥) → place renamed h ≡ place empty_server h
others_stay [] other = absurd (other (inl refl))
others_stay (zero ∷ []) other = refl
others_stay (zero ∷ c ∷ h) other = refl
others_stay (suc b ∷ h) other = refl

may_rename : Serves (serve empty_server) the_rename was_renamed (serve renamed)
may_rename = done (
  inl (record {
    object = the_file;
    target = entry_named 97 ∷ [];
    moves = within [] [] (entry_named 98 ∷ []) refl
        (record { before = []; after = []; cookie = 1; was = refl; is = refl })
        (absent (none_listed (98 ∷ [])) refl)
        (record { before = []; after = []; cookie = 1; was = refl; is = refl; fresh = none_listed (98 ∷ []) })
        (record {
          dir = directory empty_server;
          held = refl;
          turns = record { has = record { is = refl; there = refl }; new = directory renamed; is = refl; becomes = record { holds = refl; gone = refl; kind = refl; fileid = refl } };
        });
    moved = file empty_server;
    later = Bytes [] [];
    holds = refl;
    turns = record { has = record { is = refl; there = refl }; new = file renamed; is = refl; becomes = record { holds = refl; gone = refl; kind = refl; fileid = refl } };
    replaced = λ h other e listed named object_is. absurd (other_letter 97 98 e.name (omega arith) (only_listed 97 e listed) named);
    only = record { verf = refl; others = others_stay };
  }),
  record { before = tt; after = tt },
  record { before = tt; after = tt },
)

-- ---- the history

abbrev shown : Answer
shown = Done (values.Attrs (file_attr empty_server))

-- the name is looked up, and another client gives the file another one
abbrev until_renamed : List Event → List Event
until_renamed rest =
    Sends 1 (info_call root) ∷ Does 1 (info_call root) info_reply empty_server ∷ Comes 1 info_reply
    ∷ Looks 10 ∷ Begins 1 1 (ops.Stat the_path)
    ∷ Sends 2 the_lookup ∷ Does 2 the_lookup the_found empty_server ∷ Comes 2 the_found
    ∷ Sends 3 get_attr ∷ Does 3 get_attr (got_attr empty_server) empty_server ∷ Comes 3 (got_attr empty_server)
    ∷ Answers 1 1 shown
    ∷ Others the_rename was_renamed renamed ∷ rest

its_attr : (xid : ℕ) → xid < 256 → Talk xid get_attr (got_attr empty_server)
its_attr xid fits = talk_attr xid empty_server (omega (arith, fits)) (omega arith) (omega arith)

renamed_right : (rest : List Event) → AllFit (entries_of (until_renamed rest)) 13 renamed rest → Right empty_server (until_renamed rest)
renamed_right rest fits = record {
  sound = omega arith;
  fits = (
      did 0 (omega arith) refl (talk_info 1 (omega arith)) (may_inform empty_server) (idle empty_server)
      ⍮ came 1 (info_call root) (omega arith) refl (talk_info 1 (omega arith))
      ⍮ did 5 (omega arith) refl (talk_lookup 2 (omega arith)) (may_look_up empty_server refl) (idle empty_server)
      ⍮ came 6 the_lookup (omega arith) refl (talk_lookup 2 (omega arith))
      ⍮ did 8 (omega arith) refl (its_attr 3 (omega arith)) (may_get_attr empty_server) (idle empty_server)
      ⍮ came 9 get_attr (omega arith) refl (its_attr 3 (omega arith))
      ⍮ renames
      ⍮ fits
      );
}
  where
    renames : Changed empty_server the_rename was_renamed renamed
    renames = record { serves = may_rename; moves = record { verf = omega arith; bytes = inl (refl, refl); names = inr (omega arith); sound = λ le. omega arith } }

-- a minute later a stat goes by the old name without a call
abbrev pub stats_by_old_name : List Event
stats_by_old_name = until_renamed (Looks 70010 ∷ Begins 1 2 (ops.Stat the_path) ∷ Answers 1 2 shown ∷ [])

stats_right : Right empty_server stats_by_old_name
stats_right = renamed_right (Looks 70010 ∷ Begins 1 2 (ops.Stat the_path) ∷ Answers 1 2 shown ∷ []) tt

stats_is_lawful : Lawful (made empty_server stats_by_old_name)
stats_is_lawful = lawful empty_server stats_by_old_name stats_right

stats_is_fresh : Fresh (made empty_server stats_by_old_name)
stats_is_fresh = fresh empty_server stats_by_old_name stats_right

stats_is_once : Once (entries_of stats_by_old_name)
stats_is_once = once stats_by_old_name refl refl

-- and so does an open, which asks for the attributes of the file that had the name
abbrev the_open : Op
the_open = ops.OpenFile 1 modes.R the_path

abbrev opening_rest : List Event
opening_rest =
    Looks 70010 ∷ Begins 1 2 the_open
    ∷ Sends 4 get_attr ∷ Does 4 get_attr (got_attr empty_server) renamed ∷ Comes 4 (got_attr empty_server)
    ∷ Answers 1 2 (Done values.Nothing) ∷ []

abbrev pub opens_by_old_name : List Event
opens_by_old_name = until_renamed opening_rest

opens_right : Right empty_server opens_by_old_name
opens_right = renamed_right opening_rest (
    did 15 (omega arith) refl (its_attr 4 (omega arith)) (may_get_attr renamed) (idle renamed)
    ⍮ came 16 get_attr (omega arith) refl (its_attr 4 (omega arith))
    ⍮ tt)

opens_is_lawful : Lawful (made empty_server opens_by_old_name)
opens_is_lawful = lawful empty_server opens_by_old_name opens_right

opens_is_fresh : Fresh (made empty_server opens_by_old_name)
opens_is_fresh = fresh empty_server opens_by_old_name opens_right

opens_is_once : Once (entries_of opens_by_old_name)
opens_is_once = once opens_by_old_name refl refl

-- ---- the laws of attributes and of names refuse them

-- a late reading of the clock
abbrev is_late : Entry → Bool
is_late (entries.Clock ms) = nat_lt 10010 ms
is_late e = false

-- only moments after the last reading are recent
recent_is_late : (n : ℕ) → Recent usual_modes (entries_of stats_by_old_name) 14 n → 13 ≤ n
recent_is_late n (during end none ends moment) = absurd (cc none)
recent_is_late n (kept end some ends soon young) =
    let lt = young.young 13 70010 refl (omega arith) in
    let before = young.before in
    elim (cases_lt young.at 13) [
      | inl early ↦ (let none = outside is_late 0 13 (entries_of stats_by_old_name) refl young.at (entries.Clock young.ms) young.read (lt-ltb 10010 young.ms (omega (arith, lt))) early in absurd (omega (arith, none)))
      | inr le ↦ omega (arith, le, before)
    ]

abbrev is_renamed : State → Bool
is_renamed s = s.letter == 98

abbrev some : Object → Option Object
some o = Some o

old_name_gone : (s : State) (d name object : List ℕ) → is_renamed s ≡ true → d ≡ root → 97 ∷ [] ≡ name → Names (serve s) d name object → ⊥
old_name_gone s d name object now at_root is named =
    let letter = eqb-true s.letter 98 now in
    let there : some (directory s) ≡ some named.dir = subst (λ (h : List ℕ). place s h ≡ Some named.dir) at_root named.is in
    let dir : directory s ≡ named.dir = cc there in
    let all : Entries (entry_named s.letter ∷ []) ≡ Entries named.entries = ap (λ (z : Object). z.holds) dir ∙ named.holds in
    let list : entry_named s.letter ∷ [] ≡ named.entries = cc all in
    let other = only_listed s.letter (record { name = name; object = object; cookie = named.cookie }) (subst (λ (l : List Listed). Lists l (record { name = name; object = object; cookie = named.cookie })) (sym list) named.listed) in
    other_letter 97 98 name (omega arith) is (sym other ∙ ap (λ (n : ℕ). n ∷ []) letter)

no_last : (earlier : List (List ℕ)) (name : List ℕ) → [] ≡ earlier ++ name ∷ [] → ⊥
no_last [] name is = absurd (cc is)
no_last (e ∷ earlier) name is = absurd (cc is)

only_name : (first : List ℕ) (earlier : List (List ℕ)) (name : List ℕ) → first ∷ [] ≡ earlier ++ name ∷ [] → (earlier ≡ []) × (first ≡ name)
only_name first [] name is = (refl, cc is)
only_name first (e ∷ earlier) name is = absurd (no_last earlier name (cc is))

at_root : (t : History) (x : ℕ) (path : List (List ℕ)) (d : List ℕ) → path ≡ [] → Walked usual_modes (Given root) t x path d → d ≡ root
at_root t x path d none (walks.root p object is rooted) = rooted
at_root t x path d none (step p earlier object name at n is walked recent named) = absurd (no_last earlier name (sym none ∙ is))

may_not_stat_by_old_name : AttrAge usual_modes (Given root) (made empty_server stats_by_old_name) → ⊥
may_not_stat_by_old_name ages =
    let had = ages 1 14 15 the_path (file_attr empty_server) (ended stats_by_old_name 1 2 14 15 (ops.Stat the_path) shown refl refl (omega arith) refl) in
    nowhere the_path had.object refl had.walked
  where
    nowhere : (path : List (List ℕ)) (object : List ℕ) → the_path ≡ path → Walked usual_modes (Given root) (made empty_server stats_by_old_name) 14 path object → ⊥
    nowhere path object is (walks.root p o none rooted) = absurd (cc (is ∙ none))
    nowhere path object is (step p earlier o name d n ends walked recent named) =
        let parts = only_name (97 ∷ []) earlier name (is ∙ ends) in
        old_name_gone (state_at empty_server stats_by_old_name n) d name object (each_at is_renamed 13 empty_server stats_by_old_name refl n (recent_is_late n recent)) (at_root (made empty_server stats_by_old_name) 14 earlier d parts.0 walked) parts.1 named

may_not_open_by_old_name : NamesTrue usual_modes (Given root) (made empty_server opens_by_old_name) → ⊥
may_not_open_by_old_name names =
    let found_so = names.opened 1 1 14 18 the_file (record { mode = modes.R; path = the_path; value = values.Nothing; ended = opened; finds = asked last }) in
    let late = found_so.moment.late in
    let parts = only_name (97 ∷ []) found_so.earlier found_so.name found_so.is in
    old_name_gone (state_at empty_server opens_by_old_name found_so.n) found_so.d found_so.name the_file (each_at is_renamed 13 empty_server opens_by_old_name refl found_so.n (omega (arith, late)))
    (at_root (made empty_server opens_by_old_name) 14 found_so.earlier found_so.d parts.0 found_so.walked) parts.1 found_so.named
  where
    opened : Ended (entries_of opens_by_old_name) 1 14 the_open 18 (Done values.Nothing)
    opened = ended opens_by_old_name 1 2 14 18 the_open (Done values.Nothing) refl refl (omega arith) refl

    last : LastReply (entries_of opens_by_old_name) 18 get_attr
    last = last_reply opens_by_old_name 18 17 15 4 get_attr (got_attr empty_server) refl refl refl (omega arith) (omega arith) (omega arith) refl refl (its_attr 4 (omega arith)).call_is
