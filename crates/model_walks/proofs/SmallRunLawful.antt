-- The small run is one of an honest server, which stays as it is.
use Rattle.std.proofs.Common.{inl, inr, ◌⊎◌, ◌≡◌, ◌<◌, ◌≤◌, Bool, true, false, bytes_eq, ℕ, zero, suc, List, [], ◌∷◌, length, Contains, Some, None, slice_get, refl, sym, ap, subst, ◌∙◌, arith, if◌then◌else◌}
use Rattle.std.proofs.lemmas.List.Elements.{All-nil, All-cons}
use Rattle.std.proofs.lemmas.Slice.Eq.{bytes_eq-Decides}
use Rattle.nfs_types.specs.declared.attr.Attr.{Attr}
use Rattle.nfs_types.specs.declared.mode.Mode.{Mode}
use Rattle.nfs_types.specs.Stamps.{stamp_of}
use Rattle.world_model.specs.declared.answer.Answer.TheVariants.{Done}
use Rattle.world_model.specs.declared.answer.Value.TheVariants.{Nothing, Attrs, Names}
use Rattle.world_model.specs.declared.entry.Entry.{Entry}
use Rattle.world_model.specs.declared.entry.Entry.TheVariants as entries
use Rattle.world_model.specs.declared.message.Call.{Call}
use Rattle.world_model.specs.declared.message.Reply.{Reply}
use Rattle.world_model.specs.declared.op.Op.TheVariants as ops
use Rattle.world_model.specs.Chains.{list_call, zero_verf}
use Rattle.world_model.specs.Entries.{At}
use Rattle.world_model.specs.Fresh as changes
use Rattle.world_model.specs.Fresh.{Differs, Fresh}
use Rattle.world_model.specs.History.{History}
use Rattle.world_model.specs.Lawful.{Lawful, LawfulAt, replied}
use Rattle.world_model.specs.ListService.{IsPlusRowOf}
use Rattle.world_model.specs.Rising.{NameRow, Rises, RisesAt, Rising, plus_rows, row_of}
use Rattle.world_model.specs.Server as servers
use Rattle.world_model.specs.Server.{Listed, Holds, Bytes, Entries, Object, Server, IsSound, Lists}
use Rattle.world_model.specs.Service.{Serves, done}
use Rattle.world_model.specs.Steps.{Same, Reads, Turns}
use Rattle.model_walks.specs.SmallRun.{the_root, the_file, the_name, the_path, the_lookup, the_found, the_question, the_state, the_row, the_page, the_entry, the_directory, the_object, the_server, Records, the_history}

same_entry : (a b : Entry) → Some a ≡ Some b → a ≡ b
same_entry a b e = cc

same_call : (x y : ℕ) (call other : Call) (reply told : Reply) → Some (entries.Executed x call reply) ≡ Some (entries.Executed y other told) → (call ≡ other) × (reply ≡ told)
same_call x y call other reply told e = (cc, cc)

some_is : (a b : Object) → Some a ≡ Some b → a ≡ b
some_is a b e = cc

list_is : (a b : List Listed) → Entries a ≡ Entries b → a ≡ b
list_is a b e = cc

-- the one entry of a list of one
only_entry : (e : Listed) → Lists (the_entry ∷ []) e → the_entry ≡ e
only_entry e k = by k.0 k.1
  where
    some : Some the_entry ≡ Some e → the_entry ≡ e
    some q = cc

    by : (at : ℕ) → slice_get (the_entry ∷ []) at ≡ Some e → the_entry ≡ e
    by zero q = some q
    by (suc at) q = absurd (cc q)

page_whole : (e : Listed) → Lists (the_entry ∷ []) e → Contains (plus_rows (the_row ∷ [])) (row_of e)
page_whole e k = subst (λ z. Contains (plus_rows (the_row ∷ [])) (row_of z)) (only_entry e k) (0, omega arith, refl)

page_is_right : Rises (the_entry ∷ []) 0 (plus_rows (the_row ∷ [])) true
page_is_right = record {
  above = All-cons (λ (z : NameRow). 0 < z.cookie) (record { name = the_name; cookie = 1 }) [] (omega arith) (All-nil (λ (z : NameRow). 0 < z.cookie));
  rising = λ i j d lt within. absurd (let one : length (plus_rows (the_row ∷ [])) ≡ 1 = refl in omega (arith, lt, within, one));
  whole = λ e listed lt. inl (page_whole e listed);
  last = λ ends e listed lt. page_whole e listed;
}

module _ (mode : Mode) (dir attr : Attr) (r : Records dir attr) where
  abbrev s : Server
  s = the_server dir attr

  abbrev t : History
  t = the_history mode dir attr r

  -- ---- the server

  abbrev IsOne : List ℕ → Object → Type 0
  IsOne h o = ((h ≡ the_root) × (o ≡ the_directory dir)) ⊎ ((h ≡ the_file) × (o ≡ the_object attr))

  one_of : (h : List ℕ) (o : Object) → s.object h ≡ Some o → IsOne h o
  one_of h o is = by (bytes_eq h the_root) (bytes_eq h the_file) refl refl is
    where
      by : (a b : Bool) → bytes_eq h the_root ≡ a → bytes_eq h the_file ≡ b → (if a then Some (the_directory dir) else if b then Some (the_object attr) else None) ≡ Some o → IsOne h o
      by true b p q e = inl ((bytes_eq-Decides h the_root).0 p, sym (some_is (the_directory dir) o e))
      by false true p q e = inr ((bytes_eq-Decides h the_file).0 q, sym (some_is (the_object attr) o e))
      by false false p q e = absurd (cc e)

  sound : dir.kind ≡ 2 → attr.kind ≡ 1 → attr.size ≡ 0 → (h : List ℕ) (o : Object) → s.object h ≡ Some o → IsSound o
  sound dir_kind file_kind size h o is = elim (one_of h o is) [
    | inl k ↦ subst IsSound (sym k.1) (servers.directory (the_entry ∷ []) refl dir_kind (All-cons (λ (z : Listed). 1 ≤ z.cookie) the_entry [] (omega arith) (All-nil (λ (z : Listed). 1 ≤ z.cookie))))
    | inr k ↦ subst IsSound (sym k.1) (servers.file [] [] refl file_kind size (omega arith))
  ]

  stays : Same s s
  stays = record { verf = refl; object = λ h. refl }

  abbrev turns_as : (h : List ℕ) (o : Object) → s.object h ≡ Some o → o.gone ≡ false → Turns s s h o o.holds
  turns_as h o is there = record { has = record { is = is; there = there }; new = o; is = is; becomes = record { holds = refl; gone = refl; kind = refl; fileid = refl } }

  abbrev reads_root : Reads s s the_root
  reads_root = record { object = the_directory dir; turns = turns_as the_root (the_directory dir) refl refl }

  abbrev reads_file : Reads s s the_file
  reads_file = record { object = the_object attr; turns = turns_as the_file (the_object attr) refl refl }

  looks : Serves s the_lookup (the_found dir) s
  looks = done (record {
    named = record { names = record { dir = the_directory dir; entries = the_entry ∷ []; cookie = 1; is = refl; holds = refl; listed = (0, refl) }; there = refl };
    reads = reads_root;
    only = record { verf = refl; others = λ h other. refl };
    object = the_object attr;
    there = refl;
    turns = turns_as the_file (the_object attr) refl refl;
    shows = tt;
    shows_dir = (the_directory dir, refl, refl);
  })

  gets : Serves s the_question (the_state attr) s
  gets = done (record { looks = record { reads = reads_file; only = record { verf = refl; others = λ h other. refl } }; shows = (the_object attr, refl, refl) })

  row_is : IsPlusRowOf s (the_entry ∷ []) the_row
  row_is = record { entry = record { object = the_file; listed = (0, refl) }; handle = tt; attributes = tt }

  lists : Serves s (list_call the_root 0 zero_verf) the_page s
  lists = done (record {
    entries = the_entry ∷ [];
    reads = record { looks = record { reads = reads_root; only = record { verf = refl; others = λ h other. refl } }; holds = refl; shows = tt };
    each = All-cons (IsPlusRowOf s (the_entry ∷ [])) the_row [] row_is (All-nil (IsPlusRowOf s (the_entry ∷ [])));
    some = inr refl;
  })

  page_rises : RisesAt s (list_call the_root 0 zero_verf) the_page
  page_rises o list is holds = subst (λ z. Rises z 0 (plus_rows (the_row ∷ [])) true) (list_is (the_entry ∷ []) list (ap (λ (z : Object). z.holds) (some_is (the_directory dir) o is) ∙ holds)) page_is_right

  -- ---- the entries

  entry_lawful : (n : ℕ) (e : Entry) → At t.entries n e → LawfulAt t n e s s
  entry_lawful zero e at = subst (λ z. LawfulAt t 0 z s s) (same_entry (entries.Clock 5) e at) (stays)
  entry_lawful (suc zero) e at = subst (λ z. LawfulAt t 1 z s s) (same_entry (entries.Began 0 1 (ops.Stat the_path)) e at) (stays)
  entry_lawful (suc (suc zero)) e at = subst (λ z. LawfulAt t 2 z s s) (same_entry (entries.Sent r.lookup) e at) (stays)
  entry_lawful (suc (suc (suc zero))) e at = subst (λ z. LawfulAt t 3 z s s) (same_entry (entries.Executed 0 the_lookup (the_found dir)) e at) ((record { at = 2; bytes = r.lookup; before = omega arith; sent = refl; spells = r.lookup_is.spells }, looks))
  entry_lawful (suc (suc (suc (suc zero)))) e at = subst (λ z. LawfulAt t 4 z s s) (same_entry (entries.Delivered r.looked) e at) (record { same = stays; most = r.looked_is.short; is = replied 3 0 the_lookup (the_found dir) (omega arith) refl r.looked_is.spells })
  entry_lawful (suc (suc (suc (suc (suc zero))))) e at = subst (λ z. LawfulAt t 5 z s s) (same_entry (entries.Sent r.question) e at) (stays)
  entry_lawful (suc (suc (suc (suc (suc (suc zero)))))) e at = subst (λ z. LawfulAt t 6 z s s) (same_entry (entries.Executed 1 the_question (the_state attr)) e at) ((record { at = 5; bytes = r.question; before = omega arith; sent = refl; spells = r.question_is.spells }, gets))
  entry_lawful (suc (suc (suc (suc (suc (suc (suc zero))))))) e at = subst (λ z. LawfulAt t 7 z s s) (same_entry (entries.Delivered r.state) e at) (record { same = stays; most = r.state_is.short; is = replied 6 1 the_question (the_state attr) (omega arith) refl r.state_is.spells })
  entry_lawful (suc (suc (suc (suc (suc (suc (suc (suc zero)))))))) e at = subst (λ z. LawfulAt t 8 z s s) (same_entry (entries.Answered 0 1 (Done (Attrs attr))) e at) (stays)
  entry_lawful (suc (suc (suc (suc (suc (suc (suc (suc (suc zero))))))))) e at = subst (λ z. LawfulAt t 9 z s s) (same_entry (entries.Clock 6) e at) (stays)
  entry_lawful (suc (suc (suc (suc (suc (suc (suc (suc (suc (suc zero)))))))))) e at = subst (λ z. LawfulAt t 10 z s s) (same_entry (entries.Began 0 2 (ops.OpenFile 0 mode the_path)) e at) (stays)
  entry_lawful (suc (suc (suc (suc (suc (suc (suc (suc (suc (suc (suc zero))))))))))) e at = subst (λ z. LawfulAt t 11 z s s) (same_entry (entries.Sent r.again) e at) (stays)
  entry_lawful (suc (suc (suc (suc (suc (suc (suc (suc (suc (suc (suc (suc zero)))))))))))) e at = subst (λ z. LawfulAt t 12 z s s) (same_entry (entries.Executed 2 the_lookup (the_found dir)) e at) ((record { at = 11; bytes = r.again; before = omega arith; sent = refl; spells = r.again_is.spells }, looks))
  entry_lawful (suc (suc (suc (suc (suc (suc (suc (suc (suc (suc (suc (suc (suc zero))))))))))))) e at = subst (λ z. LawfulAt t 13 z s s) (same_entry (entries.Delivered r.found_again) e at) (record { same = stays; most = r.found_again_is.short; is = replied 12 2 the_lookup (the_found dir) (omega arith) refl r.found_again_is.spells })
  entry_lawful (suc (suc (suc (suc (suc (suc (suc (suc (suc (suc (suc (suc (suc (suc zero)))))))))))))) e at = subst (λ z. LawfulAt t 14 z s s) (same_entry (entries.Answered 0 2 (Done Nothing)) e at) (stays)
  entry_lawful (suc (suc (suc (suc (suc (suc (suc (suc (suc (suc (suc (suc (suc (suc (suc zero))))))))))))))) e at = subst (λ z. LawfulAt t 15 z s s) (same_entry (entries.Clock 7) e at) (stays)
  entry_lawful (suc (suc (suc (suc (suc (suc (suc (suc (suc (suc (suc (suc (suc (suc (suc (suc zero)))))))))))))))) e at = subst (λ z. LawfulAt t 16 z s s) (same_entry (entries.Began 0 3 (ops.Stat the_path)) e at) (stays)
  entry_lawful (suc (suc (suc (suc (suc (suc (suc (suc (suc (suc (suc (suc (suc (suc (suc (suc (suc zero))))))))))))))))) e at = subst (λ z. LawfulAt t 17 z s s) (same_entry (entries.Answered 0 3 (Done (Attrs attr))) e at) (stays)
  entry_lawful (suc (suc (suc (suc (suc (suc (suc (suc (suc (suc (suc (suc (suc (suc (suc (suc (suc (suc zero)))))))))))))))))) e at = subst (λ z. LawfulAt t 18 z s s) (same_entry (entries.Clock 8) e at) (stays)
  entry_lawful (suc (suc (suc (suc (suc (suc (suc (suc (suc (suc (suc (suc (suc (suc (suc (suc (suc (suc (suc zero))))))))))))))))))) e at = subst (λ z. LawfulAt t 19 z s s) (same_entry (entries.Began 0 4 (ops.List [])) e at) (stays)
  entry_lawful (suc (suc (suc (suc (suc (suc (suc (suc (suc (suc (suc (suc (suc (suc (suc (suc (suc (suc (suc (suc zero)))))))))))))))))))) e at = subst (λ z. LawfulAt t 20 z s s) (same_entry (entries.Sent r.list) e at) (stays)
  entry_lawful (suc (suc (suc (suc (suc (suc (suc (suc (suc (suc (suc (suc (suc (suc (suc (suc (suc (suc (suc (suc (suc zero))))))))))))))))))))) e at = subst (λ z. LawfulAt t 21 z s s) (same_entry (entries.Executed 3 (list_call the_root 0 zero_verf) the_page) e at) ((record { at = 20; bytes = r.list; before = omega arith; sent = refl; spells = r.list_is.spells }, lists))
  entry_lawful (suc (suc (suc (suc (suc (suc (suc (suc (suc (suc (suc (suc (suc (suc (suc (suc (suc (suc (suc (suc (suc (suc zero)))))))))))))))))))))) e at = subst (λ z. LawfulAt t 22 z s s) (same_entry (entries.Delivered r.page) e at) (record { same = stays; most = r.page_is.short; is = replied 21 3 (list_call the_root 0 zero_verf) the_page (omega arith) refl r.page_is.spells })
  entry_lawful (suc (suc (suc (suc (suc (suc (suc (suc (suc (suc (suc (suc (suc (suc (suc (suc (suc (suc (suc (suc (suc (suc (suc zero))))))))))))))))))))))) e at = subst (λ z. LawfulAt t 23 z s s) (same_entry (entries.Answered 0 4 (Done (Names (the_name ∷ [])))) e at) (stays)
  entry_lawful (suc (suc (suc (suc (suc (suc (suc (suc (suc (suc (suc (suc (suc (suc (suc (suc (suc (suc (suc (suc (suc (suc (suc (suc x)))))))))))))))))))))))) e at = absurd (cc at)

  pages_rise : (n x : ℕ) (call : Call) (reply : Reply) → At t.entries n (entries.Executed x call reply) → RisesAt s call reply
  pages_rise zero x call reply at = absurd (cc at)
  pages_rise (suc zero) x call reply at = absurd (cc at)
  pages_rise (suc (suc zero)) x call reply at = absurd (cc at)
  pages_rise (suc (suc (suc zero))) x call reply at = let q = same_call 0 x the_lookup call (the_found dir) reply at in subst (λ z. RisesAt s z reply) q.0 (subst (λ z. RisesAt s the_lookup z) q.1 tt)
  pages_rise (suc (suc (suc (suc zero)))) x call reply at = absurd (cc at)
  pages_rise (suc (suc (suc (suc (suc zero))))) x call reply at = absurd (cc at)
  pages_rise (suc (suc (suc (suc (suc (suc zero)))))) x call reply at = let q = same_call 1 x the_question call (the_state attr) reply at in subst (λ z. RisesAt s z reply) q.0 (subst (λ z. RisesAt s the_question z) q.1 tt)
  pages_rise (suc (suc (suc (suc (suc (suc (suc zero))))))) x call reply at = absurd (cc at)
  pages_rise (suc (suc (suc (suc (suc (suc (suc (suc zero)))))))) x call reply at = absurd (cc at)
  pages_rise (suc (suc (suc (suc (suc (suc (suc (suc (suc zero))))))))) x call reply at = absurd (cc at)
  pages_rise (suc (suc (suc (suc (suc (suc (suc (suc (suc (suc zero)))))))))) x call reply at = absurd (cc at)
  pages_rise (suc (suc (suc (suc (suc (suc (suc (suc (suc (suc (suc zero))))))))))) x call reply at = absurd (cc at)
  pages_rise (suc (suc (suc (suc (suc (suc (suc (suc (suc (suc (suc (suc zero)))))))))))) x call reply at = let q = same_call 2 x the_lookup call (the_found dir) reply at in subst (λ z. RisesAt s z reply) q.0 (subst (λ z. RisesAt s the_lookup z) q.1 tt)
  pages_rise (suc (suc (suc (suc (suc (suc (suc (suc (suc (suc (suc (suc (suc zero))))))))))))) x call reply at = absurd (cc at)
  pages_rise (suc (suc (suc (suc (suc (suc (suc (suc (suc (suc (suc (suc (suc (suc zero)))))))))))))) x call reply at = absurd (cc at)
  pages_rise (suc (suc (suc (suc (suc (suc (suc (suc (suc (suc (suc (suc (suc (suc (suc zero))))))))))))))) x call reply at = absurd (cc at)
  pages_rise (suc (suc (suc (suc (suc (suc (suc (suc (suc (suc (suc (suc (suc (suc (suc (suc zero)))))))))))))))) x call reply at = absurd (cc at)
  pages_rise (suc (suc (suc (suc (suc (suc (suc (suc (suc (suc (suc (suc (suc (suc (suc (suc (suc zero))))))))))))))))) x call reply at = absurd (cc at)
  pages_rise (suc (suc (suc (suc (suc (suc (suc (suc (suc (suc (suc (suc (suc (suc (suc (suc (suc (suc zero)))))))))))))))))) x call reply at = absurd (cc at)
  pages_rise (suc (suc (suc (suc (suc (suc (suc (suc (suc (suc (suc (suc (suc (suc (suc (suc (suc (suc (suc zero))))))))))))))))))) x call reply at = absurd (cc at)
  pages_rise (suc (suc (suc (suc (suc (suc (suc (suc (suc (suc (suc (suc (suc (suc (suc (suc (suc (suc (suc (suc zero)))))))))))))))))))) x call reply at = absurd (cc at)
  pages_rise (suc (suc (suc (suc (suc (suc (suc (suc (suc (suc (suc (suc (suc (suc (suc (suc (suc (suc (suc (suc (suc zero))))))))))))))))))))) x call reply at = let q = same_call 3 x (list_call the_root 0 zero_verf) call the_page reply at in subst (λ z. RisesAt s z reply) q.0 (subst (λ z. RisesAt s (list_call the_root 0 zero_verf) z) q.1 page_rises)
  pages_rise (suc (suc (suc (suc (suc (suc (suc (suc (suc (suc (suc (suc (suc (suc (suc (suc (suc (suc (suc (suc (suc (suc zero)))))))))))))))))))))) x call reply at = absurd (cc at)
  pages_rise (suc (suc (suc (suc (suc (suc (suc (suc (suc (suc (suc (suc (suc (suc (suc (suc (suc (suc (suc (suc (suc (suc (suc zero))))))))))))))))))))))) x call reply at = absurd (cc at)
  pages_rise (suc (suc (suc (suc (suc (suc (suc (suc (suc (suc (suc (suc (suc (suc (suc (suc (suc (suc (suc (suc (suc (suc (suc (suc x)))))))))))))))))))))))) y call reply at = absurd (cc at)

  pub is_lawful : dir.kind ≡ 2 → attr.kind ≡ 1 → attr.size ≡ 0 → Lawful t
  is_lawful dir_kind file_kind size = record { servers = λ n le h o is. sound dir_kind file_kind size h o is; entries = entry_lawful }

  -- nothing changes
  unchanged : (f : List ℕ) (old new : Object) → s.object f ≡ Some old → s.object f ≡ Some new → Differs old new → ⊥
  unchanged f old new a b d = by (some_is old new (sym a ∙ b)) d
    where
      bytes_are : (p q u v : List ℕ) → Bytes p q ≡ Bytes u v → p ≡ u
      bytes_are p q u v e = cc

      by : old ≡ new → Differs old new → ⊥
      by same (changes.bytes now stable later steady x y differ) = differ (bytes_are now stable later steady (sym x ∙ ap (λ (z : Object). z.holds) same ∙ y))
      by same (changes.list before after x y differ) = differ (list_is before after (sym x ∙ ap (λ (z : Object). z.holds) same ∙ y))
      by same (changes.file_stamp now stable x differ) = differ (ap (λ (z : Object). stamp_of z.attr) same)
      by same (changes.list_stamp list x differ) = differ (ap (λ (z : Object). stamp_of z.attr) same)

  pub is_fresh : Fresh t
  is_fresh n lt f old new a b d m o le is = absurd (unchanged f old new a b d)

  pub is_rising : Rising t
  is_rising = record {
    pages = pages_rise;
    enters = λ n lt d old new before after e is holds there has listed none ne m earlier list f le x y z.
        let same : before ≡ after = list_is before after (sym holds ∙ ap (λ (q : Object). q.holds) (some_is old new (sym is ∙ there)) ∙ has) in
        absurd (none (subst (λ q. Lists q e) (sym same) listed));
  }
