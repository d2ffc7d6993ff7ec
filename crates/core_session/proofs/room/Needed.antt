-- Each call that makes room was needed, as it was sent and in the whole history.
use Rattle.core_session.proofs.Prelude.{◌≡◌, ◌≢◌, ◌<◌, ◌≤◌, ◌+◌, ◌⊎◌, inl, inr, ℕ, List, [], ◌∷◌, ◌++◌, length, Bool, true, false, refl, sym, ap, subst, ◌∙◌, arith, Entry, Call, Op, Asks, IsWriter, IsCaused, KeepsTo, SpellsCallBy, UnderWay, Terms, Putting, Writing, Mounted, Machine, Opener, IsAsked, IsNamed, machine_of, Busy, Setup, View, of_writing, in_flight, begins-unbegun, reached-good, Expects, expects-laws, NoCall, IsSession}
use Rattle.claims.specs.CallsAsked.{asked}
use Rattle.world_model.specs.declared.op.Op.TheVariants as ops
use Rattle.claims.specs.Asks.{Placed, TakesRoom, NeedsRoom, write as a_write, fill as a_fill, put as a_put}
use Rattle.file_ops.specs.declared.put_file.Putting.TheVariants as puttings
use Rattle.file_ops.specs.declared.write_file.Writing.TheVariants as writings
use Rattle.file_ops.specs.WriteFile as writes
use Rattle.op_machines.specs.declared.file_machine.FileMachine.TheVariants as machines_of_files
use Rattle.op_machines.specs.declared.machine.Machine.TheVariants as machines
use Rattle.op_machines.specs.declared.opener.Opener.TheVariants as openers
use Rattle.core_answers.proofs.asks.PutAsks as puts
use Rattle.core_session.specs.calls.Made.{IsBeside, makes_room as any_room, removes as any_removal}
use Rattle.core_session.proofs.calls.Causes.{Now, Spelt, under-now, cause, reads-keep}
use Rattle.core_session.proofs.calls.Outgoing.{Outgoing}
use Rattle.core_session.proofs.calls.OwnBytes.{own-bytes}
use Rattle.core_session.proofs.calls.TableHeld.{AllNoted}
use Rattle.core_session.proofs.asked.Passed.{sends-passed}
use Rattle.core_session.proofs.calls.Whole.{session, calls-asked-but}
use Rattle.core_session.proofs.calls.WriteKeeps.{writes-keep}
use Rattle.core_session.specs.room.Needed.{IsLeft, makes_room, removes, IsMadeInNeed, RoomIsNeeded, IsCausedInNeed, SessionsCallsNeeded}
use Rattle.core_session.proofs.room.Entered.{IsPut, Entered, began-early}
use Rattle.core_session.proofs.room.Onward.{Onward, entered-onward, reached-on}
use Rattle.core_session.proofs.room.Rooms.{IsStore, IsNone, IsCrowded, NeedsIf, Stands, Room, reached-room}
use Rattle.core_session.proofs.room.Stages.{Stage, neither, storing, putting, settling, is_room, put_stage, path_stage, stage_of}
use Rattle.core_session.proofs.room.Writers.{Each, Apart, counts, counts-cons, each-map, each-later, apart-later, all-each, different-apart}

-- ---- a write or fill that waits for a call makes room

room-one : (a b : ℕ) (c d : Bool) → storing a c ≡ storing b d → c ≡ d
room-one a b c d e = cc

waits-room : (w : Writing) → 1 ≤ of_writing w → is_room w ≡ true
waits-room writings.Idle some = absurd (omega (arith, some))
waits-room (writings.Room file saving) some = refl

put-not : (p : Putting) (n size : ℕ) (room : Bool) → put_stage p n ≡ storing size room → ⊥
put-not puttings.Idle n size room e = cc
put-not puttings.Opens n size room e = cc
put-not (puttings.Adds file) n size room e = cc
put-not (puttings.Saves saving) n size room e = cc

path-not : (b : Bool) (opener : Opener) (size : ℕ) (room : Bool) → path_stage b opener ≡ storing size room → ⊥
path-not true (openers.Open m) size room e = cc
path-not true (openers.Put m) size room e = put-not m.state (length (writes.text_bytes m.write.text)) size room e
path-not false (openers.Open m) size room e = cc
path-not false (openers.Put m) size room e = cc

neither-not : (size : ℕ) (room : Bool) → neither ≡ storing size room → ⊥
neither-not size room e = cc

store-room : (machine : Machine) (size : ℕ) (room : Bool) → stage_of machine ≡ storing size room → 1 ≤ in_flight machine → room ≡ true
store-room (machines.File (machines_of_files.Write m)) size room e some =
    sym (room-one (length (writes.text_bytes m.text)) size (is_room m.state) room e) ∙ waits-room m.state some
store-room (machines.File (machines_of_files.Put m)) size room e some = absurd (put-not m.state (length (writes.text_bytes m.write.text)) size room e)
store-room (machines.File (machines_of_files.Open m)) size room e some = absurd (neither-not size room e)
store-room (machines.File (machines_of_files.Read m)) size room e some = absurd (neither-not size room e)
store-room (machines.File (machines_of_files.Sync m)) size room e some = absurd (neither-not size room e)
store-room (machines.File (machines_of_files.Close m)) size room e some = absurd (neither-not size room e)
store-room (machines.File (machines_of_files.Truncate m)) size room e some = absurd (neither-not size room e)
store-room (machines.Path m) size room e some = absurd (path-not m.arrived m.opener size room e)
store-room (machines.Name m) size room e some = absurd (neither-not size room e)

none-store : (op : Op) → IsNone op → IsStore op → ⊥
none-store (ops.Write slot offset bytes) n s = n
none-store (ops.Fill slot offset count byte) n s = n
none-store op n s = s

put-store : (op : Op) → IsPut op → IsStore op → ⊥
put-store (ops.Put path offset bytes) p s = s
put-store op p s = p

none-writes : (op : Op) → IsNone op → IsWriter op → ⊥
none-writes op n (a_write slot offset bytes is) = subst IsNone is n
none-writes op n (a_fill slot offset count byte is) = subst IsNone is n
none-writes op n (a_put path offset bytes is) = subst IsNone is n

store-writes : (op : Op) → IsStore op → IsWriter op
store-writes (ops.Write slot offset bytes) s = a_write slot offset bytes refl
store-writes (ops.Fill slot offset count byte) s = a_fill slot offset count byte refl
store-writes op s = absurd s

-- ---- a record that was sent

module _ (m : Mounted) (terms : Terms) (setup : Setup) (h : List Entry) (v : View) (s : IsSession m terms setup h v) (i : ℕ) (bytes : List ℕ)
    (w : Outgoing (machine_of m) (begins-unbegun m) setup h i bytes) (on : Onward (machine_of m) setup w.before w.old h v) where
  room : Room w.before w.old
  room = reached-room m setup w.before w.old w.reached w.found

  stands : Stands room.writers w.x w.op (stage_of w.machine)
  stands = room.stand w.at (record { number = w.waiting.purpose.lane; state = Busy w.machine }) w.busy w.x w.op w.under_way

  under : UnderWay h w.waiting.purpose.lane w.x i w.op
  under = under-now m terms setup h v s i bytes w

  -- what has entered counts
  counted : (o : Placed) → Entered w.before w.old.lanes o → TakesRoom h w.x i o
  counted o e =
      let later = entered-onward (machine_of m) setup w.before w.old h v o on e in
      record {
        began = later.began;
        writes = later.writes;
        before = let early = began-early w.before o e.began in let there = w.there in omega (arith, early, there);
        counts = inr later.unrefused;
      }

  own : IsWriter w.op → TakesRoom h w.x i (w.x, w.op)
  own writes = record { began = (w.waiting.purpose.lane, under.line, under.began); writes = writes; before = under.before; counts = inl refl }

  needs : IsWriter w.op → IsCrowded room.writers w.x w.op → NeedsRoom h w.x i
  needs writes c = record {
    writers = (w.x, w.op) ∷ c.others;
    different = different-apart ((w.x, w.op) ∷ c.others) (c.elsewhere, apart-later c.later c.others (subst Apart c.are room.apart));
    each = all-each (TakesRoom h w.x i) ((w.x, w.op) ∷ c.others) (
      own writes,
      each-map (Entered w.before w.old.lanes) (TakesRoom h w.x i) counted c.others
          (each-later (Entered w.before w.old.lanes) c.later c.others (subst (Each (Entered w.before w.old.lanes)) c.are room.each)),
    );
    full = let all = counts-cons (w.x, w.op) c.others in let more = c.full in omega (arith, all, more);
  }

  -- a write or a fill
  pub store-needs : IsStore w.op → NeedsRoom h w.x i
  store-needs store = by (stage_of w.machine) refl stands
    where
      crowded : (b : Bool) → b ≡ true → NeedsIf b room.writers w.x w.op → IsCrowded room.writers w.x w.op
      crowded b is need = subst (λ (c : Bool). NeedsIf c room.writers w.x w.op) is need

      by : (stage : Stage) → stage_of w.machine ≡ stage → Stands room.writers w.x w.op stage → NeedsRoom h w.x i
      by neither is k = absurd (none-store w.op k.suits store)
      by (storing size b) is k = needs (store-writes w.op store) (crowded b (store-room w.machine size b is w.some) k.needs)
      by (putting size b) is k = absurd (put-store w.op k.suits.0 store)
      by settling is k = absurd (put-store w.op k.suits store)

  abbrev Its : Call
  Its = Spelt m terms setup h v s i bytes w

  -- a put that makes room
  pub put-needs : (path : List (List ℕ)) (offset : ℕ) (text : List ℕ) (named : IsNamed path) → w.op ≡ ops.Put path offset text
      → puts.InRoom m terms w.before w.after w.x i path offset text Its named w.there (puts.rooted-now m setup terms h s.root i bytes (Now m terms setup h v s i bytes w)) w.machine
      → NeedsRoom h w.x i
  put-needs path offset text named is r =
      let stage = ap stage_of r.is ∙ ap (λ (p : Putting). put_stage p (length (writes.text_bytes r.p.write.text))) r.state_is in
      needs (a_put path offset text is) (subst (Stands room.writers w.x w.op) stage stands).needs

  abbrev pub ForNeed : Op → Type 0
  ForNeed op = Asks terms h w.x i op Its ⊎ IsLeft terms h w.x i op Its

  -- of one that writes nothing
  left-none : (op : Op) → IsNone op → Asks terms h w.x i op Its ⊎ IsBeside terms h w.x i op Its → ForNeed op
  left-none op none (inl asks) = inl asks
  left-none op none (inr (any_room writes room_call)) = absurd (none-writes op none writes)
  left-none op none (inr (any_removal slot is removal)) = inr (removes slot is removal)

  left-store : (op : Op) → NeedsRoom h w.x i → Asks terms h w.x i op Its ⊎ IsBeside terms h w.x i op Its → ForNeed op
  left-store op need (inl asks) = inl asks
  left-store op need (inr (any_room writes room_call)) = inr (makes_room writes need room_call)
  left-store op need (inr (any_removal slot is removal)) = inr (removes slot is removal)

  whole-put : (path : List (List ℕ)) (offset : ℕ) (text : List ℕ) → Asks terms (w.before ++ w.after) w.x i (ops.Put path offset text) Its → Asks terms h w.x i (ops.Put path offset text) Its
  whole-put path offset text a = subst (λ (k : List Entry). Asks terms k w.x i (ops.Put path offset text) Its) (sym w.is) a

  put-cause : (path : List (List ℕ)) (offset : ℕ) (text : List ℕ) → w.op ≡ ops.Put path offset text → IsNamed path → ForNeed (ops.Put path offset text)
  put-cause path offset text is named = elim
      (puts.put-asks m terms w.before w.after w.x i path offset text Its named w.there (puts.rooted-now m setup terms h s.root i bytes (Now m terms setup h v s i bytes w)) w.machine
      (((reached-good (machine_of m) (begins-unbegun m) setup Expects expects-laws NoCall (puts.Shelved m) (puts.PutStory m) (puts.put-laws m setup) w.before w.old w.reached).each w.at
      (record { number = w.waiting.purpose.lane; state = Busy w.machine }) w.busy).1 w.x w.op w.under_way path offset text is named) (Now m terms setup h v s i bytes w).expects w.some) [
        | inl asks ↦ inl (whole-put path offset text asks)
        | inr r ↦ inr (makes_room (a_put path offset text refl) (put-needs path offset text named is r) r.room)
      ]

  any-cause : (op : Op) → w.op ≡ op → IsAsked op → Asks terms h w.x i op Its ⊎ IsBeside terms h w.x i op Its
  any-cause op is asked_so = cause m terms setup h v s i bytes w op is asked_so

  pub need-cause : (op : Op) → w.op ≡ op → IsAsked op → ForNeed op
  need-cause (ops.Put path offset text) is a = put-cause path offset text is a.0
  need-cause (ops.Write slot offset text) is a = left-store (ops.Write slot offset text) (store-needs (subst IsStore (sym is) tt)) (any-cause (ops.Write slot offset text) is a)
  need-cause (ops.Fill slot offset count byte) is a =
      left-store (ops.Fill slot offset count byte) (store-needs (subst IsStore (sym is) tt)) (any-cause (ops.Fill slot offset count byte) is a)
  need-cause (ops.OpenFile slot mode path) is a = left-none (ops.OpenFile slot mode path) tt (any-cause (ops.OpenFile slot mode path) is a)
  need-cause (ops.Read slot offset count) is a = left-none (ops.Read slot offset count) tt (any-cause (ops.Read slot offset count) is a)
  need-cause (ops.Sync slot) is a = left-none (ops.Sync slot) tt (any-cause (ops.Sync slot) is a)
  need-cause (ops.Close slot) is a = left-none (ops.Close slot) tt (any-cause (ops.Close slot) is a)
  need-cause (ops.Truncate slot size) is a = left-none (ops.Truncate slot size) tt (any-cause (ops.Truncate slot size) is a)
  need-cause (ops.Stat path) is a = left-none (ops.Stat path) tt (any-cause (ops.Stat path) is a)
  need-cause (ops.Access path bits) is a = left-none (ops.Access path bits) tt (any-cause (ops.Access path bits) is a)
  need-cause (ops.MakeDir path) is a = left-none (ops.MakeDir path) tt (any-cause (ops.MakeDir path) is a)
  need-cause (ops.RemoveDir path) is a = left-none (ops.RemoveDir path) tt (any-cause (ops.RemoveDir path) is a)
  need-cause (ops.Remove path) is a = left-none (ops.Remove path) tt (any-cause (ops.Remove path) is a)
  need-cause (ops.Rename from to) is a = left-none (ops.Rename from to) tt (any-cause (ops.Rename from to) is a)
  need-cause (ops.Link from to) is a = left-none (ops.Link from to) tt (any-cause (ops.Link from to) is a)
  need-cause (ops.SymLink path target) is a = left-none (ops.SymLink path target) tt (any-cause (ops.SymLink path target) is a)
  need-cause (ops.ReadLink path) is a = left-none (ops.ReadLink path) tt (any-cause (ops.ReadLink path) is a)
  need-cause (ops.List path) is a = left-none (ops.List path) tt (any-cause (ops.List path) is a)

  pub its-asked : IsAsked w.op
  its-asked = s.asked w.x w.waiting.purpose.lane under.line w.op under.began

  pub its-cause : ForNeed w.op
  its-cause = need-cause w.op refl its-asked

  pub its-made : SpellsCallBy terms.cred w.xid Its bytes
  its-made = subst (λ c. SpellsCallBy c w.xid Its bytes) s.cred (Now m terms setup h v s i bytes w).made

  pub made-in-need : IsMadeInNeed terms h i bytes
  made-in-need = record {
    xid = w.xid;
    call = Its;
    made = its-made;
    lane = w.waiting.purpose.lane;
    x = w.x;
    op = w.op;
    under_way = under;
    asks = its-cause;
  }

  -- what it keeps to
  its-keeps : AllNoted w.old → KeepsTo terms h w.x i Its
  its-keeps noted = record {
    read = reads-keep m terms setup h v s i bytes w its-asked;
    write = λ f text offset how is. writes-keep m terms setup h v s i bytes w f text offset how is;
    own = λ f text offset how is k b has. own-bytes m terms setup h v s i bytes w on noted f text offset how is k b has;
  }

  pub caused-in-need : AllNoted w.old → IsCaused terms h i bytes ⊎ IsCausedInNeed terms h i bytes
  caused-in-need noted = elim its-cause [
    | inl asks ↦ inl (record { xid = w.xid; call = Its; made = its-made; cause = asked w.waiting.purpose.lane w.x w.op under asks (its-keeps noted) })
    | inr left ↦ inr (record {
      xid = w.xid;
      call = Its;
      made = its-made;
      lane = w.waiting.purpose.lane;
      x = w.x;
      op = w.op;
      under_way = under;
      left = left;
      keeps = its-keeps noted;
    })
  ]

-- ---- all of them

pub room-needed : RoomIsNeeded
room-needed m terms setup h v s i bytes at = elim (reached-on (machine_of m) (begins-unbegun m) setup h v s.goes.reaches i bytes at) [
  | inl none ↦ inl none
  | inr sent ↦ inr (made-in-need m terms setup h v s i bytes sent.out sent.on)
]

pub calls-needed : SessionsCallsNeeded
calls-needed m terms setup before h v g n =
    let but = calls-asked-but m terms setup before h v g n in
    let s = session m terms setup before h v g in
    record {
      caused = λ i bytes at. elim (but.caused i bytes at) [
        | inl caused ↦ inl caused
        | inr beside ↦ elim (sends-passed (machine_of m) (begins-unbegun m) setup h v n i bytes at) [
          | inl none ↦ let u = beside.under_way in absurd (none beside.x beside.lane u.line beside.op u.began u.before)
          | inr sent ↦ caused-in-need m terms setup h v s i bytes sent.out sent.on sent.noted
        ]
      ];
      among = but.among;
      equal = but.equal;
      single = but.single;
      unrepeated = but.unrepeated;
    }
