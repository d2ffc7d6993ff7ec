-- A lane's whole step: its machine's, and that at a call which can't be made.
use Rattle.core_counts.proofs.Prelude.{Bool, true, false, arith, ◌≡◌, ◌≢◌, ◌≤◌, ◌⊎◌, inl, inr, ℕ, List, Option, Some, None, refl, sym, subst, Answer, Fault, Value, Pending, of_file, LaneFile, Turn, Step, Saving, PutFile, Putting, Writing, FileMachine, Machine, Opener, file_of, State, Busy, Over, IsRefused, SitsWith, Free, JobHas, job_save, job_kind, Job, Owner, Content, SaveSo, own_save, Tale, told}
use Rattle.core_session.proofs.syncs.AllJobs.{PathHas, JobGood, JobBad, JobFin}
use Rattle.core_session.proofs.syncs.Fates.{file_kind, job-says, Part, none, room, own, job-part, good-write, good-save, good-path, good-any, bad-write, bad-any, WritePart, before, in_room, write-part}
use Rattle.core_session.proofs.syncs.Jobs.{ended, RoomHas, PutHas, FileHas}
use Rattle.core_session.proofs.syncs.Levels.{Before, BesideSo}
use Rattle.core_session.proofs.syncs.PutGoes.{put_own, file_own, path_own, own-has}
use Rattle.world_model.specs.declared.answer.Answer.TheVariants as answers
use Rattle.client_shelf.specs.declared.step.Step.TheVariants as nexts
use Rattle.file_ops.specs.declared.put_file.Putting.TheVariants as putting
use Rattle.file_ops.specs.declared.write_file.Writing.TheVariants as writing
use Rattle.file_ops.specs.WriteFile as writes
use Rattle.op_machines.specs.declared.file_machine.FileMachine.TheVariants as files
use Rattle.op_machines.specs.declared.machine.Machine.TheVariants as machines
use Rattle.step_saves.specs.Saves.{IsClearUpTo}
use Rattle.core_session.proofs.syncs.Seen.{Came, bare, saving}
use Rattle.core_counts.proofs.thrift.short.EvWorking.{job}

-- a put before its own save
module _ (j : Job) (q : ℕ) (b : Pending) (o : List LaneFile) where
  room-part : (A : List ℕ → ℕ → List ℕ → Type 0) (offset : ℕ) (bytes : List ℕ) (w : Writing) → RoomHas j.P j.K A offset bytes w q b o → WritePart j q b o
  room-part A offset bytes writing.Idle h = before h
  room-part A offset bytes (writing.Room file s) h = in_room s h.0

  put-part : (m : PutFile) (at : Putting) → put_own at ≡ None → PutHas j.P j.K j.KA j.A m at q b o → WritePart j q b o
  put-part m putting.Idle none_ h = before h
  put-part m putting.Opens none_ h = before h
  put-part m (putting.Adds file) none_ h = room-part (λ g k bs. j.A g k bs × (g ≡ file)) m.write.offset (writes.made_bytes m.write.text) m.write.state h
  put-part m (putting.Saves z) none_ h = absurd (let no_way : Some z ≡ None = none_ in cc)

  file-part : (m : FileMachine) → file_kind m ≡ 3 → file_own m ≡ None → FileHas j m q b o → WritePart j q b o
  file-part (files.Open m) is none_ h = absurd (omega (arith, is))
  file-part (files.Read m) is none_ h = absurd (omega (arith, is))
  file-part (files.Write m) is none_ h = absurd (omega (arith, is))
  file-part (files.Sync m) is none_ h = absurd (omega (arith, is))
  file-part (files.Close m) is none_ h = absurd (omega (arith, is))
  file-part (files.Truncate m) is none_ h = absurd (omega (arith, is))
  file-part (files.Put m) is none_ h = put-part m m.state none_ h

  path-part : (there : Bool) (m : Opener) → file_kind (file_of m) ≡ 3 → path_own there m ≡ None → PathHas j there m q b o → WritePart j q b o
  path-part true m is none_ h = file-part (file_of m) is none_ h
  path-part false m is none_ h = before h

  early-part : (m : Machine) → job_kind m ≡ 3 → own_save m ≡ None → JobHas j m q b o → WritePart j q b o
  early-part (machines.File m) is none_ h = file-part m is none_ h
  early-part (machines.Path m) is none_ h = path-part m.arrived m.opener is none_ h
  early-part (machines.Name m) is none_ h = absurd (omega (arith, is))

-- how the steps of a lane's operation are seen
pub record Ways (f : List ℕ) (wsize : ℕ) (turn : Turn) (C D E : ℕ → Pending → Type 0) (t : Tale) : Type 0 where
  pub c : Content wsize turn C
  pub d : Content wsize turn D
  pub e : Content wsize turn E
  pub mark : (q : ℕ) (b : Pending) → D q b → t.T q
  pub apart_ends : (file : List ℕ) → f ≢ file → t.B file → t.X
  pub settles : (upto q : ℕ) (b : Pending) → t.T upto → IsClearUpTo upto (of_file f b) → D q b → t.X
  pub enough : (q : ℕ) (b : Pending) → C q b → E q b
  pub less : (q : ℕ) (b : Pending) → D q b → E q b

module _ (f : List ℕ) (wsize : ℕ) (some : 1 ≤ wsize) (number : ℕ) (least : 1 ≤ number) (most : number ≤ 16) (base : ℕ → Option (List ℕ)) (owner : Option (Owner f number base))
    (C D E : ℕ → Pending → Type 0) (t : Tale) where
  abbrev pub job-in : (turn : Turn) → Ways f wsize turn C D E t → Job
  job-in turn w = job f wsize some turn number least most base owner C D E w.c w.d w.e t.T t.X t.B w.mark w.apart_ends w.settles t.A t.Cut

  -- what a lane's state shows
  pub record Going (m : Machine) (q : ℕ) (b : Pending) (o : List LaneFile) : Type 0 where
    pub came : Came f number base owner q b o (Busy m)
    pub content : C q b ⊎ D q b
    pub plain : job_kind m ≡ 1 → C q b
    pub early : job_kind m ≡ 3 → own_save m ≡ None → C q b
    pub own : (z : Saving) → own_save m ≡ Some z → D q b
    pub tale : JobHas (told f (Unit {0}) t) m q b o

  pub record Over_ (answer : Answer) (kind q : ℕ) (b : Pending) (o : List LaneFile) : Type 0 where
    pub beside : BesideSo f number base owner q b o
    pub content : E q b
    pub wrote : kind ≡ 1 → (value : Value) → answer ≡ answers.Done value → D q b
    pub unwritten : kind ≡ 1 → (fault : Fault) → answer ≡ answers.Refused fault → C q b
    pub saved : (kind ≡ 2) ⊎ (kind ≡ 5) → (value : Value) → answer ≡ answers.Done value → D q b × t.X
    pub put : kind ≡ 3 → (value : Value) → answer ≡ answers.Done value → D q b × t.X

  abbrev pub Shown : ℕ → State → ℕ → Pending → List LaneFile → Type 0
  Shown kind (Busy m) q b o = (job_kind m ≡ kind) × Going m q b o
  Shown kind (Over answer) q b o = Over_ answer kind q b o

  module _ (turn : Turn) (w : Ways f wsize turn C D E t) where
    abbrev own-job : Job
    own-job = job-in turn w

    -- as a step begins
    pub enters : (Whole : Type 0) (m : Machine) (q : ℕ) (b : Pending) (o : List LaneFile) → (Whole → C q b → D q b) → C q b → Free turn.xid b → (seat : Option (List ℕ)) → SitsWith number base seat o
        → (job_save m ≡ None → BesideSo f number base owner q b o) → ((s : Saving) → job_save m ≡ Some s → SaveSo f number base owner s q b o)
        → ((s : Saving) → job_save m ≡ Some s → SitsWith number base (Some s.file) o) → JobHas (told f Whole t) m q b o → JobHas own-job m q b o
    enters Whole m q b o whole c free seat sits beside save at h = job-says (told f Whole t) own-job q b o q b o m (record {
      p = λ is p. record { content = c; free = free; other = beside is; seat = record { seat = seat; sits = sits } };
      pa = λ is p. record { content = whole p c; free = free; other = beside is; seat = record { seat = seat; sits = sits } };
      room = λ s is k. record {
        ends = record { content = c; save = save s is; sits = at s is; of = tt; to = λ same. tt };
        free = free;
      };
      own = λ s is k. record {
        ends = record { content = whole k.0 c; save = save s is; sits = at s is; of = k.1; to = k.2 };
        free = free;
      };
      x = λ x. x;
      a = λ file offset bytes a. a;
      of = λ file of. of;
      cut = λ file size upto c. c;
    }) h

    -- as it ends
    pub goes-on : (m : Machine) (q : ℕ) (b : Pending) (o : List LaneFile) → JobHas (ended own-job) m q b o → Going m q b o
    goes-on m q b o h = record {
      came = came (job-part (ended own-job) q b o m h);
      content = content (job-part (ended own-job) q b o m h);
      plain = λ is. plainly (write-part (ended own-job) m q b o is h);
      early = λ is none_. plainly (early-part (ended own-job) q b o m is none_ h);
      own = λ z is. (own-has (ended own-job) m z is q b o h).content;
      tale = job-says (ended own-job) (told f (Unit {0}) t) q b o q b o m (record {
        p = λ is p. tt;
        pa = λ is p. tt;
        room = λ s is k. tt;
        own = λ s is k. (tt, k.of, k.to);
        x = λ x. x;
        a = λ file offset bytes a. a;
        of = λ file of. of;
        cut = λ file size upto c. c;
      }) h;
    }
      where
        busy-save : (a b : Machine) → Busy a ≡ Busy b → a ≡ b
        busy-save a b e = cc

        bare-so : job_save m ≡ None → BesideSo f number base owner q b o → Came f number base owner q b o (Busy m)
        bare-so is beside = bare (λ n same. subst (λ (z : Machine). job_save z ≡ None) (busy-save m n same) is) beside

        came : Part (ended own-job) (job_save m) q b o → Came f number base owner q b o (Busy m)
        came (none is (inl p)) = bare-so is p.other
        came (none is (inr p)) = bare-so is p.other
        came (room s is k) = saving m s refl is k.save
        came (own s is k) = saving m s refl is k.save

        plainly : WritePart (ended own-job) q b o → C q b
        plainly (before p) = p.content
        plainly (in_room s k) = k.content

        content : Part (ended own-job) (job_save m) q b o → C q b ⊎ D q b
        content (none is (inl p)) = inl p.content
        content (none is (inr p)) = inr p.content
        content (room s is k) = inl k.content
        content (own s is k) = inr k.content

    refused-shown : (fault : Fault) (m : Machine) (q : ℕ) (b : Pending) (o : List LaneFile) → JobBad own-job m q b o → Over_ (answers.Refused fault) (job_kind m) q b o
    refused-shown fault m q b o g =
        let p : Before f wsize some turn number least most base owner E w.e q b o = bad-any own-job m q b o
        (λ p. record { content = w.enough q b p.content; free = p.free; other = p.other; seat = record { seat = p.seat.seat; sits = p.seat.sits } }) g in
        record {
          beside = p.other;
          content = p.content;
          wrote = λ is value no_way. absurd (cc);
          unwritten = λ is other same. (bad-write own-job m q b o is g).content;
          saved = λ is value no_way. absurd (cc);
          put = λ is value no_way. absurd (cc);
        }

    good-shown : (value : Value) (m : Machine) (q : ℕ) (b : Pending) (o : List LaneFile) → JobGood own-job m q b o → Over_ (answers.Done value) (job_kind m) q b o
    good-shown value m q b o g =
        let p : Before f wsize some turn number least most base owner E w.e q b o = good-any own-job m q b o
        (λ p. record { content = w.enough q b p.content; free = p.free; other = p.other; seat = record { seat = p.seat.seat; sits = p.seat.sits } })
        (λ p. record { content = w.less q b p.content; free = p.free; other = p.other; seat = record { seat = p.seat.seat; sits = p.seat.sits } }) g in
        record {
          beside = p.other;
          content = p.content;
          wrote = λ is v same. (good-write own-job m q b o is g).content;
          unwritten = λ is fault no_way. absurd (cc);
          saved = λ is v same. (let l = good-save own-job m q b o is g in (l.0.content, l.1));
          put = λ is v same. (let l = good-path own-job m q b o is g in (l.0.content, l.1));
        }

    -- where it waits or has its answer
    pub shown : (next : Step) (m : Machine) (q : ℕ) (b : Pending) (o : List LaneFile) (state : State) → JobFin own-job next m q b o → IsRefused m next state → Shown (job_kind m) state q b o
    shown (nexts.Send call) m q b o state h is = absurd is
    shown nexts.Wait m q b o state h is = subst (λ (s : State). Shown (job_kind m) s q b o) (sym is) (refl, goes-on m q b o h)
    shown (nexts.Done (answers.Done value)) m q b o state h is = subst (λ (s : State). Shown (job_kind m) s q b o) (sym is) (good-shown value m q b o h)
    shown (nexts.Done (answers.Refused fault)) m q b o state h is = subst (λ (s : State). Shown (job_kind m) s q b o) (sym is) (refused-shown fault m q b o h)

  -- one step after the other, with another turn
  pub again : (turn other : Turn) (w : Ways f wsize turn C D E t) (u : Ways f wsize other C D E t) (m : Machine) (q : ℕ) (b : Pending) (o : List LaneFile) → Free other.xid b
      → JobHas (ended (job-in turn w)) m q b o → JobHas (job-in other u) m q b o
  again turn other w u m q b o free h = job-says (ended (job-in turn w)) (job-in other u) q b o q b o m (record {
    p = λ is p. record { content = p.content; free = free; other = p.other; seat = record { seat = p.seat.seat; sits = p.seat.sits } };
    pa = λ is p. record { content = p.content; free = free; other = p.other; seat = record { seat = p.seat.seat; sits = p.seat.sits } };
    room = λ s is k. record { ends = record { content = k.content; save = k.save; sits = k.sits; of = k.of; to = k.to }; free = free };
    own = λ s is k. record { ends = record { content = k.content; save = k.save; sits = k.sits; of = k.of; to = k.to }; free = free };
    x = λ x. x;
    a = λ file offset bytes a. a;
    of = λ file of. of;
    cut = λ file size upto c. c;
  }) h
