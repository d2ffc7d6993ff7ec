-- Rows by hand from the rules of nfs(5) and of this crate: what is kept after each call, and what is believed.
use Rattle.std.proofs.Common.{◌≡◌, ℕ, ◌/◌, ◌%◌, suc, zero, List, [], ◌∷◌, length, drop, Option, Some, None, refl}
use Rattle.nfs_types.specs.declared.attr.Attr.{Attr}
use Rattle.nfs_types.specs.declared.time.Time.{Time}
use Rattle.attr_cache.specs.Attrs.{Attrs, usual_lives, nothing_learnt, looked, learnt, forgotten}
use Rattle.attr_cache.specs.declared.kept.KeptAttr.{KeptAttr}

abbrev at_zero : Time
at_zero = record { seconds = 0; nanos = 0 }

abbrev later : Time
later = record { seconds = 0; nanos = 1 }

-- attributes of this kind and length, with all times at 0
abbrev attr : ℕ → ℕ → Attr
attr kind size =
    record {
      kind = kind;
      mode = 420;
      nlink = 1;
      uid = 0;
      gid = 0;
      size = size;
      used = size;
      rdev_major = 0;
      rdev_minor = 0;
      fsid = 1;
      fileid = 1;
      atime = at_zero;
      mtime = at_zero;
      ctime = at_zero;
    }

abbrev file : ℕ → List ℕ
file n = 0 ∷ n ∷ []

-- a file's attributes are learnt, and when the call was sent; or it is forgotten
data Step : Type 0 where
  Learn : ℕ → Attr → ℕ → Step
  Forget : ℕ → Step

abbrev step : Attrs → Step → Attrs
step c (Learn n told at) = learnt (file n) told at c
step c (Forget n) = forgotten (file n) c

abbrev after : Attrs → List Step → Attrs
after c [] = c
after c (s ∷ more) = after (step c s) more

-- number, length, when learnt, lifetime
data Row : Type 0 where
  row : List ℕ → ℕ → ℕ → ℕ → Row

abbrev rows_of : List (List ℕ × KeptAttr) → List Row
rows_of [] = []
rows_of (e ∷ more) = row e.0 e.1.attr.size e.1.sent_at e.1.lifetime ∷ rows_of more

abbrev fresh : Attrs
fresh = nothing_learnt usual_lives

abbrev kept : List Step → List Row
kept steps = rows_of (after fresh steps).entries

abbrev size_of : Option Attr → Option ℕ
size_of None = None
size_of (Some a) = Some a.size

-- the length that is believed of file 1 at a moment
abbrev length_at : ℕ → List Step → Option ℕ
length_at now steps = size_of (looked (file 1) now (after fresh steps))

-- ---- a file lives three seconds, and then six

not_known : length_at 0 [] ≡ None
not_known = refl

believed : length_at 2999 (Learn 1 (attr 1 10) 0 ∷ []) ≡ Some 10
believed = refl

ended : length_at 3000 (Learn 1 (attr 1 10) 0 ∷ []) ≡ None
ended = refl

again : length_at 8999 (Learn 1 (attr 1 10) 0 ∷ Learn 1 (attr 1 10) 3000 ∷ []) ≡ Some 10
again = refl

again_ended : length_at 9000 (Learn 1 (attr 1 10) 0 ∷ Learn 1 (attr 1 10) 3000 ∷ []) ≡ None
again_ended = refl

changed : length_at 11999 (Learn 1 (attr 1 10) 0 ∷ Learn 1 (attr 1 10) 3000 ∷ Learn 1 (attr 1 20) 9000 ∷ []) ≡ Some 20
changed = refl

changed_ended : length_at 12000 (Learn 1 (attr 1 10) 0 ∷ Learn 1 (attr 1 10) 3000 ∷ Learn 1 (attr 1 20) 9000 ∷ []) ≡ None
changed_ended = refl

-- ---- it lives as long as it is told: a second each time, or not at all

abbrev one_second : Attrs
one_second = nothing_learnt (record { reg_min = 1000; reg_max = 1000; dir_min = 1000; dir_max = 1000 })

second : looked (file 1) 1999 (after one_second (Learn 1 (attr 1 10) 0 ∷ Learn 1 (attr 1 10) 1000 ∷ [])) ≡ Some (attr 1 10)
second = refl

second_ended : looked (file 1) 2000 (after one_second (Learn 1 (attr 1 10) 0 ∷ Learn 1 (attr 1 10) 1000 ∷ [])) ≡ None
second_ended = refl

abbrev never : Attrs
never = nothing_learnt (record { reg_min = 0; reg_max = 0; dir_min = 0; dir_max = 0 })

never_before : looked (file 1) 4 (after never (Learn 1 (attr 1 10) 5 ∷ [])) ≡ Some (attr 1 10)
never_before = refl

never_then : looked (file 1) 5 (after never (Learn 1 (attr 1 10) 5 ∷ [])) ≡ None
never_then = refl

-- ---- what stands after each call

two_files : kept (Learn 1 (attr 1 10) 1000 ∷ Learn 2 (attr 2 5) 1500 ∷ []) ≡ row (file 2) 5 1500 30000 ∷ row (file 1) 10 1000 3000 ∷ []
two_files = refl

-- a last moment before the end: the lifetime stays, and the file goes to the front; an earlier call is passed over, whatever it tells
earlier_call : kept (Learn 1 (attr 1 10) 1000 ∷ Learn 2 (attr 2 5) 1500 ∷ Learn 1 (attr 1 10) 3999 ∷ Learn 1 (attr 1 11) 3998 ∷ [])
    ≡ row (file 1) 10 3999 3000 ∷ row (file 2) 5 1500 30000 ∷ []
earlier_call = refl

-- a call of the same moment counts; a lifetime that has ended doubles, a directory's too; a file that isn't known is forgotten in vain
doubled_once : kept (Learn 1 (attr 1 10) 1000 ∷ Learn 2 (attr 2 5) 1500 ∷ Learn 1 (attr 1 12) 3999 ∷ Learn 1 (attr 1 12) 6999 ∷ Learn 2 (attr 2 5) 31500 ∷ Forget 4 ∷ [])
    ≡ row (file 2) 5 31500 60000 ∷ row (file 1) 12 6999 6000 ∷ []
doubled_once = refl

-- a file that was forgotten goes to the front when it is learnt again; kind 5 is a symbolic link
forgotten_file : kept (Learn 1 (attr 1 10) 1000 ∷ Learn 2 (attr 2 5) 1500 ∷ Learn 3 (attr 5 7) 31600 ∷ Forget 1 ∷ Forget 1 ∷ Learn 1 (attr 1 12) 40000 ∷ [])
    ≡ row (file 1) 12 40000 3000 ∷ row (file 3) 7 31600 3000 ∷ row (file 2) 5 1500 30000 ∷ []
forgotten_file = refl

-- a directory that has changed begins again with 30 seconds
directory_changed : kept (Learn 2 (attr 2 5) 1500 ∷ Learn 2 (attr 2 5) 31500 ∷ Learn 2 (attr 2 6) 91500 ∷ []) ≡ row (file 2) 6 91500 30000 ∷ []
directory_changed = refl

-- ---- lifetimes double up to a minute

doubled : kept (Learn 1 (attr 1 10) 0 ∷ Learn 1 (attr 1 10) 3000 ∷ Learn 1 (attr 1 10) 9000 ∷ Learn 1 (attr 1 10) 21000 ∷ Learn 1 (attr 1 10) 45000 ∷ []) ≡ row (file 1) 10 45000 48000 ∷ []
doubled = refl

minute : kept (Learn 1 (attr 1 10) 0 ∷ Learn 1 (attr 1 10) 3000 ∷ Learn 1 (attr 1 10) 9000 ∷ Learn 1 (attr 1 10) 21000 ∷ Learn 1 (attr 1 10) 45000 ∷ Learn 1 (attr 1 10) 93000
    ∷ Learn 1 (attr 1 10) 153000 ∷ Learn 1 (attr 1 10) 154000 ∷ []) ≡ row (file 1) 10 154000 60000 ∷ []
minute = refl

-- ---- the length or a time of change tells that a file has changed, and nothing else does

mtime_changed : kept (Learn 1 (attr 1 10) 0 ∷ Learn 1 (record (attr 1 10) { mtime = later }) 3000 ∷ []) ≡ row (file 1) 10 3000 3000 ∷ []
mtime_changed = refl

ctime_changed : kept (Learn 1 (attr 1 10) 0 ∷ Learn 1 (record (attr 1 10) { ctime = later }) 3000 ∷ []) ≡ row (file 1) 10 3000 3000 ∷ []
ctime_changed = refl

others_changed : kept (Learn 1 (attr 1 10) 0 ∷ Learn 1 (record (attr 1 10) { mode = 0; nlink = 2; atime = later }) 3000 ∷ []) ≡ row (file 1) 10 3000 6000 ∷ []
others_changed = refl

-- the attributes become the new ones also where the file hasn't changed
mode_is_new : looked (file 1) 3000 (after fresh (Learn 1 (attr 1 10) 0 ∷ Learn 1 (record (attr 1 10) { mode = 384 }) 2999 ∷ [])) ≡ Some (record (attr 1 10) { mode = 384 })
mode_is_new = refl

-- ---- the clock may stand at its last number of 64 bits

last_moment : looked (file 1) 18446744073709551615 (after fresh (Learn 1 (attr 1 10) 18446744073709551614 ∷ [])) ≡ Some (attr 1 10)
last_moment = refl

-- ---- of 1,024 files the one that wasn't learnt for the longest time goes

-- so many files, numbered from 0 on, the first one in front
abbrev files : ℕ → List (List ℕ × KeptAttr) → List (List ℕ × KeptAttr)
files zero more = more
files (suc n) more = files n ((n / 256 ∷ n % 256 ∷ 9 ∷ [], record { attr = attr 1 10; sent_at = 0; lifetime = 3000 }) ∷ more)

abbrev full : Attrs
full = record fresh { entries = files 1024 [] }

abbrev first_of : List Row → List Row
first_of [] = []
first_of (r ∷ more) = r ∷ []

new_file : length (learnt (file 1) (attr 1 20) 1 full).entries ≡ 1024
new_file = refl

-- the file of number 1,023 stood last
last_goes : rows_of (drop 1023 (learnt (file 1) (attr 1 20) 1 full).entries) ≡ row (3 ∷ 254 ∷ 9 ∷ []) 10 0 3000 ∷ []
last_goes = refl

new_goes_first : first_of (rows_of (learnt (file 1) (attr 1 20) 1 full).entries) ≡ row (file 1) 20 1 3000 ∷ []
new_goes_first = refl

-- one that is learnt again takes no room, and none goes for it
known_goes_first : first_of (rows_of (learnt (3 ∷ 255 ∷ 9 ∷ []) (attr 1 20) 1 full).entries) ≡ row (3 ∷ 255 ∷ 9 ∷ []) 20 1 3000 ∷ []
known_goes_first = refl

others_stay : rows_of (drop 1023 (learnt (3 ∷ 255 ∷ 9 ∷ []) (attr 1 20) 1 full).entries) ≡ row (3 ∷ 254 ∷ 9 ∷ []) 10 0 3000 ∷ []
others_stay = refl
