-- Rows by hand: the status that each call is answered with, in states that were made by calls, and where no number is left
-- for a change, a state that no run reaches in a lifetime (RFC 1813, section 2.6, nfsstat3). Where two lines would refuse a
-- call, the first one does.
use Rattle.std.proofs.Common.{◌≡◌, ◌&&◌, ◌==◌, ◌-◌, ℕ, Bool, true, false, List, [], ◌∷◌, Some, None, refl}
use Rattle.world_model.specs.declared.message.Call.{Call}
use Rattle.world_model.specs.NameService.{keeps_all}
use Rattle.export_fs.specs.declared.node.Holds.{Holds}
use Rattle.export_fs.specs.declared.node.Holds.TheVariants.{File, Directory, Link}
use Rattle.export_fs.specs.declared.node.Node.{Node}
use Rattle.export_fs.specs.Held.{Row}
use Rattle.export_fs.specs.View.{View}
use Rattle.export_fs.specs.Executed.{refusal, executed}
use Rattle.export_fs.proofs.RowCalls.{number, short, long, d, e, f, g, l, x, y, own, parent, t, sized, size, keep, guard, getattr, access, read, write, fsstat, fsinfo, pathconf, commit, lookup, readlink, unchecked, guarded, exclusive, mkdir, symlink, mknod, remove, rmdir, rename, link, readdir, readdirplus, does, place, fresh}

-- the file `f` of the bytes `hello` as number 2, the directory `d` as 3, the empty directory `e` as 4, the link `l` as 5
-- and the file `x` in `d` as 6
abbrev pub sample : View
sample =
    does (place e None (place d None (place f (Some (104 ∷ 101 ∷ 108 ∷ 108 ∷ 111 ∷ [])) fresh)))
    (symlink t (number 1) l ∷ guarded keeps_all (number 3) x ∷ [])

-- the sample, with the empty directory `y` in `d` as number 7 and with number 8, which was removed; the last cookie of the
-- root is 5
abbrev worn : View
worn = does sample (mkdir (number 3) y ∷ mkdir (number 1) g ∷ rmdir (number 1) g ∷ [])

-- an object, with its mode and count of links and when it was made and last changed
abbrev node : ℕ → ℕ → ℕ → ℕ → Bool → Holds → Node
node mode nlink made changed gone holds =
    record { mode = mode; nlink = nlink; uid = 0; gid = 0; atime = made; mtime = changed; ctime = changed; gone = gone; holds = holds }

abbrev row : List ℕ → ℕ → ℕ → Row
row name number cookie = record { name = name; place = number - 1; cookie = cookie }

-- the same by hand
abbrev old : View
old = record {
  nodes =
      node 493 2 1 9 false (Directory (record { parent = 0; last = 5; rows = row f 2 1 ∷ row d 3 2 ∷ row e 4 3 ∷ row l 5 4 ∷ [] })) ∷
      node 420 1 2 2 false (File (record { bytes = 104 ∷ 101 ∷ 108 ∷ 108 ∷ 111 ∷ []; stable = 104 ∷ 101 ∷ 108 ∷ 108 ∷ 111 ∷ [] })) ∷
      node 493 2 3 7 false (Directory (record { parent = 0; last = 2; rows = row x 6 1 ∷ row y 7 2 ∷ [] })) ∷
      node 493 2 4 4 false (Directory (record { parent = 0; last = 0; rows = [] })) ∷
      node 511 1 5 5 false (Link t) ∷
      node 420 1 6 6 false (File (record { bytes = []; stable = [] })) ∷
      node 493 2 7 7 false (Directory (record { parent = 2; last = 0; rows = [] })) ∷
      node 493 2 8 8 true (Directory (record { parent = 0; last = 0; rows = [] })) ∷ [];
  counter = 9;
  reboots = 0;
}

made : worn ≡ old
made = refl

-- no number is left for a change
abbrev full : View
full = record old { counter = 4294967295 }

-- ---- each of the calls is answered with the status; 0 is that it is done

abbrev give : ℕ → View → List Call → Bool
give status view [] = true
give status view (call ∷ more) = (refusal view call == status) && give status view more

badhandle_files : give 10001 old (
    getattr short ∷ getattr long ∷ keep short ∷ size short 16777217 ∷ access short 63 ∷ read short 0 1 ∷ write short 16777217 0 [] ∷
    fsstat short ∷ fsinfo short ∷ pathconf short ∷ commit short 0 0 ∷ []) ≡ true
badhandle_files = refl

badhandle_names : give 10001 old (
    lookup short f ∷ readlink long ∷ exclusive short g ∷ guarded keeps_all short g ∷ mkdir short g ∷ symlink t short g ∷
    mknod short g ∷ remove short f ∷ rmdir short e ∷ rename short f (number 8) g ∷ rename (number 8) f short g ∷
    link short (number 8) g ∷ link (number 8) short g ∷ readdir short ∷ readdirplus short 9 512 ∷ []) ≡ true
badhandle_names = refl

stale_files : give 70 old (
    getattr (number 0) ∷ getattr (number 8) ∷ getattr (number 9) ∷ keep (number 8) ∷ size (number 8) 16777217 ∷
    access (number 8) 63 ∷ read (number 8) 0 1 ∷ write (number 8) 16777217 0 [] ∷ fsstat (number 8) ∷ fsinfo (number 8) ∷
    pathconf (number 8) ∷ commit (number 8) 0 0 ∷ []) ≡ true
stale_files = refl

stale_names : give 70 old (
    lookup (number 8) f ∷ readlink (number 8) ∷ exclusive (number 8) g ∷ guarded keeps_all (number 8) g ∷
    mkdir (number 8) g ∷ symlink t (number 8) g ∷ mknod (number 8) g ∷ remove (number 8) f ∷ rmdir (number 8) e ∷
    rename (number 8) f (number 2) g ∷ rename (number 2) f (number 8) g ∷ link (number 8) (number 2) g ∷
    link (number 2) (number 8) g ∷ readdir (number 8) ∷ readdirplus (number 8) 9 512 ∷ []) ≡ true
stale_names = refl

notdir : give 20 old (
    lookup (number 2) f ∷ exclusive (number 5) g ∷ guarded keeps_all (number 2) g ∷ mkdir (number 5) g ∷
    symlink t (number 2) g ∷ mknod (number 5) g ∷ remove (number 2) f ∷ rmdir (number 5) e ∷ rmdir (number 1) f ∷
    rmdir (number 1) l ∷ rename (number 2) f (number 1) g ∷ rename (number 1) d (number 5) g ∷
    link (number 3) (number 2) g ∷ readdir (number 2) ∷ readdirplus (number 5) 9 512 ∷ []) ≡ true
notdir = refl

isdir : give 21 old (
    read (number 1) 0 1 ∷ write (number 3) 16777217 0 [] ∷ commit (number 3) 0 0 ∷ size (number 3) 16777217 ∷ remove (number 1) d ∷
    link (number 3) (number 1) f ∷ []) ≡ true
isdir = refl

inval : give 22 old (
    read (number 5) 0 1 ∷ write (number 5) 16777217 0 [] ∷ commit (number 5) 0 0 ∷ size (number 5) 16777217 ∷ readlink (number 1) ∷
    readlink (number 2) ∷ rename (number 1) d (number 3) x ∷ rename (number 1) d (number 7) g ∷ []) ≡ true
inval = refl

not_sync : give 10002 old (guard (number 2) 3 0 ∷ guard (number 2) 2 1 ∷ []) ≡ true
not_sync = refl

notsupp : give 10004 old (exclusive (number 1) f ∷ mknod (number 1) f ∷ readdir (number 1) ∷ []) ≡ true
notsupp = refl

noent : give 2 old (
    lookup (number 1) g ∷ lookup (number 1) own ∷ lookup (number 3) f ∷ remove (number 1) g ∷ rmdir (number 1) parent ∷
    rename (number 1) g (number 1) f ∷ []) ≡ true
noent = refl

exist : give 17 old (
    mkdir (number 1) f ∷ symlink t (number 1) d ∷ guarded keeps_all (number 1) f ∷ unchecked keeps_all (number 1) d ∷
    unchecked (sized 16777217) (number 1) l ∷ link (number 2) (number 1) l ∷ rename (number 1) f (number 1) d ∷
    rename (number 1) e (number 1) f ∷ mkdir (number 1) parent ∷ symlink t (number 1) own ∷
    guarded keeps_all (number 1) parent ∷ unchecked keeps_all (number 1) own ∷ link (number 2) (number 1) parent ∷
    rename (number 1) f (number 1) own ∷ []) ≡ true
exist = refl

notempty : give 66 old (rmdir (number 1) d ∷ rename (number 1) e (number 1) d ∷ []) ≡ true
notempty = refl

fbig : give 27 old (
    size (number 2) 16777217 ∷ write (number 2) 16777216 0 (97 ∷ []) ∷ write (number 2) 16777217 0 [] ∷
    unchecked (sized 16777217) (number 1) f ∷ unchecked (sized 16777217) (number 1) g ∷
    guarded (sized 16777217) (number 1) g ∷ []) ≡ true
fbig = refl

bad_cookie : give 10003 old (readdirplus (number 1) 6 512 ∷ readdirplus (number 4) 1 512 ∷ []) ≡ true
bad_cookie = refl

-- what changes an object or a name
nospc : give 28 full (
    write (number 2) 0 0 (97 ∷ []) ∷ write (number 2) 0 0 [] ∷ size (number 2) 0 ∷ keep (number 3) ∷
    unchecked keeps_all (number 1) g ∷ unchecked (sized 1) (number 1) f ∷ guarded keeps_all (number 1) g ∷
    mkdir (number 1) g ∷ symlink t (number 1) g ∷ remove (number 1) f ∷ rmdir (number 1) e ∷
    rename (number 1) f (number 1) g ∷ link (number 2) (number 1) g ∷ []) ≡ true
nospc = refl

-- what changes nothing takes no number
no_change : give 0 full (
    getattr (number 2) ∷ access (number 2) 63 ∷ read (number 2) 0 1 ∷ fsstat (number 2) ∷ fsinfo (number 2) ∷
    pathconf (number 2) ∷ commit (number 2) 0 0 ∷ lookup (number 1) f ∷ readlink (number 5) ∷
    unchecked keeps_all (number 1) f ∷ rename (number 1) d (number 1) d ∷ readdirplus (number 1) 5 512 ∷ []) ≡ true
no_change = refl

-- what just isn't refused
done : give 0 old (
    guard (number 2) 2 0 ∷ keep (number 3) ∷ keep (number 5) ∷ write (number 2) 16777216 0 [] ∷ lookup (number 1) f ∷ []) ≡ true
done = refl

-- one call after another: the state that the calls before it left refuses none
abbrev all_done : View → List Call → Bool
all_done view [] = true
all_done view (call ∷ more) = (refusal view call == 0) && all_done (executed view call).0 more

abbrev moves : List Call
moves =
    guard (number 2) 2 0 ∷ keep (number 3) ∷ keep (number 5) ∷ rename (number 1) e (number 3) e ∷
    rename (number 3) y (number 3) e ∷ rename (number 1) l (number 1) f ∷ rmdir (number 3) e ∷ lookup (number 1) f ∷ []

moves_done : all_done old moves ≡ true
moves_done = refl

-- 2, 4 and 7 lost their last names by them
gone : give 70 (does old moves) (getattr (number 2) ∷ getattr (number 4) ∷ getattr (number 7) ∷ []) ≡ true
gone = refl
