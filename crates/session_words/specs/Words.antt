-- Which words are a command line, and the settings that they give. `clap` says which words it takes and what text they
-- give each argument; the rest is a table with a row for each argument.
use Rattle.std.specs.Prelude.{◌≡◌, ◌≤◌, ◌*◌, ◌⊎◌, ◌↔◌, IsTrue, ℕ, Bool, true, false, List, [], codes, length, Option, Some, None, unwrap_or, Ok, MatchOption}
use Rattle.std.specs.Str.Parse.{IsNumeral, digits_value}
use Rattle.std.specs.Str.{IsUtf8}
use Rattle.hex.specs.Hex.{decode_of}
use Rattle.clap.specs.Words.{Row, Text, fault_of, first_of, matches_of, found_of, rows_of}
use Rattle.clap.specs.declared.parser.matches.ArgMatches.{ArgMatches}
use Rattle.attr_cache.specs.Attrs.{usual_lives}
use Rattle.attr_cache.specs.declared.lives.Lives.{Lives}
use Rattle.rpc_message.specs.declared.cred.Cred.{Cred}
use Rattle.rpc_message.specs.declared.cred.Cred.TheVariants as creds
use Rattle.session_words.specs.declared.settings.Export.{Export}
use Rattle.session_words.specs.declared.settings.Export.TheVariants as exports
use Rattle.session_words.specs.declared.settings.Settings.{Settings}
use Rattle.session_words.specs.Command.{client_app}

-- what is found is such, and if none is found nothing is
abbrev pub FindsOne : {A : Type 0} → (A → Type 0) → Option A → Type 0
FindsOne {A = A} Is found = MatchOption found ((x : A) → ¬ Is x) Is

-- one decimal digit or more, leading zeros allowed, and the number that they write
pub record SpellsNumber (number : ℕ) (digits : Text) : Type 0 where
  pub numeral : IsNumeral 10 digits
  pub value : number ≡ digits_value 10 digits

-- digits that write a number of the range
pub record IsNumberIn (low high : ℕ) (digits : Text) (number : ℕ) : Type 0 where
  pub spelled : SpellsNumber number digits
  pub least : low ≤ number
  pub most : number ≤ high

-- a number of the range if a text is given, and else the number without it
abbrev pub IsNumberOr : ℕ → ℕ → ℕ → Option Text → ℕ → Type 0
IsNumberOr without low high None number = number ≡ without
IsNumberOr without low high (Some digits) number = IsNumberIn low high digits number

-- a port is 1 to 65,535
abbrev pub IsPort : ℕ → Option Text → ℕ → Type 0
IsPort without = IsNumberOr without 1 65535

-- a user or group is 0 to 4,294,967,295, and 65,534 if none is given
abbrev pub IsId : Option Text → ℕ → Type 0
IsId = IsNumberOr 65534 0 4294967295

-- the most bytes of a READ or WRITE are 512 to 65,536, and 65,536 if none are given
abbrev pub IsSize : Option Text → ℕ → Type 0
IsSize = IsNumberOr 65536 512 65536

-- the most calls are 2 to 2,147,483,647, and 1,000,000 if none are given
abbrev pub IsCalls : Option Text → ℕ → Type 0
IsCalls = IsNumberOr 1000000 2 2147483647

-- the first xid is 1 to 2,147,483,648, and none if none is given
abbrev pub IsXid : Option Text → Option ℕ → Type 0
IsXid None xid = xid ≡ None
IsXid (Some digits) None = ⊥
IsXid (Some digits) (Some xid) = IsNumberIn 1 2147483648 digits xid

-- by `none` calls are made as nobody, by `sys` as the user and group at the machine `nfs3`
abbrev pub IsAuth : Text → ℕ → ℕ → Cred → Type 0
IsAuth auth uid gid cred = ((auth ≡ codes "none") × (cred ≡ creds.None))
    ⊎ ((auth ≡ codes "sys") × (cred ≡ creds.Sys (codes "nfs3") uid gid))

-- as whom calls are made, where `sys` stands for no text
pub record GivesCred (matches : List Row) (cred : Cred) : Type 0 where
  pub uid : ℕ
  pub uid_is : IsId (first_of (codes "uid") matches) uid
  pub gid : ℕ
  pub gid_is : IsId (first_of (codes "gid") matches) gid
  pub auth : IsAuth (unwrap_or (first_of (codes "auth") matches) (codes "sys")) uid gid cred

-- a path is UTF-8 text of 1 to 1,024 bytes
pub record IsPath (path : Text) : Type 0 where
  pub text : IsUtf8 path
  pub some : 1 ≤ length path
  pub most : length path ≤ 1024

-- a root is 1 to 64 bytes, each as two hex digits of either case
pub record IsRootWord (hex : Text) (root : List ℕ) : Type 0 where
  pub decodes : decode_of hex ≡ Ok root
  pub some : 1 ≤ length root
  pub most : length root ≤ 64

-- either a path is given, or a root, and not both
abbrev pub IsExport : Option Text → Option Text → Export → Type 0
IsExport (Some path) None export = IsPath path × (export ≡ exports.Path path)
IsExport None (Some hex) (exports.Root root) = IsRootWord hex root
IsExport _ _ _ = ⊥

-- a flag is set exactly if it stands among the words: `clap` then gives it the text `true`, and else `false`
abbrev pub IsFlag : Option Text → Bool → Type 0
IsFlag text flag = IsTrue flag ↔ (text ≡ Some (codes "true"))

-- each lifetime is so many seconds
abbrev pub lives_of : ℕ → Lives
lives_of seconds = record { reg_min = seconds * 1000; reg_max = seconds * 1000; dir_min = seconds * 1000; dir_max = seconds * 1000 }

-- the lifetimes by `--actimeo` (nfs(5), actimeo): 0 to 3,600 seconds each
pub record IsActimeo (digits : Text) (lives : Lives) : Type 0 where
  pub seconds : ℕ
  pub given : IsNumberIn 0 3600 digits seconds
  pub are : lives ≡ lives_of seconds

-- How long attributes are believed: not at all with `--noac` (nfs(5), noac), else by `--actimeo`, and as usual if neither is given. The two don't go
-- together.
abbrev pub IsLives : Bool → Option Text → Lives → Type 0
IsLives true None lives = lives ≡ lives_of 0
IsLives true (Some digits) lives = ⊥
IsLives false None lives = lives ≡ usual_lives
IsLives false (Some digits) lives = IsActimeo digits lives

-- whether an open may go by attributes that are kept (nfs(5), nocto): `--nocto` has no effect with `--noac`
abbrev pub IsNocto : Bool → Option Text → Bool → Type 0
IsNocto true text nocto = nocto ≡ false
IsNocto false text nocto = IsFlag text nocto

-- the settings that the matches give, argument by argument
pub record GivesSettings (matches : List Row) (settings : Settings) : Type 0 where
  pub export : IsExport (first_of (codes "export") matches) (first_of (codes "root") matches) settings.export
  pub mount_port : IsPort 20048 (first_of (codes "mount-port") matches) settings.mount_port
  pub nfs_port : IsPort 2049 (first_of (codes "nfs-port") matches) settings.nfs_port
  pub cred : GivesCred matches settings.cred
  pub rsize : IsSize (first_of (codes "rsize") matches) settings.rsize
  pub wsize : IsSize (first_of (codes "wsize") matches) settings.wsize
  pub calls : IsCalls (first_of (codes "calls") matches) settings.calls
  pub xid : IsXid (first_of (codes "xid") matches) settings.xid
  pub noac : IsFlag (first_of (codes "noac") matches) settings.noac
  pub lives : IsLives settings.noac (first_of (codes "actimeo") matches) settings.lives
  pub nocto : IsNocto settings.noac (first_of (codes "nocto") matches) settings.nocto
  pub count : IsFlag (first_of (codes "count") matches) settings.count

-- the words are a command line of these settings: `clap` takes them, and its matches give the settings
pub record IsCommand (words : List Text) (settings : Settings) : Type 0 where
  pub taken : fault_of client_app words ≡ []
  pub gives : GivesSettings (matches_of client_app words) settings

-- the matches that a parse found, and the text that they give an argument
abbrev pub rows_in : ArgMatches → List Row
rows_in matches = rows_of (found_of matches)

abbrev pub given_in : ArgMatches → Text → Option Text
given_in matches name = first_of name (rows_in matches)
