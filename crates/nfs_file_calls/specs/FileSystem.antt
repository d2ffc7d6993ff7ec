-- The results of FSSTAT, FSINFO and PATHCONF (RFC 1813, sections 3.3.18 to 3.3.20). Their argument is a file handle.
use Rattle.std.specs.Prelude.{ℕ, List, ◌++◌, Bool, Option, Result, Ok}
use Rattle.xdr_codec.specs.declared.reader.XdrFault.{XdrFault}
use Rattle.xdr_codec.specs.Reading.{◌>>=◌, u32_at, u64_at, flag_at}
use Rattle.xdr_codec.specs.Spelling.{u32_bytes, u64_bytes, flag_bytes}
use Rattle.xdr_codec.specs.Spells.{◌⨾◌, SpellsU32, SpellsU64, SpellsFlag}
use Rattle.nfs_types.specs.declared.attr.Attr.{Attr}
use Rattle.nfs_types.specs.declared.time.Time.{Time}
use Rattle.nfs_types.specs.Fields.{opt_attr_at, opt_attr_bytes, time_at, time_bytes}
use Rattle.nfs_types.specs.Spells.{SpellsOptAttr, SpellsTime}

-- ---- FSSTAT: total, free and available bytes, the same of files, and for how many seconds this holds

pub record FsStatDone : Type 0 where
  pub attr : Option Attr
  pub tbytes : ℕ
  pub fbytes : ℕ
  pub abytes : ℕ
  pub tfiles : ℕ
  pub ffiles : ℕ
  pub afiles : ℕ
  pub invarsec : ℕ

unfoldable pub fs_stat_done_at : List ℕ → Result (FsStatDone × List ℕ) XdrFault
fs_stat_done_at bytes = do
  attr ← opt_attr_at bytes
  tbytes ← u64_at attr.1
  fbytes ← u64_at tbytes.1
  abytes ← u64_at fbytes.1
  tfiles ← u64_at abytes.1
  ffiles ← u64_at tfiles.1
  afiles ← u64_at ffiles.1
  invarsec ← u32_at afiles.1
  Ok (
    record {
      attr = attr.0;
      tbytes = tbytes.0;
      fbytes = fbytes.0;
      abytes = abytes.0;
      tfiles = tfiles.0;
      ffiles = ffiles.0;
      afiles = afiles.0;
      invarsec = invarsec.0;
    },
    invarsec.1,
  )

abbrev pub SpellsFsStatDone : FsStatDone → List ℕ → Type 0
SpellsFsStatDone v =
    SpellsOptAttr v.attr ⨾ SpellsU64 v.tbytes ⨾ SpellsU64 v.fbytes ⨾ SpellsU64 v.abytes ⨾ SpellsU64 v.tfiles ⨾ SpellsU64 v.ffiles ⨾ SpellsU64 v.afiles
    ⨾ SpellsU32 v.invarsec

-- a total, what is free and what is available
unfoldable pub amounts_bytes : ℕ → ℕ → ℕ → List ℕ
amounts_bytes total free available = u64_bytes total ++ u64_bytes free ++ u64_bytes available

unfoldable pub fs_stat_done_bytes : Option Attr → ℕ → ℕ → ℕ → ℕ → ℕ → ℕ → ℕ → List ℕ
fs_stat_done_bytes attr tbytes fbytes abytes tfiles ffiles afiles invarsec =
    opt_attr_bytes attr ++ amounts_bytes tbytes fbytes abytes ++ amounts_bytes tfiles ffiles afiles ++ u32_bytes invarsec

-- ---- FSINFO: the most, the preferred and the suggested multiple of the bytes of a READ, and the same of a WRITE;
-- the preferred bytes of a READDIR, the greatest file, how fine times are, and properties

pub record FsInfoDone : Type 0 where
  pub attr : Option Attr
  pub rtmax : ℕ
  pub rtpref : ℕ
  pub rtmult : ℕ
  pub wtmax : ℕ
  pub wtpref : ℕ
  pub wtmult : ℕ
  pub dtpref : ℕ
  pub maxfilesize : ℕ
  pub time_delta : Time
  pub properties : ℕ

unfoldable pub fs_info_done_at : List ℕ → Result (FsInfoDone × List ℕ) XdrFault
fs_info_done_at bytes = do
  attr ← opt_attr_at bytes
  rtmax ← u32_at attr.1
  rtpref ← u32_at rtmax.1
  rtmult ← u32_at rtpref.1
  wtmax ← u32_at rtmult.1
  wtpref ← u32_at wtmax.1
  wtmult ← u32_at wtpref.1
  dtpref ← u32_at wtmult.1
  maxfilesize ← u64_at dtpref.1
  time_delta ← time_at maxfilesize.1
  properties ← u32_at time_delta.1
  Ok (
    record {
      attr = attr.0;
      rtmax = rtmax.0;
      rtpref = rtpref.0;
      rtmult = rtmult.0;
      wtmax = wtmax.0;
      wtpref = wtpref.0;
      wtmult = wtmult.0;
      dtpref = dtpref.0;
      maxfilesize = maxfilesize.0;
      time_delta = time_delta.0;
      properties = properties.0;
    },
    properties.1,
  )

abbrev pub SpellsFsInfoDone : FsInfoDone → List ℕ → Type 0
SpellsFsInfoDone v =
    SpellsOptAttr v.attr ⨾ SpellsU32 v.rtmax ⨾ SpellsU32 v.rtpref ⨾ SpellsU32 v.rtmult ⨾ SpellsU32 v.wtmax ⨾ SpellsU32 v.wtpref ⨾ SpellsU32 v.wtmult
    ⨾ SpellsU32 v.dtpref ⨾ SpellsU64 v.maxfilesize ⨾ SpellsTime v.time_delta ⨾ SpellsU32 v.properties

-- the most, the preferred and the suggested multiple
unfoldable pub sizes_bytes : ℕ → ℕ → ℕ → List ℕ
sizes_bytes most preferred multiple = u32_bytes most ++ u32_bytes preferred ++ u32_bytes multiple

-- the preferred bytes of a READDIR, the greatest file, how fine times are, and properties
unfoldable pub limits_bytes : ℕ → ℕ → Time → ℕ → List ℕ
limits_bytes dtpref maxfilesize time_delta properties = u32_bytes dtpref ++ u64_bytes maxfilesize ++ time_bytes time_delta ++ u32_bytes properties

unfoldable pub fs_info_done_bytes : Option Attr → ℕ → ℕ → ℕ → ℕ → ℕ → ℕ → ℕ → ℕ → Time → ℕ → List ℕ
fs_info_done_bytes attr rtmax rtpref rtmult wtmax wtpref wtmult dtpref maxfilesize time_delta properties =
    opt_attr_bytes attr ++ sizes_bytes rtmax rtpref rtmult ++ sizes_bytes wtmax wtpref wtmult ++ limits_bytes dtpref maxfilesize time_delta properties

-- ---- PATHCONF: the most links, the longest name, and four rules for names and owners

pub record PathConfDone : Type 0 where
  pub attr : Option Attr
  pub linkmax : ℕ
  pub name_max : ℕ
  pub no_trunc : Bool
  pub chown_restricted : Bool
  pub case_insensitive : Bool
  pub case_preserving : Bool

unfoldable pub path_conf_done_at : List ℕ → Result (PathConfDone × List ℕ) XdrFault
path_conf_done_at bytes = do
  attr ← opt_attr_at bytes
  linkmax ← u32_at attr.1
  name_max ← u32_at linkmax.1
  no_trunc ← flag_at name_max.1
  chown_restricted ← flag_at no_trunc.1
  case_insensitive ← flag_at chown_restricted.1
  case_preserving ← flag_at case_insensitive.1
  Ok (
    record {
      attr = attr.0;
      linkmax = linkmax.0;
      name_max = name_max.0;
      no_trunc = no_trunc.0;
      chown_restricted = chown_restricted.0;
      case_insensitive = case_insensitive.0;
      case_preserving = case_preserving.0;
    },
    case_preserving.1,
  )

abbrev pub SpellsPathConfDone : PathConfDone → List ℕ → Type 0
SpellsPathConfDone v =
    SpellsOptAttr v.attr ⨾ SpellsU32 v.linkmax ⨾ SpellsU32 v.name_max ⨾ SpellsFlag v.no_trunc ⨾ SpellsFlag v.chown_restricted ⨾ SpellsFlag v.case_insensitive
    ⨾ SpellsFlag v.case_preserving

-- the four rules
unfoldable pub rules_bytes : Bool → Bool → Bool → Bool → List ℕ
rules_bytes no_trunc chown_restricted case_insensitive case_preserving =
    flag_bytes no_trunc ++ flag_bytes chown_restricted ++ flag_bytes case_insensitive ++ flag_bytes case_preserving

unfoldable pub path_conf_done_bytes : Option Attr → ℕ → ℕ → Bool → Bool → Bool → Bool → List ℕ
path_conf_done_bytes attr linkmax name_max no_trunc chown_restricted case_insensitive case_preserving =
    opt_attr_bytes attr ++ u32_bytes linkmax ++ u32_bytes name_max ++ rules_bytes no_trunc chown_restricted case_insensitive case_preserving
