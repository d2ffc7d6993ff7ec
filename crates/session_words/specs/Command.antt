-- The command line as `clap` sees it: one positional, eleven options that take a value, and three flags.
use Rattle.std.specs.Prelude.{Some, codes}
use Rattle.clap.specs.Words.{App, Rule, Text, new_app, new_rule, with_rule}
use Rattle.clap.specs.declared.builder.ArgAction.TheVariants.{SetTrue}

-- `--name VALUE`
abbrev pub option_rule : Text → Rule
option_rule name = record (new_rule name) { long = Some name }

-- `--name`
abbrev pub flag_rule : Text → Rule
flag_rule name = record (new_rule name) { long = Some name; action = Some SetTrue }

abbrev pub with_option : App → Text → App
with_option app name = with_rule app (option_rule name)

abbrev pub with_flag : App → Text → App
with_flag app name = with_rule app (flag_rule name)

-- the client's command
unfoldable pub client_app : App
client_app =
    let a0 = with_rule (new_app (codes "nfs3")) (new_rule (codes "export")) in
    let a1 = with_option a0 (codes "root") in
    let a2 = with_option a1 (codes "mount-port") in
    let a3 = with_option a2 (codes "nfs-port") in
    let a4 = with_option a3 (codes "auth") in
    let a5 = with_option a4 (codes "uid") in
    let a6 = with_option a5 (codes "gid") in
    let a7 = with_option a6 (codes "rsize") in
    let a8 = with_option a7 (codes "wsize") in
    let a9 = with_option a8 (codes "calls") in
    let a10 = with_option a9 (codes "xid") in
    let a11 = with_option a10 (codes "actimeo") in
    let a12 = with_flag a11 (codes "noac") in
    let a13 = with_flag a12 (codes "nocto") in
    with_flag a13 (codes "count")
