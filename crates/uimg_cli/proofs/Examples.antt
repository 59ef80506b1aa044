-- What some command lines of `uimg` ask for. SOURCE_DATE_EPOCH is 1700000000.
use Rattle.std.proofs.Common.{◌≡◌, ◌++◌, List, [], ◌∷◌, Some, None, Result, Ok, Err, ap, codes, false, refl, true}
use Rattle.std.specs.{Option.option_map_or, Prelude.{⊤, if◌then◌else◌}}
use Rattle.clap.proofs.OnLiterals.{clap_on_literals}
use Rattle.clap.specs.Walk.{Text}
use Rattle.clap.specs.declared.error.kind.ErrorKind.TheVariants.{DisplayHelp, DisplayVersion}
use Rattle.uimg_cli.specs.Check.{check, reads_again}
use Rattle.uimg_cli.specs.CommandLines.{uimg, words_asked}
use Rattle.uimg_cli.specs.Diff.{diff}
use Rattle.uimg_cli.specs.Dumpimage.{dumpimage}
use Rattle.uimg_cli.specs.Info.{info}
use Rattle.uimg_cli.specs.KeyRequests.{named_path}
use Rattle.uimg_cli.specs.Makings.{parts, plain_making, source}
use Rattle.uimg_cli.specs.Map.{map_command}
use Rattle.uimg_cli.specs.Mkimage.{header_rules, mkimage, source_rules}
use Rattle.uimg_cli.specs.Runs.{plain_run}
use Rattle.uimg_cli.specs.Unpack.{chosen_rules, unpack, written_rules}
use Rattle.uimg_cli.specs.Verify.{verify}
use Rattle.uimg_cli.specs.Wanted.{Wanted, checks, informs, makes, maps, runs, shows, unpacks}
use Rattle.uimg_cli.specs.Wrong.{Wrong, and_then, bad_number, data_with_source, flat_dt_needs_source, input_twice, no_command, no_data_or_source, no_key, no_list_or_outfile, not_number, only_with_config, to_output, unknown_algo, unknown_name}
use Rattle.uimg_fit_base.specs.declared.placement.Placement.TheVariants.{At}
use Rattle.uimg_legacy.specs.{Header.padded_name, Parts.has_parts}
use Rattle.uimg_requests.specs.declared.command.Action.TheVariants as action
use Rattle.uimg_requests.specs.declared.command.Form.TheVariants as form
use Rattle.uimg_sums.specs.declared.algo.Algo.TheVariants.{Crc32, Sha1, Sha256}

unfoldable pub uimg_on_literals : ⊤
unfolding has_parts uimg named_path check diff dumpimage info map_command mkimage header_rules source_rules unpack chosen_rules written_rules verify
uimg_on_literals = tt

abbrev asked : List Text → List (Result Wanted Wrong)
asked words = words_asked (Some (codes "1700000000")) 5 (codes "uimg" ∷ words)

-- ---- dumpimage

a_list : asked (codes "dumpimage" ∷ codes "-l" ∷ codes "uImage" ∷ [])
    ≡ Ok (runs (plain_run action.List form.Guess (codes "uImage") None)) ∷ []
unfolding clap_on_literals uimg_on_literals
a_list = refl

a_part : asked (codes "dumpimage" ∷ codes "-T" ∷ codes "flat_dt" ∷ codes "-p" ∷ codes "2" ∷ codes "-o" ∷ codes "fdt.dtb" ∷ codes "board.itb" ∷ [])
    ≡ Ok (runs (plain_run (action.Extract 2) form.Fit (codes "board.itb") (Some (codes "fdt.dtb")))) ∷ []
unfolding clap_on_literals uimg_on_literals
a_part = refl

joined_letters : asked (codes "dumpimage" ∷ codes "-p1" ∷ codes "-okernel" ∷ codes "-Tmulti" ∷ codes "uImage" ∷ [])
    ≡ Ok (runs (plain_run (action.Extract 1) form.Legacy (codes "uImage") (Some (codes "kernel")))) ∷ []
unfolding clap_on_literals uimg_on_literals
joined_letters = refl

no_outfile : asked (codes "dumpimage" ∷ codes "-p" ∷ codes "1" ∷ codes "uImage" ∷ []) ≡ Err no_list_or_outfile ∷ []
unfolding clap_on_literals uimg_on_literals
no_outfile = refl

a_hexadecimal_position : asked (codes "dumpimage" ∷ codes "-p" ∷ codes "0x1" ∷ codes "-o" ∷ codes "x" ∷ codes "uImage" ∷ []) ≡ Err bad_number ∷ []
unfolding clap_on_literals uimg_on_literals
a_hexadecimal_position = refl

given_twice : asked (codes "dumpimage" ∷ codes "-o" ∷ codes "x" ∷ codes "-o" ∷ codes "y" ∷ codes "uImage" ∷ []) ≡ Err no_command ∷ []
unfolding clap_on_literals uimg_on_literals
given_twice = refl

a_second_image : asked (codes "dumpimage" ∷ codes "-l" ∷ codes "a" ∷ codes "b" ∷ []) ≡ Err no_command ∷ []
unfolding clap_on_literals uimg_on_literals
a_second_image = refl

-- ---- verify

a_verification : asked (codes "verify" ∷ codes "board.itb" ∷ []) ≡ Ok (runs (plain_run action.Verify form.Guess (codes "board.itb") None)) ∷ []
unfolding clap_on_literals uimg_on_literals
a_verification = refl

behind_hyphens : asked (codes "verify" ∷ codes "--" ∷ codes "-l" ∷ []) ≡ Ok (runs (plain_run action.Verify form.Guess (codes "-l") None)) ∷ []
unfolding clap_on_literals uimg_on_literals
behind_hyphens = refl

-- ---- mkimage

a_kernel : asked (codes "mkimage" ∷ codes "-A" ∷ codes "arm64" ∷ codes "-C" ∷ codes "none" ∷ codes "-a" ∷ codes "0x80080000" ∷ codes "-n" ∷ codes "Linux" ∷ codes "-d" ∷ codes "Image" ∷ codes "uImage" ∷ [])
    ≡ Ok (makes (plain_making (parts (record { time = 0; load = 2148007936; ep = 2148007936; os = 5; arch = 22; kind = 2; comp = 0; name = padded_name (codes "Linux") })
    (codes "Image" ∷ [])) 1700000000 (codes "uImage"))) ∷ []
unfolding clap_on_literals uimg_on_literals
a_kernel = refl

two_files : asked (codes "mkimage" ∷ codes "-T" ∷ codes "multi" ∷ codes "-e" ∷ codes "40" ∷ codes "-d" ∷ codes "k:r" ∷ codes "u" ∷ [])
    ≡ Ok (makes (plain_making (parts (record { time = 0; load = 0; ep = 64; os = 5; arch = 7; kind = 4; comp = 1; name = padded_name [] })
    (codes "k" ∷ codes "r" ∷ [])) 1700000000 (codes "u"))) ∷ []
unfolding clap_on_literals uimg_on_literals
two_files = refl

a_source : asked (codes "mkimage" ∷ codes "-f" ∷ codes "a/b.its" ∷ codes "-E" ∷ codes "-p" ∷ codes "1000" ∷ codes "b.itb" ∷ [])
    ≡ Ok (makes (plain_making (source (codes "a/b.its") (At 4096)) 1700000000 (codes "b.itb"))) ∷ []
unfolding clap_on_literals uimg_on_literals
a_source = refl

both_given : asked (codes "mkimage" ∷ codes "-f" ∷ codes "b.its" ∷ codes "-d" ∷ codes "k" ∷ codes "b.itb" ∷ []) ≡ Err data_with_source ∷ []
unfolding clap_on_literals uimg_on_literals
both_given = refl

nothing_given : asked (codes "mkimage" ∷ codes "-A" ∷ codes "arm" ∷ codes "u" ∷ []) ≡ Err no_data_or_source ∷ []
unfolding clap_on_literals uimg_on_literals
nothing_given = refl

a_name_before_a_number : asked (codes "mkimage" ∷ codes "-a" ∷ codes "xyz" ∷ codes "-O" ∷ codes "plan10" ∷ codes "-d" ∷ codes "k" ∷ codes "u" ∷ []) ≡ Err unknown_name ∷ []
unfolding clap_on_literals uimg_on_literals
a_name_before_a_number = refl

a_blob_of_data : asked (codes "mkimage" ∷ codes "-T" ∷ codes "flat_dt" ∷ codes "-d" ∷ codes "k" ∷ codes "u" ∷ []) ≡ Err flat_dt_needs_source ∷ []
unfolding clap_on_literals uimg_on_literals
a_blob_of_data = refl

-- ---- the other commands

a_check : asked (codes "check" ∷ codes "--strict" ∷ codes "a.itb" ∷ codes "--json" ∷ codes "b.itb" ∷ [])
    ≡ Ok (checks (record { need = Some Crc32; is_strict = true; key = None; images = codes "a.itb" ∷ codes "b.itb" ∷ []; is_recursive = false; files_from = None; has_nuls = false; as_json = true; junit = None; is_quiet = false; allows_none = false; most_input = 4294967296 })) ∷ []
unfolding clap_on_literals uimg_on_literals
a_check = refl

by_a_key : asked (codes "check" ∷ codes "--key" ∷ codes "dev=keys/dev.pem" ∷ codes "--config=a" ∷ codes "a.itb" ∷ [])
    ≡ Ok (checks (record { need = Some Sha256; is_strict = true; key = Some (record { path = codes "keys/dev.pem"; name = Some (codes "dev"); config = Some (codes "a"); takes_sha1 = false }); images = codes "a.itb" ∷ []; is_recursive = false; files_from = None; has_nuls = false; as_json = false; junit = None; is_quiet = false; allows_none = false; most_input = 4294967296 })) ∷ []
unfolding clap_on_literals uimg_on_literals
by_a_key = refl

a_report : (file image : Text) → asked (codes "check" ∷ (codes "--junit=./" ++ file) ∷ codes "--" ∷ (codes "./" ++ image) ∷ [])
    ≡ Ok (checks (record { need = None; is_strict = false; key = None; images = (codes "./" ++ image) ∷ []; is_recursive = false; files_from = None; has_nuls = false; as_json = false; junit = Some (codes "./" ++ file); is_quiet = false; allows_none = false; most_input = 4294967296 })) ∷ []
unfolding clap_on_literals uimg_on_literals
a_report file image = refl

a_report_to_output : asked (codes "check" ∷ codes "--junit" ∷ codes "-" ∷ codes "a.itb" ∷ []) ≡ Err (to_output (codes "junit")) ∷ []
unfolding clap_on_literals uimg_on_literals
a_report_to_output = refl

a_path_of_keys : asked (codes "unpack" ∷ codes "--key=./a=b.pem" ∷ codes "--allow-sha1" ∷ codes "a.itb" ∷ [])
    ≡ Ok (unpacks (record { folder = codes "."; only = None; config = None; need = Some Sha1; key = Some (record { path = codes "./a=b.pem"; name = None; config = None; takes_sha1 = true }); is_forced = false; keeps_good = false; is_synced = true; as_json = false; cleans = false; most_files = 4096; most_bytes = None; most_input = 4294967296; image = Some (codes "a.itb") })) ∷ []
unfolding clap_on_literals uimg_on_literals
a_path_of_keys = refl

without_a_key : asked (codes "check" ∷ codes "--config=a" ∷ codes "a.itb" ∷ []) ≡ Err (no_key (codes "config")) ∷ []
unfolding clap_on_literals uimg_on_literals
without_a_key = refl

an_unpacking : asked (codes "unpack" ∷ codes "-C" ∷ codes "out" ∷ codes "--need-hash=sha256" ∷ codes "--max-files" ∷ codes "9" ∷ codes "a.itb" ∷ [])
    ≡ Ok (unpacks (record { folder = codes "out"; only = None; config = None; need = Some Sha256; key = None; is_forced = false; keeps_good = false; is_synced = true; as_json = false; cleans = false; most_files = 9; most_bytes = None; most_input = 4294967296; image = Some (codes "a.itb") })) ∷ []
unfolding clap_on_literals uimg_on_literals
an_unpacking = refl

of_a_configuration : (name image : Text) → asked (codes "unpack" ∷ (codes "--config=" ++ name) ∷ codes "--" ∷ image ∷ [])
    ≡ Ok (unpacks (record { folder = codes "."; only = None; config = Some name; need = None; key = None; is_forced = false; keeps_good = false; is_synced = true; as_json = false; cleans = false; most_files = 4096; most_bytes = None; most_input = 4294967296; image = Some image })) ∷ []
unfolding clap_on_literals uimg_on_literals
of_a_configuration name image = refl

of_an_image_and_a_configuration : asked (codes "unpack" ∷ codes "--only=a" ∷ codes "--config=b" ∷ codes "a.itb" ∷ []) ≡ Err only_with_config ∷ []
unfolding clap_on_literals uimg_on_literals
of_an_image_and_a_configuration = refl

a_plus : asked (codes "unpack" ∷ codes "--max-bytes" ∷ codes "+9" ∷ codes "a.itb" ∷ []) ≡ Err (not_number (codes "max-bytes") (codes "+9")) ∷ []
unfolding clap_on_literals uimg_on_literals
a_plus = refl

an_unknown_algorithm : asked (codes "check" ∷ codes "--need" ∷ codes "sha3" ∷ codes "a" ∷ []) ≡ Err (unknown_algo (codes "sha3")) ∷ []
unfolding clap_on_literals uimg_on_literals
an_unknown_algorithm = refl

the_map : asked (codes "map" ∷ codes "--svg" ∷ codes "m.svg" ∷ codes "a" ∷ []) ≡ Ok (maps (record { picture = Some (codes "m.svg"); is_forced = false; most_input = 4294967296; image = codes "a" })) ∷ []
unfolding clap_on_literals uimg_on_literals
the_map = refl

the_facts : asked (codes "info" ∷ codes "a" ∷ []) ≡ Ok (informs (record { most_input = 4294967296; image = codes "a" })) ∷ []
unfolding clap_on_literals uimg_on_literals
the_facts = refl

-- ---- help, the version, and no command

the_version : asked (codes "--version" ∷ []) ≡ Ok (shows DisplayVersion) ∷ []
unfolding clap_on_literals uimg_on_literals
the_version = refl

a_help : asked (codes "mkimage" ∷ codes "-h" ∷ []) ≡ Ok (shows DisplayHelp) ∷ []
unfolding clap_on_literals uimg_on_literals
a_help = refl

the_help_command : asked (codes "help" ∷ codes "mkimage" ∷ []) ≡ Ok (shows DisplayHelp) ∷ Err no_command ∷ []
unfolding clap_on_literals uimg_on_literals
the_help_command = refl

no_word : asked [] ≡ Err no_command ∷ []
unfolding clap_on_literals uimg_on_literals
no_word = refl

-- ---- any text

any_verified_image : (image : Text) → asked (codes "verify" ∷ codes "--" ∷ image ∷ [])
    ≡ Ok (runs (plain_run action.Verify form.Guess image None)) ∷ []
unfolding clap_on_literals uimg_on_literals
any_verified_image image = refl

any_listed_image : (image : Text) → asked (codes "mkimage" ∷ codes "-l" ∷ codes "--" ∷ image ∷ [])
    ≡ Ok (runs (plain_run action.List form.Guess image None)) ∷ []
unfolding clap_on_literals uimg_on_literals
any_listed_image image = refl

any_checked_images : (one two : Text) → reads_again false (one ∷ two ∷ []) ≡ false → asked (codes "check" ∷ codes "--quiet" ∷ codes "--" ∷ one ∷ two ∷ [])
    ≡ Ok (checks (record { need = None; is_strict = false; key = None; images = one ∷ two ∷ []; is_recursive = false; files_from = None; has_nuls = false; as_json = false; junit = None; is_quiet = true; allows_none = false; most_input = 4294967296 })) ∷ []
unfolding clap_on_literals uimg_on_literals
any_checked_images one two once =
    ap (λ twice. and_then (option_map_or (λ wrong. Err wrong) (if twice then Some input_twice else None) (Ok (record { need = None; is_strict = false; key = None; images = one ∷ two ∷ []; is_recursive = false; files_from = None; has_nuls = false; as_json = false; junit = None; is_quiet = true; allows_none = false; most_input = 4294967296 }))) (λ it. Ok (checks it)) ∷ []) once

any_list_of_images : (file : Text) → asked (codes "check" ∷ (codes "--files-from=" ++ file) ∷ [])
    ≡ Ok (checks (record { need = None; is_strict = false; key = None; images = []; is_recursive = false; files_from = Some file; has_nuls = false; as_json = false; junit = None; is_quiet = false; allows_none = false; most_input = 4294967296 })) ∷ []
unfolding clap_on_literals uimg_on_literals
any_list_of_images file = refl

any_one_payload : (name image : Text) → asked (codes "unpack" ∷ (codes "--only=" ++ name) ∷ codes "--" ∷ image ∷ [])
    ≡ Ok (unpacks (record { folder = codes "."; only = Some name; config = None; need = None; key = None; is_forced = false; keeps_good = false; is_synced = true; as_json = false; cleans = false; most_files = 4096; most_bytes = None; most_input = 4294967296; image = Some image })) ∷ []
unfolding clap_on_literals uimg_on_literals
any_one_payload name image = refl
