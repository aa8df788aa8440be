use Rattle.std.proofs.Common.{◌≡◌, ◌∙◌, refl}
use Rattle.clap.specs.Words.{found_of, rows_of}
use Rattle.cli_words.specs.declared.words.Request.{Request}
use Rattle.cli_words.specs.declared.words.Request.TheVariants as requests
use Rattle.cli_words.specs.declared.subcommands.Subcommand.{Subcommand}
use Rattle.cli_words.specs.declared.subcommands.Subcommand.TheVariants as kinds
use Rattle.cli_words.specs.Options.{text_of}
use Rattle.cli_words.proofs.RequestsAsked.{name_of, asks_name}
use Rattle.cli_words.proofs.words.named_request.Goals as goal

-- the subcommand that asks for the request
abbrev kind_of : Request → Subcommand
kind_of (requests.Tlp x) = kinds.Tlp
kind_of (requests.Endpoint setup is_traced) = kinds.Endpoint
kind_of (requests.Linked setup is_traced credits has_crc) = kinds.Endpoint
kind_of requests.Decode = kinds.Decode
kind_of requests.Encode = kinds.Encode
kind_of (requests.Check is_clocked) = kinds.Check
kind_of (requests.Search limit work granularity has_core is_told) = kinds.Search
kind_of (requests.Draw from to) = kinds.Draw
kind_of requests.Upgrade = kinds.Upgrade
kind_of (requests.Step is_traced keeps_going echoes) = kinds.Step
kind_of (requests.Chart lane from to has_all has_levels) = kinds.Chart
kind_of (requests.Generate storm) = kinds.Generate
kind_of (requests.Sweep storm last is_clocked keeps_going workers) = kinds.Sweep
kind_of (requests.Run counting is_told) = kinds.Run

named : (r : Request) → name_of r ≡ text_of (kind_of r)
named (requests.Tlp x) = refl
named (requests.Endpoint setup is_traced) = refl
named (requests.Linked setup is_traced credits has_crc) = refl
named requests.Decode = refl
named requests.Encode = refl
named (requests.Check is_clocked) = refl
named (requests.Search limit work granularity has_core is_told) = refl
named (requests.Draw from to) = refl
named requests.Upgrade = refl
named (requests.Step is_traced keeps_going echoes) = refl
named (requests.Chart lane from to has_all has_levels) = refl
named (requests.Generate storm) = refl
named (requests.Sweep storm last is_clocked keeps_going workers) = refl
named (requests.Run counting is_told) = refl

pub returns-in-None-clause-err : goal.returns-in-None-clause-err
returns-in-None-clause-err c = λ r a. c.in-None.ensures.none (kind_of r) (asks_name (c.args.name.now, rows_of (found_of c.args.values.now)) r a ∙ named r)
