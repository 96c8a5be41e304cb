-- The words of the program, as its command line reads them: what the options ask for, and what is wrong with the words.
use Rattle.std.specs.Prelude.{◌≡◌, ◌≢◌, ◌≤◌, ◌⊎◌, ℕ, true, pos, List, [], Option, Some, IfSome, option_map}
use Rattle.std.specs.Prelude.{option_and_then, codes, map}
use Rattle.std.specs.Borrow.{Bor}
use Rattle.std.specs.Str.Parse.{digits_value, without_leading_plus}
use Rattle.clap.specs.Words.{App, IsAmong, Row, Rule, Text, fault_of, first_of, matches_of, new_app, new_rule, one_of}
use Rattle.clap.specs.Words.{with_rule}
use Rattle.clap.specs.Simple.{on_top}
use Rattle.clap.specs.declared.builder.value_parser.ValueParser.{ValueParser}
use Rattle.clap.specs.declared.builder.value_parser.ValueParser.TheVariants as parser
use Rattle.clap.specs.declared.error.kind.ErrorKind.{ErrorKind}
use Rattle.clap.specs.declared.error.kind.ErrorKind.TheVariants.{DisplayHelp, DisplayVersion}
use Rattle.record_values.specs.declared.geometry.TheConstants.{ENTRIES_MAX, ENTRIES_MIN, LOG_SLOTS_MAX, LOG_SLOTS_MIN}
use Rattle.record_values.specs.declared.geometry.TheConstants.{PAGES_MAX}
use Rattle.program_values.specs.Arguments.{fate_of_name, with_defaults}
use Rattle.program_values.specs.declared.given.Arguments.{Arguments}
use Rattle.program_values.specs.declared.given.Options.{Options}
use Rattle.program_values.specs.declared.given.TheConstants.{FATES}
use Rattle.sector_device.specs.declared.call.Fate.{Fate}
use Rattle.program_arguments.specs.declared.TheConstants.{SECTORS_MAX}

-- the option `--name`, with one value that its parser takes
abbrev pub option_of : Text → ValueParser → Rule
option_of name takes = record (new_rule name) { long = Some name; value_names = 1; parser = Some takes }

-- numbers from `low` to `high`
abbrev pub numbers : ℕ → ℕ → ValueParser
numbers low high = parser.Signed (pos low) (pos high)

-- a program of this name, which has a version
abbrev pub versioned_app : Text → App
versioned_app name = on_top (λ s. record s { has_version = true }) (new_app name)

-- the options of the program, the last of which takes one of the names
abbrev pub command_line : Bor (List (Bor Text)) → App
command_line names =
    with_rule (with_rule (with_rule (with_rule (with_rule (with_rule (versioned_app (codes "nsf-replay"))
    (option_of (codes "pages") (numbers 1 PAGES_MAX)))
    (option_of (codes "entries") (numbers ENTRIES_MIN ENTRIES_MAX)))
    (option_of (codes "slots") (numbers LOG_SLOTS_MIN LOG_SLOTS_MAX)))
    (option_of (codes "sectors") (numbers 0 SECTORS_MAX)))
    (option_of (codes "stop") (numbers 1 4294967295)))
    (option_of (codes "fate") (parser.Names names))

-- The command line of the program, of which the names of the fates may lie anywhere in memory.
abbrev pub IsCommandLine : App → Type 0
IsCommandLine app =
    (names : Bor (List (Bor Text))) × (map (λ name. name.now) names.now ≡ map (λ name. name.now) FATES)
    × (app ≡ command_line names)

-- the number that an option was given, where it was
abbrev pub number_in : Text → List Row → Option ℕ
number_in name rows = option_map (λ text. digits_value 10 (without_leading_plus text)) (one_of name rows)

-- the fate that was given by its name, where it was
abbrev pub fate_in : List Row → Option Fate
fate_in rows = option_and_then fate_of_name (first_of (codes "fate") rows)

-- what each option was given
abbrev pub options_in : List Row → Options
options_in rows = record {
  pages = number_in (codes "pages") rows;
  entries = number_in (codes "entries") rows;
  slots = number_in (codes "slots") rows;
  sectors = number_in (codes "sectors") rows;
  stop = number_in (codes "stop") rows;
  fate = fate_in rows;
}

-- The words have no fault, and ask for this: what they give for each option, and the default where they don't give it.
abbrev pub Ask : List Text → Arguments → Type 0
Ask words arguments =
    (app : App) × IsCommandLine app × (fault_of app words ≡ [])
    × (arguments ≡ with_defaults (options_in (matches_of app words)))

-- the words fail in this way
abbrev pub FailBy : List Text → ErrorKind → Type 0
FailBy words kind = (app : App) × IsCommandLine app × IsAmong kind (fault_of app words)

-- the words ask for help, or for the version
abbrev pub AskForHelp : List Text → Type 0
AskForHelp words = FailBy words DisplayHelp ⊎ FailBy words DisplayVersion

-- the words have a fault
abbrev pub HaveFault : List Text → Type 0
HaveFault words = (kind : ErrorKind) × (kind ≢ DisplayHelp) × (kind ≢ DisplayVersion) × FailBy words kind

-- each number is in its range
pub record AreInRange (arguments : Arguments) : Type 0 where
  pub pages : (1 ≤ arguments.pages) × (arguments.pages ≤ PAGES_MAX)
  pub entries : (ENTRIES_MIN ≤ arguments.entries) × (arguments.entries ≤ ENTRIES_MAX)
  pub slots : (LOG_SLOTS_MIN ≤ arguments.slots) × (arguments.slots ≤ LOG_SLOTS_MAX)
  pub sectors : IfSome arguments.sectors (λ sectors. sectors ≤ SECTORS_MAX)
  pub stop : IfSome arguments.stop (λ stop. 1 ≤ stop)
