use Rattle.std.proofs.Common.{◌≡◌, ◌∙◌, ap, ap₂, codes}
use Rattle.std.proofs.lemmas.Result.{IfOk-weaker}
use Rattle.clap.specs.Simple.{app_of_fields}
use Rattle.clap.specs.Words.{with_rule}
use Rattle.record_values.specs.declared.geometry.TheConstants.{ENTRIES_MAX, ENTRIES_MIN, LOG_SLOTS_MAX, LOG_SLOTS_MIN, PAGES_MAX}
use Rattle.program_arguments.specs.CommandLine.{numbers, option_of}
use Rattle.program_arguments.specs.declared.TheConstants.{SECTORS_MAX}
use Rattle.program_arguments.proofs.command.Goals as goal

pub returns : goal.returns
returns c =
    let pages : c.numbers-pages.result ≡ numbers 1 PAGES_MAX = rw c.from.ensures at c.numbers-pages.ensures in
    let entries : c.numbers-entries.result ≡ numbers ENTRIES_MIN ENTRIES_MAX = rw (c.from-2.ensures, c.from-3.ensures) at c.numbers-entries.ensures in
    let slots : c.numbers-slots.result ≡ numbers LOG_SLOTS_MIN LOG_SLOTS_MAX = rw (c.from-4.ensures, c.from-5.ensures) at c.numbers-slots.ensures in
    let sectors : c.numbers-sectors.result ≡ numbers 0 SECTORS_MAX = rw c.from-6.ensures at c.numbers-sectors.ensures in
    let stop : c.numbers-stop.result ≡ numbers 1 4294967295 = rw c.from-7.ensures at c.numbers-stop.ensures in
    let one = c.in_ok-all.ensures ∙ ap₂ with_rule c.program_named-all.ensures (ap (option_of (codes "pages")) pages) in
    let two = c.in_ok-all-2.ensures ∙ ap₂ with_rule one (ap (option_of (codes "entries")) entries) in
    let three = c.in_ok-all-3.ensures ∙ ap₂ with_rule two (ap (option_of (codes "slots")) slots) in
    let four = c.in_ok-all-4.ensures ∙ ap₂ with_rule three (ap (option_of (codes "sectors")) sectors) in
    let five = c.in_ok-all-5.ensures ∙ ap₂ with_rule four (ap (option_of (codes "stop")) stop) in
    let six = c.in_ok-all-6.ensures ∙ ap₂ with_rule five (ap (option_of (codes "fate")) c.from-fate.ensures) in
    IfOk-weaker c.bin_name.result _ _
    (λ command named. (c.as_slice.result, rw c.as_slice.ensures, ap app_of_fields named.0 ∙ six))
    c.bin_name.ensures
