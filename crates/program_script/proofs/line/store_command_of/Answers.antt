use Rattle.std.proofs.Common.{refl}
use Rattle.program_script.specs.Reading.{store_command_at}
use Rattle.program_script.proofs.Verbs.{told}
use Rattle.program_script.proofs.line.store_command_of.Goals as goal

pub returns-then-eq : goal.returns-then-eq
unfolding store_command_at
returns-then-eq c =
    rw (told c.args.verb.now c.as_slice.ensures c.if-eq.ensures) c.alone.ensures

pub returns-then-eq-2 : goal.returns-then-eq-2
unfolding store_command_at
returns-then-eq-2 c =
    rw (
      told c.args.verb.now c.as_slice.ensures c.if-eq.ensures,
      told c.args.verb.now c.as_slice-else-eq.ensures c.if-eq-2.ensures,
    ) c.alone-then-eq-2.ensures

pub returns-then-eq-5 : goal.returns-then-eq-5
unfolding store_command_at
returns-then-eq-5 c =
    rw (
      told c.args.verb.now c.as_slice.ensures c.if-eq.ensures,
      told c.args.verb.now c.as_slice-else-eq.ensures c.if-eq-2.ensures,
      told c.args.verb.now c.as_slice-else-eq-2.ensures c.if-eq-3.ensures,
      told c.args.verb.now c.as_slice-else-eq-3.ensures c.if-eq-4.ensures,
      told c.args.verb.now c.as_slice-else-eq-4.ensures c.if-eq-5.ensures,
    ) c.alone-then-eq-5.ensures

pub returns-then-eq-6 : goal.returns-then-eq-6
unfolding store_command_at
returns-then-eq-6 c =
    rw (
      told c.args.verb.now c.as_slice.ensures c.if-eq.ensures,
      told c.args.verb.now c.as_slice-else-eq.ensures c.if-eq-2.ensures,
      told c.args.verb.now c.as_slice-else-eq-2.ensures c.if-eq-3.ensures,
      told c.args.verb.now c.as_slice-else-eq-3.ensures c.if-eq-4.ensures,
      told c.args.verb.now c.as_slice-else-eq-4.ensures c.if-eq-5.ensures,
      told c.args.verb.now c.as_slice-else-eq-5.ensures c.if-eq-6.ensures,
    ) c.alone-then-eq-6.ensures

pub returns-then-eq-7 : goal.returns-then-eq-7
unfolding store_command_at
returns-then-eq-7 c =
    rw (
      told c.args.verb.now c.as_slice.ensures c.if-eq.ensures,
      told c.args.verb.now c.as_slice-else-eq.ensures c.if-eq-2.ensures,
      told c.args.verb.now c.as_slice-else-eq-2.ensures c.if-eq-3.ensures,
      told c.args.verb.now c.as_slice-else-eq-3.ensures c.if-eq-4.ensures,
      told c.args.verb.now c.as_slice-else-eq-4.ensures c.if-eq-5.ensures,
      told c.args.verb.now c.as_slice-else-eq-5.ensures c.if-eq-6.ensures,
      told c.args.verb.now c.as_slice-else-eq-6.ensures c.if-eq-7.ensures,
    ) c.crash_of.ensures

pub returns-then-eq-8 : goal.returns-then-eq-8
unfolding store_command_at
returns-then-eq-8 c =
    rw (
      told c.args.verb.now c.as_slice.ensures c.if-eq.ensures,
      told c.args.verb.now c.as_slice-else-eq.ensures c.if-eq-2.ensures,
      told c.args.verb.now c.as_slice-else-eq-2.ensures c.if-eq-3.ensures,
      told c.args.verb.now c.as_slice-else-eq-3.ensures c.if-eq-4.ensures,
      told c.args.verb.now c.as_slice-else-eq-4.ensures c.if-eq-5.ensures,
      told c.args.verb.now c.as_slice-else-eq-5.ensures c.if-eq-6.ensures,
      told c.args.verb.now c.as_slice-else-eq-6.ensures c.if-eq-7.ensures,
      told c.args.verb.now c.as_slice-else-eq-7.ensures c.if-eq-8.ensures,
    ) c.get_of.ensures

pub returns-then-eq-9 : goal.returns-then-eq-9
unfolding store_command_at
returns-then-eq-9 c =
    rw (
      told c.args.verb.now c.as_slice.ensures c.if-eq.ensures,
      told c.args.verb.now c.as_slice-else-eq.ensures c.if-eq-2.ensures,
      told c.args.verb.now c.as_slice-else-eq-2.ensures c.if-eq-3.ensures,
      told c.args.verb.now c.as_slice-else-eq-3.ensures c.if-eq-4.ensures,
      told c.args.verb.now c.as_slice-else-eq-4.ensures c.if-eq-5.ensures,
      told c.args.verb.now c.as_slice-else-eq-5.ensures c.if-eq-6.ensures,
      told c.args.verb.now c.as_slice-else-eq-6.ensures c.if-eq-7.ensures,
      told c.args.verb.now c.as_slice-else-eq-7.ensures c.if-eq-8.ensures,
      told c.args.verb.now c.as_slice-else-eq-8.ensures c.if-eq-9.ensures,
    ) c.find_of.ensures

pub returns-then-eq-10 : goal.returns-then-eq-10
unfolding store_command_at
returns-then-eq-10 c =
    rw (
      told c.args.verb.now c.as_slice.ensures c.if-eq.ensures,
      told c.args.verb.now c.as_slice-else-eq.ensures c.if-eq-2.ensures,
      told c.args.verb.now c.as_slice-else-eq-2.ensures c.if-eq-3.ensures,
      told c.args.verb.now c.as_slice-else-eq-3.ensures c.if-eq-4.ensures,
      told c.args.verb.now c.as_slice-else-eq-4.ensures c.if-eq-5.ensures,
      told c.args.verb.now c.as_slice-else-eq-5.ensures c.if-eq-6.ensures,
      told c.args.verb.now c.as_slice-else-eq-6.ensures c.if-eq-7.ensures,
      told c.args.verb.now c.as_slice-else-eq-7.ensures c.if-eq-8.ensures,
      told c.args.verb.now c.as_slice-else-eq-8.ensures c.if-eq-9.ensures,
      told c.args.verb.now c.as_slice-else-eq-9.ensures c.if-eq-10.ensures,
    ) c.alone-then-eq-10.ensures

pub returns-else-eq-10 : goal.returns-else-eq-10
unfolding store_command_at
returns-else-eq-10 c =
    rw (
      told c.args.verb.now c.as_slice.ensures c.if-eq.ensures,
      told c.args.verb.now c.as_slice-else-eq.ensures c.if-eq-2.ensures,
      told c.args.verb.now c.as_slice-else-eq-2.ensures c.if-eq-3.ensures,
      told c.args.verb.now c.as_slice-else-eq-3.ensures c.if-eq-4.ensures,
      told c.args.verb.now c.as_slice-else-eq-4.ensures c.if-eq-5.ensures,
      told c.args.verb.now c.as_slice-else-eq-5.ensures c.if-eq-6.ensures,
      told c.args.verb.now c.as_slice-else-eq-6.ensures c.if-eq-7.ensures,
      told c.args.verb.now c.as_slice-else-eq-7.ensures c.if-eq-8.ensures,
      told c.args.verb.now c.as_slice-else-eq-8.ensures c.if-eq-9.ensures,
      told c.args.verb.now c.as_slice-else-eq-9.ensures c.if-eq-10.ensures,
    ) refl
