use Rattle.std.proofs.Common.{◌≡◌, ◌+◌, ◌<◌, ◌≤◌, length, subst, ⊎_elim, arith}
use Rattle.std.proofs.lemmas.Bool.{eqb-true, cases_lt}
use Rattle.std.proofs.lemmas.Bool.Decides.{nat_tests}
use Rattle.std.proofs.Common.{eq-eqb}
use Rattle.std.proofs.lemmas.List.{take_all}
use Rattle.gate_log.specs.Group.{FitsGroup}
use Rattle.gate_log.proofs.Groups.{front_shorter}
use Rattle.gate_log.proofs.group.fits.Goals as goal

pub returns-then-not-is_empty : goal.returns-then-not-is_empty
returns-then-not-is_empty c =
    let records = c.args.records.now in
    let count = c.group_len.result in
    let fitting = c.group_len.ensures in
    let some : 0 < length records = let e = c.is_empty.ensures in let not = c.if-not-is_empty.true in grind (arith, nat_tests) in (
      (λ is.
          let all : count ≡ length records = eqb-true count (length records) is in
          let whole = take_all count records (omega (arith, all)) in
          subst FitsGroup whole (fitting.fits some)),
      (λ fit.
          let all : count ≡ length records = ⊎_elim
          (λ (less : count < length records). absurd (omega (arith, fitting.most less, front_shorter (count + 1) records, fit.short)))
          (λ (le : length records ≤ count). omega (arith, le, fitting.within))
          (cases_lt count (length records)) in
          eq-eqb count (length records) all),
    )
