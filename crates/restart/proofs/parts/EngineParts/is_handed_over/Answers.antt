use Rattle.std.proofs.Common.{◌≡◌, length, ap, sym, ◌∙◌, arith, length-append}
use Rattle.std.proofs.lemmas.Bool.{false≢true}
use Rattle.std.proofs.lemmas.Bool.Decides.{nat_tests}
use Rattle.restart.specs.Parts.{core_of}
use Rattle.restart.proofs.parts.EngineParts.is_handed_over.Goals as goal

pub returns-else-is_empty : goal.returns-else-is_empty
returns-else-is_empty g c =
    let engine = c.args.self.now in (
      (λ yes. absurd (false≢true (sym c.if-is_empty.false ∙ yes))),
      (λ none.
          let zero : length engine.outgoing.items ≡ 0 = omega (arith, ap length none, length-append engine.outgoing.items (core_of engine).outbox) in
          let told = c.is_empty.ensures in
          grind (arith, nat_tests)),
    )
