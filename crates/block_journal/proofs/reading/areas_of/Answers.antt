use Rattle.std.proofs.Common.{◌≡◌, ℕ, List, [], ◌∷◌, ◌++◌, Option, IfSome, Vec, sym, ◌∙◌, ap, subst}
use Rattle.block_batch.specs.Batch.{Batch, batch_in}
use Rattle.block_journal.specs.Gathered.{batches_of, entries_of}
use Rattle.block_journal.specs.Opening.{found_batches}
use Rattle.block_journal.proofs.reading.areas_of.Goals as goal

pub returns-in-None : goal.returns-in-None
returns-in-None g c = λ number last other.
    let list = c.and-one.ensures ∙ ap (λ (l : List (Vec (List ℕ) g.row.A.Denot)). l ++ c.args.last.now.area ∷ []) c.new.ensures in
    let here : Batch = record { number = number; entries = entries_of c.args.last.now } in
    ap (λ (l : List (Vec (List ℕ) g.row.A.Denot)). batches_of l) list ∙ ap (λ (b : Batch). b ∷ []) last
    ∙ sym (ap (λ (b : Option ℕ). found_batches here b (entries_of c.args.other.now)) c.in-None.is)

pub returns-in-Some : goal.returns-in-Some
returns-in-Some g c = λ number last other.
    let list = c.and-one.ensures ∙ ap (λ (l : List (Vec (List ℕ) g.row.A.Denot)). l ++ c.args.last.now.area ∷ []) c.new.ensures in
    let here : Batch = record { number = number; entries = entries_of c.args.last.now } in
    let there = subst (λ (b : Option ℕ). IfSome b (λ n. batch_in c.args.other.now.area.items ≡ record { number = n; entries = entries_of c.args.other.now }))
    c.in-Some.is other in
    ap (λ (l : List (Vec (List ℕ) g.row.A.Denot)). batches_of l)
    (c.and.ensures ∙ ap (λ (l : List (Vec (List ℕ) g.row.A.Denot)). l ++ c.args.other.now.area ∷ []) list)
    ∙ ap (λ (b : Batch). b ∷ batch_in c.args.other.now.area.items ∷ []) last
    ∙ ap (λ (b : Batch). here ∷ b ∷ []) there
    ∙ sym (ap (λ (b : Option ℕ). found_batches here b (entries_of c.args.other.now)) c.in-Some.is)
