use Rattle.std.proofs.Common.{◌+◌, ◌≤◌, ◌++◌, ◌∙◌, List, ℕ, ap, sym, arith, length}
use Rattle.store_image_parts.specs.Spelling.{zeros}
use Rattle.store_image_parts.proofs.Bytes.{zeros_more, zeros_put, length_of}
use Rattle.store_image_parts.proofs.buffer.Buffer.push_zeros.Goals as goal

pub invariant_of-self : goal.invariant_of-self
invariant_of-self g c =
    let b = c.self.inside in
    let fits : b.len + c.args.count ≤ g.row.N = omega (arith, c.requires, ap length c.self.view_is, length_of g.row.N b.len b.bytes c.self.invariant) in
    zeros_more g.row.N b.len b.bytes c.self.invariant c.args.count fits

pub returns-clause-put : goal.returns-clause-put
returns-clause-put g c =
    let b = c.self.inside in
    let fits : b.len + c.args.count ≤ g.row.N = omega (arith, c.requires, ap length c.self.view_is, length_of g.row.N b.len b.bytes c.self.invariant) in
    zeros_put g.row.N b.len b.bytes c.self.invariant c.args.count fits ∙ ap (λ (t : List ℕ). t ++ zeros c.args.count) c.self.view_is

pub returns-clause-size : goal.returns-clause-size
returns-clause-size g c =
    let b = c.self.inside in
    let fits : b.len + c.args.count ≤ g.row.N = omega (arith, c.requires, ap length c.self.view_is, length_of g.row.N b.len b.bytes c.self.invariant) in
    length_of g.row.N (b.len + c.args.count) b.bytes (zeros_more g.row.N b.len b.bytes c.self.invariant c.args.count fits)
    ∙ ap (λ n. n + c.args.count) (sym (length_of g.row.N b.len b.bytes c.self.invariant) ∙ ap length c.self.view_is)
