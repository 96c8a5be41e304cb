use Rattle.std.proofs.Common.{ap, arith, refl, rules, ◌≡◌, ℕ, ◌<◌, ◌+◌, ◌^◌, ◌∙◌, length, sym}
use Rattle.std.specs.List.{slice_get}
use Rattle.std.proofs.lemmas.Bool.{false≢true}
use Rattle.node_parts.specs.Rows.{branches}
use Rattle.node_parts.proofs.RowLemmas.{inner_is, leaf_is}
use Rattle.node_parts.proofs.DescentLemmas.{child_is, no_child_past}
use Rattle.node_parts.proofs.descent.Descent.descend_to.Goals as goal

pub same-self : goal.same-self
same-self g c = refl

pub get-requires : goal.get-requires
get-requires g c = search rules

pub same-self-in_default-get : goal.same-self-in_default-get
same-self-in_default-get g c = refl

pub returns-in_default-get-clause-no_child : goal.returns-in_default-get-clause-no_child
returns-in_default-get-clause-no_child g c =
    let here = ap (λ r. r.node) c.self.view_is in
    let over = inner_is _ _ _ c.node.view_is c.in-Inner.is in
    λ _. ap (λ t. slice_get (branches t) c.args.at) (sym here)
    ∙ no_child_past _ _ c.args.at over (rw c.deref.ensures.value at c.in_default-get.ensures.lookup.3)

pub overflow_add-self : goal.overflow_add-self
overflow_add-self g c =
    let small : c.self.inside.visits + 1 < 2 ^ 32 = omega (arith, c.requires.few, ap (λ r. r.visits) c.self.view_is) in
    search (rules, small)

pub returns-clause-child : goal.returns-clause-child
returns-clause-child g c =
    let here = ap (λ r. r.node) c.self.view_is in
    let over = inner_is _ _ _ c.node.view_is c.in-Inner.is in
    let inside : c.args.at < length c.in-Inner.row.items = rw c.deref.ensures.value at c.in-Some.ensures.lookup.3.0 in
    let item = rw c.deref.ensures.value at (c.in-Some.ensures.lookup.3.1 c.in-Some.child.now) in
    λ _. ap (λ t. slice_get (branches t) c.args.at) (sym here)
    ∙ child_is _ c.deref-self-inside.result.now _ c.args.at c.in-Some.child.now over inside item c.deref-self-inside.ensures

-- a visit that found no child
no_more : (n : ℕ) → n ≡ n + 0
no_more n = omega arith

pub returns-in_default : goal.returns-in_default
returns-in_default g c =
    let here = ap (λ r. r.node) c.self.view_is in
    let over = leaf_is _ _ _ c.node.view_is c.in_default.is in
    record {
      child = λ is. absurd (false≢true is);
      no_child = λ _. ap (λ t. slice_get (branches t) c.args.at) (sym here ∙ over);
      visits = no_more c.args.self.now.visits;
      unchanged = λ _. refl;
    }

pub returns-in_default-get-clause-child : goal.returns-in_default-get-clause-child
returns-in_default-get-clause-child g c = λ is. absurd (false≢true is)

pub returns-clause-no_child : goal.returns-clause-no_child
returns-clause-no_child g c = λ is. absurd (false≢true (sym is))

pub returns-clause-visits : goal.returns-clause-visits
returns-clause-visits g c = ap (λ r. r.visits + 1) c.self.view_is

pub returns-clause-unchanged : goal.returns-clause-unchanged
returns-clause-unchanged g c = λ is. absurd (false≢true (sym is))
