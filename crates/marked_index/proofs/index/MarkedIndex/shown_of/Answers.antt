use Rattle.std.proofs.Common.{◌≡◌, ◌<◌, Option, Some, ◌++◌, ◌∷◌, [], true, false, refl, sym, ap, subst, ◌∙◌}
use Rattle.record_values.specs.Values.{Place}
use Rattle.record_values.specs.declared.pair.Mark.{Mark}
use Rattle.record_values.specs.declared.pair.Mark.TheVariants.{Live, Marked}
use denote.Enum.Bare.{sameb}
use Rattle.record_values.specs.contracts.pair.Mark.{the_type}
use Rattle.marked_index.proofs.Listing.{IsListed, left, left_falls, listed_none, listed_marked, listed_live, listed_all}
use Rattle.marked_index.proofs.index.MarkedIndex.shown_of.Goals as goal
use Rattle.marked_index.proofs.index.MarkedIndex.shown_of.Goals.{then-eq+in_ok-push, else-eq}

is_live : (x : Mark) → true ≡ sameb the_type x Live → x ≡ Live
is_live Live e = refl
is_live Marked e = cc

is_not_live : (x : Mark) → false ≡ sameb the_type x Live → x ≡ Live → ⊥
is_not_live Live e is = absurd (cc (e))
is_not_live Marked e is = absurd (cc (is))

pub loop-next-init : goal.loop-next-init
loop-next-init g c = listed_none c.args.self.now.entries c.args.key c.first_of-next.result c.new-shown.result.items c.first_of-next.ensures
    c.new-shown.ensures.items

pub loop-next-smaller : goal.loop-next-smaller
loop-next-smaller g c =
    let m = c.args.self.now.entries in
    let key = c.args.key in
    let e = c.in-Some.entry in
    let here : IsListed m key (Some e) c.loop-next.shown.items =
    subst (λ (n : Option (Place × Mark)). IsListed m key n c.loop-next.shown.items) c.in-Some.is c.loop-next.invariant in
    let falls = left_falls m key e.0 e.1 c.next_of-next.result here.entry c.next_of-next.ensures in
    subst (λ (n : Option (Place × Mark)). left m key c.next_of-next.result < left m key n) (sym c.in-Some.is) falls

pub loop-next-preserved : goal.loop-next-preserved
loop-next-preserved g c =
    let m = c.args.self.now.entries in
    let key = c.args.key in
    let next = c.next_of-next.result in
    let e = c.in-Some.entry in
    let rids = c.loop-next.shown.items in
    let here : IsListed m key (Some e) rids = subst (λ (n : Option (Place × Mark)). IsListed m key n rids) c.in-Some.is c.loop-next.invariant in
    elim c.if-eq.branch [
      | then-eq+in_ok-push w ↦
          let items : c.if-eq.shown.items ≡ rids ++ e.0 ∷ [] = ap (λ v. v.items) w.shown-is ∙ w.in_ok-push.ensures.items in
          subst (IsListed m key next) (sym items) (listed_live m key e.0 next rids c.next_of-next.ensures e.1 here (is_live e.1 w.if-eq.ensures))
      | else-eq w ↦
          let items : c.if-eq.shown.items ≡ rids = ap (λ v. v.items) w.shown-is in
          subst (IsListed m key next) (sym items) (listed_marked m key e.0 next rids c.next_of-next.ensures e.1 here (is_not_live e.1 w.if-eq.ensures))
    ]

pub returns-clause-ascending : goal.returns-clause-ascending
returns-clause-ascending g c = c.loop-next.invariant.ascending

pub returns-clause-each : goal.returns-clause-each
returns-clause-each g c = λ r. listed_all c.args.self.now.entries c.args.key c.loop-next.next c.loop-next.shown.items c.loop-next.invariant c.in_default.is r
