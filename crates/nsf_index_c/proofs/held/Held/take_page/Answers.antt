use Rattle.std.proofs.Common.{◌≡◌, false, inl, inr, refl, rules, subst, IfNone, List, ℕ}
use Rattle.std.proofs.lemmas.Bool.{false≢true}
use Rattle.record_values.specs.declared.pair.Pair.{Pair}
use Rattle.online_index.specs.Pages.{IsPage}
use Rattle.nsf_index_c.specs.Building.{ArePairs, IsNoPage}
use Rattle.nsf_index_c.proofs.Filling.{other_pairs, too_many}
use Rattle.nsf_index_c.proofs.held.Held.take_page.Goals as goal

pub returns-then-pairs : goal.returns-then-pairs
returns-then-pairs c =
    let reopened : c.args.self.now.is_redone ≡ false = search rules in
    inr (inr (reopened, inr (inl (refl, too_many c.args.page c.args.pairs.now c.if-pairs.true))), refl)

pub returns-in_default-read : goal.returns-in_default-read
returns-in_default-read c =
    let reopened : c.args.self.now.is_redone ≡ false = search rules in
    inr (
      inr (
        reopened,
        inr (inl (refl, subst (λ r. IfNone r ((page : ℕ) → IsNoPage page c.args.pairs.now)) c.in_default-read.is c.in-Ok.ensures.none c.args.page)),
      ),
      refl,
    )

pub returns-then-not-is_page : goal.returns-then-not-is_page
returns-then-not-is_page c =
    let reopened : c.args.self.now.is_redone ≡ false = search rules in
    let are : ArePairs c.args.pairs.now c.in-Some.read.items = search rules in
    inr (
      inr (
        reopened,
        inr (inl (
          refl,
          other_pairs c.args.page c.args.pairs.now c.in-Some.read.items are
              (subst (λ (ps : List Pair). ¬ IsPage c.args.page ps) c.deref.ensures.value
              (λ is. absurd (false≢true (c.if-not-is_page.ensures.1 is)))),
        )),
      ),
      refl,
    )
