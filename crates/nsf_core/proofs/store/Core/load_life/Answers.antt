use Rattle.std.proofs.Common.{subst, sym, ◌∙◌, ◌≡◌}
use Rattle.std.proofs.Math.Logic.{∥∥₁_map}
use Rattle.sorted_scan.specs.Scans.{HasRun, begun, begun_run}
use Rattle.core_model.specs.Histories.{highest_of}
use Rattle.core_parts.specs.View.{CoreValue, IsSafe}
use Rattle.nsf_core.specs.Value.{value_of}
use Rattle.nsf_core.proofs.Loading.{life_safe}
use Rattle.nsf_core.proofs.store.Core.load_life.Goals as goal

pub invariant_of-self : goal.invariant_of-self
invariant_of-self g c =
    let v : CoreValue = value_of c.args.self.now in
    let now : c.new.result ≡ begun (highest_of c.args.life) v.heap.pages = c.new.ensures.made
    ∙ (λ i. begun (c.highest_of.ensures i) (c.pages.ensures.number i)) in
    let run : HasRun (begun (highest_of c.args.life) v.heap.pages) (begun_run (highest_of c.args.life) v.heap.pages) =
    subst (λ w. HasRun w (begun_run (highest_of c.args.life) v.heap.pages)) now
    (subst (λ n. HasRun c.new.result (begun_run (highest_of c.args.life) n)) c.pages.ensures.number
    (subst (λ o. HasRun c.new.result (begun_run o c.pages.result)) c.highest_of.ensures c.new.ensures.run)) in
    record {
      safe = ∥∥₁_map c.args.self.now.safe (λ safe. subst (λ w. IsSafe (record v { life = c.args.life; scan = w; tried = 0 })) (sym now)
          (life_safe v c.requires.quiet safe c.args.life c.requires.inside run));
    }
