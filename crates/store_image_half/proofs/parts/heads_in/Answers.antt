use Rattle.std.proofs.Common.{◌≡◌, ◌+◌, List, sym, ap, ◌∙◌, subst, arith}
use Rattle.std.specs.Prelude.{slice_get}
use Rattle.std.proofs.lemmas.Bool.{iff_false}
use Rattle.std.proofs.lemmas.Option.{none-some}
use Rattle.std.proofs.lemmas.Result.{err_from_is_err_and}
use Rattle.std.specs.declared.vec.Vec.{Vec}
use Rattle.store_image_parts.specs.declared.head.Head.{Head}
use Rattle.store_image_parts.specs.Spelling.{head, HeadFitsIfSome}
use Rattle.store_image_half.specs.Steps.{AreFirstHeads, IsNextHead}
use Rattle.store_image_half.proofs.Heads.{no_head, all_heads, must_follow, head_more, no_head_more}
use Rattle.store_image_half.proofs.OneImage.{heads_fit}
use Rattle.store_image_half.proofs.parts.heads_in.Goals as goal
use Rattle.store_image_half.proofs.parts.heads_in.Goals.{in-Some-found+else-not-is_next+in_ok-push, in_default-found}

pub returns-in_err-heads : goal.returns-in_err-heads
returns-in_err-heads g c =
    let p = err_from_is_err_and c.from_residual.result c.from_residual.ensures.1 in
    rw p.1 (record { found = tt; none = tt })

pub loop-k-init : goal.loop-k-init
loop-k-init g c = subst (λ (l : List Head). AreFirstHeads c.args.bytes.now 0 l) (sym c.in_ok-heads.ensures.items) (no_head c.args.bytes.now)

pub returns-in_default : goal.returns-in_default
returns-in_default g c = record {
  found = tt;
  none = λ none xs are.
      let k = c.loop-k.k in
      none-some (slice_get xs k) (c.in_default.ensures.again (slice_get xs k) (heads_fit c.args.bytes.now xs k are)
      (c.piece_of-piece.ensures ∙ are.spelled k c.loop-k-test.true));
}

pub returns-then-not-is_next : goal.returns-then-not-is_next
returns-then-not-is_next g c = record {
  found = tt;
  none = λ none xs are.
      let bytes = c.args.bytes.now in
      let k = c.loop-k.k in
      let hs = c.loop-k.heads.items in
      let h = c.in-Some-found.head in
      let is = sym c.piece_of-piece.ensures ∙ c.in-Some.ensures.found ∙ ap head c.in-Some-found.is in
      let fits = subst HeadFitsIfSome c.in-Some-found.is c.in-Some.ensures.fits in
      iff_false c.is_next.ensures c.if-not-is_next.true (subst (λ (l : List Head). IsNextHead l k h) (sym c.deref.ensures.value)
      (must_follow bytes k hs c.loop-k.invariant h xs c.loop-k-test.true is fits are));
}

pub returns-in_err-push : goal.returns-in_err-push
returns-in_err-push g c =
    let p = err_from_is_err_and c.from_residual-in_err-push.result c.from_residual-in_err-push.ensures.1 in
    rw p.1 (record { found = tt; none = tt })

pub loop-k-preserved : goal.loop-k-preserved
loop-k-preserved g c =
    let bytes = c.args.bytes.now in
    let k = c.loop-k.k in
    let hs = c.loop-k.heads.items in
    elim c.match-found.branch [
      | in-Some-found+else-not-is_next+in_ok-push w ↦
          let h = w.in-Some-found.head in
          let is = sym c.piece_of-piece.ensures ∙ c.in-Some.ensures.found ∙ ap head w.in-Some-found.is in
          let fits = subst HeadFitsIfSome w.in-Some-found.is c.in-Some.ensures.fits in
          let next = subst (λ (l : List Head). IsNextHead l k h) w.deref.ensures.value (w.is_next.ensures.0 w.if-not-is_next.false) in
          subst (AreFirstHeads bytes (k + 1)) (sym (ap (λ (v : Vec Head g.row.A.Denot). v.items) w.heads-is ∙ w.in_ok-push.ensures.items))
          (head_more bytes k hs c.loop-k.invariant h is fits next)
      | in_default-found w ↦
          subst (AreFirstHeads bytes (k + 1)) (sym (ap (λ (v : Vec Head g.row.A.Denot). v.items) w.heads-is))
          (no_head_more bytes k hs c.loop-k.invariant (sym c.piece_of-piece.ensures ∙ c.in-Some.ensures.found ∙ ap head w.in_default-found.is))
    ]

pub returns : goal.returns
returns g c =
    let all : c.loop-k.k ≡ 16 = omega (arith, c.loop-k-test.false, c.loop-k.auto.k-end) in
    record {
      found = all_heads c.args.bytes.now c.loop-k.k c.loop-k.heads.items all c.loop-k.invariant;
      none = λ none. absurd (none-some c.loop-k.heads (sym none));
    }
