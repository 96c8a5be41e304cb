-- The pointer of a handle is that of a box.
use Rattle.std.proofs.Common.{[], ◌∷◌, refl, Option, Some}
use mir.Raw.{raw as bare}
use mir.Val.{vptr, vstruct, vcons, vnil}
use base.Logic.{never, fst∗, id⊢}
use base.Fml.{ftrue}
use prog.Wp.{WpFn}
use contract.Monad.{fact}
use contract.Running.{tables}
use types.Logic.{sem}
use types.Kit.{‵, raw, ◌⊛◌, prop, ◌$◌, ◌∵◌, !, qed, move, keep, drop, split, join, fsplit, use1, rewrite, regoal, suffices, done}
use types.Run.{enter, of_opd, stop, fld, no_more, and_then, returns}
use types.ByLocal.{alloc_all, pass_all, free_all, look_at, get, get_in, sets}
use types.Part.{whole, sub, agg}
use denote.Memory.{lone}
use denote.RattleType.{owns}
use denote.RawPtr.{block_ptr, null_ptr, ptr_val, in_a_block}
use denote.Signature.{plain, types_at}
use denote.Steps.{nothing, heard}
use denote.Triple.Walked.{Stays, stay_dropped, walk_of, says, ends_at}
use Rattle.std.below.core.proofs.alloc.Calls.{Goes-blank}
use Rattle.std.proofs.raw_atomic.Walks.{proved}
use Rattle.std.proofs.Handle.{heap_val, heap_Tells}
use Rattle.std.specs.Box.Ownership.{box_owns}
use Rattle.std.specs.contracts.alloc.Global as heap
use Rattle.std.proofs.alloc.Global.TheLaws as heap_laws
use Rattle.std.specs.contracts.impls.GlobalAllocator.TheImpl.{ghosts}
use Rattle.nsf_index_c.proofs.Values.{both, loose_good, loose_in}
use Rattle.nsf_index_c.specs.Full.{IsFull}
use Rattle.nsf_index_c.specs.Owned.{owned}
use Rattle.nsf_index_c.specs.declared.held.Held.{Held}
use Rattle.nsf_index_c.specs.contracts.held.Held as held
use Rattle.nsf_index_c.specs.contracts.pointer.Pointer as pointer
use Rattle.nsf_index_c.proofs.pointer.Pointer.TheLaws as pointer_laws
use Rattle.nsf_index_c.specs.contracts.pointer.Pointer.into_loose as f
use Rattle.nsf_index_c.proofs.pointer.Pointer.into_loose.Statement.{statement}
use Rattle.nsf_index_c.proofs.pointer.Pointer.into_loose.Code as code

abbrev stayed : Stays f.ended.signature.params f.ended.kept
stayed = (stay_dropped (plain (λ _. pointer.the_row)) f.ended.kept.0, (stay_dropped (plain (λ _. heap.the_row)) f.ended.kept.1.0, tt))

pub into_loose_spec : {M : Type 1} → statement M
into_loose_spec 𝓤 𝓛 𝓜 𝓡 wired =
    let c = f.clauses 𝓛 𝓜.mem 𝓡.returns in let W = walk_of 𝓛 f.ended stayed c in let 𝓣 = tables 𝓤 𝓛.H 𝓜 𝓡 𝓡.env in
    proved 𝓛 f.ended stayed c 𝓜 𝓡 (
      Goes-blank 𝓛 0 (plain (λ _. pointer.the_row)) f.ended.kept.0 (λ κs x w. tt),
      (Goes-blank 𝓛 0 (plain (λ _. heap.the_row)) f.ended.kept.1.0 (λ κs x w. tt), tt),
    )
    f.Key.name code.function (code.unfolded 𝓤 𝓛.H 𝓜 𝓡 wired)
    (λ κs. ((λ h. pointer_laws.lowered h ∷ []), ((λ _. heap_val ∷ []), tt))) (λ κs. (pointer_laws.lowers.val_is, (heap_Tells, tt))) (λ κs qs bounds a ask are.
    let h = a.0 in let g = a.1.0 in
    let y : W.Ghost = ((κs, qs, bounds, a, (pointer_laws.lowered h ∷ [], (heap_val ∷ [], tt))), ask) in
    qed 𝓛 ((‵ ftrue ⊛ ‵ (owns (types_at f.signature.params κs) a y.0.4)) ∷ raw (fact 𝓤 (IsFull h.value)) ∷ []) ∵
    split ! $ move ! (2 ∷ 1 ∷ []) $ heard ! (IsFull h.value) (λ full. let s : Held = full.0 in
    fsplit ! $ move ! (1 ∷ []) $ fsplit ! $ move ! (2 ∷ 0 ∷ []) $ keep ! (0 ∷ 1 ∷ []) $ fsplit ! $ drop ! $
    rewrite ! 0 (λ (value : Option Held). ‵ (owned held.the_row h.at value)) full.1 refl $
    in_a_block ! h.at (λ p. owned held.the_row p (Some s)) (fst∗ 𝓤 (never 𝓤) (sem 𝓛 (ghosts.dealloc_token g (bare (lone held.the_row.mir)) null_ptr))) (λ b o e.
    -- [the box; the allocator]
    regoal ! (λ p. prop (WpFn 𝓤 𝓛.H 𝓣.C 𝓣.Λ code.function (vstruct (vcons (ptr_val p) vnil) ∷ heap_val ∷ []) (W.post y))) e refl $
    enter ! _ _ _ _ _ $ alloc_all ! (λ l. pass_all ! refl ((tt, (tt, tt)), ((tt, ((tt, tt), tt)), tt)) $
    sets ! (of_opd ! (get_in ! (fld ! refl (stop !)) (sub ! 0 refl (whole !)))) refl (tt, tt) $
    sets ! (of_opd ! (get ! refl)) refl (tt, tt) $
    sets ! (agg ! (and_then ! (get ! refl) (and_then ! (get ! refl) (no_more !)))) refl
    (loose_good held.the_row heap.the_row heap_laws.the_row_laws ghosts b o heap_val (tt, ((tt, tt), tt))) $
    returns ! (look_at ! 0 refl) $ free_all ! refl $
    suffices ! _ (ends_at 𝓛 f.ended stayed c y (both (vptr b o) heap_val) (record { at = block_ptr b o; alloc = g; value = s }) (tt, (tt, tt)) (tt, (tt, tt))) $
    says ! full.1 $
    use1 𝓛 (‵ (box_owns (ghosts.dealloc_token g) held.the_row (block_ptr b o) s)) (id⊢ 𝓤 _) $
    loose_in held.the_row heap.the_row heap_laws.the_row_laws ghosts ! b o heap_val g s $
    nothing ! $ nothing ! $ join ! $ nothing ! $ join ! $ nothing ! $ done !))))
