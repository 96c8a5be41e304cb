-- A handle is its pointer, and what is owned there.
use Rattle.std.proofs.Common.{List, [], ◌∷◌, refl, Option}
use seplogic.Ra.Ura.{Ura}
use mir.Val.{Val, vstruct, vcons, vnil}
use types.Logic.{Logic}
use types.Kit.{Item, Goal, Step, step, ‵, ◌$◌, fjoin, fpack, feq_i}
use denote.RattleType.{Valss}
use denote.Builtin.{RawPtr}
use denote.RawPtr.{Ptr, ptr_val}
use denote.Steps.{nothing}
use denote.Struct.Struct.{within}
use denote.Struct.Owning.{shape}
use Rattle.nsf_index_c.specs.Owned.{owned}
use Rattle.nsf_index_c.specs.declared.held.Held.{Held}
use Rattle.nsf_index_c.specs.contracts.held.Held as held
use Rattle.nsf_index_c.specs.contracts.pointer.Pointer as pointer

module _ {M : Type 1} {𝓤 : Ura M} {𝓛 : Logic 𝓤} {K : Type 0} {Γ : List (Item 𝓤)} {G : Goal 𝓤 𝓛.H} where
  pub pointer_in : K → (p : Ptr) (value : Option Held)
      → Step K 𝓛 (‵ (pointer.the_row.own_val (record { at = p; value = value }) (vstruct (vcons (ptr_val p) vnil) ∷ [])) ∷ Γ) G
      (‵ (owned held.the_row p value) ∷ Γ) G
  pointer_in t p value = step (λ s. let word : Val = vstruct (vcons (ptr_val p) vnil) in
      nothing t $ feq_i t (List Val) (ptr_val p ∷ []) (ptr_val p ∷ []) refl $ fjoin t $ feq_i t (List Val) (word ∷ []) (word ∷ []) refl $ fjoin t $
      fpack t (Valss (RawPtr ∷ [])) (within (shape pointer.the_type) (p, tt) (word ∷ [])) (ptr_val p ∷ [], tt) $ fjoin t $ s)
