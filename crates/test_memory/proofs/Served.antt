-- `Refusing::served` at a call. Assumes `Logic`.
--     Lends, at_lent, lent_goes, lent_Gives      its contract, what it is handed, and what it answers
use mathlib.Core.Path.{◌≡◌, refl, ap, ◌∙◌}
use mathlib.Core.List.{List, [], ◌∷◌, ◌++◌}
use lib.Dec.{T, lit<}
use seplogic.Ra.Ura.{Ura}
use mir.Syntax.{Callee, a_type, named}
use mir.Val.{Val, vptr, of_list, has_ty, WT}
use base.Logic.{SProp, ent, sep, ex, guard, emp, id⊢}
use base.Fml.{Lft, Share, Fml, ftrue, fsep}
use prog.Memory.{Memory}
use prog.Routine.{Routine}
use types.Logic.{Logic, sem}
use contract.BorrowLft.{◌⊑◌}
use contract.Monad.{Fun, fact, fact_i}
use types.Kit.{‵, raw, ◌⊛◌, some, later, given, ◌$◌, ◌∵◌, !, qed, move, keep, use0, use1, split, join, pick, learn, fsplit, fjoin, fpick, feq_l, feq_i, check}
use types.Kit.{show, await, updating, now as at_once, done}
use types.Match.{live}
use denote.RattleType.{RattleType}
use denote.Memory.{hidden_shr}
use denote.Param.{layout, layouts, param}
use denote.Ref.{Bor, ShrRef, shr_vals}
use denote.Steps.{only, nothing}
use denote.Triple.Statement.{Contract}
use denote.Triple.Spec.{triple_of}
use Rattle.std.specs.Option.{MatchOption}
use Rattle.std.specs.declared.option.Option.{Option}
use Rattle.std.specs.declared.option.Option.TheVariants.{None, Some}
use Rattle.std.specs.contracts.option.Option as O
use Rattle.std.proofs.alloc.Calls.{Al, seen}
use Rattle.test_memory.specs.contracts.Refusing as L
use Rattle.test_memory.specs.contracts.Refusing.served as F
use Rattle.test_memory.specs.contracts.Refusing.served.Key as key

abbrev pub shown_val : {X : Type 0} → Option (Bor X) → Val
shown_val None = live 0 (of_list [])
shown_val (Some b) = live 1 (of_list (vptr b.ref_ptr.0 b.ref_ptr.1 ∷ []))

module _ (Z : Al) where
  abbrev pub lent_key : Callee
  lent_key = key.name (layouts (a_type ∷ []) (Z.row, tt))

  abbrev pub Shown : Lft → RattleType
  Shown κ = O.the_row (ShrRef (named 0) κ (param 0 Z.row))

  abbrev pub seen_if : Lft → Option (Bor Z.row.Denot) → Fml
  seen_if κ None = ftrue
  seen_if κ (Some b) = seen Z κ b.ref_ptr b.now

  pub Shown-typed : (o : Option (Bor Z.row.Denot)) → T (has_ty (layout (Shown [])) (shown_val o)) × WT (shown_val o)
  Shown-typed None = (tt, (record { fits = lit< tt }, tt))
  Shown-typed (Some b) = (tt, (record { fits = lit< tt }, (tt, tt)))

module _ (Z : Al) {M : Type 1} {𝓤 : Ura M} (𝓛 : Logic 𝓤) (at_mem : Memory → SProp 𝓤) (run : Routine → Fun 𝓤) where
  open 𝓛 use {H, A}

  abbrev pub Lends : Contract 𝓤
  Lends = triple_of 𝓛 (F.signature Z.row) (F.spec Z.row 𝓛 at_mem run)

  module _ (κ ρ : Lft) (q s : Share) (out : κ ⊑ ρ) (r : Bor (L.the_row Z.row).Denot) where
    abbrev pub at_lent : Lends.Ghost
    at_lent = (((κ, (ρ, tt)), (q, (s, tt)), (out, tt), (r, tt), (shr_vals r, tt)), tt)

    abbrev Tokens : SProp 𝓤
    Tokens = sep 𝓤 (A.lft κ q) (sep 𝓤 (A.lft ρ s) (emp 𝓤))

    abbrev pub Told : Option (Bor Z.row.Denot) → Type 0
    Told o = MatchOption o (Unit {0}) (λ h. h.now ≡ r.now.inner)

    pub lent_goes : ρ ⊑ Z.row.lives → ent 𝓤 (sep 𝓤 (sem 𝓛 (hidden_shr (L.the_row (param 0 Z.row)) κ r.now r.ref_ptr.0 r.ref_ptr.1)) Tokens) (Lends.pre at_lent)
    lent_goes le = qed 𝓛 (‵ (hidden_shr (L.the_row (param 0 Z.row)) κ r.now r.ref_ptr.0 r.ref_ptr.1) ∷ raw Tokens ∷ []) ∵
        feq_i ! (List Val) (shr_vals r) (shr_vals r) refl $ fjoin ! $ nothing ! $ move ! (1 ∷ 0 ∷ []) $ fjoin ! $ move ! (1 ∷ 0 ∷ []) $ join ! $
        nothing ! $ use0 𝓛 (raw (fact 𝓤 (ρ ⊑ Z.row.lives))) (fact_i 𝓤 (ρ ⊑ Z.row.lives) (emp 𝓤) le) $ join ! $ move ! (1 ∷ 0 ∷ []) $ done !

    opened : (o : Option (Bor Z.row.Denot)) (v : Val) → ent 𝓤 (sem 𝓛 ((Shown Z κ).own_val o (v ∷ []))) (guard 𝓤 (v ≡ shown_val o) (sem 𝓛 (seen_if Z κ o)))
    opened None v = qed 𝓛 (‵ ((Shown Z κ).own_val None (v ∷ [])) ∷ []) ∵ fpick ! (λ us. fsplit ! $ feq_l ! (λ e. fpick ! (λ vss. fsplit ! $ feq_l ! (λ e'.
        check ! (ap only e ∙ ap (λ (ws : List Val). live 0 (of_list ws)) e') $ done !))))
    opened (Some b) v = qed 𝓛 (‵ ((Shown Z κ).own_val (Some b) (v ∷ [])) ∷ []) ∵ fpick ! (λ us.
        fsplit ! $ feq_l ! (λ e. fpick ! (λ vss. fsplit ! $ feq_l ! (λ e'. fsplit ! $ fsplit ! $ feq_l ! (λ e''.
        check ! (ap only e ∙ ap (λ (ws : List Val). live 1 (of_list ws)) (e' ∙ ap (λ (ws : List Val). ws ++ []) e'')) $ keep ! (0 ∷ []) $ done !)))))

    abbrev pub Found : Val → Option (Bor Z.row.Denot) → SProp 𝓤
    Found v o = guard 𝓤 ((v ≡ shown_val o) × Told o) (sep 𝓤 (sem 𝓛 (seen_if Z κ o)) Tokens)

    pub lent_Gives : (v : Val) → ent 𝓤 (Lends.post at_lent v) (H.⇛ (ex 𝓤 (Found v)))
    lent_Gives v = qed 𝓛 (raw (Lends.post at_lent v) ∷ []) ∵ updating ! $
        use1 𝓛 (later (some (λ (o : Option (Bor Z.row.Denot)).
        (raw Tokens ⊛ ‵ ((Shown Z κ).own_val o (v ∷ []))) ⊛ some (λ (ws : Unit {0} × Unit {0}). ‵ (fsep ftrue ftrue) ⊛ given (Told o) (‵ ftrue)))))
        (id⊢ 𝓤 _) $ await ! tt $ pick ! (λ o.
        split ! $ split ! $ move ! (1 ∷ []) $ use1 𝓛 (given (v ≡ shown_val o) (‵ (seen_if Z κ o))) (opened o v) $ learn ! (λ e.
        move ! (2 ∷ []) $ pick ! (λ ws. split ! $ move ! (1 ∷ []) $ learn ! (λ k.
        at_once ! $ show ! (Found v) o $ check ! (e, k) $ keep ! (2 ∷ 3 ∷ []) $ done !))))
